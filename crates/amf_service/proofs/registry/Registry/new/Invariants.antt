-- The services so far are the entries so far, no name of which stands twice.
use Rattle.std.proofs.Common.{◌≡◌, ◌++◌, map}
use Rattle.amf_service.specs.Registry.{AreDistinct}
use Rattle.amf_service.proofs.registry.Registry.new.Given as goal

abbrev pub invariant-loop-name : goal.invariant-loop-name
invariant-loop-name g l = record {
  next : (goal.iterator-loop-name g).can_next l.name-iterator;
  finite : (goal.iterator-loop-name g).is_finite l.name-iterator;
  parts : l.yielded ++ l.name-iterator.rest.items ≡ l.fn.entries.items;
  entries : map (λ e. (e.0.items, e.1)) l.services.entries ≡ l.yielded;
  distinct : AreDistinct (map (λ e. e.0) l.yielded);
}
