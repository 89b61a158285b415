-- All are below the count.
use Rattle.std.proofs.Common.{◌<◌, sym, ap, subst}
use Rattle.std.specs.List.{AllByRecursion}
use Rattle.amf_graph.specs.Gather.{Placed}
use Rattle.amf_graph.proofs.number_set.NumberSet.of.Goals as goal

pub add_all-requires : goal.add_all-requires
add_all-requires c = subst (λ n. AllByRecursion (λ i. i < n) c.args.items.now) (sym (ap (λ (p : Placed). p.count) c.in_ok-numbers.ensures)) c.requires.below
