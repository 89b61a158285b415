use Rattle.std.proofs.Common.{length, ap, sym, ◌∙◌}
use Rattle.amf_graph.specs.declared.value.TraitsId.{TraitsId}
use Rattle.amf_graph.specs.Arena.{traits_at}
use Rattle.amf_show.specs.ByLister.{object_by}
use Rattle.amf_show.proofs.Held.{written_as}
use Rattle.amf_show.proofs.lister.Lister.push_object.Goals as goal

pub push_known-requires-clause-each : goal.push_known-requires-clause-each
push_known-requires-clause-each c = c.requires.each ∙ ap (λ (t : TraitsId). length (traits_at c.args.self.now.graph.now.arena t.0).sealed) (sym c.in-Some.ensures.traits)

pub returns-in-Some : goal.returns-in-Some
returns-in-Some c = written_as c.push_known.result c.args.out.now.items c.push_known.new.out.items _ _ (ap (λ (t : TraitsId). object_by c.args.self.now t.0 c.args.members.now c.args.sealed.now) c.in-Some.ensures.traits) c.push_known.ensures
