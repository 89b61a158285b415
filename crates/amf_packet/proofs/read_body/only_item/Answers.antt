use Rattle.std.proofs.Common.{sym, ◌∙◌, subst}
use Rattle.amf_graph.specs.declared.value.Value.{Value as Stored}
use Rattle.amf_graph.specs.Arena.{Names}
use Rattle.amf_packet.proofs.CallRoots.{item_named}
use Rattle.amf_packet.proofs.read_body.only_item.Goals as goal

pub rooted_at-requires : goal.rooted_at-requires
rooted_at-requires c = subst (λ (v : Stored). Names c.args.graph.arena v) (sym (c.first_item-item.ensures c.requires.call.0 c.requires.call.1)) (item_named c.args.graph c.requires.call.0 c.requires.call.1 c.is_finished.ensures.finished)

pub returns-clause-root : goal.returns-clause-root
returns-clause-root c = λ item h. c.rooted_at.ensures.root ∙ c.first_item-item.ensures item h
