use Rattle.std.proofs.Common.{map, ◌∷◌, [], ap, ◌∙◌}
use Rattle.std.proofs.lemmas.List.{map-append}
use Rattle.amf_tables.specs.TableParts.{node_number}
use Rattle.amf_tables.proofs.SpelledNodes.{placed_unsplit, placed_split}
use Rattle.amf_tables.proofs.spelled_nodes.SpelledNodes.push.Goals as goal

pub invariant_of-self-then-not-self : goal.invariant_of-self-then-not-self
invariant_of-self-then-not-self c = placed_unsplit c.self.inside.split c.self.inside.placed c.push.new.self (map node_number c.self.inside.done.items) c.self.inside.marks.items c.args.node.0 c.if-not-self.true c.in_ok-push.ensures.ok c.self.invariant

pub invariant_of-self-in-Ok : goal.invariant_of-self-in-Ok
invariant_of-self-in-Ok c =
    placed_split c.self.inside.split c.self.inside.placed c.push-3.new.self (map node_number c.self.inside.done.items) (map node_number c.push-2.new.self.items) c.self.inside.marks.items c.args.node.0 c.if-not-self.false c.in-Ok.ensures.ok
    (ap (map node_number) c.in_ok-push-2.ensures.items ∙ map-append node_number c.self.inside.done.items (c.args.node ∷ [])) c.self.invariant
