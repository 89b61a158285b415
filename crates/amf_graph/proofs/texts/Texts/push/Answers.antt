-- One text more, by the number of its content.
use Rattle.std.proofs.Common.{◌++◌, ◌∷◌, [], ap, ◌∙◌}
use Rattle.amf_graph.proofs.Contents.{kept_pushed, shown_pushed}
use Rattle.amf_graph.proofs.texts.Texts.push.Goals as goal

pub invariant_of-self-2 : goal.invariant_of-self-2
invariant_of-self-2 c =
    kept_pushed c.self.inside.keys c.self.inside.contents c.number_for.new.contents c.self.inside.chains c.number_for.new.chains c.self.inside.numbers.items c.push_reserved.new.self.items c.args.bytes.now c.in_ok-number.number
    c.in_ok-number.ensures.ok c.in_ok-number.ensures.number c.in_ok-number.ensures.hashes (c.push_reserved.ensures.items ∙ ap (λ w. w ++ c.in_ok-number.number ∷ []) c.reserve.ensures.items) c.self.invariant

pub returns-clause-ok : goal.returns-clause-ok
returns-clause-ok c =
    shown_pushed c.self.inside.keys c.self.inside.contents c.number_for.new.contents c.self.inside.chains c.self.inside.numbers.items c.push_reserved.new.self.items c.args.bytes.now c.in_ok-number.number
    c.in_ok-number.ensures.ok c.in_ok-number.ensures.number (c.push_reserved.ensures.items ∙ ap (λ w. w ++ c.in_ok-number.number ∷ []) c.reserve.ensures.items) c.self.invariant
    ∙ ap (λ w. w ++ c.args.bytes.now ∷ []) c.self.view_is
