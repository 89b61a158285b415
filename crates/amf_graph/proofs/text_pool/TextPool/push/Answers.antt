-- One text more, which ends where all bytes do.
use Rattle.std.proofs.Common.{◌++◌, ◌∷◌, [], length, refl, ap, ◌∙◌}
use Rattle.amf_graph.proofs.Pieces.{all_ends, pool_pushed, shown_pushed}
use Rattle.amf_graph.proofs.text_pool.TextPool.push.Goals as goal

pub invariant_of-self-2 : goal.invariant_of-self-2
invariant_of-self-2 c =
    pool_pushed c.self.inside.bytes.items c.extend_from_slice.new.self.items c.args.text.now c.self.inside.ends.items c.push_reserved.new.self.items c.reserve.new.self.items c.in_ok-end.field-0.end
    (c.in_ok-extend_from_slice.ensures.items ∙ ap (λ w. w ++ c.args.text.now) c.reserve-2.ensures.items) c.reserve.ensures.items c.push_reserved.ensures.items (all_ends c.self.inside.bytes.items c.extend_from_slice.new.self.items c.args.text.now c.len.result (length c.args.text.now) c.in_ok-end.field-0.end c.in_ok-end.ensures.end (c.len.ensures ∙ c.self.inside.bytes.ok.0) refl (c.in_ok-extend_from_slice.ensures.items ∙ ap (λ w. w ++ c.args.text.now) c.reserve-2.ensures.items)) c.self.invariant

pub returns-clause-ok : goal.returns-clause-ok
returns-clause-ok c =
    shown_pushed c.self.inside.bytes.items c.extend_from_slice.new.self.items c.args.text.now c.self.inside.ends.items c.push_reserved.new.self.items c.reserve.new.self.items c.in_ok-end.field-0.end
    (c.in_ok-extend_from_slice.ensures.items ∙ ap (λ w. w ++ c.args.text.now) c.reserve-2.ensures.items) c.reserve.ensures.items c.push_reserved.ensures.items (all_ends c.self.inside.bytes.items c.extend_from_slice.new.self.items c.args.text.now c.len.result (length c.args.text.now) c.in_ok-end.field-0.end c.in_ok-end.ensures.end (c.len.ensures ∙ c.self.inside.bytes.ok.0) refl (c.in_ok-extend_from_slice.ensures.items ∙ ap (λ w. w ++ c.args.text.now) c.reserve-2.ensures.items)) c.self.invariant
    ∙ ap (λ w. w ++ c.args.text.now ∷ []) c.self.view_is
