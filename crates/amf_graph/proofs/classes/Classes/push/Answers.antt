-- Traits more: their head, and their names behind the others.
use Rattle.std.proofs.Common.{◌+◌, ◌++◌, ◌∷◌, [], length, refl, sym, ap, ◌∙◌}
use Rattle.std.proofs.lemmas.List.{length_push}
use Rattle.amf_graph.specs.Building.{stored_traits}
use Rattle.amf_graph.specs.ClassHeads.{shown_classes}
use Rattle.amf_graph.specs.TextPool.{pieces}
use Rattle.amf_graph.proofs.Pieces.{all_ends, pool_pushed, shown_pushed, length-pieces}
use Rattle.amf_graph.proofs.ClassRows.{shown_push}
use Rattle.amf_graph.proofs.classes.Classes.push.Goals as goal

pub invariant_of-self-2 : goal.invariant_of-self-2
invariant_of-self-2 c = (
  ap length (c.in_ok-push-2.ensures.items ∙ ap (λ w. w ++ (c.args.class, c.args.dynamic) ∷ []) c.reserve.ensures.items) ∙ length_push c.self.inside.heads.items (c.args.class, c.args.dynamic)
      ∙ ap (λ n. n + 1) c.self.invariant.0 ∙ sym (ap length (c.in_ok-push.ensures.items ∙ ap (λ w. w ++ c.in_ok-end.field-0.end ∷ []) c.reserve-2.ensures.items) ∙ length_push c.self.inside.ends.items c.in_ok-end.field-0.end),
  pool_pushed c.self.inside.sealed.items c.extend_from_slice.new.self.items c.args.sealed.now c.self.inside.ends.items c.push.new.self.items c.reserve-2.new.self.items c.in_ok-end.field-0.end
      c.in_ok-extend_from_slice.ensures.items c.reserve-2.ensures.items c.in_ok-push.ensures.items (all_ends c.self.inside.sealed.items c.extend_from_slice.new.self.items c.args.sealed.now c.len.result (length c.args.sealed.now) c.in_ok-end.field-0.end c.in_ok-end.ensures.end (c.len.ensures ∙ c.self.inside.sealed.ok.0) refl c.in_ok-extend_from_slice.ensures.items) c.self.invariant.1,
)

pub returns-clause-ok : goal.returns-clause-ok
returns-clause-ok c =
    ap (λ w. shown_classes w (pieces c.extend_from_slice.new.self.items 0 c.push.new.self.items)) (c.in_ok-push-2.ensures.items ∙ ap (λ w. w ++ (c.args.class, c.args.dynamic) ∷ []) c.reserve.ensures.items)
    ∙ ap (shown_classes (c.self.inside.heads.items ++ (c.args.class, c.args.dynamic) ∷ []))
    (shown_pushed c.self.inside.sealed.items c.extend_from_slice.new.self.items c.args.sealed.now c.self.inside.ends.items c.push.new.self.items c.reserve-2.new.self.items c.in_ok-end.field-0.end
    c.in_ok-extend_from_slice.ensures.items c.reserve-2.ensures.items c.in_ok-push.ensures.items (all_ends c.self.inside.sealed.items c.extend_from_slice.new.self.items c.args.sealed.now c.len.result (length c.args.sealed.now) c.in_ok-end.field-0.end c.in_ok-end.ensures.end (c.len.ensures ∙ c.self.inside.sealed.ok.0) refl c.in_ok-extend_from_slice.ensures.items) c.self.invariant.1)
    ∙ shown_push c.self.inside.heads.items (pieces c.self.inside.sealed.items 0 c.self.inside.ends.items) (c.args.class, c.args.dynamic) c.args.sealed.now (c.self.invariant.0 ∙ sym (length-pieces c.self.inside.sealed.items 0 c.self.inside.ends.items))
    ∙ ap (λ w. w ++ stored_traits c.args.class c.args.dynamic c.args.sealed.now ∷ []) c.self.view_is
