use Rattle.std.proofs.Common.{◌≡◌, ◌+◌, ◌≤◌, ◌++◌, ◌∷◌, [], ap, sym, ◌∙◌, subst, cond, length, arith}
use Rattle.amf_graph.specs.Arena.{StoredTraits, traits_content}
use Rattle.amf_graph.specs.Building.{stored_traits}
use Rattle.amf_graph.specs.ByName.{by_name}
use Rattle.amf_graph.specs.Graph.{object}
use Rattle.amf_graph.specs.Rooted.{content}
use Rattle.amf3_spelling.specs.Tables.{plain}
use Rattle.amf3_spelling.specs.ByteSpelling.{step, traits, values_then, pairs_then, segments_of}
use Rattle.amf_iso.specs.Contents.{pairs_of, values_of}
use Rattle.amf_iso.specs.Remembered.{AreInOrder}
use Rattle.amf3_write.specs.Unwritten.{AreRunsOf, segments_left, turns_left}
use Rattle.amf3_write.specs.Writes.{Leads, WritesStep}
use Rattle.amf3_write.proofs.Leading.{leads_to, leads_step}
use Rattle.amf3_write.proofs.Runs.{values_before}
use Rattle.amf3_write.proofs.output.Output.object.Goals as goal
use Rattle.amf3_write.proofs.output.Output.object.Goals.{then-class+in_ok-push_pairs, else-class}

pub returns-clause-leads : goal.returns-clause-leads
returns-clause-leads c =
    let g = content c.args.graph.now in
    let a = c.args.graph.now.arena in
    let v = c.traits-class.result in
    let t = traits_content a (stored_traits v.class v.dynamic v.sealed.now) in
    let ws = by_name (pairs_of a c.args.members.now) in
    let vs = values_of a c.args.sealed.now in
    let old = segments_left a c.args.waiting.now.items in
    let members = cond v.dynamic (pairs_then ws []) [] in
    let mid : segments_left a c.if-class.waiting.items ≡ members ++ old =
    elim c.if-class.branch [
      | then-class+in_ok-push_pairs w ↦ ap (λ z. segments_left a z.items) w.waiting-is ∙ w.in_ok-push_pairs.ensures.left ∙ ap (λ d. cond d (pairs_then ws []) [] ++ old) (sym w.if-class.true)
      | else-class w ↦ ap (λ z. segments_left a z.items) w.waiting-is ∙ ap (λ d. cond d (pairs_then ws []) [] ++ old) (sym w.if-class.false)
    ] in
    let now = segments_left a c.push_values.new.waiting.items in
    let left = c.in_ok-push_values.ensures.left a in
    subst (λ (x : StoredTraits). Leads g (segments_of (object (traits_content a x)) ws vs ++ old) now c.args.self.now c.traits.new.self) (sym c.traits-class.ensures)
    (leads_to g (step (traits (plain t)) ∷ (values_then vs members ++ old)) (values_then vs members ++ old) now c.args.self.now c.traits.new.self (values_before vs members old (segments_left a c.if-class.waiting.items) now mid left)
    (leads_step g (traits (plain t)) (values_then vs members ++ old) c.args.self.now c.traits.new.self
    (subst (λ (x : StoredTraits). WritesStep (traits (plain (traits_content a x))) c.args.self.now c.traits.new.self) c.traits-class.ensures c.in_ok-traits.ensures.ok)))

pub returns-clause-turns : goal.returns-clause-turns
returns-clause-turns c =
    let mid : turns_left c.if-class.waiting.items ≤ turns_left c.args.waiting.now.items + (length c.args.members.now + 1) =
    elim c.if-class.branch [
      | then-class+in_ok-push_pairs w ↦ omega (arith, ap (λ z. turns_left z.items) w.waiting-is, w.in_ok-push_pairs.ensures.turns)
      | else-class w ↦ omega (arith, ap (λ z. turns_left z.items) w.waiting-is)
    ] in
    omega (arith, c.in_ok-push_values.ensures.turns, mid)

pub returns-clause-runs : goal.returns-clause-runs
returns-clause-runs c =
    let a = c.args.graph.now.arena in
    let mid : AreRunsOf a c.if-class.waiting.items =
    elim c.if-class.branch [
      | then-class+in_ok-push_pairs w ↦ subst (λ z. AreRunsOf a z.items) (sym w.waiting-is) (w.in_ok-push_pairs.ensures.runs c.requires.runs)
      | else-class w ↦ subst (λ z. AreRunsOf a z.items) (sym w.waiting-is) c.requires.runs
    ] in
    c.in_ok-push_values.ensures.runs a c.requires.values mid

pub returns-clause-order : goal.returns-clause-order
returns-clause-order c =
    let a = c.args.graph.now.arena in
    elim c.if-class.branch [
      | then-class+in_ok-push_pairs w ↦ subst (λ z. AreInOrder a z) (sym w.order-is) w.push_pairs.ensures.order
      | else-class w ↦ subst (λ z. AreInOrder a z) (sym w.order-is) c.requires.order
    ]
