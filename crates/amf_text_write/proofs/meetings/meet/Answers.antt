use Rattle.std.proofs.Common.{◌≡◌, ◌<◌, ◌∷◌, ◌++◌, [], length, set, slice_get, Some, sym, refl, subst, arith}
use Rattle.std.proofs.lemmas.Option.{slice_get_within, slice_get-get_or}
use Rattle.amf_graph.specs.Arena.{value_content}
use Rattle.amf_text_write.specs.Counts.{AreCounts}
use Rattle.amf_text_write.proofs.Counting.{node_counted, absent_counted, value_counted}
use Rattle.amf_text_write.proofs.meetings.meet.Goals as goal

pub slice_copy_out-again : goal.slice_copy_out-again
slice_copy_out-again c = let w = slice_get_within c.args.numbering.now c.in-Some.number c.in-Node.node.0 c.in-Some.ensures.number in omega (arith, w, c.requires)

pub bounds-counts-place : goal.bounds-counts-place
bounds-counts-place c = let w = slice_get_within c.args.numbering.now c.in-Some.number c.in-Node.node.0 c.in-Some.ensures.number in omega (arith, w, c.requires)

pub returns-in-Some : goal.returns-in-Some
returns-in-Some c = λ a before h.
    let n = c.in-Node.node.0 in
    let p = c.in-Some.number in
    let cs = c.args.counts.now in
    let order = c.args.numbering.now in
    let at : slice_get order p ≡ Some n = c.in-Some.ensures.number in
    let within : p < length cs = let w = slice_get_within order p n at in omega (arith, w, c.requires) in
    subst (λ v. AreCounts order (before ++ value_content a v ∷ []) (set cs p c.again.result)) (sym c.in-Node.is)
    (node_counted order before cs p n _ c.again.result at (λ k e. c.in-Some.ensures.alone p k refl e) (slice_get-get_or cs p _ within) c.again.ensures h)

pub returns-in_default-number_of : goal.returns-in_default-number_of
returns-in_default-number_of c = λ a before h.
    subst (λ v. AreCounts c.args.numbering.now (before ++ value_content a v ∷ []) c.args.counts.now) (sym c.in-Node.is)
    (absent_counted c.args.numbering.now before c.args.counts.now c.in-Node.node.0 c.in_default-number_of.ensures.number h)

pub returns-in_default : goal.returns-in_default
returns-in_default c = λ a before h. value_counted a c.args.value c.args.numbering.now before c.args.counts.now c.in_default.not-Node h
