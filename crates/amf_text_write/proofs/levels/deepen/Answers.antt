use Rattle.std.proofs.Common.{◌≡◌, ◌<◌, length, slice_get, Some, refl, ap, ◌∙◌, inl, inr, arith}
use Rattle.std.proofs.lemmas.Option.{slice_get_within, slice_get-get_or, get_or_from_slice_get}
use Rattle.amf_graph.specs.Arena.{value_content}
use Rattle.amf_text_write.specs.declared.meetings.Meetings.TheVariants.{One}
use Rattle.amf_text_write.proofs.LevelSteps.{not_once, absent_once, value_once}
use Rattle.amf_text_write.proofs.levels.deepen.Goals as goal

pub bounds : goal.bounds
bounds c = let w = slice_get_within c.args.numbering.now c.in-Some.number c.in-Node.node.0 c.in-Some.ensures.number in omega (arith, w, c.requires.counts)

pub bounds-levels-number : goal.bounds-levels-number
bounds-levels-number c = let w = slice_get_within c.args.numbering.now c.in-Some.number c.in-Node.node.0 c.in-Some.ensures.number in omega (arith, w, c.requires.levels)

pub returns-in-One : goal.returns-in-One
returns-in-One c = λ a.
    let order = c.args.numbering.now in
    let cs = c.args.counts.now in
    let p = c.in-Some.number in
    let n = c.in-Node.node.0 in
    let at : slice_get order p ≡ Some n = c.in-Some.ensures.number in
    let within : p < length cs = let w = slice_get_within order p n at in omega (arith, w, c.requires.counts) in
    inl (p, (n, ap (value_content a) c.in-Node.is, at, slice_get-get_or cs p _ within ∙ ap (λ w. Some w) c.in-One.is), refl)

pub returns-in_default-counts : goal.returns-in_default-counts
returns-in_default-counts c = λ a.
    let cs = c.args.counts.now in
    let p = c.in-Some.number in
    inr (not_once c.args.numbering.now cs (value_content a c.args.value) c.in-Node.node.0 p (ap (value_content a) c.in-Node.is) (λ k e. c.in-Some.ensures.alone p k refl e) (λ e. c.in_default-counts.not-One (get_or_from_slice_get cs p One _ e)), refl)

pub returns-in_default-number_of : goal.returns-in_default-number_of
returns-in_default-number_of c = λ a.
    inr (absent_once c.args.numbering.now c.args.counts.now (value_content a c.args.value) c.in-Node.node.0 (ap (value_content a) c.in-Node.is) c.in_default-number_of.ensures.number, refl)

pub returns-in_default : goal.returns-in_default
returns-in_default c = λ a. inr (value_once a c.args.value c.args.numbering.now c.args.counts.now c.in_default.not-Node, refl)
