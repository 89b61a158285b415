use Rattle.std.proofs.Common.{◌≡◌, ◌∙◌, ◌++◌, ◌+◌, suc, ap, sym, subst, arith, [], ◌∷◌, take, slice_get, Some}
use Rattle.std.proofs.lemmas.Option.{get_or_from_slice_get, slice_get_within}
use Rattle.std.proofs.Math.Seq.{take-suc}
use Rattle.amf_cli.proofs.arguments.words_of.Goals as goal

pub loop-place-preserved : goal.loop-place-preserved
loop-place-preserved g c = λ told.
    let words = g.A.Arguments.words c.args.arguments.now in
    let place = c.loop-place.place in
    let word = c.in-Some.word in
    let told_word = c.in_ok-word.ensures told in
    let some = c.in-Some.is in
    let is : slice_get words place ≡ Some word = cc in
    let next : suc place ≡ place + 1 = omega arith in
    let more : take (place + 1) words ≡ take place words ++ word ∷ [] =
    subst (λ n. take n words ≡ take place words ++ word ∷ []) next (take-suc words place word (slice_get_within words place word is) ∙ ap (λ x. take place words ++ x ∷ []) (get_or_from_slice_get words place word word is)) in
    c.in_ok-push-in-Some.ensures.items ∙ ap (λ l. l ++ word ∷ []) (c.loop-place.invariant told) ∙ sym more
