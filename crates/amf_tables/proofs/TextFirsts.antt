-- The first places of contents, by their numbers: one text more, whose content is new or is there.
use Rattle.std.proofs.Common.{◌≡◌, ℕ, ◌+◌, ◌<◌, ◌≤◌, Bool, true, false, List, [], ◌∷◌, ◌++◌, length, slice_get, get_or, Some, refl, ap, sym, ◌∙◌, subst, inl, inr, arith}
use Rattle.std.specs.Prelude.{if◌then◌else◌, bytes_eq}
use Rattle.std.specs.List.{list_any}
use Rattle.std.proofs.lemmas.List.{length_push}
use Rattle.std.proofs.lemmas.List.Sums.{fold-append}
use Rattle.std.proofs.lemmas.Option.{slice_get_within, slice_get_read}
use Rattle.amf_graph.specs.Order.{Absent}
use Rattle.amf_graph.specs.TextNumbers.{with_content, contents_of}
use Rattle.amf_graph.proofs.Contents.{content_there, content_new, text_in_contents}
use Rattle.amf_graph.proofs.Lists.{at_push}
use Rattle.amf_tables.specs.FirstPlace.{IsFirstPlace}
use Rattle.amf_tables.specs.TextFirsts.{AreTextFirsts}
use Rattle.amf_tables.specs.declared.first_places.TheConstants.{MAX_ENTRIES}
use Rattle.amf_tables.proofs.NodePlaces.{first_more, first_new}

-- what is no content is no text
pub absent_by_contents : (texts : List (List ℕ)) (x : List ℕ) → Absent (contents_of texts) x → Absent texts x
absent_by_contents texts x none k e = let there = text_in_contents texts k x e in none there.0 there.1

-- the first place of a content is that of a text
pub number_within : (texts : List (List ℕ)) (firsts : List ℕ) (n : ℕ) (x : List ℕ) → AreTextFirsts texts firsts → slice_get (contents_of texts) n ≡ Some x → n < length firsts
number_within texts firsts n x h e = let within = slice_get_within (contents_of texts) n x e in let many = h.each in omega (arith, within, many)

pub first_read : (texts : List (List ℕ)) (firsts : List ℕ) (n k : ℕ) (x : List ℕ) → AreTextFirsts texts firsts → slice_get (contents_of texts) n ≡ Some x → k ≡ get_or firsts n k → IsFirstPlace texts x k
first_read texts firsts n k x h e is = h.first n k x e (slice_get_read firsts (length firsts) n k refl (number_within texts firsts n x h e) is)

-- One content more, or none, by how many there are.

grown : (b : Bool) (cs : List (List ℕ)) (x : List ℕ) → length cs < length (if b then cs else cs ++ x ∷ []) → (if b then cs else cs ++ x ∷ []) ≡ cs ++ x ∷ []
grown true cs x more = absurd (omega arith)
grown false cs x more = refl

kept : (b : Bool) (cs : List (List ℕ)) (x : List ℕ) → length (if b then cs else cs ++ x ∷ []) ≤ length cs → (if b then cs else cs ++ x ∷ []) ≡ cs
kept true cs x same = refl
kept false cs x same = absurd (omega (arith, length_push cs x))

contents_pushed : (texts : List (List ℕ)) (x : List ℕ) → contents_of (texts ++ x ∷ []) ≡ with_content (contents_of texts) x
contents_pushed texts x = fold-append with_content [] texts (x ∷ [])

-- a content is new where one more is there
content_grown : (texts : List (List ℕ)) (x : List ℕ) → length (contents_of texts) < length (contents_of (texts ++ x ∷ [])) → contents_of (texts ++ x ∷ []) ≡ contents_of texts ++ x ∷ []
content_grown texts x more =
    let cs = contents_of texts in
    contents_pushed texts x ∙ grown (list_any (λ y. bytes_eq y x) cs) cs x (subst (λ w. length cs < length w) (contents_pushed texts x) more)

content_kept : (texts : List (List ℕ)) (x : List ℕ) → length (contents_of (texts ++ x ∷ [])) ≤ length (contents_of texts) → contents_of (texts ++ x ∷ []) ≡ contents_of texts
content_kept texts x same =
    let cs = contents_of texts in
    contents_pushed texts x ∙ kept (list_any (λ y. bytes_eq y x) cs) cs x (subst (λ w. length w ≤ length cs) (contents_pushed texts x) same)

-- and then no text has it
text_new : (texts : List (List ℕ)) (x : List ℕ) → length (contents_of texts) < length (contents_of (texts ++ x ∷ [])) → Absent texts x
text_new texts x more k e =
    let there = text_in_contents texts k x e in
    let same = ap length (contents_pushed texts x ∙ content_there (contents_of texts) x there.0 there.1) in
    absurd (omega (arith, more, same))

-- Texts, one more.

first_of_new : (texts : List (List ℕ)) (firsts : List ℕ) (x : List ℕ) → AreTextFirsts texts firsts → Absent texts x → (n k : ℕ) (y : List ℕ) → slice_get (contents_of texts ++ x ∷ []) n ≡ Some y → slice_get (firsts ++ length texts ∷ []) n ≡ Some k → IsFirstPlace (texts ++ x ∷ []) y k
first_of_new texts firsts x h new n k y e f =
    let many = h.each in
    elim (at_push (contents_of texts) x n y e) [
      | inl p ↦
          elim (at_push firsts (length texts) n k f) [
            | inl q ↦ first_more texts y x k (h.first n k y p q)
            | inr q ↦ let within = slice_get_within (contents_of texts) n y p in let at = q.0 in absurd (omega (arith, many, within, at))
          ]
      | inr p ↦
          elim (at_push firsts (length texts) n k f) [
            | inl q ↦ let within = slice_get_within firsts n k q in let at = p.0 in absurd (omega (arith, many, within, at))
            | inr q ↦ subst (λ w. IsFirstPlace (texts ++ x ∷ []) y w) q.1 (subst (λ w. IsFirstPlace (texts ++ x ∷ []) w (length texts)) p.1 (first_new texts x new))
          ]
    ]

-- its content is new
firsts_new : (texts : List (List ℕ)) (firsts : List ℕ) (x : List ℕ) → AreTextFirsts texts firsts → length texts < MAX_ENTRIES → length firsts < length (contents_of (texts ++ x ∷ [])) → AreTextFirsts (texts ++ x ∷ []) (firsts ++ length texts ∷ [])
firsts_new texts firsts x h room more =
    let many = h.each in
    let grows : length (contents_of texts) < length (contents_of (texts ++ x ∷ [])) = omega (arith, many, more) in
    let is = content_grown texts x grows in
    record {
      few = omega (arith, length_push texts x, room);
      each = length_push firsts (length texts) ∙ ap (λ n. n + 1) many ∙ sym (length_push (contents_of texts) x) ∙ ap length (sym is);
      first = λ n k y e f. first_of_new texts firsts x h (text_new texts x grows) n k y (sym (ap (λ w. slice_get w n) is) ∙ e) f;
    }

-- its content is there
firsts_kept : (texts : List (List ℕ)) (firsts : List ℕ) (x : List ℕ) → AreTextFirsts texts firsts → length texts < MAX_ENTRIES → length (contents_of (texts ++ x ∷ [])) ≤ length firsts → AreTextFirsts (texts ++ x ∷ []) firsts
firsts_kept texts firsts x h room same =
    let many = h.each in
    let is = content_kept texts x (omega (arith, many, same)) in
    record {
      few = omega (arith, length_push texts x, room);
      each = many ∙ ap length (sym is);
      first = λ n k y e f. first_more texts y x k (h.first n k y (sym (ap (λ w. slice_get w n) is) ∙ e) f);
    }

-- The same, by the fields that calls leave.

pub pushed_new : (texts texts' : List (List ℕ)) (firsts firsts' : List ℕ) (x : List ℕ) (place : ℕ) → texts' ≡ texts ++ x ∷ [] → place ≡ length texts → place < MAX_ENTRIES → firsts' ≡ firsts ++ place ∷ [] → length firsts < length (contents_of texts') → AreTextFirsts texts firsts → AreTextFirsts texts' firsts'
pushed_new texts texts' firsts firsts' x place is at room noted more h =
    subst (λ w. AreTextFirsts w firsts') (sym is)
    (subst (λ w. AreTextFirsts (texts ++ x ∷ []) w) (sym (noted ∙ ap (λ n. firsts ++ n ∷ []) at))
    (firsts_new texts firsts x h (omega arith) (subst (λ w. length firsts < length (contents_of w)) is more)))

pub pushed_kept : (texts texts' : List (List ℕ)) (firsts firsts' : List ℕ) (x : List ℕ) → texts' ≡ texts ++ x ∷ [] → length texts < MAX_ENTRIES → firsts' ≡ firsts → length (contents_of texts') ≤ length firsts → AreTextFirsts texts firsts → AreTextFirsts texts' firsts'
pushed_kept texts texts' firsts firsts' x is room noted same h =
    subst (λ w. AreTextFirsts w firsts') (sym is)
    (subst (λ w. AreTextFirsts (texts ++ x ∷ []) w) (sym noted)
    (firsts_kept texts firsts x h room (subst (λ w. length (contents_of w) ≤ length firsts) is same)))

pub pushed_absent : (texts texts' : List (List ℕ)) (firsts firsts' : List ℕ) (x : List ℕ) (place : ℕ) → texts' ≡ texts ++ x ∷ [] → place ≡ length texts → place < MAX_ENTRIES → firsts' ≡ firsts ++ place ∷ [] → Absent (contents_of texts) x → AreTextFirsts texts firsts → AreTextFirsts texts' firsts'
pushed_absent texts texts' firsts firsts' x place is at room noted none h =
    let many = h.each in
    let grows = ap length (ap contents_of is ∙ contents_pushed texts x ∙ content_new (contents_of texts) x none) ∙ length_push (contents_of texts) x in
    pushed_new texts texts' firsts firsts' x place is at room noted (omega (arith, many, grows)) h
