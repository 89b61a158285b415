-- Codes of texts: what they name, lists of them, and one text more behind all.
use Rattle.std.specs.Prelude.{◌≡◌, ◌≢◌, ℕ, zero, suc, ◌<◌, List, [], ◌∷◌, ◌++◌, length, map, slice_get, get_or, nat_eq, cond, true, false, Some}
use Rattle.std.specs.List.{AllByRecursion}
use Rattle.std.proofs.Common.{refl, ap, sym, subst, ◌∙◌, arith}
use Rattle.std.proofs.lemmas.Bool.{ne_eqb, eqb-true, eqb-false}
use Rattle.std.proofs.lemmas.List.{map-append}
use Rattle.std.proofs.lemmas.Option.{same_Some, get_or_from_slice_get}
use Rattle.amf_graph.proofs.Alls.{all_append}
use Rattle.amf_graph.proofs.Lists.{cons_same}
use Rattle.amf_graph.specs.Order.{Absent}
use Rattle.amf_tables.specs.FirstPlace.{IsFirstPlace}
use Rattle.amf_tables.specs.TextCodes.{text_of, IsCodeOf, IsCode, IsUncoded, AreCodesOf, HasUncoded}
use Rattle.amf_tables.specs.declared.text_codes.TheConstants.{EMPTY}
use Rattle.amf_tables.proofs.NodePlaces.{first_more}

-- there is one first place
pub first_same : {X : Type 0} (xs : List X) (x : X) (j k : ℕ) → IsFirstPlace xs x j → IsFirstPlace xs x k → j ≡ k
first_same xs x j k a b =
    let p : j < k → ⊥ = λ l. b.1 j l a.0 in
    let q : k < j → ⊥ = λ l. a.1 k l b.0 in
    omega arith

-- What a code names.

pub named : (texts : List (List ℕ)) (x : List ℕ) (k : ℕ) → IsCodeOf texts x k → text_of texts k ≡ x
named texts [] k e = subst (λ w. text_of texts w ≡ []) (sym e) refl
named texts (b ∷ x) k p = ap (λ w. cond w [] (get_or texts k [])) (ne_eqb k EMPTY p.0) ∙ get_or_from_slice_get texts k (b ∷ x) [] p.1.0

pub is_code : (texts : List (List ℕ)) (x : List ℕ) (k : ℕ) → IsCodeOf texts x k → IsCode texts k
is_code texts x k c = subst (λ w. IsCodeOf texts w k) (sym (named texts x k c)) c

pub one_code : (texts : List (List ℕ)) (x : List ℕ) (j k : ℕ) → IsCodeOf texts x j → IsCodeOf texts x k → j ≡ k
one_code texts [] j k c d = c ∙ sym d
one_code texts (b ∷ x) j k c d = first_same texts (b ∷ x) j k c.1 d.1

pub same_code : (texts : List (List ℕ)) (j k : ℕ) → IsCode texts j → IsCode texts k → text_of texts j ≡ text_of texts k → j ≡ k
same_code texts j k c d e = one_code texts (text_of texts k) j k (subst (λ w. IsCodeOf texts w j) e c) d

-- Which texts have a code.

pub no_bytes : (xs : List ℕ) → nat_eq (length xs) 0 ≡ true → xs ≡ []
no_bytes [] e = refl
no_bytes (x ∷ xs) e = let h = eqb-true (length (x ∷ xs)) 0 e in absurd (omega arith)

pub some_bytes : (xs : List ℕ) → nat_eq (length xs) 0 ≡ false → xs ≢ []
some_bytes xs e s = eqb-false (length xs) 0 e (ap length s)

pub empty_coded : (texts : List (List ℕ)) (x : List ℕ) → x ≡ [] → IsCodeOf texts x EMPTY
empty_coded texts x e = subst (λ w. IsCodeOf texts w EMPTY) (sym e) refl

pub place_coded : (texts : List (List ℕ)) (x : List ℕ) (k : ℕ) → x ≢ [] → k ≢ EMPTY → IsFirstPlace texts x k → IsCodeOf texts x k
place_coded texts [] k other there first = absurd (other refl)
place_coded texts (b ∷ x) k other there first = (there, first)

pub absent_uncoded : (texts : List (List ℕ)) (x : List ℕ) → x ≢ [] → Absent texts x → IsUncoded texts x
absent_uncoded texts [] other none k c = other refl
absent_uncoded texts (b ∷ x) other none k c = none k c.1.0

pub last_uncoded : (texts : List (List ℕ)) (x : List ℕ) (k : ℕ) → x ≢ [] → k ≡ EMPTY → IsFirstPlace texts x k → IsUncoded texts x
last_uncoded texts [] k other e first j c = other refl
last_uncoded texts (b ∷ x) k other e first j c = c.0 (first_same texts (b ∷ x) j k c.1 first ∙ e)

-- Lists of codes.

pub no_codes : (texts : List (List ℕ)) → AreCodesOf texts [] []
no_codes texts = record { named = refl; codes = tt }

pub codes_more : (texts xs : List (List ℕ)) (ks : List ℕ) (x : List ℕ) (k : ℕ) → AreCodesOf texts xs ks → IsCodeOf texts x k → AreCodesOf texts (xs ++ x ∷ []) (ks ++ k ∷ [])
codes_more texts xs ks x k h c = record {
  named = map-append (text_of texts) ks (k ∷ []) ∙ ap (λ w. w ++ text_of texts k ∷ []) h.named ∙ ap (λ w. xs ++ w ∷ []) (named texts x k c);
  codes = all_append (IsCode texts) ks (k ∷ []) h.codes (is_code texts x k c, tt);
}

pub same_codes : (texts : List (List ℕ)) (js ks : List ℕ) → AllByRecursion (IsCode texts) js → AllByRecursion (IsCode texts) ks → map (text_of texts) js ≡ map (text_of texts) ks → js ≡ ks
same_codes texts [] [] c d e = refl
same_codes texts [] (k ∷ ks) c d e = cc
same_codes texts (j ∷ js) [] c d e = cc
same_codes texts (j ∷ js) (k ∷ ks) c d e =
    let first = same_code texts j k c.0 d.0 (cons_same e).0 in
    let rest = same_codes texts js ks c.1 d.1 (cons_same e).1 in
    cc

code_at : (texts : List (List ℕ)) (ks : List ℕ) (i : ℕ) (x : List ℕ) → AllByRecursion (IsCode texts) ks → slice_get (map (text_of texts) ks) i ≡ Some x → (k : ℕ) × IsCodeOf texts x k
code_at texts [] i x all e = cc
code_at texts (k ∷ ks) zero x all e = (k, subst (λ w. IsCodeOf texts w k) (same_Some (text_of texts k) x e) all.0)
code_at texts (k ∷ ks) (suc i) x all e = code_at texts ks i x all.1 e

-- where one of the texts has no code, there are no codes of them
pub uncoded_named : (texts : List (List ℕ)) (ks : List ℕ) → AllByRecursion (IsCode texts) ks → HasUncoded texts (map (text_of texts) ks) → ⊥
uncoded_named texts ks all h = let c = code_at texts ks h.0 h.1 all h.2 in h.3 c.0 c.1

-- One text more behind all.

code_of_more : (texts : List (List ℕ)) (z x : List ℕ) (k : ℕ) → IsCodeOf texts x k → IsCodeOf (texts ++ z ∷ []) x k
code_of_more texts z [] k c = c
code_of_more texts z (b ∷ x) k c = (c.0, first_more texts (b ∷ x) z k c.1)

pub text_stays : (texts : List (List ℕ)) (z : List ℕ) (k : ℕ) → IsCode texts k → text_of (texts ++ z ∷ []) k ≡ text_of texts k
text_stays texts z k c = named (texts ++ z ∷ []) (text_of texts k) k (code_of_more texts z (text_of texts k) k c)

pub code_stays : (texts : List (List ℕ)) (z : List ℕ) (k : ℕ) → IsCode texts k → IsCode (texts ++ z ∷ []) k
code_stays texts z k c = is_code (texts ++ z ∷ []) (text_of texts k) k (code_of_more texts z (text_of texts k) k c)

pub texts_stay : (texts : List (List ℕ)) (z : List ℕ) (ks : List ℕ) → AllByRecursion (IsCode texts) ks → map (text_of (texts ++ z ∷ [])) ks ≡ map (text_of texts) ks
texts_stay texts z [] all = refl
texts_stay texts z (k ∷ ks) all =
    let first = text_stays texts z k all.0 in
    let rest = texts_stay texts z ks all.1 in
    cc

pub codes_stay : (texts : List (List ℕ)) (z : List ℕ) (ks : List ℕ) → AllByRecursion (IsCode texts) ks → AllByRecursion (IsCode (texts ++ z ∷ [])) ks
codes_stay texts z [] all = tt
codes_stay texts z (k ∷ ks) all = (code_stays texts z k all.0, codes_stay texts z ks all.1)
