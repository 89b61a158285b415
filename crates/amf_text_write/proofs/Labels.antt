-- Numbers of nodes, and their labels.
use Rattle.std.proofs.Common.{◌≡◌, ℕ, zero, suc, ◌-◌, ◌<◌, ◌≤◌, Bool, false, List, [], ◌∷◌, ◌++◌, length, map, replicate, get_or, slice_get, Some, eqb, refl, sym, ap, ap₂, ◌∙◌, arith, eq-eqb}
use Rattle.std.specs.List.{repeat}
use Rattle.std.specs.Prelude.{decimal}
use Rattle.std.proofs.lemmas.Bool.{ne_eqb}
use Rattle.std.proofs.lemmas.List.Sums.{position_or_len_is}
use Rattle.std.proofs.lemmas.Option.{slice_get_within, slice_get-get_or, get_or_from_slice_get}
use Rattle.amf_graph.specs.Renumbered.{place_of}
use Rattle.amf_text.specs.Told as told
use Rattle.amf_text_write.specs.Ways.{IsWayOf}
use Rattle.amf_text_write.specs.declared.way.Way.{Way}

-- the only place of a number is its first
pub only_place : (order : List ℕ) (k i : ℕ) → slice_get order k ≡ Some i → ((j : ℕ) → slice_get order j ≡ Some i → j ≡ k) → place_of order i ≡ k
only_place order k i e alone =
    position_or_len_is (λ n. eqb n i) order k 0 (let within = slice_get_within order k i e in omega arith) (λ j l. ne_eqb (get_or order j 0) i (earlier j l)) (λ l. eq-eqb (get_or order k 0) i (get_or_from_slice_get order k i 0 e))
  where
    earlier : (j : ℕ) → j < k → get_or order j 0 ≡ i → ⊥
    earlier j l f =
        let within : k < length order = slice_get_within order k i e in
        let same : j ≡ k = alone j (slice_get-get_or order j 0 (omega arith) ∙ ap (λ w. Some w) f) in
        omega arith

-- by number, the mark of a node
pub mark_found : (ms : List Bool) (i : ℕ) (m : Bool) → i < length ms → m ≡ get_or ms i m → m ≡ get_or ms i false
mark_found [] i m l e = absurd (omega (arith, l))
mark_found (x ∷ ms) zero m l e = e
mark_found (x ∷ ms) (suc i) m l e = mark_found ms i m (omega (arith, l)) e

pub mark_past : (ms : List Bool) (i : ℕ) → length ms ≤ i → false ≡ get_or ms i false
mark_past [] i l = refl
mark_past (x ∷ ms) zero l = absurd (omega (arith, l))
mark_past (x ∷ ms) (suc i) l = mark_past ms i (omega (arith, l))

pub in_table_by : (c : Way) (w : told.Way) (i number : ℕ) (mark : Bool) → IsWayOf c w → number ≡ place_of c.numbering.now i → mark ≡ get_or c.marks.now number false → mark ≡ told.in_table w i
in_table_by c w i number mark is e m = m ∙ ap (λ k. get_or c.marks.now k false) (e ∙ ap (λ o. place_of o i) (sym is.order)) ∙ sym (is.marks i)

repeat_one : (n x : ℕ) → repeat n (x ∷ []) ≡ replicate n x
repeat_one zero x = refl
repeat_one (suc n) x = ap (λ l. x ∷ l) (repeat_one n x)

-- the number in decimal digits, behind as many zeros as are wanted
pub label_is : (c : Way) (w : told.Way) (i : ℕ) (number : ℕ) (digits zeros label : List ℕ) (n : ℕ) → IsWayOf c w → number ≡ place_of c.numbering.now i → digits ≡ decimal number
    → n ≡ c.width - length digits → zeros ≡ repeat n (0x30 ∷ []) → label ≡ zeros ++ digits → label ≡ told.label_of w i
label_is c w i number digits zeros label n is e d m z l =
    let same : digits ≡ told.place_in w i = d ∙ ap decimal e ∙ ap (λ order. decimal (place_of order i)) (sym is.order) in
    let many : n ≡ told.longest (map (told.place_in w) w.table) - length (told.place_in w i) = m ∙ ap₂ (λ a b. a - length b) (sym is.width) same in
    l ∙ ap₂ (λ a b. a ++ b) (z ∙ repeat_one n 0x30 ∙ ap (λ k. replicate k 0x30) many) same
