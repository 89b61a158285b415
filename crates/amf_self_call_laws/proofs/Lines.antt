-- Lines that end in CR LF, and an empty line behind them, are one head.
use Rattle.std.proofs.Common.{◌≡◌, ◌≢◌, ◌∙◌, ℕ, zero, suc, ◌<◌, ◌≤◌, Bool, true, false, List, [], ◌∷◌, ◌++◌, length, take, ap, refl, sym, subst, append_assoc, arith, length-take, length-append}
use Rattle.std.specs.Prelude.{◌==◌, ◌&&◌, not}
use Rattle.std.proofs.lemmas.Bool.{false≢true}
use Rattle.std.proofs.lemmas.Bool.Decides.{nat_tests}
use Rattle.http_link.specs.Sent.{line}
use Rattle.std.specs.List.{AllByRecursion, list_all}
use Rattle.amf_graph.proofs.Lists.{cons_same}
use Rattle.http_link.specs.Head.{blank_line, NoBlankBelow, IsHead}

-- each line with its end, and the empty line
abbrev pub lines_of : List (List ℕ) → List ℕ
lines_of [] = 13 ∷ 10 ∷ []
lines_of (t ∷ ts) = t ++ (13 ∷ 10 ∷ lines_of ts)

-- no CR
abbrev pub is_not_cr : ℕ → Bool
is_not_cr b = not (b == 13)

-- a line that is not empty and has no CR
abbrev pub is_line : List ℕ → Bool
is_line [] = false
is_line (b ∷ x) = list_all is_not_cr (b ∷ x)

abbrev pub AreLines : List (List ℕ) → Type 0
AreLines = AllByRecursion (λ t. is_line t ≡ true)

-- no empty line ends before the end
abbrev Clear : List ℕ → Type 0
Clear xs = NoBlankBelow xs (length xs)

clear_nil : Clear []
clear_nil = record { none = λ k less ends. absurd (omega (arith, less)) }

four_at_least : (xs before : List ℕ) → xs ≡ before ++ blank_line → 4 ≤ length xs
four_at_least xs before e = omega (arith, ap length e, length-append before blank_line)

pub both_true : (a b : Bool) → (a && b) ≡ true → (a ≡ true) × (b ≡ true)
both_true true b e = (refl, e)
both_true false b e = absurd (cc)

-- one byte more, where no empty line begins with it
clear_cons : (b : ℕ) (xs : List ℕ) → take 4 (b ∷ xs) ≢ blank_line → Clear xs → Clear (b ∷ xs)
clear_cons b xs other c = record { none = λ k less ends. at k less ends.before ends.parts }
  where
    inner : (k : ℕ) → k < length xs → (before : List ℕ) → b ∷ take k xs ≡ before ++ blank_line → ⊥
    inner k less [] e =
        let size : length (take k xs) ≡ 3 = ap length (cons_same e).1 in
        let three : k ≡ 3 = omega (arith, size, length-take k xs, less) in
        other (subst (λ n. b ∷ take n xs ≡ blank_line) three e)
    inner k less (c' ∷ before) e = c.none k less (record { before = before; parts = (cons_same e).1 })

    at : (k : ℕ) → k < length (b ∷ xs) → (before : List ℕ) → take k (b ∷ xs) ≡ before ++ blank_line → ⊥
    at zero less before e = absurd (omega (arith, four_at_least [] before e))
    at (suc k) less before e = inner k (omega (arith, less)) before e

is_not : (b : ℕ) → is_not_cr b ≡ true → b ≢ 13
is_not b n e = grind (arith, nat_tests)

no_cr : (b : ℕ) (rest : List ℕ) → is_not_cr b ≡ true → take 4 (b ∷ rest) ≢ blank_line
no_cr b rest n e = is_not b n (cons_same e).0

no_cr_third : (c : ℕ) (rest : List ℕ) → is_not_cr c ≡ true → take 4 (13 ∷ 10 ∷ c ∷ rest) ≢ blank_line
no_cr_third c rest n e = is_not c n (cons_same (cons_same (cons_same e).1).1).0

clear_text : (t rest : List ℕ) → list_all is_not_cr t ≡ true → Clear rest → Clear (t ++ rest)
clear_text [] rest n c = c
clear_text (b ∷ t) rest n c =
    let parts = both_true (is_not_cr b) (list_all is_not_cr t) n in
    clear_cons b (t ++ rest) (no_cr b (t ++ rest) parts.0) (clear_text t rest parts.1 c)

-- a line's end before a byte that is no CR
clear_end : (c : ℕ) (rest : List ℕ) → is_not_cr c ≡ true → Clear (c ∷ rest) → Clear (13 ∷ 10 ∷ c ∷ rest)
clear_end c rest n clear = clear_cons 13 (10 ∷ c ∷ rest) (no_cr_third c rest n) (clear_cons 10 (c ∷ rest) (no_cr 10 (c ∷ rest) refl) clear)

clear_blank : Clear blank_line
clear_blank = record { none = λ k less ends. absurd (omega (arith, less, four_at_least (take k blank_line) ends.before ends.parts, length-take k blank_line)) }

clear_lines : (ts : List (List ℕ)) → AreLines ts → Clear (13 ∷ 10 ∷ lines_of ts)
clear_lines [] a = clear_blank
clear_lines ([] ∷ ts) a = absurd (false≢true a.0)
clear_lines ((b ∷ x) ∷ ts) a =
    let parts = both_true (is_not_cr b) (list_all is_not_cr x) a.0 in
    clear_end b (x ++ (13 ∷ 10 ∷ lines_of ts)) parts.0 (clear_text (b ∷ x) (13 ∷ 10 ∷ lines_of ts) a.0 (clear_lines ts a.1))

ends_lines : (ts : List (List ℕ)) → (before : List ℕ) × (13 ∷ 10 ∷ lines_of ts ≡ before ++ blank_line)
ends_lines [] = ([], refl)
ends_lines (t ∷ ts) =
    let inner = ends_lines ts in
    (13 ∷ 10 ∷ (t ++ inner.0), ap (λ (l : List ℕ). 13 ∷ 10 ∷ l) (ap (λ (l : List ℕ). t ++ l) inner.1 ∙ sym (append_assoc t inner.0 blank_line)))

line_clear : (t : List ℕ) → is_line t ≡ true → list_all is_not_cr t ≡ true
line_clear [] e = absurd (false≢true e)
line_clear (b ∷ x) e = e

pub lines_head : (t : List ℕ) (ts : List (List ℕ)) → AreLines (t ∷ ts) → length (lines_of (t ∷ ts)) ≤ 8192 → IsHead (lines_of (t ∷ ts))
lines_head t ts a fits =
    let inner = ends_lines ts in
    record {
      ends = record { before = t ++ inner.0; parts = ap (λ (l : List ℕ). t ++ l) inner.1 ∙ sym (append_assoc t inner.0 blank_line) };
      first = clear_text t (13 ∷ 10 ∷ lines_of ts) (line_clear t a.0) (clear_lines ts a.1);
      within = fits;
    }

-- a line, and what follows it
pub line_then : (t rest : List ℕ) → line t ++ rest ≡ t ++ (13 ∷ 10 ∷ rest)
line_then t rest = append_assoc t (13 ∷ 10 ∷ []) rest
