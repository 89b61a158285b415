-- Where a target is parted.
use Rattle.std.proofs.Math.Seq.{drop-append_seam}
use Rattle.std.proofs.lemmas.List.{take_all, take_more, length-drop}
use Rattle.std.proofs.Common.{◌≡◌, ◌∙◌, ℕ, ◌+◌, ◌-◌, ◌<◌, get_or, take, arith, true, false, List, [], ◌∷◌, ◌++◌, Some, None, refl, sym, ap, length, drop, append_assoc, append-nil}
use Rattle.std.specs.Prelude.{◌==◌, if◌then◌else◌}
use Rattle.amf_answer_plan.specs.PlainCalls.{behind, at_last_dot}

-- no byte is a dot
abbrev pub NoDot : List ℕ → Type 0
NoDot [] = Unit {0}
NoDot (b ∷ x) = ((b == 46) ≡ false) × NoDot x

-- the bytes begin with this front, and no dot stands behind it
pub record Parts (front bytes : List ℕ) : Type 0 where
  pub back : List ℕ
  pub none : NoDot back
  pub is : bytes ≡ front ++ back

pub all_parts : (bytes : List ℕ) → Parts bytes bytes
all_parts bytes = record { back = []; none = tt; is = simp append-nil }

no_dot : (x : List ℕ) → NoDot x → at_last_dot x ≡ None
no_dot [] n = refl
no_dot (b ∷ x) n = ap (behind b x) (no_dot x n.1) ∙ ap (λ t. if t then Some (record { service = []; operation = x }) else None) n.0

dot_behind : (x y : List ℕ) (d : ℕ) → (d == 46) ≡ true → NoDot y → at_last_dot (x ++ (d ∷ y)) ≡ Some (record { service = x; operation = y })
dot_behind [] y d is n = ap (behind d y) (no_dot y n) ∙ ap (λ t. if t then Some (record { service = []; operation = y }) else None) is
dot_behind (b ∷ x) y d is n = ap (behind b (x ++ (d ∷ y))) (dot_behind x y d is n)

-- the last byte of a list and those before it
last_part : (xs : List ℕ) → 0 < length xs → xs ≡ take (length xs - 1) xs ++ (get_or xs (length xs - 1) 0 ∷ [])
last_part xs some =
    let n : length xs - 1 + 1 ≡ length xs = omega arith in
    sym (take_all (length xs) xs (omega arith)) ∙ ap (λ k. take k xs) (sym n) ∙ take_more xs (length xs - 1) 0 (omega arith)

-- where the front is nothing, there is no dot
pub parted_none : (front bytes : List ℕ) → Parts front bytes → length front < 1 → at_last_dot bytes ≡ None
parted_none [] bytes p e = ap at_last_dot p.is ∙ no_dot p.back p.none
parted_none (b ∷ front) bytes p e = absurd (omega (arith, e))

-- where it ends in a dot, that is the last
pub parted_some : (front bytes : List ℕ) → Parts front bytes → 0 < length front → get_or front (length front - 1) 0 ≡ 46 → at_last_dot bytes ≡ Some (record { service = take (length front - 1) front; operation = take (length bytes - length front) (drop (length front) bytes) })
parted_some front bytes p some is =
    let more = take (length front - 1) front in
    let d = get_or front (length front - 1) 0 in
    let after : drop (length front) bytes ≡ p.back = ap (drop (length front)) p.is ∙ drop-append_seam front p.back in
    let all : bytes ≡ more ++ (d ∷ p.back) = p.is ∙ ap (λ f. f ++ p.back) (last_part front some) ∙ append_assoc more (d ∷ []) p.back in
    let whole : take (length bytes - length front) (drop (length front) bytes) ≡ p.back = take_all (length bytes - length front) (drop (length front) bytes) (omega (arith, length-drop (length front) bytes)) ∙ after in
    ap at_last_dot all ∙ dot_behind more p.back d (ap (λ b. b == 46) is) p.none ∙ ap (λ y. Some (record { service = more; operation = y })) (sym whole)

-- and where it ends in another byte, that is one of those behind
pub parts_less : (front bytes : List ℕ) → Parts front bytes → 0 < length front → (get_or front (length front - 1) 0 == 46) ≡ false → Parts (take (length front - 1) front) bytes
parts_less front bytes p some is = record {
  back = get_or front (length front - 1) 0 ∷ p.back;
  none = (is, p.none);
  is = p.is ∙ ap (λ f. f ++ p.back) (last_part front some) ∙ append_assoc (take (length front - 1) front) (get_or front (length front - 1) 0 ∷ []) p.back;
}
