-- The parts of a tag's bytes.
use Rattle.std.proofs.Common.{◌≡◌, ℕ, ◌+◌, ◌-◌, ◌≤◌, ◌<◌, Bool, true, false, ◌&&◌, eqb, leb, List, ◌∷◌, ◌++◌, length, get_or, take, drop, refl, sym, ap, ◌∙◌, arith, append_assoc, length-append}
use Rattle.std.specs.Prelude.{bytes_eq}
use Rattle.std.proofs.lemmas.Bool.{leb-true, leb-false}
use Rattle.std.proofs.lemmas.List.{take_at, drop_at, length-take, length-drop, take_all}
use Rattle.std.proofs.lemmas.Slice.Eq.{bytes_eq-Decides}
use Rattle.flv_meta.specs.File.{Tag, IsTag, tag_bytes, metadata_name, is_metadata, value_bytes}

-- the bytes before the data
abbrev before : Tag → List ℕ
before t = t.kind ∷ (t.size ++ (t.time ++ t.stream))

split : (t : Tag) → tag_bytes t ≡ before t ++ (t.body ++ t.number)
split t = ap (λ l. t.kind ∷ l) (regroup t.size t.time t.stream (t.body ++ t.number))
  where
    regroup : (a b c d : List ℕ) → a ++ (b ++ (c ++ d)) ≡ (a ++ (b ++ c)) ++ d
    regroup a b c d = sym (append_assoc a (b ++ c) d ∙ ap (λ l. a ++ l) (append_assoc b c d))

before_length : (t : Tag) → IsTag t → length (before t) ≡ 11
before_length t h = let a = h.size in let b = h.time in let c = h.stream in omega (arith, length-append t.size (t.time ++ t.stream), length-append t.time t.stream)

pub long : (t : Tag) → IsTag t → (bytes : List ℕ) → bytes ≡ tag_bytes t → length bytes ≡ 15 + length t.body
long t h bytes e =
    let n = before_length t h in
    let m = h.number in
    omega (arith, ap length (e ∙ split t), length-append (before t) (t.body ++ t.number), length-append t.body t.number)

pub data_is : (t : Tag) → IsTag t → (bytes : List ℕ) → bytes ≡ tag_bytes t → (n : ℕ) → n ≡ length t.body → take n (drop 11 bytes) ≡ t.body
data_is t h bytes e n m =
    ap (λ l. take n (drop 11 l)) (e ∙ split t) ∙ ap (take n) (drop_at (before t) (t.body ++ t.number) 11 (before_length t h)) ∙ take_at t.body t.number n (sym m)

both_false : (a b : Bool) → b ≡ false → (a && b) ≡ false
both_false true b e = e
both_false false b e = refl

-- data that are too short, another type, and another name

pub too_short : (t : Tag) → length t.body < 13 → is_metadata t ≡ false
too_short t lt = both_false (eqb t.kind 18) (bytes_eq (take 13 t.body) metadata_name) (by (bytes_eq (take 13 t.body) metadata_name) refl)
  where
    by : (b : Bool) → bytes_eq (take 13 t.body) metadata_name ≡ b → b ≡ false
    by true e = let same = ap length ((bytes_eq-Decides (take 13 t.body) metadata_name).0 e) in absurd (omega (arith, length-take 13 t.body))
    by false e = refl

pub other_kind : (t : Tag) (bytes : List ℕ) → bytes ≡ tag_bytes t → (get_or bytes 0 0 ≡ 18 → ⊥) → is_metadata t ≡ false
other_kind t bytes e never = by (eqb t.kind 18) refl
  where
    by : (b : Bool) → eqb t.kind 18 ≡ b → (b && bytes_eq (take 13 t.body) metadata_name) ≡ false
    by true f = absurd (never (ap (λ l. get_or l 0 0) e ∙ kind_is t.kind f))
      where
        kind_is : (k : ℕ) → eqb k 18 ≡ true → k ≡ 18
        kind_is k f = grind arith
    by false f = refl

pub other_name : (t : Tag) (found : List ℕ) → found ≡ t.body → bytes_eq (take 13 found) metadata_name ≡ false → is_metadata t ≡ false
other_name t found e never = both_false (eqb t.kind 18) (bytes_eq (take 13 t.body) metadata_name) (ap (λ l. bytes_eq (take 13 l) metadata_name) (sym e) ∙ never)

pub named : (t : Tag) (bytes found : List ℕ) → bytes ≡ tag_bytes t → found ≡ t.body → get_or bytes 0 0 ≡ 18 → bytes_eq (take 13 found) metadata_name ≡ true → is_metadata t ≡ true
named t bytes found e d k n =
    let kind : t.kind ≡ 18 = ap (λ l. get_or l 0 0) (sym e) ∙ k in
    ap (λ i. eqb i 18 && bytes_eq (take 13 t.body) metadata_name) kind ∙ (ap (λ l. bytes_eq (take 13 l) metadata_name) (sym d) ∙ n)

pub value_is : (t : Tag) (found : List ℕ) (n : ℕ) → found ≡ t.body → n ≡ length found - 13 → take n (drop 13 found) ≡ value_bytes t
value_is t found n e m = take_all n (drop 13 found) (omega (arith, m, length-drop 13 found)) ∙ ap (drop 13) e

-- a metadata tag has the whole name
pub has_name : (t : Tag) → is_metadata t ≡ true → 13 ≤ length t.body
has_name t e = by (leb 13 (length t.body)) refl
  where
    by : (b : Bool) → leb 13 (length t.body) ≡ b → 13 ≤ length t.body
    by true f = leb-true 13 (length t.body) f
    by false f = let lt = leb-false 13 (length t.body) f in let clash : true ≡ false = sym e ∙ too_short t (omega arith) in absurd cc

-- the value of a metadata tag is short, and each place in it stands within the tag
pub value_length : (t : Tag) → is_metadata t ≡ true → length (value_bytes t) + 13 ≡ length t.body
value_length t e = let n = has_name t e in omega (arith, length-drop 13 t.body)
