-- Messages that are not refused are those that can be written.
use Rattle.std.proofs.Common.{◌≡◌, ℕ, zero, suc, ◌<◌, Bool, true, false, cond, eqb, leb, length, Some, None, refl, ap, ◌∙◌, arith, eq-eqb, eqb-true}
use Rattle.std.specs.Prelude.{◌&&◌, ◌||◌, not, nat_le, nat_lt, ◌==◌}
use Rattle.std.proofs.lemmas.Bool.{leb-false, ltb-false, le-ltb, ne_eqb}
use Rattle.amf_io.specs.Field.{AreBytes}
use Rattle.rtmp_chunks.specs.declared.chunker.ChunkEnd.TheVariants.{BadId, LongData, BadSize}
use Rattle.rtmp_chunks.specs.Chunk.{Message, number_of}
use Rattle.rtmp_chunks.specs.Push.{IsPushed, sets_no_size, refusal_of}

none_of : (a b c : Bool) → cond a (Some BadId) (cond b (Some LongData) (cond c (Some BadSize) None)) ≡ None → (a ≡ false) × (b ≡ false) × (c ≡ false)
none_of true b c e = absurd cc
none_of false true c e = absurd cc
none_of false false true e = absurd cc
none_of false false false e = (refl, refl, refl)

neither : (a b : Bool) → (a || b) ≡ false → (a ≡ false) × (b ≡ false)
neither true b e = absurd cc
neither false b e = (refl, e)

unless : (a b : Bool) → (a && b) ≡ false → a ≡ true → b ≡ false
unless true b e f = e
unless false b e f = absurd cc

is_so : (a : Bool) → not a ≡ false → a ≡ true
is_so true e = refl
is_so false e = absurd cc

some_number : (n : ℕ) → eqb n 0 ≡ false → 0 < n
some_number zero e = absurd cc
some_number (suc n) e = omega arith

pub none_pushed : (m : Message) → refusal_of m ≡ None → m.type < 256 → m.stream < 4294967296 → m.time < 4294967296 → AreBytes m.bytes → IsPushed m
none_pushed m e t s c b =
    let n = none_of (nat_lt m.id 2 || nat_lt 65599 m.id) (nat_lt 16777215 (length m.bytes)) (sets_no_size m) e in
    let i = neither (nat_lt m.id 2) (nat_lt 65599 m.id) n.0 in
    record {
      least = ltb-false m.id 2 i.0;
      most = ltb-false 65599 m.id i.1;
      short = ltb-false 16777215 (length m.bytes) n.1;
      type = t;
      stream = s;
      time = c;
      bytes = b;
      four = λ one. (of_size one).0;
      number = λ one. (of_size one).1;
    }
  where
    of_size : m.type ≡ 1 → (length m.bytes ≡ 4) × ((0 < number_of m.bytes) × (number_of m.bytes < 2147483648))
    of_size one =
        let n = none_of (nat_lt m.id 2 || nat_lt 65599 m.id) (nat_lt 16777215 (length m.bytes)) (sets_no_size m) e in
        let u = unless (m.type == 1) (not (length m.bytes == 4) || ((number_of m.bytes == 0) || nat_le 2147483648 (number_of m.bytes))) n.2 (eq-eqb m.type 1 one) in
        let v = neither (not (length m.bytes == 4)) ((number_of m.bytes == 0) || nat_le 2147483648 (number_of m.bytes)) u in
        let w = neither (number_of m.bytes == 0) (nat_le 2147483648 (number_of m.bytes)) v.1 in
        (eqb-true (length m.bytes) 4 (is_so (length m.bytes == 4) v.0), (some_number (number_of m.bytes) w.0, leb-false 2147483648 (number_of m.bytes) w.1))

lt_leb : (a b : ℕ) → a < b → leb b a ≡ false
lt_leb a b lt = grind (arith, lt)

-- and they alone
pub pushed_none : (m : Message) → IsPushed m → refusal_of m ≡ None
pushed_none m p =
    ap (λ t. cond (t || nat_lt 65599 m.id) (Some BadId) (cond (nat_lt 16777215 (length m.bytes)) (Some LongData) (cond (sets_no_size m) (Some BadSize) None))) (le-ltb m.id 2 p.least)
    ∙ ap (λ t. cond t (Some BadId) (cond (nat_lt 16777215 (length m.bytes)) (Some LongData) (cond (sets_no_size m) (Some BadSize) None))) (le-ltb 65599 m.id p.most)
    ∙ ap (λ t. cond t (Some LongData) (cond (sets_no_size m) (Some BadSize) None)) (le-ltb 16777215 (length m.bytes) p.short)
    ∙ ap (λ t. cond t (Some BadSize) None) (size (m.type == 1) refl)
  where
    size : (t : Bool) → (m.type == 1) ≡ t → (t && (not (length m.bytes == 4) || ((number_of m.bytes == 0) || nat_le 2147483648 (number_of m.bytes)))) ≡ false
    size false e = refl
    size true e =
        let one = eqb-true m.type 1 e in
        let n = p.number one in
        ap (λ t. not t || ((number_of m.bytes == 0) || nat_le 2147483648 (number_of m.bytes))) (eq-eqb (length m.bytes) 4 (p.four one))
        ∙ ap (λ t. t || nat_le 2147483648 (number_of m.bytes)) (ne_eqb (number_of m.bytes) 0 (λ z. absurd (omega (arith, n.0, z))))
        ∙ lt_leb (number_of m.bytes) 2147483648 n.1
