-- The worked verdicts: each is what reading the input computes to.
use Rattle.std.proofs.Common.{◌≡◌, ℕ, ◌<◌, Bool, true, false, cond, List, [], ◌∷◌, length, refl, arith, nat_lt, replicate}
use Rattle.std.proofs.lemmas.List.{length-take}
use Rattle.amf_io.specs.Field.{AreBytes}
use Rattle.amf_io.specs.Outcomes.{Decides, read}
use Rattle.amf_io.proofs.Inputs.{outcome_decides}
use Rattle.amf3_spelling.specs.Values3.{IsValue3}
use Rattle.amf3_layout_laws.specs.Layout3State.{no_state}
use Rattle.amf3_layout_laws.specs.Layout3.{value_layout}
use Rattle.amf3_layout_laws.specs.WorkedVerdicts3.{Verdicts}
use Rattle.amf3_layout_laws.proofs.Values3Layout.{values3_is_layout}

abbrev pub all_bytes : List ℕ → Bool
all_bytes [] = true
all_bytes (b ∷ numbers) = cond (nat_lt b 256) (all_bytes numbers) false

pub both_hold : (n bound : ℕ) (test rest : Bool) → nat_lt n bound ≡ test → cond test rest false ≡ true → (n < bound) × (rest ≡ true)
both_hold n bound true rest h e = (grind arith, e)
both_hold n bound false rest h e = absurd cc

pub are_bytes : (numbers : List ℕ) → all_bytes numbers ≡ true → AreBytes numbers
are_bytes [] e = tt
are_bytes (b ∷ numbers) e =
    let s = both_hold b 256 (nat_lt b 256) (all_bytes numbers) refl e in
    (s.0, are_bytes numbers s.1)

-- fewer than 64 bytes
abbrev pub is_short : List ℕ → Bool
is_short input = cond (nat_lt (length input) 64) (all_bytes input) false

-- what reading with fuel 64 answers is the verdict
verdict : (input : List ℕ) → is_short input ≡ true → Decides IsValue3 67108864 input (read 67108864 (value_layout 64 no_state) 0 input)
verdict input e =
    let s = both_hold (length input) 64 (nat_lt (length input) 64) (all_bytes input) refl e in
    let less = s.0 in
    outcome_decides (λ n. value_layout n no_state) IsValue3 values3_is_layout 64 67108864 input (omega (arith, length-take 67108864 input)) (are_bytes input s.1)

pub verdicts : Verdicts
verdicts = record {
  a_null = verdict (0x01 ∷ []) refl;
  empty_text = verdict (0x06 ∷ 0x01 ∷ []) refl;
  longer_header = verdict (0x06 ∷ 0x80 ∷ 0x01 ∷ []) refl;
  one_entry = verdict (0x11 ∷ 0x03 ∷ 0x00 ∷ 0x01 ∷ 0x02 ∷ []) refl;
  more_follows = verdict (0x01 ∷ 0x01 ∷ []) refl;
  no_bytes = verdict [] refl;
  no_marker = verdict (0x12 ∷ []) refl;
  no_node = verdict (0x09 ∷ 0x00 ∷ []) refl;
  no_traits = verdict (0x0A ∷ 0x01 ∷ []) refl;
  no_text = verdict (0x06 ∷ 0x02 ∷ []) refl;
  cut_text = verdict (0x06 ∷ 0x07 ∷ 0x66 ∷ []) refl;
  not_a_text = verdict (0x06 ∷ 0x03 ∷ 0xFF ∷ []) refl;
  no_value = verdict (0x0A ∷ 0x13 ∷ 0x03 ∷ 0x43 ∷ 0x03 ∷ 0x61 ∷ []) refl;
  within = verdict (0x09 ∷ 0x03 ∷ 0x01 ∷ 0x09 ∷ 0x00 ∷ []) refl;
  no_second = verdict (0x09 ∷ 0x03 ∷ 0x01 ∷ 0x09 ∷ 0x02 ∷ []) refl;
  other_kind = verdict (0x09 ∷ 0x03 ∷ 0x01 ∷ 0x0A ∷ 0x00 ∷ []) refl;
  short_class = verdict (0x0A ∷ 0x07 ∷ 0x07 ∷ 0x66 ∷ 0x6F ∷ 0x6F ∷ []) refl;
  other_class = verdict (0x0A ∷ 0x07 ∷ 0x37 ∷ replicate 27 0x61) refl;
  no_text_class = verdict (0x0A ∷ 0x07 ∷ 0x37 ∷ replicate 27 0xFF) refl;
  nested = verdict (0x09 ∷ 0x03 ∷ 0x01 ∷ 0x09 ∷ 0x01 ∷ 0x01 ∷ []) refl;
  cut_date = verdict (0x09 ∷ 0x03 ∷ 0x01 ∷ 0x08 ∷ 0x01 ∷ []) refl;
}
