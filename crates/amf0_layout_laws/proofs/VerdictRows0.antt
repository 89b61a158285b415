-- The worked verdicts: each is what reading the input computes to.
use Rattle.std.proofs.Common.{◌≡◌, ℕ, true, false, List, [], ◌∷◌, length, refl, arith, nat_lt}
use Rattle.std.proofs.lemmas.List.{length-take}
use Rattle.amf_io.specs.Outcomes.{Decides, read}
use Rattle.amf_io.proofs.Inputs.{outcome_decides}
use Rattle.amf_graph.specs.Building.{no_arena}
use Rattle.amf3_layout_laws.proofs.VerdictRows.{all_bytes, both_hold, are_bytes, is_short}
use Rattle.amf0_spelling.specs.KeptTables0.{no_kept_tables0}
use Rattle.amf0_spelling.specs.Values0.{IsValue0}
use Rattle.amf0_layout_laws.specs.Layout0State.{State0, state0_of}
use Rattle.amf0_layout_laws.specs.Layout0.{value0_layout}
use Rattle.amf0_layout_laws.specs.WorkedVerdicts0.{Verdicts0}
use Rattle.amf0_layout_laws.proofs.Layout0Format.{values0_is_layout}

abbrev no_state0 : State0
no_state0 = state0_of no_arena no_kept_tables0

-- what reading with fuel 64 answers is the verdict
verdict : (input : List ℕ) → is_short input ≡ true → Decides IsValue0 67108864 input (read 67108864 (value0_layout 64 false no_state0) 0 input)
verdict input e =
    let s = both_hold (length input) 64 (nat_lt (length input) 64) (all_bytes input) refl e in
    let less = s.0 in
    outcome_decides (λ n. value0_layout n false no_state0) IsValue0 values0_is_layout 64 67108864 input (omega (arith, length-take 67108864 input)) (are_bytes input s.1)

pub verdicts0 : Verdicts0
verdicts0 = record {
  unsupported = verdict (0x0D ∷ []) refl;
  movie_clip = verdict (0x04 ∷ []) refl;
  record_set = verdict (0x0E ∷ []) refl;
  no_marker = verdict (0x12 ∷ []) refl;
  end_alone = verdict (0x09 ∷ []) refl;
  end_behind_a_name = verdict (0x03 ∷ 0x00 ∷ 0x01 ∷ 0x61 ∷ 0x09 ∷ []) refl;
  no_pairs = verdict (0x03 ∷ 0x00 ∷ 0x00 ∷ 0x09 ∷ []) refl;
  empty_name = verdict (0x03 ∷ 0x00 ∷ 0x00 ∷ 0x05 ∷ 0x00 ∷ 0x00 ∷ 0x09 ∷ []) refl;
  unchecked_count = verdict (0x08 ∷ 0x00 ∷ 0x00 ∷ 0x00 ∷ 0x05 ∷ 0x00 ∷ 0x00 ∷ 0x09 ∷ []) refl;
  no_node = verdict (0x07 ∷ 0x00 ∷ 0x00 ∷ []) refl;
  no_second = verdict (0x0A ∷ 0x00 ∷ 0x00 ∷ 0x00 ∷ 0x01 ∷ 0x07 ∷ 0x00 ∷ 0x01 ∷ []) refl;
  within = verdict (0x0A ∷ 0x00 ∷ 0x00 ∷ 0x00 ∷ 0x01 ∷ 0x07 ∷ 0x00 ∷ 0x00 ∷ []) refl;
  date_has_no_place = verdict (0x0A ∷ 0x00 ∷ 0x00 ∷ 0x00 ∷ 0x02 ∷ 0x0B ∷ 0 ∷ 0 ∷ 0 ∷ 0 ∷ 0 ∷ 0 ∷ 0 ∷ 0 ∷ 0x00 ∷ 0x00 ∷ 0x07 ∷ 0x00 ∷ 0x01 ∷ []) refl;
  amf3_has_no_place = verdict (0x0A ∷ 0x00 ∷ 0x00 ∷ 0x00 ∷ 0x02 ∷ 0x11 ∷ 0x09 ∷ 0x01 ∷ 0x01 ∷ 0x07 ∷ 0x00 ∷ 0x01 ∷ []) refl;
  switched = verdict (0x11 ∷ 0x04 ∷ 0x05 ∷ []) refl;
  no_marker3 = verdict (0x11 ∷ 0x12 ∷ []) refl;
  shared_tables = verdict (0x0A ∷ 0x00 ∷ 0x00 ∷ 0x00 ∷ 0x02 ∷ 0x11 ∷ 0x09 ∷ 0x01 ∷ 0x01 ∷ 0x11 ∷ 0x09 ∷ 0x00 ∷ []) refl;
  no_second3 = verdict (0x0A ∷ 0x00 ∷ 0x00 ∷ 0x00 ∷ 0x02 ∷ 0x11 ∷ 0x09 ∷ 0x01 ∷ 0x01 ∷ 0x11 ∷ 0x09 ∷ 0x02 ∷ []) refl;
  not_a_text = verdict (0x02 ∷ 0x00 ∷ 0x01 ∷ 0xFF ∷ []) refl;
  cut_text = verdict (0x0C ∷ 0x00 ∷ 0x00 ∷ 0x00 ∷ 0x02 ∷ 0x61 ∷ []) refl;
  no_bytes = verdict [] refl;
  more_follows = verdict (0x05 ∷ 0x05 ∷ []) refl;
}
