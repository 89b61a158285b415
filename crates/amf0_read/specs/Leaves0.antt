-- Steps of the layouts that the reader makes by themselves. A device by which verdicts are proved.
use Rattle.std.specs.Prelude.{ℕ, List, length, get_or}
use Rattle.std.specs.Int.{from_be_bytes, w16, w32, w64}
use Rattle.amf_io.specs.Field.{raw_kind, u32_kind, no_refusal}
use Rattle.amf_io.specs.Layout.{Layout, give, want}
use Rattle.amf0_spelling.specs.Refusals0.{index0_kind}

-- a place of the table
abbrev pub place_layout : List ℕ → Layout ℕ
place_layout nodes = want (index0_kind (length nodes)) (λ b. give (get_or nodes (from_be_bytes w16 b) 0))

-- a time, and a zone
abbrev pub time_layout : Layout ℕ
time_layout = want (raw_kind 8) (λ b. want (raw_kind 2) (λ zone. give (from_be_bytes w64 b)))

-- a count
abbrev pub count_layout : Layout ℕ
count_layout = want (u32_kind no_refusal) (λ b. give (from_be_bytes w32 b))
