-- Shared object files are a format that repeats a step.
use Rattle.std.proofs.Common.{ℕ, List, refl}
use Rattle.amf_io.specs.Field.{Field}
use Rattle.amf_io.specs.Layout.{IsLayout}
use Rattle.amf_sol.specs.SharedObject.{IsFileReading}
use Rattle.amf_sol.specs.FileLayout.{head_layout, pair_layout, HasPairs}
use Rattle.amf_io.specs.Repeated.{after_head, IsRepeated, AnyNumber}
use Rattle.amf_sol.proofs.FileAble.{file_able, file_grows, file_takes}
use Rattle.amf_sol.proofs.FileFound.{file_found}
use Rattle.amf_sol.proofs.FileSound.{file_sound}

pub file_layouts : (m : ℕ) → IsLayout (λ n. after_head head_layout (pair_layout n) m) (HasPairs m)
file_layouts m = record {
  sound = λ n fs z bytes r. file_sound m n fs z bytes r;
  complete = λ n fs p lt. file_found m n fs p lt;
  grows = λ n k le. file_grows n k le m;
  able = λ n. file_able n m;
}

pub files_repeat : IsRepeated (λ n. head_layout) pair_layout HasPairs
files_repeat = record { layouts = file_layouts; takes = file_takes }

-- a file has some number of pairs
pub some_pairs : (fs : List Field) → IsFileReading fs → AnyNumber HasPairs fs
some_pairs fs (o, s) = (_, (o, s, refl))

pub any_pairs : (fs : List Field) → AnyNumber HasPairs fs → IsFileReading fs
any_pairs fs (m, (o, s, e)) = (o, s)
