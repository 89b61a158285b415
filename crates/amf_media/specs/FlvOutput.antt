-- What `flv` writes for a file.
use Rattle.std.specs.Prelude.{◌≡◌, ℕ, List, [], ◌∷◌, ◌++◌}
use Rattle.flv_meta.specs.File.{File, file_bytes, metadata, dropped, with_metadata}
use Rattle.amf_media.specs.FlvValues.{IsShown}

-- the values that are shown, one after the other
abbrev pub AreShown : List (List ℕ) → List ℕ → Type 0
AreShown [] bytes = bytes ≡ []
AreShown (v ∷ values) bytes = (first : List ℕ) × (more : List ℕ) × IsShown v first × AreShown values more × (bytes ≡ first ++ more)

-- what is to be done; with `set`, the bytes that stand for the value
pub data Work : Type 0 where
  show : Work
  drop : Work
  set : (value : List ℕ) → Work

-- what is written for the file
abbrev pub Makes : Work → File → List ℕ → Type 0
Makes show f bytes = AreShown (metadata f) bytes
Makes drop f bytes = bytes ≡ file_bytes (dropped f)
Makes (set value) f bytes = bytes ≡ file_bytes (with_metadata value f)
