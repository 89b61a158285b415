-- The value of `set` as it is read: its tag, or how it ends there. A device of the proofs.
use Rattle.std.specs.Prelude.{◌≡◌, ℕ, List, ◌++◌, length, Result, Ok, Err}
use Rattle.flv_meta.specs.File.{tag_bytes, metadata_tag}
use Rattle.amf_media.specs.declared.ending.MediaEnd.{MediaEnd}
use Rattle.amf_media.specs.declared.ending.MediaEnd.TheVariants.{Done, WriteFault}
use Rattle.amf_media.specs.FlvValues.{IsValueThere, ValueEnds}

pub record IsStarted (start input rest : List ℕ) (place : ℕ) : Type 0 where
  pub value : List ℕ
  pub front : List ℕ
  pub there : IsValueThere value front
  pub parts : input ≡ front ++ rest
  pub place_is : place ≡ length front
  pub is : start ≡ tag_bytes (metadata_tag value)

-- where view tells the bytes of what was made
abbrev pub MakesStart : {X : Type 0} → (X → List ℕ) → List ℕ → List ℕ → ℕ → Result X MediaEnd → Type 0
MakesStart view input rest place (Ok start) = IsStarted (view start) input rest place
MakesStart view input rest place (Err e) = ValueEnds input rest e

-- reading the value ends by no other end
abbrev pub IsStartEnd : {X : Type 0} → Result X MediaEnd → Type 0
IsStartEnd (Ok start) = Unit {0}
IsStartEnd (Err Done) = ⊥
IsStartEnd (Err WriteFault) = ⊥
IsStartEnd (Err _) = Unit {0}
