-- Canonical bytes decide which shared object it is, and a shared object has one listing.
use Rattle.std.specs.Prelude.{◌≡◌, ℕ, ◌↔◌, List}
use Rattle.amf_wire.specs.Style.{free, canonical}
use Rattle.amf_graph.specs.declared.lack.LackKind.{LackKind}
use Rattle.amf_sol.specs.FileLacks.{IsFileLack}
use Rattle.amf_sol.specs.SharedObject.{Shared, HasHolder, SpelledFile}
use Rattle.amf_listings.specs.FileListing.{IsFileListing}
use Rattle.amf_listings.specs.SameFile.{SameFile, IsLoweredFile, IsAlikeFile}

pub record FileLaws : Type 0 where
  -- two shared objects that the same bytes spell are the same
  pub same_bytes : (o k : Shared) (b : List ℕ) → SpelledFile free o b → SpelledFile free k b → SameFile o k
  -- no shared object has two canonical spellings, and what has one has a holder
  pub alone : (o : Shared) (b c : List ℕ) → SpelledFile canonical o b → SpelledFile canonical o c → b ≡ c
  pub holder : (o : Shared) (b : List ℕ) → SpelledFile canonical o b → HasHolder o.holder
  -- canonical bytes are so for exactly the shared objects that are the same once they are lowered
  pub every : (o fit : Shared) (b : List ℕ) → SpelledFile canonical o b → IsLoweredFile o fit → (q : Shared) → IsAlikeFile q fit ↔ SpelledFile canonical q b
  -- they spell the lowering
  pub forget : (o low : Shared) (b : List ℕ) → SpelledFile canonical o b → IsLoweredFile o low → SpelledFile free low b
  -- which has the same canonical bytes and the same lack, where it is its own lowering
  pub lowered_spelling : (o low : Shared) (b : List ℕ) → IsLoweredFile o low → IsLoweredFile low low → SpelledFile canonical o b → SpelledFile canonical low b
  pub lowered_lack : (o low : Shared) → IsLoweredFile o low → IsLoweredFile low low → (number : ℕ) (kind : LackKind) → IsFileLack o number kind → IsFileLack low number kind
  -- the lowerings of the same shared object are the same
  pub lowered_alike : (o k low other : Shared) → SameFile o k → IsLoweredFile o low → IsLoweredFile k other → SameFile low other
  -- what is spelled lacks nothing, and the same shared objects, lowered, have the same lack
  pub not_both : (o : Shared) (b : List ℕ) (number : ℕ) (kind : LackKind) → SpelledFile canonical o b → IsFileLack o number kind → ⊥
  pub lacks_alike : (low other : Shared) → SameFile low other → IsLoweredFile low low → IsLoweredFile other other → (number : ℕ) (kind : LackKind) → IsFileLack low number kind → IsFileLack other number kind
  -- a shared object has one listing, and the same ones have the same
  pub one_listing : (o : Shared) (b c : List ℕ) → IsFileListing o b → IsFileListing o c → b ≡ c
  pub same_listing : (o k : Shared) (b : List ℕ) → SameFile o k → IsFileListing o b → IsFileListing k b
