-- Logs that are looked up by the hashes of their topics. A device of proofs.
use Rattle.std.specs.Prelude.{◌≡◌, ℕ, ◌<◌, Bool, List, ◌∷◌, [], length, slice_set, slice_index_or, is_some, nat_eq}
use Rattle.std.specs.List.{list_all}
use Rattle.std.specs.Hash.DefaultHasher.{write, finish}
use Rattle.std.specs.declared.hash.DefaultHasher.{DefaultHasher}
use Rattle.indexmap.specs.IndexMap.{IndexMap, get}
use Rattle.amf_broker.specs.declared.topic.Topic.{Topic}
use Rattle.amf_broker.specs.Lines.{Span}
use Rattle.amf_broker.specs.Members.{Line}
use Rattle.amf_broker.specs.Trims.{IsTrimmed}

-- the hash of a topic, by the keys of the hasher that it begins with
unfoldable pub topic_hash : DefaultHasher → Topic → ℕ
topic_hash start t = finish (write (write (write start t.destination) (255 ∷ [])) t.subtopic)

-- some place is noted under the hash
abbrev pub is_noted : {S : Type 0} → IndexMap ℕ ℕ S → ℕ → Bool
is_noted m h = is_some (get nat_eq m h)

-- some place is noted for each line
abbrev pub are_noted : {S : Type 0} → DefaultHasher → IndexMap ℕ ℕ S → List Line → Bool
are_noted start m ls = list_all (λ l. is_noted m (topic_hash start l.topic)) ls

-- one line of these is without messages that nobody waits for
pub record IsTrimmedAt (us : List Span) (at : ℕ) (old new : List Line) : Type 0 where
  pub within : at < length old
  pub was : Line
  pub line : Line
  pub trimmed : IsTrimmed us (slice_index_or old at was) line
  pub is : new ≡ slice_set old at line
