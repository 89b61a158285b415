-- The hash of traits that a writer's table keeps: by their flag and the codes of their texts. A device of proofs.
use Rattle.std.specs.Prelude.{◌≡◌, ℕ, ◌≤◌, Bool, false, List, [], ◌∷◌, cond, length, map}
use Rattle.std.specs.List.{fold, AllByRecursion}
use Rattle.std.specs.Hash as fed
use Rattle.std.specs.Hash.DefaultHasher.{write, finish}
use Rattle.std.specs.declared.hash.DefaultHasher.{DefaultHasher}
use Rattle.indexmap.specs.IndexMap.{IndexMap}
use Rattle.amf_graph.specs.declared.wrapped.Wrapped.{Wrapped}
use Rattle.amf_graph.specs.declared.wrapped.Wrapped.TheVariants.{ArrayCollection, ArrayList, ObjectProxy}
use Rattle.amf_tables.specs.declared.first_places.TheConstants.{MAX_ENTRIES}
use Rattle.amf_tables.specs.HashedPlaces.{AreFirstPlaces}
use Rattle.amf_tables.specs.WrittenParts.{Written, coded, copied, wrapped, IsNoCopy}

abbrev pub write_code : DefaultHasher → ℕ → DefaultHasher
write_code s k = fold write s (fed.u32 k)

abbrev pub class_number : Wrapped → ℕ
class_number ArrayCollection = 2
class_number ArrayList = 3
class_number ObjectProxy = 4

abbrev pub coded_hash : DefaultHasher → ℕ → Bool → List ℕ → ℕ
coded_hash start class dynamic sealed = finish (fold write_code (write_code (write start (cond dynamic 1 0 ∷ [])) class) sealed)

abbrev pub class_hash : DefaultHasher → Wrapped → ℕ
class_hash start c = finish (write start (class_number c ∷ []))

-- copies are not looked up by it
abbrev pub written_hash : DefaultHasher → Written → ℕ
written_hash start (coded class dynamic sealed) = coded_hash start class dynamic sealed
written_hash start (copied t) = finish start
written_hash start (wrapped c) = class_hash start c

-- what a table of traits keeps: not too many entries, the first place of each hash, and no copies unless it is marked to have some
abbrev pub AreHashed : {S : Type 0} → DefaultHasher → List Written → IndexMap ℕ ℕ S → (has_copies : Bool) → Type 0
AreHashed start entries places has_copies = (length entries ≤ MAX_ENTRIES) × AreFirstPlaces (map (written_hash start) entries) places × (has_copies ≡ false → AllByRecursion IsNoCopy entries)
