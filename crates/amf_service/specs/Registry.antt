-- What a list of services under their names means.
use Rattle.std.specs.Prelude.{◌≡◌, ◌≢◌, ℕ, ◌<◌, Bool, List, map, [], ◌∷◌, slice_get, Some, Result, Ok, Err, bytes_eq, if◌then◌else◌}
use Rattle.amf_graph.specs.Graph.{Graph}
use Rattle.amf_graph.specs.Isomorphic.{Isomorphic}
use Rattle.amf_graph.specs.Rooted.{RootedArena, content}
use Rattle.amf_service.specs.declared.registry.CallEnd.{CallEnd}
use Rattle.amf_service.specs.declared.registry.CallEnd.TheVariants.{NoService, NoOperation, Fault, Memory}
use Rattle.amf_service.specs.Meaning.{Given, result, fault, Meanings, Called, no_service, no_operation, given, asked, IsFault}

pub record Entry : Type 0 where
  pub name : List ℕ
  pub means : Meanings

-- what services mean that are kept under names, by what each knows and gives
abbrev pub services_by : {K S : Type 0} → List (K × S) → (K → List ℕ) → (S → List ℕ → Bool) → (S → List ℕ → Graph → Given) → List Entry
services_by es name knows gives = map (λ e. record { name = name e.0; means = record { knows = knows e.1; gives = gives e.1 } }) es

-- the one entry of that name answers
abbrev pub called : List Entry → List ℕ → List ℕ → Graph → Called
called [] service operation args = no_service
called (e ∷ es) service operation args = if bytes_eq service e.name then asked e.means operation args else called es service operation args

-- a call answers what is meant: some graph that is isomorphic to it, or the very end; only running out of memory is free
abbrev pub AnswersCall : Called → Result RootedArena CallEnd → Type 0
AnswersCall c (Ok graph) = (g : Graph) × (c ≡ given (result g)) × Isomorphic g (content graph)
AnswersCall c (Err NoService) = c ≡ no_service
AnswersCall c (Err NoOperation) = c ≡ no_operation
AnswersCall c (Err (Fault x)) = (c ≡ given (fault x)) × IsFault x
AnswersCall c (Err Memory) = Unit {0}

-- no name stands twice
abbrev pub AreDistinct : List (List ℕ) → Type 0
AreDistinct xs = (j k : ℕ) (x : List ℕ) → slice_get xs j ≡ Some x → slice_get xs k ≡ Some x → j ≡ k

-- the name at the first place whose name stands at an earlier place too
pub record IsFirstRepeated (xs : List (List ℕ)) (x : List ℕ) : Type 0 where
  pub place : ℕ
  pub earlier : ℕ
  pub less : earlier < place
  pub here : slice_get xs place ≡ Some x
  pub there : slice_get xs earlier ≡ Some x
  pub first : (j k : ℕ) (y : List ℕ) → j < k → k < place → slice_get xs j ≡ Some y → slice_get xs k ≢ Some y
