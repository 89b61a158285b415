-- What a service means: whether it knows an operation, and what it gives for an operation and a graph of arguments.
use Rattle.std.specs.Prelude.{◌≡◌, ℕ, ◌^◌, ◌≤◌, Bool, List, length, Result, Ok, Err, if◌then◌else◌}
use Rattle.amf_wire.specs.Text.{IsText}
use Rattle.amf_graph.specs.Graph.{Graph}
use Rattle.amf_graph.specs.Isomorphic.{Isomorphic}
use Rattle.amf_graph.specs.Reached.{IsWhole}
use Rattle.amf_graph.specs.Rooted.{RootedArena, content}
use Rattle.amf_service.specs.declared.service.ServiceEnd.{ServiceEnd}
use Rattle.amf_service.specs.declared.service.ServiceEnd.TheVariants.{Unknown, Fault, Memory}

-- a graph, of which it says no more than what isomorphic graphs share; or a fault
pub data Given : Type 0 where
  result : (g : Graph) → Given
  fault : (x : List ℕ) → Given

-- a service by its meanings
pub record Meanings : Type 0 where
  pub knows : List ℕ → Bool
  pub gives : List ℕ → Graph → Given

-- the arguments of a call weigh no more
abbrev pub heaviest_arguments : ℕ
heaviest_arguments = 2 ^ 21

-- nor does a result
abbrev pub heaviest_result : ℕ
heaviest_result = 2 ^ 26

-- what a call comes to
pub data Called : Type 0 where
  no_service : Called
  no_operation : Called
  given : (x : Given) → Called

abbrev pub asked : Meanings → List ℕ → Graph → Called
asked m operation args = if m.knows operation then given (m.gives operation args) else no_operation

-- a fault is a text that a packet has room for
abbrev pub IsFault : List ℕ → Type 0
IsFault x = IsText x × (length x ≤ 65535)

-- a service answers what is meant: some graph that is isomorphic to it, or the very fault; only running out of memory is free
abbrev pub Answers : Called → Result RootedArena ServiceEnd → Type 0
Answers c (Ok graph) = (g : Graph) × (c ≡ given (result g)) × Isomorphic g (content graph)
Answers c (Err Unknown) = c ≡ no_operation
Answers c (Err (Fault x)) = (c ≡ given (fault x)) × IsFault x
Answers c (Err Memory) = Unit {0}

-- the fault with this text, or out of memory
abbrev pub FaultsWith : List ℕ → ServiceEnd → Type 0
FaultsWith x Unknown = ⊥
FaultsWith x (Fault y) = y ≡ x
FaultsWith x Memory = Unit {0}

-- isomorphic graphs, or the same fault
abbrev pub GivenMatch : Given → Given → Type 0
GivenMatch (result g) (result h) = Isomorphic g h
GivenMatch (fault x) (fault y) = x ≡ y
GivenMatch _ _ = ⊥

-- the law of services: for isomorphic arguments isomorphic results and equal faults
pub record IsLawful (gives : List ℕ → Graph → Given) : Type 0 where
  pub alike : (operation : List ℕ) (g h : Graph) → IsWhole g → IsWhole h → Isomorphic g h → GivenMatch (gives operation g) (gives operation h)
