-- What a call comes to that is made over memory, from the calling end to our own gateway and back.
use Rattle.std.specs.Prelude.{◌≡◌, ◌≢◌, ℕ, ◌<◌, ◌^◌, true, length, List, Result as Returned, Ok, Err, ⊤}
use Rattle.amf_wire.specs.Text.{IsText}
use Rattle.amf_graph.specs.declared.lack.Lack.{Lack}
use Rattle.amf_graph.specs.Graph.{Graph}
use Rattle.amf_graph.specs.Isomorphic.{Isomorphic}
use Rattle.amf_graph.specs.Rooted.{RootedArena, content}
use Rattle.amf3_spelling.specs.Lacks3.{IsLack3}
use Rattle.amf_service.specs.Registry.{Entry}
use Rattle.amf_client.specs.Asking.{IsAsk, are_arguments}
use Rattle.amf_client.specs.Outcomes.{Outcome, bad, fault, result}
use Rattle.amf_answer_plan.specs.Packets.{null_uri}
use Rattle.amf_self_call_laws.specs.Round.{ComesBack}
use Rattle.amf_self_call.specs.declared.ends.RoundEnd.{RoundEnd}
use Rattle.amf_self_call.specs.declared.ends.RoundEnd.TheVariants.{Fault, BadReply, Memory}

-- a target: a text that a packet has room for, and not that of a Flex request
pub record IsTarget (target : List ℕ) : Type 0 where
  pub text : IsText target
  pub short : length target < 2 ^ 16
  pub other : target ≢ null_uri

-- what may be called with what: a target, and an array without names and without a lack
pub record MayCall (target : List ℕ) (args : Graph) : Type 0 where
  pub is_target : IsTarget target
  pub unnamed : are_arguments args ≡ true
  pub formed : (l : Lack) → IsLack3 args l.node l.kind → ⊥

-- an answer is this outcome: a graph up to the numbers of its nodes, the very fault, or the very number
abbrev pub Tells : Outcome Graph → Returned RootedArena RoundEnd → Type 0
Tells (result g) (Ok h) = Isomorphic g (content h)
Tells (fault code text) (Err (Fault c t)) = (code ≡ c) × (text ≡ t)
Tells (bad number) (Err (BadReply n)) = number ≡ n
Tells _ _ = ⊥

-- it is what comes back of the call for port 80
pub record IsBack (services : List Entry) (target : List ℕ) (args : Graph) (answer : Returned RootedArena RoundEnd) : Type 0 where
  pub asked : List ℕ
  pub ask : IsAsk 80 target args asked
  pub outcome : Outcome Graph
  pub comes : ComesBack services target args ask.packet outcome
  pub tells : Tells outcome answer

-- so is each answer but that memory ran out
abbrev pub Answers : List Entry → List ℕ → Graph → Returned RootedArena RoundEnd → Type 0
Answers services target args (Ok h) = IsBack services target args (Ok h)
Answers services target args (Err (Fault code text)) = IsBack services target args (Err (Fault code text))
Answers services target args (Err (BadReply number)) = IsBack services target args (Err (BadReply number))
Answers services target args (Err Memory) = ⊤
