-- A round by its three calls: what `write_call` writes, the gateway answers, and `read_result` reads, as their contracts say it.
use Rattle.std.specs.Prelude.{◌≡◌, ℕ, ◌<◌, ◌^◌, List, ◌++◌, length, Result as Returned, Ok, Err, ⊤}
use Rattle.amf_graph.specs.Graph.{Graph}
use Rattle.amf_graph.specs.Isomorphic.{Isomorphic}
use Rattle.amf_graph.specs.Rooted.{RootedArena, content}
use Rattle.amf_service.specs.Registry.{Entry}
use Rattle.amf_client.specs.declared.ends.AnswerFault.{AnswerFault}
use Rattle.amf_client.specs.declared.ends.AnswerFault.TheVariants.{Fault, BadReply, ReadFault, Memory}
use Rattle.amf_client.specs.Answers.{Answers}
use Rattle.amf_client.specs.Asking.{IsAsk}
use Rattle.amf_client.specs.Outcomes.{Outcome, bad, fault, result}
use Rattle.amf_answer_plan.specs.Links.{LinkEnd}
use Rattle.amf_answer_plan.specs.RespondLaws.{AreLawful}
use Rattle.amf_answer_plan.specs.Serving.{LinkBytes, Taken, ended, Serves}
use Rattle.amf_self_call_laws.specs.Round.{ComesBack, IsCall}

-- the bytes of a call; what the gateway did for a link that has them left, to the end of the link; and what is answered where those that it wrote are read
pub record Exchange (services : List Entry) (target : List ℕ) (args : Graph) : Type 0 where
  pub port : ℕ
  pub low : port < 2 ^ 16
  pub asked : List ℕ
  pub ask : IsAsk port target args asked
  pub asked_fits : length asked < 2 ^ 64
  pub link : LinkBytes
  pub has_left : link.left ≡ asked
  pub taken : Taken
  pub end : LinkEnd
  pub serves : Serves services link taken (ended end)
  pub wrote : List ℕ
  pub holds : link.now ≡ link.held ++ wrote
  pub wrote_fits : length wrote < 2 ^ 64
  pub kept : List ℕ
  pub left : List ℕ
  pub reads : kept ++ left ≡ wrote
  pub keeps : List ℕ
  pub leaves : List ℕ
  pub answer : Returned RootedArena AnswerFault
  pub answers : Answers kept left keeps leaves answer

-- An answer of `read_result` tells what came back: a graph up to the numbers of its nodes, the very fault, or the very number.
-- It tells nothing where a read failed or memory ran out.
abbrev pub Tells : Outcome Graph → Returned RootedArena AnswerFault → Type 0
Tells (result g) (Ok h) = Isomorphic g (content h)
Tells (fault code text) (Err (Fault c t)) = (code ≡ c) × (text ≡ t)
Tells (bad number) (Err (BadReply n)) = number ≡ n
Tells _ (Err ReadFault) = ⊤
Tells _ (Err Memory) = ⊤
Tells _ _ = ⊥

-- what is read tells what comes back of the call
abbrev pub ExchangeHolds : Type 0
ExchangeHolds =
    (services : List Entry) → AreLawful services → (target : List ℕ) (args : Graph) → IsCall target args → (x : Exchange services target args) →
    (o : Outcome Graph) × ComesBack services target args x.ask.packet o × Tells o x.answer
