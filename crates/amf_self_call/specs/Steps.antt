-- What the steps of a round come to.
use Rattle.std.specs.Prelude.{◌≡◌, ℕ, ◌<◌, ◌^◌, Bool, true, false, length, List, [], Result as Returned, Ok, Err}
use Rattle.amf_graph.specs.Rooted.{RootedArena}
use Rattle.amf_service.specs.Registry.{Entry}
use Rattle.amf_client.specs.declared.ends.AnswerFault.{AnswerFault}
use Rattle.amf_client.specs.declared.ends.AnswerFault.TheVariants as fault
use Rattle.amf_client.specs.Answers as client
use Rattle.amf_answer_plan.specs.Links.{LinkEnd, link}
use Rattle.amf_answer_plan.specs.Serving.{ServeEnd, ended, Taken, Serves}
use Rattle.amf_self_call_laws.specs.Quiet.{IsQuiet}
use Rattle.amf_self_call.specs.declared.ends.RoundEnd.{RoundEnd}
use Rattle.amf_self_call.specs.declared.ends.RoundEnd.TheVariants.{Fault, BadReply, Memory}

-- the plan for these bytes asks nothing of the desk
pub record AsksNothing (services : List Entry) (call : List ℕ) : Type 0 where
  pub quiet : IsQuiet (link services call)

-- the link was answered to its end
abbrev pub is_ended : ServeEnd → Bool
is_ended (ended end) = true
is_ended _ = false

-- a link with these bytes was served to its end, and this was written: no more than a memory has
pub record IsAnswered (services : List Entry) (call reply : List ℕ) : Type 0 where
  pub took : Taken
  pub end : LinkEnd
  pub left : List ℕ
  pub serves : Serves services (record { left = call; leaves = left; held = []; now = reply }) took (ended end)
  pub fits : length reply < 2 ^ 64

-- what was read is told so
abbrev pub told_as : Returned RootedArena AnswerFault → Returned RootedArena RoundEnd
told_as (Ok graph) = Ok graph
told_as (Err (fault.Fault code text)) = Err (Fault code text)
told_as (Err (fault.BadReply number)) = Err (BadReply number)
told_as (Err fault.ReadFault) = Err Memory
told_as (Err fault.Memory) = Err Memory

-- it was read of these bytes, or memory ran out before
pub data IsRead (reply : List ℕ) (answer : Returned RootedArena RoundEnd) : Type 0 where
  starved : answer ≡ Err Memory → IsRead reply answer
  read : (keeps leaves : List ℕ) (a : Returned RootedArena AnswerFault) → client.Answers [] reply keeps leaves a → answer ≡ told_as a → IsRead reply answer
