-- A device of proofs: the plans of requests and calls as they are kept, and what came of them.
use Rattle.std.specs.Prelude.{◌≡◌, ℕ, List, [], Option}
use Rattle.amf_graph.specs.declared.value.Value.{Value as Stored}
use Rattle.amf_graph.specs.Arena.{value_content}
use Rattle.amf_graph.specs.Graph.{Graph}
use Rattle.amf_graph.specs.Rooted.{RootedArena, content}
use Rattle.flex_msgs.specs.declared.request.Common.{Common}
use Rattle.flex_msgs.specs.declared.request.Request.{Request}
use Rattle.flex_msgs.specs.Asked.{Told, told, asked}
use Rattle.flex_msgs.specs.Viewing.{value_view}
use Rattle.amf_service.specs.Registry.{Entry, called}
use Rattle.amf_answer_plan.specs.declared.context.Context.{Context as KeptContext}
use Rattle.amf_answer_plan.specs.Calls.{ForGraphsOf}
use Rattle.amf_answer_plan.specs.Did.{Drawn, Stopped}
use Rattle.amf_answer_plan.specs.Flex.{asked_answer, viewed_answer}
use Rattle.amf_answer_plan.specs.Kept.{context_in}
use Rattle.amf_answer_plan.specs.Plan.{Plan}
use Rattle.amf_answer_plan.specs.Remoting.{outcome, call, remoting}
use Rattle.amf_answer_plan.specs.Replies.{Answer, acknowledge, context_of}
use Rattle.amf_answer_plan.specs.declared.message_answer.MessageAnswer.{MessageAnswer}
use Rattle.amf_flex_replies.specs.KeptArguments.{KeepsArguments}
use Rattle.amf_answer_plan.specs.Says.{Says}

-- how a value of a kept graph is answered
abbrev pub value_answer : List Entry → RootedArena → Stored → Plan Answer
value_answer services g v = viewed_answer services (content g) (value_view (content g) (value_content g.arena v))

-- and a request in its kept graph
abbrev pub request_answer : List Entry → RootedArena → Request → Plan Answer
request_answer services g r = asked_answer services (content g) (asked g.arena r)

-- and a RemotingMessage with this operation
abbrev pub remoting_answer : List Entry → RootedArena → Common → List ℕ → Plan Answer
remoting_answer services g c operation = remoting services (content g) (told g.arena c) operation

-- an acknowledge whose body is the root of the graph
abbrev pub acknowledge_root : KeptContext → Graph → Plan Answer
acknowledge_root k g = acknowledge (context_in k) [] g g.root

-- A call with kept arguments: its plan was done and gave this answer, or some first steps of it were done.

abbrev pub SaysCallWith : {O : Type 0} → (O → O → Drawn → Type 0) → List Entry → KeptContext → List ℕ → List ℕ → RootedArena → O → O → MessageAnswer → Type 0
SaysCallWith handed services k service operation args old new x = ForGraphsOf args (λ g. Says handed (outcome (context_in k) (called services service operation g)) old new x)

abbrev pub StopsCallWith : {O : Type 0} → (O → O → Drawn → Type 0) → List Entry → KeptContext → List ℕ → List ℕ → RootedArena → O → O → Type 0
StopsCallWith handed services k service operation args old new = ForGraphsOf args (λ g. Stopped handed (outcome (context_in k) (called services service operation g)) old new)

-- So of a call where there are arguments, for each request with this destination and this context.

abbrev pub SaysCallIf : {O : Type 0} → (O → O → Drawn → Type 0) → List Entry → KeptContext → List ℕ → List ℕ → Option RootedArena → O → O → MessageAnswer → Type 0
SaysCallIf handed services k service operation args old new x = (t : Told) (o : Option Graph) → t.destination ≡ service → context_in k ≡ context_of t → KeepsArguments o args → Says handed (call services t operation o) old new x

abbrev pub StopsCallIf : {O : Type 0} → (O → O → Drawn → Type 0) → List Entry → KeptContext → List ℕ → List ℕ → Option RootedArena → O → O → Type 0
StopsCallIf handed services k service operation args old new = (t : Told) (o : Option Graph) → t.destination ≡ service → context_in k ≡ context_of t → KeepsArguments o args → Stopped handed (call services t operation o) old new
