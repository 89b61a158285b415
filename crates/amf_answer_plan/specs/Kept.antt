-- A device of proofs: what the code keeps of a request, and the room that it has.
use Rattle.std.specs.Prelude.{List, ℕ}
use Rattle.amf_wire.specs.Text.{IsText}
use Rattle.flex_msgs.specs.Built.{IsShort}
use Rattle.flex_msgs.specs.declared.reply.FaultText.{FaultText}
use Rattle.flex_msgs.specs.declared.request.Common.{Common}
use Rattle.flex_msgs.specs.declared.request.Request.{Request}
use Rattle.flex_msgs.specs.declared.request.Request.TheVariants.{Remoting, Command, Async}
use Rattle.flex_msgs.specs.Asked.{Told, told}
use Rattle.amf_graph.specs.Building.{no_arena}
use Rattle.amf_answer_plan.specs.declared.context.Context.{Context as KeptContext}
use Rattle.amf_broker.specs.declared.call.Call.TheVariants.{Connect}
use Rattle.amf_answer_plan.specs.Commands.{ask, say_connected}
use Rattle.amf_answer_plan.specs.Plan.{Plan, ◌>>=◌}
use Rattle.amf_answer_plan.specs.Replies.{Answer, Context}

abbrev pub context_in : KeptContext → Context
context_in k = record { destination = k.destination; ds_id = k.ds_id; correlation = k.correlation }

-- a text that a builder takes
pub record Fits (x : List ℕ) : Type 0 where
  pub text : IsText x
  pub short : IsShort x

pub record ContextFits (k : Context) : Type 0 where
  pub destination : Fits k.destination
  pub ds_id : Fits k.ds_id
  pub correlation : Fits k.correlation

pub record FaultFits (f : FaultText) : Type 0 where
  pub code : Fits f.code
  pub text : Fits f.text

pub record CommonFits (c : Common) : Type 0 where
  pub message : Fits c.message
  pub destination : Fits c.destination
  pub client : Fits c.client
  pub ds_id : Fits c.ds_id
  pub subtopic : Fits c.subtopic

abbrev pub RequestFits : Request → Type 0
RequestFits (Remoting c operation) = CommonFits c × Fits operation
RequestFits (Command c operation) = CommonFits c
RequestFits (Async c correlation) = CommonFits c × Fits correlation

-- what a request tells but for its body and its headers
abbrev pub names_told : Common → Told
names_told c = told no_arena c

-- the plan of a connect, by what its answer says of its request
abbrev pub connect_in : Context → Plan Answer
connect_in k = do
  r ← ask Connect
  say_connected k r
