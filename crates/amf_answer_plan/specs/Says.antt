-- A device of proofs: what a message of a packet is answered, as it is kept.
use Rattle.std.specs.Prelude.{◌≡◌}
use Rattle.amf_packet.specs.SpelledBodies.{IsBodySpelledAlike}
use Rattle.amf_answer_plan.specs.declared.message_answer.MessageAnswer.{MessageAnswer}
use Rattle.amf_answer_plan.specs.Plan.{Plan}
use Rattle.amf_answer_plan.specs.Replies.{Answer}
use Rattle.amf_answer_plan.specs.Runs.{nothing, gave, Runs}
use Rattle.amf_answer_plan.specs.Serving.{none_left}
use Rattle.amf_answer_plan.specs.Did.{Drawn, Ran}

-- a kept answer to a message is the spelling of what the plan says, up to the numbers of its nodes
pub record AnswersMessage (x : MessageAnswer) (y : Answer) : Type 0 where
  pub well : x.well ≡ y.well
  pub body : IsBodySpelledAlike y.body x.body

-- the plan takes nothing, and gives this answer
pub record Tells (p : Plan Answer) (x : MessageAnswer) : Type 0 where
  pub answer : Answer
  pub is : AnswersMessage x answer
  pub runs : Runs p none_left nothing (gave answer none_left)

-- the plan was done, and gave this answer
pub record Says {O : Type 0} (handed : O → O → Drawn → Type 0) (p : Plan Answer) (old new : O) (x : MessageAnswer) : Type 0 where
  pub answer : Answer
  pub is : AnswersMessage x answer
  pub ran : Ran handed p old new answer
