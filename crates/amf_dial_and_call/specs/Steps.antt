-- The steps of a call. A device of proofs.
use Rattle.std.specs.Prelude.{Result as Returned, Ok, Err}
use Rattle.amf_graph.specs.Rooted.{RootedArena}
use Rattle.amf_client.specs.declared.ends.AnswerFault.{AnswerFault}
use Rattle.amf_client.specs.declared.ends.AnswerFault.TheVariants as end
use Rattle.amf_dial_and_call.specs.declared.answer.CallAnswer.{CallAnswer}
use Rattle.amf_dial_and_call.specs.declared.answer.CallAnswer.TheVariants as call

-- the answer to a call that was read so
abbrev pub answer_of : Returned RootedArena AnswerFault → CallAnswer
answer_of (Ok g) = call.Graph g
answer_of (Err (end.Fault code text)) = call.Fault code text
answer_of (Err (end.BadReply number)) = call.BadReply number
answer_of (Err end.ReadFault) = call.LinkFault
answer_of (Err end.Memory) = call.Memory
