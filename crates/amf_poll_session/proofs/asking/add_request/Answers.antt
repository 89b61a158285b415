-- The message of a request: its destination and its text, and then the values.
use Rattle.std.proofs.Common.{◌∙◌, ℕ, [], ◌∷◌, pos, ap, map}
use Rattle.std.proofs.lemmas.Result.{IfOk-weaker}
use Rattle.amf_graph.specs.declared.value.Value.TheVariants.{Null, Integer}
use Rattle.amf_graph.specs.Arena.{value_content}
use Rattle.flex_msgs.specs.Classes.{command_traits}
use Rattle.flex_msgs.specs.Messages.{message_node}
use Rattle.flex_msgs.specs.Writing.{WritesOne}
use Rattle.amf_poll_session.specs.Requests.{request_values}
use Rattle.amf_poll_session.proofs.Requests.{request_written, values_there}
use Rattle.amf_poll_session.proofs.asking.add_request.Goals as goal

pub add_message-requires-clause-values : goal.add_message-requires-clause-values
add_message-requires-clause-values c =
    values_there c.args.builder.now c.add_destination.new.builder c.add_text.new.builder c.in_ok-place.place c.args.headers c.in_ok-message.message c.small-operation.result c.args.destination.now c.args.request c.args.id.now
    c.in_ok-place.ensures.writes c.in_ok-message.ensures.writes c.requires.headers c.in_ok-place.ensures.value c.in_ok-message.ensures.value (c.small-operation.ensures ∙ ap (λ (n : ℕ). Integer (pos n)) c.operation.ensures)

pub returns-clause-ok : goal.returns-clause-ok
returns-clause-ok c =
    let a = c.args.builder.now in
    let b = c.add_destination.new.builder in
    let d = c.add_text.new.builder in
    let e = c.add_message.new.builder in
    let vs = Null ∷ Null ∷ c.in_ok-place.place ∷ c.args.headers ∷ c.in_ok-message.message ∷ Integer (pos 0) ∷ Integer (pos 0) ∷ Null ∷ c.small-operation.result ∷ [] in
    IfOk-weaker c.add_message.result (λ v. WritesOne d e v (λ h. message_node command_traits (map (value_content h) vs))) (λ v. WritesOne a e v (λ h. message_node command_traits (request_values c.args.destination.now c.args.request (value_content h c.args.headers))))
    (λ v q. request_written a b d e c.in_ok-place.place c.args.headers c.in_ok-message.message c.small-operation.result v c.args.destination.now c.args.request c.args.id.now
    c.in_ok-place.ensures.writes c.in_ok-message.ensures.writes c.requires.headers c.in_ok-place.ensures.value c.in_ok-message.ensures.value c.requires.id (c.small-operation.ensures ∙ ap (λ (n : ℕ). Integer (pos n)) c.operation.ensures) q)
    c.add_message.ensures.ok
