-- The headers, and the message with its values.
use Rattle.std.proofs.Common.{[], ◌∷◌, length, map, ap, ◌∙◌}
use Rattle.std.proofs.lemmas.Result.{IfOk-weaker}
use Rattle.amf_graph.specs.Arena.{Arena, value_content}
use Rattle.amf_graph.specs.Graph.{Value}
use Rattle.flex_msgs.specs.Built.{Acknowledges}
use Rattle.flex_msgs.specs.Writing.{WritesOne}
use Rattle.flex_msgs.specs.Classes.{acknowledge_traits}
use Rattle.flex_msgs.specs.Messages.{reply_values, message_node, headers_node}
use Rattle.flex_msgs.proofs.Written.{one_there, names_later}
use Rattle.flex_msgs.proofs.Answering.{values_are, with_values, two_added}
use Rattle.flex_msgs.proofs.replies.acknowledge.Goals as goal

pub add_values-requires-clause-body : goal.add_values-requires-clause-body
add_values-requires-clause-body c = names_later c.args.builder.now c.add_headers.new.builder 1 (λ h. headers_node c.args.reply.now.ds_id ∷ []) c.args.reply.now.body c.in_ok-headers.ensures.ok.writes c.requires.body

pub add_values-requires-clause-headers : goal.add_values-requires-clause-headers
add_values-requires-clause-headers c = one_there c.args.builder.now c.add_headers.new.builder c.in_ok-headers.headers (λ h. headers_node c.args.reply.now.ds_id) c.in_ok-headers.ensures.ok

pub add_message-requires-clause-count : goal.add_message-requires-clause-count
add_message-requires-clause-count c = ap length c.deref.ensures.value ∙ c.in_ok-values.ensures.count

pub add_message-requires-clause-values : goal.add_message-requires-clause-values
add_message-requires-clause-values c =
    let r = c.args.reply.now in
    (values_are c.add_values.new.builder c.in_ok-values.values.items c.deref.result.now (λ h. reply_values r (value_content h r.body) (value_content h c.in_ok-headers.headers)) c.deref.ensures.value c.in_ok-values.ensures.values).names

pub returns-clause-ok : goal.returns-clause-ok
returns-clause-ok c =
    let r = c.args.reply.now in
    let a = c.args.builder.now in
    let b = c.add_headers.new.builder in
    let d = c.add_values.new.builder in
    let e = c.add_message.new.builder in
    let u = c.in_ok-headers.headers in
    let f = λ (h : Arena). reply_values r (value_content h r.body) (value_content h u) in
    let known = values_are d c.in_ok-values.values.items c.deref.result.now f c.deref.ensures.value c.in_ok-values.ensures.values in
    IfOk-weaker c.add_message.result (λ v. WritesOne d e v (λ h. message_node acknowledge_traits (map (value_content h) c.deref.result.now))) (λ v. Acknowledges r a e v)
    (λ v q. two_added a b e u v (headers_node r.ds_id) (λ h (x : Value). message_node acknowledge_traits (reply_values r (value_content h r.body) x)) c.in_ok-headers.ensures.ok
    (with_values acknowledge_traits b d e v c.deref.result.now f c.in_ok-values.ensures.writes known q))
    c.add_message.ensures.ok
