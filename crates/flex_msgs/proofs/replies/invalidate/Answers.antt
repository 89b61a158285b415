-- The headers and the message.
use Rattle.std.proofs.Common.{[], ◌∷◌}
use Rattle.std.proofs.lemmas.Result.{IfOk-weaker}
use Rattle.amf_graph.specs.Arena.{value_content}
use Rattle.amf_graph.specs.Graph.{Value}
use Rattle.flex_msgs.specs.Built.{Invalidates}
use Rattle.flex_msgs.specs.Writing.{WritesOne}
use Rattle.flex_msgs.specs.Messages.{null_value, headers_node, command_node}
use Rattle.flex_msgs.proofs.Written.{one_there}
use Rattle.flex_msgs.proofs.Answering.{two_added}
use Rattle.flex_msgs.proofs.replies.invalidate.Goals as goal

pub add_command-requires-clause-headers : goal.add_command-requires-clause-headers
add_command-requires-clause-headers c = one_there c.args.builder.now c.add_headers.new.builder c.in_ok-headers.headers (λ h. headers_node c.args.reply.now.ds_id) c.in_ok-headers.ensures.ok

pub returns-clause-ok : goal.returns-clause-ok
returns-clause-ok c =
    let r = c.args.reply.now in
    let a = c.args.builder.now in
    let b = c.add_headers.new.builder in
    let e = c.add_command.new.builder in
    IfOk-weaker c.add_command.result (λ v. WritesOne b e v (λ h. command_node 10 r null_value (value_content h c.in_ok-headers.headers))) (λ v. Invalidates r a e v)
    (λ v q. two_added a b e c.in_ok-headers.headers v (headers_node r.ds_id) (λ h (x : Value). command_node 10 r null_value x) c.in_ok-headers.ensures.ok q)
    c.add_command.ensures.ok
