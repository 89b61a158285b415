-- The operation is the last value.
use Rattle.std.proofs.Common.{[], ◌∷◌, ◌++◌, ◌+◌, length, map, sym, ap, ◌∙◌, arith}
use Rattle.std.proofs.lemmas.Result.{IfOk-weaker}
use Rattle.std.proofs.lemmas.List.{length-append}
use Rattle.amf_graph.specs.Arena.{Arena, value_content}
use Rattle.flex_msgs.specs.Writing.{WritesOne}
use Rattle.flex_msgs.specs.Classes.{command_traits}
use Rattle.flex_msgs.specs.Messages.{number_value, reply_values, message_node, command_node}
use Rattle.flex_msgs.proofs.Answering.{values_push, values_are, number_known, with_values}
use Rattle.flex_msgs.proofs.replies.add_command.Goals as goal

pub add_message-requires-clause-count : goal.add_message-requires-clause-count
add_message-requires-clause-count c =
    ap length (c.deref.ensures.value ∙ c.in_ok-push.ensures.items) ∙ length-append c.in_ok-values.values.items (c.small.result ∷ []) ∙ ap (λ k. k + 1) c.in_ok-values.ensures.count

pub add_message-requires-clause-values : goal.add_message-requires-clause-values
add_message-requires-clause-values c =
    let r = c.args.reply.now in
    let b = c.add_values.new.builder in
    let f = λ (h : Arena). reply_values r (value_content h c.args.body) (value_content h c.args.headers) in
    (values_are b (c.in_ok-values.values.items ++ c.small.result ∷ []) c.deref.result.now (λ (h : Arena). f h ++ number_value c.args.operation ∷ []) (c.deref.ensures.value ∙ c.in_ok-push.ensures.items)
    (values_push b c.in_ok-values.values.items (c.small.result ∷ []) f (λ h. number_value c.args.operation ∷ []) c.in_ok-values.ensures.values (number_known b c.args.operation c.small.result (omega arith) c.small.ensures))).names

pub returns-clause-ok : goal.returns-clause-ok
returns-clause-ok c =
    let r = c.args.reply.now in
    let a = c.args.builder.now in
    let b = c.add_values.new.builder in
    let e = c.add_message.new.builder in
    let f = λ (h : Arena). reply_values r (value_content h c.args.body) (value_content h c.args.headers) in
    let g = λ (h : Arena). f h ++ number_value c.args.operation ∷ [] in
    let known = values_are b (c.in_ok-values.values.items ++ c.small.result ∷ []) c.deref.result.now g (c.deref.ensures.value ∙ c.in_ok-push.ensures.items)
    (values_push b c.in_ok-values.values.items (c.small.result ∷ []) f (λ h. number_value c.args.operation ∷ []) c.in_ok-values.ensures.values (number_known b c.args.operation c.small.result (omega arith) c.small.ensures)) in
    IfOk-weaker c.add_message.result (λ v. WritesOne b e v (λ h. message_node command_traits (map (value_content h) c.deref.result.now))) (λ v. WritesOne a e v (λ h. command_node c.args.operation r (value_content h c.args.body) (value_content h c.args.headers)))
    (λ v q. with_values command_traits a b e v c.deref.result.now g c.in_ok-values.ensures.writes known q) c.add_message.ensures.ok
