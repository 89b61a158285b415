-- The headers, and the message with its values and those of the fault.
use Rattle.std.proofs.Common.{[], ◌∷◌, ◌++◌, ◌+◌, length, map, List, ℕ, ap, ◌∙◌, subst}
use Rattle.std.proofs.lemmas.Result.{IfOk-weaker}
use Rattle.std.proofs.lemmas.List.{length-append}
use Rattle.amf_graph.specs.declared.value.Value.{Value as Stored}
use Rattle.amf_graph.specs.declared.value.Value.TheVariants.{Null}
use Rattle.amf_graph.specs.Arena.{Arena, value_content}
use Rattle.amf_graph.specs.Graph.{Value}
use Rattle.flex_msgs.specs.Built.{Errors}
use Rattle.flex_msgs.specs.Writing.{WritesNames, WritesOne, AreValues}
use Rattle.flex_msgs.specs.Classes.{error_traits}
use Rattle.flex_msgs.specs.Messages.{text_of, null_value, reply_values, fault_values, message_node, headers_node}
use Rattle.flex_msgs.proofs.Written.{one_there, names_then, values_later}
use Rattle.flex_msgs.proofs.Answering.{values_push, values_are, fault_known, with_values, two_added}
use Rattle.flex_msgs.proofs.replies.error.Goals as goal

pub add_values-requires-clause-headers : goal.add_values-requires-clause-headers
add_values-requires-clause-headers c = one_there c.args.builder.now c.add_headers.new.builder c.in_ok-headers.headers (λ h. headers_node c.args.reply.now.ds_id) c.in_ok-headers.ensures.ok

pub add_message-requires-clause-count : goal.add_message-requires-clause-count
add_message-requires-clause-count c =
    ap length (c.deref.ensures.value ∙ c.in_ok-extend_from_slice.ensures.items) ∙ length-append c.in_ok-values.values.items (Null ∷ c.in_ok-code.code ∷ c.in_ok-detail.detail ∷ c.in_ok-text.text ∷ Null ∷ []) ∙ ap (λ k. k + 5) c.in_ok-values.ensures.count

pub add_message-requires-clause-values : goal.add_message-requires-clause-values
add_message-requires-clause-values c =
    let r = c.args.reply.now in
    let t = c.args.fault.now in
    let d = c.add_values.new.builder in
    let i = c.add_text.new.builder in
    let j = c.add_text-2.new.builder in
    let k = c.add_text-3.new.builder in
    let u = c.in_ok-headers.headers in
    let jk = c.in_ok-text.ensures.writes in
    let ik = names_then i j k c.in_ok-detail.ensures.writes jk in
    let dk = names_then d i k c.in_ok-code.ensures.writes ik in
    let f = λ (h : Arena). reply_values r null_value (value_content h u) in
    let g = λ (h : Arena). f h ++ fault_values t in
    let own = values_later d k 0 (λ h. []) c.in_ok-values.values.items f dk c.in_ok-values.ensures.values in
    let fault = fault_known k t c.in_ok-code.code c.in_ok-detail.detail c.in_ok-text.text
    (values_later i k 0 (λ h. []) (c.in_ok-code.code ∷ []) (λ h. text_of t.code ∷ []) ik c.in_ok-code.ensures.value)
    (values_later j k 0 (λ h. []) (c.in_ok-detail.detail ∷ []) (λ h. text_of [] ∷ []) jk (subst (λ x. AreValues j (c.in_ok-detail.detail ∷ []) (λ h. text_of x ∷ [])) c.in_ok-empty.ensures c.in_ok-detail.ensures.value))
    c.in_ok-text.ensures.value in
    let known = values_are k (c.in_ok-values.values.items ++ Null ∷ c.in_ok-code.code ∷ c.in_ok-detail.detail ∷ c.in_ok-text.text ∷ Null ∷ []) c.deref.result.now g (c.deref.ensures.value ∙ c.in_ok-extend_from_slice.ensures.items)
    (values_push k c.in_ok-values.values.items (Null ∷ c.in_ok-code.code ∷ c.in_ok-detail.detail ∷ c.in_ok-text.text ∷ Null ∷ []) f (λ h. fault_values t) own fault) in
    known.names

pub returns-clause-ok : goal.returns-clause-ok
returns-clause-ok c =
    let r = c.args.reply.now in
    let t = c.args.fault.now in
    let a = c.args.builder.now in
    let b = c.add_headers.new.builder in
    let d = c.add_values.new.builder in
    let i = c.add_text.new.builder in
    let j = c.add_text-2.new.builder in
    let k = c.add_text-3.new.builder in
    let e = c.add_message.new.builder in
    let u = c.in_ok-headers.headers in
    let jk = c.in_ok-text.ensures.writes in
    let ik = names_then i j k c.in_ok-detail.ensures.writes jk in
    let dk = names_then d i k c.in_ok-code.ensures.writes ik in
    let bk = names_then b d k c.in_ok-values.ensures.writes dk in
    let f = λ (h : Arena). reply_values r null_value (value_content h u) in
    let g = λ (h : Arena). f h ++ fault_values t in
    let own = values_later d k 0 (λ h. []) c.in_ok-values.values.items f dk c.in_ok-values.ensures.values in
    let fault = fault_known k t c.in_ok-code.code c.in_ok-detail.detail c.in_ok-text.text
    (values_later i k 0 (λ h. []) (c.in_ok-code.code ∷ []) (λ h. text_of t.code ∷ []) ik c.in_ok-code.ensures.value)
    (values_later j k 0 (λ h. []) (c.in_ok-detail.detail ∷ []) (λ h. text_of [] ∷ []) jk (subst (λ x. AreValues j (c.in_ok-detail.detail ∷ []) (λ h. text_of x ∷ [])) c.in_ok-empty.ensures c.in_ok-detail.ensures.value))
    c.in_ok-text.ensures.value in
    let known = values_are k (c.in_ok-values.values.items ++ Null ∷ c.in_ok-code.code ∷ c.in_ok-detail.detail ∷ c.in_ok-text.text ∷ Null ∷ []) c.deref.result.now g (c.deref.ensures.value ∙ c.in_ok-extend_from_slice.ensures.items)
    (values_push k c.in_ok-values.values.items (Null ∷ c.in_ok-code.code ∷ c.in_ok-detail.detail ∷ c.in_ok-text.text ∷ Null ∷ []) f (λ h. fault_values t) own fault) in
    IfOk-weaker c.add_message.result (λ v. WritesOne k e v (λ h. message_node error_traits (map (value_content h) c.deref.result.now))) (λ v. Errors r t a e v)
    (λ v q. two_added a b e u v (headers_node r.ds_id) (λ h (x : Value). message_node error_traits (reply_values r null_value x ++ fault_values t)) c.in_ok-headers.ensures.ok
    (with_values error_traits b k e v c.deref.result.now g bk known q))
    c.add_message.ensures.ok
