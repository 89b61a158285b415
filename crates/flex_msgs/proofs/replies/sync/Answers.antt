-- The headers, the array of the batch, and the message.
use Rattle.std.proofs.Common.{[], ◌∷◌, List, map, sym, subst}
use Rattle.std.specs.List.{AllByRecursion}
use Rattle.std.proofs.lemmas.Result.{IfOk-weaker}
use Rattle.amf_graph.specs.declared.value.Value.{Value as Stored}
use Rattle.amf_graph.specs.Arena.{Names, value_content}
use Rattle.flex_msgs.specs.Built.{Syncs}
use Rattle.flex_msgs.specs.Writing.{WritesOne}
use Rattle.flex_msgs.specs.Messages.{headers_node, items_node, command_node}
use Rattle.flex_msgs.proofs.Written.{one_there, names_later, all_later}
use Rattle.flex_msgs.proofs.Answering.{synced}
use Rattle.flex_msgs.proofs.replies.sync.Goals as goal

pub add_array-requires : goal.add_array-requires
add_array-requires c =
    let b = c.add_headers.new.builder in
    subst (AllByRecursion (Names b)) (sym c.deref.ensures.value) (all_later c.args.builder.now b 1 (λ h. headers_node c.args.reply.now.ds_id ∷ []) c.args.batch.items c.in_ok-headers.ensures.ok.writes c.requires.batch)

pub add_command-requires-clause-body : goal.add_command-requires-clause-body
add_command-requires-clause-body c = one_there c.add_headers.new.builder c.add_array.new.builder c.in_ok-body.body (λ h. items_node (map (value_content h) c.deref.result.now)) c.in_ok-body.ensures.ok

pub add_command-requires-clause-headers : goal.add_command-requires-clause-headers
add_command-requires-clause-headers c =
    names_later c.add_headers.new.builder c.add_array.new.builder 1 (λ h. items_node (map (value_content h) c.deref.result.now) ∷ []) c.in_ok-headers.headers c.in_ok-body.ensures.ok.writes
    (one_there c.args.builder.now c.add_headers.new.builder c.in_ok-headers.headers (λ h. headers_node c.args.reply.now.ds_id) c.in_ok-headers.ensures.ok)

pub returns-clause-ok : goal.returns-clause-ok
returns-clause-ok c =
    let r = c.args.reply.now in
    let a = c.args.builder.now in
    let b = c.add_headers.new.builder in
    let d = c.add_array.new.builder in
    let e = c.add_command.new.builder in
    let batch = subst (λ (vs : List Stored). WritesOne b d c.in_ok-body.body (λ h. items_node (map (value_content h) vs))) c.deref.ensures.value c.in_ok-body.ensures.ok in
    IfOk-weaker c.add_command.result (λ v. WritesOne d e v (λ h. command_node 4 r (value_content h c.in_ok-body.body) (value_content h c.in_ok-headers.headers))) (λ v. Syncs r c.args.batch.items a e v)
    (λ v q. synced r c.args.batch.items a b d e c.in_ok-headers.headers c.in_ok-body.body v c.in_ok-headers.ensures.ok batch q)
    c.add_command.ensures.ok
