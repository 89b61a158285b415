-- The copies, and the message with its values.
use Rattle.std.proofs.Common.{◌≡◌, ◌+◌, [], ◌∷◌, List, length, map, refl, ap, ◌∙◌, subst, arith, Err}
use Rattle.std.proofs.lemmas.Result.{err_from_is_err_and}
use Rattle.amf_graph.specs.declared.value.Value.{Value as Stored}
use Rattle.amf_graph.specs.Arena.{Arena, value_content}
use Rattle.amf_graph.specs.Grafting.{Grafted}
use Rattle.flex_msgs.specs.declared.reply.Reply.{Reply}
use Rattle.amf_graph.specs.declared.build_end.BuildEnd.TheVariants.{Full}
use Rattle.flex_msgs.specs.Built.{Publishes, GrewBy, client_texts}
use Rattle.flex_msgs.specs.Writing.{WritesOne}
use Rattle.flex_msgs.specs.Classes.{async_traits}
use Rattle.flex_msgs.specs.Messages.{reply_values, message_node, published_node}
use Rattle.flex_msgs.proofs.Answering.{values_are, with_values, one_as, one_adds, two_items, stored_is}
use Rattle.flex_msgs.proofs.Rooms.{grew_then, room_now, room_then, handed_on, too_much, lacks, both}
use Rattle.flex_msgs.proofs.stored.published.Goals as goal

pub add_message-requires-clause-count : goal.add_message-requires-clause-count
add_message-requires-clause-count c = ap length c.deref.ensures.value ∙ c.in_ok-values.ensures.count

pub returns-clause-ok : goal.returns-clause-ok
returns-clause-ok c =
    let a = c.args.graph.now.arena in
    let common = c.args.common.now in
    let old = c.args.builder.now in
    let between = c.graft_values.new.self in
    let d = c.add_values.new.builder in
    let e = c.add_message.new.builder in
    let body = c.index-body.result.now in
    let headers = c.index-headers.result.now in
    let r : Reply = record { body = body; client = c.in_ok-client.client; destination = c.in_ok-destination.destination; ds_id = c.in_ok-ds_id.ds_id; message = c.in_ok-message.message; moment = c.args.moment; correlation = c.in_ok-correlation.correlation } in
    let f = λ (h : Arena). reply_values r (value_content h body) (value_content h headers) in
    let two = two_items c.in_ok-copies.copies.items body headers c.in_ok-copies.ensures.count c.index-body.ensures c.index-headers.ensures in
    let known = values_are d c.in_ok-values.values.items c.deref.result.now f c.deref.ensures.value c.in_ok-values.ensures.values in
    let same = λ (h : Arena). stored_is r common.message common.destination c.args.correlation.now c.args.moment (value_content h body) (value_content h headers) c.in_ok-client.ensures c.in_ok-destination.ensures c.in_ok-message.ensures refl c.in_ok-correlation.ensures in
    let grown = c.in_ok-values.ensures.grew in
    let count : length c.deref.result.now ≡ 8 = ap length c.deref.ensures.value ∙ c.in_ok-values.ensures.count in
    let none : client_texts c.in_ok-client.client ≡ 0 = ap client_texts c.in_ok-client.ensures in
    both c.add_message.result (λ v. WritesOne d e v (λ h. message_node async_traits (map (value_content h) c.deref.result.now))) (GrewBy d e (1 + length c.deref.result.now) 1 1) (λ v. Publishes a common c.args.correlation.now c.args.moment old e v) c.add_message.ensures.ok c.add_message.ensures.grew
    (λ v q s. record {
      between = between;
      body = body;
      headers = headers;
      grafted = subst (λ (ws : List Stored). Grafted a (common.body ∷ common.headers ∷ []) old between ws) two c.in_ok-copies.ensures.ok;
      added = one_adds between e v (λ h. published_node common.message common.destination c.args.correlation.now c.args.moment (value_content h body) (value_content h headers))
          (one_as between e v (λ h. message_node async_traits (f h)) (λ h. published_node common.message common.destination c.args.correlation.now c.args.moment (value_content h body) (value_content h headers))
          (with_values async_traits between d e v c.deref.result.now f c.in_ok-values.ensures.writes known q) (λ h done. same h));
      grew = grew_then grown s (omega arith) (omega arith) (omega arith);
    })

pub returns-in_err-copies-clause-full : goal.returns-in_err-copies-clause-full
returns-in_err-copies-clause-full c = λ m d k is.
    let r = c.from_residual.result in
    let p = err_from_is_err_and r c.from_residual.ensures.1 in
    let e : c.in_err-copies.field-0.0 ≡ Full = cc in
    too_much c.args.graph.now.arena (c.args.common.now.body ∷ c.args.common.now.headers ∷ []) c.args.builder.now 12 (c.in_err-copies.ensures.full (ap (λ z. Err z) e))

pub returns-in_err-values-clause-full : goal.returns-in_err-values-clause-full
returns-in_err-values-clause-full c = λ m d k is.
    let r = c.from_residual-in_err-values.result in
    let p = err_from_is_err_and r c.from_residual-in_err-values.ensures.1 in
    let none : client_texts c.in_ok-client.client ≡ 0 = ap client_texts c.in_ok-client.ensures in
    lacks c.args.graph.now.arena (c.args.common.now.body ∷ c.args.common.now.headers ∷ []) c.args.builder.now c.graft_values.new.self c.in_ok-copies.copies.items 12 c.in_ok-copies.ensures.ok
    (λ room. handed_on r c.in_err-values.field-0.0 p.0 p.1 p.2
    (c.in_err-values.ensures.full (room_now room (omega arith) (omega arith) (omega arith)) (record {
      client = omega (arith, ap length c.in_ok-client.ensures);
      destination = omega (arith, d, ap length c.in_ok-destination.ensures);
      ds_id = omega (arith, ap length c.in_ok-ds_id.ensures);
      message = omega (arith, m, ap length c.in_ok-message.ensures);
      correlation = omega (arith, k, ap length c.in_ok-correlation.ensures);
    })) is)

pub returns-clause-full : goal.returns-clause-full
returns-clause-full c = λ m d k is.
    let none : client_texts c.in_ok-client.client ≡ 0 = ap client_texts c.in_ok-client.ensures in
    let count : length c.deref.result.now ≡ 8 = ap length c.deref.ensures.value ∙ c.in_ok-values.ensures.count in
    lacks c.args.graph.now.arena (c.args.common.now.body ∷ c.args.common.now.headers ∷ []) c.args.builder.now c.graft_values.new.self c.in_ok-copies.copies.items 12 c.in_ok-copies.ensures.ok
    (λ room. c.add_message.ensures.full (room_then room c.in_ok-values.ensures.grew (omega arith) (omega arith) (omega arith)) is)
