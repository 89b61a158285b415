-- The copies with the client among them, and the message.
use Rattle.std.proofs.Common.{◌≡◌, ℕ, ◌+◌, ◌-◌, List, [], ◌∷◌, ◌++◌, length, map, take, drop, ap, ◌∙◌, subst, arith}
use Rattle.amf_graph.specs.declared.value.Value.{Value as Stored}
use Rattle.amf_graph.specs.Arena.{Arena, value_content}
use Rattle.amf_graph.specs.Grafting.{Grafted, node_value}
use Rattle.flex_msgs.specs.Built.{Delivers, GrewBy, LacksRoomFor, client_texts}
use Rattle.flex_msgs.specs.Classes.{async_traits}
use Rattle.flex_msgs.specs.Messages.{client_value, with_client, message_node, delivered_node}
use Rattle.flex_msgs.specs.Writing.{WritesOne}
use Rattle.flex_msgs.proofs.Written.{all_later}
use Rattle.flex_msgs.proofs.Answering.{values_are, with_values, one_adds}
use Rattle.flex_msgs.proofs.Delivering.{client_put, with_client_count, with_client_known}
use Rattle.flex_msgs.proofs.Rooms.{grew_then, room_then, lacks, both}
use Rattle.flex_msgs.proofs.stored.delivered.Goals as goal

pub add_message-requires-clause-values : goal.add_message-requires-clause-values
add_message-requires-clause-values c =
    let a = c.args.stored.now.arena in
    let old = c.args.builder.now in
    let between = c.graft_values.new.self in
    let b = c.add_client.new.builder in
    let xs = c.in_ok-copies.copies.items in
    let first = c.index-first.result.now in
    let put = c.in_ok-client.client in
    let client = c.args.client.now in
    let f = λ (h : Arena). with_client (client_value client) (map (value_content h) xs) in
    let seven : length xs ≡ 7 = c.in_ok-copies.ensures.count ∙ ap length c.deref.ensures.value ∙ c.in_ok-others.ensures.count in
    let items : c.deref-3.result.now ≡ with_client put xs =
    c.deref-3.ensures.value ∙ c.in_ok-extend_from_slice.ensures.items
    ∙ ap (λ (z : List Stored). z ++ take (length c.deref-2.result.now - 1) (drop 1 c.deref-2.result.now)) (c.in_ok-push-2.ensures.items ∙ ap (λ (z : List Stored). z ++ put ∷ []) (c.in_ok-push.ensures.items ∙ ap (λ (z : List Stored). z ++ first ∷ []) c.new-values.ensures.items))
    ∙ ap (λ (z : List Stored). first ∷ put ∷ take (length z - 1) (drop 1 z)) c.deref-2.ensures.value
    ∙ client_put xs first put (omega (arith, seven)) c.index-first.ensures in
    let known = values_are b (with_client put xs) c.deref-3.result.now f items (with_client_known b put client xs (all_later between b 0 (λ h. []) xs c.in_ok-client.ensures.writes c.in_ok-copies.ensures.names) c.in_ok-client.ensures.value) in
    known.names

pub returns-clause-ok : goal.returns-clause-ok
returns-clause-ok c =
    let a = c.args.stored.now.arena in
    let old = c.args.builder.now in
    let between = c.graft_values.new.self in
    let b = c.add_client.new.builder in
    let xs = c.in_ok-copies.copies.items in
    let first = c.index-first.result.now in
    let put = c.in_ok-client.client in
    let client = c.args.client.now in
    let f = λ (h : Arena). with_client (client_value client) (map (value_content h) xs) in
    let seven : length xs ≡ 7 = c.in_ok-copies.ensures.count ∙ ap length c.deref.ensures.value ∙ c.in_ok-others.ensures.count in
    let items : c.deref-3.result.now ≡ with_client put xs =
    c.deref-3.ensures.value ∙ c.in_ok-extend_from_slice.ensures.items
    ∙ ap (λ (z : List Stored). z ++ take (length c.deref-2.result.now - 1) (drop 1 c.deref-2.result.now)) (c.in_ok-push-2.ensures.items ∙ ap (λ (z : List Stored). z ++ put ∷ []) (c.in_ok-push.ensures.items ∙ ap (λ (z : List Stored). z ++ first ∷ []) c.new-values.ensures.items))
    ∙ ap (λ (z : List Stored). first ∷ put ∷ take (length z - 1) (drop 1 z)) c.deref-2.ensures.value
    ∙ client_put xs first put (omega (arith, seven)) c.index-first.ensures in
    let known = values_are b (with_client put xs) c.deref-3.result.now f items (with_client_known b put client xs (all_later between b 0 (λ h. []) xs c.in_ok-client.ensures.writes c.in_ok-copies.ensures.names) c.in_ok-client.ensures.value) in
    let eight : length c.deref-3.result.now ≡ 8 = omega (arith, ap length items, with_client_count xs put (omega (arith, seven)), seven) in
    let e = c.add_message.new.builder in
    both c.add_message.result (λ v. WritesOne b e v (λ h. message_node async_traits (map (value_content h) c.deref-3.result.now))) (GrewBy b e (1 + length c.deref-3.result.now) 1 1) (λ v. (i : ℕ) → c.args.stored.now.root ≡ node_value i → Delivers a i client old e v) c.add_message.ensures.ok c.add_message.ensures.grew
    (λ v q s i root. record {
      between = between;
      others = xs;
      grafted = subst (λ (vs : List Stored). Grafted a vs old between xs) (c.deref.ensures.value ∙ c.in_ok-others.ensures.others i root) c.in_ok-copies.ensures.ok;
      added = one_adds between e v (λ h. delivered_node client (map (value_content h) xs)) (with_values async_traits between b e v c.deref-3.result.now f c.in_ok-client.ensures.writes known q);
      grew = grew_then c.in_ok-client.ensures.grew s (omega (arith, eight)) (omega arith) (omega arith);
    })

pub returns-clause-full : goal.returns-clause-full
returns-clause-full c = λ short is i root.
    let a = c.args.stored.now.arena in
    let old = c.args.builder.now in
    let between = c.graft_values.new.self in
    let b = c.add_client.new.builder in
    let xs = c.in_ok-copies.copies.items in
    let first = c.index-first.result.now in
    let put = c.in_ok-client.client in
    let client = c.args.client.now in
    let f = λ (h : Arena). with_client (client_value client) (map (value_content h) xs) in
    let seven : length xs ≡ 7 = c.in_ok-copies.ensures.count ∙ ap length c.deref.ensures.value ∙ c.in_ok-others.ensures.count in
    let items : c.deref-3.result.now ≡ with_client put xs =
    c.deref-3.ensures.value ∙ c.in_ok-extend_from_slice.ensures.items
    ∙ ap (λ (z : List Stored). z ++ take (length c.deref-2.result.now - 1) (drop 1 c.deref-2.result.now)) (c.in_ok-push-2.ensures.items ∙ ap (λ (z : List Stored). z ++ put ∷ []) (c.in_ok-push.ensures.items ∙ ap (λ (z : List Stored). z ++ first ∷ []) c.new-values.ensures.items))
    ∙ ap (λ (z : List Stored). first ∷ put ∷ take (length z - 1) (drop 1 z)) c.deref-2.ensures.value
    ∙ client_put xs first put (omega (arith, seven)) c.index-first.ensures in
    let eight : length c.deref-3.result.now ≡ 8 = omega (arith, ap length items, with_client_count xs put (omega (arith, seven)), seven) in
    subst (λ (vs : List Stored). LacksRoomFor a vs old (9 + client_texts client)) (c.deref.ensures.value ∙ c.in_ok-others.ensures.others i root)
    (lacks a c.deref.result.now old between xs (9 + client_texts client) c.in_ok-copies.ensures.ok
    (λ room. c.add_message.ensures.full (room_then room c.in_ok-client.ensures.grew (omega (arith, eight)) (omega arith) (omega arith)) is))
