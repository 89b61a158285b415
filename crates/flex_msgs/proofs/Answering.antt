-- Answers: headers, and a message with values of which something is known.
use Rattle.std.proofs.Common.{◌≡◌, ℕ, suc, ◌+◌, ◌<◌, ◌^◌, false, List, [], ◌∷◌, ◌++◌, length, map, get_or, sym, refl, ap, ◌∙◌, subst, arith, pos}
use Rattle.std.specs.List.{AllByRecursion}
use Rattle.std.proofs.lemmas.List.{length-append, map-append}
use Rattle.amf_wire.specs.declared.pattern.Pattern.{Pattern}
use Rattle.amf_graph.specs.declared.value.Value.{Value as Stored}
use Rattle.amf_graph.specs.declared.value.Value.TheVariants.{Null, Integer, Double}
use Rattle.amf_graph.specs.Graph.{Node, Value, Traits, leaf, node, null}
use Rattle.amf_graph.specs.Arena.{Arena, Completes, Names, value_content}
use Rattle.amf_graph.specs.Grafting.{node_value}
use Rattle.amf_graph.proofs.Alls.{all_append}
use Rattle.amf_graph.proofs.Lists.{cons_same}
use Rattle.flex_msgs.specs.declared.reply.Reply.{Reply}
use Rattle.flex_msgs.specs.declared.reply.FaultText.{FaultText}
use Rattle.flex_msgs.specs.Built.{Adds, Syncs}
use Rattle.flex_msgs.specs.Writing.{Writes, WritesNames, WritesOne, AreValues}
use Rattle.flex_msgs.specs.Classes.{command_traits, async_traits}
use Rattle.flex_msgs.specs.Messages.{text_of, client_value, number_value, null_value, reply_values, fault_values, message_node, headers_node, items_node, command_node, common_values, sync_nodes, published_node, stamp_of}
use Rattle.flex_msgs.proofs.Written.{earlier, writes_then, writes_as, after_names, same_nodes, adds}

pub values_push : (a : Arena) (vs ws : List Stored) (f g : Arena → List Value) → AreValues a vs f → AreValues a ws g → AreValues a (vs ++ ws) (λ h. f h ++ g h)
values_push a vs ws f g p q = record {
  names = all_append (Names a) vs ws p.names q.names;
  content = λ h done. map-append (value_content h) vs ws ∙ ap (λ z. z ++ map (value_content h) ws) (p.content h done) ∙ ap (λ z. f h ++ z) (q.content h done);
}

pub values_are : (a : Arena) (vs ws : List Stored) (f : Arena → List Value) → ws ≡ vs → AreValues a vs f → AreValues a ws f
values_are a vs ws f e p = subst (λ us. AreValues a us f) (sym e) p

-- the eight values of an answer
pub values_known : (b : Arena) (r : Reply) (body client destination headers message correlation : Stored) (stamp : Pattern) (items : List Stored)
    → items ≡ body ∷ client ∷ destination ∷ headers ∷ message ∷ Integer (pos 0) ∷ Double stamp ∷ correlation ∷ []
    → Names b body → AreValues b (client ∷ []) (λ h. client_value r.client ∷ []) → AreValues b (destination ∷ []) (λ h. text_of r.destination ∷ []) → Names b headers
    → AreValues b (message ∷ []) (λ h. text_of r.message ∷ []) → stamp.0 < 2 ^ 64 → stamp.0 ≡ stamp_of r.moment → AreValues b (correlation ∷ []) (λ h. text_of r.correlation ∷ [])
    → AreValues b items (λ h. reply_values r (value_content h body) (value_content h headers))
values_known b r body client destination headers message correlation stamp items e nb c d nh m range s k =
    values_are b (body ∷ client ∷ destination ∷ headers ∷ message ∷ Integer (pos 0) ∷ Double stamp ∷ correlation ∷ []) items (λ h. reply_values r (value_content h body) (value_content h headers)) e (record {
      names = (nb, (c.names.0, (d.names.0, (nh, (m.names.0, (omega arith, (range, (k.names.0, tt))))))));
      content = λ h done.
          let ec : value_content h client ≡ client_value r.client = (cons_same (c.content h done)).0 in
          let ed : value_content h destination ≡ text_of r.destination = (cons_same (d.content h done)).0 in
          let em : value_content h message ≡ text_of r.message = (cons_same (m.content h done)).0 in
          let ek : value_content h correlation ≡ text_of r.correlation = (cons_same (k.content h done)).0 in
          cc;
    })

-- One message.

pub one_as : (c d : Arena) (v : Stored) (w x : Arena → Node) → WritesOne c d v w → ((h : Arena) → Completes d h → w h ≡ x h) → WritesOne c d v x
one_as c d v w x p f = record { writes = writes_as c d 1 (λ h. w h ∷ []) (λ h. x h ∷ []) p.writes (λ h done. ap (λ n. n ∷ []) (f h done)); value = p.value }

pub one_after : (b c d : Arena) (v : Stored) (w : Arena → Node) → WritesNames b c → WritesOne c d v w → WritesOne b d v w
one_after b c d v w p q = record { writes = after_names b c d 1 (λ h. w h ∷ []) p q.writes; value = q.value ∙ ap node_value (same_nodes b c p) }

pub with_values : (t : Traits) (b c d : Arena) (v : Stored) (ws : List Stored) (f : Arena → List Value) → WritesNames b c → AreValues c ws f → WritesOne c d v (λ h. message_node t (map (value_content h) ws)) → WritesOne b d v (λ h. message_node t (f h))
with_values t b c d v ws f p k q =
    one_as b d v (λ h. message_node t (map (value_content h) ws)) (λ h. message_node t (f h)) (one_after b c d v (λ h. message_node t (map (value_content h) ws)) p q)
    (λ h done. ap (message_node t) (k.content h (earlier c d h 1 (λ h. message_node t (map (value_content h) ws) ∷ []) q.writes done)))

-- Behind its headers, and behind an array too.

nodes_more : (a b : Arena) (v : Stored) (w : Arena → Node) → WritesOne a b v w → length b.nodes ≡ length a.nodes + 1
nodes_more a b v w p = ap length p.writes.nodes ∙ length-append a.nodes p.writes.more_nodes ∙ ap (λ k. length a.nodes + k) p.writes.count

at_place : (h : Arena) (v : Stored) (n : ℕ) → v ≡ node_value n → value_content h v ≡ node n
at_place h v n e = ap (value_content h) e

pub two_added : (a b d : Arena) (u v : Stored) (x : Node) (g : Arena → Value → Node) → WritesOne a b u (λ h. x) → WritesOne b d v (λ h. g h (value_content h u)) → Adds a d v (λ h. x ∷ g h (node (length a.nodes)) ∷ [])
two_added a b d u v x g p q =
    adds a d v 1 (λ h. x ∷ g h (node (length a.nodes)) ∷ [])
    (writes_as a d 2 (λ h. (x ∷ []) ++ (g h (value_content h u) ∷ [])) (λ h. x ∷ g h (node (length a.nodes)) ∷ [])
    (writes_then a b d 1 1 (λ h. x ∷ []) (λ h. g h (value_content h u) ∷ []) p.writes q.writes)
    (λ h done. ap (λ z. x ∷ g h z ∷ []) (at_place h u (length a.nodes) p.value)))
    (q.value ∙ ap node_value (nodes_more a b u (λ h. x) p))

pub synced : (r : Reply) (batch : List Stored) (a b c d : Arena) (u m v : Stored) → WritesOne a b u (λ h. headers_node r.ds_id) → WritesOne b c m (λ h. items_node (map (value_content h) batch)) → WritesOne c d v (λ h. command_node 4 r (value_content h m) (value_content h u)) → Syncs r batch a d v
synced r batch a b c d u m v p q s =
    adds a d v 2 (λ h. sync_nodes r (map (value_content h) batch) (length a.nodes))
    (writes_as a d 3 (λ h. (headers_node r.ds_id ∷ []) ++ ((items_node (map (value_content h) batch) ∷ []) ++ (command_node 4 r (value_content h m) (value_content h u) ∷ []))) (λ h. sync_nodes r (map (value_content h) batch) (length a.nodes))
    (writes_then a b d 1 2 (λ h. headers_node r.ds_id ∷ []) (λ h. (items_node (map (value_content h) batch) ∷ []) ++ (command_node 4 r (value_content h m) (value_content h u) ∷ [])) p.writes
    (writes_then b c d 1 1 (λ h. items_node (map (value_content h) batch) ∷ []) (λ h. command_node 4 r (value_content h m) (value_content h u) ∷ []) q.writes s.writes))
    (λ h done.
    ap (λ z. headers_node r.ds_id ∷ items_node (map (value_content h) batch) ∷ command_node 4 r (value_content h m) z ∷ []) (at_place h u (length a.nodes) p.value)
    ∙ ap (λ z. headers_node r.ds_id ∷ items_node (map (value_content h) batch) ∷ command_node 4 r z (node (length a.nodes)) ∷ []) (at_place h m (suc (length a.nodes)) (q.value ∙ ap node_value (let e : length b.nodes ≡ suc (length a.nodes) = (let k = nodes_more a b u (λ h. headers_node r.ds_id) p in omega (arith, k)) in e)))))
    (s.value ∙ ap node_value (let e : length c.nodes ≡ length a.nodes + 2 = (let k = nodes_more a b u (λ h. headers_node r.ds_id) p in let l = nodes_more b c m (λ h. items_node (map (value_content h) batch)) q in omega (arith, k, l)) in e))

pub number_known : (a : Arena) (n : ℕ) (v : Stored) → n < 256 → v ≡ Integer (pos n) → AreValues a (v ∷ []) (λ h. number_value n ∷ [])
number_known a n v l e = values_are a (Integer (pos n) ∷ []) (v ∷ []) (λ h. number_value n ∷ []) (ap (λ z. z ∷ []) e) (record { names = (omega (arith, l), tt); content = λ h done. refl })

pub fault_known : (a : Arena) (f : FaultText) (code detail text : Stored) → AreValues a (code ∷ []) (λ h. text_of f.code ∷ []) → AreValues a (detail ∷ []) (λ h. text_of [] ∷ []) → AreValues a (text ∷ []) (λ h. text_of f.text ∷ [])
    → AreValues a (Null ∷ code ∷ detail ∷ text ∷ Null ∷ []) (λ h. fault_values f)
fault_known a f code detail text c d t = record {
  names = (tt, (c.names.0, (d.names.0, (t.names.0, (tt, tt)))));
  content = λ h done.
      let ec : value_content h code ≡ text_of f.code = (cons_same (c.content h done)).0 in
      let ed : value_content h detail ≡ text_of [] = (cons_same (d.content h done)).0 in
      let et : value_content h text ≡ text_of f.text = (cons_same (t.content h done)).0 in
      cc;
}

-- A message without headers of its own.

pub one_adds : (a d : Arena) (v : Stored) (w : Arena → Node) → WritesOne a d v w → Adds a d v (λ h. w h ∷ [])
one_adds a d v w p = adds a d v 0 (λ h. w h ∷ []) p.writes (p.value ∙ ap node_value (let e : length a.nodes ≡ length a.nodes + 0 = omega arith in e))

pub two_items : (xs : List Stored) (x y : Stored) → length xs ≡ 2 → x ≡ get_or xs 0 x → y ≡ get_or xs 1 y → xs ≡ x ∷ y ∷ []
two_items [] x y l e f = absurd (omega (arith, l))
two_items (z ∷ []) x y l e f = absurd (omega (arith, l))
two_items (z ∷ w ∷ []) x y l e f = cc
two_items (z ∷ w ∷ u ∷ xs) x y l e f = absurd (omega (arith, l))

pub stored_is : (r : Reply) (message destination correlation : List ℕ) (moment : ℕ) (body headers : Value) → r.client ≡ [] → r.destination ≡ destination → r.message ≡ message → r.moment ≡ moment → r.correlation ≡ correlation
    → message_node async_traits (reply_values r body headers) ≡ published_node message destination correlation moment body headers
stored_is r message destination correlation moment body headers c d m t k =
    ap (λ z. message_node async_traits (common_values body (client_value z) r.destination headers r.message r.moment r.correlation)) c
    ∙ ap (λ z. message_node async_traits (common_values body null_value z headers r.message r.moment r.correlation)) d
    ∙ ap (λ z. message_node async_traits (common_values body null_value destination headers z r.moment r.correlation)) m
    ∙ ap (λ z. message_node async_traits (common_values body null_value destination headers message z r.correlation)) t
    ∙ ap (λ z. message_node async_traits (common_values body null_value destination headers message moment z)) k
