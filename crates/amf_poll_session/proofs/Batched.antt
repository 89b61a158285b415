-- What the gateway answers to a poll, as a listener reads it.
use Rattle.std.proofs.Common.{◌≡◌, ◌∙◌, ℕ, zero, suc, ◌+◌, ◌<◌, ◌≤◌, Bool, true, false, ◌&&◌, List, [], ◌∷◌, ◌++◌, append-nil, append_assoc, length, map, slice_get, get_or, Option, Some, refl, sym, ap, subst, arith}
use Rattle.std.specs.Prelude.{bytes_eq, flat_map, decimal, if◌then◌else◌}
use Rattle.std.specs.List.{AllZip, AllByRecursion, list_all}
use Rattle.std.proofs.Math.ListN as listn
use Rattle.std.proofs.lemmas.List.{length-map, length-append, get_or-append-add, get_or_append_left}
use Rattle.std.proofs.lemmas.Option.{same_Some}
use Rattle.std.proofs.lemmas.Slice.Eq.{bytes_eq-Decides}
use Rattle.amf_graph.specs.Graph.{Value, leaf, node, object, Node, Graph, node_at, no_node}
use Rattle.amf_graph.specs.ByName.{by_name}
use Rattle.amf_graph.specs.Isomorphic.{ValuesMatch, PairsMatch, NodesMatch, StandIn, Isomorphic}
use Rattle.amf_graph.proofs.OrderExists.{isomorphic_refl}
use Rattle.amf_graph.proofs.Isomorphisms.{isomorphic_sym}
use Rattle.flex_msgs.specs.declared.reply.Reply.{Reply}
use Rattle.flex_msgs.specs.Classes.{body_name, headers_name, correlation_name, ds_id_name, common_names, command_traits}
use Rattle.flex_msgs.specs.Lookup.{value_named, sealed_pairs, named_in, pairs_by_kind}
use Rattle.flex_msgs.specs.Viewing.{text_alone}
use Rattle.flex_msgs.specs.Messages.{null_value, client_value, with_client, other_values, delivered_node, command_node, headers_node, items_node, sync_nodes}
use Rattle.flex_msgs.specs.Answers.{values_at, shifted_value, shifted_node, shifted_nodes, Batch, empty_batch, and_graph, batch_of, delivered_graph, invalidate_graph, sync_graph, acknowledge_graph}
use Rattle.flex_msgs.proofs.Joined.{sorted_shifted}
use Rattle.amf_poll_session.specs.declared.kind.MessageKind.{MessageKind}
use Rattle.amf_poll_session.specs.declared.kind.MessageKind.TheVariants.{Sync, Invalidate, Async}
use Rattle.amf_poll_session.specs.declared.request.Request.{Request}
use Rattle.amf_poll_session.specs.declared.request.Request.TheVariants.{Poll}
use Rattle.amf_poll_session.specs.Requests.{message_id}
use Rattle.amf_poll_session.specs.Replies.{Item, Seen, head_kind, kind_at, member_at, item_at, dense_items, items_at, seen_of, is_text, is_item, is_answer, has_id, body_of, bodies_in}
use Rattle.amf_poll_session.specs.Sessions.{reply, bad, or_empty, turn_of}
use Rattle.amf_poll_session.proofs.ReadAlike.{read_alike}
use Rattle.amf_poll_session.specs.Batches.{BatchMessage, first_of, body_in, IsStored, messages_of, AreBodiesOf, BatchesAreRead}

-- A graph that stands in another, behind so many nodes.

abbrev moved : ℕ → List (ℕ × ℕ) → List (ℕ × ℕ)
moved n ps = map (λ p. (n + p.0, p.1)) ps

moved_at : (n : ℕ) (ps : List (ℕ × ℕ)) (k i j : ℕ) → slice_get (moved n ps) k ≡ Some (i, j) → (l : ℕ) × (slice_get ps k ≡ Some (l, j)) × (i ≡ n + l)
moved_at n [] k i j e = cc
moved_at n (p ∷ ps) zero i j e =
    let q = same_Some (n + p.0, p.1) (i, j) e in
    let second : p.1 ≡ j = ap (λ (w : ℕ × ℕ). w.1) q in
    (p.0, ap (λ w. Some (p.0, w)) second, sym (ap (λ (w : ℕ × ℕ). w.0) q))
moved_at n (p ∷ ps) (suc k) i j e = moved_at n ps k i j e

at_moved : (n : ℕ) (ps : List (ℕ × ℕ)) (k l j : ℕ) → slice_get ps k ≡ Some (l, j) → slice_get (moved n ps) k ≡ Some (n + l, j)
at_moved n [] k l j e = cc
at_moved n (p ∷ ps) zero l j e = let q = same_Some p (l, j) e in ap (λ (w : ℕ × ℕ). Some (n + w.0, w.1)) q
at_moved n (p ∷ ps) (suc k) l j e = at_moved n ps k l j e

zip_mapped : {A : Type 0} (R S : A → A → Type 0) (f : A → A) → ((x y : A) → R x y → S (f x) y) → (xs ys : List A) → AllZip R xs ys → AllZip S (map f xs) ys
zip_mapped R S f h [] [] m = tt
zip_mapped R S f h [] (y ∷ ys) m = elim m [ ]
zip_mapped R S f h (x ∷ xs) [] m = elim m [ ]
zip_mapped R S f h (x ∷ xs) (y ∷ ys) m = (h x y m.0, zip_mapped R S f h xs ys m.1)

module _ (g h k : Graph) (n : ℕ) (t : Isomorphic k h) (room : n + length k.nodes ≤ length g.nodes) (stands : (l : ℕ) → l < length k.nodes → node_at g (n + l) ≡ shifted_node n (node_at k l)) where
  abbrev Q : ℕ → ℕ → Type 0
  Q = StandIn (moved n t.pairs)

  back : (i j : ℕ) → Q i j → (l : ℕ) × StandIn t.pairs l j × (i ≡ n + l)
  back i j q = let r = moved_at n t.pairs q.0 i j q.1 in (r.0, (q.0, r.1), r.2)

  forth : (l j : ℕ) → StandIn t.pairs l j → Q (n + l) j
  forth l j p = (p.0, at_moved n t.pairs p.0 l j p.1)

  value_moved : (v w : Value) → ValuesMatch (StandIn t.pairs) v w → ValuesMatch Q (shifted_value n v) w
  value_moved (leaf x) (leaf y) m = m
  value_moved (leaf x) (node j) m = elim m [ ]
  value_moved (node i) (leaf y) m = elim m [ ]
  value_moved (node i) (node j) m = forth i j m

  node_moved : (a b : Node) → NodesMatch (StandIn t.pairs) a b → NodesMatch Q (shifted_node n a) b
  node_moved a b m = record {
    head = m.head;
    names = subst (λ ps. AllZip (PairsMatch Q) ps (by_name b.names)) (sym (sorted_shifted n a.names)) (zip_mapped (PairsMatch (StandIn t.pairs)) (PairsMatch Q) (λ (p : List ℕ × Value). (p.0, shifted_value n p.1)) (λ p q e. (e.0, value_moved p.1 q.1 e.1)) (by_name a.names) (by_name b.names) m.names);
    values = zip_mapped (ValuesMatch (StandIn t.pairs)) (ValuesMatch Q) (shifted_value n) value_moved a.values b.values m.values;
  }

  stands_in : Isomorphic (record g { root = shifted_value n k.root }) h
  stands_in = record {
    pairs = moved n t.pairs;
    left = λ i j m p q.
        let a = back i j p in let b = back i m q in
        let same : b.0 ≡ a.0 = omega (arith, a.2, b.2) in
        t.left a.0 j m a.1 (subst (λ l. StandIn t.pairs l m) same b.1);
    right = λ i j m p q.
        let a = back i m p in let b = back j m q in
        let same : a.0 ≡ b.0 = t.right a.0 b.0 m a.1 b.1 in omega (arith, a.2, b.2, same);
    within = λ i j p. let a = back i j p in let w = t.within a.0 j a.1 in (omega (arith, a.2, w.0, room), w.1);
    root = value_moved k.root h.root t.root;
    nodes = λ i j p.
        let a = back i j p in
        let w = t.within a.0 j a.1 in
        subst (λ m. NodesMatch Q (node_at g m) (node_at h j)) (sym a.2) (subst (λ x. NodesMatch Q x (node_at h j)) (sym (stands a.0 w.0)) (node_moved (node_at k a.0) (node_at h j) (t.nodes a.0 j a.1)));
  }

-- The nodes and values of a batch.

abbrev placed : ℕ → List Graph → List Node
placed n [] = []
placed n (g ∷ gs) = shifted_nodes n g.nodes ++ placed (n + length g.nodes) gs

abbrev roots : ℕ → List Graph → List Value
roots n [] = []
roots n (g ∷ gs) = shifted_value n g.root ∷ roots (n + length g.nodes) gs

shifted_length : (n : ℕ) (ns : List Node) → length (shifted_nodes n ns) ≡ length ns
shifted_length n ns = length-map ns (shifted_node n)

more_length : (b : Batch) (g : Graph) → length (and_graph b g).nodes ≡ length b.nodes + length g.nodes
more_length b g = length-append b.nodes (shifted_nodes (length b.nodes) g.nodes) ∙ ap (λ m. length b.nodes + m) (shifted_length (length b.nodes) g.nodes)

batch_nodes : (b : Batch) (gs : List Graph) → (batch_of b gs).nodes ≡ b.nodes ++ placed (length b.nodes) gs
batch_nodes b [] = sym (append-nil b.nodes)
batch_nodes b (g ∷ gs) =
    batch_nodes (and_graph b g) gs
    ∙ (ap (λ m. (and_graph b g).nodes ++ placed m gs) (more_length b g)
    ∙ append_assoc b.nodes (shifted_nodes (length b.nodes) g.nodes) (placed (length b.nodes + length g.nodes) gs))

batch_values : (b : Batch) (gs : List Graph) → (batch_of b gs).values ≡ b.values ++ roots (length b.nodes) gs
batch_values b [] = sym (append-nil b.values)
batch_values b (g ∷ gs) =
    batch_values (and_graph b g) gs
    ∙ (ap (λ m. (and_graph b g).values ++ roots m gs) (more_length b g)
    ∙ append_assoc b.values (shifted_value (length b.nodes) g.root ∷ []) (roots (length b.nodes + length g.nodes) gs))

-- One message among the nodes of a graph.

-- the nodes of m stand in g behind the front
spot : (front ms rest : List Node) (g : Graph) → g.nodes ≡ front ++ (shifted_nodes (length front) ms ++ rest) → (l : ℕ) → l < length ms → node_at g (length front + l) ≡ shifted_node (length front) (get_or ms l no_node)
spot front ms rest g e l less =
    ap (λ ns. get_or ns (length front + l) no_node) e
    ∙ (get_or-append-add front (shifted_nodes (length front) ms ++ rest) l no_node
    ∙ (get_or_append_left (shifted_nodes (length front) ms) rest no_node l (omega (arith, shifted_length (length front) ms, less))
    ∙ listn.get_or-map (shifted_node (length front)) ms l no_node))

body_member : (vs : List Value) → length vs ≡ 8 → (c : Value) (f : Value → Value) → value_named body_name (sealed_pairs common_names (map f (with_client c (other_values vs))) ++ []) ≡ f (first_of vs)
body_member (a ∷ b ∷ d ∷ e ∷ x ∷ y ∷ z ∷ w ∷ []) l c f = refl
body_member [] l c f = absurd cc
body_member (a ∷ []) l c f = absurd cc
body_member (a ∷ b ∷ []) l c f = absurd cc
body_member (a ∷ b ∷ d ∷ []) l c f = absurd cc
body_member (a ∷ b ∷ d ∷ e ∷ []) l c f = absurd cc
body_member (a ∷ b ∷ d ∷ e ∷ x ∷ []) l c f = absurd cc
body_member (a ∷ b ∷ d ∷ e ∷ x ∷ y ∷ []) l c f = absurd cc
body_member (a ∷ b ∷ d ∷ e ∷ x ∷ y ∷ z ∷ []) l c f = absurd cc
body_member (a ∷ b ∷ d ∷ e ∷ x ∷ y ∷ z ∷ w ∷ u ∷ vs) l c f = absurd (omega (arith, l))

-- the same, where the length of the front is said
spot_at : (n : ℕ) (front ms rest : List Node) (g : Graph) → length front ≡ n → g.nodes ≡ front ++ (shifted_nodes n ms ++ rest) → (l : ℕ) → l < length ms → node_at g (n + l) ≡ shifted_node n (get_or ms l no_node)
spot_at n front ms rest g same =
    subst (λ k. g.nodes ≡ front ++ (shifted_nodes k ms ++ rest) → (l : ℕ) → l < length ms → node_at g (k + l) ≡ shifted_node k (get_or ms l no_node)) same (spot front ms rest g)

-- an item by its node
abbrev item_of : Graph → Node → Item Graph
item_of g a = record { kind = head_kind a.head a; body = record g { root = named_in body_name (pairs_by_kind a.head a) } }

module _ (n : ℕ) (front rest : List Node) (g : Graph) (same : length front ≡ n) where
  invalidate_read : (r : Reply) → g.nodes ≡ front ++ (shifted_nodes n (invalidate_graph r).nodes ++ rest) → (item_at g (shifted_value n (invalidate_graph r).root)).kind ≡ Invalidate
  invalidate_read r e = ap (λ (a : Node). head_kind a.head a) (spot_at n front (invalidate_graph r).nodes rest g same e 1 (omega arith))

  module _ (d : BatchMessage) (stored : IsStored d.message) (e : g.nodes ≡ front ++ (shifted_nodes n (delivered_graph d.subscription d.message).nodes ++ rest)) where
    abbrev s : Graph
    s = d.message

    abbrev last : Node
    last = delivered_node d.subscription (other_values (values_at s s.root))

    abbrev body : Graph
    body = record g { root = shifted_value n (first_of (values_at s s.root)) }

    at_root : node_at g (n + (length s.nodes + 0)) ≡ shifted_node n last
    at_root =
        spot_at n front (s.nodes ++ (last ∷ [])) rest g same e (length s.nodes + 0) (omega (arith, length-append s.nodes (last ∷ [])))
        ∙ ap (shifted_node n) (get_or-append-add s.nodes (last ∷ []) 0 no_node)

    delivered_read : item_at g (shifted_value n (delivered_graph d.subscription d.message).root) ≡ record { kind = Async; body = body }
    delivered_read =
        ap (item_of g) at_root
        ∙ ap (λ (v : Value). record { kind = Async; body = record g { root = v } }) (body_member (values_at s s.root) stored.eight (client_value d.subscription) (shifted_value n))

    stands : (l : ℕ) → l < length s.nodes → node_at g (n + l) ≡ shifted_node n (node_at s l)
    stands l less =
        spot_at n front (s.nodes ++ (last ∷ [])) rest g same e l (omega (arith, length-append s.nodes (last ∷ []), less))
        ∙ ap (shifted_node n) (get_or_append_left s.nodes (last ∷ []) no_node l less)

    room : n + length s.nodes ≤ length g.nodes
    room = omega (arith, ap length e, length-append front (shifted_nodes n (s.nodes ++ (last ∷ [])) ++ rest), length-append (shifted_nodes n (s.nodes ++ (last ∷ []))) rest, shifted_length n (s.nodes ++ (last ∷ [])), length-append s.nodes (last ∷ []), same)

    body_same : Isomorphic (body_in s) body
    body_same = isomorphic_sym body (body_in s) (stands_in g (body_in s) (body_in s) n (isomorphic_refl (body_in s) stored.there) room stands)

-- Item after item.

record Reads (items : List (Item Graph)) (ds : List BatchMessage) : Type 0 where
  all : list_all (λ i. is_item i.kind) items ≡ true
  bodies : List Graph
  told : flat_map (λ i. body_of i.kind i.body) items ≡ bodies
  same : AreBodiesOf ds bodies

front_more : (n : ℕ) (front ms : List Node) → length front ≡ n → length (front ++ shifted_nodes n ms) ≡ n + length ms
front_more n front ms same = omega (arith, length-append front (shifted_nodes n ms), shifted_length n ms, same)

ends_read : (n : ℕ) (front : List Node) (ends : List Reply) (rest : List Node) (g : Graph) → length front ≡ n → g.nodes ≡ front ++ (placed n (map invalidate_graph ends) ++ rest)
    → Reads (map (item_at g) (roots n (map invalidate_graph ends))) []
ends_read n front [] rest g same e = record { all = refl; bodies = []; told = refl; same = tt }
ends_read n front (r ∷ ends) rest g same e =
    let m = invalidate_graph r in
    let ms = shifted_nodes n m.nodes in
    let to = n + length m.nodes in
    let more = placed to (map invalidate_graph ends) in
    let here : g.nodes ≡ front ++ (ms ++ (more ++ rest)) = e ∙ ap (λ (l : List Node). front ++ l) (append_assoc ms more rest) in
    let there : g.nodes ≡ (front ++ ms) ++ (more ++ rest) = here ∙ sym (append_assoc front ms (more ++ rest)) in
    let next = ends_read to (front ++ ms) ends rest g (front_more n front m.nodes same) there in
    let first = item_at g (shifted_value n m.root) in
    let items = map (item_at g) (roots to (map invalidate_graph ends)) in
    let kind = invalidate_read n front (more ++ rest) g same r here in
    record {
      all = ap (λ (k : MessageKind). is_item k && list_all (λ i. is_item i.kind) items) kind ∙ next.all;
      bodies = next.bodies;
      told = ap (λ (k : MessageKind). body_of k first.body ++ flat_map (λ i. body_of i.kind i.body) items) kind ∙ next.told;
      same = next.same;
    }

all_read : (n : ℕ) (front : List Node) (ds : List BatchMessage) (ends : List Reply) (rest : List Node) (g : Graph) → AllByRecursion (λ d. IsStored d.message) ds → length front ≡ n
    → g.nodes ≡ front ++ (placed n (messages_of ds ends) ++ rest) → Reads (map (item_at g) (roots n (messages_of ds ends))) ds
all_read n front [] ends rest g stored same e = ends_read n front ends rest g same e
all_read n front (d ∷ ds) ends rest g stored same e =
    let m = delivered_graph d.subscription d.message in
    let ms = shifted_nodes n m.nodes in
    let to = n + length m.nodes in
    let more = placed to (messages_of ds ends) in
    let here : g.nodes ≡ front ++ (ms ++ (more ++ rest)) = e ∙ ap (λ (l : List Node). front ++ l) (append_assoc ms more rest) in
    let there : g.nodes ≡ (front ++ ms) ++ (more ++ rest) = here ∙ sym (append_assoc front ms (more ++ rest)) in
    let next = all_read to (front ++ ms) ds ends rest g stored.1 (front_more n front m.nodes same) there in
    let items = map (item_at g) (roots to (messages_of ds ends)) in
    let body : Graph = record g { root = shifted_value n (first_of (values_at d.message d.message.root)) } in
    let item = delivered_read n front (more ++ rest) g same d stored.0 here in
    record {
      all = ap (λ (i : Item Graph). is_item i.kind && list_all (λ i. is_item i.kind) items) item ∙ next.all;
      bodies = body ∷ next.bodies;
      told = ap (λ (i : Item Graph). body_of i.kind i.body ++ flat_map (λ i. body_of i.kind i.body) items) item ∙ ap (λ (l : List Graph). body ∷ l) next.told;
      same = (body_same n front (more ++ rest) g same d stored.0 here, next.same);
    }

-- The whole reply.

module _ (r : Reply) (gs : List Graph) where
  abbrev b : Batch
  b = batch_of empty_batch gs

  abbrev count : ℕ
  count = length b.nodes

  abbrev all : Graph
  all = sync_graph r gs

  at_more : (k : ℕ) → node_at all (count + k) ≡ get_or (sync_nodes r b.values count) k no_node
  at_more k = get_or-append-add b.nodes (sync_nodes r b.values count) k no_node

  at_headers : node_at all count ≡ headers_node r.ds_id
  at_headers = let none : count ≡ count + 0 = omega arith in ap (node_at all) none ∙ at_more 0

  at_items : node_at all (suc count) ≡ items_node b.values
  at_items = let one : suc count ≡ count + 1 = omega arith in ap (node_at all) one ∙ at_more 1

  seen_kind : kind_at all all.root ≡ Sync
  seen_kind = ap (λ (a : Node). head_kind a.head a) (at_more 2)

  member : (x : List ℕ) → member_at all x all.root ≡ named_in x (pairs_by_kind (object command_traits) (command_node 4 r (node (suc count)) (node count)))
  member x = ap (λ (a : Node). named_in x (pairs_by_kind a.head a)) (at_more 2)

  seen_correlation : text_alone (member_at all correlation_name all.root) ≡ Some r.correlation
  seen_correlation = ap text_alone (member correlation_name)

  seen_id : text_alone (member_at all ds_id_name (member_at all headers_name all.root)) ≡ Some r.ds_id
  seen_id = ap (λ (v : Value). text_alone (member_at all ds_id_name v)) (member headers_name) ∙ ap (λ (a : Node). text_alone (named_in ds_id_name (pairs_by_kind a.head a))) at_headers

  seen_items : items_at all (member_at all body_name all.root) ≡ Some (map (item_at all) b.values)
  seen_items = ap (items_at all) (member body_name) ∙ ap (λ (a : Node). dense_items all a.head a) at_items

  seen_all : seen_of all ≡ record { kind = Sync; correlation = Some r.correlation; ds_id = Some r.ds_id; items = Some (map (item_at all) b.values) }
  seen_all =
      ap (λ (k : MessageKind). record { kind = k; correlation = text_alone (member_at all correlation_name all.root); ds_id = text_alone (member_at all ds_id_name (member_at all headers_name all.root)); items = items_at all (member_at all body_name all.root) }) seen_kind
      ∙ (ap (λ (c : Option (List ℕ)). record { kind = Sync; correlation = c; ds_id = text_alone (member_at all ds_id_name (member_at all headers_name all.root)); items = items_at all (member_at all body_name all.root) }) seen_correlation
      ∙ (ap (λ (i : Option (List ℕ)). record { kind = Sync; correlation = Some r.correlation; ds_id = i; items = items_at all (member_at all body_name all.root) }) seen_id
      ∙ ap (λ (l : Option (List (Item Graph))). record { kind = Sync; correlation = Some r.correlation; ds_id = Some r.ds_id; items = l }) seen_items))

same_text : (xs ys : List ℕ) → xs ≡ ys → bytes_eq xs ys ≡ true
same_text xs ys e = (bytes_eq-Decides xs ys).1 e

all_true : (a b c : Bool) → a ≡ true → b ≡ true → c ≡ true → (a && b && c) ≡ true
all_true true true true d e f = refl
all_true true true false d e f = absurd cc
all_true true false c d e f = absurd cc
all_true false b c d e f = absurd cc

-- what answers a request is its reply
answer_read : (r : Request) (s : Seen Graph) → is_text (message_id r) s.correlation ≡ true → is_answer s ≡ true → has_id r s.ds_id ≡ true → turn_of r s ≡ reply (or_empty s.ds_id) (bodies_in s.kind s.items)
answer_read r s d e f = ap (λ (t : Bool). if t then reply (or_empty s.ds_id) (bodies_in s.kind s.items) else bad 6) (all_true (is_text (message_id r) s.correlation) (is_answer s) (has_id r s.ds_id) d e f)

turn_read : (n : ℕ) (text ds : List ℕ) (items : List (Item Graph)) → bytes_eq text (decimal n) ≡ true → list_all (λ i. is_item i.kind) items ≡ true
    → turn_of (Poll n) (record { kind = Sync; correlation = Some text; ds_id = Some ds; items = Some items }) ≡ reply ds (flat_map (λ i. body_of i.kind i.body) items)
turn_read n text ds items e f = answer_read (Poll n) (record { kind = Sync; correlation = Some text; ds_id = Some ds; items = Some items }) e f refl

sync_read : (n : ℕ) (r : Reply) (ds : List BatchMessage) (ends : List Reply) → AllByRecursion (λ d. IsStored d.message) ds → r.correlation ≡ decimal n
    → (bodies : List Graph) × (turn_of (Poll n) (seen_of (sync_graph r (messages_of ds ends))) ≡ reply r.ds_id bodies) × AreBodiesOf ds bodies
sync_read n r ds ends stored e =
    let gs = messages_of ds ends in
    let g = sync_graph r gs in
    let values = (batch_of empty_batch gs).values in
    let nodes : g.nodes ≡ placed 0 gs ++ sync_nodes r values (length (batch_of empty_batch gs).nodes) = ap (λ (l : List Node). l ++ sync_nodes r values (length (batch_of empty_batch gs).nodes)) (batch_nodes empty_batch gs) in
    let x = all_read 0 [] ds ends (sync_nodes r values (length (batch_of empty_batch gs).nodes)) g stored refl nodes in
    let y = subst (λ (l : List Value). list_all (λ i. is_item i.kind) (map (item_at g) l) ≡ true) (sym (batch_values empty_batch gs)) x.all in
    let z = subst (λ (l : List Value). flat_map (λ i. body_of i.kind i.body) (map (item_at g) l) ≡ x.bodies) (sym (batch_values empty_batch gs)) x.told in
    (x.bodies, ap (turn_of (Poll n)) (seen_all r gs) ∙ (turn_read n r.correlation r.ds_id (map (item_at g) values) (same_text r.correlation (decimal n) e) y ∙ ap (reply r.ds_id) z), x.same)

empty_read : (n : ℕ) (r : Reply) → r.correlation ≡ decimal n → turn_of (Poll n) (seen_of (acknowledge_graph r (record { nodes = []; root = null_value }) null_value)) ≡ reply r.ds_id []
empty_read n r e = answer_read (Poll n) (seen_of (acknowledge_graph r (record { nodes = []; root = null_value }) null_value)) (same_text r.correlation (decimal n) e) refl refl

pub batches_are_read : BatchesAreRead
batches_are_read = record { sync = sync_read; empty = empty_read; alike = read_alike }
