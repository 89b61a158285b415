-- Messages that are added one after another to an empty builder, and the sync that holds them.
use Rattle.std.proofs.Common.{◌≡◌, ◌∙◌, ℕ, suc, ◌+◌, ◌<◌, ◌≤◌, List, [], ◌∷◌, ◌++◌, ◌⊎◌, length, map, refl, sym, ap, subst, arith, inl, inr, append_assoc, append-nil, length-append}
use Rattle.std.specs.Prelude.{decimal}
use Rattle.std.specs.List.{AllByRecursion}
use Rattle.amf_graph.specs.declared.value.Value.{Value as Stored}
use Rattle.amf_graph.specs.Arena.{Arena, IsFinished, IsBuilt, Names, graph_of, value_content}
use Rattle.amf_graph.specs.Bounds.{weight}
use Rattle.amf_graph.specs.Building.{no_arena, stored_at}
use Rattle.amf_graph.specs.Grafting.{node_value}
use Rattle.amf_graph.specs.Graph.{Graph, Node}
use Rattle.amf_graph.specs.Isomorphic.{Isomorphic}
use Rattle.amf_graph.specs.Rooted.{RootedArena, content}
use Rattle.amf_graph.proofs.Alls.{all_weaker}
use Rattle.amf_graph.proofs.Built.{stands}
use Rattle.amf_graph.proofs.FinishedSmall.{completes_itself}
use Rattle.flex_msgs.specs.declared.reply.Reply.{Reply}
use Rattle.flex_msgs.specs.Answers.{delivered_graph, invalidate_graph, sync_graph}
use Rattle.flex_msgs.specs.Built.{Adds, Delivers, Invalidates, Syncs, IsStored as HoldsStored, IsStoredAt, GrewBy, HasRoomFor, LacksRoomFor, client_texts}
use Rattle.flex_msgs.specs.FlexLaws.{AddsDelivered, AddsInvalidate, AddsBatch}
use Rattle.flex_msgs.specs.Messages.{delivered_node, invalidate_nodes, other_values, sync_nodes}
use Rattle.flex_msgs.proofs.Batched.{batch_law, sync_law}
use Rattle.flex_msgs.proofs.Delivering.{eight_values, others_count, others_named}
use Rattle.flex_msgs.proofs.PublishedAlike.{completes_earlier}
use Rattle.flex_msgs.proofs.Rooms.{grew_graft}
use Rattle.amf_flex_replies.specs.declared.sync_messages.Batch.{Batch}
use Rattle.amf_flex_replies.specs.Batching.{Holds, HoldsAll, Adds as Puts, GrewWithin}
use Rattle.amf_answer_plan.proofs.Closed.{AllClosed, closed_at, adds_closed, graft_closed}
use Rattle.amf_answer_plan.proofs.Uses.{texts_used, traits_used, nodes_used}

abbrev pub AddsOne : Graph → Arena → Arena → Stored → Type 0
AddsOne g old new v = AddsDelivered g old new v ⊎ AddsInvalidate g old new v

-- one more behind them
pub batch_more : (old mid new : Arena) (gs : List Graph) (vs : List Stored) (g : Graph) (v : Stored) → AddsBatch old gs vs mid → AddsOne g mid new v → AddsBatch old (gs ++ g ∷ []) (vs ++ v ∷ []) new
batch_more old mid new [] [] g v b one = (new, subst (λ (z : Arena). AddsOne g z new v) b one, refl)
batch_more old mid new [] (w ∷ vs) g v b one = absurd b
batch_more old mid new (h ∷ gs) [] g v b one = absurd b
batch_more old mid new (h ∷ gs) (w ∷ vs) g v b one = (b.0, b.1, batch_more b.0 mid new gs vs g v b.2 one)

pub holds_none : (a : Arena) (vs : List Stored) → a ≡ no_arena → vs ≡ [] → Holds a vs []
holds_none a vs e f = subst (λ (ws : List Stored). AddsBatch no_arena [] ws a) (sym f) e

-- All nodes are closed, and the roots are nodes.

one_closed : (g : Graph) (old new : Arena) (v : Stored) → AddsOne g old new v → AllClosed old.nodes → AllClosed new.nodes
one_closed g old new v (inl d) h =
    adds_closed d.adds.between new v (λ z. delivered_node d.client (map (value_content z) d.adds.others) ∷ [])
    (graft_closed d.stored (other_values (stored_at d.stored d.place).values) old d.adds.between d.adds.others d.finished h d.adds.grafted) d.adds.added
one_closed g old new v (inr i) h = adds_closed old new v (λ z. invalidate_nodes i.reply (length old.nodes)) h i.adds

batch_closed : (gs : List Graph) (vs : List Stored) (old new : Arena) → AddsBatch old gs vs new → AllClosed old.nodes → AllClosed new.nodes
batch_closed [] [] old new b h = subst (λ (z : Arena). AllClosed z.nodes) (sym b) h
batch_closed [] (v ∷ vs) old new b h = absurd b
batch_closed (g ∷ gs) [] old new b h = absurd b
batch_closed (g ∷ gs) (v ∷ vs) old new b h = batch_closed gs vs b.0 new b.2 (one_closed g old b.0 v b.1 h)

pub held_closed : (a : Arena) (vs : List Stored) → (gs : List Graph) × Holds a vs gs → AllClosed a.nodes
held_closed a vs (gs, b) = batch_closed gs vs no_arena a b tt

-- the value is a node of the arena
abbrev IsNode : Arena → Stored → Type 0
IsNode a v = (k : ℕ) × (v ≡ node_value k) × (k < length a.nodes)

added_node : (old new : Arena) (v : Stored) (written : Arena → List Node) → Adds old new v written → IsNode new v × (length old.nodes ≤ length new.nodes)
added_node old new v written a =
    let size : length new.nodes ≡ length old.nodes + suc a.last = ap length a.nodes ∙ length-append old.nodes a.more_nodes ∙ ap (λ n. length old.nodes + n) a.count in
    ((length old.nodes + a.last, a.value, omega (arith, size)), omega (arith, size))

one_node : (g : Graph) (old new : Arena) (v : Stored) → AddsOne g old new v → IsNode new v × (length old.nodes ≤ length new.nodes)
one_node g old new v (inl d) =
    let n = added_node d.adds.between new v (λ z. delivered_node d.client (map (value_content z) d.adds.others) ∷ []) d.adds.added in
    let grew = grew_graft d.stored (other_values (stored_at d.stored d.place).values) old d.adds.between d.adds.others d.adds.grafted in
    (n.0, omega (arith, n.1, grew.nodes))
one_node g old new v (inr i) = added_node old new v (λ z. invalidate_nodes i.reply (length old.nodes)) i.adds

batch_nodes : (gs : List Graph) (vs : List Stored) (old new : Arena) → AddsBatch old gs vs new → AllByRecursion (IsNode new) vs × (length old.nodes ≤ length new.nodes)
batch_nodes [] [] old new b = (tt, omega (arith, ap (λ (z : Arena). length z.nodes) b))
batch_nodes [] (v ∷ vs) old new b = absurd b
batch_nodes (g ∷ gs) [] old new b = absurd b
batch_nodes (g ∷ gs) (v ∷ vs) old new b =
    let later = batch_nodes gs vs b.0 new b.2 in
    let first = one_node g old b.0 v b.1 in
    (((first.0.0, first.0.1, omega (arith, first.0.2, later.1)), later.0), omega (arith, first.1, later.1))

node_names : (a : Arena) (v : Stored) → IsNode a v → Names a v
node_names a v (k, e, l) = subst (Names a) (sym e) l

pub held_names : (a : Arena) (vs : List Stored) → (gs : List Graph) × Holds a vs gs → AllByRecursion (Names a) vs
held_names a vs (gs, b) = all_weaker (IsNode a) (Names a) vs (node_names a) (batch_nodes gs vs no_arena a b).0

-- The sync.

pub sync_built : (r : Reply) (gs : List Graph) (vs : List Stored) (old new : Arena) (u : Stored) (g : RootedArena) → Holds old vs gs → Syncs r vs old new u → IsFinished new → g ≡ record { arena = new; root = u } → Isomorphic (sync_graph r gs) (content g)
sync_built r gs vs old new u g b s fin e =
    let done = completes_itself new fin in
    let earlier = completes_earlier old new new u (λ z. sync_nodes r (map (value_content z) vs) (length old.nodes)) s done in
    subst (λ (z : RootedArena). Isomorphic (sync_graph r gs) (content z)) (sym e)
    (sync_law r vs old new u s new done gs 0 (batch_law gs vs no_arena old b new earlier))

-- Room for a stored message that is no longer than it may be.

client_few : (x : List ℕ) → client_texts x ≤ 1
client_few [] = omega arith
client_few (b ∷ x) = omega arith

module _ (a : Arena) (i : ℕ) (fin : IsFinished a) (stored : IsStoredAt a i) (there : i < length a.nodes) (light : weight a ≤ 32768) where
  abbrev vs : List Stored
  vs = other_values (stored_at a i).values

  seven : length vs ≡ 7
  seven = others_count (stored_at a i).values (eight_values a i stored (stands a i fin.built there) (closed_at a.nodes i fin.closed))

  named : AllByRecursion (Names a) vs
  named = others_named (Names a) (stored_at a i).values (stands a i fin.built there).values

  pub never_full : (client : List ℕ) (old : Arena) → HasRoomFor old 65600 32800 32800 → LacksRoomFor a vs old (9 + client_texts client) → ⊥
  never_full client old room (cut, exact, never) =
      let texts = texts_used a vs fin named cut exact in
      let traits = traits_used a vs fin named cut exact in
      let nodes = nodes_used a vs fin named cut exact in
      never (record {
        texts = omega (arith, texts, seven, light, room.texts, client_few client);
        traits = omega (arith, traits, light, room.traits);
        nodes = omega (arith, nodes, light, room.nodes);
      })

  pub delivered_grew : (client : List ℕ) (old new : Arena) (v : Stored) → Delivers a i client old new v → GrewWithin old new 65600 32800 32800
  delivered_grew client old new v d =
      let cut = d.grafted.cut in
      let first = grew_graft a vs old d.between d.others d.grafted in
      let then = d.grew in
      let texts = texts_used a vs fin named cut d.grafted.exact in
      let traits = traits_used a vs fin named cut d.grafted.exact in
      let nodes = nodes_used a vs fin named cut d.grafted.exact in
      record {
        texts = omega (arith, texts, seven, light, first.texts, then.texts, client_few client);
        traits = omega (arith, traits, light, first.traits, then.traits);
        nodes = omega (arith, nodes, light, first.nodes, then.nodes);
      }

-- What each call adds.

pub delivered_adds : (m : RootedArena) (client : List ℕ) (sub : ℕ) (old new : Arena) (vs ws : List Stored) (v : Stored) → IsFinished m.arena → IsBuilt old → Names m.arena m.root → HoldsStored m → client ≡ decimal sub →
    ((i : ℕ) → m.root ≡ node_value i → Delivers m.arena i client old new v) → ws ≡ vs ++ v ∷ [] → (gs : List Graph) → Holds old vs gs → Holds new ws (gs ++ delivered_graph (decimal sub) (content m) ∷ [])
delivered_adds m client sub old new vs ws v fin built named (i, root, stored) same adds e gs h =
    let one : AddsDelivered (delivered_graph (decimal sub) (content m)) old new v = record {
      stored = m.arena;
      place = i;
      client = client;
      finished = fin;
      built = built;
      there = subst (Names m.arena) root named;
      adds = adds i root;
      graph = ap (λ (x : List ℕ). delivered_graph x (content m)) (sym same) ∙ ap (λ (w : Stored). delivered_graph client (graph_of m.arena w)) root;
    } in
    subst (λ (us : List Stored). Holds new us (gs ++ delivered_graph (decimal sub) (content m) ∷ [])) (sym e) (batch_more no_arena old new gs vs (delivered_graph (decimal sub) (content m)) v h (inl one))

pub ended_adds : (r : Reply) (old new : Arena) (vs ws : List Stored) (v : Stored) → Invalidates r old new v → ws ≡ vs ++ v ∷ [] → (gs : List Graph) → Holds old vs gs → Holds new ws (gs ++ invalidate_graph r ∷ [])
ended_adds r old new vs ws v adds e gs h =
    let one : AddsInvalidate (invalidate_graph r) old new v = record { reply = r; adds = adds; graph = refl } in
    subst (λ (us : List Stored). Holds new us (gs ++ invalidate_graph r ∷ [])) (sym e) (batch_more no_arena old new gs vs (invalidate_graph r) v h (inr one))

pub adds_none : (b : Batch) → Puts b b []
adds_none b gs h = subst (HoldsAll b) (sym (append-nil gs)) h

pub adds_then : (a b c : Batch) (more : List Graph) (g : Graph) → Puts a b more → Puts b c (g ∷ []) → Puts a c (more ++ g ∷ [])
adds_then a b c more g f h gs held = subst (HoldsAll c) (append_assoc gs more (g ∷ [])) (h (gs ++ more) (f gs held))

-- Room for an invalidate, and for a sync.

pub room_for_end : (x : List ℕ) (a : Arena) → HasRoomFor a 17 2 2 → HasRoomFor a (16 + client_texts x) 2 2
room_for_end x a room = record { texts = omega (arith, room.texts, client_few x); traits = room.traits; nodes = room.nodes }

pub room_for_sync : (x : List ℕ) (a : Arena) → HasRoomFor a 17 2 3 → HasRoomFor a (16 + client_texts x) 2 3
room_for_sync x a room = record { texts = omega (arith, room.texts, client_few x); traits = room.traits; nodes = room.nodes }

pub ended_grew : (x : List ℕ) (old new : Arena) → GrewBy old new (16 + client_texts x) 2 2 → GrewWithin old new 17 2 2
ended_grew x old new g = record { texts = omega (arith, g.texts, client_few x); traits = omega (arith, g.traits); nodes = omega (arith, g.nodes) }
