-- Isomorphic answers are read alike.
use Rattle.std.proofs.Common.{◌≡◌, ◌∙◌, ℕ, Bool, true, false, ◌&&◌, cond, List, [], ◌∷◌, ◌++◌, map, Option, Some, None, refl, ap, subst}
use Rattle.std.specs.Prelude.{flat_map, if◌then◌else◌}
use Rattle.std.specs.List.{AllZip, list_all}
use Rattle.amf_graph.specs.Graph.{Value, leaf, node, array, object, Head, Node, Graph, node_at}
use Rattle.amf_graph.specs.ByName.{before, by_name, insert_stable}
use Rattle.amf_graph.specs.Isomorphic.{ValuesMatch, PairsMatch, NodesMatch, StandIn, Isomorphic}
use Rattle.flex_msgs.specs.Classes.{body_name, headers_name, correlation_name, operation_name, ds_id_name}
use Rattle.flex_msgs.specs.Lookup.{members_of, pairs_of, named_in}
use Rattle.flex_msgs.specs.Viewing.{text_alone, whole_number}
use Rattle.flex_msgs.proofs.ViewedAlike.{Alike, BothOr, members_alike, found, headers_alike}
use Rattle.amf_poll_session.specs.declared.kind.MessageKind.{MessageKind}
use Rattle.amf_poll_session.specs.declared.kind.MessageKind.TheVariants.{Acknowledge, Sync, Invalidate, Async, Foreign}
use Rattle.amf_poll_session.specs.declared.request.Request.{Request}
use Rattle.amf_poll_session.specs.Requests.{message_id}
use Rattle.amf_poll_session.specs.Replies.{Item, class_kind, head_kind, kind_at, member_at, item_at, unnamed_items, dense_items, items_at, seen_of, is_text, is_reply, is_item, are_items, has_id, answers, body_of, bodies_in}
use Rattle.amf_poll_session.specs.Sessions.{reply, bad, or_empty, turn_of}
use Rattle.amf_poll_session.specs.Batches.{TurnsAlike}

-- Items and what is seen, but for the numbers of nodes.

record ItemsAlike (x y : Item Graph) : Type 0 where
  kind : x.kind ≡ y.kind
  body : Isomorphic x.body y.body

abbrev AllAlike : List (Item Graph) → List (Item Graph) → Type 0
AllAlike [] [] = Unit {0}
AllAlike (x ∷ xs) (y ∷ ys) = ItemsAlike x y × AllAlike xs ys
AllAlike _ _ = ⊥

abbrev MaybeAlike : Option (List (Item Graph)) → Option (List (Item Graph)) → Type 0
MaybeAlike None None = Unit {0}
MaybeAlike (Some xs) (Some ys) = AllAlike xs ys
MaybeAlike _ _ = ⊥

-- an insertion leaves something
insert_some : (R : List ℕ × Value → List ℕ × Value → Type 0) (p : List ℕ × Value) (qs : List (List ℕ × Value)) → AllZip R [] (insert_stable before p qs) → ⊥
insert_some R p [] m = elim m [ ]
insert_some R p (q ∷ qs) m = go (before q p) m
  where
    go : (t : Bool) → AllZip R [] (cond t (q ∷ insert_stable before p qs) (p ∷ q ∷ qs)) → ⊥
    go true m = elim m [ ]
    go false m = elim m [ ]

some_insert : (R : List ℕ × Value → List ℕ × Value → Type 0) (p : List ℕ × Value) (qs : List (List ℕ × Value)) → AllZip R (insert_stable before p qs) [] → ⊥
some_insert R p [] m = elim m [ ]
some_insert R p (q ∷ qs) m = go (before q p) m
  where
    go : (t : Bool) → AllZip R (cond t (q ∷ insert_stable before p qs) (p ∷ q ∷ qs)) [] → ⊥
    go true m = elim m [ ]
    go false m = elim m [ ]

module _ (g h : Graph) (i : Isomorphic g h) where
  abbrev P : ℕ → ℕ → Type 0
  P = StandIn i.pairs

  same_text : (v w : Value) → ValuesMatch P v w → text_alone v ≡ text_alone w
  same_text (leaf x) (leaf y) m = ap (λ z. text_alone (leaf z)) m
  same_text (leaf x) (node j) m = elim m [ ]
  same_text (node k) (leaf y) m = elim m [ ]
  same_text (node k) (node j) m = refl

  same_number : (v w : Value) → ValuesMatch P v w → whole_number v ≡ whole_number w
  same_number (leaf x) (leaf y) m = ap (λ z. whole_number (leaf z)) m
  same_number (leaf x) (node j) m = elim m [ ]
  same_number (node k) (leaf y) m = elim m [ ]
  same_number (node k) (node j) m = refl

  named_alike : (x : List ℕ) (a b : Option (List (List ℕ × Value))) → BothOr (Alike P) a b → ValuesMatch P (named_in x a) (named_in x b)
  named_alike x None None m = refl
  named_alike x None (Some qs) m = elim m [ ]
  named_alike x (Some ps) None m = elim m [ ]
  named_alike x (Some ps) (Some qs) m = found P ps qs m x

  member_alike : (x : List ℕ) (v w : Value) → ValuesMatch P v w → ValuesMatch P (member_at g x v) (member_at h x w)
  member_alike x v w m = named_alike x (pairs_of g v) (pairs_of h w) (headers_alike g h i v w m)

  head_alike : (d : Head) (a b : Node) → NodesMatch P a b → head_kind d a ≡ head_kind d b
  head_alike (object t) a b m = ap (class_kind t.class) (same_number _ _ (found P (members_of t a) (members_of t b) (members_alike P t a b m) operation_name))
  head_alike _ a b m = refl

  kind_alike : (v w : Value) → ValuesMatch P v w → kind_at g v ≡ kind_at h w
  kind_alike (leaf x) (leaf y) m = refl
  kind_alike (leaf x) (node k) m = elim m [ ]
  kind_alike (node j) (leaf y) m = elim m [ ]
  kind_alike (node j) (node k) m =
      let n = i.nodes j k m in
      subst (λ d. head_kind (node_at g j).head (node_at g j) ≡ head_kind d (node_at h k)) n.head (head_alike (node_at g j).head (node_at g j) (node_at h k) n)

  rooted_alike : (v w : Value) → ValuesMatch P v w → Isomorphic (record g { root = v }) (record h { root = w })
  rooted_alike v w m = record { pairs = i.pairs; left = i.left; right = i.right; within = i.within; root = m; nodes = i.nodes }

  item_alike : (v w : Value) → ValuesMatch P v w → ItemsAlike (item_at g v) (item_at h w)
  item_alike v w m = record { kind = kind_alike v w m; body = rooted_alike (member_at g body_name v) (member_at h body_name w) (member_alike body_name v w m) }

  all_alike : (vs ws : List Value) → AllZip (ValuesMatch P) vs ws → AllAlike (map (item_at g) vs) (map (item_at h) ws)
  all_alike [] [] m = tt
  all_alike [] (w ∷ ws) m = elim m [ ]
  all_alike (v ∷ vs) [] m = elim m [ ]
  all_alike (v ∷ vs) (w ∷ ws) m = (item_alike v w m.0, all_alike vs ws m.1)

  unnamed_alike : (ps qs : List (List ℕ × Value)) → AllZip (PairsMatch P) (by_name ps) (by_name qs) → (vs ws : List Value) → AllZip (ValuesMatch P) vs ws → MaybeAlike (unnamed_items g ps vs) (unnamed_items h qs ws)
  unnamed_alike [] [] m vs ws n = all_alike vs ws n
  unnamed_alike [] (q ∷ qs) m vs ws n = absurd (insert_some (PairsMatch P) q (by_name qs) m)
  unnamed_alike (p ∷ ps) [] m vs ws n = absurd (some_insert (PairsMatch P) p (by_name ps) m)
  unnamed_alike (p ∷ ps) (q ∷ qs) m vs ws n = tt

  dense_alike : (d : Head) (a b : Node) → NodesMatch P a b → MaybeAlike (dense_items g d a) (dense_items h d b)
  dense_alike array a b m = unnamed_alike a.names b.names m.names a.values b.values m.values
  dense_alike _ a b m = tt

  items_alike : (v w : Value) → ValuesMatch P v w → MaybeAlike (items_at g v) (items_at h w)
  items_alike (leaf x) (leaf y) m = tt
  items_alike (leaf x) (node k) m = elim m [ ]
  items_alike (node j) (leaf y) m = elim m [ ]
  items_alike (node j) (node k) m =
      let n = i.nodes j k m in
      subst (λ d. MaybeAlike (dense_items g (node_at g j).head (node_at g j)) (dense_items h d (node_at h k))) n.head (dense_alike (node_at g j).head (node_at g j) (node_at h k) n)

  same_correlation : (seen_of g).correlation ≡ (seen_of h).correlation
  same_correlation = same_text _ _ (member_alike correlation_name g.root h.root i.root)

  same_id : (seen_of g).ds_id ≡ (seen_of h).ds_id
  same_id = same_text _ _ (member_alike ds_id_name (member_at g headers_name g.root) (member_at h headers_name h.root) (member_alike headers_name g.root h.root i.root))

  same_items : MaybeAlike (seen_of g).items (seen_of h).items
  same_items = items_alike (member_at g body_name g.root) (member_at h body_name h.root) (member_alike body_name g.root h.root i.root)

-- What a turn makes of them.

all_items : (xs ys : List (Item Graph)) → AllAlike xs ys → list_all (λ i. is_item i.kind) xs ≡ list_all (λ i. is_item i.kind) ys
all_items [] [] m = refl
all_items [] (y ∷ ys) m = elim m [ ]
all_items (x ∷ xs) [] m = elim m [ ]
all_items (x ∷ xs) (y ∷ ys) m =
    ap (λ (k : MessageKind). is_item k && list_all (λ i. is_item i.kind) xs) m.0.kind
    ∙ ap (λ (b : Bool). is_item y.kind && b) (all_items xs ys m.1)

same_are : (k : MessageKind) (a b : Option (List (Item Graph))) → MaybeAlike a b → are_items k a ≡ are_items k b
same_are Sync None None m = refl
same_are Sync None (Some ys) m = elim m [ ]
same_are Sync (Some xs) None m = elim m [ ]
same_are Sync (Some xs) (Some ys) m = all_items xs ys m
same_are Acknowledge a b m = refl
same_are Invalidate a b m = refl
same_are Async a b m = refl
same_are Foreign a b m = refl

more_bodies : (k : MessageKind) (b c : Graph) → Isomorphic b c → (bs cs : List Graph) → AllZip Isomorphic bs cs → AllZip Isomorphic (body_of k b ++ bs) (body_of k c ++ cs)
more_bodies Async b c m bs cs n = (m, n)
more_bodies Acknowledge b c m bs cs n = n
more_bodies Sync b c m bs cs n = n
more_bodies Invalidate b c m bs cs n = n
more_bodies Foreign b c m bs cs n = n

all_bodies : (xs ys : List (Item Graph)) → AllAlike xs ys → AllZip Isomorphic (flat_map (λ i. body_of i.kind i.body) xs) (flat_map (λ i. body_of i.kind i.body) ys)
all_bodies [] [] m = tt
all_bodies [] (y ∷ ys) m = elim m [ ]
all_bodies (x ∷ xs) [] m = elim m [ ]
all_bodies (x ∷ xs) (y ∷ ys) m =
    subst (λ (k : MessageKind). AllZip Isomorphic (body_of x.kind x.body ++ flat_map (λ i. body_of i.kind i.body) xs) (body_of k y.body ++ flat_map (λ i. body_of i.kind i.body) ys)) m.0.kind
    (more_bodies x.kind x.body y.body m.0.body _ _ (all_bodies xs ys m.1))

same_bodies : (k : MessageKind) (a b : Option (List (Item Graph))) → MaybeAlike a b → AllZip Isomorphic (bodies_in k a) (bodies_in k b)
same_bodies Sync None None m = tt
same_bodies Sync None (Some ys) m = elim m [ ]
same_bodies Sync (Some xs) None m = elim m [ ]
same_bodies Sync (Some xs) (Some ys) m = all_bodies xs ys m
same_bodies Acknowledge a b m = tt
same_bodies Invalidate a b m = tt
same_bodies Async a b m = tt
same_bodies Foreign a b m = tt

turn_alike : (r : Request) (k : MessageKind) (c d : Option (List ℕ)) (a b : Option (List (Item Graph))) → MaybeAlike a b
    → TurnsAlike (turn_of r (record { kind = k; correlation = c; ds_id = d; items = a })) (turn_of r (record { kind = k; correlation = c; ds_id = d; items = b }))
turn_alike r k c d a b m =
    let same : answers r (record { kind = k; correlation = c; ds_id = d; items = a }) ≡ answers r (record { kind = k; correlation = c; ds_id = d; items = b })
    = ap (λ (t : Bool). is_text (message_id r) c && (is_reply k && t) && has_id r d) (same_are k a b m) in
    go (answers r (record { kind = k; correlation = c; ds_id = d; items = a })) (answers r (record { kind = k; correlation = c; ds_id = d; items = b })) same
  where
    go : (t u : Bool) → t ≡ u → TurnsAlike (if t then reply (or_empty d) (bodies_in k a) else bad 6) (if u then reply (or_empty d) (bodies_in k b) else bad 6)
    go true true e = (refl, same_bodies k a b m)
    go true false e = absurd cc
    go false true e = absurd cc
    go false false e = refl

pub read_alike : (r : Request) (g h : Graph) → Isomorphic g h → TurnsAlike (turn_of r (seen_of g)) (turn_of r (seen_of h))
read_alike r g h i =
    subst (λ (k : MessageKind). TurnsAlike (turn_of r (seen_of g)) (turn_of r (record { kind = k; correlation = (seen_of h).correlation; ds_id = (seen_of h).ds_id; items = (seen_of h).items }))) (kind_alike g h i g.root h.root i.root)
    (subst (λ (c : Option (List ℕ)). TurnsAlike (turn_of r (seen_of g)) (turn_of r (record { kind = (seen_of g).kind; correlation = c; ds_id = (seen_of h).ds_id; items = (seen_of h).items }))) (same_correlation g h i)
    (subst (λ (d : Option (List ℕ)). TurnsAlike (turn_of r (seen_of g)) (turn_of r (record { kind = (seen_of g).kind; correlation = (seen_of g).correlation; ds_id = d; items = (seen_of h).items }))) (same_id g h i)
    (turn_alike r (seen_of g).kind (seen_of g).correlation (seen_of g).ds_id (seen_of g).items (seen_of h).items (same_items g h i))))
