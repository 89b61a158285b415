-- A node that is read inline is spelled so.
use Rattle.std.proofs.Common.{◌≡◌, ◌≢◌, ℕ, zero, suc, ◌+◌, ◌*◌, ◌/◌, ◌%◌, ◌≤◌, ◌<◌, Bool, true, false, cond, eqb, List, [], ◌∷◌, ◌++◌, length, map, get_or, slice_get, Some, refl, sym, ap, ◌∙◌, arith, subst, length-append, add-one}
use Rattle.std.proofs.lemmas.List.{append-nil, length-map, length-set}
use Rattle.amf_wire.specs.Style.{free}
use Rattle.amf_wire.specs.U29.{SpellsU29}
use Rattle.amf_io.specs.Field.{Field, AreBytes, flat}
use Rattle.amf_io.specs.Layout.{Runs}
use Rattle.amf_io.proofs.Paths.{bind_runs}
use Rattle.amf_io.proofs.Ables.{bytes_parts}
use Rattle.amf_graph.specs.Graph.{Value, Node, Fits, node_at, no_node}
use Rattle.amf_graph.specs.ByName.{by_name}
use Rattle.amf_graph.specs.Order.{Absent}
use Rattle.amf_graph.specs.declared.value.Value.{Value as Stored}
use Rattle.amf_graph.specs.declared.value.Value.TheVariants.{Node as NodeRef}
use Rattle.amf_graph.specs.Arena.{Arena, StoredNode, value_content, head_content, node_content, graph_of, Extends, NodeCompletes, NodesComplete, Completes}
use Rattle.amf_graph.specs.Building.{no_stored, stored_at, shut}
use Rattle.amf3_spelling.specs.Tables.{Tables, with_words, add_node}
use Rattle.amf3_spelling.specs.KeptTables.{below}
use Rattle.amf3_spelling.specs.Then.{Spelling, Then}
use Rattle.amf3_spelling.specs.Refusals3.{marker}
use Rattle.amf3_spelling.specs.Segments3.{Segments, Lifted, segments_of}
use Rattle.amf3_spelling.specs.Headers3.{HeaderBy, marker_field, header_field}
use Rattle.amf3_spelling.specs.Nodes3.{Begun}
use Rattle.amf3_spelling.specs.Spells3.{SpellsIn}
use Rattle.amf_graph.specs.declared.kind.NodeKind.{NodeKind}
use Rattle.amf3_spelling.specs.Markers3.{node_marker}
use Rattle.amf3_layout_laws.specs.Layout3State.{State3, with_node, begun, takes_parts, changed}
use Rattle.amf3_layout_laws.specs.Layout3.{opening, ValueRead, parts, inline_node}
use Rattle.amf3_layout_laws.proofs.Layout3Parts.{behind}
use Rattle.amf3_layout_laws.proofs.Layout3Marks.{marker_content}
use Rattle.amf3_layout_laws.proofs.Layout3Contents.{Larger, larger_itself, larger_twice, head_stays, KeptNode, Good, good_node, good_changed}
use Rattle.amf3_layout_laws.proofs.Layout3SoundHeads.{open_sound, Behind}
use Rattle.amf3_layout_laws.proofs.Layout3SoundParts.{Reader, Spell, table, AllClosed, Sounds, grown, spot, kept_spot, spot_changed, table_changed, nodes_changed, nodes_longer, completes_before, completes_larger, pairs_content}
use Rattle.amf3_layout_laws.proofs.Layout3SoundNodes.{parts_sound}

abbrev pub spell3 : ℕ → Spell
spell3 n g r = SpellsIn n free (graph_of g r)

no_spelling : Value → Spelling Tables
no_spelling v t fs u = ⊥

-- what stands at the place of a closed node in each graph that completes it
record At (g : Arena) (i : ℕ) (n : StoredNode) : Type 0 where
  pub below : i < length g.nodes
  pub is : get_or g.nodes i no_stored ≡ n

pub closed_at : (g : Arena) (pre post gs : List StoredNode) (n : StoredNode) → n.is_open ≡ false → NodesComplete (pre ++ n ∷ post) gs → (length pre < length gs) × (get_or gs (length pre) no_stored ≡ n)
closed_at g [] post [] n o h = absurd h
closed_at g [] post (m ∷ gs) n o h = (omega arith, subst (λ b. cond b (Extends n m) (m ≡ n)) o h.0)
closed_at g (p ∷ pre) post [] n o h = absurd h
closed_at g (p ∷ pre) post (m ∷ gs) n o h = let r = closed_at g pre post gs n o h.1 in let lt = r.0 in (omega arith, r.1)

pub shut_completes : (q : StoredNode) → NodeCompletes q (shut q)
shut_completes q = by q.is_open refl
  where
    by : (b : Bool) → q.is_open ≡ b → cond b (Extends q (shut q)) (shut q ≡ q)
    by true e = (refl, ([], sym (append-nil q.names)), ([], sym (append-nil q.values)))
    by false e = ap (λ b. let n : StoredNode = record { is_open = b; head = q.head; names = q.names; values = q.values } in n) (sym e)

pub content_at : (g : Arena) (ns : List StoredNode) (i : ℕ) → i < length ns → get_or (map (node_content g) ns) i no_node ≡ node_content g (get_or ns i no_stored)
content_at g [] i lt = absurd (omega arith)
content_at g (n ∷ ns) zero lt = refl
content_at g (n ∷ ns) (suc i) lt = content_at g ns i (omega arith)

pub absent_below : (n m : ℕ) → n ≤ m → Absent (below n) m
absent_below zero m le k e = cc
absent_below (suc n) m le k e = later n m k (omega arith) e (absent_below n m (omega arith))
  where
    in_last : (xs : List ℕ) (n m k : ℕ) → n < m → ((j : ℕ) → slice_get xs j ≢ Some m) → slice_get (xs ++ n ∷ []) k ≢ Some m
    in_last [] n m zero lt h e = let z : n ≡ m = cc in omega arith
    in_last [] n m (suc k) lt h e = cc
    in_last (x ∷ xs) n m zero lt h e = h 0 e
    in_last (x ∷ xs) n m (suc k) lt h e = in_last xs n m k lt (λ j. h (suc j)) e

    later : (n m k : ℕ) → n < m → slice_get (below n ++ n ∷ []) k ≡ Some m → Absent (below n) m → ⊥
    later n m k lt e h = in_last (below n) n m k lt h e

-- a node that was read inline
pub record InlineSound (height : ℕ) (f : NodeKind) (n : ℕ) (header : List ℕ) (s : State3) (rest : List Field) (x : ValueRead) : Type 0 where
  pub good : Good x.state
  pub larger : Larger s.arena x.state.arena
  pub place : ℕ
  pub is : x.value ≡ NodeRef (record { 0 = place })
  pub more : List StoredNode
  pub nodes : x.state.arena.nodes ≡ s.arena.nodes ++ more
  pub closed : AllClosed more
  pub named : place < length x.state.arena.nodes
  pub spelled : (g : Arena) (r : Stored) → Completes x.state.arena g
      → Begun (spell3 height g r) free (graph_of g r) place (table s) (marker_field (node_marker f) ∷ header_field (graph_of g r) (table s) (node_marker f) header ∷ rest) (table x.state)

pub inline_sound : (height : ℕ) (v : Reader) (N : ℕ) → Sounds (spell3 height) v → (f : NodeKind) (n : ℕ) (header : List ℕ) (s : State3) → Good s → SpellsU29 n header → n ≡ 2 * (n / 2) + 1 → eqb (n % 2) 0 ≡ false → (node_marker f ≡ 0x0A → eqb (n % 4) 1 ≡ true → n / 4 < length s.words.traits)
    → (rest : List Field) (x : ValueRead) → AreBytes (flat rest) → Runs (inline_node v N f n s) rest x → InlineSound height f n header s rest x
inline_sound height v N h f n header s g spelled odd test place rest x b r =
    let a = bind_runs (opening f n s) (parts v N) rest x r in
    let ab = bytes_parts rest a.front a.back a.parts b in
    let o = a.value in
    let os = open_sound no_spelling f n s g odd test place a.front o ab.0 a.first in
    let pre = o.state.arena.nodes in
    let i = length pre in
    let z0 = with_node o.state o.head in
    let gz = good_node o.state o.head os.good os.named (λ e. (os.leaf e).0) in
    let to_z0 : Larger o.state.arena z0.arena = larger_itself o.state.arena z0.arena refl refl (omega (arith, length-append pre (begun o.head ∷ []))) in
    let e = parts_sound (spell3 height) v N h o a.back x (takes_parts o.head) refl (λ k. (os.leaf k).1) os.once gz ab.1 a.second in
    let z = e.state in
    let p = e.sound in
    let q = grown (begun o.head) p.names p.values in
    let w = changed shut i z in
    let at = spot pre p.more q z p.nodes in
    let kq = kept_spot pre p.more q z p.good p.nodes in
    let to_z = larger_twice o.state.arena z0.arena z.arena to_z0 p.larger in
    let fits_in = λ (b : Arena) (l : Larger o.state.arena b). subst (λ k. Fits k (pairs_content b p.names) (map (value_content b) p.values)) (sym (head_stays o.state.arena b l o.head os.good.kept.traits os.named))
    (os.fits (pairs_content b p.names) (map (value_content b) p.values) (length-map p.values (value_content b) ∙ p.count) (λ k j. ap (pairs_content b) (p.none k j))) in
    let node : KeptNode z.arena (shut q) = record { head = kq.head; names = kq.names; values = kq.values; fits = λ k. fits_in z.arena to_z } in
    let gw = good_changed z shut i p.good refl (subst (λ k. KeptNode z.arena (shut k)) (sym at) node) in
    let here : w.arena.nodes ≡ pre ++ shut q ∷ p.more = spot_changed shut pre p.more q z p.nodes in
    let to_w : Larger z.arena w.arena = larger_itself z.arena w.arena refl refl (omega (arith, length-set z.arena.nodes i (shut (stored_at z.arena i)))) in
    subst (λ y. InlineSound height f n header s rest y) (sym e.is) (record {
      good = gw;
      larger = larger_twice s.arena o.state.arena w.arena os.larger (larger_twice o.state.arena z.arena w.arena to_z to_w);
      place = i;
      is = refl;
      more = shut q ∷ p.more;
      nodes = here ∙ ap (λ l. l ++ shut q ∷ p.more) os.nodes;
      closed = (refl, p.closed);
      named = omega (arith, ap length here, length-append pre (shut q ∷ p.more));
      spelled = λ g2 r2 c.
          let R = spell3 height g2 r2 in
          let reach : NodesComplete z.arena.nodes w.arena.nodes = subst (λ l. NodesComplete l w.arena.nodes) (sym p.nodes) (subst (NodesComplete (pre ++ q ∷ p.more)) (ap (λ l. pre ++ shut q ∷ l) (append-nil p.more) ∙ sym here) (nodes_changed pre q (shut q) p.more [] (shut_completes q))) in
          let cz = completes_before z.arena w.arena g2 to_w reach c in
          let ca = closed_at g2 pre p.more g2.nodes (shut q) refl (subst (λ l. NodesComplete l g2.nodes) here c.nodes) in
          let na : node_at (graph_of g2 r2) i ≡ node_content g2 (shut q) = content_at g2 g2.nodes i ca.0 ∙ ap (node_content g2) ca.1 in
          let lo = larger_twice o.state.arena z.arena g2 to_z (larger_twice z.arena w.arena g2 to_w (completes_larger w.arena g2 (nodes_longer w.arena.nodes g2.nodes c.nodes) c)) in
          let qs = pairs_content g2 p.names in
          let vs = map (value_content g2) p.values in
          let os2 = open_sound R f n s g odd test place a.front o ab.0 a.first in
          let mark : marker (node_at (graph_of g2 r2) i).head ≡ node_marker f = ap (λ (k : Node). marker k.head) na ∙ marker_content g2 o.head ∙ os.mark in
          let same_length : length pre ≡ length s.arena.nodes = ap length os.nodes in
          let tz0 : table z0 ≡ with_words (add_node (table s) i) o.state.words =
          ap (λ l. let t : Tables = record { words = o.state.words; nodes = l ++ i ∷ []; done = below (length z0.arena.nodes) } in t) os.node_table
          ∙ ap (λ k. let t : Tables = record { words = o.state.words; nodes = s.tables.nodes ++ i ∷ []; done = below k } in t) (length-append pre (begun o.head ∷ []) ∙ add-one i)
          ∙ ap (λ k. let t : Tables = record { words = o.state.words; nodes = s.tables.nodes ++ i ∷ []; done = below k ++ i ∷ [] } in t) same_length in
          let inner : Segments R free (behind o.first o.last qs vs) (with_words (add_node (table s) i) o.state.words) a.back (table w) =
          subst (λ t. Segments R free (behind o.first o.last qs vs) t a.back (table w)) tz0 (subst (λ t. Segments R free (behind o.first o.last qs vs) (table z0) a.back t) (sym (table_changed shut i z)) (p.spelled g2 r2 cz)) in
          let all : Behind R (head_content o.state.arena o.head) qs vs n (add_node (table s) i) (a.front ++ a.back) (table w) = os2.spelled (add_node (table s) i) (table w) qs vs a.back refl (length-map p.values (value_content g2) ∙ p.count) inner in
          let there : Behind R (head_content g2 o.head) qs vs n (add_node (table s) i) rest (table w) =
          subst (λ k. Behind R k qs vs n (add_node (table s) i) rest (table w)) (sym (head_stays o.state.arena g2 lo o.head os.good.kept.traits os.named)) (subst (λ l. Behind R (head_content o.state.arena o.head) qs vs n (add_node (table s) i) l (table w)) (sym a.parts) all) in
          record {
            there = subst (λ k. i < k) (sym (length-map g2.nodes (node_content g2))) ca.0;
            new = absent_below (length s.arena.nodes) i (omega arith);
            fits = subst (λ (k : Node). Fits k.head k.names k.values) (sym na) (fits_in g2 lo);
            pairs = qs;
            same_names = ap (λ (k : Node). by_name k.names) (sym na);
            in_order = tt;
            named = p.named g2 cz;
            number = n;
            header = header;
            spelled = record { spelled = spelled; shortest = tt };
            rest = rest;
            fields = ap (λ m. marker_field m ∷ header_field (graph_of g2 r2) (table s) m header ∷ rest) (sym mark);
            behind = subst (λ (k : Node). Then (Lifted (HeaderBy free k.head k.values n)) (Segments R free (segments_of k.head qs k.values)) (add_node (table s) i) rest (table w)) (sym na) there;
          };
    })
