-- A node of AMF 0 that is read is spelled so.
use Rattle.std.proofs.Common.{◌≡◌, ℕ, suc, ◌<◌, Bool, true, false, List, [], ◌∷◌, ◌++◌, length, map, refl, sym, ap, ◌∙◌, arith, subst, inl, inr, length-append}
use Rattle.std.proofs.lemmas.List.{append-nil, length-map, length-set}
use Rattle.std.proofs.Math.Seq.{get_or-append_seam}
use Rattle.amf_wire.specs.Text.{IsText}
use Rattle.amf_wire.specs.Style.{free}
use Rattle.amf_io.specs.Field.{Field, AreBytes, flat}
use Rattle.amf_io.specs.Layout.{give, Runs, Path}
use Rattle.amf_io.proofs.Paths.{bind_runs}
use Rattle.amf_io.proofs.Ables.{bytes_parts}
use Rattle.amf_graph.specs.Graph.{Value, Fits, Head, Node, node_at, Traits}
use Rattle.amf_graph.specs.Graph as graph
use Rattle.amf_graph.specs.declared.value.Value.{Value as Stored}
use Rattle.amf_graph.specs.Arena.{Arena, StoredHead, StoredTraits, StoredNode, traits_content, no_traits, value_content, head_content, node_content, graph_of, HeadNames, IsTextId, NodesComplete, Completes}
use Rattle.amf_graph.specs.Building.{stored_at, shut}
use Rattle.amf3_spelling.specs.Then.{Spelling}
use Rattle.amf3_layout_laws.specs.Layout3State.{begun, takes_parts}
use Rattle.amf3_layout_laws.proofs.Layout3Contents.{Larger, larger_itself, larger_twice, head_stays, text_larger, KeptNode, good_changed}
use Rattle.amf3_layout_laws.proofs.Layout3SoundInline.{closed_at, shut_completes, content_at, absent_below}
use Rattle.amf3_layout_laws.proofs.Layout3SoundParts.{grown, spot, kept_spot, spot_changed, nodes_changed, completes_before, pairs_content}
use Rattle.amf3_layout_laws.proofs.Layout3SoundTexts.{give_is}
use Rattle.amf0_spelling.specs.Tables0.{Tables0, add_node0, add_done0}
use Rattle.amf0_spelling.specs.Segments0.{marker0_field, Pairs0, PairsBy0}
use Rattle.amf0_spelling.specs.Spells0.{NodeBy0, SpellsIn0}
use Rattle.amf0_layout_laws.specs.Layout0State.{State0, with_text0, with_class, class_head, with_done0, with_node0, changed0}
use Rattle.amf0_layout_laws.specs.Layout0.{new_text0, ValueRead0, Reader0, items0, pairs0, shut0, with_pairs, with_items, whole0, with_members}
use Rattle.amf0_layout_laws.proofs.Layout0Contents.{Good0, table0, good0_moved, good_text0, good_class, good_done0, good_node0, traits_larger, loose_larger, table0_done, table0_node, table0_changed}
use Rattle.amf0_layout_laws.proofs.Layout0SoundParts.{Spell0, ValueSound0, Sounds0, AddsSound0, SoMany, ItemsSpelled, items_sound0, NoValues, PairsSpelled, pairs_sound0, completed_larger}

abbrev pub spell0 : ℕ → Spell0
spell0 n g r = SpellsIn0 n free (graph_of g r)

-- a node that was open while its parts were read
module _ (N m : ℕ) (b : Bool) (s : State0) (g : Good0 s) (head : StoredHead) (named : HeadNames s.amf3.arena head) (open_ : takes_parts head ≡ true)
    (C : List (ℕ × Stored) → List Stored → Type 0) (A : Arena → Stored → List (ℕ × Stored) → List Stored → Spelling Tables0)
    (fits : (ns : List (ℕ × Stored)) (vs : List Stored) → C ns vs → (e : Arena) → Fits (head_content s.amf3.arena head) (pairs_content e ns) (map (value_content e) vs))
    (fs rest : List Field) (u : State0) (a : AddsSound0 C A s.amf3.arena.nodes [] (begun head) (with_node0 s head) fs u)
    (behind : (e : Arena) (r : Stored) → Completes u.amf3.arena e → A e r a.adds.names a.adds.values (add_node0 (table0 s) (length s.amf3.arena.nodes)) fs (table0 u)
    → NodeBy0 (spell0 N e r) free (length s.amf3.arena.nodes) (head_content s.amf3.arena head) (pairs_content e a.adds.names) (map (value_content e) a.adds.values) m (table0 s) rest (table0 u)) where
  abbrev pre : List StoredNode
  pre = s.amf3.arena.nodes

  abbrev i : ℕ
  i = length s.amf3.arena.nodes

  abbrev q : StoredNode
  q = grown (begun head) a.adds.names a.adds.values

  abbrev w : State0
  w = changed0 shut (length s.amf3.arena.nodes) u

  to_u : Larger s.amf3.arena u.amf3.arena
  to_u = larger_twice s.amf3.arena (with_node0 s head).amf3.arena u.amf3.arena (loose_larger s.amf3 head) a.adds.larger

  to_w : Larger u.amf3.arena w.amf3.arena
  to_w = larger_itself u.amf3.arena w.amf3.arena refl refl (omega (arith, length-set u.amf3.arena.nodes i (shut (stored_at u.amf3.arena i))))

  fits_in : (e : Arena) → Larger s.amf3.arena e → Fits (head_content e head) (pairs_content e a.adds.names) (map (value_content e) a.adds.values)
  fits_in e l = subst (λ k. Fits k (pairs_content e a.adds.names) (map (value_content e) a.adds.values)) (sym (head_stays s.amf3.arena e l head g.amf3.kept.traits named)) (fits a.adds.names a.adds.values a.count e)

  here : w.amf3.arena.nodes ≡ pre ++ shut q ∷ a.adds.more
  here = spot_changed shut pre a.adds.more q u.amf3 a.adds.nodes

  good_w : Good0 w
  good_w =
      let at = spot pre a.adds.more q u.amf3 a.adds.nodes in
      let kq = kept_spot pre a.adds.more q u.amf3 a.adds.good a.adds.nodes in
      let node : KeptNode u.amf3.arena (shut q) = record { head = kq.head; names = kq.names; values = kq.values; fits = λ k. fits_in u.amf3.arena to_u } in
      good0_moved u w (good_changed u.amf3 shut i a.adds.good refl (subst (λ k. KeptNode u.amf3.arena (shut k)) (sym at) node)) refl to_w.nodes a.good

  -- in each graph that completes, the node is there
  module _ (e : Arena) (r : Stored) (c : Completes w.amf3.arena e) where
    reach : NodesComplete u.amf3.arena.nodes w.amf3.arena.nodes
    reach = subst (λ l. NodesComplete l w.amf3.arena.nodes) (sym a.adds.nodes) (subst (NodesComplete (pre ++ q ∷ a.adds.more)) (ap (λ l. pre ++ shut q ∷ l) (append-nil a.adds.more) ∙ sym here) (nodes_changed pre q (shut q) a.adds.more [] (shut_completes q)))

    before : Completes u.amf3.arena e
    before = completes_before u.amf3.arena w.amf3.arena e to_w reach c

    there : (i < length e.nodes) × (node_at (graph_of e r) i ≡ node_content e (shut q))
    there =
        let ca = closed_at e pre a.adds.more e.nodes (shut q) refl (subst (λ l. NodesComplete l e.nodes) here c.nodes) in
        (ca.0, content_at e e.nodes i ca.0 ∙ ap (node_content e) ca.1)

    begun_so : SpellsIn0 (suc N) free (graph_of e r) b (graph.node i) (table0 s) (marker0_field b (table0 s) m ∷ rest) (table0 w)
    begun_so =
        let na = there.1 in
        let lo = larger_twice s.amf3.arena u.amf3.arena e to_u (completed_larger u.amf3.arena e before) in
        let R = spell0 N e r in
        let parts = subst (λ t. A e r a.adds.names a.adds.values t fs (table0 u)) (table0_node s head) (a.spelled e r before) in
        let by = behind e r before parts in
        let by2 : NodeBy0 R free i (head_content e head) (pairs_content e a.adds.names) (map (value_content e) a.adds.values) m (table0 s) rest (table0 w) =
        subst (λ k. NodeBy0 R free i k (pairs_content e a.adds.names) (map (value_content e) a.adds.values) m (table0 s) rest (table0 w)) (sym (head_stays s.amf3.arena e lo head g.amf3.kept.traits named))
        (subst (λ t. NodeBy0 R free i (head_content s.amf3.arena head) (pairs_content e a.adds.names) (map (value_content e) a.adds.values) m (table0 s) rest t) (sym (table0_changed shut i u)) by) in
        inl (inr (record {
          there = subst (λ k. i < k) (sym (length-map e.nodes (node_content e))) there.0;
          new = absent_below i i (omega arith);
          fits = subst (λ (k : Node). Fits k.head k.names k.values) (sym na) (fits_in e lo);
          marker = m;
          rest = rest;
          fields = refl;
          behind = subst (λ (k : Node). NodeBy0 R free i k.head k.names k.values m (table0 s) rest (table0 w)) (sym na) by2;
        }))

  pub opened_sound : (f : Field) → f ≡ marker0_field b (table0 s) m → ValueSound0 (spell0 (suc N)) b s (f ∷ rest) (shut0 i u)
  opened_sound f is = record {
    is_value = refl;
    good = good_w;
    larger = larger_twice s.amf3.arena u.amf3.arena w.amf3.arena to_u to_w;
    more = shut q ∷ a.adds.more;
    nodes = here;
    closed = (refl, a.adds.closed);
    named = omega (arith, ap length here, length-append pre (shut q ∷ a.adds.more));
    spelled = λ e r c. subst (λ k. SpellsIn0 (suc N) free (graph_of e r) b (graph.node i) (table0 s) (k ∷ rest) (table0 w)) (sym is) (begun_so e r c);
  }

-- a node that is whole at once
pub whole_sound : (N m : ℕ) (b : Bool) (s : State0) → Good0 s → (head : StoredHead) → HeadNames s.amf3.arena head → takes_parts head ≡ false → Fits (head_content s.amf3.arena head) [] [] → (rest : List Field)
    → ((R : Bool → Value → Spelling Tables0) → NodeBy0 R free (length s.amf3.arena.nodes) (head_content s.amf3.arena head) [] [] m (table0 s) rest (add_done0 (table0 s) (length s.amf3.arena.nodes)))
    → (f : Field) → f ≡ marker0_field b (table0 s) m → ValueSound0 (spell0 (suc N)) b s (f ∷ rest) (whole0 s head)
whole_sound N m b s g head named closed fits rest behind f is =
    let i = length s.amf3.arena.nodes in
    let z = with_done0 s head in
    record {
      is_value = refl;
      good = good_done0 s head g named (λ e. fits);
      larger = loose_larger s.amf3 head;
      more = begun head ∷ [];
      nodes = refl;
      closed = (closed, tt);
      named = omega (arith, length-append s.amf3.arena.nodes (begun head ∷ []));
      spelled = λ e r c.
          let ca = closed_at e s.amf3.arena.nodes [] e.nodes (begun head) closed c.nodes in
          let na : node_at (graph_of e r) i ≡ node_content e (begun head) = content_at e e.nodes i ca.0 ∙ ap (node_content e) ca.1 in
          let lo = larger_twice s.amf3.arena z.amf3.arena e (loose_larger s.amf3 head) (completed_larger z.amf3.arena e c) in
          let same = head_stays s.amf3.arena e lo head g.amf3.kept.traits named in
          let R = spell0 N e r in
          let by : NodeBy0 R free i (head_content e head) [] [] m (table0 s) rest (table0 z) =
          subst (λ k. NodeBy0 R free i k [] [] m (table0 s) rest (table0 z)) (sym same) (subst (λ t. NodeBy0 R free i (head_content s.amf3.arena head) [] [] m (table0 s) rest t) (sym (table0_done s head)) (behind R)) in
          subst (λ k. SpellsIn0 (suc N) free (graph_of e r) b (graph.node i) (table0 s) (k ∷ rest) (table0 z)) (sym is) (inl (inr (record {
            there = subst (λ k. i < k) (sym (length-map e.nodes (node_content e))) ca.0;
            new = absent_below i i (omega arith);
            fits = subst (λ (k : Node). Fits k.head k.names k.values) (sym na) (subst (λ k. Fits k [] []) (sym same) fits);
            marker = m;
            rest = rest;
            fields = refl;
            behind = subst (λ (k : Node). NodeBy0 R free i k.head k.names k.values m (table0 s) rest (table0 z)) (sym na) by;
          })));
    }

-- a run that ends with a node that is shut
pub record Shut (C : List (ℕ × Stored) → List Stored → Type 0) (A : Arena → Stored → List (ℕ × Stored) → List Stored → Spelling Tables0) (s : State0) (head : StoredHead) (fs : List Field) (x : ValueRead0) : Type 0 where
  pub state : State0
  pub adds : AddsSound0 C A s.amf3.arena.nodes [] (begun head) (with_node0 s head) fs state
  pub is : shut0 (length s.amf3.arena.nodes) state ≡ x

shut_by : (C : List (ℕ × Stored) → List Stored → Type 0) (A : Arena → Stored → List (ℕ × Stored) → List Stored → Spelling Tables0) (s : State0) (head : StoredHead) (fs front back : List Field) (u : State0) (x : ValueRead0) → fs ≡ front ++ back → AddsSound0 C A s.amf3.arena.nodes [] (begun head) (with_node0 s head) front u
    → Path (give (shut0 (length s.amf3.arena.nodes) u)) back (give x) → Shut C A s head fs x
shut_by C A s head fs front [] u x e a p = record { state = u; adds = subst (λ l. AddsSound0 C A s.amf3.arena.nodes [] (begun head) (with_node0 s head) l u) (sym (e ∙ append-nil front)) a; is = give_is (shut0 (length s.amf3.arena.nodes) u) x p }
shut_by C A s head fs front (f ∷ back) u x e a p = absurd p

opened_good : (s : State0) (head : StoredHead) → Good0 s → HeadNames s.amf3.arena head → takes_parts head ≡ true → Good0 (with_node0 s head)
opened_good s head g named o = good_node0 s head g named (λ e. absurd (let z : true ≡ false = sym o ∙ e in cc))

pub pairs_shut : (sp : Spell0) (v : Reader0) (N : ℕ) → Sounds0 sp v → (s : State0) (head : StoredHead) (fs : List Field) (x : ValueRead0) → Good0 s → HeadNames s.amf3.arena head → takes_parts head ≡ true → AreBytes (flat fs) → Runs (with_pairs v N s head) fs x → Shut NoValues (PairsSpelled sp) s head fs x
pairs_shut sp v N h s head fs x g named o b r =
    let i = length s.amf3.arena.nodes in
    let a = bind_runs (pairs0 v N i (with_node0 s head)) (λ u. give (shut0 i u)) fs x r in
    let ab = bytes_parts fs a.front a.back a.parts b in
    shut_by NoValues (PairsSpelled sp) s head fs a.front a.back a.value x a.parts (pairs_sound0 sp v h s.amf3.arena.nodes [] (begun head) N (with_node0 s head) a.front a.value o (opened_good s head g named o) refl ab.0 a.first) a.second

pub items_shut : (sp : Spell0) (v : Reader0) (k : ℕ) → Sounds0 sp v → (s : State0) (head : StoredHead) (fs : List Field) (x : ValueRead0) → Good0 s → HeadNames s.amf3.arena head → takes_parts head ≡ true → AreBytes (flat fs) → Runs (with_items v k s head) fs x → Shut (SoMany k) (ItemsSpelled sp) s head fs x
items_shut sp v k h s head fs x g named o b r =
    let i = length s.amf3.arena.nodes in
    let a = bind_runs (items0 v i k (with_node0 s head)) (λ u. give (shut0 i u)) fs x r in
    let ab = bytes_parts fs a.front a.back a.parts b in
    shut_by (SoMany k) (ItemsSpelled sp) s head fs a.front a.back a.value x a.parts (items_sound0 sp v h s.amf3.arena.nodes [] (begun head) k (with_node0 s head) a.front a.value o (opened_good s head g named o) refl ab.0 a.first) a.second

-- the pairs of a node, in the order of the wire
pub pairs_by : (R : Bool → Value → Spelling Tables0) (ps : List (List ℕ × Value)) (t : Tables0) (fs : List Field) (u : Tables0) → Pairs0 R ps t fs u → PairsBy0 R free ps t fs u
pairs_by R ps t fs u p = record { pairs = ps; same_names = refl; in_order = tt; spelled = p }

pub none_mapped : (e : Arena) (vs : List Stored) → vs ≡ [] → map (value_content e) vs ≡ []
none_mapped e vs h = ap (map (value_content e)) h

-- an object of a class that was read
abbrev class_traits : List ℕ → Traits
class_traits c = record { class = c; dynamic = true; sealed = [] }

module _ (N m : ℕ) (b : Bool) (v : Reader0) (h : Sounds0 (spell0 N) v) (s : State0) (g : Good0 s) (c : List ℕ) (is_text : IsText c) where
  abbrev s1 : State0
  s1 = with_text0 s c

  abbrev id : ℕ
  id = length s.amf3.arena.texts

  abbrev s2 : State0
  s2 = with_class (with_text0 s c) (length s.amf3.arena.texts)

  abbrev head : StoredHead
  head = class_head (with_text0 s c)

  text_in : IsTextId s1.amf3.arena id
  text_in = omega (arith, length-append s.amf3.arena.texts (c ∷ []))

  good_2 : Good0 s2
  good_2 = good_class s1 id text_in (good_text0 s c is_text g)

  head_is : head_content s2.amf3.arena head ≡ graph.object (class_traits c)
  head_is =
      let a = s2.amf3.arena in
      ap (λ t. graph.object (traits_content a t)) (get_or-append_seam s.amf3.arena.traits (record { class = id; dynamic = true; sealed = [] }) [] no_traits)
      ∙ ap (λ x. graph.object (class_traits x)) (get_or-append_seam s.amf3.arena.texts c [] [])

  pub members_sound : (fs rest : List Field) (x : ValueRead0) → AreBytes (flat fs) → Runs (with_members v N (new_text0 s c)) fs x
      → ((e : Arena) (r : Stored) (ps : List (List ℕ × Value)) (u : Tables0) → Pairs0 (spell0 N e r) ps (add_node0 (table0 s) (length s.amf3.arena.nodes)) fs u → NodeBy0 (spell0 N e r) free (length s.amf3.arena.nodes) (graph.object (class_traits c)) ps [] m (table0 s) rest u)
      → (f : Field) → f ≡ marker0_field b (table0 s) m → ValueSound0 (spell0 (suc N)) b s (f ∷ rest) x
  members_sound fs rest x bytes r behind f is =
      let named : HeadNames s2.amf3.arena head = omega (arith, length-append s.amf3.arena.traits ((let t : StoredTraits = record { class = id; dynamic = true; sealed = [] } in t) ∷ [])) in
      let k = pairs_shut (spell0 N) v N h s2 head fs x good_2 named refl bytes r in
      let z = opened_sound N m b s2 good_2 head named refl NoValues (PairsSpelled (spell0 N))
      (λ ns vs none e. subst (λ a. Fits a (pairs_content e ns) (map (value_content e) vs)) (sym head_is) (ap length (none_mapped e vs none), tt)) fs rest k.state k.adds
      (λ e r d p. subst (λ a. NodeBy0 (spell0 N e r) free (length s.amf3.arena.nodes) a (pairs_content e k.adds.adds.names) (map (value_content e) k.adds.adds.values) m (table0 s) rest (table0 k.state)) (sym head_is)
      (subst (λ ws. NodeBy0 (spell0 N e r) free (length s.amf3.arena.nodes) (graph.object (class_traits c)) (pairs_content e k.adds.adds.names) ws m (table0 s) rest (table0 k.state)) (sym (none_mapped e k.adds.adds.values k.adds.count)) (behind e r (pairs_content e k.adds.adds.names) (table0 k.state) p))) f is in
      subst (λ y. ValueSound0 (spell0 (suc N)) b s (f ∷ rest) y) k.is (record {
        is_value = refl;
        good = z.good;
        larger = larger_twice s.amf3.arena s2.amf3.arena (shut0 (length s.amf3.arena.nodes) k.state).state.amf3.arena (larger_twice s.amf3.arena s1.amf3.arena s2.amf3.arena (text_larger s.amf3.arena c) (traits_larger s1.amf3 (record { class = id; dynamic = true; sealed = [] }))) z.larger;
        more = z.more;
        nodes = z.nodes;
        closed = z.closed;
        named = z.named;
        spelled = z.spelled;
      })
