-- A graft matches what was copied.
use Rattle.std.proofs.Common.{◌≡◌, ℕ, zero, suc, ◌+◌, ◌-◌, ◌<◌, false, List, [], ◌∷◌, ◌++◌, length, map, get_or, slice_get, Some, refl, sym, ap, ◌∙◌, subst, arith, inl, inr}
use Rattle.std.specs.List.{AllByRecursion, AllZip}
use Rattle.std.proofs.lemmas.List.{length-map, length-append}
use Rattle.std.proofs.lemmas.Option.{same_Some}
use Rattle.amf_graph.specs.declared.value.Value.{Value as Stored}
use Rattle.amf_graph.specs.declared.value.Value.TheVariants.{Undefined, Null, Bool as Flag, Integer, Double, Text, Node as NodeRef}
use Rattle.amf_graph.specs.Graph as graph
use Rattle.amf_graph.specs.Graph.{Value, node, leaf, Graph, node_at}
use Rattle.amf_graph.specs.Isomorphic.{ValuesMatch, PairsMatch, NodesMatch, StandIn}
use Rattle.amf_graph.specs.Reached.{Holds}
use Rattle.amf_graph.specs.Arena.{Arena, StoredTraits, StoredHead, xml_document, date, array, object, wrapper, xml, bytes, ints, uints, doubles, values, dictionary, text_at, traits_at, traits_content, no_traits, value_content, head_content, node_content, graph_of, Names, IsFinished, Completes}
use Rattle.amf_graph.specs.Building.{stored_at, no_stored}
use Rattle.amf_graph.proofs.Alls.{all_at}
use Rattle.amf_graph.proofs.Growth.{names_content, values_content}
use Rattle.amf_graph.proofs.Matching.{by_name_match}
use Rattle.amf_graph.proofs.PlaceOf.{place_there}
use Rattle.amf_graph.proofs.Built.{stands}
use Rattle.amf_graph.specs.Roots.{SameFrom, ReachedFrom, rooted_at}
use Rattle.amf_graph.specs.Roots as roots
use Rattle.amf_graph.specs.Grafting.{Cut, IsCut, Reaches, at_root, inside, UsesTraits, UsesText, of_root, of_head, of_name, of_value, of_class, of_sealed, HeadText, HoldsStored, node_value, text_value, Renaming, renaming, renamed_value, renamed_values, renamed_names, renamed_head, renamed_node, renamed_traits, grafted}
use Rattle.amf_graph.specs.GraftLaws.{GraftPairs, GraftLaw, EachRootLaw}
use Rattle.amf_graph.proofs.Pairing.{numbered_from, paired, unpaired, pair_left, pair_right, pair_new, pair_all}
use Rattle.amf_graph.proofs.Behind.{behind, stays_behind}
use Rattle.std.proofs.Math.ListN as listn

shown : (a : Arena) (root : Stored) (i : ℕ) → node_at (graph_of a root) i ≡ node_content a (stored_at a i)
shown a root i = listn.get_or-map (node_content a) a.nodes i no_stored

pub all_get : {X : Type 0} (Q : X → Type 0) (xs : List X) (k : ℕ) (x : X) → AllByRecursion Q xs → slice_get xs k ≡ Some x → Q x
all_get Q [] k x m e = cc
all_get Q (y ∷ xs) zero x m e = subst Q (same_Some y x e) m.0
all_get Q (y ∷ xs) (suc k) x m e = all_get Q xs k x m.1 e

pub map_get : {X Y : Type 0} (f : X → Y) (xs : List X) (k : ℕ) (x : X) → slice_get xs k ≡ Some x → slice_get (map f xs) k ≡ Some (f x)
map_get f [] k x e = cc
map_get f (y ∷ xs) zero x e = ap (λ z. Some (f z)) (same_Some y x e)
map_get f (y ∷ xs) (suc k) x e = map_get f xs k x e

-- what is reached is there
pub reached_below : (a : Arena) (vs : List Stored) → IsFinished a → AllByRecursion (Names a) vs → (i : ℕ) → Reaches a vs i → i < length a.nodes
reached_below a vs b names i (at_root k e) = all_get (Names a) vs k (node_value i) names e
reached_below a vs b names i (inside j w h) =
    let n = stands a j b.built (reached_below a vs b names j w) in
    elim h [
      | inl p ↦ all_get (Names a) (stored_at a j).values p.0 (node_value i) n.values p.1
      | inr p ↦ (all_get (λ q. (q.0 < length a.texts) × Names a q.1) (stored_at a j).names p.0 (p.1, node_value i) n.names p.2).1
    ]

pub reached_content : (a : Arena) (vs : List Stored) (v : Stored) (i : ℕ) → Reaches a vs i → ReachedFrom (graph_of a v) (map (value_content a) vs) i
reached_content a vs v i (at_root k e) = roots.at_root k (map_get (value_content a) vs k (node_value i) e)
reached_content a vs v i (inside j w h) =
    roots.inside j (reached_content a vs v j w) (subst (λ m. Holds m (node i)) (sym (shown a v j)) (elim h as (λ h. Holds (node_content a (stored_at a j)) (node i)) [
      | inl p ↦ inl (p.0, map_get (value_content a) (stored_at a j).values p.0 (node_value i) p.1)
      | inr p ↦ inr (p.0, text_at a p.1, map_get (λ q. (text_at a q.0, value_content a q.1)) (stored_at a j).names p.0 (p.1, node_value i) p.2)
    ]))

-- texts and traits begin with those of an arena
pub record Begins (a h : Arena) : Type 0 where
  pub more_texts : List (List ℕ)
  pub texts : h.texts ≡ a.texts ++ more_texts
  pub more_traits : List StoredTraits
  pub traits : h.traits ≡ a.traits ++ more_traits

pub begins : (a h : Arena) → Completes a h → Begins a h
begins a h c = record { more_texts = c.more_texts; texts = c.texts; more_traits = c.more_traits; traits = c.traits }

module _ (a : Arena) (vs : List Stored) (old h : Arena) (c : Cut) (exact : IsCut a vs c) (done : Begins (grafted old a c) h) where
  abbrev r : Renaming
  r = renaming old c

  abbrev P : ℕ → ℕ → Type 0
  P = StandIn (numbered_from (length old.nodes) c.nodes)

  pub text_same : (x : ℕ) → UsesText a vs x → text_at h (r.texts x) ≡ text_at a x
  text_same x u =
      let at = (exact.texts x).1 u in
      ap (λ w. get_or h.texts (length old.texts + w) []) (place_there c.texts at.0 x exact.once_texts at.1)
      ∙ ap (λ w. get_or w (length old.texts + at.0) []) done.texts
      ∙ behind (text_at a) old.texts c.texts done.more_texts at.0 x [] at.1

  pub texts_same : (xs : List ℕ) → ((k x : ℕ) → slice_get xs k ≡ Some x → UsesText a vs x) → map (text_at h) (map r.texts xs) ≡ map (text_at a) xs
  texts_same [] u = refl
  texts_same (x ∷ xs) u = let e = text_same x (u 0 x refl) in let d = texts_same xs (λ k. u (suc k)) in cc

  pub traits_same : (t : ℕ) → UsesTraits a vs t → traits_at h (r.traits t) ≡ traits_at a t
  traits_same t u =
      let at = (exact.traits t).1 u in
      let s : StoredTraits = get_or a.traits t no_traits in
      let kept : get_or h.traits (r.traits t) no_traits ≡ renamed_traits r s =
      ap (λ w. get_or h.traits (length old.traits + w) no_traits) (place_there c.traits at.0 t exact.once_traits at.1)
      ∙ ap (λ w. get_or w (length old.traits + at.0) no_traits) done.traits
      ∙ behind (λ t. renamed_traits r (get_or a.traits t no_traits)) old.traits c.traits done.more_traits at.0 t no_traits at.1 in
      let class : text_at h (r.texts s.class) ≡ text_at a s.class = text_same s.class (of_class t u refl) in
      let sealed : map (text_at h) (map r.texts s.sealed) ≡ map (text_at a) s.sealed = texts_same s.sealed (λ k x e. of_sealed t k u e) in
      ap (traits_content h) kept
      ∙ ap (λ w. record { class = w; dynamic = s.dynamic; sealed = map (text_at h) (map r.texts s.sealed) }) class
      ∙ ap (λ w. record { class = text_at a s.class; dynamic = s.dynamic; sealed = w }) sealed

  -- what a value needs to be copied well
  pub record Ready (v : Stored) : Type 0 where
    pub text : (x : ℕ) → v ≡ text_value x → UsesText a vs x
    pub node : (i : ℕ) → v ≡ node_value i → Reaches a vs i

  pub value_match : (v : Stored) → Ready v → ValuesMatch P (value_content a v) (value_content h (renamed_value r v))
  value_match Undefined k = refl
  value_match Null k = refl
  value_match (Flag f) k = refl
  value_match (Integer n) k = refl
  value_match (Double p) k = refl
  value_match (Text t) k = ap graph.text (sym (text_same t.0 (k.text t.0 refl)))
  value_match (NodeRef n) k =
      let at = (exact.nodes n.0).1 (k.node n.0 refl) in
      subst (λ w. P n.0 (length old.nodes + w)) (sym (place_there c.nodes at.0 n.0 exact.once_nodes at.1)) (at.0, paired (length old.nodes) c.nodes at.0 n.0 at.1)

  pub values_match : (ws : List Stored) → ((k : ℕ) (v : Stored) → slice_get ws k ≡ Some v → Ready v) → AllZip (ValuesMatch P) (values_content a ws) (values_content h (renamed_values r ws))
  values_match [] k = tt
  values_match (v ∷ ws) k = (value_match v (k 0 v refl), values_match ws (λ n. k (suc n)))

  pub names_match : (ps : List (ℕ × Stored)) → ((k x : ℕ) (v : Stored) → slice_get ps k ≡ Some (x, v) → UsesText a vs x × Ready v) → AllZip (PairsMatch P) (names_content a ps) (names_content h (renamed_names r ps))
  names_match [] k = tt
  names_match (p ∷ ps) k = ((sym (text_same p.0 (k 0 p.0 p.1 refl).0), value_match p.1 (k 0 p.0 p.1 refl).1), names_match ps (λ n. k (suc n)))

  pub head_match : (d : StoredHead) → ((x : ℕ) → HeadText d x → UsesText a vs x) → ((t : ℕ) → d ≡ object t → UsesTraits a vs t) → head_content a d ≡ head_content h (renamed_head r d)
  head_match (xml_document x) f g = ap graph.xml_document (sym (text_same x (f x refl)))
  head_match (date p) f g = refl
  head_match array f g = refl
  head_match (object t) f g = ap graph.object (sym (traits_same t (g t refl)))
  head_match (wrapper w) f g = refl
  head_match (xml x) f g = ap graph.xml (sym (text_same x (f x refl)))
  head_match (bytes x) f g = refl
  head_match (ints i ns) f g = refl
  head_match (uints i ns) f g = refl
  head_match (doubles i ns) f g = refl
  head_match (values i x) f g = ap (graph.values i) (sym (text_same x (f x refl)))
  head_match (dictionary i) f g = refl

  -- what a reached node holds is ready
  pub held : (i : ℕ) → Reaches a vs i → (v : Stored) → HoldsStored (stored_at a i) v → Ready v
  held i w v k = record {
    text = λ x e. of_value i w (subst (HoldsStored (stored_at a i)) e k);
    node = λ j e. inside i w (subst (HoldsStored (stored_at a i)) e k);
  }

  pub node_match : (i : ℕ) → Reaches a vs i → NodesMatch P (node_content a (stored_at a i)) (node_content h (renamed_node r (stored_at a i)))
  node_match i w =
      let n = stored_at a i in
      record {
        head = head_match n.head (λ x e. of_head i w e) (λ t e. (i, w, e));
        names = by_name_match P (names_content a n.names) (names_content h (renamed_names r n.names)) (names_match n.names (λ k x v e. (of_name i k v w e, held i w v (inr (k, x, e)))));
        values = values_match n.values (λ k v e. held i w v (inl (k, e)));
      }

  pub root_match : AllZip (ValuesMatch P) (values_content a vs) (values_content h (renamed_values r vs))
  root_match = values_match vs (λ k v e. record {
    text = λ x f. of_root k (e ∙ ap (λ w. Some w) f);
    node = λ i f. at_root k (e ∙ ap (λ w. Some w) f);
  })

module _ (a : Arena) (vs : List Stored) (old h : Arena) (c : Cut) (exact : IsCut a vs c) (b : IsFinished a) (names : AllByRecursion (Names a) vs) (done : Completes (grafted old a c) h) where
  abbrev q : Renaming
  q = renaming old c

  abbrev Pairs : ℕ → ℕ → Type 0
  Pairs = StandIn (numbered_from (length old.nodes) c.nodes)

  new_node : (i k : ℕ) → slice_get c.nodes k ≡ Some i → Reaches a vs i → (length old.nodes + k < length h.nodes) × (stored_at h (length old.nodes + k) ≡ renamed_node q (stored_at a i))
  new_node i k e w =
      stays_behind (λ i. renamed_node q (stored_at a i)) old.nodes c.nodes h.nodes k i e (all_at (λ n. n.is_open ≡ false) a.nodes i no_stored (let l : i < length a.nodes = reached_below a vs b names i w in l) b.closed) done.nodes

  pub same_from : (v w : Stored) → SameFrom (graph_of a v) (graph_of h w) (values_content a vs) (values_content h (renamed_values q vs))
  same_from v w = record {
    pairs = numbered_from (length old.nodes) c.nodes;
    left = pair_left (length old.nodes) c.nodes exact.once_nodes;
    right = pair_right (length old.nodes) c.nodes;
    within = λ i j p.
        let u = unpaired (length old.nodes) c.nodes p.0 i j p.1 in
        let reached = (exact.nodes i).0 (p.0, u.0) in
        let l : i < length a.nodes = reached_below a vs b names i reached in
        let m = (new_node i p.0 u.0 reached).0 in
        (omega (arith, l, length-map a.nodes (node_content a)), omega (arith, m, u.1, length-map h.nodes (node_content h)));
    roots = root_match a vs old h c exact (begins (grafted old a c) h done);
    nodes = λ i j p.
        let u = unpaired (length old.nodes) c.nodes p.0 i j p.1 in
        let reached = (exact.nodes i).0 (p.0, u.0) in
        let new = (new_node i p.0 u.0 reached).1 in
        let to : node_at (graph_of h w) j ≡ node_content h (renamed_node q (stored_at a i)) = shown h w j ∙ ap (λ k. node_content h (stored_at h k)) u.1 ∙ ap (node_content h) new in
        subst (λ m. NodesMatch Pairs m (node_at (graph_of h w) j)) (sym (shown a v i))
        (subst (λ m. NodesMatch Pairs (node_content a (stored_at a i)) m) (sym to) (node_match a vs old h c exact (begins (grafted old a c) h done) i reached));
  }

  pub graft_pairs : (v w : Stored) → GraftPairs (graph_of a v) (graph_of h w) (values_content a vs) (values_content h (renamed_values q vs)) (length old.nodes) (length (grafted old a c).nodes)
  unfolding same_from
  graft_pairs v w =
      let count : length (grafted old a c).nodes ≡ length old.nodes + length c.nodes = length-append old.nodes (map (λ i. renamed_node q (stored_at a i)) c.nodes) ∙ ap (λ k. length old.nodes + k) (length-map c.nodes (λ i. renamed_node q (stored_at a i))) in
      record {
        same = same_from v w;
        reached = λ i j p. reached_content a vs v i ((exact.nodes i).0 (p.0, (unpaired (length old.nodes) c.nodes p.0 i j p.1).0));
        new = λ i j p. let q = pair_new (length old.nodes) c.nodes i j p in (q.0, omega (arith, q.1, count));
        all = λ j l m. pair_all (length old.nodes) c.nodes j (j - length old.nodes) (omega arith) (omega (arith, m, count, l));
      }

pub graft_law : GraftLaw
graft_law a vs old new copies b names built made h done v w =
    let c = made.cut in
    let d : Completes (grafted old a c) h = subst (λ z. Completes z h) made.arena done in
    let p = graft_pairs a vs old h c made.exact b names d v w in
    subst (λ z. GraftPairs (graph_of a v) (graph_of h w) (values_content a vs) (values_content h copies) (length old.nodes) (length z.nodes)) (sym made.arena)
    (subst (λ z. GraftPairs (graph_of a v) (graph_of h w) (values_content a vs) (values_content h z) (length old.nodes) (length (grafted old a c).nodes)) (sym made.values) p)

zip_at : {X Y : Type 0} (R : X → Y → Type 0) (xs : List X) (ys : List Y) (k : ℕ) (x : X) (y : Y) → AllZip R xs ys → slice_get xs k ≡ Some x → slice_get ys k ≡ Some y → R x y
zip_at R [] ys k x y m e f = cc
zip_at R (u ∷ xs) [] k x y m e f = cc
zip_at R (u ∷ xs) (w ∷ ys) zero x y m e f = subst (λ z. R z y) (same_Some u x e) (subst (R u) (same_Some w y f) m.0)
zip_at R (u ∷ xs) (w ∷ ys) (suc k) x y m e f = zip_at R xs ys k x y m.1 e f

pub each_root : EachRootLaw
each_root g h vs ws s k v w e f = record {
  pairs = s.pairs;
  left = s.left;
  right = s.right;
  within = s.within;
  root = zip_at (ValuesMatch (StandIn s.pairs)) vs ws k v w s.roots e f;
  nodes = s.nodes;
}
