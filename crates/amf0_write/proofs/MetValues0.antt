-- What a node that is reached holds.
use Rattle.std.proofs.Common.{◌≡◌, ℕ, eqb, eq-eqb, ◌<◌, Bool, true, false, List, [], ◌∷◌, length, ℤ, sym, refl, ap, ◌∙◌, subst, inl, inr}
use Rattle.std.specs.List.{AllByRecursion}
use Rattle.std.proofs.Math.ListN.{get_or-map}
use Rattle.std.proofs.lemmas.List.{length-map, nil_from_length}
use Rattle.std.proofs.lemmas.Bool.{eqb-true}
use Rattle.amf_wire.specs.Text.{IsText}
use Rattle.amf_graph.specs.declared.value.TextId.{TextId}
use Rattle.amf_graph.specs.declared.value.Value.{Value as Stored}
use Rattle.amf_graph.specs.declared.value.Value.TheVariants.{Integer}
use Rattle.amf_graph.specs.Graph.{integer, leaf, node, Node, Graph, node_at, Fits}
use Rattle.amf_graph.specs.Arena.{Arena, StoredNode, node_content, value_content, text_at, graph_of, IsFinished, IsNodeIn, Names}
use Rattle.amf_graph.specs.Bounds.{NodeWithin, IsWithinBounds}
use Rattle.amf_graph.specs.Building.{stored_at, no_stored}
use Rattle.amf_graph.specs.ByName.{by_name}
use Rattle.amf_graph.specs.Views.{named}
use Rattle.amf_graph.specs.Reached.{Reached, at_root, inside, IsReachedValue}
use Rattle.amf_graph.specs.Rooted.{RootedArena, content}
use Rattle.amf_graph.proofs.Alls.{all_at, each_from}
use Rattle.amf_graph.proofs.NameOrder.{by_name_all}
use Rattle.amf_iso.specs.Contents.{values_of, pairs_of, ArePairs}
use Rattle.amf0_spelling.specs.Lacks0.{IsShortName}
use Rattle.amf0_spelling.specs.Lowered.{IsLowered}
use Rattle.amf0_write.specs.Unwritten0.{IsMetValue, IsMetPair, AreMetPairs}

-- Nodes by content.

pub shown : (a : Arena) (root : Stored) (i : ℕ) (n : StoredNode) → stored_at a i ≡ n → node_at (graph_of a root) i ≡ node_content a n
shown a root i n e = get_or-map (node_content a) a.nodes i no_stored ∙ ap (node_content a) e

pub node_in : (a : Arena) (i : ℕ) (n : StoredNode) → IsFinished a → i < length a.nodes → stored_at a i ≡ n → IsNodeIn a n
node_in a i n f l e = subst (IsNodeIn a) e (all_at (IsNodeIn a) a.nodes i no_stored l f.built.nodes)

pub node_within : (a : Arena) (i : ℕ) (n : StoredNode) → IsWithinBounds a → i < length a.nodes → stored_at a i ≡ n → NodeWithin n
node_within a i n b l e = subst NodeWithin e (all_at NodeWithin a.nodes i no_stored l b.nodes)

pub node_there : (a : Arena) (root : Stored) (i : ℕ) → i < length a.nodes → i < length (graph_of a root).nodes
node_there a root i l = subst (λ k. i < k) (sym (length-map a.nodes (node_content a))) l

pub node_fits : (a : Arena) (root : Stored) (i : ℕ) → IsFinished a → i < length a.nodes → Fits (node_at (graph_of a root) i).head (node_at (graph_of a root) i).names (node_at (graph_of a root) i).values
node_fits a root i f l =
    subst (λ (n : Node). Fits n.head n.names n.values) (sym (shown a root i (stored_at a i) refl)) ((node_in a i (stored_at a i) f l refl).fits (all_at (λ (n : StoredNode). n.is_open ≡ false) a.nodes i no_stored l f.closed))

pub text_in : (a : Arena) (i : ℕ) → IsFinished a → i < length a.texts → IsText (text_at a i)
text_in a i f l = all_at IsText a.texts i [] l f.built.texts

pub text_within : (a : Arena) (i : ℕ) → IsWithinBounds a → i < length a.texts → length (text_at a i) < 268435456
text_within a i b l = all_at (λ x. length x < 268435456) a.texts i [] l b.texts

-- Values that are reached.

pub reached_node : {g : Graph} {i : ℕ} → IsReachedValue g (node i) → Reached g i
reached_node (inl e) = at_root e
reached_node (inr (j, r, h)) = inside j r h

values_reached : (g : Graph) (i : ℕ) → Reached g i → AllByRecursion (IsReachedValue g) (node_at g i).values
values_reached g i r = each_from (IsReachedValue g) (node_at g i).values (λ k v e. inr (i, r, inl (k, e)))

names_reached : (g : Graph) (i : ℕ) → Reached g i → AllByRecursion (λ p. IsReachedValue g p.1) (node_at g i).names
names_reached g i r = each_from (λ p. IsReachedValue g p.1) (node_at g i).names (λ k p e. inr (i, r, inr (k, p.0, e)))

items_met : (g : RootedArena) (vs : List Stored) → AllByRecursion (Names g.arena) vs → AllByRecursion (IsReachedValue (content g)) (values_of g.arena vs) → AllByRecursion (IsMetValue g) vs
items_met g [] h k = tt
items_met g (v ∷ vs) h k = (record { names = h.0; reached = k.0 }, items_met g vs h.1 k.1)

pub met_items : (g : RootedArena) (i : ℕ) (n : Node) (vs : List Stored) → Reached (content g) i → node_at (content g) i ≡ n → n.values ≡ values_of g.arena vs → AllByRecursion (Names g.arena) vs → AllByRecursion (IsMetValue g) vs
met_items g i n vs r e f h = items_met g vs h (subst (AllByRecursion (IsReachedValue (content g))) f (subst (λ (m : Node). AllByRecursion (IsReachedValue (content g)) m.values) e (values_reached (content g) i r)))

pub met_names : (g : RootedArena) (i : ℕ) (n : Node) (ps : List (TextId × Stored)) → Reached (content g) i → node_at (content g) i ≡ n → n.names ≡ pairs_of g.arena ps → ArePairs g.arena ps → AllByRecursion (λ p. IsShortName p.0) (node_at (content g) i).names → AreMetPairs g ps
met_names g i n ps r e f h s = record {
  pairs = h;
  short = subst (AllByRecursion (λ p. IsShortName p.0)) f (subst (λ (m : Node). AllByRecursion (λ p. IsShortName p.0) m.names) e s);
  reached = subst (AllByRecursion (λ p. IsReachedValue (content g) p.1)) f (subst (λ (m : Node). AllByRecursion (λ p. IsReachedValue (content g) p.1) m.names) e (names_reached (content g) i r));
}

pairs_met : (g : RootedArena) (ps : List (TextId × Stored)) → ArePairs g.arena ps → AllByRecursion (λ p. IsShortName p.0) (pairs_of g.arena ps) → AllByRecursion (λ p. IsReachedValue (content g) p.1) (pairs_of g.arena ps) → AllByRecursion (IsMetPair g) ps
pairs_met g [] h s r = tt
pairs_met g (p ∷ ps) h s r = (record { name = h.0.0; short = s.0; value = record { names = h.0.1; reached = r.0 } }, pairs_met g ps h.1 s.1 r.1)

pub each_pair_met : (g : RootedArena) (ps : List (TextId × Stored)) → AreMetPairs g ps → AllByRecursion (IsMetPair g) ps
each_pair_met g ps m = pairs_met g ps m.pairs m.short m.reached

pub sorted_met : (g : RootedArena) (ps qs : List (TextId × Stored)) → AreMetPairs g ps → pairs_of g.arena qs ≡ by_name (pairs_of g.arena ps) → ArePairs g.arena qs → AllByRecursion (IsMetPair g) qs
sorted_met g ps qs m e h =
    pairs_met g qs h (subst (AllByRecursion (λ p. IsShortName p.0)) (sym e) (by_name_all (λ p. IsShortName p.0) (pairs_of g.arena ps) m.short)) (subst (AllByRecursion (λ p. IsReachedValue (content g) p.1)) (sym e) (by_name_all (λ p. IsReachedValue (content g) p.1) (pairs_of g.arena ps) m.reached))

-- no value of a lowered graph is an integer
pub no_integer : (g : RootedArena) (v : Stored) (n : ℤ) → IsLowered (content g) → IsMetValue g v → v ≡ Integer n → ⊥
no_integer g v n low met e = low.values (leaf (integer n)) (subst (λ w. IsReachedValue (content g) (value_content g.arena w)) e met.reached)

-- Lists that are empty, and their lengths.

pub none_from : {X : Type 0} (xs : List X) (r : Bool) → r ≡ eqb (length xs) 0 → r ≡ true → xs ≡ []
none_from xs r e t = nil_from_length xs (eqb-true (length xs) 0 (sym e ∙ t))

pub some_from : {X : Type 0} (xs : List X) (r : Bool) → r ≡ eqb (length xs) 0 → r ≡ false → xs ≡ [] → ⊥
some_from xs r e f n = let z : true ≡ false = sym (eq-eqb (length xs) 0 (ap length n)) ∙ sym e ∙ f in cc

pub pairs_none : (a : Arena) (ps : List (TextId × Stored)) → pairs_of a ps ≡ [] → ps ≡ []
pairs_none a [] e = refl
pairs_none a (p ∷ ps) e = cc

pub pairs_length : (a : Arena) (ps : List (TextId × Stored)) → length (pairs_of a ps) ≡ length ps
pairs_length a ps = length-map (named ps) _ ∙ length-map ps _
