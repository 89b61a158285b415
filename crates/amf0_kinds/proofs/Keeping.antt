-- Values as they are kept, and what they are.
use Rattle.std.proofs.Common.{◌≡◌, ℕ, zero, suc, Bool, true, false, List, [], ◌∷◌, length, map, get_or, refl, ap, ◌∙◌, arith}
use Rattle.std.specs.Prelude.{◌&&◌, ◌==◌}
use Rattle.std.specs.List.{list_all}
use Rattle.std.proofs.lemmas.Bool.Decides.{nat_tests}
use Rattle.amf_graph.specs.declared.value.Value.{Value as Stored}
use Rattle.amf_graph.specs.declared.value.Value.TheVariants.{Undefined, Null, Bool as Flag, Integer, Double, Text, Node as NodeRef}
use Rattle.amf_graph.specs.declared.value.TextId.{TextId}
use Rattle.amf_graph.specs.Graph.{Value, no_node, node_at}
use Rattle.amf_graph.specs.Arena.{Arena, array, object, StoredNode, text_at, traits_at, value_content, node_content, graph_of}
use Rattle.amf_graph.specs.Building.{no_stored, stored_at, closed}
use Rattle.amf_graph.specs.Views.{named}
use Rattle.amf0_kinds.specs.Kinds.{is_value0, is_open, is_node0}
use Rattle.amf0_kinds.specs.Kept.{is_kept}

pub kept : (a : Arena) (v : Stored) → is_value0 (value_content a v) ≡ is_kept v
kept a Undefined = refl
kept a Null = refl
kept a (Flag b) = refl
kept a (Integer n) = refl
kept a (Double p) = refl
kept a (Text t) = refl
kept a (NodeRef n) = refl

both : {p q r s : Bool} → p ≡ q → r ≡ s → (p && r) ≡ (q && s)
both e h = cc

pub kept_values : (a : Arena) (vs : List Stored) → list_all is_value0 (map (value_content a) vs) ≡ list_all is_kept vs
kept_values a [] = refl
kept_values a (v ∷ vs) = both (kept a v) (kept_values a vs)

pub kept_names : (a : Arena) (ps : List (TextId × Stored)) → list_all (λ (p : List ℕ × Value). is_value0 p.1) (map (λ p. (text_at a p.0, value_content a p.1)) (named ps)) ≡ list_all (λ (p : TextId × Stored). is_kept p.1) ps
kept_names a [] = refl
kept_names a (p ∷ ps) = both (kept a p.1) (kept_names a ps)

shown_at : (a : Arena) (ns : List StoredNode) (i : ℕ) → get_or (map (node_content a) ns) i no_node ≡ node_content a (get_or ns i no_stored)
shown_at a [] i = refl
shown_at a (n ∷ ns) zero = refl
shown_at a (n ∷ ns) (suc i) = shown_at a ns i

pub shown : (a : Arena) (root : Stored) (i : ℕ) → node_at (graph_of a root) i ≡ node_content a (stored_at a i)
shown a root i = shown_at a a.nodes i

pub array_kept : (a : Arena) (root : Stored) (i : ℕ) (items : List Stored) (names : List (TextId × Stored)) → stored_at a i ≡ closed array (named names) items
    → is_node0 (node_at (graph_of a root) i) ≡ (list_all is_kept items && list_all (λ (p : TextId × Stored). is_kept p.1) names)
array_kept a root i items names e = ap is_node0 (shown a root i ∙ ap (node_content a) e) ∙ both (kept_values a items) (kept_names a names)

never : (n : ℕ) → (suc n == 0) ≡ false
never n = grind (arith, nat_tests)

shut : (p q r s : Bool) → p ≡ false → q ≡ false → (p && r) ≡ (q && s)
shut false false r s e h = refl
shut true q r s e h = absurd cc
shut false true r s e h = absurd cc

second_false : (p q : Bool) → q ≡ false → (p && q) ≡ false
second_false true q e = e
second_false false q e = refl

pub object_kept : (a : Arena) (root : Stored) (i t : ℕ) (sealed : List Stored) (members : List (TextId × Stored)) → stored_at a i ≡ closed (object t) (named members) sealed
    → is_node0 (node_at (graph_of a root) i) ≡ ((is_open (traits_at a t) && (length sealed == 0)) && list_all (λ (p : TextId × Stored). is_kept p.1) members)
object_kept a root i t [] members e = ap is_node0 (shown a root i ∙ ap (node_content a) e) ∙ both refl (kept_names a members)
object_kept a root i t (v ∷ vs) members e =
    ap is_node0 (shown a root i ∙ ap (node_content a) e)
    ∙ shut _ _ _ _ (second_false (is_open (traits_at a t)) _ (never (length (map (value_content a) vs)))) (second_false (is_open (traits_at a t)) _ (never (length vs)))

pub first_true : (p r : Bool) → p ≡ true → (p && r) ≡ r
first_true true r e = refl
first_true false r e = absurd cc

pub first_false : (p r : Bool) → p ≡ false → (p && r) ≡ false
first_false false r e = refl
first_false true r e = absurd cc
