-- What the sheets of the tests hold after each step.
use Rattle.std.proofs.Common.{◌≡◌, ℕ, ◌+◌, ◌<◌, true, false, pos, List, [], ◌∷◌, length, codes, sym, refl, ap, ◌∙◌, subst, lit<, rules, arith}
use Rattle.std.specs.List.{AllByRecursion}
use Rattle.amf_graph.specs.declared.value.Value.{Value as Stored}
use Rattle.amf_graph.specs.declared.value.Value.TheVariants.{Null, Integer}
use Rattle.amf_graph.specs.declared.value.TextId.{TextId}
use Rattle.amf_graph.specs.declared.value.NodeId.{NodeId}
use Rattle.amf_graph.specs.declared.value.TraitsId.{TraitsId}
use Rattle.amf_graph.specs.declared.shape.Shape.TheVariants as shape
use Rattle.amf_graph.specs.declared.leaf.Leaf.{Leaf}
use Rattle.amf_graph.specs.declared.leaf.Leaf.TheVariants as leaf
use Rattle.amf_graph.specs.Arena.{Arena, array, head_content, HeadNames, IsTextId, Names}
use Rattle.amf_graph.specs.Bounds.{items_of, parts_of}
use Rattle.amf_graph.specs.Building.{no_arena, kept_text, kept_traits, kept_node, stored_traits, closed, leaf_head}
use Rattle.amf_sheet.specs.Labels.{linked_arena}
use Rattle.amf_sheet.specs.Telling.{untold, told, told_leaf, with_node, HasParts, IsTold, AreAllTold}
use Rattle.amf_sheet_tests.specs.Sheets.{node, text, met_again, begun_of_a_class, of_a_class, of_a_type}

abbrev text_id : ℕ → TextId
text_id i = record { 0 = i }

abbrev node_id : ℕ → NodeId
node_id i = record { 0 = i }

abbrev traits_id : ℕ → TraitsId
traits_id i = record { 0 = i }

-- a text and a node more
pub begun_one : (a b c : Arena) (x : List ℕ) → a ≡ no_arena → b ≡ kept_text a x → c ≡ kept_node b untold → c ≡ kept_node (kept_text no_arena x) untold
begun_one a b c x e f g = g ∙ ap (λ y. kept_node y untold) (f ∙ ap (λ y. kept_text y x) e)

pub met_steps : (a b c d : Arena) → a ≡ kept_node (kept_text no_arena (codes "n")) untold → b ≡ kept_node a untold → c ≡ with_node 1 (told shape.Array [] []) b
    → d ≡ with_node 0 (told shape.Array ((text_id 0, node 1) ∷ []) (node 268435456 ∷ node 1 ∷ [])) c → linked_arena (node_id 0 ∷ []) d ≡ met_again
met_steps a b c d e f g h =
    ap (linked_arena (node_id 0 ∷ []))
    (h ∙ ap (with_node 0 (told shape.Array ((text_id 0, node 1) ∷ []) (node 268435456 ∷ node 1 ∷ []))) (g ∙ ap (with_node 1 (told shape.Array [] [])) (f ∙ ap (λ y. kept_node y untold) e)))

pub type_steps : (a b : Arena) → a ≡ kept_node (kept_text no_arena (codes "C")) untold → b ≡ with_node 0 (told (shape.Values false (text_id 0)) [] (Null ∷ Integer (pos 5) ∷ [])) a → b ≡ of_a_type
type_steps a b e f = f ∙ ap (with_node 0 (told (shape.Values false (text_id 0)) [] (Null ∷ Integer (pos 5) ∷ []))) e

pub four_texts : (a b c d e : Arena) → a ≡ no_arena → b ≡ kept_text a (codes "C") → c ≡ kept_text b (codes "a") → d ≡ kept_text c (codes "k") → e ≡ kept_text d (codes "d")
    → e ≡ record { texts = codes "C" ∷ codes "a" ∷ codes "k" ∷ codes "d" ∷ []; traits = []; nodes = [] }
four_texts a b c d e f g h i j =
    j ∙ ap (λ y. kept_text y (codes "d")) (i ∙ ap (λ y. kept_text y (codes "k")) (h ∙ ap (λ y. kept_text y (codes "a")) (g ∙ ap (λ y. kept_text y (codes "C")) f)))

pub class_begun : (a b c d : Arena) → a ≡ record { texts = codes "C" ∷ codes "a" ∷ codes "k" ∷ codes "d" ∷ []; traits = []; nodes = [] }
    → b ≡ kept_traits a (stored_traits (text_id 0) true (text_id 1 ∷ [])) → c ≡ kept_node b untold → d ≡ kept_node c untold → d ≡ begun_of_a_class
class_begun a b c d e f g h = h ∙ ap (λ y. kept_node y untold) (g ∙ ap (λ y. kept_node y untold) (f ∙ ap (λ y. kept_traits y (stored_traits (text_id 0) true (text_id 1 ∷ []))) e))

pub class_steps : (a b c : Arena) → a ≡ begun_of_a_class → b ≡ with_node 1 (told (shape.Dictionary true) [] (text 2 ∷ node 0 ∷ [])) a
    → c ≡ with_node 0 (told (shape.Object (traits_id 0)) ((text_id 3, text 1) ∷ []) (node 1 ∷ [])) b → c ≡ of_a_class
class_steps a b c e f g = g ∙ ap (with_node 0 (told (shape.Object (traits_id 0)) ((text_id 3, text 1) ∷ []) (node 1 ∷ []))) (f ∙ ap (with_node 1 (told (shape.Dictionary true) [] (text 2 ∷ node 0 ∷ []))) e)

-- And each of them is told whole.

array_told : (a : Arena) (ps : List (ℕ × Stored)) (vs : List Stored) → AllByRecursion (λ p. IsTextId a p.0 × Names a p.1) ps → AllByRecursion (Names a) vs → length ps + length vs < 268435456 → IsTold a (closed array ps vs)
array_told a ps vs h k l = record { complete = refl; head = tt; names = h; values = k; parts = tt; within = record { together = omega arith } }

pub met_told : AreAllTold met_again
met_told = (
  array_told met_again ((0, node 1) ∷ []) (node 0 ∷ node 1 ∷ []) ((lit< tt, lit< tt), tt) (lit< tt, (lit< tt, tt)) (lit< tt),
  (array_told met_again [] [] tt tt (lit< tt), tt),
)

pub type_told : AreAllTold of_a_type
type_told = (record { complete = refl; head = lit< tt; names = tt; values = (tt, (search rules, tt)); parts = refl; within = record { together = lit< tt } }, tt)

pub class_told : AreAllTold of_a_class
class_told = (
  record { complete = refl; head = lit< tt; names = ((lit< tt, lit< tt), tt); values = (lit< tt, tt); parts = (refl, tt); within = record { together = lit< tt } },
  (record { complete = refl; head = tt; names = tt; values = (lit< tt, (lit< tt, tt)); parts = (refl, 1, refl); within = record { together = lit< tt } }, tt),
)

pub leaf_told : (l : Leaf) (a b c : Arena) → HeadNames no_arena (leaf_head l) → items_of (leaf_head l) < 268435456 → a ≡ no_arena → b ≡ kept_node a untold → c ≡ with_node 0 (told_leaf l) b → AreAllTold c
leaf_told l a b c h w e f g =
    let one : Arena = record { texts = []; traits = []; nodes = told_leaf l ∷ [] } in
    let is : c ≡ one = g ∙ ap (with_node 0 (told_leaf l)) (f ∙ ap (λ y. kept_node y untold) e) in
    subst AreAllTold (sym is) (record { complete = refl; head = head_in l h; names = tt; values = tt; parts = leaf_parts one l; within = record { together = small l w } }, tt)
  where
    head_in : (l : Leaf) → HeadNames no_arena (leaf_head l) → HeadNames (record { texts = []; traits = []; nodes = told_leaf l ∷ [] }) (leaf_head l)
    head_in l h = h

    leaf_parts : (a : Arena) (l : Leaf) → HasParts (head_content a (leaf_head l)) [] []
    leaf_parts a (leaf.XmlDocument x) = tt
    leaf_parts a (leaf.Xml x) = tt
    leaf_parts a (leaf.Date p) = tt
    leaf_parts a (leaf.Bytes x) = tt
    leaf_parts a (leaf.Ints f ns) = tt
    leaf_parts a (leaf.Uints f ns) = tt
    leaf_parts a (leaf.Doubles f ns) = tt

    small : (l : Leaf) → items_of (leaf_head l) < 268435456 → items_of (leaf_head l) + 0 + parts_of (leaf_head l) 0 < 268435456
    small (leaf.XmlDocument x) w = omega arith
    small (leaf.Xml x) w = omega arith
    small (leaf.Date p) w = omega arith
    small (leaf.Bytes x) w = omega (arith, w)
    small (leaf.Ints f ns) w = omega (arith, w)
    small (leaf.Uints f ns) w = omega (arith, w)
    small (leaf.Doubles f ns) w = omega (arith, w)
