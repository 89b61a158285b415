-- A value of a graph that is no node.
use Rattle.std.proofs.Common.{◌≡◌, ℕ, zero, suc, ◌<◌, List, [], ◌∷◌, get_or, length, subst, arith, refl}
use Rattle.std.specs.List.{AllByRecursion}
use Rattle.json.specs.Tree.{json_tokens}
use Rattle.amf_wire.specs.Text.{IsText}
use Rattle.amf_graph.specs.declared.value.Value.{Value as Stored}
use Rattle.amf_graph.specs.declared.value.NodeId.{NodeId}
use Rattle.amf_graph.specs.declared.value.Value.TheVariants as stored
use Rattle.amf_graph.specs.Arena.{Arena, IsFinished, text_at, value_content}
use Rattle.amf_graph.specs.Graph.{Leaf, leaf}
use Rattle.amf_text.specs.Told.{Way, told_leaf}
use Rattle.amf_text_write.specs.Laid.{Shown}
use Rattle.amf_text_write.specs.Tells.{Tells}

all_at : (P : List ℕ → Type 0) (xs : List (List ℕ)) (i : ℕ) → AllByRecursion P xs → i < length xs → P (get_or xs i [])
all_at P [] i h l = absurd (omega (arith, l))
all_at P (x ∷ xs) zero h l = h.0
all_at P (x ∷ xs) (suc i) h l = all_at P xs i h.1 (omega (arith, l))

pub text_is : (a : Arena) (i : ℕ) → IsFinished a → i < length a.texts → IsText (text_at a i)
text_is a i f l = all_at IsText a.texts i f.built.texts l

same_leaf : (x y : Leaf) → leaf x ≡ leaf y → x ≡ y
same_leaf x y e = cc

-- what was told of a leaf is told of the same one
pub tells_same : (w : Way) (x y : Leaf) (a b : Shown) → leaf x ≡ leaf y → Tells (json_tokens (told_leaf w x)) a b → Tells (json_tokens (told_leaf w y)) a b
tells_same w x y a b e t = subst (λ z. Tells (json_tokens (told_leaf w z)) a b) (same_leaf x y e) t

-- what is no node stands for itself
pub leaf_of : (a : Arena) (v : Stored) → ((n : NodeId) → v ≡ stored.Node n → ⊥) → (x : Leaf) × (value_content a v ≡ leaf x)
leaf_of a (stored.Undefined) never = (_, refl)
leaf_of a (stored.Null) never = (_, refl)
leaf_of a (stored.Bool b) never = (_, refl)
leaf_of a (stored.Integer n) never = (_, refl)
leaf_of a (stored.Double p) never = (_, refl)
leaf_of a (stored.Text t) never = (_, refl)
leaf_of a (stored.Node n) never = absurd (never n refl)
