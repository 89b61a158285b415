-- A lowering is lowered.
use Rattle.std.proofs.Common.{◌≡◌, ℕ, zero, suc, false, List, [], ◌∷◌, ◌++◌, slice_get, get_or, Some, None, refl, sym, subst, inl, inr}
use Rattle.std.specs.List.{AllZip, zip}
use Rattle.amf_graph.specs.Graph.{undefined, null, boolean, integer, double, text, Value, leaf, node, Head, xml_document, date, array, object, wrapper, xml, bytes, ints, uints, doubles, values, dictionary, Node, no_node, Graph, node_at}
use Rattle.amf_graph.specs.Reached.{Reached, at_root, inside, IsReachedValue, Holds}
use Rattle.amf0_spelling.specs.Lowered.{is_wrapper, wraps, unwrapped_times, LowPlain, Low, ends, never_ends, low_head, sealed_names, unsealed_values, LowNode, IsLoweringOf, IsNoInteger, IsLowHead, IsLowered}

-- a low value is no integer and no wrapper
pub record IsLow (g : Graph) (w : Value) : Type 0 where
  pub no_integer : IsNoInteger w
  pub no_wrapper : wraps g w ≡ false

low_plain : (g : Graph) (u w : Value) → wraps g u ≡ false → LowPlain u w → IsLow g w
low_plain g (leaf undefined) w e l = subst (IsLow g) (sym l) (record { no_integer = tt; no_wrapper = refl })
low_plain g (leaf null) w e l = subst (IsLow g) (sym l) (record { no_integer = tt; no_wrapper = refl })
low_plain g (leaf (boolean b)) w e l = subst (IsLow g) (sym l) (record { no_integer = tt; no_wrapper = refl })
low_plain g (leaf (integer n)) w e (p, h, l) = subst (IsLow g) (sym l) (record { no_integer = tt; no_wrapper = refl })
low_plain g (leaf (double p)) w e l = subst (IsLow g) (sym l) (record { no_integer = tt; no_wrapper = refl })
low_plain g (leaf (text x)) w e l = subst (IsLow g) (sym l) (record { no_integer = tt; no_wrapper = refl })
low_plain g (node i) w e l = subst (IsLow g) (sym l) (record { no_integer = tt; no_wrapper = e })

low_is : (g : Graph) (v w : Value) → Low g v w → IsLow g w
low_is g v w (ends n e l) = low_plain g (unwrapped_times g n v) w e l
low_is g v w (never_ends all l) = subst (IsLow g) (sym l) (record { no_integer = tt; no_wrapper = refl })

from_right : {A B : Type 0} (R : A → B → Type 0) (xs : List A) (ys : List B) (k : ℕ) (y : B) → AllZip R xs ys → slice_get ys k ≡ Some y → (x : A) × R x y
from_right R [] [] k y z e = let h : None ≡ Some y = e in absurd cc
from_right R [] (v ∷ ys) k y z e = absurd z
from_right R (u ∷ xs) [] k y z e = absurd z
from_right R (u ∷ xs) (v ∷ ys) zero y z e = let h : v ≡ y = cc in (u, subst (R u) h z.0)
from_right R (u ∷ xs) (v ∷ ys) (suc k) y z e = from_right R xs ys k y z.1 e

-- node by node, past the ends too
at_place : (P : Node → Node → Type 0) (xs ys : List Node) (i : ℕ) → AllZip P xs ys → P no_node no_node → P (get_or xs i no_node) (get_or ys i no_node)
at_place P [] [] i z d = d
at_place P [] (y ∷ ys) i z d = absurd z
at_place P (x ∷ xs) [] i z d = absurd z
at_place P (x ∷ xs) (y ∷ ys) zero z d = z.0
at_place P (x ∷ xs) (y ∷ ys) (suc i) z d = at_place P xs ys i z.1 d

pub low_at : (g h : Graph) (i : ℕ) → IsLoweringOf g h → LowNode g (node_at g i) (node_at h i)
low_at g h i z = at_place (LowNode g) g.nodes h.nodes i z.nodes (record { head = refl; names = tt; values = tt })

low_values : (g h : Graph) (i : ℕ) (v : Value) → IsLoweringOf g h → Holds (node_at h i) v → IsLow g v
low_values g h i v z (inl (k, e)) =
    let n : LowNode g (node_at g i) (node_at h i) = low_at g h i z in
    let x : (u : Value) × Low g u v = from_right (Low g) (unsealed_values (node_at g i).head (node_at g i).values) (node_at h i).values k v n.values e in
    low_is g x.0 v x.1
low_values g h i v z (inr (k, name, e)) =
    let n : LowNode g (node_at g i) (node_at h i) = low_at g h i z in
    let x : (p : List ℕ × Value) × ((name ≡ p.0) × Low g p.1 v) = from_right (λ p q. (q.0 ≡ p.0) × Low g p.1 q.1) (zip (sealed_names (node_at g i).head) (node_at g i).values ++ (node_at g i).names) (node_at h i).names k (name, v) n.names e in
    low_is g x.0.1 v x.1.1

low_reached : (g h : Graph) (v : Value) → IsLoweringOf g h → IsReachedValue h v → IsLow g v
low_reached g h v z (inl e) = subst (IsLow g) e (low_is g g.root h.root z.root)
low_reached g h v z (inr (j, r, holds)) = low_values g h j v z holds

reached_value : (h : Graph) (i : ℕ) → Reached h i → IsReachedValue h (node i)
reached_value h i (at_root e) = inl e
reached_value h i (inside j r holds) = inr (j, r, holds)

low_head_is : (a : Head) → is_wrapper a ≡ false → IsLowHead (low_head a)
low_head_is (xml_document x) e = tt
low_head_is (date p) e = tt
low_head_is array e = tt
low_head_is (object t) e = (refl, refl)
low_head_is (wrapper c) e = cc
low_head_is (xml x) e = tt
low_head_is (bytes x) e = tt
low_head_is (ints f ns) e = tt
low_head_is (uints f ns) e = tt
low_head_is (doubles f ns) e = tt
low_head_is (values f x) e = tt
low_head_is (dictionary f) e = tt

pub lowering_is_lowered : (g h : Graph) → IsLoweringOf g h → IsLowered h
lowering_is_lowered g h z = record {
  values = λ v r. (low_reached g h v z r).no_integer;
  nodes = λ i r. subst IsLowHead (sym (low_at g h i z).head) (low_head_is (node_at g i).head (low_reached g h (node i) z (reached_value h i r)).no_wrapper);
}
