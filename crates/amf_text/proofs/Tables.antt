-- The order and the table of a value that is no node, and of an array that holds itself.
use Rattle.std.proofs.Common.{◌≡◌, ℕ, zero, suc, ◌<◌, lit<, List, [], ◌∷◌, Option, Some, refl, sym, ap, ◌∙◌, subst, inl, arith}
use Rattle.std.specs.Prelude.{slice_get}
use Rattle.std.specs.List.{AllZip}
use Rattle.std.proofs.lemmas.Option.{same_Some}
use Rattle.json.specs.Token.{Token}
use Rattle.amf_graph.specs.Graph.{Leaf, Value, leaf, node, Graph, node_at}
use Rattle.amf_graph.specs.Order.{IsOrder, Walks, over, past, again, first, values_met}
use Rattle.amf_text.specs.Texts.{IsTokenOf, IsShared, Under, itself, step, InTable, shared, below_root, below, IsTable}
use Rattle.amf_text.specs.WorkedVerdicts.{circle}
use Rattle.amf_text.proofs.Goals.{no_answer}

-- a token is one as it is
pub same_tokens : (ts : List Token) → AllZip IsTokenOf ts ts
same_tokens [] = tt
same_tokens (t ∷ ts) = (inl refl, same_tokens ts)

-- the number of a node
abbrev numbered : Option Value → ℕ
numbered (Some (node i)) = i
numbered _ = 0

-- a value that is no node has neither order nor table

pub leaf_order : (g : Graph) (x : Leaf) → g.root ≡ leaf x → IsOrder g []
leaf_order g x e = subst (λ v. Walks g [] (v ∷ []) []) (sym e) (past x over)

no_leaf : (x : Leaf) (i : ℕ) → leaf x ≡ node i → ⊥
no_leaf x i e = cc

no_node : (g : Graph) (x : Leaf) → g.root ≡ leaf x → (j i : ℕ) → slice_get (g.root ∷ []) j ≡ Some (node i) → ⊥
no_node g x r zero i e = no_leaf x i (sym r ∙ same_Some g.root (node i) e)
no_node g x r (suc j) i e = no_answer (node i) e

none_told : (g : Graph) (x : Leaf) → g.root ≡ leaf x → {i : ℕ} → InTable g [] i → ⊥
none_told g x r {i = i} (shared s) = no_node g x r s.0 i s.3
none_told g x r (below_root {j = j} e u) = no_leaf x j (sym r ∙ e)
none_told g x r (below t u) = none_told g x r t

pub leaf_table : (g : Graph) (x : Leaf) → g.root ≡ leaf x → IsTable g [] []
leaf_table g x r = record {
  sound = λ i k e. no_answer i e;
  complete = λ i t. absurd (none_told g x r t);
  in_order = λ j k m n a b l e f h i. no_answer a e;
}

pub circle_order : IsOrder circle (0 ∷ [])
circle_order = first 0 (lit< tt) (λ k e. no_answer 0 e) (again 0 0 refl over)

shared_zero : IsShared circle (0 ∷ []) 0
shared_zero = (0, 1, lit< tt, refl, refl)

met_zero : (j i : ℕ) → slice_get (node 0 ∷ node 0 ∷ []) j ≡ Some (node i) → 0 ≡ i
met_zero zero i e = ap numbered e
met_zero (suc zero) i e = ap numbered e
met_zero (suc (suc j)) i e = no_answer (node i) e

held_zero : (j n i : ℕ) → slice_get (values_met (node_at circle j)) n ≡ Some (node i) → 0 ≡ i
held_zero zero zero i e = ap numbered e
held_zero zero (suc n) i e = no_answer (node i) e
held_zero (suc j) n i e = no_answer (node i) e

-- no node is met once
no_steps : {n j i : ℕ} → Under circle (0 ∷ []) n j i → n ≡ 32 → ⊥
no_steps (itself i) e = omega (arith, e)
no_steps (step {j = j} {k = k} u h once) e = once (subst (IsShared circle (0 ∷ [])) (held_zero j h.0 k h.1) shared_zero)

in_circle : {i : ℕ} → InTable circle (0 ∷ []) i → 0 ≡ i
in_circle {i = i} (shared s) = met_zero s.0 i s.3
in_circle (below_root e u) = absurd (no_steps u refl)
in_circle (below t u) = absurd (no_steps u refl)

the_first : (i k : ℕ) → slice_get (0 ∷ []) k ≡ Some i → InTable circle (0 ∷ []) i
the_first i zero e = subst (InTable circle (0 ∷ [])) (same_Some 0 i e) (shared shared_zero)
the_first i (suc k) e = no_answer i e

alone : (j k b : ℕ) → j < k → slice_get (0 ∷ []) k ≡ Some b → ⊥
alone j zero b l e = omega (arith, l)
alone j (suc k) b l e = no_answer b e

pub circle_table : IsTable circle (0 ∷ []) (0 ∷ [])
circle_table = record {
  sound = the_first;
  complete = λ i t. (0, ap Some (in_circle t));
  in_order = λ j k m n a b l e f g h. absurd (alone j k b l f);
}
