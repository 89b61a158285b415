-- A fault whose texts are texts for a packet has a spelling.
use Rattle.std.proofs.Common.{◌≡◌, ℕ, zero, suc, ◌<◌, ◌≤◌, true, List, [], length, ap, refl, sym, subst, arith, inl, inr, Option, Some, None, slice_get}
use Rattle.std.specs.Prelude.{codes}
use Rattle.amf_wire.specs.Style.{canonical}
use Rattle.amf_wire.specs.Text.{is_text, IsText}
use Rattle.amf_wire.proofs.TextTest.{is_text-is}
use Rattle.amf_graph.specs.Graph.{Value, leaf, node, text, IsValue, HasTexts, Fits, node_at, AllNamed}
use Rattle.amf_graph.specs.Reached.{Reached, at_root, inside, Holds, IsReachedValue, IsWhole, IsNamed}
use Rattle.amf_graph.specs.Small.{IsSmallValue, IsSmallNode, IsSmall}
use Rattle.amf3_spelling.specs.Spells3.{Spelled3}
use Rattle.amf3_spelling.proofs.Decides3.{canonical_exist}
use Rattle.flex_msgs.specs.declared.reply.FaultText.{FaultText}
use Rattle.amf_answer_plan.specs.PlainCalls.{fault_node, fault_graph}

none_there : {X : Type 0} (k : ℕ) (x : X) → slice_get [] k ≡ Some x → ⊥
none_there k x e = cc

abbrev value_of : Option (List ℕ × Value) → Option Value
value_of None = None
value_of (Some p) = Some p.1

same_value : (v w : Value) → Some v ≡ Some w → v ≡ w
same_value v w e = cc

text_no_node : (x : List ℕ) (i : ℕ) → leaf (text x) ≡ node i → ⊥
text_no_node x i e = cc

same_node : (i j : ℕ) → node i ≡ node j → i ≡ j
same_node i j e = cc

literal : (x : List ℕ) → is_text x ≡ true → IsText x
literal x e = (is_text-is x).0 e

module _ (f : FaultText) (code : IsText f.code) (text_is : IsText f.text) (few_code : length f.code ≤ 65535) (few_text : length f.text ≤ 65535) where
  -- what the one node holds is one of three texts
  held : (P : Value → Type 0) → P (leaf (text f.code)) → P (leaf (text f.text)) → P (leaf (text (codes "error"))) → (v : Value) → Holds (fault_node f) v → P v
  held P a b c v (inl h) = absurd (none_there h.0 v h.1)
  held P a b c v (inr h) = at h.0 h.1 h.2
    where
      at : (k : ℕ) (x : List ℕ) → slice_get (fault_node f).names k ≡ Some (x, v) → P v
      at zero x e = subst P (same_value (leaf (text f.code)) v (ap value_of e)) a
      at (suc zero) x e = subst P (same_value (leaf (text f.text)) v (ap value_of e)) b
      at (suc (suc zero)) x e = subst P (same_value (leaf (text (codes "error"))) v (ap value_of e)) c
      at (suc (suc (suc k))) x e = absurd (none_there k (x, v) e)

  no_node_held : (i : ℕ) → Holds (fault_node f) (node i) → ⊥
  no_node_held i h = held (λ v. v ≡ node i → ⊥) (text_no_node f.code i) (text_no_node f.text i) (text_no_node (codes "error") i) (node i) h refl

  only_first : (i : ℕ) → Reached (fault_graph f) i → i ≡ 0
  only_first i (at_root e) = sym (same_node 0 i e)
  only_first i (inside j r h) = absurd (no_node_held i (subst (λ k. Holds (node_at (fault_graph f) k) (node i)) (only_first j r) h))

  of_first : (P : ℕ → Type 0) → P 0 → (i : ℕ) → Reached (fault_graph f) i → P i
  of_first P p i r = subst P (sym (only_first i r)) p

  of_values : (P : Value → Type 0) → P (node 0) → P (leaf (text f.code)) → P (leaf (text f.text)) → P (leaf (text (codes "error"))) → (v : Value) → IsReachedValue (fault_graph f) v → P v
  of_values P n a b c v (inl e) = subst P e n
  of_values P n a b c v (inr (j, r, h)) = held P a b c v (subst (λ k. Holds (node_at (fault_graph f) k) v) (only_first j r) h)

  whole : IsWhole (fault_graph f)
  whole = record {
    there = λ i r. of_first (λ k. k < 1) (omega arith) i r;
    values = λ v r. of_values IsValue tt code text_is (literal (codes "error") refl) v r;
    texts = λ i r. of_first (λ k. HasTexts (node_at (fault_graph f) k)) (record { head = (literal [] refl, tt); names = (literal (codes "code") refl, (literal (codes "description") refl, (literal (codes "level") refl, tt))) }) i r;
    fits = λ i r. of_first (λ k. Fits (node_at (fault_graph f) k).head (node_at (fault_graph f) k).names (node_at (fault_graph f) k).values) (refl, tt) i r;
  }

  small : IsSmall (fault_graph f)
  small = record {
    few = omega arith;
    values = λ v r. of_values IsSmallValue tt (omega (arith, few_code)) (omega (arith, few_text)) (omega arith) v r;
    nodes = λ i r. of_first (λ k. IsSmallNode (node_at (fault_graph f) k)) (record { head = (omega arith, tt, omega arith); names = (omega arith, (omega arith, (omega arith, tt))); few_names = omega arith; count = omega arith }) i r;
  }

  named : IsNamed (fault_graph f)
  named i r = of_first (λ k. AllNamed (node_at (fault_graph f) k).names) ((λ e. cc), ((λ e. cc), ((λ e. cc), tt))) i r

  pub fault_form : (b : List ℕ) × Spelled3 canonical (fault_graph f) b
  fault_form = canonical_exist.by_content (fault_graph f) small whole named
