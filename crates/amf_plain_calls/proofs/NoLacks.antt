-- What lacks something has no spelling; a fault lacks nothing.
use Rattle.std.proofs.Common.{◌≡◌, ℕ, zero, suc, ◌<◌, List, [], length, slice_get, Option, Some, None, refl, sym, ap, subst, arith, inl, inr, codes}
use Rattle.std.proofs.lemmas.Option.{slice_get_within}
use Rattle.amf_graph.specs.declared.lack.LackKind.{LackKind}
use Rattle.amf_graph.specs.declared.lack.LackKind.TheVariants.{EmptyName, NoForm, LongName, Shared, FarReference, LongFile}
use Rattle.amf_graph.specs.Graph.{Value, leaf, node, text, Graph, node_at, AllNamed}
use Rattle.amf_graph.specs.Isomorphic.{Isomorphic}
use Rattle.amf_graph.specs.Order.{IsOrder}
use Rattle.amf_graph.specs.Reached.{Reached, at_root, inside, Holds}
use Rattle.amf_graph.proofs.Isomorphisms.{isomorphic_sym, isomorphic_trans}
use Rattle.amf_graph.proofs.Lists.{entry}
use Rattle.amf_graph.proofs.OrderExists.{isomorphic_refl}
use Rattle.amf_graph.proofs.Reaching.{order_once, order_reached}
use Rattle.amf0_spelling.specs.declared.form.Form.TheVariants.{Amf3, Plain}
use Rattle.amf0_spelling.specs.Lacks0.{IsLack0, NodeLacks0}
use Rattle.amf0_spelling.specs.Lowered.{Low, ends, IsLoweringOf}
use Rattle.amf0_spelling.proofs.Decides0.{same_canonical0}
use Rattle.amf0_spelling.proofs.LackTwice0.{spelling_or_lack0}
use Rattle.amf0_spelling.proofs.LacksAlike0.{lacks_alike0}
use Rattle.amf0_spelling.proofs.Low.{lowered_alike}
use Rattle.flex_msgs.specs.declared.reply.FaultText.{FaultText}
use Rattle.amf_packet.specs.Packet.{Body}
use Rattle.amf_packet.specs.PacketLacks.{IsBodyLack}
use Rattle.amf_answer_plan.specs.Plan.{lowered}
use Rattle.amf_answer_plan.specs.PlainCalls.{fault_node, fault_graph}
use Rattle.amf_answer_plan.specs.Runs.{Finds, IsSpelling}
use Rattle.amf_answer_plan.proofs.Spelling.{all_named}

-- no node of the value is without a spelling
abbrev pub LacksNothing : Body → Type 0
LacksNothing b = (number : ℕ) (kind : LackKind) → IsBodyLack b.form b.graph number kind → ⊥

-- a lowered graph with a lack has no spelling, nor has one that is isomorphic to what was lowered
pub unspelled0 : (g h low : Graph) (number : ℕ) (kind : LackKind) → Isomorphic g h → IsLoweringOf h low → IsLack0 low number kind → Finds (IsSpelling lowered g) None
unspelled0 g h low number kind i lo lack b (same, other, j, lowers, s) =
    let lows = lowered_alike h same low other (isomorphic_trans h g same (isomorphic_sym g h i) j) lo lowers in
    let t = same_canonical0.bytes other low (isomorphic_sym low other lows) b s in
    spelling_or_lack0.not_both low t.0 number kind t.1 lack

-- A fault.

none_there : {X : Type 0} (k : ℕ) (x : X) → slice_get [] k ≡ Some x → ⊥
none_there k x e = cc

abbrev value_of : Option (List ℕ × Value) → Option Value
value_of None = None
value_of (Some p) = Some p.1

text_no_node : (x : List ℕ) (i : ℕ) → Some (leaf (text x)) ≡ Some (node i) → ⊥
text_no_node x i e = cc

same_node : (i j : ℕ) → node i ≡ node j → i ≡ j
same_node i j e = cc

module _ (f : FaultText) where
  abbrev g : Graph
  g = fault_graph f

  holds_none : (i : ℕ) → Holds (fault_node f) (node i) → ⊥
  holds_none i (inl h) = let e = h.1 in cc
  holds_none i (inr h) = go h.0 h.1 h.2
    where
      go : (k : ℕ) (x : List ℕ) → slice_get (fault_node f).names k ≡ Some (x, node i) → ⊥
      go zero x e = text_no_node f.code i (ap value_of e)
      go (suc zero) x e = text_no_node f.text i (ap value_of e)
      go (suc (suc zero)) x e = text_no_node (codes "error") i (ap value_of e)
      go (suc (suc (suc k))) x e = absurd (none_there k (x, node i) e)

  only_first : (i : ℕ) → Reached g i → i ≡ 0
  only_first i (at_root e) = sym (same_node 0 i e)
  only_first i (inside j r h) = absurd (holds_none i (subst (λ k. Holds (node_at g k) (node i)) (only_first j r) h))

  pub fault_there : (i : ℕ) → Reached g i → i < length g.nodes
  fault_there i r = omega (arith, only_first i r)

  pub fault_same : Isomorphic g g
  fault_same = isomorphic_refl g fault_there

  fault_named : (i : ℕ) → AllNamed (node_at g i).names
  fault_named zero = ((λ e. cc), ((λ e. cc), ((λ e. cc), tt)))
  fault_named (suc i) = tt

  low_text : (x : List ℕ) → Low g (leaf (text x)) (leaf (text x))
  low_text x = ends 0 refl refl

  low_itself : IsLoweringOf g g
  low_itself = record {
    root = ends 0 refl refl;
    nodes = (record { head = refl; names = ((refl, low_text f.code), ((refl, low_text f.text), ((refl, low_text (codes "error")), tt))); values = tt }, tt);
  }

  first_place : (order : List ℕ) (n : ℕ) → IsOrder g order → slice_get order n ≡ Some 0 → n ≡ 0
  first_place order n walk e =
      let some = entry order 0 (omega (arith, slice_get_within order n 0 e)) in
      let zero_there = only_first some.0 ((order_reached g order walk some.0).1 (0, some.1)) in
      order_once g order walk n 0 0 e (subst (λ i. slice_get order 0 ≡ Some i) zero_there some.1)

  abbrev Lacks : ℕ → List ℕ → ℕ → LackKind → Type 0
  Lacks n order i kind = NodeLacks0 g 0 order n i kind

  fault_fine : (order : List ℕ) (n : ℕ) (kind : LackKind) → n ≡ 0 → Lacks n order 0 kind → ⊥
  fault_fine order n EmptyName z l = l
  fault_fine order n NoForm z l = l
  fault_fine order n LongName z l = l (omega arith, (omega arith, (omega arith, (omega arith, tt))))
  fault_fine order n Shared z l = let e = l.0 in cc
  fault_fine order n FarReference z l = let m = subst (λ k. Lacks k order 0 FarReference) z l in omega (arith, m.1)
  fault_fine order n LongFile z l = l

  lacks0 : (number : ℕ) (kind : LackKind) → IsLack0 g number kind → ⊥
  lacks0 number kind (order, walk, first) =
      let l = first.lacks in
      let here : l.0 ≡ 0 = only_first l.0 ((order_reached g order walk l.0).1 (number, l.1)) in
      let at = subst (λ i. slice_get order number ≡ Some i) here l.1 in
      fault_fine order number kind (first_place order number walk at) (subst (λ i. Lacks number order i kind) here l.2)

  pub fault_lacks3 : LacksNothing (record { form = Amf3; graph = g })
  fault_lacks3 number kind l = all_named g fault_named number kind l

  pub fault_lacks0 : LacksNothing (record { form = Plain; graph = g })
  fault_lacks0 number kind (h, lo, l) = lacks0 number kind (lacks_alike0 h g (isomorphic_sym g h (lowered_alike g g g h fault_same low_itself lo)) number kind l)
