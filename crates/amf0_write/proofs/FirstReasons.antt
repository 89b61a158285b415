-- The first lack, looked for number by number.
use Rattle.std.proofs.Common.{◌≡◌, ℕ, ◌+◌, ◌<◌, ◌≤◌, Bool, true, false, cond, List, [], ◌∷◌, ◌++◌, length, take, slice_get, Some, sym, refl, ap, ◌∙◌, subst, inl, inr, arith, add-one, length-append}
use Rattle.std.specs.Prelude.{Option, None, MatchOption}
use Rattle.std.proofs.Math.Seq.{take-suc}
use Rattle.std.proofs.lemmas.Bool.{cases_lt}
use Rattle.std.proofs.lemmas.Option.{same_Some, slice_get_within, get_or_from_slice_get}
use Rattle.amf_graph.specs.declared.lack.Lack.{Lack}
use Rattle.amf_graph.specs.declared.lack.LackKind.{LackKind}
use Rattle.amf_graph.specs.Order.{IsOrder}
use Rattle.amf_graph.proofs.Walks.{walks_fixed}
use Rattle.amf_graph.specs.Graph.{Graph, node_at}
use Rattle.amf_graph.specs.Lacks.{rank, IsFirstLack}
use Rattle.amf0_spelling.specs.Lacks0.{NodeLacks0, Lacks0, enters0, entered}
use Rattle.amf0_write.specs.PartLacks0.{LacksOutside, IsLackOutside}
use Rattle.amf0_spelling.proofs.Entered.{entered_push}
use Rattle.amf0_write.specs.Meetings.{IsFirstReason}

-- no number below this one has a lack
abbrev pub NoneBelow : Graph → ℕ → List ℕ → ℕ → Type 0
NoneBelow g outside order number = (n : ℕ) (k : LackKind) → n < number → Lacks0 g outside order n k → ⊥

module _ (g : Graph) (outside : ℕ) (order : List ℕ) (number i : ℕ) (there : slice_get order number ≡ Some i) where
  at_number : (n j : ℕ) → n ≡ number → slice_get order n ≡ Some j → j ≡ i
  at_number n j e f = same_Some j i (sym f ∙ ap (slice_get order) e ∙ there)

  pub found : (kind : LackKind) → NoneBelow g outside order number → NodeLacks0 g outside order number i kind → ((k : LackKind) → NodeLacks0 g outside order number i k → rank kind ≤ rank k) → IsFirstLack (Lacks0 g outside order) number kind
  found kind none here first = record {
    lacks = (i, there, here);
    least = λ n k l. elim (cases_lt n number) [ inl below ↦ absurd (none n k below l) | inr above ↦ above ];
    first = λ k l. first k (subst (λ j. NodeLacks0 g outside order number j k) (at_number number l.0 refl l.1) l.2);
  }

  pub none_more : NoneBelow g outside order number → ((k : LackKind) → NodeLacks0 g outside order number i k → ⊥) → NoneBelow g outside order (number + 1)
  none_more none here n k below l = elim (cases_lt n number) [
    | inl less ↦ none n k less l
    | inr above ↦ (
        let at : n ≡ number = omega (arith, below, above) in
        here k (subst (λ j. NodeLacks0 g outside order number j k) (at_number n l.0 at l.1) (subst (λ m. NodeLacks0 g outside order m l.0 k) at l.2)))
  ]

-- where no reason is told, none applies
pub no_reason : (P : LackKind → Type 0) (o : Option LackKind) → ((k : LackKind) → o ≡ Some k → ⊥) → IsFirstReason P o → (k : LackKind) → P k → ⊥
no_reason P None n h = h
no_reason P (Some k) n h = absurd (n k refl)

module _ (g : Graph) (order : List ℕ) (number i : ℕ) (there : slice_get order number ≡ Some i) where
  one_more : take (number + 1) order ≡ take number order ++ i ∷ []
  one_more = rw (add-one, take-suc order number 0 (slice_get_within order number i there), get_or_from_slice_get order number i 0 there) refl

  entered_by : (b : Bool) → enters0 (node_at g i).head ≡ b → length (entered g (take (number + 1) order)) ≡ length (entered g (take number order)) + length (cond b (i ∷ []) [])
  entered_by b e = ap (λ w. length (entered g w)) one_more ∙ ap length (entered_push g (take number order) i) ∙ length-append (entered g (take number order)) (cond (enters0 (node_at g i).head) (i ∷ []) []) ∙ ap (λ t. length (entered g (take number order)) + length (cond t (i ∷ []) [])) e

  pub enters_more : (place : ℕ) → place ≡ length (entered g (take number order)) → enters0 (node_at g i).head ≡ true → place + 1 ≡ length (entered g (take (number + 1) order))
  enters_more place p e = omega (arith, p, entered_by true e)

  pub enters_same : (place : ℕ) → place ≡ length (entered g (take number order)) → enters0 (node_at g i).head ≡ false → place ≡ length (entered g (take (number + 1) order))
  enters_same place p e = omega (arith, p, entered_by false e)

-- of the one order
pub lack_of : (g : Graph) (outside : ℕ) (order : List ℕ) → IsOrder g order → (o : Option Lack) → MatchOption o ((n : ℕ) (k : LackKind) → Lacks0 g outside order n k → ⊥) (λ l. IsFirstLack (Lacks0 g outside order) l.node l.kind) → MatchOption o ((n : ℕ) (k : LackKind) → LacksOutside g outside n k → ⊥) (λ l. IsLackOutside g outside l.node l.kind)
lack_of g outside order w None h = λ n k l. h n k (subst (λ xs. Lacks0 g outside xs n k) (walks_fixed l.1 w) l.2)
lack_of g outside order w (Some l) h = (order, w, h)
