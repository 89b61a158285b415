-- The first lack, with one reason more.
use Rattle.std.proofs.Common.{◌≡◌, ℕ, ◌≤◌, ◌⊎◌, List, slice_get, Some, sym, subst, inl, inr, arith}
use Rattle.std.specs.Prelude.{Option, None}
use Rattle.amf_graph.specs.declared.lack.Lack.{Lack}
use Rattle.amf_graph.specs.declared.lack.LackKind.{LackKind}
use Rattle.amf_graph.specs.Lacks.{rank}
use Rattle.amf_graph.specs.Order.{IsDistinct}
use Rattle.amf0_write.specs.Meetings.{IsFirstReason}
use Rattle.amf0_write.specs.Searched.{IsLeast, Notes}

module _ (L M : ℕ → LackKind → Type 0) where
  same_least : (o p : Option Lack) → p ≡ o → ((n : ℕ) (k : LackKind) → L n k → M n k) → ((n : ℕ) (k : LackKind) → M n k → L n k) → IsLeast L o → IsLeast M p
  same_least o p e f b h = subst (IsLeast M) (sym e) (go o h)
    where
      go : (o : Option Lack) → IsLeast L o → IsLeast M o
      go None h = λ n k m. h n k (b n k m)
      go (Some l) h = record { lacks = f l.node l.kind h.lacks; least = λ n k m. h.least n k (b n k m); first = λ k m. h.first k (b l.node k m) }

  module _ (N : LackKind → Type 0) (order : List ℕ) (i : ℕ) (once : IsDistinct order) (keeps : (n : ℕ) (k : LackKind) → L n k → M n k) (back : (n : ℕ) (k : LackKind) → M n k → L n k ⊎ ((slice_get order n ≡ Some i) × N k)) (more : (n : ℕ) (k : LackKind) → slice_get order n ≡ Some i → N k → M n k) (tie : (n : ℕ) (k l : LackKind) → slice_get order n ≡ Some i → L n k → N l → rank k ≤ rank l) where
    pub least_more : (r : Option LackKind) (o p : Option Lack) → IsFirstReason N r → Notes order i r o p → IsLeast L o → IsLeast M p
    least_more None o p none e h = same_least o p e keeps (λ n k m. elim (back n k m) [ inl x ↦ x | inr x ↦ absurd (none k x.1) ]) h
    least_more (Some kind) o p reason (inr (absent, e)) h = same_least o p e keeps (λ n k m. elim (back n k m) [ inl x ↦ x | inr x ↦ absurd (absent n x.0) ]) h
    least_more (Some kind) None p reason (inl (number, at, e)) h = subst (IsLeast M) (sym e) (record {
      lacks = more number kind at reason.0;
      least = λ n k m. elim (back n k m) [ inl x ↦ absurd (h n k x) | inr x ↦ let s = once number n i at x.0 in omega (arith, s) ];
      first = λ k m. elim (back number k m) [ inl x ↦ absurd (h number k x) | inr x ↦ reason.1 k x.1 ];
    })
    least_more (Some kind) (Some l) p reason (inl (number, at, inl (less, e))) h = subst (IsLeast M) (sym e) (record {
      lacks = more number kind at reason.0;
      least = λ n k m. elim (back n k m) [ inl x ↦ let s = h.least n k x in omega (arith, s, less) | inr x ↦ let s = once number n i at x.0 in omega (arith, s) ];
      first = λ k m. elim (back number k m) [ inl x ↦ let s = h.least number k x in absurd (omega (arith, s, less)) | inr x ↦ reason.1 k x.1 ];
    })
    least_more (Some kind) (Some l) p reason (inl (number, at, inr (less, e))) h = subst (IsLeast M) (sym e) (record {
      lacks = keeps l.node l.kind h.lacks;
      least = λ n k m. elim (back n k m) [ inl x ↦ h.least n k x | inr x ↦ let s = once number n i at x.0 in omega (arith, s, less) ];
      first = λ k m. elim (back l.node k m) [ inl x ↦ h.first k x | inr x ↦ tie l.node l.kind k x.0 h.lacks x.1 ];
    })
