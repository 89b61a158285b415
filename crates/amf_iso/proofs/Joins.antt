-- Contents of two graphs that were found equal, one more.
use Rattle.std.proofs.Common.{◌≡◌, ℕ, ◌<◌, List, length, set, slice_get, get_or, Option, Some, None, replicate, refl, sym, ap, ◌∙◌, subst, inl, inr}
use Rattle.std.specs.Prelude.{◌↔◌, Bool, true, false, cond, IsTrue}
use Rattle.std.proofs.lemmas.Bool.{cases_eq}
use Rattle.std.proofs.lemmas.List.{length-replicate, length-set}
use Rattle.std.proofs.lemmas.Option.{same_Some, slice_get_within, slice_get-get_or}
use Rattle.amf_graph.specs.Arena.{Arena}
use Rattle.amf_graph.specs.NumberFacts.{NumberFacts}
use Rattle.amf_graph.specs.TextNumbers.{contents_of}
use Rattle.amf_iso.specs.Joined.{AreJoined}
use Rattle.amf_iso.proofs.Numbers.{set_at, set_elsewhere, no_number}

pub none_joined : (a b : Arena) (n : ℕ) → n ≡ length (contents_of a.texts) → AreJoined a b (replicate n None)
none_joined a b n e = record { all = length-replicate n None ∙ e; equal = λ m k x f g. absurd (no_number n k m f) }

-- a partner that is known decides
pub partner_decides : (a b : Arena) (partners : List (Option ℕ)) (m n p : ℕ) (x y : List ℕ) → NumberFacts → AreJoined a b partners → slice_get partners m ≡ Some (Some p) → slice_get (contents_of a.texts) m ≡ Some x → slice_get (contents_of b.texts) n ≡ Some y → (p ≡ n) ↔ (x ≡ y)
partner_decides a b partners m n p x y facts j e f g = facts.same b.texts p n x y (j.equal m p x e f) g

pub joined_more : (a b : Arena) (partners : List (Option ℕ)) (m n : ℕ) (x : List ℕ) → AreJoined a b partners → slice_get (contents_of a.texts) m ≡ Some x → slice_get (contents_of b.texts) n ≡ Some x → AreJoined a b (set partners m (Some n))
joined_more a b partners m n x j e f =
    let there : m < length partners = subst (λ k. m < k) (sym j.all) (slice_get_within (contents_of a.texts) m x e) in
    let here : slice_get (set partners m (Some n)) m ≡ Some (Some n) = set_at partners m (get_or partners m None) (Some n) (slice_get-get_or partners m None there) in
    record {
      all = length-set partners m (Some n) ∙ j.all;
      equal = λ k l y g h.
          elim (cases_eq k m) [
            | inl s ↦
                let at : slice_get (set partners m (Some n)) m ≡ Some (Some l) = ap (λ w. slice_get (set partners m (Some n)) w) (sym s) ∙ g in
                let to : n ≡ l = same_Some n l (same_Some (Some n) (Some l) (sym here ∙ at)) in
                let same : x ≡ y = same_Some x y (sym e ∙ ap (λ w. slice_get (contents_of a.texts) w) (sym s) ∙ h) in
                ap (λ w. slice_get (contents_of b.texts) w) (sym to) ∙ f ∙ ap (λ w. Some w) same
            | inr o ↦ j.equal k l y (sym (set_elsewhere partners m k (Some n) o) ∙ g) h
          ];
    }

-- what a comparison keeps
pub kept_joined : (a b : Arena) (partners new : List (Option ℕ)) (m n : ℕ) (x y z w : List ℕ) (r : Bool) → AreJoined a b partners → slice_get (contents_of a.texts) m ≡ Some x → slice_get (contents_of b.texts) n ≡ Some y → z ≡ x → w ≡ y → new ≡ cond r (set partners m (Some n)) partners → (IsTrue r ↔ z ≡ w) → AreJoined a b new
kept_joined a b partners new m n x y z w true j e f p q k d =
    let same : y ≡ x = sym (sym p ∙ d.0 refl ∙ q) in
    subst (AreJoined a b) (sym k) (joined_more a b partners m n x j e (f ∙ ap (λ v. Some v) same))
kept_joined a b partners new m n x y z w false j e f p q k d = subst (AreJoined a b) (sym k) j
