-- Places by number: one more number, one more place, more entries.
use Rattle.std.specs.Prelude.{◌≡◌, ◌≢◌, ℕ, zero, suc, ◌<◌, List, [], ◌∷◌, ◌++◌, length, slice_get, get_or, Some}
use Rattle.std.proofs.Common.{set, sym, subst, ◌∙◌, inl, inr}
use Rattle.std.proofs.lemmas.Bool.{cases_eq}
use Rattle.std.proofs.lemmas.Option.{same_Some, slice_get-get_or}
use Rattle.amf_graph.proofs.Lists.{at_left, at_push}
use Rattle.amf_tables.specs.FirstPlace.{IsFirstPlace}
use Rattle.amf_tables.specs.KnownPlaces.{AreKnown, Knows, HasPlace, KeepPlaces}
use Rattle.amf_tables.specs.declared.known_places.TheConstants.{UNKNOWN}
use Rattle.amf_tables.proofs.NodePlaces.{set_at, set_elsewhere, first_more}

-- Room for one id more.

pub room_knows : (places : List ℕ) (i k : ℕ) → slice_get (places ++ UNKNOWN ∷ []) i ≡ Some k → k ≢ UNKNOWN → slice_get places i ≡ Some k
room_knows places i k e there = elim (at_push places UNKNOWN i k e) [ inl f ↦ f | inr p ↦ absurd (there (sym p.1)) ]

pub room_keeps : (places : List ℕ) → KeepPlaces places (places ++ UNKNOWN ∷ [])
room_keeps places i p = (p.0, at_left places (UNKNOWN ∷ []) i p.0 p.1, p.2)

set_read : (xs : List ℕ) (i y n : ℕ) → slice_get (set xs i y) i ≡ Some n → n ≡ y
set_read [] i y n e = cc
set_read (z ∷ xs) zero y n e = sym (same_Some y n e)
set_read (z ∷ xs) (suc i) y n e = set_read xs i y n e

pub set_knows : (places : List ℕ) (id place : ℕ) → Knows places id place (set places id place)
set_knows places id place i k e there =
    elim (cases_eq i id) [
      | inl s ↦ inl (s, set_read places id place k (subst (λ w. slice_get (set places id place) w ≡ Some k) s e))
      | inr other ↦ inr (sym (set_elsewhere places id i place other) ∙ e)
    ]

pub set_has : (places : List ℕ) (id place : ℕ) → id < length places → place ≢ UNKNOWN → HasPlace (set places id place) id
set_has places id place within there = (place, set_at places id (get_or places id 0) place (slice_get-get_or places id 0 within), there)

pub set_keeps : (places : List ℕ) (id place : ℕ) → place ≢ UNKNOWN → KeepPlaces places (set places id place)
set_keeps places id place there i p =
    elim (cases_eq i id) [
      | inl s ↦ (place, subst (λ w. slice_get (set places id place) w ≡ Some place) (sym s) (set_at places id p.0 place (subst (λ w. slice_get places w ≡ Some p.0) s p.1)), there)
      | inr other ↦ (p.0, set_elsewhere places id i place other ∙ p.1, p.2)
    ]

-- What is known, with one place more and with entries more.

pub known_more : {X : Type 0} (named : ℕ → X) (entries : List X) (old new : List ℕ) (id place : ℕ) → AreKnown named entries old → IsFirstPlace entries (named id) place → Knows old id place new → AreKnown named entries new
known_more named entries old new id place known first more i k e there =
    elim (more i k e there) [
      | inl p ↦ subst (λ w. IsFirstPlace entries (named w) k) (sym p.0) (subst (λ w. IsFirstPlace entries (named id) w) (sym p.1) first)
      | inr f ↦ known i k f there
    ]

pub known_pushed : {X : Type 0} (named : ℕ → X) (entries : List X) (x : X) (places : List ℕ) → AreKnown named entries places → AreKnown named (entries ++ x ∷ []) places
known_pushed named entries x places known i k e there = first_more entries (named i) x k (known i k e there)
