-- The entry of a name answers, and where there is none nobody does.
use Rattle.std.proofs.Common.{◌≡◌, ℕ, Bool, true, false, cond, if◌then◌else◌, List, [], ◌∷◌, map, Option, Some, None, refl, sym, ap, ◌∙◌, subst}
use Rattle.std.specs.Prelude.{bytes_eq}
use Rattle.std.specs.List.{AllByRecursion}
use Rattle.std.specs.Map.{lookup}
use Rattle.std.proofs.lemmas.Option.{same_Some}
use Rattle.amf_graph.specs.Graph.{Graph}
use Rattle.amf_service.specs.Meaning.{Meanings, Called, no_service, asked}
use Rattle.amf_service.specs.Meaning.{IsLawful}
use Rattle.amf_service.specs.Registry.{Entry, called}
use Rattle.amf_service.specs.ServiceLaws.{CalledMatch, CallsMatch}
use Rattle.amf_service.proofs.Lawful.{asked_match}

module _ {K B : Type 0} (name : K → List ℕ) (meant : B → Meanings) where
  abbrev entry : K × B → Entry
  entry e = record { name = name e.0; means = meant e.1 }

  pub called_at : (test : K → Bool) (s o : List ℕ) (a : Graph) → ((k : K) → test k ≡ bytes_eq s (name k)) → (es : List (K × B)) (b : B) → lookup test es ≡ Some b → called (map entry es) s o a ≡ asked (meant b) o a
  called_at test s o a same [] b e = cc
  called_at test s o a same (x ∷ es) b e = go (test x.0) refl (called_at test s o a same es b) e
    where
      go : (t : Bool) → test x.0 ≡ t → (lookup test es ≡ Some b → called (map entry es) s o a ≡ asked (meant b) o a) → cond t (Some x.1) (lookup test es) ≡ Some b → called (map entry (x ∷ es)) s o a ≡ asked (meant b) o a
      go true t r e = ap (λ (z : Bool). if z then asked (meant x.1) o a else called (map entry es) s o a) (sym (same x.0) ∙ t) ∙ ap (λ z. asked (meant z) o a) (same_Some x.1 b e)
      go false t r e = ap (λ (z : Bool). if z then asked (meant x.1) o a else called (map entry es) s o a) (sym (same x.0) ∙ t) ∙ r e

  pub called_none : (test : K → Bool) (s o : List ℕ) (a : Graph) → ((k : K) → test k ≡ bytes_eq s (name k)) → (es : List (K × B)) → lookup test es ≡ None → called (map entry es) s o a ≡ no_service
  called_none test s o a same [] e = refl
  called_none test s o a same (x ∷ es) e = go (test x.0) refl (called_none test s o a same es) e
    where
      go : (t : Bool) → test x.0 ≡ t → (lookup test es ≡ None → called (map entry es) s o a ≡ no_service) → cond t (Some x.1) (lookup test es) ≡ None → called (map entry (x ∷ es)) s o a ≡ no_service
      go true t r e = cc
      go false t r e = ap (λ (z : Bool). if z then asked (meant x.1) o a else called (map entry es) s o a) (sym (same x.0) ∙ t) ∙ r e

  pub alike_at : (test : K → Bool) (s : List ℕ) → ((k : K) → test k ≡ bytes_eq s (name k)) → (es : List (K × B)) (b : B) → lookup test es ≡ Some b → IsLawful (meant b).gives → CallsMatch (map entry es) s
  alike_at test s same es b e l o g h x y i =
      subst (λ z. CalledMatch z (called (map entry es) s o h)) (sym (called_at test s o g same es b e))
      (subst (λ z. CalledMatch (asked (meant b) o g) z) (sym (called_at test s o h same es b e)) (asked_match (meant b) l o g h x y i))

  pub alike_none : (test : K → Bool) (s : List ℕ) → ((k : K) → test k ≡ bytes_eq s (name k)) → (es : List (K × B)) → lookup test es ≡ None → CallsMatch (map entry es) s
  alike_none test s same es e o g h x y i =
      subst (λ z. CalledMatch z (called (map entry es) s o h)) (sym (called_none test s o g same es e))
      (subst (λ z. CalledMatch no_service z) (sym (called_none test s o h same es e)) refl)

  -- what is meant is lawful where each service is
  pub all_meant : (es : List (K × B)) → AllByRecursion (λ b. IsLawful (meant b).gives) (map (λ e. e.1) es) → AllByRecursion (λ e. IsLawful e.means.gives) (map entry es)
  all_meant [] a = tt
  all_meant (e ∷ es) a = (a.0, all_meant es a.1)
