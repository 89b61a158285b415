-- Classes in an arena.
use Rattle.std.proofs.Common.{◌≡◌, ℕ, ◌<◌, Bool, List, [], ◌∷◌, ◌++◌, length, get_or, map, sym, refl, ap, ◌∙◌, subst, arith}
use Rattle.std.proofs.Common.{Result, Ok, Err}
use Rattle.std.specs.Prelude.{IfOk}
use Rattle.std.specs.Result.{OnOk}
use Rattle.std.specs.List.{AllByRecursion}
use Rattle.amf_graph.specs.declared.value.TraitsId.{TraitsId}
use Rattle.std.proofs.lemmas.List.{length-append, get_or_append_left, get_or_push, append-nil}
use Rattle.amf_graph.specs.declared.value.TextId.{TextId}
use Rattle.amf_graph.specs.Graph as graph
use Rattle.amf_graph.specs.Arena.{Arena, StoredTraits, no_traits, IsTextId, IsTraitsIn, text_at, traits_at, traits_content}
use Rattle.amf_graph.specs.Building.{kept_text, kept_traits, stored_traits}
use Rattle.amf_graph.proofs.Alls.{all_weaker}
use Rattle.amf_text_graphs.specs.Showing.{IsMore, Adds, AreTextsShown}
use Rattle.amf_text_graphs.proofs.Showing.{more_still, more_same, adds_text, adds_still, text_there}
use Rattle.amf_text_graphs.proofs.Naming.{same_texts}

list_in : {X : Type 0} (xs more ys : List X) (x d : X) → ys ≡ (xs ++ x ∷ []) ++ more → (length xs < length ys) × (get_or ys (length xs) d ≡ x)
list_in xs more ys x d e =
    let front = length-append xs (x ∷ []) in
    let long = length-append (xs ++ x ∷ []) more in
    let same = ap length e in
    (omega (arith, front, long, same), ap (λ w. get_or w (length xs) d) e ∙ get_or_append_left (xs ++ x ∷ []) more d (length xs) (omega (arith, front)) ∙ get_or_push xs x d (length xs) refl)

pub adds_traits : (a b : Arena) (s : StoredTraits) → b ≡ kept_traits a s → Adds a b
adds_traits a b s e = record {
  more = record { texts = ([], ap (λ (y : Arena). y.texts) e ∙ sym (append-nil a.texts)); traits = (s ∷ [], ap (λ (y : Arena). y.traits) e) };
  nodes = ap (λ (y : Arena). y.nodes) e;
}

pub adds_class : (a b c : Arena) (x : List ℕ) (s : StoredTraits) → b ≡ kept_text a x → c ≡ kept_traits b s → Adds a c
adds_class a b c x s e f = adds_still a b c (adds_text a b x e) (adds_traits b c s f)

pub traits_in : (a b : Arena) (x : List ℕ) (class : TextId) (dynamic : Bool) (sealed : List TextId) → b ≡ kept_text a x → class.0 ≡ length a.texts → AllByRecursion (IsTextId a) (map (λ t. t.0) sealed)
    → IsTraitsIn b (stored_traits class dynamic sealed)
traits_in a b x class dynamic sealed e f h =
    let long = ap (λ (y : Arena). length y.texts) e ∙ length-append a.texts (x ∷ []) in
    record {
      class = (text_there a b b x class.0 e f (more_same b)).0;
      sealed = all_weaker (IsTextId a) (IsTextId b) (map (λ t. t.0) sealed) (λ i l. omega (arith, long, l)) h;
    }

pub class_shown : (a b c : Arena) (x : List ℕ) (class : TextId) (dynamic : Bool) (sealed : List TextId) (t : ℕ) → b ≡ kept_text a x → class.0 ≡ length a.texts → c ≡ kept_traits b (stored_traits class dynamic sealed) → t ≡ length b.traits
    → (d : Arena) → IsMore c d → (xs : List (List ℕ)) → AreTextsShown d sealed xs → (t < length d.traits) × (traits_at d t ≡ record { class = x; dynamic = dynamic; sealed = xs })
class_shown a b c x class dynamic sealed t e f g h d m xs s =
    let stored = stored_traits class dynamic sealed in
    let here = list_in b.traits m.traits.0 d.traits stored no_traits (m.traits.1 ∙ ap (λ (y : Arena). y.traits ++ m.traits.0) g) in
    let name = (text_there a b d x class.0 e f (more_still b c d (adds_traits b c stored g).more m)).1 in
    let is : graph.Traits = record { class = x; dynamic = dynamic; sealed = xs } in
    subst (λ w. (w < length d.traits) × (traits_at d w ≡ is)) (sym h) (
      here.0,
      ap (traits_content d) here.1 ∙ ap (λ w. record { class = w; dynamic = dynamic; sealed = map (text_at d) (map (λ u. u.0) sealed) }) name
          ∙ ap (λ w. record { class = x; dynamic = dynamic; sealed = w }) (same_texts d sealed xs s),
    )

pub class_ok : {E : Type 0} (a b c : Arena) (x : List ℕ) (class : TextId) (dynamic : Bool) (sealed : List TextId) (r : Result TraitsId E) → b ≡ kept_text a x → class.0 ≡ length a.texts
    → IfOk r (λ t. t.0 ≡ length b.traits) → OnOk r (c ≡ kept_traits b (stored_traits class dynamic sealed))
    → IfOk r (λ t. (d : Arena) → IsMore c d → (xs : List (List ℕ)) → AreTextsShown d sealed xs → (t.0 < length d.traits) × (traits_at d t.0 ≡ record { class = x; dynamic = dynamic; sealed = xs }))
class_ok a b c x class dynamic sealed (Ok t) e f h g = class_shown a b c x class dynamic sealed t.0 e f g h
class_ok a b c x class dynamic sealed (Err y) e f h g = tt
