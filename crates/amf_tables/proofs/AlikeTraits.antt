-- Traits of one class without sealed members are one entry.
use Rattle.std.specs.Prelude.{◌≡◌, ℕ, List, [], length, get_or, slice_get, Some}
use Rattle.std.proofs.Common.{refl, ap, sym, subst, ◌∙◌}
use Rattle.std.proofs.lemmas.List.{nil_from_length}
use Rattle.amf_graph.specs.declared.views.TraitsView.{TraitsView}
use Rattle.amf_graph.specs.Arena.{Arena, no_traits, text_at, traits_content}
use Rattle.amf_graph.specs.TextNumbers.{contents_of}
use Rattle.amf_graph.specs.Views.{ShowsTraits}
use Rattle.amf3_spelling.specs.Tables.{Entry, plain}
use Rattle.amf_tables.specs.FirstPlace.{IsFirstPlace}
use Rattle.amf_tables.specs.KnownWords.{entry_at}
use Rattle.amf_tables.specs.ShownTraits.{shown_entry}

pub alike : (a : Arena) (t u : TraitsView) (n m : ℕ) → length t.sealed.now ≡ 0 → length u.sealed.now ≡ 0 → t.dynamic ≡ u.dynamic → slice_get (contents_of a.texts) n ≡ Some (text_at a t.class.0)
    → slice_get (contents_of a.texts) m ≡ Some (text_at a u.class.0) → n ≡ m → shown_entry a t ≡ shown_entry a u
alike a t u n m none nothing dynamic at there same =
    let bare : t.sealed.now ≡ [] = nil_from_length t.sealed.now none in
    let too : u.sealed.now ≡ [] = nil_from_length u.sealed.now nothing in
    let class : text_at a t.class.0 ≡ text_at a u.class.0 = cc in
    rw (bare, too, dynamic, class) refl

-- what is known of the traits before holds of these
pub first_alike : (a : Arena) (entries : List Entry) (i j place : ℕ) (t u : TraitsView) → ShowsTraits (get_or a.traits i no_traits) t → ShowsTraits (get_or a.traits j no_traits) u → shown_entry a t ≡ shown_entry a u
    → IsFirstPlace entries (entry_at a j) place → IsFirstPlace entries (entry_at a i) place
first_alike a entries i j place t u shows shown same first =
    let here : entry_at a i ≡ shown_entry a t = ap (λ s. plain (traits_content a s)) shows in
    let there : entry_at a j ≡ shown_entry a u = ap (λ s. plain (traits_content a s)) shown in
    subst (λ e. IsFirstPlace entries e place) (there ∙ sym same ∙ sym here) first
