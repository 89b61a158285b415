-- Places of texts by the numbers of their contents: one more place, one more text that is covered, and with them the places of traits.
use Rattle.std.specs.Prelude.{◌≡◌, ℕ, ◌<◌, ◌≤◌, List, [], ◌∷◌, ◌++◌, length, slice_get, Some, Result, Ok, Err, OnOk, OnErr}
use Rattle.std.proofs.Common.{ap, sym, subst, ◌∙◌, inl, inr, arith}
use Rattle.std.proofs.lemmas.List.{length_push}
use Rattle.std.proofs.lemmas.Option.{slice_get_within, get_or_from_slice_get}
use Rattle.amf_graph.specs.Arena.{Arena, text_at}
use Rattle.amf_graph.specs.Order.{Absent}
use Rattle.amf_graph.specs.TextNumbers.{contents_of}
use Rattle.amf_graph.proofs.Contents.{contents_apart}
use Rattle.amf_graph.proofs.Lists.{at_push}
use Rattle.amf3_spelling.specs.Tables.{Entry, Words, Tables, with_words, add_text, add_entry}
use Rattle.amf_tables.specs.FirstPlace.{IsFirstPlace}
use Rattle.amf_tables.specs.KnownPlaces.{AreKnown, Knows, HasPlace, KeepPlaces}
use Rattle.amf_tables.specs.KnownTexts.{Noted, nothing_noted, content_at, AreCovered, AreNotedOf, KeepsNoted}
use Rattle.amf_tables.specs.KnownWords.{Known, entry_at, AreKnownOf, nothing_known}
use Rattle.amf_tables.specs.TextPlaces.{IsEntered}
use Rattle.amf_tables.specs.declared.text_place.TextPlace.{TextPlace}
use Rattle.amf_tables.specs.declared.text_place.TextPlace.TheVariants.{Old, New}
use Rattle.amf_tables.proofs.KnownPlaces.{known_more, known_pushed}
use Rattle.amf_tables.proofs.NodePlaces.{first_new}

-- the content that has a text's number is the text
pub numbered : (a : Arena) (n i : ℕ) → slice_get (contents_of a.texts) n ≡ Some (text_at a i) → content_at a n ≡ text_at a i
numbered a n i e = get_or_from_slice_get (contents_of a.texts) n (text_at a i) [] e

-- a number without a place has no text where all are covered
pub absent_by_cover : (a : Arena) (texts : List (List ℕ)) (noted : Noted) (n : ℕ) (x : List ℕ) → AreNotedOf a texts noted → noted.covered ≡ length texts → (HasPlace noted.places n → ⊥) → slice_get (contents_of a.texts) n ≡ Some x → Absent texts x
absent_by_cover a texts noted n x h all unknown at k e =
    let within = slice_get_within texts k x e in
    unknown (h.covered n k x (omega (arith, within, all)) e at)

pub nothing_is_noted : (a : Arena) (texts : List (List ℕ)) → AreNotedOf a texts nothing_noted
nothing_is_noted a texts = record { places = λ i k e there. cc; covered = λ n k x before e at. absurd (omega (arith, before)); within = omega arith }

pub noted_pushed : (a : Arena) (texts : List (List ℕ)) (x : List ℕ) (noted : Noted) → AreNotedOf a texts noted → AreNotedOf a (texts ++ x ∷ []) noted
noted_pushed a texts x noted h =
    let within = h.within in record {
      places = known_pushed (content_at a) texts x noted.places h.places;
      covered = λ n k y before e at.
          elim (at_push texts x k y e) [
            | inl f ↦ h.covered n k y before f at
            | inr p ↦ let here = p.0 in absurd (omega (arith, before, within, here))
          ];
      within = omega (arith, within, length_push texts x);
    }

-- one place more is known
pub noted_more : (a : Arena) (texts : List (List ℕ)) (old new : Noted) (n place : ℕ) → AreNotedOf a texts old → IsFirstPlace texts (content_at a n) place → Knows old.places n place new.places → KeepPlaces old.places new.places → new.covered ≡ old.covered → AreNotedOf a texts new
noted_more a texts old new n place h first knows keeps same = record {
  places = known_more (content_at a) texts old.places new.places n place h.places first knows;
  covered = λ m k y before e at. keeps m (h.covered m k y (subst (λ w. k < w) same before) e at);
  within = subst (λ w. w ≤ length texts) (sym same) h.within;
}

-- one text more is there, and its place is known and covered, or neither

next_covered : (a : Arena) (texts : List (List ℕ)) (old new : Noted) (n : ℕ) (x : List ℕ) → AreNotedOf a texts old → old.covered ≡ length texts → slice_get (contents_of a.texts) n ≡ Some x → KeepsNoted old n new → AreCovered a (texts ++ x ∷ []) new
next_covered a texts old new n x h all there keeps m k y before e at =
    elim (at_push texts x k y e) [
      | inl f ↦ let within = slice_get_within texts k y f in keeps.0 m (h.covered m k y (omega (arith, within, all)) f at)
      | inr p ↦
          elim keeps.1 [
            | inl same ↦ let here = p.0 in absurd (omega (arith, before, same, all, here))
            | inr q ↦ subst (HasPlace new.places) (contents_apart a.texts n m y (there ∙ ap (λ w. Some w) p.1) at) q.1
          ]
    ]

next_within : (old new : Noted) (n : ℕ) (texts : List (List ℕ)) (x : List ℕ) → old.covered ≡ length texts → KeepsNoted old n new → new.covered ≤ length (texts ++ x ∷ [])
next_within old new n texts x all keeps =
    let long = length_push texts x in
    elim keeps.1 [
      | inl same ↦ omega (arith, same, all, long)
      | inr q ↦ let more = q.0 in omega (arith, more, all, long)
    ]

pub noted_next : (a : Arena) (texts : List (List ℕ)) (old new : Noted) (n : ℕ) (x : List ℕ) (place : ℕ) → AreNotedOf a texts old → old.covered ≡ length texts → slice_get (contents_of a.texts) n ≡ Some x → IsFirstPlace (texts ++ x ∷ []) x place → Knows old.places n place new.places → KeepsNoted old n new → AreNotedOf a (texts ++ x ∷ []) new
noted_next a texts old new n x place h all there first knows keeps = record {
  places = known_more (content_at a) (texts ++ x ∷ []) old.places new.places n place (known_pushed (content_at a) texts x old.places h.places)
      (subst (λ w. IsFirstPlace (texts ++ x ∷ []) w place) (sym (get_or_from_slice_get (contents_of a.texts) n x [] there)) first) knows;
  covered = next_covered a texts old new n x h all there keeps;
  within = next_within old new n texts x all keeps;
}

-- What is known of texts and traits.

pub nothing_is_known : (a : Arena) (w : Words) → AreKnownOf a w nothing_known
nothing_is_known a w = record { texts = nothing_is_noted a w.texts; traits = λ i k e there. cc }

-- what is known stays so when a text or traits are entered
pub known_with_text : (a : Arena) (w : Words) (x : List ℕ) (known : Known) → AreKnownOf a w known → AreKnownOf a (add_text w x) known
known_with_text a w x known h = record { texts = noted_pushed a w.texts x known.texts h.texts; traits = h.traits }

pub known_with_entry : (a : Arena) (w : Words) (e : Entry) (known : Known) → AreKnownOf a w known → AreKnownOf a (add_entry w e) known
known_with_entry a w e known h = record { texts = h.texts; traits = known_pushed (entry_at a) w.traits e known.traits h.traits }

-- one text more is known: it stood there before, or was entered
pub known_old : (a : Arena) (w w' : Words) (known : Known) (i place : ℕ) (found : TextPlace) (more : Noted) → found ≡ Old place → AreKnownOf a w known → IsEntered w.texts (content_at a i) w'.texts found → w'.traits ≡ w.traits → Knows known.texts.places i place more.places → KeepPlaces known.texts.places more.places → more.covered ≡ known.texts.covered → AreKnownOf a w' (record { texts = more; traits = known.traits })
known_old a w w' known i place (Old k) more s h e t m keeps same =
    let here : k ≡ place = cc in record {
      texts = subst (λ xs. AreNotedOf a xs more) (sym e.1) (noted_more a w.texts known.texts more i place h.texts (subst (λ n. IsFirstPlace w.texts (content_at a i) n) here e.0) m keeps same);
      traits = subst (λ es. AreKnown (entry_at a) es known.traits) (sym t) h.traits;
    }
known_old a w w' known i place (New k) more s h e t m keeps same = cc

pub known_new : (a : Arena) (w w' : Words) (known : Known) (i place : ℕ) (found : TextPlace) (more : Noted) → found ≡ New place → AreKnownOf a w known → IsEntered w.texts (content_at a i) w'.texts found → w'.traits ≡ w.traits → Knows known.texts.places i place more.places → KeepPlaces known.texts.places more.places → more.covered ≡ known.texts.covered → AreKnownOf a w' (record { texts = more; traits = known.traits })
known_new a w w' known i place (Old k) more s h e t m keeps same = cc
known_new a w w' known i place (New k) more s h e t m keeps same =
    let here : k ≡ place = cc in
    let before = subst (λ xs. AreNotedOf a xs known.texts) (sym e.2) (noted_pushed a w.texts (content_at a i) known.texts h.texts) in record {
      texts = noted_more a w'.texts known.texts more i place before (subst (λ n. IsFirstPlace w'.texts (content_at a i) n) here e.1) m keeps same;
      traits = subst (λ es. AreKnown (entry_at a) es known.traits) (sym t) h.traits;
    }

-- one text more was entered that was known to be new
pub entered_new : (texts texts' : List (List ℕ)) (x : List ℕ) (place : ℕ) → Absent texts x → place ≡ length texts → texts' ≡ texts ++ x ∷ [] → IsEntered texts x texts' (New place)
entered_new texts texts' x place none at is = (
  none,
  subst (λ xs. IsFirstPlace xs x place) (sym is) (subst (IsFirstPlace (texts ++ x ∷ []) x) (sym at) (first_new texts x none)),
  is,
)

pub known_next : (a : Arena) (t t' : Tables) (known : Known) (n : ℕ) (x : List ℕ) (place : ℕ) (more : Noted) → AreKnownOf a t.words known → known.texts.covered ≡ length t.words.texts → slice_get (contents_of a.texts) n ≡ Some x → Absent t.words.texts x → place ≡ length t.words.texts → t' ≡ with_words t (add_text t.words x) → Knows known.texts.places n place more.places → KeepsNoted known.texts n more → AreKnownOf a t'.words (record { texts = more; traits = known.traits })
known_next a t t' known n x place more h all there none at is knows keeps =
    let w = t.words in
    let first = subst (IsFirstPlace (w.texts ++ x ∷ []) x) (sym at) (first_new w.texts x none) in
    let now : AreKnownOf a (add_text w x) (record { texts = more; traits = known.traits }) = record { texts = noted_next a w.texts known.texts more n x place h.texts all there first knows keeps; traits = h.traits } in
    subst (λ (z : Tables). AreKnownOf a z.words (record { texts = more; traits = known.traits })) (sym is) now

-- traits were entered, or not
pub known_after : {T E : Type 0} (r : Result T E) (a : Arena) (t new : Tables) (e : Entry) (known : Known) → OnOk r (new ≡ with_words t (add_entry t.words e)) → OnErr r (new ≡ t) → AreKnownOf a t.words known → AreKnownOf a new.words known
known_after (Ok v) a t new e known h k right = subst (λ (w : Tables). AreKnownOf a w.words known) (sym h) (known_with_entry a t.words e known right)
known_after (Err x) a t new e known h k right = subst (λ (w : Tables). AreKnownOf a w.words known) (sym k) right
