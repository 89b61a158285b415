-- Tests of names, pair by pair.
use Rattle.std.proofs.Common.{◌≡◌, ℕ, ◌+◌, ◌<◌, ◌≤◌, Bool, true, false, List, [], ◌∷◌, length, drop, get_or, refl, sym, ap, ◌∙◌, arith}
use Rattle.std.specs.Prelude.{◌&&◌, not}
use Rattle.std.proofs.lemmas.List.{drop_more, at_drop_more, at_drop_all}
use Rattle.amf_graph.specs.declared.value.Value.{Value as Stored}
use Rattle.amf_graph.specs.declared.value.TextId.{TextId}
use Rattle.amf_graph.specs.Arena.{Arena, text_at}
use Rattle.amf_text.specs.Scalars.{is_plain}
use Rattle.amf_text.specs.Tags.{begins_tag}
use Rattle.amf_text.specs.Told.{no_tags, comes_before, is_rising}
use Rattle.amf_text_write.specs.Names.{all_plain, names_of}

module _ (a : Arena) where
  abbrev pub plain_names : List (TextId × Stored) → Bool
  plain_names ps = all_plain (names_of a ps)

  abbrev pub untagged_names : List (TextId × Stored) → Bool
  untagged_names ps = no_tags (names_of a ps)

  abbrev pub rising_names : List (TextId × Stored) → Bool
  rising_names ps = is_rising (names_of a ps)

  pub plain_next : (ps : List (TextId × Stored)) (i : ℕ) (d : TextId × Stored) → i < length ps → is_plain (text_at a (get_or ps i d).0.0) ≡ true → plain_names (drop i ps) ≡ plain_names ps → plain_names (drop (i + 1) ps) ≡ plain_names ps
  plain_next ps i d l e h = sym (at_drop_more plain_names ps i d l ∙ ap (λ b. b && plain_names (drop (i + 1) ps)) e) ∙ h

  pub plain_not : (ps : List (TextId × Stored)) (i : ℕ) (d : TextId × Stored) → i < length ps → is_plain (text_at a (get_or ps i d).0.0) ≡ false → plain_names (drop i ps) ≡ plain_names ps → false ≡ plain_names ps
  plain_not ps i d l e h = sym (at_drop_more plain_names ps i d l ∙ ap (λ b. b && plain_names (drop (i + 1) ps)) e) ∙ h

  pub plain_end : (ps : List (TextId × Stored)) (i : ℕ) → length ps ≤ i → plain_names (drop i ps) ≡ plain_names ps → true ≡ plain_names ps
  plain_end ps i l h = sym (at_drop_all plain_names ps i l) ∙ h

  pub untagged_next : (ps : List (TextId × Stored)) (i : ℕ) (d : TextId × Stored) → i < length ps → begins_tag (text_at a (get_or ps i d).0.0) ≡ false → untagged_names (drop i ps) ≡ untagged_names ps → untagged_names (drop (i + 1) ps) ≡ untagged_names ps
  untagged_next ps i d l e h = sym (at_drop_more untagged_names ps i d l ∙ ap (λ b. not b && untagged_names (drop (i + 1) ps)) e) ∙ h

  pub untagged_not : (ps : List (TextId × Stored)) (i : ℕ) (d : TextId × Stored) → i < length ps → begins_tag (text_at a (get_or ps i d).0.0) ≡ true → untagged_names (drop i ps) ≡ untagged_names ps → false ≡ untagged_names ps
  untagged_not ps i d l e h = sym (at_drop_more untagged_names ps i d l ∙ ap (λ b. not b && untagged_names (drop (i + 1) ps)) e) ∙ h

  pub untagged_end : (ps : List (TextId × Stored)) (i : ℕ) → length ps ≤ i → untagged_names (drop i ps) ≡ untagged_names ps → true ≡ untagged_names ps
  untagged_end ps i l h = sym (at_drop_all untagged_names ps i l) ∙ h

  -- the last of those that were tested stands before the rest
  rising_at : (ps : List (TextId × Stored)) (j i : ℕ) (d : TextId × Stored) → j + 1 ≡ i → i < length ps
      → rising_names (drop j ps) ≡ (comes_before (text_at a (get_or ps j d).0.0) (text_at a (get_or ps i d).0.0) && rising_names (drop i ps))
  rising_at ps j i d e l =
      at_drop_more rising_names ps j d (omega (arith, e, l))
      ∙ ap (λ k. rising_names (get_or ps j d ∷ drop k ps)) e
      ∙ ap (λ qs. rising_names (get_or ps j d ∷ qs)) (drop_more ps i d l)
      ∙ ap (λ qs. comes_before (text_at a (get_or ps j d).0.0) (text_at a (get_or ps i d).0.0) && rising_names qs) (sym (drop_more ps i d l))

  pub rising_next : (ps : List (TextId × Stored)) (j i : ℕ) (d : TextId × Stored) → j + 1 ≡ i → i < length ps → comes_before (text_at a (get_or ps j d).0.0) (text_at a (get_or ps i d).0.0) ≡ true
      → rising_names (drop j ps) ≡ rising_names ps → rising_names (drop i ps) ≡ rising_names ps
  rising_next ps j i d e l t h = sym (rising_at ps j i d e l ∙ ap (λ b. b && rising_names (drop i ps)) t) ∙ h

  pub rising_not : (ps : List (TextId × Stored)) (j i : ℕ) (d : TextId × Stored) → j + 1 ≡ i → i < length ps → comes_before (text_at a (get_or ps j d).0.0) (text_at a (get_or ps i d).0.0) ≡ false
      → rising_names (drop j ps) ≡ rising_names ps → false ≡ rising_names ps
  rising_not ps j i d e l t h = sym (rising_at ps j i d e l ∙ ap (λ b. b && rising_names (drop i ps)) t) ∙ h

  few_rise : (ps : List (TextId × Stored)) → length ps ≤ 1 → rising_names ps ≡ true
  few_rise [] l = refl
  few_rise (p ∷ []) l = refl
  few_rise (p ∷ q ∷ ps) l = absurd (omega (arith, l))

  pub rising_end : (ps : List (TextId × Stored)) (j : ℕ) → length (drop j ps) ≤ 1 → rising_names (drop j ps) ≡ rising_names ps → true ≡ rising_names ps
  rising_end ps j l h = sym (few_rise (drop j ps) l) ∙ h
