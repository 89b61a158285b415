-- A key that is none of some words.
use Rattle.std.proofs.Common.{◌≡◌, ℕ, Bool, true, false, refl, sym, ◌∙◌, cond, List, [], ◌∷◌, bytes_eq}
use Rattle.std.proofs.lemmas.Slice.Eq.{bytes_eq-Decides}
use Rattle.amf_text.specs.Tags.{Tag, unknown, name, words, tag_among, begins_tag, tag_of}

abbrev pub IsNone : List (List ℕ × Tag) → List ℕ → Type 0
IsNone [] k = Unit {0}
IsNone (w ∷ ws) k = (k ≡ w.0 → ⊥) × IsNone ws k

pub bytes_differ : (x y : List ℕ) (b : Bool) → bytes_eq x y ≡ b → (x ≡ y → ⊥) → b ≡ false
bytes_differ x y false e n = refl
bytes_differ x y true e n = absurd (n ((bytes_eq-Decides x y).0 e))

among_step : (b : Bool) (s t u : Tag) → b ≡ false → t ≡ u → cond b s t ≡ u
among_step false s t u e f = f
among_step true s t u e f = cc

pub among_none : (ws : List (List ℕ × Tag)) (k : List ℕ) → IsNone ws k → tag_among ws k ≡ unknown
among_none [] k h = refl
among_none (w ∷ ws) k h = among_step (bytes_eq k w.0) w.1 (tag_among ws k) unknown (bytes_differ k w.0 _ refl h.0) (among_none ws k h.1)

choose_true : (b : Bool) (s t : Tag) → b ≡ true → s ≡ cond b s t
choose_true true s t e = refl
choose_true false s t e = cc

choose_false : (b : Bool) (s t : Tag) → b ≡ false → t ≡ cond b s t
choose_false false s t e = refl
choose_false true s t e = cc

pub if_begins : (k : List ℕ) → begins_tag k ≡ true → IsNone words k → unknown ≡ tag_of k
unfolding tag_of
if_begins k e h = sym (among_none words k h) ∙ choose_true (begins_tag k) (tag_among words k) name e

pub if_not_begins : (k : List ℕ) → begins_tag k ≡ false → name ≡ tag_of k
unfolding tag_of
if_not_begins k e = choose_false (begins_tag k) (tag_among words k) name e
