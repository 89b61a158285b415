-- The parts of a node, one by one.
use Rattle.std.proofs.Common.{◌≡◌, ℕ, zero, suc, ◌<◌, true, List, [], ◌∷◌, ◌++◌, length, get_or, refl, ap, arith}
use Rattle.std.specs.List.{flat_map}
use Rattle.std.proofs.lemmas.Bool.{and_parts}
use Rattle.json.specs.Tree.{json_tokens}
use Rattle.amf_graph.specs.declared.value.Value.{Value as Stored}
use Rattle.amf_graph.specs.declared.value.TextId.{TextId}
use Rattle.amf_graph.specs.Graph.{Graph}
use Rattle.amf_graph.specs.Arena.{Arena, Names, text_at}
use Rattle.amf_graph.specs.Views.{flat}
use Rattle.amf_iso.specs.Contents.{AreValues}
use Rattle.amf_text.specs.Scalars.{is_plain, told_text}
use Rattle.amf_text.specs.Told.{Way}
use Rattle.amf_text_write.specs.declared.waiting.Piece.TheVariants as piece
use Rattle.amf_text_write.specs.Names.{all_plain, names_of}
use Rattle.amf_text_write.specs.Pieces.{value_tokens, values_tokens, entries_tokens, members_tokens, pairs_tokens, names_tokens, two_tokens, named_tokens}

pub value_there : (a : Arena) (vs : List Stored) (i : ℕ) (d : Stored) → AreValues a vs → i < length vs → Names a (get_or vs i d)
value_there a [] i d h l = absurd (omega arith)
value_there a (v ∷ vs) zero d h l = h.0
value_there a (v ∷ vs) (suc i) d h l = value_there a vs i d h.1 (omega arith)

pub entry_there : (a : Arena) (es : List (Stored × Stored)) (i : ℕ) (d : Stored × Stored) → AreValues a (flat es) → i < length es → Names a (get_or es i d).0 × Names a (get_or es i d).1
entry_there a [] i d h l = absurd (omega arith)
entry_there a (e ∷ es) zero d h l = (h.0, h.1.0)
entry_there a (e ∷ es) (suc i) d h l = entry_there a es i d h.1.1 (omega arith)

pub plain_there : (a : Arena) (ps : List (TextId × Stored)) (i : ℕ) (d : TextId × Stored) → all_plain (names_of a ps) ≡ true → i < length ps → is_plain (text_at a (get_or ps i d).0.0) ≡ true
plain_there a [] i d h l = absurd (omega arith)
plain_there a (p ∷ ps) zero d h l = (and_parts (is_plain (text_at a p.0.0)) (all_plain (names_of a ps)) h).0
plain_there a (p ∷ ps) (suc i) d h l = plain_there a ps i d (and_parts (is_plain (text_at a p.0.0)) (all_plain (names_of a ps)) h).1 (omega arith)

module _ (g : Graph) (a : Arena) (n : ℕ) (w : Way) where
  pub values_by : (vs : List Stored) → flat_map (λ v. value_tokens g a n v w) vs ≡ values_tokens g a n vs w
  values_by [] = refl
  values_by (v ∷ vs) = ap (λ l. value_tokens g a n v w ++ l) (values_by vs)

  pub entries_by : (es : List (Stored × Stored)) → flat_map (λ (e : Stored × Stored). two_tokens g a n (piece.Value n e.0) e.1 w) es ≡ entries_tokens g a n es w
  entries_by [] = refl
  entries_by (e ∷ es) = ap (λ l. two_tokens g a n (piece.Value n e.0) e.1 w ++ l) (entries_by es)

  pub members_by : (ps : List (TextId × Stored)) → flat_map (λ p. named_tokens g a n p w) ps ≡ members_tokens g a n ps w
  members_by [] = refl
  members_by (p ∷ ps) = ap (λ l. named_tokens g a n p w ++ l) (members_by ps)

  pub pairs_by : (ps : List (TextId × Stored)) → flat_map (λ (p : TextId × Stored). two_tokens g a n (piece.Name p.0) p.1 w) ps ≡ pairs_tokens g a n ps w
  pairs_by [] = refl
  pairs_by (p ∷ ps) = ap (λ l. two_tokens g a n (piece.Name p.0) p.1 w ++ l) (pairs_by ps)

  pub names_by : (ps : List (TextId × Stored)) → flat_map (λ (p : TextId × Stored). json_tokens (told_text (text_at a p.0.0))) ps ≡ names_tokens a ps w
  names_by [] = refl
  names_by (p ∷ ps) = ap (λ l. json_tokens (told_text (text_at a p.0.0)) ++ l) (names_by ps)
