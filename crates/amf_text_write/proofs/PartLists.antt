-- Lists and named values, with their brackets.
use Rattle.std.proofs.Common.{◌≡◌, ℕ, Bool, true, false, List, [], ◌∷◌, ◌++◌, map, sym}
use Rattle.json.specs.Token.{Token, begin_array, end_array, begin_object, end_object}
use Rattle.json.specs.declared.token.Token.TheVariants.{BeginArray, EndArray, BeginObject, EndObject}
use Rattle.json.specs.declared.token.Token.{Token as Written}
use Rattle.json.specs.Reads.{token_of}
use Rattle.amf_graph.specs.declared.value.Value.{Value as Stored}
use Rattle.amf_graph.specs.declared.value.TextId.{TextId}
use Rattle.amf_graph.specs.Graph.{Graph}
use Rattle.amf_graph.specs.Arena.{Arena}
use Rattle.amf_graph.specs.Views.{flat}
use Rattle.amf_iso.specs.Contents.{values_of, pairs_of}
use Rattle.amf_text.specs.Told as told
use Rattle.amf_text.specs.Told.{Way, listed, entries_of, told_names}
use Rattle.amf_text_write.specs.declared.waiting.Piece.{Piece}
use Rattle.amf_text_write.specs.declared.waiting.Piece.TheVariants as piece
use Rattle.amf_text_write.specs.Opening.{list_tokens, pairings_tokens, told_tokens}
use Rattle.amf_text_write.specs.Pieces.{Puts, values_tokens, entries_tokens, members_tokens, pairs_tokens}
use Rattle.amf_text_write.proofs.Jsons.{listed_told, object_told}
use Rattle.amf_text_write.proofs.Stacks.{put_one, put_then, put_as}

module _ (g : Graph) (a : Arena) where
  -- parts between an opening and a closing bracket
  bracketed : (ts us : Way → List Token) (b c d e : List Piece) (left right : Written) → c ≡ b ++ piece.Token right ∷ [] → Puts g a ts c d → e ≡ d ++ piece.Token left ∷ []
      → ((w : Way) → token_of left ∷ (ts w ++ token_of right ∷ []) ≡ us w) → Puts g a (λ w. token_of right ∷ []) b c → Puts g a (λ w. token_of left ∷ []) d e → Puts g a us b e
  bracketed ts us b c d e left right x p y same first last =
      put_as g a (λ w. token_of left ∷ (ts w ++ token_of right ∷ [])) us b e same
      (put_then g a (λ w. ts w ++ token_of right ∷ []) (λ w. token_of left ∷ []) b d e (put_then g a (λ w. token_of right ∷ []) ts b c d first p) last)

  pub put_items : (ts us : Way → List Token) (b c d e : List Piece) → c ≡ b ++ piece.Token EndArray ∷ [] → Puts g a ts c d → e ≡ d ++ piece.Token BeginArray ∷ []
      → ((w : Way) → begin_array ∷ (ts w ++ end_array ∷ []) ≡ us w) → Puts g a us b e
  put_items ts us b c d e x p y same = bracketed ts us b c d e BeginArray EndArray x p y same (put_one g a (piece.Token EndArray) b c x tt) (put_one g a (piece.Token BeginArray) d e y tt)

  pub put_body : (ts us : Way → List Token) (b c d e : List Piece) → c ≡ b ++ piece.Token EndObject ∷ [] → Puts g a ts c d → e ≡ d ++ piece.Token BeginObject ∷ []
      → ((w : Way) → begin_object ∷ (ts w ++ end_object ∷ []) ≡ us w) → Puts g a us b e
  put_body ts us b c d e x p y same = bracketed ts us b c d e BeginObject EndObject x p y same (put_one g a (piece.Token EndObject) b c x tt) (put_one g a (piece.Token BeginObject) d e y tt)

  pub list_told : (n : ℕ) (vs : List Stored) (w : Way) → begin_array ∷ (values_tokens g a n vs w ++ end_array ∷ []) ≡ list_tokens g a n vs w
  list_told n vs w = sym (listed_told (map (told.told w g n) (values_of a vs)))

  pub pairings_told : (n : ℕ) (es : List (Stored × Stored)) (w : Way) → begin_array ∷ (entries_tokens g a n es w ++ end_array ∷ []) ≡ pairings_tokens g a n es w
  pairings_told n es w = sym (listed_told (entries_of (map (told.told w g n) (values_of a (flat es)))))

  pub keys_told : (n : ℕ) (t : Bool) (ps : List (TextId × Stored)) (w : Way) → t ≡ true → begin_object ∷ (members_tokens g a n ps w ++ end_object ∷ []) ≡ told_tokens g t n (pairs_of a ps) w
  keys_told n true ps w e = sym (object_told (told_names (told.told w g n) (pairs_of a ps)))
  keys_told n false ps w e = cc

  pub pairs_told : (n : ℕ) (t : Bool) (ps : List (TextId × Stored)) (w : Way) → t ≡ false → begin_array ∷ (pairs_tokens g a n ps w ++ end_array ∷ []) ≡ told_tokens g t n (pairs_of a ps) w
  pairs_told n true ps w e = cc
  pairs_told n false ps w e = sym (listed_told (told.pairs_of (told_names (told.told w g n) (pairs_of a ps))))
