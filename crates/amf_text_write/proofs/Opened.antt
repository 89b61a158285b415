-- Nodes, up to their first values.
use Rattle.std.proofs.Common.{◌≡◌, ◌<◌, List, ◌++◌, length, refl, sym, ap, ◌∙◌, append_assoc, arith}
use Rattle.json.specs.Token.{Token}
use Rattle.json.specs.Json.{Json, null, boolean, number, string, array, object}
use Rattle.json.specs.Tree.{json_tokens}
use Rattle.amf_graph.specs.Graph.{Graph}
use Rattle.amf_graph.specs.Arena.{Arena}
use Rattle.amf_text.specs.Scalars.{AreDigits}
use Rattle.amf_text.specs.Told.{Way}
use Rattle.amf_text_write.specs.declared.waiting.Piece.{Piece}
use Rattle.amf_text_write.specs.Laid.{Shown}
use Rattle.amf_text_write.specs.Opening.{Opens}
use Rattle.amf_text_write.specs.Pieces.{left_tokens, Puts}
use Rattle.amf_text_write.specs.Tells.{Tells}

-- JSON has tokens
pub json_some : (j : Json) → 0 < length (json_tokens j)
json_some null = omega arith
json_some (boolean b) = omega arith
json_some (number s) = omega arith
json_some (string s) = omega arith
json_some (array js) = omega arith
json_some (object ms) = omega arith

module _ (g : Graph) (a : Arena) where
  -- the first tokens were told, and pieces wait for the others
  pub opens_with : (ts front us : Way → List Token) (old new : List Piece) (s t : Shown) → ((w : Way) → ts w ≡ front w ++ us w) → ((w : Way) → 0 < length (front w)) → Puts g a us old new
      → ((w : Way) → AreDigits w.digits → Tells (front w) s t) → Opens g a ts old new s t
  opens_with ts front us old new s t same some p tells = record {
    front = front;
    some = some;
    parts = λ w. ap (λ l. l ++ left_tokens g a old w) (same w) ∙ append_assoc (front w) (us w) (left_tokens g a old w) ∙ ap (λ l. front w ++ l) (sym (p.left w));
    tells = tells;
    pieces = p.pieces;
  }

  -- all was told
  pub opens_whole : (j : Way → Json) (old : List Piece) (s t : Shown) → ((w : Way) → AreDigits w.digits → Tells (json_tokens (j w)) s t) → Opens g a (λ w. json_tokens (j w)) old old s t
  opens_whole j old s t tells = record { front = λ w. json_tokens (j w); some = λ w. json_some (j w); parts = λ w. refl; tells = tells; pieces = λ all. all }

  pub opens_as : (ts us : Way → List Token) (old new : List Piece) (s t : Shown) → ((w : Way) → ts w ≡ us w) → Opens g a ts old new s t → Opens g a us old new s t
  opens_as ts us old new s t same o = record {
    front = o.front;
    some = o.some;
    parts = λ w. ap (λ l. l ++ left_tokens g a old w) (sym (same w)) ∙ o.parts w;
    tells = o.tells;
    pieces = o.pieces;
  }
