-- What stands ready before the values of members.
use Rattle.std.proofs.Common.{◌≡◌, ℕ, zero, suc, ◌+◌, ◌<◌, List, [], ◌∷◌, ◌++◌, length, map, take, get_or, refl, ap, ◌∙◌, sym, arith, append_assoc}
use Rattle.std.specs.Prelude.{codes}
use Rattle.std.proofs.lemmas.List.{length-map, length-take-le, map_push, get_or-map}
use Rattle.amf_graph.specs.declared.value.TextId.{TextId}
use Rattle.amf_graph.specs.Arena.{Arena, text_at}
use Rattle.amf_tables.specs.ShownTraits.{texts_at}
use Rattle.amf_tables.proofs.ShownTexts.{texts_more}
use Rattle.amf_show.specs.Heads.{texts_of}
use Rattle.amf_show.specs.Joining.{head_before, heads_from}
use Rattle.amf_show.specs.Pieces.{piece_text}
use Rattle.amf_show.specs.declared.piece.Piece.{Piece}
use Rattle.amf_show.specs.Shown.{braced}
use Rattle.amf_show.proofs.Held.{behind}

pub heads_long : (i : ℕ) (names : List (List ℕ)) → length (heads_from i names) ≡ length names
heads_long i [] = refl
heads_long i (n ∷ names) = ap suc (heads_long (suc i) names)

pub head_at : (i : ℕ) (names : List (List ℕ)) (k : ℕ) → k < length names → get_or (heads_from i names) k [] ≡ head_before (i + k) (get_or names k [])
head_at i [] k l = absurd (omega (arith, l))
head_at i (n ∷ names) zero l = ap (λ m. head_before m n) (omega arith)
head_at i (n ∷ names) (suc k) l = head_at (suc i) names k (omega (arith, l)) ∙ ap (λ m. head_before m (get_or names k [])) (omega arith)

pub heads_push : (i : ℕ) (names : List (List ℕ)) (n : List ℕ) → heads_from i (names ++ n ∷ []) ≡ heads_from i names ++ head_before (i + length names) n ∷ []
heads_push i [] n = ap (λ m. head_before m n ∷ []) (omega arith)
heads_push i (x ∷ names) n = ap (λ w. head_before i x ∷ w) (heads_push (suc i) names n ∙ ap (λ m. heads_from (suc i) names ++ head_before m n ∷ []) (omega arith))

-- one more of those that are made
pub heads_step : (a : Arena) (ids : List TextId) (i : ℕ) (d : TextId) (old new : List Piece) (x : Piece) → i < length ids → texts_of old ≡ heads_from 0 (texts_at a (take i ids)) → new ≡ old ++ x ∷ [] → piece_text x ≡ head_before i (text_at a (get_or ids i d).0) → texts_of new ≡ heads_from 0 (texts_at a (take (i + 1) ids))
heads_step a ids i d old new x l p e h =
    let texts = texts_at a (take i ids) in
    let text = text_at a (get_or ids i d).0 in
    let long : length texts ≡ i = length-map (map (λ (x : TextId). x.0) (take i ids)) (text_at a) ∙ length-map (take i ids) (λ (x : TextId). x.0) ∙ length-take-le i ids (omega (arith, l)) in
    let place : 0 + length texts ≡ i = omega (arith, long) in
    ap texts_of e ∙ map_push piece_text old x ∙ ap (λ w. texts_of old ++ w ∷ []) h ∙ ap (λ w. w ++ head_before i text ∷ []) p
    ∙ sym (ap (heads_from 0) (texts_more a ids i d l) ∙ heads_push 0 texts text ∙ ap (λ m. heads_from 0 texts ++ head_before m text ∷ []) place)

pub ready_long : (heads : List Piece) (names : List (List ℕ)) → texts_of heads ≡ heads_from 0 names → length heads ≡ length names
ready_long heads names e = sym (length-map heads piece_text) ∙ ap length e ∙ heads_long 0 names

-- what was read at a place
pub ready_head : (heads : List Piece) (names : List (List ℕ)) (i : ℕ) (x : Piece) → texts_of heads ≡ heads_from 0 names → x ≡ get_or heads i x → i < length names → piece_text x ≡ head_before i (get_or names i [])
ready_head heads names i x e r l =
    let within : i < length heads = omega (arith, l, ready_long heads names e) in
    ap piece_text r ∙ sym (get_or-map piece_text heads i x [] within) ∙ ap (λ w. get_or w i []) e ∙ head_at 0 names i l ∙ ap (λ m. head_before m (get_or names i [])) (omega arith)

-- an opening, what stands between braces, and what is behind it
pub braced_behind : (o opening x rest one two three four : List ℕ) → one ≡ o ++ (opening ++ codes "{") → two ≡ one ++ x → three ≡ two ++ codes "}" → four ≡ three ++ rest → four ≡ o ++ (opening ++ braced x ++ rest)
braced_behind o opening x rest one two three four a b c d =
    let inside = behind o (opening ++ codes "{") x one two a b in
    let closed = behind o ((opening ++ codes "{") ++ x) (codes "}") two three inside c in
    let same : ((opening ++ codes "{") ++ x) ++ codes "}" ≡ opening ++ braced x = ap (λ w. w ++ codes "}") (append_assoc opening (codes "{") x) ∙ append_assoc opening (codes "{" ++ x) (codes "}") in
    behind o (opening ++ braced x) rest three four (closed ∙ ap (λ w. o ++ w) same) d
