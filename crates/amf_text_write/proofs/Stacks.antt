-- Pieces that are put onto a stack.
use Rattle.std.proofs.Common.{◌≡◌, ℕ, ◌+◌, ◌<◌, ◌≤◌, List, [], ◌∷◌, ◌++◌, length, drop, get_or, refl, sym, ap, ◌∙◌, subst, append_assoc, append-nil}
use Rattle.std.specs.List.{AllByRecursion, flat_map}
use Rattle.std.proofs.lemmas.List.{drop_more, drop_all}
use Rattle.json.specs.Token.{Token}
use Rattle.amf_graph.specs.Graph.{Graph}
use Rattle.amf_graph.specs.Arena.{Arena}
use Rattle.amf_text.specs.Told.{Way}
use Rattle.amf_text_write.specs.declared.waiting.Piece.{Piece}
use Rattle.amf_text_write.specs.Pieces.{piece_tokens, left_tokens, IsPiece, ArePieces, Puts}

all_push : {X : Type 0} (P : X → Type 0) (xs : List X) (x : X) → AllByRecursion P xs → P x → AllByRecursion P (xs ++ x ∷ [])
all_push P [] x a p = (p, tt)
all_push P (y ∷ xs) x a p = (a.0, all_push P xs x a.1 p)

all_front : {X : Type 0} (P : X → Type 0) (xs : List X) (x : X) → AllByRecursion P (xs ++ x ∷ []) → AllByRecursion P xs × P x
all_front P [] x a = (tt, a.0)
all_front P (y ∷ xs) x a = let r = all_front P xs x a.1 in ((a.0, r.0), r.1)

module _ (g : Graph) (a : Arena) where
  left_push : (ps : List Piece) (p : Piece) (w : Way) → left_tokens g a (ps ++ p ∷ []) w ≡ piece_tokens g a p w ++ left_tokens g a ps w
  left_push [] p w = sym (append-nil (piece_tokens g a p w))
  left_push (q ∷ ps) p w = ap (λ l. l ++ piece_tokens g a q w) (left_push ps p w) ∙ append_assoc (piece_tokens g a p w) (left_tokens g a ps w) (piece_tokens g a q w)

  pub put_one : (p : Piece) (old new : List Piece) → new ≡ old ++ p ∷ [] → IsPiece a p → Puts g a (piece_tokens g a p) old new
  put_one p old new e h = record {
    left = λ w. ap (λ ps. left_tokens g a ps w) e ∙ left_push old p w;
    pieces = λ all. subst (λ ps. ArePieces a ps) (sym e) (all_push (IsPiece a) old p all h);
  }

  -- one after another: what comes later is told first
  pub put_then : (ts us : Way → List Token) (b c d : List Piece) → Puts g a ts b c → Puts g a us c d → Puts g a (λ w. us w ++ ts w) b d
  put_then ts us b c d p q = record {
    left = λ w. q.left w ∙ ap (λ l. us w ++ l) (p.left w) ∙ sym (append_assoc (us w) (ts w) (left_tokens g a b w));
    pieces = λ all. q.pieces (p.pieces all);
  }

  pub put_as : (ts us : Way → List Token) (b c : List Piece) → ((w : Way) → ts w ≡ us w) → Puts g a ts b c → Puts g a us b c
  put_as ts us b c same p = record {
    left = λ w. p.left w ∙ ap (λ l. l ++ left_tokens g a b w) (same w);
    pieces = p.pieces;
  }

  pub put_none : (b : List Piece) → Puts g a (λ w. []) b b
  put_none b = record { left = λ w. refl; pieces = λ all. all }

  -- each of a list, from the last on

  abbrev pub PutsEach : {X : Type 0} → (X → Way → List Token) → List X → List Piece → List Piece → Type 0
  PutsEach f xs old new = Puts g a (λ w. flat_map (λ x. f x w) xs) old new

  pub each_none : {X : Type 0} (f : X → Way → List Token) (xs : List X) (n : ℕ) (ps : List Piece) → length xs ≤ n → PutsEach f (drop n xs) ps ps
  each_none f xs n ps l = subst (λ ys. PutsEach f ys ps ps) (sym (drop_all n xs l)) (put_none ps)

  pub each_more : {X : Type 0} (f : X → Way → List Token) (xs : List X) (i j : ℕ) (d : X) (old now new : List Piece) → j + 1 ≡ i → j < length xs
      → PutsEach f (drop i xs) old now → Puts g a (f (get_or xs j d)) now new → PutsEach f (drop j xs) old new
  each_more f xs i j d old now new e l p q =
      let x = get_or xs j d in
      subst (λ ys. PutsEach f ys old new) (sym (drop_more xs j d l))
      (put_then (λ w. flat_map (λ y. f y w) (drop (j + 1) xs)) (f x) old now new (subst (λ k. PutsEach f (drop k xs) old now) (sym e) p) q)

  -- two and four pieces

  pub put_both : (p q : Piece) (b c d : List Piece) → c ≡ b ++ p ∷ [] → d ≡ c ++ q ∷ [] → IsPiece a p → IsPiece a q → Puts g a (λ w. piece_tokens g a q w ++ piece_tokens g a p w) b d
  put_both p q b c d e f h k = put_then (piece_tokens g a p) (piece_tokens g a q) b c d (put_one p b c e h) (put_one q c d f k)

  pub put_four : (p q r s : Piece) (b c d e f : List Piece) → c ≡ b ++ p ∷ [] → d ≡ c ++ q ∷ [] → e ≡ d ++ r ∷ [] → f ≡ e ++ s ∷ [] → IsPiece a p → IsPiece a q → IsPiece a r → IsPiece a s
      → Puts g a (λ w. piece_tokens g a s w ++ (piece_tokens g a r w ++ (piece_tokens g a q w ++ piece_tokens g a p w))) b f
  put_four p q r s b c d e f i j k l t u v x =
      put_then (λ w. piece_tokens g a r w ++ (piece_tokens g a q w ++ piece_tokens g a p w)) (piece_tokens g a s) b e f
      (put_then (λ w. piece_tokens g a q w ++ piece_tokens g a p w) (piece_tokens g a r) b d e (put_both p q b c d i j t u) (put_one r d e k v)) (put_one s e f l x)

  -- taken off again

  pub left_popped : (ps all : List Piece) (p : Piece) (w : Way) → all ≡ ps ++ p ∷ [] → left_tokens g a all w ≡ piece_tokens g a p w ++ left_tokens g a ps w
  left_popped ps all p w e = ap (λ l. left_tokens g a l w) e ∙ left_push ps p w

pub pieces_popped : (a : Arena) (ps all : List Piece) (p : Piece) → all ≡ ps ++ p ∷ [] → ArePieces a all → ArePieces a ps × IsPiece a p
pieces_popped a ps all p e h = all_front (IsPiece a) ps p (subst (λ l. ArePieces a l) e h)
