-- Texts one behind the other, where one is read, kept or taken away.
use Rattle.std.proofs.Common.{◌≡◌, ℕ, zero, suc, ◌+◌, ◌-◌, ◌<◌, ◌≤◌, List, [], ◌∷◌, ◌++◌, length, get_or, take, drop, sym, refl, ap, ◌∙◌, subst, arith}
use Rattle.std.specs.Prelude.{slice_range}
use Rattle.std.proofs.lemmas.List.{length-append, length-take-le, length-drop, take_all, take-append-le, drop-append-le, drop_at, take-append-drop}
use Rattle.amf_graph.specs.TextPool.{pieces, AreEnds}

pub length-pieces : {X : Type 0} (bytes : List X) (start : ℕ) (ends : List ℕ) → length (pieces bytes start ends) ≡ length ends
length-pieces bytes start [] = refl
length-pieces bytes start (e ∷ ends) = ap suc (length-pieces bytes e ends)

-- Where texts begin and end.

pub last_end : (start all : ℕ) (ends : List ℕ) → AreEnds start all ends → start ≤ all
last_end start all [] h = omega arith
last_end start all (e ∷ ends) h = let one = h.0 in let rest = last_end e all ends h.1 in omega arith

pub ends_at : (start all : ℕ) (ends : List ℕ) (k : ℕ) → AreEnds start all ends → k < length ends → (get_or (start ∷ ends) k 0 ≤ get_or ends k 0) × (get_or ends k 0 ≤ all)
ends_at start all [] k h l = absurd (omega arith)
ends_at start all (e ∷ ends) zero h l = (h.0, last_end e all ends h.1)
ends_at start all (e ∷ ends) (suc k) h l = ends_at e all ends k h.1 (omega arith)

-- the last of the first n ends
pub end_within : (start all : ℕ) (ends : List ℕ) (n : ℕ) → AreEnds start all ends → n ≤ length ends → get_or (start ∷ ends) n 0 ≤ all
end_within start all ends zero h l = last_end start all ends h
end_within start all [] (suc n) h l = absurd (omega arith)
end_within start all (e ∷ ends) (suc n) h l = end_within e all ends n h.1 (omega arith)

pub ends_push : (start all more : ℕ) (ends : List ℕ) → AreEnds start all ends → all ≤ more → AreEnds start more (ends ++ more ∷ [])
ends_push start all more [] h l = (let e : start ≡ all = h in omega arith, refl)
ends_push start all more (e ∷ ends) h l = (h.0, ends_push e all more ends h.1 l)

pub ends_take : (start all : ℕ) (ends : List ℕ) (n : ℕ) → AreEnds start all ends → n ≤ length ends → AreEnds start (get_or (start ∷ ends) n 0) (take n ends)
ends_take start all ends zero h l = refl
ends_take start all [] (suc n) h l = absurd (omega arith)
ends_take start all (e ∷ ends) (suc n) h l = (h.0, ends_take e all ends n h.1 (omega arith))

-- The texts.

pub piece_at : {X : Type 0} (bytes : List X) (start : ℕ) (ends : List ℕ) (k : ℕ) → k < length ends → get_or (pieces bytes start ends) k [] ≡ slice_range bytes (get_or (start ∷ ends) k 0) (get_or ends k 0)
piece_at bytes start [] k l = absurd (omega arith)
piece_at bytes start (e ∷ ends) zero l = refl
piece_at bytes start (e ∷ ends) (suc k) l = piece_at bytes e ends k (omega arith)

-- a part does not change where bytes come behind it
range_stays : {X : Type 0} (bytes more : List X) (i j : ℕ) → i ≤ j → j ≤ length bytes → slice_range (bytes ++ more) i j ≡ slice_range bytes i j
range_stays bytes more i j l m =
    ap (take (j - i)) (drop-append-le i bytes more (omega arith)) ∙ take-append-le (j - i) (drop i bytes) more (let n = length-drop i bytes in omega arith)

range_last : {X : Type 0} (bytes more : List X) → slice_range (bytes ++ more) (length bytes) (length bytes + length more) ≡ more
range_last bytes more = ap (take (length bytes + length more - length bytes)) (drop_at bytes more (length bytes) refl) ∙ take_all (length bytes + length more - length bytes) more (omega arith)

pub pieces_push : {X : Type 0} (bytes more : List X) (start : ℕ) (ends : List ℕ) → AreEnds start (length bytes) ends → pieces (bytes ++ more) start (ends ++ (length bytes + length more) ∷ []) ≡ pieces bytes start ends ++ more ∷ []
pieces_push bytes more start [] h = ap (λ i. slice_range (bytes ++ more) i (length bytes + length more) ∷ []) h ∙ ap (λ w. w ∷ []) (range_last bytes more)
pieces_push bytes more start (e ∷ ends) h =
    ap (λ w. w ∷ pieces (bytes ++ more) e (ends ++ (length bytes + length more) ∷ [])) (range_stays bytes more start e h.0 (last_end e (length bytes) ends h.1))
    ∙ ap (λ w. slice_range bytes start e ∷ w) (pieces_push bytes more e ends h.1)

-- bytes behind the last end are not looked at
pub pieces_cut : {X : Type 0} (bytes : List X) (start all : ℕ) (ends : List ℕ) → AreEnds start all ends → all ≤ length bytes → pieces (take all bytes) start ends ≡ pieces bytes start ends
pieces_cut bytes start all [] h l = refl
pieces_cut bytes start all (e ∷ ends) h l =
    let rest = last_end e all ends h.1 in
    let whole : slice_range bytes start e ≡ slice_range (take all bytes) start e =
    ap (λ w. slice_range w start e) (sym (take-append-drop all bytes)) ∙ range_stays (take all bytes) (drop all bytes) start e h.0 (let n = length-take-le all bytes l in omega arith)
    in
    ap (λ w. w ∷ pieces (take all bytes) e ends) (sym whole) ∙ ap (λ w. slice_range bytes start e ∷ w) (pieces_cut bytes e all ends h.1 l)

pub pieces_take : {X : Type 0} (bytes : List X) (start : ℕ) (ends : List ℕ) (n : ℕ) → pieces bytes start (take n ends) ≡ take n (pieces bytes start ends)
pieces_take bytes start ends zero = refl
pieces_take bytes start [] (suc n) = refl
pieces_take bytes start (e ∷ ends) (suc n) = ap (λ w. slice_range bytes start e ∷ w) (pieces_take bytes e ends n)

-- Texts as they are kept, by the fields that calls leave.

pub all_ends : {X : Type 0} (bytes bytes' more : List X) (start count end : ℕ) → end ≡ start + count → start ≡ length bytes → count ≡ length more → bytes' ≡ bytes ++ more → end ≡ length bytes'
all_ends bytes bytes' more start count end e s c is = let all = ap length is ∙ length-append bytes more in omega arith

pub pool_pushed : {X : Type 0} (bytes bytes' more : List X) (ends ends' ends'' : List ℕ) (n : ℕ) → bytes' ≡ bytes ++ more → ends'' ≡ ends → ends' ≡ ends'' ++ n ∷ [] → n ≡ length bytes' → AreEnds 0 (length bytes) ends → AreEnds 0 (length bytes') ends'
pool_pushed bytes bytes' more ends ends' ends'' n e f g m h =
    let all = ap length e ∙ length-append bytes more in
    subst (AreEnds 0 (length bytes')) (sym (g ∙ ap (λ w. w ++ n ∷ []) f ∙ ap (λ w. ends ++ w ∷ []) m)) (ends_push 0 (length bytes) (length bytes') ends h (omega arith))

pub shown_pushed : {X : Type 0} (bytes bytes' more : List X) (ends ends' ends'' : List ℕ) (n : ℕ) → bytes' ≡ bytes ++ more → ends'' ≡ ends → ends' ≡ ends'' ++ n ∷ [] → n ≡ length bytes' → AreEnds 0 (length bytes) ends → pieces bytes' 0 ends' ≡ pieces bytes 0 ends ++ more ∷ []
shown_pushed bytes bytes' more ends ends' ends'' n e f g m h =
    let all : n ≡ length bytes + length more = m ∙ ap length e ∙ length-append bytes more in
    ap (pieces bytes' 0) (g ∙ ap (λ w. w ++ n ∷ []) f ∙ ap (λ w. ends ++ w ∷ []) all) ∙ ap (λ w. pieces w 0 (ends ++ (length bytes + length more) ∷ [])) e ∙ pieces_push bytes more 0 ends h

pub pool_cut : {X : Type 0} (bytes bytes' : List X) (ends ends' : List ℕ) (count last : ℕ) → ends' ≡ take count ends → bytes' ≡ take last bytes → last ≡ get_or (0 ∷ ends) count 0 → count ≤ length ends → AreEnds 0 (length bytes) ends → AreEnds 0 (length bytes') ends'
pool_cut bytes bytes' ends ends' count last e f m l h =
    let within : last ≤ length bytes = subst (λ w. w ≤ length bytes) (sym m) (end_within 0 (length bytes) ends count h l) in
    let left : length bytes' ≡ last = ap length f ∙ length-take-le last bytes within in
    subst (AreEnds 0 (length bytes')) (sym e) (subst (λ w. AreEnds 0 w (take count ends)) (sym (left ∙ m)) (ends_take 0 (length bytes) ends count h l))

pub shown_cut : {X : Type 0} (bytes bytes' : List X) (ends ends' : List ℕ) (count last : ℕ) → ends' ≡ take count ends → bytes' ≡ take last bytes → last ≡ get_or (0 ∷ ends) count 0 → count ≤ length ends → AreEnds 0 (length bytes) ends → pieces bytes' 0 ends' ≡ take count (pieces bytes 0 ends)
shown_cut bytes bytes' ends ends' count last e f m l h =
    let within : last ≤ length bytes = subst (λ w. w ≤ length bytes) (sym m) (end_within 0 (length bytes) ends count h l) in
    ap (pieces bytes' 0) e ∙ ap (λ w. pieces w 0 (take count ends)) f
    ∙ pieces_cut bytes 0 last (take count ends) (subst (λ w. AreEnds 0 w (take count ends)) (sym m) (ends_take 0 (length bytes) ends count h l)) within ∙ pieces_take bytes 0 ends count
