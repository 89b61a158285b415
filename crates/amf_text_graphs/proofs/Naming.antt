-- Names and classes in an arena.
use Rattle.std.proofs.Common.{◌≡◌, ℕ, ◌+◌, ◌<◌, List, [], ◌∷◌, ◌++◌, length, get_or, take, map, refl, ap, ◌∙◌}
use Rattle.std.specs.List.{AllByRecursion}
use Rattle.std.specs.declared.vec.Vec.{Vec}
use Rattle.std.specs.declared.alloc.Global.{Global}
use Rattle.amf_graph.specs.declared.value.TextId.{TextId}
use Rattle.amf_graph.specs.Arena.{Arena, IsTextId, text_at}
use Rattle.amf_graph.specs.Building.{kept_text}
use Rattle.amf_text_graphs.specs.Showing.{IsMore, AreTextsShown}
use Rattle.amf_text_graphs.proofs.Showing.{one_more, more_still, adds_text, text_there}

text_push : (a : Arena) (ts : List TextId) (xs : List (List ℕ)) (t : TextId) (x : List ℕ) → AreTextsShown a ts xs → IsTextId a t.0 × (text_at a t.0 ≡ x) → AreTextsShown a (ts ++ t ∷ []) (xs ++ x ∷ [])
text_push a [] [] t x h k = (k, tt)
text_push a [] (y ∷ xs) t x h k = absurd h
text_push a (u ∷ ts) [] t x h k = absurd h
text_push a (u ∷ ts) (y ∷ xs) t x h k = (h.0, text_push a ts xs t x h.1 k)

abbrev items_of : Vec ℕ Global → List ℕ
items_of x = x.items

pub texts_more : (b c : Arena) (ts : List TextId) (xs : List (Vec ℕ Global)) (k : ℕ) (t : TextId) (x : Vec ℕ Global) → k < length xs → x ≡ get_or xs k x
    → ((a : Arena) → IsMore b a → AreTextsShown a ts (map items_of (take k xs))) → c ≡ kept_text b x.items → t.0 ≡ length b.texts
    → (a : Arena) → IsMore c a → AreTextsShown a (ts ++ t ∷ []) (map items_of (take (k + 1) xs))
texts_more b c ts xs k t x l is h e f a g =
    one_more (AreTextsShown a (ts ++ t ∷ [])) items_of xs k x l is
    (text_push a ts (map items_of (take k xs)) t x.items (h a (more_still b c a (adds_text b c x.items e).more g)) (text_there b c a x.items t.0 e f g))

pub all_there : (a : Arena) (ts : List TextId) (xs : List (List ℕ)) → AreTextsShown a ts xs → AllByRecursion (IsTextId a) (map (λ t. t.0) ts)
all_there a [] xs h = tt
all_there a (t ∷ ts) [] h = absurd h
all_there a (t ∷ ts) (x ∷ xs) h = (h.0.0, all_there a ts xs h.1)

pub same_texts : (a : Arena) (ts : List TextId) (xs : List (List ℕ)) → AreTextsShown a ts xs → map (text_at a) (map (λ t. t.0) ts) ≡ xs
same_texts a [] [] h = refl
same_texts a [] (x ∷ xs) h = absurd h
same_texts a (t ∷ ts) [] h = absurd h
same_texts a (t ∷ ts) (x ∷ xs) h = ap (λ w. w ∷ map (text_at a) (map (λ u. u.0) ts)) h.0.1 ∙ ap (λ w. x ∷ w) (same_texts a ts xs h.1)
