-- Traits by their heads and their sealed names, where some are read, kept or taken away.
use Rattle.std.proofs.Common.{◌≡◌, ℕ, zero, suc, ◌<◌, Bool, List, [], ◌∷◌, ◌++◌, length, get_or, take, refl, ap, arith}
use Rattle.amf_graph.specs.declared.value.TextId.{TextId}
use Rattle.amf_graph.specs.Arena.{no_traits}
use Rattle.amf_graph.specs.Building.{stored_traits}
use Rattle.amf_graph.specs.ClassHeads.{shown_classes}

pub length-shown : (hs : List (TextId × Bool)) (ps : List (List TextId)) → length hs ≡ length ps → length (shown_classes hs ps) ≡ length hs
length-shown [] [] e = refl
length-shown [] (p ∷ ps) e = refl
length-shown (h ∷ hs) [] e = absurd (omega arith)
length-shown (h ∷ hs) (p ∷ ps) e = ap suc (length-shown hs ps (omega arith))

pub shown_push : (hs : List (TextId × Bool)) (ps : List (List TextId)) (h : TextId × Bool) (p : List TextId) → length hs ≡ length ps → shown_classes (hs ++ h ∷ []) (ps ++ p ∷ []) ≡ shown_classes hs ps ++ stored_traits h.0 h.1 p ∷ []
shown_push [] [] h p e = refl
shown_push [] (q ∷ ps) h p e = absurd (omega arith)
shown_push (k ∷ hs) [] h p e = absurd (omega arith)
shown_push (k ∷ hs) (q ∷ ps) h p e = ap (λ w. stored_traits k.0 k.1 q ∷ w) (shown_push hs ps h p (omega arith))

pub shown_at : (hs : List (TextId × Bool)) (ps : List (List TextId)) (k : ℕ) (d : TextId × Bool) → k < length hs → length hs ≡ length ps → get_or (shown_classes hs ps) k no_traits ≡ stored_traits (get_or hs k d).0 (get_or hs k d).1 (get_or ps k [])
shown_at [] ps k d l e = absurd (omega arith)
shown_at (h ∷ hs) [] k d l e = absurd (omega arith)
shown_at (h ∷ hs) (p ∷ ps) zero d l e = refl
shown_at (h ∷ hs) (p ∷ ps) (suc k) d l e = shown_at hs ps k d (omega arith) (omega arith)

pub shown_take : (n : ℕ) (hs : List (TextId × Bool)) (ps : List (List TextId)) → shown_classes (take n hs) (take n ps) ≡ take n (shown_classes hs ps)
shown_take zero hs ps = refl
shown_take (suc n) [] [] = refl
shown_take (suc n) [] (p ∷ ps) = refl
shown_take (suc n) (h ∷ hs) [] = refl
shown_take (suc n) (h ∷ hs) (p ∷ ps) = ap (λ w. stored_traits h.0 h.1 p ∷ w) (shown_take n hs ps)
