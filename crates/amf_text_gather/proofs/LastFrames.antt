-- The frame that is met first is changed where it stands.
use Rattle.std.proofs.Common.{◌≡◌, ℕ, zero, suc, List, [], ◌∷◌, ◌++◌, length, take, set, get_or, map, refl, ap, sym, ◌∙◌, arith}
use Rattle.std.specs.Prelude.{reverse}
use Rattle.std.proofs.lemmas.List.{map-set, length-map}
use Rattle.std.proofs.Math.ListN.{get_or-map}
use Rattle.amf_text_read.proofs.Stacked.{last_apart, pushed}
use Rattle.amf_text_trees.specs.Pieces.{Piece}
use Rattle.amf_text_trees.specs.Frames as frame
use Rattle.amf_text_trees.specs.Frames.{give}
use Rattle.amf_text_gather.specs.declared.frame.Frame.{Frame}
use Rattle.amf_text_gather.specs.Frames.{frame_of}

pub set_last : {X : Type 0} (xs : List X) (n : ℕ) (y : X) → length xs ≡ suc n → set xs n y ≡ take n xs ++ y ∷ []
set_last [] n y h = absurd (omega (arith, h))
set_last (x ∷ []) zero y h = refl
set_last (x ∷ z ∷ xs) zero y h = absurd (omega (arith, h))
set_last (x ∷ []) (suc n) y h = absurd (omega (arith, h))
set_last (x ∷ z ∷ xs) (suc n) y h = ap (λ l. x ∷ l) (set_last (z ∷ xs) n y (omega (arith, h)))

pub last_put : {X : Type 0} (xs : List X) (n : ℕ) (y : X) → length xs ≡ suc n → reverse (set xs n y) ≡ y ∷ reverse (take n xs)
last_put xs n y h = ap reverse (set_last xs n y h) ∙ pushed (take n xs) y

pub last_given : (xs : List frame.Frame) (n : ℕ) (f d : frame.Frame) (p : Piece) → length xs ≡ suc n → f ≡ frame.take p (get_or xs n d)
    → reverse (set xs n f) ≡ give p (reverse xs)
last_given xs n f d p h t =
    last_put xs n f h ∙ ap (λ g. g ∷ reverse (take n xs)) t
    ∙ sym (ap (give p) (ap reverse (last_apart xs n d h) ∙ pushed (take n xs) (get_or xs n d)))

pub frames_given : (xs : List Frame) (n : ℕ) (f d : Frame) (p : Piece) → length xs ≡ suc n → frame_of f ≡ frame.take p (frame_of (get_or xs n d))
    → reverse (map frame_of (set xs n f)) ≡ give p (reverse (map frame_of xs))
frames_given xs n f d p h t =
    ap reverse (map-set frame_of xs n f)
    ∙ last_given (map frame_of xs) n (frame_of f) (frame_of d) p (length-map xs frame_of ∙ h) (t ∙ ap (frame.take p) (sym (get_or-map frame_of xs n d)))
