-- A text each of whose bytes stands for itself is shown as it is.
use Rattle.std.proofs.Common.{◌≡◌, ℕ, Bool, true, false, ◌&&◌, if◌then◌else◌, List, [], ◌∷◌, ◌++◌, refl, ap}
use Rattle.std.specs.List.{flat_map, list_all}
use Rattle.amf_show.specs.Shown.{is_plain, hex_byte, shown_byte}

-- one more byte
one_more : (p r : Bool) (b : ℕ) (x xs ys : List ℕ) → (r ≡ true → ys ≡ xs) → (p && r) ≡ true → (if p then b ∷ [] else x) ++ ys ≡ b ∷ xs
one_more true r b x xs ys h e = ap (λ zs. b ∷ zs) (h e)
one_more false r b x xs ys h e = cc

pub plain_shown : (bytes : List ℕ) → list_all is_plain bytes ≡ true → flat_map shown_byte bytes ≡ bytes
unfolding shown_byte
plain_shown [] h = refl
plain_shown (b ∷ bytes) h = one_more (is_plain b) (list_all is_plain bytes) b (0x5C ∷ hex_byte b) bytes (flat_map shown_byte bytes) (plain_shown bytes) h
