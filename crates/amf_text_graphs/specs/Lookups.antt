-- Names by their places. A device of proofs.
use Rattle.std.specs.Prelude.{ℕ, suc, ◌≡◌, ◌<◌, List, map, [], ◌∷◌, length, slice_get, get_or, Some, if◌then◌else◌, bytes_eq}
use Rattle.std.specs.declared.vec.Vec.{Vec}
use Rattle.std.specs.declared.alloc.Global.{Global}
use Rattle.amf_graph.specs.TextNumbers.{contents_of}
use Rattle.amf_text_trees.specs.Sheets as sheet
use Rattle.amf_text_pages.specs.declared.entry.Entry.{Entry}
use Rattle.amf_text_pages.specs.Entries.{pair_of}

-- where a name stands first; behind all names, where it does not
abbrev pub place_in : List ℕ → List (List ℕ) → ℕ
place_in x [] = 0
place_in x (y ∷ ys) = if bytes_eq x y then 0 else suc (place_in x ys)

-- where each content stands first
pub record AreFirst (names : List (List ℕ)) (places : List ℕ) : Type 0 where
  pub each : length places ≡ length (contents_of names)
  pub first : (k : ℕ) (x : List ℕ) → slice_get (contents_of names) k ≡ Some x → (get_or places k 0 ≡ place_in x names) × (place_in x names < length names)

-- of each name the value that its first pair has
abbrev pub members_of : List (Vec ℕ Global) → List (Vec ℕ Global × Entry) → List sheet.Entry
members_of names ps = map (λ x. sheet.entry_among x.items (map pair_of ps)) names
