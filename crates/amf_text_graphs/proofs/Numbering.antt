-- The number of a row's node, by its label.
use Rattle.std.proofs.Common.{◌≡◌, ℕ, suc, ◌<◌, ◌≤◌, Bool, true, false, List, [], ◌∷◌, length, map, get_or, sym, refl, ap, ◌∙◌, subst, arith, bytes_eq}
use Rattle.std.specs.Prelude.{if◌then◌else◌}
use Rattle.std.specs.declared.vec.Vec.{Vec}
use Rattle.std.specs.declared.alloc.Global.{Global}
use Rattle.amf_text.specs.Linked.{number_of}
use Rattle.amf_text_trees.specs.Pages.{labels_of, number_at}
use Rattle.amf_text_pages.specs.declared.entry.Entry.{Entry}
use Rattle.amf_text_pages.specs.Entries.{entry_of, pair_of}
use Rattle.amf_text_graphs.specs.Lookups.{place_in}

abbrev Pair : Type 0
Pair = Vec ℕ Global × Entry

abbrev name_of : Pair → List ℕ
name_of p = p.0.items

there : (b : Bool) (here place rest : ℕ) (p d : Pair) (ps : List Pair) → (if b then 0 else suc place) < suc (length ps) → here ≡ number_at (entry_of p.1)
    → (place < length ps → number_at (entry_of (get_or ps place d).1) ≡ rest) → number_at (entry_of (get_or (p ∷ ps) (if b then 0 else suc place) d).1) ≡ (if b then here else rest)
there true here place rest p d ps h e f = sym e
there false here place rest p d ps h e f = f (omega arith)

at_place : (x : List ℕ) (ps : List Pair) (d : Pair) → place_in x (map name_of ps) < length ps → number_at (entry_of (get_or ps (place_in x (map name_of ps)) d).1) ≡ number_of x (labels_of (map pair_of ps))
at_place x [] d h = absurd (omega arith)
at_place x (p ∷ ps) d h =
    there (bytes_eq x p.0.items) (number_at (entry_of p.1)) (place_in x (map name_of ps)) (number_of x (labels_of (map pair_of ps))) p d ps h refl (at_place x ps d)

nowhere : (b : Bool) (here place rest most : ℕ) → suc most ≤ (if b then 0 else suc place) → (most ≤ place → 0 ≡ rest) → 0 ≡ (if b then here else rest)
nowhere true here place rest most h f = absurd (omega arith)
nowhere false here place rest most h f = f (omega arith)

pub number_nowhere : (x : List ℕ) (ps : List Pair) → length ps ≤ place_in x (map name_of ps) → 0 ≡ number_of x (labels_of (map pair_of ps))
number_nowhere x [] h = refl
number_nowhere x (p ∷ ps) h =
    nowhere (bytes_eq x p.0.items) (number_at (entry_of p.1)) (place_in x (map name_of ps)) (number_of x (labels_of (map pair_of ps))) (length ps) h (number_nowhere x ps)

pub number_there : (x : List ℕ) (ps : List Pair) (d : Pair) (place n : ℕ) → place ≡ place_in x (map name_of ps) → place < length ps → n ≡ number_at (entry_of (get_or ps place d).1) → n ≡ number_of x (labels_of (map pair_of ps))
number_there x ps d place n same h e = e ∙ ap (λ w. number_at (entry_of (get_or ps w d).1)) same ∙ at_place x ps d (subst (λ w. w < length ps) same h)
