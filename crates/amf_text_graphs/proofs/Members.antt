-- The value of a name, by its place.
use Rattle.std.proofs.Common.{◌≡◌, ℕ, suc, ◌<◌, ◌≤◌, Bool, true, false, List, [], ◌∷◌, length, map, get_or, Result, Ok, Err, sym, refl, ap, ◌∙◌, subst, arith, bytes_eq}
use Rattle.std.specs.Prelude.{if◌then◌else◌, IfOk}
use Rattle.std.specs.declared.vec.Vec.{Vec}
use Rattle.std.specs.declared.alloc.Global.{Global}
use Rattle.amf_graph.specs.declared.value.Value.{Value as Stored}
use Rattle.amf_graph.specs.declared.value.Value.TheVariants.{Undefined}
use Rattle.amf_graph.specs.Graph as graph
use Rattle.amf_graph.specs.Graph.{IsValue}
use Rattle.amf_graph.specs.Arena.{Arena}
use Rattle.amf_text.specs.Linked.{Numbers}
use Rattle.amf_text_trees.specs.Sheets as sheet
use Rattle.amf_text_trees.specs.Sheets.{entry_among}
use Rattle.amf_text_trees.specs.Pages.{value_at}
use Rattle.amf_text_pages.specs.declared.entry.Entry.{Entry}
use Rattle.amf_text_pages.specs.Entries.{entry_of, pair_of}
use Rattle.amf_text_graphs.specs.Lookups.{place_in}
use Rattle.amf_text_graphs.specs.Showing.{IsMore, Shows}

abbrev Pair : Type 0
Pair = Vec ℕ Global × Entry

abbrev name_of : Pair → List ℕ
name_of p = p.0.items

there : (b : Bool) (place : ℕ) (rest : sheet.Entry) (p d : Pair) (ps : List Pair) → (if b then 0 else suc place) < suc (length ps)
    → (place < length ps → entry_of (get_or ps place d).1 ≡ rest) → entry_of (get_or (p ∷ ps) (if b then 0 else suc place) d).1 ≡ (if b then entry_of p.1 else rest)
there true place rest p d ps h f = refl
there false place rest p d ps h f = f (omega arith)

at_place : (x : List ℕ) (ps : List Pair) (d : Pair) → place_in x (map name_of ps) < length ps → entry_of (get_or ps (place_in x (map name_of ps)) d).1 ≡ entry_among x (map pair_of ps)
at_place x [] d h = absurd (omega arith)
at_place x (p ∷ ps) d h = there (bytes_eq x p.0.items) (place_in x (map name_of ps)) (entry_among x (map pair_of ps)) p d ps h (at_place x ps d)

pub among_there : (x : List ℕ) (ps : List Pair) (names : List (List ℕ)) (d : Pair) (place : ℕ) → names ≡ map name_of ps → place ≡ place_in x names → place < length ps → entry_of (get_or ps place d).1 ≡ entry_among x (map pair_of ps)
among_there x ps names d place e same h =
    let at : place ≡ place_in x (map name_of ps) = same ∙ ap (place_in x) e in
    ap (λ w. entry_of (get_or ps w d).1) at ∙ at_place x ps d (subst (λ w. w < length ps) at h)

pub valued : (labels : Numbers) (x : List ℕ) (ps : List Pair) (names : List (List ℕ)) (d : Pair) (place : ℕ) → names ≡ map name_of ps → place ≡ place_in x names → place < length ps
    → IsValue (value_at labels (entry_among x (map pair_of ps))) → IsValue (value_at labels (entry_of (get_or ps place d).1))
valued labels x ps names d place e same h v = subst (λ w. IsValue (value_at labels w)) (sym (among_there x ps names d place e same h)) v

pub shown_there : (labels : Numbers) (a : Arena) (v : Stored) (x : List ℕ) (ps : List Pair) (names : List (List ℕ)) (d : Pair) (place : ℕ) → names ≡ map name_of ps → place ≡ place_in x names → place < length ps
    → Shows labels a v (entry_of (get_or ps place d).1) → Shows labels a v (entry_among x (map pair_of ps))
shown_there labels a v x ps names d place e same h s = subst (Shows labels a v) (among_there x ps names d place e same h) s

none : (b : Bool) (place most : ℕ) (here rest : sheet.Entry) → suc most ≤ (if b then 0 else suc place) → (most ≤ place → rest ≡ sheet.leaf graph.undefined) → (if b then here else rest) ≡ sheet.leaf graph.undefined
none true place most here rest h f = absurd (omega arith)
none false place most here rest h f = f (omega arith)

among_nowhere : (x : List ℕ) (ps : List Pair) → length ps ≤ place_in x (map name_of ps) → entry_among x (map pair_of ps) ≡ sheet.leaf graph.undefined
among_nowhere x [] h = refl
among_nowhere x (p ∷ ps) h = none (bytes_eq x p.0.items) (place_in x (map name_of ps)) (length ps) (entry_of p.1) (entry_among x (map pair_of ps)) h (among_nowhere x ps)

pub nowhere_shown : (labels : Numbers) (a : Arena) (x : List ℕ) (ps : List Pair) (names : List (List ℕ)) (place : ℕ) → names ≡ map name_of ps → place ≡ place_in x names → length ps ≤ place
    → Shows labels a Undefined (entry_among x (map pair_of ps))
nowhere_shown labels a x ps names place e same h =
    subst (Shows labels a Undefined) (sym (among_nowhere x ps (subst (λ w. length ps ≤ w) (same ∙ ap (place_in x) e) h))) (record { content = refl; there = tt })

pub shown_ok : {E : Type 0} (labels : Numbers) (b : Arena) (e f : sheet.Entry) (r : Result Stored E) → e ≡ f → IfOk r (λ v. (a : Arena) → IsMore b a → Shows labels a v e) → IfOk r (λ v. (a : Arena) → IsMore b a → Shows labels a v f)
shown_ok labels b e f (Ok v) same h = λ a g. subst (Shows labels a v) same (h a g)
shown_ok labels b e f (Err x) same h = tt
