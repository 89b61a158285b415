-- Calls, one after the other.
use Rattle.std.proofs.Common.{◌≡◌, ℕ, suc, ◌+◌, ◌<◌, ◌≤◌, arith, List, [], ◌∷◌, ◌++◌, length, map, nat_lt, Bool, true, false, Option, Some, None, refl, sym, ap, ◌∙◌, if◌then◌else◌, bytes_eq}
use Rattle.std.specs.Prelude.{◌||◌, not, option_map}
use Rattle.std.specs.List.{flat_map, position_from}
use Rattle.std.proofs.lemmas.Bool.{ltb-true, ltb-false}
use Rattle.std.proofs.lemmas.Grind.{flat_map-append}
use Rattle.std.specs.declared.vec.Vec.{Vec}
use Rattle.std.specs.declared.alloc.Global.{Global}
use Rattle.amf_text.specs.Refused.{first_false}
use Rattle.amf_text_trees.specs.Pages.{is_row, page_calls}
use Rattle.amf_text_pages.specs.declared.entry.Entry.{Entry}
use Rattle.amf_text.specs.Documents as documents
use Rattle.amf_text_trees.specs.Sheets.{Page}
use Rattle.amf_text_pages.specs.Entries.{pair_of}
use Rattle.amf_text_graphs.specs.Lookups.{place_in}

abbrev Pair : Type 0
Pair = Vec ℕ Global × Entry

there : (b : Bool) (place most : ℕ) (rest : Bool) → (if b then 0 else suc place) < suc most → (place < most → rest ≡ true) → (b || rest) ≡ true
there true place most rest h f = refl
there false place most rest h f = f (omega arith)

row_there : (x : List ℕ) (ps : List Pair) → place_in x (map (λ p. p.0.items) ps) < length ps → is_row (map pair_of ps) x ≡ true
row_there x [] h = absurd (omega arith)
row_there x (p ∷ ps) h = there (bytes_eq x p.0.items) (place_in x (map (λ p. p.0.items) ps)) (length ps) (is_row (map pair_of ps) x) h (row_there x ps)

nowhere : (b : Bool) (place most : ℕ) (rest : Bool) → suc most ≤ (if b then 0 else suc place) → (most ≤ place → rest ≡ false) → (b || rest) ≡ false
nowhere true place most rest h f = absurd (omega arith)
nowhere false place most rest h f = f (omega arith)

row_nowhere : (x : List ℕ) (ps : List Pair) → length ps ≤ place_in x (map (λ p. p.0.items) ps) → is_row (map pair_of ps) x ≡ false
row_nowhere x [] h = refl
row_nowhere x (p ∷ ps) h = nowhere (bytes_eq x p.0.items) (place_in x (map (λ p. p.0.items) ps)) (length ps) (is_row (map pair_of ps) x) h (row_nowhere x ps)

row_by : (x : List ℕ) (ps : List Pair) (b : Bool) → nat_lt (place_in x (map (λ p. p.0.items) ps)) (length ps) ≡ b → b ≡ is_row (map pair_of ps) x
row_by x ps true e = sym (row_there x ps (ltb-true (place_in x (map (λ p. p.0.items) ps)) (length ps) e))
row_by x ps false e = sym (row_nowhere x ps (ltb-false (place_in x (map (λ p. p.0.items) ps)) (length ps) e))

row_is : (x : List ℕ) (ps : List Pair) → nat_lt (place_in x (map (λ p. p.0.items) ps)) (length ps) ≡ is_row (map pair_of ps) x
row_is x ps = row_by x ps (nat_lt (place_in x (map (λ p. p.0.items) ps)) (length ps)) refl

one_less : (n : ℕ) (o : Option ℕ) → option_map (λ k. (n + 1) + k) o ≡ option_map (λ k. n + k) (option_map suc o)
one_less n None = refl
one_less n (Some k) = ap Some (omega arith)

from_here : (n : ℕ) (bs : List Bool) → position_from (λ b. not b) n bs ≡ option_map (λ k. n + k) (first_false bs)
from_here n [] = refl
from_here n (false ∷ bs) = ap Some (omega arith)
from_here n (true ∷ bs) = from_here (n + 1) bs ∙ one_less n (first_false bs)

none_more : (o : Option ℕ) → option_map (λ k. 0 + k) o ≡ o
none_more None = refl
none_more (Some k) = ap Some (omega arith)

pub is_position : (bs : List Bool) → position_from (λ b. not b) 0 bs ≡ first_false bs
is_position bs = from_here 0 bs ∙ none_more (first_false bs)

nil_behind : (bs : List Bool) → bs ++ [] ≡ bs
nil_behind [] = refl
nil_behind (b ∷ bs) = ap (λ bs. b ∷ bs) (nil_behind bs)

pub one_more_header : (hs : List (documents.Header Page)) (h : documents.Header Page)
    → flat_map (λ h. page_calls h.graph) (hs ++ h ∷ []) ≡ flat_map (λ h. page_calls h.graph) hs ++ page_calls h.graph
one_more_header hs h = flat_map-append _ hs (h ∷ []) ∙ ap (λ t. flat_map (λ h. page_calls h.graph) hs ++ t) (nil_behind (page_calls h.graph))

pub one_more_message : (ms : List (documents.Message Page)) (m : documents.Message Page)
    → flat_map (λ m. page_calls m.graph) (ms ++ m ∷ []) ≡ flat_map (λ m. page_calls m.graph) ms ++ page_calls m.graph
one_more_message ms m = flat_map-append _ ms (m ∷ []) ∙ ap (λ t. flat_map (λ m. page_calls m.graph) ms ++ t) (nil_behind (page_calls m.graph))

pub one_more_call : (x : List ℕ) (names : List (List ℕ)) (place : ℕ) (ps : List Pair) → names ≡ map (λ p. p.0.items) ps → place ≡ place_in x names
    → nat_lt place (length ps) ≡ is_row (map pair_of ps) x
one_more_call x names place ps e p = ap (λ n. nat_lt n (length ps)) (p ∙ ap (place_in x) e) ∙ row_is x ps
