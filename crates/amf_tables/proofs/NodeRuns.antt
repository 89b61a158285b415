-- Nodes of which the first ones are a run of numbers: one more node, and the node at a place.
use Rattle.std.proofs.Common.{◌≡◌, ℕ, zero, suc, ◌+◌, ◌-◌, ◌<◌, ◌≤◌, List, [], ◌∷◌, ◌++◌, length, map, take, slice_get, Some, refl, ap, sym, ◌∙◌, arith}
use Rattle.std.specs.List.{range_with_len}
use Rattle.std.proofs.lemmas.List.{append-nil, length-append, length-map, take_more}
use Rattle.std.proofs.lemmas.List.FromFn.{length-range_with_len}
use Rattle.std.proofs.lemmas.Option.{slice_get_within, get_or_from_slice_get}
use Rattle.amf_graph.specs.declared.value.NodeId.{NodeId}
use Rattle.amf_graph.proofs.Lists.{at_left}
use Rattle.amf_tables.specs.NodeRuns.{run_nodes}
use Rattle.amf_tables.specs.TableParts.{node_number}

range_more : (a n : ℕ) → range_with_len a (suc n) ≡ range_with_len a n ++ (a + n) ∷ []
range_more a zero = let e : a ≡ a + 0 = omega arith in ap (λ w. w ∷ []) e
range_more a (suc n) = let e : a + 1 + n ≡ a + suc n = omega arith in ap (λ w. a ∷ w) (range_more (a + 1) n ∙ ap (λ w. range_with_len (a + 1) n ++ w ∷ []) e)

in_range : (a n i : ℕ) → i < n → slice_get (range_with_len a n) i ≡ Some (a + i)
in_range a zero i h = absurd (omega (arith, h))
in_range a (suc n) zero h = let e : a ≡ a + 0 = omega arith in ap (λ w. Some w) e
in_range a (suc n) (suc i) h = let e : a + 1 + i ≡ a + suc i = omega arith in in_range (a + 1) n i (omega (arith, h)) ∙ ap (λ w. Some w) e

behind_range : (a n i : ℕ) (xs : List ℕ) → n ≤ i → slice_get (range_with_len a n ++ xs) i ≡ slice_get xs (i - n)
behind_range a zero i xs h = let e : i ≡ i - 0 = omega arith in ap (slice_get xs) e
behind_range a (suc n) zero xs h = absurd (omega (arith, h))
behind_range a (suc n) (suc i) xs h = let e : i - n ≡ suc i - suc n = omega arith in behind_range (a + 1) n i xs (omega (arith, h)) ∙ ap (slice_get xs) e

nothing : (rest : List NodeId) → length rest ≡ 0 → rest ≡ []
nothing [] none = refl
nothing (x ∷ rest) none = absurd (omega (arith, none))

-- one more in the run
pub run_longer : (first count more node : ℕ) (rest : List NodeId) → more ≡ count + 1 → node ≡ first + count → length rest ≡ 0 → run_nodes first more rest ≡ run_nodes first count rest ++ node ∷ []
run_longer first count more node rest m n none =
    let empty = nothing rest none in
    ap (run_nodes first more) empty
    ∙ append-nil (range_with_len first more)
    ∙ ap (range_with_len first) (let e : more ≡ suc count = omega (arith, m) in e)
    ∙ range_more first count
    ∙ ap (λ w. w ++ (first + count) ∷ []) (sym (append-nil (range_with_len first count)) ∙ sym (ap (run_nodes first count) empty))
    ∙ ap (λ w. run_nodes first count rest ++ w ∷ []) (sym n)

pub run_length : (first count : ℕ) (rest : List NodeId) → count + length rest ≡ length (run_nodes first count rest)
run_length first count rest =
    let all = length-append (range_with_len first count) (map node_number rest) in
    let run = length-range_with_len first count in
    let others = length-map rest node_number in
    omega (arith, all, run, others)

-- the node at a place of the run, and behind it
pub at_run : (first count i : ℕ) (rest : List NodeId) → i < count → Some (first + i) ≡ slice_get (run_nodes first count rest) i
at_run first count i rest h = sym (at_left (range_with_len first count) (map node_number rest) i (first + i) (in_range first count i h))

pub behind_run : (first count i : ℕ) (rest : List NodeId) → count ≤ i → slice_get (map node_number rest) (i - count) ≡ slice_get (run_nodes first count rest) i
behind_run first count i rest h = sym (behind_range first count i (map node_number rest) h)

-- the first of them, one more
pub take_next : (xs : List ℕ) (i x : ℕ) → Some x ≡ slice_get xs i → take (i + 1) xs ≡ take i xs ++ x ∷ []
take_next xs i x e = take_more xs i x (slice_get_within xs i x (sym e)) ∙ ap (λ w. take i xs ++ w ∷ []) (get_or_from_slice_get xs i x x (sym e))
