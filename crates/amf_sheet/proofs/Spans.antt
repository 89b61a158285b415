-- Parts of columns, where the columns grow.
use Rattle.std.proofs.Common.{◌≡◌, ℕ, ◌+◌, ◌-◌, ◌≤◌, List, ◌++◌, length, map, take, drop, sym, refl, ap, ◌∙◌, arith}
use Rattle.std.specs.Prelude.{slice_range}
use Rattle.std.proofs.lemmas.List.{length-append, length-drop, length-map, take_all, take-append-drop, take-append-le, drop-append-le, drop_at, take-map, drop-map}
use Rattle.amf_graph.specs.Pools.{IsFront}
use Rattle.amf_graph.proofs.PoolNodes.{front_length}
use Rattle.amf_sheet.specs.declared.row.Span.{Span}
use Rattle.amf_sheet.specs.Rows.{span_of, SpanIn}

range_front : {X : Type 0} (xs more : List X) (i j : ℕ) → i ≤ j → j ≤ length xs → slice_range (xs ++ more) i j ≡ slice_range xs i j
range_front xs more i j l m =
    ap (take (j - i)) (drop-append-le i xs more (omega arith)) ∙ take-append-le (j - i) (drop i xs) more (let n = length-drop i xs in omega arith)

pub span_front : {X : Type 0} (xs ys : List X) (s : Span) → IsFront xs ys → SpanIn xs s → span_of ys s ≡ span_of xs s
span_front xs ys s f h =
    ap (λ w. slice_range w s.start s.end) (sym (take-append-drop (length xs) ys) ∙ ap (λ w. w ++ drop (length xs) ys) f) ∙ range_front xs (drop (length xs) ys) s.start s.end h.order h.inside

pub span_in_front : {X : Type 0} (xs ys : List X) (s : Span) → IsFront xs ys → SpanIn xs s → SpanIn ys s
span_in_front xs ys s f h = record { order = h.order; inside = let l = front_length xs ys f in omega arith }

-- what stands behind the rest
pub span_last : {X : Type 0} (xs more ys : List X) (s : Span) → ys ≡ xs ++ more → s.start ≡ length xs → s.end ≡ length xs + length more → span_of ys s ≡ more
span_last xs more ys s e a b =
    ap (λ w. slice_range w s.start s.end) e ∙ ap (λ n. slice_range (xs ++ more) n s.end) a ∙ ap (slice_range (xs ++ more) (length xs)) b
    ∙ ap (take (length xs + length more - length xs)) (drop_at xs more (length xs) refl) ∙ take_all (length xs + length more - length xs) more (omega arith)

pub span_in_last : {X : Type 0} (xs more ys : List X) (s : Span) → ys ≡ xs ++ more → s.start ≡ length xs → s.end ≡ length xs + length more → SpanIn ys s
span_in_last xs more ys s e a b = record { order = omega arith; inside = omega (arith, ap length e, length-append xs more) }

-- each entry is another
pub span_map : {X Y : Type 0} (f : X → Y) (xs : List X) (s : Span) → span_of (map f xs) s ≡ map f (span_of xs s)
span_map f xs s = ap (take (s.end - s.start)) (drop-map f s.start xs) ∙ take-map f (s.end - s.start) (drop s.start xs)

pub span_in_map : {X Y : Type 0} (f : X → Y) (xs : List X) (s : Span) → SpanIn xs s → SpanIn (map f xs) s
span_in_map f xs s h = record { order = h.order; inside = omega (arith, length-map xs f, h.inside) }
