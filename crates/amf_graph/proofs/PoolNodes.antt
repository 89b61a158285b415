-- Nodes in pools, where the pools grow.
use Rattle.std.proofs.Common.{◌≡◌, ℕ, zero, suc, ◌+◌, ◌-◌, ◌<◌, ◌≤◌, List, [], ◌∷◌, ◌++◌, length, get_or, take, drop, sym, refl, ap, ◌∙◌, subst, arith}
use Rattle.std.specs.Prelude.{slice_range}
use Rattle.std.proofs.lemmas.List.{length-append, length-take, length-drop, take_all, take_at, take-append-drop, take-append-le, drop-append-le, drop_at}
use Rattle.amf_graph.specs.declared.row.Span.{Span}
use Rattle.amf_graph.specs.declared.row.Both.{Both}
use Rattle.amf_graph.specs.declared.row.Row.{Row}
use Rattle.amf_graph.specs.declared.row.Row.TheVariants as row
use Rattle.amf_graph.specs.Arena.{StoredHead, array, object, wrapper, bytes, values, dictionary}
use Rattle.amf_graph.specs.Building.{closed}
use Rattle.amf_graph.specs.Held.{form_head}
use Rattle.amf_graph.specs.Pools.{Pool, span_of, SpanIn, no_both, BothIn, RowIn, parts_node, valued_node, named_node, both_node, pool_node, IsFront, Grows}
use Rattle.amf_graph.specs.Views.{named, flat}

pub front_same : {X : Type 0} (xs : List X) → IsFront xs xs
front_same xs = take_all (length xs) xs (omega arith)

pub front_more : {X : Type 0} (xs more ys : List X) → ys ≡ xs ++ more → IsFront xs ys
front_more xs more ys e = ap (take (length xs)) e ∙ take_at xs more (length xs) refl

pub front_is : {X : Type 0} (xs ys : List X) → ys ≡ xs → IsFront xs ys
front_is xs ys e = ap (take (length xs)) e ∙ front_same xs

pub front_length : {X : Type 0} (xs ys : List X) → IsFront xs ys → length xs ≤ length ys
front_length xs ys f = omega (arith, ap length f, length-take (length xs) ys)

range_front : {X : Type 0} (xs more : List X) (i j : ℕ) → i ≤ j → j ≤ length xs → slice_range (xs ++ more) i j ≡ slice_range xs i j
range_front xs more i j l m =
    ap (take (j - i)) (drop-append-le i xs more (omega arith)) ∙ take-append-le (j - i) (drop i xs) more (let n = length-drop i xs in omega arith)

pub span_front : {X : Type 0} (xs ys : List X) (s : Span) → IsFront xs ys → SpanIn xs s → span_of ys s ≡ span_of xs s
span_front xs ys s f h =
    ap (λ w. slice_range w s.start s.end) (sym (take-append-drop (length xs) ys) ∙ ap (λ w. w ++ drop (length xs) ys) f) ∙ range_front xs (drop (length xs) ys) s.start s.end h.0 h.1

pub span_in_front : {X : Type 0} (xs ys : List X) (s : Span) → IsFront xs ys → SpanIn xs s → SpanIn ys s
span_in_front xs ys s f h = (h.0, let l = front_length xs ys f in let k = h.1 in omega arith)

-- what stands behind the rest
pub span_last : {X : Type 0} (xs more ys : List X) (s : Span) → ys ≡ xs ++ more → s.start ≡ length xs → s.end ≡ length xs + length more → span_of ys s ≡ more
span_last xs more ys s e a b =
    ap (λ w. slice_range w s.start s.end) e ∙ ap (λ n. slice_range (xs ++ more) n s.end) a ∙ ap (slice_range (xs ++ more) (length xs)) b
    ∙ ap (take (length xs + length more - length xs)) (drop_at xs more (length xs) refl) ∙ take_all (length xs + length more - length xs) more (omega arith)

pub span_in_last : {X : Type 0} (xs more ys : List X) (s : Span) → ys ≡ xs ++ more → s.start ≡ length xs → s.end ≡ length xs + length more → SpanIn ys s
span_in_last xs more ys s e a b = (omega arith, omega (arith, ap length e, length-append xs more))

at_front : {X : Type 0} (xs ys : List X) (k : ℕ) (d : X) → IsFront xs ys → k < length xs → get_or ys k d ≡ get_or xs k d
at_front xs ys k d f l = ap (λ w. get_or w k d) (sym (take-append-drop (length xs) ys) ∙ ap (λ w. w ++ drop (length xs) ys) f) ∙ at_append xs (drop (length xs) ys) k d l
  where
    at_append : {X : Type 0} (xs more : List X) (k : ℕ) (d : X) → k < length xs → get_or (xs ++ more) k d ≡ get_or xs k d
    at_append [] more k d l = absurd (omega arith)
    at_append (x ∷ xs) more zero d l = refl
    at_append (x ∷ xs) more (suc k) d l = at_append xs more k d (omega arith)

parts_grow : (p q : Pool) (h : StoredHead) (vs ps : Span) → Grows p q → SpanIn p.values vs × SpanIn p.names ps → parts_node q h vs ps ≡ parts_node p h vs ps
parts_grow p q h vs ps g i = ap (λ w. closed h (named w) (span_of q.values vs)) (span_front p.names q.names ps g.names i.1) ∙ ap (closed h (named (span_of p.names ps))) (span_front p.values q.values vs g.values i.0)

valued_grows : (p q : Pool) (h : StoredHead) (vs : Span) → Grows p q → SpanIn p.values vs → valued_node q h vs ≡ valued_node p h vs
valued_grows p q h vs g i = ap (closed h []) (span_front p.values q.values vs g.values i)

named_grows : (p q : Pool) (h : StoredHead) (ps : Span) → Grows p q → SpanIn p.names ps → named_node q h ps ≡ named_node p h ps
named_grows p q h ps g i = ap (λ w. closed h (named w) []) (span_front p.names q.names ps g.names i)

both_grows : (p q : Pool) (b : Both) → Grows p q → BothIn p b → both_node q b ≡ both_node p b
both_grows p q b g i = parts_grow p q (form_head b.form) b.values b.names g (i.values, i.names)

both_in_grows : (p q : Pool) (b : Both) → Grows p q → BothIn p b → BothIn q b
both_in_grows p q b g i = record { values = span_in_front p.values q.values b.values g.values i.values; names = span_in_front p.names q.names b.names g.names i.names }

both_same : (p q : Pool) (k : ℕ) → Grows p q → k < length p.both → get_or q.both k no_both ≡ get_or p.both k no_both
both_same p q k g l = at_front p.both q.both k no_both g.both l

-- the last one
pub both_last : (bs cs : List Both) (b : Both) → cs ≡ bs ++ b ∷ [] → get_or cs (length bs) no_both ≡ b
both_last bs cs b e = ap (λ w. get_or w (length bs) no_both) e ∙ go bs
  where
    go : (bs : List Both) → get_or (bs ++ b ∷ []) (length bs) no_both ≡ b
    go [] = refl
    go (x ∷ bs) = go bs

pub node_grows : (p q : Pool) (r : Row) → Grows p q → RowIn p r → pool_node q r ≡ pool_node p r
node_grows p q (row.Slot s) g h = absurd h
node_grows p q (row.Leaf k) g h = ap (λ w. closed w [] []) (at_front p.leaves q.leaves k array g.leaves h)
node_grows p q (row.Bytes b) g h = ap (λ x. closed (bytes x) [] []) (span_front p.bytes q.bytes b g.bytes h)
node_grows p q (row.Array vs) g h = valued_grows p q array vs g h
node_grows p q (row.NamedArray ps) g h = named_grows p q array ps g h
node_grows p q (row.Object t vs) g h = valued_grows p q (object t.0) vs g h
node_grows p q (row.NamedObject t ps) g h = named_grows p q (object t.0) ps g h
node_grows p q (row.Wrapper c vs) g h = valued_grows p q (wrapper c) vs g h
node_grows p q (row.Values f x vs) g h = valued_grows p q (values f x.0) vs g h
node_grows p q (row.Both k) g h = ap (both_node q) (both_same p q k g h.0) ∙ both_grows p q (get_or p.both k no_both) g h.1
node_grows p q (row.Dictionary w es) g h = ap (λ x. closed (dictionary w) [] (flat x)) (span_front p.entries q.entries es g.entries h)

pub row_grows : (p q : Pool) (r : Row) → Grows p q → RowIn p r → RowIn q r
row_grows p q (row.Slot s) g h = absurd h
row_grows p q (row.Leaf k) g h = let l = front_length p.leaves q.leaves g.leaves in omega (arith, h)
row_grows p q (row.Bytes b) g h = span_in_front p.bytes q.bytes b g.bytes h
row_grows p q (row.Array vs) g h = span_in_front p.values q.values vs g.values h
row_grows p q (row.NamedArray ps) g h = span_in_front p.names q.names ps g.names h
row_grows p q (row.Object t vs) g h = span_in_front p.values q.values vs g.values h
row_grows p q (row.NamedObject t ps) g h = span_in_front p.names q.names ps g.names h
row_grows p q (row.Wrapper c vs) g h = span_in_front p.values q.values vs g.values h
row_grows p q (row.Values f x vs) g h = span_in_front p.values q.values vs g.values h
row_grows p q (row.Both k) g h = (let l = front_length p.both q.both g.both in let m = h.0 in omega arith, subst (BothIn q) (sym (both_same p q k g h.0)) (both_in_grows p q (get_or p.both k no_both) g h.1))
row_grows p q (row.Dictionary w es) g h = span_in_front p.entries q.entries es g.entries h
