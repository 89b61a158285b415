-- What calls do to a sheet.
use Rattle.std.proofs.Common.{◌≡◌, ℕ, ◌<◌, List, [], ◌∷◌, ◌++◌, length, map, set, sym, refl, ap, ◌∙◌, subst, arith}
use Rattle.std.proofs.lemmas.List.{length-set, length_push, map-set, map_push}
use Rattle.std.specs.List.{AllByRecursion}
use Rattle.amf_graph.specs.declared.value.Value.{Value as Stored}
use Rattle.amf_graph.specs.declared.value.TextId.{TextId}
use Rattle.amf_graph.specs.declared.shape.Shape.{Shape}
use Rattle.amf_graph.specs.Arena.{Arena, StoredTraits, IsTraitsIn}
use Rattle.amf_graph.specs.Building.{kept_node, kept_text, kept_traits}
use Rattle.amf_graph.proofs.Alls.{all_weaker, all_push, all_set}
use Rattle.amf_sheet.specs.declared.row.Span.{Span}
use Rattle.amf_sheet.specs.declared.row.Row.{Row}
use Rattle.amf_sheet.specs.declared.row.Row.TheVariants as row
use Rattle.amf_sheet.specs.Telling.{untold, told, with_node}
use Rattle.amf_sheet.specs.Rows.{Columns, columns, span_of, SpanIn, RowIn, row_node, Grows, sheet_arena, IsSheet}
use Rattle.amf_sheet.proofs.Spans.{span_front, span_in_front}

pub row_grows : (c d : Columns) (r : Row) → Grows c d → RowIn c r → row_node d r ≡ row_node c r
row_grows c d row.Untold g h = refl
row_grows c d (row.Leaf l) g h = refl
row_grows c d (row.Parts s ps vs) g h = ap (λ w. told s w (span_of d.values vs)) (span_front c.names d.names ps g.names h.0) ∙ ap (told s (span_of c.names ps)) (span_front c.values d.values vs g.values h.1)

pub row_in_grows : (c d : Columns) → Grows c d → (r : Row) → RowIn c r → RowIn d r
row_in_grows c d g row.Untold h = tt
row_in_grows c d g (row.Leaf l) h = tt
row_in_grows c d g (row.Parts s ps vs) h = (span_in_front c.names d.names ps g.names h.0, span_in_front c.values d.values vs g.values h.1)

rows_grow : (c d : Columns) (rs : List Row) → Grows c d → AllByRecursion (RowIn c) rs → map (row_node d) rs ≡ map (row_node c) rs
rows_grow c d [] g h = refl
rows_grow c d (r ∷ rs) g h = ap (λ n. n ∷ map (row_node d) rs) (row_grows c d r g h.0) ∙ ap (λ ns. row_node c r ∷ ns) (rows_grow c d rs g h.1)

pub arena_grows : (a : Arena) (c d : Columns) (rs : List Row) → IsSheet a c rs → Grows c d → sheet_arena a d rs ≡ sheet_arena a c rs
arena_grows a c d rs s g = ap (λ ns. record { texts = a.texts; traits = a.traits; nodes = ns }) (rows_grow c d rs g s.rows_in)

pub sheet_grows : (a : Arena) (c d : Columns) (rs : List Row) → IsSheet a c rs → Grows c d → IsSheet a d rs
sheet_grows a c d rs s g = record { no_nodes = s.no_nodes; rows_in = all_weaker (RowIn c) (RowIn d) rs (row_in_grows c d g) s.rows_in; few = s.few }

-- one more row
pub arena_push : (a : Arena) (c : Columns) (rs : List Row) → sheet_arena a c (rs ++ row.Untold ∷ []) ≡ kept_node (sheet_arena a c rs) untold
arena_push a c rs = ap (λ ns. record { texts = a.texts; traits = a.traits; nodes = ns }) (map_push (row_node c) rs row.Untold)

pub sheet_push : (a : Arena) (c : Columns) (rs : List Row) → IsSheet a c rs → length rs < 268435455 → IsSheet a c (rs ++ row.Untold ∷ [])
sheet_push a c rs s l = record { no_nodes = s.no_nodes; rows_in = all_push (RowIn c) rs row.Untold s.rows_in tt; few = omega (arith, length_push rs row.Untold) }

-- another row
pub arena_set : (a : Arena) (c : Columns) (rs : List Row) (i : ℕ) (r : Row) → sheet_arena a c (set rs i r) ≡ with_node i (row_node c r) (sheet_arena a c rs)
arena_set a c rs i r = ap (λ ns. record { texts = a.texts; traits = a.traits; nodes = ns }) (map-set (row_node c) rs i r)

pub sheet_set : (a : Arena) (c : Columns) (rs : List Row) (i : ℕ) (r : Row) → IsSheet a c rs → RowIn c r → IsSheet a c (set rs i r)
sheet_set a c rs i r s h = record { no_nodes = s.no_nodes; rows_in = all_set (RowIn c) rs i r s.rows_in h; few = omega (arith, length-set rs i r, s.few) }

-- other texts and traits
pub sheet_text : (a : Arena) (x : List ℕ) (c : Columns) (rs : List Row) → IsSheet a c rs → IsSheet (kept_text a x) c rs
sheet_text a x c rs s = record { no_nodes = s.no_nodes; rows_in = s.rows_in; few = s.few }

pub sheet_traits : (a : Arena) (t : StoredTraits) (c : Columns) (rs : List Row) → IsSheet a c rs → IsSheet (kept_traits a t) c rs
sheet_traits a t c rs s = record { no_nodes = s.no_nodes; rows_in = s.rows_in; few = s.few }

pub traits_in : (a : Arena) (c : Columns) (rs : List Row) (t : StoredTraits) → IsTraitsIn (sheet_arena a c rs) t → IsTraitsIn a t
traits_in a c rs t h = record { class = h.class; sealed = h.sealed }

-- a node that takes parts is told
pub arena_told : (a : Arena) (c d : Columns) (rs : List Row) (i : ℕ) (s : Shape) (ps vs : Span) (names : List (TextId × Stored)) (values : List Stored) (b : Arena)
    → IsSheet a c rs → Grows c d → span_of d.names ps ≡ names → span_of d.values vs ≡ values → sheet_arena a c rs ≡ b → sheet_arena a d (set rs i (row.Parts s ps vs)) ≡ with_node i (told s names values) b
arena_told a c d rs i s ps vs names values b h g e f k =
    arena_set a d rs i (row.Parts s ps vs) ∙ ap (with_node i (row_node d (row.Parts s ps vs))) (arena_grows a c d rs h g ∙ k)
    ∙ ap (λ w. with_node i (told s w (span_of d.values vs)) b) e ∙ ap (λ w. with_node i (told s names w) b) f

pub sheet_told : (a : Arena) (c d : Columns) (rs : List Row) (i : ℕ) (s : Shape) (ps vs : Span) → IsSheet a c rs → Grows c d → SpanIn d.names ps → SpanIn d.values vs → IsSheet a d (set rs i (row.Parts s ps vs))
sheet_told a c d rs i s ps vs h g p v = sheet_set a d rs i (row.Parts s ps vs) (sheet_grows a c d rs h g) (p, v)

-- the fields as they are lent
pub arena_lent : (a b : Arena) (names ns : List (TextId × Stored)) (values vs : List Stored) (rows rs : List Row) → sheet_arena a (columns names values) rows ≡ b → ns ≡ names → vs ≡ values → rs ≡ rows → sheet_arena a (columns ns vs) rs ≡ b
arena_lent a b names ns values vs rows rs k e f g =
    ap (λ w. sheet_arena a (columns w vs) rs) e ∙ ap (λ w. sheet_arena a (columns names w) rs) f ∙ ap (sheet_arena a (columns names values)) g ∙ k

pub rows_lent : (names ns : List (TextId × Stored)) (values vs : List Stored) (rows rs : List Row) → ns ≡ names → vs ≡ values → rs ≡ rows → AllByRecursion (RowIn (columns names values)) rows → AllByRecursion (RowIn (columns ns vs)) rs
rows_lent names ns values vs rows rs e f g h =
    subst (λ w. AllByRecursion (RowIn (columns w vs)) rs) (sym e) (subst (λ w. AllByRecursion (RowIn (columns names w)) rs) (sym f) (subst (AllByRecursion (RowIn (columns names values))) (sym g) h))
