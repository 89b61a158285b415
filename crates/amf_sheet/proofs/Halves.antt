-- A builder of which the first nodes are begun, and the others have their parts.
use Rattle.std.proofs.Common.{◌≡◌, ℕ, zero, suc, ◌<◌, ◌≤◌, true, false, List, [], ◌∷◌, length, map, get_or, set, sym, refl, ap, ◌∙◌, subst, arith}
use Rattle.std.proofs.lemmas.List.{length-map}
use Rattle.std.specs.List.{AllByRecursion}
use Rattle.amf_sheet.specs.declared.row.Row.{Row}
use Rattle.amf_sheet.specs.declared.row.Row.TheVariants as row
use Rattle.amf_graph.specs.declared.value.Value.{Value as Stored}
use Rattle.amf_graph.specs.declared.value.TextId.{TextId}
use Rattle.amf_graph.specs.declared.shape.Shape.{Shape}
use Rattle.amf_graph.specs.declared.shape.Shape.TheVariants as shape
use Rattle.amf_graph.specs.Graph as graph
use Rattle.amf_graph.specs.Graph.{Fits}
use Rattle.amf_graph.specs.Arena.{Arena, no_traits, head_content, HeadNames, IsNodeIn}
use Rattle.amf_graph.specs.Bounds.{items_of}
use Rattle.amf_graph.specs.Building.{stored_at, no_stored, changed, shape_head}
use Rattle.amf_graph.proofs.Alls.{all_at}
use Rattle.amf_graph.proofs.Growth.{Grows, node_grows}
use Rattle.amf_sheet.specs.Filling.{with_nodes, row_head, begun_row, left_row, filled, IsFillable, half_filled}
use Rattle.amf_sheet.specs.Rows.{Columns, span_of, RowIn, row_node, sheet_arena}
use Rattle.amf_sheet.specs.Telling.{told, HasParts, IsTold, AreAllTold}

-- All nodes are begun, or all have their parts.

pub half_begun : (c : Columns) (n : ℕ) (rs : List Row) → length rs ≤ n → half_filled c n rs ≡ map begun_row rs
half_begun c n [] l = refl
half_begun c zero (r ∷ rs) l = absurd (omega arith)
half_begun c (suc n) (r ∷ rs) l = ap (λ w. begun_row r ∷ w) (half_begun c n rs (omega arith))

pub half_done : (c : Columns) (rs : List Row) → half_filled c 0 rs ≡ map (row_node c) rs
half_done c [] = refl
half_done c (r ∷ rs) = ap (λ w. row_node c r ∷ w) (half_done c rs)

pub length_half : (c : Columns) (n : ℕ) (rs : List Row) → length (half_filled c n rs) ≡ length rs
length_half c n [] = refl
length_half c zero (r ∷ rs) = ap suc (length_half c zero rs)
length_half c (suc n) (r ∷ rs) = ap suc (length_half c n rs)

-- One more node gets its parts.

pub half_at : (c : Columns) (n : ℕ) (rs : List Row) → n < length rs → get_or (half_filled c (suc n) rs) n no_stored ≡ begun_row (get_or rs n row.Untold)
half_at c n [] l = absurd (omega arith)
half_at c zero (r ∷ rs) l = refl
half_at c (suc n) (r ∷ rs) l = half_at c n rs (omega arith)

pub half_set : (c : Columns) (n : ℕ) (rs : List Row) → n < length rs → set (half_filled c (suc n) rs) n (row_node c (get_or rs n row.Untold)) ≡ half_filled c n rs
half_set c n [] l = absurd (omega arith)
half_set c zero (r ∷ rs) l = refl
half_set c (suc n) (r ∷ rs) l = ap (λ w. begun_row r ∷ w) (half_set c n rs (omega arith))

filled_is : (c : Columns) (r : Row) → filled c (left_row r) (begun_row r) ≡ row_node c r
filled_is c row.Untold = refl
filled_is c (row.Leaf l) = refl
filled_is c (row.Parts s ps vs) = refl

left_at : (rs : List Row) (n : ℕ) → n < length rs → get_or (map left_row rs) n row.Untold ≡ left_row (get_or rs n row.Untold)
left_at [] n l = absurd (omega arith)
left_at (r ∷ rs) zero l = refl
left_at (r ∷ rs) (suc n) l = left_at rs n (omega arith)

pub half_more : (a b b' : Arena) (c : Columns) (n m : ℕ) (rs : List Row) (r : Row) → m ≡ suc n → n < length rs → b ≡ with_nodes (half_filled c m rs) a → r ≡ get_or (map left_row rs) n row.Untold
    → b' ≡ changed (filled c r) n b → b' ≡ with_nodes (half_filled c n rs) a
half_more a b b' c n m rs r k l e f g =
    let q = get_or rs n row.Untold in
    let from : b ≡ with_nodes (half_filled c (suc n) rs) a = e ∙ ap (λ w. with_nodes (half_filled c w rs) a) k in
    let is : r ≡ left_row q = f ∙ left_at rs n l in
    let node : filled c (left_row q) (get_or (half_filled c (suc n) rs) n no_stored) ≡ row_node c q = ap (filled c (left_row q)) (half_at c n rs l) ∙ filled_is c q in
    g ∙ ap (changed (filled c r) n) from ∙ ap (λ w. changed (filled c w) n (with_nodes (half_filled c (suc n) rs) a)) is
    ∙ ap (λ w. with_nodes (set (half_filled c (suc n) rs) n w) a) node ∙ ap (λ w. with_nodes w a) (half_set c n rs l)

-- What is asked of the next one.

same_base : (a b : Arena) → a.texts ≡ b.texts → a.traits ≡ b.traits → length a.nodes ≤ length b.nodes → Grows a b
same_base a b e f l = record {
  texts = λ i k. (subst (λ xs. i < length xs) e k, ap (λ xs. get_or xs i []) (sym e));
  traits = λ i k. (subst (λ xs. i < length xs) f k, ap (λ xs. get_or xs i no_traits) (sym f));
  nodes = l;
}

told_fits : (a : Arena) (s : Shape) (names : List (List ℕ × graph.Value)) (values : List graph.Value) → HasParts (head_content a (shape_head s)) names values → Fits (head_content a (shape_head s)) names values
told_fits a shape.Array names values h = tt
told_fits a (shape.Object t) names values h = h
told_fits a (shape.Wrapper x) names values h = h
told_fits a (shape.Values f x) names values h = h
told_fits a (shape.Dictionary f) names values h = h

not_open : (P : Type 0) → false ≡ true → P
not_open P e = cc

told_in : (a : Arena) (s : Shape) (ps : List (TextId × Stored)) (vs : List Stored) → IsTold a (told s ps vs) → IsNodeIn a (told s ps vs)
told_in a s ps vs h = record { head = h.head; names = h.names; values = h.values; room = λ e. not_open _ e; fits = λ e. told_fits a s _ _ h.parts }

fillable : (a b : Arena) (c : Columns) (r : Row) → Grows a b → IsTold a (row_node c r) → IsFillable b c (left_row r) (begun_row r)
fillable a b c row.Untold g h = tt
fillable a b c (row.Leaf l) g h = tt
fillable a b c (row.Parts s ps vs) g h = (refl, (node_grows a b g (row_node c (row.Parts s ps vs)) (told_in a s (span_of c.names ps) (span_of c.values vs) h), h.within))

half_grows : (a : Arena) (c : Columns) (m : ℕ) (rs : List Row) → Grows (sheet_arena a c rs) (with_nodes (half_filled c m rs) a)
half_grows a c m rs = same_base (sheet_arena a c rs) (with_nodes (half_filled c m rs) a) refl refl (omega (arith, length-map rs (row_node c), length_half c m rs))

pub half_fillable : (a b : Arena) (c : Columns) (n m : ℕ) (rs : List Row) (r : Row) → m ≡ suc n → n < length rs → b ≡ with_nodes (half_filled c m rs) a → r ≡ get_or (map left_row rs) n row.Untold
    → AreAllTold (sheet_arena a c rs) → IsFillable b c r (stored_at b n)
half_fillable a b c n m rs r k l e f h =
    let q = get_or rs n row.Untold in
    let half = with_nodes (half_filled c (suc n) rs) a in
    let from : b ≡ half = e ∙ ap (λ w. with_nodes (half_filled c w rs) a) k in
    let is : r ≡ left_row q = f ∙ left_at rs n l in
    let one : get_or (map (row_node c) rs) n no_stored ≡ row_node c q = at_map rs n l in
    let less : n < length (map (row_node c) rs) = omega (arith, length-map rs (row_node c)) in
    let one_told : IsTold (sheet_arena a c rs) (row_node c q) = subst (IsTold (sheet_arena a c rs)) one (all_at (IsTold (sheet_arena a c rs)) (map (row_node c) rs) n no_stored less h) in
    let here : IsFillable half c (left_row q) (stored_at half n) = subst (IsFillable half c (left_row q)) (sym (half_at c n rs l)) (fillable (sheet_arena a c rs) half c q (half_grows a c (suc n) rs) one_told) in
    subst (λ (x : Arena). IsFillable x c r (stored_at x n)) (sym from) (subst (λ w. IsFillable half c w (stored_at half n)) (sym is) here)
  where
    at_map : (rs : List Row) (n : ℕ) → n < length rs → get_or (map (row_node c) rs) n no_stored ≡ row_node c (get_or rs n row.Untold)
    at_map [] n l = absurd (omega arith)
    at_map (r ∷ rs) zero l = refl
    at_map (r ∷ rs) (suc n) l = at_map rs n (omega arith)

pub half_there : (a b : Arena) (c : Columns) (n m : ℕ) (rs : List Row) → n < length rs → b ≡ with_nodes (half_filled c m rs) a → n < length b.nodes
half_there a b c n m rs l e = subst (λ (x : Arena). n < length x.nodes) (sym e) (omega (arith, length_half c m rs))

left_in : (c : Columns) (r : Row) → RowIn c r → RowIn c (left_row r)
left_in c row.Untold h = tt
left_in c (row.Leaf l) h = tt
left_in c (row.Parts s ps vs) h = h

pub half_in : (c : Columns) (n : ℕ) (rs : List Row) (r : Row) → n < length rs → r ≡ get_or (map left_row rs) n row.Untold → AllByRecursion (RowIn c) rs → RowIn c r
half_in c n rs r l e h = subst (RowIn c) (sym (e ∙ left_at rs n l)) (left_in c (get_or rs n row.Untold) (all_at (RowIn c) rs n row.Untold l h))

-- All nodes may be begun.

row_heads : (a : Arena) (c : Columns) (rows : List Row) (r : Row) → IsTold (sheet_arena a c rows) (row_node c r) → HeadNames a (row_head r)
row_heads a c rows row.Untold h = tt
row_heads a c rows (row.Leaf l) h = h.head
row_heads a c rows (row.Parts s ps vs) h = h.head

row_items : (a : Arena) (c : Columns) (r : Row) → IsTold a (row_node c r) → items_of (row_head r) < 268435456
row_items a c row.Untold h = omega arith
row_items a c (row.Leaf l) h = omega (arith, h.within.together)
row_items a c (row.Parts shape.Array ps vs) h = omega arith
row_items a c (row.Parts (shape.Object t) ps vs) h = omega arith
row_items a c (row.Parts (shape.Wrapper x) ps vs) h = omega arith
row_items a c (row.Parts (shape.Values f x) ps vs) h = omega arith
row_items a c (row.Parts (shape.Dictionary f) ps vs) h = omega arith

-- of these rows of a sheet
pub each_head : (a : Arena) (c : Columns) (rows rs : List Row) → AllByRecursion (IsTold (sheet_arena a c rows)) (map (row_node c) rs) → AllByRecursion (λ r. HeadNames a (row_head r)) rs
each_head a c rows [] h = tt
each_head a c rows (r ∷ rs) h = (row_heads a c rows r h.0, each_head a c rows rs h.1)

pub each_items : (a : Arena) (c : Columns) (rs : List Row) → AllByRecursion (IsTold a) (map (row_node c) rs) → AllByRecursion (λ r. items_of (row_head r) < 268435456) rs
each_items a c [] h = tt
each_items a c (r ∷ rs) h = (row_items a c r h.0, each_items a c rs h.1)
