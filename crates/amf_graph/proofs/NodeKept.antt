-- Nodes by their rows, where a row or a slot is another.
use Rattle.std.proofs.Common.{◌≡◌, ◌≢◌, ℕ, zero, suc, ◌+◌, ◌-◌, ◌<◌, ◌≤◌, List, [], ◌∷◌, ◌++◌, length, get_or, map, set, take, Some, None, false, ◌⊎◌, inl, inr, Result, Ok, Err, OnErr, sym, refl, ap, ◌∙◌, subst, arith, get_or-set_other, get_or-set_same, length-set}
use Rattle.std.proofs.lemmas.List.{length-append, length-map, get_or-map, set-get_or, take-map, get_or_read}
use Rattle.amf_graph.specs.declared.row.Row.{Row}
use Rattle.amf_graph.specs.declared.row.Row.TheVariants as row
use Rattle.amf_graph.specs.Arena.{StoredNode}
use Rattle.amf_graph.specs.Building.{no_stored}
use Rattle.amf_graph.specs.Slots.{KeptSlot, no_slot}
use Rattle.amf_graph.specs.Pools.{Pool, RowIn, pool_node, Grows, Keeps}
use Rattle.amf_graph.specs.NodeRows.{no_row, row_node, row_nodes, RowFits, AreRows, IsClosedAt}
use Rattle.amf_graph.proofs.PoolNodes.{node_grows, row_grows}

-- Lists of nodes.

pub rows_same : (f g : Row → StoredNode) (rows : List Row) → ((i : ℕ) → i < length rows → g (get_or rows i no_row) ≡ f (get_or rows i no_row)) → map g rows ≡ map f rows
rows_same f g [] h = refl
rows_same f g (r ∷ rows) h = ap (λ n. n ∷ map g rows) (h 0 (omega arith)) ∙ ap (λ ns. f r ∷ ns) (rows_same f g rows (λ i l. h (suc i) (omega arith)))

pub rows_set : (f g : Row → StoredNode) (rows : List Row) (i : ℕ) (r : Row) → i < length rows → ((j : ℕ) → j ≢ i → j < length rows → g (get_or rows j no_row) ≡ f (get_or rows j no_row)) → map g (set rows i r) ≡ set (map f rows) i (g r)
rows_set f g [] i r l h = absurd (omega arith)
rows_set f g (x ∷ rows) zero r l h = ap (λ ns. g r ∷ ns) (rows_same f g rows (λ j m. h (suc j) (λ e. absurd (omega (arith, e))) (omega arith)))
rows_set f g (x ∷ rows) (suc i) r l h =
    ap (λ n. n ∷ map g (set rows i r)) (h 0 (λ e. absurd (omega (arith, e))) (omega arith)) ∙ ap (λ ns. f x ∷ ns) (rows_set f g rows i r (omega arith) (λ j n m. h (suc j) (λ e. n (omega (arith, e))) (omega arith)))

pub node_at_row : (p : Pool) (ss : List KeptSlot) (rows : List Row) (i : ℕ) → i < length rows → get_or (row_nodes p ss rows) i no_stored ≡ row_node p ss (get_or rows i no_row)
node_at_row p ss rows i l = get_or-map (row_node p ss) rows i no_row no_stored l

at_old : (rows : List Row) (r : Row) (i : ℕ) → i < length rows → get_or (rows ++ r ∷ []) i no_row ≡ get_or rows i no_row
at_old [] r i l = absurd (omega arith)
at_old (x ∷ rows) r zero l = refl
at_old (x ∷ rows) r (suc i) l = at_old rows r i (omega arith)

at_last : (rows : List Row) (r : Row) (i : ℕ) → i ≡ length rows → get_or (rows ++ r ∷ []) i no_row ≡ r
at_last [] r zero e = refl
at_last [] r (suc i) e = absurd (omega (arith, e))
at_last (x ∷ rows) r zero e = absurd (omega (arith, e))
at_last (x ∷ rows) r (suc i) e = at_last rows r i (omega (arith, e))

map_last : (f g : Row → StoredNode) (rows : List Row) (r : Row) → ((i : ℕ) → i < length rows → g (get_or rows i no_row) ≡ f (get_or rows i no_row)) → map g (rows ++ r ∷ []) ≡ map f rows ++ g r ∷ []
map_last f g [] r h = refl
map_last f g (x ∷ rows) r h = ap (λ n. n ∷ map g (rows ++ r ∷ [])) (h 0 (omega arith)) ∙ ap (λ ns. f x ∷ ns) (map_last f g rows r (λ i l. h (suc i) (omega arith)))

lt_or_eq : (i n : ℕ) → i < n + 1 → (i < n) ⊎ (i ≡ n)
lt_or_eq zero zero l = inr refl
lt_or_eq zero (suc n) l = inl (omega arith)
lt_or_eq (suc i) zero l = absurd (omega arith)
lt_or_eq (suc i) (suc n) l = up (lt_or_eq i n (omega arith))
  where
    up : (i < n) ⊎ (i ≡ n) → (suc i < suc n) ⊎ (suc i ≡ suc n)
    up (inl k) = inl (omega arith)
    up (inr e) = inr (ap suc e)

eq_or : (a b : ℕ) → (a ≡ b) ⊎ (a ≢ b)
eq_or zero zero = inl refl
eq_or zero (suc b) = inr (λ e. absurd (omega (arith, e)))
eq_or (suc a) zero = inr (λ e. absurd (omega (arith, e)))
eq_or (suc a) (suc b) = up (eq_or a b)
  where
    up : (a ≡ b) ⊎ (a ≢ b) → (suc a ≡ suc b) ⊎ (suc a ≢ suc b)
    up (inl e) = inl (ap suc e)
    up (inr n) = inr (λ e. n (omega (arith, e)))

not_le : (t n : ℕ) → (n ≤ t → ⊥) → t < n
not_le t n h = omega (arith, h)

at_split : (P : ℕ → Row → Type 0) (rows : List Row) (r : Row) → ((i : ℕ) → i < length rows → P i (get_or rows i no_row)) → P (length rows) r → (i : ℕ) → i < length (rows ++ r ∷ []) → P i (get_or (rows ++ r ∷ []) i no_row)
at_split P rows r h l i m = decide (lt_or_eq i (length rows) (omega (arith, length-append rows (r ∷ []))))
  where
    decide : (i < length rows) ⊎ (i ≡ length rows) → P i (get_or (rows ++ r ∷ []) i no_row)
    decide (inl k) = subst (P i) (sym (at_old rows r i k)) (h i k)
    decide (inr e) = subst (P i) (sym (at_last rows r i e)) (subst (λ n. P n r) (sym e) l)

-- Where the pools grow.

fits_grows : (p q : Pool) (ss : List KeptSlot) (used i : ℕ) (r : Row) → Grows p q → RowFits p ss used i r → RowFits q ss used i r
fits_grows p q ss used i (row.Slot s) g h = h
fits_grows p q ss used i (row.Leaf k) g h = row_grows p q (row.Leaf k) g h
fits_grows p q ss used i (row.Bytes b) g h = row_grows p q (row.Bytes b) g h
fits_grows p q ss used i (row.Array vs) g h = row_grows p q (row.Array vs) g h
fits_grows p q ss used i (row.NamedArray ps) g h = row_grows p q (row.NamedArray ps) g h
fits_grows p q ss used i (row.Object t vs) g h = row_grows p q (row.Object t vs) g h
fits_grows p q ss used i (row.NamedObject t ps) g h = row_grows p q (row.NamedObject t ps) g h
fits_grows p q ss used i (row.Wrapper c vs) g h = row_grows p q (row.Wrapper c vs) g h
fits_grows p q ss used i (row.Values f y vs) g h = row_grows p q (row.Values f y vs) g h
fits_grows p q ss used i (row.Both k) g h = row_grows p q (row.Both k) g h
fits_grows p q ss used i (row.Dictionary w es) g h = row_grows p q (row.Dictionary w es) g h

shows_grows : (p q : Pool) (ss : List KeptSlot) (used i : ℕ) (r : Row) → Grows p q → RowFits p ss used i r → row_node q ss r ≡ row_node p ss r
shows_grows p q ss used i (row.Slot s) g h = refl
shows_grows p q ss used i (row.Leaf k) g h = node_grows p q (row.Leaf k) g h
shows_grows p q ss used i (row.Bytes b) g h = node_grows p q (row.Bytes b) g h
shows_grows p q ss used i (row.Array vs) g h = node_grows p q (row.Array vs) g h
shows_grows p q ss used i (row.NamedArray ps) g h = node_grows p q (row.NamedArray ps) g h
shows_grows p q ss used i (row.Object t vs) g h = node_grows p q (row.Object t vs) g h
shows_grows p q ss used i (row.NamedObject t ps) g h = node_grows p q (row.NamedObject t ps) g h
shows_grows p q ss used i (row.Wrapper c vs) g h = node_grows p q (row.Wrapper c vs) g h
shows_grows p q ss used i (row.Values f y vs) g h = node_grows p q (row.Values f y vs) g h
shows_grows p q ss used i (row.Both k) g h = node_grows p q (row.Both k) g h
shows_grows p q ss used i (row.Dictionary w es) g h = node_grows p q (row.Dictionary w es) g h

pub rows_grow : (p q : Pool) (ss : List KeptSlot) (used : ℕ) (rows : List Row) → AreRows p ss used rows → Grows p q → AreRows q ss used rows
rows_grow p q ss used rows a g = record { slots = a.slots; fits = λ i l. fits_grows p q ss used i (get_or rows i no_row) g (a.fits i l) }

pub nodes_grow : (p q : Pool) (ss : List KeptSlot) (used : ℕ) (rows : List Row) → AreRows p ss used rows → Grows p q → row_nodes q ss rows ≡ row_nodes p ss rows
nodes_grow p q ss used rows a g = rows_same (row_node p ss) (row_node q ss) rows (λ i l. shows_grows p q ss used i (get_or rows i no_row) g (a.fits i l))

-- One row more, in the pools.

fits_inside : (q : Pool) (ss : List KeptSlot) (used i : ℕ) (r : Row) → RowIn q r → RowFits q ss used i r
fits_inside q ss used i (row.Slot s) h = absurd h
fits_inside q ss used i (row.Leaf k) h = h
fits_inside q ss used i (row.Bytes b) h = h
fits_inside q ss used i (row.Array vs) h = h
fits_inside q ss used i (row.NamedArray ps) h = h
fits_inside q ss used i (row.Object t vs) h = h
fits_inside q ss used i (row.NamedObject t ps) h = h
fits_inside q ss used i (row.Wrapper c vs) h = h
fits_inside q ss used i (row.Values f y vs) h = h
fits_inside q ss used i (row.Both k) h = h
fits_inside q ss used i (row.Dictionary w es) h = h

pub shows_inside : (q : Pool) (ss : List KeptSlot) (r : Row) → RowIn q r → row_node q ss r ≡ pool_node q r
shows_inside q ss (row.Slot s) h = absurd h
shows_inside q ss (row.Leaf k) h = refl
shows_inside q ss (row.Bytes b) h = refl
shows_inside q ss (row.Array vs) h = refl
shows_inside q ss (row.NamedArray ps) h = refl
shows_inside q ss (row.Object t vs) h = refl
shows_inside q ss (row.NamedObject t ps) h = refl
shows_inside q ss (row.Wrapper c vs) h = refl
shows_inside q ss (row.Values f y vs) h = refl
shows_inside q ss (row.Both k) h = refl
shows_inside q ss (row.Dictionary w es) h = refl

pub rows_push : (p q : Pool) (ss : List KeptSlot) (used : ℕ) (rows rows' : List Row) (n : StoredNode) (r : Row) → rows' ≡ rows ++ r ∷ [] → AreRows p ss used rows → Grows p q → Keeps p q n r → AreRows q ss used rows'
rows_push p q ss used rows rows' n r e a g k =
    subst (AreRows q ss used) (sym e) (record { slots = a.slots; fits = at_split (RowFits q ss used) rows r (rows_grow p q ss used rows a g).fits (fits_inside q ss used (length rows) r k.inside) })

pub nodes_push : (p q : Pool) (ss : List KeptSlot) (used : ℕ) (rows rows' : List Row) (n : StoredNode) (r : Row) → rows' ≡ rows ++ r ∷ [] → AreRows p ss used rows → Grows p q → Keeps p q n r → row_nodes q ss rows' ≡ row_nodes p ss rows ++ n ∷ []
nodes_push p q ss used rows rows' n r e a g k =
    ap (row_nodes q ss) e ∙ map_last (row_node p ss) (row_node q ss) rows r (λ i l. shows_grows p q ss used i (get_or rows i no_row) g (a.fits i l))
    ∙ ap (λ x. row_nodes p ss rows ++ x ∷ []) (shows_inside q ss r k.inside ∙ k.shows)

-- Other slots, of which those that are used are the same.

fits_used : (p : Pool) (ss ss' : List KeptSlot) (used used' i : ℕ) (r : Row) → used ≤ used' → ((k : ℕ) → k < used → get_or ss' k no_slot ≡ get_or ss k no_slot) → RowFits p ss used i r → RowFits p ss' used' i r
fits_used p ss ss' used used' i (row.Slot s) l e h = (let m = h.0 in omega arith, ap (λ (x : KeptSlot). x.owner) (e s h.0) ∙ h.1)
fits_used p ss ss' used used' i (row.Leaf k) l e h = h
fits_used p ss ss' used used' i (row.Bytes b) l e h = h
fits_used p ss ss' used used' i (row.Array vs) l e h = h
fits_used p ss ss' used used' i (row.NamedArray ps) l e h = h
fits_used p ss ss' used used' i (row.Object t vs) l e h = h
fits_used p ss ss' used used' i (row.NamedObject t ps) l e h = h
fits_used p ss ss' used used' i (row.Wrapper c vs) l e h = h
fits_used p ss ss' used used' i (row.Values f y vs) l e h = h
fits_used p ss ss' used used' i (row.Both k) l e h = h
fits_used p ss ss' used used' i (row.Dictionary w es) l e h = h

shows_used : (p : Pool) (ss ss' : List KeptSlot) (used i : ℕ) (r : Row) → ((k : ℕ) → k < used → get_or ss' k no_slot ≡ get_or ss k no_slot) → RowFits p ss used i r → row_node p ss' r ≡ row_node p ss r
shows_used p ss ss' used i (row.Slot s) e h = ap (λ (x : KeptSlot). x.node) (e s h.0)
shows_used p ss ss' used i (row.Leaf k) e h = refl
shows_used p ss ss' used i (row.Bytes b) e h = refl
shows_used p ss ss' used i (row.Array vs) e h = refl
shows_used p ss ss' used i (row.NamedArray ps) e h = refl
shows_used p ss ss' used i (row.Object t vs) e h = refl
shows_used p ss ss' used i (row.NamedObject t ps) e h = refl
shows_used p ss ss' used i (row.Wrapper c vs) e h = refl
shows_used p ss ss' used i (row.Values f y vs) e h = refl
shows_used p ss ss' used i (row.Both k) e h = refl
shows_used p ss ss' used i (row.Dictionary w es) e h = refl

pub rows_used : (p : Pool) (ss ss' : List KeptSlot) (used : ℕ) (rows : List Row) → used ≤ length ss' → ((k : ℕ) → k < used → get_or ss' k no_slot ≡ get_or ss k no_slot) → AreRows p ss used rows → AreRows p ss' used rows
rows_used p ss ss' used rows l e a = record { slots = l; fits = λ i m. fits_used p ss ss' used used i (get_or rows i no_row) (omega arith) e (a.fits i m) }

pub nodes_used : (p : Pool) (ss ss' : List KeptSlot) (used : ℕ) (rows : List Row) → ((k : ℕ) → k < used → get_or ss' k no_slot ≡ get_or ss k no_slot) → AreRows p ss used rows → row_nodes p ss' rows ≡ row_nodes p ss rows
nodes_used p ss ss' used rows e a = rows_same (row_node p ss) (row_node p ss') rows (λ i m. shows_used p ss ss' used i (get_or rows i no_row) e (a.fits i m))

-- A slot that is not used has another content, and one below has what it had.
pub handed_down : (ss : List KeptSlot) (used : ℕ) (x y : KeptSlot) → y ≡ get_or (set ss used x) (used - 1) no_slot → (k : ℕ) → k < used → get_or (set (set ss used x) (used - 1) y) k no_slot ≡ get_or ss k no_slot
handed_down ss used x y same k l =
    ap (λ w. get_or w k no_slot) (ap (set (set ss used x) (used - 1)) same ∙ set-get_or (set ss used x) (used - 1) no_slot) ∙ get_or-set_other ss used k x no_slot (λ e. absurd (omega arith))

-- One node more, in the next slot.

pub rows_open : (p : Pool) (ss ss' : List KeptSlot) (used : ℕ) (rows rows' : List Row) (n : StoredNode) → rows' ≡ rows ++ row.Slot used ∷ [] → used + 1 ≤ length ss' → ((k : ℕ) → k < used → get_or ss' k no_slot ≡ get_or ss k no_slot) → get_or ss' used no_slot ≡ record { owner = Some (length rows); node = n } → AreRows p ss used rows → AreRows p ss' (used + 1) rows'
rows_open p ss ss' used rows rows' n e l same own a =
    subst (AreRows p ss' (used + 1)) (sym e) (record { slots = l; fits = at_split (RowFits p ss' (used + 1)) rows (row.Slot used) (λ i m. fits_used p ss ss' used (used + 1) i (get_or rows i no_row) (omega arith) same (a.fits i m)) (omega arith, ap (λ (x : KeptSlot). x.owner) own) })

pub nodes_open : (p : Pool) (ss ss' : List KeptSlot) (used : ℕ) (rows rows' : List Row) (n : StoredNode) → rows' ≡ rows ++ row.Slot used ∷ [] → ((k : ℕ) → k < used → get_or ss' k no_slot ≡ get_or ss k no_slot) → get_or ss' used no_slot ≡ record { owner = Some (length rows); node = n } → AreRows p ss used rows → row_nodes p ss' rows' ≡ row_nodes p ss rows ++ n ∷ []
nodes_open p ss ss' used rows rows' n e same own a =
    ap (row_nodes p ss') e ∙ map_last (row_node p ss) (row_node p ss') rows (row.Slot used) (λ i m. shows_used p ss ss' used i (get_or rows i no_row) same (a.fits i m))
    ∙ ap (λ (x : KeptSlot). row_nodes p ss rows ++ x.node ∷ []) own

-- Another slot in the place of one.

owner_of : (p : Pool) (ss : List KeptSlot) (used i s : ℕ) (r : Row) → r ≡ row.Slot s → RowFits p ss used i r → (s < used) × ((get_or ss s no_slot).owner ≡ Some i)
owner_of p ss used i s r e h = subst (RowFits p ss used i) e h

pub slot_of : (p : Pool) (ss : List KeptSlot) (used : ℕ) (rows : List Row) (i s : ℕ) → i < length rows → get_or rows i no_row ≡ row.Slot s → AreRows p ss used rows → (s < used) × ((get_or ss s no_slot).owner ≡ Some i)
slot_of p ss used rows i s l e a = owner_of p ss used i s (get_or rows i no_row) e (a.fits i l)

pub slot_within : (p : Pool) (ss : List KeptSlot) (used : ℕ) (rows : List Row) (i s : ℕ) → i < length rows → get_or rows i no_row ≡ row.Slot s → AreRows p ss used rows → s < length ss
slot_within p ss used rows i s l e a = let m = (slot_of p ss used rows i s l e a).0 in let n = a.slots in omega arith

other_slot : (ss : List KeptSlot) (s t i j : ℕ) → j ≢ i → (get_or ss s no_slot).owner ≡ Some i → (get_or ss t no_slot).owner ≡ Some j → t ≢ s
other_slot ss s t i j n e f g = n (let h : Some j ≡ Some i = sym f ∙ ap (λ k. (get_or ss k no_slot).owner) g ∙ e in cc)

shows_other : (p : Pool) (ss : List KeptSlot) (x : KeptSlot) (used s i j : ℕ) (r : Row) → j ≢ i → (get_or ss s no_slot).owner ≡ Some i → RowFits p ss used j r → row_node p (set ss s x) r ≡ row_node p ss r
shows_other p ss x used s i j (row.Slot t) n e h = ap (λ (y : KeptSlot). y.node) (get_or-set_other ss s t x no_slot (other_slot ss s t i j n e h.1))
shows_other p ss x used s i j (row.Leaf k) n e h = refl
shows_other p ss x used s i j (row.Bytes b) n e h = refl
shows_other p ss x used s i j (row.Array vs) n e h = refl
shows_other p ss x used s i j (row.NamedArray ps) n e h = refl
shows_other p ss x used s i j (row.Object t vs) n e h = refl
shows_other p ss x used s i j (row.NamedObject t ps) n e h = refl
shows_other p ss x used s i j (row.Wrapper c vs) n e h = refl
shows_other p ss x used s i j (row.Values f y vs) n e h = refl
shows_other p ss x used s i j (row.Both k) n e h = refl
shows_other p ss x used s i j (row.Dictionary w es) n e h = refl

fits_other : (p : Pool) (ss : List KeptSlot) (x : KeptSlot) (used s i j : ℕ) (r : Row) → j ≢ i → (get_or ss s no_slot).owner ≡ Some i → RowFits p ss used j r → RowFits p (set ss s x) used j r
fits_other p ss x used s i j (row.Slot t) n e h = (h.0, ap (λ (y : KeptSlot). y.owner) (get_or-set_other ss s t x no_slot (other_slot ss s t i j n e h.1)) ∙ h.1)
fits_other p ss x used s i j (row.Leaf k) n e h = h
fits_other p ss x used s i j (row.Bytes b) n e h = h
fits_other p ss x used s i j (row.Array vs) n e h = h
fits_other p ss x used s i j (row.NamedArray ps) n e h = h
fits_other p ss x used s i j (row.Object t vs) n e h = h
fits_other p ss x used s i j (row.NamedObject t ps) n e h = h
fits_other p ss x used s i j (row.Wrapper c vs) n e h = h
fits_other p ss x used s i j (row.Values f y vs) n e h = h
fits_other p ss x used s i j (row.Both k) n e h = h
fits_other p ss x used s i j (row.Dictionary w es) n e h = h

-- the slot's node is another one
owner_put : (ss : List KeptSlot) (x : KeptSlot) (s t i : ℕ) → s < length ss → x.owner ≡ (get_or ss s no_slot).owner → (get_or ss t no_slot).owner ≡ Some i → (get_or (set ss s x) t no_slot).owner ≡ Some i
owner_put ss x s t i l e o = decide (eq_or t s)
  where
    decide : (t ≡ s) ⊎ (t ≢ s) → (get_or (set ss s x) t no_slot).owner ≡ Some i
    decide (inl f) = ap (λ k. (get_or (set ss s x) k no_slot).owner) f ∙ ap (λ (y : KeptSlot). y.owner) (get_or-set_same ss s x no_slot l) ∙ e ∙ ap (λ k. (get_or ss k no_slot).owner) (sym f) ∙ o
    decide (inr n) = ap (λ (y : KeptSlot). y.owner) (get_or-set_other ss s t x no_slot n) ∙ o

fits_put : (p : Pool) (ss : List KeptSlot) (x : KeptSlot) (used s i : ℕ) (r : Row) → s < length ss → x.owner ≡ (get_or ss s no_slot).owner → RowFits p ss used i r → RowFits p (set ss s x) used i r
fits_put p ss x used s i (row.Slot t) l e h = (h.0, owner_put ss x s t i l e h.1)
fits_put p ss x used s i (row.Leaf k) l e h = h
fits_put p ss x used s i (row.Bytes b) l e h = h
fits_put p ss x used s i (row.Array vs) l e h = h
fits_put p ss x used s i (row.NamedArray ps) l e h = h
fits_put p ss x used s i (row.Object t vs) l e h = h
fits_put p ss x used s i (row.NamedObject t ps) l e h = h
fits_put p ss x used s i (row.Wrapper c vs) l e h = h
fits_put p ss x used s i (row.Values f y vs) l e h = h
fits_put p ss x used s i (row.Both k) l e h = h
fits_put p ss x used s i (row.Dictionary w es) l e h = h

pub rows_put : (p : Pool) (ss ss' : List KeptSlot) (x : KeptSlot) (used s : ℕ) (rows : List Row) → ss' ≡ set ss s x → s < length ss → x.owner ≡ (get_or ss s no_slot).owner → AreRows p ss used rows → AreRows p ss' used rows
rows_put p ss ss' x used s rows f l e a =
    subst (λ (w : List KeptSlot). AreRows p w used rows) (sym f) (record { slots = let m = a.slots in omega (arith, length-set ss s x); fits = λ i m. fits_put p ss x used s i (get_or rows i no_row) l e (a.fits i m) })

pub nodes_put : (p : Pool) (ss ss' : List KeptSlot) (x : KeptSlot) (used s i : ℕ) (rows : List Row) → ss' ≡ set ss s x → i < length rows → get_or rows i no_row ≡ row.Slot s → AreRows p ss used rows → row_nodes p ss' rows ≡ set (row_nodes p ss rows) i x.node
nodes_put p ss ss' x used s i rows f l e a =
    let own = (slot_of p ss used rows i s l e a).1 in
    let within = slot_within p ss used rows i s l e a in
    ap (λ w. row_nodes p w rows) f ∙ ap (row_nodes p (set ss s x)) (sym (set-get_or rows i no_row))
    ∙ rows_set (row_node p ss) (row_node p (set ss s x)) rows i (get_or rows i no_row) l (λ j n m. shows_other p ss x used s i j (get_or rows j no_row) n own (a.fits j m))
    ∙ ap (set (row_nodes p ss rows) i) (ap (row_node p (set ss s x)) e ∙ ap (λ (y : KeptSlot). y.node) (get_or-set_same ss s x no_slot within))

-- A node moves from its slot to the pools.

fits_left : (p q : Pool) (ss : List KeptSlot) (x : KeptSlot) (used used' s i j : ℕ) (r : Row) → j ≢ i → Grows p q → (get_or ss s no_slot).owner ≡ Some i → ((k : ℕ) → used' ≤ k → k < used → (get_or (set ss s x) k no_slot).owner ≡ None) → RowFits p ss used j r → RowFits q (set ss s x) used' j r
fits_left p q ss x used used' s i j (row.Slot t) n g e u h =
    let own : (get_or (set ss s x) t no_slot).owner ≡ Some j = ap (λ (y : KeptSlot). y.owner) (get_or-set_other ss s t x no_slot (other_slot ss s t i j n e h.1)) ∙ h.1 in
    (not_le t used' (λ l. let b : None ≡ Some j = sym (u t l h.0) ∙ own in cc), own)
fits_left p q ss x used used' s i j (row.Leaf k) n g e u h = row_grows p q (row.Leaf k) g h
fits_left p q ss x used used' s i j (row.Bytes b) n g e u h = row_grows p q (row.Bytes b) g h
fits_left p q ss x used used' s i j (row.Array vs) n g e u h = row_grows p q (row.Array vs) g h
fits_left p q ss x used used' s i j (row.NamedArray ps) n g e u h = row_grows p q (row.NamedArray ps) g h
fits_left p q ss x used used' s i j (row.Object t vs) n g e u h = row_grows p q (row.Object t vs) g h
fits_left p q ss x used used' s i j (row.NamedObject t ps) n g e u h = row_grows p q (row.NamedObject t ps) g h
fits_left p q ss x used used' s i j (row.Wrapper c vs) n g e u h = row_grows p q (row.Wrapper c vs) g h
fits_left p q ss x used used' s i j (row.Values f y vs) n g e u h = row_grows p q (row.Values f y vs) g h
fits_left p q ss x used used' s i j (row.Both k) n g e u h = row_grows p q (row.Both k) g h
fits_left p q ss x used used' s i j (row.Dictionary w es) n g e u h = row_grows p q (row.Dictionary w es) g h

pub rows_settle : (p q : Pool) (ss ss' : List KeptSlot) (x : KeptSlot) (used used' s i : ℕ) (rows rows' : List Row) (n : StoredNode) (r : Row) → ss' ≡ set ss s x → rows' ≡ set rows i r → i < length rows → get_or rows i no_row ≡ row.Slot s → used' ≤ used → ((k : ℕ) → used' ≤ k → k < used → (get_or ss' k no_slot).owner ≡ None) → Grows p q → Keeps p q n r → AreRows p ss used rows → AreRows q ss' used' rows'
rows_settle p q ss ss' x used used' s i rows rows' n r f e l at few left g k a =
    let own = (slot_of p ss used rows i s l at a).1 in
    let none : (k : ℕ) → used' ≤ k → k < used → (get_or (set ss s x) k no_slot).owner ≡ None = λ m b c. ap (λ w. (get_or w m no_slot).owner) (sym f) ∙ left m b c in
    subst (λ (w : List KeptSlot). AreRows q w used' rows') (sym f) (subst (AreRows q (set ss s x) used') (sym e) (record {
      slots = let m = a.slots in omega (arith, length-set ss s x);
      fits = at_set (RowFits q (set ss s x) used') rows i r (λ j d m. fits_left p q ss x used used' s i j (get_or rows j no_row) d g own none (a.fits j m)) (fits_inside q (set ss s x) used' i r k.inside);
    }))
  where
    at_set : (P : ℕ → Row → Type 0) (rows : List Row) (i : ℕ) (r : Row) → ((j : ℕ) → j ≢ i → j < length rows → P j (get_or rows j no_row)) → P i r → (j : ℕ) → j < length (set rows i r) → P j (get_or (set rows i r) j no_row)
    at_set P [] i r h l j m = absurd (omega arith)
    at_set P (x ∷ rows) zero r h l zero m = l
    at_set P (x ∷ rows) zero r h l (suc j) m = h (suc j) (λ e. absurd (omega (arith, e))) m
    at_set P (x ∷ rows) (suc i) r h l zero m = h 0 (λ e. absurd (omega (arith, e))) (omega arith)
    at_set P (x ∷ rows) (suc i) r h l (suc j) m = at_set (λ k. P (suc k)) rows i r (λ k d b. h (suc k) (λ e. d (omega (arith, e))) (omega arith)) l j (omega arith)

pub nodes_settle : (p q : Pool) (ss ss' : List KeptSlot) (x : KeptSlot) (used s i : ℕ) (rows rows' : List Row) (r : Row) → ss' ≡ set ss s x → rows' ≡ set rows i r → i < length rows → get_or rows i no_row ≡ row.Slot s → Grows p q → Keeps p q (get_or (row_nodes p ss rows) i no_stored) r → AreRows p ss used rows → row_nodes q ss' rows' ≡ row_nodes p ss rows
nodes_settle p q ss ss' x used s i rows rows' r f e l at g k a =
    ap (λ w. row_nodes q w rows') f ∙ ap (row_nodes q (set ss s x)) e
    ∙ rows_set (row_node p ss) (row_node q (set ss s x)) rows i r l (λ j n m. both j n m)
    ∙ ap (set (row_nodes p ss rows) i) (shows_inside q (set ss s x) r k.inside ∙ k.shows) ∙ set-get_or (row_nodes p ss rows) i no_stored
  where
    both : (j : ℕ) → j ≢ i → j < length rows → row_node q (set ss s x) (get_or rows j no_row) ≡ row_node p ss (get_or rows j no_row)
    both j n m =
        shows_grows p q (set ss s x) used j (get_or rows j no_row) g (fits_other p ss x used s i j (get_or rows j no_row) n (slot_of p ss used rows i s l at a).1 (a.fits j m))
        ∙ shows_other p ss x used s i j (get_or rows j no_row) n (slot_of p ss used rows i s l at a).1 (a.fits j m)

-- The first rows alone.

pub rows_take : (p : Pool) (ss : List KeptSlot) (used n : ℕ) (rows rows' : List Row) → rows' ≡ take n rows → AreRows p ss used rows → AreRows p ss used rows'
rows_take p ss used n rows rows' e a = subst (AreRows p ss used) (sym e) (record { slots = a.slots; fits = at_take (RowFits p ss used) n rows a.fits })
  where
    at_take : (P : ℕ → Row → Type 0) (n : ℕ) (rows : List Row) → ((i : ℕ) → i < length rows → P i (get_or rows i no_row)) → (i : ℕ) → i < length (take n rows) → P i (get_or (take n rows) i no_row)
    at_take P zero rows h i l = absurd (omega arith)
    at_take P (suc n) [] h i l = absurd (omega arith)
    at_take P (suc n) (r ∷ rows) h zero l = h 0 (omega arith)
    at_take P (suc n) (r ∷ rows) h (suc i) l = at_take (λ k. P (suc k)) n rows (λ k b. h (suc k) (omega arith)) i (omega arith)

pub nodes_take : (p : Pool) (ss : List KeptSlot) (n : ℕ) (rows rows' : List Row) (ns : List StoredNode) → rows' ≡ take n rows → row_nodes p ss rows ≡ ns → row_nodes p ss rows' ≡ take n ns
nodes_take p ss n rows rows' ns e v = ap (row_nodes p ss) e ∙ sym (take-map (row_node p ss) n rows) ∙ ap (take n) v

-- Where no slot that is used has an open node, no node is open.

shut_in : (p : Pool) (ss : List KeptSlot) (used i : ℕ) (r : Row) → ((k : ℕ) → k < used → (get_or ss k no_slot).node.is_open ≡ false) → RowFits p ss used i r → (row_node p ss r).is_open ≡ false
shut_in p ss used i (row.Slot s) h f = h s f.0
shut_in p ss used i (row.Leaf k) h f = refl
shut_in p ss used i (row.Bytes b) h f = refl
shut_in p ss used i (row.Array vs) h f = refl
shut_in p ss used i (row.NamedArray ps) h f = refl
shut_in p ss used i (row.Object t vs) h f = refl
shut_in p ss used i (row.NamedObject t ps) h f = refl
shut_in p ss used i (row.Wrapper c vs) h f = refl
shut_in p ss used i (row.Values b y vs) h f = refl
shut_in p ss used i (row.Both k) h f = refl
shut_in p ss used i (row.Dictionary w es) h f = refl

pub all_shut : (p : Pool) (ss : List KeptSlot) (used : ℕ) (rows : List Row) (ns : List StoredNode) → row_nodes p ss rows ≡ ns → ((k : ℕ) → k < used → (get_or ss k no_slot).node.is_open ≡ false) → AreRows p ss used rows → (i : ℕ) → i < length ns → IsClosedAt ns i
all_shut p ss used rows ns v h a i l =
    ap (λ w. (get_or w i no_stored).is_open) (sym v) ∙ ap (λ (n : StoredNode). n.is_open) (node_at_row p ss rows i within) ∙ shut_in p ss used i (get_or rows i no_row) h (a.fits i within)
  where
    within : i < length rows
    within = omega (arith, ap length v, length-map rows (row_node p ss))

-- What a call leaves after an end.

pub on_err : {T E P : Type 0} (r : Result T E) → P → OnErr r P
on_err (Ok x) p = tt
on_err (Err e) p = p

-- A node in a slot, as it is read.

module _ (p : Pool) (ss : List KeptSlot) (used : ℕ) (rows : List Row) (ns : List StoredNode) (i s : ℕ) (r : Row) (y : KeptSlot) (v : row_nodes p ss rows ≡ ns) (l : i < length ns) (a : AreRows p ss used rows) (read : r ≡ get_or rows i r) (is : r ≡ row.Slot s) (slot : y ≡ get_or ss s y) where
  within : i < length rows
  within = omega (arith, ap length v, length-map rows (row_node p ss))

  row_is : get_or rows i no_row ≡ row.Slot s
  row_is = sym (get_or_read rows i r within read no_row) ∙ is

  pub slot_there : s < length ss
  slot_there = slot_within p ss used rows i s within row_is a

  slot_is : y ≡ get_or ss s no_slot
  slot_is = get_or_read ss s y slot_there slot no_slot

  pub node_is : y.node ≡ get_or ns i no_stored
  node_is = ap (λ (x : KeptSlot). x.node) slot_is ∙ ap (row_node p ss) (sym row_is) ∙ sym (node_at_row p ss rows i within) ∙ ap (λ w. get_or w i no_stored) v

  pub put_fits : (x : KeptSlot) → x.owner ≡ y.owner → AreRows p (set ss s x) used rows
  put_fits x e = rows_put p ss (set ss s x) x used s rows refl slot_there (e ∙ ap (λ (z : KeptSlot). z.owner) slot_is) a

  pub put_shows : (x : KeptSlot) → row_nodes p (set ss s x) rows ≡ set ns i x.node
  put_shows x = nodes_put p ss (set ss s x) x used s i rows refl within row_is a ∙ ap (λ w. set w i x.node) v

  pub put_same : (x : KeptSlot) → x.node ≡ y.node → row_nodes p (set ss s x) rows ≡ ns
  put_same x e = put_shows x ∙ ap (set ns i) (e ∙ node_is) ∙ set-get_or ns i no_stored

  module _ (q : Pool) (g : Grows p q) (r' : Row) (k : Keeps p q y.node r') (x : KeptSlot) where
    pub settle_fits : (used' : ℕ) → used' ≤ used → ((k : ℕ) → used' ≤ k → k < used → (get_or (set ss s x) k no_slot).owner ≡ None) → AreRows q (set ss s x) used' (set rows i r')
    settle_fits used' few left = rows_settle p q ss (set ss s x) x used used' s i rows (set rows i r') y.node r' refl refl within row_is few left g k a

    pub settle_shows : row_nodes q (set ss s x) (set rows i r') ≡ ns
    settle_shows =
        nodes_settle p q ss (set ss s x) x used s i rows (set rows i r') r' refl refl within row_is g (subst (λ n. Keeps p q n r') (node_is ∙ ap (λ w. get_or w i no_stored) (sym v)) k) a ∙ v
