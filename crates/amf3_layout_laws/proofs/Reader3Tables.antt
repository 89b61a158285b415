-- What names an entry of an arena, and the tables of one, stay as the arena changes by one step of reading; and how an arena grows.
use Rattle.std.proofs.Common.{◌≡◌, ℕ, ◌<◌, false, List, [], ◌∷◌, ◌++◌, length, set, get_or, refl, sym, ap, ◌∙◌, arith, append_assoc, length-append}
use Rattle.std.proofs.lemmas.List.{append-nil, length-set, get_or_append_left}
use Rattle.std.proofs.Math.Seq.{get_or-append_seam, set-append_seam}
use Rattle.amf_graph.specs.declared.value.Value.{Value as Stored}
use Rattle.amf_graph.specs.declared.wrapped.Wrapped.{Wrapped}
use Rattle.amf_graph.specs.Arena.{StoredTraits, StoredHead, array, StoredNode, Arena, text_at, IsTextId, Names, HeadNames, IsTraitsIn, IsBuilt}
use Rattle.amf_graph.specs.Building.{no_stored, stored_at, kept_text, kept_traits, shut}
use Rattle.amf3_spelling.specs.KeptTables.{KeptEntry, plain, external, KeptTables, IsEntryIn, AreTablesIn}
use Rattle.amf3_spelling.specs.Reads3.{Grows}
use Rattle.amf3_layout_laws.specs.Layout3State.{state_of}
use Rattle.amf3_layout_laws.proofs.Layout3Contents.{all_append, Larger, larger_itself, text_id, head_more, names_more, traits_in, tables_more, good_node}
use Rattle.amf3_layout_laws.proofs.Layout3Reads.{good_start}

-- Each step leaves an arena that is larger.

pub larger_text : (a : Arena) (x : List ℕ) → Larger a (kept_text a x)
larger_text a x = record { more_texts = x ∷ []; texts = refl; more_traits = []; traits = sym (append-nil a.traits); nodes = omega arith }

pub larger_traits : (a : Arena) (st : StoredTraits) → Larger a (kept_traits a st)
larger_traits a st = record { more_texts = []; texts = sym (append-nil a.texts); more_traits = st ∷ []; traits = refl; nodes = omega arith }

pub larger_node : (a : Arena) (n : StoredNode) → Larger a (record { texts = a.texts; traits = a.traits; nodes = a.nodes ++ n ∷ [] })
larger_node a n = larger_itself a (record { texts = a.texts; traits = a.traits; nodes = a.nodes ++ n ∷ [] }) refl refl (omega (arith, length-append a.nodes (n ∷ [])))

pub larger_changed : (a : Arena) (i : ℕ) (n : StoredNode) → Larger a (record { texts = a.texts; traits = a.traits; nodes = set a.nodes i n })
larger_changed a i n = larger_itself a (record { texts = a.texts; traits = a.traits; nodes = set a.nodes i n }) refl refl (omega (arith, length-set a.nodes i n))

-- The tables.

pub tables_after_text : (a : Arena) (t : KeptTables) (x : List ℕ) → IsBuilt a → AreTablesIn a t → AreTablesIn (kept_text a x) t
tables_after_text a t x b v = tables_more a (kept_text a x) t (larger_text a x) b.traits v

-- the new text is in the table
pub tables_with_text : (a : Arena) (t : KeptTables) (x : List ℕ) → IsBuilt a → AreTablesIn a t → AreTablesIn (kept_text a x) (record { texts = t.texts ++ length a.texts ∷ []; traits = t.traits; nodes = t.nodes })
tables_with_text a t x b v =
    let w = tables_after_text a t x b v in
    record { texts = all_append (IsTextId (kept_text a x)) t.texts (length a.texts ∷ []) w.texts (omega (arith, length-append a.texts (x ∷ [])), tt); traits = w.traits; nodes = w.nodes; distinct = w.distinct }

pub tables_after_traits : (a : Arena) (t : KeptTables) (st : StoredTraits) → IsBuilt a → AreTablesIn a t → AreTablesIn (kept_traits a st) t
tables_after_traits a t st b v = tables_more a (kept_traits a st) t (larger_traits a st) b.traits v

tables_with_entry : (a : Arena) (t : KeptTables) (st : StoredTraits) (e : KeptEntry) → IsBuilt a → AreTablesIn a t → IsEntryIn (kept_traits a st) e → AreTablesIn (kept_traits a st) (record { texts = t.texts; traits = t.traits ++ e ∷ []; nodes = t.nodes })
tables_with_entry a t st e b v h =
    let w = tables_after_traits a t st b v in
    record { texts = w.texts; traits = all_append (IsEntryIn (kept_traits a st)) t.traits (e ∷ []) w.traits (h, tt); nodes = w.nodes; distinct = w.distinct }

-- the entry of traits given inline
pub entry_plain : (a : Arena) (st : StoredTraits) → IsEntryIn (kept_traits a st) (plain (length a.traits))
entry_plain a st = omega (arith, length-append a.traits (st ∷ []))

pub tables_with_plain : (a : Arena) (t : KeptTables) (st : StoredTraits) → IsBuilt a → AreTablesIn a t → AreTablesIn (kept_traits a st) (record { texts = t.texts; traits = t.traits ++ plain (length a.traits) ∷ []; nodes = t.nodes })
tables_with_plain a t st b v = tables_with_entry a t st (plain (length a.traits)) b v (entry_plain a st)

-- the entry of an externalizable class
pub entry_external : (a : Arena) (st : StoredTraits) (c : Wrapped) → IsEntryIn (kept_traits a st) (external (length a.traits) c)
entry_external a st c = omega (arith, length-append a.traits (st ∷ []))

pub tables_with_external : (a : Arena) (t : KeptTables) (i : ℕ) (c : Wrapped) → IsBuilt a → AreTablesIn a t
    → AreTablesIn (kept_traits a (record { class = i; dynamic = false; sealed = [] })) (record { texts = t.texts; traits = t.traits ++ external (length a.traits) c ∷ []; nodes = t.nodes })
tables_with_external a t i c b v =
    let st : StoredTraits = record { class = i; dynamic = false; sealed = [] } in
    tables_with_entry a t st (external (length a.traits) c) b v (entry_external a st c)

pub tables_after_node : (a : Arena) (t : KeptTables) (n : StoredNode) → IsBuilt a → AreTablesIn a t → AreTablesIn (record { texts = a.texts; traits = a.traits; nodes = a.nodes ++ n ∷ [] }) t
tables_after_node a t n b v = tables_more a (record { texts = a.texts; traits = a.traits; nodes = a.nodes ++ n ∷ [] }) t (larger_node a n) b.traits v

-- the new node is in the table, where it stood nowhere
pub tables_with_node : (a : Arena) (t : KeptTables) (n : StoredNode) → IsBuilt a → AreTablesIn a t
    → AreTablesIn (record { texts = a.texts; traits = a.traits; nodes = a.nodes ++ n ∷ [] }) (record { texts = t.texts; traits = t.traits; nodes = t.nodes ++ length a.nodes ∷ [] })
tables_with_node a t n b v =
    let w = tables_after_node a t n b v in
    let z = a.nodes ++ n ∷ [] in
    record { texts = w.texts; traits = w.traits; nodes = all_append (λ i. i < length z) t.nodes (length a.nodes ∷ []) w.nodes (omega (arith, length-append a.nodes (n ∷ [])), tt); distinct = (good_node (state_of a t) array (good_start a t b v) tt (λ e. cc)).tables.distinct }

pub tables_after_change : (a : Arena) (t : KeptTables) (i : ℕ) (n : StoredNode) → IsBuilt a → AreTablesIn a t → AreTablesIn (record { texts = a.texts; traits = a.traits; nodes = set a.nodes i n }) t
tables_after_change a t i n b v = tables_more a (record { texts = a.texts; traits = a.traits; nodes = set a.nodes i n }) t (larger_changed a i n) b.traits v

-- What names an entry still does. (The texts, and so their numbers, stay as they are but for a new text.)

module _ (a : Arena) (x : List ℕ) where
  pub text_id_after_text : (i : ℕ) → IsTextId a i → IsTextId (kept_text a x) i
  text_id_after_text = text_id a (kept_text a x) (larger_text a x)

  -- the new text's place
  pub new_text_id : IsTextId (kept_text a x) (length a.texts)
  new_text_id = omega (arith, length-append a.texts (x ∷ []))

  pub new_text_there : text_at (kept_text a x) (length a.texts) ≡ x
  new_text_there = get_or-append_seam a.texts x [] []

  pub head_names_after_text : (h : StoredHead) → HeadNames a h → HeadNames (kept_text a x) h
  head_names_after_text = head_more a (kept_text a x) (larger_text a x)

  pub names_after_text : (v : Stored) → Names a v → Names (kept_text a x) v
  names_after_text = names_more a (kept_text a x) (larger_text a x)

  pub traits_in_after_text : (st : StoredTraits) → IsTraitsIn a st → IsTraitsIn (kept_text a x) st
  traits_in_after_text = traits_in a (kept_text a x) (larger_text a x)

module _ (a : Arena) (k : StoredTraits) where
  pub text_id_after_traits : (i : ℕ) → IsTextId a i → IsTextId (kept_traits a k) i
  text_id_after_traits i h = h

  pub head_names_after_traits : (h : StoredHead) → HeadNames a h → HeadNames (kept_traits a k) h
  head_names_after_traits = head_more a (kept_traits a k) (larger_traits a k)

  pub names_after_traits : (v : Stored) → Names a v → Names (kept_traits a k) v
  names_after_traits = names_more a (kept_traits a k) (larger_traits a k)

  pub traits_in_after_traits : (st : StoredTraits) → IsTraitsIn a st → IsTraitsIn (kept_traits a k) st
  traits_in_after_traits = traits_in a (kept_traits a k) (larger_traits a k)

module _ (a : Arena) (n : StoredNode) where
  pub text_id_after_node : (i : ℕ) → IsTextId a i → IsTextId (record { texts = a.texts; traits = a.traits; nodes = a.nodes ++ n ∷ [] }) i
  text_id_after_node i h = h

  pub head_names_after_node : (h : StoredHead) → HeadNames a h → HeadNames (record { texts = a.texts; traits = a.traits; nodes = a.nodes ++ n ∷ [] }) h
  head_names_after_node = head_more a (record { texts = a.texts; traits = a.traits; nodes = a.nodes ++ n ∷ [] }) (larger_node a n)

  pub names_after_node : (v : Stored) → Names a v → Names (record { texts = a.texts; traits = a.traits; nodes = a.nodes ++ n ∷ [] }) v
  names_after_node = names_more a (record { texts = a.texts; traits = a.traits; nodes = a.nodes ++ n ∷ [] }) (larger_node a n)

  pub traits_in_after_node : (st : StoredTraits) → IsTraitsIn a st → IsTraitsIn (record { texts = a.texts; traits = a.traits; nodes = a.nodes ++ n ∷ [] }) st
  traits_in_after_node = traits_in a (record { texts = a.texts; traits = a.traits; nodes = a.nodes ++ n ∷ [] }) (larger_node a n)

module _ (a : Arena) (i : ℕ) (n : StoredNode) where
  pub text_id_after_change : (j : ℕ) → IsTextId a j → IsTextId (record { texts = a.texts; traits = a.traits; nodes = set a.nodes i n }) j
  text_id_after_change j h = h

  pub head_names_after_change : (h : StoredHead) → HeadNames a h → HeadNames (record { texts = a.texts; traits = a.traits; nodes = set a.nodes i n }) h
  head_names_after_change = head_more a (record { texts = a.texts; traits = a.traits; nodes = set a.nodes i n }) (larger_changed a i n)

  pub names_after_change : (v : Stored) → Names a v → Names (record { texts = a.texts; traits = a.traits; nodes = set a.nodes i n }) v
  names_after_change = names_more a (record { texts = a.texts; traits = a.traits; nodes = set a.nodes i n }) (larger_changed a i n)

  pub traits_in_after_change : (st : StoredTraits) → IsTraitsIn a st → IsTraitsIn (record { texts = a.texts; traits = a.traits; nodes = set a.nodes i n }) st
  traits_in_after_change = traits_in a (record { texts = a.texts; traits = a.traits; nodes = set a.nodes i n }) (larger_changed a i n)

-- How an arena grows.

pub grows_itself : (a : Arena) → Grows a a
grows_itself a = record { more_texts = []; texts = sym (append-nil a.texts); more_traits = []; traits = sym (append-nil a.traits); more_nodes = []; nodes = sym (append-nil a.nodes); closed = tt }

pub grows_twice : (a b c : Arena) → Grows a b → Grows b c → Grows a c
grows_twice a b c g h = record {
  more_texts = g.more_texts ++ h.more_texts;
  texts = h.texts ∙ ap (λ l. l ++ h.more_texts) g.texts ∙ append_assoc a.texts g.more_texts h.more_texts;
  more_traits = g.more_traits ++ h.more_traits;
  traits = h.traits ∙ ap (λ l. l ++ h.more_traits) g.traits ∙ append_assoc a.traits g.more_traits h.more_traits;
  more_nodes = g.more_nodes ++ h.more_nodes;
  nodes = h.nodes ∙ ap (λ l. l ++ h.more_nodes) g.nodes ∙ append_assoc a.nodes g.more_nodes h.more_nodes;
  closed = all_append (λ n. n.is_open ≡ false) g.more_nodes h.more_nodes g.closed h.closed;
}

pub grows_text : (a : Arena) (x : List ℕ) → Grows a (kept_text a x)
grows_text a x = record { more_texts = x ∷ []; texts = refl; more_traits = []; traits = sym (append-nil a.traits); more_nodes = []; nodes = sym (append-nil a.nodes); closed = tt }

pub grows_traits : (a : Arena) (st : StoredTraits) → Grows a (kept_traits a st)
grows_traits a st = record { more_texts = []; texts = sym (append-nil a.texts); more_traits = st ∷ []; traits = refl; more_nodes = []; nodes = sym (append-nil a.nodes); closed = tt }

-- a node that is closed from the start
pub grows_node : (a : Arena) (n : StoredNode) → n.is_open ≡ false → Grows a (record { texts = a.texts; traits = a.traits; nodes = a.nodes ++ n ∷ [] })
grows_node a n c = record { more_texts = []; texts = sym (append-nil a.texts); more_traits = []; traits = sym (append-nil a.traits); more_nodes = n ∷ []; nodes = refl; closed = (c, tt) }

pub grows_larger : (a b : Arena) → Grows a b → Larger a b
grows_larger a b g = record { more_texts = g.more_texts; texts = g.texts; more_traits = g.more_traits; traits = g.traits; nodes = omega (arith, ap length g.nodes, length-append a.nodes g.more_nodes) }

module _ (a b : Arena) (g : Grows a b) where
  pub text_id_after_growth : (i : ℕ) → IsTextId a i → IsTextId b i
  text_id_after_growth = text_id a b (grows_larger a b g)

  pub head_names_after_growth : (h : StoredHead) → HeadNames a h → HeadNames b h
  head_names_after_growth = head_more a b (grows_larger a b g)

  pub names_after_growth : (v : Stored) → Names a v → Names b v
  names_after_growth = names_more a b (grows_larger a b g)

  pub traits_in_after_growth : (st : StoredTraits) → IsTraitsIn a st → IsTraitsIn b st
  traits_in_after_growth = traits_in a b (grows_larger a b g)

  pub tables_after_growth : (t : KeptTables) → IsBuilt a → AreTablesIn a t → AreTablesIn b t
  tables_after_growth t h v = tables_more a b t (grows_larger a b g) h.traits v

-- what was there is as it was
pub grows_stays : (a b : Arena) (i : ℕ) → Grows a b → i < length a.nodes → stored_at b i ≡ stored_at a i
grows_stays a b i g h = ap (λ l. get_or l i no_stored) g.nodes ∙ get_or_append_left a.nodes g.more_nodes no_stored i h

-- Behind a node that was opened at the end: it is as it was, it may be changed in its place, and once it is closed the arena has only grown.

module _ (a : Arena) (q : StoredNode) (b : Arena) (g : Grows (record { texts = a.texts; traits = a.traits; nodes = a.nodes ++ q ∷ [] }) b) where
  nodes_are : b.nodes ≡ a.nodes ++ q ∷ g.more_nodes
  nodes_are = g.nodes ∙ append_assoc a.nodes (q ∷ []) g.more_nodes

  pub open_there : stored_at b (length a.nodes) ≡ q
  open_there = ap (λ l. get_or l (length a.nodes) no_stored) nodes_are ∙ get_or-append_seam a.nodes q g.more_nodes no_stored

  pub open_place : length a.nodes < length b.nodes
  open_place = omega (arith, ap length nodes_are, length-append a.nodes (q ∷ g.more_nodes))

  set_there : (f : StoredNode → StoredNode) → set b.nodes (length a.nodes) (f (stored_at b (length a.nodes))) ≡ a.nodes ++ f q ∷ g.more_nodes
  set_there f = ap (λ n. set b.nodes (length a.nodes) (f n)) open_there ∙ ap (λ l. set l (length a.nodes) (f q)) nodes_are ∙ set-append_seam a.nodes q g.more_nodes (f q)

  -- a part is put into it
  pub grows_changed : (f : StoredNode → StoredNode) → Grows (record { texts = a.texts; traits = a.traits; nodes = a.nodes ++ f q ∷ [] }) (record { texts = b.texts; traits = b.traits; nodes = set b.nodes (length a.nodes) (f (stored_at b (length a.nodes))) })
  grows_changed f = record { more_texts = g.more_texts; texts = g.texts; more_traits = g.more_traits; traits = g.traits; more_nodes = g.more_nodes; nodes = set_there f ∙ sym (append_assoc a.nodes (f q ∷ []) g.more_nodes); closed = g.closed }

  pub grows_closed : (f : StoredNode → StoredNode) → (f q).is_open ≡ false → Grows a (record { texts = b.texts; traits = b.traits; nodes = set b.nodes (length a.nodes) (f (stored_at b (length a.nodes))) })
  grows_closed f c = record { more_texts = g.more_texts; texts = g.texts; more_traits = g.more_traits; traits = g.traits; more_nodes = f q ∷ g.more_nodes; nodes = set_there f; closed = (c, g.closed) }

  pub grows_shut : Grows a (record { texts = b.texts; traits = b.traits; nodes = set b.nodes (length a.nodes) (shut (stored_at b (length a.nodes))) })
  grows_shut = grows_closed shut refl
