-- A part is put into the open node, behind values that were read.
use Rattle.std.proofs.Common.{◌≡◌, ℕ, ◌+◌, ◌≤◌, ◌<◌, true, List, [], ◌∷◌, ◌++◌, length, refl, sym, ap, ◌∙◌, arith, subst, length-append}
use Rattle.std.proofs.lemmas.List.{append-nil, get_or-set_same, length-set}
use Rattle.amf_graph.specs.declared.value.Value.{Value as Stored}
use Rattle.amf_graph.specs.declared.part.Part.{Part}
use Rattle.amf_graph.specs.declared.part.Part.TheVariants.{Item, Named, Entry}
use Rattle.amf_graph.specs.Arena.{StoredHead, xml_document, date, array, object, wrapper, xml, bytes, ints, uints, doubles, values, dictionary, StoredNode, Arena, IsBuilt, head_content}
use Rattle.amf_graph.specs.Bounds.{parts_of}
use Rattle.amf_graph.specs.Building.{kept_node, no_stored, stored_at, changed, more_part, PartNames, HasRoom, size_of}
use Rattle.amf_graph.proofs.Built.{built_changed, stands}
use Rattle.amf_graph.proofs.Begun.{part_in}
use Rattle.amf3_spelling.specs.KeptTables.{KeptTables, AreTablesIn}
use Rattle.amf3_spelling.specs.Reads3.{Grows}
use Rattle.amf3_layout_laws.proofs.Layout3Contents.{Larger, larger_twice, head_stays}
use Rattle.amf3_layout_laws.proofs.Reader3Tables.{grows_twice, grows_larger, grows_stays, tables_after_change, larger_changed, open_place}
use Rattle.amf3_layout_laws.proofs.Reader3Calls.{part_put}
use Rattle.amf3_read.specs.Filling.{with_more, IsOpened}

-- the names and the values that a part is
abbrev pub part_names : Part → List (ℕ × Stored)
part_names (Item v) = []
part_names (Named x v) = (x.0, v) ∷ []
part_names (Entry k v) = []

abbrev pub part_values : Part → List Stored
part_values (Item v) = v ∷ []
part_values (Named x v) = []
part_values (Entry k v) = k ∷ v ∷ []

node_is : (n : StoredNode) (ns ms : List (ℕ × Stored)) (vs ws : List Stored) → ns ≡ ms → vs ≡ ws → (let x : StoredNode = record { is_open = n.is_open; head = n.head; names = ns; values = vs } in x) ≡ (let x : StoredNode = record { is_open = n.is_open; head = n.head; names = ms; values = ws } in x)
node_is n ns ms vs ws e f = ap (λ l. let x : StoredNode = record { is_open = n.is_open; head = n.head; names = l; values = vs } in x) e ∙ ap (λ l. let x : StoredNode = record { is_open = n.is_open; head = n.head; names = ms; values = l } in x) f

pub part_more : (p : Part) (n : StoredNode) → more_part p n ≡ with_more n (part_names p) (part_values p)
part_more (Item v) n = node_is n n.names (n.names ++ []) (n.values ++ v ∷ []) (n.values ++ v ∷ []) (sym (append-nil n.names)) refl
part_more (Named x v) n = node_is n (n.names ++ (x.0, v) ∷ []) (n.names ++ (x.0, v) ∷ []) n.values (n.values ++ []) refl (sym (append-nil n.values))
part_more (Entry k v) n = node_is n n.names (n.names ++ []) (n.values ++ k ∷ v ∷ []) (n.values ++ k ∷ v ∷ []) (sym (append-nil n.names)) refl

parts_few : (h : StoredHead) (n k : ℕ) → parts_of h (n + k) ≤ parts_of h n + k
parts_few (xml_document x) n k = omega arith
parts_few (date p) n k = omega arith
parts_few array n k = omega arith
parts_few (object t) n k = omega arith
parts_few (wrapper c) n k = omega arith
parts_few (xml x) n k = omega arith
parts_few (bytes x) n k = omega arith
parts_few (ints f ns) n k = omega arith
parts_few (uints f ns) n k = omega arith
parts_few (doubles f ns) n k = omega arith
parts_few (values f x) n k = omega arith
parts_few (dictionary f) n k = omega arith

pub more_size : (n : StoredNode) (ns : List (ℕ × Stored)) (vs : List Stored) → size_of (with_more n ns vs) ≤ size_of n + length ns + length vs
more_size n ns vs =
    let e : parts_of n.head (length (n.values ++ vs)) ≡ parts_of n.head (length n.values + length vs) = ap (parts_of n.head) (length-append n.values vs) in
    let f = parts_few n.head (length n.values) (length vs) in
    omega (arith, length-append n.names ns)

-- what stands in the place that was changed
pub there_changed : (a : Arena) (f : StoredNode → StoredNode) (i : ℕ) → i < length a.nodes → stored_at (changed f i a) i ≡ f (stored_at a i)
there_changed a f i lt = get_or-set_same a.nodes i (f (stored_at a i)) no_stored lt

-- the open node is as it was after values that were read behind it
module _ (i left : ℕ) (b b1 : Arena) (o : IsOpened b i left) (g : Grows b b1) where
  still_there : i < length b1.nodes
  still_there = subst (λ j. j < length b1.nodes) (sym o.place) (open_place o.before (stored_at b i) b1 (grows_twice (kept_node o.before (stored_at b i)) b b1 o.within g))

  was_there : i < length b.nodes
  was_there = subst (λ j. j < length b.nodes) (sym o.place) (open_place o.before (stored_at b i) b o.within)

  pub there : i < length b1.nodes
  there = still_there

  pub stays : stored_at b1 i ≡ stored_at b i
  stays = grows_stays b b1 i g was_there

  pub still_open : (stored_at b1 i).is_open ≡ true
  still_open = ap (λ n. n.is_open) stays ∙ o.opened

  pub same_head : IsBuilt b → head_content b1 (stored_at b1 i).head ≡ head_content b (stored_at b i).head
  same_head h = ap (λ n. head_content b1 n.head) stays ∙ head_stays b b1 (grows_larger b b1 g) (stored_at b i).head h.traits (stands b i h was_there).head

  -- and then a part is put into it
  module _ (p : Part) (b2 : Arena) (is : b2 ≡ changed (more_part p) i b1) where
    pub put_node : stored_at b2 i ≡ with_more (stored_at b i) (part_names p) (part_values p)
    put_node = ap (λ a. stored_at a i) is ∙ there_changed b1 (more_part p) i there ∙ ap (more_part p) stays ∙ part_more p (stored_at b i)

    pub put_built : IsBuilt b1 → HasRoom b1 (stored_at b1 i) p → PartNames b1 p → IsBuilt b2
    put_built h r n = subst IsBuilt (sym is) (built_changed b1 (more_part p) i h (part_in b1 (stored_at b1 i) p (stands b1 i h there) still_open r n))

    pub put_tables : (u : KeptTables) → IsBuilt b1 → AreTablesIn b1 u → AreTablesIn b2 u
    put_tables u h v = subst (λ a. AreTablesIn a u) (sym is) (tables_after_change b1 u i (more_part p (stored_at b1 i)) h v)

    pub put_grows : (before : Arena) (n : StoredNode) → i ≡ length before.nodes → Grows (kept_node before n) b → Grows (kept_node before (with_more n (part_names p) (part_values p))) b2
    put_grows before n e w = subst (λ m. Grows (kept_node before m) b2) (part_more p n) (part_put before b1 b2 n i (more_part p) (grows_twice (kept_node before n) b b1 w g) e is)

    abbrev pub put_opened : (rest : ℕ) → size_of (stored_at b2 i) + rest ≤ size_of (stored_at b i) + left → IsOpened b2 i rest
    put_opened rest le = record {
      before = o.before;
      within = subst (λ m. Grows (kept_node o.before m) b2) (sym put_node) (put_grows o.before (stored_at b i) o.place o.within);
      place = o.place;
      opened = ap (λ n. n.is_open) put_node ∙ o.opened;
      room = let r = o.room in omega arith;
    }

    pub put_head : IsBuilt b → head_content b2 (stored_at b2 i).head ≡ head_content b (stored_at b i).head
    put_head h =
        let l : Larger b b2 = subst (Larger b) (sym is) (larger_twice b b1 (changed (more_part p) i b1) (grows_larger b b1 g) (larger_changed b1 i (more_part p (stored_at b1 i)))) in
        ap (λ n. head_content b2 n.head) put_node ∙ head_stays b b2 l (stored_at b i).head h.traits (stands b i h was_there).head

    pub put_nodes : length b2.nodes ≡ length b1.nodes
    put_nodes = ap (λ a. length a.nodes) is ∙ length-set b1.nodes i (more_part p (stored_at b1 i))
