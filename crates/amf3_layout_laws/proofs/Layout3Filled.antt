-- A finished graph: each open node gets the values that it still needs.
use Rattle.std.proofs.Common.{◌≡◌, ℕ, zero, suc, ◌+◌, ◌-◌, Bool, true, false, cond, List, [], ◌∷◌, ◌++◌, length, map, refl, sym, ap, ◌∙◌, arith, subst, length-append}
use Rattle.std.proofs.lemmas.List.{append-nil, length-map}
use Rattle.std.specs.List.{AllByRecursion}
use Rattle.amf_io.specs.Field.{Field, AreBytes, flat}
use Rattle.amf_io.specs.Layout.{Runs}
use Rattle.amf_graph.specs.declared.value.Value.{Value as Stored}
use Rattle.amf_graph.specs.declared.value.Value.TheVariants.{Null}
use Rattle.amf_graph.specs.Graph.{Value, Fits}
use Rattle.amf_graph.specs.Arena.{StoredHead, xml_document, date, array, object, wrapper, xml, bytes, ints, uints, doubles, values, dictionary, StoredNode, Arena, traits_at, value_content, head_content, node_content, Names, MayFit, IsTraitsIn, IsNodeIn, IsBuilt, IsFinished, Extends, NodesComplete, Completes}
use Rattle.amf3_spelling.specs.KeptTables.{KeptTables, AreTablesIn, tables_of}
use Rattle.amf3_spelling.specs.Reads3.{IsReading3}
use Rattle.amf3_layout_laws.specs.Layout3State.{state_of}
use Rattle.amf3_layout_laws.specs.Layout3.{ValueRead, value_layout}
use Rattle.amf3_layout_laws.proofs.Layout3Contents.{Larger, larger_itself, all_append, all_more, head_stays, pairs_stay, values_stay, names_more, traits_in, KeptNode, node_more, Kept}
use Rattle.amf3_layout_laws.proofs.Layout3Sound.{value_sound}
use Rattle.amf3_layout_laws.proofs.Layout3Reads.{good_start, reads}

abbrev missing : Arena → StoredHead → ℕ → ℕ
missing a (object t) k = length (traits_at a t).sealed - k
missing a (wrapper c) k = 1 - k
missing a _ k = 0

abbrev nulls : ℕ → List Stored
nulls zero = []
nulls (suc k) = Null ∷ nulls k

nulls_length : (k : ℕ) → length (nulls k) ≡ k
nulls_length zero = refl
nulls_length (suc k) = ap suc (nulls_length k)

nulls_named : (a : Arena) (k : ℕ) → AllByRecursion (Names a) (nulls k)
nulls_named a zero = tt
nulls_named a (suc k) = (tt, nulls_named a k)

abbrev completed : Arena → StoredNode → StoredNode
completed a n = record { is_open = false; head = n.head; names = n.names; values = n.values ++ nulls (missing a n.head (length n.values)) }

abbrev filled_by : Bool → Arena → StoredNode → StoredNode
filled_by o a n = cond o (completed a n) n

abbrev pub filled : Arena → Arena
filled a = record { texts = a.texts; traits = a.traits; nodes = map (λ n. filled_by n.is_open a n) a.nodes }

more_length : (a : Arena) (vs : List Stored) (k : ℕ) → length (map (value_content a) (vs ++ nulls k)) ≡ length vs + k
more_length a vs k = length-map (vs ++ nulls k) (value_content a) ∙ length-append vs (nulls k) ∙ ap (λ j. length vs + j) (nulls_length k)

filled_fits : (a : Arena) (h : StoredHead) (ps : List (List ℕ × Value)) (vs : List Stored) → MayFit (head_content a h) ps (map (value_content a) vs) → Fits (head_content a h) ps (map (value_content a) (vs ++ nulls (missing a h (length vs))))
filled_fits a (xml_document x) ps vs m = absurd m
filled_fits a (date p) ps vs m = absurd m
filled_fits a array ps vs m = tt
filled_fits a (object t) ps vs m = let le = m.0 in let same = length-map vs (value_content a) in let all = more_length a vs (length (traits_at a t).sealed - length vs) in (omega arith, m.1)
filled_fits a (wrapper c) ps vs m = let le = m.1 in let same = length-map vs (value_content a) in let all = more_length a vs (1 - length vs) in (m.0, omega arith)
filled_fits a (xml x) ps vs m = absurd m
filled_fits a (bytes x) ps vs m = absurd m
filled_fits a (ints f ns) ps vs m = absurd m
filled_fits a (uints f ns) ps vs m = absurd m
filled_fits a (doubles f ns) ps vs m = absurd m
filled_fits a (values f x) ps vs m = m
filled_fits a (dictionary f) ps vs m = (m.0, m.1, ap (λ l. length (map (value_content a) l)) (append-nil vs) ∙ m.2)

-- an open node may still get its parts
pub record Fillable (a : Arena) (n : StoredNode) : Type 0 where
  pub kept : KeptNode a n
  pub room : n.is_open ≡ true → MayFit (head_content a n.head) (node_content a n).names (node_content a n).values

module _ (a : Arena) (all : AllByRecursion (IsTraitsIn a) a.traits) where
  larger : Larger a (filled a)
  larger = larger_itself a (filled a) refl refl (let e = length-map a.nodes (λ n. filled_by n.is_open a n) in omega arith)

  node_in : (o : Bool) (n : StoredNode) → n.is_open ≡ o → Fillable a n → IsNodeIn (filled a) (filled_by o a n)
  node_in true n e f =
      let vs = n.values ++ nulls (missing a n.head (length n.values)) in
      let k : KeptNode a (completed a n) = record { head = f.kept.head; names = f.kept.names; values = all_append (Names a) n.values (nulls (missing a n.head (length n.values))) f.kept.values (nulls_named a (missing a n.head (length n.values))); fits = λ z. filled_fits a n.head (node_content a n).names n.values (f.room e) } in
      let c = node_more a (filled a) larger all (completed a n) k in
      record { head = c.head; names = c.names; values = c.values; room = λ z. absurd cc; fits = c.fits }
  node_in false n e f = let c = node_more a (filled a) larger all n f.kept in record { head = c.head; names = c.names; values = c.values; room = λ z. absurd cc; fits = c.fits }

  nodes_in : (ns : List StoredNode) → AllByRecursion (Fillable a) ns → AllByRecursion (IsNodeIn (filled a)) (map (λ n. filled_by n.is_open a n) ns)
  nodes_in [] h = tt
  nodes_in (n ∷ ns) h = (node_in n.is_open n refl h.0, nodes_in ns h.1)

closed_all : (a : Arena) (ns : List StoredNode) → AllByRecursion (λ n. n.is_open ≡ false) (map (λ n. filled_by n.is_open a n) ns)
closed_all a [] = tt
closed_all a (n ∷ ns) = (by n.is_open refl, closed_all a ns)
  where
    by : (o : Bool) → n.is_open ≡ o → (filled_by o a n).is_open ≡ false
    by true e = refl
    by false e = e

filled_complete : (a : Arena) (ns more : List StoredNode) → NodesComplete ns (map (λ n. filled_by n.is_open a n) (ns ++ more))
filled_complete a [] more = tt
filled_complete a (n ∷ ns) more = (by n.is_open, filled_complete a ns more)
  where
    by : (o : Bool) → cond o (Extends n (filled_by o a n)) (filled_by o a n ≡ n)
    by true = (refl, ([], sym (append-nil n.names)), (nulls (missing a n.head (length n.values)), refl))
    by false = refl

finished : (a : Arena) → Kept a → AllByRecursion (Fillable a) a.nodes → IsFinished (filled a)
finished a k h = record { built = record { texts = k.texts; traits = all_more (IsTraitsIn a) (IsTraitsIn (filled a)) a.traits (traits_in a (filled a) (larger a k.traits)) k.traits; nodes = nodes_in a k.traits a.nodes h }; closed = closed_all a a.nodes }

may_fit : (a b : Arena) → Larger a b → AllByRecursion (IsTraitsIn a) a.traits → (n : StoredNode) → IsNodeIn a n → Fillable b n
may_fit a b l all n h =
    let k : KeptNode a n = record { head = h.head; names = h.names; values = h.values; fits = h.fits } in
    record {
      kept = node_more a b l all n k;
      room = λ e. subst (λ x. MayFit x (node_content b n).names (node_content b n).values) (sym (head_stays a b l n.head all h.head)) (subst (λ x. MayFit (head_content a n.head) x (node_content b n).values) (sym (pairs_stay a b l n.names h.names)) (subst (λ x. MayFit (head_content a n.head) (node_content a n).names x) (sym (values_stay a b l n.values h.values)) (h.room e)));
    }

closed_fillable : (b : Arena) (ns : List StoredNode) → AllByRecursion (KeptNode b) ns → AllByRecursion (λ n. n.is_open ≡ false) ns → AllByRecursion (Fillable b) ns
closed_fillable b [] k c = tt
closed_fillable b (n ∷ ns) k c = (record { kept = k.0; room = λ e. absurd (let z = c.0 in cc) }, closed_fillable b ns k.1 c.1)

all_back : (b : Arena) (xs ys : List StoredNode) → AllByRecursion (KeptNode b) (xs ++ ys) → AllByRecursion (KeptNode b) ys
all_back b [] ys h = h
all_back b (x ∷ xs) ys h = all_back b xs ys h.1

-- a finished graph that completes what is there afterwards, and so what was there before
pub record Filling (a c : Arena) : Type 0 where
  pub graph : Arena
  pub larger : Larger c graph
  pub after : Completes c graph
  pub before : Completes a graph

pub filling : (a c : Arena) (more : List StoredNode) → IsBuilt a → Kept c → Larger a c → c.nodes ≡ a.nodes ++ more → AllByRecursion (λ n. n.is_open ≡ false) more → Filling a c
filling a c more b k l nodes closed =
    let all : AllByRecursion (Fillable c) c.nodes = subst (AllByRecursion (Fillable c)) (sym nodes) (all_append (Fillable c) a.nodes more (all_more (IsNodeIn a) (Fillable c) a.nodes (may_fit a c l b.traits) b.nodes)
    (closed_fillable c more (all_back c a.nodes more (subst (AllByRecursion (KeptNode c)) nodes k.nodes)) closed)) in
    let f = finished c k all in
    record {
      graph = filled c;
      larger = larger c k.traits;
      after = record { finished = f; more_texts = []; texts = sym (append-nil c.texts); more_traits = []; traits = sym (append-nil c.traits); nodes = subst (λ l. NodesComplete c.nodes (map (λ n. filled_by n.is_open c n) l)) (append-nil c.nodes) (filled_complete c c.nodes []) };
      before = record { finished = f; more_texts = l.more_texts; texts = l.texts; more_traits = l.more_traits; traits = l.traits; nodes = subst (λ l. NodesComplete a.nodes (map (λ n. filled_by n.is_open c n) l)) (sym nodes) (filled_complete c a.nodes more) };
    }

pub reading : (n : ℕ) (a : Arena) (t : KeptTables) (fs : List Field) (x : ValueRead) → IsBuilt a → AreTablesIn a t → AreBytes (flat fs) → Runs (value_layout n (state_of a t)) fs x → IsReading3 a t fs
reading n a t fs x b v h r =
    let z = value_sound n (state_of a t) fs x (good_start a t b v) h r in
    let c = x.state.arena in
    let w = filling a c z.more b z.good.kept z.larger z.nodes z.closed in
    record {
      graph = w.graph;
      value = x.value;
      after = tables_of c x.state.tables;
      names = names_more c w.graph w.larger x.value z.named;
      completes = w.before;
      spelled = (reads n a t fs x b v h r).spelled w.graph w.after;
    }
