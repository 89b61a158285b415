-- The parts of a node that are read are spelled so.
use Rattle.std.proofs.Common.{◌≡◌, ◌≢◌, ℕ, zero, suc, ◌*◌, ◌≤◌, Bool, true, false, cond, List, [], ◌∷◌, ◌++◌, length, map, set, get_or, refl, sym, ap, ◌∙◌, arith, subst, length-append, append_assoc}
use Rattle.std.proofs.lemmas.List.{append-nil, length-set}
use Rattle.std.proofs.Math.Seq.{get_or-append_seam, set-append_seam}
use Rattle.std.specs.List.{AllByRecursion}
use Rattle.amf_wire.specs.Style.{free}
use Rattle.amf_io.specs.Field.{Field, AreBytes, text_kind, flat}
use Rattle.amf_io.specs.Layout.{Layout, give, bind, Path, Runs}
use Rattle.amf_io.proofs.Paths.{bind_runs}
use Rattle.amf_io.proofs.Ables.{bytes_parts}
use Rattle.amf_graph.specs.Graph.{Value, AllNamed}
use Rattle.amf_graph.specs.declared.value.Value.{Value as Stored}
use Rattle.amf_graph.specs.Arena.{Arena, StoredNode, text_at, value_content, IsTextId, Names, Extends, NodeCompletes, NodesComplete, Completes}
use Rattle.amf_graph.specs.Building.{no_stored, stored_at, more_value, more_name, more_entry}
use Rattle.amf3_spelling.specs.Tables.{Tables, with_words}
use Rattle.amf3_spelling.specs.Then.{Spelling}
use Rattle.amf3_spelling.specs.KeptTables.{below}
use Rattle.amf3_spelling.specs.Refusals3.{text_header_refusal, text_header_kind}
use Rattle.amf3_spelling.specs.Words3.{Text}
use Rattle.amf3_spelling.specs.Segments3.{Segment, value, Segments, values_then, pairs_then}
use Rattle.amf3_layout_laws.specs.Layout3State.{State3, changed}
use Rattle.amf3_layout_laws.specs.Layout3Words.{TextRead, text_layout}
use Rattle.amf3_layout_laws.specs.Layout3.{ValueRead, items, entries, is_empty, pairs}
use Rattle.amf3_layout_laws.proofs.Layout3Texts.{none_entered}
use Rattle.amf3_layout_laws.proofs.Layout3Contents.{Larger, larger_itself, larger_twice, text_id, text_stays, names_more, all_append, all_at, KeptNode, Good, good_changed}
use Rattle.amf3_layout_laws.proofs.Layout3SoundTexts.{give_is, TextSound, text_sound}

abbrev pub Reader : Type 0
Reader = State3 → Layout ValueRead

-- how values are spelled in an arena with a root
abbrev pub Spell : Type 1
Spell = Arena → Stored → Value → Spelling Tables

abbrev pub table : State3 → Tables
table s = record { words = s.words; nodes = s.tables.nodes; done = below (length s.arena.nodes) }

abbrev pub AllClosed : List StoredNode → Type 0
AllClosed = AllByRecursion (λ n. n.is_open ≡ false)

-- Nodes that complete others.

extends_twice : (n m k : StoredNode) → Extends n m → Extends m k → Extends n k
extends_twice n m k a b = (b.0 ∙ a.0, (a.1.0 ++ b.1.0, b.1.1 ∙ ap (λ l. l ++ b.1.0) a.1.1 ∙ append_assoc n.names a.1.0 b.1.0), (a.2.0 ++ b.2.0, b.2.1 ∙ ap (λ l. l ++ b.2.0) a.2.1 ∙ append_assoc n.values a.2.0 b.2.0))

node_twice : (n m k : StoredNode) (a b : Bool) → n.is_open ≡ a → m.is_open ≡ b → cond a (Extends n m) (m ≡ n) → cond b (Extends m k) (k ≡ m) → cond a (Extends n k) (k ≡ n)
node_twice n m k true true e f p q = extends_twice n m k p q
node_twice n m k true false e f p q = subst (Extends n) (sym q) p
node_twice n m k false true e f p q = absurd (let z : m.is_open ≡ n.is_open = ap (λ x. x.is_open) p in cc)
node_twice n m k false false e f p q = q ∙ p

pub nodes_twice : (xs ys zs : List StoredNode) → NodesComplete xs ys → NodesComplete ys zs → NodesComplete xs zs
nodes_twice [] ys zs p q = tt
nodes_twice (x ∷ xs) [] zs p q = absurd p
nodes_twice (x ∷ xs) (y ∷ ys) [] p q = absurd q
nodes_twice (x ∷ xs) (y ∷ ys) (z ∷ zs) p q = (node_twice x y z x.is_open y.is_open refl refl p.0 q.0, nodes_twice xs ys zs p.1 q.1)

extends_itself : (n : StoredNode) → Extends n n
extends_itself n = (refl, ([], sym (append-nil n.names)), ([], sym (append-nil n.values)))

pub node_itself : (n : StoredNode) → NodeCompletes n n
node_itself n = by n.is_open
  where
    by : (b : Bool) → cond b (Extends n n) (n ≡ n)
    by true = extends_itself n
    by false = refl

pub nodes_append : (xs ys : List StoredNode) → NodesComplete xs (xs ++ ys)
nodes_append [] ys = tt
nodes_append (x ∷ xs) ys = (node_itself x, nodes_append xs ys)

pub nodes_changed : (pre : List StoredNode) (q r : StoredNode) (post more : List StoredNode) → NodeCompletes q r → NodesComplete (pre ++ q ∷ post) (pre ++ r ∷ (post ++ more))
nodes_changed [] q r post more h = (h, nodes_append post more)
nodes_changed (p ∷ pre) q r post more h = (node_itself p, nodes_changed pre q r post more h)

pub completes_before : (a b g : Arena) → Larger a b → NodesComplete a.nodes b.nodes → Completes b g → Completes a g
completes_before a b g l n c = record {
  finished = c.finished;
  more_texts = l.more_texts ++ c.more_texts;
  texts = c.texts ∙ ap (λ x. x ++ c.more_texts) l.texts ∙ append_assoc a.texts l.more_texts c.more_texts;
  more_traits = l.more_traits ++ c.more_traits;
  traits = c.traits ∙ ap (λ x. x ++ c.more_traits) l.traits ∙ append_assoc a.traits l.more_traits c.more_traits;
  nodes = nodes_twice a.nodes b.nodes g.nodes n c.nodes;
}

pub completes_larger : (a g : Arena) → length a.nodes ≤ length g.nodes → Completes a g → Larger a g
completes_larger a g le c = record { more_texts = c.more_texts; texts = c.texts; more_traits = c.more_traits; traits = c.traits; nodes = le }

pub nodes_longer : (xs ys : List StoredNode) → NodesComplete xs ys → length xs ≤ length ys
nodes_longer [] ys h = omega arith
nodes_longer (x ∷ xs) [] h = absurd h
nodes_longer (x ∷ xs) (y ∷ ys) h = let r = nodes_longer xs ys h.1 in omega arith

-- a value that was read
pub record ValueSound (sp : Spell) (s : State3) (fs : List Field) (x : ValueRead) : Type 0 where
  pub good : Good x.state
  pub larger : Larger s.arena x.state.arena
  pub more : List StoredNode
  pub nodes : x.state.arena.nodes ≡ s.arena.nodes ++ more
  pub closed : AllClosed more
  pub named : Names x.state.arena x.value
  pub spelled : (g : Arena) (r : Stored) → Completes x.state.arena g → sp g r (value_content g x.value) (table s) fs (table x.state)

abbrev pub Sounds : Spell → Reader → Type 0
Sounds sp v = (s : State3) (fs : List Field) (x : ValueRead) → Good s → AreBytes (flat fs) → Runs (v s) fs x → ValueSound sp s fs x

abbrev pub grown : StoredNode → List (ℕ × Stored) → List Stored → StoredNode
grown q ns vs = record { is_open = q.is_open; head = q.head; names = q.names ++ ns; values = q.values ++ vs }

-- parts were added to an open node
pub record Adds (pre post : List StoredNode) (q : StoredNode) (s z : State3) : Type 0 where
  pub names : List (ℕ × Stored)
  pub values : List Stored
  pub more : List StoredNode
  pub nodes : z.arena.nodes ≡ pre ++ grown q names values ∷ (post ++ more)
  pub closed : AllClosed more
  pub good : Good z
  pub larger : Larger s.arena z.arena

pub same_node : (q : StoredNode) (ns ms : List (ℕ × Stored)) (vs ws : List Stored) → ns ≡ ms → vs ≡ ws → (let n : StoredNode = record { is_open = q.is_open; head = q.head; names = ns; values = vs } in n) ≡ (let n : StoredNode = record { is_open = q.is_open; head = q.head; names = ms; values = ws } in n)
same_node q ns ms vs ws e f = ap (λ l. let n : StoredNode = record { is_open = q.is_open; head = q.head; names = l; values = vs } in n) e ∙ ap (λ l. let n : StoredNode = record { is_open = q.is_open; head = q.head; names = ms; values = l } in n) f

pub adds_complete : (pre post : List StoredNode) (q : StoredNode) (s z : State3) → q.is_open ≡ true → s.arena.nodes ≡ pre ++ q ∷ post → (a : Adds pre post q s z) → NodesComplete s.arena.nodes z.arena.nodes
adds_complete pre post q s z o e a =
    subst (λ l. NodesComplete l z.arena.nodes) (sym e) (subst (λ l. NodesComplete (pre ++ q ∷ post) l) (sym a.nodes)
    (nodes_changed pre q (grown q a.names a.values) post a.more (subst (λ b. cond b (Extends q (grown q a.names a.values)) (grown q a.names a.values ≡ q)) (sym o) (refl, (a.names, refl), (a.values, refl)))))

abbrev pub adds_nothing : (pre post : List StoredNode) (q : StoredNode) (s : State3) → Good s → s.arena.nodes ≡ pre ++ q ∷ post → Adds pre post q s s
adds_nothing pre post q s g e = record {
  names = [];
  values = [];
  more = [];
  closed = tt;
  good = g;
  larger = larger_itself s.arena s.arena refl refl (omega arith);
  nodes = e ∙ ap (λ n. pre ++ n ∷ post) (same_node q q.names (q.names ++ []) q.values (q.values ++ []) (sym (append-nil q.names)) (sym (append-nil q.values))) ∙ ap (λ l. pre ++ grown q [] [] ∷ l) (sym (append-nil post));
}

-- what stands at the place of the node
pub spot : (pre post : List StoredNode) (q : StoredNode) (s : State3) → s.arena.nodes ≡ pre ++ q ∷ post → stored_at s.arena (length pre) ≡ q
spot pre post q s e = ap (λ l. get_or l (length pre) no_stored) e ∙ get_or-append_seam pre q post no_stored

pub spot_changed : (f : StoredNode → StoredNode) (pre post : List StoredNode) (q : StoredNode) (s : State3) → s.arena.nodes ≡ pre ++ q ∷ post → (changed f (length pre) s).arena.nodes ≡ pre ++ f q ∷ post
spot_changed f pre post q s e = ap (λ (r : StoredNode). set s.arena.nodes (length pre) (f r)) (spot pre post q s e) ∙ ap (λ l. set l (length pre) (f q)) e ∙ set-append_seam pre q post (f q)

pub kept_spot : (pre post : List StoredNode) (q : StoredNode) (s : State3) → Good s → s.arena.nodes ≡ pre ++ q ∷ post → KeptNode s.arena q
kept_spot pre post q s g e = subst (KeptNode s.arena) (spot pre post q s e) (all_at (KeptNode s.arena) s.arena.nodes (length pre) no_stored g.kept.nodes (omega (arith, ap length e, length-append pre (q ∷ post))))

-- parts are added where the node is open
pub good_more : (f : StoredNode → StoredNode) (ns : List (ℕ × Stored)) (vs : List Stored) (pre post : List StoredNode) (q : StoredNode) (s : State3) → f q ≡ grown q ns vs → q.is_open ≡ true → Good s → s.arena.nodes ≡ pre ++ q ∷ post → AllByRecursion (λ p. IsTextId s.arena p.0 × Names s.arena p.1) ns → AllByRecursion (Names s.arena) vs
    → Good (changed f (length pre) s)
good_more f ns vs pre post q s is o g e hn hv =
    let k = kept_spot pre post q s g e in
    let at = spot pre post q s e in
    let n : KeptNode s.arena (grown q ns vs) = record { head = k.head; names = all_append (λ p. IsTextId s.arena p.0 × Names s.arena p.1) q.names ns k.names hn; values = all_append (Names s.arena) q.values vs k.values hv; fits = λ z. absurd (true_false q.is_open o z) } in
    let there : f (stored_at s.arena (length pre)) ≡ grown q ns vs = ap f at ∙ is in
    good_changed s f (length pre) g (ap (λ x. x.head) there ∙ sym (ap (λ x. x.head) at)) (subst (KeptNode s.arena) (sym there) n)
  where
    true_false : (b : Bool) → b ≡ true → b ≡ false → ⊥
    true_false b p q = cc

pub table_changed : (f : StoredNode → StoredNode) (i : ℕ) (s : State3) → table (changed f i s) ≡ table s
table_changed f i s = ap (λ n. let t : Tables = record { words = s.words; nodes = s.tables.nodes; done = below n } in t) (length-set s.arena.nodes i (f (stored_at s.arena i)))

-- behind one step, more parts were added
abbrev pub adds_more : (pre post more : List StoredNode) (q : StoredNode) (ns : List (ℕ × Stored)) (vs : List Stored) (s u z : State3) → AllClosed more → Larger s.arena u.arena → (a : Adds pre (post ++ more) (grown q ns vs) u z) → Adds pre post q s z
adds_more pre post more q ns vs s u z closed l a = record {
  names = ns ++ a.names;
  values = vs ++ a.values;
  more = more ++ a.more;
  closed = all_append (λ n. n.is_open ≡ false) more a.more closed a.closed;
  good = a.good;
  larger = larger_twice s.arena u.arena z.arena l a.larger;
  nodes = a.nodes ∙ ap (λ n. pre ++ n ∷ ((post ++ more) ++ a.more)) (same_node q ((q.names ++ ns) ++ a.names) (q.names ++ (ns ++ a.names)) ((q.values ++ vs) ++ a.values) (q.values ++ (vs ++ a.values)) (append_assoc q.names ns a.names) (append_assoc q.values vs a.values))
      ∙ ap (λ l. pre ++ grown q (ns ++ a.names) (vs ++ a.values) ∷ l) (append_assoc post more a.more);
}

pub record ItemsSound (sp : Spell) (pre post : List StoredNode) (q : StoredNode) (k : ℕ) (s : State3) (fs : List Field) (z : State3) : Type 0 where
  pub adds : Adds pre post q s z
  pub no_names : adds.names ≡ []
  pub count : length adds.values ≡ k
  pub spelled : (g : Arena) (r : Stored) → Completes z.arena g → (ps : List Segment) (u : Tables) (back : List Field) → Segments (sp g r) free ps (table z) back u → Segments (sp g r) free (values_then (map (value_content g) adds.values) ps) (table s) (fs ++ back) u

pub items_sound : (sp : Spell) (v : Reader) → Sounds sp v → (pre post : List StoredNode) (q : StoredNode) (k : ℕ) (s : State3) (fs : List Field) (z : State3) → q.is_open ≡ true → Good s → s.arena.nodes ≡ pre ++ q ∷ post → AreBytes (flat fs) → Runs (items v (length pre) k s) fs z → ItemsSound sp pre post q k s fs z
items_sound sp v h pre post q zero s [] z o g e b r =
    subst (λ y. ItemsSound sp pre post q 0 s [] y) (give_is s z r) (record { adds = adds_nothing pre post q s g e; no_names = refl; count = refl; spelled = λ g r c ps u back p. p })
items_sound sp v h pre post q zero s (f ∷ fs) z o g e b r = absurd r
items_sound sp v h pre post q (suc k) s fs z o g e b r =
    let a = bind_runs (v s) (λ x. items v (length pre) k (changed (more_value x.value) (length pre) x.state)) fs z r in
    let ab = bytes_parts fs a.front a.back a.parts b in
    let x = a.value in
    let one = h s a.front x g ab.0 a.first in
    let nodes : x.state.arena.nodes ≡ pre ++ q ∷ (post ++ one.more) = one.nodes ∙ ap (λ l. l ++ one.more) e ∙ append_assoc pre (q ∷ post) one.more in
    let f = more_value x.value in
    let is : f q ≡ grown q [] (x.value ∷ []) = same_node q q.names (q.names ++ []) (q.values ++ x.value ∷ []) (q.values ++ x.value ∷ []) (sym (append-nil q.names)) refl in
    let u = changed f (length pre) x.state in
    let here : u.arena.nodes ≡ pre ++ grown q [] (x.value ∷ []) ∷ (post ++ one.more) = spot_changed f pre (post ++ one.more) q x.state nodes ∙ ap (λ n. pre ++ n ∷ (post ++ one.more)) is in
    let to_u : Larger x.state.arena u.arena = larger_itself x.state.arena u.arena refl refl (omega (arith, length-set x.state.arena.nodes (length pre) (f (stored_at x.state.arena (length pre))))) in
    let rest = items_sound sp v h pre (post ++ one.more) (grown q [] (x.value ∷ [])) k u a.back z o (good_more f [] (x.value ∷ []) pre (post ++ one.more) q x.state is o one.good nodes tt (one.named, tt)) here ab.1 a.second in
    record {
      adds = adds_more pre post one.more q [] (x.value ∷ []) s u z one.closed (larger_twice s.arena x.state.arena u.arena one.larger to_u) rest.adds;
      no_names = rest.no_names;
      count = ap suc rest.count;
      spelled = λ g r c ps w back p.
          let reach : NodesComplete x.state.arena.nodes u.arena.nodes = subst (λ l. NodesComplete l u.arena.nodes) (sym nodes) (subst (λ l. NodesComplete (pre ++ q ∷ (post ++ one.more)) l) (ap (λ l. pre ++ grown q [] (x.value ∷ []) ∷ l) (append-nil (post ++ one.more)) ∙ sym here)
          (nodes_changed pre q (grown q [] (x.value ∷ [])) (post ++ one.more) [] (subst (λ t. cond t (Extends q (grown q [] (x.value ∷ []))) (grown q [] (x.value ∷ []) ≡ q)) (sym o) (refl, ([], refl), (x.value ∷ [], refl))))) in
          let to_z = adds_complete pre (post ++ one.more) (grown q [] (x.value ∷ [])) u z o here rest.adds in
          let cx = completes_before x.state.arena z.arena g (larger_twice x.state.arena u.arena z.arena to_u rest.adds.larger) (nodes_twice x.state.arena.nodes u.arena.nodes z.arena.nodes reach to_z) c in
          record {
            front = a.front;
            back = a.back ++ back;
            mid = table x.state;
            joined = ap (λ l. l ++ back) a.parts ∙ append_assoc a.front a.back back;
            first = one.spelled g r cx;
            second = subst (λ t. Segments (sp g r) free (values_then (map (value_content g) rest.adds.values) ps) t (a.back ++ back) w) (table_changed f (length pre) x.state) (rest.spelled g r c ps w back p);
          };
    }

-- a graph that completes the end completes what was there before a part was added
module _ (f : StoredNode → StoredNode) (ns : List (ℕ × Stored)) (vs : List Stored) (pre post : List StoredNode) (q : StoredNode) (s z : State3) (is : f q ≡ grown q ns vs) (o : q.is_open ≡ true) (e : s.arena.nodes ≡ pre ++ q ∷ post) where
  pub here : (changed f (length pre) s).arena.nodes ≡ pre ++ grown q ns vs ∷ post
  here = spot_changed f pre post q s e ∙ ap (λ n. pre ++ n ∷ post) is

  pub to_changed : Larger s.arena (changed f (length pre) s).arena
  to_changed = larger_itself s.arena (changed f (length pre) s).arena refl refl (omega (arith, length-set s.arena.nodes (length pre) (f (stored_at s.arena (length pre)))))

  reach : NodesComplete s.arena.nodes (changed f (length pre) s).arena.nodes
  reach = subst (λ l. NodesComplete l (changed f (length pre) s).arena.nodes) (sym e) (subst (λ l. NodesComplete (pre ++ q ∷ post) l) (ap (λ l. pre ++ grown q ns vs ∷ l) (append-nil post) ∙ sym here)
      (nodes_changed pre q (grown q ns vs) post [] (subst (λ t. cond t (Extends q (grown q ns vs)) (grown q ns vs ≡ q)) (sym o) (refl, (ns, refl), (vs, refl)))))

  pub mid_completes : (a : Adds pre post (grown q ns vs) (changed f (length pre) s) z) (g : Arena) → Completes z.arena g → Completes s.arena g
  mid_completes a g c =
      let u = changed f (length pre) s in
      completes_before s.arena z.arena g (larger_twice s.arena u.arena z.arena to_changed a.larger) (nodes_twice s.arena.nodes u.arena.nodes z.arena.nodes reach (adds_complete pre post (grown q ns vs) u z o here a)) c

pub before_value : (sp : Spell) (s : State3) (fs : List Field) (x : ValueRead) (g : Arena) → ValueSound sp s fs x → Completes x.state.arena g → Completes s.arena g
before_value sp s fs x g v c = completes_before s.arena x.state.arena g v.larger (subst (λ l. NodesComplete s.arena.nodes l) (sym v.nodes) (nodes_append s.arena.nodes v.more)) c

pub value_spot : (sp : Spell) (s : State3) (fs : List Field) (x : ValueRead) (pre post : List StoredNode) (q : StoredNode) → (v : ValueSound sp s fs x) → s.arena.nodes ≡ pre ++ q ∷ post → x.state.arena.nodes ≡ pre ++ q ∷ (post ++ v.more)
value_spot sp s fs x pre post q v e = v.nodes ∙ ap (λ l. l ++ v.more) e ∙ append_assoc pre (q ∷ post) v.more

abbrev valued : Reader → ℕ → ℕ → ValueRead → ValueRead → Layout State3
valued v id n k x = entries v id n (changed (more_entry k.value x.value) id x.state)

pub entries_sound : (sp : Spell) (v : Reader) → Sounds sp v → (pre post : List StoredNode) (q : StoredNode) (k : ℕ) (s : State3) (fs : List Field) (z : State3) → q.is_open ≡ true → Good s → s.arena.nodes ≡ pre ++ q ∷ post → AreBytes (flat fs) → Runs (entries v (length pre) k s) fs z → ItemsSound sp pre post q (2 * k) s fs z
entries_sound sp v h pre post q zero s [] z o g e b r =
    subst (λ y. ItemsSound sp pre post q 0 s [] y) (give_is s z r) (record { adds = adds_nothing pre post q s g e; no_names = refl; count = refl; spelled = λ g r c ps u back p. p })
entries_sound sp v h pre post q zero s (f ∷ fs) z o g e b r = absurd r
entries_sound sp v h pre post q (suc k) s fs z o g e b r =
    let a = bind_runs (v s) (λ x. bind (v x.state) (valued v (length pre) k x)) fs z r in
    let ab = bytes_parts fs a.front a.back a.parts b in
    let x = a.value in
    let one = h s a.front x g ab.0 a.first in
    let e1 = value_spot sp s a.front x pre post q one e in
    let d = bind_runs (v x.state) (valued v (length pre) k x) a.back z a.second in
    let db = bytes_parts a.back d.front d.back d.parts ab.1 in
    let y = d.value in
    let two = h x.state d.front y one.good db.0 d.first in
    let e2 = value_spot sp x.state d.front y pre (post ++ one.more) q two e1 in
    let post2 = (post ++ one.more) ++ two.more in
    let f = more_entry x.value y.value in
    let vs = x.value ∷ y.value ∷ [] in
    let is : f q ≡ grown q [] vs = same_node q q.names (q.names ++ []) (q.values ++ vs) (q.values ++ vs) (sym (append-nil q.names)) refl in
    let u = changed f (length pre) y.state in
    let rest = entries_sound sp v h pre post2 (grown q [] vs) k u d.back z o (good_more f [] vs pre post2 q y.state is o two.good e2 tt (names_more x.state.arena y.state.arena two.larger x.value one.named, (two.named, tt))) (here f [] vs pre post2 q y.state z is o e2) db.1 d.second in
    let moved : Adds pre (post ++ (one.more ++ two.more)) (grown q [] vs) u z = subst (λ l. Adds pre l (grown q [] vs) u z) (append_assoc post one.more two.more) rest.adds in
    let l = larger_twice s.arena x.state.arena u.arena one.larger (larger_twice x.state.arena y.state.arena u.arena two.larger (to_changed f [] vs pre post2 q y.state z is o e2)) in
    let ra = rest.adds in
    record {
      adds = record {
        names = ra.names;
        values = vs ++ ra.values;
        more = (one.more ++ two.more) ++ ra.more;
        good = ra.good;
        larger = larger_twice s.arena u.arena z.arena l ra.larger;
        closed = all_append (λ n. n.is_open ≡ false) (one.more ++ two.more) ra.more (all_append (λ n. n.is_open ≡ false) one.more two.more one.closed two.closed) ra.closed;
        nodes = ra.nodes ∙ ap (λ n. pre ++ n ∷ (post2 ++ ra.more)) (same_node q ((q.names ++ []) ++ ra.names) (q.names ++ ra.names) ((q.values ++ vs) ++ ra.values) (q.values ++ (vs ++ ra.values)) (ap (λ w. w ++ ra.names) (append-nil q.names)) (append_assoc q.values vs ra.values))
            ∙ ap (λ w. pre ++ grown q ra.names (vs ++ ra.values) ∷ w) (ap (λ w. w ++ ra.more) (append_assoc post one.more two.more) ∙ append_assoc post (one.more ++ two.more) ra.more);
      };
      no_names = rest.no_names;
      count = (let c = rest.count in omega arith);
      spelled = λ g r c ps w back p.
          let cy = mid_completes f [] vs pre post2 q y.state z is o e2 rest.adds g c in
          let cx = before_value sp x.state d.front y g two cy in
          record {
            front = a.front;
            back = a.back ++ back;
            mid = table x.state;
            joined = ap (λ l. l ++ back) a.parts ∙ append_assoc a.front a.back back;
            first = one.spelled g r cx;
            second = record {
              front = d.front;
              back = d.back ++ back;
              mid = table y.state;
              joined = ap (λ l. l ++ back) d.parts ∙ append_assoc d.front d.back back;
              first = two.spelled g r cy;
              second = subst (λ t. Segments (sp g r) free (values_then (map (value_content g) rest.adds.values) ps) t (d.back ++ back) w) (table_changed f (length pre) y.state) (rest.spelled g r c ps w back p);
            };
          };
    }

-- names with their values
abbrev pub pairs_content : Arena → List (ℕ × Stored) → List (List ℕ × Value)
pairs_content g ns = map (λ p. (text_at g p.0, value_content g p.1)) ns

pub record PairsSound (sp : Spell) (pre post : List StoredNode) (q : StoredNode) (s : State3) (fs : List Field) (z : State3) : Type 0 where
  pub adds : Adds pre post q s z
  pub no_values : adds.values ≡ []
  pub named : (g : Arena) → Completes z.arena g → AllNamed (pairs_content g adds.names)
  pub spelled : (g : Arena) (r : Stored) → Completes z.arena g → (ps : List Segment) (u : Tables) (back : List Field) → Segments (sp g r) free ps (table z) back u → Segments (sp g r) free (pairs_then (pairs_content g adds.names) ps) (table s) (fs ++ back) u

pub table_text : (s z : State3) → z.arena.nodes ≡ s.arena.nodes → z.tables.nodes ≡ s.tables.nodes → table z ≡ with_words (table s) z.words
table_text s z e f = ap (λ l. let t : Tables = record { words = z.words; nodes = l; done = below (length z.arena.nodes) } in t) f ∙ ap (λ l. let t : Tables = record { words = z.words; nodes = s.tables.nodes; done = below (length l) } in t) e

pub text_content : (s : State3) (fs : List Field) (x : TextRead) (g : Arena) → TextSound (text_header_refusal (length s.words.texts)) text_kind s fs x → Completes x.state.arena g → text_at g x.id ≡ x.bytes
text_content s fs x g t c = text_stays x.state.arena g (completes_larger x.state.arena g (nodes_longer x.state.arena.nodes g.nodes c.nodes) c) x.id t.id ∙ t.there

abbrev on : Reader → ℕ → ℕ → TextRead → ValueRead → Layout State3
on v f id x y = pairs v f id (changed (more_name x.id y.value) id y.state)

empty_is : (x : List ℕ) → is_empty x ≡ true → x ≡ []
empty_is [] e = refl
empty_is (b ∷ x) e = absurd cc

not_nil : (x : List ℕ) → is_empty x ≡ false → x ≢ []
not_nil [] e n = absurd cc
not_nil (b ∷ x) e n = cc

pub pairs_sound : (sp : Spell) (v : Reader) → Sounds sp v → (pre post : List StoredNode) (q : StoredNode) (f : ℕ) (s : State3) (fs : List Field) (z : State3) → q.is_open ≡ true → Good s → s.arena.nodes ≡ pre ++ q ∷ post → AreBytes (flat fs) → Runs (pairs v f (length pre) s) fs z → PairsSound sp pre post q s fs z
pairs_sound sp v h pre post q zero s [] z o g e b r = absurd cc
pairs_sound sp v h pre post q zero s (k ∷ fs) z o g e b r = absurd r
pairs_sound sp v h pre post q (suc f) s fs z o g e b r =
    let a = bind_runs (text_layout s) (λ x. cond (is_empty x.bytes) (give s) (bind (v x.state) (on v f (length pre) x))) fs z r in
    let ab = bytes_parts fs a.front a.back a.parts b in
    by a.value a.front a.back a.parts (text_sound s g a.front a.value ab.0 a.first) ab.1 (is_empty a.value.bytes) refl a.second (λ post2 q2 u fs2 o2 g2 e2 b2 r2. pairs_sound sp v h pre post2 q2 f u fs2 z o2 g2 e2 b2 r2)
  where
    by : (t : TextRead) (front back : List Field) → fs ≡ front ++ back → TextSound (text_header_refusal (length s.words.texts)) text_kind s front t → AreBytes (flat back) → (i : Bool) → is_empty t.bytes ≡ i → Path (cond i (give s) (bind (v t.state) (on v f (length pre) t))) back (give z)
        → ((post2 : List StoredNode) (q2 : StoredNode) (u : State3) (fs2 : List Field) → q2.is_open ≡ true → Good u → u.arena.nodes ≡ pre ++ q2 ∷ post2 → AreBytes (flat fs2) → Runs (pairs v f (length pre) u) fs2 z → PairsSound sp pre post2 q2 u fs2 z) → PairsSound sp pre post q s fs z
    by t front [] joined one bb true i p again =
        subst (λ y. PairsSound sp pre post q s fs y) (give_is s z p) (
        let header = text_header_kind (length s.words.texts) in
        let none = empty_is t.bytes i in
        let text : Text free [] s.words front s.words = subst (λ w. Text free [] s.words front w) (none_entered header text_kind t.bytes s.words front t.state.words none one.spelled) (subst (λ y. Text free y s.words front t.state.words) none one.spelled) in
        record {
          adds = adds_nothing pre post q s g e;
          no_values = refl;
          named = λ g c. tt;
          spelled = λ g r c ps u back q. record {
            front = front;
            back = back;
            mid = table s;
            joined = ap (λ l. l ++ back) (joined ∙ append-nil front);
            first = (s.words, text, refl);
            second = q;
          };
        })
    by t front (k ∷ back) joined one bb true i p again = absurd p
    by t front back joined one bb false i p again =
        let d = bind_runs (v t.state) (on v f (length pre) t) back z p in
        let db = bytes_parts back d.front d.back d.parts bb in
        let x = d.value in
        let two = h t.state d.front x one.good db.0 d.first in
        let e1 = value_spot sp t.state d.front x pre post q two (one.nodes ∙ e) in
        let post1 = post ++ two.more in
        let c = more_name t.id x.value in
        let ns : List (ℕ × Stored) = (t.id, x.value) ∷ [] in
        let is : c q ≡ grown q ns [] = same_node q (q.names ++ ns) (q.names ++ ns) q.values (q.values ++ []) refl (sym (append-nil q.values)) in
        let u = changed c (length pre) x.state in
        let rest = again post1 (grown q ns []) u d.back o (good_more c ns [] pre post1 q x.state is o two.good e1 ((text_id t.state.arena x.state.arena two.larger t.id one.id, two.named), tt) tt) (here c ns [] pre post1 q x.state z is o e1) db.1 d.second in
        let l = larger_twice s.arena t.state.arena u.arena one.larger (larger_twice t.state.arena x.state.arena u.arena two.larger (to_changed c ns [] pre post1 q x.state z is o e1)) in
        let ct = λ (g : Arena) (k : Completes z.arena g). before_value sp t.state d.front x g two (mid_completes c ns [] pre post1 q x.state z is o e1 rest.adds g k) in
        record {
          adds = adds_more pre post two.more q ns [] s u z two.closed l rest.adds;
          no_values = rest.no_values;
          named = λ g k. ((λ n. not_nil t.bytes i (sym (text_content s front t g one (ct g k)) ∙ n)), rest.named g k);
          spelled = λ g r k ps w end p.
              record {
                front = front;
                back = back ++ end;
                mid = with_words (table s) t.state.words;
                joined = ap (λ m. m ++ end) joined ∙ append_assoc front back end;
                first = (t.state.words, subst (λ y. Text free y s.words front t.state.words) (sym (text_content s front t g one (ct g k))) one.spelled, refl);
                second = subst (λ m. Segments (sp g r) free (value (value_content g x.value) ∷ pairs_then (pairs_content g rest.adds.names) ps) m (back ++ end) w) (table_text s t.state one.nodes one.node_table)
                    (record {
                      front = d.front;
                      back = d.back ++ end;
                      mid = table x.state;
                      joined = ap (λ m. m ++ end) d.parts ∙ append_assoc d.front d.back end;
                      first = two.spelled g r (mid_completes c ns [] pre post1 q x.state z is o e1 rest.adds g k);
                      second = subst (λ m. Segments (sp g r) free (pairs_then (pairs_content g rest.adds.names) ps) m (d.back ++ end) w) (table_changed c (length pre) x.state) (rest.spelled g r k ps w end p);
                    });
              };
        }
