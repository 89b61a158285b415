-- The parts of an opened node that are read are spelled so.
use Rattle.std.proofs.Common.{◌≡◌, ℕ, ◌*◌, Bool, true, false, cond, List, [], ◌∷◌, ◌++◌, length, map, refl, sym, ap, ◌∙◌, arith, subst, inl, inr, ◌⊎◌}
use Rattle.std.proofs.lemmas.List.{append-nil}
use Rattle.amf_wire.specs.Style.{free}
use Rattle.amf_io.specs.Field.{Field, AreBytes, flat}
use Rattle.amf_io.specs.Layout.{Layout, give, bind, Path, Runs}
use Rattle.amf_io.proofs.Paths.{bind_runs}
use Rattle.amf_io.proofs.Ables.{bytes_parts}
use Rattle.amf_graph.specs.Graph.{Value, AllNamed}
use Rattle.amf_graph.specs.declared.value.Value.{Value as Stored}
use Rattle.amf_graph.specs.declared.value.Value.TheVariants.{Node}
use Rattle.amf_graph.specs.Arena.{Arena, StoredNode, value_content, Completes}
use Rattle.amf_graph.specs.Building.{shut}
use Rattle.amf3_spelling.specs.Tables.{Tables}
use Rattle.amf3_spelling.specs.Segments3.{Segment, Segments, values_then, pairs_then}
use Rattle.amf3_layout_laws.specs.Layout3State.{State3, with_node, begun, takes_parts, changed}
use Rattle.amf3_layout_laws.specs.Layout3Words.{Outline}
use Rattle.amf3_layout_laws.specs.Layout3.{ValueRead, read, items_of, pairs_if, parts, whole_node}
use Rattle.amf3_layout_laws.proofs.Layout3Parts.{behind}
use Rattle.amf3_layout_laws.proofs.Layout3Contents.{Larger, larger_itself, larger_twice, all_append, Good}
use Rattle.amf3_layout_laws.proofs.Layout3SoundTexts.{give_is}
use Rattle.amf3_layout_laws.proofs.Layout3SoundHeads.{total}
use Rattle.amf3_layout_laws.proofs.Layout3SoundParts.{Reader, Spell, table, AllClosed, Sounds, grown, Adds, same_node, adds_complete, adds_nothing, completes_before, ItemsSound, items_sound, entries_sound, pairs_content, pairs_sound}

-- pairs where there are some
pub record IfSound (sp : Spell) (b : Bool) (pre post : List StoredNode) (q : StoredNode) (s : State3) (fs : List Field) (z : State3) : Type 0 where
  pub adds : Adds pre post q s z
  pub no_values : adds.values ≡ []
  pub none : b ≡ false → adds.names ≡ []
  pub named : (g : Arena) → Completes z.arena g → AllNamed (pairs_content g adds.names)
  pub spelled : (g : Arena) (r : Stored) → Completes z.arena g → (ps : List Segment) (u : Tables) (back : List Field) → Segments (sp g r) free ps (table z) back u → Segments (sp g r) free (cond b (pairs_then (pairs_content g adds.names) ps) ps) (table s) (fs ++ back) u

pairs_if_sound : (sp : Spell) (v : Reader) (N : ℕ) → Sounds sp v → (b : Bool) (pre post : List StoredNode) (q : StoredNode) (s : State3) (fs : List Field) (z : State3) → q.is_open ≡ true → Good s → s.arena.nodes ≡ pre ++ q ∷ post → AreBytes (flat fs) → Runs (pairs_if b v N (length pre) s) fs z → IfSound sp b pre post q s fs z
pairs_if_sound sp v N h true pre post q s fs z o g e b r = let p = pairs_sound sp v h pre post q N s fs z o g e b r in record { adds = p.adds; no_values = p.no_values; none = λ k. absurd cc; named = p.named; spelled = p.spelled }
pairs_if_sound sp v N h false pre post q s [] z o g e b r =
    subst (λ y. IfSound sp false pre post q s [] y) (give_is s z r) (record { adds = adds_nothing pre post q s g e; no_values = refl; none = λ k. refl; named = λ g c. tt; spelled = λ g r c ps u back p. p })
pairs_if_sound sp v N h false pre post q s (f ∷ fs) z o g e b r = absurd r

items_of_sound : (sp : Spell) (v : Reader) → Sounds sp v → (t : Bool) (pre post : List StoredNode) (q : StoredNode) (k : ℕ) (s : State3) (fs : List Field) (z : State3) → q.is_open ≡ true → Good s → s.arena.nodes ≡ pre ++ q ∷ post → AreBytes (flat fs) → Runs (items_of t v (length pre) k s) fs z
    → ItemsSound sp pre post q (cond t (2 * k) k) s fs z
items_of_sound sp v h true pre post q k s fs z o g e b r = entries_sound sp v h pre post q k s fs z o g e b r
items_of_sound sp v h false pre post q k s fs z o g e b r = items_sound sp v h pre post q k s fs z o g e b r

-- all parts of a node
pub record PartsSound (sp : Spell) (o : Outline) (pre : List StoredNode) (s : State3) (fs : List Field) (z : State3) : Type 0 where
  pub names : List (ℕ × Stored)
  pub values : List Stored
  pub more : List StoredNode
  pub nodes : z.arena.nodes ≡ pre ++ grown (begun o.head) names values ∷ more
  pub closed : AllClosed more
  pub good : Good z
  pub larger : Larger s.arena z.arena
  pub count : length values ≡ total o
  pub none : o.first ≡ false → o.last ≡ false → names ≡ []
  pub named : (g : Arena) → Completes z.arena g → AllNamed (pairs_content g names)
  pub spelled : (g : Arena) (r : Stored) → Completes z.arena g → Segments (sp g r) free (behind o.first o.last (pairs_content g names) (map (value_content g) values)) (table s) fs (table z)

behind_same : (b c : Bool) (p q qs : List (List ℕ × Value)) (vs : List Value) → (b ≡ false) ⊎ (c ≡ false) → (b ≡ false → qs ≡ q) → (c ≡ false → qs ≡ p)
    → cond b (pairs_then p (values_then vs (cond c (pairs_then q []) []))) (values_then vs (cond c (pairs_then q []) [])) ≡ behind b c qs vs
behind_same true true p q qs vs (inl e) f h = absurd cc
behind_same true true p q qs vs (inr e) f h = absurd cc
behind_same true false p q qs vs e f h = ap (λ l. pairs_then l (values_then vs [])) (sym (h refl))
behind_same false c p q qs vs e f h = ap (λ l. values_then vs (cond c (pairs_then l []) [])) (sym (f refl))

names_are : (n1 n2 n3 : List (ℕ × Stored)) → n2 ≡ [] → (n1 ++ n2) ++ n3 ≡ n1 ++ n3
names_are n1 n2 n3 e = ap (λ l. (n1 ++ l) ++ n3) e ∙ ap (λ l. l ++ n3) (append-nil n1)

values_are : (v1 v2 v3 : List Stored) → v1 ≡ [] → v3 ≡ [] → (v1 ++ v2) ++ v3 ≡ v2
values_are v1 v2 v3 e f = ap (λ l. (l ++ v2) ++ v3) e ∙ ap (λ l. v2 ++ l) f ∙ append-nil v2

named_append : (g : Arena) (ns ms : List (ℕ × Stored)) → AllNamed (pairs_content g ns) → AllNamed (pairs_content g ms) → AllNamed (pairs_content g (ns ++ ms))
named_append g [] ms a b = b
named_append g (n ∷ ns) ms a b = (a.0, named_append g ns ms a.1 b)

abbrev ending : ℕ → State3 → Layout ValueRead
ending id u = give (read (Node (record { 0 = id })) (changed shut id u))

abbrev behind_items : Reader → ℕ → ℕ → Bool → State3 → Layout ValueRead
behind_items v f id last t = bind (pairs_if last v f id t) (ending id)

abbrev behind_pairs : Reader → ℕ → ℕ → Outline → State3 → Layout ValueRead
behind_pairs v f id o s = bind (items_of o.twins v id o.count s) (behind_items v f id o.last)

-- the state behind the parts, before the node is shut
pub record Ended (sp : Spell) (o : Outline) (fs : List Field) (x : ValueRead) : Type 0 where
  pub state : State3
  pub sound : PartsSound sp o o.state.arena.nodes (with_node o.state o.head) fs state
  pub is : x ≡ read (Node (record { 0 = length o.state.arena.nodes })) (changed shut (length o.state.arena.nodes) state)

open_parts : (sp : Spell) (v : Reader) (N : ℕ) → Sounds sp v → (o : Outline) (fs : List Field) (x : ValueRead) → takes_parts o.head ≡ true → (o.first ≡ false) ⊎ (o.last ≡ false) → Good (with_node o.state o.head) → AreBytes (flat fs) → Runs (parts v N o) fs x → Ended sp o fs x
open_parts sp v N h o fs x open_ once g b r =
    let pre = o.state.arena.nodes in
    let id = length pre in
    let q = begun o.head in
    let z0 = with_node o.state o.head in
    let a = bind_runs (pairs_if o.first v N id z0) (behind_pairs v N id o) fs x r in
    let ab = bytes_parts fs a.front a.back a.parts b in
    let one = pairs_if_sound sp v N h o.first pre [] q z0 a.front a.value open_ g refl ab.0 a.first in
    let a1 = one.adds in
    let q1 = grown q a1.names a1.values in
    let c = bind_runs (items_of o.twins v id o.count a.value) (behind_items v N id o.last) a.back x a.second in
    let cb = bytes_parts a.back c.front c.back c.parts ab.1 in
    let two = items_of_sound sp v h o.twins pre ([] ++ a1.more) q1 o.count a.value c.front c.value open_ a1.good a1.nodes cb.0 c.first in
    let a2 = two.adds in
    let q2 = grown q1 a2.names a2.values in
    let d = bind_runs (pairs_if o.last v N id c.value) (ending id) c.back x c.second in
    let db = bytes_parts c.back d.front d.back d.parts cb.1 in
    let three = pairs_if_sound sp v N h o.last pre (([] ++ a1.more) ++ a2.more) q2 c.value d.front d.value open_ a2.good a2.nodes db.0 d.first in
    let a3 = three.adds in
    let to2 = λ (g : Arena) (k : Completes d.value.arena g). completes_before c.value.arena d.value.arena g a3.larger (adds_complete pre (([] ++ a1.more) ++ a2.more) q2 c.value d.value open_ a2.nodes a3) k in
    let to1 = λ (g : Arena) (k : Completes d.value.arena g). completes_before a.value.arena c.value.arena g a2.larger (adds_complete pre ([] ++ a1.more) q1 a.value c.value open_ a1.nodes a2) (to2 g k) in
    let qs = λ (g : Arena). pairs_content g (a1.names ++ a3.names) in
    let first_none = λ (g : Arena) (k : o.first ≡ false). ap (λ l. pairs_content g (l ++ a3.names)) (one.none k) in
    let last_none = λ (g : Arena) (k : o.last ≡ false). ap (λ l. pairs_content g (a1.names ++ l)) (three.none k) ∙ ap (pairs_content g) (append-nil a1.names) in
    finish d.value d.back d.second (λ same. record {
      names = a1.names ++ a3.names;
      values = a2.values;
      more = (a1.more ++ a2.more) ++ a3.more;
      good = a3.good;
      closed = all_append (λ n. n.is_open ≡ false) (a1.more ++ a2.more) a3.more (all_append (λ n. n.is_open ≡ false) a1.more a2.more a1.closed a2.closed) a3.closed;
      larger = larger_twice z0.arena a.value.arena d.value.arena a1.larger (larger_twice a.value.arena c.value.arena d.value.arena a2.larger a3.larger);
      nodes = a3.nodes ∙ ap (λ n. pre ++ n ∷ ((a1.more ++ a2.more) ++ a3.more)) (same_node q ((a1.names ++ a2.names) ++ a3.names) (a1.names ++ a3.names) ((a1.values ++ a2.values) ++ a3.values) a2.values (names_are a1.names a2.names a3.names two.no_names) (values_are a1.values a2.values a3.values one.no_values three.no_values));
      count = two.count;
      none = λ e f. ap (λ l. l ++ a3.names) (one.none e) ∙ three.none f;
      named = λ g k. named_append g a1.names a3.names (one.named g (to1 g k)) (three.named g k);
      spelled = λ g r k.
          let vs = map (value_content g) a2.values in
          let p3 = three.spelled g r k [] (table d.value) [] (refl, refl) in
          let p2 = two.spelled g r (to2 g k) (cond o.last (pairs_then (pairs_content g a3.names) []) []) (table d.value) (d.front ++ []) p3 in
          let p1 = one.spelled g r (to1 g k) (values_then vs (cond o.last (pairs_then (pairs_content g a3.names) []) [])) (table d.value) (c.front ++ (d.front ++ [])) p2 in
          let all : a.front ++ (c.front ++ (d.front ++ [])) ≡ fs = sym (a.parts ∙ ap (λ l. a.front ++ l) (c.parts ∙ ap (λ l. c.front ++ l) (d.parts ∙ ap (λ l. d.front ++ l) same))) in
          subst (λ l. Segments (sp g r) free (behind o.first o.last (qs g) vs) (table z0) l (table d.value)) all
          (subst (λ l. Segments (sp g r) free l (table z0) (a.front ++ (c.front ++ (d.front ++ []))) (table d.value)) (behind_same o.first o.last (pairs_content g a1.names) (pairs_content g a3.names) (qs g) vs once (first_none g) (last_none g)) p1);
    })
  where
    finish : (z : State3) (back : List Field) → Path (ending (length o.state.arena.nodes) z) back (give x) → (back ≡ [] → PartsSound sp o o.state.arena.nodes (with_node o.state o.head) fs z) → Ended sp o fs x
    finish z [] p k = record { state = z; sound = k refl; is = sym (give_is (read (Node (record { 0 = length o.state.arena.nodes })) (changed shut (length o.state.arena.nodes) z)) x p) }
    finish z (f ∷ back) p k = absurd p

whole_parts : (sp : Spell) (v : Reader) (N : ℕ) (s : State3) (o : Outline) (fs : List Field) (x : ValueRead) → o ≡ whole_node o.state o.head → Good (with_node o.state o.head) → Runs (parts v N o) fs x → Ended sp o fs x
whole_parts sp v N s o fs x e g r = by fs (subst (λ w. Runs (parts v N w) fs x) e r)
  where
    by : (fs : List Field) → Runs (parts v N (whole_node o.state o.head)) fs x → Ended sp o fs x
    by [] r = record {
      state = with_node o.state o.head;
      is = sym (give_is (read (Node (record { 0 = length o.state.arena.nodes })) (changed shut (length o.state.arena.nodes) (with_node o.state o.head))) x r);
      sound = subst (λ w. PartsSound sp w o.state.arena.nodes (with_node o.state o.head) [] (with_node o.state o.head)) (sym e) (record {
        names = [];
        values = [];
        more = [];
        nodes = refl;
        closed = tt;
        good = g;
        larger = larger_itself (with_node o.state o.head).arena (with_node o.state o.head).arena refl refl (omega arith);
        count = refl;
        none = λ e f. refl;
        named = λ g c. tt;
        spelled = λ g r c. (refl, refl);
      });
    }
    by (f ∷ fs) r = absurd r

pub parts_sound : (sp : Spell) (v : Reader) (N : ℕ) → Sounds sp v → (o : Outline) (fs : List Field) (x : ValueRead) (b : Bool) → takes_parts o.head ≡ b → (b ≡ false → o ≡ whole_node o.state o.head) → (o.first ≡ false) ⊎ (o.last ≡ false) → Good (with_node o.state o.head) → AreBytes (flat fs) → Runs (parts v N o) fs x → Ended sp o fs x
parts_sound sp v N h o fs x true e w once g b r = open_parts sp v N h o fs x e once g b r
parts_sound sp v N h o fs x false e w once g b r = whole_parts sp v N o.state o fs x (w refl) g r
