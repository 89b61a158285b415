-- The parts of a node of AMF 0 that are read are spelled so.
use Rattle.std.proofs.Common.{◌≡◌, ℕ, zero, suc, ◌<◌, ◌^◌, Bool, true, false, cond, List, [], ◌∷◌, ◌++◌, length, map, refl, sym, ap, ◌∙◌, arith, subst, inl, inr, ◌⊎◌, append_assoc, length-append}
use Rattle.std.proofs.lemmas.List.{append-nil, length-set}
use Rattle.std.proofs.lemmas.Nat.{be_bytes_2, be_bytes_4}
use Rattle.std.proofs.Math.Seq.{get_or-append_seam}
use Rattle.std.specs.Int.{from_be_bytes, to_be_bytes, w16, w32}
use Rattle.amf_wire.specs.Text.{IsText}
use Rattle.amf_wire.proofs.TextTest.{is_text-is}
use Rattle.amf_io.specs.Field.{Field, field, AreBytes, flat, text_kind, u16_kind, u32_kind, no_refusal}
use Rattle.amf_io.specs.Layout.{give, Path, Runs, Takes}
use Rattle.amf_io.proofs.Whole.{whole_fixed}
use Rattle.amf_io.proofs.Bytes.{bytes_front, bytes_back}
use Rattle.amf_io.proofs.Paths.{bind_runs}
use Rattle.amf_io.proofs.Ables.{bytes_parts}
use Rattle.amf_graph.specs.Graph.{Value}
use Rattle.amf_graph.specs.declared.value.Value.{Value as Stored}
use Rattle.std.specs.List.{AllByRecursion}
use Rattle.amf_graph.specs.Arena.{Arena, StoredNode, text_at, value_content, IsTextId, Names, NodesComplete, Completes}
use Rattle.amf_graph.specs.Building.{stored_at, more_value, more_name}
use Rattle.amf3_spelling.specs.Then.{Spelling, Then}
use Rattle.amf3_layout_laws.proofs.Layout3Contents.{Larger, larger_twice, text_id, text_larger, text_stays}
use Rattle.amf3_layout_laws.proofs.Layout3SoundTexts.{taken, give_is, texts_are}
use Rattle.amf3_layout_laws.proofs.Layout3SoundOpenings.{all_below, Chunk, chunk_taken}
use Rattle.amf3_layout_laws.proofs.Layout3SoundParts.{AllClosed, nodes_append, completes_before, completes_larger, nodes_longer, grown, Adds, same_node, adds_nothing, adds_more, good_more, here, to_changed, mid_completes, pairs_content}
use Rattle.amf0_spelling.specs.Tables0.{Tables0}
use Rattle.amf0_spelling.specs.Segments0.{marker0_field, Short, Long, Values0, Pairs0, is_empty}
use Rattle.amf0_layout_laws.specs.Layout0State.{State0, with_text0, changed0}
use Rattle.amf0_layout_laws.specs.Layout0.{TextRead0, new_text0, short_layout, long_layout, ValueRead0, Reader0, items0, pairs0}
use Rattle.amf0_layout_laws.proofs.Layout0Contents.{Good0, table0, good0_moved, good_text0, table0_changed}
use Rattle.amf0_layout_laws.proofs.Layout0Grows.{next_pair, named_value}

-- a text that was read, by what its fields are to be
pub record TextSound0 (P : List ℕ → List Field → Type 0) (s : State0) (fs : List Field) (x : TextRead0) : Type 0 where
  pub bytes : List ℕ
  pub is_text : IsText bytes
  pub is : x ≡ new_text0 s bytes
  pub spelled : P bytes fs

u16_is : (f : Field) → Takes (u16_kind no_refusal) f → AreBytes f.bytes → (f ≡ field (u16_kind no_refusal) (to_be_bytes w16 (from_be_bytes w16 f.bytes))) × (from_be_bytes w16 f.bytes < 2 ^ 16)
u16_is f t b =
    let fits = all_below f.bytes b in
    let long : length f.bytes ≡ 2 = sym (whole_fixed 2 f.bytes (length f.bytes) t.is_whole) in
    (taken (u16_kind no_refusal) f t ∙ ap (field (u16_kind no_refusal)) (sym (be_bytes_2 f.bytes (from_be_bytes w16 f.bytes) long fits refl)), (let p = fits 0 in let q = fits 1 in omega (arith, p, q)))

pub u32_is : (f : Field) → Takes (u32_kind no_refusal) f → AreBytes f.bytes → (f ≡ field (u32_kind no_refusal) (to_be_bytes w32 (from_be_bytes w32 f.bytes))) × (from_be_bytes w32 f.bytes < 2 ^ 32)
u32_is f t b =
    let fits = all_below f.bytes b in
    let long : length f.bytes ≡ 4 = sym (whole_fixed 4 f.bytes (length f.bytes) t.is_whole) in
    (taken (u32_kind no_refusal) f t ∙ ap (field (u32_kind no_refusal)) (sym (be_bytes_4 f.bytes (from_be_bytes w32 f.bytes) long fits refl)), (let p = fits 0 in let q = fits 1 in let r = fits 2 in let z = fits 3 in omega (arith, p, q, r, z)))

pub empty_text : IsText []
empty_text = (is_text-is []).0 refl

pub short_sound : (s : State0) (fs : List Field) (x : TextRead0) → AreBytes (flat fs) → Runs (short_layout s) fs x → TextSound0 Short s fs x
short_sound s [] x b r = absurd cc
short_sound s (f ∷ fs) x b r =
    let h = u16_is f r.0 (bytes_front f.bytes (flat fs) b) in
    let k : Chunk text_kind IsText (from_be_bytes w16 f.bytes) (new_text0 s) fs x = chunk_taken text_kind IsText (from_be_bytes w16 f.bytes) (new_text0 s) fs x (λ n. refl) empty_text (λ n y e c. texts_are.texts n y c) (bytes_back f.bytes (flat fs) b) r.1 in
    record {
      bytes = k.bytes;
      is_text = k.good;
      is = sym k.is;
      spelled = (k.good, (let l = k.long in let m = h.1 in omega (arith, l, m)), ap (λ w. w ∷ fs) (h.0 ∙ ap (λ n. field (u16_kind no_refusal) (to_be_bytes w16 n)) (sym k.long)) ∙ ap (λ l. field (u16_kind no_refusal) (to_be_bytes w16 (length k.bytes)) ∷ l) k.fields);
    }

pub long_sound : (s : State0) (fs : List Field) (x : TextRead0) → AreBytes (flat fs) → Runs (long_layout s) fs x → TextSound0 Long s fs x
long_sound s [] x b r = absurd cc
long_sound s (f ∷ fs) x b r =
    let h = u32_is f r.0 (bytes_front f.bytes (flat fs) b) in
    let k : Chunk text_kind IsText (from_be_bytes w32 f.bytes) (new_text0 s) fs x = chunk_taken text_kind IsText (from_be_bytes w32 f.bytes) (new_text0 s) fs x (λ n. refl) empty_text (λ n y e c. texts_are.texts n y c) (bytes_back f.bytes (flat fs) b) r.1 in
    record {
      bytes = k.bytes;
      is_text = k.good;
      is = sym k.is;
      spelled = (k.good, (let l = k.long in let m = h.1 in omega (arith, l, m)), ap (λ w. w ∷ fs) (h.0 ∙ ap (λ n. field (u32_kind no_refusal) (to_be_bytes w32 n)) (sym k.long)) ∙ ap (λ l. field (u32_kind no_refusal) (to_be_bytes w32 (length k.bytes)) ∷ l) k.fields);
    }

-- the text in each graph that completes
pub text_there : (s : State0) (x : List ℕ) (g : Arena) → Larger (with_text0 s x).amf3.arena g → text_at g (length s.amf3.arena.texts) ≡ x
text_there s x g l =
    text_stays (with_text0 s x).amf3.arena g l (length s.amf3.arena.texts) (omega (arith, length-append s.amf3.arena.texts (x ∷ []))) ∙ get_or-append_seam s.amf3.arena.texts x [] []

pub completed_larger : (a g : Arena) → Completes a g → Larger a g
completed_larger a g c = completes_larger a g (nodes_longer a.nodes g.nodes c.nodes) c

-- how values are spelled in an arena with a root
abbrev pub Spell0 : Type 1
Spell0 = Arena → Stored → Bool → Value → Spelling Tables0

-- a value that was read
pub record ValueSound0 (sp : Spell0) (b : Bool) (s : State0) (fs : List Field) (x : ValueRead0) : Type 0 where
  pub is_value : x.ended ≡ false
  pub good : Good0 x.state
  pub larger : Larger s.amf3.arena x.state.amf3.arena
  pub more : List StoredNode
  pub nodes : x.state.amf3.arena.nodes ≡ s.amf3.arena.nodes ++ more
  pub closed : AllClosed more
  pub named : Names x.state.amf3.arena x.value
  pub spelled : (g : Arena) (r : Stored) → Completes x.state.amf3.arena g → sp g r b (value_content g x.value) (table0 s) fs (table0 x.state)

-- the end of pairs that was read
pub record EndSound0 (b : Bool) (s : State0) (fs : List Field) (x : ValueRead0) : Type 0 where
  pub is_end : x.ended ≡ true
  pub may : b ≡ true
  pub fields : fs ≡ marker0_field b (table0 s) 0x09 ∷ []
  pub same : x.state ≡ s

abbrev pub Sounds0 : Spell0 → Reader0 → Type 0
Sounds0 sp v = (b : Bool) (s : State0) (fs : List Field) (x : ValueRead0) → Good0 s → AreBytes (flat fs) → Runs (v b s) fs x → ValueSound0 sp b s fs x ⊎ EndSound0 b s fs x

-- where no end may stand
pub only_value : (sp : Spell0) (s : State0) (fs : List Field) (x : ValueRead0) → ValueSound0 sp false s fs x ⊎ EndSound0 false s fs x → ValueSound0 sp false s fs x
only_value sp s fs x (inl v) = v
only_value sp s fs x (inr e) = absurd (let m = e.may in cc)

pub good_changed0 : (f : StoredNode → StoredNode) (ns : List (ℕ × Stored)) (vs : List Stored) (pre post : List StoredNode) (q : StoredNode) (s : State0) → f q ≡ grown q ns vs → q.is_open ≡ true → Good0 s → s.amf3.arena.nodes ≡ pre ++ q ∷ post
    → AllByRecursion (λ p. IsTextId s.amf3.arena p.0 × Names s.amf3.arena p.1) ns → AllByRecursion (Names s.amf3.arena) vs → Good0 (changed0 f (length pre) s)
good_changed0 f ns vs pre post q s is o g e hn hv =
    good0_moved s (changed0 f (length pre) s) (good_more f ns vs pre post q s.amf3 is o g.amf3 e hn hv) refl (omega (arith, length-set s.amf3.arena.nodes (length pre) (f (stored_at s.amf3.arena (length pre))))) g

value_spot : (sp : Spell0) (b : Bool) (s : State0) (fs : List Field) (x : ValueRead0) (pre post : List StoredNode) (q : StoredNode) → (v : ValueSound0 sp b s fs x) → s.amf3.arena.nodes ≡ pre ++ q ∷ post → x.state.amf3.arena.nodes ≡ pre ++ q ∷ (post ++ v.more)
value_spot sp b s fs x pre post q v e = v.nodes ∙ ap (λ l. l ++ v.more) e ∙ append_assoc pre (q ∷ post) v.more

pub before_value0 : (sp : Spell0) (b : Bool) (s : State0) (fs : List Field) (x : ValueRead0) (g : Arena) → ValueSound0 sp b s fs x → Completes x.state.amf3.arena g → Completes s.amf3.arena g
before_value0 sp b s fs x g v c = completes_before s.amf3.arena x.state.amf3.arena g v.larger (subst (λ l. NodesComplete s.amf3.arena.nodes l) (sym v.nodes) (nodes_append s.amf3.arena.nodes v.more)) c

-- parts that were added to an open node
pub record AddsSound0 (C : List (ℕ × Stored) → List Stored → Type 0) (A : Arena → Stored → List (ℕ × Stored) → List Stored → Spelling Tables0) (pre post : List StoredNode) (q : StoredNode) (s : State0) (fs : List Field) (z : State0) : Type 0 where
  pub adds : Adds pre post q s.amf3 z.amf3
  pub count : C adds.names adds.values
  pub good : Good0 z
  pub spelled : (g : Arena) (r : Stored) → Completes z.amf3.arena g → A g r adds.names adds.values (table0 s) fs (table0 z)

-- values alone, so many
abbrev pub SoMany : ℕ → List (ℕ × Stored) → List Stored → Type 0
SoMany k ns vs = (ns ≡ []) × (length vs ≡ k)

abbrev pub ItemsSpelled : Spell0 → Arena → Stored → List (ℕ × Stored) → List Stored → Spelling Tables0
ItemsSpelled sp g r ns vs t fs u = Values0 (sp g r) (map (value_content g) vs) t fs u

pub items_sound0 : (sp : Spell0) (v : Reader0) → Sounds0 sp v → (pre post : List StoredNode) (q : StoredNode) (k : ℕ) (s : State0) (fs : List Field) (z : State0) → q.is_open ≡ true → Good0 s → s.amf3.arena.nodes ≡ pre ++ q ∷ post → AreBytes (flat fs) → Runs (items0 v (length pre) k s) fs z → AddsSound0 (SoMany k) (ItemsSpelled sp) pre post q s fs z
items_sound0 sp v h pre post q zero s [] z o g e b r =
    subst (λ y. AddsSound0 (SoMany 0) (ItemsSpelled sp) pre post q s [] y) (give_is s z r) (record { adds = adds_nothing pre post q s.amf3 g.amf3 e; count = (refl, refl); good = g; spelled = λ g r c. (refl, refl) })
items_sound0 sp v h pre post q zero s (f ∷ fs) z o g e b r = absurd r
items_sound0 sp v h pre post q (suc k) s fs z o g e b r =
    let a = bind_runs (v false s) (λ x. items0 v (length pre) k (changed0 (more_value x.value) (length pre) x.state)) fs z r in
    let ab = bytes_parts fs a.front a.back a.parts b in
    let x = a.value in
    let one = only_value sp s a.front x (h false s a.front x g ab.0 a.first) in
    let e1 = value_spot sp false s a.front x pre post q one e in
    let post1 = post ++ one.more in
    let f = more_value x.value in
    let vs = x.value ∷ [] in
    let is : f q ≡ grown q [] vs = same_node q q.names (q.names ++ []) (q.values ++ vs) (q.values ++ vs) (sym (append-nil q.names)) refl in
    let u = changed0 f (length pre) x.state in
    let rest = items_sound0 sp v h pre post1 (grown q [] vs) k u a.back z o (good_changed0 f [] vs pre post1 q x.state is o one.good e1 tt (one.named, tt)) (here f [] vs pre post1 q x.state.amf3 z.amf3 is o e1) ab.1 a.second in
    let l = larger_twice s.amf3.arena x.state.amf3.arena u.amf3.arena one.larger (to_changed f [] vs pre post1 q x.state.amf3 z.amf3 is o e1) in
    record {
      adds = adds_more pre post one.more q [] vs s.amf3 u.amf3 z.amf3 one.closed l rest.adds;
      count = (rest.count.0, ap suc rest.count.1);
      good = rest.good;
      spelled = λ g r c.
          let cx = mid_completes f [] vs pre post1 q x.state.amf3 z.amf3 is o e1 rest.adds g c in
          record {
            front = a.front;
            back = a.back;
            mid = table0 x.state;
            joined = a.parts;
            first = one.spelled g r cx;
            second = subst (λ t. Values0 (sp g r) (map (value_content g) rest.adds.values) t a.back (table0 z)) (table0_changed f (length pre) x.state) (rest.spelled g r c);
          };
    }

-- names with values alone
abbrev pub NoValues : List (ℕ × Stored) → List Stored → Type 0
NoValues ns vs = vs ≡ []

abbrev pub PairsSpelled : Spell0 → Arena → Stored → List (ℕ × Stored) → List Stored → Spelling Tables0
PairsSpelled sp g r ns vs t fs u = Pairs0 (sp g r) (pairs_content g ns) t fs u

empty_is : (x : List ℕ) → is_empty x ≡ true → x ≡ []
empty_is [] e = refl
empty_is (b ∷ x) e = absurd cc

pub pairs_sound0 : (sp : Spell0) (v : Reader0) → Sounds0 sp v → (pre post : List StoredNode) (q : StoredNode) (f : ℕ) (s : State0) (fs : List Field) (z : State0) → q.is_open ≡ true → Good0 s → s.amf3.arena.nodes ≡ pre ++ q ∷ post → AreBytes (flat fs) → Runs (pairs0 v f (length pre) s) fs z → AddsSound0 NoValues (PairsSpelled sp) pre post q s fs z
pairs_sound0 sp v h pre post q zero s [] z o g e b r = absurd cc
pairs_sound0 sp v h pre post q zero s (k ∷ fs) z o g e b r = absurd r
pairs_sound0 sp v h pre post q (suc f) s fs z o g e b r =
    let a = bind_runs (short_layout s) (named_value v f (length pre)) fs z r in
    let ab = bytes_parts fs a.front a.back a.parts b in
    let t = short_sound s a.front a.value ab.0 a.first in
    let x = new_text0 s t.bytes in
    let second : Runs (named_value v f (length pre) x) a.back z = subst (λ w. Runs (named_value v f (length pre) w) a.back z) t.is a.second in
    let d = bind_runs (v (is_empty t.bytes) x.state) (next_pair v f (length pre) x) a.back z second in
    let db = bytes_parts a.back d.front d.back d.parts ab.1 in
    let gx = good_text0 s t.bytes t.is_text g in
    by t.bytes t.is_text a.front a.back a.parts t.spelled d.value d.front d.back d.parts gx (h (is_empty t.bytes) x.state d.front d.value gx db.0 d.first) db.1 d.second
    (λ post2 q2 u fs2 o2 g2 e2 b2 r2. pairs_sound0 sp v h pre post2 q2 f u fs2 z o2 g2 e2 b2 r2)
  where
    by : (x : List ℕ) → IsText x → (front back : List Field) → fs ≡ front ++ back → Short x front → (y : ValueRead0) (first last : List Field) → back ≡ first ++ last → Good0 (with_text0 s x) → ValueSound0 sp (is_empty x) (with_text0 s x) first y ⊎ EndSound0 (is_empty x) (with_text0 s x) first y
        → AreBytes (flat last) → Path (next_pair v f (length pre) (new_text0 s x) y) last (give z)
        → ((post2 : List StoredNode) (q2 : StoredNode) (u : State0) (fs2 : List Field) → q2.is_open ≡ true → Good0 u → u.amf3.arena.nodes ≡ pre ++ q2 ∷ post2 → AreBytes (flat fs2) → Runs (pairs0 v f (length pre) u) fs2 z → AddsSound0 NoValues (PairsSpelled sp) pre post2 q2 u fs2 z) → AddsSound0 NoValues (PairsSpelled sp) pre post q s fs z
    by x is_text front back joined name y first last parts gx (inr k) lb p again =
        finish last (subst (λ w. Path (cond w (give y.state) (pairs0 v f (length pre) (changed0 (more_name (length s.amf3.arena.texts) y.value) (length pre) y.state))) last (give z)) k.is_end p) refl
      where
        finish : (rest : List Field) → Path (give y.state) rest (give z) → last ≡ rest → AddsSound0 NoValues (PairsSpelled sp) pre post q s fs z
        finish [] p w =
            let n = adds_nothing pre post q (with_text0 s x).amf3 gx.amf3 e in
            let same : with_text0 s x ≡ z = sym k.same ∙ give_is y.state z p in
            let may : is_empty x ≡ true = k.may in
            let end : back ≡ marker0_field true (table0 s) 0x09 ∷ [] = parts ∙ ap (λ l. first ++ l) w ∙ append-nil first ∙ k.fields ∙ ap (λ t. marker0_field t (table0 s) 0x09 ∷ []) may in
            subst (λ u. AddsSound0 NoValues (PairsSpelled sp) pre post q s fs u) same (record {
              adds = record { names = []; values = []; more = []; nodes = n.nodes; closed = tt; good = gx.amf3; larger = text_larger s.amf3.arena x };
              count = refl;
              good = gx;
              spelled = λ g r c. record { front = front; back = back; mid = table0 s; joined = joined; first = (subst (λ w. Short w front) (empty_is x may) name, refl); second = ([], refl, end, refl) };
            })
        finish (f ∷ rest) p w = absurd p
    by x is_text front back joined name y first last parts gx (inl two) lb p again =
        let s1 = with_text0 s x in
        let id = length s.amf3.arena.texts in
        let on : Runs (pairs0 v f (length pre) (changed0 (more_name id y.value) (length pre) y.state)) last z =
        subst (λ w. Path (cond w (give y.state) (pairs0 v f (length pre) (changed0 (more_name id y.value) (length pre) y.state))) last (give z)) two.is_value p in
        let e1 = value_spot sp (is_empty x) s1 first y pre post q two e in
        let post1 = post ++ two.more in
        let c = more_name id y.value in
        let ns : List (ℕ × Stored) = (id, y.value) ∷ [] in
        let is : c q ≡ grown q ns [] = same_node q (q.names ++ ns) (q.names ++ ns) q.values (q.values ++ []) refl (sym (append-nil q.values)) in
        let u = changed0 c (length pre) y.state in
        let to_s1 = text_larger s.amf3.arena x in
        let text_in : IsTextId s1.amf3.arena id = omega (arith, length-append s.amf3.arena.texts (x ∷ [])) in
        let rest = again post1 (grown q ns []) u last o (good_changed0 c ns [] pre post1 q y.state is o two.good e1 ((text_id s1.amf3.arena y.state.amf3.arena two.larger id text_in, two.named), tt) tt) (here c ns [] pre post1 q y.state.amf3 z.amf3 is o e1) lb on in
        let l = larger_twice s.amf3.arena s1.amf3.arena u.amf3.arena to_s1 (larger_twice s1.amf3.arena y.state.amf3.arena u.amf3.arena two.larger (to_changed c ns [] pre post1 q y.state.amf3 z.amf3 is o e1)) in
        record {
          adds = adds_more pre post two.more q ns [] s.amf3 u.amf3 z.amf3 two.closed l rest.adds;
          count = rest.count;
          good = rest.good;
          spelled = λ g r k.
              let cy = mid_completes c ns [] pre post1 q y.state.amf3 z.amf3 is o e1 rest.adds g k in
              let ct = before_value0 sp (is_empty x) s1 first y g two cy in
              let there : text_at g id ≡ x = text_there s x g (completed_larger s1.amf3.arena g ct) in
              let tail : Then (sp g r (is_empty x) (value_content g y.value)) (Pairs0 (sp g r) (pairs_content g rest.adds.names)) (table0 s) back (table0 z) = record {
                front = first;
                back = last;
                mid = table0 y.state;
                joined = parts;
                first = two.spelled g r cy;
                second = subst (λ m. Pairs0 (sp g r) (pairs_content g rest.adds.names) m last (table0 z)) (table0_changed c (length pre) y.state) (rest.spelled g r k);
              } in
              subst (λ w. Pairs0 (sp g r) ((w, value_content g y.value) ∷ pairs_content g rest.adds.names) (table0 s) fs (table0 z)) (sym there)
              (record { front = front; back = back; mid = table0 s; joined = joined; first = (name, refl); second = tail });
        }
