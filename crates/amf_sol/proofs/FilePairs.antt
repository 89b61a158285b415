-- The pairs of a shared object file that are read are spelled so in each finished graph that completes what is there.
use Rattle.std.proofs.Common.{◌≡◌, ℕ, zero, suc, Bool, true, false, cond, List, [], ◌∷◌, ◌++◌, length, Some, None, refl, sym, ap, ◌∙◌, arith, subst, length-append, append_assoc}
use Rattle.std.proofs.lemmas.List.{append-nil}
use Rattle.std.proofs.lemmas.Slice.Eq.{bytes_eq-Decides}
use Rattle.std.specs.Prelude.{bytes_eq}
use Rattle.amf_io.specs.declared.reason.Reason.{Reason}
use Rattle.amf_io.specs.declared.reason.Reason.TheVariants.{BadPadding}
use Rattle.amf_io.specs.Field.{Field, field, AreBytes, flat}
use Rattle.amf_io.specs.Layout.{bind, Takes, Runs}
use Rattle.amf_io.proofs.Ables.{bytes_parts}
use Rattle.amf_io.proofs.Paths.{bind_runs}
use Rattle.amf_wire.specs.Style.{free}
use Rattle.amf_graph.specs.Graph.{Value}
use Rattle.amf_graph.specs.declared.value.Value.{Value as Stored}
use Rattle.amf_graph.specs.Arena.{Arena, StoredNode, text_at, value_content, graph_of, IsTextId, Names, Completes}
use Rattle.amf_graph.specs.Building.{more_name}
use Rattle.amf3_layout_laws.specs.Layout3Words.{text_layout}
use Rattle.amf3_layout_laws.specs.Layout3.{value_layout}
use Rattle.amf3_spelling.specs.Segments3.{Lifted}
use Rattle.amf3_spelling.specs.Spells3.{Spells3, SpellsIn}
use Rattle.amf3_spelling.specs.Tables.{Tables, with_words}
use Rattle.amf3_spelling.specs.Then.{Plain}
use Rattle.amf3_spelling.specs.Words3.{Text}
use Rattle.amf3_layout_laws.proofs.Layout3Contents.{Larger, larger_twice, text_id, text_larger}
use Rattle.amf3_layout_laws.proofs.Layout3Sound.{value_sound}
use Rattle.amf3_layout_laws.proofs.Layout3SoundInline.{spell3}
use Rattle.amf3_layout_laws.proofs.Layout3SoundParts.{AllClosed, grown, same_node, Adds, adds_nothing, adds_more, here, to_changed, mid_completes, before_value, pairs_content, table, table_changed, table_text, text_content}
use Rattle.amf3_layout_laws.proofs.Layout3SoundTexts.{taken, give_is, text_sound}
use Rattle.amf0_layout_laws.specs.Layout0.{new_text0, short_layout, value0_layout}
use Rattle.amf0_layout_laws.specs.Layout0State.{State0, in_amf3, changed0}
use Rattle.amf0_spelling.specs.Segments0.{Short}
use Rattle.amf0_spelling.specs.Spells0.{Spells0}
use Rattle.amf0_spelling.specs.Tables0.{Tables0}
use Rattle.amf0_layout_laws.proofs.Layout0Contents.{Good0, table0, good0_moved, good_text0, table0_changed}
use Rattle.amf0_layout_laws.proofs.Layout0Sound.{value0_sound}
use Rattle.amf0_layout_laws.proofs.Layout0SoundNodes.{spell0}
use Rattle.amf0_layout_laws.proofs.Layout0SoundParts.{only_value, good_changed0, before_value0, short_sound, text_there, completed_larger}
use Rattle.amf_sol.specs.declared.sol_version.SolVersion.{SolVersion}
use Rattle.amf_sol.specs.declared.sol_version.SolVersion.TheVariants.{Amf0, Amf3}
use Rattle.amf_sol.specs.SharedObject.{exact_kind, exactly, pair_end, PairsBy}
use Rattle.amf_sol.specs.FileLayout.{FileState, file, with_pair, behind_pair, pair_by, pair_layout}
use Rattle.amf_io.specs.Repeated.{steps}

-- a fixed field that was taken has its bytes
pub exact_is : (reason : Reason) (bytes : List ℕ) (f : Field) → Takes (exact_kind reason bytes) f → f ≡ exactly reason bytes
exact_is reason bytes f t = taken (exact_kind reason bytes) f t ∙ ap (field (exact_kind reason bytes)) (sym (same (bytes_eq bytes f.bytes) refl t.clean))
  where
    same : (b : Bool) → bytes_eq bytes f.bytes ≡ b → cond b None (Some reason) ≡ None → bytes ≡ f.bytes
    same true e c = (bytes_eq-Decides bytes f.bytes).0 e
    same false e c = absurd cc

end_read : (version : SolVersion) (name : List ℕ) (s : State0) (fs : List Field) (z : FileState) → Runs (behind_pair version name s) fs z → (fs ≡ pair_end ∷ []) × (z ≡ file version name s)
end_read version name s [] z r = absurd cc
end_read version name s (f ∷ []) z r = (ap (λ k. k ∷ []) (exact_is BadPadding (0 ∷ []) f r.0), sym (give_is (file version name s) z r.1))
end_read version name s (f ∷ g ∷ fs) z r = absurd r.1

-- one pair in a graph
pub record OneSpelled {S : Type 0} (N : S → List Field → S → Type 0) (R : S → List Field → S → Type 0) (t : S) (fs : List Field) (t' : S) : Type 0 where
  pub named : List Field
  pub valued : List Field
  pub mid : S
  pub joined : fs ≡ named ++ (valued ++ pair_end ∷ [])
  pub first : N t named mid
  pub second : R mid valued t'

-- how names and values are spelled, by the tables that tab tells of a state
pub record Ways (S : Type 0) : Type 1 where
  pub tab : State0 → S
  pub changed : (f : StoredNode → StoredNode) (i : ℕ) (s : State0) → tab (changed0 f i s) ≡ tab s
  pub name : List ℕ → S → List Field → S → Type 0
  pub value : Arena → Stored → Value → S → List Field → S → Type 0

-- a pair that was read into the open holder q
pub record One {S : Type 0} (w : Ways S) (q : StoredNode) (post : List StoredNode) (s : State0) (fs : List Field) (u : State0) : Type 0 where
  pub id : ℕ
  pub value : Stored
  pub before : State0
  pub more : List StoredNode
  pub closed : AllClosed more
  pub larger : Larger s.amf3.arena before.amf3.arena
  pub good : Good0 before
  pub there : before.amf3.arena.nodes ≡ q ∷ (post ++ more)
  pub text_in : IsTextId before.amf3.arena id
  pub named : Names before.amf3.arena value
  pub is : with_pair id value before ≡ u
  pub spelled : (g : Arena) (r : Stored) → Completes before.amf3.arena g → OneSpelled (w.name (text_at g id)) (w.value g r (value_content g value)) (w.tab s) fs (w.tab before)

-- so many pairs that were read into it
pub record Many {S : Type 0} (w : Ways S) (m : ℕ) (q : StoredNode) (post : List StoredNode) (s : State0) (fs : List Field) (z : State0) : Type 0 where
  pub adds : Adds [] post q s.amf3 z.amf3
  pub none : adds.values ≡ []
  pub many : length adds.names ≡ m
  pub good : Good0 z
  pub spelled : (g : Arena) (r : Stored) → Completes z.amf3.arena g → PairsBy w.name (w.value g r) (pairs_content g adds.names) (w.tab s) fs (w.tab z)

many_nothing : {S : Type 0} (w : Ways S) (q : StoredNode) (post : List StoredNode) (s : State0) → Good0 s → s.amf3.arena.nodes ≡ q ∷ post → Many w 0 q post s [] s
many_nothing w q post s g e = record { adds = adds_nothing [] post q s.amf3 g.amf3 e; none = refl; many = refl; good = g; spelled = λ g r c. (refl, refl) }

module _ {S : Type 0} (w : Ways S) (q : StoredNode) (post : List StoredNode) (s : State0) (front : List Field) (u : State0) (o : One w q post s front u) (open_ : q.is_open ≡ true) where
  abbrev ns : List (ℕ × Stored)
  ns = (o.id, o.value) ∷ []

  abbrev c : StoredNode → StoredNode
  c = more_name o.id o.value

  abbrev post1 : List StoredNode
  post1 = post ++ o.more

  is : c q ≡ grown q ns []
  is = same_node q (q.names ++ ns) (q.names ++ ns) q.values (q.values ++ []) refl (sym (append-nil q.values))

  pub good_behind : Good0 (with_pair o.id o.value o.before)
  good_behind = good_changed0 c ns [] [] post1 q o.before is open_ o.good o.there ((o.text_in, o.named), tt) tt

  pub there_behind : (with_pair o.id o.value o.before).amf3.arena.nodes ≡ grown q ns [] ∷ post1
  there_behind = here c ns [] [] post1 q o.before.amf3 o.before.amf3 is open_ o.there

  pub many_more : (m : ℕ) (fs back : List Field) (z : State0) → fs ≡ front ++ back → Many w m (grown q ns []) post1 (with_pair o.id o.value o.before) back z → Many w (suc m) q post s fs z
  many_more m fs back z joined rest =
      let u = with_pair o.id o.value o.before in
      let l = larger_twice s.amf3.arena o.before.amf3.arena u.amf3.arena o.larger (to_changed c ns [] [] post1 q o.before.amf3 z.amf3 is open_ o.there) in
      record {
        adds = adds_more [] post o.more q ns [] s.amf3 u.amf3 z.amf3 o.closed l rest.adds;
        none = rest.none;
        many = ap suc rest.many;
        good = rest.good;
        spelled = λ g r k.
            let y = mid_completes c ns [] [] post1 q o.before.amf3 z.amf3 is open_ o.there rest.adds g k in
            let x = o.spelled g r y in
            record {
              front = x.named;
              back = x.valued ++ pair_end ∷ back;
              mid = x.mid;
              joined = joined ∙ ap (λ l. l ++ back) x.joined ∙ append_assoc x.named (x.valued ++ pair_end ∷ []) back ∙ ap (λ l. x.named ++ l) (append_assoc x.valued (pair_end ∷ []) back);
              first = x.first;
              second = record {
                front = x.valued;
                back = pair_end ∷ back;
                mid = w.tab o.before;
                joined = refl;
                first = x.second;
                second = record { front = pair_end ∷ []; back = back; mid = w.tab o.before; joined = refl; first = (refl, refl); second = subst (λ t. PairsBy w.name (w.value g r) (pairs_content g rest.adds.names) t back (w.tab z)) (w.changed c 0 o.before) (rest.spelled g r k) };
              };
            };
      }

-- AMF 0
abbrev pub ways0 : Ways Tables0
ways0 = record { tab = table0; changed = table0_changed; name = λ x. Plain (Short x); value = λ g r v. Spells0 free (graph_of g r) v }

-- AMF 3
abbrev pub ways3 : Ways Tables
ways3 = record { tab = λ s. table s.amf3; changed = λ f i s. table_changed f i s.amf3; name = λ x. Lifted (Text free x); value = λ g r v. Spells3 free (graph_of g r) v }

-- a pair and the state behind it
pub record ReadOne {S : Type 0} (w : Ways S) (version : SolVersion) (name : List ℕ) (q : StoredNode) (post : List StoredNode) (s : State0) (fs : List Field) (z : FileState) : Type 0 where
  pub behind : State0
  pub is : z ≡ file version name behind
  pub one : One w q post s fs behind

pub one0 : (n : ℕ) (name : List ℕ) (q : StoredNode) (post : List StoredNode) (s : State0) (fs : List Field) (z : FileState) → Good0 s → s.amf3.arena.nodes ≡ q ∷ post → AreBytes (flat fs) → Runs (pair_by Amf0 n name s) fs z → ReadOne ways0 Amf0 name q post s fs z
one0 n name q post s fs z g e bytes r =
    let b = bind_runs (short_layout s) (λ x. bind (value0_layout n false x.state) (λ v. behind_pair Amf0 name (with_pair x.id v.value v.state))) fs z r in
    let bb = bytes_parts fs b.front b.back b.parts bytes in
    let t = short_sound s b.front b.value bb.0 b.first in
    let x = new_text0 s t.bytes in
    let second : Runs (bind (value0_layout n false x.state) (λ v. behind_pair Amf0 name (with_pair x.id v.value v.state))) b.back z =
    subst (λ y. Runs (bind (value0_layout n false y.state) (λ v. behind_pair Amf0 name (with_pair y.id v.value v.state))) b.back z) t.is b.second in
    let d = bind_runs (value0_layout n false x.state) (λ v. behind_pair Amf0 name (with_pair x.id v.value v.state)) b.back z second in
    let db = bytes_parts b.back d.front d.back d.parts bb.1 in
    let two = only_value (spell0 n) x.state d.front d.value (value0_sound n false x.state d.front d.value (good_text0 s t.bytes t.is_text g) db.0 d.first) in
    let y = d.value.state in
    let last = end_read Amf0 name (with_pair x.id d.value.value y) d.back z d.second in
    record {
      behind = with_pair x.id d.value.value y;
      is = last.1;
      one = record {
        id = x.id;
        value = d.value.value;
        before = y;
        more = two.more;
        closed = two.closed;
        larger = larger_twice s.amf3.arena x.state.amf3.arena y.amf3.arena (text_larger s.amf3.arena t.bytes) two.larger;
        good = two.good;
        there = two.nodes ∙ ap (λ l. l ++ two.more) e;
        text_in = text_id x.state.amf3.arena y.amf3.arena two.larger x.id (omega (arith, length-append s.amf3.arena.texts (t.bytes ∷ [])));
        named = two.named;
        is = refl;
        spelled = λ k o c.
            let ct = before_value0 (spell0 n) false x.state d.front d.value k two c in
            let there = text_there s t.bytes k (completed_larger x.state.amf3.arena k ct) in
            record {
              named = b.front;
              valued = d.front;
              mid = table0 s;
              joined = b.parts ∙ ap (λ l. b.front ++ l) (d.parts ∙ ap (λ l. d.front ++ l) last.0);
              first = (subst (λ a. Short a b.front) (sym there) t.spelled, refl);
              second = (n, two.spelled k o c);
            };
      };
    }

pub one3 : (n : ℕ) (name : List ℕ) (q : StoredNode) (post : List StoredNode) (s : State0) (fs : List Field) (z : FileState) → Good0 s → s.amf3.arena.nodes ≡ q ∷ post → AreBytes (flat fs) → Runs (pair_by Amf3 n name s) fs z → ReadOne ways3 Amf3 name q post s fs z
one3 n name q post s fs z g e bytes r =
    let b = bind_runs (text_layout s.amf3) (λ x. bind (value_layout n x.state) (λ v. behind_pair Amf3 name (with_pair x.id v.value (in_amf3 s v.state)))) fs z r in
    let bb = bytes_parts fs b.front b.back b.parts bytes in
    let x = b.value in
    let t = text_sound s.amf3 g.amf3 b.front x bb.0 b.first in
    let d = bind_runs (value_layout n x.state) (λ v. behind_pair Amf3 name (with_pair x.id v.value (in_amf3 s v.state))) b.back z b.second in
    let db = bytes_parts b.back d.front d.back d.parts bb.1 in
    let two = value_sound n x.state d.front d.value t.good db.0 d.first in
    let y = in_amf3 s d.value.state in
    let last = end_read Amf3 name (with_pair x.id d.value.value y) d.back z d.second in
    let larger = larger_twice s.amf3.arena x.state.arena d.value.state.arena t.larger two.larger in
    record {
      behind = with_pair x.id d.value.value y;
      is = last.1;
      one = record {
        id = x.id;
        value = d.value.value;
        before = y;
        more = two.more;
        closed = two.closed;
        larger = larger;
        good = good0_moved s y two.good refl larger.nodes g;
        there = two.nodes ∙ ap (λ l. l ++ two.more) (t.nodes ∙ e);
        text_in = text_id x.state.arena d.value.state.arena two.larger x.id t.id;
        named = two.named;
        is = refl;
        spelled = λ k o c.
            let ct = before_value (spell3 n) x.state d.front d.value k two c in
            let there = text_content s.amf3 b.front x k t ct in
            record {
              named = b.front;
              valued = d.front;
              mid = with_words (table s.amf3) x.state.words;
              joined = b.parts ∙ ap (λ l. b.front ++ l) (d.parts ∙ ap (λ l. d.front ++ l) last.0);
              first = (x.state.words, subst (λ a. Text free a s.amf3.words b.front x.state.words) (sym there) t.spelled, refl);
              second = (n, subst (λ m. SpellsIn n free (graph_of k o) (value_content k d.value.value) m d.front (table d.value.state)) (table_text s.amf3 x.state t.nodes t.node_table) (two.spelled k o c));
            };
      };
    }

-- so many pairs and the state behind them
pub record ReadMany {S : Type 0} (w : Ways S) (m : ℕ) (version : SolVersion) (name : List ℕ) (q : StoredNode) (post : List StoredNode) (s : State0) (fs : List Field) (z : FileState) : Type 0 where
  pub behind : State0
  pub is : z ≡ file version name behind
  pub many : Many w m q post s fs behind

module _ {S : Type 0} (w : Ways S) (version : SolVersion) (n : ℕ) (name : List ℕ)
    (one : (q : StoredNode) (post : List StoredNode) (s : State0) (fs : List Field) (z : FileState) → Good0 s → s.amf3.arena.nodes ≡ q ∷ post → AreBytes (flat fs) → Runs (pair_by version n name s) fs z → ReadOne w version name q post s fs z) where
  many_read : (m : ℕ) (q : StoredNode) (post : List StoredNode) (s : State0) (fs : List Field) (z : FileState) → q.is_open ≡ true → Good0 s → s.amf3.arena.nodes ≡ q ∷ post → AreBytes (flat fs) → Runs (steps (pair_layout n) m (file version name s)) fs z → ReadMany w m version name q post s fs z
  many_read zero q post s [] z o g e b r = record { behind = s; is = sym (give_is (file version name s) z r); many = many_nothing w q post s g e }
  many_read zero q post s (f ∷ fs) z o g e b r = absurd r
  many_read (suc m) q post s fs z o g e b r =
      let a = bind_runs (pair_by version n name s) (λ u. steps (pair_layout n) m u) fs z r in
      let ab = bytes_parts fs a.front a.back a.parts b in
      let k = one q post s a.front a.value g e ab.0 a.first in
      let p = k.one in
      let u = with_pair p.id p.value p.before in
      let second : Runs (steps (pair_layout n) m (file version name u)) a.back z = subst (λ y. Runs (steps (pair_layout n) m y) a.back z) (k.is ∙ ap (file version name) (sym p.is)) a.second in
      let rest = many_read m (grown q ((p.id, p.value) ∷ []) []) (post ++ p.more) u a.back z o (good_behind w q post s a.front k.behind p o) (there_behind w q post s a.front k.behind p o) ab.1 second in
      record { behind = rest.behind; is = rest.is; many = many_more w q post s a.front k.behind p o m fs a.back rest.behind a.parts rest.many }

pub many0 : (n m : ℕ) (name : List ℕ) (q : StoredNode) (post : List StoredNode) (s : State0) (fs : List Field) (z : FileState) → q.is_open ≡ true → Good0 s → s.amf3.arena.nodes ≡ q ∷ post → AreBytes (flat fs) → Runs (steps (pair_layout n) m (file Amf0 name s)) fs z → ReadMany ways0 m Amf0 name q post s fs z
many0 n m name q post s fs z o g e b r = many_read ways0 Amf0 n name (one0 n name) m q post s fs z o g e b r

pub many3 : (n m : ℕ) (name : List ℕ) (q : StoredNode) (post : List StoredNode) (s : State0) (fs : List Field) (z : FileState) → q.is_open ≡ true → Good0 s → s.amf3.arena.nodes ≡ q ∷ post → AreBytes (flat fs) → Runs (steps (pair_layout n) m (file Amf3 name s)) fs z → ReadMany ways3 m Amf3 name q post s fs z
many3 n m name q post s fs z o g e b r = many_read ways3 Amf3 n name (one3 n name) m q post s fs z o g e b r
