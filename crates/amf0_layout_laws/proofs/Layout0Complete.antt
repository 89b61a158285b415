-- A value of AMF 0 that is spelled is read.
use Rattle.std.proofs.Common.{◌≡◌, ℕ, zero, suc, ◌+◌, ◌<◌, ◌≤◌, Bool, true, false, eqb, not, List, [], ◌∷◌, ◌++◌, length, get_or, refl, sym, ap, ◌∙◌, arith, subst, inl, inr, length-append, slice_index}
use Rattle.std.proofs.lemmas.List.{append-nil}
use Rattle.std.proofs.lemmas.Nat.{from_be_bytes-to_be_bytes_2, from_be_bytes-to_be_bytes_4}
use Rattle.std.specs.Int.{from_be_bytes, to_be_bytes, w16, w32, w64}
use Rattle.amf_io.specs.Field.{Field, field, contents, flat, raw_kind, text_kind, u16_kind, u32_kind, no_refusal}
use Rattle.amf_io.specs.Layout.{Layout, give, want, Path, Runs}
use Rattle.amf_io.proofs.Paths.{runs_bind}
use Rattle.amf_wire.specs.Style.{free}
use Rattle.amf_graph.specs.declared.value.Value.TheVariants.{Undefined, Null, Bool as Flag, Double, Text as TextRef, Node}
use Rattle.amf_graph.specs.Graph as graph
use Rattle.amf_graph.specs.Graph.{Leaf, Value, leaf, node as node_value, Head, Graph, node_at}
use Rattle.amf_graph.specs.Arena.{StoredHead}
use Rattle.amf_graph.specs.Arena as arena
use Rattle.amf_graph.specs.Building.{more_value, more_name, shut}
use Rattle.amf_graph.proofs.Lists.{length_pushed}
use Rattle.amf3_spelling.specs.Then.{Spelling}
use Rattle.amf3_layout_laws.specs.Layout3Words.{chunk}
use Rattle.amf3_layout_laws.specs.Layout3.{value_layout}
use Rattle.amf3_spelling.proofs.BytesOf.{flat_contents}
use Rattle.amf3_spelling.proofs.Clean.{AllClean}
use Rattle.amf3_layout_laws.proofs.Layout3Texts.{clean_parts, takes, path_if}
use Rattle.amf3_layout_laws.proofs.Layout3Parts.{Like, parts_length, chunk_runs}
use Rattle.amf3_layout_laws.proofs.Layout3Complete.{spelled_read}
use Rattle.amf0_spelling.specs.Tables0.{Tables0, add_node0, add_done0, switched_to}
use Rattle.amf0_spelling.specs.Refusals0.{marker0_kind, index0_kind}
use Rattle.amf0_spelling.specs.Segments0.{marker0_field, Short, Long, LeafBy0, Values0, Pairs0, PairsBy0, is_empty}
use Rattle.amf0_spelling.specs.Spells0.{NodeBy0, Named0, Begun0, Switched, SpellsIn0, Spells0}
use Rattle.amf0_layout_laws.specs.Layout0State.{State0, switched, with_text0, with_class, class_head, with_done0, with_node0, changed0}
use Rattle.amf0_layout_laws.specs.Layout0.{new_text0, short_layout, long_layout, ValueRead0, read0, end0, Reader0, items0, pairs0, shut0, with_pairs, with_items, whole0, with_members, behind0, value0_layout}
use Rattle.amf0_spelling.proofs.Clean0.{clean0}
use Rattle.amf0_layout_laws.proofs.Layout0Grows.{next_pair, named_value}
use Rattle.amf0_spelling.specs.Markers0.{marker0_at}

-- the same words, nodes of the same markers, and as many nodes that an index can name
pub record Like0 (g : Graph) (t : Tables0) (s : State0) : Type 0 where
  pub amf3 : Like g t.amf3 s.amf3
  pub size : length t.nodes ≡ length s.nodes

pub record Found0 (g : Graph) (l : Layout ValueRead0) (fs : List Field) (u : Tables0) : Type 0 where
  pub result : ValueRead0
  pub is_value : result.ended ≡ false
  pub runs : Runs l fs result
  pub like : Like0 g u result.state

-- a value that is found in fewer bytes than these
abbrev Finds0 : Graph → (Bool → Value → Spelling Tables0) → Reader0 → ℕ → Type 0
Finds0 g R v n = (b : Bool) (x : Value) (t : Tables0) (fs : List Field) (u : Tables0) (s : State0) → AllClean fs → Like0 g t s → length (flat fs) < n → R b x t fs u → Found0 g (v b s) fs u

-- a state that is found
record FoundState (g : Graph) (l : Layout State0) (fs : List Field) (u : Tables0) : Type 0 where
  result : State0
  runs : Runs l fs result
  like : Like0 g u result

-- the end of pairs is read where it may stand, with some fuel
abbrev Ends : Reader0 → Type 0
Ends v = (s : State0) → Runs (v true s) (field (marker0_kind true (length s.nodes)) (0x09 ∷ []) ∷ []) (end0 s)

like_text : (g : Graph) (t : Tables0) (s : State0) (x : List ℕ) → Like0 g t s → Like0 g t (with_text0 s x)
like_text g t s x l = record { amf3 = record { words = l.amf3.words; marks = l.amf3.marks }; size = l.size }

like_changed : (g : Graph) (t : Tables0) (f : arena.StoredNode → arena.StoredNode) (i : ℕ) (s : State0) → Like0 g t s → Like0 g t (changed0 f i s)
like_changed g t f i s l = record { amf3 = record { words = l.amf3.words; marks = l.amf3.marks }; size = l.size }

like_class : (g : Graph) (t : Tables0) (s : State0) (i : ℕ) → Like0 g t s → Like0 g t (with_class s i)
like_class g t s i l = record { amf3 = record { words = l.amf3.words; marks = l.amf3.marks }; size = l.size }

like_node : (g : Graph) (t : Tables0) (i : ℕ) (s : State0) (head : StoredHead) → Like0 g t s → Like0 g (add_node0 t i) (with_node0 s head)
like_node g t i s head l = record { amf3 = record { words = l.amf3.words; marks = l.amf3.marks }; size = length_pushed t.nodes i ∙ ap suc l.size ∙ sym (length_pushed s.nodes (length s.amf3.arena.nodes)) }

like_done : (g : Graph) (t : Tables0) (i : ℕ) (s : State0) (head : StoredHead) → Like0 g t s → Like0 g (add_done0 t i) (with_done0 s head)
like_done g t i s head l = record { amf3 = record { words = l.amf3.words; marks = l.amf3.marks }; size = l.size }

like_same : (g : Graph) (t u : Tables0) (s : State0) → u ≡ t → Like0 g t s → Like0 g u s
like_same g t u s e l = subst (λ w. Like0 g w s) (sym e) l

-- texts
short_runs : (x : List ℕ) (fs : List Field) (s : State0) → Short x fs → AllClean fs → Runs (short_layout s) fs (new_text0 s x)
short_runs x fs s h c =
    let size = to_be_bytes w16 (length x) in
    let d = subst AllClean h.2 c in
    subst (λ l. Runs (short_layout s) l (new_text0 s x)) (sym h.2)
    (takes (u16_kind no_refusal) size d.0, subst (λ n. Runs (chunk text_kind n (λ y. give (new_text0 s y))) (contents text_kind x) (new_text0 s x)) (sym (from_be_bytes-to_be_bytes_2 (length x) h.1)) (chunk_runs text_kind x (new_text0 s) d.1))

long_runs : (x : List ℕ) (fs : List Field) (s : State0) → Long x fs → AllClean fs → Runs (long_layout s) fs (new_text0 s x)
long_runs x fs s h c =
    let size = to_be_bytes w32 (length x) in
    let d = subst AllClean h.2 c in
    subst (λ l. Runs (long_layout s) l (new_text0 s x)) (sym h.2)
    (takes (u32_kind no_refusal) size d.0, subst (λ n. Runs (chunk text_kind n (λ y. give (new_text0 s y))) (contents text_kind x) (new_text0 s x)) (sym (from_be_bytes-to_be_bytes_4 (length x) h.1)) (chunk_runs text_kind x (new_text0 s) d.1))

module _ (g : Graph) (R : Bool → Value → Spelling Tables0) (v : Reader0) (N : ℕ) (h : Finds0 g R v N) (ends : Ends v) where
  items_found : (i : ℕ) (vs : List Value) (t : Tables0) (fs : List Field) (u : Tables0) (s : State0) → AllClean fs → Like0 g t s → length (flat fs) < N → Values0 R vs t fs u → FoundState g (items0 v i (length vs) s) fs u
  items_found i [] t fs u s c like lt p = record { result = s; runs = subst (λ l. Runs (give s) l s) (sym p.0) refl; like = like_same g t u s p.1 like }
  items_found i (x ∷ vs) t fs u s c like lt p =
      let d = clean_parts fs p.front p.back p.joined c in
      let total = parts_length fs p.front p.back p.joined in
      let one = h false x t p.front p.mid s d.0 like (omega arith) p.first in
      let f = more_value one.result.value in
      let more = items_found i vs p.mid p.back u (changed0 f i one.result.state) d.1 (like_changed g p.mid f i one.result.state one.like) (omega arith) p.second in
      record {
        result = more.result;
        like = more.like;
        runs = subst (λ l. Runs (items0 v i (suc (length vs)) s) l more.result) (sym p.joined)
            (runs_bind (v false s) (λ y. items0 v i (length vs) (changed0 (more_value y.value) i y.state)) p.front p.back one.result (give more.result) one.runs more.runs);
      }

  end_runs : (t : Tables0) (s : State0) (fs : List Field) → Like0 g t s → fs ≡ marker0_field true t 0x09 ∷ [] → Runs (v true s) fs (end0 s)
  end_runs t s fs like e = subst (λ l. Runs (v true s) l (end0 s)) (sym (e ∙ ap (λ n. field (marker0_kind true n) (0x09 ∷ []) ∷ []) like.size)) (ends s)

  pairs_found : (f i : ℕ) (ps : List (List ℕ × Value)) (t : Tables0) (fs : List Field) (u : Tables0) (s : State0) → AllClean fs → Like0 g t s → length (flat fs) < f → f ≤ N → Pairs0 R ps t fs u → FoundState g (pairs0 v f i s) fs u
  pairs_found zero i ps t fs u s c like lt few p = absurd (omega arith)
  pairs_found (suc f) i [] t fs u s c like lt few p =
      let d = clean_parts fs p.front p.back p.joined c in
      let x = new_text0 s [] in
      let q = p.second in
      let back : p.back ≡ marker0_field true p.mid 0x09 ∷ [] = q.2 ∙ ap (λ l. marker0_field true p.mid 0x09 ∷ l) q.1 in
      let like1 : Like0 g p.mid x.state = like_same g t p.mid x.state p.first.1 (like_text g t s [] like) in
      let last : Runs (named_value v f i x) p.back x.state = subst (λ l. Runs (named_value v f i x) l x.state) (append-nil p.back) (runs_bind (v true x.state) (next_pair v f i x) p.back [] (end0 x.state) (give x.state) (end_runs p.mid x.state p.back like1 back) refl) in
      record {
        result = x.state;
        like = like_same g p.mid u x.state q.3 like1;
        runs = subst (λ l. Runs (pairs0 v (suc f) i s) l x.state) (sym p.joined) (runs_bind (short_layout s) (named_value v f i) p.front p.back x (give x.state) (short_runs [] p.front s p.first.0 d.0) last);
      }
  pairs_found (suc f) i (pair ∷ ps) t fs u s c like lt few p =
      let d = clean_parts fs p.front p.back p.joined c in
      let total = parts_length fs p.front p.back p.joined in
      let x = new_text0 s pair.0 in
      let q = p.second in
      let e = clean_parts p.back q.front q.back q.joined d.1 in
      let total2 = parts_length p.back q.front q.back q.joined in
      let name : length (flat p.front) ≡ 2 + length pair.0 = ap (λ l. length (flat l)) p.first.0.2 ∙ name_size pair.0 in
      let like1 : Like0 g p.mid x.state = like_same g t p.mid x.state p.first.1 (like_text g t s pair.0 like) in
      let one = h (is_empty pair.0) pair.1 p.mid q.front q.mid x.state e.0 like1 (omega arith) q.first in
      let m = more_name x.id one.result.value in
      let more = pairs_found f i ps q.mid q.back u (changed0 m i one.result.state) e.1 (like_changed g q.mid m i one.result.state one.like) (omega arith) (omega arith) q.second in
      let after : Path (next_pair v f i x one.result) q.back (give more.result) = path_if {X = State0} one.result.ended false (give one.result.state) (pairs0 v f i (changed0 m i one.result.state)) q.back (give more.result) one.is_value more.runs in
      let inside : Runs (named_value v f i x) p.back more.result = subst (λ l. Runs (named_value v f i x) l more.result) (sym q.joined) (runs_bind (v (is_empty pair.0) x.state) (next_pair v f i x) q.front q.back one.result (give more.result) one.runs after) in
      record {
        result = more.result;
        like = more.like;
        runs = subst (λ l. Runs (pairs0 v (suc f) i s) l more.result) (sym p.joined) (runs_bind (short_layout s) (named_value v f i) p.front p.back x (give more.result) (short_runs pair.0 p.front s p.first.0 d.0) inside);
      }
    where
      name_size : (x : List ℕ) → length (flat (field (u16_kind no_refusal) (to_be_bytes w16 (length x)) ∷ contents text_kind x)) ≡ 2 + length x
      name_size x = let e = ap length (flat_contents text_kind x) in omega (arith, length-append (to_be_bytes w16 (length x)) (flat (contents text_kind x)), e)

  -- the parts of a node, and the node shut
  with_pairs_found : (i : ℕ) (names : List (List ℕ × Value)) (t : Tables0) (fs : List Field) (u : Tables0) (s : State0) (head : StoredHead) → AllClean fs → Like0 g t s → length (flat fs) < N → PairsBy0 R free names (add_node0 t i) fs u → Found0 g (with_pairs v N s head) fs u
  with_pairs_found i names t fs u s head c like lt p =
      let k = length s.amf3.arena.nodes in
      let o = pairs_found N k p.pairs (add_node0 t i) fs u (with_node0 s head) c (like_node g t i s head like) lt (omega arith) p.spelled in
      let x = shut0 k o.result in
      record {
        result = x;
        is_value = refl;
        like = like_changed g u shut k o.result o.like;
        runs = subst (λ l. Runs (with_pairs v N s head) l x) (append-nil fs) (runs_bind (pairs0 v N k (with_node0 s head)) (λ z. give (shut0 k z)) fs [] o.result (give x) o.runs refl);
      }

  with_items_found : (i : ℕ) (vs : List Value) (t : Tables0) (fs : List Field) (u : Tables0) (s : State0) (head : StoredHead) → AllClean fs → Like0 g t s → length (flat fs) < N → Values0 R vs (add_node0 t i) fs u → Found0 g (with_items v (length vs) s head) fs u
  with_items_found i vs t fs u s head c like lt p =
      let k = length s.amf3.arena.nodes in
      let o = items_found k vs (add_node0 t i) fs u (with_node0 s head) c (like_node g t i s head like) lt p in
      let x = shut0 k o.result in
      record {
        result = x;
        is_value = refl;
        like = like_changed g u shut k o.result o.like;
        runs = subst (λ l. Runs (with_items v (length vs) s head) l x) (append-nil fs) (runs_bind (items0 v k (length vs) (with_node0 s head)) (λ z. give (shut0 k z)) fs [] o.result (give x) o.runs refl);
      }

  -- what stands behind the marker of a node
  node_found : (i : ℕ) (a : Head) (names : List (List ℕ × Value)) (vs : List Value) (m : ℕ) (t : Tables0) (fs : List Field) (u : Tables0) (s : State0) → AllClean fs → Like0 g t s → length (flat fs) < N → NodeBy0 R free i a names vs m t fs u → Found0 g (behind0 v N s (marker0_at m)) fs u
  node_found i (graph.object k) names vs m t fs u s c like lt (o, inl p) =
      let x = new_text0 s [] in
      subst (λ w. Found0 g (behind0 v N s (marker0_at w)) fs u) (sym p.0)
      (with_pairs_found i names t fs u (with_class x.state x.id) (class_head x.state) c (like_class g t x.state x.id (like_text g t s [] like)) lt p.2)
  node_found i (graph.object k) names vs m t fs u s c like lt (o, inr p) =
      let q = p.2 in
      let d = clean_parts fs q.front q.back q.joined c in
      let total = parts_length fs q.front q.back q.joined in
      let x = new_text0 s k.class in
      let like1 : Like0 g (add_node0 t i) (with_node0 (with_class x.state x.id) (class_head x.state)) = like_node g t i (with_class x.state x.id) (class_head x.state) (like_class g t x.state x.id (like_text g t s k.class like)) in
      let o = with_pairs_found i names t q.back u (with_class x.state x.id) (class_head x.state) d.1 (like_class g t x.state x.id (like_text g t s k.class like)) (omega arith) (subst (λ w. PairsBy0 R free names w q.back u) q.first.1 q.second) in
      subst (λ w. Found0 g (behind0 v N s (marker0_at w)) fs u) (sym p.0) (record {
        result = o.result;
        is_value = o.is_value;
        like = o.like;
        runs = subst (λ l. Runs (behind0 v N s (marker0_at 0x10)) l o.result) (sym q.joined) (runs_bind (short_layout s) (with_members v N) q.front q.back x (give o.result) (short_runs k.class q.front s q.first.0 d.0) o.runs);
      })
  node_found i graph.array names vs m t fs u s c like lt (inl p) =
      let q = p.3 in
      let d = clean_parts fs q.front q.back q.joined c in
      let total = parts_length fs q.front q.back q.joined in
      let count = q.first.0 in
      let o = with_pairs_found i names t q.back u s arena.array d.1 like (omega arith) (subst (λ w. PairsBy0 R free names w q.back u) q.first.1 q.second) in
      let all : fs ≡ field (u32_kind no_refusal) (to_be_bytes w32 count.0) ∷ q.back = q.joined ∙ ap (λ l. l ++ q.back) count.3 in
      subst (λ w. Found0 g (behind0 v N s (marker0_at w)) fs u) (sym p.0) (record {
        result = o.result;
        is_value = o.is_value;
        like = o.like;
        runs = subst (λ l. Runs (behind0 v N s (marker0_at 0x08)) l o.result) (sym all) (takes (u32_kind no_refusal) (to_be_bytes w32 count.0) (subst AllClean all c).0, o.runs);
      })
  node_found i graph.array names vs m t fs u s c like lt (inr p) =
      let q = p.3 in
      let d = clean_parts fs q.front q.back q.joined c in
      let total = parts_length fs q.front q.back q.joined in
      let size = to_be_bytes w32 (length vs) in
      let o = with_items_found i vs t q.back u s arena.array d.1 like (omega arith) (subst (λ w. Values0 R vs w q.back u) q.first.1 q.second) in
      let all : fs ≡ field (u32_kind no_refusal) size ∷ q.back = q.joined ∙ ap (λ l. l ++ q.back) q.first.0 in
      subst (λ w. Found0 g (behind0 v N s (marker0_at w)) fs u) (sym p.0) (record {
        result = o.result;
        is_value = o.is_value;
        like = o.like;
        runs = subst (λ l. Runs (behind0 v N s (marker0_at 0x0A)) l o.result) (sym all)
            (takes (u32_kind no_refusal) size (subst AllClean all c).0, subst (λ n. Runs (with_items v n s arena.array) q.back o.result) (sym (from_be_bytes-to_be_bytes_4 (length vs) p.2)) o.runs);
      })
  node_found i (graph.date k) names vs m t fs u s c like lt (e, zone, l, only, is, same) =
      let d = subst AllClean is c in
      let x = whole0 s (arena.date (from_be_bytes w64 (to_be_bytes w64 k))) in
      subst (λ w. Found0 g (behind0 v N s (marker0_at w)) fs u) (sym e) (record {
        result = x;
        is_value = refl;
        like = like_same g (add_done0 t i) u x.state same (like_done g t i s (arena.date (from_be_bytes w64 (to_be_bytes w64 k))) like);
        runs = subst (λ l. Runs (behind0 v N s (marker0_at 0x0B)) l x) (sym is) (takes (raw_kind 8) (to_be_bytes w64 k) d.0, (takes (raw_kind 2) (to_be_bytes w16 zone) d.1.0, refl));
      })
  node_found i (graph.xml_document k) names vs m t fs u s c like lt (e, p, same) =
      let y = new_text0 s k in
      let x = whole0 y.state (arena.xml_document y.id) in
      subst (λ w. Found0 g (behind0 v N s (marker0_at w)) fs u) (sym e) (record {
        result = x;
        is_value = refl;
        like = like_same g (add_done0 t i) u x.state same (like_done g t i y.state (arena.xml_document y.id) (like_text g t s k like));
        runs = subst (λ l. Runs (behind0 v N s (marker0_at 0x0F)) l x) (append-nil fs) (runs_bind (long_layout s) (λ z. give (whole0 z.state (arena.xml_document z.id))) fs [] y (give x) (long_runs k fs s p c) refl);
      })
  node_found i (graph.wrapper k) names vs m t fs u s c like lt p = absurd p
  node_found i (graph.xml k) names vs m t fs u s c like lt p = absurd p
  node_found i (graph.bytes k) names vs m t fs u s c like lt p = absurd p
  node_found i (graph.ints f k) names vs m t fs u s c like lt p = absurd p
  node_found i (graph.uints f k) names vs m t fs u s c like lt p = absurd p
  node_found i (graph.doubles f k) names vs m t fs u s c like lt p = absurd p
  node_found i (graph.values f k) names vs m t fs u s c like lt p = absurd p
  node_found i (graph.dictionary f) names vs m t fs u s c like lt p = absurd p

abbrev Marked : Reader0 → ℕ → Bool → State0 → Layout ValueRead0
Marked v N b s = want (marker0_kind b (length s.nodes)) (λ m. behind0 v N s (marker0_at (slice_index m 0)))

-- a marker, and what stands behind it
mark_found : (g : Graph) (v : Reader0) (N : ℕ) (b : Bool) (m : ℕ) (t : Tables0) (s : State0) (fs rest : List Field) (u : Tables0) → Like0 g t s → AllClean fs → fs ≡ marker0_field b t m ∷ rest → Found0 g (behind0 v N s (marker0_at m)) rest u → Found0 g (Marked v N b s) fs u
mark_found g v N b m t s fs rest u like c e o =
    let d = subst AllClean e c in
    let step : Runs (Marked v N b s) (marker0_field b t m ∷ rest) o.result =
    subst (λ n. Runs (want (marker0_kind b n) (λ k. behind0 v N s (marker0_at (slice_index k 0)))) (marker0_field b t m ∷ rest) o.result) like.size (takes (marker0_kind b (length t.nodes)) (m ∷ []) d.0, o.runs) in
    record { result = o.result; is_value = o.is_value; like = o.like; runs = subst (λ l. Runs (Marked v N b s) l o.result) (sym e) step }

-- a value that is no node, behind its marker
leaf_found : (g : Graph) (v : Reader0) (N : ℕ) (b : Bool) (x : Leaf) (t : Tables0) (fs : List Field) (u : Tables0) (s : State0) → AllClean fs → Like0 g t s → LeafBy0 free b x t fs u → Found0 g (Marked v N b s) fs u
leaf_found g v N b graph.undefined t fs u s c like (inl (rest, e, f, a)) = mark_found g v N b 0x06 t s fs rest u like c f (record { result = read0 Undefined s; is_value = refl; like = like_same g t u s a like; runs = subst (λ l. Runs (give (read0 Undefined s)) l (read0 Undefined s)) (sym e) refl })
leaf_found g v N b graph.undefined t fs u s c like (inr (o, (rest, e, f, a))) = mark_found g v N b 0x0D t s fs rest u like c f (record { result = read0 Undefined s; is_value = refl; like = like_same g t u s a like; runs = subst (λ l. Runs (give (read0 Undefined s)) l (read0 Undefined s)) (sym e) refl })
leaf_found g v N b graph.null t fs u s c like (rest, e, f, a) = mark_found g v N b 0x05 t s fs rest u like c f (record { result = read0 Null s; is_value = refl; like = like_same g t u s a like; runs = subst (λ l. Runs (give (read0 Null s)) l (read0 Null s)) (sym e) refl })
leaf_found g v N b (graph.boolean k) t fs u s c like (rest, (m, h, e), f, a) =
    let x = read0 (Flag (not (eqb m 0))) s in
    let d = subst AllClean e (subst AllClean f c).1 in
    mark_found g v N b 0x01 t s fs rest u like c f (record { result = x; is_value = refl; like = like_same g t u s a like; runs = subst (λ l. Runs (behind0 v N s (marker0_at 0x01)) l x) (sym e) (takes (raw_kind 1) (m ∷ []) d.0, refl) })
leaf_found g v N b (graph.integer k) t fs u s c like p = absurd p
leaf_found g v N b (graph.double k) t fs u s c like (l, (rest, e, f, a)) =
    let x = read0 (Double (record { 0 = from_be_bytes w64 (to_be_bytes w64 k) })) s in
    let d = subst AllClean e (subst AllClean f c).1 in
    mark_found g v N b 0x00 t s fs rest u like c f (record { result = x; is_value = refl; like = like_same g t u s a like; runs = subst (λ l. Runs (behind0 v N s (marker0_at 0x00)) l x) (sym e) (takes (raw_kind 8) (to_be_bytes w64 k) d.0, refl) })
leaf_found g v N b (graph.text k) t fs u s c like (inl (rest, h, f, a)) =
    let y = new_text0 s k in
    let x = read0 (TextRef (record { 0 = y.id })) y.state in
    mark_found g v N b 0x02 t s fs rest u like c f (record { result = x; is_value = refl; like = like_same g t u y.state a (like_text g t s k like); runs = subst (λ l. Runs (behind0 v N s (marker0_at 0x02)) l x) (append-nil rest) (runs_bind (short_layout s) (λ z. give (read0 (TextRef (record { 0 = z.id })) z.state)) rest [] y (give x) (short_runs k rest s h (subst AllClean f c).1) refl) })
leaf_found g v N b (graph.text k) t fs u s c like (inr (o, (rest, h, f, a))) =
    let y = new_text0 s k in
    let x = read0 (TextRef (record { 0 = y.id })) y.state in
    mark_found g v N b 0x0C t s fs rest u like c f (record { result = x; is_value = refl; like = like_same g t u y.state a (like_text g t s k like); runs = subst (λ l. Runs (behind0 v N s (marker0_at 0x0C)) l x) (append-nil rest) (runs_bind (long_layout s) (λ z. give (read0 (TextRef (record { 0 = z.id })) z.state)) rest [] y (give x) (long_runs k rest s h (subst AllClean f c).1) refl) })

-- AMF 3 behind its marker
switch_found : (g : Graph) (v : Reader0) (N : ℕ) (b : Bool) (x : Value) (t : Tables0) (fs : List Field) (u : Tables0) (s : State0) → AllClean fs → Like0 g t s → length (flat fs) < suc N → Switched b g x t fs u → Found0 g (Marked v N b s) fs u
switch_found g v N b x t fs u s c like lt p =
    let size : length (flat fs) ≡ suc (length (flat p.rest)) = ap (λ l. length (flat l)) p.fields in
    let o = spelled_read g N x t.amf3 p.rest p.after s.amf3 like.amf3 (omega arith) p.spelled in
    let y = read0 o.result.value (switched s o.result.state) in
    mark_found g v N b 0x11 t s fs p.rest u like c p.fields (record {
      result = y;
      is_value = refl;
      like = like_same g (switched_to t p.after) u y.state p.tables (record { amf3 = o.like; size = like.size });
      runs = subst (λ l. Runs (behind0 v N s (marker0_at 0x11)) l y) (append-nil p.rest) (runs_bind (value_layout N s.amf3) (λ z. give (read0 z.value (switched s z.state))) p.rest [] o.result (give y) o.runs refl);
    })

named_found : (g : Graph) (v : Reader0) (N : ℕ) (b : Bool) (i : ℕ) (t : Tables0) (fs : List Field) (u : Tables0) (s : State0) → AllClean fs → Like0 g t s → Named0 b i t fs u → Found0 g (Marked v N b s) fs u
named_found g v N b i t fs u s c like p =
    let bytes = to_be_bytes w16 p.place in
    let rest = field (index0_kind (length t.nodes)) bytes ∷ [] in
    let x = read0 (Node (record { 0 = get_or s.nodes (from_be_bytes w16 bytes) 0 })) s in
    mark_found g v N b 0x07 t s fs rest u like c p.fields (record {
      result = x;
      is_value = refl;
      like = like_same g t u s p.same like;
      runs = subst (λ n. Runs (want (index0_kind n) (λ k. give (read0 (Node (record { 0 = get_or s.nodes (from_be_bytes w16 k) 0 })) s))) rest x) like.size (takes (index0_kind (length t.nodes)) bytes (subst AllClean p.fields c).1.0, refl);
    })

begun_found : (g : Graph) (R : Bool → Value → Spelling Tables0) (v : Reader0) (N : ℕ) → Finds0 g R v N → Ends v → (b : Bool) (i : ℕ) (t : Tables0) (fs : List Field) (u : Tables0) (s : State0) → AllClean fs → Like0 g t s → length (flat fs) < suc N → Begun0 R free b g i t fs u → Found0 g (Marked v N b s) fs u
begun_found g R v N h ends b i t fs u s c like lt p =
    let a = node_at g i in
    let size : length (flat fs) ≡ suc (length (flat p.rest)) = ap (λ l. length (flat l)) p.fields in
    mark_found g v N b p.marker t s fs p.rest u like c p.fields (node_found g R v N h ends i a.head a.names a.values p.marker t p.rest u s (subst AllClean p.fields c).1 like (omega arith) p.behind)

value_by : (g : Graph) (N height : ℕ) → ((k : ℕ) → Finds0 g (SpellsIn0 k free g) (value0_layout N) N) → (0 < N → Ends (value0_layout N)) → (b : Bool) (x : Value) (t : Tables0) (fs : List Field) (u : Tables0) (s : State0) → AllClean fs → Like0 g t s → length (flat fs) < suc N → SpellsIn0 height free g b x t fs u
    → Found0 g (Marked (value0_layout N) N b s) fs u
value_by g N height h ends b (leaf x) t fs u s c like lt (inl p) = leaf_found g (value0_layout N) N b x t fs u s c like p
value_by g N height h ends b (leaf x) t fs u s c like lt (inr p) = switch_found g (value0_layout N) N b (leaf x) t fs u s c like lt p.1
value_by g N height h ends b (node_value i) t fs u s c like lt (inl (inl p)) = named_found g (value0_layout N) N b i t fs u s c like p
value_by g N zero h ends b (node_value i) t fs u s c like lt (inl (inr p)) = absurd p
value_by g N (suc k) h ends b (node_value i) t fs u s c like lt (inl (inr p)) =
    let size : length (flat fs) ≡ suc (length (flat p.rest)) = ap (λ l. length (flat l)) p.fields in
    begun_found g (SpellsIn0 k free g) (value0_layout N) N (h k) (ends (omega arith)) b i t fs u s c like lt p
value_by g N height h ends b (node_value i) t fs u s c like lt (inr p) = switch_found g (value0_layout N) N b (node_value i) t fs u s c like lt p.1

ends_read : (N : ℕ) → 0 < N → Ends (value0_layout N)
ends_read zero l s = absurd (omega arith)
ends_read (suc N) l s = (record { is_kind = refl; is_whole = refl; clean = refl }, refl)

-- in a spelling of any height, with more fuel than bytes
pub value0_complete : (g : Graph) (n height : ℕ) → Finds0 g (SpellsIn0 height free g) (value0_layout n) n
value0_complete g zero height b x t fs u s c like lt p = absurd (omega arith)
value0_complete g (suc N) height b x t fs u s c like lt p = value_by g N height (λ k. value0_complete g N k) (ends_read N) b x t fs u s c like lt p

-- with clean fields, as all fields of spellings are
pub spelled_read0 : (g : Graph) (n : ℕ) (x : Value) (t : Tables0) (fs : List Field) (u : Tables0) (s : State0) → Like0 g t s → length (flat fs) < n → Spells0 free g x t fs u → Found0 g (value0_layout n false s) fs u
spelled_read0 g n x t fs u s like lt p = value0_complete g n p.0 false x t fs u s (clean0 free g x t fs u p) like lt p.1
