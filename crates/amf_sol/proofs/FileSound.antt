-- A shared object file that is read is spelled so: its holder is closed, and the graph is finished.
use Rattle.std.proofs.Common.{◌≡◌, ℕ, ◌<◌, ◌^◌, Bool, true, false, cond, List, [], ◌∷◌, ◌++◌, length, map, get_or, Some, None, refl, sym, ap, ◌∙◌, arith, subst, append_assoc}
use Rattle.std.proofs.lemmas.List.{append-nil, length-set, length-map}
use Rattle.std.proofs.lemmas.Slice.Eq.{bytes_eq-Decides}
use Rattle.std.specs.List.{AllByRecursion}
use Rattle.std.specs.Prelude.{bytes_eq, codes}
use Rattle.std.specs.Int.{from_be_bytes, w32}
use Rattle.amf_io.specs.declared.reason.Reason.TheVariants.{BadSignature, BadPadding, BadVersion}
use Rattle.amf_io.specs.Field.{Field, field, AreBytes, flat, u32_kind, no_refusal}
use Rattle.amf_io.specs.Layout.{give, want, bind, Takes, Path, Runs}
use Rattle.amf_io.proofs.Ables.{bytes_parts}
use Rattle.amf_io.proofs.Bytes.{bytes_front, bytes_back}
use Rattle.amf_io.proofs.Combine.{headed}
use Rattle.amf_io.proofs.Paths.{bind_runs}
use Rattle.amf_wire.specs.Style.{free}
use Rattle.amf_graph.specs.Graph.{object, node_at}
use Rattle.amf_graph.specs.Graph as graph
use Rattle.amf_graph.specs.ByName.{by_name}
use Rattle.amf_graph.specs.declared.value.Value.{Value as Stored}
use Rattle.amf_graph.specs.declared.value.Value.TheVariants.{Node as NodeRef}
use Rattle.amf_graph.specs.Arena.{Arena, StoredNode, value_content, head_content, node_content, graph_of, IsNodeIn, IsBuilt, IsFinished, NodesComplete, Completes}
use Rattle.amf_graph.specs.Arena as arena
use Rattle.amf_graph.specs.Building.{no_stored, stored_at, shut}
use Rattle.amf_graph.proofs.Lists.{no_entry}
use Rattle.amf3_spelling.specs.KeptTables.{no_kept_tables, AreTablesIn}
use Rattle.amf3_layout_laws.proofs.Layout3Contents.{Larger, larger_itself, larger_twice, head_stays, KeptNode, Kept, Good, good_changed}
use Rattle.amf3_layout_laws.proofs.Layout3Reads.{good_start}
use Rattle.amf3_layout_laws.proofs.Layout3SoundInline.{shut_completes, content_at}
use Rattle.amf3_layout_laws.proofs.Layout3SoundParts.{AllClosed, grown, spot, kept_spot, spot_changed, nodes_changed, pairs_content}
use Rattle.amf3_layout_laws.proofs.Layout3SoundTexts.{taken, give_is}
use Rattle.amf0_layout_laws.specs.Layout0.{short_layout}
use Rattle.amf0_layout_laws.specs.Layout0State.{State0, changed0}
use Rattle.amf0_spelling.specs.Segments0.{Short}
use Rattle.amf0_layout_laws.proofs.Layout0Contents.{Good0}
use Rattle.amf0_layout_laws.proofs.Layout0SoundParts.{short_sound, u32_is}
use Rattle.amf_sol.specs.declared.sol_version.SolVersion.{SolVersion}
use Rattle.amf_sol.specs.declared.sol_version.SolVersion.TheVariants.{Amf0, Amf3}
use Rattle.amf_sol.specs.SharedObject.{IsPairHolder, signature, length_field, second_signature, padding, version_kind, version_field, PairsBy, PairsOf, SpellsFile}
use Rattle.amf_sol.specs.FileLayout.{FileState, file, holder_arena, no_pairs, version_of, behind_name, head_layout, pair_layout, HasPairs}
use Rattle.amf_io.specs.Repeated.{steps, after_head}
use Rattle.amf_sol.proofs.FilePairs.{exact_is, Ways, Many, ways0, ways3, many0, many3}
use Rattle.amf_io.proofs.SharedPaths.{given}

-- Up to the first pair.

version_is : (f : Field) → Takes version_kind f → f ≡ version_field (version_of f.bytes)
version_is f t = taken version_kind f t ∙ ap (field version_kind) (by (bytes_eq (0 ∷ []) f.bytes) refl (bytes_eq (3 ∷ []) f.bytes) refl t.clean)
  where
    by : (a : Bool) → bytes_eq (0 ∷ []) f.bytes ≡ a → (b : Bool) → bytes_eq (3 ∷ []) f.bytes ≡ b → cond a None (cond b None (Some BadVersion)) ≡ None → f.bytes ≡ (version_field (version_of f.bytes)).bytes
    by true e b h c = let same : (0 ∷ []) ≡ f.bytes = (bytes_eq-Decides (0 ∷ []) f.bytes).0 e in subst (λ l. l ≡ (version_field (version_of l)).bytes) same refl
    by false e true h c = let same : (3 ∷ []) ≡ f.bytes = (bytes_eq-Decides (3 ∷ []) f.bytes).0 h in subst (λ l. l ≡ (version_field (version_of l)).bytes) same refl
    by false e false h c = absurd cc

pub record HeadSound (fs : List Field) (f : FileState) : Type 0 where
  pub size : ℕ
  pub text : List ℕ
  pub name : List Field
  pub version : SolVersion
  pub in_bits : size < 2 ^ 32
  pub named : Short text name
  pub fields : fs ≡ signature ∷ length_field size ∷ second_signature ∷ (name ++ padding ∷ version_field version ∷ [])
  pub is : f ≡ file version text no_pairs

rest_bytes : (f : Field) (fs rest : List Field) → fs ≡ f ∷ rest → AreBytes (flat fs) → AreBytes f.bytes × AreBytes (flat rest)
rest_bytes f fs rest e b = let c : AreBytes (flat (f ∷ rest)) = subst (λ l. AreBytes (flat l)) e b in (bytes_front f.bytes (flat rest) c, bytes_back f.bytes (flat rest) c)

pub head_sound : (fs : List Field) (f : FileState) → AreBytes (flat fs) → Runs head_layout fs f → HeadSound fs f
head_sound fs f bytes r =
    let a = headed signature.kind (λ fixed. want (u32_kind no_refusal) (λ size. want second_signature.kind (λ fixed. bind (short_layout no_pairs) (λ x. behind_name x.bytes)))) fs f r in
    let ab = rest_bytes a.0 fs a.1 a.2 bytes in
    let b = headed (u32_kind no_refusal) (λ size. want second_signature.kind (λ fixed. bind (short_layout no_pairs) (λ x. behind_name x.bytes))) a.1 f a.4 in
    let bb = rest_bytes b.0 a.1 b.1 b.2 ab.1 in
    let n = u32_is b.0 b.3 bb.0 in
    let c = headed second_signature.kind (λ fixed. bind (short_layout no_pairs) (λ x. behind_name x.bytes)) b.1 f b.4 in
    let cb = rest_bytes c.0 b.1 c.1 c.2 bb.1 in
    let d = bind_runs (short_layout no_pairs) (λ x. behind_name x.bytes) c.1 f c.4 in
    let db = bytes_parts c.1 d.front d.back d.parts cb.1 in
    let t = short_sound no_pairs d.front d.value db.0 d.first in
    let second : Runs (behind_name t.bytes) d.back f = subst (λ x. Runs (behind_name x.bytes) d.back f) t.is d.second in
    let p = headed padding.kind (λ zeros. want version_kind (λ b. give (file (version_of b) t.bytes no_pairs))) d.back f second in
    let v = headed version_kind (λ b. give (file (version_of b) t.bytes no_pairs)) p.1 f p.4 in
    let last : v.1 ≡ [] = given (file (version_of v.0.bytes) t.bytes no_pairs) (give f) v.1 v.4 in
    let is : file (version_of v.0.bytes) t.bytes no_pairs ≡ f = give_is (file (version_of v.0.bytes) t.bytes no_pairs) f (subst (λ l. Path (give (file (version_of v.0.bytes) t.bytes no_pairs)) l (give f)) last v.4) in
    let end : p.1 ≡ version_field (version_of v.0.bytes) ∷ [] = v.2 ∙ ap (λ l. v.0 ∷ l) last ∙ ap (λ k. k ∷ []) (version_is v.0 v.3) in
    let back : d.back ≡ padding ∷ version_field (version_of v.0.bytes) ∷ [] = p.2 ∙ ap (λ l. p.0 ∷ l) end ∙ ap (λ k. k ∷ version_field (version_of v.0.bytes) ∷ []) (exact_is BadPadding (0 ∷ 0 ∷ 0 ∷ []) p.0 p.3) in
    record {
      size = from_be_bytes w32 b.0.bytes;
      text = t.bytes;
      name = d.front;
      version = version_of v.0.bytes;
      in_bits = n.1;
      named = t.spelled;
      fields = a.2 ∙ ap (λ k. k ∷ a.1) (exact_is BadSignature (0x00 ∷ 0xBF ∷ []) a.0 a.3) ∙ ap (λ l. signature ∷ l) (b.2 ∙ ap (λ k. k ∷ b.1) n.0 ∙ ap (λ l. length_field (from_be_bytes w32 b.0.bytes) ∷ l) (c.2 ∙ ap (λ k. k ∷ c.1) (exact_is BadSignature (codes "TCSO" ++ 0x00 ∷ 0x04 ∷ 0x00 ∷ 0x00 ∷ 0x00 ∷ 0x00 ∷ []) c.0 c.3) ∙ ap (λ l. second_signature ∷ l) (d.parts ∙ ap (λ l. d.front ++ l) back)));
      is = sym is;
    }

-- The holder, open and without pairs.

pub holder_built : IsBuilt holder_arena
holder_built = record {
  texts = (([], tt, refl), tt);
  traits = (record { class = omega arith; sealed = tt }, tt);
  nodes = (record { head = omega arith; names = tt; values = tt; room = λ e. (omega arith, tt); fits = λ e. absurd cc }, tt);
}

pub holder_tables : AreTablesIn holder_arena no_kept_tables
holder_tables = record { texts = tt; traits = tt; nodes = tt; distinct = λ j k i e f. absurd (no_entry j i e) }

pub good_holder : Good0 no_pairs
good_holder = record { amf3 = good_start holder_arena no_kept_tables holder_built holder_tables; nodes = tt; distinct = λ j k i e f. absurd (no_entry j i e) }

abbrev pub the_holder : StoredNode
the_holder = record { is_open = true; head = arena.object 0; names = []; values = [] }

-- closed nodes that are kept are a finished graph's
closed_in : (a : Arena) (ns : List StoredNode) → AllByRecursion (KeptNode a) ns → AllClosed ns → AllByRecursion (IsNodeIn a) ns
closed_in a [] k c = tt
closed_in a (n ∷ ns) k c = (record { head = k.0.head; names = k.0.names; values = k.0.values; room = λ e. absurd (let z = c.0 in cc); fits = k.0.fits }, closed_in a ns k.1 c.1)

finished_by : (a : Arena) → Kept a → AllClosed a.nodes → IsFinished a
finished_by a k c = record { built = record { texts = k.texts; traits = k.traits; nodes = closed_in a a.nodes k.nodes c }; closed = c }

-- The graph with its holder closed.

module _ {S : Type 0} (w : Ways S) (m : ℕ) (fs : List Field) (z : State0) (k : Many w m the_holder [] no_pairs fs z) where
  abbrev q : StoredNode
  q = grown the_holder k.adds.names k.adds.values

  abbrev last : State0
  last = changed0 shut 0 z

  to_last : Larger z.amf3.arena last.amf3.arena
  to_last = larger_itself z.amf3.arena last.amf3.arena refl refl (omega (arith, length-set z.amf3.arena.nodes 0 (shut (stored_at z.amf3.arena 0))))

  from_start : Larger holder_arena last.amf3.arena
  from_start = larger_twice holder_arena z.amf3.arena last.amf3.arena k.adds.larger to_last

  here : last.amf3.arena.nodes ≡ shut q ∷ k.adds.more
  here = spot_changed shut [] k.adds.more q z.amf3 k.adds.nodes

  head_is : (e : Arena) → Larger holder_arena e → head_content e (arena.object 0) ≡ object (record { class = []; dynamic = true; sealed = [] })
  head_is e l = head_stays holder_arena e l (arena.object 0) holder_built.traits (omega arith)

  no_values : (e : Arena) → map (value_content e) q.values ≡ []
  no_values e = ap (map (value_content e)) k.none

  good_last : Good last.amf3
  good_last =
      let e = z.amf3.arena in
      let at = spot [] k.adds.more q z.amf3 k.adds.nodes in
      let kq = kept_spot [] k.adds.more q z.amf3 k.adds.good k.adds.nodes in
      let fits : graph.Fits (head_content e (arena.object 0)) (node_content e (shut q)).names (map (value_content e) q.values) =
      subst (λ h. graph.Fits h (node_content e (shut q)).names (map (value_content e) q.values)) (sym (head_is e k.adds.larger))
      (subst (λ vs. graph.Fits (object (record { class = []; dynamic = true; sealed = [] })) (node_content e (shut q)).names vs) (sym (no_values e)) (refl, tt)) in
      let node : KeptNode e (shut q) = record { head = kq.head; names = kq.names; values = kq.values; fits = λ c. fits } in
      good_changed z.amf3 shut 0 k.adds.good refl (subst (λ n. KeptNode e (shut n)) (sym at) node)

  finished_last : IsFinished last.amf3.arena
  finished_last = finished_by last.amf3.arena good_last.kept (subst AllClosed (sym here) (refl, k.adds.closed))

  pub completes_last : Completes z.amf3.arena last.amf3.arena
  completes_last = record {
    finished = finished_last;
    more_texts = [];
    texts = sym (append-nil z.amf3.arena.texts);
    more_traits = [];
    traits = sym (append-nil z.amf3.arena.traits);
    nodes = subst (λ l. NodesComplete l last.amf3.arena.nodes) (sym k.adds.nodes) (subst (NodesComplete (q ∷ k.adds.more)) (ap (λ l. shut q ∷ l) (append-nil k.adds.more) ∙ sym here) (nodes_changed [] q (shut q) k.adds.more [] (shut_completes q)));
  }

  abbrev root : Stored
  root = NodeRef (record { 0 = 0 })

  some_node : 0 < length last.amf3.arena.nodes
  some_node = omega (arith, ap length here)

  first_is : node_at (graph_of last.amf3.arena root) 0 ≡ node_content last.amf3.arena (shut q)
  first_is = content_at last.amf3.arena last.amf3.arena.nodes 0 some_node ∙ ap (λ l. node_content last.amf3.arena (get_or l 0 no_stored)) here

  pub holds_pairs : IsPairHolder (graph_of last.amf3.arena root) 0
  holds_pairs = record {
    root = refl;
    there = omega (arith, some_node, length-map last.amf3.arena.nodes (node_content last.amf3.arena));
    head = ap (λ (n : graph.Node). n.head) first_is ∙ head_is last.amf3.arena from_start;
    unsealed = ap (λ (n : graph.Node). n.values) first_is ∙ no_values last.amf3.arena;
  }

  pub its_names : (node_at (graph_of last.amf3.arena root) 0).names ≡ pairs_content last.amf3.arena k.adds.names
  its_names = ap (λ (n : graph.Node). n.names) first_is

  pub how_many : length (pairs_content last.amf3.arena k.adds.names) ≡ m
  how_many = length-map k.adds.names (λ p. (arena.text_at last.amf3.arena p.0, value_content last.amf3.arena p.1)) ∙ k.many

  pub its_pairs : PairsBy w.name (w.value last.amf3.arena root) (pairs_content last.amf3.arena k.adds.names) (w.tab no_pairs) fs (w.tab z)
  its_pairs = k.spelled last.amf3.arena root completes_last

-- The whole file.

pub record PairsRead (version : SolVersion) (m : ℕ) (fs : List Field) : Type 0 where
  pub holder : graph.Graph
  pub pairs : PairsOf free version holder fs
  pub many : length pairs.pairs ≡ m

abbrev pub holder_graph : State0 → graph.Graph
holder_graph z = graph_of (changed0 shut 0 z).amf3.arena (NodeRef (record { 0 = 0 }))

abbrev pub pairs_are0 : (m : ℕ) (fs : List Field) (z : State0) → Many ways0 m the_holder [] no_pairs fs z → PairsOf free Amf0 (holder_graph z) fs
pairs_are0 m fs z k = record { holder = 0; is_holder = holds_pairs ways0 m fs z k; pairs = pairs_content (changed0 shut 0 z).amf3.arena k.adds.names; same_names = ap by_name (sym (its_names ways0 m fs z k)); in_order = tt; spelled = (ways0.tab z, its_pairs ways0 m fs z k) }

abbrev pub pairs_are3 : (m : ℕ) (fs : List Field) (z : State0) → Many ways3 m the_holder [] no_pairs fs z → PairsOf free Amf3 (holder_graph z) fs
pairs_are3 m fs z k = record { holder = 0; is_holder = holds_pairs ways3 m fs z k; pairs = pairs_content (changed0 shut 0 z).amf3.arena k.adds.names; same_names = ap by_name (sym (its_names ways3 m fs z k)); in_order = tt; spelled = (ways3.tab z, its_pairs ways3 m fs z k) }

-- the pairs up to a state, in the graph that it is then
pub closed_pairs : (n m : ℕ) (version : SolVersion) (name : List ℕ) (fs : List Field) (s : State0) → AreBytes (flat fs) → Runs (steps (pair_layout n) m (file version name no_pairs)) fs (file version name s) → PairsOf free version (holder_graph s) fs
closed_pairs n m Amf0 name fs s bytes r =
    let o = many0 n m name the_holder [] no_pairs fs (file Amf0 name s) refl good_holder refl bytes r in
    subst (λ y. PairsOf free Amf0 (holder_graph y) fs) (sym (ap (λ (f : FileState). f.state) o.is)) (pairs_are0 m fs o.behind o.many)
closed_pairs n m Amf3 name fs s bytes r =
    let o = many3 n m name the_holder [] no_pairs fs (file Amf3 name s) refl good_holder refl bytes r in
    subst (λ y. PairsOf free Amf3 (holder_graph y) fs) (sym (ap (λ (f : FileState). f.state) o.is)) (pairs_are3 m fs o.behind o.many)

pub pairs_sound : (n m : ℕ) (version : SolVersion) (name : List ℕ) (fs : List Field) (z : FileState) → AreBytes (flat fs) → Runs (steps (pair_layout n) m (file version name no_pairs)) fs z → PairsRead version m fs
pairs_sound n m Amf0 name fs z bytes r = let o = many0 n m name the_holder [] no_pairs fs z refl good_holder refl bytes r in record { holder = holder_graph o.behind; pairs = pairs_are0 m fs o.behind o.many; many = how_many ways0 m fs o.behind o.many }
pairs_sound n m Amf3 name fs z bytes r = let o = many3 n m name the_holder [] no_pairs fs z refl good_holder refl bytes r in record { holder = holder_graph o.behind; pairs = pairs_are3 m fs o.behind o.many; many = how_many ways3 m fs o.behind o.many }

-- the fields before the first pair, and the pairs behind them
abbrev pub file_spelled : (front back : List Field) (f : FileState) (h : HeadSound front f) (g : graph.Graph) → PairsOf free h.version g back → SpellsFile free (record { name = h.text; version = h.version; holder = g }) (front ++ back)
file_spelled front back f h g p =
    let rest = second_signature ∷ h.name ++ padding ∷ version_field h.version ∷ back in
    let cut : front ++ back ≡ signature ∷ length_field h.size ∷ rest = ap (λ l. l ++ back) h.fields ∙ ap (λ l. signature ∷ length_field h.size ∷ second_signature ∷ l) (append_assoc h.name (padding ∷ version_field h.version ∷ []) back) in
    record { size = h.size; rest = rest; in_bits = h.in_bits; right = tt; behind = record { name = h.name; pairs = back; named = h.named; held = p; fields = refl }; fields = cut }

pub file_of : (m : ℕ) (front back : List Field) (f : FileState) (h : HeadSound front f) → PairsRead h.version m back → HasPairs m (front ++ back)
file_of m front back f h p = (record { name = h.text; version = h.version; holder = p.holder }, file_spelled front back f h p.holder p.pairs, p.many)

pub file_sound : (m n : ℕ) (fs : List Field) (z : FileState) → AreBytes (flat fs) → Runs (after_head head_layout (pair_layout n) m) fs z → HasPairs m fs
file_sound m n fs z bytes r =
    let a = bind_runs head_layout (λ f. steps (pair_layout n) m f) fs z r in
    let ab = bytes_parts fs a.front a.back a.parts bytes in
    let h = head_sound a.front a.value ab.0 a.first in
    let p = pairs_sound n m h.version h.text a.back z ab.1 (subst (λ f. Runs (steps (pair_layout n) m f) a.back z) h.is a.second) in
    subst (HasPairs m) (sym a.parts) (file_of m a.front a.back a.value h p)
