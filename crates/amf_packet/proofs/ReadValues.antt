-- What was read from nothing is a body of its form.
use Rattle.std.proofs.Common.{◌≡◌, ℕ, zero, suc, ◌<◌, false, List, [], ◌∷◌, length, map, get_or, refl, sym, ap, ◌∙◌, subst, arith}
use Rattle.std.specs.List.{AllByRecursion}
use Rattle.amf_io.specs.Field.{Field, flat}
use Rattle.amf_wire.specs.Style.{free}
use Rattle.amf_graph.specs.declared.value.NodeId.{NodeId}
use Rattle.amf_graph.specs.declared.value.Value.{Value as Stored}
use Rattle.amf_graph.specs.declared.value.Value.TheVariants as stored
use Rattle.amf_graph.specs.Graph as graph
use Rattle.amf_graph.specs.Arena.{Arena, StoredHead, StoredNode, IsFinished, xml_document, date, array, object, wrapper, xml, bytes, ints, uints, doubles, values, dictionary, value_content, head_content, node_content, graph_of}
use Rattle.amf_graph.specs.Building.{no_arena, no_stored, stored_at}
use Rattle.amf_graph.specs.Rooted.{RootedArena, content}
use Rattle.amf_graph.proofs.FinishedSmall.{completes_itself}
use Rattle.amf3_spelling.specs.Reads3.{Grows}
use Rattle.amf3_layout_laws.proofs.Values3Layout.{no_arena_built}
use Rattle.amf0_spelling.specs.declared.form.Form.{Form}
use Rattle.amf0_spelling.specs.declared.form.Form.TheVariants as form
use Rattle.amf0_spelling.specs.Form.{IsForm}
use Rattle.amf0_spelling.specs.KeptTables0.{KeptTables0, no_kept_tables0, tables0_of}
use Rattle.amf0_spelling.specs.Spells0.{Spells0}
use Rattle.amf0_spelling.specs.Tables0.{no_tables0}
use Rattle.amf0_read.specs.declared.formed.Read0.{Read0}
use Rattle.amf0_read.specs.Answer0.{IsReadWith}
use Rattle.amf_packet.specs.declared.body.Body.{Body}
use Rattle.amf_packet.specs.declared.body.Body.TheVariants.{Call, Amf3, Plain}
use Rattle.amf_packet.specs.Content.{body_of}
use Rattle.amf_packet.specs.Items.{IsCallOf, IsBodyOf}
use Rattle.amf_packet.specs.Packet.{BodyBy}
use Rattle.amf_packet.proofs.CallItems.{CallItem, call_item}

-- all nodes are new, and closed
pub all_closed : (b : Arena) → Grows no_arena b → AllByRecursion (λ n. n.is_open ≡ false) b.nodes
all_closed b g = subst (λ ns. AllByRecursion (λ n. n.is_open ≡ false) ns) (sym g.nodes) g.closed

-- By content, and as they are kept.

is_node : (a : Arena) (v : Stored) (i : ℕ) → value_content a v ≡ graph.node i → (n : NodeId) × (v ≡ stored.Node n) × (n.0 ≡ i)
is_node a stored.Undefined i e = absurd cc
is_node a stored.Null i e = absurd cc
is_node a (stored.Bool b) i e = absurd cc
is_node a (stored.Integer n) i e = absurd cc
is_node a (stored.Double p) i e = absurd cc
is_node a (stored.Text t) i e = absurd cc
is_node a (stored.Node n) i e = (n, refl, cc)

is_array : (a : Arena) (h : StoredHead) → head_content a h ≡ graph.array → h ≡ array
is_array a (xml_document x) e = absurd cc
is_array a (date p) e = absurd cc
is_array a array e = refl
is_array a (object t) e = absurd cc
is_array a (wrapper c) e = absurd cc
is_array a (xml x) e = absurd cc
is_array a (bytes x) e = absurd cc
is_array a (ints f x) e = absurd cc
is_array a (uints f x) e = absurd cc
is_array a (doubles f x) e = absurd cc
is_array a (values f x) e = absurd cc
is_array a (dictionary f) e = absurd cc

one_value : (a : Arena) (vs : List Stored) (w : graph.Value) → map (value_content a) vs ≡ w ∷ [] → (v : Stored) × (vs ≡ v ∷ []) × (value_content a v ≡ w)
one_value a [] w e = absurd cc
one_value a (v ∷ []) w e = (v, refl, cc)
one_value a (v ∷ u ∷ vs) w e = absurd cc

content_at : (a : Arena) (ns : List StoredNode) (i : ℕ) → i < length ns → get_or (map (node_content a) ns) i graph.no_node ≡ node_content a (get_or ns i no_stored)
content_at a [] i l = absurd (omega arith)
content_at a (n ∷ ns) zero l = refl
content_at a (n ∷ ns) (suc i) l = content_at a ns i (omega arith)

map_length : {X Y : Type 0} (f : X → Y) (xs : List X) → length (map f xs) ≡ length xs
map_length f [] = refl
map_length f (x ∷ xs) = ap suc (map_length f xs)

-- What was read.

module _ (b : Arena) (u : KeptTables0) (x : Read0) (fs : List Field) (r : IsReadWith no_arena no_kept_tables0 fs b u x) where
  finished : IsFinished b
  finished = record { built = r.read.built no_arena_built; closed = all_closed b r.read.grows }

  spelled : Spells0 free (graph_of b x.value) (value_content b x.value) no_tables0 fs (tables0_of b u)
  spelled = r.read.spelled b (completes_itself b finished)

  -- a call has one item
  call_of : x.form ≡ form.Call → CallItem (map (node_content b) b.nodes) (value_content b x.value) (value_content b x.value) fs
  call_of e = call_item (map (node_content b) b.nodes) (value_content b x.value) (value_content b x.value) fs (tables0_of b u) spelled (subst (λ f. IsForm f u.switched (flat fs)) e r.form)

  record KeptItem (e : x.form ≡ form.Call) : Type 0 where
    item : Stored
    is_call : IsCallOf (record { arena = b; root = x.value }) item
    is_item : value_content b item ≡ (call_of e).item

  kept_item : (e : x.form ≡ form.Call) → KeptItem e
  kept_item e =
      let c = call_of e in
      let n = is_node b x.value c.place c.is_node in
      let there : c.place < length b.nodes = subst (λ k. c.place < k) (map_length (node_content b) b.nodes) c.there in
      let at = content_at b b.nodes c.place there in
      let w = one_value b (stored_at b c.place).values c.item (ap (λ (m : graph.Node). m.values) (sym at) ∙ c.only) in
      record {
        item = w.0;
        is_call = record {
          place = n.0;
          is_root = n.1;
          there = subst (λ k. k < length b.nodes) (sym n.2) there;
          head = ap (λ k. (stored_at b k).head) n.2 ∙ is_array b (stored_at b c.place).head (ap (λ (m : graph.Node). m.head) (sym at) ∙ c.head);
          only = ap (λ k. (stored_at b k).values) n.2 ∙ w.1;
        };
        is_item = w.2;
      }

  pub has_item : x.form ≡ form.Call → (item : Stored) × IsCallOf (record { arena = b; root = x.value }) item
  has_item e = let k = kept_item e in (k.item, k.is_call)

  formed : (f : Form) → x.form ≡ f → (body : Body) → IsBodyOf (record { arena = b; root = x.value }) f body → BodyBy free (body_of body).form (body_of body).graph fs
  formed form.Call e (Call h) (arena, root) =
      let k = kept_item e in
      let c = call_of e in
      let is : h ≡ record { arena = b; root = k.item } = both h arena (root k.item k.is_call) in
      subst (λ (z : RootedArena). BodyBy free form.Call (content z) fs) (sym is)
      (subst (λ w. BodyBy free form.Call (record { nodes = map (node_content b) b.nodes; root = w }) fs) (sym k.is_item) (c.rest, c.fields, c.spelled c.item))
    where
      both : (h : RootedArena) {w : Stored} → h.arena ≡ b → h.root ≡ w → h ≡ record { arena = b; root = w }
      both h {w} p q = ap (λ a. let z : RootedArena = record { arena = a; root = h.root } in z) p ∙ ap (λ v. let z : RootedArena = record { arena = b; root = v } in z) q
  formed form.Call e (Amf3 h) i = absurd i
  formed form.Call e (Plain h) i = absurd i
  formed form.Amf3 e (Call h) i = absurd i
  formed form.Amf3 e (Amf3 h) i = subst (λ (z : RootedArena). BodyBy free form.Amf3 (content z) fs) (sym i) (tables0_of b u, spelled, subst (λ f. IsForm f u.switched (flat fs)) e r.form)
  formed form.Amf3 e (Plain h) i = absurd i
  formed form.Plain e (Call h) i = absurd i
  formed form.Plain e (Amf3 h) i = absurd i
  formed form.Plain e (Plain h) i = subst (λ (z : RootedArena). BodyBy free form.Plain (content z) fs) (sym i) (tables0_of b u, spelled, subst (λ f. IsForm f u.switched (flat fs)) e r.form)

  -- and it is spelled so
  pub body_spelled : (body : Body) → IsBodyOf (record { arena = b; root = x.value }) x.form body → BodyBy free (body_of body).form (body_of body).graph fs
  body_spelled body i = formed x.form refl body i
