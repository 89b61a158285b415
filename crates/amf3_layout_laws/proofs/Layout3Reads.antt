-- What is read into an arena of a builder and its tables.
use Rattle.std.proofs.Common.{◌≡◌, ℕ, false, List, [], ◌∷◌, ◌++◌, length, refl, sym, ap, subst}
use Rattle.std.specs.List.{AllByRecursion}
use Rattle.amf_io.specs.Field.{Field, AreBytes, flat}
use Rattle.amf_io.specs.Layout.{Runs}
use Rattle.amf_graph.specs.Graph as graph
use Rattle.amf_graph.specs.Arena.{StoredNode, Arena, MayFit, IsTraitsIn, IsNodeIn, IsBuilt, graph_of, head_content, node_content, value_content}
use Rattle.amf3_spelling.specs.Tables.{Tables}
use Rattle.amf3_spelling.specs.KeptTables.{KeptTables, AreTablesIn, tables_of, below}
use Rattle.amf3_spelling.specs.Reads3.{IsRead3}
use Rattle.amf3_spelling.specs.Spells3.{SpellsIn}
use Rattle.amf_wire.specs.Style.{free}
use Rattle.amf3_layout_laws.specs.Layout3State.{state_of}
use Rattle.amf3_layout_laws.specs.Layout3.{ValueRead, value_layout}
use Rattle.amf3_layout_laws.proofs.Layout3Contents.{all_more, Larger, head_stays, pairs_stay, values_stay, KeptNode, Kept, Good}
use Rattle.amf3_layout_laws.proofs.Layout3SoundParts.{AllClosed}
use Rattle.amf3_layout_laws.proofs.Layout3Sound.{value_sound}

pub good_start : (a : Arena) (t : KeptTables) → IsBuilt a → AreTablesIn a t → Good (state_of a t)
good_start a t b v = record { kept = record { texts = b.texts; traits = b.traits; nodes = all_more (IsNodeIn a) (KeptNode a) a.nodes (λ n h. record { head = h.head; names = h.names; values = h.values; fits = h.fits }) b.nodes }; tables = v; words = refl; marks = refl }

room_is : (h k : graph.Head) (ps qs : List (List ℕ × graph.Value)) (vs ws : List graph.Value) → h ≡ k → ps ≡ qs → vs ≡ ws → MayFit h ps vs → MayFit k qs ws
room_is h k ps qs vs ws p q r f = subst (λ x. MayFit x qs ws) p (subst (λ x. MayFit h x ws) q (subst (λ x. MayFit h ps x) r f))

-- an open node that was there keeps its room
node_there : (a b : Arena) → Larger a b → AllByRecursion (IsTraitsIn a) a.traits → (n : StoredNode) → IsNodeIn a n → KeptNode b n → IsNodeIn b n
node_there a b l all n h k = record {
  head = k.head;
  names = k.names;
  values = k.values;
  room = λ e. room_is (head_content a n.head) (head_content b n.head) (node_content a n).names (node_content b n).names (node_content a n).values (node_content b n).values (sym (head_stays a b l n.head all h.head)) (sym (pairs_stay a b l n.names h.names)) (sym (values_stay a b l n.values h.values)) (h.room e);
  fits = k.fits;
}

node_closed : (b : Arena) (n : StoredNode) → n.is_open ≡ false → KeptNode b n → IsNodeIn b n
node_closed b n c k = record { head = k.head; names = k.names; values = k.values; room = λ e. cc; fits = k.fits }

nodes_in : (a b : Arena) → Larger a b → AllByRecursion (IsTraitsIn a) a.traits → (old more : List StoredNode) → AllByRecursion (IsNodeIn a) old → AllClosed more → AllByRecursion (KeptNode b) (old ++ more) → AllByRecursion (IsNodeIn b) (old ++ more)
nodes_in a b l all [] [] h c k = k
nodes_in a b l all [] (n ∷ more) h c k = (node_closed b n c.0 k.0, nodes_in a b l all [] more h c.1 k.1)
nodes_in a b l all (n ∷ old) more h c k = (node_there a b l all n h.0 k.0, nodes_in a b l all old more h.1 c k.1)

-- what is there afterwards is a builder's arena again
pub grown_built : (a b : Arena) (more : List StoredNode) → IsBuilt a → Larger a b → Kept b → b.nodes ≡ a.nodes ++ more → AllClosed more → IsBuilt b
grown_built a b more o l k nodes closed = record { texts = k.texts; traits = k.traits; nodes = subst (AllByRecursion (IsNodeIn b)) (sym nodes) (nodes_in a b l o.traits a.nodes more o.nodes closed (subst (AllByRecursion (KeptNode b)) nodes k.nodes)) }

pub reads : (n : ℕ) (a : Arena) (t : KeptTables) (fs : List Field) (x : ValueRead) → IsBuilt a → AreTablesIn a t → AreBytes (flat fs) → Runs (value_layout n (state_of a t)) fs x → IsRead3 a t fs x.state.arena x.state.tables x.value
reads n a t fs x b v h r =
    let z = value_sound n (state_of a t) fs x (good_start a t b v) h r in
    record {
      grows = record { more_texts = z.larger.more_texts; texts = z.larger.texts; more_traits = z.larger.more_traits; traits = z.larger.traits; more_nodes = z.more; nodes = z.nodes; closed = z.closed };
      built = λ o. grown_built a x.state.arena z.more o z.larger z.good.kept z.nodes z.closed;
      value = z.named;
      tables = z.good.tables;
      spelled = λ g c. (n, subst (λ w. SpellsIn n free (graph_of g x.value) (value_content g x.value) (tables_of a t) fs w) (ap (λ w. let k : Tables = record { words = w; nodes = x.state.tables.nodes; done = below (length x.state.arena.nodes) } in k) z.good.words) (z.spelled g x.value c));
    }
