-- The named values of a node, as its view shows them.
use Rattle.std.proofs.Common.{◌≡◌, ℕ, List, [], ◌∷◌, ◌++◌, sym, ap, ◌∙◌, map, refl, subst, append-nil}
use Rattle.std.proofs.Math.ListN.{get_or-map}
use Rattle.std.specs.Borrow.{Bor}
use Rattle.std.specs.Prelude.{codes}
use Rattle.json.specs.Token.{key}
use Rattle.json.specs.Tree.{json_tokens}
use Rattle.amf_graph.specs.declared.value.Value.{Value as Stored}
use Rattle.amf_graph.specs.declared.value.TextId.{TextId}
use Rattle.amf_graph.specs.declared.value.TraitsId.{TraitsId}
use Rattle.amf_graph.specs.declared.views.NodeView.{NodeView}
use Rattle.amf_graph.specs.declared.views.NodeView.TheVariants as view
use Rattle.amf_graph.specs.Arena.{Arena, StoredNode, StoredHead, text_at, value_content, node_content, graph_of}
use Rattle.amf_graph.specs.Building.{stored_at, no_stored, closed}
use Rattle.amf_graph.specs.ByName.{by_name}
use Rattle.amf_graph.specs.Graph.{node_at}
use Rattle.amf_graph.specs.Views.{named, Shows}
use Rattle.amf_iso.specs.Contents.{pairs_of}
use Rattle.amf_text.specs.Told as told
use Rattle.amf_text_write.specs.declared.waiting.Piece.{Piece}
use Rattle.amf_text_write.specs.declared.way.Way.{Way}
use Rattle.amf_text_write.specs.Graphs.{pairs_member}
use Rattle.amf_text_write.specs.Laid.{Shown, with_more}
use Rattle.amf_text_write.specs.PartsInWay.{PutsIn, by_name_in}
use Rattle.amf_text_write.specs.Tells.{Tells}
use Rattle.amf_text_write.specs.Walk.{left_in}
use Rattle.amf_text_write.specs.Ways.{graph_in}
use Rattle.amf_text_write.proofs.Telling.{exactly, tells_then}

content_at : (a : Arena) (root : Stored) (i : ℕ) (n : StoredNode) → stored_at a i ≡ n → node_at (graph_of a root) i ≡ node_content a n
content_at a root i n e = get_or-map (node_content a) a.nodes i no_stored ∙ ap (node_content a) e

-- named values that are kept are those of the node
pub held_pairs : (a : Arena) (root : Stored) (i : ℕ) (h : StoredHead) (ps : List (TextId × Stored)) (vs : List Stored) → stored_at a i ≡ closed h (named ps) vs → (node_at (graph_of a root) i).names ≡ pairs_of a ps
held_pairs a root i h ps vs e = ap (λ n. n.names) (content_at a root i (closed h (named ps) vs) e)

-- what is no array and no object has none
unnamed : (a : Arena) (n : StoredNode) (v : NodeView) → Shows a n v
    → ((items : Bor (List Stored)) (names : Bor (List (TextId × Stored))) → v ≡ view.Array items names → ⊥)
    → ((t : TraitsId) (sealed : Bor (List Stored)) (members : Bor (List (TextId × Stored))) → v ≡ view.Object t sealed members → ⊥) → n.names ≡ []
unnamed a n (view.XmlDocument x) s f h = ap (λ (m : StoredNode). m.names) s.1
unnamed a n (view.Xml x) s f h = ap (λ (m : StoredNode). m.names) s.1
unnamed a n (view.Date p) s f h = ap (λ (m : StoredNode). m.names) s
unnamed a n (view.Bytes x) s f h = ap (λ (m : StoredNode). m.names) s
unnamed a n (view.Ints b xs) s f h = ap (λ (m : StoredNode). m.names) s
unnamed a n (view.Uints b xs) s f h = ap (λ (m : StoredNode). m.names) s
unnamed a n (view.Doubles b xs) s f h = ap (λ (m : StoredNode). m.names) s
unnamed a n (view.Array xs ps) s f h = absurd (f xs ps refl)
unnamed a n (view.Object t xs ps) s f h = absurd (h t xs ps refl)
unnamed a n (view.Wrapper c x) s f h = ap (λ (m : StoredNode). m.names) s
unnamed a n (view.Values b x xs) s f h = ap (λ (m : StoredNode). m.names) s
unnamed a n (view.Dictionary b es) s f h = ap (λ (m : StoredNode). m.names) s

pub no_pairs : (a : Arena) (root : Stored) (i : ℕ) (v : NodeView) → Shows a (stored_at a i) v
    → ((items : Bor (List Stored)) (names : Bor (List (TextId × Stored))) → v ≡ view.Array items names → ⊥)
    → ((t : TraitsId) (sealed : Bor (List Stored)) (members : Bor (List (TextId × Stored))) → v ≡ view.Object t sealed members → ⊥) → (node_at (graph_of a root) i).names ≡ pairs_of a []
no_pairs a root i v s f h = ap (λ n. n.names) (content_at a root i (stored_at a i) refl) ∙ ap (map (λ p. (text_at a p.0, value_content a p.1))) (unnamed a (stored_at a i) v s f h)

-- pairs that waited alone were told
pub pairs_told : (c : Way) (i : ℕ) (ps : List (TextId × Stored)) (old new : List Piece) (s m t : Shown) (w : told.Way) → old ≡ [] → PutsIn c (by_name_in c 31 ps) old new → (node_at (graph_in c) i).names ≡ pairs_of c.graph.now.arena ps
    → m ≡ with_more s (key (codes "pairs") ∷ []) → Tells (left_in c new w) m t → Tells (pairs_member (graph_in c) i w) s t
pairs_told c i ps old new s m t w e p same k all =
    let ts = json_tokens (told.told_pairs w (graph_in c) (node_at (graph_in c) i)) in
    let left : left_in c new w ≡ ts = p.left w ∙ ap (λ l. by_name_in c 31 ps w ++ left_in c l w) e ∙ append-nil (by_name_in c 31 ps w) ∙ ap (λ qs. json_tokens (told.told_members (told.told_names (told.told w (graph_in c) 31) (by_name qs)))) (sym same) in
    tells_then (key (codes "pairs") ∷ []) ts s m t (exactly (key (codes "pairs") ∷ []) s m k) (subst (λ us. Tells us m t) left all)
