-- What a node holds, as its view shows it.
use Rattle.std.proofs.Common.{◌≡◌, ℕ, ◌<◌, List, [], length, refl, sym, ap, ◌∙◌, subst}
use Rattle.std.proofs.Math.ListN.{get_or-map}
use Rattle.std.proofs.lemmas.List.{length-map}
use Rattle.json.specs.Token.{Token}
use Rattle.json.specs.Tree.{json_tokens}
use Rattle.amf_graph.specs.declared.value.Value.{Value as Stored}
use Rattle.amf_graph.specs.Arena.{Arena, StoredHead, StoredNode, object, IsFinished, IsNodeIn, head_content, node_content, graph_of, value_content, traits_at}
use Rattle.amf_graph.specs.Building.{stored_at, no_stored, closed}
use Rattle.amf_graph.specs.Graph.{node_at}
use Rattle.amf_text_write.proofs.Each.{each_there}
use Rattle.amf_text.specs.Scalars.{AreDigits}
use Rattle.amf_text.specs.Told.{Way, told, told_node}
use Rattle.amf_text_write.specs.declared.waiting.Piece.{Piece}
use Rattle.amf_text_write.specs.Laid.{Shown}
use Rattle.amf_text_write.specs.Opening.{Opens, body_tokens, node_tokens}
use Rattle.amf_text_write.specs.Tells.{Tells}
use Rattle.amf_text_write.proofs.Opened.{opens_whole, opens_as}

pub node_in : (a : Arena) (i : ℕ) (n : StoredNode) → IsFinished a → i < length a.nodes → stored_at a i ≡ n → IsNodeIn a n
node_in a i n f l e = subst (λ (m : StoredNode). IsNodeIn a m) e (each_there (IsNodeIn a) a.nodes i no_stored f.built.nodes l)

-- an object has a value for each sealed name
pub each_sealed : (a : Arena) (t : ℕ) (ps : List (ℕ × Stored)) (vs : List Stored) → IsNodeIn a (closed (object t) ps vs) → length vs ≡ length (traits_at a t).sealed
each_sealed a t ps vs h = sym (length-map vs (value_content a)) ∙ (h.fits refl).0

module _ (a : Arena) (root : Stored) (m i : ℕ) where
  -- the tokens of what is kept
  abbrev pub kept_tokens : StoredNode → Way → List Token
  kept_tokens n w = body_tokens (graph_of a root) m (head_content a n.head) (node_content a n).names (node_content a n).values w

  pub node_told : (n : StoredNode) (w : Way) → stored_at a i ≡ n → kept_tokens n w ≡ node_tokens (graph_of a root) m i w
  node_told n w e = ap (λ k. json_tokens (told_node w (told w (graph_of a root) m) k)) (sym (get_or-map (node_content a) a.nodes i no_stored ∙ ap (node_content a) e))

  pub node_opens : (n : StoredNode) (old new : List Piece) (s t : Shown) → stored_at a i ≡ n → Opens (graph_of a root) a (kept_tokens n) old new s t → Opens (graph_of a root) a (node_tokens (graph_of a root) m i) old new s t
  node_opens n old new s t e o = opens_as (graph_of a root) a (kept_tokens n) (node_tokens (graph_of a root) m i) old new s t (λ w. node_told n w e) o

  -- a node without values is told as a whole
  pub node_whole : (h : StoredHead) (old : List Piece) (s t : Shown) (ts : Way → List Token) → stored_at a i ≡ closed h [] [] → ((w : Way) → ts w ≡ kept_tokens (closed h [] []) w) → ((w : Way) → AreDigits w.digits → Tells (ts w) s t)
      → Opens (graph_of a root) a (node_tokens (graph_of a root) m i) old old s t
  node_whole h old s t ts e same tells =
      opens_whole (graph_of a root) a (λ w. told_node w (told w (graph_of a root) m) (node_at (graph_of a root) i)) old s t (λ w are. subst (λ us. Tells us s t) (same w ∙ node_told (closed h [] []) w e) (tells w are))
