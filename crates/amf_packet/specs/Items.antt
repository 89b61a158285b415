-- The item of a call, in a graph that is kept. A device of proofs.
use Rattle.std.specs.Prelude.{◌≡◌, ◌<◌, [], ◌∷◌, length}
use Rattle.amf_graph.specs.declared.value.NodeId.{NodeId}
use Rattle.amf_graph.specs.declared.value.Value.{Value as Stored}
use Rattle.amf_graph.specs.declared.value.Value.TheVariants.{Node}
use Rattle.amf_graph.specs.Arena.{array}
use Rattle.amf_graph.specs.Building.{stored_at}
use Rattle.amf_graph.specs.Rooted.{RootedArena}
use Rattle.amf0_spelling.specs.declared.form.Form.{Form}
use Rattle.amf0_spelling.specs.declared.form.Form.TheVariants as form
use Rattle.amf_packet.specs.declared.body.Body.{Body}
use Rattle.amf_packet.specs.declared.body.Body.TheVariants.{Call, Amf3, Plain}

-- the root is an array of this item alone
pub record IsCallOf (g : RootedArena) (item : Stored) : Type 0 where
  pub place : NodeId
  pub is_root : g.root ≡ Node place
  pub there : place.0 < length g.arena.nodes
  pub head : (stored_at g.arena place.0).head ≡ array
  pub only : (stored_at g.arena place.0).values ≡ item ∷ []

-- the body is the graph in this form; of a call it is the graph of its item
abbrev pub IsBodyOf : RootedArena → Form → Body → Type 0
IsBodyOf g form.Call (Call h) = (h.arena ≡ g.arena) × ((item : Stored) → IsCallOf g item → h.root ≡ item)
IsBodyOf g form.Amf3 (Amf3 h) = h ≡ g
IsBodyOf g form.Plain (Plain h) = h ≡ g
IsBodyOf g _ _ = ⊥
