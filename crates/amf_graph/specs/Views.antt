-- What a view of a node and of traits shows.
use Rattle.std.specs.Prelude.{◌≡◌, ℕ, List, [], ◌∷◌, map}
use Rattle.amf_graph.specs.declared.value.Value.{Value as Stored}
use Rattle.amf_graph.specs.declared.value.TextId.{TextId}
use Rattle.amf_graph.specs.declared.views.NodeView.{NodeView}
use Rattle.amf_graph.specs.declared.views.NodeView.TheVariants as view
use Rattle.amf_graph.specs.declared.views.TraitsView.{TraitsView}
use Rattle.amf_graph.specs.Arena.{Arena, StoredTraits, xml_document, date, array, object, wrapper, xml, bytes, ints, uints, doubles, values, dictionary, StoredNode, text_at}
use Rattle.amf_graph.specs.Building.{stored_traits, closed}

-- names by their places
abbrev pub named : List (TextId × Stored) → List (ℕ × Stored)
named ps = map (λ p. (p.0.0, p.1)) ps

-- each key and then its value
abbrev pub flat : List (Stored × Stored) → List Stored
flat [] = []
flat (p ∷ ps) = p.0 ∷ p.1 ∷ flat ps

-- the node is closed, and this is what it holds: texts by content, and the rest by place
abbrev pub Shows : Arena → StoredNode → NodeView → Type 0
Shows a n (view.XmlDocument text) = (x : ℕ) × (n ≡ closed (xml_document x) [] []) × (text.now ≡ text_at a x)
Shows a n (view.Xml text) = (x : ℕ) × (n ≡ closed (xml x) [] []) × (text.now ≡ text_at a x)
Shows a n (view.Date p) = n ≡ closed (date p.0) [] []
Shows a n (view.Bytes x) = n ≡ closed (bytes x.now) [] []
Shows a n (view.Ints fixed items) = n ≡ closed (ints fixed items.now) [] []
Shows a n (view.Uints fixed items) = n ≡ closed (uints fixed items.now) [] []
Shows a n (view.Doubles fixed items) = n ≡ closed (doubles fixed (map (λ p. p.0) items.now)) [] []
Shows a n (view.Array items names) = n ≡ closed array (named names.now) items.now
Shows a n (view.Object t sealed members) = n ≡ closed (object t.0) (named members.now) sealed.now
Shows a n (view.Wrapper class value) = n ≡ closed (wrapper class) [] (value ∷ [])
Shows a n (view.Values fixed of items) = n ≡ closed (values fixed of.0) [] items.now
Shows a n (view.Dictionary weak entries) = n ≡ closed (dictionary weak) [] (flat entries.now)

-- these traits
abbrev pub ShowsTraits : StoredTraits → TraitsView → Type 0
ShowsTraits t v = t ≡ stored_traits v.class v.dynamic v.sealed.now
