-- What is kept of a node, as its model. A device of proofs.
use Rattle.std.specs.Prelude.{◌≡◌, ℕ, Bool, List, [], length, ◌<◌, ◌^◌, FitsSigned}
use Rattle.std.specs.List.{AllByRecursion}
use Rattle.std.specs.Int.{w32}
use Rattle.amf_graph.specs.declared.value.Value.{Value as Stored}
use Rattle.amf_graph.specs.declared.body.Body.{Body}
use Rattle.amf_graph.specs.declared.body.Body.TheVariants as body
use Rattle.amf_graph.specs.declared.part.Part.{Part}
use Rattle.amf_graph.specs.declared.part.Part.TheVariants.{Item, Named, Entry}
use Rattle.amf_graph.specs.Graph.{IsPattern}
use Rattle.amf_graph.specs.Arena.{StoredHead, date, array, object, wrapper, bytes, ints, uints, doubles, values, dictionary, StoredNode}
use Rattle.amf_graph.specs.Building.{leaf_head}
use Rattle.amf_graph.specs.Held.{form_head}
use Rattle.amf_graph.specs.Views.{named, flat}

abbrev pub body_head : Body → StoredHead
body_head (body.Leaf l) = leaf_head l
body_head (body.Bytes x) = bytes x.now
body_head (body.Parts f vs ps) = form_head f
body_head (body.Dictionary f es) = dictionary f

abbrev pub body_names : Body → List (ℕ × Stored)
body_names (body.Leaf l) = []
body_names (body.Bytes x) = []
body_names (body.Parts s vs ps) = named ps.items
body_names (body.Dictionary f es) = []

abbrev pub body_values : Body → List Stored
body_values (body.Leaf l) = []
body_values (body.Bytes x) = []
body_values (body.Parts s vs ps) = vs.items
body_values (body.Dictionary f es) = flat es.items

abbrev pub body_node : Bool → Body → StoredNode
body_node is_open b = record { is_open = is_open; head = body_head b; names = body_names b; values = body_values b }

-- the kinds that take such a part; a wrapper takes one value

abbrev pub TakesItem : StoredHead → List Stored → Type 0
TakesItem array vs = Unit {0}
TakesItem (object t) vs = Unit {0}
TakesItem (wrapper c) vs = vs ≡ []
TakesItem (values f x) vs = Unit {0}
TakesItem _ vs = ⊥

abbrev pub TakesName : StoredHead → Type 0
TakesName array = Unit {0}
TakesName (object t) = Unit {0}
TakesName _ = ⊥

abbrev pub TakesEntry : StoredHead → Type 0
TakesEntry (dictionary f) = Unit {0}
TakesEntry _ = ⊥

abbrev pub TakesPart : StoredNode → Part → Type 0
TakesPart n (Item v) = TakesItem n.head n.values
TakesPart n (Named x v) = TakesName n.head
TakesPart n (Entry k v) = TakesEntry n.head

-- the numbers in the node are ones that the formats have
abbrev pub HasRange : StoredHead → Type 0
HasRange (date p) = IsPattern p
HasRange (bytes x) = AllByRecursion (λ b. b < 256) x
HasRange (ints f ns) = AllByRecursion (FitsSigned w32) ns
HasRange (uints f ns) = AllByRecursion (λ n. n < 2 ^ 32) ns
HasRange (doubles f ns) = AllByRecursion IsPattern ns
HasRange _ = Unit {0}

-- a closed node of this kind has so many parts
abbrev pub HasParts : StoredHead → List (ℕ × Stored) → List Stored → Type 0
HasParts array ps vs = Unit {0}
HasParts (object t) ps vs = Unit {0}
HasParts (wrapper c) ps vs = (ps ≡ []) × (length vs ≡ 1)
HasParts (values f x) ps vs = ps ≡ []
HasParts h ps vs = Unit {0}
