-- Rooted graphs, with texts and traits by their content (AMF 3, 3.2 to 3.16: the kinds of values).
use Rattle.std.specs.Prelude.{◌≡◌, ◌≢◌, ℕ, ◌<◌, ◌*◌, ◌^◌, Bool, cond, List, [], length, get_or, codes, ℤ, FitsSigned}
use Rattle.std.specs.List.{AllByRecursion}
use Rattle.std.specs.Int.{w32}
use Rattle.amf_wire.specs.Integer.{IsInteger}
use Rattle.amf_wire.specs.Text.{IsText}
use Rattle.amf_graph.specs.declared.wrapped.Wrapped.{Wrapped}
use Rattle.amf_graph.specs.declared.wrapped.Wrapped.TheVariants.{ArrayCollection, ArrayList, ObjectProxy}

-- a value that is no node; a double is its 64 bits
pub data Leaf : Type 0 where
  undefined : Leaf
  null : Leaf
  boolean : (b : Bool) → Leaf
  integer : (n : ℤ) → Leaf
  double : (p : ℕ) → Leaf
  text : (x : List ℕ) → Leaf

-- a node stands for its number
pub data Value : Type 0 where
  leaf : (x : Leaf) → Value
  node : (i : ℕ) → Value

-- a class, whether it takes further members, and the names of its sealed ones
pub record Traits : Type 0 where
  pub class : List ℕ
  pub dynamic : Bool
  pub sealed : List (List ℕ)

-- what a node has beside its values: its kind, flags, traits, class, type name and contents
pub data Head : Type 0 where
  xml_document : (x : List ℕ) → Head
  date : (p : ℕ) → Head
  array : Head
  object : (t : Traits) → Head
  wrapper : (class : Wrapped) → Head
  xml : (x : List ℕ) → Head
  bytes : (x : List ℕ) → Head
  ints : (is_fixed : Bool) (items : List ℤ) → Head
  uints : (is_fixed : Bool) (items : List ℕ) → Head
  doubles : (is_fixed : Bool) (items : List ℕ) → Head
  values : (is_fixed : Bool) (type_name : List ℕ) → Head
  dictionary : (weak : Bool) → Head

-- an array's named pairs or an object's members; and dense items, sealed values, the wrapped value, items, or each key and then its value
pub record Node : Type 0 where
  pub head : Head
  pub names : List (List ℕ × Value)
  pub values : List Value

pub record Graph : Type 0 where
  pub nodes : List Node
  pub root : Value

abbrev pub no_node : Node
no_node = record { head = array; names = []; values = [] }

abbrev pub node_at : Graph → ℕ → Node
node_at g i = get_or g.nodes i no_node

abbrev pub class_name : Wrapped → List ℕ
class_name ArrayCollection = codes "flex.messaging.io.ArrayCollection"
class_name ArrayList = codes "flex.messaging.io.ArrayList"
class_name ObjectProxy = codes "flex.messaging.io.ObjectProxy"

-- the numbers and texts are ones that the formats have

abbrev pub IsPattern : ℕ → Type 0
IsPattern p = p < 2 ^ 64

abbrev pub IsLeaf : Leaf → Type 0
IsLeaf (integer n) = IsInteger n
IsLeaf (double p) = IsPattern p
IsLeaf (text x) = IsText x
IsLeaf _ = Unit {0}

abbrev pub IsValue : Value → Type 0
IsValue (leaf x) = IsLeaf x
IsValue (node i) = Unit {0}

abbrev pub AreMembers : Bool → List (List ℕ × Value) → Type 0
AreMembers dynamic ps = cond dynamic (Unit {0}) (ps ≡ [])

-- the contents and the numbers of parts that each kind has
abbrev pub Fits : Head → List (List ℕ × Value) → List Value → Type 0
Fits (xml_document x) ps vs = IsText x × (ps ≡ []) × (vs ≡ [])
Fits (date p) ps vs = IsPattern p × (ps ≡ []) × (vs ≡ [])
Fits array ps vs = Unit {0}
Fits (object t) ps vs = (length vs ≡ length t.sealed) × AreMembers t.dynamic ps
Fits (wrapper c) ps vs = (ps ≡ []) × (length vs ≡ 1)
Fits (xml x) ps vs = IsText x × (ps ≡ []) × (vs ≡ [])
Fits (bytes x) ps vs = AllByRecursion (λ b. b < 256) x × (ps ≡ []) × (vs ≡ [])
Fits (ints f ns) ps vs = AllByRecursion (FitsSigned w32) ns × (ps ≡ []) × (vs ≡ [])
Fits (uints f ns) ps vs = AllByRecursion (λ n. n < 2 ^ 32) ns × (ps ≡ []) × (vs ≡ [])
Fits (doubles f ns) ps vs = AllByRecursion IsPattern ns × (ps ≡ []) × (vs ≡ [])
Fits (values f x) ps vs = ps ≡ []
Fits (dictionary f) ps vs = (ps ≡ []) × (n : ℕ) × (length vs ≡ 2 * n)

-- the class, the sealed names and the type name are texts
abbrev pub HasHeadTexts : Head → Type 0
HasHeadTexts (object t) = IsText t.class × AllByRecursion IsText t.sealed
HasHeadTexts (values f x) = IsText x
HasHeadTexts _ = Unit {0}

-- and so are the names of its pairs
pub record HasTexts (a : Node) : Type 0 where
  pub head : HasHeadTexts a.head
  pub names : AllByRecursion (λ p. IsText p.0) a.names

-- no name is empty
abbrev pub AllNamed : List (List ℕ × Value) → Type 0
AllNamed = AllByRecursion (λ p. p.0 ≢ [])
