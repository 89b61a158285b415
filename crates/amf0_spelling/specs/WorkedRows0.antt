-- Worked rows of AMF 0: these bytes spell these graphs, and these graphs are lowered to those.
use Rattle.std.specs.Prelude.{ℕ, ◌<◌, ◌≤◌, ◌^◌, true, false, List, [], ◌∷◌, ◌++◌, length, pos, negsuc}
use Rattle.std.specs.Int.{to_be_bytes, w16, w32}
use Rattle.amf_wire.specs.Style.{free, canonical}
use Rattle.amf_wire.specs.Text.{IsText}
use Rattle.amf_graph.specs.declared.wrapped.Wrapped.TheVariants.{ArrayCollection, ObjectProxy}
use Rattle.amf_graph.specs.Graph.{undefined, null, boolean, integer, double, text, Value, leaf, node, Traits, xml_document, date, array, object, wrapper, Head, Node, Graph}
use Rattle.amf3_spelling.specs.Spells3.{Spelled3}
use Rattle.amf3_spelling.specs.WorkedRows3.{alone, items}
use Rattle.amf0_spelling.specs.Spells0.{Spelled0}
use Rattle.amf0_spelling.specs.Lowered.{IsLoweringOf}

abbrev pub the_a : List ℕ
the_a = 0x61 ∷ []

abbrev pub the_c : List ℕ
the_c = 0x43 ∷ []

-- a dynamic object of a class, with one member
abbrev pub open_traits : List ℕ → Traits
open_traits class = record { class = class; dynamic = true; sealed = [] }

abbrev pub member : List ℕ → List ℕ → Value → Graph
member class name v = record { nodes = record { head = object (open_traits class); names = (name, v) ∷ []; values = [] } ∷ []; root = node 0 }

-- an array of values alone
abbrev pub array_of : List Value → Graph
array_of vs = record { nodes = items vs ∷ []; root = node 0 }

-- an array of names alone
abbrev pub named_array : Graph
named_array = record { nodes = record { head = array; names = (the_a, leaf null) ∷ []; values = [] } ∷ []; root = node 0 }

-- [x, x], where x is []
abbrev pub twice : Graph
twice = record { nodes = items (node 1 ∷ node 1 ∷ []) ∷ items [] ∷ []; root = node 0 }

-- a node without parts
abbrev pub only : Head → Graph
only h = record { nodes = record { head = h; names = []; values = [] } ∷ []; root = node 0 }

-- 5
abbrev pub five : ℕ
five = 0x4014000000000000

abbrev pub five_bytes : List ℕ
five_bytes = 0x40 ∷ 0x14 ∷ 0x00 ∷ 0x00 ∷ 0x00 ∷ 0x00 ∷ 0x00 ∷ 0x00 ∷ []

pub record Leaves0 : Type 0 where
  pub a_null : Spelled0 canonical (alone (leaf null)) (0x05 ∷ [])
  pub an_undefined : Spelled0 canonical (alone (leaf undefined)) (0x06 ∷ [])
  pub unsupported : Spelled0 free (alone (leaf undefined)) (0x0D ∷ [])
  pub undefined3 : Spelled3 canonical (alone (leaf undefined)) (0x00 ∷ [])
  pub a_false : Spelled0 canonical (alone (leaf (boolean false))) (0x01 ∷ 0x00 ∷ [])
  pub a_true : Spelled0 canonical (alone (leaf (boolean true))) (0x01 ∷ 0x01 ∷ [])
  pub odd_true : Spelled0 free (alone (leaf (boolean true))) (0x01 ∷ 0xFF ∷ [])
  pub a_double : Spelled0 canonical (alone (leaf (double five))) (0x00 ∷ five_bytes)
  pub a_text : Spelled0 canonical (alone (leaf (text the_a))) (0x02 ∷ 0x00 ∷ 0x01 ∷ 0x61 ∷ [])
  pub a_long_text : Spelled0 free (alone (leaf (text the_a))) (0x0C ∷ 0x00 ∷ 0x00 ∷ 0x00 ∷ 0x01 ∷ 0x61 ∷ [])
  -- a text from 2^16 bytes on has 32 bits of length, and a shorter one 16
  pub shorter_text : (x : List ℕ) → IsText x → length x < 2 ^ 16 → Spelled0 canonical (alone (leaf (text x))) (0x02 ∷ to_be_bytes w16 (length x) ++ x)
  pub longer_text : (x : List ℕ) → IsText x → 2 ^ 16 ≤ length x → length x < 2 ^ 32 → Spelled0 canonical (alone (leaf (text x))) (0x0C ∷ to_be_bytes w32 (length x) ++ x)
  -- an integer has a spelling in AMF 3 alone
  pub an_integer : Spelled0 free (alone (leaf (integer (pos 5)))) (0x11 ∷ 0x04 ∷ 0x05 ∷ [])
  pub no_integer : (b : List ℕ) → Spelled0 canonical (alone (leaf (integer (pos 5)))) b → ⊥

pub record Nodes0 : Type 0 where
  pub a_date : Spelled0 canonical (only (date five)) (0x0B ∷ 0x40 ∷ 0x14 ∷ 0x00 ∷ 0x00 ∷ 0x00 ∷ 0x00 ∷ 0x00 ∷ 0x00 ∷ 0x00 ∷ 0x00 ∷ [])
  pub a_zone : Spelled0 free (only (date five)) (0x0B ∷ 0x40 ∷ 0x14 ∷ 0x00 ∷ 0x00 ∷ 0x00 ∷ 0x00 ∷ 0x00 ∷ 0x00 ∷ 0x01 ∷ 0xE0 ∷ [])
  pub a_document : Spelled0 canonical (only (xml_document the_a)) (0x0F ∷ 0x00 ∷ 0x00 ∷ 0x00 ∷ 0x01 ∷ 0x61 ∷ [])
  -- a member that names the object; in AMF 3 too
  pub holds_itself : Spelled0 canonical (member [] the_a (node 0)) (0x03 ∷ 0x00 ∷ 0x01 ∷ 0x61 ∷ 0x07 ∷ 0x00 ∷ 0x00 ∷ 0x00 ∷ 0x00 ∷ 0x09 ∷ [])
  pub holds_itself3 : Spelled3 canonical (member [] the_a (node 0)) (0x0A ∷ 0x0B ∷ 0x01 ∷ 0x03 ∷ 0x61 ∷ 0x0A ∷ 0x00 ∷ 0x01 ∷ [])
  pub empty_name : Spelled0 canonical (member [] [] (leaf null)) (0x03 ∷ 0x00 ∷ 0x00 ∷ 0x05 ∷ 0x00 ∷ 0x00 ∷ 0x09 ∷ [])
  pub typed : Spelled0 canonical (member the_c the_a (leaf null)) (0x10 ∷ 0x00 ∷ 0x01 ∷ 0x43 ∷ 0x00 ∷ 0x01 ∷ 0x61 ∷ 0x05 ∷ 0x00 ∷ 0x00 ∷ 0x09 ∷ [])
  pub typed3 : Spelled3 canonical (member the_c the_a (leaf null)) (0x0A ∷ 0x0B ∷ 0x03 ∷ 0x43 ∷ 0x03 ∷ 0x61 ∷ 0x01 ∷ 0x01 ∷ [])
  -- the class may be empty, but not in the canonical spelling
  pub typed_empty : Spelled0 free (member [] the_a (leaf null)) (0x10 ∷ 0x00 ∷ 0x00 ∷ 0x00 ∷ 0x01 ∷ 0x61 ∷ 0x05 ∷ 0x00 ∷ 0x00 ∷ 0x09 ∷ [])
  -- a count that is not checked, and never so of an array without names in the canonical spelling
  pub unchecked_count : Spelled0 free (array_of []) (0x08 ∷ 0x00 ∷ 0x00 ∷ 0x00 ∷ 0x05 ∷ 0x00 ∷ 0x00 ∷ 0x09 ∷ [])
  pub empty_array : Spelled0 canonical (array_of []) (0x0A ∷ 0x00 ∷ 0x00 ∷ 0x00 ∷ 0x00 ∷ [])
  pub empty_array3 : Spelled3 canonical (array_of []) (0x09 ∷ 0x01 ∷ 0x01 ∷ [])
  pub with_names : Spelled0 canonical named_array (0x08 ∷ 0x00 ∷ 0x00 ∷ 0x00 ∷ 0x01 ∷ 0x00 ∷ 0x01 ∷ 0x61 ∷ 0x05 ∷ 0x00 ∷ 0x00 ∷ 0x09 ∷ [])
  -- AMF 3 twice in one value: the second names the array that the first spelled
  pub switched_twice : Spelled0 free twice (0x0A ∷ 0x00 ∷ 0x00 ∷ 0x00 ∷ 0x02 ∷ 0x11 ∷ 0x09 ∷ 0x01 ∷ 0x01 ∷ 0x11 ∷ 0x09 ∷ 0x00 ∷ [])
  pub named_twice : Spelled0 canonical twice (0x0A ∷ 0x00 ∷ 0x00 ∷ 0x00 ∷ 0x02 ∷ 0x0A ∷ 0x00 ∷ 0x00 ∷ 0x00 ∷ 0x00 ∷ 0x07 ∷ 0x00 ∷ 0x01 ∷ [])

-- an object with a sealed and a dynamic member
abbrev pub half_sealed : Graph
half_sealed = record { nodes = record { head = object (record { class = the_c; dynamic = true; sealed = the_a ∷ [] }); names = ([], leaf null) ∷ []; values = leaf undefined ∷ [] } ∷ []; root = node 0 }

abbrev pub unsealed : Graph
unsealed = record { nodes = record { head = object (open_traits the_c); names = (the_a, leaf undefined) ∷ ([], leaf null) ∷ []; values = [] } ∷ []; root = node 0 }

-- a proxy of a collection of an array, and two proxies of one another
abbrev pub proxy : Value → Node
proxy v = record { head = wrapper ObjectProxy; names = []; values = v ∷ [] }

abbrev pub wrapped : Graph
wrapped = record { nodes = proxy (node 1) ∷ record { head = wrapper ArrayCollection; names = []; values = node 2 ∷ [] } ∷ items [] ∷ []; root = node 0 }

abbrev pub unwrapped : Graph
unwrapped = record { nodes = record { head = wrapper ObjectProxy; names = []; values = node 2 ∷ [] } ∷ record { head = wrapper ArrayCollection; names = []; values = node 2 ∷ [] } ∷ items [] ∷ []; root = node 2 }

abbrev pub proxies : Graph
proxies = record { nodes = proxy (node 1) ∷ proxy (node 0) ∷ []; root = node 0 }

abbrev pub no_proxies : Graph
no_proxies = record { nodes = proxy (leaf null) ∷ proxy (leaf null) ∷ []; root = leaf null }

pub record Lowerings : Type 0 where
  -- an integer in AMF 3, its double, and how this is spelled
  pub five_member3 : Spelled3 free (member [] the_a (leaf (integer (pos 5)))) (0x0A ∷ 0x0B ∷ 0x01 ∷ 0x03 ∷ 0x61 ∷ 0x04 ∷ 0x05 ∷ 0x01 ∷ [])
  pub five_lowered : IsLoweringOf (member [] the_a (leaf (integer (pos 5)))) (member [] the_a (leaf (double five)))
  pub five_member : Spelled0 canonical (member [] the_a (leaf (double five))) (0x03 ∷ 0x00 ∷ 0x01 ∷ 0x61 ∷ 0x00 ∷ 0x40 ∷ 0x14 ∷ 0x00 ∷ 0x00 ∷ 0x00 ∷ 0x00 ∷ 0x00 ∷ 0x00 ∷ 0x00 ∷ 0x00 ∷ 0x09 ∷ [])
  -- the same behind the switch
  pub five_switched : Spelled0 free (array_of (leaf (integer (pos 5)) ∷ [])) (0x0A ∷ 0x00 ∷ 0x00 ∷ 0x00 ∷ 0x01 ∷ 0x11 ∷ 0x04 ∷ 0x05 ∷ [])
  pub item_lowered : IsLoweringOf (array_of (leaf (integer (pos 5)) ∷ [])) (array_of (leaf (double five) ∷ []))
  pub five_item : Spelled0 canonical (array_of (leaf (double five) ∷ [])) (0x0A ∷ 0x00 ∷ 0x00 ∷ 0x00 ∷ 0x01 ∷ 0x00 ∷ five_bytes)
  pub least_integer : IsLoweringOf (alone (leaf (integer (negsuc 268435455)))) (alone (leaf (double 0xC1B0000000000000)))
  pub sealed_first : IsLoweringOf half_sealed unsealed
  pub two_wrappers : IsLoweringOf wrapped unwrapped
  pub wrappers_for_ever : IsLoweringOf proxies no_proxies
