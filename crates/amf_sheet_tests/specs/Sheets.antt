-- What the sheets of the tests hold.
use Rattle.std.specs.Prelude.{ℕ, true, false, pos, [], ◌∷◌, codes}
use Rattle.amf_graph.specs.declared.value.Value.{Value as Stored}
use Rattle.amf_graph.specs.declared.value.Value.TheVariants.{Null, Integer, Text, Node as NodeRef}
use Rattle.amf_graph.specs.Arena.{Arena, array, object, values, dictionary}
use Rattle.amf_graph.specs.Building.{closed}
use Rattle.amf_sheet.specs.Telling.{untold}

abbrev pub node : ℕ → Stored
node i = NodeRef (record { 0 = i })

abbrev pub text : ℕ → Stored
text i = Text (record { 0 = i })

-- an array that holds itself, and another one twice and under a name
abbrev pub met_again : Arena
met_again = record {
  texts = codes "n" ∷ [];
  traits = [];
  nodes = closed array ((0, node 1) ∷ []) (node 0 ∷ node 1 ∷ []) ∷ closed array [] [] ∷ [];
}

-- the texts and the class of an object, and two nodes that are not told
abbrev pub begun_of_a_class : Arena
begun_of_a_class = record {
  texts = codes "C" ∷ codes "a" ∷ codes "k" ∷ codes "d" ∷ [];
  traits = record { class = 0; dynamic = true; sealed = 1 ∷ [] } ∷ [];
  nodes = untold ∷ untold ∷ [];
}

-- an object with a sealed value, a dictionary with the object as a value, and a dynamic member
abbrev pub of_a_class : Arena
of_a_class = record {
  texts = codes "C" ∷ codes "a" ∷ codes "k" ∷ codes "d" ∷ [];
  traits = record { class = 0; dynamic = true; sealed = 1 ∷ [] } ∷ [];
  nodes = closed (object 0) ((3, text 1) ∷ []) (node 1 ∷ []) ∷ closed (dictionary true) [] (text 2 ∷ node 0 ∷ []) ∷ [];
}

-- a vector of values
abbrev pub of_a_type : Arena
of_a_type = record {
  texts = codes "C" ∷ [];
  traits = [];
  nodes = closed (values false 0) [] (Null ∷ Integer (pos 5) ∷ []) ∷ [];
}
