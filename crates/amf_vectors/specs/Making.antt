-- What a builder holds while the graph is made. A device of proofs.
use Rattle.std.specs.Prelude.{ℕ, suc, ◌/◌, ◌%◌, Bool, true, false, [], ◌∷◌, codes, pos}
use Rattle.amf_graph.specs.declared.value.Value.{Value as Stored}
use Rattle.amf_graph.specs.declared.value.Value.TheVariants.{Integer, Node as NodeRef}
use Rattle.amf_graph.specs.Arena.{Arena, StoredTraits, StoredNode, array, object}
use Rattle.amf_vectors.specs.Made.{number, each}

abbrev pub stored_plain : StoredTraits
stored_plain = record { class = 0; dynamic = true; sealed = [] }

abbrev pub reference : ℕ → Stored
reference i = NodeRef (record { 0 = i })

abbrev pub stored_object : ℕ → ℕ → StoredNode
stored_object seed i = record {
  is_open = false;
  head = object 0;
  names = (1, Integer (pos (number seed i / 65536))) ∷ (2, reference (number seed i % suc i)) ∷ [];
  values = [];
}

abbrev pub stored_array : Bool → ℕ → StoredNode
stored_array is_open n = record { is_open = is_open; head = array; names = []; values = each reference n }

-- the arena with n objects, the array open or closed
abbrev pub making : Bool → ℕ → ℕ → Arena
making is_open seed n = record {
  texts = [] ∷ codes "k" ∷ codes "p" ∷ [];
  traits = stored_plain ∷ [];
  nodes = stored_array is_open n ∷ each (stored_object seed) n;
}
