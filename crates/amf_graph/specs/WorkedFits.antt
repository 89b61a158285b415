-- Worked facts of kinds: contents and parts that a kind does not have (AMF 3, 3.12 to 3.16).
use Rattle.std.specs.Prelude.{ℕ, true, false, ◌^◌, List, [], ◌∷◌}
use Rattle.amf_graph.specs.declared.wrapped.Wrapped.TheVariants.{ArrayList}
use Rattle.amf_graph.specs.Graph.{null, Value, leaf, Traits, object, wrapper, bytes, uints, doubles, values, dictionary, Fits}

abbrev pub one_pair : List (List ℕ × Value)
one_pair = (0x61 ∷ [], leaf null) ∷ []

abbrev pub traits_of : List (List ℕ) → Traits
traits_of sealed = record { class = []; dynamic = false; sealed = sealed }

pub record FitRows : Type 0 where
  pub sealed_value_missing : Fits (object (traits_of ((0x61 ∷ []) ∷ []))) [] [] → ⊥
  pub member_of_no_dynamic_class : Fits (object (traits_of [])) one_pair [] → ⊥
  pub nothing_wrapped : Fits (wrapper ArrayList) [] [] → ⊥
  pub two_wrapped : Fits (wrapper ArrayList) [] (leaf null ∷ leaf null ∷ []) → ⊥
  pub no_byte : Fits (bytes (256 ∷ [])) [] [] → ⊥
  pub no_uint : Fits (uints true (2 ^ 32 ∷ [])) [] [] → ⊥
  pub no_pattern : Fits (doubles true (2 ^ 64 ∷ [])) [] [] → ⊥
  pub named_value : Fits (values true []) one_pair [] → ⊥
  pub key_alone : Fits (dictionary false) [] (leaf null ∷ []) → ⊥
