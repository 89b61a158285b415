-- The rows of kinds.
use Rattle.std.proofs.Common.{◌≡◌, ℕ, ◌*◌, ◌^◌, ◌<◌, true, false, [], ◌∷◌, arith}
use Rattle.amf_graph.specs.declared.wrapped.Wrapped.TheVariants.{ArrayList}
use Rattle.amf_graph.specs.Graph.{null, leaf, object, wrapper, bytes, uints, doubles, values, dictionary, Fits}
use Rattle.amf_graph.specs.WorkedFits.{one_pair, traits_of}

some_pair : one_pair ≡ [] → ⊥
some_pair e = cc

other_count : (m n : ℕ) → m ≡ n → m < n → ⊥
other_count m n e l = omega arith

more_count : (m n : ℕ) → m ≡ n → n < m → ⊥
more_count m n e l = omega arith

not_below : (n : ℕ) → n < n → ⊥
not_below n l = omega arith

pub sealed_value_missing : Fits (object (traits_of ((0x61 ∷ []) ∷ []))) [] [] → ⊥
sealed_value_missing h = other_count 0 1 h.0 (omega arith)

pub member_of_no_dynamic_class : Fits (object (traits_of [])) one_pair [] → ⊥
member_of_no_dynamic_class h = some_pair h.1

pub nothing_wrapped : Fits (wrapper ArrayList) [] [] → ⊥
nothing_wrapped h = other_count 0 1 h.1 (omega arith)

pub two_wrapped : Fits (wrapper ArrayList) [] (leaf null ∷ leaf null ∷ []) → ⊥
two_wrapped h = more_count 2 1 h.1 (omega arith)

pub no_byte : Fits (bytes (256 ∷ [])) [] [] → ⊥
no_byte h = not_below 256 h.0.0

pub no_uint : Fits (uints true (2 ^ 32 ∷ [])) [] [] → ⊥
no_uint h = not_below (2 ^ 32) h.0.0

pub no_pattern : Fits (doubles true (2 ^ 64 ∷ [])) [] [] → ⊥
no_pattern h = not_below (2 ^ 64) h.0.0

pub named_value : Fits (values true []) one_pair [] → ⊥
named_value h = some_pair h

pub key_alone : Fits (dictionary false) [] (leaf null ∷ []) → ⊥
key_alone (e, n, h) = odd n h
  where
    odd : (n : ℕ) → 1 ≡ 2 * n → ⊥
    odd n h = omega arith
