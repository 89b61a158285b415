-- The entries of a dictionary as its values.
use Rattle.std.proofs.Common.{◌≡◌, ◌*◌, List, [], ◌∷◌, ◌++◌, length, refl, ap, arith}
use Rattle.amf_graph.specs.declared.value.Value.{Value as Stored}
use Rattle.amf_graph.specs.Views.{flat}

pub flat_push : (es : List (Stored × Stored)) (k v : Stored) → flat (es ++ (k, v) ∷ []) ≡ flat es ++ k ∷ v ∷ []
flat_push [] k v = refl
flat_push (e ∷ es) k v = ap (λ vs. e.0 ∷ e.1 ∷ vs) (flat_push es k v)

pub length_flat : (es : List (Stored × Stored)) → length (flat es) ≡ 2 * length es
length_flat [] = refl
length_flat (e ∷ es) = omega (arith, length_flat es)
