-- Entries of dictionaries, one more.
use Rattle.std.proofs.Common.{◌≡◌, ℕ, ◌+◌, ◌<◌, List, [], ◌∷◌, ◌++◌, length, take, get_or, refl, ap, add-one}
use Rattle.std.proofs.Math.Seq.{take-suc}
use Rattle.amf_graph.specs.declared.value.Value.{Value as Stored}
use Rattle.amf_graph.specs.Views.{flat}

flat_push : (es : List (Stored × Stored)) (e : Stored × Stored) → flat (es ++ e ∷ []) ≡ flat es ++ e.0 ∷ e.1 ∷ []
flat_push [] e = refl
flat_push (f ∷ es) e = ap (λ z. f.0 ∷ f.1 ∷ z) (flat_push es e)

pub entry_more : (es : List (Stored × Stored)) (i : ℕ) (d : Stored × Stored) → i < length es → flat (take (i + 1) es) ≡ flat (take i es) ++ (get_or es i d).0 ∷ (get_or es i d).1 ∷ []
entry_more es i d l = rw (add-one, take-suc es i d l, flat_push) refl
