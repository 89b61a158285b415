-- The rows of lacks.
use Rattle.std.proofs.Common.{ℕ, zero, suc, ◌≤◌, List, [], ◌∷◌, refl, subst, arith, inl}
use Rattle.std.proofs.lemmas.Option.{same_Some}
use Rattle.amf_io.specs.Field.{Field}
use Rattle.amf_wire.specs.Style.{free}
use Rattle.amf_graph.specs.declared.lack.LackKind.{LackKind}
use Rattle.amf_graph.specs.declared.lack.LackKind.TheVariants.{EmptyName}
use Rattle.amf_graph.specs.Graph.{null, node_at, AllNamed}
use Rattle.amf_graph.specs.Order as order
use Rattle.amf_graph.specs.Reached.{at_root, inside}
use Rattle.amf3_spelling.specs.Spells3.{IsSpelling3}
use Rattle.amf3_spelling.specs.Lacks3.{IsLack3, Lacks3}
use Rattle.amf3_spelling.specs.WorkedLacks3.{nameless, nested}
use Rattle.amf3_spelling.proofs.Build.{absent_nil, absent_cons}
use Rattle.amf3_spelling.proofs.LacksAlike.{lack_is}
use Rattle.amf3_spelling.proofs.SpelledNamed.{spelled_named}

pub empty_name : IsLack3 nameless 0 EmptyName
empty_name = (
  0 ∷ [],
  order.Walks.first 0 (omega arith) (absent_nil 0) (order.Walks.past null order.Walks.over),
  record { lacks = (0, refl, λ named. named.0 refl); least = λ n k l. omega arith; first = λ k l. omega arith },
)

pub behind_the_root : IsLack3 nested 1 EmptyName
behind_the_root = (
  0 ∷ 1 ∷ [],
  order.Walks.first 0 (omega arith) (absent_nil 0) (order.Walks.first 1 (omega arith) (absent_cons 0 [] 1 (λ e. omega arith) (absent_nil 1)) (order.Walks.past null order.Walks.over)),
  record { lacks = (1, refl, λ named. named.0 refl); least = least; first = λ k l. omega arith },
)
  where
    least : (n : ℕ) (k : LackKind) → Lacks3 nested (0 ∷ 1 ∷ []) n k → 1 ≤ n
    least (suc n) k l = omega arith
    least zero k (i, e, l) = absurd ((lack_is nested i k l).1 (subst (λ j. AllNamed (node_at nested j).names) (same_Some 0 i e) tt))

pub no_spelling : (fs : List Field) → IsSpelling3 free nested fs → ⊥
no_spelling fs p = (spelled_named free nested fs p 1 (inside 0 (at_root refl) (inl (0, refl)))).0 refl
