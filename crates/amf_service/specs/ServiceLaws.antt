-- The shipped services obey the law of services, and so does every registry of lawful services.
use Rattle.std.specs.Prelude.{◌≡◌, ℕ, List}
use Rattle.std.specs.List.{AllByRecursion}
use Rattle.amf_graph.specs.Graph.{Graph}
use Rattle.amf_graph.specs.Isomorphic.{Isomorphic}
use Rattle.amf_graph.specs.Reached.{IsWhole}
use Rattle.amf_service.specs.Meaning.{Given, GivenMatch, IsLawful, Called, given}
use Rattle.amf_service.specs.Registry.{Entry, called}
use Rattle.amf_service.specs.Shipped.{echoed, summed, named}

abbrev pub each_operation : (Graph → Given) → List ℕ → Graph → Given
each_operation f operation g = f g

-- the same end, or what matches
abbrev pub CalledMatch : Called → Called → Type 0
CalledMatch (given x) (given y) = GivenMatch x y
CalledMatch c d = c ≡ d

-- calls of the service of this name, over two graphs of arguments
abbrev pub CallsMatch : List Entry → List ℕ → Type 0
CallsMatch es service = (operation : List ℕ) (g h : Graph) → IsWhole g → IsWhole h → Isomorphic g h → CalledMatch (called es service operation g) (called es service operation h)

pub record ServiceLaws : Type 0 where
  pub echo : IsLawful (each_operation echoed)
  pub sum : IsLawful (each_operation summed)
  pub names : IsLawful (each_operation named)
  pub registry : (es : List Entry) → AllByRecursion (λ e. IsLawful e.means.gives) es → (service : List ℕ) → CallsMatch es service
