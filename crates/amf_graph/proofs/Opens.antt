-- The first node that is open.
use Rattle.std.proofs.Common.{◌≡◌, ℕ, ◌<◌, false, length, Option, Some, None, MatchOption}
use Rattle.std.specs.List.{AllByRecursion}
use Rattle.amf_graph.specs.Arena.{Arena, StoredNode}
use Rattle.amf_graph.specs.Building.{no_stored, IsFirstOpen}
use Rattle.amf_graph.specs.NodeRows.{IsClosedAt, IsFirstOf}
use Rattle.amf_graph.proofs.Alls.{all_by_place}

pub first_open_is : (a : Arena) (r : Option ℕ) → MatchOption r ((k : ℕ) → k < length a.nodes → IsClosedAt a.nodes k) (λ i. IsFirstOf a.nodes i) → MatchOption r (AllByRecursion (λ n. n.is_open ≡ false) a.nodes) (λ i. IsFirstOpen a i)
first_open_is a (Some i) h = record { there = h.there; opened = h.opened; before = h.before }
first_open_is a None h = all_by_place (λ (n : StoredNode). n.is_open ≡ false) a.nodes no_stored h
