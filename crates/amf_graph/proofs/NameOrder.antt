-- By-name order as a stable sort.
use Rattle.std.proofs.Common.{◌≡◌, ℕ, List, length}
use Rattle.std.specs.List.{AllByRecursion}
use Rattle.std.specs.Cmp.{IsStrictWeakOrder}
use Rattle.std.specs.List.Sorted.{IsSortedBy, IsStableBy}
use Rattle.amf_graph.specs.Graph.{Value}
use Rattle.amf_graph.specs.ByName.{before, by_name}
use Rattle.std.proofs.lemmas.Cmp.{nat_list_cmp_total}
use Rattle.std.proofs.lemmas.List.Sorted.{ranks_by}
use Rattle.amf_graph.proofs.StableSort.{stable_sort_is, stable_sort_again, sort_all, sort_all_back, sort_length}

before_ranks : IsStrictWeakOrder before
before_ranks = ranks_by nat_list_cmp_total (λ p. p.0)

pub by_name_again : (ps : List (List ℕ × Value)) → by_name (by_name ps) ≡ by_name ps
by_name_again ps = stable_sort_again before before_ranks ps

pub by_name_all : (Q : List ℕ × Value → Type 0) (ps : List (List ℕ × Value)) → AllByRecursion Q ps → AllByRecursion Q (by_name ps)
by_name_all = sort_all before

pub by_name_all_back : (Q : List ℕ × Value → Type 0) (ps : List (List ℕ × Value)) → AllByRecursion Q (by_name ps) → AllByRecursion Q ps
by_name_all_back = sort_all_back before

pub by_name_length : (ps : List (List ℕ × Value)) → length (by_name ps) ≡ length ps
by_name_length = sort_length before

-- what a stable sort of std ensures of the pairs says that they are in by-name order
pub by_name_from_sort : (xs ys : List (List ℕ × Value)) → IsSortedBy before ys → IsStableBy before xs ys → ys ≡ by_name xs
by_name_from_sort = stable_sort_is before before_ranks
