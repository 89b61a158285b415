-- Canonical orders and the nodes in them.
use Rattle.std.proofs.Common.{◌≡◌, ℕ, ◌<◌, List, length, slice_get, Some, refl, subst}
use Rattle.std.specs.Prelude.{IsTrue, Result, Ok, Err, IfOk, OnOk, Bool, true, false}
use Rattle.std.proofs.lemmas.List.{length-map}
use Rattle.amf_graph.specs.declared.value.Value.{Value as Stored}
use Rattle.amf_graph.specs.Order.{IsOrder}
use Rattle.amf_graph.specs.Arena.{Arena, graph_of, node_content}
use Rattle.amf_graph.proofs.Walks.{walk_within}

pub order_within : (a : Arena) (root : Stored) (xs : List ℕ) (k i : ℕ) → IsOrder (graph_of a root) xs → slice_get xs k ≡ Some i → i < length a.nodes
order_within a root xs k i w e = subst (λ n. i < n) (length-map a.nodes (node_content a)) (walk_within w (λ k i e. cc) k i e)

pub ok_implies : {A E : Type 0} (r : Result A E) (P Q : A → Type 0) → ((x : A) → P x → Q x) → IfOk r P → IfOk r Q
ok_implies (Ok x) P Q h k = h x k
ok_implies (Err e) P Q h k = k

pub on_ok_implies : {A E : Type 0} (r : Result A E) (P Q : Type 0) → (P → Q) → OnOk r P → OnOk r Q
on_ok_implies (Ok x) P Q h k = h k
on_ok_implies (Err e) P Q h k = k

pub true_is : (r : Bool) → r ≡ true → IsTrue r
true_is true e = refl
true_is false e = cc
