-- What a node of an arena holds, and the nodes of an order.
use Rattle.std.proofs.Common.{◌≡◌, ℕ, zero, suc, ◌+◌, ◌<◌, List, [], ◌∷◌, ◌++◌, length, take, get_or, slice_get, Some, eqb, refl, ap, ◌∙◌, sym, subst, arith, eq-eqb, append_assoc}
use Rattle.std.specs.List.{AllByRecursion, flat_map}
use Rattle.std.specs.Prelude.{Result, Ok, Err, OnOk}
use Rattle.std.proofs.lemmas.Bool.{ne_eqb}
use Rattle.std.proofs.lemmas.List.{length-map, take_more, flat_map_more}
use Rattle.std.proofs.lemmas.List.Sums.{position_or_len_is}
use Rattle.std.proofs.lemmas.Option.{slice_get_within, slice_get-get_or, get_or_from_slice_get}
use Rattle.amf_graph.specs.declared.value.Value.{Value as Stored}
use Rattle.amf_graph.specs.Arena.{Arena, StoredNode, object, node_content, graph_of, value_content, IsFinished, IsNodeIn, Names, traits_at}
use Rattle.amf_graph.specs.Building.{stored_at, no_stored, closed}
use Rattle.amf_graph.specs.Order.{IsOrder}
use Rattle.amf_graph.specs.Renumbered.{place_of}
use Rattle.amf_graph.specs.Views.{flat}
use Rattle.amf_iso.specs.Contents.{AreValues}
use Rattle.amf_graph.proofs.Walks.{walk_within}

pub each_there : {X : Type 0} (P : X → Type 0) (xs : List X) (i : ℕ) (d : X) → AllByRecursion P xs → i < length xs → P (get_or xs i d)
each_there P [] i d h l = absurd (omega arith)
each_there P (x ∷ xs) zero d h l = h.0
each_there P (x ∷ xs) (suc i) d h l = each_there P xs i d h.1 (omega arith)

-- a call that wrote the one wrote the other
pub written_as : {E : Type 0} (r : Result (Unit {0}) E) (before after x y : List ℕ) → x ≡ y → OnOk r (after ≡ before ++ x) → OnOk r (after ≡ before ++ y)
written_as r before after x y e h = subst (λ w. OnOk r (after ≡ before ++ w)) e h

pub node_in : (a : Arena) (i : ℕ) (n : StoredNode) → IsFinished a → i < length a.nodes → stored_at a i ≡ n → IsNodeIn a n
node_in a i n f l e = subst (λ (m : StoredNode). IsNodeIn a m) e (each_there (IsNodeIn a) a.nodes i no_stored f.built.nodes l)

-- an object has a value for each sealed name
pub each_sealed : (a : Arena) (t : ℕ) (ps : List (ℕ × Stored)) (vs : List Stored) → IsNodeIn a (closed (object t) ps vs) → length vs ≡ length (traits_at a t).sealed
each_sealed a t ps vs h = sym (length-map vs (value_content a)) ∙ (h.fits refl).0

-- the only place of a number is its first
pub only_place : (order : List ℕ) (k i : ℕ) → slice_get order k ≡ Some i → ((j : ℕ) → slice_get order j ≡ Some i → j ≡ k) → place_of order i ≡ k
only_place order k i e alone =
    position_or_len_is (λ n. eqb n i) order k 0 (let within = slice_get_within order k i e in omega arith) (λ j l. ne_eqb (get_or order j 0) i (earlier j l)) (λ l. eq-eqb (get_or order k 0) i (get_or_from_slice_get order k i 0 e))
  where
    earlier : (j : ℕ) → j < k → get_or order j 0 ≡ i → ⊥
    earlier j l f =
        let within : k < length order = slice_get_within order k i e in
        let same : j ≡ k = alone j (slice_get-get_or order j 0 (omega arith) ∙ ap (λ w. Some w) f) in
        omega arith

pub order_within : (a : Arena) (root : Stored) (xs : List ℕ) (k i : ℕ) → IsOrder (graph_of a root) xs → slice_get xs k ≡ Some i → i < length a.nodes
order_within a root xs k i w e = subst (λ n. i < n) (length-map a.nodes (node_content a)) (walk_within w (λ k i e. cc) k i e)

-- a step of the loop over the nodes of an order
pub node_step : (f : ℕ → List ℕ) (before one two order : List ℕ) (k i : ℕ) → slice_get order k ≡ Some i → one ≡ before ++ flat_map f (take k order) → two ≡ one ++ f i → two ≡ before ++ flat_map f (take (k + 1) order)
node_step f before one two order k i e a b =
    let more : take (k + 1) order ≡ take k order ++ i ∷ [] = take_more order k i (slice_get_within order k i e) ∙ ap (λ w. take k order ++ w ∷ []) (get_or_from_slice_get order k i i e) in
    b ∙ ap (λ w. w ++ f i) a ∙ flat_map_more f before (take k order) i ∙ ap (λ w. before ++ flat_map f w) (sym more)

-- a key and its value are the arena's
pub entry_there : (a : Arena) (es : List (Stored × Stored)) (i : ℕ) (d : Stored × Stored) → AreValues a (flat es) → i < length es → Names a (get_or es i d).0 × Names a (get_or es i d).1
entry_there a [] i d h l = absurd (omega arith)
entry_there a (e ∷ es) zero d h l = (h.0, h.1.0)
entry_there a (e ∷ es) (suc i) d h l = entry_there a es i d h.1.1 (omega arith)

-- Writes one after the other: what is behind them stands together.

pub behind : (o x s one two : List ℕ) → one ≡ o ++ x → two ≡ one ++ s → two ≡ o ++ (x ++ s)
behind o x s one two a b = b ∙ ap (λ w. w ++ s) a ∙ append_assoc o x s

pub on_ok : {T E P Q : Type 0} (r : Result T E) → (P → Q) → OnOk r P → OnOk r Q
on_ok (Ok v) f h = f h
on_ok (Err e) f h = tt
