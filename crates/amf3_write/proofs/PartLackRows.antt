-- The rows of lacks of parts.
use Rattle.std.proofs.Common.{◌≡◌, ℕ, zero, suc, ◌≤◌, List, [], ◌∷◌, slice_get, Some, refl, sym, subst, arith}
use Rattle.std.proofs.lemmas.Option.{same_Some}
use Rattle.amf_graph.specs.declared.lack.LackKind.{LackKind}
use Rattle.amf_graph.specs.declared.lack.LackKind.TheVariants.{EmptyName}
use Rattle.amf_graph.specs.Graph.{null, node, node_at, AllNamed}
use Rattle.amf_graph.specs.Order as order
use Rattle.amf_graph.specs.Order.{IsOrder, Absent}
use Rattle.amf3_spelling.proofs.Build.{absent_nil, absent_cons}
use Rattle.amf3_spelling.proofs.LacksAlike.{lack_is}
use Rattle.amf3_write.specs.PartLacks.{PartLacks3, IsPartLack3}
use Rattle.amf3_write.specs.WorkedPartLacks.{crossed}

-- the nodes by their numbers
abbrev numbered : List ℕ
numbered = 0 ∷ 1 ∷ 2 ∷ 3 ∷ []

absent_one : (a i : ℕ) → (a ≡ i → ⊥) → Absent (a ∷ []) i
absent_one a i p = absent_cons a [] i p (absent_nil i)

absent_two : (a b i : ℕ) → (a ≡ i → ⊥) → (b ≡ i → ⊥) → Absent (a ∷ b ∷ []) i
absent_two a b i p q = absent_cons a (b ∷ []) i p (absent_one b i q)

absent_three : (a b c i : ℕ) → (a ≡ i → ⊥) → (b ≡ i → ⊥) → (c ≡ i → ⊥) → Absent (a ∷ b ∷ c ∷ []) i
absent_three a b c i p q r = absent_cons a (b ∷ c ∷ []) i p (absent_two b c i q r)

in_order : IsOrder crossed numbered
in_order =
    order.Walks.first 0 (omega arith) (absent_nil 0)
    (order.Walks.first 1 (omega arith) (absent_one 0 1 (λ e. omega arith))
    (order.Walks.past null
    (order.Walks.first 2 (omega arith) (absent_two 0 1 2 (λ e. omega arith) (λ e. omega arith))
    (order.Walks.past null
    (order.Walks.first 3 (omega arith) (absent_three 0 1 2 3 (λ e. omega arith) (λ e. omega arith) (λ e. omega arith)) (order.Walks.again 2 2 refl (order.Walks.again 1 1 refl order.Walks.over)))))))

other : (a b : ℕ) → (a ≡ b → ⊥) → Some a ≡ Some b → ⊥
other a b n e = n (same_Some a b e)

-- the first node lacks nothing
not_first : (found : List ℕ) (k : LackKind) → PartLacks3 crossed numbered found 0 k → ⊥
not_first found k l = (lack_is crossed l.node k l.lacks).1 (subst (λ j. AllNamed (node_at crossed j).names) (same_Some 0 l.node l.numbered) tt)

pub less_number : IsPartLack3 crossed (node 3) [] 1 EmptyName
less_number = record {
  order = numbered;
  is_order = in_order;
  found = 3 ∷ 2 ∷ 1 ∷ [];
  walk = order.Walks.first 3 (omega arith) (absent_nil 3)
      (order.Walks.first 2 (omega arith) (absent_one 3 2 (λ e. omega arith))
      (order.Walks.past null (order.Walks.first 1 (omega arith) (absent_two 3 2 1 (λ e. omega arith) (λ e. omega arith)) (order.Walks.past null order.Walks.over))));
  first = record { lacks = record { node = 1; numbered = refl; place = 2; is_found = refl; lacks = λ named. named.0 refl }; least = least; first = λ k l. omega arith };
}
  where
    least : (n : ℕ) (k : LackKind) → PartLacks3 crossed numbered (3 ∷ 2 ∷ 1 ∷ []) n k → 1 ≤ n
    least (suc n) k l = omega arith
    least zero k l = absurd (not_first (3 ∷ 2 ∷ 1 ∷ []) k l)

pub beside_met : IsPartLack3 crossed (node 3) (0 ∷ 1 ∷ []) 2 EmptyName
beside_met = record {
  order = numbered;
  is_order = in_order;
  found = 3 ∷ 2 ∷ [];
  walk = order.Walks.first 3 (omega arith) (absent_two 0 1 3 (λ e. omega arith) (λ e. omega arith))
      (order.Walks.first 2 (omega arith) (absent_three 0 1 3 2 (λ e. omega arith) (λ e. omega arith) (λ e. omega arith)) (order.Walks.past null (order.Walks.again 1 1 refl order.Walks.over)));
  first = record { lacks = record { node = 2; numbered = refl; place = 1; is_found = refl; lacks = λ named. named.0 refl }; least = least; first = λ k l. omega arith };
}
  where
    not_found : (place : ℕ) → slice_get {X = ℕ} (3 ∷ 2 ∷ []) place ≡ Some 1 → ⊥
    not_found zero e = other 3 1 (λ n. omega arith) e
    not_found (suc zero) e = other 2 1 (λ n. omega arith) e
    not_found (suc (suc place)) e = cc

    least : (n : ℕ) (k : LackKind) → PartLacks3 crossed numbered (3 ∷ 2 ∷ []) n k → 2 ≤ n
    least (suc (suc n)) k l = omega arith
    least (suc zero) k l = absurd (not_found l.place (subst (λ j. slice_get {X = ℕ} (3 ∷ 2 ∷ []) l.place ≡ Some j) (sym (same_Some 1 l.node l.numbered)) l.is_found))
    least zero k l = absurd (not_first (3 ∷ 2 ∷ []) k l)
