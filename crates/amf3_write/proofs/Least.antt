-- The first lack of nodes, one more at a time.
use Rattle.std.proofs.Common.{◌≡◌, ℕ, zero, suc, ◌<◌, ◌≤◌, ◌⊎◌, List, [], ◌∷◌, ◌++◌, length, slice_get, Option, Some, None, sym, refl, ap, ◌∙◌, inl, inr, arith}
use Rattle.std.proofs.lemmas.Option.{same_Some}
use Rattle.amf_graph.specs.declared.lack.Lack.{Lack}
use Rattle.amf_graph.specs.declared.lack.LackKind.{LackKind}
use Rattle.amf_graph.specs.declared.lack.LackKind.TheVariants.{EmptyName}
use Rattle.amf_graph.specs.Graph.{AllNamed, Graph, node_at}
use Rattle.amf_graph.specs.Lacks.{rank}
use Rattle.amf_graph.proofs.Lists.{at_left, at_end, at_push}
use Rattle.amf3_spelling.specs.Lacks3.{NodeLacks3}
use Rattle.amf3_write.specs.Found.{IsLeast, IsBefore}
use Rattle.amf3_write.specs.PartLacks.{PartLacks3}

module _ (g : Graph) (order : List ℕ) where
  abbrev L : List ℕ → ℕ → LackKind → Type 0
  L found = PartLacks3 g order found

  lacks_split : (xs : List ℕ) (x n : ℕ) (k : LackKind) → L (xs ++ x ∷ []) n k → L xs n k ⊎ L (x ∷ []) n k
  lacks_split xs x n k o = elim (at_push xs x o.place o.node o.is_found) [
    | inl p ↦ inl (record { node = o.node; numbered = o.numbered; place = o.place; is_found = p; lacks = o.lacks })
    | inr p ↦ inr (record { node = o.node; numbered = o.numbered; place = 0; is_found = ap (λ w. Some w) p.1; lacks = o.lacks })
  ]

  lacks_left : (xs : List ℕ) (x n : ℕ) (k : LackKind) → L xs n k → L (xs ++ x ∷ []) n k
  lacks_left xs x n k o = record { node = o.node; numbered = o.numbered; place = o.place; is_found = at_left xs (x ∷ []) o.place o.node o.is_found; lacks = o.lacks }

  only_entry : {X : Type 0} (x y : X) (place : ℕ) → slice_get (x ∷ []) place ≡ Some y → x ≡ y
  only_entry x y zero e = same_Some x y e
  only_entry x y (suc place) e = cc

  lacks_right : (xs : List ℕ) (x n : ℕ) (k : LackKind) → L (x ∷ []) n k → L (xs ++ x ∷ []) n k
  lacks_right xs x n k o = record { node = o.node; numbered = o.numbered; place = length xs; is_found = at_end xs x ∙ ap (λ w. Some w) (only_entry x o.node o.place o.is_found); lacks = o.lacks }

  -- a node lacks a spelling for one reason alone
  only_name : (i : ℕ) (k : LackKind) → NodeLacks3 g i k → k ≡ EmptyName
  only_name i EmptyName h = refl
  only_name i _ h = absurd h

  names_first : (xs : List ℕ) (n : ℕ) (kind k : LackKind) → L xs n kind → rank kind ≤ rank k
  names_first xs n kind k o = let e : rank kind ≡ 0 = ap rank (only_name o.node kind o.lacks) in omega arith

  pub least_same : (xs : List ℕ) (x : ℕ) (m : Option Lack) → IsLeast (L xs) m → IsLeast (L (x ∷ [])) None → IsLeast (L (xs ++ x ∷ [])) m
  least_same xs x None h none = λ n k o. elim (lacks_split xs x n k o) [ inl p ↦ h n k p | inr p ↦ none n k p ]
  least_same xs x (Some l) h none = record {
    lacks = lacks_left xs x l.node l.kind h.lacks;
    least = λ n k o. elim (lacks_split xs x n k o) [ inl p ↦ h.least n k p | inr p ↦ absurd (none n k p) ];
    first = λ k o. names_first xs l.node l.kind k h.lacks;
  }

  pub least_next : (xs : List ℕ) (x : ℕ) (m : Option Lack) (l : Lack) → IsLeast (L xs) m → IsLeast (L (x ∷ [])) (Some l) → IsBefore l m → IsLeast (L (xs ++ x ∷ [])) (Some l)
  least_next xs x None l h s b = record {
    lacks = lacks_right xs x l.node l.kind s.lacks;
    least = λ n k o. elim (lacks_split xs x n k o) [ inl p ↦ absurd (h n k p) | inr p ↦ s.least n k p ];
    first = λ k o. names_first (x ∷ []) l.node l.kind k s.lacks;
  }
  least_next xs x (Some m) l h s b = record {
    lacks = lacks_right xs x l.node l.kind s.lacks;
    least = λ n k o. elim (lacks_split xs x n k o) [ inl p ↦ (let q = h.least n k p in omega arith) | inr p ↦ s.least n k p ];
    first = λ k o. names_first (x ∷ []) l.node l.kind k s.lacks;
  }

  pub least_first : (xs : List ℕ) (x : ℕ) (m : Option Lack) (l : Lack) → IsLeast (L xs) m → IsLeast (L (x ∷ [])) (Some l) → (IsBefore l m → ⊥) → IsLeast (L (xs ++ x ∷ [])) m
  least_first xs x None l h s b = absurd (b tt)
  least_first xs x (Some m) l h s b = record {
    lacks = lacks_left xs x m.node m.kind h.lacks;
    least = λ n k o. elim (lacks_split xs x n k o) [ inl p ↦ h.least n k p | inr p ↦ (let q = s.least n k p in at_most m.node l.node n b q) ];
    first = λ k o. names_first xs m.node m.kind k h.lacks;
  }
    where
      at_most : (m l n : ℕ) → (l < m → ⊥) → l ≤ n → m ≤ n
      at_most m l n b q = omega arith

  -- one node
  pub lack_of_node : (i n : ℕ) → slice_get order n ≡ Some i → ((k : ℕ) → slice_get order k ≡ Some i → k ≡ n) → (AllNamed (node_at g i).names → ⊥) → IsLeast (L (i ∷ [])) (Some (record { kind = EmptyName; node = n }))
  lack_of_node i n at alone f = record {
    lacks = it;
    least = λ m k o. let s = only_entry i o.node o.place o.is_found in (let e = alone m (o.numbered ∙ ap (λ w. Some w) (sym s)) in omega arith);
    first = λ k o. names_first (i ∷ []) n EmptyName k it;
  }
    where
      it : L (i ∷ []) n EmptyName
      it = record { node = i; numbered = at; place = 0; is_found = refl; lacks = f }
