-- Nodes that were spelled: one more with a place, and one more without.
use Rattle.std.specs.Prelude.{◌≡◌, ◌↔◌, ℕ, ◌<◌, Bool, true, false, cond, IsTrue, get_or, List, [], ◌∷◌, ◌++◌, length, slice_get, Some}
use Rattle.std.proofs.Common.{refl, set, take, ap, sym, subst, ◌∙◌, inl, inr, arith, rules}
use Rattle.std.proofs.lemmas.Bool.{cases_eq}
use Rattle.std.proofs.lemmas.List.{take_all}
use Rattle.std.proofs.lemmas.Option.{slice_get-get_or}
use Rattle.amf_graph.specs.Order.{Absent}
use Rattle.amf_graph.proofs.Lists.{at_left, at_end, at_push, length_pushed}
use Rattle.amf_tables.specs.FirstPlace.{IsFirstPlace}
use Rattle.amf_tables.specs.SpelledNodes.{AreSpelled}
use Rattle.amf_tables.proofs.NodePlaces.{set_at, set_elsewhere}

-- what is not in the longer list is not in the shorter one, and is not what was put behind it
shorter : (xs : List ℕ) (x y : ℕ) → Absent (xs ++ y ∷ []) x → Absent xs x
shorter xs x y none k e = none k (at_left xs (y ∷ []) k x e)

other_than : (xs : List ℕ) (x y : ℕ) → Absent (xs ++ y ∷ []) x → (y ≡ x → ⊥)
other_than xs x y none s = none (length xs) (subst (λ w. slice_get (xs ++ y ∷ []) (length xs) ≡ Some w) s (at_end xs y))

longer_list : (xs : List ℕ) (x y : ℕ) → Absent xs x → (y ≡ x → ⊥) → Absent (xs ++ y ∷ []) x
longer_list xs x y none other k e = elim (at_push xs y k x e) [ inl f ↦ none k f | inr p ↦ other p.1 ]

pub none_spelled : AreSpelled [] [] []
none_spelled = record { placed = λ i none. none; marked = λ i e. cc; unmarked = λ i other none. none; longer = omega arith; even = λ e. refl }

pub room_marked : (nodes done : List ℕ) (marks : List Bool) → AreSpelled nodes done marks → AreSpelled nodes done (marks ++ false ∷ [])
room_marked nodes done marks h = record {
  placed = h.placed;
  marked = λ i e. elim (at_push marks false i true e) [ inl f ↦ h.marked i f | inr p ↦ cc ];
  unmarked = λ i other none. h.unmarked i (λ e. other (at_left marks (false ∷ []) i true e)) none;
  longer = h.longer;
  even = h.even;
}

-- one more with a place
pub placed_more : (nodes done : List ℕ) (marks : List Bool) (i : ℕ) → AreSpelled nodes done marks → AreSpelled (nodes ++ i ∷ []) (done ++ i ∷ []) marks
placed_more nodes done marks i h = record {
  placed = λ j none. longer_list nodes j i (h.placed j (shorter done j i none)) (other_than done j i none);
  marked = λ j e. let o = h.marked j e in (o.0, at_left done (i ∷ []) o.0 j o.1);
  unmarked = λ j other none. longer_list done j i (h.unmarked j other (shorter nodes j i none)) (other_than nodes j i none);
  longer = omega (arith, h.longer, length_pushed nodes i, length_pushed done i);
  even = λ e. ap (λ w. w ++ i ∷ []) (h.even (omega (arith, e, length_pushed nodes i, length_pushed done i)));
}

-- one more without
pub alone_more : (nodes done : List ℕ) (marks : List Bool) (i : ℕ) (b : Bool) → AreSpelled nodes done marks → slice_get marks i ≡ Some b → AreSpelled nodes (done ++ i ∷ []) (set marks i true)
alone_more nodes done marks i b h at = record {
  placed = λ j none. h.placed j (shorter done j i none);
  marked = λ j e.
      elim (cases_eq j i) [
        | inl s ↦ (length done, subst (λ w. slice_get (done ++ i ∷ []) (length done) ≡ Some w) (sym s) (at_end done i))
        | inr n ↦ let o = h.marked j (sym (set_elsewhere marks i j true n) ∙ e) in (o.0, at_left done (i ∷ []) o.0 j o.1)
      ];
  unmarked = λ j other none.
      elim (cases_eq j i) [
        | inl s ↦ absurd (other (subst (λ w. slice_get (set marks i true) w ≡ Some true) (sym s) (set_at marks i b true at)))
        | inr n ↦ longer_list done j i (h.unmarked j (λ e. other (set_elsewhere marks i j true n ∙ e)) none) (λ s. n (sym s))
      ];
  longer = omega (arith, h.longer, length_pushed done i);
  even = λ e. absurd (omega (arith, h.longer, e, length_pushed done i));
}

-- The list of all, where one is kept, and else those that have places.

pub placed_unsplit : (split : Bool) (nodes new all : List ℕ) (marks : List Bool) (i : ℕ) → split ≡ false → new ≡ nodes ++ i ∷ [] → AreSpelled nodes (cond split all nodes) marks → AreSpelled new (cond split all new) marks
placed_unsplit true nodes new all marks i s e h = cc
placed_unsplit false nodes new all marks i s e h = subst (λ w. AreSpelled w w marks) (sym e) (placed_more nodes nodes marks i h)

pub placed_split : (split : Bool) (nodes new all now : List ℕ) (marks : List Bool) (i : ℕ) → split ≡ true → new ≡ nodes ++ i ∷ [] → now ≡ all ++ i ∷ [] → AreSpelled nodes (cond split all nodes) marks → AreSpelled new (cond split now new) marks
placed_split false nodes new all now marks i s e f h = cc
placed_split true nodes new all now marks i s e f h = subst (λ w. AreSpelled w now marks) (sym e) (subst (λ w. AreSpelled (nodes ++ i ∷ []) w marks) (sym f) (placed_more nodes all marks i h))

pub alone_split : (split : Bool) (nodes all now : List ℕ) (marks : List Bool) (i : ℕ) → split ≡ true → now ≡ all ++ i ∷ [] → i < length marks → AreSpelled nodes (cond split all nodes) marks → AreSpelled nodes (cond split now nodes) (set marks i true)
alone_split false nodes all now marks i s e l h = cc
alone_split true nodes all now marks i s e l h = subst (λ w. AreSpelled nodes w (set marks i true)) (sym e) (alone_more nodes all marks i (get_or marks i false) h (slice_get-get_or marks i false l))

pub done_split : (split : Bool) (nodes all now old : List ℕ) (i : ℕ) → split ≡ true → now ≡ all ++ i ∷ [] → cond split all nodes ≡ old → cond split now nodes ≡ old ++ i ∷ []
done_split false nodes all now old i s e f = cc
done_split true nodes all now old i s e f = e ∙ ap (λ w. w ++ i ∷ []) f

-- a list that begins with all that have places
pub list_begun : (old : Bool) (new all nodes : List ℕ) (count : ℕ) → old ≡ false → count ≡ length nodes → new ≡ take count nodes → new ≡ cond old all nodes
list_begun true new all nodes count o c e = cc
list_begun false new all nodes count o c e = e ∙ take_all count nodes (omega (arith, c))

-- what is marked and has no place was spelled alone, and nothing else
pub alone_where : (r : Bool) (nodes done : List ℕ) (marks : List Bool) (i : ℕ) → AreSpelled nodes done marks → Absent nodes i → (IsTrue r ↔ (slice_get marks i ≡ Some true)) → IsTrue r ↔ (((k : ℕ) × (slice_get done k ≡ Some i)) × Absent nodes i)
alone_where true nodes done marks i h none is = (λ t. (h.marked i (is.0 t), none), λ o. search rules)
alone_where false nodes done marks i h none is = (λ t. absurd (no_truth t), λ o. absurd (h.unmarked i (λ e. no_truth (is.1 e)) none o.0.0 o.0.1))
  where
    no_truth : IsTrue false → ⊥
    no_truth t = search rules

pub placed_where : (nodes done : List ℕ) (i k : ℕ) → IsFirstPlace nodes i k → IsTrue false ↔ (((k : ℕ) × (slice_get done k ≡ Some i)) × Absent nodes i)
placed_where nodes done i k first = (λ t. search rules, λ o. absurd (o.1 k first.0))
