-- The steps of a search for the first lack of a part.
use Rattle.std.proofs.Common.{◌≡◌, ℕ, zero, suc, ◌+◌, ◌-◌, ◌<◌, ◌≤◌, ◌^◌, ◌⊎◌, Bool, true, false, cond, List, [], ◌∷◌, ◌++◌, length, take, set, slice_get, Some, sym, refl, ap, ◌∙◌, subst, inl, inr, arith, append_assoc, length-append}
use Rattle.std.specs.Prelude.{Option}
use Rattle.std.proofs.lemmas.Bool.{cases_eq}
use Rattle.std.proofs.lemmas.List.{length-set}
use Rattle.std.proofs.lemmas.Option.{same_Some, slice_get_within}
use Rattle.amf_graph.specs.declared.lack.Lack.{Lack}
use Rattle.amf_graph.specs.declared.lack.LackKind.{LackKind}
use Rattle.amf_graph.specs.declared.lack.LackKind.TheVariants.{EmptyName, NoForm, LongName, Shared, FarReference, LongFile}
use Rattle.amf_graph.specs.Graph.{Leaf, Value, leaf, node, Head, xml_document, date, array, object, Graph, node_at}
use Rattle.amf_graph.specs.Lacks.{rank}
use Rattle.amf_graph.specs.Order.{Absent, IsDistinct, values_met}
use Rattle.amf_graph.proofs.Lists.{at_left, at_end, at_push, length_pushed, no_entry}
use Rattle.amf_graph.proofs.Walks.{distinct_push}
use Rattle.amf0_spelling.specs.Lacks0.{enters0, is_loose0, entered, place0}
use Rattle.amf0_spelling.specs.Meets.{Meets, past, again, first}
use Rattle.amf0_spelling.proofs.Entered.{entered_push, take_front}
use Rattle.amf0_write.specs.declared.meeting.Meeting.{Meeting}
use Rattle.amf0_write.specs.declared.meeting.Meeting.TheVariants.{Never, Alone, At}
use Rattle.amf0_write.specs.declared.part_lack.Search.{Search}
use Rattle.amf0_write.specs.Meetings.{IsFirstReason}
use Rattle.amf0_write.specs.PartLacks0.{HasNoIndex, PlaceLacks0, PartLacks0}
use Rattle.amf0_write.specs.Searched.{IsMetAs, AreMetAs, unmet, MeetingLacks, IsLeast, Notes, IsEntered, Searched}
use Rattle.amf0_write.proofs.LeastMore.{least_more}

pub set_there : {X : Type 0} (xs : List X) (i : ℕ) (y : X) → i < length xs → slice_get (set xs i y) i ≡ Some y
set_there [] i y l = absurd (omega arith)
set_there (z ∷ xs) zero y l = refl
set_there (z ∷ xs) (suc i) y l = set_there xs i y (omega arith)

pub set_elsewhere : {X : Type 0} (xs : List X) (i j : ℕ) (y : X) → (j ≡ i → ⊥) → slice_get (set xs i y) j ≡ slice_get xs j
set_elsewhere [] i j y n = refl
set_elsewhere (z ∷ xs) zero zero y n = absurd (n refl)
set_elsewhere (z ∷ xs) zero (suc j) y n = refl
set_elsewhere (z ∷ xs) (suc i) zero y n = refl
set_elsewhere (z ∷ xs) (suc i) (suc j) y n = set_elsewhere xs i j y (λ e. n (ap suc e))

loose_is_outside : (h : Head) → is_loose0 h ≡ true → enters0 h ≡ true → ⊥
loose_is_outside (date p) l e = cc
loose_is_outside (xml_document x) l e = cc
loose_is_outside array l e = cc
loose_is_outside (object t) l e = cc
loose_is_outside _ l e = cc

pub not_both : {b : Bool} → b ≡ true → b ≡ false → ⊥
not_both e f = cc

-- of all that are met, a reason speaks of those before the place alone
pub place_same : (g : Graph) (outside before : ℕ) (all other ks : List ℕ) (place i : ℕ) (kind : LackKind) → take place all ≡ take place other → PlaceLacks0 g outside before all ks place i kind → PlaceLacks0 g outside before other ks place i kind
place_same g outside before all other ks place i EmptyName e z = z
place_same g outside before all other ks place i NoForm e z = z
place_same g outside before all other ks place i LongName e z = z
place_same g outside before all other ks place i Shared e (inl l, a) = (inl l, a)
place_same g outside before all other ks place i Shared e (inr (n, l), a) = (inr (n, subst (λ w. length (entered g w) < outside) e l), a)
place_same g outside before all other ks place i FarReference e (n, l, a) = (n, subst (λ w. 2 ^ 16 ≤ length (entered g w) - outside) e l, a)
place_same g outside before all other ks place i LongFile e z = z

module _ (g : Graph) (outside before : ℕ) (order : List ℕ) (once : IsDistinct order) (met ks : List ℕ) (distinct : IsDistinct met) (within : (j k : ℕ) → slice_get ks j ≡ Some k → k < length met) (later : before ≤ length met) (i : ℕ) where
  abbrev Now : ℕ → LackKind → Type 0
  Now = PartLacks0 g outside before order met ks

  -- A node that was never met.

  module _ (new : Absent met i) where
    abbrev AndNew : ℕ → LackKind → Type 0
    AndNew = PartLacks0 g outside before order (met ++ i ∷ []) ks

    front : (place j : ℕ) → slice_get met place ≡ Some j → take place (met ++ i ∷ []) ≡ take place met
    front place j e = let l = slice_get_within met place j e in take_front met (i ∷ []) place (omega (arith, l))

    new_keeps : (n : ℕ) (k : LackKind) → Now n k → AndNew n k
    new_keeps n k (j, place, e, f, z) = (j, place, e, at_left met (i ∷ []) place j f, place_same g outside before met (met ++ i ∷ []) ks place j k (sym (front place j f)) z)

    here : (place : ℕ) (k : LackKind) → place ≡ length met → PlaceLacks0 g outside before (met ++ i ∷ []) ks place i k → MeetingLacks g i Never k
    here place EmptyName e z = z
    here place NoForm e z = z.1
    here place LongName e z = z.1
    here place Shared e (z, (j, a)) = let l = within j place a in absurd (omega (arith, l, e))
    here place FarReference e (z, y, (j, a)) = let l = within j place a in absurd (omega (arith, l, e))
    here place LongFile e z = z

    new_back : (n : ℕ) (k : LackKind) → AndNew n k → Now n k ⊎ ((slice_get order n ≡ Some i) × MeetingLacks g i Never k)
    new_back n k (j, place, e, f, z) = elim (at_push met i place j f) [
      | inl o ↦ inl (j, place, e, o, place_same g outside before (met ++ i ∷ []) met ks place j k (front place j o) z)
      | inr (at, same) ↦ inr (subst (λ w. slice_get order n ≡ Some w) (sym same) e, here place k at (subst (λ w. PlaceLacks0 g outside before (met ++ i ∷ []) ks place w k) (sym same) z))
    ]

    new_more : (n : ℕ) (k : LackKind) → slice_get order n ≡ Some i → MeetingLacks g i Never k → AndNew n k
    new_more n EmptyName e z = absurd z
    new_more n NoForm e z = (i, length met, e, at_end met i, (later, z))
    new_more n LongName e z = (i, length met, e, at_end met i, (later, z))
    new_more n Shared e z = absurd z
    new_more n FarReference e z = absurd z
    new_more n LongFile e z = absurd z

    new_tie : (n : ℕ) (k l : LackKind) → slice_get order n ≡ Some i → Now n k → MeetingLacks g i Never l → rank k ≤ rank l
    new_tie n k l e (j, place, f, at, z) x = absurd (new place (at ∙ sym f ∙ e))

    pub new_least : (r : Option LackKind) (o p : Option Lack) → IsFirstReason (MeetingLacks g i Never) r → Notes order i r o p → IsLeast Now o → IsLeast AndNew p
    new_least = least_more Now AndNew (MeetingLacks g i Never) order i once new_keeps new_back new_more new_tie

  -- A node that was met before.

  module _ (at : ℕ) (there : slice_get met at ≡ Some i) where
    abbrev AndAgain : ℕ → LackKind → Type 0
    AndAgain = PartLacks0 g outside before order met (ks ++ at ∷ [])

    again_keeps : (n : ℕ) (k : LackKind) → Now n k → AndAgain n k
    again_keeps n EmptyName (j, place, e, f, z) = (j, place, e, f, z)
    again_keeps n NoForm (j, place, e, f, z) = (j, place, e, f, z)
    again_keeps n LongName (j, place, e, f, z) = (j, place, e, f, z)
    again_keeps n Shared (j, place, e, f, (z, (a, b))) = (j, place, e, f, (z, (a, at_left ks (at ∷ []) a place b)))
    again_keeps n FarReference (j, place, e, f, (z, y, (a, b))) = (j, place, e, f, (z, y, (a, at_left ks (at ∷ []) a place b)))
    again_keeps n LongFile (j, place, e, f, z) = (j, place, e, f, z)

    it : (place j : ℕ) → slice_get met place ≡ Some j → at ≡ place → j ≡ i
    it place j f e = same_Some j i (sym f ∙ ap (slice_get met) (sym e) ∙ there)

    module _ (m : Meeting) (shared : HasNoIndex g outside met at i → MeetingLacks g i m Shared) (far : enters0 (node_at g i).head ≡ true → 2 ^ 16 ≤ place0 g outside met at → MeetingLacks g i m FarReference) (gives : (k : LackKind) → MeetingLacks g i m k → PlaceLacks0 g outside before met (ks ++ at ∷ []) at i k) (ties : (k l : LackKind) → PlaceLacks0 g outside before met ks at i k → MeetingLacks g i m l → rank k ≤ rank l) where
      again_back : (n : ℕ) (k : LackKind) → AndAgain n k → Now n k ⊎ ((slice_get order n ≡ Some i) × MeetingLacks g i m k)
      again_back n EmptyName (j, place, e, f, z) = absurd z
      again_back n NoForm (j, place, e, f, z) = inl (j, place, e, f, z)
      again_back n LongName (j, place, e, f, z) = inl (j, place, e, f, z)
      again_back n Shared (j, place, e, f, (z, (a, b))) = elim (at_push ks at a place b) [
        | inl c ↦ inl (j, place, e, f, (z, (a, c)))
        | inr (w, same) ↦ (
            let s = it place j f same in
            inr (subst (λ w. slice_get order n ≡ Some w) s e, shared (subst (λ w. HasNoIndex g outside met w i) (sym same) (subst (HasNoIndex g outside met place) s z))))
      ]
      again_back n FarReference (j, place, e, f, (z, y, (a, b))) = elim (at_push ks at a place b) [
        | inl c ↦ inl (j, place, e, f, (z, y, (a, c)))
        | inr (w, same) ↦ (
            let s = it place j f same in
            inr (subst (λ w. slice_get order n ≡ Some w) s e, far (subst (λ w. enters0 (node_at g w).head ≡ true) s z) (subst (λ w. 2 ^ 16 ≤ place0 g outside met w) (sym same) y)))
      ]
      again_back n LongFile (j, place, e, f, z) = absurd z

      again_more : (n : ℕ) (k : LackKind) → slice_get order n ≡ Some i → MeetingLacks g i m k → AndAgain n k
      again_more n k e x = (i, at, e, there, gives k x)

      again_tie : (n : ℕ) (k l : LackKind) → slice_get order n ≡ Some i → Now n k → MeetingLacks g i m l → rank k ≤ rank l
      again_tie n k l e (j, place, f, a, z) x =
          let s : j ≡ i = same_Some j i (sym f ∙ e) in
          let p : place ≡ at = distinct place at i (a ∙ ap (λ w. Some w) s) there in
          ties k l (subst (λ w. PlaceLacks0 g outside before met ks w i k) p (subst (λ w. PlaceLacks0 g outside before met ks place w k) s z)) x

      pub again_least : (r : Option LackKind) (o p : Option Lack) → IsFirstReason (MeetingLacks g i m) r → Notes order i r o p → IsLeast Now o → IsLeast AndAgain p
      again_least = least_more Now AndAgain (MeetingLacks g i m) order i once again_keeps again_back again_more again_tie

    -- It has no index.

    module _ (told : IsMetAs g outside met i Alone) where
      not_far : enters0 (node_at g i).head ≡ true → 2 ^ 16 ≤ place0 g outside met at → ⊥
      not_far en far = go told
        where
          go : IsMetAs g outside met i Alone → ⊥
          go (k, e, inl out) = not_both en out
          go (k, e, inr (y, l)) = let s : length (entered g (take at met)) < outside = subst (λ w. length (entered g (take w met)) < outside) (distinct k at i e there) l in omega (arith, s, far)

      unnamed : MeetingLacks g i Alone Shared → HasNoIndex g outside met at i
      unnamed x = go told x
        where
          go : IsMetAs g outside met i Alone → (is_loose0 (node_at g i).head ≡ true) ⊎ (enters0 (node_at g i).head ≡ true) → HasNoIndex g outside met at i
          go m (inl l) = inl l
          go (k, e, inl out) (inr en) = absurd (not_both en out)
          go (k, e, inr (en, l)) (inr y) = inr (en, subst (λ w. length (entered g (take w met)) < outside) (distinct k at i e there) l)

      alone_shared : HasNoIndex g outside met at i → MeetingLacks g i Alone Shared
      alone_shared (inl l) = inl l
      alone_shared (inr l) = inr l.0

      alone_gives : (k : LackKind) → MeetingLacks g i Alone k → PlaceLacks0 g outside before met (ks ++ at ∷ []) at i k
      alone_gives EmptyName x = absurd x
      alone_gives NoForm x = absurd x
      alone_gives LongName x = absurd x
      alone_gives Shared x = (unnamed x, (length ks, at_end ks at))
      alone_gives FarReference x = absurd x
      alone_gives LongFile x = absurd x

      alone_ties : (k l : LackKind) → PlaceLacks0 g outside before met ks at i k → MeetingLacks g i Alone l → rank k ≤ rank l
      alone_ties k EmptyName z x = absurd x
      alone_ties k NoForm z x = absurd x
      alone_ties k LongName z x = absurd x
      alone_ties EmptyName Shared z x = absurd z
      alone_ties NoForm Shared z x = omega arith
      alone_ties LongName Shared z x = omega arith
      alone_ties Shared Shared z x = omega arith
      alone_ties FarReference Shared z x = absurd (not_far z.0 z.1)
      alone_ties LongFile Shared z x = absurd z
      alone_ties k FarReference z x = absurd x
      alone_ties k LongFile z x = absurd x

      pub alone_least : (r : Option LackKind) (o p : Option Lack) → IsFirstReason (MeetingLacks g i Alone) r → Notes order i r o p → IsLeast Now o → IsLeast AndAgain p
      alone_least = again_least Alone alone_shared (λ en f. absurd (not_far en f)) alone_gives alone_ties

    -- It has one.

    module _ (index : ℕ) (told : IsMetAs g outside met i (At index)) where
      named : length (entered g (take at met)) ≡ outside + index
      named = subst (λ w. length (entered g (take w met)) ≡ outside + index) (distinct told.0 at i told.1 there) told.3

      named_shared : HasNoIndex g outside met at i → MeetingLacks g i (At index) Shared
      named_shared (inl l) = loose_is_outside (node_at g i).head l told.2
      named_shared (inr (en, l)) = absurd (omega (arith, l, named))

      named_gives : (k : LackKind) → MeetingLacks g i (At index) k → PlaceLacks0 g outside before met (ks ++ at ∷ []) at i k
      named_gives EmptyName x = absurd x
      named_gives NoForm x = absurd x
      named_gives LongName x = absurd x
      named_gives Shared x = absurd x
      named_gives FarReference x = (told.2, omega (arith, x, named), (length ks, at_end ks at))
      named_gives LongFile x = absurd x

      named_ties : (k l : LackKind) → PlaceLacks0 g outside before met ks at i k → MeetingLacks g i (At index) l → rank k ≤ rank l
      named_ties k EmptyName z x = absurd x
      named_ties k NoForm z x = absurd x
      named_ties k LongName z x = absurd x
      named_ties k Shared z x = absurd x
      named_ties EmptyName FarReference z x = absurd z
      named_ties NoForm FarReference z x = omega arith
      named_ties LongName FarReference z x = omega arith
      named_ties Shared FarReference z x = omega arith
      named_ties FarReference FarReference z x = omega arith
      named_ties LongFile FarReference z x = absurd z
      named_ties k LongFile z x = absurd x

      pub named_least : (r : Option LackKind) (o p : Option Lack) → IsFirstReason (MeetingLacks g i (At index)) r → Notes order i r o p → IsLeast Now o → IsLeast AndAgain p
      named_least = again_least (At index) named_shared (λ en f. omega (arith, f, named)) named_gives named_ties

-- How nodes were met, with one more.

module _ (g : Graph) (outside : ℕ) (met : List ℕ) (i : ℕ) where
  pushed_front : (k j : ℕ) → slice_get met k ≡ Some j → take k (met ++ i ∷ []) ≡ take k met
  pushed_front k j e = let l = slice_get_within met k j e in take_front met (i ∷ []) k (omega (arith, l))

  pushed_as : (j : ℕ) (m : Meeting) → (j ≡ i → ⊥) → IsMetAs g outside met j m → IsMetAs g outside (met ++ i ∷ []) j m
  pushed_as j Never n h = λ k e. elim (at_push met i k j e) [ inl f ↦ h k f | inr f ↦ n (sym f.1) ]
  pushed_as j Alone n (k, e, inl out) = (k, at_left met (i ∷ []) k j e, inl out)
  pushed_as j Alone n (k, e, inr (en, l)) = (k, at_left met (i ∷ []) k j e, inr (en, subst (λ w. length (entered g w) < outside) (sym (pushed_front k j e)) l))
  pushed_as j (At place) n (k, e, en, l) = (k, at_left met (i ∷ []) k j e, en, ap (λ w. length (entered g w)) (pushed_front k j e) ∙ l)

  -- the node is met as this now
  entered_as : (ms now : List Meeting) (next after : ℕ) (x : Meeting) → AreMetAs g outside met ms next → i < length g.nodes → Absent met i → now ≡ set ms i x → IsMetAs g outside (met ++ i ∷ []) i x → length (entered g (met ++ i ∷ [])) ≡ outside + after → AreMetAs g outside (met ++ i ∷ []) now after
  entered_as ms now next after x h there new e f level = record {
    once = distinct_push met i new h.once;
    told = λ j m at. told j m (subst (λ w. slice_get w j ≡ Some m) e at) (cases_eq j i);
    level = level;
    all = ap length e ∙ length-set ms i x ∙ h.all;
  }
    where
      told : (j : ℕ) (m : Meeting) → slice_get (set ms i x) j ≡ Some m → (j ≡ i) ⊎ (j ≡ i → ⊥) → IsMetAs g outside (met ++ i ∷ []) j m
      told j m at (inl same) =
          let is : x ≡ m = same_Some x m (sym (set_there ms i x (omega (arith, there, h.all))) ∙ ap (slice_get (set ms i x)) (sym same) ∙ at) in
          subst (λ w. IsMetAs g outside (met ++ i ∷ []) w m) (sym same) (subst (IsMetAs g outside (met ++ i ∷ []) i) is f)
      told j m at (inr other) = pushed_as j m other (h.told j m (sym (set_elsewhere ms i j x other) ∙ at))

  size_by : (b : Bool) → enters0 (node_at g i).head ≡ b → length (entered g (met ++ i ∷ [])) ≡ length (entered g met) + length (cond b (i ∷ []) [])
  size_by b e = ap length (entered_push g met i) ∙ length-append (entered g met) (cond (enters0 (node_at g i).head) (i ∷ []) []) ∙ ap (λ t. length (entered g met) + length (cond t (i ∷ []) [])) e

  all_front : take (length met) (met ++ i ∷ []) ≡ met
  all_front = take_front met (i ∷ []) (length met) (omega arith) ∙ take_whole met
    where
      take_whole : (xs : List ℕ) → take (length xs) xs ≡ xs
      take_whole [] = refl
      take_whole (x ∷ xs) = ap (λ w. x ∷ w) (take_whole xs)

  pub entered_met : (old new : Search) → AreMetAs g outside met old.meetings.items old.next → i < length g.nodes → Absent met i → IsEntered g i old new → AreMetAs g outside (met ++ i ∷ []) new.meetings.items new.next
  entered_met old new h there fresh (inl (en, e, f)) =
      let rank : length (entered g (take (length met) (met ++ i ∷ []))) ≡ outside + old.next = ap (λ w. length (entered g w)) all_front ∙ h.level in
      entered_as old.meetings.items new.meetings.items old.next new.next (At old.next) h there fresh e (length met, at_end met i, en, rank) (omega (arith, size_by true en, h.level, f))
  entered_met old new h there fresh (inr (out, e, f)) =
      entered_as old.meetings.items new.meetings.items old.next new.next Alone h there fresh e (length met, at_end met i, inl out) (omega (arith, size_by false out, h.level, f))

-- how many were never met, one less
pub unmet_less : (ms : List Meeting) (i : ℕ) (x : Meeting) → slice_get ms i ≡ Some Never → unmet (x ∷ []) ≡ 0 → unmet (set ms i x) + 1 ≡ unmet ms
unmet_less [] i x e z = absurd (no_entry i Never e)
unmet_less (m ∷ ms) zero x e z = go m x (same_Some m Never e) z
  where
    go : (m x : Meeting) → m ≡ Never → unmet (x ∷ []) ≡ 0 → unmet (x ∷ ms) + 1 ≡ unmet (m ∷ ms)
    go Never Never e z = absurd (omega (arith, z))
    go Never Alone e z = omega arith
    go Never (At p) e z = omega arith
    go Alone x e z = cc
    go (At p) x e z = cc
unmet_less (Never ∷ ms) (suc i) x e z = let r = unmet_less ms i x e z in omega (arith, r)
unmet_less (Alone ∷ ms) (suc i) x e z = unmet_less ms i x e z
unmet_less (At p ∷ ms) (suc i) x e z = unmet_less ms i x e z

pub unmet_most : (ms : List Meeting) → unmet ms ≤ length ms
unmet_most [] = omega arith
unmet_most (Never ∷ ms) = let r = unmet_most ms in omega (arith, r)
unmet_most (Alone ∷ ms) = let r = unmet_most ms in omega (arith, r)
unmet_most (At p ∷ ms) = let r = unmet_most ms in omega (arith, r)

-- a node that is entered is one less of them
pub entered_less : (g : Graph) (i : ℕ) (old new : Search) → slice_get old.meetings.items i ≡ Some Never → IsEntered g i old new → (unmet new.meetings.items + 1 ≡ unmet old.meetings.items) × (new.next ≤ old.next + 1)
entered_less g i old new at (inl (en, e, f)) = (ap (λ w. unmet w + 1) e ∙ unmet_less old.meetings.items i (At old.next) at refl, omega (arith, f))
entered_less g i old new at (inr (out, e, f)) = (ap (λ w. unmet w + 1) e ∙ unmet_less old.meetings.items i Alone at refl, omega (arith, f))

-- One step of the search.

module _ (g : Graph) (outside : ℕ) (before : List ℕ) (from : List Value) (order : List ℕ) (once : IsDistinct order) where
  abbrev Going : Search → List Value → Type 0
  Going = Searched g outside before from order

  pub past_leaf : (s : Search) (x : Leaf) (left : List Value) → Going s (leaf x ∷ left) → Going s left
  past_leaf s x left h = record {
    met = h.met;
    again = h.again;
    are_met = h.are_met;
    within = h.within;
    walk = λ all rest w. h.walk all rest (past x w);
    later = h.later;
    least = h.least;
  }

  -- a node that was never met is noted, and then entered
  pub searched_new : (s mid new : Search) (i : ℕ) (r : Option LackKind) (left : List Value) → i < length g.nodes → slice_get s.meetings.items i ≡ Some Never → IsFirstReason (MeetingLacks g i Never) r → Notes order i r s.least mid.least → mid.meetings ≡ s.meetings → mid.next ≡ s.next → IsEntered g i mid new → new.least ≡ mid.least → Going s (node i ∷ left) → Going new (values_met (node_at g i) ++ left)
  searched_new s mid new i r left there at reason notes same_meetings same_next enters same h =
      let fresh = h.are_met.told i Never at in
      let mid_met = subst (λ n. AreMetAs g outside h.met mid.meetings.items n) (sym same_next) (subst (λ ms. AreMetAs g outside h.met ms s.next) (sym (ap (λ v. v.items) same_meetings)) h.are_met) in
      record {
        met = h.met ++ i ∷ [];
        again = h.again;
        are_met = entered_met g outside h.met i mid new mid_met there fresh enters;
        within = λ j k e. let l = h.within j k e in omega (arith, l, length_pushed h.met i);
        walk = λ all rest w. h.walk all rest (first i there fresh w);
        later = omega (arith, h.later, length_pushed h.met i);
        least = subst (IsLeast (PartLacks0 g outside (length before) order (h.met ++ i ∷ []) h.again)) (sym same) (new_least g outside (length before) order once h.met h.again h.are_met.once h.within h.later i fresh r s.least mid.least reason notes h.least);
      }

  -- one that was met is noted alone
  searched_again : (s new : Search) (i at : ℕ) (left : List Value) → (h : Going s (node i ∷ left)) → slice_get h.met at ≡ Some i → new.meetings ≡ s.meetings → new.next ≡ s.next → IsLeast (PartLacks0 g outside (length before) order h.met (h.again ++ at ∷ [])) new.least → Going new left
  searched_again s new i at left h there same_meetings same_next least = record {
    met = h.met;
    again = h.again ++ at ∷ [];
    are_met = subst (λ n. AreMetAs g outside h.met new.meetings.items n) (sym same_next) (subst (λ ms. AreMetAs g outside h.met ms s.next) (sym (ap (λ v. v.items) same_meetings)) h.are_met);
    within = λ j k e. elim (at_push h.again at j k e) [ inl f ↦ h.within j k f | inr f ↦ subst (λ w. w < length h.met) f.1 (slice_get_within h.met at i there) ];
    walk = λ all rest w. subst (λ z. Meets g before from all z) (sym (append_assoc h.again (at ∷ []) rest)) (h.walk all (at ∷ rest) (again i at there w));
    later = h.later;
    least = least;
  }

  pub searched_met : (s new : Search) (i : ℕ) (m : Meeting) (r : Option LackKind) (left : List Value) → slice_get s.meetings.items i ≡ Some m → (m ≡ Never → ⊥) → IsFirstReason (MeetingLacks g i m) r → Notes order i r s.least new.least → new.meetings ≡ s.meetings → new.next ≡ s.next → Going s (node i ∷ left) → Going new left
  searched_met s new i Never r left at met reason notes same_meetings same_next h = absurd (met refl)
  searched_met s new i Alone r left at met reason notes same_meetings same_next h =
      let told = h.are_met.told i Alone at in
      searched_again s new i told.0 left h told.1 same_meetings same_next (alone_least g outside (length before) order once h.met h.again h.are_met.once h.within h.later i told.0 told.1 told r s.least new.least reason notes h.least)
  searched_met s new i (At p) r left at met reason notes same_meetings same_next h =
      let told = h.are_met.told i (At p) at in
      searched_again s new i told.0 left h told.1 same_meetings same_next (named_least g outside (length before) order once h.met h.again h.are_met.once h.within h.later i told.0 told.1 p told r s.least new.least reason notes h.least)
