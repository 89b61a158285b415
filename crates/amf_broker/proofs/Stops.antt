-- A place that no publish touches is shown as if each publish had moved it.
use Rattle.std.proofs.Common.{◌≡◌, ℕ, ◌+◌, ◌≤◌, Bool, true, false, List, [], ◌∷◌, ◌++◌, refl, sym, ◌∙◌, ap, arith, append_assoc}
use Rattle.std.specs.Prelude.{◌==◌, ◌&&◌, nat_le, map, if◌then◌else◌}
use Rattle.std.proofs.lemmas.Bool.Decides.{nat_tests}
use Rattle.std.proofs.lemmas.List.{append-nil}
use Rattle.amf_broker.specs.declared.topic.Topic.{Topic}
use Rattle.amf_broker.specs.Machine.{is_same_topic}
use Rattle.amf_broker.specs.Sound.{rises_by}
use Rattle.amf_broker.specs.State.{Subscription}
use Rattle.amf_broker.specs.Lines.{Span, Deal, subs_by, is_reached_by, is_crowded, dealt_as, deal_all, closed}
use Rattle.amf_broker.specs.Members.{raised, stopped}
use Rattle.amf_broker.proofs.Publishes.{is_over}
use Rattle.amf_broker.proofs.Raises.{subs-raised}
use Rattle.amf_broker.proofs.Tallies.{over-later, over-other}

pick-true : {A : Type 0} (b : Bool) (x y : A) → b ≡ true → (if b then x else y) ≡ x
pick-true true x y e = refl
pick-true false x y e = cc

pick-false : {A : Type 0} (b : Bool) (x y : A) → b ≡ false → (if b then x else y) ≡ y
pick-false true x y e = cc
pick-false false x y e = refl

both-true : (a b : Bool) → a ≡ true → b ≡ true → (a && b) ≡ true
both-true true true p q = refl
both-true true false p q = cc
both-true false b p q = cc

second-false : (a b : Bool) → b ≡ false → (a && b) ≡ false
second-false true b q = q
second-false false b q = refl

first-false : (a b : Bool) → a ≡ false → (a && b) ≡ false
first-false true b q = cc
first-false false b q = refl

pub raised-live : (m : ℕ) (u : Span) → u.live ≡ true → raised m u ≡ record u { stop = m }
raised-live m u e = pick-true u.live (record u { stop = m }) u e

pub raised-dead : (m : ℕ) (u : Span) → u.live ≡ false → raised m u ≡ u
raised-dead m u e = pick-false u.live (record u { stop = m }) u e

pub closed-yes : (o : ℕ → Bool) (u : Span) → o u.id ≡ true → closed o u ≡ record u { live = false }
closed-yes o u e = pick-true (o u.id) (record u { live = false }) u e

pub closed-no : (o : ℕ → Bool) (u : Span) → o u.id ≡ false → closed o u ≡ u
closed-no o u e = pick-false (o u.id) (record u { live = false }) u e

pub stopped-yes : (n : ℕ) (o : ℕ → Bool) (u : Span) → u.live ≡ true → o u.id ≡ true → stopped n o u ≡ record u { stop = n; live = false }
stopped-yes n o u l e = pick-true (u.live && o u.id) (record u { stop = n; live = false }) u (both-true u.live (o u.id) l e)

pub stopped-no : (n : ℕ) (o : ℕ → Bool) (u : Span) → o u.id ≡ false → stopped n o u ≡ u
stopped-no n o u e = pick-false (u.live && o u.id) (record u { stop = n; live = false }) u (second-false u.live (o u.id) e)

pub stopped-dead : (n : ℕ) (o : ℕ → Bool) (u : Span) → u.live ≡ false → stopped n o u ≡ u
stopped-dead n o u e = pick-false (u.live && o u.id) (record u { stop = n; live = false }) u (first-false u.live (o u.id) e)

pub closed-dead : (o : ℕ → Bool) (u : Span) → u.live ≡ false → closed o u ≡ u
closed-dead o u e = step (o u.id) refl
  where
    step : (b : Bool) → o u.id ≡ b → closed o u ≡ u
    step true is = closed-yes o u is ∙ ap (λ l. record u { live = l }) (sym e)
    step false is = closed-no o u is

-- One place.

module _ (n : ℕ) (o : ℕ → Bool) (u : Span) where
  pub dead-one : (v : Span) → u.live ≡ false → v ≡ u → raised (n + 1) (closed o v) ≡ raised (n + 1) (stopped n o u)
  dead-one v e same = ap (raised (n + 1)) (ap (closed o) same ∙ (closed-dead o u e ∙ sym (stopped-dead n o u e)))

  -- it ended, or did not, and stands where it stood
  pub live-one : u.live ≡ true → raised (n + 1) (closed o (record u { stop = n })) ≡ raised (n + 1) (stopped n o u)
  live-one e = step (o u.id) refl
    where
      step : (b : Bool) → o u.id ≡ b → raised (n + 1) (closed o (record u { stop = n })) ≡ raised (n + 1) (stopped n o u)
      step true is = ap (raised (n + 1)) (closed-yes o (record u { stop = n }) is ∙ sym (stopped-yes n o u e is))
      step false is =
          ap (raised (n + 1)) (closed-no o (record u { stop = n }) is)
          ∙ (raised-live (n + 1) (record u { stop = n }) e ∙ (sym (raised-live (n + 1) u e) ∙ ap (raised (n + 1)) (sym (stopped-no n o u is))))

  -- it got the message
  pub given-one : u.live ≡ true → o u.id ≡ false → raised (n + 1) (closed o (record u { stop = n + 1 })) ≡ raised (n + 1) (stopped n o u)
  given-one e is =
      ap (raised (n + 1)) (closed-no o (record u { stop = n + 1 }) is)
      ∙ (raised-live (n + 1) (record u { stop = n + 1 }) e ∙ (sym (raised-live (n + 1) u e) ∙ ap (raised (n + 1)) (sym (stopped-no n o u is))))

-- All places.

map-append : {A B : Type 0} (f : A → B) (xs ys : List A) → map f (xs ++ ys) ≡ map f xs ++ map f ys
map-append f [] ys = refl
map-append f (x ∷ xs) ys = ap (λ m. f x ∷ m) (map-append f xs ys)

module _ (t : Topic) (n : ℕ) (e : List ℕ) where
  abbrev shown_end : Span → Span
  shown_end v = raised (n + 1) (closed (is_over e) v)

  abbrev now : Span → Span
  now u = raised (n + 1) (stopped n (is_over e) u)

  reached-dead : (u v : Span) (l : Bool) → u.live ≡ l → v ≡ (if l then record u { stop = n } else u) → l ≡ false → is_reached_by t v ≡ false
  reached-dead u v true is same none = cc
  reached-dead u v false is same none = ap (is_reached_by t) same ∙ first-false u.live (is_same_topic u.topic t) is

  -- the places after the deal, as they are shown at its end
  abbrev shown_after : Deal → List Span → List Span
  shown_after d us = map shown_end (deal_all t n d (map (raised n) us)).spans

  abbrev Holds : Deal → List Span → Type 0
  Holds d us = shown_after d us ≡ map shown_end d.spans ++ map now us

  -- none of these numbers has ended so far
  abbrev IsBelow : Deal → ℕ → Type 0
  IsBelow d b = (k : ℕ) → b ≤ k → is_over d.ended k ≡ false

  abbrev Again : List Span → Type 0
  Again us = (d : Deal) (b : ℕ) → (deal_all t n d (map (raised n) us)).ended ≡ e → IsBelow d b → rises_by (λ u. u.id) b (subs_by us) ≡ true → Holds d us

  put-first : (d f : Deal) (u x : Span) (us : List Span) → f.spans ≡ d.spans ++ (x ∷ []) → shown_end x ≡ now u → Holds f us → shown_after f us ≡ map shown_end d.spans ++ (now u ∷ map now us)
  put-first d f u x us spans head rest =
      rest ∙ (ap (λ m. map shown_end m ++ map now us) spans
      ∙ (ap (λ m. m ++ map now us) (map-append shown_end d.spans (x ∷ []))
      ∙ (append_assoc (map shown_end d.spans) (shown_end x ∷ []) (map now us)
      ∙ ap (λ y. map shown_end d.spans ++ (y ∷ map now us)) head)))

  dead-step : (d : Deal) (u : Span) (us : List Span) (b : ℕ) (f : Bool) → Again us → u.live ≡ false → (deal_all t n (dealt_as false f n d (raised n u)) (map (raised n) us)).ended ≡ e → IsBelow d b → rises_by (λ u. u.id) b (subs_by (u ∷ us)) ≡ true
      → shown_after (dealt_as false f n d (raised n u)) us ≡ map shown_end d.spans ++ (now u ∷ map now us)
  dead-step d u us b f again dead is below rise =
      let rest : rises_by (λ (u : Subscription). u.id) b (subs_by us) ≡ true = grind (arith, dead, rise) in
      put-first d (dealt_as false f n d (raised n u)) u (raised n u) us refl (dead-one n (is_over e) u (raised n u) dead (raised-dead n u dead)) (again (dealt_as false f n d (raised n u)) b is below rest)

  module _ (d : Deal) (u : Span) (us : List Span) (b : ℕ) (again : Again us) (live : u.live ≡ true) (below : IsBelow d b) (rise : rises_by (λ u. u.id) b (subs_by (u ∷ us)) ≡ true) where
    from : b ≤ u.id
    from = let more : nat_le b u.id ≡ true = grind (arith, live, rise) in grind (arith, nat_tests, more)

    rest : rises_by (λ u. u.id) (u.id + 1) (subs_by us) ≡ true
    rest = grind (arith, live, rise)

    id-same : (raised n u).id ≡ u.id
    id-same = ap (λ x. x.id) (raised-live n u live)

    further : IsBelow d (u.id + 1)
    further k more = below k (let less = from in omega arith)

    stands : raised (n + 1) (closed (is_over e) (raised n u)) ≡ now u
    stands = ap (λ x. raised (n + 1) (closed (is_over e) x)) (raised-live n u live) ∙ live-one n (is_over e) u live

    missed-step : (f : Bool) → (deal_all t n (dealt_as false f n d (raised n u)) (map (raised n) us)).ended ≡ e → shown_after (dealt_as false f n d (raised n u)) us ≡ map shown_end d.spans ++ (now u ∷ map now us)
    missed-step f is = put-first d (dealt_as false f n d (raised n u)) u (raised n u) us refl stands (again (dealt_as false f n d (raised n u)) (u.id + 1) is further rest)

    ended-below : IsBelow (dealt_as true true n d (raised n u)) (u.id + 1)
    ended-below k more =
        let other : (u.id == k) ≡ false = grind (arith, nat_tests, more) in
        ap (λ i. is_over (d.ended ++ (i ∷ [])) k) id-same ∙ (over-other d.ended u.id k other ∙ further k more)

    ended-step : (deal_all t n (dealt_as true true n d (raised n u)) (map (raised n) us)).ended ≡ e → shown_after (dealt_as true true n d (raised n u)) us ≡ map shown_end d.spans ++ (now u ∷ map now us)
    ended-step is = put-first d (dealt_as true true n d (raised n u)) u (raised n u) us refl stands (again (dealt_as true true n d (raised n u)) (u.id + 1) is ended-below rest)

    free : (deal_all t n (dealt_as true false n d (raised n u)) (map (raised n) us)).ended ≡ e → is_over e u.id ≡ false
    free is =
        let later : rises_by (λ (u : Subscription). u.id) (u.id + 1) (subs_by (map (raised n) us)) ≡ true = ap (rises_by (λ (u : Subscription). u.id) (u.id + 1)) (subs-raised n us) ∙ rest in
        ap (λ x. is_over x u.id) (sym is) ∙ (over-later t n u.id (dealt_as true false n d (raised n u)) (map (raised n) us) u.id (omega arith) later ∙ below u.id from)

    given-step : (deal_all t n (dealt_as true false n d (raised n u)) (map (raised n) us)).ended ≡ e → shown_after (dealt_as true false n d (raised n u)) us ≡ map shown_end d.spans ++ (now u ∷ map now us)
    given-step is = put-first d (dealt_as true false n d (raised n u)) u (record (raised n u) { stop = n + 1 }) us refl
        (ap (λ x. raised (n + 1) (closed (is_over e) (record x { stop = n + 1 }))) (raised-live n u live) ∙ given-one n (is_over e) u live (free is))
        (again (dealt_as true false n d (raised n u)) (u.id + 1) is further rest)

  pub all-stopped : (d : Deal) (us : List Span) (b : ℕ) → (deal_all t n d (map (raised n) us)).ended ≡ e → IsBelow d b → rises_by (λ u. u.id) b (subs_by us) ≡ true → Holds d us
  all-stopped d [] b is below rise = sym (append-nil (map shown_end d.spans))
  all-stopped d (u ∷ us) b is below rise = go u.live (is_reached_by t (raised n u)) (is_crowded (raised n u).client d.waiters) refl refl is (λ f c i l r. all-stopped f us c i l r)
    where
      go : (l r f : Bool) → u.live ≡ l → is_reached_by t (raised n u) ≡ r → (deal_all t n (dealt_as r f n d (raised n u)) (map (raised n) us)).ended ≡ e → Again us
          → shown_after (dealt_as r f n d (raised n u)) us ≡ map shown_end d.spans ++ (now u ∷ map now us)
      go false false f dead missed so again = dead-step d u us b f again dead so below rise
      go false true f dead reached so again = let no : true ≡ false = sym reached ∙ reached-dead u (raised n u) false dead (ap (λ l. if l then record u { stop = n } else u) dead) refl in absurd (cc)
      go true false f live missed so again = missed-step d u us b again live below rise f so
      go true true true live reached so again = ended-step d u us b again live below rise so
      go true true false live reached so again = given-step d u us b again live below rise so
