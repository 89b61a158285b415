-- A message that comes to the members of its topic does to the clients what it does on its way past all subscriptions.
use Rattle.std.proofs.Common.{◌≡◌, ℕ, ◌+◌, ◌≤◌, Bool, true, false, List, [], ◌∷◌, ◌++◌, refl, sym, ◌∙◌, ap, arith, append_assoc}
use Rattle.std.specs.Prelude.{◌==◌, ◌&&◌, ◌||◌, nat_le, filter, map, if◌then◌else◌, Some, None}
use Rattle.std.specs.List.{cons_option}
use Rattle.std.proofs.lemmas.Bool.Decides.{nat_tests}
use Rattle.std.proofs.lemmas.List.{append-nil}
use Rattle.amf_broker.specs.declared.topic.Topic.{Topic}
use Rattle.amf_broker.specs.Machine.{is_same_topic}
use Rattle.amf_broker.specs.Sound.{rises_by}
use Rattle.amf_broker.specs.State.{Subscription}
use Rattle.amf_broker.specs.Lines.{Span, Deal, subs_by, is_reached_by, is_crowded, counted, noted, waiter_at, dealt_as, deal_all}
use Rattle.amf_broker.specs.Members.{listener, members_in, waiters_after, ended_after}
use Rattle.amf_broker.proofs.Publishes.{is_over}

-- The clients and what ended.

pub deal-waiters : (t : Topic) (n : ℕ) (d : Deal) (us : List Span) → (deal_all t n d us).waiters ≡ waiters_after (members_in t us) d.waiters
deal-waiters t n d [] = refl
deal-waiters t n d (u ∷ us) = step (is_reached_by t u) (is_crowded u.client d.waiters) refl (λ e. deal-waiters t n e us)
  where
    step : (b f : Bool) → is_crowded u.client d.waiters ≡ f → ((e : Deal) → (deal_all t n e us).waiters ≡ waiters_after (members_in t us) e.waiters)
        → (deal_all t n (dealt_as b f n d u) us).waiters ≡ waiters_after (map listener (if b then u ∷ filter (is_reached_by t) us else filter (is_reached_by t) us)) d.waiters
    step false f e again = again (dealt_as false f n d u)
    step true true e again = again (dealt_as true true n d u) ∙ ap (λ b. waiters_after (members_in t us) (if b then waiter_at u.client (noted u.id) d.waiters else waiter_at u.client counted d.waiters)) (sym e)
    step true false e again = again (dealt_as true false n d u) ∙ ap (λ b. waiters_after (members_in t us) (if b then waiter_at u.client (noted u.id) d.waiters else waiter_at u.client counted d.waiters)) (sym e)

pub deal-ended : (t : Topic) (n : ℕ) (d : Deal) (us : List Span) → (deal_all t n d us).ended ≡ d.ended ++ ended_after (members_in t us) d.waiters
deal-ended t n d [] = sym (append-nil d.ended)
deal-ended t n d (u ∷ us) = step (is_reached_by t u) (is_crowded u.client d.waiters) refl (λ e. deal-ended t n e us)
  where
    step : (b f : Bool) → is_crowded u.client d.waiters ≡ f → ((e : Deal) → (deal_all t n e us).ended ≡ e.ended ++ ended_after (members_in t us) e.waiters)
        → (deal_all t n (dealt_as b f n d u) us).ended ≡ d.ended ++ ended_after (map listener (if b then u ∷ filter (is_reached_by t) us else filter (is_reached_by t) us)) d.waiters
    step false f e again = again (dealt_as false f n d u)
    step true true e again =
        again (dealt_as true true n d u)
        ∙ (append_assoc d.ended (u.id ∷ []) (ended_after (members_in t us) (waiter_at u.client (noted u.id) d.waiters))
        ∙ ap (λ b. d.ended ++ cons_option (if b then Some u.id else None) (ended_after (members_in t us) (if b then waiter_at u.client (noted u.id) d.waiters else waiter_at u.client counted d.waiters))) (sym e))
    step true false e again =
        again (dealt_as true false n d u)
        ∙ ap (λ b. d.ended ++ cons_option (if b then Some u.id else None) (ended_after (members_in t us) (if b then waiter_at u.client (noted u.id) d.waiters else waiter_at u.client counted d.waiters))) (sym e)

-- The places: a live one that did not end is shown past the message.

over-append : (xs ys : List ℕ) (k : ℕ) → is_over (xs ++ ys) k ≡ (is_over xs k || is_over ys k)
over-append [] ys k = refl
over-append (x ∷ xs) ys k = let ih = over-append xs ys k in grind (arith, ih)

pub over-other : (xs : List ℕ) (x k : ℕ) → (x == k) ≡ false → is_over (xs ++ (x ∷ [])) k ≡ is_over xs k
over-other xs x k other = let e = over-append xs (x ∷ []) k in grind (arith, e, other)

-- those that are after it do not end it
pub over-later : (t : Topic) (n k : ℕ) (d : Deal) (us : List Span) (b : ℕ) → k ≤ b → rises_by (λ u. u.id) (b + 1) (subs_by us) ≡ true → is_over (deal_all t n d us).ended k ≡ is_over d.ended k
over-later t n k d [] b less rise = refl
over-later t n k d (u ∷ us) b less rise = step u.live refl (is_same_topic u.topic t) (is_crowded u.client d.waiters) (λ e c l r. over-later t n k e us c l r)
  where
    ended : (s f : Bool) → rises_by (λ (u : Subscription). u.id) (u.id + 1) (subs_by us) ≡ true → k ≤ u.id → (u.id == k) ≡ false
        → ((e : Deal) (c : ℕ) → k ≤ c → rises_by (λ u. u.id) (c + 1) (subs_by us) ≡ true → is_over (deal_all t n e us).ended k ≡ is_over e.ended k)
        → is_over (deal_all t n (dealt_as s f n d u) us).ended k ≡ is_over d.ended k
    ended false f rest further other again = again (dealt_as false f n d u) u.id further rest
    ended true true rest further other again = again (dealt_as true true n d u) u.id further rest ∙ over-other d.ended u.id k other
    ended true false rest further other again = again (dealt_as true false n d u) u.id further rest

    step : (l : Bool) → u.live ≡ l → (s f : Bool)
        → ((e : Deal) (c : ℕ) → k ≤ c → rises_by (λ u. u.id) (c + 1) (subs_by us) ≡ true → is_over (deal_all t n e us).ended k ≡ is_over e.ended k)
        → is_over (deal_all t n (dealt_as (l && s) f n d u) us).ended k ≡ is_over d.ended k
    step false e s f again =
        let rest : rises_by (λ (u : Subscription). u.id) (b + 1) (subs_by us) ≡ true = grind (arith, e, rise) in
        again (dealt_as false f n d u) b less rest
    step true e s f again =
        let more : nat_le (b + 1) u.id ≡ true = grind (arith, e, rise) in
        let rest : rises_by (λ (u : Subscription). u.id) (u.id + 1) (subs_by us) ≡ true = grind (arith, e, rise) in
        let further : k ≤ u.id = grind (arith, nat_tests, more, less) in
        let other : (u.id == k) ≡ false = grind (arith, nat_tests, more, less) in
        ended s f rest further other again
