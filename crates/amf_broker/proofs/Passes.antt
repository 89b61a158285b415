-- A message that has passed all subscriptions: the machine's spread.
use Rattle.std.proofs.Common.{◌≡◌, ℕ, ◌+◌, ◌≤◌, Bool, true, false, List, [], ◌∷◌, ◌++◌, length, refl, sym, ◌∙◌, ap, arith, append_assoc, length-append}
use Rattle.std.specs.Prelude.{◌==◌, nat_le, nat_lt, if◌then◌else◌}
use Rattle.std.specs.List.{list_all}
use Rattle.std.proofs.lemmas.Bool.Decides.{nat_tests}
use Rattle.std.proofs.lemmas.List.{append-nil}
use Rattle.amf_broker.specs.declared.topic.Topic.{Topic}
use Rattle.amf_broker.specs.declared.reply.Delivery.{Delivery}
use Rattle.amf_broker.specs.State.{Connection, Subscription}
use Rattle.amf_broker.specs.Machine.{at_client, with_delivery, with_ended, is_same_topic, is_full, spread, Spread, ended_first, subscribers}
use Rattle.amf_broker.specs.Delivery.{Message}
use Rattle.amf_broker.specs.Lines.{TopicLog, Span, Waiter, Deal, posts_of, posted, delivered, waits, clients_by, subscription, subs_by, waiters_rise, waiter_at, is_crowded, counted, noted, is_reached_by, dealt_as, deal_all, counts, is_above}
use Rattle.amf_broker.proofs.Posts.{covered-given}
use Rattle.amf_broker.proofs.Deals.{shown_with, clients-changed, counts-changed, rise-changed, crowded-full, stop_by, waits-given, waits-other}

choose-true : {A : Type 0} (b : Bool) (x y : A) → b ≡ true → (if b then x else y) ≡ x
choose-true true x y e = refl
choose-true false x y e = cc

choose-false : {A : Type 0} (b : Bool) (x y : A) → b ≡ false → (if b then x else y) ≡ y
choose-false true x y e = cc
choose-false false x y e = refl

subs-yes : (t : Topic) (u : Span) (us : List Span) → is_reached_by t u ≡ true → subscribers t (subs_by (u ∷ us)) ≡ subscription u ∷ subscribers t (subs_by us)
subs-yes t u us e = grind (arith, e)

subs-no : (t : Topic) (u : Span) (us : List Span) → is_reached_by t u ≡ false → subscribers t (subs_by (u ∷ us)) ≡ subscribers t (subs_by us)
subs-no t u us e = grind (arith, e)

stop-append : (n : ℕ) (us vs : List Span) → stop_by n us ≡ true → stop_by n vs ≡ true → stop_by n (us ++ vs) ≡ true
stop-append n [] vs first second = second
stop-append n (u ∷ us) vs first second = let ih = stop-append n us vs in grind (arith, nat_tests, ih, first, second)

more-in : (ds : List Span) (u : Span) (us : List Span) → (ds ++ (u ∷ [])) ++ us ≡ ds ++ (u ∷ us)
more-in ds u us = append_assoc ds (u ∷ []) us

module _ (t : Topic) (m : Message) (logs : List TopicLog) where
  -- what is so while the message passes
  pub record Ready (d : Deal) (us : List Span) : Type 0 where
    pub before : stop_by (m.number + 1) d.spans ≡ true
    pub after : stop_by m.number us ≡ true
    pub starts : list_all (λ u. nat_le u.start m.number) us ≡ true
    pub above : list_all (is_above logs) us ≡ true
    pub right : counts (posted t m logs) (d.spans ++ us) d.waiters ≡ true
    pub rise : waiters_rise 0 d.waiters ≡ true

  abbrev pub seen_so : Deal → List Span → List Connection
  seen_so d us = clients_by (posted t m logs) (d.spans ++ us) d.waiters

  -- the rest of the way leads from d to e
  pub record Passed (d : Deal) (us : List Span) (e : Deal) : Type 0 where
    pub clients : seen_so e [] ≡ (spread m.number m.bytes (subscribers t (subs_by us)) (seen_so d us)).clients
    pub ended : e.ended ≡ d.ended ++ (spread m.number m.bytes (subscribers t (subs_by us)) (seen_so d us)).ended
    pub ready : Ready e []

  kept-ready : (d : Deal) (u : Span) (us : List Span) → Ready d (u ∷ us) → Ready (dealt_as false false m.number d u) us
  kept-ready d u us r = record {
    before = let less : stop_by (m.number + 1) (u ∷ []) ≡ true = let a = r.after in grind (arith, nat_tests, a) in stop-append (m.number + 1) d.spans (u ∷ []) r.before less;
    after = let a = r.after in grind (arith, a);
    starts = let a = r.starts in grind (arith, a);
    above = let a = r.above in grind (arith, a);
    right = ap (λ x. counts (posted t m logs) x d.waiters) (more-in d.spans u us) ∙ r.right;
    rise = r.rise;
  }

  ended-ready : (d : Deal) (u : Span) (us : List Span) → Ready d (u ∷ us) → Ready (dealt_as true true m.number d u) us
  ended-ready d u us r = record {
    before = (kept-ready d u us r).before;
    after = (kept-ready d u us r).after;
    starts = (kept-ready d u us r).starts;
    above = (kept-ready d u us r).above;
    right = ap (λ x. counts (posted t m logs) x (waiter_at u.client (noted u.id) d.waiters)) (more-in d.spans u us)
        ∙ counts-changed (posted t m logs) (posted t m logs) (d.spans ++ (u ∷ us)) (d.spans ++ (u ∷ us)) u.client (λ j e. refl) (noted u.id) (λ w e same. same) 0 d.waiters r.rise r.right;
    rise = rise-changed u.client (noted u.id) (λ w. refl) 0 d.waiters ∙ r.rise;
  }

  abbrev moved : Span → Span
  moved u = record u { stop = m.number + 1 }

  abbrev on-way : Span → Delivery
  on-way u = delivered u.id m

  own-given : (d : Deal) (u : Span) (us : List Span) → Ready d (u ∷ us) → is_reached_by t u ≡ true
      → waits (posted t m logs) (d.spans ++ (moved u ∷ us)) u.client ≡ waits (posted t m logs) (d.spans ++ (u ∷ us)) u.client ++ (on-way u ∷ [])
  own-given d u us r reached =
      let same : is_same_topic u.topic t ≡ true = grind (arith, reached) in
      let live : u.live ≡ true = grind (arith, reached) in
      let start : u.start ≤ m.number = let a = r.starts in grind (arith, nat_tests, a) in
      let stop : u.stop ≤ m.number = let a = r.after in grind (arith, nat_tests, a) in
      let above : list_all (λ p. nat_lt p.number u.stop) (posts_of u.topic logs) ≡ true = let a = r.above in grind (arith, a, live) in
      waits-given t m logs d.spans u us r.before r.after (covered-given t m logs u same start stop above)

  other-given : (d : Deal) (u : Span) (us : List Span) (j : ℕ) → (j == u.client) ≡ false → waits (posted t m logs) (d.spans ++ (moved u ∷ us)) j ≡ waits (posted t m logs) (d.spans ++ (u ∷ us)) j
  other-given d u us j other = waits-other (posted t m logs) j d.spans u (moved u) us refl other

  given-count : (w : Waiter) (k : ℕ) (d : Delivery) (p q : List Delivery) → q ≡ p ++ (d ∷ []) → (w.waiting == length p) ≡ true → ((counted w).waiting == length q) ≡ true
  given-count w k d p q is right = let n = ap length is in let l = length-append p (d ∷ []) in grind (arith, nat_tests, right, n, l)

  given-ready : (d : Deal) (u : Span) (us : List Span) → Ready d (u ∷ us) → is_reached_by t u ≡ true → Ready (dealt_as true false m.number d u) us
  given-ready d u us r reached = record {
    before = let less : stop_by (m.number + 1) (moved u ∷ []) ≡ true = grind (arith, nat_tests) in stop-append (m.number + 1) d.spans (moved u ∷ []) r.before less;
    after = (kept-ready d u us r).after;
    starts = (kept-ready d u us r).starts;
    above = (kept-ready d u us r).above;
    right = ap (λ x. counts (posted t m logs) x (waiter_at u.client counted d.waiters)) (more-in d.spans (moved u) us)
        ∙ counts-changed (posted t m logs) (posted t m logs) (d.spans ++ (u ∷ us)) (d.spans ++ (moved u ∷ us)) u.client (other-given d u us) counted
        (λ w e same. given-count w u.client (on-way u) (waits (posted t m logs) (d.spans ++ (u ∷ us)) w.id) (waits (posted t m logs) (d.spans ++ (moved u ∷ us)) w.id) (rw e (own-given d u us r reached)) same) 0 d.waiters r.rise r.right;
    rise = rise-changed u.client counted (λ w. refl) 0 d.waiters ∙ r.rise;
  }

  full-so : (d : Deal) (u : Span) (us : List Span) (f : Bool) → Ready d (u ∷ us) → is_crowded u.client d.waiters ≡ f → is_full u.client (seen_so d (u ∷ us)) ≡ f
  full-so d u us f r e = sym (crowded-full (posted t m logs) (d.spans ++ (u ∷ us)) u.client d.waiters r.right) ∙ e

  kept-seen : (d : Deal) (u : Span) (us : List Span) → seen_so (dealt_as false false m.number d u) us ≡ seen_so d (u ∷ us)
  kept-seen d u us = ap (λ x. clients_by (posted t m logs) x d.waiters) (more-in d.spans u us)

  ended-seen : (d : Deal) (u : Span) (us : List Span) → Ready d (u ∷ us) → seen_so (dealt_as true true m.number d u) us ≡ at_client u.client (with_ended u.id) (seen_so d (u ∷ us))
  ended-seen d u us r =
      ap (λ x. clients_by (posted t m logs) x (waiter_at u.client (noted u.id) d.waiters)) (more-in d.spans u us)
      ∙ clients-changed (posted t m logs) (posted t m logs) (d.spans ++ (u ∷ us)) (d.spans ++ (u ∷ us)) u.client (λ j e. refl) (noted u.id) (with_ended u.id) (λ w e. refl) 0 d.waiters r.rise

  given-seen : (d : Deal) (u : Span) (us : List Span) → Ready d (u ∷ us) → is_reached_by t u ≡ true → seen_so (dealt_as true false m.number d u) us ≡ at_client u.client (with_delivery (on-way u)) (seen_so d (u ∷ us))
  given-seen d u us r reached =
      ap (λ x. clients_by (posted t m logs) x (waiter_at u.client counted d.waiters)) (more-in d.spans (moved u) us)
      ∙ clients-changed (posted t m logs) (posted t m logs) (d.spans ++ (u ∷ us)) (d.spans ++ (moved u ∷ us)) u.client (other-given d u us) counted (with_delivery (on-way u))
      (λ w e. ap (λ q. shown_with q w) (rw e (own-given d u us r reached))) 0 d.waiters r.rise

  abbrev from : List Subscription → List Connection → Spread
  from vs cs = spread m.number m.bytes vs cs

  pub passed : (d : Deal) (us : List Span) → Ready d us → Passed d us (deal_all t m.number d us)
  passed d [] r = record { clients = refl; ended = sym (append-nil d.ended); ready = r }
  passed d (u ∷ us) r = go (is_reached_by t u) (is_crowded u.client d.waiters) refl refl (λ e ready. passed e us ready)
    where
      go : (b f : Bool) → is_reached_by t u ≡ b → is_crowded u.client d.waiters ≡ f → ((e : Deal) → Ready e us → Passed e us (deal_all t m.number e us))
          → Passed d (u ∷ us) (deal_all t m.number (dealt_as b f m.number d u) us)
      go false f missed e again =
          let p = again (dealt_as false false m.number d u) (kept-ready d u us r) in
          let way : from (subscribers t (subs_by us)) (seen_so (dealt_as false false m.number d u) us) ≡ from (subscribers t (subs_by (u ∷ us))) (seen_so d (u ∷ us)) =
          ap (from (subscribers t (subs_by us))) (kept-seen d u us) ∙ ap (λ vs. from vs (seen_so d (u ∷ us))) (sym (subs-no t u us missed)) in
          record { clients = p.clients ∙ ap (λ x. x.clients) way; ended = p.ended ∙ ap (λ x. d.ended ++ x.ended) way; ready = p.ready }
      go true true reached e again =
          let p = again (dealt_as true true m.number d u) (ended-ready d u us r) in
          let way : ended_first u.id (from (subscribers t (subs_by us)) (seen_so (dealt_as true true m.number d u) us)) ≡ from (subscribers t (subs_by (u ∷ us))) (seen_so d (u ∷ us)) =
          ap (λ cs. ended_first u.id (from (subscribers t (subs_by us)) cs)) (ended-seen d u us r)
          ∙ (sym (choose-true (is_full u.client (seen_so d (u ∷ us))) _ _ (full-so d u us true r e)) ∙ ap (λ vs. from vs (seen_so d (u ∷ us))) (sym (subs-yes t u us reached))) in
          record { clients = p.clients ∙ ap (λ x. x.clients) way; ended = p.ended ∙ (append_assoc d.ended (u.id ∷ []) _ ∙ ap (λ x. d.ended ++ x.ended) way); ready = p.ready }
      go true false reached e again =
          let p = again (dealt_as true false m.number d u) (given-ready d u us r reached) in
          let way : from (subscribers t (subs_by us)) (seen_so (dealt_as true false m.number d u) us) ≡ from (subscribers t (subs_by (u ∷ us))) (seen_so d (u ∷ us)) =
          ap (λ cs. from (subscribers t (subs_by us)) cs) (given-seen d u us r reached)
          ∙ (sym (choose-false (is_full u.client (seen_so d (u ∷ us))) _ _ (full-so d u us false r e)) ∙ ap (λ vs. from vs (seen_so d (u ∷ us))) (sym (subs-yes t u us reached))) in
          record { clients = p.clients ∙ ap (λ x. x.clients) way; ended = p.ended ∙ ap (λ x. d.ended ++ x.ended) way; ready = p.ready }
