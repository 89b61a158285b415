-- A poll over logs and places is the machine's.
use Rattle.std.proofs.Common.{◌≡◌, ℕ, Bool, true, false, not, List, [], ◌∷◌, refl, sym, ◌∙◌, ap, arith}
use Rattle.std.specs.Prelude.{◌==◌, ◌||◌, nat_le, nat_lt, filter, map, if◌then◌else◌}
use Rattle.std.specs.List.{list_all}
use Rattle.std.proofs.lemmas.Bool.Decides.{nat_tests}
use Rattle.amf_broker.specs.declared.reply.Delivery.{Delivery}
use Rattle.amf_broker.specs.Machine.{at_client, emptied, kept_as, seen_at}
use Rattle.amf_broker.specs.Lines.{TopicLog, Span, Waiter, IsKept, covered, spans_of, gathered, put_all, waits, clients_by, subs_by, waiter_at, is_above, emptied_waiter, kept_waiter, seen_waiter, begun_anew, outlasts, cleared}
use Rattle.amf_broker.proofs.Spans.{covered-none}
use Rattle.amf_broker.proofs.Deals.{shown_with, clients-changed, counts-changed, rise-changed}
use Rattle.amf_broker.proofs.Floors.{all-filter, all-map, posts-within}
use Rattle.amf_broker.proofs.Publishes.{at-all}

gathered-cleared : (logs : List TopicLog) (k n : ℕ) (us : List Span) → gathered logs (spans_of k (cleared k n us)) ≡ []
gathered-cleared logs k n [] = refl
gathered-cleared logs k n (u ∷ us) =
    let ih = gathered-cleared logs k n us in
    let none = covered-none logs (record u { start = n; stop = n }) (omega arith) in
    step u.live refl (u.client == k) refl ih none
  where
    step : (l : Bool) → u.live ≡ l → (b : Bool) → (u.client == k) ≡ b → gathered logs (spans_of k (cleared k n us)) ≡ [] → covered logs (record u { start = n; stop = n }) ≡ [] → gathered logs (spans_of k (cleared k n (u ∷ us))) ≡ []
    step true e true same ih none = grind (arith, e, same, ih, none)
    step true e false same ih none = grind (arith, e, same, ih)
    step false e true same ih none = grind (arith, e, same, ih)
    step false e false same ih none = grind (arith, e, same, ih)

pub waits-cleared : (logs : List TopicLog) (k n : ℕ) (us : List Span) → waits logs (cleared k n us) k ≡ []
waits-cleared logs k n us = ap (λ x. put_all x []) (gathered-cleared logs k n us)

spans-cleared : (j k n : ℕ) (us : List Span) → (j == k) ≡ false → spans_of j (cleared k n us) ≡ spans_of j us
spans-cleared j k n [] other = refl
spans-cleared j k n (u ∷ us) other = step (u.client == k) refl (spans-cleared j k n us other)
  where
    step : (b : Bool) → (u.client == k) ≡ b → spans_of j (cleared k n us) ≡ spans_of j us → spans_of j (cleared k n (u ∷ us)) ≡ spans_of j (u ∷ us)
    step true e ih =
        let apart : (u.client == j) ≡ false = grind (arith, nat_tests, e, other) in
        elim u.live as (λ l. spans_of j (map (begun_anew k n) (if l || not (u.client == k) then u ∷ filter (outlasts k) us else filter (outlasts k) us)) ≡ spans_of j (u ∷ us)) [ true ↦ grind (arith, e, apart, ih) | false ↦ grind (arith, e, apart, ih) ]
    step false e ih = grind (arith, e, ih)

pub waits-cleared_other : (logs : List TopicLog) (k n : ℕ) (us : List Span) (j : ℕ) → (j == k) ≡ false → waits logs (cleared k n us) j ≡ waits logs us j
waits-cleared_other logs k n us j other = ap (λ x. put_all (gathered logs x) []) (spans-cleared j k n us other)

pub subs-cleared : (k n : ℕ) (us : List Span) → subs_by (cleared k n us) ≡ subs_by us
subs-cleared k n [] = refl
subs-cleared k n (u ∷ us) = step u.live refl (u.client == k) refl (subs-cleared k n us)
  where
    step : (l : Bool) → u.live ≡ l → (b : Bool) → (u.client == k) ≡ b → subs_by (cleared k n us) ≡ subs_by us → subs_by (cleared k n (u ∷ us)) ≡ subs_by (u ∷ us)
    step true e true same ih = grind (arith, e, same, ih)
    step true e false same ih = grind (arith, e, same, ih)
    step false e true same ih = grind (arith, e, same, ih)
    step false e false same ih = grind (arith, e, same, ih)

begun-as : (p : Span → Bool) (k n : ℕ) → ((u : Span) → p u ≡ true → p (record u { start = n; stop = n }) ≡ true) → (u : Span) → p u ≡ true → p (begun_anew k n u) ≡ true
begun-as p k n same u holds = elim (u.client == k) as (λ b. p (if b then record u { start = n; stop = n } else u) ≡ true) [ true ↦ same u holds | false ↦ holds ]

module _ (logs : List TopicLog) (us : List Span) (ws : List Waiter) (c n : ℕ) (k : IsKept logs us ws c n) (client : ℕ) where
  cleared-all : (p : Span → Bool) → ((u : Span) → p u ≡ true → p (record u { start = n; stop = n }) ≡ true) → list_all p us ≡ true → list_all p (cleared client n us) ≡ true
  cleared-all p same all = all-map p p (begun_anew client n) (begun-as p client n same) (filter (outlasts client) us) (all-filter p (outlasts client) us all)

  -- whatever becomes of the client's waiter, if it has its number, and counts none
  pub cleared-kept : (g : Waiter → Waiter) → ((w : Waiter) → (g w).id ≡ w.id) → ((w : Waiter) → (g w).waiting ≡ 0) → IsKept logs (cleared client n us) (waiter_at client g ws) c n
  cleared-kept g same zero = record {
    right = counts-changed logs logs us (cleared client n us) client (waits-cleared_other logs client n us) g
        (λ w e right. let none = waits-cleared logs client n us in let i = same w in let z = zero w in rw (i, z, e, none) refl) 0 ws k.rise k.right;
    rise = rise-changed client g same 0 ws ∙ k.rise;
    ids = at-all (λ w. nat_lt w.id c) client g (λ w. ap (λ i. nat_lt i c) (same w)) ws k.ids;
    own = cleared-all (λ u. nat_lt u.client c) (λ u holds. holds) k.own;
    stops = cleared-all (λ u. nat_le u.stop n) (λ u holds. grind (arith, nat_tests)) k.stops;
    starts = cleared-all (λ u. nat_le u.start n) (λ u holds. grind (arith, nat_tests)) k.starts;
    above = cleared-all (is_above logs) (λ u holds. let all = posts-within n u.topic logs k.before in grind (arith, all)) k.above;
    before = k.before;
  }

  pub emptied-clients : clients_by logs (cleared client n us) (waiter_at client emptied_waiter ws) ≡ at_client client emptied (clients_by logs us ws)
  emptied-clients = clients-changed logs logs us (cleared client n us) client (waits-cleared_other logs client n us) emptied_waiter emptied
      (λ w e. ap (λ q. shown_with q (emptied_waiter w)) (rw e (waits-cleared logs client n us))) 0 ws k.rise

  pub kept-clients : (number : ℕ) (queue : List Delivery) → queue ≡ waits logs us client
      → clients_by logs (cleared client n us) (waiter_at client (kept_waiter number queue) ws) ≡ at_client client (kept_as number) (clients_by logs us ws)
  kept-clients number queue is = clients-changed logs logs us (cleared client n us) client (waits-cleared_other logs client n us) (kept_waiter number queue) (kept_as number)
      (λ w e. let own : queue ≡ waits logs us w.id = is ∙ ap (waits logs us) (sym e) in
      ap (λ q. shown_with q (kept_waiter number queue w)) (rw e (waits-cleared logs client n us)) ∙ ap (λ q. shown_with [] (kept_waiter number q w)) own) 0 ws k.rise

  pub seen-kept : (present : ℕ) → IsKept logs us (waiter_at client (seen_waiter present) ws) c n
  seen-kept present = record {
    right = counts-changed logs logs us us client (λ j e. refl) (seen_waiter present) (λ w e right. right) 0 ws k.rise k.right;
    rise = rise-changed client (seen_waiter present) (λ w. refl) 0 ws ∙ k.rise;
    ids = at-all (λ w. nat_lt w.id c) client (seen_waiter present) (λ w. refl) ws k.ids;
    own = k.own;
    stops = k.stops;
    starts = k.starts;
    above = k.above;
    before = k.before;
  }

  pub seen-clients : (present : ℕ) → clients_by logs us (waiter_at client (seen_waiter present) ws) ≡ at_client client (seen_at present) (clients_by logs us ws)
  seen-clients present = clients-changed logs logs us us client (λ j e. refl) (seen_waiter present) (seen_at present) (λ w e. refl) 0 ws k.rise
