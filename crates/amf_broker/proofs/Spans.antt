-- The clients and subscriptions by logs and places, after each change of these.
use Rattle.std.proofs.Common.{◌≡◌, ℕ, ◌≤◌, Bool, true, false, not, List, [], ◌∷◌, ◌++◌, refl, ◌∙◌, ap, arith}
use Rattle.std.specs.Prelude.{◌==◌, nat_lt, filter, map, if◌then◌else◌}
use Rattle.std.specs.List.{list_all}
use Rattle.std.proofs.lemmas.Bool.Decides.{nat_tests}
use Rattle.std.proofs.lemmas.List.{append-nil}
use Rattle.std.proofs.lemmas.Grind.{flat_map-append}
use Rattle.amf_broker.specs.Delivery.{Message}
use Rattle.amf_broker.specs.Moments.{stays, clients_left, subs_left}
use Rattle.amf_broker.specs.Lines.{TopicLog, Span, Waiter, posts_of, is_covered, delivered, covered, spans_of, gathered, put_all, waits, shown, clients_by, subscription, subs_by, spans_left, waiters_left, closed}

-- Clients that leave.

spans-left : (ks : List ℕ) (k : ℕ) (us : List Span) → stays ks k ≡ true → spans_of k (spans_left ks us) ≡ spans_of k us
spans-left ks k [] stay = refl
spans-left ks k (u ∷ us) stay = let ih = spans-left ks k us stay in grind (arith, nat_tests, ih, stay)

shown-as : (logs : List TopicLog) (us vs : List Span) (w : Waiter) → waits logs us w.id ≡ waits logs vs w.id → shown logs us w ≡ shown logs vs w
shown-as logs us vs w same = ap (λ q. record { id = w.id; queue = q; ended = w.ended; seen = w.seen; last = w.last; kept = w.kept; kept_ended = w.kept_ended }) same

shown-left : (ks : List ℕ) (logs : List TopicLog) (us : List Span) (w : Waiter) → stays ks w.id ≡ true → shown logs (spans_left ks us) w ≡ shown logs us w
shown-left ks logs us w stay = shown-as logs (spans_left ks us) us w (ap (λ vs. put_all (gathered logs vs) []) (spans-left ks w.id us stay))

pub clients-left : (ks : List ℕ) (logs : List TopicLog) (us : List Span) (ws : List Waiter) → clients_by logs (spans_left ks us) (waiters_left ks ws) ≡ clients_left ks (clients_by logs us ws)
clients-left ks logs us [] = refl
clients-left ks logs us (w ∷ ws) = step (stays ks w.id) refl (clients-left ks logs us ws)
  where
    step : (b : Bool) → stays ks w.id ≡ b → clients_by logs (spans_left ks us) (waiters_left ks ws) ≡ clients_left ks (clients_by logs us ws)
        → clients_by logs (spans_left ks us) (waiters_left ks (w ∷ ws)) ≡ clients_left ks (clients_by logs us (w ∷ ws))
    step true e ih = let one = shown-left ks logs us w e in grind (arith, ih, e, one)
    step false e ih = grind (arith, ih, e)

pub subs-left : (ks : List ℕ) (us : List Span) → subs_by (spans_left ks us) ≡ subs_left ks (subs_by us)
subs-left ks [] = refl
subs-left ks (u ∷ us) = let ih = subs-left ks us in grind (arith, nat_tests, ih)

-- A client that comes.

pub none-mine : (k : ℕ) (us : List Span) → list_all (λ u. nat_lt u.client k) us ≡ true → spans_of k us ≡ []
none-mine k [] all = refl
none-mine k (u ∷ us) all = let ih = none-mine k us in grind (arith, nat_tests, ih, all)

pub clients-more : (logs : List TopicLog) (us : List Span) (ws : List Waiter) (w : Waiter) → clients_by logs us (ws ++ (w ∷ [])) ≡ clients_by logs us ws ++ (shown logs us w ∷ [])
clients-more logs us [] w = refl
clients-more logs us (x ∷ ws) w = ap (λ m. shown logs us x ∷ m) (clients-more logs us ws w)

-- A subscription that begins.

pub clients-as : (logs : List TopicLog) (us vs : List Span) (ws : List Waiter) → ((k : ℕ) → waits logs us k ≡ waits logs vs k) → clients_by logs us ws ≡ clients_by logs vs ws
clients-as logs us vs [] same = refl
clients-as logs us vs (w ∷ ws) same = ap (λ c. c ∷ clients_by logs us ws) (shown-as logs us vs w (same w.id)) ∙ ap (λ m. shown logs vs w ∷ m) (clients-as logs us vs ws same)

none-covered : (start stop : ℕ) (ms : List Message) → stop ≤ start → filter (is_covered start stop) ms ≡ []
none-covered start stop [] less = refl
none-covered start stop (m ∷ ms) less = let ih = none-covered start stop ms less in grind (arith, nat_tests, ih, less)

pub covered-none : (logs : List TopicLog) (u : Span) → u.stop ≤ u.start → covered logs u ≡ []
covered-none logs u less = ap (λ ms. map (delivered u.id) ms) (none-covered u.start u.stop (posts_of u.topic logs) less)

pub spans-append : (k : ℕ) (us vs : List Span) → spans_of k (us ++ vs) ≡ spans_of k us ++ spans_of k vs
spans-append k [] vs = refl
spans-append k (u ∷ us) vs = let ih = spans-append k us vs in grind (arith, nat_tests, ih)

gathered-last : (logs : List TopicLog) (k : ℕ) (u : Span) → covered logs u ≡ [] → gathered logs (spans_of k (u ∷ [])) ≡ []
gathered-last logs k u none = elim (u.client == k) as (λ b. gathered logs (if b then u ∷ [] else []) ≡ []) [
  | true ↦ append-nil (covered logs u) ∙ none
  | false ↦ refl
]

pub gathered-append : (logs : List TopicLog) (us vs : List Span) → gathered logs (us ++ vs) ≡ gathered logs us ++ gathered logs vs
gathered-append logs us vs = flat_map-append (covered logs) us vs

pub waits-begun : (logs : List TopicLog) (us : List Span) (u : Span) (k : ℕ) → u.stop ≤ u.start → waits logs (us ++ (u ∷ [])) k ≡ waits logs us k
waits-begun logs us u k less =
    let all : gathered logs (spans_of k (us ++ (u ∷ []))) ≡ gathered logs (spans_of k us) =
    ap (gathered logs) (spans-append k us (u ∷ [])) ∙ (gathered-append logs (spans_of k us) (spans_of k (u ∷ [])) ∙ (ap (λ m. gathered logs (spans_of k us) ++ m) (gathered-last logs k u (covered-none logs u less)) ∙ append-nil (gathered logs (spans_of k us)))) in
    ap (λ m. put_all m []) all

pub subs-more : (us : List Span) (u : Span) → u.live ≡ true → subs_by (us ++ (u ∷ [])) ≡ subs_by us ++ (subscription u ∷ [])
subs-more [] u is = grind (arith, is)
subs-more (x ∷ us) u is = let ih = subs-more us u is in grind (arith, ih)

-- A subscription that ends.

closed-covered : (logs : List TopicLog) (sub : ℕ → Bool) (u : Span) → covered logs (closed sub u) ≡ covered logs u
closed-covered logs sub u = elim (sub u.id) as (λ b. covered logs (if b then record u { live = false } else u) ≡ covered logs u) [
  | true ↦ refl
  | false ↦ refl
]

closed-client : (sub : ℕ → Bool) (u : Span) → (closed sub u).client ≡ u.client
closed-client sub u = elim (sub u.id) as (λ b. (if b then record u { live = false } else u).client ≡ u.client) [
  | true ↦ refl
  | false ↦ refl
]

gathered-closed : (logs : List TopicLog) (sub : ℕ → Bool) (k : ℕ) (us : List Span) → gathered logs (spans_of k (map (closed sub) us)) ≡ gathered logs (spans_of k us)
gathered-closed logs sub k [] = refl
gathered-closed logs sub k (u ∷ us) =
    let ih = gathered-closed logs sub k us in
    let one = closed-covered logs sub u in
    let client = closed-client sub u in
    rw client (elim (u.client == k) as (λ b. gathered logs (if b then closed sub u ∷ spans_of k (map (closed sub) us) else spans_of k (map (closed sub) us)) ≡ gathered logs (if b then u ∷ spans_of k us else spans_of k us)) [
      | true ↦ ap (λ m. m ++ gathered logs (spans_of k (map (closed sub) us))) one ∙ ap (λ m. covered logs u ++ m) ih
      | false ↦ ih
    ])

pub waits-closed : (logs : List TopicLog) (sub : ℕ → Bool) (us : List Span) (k : ℕ) → waits logs (map (closed sub) us) k ≡ waits logs us k
waits-closed logs sub us k = ap (λ m. put_all m []) (gathered-closed logs sub k us)

pub subs-closed : (sub : ℕ → Bool) (us : List Span) → subs_by (map (closed sub) us) ≡ filter (λ u. not (sub u.id)) (subs_by us)
subs-closed sub [] = refl
subs-closed sub (u ∷ us) = step (sub u.id) refl (subs-closed sub us)
  where
    step : (b : Bool) → sub u.id ≡ b → subs_by (map (closed sub) us) ≡ filter (λ u. not (sub u.id)) (subs_by us) → subs_by (map (closed sub) (u ∷ us)) ≡ filter (λ u. not (sub u.id)) (subs_by (u ∷ us))
    step true e ih = grind (arith, e, ih)
    step false e ih = grind (arith, e, ih)

pub waits-left : (ks : List ℕ) (logs : List TopicLog) (us : List Span) (k : ℕ) → stays ks k ≡ true → waits logs (spans_left ks us) k ≡ waits logs us k
waits-left ks logs us k stay = ap (λ vs. put_all (gathered logs vs) []) (spans-left ks k us stay)
