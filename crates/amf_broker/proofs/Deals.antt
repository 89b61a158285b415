-- A message that passes the subscriptions of its topic: each step is the machine's.
use Rattle.std.proofs.Common.{◌≡◌, ℕ, ◌+◌, ◌≤◌, ◌<◌, Bool, true, false, List, [], ◌∷◌, ◌++◌, length, refl, sym, ◌∙◌, ap, arith, append_assoc}
use Rattle.std.specs.Prelude.{◌==◌, nat_le, filter, map, if◌then◌else◌}
use Rattle.std.specs.List.{list_all}
use Rattle.std.proofs.lemmas.Bool.Decides.{nat_tests}
use Rattle.amf_broker.specs.declared.topic.Topic.{Topic}
use Rattle.amf_broker.specs.declared.reply.Delivery.{Delivery}
use Rattle.amf_broker.specs.State.{Connection}
use Rattle.amf_broker.specs.Machine.{at_client, is_full}
use Rattle.amf_broker.specs.Delivery.{Message}
use Rattle.amf_broker.specs.Lines.{TopicLog, Span, Waiter, posts_of, posted, is_covered, delivered, covered, spans_of, gathered, put_all, waits, shown, clients_by, waiters_rise, waiter_at, is_crowded, counts}
use Rattle.amf_broker.proofs.Merges.{none_later, all_before, put_all-latest}
use Rattle.amf_broker.proofs.Spans.{spans-append, gathered-append}

abbrev pub shown_with : List Delivery → Waiter → Connection
shown_with q w = record { id = w.id; queue = q; ended = w.ended; seen = w.seen; last = w.last; kept = w.kept; kept_ended = w.kept_ended }

-- A change of what waits for one client.

module _ (logs vogs : List TopicLog) (us vs : List Span) (k : ℕ) (others : (j : ℕ) → (j == k) ≡ false → waits vogs vs j ≡ waits logs us j) where
  pub clients-above : (n : ℕ) (ws : List Waiter) → waiters_rise n ws ≡ true → k < n → clients_by vogs vs ws ≡ clients_by logs us ws
  clients-above n [] rise less = refl
  clients-above n (w ∷ ws) rise less =
      let here : nat_le n w.id ≡ true = grind (arith, nat_tests, rise) in
      let rest : waiters_rise (w.id + 1) ws ≡ true = grind (arith, nat_tests, rise) in
      let other : (w.id == k) ≡ false = grind (arith, nat_tests, here, less) in
      let further : k < w.id + 1 = grind (arith, nat_tests, here, less) in
      ap (λ q. shown_with q w ∷ clients_by vogs vs ws) (others w.id other) ∙ ap (λ m. shown logs us w ∷ m) (clients-above (w.id + 1) ws rest further)

  pub clients-changed : (g : Waiter → Waiter) (f : Connection → Connection) → ((w : Waiter) → w.id ≡ k → shown vogs vs (g w) ≡ f (shown logs us w))
      → (n : ℕ) (ws : List Waiter) → waiters_rise n ws ≡ true → clients_by vogs vs (waiter_at k g ws) ≡ at_client k f (clients_by logs us ws)
  clients-changed g f own n [] rise = refl
  clients-changed g f own n (w ∷ ws) rise =
      let rest : waiters_rise (w.id + 1) ws ≡ true = grind (arith, nat_tests, rise) in
      step rest (w.id == k) refl (clients-changed g f own (w.id + 1) ws rest)
    where
      step : waiters_rise (w.id + 1) ws ≡ true → (b : Bool) → (w.id == k) ≡ b → clients_by vogs vs (waiter_at k g ws) ≡ at_client k f (clients_by logs us ws)
          → clients_by vogs vs (waiter_at k g (w ∷ ws)) ≡ at_client k f (clients_by logs us (w ∷ ws))
      step rest true e ih =
          let same : w.id ≡ k = grind (arith, nat_tests, e) in
          let one = own w same in
          let above = clients-above (w.id + 1) ws rest (omega (arith, same)) in
          grind (arith, e, one, above)
      step rest false e ih =
          let one : shown vogs vs w ≡ shown logs us w = ap (λ q. shown_with q w) (others w.id e) in
          grind (arith, e, one, ih)

  counts-above : (n : ℕ) (ws : List Waiter) → waiters_rise n ws ≡ true → k < n → counts logs us ws ≡ true → counts vogs vs ws ≡ true
  counts-above n [] rise less all = refl
  counts-above n (w ∷ ws) rise less all =
      let here : nat_le n w.id ≡ true = grind (arith, nat_tests, rise) in
      let rest : waiters_rise (w.id + 1) ws ≡ true = grind (arith, nat_tests, rise) in
      let other : (w.id == k) ≡ false = grind (arith, nat_tests, here, less) in
      let further : k < w.id + 1 = grind (arith, nat_tests, here, less) in
      let one = others w.id other in
      let more : counts logs us ws ≡ true = grind (arith, nat_tests, all) in
      let ih = counts-above (w.id + 1) ws rest further more in
      grind (arith, nat_tests, all, one, ih)

  pub counts-changed : (g : Waiter → Waiter) → ((w : Waiter) → w.id ≡ k → (w.waiting == length (waits logs us w.id)) ≡ true → ((g w).waiting == length (waits vogs vs (g w).id)) ≡ true)
      → (n : ℕ) (ws : List Waiter) → waiters_rise n ws ≡ true → counts logs us ws ≡ true → counts vogs vs (waiter_at k g ws) ≡ true
  counts-changed g own n [] rise all = refl
  counts-changed g own n (w ∷ ws) rise all =
      let rest : waiters_rise (w.id + 1) ws ≡ true = grind (arith, nat_tests, rise) in
      let more : counts logs us ws ≡ true = grind (arith, nat_tests, all) in
      let here : (w.waiting == length (waits logs us w.id)) ≡ true = grind (arith, nat_tests, all) in
      step rest more here (w.id == k) refl (counts-changed g own (w.id + 1) ws rest more)
    where
      step : waiters_rise (w.id + 1) ws ≡ true → counts logs us ws ≡ true → (w.waiting == length (waits logs us w.id)) ≡ true → (b : Bool) → (w.id == k) ≡ b → counts vogs vs (waiter_at k g ws) ≡ true → counts vogs vs (waiter_at k g (w ∷ ws)) ≡ true
      step rest more here true e ih =
          let same : w.id ≡ k = grind (arith, nat_tests, e) in
          let one = own w same here in
          let above = counts-above (w.id + 1) ws rest (omega (arith, same)) more in
          grind (arith, e, one, above)
      step rest more here false e ih =
          let one = others w.id e in
          grind (arith, e, here, one, ih)

pub rise-changed : (k : ℕ) (g : Waiter → Waiter) → ((w : Waiter) → (g w).id ≡ w.id) → (n : ℕ) (ws : List Waiter) → waiters_rise n (waiter_at k g ws) ≡ waiters_rise n ws
rise-changed k g keeps n [] = refl
rise-changed k g keeps n (w ∷ ws) = let ih = rise-changed k g keeps (w.id + 1) ws in let e = keeps w in grind (arith, nat_tests, ih, e)

-- a client is full where its count says so
pub crowded-full : (logs : List TopicLog) (us : List Span) (k : ℕ) (ws : List Waiter) → counts logs us ws ≡ true → is_crowded k ws ≡ is_full k (clients_by logs us ws)
crowded-full logs us k [] all = refl
crowded-full logs us k (w ∷ ws) all =
    let here : w.waiting ≡ length (waits logs us w.id) = grind (arith, nat_tests, all) in
    let more : counts logs us ws ≡ true = grind (arith, nat_tests, all) in
    step here (w.id == k) refl (crowded-full logs us k ws more)
  where
    step : w.waiting ≡ length (waits logs us w.id) → (b : Bool) → (w.id == k) ≡ b → is_crowded k ws ≡ is_full k (clients_by logs us ws) → is_crowded k (w ∷ ws) ≡ is_full k (clients_by logs us (w ∷ ws))
    step here true e ih = grind (arith, e, here)
    step here false e ih = grind (arith, e, ih)

-- A place that moves past the message.

covered-below : (n stop start : ℕ) (sub : ℕ) (ms : List Message) → stop ≤ n + 1 → none_later n (map (delivered sub) (filter (is_covered start stop) ms)) ≡ true
covered-below n stop start sub [] less = refl
covered-below n stop start sub (m ∷ ms) less = let ih = covered-below n stop start sub ms less in grind (arith, nat_tests, ih, less)

covered-before : (n stop start : ℕ) (sub : ℕ) (ms : List Message) → stop ≤ n → all_before n (map (delivered sub) (filter (is_covered start stop) ms)) ≡ true
covered-before n stop start sub [] less = refl
covered-before n stop start sub (m ∷ ms) less = let ih = covered-before n stop start sub ms less in grind (arith, nat_tests, ih, less)

none_later-append : (n : ℕ) (xs ys : List Delivery) → none_later n xs ≡ true → none_later n ys ≡ true → none_later n (xs ++ ys) ≡ true
none_later-append n [] ys first second = second
none_later-append n (x ∷ xs) ys first second = let ih = none_later-append n xs ys in grind (arith, nat_tests, ih, first, second)

all_before-append : (n : ℕ) (xs ys : List Delivery) → all_before n xs ≡ true → all_before n ys ≡ true → all_before n (xs ++ ys) ≡ true
all_before-append n [] ys first second = second
all_before-append n (x ∷ xs) ys first second = let ih = all_before-append n xs ys in grind (arith, nat_tests, ih, first, second)

abbrev pub stop_by : ℕ → List Span → Bool
stop_by n us = list_all (λ u. nat_le u.stop n) us

pub gathered-below : (n k : ℕ) (logs : List TopicLog) (us : List Span) → stop_by (n + 1) us ≡ true → none_later n (gathered logs (spans_of k us)) ≡ true
gathered-below n k logs [] all = refl
gathered-below n k logs (u ∷ us) all =
    let less : u.stop ≤ n + 1 = grind (arith, nat_tests, all) in
    let rest : stop_by (n + 1) us ≡ true = grind (arith, nat_tests, all) in
    let ih = gathered-below n k logs us rest in
    let one = none_later-append n (covered logs u) (gathered logs (spans_of k us)) (covered-below n u.stop u.start u.id (posts_of u.topic logs) less) ih in
    elim (u.client == k) as (λ b. none_later n (gathered logs (if b then u ∷ spans_of k us else spans_of k us)) ≡ true) [ true ↦ one | false ↦ ih ]

pub gathered-before : (n k : ℕ) (logs : List TopicLog) (us : List Span) → stop_by n us ≡ true → all_before n (gathered logs (spans_of k us)) ≡ true
gathered-before n k logs [] all = refl
gathered-before n k logs (u ∷ us) all =
    let less : u.stop ≤ n = grind (arith, nat_tests, all) in
    let rest : stop_by n us ≡ true = grind (arith, nat_tests, all) in
    let ih = gathered-before n k logs us rest in
    let one = all_before-append n (covered logs u) (gathered logs (spans_of k us)) (covered-before n u.stop u.start u.id (posts_of u.topic logs) less) ih in
    elim (u.client == k) as (λ b. all_before n (gathered logs (if b then u ∷ spans_of k us else spans_of k us)) ≡ true) [ true ↦ one | false ↦ ih ]

gathered-cons : (logs : List TopicLog) (u : Span) (us : List Span) → gathered logs (spans_of u.client (u ∷ us)) ≡ covered logs u ++ gathered logs (spans_of u.client us)
gathered-cons logs u us = let self : (u.client == u.client) ≡ true = grind (arith, nat_tests) in grind (arith, self)

gathered-within : (logs : List TopicLog) (ds : List Span) (u : Span) (us : List Span) → gathered logs (spans_of u.client (ds ++ (u ∷ us))) ≡ gathered logs (spans_of u.client ds) ++ (covered logs u ++ gathered logs (spans_of u.client us))
gathered-within logs ds u us =
    ap (gathered logs) (spans-append u.client ds (u ∷ us)) ∙ (gathered-append logs (spans_of u.client ds) (spans_of u.client (u ∷ us)) ∙ ap (λ m. gathered logs (spans_of u.client ds) ++ m) (gathered-cons logs u us))

pub waits-given : (t : Topic) (m : Message) (logs : List TopicLog) (ds : List Span) (u : Span) (us : List Span) → stop_by (m.number + 1) ds ≡ true → stop_by m.number (u ∷ us) ≡ true
    → covered (posted t m logs) (record u { stop = m.number + 1 }) ≡ covered (posted t m logs) u ++ (delivered u.id m ∷ [])
    → waits (posted t m logs) (ds ++ (record u { stop = m.number + 1 } ∷ us)) u.client ≡ waits (posted t m logs) (ds ++ (u ∷ us)) u.client ++ (delivered u.id m ∷ [])
waits-given t m logs ds u us before after given =
    let vogs = posted t m logs in
    let front = gathered vogs (spans_of u.client ds) in
    let back = gathered vogs (spans_of u.client us) in
    let d = delivered u.id m in
    let mine : u.stop ≤ m.number + 1 = grind (arith, nat_tests, after) in
    let rest : stop_by m.number us ≡ true = grind (arith, nat_tests, after) in
    let first : none_later m.number (front ++ covered vogs u) ≡ true =
    none_later-append m.number front (covered vogs u) (gathered-below m.number u.client vogs ds before) (covered-below m.number u.stop u.start u.id (posts_of u.topic vogs) mine) in
    let second : all_before m.number back ≡ true = gathered-before m.number u.client vogs us rest in
    let new : gathered vogs (spans_of u.client (ds ++ (record u { stop = m.number + 1 } ∷ us))) ≡ (front ++ covered vogs u) ++ (d ∷ back) =
    gathered-within vogs ds (record u { stop = m.number + 1 }) us ∙ (ap (λ x. front ++ (x ++ back)) given ∙ grind (arith, append_assoc)) in
    let old : (front ++ covered vogs u) ++ back ≡ gathered vogs (spans_of u.client (ds ++ (u ∷ us))) = append_assoc front (covered vogs u) back ∙ sym (gathered-within vogs ds u us) in
    ap (λ x. put_all x []) new ∙ (put_all-latest (front ++ covered vogs u) back d first second ∙ ap (λ x. put_all x [] ++ (d ∷ [])) old)

spans-other : (j : ℕ) (ds : List Span) (u v : Span) (us : List Span) → v.client ≡ u.client → (j == u.client) ≡ false → spans_of j (ds ++ (v ∷ us)) ≡ spans_of j (ds ++ (u ∷ us))
spans-other j [] u v us same other = grind (arith, nat_tests, same, other)
spans-other j (d ∷ ds) u v us same other = let ih = spans-other j ds u v us same other in grind (arith, nat_tests, ih)

pub waits-other : (logs : List TopicLog) (j : ℕ) (ds : List Span) (u v : Span) (us : List Span) → v.client ≡ u.client → (j == u.client) ≡ false → waits logs (ds ++ (v ∷ us)) j ≡ waits logs (ds ++ (u ∷ us)) j
waits-other logs j ds u v us same other = ap (λ x. put_all (gathered logs x) []) (spans-other j ds u v us same other)
