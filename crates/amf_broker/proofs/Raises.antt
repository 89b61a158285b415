-- A live subscription is shown as if it stopped at the next message: nothing else is seen of that.
use Rattle.std.proofs.Common.{◌≡◌, ℕ, Bool, true, false, List, [], ◌∷◌, ◌++◌, length, refl, sym, ◌∙◌, ap, arith}
use Rattle.std.specs.Prelude.{◌==◌, ◌&&◌, ◌||◌, nat_le, nat_lt, filter, count_by, map, if◌then◌else◌}
use Rattle.std.specs.List.{list_all, list_any}
use Rattle.std.proofs.lemmas.Bool.Decides.{nat_tests}
use Rattle.std.proofs.lemmas.List.Sums.{length-filter}
use Rattle.amf_broker.specs.declared.reply.Delivery.{Delivery}
use Rattle.amf_broker.specs.State.{Subscription}
use Rattle.amf_broker.specs.Delivery.{Message}
use Rattle.amf_broker.specs.Lines.{TopicLog, Span, Waiter, IsKept, floor, posts_of, is_covered, delivered, covered, spans_of, gathered, put_all, waits, clients_by, subs_by, is_above}
use Rattle.amf_broker.specs.Members.{raised, is_waited}
use Rattle.amf_broker.proofs.Merges.{waits-more}
use Rattle.amf_broker.proofs.Spans.{clients-as}
use Rattle.amf_broker.proofs.Floors.{all-map, counts-as, posts-within}

filter-raised : (start stop n : ℕ) (ms : List Message) → list_all (λ m. nat_lt m.number stop) ms ≡ true → list_all (λ m. nat_lt m.number n) ms ≡ true → filter (is_covered start n) ms ≡ filter (is_covered start stop) ms
filter-raised start stop n [] above within = refl
filter-raised start stop n (m ∷ ms) above within =
    let ih = filter-raised start stop n ms in
    grind (arith, nat_tests, ih, above, within)

module _ (logs : List TopicLog) (n : ℕ) where
  covered-raised : (u : Span) → is_above logs u ≡ true → list_all (λ m. nat_lt m.number n) (posts_of u.topic logs) ≡ true → covered logs (raised n u) ≡ covered logs u
  covered-raised u above within = step u.live refl
    where
      step : (l : Bool) → u.live ≡ l → covered logs (if l then record u { stop = n } else u) ≡ covered logs u
      step true e =
          let past : list_all (λ m. nat_lt m.number u.stop) (posts_of u.topic logs) ≡ true = grind (arith, e, above) in
          ap (map (delivered u.id)) (filter-raised u.start u.stop n (posts_of u.topic logs) past within)
      step false e = refl

  pub raised-client : (u : Span) → (raised n u).client ≡ u.client
  raised-client u = elim u.live as (λ l. (if l then record u { stop = n } else u).client ≡ u.client) [ true ↦ refl | false ↦ refl ]

  module _ (within : (u : Span) → list_all (λ m. nat_lt m.number n) (posts_of u.topic logs) ≡ true) where
    gathered-raised : (k : ℕ) (us : List Span) → list_all (is_above logs) us ≡ true → gathered logs (spans_of k (map (raised n) us)) ≡ gathered logs (spans_of k us)
    gathered-raised k [] above = refl
    gathered-raised k (u ∷ us) above =
        let here : is_above logs u ≡ true = grind (arith, above) in
        let rest : list_all (is_above logs) us ≡ true = grind (arith, above) in
        let ih = gathered-raised k us rest in
        let one = covered-raised u here (within u) in
        rw (raised-client u) (elim (u.client == k) as (λ b. gathered logs (if b then raised n u ∷ spans_of k (map (raised n) us) else spans_of k (map (raised n) us)) ≡ gathered logs (if b then u ∷ spans_of k us else spans_of k us)) [
          | true ↦ ap (λ m. m ++ gathered logs (spans_of k (map (raised n) us))) one ∙ ap (λ m. covered logs u ++ m) ih
          | false ↦ ih
        ])

    pub waits-raised : (us : List Span) → list_all (is_above logs) us ≡ true → (k : ℕ) → waits logs (map (raised n) us) k ≡ waits logs us k
    waits-raised us above k = ap (λ m. put_all m []) (gathered-raised k us above)

pub subs-raised : (n : ℕ) (us : List Span) → subs_by (map (raised n) us) ≡ subs_by us
subs-raised n [] = refl
subs-raised n (u ∷ us) = step u.live refl (subs-raised n us)
  where
    step : (l : Bool) → u.live ≡ l → subs_by (map (raised n) us) ≡ subs_by us → subs_by (map (raised n) (u ∷ us)) ≡ subs_by (u ∷ us)
    step true e ih = grind (arith, e, ih)
    step false e ih = grind (arith, e, ih)

raised-as : (p : Span → Bool) (n : ℕ) → ((u : Span) → p u ≡ true → p (record u { stop = n }) ≡ true) → (u : Span) → p u ≡ true → p (raised n u) ≡ true
raised-as p n same u holds = elim u.live as (λ l. p (if l then record u { stop = n } else u) ≡ true) [ true ↦ same u holds | false ↦ holds ]

module _ (logs : List TopicLog) (us : List Span) (ws : List Waiter) (c n : ℕ) (k : IsKept logs us ws c n) where
  raised-above : (u : Span) → is_above logs u ≡ true → is_above logs (raised n u) ≡ true
  raised-above u holds =
      let within = posts-within n u.topic logs k.before in
      raised-as (is_above logs) n (λ u h. let all = posts-within n u.topic logs k.before in grind (arith, all)) u holds

  pub raised-kept : IsKept logs (map (raised n) us) ws c n
  raised-kept = record {
    right = counts-as logs logs us (map (raised n) us) ws (waits-raised logs n (λ u. posts-within n u.topic logs k.before) us k.above) k.right;
    rise = k.rise;
    ids = k.ids;
    own = all-map (λ u. nat_lt u.client c) (λ u. nat_lt u.client c) (raised n) (raised-as (λ u. nat_lt u.client c) n (λ u h. h)) us k.own;
    stops = all-map (λ u. nat_le u.stop n) (λ u. nat_le u.stop n) (raised n) (raised-as (λ u. nat_le u.stop n) n (λ u h. grind (arith, nat_tests))) us k.stops;
    starts = all-map (λ u. nat_le u.start n) (λ u. nat_le u.start n) (raised n) (raised-as (λ u. nat_le u.start n) n (λ u h. h)) us k.starts;
    above = all-map (is_above logs) (is_above logs) (raised n) raised-above us k.above;
    before = k.before;
  }

  pub raised-floor : floor logs (map (raised n) us) ws c n ≡ floor logs us ws c n
  raised-floor =
      ap (λ x. record { clients = x; subs = subs_by (map (raised n) us); next_client = c; next_message = n }) (clients-as logs (map (raised n) us) us ws (waits-raised logs n (λ u. posts-within n u.topic logs k.before) us k.above))
      ∙ ap (λ x. record { clients = clients_by logs us ws; subs = x; next_client = c; next_message = n }) (subs-raised n us)

-- The live places are the subscriptions.

any-mine : (sub k : ℕ) (us : List Span) → list_any (λ u. u.live && (u.id == sub && u.client == k)) us ≡ list_any (λ u. u.id == sub && u.client == k) (subs_by us)
any-mine sub k [] = refl
any-mine sub k (u ∷ us) = step u.live refl (any-mine sub k us)
  where
    step : (l : Bool) → u.live ≡ l → list_any (λ u. u.live && (u.id == sub && u.client == k)) us ≡ list_any (λ u. u.id == sub && u.client == k) (subs_by us) → list_any (λ u. u.live && (u.id == sub && u.client == k)) (u ∷ us) ≡ list_any (λ u. u.id == sub && u.client == k) (subs_by (u ∷ us))
    step true e ih = grind (arith, e, ih)
    step false e ih = grind (arith, e, ih)

pub any-live : (n sub k : ℕ) (us : List Span) → list_any (λ u. u.live && (u.id == sub && u.client == k)) us ≡ list_any (λ u. u.id == sub && u.client == k) (subs_by (map (raised n) us))
any-live n sub k us = any-mine sub k us ∙ ap (list_any (λ (u : Subscription). u.id == sub && u.client == k)) (sym (subs-raised n us))

live-mine : (k : ℕ) (us : List Span) → length (filter (λ u. u.live && u.client == k) us) ≡ length (filter (λ u. u.client == k) (subs_by us))
live-mine k [] = refl
live-mine k (u ∷ us) = step u.live refl (u.client == k) refl (live-mine k us)
  where
    step : (l : Bool) → u.live ≡ l → (b : Bool) → (u.client == k) ≡ b → length (filter (λ u. u.live && u.client == k) us) ≡ length (filter (λ u. u.client == k) (subs_by us)) → length (filter (λ u. u.live && u.client == k) (u ∷ us)) ≡ length (filter (λ u. u.client == k) (subs_by (u ∷ us)))
    step true e true is ih = grind (arith, e, is, ih)
    step true e false is ih = grind (arith, e, is, ih)
    step false e b is ih = grind (arith, e, ih)

pub count-live : (n k : ℕ) (us : List Span) → count_by (λ u. u.live && u.client == k) us ≡ count_by (λ u. u.client == k) (subs_by (map (raised n) us))
count-live n k us =
    sym (length-filter (λ (u : Span). u.live && u.client == k) us)
    ∙ (live-mine k us
    ∙ (length-filter (λ (u : Subscription). u.client == k) (subs_by us)
    ∙ ap (count_by (λ (u : Subscription). u.client == k)) (sym (subs-raised n us))))

-- What waits for one place more.

pub covered-shown : (logs : List TopicLog) (n : ℕ) (u : Span) → map (delivered u.id) (filter (is_covered (raised n u).start (raised n u).stop) (posts_of u.topic logs)) ≡ covered logs (raised n u)
covered-shown logs n u = elim u.live as (λ l. map (delivered u.id) (filter (is_covered (if l then record u { stop = n } else u).start (if l then record u { stop = n } else u).stop) (posts_of u.topic logs)) ≡ covered logs (if l then record u { stop = n } else u)) [ true ↦ refl | false ↦ refl ]

map-last : (n : ℕ) (us : List Span) (u : Span) → map (raised n) (us ++ (u ∷ [])) ≡ map (raised n) us ++ (raised n u ∷ [])
map-last n [] u = refl
map-last n (x ∷ us) u = ap (λ m. raised n x ∷ m) (map-last n us u)

pub waits-next : (logs : List TopicLog) (n : ℕ) (us : List Span) (u : Span) (k : ℕ) → waits logs (map (raised n) (us ++ (u ∷ []))) k
    ≡ (if u.client == k then put_all (map (delivered u.id) (filter (is_covered (raised n u).start (raised n u).stop) (posts_of u.topic logs))) (waits logs (map (raised n) us) k) else waits logs (map (raised n) us) k)
waits-next logs n us u k =
    ap (λ vs. waits logs vs k) (map-last n us u)
    ∙ (waits-more logs (map (raised n) us) (raised n u) k
    ∙ (ap (λ j. if j == k then put_all (covered logs (raised n u)) (waits logs (map (raised n) us) k) else waits logs (map (raised n) us) k) (raised-client logs n u)
    ∙ ap (λ ds. if u.client == k then put_all ds (waits logs (map (raised n) us) k) else waits logs (map (raised n) us) k) (sym (covered-shown logs n u))))

-- the same where the queue and the test are known by other names
pub waits-step : (logs : List TopicLog) (n : ℕ) (us : List Span) (u : Span) (k : ℕ) (now new : List Delivery) (b : Bool) → (u.client == k) ≡ b → now ≡ waits logs (map (raised n) us) k
    → new ≡ (if b then put_all (map (delivered u.id) (filter (is_covered (raised n u).start (raised n u).stop) (posts_of u.topic logs))) now else now) → new ≡ waits logs (map (raised n) (us ++ (u ∷ []))) k
waits-step logs n us u k now new b is before after =
    let ds = map (delivered u.id) (filter (is_covered (raised n u).start (raised n u).stop) (posts_of u.topic logs)) in
    after
    ∙ (ap (λ q. if b then put_all ds q else q) before
    ∙ (ap (λ b. if b then put_all ds (waits logs (map (raised n) us) k) else waits logs (map (raised n) us) k) (sym is) ∙ sym (waits-next logs n us u k)))

pub waited-dead : (logs : List TopicLog) (n : ℕ) (u : Span) → u.live ≡ false → list_any (is_covered (raised n u).start (raised n u).stop) (posts_of u.topic logs) ≡ is_waited logs (raised n u)
waited-dead logs n u dead =
    let same : raised n u ≡ u = ap (λ l. if l then record u { stop = n } else u) dead in
    ap (λ (v : Span). list_any (is_covered v.start v.stop) (posts_of u.topic logs)) same
    ∙ (sym (ap (λ l. l || list_any (is_covered u.start u.stop) (posts_of u.topic logs)) dead) ∙ ap (is_waited logs) (sym same))
