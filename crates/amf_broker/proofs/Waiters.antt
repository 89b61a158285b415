-- Where a client stands in the list of waiters.
use Rattle.std.proofs.Common.{◌≡◌, ℕ, suc, ◌+◌, Bool, true, false, List, [], ◌∷◌, length, get_or, set, map, refl, sym, ◌∙◌, ap, arith, rules}
use Rattle.std.specs.Prelude.{◌==◌, slice_set, slice_index_or, nat_lt, nat_le, filter, count_by, sum_by, Option, Some, None, is_some, IsSome, position, if◌then◌else◌}
use Rattle.std.specs.List.{position_or_len, list_any}
use Rattle.std.proofs.lemmas.Bool.Decides.{nat_tests}
use Rattle.std.proofs.lemmas.List.Sums.{length-filter, sum_by-cons}
use Rattle.amf_broker.specs.declared.limits.TheConstants.{MAX_QUEUED}
use Rattle.amf_broker.specs.State.{Connection}
use Rattle.amf_broker.specs.Machine.{client_at, is_connected, queue_of, is_idle}
use Rattle.amf_broker.specs.Moments.{stays}
use Rattle.amf_broker.specs.Lines.{TopicLog, Span, Waiter, waits, counts, shown, bare, clients_by, waiter_at, is_crowded, untold_of}

abbrev place : ℕ → List Waiter → ℕ
place k ws = position_or_len (λ w. w.id == k) ws

place-some : (logs : List TopicLog) (us : List Span) (k : ℕ) (ws : List Waiter) → nat_lt (place k ws) (length ws) ≡ is_connected k (clients_by logs us ws)
place-some logs us k [] = refl
place-some logs us k (w ∷ ws) = let ih = place-some logs us k ws in grind (arith, nat_tests, ih)

pub connected-place : (logs : List TopicLog) (us : List Span) (k : ℕ) (ws : List Waiter) → is_some (position (λ w. w.id == k) ws) ≡ is_connected k (clients_by logs us ws)
connected-place logs us k ws = is-some (nat_lt (place k ws) (length ws)) ∙ place-some logs us k ws
  where
    is-some : (b : Bool) → is_some (if b then Some (place k ws) else None) ≡ b
    is-some true = refl
    is-some false = refl

at-suc : (c : Waiter) (cs : List Waiter) (n : ℕ) (v : Waiter) → set (c ∷ cs) (1 + n) v ≡ c ∷ set cs n v
at-suc c cs n v = let e : 1 + n ≡ suc n = omega arith in rw e refl

get-suc : (c : Waiter) (cs : List Waiter) (n : ℕ) (d : Waiter) → get_or (c ∷ cs) (1 + n) d ≡ get_or cs n d
get-suc c cs n d = let e : 1 + n ≡ suc n = omega arith in rw e refl

at-place : (k : ℕ) (change : Waiter → Waiter) (d : Waiter) (ws : List Waiter) → nat_lt (place k ws) (length ws) ≡ true → waiter_at k change ws ≡ slice_set ws (place k ws) (change (slice_index_or ws (place k ws) d))
at-place k change d [] here = cc
at-place k change d (w ∷ ws) here =
    let ih = at-place k change d ws in
    let n = place k ws in
    let one = at-suc w ws n (change (get_or ws n d)) in
    let two = get-suc w ws n d in
    grind (arith, nat_tests, ih, one, two)

place-is : (k : ℕ) (ws : List Waiter) (i : ℕ) (b : Bool) → Some i ≡ (if b then Some (place k ws) else None) → (i ≡ place k ws) × (b ≡ true)
place-is k ws i true is = (cc, refl)
place-is k ws i false is = cc

pub waiter-changed : (k i : ℕ) (change : Waiter → Waiter) (d : Waiter) (ws : List Waiter) → Some i ≡ position (λ w. w.id == k) ws → waiter_at k change ws ≡ slice_set ws i (change (slice_index_or ws i d))
waiter-changed k i change d ws is =
    let here = place-is k ws i (nat_lt (place k ws) (length ws)) is in
    rw here.0 (at-place k change d ws here.1)

pub client-found : (logs : List TopicLog) (us : List Span) (k i : ℕ) (ws : List Waiter) (d : Waiter) → Some i ≡ position (λ w. w.id == k) ws → client_at k (clients_by logs us ws) ≡ Some (shown logs us (slice_index_or ws i d))
client-found logs us k i ws d is =
    let here = place-is k ws i (nat_lt (place k ws) (length ws)) is in
    rw here.0 (found ws here.1)
  where
    found : (ws : List Waiter) → nat_lt (place k ws) (length ws) ≡ true → client_at k (clients_by logs us ws) ≡ Some (shown logs us (slice_index_or ws (place k ws) d))
    found [] here = cc
    found (w ∷ ws) here = let ih = found ws in let two = get-suc w ws (place k ws) d in grind (arith, nat_tests, ih, two)

not-there : (k : ℕ) (ws : List Waiter) (b : Bool) → None ≡ (if b then Some (place k ws) else None) → b ≡ false
not-there k ws true is = cc
not-there k ws false is = refl

absent-of : (k : ℕ) (ws : List Waiter) → None ≡ position (λ w. w.id == k) ws → nat_lt (place k ws) (length ws) ≡ false
absent-of k ws is = not-there k ws (nat_lt (place k ws) (length ws)) is

pub none-changed : (k : ℕ) (g : Waiter → Waiter) (ws : List Waiter) → None ≡ position (λ w. w.id == k) ws → ws ≡ waiter_at k g ws
none-changed k g ws is = go ws (absent-of k ws is)
  where
    go : (ws : List Waiter) → nat_lt (place k ws) (length ws) ≡ false → ws ≡ waiter_at k g ws
    go [] none = refl
    go (w ∷ ws) none = let ih = go ws in grind (arith, nat_tests, ih, none)

pub none-crowded : (k : ℕ) (ws : List Waiter) → None ≡ position (λ w. w.id == k) ws → is_crowded k ws ≡ false
none-crowded k ws is = go ws (absent-of k ws is)
  where
    go : (ws : List Waiter) → nat_lt (place k ws) (length ws) ≡ false → is_crowded k ws ≡ false
    go [] none = refl
    go (w ∷ ws) none = let ih = go ws in grind (arith, nat_tests, ih, none)

pub none-client : (logs : List TopicLog) (us : List Span) (k : ℕ) (ws : List Waiter) → None ≡ position (λ w. w.id == k) ws → client_at k (clients_by logs us ws) ≡ None
none-client logs us k ws is = go ws (absent-of k ws is)
  where
    go : (ws : List Waiter) → nat_lt (place k ws) (length ws) ≡ false → client_at k (clients_by logs us ws) ≡ None
    go [] none = refl
    go (w ∷ ws) none = let ih = go ws in grind (arith, nat_tests, ih, none)

pub crowded-at : (k i : ℕ) (ws : List Waiter) (d : Waiter) → Some i ≡ position (λ w. w.id == k) ws → is_crowded k ws ≡ nat_le MAX_QUEUED (slice_index_or ws i d).waiting
crowded-at k i ws d is =
    let here = place-is k ws i (nat_lt (place k ws) (length ws)) is in
    rw here.0 (go ws here.1)
  where
    go : (ws : List Waiter) → nat_lt (place k ws) (length ws) ≡ true → is_crowded k ws ≡ nat_le MAX_QUEUED (slice_index_or ws (place k ws) d).waiting
    go [] here = cc
    go (w ∷ ws) here = let ih = go ws in let two = get-suc w ws (place k ws) d in grind (arith, nat_tests, ih, two)

pub untold-at : (k i : ℕ) (ws : List Waiter) (d : Waiter) → Some i ≡ position (λ w. w.id == k) ws → untold_of k ws ≡ length (slice_index_or ws i d).ended
untold-at k i ws d is =
    let here = place-is k ws i (nat_lt (place k ws) (length ws)) is in
    rw here.0 (go ws here.1)
  where
    go : (ws : List Waiter) → nat_lt (place k ws) (length ws) ≡ true → untold_of k ws ≡ length (slice_index_or ws (place k ws) d).ended
    go [] here = cc
    go (w ∷ ws) here = let ih = go ws in let two = get-suc w ws (place k ws) d in grind (arith, nat_tests, ih, two)

pub some-of : (o : Option ℕ) → is_some o ≡ true → IsSome o
some-of None e = cc
some-of (Some i) e = search rules

-- What reads no queue.

pub any-idle : (present : ℕ) (logs : List TopicLog) (us : List Span) (ws : List Waiter) → list_any (λ w. is_idle present (bare w)) ws ≡ list_any (is_idle present) (clients_by logs us ws)
any-idle present logs us [] = refl
any-idle present logs us (w ∷ ws) = let ih = any-idle present logs us ws in grind (arith, ih)

pub ids-idle : (present : ℕ) (logs : List TopicLog) (us : List Span) (ws : List Waiter) → map (λ w. w.id) (filter (λ w. is_idle present (bare w)) ws) ≡ map (λ c. c.id) (filter (is_idle present) (clients_by logs us ws))
ids-idle present logs us [] = refl
ids-idle present logs us (w ∷ ws) = let ih = ids-idle present logs us ws in grind (arith, ih)

length-staying : (ks : List ℕ) (logs : List TopicLog) (us : List Span) (ws : List Waiter) → length (filter (λ w. stays ks w.id) ws) ≡ length (filter (λ c. stays ks c.id) (clients_by logs us ws))
length-staying ks logs us [] = refl
length-staying ks logs us (w ∷ ws) = elim (stays ks w.id) as (λ b. length (if b then w ∷ filter (λ w. stays ks w.id) ws else filter (λ w. stays ks w.id) ws) ≡ length (if b then shown logs us w ∷ filter (λ c. stays ks c.id) (clients_by logs us ws) else filter (λ c. stays ks c.id) (clients_by logs us ws))) [
  | true ↦ ap suc (length-staying ks logs us ws)
  | false ↦ length-staying ks logs us ws
]

pub count-staying : (ks : List ℕ) (logs : List TopicLog) (us : List Span) (ws : List Waiter) → count_by (λ w. stays ks w.id) ws ≡ count_by (λ c. stays ks c.id) (clients_by logs us ws)
count-staying ks logs us ws = sym (length-filter (λ (w : Waiter). stays ks w.id) ws) ∙ (length-staying ks logs us ws ∙ length-filter (λ (c : Connection). stays ks c.id) (clients_by logs us ws))

-- What waits for a connected client.

pub connected-waits : (logs : List TopicLog) (us : List Span) (k : ℕ) (ws : List Waiter) → is_connected k (clients_by logs us ws) ≡ true → queue_of k (clients_by logs us ws) ≡ waits logs us k
connected-waits logs us k [] here = cc
connected-waits logs us k (w ∷ ws) here = step (w.id == k) refl (connected-waits logs us k ws)
  where
    step : (b : Bool) → (w.id == k) ≡ b → (is_connected k (clients_by logs us ws) ≡ true → queue_of k (clients_by logs us ws) ≡ waits logs us k) → queue_of k (clients_by logs us (w ∷ ws)) ≡ waits logs us k
    step true e ih =
        let same : w.id ≡ k = grind (arith, nat_tests, e) in
        let mine : queue_of k (clients_by logs us (w ∷ ws)) ≡ waits logs us w.id = grind (arith, e) in
        mine ∙ ap (waits logs us) same
    step false e ih =
        let more : is_connected k (clients_by logs us ws) ≡ true = grind (arith, e, here) in
        let later = ih more in
        grind (arith, e, later)

pub length-shown : (logs : List TopicLog) (us : List Span) (ws : List Waiter) → length (clients_by logs us ws) ≡ length ws
length-shown logs us [] = refl
length-shown logs us (w ∷ ws) = let ih = length-shown logs us ws in grind (arith, ih)

pub waiting-sum : (logs : List TopicLog) (us : List Span) (ws : List Waiter) → counts logs us ws ≡ true → sum_by (λ w. w.waiting) ws ≡ sum_by (λ c. length c.queue) (clients_by logs us ws)
waiting-sum logs us [] all = refl
waiting-sum logs us (w ∷ ws) all =
    let here : w.waiting ≡ length (waits logs us w.id) = grind (arith, nat_tests, all) in
    let rest : counts logs us ws ≡ true = grind (arith, all) in
    let ih = waiting-sum logs us ws rest in
    sum_by-cons (λ (w : Waiter). w.waiting) w ws
    ∙ (ap (λ n. n + sum_by (λ (w : Waiter). w.waiting) ws) here
    ∙ (ap (λ n. length (waits logs us w.id) + n) ih ∙ sym (sum_by-cons (λ (c : Connection). length c.queue) (shown logs us w) (clients_by logs us ws))))
