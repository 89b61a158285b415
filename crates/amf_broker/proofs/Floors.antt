-- What each change of logs, places and clients is in the machine's words, and that what is so between calls stays so.
use Rattle.std.proofs.Common.{◌≡◌, ℕ, ◌+◌, ◌≤◌, ◌<◌, Bool, true, false, not, List, [], ◌∷◌, ◌++◌, length, refl, ◌∙◌, ap, arith}
use Rattle.std.specs.Prelude.{◌==◌, nat_le, nat_lt, filter, map, if◌then◌else◌}
use Rattle.std.specs.List.{list_all}
use Rattle.std.proofs.lemmas.Bool.Decides.{nat_tests}
use Rattle.amf_broker.specs.declared.topic.Topic.{Topic}
use Rattle.amf_broker.specs.Machine.{is_same_topic, new_client}
use Rattle.amf_broker.specs.Moments.{stays, clients_left, subs_left}
use Rattle.amf_broker.specs.Lines.{TopicLog, Span, Waiter, floor, IsKept, posts_of, posts_before, gathered, put_all, waits, clients_by, subs_by, spans_left, waiters_left, waiters_rise, counts, is_above, closed, new_waiter}
use Rattle.amf_broker.proofs.Spans.{clients-left, subs-left, waits-left, none-mine, clients-more, clients-as, waits-begun, subs-more, waits-closed, subs-closed}
use Rattle.amf_broker.proofs.Deals.{shown_with}

-- Lists.

pub all-filter : {A : Type 0} (p q : A → Bool) (xs : List A) → list_all p xs ≡ true → list_all p (filter q xs) ≡ true
all-filter p q [] all = refl
all-filter p q (x ∷ xs) all = let ih = all-filter p q xs in grind (arith, ih, all)

pub all-append : {A : Type 0} (p : A → Bool) (xs ys : List A) → list_all p xs ≡ true → list_all p ys ≡ true → list_all p (xs ++ ys) ≡ true
all-append p [] ys first second = second
all-append p (x ∷ xs) ys first second = let ih = all-append p xs ys in grind (arith, ih, first, second)

pub all-weaker : {A : Type 0} (p q : A → Bool) → ((x : A) → p x ≡ true → q x ≡ true) → (xs : List A) → list_all p xs ≡ true → list_all q xs ≡ true
all-weaker p q h [] all = refl
all-weaker p q h (x ∷ xs) all = let ih = all-weaker p q h xs in let one = h x in grind (arith, ih, one, all)

pub all-map : {A B : Type 0} (p : B → Bool) (q : A → Bool) (f : A → B) → ((x : A) → q x ≡ true → p (f x) ≡ true) → (xs : List A) → list_all q xs ≡ true → list_all p (map f xs) ≡ true
all-map p q f h [] all = refl
all-map p q f h (x ∷ xs) all = let ih = all-map p q f h xs in let one = h x in grind (arith, ih, one, all)

pub counts-as : (logs vogs : List TopicLog) (us vs : List Span) (ws : List Waiter) → ((k : ℕ) → waits vogs vs k ≡ waits logs us k) → counts logs us ws ≡ true → counts vogs vs ws ≡ true
counts-as logs vogs us vs ws same all = all-weaker (λ w. w.waiting == length (waits logs us w.id)) (λ w. w.waiting == length (waits vogs vs w.id)) (λ w right. let one = same w.id in grind (arith, one, right)) ws all

pub posts-within : (n : ℕ) (t : Topic) (logs : List TopicLog) → posts_before n logs ≡ true → list_all (λ m. nat_lt m.number n) (posts_of t logs) ≡ true
posts-within n t [] all = refl
posts-within n t (l ∷ logs) all =
    let ih = posts-within n t logs in
    let here : list_all (λ m. nat_lt m.number n) l.posts ≡ true = grind (arith, all) in
    let rest : posts_before n logs ≡ true = grind (arith, all) in
    let later = ih rest in
    elim (is_same_topic t l.topic) as (λ b. list_all (λ m. nat_lt m.number n) (if b then l.posts else posts_of t logs) ≡ true) [ true ↦ here | false ↦ later ]

-- Clients leave.

counts-left : (ks : List ℕ) (logs : List TopicLog) (us : List Span) (ws : List Waiter) → counts logs us ws ≡ true → counts logs (spans_left ks us) (waiters_left ks ws) ≡ true
counts-left ks logs us [] all = refl
counts-left ks logs us (w ∷ ws) all =
    let here : (w.waiting == length (waits logs us w.id)) ≡ true = grind (arith, all) in
    let rest : counts logs us ws ≡ true = grind (arith, all) in
    step here (stays ks w.id) refl (counts-left ks logs us ws rest)
  where
    step : (w.waiting == length (waits logs us w.id)) ≡ true → (b : Bool) → stays ks w.id ≡ b → counts logs (spans_left ks us) (waiters_left ks ws) ≡ true → counts logs (spans_left ks us) (waiters_left ks (w ∷ ws)) ≡ true
    step here true e ih = let one = waits-left ks logs us w.id e in grind (arith, ih, e, one, here)
    step here false e ih = grind (arith, ih, e)

rise-lower : (n m : ℕ) (ws : List Waiter) → n ≤ m → waiters_rise m ws ≡ true → waiters_rise n ws ≡ true
rise-lower n m [] less rise = refl
rise-lower n m (w ∷ ws) less rise = grind (arith, nat_tests, less, rise)

rise-filter : (q : Waiter → Bool) (n : ℕ) (ws : List Waiter) → waiters_rise n ws ≡ true → waiters_rise n (filter q ws) ≡ true
rise-filter q n [] rise = refl
rise-filter q n (w ∷ ws) rise =
    let here : nat_le n w.id ≡ true = grind (arith, nat_tests, rise) in
    let rest : waiters_rise (w.id + 1) ws ≡ true = grind (arith, nat_tests, rise) in
    let ih = rise-filter q (w.id + 1) ws rest in
    let less : n ≤ w.id + 1 = grind (arith, nat_tests, here) in
    let low = rise-lower n (w.id + 1) (filter q ws) less ih in
    elim (q w) as (λ b. waiters_rise n (if b then w ∷ filter q ws else filter q ws) ≡ true) [ true ↦ grind (arith, here, ih) | false ↦ low ]

pub left-kept : (ks : List ℕ) (logs : List TopicLog) (us : List Span) (ws : List Waiter) (c n : ℕ) → IsKept logs us ws c n → IsKept logs (spans_left ks us) (waiters_left ks ws) c n
left-kept ks logs us ws c n k = record {
  right = counts-left ks logs us ws k.right;
  rise = rise-filter (λ w. stays ks w.id) 0 ws k.rise;
  ids = all-filter (λ w. nat_lt w.id c) (λ w. stays ks w.id) ws k.ids;
  own = all-filter (λ u. nat_lt u.client c) (λ u. stays ks u.client) us k.own;
  stops = all-filter (λ u. nat_le u.stop n) (λ u. stays ks u.client) us k.stops;
  starts = all-filter (λ u. nat_le u.start n) (λ u. stays ks u.client) us k.starts;
  above = all-filter (is_above logs) (λ u. stays ks u.client) us k.above;
  before = k.before;
}

pub left-floor : (ks : List ℕ) (logs : List TopicLog) (us : List Span) (ws : List Waiter) (c n : ℕ)
    → floor logs (spans_left ks us) (waiters_left ks ws) c n ≡ record { clients = clients_left ks (clients_by logs us ws); subs = subs_left ks (subs_by us); next_client = c; next_message = n }
left-floor ks logs us ws c n =
    ap (λ x. record { clients = x; subs = subs_by (spans_left ks us); next_client = c; next_message = n }) (clients-left ks logs us ws)
    ∙ ap (λ x. record { clients = clients_left ks (clients_by logs us ws); subs = x; next_client = c; next_message = n }) (subs-left ks us)

-- A client comes.

rise-more : (n c : ℕ) (ws : List Waiter) (w : Waiter) → waiters_rise n ws ≡ true → n ≤ c → w.id ≡ c → list_all (λ w. nat_lt w.id c) ws ≡ true → waiters_rise n (ws ++ (w ∷ [])) ≡ true
rise-more n c [] w rise less is all = grind (arith, nat_tests, less, is)
rise-more n c (x ∷ ws) w rise less is all =
    let here : nat_le n x.id ≡ true = grind (arith, nat_tests, rise) in
    let rest : waiters_rise (x.id + 1) ws ≡ true = grind (arith, nat_tests, rise) in
    let below : x.id + 1 ≤ c = grind (arith, nat_tests, all) in
    let more : list_all (λ w. nat_lt w.id c) ws ≡ true = grind (arith, all) in
    let ih = rise-more (x.id + 1) c ws w rest below is more in
    grind (arith, here, ih)

nothing-waits : (logs : List TopicLog) (us : List Span) (c : ℕ) → list_all (λ u. nat_lt u.client c) us ≡ true → waits logs us c ≡ []
nothing-waits logs us c all = ap (λ x. put_all (gathered logs x) []) (none-mine c us all)

more-below : {A : Type 0} (f : A → ℕ) (c : ℕ) (xs : List A) → list_all (λ x. nat_lt (f x) c) xs ≡ true → list_all (λ x. nat_lt (f x) (c + 1)) xs ≡ true
more-below f c xs all = all-weaker (λ x. nat_lt (f x) c) (λ x. nat_lt (f x) (c + 1)) (λ x less. grind (arith, nat_tests, less)) xs all

pub more-most : {A : Type 0} (f : A → ℕ) (c : ℕ) (xs : List A) → list_all (λ x. nat_le (f x) c) xs ≡ true → list_all (λ x. nat_le (f x) (c + 1)) xs ≡ true
more-most f c xs all = all-weaker (λ x. nat_le (f x) c) (λ x. nat_le (f x) (c + 1)) (λ x less. grind (arith, nat_tests, less)) xs all

pub come-kept : (logs : List TopicLog) (us : List Span) (ws : List Waiter) (c n present : ℕ) → IsKept logs us ws c n → IsKept logs us (ws ++ (new_waiter c present ∷ [])) (c + 1) n
come-kept logs us ws c n present k = record {
  right = let none = nothing-waits logs us c k.own in all-append (λ w. w.waiting == length (waits logs us w.id)) ws (new_waiter c present ∷ []) k.right (grind (arith, nat_tests, none));
  rise = rise-more 0 c ws (new_waiter c present) k.rise (omega arith) refl k.ids;
  ids = all-append (λ w. nat_lt w.id (c + 1)) ws (new_waiter c present ∷ []) (more-below (λ (w : Waiter). w.id) c ws k.ids) (grind (arith, nat_tests));
  own = more-below (λ (u : Span). u.client) c us k.own;
  stops = k.stops;
  starts = k.starts;
  above = k.above;
  before = k.before;
}

pub come-clients : (logs : List TopicLog) (us : List Span) (ws : List Waiter) (c n present : ℕ) → IsKept logs us ws c n → clients_by logs us (ws ++ (new_waiter c present ∷ [])) ≡ clients_by logs us ws ++ (new_client c present ∷ [])
come-clients logs us ws c n present k =
    clients-more logs us ws (new_waiter c present) ∙ ap (λ q. clients_by logs us ws ++ (shown_with q (new_waiter c present) ∷ [])) (nothing-waits logs us c k.own)

-- A subscription begins.

abbrev pub new_span : ℕ → ℕ → Topic → ℕ → Span
new_span id client topic n = record { id = id; client = client; topic = topic; start = n; stop = n; live = true }

pub begun-kept : (logs : List TopicLog) (us : List Span) (ws : List Waiter) (c n id client : ℕ) (topic : Topic) → IsKept logs us ws c n → client < c → IsKept logs (us ++ (new_span id client topic n ∷ [])) ws c n
begun-kept logs us ws c n id client topic k less = record {
  right = counts-as logs logs us (us ++ (new_span id client topic n ∷ [])) ws (λ j. waits-begun logs us (new_span id client topic n) j (omega arith)) k.right;
  rise = k.rise;
  ids = k.ids;
  own = all-append (λ u. nat_lt u.client c) us (new_span id client topic n ∷ []) k.own (grind (arith, nat_tests, less));
  stops = all-append (λ u. nat_le u.stop n) us (new_span id client topic n ∷ []) k.stops (grind (arith, nat_tests));
  starts = all-append (λ u. nat_le u.start n) us (new_span id client topic n ∷ []) k.starts (grind (arith, nat_tests));
  above = let all = posts-within n topic logs k.before in all-append (is_above logs) us (new_span id client topic n ∷ []) k.above (grind (arith, all));
  before = k.before;
}

pub begun-floor : (logs : List TopicLog) (us : List Span) (ws : List Waiter) (c n id client : ℕ) (topic : Topic)
    → floor logs (us ++ (new_span id client topic n ∷ [])) ws c n ≡ record { clients = clients_by logs us ws; subs = subs_by us ++ (record { id = id; client = client; topic = topic } ∷ []); next_client = c; next_message = n }
begun-floor logs us ws c n id client topic =
    ap (λ x. record { clients = x; subs = subs_by (us ++ (new_span id client topic n ∷ [])); next_client = c; next_message = n }) (clients-as logs (us ++ (new_span id client topic n ∷ [])) us ws (λ j. waits-begun logs us (new_span id client topic n) j (omega arith)))
    ∙ ap (λ x. record { clients = clients_by logs us ws; subs = x; next_client = c; next_message = n }) (subs-more us (new_span id client topic n) refl)

-- Subscriptions end.

pub closed-as : (p : Span → Bool) → ((u : Span) → p (record u { live = false }) ≡ p u) → (over : ℕ → Bool) (u : Span) → p u ≡ true → p (closed over u) ≡ true
closed-as p same over u holds = elim (over u.id) as (λ b. p (if b then record u { live = false } else u) ≡ true) [ true ↦ same u ∙ holds | false ↦ holds ]

closed-above : (logs : List TopicLog) (over : ℕ → Bool) (u : Span) → is_above logs u ≡ true → is_above logs (closed over u) ≡ true
closed-above logs over u holds = elim (over u.id) as (λ b. is_above logs (if b then record u { live = false } else u) ≡ true) [ true ↦ refl | false ↦ holds ]

pub closed-kept : (over : ℕ → Bool) (logs : List TopicLog) (us : List Span) (ws : List Waiter) (c n : ℕ) → IsKept logs us ws c n → IsKept logs (map (closed over) us) ws c n
closed-kept over logs us ws c n k = record {
  right = counts-as logs logs us (map (closed over) us) ws (waits-closed logs over us) k.right;
  rise = k.rise;
  ids = k.ids;
  own = all-map (λ u. nat_lt u.client c) (λ u. nat_lt u.client c) (closed over) (closed-as (λ u. nat_lt u.client c) (λ u. refl) over) us k.own;
  stops = all-map (λ u. nat_le u.stop n) (λ u. nat_le u.stop n) (closed over) (closed-as (λ u. nat_le u.stop n) (λ u. refl) over) us k.stops;
  starts = all-map (λ u. nat_le u.start n) (λ u. nat_le u.start n) (closed over) (closed-as (λ u. nat_le u.start n) (λ u. refl) over) us k.starts;
  above = all-map (is_above logs) (is_above logs) (closed over) (closed-above logs over) us k.above;
  before = k.before;
}

pub closed-floor : (over : ℕ → Bool) (logs : List TopicLog) (us : List Span) (ws : List Waiter) (c n : ℕ)
    → floor logs (map (closed over) us) ws c n ≡ record { clients = clients_by logs us ws; subs = filter (λ u. not (over u.id)) (subs_by us); next_client = c; next_message = n }
closed-floor over logs us ws c n =
    ap (λ x. record { clients = x; subs = subs_by (map (closed over) us); next_client = c; next_message = n }) (clients-as logs (map (closed over) us) us ws (waits-closed logs over us))
    ∙ ap (λ x. record { clients = clients_by logs us ws; subs = x; next_client = c; next_message = n }) (subs-closed over us)
