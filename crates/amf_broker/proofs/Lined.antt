-- What is so between calls stays so, and each change of the lines is the machine's.
use Rattle.std.proofs.Common.{◌≡◌, ℕ, ◌+◌, Bool, true, false, not, List, [], ◌∷◌, ◌++◌, refl, sym, ◌∙◌, ap, arith}
use Rattle.std.specs.Prelude.{◌==◌, ◌&&◌, ◌||◌, nat_le, nat_lt, filter, map, if◌then◌else◌}
use Rattle.std.specs.List.{list_all, list_any}
use Rattle.amf_broker.specs.declared.topic.Topic.{Topic}
use Rattle.amf_broker.specs.declared.reply.Delivery.{Delivery}
use Rattle.amf_broker.specs.Machine.{at_client, emptied, kept_as, seen_at, is_same_topic, new_client}
use Rattle.amf_broker.specs.Delivery.{Message}
use Rattle.amf_broker.specs.Moments.{stays, clients_left, subs_left}
use Rattle.amf_broker.specs.Lines.{TopicLog, Span, Waiter, floor, IsKept, posts_of, is_covered, delivered, covered, spans_of, gathered, put_all, waits, clients_by, subs_by, spans_left, waiters_left, waiter_at, closed, begun_anew, outlasts, cleared, new_waiter, emptied_waiter, kept_waiter, seen_waiter, is_above}
use Rattle.amf_broker.specs.Members.{Line, log_of, logs_of, is_present, are_apart, is_at_home, raised, stopped, IsLined, floor_of, is_waited, remains_of, line_left, lines_left, line_without}
use Rattle.amf_broker.proofs.Spans.{clients-as}
use Rattle.amf_broker.proofs.Floors.{all-filter, all-weaker, all-map, counts-as, left-kept, left-floor, come-kept, come-clients, new_span, closed-kept, closed-floor}
use Rattle.amf_broker.proofs.Polls.{cleared-kept, emptied-clients, kept-clients, seen-kept, seen-clients, subs-cleared}
use Rattle.amf_broker.proofs.Raises.{subs-raised}
use Rattle.amf_broker.proofs.Stops.{raised-live, raised-dead, stopped-yes, stopped-no, stopped-dead, closed-yes, closed-no, closed-dead}
use Rattle.amf_broker.proofs.Seats.{present-changed, present-more, present-left, members-stopped, members-left, members-filter, members-cleared, at-left, at-without}

-- Lists.

pub map-filter : {A B : Type 0} (f : A → B) (p : B → Bool) (q : A → Bool) → ((x : A) → p (f x) ≡ q x) → (xs : List A) → map f (filter q xs) ≡ filter p (map f xs)
map-filter f p q same [] = refl
map-filter f p q same (x ∷ xs) = let ih = map-filter f p q same xs in let e = same x in grind (arith, ih, e)

pub map-as : {A B : Type 0} (f g : A → B) → ((x : A) → f x ≡ g x) → (xs : List A) → map f xs ≡ map g xs
map-as f g same [] = refl
map-as f g same (x ∷ xs) = ap (λ y. y ∷ map f xs) (same x) ∙ ap (λ m. g x ∷ m) (map-as f g same xs)

pub map-twice : {A B C : Type 0} (f : A → B) (g : B → C) (xs : List A) → map g (map f xs) ≡ map (λ x. g (f x)) xs
map-twice f g [] = refl
map-twice f g (x ∷ xs) = ap (λ m. g (f x) ∷ m) (map-twice f g xs)

map-more : {A B : Type 0} (f : A → B) (xs ys : List A) → map f (xs ++ ys) ≡ map f xs ++ map f ys
map-more f [] ys = refl
map-more f (x ∷ xs) ys = ap (λ m. f x ∷ m) (map-more f xs ys)

-- Lines keep apart while their topics stay.

any-topic : (t : Topic) (f : Line → Line) → ((l : Line) → (f l).topic ≡ l.topic) → (ls : List Line) → list_any (λ x. is_same_topic t x.topic) (map f ls) ≡ list_any (λ x. is_same_topic t x.topic) ls
any-topic t f same [] = refl
any-topic t f same (l ∷ ls) = let ih = any-topic t f same ls in let e = same l in grind (arith, ih, e)

pub apart-map : (f : Line → Line) → ((l : Line) → (f l).topic ≡ l.topic) → (ls : List Line) → are_apart (map f ls) ≡ are_apart ls
apart-map f same [] = refl
apart-map f same (l ∷ ls) =
    ap (λ b. not b && are_apart (map f ls)) (any-topic (f l).topic f same ls)
    ∙ (ap (λ t. not (list_any (λ x. is_same_topic t x.topic) ls) && are_apart (map f ls)) (same l)
    ∙ ap (λ b. not (list_any (λ x. is_same_topic l.topic x.topic) ls) && b) (apart-map f same ls))

-- The logs of lines whose members change.

pub logs-left : (ks : List ℕ) (ls : List Line) → logs_of (lines_left ks ls) ≡ logs_of ls
logs-left ks [] = refl
logs-left ks (l ∷ ls) = ap (λ m. log_of l ∷ m) (logs-left ks ls)

pub logs-without : (o : ℕ → Bool) (ls : List Line) → logs_of (map (line_without o) ls) ≡ logs_of ls
logs-without o [] = refl
logs-without o (l ∷ ls) = ap (λ m. log_of l ∷ m) (logs-without o ls)

-- What is shown of places.

raised-stays : (n : ℕ) (ks : List ℕ) (u : Span) → stays ks (raised n u).client ≡ stays ks u.client
raised-stays n ks u = elim u.live as (λ l. stays ks (if l then record u { stop = n } else u).client ≡ stays ks u.client) [ true ↦ refl | false ↦ refl ]

raised-left : (n : ℕ) (ks : List ℕ) (us : List Span) → map (raised n) (spans_left ks us) ≡ spans_left ks (map (raised n) us)
raised-left n ks us = map-filter (raised n) (λ u. stays ks u.client) (λ u. stays ks u.client) (raised-stays n ks) us

closed-raised-one : (n : ℕ) (o : ℕ → Bool) (u : Span) → raised n (stopped n o u) ≡ closed o (raised n u)
closed-raised-one n o u = step u.live refl (o u.id) refl
  where
    step : (l : Bool) → u.live ≡ l → (b : Bool) → o u.id ≡ b → raised n (stopped n o u) ≡ closed o (raised n u)
    step false e b is = ap (raised n) (stopped-dead n o u e) ∙ (raised-dead n u e ∙ (sym (closed-dead o u e) ∙ ap (closed o) (sym (raised-dead n u e))))
    step true e true is =
        ap (raised n) (stopped-yes n o u e is)
        ∙ (sym (closed-yes o (record u { stop = n }) is) ∙ ap (closed o) (sym (raised-live n u e)))
    step true e false is =
        ap (raised n) (stopped-no n o u is)
        ∙ (raised-live n u e ∙ (sym (closed-no o (record u { stop = n }) is) ∙ ap (closed o) (sym (raised-live n u e))))

closed-raised : (n : ℕ) (o : ℕ → Bool) (us : List Span) → map (raised n) (map (stopped n o) us) ≡ map (closed o) (map (raised n) us)
closed-raised n o [] = refl
closed-raised n o (u ∷ us) = ap (λ x. x ∷ map (raised n) (map (stopped n o) us)) (closed-raised-one n o u) ∙ ap (λ m. closed o (raised n u) ∷ m) (closed-raised n o us)

raised-outlasts : (n k : ℕ) (u : Span) → outlasts k (raised n u) ≡ outlasts k u
raised-outlasts n k u = elim u.live as (λ l. outlasts k (if l then record u { stop = n } else u) ≡ outlasts k u) [ true ↦ refl | false ↦ refl ]

begun-yes : (k n : ℕ) (u : Span) → (u.client == k) ≡ true → begun_anew k n u ≡ record u { start = n; stop = n }
begun-yes k n u is = ap (λ b. if b then record u { start = n; stop = n } else u) is

begun-no : (k n : ℕ) (u : Span) → (u.client == k) ≡ false → begun_anew k n u ≡ u
begun-no k n u is = ap (λ b. if b then record u { start = n; stop = n } else u) is

raised-begun : (n k : ℕ) (u : Span) → raised n (begun_anew k n u) ≡ begun_anew k n (raised n u)
raised-begun n k u = step u.live refl (u.client == k) refl
  where
    step : (l : Bool) → u.live ≡ l → (b : Bool) → (u.client == k) ≡ b → raised n (begun_anew k n u) ≡ begun_anew k n (raised n u)
    step true e true is =
        ap (raised n) (begun-yes k n u is)
        ∙ (raised-live n (record u { start = n; stop = n }) e
        ∙ (sym (begun-yes k n (record u { stop = n }) is) ∙ ap (begun_anew k n) (sym (raised-live n u e))))
    step true e false is =
        ap (raised n) (begun-no k n u is)
        ∙ (raised-live n u e ∙ (sym (begun-no k n (record u { stop = n }) is) ∙ ap (begun_anew k n) (sym (raised-live n u e))))
    step false e true is =
        ap (raised n) (begun-yes k n u is)
        ∙ (raised-dead n (record u { start = n; stop = n }) e ∙ (sym (begun-yes k n u is) ∙ ap (begun_anew k n) (sym (raised-dead n u e))))
    step false e false is =
        ap (raised n) (begun-no k n u is) ∙ (raised-dead n u e ∙ (sym (begun-no k n u is) ∙ ap (begun_anew k n) (sym (raised-dead n u e))))

raised-cleared : (n k : ℕ) (us : List Span) → map (raised n) (cleared k n us) ≡ cleared k n (map (raised n) us)
raised-cleared n k us =
    map-twice (begun_anew k n) (raised n) (filter (outlasts k) us)
    ∙ (map-as (λ u. raised n (begun_anew k n u)) (λ u. begun_anew k n (raised n u)) (raised-begun n k) (filter (outlasts k) us)
    ∙ (sym (map-twice (raised n) (begun_anew k n) (filter (outlasts k) us))
    ∙ ap (map (begun_anew k n)) (map-filter (raised n) (outlasts k) (outlasts k) (raised-outlasts n k) us)))

raised-new : (n id client : ℕ) (t : Topic) (us : List Span) → map (raised n) (us ++ (new_span id client t n ∷ [])) ≡ map (raised n) us ++ (new_span id client t n ∷ [])
raised-new n id client t us = map-more (raised n) us (new_span id client t n ∷ [])

raised-id : (n : ℕ) (u : Span) → (raised n u).id ≡ u.id
raised-id n u = elim u.live as (λ l. (if l then record u { stop = n } else u).id ≡ u.id) [ true ↦ refl | false ↦ refl ]

raised-client : (n : ℕ) (u : Span) → (raised n u).client ≡ u.client
raised-client n u = elim u.live as (λ l. (if l then record u { stop = n } else u).client ≡ u.client) [ true ↦ refl | false ↦ refl ]

-- Subscriptions that have ended and for which nothing waits.

none-covered : (start stop : ℕ) (ms : List Message) → list_any (is_covered start stop) ms ≡ false → filter (is_covered start stop) ms ≡ []
none-covered start stop [] none = refl
none-covered start stop (m ∷ ms) none = let ih = none-covered start stop ms in grind (arith, none, ih)

covered-unwaited : (logs : List TopicLog) (u : Span) → is_waited logs u ≡ false → covered logs u ≡ []
covered-unwaited logs u none =
    let nobody : list_any (is_covered u.start u.stop) (posts_of u.topic logs) ≡ false = grind (arith, none) in
    ap (map (delivered u.id)) (none-covered u.start u.stop (posts_of u.topic logs) nobody)

module _ (logs : List TopicLog) (p : Span → Bool) (unwaited : (u : Span) → p u ≡ false → is_waited logs u ≡ false) where
  gathered-waited : (k : ℕ) (us : List Span) → gathered logs (spans_of k (filter p us)) ≡ gathered logs (spans_of k us)
  gathered-waited k [] = refl
  gathered-waited k (u ∷ us) = step (p u) refl (u.client == k) refl (gathered-waited k us)
    where
      step : (b : Bool) → p u ≡ b → (c : Bool) → (u.client == k) ≡ c → gathered logs (spans_of k (filter p us)) ≡ gathered logs (spans_of k us)
          → gathered logs (spans_of k (if b then u ∷ filter p us else filter p us)) ≡ gathered logs (if c then u ∷ spans_of k us else spans_of k us)
      step true e true is ih = ap (λ c. gathered logs (if c then u ∷ spans_of k (filter p us) else spans_of k (filter p us))) is ∙ ap (λ m. covered logs u ++ m) ih
      step true e false is ih = ap (λ c. gathered logs (if c then u ∷ spans_of k (filter p us) else spans_of k (filter p us))) is ∙ ih
      step false e true is ih = let none = covered-unwaited logs u (unwaited u e) in ih ∙ sym (ap (λ m. m ++ gathered logs (spans_of k us)) none)
      step false e false is ih = ih

  waits-waited : (us : List Span) (k : ℕ) → waits logs (filter p us) k ≡ waits logs us k
  waits-waited us k = ap (λ m. put_all m []) (gathered-waited k us)

  subs-waited : (us : List Span) → subs_by (filter p us) ≡ subs_by us
  subs-waited [] = refl
  subs-waited (u ∷ us) = step u.live refl (p u) refl (subs-waited us)
    where
      step : (l : Bool) → u.live ≡ l → (b : Bool) → p u ≡ b → subs_by (filter p us) ≡ subs_by us → subs_by (if b then u ∷ filter p us else filter p us) ≡ subs_by (u ∷ us)
      step true e true is ih = grind (arith, e, ih)
      step true e false is ih = let none = unwaited u is in let no : true ≡ false = grind (arith, e, none) in absurd (cc)
      step false e true is ih = grind (arith, e, ih)
      step false e false is ih = grind (arith, e, ih)

  waited-kept : (us : List Span) (ws : List Waiter) (c n : ℕ) → IsKept logs us ws c n → IsKept logs (filter p us) ws c n
  waited-kept us ws c n k = record {
    right = counts-as logs logs us (filter p us) ws (waits-waited us) k.right;
    rise = k.rise;
    ids = k.ids;
    own = all-filter (λ u. nat_lt u.client c) p us k.own;
    stops = all-filter (λ u. nat_le u.stop n) p us k.stops;
    starts = all-filter (λ u. nat_le u.start n) p us k.starts;
    above = all-filter (is_above logs) p us k.above;
    before = k.before;
  }

  waited-floor : (us : List Span) (ws : List Waiter) (c n : ℕ) → floor logs (filter p us) ws c n ≡ floor logs us ws c n
  waited-floor us ws c n =
      ap (λ x. record { clients = x; subs = subs_by (filter p us); next_client = c; next_message = n }) (clients-as logs (filter p us) us ws (waits-waited us))
      ∙ ap (λ x. record { clients = clients_by logs us ws; subs = x; next_client = c; next_message = n }) (subs-waited us)

-- Homes.

home-filter : (p : Span → Bool) (ws : List Waiter) (us : List Span) → list_all (is_at_home ws) us ≡ true → list_all (is_at_home ws) (filter p us) ≡ true
home-filter p ws us home = all-filter (is_at_home ws) p us home

home-left : (ks : List ℕ) (ws : List Waiter) (us : List Span) → list_all (is_at_home ws) us ≡ true → list_all (is_at_home (waiters_left ks ws)) (spans_left ks us) ≡ true
home-left ks ws [] home = refl
home-left ks ws (u ∷ us) home =
    let here : is_at_home ws u ≡ true = grind (arith, home) in
    let rest : list_all (is_at_home ws) us ≡ true = grind (arith, home) in
    step (stays ks u.client) refl here (home-left ks ws us rest)
  where
    step : (b : Bool) → stays ks u.client ≡ b → is_at_home ws u ≡ true → list_all (is_at_home (waiters_left ks ws)) (spans_left ks us) ≡ true → list_all (is_at_home (waiters_left ks ws)) (spans_left ks (u ∷ us)) ≡ true
    step true e here ih = let there = present-left u.client ks ws e in grind (arith, e, here, ih, there)
    step false e here ih = grind (arith, e, ih)

pub home-as : (ws vs : List Waiter) → ((k : ℕ) → is_present k ws ≡ true → is_present k vs ≡ true) → (us : List Span) → list_all (is_at_home ws) us ≡ true → list_all (is_at_home vs) us ≡ true
home-as ws vs more us home = all-weaker (is_at_home ws) (is_at_home vs) (λ u here. one u u.live refl here) us home
  where
    one : (u : Span) (l : Bool) → u.live ≡ l → is_at_home ws u ≡ true → is_at_home vs u ≡ true
    one u true e here =
        let there : is_present u.client ws ≡ true = grind (arith, e, here) in
        let still = more u.client there in
        grind (arith, e, still)
    one u false e here = grind (arith, e)

home-map : (f : Span → Span) (ws : List Waiter) → ((u : Span) → is_at_home ws u ≡ true → is_at_home ws (f u) ≡ true) → (us : List Span) → list_all (is_at_home ws) us ≡ true → list_all (is_at_home ws) (map f us) ≡ true
home-map f ws one us home = all-map (is_at_home ws) (is_at_home ws) f one us home

-- Clients leave.

module _ (ls : List Line) (us : List Span) (ws : List Waiter) (c n : ℕ) (k : IsLined ls us ws c n) where
  pub lined-left : (ks : List ℕ) → IsLined (lines_left ks ls) (spans_left ks us) (waiters_left ks ws) c n
  lined-left ks = record {
    kept = rw (logs-left ks ls, raised-left n ks us) (left-kept ks (logs_of ls) (map (raised n) us) ws c n k.kept);
    listed = λ t. at-left t ks ls ∙ (ap (λ m. filter (λ m. stays ks m.client) m) (k.listed t) ∙ sym (members-left t ks us));
    home = home-left ks ws us k.home;
    apart = apart-map (line_left ks) (λ l. refl) ls ∙ k.apart;
  }

  pub floor-left : (ks : List ℕ) → floor_of (lines_left ks ls) (spans_left ks us) (waiters_left ks ws) c n
      ≡ record { clients = clients_left ks (clients_by (logs_of ls) (map (raised n) us) ws); subs = subs_left ks (subs_by (map (raised n) us)); next_client = c; next_message = n }
  floor-left ks = rw (logs-left ks ls, raised-left n ks us) (left-floor ks (logs_of ls) (map (raised n) us) ws c n)

  -- A client comes.

  pub lined-come : (present : ℕ) → IsLined ls us (ws ++ (new_waiter c present ∷ [])) (c + 1) n
  lined-come present = record {
    kept = come-kept (logs_of ls) (map (raised n) us) ws c n present k.kept;
    listed = k.listed;
    home = home-as ws (ws ++ (new_waiter c present ∷ [])) (λ j here. present-more j ws (new_waiter c present) here) us k.home;
    apart = k.apart;
  }

  pub floor-come : (present : ℕ) → floor_of ls us (ws ++ (new_waiter c present ∷ [])) (c + 1) n
      ≡ record { clients = clients_by (logs_of ls) (map (raised n) us) ws ++ (new_client c present ∷ []); subs = subs_by (map (raised n) us); next_client = c + 1; next_message = n }
  floor-come present = ap (λ x. record { clients = x; subs = subs_by (map (raised n) us); next_client = c + 1; next_message = n }) (come-clients (logs_of ls) (map (raised n) us) ws c n present k.kept)

  -- Subscriptions end.

  pub stopped-home : (o : ℕ → Bool) (u : Span) → is_at_home ws u ≡ true → is_at_home ws (stopped n o u) ≡ true
  stopped-home o u here = elim (u.live && o u.id) as (λ b. is_at_home ws (if b then record u { stop = n; live = false } else u) ≡ true) [ true ↦ refl | false ↦ here ]

  pub lined-stopped : (o : ℕ → Bool) → IsLined (map (line_without o) ls) (map (stopped n o) us) ws c n
  lined-stopped o = record {
    kept = rw (logs-without o ls, closed-raised n o us) (closed-kept o (logs_of ls) (map (raised n) us) ws c n k.kept);
    listed = λ t. at-without t o ls ∙ (ap (filter (λ m. not (o m.sub))) (k.listed t) ∙ sym (members-stopped t n o us));
    home = home-map (stopped n o) ws (stopped-home o) us k.home;
    apart = apart-map (line_without o) (λ l. refl) ls ∙ k.apart;
  }

  pub floor-stopped : (o : ℕ → Bool) → floor_of (map (line_without o) ls) (map (stopped n o) us) ws c n
      ≡ record { clients = clients_by (logs_of ls) (map (raised n) us) ws; subs = filter (λ u. not (o u.id)) (subs_by (map (raised n) us)); next_client = c; next_message = n }
  floor-stopped o = rw (logs-without o ls, closed-raised n o us) (closed-floor o (logs_of ls) (map (raised n) us) ws c n)

  module _ (own : ℕ → Bool) (o : ℕ → Bool) where
    -- of what is shown: of none of these clients, or none of these, or live, or something waits
    abbrev left : Span → Bool
    left v = not (own v.client) || (not (o v.id) || is_waited (logs_of ls) v)

    left-unwaited : (v : Span) → left v ≡ false → is_waited (logs_of ls) v ≡ false
    left-unwaited v e = grind (arith, e)

    left-raised : map (raised n) (filter (remains_of own o (logs_of ls) n) us) ≡ filter left (map (raised n) us)
    left-raised = map-filter (raised n) left (remains_of own o (logs_of ls) n)
        (λ u. ap (λ i. not (own i) || (not (o (raised n u).id) || is_waited (logs_of ls) (raised n u))) (raised-client n u)
        ∙ ap (λ i. not (own u.client) || (not (o i) || is_waited (logs_of ls) (raised n u))) (raised-id n u)) us

    live-remains : (u : Span) → u.live ≡ true → remains_of own o (logs_of ls) n u ≡ true
    live-remains u live =
        let waited : is_waited (logs_of ls) (raised n u) ≡ true =
        ap (is_waited (logs_of ls)) (raised-live n u live) ∙ ap (λ l. l || list_any (is_covered u.start n) (posts_of u.topic (logs_of ls))) live in
        grind (arith, waited)

    pub lined-waited : IsLined ls (filter (remains_of own o (logs_of ls) n) us) ws c n
    lined-waited = record {
      kept = rw left-raised (waited-kept (logs_of ls) left left-unwaited (map (raised n) us) ws c n k.kept);
      listed = λ t. k.listed t ∙ sym (members-filter t (remains_of own o (logs_of ls) n) live-remains us);
      home = home-filter (remains_of own o (logs_of ls) n) ws us k.home;
      apart = k.apart;
    }

    pub floor-waited : floor_of ls (filter (remains_of own o (logs_of ls) n) us) ws c n ≡ floor_of ls us ws c n
    floor-waited = rw left-raised (waited-floor (logs_of ls) left left-unwaited (map (raised n) us) ws c n)

  -- A poll.

  begun-home : (j : ℕ) (u : Span) → is_at_home ws u ≡ true → is_at_home ws (begun_anew j n u) ≡ true
  begun-home j u here = elim (u.client == j) as (λ b. is_at_home ws (if b then record u { start = n; stop = n } else u) ≡ true) [ true ↦ here | false ↦ here ]

  cleared-home : (j : ℕ) → list_all (is_at_home ws) (cleared j n us) ≡ true
  cleared-home j = home-map (begun_anew j n) ws (begun-home j) (filter (outlasts j) us) (home-filter (outlasts j) ws us k.home)

  pub lined-cleared : (j : ℕ) (g : Waiter → Waiter) → ((w : Waiter) → (g w).id ≡ w.id) → ((w : Waiter) → (g w).waiting ≡ 0) → IsLined ls (cleared j n us) (waiter_at j g ws) c n
  lined-cleared j g same zero = record {
    kept = rw (raised-cleared n j us) (cleared-kept (logs_of ls) (map (raised n) us) ws c n k.kept j g same zero);
    listed = λ t. k.listed t ∙ sym (members-cleared t j n us);
    home = home-as ws (waiter_at j g ws) (λ i here. present-changed j g same i ws ∙ here) (cleared j n us) (cleared-home j);
    apart = k.apart;
  }

  cleared-subs : (j : ℕ) → subs_by (map (raised n) (cleared j n us)) ≡ subs_by (map (raised n) us)
  cleared-subs j = subs-raised n (cleared j n us) ∙ (subs-cleared j n us ∙ sym (subs-raised n us))

  pub floor-emptied : (j : ℕ) → floor_of ls (cleared j n us) (waiter_at j emptied_waiter ws) c n
      ≡ record { clients = at_client j emptied (clients_by (logs_of ls) (map (raised n) us) ws); subs = subs_by (map (raised n) us); next_client = c; next_message = n }
  floor-emptied j =
      ap (λ x. record { clients = clients_by (logs_of ls) (map (raised n) (cleared j n us)) (waiter_at j emptied_waiter ws); subs = x; next_client = c; next_message = n }) (cleared-subs j)
      ∙ ap (λ x. record { clients = x; subs = subs_by (map (raised n) us); next_client = c; next_message = n })
      (ap (λ vs. clients_by (logs_of ls) vs (waiter_at j emptied_waiter ws)) (raised-cleared n j us) ∙ emptied-clients (logs_of ls) (map (raised n) us) ws c n k.kept j)

  pub floor-kept : (j number : ℕ) (queue : List Delivery) → queue ≡ waits (logs_of ls) (map (raised n) us) j → floor_of ls (cleared j n us) (waiter_at j (kept_waiter number queue) ws) c n
      ≡ record { clients = at_client j (kept_as number) (clients_by (logs_of ls) (map (raised n) us) ws); subs = subs_by (map (raised n) us); next_client = c; next_message = n }
  floor-kept j number queue is =
      ap (λ x. record { clients = clients_by (logs_of ls) (map (raised n) (cleared j n us)) (waiter_at j (kept_waiter number queue) ws); subs = x; next_client = c; next_message = n }) (cleared-subs j)
      ∙ ap (λ x. record { clients = x; subs = subs_by (map (raised n) us); next_client = c; next_message = n })
      (ap (λ vs. clients_by (logs_of ls) vs (waiter_at j (kept_waiter number queue) ws)) (raised-cleared n j us) ∙ kept-clients (logs_of ls) (map (raised n) us) ws c n k.kept j number queue is)

  -- A client is seen.

  pub lined-seen : (j present : ℕ) → IsLined ls us (waiter_at j (seen_waiter present) ws) c n
  lined-seen j present = record {
    kept = seen-kept (logs_of ls) (map (raised n) us) ws c n k.kept j present;
    listed = k.listed;
    home = home-as ws (waiter_at j (seen_waiter present) ws) (λ i here. present-changed j (seen_waiter present) (λ w. refl) i ws ∙ here) us k.home;
    apart = k.apart;
  }

  pub floor-seen : (j present : ℕ) → floor_of ls us (waiter_at j (seen_waiter present) ws) c n
      ≡ record { clients = at_client j (seen_at present) (clients_by (logs_of ls) (map (raised n) us) ws); subs = subs_by (map (raised n) us); next_client = c; next_message = n }
  floor-seen j present = ap (λ x. record { clients = x; subs = subs_by (map (raised n) us); next_client = c; next_message = n }) (seen-clients (logs_of ls) (map (raised n) us) ws c n k.kept j present)

-- A new broker's lines.

pub lined-first : (ls : List Line) (us : List Span) (ws : List Waiter) → ls ≡ [] → us ≡ [] → ws ≡ [] → IsLined ls us ws 1 1
lined-first ls us ws no-lines no-spans no-waiters = rw (no-lines, no-spans, no-waiters) (record {
  kept = record { right = refl; rise = refl; ids = refl; own = refl; stops = refl; starts = refl; above = refl; before = refl };
  listed = λ t. refl;
  home = refl;
  apart = refl;
})
