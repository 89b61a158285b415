-- Where clients stand, and what that means for the members of each topic.
use Rattle.std.proofs.Common.{◌≡◌, ℕ, zero, suc, ◌+◌, ◌≤◌, ◌<◌, Bool, true, false, not, List, [], ◌∷◌, ◌++◌, length, get_or, refl, sym, ◌∙◌, ap, arith}
use Rattle.std.specs.Prelude.{◌==◌, ◌&&◌, nat_lt, filter, map, if◌then◌else◌, Some, None, position}
use Rattle.std.specs.List.{list_all, position_or_len}
use Rattle.std.proofs.lemmas.Bool.Decides.{nat_tests}
use Rattle.amf_broker.specs.declared.topic.Topic.{Topic}
use Rattle.amf_broker.specs.Machine.{is_same_topic, is_connected, subs_of, ended_of}
use Rattle.amf_broker.specs.Moments.{stays}
use Rattle.amf_broker.specs.Lines.{TopicLog, Span, Waiter, clients_by, subs_by, spans_left, waiters_left, waiters_rise, waiter_at, is_reached_by, is_crowded, counted, noted, begun_anew, outlasts, cleared, untold_of}
use Rattle.amf_broker.specs.Members.{Line, Listener, is_present, listener, members_in, members_at, is_at_home, raised, stopped, waiters_by, waiters_after, members_of, line_left, lines_left, line_without}

-- Clients at their seats.

rise-from : (b : ℕ) (ws : List Waiter) (i : ℕ) (d : Waiter) → waiters_rise b ws ≡ true → i < length ws → b ≤ (get_or ws i d).id
rise-from b [] i d rise less = absurd (omega arith)
rise-from b (w ∷ ws) zero d rise less = grind (arith, nat_tests, rise)
rise-from b (w ∷ ws) (suc i) d rise less =
    let here : b ≤ w.id = grind (arith, nat_tests, rise) in
    let rest : waiters_rise (w.id + 1) ws ≡ true = grind (arith, rise) in
    let ih = rise-from (w.id + 1) ws i d rest (omega (arith, less)) in
    omega (arith, here, ih)

-- the client that sits there is the first of its number
seat-first : (b k : ℕ) (ws : List Waiter) (i : ℕ) (d : Waiter) → waiters_rise b ws ≡ true → i < length ws → ((get_or ws i d).id == k) ≡ true → position_or_len (λ w. w.id == k) ws ≡ i
seat-first b k [] i d rise less hit = absurd (omega arith)
seat-first b k (w ∷ ws) zero d rise less hit = grind (arith, nat_tests, hit)
seat-first b k (w ∷ ws) (suc i) d rise less hit =
    let rest : waiters_rise (w.id + 1) ws ≡ true = grind (arith, rise) in
    let more : i < length ws = omega (arith, less) in
    let from = rise-from (w.id + 1) ws i d rest more in
    let other : (w.id == k) ≡ false = grind (arith, nat_tests, from, hit) in
    let ih = seat-first (w.id + 1) k ws i d rest more hit in
    grind (arith, nat_tests, other, ih)

pub seat-place : (k : ℕ) (ws : List Waiter) (i : ℕ) (d : Waiter) → waiters_rise 0 ws ≡ true → i < length ws → ((get_or ws i d).id == k) ≡ true → Some i ≡ position (λ w. w.id == k) ws
seat-place k ws i d rise less hit =
    let at = seat-first 0 k ws i d rise less hit in
    let within : nat_lt (position_or_len (λ w. w.id == k) ws) (length ws) ≡ true = grind (arith, nat_tests, at, less) in
    ap Some (sym at) ∙ sym (ap (λ b. if b then Some (position_or_len (λ (w : Waiter). w.id == k) ws) else None) within)

both-first : (a b : Bool) → (a && b) ≡ true → a ≡ true
both-first true b e = refl
both-first false b e = cc

-- a change of a client leaves all where they are
module _ (k : ℕ) (g : Waiter → Waiter) (same : (w : Waiter) → (g w).id ≡ w.id) where
  pub present-changed : (j : ℕ) (ws : List Waiter) → is_present j (waiter_at k g ws) ≡ is_present j ws
  present-changed j [] = refl
  present-changed j (w ∷ ws) = let ih = present-changed j ws in let e = same w in grind (arith, nat_tests, ih, e)

pub present-by : (j : ℕ) (m : Listener) (ws : List Waiter) → is_present j (waiters_by m ws) ≡ is_present j ws
present-by j m ws = elim (is_crowded m.client ws) as (λ b. is_present j (if b then waiter_at m.client (noted m.sub) ws else waiter_at m.client counted ws) ≡ is_present j ws) [
  | true ↦ present-changed m.client (noted m.sub) (λ w. refl) j ws
  | false ↦ present-changed m.client counted (λ w. refl) j ws
]

pub present-after : (j : ℕ) (ms : List Listener) (ws : List Waiter) → is_present j (waiters_after ms ws) ≡ is_present j ws
present-after j [] ws = refl
present-after j (m ∷ ms) ws = present-after j ms (waiters_by m ws) ∙ present-by j m ws

pub present-more : (k : ℕ) (ws : List Waiter) (w : Waiter) → is_present k ws ≡ true → is_present k (ws ++ (w ∷ [])) ≡ true
present-more k [] w here = cc
present-more k (x ∷ ws) w here = let ih = present-more k ws w in grind (arith, nat_tests, ih, here)

pub present-left : (k : ℕ) (ks : List ℕ) (ws : List Waiter) → stays ks k ≡ true → is_present k (waiters_left ks ws) ≡ is_present k ws
present-left k ks [] stay = refl
present-left k ks (w ∷ ws) stay = let ih = present-left k ks ws stay in grind (arith, nat_tests, ih, stay)

pub present-connected : (k : ℕ) (logs : List TopicLog) (us : List Span) (ws : List Waiter) → is_present k ws ≡ is_connected k (clients_by logs us ws)
present-connected k logs us [] = refl
present-connected k logs us (w ∷ ws) = let ih = present-connected k logs us ws in grind (arith, nat_tests, ih)

-- Members of a topic after changes of places and clients.

-- a place that is reached alike, and is the same member
member-as : (t : Topic) (v u : Span) (us : List Span) → is_reached_by t v ≡ is_reached_by t u → listener v ≡ listener u → members_in t (v ∷ us) ≡ members_in t (u ∷ us)
member-as t v u us reached same =
    ap (λ b. map listener (if b then v ∷ filter (is_reached_by t) us else filter (is_reached_by t) us)) reached
    ∙ elim (is_reached_by t u) as (λ b. map listener (if b then v ∷ filter (is_reached_by t) us else filter (is_reached_by t) us) ≡ map listener (if b then u ∷ filter (is_reached_by t) us else filter (is_reached_by t) us)) [
      | true ↦ ap (λ m. m ∷ members_in t us) same
      | false ↦ refl
    ]

cons-member : (t : Topic) (u : Span) (us vs : List Span) → members_in t us ≡ members_in t vs → members_in t (u ∷ us) ≡ members_in t (u ∷ vs)
cons-member t u us vs same = elim (is_reached_by t u) as (λ b. map listener (if b then u ∷ filter (is_reached_by t) us else filter (is_reached_by t) us) ≡ map listener (if b then u ∷ filter (is_reached_by t) vs else filter (is_reached_by t) vs)) [ true ↦ ap (λ m. listener u ∷ m) same | false ↦ same ]

reached-raised : (t : Topic) (n : ℕ) (u : Span) → is_reached_by t (raised n u) ≡ is_reached_by t u
reached-raised t n u = elim u.live as (λ l. is_reached_by t (if l then record u { stop = n } else u) ≡ is_reached_by t u) [ true ↦ refl | false ↦ refl ]

member-raised : (n : ℕ) (u : Span) → listener (raised n u) ≡ listener u
member-raised n u = elim u.live as (λ l. listener (if l then record u { stop = n } else u) ≡ listener u) [ true ↦ refl | false ↦ refl ]

pub members-raised : (t : Topic) (n : ℕ) (us : List Span) → members_in t (map (raised n) us) ≡ members_in t us
members-raised t n [] = refl
members-raised t n (u ∷ us) =
    member-as t (raised n u) u (map (raised n) us) (reached-raised t n u) (member-raised n u)
    ∙ cons-member t u (map (raised n) us) us (members-raised t n us)

pub members-stopped : (t : Topic) (n : ℕ) (o : ℕ → Bool) (us : List Span) → members_in t (map (stopped n o) us) ≡ filter (λ m. not (o m.sub)) (members_in t us)
members-stopped t n o [] = refl
members-stopped t n o (u ∷ us) = step u.live (o u.id) (is_same_topic u.topic t) refl refl refl (members-stopped t n o us)
  where
    step : (l e s : Bool) → u.live ≡ l → o u.id ≡ e → is_same_topic u.topic t ≡ s → members_in t (map (stopped n o) us) ≡ filter (λ m. not (o m.sub)) (members_in t us) → members_in t (map (stopped n o) (u ∷ us)) ≡ filter (λ m. not (o m.sub)) (members_in t (u ∷ us))
    step true true true a b c ih = grind (arith, a, b, c, ih)
    step true true false a b c ih = grind (arith, a, b, c, ih)
    step true false true a b c ih = grind (arith, a, b, c, ih)
    step true false false a b c ih = grind (arith, a, b, c, ih)
    step false e s a b c ih = grind (arith, a, ih)

pub members-left : (t : Topic) (ks : List ℕ) (us : List Span) → members_in t (spans_left ks us) ≡ filter (λ m. stays ks m.client) (members_in t us)
members-left t ks [] = refl
members-left t ks (u ∷ us) = step (is_reached_by t u) (stays ks u.client) refl refl (members-left t ks us)
  where
    step : (r s : Bool) → is_reached_by t u ≡ r → stays ks u.client ≡ s → members_in t (spans_left ks us) ≡ filter (λ m. stays ks m.client) (members_in t us) → members_in t (spans_left ks (u ∷ us)) ≡ filter (λ m. stays ks m.client) (members_in t (u ∷ us))
    step true true a b ih = grind (arith, a, b, ih)
    step true false a b ih = grind (arith, a, b, ih)
    step false true a b ih = grind (arith, a, b, ih)
    step false false a b ih = grind (arith, a, b, ih)

pub members-begun : (t : Topic) (us : List Span) (u : Span) → members_in t (us ++ (u ∷ [])) ≡ members_in t us ++ (if is_reached_by t u then listener u ∷ [] else [])
members-begun t [] u = elim (is_reached_by t u) as (λ b. map listener (if b then u ∷ [] else []) ≡ (if b then listener u ∷ [] else [])) [ true ↦ refl | false ↦ refl ]
members-begun t (x ∷ us) u = step (is_reached_by t x) refl (members-begun t us u)
  where
    step : (b : Bool) → is_reached_by t x ≡ b → members_in t (us ++ (u ∷ [])) ≡ members_in t us ++ (if is_reached_by t u then listener u ∷ [] else []) → members_in t (x ∷ (us ++ (u ∷ []))) ≡ members_in t (x ∷ us) ++ (if is_reached_by t u then listener u ∷ [] else [])
    step true e ih = grind (arith, e, ih)
    step false e ih = grind (arith, e, ih)

-- what keeps the live ones keeps the members
pub members-filter : (t : Topic) (p : Span → Bool) → ((u : Span) → u.live ≡ true → p u ≡ true) → (us : List Span) → members_in t (filter p us) ≡ members_in t us
members-filter t p keeps [] = refl
members-filter t p keeps (u ∷ us) = step (is_reached_by t u) (p u) refl refl (members-filter t p keeps us)
  where
    step : (r q : Bool) → is_reached_by t u ≡ r → p u ≡ q → members_in t (filter p us) ≡ members_in t us → members_in t (filter p (u ∷ us)) ≡ members_in t (u ∷ us)
    step true true a b ih = grind (arith, a, b, ih)
    step true false a b ih = let live : u.live ≡ true = both-first u.live (is_same_topic u.topic t) a in let yes = keeps u live in grind (arith, b, yes)
    step false true a b ih = grind (arith, a, b, ih)
    step false false a b ih = grind (arith, a, b, ih)

reached-begun : (t : Topic) (k n : ℕ) (u : Span) → is_reached_by t (begun_anew k n u) ≡ is_reached_by t u
reached-begun t k n u = elim (u.client == k) as (λ b. is_reached_by t (if b then record u { start = n; stop = n } else u) ≡ is_reached_by t u) [ true ↦ refl | false ↦ refl ]

member-begun : (k n : ℕ) (u : Span) → listener (begun_anew k n u) ≡ listener u
member-begun k n u = elim (u.client == k) as (λ b. listener (if b then record u { start = n; stop = n } else u) ≡ listener u) [ true ↦ refl | false ↦ refl ]

members-begun-anew : (t : Topic) (k n : ℕ) (us : List Span) → members_in t (map (begun_anew k n) us) ≡ members_in t us
members-begun-anew t k n [] = refl
members-begun-anew t k n (u ∷ us) = member-as t (begun_anew k n u) u (map (begun_anew k n) us) (reached-begun t k n u) (member-begun k n u) ∙ cons-member t u (map (begun_anew k n) us) us (members-begun-anew t k n us)

pub members-cleared : (t : Topic) (k n : ℕ) (us : List Span) → members_in t (cleared k n us) ≡ members_in t us
members-cleared t k n us = members-begun-anew t k n (filter (outlasts k) us) ∙ members-filter t (outlasts k) (λ u live. grind (arith, live)) us

-- The members that stand in the lines.

pub at-left : (t : Topic) (ks : List ℕ) (ls : List Line) → members_at t (lines_left ks ls) ≡ filter (λ m. stays ks m.client) (members_at t ls)
at-left t ks [] = refl
at-left t ks (l ∷ ls) = let ih = at-left t ks ls in
    elim (is_same_topic t l.topic) as (λ b. (if b then (line_left ks l).members else members_at t (lines_left ks ls)) ≡ filter (λ m. stays ks m.client) (if b then l.members else members_at t ls)) [ true ↦ refl | false ↦ ih ]

pub at-without : (t : Topic) (o : ℕ → Bool) (ls : List Line) → members_at t (map (line_without o) ls) ≡ filter (λ m. not (o m.sub)) (members_at t ls)
at-without t o [] = refl
at-without t o (l ∷ ls) = let ih = at-without t o ls in
    elim (is_same_topic t l.topic) as (λ b. (if b then (line_without o l).members else members_at t (map (line_without o) ls)) ≡ filter (λ m. not (o m.sub)) (if b then l.members else members_at t ls)) [ true ↦ refl | false ↦ ih ]

-- The clients of all are there.

pub all-present : (t : Topic) (us : List Span) (ws : List Waiter) → list_all (is_at_home ws) us ≡ true → list_all (λ m. is_present m.client ws) (members_in t us) ≡ true
all-present t [] ws home = refl
all-present t (u ∷ us) ws home =
    let here : is_at_home ws u ≡ true = grind (arith, home) in
    let rest : list_all (is_at_home ws) us ≡ true = grind (arith, home) in
    step (is_reached_by t u) refl here (all-present t us ws rest)
  where
    step : (b : Bool) → is_reached_by t u ≡ b → is_at_home ws u ≡ true → list_all (λ m. is_present m.client ws) (members_in t us) ≡ true → list_all (λ m. is_present m.client ws) (members_in t (u ∷ us)) ≡ true
    step true e here ih =
        let live : u.live ≡ true = both-first u.live (is_same_topic u.topic t) e in
        let there : is_present u.client ws ≡ true = grind (arith, live, here) in
        grind (arith, e, there, ih)
    step false e here ih = grind (arith, e, ih)

-- No client has more members than subscriptions.

pub few-members : (t : Topic) (k : ℕ) (us : List Span) → length (members_of k (members_in t us)) ≤ length (subs_of k (subs_by us))
few-members t k [] = omega arith
few-members t k (u ∷ us) = step u.live (is_same_topic u.topic t) (u.client == k) refl refl refl (few-members t k us)
  where
    step : (l s b : Bool) → u.live ≡ l → is_same_topic u.topic t ≡ s → (u.client == k) ≡ b → length (members_of k (members_in t us)) ≤ length (subs_of k (subs_by us)) → length (members_of k (members_in t (u ∷ us))) ≤ length (subs_of k (subs_by (u ∷ us)))
    step true true true a c d ih = grind (arith, a, c, d, ih)
    step true true false a c d ih = grind (arith, a, c, d, ih)
    step true false true a c d ih = grind (arith, a, c, d, ih)
    step true false false a c d ih = grind (arith, a, c, d, ih)
    step false s b a c d ih = grind (arith, a, ih)

pub untold-is : (k : ℕ) (logs : List TopicLog) (us : List Span) (ws : List Waiter) → untold_of k ws ≡ length (ended_of k (clients_by logs us ws))
untold-is k logs us [] = refl
untold-is k logs us (w ∷ ws) = let ih = untold-is k logs us ws in grind (arith, nat_tests, ih)
