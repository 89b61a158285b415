-- A publish that goes over the members of its topic is the machine's.
use Rattle.std.proofs.Common.{◌≡◌, ℕ, ◌+◌, Bool, true, false, not, List, [], ◌∷◌, ◌++◌, length, refl, sym, ◌∙◌, ap, arith}
use Rattle.std.specs.Prelude.{◌==◌, ◌&&◌, ◌||◌, nat_lt, filter, map, if◌then◌else◌}
use Rattle.std.specs.List.{list_all, list_any}
use Rattle.std.proofs.lemmas.Bool.Decides.{nat_tests}
use Rattle.amf_broker.specs.declared.topic.Topic.{Topic}
use Rattle.amf_broker.specs.State.{Subscription}
use Rattle.amf_broker.specs.Machine.{is_same_topic, spread, Spread, subscribers, still_live}
use Rattle.amf_broker.specs.Sound.{rises_by}
use Rattle.amf_broker.specs.Delivery.{Message}
use Rattle.amf_broker.specs.Lines.{TopicLog, Span, Waiter, IsKept, posted, clients_by, subs_by, closed, setting_out, deal_all, Deal}
use Rattle.amf_broker.specs.Members.{Line, Listener, log_of, logs_of, listener, members_in, members_at, are_apart, is_at_home, raised, stopped, IsLined, floor_of, with_post, posted_line, line_without, waiters_after, ended_after}
use Rattle.amf_broker.proofs.Floors.{all-weaker, all-map, more-most}
use Rattle.amf_broker.proofs.Publishes.{is_over, publish-kept, publish-ended, publish-clients, publish-subs}
use Rattle.amf_broker.proofs.Raises.{raised-kept, raised-floor, subs-raised}
use Rattle.amf_broker.proofs.Tallies.{deal-waiters, deal-ended}
use Rattle.amf_broker.proofs.Stops.{raised-live, raised-dead, all-stopped}
use Rattle.amf_broker.proofs.Seats.{present-after, members-raised, members-stopped, at-without}
use Rattle.amf_broker.proofs.Lined.{apart-map, logs-without, map-twice, home-as, stopped-home}
use Rattle.amf_broker.proofs.Firsts.{at_first}

-- The message comes to the back of the line of its topic.

module _ (t : Topic) (m : Message) where
  pub first-posted : (ls : List Line) → at_first (λ l. is_same_topic t l.topic) (with_post m) ls ≡ posted_line t m ls
  first-posted [] = refl
  first-posted (l ∷ ls) = ap (λ x. if is_same_topic t l.topic then with_post m l ∷ ls else l ∷ x) (first-posted ls)

  -- nobody listens
  pub unposted : (ls : List Line) → (length (members_at t ls) == 0) ≡ true → ls ≡ posted_line t m ls
  unposted [] none = refl
  unposted (l ∷ ls) none = step (is_same_topic t l.topic) refl (unposted ls)
    where
      step : (b : Bool) → is_same_topic t l.topic ≡ b → ((length (members_at t ls) == 0) ≡ true → ls ≡ posted_line t m ls) → l ∷ ls ≡ (if b then with_post m l ∷ ls else l ∷ posted_line t m ls)
      step true e ih =
          let here : (length l.members == 0) ≡ true = sym (ap (λ b. length (if b then l.members else members_at t ls) == 0) e) ∙ none in
          ap (λ b. (if b then l else record l { posts = l.posts ++ (m ∷ []) }) ∷ ls) (sym here)
      step false e ih =
          let more : (length (members_at t ls) == 0) ≡ true = sym (ap (λ b. length (if b then l.members else members_at t ls) == 0) e) ∙ none in
          ap (λ x. l ∷ x) (ih more)

  pub posted-first : (ls : List Line) → (length (members_at t ls) == 0) ≡ false → logs_of (posted_line t m ls) ≡ posted t m (logs_of ls)
  posted-first [] some = cc
  posted-first (l ∷ ls) some = step (is_same_topic t l.topic) refl (posted-first ls)
    where
      step : (b : Bool) → is_same_topic t l.topic ≡ b → ((length (members_at t ls) == 0) ≡ false → logs_of (posted_line t m ls) ≡ posted t m (logs_of ls))
          → logs_of (if b then with_post m l ∷ ls else l ∷ posted_line t m ls) ≡ (if b then record { topic = l.topic; posts = l.posts ++ (m ∷ []) } ∷ logs_of ls else log_of l ∷ posted t m (logs_of ls))
      step true e ih =
          let here : (length l.members == 0) ≡ false = sym (ap (λ b. length (if b then l.members else members_at t ls) == 0) e) ∙ some in
          ap (λ b. log_of (if b then l else record l { posts = l.posts ++ (m ∷ []) }) ∷ logs_of ls) here
      step false e ih =
          let more : (length (members_at t ls) == 0) ≡ false = sym (ap (λ b. length (if b then l.members else members_at t ls) == 0) e) ∙ some in
          ap (λ x. log_of l ∷ x) (ih more)

  post-topic : (l : Line) → (with_post m l).topic ≡ l.topic
  post-topic l = elim (length l.members == 0) as (λ b. (if b then l else record l { posts = l.posts ++ (m ∷ []) }).topic ≡ l.topic) [ true ↦ refl | false ↦ refl ]

  post-members : (l : Line) → (with_post m l).members ≡ l.members
  post-members l = elim (length l.members == 0) as (λ b. (if b then l else record l { posts = l.posts ++ (m ∷ []) }).members ≡ l.members) [ true ↦ refl | false ↦ refl ]

  any-posted : (s : Topic) (ls : List Line) → list_any (λ x. is_same_topic s x.topic) (posted_line t m ls) ≡ list_any (λ x. is_same_topic s x.topic) ls
  any-posted s [] = refl
  any-posted s (l ∷ ls) = step (is_same_topic t l.topic) (any-posted s ls)
    where
      step : (b : Bool) → list_any (λ x. is_same_topic s x.topic) (posted_line t m ls) ≡ list_any (λ x. is_same_topic s x.topic) ls → list_any (λ x. is_same_topic s x.topic) (if b then with_post m l ∷ ls else l ∷ posted_line t m ls) ≡ list_any (λ x. is_same_topic s x.topic) (l ∷ ls)
      step true ih = ap (λ x. is_same_topic s x || list_any (λ x. is_same_topic s x.topic) ls) (post-topic l)
      step false ih = ap (λ b. is_same_topic s l.topic || b) ih

  pub apart-posted : (ls : List Line) → are_apart (posted_line t m ls) ≡ are_apart ls
  apart-posted [] = refl
  apart-posted (l ∷ ls) = step (is_same_topic t l.topic) (apart-posted ls)
    where
      step : (b : Bool) → are_apart (posted_line t m ls) ≡ are_apart ls → are_apart (if b then with_post m l ∷ ls else l ∷ posted_line t m ls) ≡ are_apart (l ∷ ls)
      step true ih = ap (λ x. not (list_any (λ y. is_same_topic x y.topic) ls) && are_apart ls) (post-topic l)
      step false ih = ap (λ b. not b && are_apart (posted_line t m ls)) (any-posted l.topic ls) ∙ ap (λ b. not (list_any (λ x. is_same_topic l.topic x.topic) ls) && b) ih

  pub at-posted : (ls : List Line) (s : Topic) → members_at s (posted_line t m ls) ≡ members_at s ls
  at-posted [] s = refl
  at-posted (l ∷ ls) s = step (is_same_topic t l.topic) (at-posted ls s)
    where
      step : (b : Bool) → members_at s (posted_line t m ls) ≡ members_at s ls → members_at s (if b then with_post m l ∷ ls else l ∷ posted_line t m ls) ≡ members_at s (l ∷ ls)
      step true ih =
          ap (λ x. if is_same_topic s x then (with_post m l).members else members_at s ls) (post-topic l)
          ∙ ap (λ ms. if is_same_topic s l.topic then ms else members_at s ls) (post-members l)
      step false ih = ap (λ x. if is_same_topic s l.topic then l.members else x) ih

pub none-at : (t : Topic) (ls : List Line) → list_any (λ l. is_same_topic t l.topic) ls ≡ false → members_at t ls ≡ []
none-at t [] none = refl
none-at t (l ∷ ls) none = let ih = none-at t ls in grind (arith, none, ih)

-- The message comes to the members.

module _ (t : Topic) (m : Message) (ls ps : List Line) (us : List Span) (ws : List Waiter) (c : ℕ) (k : IsLined ls us ws c m.number)
    (up : logs_of ps ≡ posted t m (logs_of ls)) (at : (s : Topic) → members_at s ps ≡ members_at s ls) (rise : rises_by (λ u. u.id) 0 (subs_by us) ≡ true) (apart : are_apart ps ≡ true) where
  abbrev seen : List Span
  seen = map (raised m.number) us

  abbrev members : List Listener
  members = members_in t us

  abbrev pub told : List ℕ
  told = ended_after members ws

  abbrev deal : Deal
  deal = deal_all t m.number (setting_out ws) seen

  waiters-is : deal.waiters ≡ waiters_after members ws
  waiters-is = deal-waiters t m.number (setting_out ws) seen ∙ ap (λ x. waiters_after x ws) (members-raised t m.number us)

  ended-is : deal.ended ≡ told
  ended-is = deal-ended t m.number (setting_out ws) seen ∙ ap (λ x. ended_after x ws) (members-raised t m.number us)

  spans-is : map (raised (m.number + 1)) (map (closed (is_over deal.ended)) deal.spans) ≡ map (raised (m.number + 1)) (map (stopped m.number (is_over told)) us)
  spans-is =
      ap (λ e. map (raised (m.number + 1)) (map (closed (is_over e)) deal.spans)) ended-is
      ∙ (map-twice (closed (is_over told)) (raised (m.number + 1)) deal.spans
      ∙ (all-stopped t m.number told (setting_out ws) us 0 ended-is (λ j l. refl) rise
      ∙ sym (map-twice (stopped m.number (is_over told)) (raised (m.number + 1)) us)))

  kept-so : IsKept (posted t m (logs_of ls)) (map (closed (is_over deal.ended)) deal.spans) deal.waiters c (m.number + 1)
  kept-so = publish-kept t m (logs_of ls) seen ws c k.kept

  logs-is : logs_of (map (line_without (is_over told)) ps) ≡ posted t m (logs_of ls)
  logs-is = logs-without (is_over told) ps ∙ up

  pub lined-published : IsLined (map (line_without (is_over told)) ps) (map (stopped m.number (is_over told)) us) (waiters_after members ws) c (m.number + 1)
  lined-published = record {
    kept = rw (logs-is, ← spans-is, ← waiters-is) (raised-kept (posted t m (logs_of ls)) (map (closed (is_over deal.ended)) deal.spans) deal.waiters c (m.number + 1) kept-so);
    listed = λ s.
        at-without s (is_over told) ps
        ∙ (ap (filter (λ m. not (is_over told m.sub))) (at s ∙ k.listed s)
        ∙ sym (members-stopped s m.number (is_over told) us));
    home = home-as ws (waiters_after members ws) (λ j here. present-after j members ws ∙ here) (map (stopped m.number (is_over told)) us)
        (all-map (is_at_home ws) (is_at_home ws) (stopped m.number (is_over told)) (stopped-home ls us ws c m.number k (is_over told)) us k.home);
    apart = apart-map (line_without (is_over told)) (λ l. refl) ps ∙ apart;
  }

  abbrev pub arrived : Spread
  arrived = spread m.number m.bytes (subscribers t (subs_by seen)) (clients_by (logs_of ls) seen ws)

  pub told-is : told ≡ arrived.ended
  told-is = sym ended-is ∙ publish-ended t m (logs_of ls) seen ws c k.kept

  clients-is : clients_by (posted t m (logs_of ls)) (map (raised (m.number + 1)) (map (closed (is_over deal.ended)) deal.spans)) deal.waiters ≡ arrived.clients
  clients-is =
      ap (λ f. f.clients) (raised-floor (posted t m (logs_of ls)) (map (closed (is_over deal.ended)) deal.spans) deal.waiters c (m.number + 1) kept-so)
      ∙ publish-clients t m (logs_of ls) seen ws c k.kept

  subs-is : subs_by (map (raised (m.number + 1)) (map (closed (is_over deal.ended)) deal.spans)) ≡ still_live arrived.ended (subs_by seen)
  subs-is = subs-raised (m.number + 1) (map (closed (is_over deal.ended)) deal.spans) ∙ publish-subs t m (logs_of ls) seen ws c k.kept

  pub floor-published : floor_of (map (line_without (is_over told)) ps) (map (stopped m.number (is_over told)) us) (waiters_after members ws) c (m.number + 1)
      ≡ record { clients = arrived.clients; subs = still_live arrived.ended (subs_by seen); next_client = c; next_message = m.number + 1 }
  floor-published = rw (logs-is, ← spans-is, ← waiters-is)
      (ap (λ x. record { clients = x; subs = subs_by (map (raised (m.number + 1)) (map (closed (is_over deal.ended)) deal.spans)); next_client = c; next_message = m.number + 1 }) clients-is
      ∙ ap (λ x. record { clients = arrived.clients; subs = x; next_client = c; next_message = m.number + 1 }) subs-is)

-- Nobody listens.

raised-twice : (m n : ℕ) (us : List Span) → map (raised m) (map (raised n) us) ≡ map (raised m) us
raised-twice m n [] = refl
raised-twice m n (u ∷ us) = ap (λ x. x ∷ map (raised m) (map (raised n) us)) (one u.live refl) ∙ ap (λ x. raised m u ∷ x) (raised-twice m n us)
  where
    one : (l : Bool) → u.live ≡ l → raised m (raised n u) ≡ raised m u
    one true e = ap (raised m) (raised-live n u e) ∙ (raised-live m (record u { stop = n }) e ∙ sym (raised-live m u e))
    one false e = ap (raised m) (raised-dead n u e)

module _ (ls : List Line) (us : List Span) (ws : List Waiter) (c n : ℕ) (k : IsLined ls us ws c n) where
  before-more : (l : TopicLog) → list_all (λ x. nat_lt x.number n) l.posts ≡ true → list_all (λ x. nat_lt x.number (n + 1)) l.posts ≡ true
  before-more l all = all-weaker (λ x. nat_lt x.number n) (λ x. nat_lt x.number (n + 1)) (λ x less. grind (arith, nat_tests, less)) l.posts all

  kept-later : IsKept (logs_of ls) (map (raised n) us) ws c (n + 1)
  kept-later = record {
    right = k.kept.right;
    rise = k.kept.rise;
    ids = k.kept.ids;
    own = k.kept.own;
    stops = more-most (λ (u : Span). u.stop) n (map (raised n) us) k.kept.stops;
    starts = more-most (λ (u : Span). u.start) n (map (raised n) us) k.kept.starts;
    above = k.kept.above;
    before = all-weaker (λ l. list_all (λ x. nat_lt x.number n) l.posts) (λ l. list_all (λ x. nat_lt x.number (n + 1)) l.posts) before-more (logs_of ls) k.kept.before;
  }

  pub lined-later : IsLined ls us ws c (n + 1)
  lined-later = record {
    kept = rw (← raised-twice (n + 1) n us) (raised-kept (logs_of ls) (map (raised n) us) ws c (n + 1) kept-later);
    listed = k.listed;
    home = k.home;
    apart = k.apart;
  }

  pub floor-later : floor_of ls us ws c (n + 1) ≡ record { clients = clients_by (logs_of ls) (map (raised n) us) ws; subs = subs_by (map (raised n) us); next_client = c; next_message = n + 1 }
  floor-later = rw (← raised-twice (n + 1) n us) (raised-floor (logs_of ls) (map (raised n) us) ws c (n + 1) kept-later)

  none-subscribe : (t : Topic) (vs : List Span) → members_in t vs ≡ [] → subscribers t (subs_by vs) ≡ []
  none-subscribe t [] none = refl
  none-subscribe t (v ∷ vs) none = step v.live (is_same_topic v.topic t) refl refl (none-subscribe t vs)
    where
      step : (l s : Bool) → v.live ≡ l → is_same_topic v.topic t ≡ s → (members_in t vs ≡ [] → subscribers t (subs_by vs) ≡ []) → subscribers t (subs_by (v ∷ vs)) ≡ []
      step true true a b ih = let some : members_in t (v ∷ vs) ≡ listener v ∷ members_in t vs = grind (arith, a, b) in let no = sym some ∙ none in absurd (cc)
      step true false a b ih = let rest : members_in t vs ≡ [] = grind (arith, a, b, none) in let more = ih rest in grind (arith, a, b, more)
      step false s a b ih = let rest : members_in t vs ≡ [] = grind (arith, a, none) in let more = ih rest in grind (arith, a, more)

  pub nobody-listens : (t : Topic) → members_at t ls ≡ [] → subscribers t (subs_by (map (raised n) us)) ≡ []
  nobody-listens t none = ap (subscribers t) (subs-raised n us) ∙ none-subscribe t us (sym (k.listed t) ∙ none)

pub still-all : (us : List Subscription) → still_live [] us ≡ us
still-all [] = refl
still-all (u ∷ us) = ap (λ m. u ∷ m) (still-all us)
