-- A subscription begins: it has a place, and is a member of the line of its topic.
use Rattle.std.proofs.Common.{◌≡◌, ℕ, ◌<◌, Bool, true, false, not, List, [], ◌∷◌, ◌++◌, refl, sym, ◌∙◌, ap, arith}
use Rattle.std.specs.Prelude.{◌==◌, ◌||◌, nat_lt, filter, map, if◌then◌else◌}
use Rattle.std.specs.List.{list_all, list_any}
use Rattle.std.proofs.lemmas.Bool.Decides.{nat_tests}
use Rattle.std.proofs.lemmas.List.{append-nil}
use Rattle.amf_broker.specs.declared.topic.Topic.{Topic}
use Rattle.amf_broker.specs.Machine.{is_same_topic}
use Rattle.amf_broker.specs.Moments.{stays}
use Rattle.amf_broker.specs.Lines.{TopicLog, Span, Waiter, floor, IsKept, posts_of, posts_before, is_covered, delivered, covered, spans_of, gathered, put_all, waits, clients_by, subs_by, is_above, is_reached_by}
use Rattle.amf_broker.specs.Members.{Line, Listener, logs_of, is_present, listener, members_in, members_at, are_apart, is_at_home, raised, IsLined, floor_of, with_member, enlisted, line_left, lines_left}
use Rattle.amf_broker.proofs.Posts.{same-topic, same-self}
use Rattle.amf_broker.proofs.Floors.{all-append, all-weaker, counts-as, new_span, begun-kept, begun-floor}
use Rattle.amf_broker.proofs.Publishes.{clients-logs}
use Rattle.amf_broker.proofs.Seats.{members-begun}
use Rattle.amf_broker.proofs.Firsts.{at_first}

-- Logs with the same messages.

module _ (logs vogs : List TopicLog) (same : (t : Topic) → posts_of t vogs ≡ posts_of t logs) where
  covered-same : (u : Span) → covered vogs u ≡ covered logs u
  covered-same u = ap (λ ms. map (delivered u.id) (filter (is_covered u.start u.stop) ms)) (same u.topic)

  gathered-same : (us : List Span) → gathered vogs us ≡ gathered logs us
  gathered-same [] = refl
  gathered-same (u ∷ us) = ap (λ m. m ++ gathered vogs us) (covered-same u) ∙ ap (λ m. covered logs u ++ m) (gathered-same us)

  pub waits-same : (us : List Span) (k : ℕ) → waits vogs us k ≡ waits logs us k
  waits-same us k = ap (λ m. put_all m []) (gathered-same (spans_of k us))

  above-same : (u : Span) → is_above logs u ≡ true → is_above vogs u ≡ true
  above-same u holds = ap (λ ms. not u.live || list_all (λ m. nat_lt m.number u.stop) ms) (same u.topic) ∙ holds

  pub same-kept : (us : List Span) (ws : List Waiter) (c n : ℕ) → posts_before n vogs ≡ true → IsKept logs us ws c n → IsKept vogs us ws c n
  same-kept us ws c n before k = record {
    right = counts-as logs vogs us us ws (waits-same us) k.right;
    rise = k.rise;
    ids = k.ids;
    own = k.own;
    stops = k.stops;
    starts = k.starts;
    above = all-weaker (is_above logs) (is_above vogs) above-same us k.above;
    before = before;
  }

  pub same-floor : (us : List Span) (ws : List Waiter) (c n : ℕ) → floor vogs us ws c n ≡ floor logs us ws c n
  same-floor us ws c n = ap (λ x. record { clients = x; subs = subs_by us; next_client = c; next_message = n }) (clients-logs logs vogs us ws (waits-same us))

-- Topics.

topic-back : (s t : Topic) → is_same_topic s t ≡ true → is_same_topic t s ≡ true
topic-back s t e = let same = same-topic s t e in rw same (same-self t)

pub topic-other : (s t : Topic) (b : Bool) → is_same_topic s t ≡ b → is_same_topic t s ≡ b
topic-other s t true e = topic-back s t e
topic-other s t false e = step (is_same_topic t s) refl
  where
    step : (b : Bool) → is_same_topic t s ≡ b → is_same_topic t s ≡ false
    step true is = let no : true ≡ false = sym (topic-back t s is) ∙ e in absurd (cc)
    step false is = is

either-same : {A : Type 0} (b : Bool) (x : A) → (if b then x else x) ≡ x
either-same true x = refl
either-same false x = refl

-- The lines.

module _ (t : Topic) (m : Listener) where
  pub enlisted-found : (ls : List Line) → list_any (λ l. is_same_topic t l.topic) ls ≡ true → at_first (λ l. is_same_topic t l.topic) (with_member m) ls ≡ enlisted t m ls
  enlisted-found [] here = cc
  enlisted-found (l ∷ ls) here = step (is_same_topic t l.topic) refl (enlisted-found ls)
    where
      step : (b : Bool) → is_same_topic t l.topic ≡ b → (list_any (λ l. is_same_topic t l.topic) ls ≡ true → at_first (λ l. is_same_topic t l.topic) (with_member m) ls ≡ enlisted t m ls)
          → (if b then with_member m l ∷ ls else l ∷ at_first (λ l. is_same_topic t l.topic) (with_member m) ls) ≡ (if b then with_member m l ∷ ls else l ∷ enlisted t m ls)
      step true e ih = refl
      step false e ih = let more : list_any (λ (l : Line). is_same_topic t l.topic) ls ≡ true = grind (arith, e, here) in ap (λ x. l ∷ x) (ih more)

  pub enlisted-new : (ls : List Line) → list_any (λ l. is_same_topic t l.topic) ls ≡ false → ls ++ (record { topic = t; posts = []; members = m ∷ [] } ∷ []) ≡ enlisted t m ls
  enlisted-new [] none = refl
  enlisted-new (l ∷ ls) none = step (is_same_topic t l.topic) refl (enlisted-new ls)
    where
      step : (b : Bool) → is_same_topic t l.topic ≡ b → (list_any (λ l. is_same_topic t l.topic) ls ≡ false → ls ++ (record { topic = t; posts = []; members = m ∷ [] } ∷ []) ≡ enlisted t m ls)
          → l ∷ (ls ++ (record { topic = t; posts = []; members = m ∷ [] } ∷ [])) ≡ (if b then with_member m l ∷ ls else l ∷ enlisted t m ls)
      step true e ih = let no : true ≡ false = grind (arith, e, none) in absurd (cc)
      step false e ih = let more : list_any (λ (l : Line). is_same_topic t l.topic) ls ≡ false = grind (arith, e, none) in ap (λ x. l ∷ x) (ih more)

  at-own : (ls : List Line) → members_at t (enlisted t m ls) ≡ members_at t ls ++ (m ∷ [])
  at-own [] = ap (λ b. if b then m ∷ [] else []) (same-self t)
  at-own (l ∷ ls) = step (is_same_topic t l.topic) refl (at-own ls)
    where
      step : (b : Bool) → is_same_topic t l.topic ≡ b → members_at t (enlisted t m ls) ≡ members_at t ls ++ (m ∷ []) → members_at t (if b then with_member m l ∷ ls else l ∷ enlisted t m ls) ≡ (if b then l.members else members_at t ls) ++ (m ∷ [])
      step true e ih = ap (λ b. if b then l.members ++ (m ∷ []) else members_at t ls) e
      step false e ih = ap (λ b. if b then l.members else members_at t (enlisted t m ls)) e ∙ ih

  at-other : (s : Topic) → is_same_topic s t ≡ false → (ls : List Line) → members_at s (enlisted t m ls) ≡ members_at s ls
  at-other s other [] = ap (λ b. if b then m ∷ [] else []) other
  at-other s other (l ∷ ls) = step (is_same_topic t l.topic) refl (at-other s other ls)
    where
      step : (b : Bool) → is_same_topic t l.topic ≡ b → members_at s (enlisted t m ls) ≡ members_at s ls → members_at s (if b then with_member m l ∷ ls else l ∷ enlisted t m ls) ≡ members_at s (l ∷ ls)
      step true e ih =
          let not-here : is_same_topic s l.topic ≡ false = ap (is_same_topic s) (sym (same-topic t l.topic e)) ∙ other in
          ap (λ b. if b then l.members ++ (m ∷ []) else members_at s ls) not-here ∙ sym (ap (λ b. if b then l.members else members_at s ls) not-here)
      step false e ih = ap (λ x. if is_same_topic s l.topic then l.members else x) ih

  pub posts-enlisted : (ls : List Line) (s : Topic) → posts_of s (logs_of (enlisted t m ls)) ≡ posts_of s (logs_of ls)
  posts-enlisted [] s = either-same (is_same_topic s t) []
  posts-enlisted (l ∷ ls) s = step (is_same_topic t l.topic) (posts-enlisted ls s)
    where
      step : (b : Bool) → posts_of s (logs_of (enlisted t m ls)) ≡ posts_of s (logs_of ls) → posts_of s (logs_of (if b then with_member m l ∷ ls else l ∷ enlisted t m ls)) ≡ posts_of s (logs_of (l ∷ ls))
      step true ih = refl
      step false ih = ap (λ x. if is_same_topic s l.topic then l.posts else x) ih

  pub before-enlisted : (n : ℕ) (ls : List Line) → posts_before n (logs_of ls) ≡ true → posts_before n (logs_of (enlisted t m ls)) ≡ true
  before-enlisted n [] all = refl
  before-enlisted n (l ∷ ls) all =
      let here : list_all (λ x. nat_lt x.number n) l.posts ≡ true = grind (arith, all) in
      let rest : posts_before n (logs_of ls) ≡ true = grind (arith, all) in
      step (is_same_topic t l.topic) here rest (before-enlisted n ls rest)
    where
      step : (b : Bool) → list_all (λ x. nat_lt x.number n) l.posts ≡ true → posts_before n (logs_of ls) ≡ true → posts_before n (logs_of (enlisted t m ls)) ≡ true → posts_before n (logs_of (if b then with_member m l ∷ ls else l ∷ enlisted t m ls)) ≡ true
      step true here rest ih = grind (arith, here, rest)
      step false here rest ih = grind (arith, here, ih)

  any-enlisted : (s : Topic) (ls : List Line) → list_any (λ x. is_same_topic s x.topic) (enlisted t m ls) ≡ (list_any (λ x. is_same_topic s x.topic) ls || is_same_topic s t)
  any-enlisted s [] = elim (is_same_topic s t) as (λ b. (b || false) ≡ (false || b)) [ true ↦ refl | false ↦ refl ]
  any-enlisted s (l ∷ ls) = step (is_same_topic t l.topic) refl (any-enlisted s ls)
    where
      step : (b : Bool) → is_same_topic t l.topic ≡ b → list_any (λ x. is_same_topic s x.topic) (enlisted t m ls) ≡ (list_any (λ x. is_same_topic s x.topic) ls || is_same_topic s t)
          → list_any (λ x. is_same_topic s x.topic) (if b then with_member m l ∷ ls else l ∷ enlisted t m ls) ≡ (list_any (λ x. is_same_topic s x.topic) (l ∷ ls) || is_same_topic s t)
      step true e ih = let same = ap (is_same_topic s) (same-topic t l.topic e) in grind (arith, same)
      step false e ih = grind (arith, ih)

  pub apart-enlisted : (ls : List Line) → are_apart ls ≡ true → are_apart (enlisted t m ls) ≡ true
  apart-enlisted [] apart = refl
  apart-enlisted (l ∷ ls) apart =
      let first : list_any (λ (x : Line). is_same_topic l.topic x.topic) ls ≡ false = grind (arith, apart) in
      let rest : are_apart ls ≡ true = grind (arith, apart) in
      step (is_same_topic t l.topic) refl first rest (apart-enlisted ls rest)
    where
      step : (b : Bool) → is_same_topic t l.topic ≡ b → list_any (λ x. is_same_topic l.topic x.topic) ls ≡ false → are_apart ls ≡ true → are_apart (enlisted t m ls) ≡ true → are_apart (if b then with_member m l ∷ ls else l ∷ enlisted t m ls) ≡ true
      step true e first rest ih = grind (arith, first, rest)
      step false e first rest ih =
          let other : is_same_topic l.topic t ≡ false = topic-other t l.topic false e in
          let none = any-enlisted l.topic ls in
          grind (arith, first, ih, other, none)

-- others have left before it is put there
pub enlisted-left : (t : Topic) (m : Listener) (ks : List ℕ) (ls : List Line) → stays ks m.client ≡ true → lines_left ks (enlisted t m ls) ≡ enlisted t m (lines_left ks ls)
enlisted-left t m ks [] stay = ap (λ b. record { topic = t; posts = []; members = if b then m ∷ [] else [] } ∷ []) stay
enlisted-left t m ks (l ∷ ls) stay = step (is_same_topic t l.topic) (enlisted-left t m ks ls stay)
  where
    more : (ms : List Listener) → filter (λ m. stays ks m.client) (ms ++ (m ∷ [])) ≡ filter (λ m. stays ks m.client) ms ++ (m ∷ [])
    more [] = ap (λ b. if b then m ∷ [] else []) stay
    more (x ∷ ms) = elim (stays ks x.client) as (λ b. (if b then x ∷ filter (λ m. stays ks m.client) (ms ++ (m ∷ [])) else filter (λ m. stays ks m.client) (ms ++ (m ∷ []))) ≡ (if b then x ∷ filter (λ m. stays ks m.client) ms else filter (λ m. stays ks m.client) ms) ++ (m ∷ [])) [
      | true ↦ ap (λ y. x ∷ y) (more ms)
      | false ↦ more ms
    ]

    step : (b : Bool) → lines_left ks (enlisted t m ls) ≡ enlisted t m (lines_left ks ls)
        → lines_left ks (if b then with_member m l ∷ ls else l ∷ enlisted t m ls) ≡ (if b then with_member m (line_left ks l) ∷ lines_left ks ls else line_left ks l ∷ enlisted t m (lines_left ks ls))
    step true ih = ap (λ x. record { topic = l.topic; posts = l.posts; members = x } ∷ lines_left ks ls) (more l.members)
    step false ih = ap (λ x. line_left ks l ∷ x) ih

-- What is so between calls.

present-below : (k c : ℕ) (ws : List Waiter) → is_present k ws ≡ true → list_all (λ w. nat_lt w.id c) ws ≡ true → k < c
present-below k c [] here all = cc
present-below k c (w ∷ ws) here all = step (w.id == k) refl (present-below k c ws)
  where
    step : (b : Bool) → (w.id == k) ≡ b → (is_present k ws ≡ true → list_all (λ w. nat_lt w.id c) ws ≡ true → k < c) → k < c
    step true e ih = grind (arith, nat_tests, e, all)
    step false e ih =
        let more : is_present k ws ≡ true = grind (arith, e, here) in
        let rest : list_all (λ w. nat_lt w.id c) ws ≡ true = grind (arith, all) in
        ih more rest

module _ (ls : List Line) (us : List Span) (ws : List Waiter) (c n : ℕ) (k : IsLined ls us ws c n) (id client : ℕ) (t : Topic) (here : is_present client ws ≡ true) where
  abbrev new : Span
  new = new_span id client t n

  abbrev joining : Listener
  joining = record { sub = id; client = client }

  raised-all : map (raised n) (us ++ (new ∷ [])) ≡ map (raised n) us ++ (new ∷ [])
  raised-all = more us
    where
      more : (xs : List Span) → map (raised n) (xs ++ (new ∷ [])) ≡ map (raised n) xs ++ (new ∷ [])
      more [] = refl
      more (x ∷ xs) = ap (λ m. raised n x ∷ m) (more xs)

  listed-all : (s : Topic) → members_at s (enlisted t joining ls) ≡ members_in s (us ++ (new ∷ []))
  listed-all s = step (is_same_topic s t) refl ∙ sym (members-begun s us new)
    where
      step : (b : Bool) → is_same_topic s t ≡ b → members_at s (enlisted t joining ls) ≡ members_in s us ++ (if is_reached_by s new then listener new ∷ [] else [])
      step true e =
          let same = same-topic s t e in
          let back : is_same_topic t s ≡ true = topic-other s t true e in
          ap (λ x. members_at x (enlisted t joining ls)) same
          ∙ (at-own t joining ls ∙ (ap (λ x. x ++ (joining ∷ [])) (k.listed t) ∙ (ap (λ x. members_in x us ++ (joining ∷ [])) (sym same) ∙ sym (ap (λ b. members_in s us ++ (if b then listener new ∷ [] else [])) back))))
      step false e =
          let back : is_same_topic t s ≡ false = topic-other s t false e in
          at-other t joining s e ls
          ∙ (k.listed s ∙ (sym (append-nil (members_in s us)) ∙ sym (ap (λ b. members_in s us ++ (if b then listener new ∷ [] else [])) back)))

  pub lined-begun : IsLined (enlisted t joining ls) (us ++ (new ∷ [])) ws c n
  lined-begun = record {
    kept = rw raised-all (same-kept (logs_of ls) (logs_of (enlisted t joining ls)) (posts-enlisted t joining ls) (map (raised n) us ++ (new ∷ [])) ws c n (before-enlisted t joining n ls k.kept.before)
        (begun-kept (logs_of ls) (map (raised n) us) ws c n id client t k.kept (present-below client c ws here k.kept.ids)));
    listed = listed-all;
    home = all-append (is_at_home ws) us (new ∷ []) k.home (grind (arith, here));
    apart = apart-enlisted t joining ls k.apart;
  }

  pub floor-begun : floor_of (enlisted t joining ls) (us ++ (new ∷ [])) ws c n
      ≡ record { clients = clients_by (logs_of ls) (map (raised n) us) ws; subs = subs_by (map (raised n) us) ++ (record { id = id; client = client; topic = t } ∷ []); next_client = c; next_message = n }
  floor-begun = rw raised-all (same-floor (logs_of ls) (logs_of (enlisted t joining ls)) (posts-enlisted t joining ls) (map (raised n) us ++ (new ∷ [])) ws c n ∙ begun-floor (logs_of ls) (map (raised n) us) ws c n id client t)
