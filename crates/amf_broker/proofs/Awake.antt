-- Before a moment that no client's silence reaches, no client expires; and whatever is answered, none expires sooner.
use Rattle.std.proofs.Common.{◌≡◌, ℕ, ◌+◌, ◌<◌, ◌≤◌, Bool, true, false, not, List, [], ◌∷◌, ◌++◌, length, get_or, take, refl, sym, ◌∙◌, ap, arith}
use Rattle.std.specs.Prelude.{◌==◌, ◌&&◌, ◌||◌, nat_le, filter, if◌then◌else◌, Option, Some, None}
use Rattle.std.specs.List.{list_all, list_any}
use Rattle.std.proofs.lemmas.Bool.Decides.{nat_tests}
use Rattle.std.proofs.lemmas.List.{take_more}
use Rattle.amf_broker.specs.Limits.{most_idle}
use Rattle.amf_broker.specs.declared.call.Call.{Call}
use Rattle.amf_broker.specs.declared.call.Call.TheVariants.{Connect, Subscribe, Unsubscribe, Publish, Poll, PollNumbered, Disconnect}
use Rattle.amf_broker.specs.declared.reply.Reply.{Reply}
use Rattle.amf_broker.specs.State.{Board, Connection, Subscription}
use Rattle.amf_broker.specs.Machine.{at_client, with_delivery, with_ended, emptied, kept_as, seen_at, new_client, spread, ended_first, is_full, subscribers, served, refusal, unless, reply_on, last_of, same_batch, next_batch, later, is_idle, expired_at, found, without_all, without, sighted, named_by}
use Rattle.amf_broker.specs.Lines.{TopicLog, Span, Waiter, bare, clients_by}
use Rattle.amf_broker.specs.Awake.{is_awake, are_awake}

both : (a b : Bool) → a ≡ true → b ≡ true → (a && b) ≡ true
both a b p q = grind (arith, p, q)

first-of : (a b : Bool) → (a && b) ≡ true → a ≡ true
first-of true b e = refl
first-of false b e = cc

second-of : (a b : Bool) → (a && b) ≡ true → b ≡ true
second-of true b e = e
second-of false b e = cc

pub none-before : (from present : ℕ) (cs : List Connection) → present < from → are_awake from cs ≡ true → list_any (is_idle present) cs ≡ false
none-before from present [] before all = refl
none-before from present (c ∷ cs) before all =
    let here = first-of (is_awake from c) (are_awake from cs) all in
    let ih = none-before from present cs before (second-of (is_awake from c) (are_awake from cs) all) in
    let none : is_idle present c ≡ false = grind (arith, nat_tests, here, before) in
    ap (λ b. b || list_any (is_idle present) cs) none ∙ ih

module _ (from : ℕ) where
  awake-at : (k : ℕ) (g : Connection → Connection) (cs : List Connection) → ((c : Connection) → (g c).seen ≡ c.seen) → are_awake from (at_client k g cs) ≡ are_awake from cs
  awake-at k g [] same = refl
  awake-at k g (c ∷ cs) same = elim (c.id == k) as (λ b. are_awake from (if b then g c ∷ cs else c ∷ at_client k g cs) ≡ are_awake from (c ∷ cs)) [
    | true ↦ ap (λ n. nat_le from (n + most_idle) && are_awake from cs) (same c)
    | false ↦ ap (λ b. is_awake from c && b) (awake-at k g cs same)
  ]

  awake-seen : (k m : ℕ) (cs : List Connection) → from ≤ m + most_idle → are_awake from cs ≡ true → are_awake from (at_client k (seen_at m) cs) ≡ true
  awake-seen k m [] now all = refl
  awake-seen k m (c ∷ cs) now all =
      let here = first-of (is_awake from c) (are_awake from cs) all in
      let rest = second-of (is_awake from c) (are_awake from cs) all in
      let new : nat_le from (m + most_idle) ≡ true = grind (arith, nat_tests, now) in
      elim (c.id == k) as (λ b. are_awake from (if b then seen_at m c ∷ cs else c ∷ at_client k (seen_at m) cs) ≡ true) [
        | true ↦ both (nat_le from (m + most_idle)) (are_awake from cs) new rest
        | false ↦ both (is_awake from c) (are_awake from (at_client k (seen_at m) cs)) here (awake-seen k m cs now rest)
      ]

  awake-filter : (p : Connection → Bool) (cs : List Connection) → are_awake from cs ≡ true → are_awake from (filter p cs) ≡ true
  awake-filter p [] all = refl
  awake-filter p (c ∷ cs) all =
      let here = first-of (is_awake from c) (are_awake from cs) all in
      let ih = awake-filter p cs (second-of (is_awake from c) (are_awake from cs) all) in
      elim (p c) as (λ b. are_awake from (if b then c ∷ filter p cs else filter p cs) ≡ true) [ true ↦ both (is_awake from c) (are_awake from (filter p cs)) here ih | false ↦ ih ]

  awake-new : (id m : ℕ) (cs : List Connection) → from ≤ m + most_idle → are_awake from cs ≡ true → are_awake from (cs ++ (new_client id m ∷ [])) ≡ true
  awake-new id m [] now all = let new : nat_le from (m + most_idle) ≡ true = grind (arith, nat_tests, now) in both (nat_le from (m + most_idle)) true new refl
  awake-new id m (c ∷ cs) now all =
      both (is_awake from c) (are_awake from (cs ++ (new_client id m ∷ []))) (first-of (is_awake from c) (are_awake from cs) all) (awake-new id m cs now (second-of (is_awake from c) (are_awake from cs) all))

  awake-spread : (number : ℕ) (message : List ℕ) (us : List Subscription) (cs : List Connection) → are_awake from (spread number message us cs).clients ≡ are_awake from cs
  awake-spread number message [] cs = refl
  awake-spread number message (u ∷ us) cs = elim (is_full u.client cs)
      as (λ full. are_awake from (if full then ended_first u.id (spread number message us (at_client u.client (with_ended u.id) cs)) else spread number message us (at_client u.client (with_delivery (record { sub = u.id; number = number; message = message })) cs)).clients ≡ are_awake from cs) [
        | true ↦ awake-spread number message us _ ∙ awake-at u.client (with_ended u.id) cs (λ c. refl)
        | false ↦ awake-spread number message us _ ∙ awake-at u.client (with_delivery (record { sub = u.id; number = number; message = message })) cs (λ c. refl)
      ]

  -- what is answered leaves the clients awake, and the moment as it is
  record Stays (b t : Board) : Type 0 where
    awake : are_awake from t.clients ≡ true
    moment : t.moment ≡ b.moment

  stays-served : (b : Board) (c : Call) → from ≤ b.moment + most_idle → are_awake from b.clients ≡ true → Stays b (served b c).1
  stays-served b Connect now all = record { awake = awake-new b.next_client b.moment b.clients now all; moment = refl }
  stays-served b (Subscribe k t) now all = record { awake = all; moment = refl }
  stays-served b (Unsubscribe k sub) now all = record { awake = all; moment = refl }
  stays-served b (Publish k t message) now all = record { awake = awake-spread b.next_message message (subscribers t b.subs) b.clients ∙ all; moment = refl }
  stays-served b (Poll k) now all = record { awake = awake-at k emptied b.clients (λ c. refl) ∙ all; moment = refl }
  stays-served b (PollNumbered k number) now all = elim (number == last_of k b.clients) as (λ again. Stays b (if again then same_batch b k number else next_batch b k number).1) [
    | true ↦ record { awake = all; moment = refl }
    | false ↦ record { awake = awake-at k (kept_as number) b.clients (λ c. refl) ∙ all; moment = refl }
  ]
  stays-served b (Disconnect k) now all = record { awake = awake-filter (λ c. not (c.id == k)) b.clients all; moment = refl }

  stays-unless : (b : Board) (c : Call) (o : Option Reply) → from ≤ b.moment + most_idle → are_awake from b.clients ≡ true → Stays b (unless o b (served b c)).1
  stays-unless b c None now all = stays-served b c now all
  stays-unless b c (Some r) now all = record { awake = all; moment = refl }

  awake-sighted : (b t : Board) (o : Option ℕ) → from ≤ b.moment + most_idle → Stays b t → are_awake from (sighted o t).clients ≡ true
  awake-sighted b t None now s = s.awake
  awake-sighted b t (Some k) now s = let same = s.moment in awake-seen k t.moment t.clients (omega arith) s.awake

  stays-without : (ks : List ℕ) (b : Board) → are_awake from b.clients ≡ true → Stays b (without_all ks b)
  stays-without [] b all = record { awake = all; moment = refl }
  stays-without (k ∷ ks) b all = let s = stays-without ks (without k b) (awake-filter (λ c. not (c.id == k)) b.clients all) in record { awake = s.awake; moment = s.moment }

  later-least : (present moment : ℕ) → present ≤ later present moment
  later-least present moment = grind (arith, nat_tests)

  pub awake-after : (at : ℕ) (b : Board) (c : Call) → from ≤ b.moment + most_idle → are_awake from b.clients ≡ true → are_awake from (sighted (named_by c) (reply_on (found at b) c).1).clients ≡ true
  awake-after at b c now all =
      let s = stays-without (expired_at at b) (record b { moment = later b.moment at }) all in
      let m = s.moment in
      let least = later-least b.moment at in
      let here : from ≤ (found at b).moment + most_idle = omega arith in
      awake-sighted (found at b) _ (named_by c) here (stays-unless (found at b) c (refusal (found at b) c) here s.awake)

  moment-after : (at : ℕ) (b : Board) (c : Call) → (sighted (named_by c) (reply_on (found at b) c).1).moment ≡ later b.moment at
  moment-after at b c = kept (named_by c) (reply_on (found at b) c).1 (moment-of (refusal (found at b) c) c ∙ moment-without (expired_at at b) (record b { moment = later b.moment at }))
    where
      moment-without : (ks : List ℕ) (t : Board) → (without_all ks t).moment ≡ t.moment
      moment-without [] t = refl
      moment-without (k ∷ ks) t = moment-without ks (without k t)

      moment-served : (c : Call) → (served (found at b) c).1.moment ≡ (found at b).moment
      moment-served Connect = refl
      moment-served (Subscribe k t) = refl
      moment-served (Unsubscribe k sub) = refl
      moment-served (Publish k t message) = refl
      moment-served (Poll k) = refl
      moment-served (PollNumbered k number) = elim (number == last_of k (found at b).clients) as (λ again. (if again then same_batch (found at b) k number else next_batch (found at b) k number).1.moment ≡ (found at b).moment) [ true ↦ refl | false ↦ refl ]
      moment-served (Disconnect k) = refl

      moment-of : (o : Option Reply) (c : Call) → (unless o (found at b) (served (found at b) c)).1.moment ≡ (found at b).moment
      moment-of None c = moment-served c
      moment-of (Some r) c = refl

      kept : (o : Option ℕ) (t : Board) → t.moment ≡ later b.moment at → (sighted o t).moment ≡ later b.moment at
      kept None t is = is
      kept (Some k) t is = is

  pub bound-after : (at : ℕ) (b : Board) (c : Call) → from ≤ b.moment + most_idle → from ≤ (sighted (named_by c) (reply_on (found at b) c).1).moment + most_idle
  bound-after at b c now = let m = moment-after at b c in let least = later-least b.moment at in omega arith

-- Mailboxes.

pub all-awake : (from : ℕ) (logs : List TopicLog) (us : List Span) (ws : List Waiter) → list_all (λ w. is_awake from (bare w)) ws ≡ are_awake from (clients_by logs us ws)
all-awake from logs us [] = refl
all-awake from logs us (w ∷ ws) = ap (λ b. nat_le from (w.seen + most_idle) && b) (all-awake from logs us ws)

-- an earlier moment, and one client more
awake-weaker : (from until : ℕ) → until ≤ from → (ws : List Waiter) → list_all (λ w. is_awake from (bare w)) ws ≡ true → list_all (λ w. is_awake until (bare w)) ws ≡ true
awake-weaker from until less [] all = refl
awake-weaker from until less (w ∷ ws) all =
    let here = first-of (is_awake from (bare w)) (list_all (λ w. is_awake from (bare w)) ws) all in
    let now : nat_le until (w.seen + most_idle) ≡ true = grind (arith, nat_tests, here, less) in
    both (nat_le until (w.seen + most_idle)) (list_all (λ w. is_awake until (bare w)) ws) now (awake-weaker from until less ws (second-of (is_awake from (bare w)) (list_all (λ w. is_awake from (bare w)) ws) all))

awake-more : (until : ℕ) (ws : List Waiter) (w : Waiter) → list_all (λ x. is_awake until (bare x)) ws ≡ true → nat_le until (w.seen + most_idle) ≡ true → list_all (λ x. is_awake until (bare x)) (ws ++ (w ∷ [])) ≡ true
awake-more until [] w all here = both (nat_le until (w.seen + most_idle)) true here refl
awake-more until (x ∷ ws) w all here =
    both (nat_le until (x.seen + most_idle)) (list_all (λ x. is_awake until (bare x)) (ws ++ (w ∷ []))) (first-of (is_awake until (bare x)) (list_all (λ x. is_awake until (bare x)) ws) all)
    (awake-more until ws w (second-of (is_awake until (bare x)) (list_all (λ x. is_awake until (bare x)) ws) all) here)

pub awake-next : (from until : ℕ) (ws : List Waiter) (i : ℕ) (w : Waiter) → i < length ws → w ≡ get_or ws i w → until ≤ from → nat_le until (w.seen + most_idle) ≡ true
    → list_all (λ x. is_awake from (bare x)) (take i ws) ≡ true → list_all (λ x. is_awake until (bare x)) (take (i + 1) ws) ≡ true
awake-next from until ws i w less is sooner now all =
    let more = take_more ws i w less ∙ ap (λ x. take i ws ++ (x ∷ [])) (sym is) in
    ap (list_all (λ x. is_awake until (bare x))) more ∙ awake-more until (take i ws) w (awake-weaker from until sooner (take i ws) all) now
