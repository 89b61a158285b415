-- Clients that leave one after another, each by what is noted of it.
use Rattle.std.proofs.Common.{◌≡◌, ℕ, zero, suc, ◌+◌, ◌<◌, Bool, true, false, not, List, [], ◌∷◌, length, get_or, take, drop, refl, sym, ◌∙◌, ap, arith}
use Rattle.std.specs.Prelude.{◌==◌, ◌&&◌, ◌||◌, nat_lt, filter, map, if◌then◌else◌}
use Rattle.std.specs.List.{list_all, list_any}
use Rattle.std.proofs.lemmas.Bool.Decides.{nat_tests}
use Rattle.std.proofs.lemmas.List.{drop_more}
use Rattle.std.proofs.lemmas.List.Folds.{list_any_more}
use Rattle.amf_broker.specs.declared.slot.Slot.{Slot}
use Rattle.amf_broker.specs.declared.topic.Topic.{Topic}
use Rattle.amf_broker.specs.Machine.{is_same_topic}
use Rattle.amf_broker.specs.Moments.{stays}
use Rattle.amf_broker.specs.Lines.{Span, is_reached_by, spans_of, spans_left}
use Rattle.amf_broker.specs.Members.{Line, Listener, members_in, members_at, are_apart, line_changed, line_left, lines_left, line_parted}
use Rattle.amf_broker.specs.Slots.{IsFound, standing, kept_if, is_own, is_own_at, own_of, hushed, is_heard_by, nothing, positions}
use Rattle.amf_broker.proofs.Posts.{same-topic, same-self}
use Rattle.amf_broker.proofs.Enlists.{topic-other}
use Rattle.amf_broker.proofs.Published.{none-at}
use Rattle.amf_broker.proofs.Lined.{apart-map, map-as}
use Rattle.amf_broker.proofs.Seats.{at-left, members-left}
use Rattle.amf_broker.proofs.Slots.{kept-if, found-map, less-if, at-any, own-all, map-two}

-- the places of others stay
pub part-idle : (k : ℕ) (s : Slot) → is_own k s ≡ false → kept_if (λ u. not (u.client == k)) s ≡ s
part-idle k s other = ap (λ b. record { place = s.place; kept = b }) (step s.kept other)
  where
    step : (b : Bool) → (b && s.place.client == k) ≡ false → (b && not (s.place.client == k)) ≡ b
    step true e = ap not e
    step false e = refl

-- none is the client's any more
none-own : (k j : ℕ) → (k == j) ≡ true → (n : ℕ) (ss : List Slot) → positions (is_own j) n (map (kept_if (λ u. not (u.client == k))) ss) ≡ []
none-own k j same n [] = refl
none-own k j same n (s ∷ ss) =
    let rest = positions (is_own j) (n + 1) (map (kept_if (λ u. not (u.client == k))) ss) in
    ap (λ b. if b then n ∷ rest else rest) (step s.kept) ∙ none-own k j same (n + 1) ss
  where
    gone : (not (s.place.client == k) && s.place.client == j) ≡ false
    gone = grind (arith, nat_tests, same)

    step : (b : Bool) → ((b && not (s.place.client == k)) && s.place.client == j) ≡ false
    step true = gone
    step false = refl

pub found-parted : (k j : ℕ) (is js : List ℕ) (ss : List Slot) → js ≡ (if k == j then [] else is) → IsFound j is ss → IsFound j js (map (kept_if (λ u. not (u.client == k))) ss)
found-parted k j is js ss noted found = step (k == j) refl noted
  where
    step : (b : Bool) → (k == j) ≡ b → js ≡ (if b then [] else is) → IsFound j js (map (kept_if (λ u. not (u.client == k))) ss)
    step true e at = rw at (record { within = refl; own = sym (none-own k j e 0 ss) })
    step false e at = rw at (found-map j (kept_if (λ u. not (u.client == k))) (less-if j (λ u. not (u.client == k))) is ss found)

-- One client more leaves.

pub filter-two : {A : Type 0} (p q r : A → Bool) → ((x : A) → r x ≡ (p x && q x)) → (xs : List A) → filter q (filter p xs) ≡ filter r xs
filter-two p q r is [] = refl
filter-two p q r is (x ∷ xs) = step (p x) refl (q x) refl (filter-two p q r is xs)
  where
    step : (a : Bool) → p x ≡ a → (b : Bool) → q x ≡ b → filter q (filter p xs) ≡ filter r xs → filter q (if p x then x ∷ filter p xs else filter p xs) ≡ (if r x then x ∷ filter r xs else filter r xs)
    step true e true f ih =
        ap (λ h. filter q (if h then x ∷ filter p xs else filter p xs)) e
        ∙ (ap (λ h. if h then x ∷ filter q (filter p xs) else filter q (filter p xs)) f ∙ (ap (λ m. x ∷ m) ih ∙ sym (ap (λ h. if h then x ∷ filter r xs else filter r xs) (is x ∙ (ap (λ h. h && q x) e ∙ f)))))
    step true e false f ih =
        ap (λ h. filter q (if h then x ∷ filter p xs else filter p xs)) e
        ∙ (ap (λ h. if h then x ∷ filter q (filter p xs) else filter q (filter p xs)) f ∙ (ih ∙ sym (ap (λ h. if h then x ∷ filter r xs else filter r xs) (is x ∙ (ap (λ h. h && q x) e ∙ f)))))
    step false e b f ih =
        ap (λ h. filter q (if h then x ∷ filter p xs else filter p xs)) e
        ∙ (ih ∙ sym (ap (λ h. if h then x ∷ filter r xs else filter r xs) (is x ∙ ap (λ h. h && q x) e)))

not-or : (a b : Bool) → not (a || b) ≡ (not a && not b)
not-or true b = refl
not-or false b = refl

equal-back : (a b : ℕ) → (a == b) ≡ (b == a)
equal-back a b = grind (arith, nat_tests)

stays-more : (ks : List ℕ) (i d : ℕ) → i < length ks → (x : ℕ) → stays (take (i + 1) ks) x ≡ (stays (take i ks) x && not (x == get_or ks i d))
stays-more ks i d less x =
    ap not (list_any_more (λ id. id == x) ks i d less)
    ∙ (not-or (list_any (λ id. id == x) (take i ks)) (get_or ks i d == x) ∙ ap (λ b. stays (take i ks) x && not b) (equal-back (get_or ks i d) x))

pub spans-next : (ks : List ℕ) (i d : ℕ) (us : List Span) (now new : List Slot) → i < length ks → standing now ≡ spans_left (take i ks) us → new ≡ map (kept_if (λ u. not (u.client == get_or ks i d))) now
    → standing new ≡ spans_left (take (i + 1) ks) us
spans-next ks i d us now new less before is =
    ap standing is
    ∙ (kept-if (λ u. not (u.client == get_or ks i d)) now
    ∙ (ap (filter (λ (u : Span). not (u.client == get_or ks i d))) before
    ∙ filter-two (λ u. stays (take i ks) u.client) (λ u. not (u.client == get_or ks i d)) (λ u. stays (take (i + 1) ks) u.client) (λ u. stays-more ks i d less u.client) us))

pub lines-next : (ks : List ℕ) (i d : ℕ) (ls now new : List Line) → i < length ks → now ≡ lines_left (take i ks) ls → new ≡ map (line_parted (get_or ks i d)) now → new ≡ lines_left (take (i + 1) ks) ls
lines-next ks i d ls now new less before is =
    is
    ∙ (ap (map (line_parted (get_or ks i d))) before
    ∙ (map-two (line_left (take i ks)) (line_parted (get_or ks i d)) ls
    ∙ map-as (λ l. line_parted (get_or ks i d) (line_left (take i ks) l)) (line_left (take (i + 1) ks))
    (λ l. ap (λ ms. record { topic = l.topic; posts = l.posts; members = ms })
    (filter-two (λ m. stays (take i ks) m.client) (λ m. not (m.client == get_or ks i d)) (λ m. stays (take (i + 1) ks) m.client) (λ m. stays-more ks i d less m.client) l.members)) ls))

-- those that are left listen to their topics still
pub listed-left : (ks : List ℕ) (us vs : List Span) (ls now : List Line) → ((t : Topic) → members_at t ls ≡ members_in t us) → vs ≡ spans_left ks us → now ≡ lines_left ks ls → (t : Topic) → members_at t now ≡ members_in t vs
listed-left ks us vs ls now listed places lines t =
    ap (members_at t) lines
    ∙ (at-left t ks ls ∙ (ap (filter (λ (m : Listener). stays ks m.client)) (listed t) ∙ (sym (members-left t ks us) ∙ ap (members_in t) (sym places))))

pub apart-left : (ks : List ℕ) (ls now : List Line) → are_apart ls ≡ true → now ≡ lines_left ks ls → are_apart now ≡ true
apart-left ks ls now apart lines = ap are_apart lines ∙ (apart-map (line_left ks) (λ l. refl) ls ∙ apart)

-- A line of the topic is changed.

module _ (t : Topic) (f : Line → Line) (same : (l : Line) → (f l).topic ≡ l.topic) where
  any-changed : (r : Topic) (ls : List Line) → list_any (λ x. is_same_topic r x.topic) (line_changed t f ls) ≡ list_any (λ x. is_same_topic r x.topic) ls
  any-changed r [] = refl
  any-changed r (l ∷ ls) = step (is_same_topic t l.topic) (any-changed r ls)
    where
      step : (b : Bool) → list_any (λ x. is_same_topic r x.topic) (line_changed t f ls) ≡ list_any (λ x. is_same_topic r x.topic) ls
          → list_any (λ x. is_same_topic r x.topic) (if b then f l ∷ ls else l ∷ line_changed t f ls) ≡ (is_same_topic r l.topic || list_any (λ x. is_same_topic r x.topic) ls)
      step true ih = ap (λ s. is_same_topic r s || list_any (λ (x : Line). is_same_topic r x.topic) ls) (same l)
      step false ih = ap (λ b. is_same_topic r l.topic || b) ih

  apart-changed : (ls : List Line) → are_apart (line_changed t f ls) ≡ are_apart ls
  apart-changed [] = refl
  apart-changed (l ∷ ls) = step (is_same_topic t l.topic) (apart-changed ls)
    where
      step : (b : Bool) → are_apart (line_changed t f ls) ≡ are_apart ls → are_apart (if b then f l ∷ ls else l ∷ line_changed t f ls) ≡ (not (list_any (λ x. is_same_topic l.topic x.topic) ls) && are_apart ls)
      step true ih = ap (λ s. not (list_any (λ (x : Line). is_same_topic s x.topic) ls) && are_apart ls) (same l)
      step false ih =
          ap (λ b. not b && are_apart (line_changed t f ls)) (any-changed l.topic ls) ∙ ap (λ b. not (list_any (λ (x : Line). is_same_topic l.topic x.topic) ls) && b) ih

  twice-changed : ((l : Line) → f (f l) ≡ f l) → (ls : List Line) → map f (line_changed t f ls) ≡ map f ls
  twice-changed twice [] = refl
  twice-changed twice (l ∷ ls) = step (is_same_topic t l.topic) (twice-changed twice ls)
    where
      step : (b : Bool) → map f (line_changed t f ls) ≡ map f ls → map f (if b then f l ∷ ls else l ∷ line_changed t f ls) ≡ f l ∷ map f ls
      step true ih = ap (λ x. x ∷ map f ls) (twice l)
      step false ih = ap (λ m. f l ∷ m) ih

-- The subscriptions of a client, one after another, listen no more.

both-true : (a b : Bool) → a ≡ true → b ≡ true → (a && b) ≡ true
both-true true b p q = q
both-true false b p q = cc

first-true : (a b : Bool) → (a && b) ≡ true → a ≡ true
first-true true b e = refl
first-true false b e = cc

second-true : (a b : Bool) → (a && b) ≡ true → b ≡ true
second-true true b e = e
second-true false b e = cc

not-false : (b : Bool) → not b ≡ true → b ≡ false
not-false true e = cc
not-false false e = refl

apart-first : (l : Line) (ls : List Line) → are_apart (l ∷ ls) ≡ true → list_any (λ x. is_same_topic l.topic x.topic) ls ≡ false
apart-first l ls apart = not-false (list_any (λ (x : Line). is_same_topic l.topic x.topic) ls) (first-true (not (list_any (λ (x : Line). is_same_topic l.topic x.topic) ls)) (are_apart ls) apart)

apart-rest : (l : Line) (ls : List Line) → are_apart (l ∷ ls) ≡ true → are_apart ls ≡ true
apart-rest l ls apart = second-true (not (list_any (λ (x : Line). is_same_topic l.topic x.topic) ls)) (are_apart ls) apart

or-true : (a b : Bool) → b ≡ true → (a || b) ≡ true
or-true true b e = refl
or-true false b e = e

and-same : (b : Bool) → b ≡ (b && b)
and-same true = refl
and-same false = refl

module _ (k : ℕ) where
  -- each of the client's members is there only if this is so
  abbrev all_other : Bool → List Listener → Bool
  all_other b ms = list_all (λ m. not (m.client == k) || b) ms

  parted-twice : (l : Line) → line_parted k (line_parted k l) ≡ line_parted k l
  parted-twice l = ap (λ ms. record { topic = l.topic; posts = l.posts; members = ms }) (filter-two (λ (m : Listener). not (m.client == k)) (λ m. not (m.client == k)) (λ m. not (m.client == k)) (λ m. and-same (not (m.client == k))) l.members)

  other-parted : (b : Bool) (ms : List Listener) → all_other b (filter (λ m. not (m.client == k)) ms) ≡ true
  other-parted b [] = refl
  other-parted b (m ∷ ms) = step (m.client == k) refl (other-parted b ms)
    where
      step : (h : Bool) → (m.client == k) ≡ h → all_other b (filter (λ m. not (m.client == k)) ms) ≡ true → all_other b (filter (λ m. not (m.client == k)) (m ∷ ms)) ≡ true
      step true e ih = ap (λ h. all_other b (if not h then m ∷ filter (λ m. not (m.client == k)) ms else filter (λ m. not (m.client == k)) ms)) e ∙ ih
      step false e ih =
          ap (λ h. all_other b (if not h then m ∷ filter (λ m. not (m.client == k)) ms else filter (λ m. not (m.client == k)) ms)) e
          ∙ (ap (λ h. (not h || b) && all_other b (filter (λ m. not (m.client == k)) ms)) e ∙ ih)

  other-more : (b c : Bool) → (b ≡ true → c ≡ true) → (ms : List Listener) → all_other b ms ≡ true → all_other c ms ≡ true
  other-more b c more [] all = refl
  other-more b c more (m ∷ ms) all =
      both-true (not (m.client == k) || c) (all_other c ms) (one (not (m.client == k)) (first-true (not (m.client == k) || b) (all_other b ms) all))
      (other-more b c more ms (second-true (not (m.client == k) || b) (all_other b ms) all))
    where
      one : (h : Bool) → (h || b) ≡ true → (h || c) ≡ true
      one true e = refl
      one false e = more e

  other-none : (ms : List Listener) → all_other false ms ≡ true → filter (λ m. not (m.client == k)) ms ≡ ms
  other-none [] all = refl
  other-none (m ∷ ms) all = step (not (m.client == k)) (first-true (not (m.client == k) || false) (all_other false ms) all) (other-none ms (second-true (not (m.client == k) || false) (all_other false ms) all))
    where
      step : (h : Bool) → (h || false) ≡ true → filter (λ m. not (m.client == k)) ms ≡ ms → (if h then m ∷ filter (λ m. not (m.client == k)) ms else filter (λ m. not (m.client == k)) ms) ≡ m ∷ ms
      step true e ih = ap (λ x. m ∷ x) ih
      step false e ih = cc

  -- the members of a topic, once those of one topic have parted
  at-parted : (t r : Topic) (b : Bool) → is_same_topic r t ≡ b → (ls : List Line) → members_at r (line_changed t (line_parted k) ls) ≡ (if b then filter (λ m. not (m.client == k)) (members_at r ls) else members_at r ls)
  at-parted t r true e [] = refl
  at-parted t r false e [] = refl
  at-parted t r true e (l ∷ ls) =
      let same = same-topic r t e in
      let turned = ap (λ x. is_same_topic x l.topic) same in
      step (is_same_topic t l.topic) refl turned (at-parted t r true e ls)
    where
      step : (h : Bool) → is_same_topic t l.topic ≡ h → is_same_topic r l.topic ≡ is_same_topic t l.topic → members_at r (line_changed t (line_parted k) ls) ≡ filter (λ m. not (m.client == k)) (members_at r ls)
          → members_at r (if is_same_topic t l.topic then line_parted k l ∷ ls else l ∷ line_changed t (line_parted k) ls) ≡ filter (λ m. not (m.client == k)) (members_at r (l ∷ ls))
      step true is turned ih =
          ap (λ h. members_at r (if h then line_parted k l ∷ ls else l ∷ line_changed t (line_parted k) ls)) is
          ∙ (ap (λ h. if h then (line_parted k l).members else members_at r ls) (turned ∙ is) ∙ sym (ap (λ h. filter (λ (m : Listener). not (m.client == k)) (if h then l.members else members_at r ls)) (turned ∙ is)))
      step false is turned ih =
          ap (λ h. members_at r (if h then line_parted k l ∷ ls else l ∷ line_changed t (line_parted k) ls)) is
          ∙ (ap (λ h. if h then l.members else members_at r (line_changed t (line_parted k) ls)) (turned ∙ is) ∙ (ih ∙ sym (ap (λ h. filter (λ (m : Listener). not (m.client == k)) (if h then l.members else members_at r ls)) (turned ∙ is))))
  at-parted t r false e (l ∷ ls) = step (is_same_topic t l.topic) refl (at-parted t r false e ls)
    where
      step : (h : Bool) → is_same_topic t l.topic ≡ h → members_at r (line_changed t (line_parted k) ls) ≡ members_at r ls → members_at r (if is_same_topic t l.topic then line_parted k l ∷ ls else l ∷ line_changed t (line_parted k) ls) ≡ members_at r (l ∷ ls)
      step true is ih =
          let other : is_same_topic r l.topic ≡ false = ap (is_same_topic r) (sym (same-topic t l.topic is)) ∙ e in
          ap (λ h. members_at r (if h then line_parted k l ∷ ls else l ∷ line_changed t (line_parted k) ls)) is
          ∙ (ap (λ h. if h then (line_parted k l).members else members_at r ls) other ∙ sym (ap (λ h. if h then l.members else members_at r ls) other))
      step false is ih =
          ap (λ h. members_at r (if h then line_parted k l ∷ ls else l ∷ line_changed t (line_parted k) ls)) is ∙ ap (λ x. if is_same_topic r l.topic then l.members else x) ih

  -- where the client has a place of each topic at which it listens
  abbrev pub IsHeard : List Span → List Line → Type 0
  IsHeard us ls = (t : Topic) → is_heard_by k us t ls ≡ true

  -- at first these are all of its places
  heard-within : (t : Topic) (x : Bool) (us : List Span) → (list_any (is_reached_by t) (spans_of k us) ≡ true → x ≡ true) → all_other x (members_in t us) ≡ true
  heard-within t x [] more = refl
  heard-within t x (u ∷ us) more = step (is_reached_by t u) refl (u.client == k) refl more (heard-within t x us)
    where
      step : (b : Bool) → is_reached_by t u ≡ b → (h : Bool) → (u.client == k) ≡ h → (list_any (is_reached_by t) (spans_of k (u ∷ us)) ≡ true → x ≡ true)
          → ((list_any (is_reached_by t) (spans_of k us) ≡ true → x ≡ true) → all_other x (members_in t us) ≡ true) → all_other x (members_in t (u ∷ us)) ≡ true
      step true e true is more again =
          let some : list_any (is_reached_by t) (spans_of k (u ∷ us)) ≡ true = ap (λ h. list_any (is_reached_by t) (if h then u ∷ spans_of k us else spans_of k us)) is ∙ ap (λ b. b || list_any (is_reached_by t) (spans_of k us)) e in
          let yes' = more some in
          let rest = again (λ any. yes') in
          let both = both-true (not (u.client == k) || x) (all_other x (members_in t us)) (or-true (not (u.client == k)) x yes') rest in
          grind (arith, e, both)
      step true e false is more again =
          let rest = again (λ any. more (ap (λ h. list_any (is_reached_by t) (if h then u ∷ spans_of k us else spans_of k us)) is ∙ any)) in
          let both = both-true (not (u.client == k) || x) (all_other x (members_in t us)) (ap (λ h. not h || x) is) rest in
          grind (arith, e, both)
      step false e true is more again =
          let rest = again (λ any. more (ap (λ h. list_any (is_reached_by t) (if h then u ∷ spans_of k us else spans_of k us)) is ∙ or-true (is_reached_by t u) (list_any (is_reached_by t) (spans_of k us)) any)) in
          grind (arith, e, rest)
      step false e false is more again =
          let rest = again (λ any. more (ap (λ h. list_any (is_reached_by t) (if h then u ∷ spans_of k us else spans_of k us)) is ∙ any)) in
          grind (arith, e, rest)

  pub heard-first : (is : List ℕ) (ss : List Slot) (ls : List Line) → IsFound k is ss → ((t : Topic) → members_at t ls ≡ members_in t (standing ss)) → IsHeard (own_of k ss is) ls
  heard-first is ss ls found listed t =
      ap (λ us. all_other (list_any (is_reached_by t) us) (members_at t ls)) (own-all k is ss found)
      ∙ (ap (all_other (list_any (is_reached_by t) (spans_of k (standing ss)))) (listed t) ∙ heard-within t (list_any (is_reached_by t) (spans_of k (standing ss))) (standing ss) (λ any. any))

  -- at last it has none
  heard-none : (ls : List Line) → are_apart ls ≡ true → IsHeard [] ls → map (line_parted k) ls ≡ ls
  heard-none [] apart heard = refl
  heard-none (l ∷ ls) apart heard =
      let here = sym (ap (λ b. all_other false (if b then l.members else members_at l.topic ls)) (same-self l.topic)) ∙ heard l.topic in
      ap (λ ms. record { topic = l.topic; posts = l.posts; members = ms } ∷ map (line_parted k) ls) (other-none l.members here)
      ∙ ap (λ x. l ∷ x) (heard-none ls (apart-rest l ls apart) rest)
    where
      rest : IsHeard [] ls
      rest t = step (is_same_topic t l.topic) refl
        where
          step : (b : Bool) → is_same_topic t l.topic ≡ b → all_other false (members_at t ls) ≡ true
          step true e =
              let none = ap (λ r. list_any (λ (x : Line). is_same_topic r x.topic) ls) (same-topic t l.topic e) ∙ apart-first l ls apart in
              ap (all_other false) (none-at t ls none)
          step false e = sym (ap (λ b. all_other false (if b then l.members else members_at t ls)) e) ∙ heard t

  -- what is so before each of the places that are noted
  pub record IsHushed (is : List ℕ) (ss : List Slot) (first now : List Line) : Type 0 where
    pub same : map (line_parted k) now ≡ map (line_parted k) first
    pub heard : IsHeard (own_of k ss is) now
    pub apart : are_apart now ≡ true

  own-cons : (i : ℕ) (is : List ℕ) (ss : List Slot) → own_of k ss (i ∷ is) ≡ (if is_own_at k ss i then (get_or ss i nothing).place ∷ own_of k ss is else own_of k ss is)
  own-cons i is ss = elim (is_own_at k ss i) as (λ b. map (λ j. (get_or ss j nothing).place) (if b then i ∷ filter (is_own_at k ss) is else filter (is_own_at k ss) is) ≡ (if b then (get_or ss i nothing).place ∷ own_of k ss is else own_of k ss is)) [ true ↦ refl | false ↦ refl ]

  one-hushed : (s : Slot) (us vs : List Span) (ls now : List Line) → vs ≡ (if is_own k s then s.place ∷ us else us) → are_apart ls ≡ true → IsHeard vs ls → now ≡ hushed k s ls
      → (map (line_parted k) now ≡ map (line_parted k) ls) × IsHeard us now × (are_apart now ≡ true)
  one-hushed s us vs ls now all apart heard is = step (is_own k s) refl s.place.live refl
    where
      step : (o : Bool) → is_own k s ≡ o → (l : Bool) → s.place.live ≡ l → (map (line_parted k) now ≡ map (line_parted k) ls) × IsHeard us now × (are_apart now ≡ true)
      step true own true live =
          let at : now ≡ line_changed s.place.topic (line_parted k) ls = is ∙ ap (λ b. if b then line_changed s.place.topic (line_parted k) ls else ls) (both-true (is_own k s) s.place.live own live) in (
            ap (map (line_parted k)) at ∙ twice-changed s.place.topic (line_parted k) (λ l. refl) parted-twice ls,
            (λ t. ap (λ x. all_other (list_any (is_reached_by t) us) (members_at t x)) at ∙ topic t (is_same_topic t s.place.topic) refl),
            ap are_apart at ∙ (apart-changed s.place.topic (line_parted k) (λ l. refl) ls ∙ apart),
          )
        where
          topic : (t : Topic) (b : Bool) → is_same_topic t s.place.topic ≡ b → all_other (list_any (is_reached_by t) us) (members_at t (line_changed s.place.topic (line_parted k) ls)) ≡ true
          topic t true e = ap (all_other (list_any (is_reached_by t) us)) (at-parted s.place.topic t true e ls) ∙ other-parted (list_any (is_reached_by t) us) (members_at t ls)
          topic t false e =
              let missed : is_reached_by t s.place ≡ false = ap (λ l. l && is_same_topic s.place.topic t) live ∙ topic-other t s.place.topic false e in
              let any : list_any (is_reached_by t) vs ≡ list_any (is_reached_by t) us = ap (list_any (is_reached_by t)) (all ∙ ap (λ b. if b then s.place ∷ us else us) own) ∙ ap (λ b. b || list_any (is_reached_by t) us) missed in
              ap (all_other (list_any (is_reached_by t) us)) (at-parted s.place.topic t false e ls) ∙ (ap (λ b. all_other b (members_at t ls)) (sym any) ∙ heard t)
      step true own false live =
          let at : now ≡ ls = is ∙ (ap (λ b. if b && s.place.live then line_changed s.place.topic (line_parted k) ls else ls) own ∙ ap (λ b. if b then line_changed s.place.topic (line_parted k) ls else ls) live) in (
            ap (map (line_parted k)) at,
            (λ t.
                let missed : is_reached_by t s.place ≡ false = ap (λ l. l && is_same_topic s.place.topic t) live in
                let any : list_any (is_reached_by t) vs ≡ list_any (is_reached_by t) us = ap (list_any (is_reached_by t)) (all ∙ ap (λ b. if b then s.place ∷ us else us) own) ∙ ap (λ b. b || list_any (is_reached_by t) us) missed in
                ap (λ x. all_other (list_any (is_reached_by t) us) (members_at t x)) at ∙ (ap (λ b. all_other b (members_at t ls)) (sym any) ∙ heard t)),
            ap are_apart at ∙ apart,
          )
      step false own l live =
          let at : now ≡ ls = is ∙ ap (λ b. if b && s.place.live then line_changed s.place.topic (line_parted k) ls else ls) own in (
            ap (map (line_parted k)) at,
            (λ t.
                let any : list_any (is_reached_by t) vs ≡ list_any (is_reached_by t) us = ap (list_any (is_reached_by t)) (all ∙ ap (λ b. if b then s.place ∷ us else us) own) in
                ap (λ x. all_other (list_any (is_reached_by t) us) (members_at t x)) at ∙ (ap (λ b. all_other b (members_at t ls)) (sym any) ∙ heard t)),
            ap are_apart at ∙ apart,
          )

  within-at : (n : ℕ) (is : List ℕ) (j d : ℕ) → list_all (λ i. nat_lt i n) is ≡ true → j < length is → get_or is j d < n
  within-at n [] j d all less = absurd (omega arith)
  within-at n (i ∷ is) zero d all less = let here : nat_lt i n ≡ true = first-true (nat_lt i n) (list_all (λ i. nat_lt i n) is) all in grind (arith, nat_tests, here)
  within-at n (i ∷ is) (suc j) d all less = within-at n is j d (second-true (nat_lt i n) (list_all (λ i. nat_lt i n) is) all) (omega (arith, less))

  pub hushed-next : (is : List ℕ) (j d : ℕ) (ss : List Slot) (e : Slot) (first ls now : List Line) → list_all (λ i. nat_lt i (length ss)) is ≡ true → j < length is → IsHushed (drop j is) ss first ls
      → now ≡ hushed k (get_or ss (get_or is j d) e) ls → IsHushed (drop (j + 1) is) ss first now
  hushed-next is j d ss e first ls now within less before at =
      let i = get_or is j d in
      let s = get_or ss i nothing in
      let here : get_or ss i e ≡ s = at-any ss i e nothing (within-at (length ss) is j d within less) in
      let all = ap (own_of k ss) (drop_more is j d less) ∙ own-cons i (drop (j + 1) is) ss in
      let one = one-hushed s (own_of k ss (drop (j + 1) is)) (own_of k ss (drop j is)) ls now all before.apart before.heard (at ∙ ap (λ x. hushed k x ls) here) in
      record { same = one.0 ∙ before.same; heard = one.1; apart = one.2 }

  pub hushed-all : (is : List ℕ) (ss : List Slot) (first now : List Line) → is ≡ [] → IsHushed is ss first now → now ≡ map (line_parted k) first
  hushed-all is ss first now done last = sym (heard-none now last.apart (λ t. sym (ap (λ i. all_other (list_any (is_reached_by t) (own_of k ss i)) (members_at t now)) done) ∙ last.heard t)) ∙ last.same
