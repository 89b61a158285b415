-- Places of a topic that are noted under its hash.
use Rattle.std.proofs.Common.{◌≡◌, ℕ, zero, suc, ◌+◌, ◌<◌, ◌≤◌, Bool, true, false, not, List, [], ◌∷◌, ◌++◌, length, get_or, set, take, refl, sym, ◌∙◌, ap, arith}
use Rattle.std.specs.Prelude.{◌==◌, ◌&&◌, ◌||◌, nat_le, filter, map, if◌then◌else◌}
use Rattle.std.specs.List.{list_all, list_any}
use Rattle.std.proofs.lemmas.Bool.Decides.{nat_tests}
use Rattle.std.proofs.lemmas.List.Folds.{list_any-append, list_all_more}
use Rattle.amf_broker.specs.declared.slot.Slot.{Slot}
use Rattle.amf_broker.specs.declared.topic.Topic.{Topic}
use Rattle.amf_broker.specs.Machine.{is_same_topic}
use Rattle.amf_broker.specs.Delivery.{Message}
use Rattle.amf_broker.specs.Lines.{TopicLog, Span, begun_anew, outlasts, is_covered, is_reached_by}
use Rattle.amf_broker.specs.Members.{is_among, stopped, remains}
use Rattle.amf_broker.specs.Trims.{is_first, is_debt, is_owed}
use Rattle.amf_broker.specs.Slots.{standing, kept_if, with_place, slot_ended, slot_begun, own_ended, is_own, nothing, is_kept_at, stands_at, passes_at, AreAmong}
use Rattle.amf_broker.proofs.Posts.{same-topic}
use Rattle.amf_broker.proofs.Floors.{all-weaker}

both-true : (a b : Bool) → a ≡ true → b ≡ true → (a && b) ≡ true
both-true true b p q = q
both-true false b p q = cc

first-true : (a b : Bool) → (a && b) ≡ true → a ≡ true
first-true true b e = refl
first-true false b e = cc

second-true : (a b : Bool) → (a && b) ≡ true → b ≡ true
second-true true b e = e
second-true false b e = cc

or-later : (a b : Bool) → b ≡ true → (a || b) ≡ true
or-later true b e = refl
or-later false b e = e

without-mid : (a b c : Bool) → ((a && b) && c) ≡ true → (a && c) ≡ true
without-mid true true c e = e
without-mid true false c e = cc
without-mid false b c e = cc

-- What is so of a number that is among others.

among-hit : (q : ℕ → Bool) (is : List ℕ) (i : ℕ) → is_among is i ≡ true → q i ≡ true → list_any q is ≡ true
among-hit q [] i e h = cc
among-hit q (j ∷ is) i e h = step (j == i) refl e (among-hit q is i)
  where
    step : (b : Bool) → (j == i) ≡ b → (b || is_among is i) ≡ true → (is_among is i ≡ true → q i ≡ true → list_any q is ≡ true) → (q j || list_any q is) ≡ true
    step true at e ih =
        let same : j ≡ i = grind (arith, nat_tests, at) in
        ap (λ b. b || list_any q is) (ap q same ∙ h)
    step false at e ih = or-later (q j) (list_any q is) (ih e h)

among-all : (q : ℕ → Bool) (is : List ℕ) (i : ℕ) → is_among is i ≡ true → list_all q is ≡ true → q i ≡ true
among-all q [] i e all = cc
among-all q (j ∷ is) i e all = step (j == i) refl e (among-all q is i)
  where
    step : (b : Bool) → (j == i) ≡ b → (b || is_among is i) ≡ true → (is_among is i ≡ true → list_all q is ≡ true → q i ≡ true) → q i ≡ true
    step true at e ih =
        let same : i ≡ j = grind (arith, nat_tests, at) in
        ap q same ∙ first-true (q j) (list_all q is) all
    step false at e ih = ih e (second-true (q j) (list_all q is) all)

among-more : (b : Bool) (is : List ℕ) (n i : ℕ) → is_among is i ≡ true → is_among (if b then is ++ (n ∷ []) else is) i ≡ true
among-more true is n i e = list_any-append (λ (id : ℕ). id == i) is (n ∷ []) ∙ ap (λ b. b || is_among (n ∷ []) i) e
among-more false is n i e = e

among-last : (is : List ℕ) (n : ℕ) → is_among (is ++ (n ∷ [])) n ≡ true
among-last [] n = grind (arith, nat_tests)
among-last (i ∷ is) n = or-later (i == n) (is_among (is ++ (n ∷ [])) n) (among-last is n)

among-filter : (q : ℕ → Bool) (is : List ℕ) (i : ℕ) → q i ≡ true → is_among is i ≡ true → is_among (filter q is) i ≡ true
among-filter q [] i h e = e
among-filter q (j ∷ is) i h e = step (j == i) refl e (among-filter q is i h)
  where
    step : (b : Bool) → (j == i) ≡ b → (b || is_among is i) ≡ true → (is_among is i ≡ true → is_among (filter q is) i ≡ true) → is_among (if q j then j ∷ filter q is else filter q is) i ≡ true
    step true at e ih =
        let same : j ≡ i = grind (arith, nat_tests, at) in
        ap (λ b. is_among (if b then j ∷ filter q is else filter q is) i) (ap q same ∙ h) ∙ ap (λ b. b || is_among (filter q is) i) at
    step false at e ih = elim (q j) as (λ b. is_among (if b then j ∷ filter q is else filter q is) i ≡ true) [
      | true ↦ or-later (j == i) (is_among (filter q is) i) (ih e)
      | false ↦ ih e
    ]

-- Slots that change.

abbrev pub is_of : Topic → Slot → Bool
is_of t s = s.kept && is_same_topic s.place.topic t

of-map : (t : Topic) (g : Slot → Slot) → ((s : Slot) → is_of t (g s) ≡ true → is_of t s ≡ true) → (ss : List Slot) (i : ℕ) → is_of t (get_or (map g ss) i nothing) ≡ true → is_of t (get_or ss i nothing) ≡ true
of-map t g less [] i e = e
of-map t g less (s ∷ ss) zero e = less s e
of-map t g less (s ∷ ss) (suc i) e = of-map t g less ss i e

-- where slots change and none becomes the topic's, those of the topic are among these as before
pub among-map : (t : Topic) (g : Slot → Slot) → ((s : Slot) → is_of t (g s) ≡ true → is_of t s ≡ true) → (is : List ℕ) (ss : List Slot) → AreAmong t is ss → AreAmong t is (map g ss)
among-map t g less is ss all i e = all i (of-map t g less ss i e)

of-set : (t : Topic) (ss : List Slot) (i : ℕ) (x : Slot) → is_of t x ≡ false → (j : ℕ) → is_of t (get_or (set ss i x) j nothing) ≡ true → is_of t (get_or ss j nothing) ≡ true
of-set t [] i x other j e = e
of-set t (s ∷ ss) zero x other zero e = let bad : false ≡ true = sym other ∙ e in absurd (cc)
of-set t (s ∷ ss) zero x other (suc j) e = e
of-set t (s ∷ ss) (suc i) x other zero e = e
of-set t (s ∷ ss) (suc i) x other (suc j) e = of-set t ss i x other j e

pub among-dropped : (t : Topic) (is : List ℕ) (ss : List Slot) (i : ℕ) (x : Slot) → x.kept ≡ false → AreAmong t is ss → AreAmong t is (set ss i x)
among-dropped t is ss i x gone all j e = all j (of-set t ss i x (ap (λ b. b && is_same_topic x.place.topic t) gone) j e)

pub of-if : (t : Topic) (p : Span → Bool) (s : Slot) → is_of t (kept_if p s) ≡ true → is_of t s ≡ true
of-if t p s e = without-mid s.kept (p s.place) (is_same_topic s.place.topic t) e

stopped-topic : (n : ℕ) (o : ℕ → Bool) (u : Span) → (stopped n o u).topic ≡ u.topic
stopped-topic n o u = elim (u.live && o u.id) as (λ b. (if b then record u { stop = n; live = false } else u).topic ≡ u.topic) [ true ↦ refl | false ↦ refl ]

begun-topic : (k n : ℕ) (u : Span) → (begun_anew k n u).topic ≡ u.topic
begun-topic k n u = elim (u.client == k) as (λ b. (if b then record u { start = n; stop = n } else u).topic ≡ u.topic) [ true ↦ refl | false ↦ refl ]

of-ended : (t : Topic) (stop next : ℕ) (over : ℕ → Bool) (logs : List TopicLog) (s : Slot) → is_of t (slot_ended stop next over logs s) ≡ true → is_of t s ≡ true
of-ended t stop next over logs s e =
    ap (λ r. s.kept && is_same_topic r t) (sym (stopped-topic stop over s.place))
    ∙ of-if t (remains over logs next) (with_place (stopped stop over) s) e

pub of-own : (t : Topic) (own : ℕ → Bool) (stop next : ℕ) (over : ℕ → Bool) (logs : List TopicLog) (s : Slot) → is_of t (own_ended own stop next over logs s) ≡ true → is_of t s ≡ true
of-own t own stop next over logs s = elim (s.kept && own s.place.client) as (λ b. is_of t (if b then slot_ended stop next over logs s else s) ≡ true → is_of t s ≡ true) [
  | true ↦ of-ended t stop next over logs s
  | false ↦ λ e. e
]

pub of-begun : (t : Topic) (k n : ℕ) (s : Slot) → is_of t (slot_begun k n s) ≡ true → is_of t s ≡ true
of-begun t k n s = elim (is_own k s) as (λ b. is_of t (if b then with_place (begun_anew k n) (kept_if (outlasts k) s) else s) ≡ true → is_of t s ≡ true) [
  | true ↦ λ e. without-mid s.kept (outlasts k s.place) (is_same_topic s.place.topic t) (ap (λ r. (s.kept && outlasts k s.place) && is_same_topic r t) (sym (begun-topic k n s.place)) ∙ e)
  | false ↦ λ e. e
]

-- One slot more.

at-end : (t : Topic) (P : Type 0) (ss : List Slot) (s : Slot) (i : ℕ) → is_of t (get_or (ss ++ (s ∷ [])) i nothing) ≡ true → (is_of t (get_or ss i nothing) ≡ true → P) → (i ≡ length ss → is_of t s ≡ true → P) → P
at-end t P [] s zero e old new = new refl e
at-end t P [] s (suc i) e old new = old e
at-end t P (x ∷ ss) s zero e old new = old e
at-end t P (x ∷ ss) s (suc i) e old new = at-end t P ss s i e old (λ is. new (ap suc is))

module _ (h : Topic → ℕ) (t : Topic) where
  -- a note more changes nothing
  pub among-still : (is js : List ℕ) (ss : List Slot) (key n : ℕ) → js ≡ (if key == h t then is ++ (n ∷ []) else is) → AreAmong t is ss → AreAmong t js ss
  among-still is js ss key n noted all i e = ap (λ m. is_among m i) noted ∙ among-more (key == h t) is n i (all i e)

  -- as `note_spot` notes it under the hash of its topic
  pub among-noted : (is js : List ℕ) (ss : List Slot) (s : Slot) (key : ℕ) → key ≡ h s.place.topic → js ≡ (if key == h t then is ++ (length ss ∷ []) else is) → AreAmong t is ss → AreAmong t js (ss ++ (s ∷ []))
  among-noted is js ss s key at noted all i e = at-end t (is_among js i ≡ true) ss s i e (among-still is js ss key (length ss) noted all i) new
    where
      new : i ≡ length ss → is_of t s ≡ true → is_among js i ≡ true
      new last here =
          let topic = same-topic s.place.topic t (second-true s.kept (is_same_topic s.place.topic t) here) in
          let under : key ≡ h t = at ∙ ap h topic in
          let same : (key == h t) ≡ true = grind (arith, nat_tests, under) in
          ap (is_among js) last ∙ (ap (λ m. is_among m (length ss)) (noted ∙ ap (λ b. if b then is ++ (length ss ∷ []) else is) same) ∙ among-last is (length ss))

  -- as `prune_gone` leaves it
  pub among-pruned : (is js : List ℕ) (ss : List Slot) (key : ℕ) → js ≡ (if key == h t then filter (is_kept_at ss) is else is) → AreAmong t is ss → AreAmong t js ss
  among-pruned is js ss key noted all i e =
      ap (λ m. is_among m i) noted
      ∙ elim (key == h t) as (λ b. is_among (if b then filter (is_kept_at ss) is else is) i ≡ true) [
        | true ↦ among-filter (is_kept_at ss) is i (first-true (is_kept_at ss i) (is_same_topic (get_or ss i nothing).place.topic t) e) (all i e)
        | false ↦ all i e
      ]

-- What is asked of those that are noted is asked of all of the topic.

module _ (p : Span → Bool) where
  none-standing : (ss : List Slot) → ((i : ℕ) → stands_at p ss i ≡ false) → list_any p (standing ss) ≡ false
  none-standing [] none = refl
  none-standing (s ∷ ss) none = step s.kept (none 0) (none-standing ss (λ i. none (suc i)))
    where
      step : (k : Bool) → (k && p s.place) ≡ false → list_any p (standing ss) ≡ false → list_any p (map (λ (x : Slot). x.place) (if k then s ∷ filter (λ x. x.kept) ss else filter (λ x. x.kept) ss)) ≡ false
      step true e ih = ap (λ b. b || list_any p (standing ss)) e ∙ ih
      step false e ih = ih

  some-standing : (ss : List Slot) (i : ℕ) → stands_at p ss i ≡ true → list_any p (standing ss) ≡ true
  some-standing [] i e = cc
  some-standing (s ∷ ss) zero e = step s.kept e
    where
      step : (k : Bool) → (k && p s.place) ≡ true → list_any p (map (λ (x : Slot). x.place) (if k then s ∷ filter (λ x. x.kept) ss else filter (λ x. x.kept) ss)) ≡ true
      step true e = ap (λ b. b || list_any p (standing ss)) e
      step false e = cc
  some-standing (s ∷ ss) (suc i) e =
      let ih = some-standing ss i e in
      elim s.kept as (λ k. list_any p (map (λ (x : Slot). x.place) (if k then s ∷ filter (λ x. x.kept) ss else filter (λ x. x.kept) ss)) ≡ true) [
        | true ↦ or-later (p s.place) (list_any p (standing ss)) ih
        | false ↦ ih
      ]

  all-standing : (ss : List Slot) → ((i : ℕ) → passes_at p ss i ≡ true) → list_all p (standing ss) ≡ true
  all-standing [] all = refl
  all-standing (s ∷ ss) all = step s.kept (all 0) (all-standing ss (λ i. all (suc i)))
    where
      step : (k : Bool) → (not k || p s.place) ≡ true → list_all p (standing ss) ≡ true → list_all p (map (λ (x : Slot). x.place) (if k then s ∷ filter (λ x. x.kept) ss else filter (λ x. x.kept) ss)) ≡ true
      step true e ih = both-true (p s.place) (list_all p (standing ss)) e ih
      step false e ih = ih

  some-noted : (ss : List Slot) (is : List ℕ) → list_any (stands_at p ss) is ≡ true → list_any p (standing ss) ≡ true
  some-noted ss [] e = cc
  some-noted ss (i ∷ is) e = step (stands_at p ss i) refl e (some-noted ss is)
    where
      step : (b : Bool) → stands_at p ss i ≡ b → (b || list_any (stands_at p ss) is) ≡ true → (list_any (stands_at p ss) is ≡ true → list_any p (standing ss) ≡ true) → list_any p (standing ss) ≡ true
      step true here e ih = some-standing ss i here
      step false here e ih = ih e

  module _ (t : Topic) (is : List ℕ) (ss : List Slot) (among : AreAmong t is ss) where
    pub any-among : ((u : Span) → p u ≡ true → is_same_topic u.topic t ≡ true) → list_any (stands_at p ss) is ≡ list_any p (standing ss)
    any-among own = step (list_any (stands_at p ss) is) refl
      where
        missed : list_any (stands_at p ss) is ≡ false → (i : ℕ) (b : Bool) → stands_at p ss i ≡ b → stands_at p ss i ≡ false
        missed none i true here =
            let u = (get_or ss i nothing).place in
            let of = both-true (is_kept_at ss i) (is_same_topic u.topic t) (first-true (is_kept_at ss i) (p u) here) (own u (second-true (is_kept_at ss i) (p u) here)) in
            let bad : false ≡ true = sym none ∙ among-hit (stands_at p ss) is i (among i of) here in
            absurd (cc)
        missed none i false here = here

        step : (b : Bool) → list_any (stands_at p ss) is ≡ b → list_any (stands_at p ss) is ≡ list_any p (standing ss)
        step true e = e ∙ sym (some-noted ss is e)
        step false e = e ∙ sym (none-standing ss (λ i. missed e i (stands_at p ss i) refl))

    pub all-among : ((u : Span) → is_same_topic u.topic t ≡ false → p u ≡ true) → list_all (passes_at p ss) is ≡ true → list_all p (standing ss) ≡ true
    all-among other all = all-standing ss (λ i. pass i (stands_at (λ u. is_same_topic u.topic t) ss i) refl)
      where
        free : (i : ℕ) (k : Bool) → (k && is_same_topic (get_or ss i nothing).place.topic t) ≡ false → (not k || p (get_or ss i nothing).place) ≡ true
        free i true e = other (get_or ss i nothing).place e
        free i false e = refl

        pass : (i : ℕ) (b : Bool) → stands_at (λ u. is_same_topic u.topic t) ss i ≡ b → passes_at p ss i ≡ true
        pass i true here = among-all (passes_at p ss) is i (among i here) all
        pass i false here = free i (is_kept_at ss i) here

-- How the first place and the debts are found.

before-less : (a b : Bool) (first new m : ℕ) → new ≤ first → (not a || (not b || nat_le first m)) ≡ true → (not a || (not b || nat_le new m)) ≡ true
before-less true true first new m less e = grind (arith, nat_tests, less, e)
before-less true false first new m less e = refl
before-less false b first new m less e = refl

pub first-more : (t : Topic) (ss : List Slot) (is : List ℕ) (i d first new : ℕ) → i < length is → list_all (passes_at (λ u. not (is_reached_by t u) || nat_le first u.start) ss) (take i is) ≡ true → new ≤ first
    → passes_at (λ u. not (is_reached_by t u) || nat_le new u.start) ss (get_or is i d) ≡ true → list_all (passes_at (λ u. not (is_reached_by t u) || nat_le new u.start) ss) (take (i + 1) is) ≡ true
first-more t ss is i d first new less before lesser here =
    list_all_more (passes_at (λ u. not (is_reached_by t u) || nat_le new u.start) ss) is i d less
    ∙ both-true (list_all (passes_at (λ u. not (is_reached_by t u) || nat_le new u.start) ss) (take i is)) (passes_at (λ u. not (is_reached_by t u) || nat_le new u.start) ss (get_or is i d))
    (all-weaker (passes_at (λ u. not (is_reached_by t u) || nat_le first u.start) ss) (passes_at (λ u. not (is_reached_by t u) || nat_le new u.start) ss)
    (λ j e. before-less (is_kept_at ss j) (is_reached_by t (get_or ss j nothing).place) first new (get_or ss j nothing).place.start lesser e) (take i is) before)
    here

none-later : (a b c : Bool) → (a && b) ≡ false → (a && (b && c)) ≡ false
none-later true b c e = ap (λ x. x && c) e
none-later false b c e = refl

or-none-first : (a b : Bool) → (a || b) ≡ false → a ≡ false
or-none-first true b e = cc
or-none-first false b e = refl

or-none-second : (a b : Bool) → (a || b) ≡ false → b ≡ false
or-none-second true b e = cc
or-none-second false b e = e

pub none-owes : (t : Topic) (ss : List Slot) (m : Message) (is : List ℕ) → list_any (stands_at (is_debt t) ss) is ≡ false → list_any (stands_at (is_owed t m) ss) is ≡ false
none-owes t ss m [] none = refl
none-owes t ss m (i ∷ is) none =
    let u = (get_or ss i nothing).place in
    ap (λ b. b || list_any (stands_at (is_owed t m) ss) is)
    (none-later (is_kept_at ss i) (is_debt t u) (is_covered u.start u.stop m) (or-none-first (stands_at (is_debt t) ss i) (list_any (stands_at (is_debt t) ss) is) none))
    ∙ none-owes t ss m is (or-none-second (stands_at (is_debt t) ss i) (list_any (stands_at (is_debt t) ss) is) none)

unreached : (t : Topic) (first : ℕ) (u : Span) → is_same_topic u.topic t ≡ false → (not (is_reached_by t u) || nat_le first u.start) ≡ true
unreached t first u other = elim u.live as (λ l. (not (l && is_same_topic u.topic t) || nat_le first u.start) ≡ true) [
  | true ↦ ap (λ b. not b || nat_le first u.start) other
  | false ↦ refl
]

owed-own : (t : Topic) (m : Message) (u : Span) → is_owed t m u ≡ true → is_same_topic u.topic t ≡ true
owed-own t m u owed = second-true (not u.live) (is_same_topic u.topic t) (first-true (is_debt t u) (is_covered u.start u.stop m) owed)

pub first-among : (t : Topic) (first : ℕ) (is : List ℕ) (ss : List Slot) → AreAmong t is ss → list_all (passes_at (λ u. not (is_reached_by t u) || nat_le first u.start) ss) is ≡ true → is_first t first (standing ss) ≡ true
first-among t first is ss among all = all-among (λ u. not (is_reached_by t u) || nat_le first u.start) t is ss among (unreached t first) all

pub owed-among : (t : Topic) (m : Message) (is : List ℕ) (ss : List Slot) → AreAmong t is ss → list_any (stands_at (is_owed t m) ss) is ≡ list_any (is_owed t m) (standing ss)
owed-among t m is ss among = any-among (is_owed t m) t is ss among (owed-own t m)
