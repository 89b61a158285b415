-- Subscriptions that end, of clients that are known, in lines whose topics are known.
use Rattle.std.proofs.Common.{◌≡◌, ℕ, zero, suc, ◌+◌, ◌<◌, Bool, true, false, not, List, [], ◌∷◌, length, get_or, set, take, drop, refl, sym, ◌∙◌, ap, arith}
use Rattle.std.specs.Prelude.{◌==◌, ◌&&◌, ◌||◌, filter, map, if◌then◌else◌, Some, None}
use Rattle.std.specs.List.{list_all, list_any, cons_option}
use Rattle.std.proofs.lemmas.List.Folds.{list_any_more}
use Rattle.std.proofs.lemmas.Bool.Decides.{nat_tests}
use Rattle.amf_broker.specs.declared.topic.Topic.{Topic}
use Rattle.amf_broker.specs.declared.slot.Slot.{Slot}
use Rattle.amf_broker.specs.State.{Subscription}
use Rattle.amf_broker.specs.Machine.{is_same_topic}
use Rattle.amf_broker.specs.Sound.{rises_by}
use Rattle.amf_broker.specs.Lines.{TopicLog, Span, Waiter, subs_by, is_reached_by, is_crowded}
use Rattle.amf_broker.specs.Members.{Line, Listener, listener, members_in, members_at, are_apart, IsLined, line_changed, line_without, stopped, stopped_of, remains, remains_of, ends_for, waiters_by, ended_after}
use Rattle.amf_broker.specs.Slots.{standing, kept_if, with_place, slot_ended, own_ended, is_own, is_own_at, nothing, changed_at}
use Rattle.amf_broker.proofs.Posts.{same-topic, same-self}
use Rattle.amf_broker.proofs.Enlists.{topic-other}
use Rattle.amf_broker.proofs.Published.{none-at}
use Rattle.amf_broker.proofs.Publishes.{is_over}
use Rattle.amf_broker.proofs.Lined.{map-as}
use Rattle.amf_broker.proofs.Slots.{kept-if, kept-with, stopped-client, map-two, less-ended, changed-next}
use Rattle.amf_broker.proofs.Firsts.{at_first}

both-true : (a b : Bool) → a ≡ true → b ≡ true → (a && b) ≡ true
both-true true b p q = q
both-true false b p q = cc

first-true : (a b : Bool) → (a && b) ≡ true → a ≡ true
first-true true b e = refl
first-true false b e = cc

second-true : (a b : Bool) → (a && b) ≡ true → b ≡ true
second-true true b e = e
second-true false b e = cc

or-none-first : (a b : Bool) → (a || b) ≡ false → a ≡ false
or-none-first true b e = cc
or-none-first false b e = refl

or-none-second : (a b : Bool) → (a || b) ≡ false → b ≡ false
or-none-second true b e = cc
or-none-second false b e = e

or-later : (a b : Bool) → b ≡ true → (a || b) ≡ true
or-later true b e = refl
or-later false b e = e

second-false : (a b : Bool) → b ≡ false → (a && b) ≡ false
second-false true b q = q
second-false false b q = refl

-- Slots.

-- what is kept of slots that change alike where they are kept
standing-as : (f g : Slot → Slot) → ((s : Slot) → s.kept ≡ true → f s ≡ g s) → ((s : Slot) → s.kept ≡ false → (f s).kept ≡ false) → ((s : Slot) → s.kept ≡ false → (g s).kept ≡ false)
    → (ss : List Slot) → standing (map f ss) ≡ standing (map g ss)
standing-as f g same one two [] = refl
standing-as f g same one two (s ∷ ss) = step s.kept refl (standing-as f g same one two ss)
  where
    skip : (x : Slot) (xs : List Slot) → x.kept ≡ false → standing (x ∷ xs) ≡ standing xs
    skip x xs e = ap (λ k. map (λ (y : Slot). y.place) (if k then x ∷ filter (λ y. y.kept) xs else filter (λ y. y.kept) xs)) e

    more : (x : Slot) (xs ys : List Slot) → standing xs ≡ standing ys → standing (x ∷ xs) ≡ standing (x ∷ ys)
    more x xs ys ih = elim x.kept as (λ k. map (λ (y : Slot). y.place) (if k then x ∷ filter (λ y. y.kept) xs else filter (λ y. y.kept) xs) ≡ map (λ (y : Slot). y.place) (if k then x ∷ filter (λ y. y.kept) ys else filter (λ y. y.kept) ys)) [
      | true ↦ ap (λ us. x.place ∷ us) ih
      | false ↦ ih
    ]

    step : (k : Bool) → s.kept ≡ k → standing (map f ss) ≡ standing (map g ss) → standing (f s ∷ map f ss) ≡ standing (g s ∷ map g ss)
    step true e ih = ap (λ x. standing (x ∷ map f ss)) (same s e) ∙ more (g s) (map f ss) (map g ss) ih
    step false e ih = skip (f s) (map f ss) (one s e) ∙ (ih ∙ sym (skip (g s) (map g ss) (two s e)))

module _ (own : ℕ → Bool) (stop next : ℕ) (over : ℕ → Bool) (logs : List TopicLog) where
  abbrev ended : Slot → Slot
  ended s = own_ended own stop next over logs s

  abbrev left : Slot → Slot
  left s = kept_if (remains_of own over logs next) (with_place (stopped_of own stop over) s)

  ended-left : (s : Slot) → s.kept ≡ true → ended s ≡ left s
  ended-left s kept = step (own s.place.client) refl
    where
      step : (b : Bool) → own s.place.client ≡ b → ended s ≡ left s
      step true e =
          let at : stopped_of own stop over s.place ≡ stopped stop over s.place = ap (λ b. if b then stopped stop over s.place else s.place) e in
          let mine : own (stopped stop over s.place).client ≡ true = ap own (stopped-client stop over s.place) ∙ e in
          let here : ended s ≡ slot_ended stop next over logs s = ap (λ b. if b then slot_ended stop next over logs s else s) (both-true s.kept (own s.place.client) kept e) in
          here
          ∙ (ap (λ b. record { place = stopped stop over s.place; kept = s.kept && (not b || remains over logs next (stopped stop over s.place)) }) (sym mine)
          ∙ ap (λ u. record { place = u; kept = s.kept && remains_of own over logs next u }) (sym at))
      step false e =
          let at : stopped_of own stop over s.place ≡ s.place = ap (λ b. if b then stopped stop over s.place else s.place) e in
          let here : ended s ≡ s = ap (λ b. if b then slot_ended stop next over logs s else s) (second-false s.kept (own s.place.client) e) in
          let stays : s.kept ≡ (s.kept && true) = kept ∙ sym (ap (λ b. b && true) kept) in
          here
          ∙ (ap (λ b. record { place = s.place; kept = b }) stays
          ∙ (ap (λ b. record { place = s.place; kept = s.kept && (not b || remains over logs next s.place) }) (sym e)
          ∙ ap (λ u. record { place = u; kept = s.kept && remains_of own over logs next u }) (sym at)))

  ended-gone : (s : Slot) → s.kept ≡ false → (ended s).kept ≡ false
  ended-gone s gone = ap (λ b. (if b && own s.place.client then slot_ended stop next over logs s else s).kept) gone ∙ gone

  left-gone : (s : Slot) → s.kept ≡ false → (left s).kept ≡ false
  left-gone s gone = ap (λ b. b && remains_of own over logs next (stopped_of own stop over s.place)) gone

  pub kept-own : (ss : List Slot) → standing (map ended ss) ≡ filter (remains_of own over logs next) (map (stopped_of own stop over) (standing ss))
  kept-own ss =
      standing-as ended left ended-left ended-gone left-gone ss
      ∙ (ap standing (sym (map-two (with_place (stopped_of own stop over)) (kept_if (remains_of own over logs next)) ss))
      ∙ (kept-if (remains_of own over logs next) (map (with_place (stopped_of own stop over)) ss) ∙ ap (filter (remains_of own over logs next)) (kept-with (stopped_of own stop over) ss)))

  pub less-own : (k : ℕ) (s : Slot) → is_own k (ended s) ≡ true → is_own k s ≡ true
  less-own k s = elim (s.kept && own s.place.client) as (λ b. is_own k (if b then slot_ended stop next over logs s else s) ≡ true → is_own k s ≡ true) [
    | true ↦ less-ended k stop next over logs s
    | false ↦ λ e. e
  ]

  pub own-idle : (s : Slot) → (s.kept && own s.place.client) ≡ false → ended s ≡ s
  own-idle s other = ap (λ b. if b then slot_ended stop next over logs s else s) other

-- Those that end are all of these clients.

pub stopped-all : (own : ℕ → Bool) (stop : ℕ) (over : ℕ → Bool) (us : List Span) → list_all (λ u. not (u.live && over u.id) || own u.client) us ≡ true → map (stopped_of own stop over) us ≡ map (stopped stop over) us
stopped-all own stop over [] all = refl
stopped-all own stop over (u ∷ us) all =
    ap (λ x. x ∷ map (stopped_of own stop over) us) (one (own u.client) refl (u.live && over u.id) refl (first-true (not (u.live && over u.id) || own u.client) (list_all (λ u. not (u.live && over u.id) || own u.client) us) all))
    ∙ ap (λ m. stopped stop over u ∷ m) (stopped-all own stop over us (second-true (not (u.live && over u.id) || own u.client) (list_all (λ u. not (u.live && over u.id) || own u.client) us) all))
  where
    one : (b : Bool) → own u.client ≡ b → (h : Bool) → (u.live && over u.id) ≡ h → (not (u.live && over u.id) || own u.client) ≡ true → stopped_of own stop over u ≡ stopped stop over u
    one true e h is here = ap (λ b. if b then stopped stop over u else u) e
    one false e false is here = ap (λ b. if b then stopped stop over u else u) e ∙ sym (ap (λ b. if b then record u { stop = stop; live = false } else u) is)
    one false e true is here = let no : false ≡ true = sym (ap (λ b. not b || own u.client) is ∙ e) ∙ here in absurd (cc)

-- Numbers of subscriptions rise, so one that is live is the only one of its number.

module _ (p : Span → Bool) (sub : ℕ) where
  later-all : (b : ℕ) (us : List Span) → sub < b → rises_by (λ u. u.id) b (subs_by us) ≡ true → list_all (λ u. not (u.live && u.id == sub) || p u) us ≡ true
  later-all b [] less rise = refl
  later-all b (u ∷ us) less rise = step u.live refl (λ a l r. later-all a us l r)
    where
      step : (l : Bool) → u.live ≡ l → ((a : ℕ) → sub < a → rises_by (λ u. u.id) a (subs_by us) ≡ true → list_all (λ u. not (u.live && u.id == sub) || p u) us ≡ true)
          → list_all (λ u. not (u.live && u.id == sub) || p u) (u ∷ us) ≡ true
      step false e again =
          let rest : rises_by (λ (u : Subscription). u.id) b (subs_by us) ≡ true = grind (arith, e, rise) in
          let ih = again b less rest in
          grind (arith, e, ih)
      step true e again =
          let rest : rises_by (λ (u : Subscription). u.id) (u.id + 1) (subs_by us) ≡ true = grind (arith, e, rise) in
          let from : b < u.id + 1 = grind (arith, nat_tests, e, rise) in
          let ih = again (u.id + 1) (omega (arith, less, from)) rest in
          let other : (u.id == sub) ≡ false = grind (arith, nat_tests, less, from) in
          grind (arith, e, other, ih)

  later-none : (b : ℕ) (us : List Span) → sub < b → rises_by (λ u. u.id) b (subs_by us) ≡ true → list_any (λ u. u.live && (u.id == sub && p u)) us ≡ false
  later-none b [] less rise = refl
  later-none b (u ∷ us) less rise = step u.live refl (λ a l r. later-none a us l r)
    where
      step : (l : Bool) → u.live ≡ l → ((a : ℕ) → sub < a → rises_by (λ u. u.id) a (subs_by us) ≡ true → list_any (λ u. u.live && (u.id == sub && p u)) us ≡ false)
          → list_any (λ u. u.live && (u.id == sub && p u)) (u ∷ us) ≡ false
      step false e again =
          let rest : rises_by (λ (u : Subscription). u.id) b (subs_by us) ≡ true = grind (arith, e, rise) in
          let ih = again b less rest in
          grind (arith, e, ih)
      step true e again =
          let rest : rises_by (λ (u : Subscription). u.id) (u.id + 1) (subs_by us) ≡ true = grind (arith, e, rise) in
          let from : b < u.id + 1 = grind (arith, nat_tests, e, rise) in
          let ih = again (u.id + 1) (omega (arith, less, from)) rest in
          let other : (u.id == sub) ≡ false = grind (arith, nat_tests, less, from) in
          grind (arith, e, other, ih)

  last : (u : Span) (us : List Span) → list_any (λ u. u.live && (u.id == sub && p u)) (u ∷ us) ≡ true → u.live ≡ true → (u.id == sub) ≡ true → (q : Bool) → p u ≡ q
      → list_all (λ u. not (u.live && u.id == sub) || p u) us ≡ true → list_any (λ u. u.live && (u.id == sub && p u)) us ≡ false → list_all (λ u. not (u.live && u.id == sub) || p u) (u ∷ us) ≡ true
  last u us some e is true so all none = grind (arith, e, is, so, all)
  last u us some e is false so all none = let no : false ≡ true = grind (arith, e, is, so, none, some) in absurd (cc)

  pub only-one : (b : ℕ) (us : List Span) → rises_by (λ u. u.id) b (subs_by us) ≡ true → list_any (λ u. u.live && (u.id == sub && p u)) us ≡ true → list_all (λ u. not (u.live && u.id == sub) || p u) us ≡ true
  only-one b [] rise some = refl
  only-one b (u ∷ us) rise some = step u.live refl (u.id == sub) refl (p u) refl (λ a r s. only-one a us r s)
    where
      step : (l : Bool) → u.live ≡ l → (i : Bool) → (u.id == sub) ≡ i → (q : Bool) → p u ≡ q
          → ((a : ℕ) → rises_by (λ u. u.id) a (subs_by us) ≡ true → list_any (λ u. u.live && (u.id == sub && p u)) us ≡ true → list_all (λ u. not (u.live && u.id == sub) || p u) us ≡ true)
          → list_all (λ u. not (u.live && u.id == sub) || p u) (u ∷ us) ≡ true
      step false e i is q so again =
          let rest : rises_by (λ (u : Subscription). u.id) b (subs_by us) ≡ true = grind (arith, e, rise) in
          let more : list_any (λ (u : Span). u.live && (u.id == sub && p u)) us ≡ true = grind (arith, e, some) in
          let ih = again b rest more in
          grind (arith, e, ih)
      step true e false is q so again =
          let rest : rises_by (λ (u : Subscription). u.id) (u.id + 1) (subs_by us) ≡ true = grind (arith, e, rise) in
          let more : list_any (λ (u : Span). u.live && (u.id == sub && p u)) us ≡ true = grind (arith, e, is, some) in
          let ih = again (u.id + 1) rest more in
          grind (arith, e, is, ih)
      step true e true is q so again =
          let rest : rises_by (λ (u : Subscription). u.id) (u.id + 1) (subs_by us) ≡ true = grind (arith, e, rise) in
          let less : sub < u.id + 1 = grind (arith, nat_tests, is) in
          last u us some e is q so (later-all (u.id + 1) us less rest) (later-none (u.id + 1) us less rest)

-- Lines of other topics stay.

silent-filter : (o : ℕ → Bool) (ms : List Listener) → list_all (λ m. not (o m.sub)) ms ≡ true → filter (λ m. not (o m.sub)) ms ≡ ms
silent-filter o [] all = refl
silent-filter o (m ∷ ms) all =
    ap (λ b. if b then m ∷ filter (λ m. not (o m.sub)) ms else filter (λ m. not (o m.sub)) ms) (first-true (not (o m.sub)) (list_all (λ m. not (o m.sub)) ms) all)
    ∙ ap (λ x. m ∷ x) (silent-filter o ms (second-true (not (o m.sub)) (list_all (λ m. not (o m.sub)) ms) all))

module _ (t : Topic) (o : ℕ → Bool) where
  -- none of these listens to another topic
  abbrev IsSilent : List Line → Type 0
  IsSilent ls = (s : Topic) → is_same_topic s t ≡ false → list_all (λ m. not (o m.sub)) (members_at s ls) ≡ true

  silent-line : (l : Line) (ls : List Line) → IsSilent (l ∷ ls) → is_same_topic l.topic t ≡ false → line_without o l ≡ l
  silent-line l ls silent other =
      let here = sym (ap (λ b. list_all (λ (m : Listener). not (o m.sub)) (if b then l.members else members_at l.topic ls)) (same-self l.topic)) ∙ silent l.topic other in
      ap (λ ms. record { topic = l.topic; posts = l.posts; members = ms }) (silent-filter o l.members here)

  silent-rest : (l : Line) (ls : List Line) → list_any (λ x. is_same_topic l.topic x.topic) ls ≡ false → IsSilent (l ∷ ls) → IsSilent ls
  silent-rest l ls apart silent s other = step (is_same_topic s l.topic) refl
    where
      step : (b : Bool) → is_same_topic s l.topic ≡ b → list_all (λ m. not (o m.sub)) (members_at s ls) ≡ true
      step true e =
          let none = ap (λ r. list_any (λ (x : Line). is_same_topic r x.topic) ls) (same-topic s l.topic e) ∙ apart in
          ap (list_all (λ (m : Listener). not (o m.sub))) (none-at s ls none)
      step false e = sym (ap (λ b. list_all (λ (m : Listener). not (o m.sub)) (if b then l.members else members_at s ls)) e) ∙ silent s other

  apart-first : (l : Line) (ls : List Line) → are_apart (l ∷ ls) ≡ true → list_any (λ x. is_same_topic l.topic x.topic) ls ≡ false
  apart-first l ls apart = not-false (list_any (λ (x : Line). is_same_topic l.topic x.topic) ls) (first-true (not (list_any (λ (x : Line). is_same_topic l.topic x.topic) ls)) (are_apart ls) apart)
    where
      not-false : (b : Bool) → not b ≡ true → b ≡ false
      not-false true e = cc
      not-false false e = refl

  apart-rest : (l : Line) (ls : List Line) → are_apart (l ∷ ls) ≡ true → are_apart ls ≡ true
  apart-rest l ls apart = second-true (not (list_any (λ (x : Line). is_same_topic l.topic x.topic) ls)) (are_apart ls) apart

  silent-all : (ls : List Line) → are_apart ls ≡ true → list_any (λ x. is_same_topic t x.topic) ls ≡ false → IsSilent ls → map (line_without o) ls ≡ ls
  silent-all [] apart none silent = refl
  silent-all (l ∷ ls) apart none silent =
      let other = topic-other t l.topic false (or-none-first (is_same_topic t l.topic) (list_any (λ (x : Line). is_same_topic t x.topic) ls) none) in
      ap (λ x. x ∷ map (line_without o) ls) (silent-line l ls silent other)
      ∙ ap (λ m. l ∷ m) (silent-all ls (apart-rest l ls apart) (or-none-second (is_same_topic t l.topic) (list_any (λ (x : Line). is_same_topic t x.topic) ls) none) (silent-rest l ls (apart-first l ls apart) silent))

  -- to take them from the line of their topic is to take them from all
  pub dropped-all : (ls : List Line) → are_apart ls ≡ true → IsSilent ls → line_changed t (line_without o) ls ≡ map (line_without o) ls
  dropped-all [] apart silent = refl
  dropped-all (l ∷ ls) apart silent = step (is_same_topic t l.topic) refl (dropped-all ls (apart-rest l ls apart) (silent-rest l ls (apart-first l ls apart) silent))
    where
      rest : IsSilent ls
      rest = silent-rest l ls (apart-first l ls apart) silent

      step : (b : Bool) → is_same_topic t l.topic ≡ b → line_changed t (line_without o) ls ≡ map (line_without o) ls → (if is_same_topic t l.topic then line_without o l ∷ ls else l ∷ line_changed t (line_without o) ls) ≡ line_without o l ∷ map (line_without o) ls
      step true e ih =
          let none = ap (λ r. list_any (λ (x : Line). is_same_topic r x.topic) ls) (same-topic t l.topic e) ∙ apart-first l ls apart in
          ap (λ b. if b then line_without o l ∷ ls else l ∷ line_changed t (line_without o) ls) e ∙ ap (λ m. line_without o l ∷ m) (sym (silent-all ls (apart-rest l ls apart) none rest))
      step false e ih =
          ap (λ b. if b then line_without o l ∷ ls else l ∷ line_changed t (line_without o) ls) e
          ∙ (ap (λ x. x ∷ line_changed t (line_without o) ls) (sym (silent-line l ls silent (topic-other t l.topic false e))) ∙ ap (λ m. line_without o l ∷ m) ih)

  -- where those that end listen to this topic alone
  pub silent-listed : (us : List Span) → list_all (λ u. not (u.live && o u.id) || is_same_topic u.topic t) us ≡ true
      → (s : Topic) → is_same_topic s t ≡ false → list_all (λ m. not (o m.sub)) (members_in s us) ≡ true
  silent-listed [] all s other = refl
  silent-listed (u ∷ us) all s other =
      step u.live refl (is_same_topic u.topic s) refl (o u.id) refl
      (first-true (not (u.live && o u.id) || is_same_topic u.topic t) (list_all (λ u. not (u.live && o u.id) || is_same_topic u.topic t) us) all)
      (silent-listed us (second-true (not (u.live && o u.id) || is_same_topic u.topic t) (list_all (λ u. not (u.live && o u.id) || is_same_topic u.topic t) us) all) s other)
    where
      step : (l : Bool) → u.live ≡ l → (b : Bool) → is_same_topic u.topic s ≡ b → (e : Bool) → o u.id ≡ e → (not (u.live && o u.id) || is_same_topic u.topic t) ≡ true
          → list_all (λ m. not (o m.sub)) (members_in s us) ≡ true → list_all (λ m. not (o m.sub)) (members_in s (u ∷ us)) ≡ true
      step false a b is e so here ih = grind (arith, a, ih)
      step true a false is e so here ih = grind (arith, a, is, ih)
      step true a true is false so here ih = grind (arith, a, is, so, ih)
      step true a true is true so here ih =
          let there : is_same_topic u.topic t ≡ false = ap (λ r. is_same_topic r t) (same-topic u.topic s is) ∙ other in
          let no : false ≡ true = grind (arith, a, so, there, here) in absurd (cc)

-- A place that stands.

pub any-standing : (p : Span → Bool) (d : Slot) (ss : List Slot) (i : ℕ) → i < length ss → (get_or ss i d).kept ≡ true → p (get_or ss i d).place ≡ true → list_any p (standing ss) ≡ true
any-standing p d [] i less kept hit = absurd (omega arith)
any-standing p d (s ∷ ss) zero less kept hit =
    ap (λ k. list_any p (map (λ (x : Slot). x.place) (if k then s ∷ filter (λ x. x.kept) ss else filter (λ x. x.kept) ss))) kept ∙ ap (λ b. b || list_any p (standing ss)) hit
any-standing p d (s ∷ ss) (suc i) less kept hit = step s.kept refl (any-standing p d ss i (omega (arith, less)) kept hit)
  where
    step : (k : Bool) → s.kept ≡ k → list_any p (standing ss) ≡ true → list_any p (standing (s ∷ ss)) ≡ true
    step true e ih = ap (λ k. list_any p (map (λ (x : Slot). x.place) (if k then s ∷ filter (λ x. x.kept) ss else filter (λ x. x.kept) ss))) e ∙ or-later (p s.place) (list_any p (standing ss)) ih
    step false e ih = ap (λ k. list_any p (map (λ (x : Slot). x.place) (if k then s ∷ filter (λ x. x.kept) ss else filter (λ x. x.kept) ss))) e ∙ ih

-- The line of a topic is changed.

module _ (t : Topic) (f : Line → Line) where
  pub first-line : (ls : List Line) → at_first (λ l. is_same_topic t l.topic) f ls ≡ line_changed t f ls
  first-line [] = refl
  first-line (l ∷ ls) = ap (λ x. if is_same_topic t l.topic then f l ∷ ls else l ∷ x) (first-line ls)

  pub no-line-changed : (ls : List Line) → list_any (λ l. is_same_topic t l.topic) ls ≡ false → ls ≡ line_changed t f ls
  no-line-changed [] none = refl
  no-line-changed (l ∷ ls) none =
      let here : is_same_topic t l.topic ≡ false = or-none-first (is_same_topic t l.topic) (list_any (λ l. is_same_topic t l.topic) ls) none in
      let ih = no-line-changed ls (or-none-second (is_same_topic t l.topic) (list_any (λ l. is_same_topic t l.topic) ls) none) in
      ap (λ m. l ∷ m) ih ∙ sym (ap (λ b. if b then f l ∷ ls else l ∷ line_changed t f ls) here)

-- A subscription ends.

module _ (ls : List Line) (us : List Span) (ws : List Waiter) (c n : ℕ) (k : IsLined ls us ws c n) (sub client : ℕ) (t : Topic) (rise : rises_by (λ u. u.id) 0 (subs_by us) ≡ true) where
  -- it listens to this topic alone
  pub lines-are : list_any (λ u. u.live && (u.id == sub && is_same_topic u.topic t)) us ≡ true → line_changed t (line_without (λ id. id == sub)) ls ≡ map (line_without (λ id. id == sub)) ls
  lines-are there =
      dropped-all t (λ id. id == sub) ls k.apart
      (λ s other. ap (list_all (λ (m : Listener). not (m.sub == sub))) (k.listed s) ∙ silent-listed t (λ id. id == sub) us (only-one (λ u. is_same_topic u.topic t) sub 0 us rise there) s other)

  -- it is this client's
  pub spans-are : list_any (λ u. u.live && (u.id == sub && u.client == client)) us ≡ true → map (stopped_of (λ j. j == client) n (λ id. id == sub)) us ≡ map (stopped n (λ id. id == sub)) us
  spans-are own = stopped-all (λ j. j == client) n (λ id. id == sub) us (only-one (λ u. u.client == client) sub 0 us rise own)

-- the topic of the place at which it was found
pub spot-topic : (ss : List Slot) (i client sub : ℕ) (t : Topic) → i < length ss → is_own_at client ss i ≡ true → ((get_or ss i nothing).place.live && (get_or ss i nothing).place.id == sub) ≡ true → t ≡ (get_or ss i nothing).place.topic
    → list_any (λ u. u.live && (u.id == sub && is_same_topic u.topic t)) (standing ss) ≡ true
spot-topic ss i client sub t less own live is =
    any-standing (λ u. u.live && (u.id == sub && is_same_topic u.topic t)) nothing ss i less (first-true (get_or ss i nothing).kept ((get_or ss i nothing).place.client == client) own) (place-topic (get_or ss i nothing).place live is)
  where
    place-topic : (u : Span) → (u.live && u.id == sub) ≡ true → t ≡ u.topic → (u.live && (u.id == sub && is_same_topic u.topic t)) ≡ true
    place-topic u live is =
        both-true u.live (u.id == sub && is_same_topic u.topic t) (first-true u.live (u.id == sub) live)
        (both-true (u.id == sub) (is_same_topic u.topic t) (second-true u.live (u.id == sub) live) (ap (is_same_topic u.topic) is ∙ same-self u.topic))

-- One after another is changed.

module _ (g : Slot → Slot) where
  set-any : (ss : List Slot) (i : ℕ) (e : Slot) → set ss i (g (get_or ss i e)) ≡ set ss i (g (get_or ss i nothing))
  set-any [] i e = refl
  set-any (s ∷ ss) zero e = refl
  set-any (s ∷ ss) (suc i) e = ap (λ m. s ∷ m) (set-any ss i e)

  pub changed-more : (is : List ℕ) (j d : ℕ) (ss : List Slot) (e s : Slot) → j < length is → s ≡ g (get_or ss (get_or is j d) e) → changed_at g (drop (j + 1) is) (set ss (get_or is j d) s) ≡ changed_at g (drop j is) ss
  changed-more is j d ss e s less new =
      ap (changed_at g (drop (j + 1) is)) (ap (set ss (get_or is j d)) new ∙ set-any ss (get_or is j d) e) ∙ changed-next g is j d ss (g (get_or ss (get_or is j d) nothing)) less refl

-- Those of one client after another end.

stopped-twice : (stop : ℕ) (over : ℕ → Bool) (u : Span) → stopped stop over (stopped stop over u) ≡ stopped stop over u
stopped-twice stop over u = step (u.live && over u.id) refl
  where
    step : (b : Bool) → (u.live && over u.id) ≡ b → stopped stop over (stopped stop over u) ≡ stopped stop over u
    step true e =
        let at : stopped stop over u ≡ record u { stop = stop; live = false } = ap (λ b. if b then record u { stop = stop; live = false } else u) e in
        ap (stopped stop over) at ∙ sym at
    step false e =
        let at : stopped stop over u ≡ u = ap (λ b. if b then record u { stop = stop; live = false } else u) e in
        ap (stopped stop over) at

and-twice : (a b : Bool) → ((a && b) && b) ≡ (a && b)
and-twice true true = refl
and-twice true false = refl
and-twice false b = refl

and-or : (k b a : Bool) → (k && b) ≡ false → (k && a) ≡ (k && (b || a))
and-or true true a e = cc
and-or true false a e = refl
and-or false b a e = refl

or-more : (a b c : Bool) → (b ≡ true → c ≡ true) → (a || b) ≡ true → (a || c) ≡ true
or-more true b c more e = refl
or-more false b c more e = more e

module _ (stop next : ℕ) (over : ℕ → Bool) (logs : List TopicLog) where
  abbrev slot_end : Slot → Slot
  slot_end s = slot_ended stop next over logs s

  abbrev own_end : (ℕ → Bool) → Slot → Slot
  own_end own s = own_ended own stop next over logs s

  end-twice : (s : Slot) → slot_end (slot_end s) ≡ slot_end s
  end-twice s =
      let u = stopped stop over s.place in
      ap (λ v. record { place = v; kept = (s.kept && remains over logs next u) && remains over logs next v }) (stopped-twice stop over s.place)
      ∙ ap (λ b. record { place = u; kept = b }) (and-twice s.kept (remains over logs next u))

  pick-end : (b : Bool) (s : Slot) → (if b then slot_end (slot_end s) else slot_end s) ≡ slot_end s
  pick-end true s = end-twice s
  pick-end false s = refl

  own-twice : (a b : ℕ → Bool) (s : Slot) → own_end a (own_end b s) ≡ own_end (λ k. b k || a k) s
  own-twice a b s = step (s.kept && b s.place.client) refl
    where
      step : (h : Bool) → (s.kept && b s.place.client) ≡ h → own_end a (own_end b s) ≡ own_end (λ k. b k || a k) s
      step true e =
          let here : own_end b s ≡ slot_end s = ap (λ h. if h then slot_end s else s) e in
          let both : (s.kept && (b s.place.client || a s.place.client)) ≡ true =
          both-true s.kept (b s.place.client || a s.place.client) (first-true s.kept (b s.place.client) e) (ap (λ h. h || a s.place.client) (second-true s.kept (b s.place.client) e)) in
          ap (own_end a) here ∙ (pick-end ((slot_end s).kept && a (slot_end s).place.client) s ∙ sym (ap (λ h. if h then slot_end s else s) both))
      step false e =
          let here : own_end b s ≡ s = ap (λ h. if h then slot_end s else s) e in
          ap (own_end a) here ∙ ap (λ h. if h then slot_end s else s) (and-or s.kept (b s.place.client) (a s.place.client) e)

  own-as : (a b : ℕ → Bool) → ((k : ℕ) → a k ≡ b k) → (s : Slot) → own_end a s ≡ own_end b s
  own-as a b same s = ap (λ h. if s.kept && h then slot_end s else s) (same s.place.client)

  -- at first none has ended
  pub ended-none : (ss : List Slot) → ss ≡ map (own_end (ends_for over [])) ss
  ended-none [] = refl
  ended-none (s ∷ ss) = sym (ap (λ h. (if h then slot_end s else s) ∷ map (own_end (ends_for over [])) ss) (second-false s.kept false refl) ∙ ap (λ m. s ∷ m) (sym (ended-none ss)))

  module _ (ms : List Listener) (i : ℕ) (d : Listener) (less : i < length ms) where
    ends-next : (k : ℕ) → ends_for over (take (i + 1) ms) k ≡ (ends_for over (take i ms) k || (over (get_or ms i d).sub && k == (get_or ms i d).client))
    ends-next k = list_any_more (λ (m : Listener). over m.sub && k == m.client) ms i d less

    -- one member more, that ends
    pub ended-member-more : (ss now new : List Slot) → over (get_or ms i d).sub ≡ true → now ≡ map (own_end (ends_for over (take i ms))) ss → new ≡ map (own_end (λ k. k == (get_or ms i d).client)) now
        → new ≡ map (own_end (ends_for over (take (i + 1) ms))) ss
    ended-member-more ss now new yes' before is =
        is ∙ (ap (map (own_end (λ k. k == (get_or ms i d).client))) before
        ∙ (map-two (own_end (ends_for over (take i ms))) (own_end (λ k. k == (get_or ms i d).client)) ss
        ∙ map-as (λ s. own_end (λ k. k == (get_or ms i d).client) (own_end (ends_for over (take i ms)) s)) (own_end (ends_for over (take (i + 1) ms)))
        (λ s. own-twice (λ k. k == (get_or ms i d).client) (ends_for over (take i ms)) s
        ∙ own-as (λ k. ends_for over (take i ms) k || k == (get_or ms i d).client) (ends_for over (take (i + 1) ms))
        (λ k. sym (ends-next k ∙ ap (λ b. ends_for over (take i ms) k || (b && k == (get_or ms i d).client)) yes')) s) ss))

    or-none : (b : Bool) → (b || false) ≡ b
    or-none true = refl
    or-none false = refl

    -- one that stays
    pub ended-member-less : (ss now : List Slot) → over (get_or ms i d).sub ≡ false → now ≡ map (own_end (ends_for over (take i ms))) ss → now ≡ map (own_end (ends_for over (take (i + 1) ms))) ss
    ended-member-less ss now stays before =
        before
        ∙ map-as (own_end (ends_for over (take i ms))) (own_end (ends_for over (take (i + 1) ms)))
        (own-as (ends_for over (take i ms)) (ends_for over (take (i + 1) ms))
        (λ k. sym (ends-next k ∙ (ap (λ b. ends_for over (take i ms) k || (b && k == (get_or ms i d).client)) stays ∙ or-none (ends_for over (take i ms) k))))) ss

-- What a publish ends listens to its topic.

pub ended-member : (x : ℕ) (ms : List Listener) (ws : List Waiter) → is_over (ended_after ms ws) x ≡ true → list_any (λ m. m.sub == x) ms ≡ true
ended-member x [] ws e = e
ended-member x (m ∷ ms) ws e = step (is_crowded m.client ws) e (ended-member x ms (waiters_by m ws))
  where
    step : (f : Bool) → is_over (cons_option (if f then Some m.sub else None) (ended_after ms (waiters_by m ws))) x ≡ true
        → (is_over (ended_after ms (waiters_by m ws)) x ≡ true → list_any (λ m. m.sub == x) ms ≡ true) → (m.sub == x || list_any (λ m. m.sub == x) ms) ≡ true
    step true e ih = or-more (m.sub == x) (is_over (ended_after ms (waiters_by m ws)) x) (list_any (λ m. m.sub == x) ms) ih e
    step false e ih = or-later (m.sub == x) (list_any (λ m. m.sub == x) ms) (ih e)

pub live-member : (x : ℕ) (t : Topic) (us : List Span) → list_any (λ m. m.sub == x) (members_in t us) ≡ true → list_any (λ u. u.live && (u.id == x && is_same_topic u.topic t)) us ≡ true
live-member x t [] some = some
live-member x t (u ∷ us) some = step u.live refl (is_same_topic u.topic t) refl (live-member x t us)
  where
    step : (l : Bool) → u.live ≡ l → (b : Bool) → is_same_topic u.topic t ≡ b → (list_any (λ m. m.sub == x) (members_in t us) ≡ true → list_any (λ u. u.live && (u.id == x && is_same_topic u.topic t)) us ≡ true)
        → list_any (λ u. u.live && (u.id == x && is_same_topic u.topic t)) (u ∷ us) ≡ true
    step false e b is again =
        let more : list_any (λ (m : Listener). m.sub == x) (members_in t us) ≡ true = grind (arith, e, some) in
        let ih = again more in
        grind (arith, e, ih)
    step true e false is again =
        let more : list_any (λ (m : Listener). m.sub == x) (members_in t us) ≡ true = grind (arith, e, is, some) in
        let ih = again more in
        grind (arith, e, is, ih)
    step true e true is again = both (u.id == x) refl
      where
        both : (h : Bool) → (u.id == x) ≡ h → list_any (λ u. u.live && (u.id == x && is_same_topic u.topic t)) (u ∷ us) ≡ true
        both true hit = grind (arith, e, is, hit)
        both false miss =
            let more : list_any (λ (m : Listener). m.sub == x) (members_in t us) ≡ true = grind (arith, e, is, miss, some) in
            let ih = again more in
            grind (arith, e, is, miss, ih)

-- what is so of those of each number is so of all
pub all-among : (p : Span → Bool) (o : ℕ → Bool) (us : List Span) → ((x : ℕ) → o x ≡ true → list_all (λ u. not (u.live && u.id == x) || p u) us ≡ true) → list_all (λ u. not (u.live && o u.id) || p u) us ≡ true
all-among p o [] each = refl
all-among p o (u ∷ us) each =
    both-true (not (u.live && o u.id) || p u) (list_all (λ u. not (u.live && o u.id) || p u) us) (here u.live refl (o u.id) refl)
    (all-among p o us (λ x is. second-true (not (u.live && u.id == x) || p u) (list_all (λ u. not (u.live && u.id == x) || p u) us) (each x is)))
  where
    here : (l : Bool) → u.live ≡ l → (b : Bool) → o u.id ≡ b → (not (u.live && o u.id) || p u) ≡ true
    here false e b is = ap (λ l. not (l && o u.id) || p u) e
    here true e false is = ap (λ b. not b || p u) (second-false u.live (o u.id) is)
    here true e true is =
        let one = first-true (not (u.live && u.id == u.id) || p u) (list_all (λ u'. not (u'.live && u'.id == u.id) || p u') us) (each u.id is) in
        let same : (u.id == u.id) ≡ true = grind (arith, nat_tests) in
        grind (arith, e, same, one)

module _ (t : Topic) (o : ℕ → Bool) where
  own-within : (all : List Listener) (us : List Span) → ((k : ℕ) → ends_for o (members_in t us) k ≡ true → ends_for o all k ≡ true) → list_all (λ u. not (u.live && o u.id) || is_same_topic u.topic t) us ≡ true
      → list_all (λ u. not (u.live && o u.id) || ends_for o all u.client) us ≡ true
  own-within all [] more topics = refl
  own-within all (u ∷ us) more topics =
      both-true (not (u.live && o u.id) || ends_for o all u.client) (list_all (λ u. not (u.live && o u.id) || ends_for o all u.client) us)
      (here u.live refl (o u.id) refl (first-true (not (u.live && o u.id) || is_same_topic u.topic t) (list_all (λ u. not (u.live && o u.id) || is_same_topic u.topic t) us) topics))
      (own-within all us (λ k is. more k (later k (is_reached_by t u) is)) (second-true (not (u.live && o u.id) || is_same_topic u.topic t) (list_all (λ u. not (u.live && o u.id) || is_same_topic u.topic t) us) topics))
    where
      later : (k : ℕ) (b : Bool) → ends_for o (members_in t us) k ≡ true → ends_for o (map listener (if b then u ∷ filter (is_reached_by t) us else filter (is_reached_by t) us)) k ≡ true
      later k true is = or-later (o u.id && k == u.client) (ends_for o (members_in t us) k) is
      later k false is = is

      here : (l : Bool) → u.live ≡ l → (b : Bool) → o u.id ≡ b → (not (u.live && o u.id) || is_same_topic u.topic t) ≡ true → (not (u.live && o u.id) || ends_for o all u.client) ≡ true
      here false e b is topic = ap (λ l. not (l && o u.id) || ends_for o all u.client) e
      here true e false is topic = ap (λ b. not b || ends_for o all u.client) (second-false u.live (o u.id) is)
      here true e true is topic =
          let there : is_same_topic u.topic t ≡ true = grind (arith, e, is, topic) in
          let same : (u.client == u.client) ≡ true = grind (arith, nat_tests) in
          let member : ends_for o (members_in t (u ∷ us)) u.client ≡ true = grind (arith, e, is, there, same) in
          or-later (not (u.live && o u.id)) (ends_for o all u.client) (more u.client member)

  pub own-listed : (us : List Span) → list_all (λ u. not (u.live && o u.id) || is_same_topic u.topic t) us ≡ true → list_all (λ u. not (u.live && o u.id) || ends_for o (members_in t us) u.client) us ≡ true
  own-listed us topics = own-within (members_in t us) us (λ k is. is) topics
