-- A message that is posted to the log of its topic.
use Rattle.std.proofs.Common.{◌≡◌, ℕ, suc, ◌+◌, ◌≤◌, Bool, true, false, List, [], ◌∷◌, ◌++◌, length, get_or, set, refl, sym, ◌∙◌, ap, arith}
use Rattle.std.specs.Prelude.{◌==◌, ◌&&◌, nat_le, nat_lt, filter, map, if◌then◌else◌, bytes_eq, slice_set, slice_index_or, Some, None, position}
use Rattle.std.specs.List.{list_all, position_or_len}
use Rattle.std.proofs.lemmas.Bool.Decides.{nat_tests}
use Rattle.std.proofs.lemmas.Slice.Eq.{bytes_eq-Decides}
use Rattle.amf_broker.specs.declared.topic.Topic.{Topic}
use Rattle.amf_broker.specs.declared.reply.Delivery.{Delivery}
use Rattle.amf_broker.specs.Machine.{is_same_topic}
use Rattle.amf_broker.specs.Delivery.{Message}
use Rattle.amf_broker.specs.Lines.{TopicLog, Span, posts_of, posted, is_covered, delivered, covered, spans_of, gathered, put_all, waits}

both-first : (a b : Bool) → (a && b) ≡ true → a ≡ true
both-first true b e = refl
both-first false b e = cc

both-second : (a b : Bool) → (a && b) ≡ true → b ≡ true
both-second true b e = e
both-second false b e = cc

pub same-topic : (s t : Topic) → is_same_topic s t ≡ true → s ≡ t
same-topic s t e =
    let d : s.destination ≡ t.destination = (bytes_eq-Decides s.destination t.destination).0 (both-first (bytes_eq s.destination t.destination) (bytes_eq s.subtopic t.subtopic) e) in
    let u : s.subtopic ≡ t.subtopic = (bytes_eq-Decides s.subtopic t.subtopic).0 (both-second (bytes_eq s.destination t.destination) (bytes_eq s.subtopic t.subtopic) e) in
    ap (λ x. record { destination = x; subtopic = s.subtopic }) d ∙ ap (λ x. record { destination = t.destination; subtopic = x }) u

pub same-self : (t : Topic) → is_same_topic t t ≡ true
same-self t = both (bytes_eq t.destination t.destination) (bytes_eq t.subtopic t.subtopic) ((bytes_eq-Decides t.destination t.destination).1 refl) ((bytes_eq-Decides t.subtopic t.subtopic).1 refl)
  where
    both : (a b : Bool) → a ≡ true → b ≡ true → (a && b) ≡ true
    both a b p q = grind (arith, p, q)

pub posts-own : (t : Topic) (m : Message) (logs : List TopicLog) → posts_of t (posted t m logs) ≡ posts_of t logs ++ (m ∷ [])
posts-own t m [] = let self = same-self t in grind (arith, self)
posts-own t m (l ∷ logs) = step (is_same_topic t l.topic) refl (posts-own t m logs)
  where
    step : (b : Bool) → is_same_topic t l.topic ≡ b → posts_of t (posted t m logs) ≡ posts_of t logs ++ (m ∷ []) → posts_of t (posted t m (l ∷ logs)) ≡ posts_of t (l ∷ logs) ++ (m ∷ [])
    step true e ih = grind (arith, e, ih)
    step false e ih = grind (arith, e, ih)

pub posts-other : (s t : Topic) (m : Message) (logs : List TopicLog) → is_same_topic s t ≡ false → posts_of s (posted t m logs) ≡ posts_of s logs
posts-other s t m [] other = grind (arith, other)
posts-other s t m (l ∷ logs) other = step (is_same_topic t l.topic) refl (posts-other s t m logs other)
  where
    step : (b : Bool) → is_same_topic t l.topic ≡ b → posts_of s (posted t m logs) ≡ posts_of s logs → posts_of s (posted t m (l ∷ logs)) ≡ posts_of s (l ∷ logs)
    step true e ih =
        let same = same-topic t l.topic e in
        let not-here : is_same_topic s l.topic ≡ false = ap (is_same_topic s) (sym same) ∙ other in
        grind (arith, e, not-here)
    step false e ih = grind (arith, e, ih)

-- nobody covers it yet
filter-more : (start stop : ℕ) (ms : List Message) (m : Message) → stop ≤ m.number → filter (is_covered start stop) (ms ++ (m ∷ [])) ≡ filter (is_covered start stop) ms
filter-more start stop [] m less = grind (arith, nat_tests, less)
filter-more start stop (x ∷ ms) m less = let ih = filter-more start stop ms m less in grind (arith, nat_tests, ih, less)

pub covered-posted : (t : Topic) (m : Message) (logs : List TopicLog) (u : Span) → u.stop ≤ m.number → covered (posted t m logs) u ≡ covered logs u
covered-posted t m logs u less = step (is_same_topic u.topic t) refl
  where
    step : (b : Bool) → is_same_topic u.topic t ≡ b → covered (posted t m logs) u ≡ covered logs u
    step true e =
        let same : t ≡ u.topic = sym (same-topic u.topic t e) in
        let own : posts_of u.topic (posted t m logs) ≡ posts_of u.topic logs ++ (m ∷ []) = rw same (posts-own u.topic m logs) in
        ap (λ ms. map (delivered u.id) (filter (is_covered u.start u.stop) ms)) own ∙ ap (λ ms. map (delivered u.id) ms) (filter-more u.start u.stop (posts_of u.topic logs) m less)
    step false e = ap (λ ms. map (delivered u.id) (filter (is_covered u.start u.stop) ms)) (posts-other u.topic t m logs e)

gathered-posted : (t : Topic) (m : Message) (logs : List TopicLog) (k : ℕ) (us : List Span) → list_all (λ u. nat_le u.stop m.number) us ≡ true → gathered (posted t m logs) (spans_of k us) ≡ gathered logs (spans_of k us)
gathered-posted t m logs k [] all = refl
gathered-posted t m logs k (u ∷ us) all =
    let less : u.stop ≤ m.number = grind (arith, nat_tests, all) in
    let rest : list_all (λ u. nat_le u.stop m.number) us ≡ true = grind (arith, nat_tests, all) in
    let ih = gathered-posted t m logs k us rest in
    let one = covered-posted t m logs u less in
    elim (u.client == k) as (λ b. gathered (posted t m logs) (if b then u ∷ spans_of k us else spans_of k us) ≡ gathered logs (if b then u ∷ spans_of k us else spans_of k us)) [
      | true ↦ ap (λ x. x ++ gathered (posted t m logs) (spans_of k us)) one ∙ ap (λ x. covered logs u ++ x) ih
      | false ↦ ih
    ]

pub waits-posted : (t : Topic) (m : Message) (logs : List TopicLog) (us : List Span) (k : ℕ) → list_all (λ u. nat_le u.stop m.number) us ≡ true → waits (posted t m logs) us k ≡ waits logs us k
waits-posted t m logs us k all = ap (λ x. put_all x []) (gathered-posted t m logs k us all)

-- a place that moves past it
filter-step : (start stop : ℕ) (ms : List Message) (m : Message) → start ≤ m.number → stop ≤ m.number → list_all (λ p. nat_lt p.number stop) ms ≡ true
    → filter (is_covered start (m.number + 1)) (ms ++ (m ∷ [])) ≡ filter (is_covered start stop) (ms ++ (m ∷ [])) ++ (m ∷ [])
filter-step start stop [] m from less all = grind (arith, nat_tests, from, less)
filter-step start stop (x ∷ ms) m from less all =
    let rest : list_all (λ p. nat_lt p.number stop) ms ≡ true = grind (arith, nat_tests, all) in
    let one : nat_lt x.number stop ≡ true = grind (arith, nat_tests, all) in
    let ih = filter-step start stop ms m from less rest in
    grind (arith, nat_tests, ih, from, less, one)

map-append : (f : Message → Delivery) (xs ys : List Message) → map f (xs ++ ys) ≡ map f xs ++ map f ys
map-append f [] ys = refl
map-append f (x ∷ xs) ys = ap (λ m. f x ∷ m) (map-append f xs ys)

pub covered-given : (t : Topic) (m : Message) (logs : List TopicLog) (u : Span) → is_same_topic u.topic t ≡ true → u.start ≤ m.number → u.stop ≤ m.number
    → list_all (λ p. nat_lt p.number u.stop) (posts_of u.topic logs) ≡ true
    → covered (posted t m logs) (record u { stop = m.number + 1 }) ≡ covered (posted t m logs) u ++ (delivered u.id m ∷ [])
covered-given t m logs u e from less all =
    let same : t ≡ u.topic = sym (same-topic u.topic t e) in
    let own : posts_of u.topic (posted t m logs) ≡ posts_of u.topic logs ++ (m ∷ []) = rw same (posts-own u.topic m logs) in
    let part = filter-step u.start u.stop (posts_of u.topic logs) m from less all in
    ap (λ ms. map (delivered u.id) (filter (is_covered u.start (m.number + 1)) ms)) own
    ∙ (ap (map (delivered u.id)) part
    ∙ (map-append (delivered u.id) (filter (is_covered u.start u.stop) (posts_of u.topic logs ++ (m ∷ []))) (m ∷ [])
    ∙ ap (λ ms. map (delivered u.id) (filter (is_covered u.start u.stop) ms) ++ (delivered u.id m ∷ [])) (sym own)))

-- The log of a topic at its place.

at-suc : (c : TopicLog) (cs : List TopicLog) (n : ℕ) (v : TopicLog) → set (c ∷ cs) (1 + n) v ≡ c ∷ set cs n v
at-suc c cs n v = let e : 1 + n ≡ suc n = omega arith in rw e refl

get-suc : (c : TopicLog) (cs : List TopicLog) (n : ℕ) (d : TopicLog) → get_or (c ∷ cs) (1 + n) d ≡ get_or cs n d
get-suc c cs n d = let e : 1 + n ≡ suc n = omega arith in rw e refl

abbrev pub with_post : Message → TopicLog → TopicLog
with_post m l = record { topic = l.topic; posts = l.posts ++ (m ∷ []) }

posted-place : (t : Topic) (m : Message) (d : TopicLog) (logs : List TopicLog) → nat_lt (position_or_len (λ l. is_same_topic t l.topic) logs) (length logs) ≡ true
    → posted t m logs ≡ slice_set logs (position_or_len (λ l. is_same_topic t l.topic) logs) (with_post m (slice_index_or logs (position_or_len (λ l. is_same_topic t l.topic) logs) d))
posted-place t m d [] here = cc
posted-place t m d (l ∷ logs) here =
    let n = position_or_len (λ (l : TopicLog). is_same_topic t l.topic) logs in
    let one = at-suc l logs n (with_post m (get_or logs n d)) in
    let two = get-suc l logs n d in
    step one two (is_same_topic t l.topic) refl (posted-place t m d logs)
  where
    step : set (l ∷ logs) (1 + position_or_len (λ (l : TopicLog). is_same_topic t l.topic) logs) (with_post m (get_or logs (position_or_len (λ (l : TopicLog). is_same_topic t l.topic) logs) d)) ≡ l ∷ set logs (position_or_len (λ (l : TopicLog). is_same_topic t l.topic) logs) (with_post m (get_or logs (position_or_len (λ (l : TopicLog). is_same_topic t l.topic) logs) d))
        → get_or (l ∷ logs) (1 + position_or_len (λ (l : TopicLog). is_same_topic t l.topic) logs) d ≡ get_or logs (position_or_len (λ (l : TopicLog). is_same_topic t l.topic) logs) d
        → (b : Bool) → is_same_topic t l.topic ≡ b
        → (nat_lt (position_or_len (λ l. is_same_topic t l.topic) logs) (length logs) ≡ true → posted t m logs ≡ slice_set logs (position_or_len (λ l. is_same_topic t l.topic) logs) (with_post m (slice_index_or logs (position_or_len (λ l. is_same_topic t l.topic) logs) d)))
        → posted t m (l ∷ logs) ≡ slice_set (l ∷ logs) (position_or_len (λ l. is_same_topic t l.topic) (l ∷ logs)) (with_post m (slice_index_or (l ∷ logs) (position_or_len (λ l. is_same_topic t l.topic) (l ∷ logs)) d))
    step one two true e ih = grind (arith, e)
    step one two false e ih =
        let further : nat_lt (position_or_len (λ (l : TopicLog). is_same_topic t l.topic) logs) (length logs) ≡ true = grind (arith, nat_tests, e, here) in
        let later = ih further in
        grind (arith, e, one, two, later)

place-some : (t : Topic) (logs : List TopicLog) (i : ℕ) (b : Bool) → Some i ≡ (if b then Some (position_or_len (λ l. is_same_topic t l.topic) logs) else None) → (i ≡ position_or_len (λ l. is_same_topic t l.topic) logs) × (b ≡ true)
place-some t logs i true is = (cc, refl)
place-some t logs i false is = cc

pub posted-at : (t : Topic) (m : Message) (logs : List TopicLog) (i : ℕ) (d l : TopicLog) → Some i ≡ position (λ l. is_same_topic t l.topic) logs → l ≡ with_post m (slice_index_or logs i d) → slice_set logs i l ≡ posted t m logs
posted-at t m logs i d l is new =
    let place = place-some t logs i (nat_lt (position_or_len (λ (l : TopicLog). is_same_topic t l.topic) logs) (length logs)) is in
    rw (new, place.0) (sym (posted-place t m d logs place.1))

none-place : (t : Topic) (m : Message) (l : TopicLog) (logs : List TopicLog) → nat_lt (position_or_len (λ l. is_same_topic t l.topic) logs) (length logs) ≡ false → l ≡ record { topic = t; posts = m ∷ [] } → logs ++ (l ∷ []) ≡ posted t m logs
none-place t m l [] none new = rw new refl
none-place t m l (x ∷ logs) none new = step (is_same_topic t x.topic) refl (λ h. none-place t m l logs h new)
  where
    step : (b : Bool) → is_same_topic t x.topic ≡ b → (nat_lt (position_or_len (λ l. is_same_topic t l.topic) logs) (length logs) ≡ false → logs ++ (l ∷ []) ≡ posted t m logs) → (x ∷ logs) ++ (l ∷ []) ≡ posted t m (x ∷ logs)
    step true e ih = grind (arith, nat_tests, e, none)
    step false e ih =
        let further : nat_lt (position_or_len (λ (l : TopicLog). is_same_topic t l.topic) logs) (length logs) ≡ false = grind (arith, nat_tests, e, none) in
        let later = ih further in
        grind (arith, e, later)

not-there : (t : Topic) (logs : List TopicLog) (b : Bool) → None ≡ (if b then Some (position_or_len (λ l. is_same_topic t l.topic) logs) else None) → b ≡ false
not-there t logs true is = cc
not-there t logs false is = refl

pub posted-new : (t : Topic) (m : Message) (l : TopicLog) (logs : List TopicLog) → None ≡ position (λ l. is_same_topic t l.topic) logs → l ≡ record { topic = t; posts = m ∷ [] } → logs ++ (l ∷ []) ≡ posted t m logs
posted-new t m l logs is new = none-place t m l logs (not-there t logs (nat_lt (position_or_len (λ (l : TopicLog). is_same_topic t l.topic) logs) (length logs)) is) new
