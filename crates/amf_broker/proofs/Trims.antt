-- Messages that nobody waits for: nothing is seen of their going.
use Rattle.std.proofs.Common.{◌≡◌, ℕ, zero, suc, ◌<◌, ◌≤◌, Bool, true, false, not, List, [], ◌∷◌, ◌++◌, length, get_or, set, refl, sym, ◌∙◌, ap, arith}
use Rattle.std.specs.Prelude.{◌==◌, ◌&&◌, ◌||◌, nat_le, nat_lt, filter, map, if◌then◌else◌}
use Rattle.std.specs.List.{list_all, list_any}
use Rattle.std.proofs.lemmas.Bool.Decides.{nat_tests}
use Rattle.amf_broker.specs.declared.topic.Topic.{Topic}
use Rattle.amf_broker.specs.Machine.{is_same_topic}
use Rattle.amf_broker.specs.Delivery.{Message}
use Rattle.amf_broker.specs.Lines.{Span, Waiter, IsKept, floor, posts_of, posts_before, is_covered, delivered, covered, spans_of, gathered, put_all, waits, subs_by, is_above, is_reached_by}
use Rattle.amf_broker.specs.Members.{Line, logs_of, listener, members_in, members_at, are_apart, raised, IsLined, floor_of}
use Rattle.amf_broker.specs.Trims.{is_first, is_debt, is_owed, is_needed, IsTrimmed, is_wanted, is_kept}
use Rattle.amf_broker.proofs.Floors.{all-filter, all-append, all-weaker, counts-as}
use Rattle.amf_broker.proofs.Publishes.{clients-logs}
use Rattle.amf_broker.proofs.Posts.{same-topic, same-self}
use Rattle.amf_broker.proofs.Enlists.{topic-other}

-- the line of the topic with these messages alone
abbrev pub trimmed_line : Topic → (Message → Bool) → List Line → List Line
trimmed_line topic p [] = []
trimmed_line topic p (l ∷ ls) = if is_same_topic topic l.topic then record l { posts = filter p l.posts } ∷ ls else l ∷ trimmed_line topic p ls

filter-needed : (q p : Message → Bool) → ((m : Message) → q m ≡ true → p m ≡ true) → (ms : List Message) → filter q (filter p ms) ≡ filter q ms
filter-needed q p needs [] = refl
filter-needed q p needs (m ∷ ms) = step (q m) (p m) refl refl (filter-needed q p needs ms)
  where
    step : (a b : Bool) → q m ≡ a → p m ≡ b → filter q (filter p ms) ≡ filter q ms → filter q (if b then m ∷ filter p ms else filter p ms) ≡ (if a then m ∷ filter q ms else filter q ms)
    step true true e is ih = grind (arith, e, ih)
    step true false e is ih = let yes = needs m e in let no : true ≡ false = sym yes ∙ is in absurd (cc)
    step false true e is ih = grind (arith, e, ih)
    step false false e is ih = ih

module _ (t : Topic) (p : Message → Bool) where
  pub members-trimmed : (ls : List Line) (s : Topic) → members_at s (trimmed_line t p ls) ≡ members_at s ls
  members-trimmed [] s = refl
  members-trimmed (l ∷ ls) s = step (is_same_topic t l.topic) (members-trimmed ls s)
    where
      step : (b : Bool) → members_at s (trimmed_line t p ls) ≡ members_at s ls → members_at s (if b then record l { posts = filter p l.posts } ∷ ls else l ∷ trimmed_line t p ls) ≡ members_at s (l ∷ ls)
      step true ih = refl
      step false ih = ap (λ x. if is_same_topic s l.topic then l.members else x) ih

  any-trimmed : (s : Topic) (ls : List Line) → list_any (λ x. is_same_topic s x.topic) (trimmed_line t p ls) ≡ list_any (λ x. is_same_topic s x.topic) ls
  any-trimmed s [] = refl
  any-trimmed s (l ∷ ls) = step (is_same_topic t l.topic) (any-trimmed s ls)
    where
      step : (b : Bool) → list_any (λ x. is_same_topic s x.topic) (trimmed_line t p ls) ≡ list_any (λ x. is_same_topic s x.topic) ls → list_any (λ x. is_same_topic s x.topic) (if b then record l { posts = filter p l.posts } ∷ ls else l ∷ trimmed_line t p ls) ≡ list_any (λ x. is_same_topic s x.topic) (l ∷ ls)
      step true ih = refl
      step false ih = ap (λ b. is_same_topic s l.topic || b) ih

  pub apart-trimmed : (ls : List Line) → are_apart (trimmed_line t p ls) ≡ are_apart ls
  apart-trimmed [] = refl
  apart-trimmed (l ∷ ls) = step (is_same_topic t l.topic) (apart-trimmed ls)
    where
      step : (b : Bool) → are_apart (trimmed_line t p ls) ≡ are_apart ls → are_apart (if b then record l { posts = filter p l.posts } ∷ ls else l ∷ trimmed_line t p ls) ≡ are_apart (l ∷ ls)
      step true ih = refl
      step false ih = ap (λ b. not b && are_apart (trimmed_line t p ls)) (any-trimmed l.topic ls) ∙ ap (λ b. not (list_any (λ x. is_same_topic l.topic x.topic) ls) && b) ih

  posts-own : (ls : List Line) → posts_of t (logs_of (trimmed_line t p ls)) ≡ filter p (posts_of t (logs_of ls))
  posts-own [] = refl
  posts-own (l ∷ ls) = step (is_same_topic t l.topic) refl (posts-own ls)
    where
      step : (b : Bool) → is_same_topic t l.topic ≡ b → posts_of t (logs_of (trimmed_line t p ls)) ≡ filter p (posts_of t (logs_of ls))
          → posts_of t (logs_of (if b then record l { posts = filter p l.posts } ∷ ls else l ∷ trimmed_line t p ls)) ≡ filter p (if b then l.posts else posts_of t (logs_of ls))
      step true e ih = ap (λ b. if b then filter p l.posts else posts_of t (logs_of ls)) e
      step false e ih = ap (λ b. if b then l.posts else posts_of t (logs_of (trimmed_line t p ls))) e ∙ ih

  posts-other : (s : Topic) → is_same_topic s t ≡ false → (ls : List Line) → posts_of s (logs_of (trimmed_line t p ls)) ≡ posts_of s (logs_of ls)
  posts-other s other [] = refl
  posts-other s other (l ∷ ls) = step (is_same_topic t l.topic) refl (posts-other s other ls)
    where
      step : (b : Bool) → is_same_topic t l.topic ≡ b → posts_of s (logs_of (trimmed_line t p ls)) ≡ posts_of s (logs_of ls)
          → posts_of s (logs_of (if b then record l { posts = filter p l.posts } ∷ ls else l ∷ trimmed_line t p ls)) ≡ posts_of s (logs_of (l ∷ ls))
      step true e ih =
          let not-here : is_same_topic s l.topic ≡ false = ap (is_same_topic s) (sym (same-topic t l.topic e)) ∙ other in
          ap (λ b. if b then filter p l.posts else posts_of s (logs_of ls)) not-here ∙ sym (ap (λ b. if b then l.posts else posts_of s (logs_of ls)) not-here)
      step false e ih = ap (λ x. if is_same_topic s l.topic then l.posts else x) ih

  pub before-trimmed : (n : ℕ) (ls : List Line) → posts_before n (logs_of ls) ≡ true → posts_before n (logs_of (trimmed_line t p ls)) ≡ true
  before-trimmed n [] all = refl
  before-trimmed n (l ∷ ls) all =
      let here : list_all (λ x. nat_lt x.number n) l.posts ≡ true = grind (arith, all) in
      let rest : posts_before n (logs_of ls) ≡ true = grind (arith, all) in
      let less = all-filter (λ x. nat_lt x.number n) p l.posts here in
      step (is_same_topic t l.topic) here rest less (before-trimmed n ls rest)
    where
      step : (b : Bool) → list_all (λ x. nat_lt x.number n) l.posts ≡ true → posts_before n (logs_of ls) ≡ true → list_all (λ x. nat_lt x.number n) (filter p l.posts) ≡ true → posts_before n (logs_of (trimmed_line t p ls)) ≡ true
          → posts_before n (logs_of (if b then record l { posts = filter p l.posts } ∷ ls else l ∷ trimmed_line t p ls)) ≡ true
      step true here rest less ih = grind (arith, less, rest)
      step false here rest less ih = grind (arith, here, ih)

  -- a place that needs no other messages
  abbrev pub NeedsOnly : Span → Type 0
  NeedsOnly u = is_same_topic u.topic t ≡ true → (m : Message) → is_covered u.start u.stop m ≡ true → p m ≡ true

  abbrev pub NeedOnly : List Span → Type 0
  NeedOnly [] = Unit {0}
  NeedOnly (u ∷ us) = NeedsOnly u × NeedOnly us

  covered-trimmed : (ls : List Line) (u : Span) → NeedsOnly u → covered (logs_of (trimmed_line t p ls)) u ≡ covered (logs_of ls) u
  covered-trimmed ls u needs = ap (map (delivered u.id)) (step (is_same_topic u.topic t) refl)
    where
      step : (b : Bool) → is_same_topic u.topic t ≡ b → filter (is_covered u.start u.stop) (posts_of u.topic (logs_of (trimmed_line t p ls))) ≡ filter (is_covered u.start u.stop) (posts_of u.topic (logs_of ls))
      step true e =
          let same = same-topic u.topic t e in
          ap (λ s. filter (is_covered u.start u.stop) (posts_of s (logs_of (trimmed_line t p ls)))) same
          ∙ (ap (filter (is_covered u.start u.stop)) (posts-own ls)
          ∙ (filter-needed (is_covered u.start u.stop) p (needs e) (posts_of t (logs_of ls))
          ∙ ap (λ s. filter (is_covered u.start u.stop) (posts_of s (logs_of ls))) (sym same)))
      step false e = ap (filter (is_covered u.start u.stop)) (posts-other u.topic e ls)

  gathered-trimmed : (ls : List Line) (k : ℕ) (us : List Span) → NeedOnly us → gathered (logs_of (trimmed_line t p ls)) (spans_of k us) ≡ gathered (logs_of ls) (spans_of k us)
  gathered-trimmed ls k [] needs = refl
  gathered-trimmed ls k (u ∷ us) needs =
      let ih = gathered-trimmed ls k us needs.1 in
      let one = covered-trimmed ls u needs.0 in
      elim (u.client == k) as (λ b. gathered (logs_of (trimmed_line t p ls)) (if b then u ∷ spans_of k us else spans_of k us) ≡ gathered (logs_of ls) (if b then u ∷ spans_of k us else spans_of k us)) [
        | true ↦ ap (λ x. x ++ gathered (logs_of (trimmed_line t p ls)) (spans_of k us)) one ∙ ap (λ x. covered (logs_of ls) u ++ x) ih
        | false ↦ ih
      ]

  waits-trimmed : (ls : List Line) (us : List Span) → NeedOnly us → (k : ℕ) → waits (logs_of (trimmed_line t p ls)) us k ≡ waits (logs_of ls) us k
  waits-trimmed ls us needs k = ap (λ x. put_all x []) (gathered-trimmed ls k us needs)

  above-trimmed : (ls : List Line) (u : Span) → is_above (logs_of ls) u ≡ true → is_above (logs_of (trimmed_line t p ls)) u ≡ true
  above-trimmed ls u holds = step (is_same_topic u.topic t) refl u.live refl
    where
      step : (b : Bool) → is_same_topic u.topic t ≡ b → (l : Bool) → u.live ≡ l → is_above (logs_of (trimmed_line t p ls)) u ≡ true
      step b e false dead = grind (arith, dead)
      step true e true live =
          let same = same-topic u.topic t e in
          let all : list_all (λ m. nat_lt m.number u.stop) (posts_of u.topic (logs_of ls)) ≡ true = grind (arith, live, holds) in
          let own : posts_of u.topic (logs_of (trimmed_line t p ls)) ≡ filter p (posts_of u.topic (logs_of ls)) = ap (λ s. posts_of s (logs_of (trimmed_line t p ls))) same ∙ (posts-own ls ∙ ap (λ s. filter p (posts_of s (logs_of ls))) (sym same)) in
          let fewer = all-filter (λ m. nat_lt m.number u.stop) p (posts_of u.topic (logs_of ls)) all in
          grind (arith, live, own, fewer)
      step false e true live = let same = posts-other u.topic e ls in grind (arith, live, same, holds)

  pub kept-trimmed : (ls : List Line) (us : List Span) (ws : List Waiter) (c n : ℕ) → NeedOnly us → IsKept (logs_of ls) us ws c n → IsKept (logs_of (trimmed_line t p ls)) us ws c n
  kept-trimmed ls us ws c n needs k = record {
    right = counts-as (logs_of ls) (logs_of (trimmed_line t p ls)) us us ws (waits-trimmed ls us needs) k.right;
    rise = k.rise;
    ids = k.ids;
    own = k.own;
    stops = k.stops;
    starts = k.starts;
    above = all-weaker (is_above (logs_of ls)) (is_above (logs_of (trimmed_line t p ls))) (above-trimmed ls) us k.above;
    before = before-trimmed n ls k.before;
  }

  pub floor-trimmed : (ls : List Line) (us : List Span) (ws : List Waiter) (c n : ℕ) → NeedOnly us → floor (logs_of (trimmed_line t p ls)) us ws c n ≡ floor (logs_of ls) us ws c n
  floor-trimmed ls us ws c n needs = ap (λ x. record { clients = x; subs = subs_by us; next_client = c; next_message = n }) (clients-logs (logs_of ls) (logs_of (trimmed_line t p ls)) us ws (waits-trimmed ls us needs))

-- What is dropped is before each live place, and waits for none that has ended.

module _ (t : Topic) (first n : ℕ) (all : List Span) where
  one-needs : (u : Span) → (not (is_reached_by t u) || nat_le first u.start) ≡ true → ((m : Message) → is_owed t m u ≡ true → list_any (is_owed t m) all ≡ true) → NeedsOnly t (is_needed t first all) (raised n u)
  one-needs u before within = step u.live refl
    where
      live : u.live ≡ true → is_same_topic u.topic t ≡ true → (m : Message) → is_covered u.start n m ≡ true → is_needed t first all m ≡ true
      live e same m covers =
          let less : nat_le first u.start ≡ true = grind (arith, e, same, before) in
          grind (arith, nat_tests, less, covers)

      dead : u.live ≡ false → is_same_topic u.topic t ≡ true → (m : Message) → is_covered u.start u.stop m ≡ true → is_needed t first all m ≡ true
      dead e same m covers =
          let owed : is_owed t m u ≡ true = grind (arith, e, same, covers) in
          let some = within m owed in
          grind (arith, some)

      step : (l : Bool) → u.live ≡ l → NeedsOnly t (is_needed t first all) (if l then record u { stop = n } else u)
      step true e same m covers = live e same m covers
      step false e same m covers = dead e same m covers

  needs-only : (us : List Span) → list_all (λ u. not (is_reached_by t u) || nat_le first u.start) us ≡ true → ((m : Message) → list_any (is_owed t m) us ≡ true → list_any (is_owed t m) all ≡ true) → NeedOnly t (is_needed t first all) (map (raised n) us)
  needs-only [] before within = tt
  needs-only (u ∷ us) before within =
      let here : (not (is_reached_by t u) || nat_le first u.start) ≡ true = grind (arith, before) in
      let rest : list_all (λ u. not (is_reached_by t u) || nat_le first u.start) us ≡ true = grind (arith, before) in
      (one-needs u here (λ m owed. within m (grind (arith, owed))), needs-only us rest (λ m some. within m (later m some)))
    where
      later : (m : Message) → list_any (is_owed t m) us ≡ true → list_any (is_owed t m) (u ∷ us) ≡ true
      later m some = grind (arith, some)

-- The line at a place is the only one of its topic.

none-there : (t : Topic) (ls : List Line) (at : ℕ) (d : Line) → at < length ls → list_any (λ x. is_same_topic t x.topic) ls ≡ false → is_same_topic t (get_or ls at d).topic ≡ false
none-there t [] at d less none = absurd (omega arith)
none-there t (l ∷ ls) zero d less none = grind (arith, none)
none-there t (l ∷ ls) (suc at) d less none =
    let rest : list_any (λ (x : Line). is_same_topic t x.topic) ls ≡ false = grind (arith, none) in
    none-there t ls at d (omega arith) rest

set-trimmed : (ls : List Line) (at : ℕ) (d : Line) (p : Message → Bool) → at < length ls → are_apart ls ≡ true
    → set ls at (record (get_or ls at d) { posts = filter p (get_or ls at d).posts }) ≡ trimmed_line (get_or ls at d).topic p ls
set-trimmed [] at d p less apart = absurd (omega arith)
set-trimmed (l ∷ ls) zero d p less apart = ap (λ b. if b then record l { posts = filter p l.posts } ∷ ls else l ∷ trimmed_line l.topic p ls) (sym (same-self l.topic))
set-trimmed (l ∷ ls) (suc at) d p less apart =
    let first : list_any (λ (x : Line). is_same_topic l.topic x.topic) ls ≡ false = grind (arith, apart) in
    let rest : are_apart ls ≡ true = grind (arith, apart) in
    let within : at < length ls = omega arith in
    let other = topic-other l.topic (get_or ls at d).topic false (none-there l.topic ls at d within first) in
    ap (λ xs. l ∷ xs) (set-trimmed ls at d p within rest)
    ∙ ap (λ b. if b then record l { posts = filter p l.posts } ∷ ls else l ∷ trimmed_line (get_or ls at d).topic p ls) (sym other)

module _ (ls : List Line) (us : List Span) (ws : List Waiter) (c n : ℕ) (k : IsLined ls us ws c n) (at : ℕ) (d v : Line) (less : at < length ls) (trim : IsTrimmed us (get_or ls at d) v) where
  abbrev line : Line
  line = get_or ls at d

  needs : NeedOnly line.topic (is_needed line.topic trim.first us) (map (raised n) us)
  needs = needs-only line.topic trim.first n us us trim.is (λ m some. some)

  trimmed-is : set ls at v ≡ trimmed_line line.topic (is_needed line.topic trim.first us) ls
  trimmed-is = ap (set ls at) trim.line ∙ set-trimmed ls at d (is_needed line.topic trim.first us) less k.apart

  pub lined-trimmed : IsLined (set ls at v) us ws c n
  lined-trimmed = rw trimmed-is (record {
    kept = kept-trimmed line.topic (is_needed line.topic trim.first us) ls (map (raised n) us) ws c n needs k.kept;
    listed = λ s. members-trimmed line.topic (is_needed line.topic trim.first us) ls s ∙ k.listed s;
    home = k.home;
    apart = apart-trimmed line.topic (is_needed line.topic trim.first us) ls ∙ k.apart;
  })

  pub floor-lined-trimmed : floor_of (set ls at v) us ws c n ≡ floor_of ls us ws c n
  floor-lined-trimmed = rw trimmed-is (floor-trimmed line.topic (is_needed line.topic trim.first us) ls (map (raised n) us) ws c n needs)

-- How the first place, the debts and the messages that stay are found.

pub first-next : (t : Topic) (first new : ℕ) (us : List Span) (u : Span) → is_first t first us ≡ true → new ≤ first → (not (is_reached_by t u) || nat_le new u.start) ≡ true → is_first t new (us ++ (u ∷ [])) ≡ true
first-next t first new us u before less here =
    all-append (λ u. not (is_reached_by t u) || nat_le new u.start) us (u ∷ [])
    (all-weaker (λ u. not (is_reached_by t u) || nat_le first u.start) (λ u. not (is_reached_by t u) || nat_le new u.start) (λ x h. grind (arith, nat_tests, h, less)) us before)
    (grind (arith, here))

pub none-owed : (t : Topic) (us : List Span) (m : Message) → list_any (is_debt t) us ≡ false → list_any (is_owed t m) us ≡ false
none-owed t [] m none = refl
none-owed t (u ∷ us) m none =
    let here : is_debt t u ≡ false = grind (arith, none) in
    let rest : list_any (is_debt t) us ≡ false = grind (arith, none) in
    let ih = none-owed t us m rest in
    let one : is_owed t m u ≡ false = ap (λ b. b && is_covered u.start u.stop m) here in
    grind (arith, one, ih)

pub filter-as : {A : Type 0} (p q : A → Bool) → ((x : A) → p x ≡ q x) → (xs : List A) → filter p xs ≡ filter q xs
filter-as p q same [] = refl
filter-as p q same (x ∷ xs) = ap (λ b. if b then x ∷ filter p xs else filter p xs) (same x) ∙ ap (λ m. if q x then x ∷ m else m) (filter-as p q same xs)

-- all messages are from the number 0 on
pub all-needed : (t : Topic) (us : List Span) (ms : List Message) → filter (is_needed t 0 us) ms ≡ ms
all-needed t us [] = refl
all-needed t us (m ∷ ms) =
    let here : is_needed t 0 us m ≡ true = grind (arith, nat_tests) in
    ap (λ b. if b then m ∷ filter (is_needed t 0 us) ms else filter (is_needed t 0 us) ms) here ∙ ap (λ x. m ∷ x) (all-needed t us ms)

pub first-zero : (t : Topic) (us : List Span) → is_first t 0 us ≡ true
first-zero t [] = refl
first-zero t (u ∷ us) = let ih = first-zero t us in grind (arith, nat_tests, ih)

-- Lines to whose topics nobody has a place go.

module _ (us : List Span) where
  -- a topic that someone has a place in keeps its line
  wanted-members : (s : Topic) → list_any (λ u. is_same_topic u.topic s) us ≡ true → (ls : List Line) → members_at s (filter (is_wanted us) ls) ≡ members_at s ls
  wanted-members s some [] = refl
  wanted-members s some (l ∷ ls) = step (is_same_topic s l.topic) refl (is_wanted us l) refl (wanted-members s some ls)
    where
      step : (b : Bool) → is_same_topic s l.topic ≡ b → (w : Bool) → is_wanted us l ≡ w → members_at s (filter (is_wanted us) ls) ≡ members_at s ls
          → members_at s (if w then l ∷ filter (is_wanted us) ls else filter (is_wanted us) ls) ≡ (if b then l.members else members_at s ls)
      step true e true is ih = ap (λ b. if b then l.members else members_at s (filter (is_wanted us) ls)) e
      step true e false is ih =
          let same = same-topic s l.topic e in
          let here : is_wanted us l ≡ true = ap (λ t. list_any (λ (u : Span). is_same_topic u.topic t) us) (sym same) ∙ some in
          let no : true ≡ false = sym here ∙ is in absurd (cc)
      step false e true is ih = ap (λ b. if b then l.members else members_at s (filter (is_wanted us) ls)) e ∙ ih
      step false e false is ih = ih

  wanted-posts : (s : Topic) → list_any (λ u. is_same_topic u.topic s) us ≡ true → (ls : List Line) → posts_of s (logs_of (filter (is_wanted us) ls)) ≡ posts_of s (logs_of ls)
  wanted-posts s some [] = refl
  wanted-posts s some (l ∷ ls) = step (is_same_topic s l.topic) refl (is_wanted us l) refl (wanted-posts s some ls)
    where
      step : (b : Bool) → is_same_topic s l.topic ≡ b → (w : Bool) → is_wanted us l ≡ w → posts_of s (logs_of (filter (is_wanted us) ls)) ≡ posts_of s (logs_of ls)
          → posts_of s (logs_of (if w then l ∷ filter (is_wanted us) ls else filter (is_wanted us) ls)) ≡ (if b then l.posts else posts_of s (logs_of ls))
      step true e true is ih = ap (λ b. if b then l.posts else posts_of s (logs_of (filter (is_wanted us) ls))) e
      step true e false is ih =
          let same = same-topic s l.topic e in
          let here : is_wanted us l ≡ true = ap (λ t. list_any (λ (u : Span). is_same_topic u.topic t) us) (sym same) ∙ some in
          let no : true ≡ false = sym here ∙ is in absurd (cc)
      step false e true is ih = ap (λ b. if b then l.posts else posts_of s (logs_of (filter (is_wanted us) ls))) e ∙ ih
      step false e false is ih = ih

  -- each place finds the messages that it found
  covered-wanted : (ls : List Line) (u : Span) → list_any (λ v. is_same_topic v.topic u.topic) us ≡ true → covered (logs_of (filter (is_wanted us) ls)) u ≡ covered (logs_of ls) u
  covered-wanted ls u some = ap (λ ms. map (delivered u.id) (filter (is_covered u.start u.stop) ms)) (wanted-posts u.topic some ls)

  abbrev pub AllWanted : List Span → Type 0
  AllWanted [] = Unit {0}
  AllWanted (v ∷ vs) = (list_any (λ x. is_same_topic x.topic v.topic) us ≡ true) × AllWanted vs

  gathered-wanted : (ls : List Line) (k : ℕ) (vs : List Span) → AllWanted vs → gathered (logs_of (filter (is_wanted us) ls)) (spans_of k vs) ≡ gathered (logs_of ls) (spans_of k vs)
  gathered-wanted ls k [] all = refl
  gathered-wanted ls k (v ∷ vs) all =
      let ih = gathered-wanted ls k vs all.1 in
      let one = covered-wanted ls v all.0 in
      elim (v.client == k) as (λ b. gathered (logs_of (filter (is_wanted us) ls)) (if b then v ∷ spans_of k vs else spans_of k vs) ≡ gathered (logs_of ls) (if b then v ∷ spans_of k vs else spans_of k vs)) [
        | true ↦ ap (λ x. x ++ gathered (logs_of (filter (is_wanted us) ls)) (spans_of k vs)) one ∙ ap (λ x. covered (logs_of ls) v ++ x) ih
        | false ↦ ih
      ]

  waits-wanted : (ls : List Line) (vs : List Span) → AllWanted vs → (k : ℕ) → waits (logs_of (filter (is_wanted us) ls)) vs k ≡ waits (logs_of ls) vs k
  waits-wanted ls vs all k = ap (λ x. put_all x []) (gathered-wanted ls k vs all)

  before-wanted : (n : ℕ) (ls : List Line) → posts_before n (logs_of ls) ≡ true → posts_before n (logs_of (filter (is_wanted us) ls)) ≡ true
  before-wanted n [] all = refl
  before-wanted n (l ∷ ls) all =
      let here : list_all (λ x. nat_lt x.number n) l.posts ≡ true = grind (arith, all) in
      let rest : posts_before n (logs_of ls) ≡ true = grind (arith, all) in
      let ih = before-wanted n ls rest in
      elim (is_wanted us l) as (λ b. posts_before n (logs_of (if b then l ∷ filter (is_wanted us) ls else filter (is_wanted us) ls)) ≡ true) [ true ↦ grind (arith, here, ih) | false ↦ ih ]

  above-wanted : (ls : List Line) (vs : List Span) → AllWanted vs → list_all (is_above (logs_of ls)) vs ≡ true → list_all (is_above (logs_of (filter (is_wanted us) ls))) vs ≡ true
  above-wanted ls [] all above = refl
  above-wanted ls (v ∷ vs) all above =
      let one : is_above (logs_of ls) v ≡ true = grind (arith, above) in
      let rest : list_all (is_above (logs_of ls)) vs ≡ true = grind (arith, above) in
      let ih = above-wanted ls vs all.1 rest in
      let same = ap (λ ms. not v.live || list_all (λ m. nat_lt m.number v.stop) ms) (wanted-posts v.topic all.0 ls) ∙ one in
      grind (arith, same, ih)

  any-wanted : (s : Topic) (ls : List Line) → list_any (λ x. is_same_topic s x.topic) ls ≡ false → list_any (λ x. is_same_topic s x.topic) (filter (is_wanted us) ls) ≡ false
  any-wanted s [] none = refl
  any-wanted s (l ∷ ls) none =
      let here : is_same_topic s l.topic ≡ false = grind (arith, none) in
      let rest : list_any (λ (x : Line). is_same_topic s x.topic) ls ≡ false = grind (arith, none) in
      let ih = any-wanted s ls rest in
      elim (is_wanted us l) as (λ b. list_any (λ x. is_same_topic s x.topic) (if b then l ∷ filter (is_wanted us) ls else filter (is_wanted us) ls) ≡ false) [ true ↦ grind (arith, here, ih) | false ↦ ih ]

  apart-wanted : (ls : List Line) → are_apart ls ≡ true → are_apart (filter (is_wanted us) ls) ≡ true
  apart-wanted [] apart = refl
  apart-wanted (l ∷ ls) apart =
      let first : list_any (λ (x : Line). is_same_topic l.topic x.topic) ls ≡ false = grind (arith, apart) in
      let rest : are_apart ls ≡ true = grind (arith, apart) in
      let ih = apart-wanted ls rest in
      let none = any-wanted l.topic ls first in
      elim (is_wanted us l) as (λ b. are_apart (if b then l ∷ filter (is_wanted us) ls else filter (is_wanted us) ls) ≡ true) [ true ↦ grind (arith, none, ih) | false ↦ ih ]

  -- a topic in which nobody has a place has no members
  unwanted-members : (s : Topic) → list_any (λ u. is_same_topic u.topic s) us ≡ false → (ls : List Line) → members_at s (filter (is_wanted us) ls) ≡ []
  unwanted-members s none [] = refl
  unwanted-members s none (l ∷ ls) = step (is_same_topic s l.topic) refl (is_wanted us l) refl (unwanted-members s none ls)
    where
      step : (b : Bool) → is_same_topic s l.topic ≡ b → (w : Bool) → is_wanted us l ≡ w → members_at s (filter (is_wanted us) ls) ≡ [] → members_at s (if w then l ∷ filter (is_wanted us) ls else filter (is_wanted us) ls) ≡ []
      step true e true is ih =
          let same = same-topic s l.topic e in
          let no : true ≡ false = sym is ∙ (ap (λ t. list_any (λ (u : Span). is_same_topic u.topic t) us) (sym same) ∙ none) in absurd (cc)
      step true e false is ih = ih
      step false e true is ih = ap (λ b. if b then l.members else members_at s (filter (is_wanted us) ls)) e ∙ ih
      step false e false is ih = ih

-- nobody of these is a member of the topic
none-reached : (s : Topic) (us : List Span) → list_any (λ u. is_same_topic u.topic s) us ≡ false → members_in s us ≡ []
none-reached s [] none = refl
none-reached s (u ∷ us) none =
    let here : is_same_topic u.topic s ≡ false = grind (arith, none) in
    let rest : list_any (λ (u : Span). is_same_topic u.topic s) us ≡ false = grind (arith, none) in
    let ih = none-reached s us rest in
    let missed : is_reached_by s u ≡ false = elim u.live as (λ l. (l && is_same_topic u.topic s) ≡ false) [ true ↦ here | false ↦ refl ] in
    ap (λ b. map listener (if b then u ∷ filter (is_reached_by s) us else filter (is_reached_by s) us)) missed ∙ ih

-- a line with members is wanted
module _ (us : List Span) where
  one-kept : (l : Line) → l.members ≡ members_in l.topic us → is_kept us l ≡ is_wanted us l
  one-kept l is = step (is_wanted us l) refl
    where
      step : (b : Bool) → is_wanted us l ≡ b → (not (length l.members == 0) || b) ≡ b
      step true e = elim (not (length l.members == 0)) as (λ x. (x || true) ≡ true) [ true ↦ refl | false ↦ refl ]
      step false e =
          let none : l.members ≡ [] = is ∙ none-reached l.topic us e in
          ap (λ ms. not (length ms == 0) || false) none

  all-kept : (ls : List Line) → are_apart ls ≡ true → ((s : Topic) → list_any (λ l. is_same_topic s l.topic) ls ≡ true → members_at s ls ≡ members_in s us) → filter (is_kept us) ls ≡ filter (is_wanted us) ls
  all-kept [] apart listed = refl
  all-kept (l ∷ ls) apart listed =
      let first : list_any (λ (x : Line). is_same_topic l.topic x.topic) ls ≡ false = grind (arith, apart) in
      let rest : are_apart ls ≡ true = grind (arith, apart) in
      let self = same-self l.topic in
      let mine : l.members ≡ members_in l.topic us = sym (ap (λ b. if b then l.members else members_at l.topic ls) self) ∙ listed l.topic (ap (λ b. b || list_any (λ x. is_same_topic l.topic x.topic) ls) self) in
      let one = one-kept l mine in
      let ih = all-kept ls rest (λ s some. later s some first) in
      ap (λ b. if b then l ∷ filter (is_kept us) ls else filter (is_kept us) ls) one ∙ ap (λ m. if is_wanted us l then l ∷ m else m) ih
    where
      later : (s : Topic) → list_any (λ l. is_same_topic s l.topic) ls ≡ true → list_any (λ x. is_same_topic l.topic x.topic) ls ≡ false → members_at s ls ≡ members_in s us
      later s some first = step (is_same_topic s l.topic) refl
        where
          step : (b : Bool) → is_same_topic s l.topic ≡ b → members_at s ls ≡ members_in s us
          step true e =
              let same = same-topic s l.topic e in
              let no : true ≡ false = sym some ∙ (ap (λ t. list_any (λ (x : Line). is_same_topic t x.topic) ls) same ∙ first) in absurd (cc)
          step false e = sym (ap (λ b. if b then l.members else members_at s ls) e) ∙ listed s (ap (λ b. b || list_any (λ x. is_same_topic s x.topic) ls) e ∙ some)

module _ (ls : List Line) (us : List Span) (ws : List Waiter) (c n : ℕ) (k : IsLined ls us ws c n) where
  -- each shown place's topic has a place
  wanted-all : (vs : List Span) → ((s : Topic) → list_any (λ v. is_same_topic v.topic s) vs ≡ true → list_any (λ u. is_same_topic u.topic s) us ≡ true) → AllWanted us (map (raised n) vs)
  wanted-all [] within = tt
  wanted-all (v ∷ vs) within =
      let self = same-self v.topic in
      let topic : (raised n v).topic ≡ v.topic = elim v.live as (λ l. (if l then record v { stop = n } else v).topic ≡ v.topic) [ true ↦ refl | false ↦ refl ] in (
        ap (λ t. list_any (λ (u : Span). is_same_topic u.topic t) us) topic ∙ within v.topic (ap (λ b. b || list_any (λ (x : Span). is_same_topic x.topic v.topic) vs) self),
        wanted-all vs (λ s some. within s (more s some)),
      )
    where
      more : (s : Topic) → list_any (λ v. is_same_topic v.topic s) vs ≡ true → list_any (λ v. is_same_topic v.topic s) (v ∷ vs) ≡ true
      more s some = elim (is_same_topic v.topic s) as (λ b. (b || list_any (λ v. is_same_topic v.topic s) vs) ≡ true) [ true ↦ refl | false ↦ some ]

  shown : AllWanted us (map (raised n) us)
  shown = wanted-all us (λ s some. some)

  pub swept-is : filter (is_kept us) ls ≡ filter (is_wanted us) ls
  swept-is = all-kept us ls k.apart (λ s some. k.listed s)

  swept-listed : (s : Topic) → members_at s (filter (is_wanted us) ls) ≡ members_in s us
  swept-listed s = step (list_any (λ (u : Span). is_same_topic u.topic s) us) refl
    where
      step : (b : Bool) → list_any (λ u. is_same_topic u.topic s) us ≡ b → members_at s (filter (is_wanted us) ls) ≡ members_in s us
      step true some = wanted-members us s some ls ∙ k.listed s
      step false none = unwanted-members us s none ls ∙ sym (none-reached s us none)

  pub lined-swept : IsLined (filter (is_wanted us) ls) us ws c n
  lined-swept = record {
    kept = record {
      right = counts-as (logs_of ls) (logs_of (filter (is_wanted us) ls)) (map (raised n) us) (map (raised n) us) ws (waits-wanted us ls (map (raised n) us) shown) k.kept.right;
      rise = k.kept.rise;
      ids = k.kept.ids;
      own = k.kept.own;
      stops = k.kept.stops;
      starts = k.kept.starts;
      above = above-wanted us ls (map (raised n) us) shown k.kept.above;
      before = before-wanted us n ls k.kept.before;
    };
    listed = swept-listed;
    home = k.home;
    apart = apart-wanted us ls k.apart;
  }

  pub floor-swept : floor_of (filter (is_wanted us) ls) us ws c n ≡ floor_of ls us ws c n
  floor-swept = ap (λ x. record { clients = x; subs = subs_by (map (raised n) us); next_client = c; next_message = n }) (clients-logs (logs_of ls) (logs_of (filter (is_wanted us) ls)) (map (raised n) us) ws (waits-wanted us ls (map (raised n) us) shown))
