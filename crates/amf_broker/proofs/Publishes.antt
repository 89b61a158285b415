-- A publish over logs and places is the machine's.
use Rattle.std.proofs.Common.{◌≡◌, ℕ, ◌+◌, Bool, true, false, not, List, [], ◌∷◌, ◌++◌, refl, sym, ◌∙◌, ap, arith, append_assoc}
use Rattle.std.specs.Prelude.{◌==◌, ◌||◌, nat_le, nat_lt, filter, map, if◌then◌else◌}
use Rattle.std.specs.List.{list_all, list_any}
use Rattle.std.proofs.lemmas.Bool.Decides.{nat_tests}
use Rattle.std.proofs.lemmas.List.{append-nil}
use Rattle.amf_broker.specs.declared.topic.Topic.{Topic}
use Rattle.amf_broker.specs.Machine.{is_same_topic, spread, Spread, subscribers, still_live}
use Rattle.amf_broker.specs.Delivery.{Message}
use Rattle.amf_broker.specs.Lines.{TopicLog, Span, Waiter, Deal, IsKept, posted, posts_before, waits, shown, clients_by, subscription, subs_by, waiter_at, counts, is_above, is_reached_by, is_crowded, counted, noted, dealt_as, deal_all, setting_out, closed}
use Rattle.amf_broker.proofs.Spans.{waits-closed, subs-closed, clients-as}
use Rattle.amf_broker.proofs.Posts.{posts-other, waits-posted}
use Rattle.amf_broker.proofs.Deals.{shown_with}
use Rattle.amf_broker.proofs.Passes.{Ready, Passed, passed}
use Rattle.amf_broker.proofs.Floors.{all-append, all-weaker, all-map, counts-as, posts-within, more-most, closed-as}

-- What the places and clients keep on the way.

deal-more : (p : Span → Bool) → ((u : Span) (s : ℕ) → p (record u { stop = s }) ≡ p u) → (n : ℕ) (d : Deal) (u : Span) → list_all p d.spans ≡ true → p u ≡ true → (b f : Bool) → list_all p (dealt_as b f n d u).spans ≡ true
deal-more p same n d u done one false f = all-append p d.spans (u ∷ []) done (grind (arith, one))
deal-more p same n d u done one true true = all-append p d.spans (u ∷ []) done (grind (arith, one))
deal-more p same n d u done one true false = let e = same u (n + 1) in all-append p d.spans (record u { stop = n + 1 } ∷ []) done (grind (arith, e, one))

deal-keeps : (p : Span → Bool) → ((u : Span) (s : ℕ) → p (record u { stop = s }) ≡ p u) → (t : Topic) (n : ℕ) (d : Deal) (us : List Span) → list_all p d.spans ≡ true → list_all p us ≡ true → list_all p (deal_all t n d us).spans ≡ true
deal-keeps p same t n d [] done all = done
deal-keeps p same t n d (u ∷ us) done all =
    let one : p u ≡ true = grind (arith, all) in
    let rest : list_all p us ≡ true = grind (arith, all) in
    deal-keeps p same t n (dealt_as (is_reached_by t u) (is_crowded u.client d.waiters) n d u) us (deal-more p same n d u done one (is_reached_by t u) (is_crowded u.client d.waiters)) rest

pub at-all : (p : Waiter → Bool) (k : ℕ) (g : Waiter → Waiter) → ((w : Waiter) → p (g w) ≡ p w) → (ws : List Waiter) → list_all p ws ≡ true → list_all p (waiter_at k g ws) ≡ true
at-all p k g same [] all = refl
at-all p k g same (w ∷ ws) all =
    let one : p w ≡ true = grind (arith, all) in
    let rest : list_all p ws ≡ true = grind (arith, all) in
    let ih = at-all p k g same ws rest in
    let e = same w in
    elim (w.id == k) as (λ b. list_all p (if b then g w ∷ ws else w ∷ waiter_at k g ws) ≡ true) [ true ↦ grind (arith, e, one, rest) | false ↦ grind (arith, one, ih) ]

ids-more : (c n : ℕ) (d : Deal) (u : Span) → list_all (λ w. nat_lt w.id c) d.waiters ≡ true → (b f : Bool) → list_all (λ w. nat_lt w.id c) (dealt_as b f n d u).waiters ≡ true
ids-more c n d u all false f = all
ids-more c n d u all true true = at-all (λ w. nat_lt w.id c) u.client (noted u.id) (λ w. refl) d.waiters all
ids-more c n d u all true false = at-all (λ w. nat_lt w.id c) u.client counted (λ w. refl) d.waiters all

deal-ids : (c : ℕ) (t : Topic) (n : ℕ) (d : Deal) (us : List Span) → list_all (λ w. nat_lt w.id c) d.waiters ≡ true → list_all (λ w. nat_lt w.id c) (deal_all t n d us).waiters ≡ true
deal-ids c t n d [] all = all
deal-ids c t n d (u ∷ us) all = deal-ids c t n (dealt_as (is_reached_by t u) (is_crowded u.client d.waiters) n d u) us (ids-more c n d u all (is_reached_by t u) (is_crowded u.client d.waiters))

subs-append : (us vs : List Span) → subs_by (us ++ vs) ≡ subs_by us ++ subs_by vs
subs-append [] vs = refl
subs-append (u ∷ us) vs = let ih = subs-append us vs in grind (arith, ih)

subs-one : (d : Deal) (u : Span) (us : List Span) → subs_by (d.spans ++ (u ∷ [])) ++ subs_by us ≡ subs_by d.spans ++ subs_by (u ∷ us)
subs-one d u us =
    ap (λ x. x ++ subs_by us) (subs-append d.spans (u ∷ []))
    ∙ (append_assoc (subs_by d.spans) (subs_by (u ∷ [])) (subs_by us) ∙ ap (λ x. subs_by d.spans ++ x) (sym (subs-append (u ∷ []) us)))

subs-stop : (s : ℕ) (u : Span) (us : List Span) → subs_by (record u { stop = s } ∷ us) ≡ subs_by (u ∷ us)
subs-stop s u us = elim u.live as (λ l. map subscription (if l then record u { stop = s } ∷ filter (λ u. u.live) us else filter (λ u. u.live) us) ≡ map subscription (if l then u ∷ filter (λ u. u.live) us else filter (λ u. u.live) us)) [ true ↦ refl | false ↦ refl ]

subs-dealt : (n : ℕ) (d : Deal) (u : Span) (us : List Span) (b f : Bool) → subs_by (dealt_as b f n d u).spans ++ subs_by us ≡ subs_by d.spans ++ subs_by (u ∷ us)
subs-dealt n d u us false f = subs-one d u us
subs-dealt n d u us true true = subs-one d u us
subs-dealt n d u us true false = subs-one d (record u { stop = n + 1 }) us ∙ ap (λ x. subs_by d.spans ++ x) (subs-stop (n + 1) u us)

deal-subs : (t : Topic) (n : ℕ) (d : Deal) (us : List Span) → subs_by (deal_all t n d us).spans ≡ subs_by d.spans ++ subs_by us
deal-subs t n d [] = sym (append-nil (subs_by d.spans))
deal-subs t n d (u ∷ us) =
    deal-subs t n (dealt_as (is_reached_by t u) (is_crowded u.client d.waiters) n d u) us ∙ subs-dealt n d u us (is_reached_by t u) (is_crowded u.client d.waiters)

-- A live subscription stops past the message, or ended by it.

abbrev pub is_over : List ℕ → ℕ → Bool
is_over ended sub = list_any (λ id. id == sub) ended

abbrev is_settled : List TopicLog → List ℕ → Span → Bool
is_settled logs ended u = is_above logs u || is_over ended u.id

over-more : (ended : List ℕ) (x sub : ℕ) → is_over ended sub ≡ true → is_over (ended ++ (x ∷ [])) sub ≡ true
over-more [] x sub is = cc
over-more (e ∷ ended) x sub is = let ih = over-more ended x sub in grind (arith, ih, is)

over-last : (ended : List ℕ) (x : ℕ) → is_over (ended ++ (x ∷ [])) x ≡ true
over-last [] x = grind (arith, nat_tests)
over-last (e ∷ ended) x = let ih = over-last ended x in grind (arith, ih)

settled-more : (logs : List TopicLog) (ended : List ℕ) (x : ℕ) (u : Span) → is_settled logs ended u ≡ true → is_settled logs (ended ++ (x ∷ [])) u ≡ true
settled-more logs ended x u is = let more = over-more ended x u.id in grind (arith, more, is)

above-kept : (t : Topic) (m : Message) (logs : List TopicLog) (u : Span) → is_reached_by t u ≡ false → is_above logs u ≡ true → is_above (posted t m logs) u ≡ true
above-kept t m logs u missed holds = step u.live refl (is_same_topic u.topic t) refl
  where
    step : (l : Bool) → u.live ≡ l → (b : Bool) → is_same_topic u.topic t ≡ b → is_above (posted t m logs) u ≡ true
    step false e b same = grind (arith, e)
    step true e true same = grind (arith, e, same, missed)
    step true e false same = let posts = posts-other u.topic t m logs same in grind (arith, e, posts, holds)

posted-before : (n : ℕ) (t : Topic) (m : Message) (logs : List TopicLog) → m.number ≡ n → posts_before n logs ≡ true → posts_before (n + 1) (posted t m logs) ≡ true
posted-before n t m [] is all = grind (arith, nat_tests, is)
posted-before n t m (l ∷ logs) is all =
    let here : list_all (λ x. nat_lt x.number n) l.posts ≡ true = grind (arith, all) in
    let rest : posts_before n logs ≡ true = grind (arith, all) in
    let ih = posted-before n t m logs is rest in
    let more : list_all (λ x. nat_lt x.number (n + 1)) l.posts ≡ true = all-weaker (λ x. nat_lt x.number n) (λ x. nat_lt x.number (n + 1)) (λ x less. grind (arith, nat_tests, less)) l.posts here in
    let others : posts_before (n + 1) logs ≡ true = all-weaker (λ l. list_all (λ x. nat_lt x.number n) l.posts) (λ l. list_all (λ x. nat_lt x.number (n + 1)) l.posts) (λ l each. all-weaker (λ x. nat_lt x.number n) (λ x. nat_lt x.number (n + 1)) (λ x less. grind (arith, nat_tests, less)) l.posts each) logs rest in
    let last : list_all (λ x. nat_lt x.number (n + 1)) (l.posts ++ (m ∷ [])) ≡ true = all-append (λ x. nat_lt x.number (n + 1)) l.posts (m ∷ []) more (grind (arith, nat_tests, is)) in
    elim (is_same_topic t l.topic) as (λ b. posts_before (n + 1) (if b then record { topic = l.topic; posts = l.posts ++ (m ∷ []) } ∷ logs else l ∷ posted t m logs) ≡ true) [ true ↦ grind (arith, last, others) | false ↦ grind (arith, more, ih) ]

module _ (t : Topic) (m : Message) (logs : List TopicLog) (within : posts_before (m.number + 1) (posted t m logs) ≡ true) where
  settled-dealt : (d : Deal) (u : Span) → list_all (is_settled (posted t m logs) d.ended) d.spans ≡ true → is_above logs u ≡ true → (b f : Bool) → is_reached_by t u ≡ b
      → list_all (is_settled (posted t m logs) (dealt_as b f m.number d u).ended) (dealt_as b f m.number d u).spans ≡ true
  settled-dealt d u done above false f missed =
      let still = above-kept t m logs u missed above in all-append (is_settled (posted t m logs) d.ended) d.spans (u ∷ []) done (grind (arith, still))
  settled-dealt d u done above true true reached =
      let last = over-last d.ended u.id in
      all-append (is_settled (posted t m logs) (d.ended ++ (u.id ∷ []))) d.spans (u ∷ [])
      (all-weaker (is_settled (posted t m logs) d.ended) (is_settled (posted t m logs) (d.ended ++ (u.id ∷ []))) (settled-more (posted t m logs) d.ended u.id) d.spans done) (grind (arith, last))
  settled-dealt d u done above true false reached =
      let past = posts-within (m.number + 1) u.topic (posted t m logs) within in
      all-append (is_settled (posted t m logs) d.ended) d.spans (record u { stop = m.number + 1 } ∷ []) done (grind (arith, past))

  deal-settled : (d : Deal) (us : List Span) → list_all (is_settled (posted t m logs) d.ended) d.spans ≡ true → list_all (is_above logs) us ≡ true
      → list_all (is_settled (posted t m logs) (deal_all t m.number d us).ended) (deal_all t m.number d us).spans ≡ true
  deal-settled d [] done all = done
  deal-settled d (u ∷ us) done all =
      let one : is_above logs u ≡ true = grind (arith, all) in
      let rest : list_all (is_above logs) us ≡ true = grind (arith, all) in
      deal-settled (dealt_as (is_reached_by t u) (is_crowded u.client d.waiters) m.number d u) us (settled-dealt d u done one (is_reached_by t u) (is_crowded u.client d.waiters) refl) rest

closed-settled : (logs : List TopicLog) (ended : List ℕ) (u : Span) → is_settled logs ended u ≡ true → is_above logs (closed (is_over ended) u) ≡ true
closed-settled logs ended u is = step (is_over ended u.id) refl
  where
    step : (b : Bool) → is_over ended u.id ≡ b → is_above logs (closed (is_over ended) u) ≡ true
    step true e = grind (arith, e)
    step false e = grind (arith, e, is)

-- The whole publish.

pub clients-logs : (logs vogs : List TopicLog) (us : List Span) (ws : List Waiter) → ((k : ℕ) → waits vogs us k ≡ waits logs us k) → clients_by vogs us ws ≡ clients_by logs us ws
clients-logs logs vogs us [] same = refl
clients-logs logs vogs us (w ∷ ws) same = ap (λ q. shown_with q w ∷ clients_by vogs us ws) (same w.id) ∙ ap (λ x. shown logs us w ∷ x) (clients-logs logs vogs us ws same)

module _ (t : Topic) (m : Message) (logs : List TopicLog) (us : List Span) (ws : List Waiter) (c : ℕ) (k : IsKept logs us ws c m.number) where
  same-waits : (j : ℕ) → waits (posted t m logs) us j ≡ waits logs us j
  same-waits j = waits-posted t m logs us j k.stops

  abbrev pub dealt : Deal
  dealt = deal_all t m.number (setting_out ws) us

  pub all-ready : Ready t m logs (setting_out ws) us
  all-ready = record { before = refl; after = k.stops; starts = k.starts; above = k.above; right = counts-as logs (posted t m logs) us us ws same-waits k.right; rise = k.rise }

  all-passed : Passed t m logs (setting_out ws) us dealt
  all-passed = passed t m logs (setting_out ws) us all-ready

  pub publish-kept : IsKept (posted t m logs) (map (closed (is_over dealt.ended)) dealt.spans) dealt.waiters c (m.number + 1)
  publish-kept = record {
    right = counts-as (posted t m logs) (posted t m logs) dealt.spans (map (closed (is_over dealt.ended)) dealt.spans) dealt.waiters (waits-closed (posted t m logs) (is_over dealt.ended) dealt.spans)
        (ap (λ x. counts (posted t m logs) x dealt.waiters) (sym (append-nil dealt.spans)) ∙ all-passed.ready.right);
    rise = all-passed.ready.rise;
    ids = deal-ids c t m.number (setting_out ws) us k.ids;
    own = all-map (λ u. nat_lt u.client c) (λ u. nat_lt u.client c) (closed (is_over dealt.ended)) (closed-as (λ u. nat_lt u.client c) (λ u. refl) (is_over dealt.ended)) dealt.spans
        (deal-keeps (λ u. nat_lt u.client c) (λ u s. refl) t m.number (setting_out ws) us refl k.own);
    stops = all-map (λ u. nat_le u.stop (m.number + 1)) (λ u. nat_le u.stop (m.number + 1)) (closed (is_over dealt.ended)) (closed-as (λ u. nat_le u.stop (m.number + 1)) (λ u. refl) (is_over dealt.ended)) dealt.spans all-passed.ready.before;
    starts = all-map (λ u. nat_le u.start (m.number + 1)) (λ u. nat_le u.start (m.number + 1)) (closed (is_over dealt.ended)) (closed-as (λ u. nat_le u.start (m.number + 1)) (λ u. refl) (is_over dealt.ended)) dealt.spans
        (deal-keeps (λ u. nat_le u.start (m.number + 1)) (λ u s. refl) t m.number (setting_out ws) us refl (more-most (λ (u : Span). u.start) m.number us k.starts));
    above = all-map (is_above (posted t m logs)) (is_settled (posted t m logs) dealt.ended) (closed (is_over dealt.ended)) (closed-settled (posted t m logs) dealt.ended) dealt.spans
        (deal-settled t m logs (posted-before m.number t m logs refl k.before) (setting_out ws) us refl k.above);
    before = posted-before m.number t m logs refl k.before;
  }

  abbrev pub reached : Spread
  reached = spread m.number m.bytes (subscribers t (subs_by us)) (clients_by logs us ws)

  reached-is : spread m.number m.bytes (subscribers t (subs_by us)) (clients_by (posted t m logs) us ws) ≡ reached
  reached-is = ap (spread m.number m.bytes (subscribers t (subs_by us))) (clients-logs logs (posted t m logs) us ws same-waits)

  pub publish-ended : dealt.ended ≡ reached.ended
  publish-ended = all-passed.ended ∙ ap (λ s. s.ended) reached-is

  pub publish-clients : clients_by (posted t m logs) (map (closed (is_over dealt.ended)) dealt.spans) dealt.waiters ≡ reached.clients
  publish-clients =
      clients-as (posted t m logs) (map (closed (is_over dealt.ended)) dealt.spans) dealt.spans dealt.waiters (waits-closed (posted t m logs) (is_over dealt.ended) dealt.spans)
      ∙ (ap (λ x. clients_by (posted t m logs) x dealt.waiters) (sym (append-nil dealt.spans)) ∙ (all-passed.clients ∙ ap (λ s. s.clients) reached-is))

  pub publish-subs : subs_by (map (closed (is_over dealt.ended)) dealt.spans) ≡ still_live reached.ended (subs_by us)
  publish-subs =
      subs-closed (is_over dealt.ended) dealt.spans
      ∙ (ap (λ x. filter (λ u. not (is_over dealt.ended u.id)) x) (deal-subs t m.number (setting_out ws) us) ∙ ap (λ e. still_live e (subs_by us)) publish-ended)
