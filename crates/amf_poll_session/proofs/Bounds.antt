-- Every session: what holds of it at each turn.
use Rattle.std.proofs.Common.{◌≡◌, ◌∙◌, ℕ, ◌+◌, ◌-◌, ◌*◌, ◌≤◌, Bool, true, false, ◌&&◌, ◌==◌, nat_lt, if◌then◌else◌, List, [], ◌∷◌, ◌++◌, Option, Some, None, refl, sym, ap, subst, arith}
use Rattle.std.proofs.lemmas.Bool.Decides.{nat_tests}
use Rattle.amf_graph.specs.Graph.{Graph}
use Rattle.amf_once.specs.declared.taker.Taken.{Taken}
use Rattle.amf_once.specs.declared.taker.Taken.TheVariants.{New, Old, Ahead}
use Rattle.amf_once.specs.Taking.{judged}
use Rattle.amf_poll_session.specs.declared.request.Request.{Request}
use Rattle.amf_poll_session.specs.declared.request.Request.TheVariants.{Ping, Subscribe, Poll, Disconnect}
use Rattle.amf_poll_session.specs.Sessions.{Turn, no_link, link_fault, starved, bad, fault, reply, End, done, by_fault, by_bad, by_link, by_memory, Sent, Session, first_session, is_loss, is_retried, asks_again, stopped, poll_or, goes_on, took, replied, dials_again, linked_by, carried, missed, turned, unless_ended, listen_from, listen}
use Rattle.amf_poll_session.specs.Laws.{is_lost, AllSessions}
use Rattle.amf_poll_session.proofs.Turns.{one_more}

-- how many requests that are sent again were answered before
abbrev before : ℕ → Request → ℕ
before most Ping = 0
before most Subscribe = 0
before most (Poll n) = n - 1
before most Disconnect = most

-- where a request stands among the others, by the number that the taker asks
abbrev IsPlaced : ℕ → Request → ℕ → Type 0
IsPlaced most Ping asks = asks ≡ 1
IsPlaced most Subscribe asks = asks ≡ 1
IsPlaced most (Poll n) asks = (n ≡ asks) × (1 ≤ n) × (n ≤ most)
IsPlaced most Disconnect asks = Unit {0}

before_most : (most : ℕ) (r : Request) (asks : ℕ) → IsPlaced most r asks → before most r ≤ most
before_most most Ping asks p = omega arith
before_most most Subscribe asks p = omega arith
before_most most (Poll n) asks p = omega (arith, p.2)
before_most most Disconnect asks p = omega arith

-- what holds of a session
record Holds (most : ℕ) (s : Session Graph) : Type 0 where
  few : s.spent ≤ 3
  once : is_retried s.request ≡ false → s.spent ≤ 1
  placed : IsPlaced most s.request s.asks
  short : s.dials ≤ 2 * before most s.request + s.spent
  -- where it may dial, there is a dial left
  left : s.link ≡ None → s.end ≡ None → s.spent ≤ 2
  first : s.link ≡ None → s.end ≡ None → is_retried s.request ≡ false → s.spent ≡ 0
  gives_up : (e : End) → s.end ≡ Some e → is_loss e ≡ true → is_retried s.request ≡ true → s.spent ≡ 3

none_some : {A : Type 0} {X : Type 0} (x : X) → None ≡ Some x → A
none_some x e = cc

some_same : {X : Type 0} (x y : X) → Some x ≡ Some y → x ≡ y
some_same x y e = cc

-- by whether it is sent again
left_by : (b : Bool) (e : End) (spent : ℕ) → (b ≡ true → spent ≤ 2) → (if b then None else Some e) ≡ None → spent ≤ 2
left_by true e spent f is = f refl
left_by false e spent f is = absurd cc

parts_true : (a b c : Bool) → (a && b && c) ≡ true → c ≡ true
parts_true true true c e = e
parts_true true false c e = absurd cc
parts_true false b c e = absurd cc

below_three : (n : ℕ) → nat_lt n 3 ≡ true → n ≤ 2
below_three n e = grind (arith, nat_tests)

not_below : (n : ℕ) → n ≤ 3 → nat_lt n 3 ≡ false → n ≡ 3
not_below n few e = grind (arith, nat_tests)

end_by : (b : Bool) (e x : End) → (if b then None else Some e) ≡ Some x → (b ≡ false) × (e ≡ x)
end_by true e x is = absurd cc
end_by false e x is = (refl, some_same e x is)

all_false : (a b c : Bool) → (a && b && c) ≡ false → a ≡ true → b ≡ true → c ≡ false
all_false a b c e ea eb = subst (λ (x : Bool). (x && b && c) ≡ false → c ≡ false) (sym ea) (λ f. subst (λ (y : Bool). (y && c) ≡ false → c ≡ false) (sym eb) (λ g. g) f) e

not_again : {A : Type 0} (a b c : Bool) (e : End) → b ≡ false → (if a && b && c then None else Some e) ≡ None → A
not_again true true c e f is = absurd cc
not_again true false c e f is = absurd cc
not_again false b c e f is = absurd cc

-- a session that stops, whatever its links
stops : (most : ℕ) (e : End) (s : Session Graph) → s.spent ≤ 3 → (is_retried s.request ≡ false → s.spent ≤ 1) → IsPlaced most s.request s.asks → s.dials ≤ 2 * before most s.request + s.spent → Holds most (stopped e s)
stops most e s few once placed short = record {
  few = few;
  once = once;
  placed = placed;
  short = short;
  left = λ u o. left_by (asks_again e s.request s.spent) e s.spent (λ b. below_three s.spent (parts_true (is_loss e) (is_retried s.request) (nat_lt s.spent 3) b)) o;
  first = λ u o f. not_again (is_loss e) (is_retried s.request) (nat_lt s.spent 3) e f o;
  gives_up = λ x is loss retried.
      let p = end_by (asks_again e s.request s.spent) e x is in
      not_below s.spent few (all_false (is_loss e) (is_retried s.request) (nat_lt s.spent 3) p.0 (subst (λ (y : End). is_loss y ≡ true) (sym p.1) loss) retried);
}

-- a session whose link carries a turn
record Carried (most : ℕ) (s : Session Graph) : Type 0 where
  few : s.spent ≤ 3
  once : is_retried s.request ≡ false → s.spent ≤ 1
  placed : IsPlaced most s.request s.asks
  short : s.dials ≤ 2 * before most s.request + s.spent

one : (n : ℕ) → n ≡ 0 → n + 1 ≤ 1
one n e = omega arith

linked : (most : ℕ) (l : Option (List (Sent Graph))) (s : Session Graph) → s.link ≡ l → s.end ≡ None → Holds most s → Carried most (linked_by l s)
linked most None s is o h =
    let left = h.left is o in
    record { few = omega arith; once = λ f. one s.spent (h.first is o f); placed = h.placed; short = omega (arith, h.short) }
linked most (Some sent) s is o h = record { few = h.few; once = h.once; placed = h.placed; short = h.short }

-- the request is the same, with the link and without
carries : (most : ℕ) (turn : Turn Graph) (s : Session Graph) → s.end ≡ None → Holds most s → Carried most (carried turn s)
carries most turn s o h =
    let c : Carried most (linked_by s.link s) = linked most s.link s refl o h in
    record { few = c.few; once = c.once; placed = c.placed; short = c.short }

-- the next poll, or the disconnect
polls : (most asks k : ℕ) (over : Bool) → nat_lt most asks ≡ over → k + 1 ≡ asks → k ≤ most
    → IsPlaced most (if over then Disconnect else Poll asks) asks × (k ≤ before most (if over then Disconnect else Poll asks))
polls most asks k true e is within = (tt, within)
polls most asks k false e is within = let few : asks ≤ most = grind (arith, nat_tests) in ((refl, omega arith, few), omega arith)

goes : (most : ℕ) (s : Session Graph) (r : Request) (sent : List (Sent Graph)) → s.end ≡ None → s.link ≡ Some sent → IsPlaced most r s.asks → s.dials ≤ 2 * before most r + 1 → Holds most (goes_on r s)
goes most s r sent o there placed short = record {
  few = omega arith;
  once = λ f. omega arith;
  placed = placed;
  short = short;
  left = λ u e. omega arith;
  first = λ u e f. none_some sent (sym u ∙ there);
  gives_up = λ x is loss retried. none_some x (sym o ∙ is);
}

same_number : (n asks : ℕ) → n ≡ asks → judged asks n ≡ New
same_number n asks e = let same : (n == asks) ≡ true = grind (arith, nat_tests) in ap (λ (b : Bool). if b then New else if nat_lt n asks then Old else Ahead) same

carried_link : (turn : Turn Graph) (s : Session Graph) → (sent : List (Sent Graph)) × ((carried turn s).link ≡ Some sent)
carried_link turn s = (_, refl)

linked_end : (l : Option (List (Sent Graph))) (s : Session Graph) → (linked_by l s).end ≡ s.end
linked_end None s = refl
linked_end (Some sent) s = refl

linked_request : (l : Option (List (Sent Graph))) (s : Session Graph) → (linked_by l s).request ≡ s.request
linked_request None s = refl
linked_request (Some sent) s = refl

replies : (most : ℕ) (ds : List ℕ) (bodies : List Graph) (r : Request) (s : Session Graph) (sent : List (Sent Graph)) → s.request ≡ r → s.end ≡ None → s.link ≡ Some sent → Carried most s → Holds most (replied most ds bodies r s)
replies most ds bodies Ping s sent is o there c =
    let placed = subst (λ (r : Request). IsPlaced most r s.asks) is c.placed in
    let short = subst (λ (r : Request). s.dials ≤ 2 * before most r + s.spent) is c.short in
    let once = subst (λ (r : Request). is_retried r ≡ false → s.spent ≤ 1) is c.once refl in
    goes most (record s { ds_id = ds }) Subscribe sent o there placed (omega (arith, once, short))
replies most ds bodies Subscribe s sent is o there c =
    let placed : s.asks ≡ 1 = subst (λ (r : Request). IsPlaced most r s.asks) is c.placed in
    let short : s.dials ≤ 2 * 0 + s.spent = subst (λ (r : Request). s.dials ≤ 2 * before most r + s.spent) is c.short in
    let once : s.spent ≤ 1 = subst (λ (r : Request). is_retried r ≡ false → s.spent ≤ 1) is c.once refl in
    let p = polls most s.asks 0 (nat_lt most s.asks) refl (omega arith) (omega arith) in
    goes most s (poll_or most s.asks) sent o there p.0 (omega (arith, p.1))
replies most ds bodies (Poll n) s sent is o there c =
    let placed : (n ≡ s.asks) × (1 ≤ n) × (n ≤ most) = subst (λ (r : Request). IsPlaced most r s.asks) is c.placed in
    let short : s.dials ≤ 2 * (n - 1) + s.spent = subst (λ (r : Request). s.dials ≤ 2 * before most r + s.spent) is c.short in
    let t : Session Graph = record s { asks = s.asks + 1; written = s.written ++ bodies } in
    let p = polls most t.asks n (nat_lt most t.asks) refl (omega (arith, placed.0)) placed.2 in
    subst (λ (k : Session Graph). Holds most (goes_on (poll_or most k.asks) k)) (sym (ap (λ j. took j bodies s) (same_number n s.asks placed.0)))
    (goes most t (poll_or most t.asks) sent o there p.0 (omega (arith, p.1, placed.1, c.few)))
replies most ds bodies Disconnect s sent is o there c = stops most done s c.few c.once c.placed c.short

misses : (most : ℕ) (l : Option (List (Sent Graph))) (s : Session Graph) → s.link ≡ l → s.end ≡ None → Holds most s → Holds most (missed l s)
misses most None s is o h =
    let left = h.left is o in
    stops most by_link (record (dials_again s) { has_lost = true }) (omega arith) (λ f. one s.spent (h.first is o f)) h.placed (omega (arith, h.short))
misses most (Some sent) s is o h = h

turns : (most : ℕ) (turn : Turn Graph) (s : Session Graph) → s.end ≡ None → Holds most s → Holds most (turned most turn s)
turns most no_link s o h = misses most s.link s refl o h
turns most link_fault s o h = let c = carries most link_fault s o h in stops most by_link (record (carried link_fault s) { has_lost = true }) c.few c.once c.placed c.short
turns most starved s o h = let c = carries most starved s o h in stops most by_memory (carried starved s) c.few c.once c.placed c.short
turns most (bad n) s o h = let c = carries most (bad n) s o h in stops most (by_bad n) (carried (bad n) s) c.few c.once c.placed c.short
turns most (fault code text) s o h = let c = carries most (fault code text) s o h in stops most (by_fault code text) (carried (fault code text) s) c.few c.once c.placed c.short
turns most (reply ds bodies) s o h =
    replies most ds bodies s.request (carried (reply ds bodies) s) (carried_link (reply ds bodies) s).0 (linked_request s.link s) (linked_end s.link s ∙ o) (carried_link (reply ds bodies) s).1 (carries most (reply ds bodies) s o h)

unless : (most : ℕ) (end : Option End) (turn : Turn Graph) (s : Session Graph) → s.end ≡ end → Holds most s → Holds most (unless_ended most end turn s)
unless most None turn s is h = turns most turn s is h
unless most (Some e) turn s is h = h

holds_from : (most : ℕ) (ts : List (Turn Graph)) (s : Session Graph) → Holds most s → Holds most (listen_from most ts s)
holds_from most [] s h = h
holds_from most (t ∷ ts) s h = holds_from most ts (unless_ended most s.end t s) (unless most s.end t s refl h)

holds_first : (most : ℕ) → Holds most first_session
holds_first most = record {
  few = omega arith;
  once = λ f. omega arith;
  placed = refl;
  short = omega arith;
  left = λ u o. omega arith;
  first = λ u o f. refl;
  gives_up = λ e is loss retried. none_some e is;
}

-- The last turn of a session that ends by the link.

by_link_alone : (b : Bool) (e : End) → (if b then None else Some e) ≡ Some by_link → e ≡ by_link
by_link_alone true e is = absurd cc
by_link_alone false e is = some_same e by_link is

open_replied : (most : ℕ) (ds : List ℕ) (bodies : List Graph) (r : Request) (s : Session Graph) → s.end ≡ None → (replied most ds bodies r s).end ≡ Some by_link → true ≡ false
open_replied most ds bodies Ping s o is = none_some by_link (sym o ∙ is)
open_replied most ds bodies Subscribe s o is = none_some by_link (sym o ∙ is)
open_replied most ds bodies (Poll n) s o is = none_some by_link (sym (took_end (judged s.asks n) bodies s ∙ o) ∙ is)
  where
    took_end : (j : Taken) (bodies : List Graph) (s : Session Graph) → (took j bodies s).end ≡ s.end
    took_end New bodies s = refl
    took_end Old bodies s = refl
    took_end Ahead bodies s = refl
open_replied most ds bodies Disconnect s o is = let e : done ≡ by_link = some_same done by_link is in absurd cc

last_lost : (most : ℕ) (turn : Turn Graph) (s : Session Graph) → s.end ≡ None → (turned most turn s).end ≡ Some by_link → is_lost turn ≡ true
last_lost most no_link s o is = refl
last_lost most link_fault s o is = refl
last_lost most starved s o is = let e : by_memory ≡ by_link = some_same by_memory by_link is in absurd cc
last_lost most (bad n) s o is =
    let c : Session Graph = carried (bad n) s in
    let e : by_bad n ≡ by_link = by_link_alone (asks_again (by_bad n) c.request c.spent) (by_bad n) is in absurd cc
last_lost most (fault code text) s o is = let e : by_fault code text ≡ by_link = some_same (by_fault code text) by_link is in absurd cc
last_lost most (reply ds bodies) s o is = let e : true ≡ false = open_replied most ds bodies s.request (carried (reply ds bodies) s) (linked_end s.link s ∙ o) is in absurd cc

pub every_session : AllSessions
every_session most ts =
    let h : Holds most (listen most ts) = holds_from most ts first_session (holds_first most) in
    record {
      few = h.few;
      gives_up = h.gives_up;
      by_loss = λ front last is o ended.
          last_lost most last (listen most front) o (ap (λ (s : Session Graph). s.end) (sym (one_more most front last first_session o)) ∙ ap (λ (l : List (Turn Graph)). (listen most l).end) (sym is) ∙ ended);
      short = let within = before_most most (listen most ts).request (listen most ts).asks h.placed in omega (arith, h.short, h.few);
    }
