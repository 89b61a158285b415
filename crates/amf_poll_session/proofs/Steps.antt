-- The steps of a listener over a link: what was so in between, and how it ends.
use Rattle.std.proofs.Common.{◌≡◌, ◌∙◌, ◌⊎◌, inl, inr, ℕ, ◌+◌, ◌^◌, ◌<◌, ◌≤◌, Bool, true, false, ◌||◌, ◌==◌, nat_lt, if◌then◌else◌, List, [], ◌∷◌, ◌++◌, append_assoc, append-nil, Option, Some, None, refl, sym, ap, subst, Result, Ok, Err, arith}
use Rattle.std.proofs.lemmas.Bool.Decides.{nat_tests}
use Rattle.amf_io.specs.declared.link.Link.{Ghosts as LinkMembers}
use Rattle.amf_io.specs.Dial.{IsFresh}
use Rattle.amf_graph.specs.Graph.{Graph}
use Rattle.amf_graph.specs.Rooted.{RootedArena}
use Rattle.amf_io.specs.Written.{WritesFront}
use Rattle.amf_client.specs.declared.ends.AnswerFault.{AnswerFault}
use Rattle.amf_client.specs.declared.ends.AnswerFault.TheVariants as read
use Rattle.amf_poll_session.specs.declared.ends.ListenEnd.{ListenEnd}
use Rattle.amf_poll_session.specs.declared.ends.ListenEnd.TheVariants as answer
use Rattle.amf_poll_session.specs.declared.reply.Heard.{Heard}
use Rattle.amf_poll_session.specs.declared.request.Request.{Request}
use Rattle.amf_poll_session.specs.declared.request.Request.TheVariants.{Ping, Subscribe, Poll, Disconnect}
use Rattle.amf_poll_session.specs.declared.session.Session.{Session as Stand}
use Rattle.amf_wire.specs.declared.memory.Memory.{Memory}
use Rattle.amf_wire.specs.Text.{IsText}
use Rattle.amf_poll_session.specs.Requests.{IsAsked}
use Rattle.amf_poll_session.specs.Sessions.{Turn, reply, Sent, Session, poll_or, turned, listen_from}
use Rattle.amf_poll_session.specs.Carried.{is_fault, has_fault, Carries}
use Rattle.amf_poll_session.specs.Listened.{Spells, HasSpelled, Wrote, CountsOutput}
use Rattle.amf_poll_session.specs.Steps.{place, IsReady, next_of, id_after, is_new, asks_after, new_bodies, WentOn, GoesOn, Puts, EndsPut, Leads, EndsTurn, IsTurn, AreTurns, reached, Again, StaysAt, Carrying, CarriesOn, Brings, bodies_at, Over, RunsOver, Running, RunsOn, Advances, IsNoOutput, HeardOf, end_as}
use Rattle.amf_poll_session.proofs.Turns.{has_fault_more, one_more, with_turn, Halts, halts, on_to, goes_on_to, is_done}
use Rattle.amf_poll_session.proofs.Links.{carries_whole, carries_nothing}

-- Requests in their order.

pub place_within : (most : ℕ) (r : Request) (asks : ℕ) → IsReady most r asks → place most r ≤ most + 2
place_within most Ping asks ready = omega arith
place_within most Subscribe asks ready = omega arith
place_within most (Poll n) asks ready = omega (arith, ready.1)
place_within most Disconnect asks ready = omega arith

polled_by : (most asks low : ℕ) (over : Bool) → nat_lt most asks ≡ over → low ≤ asks → low ≤ most + 1
    → IsReady most (if over then Disconnect else Poll asks) asks × (low + 1 ≤ place most (if over then Disconnect else Poll asks))
polled_by most asks low true e below within = (tt, omega arith)
polled_by most asks low false e below within = let few : asks ≤ most = grind (arith, nat_tests) in ((refl, few), omega arith)

some_same : {X : Type 0} (x y : X) → Some x ≡ Some y → x ≡ y
some_same x y e = cc

stepped : (most asks : ℕ) (r r' next : Request) → Some r' ≡ Some next → IsReady most r' asks × (place most r + 1 ≤ place most r') → IsReady most next asks × (place most r + 1 ≤ place most next)
stepped most asks r r' next e is = subst (λ (x : Request). IsReady most x asks × (place most r + 1 ≤ place most x)) (some_same r' next e) is

equal_itself : (n : ℕ) → (n == n) ≡ true
equal_itself n = grind (arith, nat_tests)

rises : (n asks : ℕ) → n ≡ asks → (if n == asks then asks + 1 else asks) ≡ n + 1
rises n asks e =
    subst (λ (k : ℕ). (if n == k then k + 1 else k) ≡ n + 1) e (ap (λ (b : Bool). if b then n + 1 else n) (equal_itself n))

-- the next request is ready, and one place further
pub next_ready : (most : ℕ) (r : Request) (asks : ℕ) (next : Request) → IsReady most r asks → next_of most r (asks_after r asks) ≡ Some next
    → IsReady most next (asks_after r asks) × (place most r + 1 ≤ place most next)
next_ready most Ping asks next ready e = stepped most asks Ping Subscribe next e (ready, omega arith)
next_ready most Subscribe asks next ready e = stepped most asks Subscribe (poll_or most asks) next e (polled_by most asks 1 (nat_lt most asks) refl ready (omega arith))
next_ready most (Poll n) asks next ready e =
    let k : ℕ = asks_after (Poll n) asks in
    stepped most k (Poll n) (poll_or most k) next e (polled_by most k (n + 1) (nat_lt most k) refl (let up : k ≡ n + 1 = rises n asks ready.0 in omega arith) (omega (arith, ready.1)))
next_ready most Disconnect asks next ready e = absurd cc

-- the DSId behind an answer is a text
pub text_after : (r : Request) (told before after : List ℕ) → IsText told → IsText before → after ≡ id_after r told before → IsText after
text_after Ping told before after t b e = subst IsText (sym e) t
text_after Subscribe told before after t b e = subst IsText (sym e) b
text_after (Poll n) told before after t b e = subst IsText (sym e) b
text_after Disconnect told before after t b e = subst IsText (sym e) b

-- the number of a poll is small
pub few_polls : (most : ℕ) (r : Request) (asks n : ℕ) → most ≤ 1000000 → IsReady most r asks → r ≡ Poll n → n < 2 ^ 62
few_polls most Ping asks n few ready e = absurd cc
few_polls most Subscribe asks n few ready e = absurd cc
few_polls most (Poll k) asks n few ready e = let same : k ≡ n = cc in omega (arith, ready.1)
few_polls most Disconnect asks n few ready e = absurd cc

last_is_old : (most : ℕ) (r : Request) (asks : ℕ) → next_of most r (asks_after r asks) ≡ None → is_new r asks ≡ false
last_is_old most Ping asks none = absurd cc
last_is_old most Subscribe asks none = absurd cc
last_is_old most (Poll n) asks none = absurd cc
last_is_old most Disconnect asks none = refl

-- What the code tells of going on.

module _ (port : ℕ) (destination : List ℕ) (most : ℕ) (old mid new : Stand) (told : List ℕ) where
  -- the session behind an answer
  pub record Took : Type 0 where
    pub request : mid.request ≡ old.request
    pub taker : mid.taker ≡ asks_after old.request old.taker
    pub ds_id : mid.ds_id ≡ id_after old.request told old.ds_id

  next_so : (next : Option Request) → Took → next_of most mid.request mid.taker ≡ next → next_of most old.request (asks_after old.request old.taker) ≡ next
  next_so next t e =
      ap (λ (k : ℕ). next_of most old.request k) (sym t.taker) ∙ ap (λ (r : Request). next_of most r mid.taker) (sym t.request) ∙ e

  pub went_so : (r : Result Bool Memory) (b : Bool) → r ≡ Ok b → Took → WentOn port destination most mid new r → GoesOn port destination most old new told (Ok b)
  went_so (Ok true) true e t w = (next_so (Some new.request) t w.0, w.1, w.2 ∙ t.ds_id, w.3 ∙ t.taker, w.4)
  went_so (Ok false) false e t w = next_so None t w
  went_so (Ok true) false e t w = absurd cc
  went_so (Ok false) true e t w = absurd cc
  went_so (Err x) b e t w = absurd cc

  pub went_not : (r : Result Bool Memory) (x : Memory) → r ≡ Err x → Took → WentOn port destination most mid new r → GoesOn port destination most old new told (Err answer.Memory)
  went_not (Ok true) x e t w = absurd cc
  went_not (Ok false) x e t w = absurd cc
  went_not (Err y) x e t w = (w.0, next_so (Some w.0) t w.1)

  new_next : (r : Request) (asks : ℕ) → is_new r asks ≡ true → (next : Request) × (next_of most r (asks_after r asks) ≡ Some next)
  new_next Ping asks e = absurd cc
  new_next Subscribe asks e = absurd cc
  new_next (Poll n) asks e = (_, refl)
  new_next Disconnect asks e = absurd cc

  pub not_put : {X : Type 0} (e : ListenEnd) (new_one : Bool) (x : Result X ListenEnd) → x ≡ Err e → EndsPut new_one x → new_one ≡ is_new old.request old.taker → GoesOn port destination most old new told (Err e)
  not_put answer.Done new_one x is ends same = absurd (subst (EndsPut new_one) is ends)
  not_put (answer.Fault c t) new_one x is ends same = absurd (subst (EndsPut new_one) is ends)
  not_put (answer.BadReply n) new_one x is ends same = absurd (subst (EndsPut new_one) is ends)
  not_put answer.LinkFault new_one x is ends same = absurd (subst (EndsPut new_one) is ends)
  not_put answer.WriteFault new_one x is ends same = new_next old.request old.taker (sym same ∙ subst (EndsPut new_one) is ends)
  not_put answer.Memory new_one x is ends same = new_next old.request old.taker (sym same ∙ subst (EndsPut new_one) is ends)

-- an end of the output is one of the answer
pub puts_same : (X Y : Type 0) (bodies : List Graph) (a b : List ℕ) (e : ListenEnd) → Puts {X = X} bodies a b (Err e) → Puts {X = Y} bodies a b (Err e)
puts_same X Y bodies a b answer.Done p = p
puts_same X Y bodies a b (answer.Fault c t) p = p
puts_same X Y bodies a b (answer.BadReply n) p = p
puts_same X Y bodies a b answer.LinkFault p = p
puts_same X Y bodies a b answer.WriteFault p = p
puts_same X Y bodies a b answer.Memory p = p

-- Output.

pub spells_more : (xs ys : List Graph) (b c : List ℕ) → Spells xs b → Spells ys c → Spells (xs ++ ys) (b ++ c)
spells_more [] ys b c xb yc = subst (Spells ys) (sym (ap (λ (l : List ℕ). l ++ c) xb)) yc
spells_more (x ∷ xs) ys b c xb yc =
    (xb.0, xb.1 ++ c, ap (λ (l : List ℕ). l ++ c) xb.2 ∙ append_assoc xb.0 xb.1 c, xb.3, spells_more xs ys xb.1 c xb.4 yc)

pub spelled_more : (xs ys : List Graph) (a b c : List ℕ) → HasSpelled xs a b → HasSpelled ys b c → HasSpelled (xs ++ ys) a c
spelled_more xs ys a b c x y = (x.0 ++ y.0, spells_more xs ys x.0 y.0 x.1 y.1, y.2 ∙ ap (λ (l : List ℕ). l ++ y.0) x.2 ∙ append_assoc a x.0 y.0)

pub spelled_none : (a : List ℕ) → HasSpelled [] a a
spelled_none a = ([], refl, sym (append-nil a))

front_more : (a b now x c : List ℕ) → b ≡ a ++ x → WritesFront b now c → WritesFront a now (x ++ c)
front_more a b now x c e f = record {
  front = x ++ f.front;
  rest = f.rest;
  parts = ap (λ (l : List ℕ). x ++ l) f.parts ∙ sym (append_assoc x f.front f.rest);
  added = f.added ∙ ap (λ (l : List ℕ). l ++ f.front) e ∙ append_assoc a x f.front;
}

-- what was written before, and then to the end
pub wrote_more : (xs ys : List Graph) (a b c : List ℕ) (e : ListenEnd) → HasSpelled xs a b → Wrote ys b c e → Wrote (xs ++ ys) a c e
wrote_more xs ys a b c answer.Done x w = spelled_more xs ys a b c x w
wrote_more xs ys a b c (answer.Fault code text) x w = spelled_more xs ys a b c x w
wrote_more xs ys a b c (answer.BadReply n) x w = spelled_more xs ys a b c x w
wrote_more xs ys a b c answer.LinkFault x w = spelled_more xs ys a b c x w
wrote_more xs ys a b c answer.WriteFault x w = (x.0 ++ w.0, spells_more xs ys x.0 w.0 x.1 w.1, front_more a b c x.0 w.0 x.2 w.2)
wrote_more xs ys a b c answer.Memory x w = (xs ++ w.0, w.1, ap (λ (l : List Graph). xs ++ l) w.2 ∙ sym (append_assoc xs w.0 w.1), spelled_more xs w.0 a b c x w.3)

starved_so : (ys xs : List Graph) (a b c : List ℕ) → HasSpelled xs a b → (c ≡ b) ⊎ HasSpelled ys b c → Wrote (xs ++ ys) a c answer.Memory
starved_so ys xs a b c x (inl same) = (xs, ys, refl, subst (HasSpelled xs a) (sym same) x)
starved_so ys xs a b c x (inr y) = (xs ++ ys, [], sym (append-nil (xs ++ ys)), spelled_more xs ys a b c x y)

-- an end that no output failed for
pub wrote_whole : {B : Type 0} (xs : List Graph) (a b : List ℕ) (e : ListenEnd) (turn : Turn B) → EndsTurn e turn → HasSpelled xs a b → Wrote xs a b e
wrote_whole xs a b answer.Done turn ends x = absurd ends
wrote_whole xs a b (answer.Fault code text) turn ends x = x
wrote_whole xs a b (answer.BadReply n) turn ends x = x
wrote_whole xs a b answer.LinkFault turn ends x = x
wrote_whole xs a b answer.WriteFault turn ends x = absurd ends
wrote_whole xs a b answer.Memory turn ends x = (xs, [], sym (append-nil xs), x)

is_turn : {B : Type 0} (e : ListenEnd) (turn : Turn B) → EndsTurn e turn → IsTurn turn
is_turn answer.Done turn ends = absurd ends
is_turn (answer.Fault code text) turn ends = subst IsTurn (sym ends) tt
is_turn (answer.BadReply n) turn ends = subst IsTurn (sym ends) tt
is_turn answer.LinkFault turn ends = subst IsTurn (sym ends) tt
is_turn answer.WriteFault turn ends = absurd ends
is_turn answer.Memory turn ends = subst IsTurn (sym ends) tt

turns_more : {B : Type 0} (turns : List (Turn B)) (turn : Turn B) → (turns ≡ []) ⊎ AreTurns turns → IsTurn turn → AreTurns (turns ++ turn ∷ [])
turns_more [] turn are is = is
turns_more (x ∷ turns) turn (inl none) is = absurd cc
turns_more (x ∷ turns) turn (inr are) is = are

stays : (e : ListenEnd) {A : Type 0} → A → StaysAt e A
stays answer.Done a = tt
stays (answer.Fault code text) a = tt
stays (answer.BadReply n) a = a
stays answer.LinkFault a = a
stays answer.WriteFault a = tt
stays answer.Memory a = tt

or_none : (b c : Bool) → c ≡ false → b ≡ (b || c)
or_none true c e = refl
or_none false c e = sym e

-- Over a link.

-- what is known of the code's session besides
pub record Between (most began : ℕ) (code : Stand) : Type 0 where
  pub ready : IsReady most code.request code.taker
  pub text : IsText code.ds_id
  pub few : code.spent ≤ 3
  pub later : began ≤ reached most code

module _ {L : Type 0} (link : LinkMembers L) (port : ℕ) (destination : List ℕ) (most : ℕ) (came : L) (held : List ℕ) (s : Session Graph) where
  module _ (a b : L) (kept keeps : List ℕ) (code : Stand) (told : Type 0) (holds : List ℕ) (turns : List (Turn Graph))
      (run : Running link port destination most came a kept code told held holds s (listen_from most turns s)) where
    -- the state in between
    abbrev pub state : Session Graph
    state = listen_from most turns s

    sent_so : (turn : Turn Graph) → run.sent ++ record { request = code.request; ds_id = code.ds_id; turn = turn } ∷ [] ≡ with_turn most state turn run.sent
    sent_so turn =
        ap (λ (r : Request). run.sent ++ record { request = r; ds_id = code.ds_id; turn = turn } ∷ []) (sym run.shows.request)
        ∙ ap (λ (d : List ℕ). run.sent ++ record { request = state.request; ds_id = d; turn = turn } ∷ []) (sym run.shows.ds_id)

    -- the use of the link ends with a turn that is no reply
    pub halted : (e : ListenEnd) (turn : Turn Graph) → EndsTurn e turn → Carries link port destination came b (run.sent ++ record { request = code.request; ds_id = code.ds_id; turn = turn } ∷ [])
        → (first : Stand) → Between most (reached most first) code → Over link port destination most came b first code told held holds e s (listen_from most (turns ++ turn ∷ []) s)
    halted e turn ends carries first between =
        let h : Halts most state (turned most turn state) (with_turn most state turn run.sent) turn e = halts most e turn state run.sent run.linked ends in
        subst (λ (x : Session Graph). Over link port destination most came b first code told held holds e s x) (sym (one_more most turns turn s run.open_end))
        (record {
          used = record {
            sent = with_turn most state turn run.sent;
            links = h.links ∙ ap (λ (l : List (List (Sent Graph))). l ++ with_turn most state turn run.sent ∷ []) run.links;
            carries = subst (λ (l : List (Sent Graph)). Carries link port destination came b l) (sent_so turn) carries;
            dials = h.dials ∙ run.dials;
            lost = h.lost ∙ ap (λ (x : Bool). x || is_fault turn) run.lost
                ∙ ap (λ (x : Bool). s.has_lost || x) (sym (has_fault_more run.sent (record { request = state.request; ds_id = state.ds_id; turn = turn }) run.carrying.no_fault));
          };
          leads = h.leads;
          written = record { more = run.more; written = h.written ∙ run.written; wrote = λ t. wrote_whole run.more held holds e turn ends (run.wrote t) };
          again = stays e (record {
            shows = record { request = h.request ∙ run.shows.request; spent = h.spent ∙ run.shows.spent; ds_id = h.ds_id ∙ run.shows.ds_id; asks = h.asks ∙ run.shows.asks; bytes = run.shows.bytes };
            ready = between.ready;
            text = between.text;
            few = between.few;
            later = between.later;
          });
        })

    -- what the code tells of the next request, of the session's own
    next_is : (new : Option Request) → next_of most code.request (asks_after code.request code.taker) ≡ new → next_of most state.request (asks_after state.request state.asks) ≡ new
    next_is new e =
        ap (λ (r : Request). next_of most r (asks_after r state.asks)) run.shows.request ∙ ap (λ (k : ℕ). next_of most code.request (asks_after code.request k)) run.shows.asks ∙ e

    new_is : (bodies : List Graph) → new_bodies (is_new state.request state.asks) bodies ≡ new_bodies (is_new code.request code.taker) bodies
    new_is bodies =
        ap (λ (r : Request). new_bodies (is_new r state.asks) bodies) run.shows.request ∙ ap (λ (k : ℕ). new_bodies (is_new code.request k) bodies) run.shows.asks

    -- the state behind a reply
    abbrev pub behind : Request → List ℕ → List Graph → Session Graph
    behind next ds bodies = on_to most next ds bodies (record state { link = Some (with_turn most state (reply ds bodies) run.sent) })

    replied_to : (next : Request) (ds : List ℕ) (bodies : List Graph) → next_of most code.request (asks_after code.request code.taker) ≡ Some next
        → listen_from most (turns ++ reply ds bodies ∷ []) s ≡ behind next ds bodies
    replied_to next ds bodies e = one_more most turns (reply ds bodies) s run.open_end ∙ goes_on_to most state run.sent run.linked next ds bodies (next_is (Some next) e)

    carried_so : (ds : List ℕ) (bodies : List Graph) → Carrying link port destination came b keeps (run.sent ++ record { request = code.request; ds_id = code.ds_id; turn = reply ds bodies } ∷ [])
        → Carrying link port destination came b keeps (with_turn most state (reply ds bodies) run.sent)
    carried_so ds bodies carrying = subst (λ (l : List (Sent Graph)). Carrying link port destination came b keeps l) (sent_so (reply ds bodies)) carrying

    written_so : (bodies : List Graph) → state.written ++ new_bodies (is_new state.request state.asks) bodies ≡ s.written ++ (run.more ++ new_bodies (is_new code.request code.taker) bodies)
    written_so bodies =
        ap (λ (l : List Graph). state.written ++ l) (new_is bodies)
        ∙ ap (λ (l : List Graph). l ++ new_bodies (is_new code.request code.taker) bodies) run.written
        ∙ append_assoc s.written run.more (new_bodies (is_new code.request code.taker) bodies)

    -- the session goes on over the link
    pub went_on : (ds : List ℕ) (bodies : List Graph) (new : Stand) (tells : Type 0) (now : List ℕ)
        → Carrying link port destination came b keeps (run.sent ++ record { request = code.request; ds_id = code.ds_id; turn = reply ds bodies } ∷ [])
        → GoesOn port destination most code new ds (Ok true) → (tells → told) → (tells → HasSpelled (new_bodies (is_new code.request code.taker) bodies) holds now)
        → Running link port destination most came b keeps new tells held now s (listen_from most (turns ++ reply ds bodies ∷ []) s)
    went_on ds bodies new tells now carrying goes back puts =
        subst (λ (x : Session Graph). Running link port destination most came b keeps new tells held now s x) (sym (replied_to new.request ds bodies goes.0))
        (record {
          shows = record {
            request = refl;
            spent = sym goes.1;
            ds_id = ap (λ (r : Request). id_after r ds state.ds_id) run.shows.request ∙ ap (λ (d : List ℕ). id_after code.request ds d) run.shows.ds_id ∙ sym goes.2;
            asks = ap (λ (r : Request). asks_after r state.asks) run.shows.request ∙ ap (λ (k : ℕ). asks_after code.request k) run.shows.asks ∙ sym goes.3;
            bytes = goes.4;
          };
          open_end = run.open_end;
          sent = with_turn most state (reply ds bodies) run.sent;
          linked = refl;
          carrying = carried_so ds bodies carrying;
          links = run.links;
          dials = run.dials;
          lost = run.lost;
          more = run.more ++ new_bodies (is_new code.request code.taker) bodies;
          written = written_so bodies;
          wrote = λ t. spelled_more run.more (new_bodies (is_new code.request code.taker) bodies) held holds now (run.wrote (back t)) (puts t);
        })

    -- the last request is answered
    pub finished : (ds : List ℕ) (bodies : List Graph) (first new : Stand) (tells : Type 0) (now : List ℕ)
        → Carrying link port destination came b keeps (run.sent ++ record { request = code.request; ds_id = code.ds_id; turn = reply ds bodies } ∷ [])
        → GoesOn port destination most code new ds (Ok false) → (tells → told) → (tells → HasSpelled (new_bodies (is_new code.request code.taker) bodies) holds now)
        → Over link port destination most came b first new tells held now answer.Done s (listen_from most (turns ++ reply ds bodies ∷ []) s)
    finished ds bodies first new tells now carrying none back puts =
        let y : List (Sent Graph) = with_turn most state (reply ds bodies) run.sent in
        let carries : Carrying link port destination came b keeps y = carried_so ds bodies carrying in
        let h : Halts most state (turned most (reply ds bodies) state) y (reply ds bodies) answer.Done = is_done most state run.sent run.linked ds bodies (next_is None none) in
        subst (λ (x : Session Graph). Over link port destination most came b first new tells held now answer.Done s x) (sym (one_more most turns (reply ds bodies) s run.open_end))
        (record {
          used = record {
            sent = y;
            links = h.links ∙ ap (λ (l : List (List (Sent Graph))). l ++ y ∷ []) run.links;
            carries = carries_whole link port destination came b keeps y carries;
            dials = h.dials ∙ run.dials;
            lost = h.lost ∙ sym (or_none state.has_lost false refl) ∙ run.lost ∙ or_none s.has_lost (has_fault y) carries.no_fault;
          };
          leads = h.leads;
          written = record {
            more = run.more;
            written = h.written ∙ run.written;
            wrote = λ t.
                let p = puts t in
                let same : new_bodies (is_new code.request code.taker) bodies ≡ [] = ap (λ (n : Bool). new_bodies n bodies) (last_is_old most code.request code.taker none) in
                subst (λ (l : List Graph). HasSpelled l held now) (ap (λ (l : List Graph). run.more ++ l) same ∙ append-nil run.more)
                (spelled_more run.more (new_bodies (is_new code.request code.taker) bodies) held holds now (run.wrote (back t)) p);
          };
          again = tt;
        })

    -- the output failed, or memory was wanting behind an answer
    cut : (e : ListenEnd) (ds : List ℕ) (bodies : List Graph) (next : Request) (first new : Stand) (tells : Type 0) (now : List ℕ)
        → Carrying link port destination came b keeps (run.sent ++ record { request = code.request; ds_id = code.ds_id; turn = reply ds bodies } ∷ [])
        → next_of most code.request (asks_after code.request code.taker) ≡ Some next → Leads (behind next ds bodies) e → StaysAt e (Again port destination most (reached most first) new (behind next ds bodies))
        → (tells → Wrote (run.more ++ new_bodies (is_new code.request code.taker) bodies) held now e)
        → Over link port destination most came b first new tells held now e s (listen_from most (turns ++ reply ds bodies ∷ []) s)
    cut e ds bodies next first new tells now carrying to leads again wrote =
        let y : List (Sent Graph) = with_turn most state (reply ds bodies) run.sent in
        let carries : Carrying link port destination came b keeps y = carried_so ds bodies carrying in
        subst (λ (x : Session Graph). Over link port destination most came b first new tells held now e s x) (sym (replied_to next ds bodies to))
        (record {
          used = record {
            sent = y;
            links = ap (λ (l : List (List (Sent Graph))). l ++ y ∷ []) run.links;
            carries = carries_whole link port destination came b keeps y carries;
            dials = run.dials;
            lost = run.lost ∙ or_none s.has_lost (has_fault y) carries.no_fault;
          };
          leads = leads;
          written = record { more = run.more ++ new_bodies (is_new code.request code.taker) bodies; written = written_so bodies; wrote = wrote };
          again = again;
        })

    pub cut_off : (e : ListenEnd) (ds : List ℕ) (bodies : List Graph) (first new : Stand) (tells : Type 0) (now : List ℕ)
        → Carrying link port destination came b keeps (run.sent ++ record { request = code.request; ds_id = code.ds_id; turn = reply ds bodies } ∷ [])
        → GoesOn port destination most code new ds (Err e) → (tells → told) → (tells → Puts {X = Bool} (new_bodies (is_new code.request code.taker) bodies) holds now (Err e))
        → Over link port destination most came b first new tells held now e s (listen_from most (turns ++ reply ds bodies ∷ []) s)
    cut_off answer.Done ds bodies first new tells now carrying goes back puts = absurd goes
    cut_off (answer.Fault code text) ds bodies first new tells now carrying goes back puts = absurd goes
    cut_off (answer.BadReply n) ds bodies first new tells now carrying goes back puts = absurd goes
    cut_off answer.LinkFault ds bodies first new tells now carrying goes back puts = absurd goes
    cut_off answer.WriteFault ds bodies first new tells now carrying goes back puts =
        cut answer.WriteFault ds bodies goes.0 first new tells now carrying goes.1 run.open_end tt
        (λ t. wrote_more run.more (new_bodies (is_new code.request code.taker) bodies) held holds now answer.WriteFault (run.wrote (back t)) (puts t))
    cut_off answer.Memory ds bodies first new tells now carrying goes back puts =
        cut answer.Memory ds bodies goes.0 first new tells now carrying goes.1 (inl run.open_end) tt
        (λ t. starved_so (new_bodies (is_new code.request code.taker) bodies) run.more held holds now (run.wrote (back t)) (puts t))

-- Of every session that stands so.

module _ {L : Type 0} (link : LinkMembers L) (port : ℕ) (destination : List ℕ) (most : ℕ) (came : L) (first : Stand) (held : List ℕ) where
  -- nothing is sent yet
  pub runs_first : (told : Type 0) → IsFresh (link.read_faults came) (link.write_faults came) → RunsOn link port destination most came came [] first first told held held
  runs_first told fresh = λ s shows linked going. (
    [],
    inl refl,
    record {
      shows = shows;
      open_end = going;
      sent = [];
      linked = linked;
      carrying = carries_nothing link port destination came fresh;
      links = refl;
      dials = refl;
      lost = refl;
      more = [];
      written = sym (append-nil s.written);
      wrote = λ t. spelled_none held;
    },
  )

  module _ (a b : L) (kept keeps : List ℕ) (code : Stand) (told : Type 0) (holds : List ℕ) (runs : RunsOn link port destination most came a kept first code told held holds) where
    -- what the code tells of a request that was sent: by what came, the turn, and what the link has carried
    abbrev pub Exchanged : (sent : List (Sent Graph)) → Result (RootedArena × Heard) ListenEnd → Type 0
    Exchanged sent x = (turn : Turn Graph) × Brings x turn × CarriesOn link port destination came b keeps (sent ++ record { request = code.request; ds_id = code.ds_id; turn = turn } ∷ []) x

    abbrev pub Exchanges : Result (RootedArena × Heard) ListenEnd → Type 0
    Exchanges x = (sent : List (Sent Graph)) → Carrying link port destination came a kept sent → IsAsked port destination code.ds_id code.request code.bytes.items → Exchanged sent x

    pub runs_out : (e : ListenEnd) → Exchanges (Err e) → Between most (reached most first) code → RunsOver link port destination most came b first code told held holds e
    runs_out e by between = λ s shows linked going.
        let r = runs s shows linked going in
        let x = by r.2.sent r.2.carrying r.2.shows.bytes in
        (r.0 ++ x.0 ∷ [], turns_more r.0 x.0 r.1 (is_turn e x.0 x.1), halted link port destination most came held s a b kept keeps code told holds r.0 r.2 e x.0 x.1 x.2 first between)

    module _ (g : RootedArena) (h : Heard) (new : Stand) (tells : Type 0) (now : List ℕ) (by : Exchanges (Ok (g, h))) (back : tells → told) where
      abbrev pub bodies : List Graph
      bodies = bodies_at g h.bodies.items

      -- the turn of the answer
      answered_so : (sent : List (Sent Graph)) → Carrying link port destination came a kept sent → IsAsked port destination code.ds_id code.request code.bytes.items
          → Carrying link port destination came b keeps (sent ++ record { request = code.request; ds_id = code.ds_id; turn = reply h.ds_id bodies } ∷ [])
      answered_so sent c asked =
          let x : Exchanged sent (Ok (g, h)) = by sent c asked in
          subst (λ (t : Turn Graph). Carrying link port destination came b keeps (sent ++ record { request = code.request; ds_id = code.ds_id; turn = t } ∷ [])) x.1 x.2

      pub runs_more : GoesOn port destination most code new h.ds_id (Ok true) → (tells → Puts (new_bodies (is_new code.request code.taker) bodies) holds now (Ok true))
          → RunsOn link port destination most came b keeps first new tells held now
      runs_more goes puts = λ s shows linked going.
          let r = runs s shows linked going in (
            r.0 ++ reply h.ds_id bodies ∷ [],
            inr (turns_more r.0 (reply h.ds_id bodies) r.1 tt),
            went_on link port destination most came held s a b kept keeps code told holds r.0 r.2 h.ds_id bodies new tells now (answered_so r.2.sent r.2.carrying r.2.shows.bytes) goes back puts,
          )

      pub runs_done : GoesOn port destination most code new h.ds_id (Ok false) → (tells → Puts (new_bodies (is_new code.request code.taker) bodies) holds now (Ok false))
          → RunsOver link port destination most came b first new tells held now answer.Done
      runs_done goes puts = λ s shows linked going.
          let r = runs s shows linked going in (
            r.0 ++ reply h.ds_id bodies ∷ [],
            turns_more r.0 (reply h.ds_id bodies) r.1 tt,
            finished link port destination most came held s a b kept keeps code told holds r.0 r.2 h.ds_id bodies first new tells now (answered_so r.2.sent r.2.carrying r.2.shows.bytes) goes back puts,
          )

      pub runs_cut : (e : ListenEnd) → GoesOn port destination most code new h.ds_id (Err e) → (tells → Puts {X = Bool} (new_bodies (is_new code.request code.taker) bodies) holds now (Err e))
          → RunsOver link port destination most came b first new tells held now e
      runs_cut e goes puts = λ s shows linked going.
          let r = runs s shows linked going in (
            r.0 ++ reply h.ds_id bodies ∷ [],
            turns_more r.0 (reply h.ds_id bodies) r.1 tt,
            cut_off link port destination most came held s a b kept keeps code told holds r.0 r.2 e h.ds_id bodies first new tells now (answered_so r.2.sent r.2.carrying r.2.shows.bytes) goes back puts,
          )

-- the next request is ready, and one place further
pub advanced : (port : ℕ) (destination : List ℕ) (most : ℕ) (old new : Stand) (told : List ℕ) → IsReady most old.request old.taker → IsText old.ds_id → IsText told → GoesOn port destination most old new told (Ok true) → Advances most old new
advanced port destination most old new told ready text said goes =
    let n = next_ready most old.request old.taker new.request ready goes.0 in
    record {
      ready = rw goes.3 n.0;
      text = text_after old.request told old.ds_id new.ds_id said text goes.2;
      few = goes.1;
      further = n.1;
    }

-- an end for which no write of the output failed counts nothing there
pub counts_none : (e : ListenEnd) (n : ℕ) → IsNoOutput e → CountsOutput n n e
counts_none answer.Done n none = refl
counts_none (answer.Fault code text) n none = refl
counts_none (answer.BadReply k) n none = refl
counts_none answer.LinkFault n none = refl
counts_none answer.WriteFault n none = absurd none
counts_none answer.Memory n none = refl

pub heard_no_output : (g : RootedArena) (r : Request) (e : ListenEnd) → HeardOf g r (Err e) → IsNoOutput e
heard_no_output g r answer.Done h = tt
heard_no_output g r (answer.Fault code text) h = tt
heard_no_output g r (answer.BadReply n) h = tt
heard_no_output g r answer.LinkFault h = tt
heard_no_output g r answer.WriteFault h = absurd h
heard_no_output g r answer.Memory h = tt

pub read_no_output : (f : AnswerFault) → IsNoOutput (end_as f)
read_no_output (read.Fault code text) = tt
read_no_output (read.BadReply n) = tt
read_no_output read.ReadFault = tt
read_no_output read.Memory = tt
