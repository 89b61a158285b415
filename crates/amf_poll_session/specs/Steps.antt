-- The steps of a listener. A device of proofs.
use Rattle.std.specs.Prelude.{◌≡◌, ◌⊎◌, ℕ, ◌+◌, ◌*◌, ◌≤◌, Bool, true, false, ◌||◌, ◌==◌, if◌then◌else◌, List, [], ◌∷◌, ◌++◌, map, flat_map, Option, Some, None, Result, Ok, Err, IfOk}
use Rattle.std.specs.List.{AllByRecursion, list_all}
use Rattle.std.specs.declared.vec.Vec.{Vec}
use Rattle.std.specs.declared.alloc.Global.{Global}
use Rattle.amf_io.specs.declared.dial.Dial.{Ghosts as DialMembers}
use Rattle.amf_io.specs.declared.link.Link.{Ghosts as LinkMembers}
use Rattle.amf_io.specs.declared.sink.Sink.{Ghosts as SinkMembers}
use Rattle.amf_io.specs.Dial.{IsFresh}
use Rattle.amf_wire.specs.declared.memory.Memory.{Memory}
use Rattle.amf_wire.specs.Text.{IsText}
use Rattle.amf_graph.specs.declared.value.Value.{Value as Stored}
use Rattle.amf_graph.specs.Graph.{Graph, Value}
use Rattle.amf_graph.specs.Arena.{Names, value_content}
use Rattle.amf_graph.specs.Rooted.{RootedArena, content}
use Rattle.amf_io.specs.Written.{WritesFront}
use Rattle.amf_client.specs.declared.ends.AnswerFault.{AnswerFault}
use Rattle.amf_client.specs.declared.ends.AnswerFault.TheVariants as read
use Rattle.amf_once.specs.declared.taker.Taken.{Taken}
use Rattle.amf_once.specs.declared.taker.Taken.TheVariants.{New, Old, Ahead}
use Rattle.amf_once.specs.Taking.{judged}
use Rattle.amf_poll_session.specs.declared.ends.ListenEnd.{ListenEnd}
use Rattle.amf_poll_session.specs.declared.ends.ListenEnd.TheVariants as answer
use Rattle.amf_poll_session.specs.declared.kind.MessageKind.{MessageKind}
use Rattle.amf_poll_session.specs.declared.kind.MessageKind.TheVariants.{Sync}
use Rattle.amf_poll_session.specs.declared.request.Request.{Request}
use Rattle.amf_poll_session.specs.declared.request.Request.TheVariants.{Ping, Subscribe, Poll, Disconnect}
use Rattle.amf_poll_session.specs.declared.reply.Heard.{Heard}
use Rattle.amf_poll_session.specs.declared.session.Session.{Session as Stand}
use Rattle.amf_poll_session.specs.declared.session.Course.{Course}
use Rattle.amf_poll_session.specs.Requests.{IsAsked}
use Rattle.amf_poll_session.specs.Replies.{Item, kind_at, item_at, is_item, body_of, seen_of, items_at, are_items, is_answer, bodies_in}
use Rattle.amf_poll_session.specs.Sessions.{Turn, no_link, link_fault, starved, bad, fault, reply, turn_of, done, by_fault, by_bad, by_link, by_memory, asks_again, end_after, poll_or, Sent, Session, all_links, listen_from}
use Rattle.amf_poll_session.specs.Carried.{unbroken, AreAsked, AreAnswered, has_fault, Carries}
use Rattle.amf_poll_session.specs.Listened.{Spells, HasSpelled, Wrote, Listened, CountsOutput, IsNumbered}

-- Replies and output.

-- the graphs of bodies that a graph holds
abbrev pub bodies_at : RootedArena → List Stored → List Graph
bodies_at g bodies = map (λ v. record (content g) { root = value_content g.arena v }) bodies

-- what a graph tells: its DSId and its correlation identifier
abbrev pub told_id : Graph → Option (List ℕ)
told_id g = (seen_of g).ds_id

abbrev pub told_correlation : Graph → Option (List ℕ)
told_correlation g = (seen_of g).correlation

-- the items of so many values
abbrev pub items_of : RootedArena → List Stored → List (Item Graph)
items_of g vs = map (item_at (content g)) (map (value_content g.arena) vs)

abbrev pub is_told : Item Graph → Bool
is_told i = is_item i.kind

abbrev pub told_body : Item Graph → List Graph
told_body i = body_of i.kind i.body

abbrev pub item_kind : RootedArena → Stored → MessageKind
item_kind g v = kind_at (content g) (value_content g.arena v)

-- so far: these items are all delivered messages or invalidates, and these are their bodies
pub record SoFar (g : RootedArena) (vs bodies : List Stored) : Type 0 where
  pub are : list_all is_told (items_of g vs) ≡ true
  pub told : flat_map told_body (items_of g vs) ≡ bodies_at g bodies
  pub names : AllByRecursion (Names g.arena) bodies

-- one item more, or one that is neither
abbrev pub AddsItem : RootedArena → Stored → (old new : List Stored) → Bool → Type 0
AddsItem g v old new true = (vs : List Stored) → SoFar g vs old → SoFar g (vs ++ v ∷ []) new
AddsItem g v old new false = is_item (item_kind g v) ≡ false

-- the bodies that a list of items delivers, where each item is a delivered message or an invalidate
abbrev pub Bodies : RootedArena → Value → Option (Vec Stored Global) → Type 0
Bodies g body None = are_items Sync (items_at (content g) body) ≡ false
Bodies g body (Some bodies) = (are_items Sync (items_at (content g) body) ≡ true) × (bodies_in Sync (items_at (content g) body) ≡ bodies_at g bodies.items)

-- the bodies of a reply, where it is an answer
abbrev pub Delivers : RootedArena → Option (Vec Stored Global) → Type 0
Delivers g None = is_answer (seen_of (content g)) ≡ false
Delivers g (Some bodies) = (is_answer (seen_of (content g)) ≡ true) × (bodies_in (seen_of (content g)).kind (seen_of (content g)).items ≡ bodies_at g bodies.items)

-- what was heard of a graph
abbrev pub Hears : RootedArena → Request → Option Heard → Type 0
Hears g r None = turn_of r (seen_of (content g)) ≡ bad 6
Hears g r (Some heard) = turn_of r (seen_of (content g)) ≡ reply heard.ds_id (bodies_at g heard.bodies.items)

-- the spellings of bodies, where there is memory
abbrev pub Spelled : List Graph → Result (Vec ℕ Global) Memory → Type 0
Spelled bodies r = IfOk r (λ v. Spells bodies v.items)

-- Requests in their order.

abbrev pub place : ℕ → Request → ℕ
place most Ping = 0
place most Subscribe = 1
place most (Poll n) = n + 1
place most Disconnect = most + 2

-- a poll has the number that the taker asks
abbrev pub IsReady : ℕ → Request → ℕ → Type 0
IsReady most Ping asks = 1 ≤ asks
IsReady most Subscribe asks = 1 ≤ asks
IsReady most (Poll n) asks = (n ≡ asks) × (n ≤ most)
IsReady most Disconnect asks = Unit {0}

-- the request behind an answered one, by the number that the taker asks then
abbrev pub next_of : ℕ → Request → ℕ → Option Request
next_of most Ping asks = Some Subscribe
next_of most Subscribe asks = Some (poll_or most asks)
next_of most (Poll n) asks = Some (poll_or most asks)
next_of most Disconnect asks = None

-- the DSId after an answer that told another
abbrev pub id_after : Request → (told before : List ℕ) → List ℕ
id_after Ping told before = told
id_after _ told before = before

abbrev pub is_taken : Taken → Bool
is_taken New = true
is_taken Old = false
is_taken Ahead = false

-- the answer is a batch that was asked
abbrev pub is_new : Request → ℕ → Bool
is_new (Poll n) asks = is_taken (judged asks n)
is_new _ asks = false

-- the number that the taker asks after an answer
abbrev pub asks_after : Request → ℕ → ℕ
asks_after (Poll n) asks = if n == asks then asks + 1 else asks
asks_after _ asks = asks

-- Where a listener stands.

-- the next request, with its bytes
pub record Shows (port : ℕ) (destination : List ℕ) (code : Stand) (s : Session Graph) : Type 0 where
  pub request : s.request ≡ code.request
  pub spent : s.spent ≡ code.spent
  pub ds_id : s.ds_id ≡ code.ds_id
  pub asks : s.asks ≡ code.taker
  pub bytes : IsAsked port destination code.ds_id code.request code.bytes.items

-- it went on to the next request, if there is one
abbrev pub WentOn : (port : ℕ) (destination : List ℕ) (most : ℕ) (old new : Stand) → Result Bool Memory → Type 0
WentOn port destination most old new (Ok true) =
    (next_of most old.request old.taker ≡ Some new.request) × (new.spent ≡ 1) × (new.ds_id ≡ old.ds_id) × (new.taker ≡ old.taker)
    × IsAsked port destination new.ds_id new.request new.bytes.items
WentOn port destination most old new (Ok false) = next_of most old.request old.taker ≡ None
WentOn port destination most old new (Err e) = (next : Request) × (next_of most old.request old.taker ≡ Some next)

-- after an answer that told a DSId: the next request, if there is one
abbrev pub GoesOn : (port : ℕ) (destination : List ℕ) (most : ℕ) (old new : Stand) (told : List ℕ) → Result Bool ListenEnd → Type 0
GoesOn port destination most old new told (Ok true) =
    (next_of most old.request (asks_after old.request old.taker) ≡ Some new.request) × (new.spent ≡ 1) × (new.ds_id ≡ id_after old.request told old.ds_id)
    × (new.taker ≡ asks_after old.request old.taker) × IsAsked port destination new.ds_id new.request new.bytes.items
GoesOn port destination most old new told (Ok false) = next_of most old.request (asks_after old.request old.taker) ≡ None
GoesOn port destination most old new told (Err answer.WriteFault) = (next : Request) × (next_of most old.request (asks_after old.request old.taker) ≡ Some next)
GoesOn port destination most old new told (Err answer.Memory) = (next : Request) × (next_of most old.request (asks_after old.request old.taker) ≡ Some next)
GoesOn port destination most old new told (Err e) = ⊥

-- the bodies that are written where a batch is new
abbrev pub new_bodies : {B : Type 0} → Bool → List B → List B
new_bodies true bodies = bodies
new_bodies false bodies = []

-- what an answer adds to the output
abbrev pub Puts : {X : Type 0} → List Graph → (held now : List ℕ) → Result X ListenEnd → Type 0
Puts bodies held now (Ok more) = HasSpelled bodies held now
Puts bodies held now (Err answer.WriteFault) = (bytes : List ℕ) × Spells bodies bytes × WritesFront held now bytes
Puts bodies held now (Err e) = (now ≡ held) ⊎ HasSpelled bodies held now

-- only a batch that is new is not written
abbrev pub EndsPut : {X : Type 0} → Bool → Result X ListenEnd → Type 0
EndsPut new (Ok x) = Unit {0}
EndsPut new (Err answer.WriteFault) = new ≡ true
EndsPut new (Err answer.Memory) = new ≡ true
EndsPut new (Err e) = ⊥

-- how the use of a link or a dial ended: whether the same request is sent again
abbrev pub is_again : ListenEnd → Request → ℕ → Bool
is_again answer.LinkFault r spent = asks_again by_link r spent
is_again (answer.BadReply n) r spent = asks_again (by_bad n) r spent
is_again _ r spent = false

-- and the end of the session then
abbrev pub Leads : {B : Type 0} → Session B → ListenEnd → Type 0
Leads s answer.Done = (s.end ≡ Some done) × (s.link ≡ None)
Leads s (answer.Fault code text) = (s.end ≡ Some (by_fault code text)) × (s.link ≡ None)
Leads s (answer.BadReply n) = (s.end ≡ end_after (by_bad n) s.request s.spent) × (s.link ≡ None)
Leads s answer.LinkFault = (s.end ≡ end_after by_link s.request s.spent) × (s.link ≡ None)
Leads s answer.WriteFault = s.end ≡ None
Leads s answer.Memory = (s.end ≡ None) ⊎ (s.end ≡ Some by_memory)

-- what a request brought where the use of a link ended so
abbrev pub EndsTurn : {B : Type 0} → ListenEnd → Turn B → Type 0
EndsTurn answer.LinkFault turn = turn ≡ link_fault
EndsTurn (answer.BadReply n) turn = turn ≡ bad n
EndsTurn (answer.Fault code text) turn = turn ≡ fault code text
EndsTurn answer.Memory turn = turn ≡ starved
EndsTurn e turn = ⊥

abbrev pub Brings : Result (RootedArena × Heard) ListenEnd → Turn Graph → Type 0
Brings (Ok x) turn = turn ≡ reply x.1.ds_id (bodies_at x.0 x.1.bodies.items)
Brings (Err e) turn = EndsTurn e turn

-- what was heard of a graph, where there is memory
abbrev pub HeardOf : RootedArena → Request → Result Heard ListenEnd → Type 0
HeardOf g r (Ok heard) = turn_of r (seen_of (content g)) ≡ reply heard.ds_id (bodies_at g heard.bodies.items)
HeardOf g r (Err (answer.BadReply n)) = (n ≡ 6) × (turn_of r (seen_of (content g)) ≡ bad 6)
HeardOf g r (Err answer.Memory) = Unit {0}
HeardOf g r (Err e) = ⊥

-- the end of a link that gave no graph
abbrev pub end_as : AnswerFault → ListenEnd
end_as (read.Fault code text) = answer.Fault code text
end_as (read.BadReply n) = answer.BadReply n
end_as read.ReadFault = answer.LinkFault
end_as read.Memory = answer.Memory

-- no write of the output failed
abbrev pub IsNoOutput : ListenEnd → Type 0
IsNoOutput answer.WriteFault = ⊥
IsNoOutput e = Unit {0}

abbrev pub NumberedOr : {X : Type 0} → Result X ListenEnd → Type 0
NumberedOr (Ok x) = Unit {0}
NumberedOr (Err e) = IsNumbered e

-- a write fault of the output is counted
abbrev pub CountsPuts : {X : Type 0} → ℕ → ℕ → Result X ListenEnd → Type 0
CountsPuts before now (Ok more) = now ≡ before
CountsPuts before now (Err e) = CountsOutput before now e

-- the first of the turns at a link is one of a request
abbrev pub IsTurn : {B : Type 0} → Turn B → Type 0
IsTurn no_link = ⊥
IsTurn _ = Unit {0}

abbrev pub AreTurns : {B : Type 0} → List (Turn B) → Type 0
AreTurns [] = ⊥
AreTurns (turn ∷ turns) = IsTurn turn

-- the bodies of a session, and what the output has taken of those that were new since
pub record Written (told : Type 0) (held now : List ℕ) (s s' : Session Graph) (e : ListenEnd) : Type 0 where
  pub more : List Graph
  pub written : s'.written ≡ s.written ++ more
  pub wrote : told → Wrote more held now e

-- how far a listener has come, in requests and dials
abbrev pub reached : ℕ → Stand → ℕ
reached most code = 3 * place most code.request + code.spent

-- it stands at a request, not before where it began
pub record Again (port : ℕ) (destination : List ℕ) (most : ℕ) (began : ℕ) (code : Stand) (s : Session Graph) : Type 0 where
  pub shows : Shows port destination code s
  pub ready : IsReady most code.request code.taker
  pub text : IsText code.ds_id
  pub few : code.spent ≤ 3
  pub later : began ≤ reached most code

-- after a loss, or a bad reply
abbrev pub StaysAt : ListenEnd → Type 0 → Type 0
StaysAt answer.LinkFault A = A
StaysAt (answer.BadReply n) A = A
StaysAt _ A = Unit {0}

module _ {L : Type 0} (link : LinkMembers L) (port : ℕ) (destination : List ℕ) where
  -- a link on its way: each request that it has carried is answered, and what it kept is behind the answers
  pub record Carrying (came now : L) (kept : List ℕ) (sent : List (Sent Graph)) : Type 0 where
    pub fresh : IsFresh (link.read_faults came) (link.write_faults came)
    pub told_held : link.tells_held now → link.tells_held came
    pub held : link.tells_held now → (bytes : List ℕ) × AreAsked port destination unbroken sent bytes × (link.held now ≡ link.held came ++ bytes)
    pub told_left : link.tells_left came → link.tells_left now
    pub gave : link.tells_left came → AreAnswered unbroken sent (link.left came) (kept ++ link.left now)
    pub no_fault : has_fault sent ≡ false
    pub reads : link.read_faults now ≡ link.read_faults came
    pub writes : link.write_faults now ≡ link.write_faults came

  -- with an answer it is on its way, and else it has carried these
  abbrev pub CarriesOn : {X : Type 0} → (came now : L) (kept : List ℕ) (sent : List (Sent Graph)) → Result X ListenEnd → Type 0
  CarriesOn came now kept sent (Ok x) = Carrying came now kept sent
  CarriesOn came now kept sent (Err e) = Carries link port destination came now sent

  -- the use of a link, from one state of a session to another
  pub record Used (came went : L) (s s' : Session Graph) : Type 0 where
    pub sent : List (Sent Graph)
    pub links : all_links s' ≡ s.links ++ sent ∷ []
    pub carries : Carries link port destination came went sent
    pub dials : s'.dials ≡ s.dials
    pub lost : s'.has_lost ≡ (s.has_lost || has_fault sent)

  -- and with it the end, the output and what is asked again
  pub record Over (most : ℕ) (came went : L) (old new : Stand) (told : Type 0) (held now : List ℕ) (e : ListenEnd) (s s' : Session Graph) : Type 0 where
    pub used : Used came went s s'
    pub leads : Leads s' e
    pub written : Written told held now s s' e
    pub again : StaysAt e (Again port destination most (reached most old) new s')

  -- of every session that stands so with a new link there are turns that lead to the end
  abbrev pub RunsOver : (most : ℕ) (came went : L) (old new : Stand) (told : Type 0) (held now : List ℕ) (e : ListenEnd) → Type 0
  RunsOver most came went old new told held now e =
      (s : Session Graph) → Shows port destination old s → s.link ≡ Some [] → s.end ≡ None
      → (turns : List (Turn Graph)) × AreTurns turns × Over most came went old new told held now e s (listen_from most turns s)

  -- in between: what the session has sent over the link, and what was written of it
  pub record Running (most : ℕ) (came now : L) (kept : List ℕ) (code : Stand) (told : Type 0) (held holds : List ℕ) (s s' : Session Graph) : Type 0 where
    pub shows : Shows port destination code s'
    pub open_end : s'.end ≡ None
    pub sent : List (Sent Graph)
    pub linked : s'.link ≡ Some sent
    pub carrying : Carrying came now kept sent
    pub links : s'.links ≡ s.links
    pub dials : s'.dials ≡ s.dials
    pub lost : s'.has_lost ≡ s.has_lost
    pub more : List Graph
    pub written : s'.written ≡ s.written ++ more
    pub wrote : told → HasSpelled more held holds

  abbrev pub RunsOn : (most : ℕ) (came now : L) (kept : List ℕ) (first code : Stand) (told : Type 0) (held holds : List ℕ) → Type 0
  RunsOn most came now kept first code told held holds =
      (s : Session Graph) → Shows port destination first s → s.link ≡ Some [] → s.end ≡ None
      → (turns : List (Turn Graph)) × ((turns ≡ []) ⊎ AreTurns turns) × Running most came now kept code told held holds s (listen_from most turns s)

-- over a link on its way the request of these bytes brings a turn, and with it the link has carried one more
abbrev pub BringsTurn : {L : Type 0} → LinkMembers L → (now next : L) → (kept keeps : List ℕ) → Request → (bytes : List ℕ) → Result (RootedArena × Heard) ListenEnd → Type 0
BringsTurn {L} link now next kept keeps request bytes result =
    (port : ℕ) (destination ds_id : List ℕ) (came : L) (sent : List (Sent Graph))
    → Carrying link port destination came now kept sent → IsAsked port destination ds_id request bytes
    → (turn : Turn Graph) × Brings result turn
    × CarriesOn link port destination came next keeps (sent ++ record { request = request; ds_id = ds_id; turn = turn } ∷ []) result

-- the use of a link by the course of a listener, and by the members of its output
abbrev pub UsesLink : {L O : Type 0} → LinkMembers L → SinkMembers O → Course → (came went : L) → (old new : Stand) → (out out' : O) → ListenEnd → Type 0
UsesLink link o course came went old new out out' e =
    RunsOver link course.port course.destination.now course.polls came went old new (o.tells out') (o.held out) (o.held out') e

-- One turn more over a link: it goes on, or the use of the link ended.

abbrev pub TakesTurn : {L : Type 0} (link : LinkMembers L) (port : ℕ) (destination : List ℕ) (most : ℕ) (came now next : L) (kept keeps : List ℕ) (first code new : Stand) (told tells : Type 0) (held holds holds' : List ℕ) → Option ListenEnd → Type 0
TakesTurn link port destination most came now next kept keeps first code new told tells held holds holds' None = RunsOn link port destination most came next keeps first new tells held holds'
TakesTurn link port destination most came now next kept keeps first code new told tells held holds holds' (Some e) = RunsOver link port destination most came next first new tells held holds' e

-- the same by the course: of every use of the link that began no further on than where it stands
abbrev pub TakesOneTurn : {L O : Type 0} → LinkMembers L → SinkMembers O → Course → (now next : L) → (kept keeps : List ℕ) → (code new : Stand) → (out out' : O) → Option ListenEnd → Type 0
TakesOneTurn {L} link o course now next kept keeps code new out out' e =
    (came : L) (first : Stand) (held : List ℕ)
    → RunsOn link course.port course.destination.now course.polls came now kept first code (o.tells out) held (o.held out)
    → reached course.polls first ≤ reached course.polls code
    → TakesTurn link course.port course.destination.now course.polls came now next kept keeps first code new (o.tells out) (o.tells out') held (o.held out) (o.held out') e

-- the next request is further in the order
pub record Advances (most : ℕ) (old new : Stand) : Type 0 where
  pub ready : IsReady most new.request new.taker
  pub text : IsText new.ds_id
  pub few : new.spent ≡ 1
  pub further : place most old.request + 1 ≤ place most new.request

abbrev pub AdvancesOr : (most : ℕ) (old new : Stand) → Option ListenEnd → Type 0
AdvancesOr most old new None = Advances most old new
AdvancesOr most old new (Some e) = Unit {0}

abbrev pub CountsTurn : (before now : ℕ) → Option ListenEnd → Type 0
CountsTurn before now None = now ≡ before
CountsTurn before now (Some e) = CountsOutput before now e

-- One dial more.

-- a session that was listened to, and has no link
pub record Stands {D L : Type 0} (dial : DialMembers D L) (link : LinkMembers L) (port : ℕ) (destination : List ℕ) (before now : D) (s : Session Graph) : Type 0 where
  pub listened : Listened dial link port destination before now s
  pub unlinked : s.link ≡ None
  pub open_end : s.end ≡ None

-- what it is behind one dial more
pub record Dialled {D L : Type 0} (dial : DialMembers D L) (link : LinkMembers L) (port : ℕ) (destination : List ℕ) (most : ℕ) (before after : D) (old new : Stand) (told : Type 0) (held now : List ℕ) (e : ListenEnd) (s s' : Session Graph) : Type 0 where
  pub listened : Listened dial link port destination before after s'
  pub leads : Leads s' e
  pub written : Written told held now s s' e
  pub again : StaysAt e (Again port destination most (reached most old + 1) new s')

abbrev pub DialsOnce : {D L : Type 0} (dial : DialMembers D L) (link : LinkMembers L) (port : ℕ) (destination : List ℕ) (most : ℕ) (old_dial new_dial : D) (old new : Stand) (told : Type 0) (held now : List ℕ) (e : ListenEnd) → Type 0
DialsOnce {D} dial link port destination most old_dial new_dial old new told held now e =
    (before : D) (s : Session Graph) → Stands dial link port destination before old_dial s → Shows port destination old s
    → (turns : List (Turn Graph)) × Dialled dial link port destination most before new_dial old new told held now e s (listen_from most turns s)

-- the same by the course, and by the members of the output
abbrev pub UsesDial : {D L O : Type 0} → DialMembers D L → LinkMembers L → SinkMembers O → Course → (dial dial' : D) → (old new : Stand) → (out out' : O) → ListenEnd → Type 0
UsesDial d link o course dial dial' old new out out' e =
    DialsOnce d link course.port course.destination.now course.polls dial dial' old new (o.tells out') (o.held out) (o.held out') e
