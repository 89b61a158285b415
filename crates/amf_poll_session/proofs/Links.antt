-- A link on its way: one request more, and what it has carried at its end.
use Rattle.std.proofs.Common.{◌≡◌, ◌∙◌, ℕ, Bool, true, false, ◌||◌, List, [], ◌∷◌, ◌++◌, append_assoc, append-nil, take, refl, sym, ap, subst, Result, Ok, Err}
use Rattle.amf_io.specs.declared.link.Link.{Ghosts as LinkMembers}
use Rattle.amf_io.specs.Dial.{IsFresh}
use Rattle.amf_io.specs.declared.source.Failed.{Failed}
use Rattle.amf_io.specs.Outside.{Rose, Keeps, HasCause}
use Rattle.amf_graph.specs.Graph.{Graph}
use Rattle.amf_graph.specs.Rooted.{RootedArena, content}
use Rattle.http_link.specs.Sent.{AddsFront, Sends}
use Rattle.http_link.specs.Passing.{Gave}
use Rattle.amf_client.specs.declared.ends.AnswerFault.{AnswerFault}
use Rattle.amf_client.specs.declared.ends.AnswerFault.TheVariants as read
use Rattle.amf_client.specs.Answers.{Answers, Counts}
use Rattle.amf_client.specs.Outcomes as outcome
use Rattle.amf_client.specs.Outcomes.{IsResult}
use Rattle.amf_client.specs.Reply.{IsOpen}
use Rattle.amf_poll_session.specs.declared.ends.ListenEnd.{ListenEnd}
use Rattle.amf_poll_session.specs.declared.ends.ListenEnd.TheVariants as answer
use Rattle.amf_poll_session.specs.declared.reply.Heard.{Heard}
use Rattle.amf_poll_session.specs.declared.request.Request.{Request}
use Rattle.amf_poll_session.specs.Requests.{IsAsked}
use Rattle.amf_poll_session.specs.Sessions.{Turn, no_link, link_fault, starved, bad, fault, reply, Sent}
use Rattle.amf_poll_session.specs.Carried.{Break, unbroken, in_write, in_read, TookAs, AnsweredBy, AreAsked, AreAnswered, is_fault, has_fault, Carries}
use Rattle.amf_poll_session.specs.Steps.{Carrying, CarriesOn, Brings, HeardOf, bodies_at, end_as}
use Rattle.amf_poll_session.proofs.Turns.{has_fault_more}

-- Requests.

-- a turn that is no fault of the link took its request whole, however the link broke off
took_whole : (b : Break) (turn : Turn Graph) → is_fault turn ≡ false → (whole rest bytes : List ℕ) → bytes ≡ whole ++ rest → TookAs b turn whole rest bytes
took_whole unbroken turn none whole rest bytes is = is
took_whole in_read turn none whole rest bytes is = is
took_whole in_write no_link none whole rest bytes is = is
took_whole in_write link_fault none whole rest bytes is = absurd cc
took_whole in_write starved none whole rest bytes is = is
took_whole in_write (bad n) none whole rest bytes is = is
took_whole in_write (fault code text) none whole rest bytes is = is
took_whole in_write (reply ds bodies) none whole rest bytes is = is

left_false : (b c : Bool) → (b || c) ≡ false → b ≡ false
left_false true c e = absurd cc
left_false false c e = refl

right_false : (b c : Bool) → (b || c) ≡ false → c ≡ false
right_false true c e = absurd cc
right_false false c e = e

asked_more : (port : ℕ) (destination : List ℕ) (b : Break) (sent : List (Sent Graph)) (x : Sent Graph) (bytes more whole : List ℕ) → has_fault sent ≡ false
    → AreAsked port destination unbroken sent bytes → IsAsked port destination x.ds_id x.request whole → TookAs b x.turn whole [] more
    → AreAsked port destination b (sent ++ x ∷ []) (bytes ++ more)
asked_more port destination b [] x bytes more whole none are asked took =
    subst (λ (l : List ℕ). AreAsked port destination b (x ∷ []) l) (sym (ap (λ (l : List ℕ). l ++ more) are)) (whole, [], asked, took, refl)
asked_more port destination b (y ∷ sent) x bytes more whole none are asked took = (
  are.0,
  are.1 ++ more,
  are.2,
  took_whole b y.turn (left_false _ _ none) are.0 (are.1 ++ more) (bytes ++ more) (ap (λ (l : List ℕ). l ++ more) are.3 ∙ append_assoc are.0 are.1 more),
  asked_more port destination b sent x are.1 more whole (right_false _ _ none) are.4 asked took,
)

-- Answers.

answered_whole : (b : Break) (r : Request) (turn : Turn Graph) (bytes rest : List ℕ) → AnsweredBy unbroken r turn bytes rest → AnsweredBy b r turn bytes rest
answered_whole unbroken r turn bytes rest by = by
answered_whole in_write r no_link bytes rest by = by
answered_whole in_write r link_fault bytes rest by = absurd by
answered_whole in_write r starved bytes rest by = by
answered_whole in_write r (bad n) bytes rest by = by
answered_whole in_write r (fault code text) bytes rest by = by
answered_whole in_write r (reply ds bodies) bytes rest by = by
answered_whole in_read r no_link bytes rest by = by
answered_whole in_read r link_fault bytes rest by = absurd by
answered_whole in_read r starved bytes rest by = by
answered_whole in_read r (bad n) bytes rest by = by
answered_whole in_read r (fault code text) bytes rest by = by
answered_whole in_read r (reply ds bodies) bytes rest by = by

answered_more : (b : Break) (sent : List (Sent Graph)) (x : Sent Graph) (bytes mid rest : List ℕ) → AreAnswered unbroken sent bytes mid → AnsweredBy b x.request x.turn mid rest
    → AreAnswered b (sent ++ x ∷ []) bytes rest
answered_more b [] x bytes mid rest are by = (rest, subst (λ (l : List ℕ). AnsweredBy b x.request x.turn l rest) (sym are) by, refl)
answered_more b (y ∷ sent) x bytes mid rest are by = (are.0, answered_whole b y.request y.turn bytes are.0 are.1, answered_more b sent x are.0 mid rest are.2 by)

module _ {L : Type 0} (link : LinkMembers L) (port : ℕ) (destination : List ℕ) where
  -- its use ends between two requests
  pub carries_whole : (came now : L) (kept : List ℕ) (sent : List (Sent Graph)) → Carrying link port destination came now kept sent → Carries link port destination came now sent
  carries_whole came now kept sent c = record {
    break = unbroken;
    fresh = c.fresh;
    told_held = c.told_held;
    held = c.held;
    told_left = c.told_left;
    gave = λ t. (kept ++ link.left now, c.gave t, tt);
    counts = (c.no_fault, c.reads, c.writes);
  }

  -- nothing was carried yet
  pub carries_nothing : (came : L) → IsFresh (link.read_faults came) (link.write_faults came) → Carrying link port destination came came [] []
  carries_nothing came fresh = record {
    fresh = fresh;
    told_held = λ t. t;
    held = λ t. ([], refl, sym (append-nil (link.held came)));
    told_left = λ t. t;
    gave = λ t. refl;
    no_fault = refl;
    reads = refl;
    writes = refl;
  }

  module _ (came a m b : L) (kept keeps bytes ds_id : List ℕ) (r : Request) (sent : List (Sent Graph)) where
    abbrev pub with_one : Turn Graph → List (Sent Graph)
    with_one turn = sent ++ record { request = r; ds_id = ds_id; turn = turn } ∷ []

    -- the request was not written whole
    pub record NotSent : Type 0 where
      pub told : link.tells_held m → link.tells_held a
      pub front : link.tells_held m → AddsFront (link.held a) (link.held m) bytes
      pub writes : Rose (link.write_faults a) (link.write_faults m)
      pub side : Keeps (link.tells_left a) (link.tells_left m) (link.left a) (link.left m)
      pub reads : link.read_faults m ≡ link.read_faults a

    pub not_sent : Carrying link port destination came a kept sent → IsAsked port destination ds_id r bytes → NotSent → Carries link port destination came m (with_one link_fault)
    not_sent c asked s = record {
      break = in_write;
      fresh = c.fresh;
      told_held = λ t. c.told_held (s.told t);
      held = λ t. let h = c.held (s.told t) in let f = s.front t in (
        h.0 ++ take f.count bytes,
        asked_more port destination in_write sent (record { request = r; ds_id = ds_id; turn = link_fault }) h.0 (take f.count bytes) bytes c.no_fault h.1 asked (record { count = f.count; within = f.within; added = refl }, refl),
        f.added ∙ ap (λ (l : List ℕ). l ++ take f.count bytes) h.2 ∙ append_assoc (link.held came) h.0 (take f.count bytes),
      );
      told_left = λ t. s.side.still (c.told_left t);
      gave = λ t. (kept ++ link.left a, answered_more in_write sent (record { request = r; ds_id = ds_id; turn = link_fault }) (link.left came) (kept ++ link.left a) (kept ++ link.left a) (c.gave t) tt, tt);
      counts = (has_fault_more sent (record { request = r; ds_id = ds_id; turn = link_fault }) c.no_fault, s.reads ∙ c.reads, subst (λ (k : ℕ). Rose k (link.write_faults m)) c.writes s.writes);
    }

    pub not_sent_by : (x : Result (Unit {0}) Failed) → ((done : Unit {0}) → x ≡ Ok done → ⊥) → (link.tells_held m → link.tells_held a) → (link.tells_held m → Sends (link.held a) (link.held m) bytes x)
        → HasCause (link.write_faults a) (link.write_faults m) x → Keeps (link.tells_left a) (link.tells_left m) (link.left a) (link.left m) → link.read_faults m ≡ link.read_faults a → NotSent
    not_sent_by (Ok done) not told sends cause side reads = absurd (not done refl)
    not_sent_by (Err e) not told sends cause side reads = record { told = told; front = sends; writes = cause.1; side = side; reads = reads }

    -- it was written, and then this was read
    pub record SentAndRead (x : Result RootedArena AnswerFault) : Type 0 where
      pub told : link.tells_held m → link.tells_held a
      pub held : link.tells_held m → link.held m ≡ link.held a ++ bytes
      pub writes : link.write_faults m ≡ link.write_faults a
      pub side : Keeps (link.tells_left a) (link.tells_left m) (link.left a) (link.left m)
      pub reads : link.read_faults m ≡ link.read_faults a
      pub told_left : link.tells_left m → link.tells_left b
      pub answers : link.tells_left m → Answers kept (link.left m) keeps (link.left b) x
      pub cause : Counts (link.read_faults m) (link.read_faults b) x
      pub other_side : Keeps (link.tells_held m) (link.tells_held b) (link.held m) (link.held b)
      pub other_count : link.write_faults b ≡ link.write_faults m

    module _ (x : Result RootedArena AnswerFault) (c : Carrying link port destination came a kept sent) (asked : IsAsked port destination ds_id r bytes) (s : SentAndRead x) where
      held_then : (turn : Turn Graph) (break : Break) → TookAs break turn bytes [] bytes → link.tells_held b
          → (all : List ℕ) × AreAsked port destination break (with_one turn) all × (link.held b ≡ link.held came ++ all)
      held_then turn break took t =
          let tm = s.other_side.since t in
          let h = c.held (s.told tm) in (
            h.0 ++ bytes,
            asked_more port destination break sent (record { request = r; ds_id = ds_id; turn = turn }) h.0 bytes bytes c.no_fault h.1 asked took,
            s.other_side.same tm ∙ s.held tm ∙ ap (λ (l : List ℕ). l ++ bytes) h.2 ∙ append_assoc (link.held came) h.0 bytes,
          )

      answers_at : link.tells_left came → Answers kept (link.left a) keeps (link.left b) x
      answers_at t = let ta = c.told_left t in subst (λ (l : List ℕ). Answers kept l keeps (link.left b) x) (s.side.same ta) (s.answers (s.side.still ta))

      -- no read failed, and this came of it
      stops : (turn : Turn Graph) → is_fault turn ≡ false → link.read_faults b ≡ link.read_faults m
          → (link.tells_left came → (rest : List ℕ) × AnsweredBy unbroken r turn (kept ++ link.left a) rest) → Carries link port destination came b (with_one turn)
      stops turn whole steady by = record {
        break = unbroken;
        fresh = c.fresh;
        told_held = λ t. c.told_held (s.told (s.other_side.since t));
        held = held_then turn unbroken (sym (append-nil bytes));
        told_left = λ t. s.told_left (s.side.still (c.told_left t));
        gave = λ t. let y = by t in (y.0, answered_more unbroken sent (record { request = r; ds_id = ds_id; turn = turn }) (link.left came) (kept ++ link.left a) y.0 (c.gave t) y.1, tt);
        counts = (has_fault_more sent (record { request = r; ds_id = ds_id; turn = turn }) c.no_fault ∙ whole, steady ∙ s.reads ∙ c.reads, s.other_count ∙ s.writes ∙ c.writes);
      }

      goes : (turn : Turn Graph) → is_fault turn ≡ false → link.read_faults b ≡ link.read_faults m
          → (link.tells_left came → AnsweredBy unbroken r turn (kept ++ link.left a) (keeps ++ link.left b)) → Carrying link port destination came b keeps (with_one turn)
      goes turn whole steady by = record {
        fresh = c.fresh;
        told_held = λ t. c.told_held (s.told (s.other_side.since t));
        held = held_then turn unbroken (sym (append-nil bytes));
        told_left = λ t. s.told_left (s.side.still (c.told_left t));
        gave = λ t. answered_more unbroken sent (record { request = r; ds_id = ds_id; turn = turn }) (link.left came) (kept ++ link.left a) (keeps ++ link.left b) (c.gave t) (by t);
        no_fault = has_fault_more sent (record { request = r; ds_id = ds_id; turn = turn }) c.no_fault ∙ whole;
        reads = steady ∙ s.reads ∙ c.reads;
        writes = s.other_count ∙ s.writes ∙ c.writes;
      }

    -- a read failed before the bytes fixed an answer
    read_failed : Carrying link port destination came a kept sent → IsAsked port destination ds_id r bytes → SentAndRead (Err read.ReadFault) → Carries link port destination came b (with_one link_fault)
    read_failed c asked s = record {
      break = in_read;
      fresh = c.fresh;
      told_held = λ t. c.told_held (s.told (s.other_side.since t));
      held = held_then (Err read.ReadFault) c asked s link_fault in_read (sym (append-nil bytes));
      told_left = λ t. s.told_left (s.side.still (c.told_left t));
      gave = λ t.
          let g : Gave kept (link.left a) (link.left b) IsOpen = answers_at (Err read.ReadFault) c asked s t in (
            link.left b,
            answered_more in_read sent (record { request = r; ds_id = ds_id; turn = link_fault }) (link.left came) (kept ++ link.left a) (link.left b) (c.gave t)
                (kept ++ g.given, ap (λ (l : List ℕ). kept ++ l) g.gave ∙ sym (append_assoc kept g.given (link.left b)), g.holds),
            refl,
          );
      counts = (
        has_fault_more sent (record { request = r; ds_id = ds_id; turn = link_fault }) c.no_fault,
        subst (λ (k : ℕ). Rose k (link.read_faults b)) (s.reads ∙ c.reads) s.cause.1,
        s.other_count ∙ s.writes ∙ c.writes,
      );
    }

    -- what a request brought, and what its link has carried then
    abbrev pub Brought : Result (RootedArena × Heard) ListenEnd → Type 0
    Brought x = (turn : Turn Graph) × Brings x turn × CarriesOn link port destination came b keeps (with_one turn) x

    pub gave_up : (e : AnswerFault) → Carrying link port destination came a kept sent → IsAsked port destination ds_id r bytes → SentAndRead (Err e) → Brought (Err (end_as e))
    gave_up (read.Fault code text) c asked s = (
      fault code text,
      refl,
      stops (Err (read.Fault code text)) c asked s (fault code text) refl s.cause
          (λ t. (_, (outcome.fault code text, answers_at (Err (read.Fault code text)) c asked s t, refl))),
    )
    gave_up (read.BadReply n) c asked s = (
      bad n,
      refl,
      stops (Err (read.BadReply n)) c asked s (bad n) refl s.cause
          (λ t. let y = answers_at (Err (read.BadReply n)) c asked s t in (y.0, (outcome.bad n, y.1, refl))),
    )
    gave_up read.ReadFault c asked s = (link_fault, refl, read_failed c asked s)
    gave_up read.Memory c asked s = (starved, refl, stops (Err read.Memory) c asked s starved refl s.cause (λ t. ([], tt)))

    pub answered : (g : RootedArena) (h : Heard) → Carrying link port destination came a kept sent → IsAsked port destination ds_id r bytes → SentAndRead (Ok g)
        → HeardOf g r (Ok h) → Brought (Ok (g, h))
    answered g h c asked s heard = (
      reply h.ds_id (bodies_at g h.bodies.items),
      refl,
      goes (Ok g) c asked s (reply h.ds_id (bodies_at g h.bodies.items)) refl s.cause
          (λ t. let y = answers_at (Ok g) c asked s t in (outcome.result y.0, y.1, (content g, y.2, sym heard))),
    )

    pub no_answer : (g : RootedArena) (e : ListenEnd) → Carrying link port destination came a kept sent → IsAsked port destination ds_id r bytes → SentAndRead (Ok g)
        → HeardOf g r (Err e) → Brought (Err e)
    no_answer g (answer.BadReply n) c asked s heard = (
      bad n,
      refl,
      stops (Ok g) c asked s (bad n) refl s.cause
          (λ t. let y = answers_at (Ok g) c asked s t in (_, (outcome.result y.0, y.1, (content g, y.2, ap bad heard.0 ∙ sym heard.1)))),
    )
    no_answer g answer.Memory c asked s heard = (starved, refl, stops (Ok g) c asked s starved refl s.cause (λ t. ([], tt)))
    no_answer g answer.Done c asked s heard = absurd heard
    no_answer g (answer.Fault code text) c asked s heard = absurd heard
    no_answer g answer.LinkFault c asked s heard = absurd heard
    no_answer g answer.WriteFault c asked s heard = absurd heard
