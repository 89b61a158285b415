-- The broker's answer, refused or served, is the machine's.
use Rattle.std.proofs.Common.{◌≡◌, ◌+◌, ◌≤◌, ℕ, List, Bool, true, false, refl, sym, ◌∙◌, ap, arith}
use Rattle.std.specs.Prelude.{Option, Some, None, Ok, Err, ◌||◌, ◌&&◌, ◌==◌, if◌then◌else◌}
use Rattle.amf_broker.specs.declared.call.Call.{Call}
use Rattle.amf_broker.specs.declared.call.Call.TheVariants.{Connect, Subscribe, Unsubscribe, Publish, Poll, PollNumbered, Disconnect}
use Rattle.amf_broker.specs.declared.reply.Reply.{Reply}
use Rattle.amf_broker.specs.State.{State, Board}
use Rattle.amf_broker.specs.Machine.{refusal, served, unless, reply_on, found, later, expired_at, sighted, named_by, answer_to, after, last_of, same_batch, next_batch}
use Rattle.amf_broker.specs.Admission.{allowed}
use Rattle.amf_broker.specs.Memory.{is_unsubscribe, is_missing, nobody, takes_none}
use Rattle.amf_broker.proofs.Advances.{next-client, next-sub, next-message}

-- a reply and a board are those that the machine gives
pub record Replied (b : Board) (c : Call) (r : Reply) (t : Board) : Type 0 where
  pub reply : r ≡ (reply_on b c).0
  pub board : t ≡ (reply_on b c).1

refused-by : (b : Board) (c : Call) (r : Reply) (o : Option Reply) → refusal b c ≡ o → Err r ≡ allowed o c → Replied b c r b
refused-by b c r None is e = cc
refused-by b c r (Some x) is e =
    let same : r ≡ x = cc in
    record {
      reply = same ∙ ap (λ o. (unless o b (served b c)).0) (sym is);
      board = ap (λ o. (unless o b (served b c)).1) (sym is);
    }

pub refused : (b : Board) (c : Call) (r : Reply) → Err r ≡ allowed (refusal b c) c → Replied b c r b
refused b c r e = refused-by b c r (refusal b c) refl e

-- the call that goes on is the caller's, and is not refused
pub goes-on : (o : Option Reply) (c d : Call) → Ok d ≡ allowed o c → (o ≡ None) × (d ≡ c)
goes-on None c d e = (refl, cc)
goes-on (Some r) c d e = cc

pub was-served : (b : Board) (c d : Call) (r : Reply) (t : Board) → Ok d ≡ allowed (refusal b c) c → r ≡ (served b d).0 → t ≡ (served b d).1 → Replied b c r t
was-served b c d r t e reply state =
    let on = goes-on (refusal b c) c d e in
    record {
      reply = reply ∙ (ap (λ x. (served b x).0) on.1 ∙ ap (λ o. (unless o b (served b c)).0) (sym on.0));
      board = state ∙ (ap (λ x. (served b x).1) on.1 ∙ ap (λ o. (unless o b (served b c)).1) (sym on.0));
    }

-- what is served is not missing
not-missing : (b : Board) (c : Call) → is_missing (served b c).0 ≡ false
not-missing b Connect = refl
not-missing b (Subscribe k t) = refl
not-missing b (Unsubscribe k sub) = refl
not-missing b (Publish k t message) = refl
not-missing b (Poll k) = refl
not-missing b (PollNumbered k number) = elim (number == last_of k b.clients)
    as (λ again. is_missing (if again then same_batch b k number else next_batch b k number).0 ≡ false) [
      | true ↦ refl
      | false ↦ refl
    ]
not-missing b (Disconnect k) = refl

or-false : (a b : Bool) → b ≡ false → (a || b) ≡ true → a ≡ true
or-false true b none either = refl
or-false false b none either = cc

and-true : (a b : Bool) → (a && b) ≡ true → (a ≡ true) × (b ≡ true)
and-true true b both = (refl, both)
and-true false b both = cc

pub nobody-free : (s : State) (at : ℕ) (c : Call) → takes_none c (answer_to s at c) ≡ true → nobody (expired_at at s.board) ≡ true
unfolding answer_to
nobody-free s at c free = (and-true _ _ free).0

-- of the calls that are served only an unsubscribe is promised to take no memory
pub only-unsubscribe : (s : State) (at : ℕ) (c d : Call) → Ok d ≡ allowed (refusal (found at s.board) c) c → takes_none c (answer_to s at c) ≡ true → is_unsubscribe d ≡ true
unfolding answer_to
only-unsubscribe s at c d e free =
    let b = found at s.board in
    let on = goes-on (refusal b c) c d e in
    let missing : is_missing (reply_on b c).0 ≡ false = ap (λ o. is_missing (unless o b (served b c)).0) on.0 ∙ not-missing b c in
    ap is_unsubscribe on.1 ∙ or-false (is_unsubscribe c) (is_missing (reply_on b c).0) missing (and-true _ _ free).1

-- The numbers grow by one at most.

pub record Grows (b t : Board) : Type 0 where
  pub clients : t.next_client ≤ b.next_client + 1
  pub subs : t.next_sub ≤ b.next_sub + 1
  pub messages : t.next_message ≤ b.next_message + 1

grows-same : (b : Board) → Grows b b
grows-same b = record { clients = omega arith; subs = omega arith; messages = omega arith }

grows-served : (b : Board) (c : Call) → Grows b (served b c).1
grows-served b Connect = record { clients = omega arith; subs = omega arith; messages = omega arith }
grows-served b (Subscribe k t) = record { clients = omega arith; subs = omega arith; messages = omega arith }
grows-served b (Unsubscribe k sub) = record { clients = omega arith; subs = omega arith; messages = omega arith }
grows-served b (Publish k t message) = record { clients = omega arith; subs = omega arith; messages = omega arith }
grows-served b (Poll k) = record { clients = omega arith; subs = omega arith; messages = omega arith }
grows-served b (PollNumbered k number) = elim (number == last_of k b.clients)
    as (λ again. Grows b (if again then same_batch b k number else next_batch b k number).1) [
      | true ↦ grows-same b
      | false ↦ record { clients = omega arith; subs = omega arith; messages = omega arith }
    ]
grows-served b (Disconnect k) = record { clients = omega arith; subs = omega arith; messages = omega arith }

grows-unless : (b : Board) (c : Call) (o : Option Reply) → Grows b (unless o b (served b c)).1
grows-unless b c None = grows-served b c
grows-unless b c (Some r) = grows-same b

grows-sighted : (b t : Board) (o : Option ℕ) → Grows b t → Grows b (sighted o t)
grows-sighted b t None g = g
grows-sighted b t (Some k) g = record { clients = g.clients; subs = g.subs; messages = g.messages }

grows-found : (at : ℕ) (b t : Board) → Grows (found at b) t → Grows b t
grows-found at b t g =
    let m = later b.moment at in
    let ks = expired_at at b in
    let one = next-client m ks b in
    let two = next-sub m ks b in
    let three = next-message m ks b in
    let a = g.clients in
    let s = g.subs in
    let n = g.messages in
    record { clients = omega arith; subs = omega arith; messages = omega arith }

pub grows-answer : (at : ℕ) (b : Board) (c : Call) → Grows b (sighted (named_by c) (reply_on (found at b) c).1)
grows-answer at b c = grows-found at b _ (grows-sighted (found at b) _ (named_by c) (grows-unless (found at b) c (refusal (found at b) c)))

-- The whole answer and the whole state.

pub the-answer : (s : State) (at : ℕ) (c : Call) (r : Reply) (ks : List ℕ) (b : Board) → Replied (found at s.board) c r b → ks ≡ expired_at at s.board → record { reply = r; expired = ks } ≡ answer_to s at c
unfolding answer_to
the-answer s at c r ks b replied expired = rw (expired, replied.reply) refl

pub the-state : (s : State) (at : ℕ) (c : Call) (r : Reply) (b t : Board) → Replied (found at s.board) c r b → t ≡ sighted (named_by c) b → (let u : State = record { board = t; calls = s.calls + 1 } in u) ≡ after s at c
unfolding after
the-state s at c r b t replied seen = ap (λ x. let u : State = record { board = x; calls = s.calls + 1 } in u) (seen ∙ ap (sighted (named_by c)) replied.board)
