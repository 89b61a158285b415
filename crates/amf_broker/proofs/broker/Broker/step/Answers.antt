-- The broker answers as the machine does.
use Rattle.std.proofs.Common.{◌≡◌, ◌+◌, ◌∙◌, sym, ap, refl, arith}
use Rattle.amf_broker.specs.contracts.broker.Broker.{the_view}
use Rattle.amf_broker.specs.Machine.{answer_to, after, found, sighted, named_by, reply_on}
use Rattle.amf_broker.specs.Moments.{board_at}
use Rattle.amf_broker.proofs.Answered.{Replied, refused, was-served, only-unsubscribe, nobody-free, the-answer, the-state, grows-answer}
use Rattle.amf_broker.proofs.Awake.{awake-after, bound-after}
use Rattle.amf_broker.proofs.Law.{leaves-then, delivered}
use Rattle.amf_broker.proofs.broker.Broker.step.Goals as goal
use Rattle.amf_broker.proofs.broker.Broker.step.Goals.{in-Err, in-Ok+in_ok-reply-in-Ok, After-of_vec-expired}

pub returns-in_err-moment-clause-takes_none : goal.returns-in_err-moment-clause-takes_none
returns-in_err-moment-clause-takes_none c free =
    let here = rw (← c.self.view_is) at free in
    let fine = c.in_err-moment.ensures.nobody (nobody-free (the_view c.self.inside) c.args.moment c.args.call here) in
    cc fine

pub returns-in_err-reply-in-Ok-clause-takes_none : goal.returns-in_err-reply-in-Ok-clause-takes_none
returns-in_err-reply-in-Ok-clause-takes_none c free =
    let here = rw (← c.self.view_is) at free in
    let at : board_at c.in_ok-moment.moment c.self.inside.board ≡ found c.args.moment c.self.inside.board = rw (c.in_ok-moment.ensures.present, c.in_ok-moment.ensures.expired) refl in
    let allows = rw at at (sym c.in-Ok.is ∙ c.admitted.ensures) in
    let none = only-unsubscribe (the_view c.self.inside) c.args.moment c.args.call c.in-Ok.call allows here in
    let fine = c.in_err-reply-in-Ok.ensures.unsubscribe none in
    cc fine

replied : (c : After-of_vec-expired) → Replied (found c.args.moment c.self.inside.board) c.args.call c.match-admitted.reply c.match-admitted.self-inside.board
replied c =
    let at : board_at c.in_ok-moment.moment c.self.inside.board ≡ found c.args.moment c.self.inside.board = rw (c.in_ok-moment.ensures.present, c.in_ok-moment.ensures.expired) refl in
    elim c.match-admitted.branch [
      | in-Err w ↦
          let r = rw at at (refused (board_at c.in_ok-moment.moment c.self.inside.board) c.args.call w.in-Err.refusal (sym w.in-Err.is ∙ c.admitted.ensures)) in
          rw (w.reply-is, w.self-inside-is, w.advance.ensures, at) r
      | in-Ok+in_ok-reply-in-Ok w ↦
          let r = rw at at (was-served (board_at c.in_ok-moment.moment c.self.inside.board) c.args.call w.in-Ok.call w.in_ok-reply-in-Ok.reply w.serve.new.self (sym w.in-Ok.is ∙ c.admitted.ensures) w.in_ok-reply-in-Ok.ensures.reply w.in_ok-reply-in-Ok.ensures.state) in
          rw (w.reply-is, w.self-inside-is) r
    ]

same-calls : (c : After-of_vec-expired) → c.match-admitted.self-inside.calls ≡ c.self.inside.calls
same-calls c = elim c.match-admitted.branch [
  | in-Err w ↦ rw w.self-inside-is
  | in-Ok+in_ok-reply-in-Ok w ↦ rw w.self-inside-is
]

same-until : (c : After-of_vec-expired) → c.match-admitted.self-inside.awake_until ≡ c.self.inside.awake_until
same-until c = elim c.match-admitted.branch [
  | in-Err w ↦ rw w.self-inside-is
  | in-Ok+in_ok-reply-in-Ok w ↦ rw w.self-inside-is
]

seen : (c : After-of_vec-expired) → c.see.new.self ≡ sighted (named_by c.args.call) c.match-admitted.self-inside.board
seen c = c.see.ensures ∙ rw c.client-caller.ensures refl

the-whole-answer : (c : After-of_vec-expired) → record { reply = c.match-admitted.reply; expired = c.of_vec-expired.result } ≡ answer_to (the_view c.self.inside) c.args.moment c.args.call
the-whole-answer c = the-answer (the_view c.self.inside) c.args.moment c.args.call c.match-admitted.reply c.of_vec-expired.result c.match-admitted.self-inside.board (replied c) (c.of_vec-expired.ensures ∙ c.in_ok-moment.ensures.expired)

the-whole-state : (c : After-of_vec-expired) → record { board = c.see.new.self; calls = c.match-admitted.self-inside.calls + 1 } ≡ after (the_view c.self.inside) c.args.moment c.args.call
the-whole-state c = rw (same-calls c) (the-state (the_view c.self.inside) c.args.moment c.args.call c.match-admitted.reply c.match-admitted.self-inside.board c.see.new.self (replied c) (seen c))

whole : (c : After-of_vec-expired) → c.see.new.self ≡ sighted (named_by c.args.call) (reply_on (found c.args.moment c.self.inside.board) c.args.call).1
whole c = seen c ∙ ap (sighted (named_by c.args.call)) (replied c).board

pub awake_from-self-inside-requires-clause-awake : goal.awake_from-self-inside-requires-clause-awake
awake_from-self-inside-requires-clause-awake c =
    let at = (goal.at.awake_from-self-inside-requires-clause-awake c).After-of_vec-expired in
    rw (whole at, same-until at) (awake-after c.self.inside.awake_until c.args.moment c.self.inside.board c.args.call c.self.invariant.4 c.self.invariant.3)

pub awake_from-self-inside-requires-clause-bound : goal.awake_from-self-inside-requires-clause-bound
awake_from-self-inside-requires-clause-bound c =
    let at = (goal.at.awake_from-self-inside-requires-clause-bound c).After-of_vec-expired in
    rw (whole at, same-until at) (bound-after c.self.inside.awake_until c.args.moment c.self.inside.board c.args.call c.self.invariant.4)

pub invariant_of-self-2 : goal.invariant_of-self-2
invariant_of-self-2 c =
    let at = (goal.at.invariant_of-self-2 c).After-of_vec-expired in
    let grows = grows-answer c.args.moment c.self.inside.board c.args.call in
    let a = grows.clients in
    let b = grows.subs in
    let d = grows.messages in
    let old = c.self.invariant in
    let first = old.0 in
    let second = old.1 in
    let third = old.2 in
    (rw (whole at, same-calls at) (omega arith), rw (whole at, same-calls at) (omega arith), rw (whole at, same-calls at) (omega arith), c.awake_from-self-inside.ensures.awake, c.awake_from-self-inside.ensures.bound)

pub returns-clause-answer : goal.returns-clause-answer
returns-clause-answer c = rw (← c.self.view_is) (the-whole-answer (goal.at.returns-clause-answer c).After-of_vec-expired)

pub returns-clause-state : goal.returns-clause-state
returns-clause-state c = rw (← c.self.view_is) (the-whole-state (goal.at.returns-clause-state c).After-of_vec-expired)

pub returns-clause-delivery : goal.returns-clause-delivery
returns-clause-delivery c history by leaves =
    let at = (goal.at.returns-clause-delivery c).After-of_vec-expired in
    let before = rw (← c.self.view_is) at leaves in
    let now = leaves-then history (the_view c.self.inside) by c.args.moment c.args.call before in
    rw (the-whole-answer at, the-whole-state at) (now, delivered _ _ now)
