use Rattle.std.proofs.Common.{refl}
use Rattle.amf_broker.specs.History.{Entry as Event}
use Rattle.amf_gateway.specs.HandedLaws.{aid_none, pass_none, calls_none}
use Rattle.amf_gateway.specs.Tells.{of_hall}
use Rattle.amf_gateway.proofs.Handing.{aid_entry, pass_called, pass_ended, called_small, calls_called, calls_ended}
use Rattle.amf_gateway.proofs.caller.CallerOutside.call.Goals as goal

pub returns-in-Ok-clause-reply : goal.returns-in-Ok-clause-reply
returns-in-Ok-clause-reply g c =
    let p = c.args.self.now.pass.now in
    let called = c.in-Ok.ensures.answer in
    let e : Event = record { caller = p.number; moment = c.args.moment; call = c.args.call; answer = c.in-Ok.answer } in (
      e,
      (
        aid_entry (of_hall g.A.Hall g.A.Clock g.A.Dice) c.args.self.now.aid.now e,
        pass_called p c.call-answer.new.pass c.args.moment c.args.call c.in-Ok.answer called,
        refl,
        refl,
        refl,
        refl,
        calls_called p c.call-answer.new.pass c.args.moment c.args.call c.in-Ok.answer c.args.self.now.unanswered c.args.self.now.calls.now _ called c.saturating_add-self.ensures,
        λ e. refl,
      ),
      refl,
      refl,
      refl,
    )

pub returns-in-Ok-clause-small : goal.returns-in-Ok-clause-small
returns-in-Ok-clause-small g c = called_small c.args.self.now.pass.now c.call-answer.new.pass c.args.moment c.args.call c.in-Ok.answer c.in-Ok.ensures.answer

pub returns-in-Err-clause-none : goal.returns-in-Err-clause-none
returns-in-Err-clause-none g c = (
  aid_none (of_hall g.A.Hall g.A.Clock g.A.Dice) c.args.self.now.aid.now,
  pass_ended c.args.self.now.pass.now c.call-answer.new.pass c.args.moment c.args.call c.in-Err.end c.in-Err.ensures.end,
  refl,
  refl,
  refl,
  refl,
  rw (c.in_default.is, c.why-end.ensures) (calls_ended c.args.self.now.pass.now c.call-answer.new.pass c.args.moment c.args.call c.in-Err.end c.args.self.now.calls.now _ c.in-Err.ensures.end c.saturating_add-self.ensures),
  λ e. absurd cc,
)

pub returns-in-Some-clause-none : goal.returns-in-Some-clause-none
returns-in-Some-clause-none g c = (
  aid_none (of_hall g.A.Hall g.A.Clock g.A.Dice) c.args.self.now.aid.now,
  pass_none c.args.self.now.pass.now,
  refl,
  refl,
  refl,
  refl,
  calls_none c.args.self.now.pass.now c.args.self.now.unanswered c.args.self.now.calls.now,
  λ e. refl,
)
