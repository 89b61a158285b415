use Rattle.std.proofs.Common.{refl}
use Rattle.amf_gateway.specs.HandedLaws.{pass_none, calls_none}
use Rattle.amf_gateway.specs.Tells.{of_hall}
use Rattle.amf_gateway.proofs.Handing.{aid_moment}
use Rattle.amf_gateway.proofs.caller.CallerOutside.moment.Goals as goal

pub returns : goal.returns
returns g c = (
  aid_moment (of_hall g.A.Hall g.A.Clock g.A.Dice) c.args.self.now.aid.now c.now.new.self c.now.result c.now.ensures.tells c.now.ensures.gives (g.met.A.Hall.clock_keeps_words c.args.self.now.aid.now c.now.new.self c.now.ensures.rest) (g.met.A.Hall.clock_keeps_links c.args.self.now.aid.now c.now.new.self c.now.ensures.rest),
  pass_none c.args.self.now.pass.now,
  refl,
  refl,
  refl,
  refl,
  calls_none c.args.self.now.pass.now c.args.self.now.unanswered c.args.self.now.calls.now,
  λ e. refl,
)
