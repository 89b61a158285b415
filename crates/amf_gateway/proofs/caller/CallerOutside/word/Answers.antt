use Rattle.std.proofs.Common.{refl}
use Rattle.amf_gateway.specs.HandedLaws.{pass_none, calls_none}
use Rattle.amf_gateway.specs.Tells.{of_hall}
use Rattle.amf_gateway.proofs.Handing.{aid_word}
use Rattle.amf_gateway.proofs.caller.CallerOutside.word.Goals as goal

pub returns : goal.returns
returns g c = (
  aid_word (of_hall g.A.Hall g.A.Clock g.A.Dice) c.args.self.now.aid.now c.word.new.self c.word.result c.word.ensures.tells c.word.ensures.gives (g.met.A.Hall.dice_keeps_moments c.args.self.now.aid.now c.word.new.self c.word.ensures.rest) (g.met.A.Hall.dice_keeps_links c.args.self.now.aid.now c.word.new.self c.word.ensures.rest),
  pass_none c.args.self.now.pass.now,
  refl,
  refl,
  refl,
  refl,
  calls_none c.args.self.now.pass.now c.args.self.now.unanswered c.args.self.now.calls.now,
  λ e. refl,
)
