use Rattle.std.proofs.Common.{arith}
use Rattle.amf0_write.specs.declared.unwritten.Unwritten.TheVariants.{Values}
use Rattle.amf0_write.proofs.Runs0.{segments_pushed, turns_pushed, runs_pushed}
use Rattle.amf0_write.proofs.unwritten.push_values.Goals as goal

pub returns-clause-left : goal.returns-clause-left
returns-clause-left c = λ a. segments_pushed a c.args.waiting.now.items c.push.new.self.items (Values c.args.values) c.in_ok-push.ensures.items

pub returns-clause-runs : goal.returns-clause-runs
returns-clause-runs c = λ a h k. runs_pushed a c.args.waiting.now.items c.push.new.self.items (Values c.args.values) c.in_ok-push.ensures.items k h

pub returns-clause-turns : goal.returns-clause-turns
returns-clause-turns c = omega (arith, turns_pushed c.args.waiting.now.items c.push.new.self.items (Values c.args.values) c.in_ok-push.ensures.items)
