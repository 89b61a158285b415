-- Both passes are between calls, and no entry is of the new one.
use Rattle.std.proofs.Common.{rules, refl}
use Rattle.amf_desk.proofs.Turns.{ready_left, fresh_number}
use Rattle.amf_desk.proofs.desk.Desk.split.Goals as goal

pub invariant_of-pass : goal.invariant_of-pass
invariant_of-pass c = ready_left _ c.args.share _ _ _ _ c.pass.invariant refl c.cut-seat.ensures.left

pub returns-clause-fresh : goal.returns-clause-fresh
returns-clause-fresh c = fresh_number c.pass.inside.seat.me.0 c.args.share c.cut-seat.result.me c.pass.invariant.sound (search rules) c.cut-seat.ensures.right
