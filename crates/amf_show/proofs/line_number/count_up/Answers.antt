use Rattle.std.proofs.Common.{arith}
use Rattle.amf_show.proofs.LineNumbers.{line_long, counted}
use Rattle.amf_show.proofs.line_number.count_up.Goals as goal

pub overflow_sub-last : goal.overflow_sub-last
overflow_sub-last c = omega (arith, line_long c.args.number c.args.text.now.items c.requires.small c.requires.text, c.args.text.now.ok.0)

pub returns-then-digit-lt57 : goal.returns-then-digit-lt57
returns-then-digit-lt57 c = counted c.args.number c.args.text.now.items _ _ c.requires.small c.requires.text (omega (arith, line_long c.args.number c.args.text.now.items c.requires.small c.requires.text, c.args.text.now.ok.0)) c.index-digit.ensures c.if-digit-lt57.true
