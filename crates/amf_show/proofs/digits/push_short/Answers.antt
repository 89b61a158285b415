use Rattle.amf_show.proofs.Decimals.{one, two, three, four}
use Rattle.amf_show.proofs.Held.{written_as}
use Rattle.amf_show.proofs.digits.push_short.Goals as goal

pub returns-then-number-lt10 : goal.returns-then-number-lt10
returns-then-number-lt10 c = written_as _ _ _ _ _ (one c.args.number c.if-number-lt10.true) c.push_word.ensures

pub returns-then-number-lt100 : goal.returns-then-number-lt100
returns-then-number-lt100 c = written_as _ _ _ _ _ (two c.args.number c.if-number-lt10.false c.if-number-lt100.true) c.push_word-then-number-lt100.ensures

pub returns-then-number-lt1000 : goal.returns-then-number-lt1000
returns-then-number-lt1000 c = written_as _ _ _ _ _ (three c.args.number c.if-number-lt100.false c.if-number-lt1000.true) c.push_word-then-number-lt1000.ensures

pub returns : goal.returns
returns c = written_as _ _ _ _ _ (four c.args.number c.if-number-lt1000.false c.requires) c.push_word-2.ensures
