use Rattle.amf0_write.proofs.ChainEnds.{leaf_stays}
use Rattle.amf0_write.proofs.chains.further.Goals as goal

pub returns-in_default : goal.returns-in_default
returns-in_default c = record { names = λ g steps a h. h; content = λ g steps a h. leaf_stays g steps c.args.value c.in_default.not-Node }
