-- The step keeps the rule.
use Rattle.std.proofs.Common.{rules}
use Rattle.amf_desk.proofs.Keeps.{takes_next}
use Rattle.amf_desk.proofs.desk.Desk.take_this.Goals as goal

pub compare_exchange-requires : goal.compare_exchange-requires
compare_exchange-requires c = (search rules, search rules, takes_next _ _ _ c.args.ticket _ _ (search rules) c.requires.idle.0 c.requires.idle.1)
