-- The step keeps the rule.
use Rattle.std.proofs.Common.{rules}
use Rattle.amf_desk.proofs.Keeps.{comes}
use Rattle.amf_desk.proofs.desk.Desk.look.Goals as goal

pub load-serving-requires : goal.load-serving-requires
load-serving-requires c = (search rules, search rules, comes _ _ _ _ c.requires.waits.0 c.requires.waits.1)
