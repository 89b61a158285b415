-- The step keeps the rule.
use Rattle.std.proofs.Common.{rules}
use Rattle.amf_desk.proofs.Keeps.{hands_on}
use Rattle.amf_desk.proofs.desk.Desk.hand_on.Goals as goal

pub fetch_add-requires : goal.fetch_add-requires
fetch_add-requires c = (search rules, search rules, hands_on _ _ _ _ c.requires.turn.0 c.requires.turn.1 c.requires.back)
