-- The step keeps the rule.
use Rattle.std.proofs.Common.{rules}
use Rattle.amf_desk.proofs.Keeps.{takes_ticket}
use Rattle.amf_desk.proofs.desk.Desk.take_ticket.Goals as goal

pub fetch_add-requires : goal.fetch_add-requires
fetch_add-requires c = (search rules, search rules, takes_ticket _ _ _ _ c.requires.idle.0 c.requires.idle.1)
