-- The step keeps the rule.
use Rattle.std.proofs.Common.{rules}
use Rattle.amf_desk.proofs.Keeps.{counts}
use Rattle.amf_desk.proofs.desk.Desk.count_in.Goals as goal

pub fetch_add-requires : goal.fetch_add-requires
fetch_add-requires g c = (search rules, search rules, counts _ _ _ _ c.requires.turn.0 g.E.Told.moment g.E.Told.call c.requires.turn.1 c.requires.budget)
