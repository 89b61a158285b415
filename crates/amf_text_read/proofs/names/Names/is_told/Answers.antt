-- A name is told where it is found.
use Rattle.amf_text_read.proofs.Left.{told_there, told_absent}
use Rattle.amf_text_read.proofs.names.Names.is_told.Goals as goal

pub returns-in-Some : goal.returns-in-Some
returns-in-Some c = rw (← c.self.view_is) (told_there c.self.inside.told _ _ c.in-Some.ensures)

pub returns-in-None : goal.returns-in-None
returns-in-None c = rw (← c.self.view_is) (told_absent c.self.inside.told _ c.in-None.ensures)
