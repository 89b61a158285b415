-- An entry is two values.
use Rattle.std.proofs.Common.{length, ap, arith}
use Rattle.amf_graph.proofs.Entries.{length_flat}
use Rattle.amf_graph.proofs.slot.Slot.size.Goals as goal

pub returns-in-Dictionary : goal.returns-in-Dictionary
returns-in-Dictionary c = rw (← c.self.view_is, c.in-Dictionary.is) (omega (arith, length_flat c.self.inside.lists.entries, ap length c.entries.ensures))
