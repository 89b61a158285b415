-- The worked lacks of parts hold.
use Rattle.amf3_write.proofs.PartLackRows as rows
use Rattle.amf3_write.proofs.facts.part_lack_rows.Goals as goal

pub returns : goal.returns
returns c = record { less_number = rows.less_number; beside_met = rows.beside_met }
