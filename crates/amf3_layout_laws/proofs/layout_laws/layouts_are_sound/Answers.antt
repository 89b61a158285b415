-- What is read is spelled so.
use Rattle.amf3_layout_laws.proofs.Layout3Reads.{reads}
use Rattle.amf3_layout_laws.proofs.layout_laws.layouts_are_sound.Goals as goal

pub returns : goal.returns
returns c = reads
