-- The layouts are those of the spellings.
use Rattle.amf3_layout_laws.proofs.Layout3Format.{is_layout}
use Rattle.amf3_layout_laws.proofs.layout_laws.layouts_are_of_spellings.Goals as goal

pub returns : goal.returns
returns c = is_layout
