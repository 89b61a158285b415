use Rattle.amf0_layout_laws.proofs.Layout0Format as law
use Rattle.amf0_layout_laws.proofs.layout_laws.values0_are_spellings.Goals as goal

pub returns : goal.returns
returns c = law.values_are_spellings0
