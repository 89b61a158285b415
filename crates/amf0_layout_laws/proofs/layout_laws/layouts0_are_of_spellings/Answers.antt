use Rattle.amf0_layout_laws.proofs.Layout0Format as law
use Rattle.amf0_layout_laws.proofs.layout_laws.layouts0_are_of_spellings.Goals as goal

pub returns : goal.returns
returns c = law.is_layout0
