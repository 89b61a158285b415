use Rattle.amf0_spelling.proofs.Forms0 as law
use Rattle.amf0_spelling.proofs.laws.values_have_one_form.Goals as goal

pub returns : goal.returns
returns c = law.forms
