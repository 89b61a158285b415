use Rattle.amf_media.proofs.SetVerdicts as law
use Rattle.amf_media.proofs.flv_laws.set_values_have_one_form.Goals as goal

pub returns : goal.returns
returns c = law.set_values_have_one_form
