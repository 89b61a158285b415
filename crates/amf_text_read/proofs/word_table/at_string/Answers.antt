-- The word of a form.
use Rattle.amf_text.specs.Asks.{step}
use Rattle.amf_text_read.proofs.word_table.at_string.Goals as goal

pub returns-in-FormName : goal.returns-in-FormName
unfolding step
returns-in-FormName c = λ told h gs. rw c.in-FormName.is (c.form_goals.ensures h gs)
