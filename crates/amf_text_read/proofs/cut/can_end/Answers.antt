use Rattle.std.proofs.Common.{ap, ◌∙◌}
use Rattle.std.proofs.lemmas.Bool.{false≢true}
use Rattle.amf_text_read.specs.FrontEnds.{begins_open}
use Rattle.amf_text_read.proofs.CanEnds.{can_utf8}
use Rattle.amf_text_read.proofs.cut.can_end.Goals as goal

pub goes_on-requires : goal.goes_on-requires
goes_on-requires c = ap begins_open c.in-Some.ensures ∙ c.requires.open

pub returns-in-None : goal.returns-in-None
returns-in-None c = (λ t. absurd (false≢true t), λ k. absurd (c.in-None.ensures (can_utf8 c.args.text.now c.args.at c.utf8.text c.requires.within k)))
