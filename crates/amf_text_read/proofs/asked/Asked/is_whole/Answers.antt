use Rattle.std.proofs.Common.{◌∙◌, arith}
use Rattle.amf_text_read.specs.Lists.{held_of}
use Rattle.amf_text_read.proofs.Judged.{whole_is}
use Rattle.amf_text_read.proofs.asked.Asked.is_whole.Goals as goal

pub returns : goal.returns
returns c = let a = c.args.self.now in c.is_empty.ensures ∙ whole_is (held_of a.lists) a.goals.items _ (omega (arith, a.goals.ok.0))
