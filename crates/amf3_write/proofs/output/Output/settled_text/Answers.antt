use Rattle.std.proofs.Common.{refl}
use Rattle.amf3_write.proofs.Wrote.{on_ok, wrote_place}
use Rattle.amf3_write.proofs.output.Output.settled_text.Goals as goal

pub returns-in-Some-clause-ok : goal.returns-in-Some-clause-ok
returns-in-Some-clause-ok c =
    on_ok c.number.result (λ h. wrote_place c.args.text.now c.args.self.now c.number.new.self _ c.in-Some.place c.requires.not_empty c.in-Some.ensures.first refl h) c.number.ensures.ok
