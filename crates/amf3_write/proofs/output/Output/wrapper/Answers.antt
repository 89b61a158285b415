use Rattle.std.proofs.Common.{refl}
use Rattle.amf3_spelling.specs.Tables.{external}
use Rattle.amf3_write.proofs.Wrote.{on_ok, wrote_entry_place}
use Rattle.amf3_write.proofs.output.Output.wrapper.Goals as goal

pub returns-in-Some-clause-ok : goal.returns-in-Some-clause-ok
returns-in-Some-clause-ok c = on_ok c.number.result (λ h. wrote_entry_place (external c.args.class) c.args.self.now c.number.new.self _ c.in-Some.place c.in-Some.ensures.first refl h) c.number.ensures.ok
