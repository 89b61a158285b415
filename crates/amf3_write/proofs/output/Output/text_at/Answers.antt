use Rattle.std.proofs.Common.{refl, arith}
use Rattle.amf3_write.proofs.Ready.{unnamed_past}
use Rattle.amf3_write.proofs.Wrote.{on_ok, wrote_place}
use Rattle.amf3_write.proofs.output.Output.text_at.Goals as goal

pub text_inline-requires-clause-unnamed : goal.text_inline-requires-clause-unnamed
text_inline-requires-clause-unnamed c = unnamed_past c.args.self.now.tables.words.texts c.args.text.now c.args.place _ c.requires.first (omega (arith, c.if-place-lt-NAMEABLE_TEXTS.false))

pub returns-then-place-lt-NAMEABLE_TEXTS-clause-ok : goal.returns-then-place-lt-NAMEABLE_TEXTS-clause-ok
returns-then-place-lt-NAMEABLE_TEXTS-clause-ok c = on_ok c.number.result (λ h. wrote_place c.args.text.now c.args.self.now c.number.new.self _ c.args.place c.requires.not_empty c.requires.first refl h) c.number.ensures.ok
