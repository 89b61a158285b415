use Rattle.std.proofs.Common.{◌≤◌, [], length, arith, subst}
use Rattle.std.proofs.lemmas.List.{take_all}
use Rattle.json.specs.Tree.{json_tokens}
use Rattle.amf_wire.specs.declared.pattern.Pattern.{Pattern}
use Rattle.amf_text.specs.Scalars.{told_pattern}
use Rattle.amf_text_write.specs.Parts.{each_pattern}
use Rattle.amf_text_write.specs.Tells.{Tells}
use Rattle.amf_text_write.proofs.Telling.{exactly, more_none}
use Rattle.amf_text_write.proofs.NumberLists.{parts_more}
use Rattle.amf_text_write.proofs.layout.Output.each_pattern.Goals as goal

pub loop-double-init : goal.loop-double-init
loop-double-init c = λ d are. exactly [] c.args.self.now c.args.self.now (more_none c.args.self.now)

pub loop-double-preserved : goal.loop-double-preserved
loop-double-preserved c = λ d are.
    let none : Pattern = record { 0 = 0 } in
    parts_more (λ (p : Pattern). json_tokens (told_pattern d p.0)) c.args.items.now c.loop-double.double-index none c.args.self.now c.loop-double.self c.pattern.new.self (omega arith) (c.loop-double.invariant d are) (c.in_ok-pattern.ensures d are)

pub returns : goal.returns
returns c = λ d are.
    let xs = c.args.items.now in
    let past : length xs ≤ c.loop-double.double-index = omega arith in
    subst (λ ps. Tells (each_pattern d ps) c.args.self.now c.loop-double.self) (take_all c.loop-double.double-index xs past) (c.loop-double.invariant d are)
