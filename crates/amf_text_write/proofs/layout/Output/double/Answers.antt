use Rattle.std.proofs.Common.{sym, ◌∙◌, subst}
use Rattle.std.specs.Prelude.{OnOk}
use Rattle.json.specs.Tree.{json_tokens}
use Rattle.amf_text_write.specs.Tells.{Tells}
use Rattle.amf_text_write.proofs.ToldLeaves.{apart, not_apart}
use Rattle.amf_text_write.proofs.layout.Output.double.Goals as goal

pub returns-then-is_apart : goal.returns-then-is_apart
returns-then-is_apart c = λ d are.
    let test = sym c.is_apart.ensures ∙ c.if-is_apart.true in
    subst (λ j. OnOk c.pattern_alone.result (Tells (json_tokens j) c.args.self.now c.pattern_alone.new.self)) (sym (apart d c.args.bare c.args.double.0 test)) (c.pattern_alone.ensures d are)

pub returns : goal.returns
returns c = λ d are.
    let test = sym c.is_apart.ensures ∙ c.if-is_apart.false in
    subst (λ j. OnOk c.pattern.result (Tells (json_tokens j) c.args.self.now c.pattern.new.self)) (sym (not_apart d c.args.bare c.args.double.0 test)) (c.pattern.ensures d are)
