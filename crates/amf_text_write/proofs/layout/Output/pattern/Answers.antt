use Rattle.std.proofs.Common.{Some, None, sym, ap, ◌∙◌, subst, SFits, w64, to_z-of_z, rules}
use Rattle.std.specs.Prelude.{OnOk}
use Rattle.json.specs.Tree.{json_tokens}
use Rattle.amf_text.specs.Scalars.{told_pattern}
use Rattle.amf_text_write.specs.Laid.{with_more}
use Rattle.amf_text_write.specs.Tells.{Tells}
use Rattle.amf_text_write.proofs.ToldLeaves.{odd_pattern, even_pattern}
use Rattle.amf_text_write.proofs.Telling.{exactly, on_ok}
use Rattle.amf_text_write.proofs.layout.Output.pattern.Goals as goal

pub returns-then-is_odd : goal.returns-then-is_odd
returns-then-is_odd c = λ d are.
    let p = c.args.double.0 in
    let odd = sym c.is_odd.ensures ∙ c.if-is_odd.true in
    on_ok c.odd.result (λ e. exactly (json_tokens (told_pattern d p)) c.args.self.now c.odd.new.self (e ∙ ap (λ j. with_more c.args.self.now (json_tokens j)) (sym (odd_pattern d p odd)))) c.odd.ensures

pub returns-in-Some : goal.returns-in-Some
returns-in-Some c = λ d are.
    let p = c.args.double.0 in
    let even = sym c.is_odd.ensures ∙ c.if-is_odd.false in
    let whole = sym c.whole_of.ensures.value ∙ c.in-Some.is in
    let fits : SFits w64 c.in-Some.whole = search rules in
    let int = simp to_z-of_z at c.int.ensures in
    on_ok c.int.result (λ e. exactly (json_tokens (told_pattern d p)) c.args.self.now c.int.new.self (e ∙ ap (λ j. with_more c.args.self.now (json_tokens j)) (sym (even_pattern d p (Some c.in-Some.whole) even whole)))) int

pub digits-requires-clause-finite : goal.digits-requires-clause-finite
digits-requires-clause-finite c = sym c.is_odd.ensures ∙ c.if-is_odd.false

pub digits-requires-clause-part : goal.digits-requires-clause-part
digits-requires-clause-part c = sym c.whole_of.ensures.value ∙ c.in-None.is

pub returns-in-None : goal.returns-in-None
returns-in-None c = λ d are.
    let p = c.args.double.0 in
    let even = sym c.is_odd.ensures ∙ c.if-is_odd.false in
    let whole = sym c.whole_of.ensures.value ∙ c.in-None.is in
    subst (λ j. OnOk c.digits.result (Tells (json_tokens j) c.args.self.now c.digits.new.self)) (sym (even_pattern d p None even whole)) (c.digits.ensures d are)
