use Rattle.std.proofs.Common.{sym, subst}
use Rattle.amf_text_write.specs.Parts.{each_pattern}
use Rattle.amf_text_write.specs.Tells.{Tells}
use Rattle.amf_text_write.proofs.Telling.{on_ok}
use Rattle.amf_text_write.proofs.NumberLists.{doubles_tell, doubles_told}
use Rattle.amf_text_write.proofs.layout.Output.doubles.Goals as goal

pub returns : goal.returns
returns c = λ d are.
    let ps = c.args.items.now in
    on_ok c.token-4.result (λ e. subst (λ ts. Tells ts c.args.self.now c.token-4.new.self) (sym (doubles_told d c.args.fixed ps))
    (doubles_tell c.args.fixed (each_pattern d ps) c.args.self.now c.token.new.self c.key.new.self c.token-2.new.self c.each_pattern.new.self c.token-3.new.self c.flag_member.new.self c.token-4.new.self
    c.in_ok-token.ensures c.in_ok-key.ensures c.in_ok-token-2.ensures (c.in_ok-each_pattern.ensures d are) c.in_ok-token-3.ensures c.in_ok-flag_member.ensures e)) c.token-4.ensures
