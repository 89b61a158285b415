use Rattle.std.proofs.Common.{sym, ap, ◌∙◌, map}
use Rattle.std.specs.Prelude.{codes, decimal}
use Rattle.json.specs.Token.{number}
use Rattle.amf_text_write.specs.Laid.{with_more}
use Rattle.amf_text_write.proofs.Telling.{on_ok}
use Rattle.amf_text_write.proofs.NumberLists.{fixed_more, uints_told}
use Rattle.amf_text_write.proofs.layout.Output.uints.Goals as goal

pub returns : goal.returns
returns c = λ d.
    let ns = c.args.items.now in
    on_ok c.token-4.result (λ e.
    fixed_more c.args.fixed (codes "$uints") (map (λ n. number (decimal n)) ns) c.args.self.now c.token.new.self c.flag_member.new.self c.key.new.self c.token-2.new.self c.each_uint.new.self c.token-3.new.self c.token-4.new.self
    c.in_ok-token.ensures c.in_ok-flag_member.ensures c.in_ok-key.ensures c.in_ok-token-2.ensures c.in_ok-each_uint.ensures c.in_ok-token-3.ensures e ∙ ap (with_more c.args.self.now) (sym (uints_told d c.args.fixed ns))) c.token-4.ensures
