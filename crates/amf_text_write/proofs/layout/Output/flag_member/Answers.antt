use Rattle.std.proofs.Common.{◌∷◌, []}
use Rattle.json.specs.Token.{key, boolean}
use Rattle.std.specs.Prelude.{true}
use Rattle.amf_text_write.proofs.Telling.{flag_off, flag_on, then_more, on_ok}
use Rattle.amf_text_write.proofs.layout.Output.flag_member.Goals as goal

pub returns-then-not-flag : goal.returns-then-not-flag
returns-then-not-flag c = flag_off c.args.self.now c.args.name.now c.args.flag c.if-not-flag.true

pub returns : goal.returns
returns c =
    on_ok c.flag.result (λ e. flag_on c.args.self.now c.flag.new.self c.args.name.now c.args.flag c.if-not-flag.false (then_more (key c.args.name.now ∷ []) (boolean true ∷ []) c.args.self.now c.key.new.self c.flag.new.self c.in_ok-key.ensures e)) c.flag.ensures
