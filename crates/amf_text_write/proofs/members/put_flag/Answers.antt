use Rattle.std.proofs.Common.{true, sym, subst}
use Rattle.json.specs.declared.token.Token.TheVariants.{Bool, Key}
use Rattle.amf_text_write.specs.declared.waiting.Piece.TheVariants as piece
use Rattle.amf_text_write.specs.Flags.{flag_tokens}
use Rattle.amf_text_write.specs.Pieces.{Puts}
use Rattle.amf_text_write.proofs.Telling.{on_ok}
use Rattle.amf_text_write.proofs.Stacks.{put_both, put_none}
use Rattle.amf_text_write.proofs.members.put_flag.Goals as goal

pub returns-then-not-flag : goal.returns-then-not-flag
returns-then-not-flag c = λ g a. subst (λ f. Puts g a (λ w. flag_tokens c.args.name.now f) c.args.waiting.now.items c.args.waiting.now.items) (sym c.if-not-flag.true) (put_none g a c.args.waiting.now.items)

pub returns : goal.returns
returns c = λ g a.
    on_ok c.put-2.result (λ e. subst (λ f. Puts g a (λ w. flag_tokens c.args.name.now f) c.args.waiting.now.items c.put-2.new.waiting.items) (sym c.if-not-flag.false)
    (put_both g a (piece.Token (Bool true)) (piece.Token (Key c.args.name)) c.args.waiting.now.items c.put.new.waiting.items c.put-2.new.waiting.items c.in_ok-put.ensures e tt tt)) c.put-2.ensures
