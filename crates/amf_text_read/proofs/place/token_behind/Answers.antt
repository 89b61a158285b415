use Rattle.std.proofs.Common.{sym, ◌∙◌, arith}
use Rattle.amf_text_read.proofs.Parting.{behind_parted, behind_unparted}
use Rattle.amf_text_read.proofs.Scanning.{not_at_end}
use Rattle.amf_text_read.proofs.place.token_behind.Goals as goal
use Rattle.amf_text_read.proofs.place.token_behind.Goals.{else-start-text-via-then-start-text+then-next-text+else-parts, else-start-text-via-then-start-text+else-next-text, else-start-text-via-else-start-text}

pub returns-then-parts : goal.returns-then-parts
returns-then-parts c = λ n s less.
    behind_parted c.args.text.now n c.args.start c.lexeme_behind-next.result c.lexeme_behind.result s less (c.lexeme_behind-next.ensures.next c.if-start-text.true) c.if-next-text.true
    (c.lexeme_behind.ensures.next c.if-next-text.true) (sym c.parts.ensures ∙ c.if-parts.true)

pub returns-else-start-text : goal.returns-else-start-text
returns-else-start-text c = λ n s less.
    let h = not_at_end c.args.text.now n c.args.start s less in
    behind_unparted c.args.text.now n c.args.start c.lexeme_behind-next.result s less (c.lexeme_behind-next.ensures.next h) (
    elim c.else-start-text.branch [
      | else-start-text-via-then-start-text+then-next-text+else-parts w ↦ λ _. sym w.parts.ensures ∙ w.if-parts.false
      | else-start-text-via-then-start-text+else-next-text w ↦ λ less. absurd (let f = w.if-next-text.false in omega (arith, f, less))
      | else-start-text-via-else-start-text w ↦ absurd (let f = w.if-start-text.false in omega (arith, f, h))
    ])
