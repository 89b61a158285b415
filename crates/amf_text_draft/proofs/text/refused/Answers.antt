use Rattle.std.proofs.Common.{◌≡◌, ℕ, List, subst}
use Rattle.amf_text_read.specs.declared.verdict.Refusal.{Refusal}
use Rattle.amf_text_read.specs.TextVerdicts.{IsRefusedSo}
use Rattle.amf_text_draft.specs.declared.text.TextEnd.TheVariants.{Refused}
use Rattle.amf_text_draft.proofs.text.refused.Goals as goal

so : (text : List ℕ) (x r : Refusal) → IsRefusedSo text x → Refused x ≡ Refused r → IsRefusedSo text r
so text x r h e = let same : x ≡ r = cc in subst (IsRefusedSo text) same h

pub returns-in-Ok-Some : goal.returns-in-Ok-Some
returns-in-Ok-Some c = λ r e. so c.args.text.now c.in-Ok-Some.refusal r (rw c.in-Ok-Some.field-0-is at c.in-Ok-Some.ensures) e

pub unreachable-requires : goal.unreachable-requires
unreachable-requires c = c.requires (rw c.in-Ok-None.field-0-is at c.in-Ok-None.ensures)

pub returns-in-Err : goal.returns-in-Err
returns-in-Err c = λ r e. absurd cc
