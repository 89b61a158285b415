use Rattle.std.proofs.Common.{◌≡◌, Option, Some, None, refl, subst}
use Rattle.std.specs.Prelude.{IfNone}
use Rattle.json.specs.Lex.{tokens}
use Rattle.amf_text.specs.Scalars.{read_number}
use Rattle.amf_text_gather.specs.States.{IsGathered}
use Rattle.amf_text_draft.proofs.Verdicts.{is_unread, says_nothing}
use Rattle.amf_text_draft.proofs.text.read_text.Goals as goal

at_none : {X : Type 0} → (P : Type 0) → (o : Option X) → IfNone o P → ((x : X) → o ≡ Some x → ⊥) → P
at_none P None h n = h
at_none P (Some x) h n = absurd (n x refl)

pub refused-requires : goal.refused-requires
refused-requires c = is_unread c.args.text.now (at_none _ c.readable.result c.readable.ensures.none c.in_default.not-Some)

pub refused-requires-in-None : goal.refused-requires-in-None
refused-requires-in-None c =
    says_nothing (c.tree_laws.ensures read_number) c.args.text.now c.in-Some.whole.now c.in-Some.ensures.some.0
    (subst (IsGathered (tokens c.in-Some.whole.now)) c.in-None.is c.in_ok-document.ensures)
