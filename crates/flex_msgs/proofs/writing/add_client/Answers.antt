-- A client is null where it is empty.
use Rattle.std.proofs.Common.{◌≡◌, ℕ, List, [], ◌∷◌, length, true, false, sym, ap, ◌∙◌}
use Rattle.std.specs.Prelude.{◌==◌}
use Rattle.std.proofs.lemmas.Result.{IfOk-weaker}
use Rattle.flex_msgs.specs.Writing.{AreValues}
use Rattle.flex_msgs.specs.Messages.{text_of, client_value}
use Rattle.flex_msgs.proofs.Written.{writes_none, client_empty, client_text}
use Rattle.flex_msgs.proofs.writing.add_client.Goals as goal

pub returns-then-is_empty-clause-writes : goal.returns-then-is_empty-clause-writes
returns-then-is_empty-clause-writes c = writes_none c.args.builder.now

pub returns-then-is_empty-clause-value : goal.returns-then-is_empty-clause-value
returns-then-is_empty-clause-value c =
    client_empty c.args.builder.now c.args.client.now (ap (λ (w : List ℕ). length w == 0) (sym c.as_bytes.ensures) ∙ sym c.is_empty.ensures ∙ c.if-is_empty.true)

pub returns-else-is_empty-clause-value : goal.returns-else-is_empty-clause-value
returns-else-is_empty-clause-value c =
    let some : (length c.args.client.now == 0) ≡ false = ap (λ (w : List ℕ). length w == 0) (sym c.as_bytes.ensures) ∙ sym c.is_empty.ensures ∙ c.if-is_empty.false in
    IfOk-weaker c.add_text.result (λ v. AreValues c.add_text.new.builder (v ∷ []) (λ h. text_of c.args.client.now ∷ [])) (λ v. AreValues c.add_text.new.builder (v ∷ []) (λ h. client_value c.args.client.now ∷ []))
    (λ v t. client_text c.add_text.new.builder v c.args.client.now some t) c.add_text.ensures.value
