use Rattle.std.proofs.Common.{◌≤◌, ◌<◌, ◌∙◌, ℕ, length, List, refl, sym, subst}
use Rattle.std.specs.Prelude.{◌↔◌, IsTrue}
use Rattle.amf_wire.specs.Text.{IsText}
use Rattle.amf_self_call.proofs.Callable.{is_no, null_is_none, long_is_none, target_is}
use Rattle.amf_self_call.proofs.conditions.is_target.Goals as goal

pub returns-then-is_null : goal.returns-then-is_null
returns-then-is_null c = is_no _ refl (null_is_none c.args.target.now (sym c.is_null.ensures ∙ c.if-is_null.true))

pub returns-then-as_bytes-gt65535 : goal.returns-then-as_bytes-gt65535
returns-then-as_bytes-gt65535 c = is_no _ refl (long_is_none c.args.target.now (subst (λ (z : List ℕ). 65535 < length z) c.as_bytes.ensures c.if-as_bytes-gt65535.true))

pub returns : goal.returns
returns c =
    target_is c.args.target.now c.is_amf_text.result (sym c.is_null.ensures ∙ c.if-is_null.false) (subst (λ (z : List ℕ). length z ≤ 65535) c.as_bytes.ensures c.if-as_bytes-gt65535.false)
    (subst (λ (z : List ℕ). IsTrue c.is_amf_text.result ↔ IsText z) c.as_bytes-2.ensures c.is_amf_text.ensures.text)
