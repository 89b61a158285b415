-- Message identifiers are texts.
use Rattle.std.proofs.Common.{◌≡◌, ◌<◌, ◌^◌, List, ℕ, refl, sym, subst, rules}
use Rattle.std.specs.Prelude.{codes, decimal}
use Rattle.std.proofs.lemmas.Result.{IfOk-weaker}
use Rattle.amf_wire.specs.Text.{IsText}
use Rattle.amf_wire.proofs.TextTest.{is_text-is}
use Rattle.amf_poll_session.proofs.Digits.{decimal_text}
use Rattle.amf_poll_session.proofs.request.Request.message_id.Goals as goal

as_text : (x : List ℕ) → IsText x → (v : List ℕ) → v ≡ x → IsText v
as_text x t v e = subst IsText (sym e) t

pub returns-in-Ping-clause-text : goal.returns-in-Ping-clause-text
returns-in-Ping-clause-text c = IfOk-weaker c.of_bytes.result (λ (v : List ℕ). v ≡ codes "p") (λ v. IsText v) (as_text (codes "p") ((is_text-is (codes "p")).0 refl)) c.of_bytes.ensures

pub returns-in-Subscribe-clause-text : goal.returns-in-Subscribe-clause-text
returns-in-Subscribe-clause-text c = IfOk-weaker c.of_bytes-in-Subscribe.result (λ (v : List ℕ). v ≡ codes "s") (λ v. IsText v) (as_text (codes "s") ((is_text-is (codes "s")).0 refl)) c.of_bytes-in-Subscribe.ensures

pub returns-in-Poll-clause-text : goal.returns-in-Poll-clause-text
returns-in-Poll-clause-text c =
    let digits : c.as_bytes.result.now ≡ decimal c.in-Poll.number = search rules in
    let small : c.in-Poll.number < 2 ^ 64 = search rules in
    IfOk-weaker c.of_bytes-in-Poll.result (λ (v : List ℕ). v ≡ c.as_bytes.result.now) (λ v. IsText v) (as_text c.as_bytes.result.now (subst IsText (sym digits) (decimal_text c.in-Poll.number small))) c.of_bytes-in-Poll.ensures

pub returns-in-Disconnect-clause-text : goal.returns-in-Disconnect-clause-text
returns-in-Disconnect-clause-text c = IfOk-weaker c.of_bytes-in-Disconnect.result (λ (v : List ℕ). v ≡ codes "d") (λ v. IsText v) (as_text (codes "d") ((is_text-is (codes "d")).0 refl)) c.of_bytes-in-Disconnect.ensures
