-- The DSId of a ping is a text.
use Rattle.std.proofs.Common.{◌≡◌, List, ℕ, refl, sym, subst}
use Rattle.std.specs.Prelude.{codes}
use Rattle.amf_wire.specs.Text.{IsText}
use Rattle.amf_wire.proofs.TextTest.{is_text-is}
use Rattle.amf_poll_session.proofs.session.Session.new.Goals as goal

nil_text : (x : List ℕ) → x ≡ codes "nil" → IsText x
nil_text x e = subst IsText (sym e) ((is_text-is (codes "nil")).0 refl)

pub asked-requires-clause-ds_id : goal.asked-requires-clause-ds_id
asked-requires-clause-ds_id c = nil_text c.in_ok-ds_id.ds_id c.in_ok-ds_id.ensures

pub returns-clause-text : goal.returns-clause-text
returns-clause-text c = nil_text c.in_ok-ds_id.ds_id c.in_ok-ds_id.ensures
