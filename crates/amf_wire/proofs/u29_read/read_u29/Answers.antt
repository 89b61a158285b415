-- What is read is spelled at the front, by one to four bytes.
use Rattle.std.proofs.Common.{sym, subst, arith, refl}
use Rattle.amf_wire.specs.U29Answer.{IsU29Read}
use Rattle.amf_wire.proofs.U29Fields.{front_one, front_two, front_three, front_four, announces}
use Rattle.amf_wire.proofs.u29_read.read_u29.Goals as goal

pub returns-then-is_last-clause-answer : goal.returns-then-is_last-clause-answer
returns-then-is_last-clause-answer c = subst (λ r. IsU29Read c.args.bytes.now r) (sym c.whole.ensures) (front_one c.args.bytes.now _ (omega arith) (c.is_last.ensures.0 c.if-is_last.true) refl)

pub returns-then-is_last-2-clause-answer : goal.returns-then-is_last-2-clause-answer
returns-then-is_last-2-clause-answer c = subst (λ r. IsU29Read c.args.bytes.now r) (sym c.whole-then-is_last-2.ensures)
    (front_two c.args.bytes.now _ (omega arith) (announces _ _ c.is_last.ensures.1 c.if-is_last.false) (omega (arith, c.type_inv.bytes 0)) (c.is_last-2.ensures.0 c.if-is_last-2.true) refl)

pub returns-then-is_last-3-clause-answer : goal.returns-then-is_last-3-clause-answer
returns-then-is_last-3-clause-answer c = subst (λ r. IsU29Read c.args.bytes.now r) (sym c.whole-then-is_last-3.ensures)
    (front_three c.args.bytes.now _ (omega arith) (announces _ _ c.is_last.ensures.1 c.if-is_last.false) (omega (arith, c.type_inv.bytes 0)) (announces _ _ c.is_last-2.ensures.1 c.if-is_last-2.false) (omega (arith, c.type_inv.bytes 1))
    (c.is_last-3.ensures.0 c.if-is_last-3.true) refl)

pub returns-clause-answer : goal.returns-clause-answer
returns-clause-answer c = subst (λ r. IsU29Read c.args.bytes.now r) (sym c.whole-2.ensures)
    (front_four c.args.bytes.now _ (omega arith) (announces _ _ c.is_last.ensures.1 c.if-is_last.false) (omega (arith, c.type_inv.bytes 0)) (announces _ _ c.is_last-2.ensures.1 c.if-is_last-2.false) (omega (arith, c.type_inv.bytes 1))
    (announces _ _ c.is_last-3.ensures.1 c.if-is_last-3.false) (omega (arith, c.type_inv.bytes 2)) (omega (arith, c.type_inv.bytes 3)) refl)
