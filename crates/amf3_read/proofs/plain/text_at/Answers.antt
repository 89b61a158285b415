use Rattle.std.proofs.Common.{refl, sym, subst}
use Rattle.amf_wire.specs.U29Answer.{IsWholeU29}
use Rattle.amf_wire_fields.proofs.Ahead.{number_few}
use Rattle.amf3_read.proofs.TextReads.{even_number}
use Rattle.amf3_read.proofs.plain.text_at.Goals as goal

pub returns-in_ok-text-in-Whole-clause-some : goal.returns-in_ok-text-in-Whole-clause-some
returns-in_ok-text-in-Whole-clause-some c = record {
  header = c.get-header.result;
  whole = subst (λ v. IsWholeU29 c.args.bytes.now v c.in-Whole.used) (sym c.get-header.ensures.value) c.in-Whole.ensures.answer;
  even = even_number c.get-header.result c.if-header-eq1.false;
  text = c.in_ok-text-in-Whole.text;
  named = c.in_ok-text-in-Whole.ensures;
  is = refl;
}

pub returns-in_ok-text-in-Whole-clause-few : goal.returns-in_ok-text-in-Whole-clause-few
returns-in_ok-text-in-Whole-clause-few c = number_few c.in-Whole.value c.in-Whole.used c.args.bytes.now c.in-Whole.ensures.answer
