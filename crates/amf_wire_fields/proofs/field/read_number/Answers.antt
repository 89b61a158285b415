use Rattle.std.proofs.Common.{length, take, sym, arith}
use Rattle.std.proofs.lemmas.Result.{err_from_is_err_and}
use Rattle.amf_io.specs.Field.{u29}
use Rattle.amf_io.proofs.Whole.{whole_some}
use Rattle.amf_wire_fields.proofs.Ahead.{Passed, passed_goes, passed_placed, passed_field, number_bytes}
use Rattle.amf_wire_fields.proofs.field.read_number.Given.{Over}
use Rattle.amf_wire_fields.proofs.field.read_number.Goals as goal

passed : (g : Over) (c : goal.After-pass g) → Passed g.S.Source.left c.args.cursor.now c.pass.new.self c.ahead-ahead.result.now c.in-Whole.used
passed g c = record {
  front = c.ahead-ahead.ensures.front;
  some = c.in-Whole.ensures.answer.there;
  within = c.ahead-ahead.ensures.within;
  one_past = c.at-start.ensures.ahead;
  source = c.pass.ensures.source;
  name = c.pass.ensures.same_reference;
  same_bound = c.pass.ensures.bound;
  gone = c.pass.ensures.gives;
  taken = c.pass.ensures.place;
  fewer = c.pass.ensures.ahead;
}

pub returns-in-Whole-clause-goes : goal.returns-in-Whole-clause-goes
returns-in-Whole-clause-goes g c = passed_goes g.S.Source.tells g.S.Source.left g.S.Source.faults c.args.cursor.now c.pass.new.self c.ahead-ahead.result.now c.in-Whole.used (passed g c) c.in-Whole.value

pub returns-in-Whole-clause-number : goal.returns-in-Whole-clause-number
returns-in-Whole-clause-number g c =
    let S = g.S.Source in
    let old = c.args.cursor.now in
    let new = c.pass.new.self in
    let ahead = c.ahead-ahead.result.now in
    let bytes = take c.in-Whole.used ahead in
    let answer = c.in-Whole.ensures.answer in
    record {
      bytes = bytes;
      goes = passed_goes S.tells S.left S.faults old new ahead c.in-Whole.used (passed g c) bytes;
      field = passed_field S.tells S.left S.faults old new ahead c.in-Whole.used (passed g c) u29 answer.ends (number_bytes c.in-Whole.value bytes answer.spelled);
      value = sym answer.is_value;
    }

pub returns-in-Whole-clause-moves : goal.returns-in-Whole-clause-moves
returns-in-Whole-clause-moves g c =
    let some = whole_some u29 c.ahead-ahead.result.now c.in-Whole.used c.in-Whole.ensures.answer.ends in
    omega (arith, c.pass.ensures.place, some)

pub returns-in-Whole-clause-placed : goal.returns-in-Whole-clause-placed
returns-in-Whole-clause-placed g c = passed_placed g.S.Source.tells g.S.Source.left g.S.Source.faults c.args.cursor.now c.pass.new.self c.ahead-ahead.result.now c.in-Whole.used (passed g c)

pub returns-in_err-read_by_bytes-in-Short-clause-number : goal.returns-in_err-read_by_bytes-in-Short-clause-number
returns-in_err-read_by_bytes-in-Short-clause-number g c =
    let p = err_from_is_err_and c.from_residual.result c.from_residual.ensures.1 in
    rw (p.1, p.2) c.in_err-read_by_bytes-in-Short.ensures.field

pub returns-in_ok-read_by_bytes-in-Short-clause-number : goal.returns-in_ok-read_by_bytes-in-Short-clause-number
returns-in_ok-read_by_bytes-in-Short-clause-number g c =
    let e = c.in_ok-read_by_bytes-in-Short.ensures in
    record { bytes = c.in_ok-read_by_bytes-in-Short.field-0; goes = e.goes; field = e.field; value = c.number.ensures.value }

pub returns-in_ok-read_by_bytes-in-Short-clause-moves : goal.returns-in_ok-read_by_bytes-in-Short-clause-moves
returns-in_ok-read_by_bytes-in-Short-clause-moves g c =
    let e = c.in_ok-read_by_bytes-in-Short.ensures in
    let bytes = c.in_ok-read_by_bytes-in-Short.field-0 in
    let some = whole_some u29 bytes (length bytes) e.is_whole in
    omega (arith, e.field.taken, some)
