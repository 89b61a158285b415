use Rattle.std.proofs.Common.{◌≡◌, ℕ, List, length, take, Some, Ok, sym, subst}
use Rattle.amf_io.specs.Field.{whole}
use Rattle.amf_io.proofs.Whole.{whole_le, whole_alone}
use Rattle.amf_io.proofs.Bytes.{bytes_take}
use Rattle.amf_io.specs.CursorReads.{AnswersField}
use Rattle.amf_wire_fields.specs.FieldSize.{size_of}
use Rattle.amf_wire_fields.proofs.Ahead.{Passed, passed_goes, passed_placed, passed_field}
use Rattle.amf_wire_fields.proofs.field.read_field.Given.{Over}
use Rattle.amf_wire_fields.proofs.field.read_field.Goals as goal

passed : (g : Over) (c : goal.After-pass g) → Passed g.S.Source.left c.args.cursor.now c.pass.new.self c.ahead-ahead.result.now c.length_in-len.result
passed g c = record {
  front = c.ahead-ahead.ensures.front;
  some = whole_le (size_of c.args.size) c.ahead-ahead.result.now c.length_in-len.result c.length_in-len.ensures.whole;
  within = c.ahead-ahead.ensures.within;
  one_past = c.at-start.ensures.ahead;
  source = c.pass.ensures.source;
  name = c.pass.ensures.same_reference;
  same_bound = c.pass.ensures.bound;
  gone = c.pass.ensures.gives;
  taken = c.pass.ensures.place;
  fewer = c.pass.ensures.ahead;
}

pub returns-clause-goes : goal.returns-clause-goes
returns-clause-goes g c = passed_goes g.S.Source.tells g.S.Source.left g.S.Source.faults c.args.cursor.now c.pass.new.self c.ahead-ahead.result.now c.length_in-len.result (passed g c) c.front-field.result

pub returns-clause-field : goal.returns-clause-field
returns-clause-field g c =
    let S = g.S.Source in
    let old = c.args.cursor.now in
    let new = c.pass.new.self in
    let ahead = c.ahead-ahead.result.now in
    let is_field : AnswersField {X = List ℕ} S.tells S.left (λ x. x) (size_of c.args.size) old new (Ok (take c.length_in-len.result ahead))
    = passed_field S.tells S.left S.faults old new ahead c.length_in-len.result (passed g c) (size_of c.args.size) c.length_in-len.ensures.whole (bytes_take c.length_in-len.result ahead c.front-field.ensures.bytes) in
    subst (λ b. AnswersField {X = List ℕ} S.tells S.left (λ x. x) (size_of c.args.size) old new (Ok b)) (sym c.front-field.ensures.value) is_field

pub returns-clause-is_whole : goal.returns-clause-is_whole
returns-clause-is_whole g c =
    subst (λ b. whole (size_of c.args.size) b ≡ Some (length b)) (sym c.front-field.ensures.value) (whole_alone (size_of c.args.size) c.ahead-ahead.result.now c.length_in-len.result c.length_in-len.ensures.whole)

pub returns-clause-placed : goal.returns-clause-placed
returns-clause-placed g c = passed_placed g.S.Source.tells g.S.Source.left g.S.Source.faults c.args.cursor.now c.pass.new.self c.ahead-ahead.result.now c.length_in-len.result (passed g c)
