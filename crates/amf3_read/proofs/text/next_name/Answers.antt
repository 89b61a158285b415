use Rattle.std.proofs.Common.{None, arith}
use Rattle.amf_wire_fields.proofs.Ahead.{Passed, passed_goes, passed_placed}
use Rattle.amf3_read.proofs.NameReads.{empty_passed}
use Rattle.amf3_read.proofs.TextReads.{known_continues}
use Rattle.amf3_read.proofs.text.next_name.Given.{Over}
use Rattle.amf3_read.proofs.text.next_name.Goals as goal

pub pass-requires : goal.pass-requires
pass-requires g c =
    let some = c.if-begins_with_empty.ensures.there in
    record { there = omega (arith, some, c.ahead-ahead.ensures.there); within = omega (arith, some, c.ahead-ahead.ensures.within) }

passed : (g : Over) (c : goal.After-pass g) → Passed g.S.Source.left c.args.cursor.now c.pass.new.self c.ahead-ahead.result.now 1
passed g c = record {
  front = c.ahead-ahead.ensures.front;
  some = c.if-begins_with_empty.ensures.there;
  within = c.ahead-ahead.ensures.within;
  one_past = c.at-start.ensures.ahead;
  source = c.pass.ensures.source;
  name = c.pass.ensures.same_reference;
  same_bound = c.pass.ensures.bound;
  gone = c.pass.ensures.gives;
  taken = c.pass.ensures.place;
  fewer = c.pass.ensures.ahead;
}

pub returns-then-begins_with_empty-clause-goes : goal.returns-then-begins_with_empty-clause-goes
returns-then-begins_with_empty-clause-goes g c =
    let S = g.S.Source in
    passed_goes S.tells S.left S.faults c.args.cursor.now c.pass.new.self c.ahead-ahead.result.now 1 (passed g c) None

pub returns-then-begins_with_empty-clause-answers : goal.returns-then-begins_with_empty-clause-answers
returns-then-begins_with_empty-clause-answers g c =
    let S = g.S.Source in
    empty_passed S.tells S.left S.faults c.args.builder.now c.args.tables.now c.args.cursor.now c.pass.new.self c.ahead-ahead.result.now (passed g c) c.if-begins_with_empty.ensures

pub returns-then-begins_with_empty-clause-continues : goal.returns-then-begins_with_empty-clause-continues
returns-then-begins_with_empty-clause-continues g c =
    let S = g.S.Source in
    let placed = passed_placed S.tells S.left S.faults c.args.cursor.now c.pass.new.self c.ahead-ahead.result.now 1 (passed g c) in
    known_continues c.args.builder.now c.args.tables.now c.args.cursor.now c.pass.new.self c.requires placed c.pass.ensures.bound (omega (arith, c.pass.ensures.place))
