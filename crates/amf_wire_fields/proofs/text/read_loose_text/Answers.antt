use Rattle.std.proofs.Common.{◌+◌, ◌<◌, ◌≤◌, ◌^◌, length, take, sym, ap, subst, arith}
use Rattle.std.proofs.lemmas.List.{length-take}
use Rattle.amf_wire.specs.Text.{IsText}
use Rattle.amf_io.specs.Cursor.{place, bound}
use Rattle.amf_io.specs.ReadEnds.{IsPlaced}
use Rattle.amf_wire_fields.proofs.Ahead.{Passed, passed_still_ready, passed_placed, on_ok}
use Rattle.amf_wire_fields.proofs.CameChunk.{came_text, is_text}
use Rattle.amf_wire_fields.proofs.LooseText.{room_for_text, slice_text, kept_there, kept_as, text_ahead}
use Rattle.amf_wire_fields.proofs.text.read_loose_text.Given.{Over}
use Rattle.amf_wire_fields.proofs.text.read_loose_text.Goals as goal

pub text-requires : goal.text-requires
text-requires g c = subst IsText (sym c.deref.ensures.value) (is_text (came_text c.args.size c.in_ok-bytes.ensures.answers))

pub kept-requires-2 : goal.kept-requires-2
kept-requires-2 g c = λ e.
    let came = came_text c.args.size c.in_ok-bytes.ensures.answers in
    let within : place c.read_contents.new.cursor ≤ bound c.read_contents.new.cursor = c.in_ok-bytes.ensures.placed.within in
    let same = c.in_ok-bytes.ensures.goes.same_bound in
    let long : length c.deref.result.now + length c.args.builder.now.texts < 2 ^ 27 = omega (arith, came.long, came.taken, within, same, ap length c.deref.ensures.value, c.requires) in
    room_for_text (length c.args.builder.now.texts) (length c.deref.result.now) (omega arith) (omega arith) (c.text.ensures.full.0 e)

-- The text that is ahead.

passed : (g : Over) (c : goal.After-pass g) → Passed g.S.Source.left c.args.cursor.now c.pass.new.self c.ahead-ahead.result.now c.args.size
passed g c = record {
  front = c.ahead-ahead.ensures.front;
  some = c.if-begins_with_text.ensures.there;
  within = c.ahead-ahead.ensures.within;
  one_past = c.at-start.ensures.ahead;
  source = c.pass.ensures.source;
  name = c.pass.ensures.same_reference;
  same_bound = c.pass.ensures.bound;
  gone = c.pass.ensures.gives;
  taken = c.pass.ensures.place;
  fewer = c.pass.ensures.ahead;
}

pub text-text-requires : goal.text-text-requires
text-text-requires g c = slice_text c.args.size c.ahead-ahead.result.now c.if-begins_with_text.ensures

pub kept-requires : goal.kept-requires
kept-requires g c = λ e.
    let bytes = take c.args.size c.ahead-ahead.result.now in
    let t = c.if-begins_with_text.ensures in
    let long : length bytes + length c.args.builder.now.texts < 2 ^ 27 = omega (arith, length-take c.args.size c.ahead-ahead.result.now, t.there, c.ahead-ahead.ensures.within, c.requires) in
    room_for_text (length c.args.builder.now.texts) (length bytes) (omega arith) (omega arith) (c.text-text.ensures.full.0 e)

pub returns-then-begins_with_text-clause-goes : goal.returns-then-begins_with_text-clause-goes
returns-then-begins_with_text-clause-goes g c =
    let S = g.S.Source in
    passed_still_ready S.tells S.left S.faults c.args.cursor.now c.pass.new.self c.ahead-ahead.result.now c.args.size (passed g c.before) c.kept.result c.kept.ensures.err

pub returns-then-begins_with_text-clause-answers : goal.returns-then-begins_with_text-clause-answers
returns-then-begins_with_text-clause-answers g c =
    let S = g.S.Source in
    let ahead = c.ahead-ahead.result.now in
    let a = c.args.builder.now in
    let z = c.text-text.new.self in
    text_ahead S.tells S.left c.args.size c.args.cursor.now c.pass.new.self ahead z (passed g c.before) c.if-begins_with_text.ensures c.kept.result
    (kept_there c.text-text.result a z (take c.args.size ahead) c.text-text.ensures.id c.text-text.ensures.ok c.kept.result c.kept.ensures.ok) c.kept.ensures.err

pub returns-then-begins_with_text-clause-kept : goal.returns-then-begins_with_text-clause-kept
returns-then-begins_with_text-clause-kept g c =
    kept_as c.text-text.result c.args.builder.now c.text-text.new.self (take c.args.size c.ahead-ahead.result.now) c.text-text.ensures.id c.text-text.ensures.ok c.kept.result c.kept.ensures.ok

pub returns-then-begins_with_text-clause-placed : goal.returns-then-begins_with_text-clause-placed
returns-then-begins_with_text-clause-placed g c =
    let S = g.S.Source in
    on_ok (IsPlaced c.pass.new.self) c.kept.result (passed_placed S.tells S.left S.faults c.args.cursor.now c.pass.new.self c.ahead-ahead.result.now c.args.size (passed g c.before))

pub pass-requires : goal.pass-requires
pass-requires g c =
    let some = c.if-begins_with_text.ensures.there in
    record { there = omega (arith, some, c.ahead-ahead.ensures.there); within = omega (arith, some, c.ahead-ahead.ensures.within) }
