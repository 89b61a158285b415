use Rattle.std.proofs.Common.{drop, arith, length-drop}
use Rattle.amf_wire_fields.proofs.Ahead.{Passed}
use Rattle.amf3_read.proofs.PlainReads.{rest_ahead, plain_reads}
use Rattle.amf3_read.proofs.plain.read_plain.Goals as goal

pub returns-in-Some-clause-some : goal.returns-in-Some-clause-some
returns-in-Some-clause-some g c =
    let S = g.S.Source in
    let old = c.args.cursor.now in
    let mid = c.pass.new.self in
    let new = c.pass-in-Some.new.self in
    let bytes = c.ahead-ahead.result.now in
    let e = c.in-Some.ensures in
    let p : Passed S.left old mid bytes 1 = record {
      front = c.ahead-ahead.ensures.front;
      some = omega arith;
      within = c.ahead-ahead.ensures.within;
      one_past = c.at-start.ensures.ahead;
      source = c.pass.ensures.source;
      name = c.pass.ensures.same_reference;
      same_bound = c.pass.ensures.bound;
      gone = c.pass.ensures.gives;
      taken = c.pass.ensures.place;
      fewer = c.pass.ensures.ahead;
    } in
    let q : Passed S.left mid new (drop 1 bytes) c.in-Some.plain.used = record {
      front = rest_ahead S.left old mid bytes c.ahead-ahead.ensures.front c.pass.ensures.gives;
      some = omega (arith, length-drop 1 bytes, e.few);
      within = omega (arith, length-drop 1 bytes, c.ahead-ahead.ensures.within, c.pass.ensures.place, c.pass.ensures.bound);
      one_past = omega (arith, c.at-start.ensures.ahead, c.pass.ensures.place, c.pass.ensures.ahead, c.pass.ensures.bound);
      source = c.pass-in-Some.ensures.source;
      name = c.pass-in-Some.ensures.same_reference;
      same_bound = c.pass-in-Some.ensures.bound;
      gone = c.pass-in-Some.ensures.gives;
      taken = c.pass-in-Some.ensures.place;
      fewer = c.pass-in-Some.ensures.ahead;
    } in
    plain_reads S.tells S.left S.faults c.args.tables.now old mid new bytes c.plain_at.ensures.bytes (omega arith) c.in-Some.plain.value c.in-Some.plain.used e.some p q
