use Rattle.std.proofs.Common.{◌≡◌, ◌+◌, ◌<◌, ◌∷◌, [], length, length-append, ap, ◌∙◌, arith}
use Rattle.amf_wire_fields.specs.FieldSize.{size_of}
use Rattle.amf_wire_fields.proofs.FieldLoop.{short_below, not_yet, ended, grown}
use Rattle.amf_wire_fields.proofs.field.read_by_bytes.Goals as goal

pub push-requires : goal.push-requires
push-requires g c = short_below c.args.size c.loop-size.field (not_yet (size_of c.args.size) c.as_slice.result.now c.loop-size.field c.is_whole.result c.is_whole.ensures c.as_slice.ensures c.loop-size-test.true)

pub loop-size-smaller : goal.loop-size-smaller
loop-size-smaller g c =
    let lt : length c.loop-size.field < 8 = short_below c.args.size c.loop-size.field (not_yet (size_of c.args.size) c.as_slice.result.now c.loop-size.field c.is_whole.result c.is_whole.ensures c.as_slice.ensures c.loop-size-test.true) in
    let more : length c.push.new.self ≡ length c.loop-size.field + 1 = ap length c.push.ensures ∙ length-append c.loop-size.field (c.in-Ok.byte ∷ []) in
    omega arith

pub returns-clause-field : goal.returns-clause-field
returns-clause-field g c =
    let h = c.loop-size.invariant in
    let n = ended (size_of c.args.size) c.as_slice.result.now c.loop-size.field c.is_whole.result c.is_whole.ensures c.as_slice.ensures c.loop-size-test.false in
    record {
      is_whole = grown (size_of c.args.size) c.loop-size.field n.0 h.grows n.1;
      taken = h.taken ∙ ap (λ k. k + length c.loop-size.field) h.started;
      within = let w = h.within in let b = h.same_bound in omega arith;
      are_bytes = h.grows.are_bytes;
      parts = h.parts;
    }

pub returns-clause-is_whole : goal.returns-clause-is_whole
returns-clause-is_whole g c =
    let n = ended (size_of c.args.size) c.as_slice.result.now c.loop-size.field c.is_whole.result c.is_whole.ensures c.as_slice.ensures c.loop-size-test.false in
    grown (size_of c.args.size) c.loop-size.field n.0 c.loop-size.invariant.grows n.1
