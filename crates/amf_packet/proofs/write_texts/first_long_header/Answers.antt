use Rattle.std.proofs.Common.{[], ◌∷◌, arith}
use Rattle.amf_packet.specs.Content.{header_of}
use Rattle.amf_packet.specs.Packet.{Header}
use Rattle.amf_packet.proofs.WriteLists.{long_at, short_more, short_all}
use Rattle.amf_packet.proofs.write_texts.first_long_header.Goals as goal

pub returns-then-has_long_name : goal.returns-then-has_long_name
returns-then-has_long_name c = long_at header_of c.args.headers.now c.loop-place.place c.index-headers-place.result (omega arith) c.index-headers-place.is (λ (h : Header). h.name ∷ []) (c.has_long_name.ensures.long c.if-has_long_name.true) c.loop-place.invariant

pub loop-place-preserved : goal.loop-place-preserved
loop-place-preserved c = short_more header_of c.args.headers.now c.loop-place.place c.index-headers-place.result (omega arith) c.index-headers-place.is (λ (h : Header). h.name ∷ []) (c.has_long_name.ensures.short c.if-has_long_name.false) c.loop-place.invariant

pub returns : goal.returns
returns c = short_all header_of (λ (h : Header). h.name ∷ []) c.args.headers.now c.loop-place.place (omega arith) c.loop-place.invariant
