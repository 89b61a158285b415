use Rattle.std.proofs.Common.{[], ◌∷◌, map, take, arith}
use Rattle.amf_wire.specs.Style.{canonical}
use Rattle.amf_packet.specs.Content.{header_of}
use Rattle.amf_packet.specs.Packet.{Header, Each, HeaderBy, ListBy}
use Rattle.amf_packet.specs.WriteParts.{FitTexts, header_bodies, LacksFirst, LacksHere}
use Rattle.amf_packet.proofs.WriteJoins.{each_none, memory_ended, part_ended, appends_grow, grows_then}
use Rattle.amf_packet.proofs.WriteLacks.{header_spelled}
use Rattle.amf_packet.proofs.WriteLists.{next_written, item_lacks, item_of, all_written}
use Rattle.amf_packet.proofs.write_parts.append_headers.Goals as goal

pub returns-in_err-append_number-clause-writes : goal.returns-in_err-append_number-clause-writes
returns-in_err-append_number-clause-writes c = memory_ended (ListBy (HeaderBy canonical) (map header_of c.args.headers.now)) (LacksFirst 0 (header_bodies (map header_of c.args.headers.now))) c.args.out.now.items c.append_number.new.out.items c.from_residual.result c.from_residual.ensures.1

pub loop-place-init : goal.loop-place-init
loop-place-init c = each_none (HeaderBy canonical) c.append_number.new.out.items

pub append_header-requires : goal.append_header-requires
append_header-requires c = item_of header_of c.args.headers.now c.loop-place.place c.index-headers-place.result (omega arith) c.index-headers-place.is (λ (h : Header). h.name ∷ []) FitTexts c.requires.texts

pub returns-in_err-append_header-clause-writes : goal.returns-in_err-append_header-clause-writes
returns-in_err-append_header-clause-writes c =
    let k = c.index-headers-place.result in
    let r = c.from_residual-in_err-append_header in
    part_ended (HeaderBy canonical (header_of k)) (ListBy (HeaderBy canonical) (map header_of c.args.headers.now)) (LacksHere (header_of k).body (c.loop-place.place)) (LacksFirst 0 (header_bodies (map header_of c.args.headers.now)))
    c.loop-place.out.items c.append_header.new.out.items c.args.out.now.items c.append_header.new.out.items c.in_err-append_header.field-0.0 r.result r.ensures.1
    (item_lacks header_of c.args.headers.now c.loop-place.place c.index-headers-place.result (omega arith) c.index-headers-place.is (HeaderBy canonical) (λ (h : Header). h.body) header_spelled 0 (c.loop-place.place) (omega arith) c.append_number.new.out.items c.loop-place.out.items c.loop-place.invariant)
    c.in_err-append_header.ensures.writes

pub loop-place-preserved : goal.loop-place-preserved
loop-place-preserved c = next_written header_of c.args.headers.now c.loop-place.place c.index-headers-place.result (omega arith) c.index-headers-place.is (HeaderBy canonical) c.append_number.new.out.items c.loop-place.out.items c.append_header.new.out.items c.loop-place.invariant c.in_ok-append_header.ensures.writes

pub returns-clause-writes : goal.returns-clause-writes
returns-clause-writes c = all_written header_of (HeaderBy canonical) c.args.headers.now _ c.loop-place.place c.args.out.now.items c.append_number.new.out.items c.loop-place.out.items (omega arith) (omega arith) c.in_ok-append_number.ensures.count c.loop-place.invariant

pub returns-in_err-append_header-clause-grows : goal.returns-in_err-append_header-clause-grows
returns-in_err-append_header-clause-grows c = grows_then c.args.out.now.items c.loop-place.out.items c.append_header.new.out.items (grows_then c.args.out.now.items c.append_number.new.out.items c.loop-place.out.items c.in_ok-append_number.ensures.grows (appends_grow (Each (HeaderBy canonical) (map header_of (take c.loop-place.place c.args.headers.now))) c.append_number.new.out.items c.loop-place.out.items c.loop-place.invariant)) c.in_err-append_header.ensures.grows

pub returns-clause-grows : goal.returns-clause-grows
returns-clause-grows c = grows_then c.args.out.now.items c.append_number.new.out.items c.loop-place.out.items c.in_ok-append_number.ensures.grows (appends_grow (Each (HeaderBy canonical) (map header_of (take c.loop-place.place c.args.headers.now))) c.append_number.new.out.items c.loop-place.out.items c.loop-place.invariant)
