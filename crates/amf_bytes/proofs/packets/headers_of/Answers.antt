-- Each header is one more, up to all of them.
use Rattle.std.proofs.Common.{◌≡◌, [], map, sym, ◌∙◌}
use Rattle.std.proofs.lemmas.List.{nil_from_length}
use Rattle.amf_packet.specs.Content.{header_of as header_seen}
use Rattle.amf_text_pages.specs.Written.{header_written}
use Rattle.amf_json.specs.JsonTexts.{header_told}
use Rattle.amf_bytes.proofs.Mapped.{none_yet, one_pushed, all_of}
use Rattle.amf_bytes.proofs.packets.headers_of.Goals as goal

pub loop-header-init : goal.loop-header-init
loop-header-init c =
    none_yet header_told header_seen header_written c.new-headers.result.items c.into_iter-header-iterator.result.rest.items c.args.written.items c.new-headers.ensures.items c.into_iter-header-iterator.ensures.into_iter_gives.0

pub loop-header-preserved : goal.loop-header-preserved
loop-header-preserved c =
    one_pushed header_told header_seen header_written c.loop-header.headers.items c.push.new.self.items c.in_ok-header_of.field-0 c.in-Some.header c.loop-header.header-iterator.rest.items c.next.new.self.rest.items (map header_written c.args.written.items)
    c.loop-header.invariant c.in-Some.ensures.steps.0 c.in_ok-push.ensures.items c.in_ok-header_of.ensures

pub returns : goal.returns
returns c =
    let left = c.loop-header.header-iterator.rest in
    let none : left.items ≡ [] = nil_from_length left.items (sym left.ok.0 ∙ c.in-None.ensures.steps.0) in
    all_of header_told header_seen header_written c.loop-header.headers.items left.items (map header_written c.args.written.items) c.loop-header.invariant none
