use Rattle.std.proofs.Common.{[], ◌∷◌, map, take, subst, arith}
use Rattle.amf_packet.specs.Content.{header_of}
use Rattle.amf_packet.specs.Packet.{Header}
use Rattle.amf_json.specs.TextParts.{TellHeaders}
use Rattle.amf_json.proofs.TextParts.{one_more, all_taken, texts_at}
use Rattle.amf_json.proofs.packet.put_headers.Goals as goal

pub loop-header-init : goal.loop-header-init
loop-header-init c = λ layout t. ([], tt, t)

pub put_header-requires : goal.put_header-requires
put_header-requires c = (texts_at (λ (h : Header). h.name ∷ []) header_of c.args.headers.now c.loop-header.header-index c.header-item.result (omega arith) c.header-item.is c.requires).0

pub loop-header-preserved : goal.loop-header-preserved
loop-header-preserved c = λ layout t.
    subst (λ l. TellHeaders layout l c.put_header.new.texts) (one_more header_of c.args.headers.now c.loop-header.header-index c.header-item.result (omega arith) c.header-item.is)
    (c.in_ok-put_header.ensures layout (map header_of (take c.loop-header.header-index c.args.headers.now)) (c.loop-header.invariant layout t))

pub returns : goal.returns
returns c = λ layout t. all_taken header_of (λ l. TellHeaders layout l c.loop-header.texts) c.args.headers.now c.loop-header.header-index (omega arith) (c.loop-header.invariant layout t)
