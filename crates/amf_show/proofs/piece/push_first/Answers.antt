use Rattle.std.proofs.Common.{arith}
use Rattle.amf_show.proofs.Cuts.{first_behind}
use Rattle.amf_show.proofs.piece.push_first.Goals as goal

pub returns : goal.returns
returns c = first_behind c.args.out.now.items _ c.truncate.new.self.items c.args.bytes _ c.args.len (omega (arith, c.args.out.now.ok.0)) c.in_ok-extend_from_slice.ensures.items c.truncate.ensures.items
