use Rattle.std.proofs.Common.{arith}
use Rattle.rtmp_chunks.specs.declared.parts.Open.{Open}
use Rattle.rtmp_listing.proofs.LinesMade.{one_line_more}
use Rattle.rtmp_listing.proofs.lines.push_open_lines.Goals as goal

pub loop-one-preserved : goal.loop-one-preserved
loop-one-preserved c =
    let none : Open = record { id = 0; got = 0; of = 0 } in
    one_line_more c.args.unfinished.now c.loop-one.one-index none c.args.out.now.items c.loop-one.out.items c.push_open_line.new.out.items (omega arith) c.loop-one.invariant c.in_ok-push_open_line.ensures
