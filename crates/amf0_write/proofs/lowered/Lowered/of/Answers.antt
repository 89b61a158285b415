use Rattle.amf0_write.specs.Stood.{stood}
use Rattle.amf0_write.proofs.Lowers.{lowers}
use Rattle.amf0_write.proofs.Standing.{stands}
use Rattle.amf0_write.proofs.lowered.Lowered.of.Goals as goal

pub returns : goal.returns
returns c =
    let g = c.args.graph.now in
    let ins = c.in_ok-stand_ins.stand_ins.items in
    let k = c.in_ok-stand_ins.ensures in
    let f = c.is_finished.ensures.finished in
    lowers g (stood ins g) ins k (stands g ins k.all f c.is_finished.ensures.names) f
