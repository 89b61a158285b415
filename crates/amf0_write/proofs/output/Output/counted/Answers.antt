use Rattle.std.proofs.Common.{◌∷◌, []}
use Rattle.std.specs.Int.{to_be_bytes, w32}
use Rattle.amf0_write.proofs.Leading0.{adds_then}
use Rattle.amf0_write.proofs.Runs0.{on_ok}
use Rattle.amf0_write.proofs.output.Output.counted.Goals as goal

pub returns-clause-adds : goal.returns-clause-adds
returns-clause-adds c =
    on_ok c.count.result (λ h.
    adds_then (c.args.marker ∷ []) (to_be_bytes w32 c.args.count) c.args.self.now c.byte.new.self c.count.new.self c.in_ok-byte.ensures.adds h) c.count.ensures.adds
