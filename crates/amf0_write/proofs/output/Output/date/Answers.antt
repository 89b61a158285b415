use Rattle.std.proofs.Common.{◌∷◌, ◌++◌, []}
use Rattle.std.specs.Int.{to_be_bytes, w64}
use Rattle.amf0_write.specs.Writes0.{date_bytes}
use Rattle.amf0_write.proofs.Leading0.{adds_then, loosely}
use Rattle.amf0_write.proofs.Runs0.{on_ok}
use Rattle.amf0_write.proofs.output.Output.date.Goals as goal

pub returns-clause-adds : goal.returns-clause-adds
returns-clause-adds c =
    let p = c.args.milliseconds.0 in
    let m = c.enter_loose.new.self in
    let e = c.in_ok-enter_loose.ensures in
    on_ok c.raw.result (λ h.
    loosely c.args.node (date_bytes p) c.args.self.now m c.raw.new.self e.ok e.loose e.bytes
    (adds_then (0x0B ∷ []) (to_be_bytes w64 p ++ 0 ∷ 0 ∷ []) m c.byte.new.self c.raw.new.self c.in_ok-byte.ensures.adds
    (adds_then (to_be_bytes w64 p) (0 ∷ 0 ∷ []) c.byte.new.self c.double.new.self c.raw.new.self c.in_ok-double.ensures.adds h))) c.raw.ensures.adds
