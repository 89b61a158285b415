use Rattle.std.proofs.Common.{◌∷◌, ◌++◌, [], length}
use Rattle.std.specs.Int.{to_be_bytes, w32}
use Rattle.amf0_write.specs.Writes0.{document_bytes}
use Rattle.amf0_write.proofs.Leading0.{adds_then, loosely}
use Rattle.amf0_write.proofs.Runs0.{on_ok}
use Rattle.amf0_write.proofs.output.Output.document.Goals as goal

pub returns-clause-adds : goal.returns-clause-adds
returns-clause-adds c =
    let x = c.args.text.now in
    let m = c.enter_loose.new.self in
    let e = c.in_ok-enter_loose.ensures in
    on_ok c.long.result (λ h.
    loosely c.args.node (document_bytes x) c.args.self.now m c.long.new.self e.ok e.loose e.bytes
    (adds_then (0x0F ∷ []) (to_be_bytes w32 (length x) ++ x) m c.byte.new.self c.long.new.self c.in_ok-byte.ensures.adds h)) c.long.ensures.adds
