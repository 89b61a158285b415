use Rattle.std.proofs.Common.{◌∷◌, ◌++◌, [], ℕ, List, length, sym, subst}
use Rattle.std.specs.Int.{to_be_bytes, w16}
use Rattle.amf0_write.specs.Writes0.{Adds}
use Rattle.amf0_write.proofs.Leading0.{adds_then}
use Rattle.amf0_write.proofs.MetValues0.{none_from, some_from}
use Rattle.amf0_write.proofs.Opening0.{front_none, front_some}
use Rattle.amf0_write.proofs.Runs0.{on_ok}
use Rattle.amf0_write.proofs.output.Output.object_front.Goals as goal

pub returns-then-is_empty-clause-adds : goal.returns-then-is_empty-clause-adds
returns-then-is_empty-clause-adds c =
    let x = c.args.class.now in
    let none = none_from x c.is_empty.result c.is_empty.ensures c.if-is_empty.true in
    on_ok c.byte.result (λ h. subst (λ (b : List ℕ). Adds b c.args.self.now c.byte.new.self) (sym (front_none x none)) h) c.byte.ensures.adds

pub returns-clause-adds : goal.returns-clause-adds
returns-clause-adds c =
    let x = c.args.class.now in
    let some = some_from x c.is_empty.result c.is_empty.ensures c.if-is_empty.false in
    on_ok c.short.result (λ h.
    subst (λ (b : List ℕ). Adds b c.args.self.now c.short.new.self) (sym (front_some x some))
    (adds_then (0x10 ∷ []) (to_be_bytes w16 (length x) ++ x) c.args.self.now c.byte-2.new.self c.short.new.self c.in_ok-byte.ensures.adds h)) c.short.ensures.adds
