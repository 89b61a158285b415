-- The stand-ins are what the nodes are in the lowering.
use Rattle.std.proofs.Common.{sym, subst}
use Rattle.std.specs.Prelude.{Result, Ok, Err, IfOk}
use Rattle.amf0_write.specs.Chained.{AreLow}
use Rattle.amf0_write.proofs.Lowers.{lowers}
use Rattle.amf0_write.proofs.lowering.lower.Goals as goal

ok_then : {T E : Type 0} (r : Result T E) (P Q : T → Type 0) → ((x : T) → P x → Q x) → IfOk r P → IfOk r Q
ok_then (Ok x) P Q f h = f x h
ok_then (Err e) P Q f h = tt

pub returns : goal.returns
returns c =
    let g = c.args.graph.now in
    let low = subst (AreLow g) (sym c.deref.ensures.value) c.in_ok-stand_ins.ensures in
    ok_then c.standing_in.result _ _ (λ h s. lowers g h c.deref.result.now low s c.is_finished.ensures.finished) c.standing_in.ensures
