use Rattle.std.proofs.Common.{◌<◌, length, arith, append_assoc, refl}
use Rattle.amf_graph.specs.declared.value.Value.TheVariants.{Undefined}
use Rattle.amf_graph.proofs.HeldParts.{entry_more}
use Rattle.amf_graph.proofs.reach.push_entries.Goals as goal

pub loop-key-preserved : goal.loop-key-preserved
loop-key-preserved c =
    let within : c.loop-key.key-index < length c.args.entries.now = omega arith in
    let more = entry_more c.args.entries.now c.loop-key.key-index (Undefined, Undefined) within in
    rw (c.in_ok-push-2.ensures.items, c.in_ok-push.ensures.items, c.loop-key.invariant, more, append_assoc, append_assoc) refl
