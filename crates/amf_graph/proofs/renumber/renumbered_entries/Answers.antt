-- Each key and value is copied.
use Rattle.std.proofs.Common.{arith}
use Rattle.amf_graph.specs.declared.value.Value.TheVariants.{Undefined}
use Rattle.amf_graph.specs.Renumbered.{HasNumber, number_in}
use Rattle.amf_graph.proofs.Copies.{entry_at, copy_more}
use Rattle.amf_graph.proofs.renumber.renumbered_entries.Goals as goal

pub renumbered-requires : goal.renumbered-requires
renumbered-requires c = (entry_at (HasNumber c.args.numbers.now) c.args.entries.now c.loop-key.key-index (Undefined, Undefined) c.requires (omega arith)).0

pub renumbered-requires-in-loop-key : goal.renumbered-requires-in-loop-key
renumbered-requires-in-loop-key c = (entry_at (HasNumber c.args.numbers.now) c.args.entries.now c.loop-key.key-index (Undefined, Undefined) c.requires (omega arith)).1

pub loop-key-preserved : goal.loop-key-preserved
loop-key-preserved c =
    rw (c.in_ok-push.ensures.items, c.renumbered.ensures, c.renumbered-in-loop-key.ensures)
    (copy_more (number_in c.args.numbers.now) c.args.entries.now c.loop-key.copies.items c.loop-key.key-index (Undefined, Undefined) (omega arith) c.loop-key.invariant)
