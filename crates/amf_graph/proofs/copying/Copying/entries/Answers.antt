-- Each key and value is copied.
use Rattle.std.proofs.Common.{arith}
use Rattle.amf_graph.specs.declared.value.Value.TheVariants.{Undefined}
use Rattle.amf_graph.specs.Copying.{renaming_of, ValueCounted}
use Rattle.amf_graph.proofs.Copies.{entry_at}
use Rattle.amf_graph.proofs.Copied.{entry_more}
use Rattle.amf_graph.proofs.copying.Copying.entries.Goals as goal

pub value-requires : goal.value-requires
value-requires c = (entry_at (ValueCounted c.args.self.now) c.args.entries.now c.loop-key.key-index (Undefined, Undefined) c.requires (omega arith)).0

pub value-requires-in-loop-key : goal.value-requires-in-loop-key
value-requires-in-loop-key c = (entry_at (ValueCounted c.args.self.now) c.args.entries.now c.loop-key.key-index (Undefined, Undefined) c.requires (omega arith)).1

pub loop-key-preserved : goal.loop-key-preserved
loop-key-preserved c =
    rw (c.in_ok-push.ensures.items, c.value.ensures, c.value-in-loop-key.ensures)
    (entry_more (renaming_of c.args.self.now) c.args.entries.now c.loop-key.copies.items c.loop-key.key-index (Undefined, Undefined) (omega arith) c.loop-key.invariant)
