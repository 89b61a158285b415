use Rattle.amf0_write.proofs.MetValues0.{no_integer}
use Rattle.amf0_write.proofs.output.Output.plain.Goals as goal

pub unreachable-requires : goal.unreachable-requires
unreachable-requires c = no_integer c.args.graph.now c.args.value c.in-Integer.field-0 c.requires.low c.requires.met c.in-Integer.is
