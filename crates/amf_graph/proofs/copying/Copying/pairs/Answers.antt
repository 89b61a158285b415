-- Each name and value is copied.
use Rattle.std.proofs.Common.{arith}
use Rattle.amf_graph.specs.declared.value.Value.TheVariants.{Undefined}
use Rattle.amf_graph.specs.Copying.{PairCounted}
use Rattle.amf_graph.proofs.Copied.{named_at}
use Rattle.amf_graph.proofs.copying.Copying.pairs.Goals as goal

pub text-requires : goal.text-requires
text-requires c = (named_at (PairCounted c.args.self.now) c.args.pairs.now c.loop-name.name-index (record { 0 = 0 }, Undefined) c.requires (omega arith)).0

pub value-requires : goal.value-requires
value-requires c = (named_at (PairCounted c.args.self.now) c.args.pairs.now c.loop-name.name-index (record { 0 = 0 }, Undefined) c.requires (omega arith)).1
