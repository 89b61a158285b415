use Rattle.std.proofs.Common.{arith}
use Rattle.amf_graph.specs.declared.value.Value.TheVariants.{Undefined}
use Rattle.amf_graph.specs.Arena.{Names}
use Rattle.amf_graph.proofs.Alls.{all_at}
use Rattle.amf_text_draft_tests.proofs.shown.put_values.Goals as goal

pub put_value-requires : goal.put_value-requires
put_value-requires g c = all_at (Names c.args.graph.now.arena) c.args.values.now c.loop-place.place Undefined (omega arith) c.requires
