use Rattle.std.proofs.Common.{arith}
use Rattle.amf_graph.specs.declared.value.Value.TheVariants.{Undefined}
use Rattle.amf_graph.specs.Arena.{Names}
use Rattle.amf_graph.proofs.Copies.{entry_at}
use Rattle.amf_text_draft_tests.proofs.shown.put_entries.Goals as goal

pub put_value-requires : goal.put_value-requires
put_value-requires g c = (entry_at (Names c.args.graph.now.arena) c.args.entries.now c.loop-place.place (Undefined, Undefined) c.requires (omega arith)).0

pub put_value-requires-in-loop-place : goal.put_value-requires-in-loop-place
put_value-requires-in-loop-place g c = (entry_at (Names c.args.graph.now.arena) c.args.entries.now c.loop-place.place (Undefined, Undefined) c.requires (omega arith)).1
