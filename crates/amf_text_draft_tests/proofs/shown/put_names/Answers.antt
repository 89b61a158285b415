use Rattle.std.proofs.Common.{arith}
use Rattle.amf_graph.specs.Arena.{IsTextId}
use Rattle.amf_graph.proofs.Copied.{id_at}
use Rattle.amf_text_draft_tests.proofs.shown.put_names.Goals as goal

pub text-requires : goal.text-requires
text-requires g c = id_at (IsTextId c.args.graph.now.arena) c.args.names.now c.loop-place.place _ c.requires (omega arith)
