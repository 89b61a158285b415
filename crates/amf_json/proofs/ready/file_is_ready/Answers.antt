use Rattle.std.proofs.Common.{subst}
use Rattle.amf_graph.specs.Rooted.{RootedArena, content}
use Rattle.amf_json.specs.Ready.{IsReadyGraph}
use Rattle.amf_json.proofs.ReadyInputs.{stored_ready}
use Rattle.amf_json.proofs.ready.file_is_ready.Goals as goal

pub returns : goal.returns
returns c = stored_ready c.args.file.now c.is_stored.ensures (subst (λ (g : RootedArena). IsReadyGraph (content g)) c.holder.ensures c.value_is_ready.ensures)
