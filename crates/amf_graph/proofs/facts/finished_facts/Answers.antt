-- The facts of finished arenas hold.
use Rattle.amf_graph.proofs.Finished.{finished}
use Rattle.amf_graph.proofs.FinishedSmall.{finished_small, completes_itself}
use Rattle.amf_graph.proofs.facts.finished_facts.Goals as goal

pub returns : goal.returns
returns c = record { whole = finished; small = finished_small; complete = completes_itself }
