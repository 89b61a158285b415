use Rattle.amf_cli.proofs.ServeLaws.{came_counts, came_to, ends_serve, front_counts}
use Rattle.amf_cli.proofs.serving.serve_links.Goals as goal

pub returns-clause-served : goal.returns-clause-served
returns-clause-served g c = came_to _ _ _ _ _ _ _ c.serve-answer.result _ (rw c.from.ensures at c.serve-answer.ensures) c.conclude.ensures.ends

pub returns-clause-ends : goal.returns-clause-ends
returns-clause-ends g c = ends_serve _ _ _ _ _ _ c.serve-answer.result _ c.conclude.ensures.ends

pub returns-clause-faults : goal.returns-clause-faults
returns-clause-faults g c = front_counts _ _ _ _ _ _ _ _ c.serve-answer.result _ (came_counts _ _ _ _ _ _ _ _ _ _ c.serve-answer.ensures) c.conclude.ensures.ends
