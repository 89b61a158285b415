use mir.Syntax.{of_param}
use Rattle.amf_workers.proofs.work.fn.work_all.for_each_mut.Goals as goal

pub work-requires-send-H : goal.work-requires-send-H
work-requires-send-H g c κs within = record { owned = c.requires.3.owned; leaving = λ k. c.requires.3.leaving (λ _. k (of_param 0)) }

pub work-requires-sync-G : goal.work-requires-sync-G
work-requires-sync-G g c κs within = record { shared = c.requires.4.shared }

pub work-requires-after_bounds : goal.work-requires-after_bounds
work-requires-after_bounds g c κs within = (c.requires.0, c.requires.1)

pub returns : goal.returns
returns g c = c.work.ensures
