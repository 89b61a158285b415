use Rattle.std.proofs.Common.{List, subst, rules}
use Rattle.std.specs.Prelude.{slice_index_or}
use Rattle.amf_service.specs.Registry.{Entry}
use Rattle.amf_answer_plan.specs.Services.{services_by}
use Rattle.amf_gateway.specs.Tells.{HallMembers, of_hall}
use Rattle.amf_workers.specs.declared.hired_worker.HiredWorker.{HiredWorker}
use Rattle.amf_workers.specs.HiredWorkers.{HiredServed}
use Rattle.amf_workers.proofs.work.work_all.Goals as goal

pub for_each_mut-requires-clause-threads : goal.for_each_mut-requires-clause-threads
for_each_mut-requires-clause-threads g c κs within = search rules

pub returns : goal.returns
returns g c =
    let hall : HallMembers g.row.H.Denot g.row.H-Link.Denot = of_hall g.H.Hall g.H.Clock g.H.Dice in
    let services : List Entry = services_by c.args.registry.now.services.entries (λ x. x.items) (λ s. (goal.Service-dyn g (s.vtable, s.value)).knows s.value) (λ s. (goal.Service-dyn g (s.vtable, s.value)).gives s.value) in (
      search rules,
      λ i d less.
          let a = (c.for_each_mut.ensures i d less).1 in
          subst (λ (y : HiredWorker g.row.H.Denot g.row.H-Link.Denot). HiredServed hall g.H.Link.Link services c.args.each (slice_index_or c.args.hired_workers.now i d) y) a.left
          (subst (λ (x : HiredWorker g.row.H.Denot g.row.H-Link.Denot). HiredServed hall g.H.Link.Link services c.args.each x a.after_call.now) a.argument_is a.call),
    )
