use Rattle.std.proofs.Common.{◌≡◌, ◌+◌, ◌*◌, ◌^◌, ◌<◌, ℕ, false, List, length, get_or, vec_len, ap, sym, refl, ◌∙◌, subst, arith, rules}
use Rattle.std.specs.List.{AllByRecursion}
use Rattle.amf_desk.specs.Passes.{Held}
use Rattle.amf_workers.specs.declared.hired_worker.HiredWorker.{HiredWorker}
use Rattle.amf_workers.specs.Gathered.{TookBack}
use Rattle.amf_workers.specs.HiredWorkers.{CanJoin}
use Rattle.amf_workers.proofs.Hiring.{one_desk, hall_holds}
use Rattle.amf_workers.proofs.Whole.{written_back, join_all, halls_served}
use Rattle.amf_workers.proofs.serving.serve_halls.Goals as goal

pub hire-requires-clause-desk : goal.hire-requires-clause-desk
hire-requires-clause-desk g c κs within = ap (λ (p : Held). p.desk) c.requires.first

pub hire-requires-clause-first : goal.hire-requires-clause-first
hire-requires-clause-first g c κs within = (ap (λ (p : Held). p.number) c.requires.first, ap (λ (p : Held). p.splits) c.requires.first)

pub hire-requires-clause-room : goal.hire-requires-clause-room
hire-requires-clause-room g c κs within = (c.requires.few, (let b = ap (λ (p : Held). p.budget) c.requires.first in omega arith))

pub returns-in-Err : goal.returns-in-Err
returns-in-Err g c = subst (TookBack g.F.Front g.F.Hall.Hall.faults c.args.front.now c.give_back.new.front) c.in-Err.ensures.back c.give_back.ensures

pub work_all-requires-after_bounds : goal.work_all-requires-after_bounds
work_all-requires-after_bounds g c κs within = λ k d lt.
    subst (λ (l : List (HiredWorker g.row.F-Hall.Denot g.row.F-Hall-Link.Denot)). k < length l → ((get_or l k d).worker.pass.desk ≡ c.args.desk) × (g.F.Hall.Hall.is_out (get_or l k d).worker.hall ≡ false)) (sym c.as_mut_slice.ensures.value)
    (λ less. (
      one_desk c.args.first 1 c.args.halls.items c.in-Ok.hired_workers.items c.in-Ok.ensures.hired_workers.0 k d less ∙ ap (λ (p : Held). p.desk) c.requires.first,
      hall_holds c.args.first (λ h. g.F.Hall.Hall.is_out h ≡ false) 1 c.args.halls.items c.in-Ok.hired_workers.items c.in-Ok.ensures.hired_workers.0 c.requires.none_out k d less,
    )) lt

pub gather-ends-requires-clause-desk : goal.gather-ends-requires-clause-desk
gather-ends-requires-clause-desk g c κs within = c.hire.ensures.desk.0 ∙ ap (λ (p : Held). p.desk) c.requires.first

pub gather-ends-requires-clause-workers : goal.gather-ends-requires-clause-workers
gather-ends-requires-clause-workers g c κs within =
    let len : c.in-Ok.hired_workers.len ≡ length c.in-Ok.hired_workers.items = search rules in
    let same : length c.work_all.new.hired_workers ≡ length c.in-Ok.hired_workers.items = c.work_all.ensures.0 ∙ ap length c.as_mut_slice.ensures.value in
    subst (AllByRecursion (CanJoin c.hire.new.first)) (sym (written_back c.work_all.new.hired_workers c.in-Ok.hired_workers.items c.in-Ok.hired_workers.len same len))
    (join_all _ _ _ _ c.args.first c.hire.new.first c.args.halls.items c.in-Ok.hired_workers.items c.as_mut_slice.result.now c.work_all.new.hired_workers c.hire.ensures.desk.0 c.in-Ok.ensures.hired_workers.0 c.as_mut_slice.ensures.value c.work_all.ensures)

pub close-requires-clause-desk : goal.close-requires-clause-desk
close-requires-clause-desk g c = c.gather-ends.ensures.passes.desk ∙ (c.hire.ensures.desk.0 ∙ ap (λ (p : Held). p.desk) c.requires.first)

pub close-requires-clause-budget : goal.close-requires-clause-budget
close-requires-clause-budget g c =
    let b = ap (λ (p : Held). p.budget) c.requires.first in let left = c.in-Ok.ensures.hired_workers.1 in let whole = c.gather-ends.ensures.passes.budget in let few = c.requires.few in omega arith

pub returns : goal.returns
returns g c =
    let b = ap (λ (p : Held). p.budget) c.requires.first in let left = c.in-Ok.ensures.hired_workers.1 in
    let many : vec_len c.args.halls ≡ length c.args.halls.items = search rules in
    let budget : c.hire.new.first.budget + length c.args.halls.items * 2 ^ 55 ≡ 2 ^ 62 = subst (λ (k : ℕ). c.hire.new.first.budget + k * 2 ^ 55 ≡ 2 ^ 62) many (omega arith) in
    let len : c.in-Ok.hired_workers.len ≡ length c.in-Ok.hired_workers.items = search rules in
    let same : length c.work_all.new.hired_workers ≡ length c.in-Ok.hired_workers.items = c.work_all.ensures.0 ∙ ap length c.as_mut_slice.ensures.value in
    halls_served _ _ _ _ _ _ _ c.args.first c.hire.new.first c.gather-ends.new.first c.args.halls.items c.in-Ok.hired_workers.items c.as_mut_slice.result.now c.work_all.new.hired_workers _ c.close.result _ _
    (ap (λ (p : Held). p.destinations) c.requires.first) c.in-Ok.ensures.hired_workers.0 c.requires.whole c.requires.fresh c.as_mut_slice.ensures.value c.work_all.ensures c.hire.ensures.desk.1 budget
    (written_back c.work_all.new.hired_workers c.in-Ok.hired_workers.items c.in-Ok.hired_workers.len same len) c.gather-ends.ensures.passes c.close.ensures c.gather-ends.ensures.halls c.gather-ends.ensures.starved c.gather-ends.ensures.faulty
