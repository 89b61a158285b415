use Rattle.std.proofs.Common.{◌≡◌, ◌+◌, length, reverse, vec_len, refl, ◌∙◌, arith, rules}
use Rattle.amf_workers.specs.HiredWorkers.{CanJoin}
use Rattle.amf_workers.proofs.Hiring.{none_there, popped, of_popped}
use Rattle.amf_workers.proofs.TakenIn.{none_taken, one_taken, all_taken}
use Rattle.amf_workers.proofs.gather.gather.Goals as goal

pub loop-hired_worker-init : goal.loop-hired_worker-init
loop-hired_worker-init g c = none_taken _ _ _ _ _ _ _ c.reverse.ensures.items refl refl

pub take_in-end-requires-clause-desk : goal.take_in-end-requires-clause-desk
take_in-end-requires-clause-desk g c κs within = c.loop-hired_worker.invariant.passes.desk ∙ c.requires.desk

pub take_in-end-requires-clause-worker : goal.take_in-end-requires-clause-worker
take_in-end-requires-clause-worker g c κs within =
    let s = c.loop-hired_worker.invariant in
    let parts = popped c.args.hired_workers.items s.done c.loop-hired_worker.hired_workers.items c.pop.new.self.items c.in-Some.hired_worker s.parts c.in-Some.ensures.items in
    let can : CanJoin c.args.first.now c.in-Some.hired_worker = of_popped (CanJoin c.args.first.now) c.args.hired_workers.items s.done (reverse c.pop.new.self.items) c.in-Some.hired_worker c.requires.workers parts in
    (can.0 ∙ c.requires.desk, can.1)

pub loop-hired_worker-smaller : goal.loop-hired_worker-smaller
loop-hired_worker-smaller g c = let b : vec_len c.pop.new.self + 1 ≡ vec_len c.loop-hired_worker.hired_workers = c.in-Some.ensures.len in omega arith

pub loop-hired_worker-preserved : goal.loop-hired_worker-preserved
loop-hired_worker-preserved g c =
    let e = c.take_in-end.ensures in
    one_taken _ _ _ _ _ _ _ _ _ _ _ _ _ c.in-Some.hired_worker c.take_in-end.result c.loop-hired_worker.invariant c.in-Some.ensures.items e.pass e.hall e.end c.and-ends.ensures.starved c.and-ends.ensures.faulty

pub destroy_empty-requires : goal.destroy_empty-requires
destroy_empty-requires g c = (none_there c.pop.result (vec_len c.loop-hired_worker.hired_workers) (vec_len c.pop.new.self) c.pop.ensures.cases c.in_default.not-Some).1

pub returns-clause-passes : goal.returns-clause-passes
returns-clause-passes g c = let len : length c.loop-hired_worker.hired_workers.items ≡ vec_len c.loop-hired_worker.hired_workers = search rules in (all_taken _ _ _ _ _ _ _ _ _ c.loop-hired_worker.invariant (len ∙ (none_there c.pop.result (vec_len c.loop-hired_worker.hired_workers) (vec_len c.pop.new.self) c.pop.ensures.cases c.in_default.not-Some).0)).0

pub returns-clause-halls : goal.returns-clause-halls
returns-clause-halls g c = let len : length c.loop-hired_worker.hired_workers.items ≡ vec_len c.loop-hired_worker.hired_workers = search rules in (all_taken _ _ _ _ _ _ _ _ _ c.loop-hired_worker.invariant (len ∙ (none_there c.pop.result (vec_len c.loop-hired_worker.hired_workers) (vec_len c.pop.new.self) c.pop.ensures.cases c.in_default.not-Some).0)).1

pub returns-clause-starved : goal.returns-clause-starved
returns-clause-starved g c = let len : length c.loop-hired_worker.hired_workers.items ≡ vec_len c.loop-hired_worker.hired_workers = search rules in (all_taken _ _ _ _ _ _ _ _ _ c.loop-hired_worker.invariant (len ∙ (none_there c.pop.result (vec_len c.loop-hired_worker.hired_workers) (vec_len c.pop.new.self) c.pop.ensures.cases c.in_default.not-Some).0)).2

pub returns-clause-faulty : goal.returns-clause-faulty
returns-clause-faulty g c = let len : length c.loop-hired_worker.hired_workers.items ≡ vec_len c.loop-hired_worker.hired_workers = search rules in (all_taken _ _ _ _ _ _ _ _ _ c.loop-hired_worker.invariant (len ∙ (none_there c.pop.result (vec_len c.loop-hired_worker.hired_workers) (vec_len c.pop.new.self) c.pop.ensures.cases c.in_default.not-Some).0)).3
