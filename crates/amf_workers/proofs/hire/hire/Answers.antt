use Rattle.std.proofs.Common.{◌≡◌, ◌+◌, ◌*◌, ◌^◌, ℕ, false, List, length, vec_len, refl, sym, ◌∙◌, subst, arith, rules}
use Rattle.amf_gateway.specs.declared.worker.WorkerEnd.TheVariants.{Done}
use Rattle.amf_workers.specs.declared.hired_worker.HiredWorker.{HiredWorker}
use Rattle.amf_workers.proofs.Hiring.{none_there, SoFar, as_many, none_hired, one_hired, all_hired}
use Rattle.amf_workers.proofs.hire.hire.Goals as goal

pub returns-in_default-clause-desk : goal.returns-in_default-clause-desk
returns-in_default-clause-desk g c = (refl, refl, c.requires.first.0)

pub returns-in_default-clause-back : goal.returns-in_default-clause-back
returns-in_default-clause-back g c = search rules

pub loop-hall-init : goal.loop-hall-init
loop-hall-init g c =
    let len = c.in-Ok.ensures.len in let room = c.in-Ok.ensures.capacity in let same = c.reverse.ensures.len in record {
      so_far = none_hired _ _ _ _ c.reverse.ensures.items c.in-Ok.ensures.items c.requires.first.0 c.requires.first.1;
      number = omega arith;
      total = omega arith;
      room = omega arith;
    }

pub split-pass-requires-clause-desk : goal.split-pass-requires-clause-desk
split-pass-requires-clause-desk g c = c.loop-hall.invariant.so_far.desk ∙ c.requires.desk

pub split-pass-requires-clause-first : goal.split-pass-requires-clause-first
split-pass-requires-clause-first g c = c.loop-hall.invariant.so_far.number

pub split-pass-requires-clause-share : goal.split-pass-requires-clause-share
split-pass-requires-clause-share g c =
    let inv = c.loop-hall.invariant in let s = inv.so_far in let b = s.budget in let m = as_many c.args.first.now 1 s.done c.loop-hall.hired_workers.items s.hired in
    let n : length c.loop-hall.hired_workers.items ≡ vec_len c.loop-hall.hired_workers = search rules in let t = inv.total in let few = c.requires.room.0 in let most = c.requires.room.1 in
    let one : vec_len c.pop.new.self + 1 ≡ vec_len c.loop-hall.halls = c.in-Some.ensures.len in omega arith

pub push_reserved-requires : goal.push_reserved-requires
push_reserved-requires g c = let room = c.loop-hall.invariant.room in let one : vec_len c.pop.new.self + 1 ≡ vec_len c.loop-hall.halls = c.in-Some.ensures.len in omega arith

pub overflow_add-number : goal.overflow_add-number
overflow_add-number g c = let inv = c.loop-hall.invariant in let n = inv.number in let t = inv.total in let few = c.requires.room.0 in omega arith

pub loop-hall-smaller : goal.loop-hall-smaller
loop-hall-smaller g c = let one : vec_len c.pop.new.self + 1 ≡ vec_len c.loop-hall.halls = c.in-Some.ensures.len in omega arith

pub loop-hall-preserved : goal.loop-hall-preserved
loop-hall-preserved g c =
    let inv = c.loop-hall.invariant in let s = inv.so_far in let push = c.push_reserved.ensures in let split = c.split-pass.ensures in
    let b = s.budget in let m = as_many c.args.first.now 1 s.done c.loop-hall.hired_workers.items s.hired in
    let n : length c.loop-hall.hired_workers.items ≡ vec_len c.loop-hall.hired_workers = search rules in let t = inv.total in let few = c.requires.room.0 in let most = c.requires.room.1 in
    let one : vec_len c.pop.new.self + 1 ≡ vec_len c.loop-hall.halls = c.in-Some.ensures.len in
    let hired : HiredWorker g.row.H.Denot g.row.H-Link.Denot = record { worker = c.keyed.result; end = Done false } in
    let number = inv.number in let room = inv.room in let longer = push.len in let same = push.capacity in record {
      so_far = subst (λ (l : List (HiredWorker g.row.H.Denot g.row.H-Link.Denot)). SoFar c.args.first.now c.split-pass.new.pass c.args.halls.items c.pop.new.self.items l) (sym push.items)
          (one_hired c.args.first.now c.loop-hall.first c.split-pass.new.pass c.split-pass.result c.args.halls.items c.loop-hall.halls.items c.pop.new.self.items c.loop-hall.hired_workers.items c.in-Some.hall hired s c.in-Some.ensures.items (omega arith) split.old split.new split.fresh c.keyed.ensures.pass c.keyed.ensures.hall);
      number = omega arith;
      total = omega arith;
      room = omega arith;
    }

pub destroy_empty-requires : goal.destroy_empty-requires
destroy_empty-requires g c = (none_there c.pop.result (vec_len c.loop-hall.halls) (vec_len c.pop.new.self) c.pop.ensures.cases c.in_default-pop.not-Some).1

pub returns-clause-desk : goal.returns-clause-desk
returns-clause-desk g c = let s = c.loop-hall.invariant.so_far in (s.desk, s.destinations, s.number)

pub returns-clause-hired_workers : goal.returns-clause-hired_workers
returns-clause-hired_workers g c =
    let len : length c.loop-hall.halls.items ≡ vec_len c.loop-hall.halls = search rules in let many : length c.args.halls.items ≡ vec_len c.args.halls = search rules in
    let all = all_hired c.args.first.now c.loop-hall.first c.args.halls.items c.loop-hall.halls.items c.loop-hall.hired_workers.items c.loop-hall.invariant.so_far (len ∙ (none_there c.pop.result (vec_len c.loop-hall.halls) (vec_len c.pop.new.self) c.pop.ensures.cases c.in_default-pop.not-Some).0) in
    (all.0, subst (λ (k : ℕ). c.loop-hall.first.budget + k * 2 ^ 55 ≡ c.args.first.now.budget) many all.1)
