use Rattle.std.proofs.Common.{◌≡◌, ◌+◌, length, vec_len, ◌∙◌, arith, rules}
use Rattle.amf_workers.proofs.Hiring.{none_there}
use Rattle.amf_workers.proofs.TakenIn.{took_one, halls_none, halls_next, halls_all}
use Rattle.amf_workers.proofs.gather.give_back.Goals as goal

pub loop-unserved-init : goal.loop-unserved-init
loop-unserved-init g c = halls_none _ _ _ _ _ c.reverse.ensures.items

pub loop-unserved-smaller : goal.loop-unserved-smaller
loop-unserved-smaller g c = let b : vec_len c.pop.new.self + 1 ≡ vec_len c.loop-unserved.halls = c.in-Some.ensures.len in omega arith

pub loop-unserved-preserved : goal.loop-unserved-preserved
loop-unserved-preserved g c =
    let e = c.back.ensures in
    halls_next _ _ _ _ _ _ _ _ c.in-Some.unserved c.loop-unserved.invariant c.in-Some.ensures.items (took_one _ _ _ _ _ e.tells e.asked e.to_open e.back e.cause)

pub destroy_empty-requires : goal.destroy_empty-requires
destroy_empty-requires g c = (none_there c.pop.result (vec_len c.loop-unserved.halls) (vec_len c.pop.new.self) c.pop.ensures.cases c.in_default.not-Some).1

pub returns : goal.returns
returns g c = let len : length c.loop-unserved.halls.items ≡ vec_len c.loop-unserved.halls = search rules in halls_all _ _ _ _ _ _ c.loop-unserved.invariant (len ∙ (none_there c.pop.result (vec_len c.loop-unserved.halls) (vec_len c.pop.new.self) c.pop.ensures.cases c.in_default.not-Some).0)
