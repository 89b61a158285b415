use Rattle.std.proofs.Common.{refl, ◌∙◌, arith}
use Rattle.amf_gateway.proofs.SoFar.{sofar_none, sofar_next, served_each, served_all, served_until, calls_told, counts_none, counts_more, counts_few, all_answered_more}
use Rattle.amf_gateway.proofs.worker.Worker.serve.Goals as goal

pub loop-init : goal.loop-init
loop-init g c = (sofar_none _ _ _ _ _, counts_none _ _ (omega arith), refl, refl, (λ e more. counts_none _ _ (omega arith)), c.requires.none_out)

pub returns-in-Ok-None-clause-served : goal.returns-in-Ok-None-clause-served
returns-in-Ok-None-clause-served g c =
    let e = c.in-Ok-None.ensures in
    served_all _ _ _ _ _ _ _ _ _ _ _ (omega arith) c.loop.invariant.0 (record { tells = e.tells; served = e.served; moments = e.moments; words = e.words }) (rw c.in-Ok-None.field-0-is at e.gives) e.cause

pub returns-in-Err-clause-served : goal.returns-in-Err-clause-served
returns-in-Err-clause-served g c =
    let e = c.in-Err.ensures in
    served_until _ _ _ _ _ _ _ _ _ _ _ (omega arith) c.loop.invariant.0 (record { tells = e.tells; served = e.served; moments = e.moments; words = e.words }) e.gives e.cause

pub returns-clause-served : goal.returns-clause-served
returns-clause-served g c = served_each _ _ _ _ _ _ _ _ _ _ (omega arith) c.loop.invariant.0

pub loop-preserved : goal.loop-preserved
loop-preserved g c =
    let e = c.in-Ok-Some.ensures in (
      rw c.either-starved.ensures (sofar_next _ _ _ _ _ _ _ _ _ _ _ c.in-Ok-Some.link _ _ c.loop.invariant.0 (record { tells = e.tells; served = e.served; moments = e.moments; words = e.words }) (rw c.in-Ok-Some.field-0-is at e.gives) e.cause c.serve_and_give_back-hungry.ensures.served),
      counts_more _ _ _ _ _ _ _ _ _ c.loop.invariant.0.pass c.serve_and_give_back-hungry.ensures.served.pass c.loop.invariant.1 c.serve_and_give_back-hungry.ensures.calls,
      c.serve_and_give_back-hungry.ensures.number ∙ c.loop.invariant.2,
      c.serve_and_give_back-hungry.ensures.keys ∙ c.loop.invariant.3,
      rw c.either-starved.ensures (all_answered_more _ _ _ _ _ _ _ _ _ _ c.loop.invariant.0.pass c.serve_and_give_back-hungry.ensures.served.pass c.loop.invariant.4 c.serve_and_give_back-hungry.ensures.all_answered),
      c.serve_and_give_back-hungry.ensures.served.none_out,
    )

pub returns-in-Ok-None-clause-calls : goal.returns-in-Ok-None-clause-calls
returns-in-Ok-None-clause-calls g c = counts_few _ _ _ _ _ (omega arith) c.loop.invariant.1

pub returns-in-Err-clause-calls : goal.returns-in-Err-clause-calls
returns-in-Err-clause-calls g c = counts_few _ _ _ _ _ (omega arith) c.loop.invariant.1

pub returns-clause-calls : goal.returns-clause-calls
returns-clause-calls g c = counts_few _ _ _ _ _ (omega arith) c.loop.invariant.1

pub returns-in-Ok-None-clause-calls_told : goal.returns-in-Ok-None-clause-calls_told
returns-in-Ok-None-clause-calls_told g c =
    let e = c.in-Ok-None.ensures in
    calls_told _ _ _ _ _ _ _ _ _ _ _ _ _ c.loop.invariant.0 e.tells e.served c.loop.invariant.1

pub returns-in-Err-clause-calls_told : goal.returns-in-Err-clause-calls_told
returns-in-Err-clause-calls_told g c =
    let e = c.in-Err.ensures in
    calls_told _ _ _ _ _ _ _ _ _ _ _ _ _ c.loop.invariant.0 e.tells e.served c.loop.invariant.1

pub returns-clause-calls_told : goal.returns-clause-calls_told
returns-clause-calls_told g c = calls_told _ _ _ _ _ _ _ _ _ _ _ _ _ c.loop.invariant.0 (λ t. t) (λ t. refl) c.loop.invariant.1

pub returns-in-Ok-None-clause-all_answered : goal.returns-in-Ok-None-clause-all_answered
returns-in-Ok-None-clause-all_answered g c = c.loop.invariant.4

pub returns-in-Err-clause-all_answered : goal.returns-in-Err-clause-all_answered
returns-in-Err-clause-all_answered g c = c.loop.invariant.4

pub returns-clause-all_answered : goal.returns-clause-all_answered
returns-clause-all_answered g c = c.loop.invariant.4
