-- The greatest number is forgotten until so many are left.
use Rattle.std.proofs.Common.{◌-◌, ◌∙◌, length, take, sym, ap, arith}
use Rattle.std.proofs.lemmas.List.{take-take, take_all, length-take}
use Rattle.amf_graph.proofs.texts.truncate_chains.Goals as goal

pub loop-chains-preserved : goal.loop-chains-preserved
loop-chains-preserved c =
    let n = c.len.ensures in
    let left = ap length c.pop.ensures ∙ length-take (length c.loop-chains.chains - 1) c.loop-chains.chains in
    record {
      enough = omega arith;
      front = ap (take c.args.count) c.pop.ensures ∙ take-take c.args.count (length c.loop-chains.chains - 1) c.loop-chains.chains (omega arith) ∙ c.loop-chains.invariant.front;
    }

pub returns : goal.returns
returns c =
    let n = c.len.ensures in
    sym (take_all c.args.count c.loop-chains.chains (omega arith)) ∙ c.loop-chains.invariant.front
