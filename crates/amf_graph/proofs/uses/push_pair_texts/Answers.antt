-- One pair more.
use Rattle.amf_graph.specs.declared.value.Value.TheVariants.{Undefined}
use Rattle.amf_graph.proofs.Used.{pairs_behind}
use Rattle.amf_graph.proofs.uses.push_pair_texts.Goals as goal

pub loop-name-preserved : goal.loop-name-preserved
loop-name-preserved c =
    pairs_behind c.args.pairs.now c.loop-name.name-index (record { 0 = 0 }, Undefined) c.args.texts.now.items c.loop-name.texts.items c.push.new.self.items c.push_text.new.texts.items c.loop-name-test.true c.loop-name.invariant c.in_ok-push.ensures.items c.in_ok-push_text.ensures
