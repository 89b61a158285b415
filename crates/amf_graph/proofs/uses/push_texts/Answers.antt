-- One value more.
use Rattle.amf_graph.specs.declared.value.Value.TheVariants.{Undefined}
use Rattle.amf_graph.specs.Gather.{text_in}
use Rattle.amf_graph.proofs.Used.{more_behind}
use Rattle.amf_graph.proofs.uses.push_texts.Goals as goal

pub loop-value-preserved : goal.loop-value-preserved
loop-value-preserved c = more_behind text_in c.args.values.now c.loop-value.value-index Undefined c.args.texts.now.items c.loop-value.texts.items c.push_text.new.texts.items c.loop-value-test.true c.loop-value.invariant c.in_ok-push_text.ensures
