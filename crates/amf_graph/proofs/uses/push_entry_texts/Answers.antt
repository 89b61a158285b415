-- One entry more.
use Rattle.amf_graph.specs.declared.value.Value.TheVariants.{Undefined}
use Rattle.amf_graph.proofs.Used.{entries_behind}
use Rattle.amf_graph.proofs.uses.push_entry_texts.Goals as goal

pub loop-key-preserved : goal.loop-key-preserved
loop-key-preserved c =
    entries_behind c.args.entries.now c.loop-key.key-index (Undefined, Undefined) c.args.texts.now.items c.loop-key.texts.items c.push_text.new.texts.items c.push_text-in-loop-key.new.texts.items c.loop-key-test.true c.loop-key.invariant c.in_ok-push_text.ensures c.in_ok-push_text-2.ensures
