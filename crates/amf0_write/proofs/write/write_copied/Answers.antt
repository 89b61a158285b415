use Rattle.amf_graph.specs.Rooted.{content}
use Rattle.amf0_spelling.proofs.LoweredLow.{lowering_is_lowered}
use Rattle.amf0_write.proofs.Runs0.{on_ok}
use Rattle.amf0_write.proofs.write.write_copied.Goals as goal

pub write0-requires : goal.write0-requires
write0-requires c = lowering_is_lowered (content c.args.graph.now) (content c.in_ok-low.low) c.in_ok-low.ensures

pub returns-clause-written : goal.returns-clause-written
returns-clause-written c = on_ok c.write0.result (λ h. (content c.in_ok-low.low, c.in_ok-low.ensures, h)) c.write0.ensures.written

pub returns-clause-lack : goal.returns-clause-lack
returns-clause-lack c = λ l e. (content c.in_ok-low.low, c.in_ok-low.ensures, c.write0.ensures.lack l e)
