use Rattle.amf_graph.specs.Rooted.{content}
use Rattle.amf0_spelling.proofs.LoweredLow.{lowering_is_lowered}
use Rattle.amf0_write.proofs.Runs0.{on_ok}
use Rattle.amf_commands.proofs.spelling.append0.Goals as goal

pub write0-requires : goal.write0-requires
write0-requires c = let g = content c.args.graph.now in lowering_is_lowered g g (c.has_only_kinds0.ensures.own c.if-has_only_kinds0.true)

pub returns-then-has_only_kinds0-clause-written : goal.returns-then-has_only_kinds0-clause-written
returns-then-has_only_kinds0-clause-written c = on_ok c.write0.result (λ w. (content c.args.graph.now, c.has_only_kinds0.ensures.own c.if-has_only_kinds0.true, w)) c.write0.ensures.written

pub returns-then-has_only_kinds0-clause-lack : goal.returns-then-has_only_kinds0-clause-lack
returns-then-has_only_kinds0-clause-lack c = λ l e. (content c.args.graph.now, c.has_only_kinds0.ensures.own c.if-has_only_kinds0.true, c.write0.ensures.lack l e)
