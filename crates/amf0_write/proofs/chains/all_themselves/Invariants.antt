use Rattle.amf0_write.specs.Chained.{AreFor, IsLowFor}
use Rattle.amf0_write.proofs.chains.all_themselves.Given as goal

abbrev pub invariant-loop-number : goal.invariant-loop-number
invariant-loop-number l = AreFor l.graph (IsLowFor l.graph) l.number l.stand_ins.items
