use Rattle.std.proofs.Common.{IfOk, sym, subst}
use Rattle.amf_graph.specs.Graph.{Graph}
use Rattle.amf_graph.specs.Reached.{IsNamed}
use Rattle.amf_commands.specs.Run.{IsMeasured}
use Rattle.amf_commands.proofs.MadeAgain.{made_named}
use Rattle.amf_commands.proofs.making.measurement.Goals as goal

pub measured-requires : goal.measured-requires
measured-requires c = subst IsNamed (sym c.in_ok-graph.ensures) (made_named c.args.seed c.args.size)

pub returns : goal.returns
returns c = subst (λ (x : Graph). IfOk c.measured.result (λ line. IsMeasured x line.items)) c.in_ok-graph.ensures c.measured.ensures
