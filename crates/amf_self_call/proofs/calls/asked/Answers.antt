use Rattle.std.proofs.Common.{arith}
use Rattle.amf_graph.specs.Rooted.{content}
use Rattle.amf_client.specs.Asking.{IsAsk}
use Rattle.amf_io.specs.InMemory.{taken}
use Rattle.amf_self_call.proofs.Told.{written_first}
use Rattle.amf_self_call.proofs.calls.asked.Goals as goal

pub returns-in-Ok-clause-ask : goal.returns-in-Ok-clause-ask
returns-in-Ok-clause-ask c =
    written_first (IsAsk 80 c.args.target.now (content c.args.args.now)) (taken c.in_ok-wire.wire.sink) (taken c.write_call.new.link.sink) c.in_ok-wire.ensures.held (c.in-Ok.ensures.writes tt)

pub returns-in-Ok-clause-fits : goal.returns-in-Ok-clause-fits
returns-in-Ok-clause-fits c = let bytes = c.write_call.new.link.sink.bytes in omega (arith, bytes.ok.0, bytes.small)
