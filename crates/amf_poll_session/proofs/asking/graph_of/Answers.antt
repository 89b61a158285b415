-- The headers are added to an empty builder, and the message behind them.
use Rattle.std.proofs.Common.{subst}
use Rattle.amf_graph.specs.Arena.{Arena}
use Rattle.flex_msgs.specs.Writing.{WritesOne}
use Rattle.flex_msgs.proofs.Written.{one_there}
use Rattle.amf_poll_session.specs.Requests.{request_headers}
use Rattle.amf_poll_session.proofs.Requests.{built}
use Rattle.amf_poll_session.proofs.asking.graph_of.Goals as goal

pub add_request-requires-clause-headers : goal.add_request-requires-clause-headers
add_request-requires-clause-headers c = one_there c.in_ok-builder.builder c.add_request_headers.new.builder c.in_ok-headers.headers (λ h. request_headers c.args.ds_id.now c.args.request) c.in_ok-headers.ensures

pub returns-in-Ok : goal.returns-in-Ok
returns-in-Ok c =
    built c.add_request.new.builder c.in_ok-headers.headers c.in_ok-message.message c.add_request_headers.new.builder c.args.destination.now c.args.ds_id.now c.args.request c.in-Ok.graph
    (subst (λ (a : Arena). WritesOne a c.add_request_headers.new.builder c.in_ok-headers.headers (λ h. request_headers c.args.ds_id.now c.args.request)) c.in_ok-builder.ensures c.in_ok-headers.ensures)
    c.in_ok-message.ensures.ok c.in-Ok.ensures.finished c.in-Ok.ensures.graph
