-- A poll has its number in the headers.
use Rattle.std.proofs.Common.{◌∙◌, sym, ap}
use Rattle.std.proofs.lemmas.Result.{IfOk-weaker}
use Rattle.flex_msgs.specs.Messages.{headers_node}
use Rattle.flex_msgs.specs.Writing.{WritesOne}
use Rattle.amf_poll_session.specs.declared.request.Request.{Request}
use Rattle.amf_poll_session.specs.Requests.{message_id, numbered_headers, request_headers}
use Rattle.amf_poll_session.proofs.Requests.{other_headers, written_as}
use Rattle.amf_poll_session.proofs.asking.add_request_headers.Goals as goal

pub returns-in-Poll : goal.returns-in-Poll
returns-in-Poll c =
    let a = c.args.builder.now in
    let b = c.add_numbered.new.builder in
    let ds = c.args.ds_id.now in
    let same = ap (numbered_headers ds) (c.requires.id ∙ ap message_id c.in-Poll.is) ∙ ap (λ (r : Request). request_headers ds r) (sym c.in-Poll.is) in
    IfOk-weaker c.add_numbered.result (λ v. WritesOne a b v (λ h. numbered_headers ds c.args.id.now)) (λ v. WritesOne a b v (λ h. request_headers ds c.args.request))
    (λ v w. written_as a b v (numbered_headers ds c.args.id.now) (request_headers ds c.args.request) same w) c.add_numbered.ensures

pub returns-in_default : goal.returns-in_default
returns-in_default c =
    let a = c.args.builder.now in
    let b = c.add_headers.new.builder in
    let ds = c.args.ds_id.now in
    IfOk-weaker c.add_headers.result (λ v. WritesOne a b v (λ h. headers_node ds)) (λ v. WritesOne a b v (λ h. request_headers ds c.args.request))
    (λ v w. written_as a b v (headers_node ds) (request_headers ds c.args.request) (other_headers ds c.args.request c.in_default.not-Poll) w) c.add_headers.ensures.ok
