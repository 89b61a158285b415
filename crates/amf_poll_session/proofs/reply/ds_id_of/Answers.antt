-- The DSId of the headers.
use Rattle.std.proofs.Common.{◌≡◌, ◌∙◌, ap, subst}
use Rattle.std.specs.Prelude.{IfOk}
use Rattle.amf_graph.specs.Arena.{value_content}
use Rattle.amf_graph.specs.Graph.{Value}
use Rattle.amf_graph.specs.Rooted.{content}
use Rattle.flex_msgs.specs.Classes.{ds_id_name, headers_name}
use Rattle.flex_msgs.specs.Viewing.{text_alone}
use Rattle.amf_poll_session.specs.Replies.{member_at}
use Rattle.amf_poll_session.proofs.reply.ds_id_of.Goals as goal

pub returns-clause-ds_id : goal.returns-clause-ds_id
returns-clause-ds_id c =
    let g = c.args.graph.now in
    let root = ap (value_content g.arena) c.root.ensures in
    let headers : value_content g.arena c.in_ok-headers.headers ≡ member_at (content g) headers_name (value_content g.arena g.root) =
    c.in_ok-headers.ensures.value ∙ ap (λ (v : Value). member_at (content g) headers_name v) root in
    let value = c.in_ok-value.ensures.value ∙ ap (λ (v : Value). member_at (content g) ds_id_name v) headers in
    subst (λ (v : Value). IfOk c.text_alone.result (λ found. found ≡ text_alone v)) value c.text_alone.ensures.text
