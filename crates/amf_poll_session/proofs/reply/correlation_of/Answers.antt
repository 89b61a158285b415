-- The correlation identifier.
use Rattle.std.proofs.Common.{◌≡◌, ◌∙◌, ap, subst}
use Rattle.std.specs.Prelude.{IfOk}
use Rattle.amf_graph.specs.Arena.{value_content}
use Rattle.amf_graph.specs.Graph.{Value}
use Rattle.amf_graph.specs.Rooted.{content}
use Rattle.flex_msgs.specs.Classes.{correlation_name}
use Rattle.flex_msgs.specs.Viewing.{text_alone}
use Rattle.amf_poll_session.specs.Replies.{member_at}
use Rattle.amf_poll_session.proofs.reply.correlation_of.Goals as goal

pub returns : goal.returns
returns c =
    let g = c.args.graph.now in
    let value = c.in_ok-value.ensures.value ∙ ap (λ (v : Value). member_at (content g) correlation_name v) (ap (value_content g.arena) c.root.ensures) in
    subst (λ (v : Value). IfOk c.text_alone.result (λ found. found ≡ text_alone v)) value c.text_alone.ensures.text
