-- What a reply delivers, by its kind.
use Rattle.std.proofs.Common.{◌∙◌, ap, sym, subst}
use Rattle.std.proofs.lemmas.Result.{IfOk-weaker}
use Rattle.amf_graph.specs.Arena.{value_content}
use Rattle.amf_graph.specs.Graph.{Value}
use Rattle.amf_graph.specs.declared.value.Value.{Value as Stored}
use Rattle.amf_graph.specs.Rooted.{content}
use Rattle.flex_msgs.specs.Classes.{body_name}
use Rattle.amf_poll_session.specs.Replies.{kind_at, member_at}
use Rattle.amf_poll_session.specs.Steps.{Bodies, Delivers}
use Rattle.amf_poll_session.proofs.Hearing.{acknowledged, synced, other_kind}
use Rattle.amf_poll_session.proofs.reply.delivered.Goals as goal

pub returns-in-Acknowledge-clause-delivers : goal.returns-in-Acknowledge-clause-delivers
returns-in-Acknowledge-clause-delivers c =
    let g = c.args.graph.now in
    let kind = ap (λ (v : Stored). kind_at (content g) (value_content g.arena v)) (sym c.root.ensures) ∙ sym c.in_ok-kind_at.ensures in
    acknowledged g c.new.result (kind ∙ c.in-Acknowledge.is) c.new.ensures.items

pub returns-in_ok-body-in-Sync-clause-delivers : goal.returns-in_ok-body-in-Sync-clause-delivers
returns-in_ok-body-in-Sync-clause-delivers c =
    let g = c.args.graph.now in
    let kind = ap (λ (v : Stored). kind_at (content g) (value_content g.arena v)) (sym c.root.ensures) ∙ sym c.in_ok-kind_at.ensures in
    let body = c.in_ok-body-in-Sync.ensures.value ∙ ap (λ (v : Stored). member_at (content g) body_name (value_content g.arena v)) c.root-in-Sync.ensures in
    IfOk-weaker c.bodies_of.result (Bodies g (value_content g.arena c.in_ok-body-in-Sync.body)) (Delivers g)
    (λ found b. synced g found (kind ∙ c.in-Sync.is) (subst (λ (v : Value). Bodies g v found) body b)) c.bodies_of.ensures.bodies

pub returns-in_default-clause-delivers : goal.returns-in_default-clause-delivers
returns-in_default-clause-delivers c =
    let g = c.args.graph.now in
    let kind = ap (λ (v : Stored). kind_at (content g) (value_content g.arena v)) (sym c.root.ensures) ∙ sym c.in_ok-kind_at.ensures in
    other_kind g (λ e. c.in_default.not-Acknowledge (sym kind ∙ e)) (λ e. c.in_default.not-Sync (sym kind ∙ e))
