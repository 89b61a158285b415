use Rattle.std.proofs.Common.{◌≡◌, [], ◌∷◌, subst}
use Rattle.amf_graph.specs.Arena.{Arena}
use Rattle.amf_graph.specs.Building.{no_arena}
use Rattle.amf_graph.specs.Grafting.{Grafted, IsTooMuch}
use Rattle.amf_answer_plan.proofs.Building.{graft_fits, room_behind, texts_over, short_over, null_again, nothing_built, grafted_built}
use Rattle.amf_answer_plan.proofs.Closed.{graft_closed, adds_closed}
use Rattle.amf_answer_plan.proofs.messages.acknowledge_with.Goals as goal

pub kept-requires : goal.kept-requires
kept-requires c =
    let a = c.args.value.now.arena in
    let root = c.args.value.now.root in
    λ e. graft_fits a root c.is_finished.ensures.finished c.is_finished.ensures.names c.requires.light (subst (λ (o : Arena). IsTooMuch a (root ∷ []) o) c.in_ok-builder.ensures (c.graft.ensures.full e))

pub acknowledge-added-requires-clause-reply : goal.acknowledge-added-requires-clause-reply
acknowledge-added-requires-clause-reply c = texts_over c.args.reply.now c.in_ok-body.body c.requires.texts

pub acknowledge-added-requires-clause-body : goal.acknowledge-added-requires-clause-body
acknowledge-added-requires-clause-body c = rw c.in_ok-body.ensures at c.graft.ensures.names

pub kept-requires-2 : goal.kept-requires-2
kept-requires-2 c =
    let a = c.args.value.now.arena in
    let root = c.args.value.now.root in
    let made = rw c.in_ok-body.ensures at c.graft.ensures.ok in
    let graft = subst (λ (o : Arena). Grafted a (root ∷ []) o c.graft.new.self (c.in_ok-body.body ∷ [])) c.in_ok-builder.ensures made in
    c.acknowledge-added.ensures.full (room_behind a root c.in_ok-body.body c.graft.new.self c.args.reply.now.client c.is_finished.ensures.finished c.is_finished.ensures.names c.requires.light graft) (short_over c.args.reply.now c.in_ok-body.body c.requires.short)

pub finished-requires-clause-closed : goal.finished-requires-clause-closed
finished-requires-clause-closed c =
    let a = c.args.value.now.arena in
    let root = c.args.value.now.root in
    let made = rw c.in_ok-body.ensures at c.graft.ensures.ok in
    let graft = subst (λ (o : Arena). Grafted a (root ∷ []) o c.graft.new.self (c.in_ok-body.body ∷ [])) c.in_ok-builder.ensures made in
    let added = rw c.in_ok-message.ensures at c.acknowledge-added.ensures.ok in
    adds_closed _ _ _ _ (graft_closed a (root ∷ []) no_arena c.graft.new.self (c.in_ok-body.body ∷ []) c.is_finished.ensures.finished tt graft) added

pub finished-requires-clause-names : goal.finished-requires-clause-names
finished-requires-clause-names c = rw c.in_ok-message.ensures at c.acknowledge-added.ensures.names

pub returns-in_err-message-clause-same : goal.returns-in_err-message-clause-same
returns-in_err-message-clause-same c = null_again c.args.reply.now c.requires.body

pub returns-clause-same : goal.returns-clause-same
returns-clause-same c = null_again c.args.reply.now c.requires.body

pub returns-clause-graph : goal.returns-clause-graph
returns-clause-graph c =
    let a = c.args.value.now.arena in
    let root = c.args.value.now.root in
    let made = rw c.in_ok-body.ensures at c.graft.ensures.ok in
    let graft = subst (λ (o : Arena). Grafted a (root ∷ []) o c.graft.new.self (c.in_ok-body.body ∷ [])) c.in_ok-builder.ensures made in
    let added = rw c.in_ok-message.ensures at c.acknowledge-added.ensures.ok in
    grafted_built (record c.args.reply.now { body = c.in_ok-body.body }) a root no_arena c.graft.new.self _ c.in_ok-message.message c.finished.result c.is_finished.ensures.finished c.is_finished.ensures.names nothing_built graft added c.finished.ensures.finished c.finished.ensures.graph
