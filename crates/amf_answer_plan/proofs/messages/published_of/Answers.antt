use Rattle.std.proofs.Common.{◌≡◌, [], ◌∷◌, subst}
use Rattle.amf_graph.specs.Arena.{Arena}
use Rattle.amf_graph.specs.Building.{no_arena}
use Rattle.flex_msgs.specs.Built.{Publishes, LacksRoomFor}
use Rattle.amf_answer_plan.proofs.Building.{publish_fits, nothing_built, published_built}
use Rattle.amf_answer_plan.proofs.Closed.{graft_closed, adds_closed}
use Rattle.amf_answer_plan.proofs.messages.published_of.Goals as goal

pub kept-requires : goal.kept-requires
kept-requires c =
    let a = c.args.graph.now.arena in
    let k = c.args.common.now in
    λ e. publish_fits a k c.is_finished.ensures.finished c.requires.common c.requires.light
    (subst (λ (o : Arena). LacksRoomFor a (k.body ∷ k.headers ∷ []) o 12) c.in_ok-builder.ensures (c.published-added.ensures.full c.requires.fits.message.short c.requires.fits.destination.short c.requires.correlation.short e))

pub finished-requires-clause-closed : goal.finished-requires-clause-closed
finished-requires-clause-closed c =
    let a = c.args.graph.now.arena in
    let k = c.args.common.now in
    let made = rw c.in_ok-message.ensures at c.published-added.ensures.ok in
    let p = subst (λ (o : Arena). Publishes a k c.args.correlation.now c.args.moment o c.published-added.new.builder c.in_ok-message.message) c.in_ok-builder.ensures made in
    adds_closed p.between _ _ _ (graft_closed a (k.body ∷ k.headers ∷ []) no_arena p.between _ c.is_finished.ensures.finished tt p.grafted) p.added

pub finished-requires-clause-names : goal.finished-requires-clause-names
finished-requires-clause-names c = rw c.in_ok-message.ensures at c.published-added.ensures.names

pub returns : goal.returns
returns c =
    let a = c.args.graph.now.arena in
    let k = c.args.common.now in
    let made = rw c.in_ok-message.ensures at c.published-added.ensures.ok in
    let p = subst (λ (o : Arena). Publishes a k c.args.correlation.now c.args.moment o c.published-added.new.builder c.in_ok-message.message) c.in_ok-builder.ensures made in
    published_built a c.args.graph.now.root k c.args.correlation.now c.args.moment no_arena _ c.in_ok-message.message c.finished.result c.is_finished.ensures.finished nothing_built c.requires.common p c.finished.ensures.finished c.finished.ensures.graph
