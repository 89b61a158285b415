use Rattle.std.proofs.Common.{◌≡◌, ◌∙◌, ap, decimal, subst}
use Rattle.amf_graph.specs.Arena.{Names}
use Rattle.amf_flex_replies.proofs.Batched.{never_full, delivered_grew, delivered_adds}
use Rattle.amf_flex_replies.proofs.sync_messages.Batch.deliver.Goals as goal

pub kept-requires : goal.kept-requires
kept-requires c full =
    let s = c.requires.stored in
    let there = subst (Names c.args.message.now.arena) s.1 c.is_finished.ensures.names in
    never_full c.args.message.now.arena s.0 c.is_finished.ensures.finished s.2 there c.requires.light c.in_ok-client.client _ c.requires.room (c.delivered.ensures.full c.in_ok-client.ensures.fits.short full s.0 s.1)

pub returns-clause-adds : goal.returns-clause-adds
returns-clause-adds c =
    let adds = rw c.in_ok-value.ensures at c.delivered.ensures.ok in
    delivered_adds c.args.message.now c.in_ok-client.client c.args.sub c.args.self.now.builder _ c.args.self.now.values.items _ c.in_ok-value.value c.is_finished.ensures.finished c.is_built.ensures.built c.is_finished.ensures.names c.requires.stored (c.in_ok-client.ensures.name ∙ ap decimal c.sub.view_is) adds c.in_ok-push.ensures.items

pub returns-clause-grew : goal.returns-clause-grew
returns-clause-grew c =
    let s = c.requires.stored in
    let there = subst (Names c.args.message.now.arena) s.1 c.is_finished.ensures.names in
    let adds = rw c.in_ok-value.ensures at c.delivered.ensures.ok in
    delivered_grew c.args.message.now.arena s.0 c.is_finished.ensures.finished s.2 there c.requires.light c.in_ok-client.client _ _ c.in_ok-value.value (adds s.0 s.1)
