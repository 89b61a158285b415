use Rattle.std.proofs.Common.{◌≡◌, map}
use Rattle.amf_graph.specs.Arena.{value_content}
use Rattle.flex_msgs.specs.Messages.{sync_nodes}
use Rattle.amf_flex_replies.proofs.Batched.{held_closed, held_names, room_for_sync, sync_built}
use Rattle.amf_answer_plan.proofs.Closed.{adds_closed}
use Rattle.amf_flex_replies.proofs.sync_messages.Batch.finish.Goals as goal

pub sync-requires-clause-batch : goal.sync-requires-clause-batch
sync-requires-clause-batch c = held_names c.args.self.builder c.args.self.values.items c.requires.holds

pub kept-requires : goal.kept-requires
kept-requires c = c.sync.ensures.full (room_for_sync c.args.reply.now.client c.args.self.builder c.requires.room) c.requires.short c.requires.few

pub finished-requires-clause-closed : goal.finished-requires-clause-closed
finished-requires-clause-closed c =
    let added = rw c.in_ok-message.ensures at c.sync.ensures.ok in
    adds_closed c.args.self.builder _ c.in_ok-message.message (λ h. sync_nodes c.args.reply.now (map (value_content h) c.args.self.values.items) _) (held_closed c.args.self.builder c.args.self.values.items c.requires.holds) added

pub returns : goal.returns
returns c = λ gs held.
    let added = rw c.in_ok-message.ensures at c.sync.ensures.ok in
    sync_built c.args.reply.now gs c.args.self.values.items c.args.self.builder _ c.in_ok-message.message c.finished.result held added c.finished.ensures.finished c.finished.ensures.graph
