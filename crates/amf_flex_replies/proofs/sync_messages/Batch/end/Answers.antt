use Rattle.std.proofs.Common.{◌≡◌}
use Rattle.amf_flex_replies.proofs.Batched.{room_for_end, ended_adds, ended_grew}
use Rattle.amf_flex_replies.proofs.sync_messages.Batch.end.Goals as goal

pub kept-requires : goal.kept-requires
kept-requires c = c.invalidate.ensures.full (room_for_end c.args.reply.now.client c.args.self.now.builder c.requires.room) c.requires.short

pub returns-clause-adds : goal.returns-clause-adds
returns-clause-adds c =
    let adds = rw c.in_ok-value.ensures at c.invalidate.ensures.ok in
    ended_adds c.args.reply.now c.args.self.now.builder _ c.args.self.now.values.items _ c.in_ok-value.value adds c.in_ok-push.ensures.items

pub returns-clause-grew : goal.returns-clause-grew
returns-clause-grew c =
    let grew = rw c.in_ok-value.ensures at c.invalidate.ensures.grew in
    ended_grew c.args.reply.now.client c.args.self.now.builder _ grew
