use Rattle.std.proofs.Common.{◌≡◌, ◌+◌, ◌*◌, ◌≤◌, length, map, take}
use Rattle.flex_msgs.specs.Answers.{invalidate_graph}
use Rattle.amf_flex_replies.specs.Batching.{Adds}
use Rattle.amf_flex_replies.proofs.sync_messages.Batch.end_all.Given as goal

abbrev pub invariant-loop-reply : goal.invariant-loop-reply
invariant-loop-reply l = record {
  adds : Adds l.initial.self l.self (map invalidate_graph (take l.reply-index l.replies));
  texts : length l.self.builder.texts ≤ length l.initial.self.builder.texts + 17 * l.reply-index;
  traits : length l.self.builder.traits ≤ length l.initial.self.builder.traits + 2 * l.reply-index;
  nodes : length l.self.builder.nodes ≤ length l.initial.self.builder.nodes + 2 * l.reply-index;
  count : length l.self.values.items ≡ length l.initial.self.values.items + l.reply-index;
  within : l.reply-index ≤ length l.replies;
}
