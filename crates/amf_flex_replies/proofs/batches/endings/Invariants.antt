use Rattle.std.proofs.Common.{◌≡◌, length, map, drop}
use Rattle.std.specs.List.{AllByRecursion}
use Rattle.flex_msgs.specs.Answers.{invalidate_graph}
use Rattle.flex_msgs.specs.Built.{IsReply, IsShortReply}
use Rattle.amf_answer_plan.specs.Batches.{invalidates}
use Rattle.amf_answer_plan.specs.Kept.{context_in}
use Rattle.amf_flex_replies.proofs.Ending.{Ahead}
use Rattle.amf_flex_replies.proofs.batches.endings.Given as goal

abbrev pub invariant-loop-sub : goal.invariant-loop-sub
invariant-loop-sub g l = record {
  ahead : Ahead g.O.Outside.handed (invalidates (context_in l.context) l.ended) (invalidates (context_in l.context) (drop l.sub-index l.ended)) l.fn.outside l.outside (map invalidate_graph l.replies.items);
  texts : AllByRecursion IsReply l.replies.items;
  short : AllByRecursion IsShortReply l.replies.items;
  count : length l.replies.items ≡ l.sub-index;
}
