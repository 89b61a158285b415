-- What has been heard so far.
use Rattle.std.proofs.Common.{length}
use Rattle.amf_text_read.specs.Verdicts.{asked_of}
use Rattle.amf_text_read.specs.Judgements.{Judging, NoneLeft, heard}
use Rattle.amf_text_read.proofs.judge.judge_tokens.Given as goal

abbrev pub invariant-loop-next : goal.invariant-loop-next
invariant-loop-next l = Judging l.is_cut l.fn.reader l.tokens (asked_of l.asked) l.opened (heard l.next l.reader) × NoneLeft l.next l.reader

abbrev pub decreases-loop-next : goal.decreases-loop-next
decreases-loop-next l = length (heard l.next l.reader)
