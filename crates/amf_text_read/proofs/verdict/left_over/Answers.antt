use Rattle.amf_text.specs.Refused.{front}
use Rattle.amf_text_read.proofs.Faults.{left_count, left_early, left_none, left_opens, left_some}
use Rattle.amf_text_read.proofs.verdict.left_over.Goals as goal

pub stop_of-stop-requires-clause-count : goal.stop_of-stop-requires-clause-count
stop_of-stop-requires-clause-count c = rw (c.as_bytes.ensures.value, c.requires.front) (left_count (front c.args.text.now) c.args.tokens c.args.rest c.requires.left)

pub stop_of-stop-requires-clause-early : goal.stop_of-stop-requires-clause-early
stop_of-stop-requires-clause-early c = rw (c.as_bytes.ensures.value, c.requires.front) (left_early (front c.args.text.now) c.args.tokens c.args.rest c.requires.left)

pub stop_of-stop-requires-clause-opens : goal.stop_of-stop-requires-clause-opens
stop_of-stop-requires-clause-opens c = rw (c.as_bytes.ensures.value, c.requires.front) (left_opens (front c.args.text.now) c.args.tokens c.args.rest c.requires.left)

pub behind-requires-clause-left : goal.behind-requires-clause-left
behind-requires-clause-left c = left_none c.args.text.now c.args.tokens c.args.rest c.requires.left c.if-rest.true

pub unfinished-requires-clause-left : goal.unfinished-requires-clause-left
unfinished-requires-clause-left c = left_some c.args.text.now c.args.tokens c.args.rest c.requires.left c.if-rest.false
