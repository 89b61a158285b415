use Rattle.std.proofs.Common.{sym, ap, ◌∙◌}
use Rattle.amf_text.specs.Scan.{scan}
use Rattle.amf_text_read.proofs.CanEnds.{open_at}
use Rattle.amf_text_read.proofs.Faults.{cut_fault, other_fault}
use Rattle.amf_text_read.proofs.verdict.cut_off.Goals as goal

pub can_end-requires-clause-within : goal.can_end-requires-clause-within
can_end-requires-clause-within c = (open_at c.args.whole.now c.args.at (ap (λ t. (scan t).stop) c.requires.front ∙ c.requires.stop)).1

pub can_end-requires-clause-open : goal.can_end-requires-clause-open
can_end-requires-clause-open c = (open_at c.args.whole.now c.args.at (ap (λ t. (scan t).stop) c.requires.front ∙ c.requires.stop)).0

pub returns-then-branch : goal.returns-then-branch
returns-then-branch c =
    cut_fault c.args.text.now c.args.whole.now c.args.at c.in_ok-can_end.field-0 c.requires.left (sym c.is_broken.ensures ∙ c.if-is_broken.false) c.requires.front c.requires.stop c.in_ok-can_end.ensures c.if-branch.true

pub returns : goal.returns
returns c = other_fault c.args.text.now c.args.whole.now c.args.at c.in_ok-can_end.field-0 c.requires.left c.requires.stop c.requires.front c.in_ok-can_end.ensures c.if-branch.false
