use Rattle.std.proofs.Common.{refl, ap, ◌∙◌}
use Rattle.amf_text.specs.Scan.{scan}
use Rattle.amf_text.specs.Refused.{front}
use Rattle.amf_text_read.proofs.CanEnds.{open_at}
use Rattle.amf_text_read.proofs.Faults.{broken_cut, broken_fault, other_fault}
use Rattle.amf_text_read.proofs.verdict.cut_broken.Goals as goal

pub broken_can_end-requires-clause-within : goal.broken_can_end-requires-clause-within
broken_can_end-requires-clause-within c = (open_at (front c.args.text.now) c.args.at c.requires.stop).1

pub broken_can_end-requires-clause-open : goal.broken_can_end-requires-clause-open
broken_can_end-requires-clause-open c = (open_at (front c.args.text.now) c.args.at c.requires.stop).0

pub can_end-requires-clause-within : goal.can_end-requires-clause-within
can_end-requires-clause-within c = (open_at c.args.whole.now c.args.at (ap (λ t. (scan t).stop) c.requires.front ∙ c.requires.stop)).1

pub can_end-requires-clause-open : goal.can_end-requires-clause-open
can_end-requires-clause-open c = (open_at c.args.whole.now c.args.at (ap (λ t. (scan t).stop) c.requires.front ∙ c.requires.stop)).0

pub returns-then-branch : goal.returns-then-branch
returns-then-branch c = broken_cut c.args.text.now c.args.at c.in_ok-broken_can_end.field-0 c.requires.left c.requires.stop c.in_ok-broken_can_end.ensures c.if-branch.true

pub returns-then-branch-2 : goal.returns-then-branch-2
returns-then-branch-2 c =
    broken_fault c.args.text.now c.args.whole.now c.args.at _ c.in_ok-broken_can_end.field-0 c.in_ok-can_end.field-0 c.requires.left c.requires.stop c.requires.front refl c.in_ok-broken_can_end.ensures
    c.if-branch.false c.in_ok-can_end.ensures c.if-branch-2.true

pub returns : goal.returns
returns c = other_fault c.args.text.now c.args.whole.now c.args.at c.in_ok-can_end.field-0 c.requires.left c.requires.stop c.requires.front c.in_ok-can_end.ensures c.if-branch-2.false
