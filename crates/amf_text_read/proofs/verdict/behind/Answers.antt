use Rattle.std.proofs.Common.{length, sym, ap, ◌∙◌}
use Rattle.amf_text_read.specs.Stops.{stop_named}
use Rattle.amf_text_read.proofs.Faults.{any_behind, behind_broken, done_is}
use Rattle.amf_text_read.proofs.verdict.behind.Goals as goal

pub returns-then-not-is_broken : goal.returns-then-not-is_broken
returns-then-not-is_broken c =
    done_is c.args.text.now c.args.whole.now c.requires.front c.utf8.whole c.requires.left (sym (ap stop_named c.in-Ended.is) ∙ c.requires.stop) (sym c.is_broken.ensures ∙ c.if-not-is_broken.true)

pub returns-else-not-is_broken : goal.returns-else-not-is_broken
returns-else-not-is_broken c =
    behind_broken c.args.text.now _ c.requires.left (sym (ap stop_named c.in-Ended.is) ∙ c.requires.stop) (sym c.is_broken.ensures ∙ c.if-not-is_broken.false) (ap length c.requires.front)

pub returns-in-CommaLast : goal.returns-in-CommaLast
returns-in-CommaLast c = any_behind c.args.text.now c.in-CommaLast.at c.args.stop c.requires.left c.in-CommaLast.is c.requires.stop

pub returns-in-CommaLast-2 : goal.returns-in-CommaLast-2
returns-in-CommaLast-2 c = any_behind c.args.text.now c.in-CommaLast.at c.args.stop c.requires.left c.in-CommaLast.is c.requires.stop

pub returns-in-CommaLast-3 : goal.returns-in-CommaLast-3
returns-in-CommaLast-3 c = any_behind c.args.text.now c.in-CommaLast.at c.args.stop c.requires.left c.in-CommaLast.is c.requires.stop
