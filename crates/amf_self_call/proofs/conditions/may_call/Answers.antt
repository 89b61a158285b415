use Rattle.std.proofs.Common.{refl, ap, Err, rules}
use Rattle.amf_graph.specs.Rooted.{content}
use Rattle.amf_self_call.proofs.Callable.{is_no, is_yes, no_target, no_arguments, a_lack, written_may}
use Rattle.amf_self_call.proofs.conditions.may_call.Goals as goal

pub returns-then-not-is_target : goal.returns-then-not-is_target
returns-then-not-is_target c = is_no _ refl (no_target c.args.target.now (content c.args.args.now) c.is_target.result c.is_target.ensures c.if-not-is_target.true)

pub returns-in_err-wire : goal.returns-in_err-wire
returns-in_err-wire c = search rules

pub write_call-requires-clause-text : goal.write_call-requires-clause-text
write_call-requires-clause-text c = (c.is_target.ensures.0 c.if-not-is_target.false).text

pub write_call-requires-clause-short : goal.write_call-requires-clause-short
write_call-requires-clause-short c = (c.is_target.ensures.0 c.if-not-is_target.false).short

pub returns-in-Ok : goal.returns-in-Ok
returns-in-Ok c =
    let asked = c.in-Ok.ensures.asked in
    is_yes (written_may c.args.target.now (content c.args.args.now) asked.0 (c.is_target.ensures.0 c.if-not-is_target.false) asked.1 c.write_call.result c.in-Ok.field-0 c.in-Ok.is c.write_call.ensures.arguments)

pub returns-in-Err-NotArgs : goal.returns-in-Err-NotArgs
returns-in-Err-NotArgs c = is_no _ refl (no_arguments c.args.target.now (content c.args.args.now) (c.in-Err-NotArgs.ensures.arguments.0 (ap Err c.in-Err-NotArgs.field-0-is)))

pub returns-in-Err-NoSpelling : goal.returns-in-Err-NoSpelling
returns-in-Err-NoSpelling c =
    let l = c.in-Err-NoSpelling.field-0-0 in
    is_no _ refl (a_lack c.args.target.now (content c.args.args.now) l (c.in-Err-NoSpelling.ensures.lack l (ap Err c.in-Err-NoSpelling.field-0-is)))
