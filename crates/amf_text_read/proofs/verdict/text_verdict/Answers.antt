use Rattle.std.proofs.Common.{◌≤◌, length, arith}
use Rattle.amf_text.specs.declared.reason.TextReason.TheVariants.{TooLarge}
use Rattle.amf_text.specs.Refused.{text_limit, too_large, within}
use Rattle.amf_text_read.proofs.Faults.{accepted_is, refused_so}
use Rattle.amf_text_read.proofs.verdict.text_verdict.Goals as goal

pub returns-then-text-gt-MAX_BYTES : goal.returns-then-text-gt-MAX_BYTES
returns-then-text-gt-MAX_BYTES c =
    let r = c.refused_at in
    refused_so c.args.text.now r.result TooLarge text_limit r.ensures.reason r.ensures.at r.ensures.line r.ensures.column (too_large (omega arith))

pub returns-in-Some : goal.returns-in-Some
returns-in-Some c =
    let r = c.refused_at-in-Some in
    let few : length c.args.text.now ≤ text_limit = omega arith in
    let why = rw c.in-Some.is at c.in_ok-fault.ensures in
    refused_so c.args.text.now r.result c.in-Some.fault.reason c.in-Some.fault.at r.ensures.reason r.ensures.at r.ensures.line r.ensures.column (within few why)

pub returns-in-None : goal.returns-in-None
returns-in-None c =
    let few : length c.args.text.now ≤ text_limit = omega arith in
    let done = rw c.in-None.is at c.in_ok-fault.ensures in
    accepted_is c.args.text.now few done
