use Rattle.std.proofs.Common.{refl, ◌∙◌}
use Rattle.json.specs.Reads.{token_of}
use Rattle.amf_text_read.specs.Verdicts.{asked_of}
use Rattle.amf_text_read.specs.Judgements.{heard}
use Rattle.amf_text_read.proofs.Judging.{begun, heard_is, is_last_is, left_early, next_one, none_left, rejects, stop_is, taken}
use Rattle.amf_text_read.proofs.judge.judge_tokens.Goals as goal

pub loop-next-init : goal.loop-next-init
loop-next-init c =
    let o = c.next-next.result in
    let old = c.args.reader.now in
    let new = c.next-next.new.self in
    let y = c.next-next.ensures.value in
    (begun c.args.is_cut old (asked_of c.args.asked.now) (heard o new) c.requires.all (heard_is o old new y), none_left o old new y)

pub returns-then-is_none : goal.returns-then-is_none
returns-then-is_none c =
    let o = c.next-next-in-Some.result in
    let us = c.next-next-in-Some.new.self in
    let y = c.next-next-in-Some.ensures.value in
    let e = next_one c.loop-next.next c.in-Some.token c.loop-next.reader o us c.in-Some.is y in
    let j = rw e at c.loop-next.invariant.0 in
    let s = stop_is c.args.is_cut o us (token_of c.in-Some.token) c.is_none-is_last.result c.is_none.result (none_left o c.loop-next.reader us y) c.is_none-is_last.ensures c.is_none.ensures in
    left_early c.args.is_cut c.args.reader.now c.loop-next.tokens (asked_of c.loop-next.asked) c.loop-next.opened (token_of c.in-Some.token) (heard o us) _ j (s ∙ c.if-is_none.true) c.is_whole.ensures refl refl

pub returns-in-Some-2 : goal.returns-in-Some-2
returns-in-Some-2 c =
    let o = c.next-next-in-Some.result in
    let us = c.next-next-in-Some.new.self in
    let y = c.next-next-in-Some.ensures.value in
    let e = next_one c.loop-next.next c.in-Some.token c.loop-next.reader o us c.in-Some.is y in
    let j = rw e at c.loop-next.invariant.0 in
    let n = none_left o c.loop-next.reader us y in
    let s = stop_is c.args.is_cut o us (token_of c.in-Some.token) c.is_none-is_last.result c.is_none.result n c.is_none-is_last.ensures c.is_none.ensures in
    let r = rw c.in-Some-2.is at c.in_ok-reason.ensures in
    rejects c.args.is_cut c.args.reader.now c.loop-next.tokens (asked_of c.loop-next.asked) (asked_of c.take.new.self) c.loop-next.opened (token_of c.in-Some.token) (heard o us)
    c.is_none-is_last.result c.in-Some-2.reason c.in_ok-end.end j (s ∙ c.if-is_none.false) r (is_last_is o us c.is_none-is_last.result n c.is_none-is_last.ensures) c.in_ok-end.ensures

pub loop-next-preserved : goal.loop-next-preserved
loop-next-preserved c =
    let o = c.next-next-in-Some.result in
    let us = c.next-next-in-Some.new.self in
    let y = c.next-next-in-Some.ensures.value in
    let e = next_one c.loop-next.next c.in-Some.token c.loop-next.reader o us c.in-Some.is y in
    let j = rw e at c.loop-next.invariant.0 in
    let n = none_left o c.loop-next.reader us y in
    let s = stop_is c.args.is_cut o us (token_of c.in-Some.token) c.is_none-is_last.result c.is_none.result n c.is_none-is_last.ensures c.is_none.ensures in
    let r = rw c.in_default-2.is at c.in_ok-reason.ensures in
    (rw c.opens-opened.ensures (taken c.args.is_cut c.args.reader.now c.loop-next.tokens (asked_of c.loop-next.asked) (asked_of c.take.new.self) c.loop-next.opened (token_of c.in-Some.token) (heard o us) j (s ∙ c.if-is_none.false) r), n)
