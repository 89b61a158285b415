-- What a request brought: it was not written, or this was read behind it.
use Rattle.std.proofs.Common.{refl}
use Rattle.amf_poll_session.specs.Sessions.{link_fault}
use Rattle.amf_poll_session.proofs.Links.{not_sent, not_sent_by, gave_up, answered, no_answer}
use Rattle.amf_poll_session.proofs.Steps.{heard_no_output, read_no_output}
use Rattle.amf_poll_session.proofs.over_link.exchange.Goals as goal

pub returns-in_default-clause-exchanged : goal.returns-in_default-clause-exchanged
returns-in_default-clause-exchanged g c =
    let link = g.L.Link in
    let a = c.args.link.now in
    let m = c.send.new.link in
    let s = c.send.ensures in
    let kept = c.args.buffer.now in
    let bytes = c.args.bytes.now in
    let r = c.args.request in
    λ port destination ds_id came sent carrying asked. (
      link_fault,
      refl,
      not_sent link port destination came a m m kept kept bytes ds_id r sent carrying asked
          (not_sent_by link port destination came a m m kept kept bytes ds_id r sent c.send.result c.in_default.not-Ok s.tells s.sends s.cause s.other_side s.other_count),
    )

pub returns-in-Ok-heard-clause-exchanged : goal.returns-in-Ok-heard-clause-exchanged
returns-in-Ok-heard-clause-exchanged g c =
    let link = g.L.Link in
    let s = c.in-Ok.ensures in
    let d = c.in-Ok-read_result_keyed.ensures in
    λ port destination ds_id came sent carrying asked.
    answered link port destination came c.args.link.now c.send.new.link c.read_result_keyed.new.link c.args.buffer.now c.read_result_keyed.new.buffer c.args.bytes.now ds_id c.args.request sent
    c.in-Ok-read_result_keyed.graph c.in-Ok-heard.heard carrying asked
    (record { told = s.tells; held = s.sends; writes = s.cause; side = s.other_side; reads = s.other_count; told_left = d.tells; answers = d.answers; cause = d.cause; other_side = d.other_side; other_count = d.other_count })
    c.in-Ok-heard.ensures.heard

pub returns-in-Err-heard-clause-exchanged : goal.returns-in-Err-heard-clause-exchanged
returns-in-Err-heard-clause-exchanged g c =
    let link = g.L.Link in
    let s = c.in-Ok.ensures in
    let d = c.in-Ok-read_result_keyed.ensures in
    λ port destination ds_id came sent carrying asked.
    no_answer link port destination came c.args.link.now c.send.new.link c.read_result_keyed.new.link c.args.buffer.now c.read_result_keyed.new.buffer c.args.bytes.now ds_id c.args.request sent
    c.in-Ok-read_result_keyed.graph c.in-Err-heard.end carrying asked
    (record { told = s.tells; held = s.sends; writes = s.cause; side = s.other_side; reads = s.other_count; told_left = d.tells; answers = d.answers; cause = d.cause; other_side = d.other_side; other_count = d.other_count })
    c.in-Err-heard.ensures.heard

pub returns-in-Err-clause-exchanged : goal.returns-in-Err-clause-exchanged
returns-in-Err-clause-exchanged g c =
    let link = g.L.Link in
    let s = c.in-Ok.ensures in
    let d = c.in-Err.ensures in
    λ port destination ds_id came sent carrying asked.
    rw c.end_of.ensures
    (gave_up link port destination came c.args.link.now c.send.new.link c.read_result_keyed.new.link c.args.buffer.now c.read_result_keyed.new.buffer c.args.bytes.now ds_id c.args.request sent
    c.in-Err.fault carrying asked
    (record { told = s.tells; held = s.sends; writes = s.cause; side = s.other_side; reads = s.other_count; told_left = d.tells; answers = d.answers; cause = d.cause; other_side = d.other_side; other_count = d.other_count }))

pub returns-in-Err-heard-clause-no_output : goal.returns-in-Err-heard-clause-no_output
returns-in-Err-heard-clause-no_output g c = heard_no_output c.in-Ok-read_result_keyed.graph c.args.request c.in-Err-heard.end c.in-Err-heard.ensures.heard

pub returns-in-Err-clause-no_output : goal.returns-in-Err-clause-no_output
returns-in-Err-clause-no_output g c = rw c.end_of.ensures (read_no_output c.in-Err.fault)
