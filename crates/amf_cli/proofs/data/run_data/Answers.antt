-- What the words ask for was done, or there is nothing that they ask for, or memory was wanting.
use Rattle.std.proofs.Common.{◌≡◌, inl, inr, refl, subst}
use Rattle.amf_commands.specs.declared.command.Task.TheVariants.{Output, Bytes, Serve, Flv, Rtmp, Call, Listen}
use Rattle.amf_commands.specs.Commands.{AsksFor}
use Rattle.amf_commands.proofs.Asked.{asked_possible, dialling_is_no_output, not_serving}
use Rattle.amf_cli.proofs.EndsLaws.{command_ends, flv_ends, media_data, rtmp_ends, no_task_ends, not_front_fault, task_not_6, task_starves, text_data, text_ends, was_asked_for}
use Rattle.amf_cli.proofs.MediaLaws.{chunkable}
use Rattle.amf_cli.proofs.data.run_data.Goals as goal

pub carry_out-end-requires : goal.carry_out-end-requires
carry_out-end-requires g c = asked_possible c.args.words.now (Output c.in-Ok-Output.command) (was_asked_for c.args.words.now _ _ _ c.in-Ok-Output.is c.in-Ok-Output.field-0-is c.task_of.ensures.asked)

pub returns-in-Ok-Output-clause-ends : goal.returns-in-Ok-Output-clause-ends
returns-in-Ok-Output-clause-ends g c =
    let w : AsksFor c.args.words.now (Output c.in-Ok-Output.command) = was_asked_for c.args.words.now _ _ _ c.in-Ok-Output.is c.in-Ok-Output.field-0-is c.task_of.ensures.asked in
    command_ends g.I.Source g.O.Sink g.E.Sink c.args.words.now c.args.input.now c.carry_out-end.new.input c.args.out.now c.carry_out-end.new.out c.args.err.now c.status_with.new.err
    c.in-Ok-Output.command w c.carry_out-end.result _ c.status_with.ensures.status c.carry_out-end.ensures.no_usage c.carry_out-end.ensures.alone c.carry_out-end.ensures.reading c.carry_out-end.ensures.untaken
    c.carry_out-end.ensures.runs c.carry_out-end.ensures.taken c.carry_out-end.ensures.untouched c.carry_out-end.ensures.unwritten c.carry_out-end.ensures.reads c.carry_out-end.ensures.writes
    c.status_with.ensures.counted c.status_with.ensures.line

pub returns-in-Ok-Output-clause-data : goal.returns-in-Ok-Output-clause-data
returns-in-Ok-Output-clause-data g c =
    let w : AsksFor c.args.words.now (Output c.in-Ok-Output.command) = was_asked_for c.args.words.now _ _ _ c.in-Ok-Output.is c.in-Ok-Output.field-0-is c.task_of.ensures.asked in (
      (λ s. absurd (elim s [ inl a ↦ not_serving c.args.words.now c.in-Ok-Output.command w a | inr b ↦ dialling_is_no_output c.args.words.now c.in-Ok-Output.command w b ])),
      not_front_fault c.carry_out-end.result _ c.carry_out-end.ensures.no_front c.status_with.ensures.status,
    )

pub returns-in-Ok-Bytes-clause-ends : goal.returns-in-Ok-Bytes-clause-ends
returns-in-Ok-Bytes-clause-ends g c =
    let w : AsksFor c.args.words.now Bytes = was_asked_for c.args.words.now _ _ _ c.in-Ok-Bytes.is c.in-Ok-Bytes.field-0-is c.task_of.ensures.asked in
    text_ends g.I.Source g.O.Sink g.E.Sink c.args.words.now c.args.input.now c.write_bytes-end.new.input c.args.out.now c.write_bytes-end.new.out c.args.err.now c.text_status_with.new.err
    w c.write_bytes-end.result _ c.text_status_with.ensures.status c.write_bytes-end.ensures.runs c.write_bytes-end.ensures.taken c.write_bytes-end.ensures.untouched c.write_bytes-end.ensures.reads c.write_bytes-end.ensures.writes
    c.text_status_with.ensures.counted c.text_status_with.ensures.line

pub returns-in-Ok-Bytes-clause-data : goal.returns-in-Ok-Bytes-clause-data
returns-in-Ok-Bytes-clause-data g c =
    let w : AsksFor c.args.words.now Bytes = was_asked_for c.args.words.now _ _ _ c.in-Ok-Bytes.is c.in-Ok-Bytes.field-0-is c.task_of.ensures.asked in
    text_data c.args.words.now c.write_bytes-end.result _ _ w c.text_status_with.ensures.status

pub returns-in-Ok-Flv-clause-ends : goal.returns-in-Ok-Flv-clause-ends
returns-in-Ok-Flv-clause-ends g c =
    let w : AsksFor c.args.words.now (Flv c.in-Ok-Flv.job) = was_asked_for c.args.words.now _ _ _ c.in-Ok-Flv.is c.in-Ok-Flv.field-0-is c.task_of.ensures.asked in
    flv_ends g.I.Source g.O.Sink g.E.Sink c.args.words.now c.args.input.now c.flv_keyed-end.new.input c.args.out.now c.flv_keyed-end.new.out c.args.err.now c.media_status.new.err
    c.flv_keyed-end.result _ c.media_status.ensures.status c.flv_keyed-end.ensures.taken c.flv_keyed-end.ensures.reads c.flv_keyed-end.ensures.writes c.media_status.ensures.counted c.media_status.ensures.line
    c.in-Ok-Flv.job w c.flv_keyed-end.ensures.runs c.flv_keyed-end.ensures.ends c.flv_keyed-end.ensures.untouched

pub returns-in-Ok-Flv-clause-data : goal.returns-in-Ok-Flv-clause-data
returns-in-Ok-Flv-clause-data g c =
    let w : AsksFor c.args.words.now (Flv c.in-Ok-Flv.job) = was_asked_for c.args.words.now _ _ _ c.in-Ok-Flv.is c.in-Ok-Flv.field-0-is c.task_of.ensures.asked in
    media_data c.args.words.now c.flv_keyed-end.result _ _ (inl (c.in-Ok-Flv.job, w)) c.media_status.ensures.status

pub returns-in-Ok-Rtmp-clause-ends : goal.returns-in-Ok-Rtmp-clause-ends
returns-in-Ok-Rtmp-clause-ends g c =
    let w : AsksFor c.args.words.now (Rtmp c.in-Ok-Rtmp.size) = was_asked_for c.args.words.now _ _ _ c.in-Ok-Rtmp.is c.in-Ok-Rtmp.field-0-is c.task_of.ensures.asked in
    rtmp_ends g.I.Source g.O.Sink g.E.Sink c.args.words.now c.args.input.now c.rtmp_keyed-end.new.input c.args.out.now c.rtmp_keyed-end.new.out c.args.err.now c.media_status-in-Ok-Rtmp.new.err
    c.rtmp_keyed-end.result _ c.media_status-in-Ok-Rtmp.ensures.status c.rtmp_keyed-end.ensures.taken c.rtmp_keyed-end.ensures.reads c.rtmp_keyed-end.ensures.writes c.media_status-in-Ok-Rtmp.ensures.counted c.media_status-in-Ok-Rtmp.ensures.line
    c.in-Ok-Rtmp.size w c.rtmp_keyed-end.ensures.runs c.rtmp_keyed-end.ensures.ends

pub returns-in-Ok-Rtmp-clause-data : goal.returns-in-Ok-Rtmp-clause-data
returns-in-Ok-Rtmp-clause-data g c =
    let w : AsksFor c.args.words.now (Rtmp c.in-Ok-Rtmp.size) = was_asked_for c.args.words.now _ _ _ c.in-Ok-Rtmp.is c.in-Ok-Rtmp.field-0-is c.task_of.ensures.asked in
    media_data c.args.words.now c.rtmp_keyed-end.result _ _ (inr (c.in-Ok-Rtmp.size, w)) c.media_status-in-Ok-Rtmp.ensures.status

pub rtmp_keyed-end-requires : goal.rtmp_keyed-end-requires
rtmp_keyed-end-requires g c = chunkable c.in-Ok-Rtmp.size (asked_possible c.args.words.now (Rtmp c.in-Ok-Rtmp.size) (was_asked_for c.args.words.now _ _ _ c.in-Ok-Rtmp.is c.in-Ok-Rtmp.field-0-is c.task_of.ensures.asked))

pub returns-in-Ok-Serve-clause-serves : goal.returns-in-Ok-Serve-clause-serves
returns-in-Ok-Serve-clause-serves g c =
    let w : AsksFor c.args.words.now (Serve c.in-Ok-Serve.options) = was_asked_for c.args.words.now _ _ _ c.in-Ok-Serve.is c.in-Ok-Serve.field-0-is c.task_of.ensures.asked in
    λ options same. let is : c.in-Ok-Serve.options ≡ options = cc in subst (λ o. AsksFor c.args.words.now (Serve o)) is w

pub returns-in-Ok-Call-clause-calls : goal.returns-in-Ok-Call-clause-calls
returns-in-Ok-Call-clause-calls g c =
    let w : AsksFor c.args.words.now (Call c.in-Ok-Call.options) = was_asked_for c.args.words.now _ _ _ c.in-Ok-Call.is c.in-Ok-Call.field-0-is c.task_of.ensures.asked in
    λ options same. let is : c.in-Ok-Call.options ≡ options = cc in subst (λ o. AsksFor c.args.words.now (Call o)) is w

pub returns-in-Ok-Listen-clause-listens : goal.returns-in-Ok-Listen-clause-listens
returns-in-Ok-Listen-clause-listens g c =
    let w : AsksFor c.args.words.now (Listen c.in-Ok-Listen.options) = was_asked_for c.args.words.now _ _ _ c.in-Ok-Listen.is c.in-Ok-Listen.field-0-is c.task_of.ensures.asked in
    λ options same. let is : c.in-Ok-Listen.options ≡ options = cc in subst (λ o. AsksFor c.args.words.now (Listen o)) is w

pub returns-in-Err-clause-ends : goal.returns-in-Err-clause-ends
returns-in-Err-clause-ends g c =
    no_task_ends g.I.Source g.O.Sink g.E.Sink c.args.words.now c.args.input.now c.args.input.now c.args.out.now c.args.out.now c.args.err.now c.status_with-in-Err.new.err
    c.in-Err.end _ (c.task_of.ensures.none c.in-Err.end c.in-Err.is) c.status_with-in-Err.ensures.status refl refl c.status_with-in-Err.ensures.counted c.status_with-in-Err.ensures.line

pub returns-in-Err-clause-data : goal.returns-in-Err-clause-data
returns-in-Err-clause-data g c =
    let why = c.task_of.ensures.none c.in-Err.end c.in-Err.is in (
      task_starves g.O.Sink g.E.Sink c.args.words.now c.args.out.now c.args.err.now c.status_with-in-Err.new.err c.in-Err.end _ why c.status_with-in-Err.ensures.status c.status_with-in-Err.ensures.line,
      task_not_6 c.args.words.now c.in-Err.end _ why c.status_with-in-Err.ensures.status,
    )
