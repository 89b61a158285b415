-- A value, no metadata, or a refusal.
use Rattle.std.proofs.Common.{Ok, Err, Some, None, sym, subst}
use Rattle.flv_meta.specs.MetadataAnswer.{AnswersMetadata}
use Rattle.flv_meta.specs.declared.flv_job.FlvJob.TheVariants.{Show}
use Rattle.amf_media.specs.FlvSteps.{PutsTag}
use Rattle.amf_media.proofs.FlvShows.{unshown_tag, ended_tag}
use Rattle.amf_media.proofs.flv_show.show_tag.Goals as goal

pub returns-in-Ok-Some-clause-puts : goal.returns-in-Ok-Some-clause-puts
returns-in-Ok-Some-clause-puts g c = λ t is e.
    let a : AnswersMetadata t c.args.tag.now.at (Ok (Some c.in-Ok-Some.value)) = rw c.in-Ok-Some.field-0-is at (c.in-Ok-Some.ensures t is e) in
    c.put_lines.ensures.puts t c.args.tag.now.at a.0 a.1

pub returns-in-Ok-None-clause-puts : goal.returns-in-Ok-None-clause-puts
returns-in-Ok-None-clause-puts g c = λ t is e.
    let O = g.O.Sink in
    let a : AnswersMetadata t c.args.tag.now.at (Ok None) = rw c.in-Ok-None.field-0-is at (c.in-Ok-None.ensures t is e) in
    unshown_tag t c.args.tag.now.at (O.tells c.args.out.now) (O.held c.args.out.now) c.args.waiting.now.items _ a

pub returns-in-Err-clause-puts : goal.returns-in-Err-clause-puts
returns-in-Err-clause-puts g c = λ t is e.
    let O = g.O.Sink in
    subst (λ n. PutsTag Show t c.args.tag.now.at (O.tells c.args.out.now) (O.held c.args.out.now) (O.held c.args.out.now) c.args.waiting.now.items c.args.waiting.now.items (Err n)) (sym c.end_at_value.ensures)
    (ended_tag t c.args.tag.now.at (O.tells c.args.out.now) (O.held c.args.out.now) c.args.waiting.now.items c.in-Err.end (c.in-Err.ensures t is e))
