-- The lines are put, or there is no memory for them.
use Rattle.std.proofs.Common.{[], ◌∷◌, refl, sym, subst, inr}
use Rattle.std.proofs.lemmas.Result.{err_from_is_err_and}
use Rattle.flv_meta.specs.declared.flv_job.FlvJob.TheVariants.{Show}
use Rattle.amf_media.specs.FlvSteps.{TagsGive}
use Rattle.amf_media.proofs.FlvShows.{shown_tag}
use Rattle.amf_media.proofs.FlvTags.{tag_put}
use Rattle.amf_media.proofs.flv_show.put_lines.Goals as goal

pub returns-in_err-lines-clause-puts : goal.returns-in_err-lines-clause-puts
returns-in_err-lines-clause-puts g c = λ t at e s.
    let p = err_from_is_err_and c.from_residual.result c.from_residual.ensures.1 in
    rw (p.1, p.2) (inr (λ y. refl))

pub returns-clause-puts : goal.returns-clause-puts
returns-clause-puts g c = λ t at e s.
    let O = g.O.Sink in
    let new = c.put.new in
    tag_put Show t at (O.tells new.sink) (O.held c.args.out.now) (O.held new.sink) c.args.waiting.now.items new.waiting.items c.deref.result.now c.put.result
    (subst (λ b. TagsGive Show (t ∷ []) b) (sym c.deref.ensures.value) (shown_tag t c.args.value.now c.in_ok-lines.lines.items e s c.in_ok-lines.ensures)) c.put.ensures.puts c.put.ensures.ends
