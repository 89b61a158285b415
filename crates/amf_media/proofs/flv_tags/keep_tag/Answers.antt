use Rattle.std.proofs.Common.{[], ◌∷◌, sym, ◌∙◌, subst}
use Rattle.amf_media.specs.FlvSteps.{TagsGive}
use Rattle.amf_media.proofs.FlvTags.{tag_put, tag_passed, keeps_one, drops_one}
use Rattle.amf_media.proofs.flv_tags.keep_tag.Goals as goal

pub returns-then-is_metadata-clause-puts : goal.returns-then-is_metadata-clause-puts
returns-then-is_metadata-clause-puts g c = λ t is e.
    let told = g.O.Sink.tells c.args.out.now in
    tag_passed c.args.job t c.args.tag.now.at told (g.O.Sink.held c.args.out.now) c.args.waiting.now.items _ (drops_one c.args.job c.requires.keeps t (sym (c.is_metadata.ensures t is e) ∙ c.if-is_metadata.true))

pub returns-clause-puts : goal.returns-clause-puts
returns-clause-puts g c = λ t is e.
    let O = g.O.Sink in
    let new = c.put.new in
    tag_put c.args.job t c.args.tag.now.at (O.tells new.sink) (O.held c.args.out.now) (O.held new.sink) c.args.waiting.now.items new.waiting.items c.as_slice.result.now c.put.result
    (subst (λ b. TagsGive c.args.job (t ∷ []) b) (sym (c.as_slice.ensures ∙ e)) (keeps_one c.args.job c.requires.keeps t (sym (c.is_metadata.ensures t is e) ∙ c.if-is_metadata.false))) c.put.ensures.puts c.put.ensures.ends
