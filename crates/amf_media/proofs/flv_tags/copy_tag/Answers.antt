-- No tag comes, or it ends inside one, or what it gives cannot be put.
use Rattle.std.proofs.Common.{Ok, subst}
use Rattle.std.proofs.lemmas.Result.{err_from_is_err_and}
use Rattle.amf_io.specs.Cursor.{source_of, place, bound, unread}
use Rattle.amf_io.specs.Stretch.{between}
use Rattle.flv_meta.specs.FileAnswers.{AnswersTag}
use Rattle.amf_media.proofs.FlvTags.{none_came, tag_ends, one_went, one_ended}
use Rattle.amf_media.proofs.flv_tags.copy_tag.Goals as goal

pub returns-in_err-tag-clause-steps : goal.returns-in_err-tag-clause-steps
returns-in_err-tag-clause-steps g c =
    let S = g.S.Source in
    let O = g.O.Sink in
    let k = c.args.cursor.now in
    let m = c.next_tag.new.cursor in
    let p = err_from_is_err_and c.from_residual.result c.from_residual.ensures.1 in
    rw (p.1, p.2) (tag_ends c.args.job (S.tells (source_of k).now) (O.tells c.args.out.now) (unread S.left k) (unread S.left m) (place k) (place m) (bound k) (O.held c.args.out.now) c.args.waiting.now.items c.in_err-tag.field-0.0 c.at-start.ensures.within c.in_err-tag.ensures.answers)

pub returns-in_default-clause-steps : goal.returns-in_default-clause-steps
returns-in_default-clause-steps g c =
    let S = g.S.Source in
    let O = g.O.Sink in
    let k = c.args.cursor.now in
    let m = c.next_tag.new.cursor in
    none_came c.args.job (S.tells (source_of k).now) (O.tells c.args.out.now) (unread S.left k) (unread S.left m) (place k) (place m) (bound k) (O.held c.args.out.now) c.args.waiting.now.items c.at-start.ensures.within
    (subst (λ v. AnswersTag (between S.tells S.left k m) (Ok v)) c.in_default.is c.in_ok-tag.ensures.answers)

pub returns-in_err-put_tag-clause-steps : goal.returns-in_err-put_tag-clause-steps
returns-in_err-put_tag-clause-steps g c =
    let S = g.S.Source in
    let O = g.O.Sink in
    let k = c.args.cursor.now in
    let m = c.next_tag.new.cursor in
    let i = subst (λ v. AnswersTag (between S.tells S.left k m) (Ok v)) c.in-Some.is c.in_ok-tag.ensures.answers in
    let p = err_from_is_err_and c.from_residual-in_err-put_tag.result c.from_residual-in_err-put_tag.ensures.1 in
    let new = c.put_tag.new in
    rw (p.1, p.2) (one_ended c.args.job (S.tells (source_of k).now) (O.tells new.out) (unread S.left k) (unread S.left m) (place k) (place m) (bound k) c.in-Some.tag (O.held c.args.out.now) (O.held new.out) c.args.waiting.now.items new.waiting.items c.in_err-put_tag.field-0.0 i c.at-start.ensures.within
    (c.in_err-put_tag.ensures.puts i.read.0 i.read.1 i.read.3))

pub returns-clause-steps : goal.returns-clause-steps
returns-clause-steps g c =
    let S = g.S.Source in
    let O = g.O.Sink in
    let k = c.args.cursor.now in
    let m = c.next_tag.new.cursor in
    let i = subst (λ v. AnswersTag (between S.tells S.left k m) (Ok v)) c.in-Some.is c.in_ok-tag.ensures.answers in
    let new = c.put_tag.new in
    one_went c.args.job (S.tells (source_of k).now) (O.tells new.out) (unread S.left k) (unread S.left m) (place k) (place m) (bound k) c.in-Some.tag (O.held c.args.out.now) (O.held new.out) c.args.waiting.now.items new.waiting.items c.in_ok-put_tag.field-0 i
    (c.in_ok-put_tag.ensures.puts i.read.0 i.read.1 i.read.3)
