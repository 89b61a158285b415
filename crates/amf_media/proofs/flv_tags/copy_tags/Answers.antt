-- From tag to tag.
use Rattle.std.proofs.Common.{[], Ok, refl, ◌∙◌, subst, arith, ◌≡◌, ◌<◌, ◌≤◌}
use Rattle.std.proofs.lemmas.Result.{err_from_is_err_and}
use Rattle.amf_io.specs.Cursor.{source_of, place, bound, unread}
use Rattle.amf_io.specs.Stretch.{between}
use Rattle.amf_media.specs.FlvSteps.{StepsTag}
use Rattle.amf_media.specs.Written.{CountsWrites}
use Rattle.amf_media.specs.declared.ending.MediaEnd.TheVariants.{Done}
use Rattle.amf_media.proofs.Puts.{put_none}
use Rattle.amf_media.proofs.FlvTags.{reads_none}
use Rattle.amf_media.proofs.FlvMoves.{moves_none, moves_on, on_more, ends_more}
use Rattle.amf_media.proofs.flv_tags.copy_tags.Goals as goal

pub tags-init : goal.tags-init
tags-init g c =
    let S = g.S.Source in
    let O = g.O.Sink in
    let k = c.args.cursor.now in
    record {
      moves = moves_none S.tells S.left S.faults k c.at-start.ensures.ahead;
      told = λ t. t;
      on = record { bytes = []; read = reads_none c.args.job (S.tells (source_of k).now) (unread S.left k) (unread S.left k) (place k) (place k) (bound k) (λ t. refl) refl c.at-start.ensures.within; put = λ t. put_none (O.held c.args.out.now) c.args.waiting.now.items };
      steady = refl;
      placed = c.at-start.ensures.within;
    }

pub tags-preserved : goal.tags-preserved
tags-preserved g c =
    let S = g.S.Source in
    let O = g.O.Sink in
    let k = c.args.cursor.now in
    let l = c.tags in
    let i = l.invariant in
    let new = c.copy_tag.new in
    let h = c.in_ok-copy_tag.ensures in
    let s = subst (λ v. StepsTag c.args.job (between S.tells S.left l.cursor new.cursor) (O.tells new.out) (O.held l.out) (O.held new.out) l.waiting.items new.waiting.items (Ok v)) c.if-branch.true h.steps in
    record {
      moves = moves_on S.tells S.left S.faults k l.cursor new.cursor Done i.moves h.moves;
      told = λ t. i.told (h.tells t);
      on = on_more S.tells S.left S.faults c.args.job k l.cursor new.cursor i.moves (O.tells new.out) (O.tells l.out) h.tells (O.held c.args.out.now) (O.held l.out) (O.held new.out) c.args.waiting.now.items l.waiting.items new.waiting.items i.on s.0;
      steady = h.counts ∙ i.steady;
      placed = (let le = s.0.read.within in let b = h.moves.same_bound in omega arith);
    }

pub tags-smaller : goal.tags-smaller
tags-smaller g c =
    let S = g.S.Source in
    let O = g.O.Sink in
    let l = c.tags in
    let new = c.copy_tag.new in
    let h = c.in_ok-copy_tag.ensures in
    let s = subst (λ v. StepsTag c.args.job (between S.tells S.left l.cursor new.cursor) (O.tells new.out) (O.held l.out) (O.held new.out) l.waiting.items new.waiting.items (Ok v)) c.if-branch.true h.steps in
    let le : place new.cursor ≤ bound l.cursor = s.0.read.within in
    let lt : place l.cursor < place new.cursor = s.1 in
    let b : bound new.cursor ≡ bound l.cursor = h.moves.same_bound in
    omega arith

pub returns-in_err-copy_tag-clause-moves : goal.returns-in_err-copy_tag-clause-moves
returns-in_err-copy_tag-clause-moves g c =
    let S = g.S.Source in
    let l = c.tags in
    let p = err_from_is_err_and c.from_residual.result c.from_residual.ensures.1 in
    rw (p.1, p.2) (moves_on S.tells S.left S.faults c.args.cursor.now l.cursor c.copy_tag.new.cursor c.in_err-copy_tag.field-0.0 l.invariant.moves c.in_err-copy_tag.ensures.moves)

pub returns-in_err-copy_tag-clause-tells : goal.returns-in_err-copy_tag-clause-tells
returns-in_err-copy_tag-clause-tells g c = λ t. c.tags.invariant.told (c.in_err-copy_tag.ensures.tells t)

pub returns-in_err-copy_tag-clause-copies : goal.returns-in_err-copy_tag-clause-copies
returns-in_err-copy_tag-clause-copies g c =
    let S = g.S.Source in
    let O = g.O.Sink in
    let l = c.tags in
    let i = l.invariant in
    let new = c.copy_tag.new in
    let h = c.in_err-copy_tag.ensures in
    let p = err_from_is_err_and c.from_residual.result c.from_residual.ensures.1 in
    rw (p.1, p.2) (ends_more S.tells S.left S.faults c.args.job c.args.cursor.now l.cursor new.cursor i.moves (O.tells new.out) (O.tells l.out) h.tells (O.held c.args.out.now) (O.held l.out) (O.held new.out) c.args.waiting.now.items l.waiting.items new.waiting.items c.in_err-copy_tag.field-0.0 i.on h.steps)

pub returns-in_err-copy_tag-clause-counts : goal.returns-in_err-copy_tag-clause-counts
returns-in_err-copy_tag-clause-counts g c =
    let O = g.O.Sink in
    let p = err_from_is_err_and c.from_residual.result c.from_residual.ensures.1 in
    rw (p.1, p.2) (subst (λ n. CountsWrites n (O.faults c.copy_tag.new.out) c.in_err-copy_tag.field-0.0) c.tags.invariant.steady c.in_err-copy_tag.ensures.counts)

pub returns-clause-moves : goal.returns-clause-moves
returns-clause-moves g c =
    let S = g.S.Source in
    let l = c.tags in
    moves_on S.tells S.left S.faults c.args.cursor.now l.cursor c.copy_tag.new.cursor Done l.invariant.moves c.in_ok-copy_tag.ensures.moves

pub returns-clause-tells : goal.returns-clause-tells
returns-clause-tells g c = λ t. c.tags.invariant.told (c.in_ok-copy_tag.ensures.tells t)

pub returns-clause-copies : goal.returns-clause-copies
returns-clause-copies g c =
    let S = g.S.Source in
    let O = g.O.Sink in
    let k = c.args.cursor.now in
    let l = c.tags in
    let i = l.invariant in
    let new = c.copy_tag.new in
    let h = c.in_ok-copy_tag.ensures in
    let s = subst (λ v. StepsTag c.args.job (between S.tells S.left l.cursor new.cursor) (O.tells new.out) (O.held l.out) (O.held new.out) l.waiting.items new.waiting.items (Ok v)) c.if-branch.false h.steps in
    (on_more S.tells S.left S.faults c.args.job k l.cursor new.cursor i.moves (O.tells new.out) (O.tells l.out) h.tells (O.held c.args.out.now) (O.held l.out) (O.held new.out) c.args.waiting.now.items l.waiting.items new.waiting.items i.on s.0, λ t. s.1 (i.moves.told t))

pub returns-clause-counts : goal.returns-clause-counts
returns-clause-counts g c = c.in_ok-copy_tag.ensures.counts ∙ c.tags.invariant.steady
