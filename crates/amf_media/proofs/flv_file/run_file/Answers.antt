-- What was put is written at the end.
use Rattle.std.proofs.Common.{sym, subst}
use Rattle.amf_io.specs.Cursor.{place, unread}
use Rattle.amf_media.specs.FlvSteps.{ended, work_of, FileCopies, ClosesBy}
use Rattle.amf_media.proofs.FlvFiles.{closed_by, closed_end, closed_counts, counts_ended}
use Rattle.amf_media.proofs.FlvMoves.{moves_closed}
use Rattle.amf_media.proofs.flv_file.run_file.Goals as goal

pub returns-clause-moves : goal.returns-clause-moves
returns-clause-moves g c =
    let S = g.S.Source in
    let O = g.O.Sink in
    let f = c.copy_file-copied in
    let x = subst (λ e. ClosesBy e c.close.result (O.tells c.close.new.out) (O.held f.new.out) (O.held c.close.new.out) c.deref.result.now (O.faults f.new.out) (O.faults c.close.new.out)) c.end_of-end.ensures c.close.ensures.closes in
    moves_closed S.tells S.left S.faults c.args.cursor.now f.new.cursor (O.tells c.close.new.out) (O.held f.new.out) (O.held c.close.new.out) c.deref.result.now (O.faults f.new.out) (O.faults c.close.new.out) (ended f.result) c.close.result f.ensures.ends f.ensures.moves x

pub returns-clause-runs : goal.returns-clause-runs
returns-clause-runs g c = λ value st y.
    let S = g.S.Source in
    let O = g.O.Sink in
    let k = c.args.cursor.now in
    let f = c.copy_file-copied in
    let x = subst (λ e. ClosesBy e c.close.result (O.tells c.close.new.out) (O.held f.new.out) (O.held c.close.new.out) c.deref.result.now (O.faults f.new.out) (O.faults c.close.new.out)) c.end_of-end.ensures c.close.ensures.closes in
    closed_by (work_of c.args.job value) (place k) (unread S.left k) (unread S.left f.new.cursor) (O.tells c.close.new.out) (O.tells f.new.out) c.close.ensures.tells (O.held c.args.out.now) (O.held f.new.out) (O.held c.close.new.out) c.deref.result.now (O.faults f.new.out) (O.faults c.close.new.out) (ended f.result) c.close.result f.ensures.ends
    (subst (λ l. FileCopies (work_of c.args.job value) (place k) (unread S.left k) (unread S.left f.new.cursor) (O.tells f.new.out) (O.held c.args.out.now) (O.held f.new.out) l (ended f.result)) (sym c.deref.ensures.value) (f.ensures.copies value st y)) x

pub returns-clause-ends : goal.returns-clause-ends
returns-clause-ends g c =
    let O = g.O.Sink in
    let f = c.copy_file-copied in
    let x = subst (λ e. ClosesBy e c.close.result (O.tells c.close.new.out) (O.held f.new.out) (O.held c.close.new.out) c.deref.result.now (O.faults f.new.out) (O.faults c.close.new.out)) c.end_of-end.ensures c.close.ensures.closes in
    closed_end (O.tells c.close.new.out) (O.held f.new.out) (O.held c.close.new.out) c.deref.result.now (O.faults f.new.out) (O.faults c.close.new.out) (ended f.result) c.close.result f.ensures.ends x

pub returns-clause-counts : goal.returns-clause-counts
returns-clause-counts g c =
    let O = g.O.Sink in
    let f = c.copy_file-copied in
    let x = subst (λ e. ClosesBy e c.close.result (O.tells c.close.new.out) (O.held f.new.out) (O.held c.close.new.out) c.deref.result.now (O.faults f.new.out) (O.faults c.close.new.out)) c.end_of-end.ensures c.close.ensures.closes in
    closed_counts (O.tells c.close.new.out) (O.held f.new.out) (O.held c.close.new.out) c.deref.result.now (O.faults c.args.out.now) (O.faults f.new.out) (O.faults c.close.new.out) (ended f.result) c.close.result f.ensures.ends (counts_ended (O.faults c.args.out.now) (O.faults f.new.out) f.result f.ensures.counts) x
