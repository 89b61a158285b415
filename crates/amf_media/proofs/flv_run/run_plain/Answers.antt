use Rattle.std.proofs.Common.{subst}
use Rattle.amf_io.specs.Cursor.{source_of, unread}
use Rattle.amf_media.specs.FlvRuns.{FileRuns}
use Rattle.amf_media.specs.FlvSteps.{work_of}
use Rattle.amf_media.proofs.FlvWhole.{runs_left, runs_so, taken_by, file_untouched}
use Rattle.amf_media.proofs.flv_run.run_plain.Goals as goal

pub returns-clause-runs : goal.returns-clause-runs
returns-clause-runs g c = λ y.
    let S = g.S.Source in
    let O = g.O.Sink in
    let k = c.args.cursor.now in
    let new = c.run_file.new in
    let input = unread S.left k in
    runs_so c.args.job input (S.left (source_of new.cursor).now) (O.tells new.out) (O.held c.args.out.now) (O.held new.out) c.run_file.result c.requires.plain (λ value st.
    runs_left S.tells S.left S.faults k new.cursor (work_of c.args.job value) 0 input (O.tells new.out) (O.held c.args.out.now) (O.held new.out) c.run_file.result c.run_file.ensures.moves
    (subst (λ n. FileRuns (work_of c.args.job value) n input (unread S.left new.cursor) (O.tells new.out) (O.held c.args.out.now) (O.held new.out) c.run_file.result) c.requires.at_start (c.run_file.ensures.runs value st y)))

pub returns-clause-taken : goal.returns-clause-taken
returns-clause-taken g c = λ y. taken_by g.S.Source.tells g.S.Source.left g.S.Source.faults c.args.cursor.now c.run_file.new.cursor c.run_file.result c.requires.at_start c.requires.limit c.run_file.ensures.moves y

pub returns-clause-untouched : goal.returns-clause-untouched
returns-clause-untouched g c = file_untouched c.args.out.now c.run_file.new.out c.run_file.result c.run_file.ensures.ends
