use Rattle.rtmp_rechunk.specs.Reads.{PutAll, PutSome}
use Rattle.rtmp_rechunk.proofs.Streams.{no_memory, some_unwritten}
use Rattle.rtmp_rechunk.proofs.Turns.{counts_memory}
use Rattle.rtmp_rechunk.proofs.Rests.{none_read}
use Rattle.rtmp_rechunk.proofs.pass.read_input.Goals as goal

pub returns-in_err-window-clause-passes : goal.returns-in_err-window-clause-passes
returns-in_err-window-clause-passes g c = λ x.
    let H = g.H.Handler in
    let I = g.I.Source in
    let O = g.O.Sink in
    let h = c.args.handler.now in
    let o = c.args.out.now in
    no_memory (H.begins h) (H.says h) (H.ends h) (I.left c.args.input.now) (I.left c.args.input.now) (PutAll (O.tells o) (O.held o) (O.held o) c.args.waiting.now.items) (PutSome (O.tells o) (O.held o) (O.held o)) c.from_residual.result c.from_residual.ensures.1 (some_unwritten (O.tells o) (O.held o))

pub returns-in_err-window-clause-writes : goal.returns-in_err-window-clause-writes
returns-in_err-window-clause-writes g c = counts_memory (g.O.Sink.faults c.args.out.now) c.from_residual.result c.from_residual.ensures.1

pub returns-in_err-window-clause-reads : goal.returns-in_err-window-clause-reads
returns-in_err-window-clause-reads g c = none_read (g.I.Source.faults c.args.input.now) c.from_residual.result c.from_residual.ensures.1
