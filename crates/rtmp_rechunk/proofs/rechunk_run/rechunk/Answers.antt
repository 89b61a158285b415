use Rattle.std.proofs.Common.{[], refl, sym, subst}
use Rattle.std.proofs.lemmas.List.{append-nil}
use Rattle.rtmp_rechunk.specs.Pass.{Passes, WroteAll, WroteSome}
use Rattle.rtmp_rechunk.specs.Rechunk.{Restarts, Repeats, EndsSilently}
use Rattle.rtmp_rechunk.proofs.Streams.{no_memory}
use Rattle.rtmp_rechunk.proofs.Turns.{counts_memory}
use Rattle.rtmp_rechunk.proofs.Rests.{none_read}
use Rattle.rtmp_rechunk.proofs.rechunk_run.rechunk.Goals as goal

pub returns-in_err-handler-clause-passes : goal.returns-in_err-handler-clause-passes
returns-in_err-handler-clause-passes g c = λ x.
    let I = g.I.Source in
    let O = g.O.Sink in
    let o = c.args.out.now in
    let n = c.args.size in
    no_memory (Restarts n) (Repeats n) EndsSilently (I.left c.args.input.now) (I.left c.args.input.now) (WroteAll (O.tells o) (O.held o) (O.held o)) (WroteSome (O.tells o) (O.held o) (O.held o)) c.from_residual.result c.from_residual.ensures.1
    (λ t. record { front = []; rest = []; parts = refl; added = sym (append-nil (O.held o)) })

pub returns-in_err-handler-clause-reads : goal.returns-in_err-handler-clause-reads
returns-in_err-handler-clause-reads g c = none_read (g.I.Source.faults c.args.input.now) c.from_residual.result c.from_residual.ensures.1

pub returns-in_err-handler-clause-writes : goal.returns-in_err-handler-clause-writes
returns-in_err-handler-clause-writes g c = counts_memory (g.O.Sink.faults c.args.out.now) c.from_residual.result c.from_residual.ensures.1

pub returns-clause-passes : goal.returns-clause-passes
returns-clause-passes g c = λ x.
    let I = g.I.Source in
    let O = g.O.Sink in
    let o = c.args.out.now in
    let p = c.pass_over.new.out in
    subst (λ n. Passes (Restarts n) (Repeats n) EndsSilently (I.left c.args.input.now) (I.left c.pass_over.new.input) (WroteAll (O.tells p) (O.held o) (O.held p)) (WroteSome (O.tells p) (O.held o) (O.held p)) c.pass_over.result) c.in_ok-handler.ensures (c.pass_over.ensures.passes x)
