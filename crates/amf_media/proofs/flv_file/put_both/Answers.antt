-- One piece, and then another.
use Rattle.std.proofs.lemmas.Result.{err_from_is_err_and}
use Rattle.amf_media.specs.Written.{CountsPuts}
use Rattle.std.proofs.Common.{subst}
use Rattle.amf_media.proofs.Puts.{puts_then, puts_short}
use Rattle.amf_media.proofs.flv_file.put_both.Goals as goal

pub returns-in_err-put-clause-puts : goal.returns-in_err-put-clause-puts
returns-in_err-put-clause-puts g c = λ t.
    let O = g.O.Sink in
    let p = err_from_is_err_and c.from_residual.result c.from_residual.ensures.1 in
    rw (p.1, p.2) (puts_short (O.held c.args.out.now) (O.held c.put.new.sink) c.args.waiting.now.items c.put.new.waiting.items c.args.head.now c.args.start.now c.in_err-put.field-0.0 (c.in_err-put.ensures.puts t))

pub returns-clause-puts : goal.returns-clause-puts
returns-clause-puts g c = λ t.
    let O = g.O.Sink in
    let q = c.put-2 in
    puts_then (O.held c.args.out.now) (O.held c.put.new.sink) (O.held q.new.sink) c.args.waiting.now.items c.put.new.waiting.items q.new.waiting.items c.args.head.now c.args.start.now q.result (c.in_ok-put.ensures.puts (q.ensures.tells t)) (q.ensures.puts t)

pub returns-clause-counts : goal.returns-clause-counts
returns-clause-counts g c =
    let O = g.O.Sink in
    subst (λ n. CountsPuts n (O.faults c.put-2.new.sink) c.put-2.result) c.in_ok-put.ensures.counts c.put-2.ensures.counts
