use Rattle.rtmp_chunks.specs.Table.{message_seen}
use Rattle.rtmp_rechunk.specs.Reads.{Puts, PutsSome}
use Rattle.rtmp_rechunk.proofs.Turns.{handed_all, handed_some, handed_none, some_none, counts_memory}
use Rattle.rtmp_rechunk.proofs.reading.hand_on.Goals as goal

pub returns-in_err-message-clause-hands : goal.returns-in_err-message-clause-hands
returns-in_err-message-clause-hands g c =
    let H = g.H.Handler in
    let O = g.O.Sink in
    let o = c.args.out.now in
    let w = c.args.waiting.now.items in
    handed_none (H.says c.args.handler.now (message_seen c.args.message.now)) (Puts (O.tells o) (O.held o) (O.held o) w c.message.new.out.items) (PutsSome (O.tells o) (O.held o) (O.held o) w) c.from_residual.result c.from_residual.ensures.1 (some_none (O.tells o) (O.held o) w)

pub returns-in_err-message-clause-counts : goal.returns-in_err-message-clause-counts
returns-in_err-message-clause-counts g c = counts_memory (g.O.Sink.faults c.args.out.now) c.from_residual.result c.from_residual.ensures.1

pub returns-in-Ok-clause-hands : goal.returns-in-Ok-clause-hands
returns-in-Ok-clause-hands g c =
    let O = g.O.Sink in
    let a = c.in_ok-message.ensures.says in
    (a.0, a.1, λ t before all p. handed_all before (O.held c.args.out.now) (O.held c.write_much.new.sink) c.args.waiting.now.items c.message.new.out.items c.write_much.new.waiting.items all a.0 a.2 (c.in-Ok.ensures.kept t) p)

pub returns-in-Ok-clause-counts : goal.returns-in-Ok-clause-counts
returns-in-Ok-clause-counts g c = c.in-Ok.ensures.cause

pub returns-in-Err-clause-hands : goal.returns-in-Err-clause-hands
returns-in-Err-clause-hands g c =
    let O = g.O.Sink in
    let a = c.in_ok-message.ensures.says in
    (a.0, a.1, λ t before all p. handed_some before (O.held c.args.out.now) (O.held c.write_much.new.sink) c.args.waiting.now.items c.message.new.out.items all a.0 a.2 (c.in-Err.ensures.front t) p)

pub returns-in-Err-clause-counts : goal.returns-in-Err-clause-counts
returns-in-Err-clause-counts g c = c.in-Err.ensures.cause
