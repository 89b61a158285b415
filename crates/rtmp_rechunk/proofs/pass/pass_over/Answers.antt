use Rattle.std.proofs.Common.{sym, subst, ◌∙◌, ◌++◌, ◌≡◌, ◌≤◌, ℕ}
use Rattle.amf_io.specs.Outside.{Rose}
use Rattle.amf_io.specs.Written.{WritesFront}
use Rattle.rtmp_rechunk.proofs.Rests.{lost_passes, wrote_passes, failed_passes, reads_counted, none_counted, still_counted}
use Rattle.rtmp_rechunk.proofs.pass.pass_over.Goals as goal

pub returns-then-is_lost-clause-passes : goal.returns-then-is_lost-clause-passes
returns-then-is_lost-clause-passes g c = λ x.
    let H = g.H.Handler in
    let I = g.I.Source in
    let O = g.O.Sink in
    let h = c.args.handler.now in
    let r = c.read_input-ended in
    let p = r.new.out in
    lost_passes (H.begins h) (H.says h) (H.ends h) (I.left c.args.input.now) (I.left r.new.input) (O.held c.args.out.now) (O.tells p) (O.held p) r.new.waiting.items r.result (sym c.is_lost.ensures ∙ c.if-is_lost.true) (r.ensures.passes x)

pub returns-in-Ok-clause-passes : goal.returns-in-Ok-clause-passes
returns-in-Ok-clause-passes g c = λ x.
    let H = g.H.Handler in
    let I = g.I.Source in
    let O = g.O.Sink in
    let h = c.args.handler.now in
    let r = c.read_input-ended in
    let p = r.new.out in
    let n = c.write_whole.new.sink in
    let w = r.new.waiting.items in
    wrote_passes (H.begins h) (H.says h) (H.ends h) (I.left c.args.input.now) (I.left r.new.input) (O.held c.args.out.now) (O.tells p) (O.held p) w (O.tells n) c.in-Ok.ensures.tells (O.held n) r.result (sym c.is_lost.ensures ∙ c.if-is_lost.false)
    (λ t. subst (λ l. O.held n ≡ O.held p ++ l) c.deref.ensures.value (c.in-Ok.ensures.writes t)) (r.ensures.passes x)

pub returns-in-Ok-clause-writes : goal.returns-in-Ok-clause-writes
returns-in-Ok-clause-writes g c =
    let O = g.O.Sink in
    let r = c.read_input-ended in
    let kept = sym c.is_lost.ensures ∙ c.if-is_lost.false in
    still_counted (O.faults c.args.out.now) (O.faults c.write_whole.new.sink) r.result kept (c.in-Ok.ensures.cause ∙ none_counted (O.faults c.args.out.now) (O.faults r.new.out) r.result kept r.ensures.writes)

pub returns-clause-passes : goal.returns-clause-passes
returns-clause-passes g c = λ x.
    let H = g.H.Handler in
    let I = g.I.Source in
    let O = g.O.Sink in
    let h = c.args.handler.now in
    let r = c.read_input-ended in
    let p = r.new.out in
    let n = c.write_whole.new.sink in
    let w = r.new.waiting.items in
    failed_passes (H.begins h) (H.says h) (H.ends h) (I.left c.args.input.now) (I.left r.new.input) (O.held c.args.out.now) (O.tells p) (O.held p) w (O.tells n) c.in-Err.ensures.tells (O.held n) r.result (sym c.is_lost.ensures ∙ c.if-is_lost.false)
    (λ t. subst (λ l. WritesFront (O.held p) (O.held n) l) c.deref.ensures.value (c.in-Err.ensures.writes t)) (r.ensures.passes x)

pub returns-clause-reads : goal.returns-clause-reads
returns-clause-reads g c =
    let I = g.I.Source in
    let r = c.read_input-ended in
    reads_counted (I.faults c.args.input.now) (I.faults r.new.input) r.result (sym c.is_lost.ensures ∙ c.if-is_lost.false) r.ensures.reads

pub returns-clause-writes : goal.returns-clause-writes
returns-clause-writes g c =
    let O = g.O.Sink in
    let r = c.read_input-ended in
    let same = none_counted (O.faults c.args.out.now) (O.faults r.new.out) r.result (sym c.is_lost.ensures ∙ c.if-is_lost.false) r.ensures.writes in
    subst (λ n. goal_counts n (O.faults c.write_whole.new.sink)) same c.in-Err.ensures.cause
  where
    goal_counts : ℕ → ℕ → Type 0
    goal_counts before now = (before ≤ now) × Rose before now
