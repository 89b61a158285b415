-- The status is that of the run by these words.
use Rattle.std.proofs.Common.{refl, ◌∙◌}
use Rattle.amf_cli.proofs.CallLaws.{calls_again, memory_calls}
use Rattle.amf_cli.proofs.EndsLaws.{memory_ends_with, five_not_six}
use Rattle.amf_cli.proofs.FrontLaws.{data_serves, serves_again, ends_again}
use Rattle.amf_cli.proofs.ListenLaws.{listens_again, memory_listens}
use Rattle.amf_cli.proofs.start.start.Goals as goal

pub returns-in-Ok : goal.returns-in-Ok
returns-in-Ok g c = (
  c.deref.result.now,
  (λ told. c.deref.ensures.value ∙ c.in-Ok.ensures told),
  ends_again _ _ _ _ _ _ _ _ _ _ _ _ c.from.ensures c.run-status.ensures.ends,
  serves_again _ _ _ _ _ _ _ _ _ _ _ _ c.from.ensures c.run-status.ensures.serves,
  calls_again _ _ _ _ _ _ _ _ _ _ _ _ _ _ _ _ c.from.ensures c.run-status.ensures.calls,
  listens_again g.I.Source g.O.Sink g.E.Sink g.D.Dial g.D.Link.Link _ _ _ _ _ _ _ _ _ c.from.ensures c.run-status.ensures.listens,
)

pub returns-in-Err : goal.returns-in-Err
returns-in-Err g c = (
  g.A.Arguments.words c.args.arguments.now,
  (λ told. refl),
  ends_again _ _ _ _ _ _ _ _ _ _ _ _ c.from-in-Err.ensures (memory_ends_with g.I.Source g.O.Sink g.E.Sink _ c.args.input.now c.args.out.now c.args.err.now c.end_with.new.err _ c.end_with.ensures.status c.end_with.ensures.counted c.end_with.ensures.line),
  data_serves _ _ _ _ _ _ _ _ _ _ c.are_lawful.ensures (λ s. (c.from-in-Err.ensures ∙ c.end_with.ensures.status, refl)) (λ six. absurd (five_not_six _ (c.from-in-Err.ensures ∙ c.end_with.ensures.status) six)),
  memory_calls g.I.Source g.O.Sink g.E.Sink g.D.Dial g.D.Link.Link _ _ c.args.input.now c.args.input.now c.args.out.now c.args.out.now c.args.err.now c.args.err.now c.end_with.new.err c.args.dial.now c.args.dial.now (c.from-in-Err.ensures ∙ c.end_with.ensures.status) refl refl refl refl c.end_with.ensures.line,
  memory_listens g.I.Source g.O.Sink g.E.Sink g.D.Dial g.D.Link.Link _ _ c.args.out.now c.args.out.now c.args.err.now c.args.err.now c.end_with.new.err c.args.dial.now c.args.dial.now (c.from-in-Err.ensures ∙ c.end_with.ensures.status) refl refl refl c.end_with.ensures.line,
)
