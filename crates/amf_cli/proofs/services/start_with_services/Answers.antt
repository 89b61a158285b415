-- The services are those that are shipped.
use Rattle.std.proofs.Common.{refl, ◌∙◌}
use Rattle.amf_cli.proofs.CallLaws.{memory_calls}
use Rattle.amf_cli.proofs.EndsLaws.{memory_ends_with}
use Rattle.amf_cli.proofs.FrontLaws.{ends_again, ends_from, kept_serves}
use Rattle.amf_cli.proofs.ListenLaws.{memory_listens}
use Rattle.amf_cli.proofs.ServiceLaws.{shipped_lawful}
use Rattle.amf_cli.proofs.services.start_with_services.Goals as goal

pub returns-in-Ok : goal.returns-in-Ok
returns-in-Ok g c = c.in-Ok.ensures.runs

pub returns-in-Err : goal.returns-in-Err
returns-in-Err g c =
    let same = c.in-Err.ensures.untouched in
    let input = c.start_shipped.new.input in
    let out = c.start_shipped.new.out in
    let err = c.start_shipped.new.err in
    let five = c.from.ensures ∙ c.end_with.ensures.status in
    let ended = memory_ends_with g.I.Source g.O.Sink g.E.Sink (g.A.Arguments.words c.args.arguments.now) input out err c.end_with.new.err _ c.end_with.ensures.status c.end_with.ensures.counted c.end_with.ensures.line in (
      g.A.Arguments.words c.args.arguments.now,
      (λ told. refl),
      ends_again _ _ _ _ _ _ _ _ _ _ _ _ c.from.ensures (ends_from g.I.Source g.O.Sink g.E.Sink _ _ c.args.input.now input input c.args.out.now out out c.args.err.now err c.end_with.new.err same.0 same.1 same.2 ended),
      kept_serves _ _ _ _ _ _ _ _ _ _ _ (shipped_lawful c.service_laws.ensures) same.3 same.1 five,
      memory_calls g.I.Source g.O.Sink g.E.Sink g.D.Dial g.D.Link.Link _ _ c.args.input.now input c.args.out.now out c.args.err.now err c.end_with.new.err c.args.dial.now _ five same.0 same.1 same.2 same.4 c.end_with.ensures.line,
      memory_listens g.I.Source g.O.Sink g.E.Sink g.D.Dial g.D.Link.Link _ _ c.args.out.now out c.args.err.now err c.end_with.new.err c.args.dial.now _ five same.1 same.2 same.4 c.end_with.ensures.line,
    )
