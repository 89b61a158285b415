-- The registry has the services that are shipped.
use Rattle.std.proofs.Common.{refl}
use Rattle.amf_cli.proofs.ServiceLaws.{serves_shipped}
use Rattle.amf_cli.proofs.services.start_shipped.Goals as goal

pub returns-clause-runs : goal.returns-clause-runs
returns-clause-runs g c =
    let echo = c.into_dyn_box in
    let sum = c.into_dyn_box-in_ok-new-2 in
    let names = c.into_dyn_box-in_ok-new-3 in (
      c.start.ensures.0,
      c.start.ensures.1,
      c.start.ensures.2,
      serves_shipped _ _ _ _ _ _ _ _ _ _ _ _ _ _ c.start.ensures.3
          c.new-entries.result.items c.push.new.self.items c.push-2.new.self.items c.push-3.new.self.items
          c.in_ok-of_bytes.field-0 c.in_ok-of_bytes-2.field-0 c.in_ok-of_bytes-3.field-0 echo.result sum.result names.result _ _ _
          c.in-Ok.ensures.entries c.new-entries.ensures.items c.in_ok-push.ensures.items c.in_ok-push-2.ensures.items c.in_ok-push-3.ensures.items
          c.in_ok-of_bytes.ensures c.in_ok-of_bytes-2.ensures c.in_ok-of_bytes-3.ensures echo.ensures.0 sum.ensures.0 names.ensures.0
          (λ i. refl) (λ i. refl) (λ i. refl),
      c.start.ensures.4,
      c.start.ensures.5,
    )
