-- The snapshot has the destinations.
use Rattle.std.proofs.Common.{◌∙◌, ap, sym, []}
use Rattle.amf_desk.specs.Histories.{counted_after}
use Rattle.amf_desk.proofs.desk.Desk.open_keyed.Goals as goal

pub with_broker-requires : goal.with_broker-requires
with_broker-requires c = c.in_ok-broker.ensures ∙ ap (λ v. counted_after v.items []) (sym c.of-about.ensures)
