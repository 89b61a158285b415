-- Those that leave are filtered out.
use Rattle.std.proofs.Common.{rules}
use Rattle.std.proofs.lemmas.Fn.{filter_same}
use Rattle.amf_broker.proofs.lines.part_mailboxes.Goals as goal

pub returns-in_default-clause-clients : goal.returns-in_default-clause-clients
returns-in_default-clause-clients c = filter_same _ _ _ (λ x b f' k. search rules) _ _ c.retain.ensures.filtered
