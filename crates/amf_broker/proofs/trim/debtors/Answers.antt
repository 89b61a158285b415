-- Where none of the topic has ended, nothing is owed.
use Rattle.std.proofs.Common.{sym, ◌∙◌}
use Rattle.amf_broker.proofs.Among.{none-owes}
use Rattle.amf_broker.proofs.trim.debtors.Goals as goal

pub returns : goal.returns
returns c = λ m. sym (none-owes c.args.topic.now c.args.slots.now m c.args.spots.now (sym c.has_debts.ensures ∙ c.if-has_debts.false))
