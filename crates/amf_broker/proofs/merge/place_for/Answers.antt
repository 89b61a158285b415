-- The place that was found is the first of a later message.
use Rattle.std.proofs.Common.{◌≤◌, ◌∙◌, sym, length, subst}
use Rattle.std.specs.Prelude.{nat_lt}
use Rattle.amf_broker.specs.declared.reply.Delivery.{Delivery}
use Rattle.amf_broker.proofs.Firsts.{place-of, place-none, absent-any, place-le}
use Rattle.amf_broker.proofs.merge.place_for.Goals as goal

pub returns-in-Some-clause-place : goal.returns-in-Some-clause-place
returns-in-Some-clause-place c = place-of (λ (d : Delivery). nat_lt c.args.number d.number) c.args.queue.now c.in-Some.place (sym c.in-Some.is ∙ c.first_later.ensures)

pub returns-in-Some-clause-bound : goal.returns-in-Some-clause-bound
returns-in-Some-clause-bound c = subst (λ i. i ≤ length c.args.queue.now) (sym (place-of (λ (d : Delivery). nat_lt c.args.number d.number) c.args.queue.now c.in-Some.place (sym c.in-Some.is ∙ c.first_later.ensures))) (place-le (λ (d : Delivery). nat_lt c.args.number d.number) c.args.queue.now)

pub returns-in-None-clause-place : goal.returns-in-None-clause-place
returns-in-None-clause-place c = sym (place-none (λ (d : Delivery). nat_lt c.args.number d.number) c.args.queue.now (absent-any (λ (d : Delivery). nat_lt c.args.number d.number) c.args.queue.now (sym c.in-None.is ∙ c.first_later.ensures)))
