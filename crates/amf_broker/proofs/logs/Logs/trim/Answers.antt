-- The topic of the line stays.
use Rattle.std.proofs.Common.{◌∙◌, ap, subst, refl}
use Rattle.amf_broker.specs.Members.{Line}
use Rattle.amf_broker.specs.Trims.{IsTrimmed}
use Rattle.amf_broker.specs.Slots.{standing}
use Rattle.amf_broker.proofs.Noted.{apart-set, noted-set}
use Rattle.amf_broker.proofs.logs.Logs.trim.Goals as goal

pub invariant_of-self : goal.invariant_of-self
invariant_of-self c =
    let lines = c.self.inside.list.items in
    let same = ap (λ (l : Line). l.topic) c.trim.ensures.log.line ∙ ap (λ (l : Line). l.topic) c.index_mut.ensures.value in (
      apart-set lines c.args.at c.trim.new.self c.index_mut.result.now same ∙ c.self.invariant.0,
      noted-set c.self.inside.start c.self.inside.places lines c.args.at c.trim.new.self c.index_mut.result.now same ∙ c.self.invariant.1,
    )

pub returns-clause-logs : goal.returns-clause-logs
returns-clause-logs c =
    let less = rw (← c.self.view_is) at c.requires in
    rw (← c.self.view_is) (record { within = less; was = c.index_mut.result.now; line = c.trim.new.self; trimmed = subst (λ (l : Line). IsTrimmed (standing c.args.places.now) l c.trim.new.self) c.index_mut.ensures.value c.trim.ensures.log; is = refl })
