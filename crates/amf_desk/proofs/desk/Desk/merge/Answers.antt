-- The two steps keep the rule, and the second tells which of the two has seen more.
use Rattle.std.proofs.Common.{rules, ◌∙◌, ◌⊎◌, List, ap, subst}
use Rattle.amf_broker.specs.History.{Entry}
use Rattle.amf_desk.specs.Histories.{Begins}
use Rattle.amf_desk.specs.Steps.{Sat, agreed}
use Rattle.amf_desk.proofs.Keeps.{joins, agrees}
use Rattle.amf_desk.proofs.desk.Desk.merge.Goals as goal

pub join_seat-requires : goal.join_seat-requires
join_seat-requires c = (search rules, search rules, c.requires.idle.2, search rules, joins _ _ c.args.seat.now.me.0 _ c.args.other.me.0 c.requires.idle.0 c.requires.idle.1 c.requires.second)

pub load-requires : goal.load-requires
load-requires c = (search rules, search rules, agrees _ _ _ _ c.args.other.me.0.seen (ap (λ (m : Sat). m.0.stage) c.join_seat.ensures.2))

pub returns-clause-both : goal.returns-clause-both
returns-clause-both c = let l = c.args.other.me.0.seen in let told = c.load.ensures.2 l (ap (λ (m : Sat). m.0.stage) c.join_seat.ensures.2) in told.0 ∙ ap (λ (m : Sat). (agreed m.0 l, m.1)) c.join_seat.ensures.2

pub returns-clause-line : goal.returns-clause-line
returns-clause-line c = let l = c.args.other.me.0.seen in let told = c.load.ensures.2 l (ap (λ (m : Sat). m.0.stage) c.join_seat.ensures.2) in
    subst (λ (xs : List Entry). Begins xs l ⊎ Begins l xs) (ap (λ (m : Sat). m.0.seen) c.join_seat.ensures.2) told.1

pub returns-clause-sound : goal.returns-clause-sound
returns-clause-sound c = (c.load.ensures.2 c.args.other.me.0.seen (ap (λ (m : Sat). m.0.stage) c.join_seat.ensures.2)).2
