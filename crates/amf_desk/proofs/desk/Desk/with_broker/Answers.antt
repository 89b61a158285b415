-- A new table keeps the rule.
use Rattle.std.proofs.Common.{◌≡◌, ◌∙◌, ◌∷◌, [], ◌++◌, ap, sym, subst, List, Option, Some}
use Rattle.amf_desk.specs.declared.counted.CountedBroker.{CountedBroker}
use Rattle.amf_desk.specs.Histories.{counted_after}
use Rattle.amf_desk.specs.Rule.{Explained, first_view}
use Rattle.atomic_table.specs.Table.{opening}
use Rattle.amf_desk.proofs.Turns.{ready_first}
use Rattle.amf_desk.proofs.Keeps.{opens}
use Rattle.amf_desk.proofs.desk.Desk.with_broker.Goals as goal

pub new-requires : goal.new-requires
new-requires c = let destinations = c.args.about.now.value.items in
    let items : c.push.new.self.items ≡ Some (counted_after destinations []) ∷ [] = c.in_ok-push.ensures.items ∙ (ap (λ (l : List (Option CountedBroker)). l ++ Some c.args.broker ∷ []) c.new-slots.ensures.items ∙ ap (λ (x : CountedBroker). Some x ∷ []) c.requires) in
    subst (λ (z : List (Option CountedBroker)). Explained destinations (opening (0 ∷ 0 ∷ 0 ∷ []) z (first_view destinations))) (sym items) (opens destinations)

pub invariant_of-result-in-Ok : goal.invariant_of-result-in-Ok
invariant_of-result-in-Ok c = ready_first c.args.about.now.value.items _ c.in-Ok.ensures.ok.4
