use Rattle.std.proofs.Common.{◌≡◌, List, ℕ, Option, Some, sym, refl, subst}
use Rattle.std.specs.Option.{option_map}
use Rattle.amf_graph.specs.Graph.{Graph}
use Rattle.amf_graph.specs.Rooted.{RootedArena, content}
use Rattle.amf_answer_plan.specs.Runs.{IsStored, Finds}
use Rattle.amf_flex_replies.proofs.sync_messages.Batch.add.Goals as goal

pub returns-in_ok-deliver-in-Some-clause-adds : goal.returns-in_ok-deliver-in-Some-clause-adds
returns-in_ok-deliver-in-Some-clause-adds c =
    let b = c.as_bytes.result.now in
    let found : IsStored (content c.in-Some.message) b = subst (λ (o : Option RootedArena). Finds (λ h. IsStored h b) (option_map content o)) c.in-Some.is c.in_ok-message.ensures.finds in
    (content c.in-Some.message, subst (λ (x : List ℕ). IsStored (content c.in-Some.message) x) c.as_bytes.ensures found, c.in_ok-deliver-in-Some.ensures.adds)

pub returns-in-None-clause-adds : goal.returns-in-None-clause-adds
returns-in-None-clause-adds c =
    let b = c.as_bytes.result.now in
    let never : (h : Graph) → IsStored h b → ⊥ = subst (λ (o : Option RootedArena). Finds (λ h. IsStored h b) (option_map content o)) c.in-None.is c.in_ok-message.ensures.finds in
    ((λ h s. never h (subst (λ (x : List ℕ). IsStored h x) (sym c.as_bytes.ensures) s)), refl)
