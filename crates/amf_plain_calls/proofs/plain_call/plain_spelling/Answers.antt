use Rattle.std.proofs.Common.{ℕ, List, Option, subst}
use Rattle.std.proofs.lemmas.Result.{IfOk-weaker}
use Rattle.amf_graph.specs.Rooted.{content}
use Rattle.amf0_spelling.specs.declared.form.Form.TheVariants.{Plain}
use Rattle.amf_packet.specs.SpelledBodies.{TellsSpelling}
use Rattle.amf_plain_calls.proofs.Plain.{plain_found, plain_else}
use Rattle.amf_plain_calls.proofs.plain_call.plain_spelling.Goals as goal

pub returns-in-Some : goal.returns-in-Some
returns-in-Some c =
    let h = content c.args.graph.now in
    plain_found h c.in-Some.body (subst (λ (o : Option (List ℕ)). TellsSpelling Plain h o) c.in-Some.is c.in_ok-spelling.ensures)

pub returns-in-None : goal.returns-in-None
returns-in-None c =
    let h = content c.args.graph.now in
    IfOk-weaker c.of-in-None.result _ _ (λ o t. plain_else h o (subst (λ (z : Option (List ℕ)). TellsSpelling Plain h z) c.in-None.is c.in_ok-spelling.ensures) t) c.of-in-None.ensures
