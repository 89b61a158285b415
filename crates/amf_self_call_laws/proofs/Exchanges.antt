-- What is read tells what comes back.
use Rattle.std.proofs.Common.{◌≡◌, ◌∙◌, ℕ, ◌<◌, ◌^◌, List, ◌++◌, length, refl, sym, subst, Some, Ok, Err}
use Rattle.std.specs.Prelude.{Result as Returned}
use Rattle.std.proofs.lemmas.List.{append_cancel_left}
use Rattle.amf_graph.specs.Graph.{Graph}
use Rattle.amf_graph.specs.Isomorphic.{Isomorphic}
use Rattle.amf_graph.specs.Rooted.{RootedArena, content}
use Rattle.amf_graph.proofs.Isomorphisms.{isomorphic_trans}
use Rattle.amf_client.specs.declared.ends.AnswerFault.{AnswerFault}
use Rattle.amf_client.specs.declared.ends.AnswerFault.TheVariants.{Fault, BadReply, ReadFault, Memory}
use Rattle.amf_client.specs.Answers.{Answers}
use Rattle.amf_client.specs.Laws.{OutcomesMatch}
use Rattle.amf_client.specs.Outcomes.{Outcome, bad, fault, result}
use Rattle.amf_answer_plan.specs.Links.{link}
use Rattle.amf_answer_plan.specs.Respond.{Responded, joined}
use Rattle.amf_answer_plan.specs.Runs.{gave, Runs}
use Rattle.amf_answer_plan.specs.Serving.{supply_of, calls_of, did, none_left}
use Rattle.amf_self_call_laws.specs.Exchange.{Tells, ExchangeHolds}
use Rattle.amf_self_call_laws.specs.Round.{Round, HasResult}
use Rattle.amf_self_call_laws.proofs.Rounds.{round_holds}

-- what goes with an outcome goes with one that is the same
tells_result : (o : Outcome Graph) (h : Graph) (x : RootedArena) → OutcomesMatch o (result h) → Isomorphic h (content x) → Tells o (Ok x)
tells_result (bad n) h x m i = absurd m
tells_result (fault c t) h x m i = absurd m
tells_result (result g) h x m i = isomorphic_trans g h (content x) m i

tells_fault : (o : Outcome Graph) (code text : List ℕ) → OutcomesMatch o (fault code text) → Tells o (Err (Fault code text))
tells_fault (bad n) code text m = absurd m
tells_fault (fault c t) code text m = m
tells_fault (result g) code text m = absurd m

tells_bad : (o : Outcome Graph) (number : ℕ) → OutcomesMatch o (bad number) → Tells o (Err (BadReply number))
tells_bad (bad n) number m = m
tells_bad (fault c t) number m = absurd m
tells_bad (result g) number m = absurd m

tells_none : (o : Outcome Graph) → Tells o (Err ReadFault) × Tells o (Err Memory)
tells_none (bad n) = (tt, tt)
tells_none (fault c t) = (tt, tt)
tells_none (result g) = (tt, tt)

read_tells : (bytes kept left keeps leaves : List ℕ) (o : Outcome Graph) → HasResult bytes o → kept ++ left ≡ bytes → (a : Returned RootedArena AnswerFault) → Answers kept left keeps leaves a → Tells o a
read_tells bytes kept left keeps leaves o h e a answers = by_answer a (subst (λ z. HasResult z o) (sym e) h) answers
  where
    by_answer : (b : Returned RootedArena AnswerFault) → HasResult (kept ++ left) o → Answers kept left keeps leaves b → Tells o b
    by_answer (Ok x) r (g, is, i) = tells_result o g x (r.alone (result g) (keeps ++ leaves) is) i
    by_answer (Err (Fault code text)) r is = tells_fault o code text (r.alone (fault code text) (keeps ++ leaves) is)
    by_answer (Err (BadReply number)) r (rest, is) = tells_bad o number (r.alone (bad number) rest is)
    by_answer (Err ReadFault) r is = (tells_none o).0
    by_answer (Err Memory) r is = (tells_none o).1

pub exchange_holds : ExchangeHolds
exchange_holds services laws target args c x =
    let done = x.serves in
    let wrote : x.wrote ≡ joined done.0 = append_cancel_left x.link.held x.wrote (joined done.0) (sym x.holds ∙ done.2) in
    let told : Responded = record { calls = calls_of x.taken; answers = done.0; ended = Some x.end } in
    let round : Round services target args = record {
      port = x.port;
      low = x.low;
      asked = x.asked;
      ask = x.ask;
      asked_fits = x.asked_fits;
      supply = supply_of x.taken;
      told = told;
      responds = (gave x.end none_left, subst (λ z. Runs (link services z) (supply_of x.taken) (did x.taken done.0) (gave x.end none_left)) x.has_left done.1, refl);
      told_fits = subst (λ z. length z < 2 ^ 64) wrote x.wrote_fits;
    } in
    let back = round_holds services laws target args c round in
    (back.0, back.1, read_tells (joined done.0) x.kept x.left x.keeps x.leaves back.0 back.2 (x.reads ∙ wrote) x.answer x.answers)
