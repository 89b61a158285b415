-- What the steps of a round come to is what comes back of the call.
use Rattle.std.proofs.Common.{◌≡◌, ℕ, ◌<◌, ◌^◌, true, List, [], ◌++◌, length, refl, sym, subst, arith, Ok, Err}
use Rattle.std.specs.Prelude.{Result as Returned}
use Rattle.amf_graph.specs.Graph.{Graph}
use Rattle.amf_graph.specs.Rooted.{RootedArena}
use Rattle.amf_service.specs.Registry.{Entry}
use Rattle.amf_client.specs.declared.ends.AnswerFault.{AnswerFault}
use Rattle.amf_client.specs.declared.ends.AnswerFault.TheVariants as read_as
use Rattle.amf_client.specs.Answers as client
use Rattle.amf_client.specs.Asking.{IsAsk}
use Rattle.amf_client.specs.Outcomes.{Outcome, bad, fault, result}
use Rattle.amf_answer_plan.specs.Links.{link}
use Rattle.amf_answer_plan.specs.Serving.{ServeEnd, ended, read_fault, write_fault, no_memory, spent, Taken, Serves}
use Rattle.amf_answer_plan.specs.RespondLaws.{AreLawful}
use Rattle.amf_self_call_laws.specs.Exchange as exchange
use Rattle.amf_self_call_laws.specs.Exchange.{Exchange, ExchangeHolds}
use Rattle.amf_self_call_laws.specs.Quiet.{IsQuiet, CallIsQuiet}
use Rattle.amf_self_call_laws.specs.Round.{ComesBack, IsCall}
use Rattle.amf_self_call.specs.declared.ends.RoundEnd.{RoundEnd}
use Rattle.amf_self_call.specs.declared.ends.RoundEnd.TheVariants.{Fault, BadReply, Memory}
use Rattle.amf_self_call.specs.Rounds.{Tells, IsBack, Answers}
use Rattle.amf_self_call.specs.Steps.{AsksNothing, is_ended, IsAnswered, told_as, IsRead, starved, read}

-- what was written of a link is what it holds, where it held nothing before
pub written_first : (Is : List ℕ → Type 0) (held now : List ℕ) → held ≡ [] → (bytes : List ℕ) × Is bytes × (now ≡ held ++ bytes) → Is now
written_first Is held now none (bytes, is, e) = subst Is (sym (subst (λ z. now ≡ z ++ bytes) none e)) is

-- it was served to its end
pub answered_by : (services : List Entry) (call reply left leaves held : List ℕ) (k : Taken) (e : ServeEnd) → is_ended e ≡ true → left ≡ call → held ≡ [] → length reply < 2 ^ 64 →
    Serves services (record { left = left; leaves = leaves; held = held; now = reply }) k e → IsAnswered services call reply
answered_by services call reply left leaves held k (ended x) is l h f s = record {
  took = k;
  end = x;
  left = leaves;
  serves = subst (λ (z : List ℕ). Serves services (record { left = call; leaves = leaves; held = z; now = reply }) k (ended x)) h
      (subst (λ (z : List ℕ). Serves services (record { left = z; leaves = leaves; held = held; now = reply }) k (ended x)) l s);
  fits = f;
}
answered_by services call reply left leaves held k read_fault is l h f s = absurd cc
answered_by services call reply left leaves held k write_fault is l h f s = absurd cc
answered_by services call reply left leaves held k no_memory is l h f s = absurd cc
answered_by services call reply left leaves held k spent is l h f s = absurd cc

-- it was read of a link with these bytes, with nothing kept
pub read_of : (reply kept left keeps leaves : List ℕ) (a : Returned RootedArena AnswerFault) → kept ≡ [] → left ≡ reply → client.Answers kept left keeps leaves a → IsRead reply (told_as a)
read_of reply kept left keeps leaves a k l answers =
    read keeps leaves a (subst (λ z. client.Answers [] z keeps leaves a) l (subst (λ z. client.Answers z left keeps leaves a) k answers)) refl

-- An answer of `read_result` and that of a round tell the same.

same_graph : (o : Outcome Graph) (h : RootedArena) → exchange.Tells o (Ok h) → Tells o (Ok h)
same_graph (bad n) h t = absurd t
same_graph (fault c x) h t = absurd t
same_graph (result g) h t = t

same_fault : (o : Outcome Graph) (code text : List ℕ) → exchange.Tells o (Err (read_as.Fault code text)) → Tells o (Err (Fault code text))
same_fault (bad n) code text t = absurd t
same_fault (fault c x) code text t = t
same_fault (result g) code text t = absurd t

same_number : (o : Outcome Graph) (number : ℕ) → exchange.Tells o (Err (read_as.BadReply number)) → Tells o (Err (BadReply number))
same_number (bad n) number t = t
same_number (fault c x) number t = absurd t
same_number (result g) number t = absurd t

module _ (services : List Entry) (target : List ℕ) (args : Graph) (asked : List ℕ) (ask : IsAsk 80 target args asked) where
  is_back : (a : Returned RootedArena RoundEnd) (o : Outcome Graph) → ComesBack services target args ask.packet o → Tells o a → IsBack services target args a
  is_back a o comes tells = record { asked = asked; ask = ask; outcome = o; comes = comes; tells = tells }

  told_back : (a : Returned RootedArena AnswerFault) → (o : Outcome Graph) × ComesBack services target args ask.packet o × exchange.Tells o a → Answers services target args (told_as a)
  told_back (Ok h) (o, comes, t) = is_back (Ok h) o comes (same_graph o h t)
  told_back (Err (read_as.Fault code text)) (o, comes, t) = is_back (Err (Fault code text)) o comes (same_fault o code text t)
  told_back (Err (read_as.BadReply number)) (o, comes, t) = is_back (Err (BadReply number)) o comes (same_number o number t)
  told_back (Err read_as.ReadFault) t = tt
  told_back (Err read_as.Memory) t = tt

  -- what is read of what is answered to the call
  pub round_answers : ExchangeHolds → AreLawful services → IsCall target args → length asked < 2 ^ 64 → (call : List ℕ) → call ≡ asked → (reply : List ℕ) → IsAnswered services call reply →
      (got : List ℕ) → got ≡ reply → (r : Returned RootedArena RoundEnd) → IsRead got r → Answers services target args r
  round_answers holds lawful is_call fits call same reply answered got got_is r (starved e) = subst (Answers services target args) (sym e) tt
  round_answers holds lawful is_call fits call same reply answered got got_is r (read keeps leaves a answers e) =
      let x : Exchange services target args = record {
        port = 80;
        low = omega arith;
        asked = asked;
        ask = ask;
        asked_fits = fits;
        link = record { left = call; leaves = answered.left; held = []; now = reply };
        has_left = same;
        taken = answered.took;
        end = answered.end;
        serves = answered.serves;
        wrote = reply;
        holds = refl;
        wrote_fits = answered.fits;
        kept = [];
        left = got;
        reads = got_is;
        keeps = keeps;
        leaves = leaves;
        answer = a;
        answers = answers;
      } in
      subst (Answers services target args) (sym e) (told_back a (holds services lawful target args is_call x))

  -- the call asks nothing of the desk
  pub asks_nothing : CallIsQuiet → IsCall target args → length asked < 2 ^ 64 → (call : List ℕ) → call ≡ asked → AsksNothing services call
  asks_nothing holds is_call fits call same = record { quiet = subst (λ (z : List ℕ). IsQuiet (link services z)) (sym same) (holds services target args is_call 80 (omega arith) asked ask fits) }

pub starved_answers : (services : List Entry) (target : List ℕ) (args : Graph) (r : Returned RootedArena RoundEnd) → r ≡ Err Memory → Answers services target args r
starved_answers services target args r e = subst (Answers services target args) (sym e) tt
