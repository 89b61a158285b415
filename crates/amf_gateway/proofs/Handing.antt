-- What was given, step by step.
use Rattle.std.proofs.Common.{◌≡◌, ◌∙◌, ℕ, ◌+◌, ◌-◌, ◌^◌, min, Option, Some, None, List, [], ◌∷◌, ◌++◌, sym, ap, subst, arith, append-nil}
use Rattle.amf_io.specs.Outside.{Keeps}
use Rattle.amf_broker.specs.declared.call.Call.{Call}
use Rattle.amf_broker.specs.declared.reply.Answer.{Answer}
use Rattle.amf_broker.specs.History.{Entry as Event, IsLegal}
use Rattle.amf_desk.specs.Histories.{own}
use Rattle.amf_desk.specs.declared.closed.DeskEnd.{DeskEnd}
use Rattle.amf_desk.specs.declared.closed.DeskEnd.TheVariants.{Spent, Memory}
use Rattle.amf_desk.specs.Ends.{Ended}
use Rattle.amf_desk.specs.Passes.{Held, Explains, Called, Looked}
use Rattle.amf_desk.proofs.Own.{called_own, looked_own, called_begins, looked_begins}
use Rattle.amf_answer_plan.specs.Did.{moment_taken, word_taken, entry_taken}
use Rattle.amf_answer_plan.specs.declared.outside.Unanswered.{Unanswered}
use Rattle.amf_answer_plan.specs.declared.outside.Unanswered.TheVariants as unanswered_by
use Rattle.amf_gateway.specs.WorkerSteps.{reason_of}
use Rattle.amf_gateway.specs.Handed.{Given, AidGoesOn, PassGoesOn, CallsGoOn}
use Rattle.amf_gateway.specs.HandedLaws.{aid_none, pass_none}
use Rattle.amf_gateway.specs.Tells.{HallMembers, LinksStay}
use Rattle.amf_answer_plan.specs.Small.{IsSmall}
use Rattle.amf_gateway.proofs.SmallReplies.{last_small}

given_none : (told tells : Type 0) (before now : List ℕ) → Keeps told tells before now → Given told tells before now []
given_none told tells before now k = record { since = k.since; same = λ t. k.same (k.since t) ∙ sym (append-nil before) }

module _ {A L : Type 0} (aid : HallMembers A L) where
  pub aid_moment : (a b : A) (m : ℕ) → (aid.tells_moments b → aid.tells_moments a) → (aid.tells_moments b → aid.moments b ≡ aid.moments a ++ m ∷ []) → Keeps (aid.tells_words a) (aid.tells_words b) (aid.words a) (aid.words b) → LinksStay aid a b
      → AidGoesOn aid a b (moment_taken m).taken
  aid_moment a b m since gives k s = record { moments_given = record { since = since; same = gives }; words_given = given_none (aid.tells_words a) (aid.tells_words b) (aid.words a) (aid.words b) k; links = s }

  pub aid_word : (a b : A) (w : ℕ) → (aid.tells_words b → aid.tells_words a) → (aid.tells_words b → aid.words b ≡ aid.words a ++ w ∷ []) → Keeps (aid.tells_moments a) (aid.tells_moments b) (aid.moments a) (aid.moments b) → LinksStay aid a b
      → AidGoesOn aid a b (word_taken w).taken
  aid_word a b w since gives k s = record { words_given = record { since = since; same = gives }; moments_given = given_none (aid.tells_moments a) (aid.tells_moments b) (aid.moments a) (aid.moments b) k; links = s }

  pub aid_entry : (a : A) (e : Event) → AidGoesOn aid a a (entry_taken e).taken
  aid_entry a e = let none = aid_none aid a in record { moments_given = none.moments_given; words_given = none.words_given; links = none.links }

-- The pass.

pub pass_called : (p q : Held) (moment : ℕ) (call : Call) (answer : Answer) → Called p moment call answer q → PassGoesOn p q (record { caller = p.number; moment = moment; call = call; answer = answer } ∷ [])
pass_called p q moment call answer c = record {
  desk = c.desk;
  destinations = c.destinations;
  number = c.number;
  splits = c.splits;
  own_entries = called_own p q moment call answer c;
  begins = called_begins p q moment call answer c;
  budget = c.budget;
  explained = λ e. subst (λ (d : List (List ℕ)). Explains d q.seen) (sym c.destinations) c.explained;
}

-- the reply of the last entry of a legal history
pub called_small : (p q : Held) (moment : ℕ) (call : Call) (answer : Answer) → Called p moment call answer q → IsSmall answer.reply
called_small p q moment call answer c = last_small p.destinations (p.seen ++ c.between) (record { caller = p.number; moment = moment; call = call; answer = answer }) (subst (IsLegal p.destinations) c.seen c.explained.legal)

pub pass_looked : (p q : Held) → Looked p q → PassGoesOn p q []
pass_looked p q l = record {
  desk = l.desk;
  destinations = l.destinations;
  number = l.number;
  splits = l.splits;
  own_entries = looked_own p q l ∙ sym (append-nil (own p.number p.seen));
  begins = looked_begins p q l;
  budget = omega (arith, l.budget);
  explained = λ e. subst (λ (d : List (List ℕ)). Explains d q.seen) (sym l.destinations) l.explained;
}

-- whyever a call has no answer
pub pass_ended : (p q : Held) (moment : ℕ) (call : Call) (e : DeskEnd) → Ended p moment call q e → PassGoesOn p q []
pass_ended p q moment call Spent e = subst (λ (z : Held). PassGoesOn p z []) (sym e.1) (pass_none p)
pass_ended p q moment call Memory e = pass_looked p q e.1

-- a call that had an answer
pub calls_called : (p q : Held) (moment : ℕ) (call : Call) (answer : Answer) (u : Option Unanswered) (before now : ℕ) → Called p moment call answer q → now ≡ min (before + 1) (2 ^ 64 - 1) → CallsGoOn p q u u before now 1
calls_called p q moment call answer u before now c e = record {
  counted = λ l. omega (arith, e);
  still = omega arith;
  spent = λ b f. let none = b f in let one = c.budget in omega arith;
}

-- only another reason than want of calls
none_left_so : (p q : Held) (moment : ℕ) (call : Call) (e : DeskEnd) → Ended p moment call q e → Some (reason_of e) ≡ Some unanswered_by.Spent → q.budget ≡ 0
none_left_so p q moment call Spent e f = ap (λ (z : Held). z.budget) e.1 ∙ e.0
none_left_so p q moment call Memory e f = absurd cc

-- a call that had none
pub calls_ended : (p q : Held) (moment : ℕ) (call : Call) (why : DeskEnd) (before now : ℕ) → Ended p moment call q why → now ≡ min (before + 1) (2 ^ 64 - 1) → CallsGoOn p q None (Some (reason_of why)) before now 0
calls_ended p q moment call why before now e f = record {
  counted = λ l. omega (arith, f);
  still = omega arith;
  spent = λ b g. none_left_so p q moment call why e g;
}
