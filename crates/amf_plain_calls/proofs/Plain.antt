-- How plain calls are answered, by what is known of their parts.
use Rattle.std.proofs.Common.{◌≡◌, ℕ, true, false, List, Option, Some, None, refl, sym, subst}
use Rattle.amf_io.specs.Field.{flat}
use Rattle.amf_graph.specs.declared.lack.Lack.{Lack}
use Rattle.amf_graph.specs.Graph.{Graph}
use Rattle.amf_graph.specs.Isomorphic.{Isomorphic}
use Rattle.amf_graph.proofs.Isomorphisms.{isomorphic_sym}
use Rattle.amf3_spelling.proofs.Decides3.{same_canonical}
use Rattle.amf0_spelling.specs.declared.form.Form.{Form}
use Rattle.amf0_spelling.specs.declared.form.Form.TheVariants.{Call, Amf3, Plain}
use Rattle.amf_packet.specs.declared.body.Body.{Body as KeptBody}
use Rattle.amf_packet.specs.Content.{body_of}
use Rattle.amf_packet.specs.Packet.{Body}
use Rattle.flex_msgs.specs.declared.reply.FaultText.{FaultText}
use Rattle.amf_service.specs.Meaning.{Called, no_service, no_operation, given, result, fault}
use Rattle.amf_service.specs.Registry.{Entry}
use Rattle.amf_answer_plan.specs.declared.message_answer.MessageAnswer.{MessageAnswer}
use Rattle.amf_packet.specs.PacketLacks.{IsBodyLack}
use Rattle.amf_packet.specs.SpelledBodies.{IsBodySpelling, TellsSpelling}
use Rattle.amf_answer_plan.specs.Calls.{cause_of}
use Rattle.amf_plain_calls.specs.FoundForms.{FindsForm}
use Rattle.amf_answer_plan.specs.Says.{AnswersMessage, Tells}
use Rattle.amf_answer_plan.specs.Causes as causes
use Rattle.amf_answer_plan.specs.Plan.{Plan, lowered, gives}
use Rattle.amf_answer_plan.specs.PlainCalls.{Target, form_in_amf3, form_for, if_formed, if_array, answer_in, reply_form, failed, succeeded, outcome, arguments, call, plain_call, fault_graph}
use Rattle.amf_answer_plan.specs.Replies.{Answer}
use Rattle.amf_answer_plan.specs.Runs.{Finds, IsSpelling, nothing, gave, Runs}
use Rattle.amf_answer_plan.specs.Serving.{none_left}
use Rattle.amf_answer_plan.proofs.Composed.{runs_then}
use Rattle.amf_answer_plan.proofs.Spelling.{unspelled}
use Rattle.amf_plain_calls.proofs.NoLacks.{LacksNothing, unspelled0, fault_same, fault_lacks0, fault_lacks3}

abbrev pub body_with : Form → Graph → Body
body_with form g = record { form = form; graph = g }

-- The form of a value.

runs_amf3 : (g h : Graph) (b : List ℕ) → Isomorphic g h → IsBodySpelling (body_with Amf3 h) b → Runs (form_in_amf3 g) none_left nothing (gave (Some Amf3) none_left)
runs_amf3 g h b i (fs, (item, e, s), is) = (Some (flat item), same_canonical h g (isomorphic_sym g h i) (flat item) (item, s, refl), (refl, refl))

runs_none : (g h : Graph) (l : Lack) → Isomorphic g h → IsBodyLack Amf3 h l.node l.kind → Runs (form_in_amf3 g) none_left nothing (gave None none_left)
runs_none g h l i lack = (None, unspelled g h l i lack, (refl, refl))

runs_plain : (g h : Graph) (b : List ℕ) → Isomorphic g h → IsBodySpelling (body_with Plain h) b → Runs (form_for Plain g) none_left nothing (gave (Some Plain) none_left)
runs_plain g h b i (fs, (low, lo, s), is) = (Some b, (h, low, i, lo, (fs, s, is)), (refl, refl))

no_plain : (g h : Graph) (l : Lack) → Isomorphic g h → IsBodyLack Plain h l.node l.kind → Finds (IsSpelling lowered g) None
no_plain g h l i (low, lo, lack) = unspelled0 g h low l.node l.kind i lo lack

pub amf3_found : (h : Graph) (o : Option (List ℕ)) → TellsSpelling Amf3 h o → FindsForm Amf3 h o
amf3_found h (Some b) s = (Amf3, s, λ g i. runs_amf3 g h b i s)
amf3_found h None t = λ g i. runs_none g h t.0 i t.1

pub call_found : (h : Graph) (o : Option (List ℕ)) → TellsSpelling Amf3 h o → FindsForm Call h o
call_found h (Some b) s = (Amf3, s, λ g i. runs_amf3 g h b i s)
call_found h None t = λ g i. runs_none g h t.0 i t.1

pub plain_found : (h : Graph) (b : List ℕ) → TellsSpelling Plain h (Some b) → FindsForm Plain h (Some b)
plain_found h b s = (Plain, s, λ g i. runs_plain g h b i s)

pub plain_else : (h : Graph) (o : Option (List ℕ)) → TellsSpelling Plain h None → TellsSpelling Amf3 h o → FindsForm Plain h o
plain_else h (Some b) n s = (Amf3, s, λ g i. (None, no_plain g h n.0 i n.1, runs_amf3 g h b i s))
plain_else h None n t = λ g i. (None, no_plain g h n.0 i n.1, runs_none g h t.0 i t.1)

-- Answers.

-- an answer that is given at once
pub told_at_once : (x : MessageAnswer) (y : Answer) → AnswersMessage x y → Tells (gives y) x
told_at_once x y is = record { answer = y; is = is; runs = (refl, refl) }

-- the object of a fault has a spelling in its form
pub fault_lacks : (form : Form) (f : FaultText) → LacksNothing (body_with (reply_form form) (fault_graph f))
fault_lacks Call f = fault_lacks3 f
fault_lacks Amf3 f = fault_lacks3 f
fault_lacks Plain f = fault_lacks0 f

pub fault_is : (form : Form) (f : FaultText) (b : List ℕ) → IsBodySpelling (body_with (reply_form form) (fault_graph f)) b → AnswersMessage (record { well = false; body = b }) (failed form f)
fault_is form f b s = record { well = refl; body = (body_with (reply_form form) (fault_graph f), record { form = refl; graph = fault_same f }, s) }

-- a result in the form that was found
pub result_is : (found : Form) (g h : Graph) (b : List ℕ) → Isomorphic g h → IsBodySpelling (body_with found h) b → AnswersMessage (record { well = true; body = b }) (answer_in true found g)
result_is found g h b i s = record { well = refl; body = (body_with found h, record { form = refl; graph = i }, s) }

pub told_formed : (form : Form) (g : Graph) (found : Option Form) (x : MessageAnswer) → Runs (form_for form g) none_left nothing (gave found none_left) → AnswersMessage x (if_formed form g found) → Tells (succeeded form g) x
told_formed form g found x runs is = record {
  answer = if_formed form g found;
  is = is;
  runs = runs_then (form_for form g) (λ y. gives (if_formed form g y)) none_left none_left nothing nothing found (gave (if_formed form g found) none_left) runs (refl, refl);
}

same_cause : (a b : FaultText) → Some a ≡ Some b → b ≡ a
same_cause a b e = cc

told_cause : (form : Form) (f g : FaultText) (x : MessageAnswer) → Some g ≡ Some f → AnswersMessage x (failed form f) → Tells (gives (failed form g)) x
told_cause form f g x e is = told_at_once x (failed form g) (subst (λ (z : FaultText). AnswersMessage x (failed form z)) (same_cause g f e) is)

-- a fault is answered, whatever it is of
pub told_fault : (form : Form) (c : Called) (f : FaultText) (x : MessageAnswer) → cause_of c ≡ Some f → AnswersMessage x (failed form f) → Tells (outcome form c) x
told_fault form no_service f x e is = told_cause form f causes.no_service x e is
told_fault form no_operation f x e is = told_cause form f causes.no_operation x e is
told_fault form (given (fault y)) f x e is = told_cause form f (causes.service_fault y) x e is
told_fault form (given (result g)) f x e is = absurd cc

-- a result, whatever it is of
pub told_result : (form : Form) (c : Called) (g : Graph) (x : MessageAnswer) → c ≡ given (result g) → Tells (succeeded form g) x → Tells (outcome form c) x
told_result form c g x e t = subst (λ (z : Called). Tells (outcome form z) x) (sym e) t

-- Arguments.

pub with_items : {X : Type 0} (services : List Entry) (form : Form) (t : Target) (g : Graph) (o : Option X) (y : X) (x : MessageAnswer) → o ≡ Some y → Tells (call services form t (Some g)) x → Tells (call services form t (if_array g o)) x
with_items services form t g o y x e told = subst (λ z. Tells (call services form t (if_array g z)) x) (sym e) told

pub without_items : {X : Type 0} (services : List Entry) (form : Form) (t : Target) (g : Graph) (o : Option X) (x : MessageAnswer) → o ≡ None → AnswersMessage x (failed form causes.bad_message) → Tells (call services form t (if_array g o)) x
without_items services form t g o x e is = subst (λ z. Tells (call services form t (if_array g z)) x) (sym e) (told_at_once x (failed form causes.bad_message) is)

abbrev pub of_body : List Entry → Target → KeptBody → Plan Answer
of_body services t b = call services (body_of b).form t (arguments (body_of b).form (body_of b).graph)

pub with_body : (services : List Entry) (t : Target) (b d : KeptBody) (x : MessageAnswer) → b ≡ d → Tells (of_body services t d) x → Tells (of_body services t b) x
with_body services t b d x e told = subst (λ (z : KeptBody). Tells (of_body services t z) x) (sym e) told

-- Targets.

pub with_target : (services : List Entry) (b : Body) (o : Option Target) (t : Target) (x : MessageAnswer) → o ≡ Some t → Tells (plain_call services b (Some t)) x → Tells (plain_call services b o) x
with_target services b o t x e told = subst (λ (z : Option Target). Tells (plain_call services b z) x) (sym e) told

pub without_target : (services : List Entry) (b : Body) (o : Option Target) (x : MessageAnswer) → o ≡ None → AnswersMessage x (failed b.form causes.no_service) → Tells (plain_call services b o) x
without_target services b o x e is = subst (λ (z : Option Target). Tells (plain_call services b z) x) (sym e) (told_at_once x (failed b.form causes.no_service) is)
