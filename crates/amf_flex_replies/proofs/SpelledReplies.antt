-- What is said of a reply by what was written of its graph.
use Rattle.std.proofs.Common.{ℕ, zero, suc, List, Some, None, refl, arith, true, false}
use Rattle.amf_io.specs.Field.{flat}
use Rattle.amf_graph.specs.declared.lack.LackKind.{LackKind}
use Rattle.amf_graph.specs.Graph.{Graph, node_at, AllNamed}
use Rattle.amf_graph.specs.Isomorphic.{Isomorphic}
use Rattle.amf_graph.proofs.Isomorphisms.{isomorphic_sym}
use Rattle.amf3_spelling.specs.Lacks3.{IsLack3}
use Rattle.amf3_spelling.proofs.Decides3.{same_canonical}
use Rattle.amf3_spelling.proofs.LacksAlike.{lacks_alike}
use Rattle.amf0_spelling.specs.declared.form.Form.TheVariants.{Amf3}
use Rattle.amf_packet.specs.Packet.{Body}
use Rattle.amf_packet.specs.SpelledBodies.{IsBodySpelling, IsBodySpelledAlike}
use Rattle.flex_msgs.specs.declared.reply.FaultText.{FaultText}
use Rattle.flex_msgs.specs.declared.reply.Reply.{Reply}
use Rattle.flex_msgs.specs.Answers.{error_graph}
use Rattle.amf_answer_plan.specs.Causes.{no_form}
use Rattle.amf_answer_plan.specs.Plan.{whole}
use Rattle.amf_answer_plan.specs.Replies.{failed, in_amf3, answered}
use Rattle.amf_answer_plan.specs.Runs.{Finds, IsSpelling}
use Rattle.amf_answer_plan.proofs.Spelling.{all_named}
use Rattle.amf_answer_plan.specs.declared.message_answer.MessageAnswer.{MessageAnswer}
use Rattle.amf_answer_plan.specs.Says.{AnswersMessage, Tells}

abbrev pub in_form : Graph → Body
in_form g = record { form = Amf3; graph = g }

-- Every name of an error has a letter.

error_named : (r : Reply) (f : FaultText) (i : ℕ) → AllNamed (node_at (error_graph r f) i).names
error_named r f zero = ((λ e. cc), tt)
error_named r f (suc zero) = tt
error_named r f (suc (suc i)) = tt

-- an error is written whole
pub error_lacks_none : (r : Reply) (f : FaultText) (h : Graph) → Isomorphic (error_graph r f) h → (number : ℕ) (kind : LackKind) → IsLack3 h number kind → ⊥
error_lacks_none r f h i number kind l = all_named (error_graph r f) (error_named r f) number kind (lacks_alike h (error_graph r f) (isomorphic_sym (error_graph r f) h i) number kind l)

-- the message that says why a request failed, spelled
pub error_alike : (r : Reply) (f : FaultText) (h : Graph) (bytes : List ℕ) → Isomorphic (error_graph r f) h → IsBodySpelling (in_form h) bytes → IsBodySpelledAlike (in_form (error_graph r f)) bytes
error_alike r f h bytes i s = (in_form h, record { form = refl; graph = i }, s)

-- the bytes of a body in AMF 3 are those of its graph behind a marker
whole_spelled : (g h : Graph) (bytes : List ℕ) → Isomorphic g h → IsBodySpelling (in_form h) bytes → (b : List ℕ) × IsSpelling whole g b
whole_spelled g h bytes i (fs, (item, e, s), is) = (flat item, same_canonical h g (isomorphic_sym g h i) (flat item) (item, s, refl))

pub told_well : (r : Reply) (g h : Graph) (bytes : List ℕ) → Isomorphic g h → IsBodySpelling (in_form h) bytes → Tells (answered r g) (record { well = true; body = bytes })
told_well r g h bytes i s =
    let found = whole_spelled g h bytes i s in
    record {
      answer = in_amf3 true g;
      is = record { well = refl; body = (in_form h, record { form = refl; graph = i }, s) };
      runs = (Some found.0, found.1, (refl, refl));
    }

pub told_badly : (r : Reply) (g : Graph) (x : MessageAnswer) → Finds (IsSpelling whole g) None → AnswersMessage x (failed r no_form) → Tells (answered r g) x
told_badly r g x none a = record { answer = failed r no_form; is = a; runs = (None, none, (refl, refl)) }

pub failed_is : (r : Reply) (f : FaultText) (bytes : List ℕ) → IsBodySpelledAlike (in_form (error_graph r f)) bytes → AnswersMessage (record { well = false; body = bytes }) (in_amf3 false (error_graph r f))
failed_is r f bytes s = record { well = refl; body = s }
