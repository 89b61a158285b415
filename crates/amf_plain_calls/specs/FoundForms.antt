-- Devices of proofs: the object of a fault as a builder has it, and the spelling in the form that the plan finds.
use Rattle.std.specs.Prelude.{ℕ, true, List, [], ◌∷◌, codes, Option, Some, None}
use Rattle.amf_graph.specs.Arena.{Arena, object}
use Rattle.amf_graph.specs.Building.{closed}
use Rattle.amf_graph.specs.Grafting.{text_value}
use Rattle.amf_graph.specs.Graph.{Graph}
use Rattle.amf_graph.specs.Isomorphic.{Isomorphic}
use Rattle.amf0_spelling.specs.declared.form.Form.{Form}
use Rattle.amf_packet.specs.SpelledBodies.{IsBodySpelling}
use Rattle.flex_msgs.specs.declared.reply.FaultText.{FaultText}
use Rattle.amf_answer_plan.specs.PlainCalls.{form_for}
use Rattle.amf_answer_plan.specs.Runs.{nothing, gave, Runs}
use Rattle.amf_answer_plan.specs.Serving.{none_left}

-- the object of a fault, as a builder has it
abbrev pub fault_arena : FaultText → Arena
fault_arena f = record {
  texts = [] ∷ codes "code" ∷ f.code ∷ codes "description" ∷ f.text ∷ codes "level" ∷ codes "error" ∷ [];
  traits = record { class = 0; dynamic = true; sealed = [] } ∷ [];
  nodes = closed (object 0) ((1, text_value 2) ∷ (3, text_value 4) ∷ (5, text_value 6) ∷ []) [] ∷ [];
}

-- the spelling in the form that the plan finds for a request of this form, if it finds one
abbrev pub FindsForm : Form → Graph → Option (List ℕ) → Type 0
FindsForm form h (Some b) = (found : Form) × IsBodySpelling (record { form = found; graph = h }) b × ((g : Graph) → Isomorphic g h → Runs (form_for form g) none_left nothing (gave (Some found) none_left))
FindsForm form h None = (g : Graph) → Isomorphic g h → Runs (form_for form g) none_left nothing (gave None none_left)
