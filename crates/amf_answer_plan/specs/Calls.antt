-- A device of proofs: what a call of a service comes to, as it is kept.
use Rattle.amf_service.specs.Meaning as meaning
use Rattle.std.specs.Prelude.{◌≡◌, ◌≤◌, Option, Some, None}
use Rattle.amf_graph.specs.Bounds.{weight}
use Rattle.amf_graph.specs.Graph.{Graph}
use Rattle.amf_graph.specs.Isomorphic.{Isomorphic}
use Rattle.amf_graph.specs.Reached.{IsWhole}
use Rattle.amf_graph.specs.Rooted.{RootedArena, content}
use Rattle.flex_msgs.specs.declared.reply.FaultText.{FaultText}
use Rattle.amf_service.specs.Meaning.{result, fault, Called, given, heaviest_result}
use Rattle.amf_answer_plan.specs.declared.calling.ServiceAnswer.{ServiceAnswer}
use Rattle.amf_answer_plan.specs.declared.calling.ServiceAnswer.TheVariants.{Gave, Failed}
use Rattle.amf_answer_plan.specs.Causes.{no_service, no_operation, service_fault}
use Rattle.amf_answer_plan.specs.Kept.{FaultFits}

-- so for each whole graph that these arguments are, up to the numbers of its nodes
abbrev pub ForGraphsOf : RootedArena → (Graph → Type 0) → Type 0
ForGraphsOf args P = (g : Graph) → IsWhole g → Isomorphic g (content args) → P g

-- the cause of a call that has no result
abbrev pub cause_of : Called → Option FaultText
cause_of meaning.no_service = Some no_service
cause_of meaning.no_operation = Some no_operation
cause_of (given (fault x)) = Some (service_fault x)
cause_of (given (result g)) = None

-- what is kept of a call is the result, up to the numbers of its nodes, or the very cause
abbrev pub ComesTo : Called → ServiceAnswer → Type 0
ComesTo c (Gave x) = (g : Graph) × (c ≡ given (result g)) × Isomorphic g (content x)
ComesTo c (Failed f) = cause_of c ≡ Some f

-- a result weighs no more than a service gives, and a cause fits a message
abbrev pub AnswerFits : ServiceAnswer → Type 0
AnswerFits (Gave x) = weight x.arena ≤ heaviest_result
AnswerFits (Failed f) = FaultFits f
