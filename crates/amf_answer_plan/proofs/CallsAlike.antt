-- What comes of a call, for arguments that are the same but for the numbers of their nodes.
use Rattle.std.proofs.Common.{◌≡◌, Some, None, refl, sym, subst}
use Rattle.amf_graph.specs.Graph.{Graph}
use Rattle.amf_graph.specs.Isomorphic.{Isomorphic}
use Rattle.amf_graph.specs.Rooted.{content}
use Rattle.amf_graph.proofs.Isomorphisms.{isomorphic_trans}
use Rattle.flex_msgs.specs.declared.reply.FaultText.{FaultText}
use Rattle.amf_service.specs.Meaning.{result, fault, Called, no_service, no_operation, given}
use Rattle.amf_service.specs.ServiceLaws.{CalledMatch}
use Rattle.amf_answer_plan.specs.declared.calling.ServiceAnswer.{ServiceAnswer}
use Rattle.amf_answer_plan.specs.declared.calling.ServiceAnswer.TheVariants.{Gave, Failed}
use Rattle.amf_answer_plan.specs.Calls.{ComesTo}

same_result : (g h : Graph) → given (result g) ≡ given (result h) → g ≡ h
same_result g h e = cc

no_cause : (f : FaultText) → None ≡ Some f → ⊥
no_cause f e = cc

result_alike : (g h : Graph) → Isomorphic g h → (x : ServiceAnswer) → ComesTo (given (result h)) x → ComesTo (given (result g)) x
result_alike g h i (Gave x) (k, e, same) = (g, refl, isomorphic_trans g k (content x) (subst (λ z. Isomorphic g z) (same_result h k e) i) same)
result_alike g h i (Failed f) e = absurd (no_cause f e)

pub comes_alike : (c d : Called) → CalledMatch c d → (x : ServiceAnswer) → ComesTo d x → ComesTo c x
comes_alike no_service d m x h = subst (λ z. ComesTo z x) (sym m) h
comes_alike no_operation d m x h = subst (λ z. ComesTo z x) (sym m) h
comes_alike (given u) no_service m x h = subst (λ z. ComesTo z x) (sym m) h
comes_alike (given u) no_operation m x h = subst (λ z. ComesTo z x) (sym m) h
comes_alike (given (result g)) (given (result k)) m x h = result_alike g k m x h
comes_alike (given (result g)) (given (fault y)) m x h = absurd m
comes_alike (given (fault y)) (given (result k)) m x h = absurd m
comes_alike (given (fault y)) (given (fault z)) m x h = subst (λ w. ComesTo (given (fault w)) x) (sym m) h
