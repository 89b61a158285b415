-- What is said of a call by a RemotingMessage.
use Rattle.std.proofs.Common.{◌≡◌, ◌∙◌, List, ℕ, [], Option, Some, None, sym, ap, subst}
use Rattle.amf_graph.specs.Graph.{Graph}
use Rattle.amf_graph.specs.Isomorphic.{Isomorphic}
use Rattle.amf_graph.specs.Reached.{IsWhole}
use Rattle.amf_graph.specs.Rooted.{RootedArena, content}
use Rattle.flex_msgs.specs.Asked.{Told}
use Rattle.flex_msgs.specs.declared.reply.FaultText.{FaultText}
use Rattle.amf_service.specs.Meaning.{Called, no_service, no_operation, given, result, fault}
use Rattle.amf_service.specs.Registry.{Entry, called}
use Rattle.amf_answer_plan.specs.declared.calling.ServiceAnswer.{ServiceAnswer}
use Rattle.amf_answer_plan.specs.declared.calling.ServiceAnswer.TheVariants.{Gave, Failed}
use Rattle.amf_answer_plan.specs.declared.message_answer.MessageAnswer.{MessageAnswer}
use Rattle.amf_answer_plan.specs.Calls.{cause_of, ComesTo}
use Rattle.amf_flex_replies.specs.KeptArguments.{KeepsArguments}
use Rattle.amf_answer_plan.specs.Causes as causes
use Rattle.amf_answer_plan.specs.Says.{Says}
use Rattle.amf_answer_plan.specs.Did.{Drawn, Stopped}
use Rattle.amf_answer_plan.specs.Plan.{Plan}
use Rattle.amf_answer_plan.specs.Remoting.{outcome, call}
use Rattle.amf_answer_plan.specs.Replies.{Answer, Context, context_of, error, acknowledge}

no_cause : (f : FaultText) → None ≡ Some f → ⊥
no_cause f e = cc

same_cause : (a b : FaultText) → Some a ≡ Some b → a ≡ b
same_cause a b e = cc

-- a cause is said, whatever it is of
pub cause_plan : (k : Context) (d : Called) (f : FaultText) → cause_of d ≡ Some f → outcome k d ≡ error k f
cause_plan k no_service f e = ap (λ (z : FaultText). error k z) (same_cause causes.no_service f e)
cause_plan k no_operation f e = ap (λ (z : FaultText). error k z) (same_cause causes.no_operation f e)
cause_plan k (given (fault x)) f e = ap (λ (z : FaultText). error k z) (same_cause (causes.service_fault x) f e)
cause_plan k (given (result g)) f e = absurd (no_cause f e)

-- and a result
pub result_plan : (k : Context) (d : Called) (g : Graph) → d ≡ given (result g) → outcome k d ≡ acknowledge k [] g g.root
result_plan k d g e = ap (λ (z : Called). outcome k z) e

module _ {O : Type 0} (handed : O → O → Drawn → Type 0) (k : Context) (d : Called) (answer : ServiceAnswer) (a b : O) where
  pub said_result : (x : MessageAnswer) (graph : RootedArena) → answer ≡ Gave graph → ComesTo d answer → ((g : Graph) → Isomorphic g (content graph) → Says handed (acknowledge k [] g g.root) a b x) → Says handed (outcome k d) a b x
  said_result x graph e comes says =
      let c : ComesTo d (Gave graph) = subst (λ (z : ServiceAnswer). ComesTo d z) e comes in
      subst (λ (z : Plan Answer). Says handed z a b x) (sym (result_plan k d c.0 c.1)) (says c.0 c.2)

  pub stopped_result : (graph : RootedArena) → answer ≡ Gave graph → ComesTo d answer → ((g : Graph) → Stopped handed (acknowledge k [] g g.root) a b) → Stopped handed (outcome k d) a b
  stopped_result graph e comes stops =
      let c : ComesTo d (Gave graph) = subst (λ (z : ServiceAnswer). ComesTo d z) e comes in
      subst (λ (z : Plan Answer). Stopped handed z a b) (sym (result_plan k d c.0 c.1)) (stops c.0)

  pub said_cause : (x : MessageAnswer) (f : FaultText) → answer ≡ Failed f → ComesTo d answer → Says handed (error k f) a b x → Says handed (outcome k d) a b x
  said_cause x f e comes says =
      let c : ComesTo d (Failed f) = subst (λ (z : ServiceAnswer). ComesTo d z) e comes in
      subst (λ (z : Plan Answer). Says handed z a b x) (sym (cause_plan k d f c)) says

  pub stopped_cause : (f : FaultText) → answer ≡ Failed f → ComesTo d answer → Stopped handed (error k f) a b → Stopped handed (outcome k d) a b
  stopped_cause f e comes stops =
      let c : ComesTo d (Failed f) = subst (λ (z : ServiceAnswer). ComesTo d z) e comes in
      subst (λ (z : Plan Answer). Stopped handed z a b) (sym (cause_plan k d f c)) stops

-- Arguments that are kept are said.

module _ {O : Type 0} (handed : O → O → Drawn → Type 0) (services : List Entry) (t : Told) (operation service : List ℕ) (named : t.destination ≡ service) (k : Context) (same : k ≡ context_of t) (a b : O) where
  -- the call of these arguments, as it was made
  abbrev Said : Graph → Plan Answer
  Said g = outcome k (called services service operation g)

  abbrev Meant : Graph → Plan Answer
  Meant g = outcome (context_of t) (called services t.destination operation g)

  meant : (g : Graph) → Said g ≡ Meant g
  meant g = ap (λ (z : Context). outcome z (called services service operation g)) same ∙ ap (λ (x : List ℕ). outcome (context_of t) (called services x operation g)) (sym named)

  pub said_called : (o : Option Graph) (args : RootedArena) (x : MessageAnswer) → KeepsArguments o (Some args) → ((g : Graph) → IsWhole g → Isomorphic g (content args) → Says handed (Said g) a b x) → Says handed (call services t operation o) a b x
  said_called None args x keeps says = absurd keeps
  said_called (Some g) args x keeps says = subst (λ (z : Plan Answer). Says handed z a b x) (meant g) (says g keeps.0 keeps.1)

  pub stopped_called : (o : Option Graph) (args : RootedArena) → KeepsArguments o (Some args) → ((g : Graph) → IsWhole g → Isomorphic g (content args) → Stopped handed (Said g) a b) → Stopped handed (call services t operation o) a b
  stopped_called None args keeps stops = absurd keeps
  stopped_called (Some g) args keeps stops = subst (λ (z : Plan Answer). Stopped handed z a b) (meant g) (stops g keeps.0 keeps.1)

  pub said_bad : (o : Option Graph) (x : MessageAnswer) → KeepsArguments o None → Says handed (error k causes.bad_message) a b x → Says handed (call services t operation o) a b x
  said_bad None x keeps says = subst (λ (z : Context). Says handed (error z causes.bad_message) a b x) same says
  said_bad (Some g) x keeps says = absurd keeps

  pub stopped_bad : (o : Option Graph) → KeepsArguments o None → Stopped handed (error k causes.bad_message) a b → Stopped handed (call services t operation o) a b
  stopped_bad None keeps stops = subst (λ (z : Context). Stopped handed (error z causes.bad_message) a b) same stops
  stopped_bad (Some g) keeps stops = absurd keeps
