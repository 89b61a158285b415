-- An error with a fresh reply.
use Rattle.std.proofs.Common.{◌≡◌, ℕ, List, [], refl, subst}
use Rattle.flex_msgs.specs.declared.reply.FaultText.{FaultText}
use Rattle.flex_msgs.specs.declared.reply.Reply.{Reply}
use Rattle.amf_answer_plan.specs.declared.message_answer.MessageAnswer.{MessageAnswer}
use Rattle.amf_answer_plan.specs.Did.{Drawn, Ran, Stopped}
use Rattle.amf_answer_plan.specs.Says.{AnswersMessage, Says}
use Rattle.amf_answer_plan.specs.Plan.{gives}
use Rattle.amf_answer_plan.specs.Replies.{Context, fresh, failed, error}
use Rattle.amf_answer_plan.proofs.Doing.{HandsNone, HandsBoth, stopped_between, stopped_first}
use Rattle.amf_flex_replies.proofs.Saying.{says_told}

pub error_says : {O : Type 0} (handed : O → O → Drawn → Type 0) → HandsNone handed → HandsBoth handed → (k : Context) (f : FaultText) (client : List ℕ) (a b : O) (r : Reply) (x : MessageAnswer) → client ≡ [] → Ran handed (fresh k client) a b r → AnswersMessage x (failed r f) → Says handed (error k f) a b x
error_says handed none both k f client a b r x e ran is =
    says_told handed none both (fresh k []) (λ (s : Reply). gives (failed s f)) a b r x (subst (λ (n : List ℕ). Ran handed (fresh k n) a b r) e ran)
    (record { answer = failed r f; is = is; runs = (refl, refl) })

-- An error that was not made, since its reply or its spelling was not.

pub error_unmade : {O : Type 0} (handed : O → O → Drawn → Type 0) → (k : Context) (f : FaultText) (client : List ℕ) (a b : O) → client ≡ [] → Stopped handed (fresh k client) a b → Stopped handed (error k f) a b
error_unmade handed k f client a b e s =
    stopped_first handed (fresh k []) (λ (r : Reply). gives (failed r f)) a b (subst (λ (n : List ℕ). Stopped handed (fresh k n) a b) e s)

pub error_unsaid : {O : Type 0} (handed : O → O → Drawn → Type 0) → HandsNone handed → HandsBoth handed → (k : Context) (f : FaultText) (client : List ℕ) (a b : O) (r : Reply) → client ≡ [] → Ran handed (fresh k client) a b r → Stopped handed (error k f) a b
error_unsaid handed none both k f client a b r e ran =
    stopped_between handed none both (fresh k []) (λ (s : Reply). gives (failed s f)) a b r (subst (λ (n : List ℕ). Ran handed (fresh k n) a b r) e ran)
