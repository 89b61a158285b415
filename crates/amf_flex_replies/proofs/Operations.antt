-- Operations that are not served.
use Rattle.std.proofs.Common.{◌≡◌, ◌≢◌, ◌∙◌, ℕ, Bool, true, false, refl, sym, ap, ne_eqb}
use Rattle.std.proofs.lemmas.Int.{to_z-of_z}
use mir.Val.{to_z, of_z, SFits}
use mir.Syntax.{w64}
use Rattle.std.specs.Prelude.{ℤ, pos, negsuc, ◌==◌, if◌then◌else◌}
use Rattle.amf_graph.specs.Graph.{Graph}
use Rattle.flex_msgs.specs.Asked.{Told}
use Rattle.amf_answer_plan.specs.Causes.{not_served}
use Rattle.amf_answer_plan.specs.Commands.{subscribe, unsubscribe, poll, ping, disconnect, command}
use Rattle.amf_answer_plan.specs.Plan.{Plan}
use Rattle.amf_answer_plan.specs.Replies.{Answer, context_of, error}

-- a number that fits, by its bits
pub operation_is : (z : ℤ) (n : ℕ) → SFits w64 z → of_z w64 z ≡ n → z ≡ to_z w64 n
operation_is z n fits e = sym (to_z-of_z w64 z fits) ∙ ap (λ (k : ℕ). to_z w64 k) e

-- a branch that is not taken
past : (b : Bool) (x y z : Plan Answer) → b ≡ false → z ≡ y → z ≡ (if b then x else y)
past true x y z h e = absurd cc
past false x y z h e = e

pub other_operation : (g : Graph) (t : Told) (k : ℤ) → k ≢ pos 0 → k ≢ pos 1 → k ≢ pos 2 → k ≢ pos 5 → k ≢ pos 12 → error (context_of t) not_served ≡ command g t k
other_operation g t (negsuc n) a b c d e = refl
other_operation g t (pos n) a b c d e =
    past (n == 0) (subscribe t) _ _ (ne_eqb n 0 (λ h. a (ap pos h)))
    (past (n == 1) (unsubscribe t) _ _ (ne_eqb n 1 (λ h. b (ap pos h)))
    (past (n == 2) (poll g t) _ _ (ne_eqb n 2 (λ h. c (ap pos h)))
    (past (n == 5) (ping t) _ _ (ne_eqb n 5 (λ h. d (ap pos h)))
    (past (n == 12) (disconnect t) _ _ (ne_eqb n 12 (λ h. e (ap pos h))) refl))))
