-- One token against the goal on top of the stack.
use Rattle.std.proofs.Common.{◌≡◌, ℕ, suc, ◌==◌, false, List, [], ◌∷◌, ◌++◌, length, Option, Some, None, refl, sym, ap, ◌∙◌, arith}
use Rattle.std.specs.Prelude.{reverse}
use Rattle.std.proofs.lemmas.List.{length-reverse}
use Rattle.std.proofs.lemmas.Bool.Decides.{nat_tests}
use Rattle.json.specs.Token.{Token}
use Rattle.amf_text.specs.Scalars.{read_number}
use Rattle.amf_text.specs.Asks.{goals_step}
use Rattle.amf_text_read.specs.Goals.{Held, goals_of, held_after, behind}
use Rattle.amf_text_read.specs.NextGoals.{with_more, all_listed}
use Rattle.amf_text_read.specs.Lists.{MayTake}
use Rattle.amf_text_read.specs.Meets.{AreNext}
use Rattle.amf_text_read.specs.Verdicts.{is_empty}
use Rattle.amf_text_read.specs.declared.goal.Goal.{Goal}
use Rattle.amf_text_read.specs.declared.next.Next.{Next}
use Rattle.amf_text_read.proofs.Taken.{may_take}

some_next : (h : Held) (g : Goal) (t : Token) (o : Option Next) (n : Next) (gs : List Goal) → o ≡ Some n → AreNext h g t (all_listed o)
    → goals_step read_number (goals_of h (g ∷ gs)) t ≡ Some (goals_of (held_after h g t) (with_more n.goals.now n.more ++ gs))
some_next h g t None n gs e a = absurd cc
some_next h g t (Some m) n gs e a = let same : m ≡ n = cc in sym (a gs) ∙ ap (λ x. Some (goals_of (held_after h g t) (with_more x.goals.now x.more ++ gs))) same

pub next_take : (h : Held) (g : Goal) (t : Token) (o : Option Next) (n : Next) → o ≡ Some n → AreNext h g t (all_listed o) → MayTake h g t
next_take h g t o n e a = may_take h g t (goals_of (behind g h) []) (goals_of (held_after h g t) (with_more n.goals.now n.more ++ [])) (some_next h g t o n [] e a)

not_zero : (n : ℕ) → (suc n == 0) ≡ false
not_zero n = grind (arith, nat_tests)

empty_is : (h : Held) (gs : List Goal) → is_empty (goals_of h gs) ≡ (length gs == 0)
empty_is h [] = refl
empty_is h (g ∷ gs) = sym (not_zero (length gs))

pub whole_is : (h : Held) (gs : List Goal) (n : ℕ) → n ≡ length gs → (n == 0) ≡ is_empty (goals_of h (reverse gs))
whole_is h gs n e = ap (λ x. x == 0) (e ∙ sym (length-reverse gs)) ∙ sym (empty_is h (reverse gs))
