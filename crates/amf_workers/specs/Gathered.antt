-- What comes back from workers. A device of proofs.
use Rattle.std.specs.Prelude.{◌≡◌, ℕ, ◌+◌, List, ◌++◌, sum_by}
use Rattle.std.specs.List.{AllByRecursion}
use Rattle.amf_io.specs.Front.{CountsBack}
use Rattle.amf_io.specs.declared.front.Front.{Ghosts as FrontMembers}
use Rattle.amf_desk.specs.Histories.{Begins}
use Rattle.amf_desk.specs.Passes.{Held}

-- the first pass has the budgets of these too, and has seen what they had seen
pub record Gathered (p q : Held) (passes : List Held) : Type 0 where
  pub desk : q.desk ≡ p.desk
  pub destinations : q.destinations ≡ p.destinations
  pub number : q.number ≡ p.number
  pub budget : q.budget ≡ p.budget + sum_by (λ s. s.budget) passes
  pub begins : Begins p.seen q.seen
  pub seen : AllByRecursion (λ s. Begins s.seen q.seen) passes

-- the front took back these halls, in order, and else tells what it told; each that failed is counted
pub record TookBack {F H L : Type 0} (front : FrontMembers F H L) (faults : H → ℕ) (a b : F) (halls : List H) : Type 0 where
  pub tells : front.tells b → front.tells a
  pub asked : front.tells b → front.asked b ≡ front.asked a
  pub to_open : front.tells b → front.to_open b ≡ front.to_open a
  pub took_back : front.tells b → front.halls b ≡ front.halls a ++ halls
  pub counts : CountsBack (front.faults a) (front.faults b) (sum_by faults halls)
