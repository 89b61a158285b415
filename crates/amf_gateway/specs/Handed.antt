-- What a caller of the desk was given between two of its states.
use Rattle.std.specs.Prelude.{◌≡◌, ℕ, ◌+◌, ◌-◌, ◌^◌, ◌<◌, ◌≤◌, min, false, List, ◌++◌, length, Option, Some, None}
use Rattle.std.specs.Borrow.{MutBor}
use Rattle.amf_broker.specs.History.{Entry as Event}
use Rattle.amf_desk.specs.Histories.{own, Begins}
use Rattle.amf_desk.specs.Passes.{Held, Explains}
use Rattle.amf_answer_plan.specs.declared.outside.Unanswered.{Unanswered}
use Rattle.amf_answer_plan.specs.declared.outside.Unanswered.TheVariants.{Spent}
use Rattle.amf_answer_plan.specs.Did.{Drawn}
use Rattle.amf_answer_plan.specs.Serving.{Taken}
use Rattle.amf_gateway.specs.Tells.{HallMembers, LinksStay}

-- a meaning that grows by what was given, where it is told
pub record Given (told tells : Type 0) (before now given : List ℕ) : Type 0 where
  pub since : tells → told
  pub same : tells → now ≡ before ++ given

-- Of an aid by its meanings: the moments and the words that it gave; its links stay.
pub record AidGoesOn {A L : Type 0} (aid : HallMembers A L) (a b : A) (k : Taken) : Type 0 where
  pub moments_given : Given (aid.tells_moments a) (aid.tells_moments b) (aid.moments a) (aid.moments b) k.moments
  pub words_given : Given (aid.tells_words a) (aid.tells_words b) (aid.words a) (aid.words b) k.words
  pub links : LinksStay aid a b

-- Of a pass: it is one of the same desk, with these entries of its own more.
pub record PassGoesOn (p q : Held) (entries : List Event) : Type 0 where
  pub desk : q.desk ≡ p.desk
  pub destinations : q.destinations ≡ p.destinations
  pub number : q.number ≡ p.number
  pub splits : q.splits ≡ p.splits
  pub own_entries : own p.number q.seen ≡ own p.number p.seen ++ entries
  pub begins : Begins p.seen q.seen
  pub budget : q.budget + length entries ≡ p.budget
  pub explained : Explains p.destinations p.seen → Explains q.destinations q.seen

-- Of a count of calls: as many more as had an answer, and at most so many that had none. It stays at 2^64 - 1 once it is there.
pub record CountsCalls (most before now answered : ℕ) : Type 0 where
  pub unanswered : ℕ
  pub few : unanswered ≤ most
  pub counted : now ≡ min (before + (answered + unanswered)) (2 ^ 64 - 1)

-- one call had no answer, or none
abbrev pub unanswered_in : Option Unanswered → ℕ
unanswered_in None = 0
unanswered_in (Some why) = 1

-- Of the calls that a caller makes with a pass, by why one had no answer: after it none is made, and it was for want of calls only where none are left.
pub record CallsGoOn (p q : Held) (was is : Option Unanswered) (before now answered : ℕ) : Type 0 where
  pub counted : before < 2 ^ 64 → now ≡ min (before + (answered + (unanswered_in is - unanswered_in was))) (2 ^ 64 - 1)
  pub still : unanswered_in was ≤ unanswered_in is
  pub spent : (was ≡ Some Spent → p.budget ≡ 0) → is ≡ Some Spent → q.budget ≡ 0

-- Of a caller by its aid, its pass, its desk, its count of calls and why one had no answer: all go on by what was handed over, at the same desk, and
-- what it borrows is the same.
abbrev pub CallerGoesOn : {A L K : Type 0} → HallMembers A L → (aid aid' : MutBor A) → (pass pass' : MutBor Held) → (desk desk' : K) → (calls calls' : MutBor ℕ) → (was is : Option Unanswered) → Drawn → Type 0
CallerGoesOn hall aid aid' pass pass' desk desk' calls calls' was is k =
    AidGoesOn hall aid.now aid'.now k.taken × PassGoesOn pass.now pass'.now k.taken.entries
    × (desk' ≡ desk) × (pass'.ghost_name ≡ pass.ghost_name) × (aid'.ghost_name ≡ aid.ghost_name) × (calls'.ghost_name ≡ calls.ghost_name)
    × CallsGoOn pass.now pass'.now was is calls.now calls'.now (length k.taken.entries)
    × (k.unanswered ≡ false → is ≡ was)
