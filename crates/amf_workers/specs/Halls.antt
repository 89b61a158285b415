-- What serving opened halls comes to. A device of proofs.
use Rattle.std.specs.Prelude.{◌≡◌, ℕ, ◌+◌, ◌<◌, ◌≤◌, Bool, false, List, length, map}
use Rattle.std.specs.List.{AllByRecursion, list_any}
use Rattle.amf_io.specs.declared.link.Link.{Ghosts as LinkMembers}
use Rattle.amf_io.specs.declared.front.Front.{Ghosts as FrontMembers}
use Rattle.amf_desk.specs.declared.closed.Closed.{Closed}
use Rattle.amf_desk.specs.Histories.{own}
use Rattle.amf_desk.specs.Passes.{Held, ClosedAs}
use Rattle.amf_service.specs.Registry.{Entry}
use Rattle.amf_gateway.specs.Served.{entries_of, starved_in, IsWholeUnlessFault}
use Rattle.amf_gateway.specs.Tells.{HallMembers}
use Rattle.amf_workers.specs.declared.answer.ServeAnswer.{ServeAnswer}
use Rattle.amf_workers.specs.declared.answer.ServeAnswer.TheVariants.{Memory, NotOpened, Closed as WasClosed}
use Rattle.amf_workers.specs.Gathered.{TookBack}
use Rattle.amf_workers.specs.Together.{destinations, EachFrom, failed_in, Shift, TellsBoth}

-- the workers' shifts, one for each hall, and the history of the desk that was closed after them
pub record Worked {H L : Type 0} (hall : HallMembers H L) (link : LinkMembers L) (services : List Entry) (each : ℕ) (halls : List H) (told : Closed) (starved faulty : Bool) : Type 0 where
  pub shifts : List (Shift hall link services each)
  pub opened : map (λ s. s.opened) shifts ≡ halls
  pub closing : Held
  pub closed : ClosedAs closing told
  pub destinations_are : closing.destinations ≡ destinations
  pub callers : AllByRecursion (λ e. (1 ≤ e.caller) × (e.caller < 1 + length shifts)) closed.history
  pub entries : EachFrom 1 (λ i s. (s.before.number ≡ i) × (own i closed.history ≡ entries_of s.served.links)) shifts
  pub starved_is : starved ≡ list_any starved_in (map (λ s. s.end) shifts)
  pub answered : starved ≡ false → AllByRecursion (λ s. 0 < s.after.budget → AllByRecursion (IsWholeUnlessFault link) s.served.links) shifts
  pub calls_left : each ≤ 1000000 → AllByRecursion (λ s. AllByRecursion (TellsBoth link) s.served.links → 0 < s.after.budget) shifts
  pub faulty_is : faulty ≡ list_any failed_in (map (λ s. s.end) shifts)

-- the front has the halls again, served by the workers, or as they were where memory was wanting
abbrev pub ServesHalls : {F H L : Type 0} → FrontMembers F H L → HallMembers H L → LinkMembers L → List Entry → (each : ℕ) → (halls : List H) → (a b : F) → ServeAnswer → Type 0
ServesHalls front hall link services each halls a b Memory = TookBack front hall.faults a b halls
ServesHalls front hall link services each halls a b NotOpened = ⊥
ServesHalls front hall link services each halls a b (WasClosed told starved faulty) = (w : Worked hall link services each halls told starved faulty) × TookBack front hall.faults a b (map (λ s. s.returned) w.shifts)
