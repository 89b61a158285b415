-- What workers did together, each with the links of a hall of a front that was opened, at one desk.
use Rattle.std.specs.Prelude.{◌≡◌, ℕ, ◌+◌, ◌<◌, ◌≤◌, Bool, true, false, List, [], ◌∷◌, ◌++◌, length, map, codes, ⊤}
use Rattle.std.specs.List.{AllByRecursion, list_any}
use Rattle.amf_io.specs.Outside.{Rose}
use Rattle.amf_io.specs.declared.link.Link.{Ghosts as LinkMembers}
use Rattle.amf_io.specs.declared.front.Front.{Ghosts as FrontMembers}
use Rattle.amf_desk.specs.declared.closed.Closed.{Closed}
use Rattle.amf_desk.specs.Histories.{own}
use Rattle.amf_desk.specs.Passes.{Held, ClosedAs}
use Rattle.amf_service.specs.Registry.{Entry}
use Rattle.amf_gateway.specs.declared.worker.WorkerEnd.{WorkerEnd}
use Rattle.amf_gateway.specs.declared.worker.WorkerEnd.TheVariants.{Done, FrontFault}
use Rattle.amf_gateway.specs.Served.{Served, entries_of, starved_in, IsWholeUnlessFault}
use Rattle.amf_gateway.specs.ServesLink.{Service}
use Rattle.amf_gateway.specs.Tells.{HallMembers}
use Rattle.amf_workers.specs.declared.answer.ServeAnswer.{ServeAnswer}
use Rattle.amf_workers.specs.declared.answer.ServeAnswer.TheVariants.{Memory, NotOpened, Closed as WasClosed}

abbrev pub destinations : List (List ℕ)
destinations = codes "chat" ∷ codes "news" ∷ []

-- P of each, by its number, of which the first has this one
abbrev pub EachFrom : {X : Type 0} → ℕ → (ℕ → X → Type 0) → List X → Type 0
EachFrom n P [] = ⊤
EachFrom n P (x ∷ xs) = P n x × EachFrom (n + 1) P xs

-- whether the hall of the worker failed
abbrev pub failed_in : WorkerEnd → Bool
failed_in (Done starved) = false
failed_in (FrontFault starved) = true

-- a worker: its hall as it was opened and as it came back, its pass as it was split off and as it was joined, and how it ended
pub record Shift {H L : Type 0} (hall : HallMembers H L) (link : LinkMembers L) (services : List Entry) (each : ℕ) : Type 0 where
  pub opened : H
  pub returned : H
  pub before : Held
  pub after : Held
  pub end : WorkerEnd
  -- the hall had not failed and had served nothing
  pub whole : hall.faults opened ≡ 0
  pub fresh : hall.served opened ≡ []
  pub served : Served hall link services each before after opened returned end

-- the link told what it had left when it came, and tells what it holds
abbrev pub TellsBoth : {L : Type 0} → LinkMembers L → Service L → Type 0
TellsBoth link v = link.tells_left v.came × link.tells_held v.left

-- a front's count rises where a hall failed, and else stays
abbrev pub CountsFaults : (before now : ℕ) → Bool → Type 0
CountsFaults before now true = (before ≤ now) × Rose before now
CountsFaults before now false = now ≡ before

-- By the services, the port, the number of workers, the links of each, the front before and after, and the answer.
pub record Together {F H L : Type 0} (front : FrontMembers F H L) (hall : HallMembers H L) (link : LinkMembers L) (services : List Entry) (port workers each : ℕ) (a b : F) (told : Closed) (starved faulty : Bool) : Type 0 where
  -- the front was asked once, and took back the halls that it gave, in order; each was served by a worker
  pub tells : front.tells b → front.tells a
  pub asked : front.tells b → front.asked b ≡ front.asked a ++ (port, workers) ∷ []
  pub shifts : List (Shift hall link services each)
  pub many : length shifts ≡ workers
  pub gave : front.tells b → front.to_open a ≡ map (λ s. s.opened) shifts ++ front.to_open b
  pub took_back : front.tells b → front.halls b ≡ front.halls a ++ map (λ s. s.returned) shifts
  -- there is one history, and the desk was closed with it; it consists of the workers' entries, those of the i-th pass for the links of the i-th hall
  pub closing : Held
  pub closed : ClosedAs closing told
  pub destinations_are : closing.destinations ≡ destinations
  pub callers : AllByRecursion (λ e. (1 ≤ e.caller) × (e.caller < 1 + workers)) closed.history
  pub entries : EachFrom 1 (λ i s. (s.before.number ≡ i) × (own i closed.history ≡ entries_of s.served.links)) shifts
  -- starved exactly where a link ended because memory ran out; where none did and a worker has calls left, each link of it was answered whole unless it had a fault
  pub starved_is : starved ≡ list_any starved_in (map (λ s. s.end) shifts)
  pub answered : starved ≡ false → AllByRecursion (λ s. 0 < s.after.budget → AllByRecursion (IsWholeUnlessFault link) s.served.links) shifts
  -- a worker of at most a million links has calls left, where the links tell
  pub calls_left : each ≤ 1000000 → AllByRecursion (λ s. AllByRecursion (TellsBoth link) s.served.links → 0 < s.after.budget) shifts
  -- faulty exactly where a hall failed
  pub faulty_is : faulty ≡ list_any failed_in (map (λ s. s.end) shifts)
  pub counts : CountsFaults (front.faults a) (front.faults b) faulty

-- the front was asked once, and failed
pub record Failed {F H L : Type 0} (front : FrontMembers F H L) (port workers : ℕ) (a b : F) : Type 0 where
  pub tells : front.tells b → front.tells a
  pub asked : front.tells b → front.asked b ≡ front.asked a ++ (port, workers) ∷ []
  pub to_open : front.tells b → front.to_open b ≡ front.to_open a
  pub halls : front.tells b → front.halls b ≡ front.halls a
  pub counts : CountsFaults (front.faults a) (front.faults b) true

-- the front has all halls again that it gave, if it gave some, as it gave them
pub record GaveUp {F H L : Type 0} (front : FrontMembers F H L) (a b : F) : Type 0 where
  pub opened : List H
  pub tells : front.tells b → front.tells a
  pub gave : front.tells b → front.to_open a ≡ opened ++ front.to_open b
  pub took_back : front.tells b → front.halls b ≡ front.halls a ++ opened
  pub counts : CountsFaults (front.faults a) (front.faults b) false

-- running out of memory is the free answer
abbrev pub Serves : {F H L : Type 0} → FrontMembers F H L → HallMembers H L → LinkMembers L → List Entry → (port workers each : ℕ) → (a b : F) → ServeAnswer → Type 0
Serves front hall link services port workers each a b Memory = GaveUp front a b
Serves front hall link services port workers each a b NotOpened = Failed front port workers a b
Serves front hall link services port workers each a b (WasClosed told starved faulty) = Together front hall link services port workers each a b told starved faulty
