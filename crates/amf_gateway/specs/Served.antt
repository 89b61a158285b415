-- What a worker did with the links of its hall.
use Rattle.std.specs.Prelude.{◌≡◌, ℕ, ◌-◌, ◌<◌, ◌≤◌, ◌⊎◌, Bool, false, List, [], ◌∷◌, ◌++◌, length, map, ⊤}
use Rattle.std.specs.List.{AllByRecursion, list_any}
use Rattle.amf_io.specs.Outside.{Rose, Steady}
use Rattle.amf_broker.specs.History.{Entry as Event}
use Rattle.amf_desk.specs.Passes.{Held}
use Rattle.amf_service.specs.Registry.{Entry}
use Rattle.amf_gateway.specs.declared.worker.Worker.{Worker}
use Rattle.amf_gateway.specs.declared.worker.WorkerEnd.{WorkerEnd}
use Rattle.amf_gateway.specs.declared.worker.WorkerEnd.TheVariants.{Done, FrontFault}
use Rattle.amf_gateway.specs.Handed.{Given, PassGoesOn, CountsCalls}
use Rattle.amf_answer_plan.specs.Serving.{ServeEnd, ended, spent}
use Rattle.amf_gateway.specs.ServesLink.{Service, IsServed, is_starved}
use Rattle.amf_io.specs.declared.link.Link.{Ghosts as LinkMembers}
use Rattle.amf_gateway.specs.Tells.{HallMembers}

-- what was taken for some links, one after the other
abbrev pub moments_of : {L : Type 0} → List (Service L) → List ℕ
moments_of [] = []
moments_of (s ∷ ss) = s.took.moments ++ moments_of ss

abbrev pub words_of : {L : Type 0} → List (Service L) → List ℕ
words_of [] = []
words_of (s ∷ ss) = s.took.words ++ words_of ss

abbrev pub entries_of : {L : Type 0} → List (Service L) → List Event
entries_of [] = []
entries_of (s ∷ ss) = s.took.entries ++ entries_of ss

-- the link was answered whole
abbrev pub IsWhole : ServeEnd → Type 0
IsWhole (ended end) = ⊤
IsWhole _ = ⊥

-- the link was answered whole, unless a count of it rose
abbrev pub IsWholeUnlessFault : {L : Type 0} → LinkMembers L → Service L → Type 0
IsWholeUnlessFault m s = Steady (m.read_faults s.came) (m.read_faults s.left) → Steady (m.write_faults s.came) (m.write_faults s.left) → IsWhole s.end

-- a link that ended for want of calls had made all that were left then, of so many at first
abbrev pub AreSpent : {L : Type 0} → (budget : ℕ) → List (Service L) → Type 0
AreSpent budget [] = ⊤
AreSpent budget (s ∷ ss) = (s.end ≡ spent → length s.took.entries ≡ budget) × AreSpent (budget - length s.took.entries) ss

-- whether a link of the worker ended because memory ran out, as it answers
abbrev pub starved_in : WorkerEnd → Bool
starved_in (Done starved) = starved
starved_in (FrontFault starved) = starved

-- done only after so many links, or where the hall has no more, if it tells
abbrev pub EndsAfter : (links each : ℕ) → (tells none_more : Type 0) → WorkerEnd → Type 0
EndsAfter links each tells none_more (Done starved) = (links ≡ each) ⊎ (tells → none_more)
EndsAfter links each tells none_more (FrontFault starved) = ⊤

-- a fault of the front is counted, and without one the count stays
abbrev pub CountsFront : (before now : ℕ) → WorkerEnd → Type 0
CountsFront before now (Done starved) = now ≡ before
CountsFront before now (FrontFault starved) = (before ≤ now) × Rose before now

-- By the services, each, the worker before (its pass and its hall), the worker after, and its answer.
pub record Served {H L : Type 0} (hall : HallMembers H L) (link : LinkMembers L) (services : List Entry) (each : ℕ) (p q : Held) (a b : H) (end : WorkerEnd) : Type 0 where
  -- the links that the hall gave, each served, and at most each
  pub links : List (Service L)
  pub each_served : AllByRecursion (IsServed link services) links
  pub at_most : length links ≤ each
  pub done : EndsAfter (length links) each (hall.tells_links b) (hall.coming b ≡ []) end
  pub front : CountsFront (hall.faults a) (hall.faults b) end
  -- each came from the hall, and was given back to it, in order
  pub tells : hall.tells_links b → hall.tells_links a
  pub gave : hall.tells_links b → hall.coming a ≡ map (λ s. s.came) links ++ hall.coming b
  pub took_back : hall.tells_links b → hall.served b ≡ hall.served a ++ map (λ s. s.left) links
  -- what the hall gave for them, where it tells, and the new entries of the pass, which else goes on as it was
  pub moments : Given (hall.tells_moments a) (hall.tells_moments b) (hall.moments a) (hall.moments b) (moments_of links)
  pub words : Given (hall.tells_words a) (hall.tells_words b) (hall.words a) (hall.words b) (words_of links)
  pub pass : PassGoesOn p q (entries_of links)
  pub all_made : AreSpent p.budget links
  -- starved exactly where a link ended because memory ran out; where none did and calls are left, each link was answered whole unless it had a fault
  pub starved : starved_in end ≡ list_any (λ s. is_starved s.end) links
  pub whole : starved_in end ≡ false → 0 < q.budget → AllByRecursion (IsWholeUnlessFault link) links

-- The same of a worker, before and after.

abbrev pub WorkerServed : {H L : Type 0} → HallMembers H L → LinkMembers L → List Entry → (each : ℕ) → (a b : Worker H L) → WorkerEnd → Type 0
WorkerServed hall link services each a b end = Served hall link services each a.pass b.pass a.hall b.hall end

-- it counted its calls: those that had an answer, and at most so many that had none
abbrev pub WorkerCounts : {H L : Type 0} → (most : ℕ) → (a b : Worker H L) → Type 0
WorkerCounts most a b = CountsCalls most a.calls b.calls (a.pass.budget - b.pass.budget)

-- each had an answer, where no link ran out of memory and calls are left
abbrev pub CountsAnswered : {H L : Type 0} → (starved : Bool) → (a b : Worker H L) → Type 0
CountsAnswered starved a b = starved ≡ false → 0 < b.pass.budget → WorkerCounts 0 a b

-- at most one had none for each link that the hall took back, where it tells
abbrev pub CountsTold : {H L : Type 0} → HallMembers H L → (a b : Worker H L) → Type 0
CountsTold hall a b = hall.tells_links b.hall → WorkerCounts (length (hall.served b.hall) - length (hall.served a.hall)) a b
