-- What serving a link did: between the link as it came and as it was left, by what its aid gave and by the new entries of the pass.
use Rattle.std.specs.Prelude.{◌≡◌, ℕ, ◌≤◌, Bool, true, false, List}
use Rattle.amf_io.specs.Outside.{Rose}
use Rattle.amf_desk.specs.Passes.{Held}
use Rattle.amf_service.specs.Registry.{Entry}
use Rattle.amf_gateway.specs.declared.links.LinkEnd.{LinkEnd as Ending}
use Rattle.amf_gateway.specs.declared.links.LinkEnd.TheVariants.{Closed, Refused, Truncated, ReadFault, WriteFault, Spent, Memory}
use Rattle.amf_gateway.specs.Handed.{Given, PassGoesOn}
use Rattle.amf_answer_plan.specs.Links.{closed, refused, truncated}
use Rattle.amf_answer_plan.specs.Stands.{Stops}
use Rattle.amf_answer_plan.specs.Serving.{ServeEnd, ended, read_fault, write_fault, no_memory, spent, LinkBytes, Taken, Serves}
use Rattle.amf_io.specs.declared.link.Link.{Ghosts as LinkMembers}
use Rattle.amf_gateway.specs.Tells.{HallMembers, LinksStay}

-- how a link ended
abbrev pub end_of : Ending → ServeEnd
end_of Closed = ended closed
end_of (Refused status) = ended (refused status)
end_of Truncated = ended truncated
end_of ReadFault = read_fault
end_of WriteFault = write_fault
end_of Spent = spent
end_of Memory = no_memory

-- a read fault and a write fault are counted, each on its side, and without one the counts stay
abbrev pub CountsLink : (reads reads_now writes writes_now : ℕ) → ServeEnd → Type 0
CountsLink reads reads_now writes writes_now read_fault = (reads ≤ reads_now) × Rose reads reads_now × (writes_now ≡ writes)
CountsLink reads reads_now writes writes_now write_fault = (reads_now ≡ reads) × (writes ≤ writes_now) × Rose writes writes_now
CountsLink reads reads_now writes writes_now _ = (reads_now ≡ reads) × (writes_now ≡ writes)

-- the link ended because memory ran out
abbrev pub is_starved : ServeEnd → Bool
is_starved no_memory = true
is_starved _ = false

-- how many calls of a link may have had no answer: one, where memory or calls ran out
abbrev pub most_unanswered : ServeEnd → ℕ
most_unanswered no_memory = 1
most_unanswered spent = 1
most_unanswered _ = 0

-- a link as it came and as it was left, what was taken while it was served, and how it ended
pub record Service (L : Type 0) : Type 0 where
  pub came : L
  pub left : L
  pub took : Taken
  pub end : ServeEnd

-- the bytes of the link, as it tells them
abbrev pub bytes_of : {L : Type 0} → LinkMembers L → Service L → LinkBytes
bytes_of m s = record { left = m.left s.came; leaves = m.left s.left; held = m.held s.came; now = m.held s.left }

-- it was served by what was taken, and stopped at once where it failed, if it tells what it had left and what it holds; and its faults are counted
pub record IsServed {L : Type 0} (m : LinkMembers L) (services : List Entry) (s : Service L) : Type 0 where
  pub serves : m.tells_left s.came → m.tells_held s.left → Serves services (bytes_of m s) s.took s.end
  pub stops : m.tells_left s.came → m.tells_held s.left → Stops services (bytes_of m s) s.took s.end
  pub counts : CountsLink (m.read_faults s.came) (m.read_faults s.left) (m.write_faults s.came) (m.write_faults s.left) s.end

-- What was taken is what the aid gave, where it tells, and the pass's new entries. Where the link ended for want of calls, none are left.
pub record ServesLink {L A K : Type 0} (link : LinkMembers L) (aid : HallMembers A K) (services : List Entry) (p q : Held) (a b : A) (s : Service L) : Type 0 where
  pub is_served : IsServed link services s
  pub moments : Given (aid.tells_moments a) (aid.tells_moments b) (aid.moments a) (aid.moments b) s.took.moments
  pub words : Given (aid.tells_words a) (aid.tells_words b) (aid.words a) (aid.words b) s.took.words
  pub pass : PassGoesOn p q s.took.entries
  pub budget : s.end ≡ spent → q.budget ≡ 0
  pub links : LinksStay aid a b

-- so by some of what was taken, between the link before and after
abbrev pub WasServed : {L A K : Type 0} → LinkMembers L → HallMembers A K → List Entry → (p q : Held) → (a b : A) → (came left : L) → ServeEnd → Type 0
WasServed link aid services p q a b came left end = (k : Taken) × ServesLink link aid services p q a b (record { came = came; left = left; took = k; end = end })
