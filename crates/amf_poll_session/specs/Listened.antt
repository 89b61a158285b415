-- What a listener did with a dial, and what it wrote.
use Rattle.std.specs.Prelude.{◌≡◌, ◌⊎◌, ℕ, zero, suc, ◌≤◌, Bool, true, false, List, [], ◌∷◌, ◌++◌, Option, Some, None}
use Rattle.amf_io.specs.declared.dial.Dial.{Ghosts as DialMembers}
use Rattle.amf_io.specs.declared.link.Link.{Ghosts as LinkMembers}
use Rattle.amf_io.specs.declared.sink.Sink.{Ghosts as SinkMembers}
use Rattle.amf_io.specs.Outside.{Rose}
use Rattle.amf_wire.specs.Style.{canonical}
use Rattle.amf_graph.specs.Graph.{Graph}
use Rattle.amf3_spelling.specs.Spells3.{Spelled3}
use Rattle.amf_io.specs.Written.{WritesFront}
use Rattle.amf_poll_session.specs.declared.ends.ListenEnd.{ListenEnd}
use Rattle.amf_poll_session.specs.declared.ends.ListenEnd.TheVariants.{Done, Fault, BadReply, LinkFault, WriteFault, Memory}
use Rattle.amf_poll_session.specs.Sessions.{Turn, End, done, by_fault, by_bad, by_link, by_memory, Session, all_links, listen}
use Rattle.amf_poll_session.specs.Carried.{AllCarry}

-- a port, this often
abbrev pub repeated : ℕ → ℕ → List ℕ
repeated port zero = []
repeated port (suc n) = port ∷ repeated port n

-- the canonical spellings of the bodies, one after the other
abbrev pub Spells : List Graph → List ℕ → Type 0
Spells [] out = out ≡ []
Spells (g ∷ more) out = (front : List ℕ) × (back : List ℕ) × (out ≡ front ++ back) × Spelled3 canonical g front × Spells more back

-- the answer is the end of the session; where the output failed, or memory was wanting before a request, it was cut short
abbrev pub EndsAs : Option End → ListenEnd → Type 0
EndsAs end Done = end ≡ Some done
EndsAs end (Fault code text) = end ≡ Some (by_fault code text)
EndsAs end (BadReply number) = end ≡ Some (by_bad number)
EndsAs end LinkFault = end ≡ Some by_link
EndsAs end WriteFault = end ≡ None
EndsAs end Memory = (end ≡ None) ⊎ (end ≡ Some by_memory)

-- the dial's count rose where a dial or a call of a link failed, and else it stayed
abbrev pub CountsLost : Bool → ℕ → ℕ → Type 0
CountsLost true before now = (before ≤ now) × Rose before now
CountsLost false before now = now ≡ before

-- By the dial before and after: it was asked as often as the session dialled, each time at the port. Each link was the next of those to
-- come, was taken back, and carried what the session says.
pub record Listened {D L : Type 0} (dial : DialMembers D L) (link : LinkMembers L) (port : ℕ) (destination : List ℕ) (before after : D) (s : Session Graph) : Type 0 where
  pub came : List L
  pub went : List L
  pub told : dial.tells after → dial.tells before
  pub asked : dial.tells after → dial.asked after ≡ dial.asked before ++ repeated port s.dials
  pub gave : dial.tells after → dial.coming before ≡ came ++ dial.coming after
  pub took_back : dial.tells after → dial.links after ≡ dial.links before ++ went
  pub carry : AllCarry link port destination came went (all_links s)
  pub counts : CountsLost s.has_lost (dial.faults before) (dial.faults after)

-- the output has taken the spellings of these bodies
abbrev pub HasSpelled : List Graph → (held now : List ℕ) → Type 0
HasSpelled bodies held now = (bytes : List ℕ) × Spells bodies bytes × (now ≡ held ++ bytes)

-- the output has taken the bodies of the batches that were new, in order; a front of their bytes where it failed, and some of the bodies where memory was wanting
abbrev pub Wrote : (written : List Graph) → (held now : List ℕ) → ListenEnd → Type 0
Wrote written held now WriteFault = (bytes : List ℕ) × Spells written bytes × WritesFront held now bytes
Wrote written held now Memory = (front : List Graph) × (rest : List Graph) × (written ≡ front ++ rest) × HasSpelled front held now
Wrote written held now answer = HasSpelled written held now

-- Some turns make a session of so many polls that the dial shows; the answer is its end, and the output, where it tells, has taken its bodies.
abbrev pub Listens : {D L O : Type 0} → DialMembers D L → LinkMembers L → SinkMembers O → (port : ℕ) → (destination : List ℕ) → (polls : ℕ) → (before after : D) → (old new : O) → ListenEnd → Type 0
Listens d l o port destination polls before after old new e =
    (turns : List (Turn Graph)) × Listened d l port destination before after (listen polls turns)
    × EndsAs (listen polls turns).end e × (o.tells new → Wrote (listen polls turns).written (o.held old) (o.held new) e)

-- a write fault of the output is counted, and without one the count stays
abbrev pub CountsOutput : ℕ → ℕ → ListenEnd → Type 0
CountsOutput before now WriteFault = (before ≤ now) × Rose before now
CountsOutput before now answer = now ≡ before

-- a bad reply has a number from 1 to 8
abbrev pub IsNumbered : ListenEnd → Type 0
IsNumbered (BadReply number) = (1 ≤ number) × (number ≤ 8)
IsNumbered answer = Unit {0}
