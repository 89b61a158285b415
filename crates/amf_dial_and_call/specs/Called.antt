-- What a call over a dial came to: at most one dial, one request, one answer.
use Rattle.std.specs.Prelude.{◌≡◌, ℕ, ◌+◌, ◌≤◌, ◌⊎◌, true, false, List, [], ◌∷◌, ◌++◌, ⊤}
use Rattle.amf_io.specs.declared.dial.Dial.{Ghosts as DialMembers}
use Rattle.amf_io.specs.declared.link.Link.{Ghosts as LinkMembers}
use Rattle.amf_io.specs.Dial.{IsFresh}
use Rattle.amf_io.specs.Front.{CountsBack}
use Rattle.amf_io.specs.Outside.{Rose}
use Rattle.amf_graph.specs.Graph.{Graph}
use Rattle.amf_graph.specs.Reached.{IsNamed}
use Rattle.amf_graph.specs.Rooted.{content}
use Rattle.amf3_spelling.specs.Lacks3.{IsLack3}
use Rattle.amf_client.specs.Asking.{IsAsk, are_arguments}
use Rattle.amf_dial_and_call.specs.declared.answer.CallAnswer.{CallAnswer}
use Rattle.amf_dial_and_call.specs.declared.answer.CallAnswer.TheVariants.{Graph as Given, Fault, BadReply, LinkFault, NotArgs, NoSpelling, Memory}
use Rattle.amf_dial_and_call.specs.Exchanged.{Exchanged}

module _ {D L : Type 0} (dial : DialMembers D L) (link : LinkMembers L) (port : ℕ) (before after : D) where
  -- it was asked once, at the port, and gave this link, of which no call had failed; it took the link back, whose faults are one of its own
  pub record Used (came went : L) : Type 0 where
    pub told : dial.tells after → dial.tells before
    pub asked : dial.tells after → dial.asked after ≡ dial.asked before ++ port ∷ []
    pub gave : dial.tells after → dial.coming before ≡ came ∷ dial.coming after
    pub took_back : dial.tells after → dial.links after ≡ dial.links before ++ went ∷ []
    pub fresh : IsFresh (link.read_faults came) (link.write_faults came)
    pub counts : CountsBack (dial.faults before) (dial.faults after) (link.read_faults went + link.write_faults went)

  -- it was asked once, at the port, and failed: it gave no link
  pub record Missed : Type 0 where
    pub told : dial.tells after → dial.tells before
    pub still : dial.tells before → dial.tells after
    pub asked : dial.tells after → dial.asked after ≡ dial.asked before ++ port ∷ []
    pub coming : dial.tells after → dial.coming after ≡ dial.coming before
    pub links : dial.tells after → dial.links after ≡ dial.links before
    pub counted : (dial.faults before ≤ dial.faults after) × Rose (dial.faults before) (dial.faults after)

  -- it was not asked, or had no memory: all that it tells is as it was
  pub record Undialled : Type 0 where
    pub told : dial.tells after → dial.tells before
    pub still : dial.tells before → dial.tells after
    pub asked : dial.tells after → dial.asked after ≡ dial.asked before
    pub coming : dial.tells after → dial.coming after ≡ dial.coming before
    pub links : dial.tells after → dial.links after ≡ dial.links before
    pub no_fault : dial.faults after ≡ dial.faults before

  -- it gave one link and took it back, and over that link these bytes came to this answer
  pub record Over (call : List ℕ) (answer : CallAnswer) : Type 0 where
    pub came : L
    pub went : L
    pub used : Used came went
    pub exchanged : Exchanged link came went call answer

  -- what these bytes came to, with this answer
  abbrev pub Dialled : List ℕ → CallAnswer → Type 0
  Dialled call (Given g) = Over call (Given g)
  Dialled call (Fault code text) = Over call (Fault code text)
  Dialled call (BadReply number) = Over call (BadReply number)
  Dialled call LinkFault = Missed ⊎ Over call LinkFault
  Dialled call NotArgs = ⊥
  Dialled call (NoSpelling l) = ⊥
  Dialled call Memory = Undialled ⊎ Over call Memory

  -- By the target, the arguments and the answer. Where the arguments are none, or have no spelling, nothing was dialled.
  -- Want of memory is the free answer, before the call was made or behind it.
  abbrev pub Calls : List ℕ → Graph → CallAnswer → Type 0
  Calls target args NotArgs = (after ≡ before) × (are_arguments args ≡ false)
  Calls target args (NoSpelling l) = (after ≡ before) × (are_arguments args ≡ true) × IsLack3 args l.node l.kind
  Calls target args Memory = Undialled ⊎ ((call : List ℕ) × IsAsk port target args call × Over call Memory)
  Calls target args answer = (call : List ℕ) × IsAsk port target args call × Dialled call answer

-- a link fault is counted, and without one the count stays
abbrev pub Counts : ℕ → ℕ → CallAnswer → Type 0
Counts before now (Given g) = now ≡ before
Counts before now (Fault code text) = now ≡ before
Counts before now (BadReply number) = now ≡ before
Counts before now LinkFault = (before ≤ now) × Rose before now
Counts before now NotArgs = now ≡ before
Counts before now (NoSpelling l) = now ≡ before
Counts before now Memory = now ≡ before

-- a bad reply has a number from 1 to 8
abbrev pub IsNumbered : CallAnswer → Type 0
IsNumbered (BadReply number) = (1 ≤ number) × (number ≤ 8)
IsNumbered answer = ⊤

-- a graph has no empty dynamic or associative name, where a link tells what it had to give and where it does not: so it lacks nothing
abbrev pub HasNames : CallAnswer → Type 0
HasNames (Given g) = IsNamed (content g)
HasNames answer = ⊤
