-- What asking a backend came to: at most one dial, one POST and one reply.
use Rattle.std.specs.Prelude.{◌≡◌, ℕ, ◌+◌, ◌≤◌, ◌⊎◌, List, [], ◌∷◌, ◌++◌}
use Rattle.amf_io.specs.declared.dial.Dial.{Ghosts as DialMembers}
use Rattle.amf_io.specs.declared.link.Link.{Ghosts as LinkMembers}
use Rattle.amf_io.specs.Dial.{IsFresh}
use Rattle.amf_io.specs.Front.{CountsBack}
use Rattle.amf_io.specs.Outside.{Rose, Keeps}
use Rattle.http_link.specs.Sent.{AddsFront}
use Rattle.http_backend.specs.declared.asking.Heard.{Heard as Kept}
use Rattle.http_backend.specs.declared.asking.Heard.TheVariants.{Unreached, Broken, Came}
use Rattle.http_backend.specs.Outcomes.{Outcome, ComesTo, outcome_of}
use Rattle.http_backend.specs.Replies.{IsUndecided}

-- There was no connection, and nothing was sent; it failed, and the question may have been heard; or what came came to this.
pub data Heard : Type 0 where
  unreached : Heard
  broken : Heard
  came : (o : Outcome) → Heard

abbrev pub heard_of : Kept → Heard
heard_of Unreached = unreached
heard_of Broken = broken
heard_of (Came reply) = came (outcome_of reply)

-- One question and what was heard of it: what a history of a backend is made of.
pub record Exchange : Type 0 where
  pub asked : List ℕ
  pub heard : Heard

module _ {L : Type 0} (link : LinkMembers L) (first last : L) where
  -- the link has taken the question whole, and what it had to give comes to this reply; no call of it failed
  pub record Replied (asked : List ℕ) (o : Outcome) : Type 0 where
    pub told : link.tells_held last → link.tells_held first
    pub held : link.tells_held last → link.held last ≡ link.held first ++ asked
    pub answers : link.tells_left first → ComesTo (link.left first) o
    pub reads : link.read_faults last ≡ link.read_faults first
    pub writes : link.write_faults last ≡ link.write_faults first

  -- a write or the flush failed: it has taken a front of the question, and has all left that it had
  pub record Unsent (asked : List ℕ) : Type 0 where
    pub told : link.tells_held last → link.tells_held first
    pub front : link.tells_held last → AddsFront (link.held first) (link.held last) asked
    pub left : Keeps (link.tells_left first) (link.tells_left last) (link.left first) (link.left last)
    pub reads : link.read_faults last ≡ link.read_faults first
    pub writes : Rose (link.write_faults first) (link.write_faults last)

  -- the question was sent whole, and a read failed before what came decided anything
  pub record Unheard (asked : List ℕ) : Type 0 where
    pub told : link.tells_held last → link.tells_held first
    pub held : link.tells_held last → link.held last ≡ link.held first ++ asked
    pub gave : link.tells_left first → (given : List ℕ) × (link.left first ≡ given ++ link.left last) × IsUndecided given
    pub reads : Rose (link.read_faults first) (link.read_faults last)
    pub writes : link.write_faults last ≡ link.write_faults first

  -- the question was sent whole, and memory ran out over the reply; no call of the link failed
  pub record Starved (asked : List ℕ) : Type 0 where
    pub told : link.tells_held last → link.tells_held first
    pub held : link.tells_held last → link.held last ≡ link.held first ++ asked
    pub reads : link.read_faults last ≡ link.read_faults first
    pub writes : link.write_faults last ≡ link.write_faults first

  abbrev pub OverLink : List ℕ → Heard → Type 0
  OverLink asked unreached = ⊥
  OverLink asked broken = Unsent asked ⊎ Unheard asked
  OverLink asked (came o) = Replied asked o

module _ {D L : Type 0} (dial : DialMembers D L) (link : LinkMembers L) (port : ℕ) (before after : D) where
  -- it was asked once, at the port, and gave a link, which it took back
  pub record Used (first last : L) : Type 0 where
    pub told : dial.tells after → dial.tells before
    pub asked : dial.tells after → dial.asked after ≡ dial.asked before ++ port ∷ []
    pub gave : dial.tells after → dial.coming before ≡ first ∷ dial.coming after
    pub took_back : dial.tells after → dial.links after ≡ dial.links before ++ last ∷ []
    pub fresh : IsFresh (link.read_faults first) (link.write_faults first)
    pub counts : CountsBack (dial.faults before) (dial.faults after) (link.read_faults last + link.write_faults last)

  -- it was asked once, at the port, and gave none: nothing was sent
  pub record Missed : Type 0 where
    pub told : dial.tells after → dial.tells before
    pub still : dial.tells before → dial.tells after
    pub asked : dial.tells after → dial.asked after ≡ dial.asked before ++ port ∷ []
    pub coming : dial.tells after → dial.coming after ≡ dial.coming before
    pub links : dial.tells after → dial.links after ≡ dial.links before
    pub counted : (dial.faults before ≤ dial.faults after) × Rose (dial.faults before) (dial.faults after)

  -- it had no memory: all that it tells is as it was
  pub record Undialled : Type 0 where
    pub told : dial.tells after → dial.tells before
    pub still : dial.tells before → dial.tells after
    pub asked : dial.tells after → dial.asked after ≡ dial.asked before
    pub coming : dial.tells after → dial.coming after ≡ dial.coming before
    pub links : dial.tells after → dial.links after ≡ dial.links before
    pub no_fault : dial.faults after ≡ dial.faults before

  -- memory ran out: before there was a link, or over one, by which the question was sent once
  abbrev pub Starves : List ℕ → Type 0
  Starves asked = Undialled ⊎ ((first : L) × (last : L) × Used first last × Starved link first last asked)

  -- over one link
  pub record Over (asked : List ℕ) (heard : Heard) : Type 0 where
    pub first : L
    pub last : L
    pub used : Used first last
    pub exchanged : OverLink link first last asked heard

  abbrev pub AsksSo : List ℕ → Heard → Type 0
  AsksSo asked unreached = Missed
  AsksSo asked broken = Over asked broken
  AsksSo asked (came o) = Over asked (came o)

  abbrev pub Asks : Exchange → Type 0
  Asks e = AsksSo e.asked e.heard

-- one exchange after the other, and nothing else
pub data Goes {D L : Type 0} (dial : DialMembers D L) (link : LinkMembers L) (port : ℕ) : D → D → List Exchange → Type 0 where
  nothing : (a : D) → Goes dial link port a a []
  more : {a b c : D} {e : Exchange} {es : List Exchange} → Asks dial link port a b e → Goes dial link port b c es → Goes dial link port a c (e ∷ es)
