-- What one call over a link came to, by the link as it was given and as it was left, the bytes of the call, and the answer.
use Rattle.std.specs.Prelude.{◌≡◌, ℕ, ◌⊎◌, List, ◌++◌}
use Rattle.amf_io.specs.declared.link.Link.{Ghosts as LinkMembers}
use Rattle.amf_io.specs.Outside.{Rose, Keeps}
use Rattle.amf_graph.specs.Graph.{Graph}
use Rattle.amf_graph.specs.Isomorphic.{Isomorphic}
use Rattle.amf_graph.specs.Rooted.{content}
use Rattle.http_link.specs.Sent.{AddsFront}
use Rattle.amf_client.specs.Meant.{Means}
use Rattle.amf_client.specs.Outcomes.{Outcome, bad, fault, result, IsResult}
use Rattle.amf_client.specs.Reply.{IsOpen}
use Rattle.amf_dial_and_call.specs.declared.answer.CallAnswer.{CallAnswer}
use Rattle.amf_dial_and_call.specs.declared.answer.CallAnswer.TheVariants.{Graph as Given, Fault, BadReply, LinkFault, NotArgs, NoSpelling, Memory}

-- the bytes have this result
abbrev pub HasResult : Outcome Graph → List ℕ → Type 0
HasResult o bytes = (rest : List ℕ) × IsResult Means bytes o rest

-- their result is this graph, but for the numbers of its nodes
abbrev pub HasGraph : Graph → List ℕ → Type 0
HasGraph g bytes = (h : Graph) × HasResult (result h) bytes × Isomorphic h g

module _ {L : Type 0} (link : LinkMembers L) (came went : L) where
  -- the link has taken these bytes
  pub record Took (call : List ℕ) : Type 0 where
    pub told : link.tells_held went → link.tells_held came
    pub held : link.tells_held went → link.held went ≡ link.held came ++ call

  -- no read, write or flush of it failed
  pub record HadNoFault : Type 0 where
    pub reads : link.read_faults went ≡ link.read_faults came
    pub writes : link.write_faults went ≡ link.write_faults came

  -- the bytes that it had to give are so
  pub record HadToGive (Are : List ℕ → Type 0) : Type 0 where
    pub told : link.tells_left came → link.tells_left went
    pub are : link.tells_left came → Are (link.left came)

  -- a write or the flush failed: it has taken a front of the bytes, and was not read
  pub record FailedToTake (call : List ℕ) : Type 0 where
    pub told : link.tells_held went → link.tells_held came
    pub front : link.tells_held went → AddsFront (link.held came) (link.held went) call
    pub unread : Keeps (link.tells_left came) (link.tells_left went) (link.left came) (link.left went)
    pub reads : link.read_faults went ≡ link.read_faults came
    pub writes : Rose (link.write_faults came) (link.write_faults went)

  -- a read failed, and the bytes that it gave before fix no result
  pub record FailedToAnswer : Type 0 where
    pub told : link.tells_left came → link.tells_left went
    pub gave : link.tells_left came → (given : List ℕ) × (link.left came ≡ given ++ link.left went) × IsOpen given
    pub reads : Rose (link.read_faults came) (link.read_faults went)
    pub writes : link.write_faults went ≡ link.write_faults came

  -- With a graph, a fault or a bad reply the call was written whole, and that is Result of what the link had to give, a graph up to
  -- isomorphism. With a link fault a call of the link failed before Result was fixed. No link answers a call that is not written.
  abbrev pub Exchanged : List ℕ → CallAnswer → Type 0
  Exchanged call (Given g) = Took call × HadNoFault × HadToGive (HasGraph (content g))
  Exchanged call (Fault code text) = Took call × HadNoFault × HadToGive (HasResult (fault code text))
  Exchanged call (BadReply number) = Took call × HadNoFault × HadToGive (HasResult (bad number))
  Exchanged call LinkFault = FailedToTake call ⊎ (Took call × FailedToAnswer)
  Exchanged call NotArgs = ⊥
  Exchanged call (NoSpelling l) = ⊥
  Exchanged call Memory = Took call × HadNoFault
