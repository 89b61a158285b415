-- What the links of a listener show of it: the requests that each has taken, and the answers that it had to give.
use Rattle.std.specs.Prelude.{◌≡◌, ℕ, Bool, true, false, ◌||◌, List, [], ◌∷◌, ◌++◌}
use Rattle.amf_io.specs.declared.link.Link.{Ghosts as LinkMembers}
use Rattle.amf_io.specs.Dial.{IsFresh}
use Rattle.amf_io.specs.Outside.{Rose}
use Rattle.amf_graph.specs.Graph.{Graph}
use Rattle.amf_graph.specs.Isomorphic.{Isomorphic}
use Rattle.http_link.specs.Sent.{AddsFront}
use Rattle.amf_client.specs.Meant.{Means}
use Rattle.amf_client.specs.Outcomes as outcome
use Rattle.amf_client.specs.Outcomes.{Outcome, IsResult}
use Rattle.amf_client.specs.Reply.{IsOpen}
use Rattle.amf_poll_session.specs.Requests.{IsAsked}
use Rattle.amf_poll_session.specs.declared.request.Request.{Request}
use Rattle.amf_poll_session.specs.Replies.{seen_of}
use Rattle.amf_poll_session.specs.Sessions.{Turn, no_link, link_fault, starved, bad, fault, turn_of, Sent}

-- what Result brings a request: a graph is told but for the numbers of its nodes
abbrev pub BroughtBy : Request → Turn Graph → Outcome Graph → Type 0
BroughtBy r turn (outcome.bad number) = turn ≡ bad number
BroughtBy r turn (outcome.fault code text) = turn ≡ fault code text
BroughtBy r turn (outcome.result h) = (g : Graph) × Isomorphic h g × (turn ≡ turn_of r (seen_of g))

-- Result of the bytes brings this, and rest stands behind the reply
abbrev pub Reads : Request → List ℕ → Turn Graph → List ℕ → Type 0
Reads r bytes turn rest = (o : Outcome Graph) × IsResult Means bytes o rest × BroughtBy r turn o

-- how the use of a link broke off: a write or the flush failed, or a read; or no call of it failed
pub data Break : Type 0 where
  unbroken : Break
  in_write : Break
  in_read : Break

-- a request as a link took it, with rest behind it: whole, or a front of it where its write failed
abbrev pub TookAs : Break → Turn Graph → (whole rest bytes : List ℕ) → Type 0
TookAs in_write link_fault whole rest bytes = AddsFront [] bytes whole × (rest ≡ [])
TookAs b turn whole rest bytes = bytes ≡ whole ++ rest

-- what answered a request: the bytes had this Result; a read failed before they fixed one; or nothing is told
abbrev pub AnsweredBy : Break → Request → Turn Graph → (bytes rest : List ℕ) → Type 0
AnsweredBy in_write r link_fault bytes rest = Unit {0}
AnsweredBy in_read r link_fault bytes rest = (given : List ℕ) × (bytes ≡ given ++ rest) × IsOpen given
AnsweredBy unbroken r link_fault bytes rest = ⊥
AnsweredBy b r starved bytes rest = Unit {0}
AnsweredBy b r no_link bytes rest = ⊥
AnsweredBy b r turn bytes rest = Reads r bytes turn rest

-- the answers came one after the other, and rest is behind them
abbrev pub AreAnswered : Break → List (Sent Graph) → (bytes rest : List ℕ) → Type 0
AreAnswered b [] bytes rest = bytes ≡ rest
AreAnswered b (x ∷ more) bytes rest = (behind : List ℕ) × AnsweredBy b x.request x.turn bytes behind × AreAnswered b more behind rest

-- where a read failed the link was left there; else bytes behind the answers may have been read too
abbrev pub EndsAt : Break → (rest left : List ℕ) → Type 0
EndsAt in_read rest left = rest ≡ left
EndsAt b rest left = Unit {0}

abbrev pub is_fault : {B : Type 0} → Turn B → Bool
is_fault link_fault = true
is_fault _ = false

abbrev pub has_fault : {B : Type 0} → List (Sent B) → Bool
has_fault [] = false
has_fault (x ∷ more) = is_fault x.turn || has_fault more

-- a turn tells that a call of the link failed, exactly where one did, and that is counted
abbrev pub Counts : {B : Type 0} → Break → List (Sent B) → (reads reads' writes writes' : ℕ) → Type 0
Counts unbroken sent reads reads' writes writes' = (has_fault sent ≡ false) × (reads' ≡ reads) × (writes' ≡ writes)
Counts in_write sent reads reads' writes writes' = (has_fault sent ≡ true) × (reads' ≡ reads) × Rose writes writes'
Counts in_read sent reads reads' writes writes' = (has_fault sent ≡ true) × Rose reads reads' × (writes' ≡ writes)

-- the bytes are these requests, one after the other
abbrev pub AreAsked : (port : ℕ) (destination : List ℕ) → Break → List (Sent Graph) → List ℕ → Type 0
AreAsked port destination b [] bytes = bytes ≡ []
AreAsked port destination b (x ∷ more) bytes =
    (whole : List ℕ) × (rest : List ℕ) × IsAsked port destination x.ds_id x.request whole × TookAs b x.turn whole rest bytes × AreAsked port destination b more rest

module _ {L : Type 0} (link : LinkMembers L) (port : ℕ) (destination : List ℕ) where
  -- A link, as it came and as it was taken back, has carried these requests.
  pub record Carries (came went : L) (sent : List (Sent Graph)) : Type 0 where
    pub break : Break
    pub fresh : IsFresh (link.read_faults came) (link.write_faults came)
    pub told_held : link.tells_held went → link.tells_held came
    pub held : link.tells_held went → (bytes : List ℕ) × AreAsked port destination break sent bytes × (link.held went ≡ link.held came ++ bytes)
    pub told_left : link.tells_left came → link.tells_left went
    pub gave : link.tells_left came → (rest : List ℕ) × AreAnswered break sent (link.left came) rest × EndsAt break rest (link.left went)
    pub counts : Counts break sent (link.read_faults came) (link.read_faults went) (link.write_faults came) (link.write_faults went)

  -- link by link
  abbrev pub AllCarry : List L → List L → List (List (Sent Graph)) → Type 0
  AllCarry [] [] [] = Unit {0}
  AllCarry (came ∷ cames) (went ∷ wents) (sent ∷ more) = Carries came went sent × AllCarry cames wents more
  AllCarry _ _ _ = ⊥
