-- How writing and reading make up an exchange.
use Rattle.std.proofs.Common.{◌≡◌, ◌∙◌, ℕ, List, [], ◌++◌, subst, Result, Ok, Err, inr}
use Rattle.std.specs.Prelude.{IfOk}
use Rattle.amf_io.specs.declared.link.Link.{Ghosts as LinkMembers}
use Rattle.amf_io.specs.Outside.{Rose, Keeps}
use Rattle.amf_graph.specs.Reached.{IsNamed}
use Rattle.amf_graph.specs.Rooted.{RootedArena, content}
use Rattle.amf_client.specs.declared.ends.AnswerFault.{AnswerFault}
use Rattle.amf_client.specs.declared.ends.AnswerFault.TheVariants as end
use Rattle.amf_client.specs.Answers.{Answers, Counts}
use Rattle.amf_client.specs.Reply.{IsOpen}
use Rattle.amf_dial_and_call.specs.Called.{HasNames}
use Rattle.amf_dial_and_call.specs.Exchanged.{Took, HadNoFault, HadToGive, FailedToAnswer, Exchanged}
use Rattle.amf_dial_and_call.specs.Steps.{answer_of}

module _ {L : Type 0} (link : LinkMembers L) (a m b : L) (call keeps : List ℕ) where
  -- the call was sent
  pub record Sent : Type 0 where
    pub told : link.tells_held m → link.tells_held a
    pub held : link.tells_held m → link.held m ≡ link.held a ++ call
    pub writes : link.write_faults m ≡ link.write_faults a
    pub side : Keeps (link.tells_left a) (link.tells_left m) (link.left a) (link.left m)
    pub reads : link.read_faults m ≡ link.read_faults a

  -- and then this was read
  pub record Read (r : Result RootedArena AnswerFault) : Type 0 where
    pub told : link.tells_left m → link.tells_left b
    pub answers : link.tells_left m → Answers [] (link.left m) keeps (link.left b) r
    pub cause : Counts (link.read_faults m) (link.read_faults b) r
    pub side : Keeps (link.tells_held m) (link.tells_held b) (link.held m) (link.held b)
    pub writes : link.write_faults b ≡ link.write_faults m

  took : (r : Result RootedArena AnswerFault) → Sent → Read r → Took link a b call
  took r s d = record { told = λ t. s.told (d.side.since t); held = λ t. d.side.same (d.side.since t) ∙ s.held (d.side.since t) }

  no_fault : (r : Result RootedArena AnswerFault) → Sent → Read r → link.read_faults b ≡ link.read_faults m → HadNoFault link a b
  no_fault r s d same = record { reads = same ∙ s.reads; writes = d.writes ∙ s.writes }

  gives : (r : Result RootedArena AnswerFault) (Are : List ℕ → Type 0) → Sent → Read r → (link.tells_left m → Are (link.left m)) → HadToGive link a b Are
  gives r Are s d are = record { told = λ t. d.told (s.side.still t); are = λ t. subst Are (s.side.same t) (are (s.side.still t)) }

  fails : Sent → Read (Err end.ReadFault) → FailedToAnswer link a b
  fails s d = record {
    told = λ t. d.told (s.side.still t);
    gave = λ t. let g = d.answers (s.side.still t) in
        subst (λ (l : List ℕ). (given : List ℕ) × (l ≡ given ++ link.left b) × IsOpen given) (s.side.same t) (g.given, g.gave, g.holds);
    reads = subst (λ (k : ℕ). Rose k (link.read_faults b)) s.reads d.cause.1;
    writes = d.writes ∙ s.writes;
  }

  pub exchanged : (r : Result RootedArena AnswerFault) → Sent → Read r → Exchanged link a b call (answer_of r)
  exchanged (Ok g) s d = (took _ s d, no_fault _ s d d.cause, gives _ _ s d (λ t. let x = d.answers t in (x.0, (_, x.1), x.2)))
  exchanged (Err (end.Fault code text)) s d = (took _ s d, no_fault _ s d d.cause, gives _ _ s d (λ t. (_, d.answers t)))
  exchanged (Err (end.BadReply number)) s d = (took _ s d, no_fault _ s d d.cause, gives _ _ s d (λ t. d.answers t))
  exchanged (Err end.ReadFault) s d = inr (took _ s d, fails s d)
  exchanged (Err end.Memory) s d = (took _ s d, no_fault _ s d d.cause)

-- the names of the graph that was read
pub names_as : (r : Result RootedArena AnswerFault) → IfOk r (λ g. IsNamed (content g)) → HasNames (answer_of r)
names_as (Ok g) named = named
names_as (Err (end.Fault code text)) named = tt
names_as (Err (end.BadReply number)) named = tt
names_as (Err end.ReadFault) named = tt
names_as (Err end.Memory) named = tt
