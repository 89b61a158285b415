-- A session ends by its link only where a dial or a call of a link has failed.
use Rattle.std.proofs.Common.{◌≡◌, ◌∙◌, ℕ, Bool, true, false, List, [], ◌∷◌, Option, Some, None, refl, sym}
use Rattle.std.specs.Prelude.{if◌then◌else◌}
use Rattle.std.proofs.lemmas.Option.{same_Some}
use Rattle.amf_once.specs.declared.taker.Taken.{Taken}
use Rattle.amf_once.specs.declared.taker.Taken.TheVariants.{New, Old, Ahead}
use Rattle.amf_once.specs.Taking.{judged}
use Rattle.amf_poll_session.specs.declared.request.Request.{Request}
use Rattle.amf_poll_session.specs.declared.request.Request.TheVariants.{Ping, Subscribe, Poll, Disconnect}
use Rattle.amf_poll_session.specs.Sessions.{Turn, no_link, link_fault, starved, bad, fault, reply, Sent, End, done, by_fault, by_bad, by_link, by_memory, Session, asks_again, carried, dials_again, first_session, linked_by, listen, listen_from, missed, replied, stopped, took, turned, unless_ended}

module _ {B : Type 0} (most : ℕ) where
  -- where it has ended by the link, one has failed
  abbrev IsTold : Session B → Type 0
  IsTold s = s.end ≡ Some by_link → s.has_lost ≡ true

  open_told : (s : Session B) → s.end ≡ None → IsTold s
  open_told s none is = let e : None ≡ Some by_link = sym none ∙ is in cc

  stopped_told : (e : End) (s : Session B) → (e ≡ by_link → s.has_lost ≡ true) → IsTold (stopped e s)
  stopped_told e s h = by (asks_again e s.request s.spent)
    where
      by : (b : Bool) → (if b then None else Some e) ≡ Some by_link → s.has_lost ≡ true
      by true is = cc
      by false is = h (same_Some e by_link is)

  missed_told : (o : Option (List (Sent B))) (s : Session B) → s.end ≡ None → IsTold (missed o s)
  missed_told None s none = stopped_told by_link (record (dials_again s) { has_lost = true }) (λ is. refl)
  missed_told (Some sent) s none = open_told s none

  linked_end : (o : Option (List (Sent B))) (s : Session B) → (linked_by o s).end ≡ s.end
  linked_end None s = refl
  linked_end (Some sent) s = refl

  took_end : (t : Taken) (bodies : List B) (s : Session B) → (took t bodies s).end ≡ s.end
  took_end New bodies s = refl
  took_end Old bodies s = refl
  took_end Ahead bodies s = refl

  replied_told : (ds : List ℕ) (bodies : List B) (r : Request) (s : Session B) → s.end ≡ None → IsTold (replied most ds bodies r s)
  replied_told ds bodies Ping s none is = let e : None ≡ Some by_link = sym none ∙ is in cc
  replied_told ds bodies Subscribe s none is = let e : None ≡ Some by_link = sym none ∙ is in cc
  replied_told ds bodies (Poll n) s none is = let e : None ≡ Some by_link = sym none ∙ sym (took_end (judged s.asks n) bodies s) ∙ is in cc
  replied_told ds bodies Disconnect s none is = stopped_told done s (λ z. cc) is

  turned_told : (turn : Turn B) (s : Session B) → s.end ≡ None → IsTold (turned most turn s)
  turned_told no_link s none = missed_told s.link s none
  turned_told link_fault s none = stopped_told by_link (record (carried link_fault s) { has_lost = true }) (λ is. refl)
  turned_told starved s none = stopped_told by_memory (carried starved s) (λ z. cc)
  turned_told (bad n) s none = stopped_told (by_bad n) (carried (bad n) s) (λ z. cc)
  turned_told (fault code text) s none = stopped_told (by_fault code text) (carried (fault code text) s) (λ z. cc)
  turned_told (reply ds bodies) s none = replied_told ds bodies s.request (carried (reply ds bodies) s) (linked_end s.link s ∙ none)

  unless_told : (o : Option End) (turn : Turn B) (s : Session B) → s.end ≡ o → IsTold s → IsTold (unless_ended most o turn s)
  unless_told None turn s is told = turned_told turn s is
  unless_told (Some e) turn s is told = told

  from_told : (turns : List (Turn B)) (s : Session B) → IsTold s → IsTold (listen_from most turns s)
  from_told [] s told = told
  from_told (turn ∷ turns) s told = from_told turns (unless_ended most s.end turn s) (unless_told s.end turn s refl told)

  -- so it is of every session
  pub lost_by_link : (turns : List (Turn B)) → (listen most turns).end ≡ Some by_link → (listen most turns).has_lost ≡ true
  lost_by_link turns = from_told turns first_session (λ is. let e : None ≡ Some by_link = is in cc)
