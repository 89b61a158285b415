-- A device of proofs: what the steps of a worker come to.
use Rattle.std.specs.Prelude.{◌≡◌, Bool, false, List, [], ◌∷◌, ◌++◌}
use Rattle.amf_desk.specs.declared.closed.DeskEnd.{DeskEnd}
use Rattle.amf_desk.specs.declared.closed.DeskEnd.TheVariants as desk_end
use Rattle.amf_desk.specs.Passes.{Held}
use Rattle.amf_gateway.specs.declared.worker.Worker.{Worker}
use Rattle.amf_answer_plan.specs.declared.outside.Unanswered.{Unanswered}
use Rattle.amf_answer_plan.specs.declared.outside.Unanswered.TheVariants as unanswered_by
use Rattle.amf_service.specs.Registry.{Entry}
use Rattle.amf_gateway.specs.Handed.{Given, PassGoesOn}
use Rattle.amf_gateway.specs.ServesLink.{Service, IsServed, is_starved}
use Rattle.amf_answer_plan.specs.Serving.{ServeEnd, no_memory, spent}
use Rattle.amf_io.specs.declared.link.Link.{Ghosts as LinkMembers}
use Rattle.amf_gateway.specs.Tells.{HallMembers}

-- as long as it is not known why a link was not answered whole, it counts as out of memory
abbrev pub unknown : ServeEnd → ServeEnd
unknown spent = no_memory
unknown end = end

-- why a call of the desk has no answer
abbrev pub reason_of : DeskEnd → Unanswered
reason_of desk_end.Spent = unanswered_by.Spent
reason_of desk_end.Memory = unanswered_by.Memory

-- a link of the hall was served and given back
pub record ServedNext {H L : Type 0} (hall : HallMembers H L) (link : LinkMembers L) (services : List Entry) (p q : Held) (a b : H) (came : L) (starved : Bool) : Type 0 where
  pub service : Service L
  pub came_is : service.came ≡ came
  pub is_served : IsServed link services service
  pub moments : Given (hall.tells_moments a) (hall.tells_moments b) (hall.moments a) (hall.moments b) service.took.moments
  pub words : Given (hall.tells_words a) (hall.tells_words b) (hall.words a) (hall.words b) service.took.words
  pub pass : PassGoesOn p q service.took.entries
  pub tells : hall.tells_links b → hall.tells_links a
  pub coming : hall.tells_links b → hall.coming b ≡ hall.coming a
  pub took_back : hall.tells_links b → hall.served b ≡ hall.served a ++ service.left ∷ []
  pub none_out : hall.is_out b ≡ false
  pub faults : hall.faults b ≡ hall.faults a
  pub starved_is : starved ≡ is_starved service.end
  pub budget : service.end ≡ spent → q.budget ≡ 0

-- the same of the worker, before and after
abbrev pub NextServed : {H L : Type 0} → HallMembers H L → LinkMembers L → List Entry → (a b : Worker H L) → (came : L) → (starved : Bool) → Type 0
NextServed hall link services a b came starved = ServedNext hall link services a.pass b.pass a.hall b.hall came starved
