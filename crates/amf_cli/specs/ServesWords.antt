-- What a run of the program promises of the front, by its words and its status.
use Rattle.std.specs.Prelude.{◌≡◌, ◌≢◌, ℕ, ◌⊎◌, List}
use Rattle.amf_io.specs.Outside.{Rose}
use Rattle.amf_io.specs.declared.sink.Sink.{Ghosts as SinkMembers}
use Rattle.amf_io.specs.declared.link.Link.{Ghosts as LinkMembers}
use Rattle.amf_io.specs.declared.front.Front.{Ghosts as FrontMembers}
use Rattle.amf_service.specs.Registry.{Entry}
use Rattle.amf_answer_plan.specs.RespondLaws.{AreLawful}
use Rattle.amf_gateway.specs.Tells.{HallMembers}
use Rattle.amf_workers.specs.Together.{Serves}
use Rattle.amf_commands.specs.declared.command.ServeOptions.{ServeOptions}
use Rattle.amf_commands.specs.Commands.{ReadsServe, IsServing}
use Rattle.amf_cli.specs.Serving.{ServeRun, ServeStarved}

-- By the meanings of the front and of the output, the services, the words and the status. Of front and output there is what it was before and what it is now.
pub record ServesWords {F H L O : Type 0} (f : FrontMembers F H L) (h : HallMembers H L) (l : LinkMembers L) (o : SinkMembers O) (services : List Entry) (words : List (List ℕ)) (status : ℕ) (front front_now : F) (out out_now : O) : Type 0 where
  -- what `serve` came to, with 0, 4 and 6, is what workers at one desk did with the links of the front, by services that obey their law
  pub served : (s : ServeOptions) → ReadsServe words s → (status ≡ 0) ⊎ (status ≡ 4) ⊎ (status ≡ 6)
      → ServeRun (Serves f h l services s.port s.workers s.each front front_now) (o.tells out_now) (o.held out) (o.held out_now) status
  -- with 5 nothing was opened or the front has its halls again, and the output is as it was; or the workers did so, and the line was still written where it could be
  pub starved : (s : ServeOptions) → ReadsServe words s → status ≡ 5
      → ServeStarved (Serves f h l services s.port s.workers s.each front front_now) (out_now ≡ out) (o.tells out_now) (o.held out) (o.held out_now) (o.faults out) (o.faults out_now)
  pub lawful : AreLawful services
  pub serving : IsServing words → (status ≡ 0) ⊎ (status ≡ 4) ⊎ (status ≡ 5) ⊎ (status ≡ 6)
  -- 6 comes only of `serve`, and only where the front's count rose; with 0 that stays; only `serve` asks anything of the front
  pub front_fault : status ≡ 6 → Rose (f.faults front) (f.faults front_now)
  pub no_front_fault : status ≡ 0 → f.faults front_now ≡ f.faults front
  pub unasked : (IsServing words → ⊥) → (front_now ≡ front) × (status ≢ 6)
