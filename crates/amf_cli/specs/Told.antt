-- What was written to the error line.
use Rattle.std.specs.Prelude.{◌≡◌, List, ℕ, ◌++◌}
use Rattle.amf_io.specs.Outside.{Steady}
use Rattle.amf_io.specs.declared.sink.Sink.{Ghosts as SinkMembers}

-- by its meanings, as it was before and as it is now: this line, where no write of it failed
abbrev pub Tells : {E : Type 0} → SinkMembers E → E → E → List ℕ → Type 0
Tells e err err_now line = e.tells err_now → Steady (e.faults err) (e.faults err_now) → e.held err_now ≡ e.held err ++ line
