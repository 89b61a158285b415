-- The steps of a run with `call`. A device of proofs.
use Rattle.std.specs.Prelude.{◌≡◌, ◌≢◌, ℕ, ◌≤◌, ◌⊎◌, List}
use Rattle.amf_io.specs.Outside.{Rose}
use Rattle.amf_io.specs.declared.sink.Sink.{Ghosts as SinkMembers}
use Rattle.amf_commands.specs.declared.run_end.RunEnd.TheVariants.{NoMemory}
use Rattle.amf_commands.specs.Lines.{line_of}
use Rattle.amf_cli.specs.Lines.{fault_line}
use Rattle.amf_cli.specs.Told.{Tells}

-- the count of the output, by the status
abbrev pub WritesFor : ℕ → ℕ → ℕ → Type 0
WritesFor status before now = (status ≢ 4 → now ≡ before) × (status ≡ 4 → Rose before now)

-- the counts of the input, of the output and of the error line, by the status
pub record CallCounts (status read read_now written written_now told told_now : ℕ) : Type 0 where
  pub no_read_fault : status ≢ 3 → read_now ≡ read
  pub read_fault : status ≡ 3 → Rose read read_now
  pub writes : WritesFor status written written_now
  pub counted : told ≤ told_now

-- the line of a fault was written, or memory was wanting for it
abbrev pub TellsFault : {E : Type 0} → SinkMembers E → E → E → List ℕ → List ℕ → ℕ → Type 0
TellsFault e err err_now code text status =
    ((status ≡ 8) × Tells e err err_now (fault_line code text)) ⊎ ((status ≡ 5) × Tells e err err_now (line_of NoMemory))
