-- What a run with `serve` came to.
use Rattle.std.specs.Prelude.{◌≡◌, ◌≢◌, ◌⊎◌, ℕ, Bool, true, false, List, [], ◌++◌}
use Rattle.amf_io.specs.Outside.{Rose}
use Rattle.amf_workers.specs.declared.answer.ServeAnswer.{ServeAnswer}
use Rattle.amf_workers.specs.declared.answer.ServeAnswer.TheVariants.{Memory, NotOpened, Closed}
use Rattle.amf_cli.specs.Lines.{served_line}
use Rattle.amf_io.specs.Written.{WritesFront}

-- whether memory was wanting, to a link or to all
abbrev pub was_starved : ServeAnswer → Bool
was_starved Memory = true
was_starved NotOpened = false
was_starved (Closed counts starved faulty) = starved

-- whether the front or a hall of it failed
abbrev pub had_fault : ServeAnswer → Bool
had_fault Memory = false
had_fault NotOpened = true
had_fault (Closed counts starved faulty) = faulty

-- what is to be written: the line, where the front was opened
abbrev pub line_after : ServeAnswer → List ℕ
line_after Memory = []
line_after NotOpened = []
line_after (Closed counts starved faulty) = served_line counts

-- What serving came to, where the status is 0, 4 or 6: no link ended because memory ran out; with 0 nothing failed, and with 6 the front or a hall of it; and the line was written whole, but with 4 a front of it.
pub record ServeRun (Came : ServeAnswer → Type 0) (told : Type 0) (held now : List ℕ) (status : ℕ) : Type 0 where
  pub answer : ServeAnswer
  pub came : Came answer
  pub fed : was_starved answer ≡ false
  pub well : status ≡ 0 → had_fault answer ≡ false
  pub faulty : status ≡ 6 → had_fault answer ≡ true
  pub whole : status ≢ 4 → told → now ≡ held ++ line_after answer
  pub front : status ≡ 4 → told → WritesFront held now (line_after answer)

-- the line was written whole, or the output failed, which its count shows, and holds a front of the line
abbrev pub TellsOrFails : (told : Type 0) → (held now : List ℕ) → (before after : ℕ) → (line : List ℕ) → Type 0
TellsOrFails told held now before after line = (told → now ≡ held ++ line) ⊎ (Rose before after × (told → WritesFront held now line))

-- What serving came to, where the status is 5: memory was wanting before a link was served, and nothing was asked of the output; or a link ended for want of it, and the line was still written where it could be.
pub record ServeStarved (Came : ServeAnswer → Type 0) (kept told : Type 0) (held now : List ℕ) (before after : ℕ) : Type 0 where
  pub answer : ServeAnswer
  pub came : Came answer
  pub starved : was_starved answer ≡ true
  pub nothing : answer ≡ Memory → kept
  pub written : TellsOrFails told held now before after (line_after answer)
