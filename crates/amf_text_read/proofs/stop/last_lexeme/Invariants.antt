-- What is left leads to the same last lexeme.
use Rattle.std.proofs.Common.{false, drop}
use Rattle.json.specs.Lex.{between}
use Rattle.amf_text_read.specs.Modes.{mode_of}
use Rattle.amf_text_read.specs.Scanned.{placed_lexemes}
use Rattle.amf_text_read.proofs.Lexed.{LastOf}
use Rattle.amf_text_read.proofs.stop.last_lexeme.Given as goal

abbrev pub invariant-loop-at : goal.invariant-loop-at
invariant-loop-at l = LastOf l.last 0 l.is_behind_comma l.is_comma false false (placed_lexemes (mode_of l.mode) l.at (drop l.at l.text)) (placed_lexemes between 0 l.text)
