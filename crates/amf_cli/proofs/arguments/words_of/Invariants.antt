use Rattle.std.proofs.Common.{◌≡◌, take}
use Rattle.amf_cli.proofs.arguments.words_of.Given as goal

-- the words so far, where they are told
abbrev pub invariant-loop-place : goal.invariant-loop-place
invariant-loop-place g l = g.A.Arguments.tells l.arguments → l.words.items ≡ take l.place (g.A.Arguments.words l.arguments)
