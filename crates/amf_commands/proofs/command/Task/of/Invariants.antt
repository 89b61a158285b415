use Rattle.std.proofs.Common.{◌≡◌, take}
use Rattle.std.specs.List.{AllByRecursion}
use Rattle.std.specs.Str.{IsUtf8}
use Rattle.amf_options.specs.Words.{texts}
use Rattle.amf_commands.proofs.command.Task.of.Given as goal

-- the words so far are UTF-8, and were taken as they are
abbrev pub invariant-loop-word : goal.invariant-loop-word
invariant-loop-word l = record {
  same : texts l.seen.items ≡ take l.word-index l.words;
  utf8 : AllByRecursion IsUtf8 (take l.word-index l.words);
}
