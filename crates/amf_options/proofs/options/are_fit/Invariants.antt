use Rattle.std.proofs.Common.{◌≡◌, drop}
use Rattle.std.specs.List.{list_all}
use Rattle.amf_options.specs.Words.{is_fit, texts}
use Rattle.amf_options.proofs.options.are_fit.Given as goal

-- what is left is fit exactly where all is
abbrev pub invariant-loop-word : goal.invariant-loop-word
invariant-loop-word l = list_all is_fit (texts (drop l.word-index l.words)) ≡ list_all is_fit (texts l.words)
