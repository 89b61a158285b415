use Rattle.std.proofs.Common.{◌≡◌, take}
use Rattle.clap.specs.Simple.{app_of}
use Rattle.amf_options.specs.Words.{texts}
use Rattle.amf_options.proofs.Shapes.{raw_app}
use Rattle.amf_options.proofs.options.options_of.Given as goal

-- the command has the options so far
abbrev pub invariant-loop-option : goal.invariant-loop-option
invariant-loop-option l = app_of l.command ≡ raw_app l.fn.name (texts (take l.option-index l.fn.options))
