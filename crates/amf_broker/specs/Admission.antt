-- A value that goes on unless the machine refuses. A device of proofs.
use Rattle.std.specs.Prelude.{Option, Some, None, Result, Ok, Err}
use Rattle.amf_broker.specs.declared.reply.Reply.{Reply}

abbrev pub allowed : {A : Type 0} → Option Reply → A → Result A Reply
allowed None x = Ok x
allowed (Some refused) x = Err refused
