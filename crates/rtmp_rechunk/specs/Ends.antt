-- The ends of the readers as those of a pass, and the other way round.
use Rattle.std.specs.Prelude.{Result, Ok, Err}
use Rattle.amf_io.specs.declared.ends.ReadEnd.{ReadEnd}
use Rattle.amf_io.specs.declared.ends.ReadEnd.TheVariants as reader
use Rattle.rtmp_rechunk.specs.declared.pass_end.PassEnd.{PassEnd}
use Rattle.rtmp_rechunk.specs.declared.pass_end.PassEnd.TheVariants.{Refused, ReadFault, WriteFault, Memory}

abbrev pub end_of : ReadEnd → PassEnd
end_of (reader.Refused f) = Refused f
end_of reader.ReadFault = ReadFault
end_of reader.Memory = Memory

-- how the reading ended: a write that fails is no end of it
abbrev pub reading : {T : Type 0} → Result T PassEnd → Result (Unit {0}) ReadEnd
reading (Ok x) = Ok tt
reading (Err (Refused f)) = Err (reader.Refused f)
reading (Err ReadFault) = Err reader.ReadFault
reading (Err WriteFault) = Ok tt
reading (Err Memory) = Err reader.Memory
