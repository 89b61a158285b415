-- The ends of the readers as those of a job, and the end at a value.
use Rattle.amf_io.specs.declared.ends.ReadEnd.{ReadEnd}
use Rattle.amf_io.specs.declared.ends.ReadEnd.TheVariants as reader
use Rattle.flv_meta.specs.declared.meta_end.MetaEnd.{MetaEnd}
use Rattle.flv_meta.specs.declared.meta_end.MetaEnd.TheVariants as meta
use Rattle.amf_media.specs.declared.ending.MediaEnd.{MediaEnd}
use Rattle.amf_media.specs.declared.ending.MediaEnd.TheVariants.{Refused, ReadFault, Memory}

abbrev pub end_of : ReadEnd → MediaEnd
end_of (reader.Refused f) = Refused f
end_of reader.ReadFault = ReadFault
end_of reader.Memory = Memory

abbrev pub end_at_value : MetaEnd → MediaEnd
end_at_value (meta.Refused f) = Refused f
end_at_value meta.Memory = Memory
