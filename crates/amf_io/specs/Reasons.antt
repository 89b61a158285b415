-- The names of reasons, as lines of text have them: this project's own form.
use Rattle.std.specs.Prelude.{ℕ, List, codes}
use Rattle.amf_io.specs.declared.reason.Reason.{Reason}
use Rattle.amf_io.specs.declared.reason.Reason.TheVariants.{Truncated, BadMarker, BadReference, BadTraits, BadTextIndex, BadText, WrongKind, UnknownExternal, TooLarge, Trailing, BadVersion, BadSignature, BadLength, BadPadding, BadChunk, BadChunkSize}

-- a reason is written by its name
abbrev pub reason_name : Reason → List ℕ
reason_name Truncated = codes "Truncated"
reason_name BadMarker = codes "BadMarker"
reason_name BadReference = codes "BadReference"
reason_name BadTraits = codes "BadTraits"
reason_name BadTextIndex = codes "BadTextIndex"
reason_name BadText = codes "BadText"
reason_name WrongKind = codes "WrongKind"
reason_name UnknownExternal = codes "UnknownExternal"
reason_name TooLarge = codes "TooLarge"
reason_name Trailing = codes "Trailing"
reason_name BadVersion = codes "BadVersion"
reason_name BadSignature = codes "BadSignature"
reason_name BadLength = codes "BadLength"
reason_name BadPadding = codes "BadPadding"
reason_name BadChunk = codes "BadChunk"
reason_name BadChunkSize = codes "BadChunkSize"
