-- The markers of the values of AMF 0, and the byte of each (2.1 and 3.1).
use Rattle.std.specs.Prelude.{ℕ, List, [], ◌∷◌, Option, Some, None, get_or}
use Rattle.amf0_spelling.specs.declared.marker.Marker0.{Marker0}
use Rattle.amf0_spelling.specs.declared.marker.Marker0.TheVariants.{Double, Boolean, Text, Object, Null, Undefined, Reference, Names, Strict, Date, LongText, Unsupported, Document, Typed, Switch}

abbrev pub marker0_byte : Marker0 → ℕ
marker0_byte Double = 0x00
marker0_byte Boolean = 0x01
marker0_byte Text = 0x02
marker0_byte Object = 0x03
marker0_byte Null = 0x05
marker0_byte Undefined = 0x06
marker0_byte Reference = 0x07
marker0_byte Names = 0x08
marker0_byte Strict = 0x0A
marker0_byte Date = 0x0B
marker0_byte LongText = 0x0C
marker0_byte Unsupported = 0x0D
marker0_byte Document = 0x0F
marker0_byte Typed = 0x10
marker0_byte Switch = 0x11

-- in the order of their bytes; no value begins with that of movie clips, of the end of pairs or of record sets
abbrev pub all_markers0 : List (Option Marker0)
all_markers0 = Some Double ∷ Some Boolean ∷ Some Text ∷ Some Object ∷ None ∷ Some Null ∷ Some Undefined ∷ Some Reference ∷ Some Names ∷ None ∷ Some Strict ∷ Some Date ∷ Some LongText ∷ Some Unsupported ∷ None ∷ Some Document ∷ Some Typed ∷ Some Switch ∷ []

-- the marker that a byte is, if it is that of a value
abbrev pub marker0_at : ℕ → Option Marker0
marker0_at m = get_or all_markers0 m None
