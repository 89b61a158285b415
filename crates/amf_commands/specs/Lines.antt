-- The error lines, and the lines that `check`, `gen` and `version` write.
use Rattle.std.specs.Prelude.{ℕ, List, [], ◌∷◌, ◌++◌, length, codes, decimal}
use Rattle.std.specs.List.{sum}
use Rattle.amf_io.specs.declared.ends.Refusal.{Refusal}
use Rattle.amf_io.specs.declared.ends.ReadEnd.{ReadEnd}
use Rattle.amf_io.specs.declared.ends.ReadEnd.TheVariants as reader
use Rattle.amf_io.specs.Reasons.{reason_name}
use Rattle.amf_graph.specs.declared.lack.Lack.{Lack}
use Rattle.amf_graph.specs.declared.lack.LackKind.{LackKind}
use Rattle.amf_graph.specs.declared.lack.LackKind.TheVariants as lacking
use Rattle.amf_commands.specs.declared.version.TheConstants.{VERSION}
use Rattle.amf_commands.specs.declared.run_end.RunEnd.{RunEnd}
use Rattle.amf_commands.specs.declared.run_end.RunEnd.TheVariants.{Refused, Usage, ReadFault, WriteFault, NoMemory, FrontFault, NoForm}

-- the end of a reader is that of the run
abbrev pub end_of : ReadEnd → RunEnd
end_of (reader.Refused f) = Refused f
end_of reader.ReadFault = ReadFault
end_of reader.Memory = NoMemory

-- a kind of lack is written by its name
abbrev pub kind_name : LackKind → List ℕ
kind_name lacking.EmptyName = codes "EmptyName"
kind_name lacking.NoForm = codes "NoForm"
kind_name lacking.LongName = codes "LongName"
kind_name lacking.Shared = codes "Shared"
kind_name lacking.FarReference = codes "FarReference"
kind_name lacking.LongFile = codes "LongFile"

abbrev pub line_feed : List ℕ
line_feed = 10 ∷ []

abbrev pub refusal_line : Refusal → List ℕ
refusal_line f = codes "amf: refused " ++ reason_name f.reason ++ codes " at " ++ decimal f.at ++ line_feed

-- with the number of the value
abbrev pub no_form_line : ℕ → Lack → List ℕ
no_form_line number l = codes "amf: no form " ++ kind_name l.kind ++ codes " node " ++ decimal l.node ++ codes " value " ++ decimal number ++ line_feed

-- the line of each end
unfoldable pub line_of : RunEnd → List ℕ
line_of (Refused f) = refusal_line f
line_of Usage = codes "amf: usage\n"
line_of ReadFault = codes "amf: read fault\n"
line_of WriteFault = codes "amf: write fault\n"
line_of NoMemory = codes "amf: no memory\n"
line_of FrontFault = codes "amf: front fault\n"
line_of (NoForm number l) = no_form_line number l

abbrev pub status_of : RunEnd → ℕ
status_of (Refused f) = 1
status_of Usage = 2
status_of ReadFault = 3
status_of WriteFault = 4
status_of NoMemory = 5
status_of FrontFault = 6
status_of (NoForm number l) = 7

-- how many nodes there are
abbrev pub count_line : ℕ → List ℕ
count_line nodes = codes "ok nodes " ++ decimal nodes ++ line_feed

-- how many nodes there are, how many bytes, and the sum of these
abbrev pub measure_line : ℕ → List ℕ → List ℕ
measure_line nodes bytes = codes "nodes " ++ decimal nodes ++ codes " bytes " ++ decimal (length bytes) ++ codes " sum " ++ decimal (sum bytes) ++ line_feed

-- the name of the program, and its version
abbrev pub version_line : List ℕ
version_line = codes "amf " ++ VERSION.now ++ line_feed
