-- What a run answers: its statuses, and what they say of the input and the output.
use Rattle.std.specs.Prelude.{◌≡◌, ℕ, zero, suc, ◌≤◌, ◌⊎◌, ◌↔◌, List, [], ◌++◌, length, codes, Result, Ok, Err}
use Rattle.amf_wire.specs.Style.{free, canonical}
use Rattle.amf_io.specs.Outside.{Rose}
use Rattle.amf_io.specs.Field.{Field, flat}
use Rattle.amf_io.specs.declared.ends.Refusal.{Refusal}
use Rattle.amf_io.specs.declared.source.Source.{Ghosts as SourceMembers}
use Rattle.amf_io.specs.declared.sink.Sink.{Ghosts as SinkMembers}
use Rattle.amf_graph.specs.declared.lack.Lack.{Lack}
use Rattle.amf_graph.specs.Graph.{Graph}
use Rattle.amf_graph.specs.Isomorphic.{Isomorphic}
use Rattle.amf3_spelling.specs.Spells3.{IsSpelling3, Spelled3}
use Rattle.amf_text_write.specs.declared.layout.Layout.{Layout}
use Rattle.amf_vectors.specs.Made.{made}
use Rattle.amf_commands.specs.declared.command.Command.{Command}
use Rattle.amf_commands.specs.declared.command.Command.TheVariants.{Canon, Check, Show, Json, Same, Gen, Version}
use Rattle.amf_commands.specs.declared.format.Format.{Format}
use Rattle.amf_commands.specs.declared.format.Format.TheVariants.{Amf3}
use Rattle.amf_commands.specs.Content.{Content, HasNodes, IsListed}
use Rattle.amf_commands.specs.Formats.{GivesLength, IsSpelling, Spelled, IsFitted, IsAlike, IsLackIn, IsWritten, IsUnwritten}
use Rattle.amf_commands.specs.Told.{Tells, IsMeant, IsTold}
use Rattle.amf_commands.specs.Input.{most, Input, input_of, IsRefusedAs, IsUnsettledAs}
use Rattle.amf_commands.specs.declared.run_end.RunEnd.{RunEnd}
use Rattle.amf_commands.specs.declared.run_end.RunEnd.TheVariants.{Refused, Usage, ReadFault, WriteFault, NoMemory, FrontFault, NoForm}
use Rattle.amf_commands.specs.Lines.{refusal_line, no_form_line, line_of, status_of, count_line, measure_line, version_line}
use Rattle.amf_io.specs.Written.{WritesFront}

-- whether a command has an input: `gen` and `version` have none
abbrev pub TakesInput : Command → Type 0
TakesInput (Gen seed size) = ⊥
TakesInput Version = ⊥
TakesInput _ = Unit {0}

-- the whole input is one spelling of the content, with its right length where the format gives one
pub record IsInputOf (f : Format) (c : Content) (input : List ℕ) : Type 0 where
  pub fields : List Field
  pub spelled : IsSpelling f free c fields
  pub its_length : GivesLength f input
  pub parts : input ≡ flat fields
  pub within : length input ≤ most

-- the whole input is a spelling of one graph, and then one of another, each from empty tables
pub record ArePairIn (g h : Graph) (input : List ℕ) : Type 0 where
  pub front : List Field
  pub back : List Field
  pub first : IsSpelling3 free g front
  pub second : IsSpelling3 free h back
  pub parts : input ≡ flat front ++ flat back
  pub within : length input ≤ most

-- the line has the number of nodes of a content
abbrev pub IsCounted : Content → List ℕ → Type 0
IsCounted c line = (nodes : ℕ) × HasNodes c nodes × (line ≡ count_line nodes)

-- the line measures a graph by its canonical spelling
abbrev pub IsMeasured : Graph → List ℕ → Type 0
IsMeasured g line = (bytes : List ℕ) × Spelled3 canonical g bytes × (line ≡ measure_line (length g.nodes) bytes)

-- the bytes are the canonical spelling, in the one format, of a content that the input is a spelling of in the other
abbrev pub IsConverted : Format → Format → List ℕ → List ℕ → Type 0
IsConverted from to input bytes = (c : Content) × IsInputOf from c input × IsWritten to c bytes

-- the line counts a content that the input is a spelling of
abbrev pub IsChecked : Format → List ℕ → List ℕ → Type 0
IsChecked from input line = (c : Content) × IsInputOf from c input × IsCounted c line

-- the bytes are the listing of a content that the input is a spelling of
abbrev pub IsShown : Format → List ℕ → List ℕ → Type 0
IsShown from input bytes = (c : Content) × IsInputOf from c input × IsListed c bytes

-- the bytes are the JSON text of a content that the input is a spelling of
abbrev pub IsJson : Format → Layout → List ℕ → List ℕ → Type 0
IsJson from layout input bytes = (c : Content) × IsInputOf from c input × IsTold layout from c bytes

-- the line says whether P is so
abbrev pub Says : Type 0 → List ℕ → Type 0
Says P line = (P × (line ≡ codes "same\n")) ⊎ ((P → ⊥) × (line ≡ codes "different\n"))

-- the line says whether two graphs that the input spells are isomorphic
abbrev pub IsCompared : List ℕ → List ℕ → Type 0
IsCompared input line = (g : Graph) × (h : Graph) × ArePairIn g h input × Says (Isomorphic g h) line

-- the output of a command
abbrev pub Makes : Command → List ℕ → List ℕ → Type 0
Makes (Canon from to) input bytes = IsConverted from to input bytes
Makes (Check from) input bytes = IsChecked from input bytes
Makes (Show from) input bytes = IsShown from input bytes
Makes (Json from layout) input bytes = IsJson from layout input bytes
Makes Same input bytes = IsCompared input bytes
Makes (Gen seed size) input bytes = IsMeasured (made seed size) bytes
Makes Version input bytes = bytes ≡ version_line

-- it holds of whatever the input spells: canonical bytes are so for exactly the contents that are alike, in the kinds that the format has; the count and the listing are those of each content; the text is that of each in the kinds of its format, and means it; the line is the answer for each two graphs; it measures whatever canonical bytes the graph that is made has; and the version is always the same
abbrev pub Decides : Command → List ℕ → List ℕ → Type 0
Decides (Canon from to) input bytes = (c fit other : Content) → IsInputOf from c input → IsFitted to c fit → IsAlike to other fit ↔ Spelled to canonical other bytes
Decides (Check from) input bytes = (c : Content) → IsInputOf from c input → IsCounted c bytes
Decides (Show from) input bytes = (c : Content) → IsInputOf from c input → IsListed c bytes
Decides (Json from layout) input bytes = (c fit : Content) → IsInputOf from c input → IsFitted from c fit → Tells layout from fit bytes × IsMeant from fit bytes
Decides Same input bytes = (g h : Graph) → ArePairIn g h input → Says (Isomorphic g h) bytes
Decides (Gen seed size) input bytes = (spelled : List ℕ) → Spelled3 canonical (made seed size) spelled → bytes ≡ measure_line (length (made seed size).nodes) spelled
Decides Version input bytes = bytes ≡ version_line

-- the input is a spelling of a content that has no canonical spelling in the format
abbrev pub IsUnconverted : Format → Format → List ℕ → ℕ → Lack → Type 0
IsUnconverted from to input number l = (c : Content) × IsInputOf from c input × IsUnwritten to c number l

-- why an input that is accepted has no output, and the number of the value that lacks it: only `canon` may have none
abbrev pub Lacks : Command → List ℕ → ℕ → Lack → Type 0
Lacks (Canon from to) input number l = IsUnconverted from to input number l
Lacks _ input number l = ⊥

-- whichever content it is of those that the input spells
abbrev pub LacksEver : Command → List ℕ → ℕ → Lack → Type 0
LacksEver (Canon from to) input number l = (c fit : Content) → IsInputOf from c input → IsFitted to c fit → IsLackIn to fit number l
LacksEver _ input number l = ⊥

-- whether an input that is accepted can have no output: what AMF 3 spells has a canonical spelling in it
abbrev pub MayLack : Command → Type 0
MayLack (Canon Amf3 Amf3) = ⊥
MayLack (Canon from to) = Unit {0}
MayLack _ = ⊥

-- the input is canonical in the format in which the command reads and writes
abbrev pub IsOutputOf : Command → List ℕ → Type 0
IsOutputOf (Canon from to) input = (from ≡ to) × (c : Content) × IsWritten to c input
IsOutputOf _ input = ⊥

-- the bytes that came before a read failed decide nothing
pub record IsHidden (i : Input) (input rest : List ℕ) : Type 0 where
  pub given : List ℕ
  pub parts : input ≡ given ++ rest
  pub unsettled : IsUnsettledAs i given

-- how a reader of the whole input ends, where P tells what it makes of an accepted one, and L why it makes nothing
abbrev pub ReadsInput : {X : Type 0} → Input → (ℕ → Lack → Type 0) → (X → Type 0) → List ℕ → List ℕ → Result X RunEnd → Type 0
ReadsInput i L P input rest (Ok x) = P x × (rest ≡ [])
ReadsInput i L P input rest (Err (Refused f)) = IsRefusedAs i input f.reason f.at
ReadsInput i L P input rest (Err ReadFault) = IsHidden i input rest
ReadsInput i L P input rest (Err NoMemory) = Unit {0}
ReadsInput i L P input rest (Err (NoForm number l)) = L number l × (rest ≡ [])
ReadsInput i L P input rest (Err Usage) = ⊥
ReadsInput i L P input rest (Err WriteFault) = ⊥
ReadsInput i L P input rest (Err FrontFault) = ⊥

-- how the making of an output ends: where a command has an input, this is read
abbrev pub OutputEnds : {X : Type 0} → Command → (X → Type 0) → List ℕ → List ℕ → Result X RunEnd → Type 0
OutputEnds c P input rest (Ok x) = P x × (TakesInput c → rest ≡ [])
OutputEnds c P input rest (Err e) = ReadsInput (input_of c) (Lacks c input) P input rest (Err e)

-- no reader ends so
abbrev pub NeverLacks : ℕ → Lack → Type 0
NeverLacks number l = ⊥

-- a read fault is counted, and without one the count stays
abbrev pub CountsReads : {T : Type 0} → ℕ → ℕ → Result T RunEnd → Type 0
CountsReads before now (Ok x) = now ≡ before
CountsReads before now (Err (Refused f)) = now ≡ before
CountsReads before now (Err Usage) = now ≡ before
CountsReads before now (Err ReadFault) = (before ≤ now) × Rose before now
CountsReads before now (Err WriteFault) = now ≡ before
CountsReads before now (Err NoMemory) = now ≡ before
CountsReads before now (Err FrontFault) = now ≡ before
CountsReads before now (Err (NoForm number l)) = now ≡ before

-- a write fault is counted, and without one the count stays; of running out of memory nothing is said
abbrev pub CountsWrites : {T : Type 0} → ℕ → ℕ → Result T RunEnd → Type 0
CountsWrites before now (Ok x) = now ≡ before
CountsWrites before now (Err (Refused f)) = now ≡ before
CountsWrites before now (Err Usage) = now ≡ before
CountsWrites before now (Err ReadFault) = now ≡ before
CountsWrites before now (Err WriteFault) = (before ≤ now) × Rose before now
CountsWrites before now (Err NoMemory) = Unit {0}
CountsWrites before now (Err FrontFault) = now ≡ before
CountsWrites before now (Err (NoForm number l)) = now ≡ before

-- an end that the reading of an input has
abbrev pub IsReadEnd : {T : Type 0} → Result T RunEnd → Type 0
IsReadEnd (Ok x) = Unit {0}
IsReadEnd (Err (Refused f)) = Unit {0}
IsReadEnd (Err Usage) = ⊥
IsReadEnd (Err ReadFault) = Unit {0}
IsReadEnd (Err WriteFault) = ⊥
IsReadEnd (Err NoMemory) = Unit {0}
IsReadEnd (Err FrontFault) = ⊥
IsReadEnd (Err (NoForm number l)) = ⊥

-- an end that the making of an output has
abbrev pub IsOutputEnd : {T : Type 0} → Command → Result T RunEnd → Type 0
IsOutputEnd c (Ok x) = Unit {0}
IsOutputEnd c (Err (Refused f)) = TakesInput c
IsOutputEnd c (Err ReadFault) = TakesInput c
IsOutputEnd c (Err NoMemory) = Unit {0}
IsOutputEnd c (Err (NoForm number l)) = MayLack c
IsOutputEnd c (Err Usage) = ⊥
IsOutputEnd c (Err WriteFault) = ⊥
IsOutputEnd c (Err FrontFault) = ⊥

-- what comes of an input comes only of a command that has one
abbrev pub IsReading : {T : Type 0} → Command → Result T RunEnd → Type 0
IsReading c (Ok x) = Unit {0}
IsReading c (Err (Refused f)) = TakesInput c
IsReading c (Err Usage) = Unit {0}
IsReading c (Err ReadFault) = TakesInput c
IsReading c (Err WriteFault) = Unit {0}
IsReading c (Err NoMemory) = Unit {0}
IsReading c (Err FrontFault) = Unit {0}
IsReading c (Err (NoForm number l)) = Unit {0}

-- nothing was asked of the output, but where it may have been written to
abbrev pub IsUntouched : {S T : Type 0} → S → S → Result T RunEnd → Type 0
IsUntouched before now (Ok x) = Unit {0}
IsUntouched before now (Err (Refused f)) = now ≡ before
IsUntouched before now (Err Usage) = now ≡ before
IsUntouched before now (Err ReadFault) = now ≡ before
IsUntouched before now (Err WriteFault) = Unit {0}
IsUntouched before now (Err NoMemory) = Unit {0}
IsUntouched before now (Err FrontFault) = Unit {0}
IsUntouched before now (Err (NoForm number l)) = now ≡ before

-- the output was written whole
pub record WritesAll (c : Command) (input rest : List ℕ) (told : Type 0) (held now : List ℕ) : Type 0 where
  pub bytes : List ℕ
  pub made : Makes c input bytes
  pub decides : Decides c input bytes
  pub all_read : TakesInput c → rest ≡ []
  pub written : told → now ≡ held ++ bytes

-- some front of it was written
pub record WritesSome (c : Command) (input rest : List ℕ) (told : Type 0) (held now : List ℕ) : Type 0 where
  pub bytes : List ℕ
  pub made : Makes c input bytes
  pub decides : Decides c input bytes
  pub all_read : TakesInput c → rest ≡ []
  pub written : told → WritesFront held now bytes

-- how a command ends, by the bytes of the input and those that it left, and by what the output held before and holds now
abbrev pub RunsTo : {T : Type 0} → Command → List ℕ → List ℕ → Type 0 → List ℕ → List ℕ → Result T RunEnd → Type 0
RunsTo c input rest told held now (Ok x) = WritesAll c input rest told held now
RunsTo c input rest told held now (Err (Refused f)) = IsRefusedAs (input_of c) input f.reason f.at
RunsTo c input rest told held now (Err ReadFault) = IsHidden (input_of c) input rest
RunsTo c input rest told held now (Err WriteFault) = WritesSome c input rest told held now
RunsTo c input rest told held now (Err FrontFault) = ⊥
RunsTo c input rest told held now (Err (NoForm number l)) = Lacks c input number l × (rest ≡ [])
RunsTo c input rest told held now (Err Usage) = Unit {0}
RunsTo c input rest told held now (Err NoMemory) = Unit {0}

-- the same of the input and the output, before and after
abbrev pub RunsOver : {I O T : Type 0} → SourceMembers I → SinkMembers O → Command → (a b : I) → (held now : O) → Result T RunEnd → Type 0
RunsOver i o c a b held now r = RunsTo c (i.left a) (i.left b) (o.tells now) (o.held held) (o.held now) r

-- the error line names the verdict
pub record IsRefusedWith (c : Command) (input : List ℕ) (told : Type 0) (held now : List ℕ) : Type 0 where
  pub refusal : Refusal
  pub verdict : IsRefusedAs (input_of c) input refusal.reason refusal.at
  pub line : told → now ≡ held ++ refusal_line refusal

-- the input was read to its end, and the error line names the first value that lacks a spelling, with its first lack
pub record HasNoForm (c : Command) (input rest : List ℕ) (told : Type 0) (held now : List ℕ) : Type 0 where
  pub number : ℕ
  pub lack : Lack
  pub lacking : Lacks c input number lack
  pub every : LacksEver c input number lack
  pub all_read : rest ≡ []
  pub line : told → now ≡ held ++ no_form_line number lack

-- the error line is that of an end with this status; with 0 there is none
abbrev pub Reports : ℕ → List ℕ → List ℕ → Type 0
Reports zero held now = now ≡ held
Reports (suc n) held now = (end : RunEnd) × (status_of end ≡ suc n) × (now ≡ held ++ line_of end)
