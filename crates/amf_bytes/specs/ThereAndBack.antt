-- There and back, by the text that `json` gives of an input: its bytes are those that `canon` gives of that input, and where the one has none, the other has none either.
use Rattle.std.specs.Prelude.{ℕ, ◌≤◌, ◌↔◌, List, length}
use Rattle.amf_graph.specs.declared.lack.Lack.{Lack}
use Rattle.amf_text.specs.Refused.{text_limit}
use Rattle.amf_text_write.specs.declared.layout.Layout.{Layout}
use Rattle.amf_commands.specs.declared.format.Format.{Format}
use Rattle.amf_commands.specs.Content.{Content}
use Rattle.amf_commands.specs.Formats.{IsWritten}
use Rattle.amf_commands.specs.Run.{IsJson, IsConverted, IsUnconverted}
use Rattle.amf_bytes.specs.Meanings.{MeansContent, IsTextBytes, LacksBytes}

-- of a text that is no longer than a text may be
pub record GoesBack (text : List ℕ) : Type 0 where
  pub bytes : (f : Format) (layout : Layout) (input : List ℕ) → IsJson f layout input text → length text ≤ text_limit
      → (bytes : List ℕ) → IsTextBytes text bytes ↔ IsConverted f f input bytes
  pub lacks : (f : Format) (layout : Layout) (input : List ℕ) → IsJson f layout input text → length text ≤ text_limit
      → (number : ℕ) (l : Lack) → LacksBytes text number l ↔ IsUnconverted f f input number l
  -- and where `json` gives a text of its bytes, in its format, that has these bytes again
  pub again : (f : Format) (c : Content) (bytes : List ℕ) → MeansContent f c text → IsWritten f c bytes
      → (layout : Layout) (other : List ℕ) → IsJson f layout bytes other → length other ≤ text_limit → IsTextBytes other bytes

abbrev pub ThereAndBack : Type 0
ThereAndBack = (text : List ℕ) → GoesBack text
