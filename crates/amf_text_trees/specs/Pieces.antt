-- What a part of a text comes to: values, members, scalars, and the parts of files and packets.
use Rattle.std.specs.Prelude.{ℕ, ℤ, Bool, List}
use Rattle.amf_text.specs.Documents.{Form, Header, Message, FileVersion, Document}
use Rattle.amf_text_trees.specs.Sheets.{Entry, Pairs, Page}

pub data Piece : Type 0 where
  value : (e : Entry) → Piece
  values : (es : List Entry) → Piece
  members : (ps : Pairs) → Piece
  text : (x : List ℕ) → Piece
  bytes : (x : List ℕ) → Piece
  pattern : (p : ℕ) → Piece
  patterns : (ps : List ℕ) → Piece
  int : (n : ℤ) → Piece
  ints : (ns : List ℤ) → Piece
  uint : (n : ℕ) → Piece
  uints : (ns : List ℕ) → Piece
  words : (xs : List (List ℕ)) → Piece
  flag : (b : Bool) → Piece
  form : (f : Form) → Piece
  version : (v : FileVersion) → Piece
  packet_version : (n : ℕ) → Piece
  header : (h : Header Page) → Piece
  headers : (hs : List (Header Page)) → Piece
  message : (m : Message Page) → Piece
  messages : (ms : List (Message Page)) → Piece
  document : (d : Document Page) → Piece
