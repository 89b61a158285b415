-- What a text is of: a value of AMF 3 or AMF 0, a shared object file, or a packet; with graphs, or with what stands for them.
use Rattle.std.specs.Prelude.{ℕ, Bool, true, false, List, codes}

-- a value of a packet: no marker in it switches to AMF 3, some marker does, or it is a call, of which the graph is that of its one item
pub data Form : Type 0 where
  plain : Form
  amf3 : Form
  call : Form

abbrev pub form_word : Form → List ℕ
form_word plain = codes "plain"
form_word amf3 = codes "amf3"
form_word call = codes "call"

-- no integers are there, so a whole double is told by its digits alone
abbrev pub is_bare : Form → Bool
is_bare plain = true
is_bare amf3 = false
is_bare call = false

pub record Header (G : Type 0) : Type 0 where
  pub name : List ℕ
  pub must : Bool
  pub form : Form
  pub graph : G

pub record Message (G : Type 0) : Type 0 where
  pub target : List ℕ
  pub response : List ℕ
  pub form : Form
  pub graph : G

-- the version of a shared object file is 0 or 3
pub data FileVersion : Type 0 where
  file0 : FileVersion
  file3 : FileVersion

abbrev pub version_of : FileVersion → ℕ
version_of file0 = 0
version_of file3 = 3

abbrev pub is_bare_file : FileVersion → Bool
is_bare_file file0 = true
is_bare_file file3 = false

-- of a file the root is the holder of the pairs
pub data Document (G : Type 0) : Type 0 where
  value3 : (graph : G) → Document G
  value0 : (graph : G) → Document G
  file : (name : List ℕ) → (version : FileVersion) → (graph : G) → Document G
  packet : (version : ℕ) → (headers : List (Header G)) → (messages : List (Message G)) → Document G
