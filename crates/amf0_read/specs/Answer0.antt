-- What a reader of AMF 0 answers, told by the bytes that were before it and those that it left.
use Rattle.std.specs.Prelude.{List, Result}
use Rattle.amf_io.specs.declared.ends.ReadEnd.{ReadEnd}
use Rattle.amf_io.specs.Field.{Field, flat}
use Rattle.amf_graph.specs.Arena.{Arena}
use Rattle.amf0_spelling.specs.KeptTables0.{KeptTables0}
use Rattle.amf0_spelling.specs.Reads0.{IsRead0, IsReading0}
use Rattle.amf0_spelling.specs.Form.{IsForm}
use Rattle.amf_io.specs.Stretch.{Stretch, AnswersOf}
use Rattle.amf0_read.specs.declared.formed.Read0.{Read0}

-- the fields spell the value in every finished graph that completes the arena, and it has its form
pub record IsReadWith (a : Arena) (t : KeptTables0) (fs : List Field) (b : Arena) (u : KeptTables0) (x : Read0) : Type 0 where
  pub read : IsRead0 a t fs b u x.value
  pub form : IsForm x.form u.switched (flat fs)

-- a value, into the arena a with the tables t, which become b and u
abbrev pub Answers0 : Arena → Arena → KeptTables0 → KeptTables0 → Stretch → Result Read0 ReadEnd → Type 0
Answers0 a b t u s result = AnswersOf (λ x fs. IsReadWith a t fs b u x) (IsReading0 a t) s result
