-- The height of a spelling of AMF 3 has no limit, and stands in no field.
use Rattle.std.specs.Prelude.{ℕ, ◌≤◌, List}
use Rattle.amf_io.specs.Field.{Field}
use Rattle.amf_wire.specs.Style.{Style}
use Rattle.amf_graph.specs.Graph.{Value, Graph}
use Rattle.amf3_spelling.specs.Tables.{Tables}
use Rattle.amf3_spelling.specs.Spells3.{SpellsIn}
use Rattle.amf3_spelling.specs.ByteSpelling.{Spells}

pub record MoreHeightSpells : Type 0 where
  -- what is spelled in a height is spelled in a greater one, by the same fields
  pub fields : (n m : ℕ) → n ≤ m → (s : Style) (g : Graph) (v : Value) (t : Tables) (fs : List Field) (t' : Tables) → SpellsIn n s g v t fs t' → SpellsIn m s g v t fs t'
  -- and by the same bytes
  pub bytes : (n m : ℕ) → n ≤ m → (s : Style) (g : Graph) (v : Value) (t : Tables) (b : List ℕ) (t' : Tables) → Spells n s g v t b t' → Spells m s g v t b t'
