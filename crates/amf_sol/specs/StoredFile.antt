-- A shared object as it is kept.
use Rattle.std.specs.Prelude.{ℕ, ◌<◌, ◌^◌, List, length}
use Rattle.amf_wire.specs.Text.{IsText}
use Rattle.amf_graph.specs.Rooted.{RootedArena, content}
use Rattle.amf_sol.specs.declared.sol_version.SolVersion.{SolVersion}
use Rattle.amf_sol.specs.SharedObject.{Shared, HasHolder}

pub record StoredFile : Type 0 where
  pub name : List ℕ
  pub version : SolVersion
  pub holder : RootedArena

-- by content
abbrev pub shared : StoredFile → Shared
shared o = record { name = o.name; version = o.version; holder = content o.holder }

-- the name is a text for which 16 bits say the length, and the root is a holder
pub record IsStoredFile (o : StoredFile) : Type 0 where
  pub text : IsText o.name
  pub short : length o.name < 2 ^ 16
  pub holder : HasHolder (content o.holder)
