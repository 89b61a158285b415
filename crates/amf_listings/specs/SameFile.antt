-- When two shared objects are the same but for the numbers of their nodes, and what one is in the kinds that its version has.
use Rattle.std.specs.Prelude.{◌≡◌}
use Rattle.amf_graph.specs.Graph.{Graph}
use Rattle.amf_graph.specs.Isomorphic.{Isomorphic}
use Rattle.amf0_spelling.specs.Lowered.{IsLoweringOf}
use Rattle.amf_sol.specs.declared.sol_version.SolVersion.{SolVersion}
use Rattle.amf_sol.specs.declared.sol_version.SolVersion.TheVariants.{Amf0, Amf3}
use Rattle.amf_sol.specs.SharedObject.{Shared, HasHolder}

-- all else is equal, and the graphs are so
pub record FilesMatch (R : SolVersion → Graph → Graph → Type 0) (o k : Shared) : Type 0 where
  pub name : o.name ≡ k.name
  pub version : o.version ≡ k.version
  pub holder : R o.version o.holder k.holder

-- the same shared object but for the numbers of its nodes
abbrev pub SameFile : Shared → Shared → Type 0
SameFile = FilesMatch (λ version. Isomorphic)

-- a graph in the kinds of nodes and values that AMF 0 has; AMF 3 has all
abbrev pub IsFittedHolder : SolVersion → Graph → Graph → Type 0
IsFittedHolder Amf0 g fit = IsLoweringOf g fit
IsFittedHolder Amf3 g fit = fit ≡ g

-- the shared object with its graph lowered where its version is that of AMF 0
abbrev pub IsLoweredFile : Shared → Shared → Type 0
IsLoweredFile = FilesMatch IsFittedHolder

abbrev pub HasLoweredFile : Shared → Type 0
HasLoweredFile o = (low : Shared) × IsLoweredFile o low

-- its root is a holder, and it is this one once it is lowered
abbrev pub IsAlikeFile : Shared → Shared → Type 0
IsAlikeFile q fit = HasHolder q.holder × (low : Shared) × IsLoweredFile q low × SameFile low fit
