-- A shared object has a lowering: itself, or one with the lowering of its graph.
use Rattle.std.proofs.Common.{◌≡◌, refl, sym, subst}
use Rattle.amf_graph.specs.Graph.{Graph}
use Rattle.amf0_spelling.specs.Lowered.{IsLoweringOf}
use Rattle.amf_sol.specs.declared.sol_version.SolVersion.TheVariants.{Amf0, Amf3}
use Rattle.amf_sol.specs.SharedObject.{Shared}
use Rattle.amf_listings.specs.SameFile.{IsFittedHolder, HasLoweredFile}

pub itself : (o : Shared) → o.version ≡ Amf3 → HasLoweredFile o
itself o e = (o, record { name = refl; version = refl; holder = subst (λ v. IsFittedHolder v o.holder o.holder) (sym e) refl })

pub of_graph : (o : Shared) (g : Graph) → o.version ≡ Amf0 → IsLoweringOf o.holder g → HasLoweredFile o
of_graph o g e is = (record { name = o.name; version = o.version; holder = g }, record { name = refl; version = refl; holder = subst (λ v. IsFittedHolder v o.holder g) (sym e) is })
