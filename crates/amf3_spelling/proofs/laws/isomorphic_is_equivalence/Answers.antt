-- Isomorphic is an equivalence.
use Rattle.amf_graph.proofs.OrderExists.{isomorphic_refl}
use Rattle.amf_graph.proofs.Isomorphisms.{isomorphic_sym, isomorphic_trans}
use Rattle.amf3_spelling.proofs.laws.isomorphic_is_equivalence.Goals as goal

pub returns : goal.returns
returns c = record { reflexive = λ g w. isomorphic_refl g w.there; symmetric = isomorphic_sym; transitive = isomorphic_trans }
