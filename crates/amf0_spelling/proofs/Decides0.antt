-- Canonical bytes of AMF 0 decide isomorphism, and so does what is converted.
use Rattle.std.proofs.Common.{ℕ, List, sym, subst}
use Rattle.amf_wire.specs.Style.{free, canonical}
use Rattle.amf_graph.specs.Graph.{Graph}
use Rattle.amf_graph.specs.Isomorphic.{Isomorphic}
use Rattle.amf_graph.proofs.Isomorphisms.{isomorphic_sym}
use Rattle.amf3_spelling.proofs.Decides3.{same_canonical, same_bytes_isomorphic, canonical_decides}
use Rattle.amf0_spelling.specs.Spells0.{Spelled0}
use Rattle.amf0_spelling.specs.Lowered.{IsLoweringOf}
use Rattle.amf0_spelling.specs.LawsCanonical0.{CanonicalIsAlone0, IsomorphicHaveSameCanonical0, SameBytesAreIsomorphic0, CanonicalDecides0, Decides, CanonicalConverts}
use Rattle.amf0_spelling.proofs.Low.{lowered_alike}
use Rattle.amf0_spelling.proofs.Fixed0.{one_spelling, one_alone}
use Rattle.amf0_spelling.proofs.Carried0.{isomorphic_spelling, isomorphic_bytes}
use Rattle.amf0_spelling.proofs.SameBytes0.{same_bytes0}

pub alone0 : CanonicalIsAlone0
alone0 = record { fields = one_spelling; bytes = one_alone }

pub same_canonical0 : IsomorphicHaveSameCanonical0
same_canonical0 = record { fields = λ g h i fs p. isomorphic_spelling g h fs i p; bytes = λ g h i b p. isomorphic_bytes g h b i p }

pub same_bytes_isomorphic0 : SameBytesAreIsomorphic0
same_bytes_isomorphic0 = same_bytes0 free free

every0 : (g : Graph) (b : List ℕ) → Spelled0 canonical g b → Decides (Spelled0 canonical) g b
every0 g b x h = (λ i. isomorphic_bytes g h b (isomorphic_sym h g i) x, λ y. same_bytes0 canonical canonical h g b y x)

pub canonical_decides0 : CanonicalDecides0
canonical_decides0 = record {
  every = every0;
  equal = λ g h b c p q. (λ i. one_alone h b c (isomorphic_bytes g h b i p) q, λ e. same_bytes0 canonical canonical g h b p (subst (λ w. Spelled0 canonical h w) (sym e) q));
}

-- the lowerings of isomorphic graphs
lowered0 : (read low g k : Graph) (b : List ℕ) → Isomorphic read g → IsLoweringOf read low → IsLoweringOf g k → Spelled0 canonical low b → Decides (Spelled0 canonical) k b
lowered0 read low g k b i x y p = every0 k b (isomorphic_bytes low k b (lowered_alike read g low k i x y) p)

pub converts : CanonicalConverts
converts = record {
  amf0_to_amf0 = λ input b read low x l p g k y m. lowered0 read low g k b (same_bytes_isomorphic0 read g input x y) l m p;
  amf3_to_amf0 = λ input b read low x l p g k y m. lowered0 read low g k b (same_bytes_isomorphic read g input x y) l m p;
  amf0_to_amf3 = λ input b read x p g y. canonical_decides.every g b (same_canonical read g (same_bytes_isomorphic0 read g input x y) b p);
}
