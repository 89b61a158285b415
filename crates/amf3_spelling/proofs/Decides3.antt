-- Canonical bytes decide isomorphism.
use Rattle.std.proofs.Common.{◌≡◌, ℕ, List, sym, refl, subst}
use Rattle.amf_wire.specs.Style.{free, canonical}
use Rattle.amf_graph.specs.Graph.{Graph}
use Rattle.amf_graph.specs.Isomorphic.{StandIn, Isomorphic}
use Rattle.amf_graph.proofs.Isomorphisms.{isomorphic_sym}
use Rattle.amf3_spelling.specs.Spells3.{Spells3, Spelled3}
use Rattle.amf3_spelling.specs.LawsCanonical3.{CanonicalIsAlone, IsomorphicHaveSameCanonical, SameBytesAreIsomorphic, CanonicalDecides, CanonicalExists}
use Rattle.amf3_spelling.specs.LawsTable3.{TableIsOrder}
use Rattle.amf3_spelling.specs.Tables.{Tables, no_tables}
use Rattle.amf_io.specs.Field.{Field, flat}
use Rattle.amf_graph.specs.Order.{IsOrder}
use Rattle.amf_graph.specs.Arena.{graph_of}
use Rattle.amf_graph.proofs.Finished.{finished}
use Rattle.amf_graph.proofs.FinishedSmall.{finished_small}
use Rattle.amf3_spelling.proofs.ByteSpelling.{Spelled}
use Rattle.amf3_spelling.proofs.BytesOf.{to_spells, to_spelled}
use Rattle.amf3_spelling.proofs.Stays3.{keeps_spells}
use Rattle.amf3_spelling.proofs.Exists3.{canonical_exists}
use Rattle.amf3_spelling.proofs.Ordered3.{in_order}
use Rattle.amf3_spelling.proofs.FieldsOf.{from_spelled}
use Rattle.amf3_spelling.proofs.Fixed3.{one_alone}
use Rattle.amf3_spelling.proofs.Carried3.{carried_root}
use Rattle.amf3_spelling.proofs.SameBytes3.{same_bytes}
use Rattle.amf3_spelling.proofs.Forget.{forget_spelled3}

pub canonical_is_alone : CanonicalIsAlone
canonical_is_alone g b c x y = one_alone g b c (to_spelled canonical g b x) (to_spelled canonical g c y)

carried_over : (g h : Graph) (b : List ℕ) → Isomorphic g h → Spelled canonical g b → Spelled canonical h b
carried_over g h b i p =
    let o = carried_root g h (StandIn i.pairs) i.left i.right (λ a c m. (i.within a c m).1) i.nodes p.0 b p.1 i.root p.2 in
    (p.0, o.0, o.1)

pub same_canonical : IsomorphicHaveSameCanonical
same_canonical g h i b p = from_spelled canonical h b (carried_over g h b i (to_spelled canonical g b p))

pub same_bytes_isomorphic : SameBytesAreIsomorphic
same_bytes_isomorphic g h b x y = same_bytes free free g h b (to_spelled free g b x) (to_spelled free h b y)

canonical_isomorphic : (g h : Graph) (b : List ℕ) → Spelled3 canonical g b → Spelled3 canonical h b → Isomorphic g h
canonical_isomorphic g h b x y = same_bytes_isomorphic g h b (forget_spelled3 canonical g b x) (forget_spelled3 canonical h b y)

pub canonical_decides : CanonicalDecides
canonical_decides = record {
  every = λ g b p h. (λ i. same_canonical g h (isomorphic_sym h g i) b p, λ q. canonical_isomorphic h g b q p);
  equal = λ g h b c p q. (λ i. canonical_is_alone h b c (same_canonical g h i b p) q, λ e. canonical_isomorphic g h b p (subst (λ w. Spelled3 canonical h w) (sym e) q));
  headline = λ input b read x y g z h.
      let c : Spelled3 canonical g b = same_canonical read g (same_bytes_isomorphic read g input x z) b y in
      (λ i. same_canonical g h (isomorphic_sym h g i) b c, λ q. canonical_isomorphic h g b q c);
}

pub canonical_exist : CanonicalExists
canonical_exist = record {
  by_content = λ g s w n. let o = canonical_exists g s w n in (o.0, from_spelled canonical g o.0 o.1);
  built = λ a root f w r n. let o = canonical_exists (graph_of a root) (finished_small a root f w r) (finished a root f r) n in (o.0, from_spelled canonical (graph_of a root) o.0 o.1);
}

pub table_is_order : TableIsOrder
table_is_order =
    let even : (g : Graph) (fs : List Field) (t : Tables) → Spells3 canonical g g.root no_tables fs t → t.nodes ≡ t.done = λ g fs t z. (keeps_spells g canonical z.0 g.root no_tables (flat fs) t (to_spells z.0 canonical g g.root no_tables fs t z.1)).level refl in
    record {
      nodes = λ g fs t z. subst (λ w. IsOrder g w) (sym (even g fs t z)) (in_order g (flat fs) (z.0, t, to_spells z.0 canonical g g.root no_tables fs t z.1));
      done = λ g fs t z. sym (even g fs t z);
    }
