-- Two graphs that one list of bytes spells in AMF 0 are isomorphic; so canonical bytes decide isomorphism.
use Rattle.std.proofs.Common.{◌≡◌, ℕ, List, [], ◌++◌, slice_get, sym, refl, ap, ◌∙◌, arith, false}
use Rattle.std.proofs.lemmas.Option.{same_Some}
use Rattle.amf_io.specs.Field.{flat}
use Rattle.amf_wire.specs.Style.{Style}
use Rattle.amf_graph.specs.Graph.{Graph, node_at}
use Rattle.amf_graph.specs.Isomorphic.{StandIn, Isomorphic}
use Rattle.amf_graph.proofs.Matching.{Implies, values_more, nodes_more}
use Rattle.amf_graph.proofs.Lists.{no_entry}
use Rattle.amf_graph.proofs.Places.{zipped, zipped_at, at_zipped}
use Rattle.amf0_spelling.specs.Tables0.{no_tables0}
use Rattle.amf0_spelling.specs.Spells0.{Spelled0}
use Rattle.amf0_spelling.proofs.Stays0.{proper_none, keeps_values_in}
use Rattle.amf0_spelling.proofs.Alike0.{Paired, alike0}

-- two graphs that one list of bytes spells are isomorphic, in any two styles
pub same_bytes0 : (s z : Style) (g h : Graph) (b : List ℕ) → Spelled0 s g b → Spelled0 z h b → Isomorphic g h
same_bytes0 s z g h b x y =
    let t = x.1.0 in
    let u = y.1.0 in
    let e : flat x.0 ++ [] ≡ flat y.0 ++ [] = ap (λ w. w ++ []) (sym x.2 ∙ y.2) in
    let o = alike0 g h s z g.root h.root no_tables0 no_tables0 x.0 y.0 [] [] t u (record { amf3 = record { words = refl; size = refl; level = refl; pairs = λ k i j e f. absurd (no_entry k i e) }; size = refl; pairs = λ k i j e f. absurd (no_entry k i e); switched = refl }) x.1.1 y.1.1 e in
    let proper = (keeps_values_in g s x.1.1.0 false g.root no_tables0 x.0 t x.1.1.1).proper (proper_none g) in
    let proper' = (keeps_values_in h z y.1.1.0 false h.root no_tables0 y.0 u y.1.1.1).proper (proper_none h) in
    let pairs = zipped t.amf3.done u.amf3.done in
    let to : Implies (Paired t u) (StandIn pairs) = λ i j p. (p.0, at_zipped t.amf3.done u.amf3.done p.0 i j p.1 p.2) in
    let from : Implies (StandIn pairs) (Paired t u) = λ i j p. let w = zipped_at t.amf3.done u.amf3.done p.0 i j p.1 in (p.0, w.0, w.1) in
    record {
      pairs = pairs;
      left = λ i j k p q.
          let v = from i j p in
          let w = from i k q in
          let at : v.0 ≡ w.0 = proper.amf3.once v.0 w.0 i v.1 w.1 in
          same_Some j k (sym v.2 ∙ ap (λ n. slice_get u.amf3.done n) at ∙ w.2);
      right = λ i j k p q.
          let v = from i k p in
          let w = from j k q in
          let at : v.0 ≡ w.0 = proper'.amf3.once v.0 w.0 k v.2 w.2 in
          same_Some i j (sym v.1 ∙ ap (λ n. slice_get t.amf3.done n) at ∙ w.1);
      within = λ i j p. let v = from i j p in (proper.amf3.within v.0 i v.1, proper'.amf3.within v.0 j v.2);
      root = values_more (Paired t u) (StandIn pairs) to g.root h.root o.says;
      nodes = λ i j p. let v = from i j p in nodes_more (Paired t u) (StandIn pairs) to (node_at g i) (node_at h j) (o.fresh v.0 i j (omega arith) v.1 v.2);
    }
