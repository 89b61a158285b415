-- Two graphs that the same bytes spell are isomorphic.
use Rattle.std.proofs.Common.{◌≡◌, ℕ, List, [], slice_get, sym, refl, ap, ◌∙◌, arith}
use Rattle.std.proofs.lemmas.Option.{same_Some}
use Rattle.amf_wire.specs.Style.{Style}
use Rattle.amf_graph.specs.Graph.{Graph, node_at}
use Rattle.amf_graph.specs.Isomorphic.{StandIn, Isomorphic}
use Rattle.amf_graph.proofs.Lists.{no_entry}
use Rattle.amf_graph.proofs.Matching.{Implies, values_more, nodes_more}
use Rattle.amf_graph.proofs.Places.{zipped, zipped_at, at_zipped}
use Rattle.amf3_spelling.specs.Tables.{no_tables}
use Rattle.amf3_spelling.proofs.ByteSpelling.{Spelled}
use Rattle.amf3_spelling.proofs.Fixed3.{proper_none}
use Rattle.amf3_spelling.proofs.Stays3.{keeps_spells}
use Rattle.amf3_spelling.proofs.Alike3.{Paired, alike}

-- two graphs that one byte list spells are isomorphic
pub same_bytes : (s z : Style) (g h : Graph) (b : List ℕ) → Spelled s g b → Spelled z h b → Isomorphic g h
same_bytes s z g h b x y =
    let t = x.1 in
    let u = y.1 in
    let o = alike g h s z x.0 y.0 g.root h.root no_tables no_tables b b [] [] t u (record { words = refl; size = refl; level = refl; pairs = λ k i j e f. absurd (no_entry k i e) }) x.2 y.2 refl in
    let proper = (keeps_spells g s x.0 g.root no_tables b t x.2).proper (proper_none g) in
    let proper' = (keeps_spells h z y.0 h.root no_tables b u y.2).proper (proper_none h) in
    let pairs = zipped t.done u.done in
    let to : Implies (Paired t u) (StandIn pairs) = λ i j p. (p.0, at_zipped t.done u.done p.0 i j p.1 p.2) in
    let from : Implies (StandIn pairs) (Paired t u) = λ i j p. let w = zipped_at t.done u.done p.0 i j p.1 in (p.0, w.0, w.1) in
    record {
      pairs = pairs;
      left = λ i j k p q.
          let v = from i j p in
          let w = from i k q in
          let at : v.0 ≡ w.0 = proper.once v.0 w.0 i v.1 w.1 in
          same_Some j k (sym v.2 ∙ ap (λ n. slice_get u.done n) at ∙ w.2);
      right = λ i j k p q.
          let v = from i k p in
          let w = from j k q in
          let at : v.0 ≡ w.0 = proper'.once v.0 w.0 k v.2 w.2 in
          same_Some i j (sym v.1 ∙ ap (λ n. slice_get t.done n) at ∙ w.1);
      within = λ i j p. let v = from i j p in (proper.within v.0 i v.1, proper'.within v.0 j v.2);
      root = values_more (Paired t u) (StandIn pairs) to g.root h.root o.says;
      nodes = λ i j p. let v = from i j p in nodes_more (Paired t u) (StandIn pairs) to (node_at g i) (node_at h j) (o.fresh v.0 i j (omega arith) v.1 v.2);
    }
