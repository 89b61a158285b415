-- What is kept can be read back from its text: each graph that is finished, and so each shared object.
use Rattle.std.proofs.Common.{◌≡◌, ℕ, ◌<◌, ◌≤◌, ◌^◌, length, arith}
use Rattle.amf_graph.specs.declared.value.Value.{Value as Stored}
use Rattle.amf_graph.specs.Arena.{Arena, graph_of, IsFinished, Names}
use Rattle.amf_graph.specs.Bounds.{count_end, IsWithinBounds}
use Rattle.amf_graph.proofs.Finished.{length_map, finished}
use Rattle.amf_sol.specs.StoredFile.{StoredFile, shared, IsStoredFile}
use Rattle.amf_graph.specs.Rooted.{content}
use Rattle.amf_json.specs.Ready.{IsReadyGraph, IsReadyFile}
use Rattle.amf_json.proofs.FittedInputs.{holds_pairs}

few_nodes : (n m : ℕ) → n < count_end → m ≡ n → m < 2 ^ 64
few_nodes n m l e = omega (arith, l, e)

pub graph_ready : (a : Arena) (root : Stored) → IsFinished a → IsWithinBounds a → Names a root → IsReadyGraph (graph_of a root)
graph_ready a root f b n = (finished a root f n, few_nodes (length a.nodes) _ b.few_nodes (length_map a a.nodes))

pub stored_ready : (o : StoredFile) → IsStoredFile o → IsReadyGraph (content o.holder) → IsReadyFile (shared o)
stored_ready o s r = (((s.text, short (length o.name) s.short), r.0, s.holder.0, holds_pairs (content o.holder) s.holder.0 s.holder.1), r.1)
  where
    short : (n : ℕ) → n < 2 ^ 16 → n ≤ 65535
    short n l = omega (arith, l)
