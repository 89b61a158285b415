-- What the table of nodes keeps, and that the turns of the writer come to an end.
use Rattle.std.proofs.Common.{◌≡◌, ℕ, ◌+◌, ◌*◌, ◌≤◌, List, [], ◌∷◌, ◌++◌, slice_get, Some, sym, refl, ap, ◌∙◌, subst, inl, inr, arith, append_assoc}
use Rattle.amf_graph.proofs.Counting.{missing, missing_less, missing_push}
use Rattle.amf_graph.proofs.Lists.{at_left}
use Rattle.amf3_spelling.specs.Tables.{Tables, add_node}
use Rattle.amf3_write.specs.declared.output.Output.{Output}
use Rattle.amf3_write.specs.Unwritten.{Falls}
use Rattle.amf3_write.specs.Writes.{BeginsWith, Keeps}
use Rattle.amf3_write.proofs.Whole.{own_front}

pub keeps_new : (i : ℕ) (o m : Output) → m.tables ≡ add_node o.tables i → m.bytes.items ≡ o.bytes.items → Keeps o m
keeps_new i o m e b front h = record {
  bytes = subst (λ w. BeginsWith front.bytes w) (sym b) h.bytes;
  nodes = record { rest = h.nodes.rest ++ i ∷ []; is = ap (λ (t : Tables). t.nodes) e ∙ ap (λ w. w ++ i ∷ []) h.nodes.is ∙ append_assoc front.nodes h.nodes.rest (i ∷ []) };
}

-- the nodes of the table are at the front of those behind
pub nodes_stay : (o m : Output) → Keeps o m → BeginsWith o.tables.nodes m.tables.nodes
nodes_stay o m k = let front = k (record { bytes = o.bytes.items; nodes = o.tables.nodes }) (own_front o o.tables o.bytes.items refl refl) in front.nodes

begins_less : (n : ℕ) (xs ys : List ℕ) → BeginsWith xs ys → missing n ys ≤ missing n xs
begins_less n xs ys b = missing_less n xs ys (λ k i e. subst (λ w. slice_get w k ≡ Some i) (sym b.is) (at_left xs b.rest k i e))

pub keeps_less : (n : ℕ) (o m : Output) → Keeps o m → missing n m.tables.nodes ≤ missing n o.tables.nodes
keeps_less n o m k = begins_less n o.tables.nodes m.tables.nodes (nodes_stay o m k)

pub falls_less : (n : ℕ) (o m : Output) (before after : ℕ) → Keeps o m → Falls n o.tables.nodes m.tables.nodes before after → missing n m.tables.nodes * 1073741824 + after ≤ missing n o.tables.nodes * 1073741824 + before
falls_less n o m before after k (inl l) = omega (arith, keeps_less n o m k)
falls_less n o m before after k (inr (i, l, new, b, t)) = omega (arith, missing_push n i o.tables.nodes l new, begins_less n (o.tables.nodes ++ i ∷ []) m.tables.nodes b)
