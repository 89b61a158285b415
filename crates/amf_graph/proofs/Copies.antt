-- Copies of pairs, entries and nodes, one more.
use Rattle.std.proofs.Common.{◌≡◌, ℕ, zero, suc, ◌+◌, ◌<◌, List, [], ◌∷◌, ◌++◌, length, map, take, get_or, refl, ap, ◌∙◌, sym, arith, add-one}
use Rattle.std.proofs.Math.Seq.{take-suc}
use Rattle.std.proofs.lemmas.List.{map-append}
use Rattle.std.proofs.lemmas.Option.{slice_get_read, get_or_from_slice_get}
use Rattle.std.specs.List.{AllByRecursion}
use Rattle.amf_graph.specs.declared.value.Value.{Value as Stored}
use Rattle.amf_graph.specs.declared.value.TextId.{TextId}
use Rattle.amf_graph.specs.declared.value.NodeId.{NodeId}
use Rattle.amf_graph.specs.Arena.{StoredNode}
use Rattle.amf_graph.specs.Building.{no_stored}
use Rattle.amf_graph.specs.Views.{named, flat}
use Rattle.amf_graph.specs.Renumbered.{numbers_of, renumbered_value, renumbered_values, renumbered_node}
use Rattle.amf_graph.proofs.Entries.{flat_push}

pub pair_at : (P : Stored → Type 0) (ps : List (TextId × Stored)) (i : ℕ) (d : TextId × Stored) → AllByRecursion (λ p. P p.1) (named ps) → i < length ps → P (get_or ps i d).1
pair_at P [] i d h l = absurd (omega arith)
pair_at P (p ∷ ps) zero d h l = h.0
pair_at P (p ∷ ps) (suc i) d h l = pair_at P ps i d h.1 (omega arith)

pub entry_at : (P : Stored → Type 0) (es : List (Stored × Stored)) (i : ℕ) (d : Stored × Stored) → AllByRecursion P (flat es) → i < length es → P (get_or es i d).0 × P (get_or es i d).1
entry_at P [] i d h l = absurd (omega arith)
entry_at P (e ∷ es) zero d h l = (h.0, h.1.0)
entry_at P (e ∷ es) (suc i) d h l = entry_at P es i d h.1.1 (omega arith)

entry_more : (es : List (Stored × Stored)) (i : ℕ) (d : Stored × Stored) → i < length es → flat (take (i + 1) es) ≡ flat (take i es) ++ (get_or es i d).0 ∷ (get_or es i d).1 ∷ []
entry_more es i d l = rw (add-one, take-suc es i d l) (flat_push (take i es) (get_or es i d).0 (get_or es i d).1)

pub copy_more : (f : ℕ → ℕ) (es copies : List (Stored × Stored)) (i : ℕ) (d : Stored × Stored) → i < length es → flat copies ≡ renumbered_values f (flat (take i es)) → flat (copies ++ (renumbered_value f (get_or es i d).0, renumbered_value f (get_or es i d).1) ∷ []) ≡ renumbered_values f (flat (take (i + 1) es))
copy_more f es copies i d l e =
    flat_push copies (renumbered_value f (get_or es i d).0) (renumbered_value f (get_or es i d).1)
    ∙ ap (λ w. w ++ renumbered_value f (get_or es i d).0 ∷ renumbered_value f (get_or es i d).1 ∷ []) e
    ∙ sym (map-append (renumbered_value f) (flat (take i es)) ((get_or es i d).0 ∷ (get_or es i d).1 ∷ []))
    ∙ ap (renumbered_values f) (sym (entry_more es i d l))

-- a node as it is read by its place
pub node_read : (ns : List StoredNode) (i : ℕ) (n : StoredNode) → i < length ns → n ≡ get_or ns i n → get_or ns i no_stored ≡ n
node_read ns i n l e = get_or_from_slice_get ns i n no_stored (slice_get_read ns (length ns) i n refl l e)

module _ (f : ℕ → ℕ) (ns : List StoredNode) (order : List NodeId) (k : ℕ) (d : NodeId) where
  abbrev copied : ℕ → StoredNode
  copied i = renumbered_node f (get_or ns i no_stored)

  node_more : k < length order → map copied (numbers_of (take (k + 1) order)) ≡ map copied (numbers_of (take k order)) ++ copied (get_or order k d).0 ∷ []
  node_more l = rw (add-one, take-suc order k d l, map-append, map-append) refl

  pub nodes_more : (copies : List StoredNode) (n m : StoredNode) → k < length order → (get_or order k d).0 < length ns → n ≡ get_or ns (get_or order k d).0 n → m ≡ renumbered_node f n → copies ≡ map copied (numbers_of (take k order)) → copies ++ m ∷ [] ≡ map copied (numbers_of (take (k + 1) order))
  nodes_more copies n m l w r e h =
      ap (λ (x : StoredNode). copies ++ x ∷ []) (e ∙ ap (renumbered_node f) (sym (node_read ns (get_or order k d).0 n w r))) ∙ ap (λ (xs : List StoredNode). xs ++ copied (get_or order k d).0 ∷ []) h ∙ sym (node_more l)
