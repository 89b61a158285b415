-- Names and values of a sound node are such as a book takes.
use Rattle.std.proofs.Common.{ℕ, List, [], ◌∷◌, map}
use Rattle.std.specs.List.{AllByRecursion}
use Rattle.std.specs.declared.vec.Vec.{Vec}
use Rattle.std.specs.declared.alloc.Global.{Global}
use Rattle.amf_wire.specs.Text.{IsText}
use Rattle.amf_graph.specs.Graph as graph
use Rattle.amf_graph.specs.Graph.{Head, IsValue}
use Rattle.amf_graph.proofs.Alls.{all_weaker}
use Rattle.amf_text.specs.Linked.{Numbers}
use Rattle.amf_text.specs.WholeLaws.{IsSoundValue, IsSoundNode}
use Rattle.amf_text_trees.specs.Sheets.{Entry, Pairs, entries_by, entry_among}
use Rattle.amf_text_trees.specs.Frames.{kept}
use Rattle.amf_text_trees.specs.Pages.{value_at, name_at, node_of}
use Rattle.amf_text_pages.specs.declared.entry.Entry.{Entry as Code}
use Rattle.amf_text_pages.specs.Entries.{entry_of, pair_of}

pub all_unmap : {X Y : Type 0} (P : Y → Type 0) (f : X → Y) (xs : List X) → AllByRecursion P (map f xs) → AllByRecursion (λ x. P (f x)) xs
all_unmap P f [] h = tt
all_unmap P f (x ∷ xs) h = (h.0, all_unmap P f xs h.1)

valued : (n : ℕ) (v : graph.Value) → IsSoundValue n v → IsValue v
valued n (graph.leaf x) h = h
valued n (graph.node i) h = tt

abbrev Pair : Type 0
Pair = Vec ℕ Global × Code

pub sound_texts : (labels : Numbers) (n : ℕ) (h : Head) (ps : List Pair) (es : List Entry) → IsSoundNode n (node_of labels (kept h (map pair_of ps) es)) → AllByRecursion (λ p. IsText p.0.items) ps
sound_texts labels n h ps es s = all_unmap (λ q. IsText q.0) pair_of ps (all_unmap (λ q. IsText q.0) (name_at labels) (map pair_of ps) s.texts.names)

pub sound_pairs : (labels : Numbers) (n : ℕ) (h : Head) (ps : List Pair) (es : List Entry) → IsSoundNode n (node_of labels (kept h (map pair_of ps) es)) → AllByRecursion (λ p. IsValue (value_at labels (entry_of p.1))) ps
sound_pairs labels n h ps es s =
    all_weaker (λ p. IsSoundValue n (value_at labels (entry_of p.1))) (λ p. IsValue (value_at labels (entry_of p.1))) ps (λ p. valued n (value_at labels (entry_of p.1)))
    (all_unmap (λ q. IsSoundValue n (value_at labels q.1)) pair_of ps (all_unmap (λ q. IsSoundValue n q.1) (name_at labels) (map pair_of ps) s.names))

pub sound_entries : (labels : Numbers) (n : ℕ) (es : List Entry) → AllByRecursion (IsSoundValue n) (map (value_at labels) es) → AllByRecursion (λ e. IsValue (value_at labels e)) es
sound_entries labels n es s = all_weaker (λ e. IsSoundValue n (value_at labels e)) (λ e. IsValue (value_at labels e)) es (λ e. valued n (value_at labels e)) (all_unmap (IsSoundValue n) (value_at labels) es s)

pub sound_items : (labels : Numbers) (n : ℕ) (h : Head) (qs : Pairs) (es : List Code) → IsSoundNode n (node_of labels (kept h qs (map entry_of es))) → AllByRecursion (λ e. IsValue (value_at labels (entry_of e))) es
sound_items labels n h qs es s = all_unmap (λ e. IsValue (value_at labels e)) entry_of es (sound_entries labels n (map entry_of es) s.values)

-- of an object whose sealed members stand with their names

pub sealed_texts : (ps : List Pair) → AllByRecursion IsText (map (λ q. q.0) (map pair_of ps)) → AllByRecursion (λ p. IsText p.0.items) ps
sealed_texts ps s = all_unmap (λ q. IsText q.0) pair_of ps (all_unmap IsText (λ q. q.0) (map pair_of ps) s)

pub sealed_values : (labels : Numbers) (n : ℕ) (ps : List Pair) → AllByRecursion (IsSoundValue n) (map (value_at labels) (map (λ q. q.1) (map pair_of ps))) → AllByRecursion (λ p. IsValue (value_at labels (entry_of p.1))) ps
sealed_values labels n ps s =
    all_unmap (λ q. IsValue (value_at labels q.1)) pair_of ps (all_unmap (λ e. IsValue (value_at labels e)) (λ q. q.1) (map pair_of ps) (sound_entries labels n (map (λ q. q.1) (map pair_of ps)) s))

-- and of one whose sealed members stand in any order

pub ordered_texts : (xs : List (Vec ℕ Global)) → AllByRecursion IsText (map (λ x. x.items) xs) → AllByRecursion (λ x. IsText x.items) xs
ordered_texts xs s = all_unmap IsText (λ x. x.items) xs s

pub ordered_values : (labels : Numbers) (n : ℕ) (xs : List (Vec ℕ Global)) (qs : Pairs) → AllByRecursion (IsSoundValue n) (map (value_at labels) (entries_by (map (λ x. x.items) xs) qs))
    → AllByRecursion (λ x. IsValue (value_at labels (entry_among x.items qs))) xs
ordered_values labels n xs qs s =
    let items : Vec ℕ Global → List ℕ = λ x. x.items in
    all_unmap (λ x. IsValue (value_at labels (entry_among x qs))) items xs
    (all_unmap (λ e. IsValue (value_at labels e)) (λ x. entry_among x qs) (map items xs) (sound_entries labels n (entries_by (map items xs) qs) s))
