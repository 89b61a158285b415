-- What the states of reading AMF 0 keep.
use Rattle.std.proofs.Common.{◌≡◌, ℕ, ◌<◌, ◌≤◌, false, true, List, [], ◌∷◌, ◌++◌, length, refl, sym, ap, ◌∙◌, subst, arith, length-append}
use Rattle.std.proofs.lemmas.List.{append-nil}
use Rattle.std.specs.List.{AllByRecursion}
use Rattle.amf_wire.specs.Text.{IsText}
use Rattle.amf_graph.specs.Graph.{Fits}
use Rattle.amf_graph.specs.Order.{IsDistinct}
use Rattle.amf_graph.specs.Arena.{StoredTraits, StoredHead, StoredNode, head_content, HeadNames, IsTextId, IsTraitsIn}
use Rattle.amf_graph.specs.Building.{kept_traits}
use Rattle.amf_graph.proofs.Lists.{length_pushed}
use Rattle.amf3_spelling.specs.KeptTables.{below}
use Rattle.amf3_spelling.specs.Tables.{Tables}
use Rattle.amf3_layout_laws.specs.Layout3State.{State3, begun}
use Rattle.amf3_layout_laws.proofs.Layout3Contents.{all_append, all_more, Larger, larger_itself, traits_in, node_more, KeptNode, Good, words_stay, tables_more, good_contents, marks_more, distinct_more}
use Rattle.amf3_layout_laws.proofs.Layout3SoundParts.{table, table_changed}
use Rattle.amf0_spelling.specs.Tables0.{Tables0, add_node0, add_done0}
use Rattle.amf0_layout_laws.specs.Layout0State.{State0, with_text0, with_traits, with_loose, with_done0, with_node0, changed0, with_class}

-- the tables are those of the arena
pub record Good0 (s : State0) : Type 0 where
  pub amf3 : Good s.amf3
  pub nodes : AllByRecursion (λ i. i < length s.amf3.arena.nodes) s.nodes
  pub distinct : IsDistinct s.nodes

-- and by content
abbrev pub table0 : State0 → Tables0
table0 s = record { amf3 = table s.amf3; nodes = s.nodes; switched = s.switched }

below_more : (n m : ℕ) (xs : List ℕ) → n ≤ m → AllByRecursion (λ i. i < n) xs → AllByRecursion (λ i. i < m) xs
below_more n m xs l h = all_more (λ i. i < n) (λ i. i < m) xs (λ i k. omega arith) h

pub good0_moved : (s z : State0) → Good z.amf3 → z.nodes ≡ s.nodes → length s.amf3.arena.nodes ≤ length z.amf3.arena.nodes → Good0 s → Good0 z
good0_moved s z g e l h = record {
  amf3 = g;
  nodes = subst (AllByRecursion (λ i. i < length z.amf3.arena.nodes)) (sym e) (below_more (length s.amf3.arena.nodes) (length z.amf3.arena.nodes) s.nodes l h.nodes);
  distinct = subst (λ w. IsDistinct w) (sym e) h.distinct;
}

pub good_text0 : (s : State0) (x : List ℕ) → IsText x → Good0 s → Good0 (with_text0 s x)
good_text0 s x h g = good0_moved s (with_text0 s x) (good_contents s.amf3 x h g.amf3) refl (omega arith) g

-- traits in the arena alone
pub traits_larger : (s : State3) (t : StoredTraits) → Larger s.arena (with_traits s t).arena
traits_larger s t = record { more_texts = []; texts = sym (append-nil s.arena.texts); more_traits = t ∷ []; traits = refl; nodes = omega arith }

good_traits : (s : State3) (t : StoredTraits) → IsTraitsIn s.arena t → Good s → Good (with_traits s t)
good_traits s t h g =
    let a = s.arena in
    let b = kept_traits a t in
    let l = traits_larger s t in
    record {
      kept = record {
        texts = g.kept.texts;
        traits = all_append (IsTraitsIn b) a.traits (t ∷ []) (all_more (IsTraitsIn a) (IsTraitsIn b) a.traits (traits_in a b l) g.kept.traits) (traits_in a b l t h, tt);
        nodes = all_more (KeptNode a) (KeptNode b) a.nodes (node_more a b l g.kept.traits) g.kept.nodes;
      };
      tables = tables_more a b s.tables l g.kept.traits g.tables;
      words = g.words ∙ sym (words_stay a b s.tables l g.kept.traits g.tables);
      marks = g.marks;
    }

pub good_class : (s : State0) (i : ℕ) → IsTextId s.amf3.arena i → Good0 s → Good0 (with_class s i)
good_class s i h g = good0_moved s (with_class s i) (good_traits s.amf3 (record { class = i; dynamic = true; sealed = [] }) (record { class = h; sealed = tt }) g.amf3) refl (omega arith) g

-- a node in the arena alone
pub loose_larger : (s : State3) (head : StoredHead) → Larger s.arena (with_loose s head).arena
loose_larger s head = larger_itself s.arena (with_loose s head).arena refl refl (omega (arith, length-append s.arena.nodes (begun head ∷ [])))

good_loose : (s : State3) (head : StoredHead) → Good s → HeadNames s.arena head → ((begun head).is_open ≡ false → Fits (head_content s.arena head) [] []) → Good (with_loose s head)
good_loose s head g named fits =
    let a = s.arena in
    let q = begun head in
    let b = (with_loose s head).arena in
    let l = loose_larger s head in
    let n : KeptNode a q = record { head = named; names = tt; values = tt; fits = fits } in
    record {
      kept = record {
        texts = g.kept.texts;
        traits = all_more (IsTraitsIn a) (IsTraitsIn b) a.traits (traits_in a b l) g.kept.traits;
        nodes = all_append (KeptNode b) a.nodes (q ∷ []) (all_more (KeptNode a) (KeptNode b) a.nodes (node_more a b l g.kept.traits) g.kept.nodes) (node_more a b l g.kept.traits q n, tt);
      };
      tables = tables_more a b s.tables l g.kept.traits g.tables;
      words = g.words ∙ sym (words_stay a b s.tables l g.kept.traits g.tables);
      marks = g.marks ∙ sym (marks_more a b q s.tables.nodes refl g.tables.nodes);
    }

pub good_done0 : (s : State0) (head : StoredHead) → Good0 s → HeadNames s.amf3.arena head → ((begun head).is_open ≡ false → Fits (head_content s.amf3.arena head) [] []) → Good0 (with_done0 s head)
good_done0 s head g named fits = good0_moved s (with_done0 s head) (good_loose s.amf3 head g.amf3 named fits) refl (loose_larger s.amf3 head).nodes g

pub good_node0 : (s : State0) (head : StoredHead) → Good0 s → HeadNames s.amf3.arena head → ((begun head).is_open ≡ false → Fits (head_content s.amf3.arena head) [] []) → Good0 (with_node0 s head)
good_node0 s head g named fits =
    let d = good_done0 s head g named fits in
    let i = length s.amf3.arena.nodes in
    record {
      amf3 = d.amf3;
      nodes = all_append (λ j. j < length (with_node0 s head).amf3.arena.nodes) s.nodes (i ∷ []) d.nodes (omega (arith, length-append s.amf3.arena.nodes (begun head ∷ [])), tt);
      distinct = distinct_more s.nodes i g.distinct g.nodes;
    }

-- one more node of the arena has been spelled
pub table0_done : (s : State0) (head : StoredHead) → table0 (with_done0 s head) ≡ add_done0 (table0 s) (length s.amf3.arena.nodes)
table0_done s head = ap (λ n. let t : Tables0 = record { amf3 = record { words = s.amf3.words; nodes = s.amf3.tables.nodes; done = below n }; nodes = s.nodes; switched = s.switched } in t) (length_pushed s.amf3.arena.nodes (begun head))

pub table0_node : (s : State0) (head : StoredHead) → table0 (with_node0 s head) ≡ add_node0 (table0 s) (length s.amf3.arena.nodes)
table0_node s head =
    ap (λ n. let t : Tables0 = record { amf3 = record { words = s.amf3.words; nodes = s.amf3.tables.nodes; done = below n }; nodes = s.nodes ++ length s.amf3.arena.nodes ∷ []; switched = s.switched } in t) (length_pushed s.amf3.arena.nodes (begun head))

pub table0_changed : (f : StoredNode → StoredNode) (i : ℕ) (s : State0) → table0 (changed0 f i s) ≡ table0 s
table0_changed f i s = ap (λ (t : Tables). let u : Tables0 = record { amf3 = t; nodes = s.nodes; switched = s.switched } in u) (table_changed f i s.amf3)
