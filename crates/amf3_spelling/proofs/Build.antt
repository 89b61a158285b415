-- Spellings put together from their parts: the fields and the tables behind them come out.
use Rattle.std.proofs.Common.{◌≡◌, ◌≢◌, ℕ, zero, suc, ◌+◌, ◌*◌, ◌<◌, List, [], ◌∷◌, ◌++◌, length, slice_get, Some, refl, arith, inl, inr, pos}
use Rattle.amf_io.specs.Field.{Field, field, text_kind, u29_kind, no_refusal}
use Rattle.amf_wire.specs.Style.{Style, Only}
use Rattle.amf_wire.specs.Text.{IsText}
use Rattle.amf_wire.proofs.Shortest.{small}
use Rattle.amf_graph.specs.Graph.{Leaf, null, integer, text, IsLeaf, Value, leaf, node, Graph, node_at, AllNamed, Fits}
use Rattle.amf_graph.specs.ByName.{by_name}
use Rattle.amf_graph.specs.Order.{Absent}
use Rattle.amf3_spelling.specs.Tables.{Words, add_text, Tables, with_words, add_node}
use Rattle.amf3_spelling.specs.Then.{Spelling, Then}
use Rattle.amf3_spelling.specs.Refusals3.{leaf_marker, marker, text_header_kind}
use Rattle.amf3_spelling.specs.Words3.{empty, whole, placed, Text, NoPlaceBelow}
use Rattle.amf3_spelling.specs.Segments3.{Segment, word, value, Lifted, Segments, segments_of}
use Rattle.amf3_spelling.specs.Headers3.{HeaderBy, marker_field, header_field}
use Rattle.amf3_spelling.specs.Spells3.{LeafBy, Marked, ValueBy, SpellsIn}

-- fields and tables behind them that A relates to the tables before
pub record Built {S : Type 0} (A : S → List Field → S → Type 0) (t : S) : Type 0 where
  pub fields : List Field
  pub after : S
  pub spelled : A t fields after

abbrev pub both : {S : Type 0} (A B : S → List Field → S → Type 0) (t : S) (x : Built A t) → Built B x.after → Built (Then A B) t
both A B t x y = record { fields = x.fields ++ y.fields; after = y.after; spelled = record { front = x.fields; back = y.fields; mid = x.after; joined = refl; first = x.spelled; second = y.spelled } }

abbrev pub lifted : (A : Spelling Words) (t : Tables) → Built A t.words → Built (Lifted A) t
lifted A t x = record { fields = x.fields; after = with_words t x.after; spelled = (x.after, x.spelled, refl) }

abbrev pub marked : (m : ℕ) (t : Tables) → Built (Marked m) t
marked m t = record { fields = marker_field m ∷ []; after = t; spelled = (refl, refl) }

abbrev pub a_leaf : (Inline : ℕ → Spelling Tables) (s : Style) (g : Graph) (x : Leaf) (t : Tables) → IsLeaf x → Built (LeafBy s x) t.words → Built (ValueBy Inline s g (leaf x)) t
a_leaf Inline s g x t h y =
    let z : Built (Then (Marked (leaf_marker x)) (Lifted (LeafBy s x))) t = both _ _ t (marked (leaf_marker x) t) (lifted (LeafBy s x) t y) in
    record { fields = z.fields; after = z.after; spelled = (h, z.spelled) }

abbrev pub a_null : (Inline : ℕ → Spelling Tables) (s : Style) (g : Graph) (t : Tables) → Built (ValueBy Inline s g (leaf null)) t
a_null Inline s g t = a_leaf Inline s g null t tt (record { fields = []; after = t.words; spelled = (refl, refl) })

-- a small integer, by one byte
abbrev pub an_integer : (Inline : ℕ → Spelling Tables) (s : Style) (g : Graph) (n : ℕ) (t : Tables) → n < 128 → Built (ValueBy Inline s g (leaf (integer (pos n)))) t
an_integer Inline s g n t h = a_leaf Inline s g (integer (pos n)) t (omega arith) (record { fields = field (u29_kind no_refusal) (n ∷ []) ∷ []; after = t.words; spelled = (n ∷ [], small s n h, refl, refl) })

abbrev pub no_text : (s : Style) (w : Words) → Built (Text s []) w
no_text s w = record { fields = field (text_header_kind (length w.texts)) (1 ∷ []) ∷ []; after = w; spelled = empty refl (1 ∷ []) (small s 1 (omega arith)) refl refl }

abbrev pub new_text : (s : Style) (x : List ℕ) (w : Words) → x ≢ [] → IsText x → Only s (NoPlaceBelow 268435456 w.texts x) → 2 * length x + 1 < 128 → Built (Text s x) w
new_text s x w h is_text unnamed few = record {
  fields = field (text_header_kind (length w.texts)) ((2 * length x + 1) ∷ []) ∷ field (text_kind (length x)) x ∷ [];
  after = add_text w x;
  spelled = whole h is_text unnamed ((2 * length x + 1) ∷ []) (small s (2 * length x + 1) few) refl refl;
}

abbrev pub old_text : (s : Style) (x : List ℕ) (w : Words) (k : ℕ) → Only s (x ≢ []) → slice_get w.texts k ≡ Some x → Only s (NoPlaceBelow k w.texts x) → 2 * k < 128 → Built (Text s x) w
old_text s x w k h there unnamed few = record {
  fields = field (text_header_kind (length w.texts)) ((2 * k) ∷ []) ∷ [];
  after = w;
  spelled = placed h k there unnamed ((2 * k) ∷ []) (small s (2 * k) few) refl refl;
}

abbrev pub a_text : (Inline : ℕ → Spelling Tables) (s : Style) (g : Graph) (x : List ℕ) (t : Tables) → IsText x → Built (Text s x) t.words → Built (ValueBy Inline s g (leaf (text x))) t
a_text Inline s g x t h y = a_leaf Inline s g (text x) t h (record { fields = y.fields; after = y.after; spelled = y.spelled })

-- a node by its place
abbrev pub a_reference : (Inline : ℕ → Spelling Tables) (s : Style) (g : Graph) (i place : ℕ) (t : Tables) → slice_get t.nodes place ≡ Some i → 2 * place < 128 → Built (ValueBy Inline s g (node i)) t
a_reference Inline s g i place t there few = record {
  fields = marker_field (marker (node_at g i).head) ∷ header_field g t (marker (node_at g i).head) ((2 * place) ∷ []) ∷ [];
  after = t;
  spelled = inl (record { place = place; header = (2 * place) ∷ []; there = there; spelled = small s (2 * place) few; fields = refl; same = refl });
}

-- a node inline, with its pairs in the order of the wire
abbrev pub a_node : (n : ℕ) (s : Style) (g : Graph) (i : ℕ) (t : Tables) (pairs : List (List ℕ × Value)) (number : ℕ)
    → i < length g.nodes → Absent t.done i → Fits (node_at g i).head (node_at g i).names (node_at g i).values
    → by_name pairs ≡ by_name (node_at g i).names → Only s (pairs ≡ by_name (node_at g i).names) → AllNamed pairs → number < 128
    → Built (Then (Lifted (HeaderBy s (node_at g i).head (node_at g i).values number)) (Segments (SpellsIn n s g) s (segments_of (node_at g i).head pairs (node_at g i).values))) (add_node t i)
    → Built (SpellsIn (suc n) s g (node i)) t
a_node n s g i t pairs number there new fits same_names in_order all_named few body = record {
  fields = marker_field (marker (node_at g i).head) ∷ header_field g t (marker (node_at g i).head) (number ∷ []) ∷ body.fields;
  after = body.after;
  spelled = inr (record {
    there = there;
    new = new;
    fits = fits;
    pairs = pairs;
    same_names = same_names;
    in_order = in_order;
    named = all_named;
    number = number;
    header = number ∷ [];
    spelled = small s number few;
    rest = body.fields;
    fields = refl;
    behind = body.spelled;
  });
}

-- segments

abbrev pub no_segments : (R : Value → Spelling Tables) (s : Style) (t : Tables) → Built (Segments R s []) t
no_segments R s t = record { fields = []; after = t; spelled = (refl, refl) }

abbrev pub word_segment : (R : Value → Spelling Tables) (s : Style) (x : List ℕ) (ps : List Segment) (t : Tables) (a : Built (Text s x) t.words) → Built (Segments R s ps) (with_words t a.after) → Built (Segments R s (word x ∷ ps)) t
word_segment R s x ps t a b = let z : Built (Then (Lifted (Text s x)) (Segments R s ps)) t = both _ _ t (lifted (Text s x) t a) b in record { fields = z.fields; after = z.after; spelled = z.spelled }

abbrev pub value_segment : (R : Value → Spelling Tables) (s : Style) (v : Value) (ps : List Segment) (t : Tables) (a : Built (R v) t) → Built (Segments R s ps) a.after → Built (Segments R s (value v ∷ ps)) t
value_segment R s v ps t a b = let z : Built (Then (R v) (Segments R s ps)) t = both _ _ t a b in record { fields = z.fields; after = z.after; spelled = z.spelled }

-- texts that are not in a table

pub absent_nil : {X : Type 0} (x : X) → Absent [] x
absent_nil x k e = cc

pub absent_cons : {X : Type 0} (y : X) (ys : List X) (x : X) → y ≢ x → Absent ys x → Absent (y ∷ ys) x
absent_cons y ys x h a zero e = h (some_is e)
  where
    some_is : Some y ≡ Some x → y ≡ x
    some_is e = cc
absent_cons y ys x h a (suc k) e = a k e

pub unnamed : {X : Type 0} (bound : ℕ) (xs : List X) (x : X) → Absent xs x → NoPlaceBelow bound xs x
unnamed bound xs x a k l e = a k e

pub unnamed_zero : {X : Type 0} (xs : List X) (x : X) → NoPlaceBelow 0 xs x
unnamed_zero xs x k l e = absurd (omega arith)
