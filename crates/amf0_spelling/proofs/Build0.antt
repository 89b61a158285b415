-- Spellings of AMF 0 put together from their parts: the fields and the tables behind them come out.
use Rattle.std.proofs.Common.{◌≡◌, ℕ, suc, ◌<◌, ◌^◌, Bool, true, false, List, [], ◌∷◌, length, slice_get, Some, refl, arith, inl, inr}
use Rattle.std.specs.Int.{to_be_bytes, w16, w64}
use Rattle.amf_io.specs.Field.{Field, field, flat, contents, raw_kind, text_kind, u16_kind, no_refusal}
use Rattle.amf_wire.specs.Style.{Style, free}
use Rattle.amf_wire.specs.Text.{IsText}
use Rattle.amf_graph.specs.Graph.{Leaf, null, double, Value, leaf, node, Fits, Graph, node_at}
use Rattle.amf_graph.specs.Order.{Absent}
use Rattle.amf3_spelling.specs.Then.{Spelling, Then, Plain}
use Rattle.amf3_spelling.specs.Spells3.{Spells3}
use Rattle.amf3_spelling.proofs.Build.{Built, both}
use Rattle.amf0_spelling.specs.Tables0.{Tables0, no_tables0, switched_to}
use Rattle.amf0_spelling.specs.Refusals0.{index0_kind}
use Rattle.amf0_spelling.specs.Segments0.{marker0_field, Short, Marked0, LeafBy0, Values0, Pairs0, is_empty}
use Rattle.amf0_spelling.specs.Spells0.{NodeBy0, Switched, Spelled0, SpellsIn0}

abbrev pub spelled0_by : (n : ℕ) (s : Style) (g : Graph) (x : Built (SpellsIn0 n s g false g.root) no_tables0) → Spelled0 s g (flat x.fields)
spelled0_by n s g x = (x.fields, (x.after, (n, x.spelled)), refl)

abbrev pub plainly : (P : List Field → Type 0) (fs : List Field) → P fs → (t : Tables0) → Built (Plain P) t
plainly P fs p t = record { fields = fs; after = t; spelled = (p, refl) }

abbrev pub short : (x : List ℕ) → IsText x → length x < 2 ^ 16 → (t : Tables0) → Built (Plain (Short x)) t
short x h l t = plainly (Short x) (field (u16_kind no_refusal) (to_be_bytes w16 (length x)) ∷ contents text_kind x) (h, l, refl) t

pub no_name : IsText []
no_name = ([], tt, refl)

-- values

abbrev pub a_leaf0 : (n : ℕ) (s : Style) (g : Graph) (may_end : Bool) (x : Leaf) (t : Tables0) → Built (LeafBy0 s may_end x) t → Built (SpellsIn0 n s g may_end (leaf x)) t
a_leaf0 n s g may_end x t b = record { fields = b.fields; after = b.after; spelled = inl b.spelled }

abbrev pub a_null0 : (n : ℕ) (s : Style) (g : Graph) (may_end : Bool) (t : Tables0) → Built (SpellsIn0 n s g may_end (leaf null)) t
a_null0 n s g may_end t = a_leaf0 n s g may_end null t (record { fields = marker0_field may_end t 0x05 ∷ []; after = t; spelled = ([], refl, refl, refl) })

abbrev pub a_double0 : (n : ℕ) (s : Style) (g : Graph) (may_end : Bool) (p : ℕ) (t : Tables0) → p < 2 ^ 64 → Built (SpellsIn0 n s g may_end (leaf (double p))) t
a_double0 n s g may_end p t l =
    let eight : List Field = field (raw_kind 8) (to_be_bytes w64 p) ∷ [] in
    a_leaf0 n s g may_end (double p) t (record { fields = marker0_field may_end t 0x00 ∷ eight; after = t; spelled = (l, (eight, refl, refl, refl)) })

abbrev pub a_reference0 : (n : ℕ) (s : Style) (g : Graph) (may_end : Bool) (i place : ℕ) (t : Tables0) → slice_get t.nodes place ≡ Some i → place < 2 ^ 16 → Built (SpellsIn0 n s g may_end (node i)) t
a_reference0 n s g may_end i place t there l = record {
  fields = marker0_field may_end t 0x07 ∷ field (index0_kind (length t.nodes)) (to_be_bytes w16 place) ∷ [];
  after = t;
  spelled = inl (inl (record { place = place; there = there; in_bits = l; fields = refl; same = refl }));
}

abbrev pub a_node0 : (n : ℕ) (s : Style) (g : Graph) (may_end : Bool) (i : ℕ) (t : Tables0) (m : ℕ) → i < length g.nodes → Absent t.amf3.done i → Fits (node_at g i).head (node_at g i).names (node_at g i).values
    → Built (NodeBy0 (SpellsIn0 n s g) s i (node_at g i).head (node_at g i).names (node_at g i).values m) t → Built (SpellsIn0 (suc n) s g may_end (node i)) t
a_node0 n s g may_end i t m there new fits b = record {
  fields = marker0_field may_end t m ∷ b.fields;
  after = b.after;
  spelled = inl (inr (record { there = there; new = new; fits = fits; marker = m; rest = b.fields; fields = refl; behind = b.spelled }));
}

-- values one after the other

abbrev pub no_values : (R : Bool → Value → Spelling Tables0) (t : Tables0) → Built (Values0 R []) t
no_values R t = record { fields = []; after = t; spelled = (refl, refl) }

abbrev pub value_then : (R : Bool → Value → Spelling Tables0) (v : Value) (vs : List Value) (t : Tables0) (a : Built (R false v) t) → Built (Values0 R vs) a.after → Built (Values0 R (v ∷ vs)) t
value_then R v vs t a b = let z : Built (Then (R false v) (Values0 R vs)) t = both _ _ t a b in record { fields = z.fields; after = z.after; spelled = z.spelled }

-- pairs

abbrev pub no_pairs : (R : Bool → Value → Spelling Tables0) (t : Tables0) → Built (Pairs0 R []) t
no_pairs R t =
    let last : Built (Marked0 true 0x09 (λ rest. rest ≡ [])) t = record { fields = marker0_field true t 0x09 ∷ []; after = t; spelled = ([], refl, refl, refl) } in
    let z : Built (Then (Plain (Short [])) (Marked0 true 0x09 (λ rest. rest ≡ []))) t = both _ _ t (short [] no_name (omega arith) t) last in
    record { fields = z.fields; after = z.after; spelled = z.spelled }

abbrev pub pair_then : (R : Bool → Value → Spelling Tables0) (x : List ℕ) (v : Value) (ps : List (List ℕ × Value)) (t : Tables0) → IsText x → length x < 2 ^ 16 → (a : Built (R (is_empty x) v) t) → Built (Pairs0 R ps) a.after → Built (Pairs0 R ((x, v) ∷ ps)) t
pair_then R x v ps t h l a b =
    let tail : Built (Then (R (is_empty x) v) (Pairs0 R ps)) t = both _ _ t a b in
    let z : Built (Then (Plain (Short x)) (Then (R (is_empty x) v) (Pairs0 R ps))) t = both _ _ t (short x h l t) tail in
    record { fields = z.fields; after = z.after; spelled = z.spelled }

-- AMF 3 behind a marker
abbrev pub a_switch : (g : Graph) (may_end : Bool) (v : Value) (t : Tables0) → Built (Spells3 free g v) t.amf3 → Built (Switched may_end g v) t
a_switch g may_end v t b = record { fields = marker0_field may_end t 0x11 ∷ b.fields; after = switched_to t b.after; spelled = record { rest = b.fields; after = b.after; fields = refl; spelled = b.spelled; tables = refl } }
