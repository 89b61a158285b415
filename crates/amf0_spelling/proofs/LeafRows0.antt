-- The rows of values that are no nodes.
use Rattle.std.proofs.Common.{◌≡◌, ℕ, ◌<◌, ◌≤◌, ◌^◌, false, true, List, [], ◌∷◌, ◌++◌, length, sym, refl, ap, ◌∙◌, arith, pos, inl, inr}
use Rattle.std.specs.Int.{to_be_bytes, w16, w32}
use Rattle.amf_io.specs.Field.{Kind, Field, field, flat, contents, raw_kind, text_kind, u16_kind, u32_kind, no_refusal}
use Rattle.amf_wire.specs.Style.{Style, free, canonical}
use Rattle.amf_wire.specs.Text.{IsText}
use Rattle.amf_wire.proofs.TextTest.{is_text-is}
use Rattle.amf_graph.specs.Graph.{Leaf, undefined, null, boolean, integer, double, text, leaf, Graph}
use Rattle.amf3_spelling.specs.Spells3.{InlineIn, SpellsIn}
use Rattle.amf3_spelling.specs.Tables.{no_tables}
use Rattle.amf3_spelling.specs.WorkedRows3.{alone}
use Rattle.amf3_spelling.proofs.Amf3Rows.{spelled_by}
use Rattle.amf3_spelling.proofs.Build.{Built, a_leaf, an_integer}
use Rattle.amf3_spelling.proofs.BytesOf.{flat_contents}
use Rattle.amf0_spelling.specs.Tables0.{no_tables0}
use Rattle.amf0_spelling.specs.Segments0.{marker0_field, LeafBy0}
use Rattle.amf0_spelling.specs.Spells0.{SpellsIn0, Spelled0, Switched}
use Rattle.amf0_spelling.specs.WorkedRows0.{the_a, five, Leaves0}
use Rattle.amf0_spelling.proofs.Build0.{spelled0_by, a_leaf0, a_null0, a_double0, a_switch}

pub a_text_is : IsText the_a
a_text_is = (is_text-is the_a).0 refl

-- a value alone
abbrev leaf_row : (s : Style) (x : Leaf) (b : Built (LeafBy0 s false x) no_tables0) → Built (SpellsIn0 0 s (alone (leaf x)) false (leaf x)) no_tables0
leaf_row s x b = a_leaf0 0 s (alone (leaf x)) false x no_tables0 b

abbrev mark : ℕ → Field
mark m = marker0_field false no_tables0 m

abbrev byte : ℕ → List Field
byte m = field (raw_kind 1) (m ∷ []) ∷ []

no_integer : (b : List ℕ) → Spelled0 canonical (alone (leaf (integer (pos 5)))) b → ⊥
no_integer b (fs, (t, (n, inl z)), e) = z
no_integer b (fs, (t, (n, inr z)), e) = z.0

an_integer0 : Spelled0 free (alone (leaf (integer (pos 5)))) (0x11 ∷ 0x04 ∷ 0x05 ∷ [])
an_integer0 =
    let g : Graph = alone (leaf (integer (pos 5))) in
    let x : Built (SpellsIn 0 free g (leaf (integer (pos 5)))) no_tables = an_integer (InlineIn 0 free g) free g 5 no_tables (omega arith) in
    let y : Built (Switched false g (leaf (integer (pos 5)))) no_tables0 = a_switch g false (leaf (integer (pos 5))) no_tables0 (record { fields = x.fields; after = x.after; spelled = (0, x.spelled) }) in
    spelled0_by 0 free g (record { fields = y.fields; after = y.after; spelled = inr (tt, y.spelled) })

text_row : (x : List ℕ) (b : Built (LeafBy0 canonical false (text x)) no_tables0) (k : Kind) (m : ℕ) (size : List ℕ) → b.fields ≡ mark m ∷ field k size ∷ contents text_kind x → Spelled0 canonical (alone (leaf (text x))) (m ∷ size ++ x)
text_row x b k m size e =
    let row : Built (SpellsIn0 0 canonical (alone (leaf (text x))) false (leaf (text x))) no_tables0 = leaf_row canonical (text x) b in
    (b.fields, (b.after, (0, row.spelled)), sym (ap flat e ∙ ap (λ w. m ∷ size ++ w) (flat_contents text_kind x)))

shorter_text : (x : List ℕ) → IsText x → length x < 2 ^ 16 → Spelled0 canonical (alone (leaf (text x))) (0x02 ∷ to_be_bytes w16 (length x) ++ x)
shorter_text x h l =
    let f : List Field = field (u16_kind no_refusal) (to_be_bytes w16 (length x)) ∷ contents text_kind x in
    text_row x (record { fields = mark 0x02 ∷ f; after = no_tables0; spelled = inl (f, (h, l, refl), refl, refl) }) (u16_kind no_refusal) 0x02 (to_be_bytes w16 (length x)) refl

longer_text : (x : List ℕ) → IsText x → 2 ^ 16 ≤ length x → length x < 2 ^ 32 → Spelled0 canonical (alone (leaf (text x))) (0x0C ∷ to_be_bytes w32 (length x) ++ x)
longer_text x h k l =
    let f : List Field = field (u32_kind no_refusal) (to_be_bytes w32 (length x)) ∷ contents text_kind x in
    text_row x (record { fields = mark 0x0C ∷ f; after = no_tables0; spelled = inr (k, (f, (h, l, refl), refl, refl)) }) (u32_kind no_refusal) 0x0C (to_be_bytes w32 (length x)) refl

pub leaves0 : Leaves0
leaves0 = record {
  a_null = spelled0_by 0 canonical (alone (leaf null)) (a_null0 0 canonical (alone (leaf null)) false no_tables0);
  an_undefined = spelled0_by 0 canonical (alone (leaf undefined)) (leaf_row canonical undefined (record { fields = mark 0x06 ∷ []; after = no_tables0; spelled = inl ([], refl, refl, refl) }));
  unsupported = spelled0_by 0 free (alone (leaf undefined)) (leaf_row free undefined (record { fields = mark 0x0D ∷ []; after = no_tables0; spelled = inr (tt, ([], refl, refl, refl)) }));
  undefined3 = spelled_by 0 canonical (alone (leaf undefined)) (a_leaf (InlineIn 0 canonical (alone (leaf undefined))) canonical (alone (leaf undefined)) undefined no_tables tt (record { fields = []; after = no_tables.words; spelled = (refl, refl) }));
  a_false = spelled0_by 0 canonical (alone (leaf (boolean false))) (leaf_row canonical (boolean false) (record { fields = mark 0x01 ∷ byte 0; after = no_tables0; spelled = (byte 0, (0, (refl, omega arith, omega arith), refl), refl, refl) }));
  a_true = spelled0_by 0 canonical (alone (leaf (boolean true))) (leaf_row canonical (boolean true) (record { fields = mark 0x01 ∷ byte 1; after = no_tables0; spelled = (byte 1, (1, (omega arith, omega arith, omega arith), refl), refl, refl) }));
  odd_true = spelled0_by 0 free (alone (leaf (boolean true))) (leaf_row free (boolean true) (record { fields = mark 0x01 ∷ byte 255; after = no_tables0; spelled = (byte 255, (255, (omega arith, omega arith, tt), refl), refl, refl) }));
  a_double = spelled0_by 0 canonical (alone (leaf (double five))) (a_double0 0 canonical (alone (leaf (double five))) false five no_tables0 (omega arith));
  a_text =
      let f : List Field = field (u16_kind no_refusal) (to_be_bytes w16 1) ∷ contents text_kind the_a in
      spelled0_by 0 canonical (alone (leaf (text the_a))) (leaf_row canonical (text the_a) (record { fields = mark 0x02 ∷ f; after = no_tables0; spelled = inl (f, (a_text_is, omega arith, refl), refl, refl) }));
  a_long_text =
      let f : List Field = field (u32_kind no_refusal) (to_be_bytes w32 1) ∷ contents text_kind the_a in
      spelled0_by 0 free (alone (leaf (text the_a))) (leaf_row free (text the_a) (record { fields = mark 0x0C ∷ f; after = no_tables0; spelled = inr (tt, (f, (a_text_is, omega arith, refl), refl, refl)) }));
  shorter_text = shorter_text;
  longer_text = longer_text;
  an_integer = an_integer0;
  no_integer = no_integer;
}
