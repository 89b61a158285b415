-- The rows of packets and bodies.
use Rattle.std.proofs.Common.{◌≡◌, ℕ, false, true, List, [], ◌∷◌, ◌++◌, length, get_or, refl, ap, arith, inl, inr, pos}
use Rattle.std.specs.Prelude.{codes}
use Rattle.std.specs.Int.{to_be_bytes, w16, w32}
use Rattle.amf_io.specs.Field.{Field, field, contents, raw_kind, text_kind, u16_kind, u32_kind, no_refusal}
use Rattle.amf_wire.specs.Style.{Style, free, canonical}
use Rattle.amf_wire.specs.Text.{IsText}
use Rattle.amf_wire.proofs.TextTest.{is_text-is}
use Rattle.amf_graph.specs.Graph.{Graph, null, integer, text, leaf, node}
use Rattle.amf3_spelling.specs.Spells3.{InlineIn, SpellsIn, IsSpelling3}
use Rattle.amf3_spelling.specs.Tables.{no_tables}
use Rattle.amf3_spelling.specs.WorkedRows3.{alone}
use Rattle.amf3_spelling.proofs.Build.{Built, a_null, an_integer, absent_nil}
use Rattle.amf0_spelling.specs.declared.form.Form.TheVariants.{Plain}
use Rattle.amf0_spelling.specs.Lowered.{IsLoweringOf, ends}
use Rattle.amf0_spelling.specs.Segments0.{Short, marker0_field}
use Rattle.amf0_spelling.specs.Spells0.{SpellsIn0, Switched}
use Rattle.amf0_spelling.specs.Tables0.{Tables0, no_tables0, add_node0}
use Rattle.amf0_spelling.proofs.Build0.{a_leaf0, a_null0, a_switch, no_values, value_then}
use Rattle.amf0_spelling.proofs.NodeRows0.{array0}
use Rattle.amf_packet.specs.Packet.{Header, Beside, BodyBy, LengthBy, MustBy, HeaderBy, MessageBy, ListBy, VersionBy, version_refusal, call_fields}
use Rattle.amf_packet.specs.WorkedPackets.{hi, request, headed, Packets}

abbrev beside : (P Q : List Field → Type 0) (front back : List Field) → P front → Q back → Beside P Q (front ++ back)
beside P Q front back p q = (front, back, refl, p, q)

abbrev short_fields : List ℕ → List Field
short_fields x = field (u16_kind no_refusal) (to_be_bytes w16 (length x)) ∷ contents text_kind x

hi_text : IsText (codes "hi")
hi_text = (is_text-is (codes "hi")).0 refl

-- ["hi"] in AMF 0
abbrev hi_spelled : (s : Style) → Built (SpellsIn0 1 s hi false (node 0)) no_tables0
hi_spelled s =
    let t : Tables0 = add_node0 no_tables0 0 in
    let x : Built (SpellsIn0 0 s hi false (leaf (text (codes "hi")))) t =
    a_leaf0 0 s hi false (text (codes "hi")) t (record { fields = marker0_field false t 0x02 ∷ short_fields (codes "hi"); after = t; spelled = inl (short_fields (codes "hi"), (hi_text, omega arith, refl), refl, refl) }) in
    array0 0 s hi false 0 (leaf (text (codes "hi")) ∷ []) no_tables0 (omega arith) (absent_nil 0) refl (omega arith) (value_then (SpellsIn0 0 s hi) (leaf (text (codes "hi"))) [] t x (no_values (SpellsIn0 0 s hi) x.after))

free_hi : BodyBy free Plain hi (hi_spelled free).fields
free_hi = let x : Built (SpellsIn0 1 free hi false (node 0)) no_tables0 = hi_spelled free in (x.after, (1, x.spelled), refl)

low_hi : IsLoweringOf hi hi
low_hi = record { root = ends 0 refl refl; nodes = (record { head = refl; names = tt; values = (ends 0 refl refl, tt) }, tt) }

canonical_hi : BodyBy canonical Plain hi (hi_spelled canonical).fields
canonical_hi = let x : Built (SpellsIn0 1 canonical hi false (node 0)) no_tables0 = hi_spelled canonical in (hi, low_hi, (x.after, (1, x.spelled)))

abbrev length_fields : ℕ → List Field
length_fields n = field (u32_kind no_refusal) (to_be_bytes w32 n) ∷ []

target_is : Short (codes "echo.echo") (short_fields (codes "echo.echo"))
target_is = ((is_text-is (codes "echo.echo")).0 refl, omega arith, refl)

response_is : Short (codes "/1") (short_fields (codes "/1"))
response_is = ((is_text-is (codes "/1")).0 refl, omega arith, refl)

abbrev version_fields : ℕ → List Field
version_fields v = field (u16_kind version_refusal) (to_be_bytes w16 v) ∷ []

abbrev count_fields : ℕ → List Field
count_fields n = field (u16_kind no_refusal) (to_be_bytes w16 n) ∷ []

none : {X : Type 0} (P : X → List Field → Type 0) → ListBy P [] (count_fields 0 ++ [])
none P = (count_fields 0, [], refl, (omega arith, refl), refl)

abbrev one : {X : Type 0} (P : X → List Field → Type 0) (x : X) (fs : List Field) → P x fs → ListBy P (x ∷ []) (count_fields 1 ++ (fs ++ []))
one P x fs p = (count_fields 1, fs ++ [], refl, (omega arith, refl), (fs, [], refl, p, refl))

-- the request, with a length and a body
module _ (s : Style) (n : ℕ) (l : LengthBy s (length_fields n)) (fs : List Field) (b : BodyBy s Plain hi fs) where
  abbrev message_fields : List Field
  message_fields = short_fields (codes "echo.echo") ++ (short_fields (codes "/1") ++ (length_fields n ++ fs))

  message : MessageBy s (record { target = codes "echo.echo"; response = codes "/1"; body = record { form = Plain; graph = hi } }) message_fields
  message = beside (Short (codes "echo.echo")) _ (short_fields (codes "echo.echo")) _ target_is
      (beside (Short (codes "/1")) _ (short_fields (codes "/1")) _ response_is (beside (LengthBy s) (BodyBy s Plain hi) (length_fields n) fs l b))

  abbrev request_fields : List Field
  request_fields = version_fields 0 ++ ((count_fields 0 ++ []) ++ (count_fields 1 ++ (message_fields ++ [])))

  requested : (Beside (VersionBy 0) (Beside (ListBy (HeaderBy s) []) (ListBy (MessageBy s) request.messages))) request_fields
  requested = beside (VersionBy 0) _ (version_fields 0) _ (refl, refl)
      (beside (ListBy (HeaderBy s) []) _ (count_fields 0 ++ []) _ (none (HeaderBy s)) (one (MessageBy s) _ message_fields message))

abbrev null_spelled : Built (SpellsIn0 0 free (alone (leaf null)) false (leaf null)) no_tables0
null_spelled = a_null0 0 free (alone (leaf null)) false no_tables0

abbrev flag_fields : List Field
flag_fields = field (raw_kind 1) (7 ∷ []) ∷ []

abbrev header_fields : List Field
header_fields = short_fields (codes "h") ++ (flag_fields ++ (length_fields 0 ++ null_spelled.fields))

abbrev the_header : Header
the_header = record { name = codes "h"; must = true; body = record { form = Plain; graph = alone (leaf null) } }

header : HeaderBy free the_header header_fields
header = beside (Short (codes "h")) _ (short_fields (codes "h")) _ ((is_text-is (codes "h")).0 refl, omega arith, refl)
    (beside (MustBy free true) _ flag_fields _ (7, (omega arith, omega arith, tt), refl)
    (beside (LengthBy free) (BodyBy free Plain (alone (leaf null))) (length_fields 0) null_spelled.fields (0, omega arith, tt, refl) (null_spelled.after, (0, null_spelled.spelled), refl)))

abbrev null3 : (s : Style) → Built (SpellsIn 0 s (alone (leaf null)) (leaf null)) no_tables
null3 s = a_null (InlineIn 0 s (alone (leaf null))) s (alone (leaf null)) no_tables

abbrev five : Graph
five = alone (leaf (integer (pos 5)))

abbrev five3 : (s : Style) → Built (SpellsIn 0 s five (leaf (integer (pos 5)))) no_tables
five3 s = an_integer (InlineIn 0 s five) s five 5 no_tables (omega arith)

five_alone : (s : Style) → IsSpelling3 s five (five3 s).fields
five_alone s = let x : Built (SpellsIn 0 s five (leaf (integer (pos 5)))) no_tables = five3 s in (x.after, (0, x.spelled))

abbrev five_switched : Built (Switched false five (leaf (integer (pos 5)))) no_tables0
five_switched = let x : Built (SpellsIn 0 free five (leaf (integer (pos 5)))) no_tables = five3 free in a_switch five false (leaf (integer (pos 5))) no_tables0 (record { fields = x.fields; after = x.after; spelled = (0, x.spelled) })

no_call : (b : List ℕ) → 0x11 ∷ b ≡ 0x0A ∷ 0x00 ∷ 0x00 ∷ 0x00 ∷ 0x01 ∷ 0x11 ∷ [] → ⊥
no_call b e = let h : ◌≡◌ {A = ℕ} 0x11 0x0A = ap (λ l. get_or l 0 0) e in absurd (omega (arith, h))

pub packets : Packets
packets = record {
  plain_request = (request_fields free 0x0A (0x0A, omega arith, tt, refl) (hi_spelled free).fields free_hi, requested free 0x0A (0x0A, omega arith, tt, refl) (hi_spelled free).fields free_hi, refl);
  canonical_request = (request_fields canonical 0xFFFFFFFF (0xFFFFFFFF, omega arith, refl, refl) (hi_spelled canonical).fields canonical_hi, requested canonical 0xFFFFFFFF (0xFFFFFFFF, omega arith, refl, refl) (hi_spelled canonical).fields canonical_hi, refl);
  odd_flag = (
    version_fields 3 ++ ((count_fields 1 ++ (header_fields ++ [])) ++ (count_fields 0 ++ [])),
    beside (VersionBy 3) _ (version_fields 3) _ (refl, refl)
        (beside (ListBy (HeaderBy free) headed.headers) _ (count_fields 1 ++ (header_fields ++ [])) _ (one (HeaderBy free) the_header header_fields header) (none (MessageBy free))),
    refl,
  );
  free_call = (call_fields ++ (null3 free).fields, ((null3 free).fields, refl, ((null3 free).after, (0, (null3 free).spelled))), refl);
  canonical_call = (call_fields ++ (null3 canonical).fields, ((null3 canonical).fields, refl, ((null3 canonical).after, (0, (null3 canonical).spelled))), refl);
  free_amf3 = (five_switched.fields, (five_switched.after, (0, inr (tt, five_switched.spelled)), (refl, no_call _)), refl);
  canonical_amf3 = (marker0_field false no_tables0 0x11 ∷ (five3 canonical).fields, ((five3 canonical).fields, refl, five_alone canonical), refl);
}
