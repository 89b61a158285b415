-- The rows of lowering.
use Rattle.std.proofs.Common.{◌≡◌, ℕ, zero, suc, true, false, [], ◌∷◌, refl, arith, pos, negsuc, inr}
use Rattle.amf_wire.specs.Style.{free, canonical}
use Rattle.amf_wire.specs.Whole.{IsPatternOf}
use Rattle.amf_graph.specs.Graph.{integer, double, leaf, node, Graph}
use Rattle.amf3_spelling.specs.Spells3.{InlineIn, SpellsIn, Spelled3}
use Rattle.amf3_spelling.specs.Tables.{plain, Words, no_words, add_entry, Tables, no_tables, with_words, add_node}
use Rattle.amf3_spelling.specs.Words3.{Text}
use Rattle.amf3_spelling.proofs.Amf3Rows.{spelled_by}
use Rattle.amf3_spelling.proofs.Build.{Built, no_text, an_integer, absent_nil}
use Rattle.amf3_spelling.proofs.Forget.{forget_spelled3}
use Rattle.amf0_spelling.specs.Lowered.{wraps, unwrapped_times, ends, never_ends}
use Rattle.amf0_spelling.specs.Tables0.{Tables0, no_tables0, add_node0}
use Rattle.amf0_spelling.specs.Spells0.{Switched, SpellsIn0, Spelled0}
use Rattle.amf0_spelling.specs.WorkedRows0.{the_a, open_traits, member, array_of, five, five_bytes, proxies, Lowerings}
use Rattle.amf0_spelling.proofs.Build0.{spelled0_by, a_double0, a_switch, no_values, value_then}
use Rattle.amf0_spelling.proofs.LeafRows0.{a_text_is}
use Rattle.amf0_spelling.proofs.NodeRows0.{object0, object3, new_a, array0}

five_pattern : IsPatternOf five (pos 5)
five_pattern = record { exponent = 1025; fraction = 1125899906842624; in_bits = omega arith; pattern_is = refl; size_is = record { whole = omega arith; value = refl } }

least_pattern : IsPatternOf 0xC1B0000000000000 (negsuc 268435455)
least_pattern = record { exponent = 1051; fraction = 0; in_bits = omega arith; pattern_is = refl; size_is = record { whole = omega arith; value = refl } }

five_canonical : Spelled3 canonical (member [] the_a (leaf (integer (pos 5)))) (0x0A ∷ 0x0B ∷ 0x01 ∷ 0x03 ∷ 0x61 ∷ 0x04 ∷ 0x05 ∷ 0x01 ∷ [])
five_canonical =
    let g : Graph = member [] the_a (leaf (integer (pos 5))) in
    let w : Words = add_entry no_words (plain (open_traits [])) in
    let x : Built (Text canonical the_a) w = new_a w (absent_nil the_a) in
    let t : Tables = with_words (add_node no_tables 0) x.after in
    spelled_by 1 canonical g (object3 0 [] (leaf (integer (pos 5))) (no_text canonical no_words) x (an_integer (InlineIn 0 canonical g) canonical g 5 t (omega arith)) (no_text canonical t.words))

five_switched : Spelled0 free (array_of (leaf (integer (pos 5)) ∷ [])) (0x0A ∷ 0x00 ∷ 0x00 ∷ 0x00 ∷ 0x01 ∷ 0x11 ∷ 0x04 ∷ 0x05 ∷ [])
five_switched =
    let g : Graph = array_of (leaf (integer (pos 5)) ∷ []) in
    let t : Tables0 = add_node0 no_tables0 0 in
    let x : Built (SpellsIn 0 free g (leaf (integer (pos 5)))) t.amf3 = an_integer (InlineIn 0 free g) free g 5 t.amf3 (omega arith) in
    let y : Built (Switched false g (leaf (integer (pos 5)))) t = a_switch g false (leaf (integer (pos 5))) t (record { fields = x.fields; after = x.after; spelled = (0, x.spelled) }) in
    spelled0_by 1 free g (array0 0 free g false 0 (leaf (integer (pos 5)) ∷ []) no_tables0 (omega arith) (absent_nil 0) refl (omega arith)
    (value_then (SpellsIn0 0 free g) (leaf (integer (pos 5))) [] t (record { fields = y.fields; after = y.after; spelled = inr (tt, y.spelled) }) (no_values (SpellsIn0 0 free g) y.after)))

five_item : Spelled0 canonical (array_of (leaf (double five) ∷ [])) (0x0A ∷ 0x00 ∷ 0x00 ∷ 0x00 ∷ 0x01 ∷ 0x00 ∷ five_bytes)
five_item =
    let g : Graph = array_of (leaf (double five) ∷ []) in
    let t : Tables0 = add_node0 no_tables0 0 in
    spelled0_by 1 canonical g (array0 0 canonical g false 0 (leaf (double five) ∷ []) no_tables0 (omega arith) (absent_nil 0) refl (omega arith)
    (value_then (SpellsIn0 0 canonical g) (leaf (double five)) [] t (a_double0 0 canonical g false five t (omega arith)) (no_values (SpellsIn0 0 canonical g) t)))

for_ever : (n : ℕ) → (wraps proxies (unwrapped_times proxies n (node 0)) ≡ true) × (wraps proxies (unwrapped_times proxies n (node 1)) ≡ true)
for_ever zero = (refl, refl)
for_ever (suc n) = ((for_ever n).1, (for_ever n).0)

pub lowerings : Lowerings
lowerings = record {
  five_member3 = forget_spelled3 canonical (member [] the_a (leaf (integer (pos 5)))) _ five_canonical;
  five_lowered = record { root = ends 0 refl refl; nodes = (record { head = refl; names = ((refl, ends 0 refl (five, five_pattern, refl)), tt); values = tt }, tt) };
  five_member =
      let g : Graph = member [] the_a (leaf (double five)) in
      spelled0_by 1 canonical g (object0 0 the_a (leaf (double five)) a_text_is (omega arith) (a_double0 0 canonical g false five (add_node0 no_tables0 0) (omega arith)));
  five_switched = five_switched;
  item_lowered = record { root = ends 0 refl refl; nodes = (record { head = refl; names = tt; values = (ends 0 refl (five, five_pattern, refl), tt) }, tt) };
  five_item = five_item;
  least_integer = record { root = ends 0 refl (0xC1B0000000000000, least_pattern, refl); nodes = tt };
  sealed_first = record { root = ends 0 refl refl; nodes = (record { head = refl; names = ((refl, ends 0 refl refl), ((refl, ends 0 refl refl), tt)); values = tt }, tt) };
  two_wrappers = record {
    root = ends 2 refl refl;
    nodes = (
      record { head = refl; names = tt; values = (ends 1 refl refl, tt) },
      (record { head = refl; names = tt; values = (ends 0 refl refl, tt) }, (record { head = refl; names = tt; values = tt }, tt)),
    );
  };
  wrappers_for_ever = record {
    root = never_ends (λ n. (for_ever n).0) refl;
    nodes = (
      record { head = refl; names = tt; values = (never_ends (λ n. (for_ever n).1) refl, tt) },
      (record { head = refl; names = tt; values = (never_ends (λ n. (for_ever n).0) refl, tt) }, tt),
    );
  };
}
