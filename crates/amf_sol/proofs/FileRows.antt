-- A file with one pair, and the same with a wrong length.
use Rattle.std.proofs.Common.{◌≡◌, ◌≢◌, ℕ, zero, suc, ◌<◌, true, false, List, [], ◌∷◌, ◌++◌, refl, arith, inl, inr}
use Rattle.std.specs.List.{AllByRecursion}
use Rattle.std.specs.Prelude.{codes}
use Rattle.amf_io.specs.Field.{Field, field, raw_kind}
use Rattle.amf_wire.specs.Style.{Style, free, canonical, Only}
use Rattle.amf_wire.proofs.TextTest.{is_text-is}
use Rattle.amf_graph.specs.Graph.{Value, Graph, leaf, node, boolean, node_at}
use Rattle.amf_graph.specs.Reached.{Holds}
use Rattle.amf_graph.proofs.Alls.{each_at}
use Rattle.amf_graph.proofs.Lists.{no_entry}
use Rattle.amf3_spelling.specs.Then.{Spelling, Then, Plain}
use Rattle.amf3_spelling.proofs.Build.{Built, both}
use Rattle.amf0_spelling.specs.Tables0.{Tables0}
use Rattle.amf0_spelling.specs.Segments0.{Short, marker0_field}
use Rattle.amf0_spelling.specs.Spells0.{Spells0, SpellsIn0}
use Rattle.amf0_spelling.specs.Lowered.{IsLoweringOf, ends}
use Rattle.amf0_spelling.proofs.Build0.{short, a_leaf0}
use Rattle.amf_sol.specs.declared.sol_version.SolVersion.TheVariants.{Amf0}
use Rattle.amf_sol.specs.SharedObject.{IsPairHolder, IsHolder, PairsBy, PairsOf, AfterLength, file_tables0, pair_end, second_signature, padding, version_field, signature, length_field}
use Rattle.amf_sol.specs.FileVerdict.{HasItsLength, IsWholeFile, bad_length}
use Rattle.amf_sol.specs.WorkedFiles.{holder_of, one_true, one_true_bytes, Files}

-- nothing holds the first node where no pair does
no_root : (pairs : List (List ℕ × Value)) → AllByRecursion (λ p. p.1 ≢ node 0) pairs → (j : ℕ) → Holds (node_at (holder_of pairs) j) (node 0) → ⊥
no_root pairs all zero (inl (k, e)) = no_entry k (node 0) e
no_root pairs all zero (inr (k, x, e)) = each_at (λ p. p.1 ≢ node 0) pairs k (x, node 0) all e refl
no_root pairs all (suc zero) (inl (k, e)) = no_entry k (node 0) e
no_root pairs all (suc zero) (inr (k, x, e)) = no_entry k (x, node 0) e
no_root pairs all (suc (suc j)) (inl (k, e)) = no_entry k (node 0) e
no_root pairs all (suc (suc j)) (inr (k, x, e)) = no_entry k (x, node 0) e

pairs_held : (pairs : List (List ℕ × Value)) → IsPairHolder (holder_of pairs) 0
pairs_held pairs = record { root = refl; there = omega arith; head = refl; unsealed = refl }

the_a : List ℕ
the_a = 0x61 ∷ []

abbrev the_pairs : List (List ℕ × Value)
the_pairs = (0x61 ∷ [], leaf (boolean true)) ∷ []

abbrev the_holder : Graph
the_holder = holder_of the_pairs

held_one : IsHolder the_holder 0
held_one = record { pairs = pairs_held the_pairs; unheld = λ j r h. no_root the_pairs ((λ e. absurd cc), tt) j h }

-- the one pair
abbrev pairs_read : (s : Style) → Only s (1 < 2) → Built (PairsBy (λ x. Plain (Short x)) (Spells0 s the_holder) the_pairs) (file_tables0 0)
pairs_read s h =
    let t : Tables0 = file_tables0 0 in
    let N : List ℕ → Spelling Tables0 = λ x. Plain (Short x) in
    let R : Value → Spelling Tables0 = Spells0 s the_holder in
    let x : Built (N (0x61 ∷ [])) t = short (0x61 ∷ []) ((is_text-is (0x61 ∷ [])).0 refl) (omega arith) t in
    let byte : List Field = field (raw_kind 1) (1 ∷ []) ∷ [] in
    let z : Built (SpellsIn0 0 s the_holder false (leaf (boolean true))) t = a_leaf0 0 s the_holder false (boolean true) t (record { fields = marker0_field false t 0x01 ∷ byte; after = t; spelled = (byte, (1, (omega arith, omega arith, h), refl), refl, refl) }) in
    let y : Built (R (leaf (boolean true))) t = record { fields = z.fields; after = z.after; spelled = (0, z.spelled) } in
    let e : Built (Plain (λ fs. fs ≡ pair_end ∷ [])) t = record { fields = pair_end ∷ []; after = t; spelled = (refl, refl) } in
    let end : Built (PairsBy N R []) t = record { fields = []; after = t; spelled = (refl, refl) } in
    let w : Built (Then (N (0x61 ∷ [])) (Then (R (leaf (boolean true))) (Then (Plain (λ fs. fs ≡ pair_end ∷ [])) (PairsBy N R [])))) t = both _ _ t x (both _ _ t y (both _ _ t e end)) in
    record { fields = w.fields; after = w.after; spelled = w.spelled }

pairs_free : PairsOf free Amf0 the_holder (pairs_read free tt).fields
pairs_free = record { holder = 0; is_holder = pairs_held the_pairs; pairs = the_pairs; same_names = refl; in_order = tt; spelled = ((pairs_read free tt).after, (pairs_read free tt).spelled) }

pairs_canonical : PairsOf canonical Amf0 the_holder (pairs_read canonical (omega arith)).fields
pairs_canonical = record { holder = 0; is_holder = pairs_held the_pairs; pairs = the_pairs; same_names = refl; in_order = refl; spelled = ((pairs_read canonical (omega arith)).after, (pairs_read canonical (omega arith)).spelled) }

lowering : IsLoweringOf the_holder the_holder
lowering = record { root = ends 0 refl refl; nodes = (record { head = refl; names = ((refl, ends 0 refl refl), tt); values = tt }, (record { head = refl; names = tt; values = tt }, tt)) }

abbrev behind : List Field → List Field
behind pairs = second_signature ∷ (short (codes "t") ((is_text-is (codes "t")).0 refl) (omega arith) (file_tables0 0)).fields ++ padding ∷ version_field Amf0 ∷ pairs

after_canonical : AfterLength canonical one_true (behind (pairs_read canonical (omega arith)).fields)
after_canonical = record {
  name = (short (codes "t") ((is_text-is (codes "t")).0 refl) (omega arith) (file_tables0 0)).fields;
  pairs = (pairs_read canonical (omega arith)).fields;
  named = (short (codes "t") ((is_text-is (codes "t")).0 refl) (omega arith) (file_tables0 0)).spelled.0;
  held = ((0, held_one), the_holder, lowering, pairs_canonical);
  fields = refl;
}

after_free : AfterLength free one_true (behind (pairs_read free tt).fields)
after_free = record {
  name = (short (codes "t") ((is_text-is (codes "t")).0 refl) (omega arith) (file_tables0 0)).fields;
  pairs = (pairs_read free tt).fields;
  named = (short (codes "t") ((is_text-is (codes "t")).0 refl) (omega arith) (file_tables0 0)).spelled.0;
  held = pairs_free;
  fields = refl;
}

right_size : IsWholeFile 0 67108864 (one_true_bytes 0x17)
right_size = record { fields = signature ∷ length_field 0x17 ∷ behind (pairs_read free tt).fields; accepted = (one_true, record { size = 0x17; rest = behind (pairs_read free tt).fields; in_bits = omega arith; right = tt; behind = after_free; fields = refl }); parts = refl; place = refl; within = omega arith }

wrong_size : IsWholeFile 0 67108864 (one_true_bytes 0x18)
wrong_size = record { fields = signature ∷ length_field 0x18 ∷ behind (pairs_read free tt).fields; accepted = (one_true, record { size = 0x18; rest = behind (pairs_read free tt).fields; in_bits = omega arith; right = tt; behind = after_free; fields = refl }); parts = refl; place = refl; within = omega arith }

wrong : HasItsLength (one_true_bytes 0x18) → ⊥
wrong e = let h : ◌≡◌ {A = ℕ} 24 23 = e in absurd (omega arith)

pub files : Files
files = record {
  one_true = (signature ∷ length_field 0x17 ∷ behind (pairs_read canonical (omega arith)).fields, record { size = 0x17; rest = behind (pairs_read canonical (omega arith)).fields; in_bits = omega arith; right = refl; behind = after_canonical; fields = refl }, refl);
  accepted = (right_size, refl);
  wrong_length = bad_length refl refl wrong_size wrong;
}
