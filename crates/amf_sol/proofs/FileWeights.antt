-- What a file holds weighs no more than its bytes: each pair takes more of them than it adds to the weight of the arena.
use Rattle.std.proofs.Common.{◌≡◌, ℕ, zero, suc, ◌+◌, ◌≤◌, ◌<◌, ◌⊎◌, inl, inr, false, List, [], length, refl, ap, arith}
use Rattle.std.proofs.lemmas.Bool.{cases_lt}
use Rattle.std.proofs.lemmas.List.{set_past}
use Rattle.std.specs.Int.{from_be_bytes, w16}
use Rattle.amf_io.specs.Field.{Field, flat, text_kind, u16_kind, no_refusal}
use Rattle.amf_io.specs.Layout.{give, bind, Runs}
use Rattle.amf_graph.specs.declared.value.Value.{Value as Stored}
use Rattle.amf_graph.specs.Arena.{Arena, StoredNode}
use Rattle.amf_graph.specs.Bounds.{weight}
use Rattle.amf_graph.specs.Building.{stored_at, changed, more_name, shut}
use Rattle.amf3_layout_laws.specs.Layout3.{ValueRead, value_layout}
use Rattle.amf3_layout_laws.specs.Layout3Words.{TextRead, chunk, text_layout}
use Rattle.amf3_layout_laws.proofs.Reader3Costs.{value_costs}
use Rattle.amf3_layout_laws.proofs.Reader3OpeningCosts.{Costs, costs_give, costs_want, costs_bind, costs_text}
use Rattle.amf3_layout_laws.proofs.Reader3Weight.{weight_text, weight_more_name, weight_shut}
use Rattle.amf0_spelling.specs.KeptTables0.{KeptTables0}
use Rattle.amf0_layout_laws.specs.Layout0.{TextRead0, ValueRead0, new_text0, short_layout, value0_layout}
use Rattle.amf0_layout_laws.specs.Layout0State.{State0, state0_of, in_amf3}
use Rattle.amf0_read.proofs.Costs0.{value0_costs}
use Rattle.amf_sol.specs.declared.sol_version.SolVersion.{SolVersion}
use Rattle.amf_sol.specs.declared.sol_version.SolVersion.TheVariants.{Amf0, Amf3}
use Rattle.amf_sol.specs.SharedObject.{pair_end}
use Rattle.amf_sol.specs.FileLayout.{FileState, file, holder_arena, no_pairs, with_pair, behind_pair, pair_by, pair_layout}
use Rattle.amf_sol.specs.FileReading.{closed_holder}
use Rattle.amf_io.specs.Repeated.{steps}

abbrev size : State0 → ℕ
size s = weight s.amf3.arena

abbrev file_size : FileState → ℕ
file_size f = size f.state

-- a node changes in its place, or there is none
in_place : (f : StoredNode → StoredNode) (k : ℕ) → ((i : ℕ) (a : Arena) → i < length a.nodes → weight (changed f i a) ≡ weight a + k) → (i : ℕ) (a : Arena) → weight (changed f i a) ≤ weight a + k
in_place f k h i a = by (cases_lt i (length a.nodes))
  where
    by : (i < length a.nodes) ⊎ (length a.nodes ≤ i) → weight (changed f i a) ≤ weight a + k
    by (inl lt) = omega (arith, h i a lt)
    by (inr le) = omega (arith, ap (λ ns. weight (record { texts = a.texts; traits = a.traits; nodes = ns })) (set_past a.nodes i (f (stored_at a i)) le))

pair_added : (x : ℕ) (v : Stored) (s : State0) → size (with_pair x v s) ≤ size s + 1
pair_added x v s = in_place (more_name x v) 1 (weight_more_name x v) 0 s.amf3.arena

-- a name takes a byte more than it has
abbrev name_size : TextRead0 → ℕ
name_size x = size x.state + 1

costs_name : (s : State0) → Costs name_size (size s) (short_layout s)
costs_name s = costs_want name_size (size s) (u16_kind no_refusal) (λ b. chunk text_kind (from_be_bytes w16 b) (λ x. give (new_text0 s x))) (λ b some. by (size s + length b) (from_be_bytes w16 b) (omega arith))
  where
    by : (c n : ℕ) → size s + 1 ≤ c → Costs name_size c (chunk text_kind n (λ x. give (new_text0 s x)))
    by c zero le = costs_give name_size c (new_text0 s []) (omega (arith, weight_text s.amf3.arena []))
    by c (suc n) le = costs_want name_size c (text_kind (suc n)) (λ x. give (new_text0 s x)) (λ b some. costs_give name_size (c + length b) (new_text0 s b) (omega (arith, weight_text s.amf3.arena b)))

costs_end : (version : SolVersion) (name : List ℕ) (s : State0) (c : ℕ) → size s ≤ c + 1 → Costs file_size c (behind_pair version name s)
costs_end version name s c le = costs_want file_size c pair_end.kind (λ zero. give (file version name s)) (λ b some. costs_give file_size (c + length b) (file version name s) (omega arith))

costs_pair : (version : SolVersion) (n : ℕ) (name : List ℕ) (s : State0) → Costs file_size (size s) (pair_by version n name s)
costs_pair Amf0 n name s =
    costs_bind name_size file_size (size s) (short_layout s) (λ x. bind (value0_layout n false x.state) (λ v. behind_pair Amf0 name (with_pair x.id v.value v.state))) (costs_name s)
    (λ x. costs_bind (λ (v : ValueRead0). size v.state) file_size (name_size x) (value0_layout n false x.state) (λ v. behind_pair Amf0 name (with_pair x.id v.value v.state)) (λ fs v r. omega (arith, value0_costs n false x.state fs v r))
    (λ v. costs_end Amf0 name (with_pair x.id v.value v.state) (size v.state) (pair_added x.id v.value v.state)))
costs_pair Amf3 n name s =
    costs_bind (λ (x : TextRead). weight x.state.arena + 1) file_size (size s) (text_layout s.amf3) (λ x. bind (value_layout n x.state) (λ v. behind_pair Amf3 name (with_pair x.id v.value (in_amf3 s v.state)))) (costs_text s.amf3)
    (λ x. costs_bind (λ (v : ValueRead). weight v.state.arena) file_size (weight x.state.arena + 1) (value_layout n x.state) (λ v. behind_pair Amf3 name (with_pair x.id v.value (in_amf3 s v.state))) (λ fs v r. omega (arith, value_costs n x.state fs v r))
    (λ v. costs_end Amf3 name (with_pair x.id v.value (in_amf3 s v.state)) (weight v.state.arena) (pair_added x.id v.value (in_amf3 s v.state))))

costs_pairs : (n m : ℕ) (f : FileState) → Costs file_size (file_size f) (steps (pair_layout n) m f)
costs_pairs n zero f = costs_give file_size (file_size f) f (omega arith)
costs_pairs n (suc m) f = costs_bind file_size file_size (file_size f) (pair_layout n f) (λ u. steps (pair_layout n) m u) (costs_pair f.version n f.name f.state) (λ u. costs_pairs n m u)

-- with the holder, which weighs three
pub holder_weighs : (n m : ℕ) (version : SolVersion) (name : List ℕ) (a : Arena) (t : KeptTables0) (fs : List Field) → Runs (steps (pair_layout n) m (file version name no_pairs)) fs (file version name (state0_of a t)) → weight (closed_holder a).arena ≤ 3 + length (flat fs)
holder_weighs n m version name a t fs r =
    let three : weight holder_arena ≡ 3 = refl in
    let pairs = costs_pairs n m (file version name no_pairs) fs (file version name (state0_of a t)) r in
    omega (arith, pairs, in_place shut 0 (λ i b lt. omega (arith, weight_shut i b lt)) 0 a)
