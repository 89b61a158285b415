-- The layouts of a shared object file can be completed, and grow with fuel.
use Rattle.std.proofs.Common.{◌≡◌, ℕ, zero, suc, ◌≤◌, false, List, [], ◌∷◌, refl, arith}
use Rattle.std.specs.Int.{from_be_bytes, w16}
use Rattle.amf_io.specs.Field.{text_kind, u16_kind, u32_kind, no_refusal}
use Rattle.amf_io.specs.Layout.{give, want, bind, Extends}
use Rattle.amf_io.proofs.Ables.{AbleWithin, able_give, able_bind}
use Rattle.amf_io.proofs.Paths.{extends_bind, extends_same}
use Rattle.amf3_layout_laws.specs.Layout3Words.{chunk, text_layout}
use Rattle.amf3_layout_laws.specs.Layout3.{value_layout}
use Rattle.amf3_layout_laws.proofs.Layout3Able.{able_text, value_able}
use Rattle.amf3_layout_laws.proofs.Layout3Fills.{Filled, text_filled, able_field, able_chunk}
use Rattle.amf3_layout_laws.proofs.Layout3Grows.{value_grows}
use Rattle.amf0_layout_laws.specs.Layout0.{new_text0, short_layout, value0_layout}
use Rattle.amf0_layout_laws.specs.Layout0State.{State0, in_amf3}
use Rattle.amf0_layout_laws.proofs.Layout0Able.{value0_able}
use Rattle.amf0_layout_laws.proofs.Layout0Grows.{value0_grows}
use Rattle.amf_sol.specs.declared.sol_version.SolVersion.{SolVersion}
use Rattle.amf_sol.specs.declared.sol_version.SolVersion.TheVariants.{Amf0, Amf3}
use Rattle.amf_sol.specs.SharedObject.{signature, second_signature, padding, pair_end, version_kind}
use Rattle.amf_sol.specs.FileLayout.{FileState, file, no_pairs, version_of, behind_name, head_layout, with_pair, behind_pair, pair_by, pair_layout}
use Rattle.amf_io.specs.Repeated.{steps, after_head}

u16_filled : Filled (u16_kind no_refusal)
u16_filled = record { bytes = 0 ∷ 0 ∷ []; is_whole = refl; clean = refl; are_bytes = (omega arith, (omega arith, tt)) }

u32_filled : Filled (u32_kind no_refusal)
u32_filled = record { bytes = 0 ∷ 0 ∷ 0 ∷ 0 ∷ []; is_whole = refl; clean = refl; are_bytes = (omega arith, (omega arith, (omega arith, (omega arith, tt)))) }

signature_filled : Filled signature.kind
signature_filled = record { bytes = 0x00 ∷ 0xBF ∷ []; is_whole = refl; clean = refl; are_bytes = (omega arith, (omega arith, tt)) }

second_filled : Filled second_signature.kind
second_filled = record {
  bytes = 0x54 ∷ 0x43 ∷ 0x53 ∷ 0x4F ∷ 0x00 ∷ 0x04 ∷ 0x00 ∷ 0x00 ∷ 0x00 ∷ 0x00 ∷ [];
  is_whole = refl;
  clean = refl;
  are_bytes = (omega arith, (omega arith, (omega arith, (omega arith, (omega arith, (omega arith, (omega arith, (omega arith, (omega arith, (omega arith, tt))))))))));
}

padding_filled : Filled padding.kind
padding_filled = record { bytes = 0 ∷ 0 ∷ 0 ∷ []; is_whole = refl; clean = refl; are_bytes = (omega arith, (omega arith, (omega arith, tt))) }

version_filled : Filled version_kind
version_filled = record { bytes = 0 ∷ []; is_whole = refl; clean = refl; are_bytes = (omega arith, tt) }

end_filled : Filled pair_end.kind
end_filled = record { bytes = 0 ∷ []; is_whole = refl; clean = refl; are_bytes = (omega arith, tt) }

able_short : (N : ℕ) (s : State0) → AbleWithin N (short_layout s)
able_short N s = able_field N (u16_kind no_refusal) (λ b. chunk text_kind (from_be_bytes w16 b) (λ x. give (new_text0 s x))) u16_filled (λ b w ok. able_chunk N text_kind (from_be_bytes w16 b) (new_text0 s) (λ j e. text_filled j))

able_head : (N : ℕ) → AbleWithin N head_layout
able_head N =
    able_field N signature.kind (λ fixed. want (u32_kind no_refusal) (λ size. want second_signature.kind (λ fixed. bind (short_layout no_pairs) (λ x. behind_name x.bytes)))) signature_filled
    (λ a w ok. able_field N (u32_kind no_refusal) (λ size. want second_signature.kind (λ fixed. bind (short_layout no_pairs) (λ x. behind_name x.bytes))) u32_filled
    (λ b w ok. able_field N second_signature.kind (λ fixed. bind (short_layout no_pairs) (λ x. behind_name x.bytes)) second_filled
    (λ c w ok. able_bind N (short_layout no_pairs) (λ x. behind_name x.bytes) (able_short N no_pairs)
    (λ x. able_field N padding.kind (λ zeros. want version_kind (λ b. give (file (version_of b) x.bytes no_pairs))) padding_filled
    (λ d w ok. able_field N version_kind (λ b. give (file (version_of b) x.bytes no_pairs)) version_filled (λ e w ok. able_give N (file (version_of e) x.bytes no_pairs)))))))

able_behind : (N : ℕ) (version : SolVersion) (name : List ℕ) (s : State0) → AbleWithin N (behind_pair version name s)
able_behind N version name s = able_field N pair_end.kind (λ zero. give (file version name s)) end_filled (λ b w ok. able_give N (file version name s))

pub able_pair : (N : ℕ) (version : SolVersion) (name : List ℕ) (s : State0) → AbleWithin N (pair_by version N name s)
able_pair N Amf0 name s =
    able_bind N (short_layout s) (λ x. bind (value0_layout N false x.state) (λ v. behind_pair Amf0 name (with_pair x.id v.value v.state))) (able_short N s)
    (λ x. able_bind N (value0_layout N false x.state) (λ v. behind_pair Amf0 name (with_pair x.id v.value v.state)) (value0_able N false x.state) (λ v. able_behind N Amf0 name (with_pair x.id v.value v.state)))
able_pair N Amf3 name s =
    able_bind N (text_layout s.amf3) (λ x. bind (value_layout N x.state) (λ v. behind_pair Amf3 name (with_pair x.id v.value (in_amf3 s v.state)))) (able_text N s.amf3)
    (λ x. able_bind N (value_layout N x.state) (λ v. behind_pair Amf3 name (with_pair x.id v.value (in_amf3 s v.state))) (value_able N x.state) (λ v. able_behind N Amf3 name (with_pair x.id v.value (in_amf3 s v.state))))

able_steps : (N m : ℕ) (f : FileState) → AbleWithin N (steps (pair_layout N) m f)
able_steps N zero f = able_give N f
able_steps N (suc m) f = able_bind N (pair_layout N f) (λ u. steps (pair_layout N) m u) (able_pair N f.version f.name f.state) (λ u. able_steps N m u)

pub file_able : (N m : ℕ) → AbleWithin N (after_head head_layout (pair_layout N) m)
file_able N m = able_bind N head_layout (λ f. steps (pair_layout N) m f) (able_head N) (λ f. able_steps N m f)

pair_grows : (n k : ℕ) → n ≤ k → (version : SolVersion) (name : List ℕ) (s : State0) → Extends (pair_by version n name s) (pair_by version k name s)
pair_grows n k le Amf0 name s =
    extends_bind (short_layout s) (short_layout s) (λ x. bind (value0_layout n false x.state) (λ v. behind_pair Amf0 name (with_pair x.id v.value v.state))) (λ x. bind (value0_layout k false x.state) (λ v. behind_pair Amf0 name (with_pair x.id v.value v.state))) (extends_same (short_layout s))
    (λ x. extends_bind (value0_layout n false x.state) (value0_layout k false x.state) (λ v. behind_pair Amf0 name (with_pair x.id v.value v.state)) (λ v. behind_pair Amf0 name (with_pair x.id v.value v.state)) (value0_grows n k le false x.state)
    (λ v. extends_same (behind_pair Amf0 name (with_pair x.id v.value v.state))))
pair_grows n k le Amf3 name s =
    extends_bind (text_layout s.amf3) (text_layout s.amf3) (λ x. bind (value_layout n x.state) (λ v. behind_pair Amf3 name (with_pair x.id v.value (in_amf3 s v.state)))) (λ x. bind (value_layout k x.state) (λ v. behind_pair Amf3 name (with_pair x.id v.value (in_amf3 s v.state)))) (extends_same (text_layout s.amf3))
    (λ x. extends_bind (value_layout n x.state) (value_layout k x.state) (λ v. behind_pair Amf3 name (with_pair x.id v.value (in_amf3 s v.state))) (λ v. behind_pair Amf3 name (with_pair x.id v.value (in_amf3 s v.state))) (value_grows n k le x.state)
    (λ v. extends_same (behind_pair Amf3 name (with_pair x.id v.value (in_amf3 s v.state)))))

steps_grow : (n k : ℕ) → n ≤ k → (m : ℕ) (f : FileState) → Extends (steps (pair_layout n) m f) (steps (pair_layout k) m f)
steps_grow n k le zero f = refl
steps_grow n k le (suc m) f = extends_bind (pair_layout n f) (pair_layout k f) (λ u. steps (pair_layout n) m u) (λ u. steps (pair_layout k) m u) (pair_grows n k le f.version f.name f.state) (λ u. steps_grow n k le m u)

pub file_grows : (n k : ℕ) → n ≤ k → (m : ℕ) → Extends (after_head head_layout (pair_layout n) m) (after_head head_layout (pair_layout k) m)
file_grows n k le m = extends_bind head_layout head_layout (λ f. steps (pair_layout n) m f) (λ f. steps (pair_layout k) m f) (extends_same head_layout) (λ f. steps_grow n k le m f)

pair_takes : (n : ℕ) (version : SolVersion) (name : List ℕ) (s : State0) (x : FileState) → pair_by version n name s ≡ give x → ⊥
pair_takes n Amf0 name s x e = cc
pair_takes n Amf3 name s x e = cc

pub file_takes : (n : ℕ) (f x : FileState) → pair_layout n f ≡ give x → ⊥
file_takes n f x e = pair_takes n f.version f.name f.state x e
