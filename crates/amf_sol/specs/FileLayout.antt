-- A shared object file as it is read, field by field. A device by which verdicts are proved: no spelling needs it.
use Rattle.std.specs.Prelude.{◌≡◌, ℕ, true, false, List, [], ◌∷◌, length, ◌==◌, if◌then◌else◌, slice_index}
use Rattle.amf_io.specs.Field.{Field, u32_kind, no_refusal}
use Rattle.amf_io.specs.Layout.{Layout, give, want, bind}
use Rattle.amf_wire.specs.Style.{free}
use Rattle.amf_graph.specs.declared.value.Value.{Value as Stored}
use Rattle.amf_graph.specs.Arena.{Arena, object}
use Rattle.amf_graph.specs.Building.{more_name}
use Rattle.amf3_layout_laws.specs.Layout3Words.{text_layout}
use Rattle.amf3_layout_laws.specs.Layout3.{value_layout}
use Rattle.amf0_spelling.specs.KeptTables0.{no_kept_tables0}
use Rattle.amf0_layout_laws.specs.Layout0State.{State0, state0_of, in_amf3, changed0}
use Rattle.amf0_layout_laws.specs.Layout0.{short_layout, value0_layout}
use Rattle.amf_sol.specs.declared.sol_version.SolVersion.{SolVersion}
use Rattle.amf_sol.specs.declared.sol_version.SolVersion.TheVariants.{Amf0, Amf3}
use Rattle.amf_sol.specs.SharedObject.{Shared, signature, second_signature, padding, version_kind, pair_end, PairsOf, SpellsFile}

pub record FileState : Type 0 where
  pub name : List ℕ
  pub version : SolVersion
  pub state : State0

-- a holder without pairs, open, as the only node
abbrev pub holder_arena : Arena
holder_arena = record {
  texts = [] ∷ [];
  traits = record { class = 0; dynamic = true; sealed = [] } ∷ [];
  nodes = record { is_open = true; head = object 0; names = []; values = [] } ∷ [];
}

abbrev pub no_pairs : State0
no_pairs = state0_of holder_arena no_kept_tables0

abbrev pub file : SolVersion → List ℕ → State0 → FileState
file version name s = record { name = name; version = version; state = s }

abbrev pub version_of : List ℕ → SolVersion
version_of b = if slice_index b 0 == 0 then Amf0 else Amf3

-- up to the first pair

abbrev pub behind_name : List ℕ → Layout FileState
behind_name name = want padding.kind (λ zeros. want version_kind (λ b. give (file (version_of b) name no_pairs)))

abbrev pub head_layout : Layout FileState
head_layout =
    want signature.kind (λ fixed. want (u32_kind no_refusal) (λ size.
    want second_signature.kind (λ fixed. bind (short_layout no_pairs) (λ x. behind_name x.bytes))))

-- a pair

abbrev pub with_pair : ℕ → Stored → State0 → State0
with_pair name value s = changed0 (more_name name value) 0 s

abbrev pub behind_pair : SolVersion → List ℕ → State0 → Layout FileState
behind_pair version name s = want pair_end.kind (λ zero. give (file version name s))

abbrev pub pair_by : SolVersion → ℕ → List ℕ → State0 → Layout FileState
pair_by Amf0 n name s = bind (short_layout s) (λ x. bind (value0_layout n false x.state) (λ v. behind_pair Amf0 name (with_pair x.id v.value v.state)))
pair_by Amf3 n name s = bind (text_layout s.amf3) (λ x. bind (value_layout n x.state) (λ v. behind_pair Amf3 name (with_pair x.id v.value (in_amf3 s v.state))))

abbrev pub pair_layout : ℕ → FileState → Layout FileState
pair_layout n f = pair_by f.version n f.name f.state

-- the accepted lists with so many pairs

abbrev pub pairs_in : (o : Shared) (fs : List Field) → SpellsFile free o fs → ℕ
pairs_in o fs s = let held : PairsOf free o.version o.holder s.behind.pairs = s.behind.held in length held.pairs

abbrev pub HasPairs : ℕ → List Field → Type 0
HasPairs m fs = (o : Shared) × (s : SpellsFile free o fs) × (pairs_in o fs s ≡ m)
