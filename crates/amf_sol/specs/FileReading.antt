-- How a shared object file is read: the layouts of its parts, and what is answered of its pairs. A device by which verdicts are proved.
use Rattle.std.specs.Prelude.{◌≡◌, ℕ, suc, ◌<◌, false, List, [], ◌∷◌, ◌++◌, length, Result, Ok, Err}
use Rattle.std.specs.Int.{from_be_bytes, w16, w32}
use Rattle.amf_io.specs.declared.window.Window.{Window}
use Rattle.amf_io.specs.declared.cursor.Cursor.{Cursor}
use Rattle.amf_io.specs.declared.reason.Reason.{Reason}
use Rattle.amf_io.specs.declared.reason.Reason.TheVariants.{BadPadding}
use Rattle.amf_io.specs.declared.ends.ReadEnd.{ReadEnd}
use Rattle.amf_io.specs.declared.ends.ReadEnd.TheVariants.{Refused, ReadFault, Memory}
use Rattle.amf_io.specs.Cursor.{source_of, place, bound, unread}
use Rattle.amf_io.specs.CursorReads.{Answers}
use Rattle.amf_io.specs.Field.{Field, AreBytes, flat, text_kind, u16_kind, u32_kind, no_refusal}
use Rattle.amf_io.specs.Layout.{Layout, give, want, bind, Runs}
use Rattle.amf_io.specs.LayoutAnswer.{DoneBy, EndsBy}
use Rattle.amf_graph.specs.declared.value.Value.TheVariants.{Node as NodeRef}
use Rattle.amf_graph.specs.Arena.{Arena, head_content}
use Rattle.amf_graph.specs.Building.{changed, shut, stored_at}
use Rattle.amf_graph.specs.Rooted.{RootedArena}
use Rattle.amf3_spelling.specs.KeptTables.{KeptTables}
use Rattle.amf3_layout_laws.specs.Layout3Words.{chunk}
use Rattle.amf_wire_fields.specs.Room.{left_of}
use Rattle.amf3_read.specs.Filling.{IsOpened}
use Rattle.amf0_spelling.specs.KeptTables0.{KeptTables0}
use Rattle.amf0_layout_laws.specs.Layout0.{short_layout}
use Rattle.amf0_layout_laws.specs.Layout0State.{State0, state0_of}
use Rattle.amf_sol.specs.declared.sol_version.SolVersion.{SolVersion}
use Rattle.amf_sol.specs.declared.sol_version.SolVersion.TheVariants.{Amf0, Amf3}
use Rattle.amf_sol.specs.SharedObject.{exact_kind, holder_head, signature, second_signature, version_kind}
use Rattle.amf_sol.specs.FileLayout.{FileState, file, pair_by, no_pairs, version_of, behind_name, pair_layout}
use Rattle.amf_io.specs.Repeated.{steps}

-- Layouts of the parts.

-- just these bytes
abbrev pub exact_layout : Reason → List ℕ → Layout (Unit {0})
exact_layout reason bytes = want (exact_kind reason bytes) (λ fixed. give tt)

-- the signature, and the length
abbrev pub length_layout : Layout ℕ
length_layout = want signature.kind (λ fixed. want (u32_kind no_refusal) (λ b. give (from_be_bytes w32 b)))

abbrev pub name_layout : Layout (List ℕ)
name_layout = want (u16_kind no_refusal) (λ b. chunk text_kind (from_be_bytes w16 b) (λ x. give x))

abbrev pub version_layout : Layout SolVersion
version_layout = want version_kind (λ b. give (version_of b))

-- behind the length, up to the first pair
abbrev pub rest_layout : Layout FileState
rest_layout = want second_signature.kind (λ fixed. bind (short_layout no_pairs) (λ x. behind_name x.bytes))

-- the 0 behind a pair
abbrev pub end_layout : Layout (Unit {0})
end_layout = exact_layout BadPadding (0 ∷ [])

-- The tables of a file of AMF 3, as those of AMF 0 that name nothing else.
abbrev pub tables3 : KeptTables → KeptTables0
tables3 t = record { amf3 = t; nodes = []; switched = false }

-- the state that a builder and such tables are
abbrev pub state_in3 : Arena → KeptTables → State0
state_in3 a t = state0_of a (tables3 t)

-- tables for the pairs of this format: in a file of AMF 3 they name nothing of AMF 0
abbrev pub AreOfFormat : SolVersion → KeptTables0 → Type 0
AreOfFormat Amf0 t = Unit {0}
AreOfFormat Amf3 t = t ≡ tables3 t.amf3

-- The holder.

-- the first node is a holder that is still open; so many bytes to come cannot fill it
pub record IsOpenHolder (a : Arena) (left : ℕ) : Type 0 where
  pub opened : IsOpened a 0 left
  pub head : head_content a (stored_at a 0).head ≡ holder_head
  pub unsealed : (stored_at a 0).values ≡ []

-- the graph whose root is the holder, which is closed
abbrev pub closed_holder : Arena → RootedArena
closed_holder a = record { arena = changed shut 0 a; root = NodeRef (record { 0 = 0 }) }

-- What is answered of the pairs, up to the end of the input.

-- one pair came, by the state of the reader before and behind it
abbrev pub AnswersPair : {S : Type 0} → (S → Type 0) → (S → List ℕ) → SolVersion → State0 → State0 → Cursor S Window → Cursor S Window
    → Result (Unit {0}) ReadEnd → Type 0
AnswersPair tells left version old new c d result =
    (n : ℕ) (name : List ℕ) → left_of c < n → Answers tells left (λ done. file version name new) (pair_by version n name old) c d result

-- so many pairs came, up to the end where the source tells
pub record PairsTaken (told : Type 0) (version : SolVersion) (n : ℕ) (name : List ℕ) (a : Arena) (input rest : List ℕ) (at place limit : ℕ) : Type 0 where
  pub many : ℕ
  pub tables : KeptTables0
  pub done : DoneBy told (steps (pair_layout n) many (file version name no_pairs)) (file version name (state0_of a tables)) input rest at place limit
  pub ended : told → rest ≡ []

-- where the next pair is refused, it has a byte
abbrev pub GoesPast : Type 0 → List ℕ → List Field → ReadEnd → Type 0
GoesPast told input fs (Refused f) = told → (more : List ℕ) × (0 < length more) × (input ≡ flat fs ++ more)
GoesPast told input fs ReadFault = Unit {0}
GoesPast told input fs Memory = Unit {0}

-- so many pairs came, and the next one ends
pub record PairsEnded (told : Type 0) (version : SolVersion) (n : ℕ) (name : List ℕ) (input rest : List ℕ) (at limit : ℕ) (e : ReadEnd) : Type 0 where
  pub many : ℕ
  pub fields : List Field
  pub behind : FileState
  pub runs : Runs (steps (pair_layout n) many (file version name no_pairs)) fields behind
  pub bytes : AreBytes (flat fields)
  pub past : GoesPast told input fields e
  pub ends : EndsBy told (steps (pair_layout n) (suc many) (file version name no_pairs)) input rest at limit e

-- by the cursors before and behind them
abbrev pub AnswersPairs : {S : Type 0} → (S → Type 0) → (S → List ℕ) → SolVersion → ℕ → List ℕ → Arena → Cursor S Window → Cursor S Window
    → Result (Unit {0}) ReadEnd → Type 0
AnswersPairs tells left version n name a c d (Ok x) =
    PairsTaken (tells (source_of c).now) version n name a (unread left c) (unread left d) (place c) (place d) (bound c)
AnswersPairs tells left version n name a c d (Err e) = PairsEnded (tells (source_of c).now) version n name (unread left c) (unread left d) (place c) (bound c) e

-- the graph has the pairs, in a holder that is closed
pub record HolderTaken (told : Type 0) (version : SolVersion) (n : ℕ) (name : List ℕ) (g : RootedArena) (input rest : List ℕ) (at place limit : ℕ) : Type 0 where
  pub arena : Arena
  pub is : g ≡ closed_holder arena
  pub pairs : PairsTaken told version n name arena input rest at place limit

abbrev pub AnswersHolder : {S : Type 0} → (S → Type 0) → (S → List ℕ) → SolVersion → ℕ → List ℕ → Cursor S Window → Cursor S Window
    → Result RootedArena ReadEnd → Type 0
AnswersHolder tells left version n name c d (Ok g) =
    HolderTaken (tells (source_of c).now) version n name g (unread left c) (unread left d) (place c) (place d) (bound c)
AnswersHolder tells left version n name c d (Err e) = PairsEnded (tells (source_of c).now) version n name (unread left c) (unread left d) (place c) (bound c) e
