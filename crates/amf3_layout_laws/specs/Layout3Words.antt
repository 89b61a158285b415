-- Texts and traits of AMF 3 as they are read (1.3.2, 3.8, 3.12). A device by which verdicts are proved: no spelling needs it.
use Rattle.std.specs.Prelude.{ℕ, zero, suc, ◌/◌, ◌%◌, Bool, false, List, [], ◌∷◌, length, get_or, ◌==◌, if◌then◌else◌, bytes_eq}
use Rattle.amf_wire.specs.U29.{u29_value}
use Rattle.amf_io.specs.Field.{Kind, text_kind}
use Rattle.amf_io.specs.Layout.{Layout, give, want, bind}
use Rattle.amf_graph.specs.declared.wrapped.Wrapped.{Wrapped}
use Rattle.amf_graph.specs.declared.wrapped.Wrapped.TheVariants.{ArrayCollection, ArrayList, ObjectProxy}
use Rattle.amf_graph.specs.Graph.{class_name}
use Rattle.amf_graph.specs.Arena.{StoredHead, object, wrapper}
use Rattle.amf3_spelling.specs.Tables as content
use Rattle.amf3_spelling.specs.KeptTables.{KeptEntry, plain, external}
use Rattle.amf3_spelling.specs.Refusals3.{text_header_kind, class_header_kind, class_kind}
use Rattle.amf3_layout_laws.specs.Layout3State.{State3, with_text, with_entry}

-- so many bytes; none are no field
abbrev pub chunk : {X : Type 0} → (ℕ → Kind) → ℕ → (List ℕ → Layout X) → Layout X
chunk kind zero next = next []
chunk kind (suc n) next = want (kind (suc n)) next

-- a text that was read: its place, and its bytes
pub record TextRead : Type 0 where
  pub id : ℕ
  pub bytes : List ℕ
  pub state : State3

abbrev pub known_text : State3 → ℕ → TextRead
known_text s k = record { id = get_or s.tables.texts k 0; bytes = get_or s.words.texts k []; state = s }

abbrev pub new_text : State3 → List ℕ → TextRead
new_text s x = record { id = length s.arena.texts; bytes = x; state = with_text s x }

abbrev pub text_behind : (ℕ → Kind) → State3 → ℕ → Layout TextRead
text_behind contents s h = if h % 2 == 0 then give (known_text s (h / 2)) else chunk contents (h / 2) (λ x. give (new_text s x))

abbrev pub text_by : Kind → (ℕ → Kind) → State3 → Layout TextRead
text_by header contents s = want header (λ b. text_behind contents s (u29_value b))

abbrev pub text_layout : State3 → Layout TextRead
text_layout s = text_by (text_header_kind (length s.words.texts)) text_kind s

abbrev pub class_layout : State3 → Layout TextRead
class_layout s = text_by (class_header_kind s.words.texts) class_kind s

-- so many texts, one after the other
pub record TextsRead : Type 0 where
  pub ids : List ℕ
  pub texts : List (List ℕ)
  pub state : State3

abbrev pub more_text : TextRead → TextsRead → TextsRead
more_text x xs = record { ids = x.id ∷ xs.ids; texts = x.bytes ∷ xs.texts; state = xs.state }

abbrev pub texts_layout : ℕ → State3 → Layout TextsRead
texts_layout zero s = give (record { ids = []; texts = []; state = s })
texts_layout (suc n) s = bind (text_layout s) (λ x. bind (texts_layout n x.state) (λ xs. give (more_text x xs)))

-- what a node is made of: its head, how many values it takes, or how many keys with their values, and whether pairs stand before or behind them
pub record Outline : Type 0 where
  pub head : StoredHead
  pub count : ℕ
  pub twins : Bool
  pub first : Bool
  pub last : Bool
  pub state : State3

-- the served class of this name
abbrev pub class_of : List ℕ → Wrapped
class_of x = if bytes_eq (class_name ArrayCollection) x then ArrayCollection else (if bytes_eq (class_name ArrayList) x then ArrayList else ObjectProxy)

abbrev pub head_of : KeptEntry → StoredHead
head_of (plain t) = object t
head_of (external t c) = wrapper c

abbrev pub sealed_of : content.Entry → ℕ
sealed_of (content.plain t) = length t.sealed
sealed_of (content.external c) = 1

abbrev pub dynamic_of : content.Entry → Bool
dynamic_of (content.plain t) = t.dynamic
dynamic_of (content.external c) = false

abbrev pub known_traits : State3 → ℕ → Outline
known_traits s k = record {
  head = head_of (get_or s.tables.traits k (plain 0));
  count = sealed_of (get_or s.words.traits k (content.plain (record { class = []; dynamic = false; sealed = [] })));
  twins = false;
  first = false;
  last = dynamic_of (get_or s.words.traits k (content.plain (record { class = []; dynamic = false; sealed = [] })));
  state = s;
}

abbrev pub plain_traits : Bool → TextRead → TextsRead → Outline
plain_traits dynamic class names = record {
  head = object (length names.state.arena.traits);
  count = length names.texts;
  twins = false;
  first = false;
  last = dynamic;
  state = with_entry names.state (record { class = class.id; dynamic = dynamic; sealed = names.ids }) (plain (length names.state.arena.traits)) (content.plain (record { class = class.bytes; dynamic = dynamic; sealed = names.texts }));
}

abbrev pub external_traits : TextRead → Outline
external_traits class = record {
  head = wrapper (class_of class.bytes);
  count = 1;
  twins = false;
  first = false;
  last = false;
  state = with_entry class.state (record { class = class.id; dynamic = false; sealed = [] }) (external (length class.state.arena.traits) (class_of class.bytes)) (content.external (class_of class.bytes));
}

abbrev pub inline_traits : ℕ → State3 → Layout Outline
inline_traits h s = bind (text_layout s) (λ class. bind (texts_layout (h / 16) class.state) (λ names. give (plain_traits ((h / 8) % 2 == 1) class names)))

abbrev pub external_layout : State3 → Layout Outline
external_layout s = bind (class_layout s) (λ class. give (external_traits class))

-- the traits behind an object's header with low bit 1: by their place with low bits 01, given with 011, and of an externalizable class with 111
abbrev pub traits_layout : ℕ → State3 → Layout Outline
traits_layout h s = if h % 4 == 1 then give (known_traits s (h / 4)) else (if h % 8 == 3 then inline_traits h s else external_layout s)
