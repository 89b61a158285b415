-- The goals of the code in the words of the definition. Some hold lists: these are kept beside them, the list of the innermost first.
use Rattle.std.specs.Prelude.{◌≡◌, ℕ, Bool, true, false, List, [], ◌∷◌, ◌++◌, Option, Some, None, option_map, option_and_then, if◌then◌else◌, codes}
use denote.Ref.{Bor}
use Rattle.json.specs.Token.{Token, begin_object, end_object, begin_array, key, string}
use Rattle.amf_wire.specs.declared.pattern.Pattern.{Pattern}
use Rattle.amf_text.specs.Scalars.{read_number}
use Rattle.amf_text.specs.Asks.{goals_step}
use Rattle.amf_text.specs.Asks as asks
use Rattle.amf_text.specs.Tags as tags
use Rattle.amf_text_read.specs.Names.{ToldNames, no_names, with_name, all_left, without_name}
use Rattle.amf_text_read.specs.TagNames.{tag_named}
use Rattle.amf_text_read.specs.declared.tag.Tag.{Tag}
use Rattle.amf_text_read.specs.declared.goal.Key.{Key}
use Rattle.amf_text_read.specs.declared.goal.Key.TheVariants as word
use Rattle.amf_text_read.specs.declared.goal.Goal.{Goal}
use Rattle.amf_text_read.specs.declared.goal.Goal.TheVariants as goal

abbrev pub key_name : Key → List ℕ
key_name word.Fixed = codes "$fixed"
key_name word.Form = codes "form"
key_name word.Headers = codes "headers"
key_name word.Messages = codes "messages"
key_name word.Must = codes "must"
key_name word.Name = codes "name"
key_name word.Names = codes "$names"
key_name word.Pairs = codes "pairs"
key_name word.Response = codes "response"
key_name word.Root = codes "root"
key_name word.Sealed = codes "$sealed"
key_name word.Target = codes "target"
key_name word.Text = codes "$text"
key_name word.Values = codes "$values"
key_name word.Version = codes "version"
key_name word.Weak = codes "$weak"

-- what is held for the innermost goal, and for those around it, the inner ones first
pub record Nested (X : Type 0) : Type 0 where
  pub at : X
  pub outer : List X

abbrev pub enter : {X : Type 0} → X → Nested X → Nested X
enter x s = record { at = x; outer = s.at ∷ s.outer }

abbrev pub with_at : {X : Type 0} → X → Nested X → Nested X
with_at x s = record { at = x; outer = s.outer }

abbrev pub first_of : {X : Type 0} → X → List X → Nested X
first_of none [] = record { at = none; outer = [] }
first_of none (x ∷ xs) = record { at = x; outer = xs }

abbrev pub leave : {X : Type 0} → X → Nested X → Nested X
leave none s = first_of none s.outer

-- the labels of tables, the last first; the names of classes; and the last keys of members that rise
pub record Held : Type 0 where
  pub labels : Nested (List (List ℕ))
  pub names : Nested ToldNames
  pub lasts : Nested (List ℕ)

abbrev pub goal_of : Held → Goal → asks.Goal
goal_of h goal.Start = asks.start
goal_of h goal.FormKey = asks.form_key
goal_of h goal.FormName = asks.form_name
goal_of h (goal.KeyIs k) = asks.key_is (key_name k)
goal_of h (goal.TableOr k) = asks.table_or (key_name k)
goal_of h goal.Close = asks.close
goal_of h goal.EndList = asks.end_list
goal_of h goal.Rows = asks.rows
goal_of h goal.RowKeys = asks.row_keys h.labels.at
goal_of h goal.Headers = asks.headers
goal_of h (goal.MoreHeaders n) = asks.more_headers n
goal_of h goal.Messages = asks.messages
goal_of h (goal.MoreMessages n) = asks.more_messages n
goal_of h goal.Value = asks.value
goal_of h goal.Node = asks.node
goal_of h goal.Object = asks.object
goal_of h goal.NodeObject = asks.node_object
goal_of h goal.Plain = asks.plain
goal_of h goal.List = asks.list
goal_of h goal.Items = asks.items
goal_of h goal.EntriesList = asks.entries_list
goal_of h goal.Entries = asks.entries
goal_of h goal.Members = asks.members
goal_of h goal.Keys = asks.keys
goal_of h goal.Pairs = asks.pairs
goal_of h goal.ClassRest = asks.class_rest
goal_of h goal.Begun = asks.begun
goal_of h goal.ClassNames = asks.class_names
goal_of h goal.MoreNames = asks.more_names h.names.at.told
goal_of h goal.Sealed = asks.sealed
goal_of h goal.Rising = asks.rising None
goal_of h goal.RisingPast = asks.rising (Some h.lasts.at)
goal_of h goal.Those = asks.those h.names.at.told
goal_of h goal.Left = asks.left h.names.at.left
goal_of h (goal.FlagOrClose k) = asks.flag_or_close (key_name k)
goal_of h goal.VectorKey = asks.vector_key
goal_of h goal.Text = asks.text
goal_of h goal.ShortText = asks.short_text
goal_of h goal.TextHex = asks.text_hex
goal_of h goal.ShortHex = asks.short_hex
goal_of h goal.Hex = asks.hex
goal_of h goal.Pattern = asks.pattern
goal_of h goal.PatternList = asks.pattern_list
goal_of h goal.Patterns = asks.patterns
goal_of h goal.IntList = asks.int_list
goal_of h goal.Ints = asks.ints
goal_of h goal.UintList = asks.uint_list
goal_of h goal.Uints = asks.uints
goal_of h goal.Flag = asks.flag
goal_of h goal.Truth = asks.truth
goal_of h goal.Label = asks.label
goal_of h goal.FormWord = asks.form_word
goal_of h goal.VersionOfFile = asks.version_of_file
goal_of h goal.VersionOfPacket = asks.version_of_packet

-- what the goals behind this one hold
abbrev pub behind : Goal → Held → Held
behind goal.RowKeys h = record h { labels = leave [] h.labels }
behind goal.MoreNames h = record h { names = leave no_names h.names }
behind goal.Those h = record h { names = leave no_names h.names }
behind goal.Left h = record h { names = leave no_names h.names }
behind goal.RisingPast h = record h { lasts = leave [] h.lasts }
behind _ h = h

abbrev pub goals_of : Held → List Goal → List asks.Goal
goals_of h [] = []
goals_of h (g ∷ gs) = goal_of h g ∷ goals_of (behind g h) gs

-- what they hold once this goal is met by this token

abbrev pub held_after : Held → Goal → Token → Held
held_after h goal.Rows begin_object = record h { labels = enter [] h.labels }
held_after h goal.RowKeys (key k) = record h { labels = with_at (k ∷ h.labels.at) h.labels }
held_after h goal.RowKeys end_object = record h { labels = leave [] h.labels }
held_after h goal.ClassNames begin_array = record h { names = enter no_names h.names }
held_after h goal.MoreNames (string s) = record h { names = with_at (with_name h.names.at s) h.names }
held_after h goal.Those begin_object = record h { names = with_at (all_left h.names.at) h.names }
held_after h goal.Left (key k) = record h { names = with_at (without_name h.names.at k) h.names }
held_after h goal.Left end_object = record h { names = leave no_names h.names }
held_after h goal.Rising (key k) = record h { lasts = enter k h.lasts }
held_after h goal.RisingPast (key k) = record h { lasts = with_at k h.lasts }
held_after h goal.RisingPast end_object = record h { lasts = leave [] h.lasts }
held_after h _ t = h

-- What the functions of the tables give.

abbrev pub listed : Option (Bor (List Goal)) → Option (List Goal)
listed o = option_map (λ goals. goals.now) o

abbrev pub if_met : Bool → List Goal → Option (List Goal)
if_met b gs = if b then Some gs else None

-- By this token these goals come in place of the first, or it is refused: as the definition has it, whatever they hold.
abbrev pub Comes : Goal → Token → Option (List Goal) → Type 0
Comes g t next = (h : Held) (gs : List Goal) → option_map (λ ns. goals_of (held_after h g t) (ns ++ gs)) next ≡ goals_step read_number (goals_of h (g ∷ gs)) t

-- these goals come, and then those of the object
abbrev pub AreAsked : Option (List asks.Goal) → Option (List Goal) → Type 0
AreAsked asked next = (h : Held) (gs : List Goal) → option_map (λ ns. goals_of h (ns ++ gs)) next ≡ option_and_then (λ hs. Some (hs ++ goals_of h gs)) asked

-- behind a key of this word these goals come, and then those of the object
abbrev pub AreBehind : (tags.Tag → Option (List asks.Goal)) → Tag → Option (List Goal) → Type 0
AreBehind f t next = AreAsked (f (tag_named t)) next

-- goals whose next ones hang on more than the token

abbrev pub is_counted : Goal → Bool
is_counted (goal.MoreHeaders n) = true
is_counted (goal.MoreMessages n) = true
is_counted _ = false

abbrev pub is_left : Goal → Bool
is_left goal.Left = true
is_left _ = false

abbrev pub is_alone : Goal → Bool
is_alone (goal.TableOr k) = false
is_alone goal.RowKeys = false
is_alone goal.RisingPast = false
is_alone goal.Left = false
is_alone _ = true

abbrev pub is_told : Goal → Bool
is_told goal.MoreNames = true
is_told _ = false

-- the bits of a double, where there is one
abbrev pub bits_of : Option Pattern → Option ℕ
bits_of o = option_map (λ p. p.0) o
