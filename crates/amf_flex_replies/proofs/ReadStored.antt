-- A message that is read from its bytes: it is the graph that they spell, or they spell none.
use Rattle.std.proofs.Common.{◌≡◌, ◌∙◌, ℕ, ◌+◌, ◌-◌, ◌<◌, ◌≤◌, List, [], ◌++◌, length, Result, Ok, Err, Option, Some, None, refl, sym, ap, subst, arith}
use Rattle.std.specs.Prelude.{IfSome, IsNone}
use Rattle.std.specs.Option.{option_map}
use Rattle.std.proofs.lemmas.List.{append-nil}
use Rattle.amf_io.specs.ReadEnds.{Counts as CountsRead}
use Rattle.amf_io.specs.declared.ends.ReadEnd.{ReadEnd}
use Rattle.amf_io.specs.declared.ends.ReadEnd.TheVariants.{Refused, ReadFault, Memory}
use Rattle.amf_io.specs.declared.reason.Reason.{Reason}
use Rattle.amf_io.specs.declared.reason.Reason.TheVariants.{Trailing}
use Rattle.amf_io.specs.declared.ends.Refusal.{Refusal}
use Rattle.amf_io.specs.Field.{AreBytes, flat}
use Rattle.amf_io.specs.Layout.{Layout}
use Rattle.amf_io.specs.Stretch.{stretch}
use Rattle.amf_io.specs.Verdict.{IsInputRefused, refused, trailing}
use Rattle.amf_io.proofs.Inputs.{judged_once}
use Rattle.amf_wire.specs.Style.{free}
use Rattle.amf_graph.specs.declared.value.Value.{Value as Stored}
use Rattle.amf_graph.specs.declared.value.Value.TheVariants.{Undefined, Null, Bool as Flag, Integer, Double, Text, Node as NodeRef}
use Rattle.amf_graph.specs.Graph.{Value, leaf, node, Node, Graph, node_at}
use Rattle.amf_graph.specs.Isomorphic.{ValuesMatch, NodesMatch, StandIn, Isomorphic}
use Rattle.amf_graph.specs.Arena.{Arena, StoredHead, object, IsFinished, graph_of, head_content, traits_at, value_content}
use Rattle.amf_graph.specs.Bounds.{weight}
use Rattle.amf_graph.specs.Building.{no_arena, stored_at}
use Rattle.amf_graph.specs.Grafting.{node_value}
use Rattle.amf_graph.specs.Rooted.{RootedArena, content}
use Rattle.amf_graph.proofs.FinishedSmall.{completes_itself}
use Rattle.amf_graph.proofs.Lists.{not_empty}
use Rattle.amf3_spelling.specs.KeptTables.{KeptTables, no_kept_tables, tables_of}
use Rattle.amf3_spelling.specs.Reads3.{Grows, IsRead3}
use Rattle.amf3_spelling.specs.Values3.{IsValue3}
use Rattle.amf3_spelling.specs.Spells3.{Spelled3}
use Rattle.amf3_spelling.proofs.Decides3.{same_bytes_isomorphic}
use Rattle.amf3_layout_laws.specs.Layout3State.{no_state}
use Rattle.amf3_layout_laws.specs.Layout3.{ValueRead, value_layout}
use Rattle.amf3_layout_laws.proofs.Values3Layout.{no_arena_built, values3_is_layout, reading_is_value, answered3}
use Rattle.amf3_read.specs.Answer.{Answers3}
use Rattle.amf_broker.specs.declared.limits.TheConstants.{MAX_MESSAGE}
use Rattle.flex_msgs.specs.Built.{IsStored as HoldsStored, IsStoredAt}
use Rattle.flex_msgs.specs.Classes.{async_traits}
use Rattle.flex_msgs.proofs.Looking.{node_content_at}
use Rattle.amf_flex_replies.specs.Batching.{AnswersValue}
use Rattle.amf_answer_plan.specs.Runs.{IsAsyncHead, IsAsync, IsStored, Finds}
use Rattle.amf_answer_plan.proofs.Closed.{AllClosed}

-- What was read from nothing.

-- all of it is new, and closed
pub all_closed : (a b : Arena) → a ≡ no_arena → Grows a b → AllClosed b.nodes
all_closed a b e g = subst AllClosed (sym (g.nodes ∙ ap (λ (z : Arena). z.nodes ++ g.more_nodes) e)) g.closed

-- as read from nothing, within the most bytes of a message
pub from_nothing : (told : Type 0) (a b : Arena) (t u : KeptTables) (input rest : List ℕ) (at place limit : ℕ) (r : Result Stored ReadEnd) → a ≡ no_arena → t ≡ no_kept_tables → limit ≡ MAX_MESSAGE
    → Answers3 a b t u (stretch told input rest at place limit) r → Answers3 no_arena b no_kept_tables u (stretch told input rest at place MAX_MESSAGE) r
from_nothing told a b t u input rest at place limit r e h m w =
    subst (λ (x : Arena). Answers3 x b no_kept_tables u (stretch told input rest at place MAX_MESSAGE) r) e
    (subst (λ (x : KeptTables). Answers3 a b x u (stretch told input rest at place MAX_MESSAGE) r) h
    (subst (λ (x : ℕ). Answers3 a b t u (stretch told input rest at place x) r) m w))

pub value_read : (told : Type 0) (b : Arena) (u : KeptTables) (v : Stored) (g : RootedArena) (input rest : List ℕ) (at place : ℕ) → g ≡ record { arena = b; root = v } → Answers3 no_arena b no_kept_tables u (stretch told input rest at place MAX_MESSAGE) (Ok v) → AnswersValue told input rest at place (Ok g)
value_read told b u v g input rest at place e r =
    let fin : IsFinished b = record { built = r.read.built no_arena_built; closed = all_closed no_arena b refl r.read.grows } in
    subst (λ (z : RootedArena). AnswersValue told input rest at place (Ok z)) (sym e)
    (record { fields = r.fields; read = (tables_of b u, r.read.spelled b (completes_itself b fin)); accepted = reading_is_value r.fields r.accepted; parts = r.parts; taken = r.taken; within = r.within })

pub value_ends : (told : Type 0) (b : Arena) (u : KeptTables) (input rest : List ℕ) (at place : ℕ) (e : ReadEnd) → Answers3 no_arena b no_kept_tables u (stretch told input rest at place MAX_MESSAGE) (Err e) → AnswersValue told input rest at place (Err e)
value_ends told b u input rest at place (Refused f) h = answered3 (λ v fs. IsRead3 no_arena no_kept_tables fs b u v) (stretch told input rest at place MAX_MESSAGE) (Err (Refused f)) h
value_ends told b u input rest at place ReadFault h = answered3 (λ v fs. IsRead3 no_arena no_kept_tables fs b u v) (stretch told input rest at place MAX_MESSAGE) (Err ReadFault) h
value_ends told b u input rest at place Memory h = tt

-- a graph weighs no more than its bytes
pub value_light : (a b : Arena) (g : RootedArena) (v : Stored) (at place : ℕ) → a ≡ no_arena → g ≡ record { arena = b; root = v } → at ≤ place → weight b < weight a + (place - at) → at + weight g.arena ≤ place
value_light a b g v at place e r l h =
    let one : weight a ≡ 1 = ap weight e in
    let same : weight g.arena ≡ weight b = ap (λ (z : RootedArena). weight z.arena) r in
    omega (arith, one, same, l, h)

-- All of the bytes.

abbrev layouts : ℕ → Layout ValueRead
layouts n = value_layout n no_state

never_refused : (g : Graph) (input : List ℕ) → AreBytes input → length input ≤ MAX_MESSAGE → Spelled3 free g input → (reason : Reason) (at : ℕ) → IsInputRefused IsValue3 MAX_MESSAGE input reason at → ⊥
never_refused g input bytes within (fs, s, e) =
    let all : length input ≡ 0 + length (flat fs) = omega (arith, ap length e) in
    (judged_once layouts IsValue3 values3_is_layout MAX_MESSAGE input).not_both
    (record { fields = fs; accepted = (g, s); parts = e ∙ sym (append-nil (flat fs)); place = all; within = within })

module _ (input bytes : List ℕ) (at : ℕ) (same : input ≡ bytes) (start : at ≡ 0) (are : AreBytes bytes) (within : length bytes ≤ MAX_MESSAGE) where
  pub refused_none : (rest : List ℕ) (place : ℕ) (f : Refusal) → AnswersValue (Unit {0}) input rest at place (Err (Refused f)) → (h : Graph) → Spelled3 free h bytes → ⊥
  refused_none rest place f r h s =
      let a : AnswersValue (Unit {0}) bytes rest 0 place (Err (Refused f)) = subst (λ (x : List ℕ). AnswersValue (Unit {0}) x rest 0 place (Err (Refused f))) same (subst (λ (n : ℕ). AnswersValue (Unit {0}) input rest n place (Err (Refused f))) start r) in
      never_refused h bytes are within s f.reason f.at (refused (a tt))

  pub trailing_none : (rest : List ℕ) (place : ℕ) (g : RootedArena) → (rest ≡ [] → ⊥) → AnswersValue (Unit {0}) input rest at place (Ok g) → (h : Graph) → Spelled3 free h bytes → ⊥
  trailing_none rest place g some r h s =
      let a : AnswersValue (Unit {0}) bytes rest 0 place (Ok g) = subst (λ (x : List ℕ). AnswersValue (Unit {0}) x rest 0 place (Ok g)) same (subst (λ (n : ℕ). AnswersValue (Unit {0}) input rest n place (Ok g)) start r) in
      never_refused h bytes are within s Trailing place (trailing refl rest (not_empty rest some) (record { fields = a.fields; accepted = a.accepted; parts = a.parts tt; place = a.taken; within = a.within }))

  pub whole_found : (rest : List ℕ) (place : ℕ) (g : RootedArena) → rest ≡ [] → AnswersValue (Unit {0}) input rest at place (Ok g) → Spelled3 free (content g) bytes
  whole_found rest place g none r =
      let e : input ≡ flat r.fields = r.parts tt ∙ ap (λ (x : List ℕ). flat r.fields ++ x) none ∙ append-nil (flat r.fields) in
      (r.fields, r.read, sym same ∙ e)

-- A stored message.

async_here : (a : Arena) (root : Stored) (i : ℕ) → root ≡ node_value i → IsStoredAt a i → IsAsync (graph_of a root) (value_content a root)
async_here a root i e (t, head, traits) =
    let here : IsAsyncHead (node_at (graph_of a root) i).head =
    subst IsAsyncHead (sym (ap (λ (z : Node). z.head) (node_content_at a root i) ∙ ap (head_content a) head)) traits in
    subst (λ (v : Stored). IsAsync (graph_of a root) (value_content a v)) (sym e) here

pub is_async : (g : RootedArena) → HoldsStored g → IsAsync (content g) (content g).root
is_async g (i, e, s) = async_here g.arena g.root i e s

async_head : (a : Arena) (d : StoredHead) → IsAsyncHead (head_content a d) → (t : ℕ) × (d ≡ object t) × (traits_at a t ≡ async_traits)
async_head a (object t) h = (t, refl, h)
async_head a _ h = absurd h

async_back : (a : Arena) (root : Stored) (k : Graph) → k ≡ graph_of a root → (v : Stored) → IsAsync k (value_content a v) → (i : ℕ) × (v ≡ node_value i) × IsStoredAt a i
async_back a root k e (NodeRef n) h = (n.0, refl, async_head a (stored_at a n.0).head (subst IsAsyncHead (ap (λ (z : Graph). (node_at z n.0).head) e ∙ ap (λ (z : Node). z.head) (node_content_at a root n.0)) h))
async_back a root k e Undefined h = absurd h
async_back a root k e Null h = absurd h
async_back a root k e (Flag b) h = absurd h
async_back a root k e (Integer n) h = absurd h
async_back a root k e (Double p) h = absurd h
async_back a root k e (Text t) h = absurd h

pub holds_stored : (g : RootedArena) → IsAsync (content g) (content g).root → HoldsStored g
holds_stored g h = async_back g.arena g.root (content g) refl g.root h

async_match : (P : ℕ → ℕ → Type 0) (g h : Graph) (v w : Value) → ((i j : ℕ) → P i j → NodesMatch P (node_at g i) (node_at h j)) → ValuesMatch P v w → IsAsync g v → IsAsync h w
async_match P g h (node i) (node j) f m a = subst IsAsyncHead (f i j m).head a
async_match P g h (node i) (leaf y) f m a = absurd m
async_match P g h (leaf x) w f m a = absurd a

pub async_alike : (g h : Graph) → Isomorphic g h → IsAsync g g.root → IsAsync h h.root
async_alike g h i a = async_match (StandIn i.pairs) g h g.root h.root i.nodes i.root a

-- the graph that the bytes spell is a stored message, or no graph is
pub stored_found : (g : RootedArena) (b : List ℕ) → Spelled3 free (content g) b → HoldsStored g → IsStored (content g) b
stored_found g b s h = (s, is_async g h)

pub stored_none : (g : RootedArena) (b : List ℕ) → Spelled3 free (content g) b → (HoldsStored g → ⊥) → (h : Graph) → IsStored h b → ⊥
stored_none g b s never h is = never (holds_stored g (async_alike h (content g) (same_bytes_isomorphic h (content g) b is.0 s) is.1))

-- no read of bytes in memory fails
pub no_read_fault : (T : Type 0) → CountsRead {T = T} 0 0 (Err ReadFault) → ⊥
no_read_fault T k = omega (arith, k.1)

pub none_stored : (b : List ℕ) → ((h : Graph) → Spelled3 free h b → ⊥) → (h : Graph) → IsStored h b → ⊥
none_stored b none h s = none h s.0

pub found_if_stored : (g : RootedArena) (o : Option RootedArena) (b : List ℕ) → Spelled3 free (content g) b → IfSome o (λ x. HoldsStored x × (x ≡ g)) → (IsNone o → HoldsStored g → ⊥) → Finds (λ h. IsStored h b) (option_map content o)
found_if_stored g None b s some none = stored_none g b s (none refl)
found_if_stored g (Some x) b s some none = subst (λ (z : RootedArena). IsStored (content z) b) (sym some.1) (stored_found g b s (subst HoldsStored some.1 some.0))

pub some_weaker : {T : Type 0} (o : Option T) (P Q : T → Type 0) → ((x : T) → P x → Q x) → IfSome o P → IfSome o Q
some_weaker None P Q f h = tt
some_weaker (Some x) P Q f h = f x h
