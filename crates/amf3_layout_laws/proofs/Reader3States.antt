-- The state of reading, computed anew from an arena and its tables that have changed by one step, is that step of the state.
use Rattle.std.proofs.Common.{◌≡◌, ◌≢◌, ℕ, zero, suc, ◌<◌, true, false, List, [], ◌∷◌, ◌++◌, length, map, set, get_or, refl, sym, ap, ◌∙◌}
use Rattle.std.proofs.lemmas.List.{map-append, get_or_append_left}
use Rattle.std.proofs.Math.Seq.{get_or-append_seam}
use Rattle.std.specs.List.{AllByRecursion}
use Rattle.amf_graph.specs.declared.value.Value.{Value as Stored}
use Rattle.amf_graph.specs.declared.wrapped.Wrapped.{Wrapped}
use Rattle.amf_graph.specs.Arena.{StoredTraits, StoredHead, StoredNode, Arena, text_at, traits_content, no_traits, IsBuilt}
use Rattle.amf_graph.specs.Building.{no_stored, stored_at, kept_text, kept_traits, more_value, more_name, shut, more_entry}
use Rattle.amf3_spelling.specs.Tables as content
use Rattle.amf3_spelling.specs.KeptTables.{KeptEntry, plain, external, KeptTables, entry_content, IsEntryIn, tables_of, AreTablesIn}
use Rattle.amf3_layout_laws.specs.Layout3State.{stored_marker, takes_parts, State3, state_of, with_text, with_contents, with_entry, begun, with_node, changed}
use Rattle.amf3_layout_laws.proofs.Layout3Contents.{marks_of, words_stay}
use Rattle.amf3_layout_laws.proofs.Reader3Tables.{larger_text}

-- Texts.

-- a text that stands in the arena alone
pub contents_state : (a : Arena) (t : KeptTables) (x : List ℕ) → IsBuilt a → AreTablesIn a t → state_of (kept_text a x) t ≡ with_contents (state_of a t) x
contents_state a t x b v = ap (λ w. let s : State3 = record { arena = kept_text a x; tables = t; words = w; marks = marks_of a t.nodes } in s) (words_stay a (kept_text a x) t (larger_text a x) b.traits v)

-- the empty text enters no table
pub empty_text_state : (a : Arena) (t : KeptTables) → IsBuilt a → AreTablesIn a t → state_of (kept_text a []) t ≡ with_text (state_of a t) []
empty_text_state a t b v = contents_state a t [] b v

text_words : (a : Arena) (t : KeptTables) (x : List ℕ) → IsBuilt a → AreTablesIn a t
    → (tables_of (kept_text a x) (record { texts = t.texts ++ length a.texts ∷ []; traits = t.traits; nodes = t.nodes })).words ≡ content.add_text (tables_of a t).words x
text_words a t x b v =
    let z = kept_text a x in
    let there : text_at z (length a.texts) ≡ x = get_or-append_seam a.texts x [] [] in
    let pushed : map (text_at z) (t.texts ++ length a.texts ∷ []) ≡ map (text_at z) t.texts ++ x ∷ [] = map-append (text_at z) t.texts (length a.texts ∷ []) ∙ ap (λ y. map (text_at z) t.texts ++ y ∷ []) there in
    ap (λ y. let w : content.Words = record { texts = y; traits = map (entry_content z) t.traits } in w) pushed ∙ ap (λ w. content.add_text w x) (words_stay a z t (larger_text a x) b.traits v)

-- a text with a byte
pub long_text_state : (a : Arena) (t : KeptTables) (c : ℕ) (x : List ℕ) → IsBuilt a → AreTablesIn a t
    → state_of (kept_text a (c ∷ x)) (record { texts = t.texts ++ length a.texts ∷ []; traits = t.traits; nodes = t.nodes }) ≡ with_text (state_of a t) (c ∷ x)
long_text_state a t c x b v =
    let k : KeptTables = record { texts = t.texts ++ length a.texts ∷ []; traits = t.traits; nodes = t.nodes } in
    ap (λ w. let s : State3 = record { arena = kept_text a (c ∷ x); tables = k; words = w; marks = marks_of a t.nodes } in s) (text_words a t (c ∷ x) b v)

pub text_state : (a : Arena) (t : KeptTables) (x : List ℕ) → x ≢ [] → IsBuilt a → AreTablesIn a t
    → state_of (kept_text a x) (record { texts = t.texts ++ length a.texts ∷ []; traits = t.traits; nodes = t.nodes }) ≡ with_text (state_of a t) x
text_state a t [] h b v = absurd (h refl)
text_state a t (c ∷ x) h b v = long_text_state a t c x b v

-- Traits.

entry_there : (a : Arena) (st : StoredTraits) (e : KeptEntry) → IsEntryIn a e → entry_content (kept_traits a st) e ≡ entry_content a e
entry_there a st (plain i) h = ap (λ k. content.plain (traits_content a k)) (get_or_append_left a.traits (st ∷ []) no_traits i h)
entry_there a st (external i c) h = refl

entries_there : (a : Arena) (st : StoredTraits) (es : List KeptEntry) → AllByRecursion (IsEntryIn a) es → map (entry_content (kept_traits a st)) es ≡ map (entry_content a) es
entries_there a st [] h = refl
entries_there a st (e ∷ es) h = ap (λ c. c ∷ map (entry_content (kept_traits a st)) es) (entry_there a st e h.0) ∙ ap (λ cs. entry_content a e ∷ cs) (entries_there a st es h.1)

entry_state : (a : Arena) (t : KeptTables) (st : StoredTraits) (e : KeptEntry) (c : content.Entry) → AreTablesIn a t → entry_content (kept_traits a st) e ≡ c
    → state_of (kept_traits a st) (record { texts = t.texts; traits = t.traits ++ e ∷ []; nodes = t.nodes }) ≡ with_entry (state_of a t) st e c
entry_state a t st e c v is =
    let z = kept_traits a st in
    let k : KeptTables = record { texts = t.texts; traits = t.traits ++ e ∷ []; nodes = t.nodes } in
    let pushed : map (entry_content z) (t.traits ++ e ∷ []) ≡ map (entry_content a) t.traits ++ c ∷ [] = map-append (entry_content z) t.traits (e ∷ []) ∙ ap (λ y. map (entry_content z) t.traits ++ y ∷ []) is ∙ ap (λ l. l ++ c ∷ []) (entries_there a st t.traits v.traits) in
    ap (λ y. let s : State3 = record { arena = z; tables = k; words = record { texts = map (text_at a) t.texts; traits = y }; marks = marks_of a t.nodes } in s) pushed

-- traits given inline
pub plain_state : (a : Arena) (t : KeptTables) (st : StoredTraits) → AreTablesIn a t
    → state_of (kept_traits a st) (record { texts = t.texts; traits = t.traits ++ plain (length a.traits) ∷ []; nodes = t.nodes }) ≡ with_entry (state_of a t) st (plain (length a.traits)) (content.plain (traits_content a st))
plain_state a t st v = entry_state a t st (plain (length a.traits)) (content.plain (traits_content a st)) v (ap (λ k. content.plain (traits_content a k)) (get_or-append_seam a.traits st [] no_traits))

-- the traits of an externalizable class
pub external_state : (a : Arena) (t : KeptTables) (st : StoredTraits) (c : Wrapped) → AreTablesIn a t
    → state_of (kept_traits a st) (record { texts = t.texts; traits = t.traits ++ external (length a.traits) c ∷ []; nodes = t.nodes }) ≡ with_entry (state_of a t) st (external (length a.traits) c) (content.external c)
external_state a t st c v = entry_state a t st (external (length a.traits) c) (content.external c) v refl

-- Nodes.

marks_before : (a : Arena) (n : StoredNode) (ids : List ℕ) → AllByRecursion (λ i. i < length a.nodes) ids
    → map (λ i. stored_marker (get_or (a.nodes ++ n ∷ []) i no_stored).head) ids ≡ marks_of a ids
marks_before a n [] h = refl
marks_before a n (i ∷ ids) h =
    ap (λ m. m ∷ map (λ i. stored_marker (get_or (a.nodes ++ n ∷ []) i no_stored).head) ids) (ap (λ (k : StoredNode). stored_marker k.head) (get_or_append_left a.nodes (n ∷ []) no_stored i h.0)) ∙ ap (λ ms. stored_marker (stored_at a i).head ∷ ms) (marks_before a n ids h.1)

-- a node that has just begun
pub node_state : (a : Arena) (t : KeptTables) (head : StoredHead) → AreTablesIn a t
    → state_of (record { texts = a.texts; traits = a.traits; nodes = a.nodes ++ begun head ∷ [] }) (record { texts = t.texts; traits = t.traits; nodes = t.nodes ++ length a.nodes ∷ [] }) ≡ with_node (state_of a t) head
node_state a t head v =
    let n = begun head in
    let mark = λ (i : ℕ). stored_marker (get_or (a.nodes ++ n ∷ []) i no_stored).head in
    let pushed : map mark (t.nodes ++ length a.nodes ∷ []) ≡ marks_of a t.nodes ++ stored_marker head ∷ [] =
    map-append mark t.nodes (length a.nodes ∷ []) ∙ ap (λ (k : StoredNode). map mark t.nodes ++ stored_marker k.head ∷ []) (get_or-append_seam a.nodes n [] no_stored) ∙ ap (λ ms. ms ++ stored_marker head ∷ []) (marks_before a n t.nodes v.nodes) in
    ap (λ ms. let s : State3 = record { arena = (with_node (state_of a t) head).arena; tables = (with_node (state_of a t) head).tables; words = (tables_of a t).words; marks = ms } in s) pushed

-- one that is open
pub open_node_state : (a : Arena) (t : KeptTables) (head : StoredHead) → AreTablesIn a t → takes_parts head ≡ true
    → state_of (record { texts = a.texts; traits = a.traits; nodes = a.nodes ++ record { is_open = true; head = head; names = []; values = [] } ∷ [] }) (record { texts = t.texts; traits = t.traits; nodes = t.nodes ++ length a.nodes ∷ [] }) ≡ with_node (state_of a t) head
open_node_state a t head v e = ap (λ o. state_of (record { texts = a.texts; traits = a.traits; nodes = a.nodes ++ record { is_open = o; head = head; names = []; values = [] } ∷ [] }) (record { texts = t.texts; traits = t.traits; nodes = t.nodes ++ length a.nodes ∷ [] })) (sym e) ∙ node_state a t head v

-- one that takes no parts
pub leaf_state : (a : Arena) (t : KeptTables) (head : StoredHead) → AreTablesIn a t → takes_parts head ≡ false
    → state_of (record { texts = a.texts; traits = a.traits; nodes = a.nodes ++ record { is_open = false; head = head; names = []; values = [] } ∷ [] }) (record { texts = t.texts; traits = t.traits; nodes = t.nodes ++ length a.nodes ∷ [] }) ≡ with_node (state_of a t) head
leaf_state a t head v e = ap (λ o. state_of (record { texts = a.texts; traits = a.traits; nodes = a.nodes ++ record { is_open = o; head = head; names = []; values = [] } ∷ [] }) (record { texts = t.texts; traits = t.traits; nodes = t.nodes ++ length a.nodes ∷ [] })) (sym e) ∙ node_state a t head v

-- Nodes that are changed in their places.

head_stays : (ns : List StoredNode) (i j : ℕ) (r : StoredNode) → r.head ≡ (get_or ns i no_stored).head → (get_or (set ns i r) j no_stored).head ≡ (get_or ns j no_stored).head
head_stays [] i j r e = refl
head_stays (n ∷ ns) zero zero r e = e
head_stays (n ∷ ns) zero (suc j) r e = refl
head_stays (n ∷ ns) (suc i) zero r e = refl
head_stays (n ∷ ns) (suc i) (suc j) r e = head_stays ns i j r e

marks_stay : (a : Arena) (i : ℕ) (r : StoredNode) (ids : List ℕ) → r.head ≡ (stored_at a i).head → map (λ j. stored_marker (get_or (set a.nodes i r) j no_stored).head) ids ≡ marks_of a ids
marks_stay a i r [] e = refl
marks_stay a i r (j ∷ ids) e =
    ap (λ m. m ∷ map (λ j. stored_marker (get_or (set a.nodes i r) j no_stored).head) ids) (ap stored_marker (head_stays a.nodes i j r e)) ∙ ap (λ ms. stored_marker (stored_at a j).head ∷ ms) (marks_stay a i r ids e)

-- the head stays
pub changed_state : (f : StoredNode → StoredNode) (i : ℕ) (a : Arena) (t : KeptTables) → (f (stored_at a i)).head ≡ (stored_at a i).head
    → state_of (record { texts = a.texts; traits = a.traits; nodes = set a.nodes i (f (stored_at a i)) }) t ≡ changed f i (state_of a t)
changed_state f i a t e = ap (λ ms. let s : State3 = record { arena = (changed f i (state_of a t)).arena; tables = t; words = (tables_of a t).words; marks = ms } in s) (marks_stay a i (f (stored_at a i)) t.nodes e)

pub more_value_state : (v : Stored) (i : ℕ) (a : Arena) (t : KeptTables)
    → state_of (record { texts = a.texts; traits = a.traits; nodes = set a.nodes i (more_value v (stored_at a i)) }) t ≡ changed (more_value v) i (state_of a t)
more_value_state v i a t = changed_state (more_value v) i a t refl

pub more_name_state : (x : ℕ) (v : Stored) (i : ℕ) (a : Arena) (t : KeptTables)
    → state_of (record { texts = a.texts; traits = a.traits; nodes = set a.nodes i (more_name x v (stored_at a i)) }) t ≡ changed (more_name x v) i (state_of a t)
more_name_state x v i a t = changed_state (more_name x v) i a t refl

pub more_entry_state : (k v : Stored) (i : ℕ) (a : Arena) (t : KeptTables)
    → state_of (record { texts = a.texts; traits = a.traits; nodes = set a.nodes i (more_entry k v (stored_at a i)) }) t ≡ changed (more_entry k v) i (state_of a t)
more_entry_state k v i a t = changed_state (more_entry k v) i a t refl

pub shut_state : (i : ℕ) (a : Arena) (t : KeptTables)
    → state_of (record { texts = a.texts; traits = a.traits; nodes = set a.nodes i (shut (stored_at a i)) }) t ≡ changed shut i (state_of a t)
shut_state i a t = changed_state shut i a t refl
