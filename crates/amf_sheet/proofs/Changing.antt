-- A node of a builder that gets names and values.
use Rattle.std.proofs.Common.{◌≡◌, ℕ, ◌+◌, ◌<◌, ◌≤◌, List, [], ◌∷◌, ◌++◌, length, set, sym, ap, ◌∙◌, arith}
use Rattle.std.proofs.lemmas.List.{length-append, length-map, append-nil, append_assoc, map-append, set-set, set-get_or, get_or-set_same}
use Rattle.amf_graph.specs.declared.value.Value.{Value as Stored}
use Rattle.amf_graph.specs.declared.value.TextId.{TextId}
use Rattle.amf_graph.specs.declared.part.Part.TheVariants.{Item, Named, Entry}
use Rattle.amf_graph.specs.Arena.{Arena, StoredNode, StoredHead, xml_document, date, array, object, wrapper, xml, bytes, ints, uints, doubles, values, dictionary}
use Rattle.amf_graph.specs.Bodies.{TakesEntry}
use Rattle.amf_graph.specs.Bounds.{parts_of}
use Rattle.amf_graph.specs.Building.{changed, stored_at, no_stored, more_part, size_of}
use Rattle.amf_graph.specs.Views.{named}
use Rattle.amf_sheet.specs.Filling.{more_names, more_values}

pub stored_changed : (f : StoredNode → StoredNode) (i : ℕ) (a : Arena) → i < length a.nodes → stored_at (changed f i a) i ≡ f (stored_at a i)
stored_changed f i a l = get_or-set_same a.nodes i (f (stored_at a i)) no_stored l

abbrev at_place : Arena → ℕ → StoredNode → Arena
at_place a i n = record { texts = a.texts; traits = a.traits; nodes = set a.nodes i n }

-- one change after another
pub changed_again : (f g : StoredNode → StoredNode) (i : ℕ) (a : Arena) → i < length a.nodes → changed g i (changed f i a) ≡ changed (λ n. g (f n)) i a
changed_again f g i a l =
    ap (λ n. at_place (changed f i a) i (g n)) (stored_changed f i a l)
    ∙ ap (λ ns. record { texts = a.texts; traits = a.traits; nodes = ns }) (set-set a.nodes i (f (stored_at a i)) (g (f (stored_at a i))))

pub changed_as : (f g : StoredNode → StoredNode) (i : ℕ) (a : Arena) → f (stored_at a i) ≡ g (stored_at a i) → changed f i a ≡ changed g i a
changed_as f g i a e = ap (at_place a i) e

pub changed_none : (f : StoredNode → StoredNode) (i : ℕ) (a : Arena) → f (stored_at a i) ≡ stored_at a i → a ≡ changed f i a
changed_none f i a e = sym (ap (at_place a i) e ∙ ap (λ ns. record { texts = a.texts; traits = a.traits; nodes = ns }) (set-get_or a.nodes i no_stored))

-- Names and values.

abbrev with_names : StoredNode → List (ℕ × Stored) → StoredNode
with_names n ps = record { is_open = n.is_open; head = n.head; names = ps; values = n.values }

abbrev with_values : StoredNode → List Stored → StoredNode
with_values n vs = record { is_open = n.is_open; head = n.head; names = n.names; values = vs }

pub no_more_names : (n : StoredNode) → more_names [] n ≡ n
no_more_names n = ap (with_names n) (append-nil n.names)

pub no_more_values : (n : StoredNode) → more_values [] n ≡ n
no_more_values n = ap (with_values n) (append-nil n.values)

name_added : (ps : List (TextId × Stored)) (p : TextId × Stored) (n : StoredNode) → more_part (Named p.0 p.1) (more_names ps n) ≡ more_names (ps ++ p ∷ []) n
name_added ps p n = ap (with_names n) (append_assoc n.names (named ps) ((p.0.0, p.1) ∷ []) ∙ ap (λ w. n.names ++ w) (sym (map-append (λ q. (q.0.0, q.1)) ps (p ∷ []))))

value_added : (vs : List Stored) (v : Stored) (n : StoredNode) → more_part (Item v) (more_values vs n) ≡ more_values (vs ++ v ∷ []) n
value_added vs v n = ap (with_values n) (append_assoc n.values vs (v ∷ []))

entry_added : (vs : List Stored) (k v : Stored) (n : StoredNode) → more_part (Entry k v) (more_values vs n) ≡ more_values (vs ++ k ∷ v ∷ []) n
entry_added vs k v n = ap (with_values n) (append_assoc n.values vs (k ∷ v ∷ []))

pub names_step : (i : ℕ) (a : Arena) (ps : List (TextId × Stored)) (p : TextId × Stored) → i < length a.nodes → changed (more_part (Named p.0 p.1)) i (changed (more_names ps) i a) ≡ changed (more_names (ps ++ p ∷ [])) i a
names_step i a ps p l = changed_again (more_names ps) (more_part (Named p.0 p.1)) i a l ∙ changed_as (λ n. more_part (Named p.0 p.1) (more_names ps n)) (more_names (ps ++ p ∷ [])) i a (name_added ps p (stored_at a i))

pub values_step : (i : ℕ) (a : Arena) (vs : List Stored) (v : Stored) → i < length a.nodes → changed (more_part (Item v)) i (changed (more_values vs) i a) ≡ changed (more_values (vs ++ v ∷ [])) i a
values_step i a vs v l = changed_again (more_values vs) (more_part (Item v)) i a l ∙ changed_as (λ n. more_part (Item v) (more_values vs n)) (more_values (vs ++ v ∷ [])) i a (value_added vs v (stored_at a i))

pub entries_step : (i : ℕ) (a : Arena) (vs : List Stored) (k v : Stored) → i < length a.nodes → changed (more_part (Entry k v)) i (changed (more_values vs) i a) ≡ changed (more_values (vs ++ k ∷ v ∷ [])) i a
entries_step i a vs k v l = changed_again (more_values vs) (more_part (Entry k v)) i a l ∙ changed_as (λ n. more_part (Entry k v) (more_values vs n)) (more_values (vs ++ k ∷ v ∷ [])) i a (entry_added vs k v (stored_at a i))

-- How large the node is then.

pub size_names : (ps : List (TextId × Stored)) (n : StoredNode) → size_of (more_names ps n) ≡ size_of n + length ps
size_names ps n = let place : TextId × Stored → ℕ × Stored = λ q. (q.0.0, q.1) in omega (arith, length-append n.names (named ps), length-map ps place)

parts_most : (h : StoredHead) (m k : ℕ) → parts_of h (m + k) ≤ parts_of h m + k
parts_most (xml_document x) m k = omega arith
parts_most (date p) m k = omega arith
parts_most array m k = omega arith
parts_most (object t) m k = omega arith
parts_most (wrapper c) m k = omega arith
parts_most (xml x) m k = omega arith
parts_most (bytes x) m k = omega arith
parts_most (ints f ns) m k = omega arith
parts_most (uints f ns) m k = omega arith
parts_most (doubles f ns) m k = omega arith
parts_most (values f x) m k = omega arith
parts_most (dictionary f) m k = omega arith

pub size_values : (vs : List Stored) (n : StoredNode) → size_of (more_values vs n) ≤ size_of n + length vs
size_values vs n = let e = ap (parts_of n.head) (length-append n.values vs) in omega (arith, e, parts_most n.head (length n.values) (length vs))

one_entry : (h : StoredHead) (m k : ℕ) → TakesEntry h → m + 2 ≤ k → parts_of h m + 1 ≤ parts_of h k
one_entry (xml_document x) m k t l = absurd t
one_entry (date p) m k t l = absurd t
one_entry array m k t l = absurd t
one_entry (object i) m k t l = absurd t
one_entry (wrapper c) m k t l = absurd t
one_entry (xml x) m k t l = absurd t
one_entry (bytes x) m k t l = absurd t
one_entry (ints f ns) m k t l = absurd t
one_entry (uints f ns) m k t l = absurd t
one_entry (doubles f ns) m k t l = absurd t
one_entry (values f x) m k t l = absurd t
one_entry (dictionary f) m k t l = omega arith

-- with one entry less
pub size_entries : (vs ws : List Stored) (n : StoredNode) → TakesEntry n.head → length vs + 2 ≤ length ws → size_of (more_values vs n) < size_of (more_values ws n)
size_entries vs ws n t l = omega (arith, one_entry n.head (length (n.values ++ vs)) (length (n.values ++ ws)) t (omega (arith, length-append n.values vs, length-append n.values ws)))
