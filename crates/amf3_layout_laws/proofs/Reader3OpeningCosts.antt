-- Texts, traits and the openings of nodes that are read weigh no more than their bytes.
use Rattle.std.proofs.Common.{◌≡◌, ℕ, zero, suc, ◌+◌, ◌*◌, ◌/◌, ◌%◌, ◌≤◌, ◌<◌, Bool, true, false, cond, eqb, List, [], ◌∷◌, length, map, get_or, refl, ap, ◌∙◌, arith, subst, length-append}
use Rattle.std.proofs.lemmas.List.{length-map}
use Rattle.std.proofs.Math.Nat.{mul-suc}
use Rattle.std.specs.Int.{w32, cast_signed}
use Rattle.amf_wire.specs.U29.{u29_value}
use Rattle.amf_io.specs.Field.{Kind, Field, raw_kind, text_kind, flat}
use Rattle.amf_io.specs.Layout.{Layout, give, want, stuck, bind, Runs}
use Rattle.amf_io.proofs.Whole.{whole_some}
use Rattle.amf_io.proofs.Paths.{bind_runs, flat-append}
use Rattle.amf_graph.specs.Arena.{Arena, StoredHead, StoredNode}
use Rattle.amf_graph.specs.Arena as arena
use Rattle.amf_graph.specs.Bounds.{bytes_of, weight}
use Rattle.amf3_spelling.specs.KeptTables.{KeptEntry, plain, external}
use Rattle.amf3_spelling.specs.Refusals3.{text_header_kind, class_header_kind, class_kind}
use Rattle.amf_graph.specs.declared.kind.NodeKind.{NodeKind}
use Rattle.amf_graph.specs.declared.kind.NodeKind.TheVariants as kind
use Rattle.amf3_layout_laws.specs.Layout3State.{State3, with_contents}
use Rattle.amf3_layout_laws.specs.Layout3Words.{chunk, TextRead, known_text, new_text, text_behind, text_by, text_layout, class_layout, TextsRead, more_text, texts_layout, Outline, head_of, known_traits, plain_traits, external_traits, inline_traits, external_layout, traits_layout}
use Rattle.amf3_layout_laws.specs.Layout3.{flag_layout, four_layout, eight_layout, many, whole_node, opening, ValueRead}
use Rattle.amf3_layout_laws.proofs.Layout3SoundTexts.{give_is}
use Rattle.amf3_layout_laws.proofs.Layout3SoundOpenings.{raw_long}
use Rattle.amf3_layout_laws.proofs.Reader3Weight.{weight_text, weight_traits}

-- what is read, by its size, is at most so much more than its bytes
abbrev pub Costs : {X : Type 0} → (X → ℕ) → ℕ → Layout X → Type 0
Costs {X} size c t = (fs : List Field) (x : X) → Runs t fs x → size x ≤ c + length (flat fs)

pub costs_give : {X : Type 0} (size : X → ℕ) (c : ℕ) (x : X) → size x ≤ c → Costs size c (give x)
costs_give size c x le [] y r = subst (λ z. size z ≤ c + 0) (give_is x y r) (omega arith)
costs_give size c x le (f ∷ fs) y r = absurd r

pub costs_stuck : {X : Type 0} (size : X → ℕ) (c : ℕ) → Costs size c stuck
costs_stuck size c [] x r = absurd cc
costs_stuck size c (f ∷ fs) x r = absurd r

pub costs_want : {X : Type 0} (size : X → ℕ) (c : ℕ) (k : Kind) (next : List ℕ → Layout X) → ((b : List ℕ) → 1 ≤ length b → Costs size (c + length b) (next b)) → Costs size c (want k next)
costs_want size c k next h [] x r = absurd cc
costs_want size c k next h (f ∷ fs) x r =
    let some = whole_some k.size f.bytes (length f.bytes) r.0.is_whole in
    omega (arith, h f.bytes some fs x r.1, length-append f.bytes (flat fs))

pub costs_bind : {X Y : Type 0} (size : X → ℕ) (size' : Y → ℕ) (c : ℕ) (t : Layout X) (g : X → Layout Y) → Costs size c t → ((x : X) → Costs size' (size x) (g x)) → Costs size' c (bind t g)
costs_bind size size' c t g h k fs y r =
    let a = bind_runs t g fs y r in
    omega (arith, h a.front a.value a.first, k a.value a.back y a.second, ap length (ap flat a.parts ∙ flat-append a.front a.back), length-append (flat a.front) (flat a.back))

-- what follows may go back to what was there before
pub costs_bind_back : {X Y : Type 0} (size : X → ℕ) (size' : Y → ℕ) (c : ℕ) (t : Layout X) (g : X → Layout Y) → Costs size c t → ((x : X) (m : ℕ) → c ≤ m → size x ≤ m → Costs size' m (g x)) → Costs size' c (bind t g)
costs_bind_back size size' c t g h k fs y r =
    let a = bind_runs t g fs y r in
    let m = c + length (flat a.front) in
    omega (arith, k a.value m (omega arith) (h a.front a.value a.first) a.back y a.second, ap length (ap flat a.parts ∙ flat-append a.front a.back), length-append (flat a.front) (flat a.back))

pub costs_cond : {X : Type 0} (size : X → ℕ) (c : ℕ) (b : Bool) (t u : Layout X) → Costs size c t → Costs size c u → Costs size c (cond b t u)
costs_cond size c true t u h k = h
costs_cond size c false t u h k = k

-- with more on both sides
pub costs_more : {X : Type 0} (size : X → ℕ) (c k : ℕ) (t : Layout X) → Costs size c t → Costs (λ x. size x + k) (c + k) t
costs_more size c k t h fs x r = omega (arith, h fs x r)

pub costs_within : {X : Type 0} (size : X → ℕ) (c d : ℕ) (t : Layout X) → c ≤ d → Costs size c t → Costs size d t
costs_within size c d t le h fs x r = omega (arith, h fs x r)

-- what leaves everything as it was
pub costs_nothing : {X : Type 0} (c : ℕ) (t : Layout X) → Costs (λ x. c) c t
costs_nothing c t fs x r = omega arith

costs_chunk : {X : Type 0} (size : X → ℕ) (c : ℕ) (kind : ℕ → Kind) (n : ℕ) (f : List ℕ → X) → ((x : List ℕ) → size (f x) ≤ c + length x) → Costs size c (chunk kind n (λ x. give (f x)))
costs_chunk size c kind zero f h = costs_give size c (f []) (omega (arith, h []))
costs_chunk size c kind (suc n) f h = costs_want size c (kind (suc n)) (λ x. give (f x)) (λ b some. costs_give size (c + length b) (f b) (h b))

-- so many bytes for each number
costs_many : (c k n : ℕ) (t : Layout ℕ) → Costs (λ x. c + k) c t → Costs (λ (ns : List ℕ). c + k * length ns) c (many n t)
costs_many c k zero t h = costs_give (λ (ns : List ℕ). c + k * length ns) c [] (omega arith)
costs_many c k (suc n) t h =
    costs_bind (λ (x : ℕ). c + k) (λ (ns : List ℕ). c + k * length ns) c t (λ x. bind (many n t) (λ xs. give (x ∷ xs))) h
    (λ x. costs_bind (λ (ns : List ℕ). c + k * length ns + k) (λ (ns : List ℕ). c + k * length ns) (c + k) (many n t) (λ xs. give (x ∷ xs)) (costs_more (λ (ns : List ℕ). c + k * length ns) c k (many n t) (costs_many c k n t h))
    (λ xs. costs_give (λ (ns : List ℕ). c + k * length ns) (c + k * length xs + k) (x ∷ xs) (omega (arith, mul-suc k (length xs)))))

-- The sizes.

abbrev pub state_size : State3 → ℕ
state_size s = weight s.arena

abbrev pub text_size : TextRead → ℕ
text_size x = weight x.state.arena + 1

abbrev pub texts_size : TextsRead → ℕ
texts_size x = weight x.state.arena + length x.ids

abbrev pub opening_size : Outline → ℕ
opening_size o = weight o.state.arena + bytes_of o.head

abbrev pub value_size : ValueRead → ℕ
value_size x = weight x.state.arena + 1

-- Texts: each takes a byte more than it has.

costs_text_by : (header : Kind) (contents : ℕ → Kind) (s : State3) → Costs text_size (state_size s) (text_by header contents s)
costs_text_by header contents s =
    costs_want text_size (state_size s) header (λ b. text_behind contents s (u29_value b))
    (λ b some. costs_cond text_size (state_size s + length b) (eqb (u29_value b % 2) 0) (give (known_text s (u29_value b / 2))) (chunk contents (u29_value b / 2) (λ x. give (new_text s x)))
    (costs_give text_size (state_size s + length b) (known_text s (u29_value b / 2)) (omega arith))
    (costs_chunk text_size (state_size s + length b) contents (u29_value b / 2) (new_text s) (λ x. omega (arith, weight_text s.arena x))))

pub costs_text : (s : State3) → Costs text_size (state_size s) (text_layout s)
costs_text s = costs_text_by (text_header_kind (length s.words.texts)) text_kind s

pub costs_class : (s : State3) → Costs text_size (state_size s) (class_layout s)
costs_class s = costs_text_by (class_header_kind s.words.texts) class_kind s

pub costs_texts : (n : ℕ) (s : State3) → Costs texts_size (state_size s) (texts_layout n s)
costs_texts zero s = costs_give texts_size (state_size s) (record { ids = []; texts = []; state = s }) (omega arith)
costs_texts (suc n) s =
    costs_bind text_size texts_size (state_size s) (text_layout s) (λ x. bind (texts_layout n x.state) (λ xs. give (more_text x xs))) (costs_text s)
    (λ x. costs_bind (λ (xs : TextsRead). texts_size xs + 1) texts_size (text_size x) (texts_layout n x.state) (λ xs. give (more_text x xs)) (costs_more texts_size (state_size x.state) 1 (texts_layout n x.state) (costs_texts n x.state))
    (λ xs. costs_give texts_size (texts_size xs + 1) (more_text x xs) (omega arith)))

-- Traits.

head_bytes : (e : KeptEntry) → bytes_of (head_of e) ≡ 0
head_bytes (plain t) = refl
head_bytes (external t c) = refl

costs_inline : (h : ℕ) (s : State3) → Costs opening_size (state_size s) (inline_traits h s)
costs_inline h s =
    costs_bind text_size opening_size (state_size s) (text_layout s) (λ class. bind (texts_layout (h / 16) class.state) (λ names. give (plain_traits (eqb ((h / 8) % 2) 1) class names))) (costs_text s)
    (λ class. costs_bind (λ (xs : TextsRead). texts_size xs + 1) opening_size (text_size class) (texts_layout (h / 16) class.state) (λ names. give (plain_traits (eqb ((h / 8) % 2) 1) class names)) (costs_more texts_size (state_size class.state) 1 (texts_layout (h / 16) class.state) (costs_texts (h / 16) class.state))
    (λ names. costs_give opening_size (texts_size names + 1) (plain_traits (eqb ((h / 8) % 2) 1) class names) (omega (arith, weight_traits names.state.arena (record { class = class.id; dynamic = eqb ((h / 8) % 2) 1; sealed = names.ids })))))

costs_external : (s : State3) → Costs opening_size (state_size s) (external_layout s)
costs_external s =
    costs_bind text_size opening_size (state_size s) (class_layout s) (λ class. give (external_traits class)) (costs_class s)
    (λ class. costs_give opening_size (text_size class) (external_traits class) (omega (arith, weight_traits class.state.arena (record { class = class.id; dynamic = false; sealed = [] }))))

pub costs_traits : (h : ℕ) (s : State3) → Costs opening_size (state_size s) (traits_layout h s)
costs_traits h s =
    costs_cond opening_size (state_size s) (eqb (h % 4) 1) (give (known_traits s (h / 4))) (cond (eqb (h % 8) 3) (inline_traits h s) (external_layout s))
    (costs_give opening_size (state_size s) (known_traits s (h / 4)) (omega (arith, head_bytes (get_or s.tables.traits (h / 4) (plain 0)))))
    (costs_cond opening_size (state_size s) (eqb (h % 8) 3) (inline_traits h s) (external_layout s) (costs_inline h s) (costs_external s))

-- What stands behind a node's header.

costs_four : (c : ℕ) → Costs (λ (n : ℕ). c + 4) c four_layout
costs_four c [] x r = absurd cc
costs_four c (f ∷ fs) x r = omega (arith, raw_long 4 f r.0, length-append f.bytes (flat fs))

costs_eight : (c : ℕ) → Costs (λ (n : ℕ). c + 8) c eight_layout
costs_eight c [] x r = absurd cc
costs_eight c (f ∷ fs) x r = omega (arith, raw_long 8 f r.0, length-append f.bytes (flat fs))

costs_flagged : {X : Type 0} (size : X → ℕ) (c : ℕ) (g : Bool → Layout X) → ((f : Bool) → Costs size c (g f)) → Costs size c (bind flag_layout g)
costs_flagged size c g h = costs_bind (λ (f : Bool). c) size c flag_layout g (costs_nothing c flag_layout) h

costs_numbers : (k n : ℕ) (t : Layout ℕ) (s : State3) (head : List ℕ → StoredHead) → ((c : ℕ) → Costs (λ (x : ℕ). c + k) c t) → ((ns : List ℕ) → bytes_of (head ns) ≡ k * length ns) → Costs opening_size (state_size s) (bind (many n t) (λ ns. give (whole_node s (head ns))))
costs_numbers k n t s head h e =
    costs_bind (λ (ns : List ℕ). state_size s + k * length ns) opening_size (state_size s) (many n t) (λ ns. give (whole_node s (head ns))) (costs_many (state_size s) k n t (h (state_size s)))
    (λ ns. costs_give opening_size (state_size s + k * length ns) (whole_node s (head ns)) (omega (arith, e ns)))

pub costs_opening : (f : NodeKind) (h : ℕ) (s : State3) → Costs opening_size (state_size s) (opening f h s)
costs_opening kind.XmlDocument h s = costs_chunk opening_size (state_size s) text_kind (h / 2) (λ x. whole_node (with_contents s x) (arena.xml_document (length s.arena.texts))) (λ x. omega (arith, weight_text s.arena x))
costs_opening kind.Date h s =
    costs_bind (λ (p : ℕ). state_size s) opening_size (state_size s) eight_layout (λ p. give (whole_node s (arena.date p))) (costs_nothing (state_size s) eight_layout)
    (λ p. costs_give opening_size (state_size s) (whole_node s (arena.date p)) (omega arith))
costs_opening kind.Array h s = costs_give opening_size (state_size s) (record { head = arena.array; count = h / 2; twins = false; first = true; last = false; state = s }) (omega arith)
costs_opening kind.Object h s = costs_traits h s
costs_opening kind.Wrapper h s = costs_traits h s
costs_opening kind.Xml h s = costs_chunk opening_size (state_size s) text_kind (h / 2) (λ x. whole_node (with_contents s x) (arena.xml (length s.arena.texts))) (λ x. omega (arith, weight_text s.arena x))
costs_opening kind.Bytes h s = costs_chunk opening_size (state_size s) raw_kind (h / 2) (λ x. whole_node s (arena.bytes x)) (λ x. omega arith)
costs_opening kind.Ints h s =
    costs_flagged opening_size (state_size s) (λ f. bind (many (h / 2) four_layout) (λ ns. give (whole_node s (arena.ints f (map (cast_signed w32) ns)))))
    (λ f. costs_numbers 4 (h / 2) four_layout s (λ ns. arena.ints f (map (cast_signed w32) ns)) costs_four (λ ns. ap (λ n. 4 * n) (length-map ns (cast_signed w32))))
costs_opening kind.Uints h s =
    costs_flagged opening_size (state_size s) (λ f. bind (many (h / 2) four_layout) (λ ns. give (whole_node s (arena.uints f ns))))
    (λ f. costs_numbers 4 (h / 2) four_layout s (arena.uints f) costs_four (λ ns. refl))
costs_opening kind.Doubles h s =
    costs_flagged opening_size (state_size s) (λ f. bind (many (h / 2) eight_layout) (λ ns. give (whole_node s (arena.doubles f ns))))
    (λ f. costs_numbers 8 (h / 2) eight_layout s (arena.doubles f) costs_eight (λ ns. refl))
costs_opening kind.Values h s =
    costs_flagged opening_size (state_size s) (λ f. bind (text_layout s) (λ x. give (record { head = arena.values f x.id; count = h / 2; twins = false; first = false; last = false; state = x.state })))
    (λ f. costs_bind text_size opening_size (state_size s) (text_layout s) (λ x. give (record { head = arena.values f x.id; count = h / 2; twins = false; first = false; last = false; state = x.state })) (costs_text s)
    (λ x. costs_give opening_size (text_size x) (record { head = arena.values f x.id; count = h / 2; twins = false; first = false; last = false; state = x.state }) (omega arith)))
costs_opening kind.Dictionary h s =
    costs_flagged opening_size (state_size s) (λ f. give (record { head = arena.dictionary f; count = h / 2; twins = true; first = false; last = false; state = s }))
    (λ f. costs_give opening_size (state_size s) (record { head = arena.dictionary f; count = h / 2; twins = true; first = false; last = false; state = s }) (omega arith))

-- The same in words of weights.

pub text_costs : (s : State3) (fs : List Field) (x : TextRead) → Runs (text_layout s) fs x → weight x.state.arena < weight s.arena + length (flat fs)
text_costs s fs x r = let c = costs_text s fs x r in omega arith

pub class_costs : (s : State3) (fs : List Field) (x : TextRead) → Runs (class_layout s) fs x → weight x.state.arena < weight s.arena + length (flat fs)
class_costs s fs x r = let c = costs_class s fs x r in omega arith

-- with a place for each
pub texts_costs : (n : ℕ) (s : State3) (fs : List Field) (x : TextsRead) → Runs (texts_layout n s) fs x → weight x.state.arena + length x.ids ≤ weight s.arena + length (flat fs)
texts_costs n s fs x r = costs_texts n s fs x r

-- with what is kept in the node itself
pub opening_costs : (f : NodeKind) (h : ℕ) (s : State3) (fs : List Field) (o : Outline) → Runs (opening f h s) fs o → weight o.state.arena + bytes_of o.head ≤ weight s.arena + length (flat fs)
opening_costs f h s fs o r = costs_opening f h s fs o r
