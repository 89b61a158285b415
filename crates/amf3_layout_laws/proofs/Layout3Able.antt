-- What has been read of a value of AMF 3 can be completed.
use Rattle.std.proofs.Common.{◌≡◌, ℕ, zero, suc, ◌/◌, ◌%◌, ◌≤◌, ◌<◌, Bool, true, false, cond, eqb, ltb, leb, not, ◌&&◌, List, [], ◌∷◌, length, map, slice_index, slice_get, Option, Some, None, refl, sym, ap, ◌∙◌, arith}
use Rattle.std.specs.Int.{from_be_bytes, w32, w64, cast_signed}
use Rattle.amf_wire.specs.U29.{one, u29_value}
use Rattle.amf_wire.specs.Integer.{integer_of}
use Rattle.amf_io.specs.declared.reason.Reason.{Reason}
use Rattle.amf_io.specs.declared.reason.Reason.TheVariants.{BadMarker, BadTraits, UnknownExternal}
use Rattle.amf_io.specs.Field.{Kind, field, fixed, raw_kind, text_kind, u29_kind, no_refusal}
use Rattle.amf_io.specs.Layout.{Layout, give, bind}
use Rattle.amf_io.proofs.Whole.{whole_some}
use Rattle.amf_io.proofs.Ables.{AbleWithin, able_none, able_less, able_give, able_bind, able_bind_less, able_cond, able_want}
use Rattle.amf_graph.specs.declared.value.Value.TheVariants.{Undefined, Null, Bool as Flag, Integer, Double, Text, Node}
use Rattle.amf_graph.specs.Arena as arena
use Rattle.amf_graph.specs.Building.{more_value, more_name, shut, more_entry}
use Rattle.amf3_spelling.specs.Refusals3.{marker_refusal, header_refusal, text_header_refusal, class_header_refusal, indexed_class_refusal, is_served_length, text_header_kind, class_kind, marker_kind, header_kind}
use Rattle.amf_graph.specs.declared.kind.NodeKind.{NodeKind}
use Rattle.amf_graph.specs.declared.kind.NodeKind.TheVariants as kind
use Rattle.amf3_spelling.specs.declared.marker.Marker.{Marker}
use Rattle.amf3_spelling.specs.declared.marker.Marker.TheVariants as marker
use Rattle.amf3_spelling.specs.Markers3.{node_marker, marker_byte, marker_at}
use Rattle.amf3_layout_laws.specs.Layout3State.{State3, with_contents, with_node, changed}
use Rattle.amf3_layout_laws.specs.Layout3Words.{chunk, TextRead, known_text, new_text, text_behind, text_layout, class_layout, more_text, texts_layout, Outline, known_traits, plain_traits, external_traits, inline_traits, external_layout, traits_layout}
use Rattle.amf3_layout_laws.specs.Layout3.{flag_layout, four_layout, eight_layout, many, whole_node, opening, ValueRead, read, items, entries, items_of, is_empty, pairs, pairs_if, parts, inline_node, known_node, node_layout, behind_marker, value_layout}
use Rattle.amf3_layout_laws.proofs.Layout3Fills.{Filled, text_filled, raw_filled, number_filled, class_filled, able_field, able_chunk}

one_byte : (refusal : ℕ → Option Reason) (n : ℕ) → n < 128 → refusal n ≡ None → Filled (u29_kind refusal)
one_byte refusal n h e = number_filled refusal n (n ∷ []) (one n h refl refl) e

-- Texts.

able_text_behind : (N : ℕ) (contents : ℕ → Kind) (s : State3) (h : ℕ) → (eqb (h % 2) 0 ≡ false → (j : ℕ) → h / 2 ≡ suc j → Filled (contents (suc j))) → AbleWithin N (text_behind contents s h)
able_text_behind N contents s h fill =
    able_cond N (eqb (h % 2) 0) (give (known_text s (h / 2))) (chunk contents (h / 2) (λ x. give (new_text s x))) (λ _. able_give N (known_text s (h / 2))) (λ odd. able_chunk N contents (h / 2) (new_text s) (fill odd))

pub able_text : (N : ℕ) (s : State3) → AbleWithin N (text_layout s)
able_text N s =
    able_field N (text_header_kind (length s.words.texts)) (λ b. text_behind text_kind s (u29_value b)) (one_byte (text_header_refusal (length s.words.texts)) 1 (omega arith) refl) (λ b w ok. able_text_behind N text_kind s (u29_value b) (λ _ j e. text_filled j))

class_served : (texts : List (List ℕ)) (h : ℕ) → class_header_refusal texts h ≡ None → eqb (h % 2) 0 ≡ false → is_served_length (h / 2) ≡ true
class_served texts h ok odd = go (is_served_length (h / 2)) refl (ap (λ b. cond b (indexed_class_refusal (slice_get texts (h / 2))) (cond (is_served_length (h / 2)) None (Some UnknownExternal))) (sym odd) ∙ ok)
  where
    go : (b : Bool) → is_served_length (h / 2) ≡ b → cond b None (Some UnknownExternal) ≡ None → is_served_length (h / 2) ≡ true
    go true e f = e
    go false e f = absurd cc

able_class : (N : ℕ) (s : State3) → AbleWithin N (class_layout s)
able_class N s =
    able_field N (u29_kind (class_header_refusal s.words.texts)) (λ b. text_behind class_kind s (u29_value b)) (one_byte (class_header_refusal s.words.texts) 67 (omega arith) refl)
    (λ b w ok. able_text_behind N class_kind s (u29_value b) (λ odd j e. class_filled (u29_value b / 2) j e (class_served s.words.texts (u29_value b) ok odd)))

able_texts : (N k : ℕ) (s : State3) → AbleWithin N (texts_layout k s)
able_texts N zero s = able_give N (record { ids = []; texts = []; state = s })
able_texts N (suc k) s =
    able_bind N (text_layout s) (λ x. bind (texts_layout k x.state) (λ xs. give (more_text x xs))) (able_text N s) (λ x. able_bind N (texts_layout k x.state) (λ xs. give (more_text x xs)) (able_texts N k x.state) (λ xs. able_give N (more_text x xs)))

-- Traits.

abbrev class_names : ℕ → TextRead → Layout Outline
class_names h class = bind (texts_layout (h / 16) class.state) (λ names. give (plain_traits (eqb ((h / 8) % 2) 1) class names))

able_inline : (N h : ℕ) (s : State3) → AbleWithin N (inline_traits h s)
able_inline N h s =
    able_bind N (text_layout s) (class_names h) (able_text N s)
    (λ class. able_bind N (texts_layout (h / 16) class.state) (λ names. give (plain_traits (eqb ((h / 8) % 2) 1) class names)) (able_texts N (h / 16) class.state) (λ names. able_give N (plain_traits (eqb ((h / 8) % 2) 1) class names)))

able_external : (N : ℕ) (s : State3) → AbleWithin N (external_layout s)
able_external N s = able_bind N (class_layout s) (λ class. give (external_traits class)) (able_class N s) (λ class. able_give N (external_traits class))

able_traits : (N h : ℕ) (s : State3) → AbleWithin N (traits_layout h s)
able_traits N h s =
    able_cond N (eqb (h % 4) 1) (give (known_traits s (h / 4))) (cond (eqb (h % 8) 3) (inline_traits h s) (external_layout s)) (λ _. able_give N (known_traits s (h / 4)))
    (λ _. able_cond N (eqb (h % 8) 3) (inline_traits h s) (external_layout s) (λ _. able_inline N h s) (λ _. able_external N s))

-- Parts without text and nodes.

able_flag : (N : ℕ) → AbleWithin N flag_layout
able_flag N = able_field N (raw_kind 1) (λ b. give (not (eqb (slice_index b 0) 0))) (raw_filled 0) (λ b w ok. able_give N (not (eqb (slice_index b 0) 0)))

able_four : (N : ℕ) → AbleWithin N four_layout
able_four N = able_field N (raw_kind 4) (λ b. give (from_be_bytes w32 b)) (raw_filled 3) (λ b w ok. able_give N (from_be_bytes w32 b))

able_eight : (N : ℕ) → AbleWithin N eight_layout
able_eight N = able_field N (raw_kind 8) (λ b. give (from_be_bytes w64 b)) (raw_filled 7) (λ b w ok. able_give N (from_be_bytes w64 b))

able_many : (N k : ℕ) (t : Layout ℕ) → AbleWithin N t → AbleWithin N (many k t)
able_many N zero t h = able_give N []
able_many N (suc k) t h = able_bind N t (λ x. bind (many k t) (λ xs. give (x ∷ xs))) h (λ x. able_bind N (many k t) (λ xs. give (x ∷ xs)) (able_many N k t h) (λ xs. able_give N (x ∷ xs)))

-- a flag, numbers, and a node of them
able_numbers : (N k : ℕ) (s : State3) (t : Layout ℕ) (head : Bool → List ℕ → arena.StoredHead) → AbleWithin N t → AbleWithin N (bind flag_layout (λ f. bind (many k t) (λ ns. give (whole_node s (head f ns)))))
able_numbers N k s t head h =
    able_bind N flag_layout (λ f. bind (many k t) (λ ns. give (whole_node s (head f ns)))) (able_flag N) (λ f. able_bind N (many k t) (λ ns. give (whole_node s (head f ns))) (able_many N k t h) (λ ns. able_give N (whole_node s (head f ns))))

abbrev of_values : Bool → ℕ → TextRead → Outline
of_values f h x = record { head = arena.values f x.id; count = h / 2; twins = false; first = false; last = false; state = x.state }

able_opening : (N : ℕ) (f : NodeKind) (h : ℕ) (s : State3) → AbleWithin N (opening f h s)
able_opening N kind.XmlDocument h s = able_chunk N text_kind (h / 2) (λ x. whole_node (with_contents s x) (arena.xml_document (length s.arena.texts))) (λ j e. text_filled j)
able_opening N kind.Date h s = able_bind N eight_layout (λ p. give (whole_node s (arena.date p))) (able_eight N) (λ p. able_give N (whole_node s (arena.date p)))
able_opening N kind.Array h s = able_give N (record { head = arena.array; count = h / 2; twins = false; first = true; last = false; state = s })
able_opening N kind.Object h s = able_traits N h s
able_opening N kind.Wrapper h s = able_traits N h s
able_opening N kind.Xml h s = able_chunk N text_kind (h / 2) (λ x. whole_node (with_contents s x) (arena.xml (length s.arena.texts))) (λ j e. text_filled j)
able_opening N kind.Bytes h s = able_chunk N raw_kind (h / 2) (λ x. whole_node s (arena.bytes x)) (λ j e. raw_filled j)
able_opening N kind.Ints h s = able_numbers N (h / 2) s four_layout (λ f ns. arena.ints f (map (cast_signed w32) ns)) (able_four N)
able_opening N kind.Uints h s = able_numbers N (h / 2) s four_layout arena.uints (able_four N)
able_opening N kind.Doubles h s = able_numbers N (h / 2) s eight_layout arena.doubles (able_eight N)
able_opening N kind.Values h s =
    able_bind N flag_layout (λ f. bind (text_layout s) (λ x. give (of_values f h x))) (able_flag N) (λ f. able_bind N (text_layout s) (λ x. give (of_values f h x)) (able_text N s) (λ x. able_give N (of_values f h x)))
able_opening N kind.Dictionary h s =
    able_bind N flag_layout (λ f. give (record { head = arena.dictionary f; count = h / 2; twins = true; first = false; last = false; state = s })) (able_flag N)
    (λ f. able_give N (record { head = arena.dictionary f; count = h / 2; twins = true; first = false; last = false; state = s }))

-- The parts of nodes, where the values inside can be completed.

abbrev Reader : Type 0
Reader = State3 → Layout ValueRead

abbrev Inner : Reader → ℕ → Type 0
Inner v N = (s : State3) → AbleWithin N (v s)

able_items : (v : Reader) (N : ℕ) → Inner v N → (id k : ℕ) (s : State3) → AbleWithin N (items v id k s)
able_items v N i id zero s = able_give N s
able_items v N i id (suc k) s = able_bind N (v s) (λ x. items v id k (changed (more_value x.value) id x.state)) (i s) (λ x. able_items v N i id k (changed (more_value x.value) id x.state))

abbrev valued : Reader → ℕ → ℕ → ValueRead → ValueRead → Layout State3
valued v id n k x = entries v id n (changed (more_entry k.value x.value) id x.state)

able_entries : (v : Reader) (N : ℕ) → Inner v N → (id k : ℕ) (s : State3) → AbleWithin N (entries v id k s)
able_entries v N i id zero s = able_give N s
able_entries v N i id (suc k) s =
    able_bind N (v s) (λ x. bind (v x.state) (valued v id k x)) (i s) (λ x. able_bind N (v x.state) (valued v id k x) (i x.state) (λ y. able_entries v N i id k (changed (more_entry x.value y.value) id y.state)))

able_items_of : (b : Bool) (v : Reader) (N : ℕ) → Inner v N → (id k : ℕ) (s : State3) → AbleWithin N (items_of b v id k s)
able_items_of b v N i id k s = able_cond N b (entries v id k s) (items v id k s) (λ _. able_entries v N i id k s) (λ _. able_items v N i id k s)

abbrev on : Reader → ℕ → ℕ → TextRead → ValueRead → Layout State3
on v f id x y = pairs v f id (changed (more_name x.id y.value) id y.state)

abbrev behind_name : Reader → ℕ → ℕ → State3 → TextRead → Layout State3
behind_name v f id s x = cond (is_empty x.bytes) (give s) (bind (v x.state) (on v f id x))

able_pairs : (v : Reader) (N : ℕ) → Inner v N → (f id : ℕ) (s : State3) → f ≤ N → AbleWithin f (pairs v f id s)
able_pairs v N i zero id s few = able_none (pairs v 0 id s)
able_pairs v N i (suc f) id s few =
    able_bind_less f (text_layout s) (behind_name v f id s) (able_text (suc f) s) (λ x e. absurd cc)
    (λ x. able_cond f (is_empty x.bytes) (give s) (bind (v x.state) (on v f id x)) (λ _. able_give f s)
    (λ _. able_bind f (v x.state) (on v f id x) (able_less N f (v x.state) (omega arith) (i x.state)) (λ y. able_pairs v N i f id (changed (more_name x.id y.value) id y.state) (omega arith))))
    (record { more = field (text_header_kind (length s.words.texts)) (1 ∷ []) ∷ []; bytes = (omega arith, tt); value = s; runs = (record { is_kind = refl; is_whole = refl; clean = refl }, refl) })

able_pairs_if : (b : Bool) (v : Reader) (N : ℕ) → Inner v N → (id : ℕ) (s : State3) → AbleWithin N (pairs_if b v N id s)
able_pairs_if b v N i id s = able_cond N b (pairs v N id s) (give s) (λ _. able_pairs v N i N id s (omega arith)) (λ _. able_give N s)

abbrev ending : ℕ → State3 → Layout ValueRead
ending id u = give (read (Node (record { 0 = id })) (changed shut id u))

abbrev behind_items : Reader → ℕ → ℕ → Bool → State3 → Layout ValueRead
behind_items v f id last t = bind (pairs_if last v f id t) (ending id)

abbrev behind_pairs : Reader → ℕ → ℕ → Outline → State3 → Layout ValueRead
behind_pairs v f id o s = bind (items_of o.twins v id o.count s) (behind_items v f id o.last)

able_parts : (v : Reader) (N : ℕ) → Inner v N → (o : Outline) → AbleWithin N (parts v N o)
able_parts v N i o =
    let id = length o.state.arena.nodes in
    let z = with_node o.state o.head in
    able_bind N (pairs_if o.first v N id z) (behind_pairs v N id o) (able_pairs_if o.first v N i id z)
    (λ s. able_bind N (items_of o.twins v id o.count s) (behind_items v N id o.last) (able_items_of o.twins v N i id o.count s)
    (λ t. able_bind N (pairs_if o.last v N id t) (ending id) (able_pairs_if o.last v N i id t) (λ u. able_give N (read (Node (record { 0 = id })) (changed shut id u)))))

-- a header of one byte begins each kind of node
three_clean : (marks : List ℕ) (traits m : ℕ) → header_refusal marks traits m 3 ≡ None
three_clean marks traits m = ap (λ t. cond (t && leb traits 0) (Some BadTraits) None) (and_false (eqb m 10))
  where
    and_false : (b : Bool) → (b && false) ≡ false
    and_false true = refl
    and_false false = refl

able_node : (v : Reader) (N : ℕ) → Inner v N → (f : NodeKind) (s : State3) → AbleWithin N (node_layout v N f s)
able_node v N i f s =
    able_field N (header_kind s.marks (length s.words.traits) (node_marker f)) (λ b. cond (eqb (u29_value b % 2) 0) (give (known_node s (u29_value b / 2))) (inline_node v N f (u29_value b) s))
    (one_byte (header_refusal s.marks (length s.words.traits) (node_marker f)) 3 (omega arith) (three_clean s.marks (length s.words.traits) (node_marker f)))
    (λ b w ok. able_cond N (eqb (u29_value b % 2) 0) (give (known_node s (u29_value b / 2))) (inline_node v N f (u29_value b) s) (λ _. able_give N (known_node s (u29_value b / 2)))
    (λ _. able_bind N (opening f (u29_value b) s) (parts v N) (able_opening N f (u29_value b) s) (able_parts v N i)))

-- A byte that is a marker is the byte of that marker.

pub byte_at : (m : ℕ) → m < 18 → marker_byte (marker_at m) ≡ m
byte_at zero h = refl
byte_at (suc zero) h = refl
byte_at (suc (suc zero)) h = refl
byte_at (suc (suc (suc zero))) h = refl
byte_at (suc (suc (suc (suc zero)))) h = refl
byte_at (suc (suc (suc (suc (suc zero))))) h = refl
byte_at (suc (suc (suc (suc (suc (suc zero)))))) h = refl
byte_at (suc (suc (suc (suc (suc (suc (suc zero))))))) h = refl
byte_at (suc (suc (suc (suc (suc (suc (suc (suc zero)))))))) h = refl
byte_at (suc (suc (suc (suc (suc (suc (suc (suc (suc zero))))))))) h = refl
byte_at (suc (suc (suc (suc (suc (suc (suc (suc (suc (suc zero)))))))))) h = refl
byte_at (suc (suc (suc (suc (suc (suc (suc (suc (suc (suc (suc zero))))))))))) h = refl
byte_at (suc (suc (suc (suc (suc (suc (suc (suc (suc (suc (suc (suc zero)))))))))))) h = refl
byte_at (suc (suc (suc (suc (suc (suc (suc (suc (suc (suc (suc (suc (suc zero))))))))))))) h = refl
byte_at (suc (suc (suc (suc (suc (suc (suc (suc (suc (suc (suc (suc (suc (suc zero)))))))))))))) h = refl
byte_at (suc (suc (suc (suc (suc (suc (suc (suc (suc (suc (suc (suc (suc (suc (suc zero))))))))))))))) h = refl
byte_at (suc (suc (suc (suc (suc (suc (suc (suc (suc (suc (suc (suc (suc (suc (suc (suc zero)))))))))))))))) h = refl
byte_at (suc (suc (suc (suc (suc (suc (suc (suc (suc (suc (suc (suc (suc (suc (suc (suc (suc zero))))))))))))))))) h = refl
byte_at (suc (suc (suc (suc (suc (suc (suc (suc (suc (suc (suc (suc (suc (suc (suc (suc (suc (suc m)))))))))))))))))) h = absurd (omega arith)

-- a marker that is not refused is one of them
pub marker_below : (m : ℕ) → marker_refusal m ≡ None → m < 18
marker_below m ok = go (ltb 17 m) refl ok
  where
    not_more : (m : ℕ) → ltb 17 m ≡ false → m < 18
    not_more m e = grind arith

    go : (b : Bool) → ltb 17 m ≡ b → cond b (Some BadMarker) None ≡ None → m < 18
    go true e f = absurd cc
    go false e f = not_more m e

able_marker : (v : Reader) (N : ℕ) → Inner v N → (s : State3) (x : Marker) → AbleWithin N (behind_marker v N s x)
able_marker v N i s marker.Undefined = able_give N (read Undefined s)
able_marker v N i s marker.Null = able_give N (read Null s)
able_marker v N i s marker.False = able_give N (read (Flag false) s)
able_marker v N i s marker.True = able_give N (read (Flag true) s)
able_marker v N i s marker.Integer = able_field N (u29_kind no_refusal) (λ b. give (read (Integer (integer_of (u29_value b))) s)) (one_byte no_refusal 0 (omega arith) refl) (λ b w c. able_give N (read (Integer (integer_of (u29_value b))) s))
able_marker v N i s marker.Double = able_bind N eight_layout (λ p. give (read (Double (record { 0 = p })) s)) (able_eight N) (λ p. able_give N (read (Double (record { 0 = p })) s))
able_marker v N i s marker.Text = able_bind N (text_layout s) (λ x. give (read (Text (record { 0 = x.id })) x.state)) (able_text N s) (λ x. able_give N (read (Text (record { 0 = x.id })) x.state))
able_marker v N i s (marker.Node f) = able_node v N i f s

-- what has been read in fewer bytes than the fuel can be completed, since the byte of a null is a value
pub value_able : (n : ℕ) (s : State3) → AbleWithin n (value_layout n s)
value_able zero s = able_none (value_layout 0 s)
value_able (suc N) s =
    able_want (suc N) N marker_kind (λ b. behind_marker (value_layout N) N s (marker_at (slice_index b 0))) (field marker_kind (1 ∷ [])) (record { is_kind = refl; is_whole = refl; clean = refl }) (omega arith, tt)
    (record { more = []; bytes = tt; value = read Null s; runs = refl }) (λ b w ok. able_marker (value_layout N) N (value_able N) s (marker_at (slice_index b 0)))
    (λ b i w lt. let some = whole_some (fixed 1) b (length b) w in omega arith)
