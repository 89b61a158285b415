-- A speller of AMF 3 that proves what it gives: of graphs of arrays, objects and small values in which each node stands once. By it worked facts of bytes are decided.
use Rattle.std.proofs.Common.{◌≡◌, ◌≢◌, ℕ, zero, suc, ◌+◌, ◌*◌, ◌/◌, ◌%◌, ◌<◌, ◌⊎◌, Bool, true, false, cond, List, [], ◌∷◌, length, slice_get, Option, Some, None, refl, sym, ap, ◌∙◌, subst, arith, inl, inr, pos}
use Rattle.std.specs.Prelude.{◌==◌, bytes_eq}
use Rattle.std.specs.Int.{to_be_bytes, w64}
use Rattle.std.proofs.Math.Dec.{ltb}
use Rattle.std.proofs.lemmas.Bool.Decides.{Decides-eqb, Decides-ltb}
use Rattle.std.proofs.lemmas.Slice.Eq.{bytes_eq-Decides}
use Rattle.amf_io.specs.Field.{flat, field, raw_kind}
use Rattle.amf_wire.specs.Style.{Style, free, canonical, Only}
use Rattle.amf_wire.specs.Text.{is_text, IsText}
use Rattle.amf_wire.specs.U29.{IsU29}
use Rattle.amf_wire.proofs.TextTest.{is_text-is}
use Rattle.amf_wire.proofs.Shortest.{small, middle}
use Rattle.amf_graph.specs.declared.wrapped.Wrapped.{Wrapped}
use Rattle.amf_graph.specs.Graph.{Leaf, null, integer, double, text, Value, leaf, node, Traits, Head, array, object, Graph, node_at, Fits, AreMembers, AllNamed}
use Rattle.amf_graph.specs.ByName.{by_name}
use Rattle.amf_graph.specs.Order.{Absent}
use Rattle.amf3_spelling.specs.Tables.{Entry, plain, external, Words, add_entry, Tables, no_tables, with_words, add_node}
use Rattle.amf3_spelling.specs.Then.{Spelling, Then}
use Rattle.amf3_spelling.specs.Refusals3.{marker}
use Rattle.amf3_spelling.specs.Words3.{Text, Texts, NoPlaceBelow, given, placed}
use Rattle.amf3_spelling.specs.Segments3.{Segment, word, value, Lifted, Segments, segments_of}
use Rattle.amf3_spelling.specs.Headers3.{HeaderBy, marker_field, header_field}
use Rattle.amf3_spelling.specs.Spells3.{ValueBy, InlineIn, SpellsIn, Spelled3}
use Rattle.amf3_spelling.proofs.Build.{Built, both, lifted, a_leaf, a_null, an_integer, no_text, new_text, old_text, a_text, no_segments, word_segment, value_segment, absent_nil, absent_cons, unnamed, unnamed_zero}

-- one step and then another, where both are there
abbrev pub and_then : {A B : Type 0} → Option A → (A → Option B) → Option B
and_then None f = None
and_then (Some x) f = f x

-- Tests with their proofs.

abbrev pub proved : (b : Bool) → Option (b ≡ true)
proved true = Some refl
proved false = None

abbrev pub less : (m n : ℕ) → Option (m < n)
less m n = and_then (proved (ltb m n)) (λ e. Some ((Decides-ltb m n).0 e))

abbrev pub equal : (m n : ℕ) → Option (m ≡ n)
equal m n = and_then (proved (m == n)) (λ e. Some ((Decides-eqb m n).0 e))

abbrev pub a_text_is : (x : List ℕ) → Option (IsText x)
a_text_is x = and_then (proved (is_text x)) (λ e. Some ((is_text-is x).0 e))

-- the same or not
abbrev pub Same : {A : Type 0} → A → A → Type 0
Same x y = (x ≡ y) ⊎ (x ≢ y)

pub not_true : {P : Type 0} (b : Bool) → b ≡ false → (P → b ≡ true) → P → ⊥
not_true b e f p = let h : b ≡ true = f p in cc

abbrev pub numbers_by : (m n : ℕ) (b : Bool) → (m == n) ≡ b → Same m n
numbers_by m n true e = inl ((Decides-eqb m n).0 e)
numbers_by m n false e = inr (not_true (m == n) e (Decides-eqb m n).1)

abbrev pub same_number : (m n : ℕ) → Same m n
same_number m n = numbers_by m n (m == n) refl

abbrev pub bytes_same_by : (x y : List ℕ) (b : Bool) → bytes_eq x y ≡ b → Same x y
bytes_same_by x y true e = inl ((bytes_eq-Decides x y).0 e)
bytes_same_by x y false e = inr (not_true (bytes_eq x y) e (bytes_eq-Decides x y).1)

abbrev pub same_bytes : (x y : List ℕ) → Same x y
same_bytes x y = bytes_same_by x y (bytes_eq x y) refl

pub heads : {A : Type 0} (x y : A) (xs ys : List A) → x ∷ xs ≡ y ∷ ys → x ≡ y
heads x y xs ys e = cc

pub tails : {A : Type 0} (x y : A) (xs ys : List A) → x ∷ xs ≡ y ∷ ys → xs ≡ ys
tails x y xs ys e = cc

pub cons_same : {A : Type 0} (x y : A) (xs ys : List A) → x ≡ y → xs ≡ ys → x ∷ xs ≡ y ∷ ys
cons_same x y xs ys e f = cc

pub no_cons : {A : Type 0} (x : A) (xs : List A) → [] ≡ x ∷ xs → ⊥
no_cons x xs e = cc

abbrev pub cons_by : {A : Type 0} (x y : A) (xs ys : List A) → Same x y → Same xs ys → Same (x ∷ xs) (y ∷ ys)
cons_by x y xs ys (inl e) (inl f) = inl (cons_same x y xs ys e f)
cons_by x y xs ys (inl e) (inr f) = inr (λ h. f (tails x y xs ys h))
cons_by x y xs ys (inr e) f = inr (λ h. e (heads x y xs ys h))

abbrev pub same_names : (xs ys : List (List ℕ)) → Same xs ys
same_names [] [] = inl refl
same_names [] (y ∷ ys) = inr (no_cons y ys)
same_names (x ∷ xs) [] = inr (λ e. no_cons x xs (sym e))
same_names (x ∷ xs) (y ∷ ys) = cons_by x y xs ys (same_bytes x y) (same_names xs ys)

pub true_no : true ≡ false → ⊥
true_no e = cc

abbrev pub same_flag : (a b : Bool) → Same a b
same_flag true true = inl refl
same_flag true false = inr true_no
same_flag false true = inr (λ e. true_no (sym e))
same_flag false false = inl refl

pub traits_same : (s t : Traits) → s.class ≡ t.class → s.dynamic ≡ t.dynamic → s.sealed ≡ t.sealed → s ≡ t
traits_same s t e f g =
    ap (λ (x : List ℕ). made x s.dynamic s.sealed) e ∙ ap (λ (x : Bool). made t.class x s.sealed) f ∙ ap (λ (x : List (List ℕ)). made t.class t.dynamic x) g
  where
    made : List ℕ → Bool → List (List ℕ) → Traits
    made class dynamic sealed = record { class = class; dynamic = dynamic; sealed = sealed }

pub plain_is : (s t : Traits) → plain s ≡ plain t → s ≡ t
plain_is s t e = cc

abbrev pub traits_by : (s t : Traits) → Same s.class t.class → Same s.dynamic t.dynamic → Same s.sealed t.sealed → Same s t
traits_by s t (inl e) (inl f) (inl g) = inl (traits_same s t e f g)
traits_by s t (inl e) (inl f) (inr g) = inr (λ h. g (ap (λ (x : Traits). x.sealed) h))
traits_by s t (inl e) (inr f) g = inr (λ h. f (ap (λ (x : Traits). x.dynamic) h))
traits_by s t (inr e) f g = inr (λ h. e (ap (λ (x : Traits). x.class) h))

abbrev pub same_traits : (s t : Traits) → Same s t
same_traits s t = traits_by s t (same_bytes s.class t.class) (same_flag s.dynamic t.dynamic) (same_names s.sealed t.sealed)

pub external_no : (c : Wrapped) (t : Traits) → external c ≡ plain t → ⊥
external_no c t e = cc

abbrev pub plain_by : (s t : Traits) → Same s t → Same (plain s) (plain t)
plain_by s t (inl e) = inl (ap plain e)
plain_by s t (inr f) = inr (λ h. f (plain_is s t h))

abbrev pub same_entry : (e : Entry) (t : Traits) → Same e (plain t)
same_entry (plain s) t = plain_by s t (same_traits s t)
same_entry (external c) t = inr (external_no c t)

-- Places in tables.

pub data Found {A : Type 0} (xs : List A) (x : A) : Type 0 where
  here : (k : ℕ) → slice_get xs k ≡ Some x → NoPlaceBelow k xs x → Found xs x
  nowhere : Absent xs x → Found xs x

pub unnamed_cons : {A : Type 0} (y : A) (ys : List A) (x : A) (k : ℕ) → y ≢ x → NoPlaceBelow k ys x → NoPlaceBelow (suc k) (y ∷ ys) x
unnamed_cons y ys x k f u zero l e = f (some_is e)
  where
    some_is : Some y ≡ Some x → y ≡ x
    some_is e = cc
unnamed_cons y ys x k f u (suc j) l e = u j (omega arith) e

abbrev pub found_by : {A : Type 0} (y : A) (ys : List A) (x : A) → Same y x → Found ys x → Found (y ∷ ys) x
found_by y ys x (inl e) r = here 0 (ap Some e) (unnamed_zero (y ∷ ys) x)
found_by y ys x (inr f) (here k h u) = here (suc k) h (unnamed_cons y ys x k f u)
found_by y ys x (inr f) (nowhere a) = nowhere (absent_cons y ys x f a)

abbrev pub find : {A : Type 0} → ((y x : A) → Same y x) → (xs : List A) (x : A) → Found xs x
find same [] x = nowhere (absent_nil x)
find same (y ∷ ys) x = found_by y ys x (same y x) (find same ys x)

abbrev pub find_entry : (es : List Entry) (t : Traits) → Found es (plain t)
find_entry [] t = nowhere (absent_nil (plain t))
find_entry (e ∷ es) t = found_by e es (plain t) (same_entry e t) (find_entry es t)

pub only : (s : Style) {P : Type 0} → P → Only s P
only free p = tt
only canonical p = p

-- Numbers of headers.

pub in_style : (s : Style) (n : ℕ) (b : List ℕ) → IsU29 canonical n b → IsU29 s n b
in_style free n b u = record { spelled = u.spelled; shortest = tt }
in_style canonical n b u = u

pub record Number (s : Style) (n : ℕ) : Type 0 where
  pub bytes : List ℕ
  pub spelled : IsU29 s n bytes

abbrev pub two_bytes : (s : Style) (n a b : ℕ) → Option (Number s n)
two_bytes s n a b =
    and_then (less 127 n) (λ h. and_then (less a 128) (λ p. and_then (less b 128) (λ q. and_then (equal n (128 * a + b)) (λ r.
    Some (record { bytes = (128 + a) ∷ b ∷ []; spelled = in_style s n ((128 + a) ∷ b ∷ []) (middle n a b h p q r) })))))

abbrev pub number_by : (s : Style) (n : ℕ) (b : Bool) → ltb n 128 ≡ b → Option (Number s n)
number_by s n true e = Some (record { bytes = n ∷ []; spelled = small s n ((Decides-ltb n 128).0 e) })
number_by s n false e = two_bytes s n (n / 128) (n % 128)

abbrev pub a_number : (s : Style) (n : ℕ) → Option (Number s n)
a_number s n = number_by s n (ltb n 128) refl

-- Texts and traits.

pub no_empty : (b : ℕ) (x : List ℕ) → b ∷ x ≢ []
no_empty b x e = cc

abbrev pub word_by : (s : Style) (x : List ℕ) (w : Words) → x ≢ [] → Found w.texts x → Option (Built (Text s x) w)
word_by s x w some (here k h u) = and_then (less (2 * k) 128) (λ l. Some (old_text s x w k (only s some) h (only s u) l))
word_by s x w some (nowhere a) =
    and_then (a_text_is x) (λ t. and_then (less (2 * length x + 1) 128) (λ l.
    Some (new_text s x w some t (only s (unnamed 268435456 w.texts x a)) l)))

abbrev pub a_word : (s : Style) (x : List ℕ) (w : Words) → Option (Built (Text s x) w)
a_word s [] w = Some (no_text s w)
a_word s (b ∷ x) w = word_by s (b ∷ x) w (no_empty b x) (find same_bytes w.texts (b ∷ x))

abbrev pub all_words : (s : Style) (xs : List (List ℕ)) (w : Words) → Option (Built (Texts s xs) w)
all_words s [] w = Some (record { fields = []; after = w; spelled = (refl, refl) })
all_words s (x ∷ xs) w = and_then (a_word s x w) (λ a. and_then (all_words s xs a.after) (λ b.
    let z : Built (Then (Text s x) (Texts s xs)) w = both (Text s x) (Texts s xs) w a b in
    Some (record { fields = z.fields; after = z.after; spelled = z.spelled })))

-- the number of a header, and what stands behind it
pub record Headed (s : Style) (h : Head) (vs : List Value) (w : Words) : Type 0 where
  pub number : ℕ
  pub built : Built (HeaderBy s h vs number) w

abbrev pub traits_found : (s : Style) (t : Traits) (vs : List Value) (w : Words) → Found w.traits (plain t) → Option (Headed s (object t) vs w)
traits_found s t vs w (here k h u) = Some (record { number = 4 * k + 1; built = record { fields = []; after = w; spelled = placed k h (only s u) refl refl refl } })
traits_found s t vs w (nowhere a) = and_then (all_words s (t.class ∷ t.sealed) w) (λ b.
    Some (record {
      number = 16 * length t.sealed + (8 * cond t.dynamic 1 0 + 3);
      built = record { fields = b.fields; after = add_entry b.after (plain t); spelled = given (only s (unnamed 134217728 w.traits (plain t) a)) refl b.after b.spelled refl };
    }))

abbrev pub the_traits : (s : Style) (t : Traits) (vs : List Value) (w : Words) → Option (Headed s (object t) vs w)
the_traits s t vs w = traits_found s t vs w (find_entry w.traits t)

abbrev pub the_header : (s : Style) (h : Head) (vs : List Value) (w : Words) → Option (Headed s h vs w)
the_header s array vs w = Some (record { number = 2 * length vs + 1; built = record { fields = []; after = w; spelled = (refl, (refl, refl)) } })
the_header s (object t) vs w = the_traits s t vs w
the_header s _ vs w = None

-- Nodes and values.

abbrev pub members_fit : (dynamic : Bool) (ps : List (List ℕ × Value)) → Option (AreMembers dynamic ps)
members_fit true ps = Some tt
members_fit false [] = Some refl
members_fit false (p ∷ ps) = None

abbrev pub it_fits : (h : Head) (ps : List (List ℕ × Value)) (vs : List Value) → Option (Fits h ps vs)
it_fits array ps vs = Some tt
it_fits (object t) ps vs = and_then (equal (length vs) (length t.sealed)) (λ e. and_then (members_fit t.dynamic ps) (λ m. Some (e, m)))
it_fits _ ps vs = None

abbrev pub name_by : (x : List ℕ) → Option (x ≢ [])
name_by [] = None
name_by (b ∷ x) = Some (no_empty b x)

abbrev pub all_named : (ps : List (List ℕ × Value)) → Option (AllNamed ps)
all_named [] = Some tt
all_named (p ∷ ps) = and_then (name_by p.0) (λ n. and_then (all_named ps) (λ m. Some (n, m)))

-- at most one pair is in by-name order
abbrev pub few_in_order : (s : Style) (ps : List (List ℕ × Value)) → Option (Only s (ps ≡ by_name ps))
few_in_order free ps = Some tt
few_in_order canonical [] = Some refl
few_in_order canonical (p ∷ []) = Some refl
few_in_order canonical (p ∷ q ∷ ps) = None

abbrev pub all_segments : (R : Value → Spelling Tables) → ((v : Value) (t : Tables) → Option (Built (R v) t)) → (s : Style) (ps : List Segment) (t : Tables) → Option (Built (Segments R s ps) t)
all_segments R spell s [] t = Some (no_segments R s t)
all_segments R spell s (word x ∷ ps) t = and_then (a_word s x t.words) (λ a. and_then (all_segments R spell s ps (with_words t a.after)) (λ b. Some (word_segment R s x ps t a b)))
all_segments R spell s (value v ∷ ps) t = and_then (spell v t) (λ a. and_then (all_segments R spell s ps a.after) (λ b. Some (value_segment R s v ps t a b)))
all_segments R spell s (_ ∷ ps) t = None

abbrev pub a_small_leaf : (Inline : ℕ → Spelling Tables) (s : Style) (g : Graph) (x : Leaf) (t : Tables) → Option (Built (ValueBy Inline s g (leaf x)) t)
a_small_leaf Inline s g null t = Some (a_null Inline s g t)
a_small_leaf Inline s g (integer (pos n)) t = and_then (less n 128) (λ l. Some (an_integer Inline s g n t l))
a_small_leaf Inline s g (double p) t = and_then (less p 18446744073709551616) (λ l. Some (a_leaf Inline s g (double p) t l (record { fields = field (raw_kind 8) (to_be_bytes w64 p) ∷ []; after = t.words; spelled = (refl, refl) })))
a_small_leaf Inline s g (text x) t = and_then (a_text_is x) (λ h. and_then (a_word s x t.words) (λ a. Some (a_text Inline s g x t h a)))
a_small_leaf Inline s g _ t = None

abbrev pub absent : {A : Type 0} (xs : List A) (x : A) → Found xs x → Option (Absent xs x)
absent xs x (here k h u) = None
absent xs x (nowhere a) = Some a

abbrev pub a_new_node : (n : ℕ) (s : Style) (g : Graph) → ((v : Value) (t : Tables) → Option (Built (SpellsIn n s g v) t)) → (i : ℕ) (t : Tables) → Option (Built (SpellsIn (suc n) s g (node i)) t)
a_new_node n s g spell i t =
    let a = node_at g i in
    and_then (less i (length g.nodes)) (λ there.
    and_then (absent t.done i (find same_number t.done i)) (λ new.
    and_then (it_fits a.head a.names a.values) (λ fits.
    and_then (few_in_order s a.names) (λ in_order.
    and_then (all_named a.names) (λ named_all.
    and_then (the_header s a.head a.values (add_node t i).words) (λ h.
    and_then (a_number s h.number) (λ u.
    let front : Built (Lifted (HeaderBy s a.head a.values h.number)) (add_node t i) = lifted (HeaderBy s a.head a.values h.number) (add_node t i) h.built in
    and_then (all_segments (SpellsIn n s g) spell s (segments_of a.head a.names a.values) front.after) (λ b.
    let body : Built (Then (Lifted (HeaderBy s a.head a.values h.number)) (Segments (SpellsIn n s g) s (segments_of a.head a.names a.values))) (add_node t i) = both _ _ (add_node t i) front b in
    Some (record {
      fields = marker_field (marker a.head) ∷ header_field g t (marker a.head) u.bytes ∷ body.fields;
      after = body.after;
      spelled = inr (record {
        there = there;
        new = new;
        fits = fits;
        pairs = a.names;
        same_names = refl;
        in_order = in_order;
        named = named_all;
        number = h.number;
        header = u.bytes;
        spelled = u.spelled;
        rest = body.fields;
        fields = refl;
        behind = body.spelled;
      });
    })))))))))

abbrev pub a_value : (n : ℕ) (s : Style) (g : Graph) (v : Value) (t : Tables) → Option (Built (SpellsIn n s g v) t)
a_value n s g (leaf x) t = a_small_leaf (InlineIn n s g) s g x t
a_value zero s g (node i) t = None
a_value (suc n) s g (node i) t = a_new_node n s g (a_value n s g) i t

-- the bytes that it gives
abbrev pub bytes_by : (n : ℕ) (s : Style) (g : Graph) → Option (List ℕ)
bytes_by n s g = elim (a_value n s g g.root no_tables) [ None ↦ None | Some x ↦ Some (flat x.fields) ]

some_is : {A : Type 0} (x y : A) → Some x ≡ Some y → x ≡ y
some_is x y e = cc

-- and they spell the graph
pub spells : (n : ℕ) (s : Style) (g : Graph) (b : List ℕ) → bytes_by n s g ≡ Some b → Spelled3 s g b
spells n s g b e = go (a_value n s g g.root no_tables) e
  where
    go : (o : Option (Built (SpellsIn n s g g.root) no_tables)) → elim o [ None ↦ None | Some x ↦ Some (flat x.fields) ] ≡ Some b → Spelled3 s g b
    go None e = absurd cc
    go (Some x) e = subst (λ z. Spelled3 s g z) (some_is (flat x.fields) b e) (x.fields, (x.after, (n, x.spelled)), refl)
