-- Traits that are read are spelled so.
use Rattle.std.proofs.Common.{◌≡◌, ℕ, zero, suc, ◌+◌, ◌*◌, ◌/◌, ◌%◌, ◌<◌, Bool, true, false, cond, eqb, ◌||◌, List, [], ◌∷◌, ◌++◌, length, map, get_or, slice_get, Option, Some, None, refl, sym, ap, ◌∙◌, arith, subst, length-append, bytes_eq}
use Rattle.std.proofs.lemmas.Bool.{eqb-true, eqb-false}
use Rattle.std.proofs.lemmas.List.{append-nil, length-map}
use Rattle.std.proofs.lemmas.Option.{slice_get-get_or, get_or_from_slice_get}
use Rattle.std.proofs.lemmas.Slice.Eq.{bytes_eq-Decides}
use Rattle.std.proofs.Math.Seq.{get_or-append_seam}
use Rattle.amf_wire.specs.Style.{free}
use Rattle.amf_wire.specs.U29.{u29_value}
use Rattle.amf_wire.specs.Text.{IsText}
use Rattle.amf_wire.proofs.TextTest.{is_text-is}
use Rattle.amf_io.specs.declared.reason.Reason.TheVariants.{UnknownExternal}
use Rattle.amf_io.specs.Field.{Field, AreBytes, text_kind, u29_kind, flat}
use Rattle.amf_io.specs.Layout.{Layout, give, bind, Path, Runs}
use Rattle.amf_io.proofs.Paths.{bind_runs}
use Rattle.amf_io.proofs.Ables.{bytes_parts}
use Rattle.amf_graph.specs.declared.wrapped.Wrapped.{Wrapped}
use Rattle.amf_graph.specs.declared.wrapped.Wrapped.TheVariants.{ArrayCollection, ArrayList, ObjectProxy}
use Rattle.amf_graph.specs.Graph.{Traits, class_name}
use Rattle.amf_graph.specs.Arena.{Arena, StoredTraits, StoredHead, object, wrapper, text_at, no_traits, traits_content, traits_at, IsTraitsIn}
use Rattle.amf_graph.specs.Building.{kept_traits}
use Rattle.amf3_spelling.specs.Tables.{Entry, plain, external, Words}
use Rattle.amf3_spelling.specs.KeptTables as kept
use Rattle.amf3_spelling.specs.Refusals3.{text_header_refusal, class_header_refusal, indexed_class_refusal, class_refusal, class_kind, is_served, is_served_length}
use Rattle.amf3_spelling.specs.Words3.{TextBy, TraitsBy, given, placed}
use Rattle.amf3_layout_laws.specs.Layout3State.{State3}
use Rattle.amf3_layout_laws.specs.Layout3Words.{chunk, known_text, new_text, TextRead, text_layout, class_layout, TextsRead, texts_layout, Outline, class_of, head_of, sealed_of, dynamic_of, known_traits, plain_traits, external_traits, inline_traits, external_layout, traits_layout}
use Rattle.amf3_layout_laws.proofs.Layout3Contents.{Larger, larger_itself, larger_twice, text_id, text_stays, all_at, Good, good_entry}
use Rattle.amf3_layout_laws.proofs.Layout3SoundTexts.{give_is, TextSound, AreTexts, text_by_sound, text_sound, TextsSound, texts_sound}

-- the head is that of the entry
abbrev pub IsHeadOf : Arena → StoredHead → Entry → Type 0
IsHeadOf a (object t) (plain k) = (t < length a.traits) × (traits_at a t ≡ k)
IsHeadOf a (wrapper c) (external d) = c ≡ d
IsHeadOf a _ e = ⊥

pub record TraitsSound (n : ℕ) (s : State3) (fs : List Field) (o : Outline) : Type 0 where
  pub good : Good o.state
  pub larger : Larger s.arena o.state.arena
  pub nodes : o.state.arena.nodes ≡ s.arena.nodes
  pub node_table : o.state.tables.nodes ≡ s.tables.nodes
  pub entry : Entry
  pub head : IsHeadOf o.state.arena o.head entry
  pub count : o.count ≡ sealed_of entry
  pub last : o.last ≡ dynamic_of entry
  pub first : o.first ≡ false
  pub twins : o.twins ≡ false
  pub spelled : TraitsBy free entry n s.words fs o.state.words

-- Traits by their place.

entry_of_map : (a : Arena) (es : List kept.KeptEntry) (k : ℕ) (d : Entry) → k < length es → get_or (map (kept.entry_content a) es) k d ≡ kept.entry_content a (get_or es k (kept.plain 0))
entry_of_map a [] k d lt = absurd (omega arith)
entry_of_map a (e ∷ es) zero d lt = refl
entry_of_map a (e ∷ es) (suc k) d lt = entry_of_map a es k d (omega arith)

kept_head : (a : Arena) (e : kept.KeptEntry) → kept.IsEntryIn a e → IsHeadOf a (head_of e) (kept.entry_content a e)
kept_head a (kept.plain t) h = (h, refl)
kept_head a (kept.external t c) h = refl

known_sound : (n : ℕ) (s : State3) → Good s → n / 4 < length s.words.traits → n ≡ 4 * (n / 4) + 1 → TraitsSound n s [] (known_traits s (n / 4))
known_sound n s g lt e =
    let k = n / 4 in
    let nothing : Entry = plain (record { class = []; dynamic = false; sealed = [] }) in
    let es = s.tables.traits in
    let same : s.words.traits ≡ map (kept.entry_content s.arena) es = ap (λ (w : Words). w.traits) g.words in
    let below : k < length es = omega (arith, ap length same, length-map es (kept.entry_content s.arena)) in
    let it = get_or es k (kept.plain 0) in
    let is : get_or s.words.traits k nothing ≡ kept.entry_content s.arena it = ap (λ l. get_or l k nothing) same ∙ entry_of_map s.arena es k nothing below in
    record {
      good = g;
      larger = larger_itself s.arena s.arena refl refl (omega arith);
      nodes = refl;
      node_table = refl;
      entry = get_or s.words.traits k nothing;
      count = refl;
      last = refl;
      first = refl;
      twins = refl;
      head = subst (IsHeadOf s.arena (head_of it)) (sym is) (kept_head s.arena it (all_at (kept.IsEntryIn s.arena) es k (kept.plain 0) g.tables.traits below));
      spelled = placed k (slice_get-get_or s.words.traits k nothing lt) tt e refl refl;
    }

-- Traits given inline.

dynamic_number : (n : ℕ) (d : Bool) → eqb ((n / 8) % 2) 1 ≡ d → eqb (n % 8) 3 ≡ true → n ≡ 16 * (n / 16) + (8 * cond d 1 0 + 3)
dynamic_number n true e h = let a = eqb-true ((n / 8) % 2) 1 e in let b = eqb-true (n % 8) 3 h in omega arith
dynamic_number n false e h = let a = eqb-false ((n / 8) % 2) 1 e in let b = eqb-true (n % 8) 3 h in omega arith

plain_sound : (n : ℕ) (s : State3) (fs front back : List Field) (class : TextRead) (names : TextsRead) → Good s → eqb (n % 8) 3 ≡ true → fs ≡ front ++ back → TextSound (text_header_refusal (length s.words.texts)) text_kind s front class → TextsSound class.state (n / 16) back names
    → TraitsSound n s fs (plain_traits (eqb ((n / 8) % 2) 1) class names)
plain_sound n s fs front back class names g three joined one more =
    let d = eqb ((n / 8) % 2) 1 in
    let a = names.state.arena in
    let i = length a.traits in
    let t : StoredTraits = record { class = class.id; dynamic = d; sealed = names.ids } in
    let b = kept_traits a t in
    let c : Traits = record { class = class.bytes; dynamic = d; sealed = names.texts } in
    let class_there : text_at a class.id ≡ class.bytes = text_stays class.state.arena a more.larger class.id one.id ∙ one.there in
    let inside : IsTraitsIn a t = record { class = text_id class.state.arena a more.larger class.id one.id; sealed = more.ids } in
    let content : traits_content b t ≡ c = ap (λ x. let k : Traits = record { class = x; dynamic = d; sealed = map (text_at b) names.ids } in k) class_there ∙ ap (λ x. let k : Traits = record { class = class.bytes; dynamic = d; sealed = x } in k) more.there in
    let there : traits_at b i ≡ c = ap (traits_content b) (get_or-append_seam a.traits t [] no_traits) ∙ content in
    let below : i < length b.traits = omega (arith, length-append a.traits (t ∷ [])) in
    let number : n ≡ 16 * length names.texts + (8 * cond d 1 0 + 3) = dynamic_number n d refl three ∙ ap (λ k. 16 * k + (8 * cond d 1 0 + 3)) (sym more.count) in
    record {
      good = good_entry names.state t (kept.plain i) (plain c) inside more.good below (ap plain there);
      larger = larger_twice s.arena a b (larger_twice s.arena class.state.arena a one.larger more.larger) (record { more_texts = []; texts = sym (append-nil a.texts); more_traits = t ∷ []; traits = refl; nodes = omega arith });
      nodes = more.nodes ∙ one.nodes;
      node_table = more.node_table ∙ one.node_table;
      entry = plain c;
      head = (below, there);
      count = refl;
      last = refl;
      first = refl;
      twins = refl;
      spelled = given tt number names.state.words (record { front = front; back = back; mid = class.state.words; joined = joined; first = one.spelled; second = more.spelled }) refl;
    }

-- A class that is served.

name_text : (c : Wrapped) → IsText (class_name c)
name_text ArrayCollection = (is_text-is (class_name ArrayCollection)).0 refl
name_text ArrayList = (is_text-is (class_name ArrayList)).0 refl
name_text ObjectProxy = (is_text-is (class_name ObjectProxy)).0 refl

eq_name : (a x : List ℕ) → bytes_eq a x ≡ true → x ≡ a
eq_name a x h = sym ((bytes_eq-Decides a x).0 h)

served_is : (x : List ℕ) → is_served x ≡ true → x ≡ class_name (class_of x)
served_is x e = by_first (bytes_eq (class_name ArrayCollection) x) refl e
  where
    by_third : (b : Bool) → bytes_eq (class_name ObjectProxy) x ≡ b → (b || false) ≡ true → x ≡ class_name ObjectProxy
    by_third true h e = eq_name (class_name ObjectProxy) x h
    by_third false h e = absurd cc

    by_second : (b : Bool) → bytes_eq (class_name ArrayList) x ≡ b → (b || (bytes_eq (class_name ObjectProxy) x || false)) ≡ true → x ≡ class_name (cond b ArrayList ObjectProxy)
    by_second true h e = eq_name (class_name ArrayList) x h
    by_second false h e = by_third (bytes_eq (class_name ObjectProxy) x) refl e

    by_first : (b : Bool) → bytes_eq (class_name ArrayCollection) x ≡ b → (b || (bytes_eq (class_name ArrayList) x || (bytes_eq (class_name ObjectProxy) x || false))) ≡ true → x ≡ class_name (cond b ArrayCollection (cond (bytes_eq (class_name ArrayList) x) ArrayList ObjectProxy))
    by_first true h e = eq_name (class_name ArrayCollection) x h
    by_first false h e = by_second (bytes_eq (class_name ArrayList) x) refl e

class_served : (x : List ℕ) → class_refusal x ≡ None → is_served x ≡ true
class_served x c = go (is_served x) refl c
  where
    go : (b : Bool) → is_served x ≡ b → cond b None (Some UnknownExternal) ≡ None → is_served x ≡ true
    go true e c = e
    go false e c = absurd cc

classes_are : AreTexts class_kind
classes_are = record { sizes = λ n. refl; texts = λ n b c. subst IsText (sym (served_is b (class_served b c))) (name_text (class_of b)) }

class_index : (texts : List (List ℕ)) (h : ℕ) → eqb (h % 2) 0 ≡ true → class_header_refusal texts h ≡ None → (x : List ℕ) × (slice_get texts (h / 2) ≡ Some x) × (is_served x ≡ true)
class_index texts h e ok = go (slice_get texts (h / 2)) refl (ap (λ t. cond t (indexed_class_refusal (slice_get texts (h / 2))) (cond (is_served_length (h / 2)) None (Some UnknownExternal))) (sym e) ∙ ok)
  where
    go : (o : Option (List ℕ)) → slice_get texts (h / 2) ≡ o → indexed_class_refusal o ≡ None → (x : List ℕ) × (slice_get texts (h / 2) ≡ Some x) × (is_served x ≡ true)
    go None e f = absurd cc
    go (Some x) e f = (x, e, class_served x f)

below_of : (xs : List (List ℕ)) (k : ℕ) (x : List ℕ) → slice_get xs k ≡ Some x → k < length xs
below_of [] k x e = absurd cc
below_of (y ∷ xs) zero x e = omega arith
below_of (y ∷ xs) (suc k) x e = let h = below_of xs k x e in omega arith

-- what stands behind a class's header is the name of a served class
class_text : (s : State3) → Good s → (fs : List Field) (x : TextRead) → AreBytes (flat fs) → Runs (class_layout s) fs x → is_served x.bytes ≡ true
class_text s g [] x b r = absurd cc
class_text s g (f ∷ fs) x b r = behind (u29_value f.bytes) r.0.clean (eqb (u29_value f.bytes % 2) 0) refl fs x r.1
  where
    chunk_served : (k : ℕ) → is_served_length k ≡ true → (fs : List Field) (x : TextRead) → Runs (chunk class_kind k (λ y. give (new_text s y))) fs x → is_served x.bytes ≡ true
    chunk_served zero h fs x r = absurd cc
    chunk_served (suc k) h [] x r = absurd cc
    chunk_served (suc k) h (f ∷ []) x r = subst (λ (y : TextRead). is_served y.bytes ≡ true) (give_is (new_text s f.bytes) x r.1) (class_served f.bytes r.0.clean)
    chunk_served (suc k) h (f ∷ g ∷ fs) x r = absurd r.1

    length_served : (h : ℕ) → class_header_refusal s.words.texts h ≡ None → eqb (h % 2) 0 ≡ false → is_served_length (h / 2) ≡ true
    length_served h ok odd = go (is_served_length (h / 2)) refl (ap (λ b. cond b (indexed_class_refusal (slice_get s.words.texts (h / 2))) (cond (is_served_length (h / 2)) None (Some UnknownExternal))) (sym odd) ∙ ok)
      where
        go : (b : Bool) → is_served_length (h / 2) ≡ b → cond b None (Some UnknownExternal) ≡ None → is_served_length (h / 2) ≡ true
        go true e f = e
        go false e f = absurd cc

    known_served : (h : ℕ) → eqb (h % 2) 0 ≡ true → class_header_refusal s.words.texts h ≡ None → is_served (known_text s (h / 2)).bytes ≡ true
    known_served h e ok = let i = class_index s.words.texts h e ok in subst (λ y. is_served y ≡ true) (sym (get_or_from_slice_get s.words.texts (h / 2) i.0 [] i.1)) i.2

    behind : (h : ℕ) → class_header_refusal s.words.texts h ≡ None → (even : Bool) → eqb (h % 2) 0 ≡ even → (fs : List Field) (x : TextRead) → Runs (cond even (give (known_text s (h / 2))) (chunk class_kind (h / 2) (λ y. give (new_text s y)))) fs x → is_served x.bytes ≡ true
    behind h ok true e [] x r = subst (λ (y : TextRead). is_served y.bytes ≡ true) (give_is (known_text s (h / 2)) x r) (known_served h e ok)
    behind h ok true e (f ∷ fs) x r = absurd r
    behind h ok false e fs x r = chunk_served (h / 2) (length_served h ok e) fs x r

external_sound : (n : ℕ) (s : State3) (fs : List Field) (class : TextRead) → Good s → n ≡ 8 * (n / 8) + 7 → is_served class.bytes ≡ true → TextSound (class_header_refusal s.words.texts) class_kind s fs class → TraitsSound n s fs (external_traits class)
external_sound n s fs class g number served one =
    let a = class.state.arena in
    let i = length a.traits in
    let c = class_of class.bytes in
    let is : class.bytes ≡ class_name c = served_is class.bytes served in
    let t : StoredTraits = record { class = class.id; dynamic = false; sealed = [] } in
    let b = kept_traits a t in
    record {
      good = good_entry class.state t (kept.external i c) (external c) (record { class = one.id; sealed = tt }) one.good (omega (arith, length-append a.traits (t ∷ []))) refl;
      larger = larger_twice s.arena a b one.larger (record { more_texts = []; texts = sym (append-nil a.texts); more_traits = t ∷ []; traits = refl; nodes = omega arith });
      nodes = one.nodes;
      node_table = one.node_table;
      entry = external c;
      head = refl;
      count = refl;
      last = refl;
      first = refl;
      twins = refl;
      spelled = given tt (n / 8, number, tt) class.state.words (subst (λ y. TextBy free (u29_kind (class_header_refusal s.words.texts)) class_kind y s.words fs class.state.words) is one.spelled) refl;
    }

-- an odd number names traits by their place, or they are given inline
abbrev class_names : ℕ → TextRead → Layout Outline
class_names h class = bind (texts_layout (h / 16) class.state) (λ names. give (plain_traits (eqb ((h / 8) % 2) 1) class names))

inline_sound : (n : ℕ) (s : State3) → Good s → eqb (n % 8) 3 ≡ true → (fs : List Field) (o : Outline) → AreBytes (flat fs) → Runs (inline_traits n s) fs o → TraitsSound n s fs o
inline_sound n s g three fs o b r =
    let a = bind_runs (text_layout s) (class_names n) fs o r in
    let ab = bytes_parts fs a.front a.back a.parts b in
    let one = text_sound s g a.front a.value ab.0 a.first in
    let c = bind_runs (texts_layout (n / 16) a.value.state) (λ names. give (plain_traits (eqb ((n / 8) % 2) 1) a.value names)) a.back o a.second in
    let cb = bytes_parts a.back c.front c.back c.parts ab.1 in
    let more = texts_sound (n / 16) a.value.state one.good c.front c.value cb.0 c.first in
    last a.value a.front a.back c.value c.front c.back a.parts c.parts one more c.second
  where
    last : (y : TextRead) (front back : List Field) (ys : TextsRead) (mid end : List Field) → fs ≡ front ++ back → back ≡ mid ++ end → TextSound (text_header_refusal (length s.words.texts)) text_kind s front y → TextsSound y.state (n / 16) mid ys → Path (give (plain_traits (eqb ((n / 8) % 2) 1) y ys)) end (give o) → TraitsSound n s fs o
    last y front back ys mid [] e h one more p = subst (λ z. TraitsSound n s fs z) (give_is (plain_traits (eqb ((n / 8) % 2) 1) y ys) o p) (plain_sound n s fs front mid y ys g three (e ∙ ap (λ l. front ++ l) (h ∙ append-nil mid)) one more)
    last y front back ys mid (f ∷ end) e h one more p = absurd p

class_sound : (n : ℕ) (s : State3) → Good s → n ≡ 8 * (n / 8) + 7 → (fs : List Field) (o : Outline) → AreBytes (flat fs) → Runs (external_layout s) fs o → TraitsSound n s fs o
class_sound n s g number fs o b r =
    let a = bind_runs (class_layout s) (λ class. give (external_traits class)) fs o r in
    let ab = bytes_parts fs a.front a.back a.parts b in
    let texts = s.words.texts in
    let one = text_by_sound (class_header_refusal texts) class_kind s g classes_are (λ h e ok. let i = class_index texts h e ok in below_of texts (h / 2) i.0 i.1) a.front a.value ab.0 a.first in
    last a.value a.front a.back a.parts one (class_text s g a.front a.value ab.0 a.first) a.second
  where
    last : (y : TextRead) (front back : List Field) → fs ≡ front ++ back → TextSound (class_header_refusal s.words.texts) class_kind s front y → is_served y.bytes ≡ true → Path (give (external_traits y)) back (give o) → TraitsSound n s fs o
    last y front [] e one served p = subst (λ z. TraitsSound n s fs z) (give_is (external_traits y) o p) (subst (λ l. TraitsSound n s l (external_traits y)) (sym (e ∙ append-nil front)) (external_sound n s front y g number served one))
    last y front (f ∷ back) e one served p = absurd p

pub traits_sound : (n : ℕ) (s : State3) → Good s → eqb (n % 2) 0 ≡ false → (eqb (n % 4) 1 ≡ true → n / 4 < length s.words.traits) → (fs : List Field) (o : Outline) → AreBytes (flat fs) → Runs (traits_layout n s) fs o → TraitsSound n s fs o
traits_sound n s g odd place fs o b r = by_place (eqb (n % 4) 1) refl fs o b r
  where
    by_given : (t : Bool) → eqb (n % 8) 3 ≡ t → eqb (n % 4) 1 ≡ false → (fs : List Field) (o : Outline) → AreBytes (flat fs) → Runs (cond t (inline_traits n s) (external_layout s)) fs o → TraitsSound n s fs o
    by_given true e f fs o b r = inline_sound n s g e fs o b r
    by_given false e f fs o b r = class_sound n s g (let a = eqb-false (n % 8) 3 e in let c = eqb-false (n % 4) 1 f in let d = eqb-false (n % 2) 0 odd in omega arith) fs o b r

    by_place : (t : Bool) → eqb (n % 4) 1 ≡ t → (fs : List Field) (o : Outline) → AreBytes (flat fs) → Runs (cond t (give (known_traits s (n / 4))) (cond (eqb (n % 8) 3) (inline_traits n s) (external_layout s))) fs o → TraitsSound n s fs o
    by_place true e [] o b r = subst (λ z. TraitsSound n s [] z) (give_is (known_traits s (n / 4)) o r) (known_sound n s g (place e) (let a = eqb-true (n % 4) 1 e in omega arith))
    by_place true e (f ∷ fs) o b r = absurd r
    by_place false e fs o b r = by_given (eqb (n % 8) 3) refl e fs o b r
