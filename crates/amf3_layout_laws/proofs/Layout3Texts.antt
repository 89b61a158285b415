-- Texts and traits that are spelled are read.
use Rattle.std.proofs.Common.{◌≡◌, ◌≢◌, ℕ, suc, ◌+◌, ◌*◌, ◌/◌, ◌%◌, ◌≤◌, Bool, true, false, cond, eqb, List, [], ◌∷◌, ◌++◌, length, get_or, slice_get, Option, Some, refl, sym, ap, ◌∙◌, arith, subst}
use Rattle.std.proofs.lemmas.Bool.{eq-eqb, ne_eqb}
use Rattle.std.proofs.lemmas.Option.{get_or_from_slice_get}
use Rattle.std.proofs.lemmas.List.{append-nil}
use Rattle.amf_wire.specs.Style.{free}
use Rattle.amf_wire.specs.U29.{SpellsU29, u29_value}
use Rattle.amf_wire.proofs.U29Fields.{IsOneField, one_field}
use Rattle.amf_io.specs.declared.reason.Reason.{Reason}
use Rattle.amf_io.specs.Field.{Kind, Field, IsClean, field, u29_kind, text_kind, flat}
use Rattle.amf_io.specs.Layout.{Layout, give, want, bind, Takes, Path, Runs}
use Rattle.amf_io.proofs.Paths.{runs_bind}
use Rattle.amf_io.proofs.Ables.{path_some}
use Rattle.amf_graph.specs.declared.wrapped.Wrapped.{Wrapped}
use Rattle.amf_graph.specs.declared.wrapped.Wrapped.TheVariants.{ArrayCollection, ArrayList, ObjectProxy}
use Rattle.amf_graph.specs.Graph.{Traits, class_name}
use Rattle.amf3_spelling.specs.Tables.{Entry, plain, external, Words, add_text, add_entry}
use Rattle.amf3_spelling.specs.KeptTables as kept
use Rattle.amf3_spelling.specs.Refusals3.{text_header_refusal, class_header_refusal, class_kind}
use Rattle.amf3_spelling.specs.Words3.{TextBy, empty, whole, placed, Text, Texts, EntryTexts, TraitsBy, given}
use Rattle.amf3_layout_laws.specs.Layout3State.{State3, stored_marker, text_word}
use Rattle.amf3_layout_laws.specs.Layout3Words.{chunk, TextRead, known_text, new_text, text_behind, text_by, text_layout, class_layout, TextsRead, more_text, texts_layout, Outline, class_of, head_of, sealed_of, dynamic_of, known_traits, plain_traits, external_traits, inline_traits, external_layout, traits_layout}
use Rattle.amf3_spelling.proofs.Clean.{AllClean}

-- the fields of the parts are clean
pub clean_parts : (fs front back : List Field) → fs ≡ front ++ back → AllClean fs → AllClean front × AllClean back
clean_parts fs front back e h = split front (subst AllClean e h)
  where
    split : (front : List Field) → AllClean (front ++ back) → AllClean front × AllClean back
    split [] h = (tt, h)
    split (f ∷ front) h = let r = split front h.1 in ((h.0, r.0), r.1)

pub takes : (k : Kind) (b : List ℕ) → IsClean (field k b) → Takes k (field k b)
takes k b c = record { is_kind = refl; is_whole = c.is_whole; clean = c.clean }

-- a number that is spelled is read
pub u29_step : {X : Type 0} (refusal : ℕ → Option Reason) (next : ℕ → Layout X) (n : ℕ) (h : List ℕ) (rest : List Field) (u : Layout X) → IsClean (field (u29_kind refusal) h) → SpellsU29 n h → Path (next n) rest u
    → Path (want (u29_kind refusal) (λ b. next (u29_value b))) (field (u29_kind refusal) h ∷ rest) u
u29_step refusal next n h rest u c s p =
    let o : IsOneField n h = one_field s in
    (takes (u29_kind refusal) h c, subst (λ k. Path (next k) rest u) (sym o.value) p)

pub path_if : {X : Type 0} (t b : Bool) (x y : Layout X) (fs : List Field) (u : Layout X) → t ≡ b → Path (cond b x y) fs u → Path (cond t x y) fs u
path_if t b x y fs u e p = subst (λ c. Path (cond c x y) fs u) (sym e) p

pub even_test : (i : ℕ) → eqb ((2 * i) % 2) 0 ≡ true
even_test i = eq-eqb _ _ (omega arith)

pub odd_test : (i : ℕ) → eqb ((2 * i + 1) % 2) 0 ≡ false
odd_test i = ne_eqb _ _ (λ e. omega arith)

half_even : (i : ℕ) → (2 * i) / 2 ≡ i
half_even i = omega arith

pub half_odd : (i : ℕ) → (2 * i + 1) / 2 ≡ i
half_odd i = omega arith

-- a text of these bytes was read, and the words behind it are these
pub record FoundText (header : Kind) (contents : ℕ → Kind) (x : List ℕ) (s : State3) (fs : List Field) (w' : Words) : Type 0 where
  pub read : TextRead
  pub runs : Runs (text_by header contents s) fs read
  pub bytes : read.bytes ≡ x
  pub after : w' ≡ read.state.words
  pub marks : read.state.marks ≡ s.marks

module _ (refusal : ℕ → Option Reason) (contents : ℕ → Kind) (s : State3) where
  chunk_runs : (x : List ℕ) → x ≢ [] → IsClean (field (contents (length x)) x) → Runs (chunk contents (length x) (λ x. give (new_text s x))) (field (contents (length x)) x ∷ []) (new_text s x)
  chunk_runs [] h c = absurd (h refl)
  chunk_runs (b ∷ x) h c = (takes (contents (suc (length x))) (b ∷ x) c, refl)

  word_added : (x : List ℕ) → x ≢ [] → add_text s.words x ≡ text_word s.words x
  word_added [] h = absurd (h refl)
  word_added (b ∷ x) h = refl

  pub text_complete : (x : List ℕ) (fs : List Field) (w' : Words) → AllClean fs → TextBy free (u29_kind refusal) contents x s.words fs w' → FoundText (u29_kind refusal) contents x s fs w'
  text_complete x fs w' c (empty e h u f a) =
      let k = subst AllClean f c in
      record {
        read = new_text s [];
        bytes = sym e;
        after = a;
        marks = refl;
        runs = subst (λ l. Runs (text_by (u29_kind refusal) contents s) l (new_text s [])) (sym f) (u29_step refusal (text_behind contents s) 1 h [] (give (new_text s [])) k.0 u.spelled refl);
      }
  text_complete x fs w' c (whole e i o h u f a) =
      let k = subst AllClean f c in
      let n = length x in
      let rest = field (contents n) x ∷ [] in
      record {
        read = new_text s x;
        bytes = refl;
        after = a ∙ word_added x e;
        marks = refl;
        runs = subst (λ l. Runs (text_by (u29_kind refusal) contents s) l (new_text s x)) (sym f) (u29_step refusal (text_behind contents s) (2 * n + 1) h rest (give (new_text s x)) k.0 u.spelled
            (path_if {X = TextRead} (eqb ((2 * n + 1) % 2) 0) false (give (known_text s ((2 * n + 1) / 2))) (chunk contents ((2 * n + 1) / 2) (λ x. give (new_text s x))) rest (give (new_text s x)) (odd_test n)
            (subst (λ j. Runs (chunk contents j (λ x. give (new_text s x))) rest (new_text s x)) (sym (half_odd n)) (chunk_runs x e k.1.0))));
      }
  text_complete x fs w' c (placed e k there o h u f a) =
      let d = subst AllClean f c in
      let r = known_text s ((2 * k) / 2) in
      record {
        read = r;
        after = a;
        marks = refl;
        bytes = ap (λ j. get_or s.words.texts j []) (half_even k) ∙ get_or_from_slice_get s.words.texts k x [] there;
        runs = subst (λ l. Runs (text_by (u29_kind refusal) contents s) l r) (sym f) (u29_step refusal (text_behind contents s) (2 * k) h [] (give r) d.0 u.spelled
            (path_if {X = TextRead} (eqb ((2 * k) % 2) 0) true (give r) (chunk contents ((2 * k) / 2) (λ x. give (new_text s x))) [] (give r) (even_test k) refl));
      }

  -- a text takes a byte
  pub text_some : (fs : List Field) (x : TextRead) → Runs (text_by (u29_kind refusal) contents s) fs x → 1 ≤ length (flat fs)
  text_some [] x r = absurd cc
  text_some (f ∷ fs) x r = path_some (text_by (u29_kind refusal) contents s) (give x) f fs r

-- an empty text enters no table
pub none_entered : (header : Kind) (contents : ℕ → Kind) (x : List ℕ) (w : Words) (fs : List Field) (w' : Words) → x ≡ [] → TextBy free header contents x w fs w' → w' ≡ w
none_entered header contents x w fs w' n (empty e h u f a) = a
none_entered header contents x w fs w' n (whole e i o h u f a) = absurd (e n)
none_entered header contents x w fs w' n (placed e k i o h u f a) = a

pub record FoundTexts (xs : List (List ℕ)) (s : State3) (fs : List Field) (w' : Words) : Type 0 where
  pub read : TextsRead
  pub runs : Runs (texts_layout (length xs) s) fs read
  pub texts : read.texts ≡ xs
  pub after : w' ≡ read.state.words
  pub marks : read.state.marks ≡ s.marks

two_texts : (a b : List ℕ) (xs ys : List (List ℕ)) → a ≡ b → xs ≡ ys → (a ∷ xs) ≡ (b ∷ ys)
two_texts a b xs ys e f = cc

pub texts_complete : (xs : List (List ℕ)) (s : State3) (fs : List Field) (w w' : Words) → w ≡ s.words → AllClean fs → Texts free xs w fs w' → FoundTexts xs s fs w'
texts_complete [] s fs w w' e c p = record { read = record { ids = []; texts = []; state = s }; runs = subst (λ l. Runs (texts_layout 0 s) l (record { ids = []; texts = []; state = s })) (sym p.0) refl; texts = refl; after = p.1 ∙ e; marks = refl }
texts_complete (x ∷ xs) s fs w w' e c p =
    let d = clean_parts fs p.front p.back p.joined c in
    let one = text_complete (text_header_refusal (length s.words.texts)) text_kind s x p.front p.mid d.0 (subst (λ v. Text free x v p.front p.mid) e p.first) in
    let more = texts_complete xs one.read.state p.back p.mid w' one.after d.1 p.second in
    let r = more_text one.read more.read in
    record {
      read = r;
      texts = two_texts one.read.bytes x more.read.texts xs one.bytes more.texts;
      after = more.after;
      marks = more.marks ∙ one.marks;
      runs = subst (λ l. Runs (texts_layout (suc (length xs)) s) l r) (sym p.joined)
          (runs_bind (text_layout s) (λ y. bind (texts_layout (length xs) y.state) (λ ys. give (more_text y ys))) p.front p.back one.read (give r) one.runs
          (subst (λ l. Runs (bind (texts_layout (length xs) one.read.state) (λ ys. give (more_text one.read ys))) l r) (append-nil p.back)
          (runs_bind (texts_layout (length xs) one.read.state) (λ ys. give (more_text one.read ys)) p.back [] more.read (give r) more.runs refl)));
    }

-- traits that are spelled are read
pub record FoundTraits (e : Entry) (n : ℕ) (s : State3) (fs : List Field) (w' : Words) : Type 0 where
  pub read : Outline
  pub runs : Runs (traits_layout n s) fs read
  pub mark : stored_marker read.head ≡ 0x0A
  pub count : read.count ≡ sealed_of e
  pub twins : read.twins ≡ false
  pub first : read.first ≡ false
  pub last : read.last ≡ dynamic_of e
  pub after : w' ≡ read.state.words
  pub marks : read.state.marks ≡ s.marks

object_mark : (e : kept.KeptEntry) → stored_marker (head_of e) ≡ 0x0A
object_mark (kept.plain t) = refl
object_mark (kept.external t c) = refl

class_is : (x : List ℕ) (c : Wrapped) → x ≡ class_name c → class_of x ≡ c
class_is x c e = ap class_of e ∙ same c
  where
    same : (c : Wrapped) → class_of (class_name c) ≡ c
    same ArrayCollection = refl
    same ArrayList = refl
    same ObjectProxy = refl

entry_is : (a b : List ℕ) (d e : Bool) (xs ys : List (List ℕ)) → a ≡ b → d ≡ e → xs ≡ ys
    → (let t : Traits = record { class = a; dynamic = d; sealed = xs } in plain t) ≡ (let t : Traits = record { class = b; dynamic = e; sealed = ys } in plain t)
entry_is a b d e xs ys p q r = ap (λ c. let t : Traits = record { class = c; dynamic = d; sealed = xs } in plain t) p ∙ ap (λ c. let t : Traits = record { class = b; dynamic = c; sealed = xs } in plain t) q ∙ ap (λ c. let t : Traits = record { class = b; dynamic = e; sealed = c } in plain t) r

words_are : (w v : Words) (e f : Entry) → w ≡ v → e ≡ f → add_entry w e ≡ add_entry v f
words_are w v e f p q = ap (λ x. add_entry x e) p ∙ ap (add_entry v) q

dynamic_bit : (d : Bool) (k : ℕ) → eqb (((16 * k + (8 * cond d 1 0 + 3)) / 8) % 2) 1 ≡ d
dynamic_bit true k = eq-eqb _ _ (omega arith)
dynamic_bit false k = ne_eqb _ _ (λ e. omega arith)

not_place : (d : Bool) (k : ℕ) → eqb ((16 * k + (8 * cond d 1 0 + 3)) % 4) 1 ≡ false
not_place true k = ne_eqb _ _ (λ e. omega arith)
not_place false k = ne_eqb _ _ (λ e. omega arith)

is_given : (d : Bool) (k : ℕ) → eqb ((16 * k + (8 * cond d 1 0 + 3)) % 8) 3 ≡ true
is_given true k = eq-eqb _ _ (omega arith)
is_given false k = eq-eqb _ _ (omega arith)

count_bits : (d : Bool) (k : ℕ) → (16 * k + (8 * cond d 1 0 + 3)) / 16 ≡ k
count_bits true k = omega arith
count_bits false k = omega arith

abbrev class_names : ℕ → TextRead → Layout Outline
class_names h class = bind (texts_layout (h / 16) class.state) (λ names. give (plain_traits (eqb ((h / 8) % 2) 1) class names))

pub traits_complete : (e : Entry) (n : ℕ) (s : State3) (fs : List Field) (w w' : Words) → w ≡ s.words → AllClean fs → TraitsBy free e n w fs w' → FoundTraits e n s fs w'
traits_complete (plain t) n s fs w w' same c (given o number u texts a) =
    let d = clean_parts fs texts.front texts.back texts.joined c in
    let one = text_complete (text_header_refusal (length s.words.texts)) text_kind s t.class texts.front texts.mid d.0 (subst (λ v. Text free t.class v texts.front texts.mid) same texts.first) in
    let more = texts_complete t.sealed one.read.state texts.back texts.mid u one.after d.1 texts.second in
    let k = length t.sealed in
    let m = 16 * k + (8 * cond t.dynamic 1 0 + 3) in
    let r = plain_traits (eqb ((m / 8) % 2) 1) one.read more.read in
    let inside : Runs (inline_traits m s) (texts.front ++ texts.back) r =
    runs_bind (text_layout s) (class_names m) texts.front texts.back one.read (give r) one.runs
    (subst (λ l. Runs (class_names m one.read) l r) (append-nil texts.back)
    (runs_bind (texts_layout (m / 16) one.read.state) (λ names. give (plain_traits (eqb ((m / 8) % 2) 1) one.read names)) texts.back [] more.read (give r)
    (subst (λ j. Runs (texts_layout j one.read.state) texts.back more.read) (sym (count_bits t.dynamic k)) more.runs) refl)) in
    let all : Runs (traits_layout m s) (texts.front ++ texts.back) r =
    path_if {X = Outline} (eqb (m % 4) 1) false (give (known_traits s (m / 4))) (cond (eqb (m % 8) 3) (inline_traits m s) (external_layout s)) (texts.front ++ texts.back) (give r) (not_place t.dynamic k)
    (path_if {X = Outline} (eqb (m % 8) 3) true (inline_traits m s) (external_layout s) (texts.front ++ texts.back) (give r) (is_given t.dynamic k) inside) in
    record {
      read = r;
      mark = refl;
      count = ap length more.texts;
      twins = refl;
      first = refl;
      last = dynamic_bit t.dynamic k;
      marks = more.marks ∙ one.marks;
      after = a ∙ words_are u more.read.state.words (plain t) _ more.after (entry_is t.class one.read.bytes t.dynamic (eqb ((m / 8) % 2) 1) t.sealed more.read.texts (sym one.bytes) (sym (dynamic_bit t.dynamic k)) (sym more.texts));
      runs = subst (λ l. Runs (traits_layout n s) l r) (sym texts.joined) (subst (λ j. Runs (traits_layout j s) (texts.front ++ texts.back) r) (sym number) all);
    }
traits_complete (external x) n s fs w w' same c (given o number u texts a) =
    let one = text_complete (class_header_refusal s.words.texts) class_kind s (class_name x) fs u c (subst (λ v. EntryTexts free (external x) v fs u) same texts) in
    let k = number.0 in
    let m = 8 * k + 7 in
    let r = external_traits one.read in
    let inside : Runs (external_layout s) fs r = subst (λ l. Runs (external_layout s) l r) (append-nil fs) (runs_bind (class_layout s) (λ class. give (external_traits class)) fs [] one.read (give r) one.runs refl) in
    let all : Runs (traits_layout m s) fs r =
    path_if {X = Outline} (eqb (m % 4) 1) false (give (known_traits s (m / 4))) (cond (eqb (m % 8) 3) (inline_traits m s) (external_layout s)) fs (give r) (ne_eqb _ _ (λ e. omega arith))
    (path_if {X = Outline} (eqb (m % 8) 3) false (inline_traits m s) (external_layout s) fs (give r) (ne_eqb _ _ (λ e. omega arith)) inside) in
    record {
      read = r;
      mark = refl;
      count = refl;
      twins = refl;
      first = refl;
      last = refl;
      marks = one.marks;
      after = a ∙ words_are u one.read.state.words (external x) (external (class_of one.read.bytes)) one.after (ap external (sym (class_is one.read.bytes x one.bytes)));
      runs = subst (λ j. Runs (traits_layout j s) fs r) (sym number.1) all;
    }
traits_complete e n s fs w w' same c (placed k there o number none a) =
    let m = 4 * k + 1 in
    let quarter : m / 4 ≡ k = omega arith in
    let nothing : Entry = plain (record { class = []; dynamic = false; sealed = [] }) in
    let entry : get_or s.words.traits (m / 4) nothing ≡ e = ap (λ j. get_or s.words.traits j nothing) quarter ∙ get_or_from_slice_get s.words.traits k e nothing (subst (λ v. slice_get v.traits k ≡ Some e) same there) in
    let r = known_traits s (m / 4) in
    let all : Runs (traits_layout m s) [] r =
    path_if {X = Outline} (eqb (m % 4) 1) true (give r) (cond (eqb (m % 8) 3) (inline_traits m s) (external_layout s)) [] (give r) (eq-eqb _ _ (omega arith)) refl in
    record {
      read = r;
      mark = object_mark (get_or s.tables.traits (m / 4) (kept.plain 0));
      count = ap sealed_of entry;
      twins = refl;
      first = refl;
      last = ap dynamic_of entry;
      after = a ∙ same;
      marks = refl;
      runs = subst (λ l. Runs (traits_layout n s) l r) (sym none) (subst (λ j. Runs (traits_layout j s) [] r) (sym number) all);
    }
