-- What was written, step by step.
use Rattle.std.proofs.Common.{◌≡◌, ◌≢◌, ℕ, zero, suc, ◌+◌, ◌*◌, ◌<◌, List, [], ◌∷◌, ◌++◌, length, get_or, sym, refl, ap, ◌∙◌, subst, arith, append_assoc, append-nil, OnOk, IfOk}
use Rattle.std.specs.Prelude.{Result, Ok, Err}
use Rattle.std.specs.List.{AllByRecursion}
use Rattle.std.proofs.lemmas.List.{length-map}
use Rattle.amf_wire.specs.Style.{canonical}
use Rattle.amf_wire.specs.U29.{IsU29}
use Rattle.amf_wire.specs.Text.{IsText}
use Rattle.amf_graph.specs.declared.value.TextId.{TextId}
use Rattle.amf_graph.specs.Arena.{Arena}
use Rattle.amf3_spelling.specs.Tables.{Entry, Words, Tables, with_words, add_text, add_entry}
use Rattle.amf3_spelling.specs.Words3.{NoPlaceBelow, EntryNumber}
use Rattle.amf_tables.specs.FirstPlace.{IsFirstPlace}
use Rattle.amf_tables.specs.ShownTraits.{texts_at}
use Rattle.amf3_spelling.specs.ByteSpelling.{Text, whole, placed, Texts, entry_texts, given, indexed, number, raw, word, traits}
use Rattle.amf3_write.specs.declared.output.Output.{Output}
use Rattle.amf3_write.specs.Writes.{WritesStep, WritesTexts}

pub on_ok : {T E P Q : Type 0} (r : Result T E) → (P → Q) → OnOk r P → OnOk r Q
on_ok (Ok v) f h = f h
on_ok (Err e) f h = tt

pub if_ok : {T E : Type 0} {P Q : T → Type 0} (r : Result T E) → ((v : T) → P v → Q v) → IfOk r P → IfOk r Q
if_ok (Ok v) f h = f v h
if_ok (Err e) f h = tt

number_tables : (n : ℕ) (o m : Output) → WritesStep (number n) o m → m.tables ≡ o.tables
number_tables n o m h = h.spelled.2 ∙ ap (λ w. with_words o.tables w) h.spelled.1.1

raw_tables : (x : List ℕ) (o m : Output) → WritesStep (raw x) o m → m.tables ≡ o.tables
raw_tables x o m h = h.spelled.2 ∙ ap (λ w. with_words o.tables w) h.spelled.1.1

joined : (o m n p : List ℕ) (b c : List ℕ) → m ≡ o ++ b → n ≡ m ++ c → p ≡ n → p ≡ o ++ (b ++ c)
joined o m n p b c e f h = h ∙ f ∙ ap (λ x. x ++ c) e ∙ append_assoc o b c

-- one byte more
pub one_more : (o m n b : List ℕ) (x : ℕ) → m ≡ o ++ b → n ≡ m ++ x ∷ [] → n ≡ o ++ (b ++ x ∷ [])
one_more o m n b x e f = joined o m n n b (x ∷ []) e f refl

-- a text by its first place
pub wrote_place : (x : List ℕ) (o m : Output) (n k : ℕ) → x ≢ [] → IsFirstPlace o.tables.words.texts x k → n ≡ 2 * k → WritesStep (number n) o m → WritesStep (word x) o m
wrote_place x o m n k ne at e h = record {
  bytes = h.bytes;
  spelled = (o.tables.words, placed ne k at.0 at.1 (subst (λ z. IsU29 canonical z h.bytes) e h.spelled.1.0) refl, number_tables n o m h);
  appended = h.appended;
}

-- a text inline
pub wrote_text : (x : List ℕ) (o m n p : Output) (number_there : ℕ) → IsText x → x ≢ [] → NoPlaceBelow 268435456 o.tables.words.texts x → number_there ≡ 2 * length x + 1
    → WritesStep (number number_there) o m → WritesStep (raw x) m n → p.tables ≡ with_words n.tables (add_text n.tables.words x) → p.bytes.items ≡ n.bytes.items → WritesStep (word x) o p
wrote_text x o m n p there tx ne new e h k t b =
    let same : n.tables ≡ o.tables = raw_tables x m n k ∙ number_tables there o m h in record {
      bytes = h.bytes ++ k.bytes;
      spelled = (
        add_text o.tables.words x,
        whole ne tx new h.bytes (subst (λ z. IsU29 canonical z h.bytes) e h.spelled.1.0) (ap (λ z. h.bytes ++ z) k.spelled.1.0) refl,
        t ∙ ap (λ (z : Tables). with_words z (add_text z.words x)) same,
      );
      appended = joined o.bytes.items m.bytes.items n.bytes.items p.bytes.items h.bytes k.bytes h.appended k.appended b;
    }

-- Texts one after another.

texts_push : (xs : List (List ℕ)) (x : List ℕ) (w u v : Words) (b c : List ℕ) → Texts canonical xs w b u → Text canonical x u c v → Texts canonical (xs ++ x ∷ []) w (b ++ c) v
texts_push [] x w u v b c h k = record { front = c; back = []; mid = v; joined = ap (λ z. z ++ c) h.0 ∙ sym (append-nil c); first = subst (λ z. Text canonical x z c v) h.1 k; second = (refl, refl) }
texts_push (y ∷ xs) x w u v b c h k = record {
  front = h.front;
  back = h.back ++ c;
  mid = h.mid;
  joined = ap (λ z. z ++ c) h.joined ∙ append_assoc h.front h.back c;
  first = h.first;
  second = texts_push xs x h.mid u v h.back c h.second k;
}

words_after : (o m : Output) (w : Words) → m.tables ≡ with_words o.tables w → m.tables.words ≡ w
words_after o m w e = ap (λ (t : Tables). t.words) e

pub wrote_no_text : (o : Output) → WritesTexts [] o o
wrote_no_text o = record { bytes = []; spelled = (o.tables.words, (refl, refl), refl); appended = sym (append-nil o.bytes.items) }

pub wrote_more_text : (xs : List (List ℕ)) (x : List ℕ) (o m n : Output) → WritesTexts xs o m → WritesStep (word x) m n → WritesTexts (xs ++ x ∷ []) o n
wrote_more_text xs x o m n h k =
    let w = words_after o m h.spelled.0 h.spelled.2 in record {
      bytes = h.bytes ++ k.bytes;
      spelled = (
        k.spelled.0,
        texts_push xs x o.tables.words h.spelled.0 k.spelled.0 h.bytes k.bytes h.spelled.1 (subst (λ z. Text canonical x z k.bytes k.spelled.0) w k.spelled.1),
        k.spelled.2 ∙ ap (λ (t : Tables). with_words t k.spelled.0) h.spelled.2,
      );
      appended = joined o.bytes.items m.bytes.items n.bytes.items n.bytes.items h.bytes k.bytes h.appended k.appended refl;
    }

pub wrote_first_text : (x : List ℕ) (xs : List (List ℕ)) (o m n : Output) → WritesStep (word x) o m → WritesTexts xs m n → WritesTexts (x ∷ xs) o n
wrote_first_text x xs o m n h k =
    let w = words_after o m h.spelled.0 h.spelled.2 in record {
      bytes = h.bytes ++ k.bytes;
      spelled = (
        k.spelled.0,
        record { front = h.bytes; back = k.bytes; mid = h.spelled.0; joined = refl; first = h.spelled.1; second = subst (λ z. Texts canonical xs z k.bytes k.spelled.0) w k.spelled.1 },
        k.spelled.2 ∙ ap (λ (t : Tables). with_words t k.spelled.0) h.spelled.2,
      );
      appended = joined o.bytes.items m.bytes.items n.bytes.items n.bytes.items h.bytes k.bytes h.appended k.appended refl;
    }

-- Traits.

pub wrote_entry_place : (e : Entry) (o m : Output) (n k : ℕ) → IsFirstPlace o.tables.words.traits e k → n ≡ 4 * k + 1 → WritesStep (number n) o m → WritesStep (traits e) o m
wrote_entry_place e o m n k at i h = record {
  bytes = h.bytes;
  spelled = (o.tables.words, indexed k at.0 at.1 (subst (λ z. IsU29 canonical z h.bytes) i h.spelled.1.0) refl, number_tables n o m h);
  appended = h.appended;
}

pub wrote_entry : (e : Entry) (o m n p : Output) (i : ℕ) → NoPlaceBelow 134217728 o.tables.words.traits e → EntryNumber canonical e i → WritesStep (number i) o m → WritesTexts (entry_texts e) m n
    → p.tables ≡ with_words n.tables (add_entry n.tables.words e) → p.bytes.items ≡ n.bytes.items → WritesStep (traits e) o p
wrote_entry e o m n p i new num h k t b =
    let same : m.tables ≡ o.tables = number_tables i o m h in
    let after : n.tables ≡ with_words o.tables k.spelled.0 = k.spelled.2 ∙ ap (λ (z : Tables). with_words z k.spelled.0) same in record {
      bytes = h.bytes ++ k.bytes;
      spelled = (
        add_entry k.spelled.0 e,
        given new i h.bytes k.bytes k.spelled.0 num h.spelled.1.0 (subst (λ (z : Tables). Texts canonical (entry_texts e) z.words k.bytes k.spelled.0) same k.spelled.1) refl refl,
        t ∙ ap (λ (z : Tables). with_words z (add_entry z.words e)) after,
      );
      appended = joined o.bytes.items m.bytes.items n.bytes.items p.bytes.items h.bytes k.bytes h.appended k.appended b;
    }

-- What a finished arena within bounds holds.

pub each_there : {X : Type 0} (P : X → Type 0) (xs : List X) (i : ℕ) (d : X) → AllByRecursion P xs → i < length xs → P (get_or xs i d)
each_there P [] i d h l = absurd (omega arith)
each_there P (x ∷ xs) zero d h l = h.0
each_there P (x ∷ xs) (suc i) d h l = each_there P xs i d h.1 (omega arith)

pub flags_are : (a : Arena) (ids : List TextId) (flags bits : ℕ) → flags ≡ bits → 16 * length ids + flags ≡ 16 * length (texts_at a ids) + bits
flags_are a ids flags bits e = simp length-map (omega arith)

pub each_append : {X : Type 0} (P : X → Type 0) (xs ys : List X) → AllByRecursion P xs → AllByRecursion P ys → AllByRecursion P (xs ++ ys)
each_append P [] ys h k = k
each_append P (x ∷ xs) ys h k = (h.0, each_append P xs ys h.1 k)
