-- What stays ready while the tables grow.
use Rattle.std.proofs.Common.{◌≡◌, ◌≢◌, ℕ, ◌+◌, ◌*◌, ◌≤◌, List, [], ◌∷◌, ◌++◌, length, sym, refl, ap, ◌∙◌, subst, arith, append-nil}
use Rattle.amf_wire.specs.Text.{IsText}
use Rattle.amf_graph.specs.Arena.{Arena}
use Rattle.amf_graph.specs.Order.{Absent}
use Rattle.amf_tables.specs.FirstPlace.{IsFirstPlace}
use Rattle.amf_tables.specs.KnownWords.{Known, AreKnownOf}
use Rattle.amf3_spelling.specs.Tables.{Entry, Words, Tables, with_words, add_text, add_entry, add_node}
use Rattle.amf_tables.specs.TextPlaces.{IsEntered}
use Rattle.amf3_spelling.specs.Words3.{NoPlaceBelow}
use Rattle.amf_tables.specs.declared.text_place.TextPlace.{TextPlace}
use Rattle.amf_tables.specs.declared.text_place.TextPlace.TheVariants.{Old, New}
use Rattle.amf3_spelling.specs.ByteSpelling.{whole, number, raw, word, step}
use Rattle.amf_tables.proofs.KnownTexts.{known_with_text, known_with_entry}
use Rattle.amf3_write.specs.declared.output.Output.{Output}
use Rattle.amf3_write.specs.Writes.{Writes, WritesStep, WritesSteps, IsReady}

pub ready_same : (a : Arena) (t u : Tables) (known now : Known) → IsReady a t known → u ≡ t → now ≡ known → IsReady a u now
ready_same a t u known now r e k = subst (λ (z : Tables). IsReady a z now) (sym e) (subst (λ z. IsReady a t z) (sym k) r)

ready_with : (a : Arena) (t u : Tables) (known now : Known) (w : Words) → IsReady a t known → u ≡ with_words t w → now ≡ known → AreKnownOf a w known → IsReady a u now
ready_with a t u known now w r e k h = record {
  placed = subst (λ (z : Tables). z.done ≡ z.nodes) (sym e) r.placed;
  known = subst (λ (z : Tables). AreKnownOf a z.words now) (sym e) (subst (λ z. AreKnownOf a w z) (sym k) h);
}

pub ready_with_text : (a : Arena) (t u : Tables) (known now : Known) (x : List ℕ) → IsReady a t known → u ≡ with_words t (add_text t.words x) → now ≡ known → IsReady a u now
ready_with_text a t u known now x r e k = ready_with a t u known now (add_text t.words x) r e k (known_with_text a t.words x known r.known)

pub ready_with_entry : (a : Arena) (t u : Tables) (known now : Known) (x : Entry) → IsReady a t known → u ≡ with_words t (add_entry t.words x) → now ≡ known → IsReady a u now
ready_with_entry a t u known now x r e k = ready_with a t u known now (add_entry t.words x) r e k (known_with_entry a t.words x known r.known)

pub ready_with_node : (a : Arena) (t u : Tables) (known now : Known) (i : ℕ) → IsReady a t known → u ≡ add_node t i → now ≡ known → IsReady a u now
ready_with_node a t u known now i r e k = record {
  placed = subst (λ (z : Tables). z.done ≡ z.nodes) (sym e) (ap (λ w. w ++ i ∷ []) r.placed);
  known = subst (λ (z : Tables). AreKnownOf a z.words now) (sym e) (subst (λ w. AreKnownOf a t.words w) (sym k) r.known);
}

-- what was written from the same tables behind the same bytes
pub writes_from : (A : Tables → List ℕ → Tables → Type 0) (o m n : Output) → m.tables ≡ o.tables → m.bytes.items ≡ o.bytes.items → Writes A m n → Writes A o n
writes_from A o m n e b h = record { bytes = h.bytes; spelled = subst (λ t. A t h.bytes n.tables) e h.spelled; appended = h.appended ∙ ap (λ w. w ++ h.bytes) b }

-- A text that is looked up, and entered where it is new.

pub old_tables : (t u : Tables) (x : List ℕ) (found : TextPlace) (k : ℕ) → found ≡ Old k → IsEntered t.words.texts x u.words.texts found → u ≡ with_words t (record { texts = u.words.texts; traits = t.words.traits }) → IsFirstPlace t.words.texts x k × (u ≡ t)
old_tables t u x (Old j) k s h e =
    let same : j ≡ k = cc in
    (subst (λ n. IsFirstPlace t.words.texts x n) same h.0, e ∙ ap (λ w. with_words t (record { texts = w; traits = t.words.traits })) h.1)
old_tables t u x (New j) k s h e = cc

pub new_tables : (t u : Tables) (x : List ℕ) (found : TextPlace) (k : ℕ) → found ≡ New k → IsEntered t.words.texts x u.words.texts found → u ≡ with_words t (record { texts = u.words.texts; traits = t.words.traits }) → Absent t.words.texts x × (u ≡ with_words t (add_text t.words x))
new_tables t u x (Old j) k s h e = cc
new_tables t u x (New j) k s h e = (h.0, e ∙ ap (λ w. with_words t (record { texts = w; traits = t.words.traits })) h.2)

-- a text inline, which its table has by then
pub wrote_new : (x : List ℕ) (o m n : Output) → IsText x → x ≢ [] → Absent o.tables.words.texts x → m.tables ≡ with_words o.tables (add_text o.tables.words x) → m.bytes.items ≡ o.bytes.items
    → WritesSteps (step (number (2 * length x + 1)) ∷ step (raw x) ∷ []) m n → WritesStep (word x) o n
wrote_new x o m n tx ne new e b h =
    let one = h.spelled in
    let two = one.second in
    let mid : one.mid ≡ m.tables = one.first.2 ∙ ap (λ w. with_words m.tables w) one.first.1.1 in
    let end : n.tables ≡ one.mid = two.second.1 ∙ two.first.2 ∙ ap (λ w. with_words one.mid w) two.first.1.1 in
    let rest : one.back ≡ x = two.joined ∙ ap (λ w. w ++ two.back) two.first.1.0 ∙ ap (λ w. x ++ w) two.second.0 ∙ append-nil x in record {
      bytes = h.bytes;
      spelled = (add_text o.tables.words x, whole ne tx (λ j l f. new j f) one.front one.first.1.0 (one.joined ∙ ap (λ w. one.front ++ w) rest) refl, end ∙ mid ∙ e);
      appended = h.appended ∙ ap (λ w. w ++ h.bytes) b;
    }

-- past the places that a header can name
pub unnamed_past : {X : Type 0} (xs : List X) (x : X) (k n : ℕ) → IsFirstPlace xs x k → n ≤ k → NoPlaceBelow n xs x
unnamed_past xs x k n first l j before = first.1 j (omega (arith, before, l))
