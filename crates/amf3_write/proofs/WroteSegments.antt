-- What was written, segment by segment.
use Rattle.std.proofs.Common.{◌≡◌, ℕ, ◌+◌, ◌<◌, List, [], ◌∷◌, ◌++◌, length, map, take, get_or, sym, refl, ap, ◌∙◌, subst, append_assoc, append-nil, add-one, arith, ℤ, pos, negsuc, SFits}
use Rattle.std.specs.Int.{to_be_bytes, w32, w64, cast_unsigned}
use Rattle.std.proofs.Math.Seq.{take-suc}
use Rattle.std.proofs.lemmas.List.{map-append}
use Rattle.amf_wire.specs.Style.{canonical}
use Rattle.amf_wire.specs.declared.pattern.Pattern.{Pattern}
use Rattle.amf_wire.specs.Integer.{IsInteger}
use Rattle.amf_graph.specs.Graph.{Value}
use Rattle.amf3_spelling.specs.Tables.{Tables, with_words}
use Rattle.amf3_spelling.specs.ByteSpelling.{Step, number, unused, raw, Segment, step, value, Segments, signed_bytes, four_bytes, eight_bytes}
use Rattle.amf3_write.specs.declared.output.Output.{Output}
use Rattle.amf3_write.specs.Writes.{Writes, WritesStep, WritesSteps}

joined : (o m n b c : List ℕ) → m ≡ o ++ b → n ≡ m ++ c → n ≡ o ++ (b ++ c)
joined o m n b c e f = f ∙ ap (λ x. x ++ c) e ∙ append_assoc o b c

pub wrote_unused : (o m : Output) → WritesStep (number 1) o m → WritesStep unused o m
wrote_unused o m h = record { bytes = h.bytes; spelled = (h.spelled.0, ((0, h.spelled.1.0, refl), h.spelled.1.1), h.spelled.2); appended = h.appended }

module _ (R : Value → Tables → List ℕ → Tables → Type 0) where
  abbrev WritesThese : List Segment → Output → Output → Type 0
  WritesThese ps = Writes (Segments R canonical ps)

  pub wrote_none : (o : Output) → WritesThese [] o o
  wrote_none o = record { bytes = []; spelled = (refl, refl); appended = sym (append-nil o.bytes.items) }

  pub wrote_step : (x : Step) (ps : List Segment) (o m n : Output) → WritesStep x o m → WritesThese ps m n → WritesThese (step x ∷ ps) o n
  wrote_step x ps o m n h k = record {
    bytes = h.bytes ++ k.bytes;
    spelled = record { front = h.bytes; back = k.bytes; mid = m.tables; joined = refl; first = h.spelled; second = k.spelled };
    appended = joined o.bytes.items m.bytes.items n.bytes.items h.bytes k.bytes h.appended k.appended;
  }

  pub wrote_one : (x : Step) (o m : Output) → WritesStep x o m → WritesThese (step x ∷ []) o m
  wrote_one x o m h = wrote_step x [] o m m h (wrote_none m)

  segments_append : (ps qs : List Segment) (t u v : Tables) (b c : List ℕ) → Segments R canonical ps t b u → Segments R canonical qs u c v → Segments R canonical (ps ++ qs) t (b ++ c) v
  segments_append [] qs t u v b c h k = subst (λ z. Segments R canonical qs t z v) (sym (ap (λ z. z ++ c) h.0)) (subst (λ z. Segments R canonical qs z c v) h.1 k)
  segments_append (step x ∷ ps) qs t u v b c h k = record { front = h.front; back = h.back ++ c; mid = h.mid; joined = ap (λ z. z ++ c) h.joined ∙ append_assoc h.front h.back c; first = h.first; second = segments_append ps qs h.mid u v h.back c h.second k }
  segments_append (value x ∷ ps) qs t u v b c h k = record { front = h.front; back = h.back ++ c; mid = h.mid; joined = ap (λ z. z ++ c) h.joined ∙ append_assoc h.front h.back c; first = h.first; second = segments_append ps qs h.mid u v h.back c h.second k }

  pub wrote_both : (ps qs : List Segment) (o m n : Output) → WritesThese ps o m → WritesThese qs m n → WritesThese (ps ++ qs) o n
  wrote_both ps qs o m n h k = record {
    bytes = h.bytes ++ k.bytes;
    spelled = segments_append ps qs o.tables m.tables n.tables h.bytes k.bytes h.spelled k.spelled;
    appended = joined o.bytes.items m.bytes.items n.bytes.items h.bytes k.bytes h.appended k.appended;
  }

-- Two steps, three steps.

abbrev no_values : Value → Tables → List ℕ → Tables → Type 0
no_values v t b t' = ⊥

pub wrote_two : (x y : Step) (o m n : Output) → WritesStep x o m → WritesStep y m n → WritesSteps (step x ∷ step y ∷ []) o n
wrote_two x y o m n h k = wrote_step no_values x (step y ∷ []) o m n h (wrote_one no_values y m n k)

pub wrote_third : (x y z : Step) (o m n : Output) → WritesSteps (step x ∷ step y ∷ []) o m → WritesStep z m n → WritesSteps (step x ∷ step y ∷ step z ∷ []) o n
wrote_third x y z o m n h k = wrote_both no_values (step x ∷ step y ∷ []) (step z ∷ []) o m n h (wrote_one no_values z m n k)

-- Bytes as they are, item by item.

pub wrote_more_raw : (x y z : List ℕ) (o m n : Output) → z ≡ x ++ y → WritesStep (raw x) o m → WritesStep (raw y) m n → WritesStep (raw z) o n
wrote_more_raw x y z o m n e h k =
    let same : m.tables ≡ o.tables = h.spelled.2 ∙ ap (λ w. with_words o.tables w) h.spelled.1.1 in
    let after : n.tables ≡ m.tables = k.spelled.2 ∙ ap (λ w. with_words m.tables w) k.spelled.1.1 in record {
      bytes = h.bytes ++ k.bytes;
      spelled = (o.tables.words, (ap (λ w. w ++ k.bytes) h.spelled.1.0 ∙ ap (λ w. x ++ w) k.spelled.1.0 ∙ sym e, refl), after ∙ same);
      appended = joined o.bytes.items m.bytes.items n.bytes.items h.bytes k.bytes h.appended k.appended;
    }

signed_push : (ns : List ℤ) (n : ℤ) → signed_bytes (ns ++ n ∷ []) ≡ signed_bytes ns ++ to_be_bytes w32 (cast_unsigned w32 n)
signed_push [] n = append-nil (to_be_bytes w32 (cast_unsigned w32 n))
signed_push (m ∷ ns) n = ap (λ w. to_be_bytes w32 (cast_unsigned w32 m) ++ w) (signed_push ns n)

four_push : (ns : List ℕ) (n : ℕ) → four_bytes (ns ++ n ∷ []) ≡ four_bytes ns ++ to_be_bytes w32 n
four_push [] n = append-nil (to_be_bytes w32 n)
four_push (m ∷ ns) n = ap (λ w. to_be_bytes w32 m ++ w) (four_push ns n)

eight_push : (ns : List ℕ) (n : ℕ) → eight_bytes (ns ++ n ∷ []) ≡ eight_bytes ns ++ to_be_bytes w64 n
eight_push [] n = append-nil (to_be_bytes w64 n)
eight_push (m ∷ ns) n = ap (λ w. to_be_bytes w64 m ++ w) (eight_push ns n)

pub signed_more : (ns : List ℤ) (i : ℕ) (d : ℤ) → i < length ns → signed_bytes (take (i + 1) ns) ≡ signed_bytes (take i ns) ++ to_be_bytes w32 (cast_unsigned w32 (get_or ns i d))
signed_more ns i d l = ap signed_bytes (rw (add-one, take-suc ns i d l) refl) ∙ signed_push (take i ns) (get_or ns i d)

pub four_more : (ns : List ℕ) (i d : ℕ) → i < length ns → four_bytes (take (i + 1) ns) ≡ four_bytes (take i ns) ++ to_be_bytes w32 (get_or ns i d)
four_more ns i d l = ap four_bytes (rw (add-one, take-suc ns i d l) refl) ∙ four_push (take i ns) (get_or ns i d)

abbrev pub bits : List Pattern → List ℕ
bits ps = map (λ p. p.0) ps

pub eight_more : (ps : List Pattern) (i : ℕ) (d : Pattern) → i < length ps → eight_bytes (bits (take (i + 1) ps)) ≡ eight_bytes (bits (take i ps)) ++ to_be_bytes w64 (get_or ps i d).0
eight_more ps i d l = ap eight_bytes (rw (add-one, take-suc ps i d l, map-append) refl) ∙ eight_push (bits (take i ps)) (get_or ps i d).0

-- an integer of 29 bits is one of 32
pub fits_wide : (n : ℤ) → IsInteger n → SFits w32 n
fits_wide (pos n) h = omega arith
fits_wide (negsuc n) h = omega arith
