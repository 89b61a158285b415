-- What was written of a part, by its fields.
use Rattle.std.proofs.Common.{◌≡◌, ℕ, List, [], ◌∷◌, ◌++◌, length, append-nil, sym, refl, ap, ◌∙◌, subst}
use Rattle.amf_io.specs.Field.{Field, flat, field, text_kind}
use Rattle.amf_wire.specs.Style.{canonical}
use Rattle.amf_graph.specs.Graph.{Value, Graph}
use Rattle.amf3_spelling.specs.Tables.{Words, Tables}
use Rattle.amf3_spelling.specs.Refusals3.{text_header_kind}
use Rattle.amf3_spelling.specs.Spells3.{Spells3}
use Rattle.amf3_spelling.specs.Words3.{Text as FieldText, empty as empty_text, whole as whole_text, placed as placed_text}
use Rattle.amf3_spelling.specs.Segments3.{Lifted}
use Rattle.amf3_spelling.specs.ByteSpelling.{Text, empty, whole, placed, word}
use Rattle.amf3_spelling.proofs.FieldsOf.{from_spells}
use Rattle.amf3_write.specs.declared.output.Output.{Output}
use Rattle.amf3_write.specs.Written.{AppendsPart, AppendsText}
use Rattle.amf3_write.specs.Writes.{WritesStep, WritesValue}

text_fields : (x : List ℕ) (w : Words) (b : List ℕ) (w' : Words) → Text canonical x w b w' → (fs : List Field) × FieldText canonical x w fs w' × (b ≡ flat fs)
text_fields x w b w' (empty e u a) = (field (text_header_kind (length w.texts)) b ∷ [], empty_text e b u refl a, sym (append-nil b))
text_fields x w b w' (whole e i o h u j a) = (field (text_header_kind (length w.texts)) h ∷ field (text_kind (length x)) x ∷ [], whole_text e i o h u refl a, j ∙ ap (λ z. h ++ z) (sym (append-nil x)))
text_fields x w b w' (placed e k i o u a) = (field (text_header_kind (length w.texts)) b ∷ [], placed_text e k i o b u refl a, sym (append-nil b))

appended : (o n : Output) (old new bytes more : List ℕ) → o.bytes.items ≡ old → new ≡ n.bytes.items → n.bytes.items ≡ o.bytes.items ++ bytes → bytes ≡ more → new ≡ old ++ more
appended o n old new bytes more b d a e = d ∙ a ∙ ap (λ w. w ++ bytes) b ∙ ap (λ w. old ++ w) e

pub text_written : (x : List ℕ) (o n : Output) (t t' : Tables) (old new : List ℕ) → o.tables ≡ t → o.bytes.items ≡ old → t' ≡ n.tables → new ≡ n.bytes.items → WritesStep (word x) o n → AppendsText x t t' old new
text_written x o n t t' old new e b f d h =
    let fs = text_fields x o.tables.words h.bytes h.spelled.0 h.spelled.1 in (
      fs.0,
      subst (λ z. Lifted (FieldText canonical x) t fs.0 z) (sym f) (subst (λ z. Lifted (FieldText canonical x) z fs.0 n.tables) e (h.spelled.0, fs.1, h.spelled.2)),
      appended o n old new h.bytes (flat fs.0) b d h.appended fs.2,
    )

pub part_written : (g : Graph) (v : Value) (o n : Output) (t t' : Tables) (old new : List ℕ) → o.tables ≡ t → o.bytes.items ≡ old → t' ≡ n.tables → new ≡ n.bytes.items → WritesValue g v o n → AppendsPart g v t t' old new
part_written g v o n t t' old new e b f d h =
    let fs = from_spells h.spelled.0 canonical g v o.tables h.bytes n.tables h.spelled.1 in (
      fs.0,
      subst (λ z. Spells3 canonical g v t fs.0 z) (sym f) (subst (λ z. Spells3 canonical g v z fs.0 n.tables) e (h.spelled.0, fs.1)),
      appended o n old new h.bytes (flat fs.0) b d h.appended fs.2,
    )
