-- There and back.
use Rattle.std.proofs.Common.{ℕ, List, [], ◌∷◌, refl, inl, subst, ◌≡◌}
use Rattle.std.specs.List.{AllZip}
use Rattle.json.specs.Token.{Token}
use Rattle.json.specs.Tree.{json_tokens}
use Rattle.amf_graph.specs.Graph.{Graph}
use Rattle.amf_text.specs.Scalars.{read_number}
use Rattle.amf_text.specs.Documents.{Document}
use Rattle.amf_text.specs.Texts.{Layout, text_by, IsTokenOf, IsTextOf, IsDocumentText}
use Rattle.amf_text.specs.Accepted.{Means}
use Rattle.amf_text.specs.Tellable.{IsTellable, DocumentsMatch, AreAlike}
use Rattle.amf_text.specs.DocumentLaws.{HasFewNodes}
use Rattle.amf_text.specs.RoundTrip.{IsReadAs, RoundTrip}
use Rattle.amf_text.proofs.ExactDigits.{digits_exist}
use Rattle.amf_text.proofs.JsonExists.{json_exists}
use Rattle.amf_text.proofs.OneText.{same_json}
use Rattle.amf_text.proofs.ReadsBack.{reads_back}
use Rattle.amf_text.proofs.WholeDocuments.{whole_laws}

same_tokens : (ts : List Token) → AllZip IsTokenOf ts ts
same_tokens [] = tt
same_tokens (t ∷ ts) = (inl refl, same_tokens ts)

written : (layout : Layout) (d : Document Graph) → IsTellable d → (text : List ℕ) × IsDocumentText layout d text
written layout d t =
    let j = json_exists digits_exist.0 d t in
    (text_by layout (json_tokens j.0), record { digits = digits_exist.0; are_digits = digits_exist.1; told = j.0; is_told = j.1; is_text = (json_tokens j.0, same_tokens (json_tokens j.0), refl) })

same : (layout : Layout) (d e : Document Graph) (text : List ℕ) → DocumentsMatch AreAlike d e → IsTellable e → IsDocumentText layout d text → IsDocumentText layout e text
same layout d e text m t is =
    let k = json_exists is.digits e t in
    let one : is.told ≡ k.0 = same_json is.digits d e is.told k.0 m is.is_told k.1 in
    record { digits = is.digits; are_digits = is.are_digits; told = k.0; is_told = k.1; is_text = subst (λ j. IsTextOf layout j text) one is.is_text }

back : (layout : Layout) (d : Document Graph) (text : List ℕ) → IsTellable d → HasFewNodes d → IsDocumentText layout d text → (e : Document Graph) × IsReadAs d text e
back layout d text t few is =
    let r = reads_back layout d text t few is in
    (r.0, record { meant = r.1; matches = r.2; sound = whole_laws.sound text r.0 r.1; tellable = whole_laws.tellable text r.0 r.1 })

again : (layout : Layout) (text : List ℕ) (d : Document Graph) → Means read_number text d → HasFewNodes d → (again : List ℕ) × (e : Document Graph) × IsDocumentText layout d again × IsReadAs d again e
again layout text d m few =
    let t = whole_laws.tellable text d m in
    let w = written layout d t in
    let b = back layout d w.0 t few w.1 in
    (w.0, b.0, w.1, b.1)

pub round_trip : RoundTrip
round_trip = record { written = written; same = same; document = back; text = again }
