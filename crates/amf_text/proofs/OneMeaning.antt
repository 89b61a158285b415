-- A text has its tokens, these are of one JSON, and this means one document.
use Rattle.std.proofs.Common.{◌≡◌, ℕ, ◌+◌, List, [], ◌++◌, Some, sym, ap, ◌∙◌, subst, arith}
use Rattle.std.proofs.lemmas.Option.{same_Some}
use Rattle.json.specs.Token.{Token}
use Rattle.json.specs.Json.{Json, value}
use Rattle.json.specs.Tree.{json_tokens, depth}
use Rattle.json.proofs.Printed.Trees.{value-json_tokens}
use Rattle.amf_graph.specs.Graph.{Graph}
use Rattle.amf_text.specs.Scalars.{Reads, read_number}
use Rattle.amf_text.specs.Documents.{Document}
use Rattle.amf_text.specs.Accepted.{document_meant, linked, Means}
use Rattle.amf_text.specs.Tellable.{DocumentsMatch}
use Rattle.amf_text.specs.GraphLaws.{ReadsAs}
use Rattle.amf_text.specs.OneMeaning.{OneMeaning}
use Rattle.amf_text.proofs.ReadsBack.{reads_back}

one_json : (j k : Json) → json_tokens j ≡ json_tokens k → j ≡ k
one_json j k e =
    let first = value-json_tokens j (depth j + depth k) [] (omega arith) in
    let second = value-json_tokens k (depth j + depth k) [] (omega arith) in
    let both : Some (j, []) ≡ Some (k, []) = sym first ∙ ap (λ ts. value (depth j + depth k) (ts ++ [])) e ∙ second in
    ap (λ (p : Json × List Token). p.0) (same_Some (j, []) (k, []) both)

means_one : (reads : Reads) (text : List ℕ) (d e : Document Graph) → Means reads text d → Means reads text e → d ≡ e
means_one reads text d e (p, (j, t, m), l) (q, (k, u, n), o) =
    let json : j ≡ k = one_json j k (sym t.same ∙ u.same) in
    let part : p ≡ q = same_Some p q (sym m ∙ ap (document_meant reads) json ∙ n) in
    same_Some d e (sym l ∙ ap linked part ∙ o)

pub one_meaning : OneMeaning
one_meaning = record {
  one = means_one;
  told = λ layout d e text t few is m.
      let back = reads_back layout d text t few is in
      subst (DocumentsMatch ReadsAs d) (means_one read_number text back.0 e back.1 m) back.2;
}
