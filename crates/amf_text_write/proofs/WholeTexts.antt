-- The text of a whole graph, told by its plan.
use Rattle.std.proofs.Common.{◌≡◌, ℕ, Bool, List, ap, ◌∙◌, subst}
use Rattle.amf_graph.specs.Graph.{node, node_at}
use Rattle.amf_graph.specs.Rooted.{RootedArena, content}
use Rattle.amf_text.specs.Documents as document
use Rattle.amf_text.specs.Documents.{file}
use Rattle.amf_text.specs.Scalars.{Digits}
use Rattle.amf_text.specs.Told as told
use Rattle.amf_text.specs.Texts.{value_json, file_json, IsWay}
use Rattle.amf_text.proofs.ExactDigits.{digits_exist}
use Rattle.amf_text_write.specs.declared.files.FileVersion.{FileVersion}
use Rattle.amf_text_write.specs.declared.layout.Layout.{Layout}
use Rattle.amf_text_write.specs.declared.values.ValueForm.{ValueForm}
use Rattle.amf_text_write.specs.declared.way.Way.{Way}
use Rattle.amf_text_write.specs.Laid.{Shown, bytes_of}
use Rattle.amf_text_write.specs.PacketTexts.{blank}
use Rattle.amf_text_write.specs.Plans.{IsPlannedWay, way_by}
use Rattle.amf_text_write.specs.Tells.{Tells}
use Rattle.amf_text_write.specs.ValueTexts.{form_name, is_bare, document_of, version_of, value_object, file_object, IsValueText, IsFileText}
use Rattle.amf_text_write.specs.Ways.{graph_in, IsWayOf}
use Rattle.amf_text_write.proofs.Documented.{document_text, value_document, file_document}
use Rattle.amf_text_write.proofs.Planned.{planned_way, is_way}

pub way_with : (k : Way) (d : Digits) (bare : Bool) → IsPlannedWay k → k.bare ≡ bare → IsWay d bare (graph_in k) (way_by k d)
way_with k d bare p e = subst (λ b. IsWay d b (graph_in k) (way_by k d)) e (is_way k d p)

pub value_whole : (layout : Layout) (form : ValueForm) (k : Way) (g : RootedArena) (s t : Shown) (bytes : List ℕ) → IsPlannedWay k → k.graph.now ≡ g → k.bare ≡ is_bare form
    → s ≡ blank layout → ((w : told.Way) → IsWayOf k w → Tells (value_object form (graph_in k) w) s t) → bytes ≡ bytes_of t → IsValueText layout form (content g) bytes
value_whole layout form k g s t bytes p same bare begin tells is =
    let d = digits_exist.0 in
    let w = way_by k d in
    let all = subst (λ (z : Shown). Tells (value_object form (graph_in k) w) z t) begin (tells w (planned_way k d p digits_exist.1)) in
    subst (λ r. IsValueText layout form (content r) bytes) same
    (document_text layout (document_of form (graph_in k)) d (value_json (form_name form) w (graph_in k)) t bytes digits_exist.1 (value_document form d (graph_in k) w (way_with k d (is_bare form) p bare)) all is)

pub file_whole : (layout : Layout) (name : List ℕ) (version : FileVersion) (i : ℕ) (k : Way) (g : RootedArena) (s t : Shown) (bytes : List ℕ) → IsPlannedWay k → k.graph.now ≡ g → k.bare ≡ document.is_bare_file (version_of version)
    → (content g).root ≡ node i → s ≡ blank layout → ((w : told.Way) → IsWayOf k w → Tells (file_object name version (graph_in k) i w) s t) → bytes ≡ bytes_of t → IsFileText layout name version (content g) bytes
file_whole layout name version i k g s t bytes p same bare root begin tells is =
    let d = digits_exist.0 in
    let w = way_by k d in
    let all = subst (λ (z : Shown). Tells (file_object name version (graph_in k) i w) z t) begin (tells w (planned_way k d p digits_exist.1)) in
    let own = ap (λ r. (content r).root) same ∙ root in
    subst (λ r. IsFileText layout name version (content r) bytes) same
    (document_text layout (file name (version_of version) (graph_in k)) d (file_json w name (version_of version) (graph_in k) (node_at (graph_in k) i)) t bytes digits_exist.1
    (file_document name version d (graph_in k) i w (way_with k d (document.is_bare_file (version_of version)) p bare) own) all is)
