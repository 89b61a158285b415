-- From what was told to a document's text.
use Rattle.std.proofs.Common.{◌≡◌, ℕ, List, refl, ap, ◌∙◌}
use Rattle.json.specs.Token.{Token}
use Rattle.json.specs.Json.{Json}
use Rattle.json.specs.Tree.{json_tokens}
use Rattle.amf_graph.specs.Graph.{Graph, node, node_at}
use Rattle.amf_text.specs.Documents.{Document, file}
use Rattle.amf_text.specs.Scalars.{Digits, AreDigits}
use Rattle.amf_text.specs.Told.{Way}
use Rattle.amf_text.specs.Texts.{value_json, file_json, IsWay, IsDocumentJson, IsDocumentText, text_by}
use Rattle.amf_text.specs.Documents as document
use Rattle.amf_text_write.specs.declared.files.FileVersion.{FileVersion}
use Rattle.amf_text_write.specs.declared.layout.Layout.{Layout}
use Rattle.amf_text_write.specs.declared.layout.Layout.TheVariants.{Lines, Compact}
use Rattle.amf_text_write.specs.declared.values.ValueForm.{ValueForm}
use Rattle.amf_text_write.specs.declared.values.ValueForm.TheVariants.{Amf3, Amf0}
use Rattle.amf_text_write.specs.Laid.{Shown, bytes_of, is_by_lines}
use Rattle.amf_text_write.specs.PacketTexts.{blank}
use Rattle.amf_text_write.specs.Tells.{Tells}
use Rattle.amf_text_write.specs.ValueTexts.{form_name, is_bare, layout_of, document_of, version_of}

same_bytes : (layout : Layout) (ts : List Token) → bytes_of (record { by_lines = is_by_lines layout; tokens = ts }) ≡ text_by (layout_of layout) ts
same_bytes Lines ts = refl
same_bytes Compact ts = refl

-- all tokens of a document's JSON were told
pub document_text : (layout : Layout) (d : Document Graph) (digits : Digits) (j : Json) (c : Shown) (bytes : List ℕ) → AreDigits digits → IsDocumentJson digits d j → Tells (json_tokens j) (blank layout) c → bytes ≡ bytes_of c
    → IsDocumentText (layout_of layout) d bytes
document_text layout d digits j c bytes are is all e = record {
  digits = digits;
  are_digits = are;
  told = j;
  is_told = is;
  is_text = (all.told, all.alike, e ∙ ap bytes_of all.is ∙ same_bytes layout all.told);
}

pub value_document : (form : ValueForm) (digits : Digits) (g : Graph) (w : Way) → IsWay digits (is_bare form) g w → IsDocumentJson digits (document_of form g) (value_json (form_name form) w g)
value_document Amf3 digits g w is = record { way = w; is_way = is; is_json = refl }
value_document Amf0 digits g w is = record { way = w; is_way = is; is_json = refl }

pub file_document : (name : List ℕ) (version : FileVersion) (digits : Digits) (g : Graph) (i : ℕ) (w : Way) → IsWay digits (document.is_bare_file (version_of version)) g w → g.root ≡ node i
    → IsDocumentJson digits (file name (version_of version) g) (file_json w name (version_of version) g (node_at g i))
file_document name version digits g i w is root = record { way = w; is_way = is; holder = i; is_root = root; is_json = refl }
