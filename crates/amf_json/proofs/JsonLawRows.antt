-- The laws of the JSON text of an input.
use Rattle.amf_json.specs.JsonLaws.{JsonLaws}
use Rattle.amf_json.specs.JsonTexts.{packet_document, file_document}
use Rattle.amf_listings.proofs.PacketLowerings as packets
use Rattle.amf_listings.proofs.CanonicalFiles as files
use Rattle.amf_text.proofs.ReadsBack.{reads_back}
use Rattle.amf_text_write.specs.declared.values.ValueForm.{ValueForm}
use Rattle.amf_text_write.specs.declared.values.ValueForm.TheVariants as value
use Rattle.amf_text_write.specs.ValueTexts.{layout_of, document_of}
use Rattle.amf_text.specs.DocumentLaws.{HasFewNodes}
use Rattle.amf_text.specs.Tellable.{IsTellable}
use Rattle.amf_graph.specs.Graph.{Graph}
use Rattle.amf_json.specs.Ready.{IsReadyGraph}
use Rattle.amf_json.proofs.TextsAlike.{some_text, text_along}
use Rattle.amf_json.proofs.Documents.{values_match, packets_match, files_match}
use Rattle.amf_json.proofs.MeantAlike.{meant_alike}
use Rattle.amf_json.proofs.FittedInputs.{value_ready, values_alike, packet_ready, file_ready}

value_document_ready : (form : ValueForm) (g : Graph) → IsReadyGraph g → IsTellable (document_of form g) × HasFewNodes (document_of form g)
value_document_ready value.Amf3 g r = r
value_document_ready value.Amf0 g r = r

pub json_laws : JsonLaws
json_laws = record {
  same_value = λ layout form g h fit other text i a b t. text_along (layout_of layout) (document_of form fit) (document_of form other) text (values_match form fit other (values_alike form g h fit other i a b)) t;
  same_packet = λ layout p q fit other text i a b t. text_along (layout_of layout) (packet_document fit) (packet_document other) text (packets_match fit other (packets.lowered_alike p q fit other i a b)) t;
  same_file = λ layout o k fit other text i a b t. text_along (layout_of layout) (file_document fit) (file_document other) text (files_match fit other (files.lowered_alike o k fit other i a b)) t;
  some_value = λ layout form g fit r a. some_text (layout_of layout) (document_of form fit) (value_document_ready form fit (value_ready form g fit r a)).0;
  some_packet = λ layout p fit r a. some_text (layout_of layout) (packet_document fit) (packet_ready p fit r a).0;
  some_file = λ layout o fit r a. some_text (layout_of layout) (file_document fit) (file_ready o fit r a).0;
  value_means = λ layout form g fit text r a t. let s = value_document_ready form fit (value_ready form g fit r a) in reads_back (layout_of layout) (document_of form fit) text s.0 s.1 t;
  packet_means = λ layout p fit text r a t. let s = packet_ready p fit r a in reads_back (layout_of layout) (packet_document fit) text s.0 s.1 t;
  file_means = λ layout o fit text r a t. let s = file_ready o fit r a in reads_back (layout_of layout) (file_document fit) text s.0 s.1 t;
  means_alike = meant_alike;
}
