-- The JSON text of an input: the same inputs have the same texts, each input has one, and it means the input.
use Rattle.std.specs.Prelude.{ℕ, List}
use Rattle.amf_graph.specs.Graph.{Graph}
use Rattle.amf_graph.specs.Isomorphic.{Isomorphic}
use Rattle.amf_packet.specs.Packet.{Packet}
use Rattle.amf_sol.specs.SharedObject.{Shared}
use Rattle.amf_listings.specs.SamePacket.{SamePacket, IsLoweredPacket}
use Rattle.amf_listings.specs.SameFile.{SameFile, IsLoweredFile}
use Rattle.amf_text.specs.Scalars.{read_number}
use Rattle.amf_text.specs.Documents.{Document}
use Rattle.amf_text.specs.Accepted.{Means}
use Rattle.amf_text.specs.GraphLaws.{ReadsAs}
use Rattle.amf_text.specs.Tellable.{DocumentsMatch, AreAlike}
use Rattle.amf_text_write.specs.declared.layout.Layout.{Layout}
use Rattle.amf_text_write.specs.declared.values.ValueForm.{ValueForm}
use Rattle.amf_text_write.specs.ValueTexts.{document_of}
use Rattle.amf_json.specs.JsonTexts.{packet_document, file_document, TellsValue, TellsPacket, TellsFile, IsFittedValue}
use Rattle.amf_json.specs.Ready.{IsReadyGraph, IsReadyPacket, IsReadyFile}

-- the text means this document, but for the numbers of its nodes; what is told bare, of AMF 0, is read with integers
abbrev pub MeansAlike : Document Graph → List ℕ → Type 0
MeansAlike d text = (e : Document Graph) × Means read_number text e × DocumentsMatch ReadsAs d e

pub record JsonLaws : Type 0 where
  -- a text of an input is one of each that is the same but for the numbers of its nodes
  pub same_value : (layout : Layout) (form : ValueForm) (g h fit other : Graph) (text : List ℕ) → Isomorphic g h
      → IsFittedValue form g fit → IsFittedValue form h other → TellsValue layout form fit text → TellsValue layout form other text
  pub same_packet : (layout : Layout) (p q fit other : Packet) (text : List ℕ) → SamePacket p q → IsLoweredPacket p fit → IsLoweredPacket q other
      → TellsPacket layout fit text → TellsPacket layout other text
  pub same_file : (layout : Layout) (o k fit other : Shared) (text : List ℕ) → SameFile o k → IsLoweredFile o fit → IsLoweredFile k other
      → TellsFile layout fit text → TellsFile layout other text
  -- there is a text
  pub some_value : (layout : Layout) (form : ValueForm) (g fit : Graph) → IsReadyGraph g → IsFittedValue form g fit
      → (text : List ℕ) × TellsValue layout form fit text
  pub some_packet : (layout : Layout) (p fit : Packet) → IsReadyPacket p → IsLoweredPacket p fit → (text : List ℕ) × TellsPacket layout fit text
  pub some_file : (layout : Layout) (o fit : Shared) → IsReadyFile o → IsLoweredFile o fit → (text : List ℕ) × TellsFile layout fit text
  -- which means what it tells
  pub value_means : (layout : Layout) (form : ValueForm) (g fit : Graph) (text : List ℕ) → IsReadyGraph g → IsFittedValue form g fit
      → TellsValue layout form fit text → MeansAlike (document_of form fit) text
  pub packet_means : (layout : Layout) (p fit : Packet) (text : List ℕ) → IsReadyPacket p → IsLoweredPacket p fit
      → TellsPacket layout fit text → MeansAlike (packet_document fit) text
  pub file_means : (layout : Layout) (o fit : Shared) (text : List ℕ) → IsReadyFile o → IsLoweredFile o fit
      → TellsFile layout fit text → MeansAlike (file_document fit) text
  -- and so each document that matches
  pub means_alike : (d e : Document Graph) (text : List ℕ) → DocumentsMatch AreAlike d e → MeansAlike d text → MeansAlike e text
