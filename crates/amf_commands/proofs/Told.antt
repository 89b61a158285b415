-- The JSON text of a content: it is that of each that the same input spells, and it means what it tells.
use Rattle.std.proofs.Common.{◌≡◌, ℕ, List, Result, Ok, Err, IfOk, refl}
use Rattle.amf_io.specs.Field.{Field}
use Rattle.amf_wire.specs.Style.{free}
use Rattle.amf_graph.specs.Graph.{Graph}
use Rattle.amf_packet.specs.Packet.{Packet as PacketOf}
use Rattle.amf_sol.specs.SharedObject.{Shared}
use Rattle.amf_text_write.specs.declared.layout.Layout.{Layout}
use Rattle.amf_text_write.specs.declared.values.ValueForm.TheVariants as form
use Rattle.amf_text_write.specs.ValueTexts.{document_of}
use Rattle.amf_json.specs.JsonTexts.{packet_document, file_document, IsValueJson, IsPacketJson, IsFileJson}
use Rattle.amf_json.specs.Ready.{IsReadyGraph, IsReadyPacket, IsReadyFile}
use Rattle.amf_json.proofs.Documents.{values_match, packets_match, files_match}
use Rattle.amf_json.proofs.JsonLawRows.{json_laws}
use Rattle.amf_commands.specs.declared.format.Format.{Format}
use Rattle.amf_commands.specs.declared.format.Format.TheVariants.{Amf3, Amf0, Packet, Sol}
use Rattle.amf_commands.specs.Content.{Content, value, packet, file}
use Rattle.amf_commands.specs.Formats.{IsFitted, IsSpelling}
use Rattle.amf_commands.specs.ReadContent.{IsOfValues, IsPacketRead}
use Rattle.amf_commands.specs.Told.{form_in, Tells, IsMeant, IsTold}
use Rattle.amf_commands.proofs.Formats.{SameContent}

-- the same contents have one text
pub told_content : (layout : Layout) (f : Format) (c d fit other : Content) (text : List ℕ) → SameContent c d → IsFitted f c fit → IsFitted f d other → Tells layout f fit text → Tells layout f other text
told_content layout Amf3 (value g) (value h) (value x) (value y) text i d e t = json_laws.same_value layout form.Amf3 g h x y text i d e t
told_content layout Amf0 (value g) (value h) (value x) (value y) text i d e t = json_laws.same_value layout form.Amf0 g h x y text i d e t
told_content layout Packet (packet p) (packet q) (packet x) (packet y) text i d e t = json_laws.same_packet layout p q x y text i d e t
told_content layout Sol (file o) (file k) (file x) (file y) text i d e t = json_laws.same_file layout o k x y text i d e t
told_content layout Amf3 (value g) (value h) (value x) _ text i d e t = absurd e
told_content layout Amf0 (value g) (value h) (value x) _ text i d e t = absurd e
told_content layout Packet (packet p) (packet q) (packet x) _ text i d e t = absurd e
told_content layout Sol (file o) (file k) (file x) _ text i d e t = absurd e
told_content layout Amf3 (value g) (value h) _ _ text i d e t = absurd d
told_content layout Amf0 (value g) (value h) _ _ text i d e t = absurd d
told_content layout Packet (packet p) (packet q) _ _ text i d e t = absurd d
told_content layout Sol (file o) (file k) _ _ text i d e t = absurd d
told_content layout Amf3 (value g) _ _ _ text i d e t = absurd i
told_content layout Amf0 (value g) _ _ _ text i d e t = absurd i
told_content layout Packet (packet p) _ _ _ text i d e t = absurd i
told_content layout Sol (file o) _ _ _ text i d e t = absurd i
told_content _ _ _ _ _ _ text i d e t = absurd d

-- and what means one of them means the other
pub meant_content : (f : Format) (fit other : Content) (text : List ℕ) → SameContent fit other → IsMeant f fit text → IsMeant f other text
meant_content Amf3 (value x) (value y) text i m = json_laws.means_alike (document_of form.Amf3 x) (document_of form.Amf3 y) text (values_match form.Amf3 x y i) m
meant_content Amf0 (value x) (value y) text i m = json_laws.means_alike (document_of form.Amf0 x) (document_of form.Amf0 y) text (values_match form.Amf0 x y i) m
meant_content Packet (packet x) (packet y) text i m = json_laws.means_alike (packet_document x) (packet_document y) text (packets_match x y i) m
meant_content Sol (file x) (file y) text i m = json_laws.means_alike (file_document x) (file_document y) text (files_match x y i) m
meant_content Amf3 (value x) _ text i m = absurd i
meant_content Amf0 (value x) _ text i m = absurd i
meant_content Packet (packet x) _ text i m = absurd i
meant_content Sol (file x) _ text i m = absurd i
meant_content _ _ _ text i m = absurd m

-- what was read in a format is a content of it

pub spelled_value : (f : Format) (g : Graph) (fs : List Field) → IsSpelling f free (value g) fs → IsOfValues f
spelled_value Amf3 g fs s = tt
spelled_value Amf0 g fs s = tt
spelled_value Packet g fs s = absurd s
spelled_value Sol g fs s = absurd s

pub spelled_packet : (f : Format) (p : PacketOf) (fs : List Field) → IsSpelling f free (packet p) fs → (f ≡ Packet) × IsPacketRead p
spelled_packet Amf3 p fs s = absurd s
spelled_packet Amf0 p fs s = absurd s
spelled_packet Packet p fs s = (refl, (fs, s))
spelled_packet Sol p fs s = absurd s

pub spelled_file : (f : Format) (o : Shared) (fs : List Field) → IsSpelling f free (file o) fs → f ≡ Sol
spelled_file Amf3 o fs s = absurd s
spelled_file Amf0 o fs s = absurd s
spelled_file Packet o fs s = absurd s
spelled_file Sol o fs s = refl

-- and is told

value_is_told : (layout : Layout) (f : Format) (g : Graph) (text : List ℕ) → IsOfValues f → IsReadyGraph g → IsValueJson layout (form_in f) g text → IsTold layout f (value g) text
value_is_told layout Amf3 g text of ready (fit, is, tells) = (ready, value fit, is, tells, json_laws.value_means layout form.Amf3 g fit text ready is tells)
value_is_told layout Amf0 g text of ready (fit, is, tells) = (ready, value fit, is, tells, json_laws.value_means layout form.Amf0 g fit text ready is tells)
value_is_told layout Packet g text of ready told = absurd of
value_is_told layout Sol g text of ready told = absurd of

packet_is_told : (layout : Layout) (p : PacketOf) (text : List ℕ) → IsReadyPacket p → IsPacketJson layout p text → IsTold layout Packet (packet p) text
packet_is_told layout p text ready (fit, is, tells) = (ready, packet fit, is, tells, json_laws.packet_means layout p fit text ready is tells)

file_is_told : (layout : Layout) (o : Shared) (text : List ℕ) → IsReadyFile o → IsFileJson layout o text → IsTold layout Sol (file o) text
file_is_told layout o text ready (fit, is, tells) = (ready, file fit, is, tells, json_laws.file_means layout o fit text ready is tells)

-- by what was answered, whose bytes these are
module _ {X E : Type 0} (items : X → List ℕ) (layout : Layout) where
  pub value_told : (f : Format) (g : Graph) (r : Result X E) → IsOfValues f → IsReadyGraph g → IfOk r (λ v. IsValueJson layout (form_in f) g (items v)) → IfOk r (λ v. IsTold layout f (value g) (items v))
  value_told f g (Ok v) of ready told = value_is_told layout f g (items v) of ready told
  value_told f g (Err e) of ready told = tt

  pub packet_told : (p : PacketOf) (r : Result X E) → IsReadyPacket p → IfOk r (λ v. IsPacketJson layout p (items v)) → IfOk r (λ v. IsTold layout Packet (packet p) (items v))
  packet_told p (Ok v) ready told = packet_is_told layout p (items v) ready told
  packet_told p (Err e) ready told = tt

  pub file_told : (o : Shared) (r : Result X E) → IsReadyFile o → IfOk r (λ v. IsFileJson layout o (items v)) → IfOk r (λ v. IsTold layout Sol (file o) (items v))
  file_told o (Ok v) ready told = file_is_told layout o (items v) ready told
  file_told o (Err e) ready told = tt
