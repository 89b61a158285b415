-- The documents of inputs that are the same but for the numbers of their nodes match.
use Rattle.std.proofs.Common.{List, [], ◌∷◌, map, ap}
use Rattle.std.specs.List.{AllZip}
use Rattle.amf_graph.specs.Graph.{Graph}
use Rattle.amf_graph.specs.Isomorphic.{Isomorphic}
use Rattle.amf0_spelling.specs.declared.form.Form.{Form}
use Rattle.amf_packet.specs.Packet.{Header, Message, Packet}
use Rattle.amf_sol.specs.SharedObject.{Shared}
use Rattle.amf_listings.specs.SamePacket.{HeadersMatch, MessagesMatch, SamePacket}
use Rattle.amf_listings.specs.SameFile.{SameFile}
use Rattle.amf_text.specs.Tellable.{DocumentsMatch, AreAlike}
use Rattle.amf_text.specs.Tellable as told
use Rattle.amf_text_write.specs.declared.values.ValueForm.{ValueForm}
use Rattle.amf_text_write.specs.declared.values.ValueForm.TheVariants as value
use Rattle.amf_text_write.specs.ValueTexts.{document_of}
use Rattle.amf_json.specs.JsonTexts.{form_told, header_told, message_told, version_told, packet_document, file_document}

pub values_match : (form : ValueForm) (g h : Graph) → Isomorphic g h → DocumentsMatch AreAlike (document_of form g) (document_of form h)
values_match value.Amf3 g h i = i
values_match value.Amf0 g h i = i

pub zip_mapped : {X Y : Type 0} (P : X → X → Type 0) (Q : Y → Y → Type 0) (f : X → Y) → ((x y : X) → P x y → Q (f x) (f y)) → (xs ys : List X) → AllZip P xs ys → AllZip Q (map f xs) (map f ys)
zip_mapped P Q f h [] [] m = tt
zip_mapped P Q f h [] (y ∷ ys) m = absurd m
zip_mapped P Q f h (x ∷ xs) [] m = absurd m
zip_mapped P Q f h (x ∷ xs) (y ∷ ys) m = (h x y m.0, zip_mapped P Q f h xs ys m.1)

abbrev Iso : Form → Graph → Graph → Type 0
Iso = λ form. Isomorphic

header_match : (h k : Header) → HeadersMatch Iso h k → told.HeadersMatch AreAlike (header_told h) (header_told k)
header_match h k m = record { name = m.0; must = m.1; form = ap form_told m.2.0; graph = m.2.1 }

message_match : (m n : Message) → MessagesMatch Iso m n → told.MessagesMatch AreAlike (message_told m) (message_told n)
message_match m n s = record { target = s.0; response = s.1; form = ap form_told s.2.0; graph = s.2.1 }

pub packets_match : (p q : Packet) → SamePacket p q → DocumentsMatch AreAlike (packet_document p) (packet_document q)
packets_match p q m = (
  m.version,
  zip_mapped (HeadersMatch Iso) (told.HeadersMatch AreAlike) header_told header_match p.headers q.headers m.headers,
  zip_mapped (MessagesMatch Iso) (told.MessagesMatch AreAlike) message_told message_match p.messages q.messages m.messages,
)

pub files_match : (o k : Shared) → SameFile o k → DocumentsMatch AreAlike (file_document o) (file_document k)
files_match o k m = (m.name, ap version_told m.version, m.holder)
