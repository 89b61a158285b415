-- What was told of a packet: its headers, and then its messages.
use Rattle.std.specs.Prelude.{ℕ, Bool, List, [], ◌∷◌, ◌++◌, codes, Result, OnOk, IfOk}
use Rattle.std.specs.List.{AllZip}
use Rattle.json.specs.Token.{Token, begin_object, begin_array, end_array, key, string}
use Rattle.json.specs.Json.{Json}
use Rattle.json.specs.Tree.{json_tokens}
use Rattle.amf_graph.specs.Graph.{Graph}
use Rattle.amf_text.specs.Documents.{plain, amf3, call, Form, Header, Message, packet}
use Rattle.amf_text.specs.Scalars.{Digits, AreDigits}
use Rattle.amf_text.specs.Texts.{IsHeaderJson, IsMessageJson, header_json, message_json, IsDocumentText}
use Rattle.amf_text.specs.Told.{Way}
use Rattle.amf_text_write.specs.declared.layout.Layout.{Layout}
use Rattle.amf_text_write.specs.declared.packets.PacketForm.{PacketForm}
use Rattle.amf_text_write.specs.declared.packets.PacketForm.TheVariants.{Plain, Amf3, Call}
use Rattle.amf_text_write.specs.Laid.{Shown, is_by_lines}
use Rattle.amf_text_write.specs.Parts.{each_json}
use Rattle.amf_text_write.specs.Tells.{Tells}
use Rattle.amf_text_write.specs.ValueTexts.{layout_of}

abbrev pub form_of : PacketForm → Form
form_of Plain = plain
form_of Amf3 = amf3
form_of Call = call

abbrev pub header_of : List ℕ → Bool → PacketForm → Graph → Header Graph
header_of name must form g = record { name = name; must = must; form = form_of form; graph = g }

abbrev pub message_of : List ℕ → List ℕ → PacketForm → Graph → Message Graph
message_of target response form g = record { target = target; response = response; form = form_of form; graph = g }

-- no tokens yet
abbrev pub blank : Layout → Shown
blank layout = record { by_lines = is_by_lines layout; tokens = [] }

-- a packet up to its headers, and between these and the messages

abbrev pub headers_front : List Token
headers_front = begin_object ∷ key (codes "amf") ∷ string (codes "packet") ∷ key (codes "headers") ∷ begin_array ∷ []

abbrev pub messages_front : List Token
messages_front = end_array ∷ key (codes "messages") ∷ begin_array ∷ []

-- these headers were told, one after another, each by its canonical JSON
pub record AreHeaderTexts (layout : Layout) (headers : List (Header Graph)) (s : Shown) : Type 0 where
  pub digits : Digits
  pub are_digits : AreDigits digits
  pub jsons : List Json
  pub are_jsons : AllZip (IsHeaderJson digits) headers jsons
  pub tells : Tells (headers_front ++ each_json jsons) (blank layout) s

-- and these messages behind them
pub record AreMessageTexts (layout : Layout) (headers : List (Header Graph)) (messages : List (Message Graph)) (s : Shown) : Type 0 where
  pub digits : Digits
  pub are_digits : AreDigits digits
  pub header_jsons : List Json
  pub message_jsons : List Json
  pub are_headers : AllZip (IsHeaderJson digits) headers header_jsons
  pub are_messages : AllZip (IsMessageJson digits) messages message_jsons
  pub tells : Tells (((headers_front ++ each_json header_jsons) ++ messages_front) ++ each_json message_jsons) (blank layout) s

-- one more header
abbrev pub AddsHeader : {T E : Type 0} → Header Graph → Result T E → Shown → Shown → Type 0
AddsHeader h result old new = (layout : Layout) (headers : List (Header Graph)) → AreHeaderTexts layout headers old → OnOk result (AreHeaderTexts layout (headers ++ h ∷ []) new)

-- the headers are told, and no message yet
abbrev pub EndsHeaders : {E : Type 0} → Shown → Result Shown E → Type 0
EndsHeaders old result = (layout : Layout) (headers : List (Header Graph)) → AreHeaderTexts layout headers old → IfOk result (λ s. AreMessageTexts layout headers [] s)

-- one more message
abbrev pub AddsMessage : {T E : Type 0} → Message Graph → Result T E → Shown → Shown → Type 0
AddsMessage m result old new =
    (layout : Layout) (headers : List (Header Graph)) (messages : List (Message Graph)) → AreMessageTexts layout headers messages old
    → OnOk result (AreMessageTexts layout headers (messages ++ m ∷ []) new)

-- the bytes are the canonical text of a packet of this version, which has the headers and the messages that were told
abbrev pub IsPacketText : ℕ → Shown → List ℕ → Type 0
IsPacketText version old bytes =
    (layout : Layout) (headers : List (Header Graph)) (messages : List (Message Graph)) → AreMessageTexts layout headers messages old
    → IsDocumentText (layout_of layout) (packet version headers messages) bytes

-- Devices of proofs: the tokens of one header and of one message.

abbrev pub header_tokens : Header Graph → Way → List Token
header_tokens h w = json_tokens (header_json w h)

abbrev pub message_tokens : Message Graph → Way → List Token
message_tokens m w = json_tokens (message_json w m)
