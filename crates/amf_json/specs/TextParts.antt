-- The headers and messages of a packet that were told so far. A device of proofs.
use Rattle.std.specs.Prelude.{List, [], ◌∷◌, ◌++◌, map, Result, OnOk}
use Rattle.std.specs.List.{AllByRecursion, AllZip}
use Rattle.amf_graph.specs.Graph.{Graph}
use Rattle.amf_packet.specs.Packet.{Header, Message}
use Rattle.amf_listings.specs.SamePacket.{HeadersMatch, MessagesMatch, IsFittedGraph}
use Rattle.amf_text.specs.Documents as text
use Rattle.amf_text_write.specs.declared.layout.Layout.{Layout}
use Rattle.amf_text_write.specs.Laid.{Shown}
use Rattle.amf_text_write.specs.PacketTexts.{AreHeaderTexts, AreMessageTexts}
use Rattle.amf_json.specs.Ready.{IsReadyGraph}
use Rattle.amf_json.specs.JsonTexts.{header_told, message_told}

-- headers in the kinds that their forms have, which were told
abbrev pub TellHeaders : Layout → List Header → Shown → Type 0
TellHeaders layout hs s = (fits : List Header) × AllZip (HeadersMatch IsFittedGraph) hs fits × AreHeaderTexts layout (map header_told fits) s

abbrev pub TellMessages : Layout → List (text.Header Graph) → List Message → Shown → Type 0
TellMessages layout headers ms s =
    (fits : List Message) × AllZip (MessagesMatch IsFittedGraph) ms fits × AreMessageTexts layout headers (map message_told fits) s

-- one more
abbrev pub TellsHeader : {T E : Type 0} → Header → Result T E → Shown → Shown → Type 0
TellsHeader h result old new = (layout : Layout) (hs : List Header) → TellHeaders layout hs old → OnOk result (TellHeaders layout (hs ++ h ∷ []) new)

abbrev pub TellsMessage : {T E : Type 0} → Message → Result T E → Shown → Shown → Type 0
TellsMessage m result old new =
    (layout : Layout) (headers : List (text.Header Graph)) (ms : List Message) → TellMessages layout headers ms old
    → OnOk result (TellMessages layout headers (ms ++ m ∷ []) new)

-- all of these, behind none
abbrev pub TellsHeaders : {T E : Type 0} → List Header → Result T E → Shown → Shown → Type 0
TellsHeaders hs result old new = (layout : Layout) → AreHeaderTexts layout [] old → OnOk result (TellHeaders layout hs new)

abbrev pub TellsMessages : {T E : Type 0} → List Message → Result T E → Shown → Shown → Type 0
TellsMessages ms result old new =
    (layout : Layout) (headers : List (text.Header Graph)) → AreMessageTexts layout headers [] old
    → OnOk result (TellMessages layout headers ms new)

-- the graphs of all can be read back
abbrev pub AreReadyHeaders : List Header → Type 0
AreReadyHeaders = AllByRecursion (λ h. IsReadyGraph h.body.graph)

abbrev pub AreReadyMessages : List Message → Type 0
AreReadyMessages = AllByRecursion (λ m. IsReadyGraph m.body.graph)
