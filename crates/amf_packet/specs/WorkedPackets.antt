-- Worked packets and bodies: these bytes spell them.
use Rattle.std.specs.Prelude.{◌≡◌, ℕ, true, List, [], ◌∷◌, ◌++◌, codes, pos}
use Rattle.amf_io.specs.Field.{Field, flat}
use Rattle.amf_wire.specs.Style.{Style, free, canonical}
use Rattle.amf_graph.specs.Graph.{Graph, null, integer, text, leaf}
use Rattle.amf3_spelling.specs.WorkedRows3.{alone}
use Rattle.amf0_spelling.specs.declared.form.Form.{Form}
use Rattle.amf0_spelling.specs.declared.form.Form.TheVariants.{Call, Amf3, Plain}
use Rattle.amf0_spelling.specs.WorkedRows0.{array_of}
use Rattle.amf_packet.specs.Packet.{Packet, BodyBy, SpelledPacket}

-- ["hi"]
abbrev pub hi : Graph
hi = array_of (leaf (text (codes "hi")) ∷ [])

-- echo.echo is called with ["hi"], and answers to /1
abbrev pub request : Packet
request = record { version = 0; headers = []; messages = record { target = codes "echo.echo"; response = codes "/1"; body = record { form = Plain; graph = hi } } ∷ [] }

abbrev pub request_bytes : List ℕ → List ℕ
request_bytes size = 0x00 ∷ 0x00 ∷ 0x00 ∷ 0x00 ∷ 0x00 ∷ 0x01 ∷ 0x00 ∷ 0x09 ∷ codes "echo.echo" ++ 0x00 ∷ 0x02 ∷ codes "/1" ++ size ++ 0x0A ∷ 0x00 ∷ 0x00 ∷ 0x00 ∷ 0x01 ∷ 0x02 ∷ 0x00 ∷ 0x02 ∷ codes "hi"

-- one header, which must be understood, and no message
abbrev pub headed : Packet
headed = record { version = 3; headers = record { name = codes "h"; must = true; body = record { form = Plain; graph = alone (leaf null) } } ∷ []; messages = [] }

abbrev pub Body : Style → Form → Graph → List ℕ → Type 0
Body s form g b = (fs : List Field) × BodyBy s form g fs × (flat fs ≡ b)

pub record Packets : Type 0 where
  -- the length is not checked, and the canonical one is FF FF FF FF
  pub plain_request : SpelledPacket free request (request_bytes (0x00 ∷ 0x00 ∷ 0x00 ∷ 0x0A ∷ []))
  pub canonical_request : SpelledPacket canonical request (request_bytes (0xFF ∷ 0xFF ∷ 0xFF ∷ 0xFF ∷ []))
  -- any flag but 0 says that the header must be understood
  pub odd_flag : SpelledPacket free headed (0x00 ∷ 0x03 ∷ 0x00 ∷ 0x01 ∷ 0x00 ∷ 0x01 ∷ 0x68 ∷ 0x07 ∷ 0x00 ∷ 0x00 ∷ 0x00 ∷ 0x00 ∷ 0x05 ∷ 0x00 ∷ 0x00 ∷ [])
  -- a call of null: the graph is that of the item
  pub free_call : Body free Call (alone (leaf null)) (0x0A ∷ 0x00 ∷ 0x00 ∷ 0x00 ∷ 0x01 ∷ 0x11 ∷ 0x01 ∷ [])
  pub canonical_call : Body canonical Call (alone (leaf null)) (0x0A ∷ 0x00 ∷ 0x00 ∷ 0x00 ∷ 0x01 ∷ 0x11 ∷ 0x01 ∷ [])
  -- 5 in AMF 3
  pub free_amf3 : Body free Amf3 (alone (leaf (integer (pos 5)))) (0x11 ∷ 0x04 ∷ 0x05 ∷ [])
  pub canonical_amf3 : Body canonical Amf3 (alone (leaf (integer (pos 5)))) (0x11 ∷ 0x04 ∷ 0x05 ∷ [])
