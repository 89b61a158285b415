-- Ask: the bytes of a request (RFC 9112, sections 2.1 and 3; RFC 9110, sections 7.2, 8.3 and 8.6).
use Rattle.std.specs.Prelude.{◌≡◌, ℕ, Bool, true, false, List, [], ◌∷◌, ◌++◌, length, decimal, codes}
use Rattle.amf_wire.specs.Style.{canonical}
use Rattle.amf_graph.specs.Graph.{Value, leaf, node, Head, array, Graph, node_at}
use Rattle.amf0_spelling.specs.declared.form.Form.TheVariants.{Amf3}
use Rattle.amf_packet.specs.Packet.{Packet, SpelledPacket}
use Rattle.http_link.specs.Sent.{line}

-- the head, with the digits of the port and of the packet's length
abbrev pub head_with : List ℕ → List ℕ → List ℕ
head_with port size =
    line (codes "POST /amf HTTP/1.1") ++ line (codes "Host: 127.0.0.1:" ++ port) ++ line (codes "Content-Type: application/x-amf") ++ line (codes "Content-Length: " ++ size) ++ line []

-- the head and the packet behind it
abbrev pub request : ℕ → List ℕ → List ℕ
request port packet = head_with (decimal port) (decimal (length packet)) ++ packet

-- the bytes are a request for a port, with this packet spelled canonically
pub record IsRequest (port : ℕ) (p : Packet) (bytes : List ℕ) : Type 0 where
  pub packet : List ℕ
  pub spelled : SpelledPacket canonical p packet
  pub whole : bytes ≡ request port packet

-- the packet of a call: version 3, no headers, one message, which is answered to `/1`, and the arguments in AMF 3
abbrev pub call_packet : List ℕ → Graph → Packet
call_packet target args = record { version = 3; headers = []; messages = record { target = target; response = codes "/1"; body = record { form = Amf3; graph = args } } ∷ [] }

-- Ask: the bytes of a call
abbrev pub IsAsk : ℕ → List ℕ → Graph → List ℕ → Type 0
IsAsk port target args bytes = IsRequest port (call_packet target args) bytes

-- the bytes of the packet of a call: a target whose length has these two bytes, and the canonical bytes of the arguments behind the marker 11. Its length is not told.
abbrev pub packet_with : List ℕ → List ℕ → List ℕ → List ℕ
packet_with size target args =
    0 ∷ 3 ∷ 0 ∷ 0 ∷ 0 ∷ 1 ∷ size ++ (target ++ (0 ∷ 2 ∷ codes "/1" ++ (255 ∷ 255 ∷ 255 ∷ 255 ∷ 17 ∷ args)))

-- Arguments: an array without names.

abbrev pub is_unnamed_array : Head → List (List ℕ × Value) → Bool
is_unnamed_array array [] = true
is_unnamed_array _ _ = false

abbrev pub are_arguments_at : Graph → Value → Bool
are_arguments_at g (node i) = is_unnamed_array (node_at g i).head (node_at g i).names
are_arguments_at g (leaf x) = false

-- the root is an array without names
abbrev pub are_arguments : Graph → Bool
are_arguments g = are_arguments_at g g.root
