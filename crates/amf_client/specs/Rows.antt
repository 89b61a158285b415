-- Worked heads, messages, faults and requests. Whole replies, byte for byte, are rows of tests.
use Rattle.std.specs.Prelude.{◌≡◌, ℕ, true, false, List, [], ◌∷◌, ◌++◌, length, Some, None, codes, pos}
use Rattle.httparse.specs.Grammar.{ResponseHead, Field, crlf, status_code}
use Rattle.http_link.specs.Fields.{body_size}
use Rattle.amf_graph.specs.Graph.{Value, leaf, node, text, null, integer, array, object, Graph}
use Rattle.amf_packet.specs.Packet.{Message}
use Rattle.amf0_spelling.specs.declared.form.Form.TheVariants.{Amf3}
use Rattle.amf_client.specs.declared.meaning.TargetKind.TheVariants as kind
use Rattle.amf_client.specs.Asking.{head_with, packet_with, IsAsk, are_arguments}
use Rattle.amf_client.specs.Faults.{fault_texts}
use Rattle.amf_client.specs.Meant.{kind_of, MessagesMean, GraphMeans, Means}
use Rattle.amf_client.specs.Outcomes.{bad, fault, result, IsResult}
use Rattle.amf_client.specs.Reply.{IsRefused}
use Rattle.amf_client.specs.Table.{refusal, fields_of}

-- a field, its value behind a space
abbrev pub field : List ℕ → List ℕ → Field
field name value = record { name = name; raw = 32 ∷ value; end = crlf }

abbrev pub head : List ℕ → List Field → ResponseHead
head digits fields = record { blank = []; minor = 1; digits = digits; reason = Some (codes "OK"); line_end = crlf; fields = fields; last = crlf }

abbrev pub size : List ℕ → Field
size digits = field (codes "Content-Length") digits

abbrev pub reply_with : List Field → ResponseHead
reply_with fields = head (codes "200") fields

-- an object of a class with members, the first ones sealed
abbrev pub one_object : List ℕ → List (List ℕ) → List Value → List (List ℕ × Value) → Graph
one_object class sealed values members = record { nodes = record { head = object (record { class = class; dynamic = true; sealed = sealed }); names = members; values = values } ∷ []; root = node 0 }

abbrev pub said : List ℕ → Value
said x = leaf (text x)

-- a fault as the gateway writes it
abbrev pub no_service : Graph
no_service = one_object [] [] [] ((codes "code", said (codes "Client.NoService")) ∷ (codes "description", said (codes "no such service")) ∷ (codes "level", said (codes "error")) ∷ [])

abbrev pub error_message : List (List ℕ) → List Value → List (List ℕ × Value) → Graph
error_message = one_object (codes "flex.messaging.messages.ErrorMessage")

abbrev pub message : List ℕ → Graph → Message
message target g = record { target = target; response = codes "null"; body = record { form = Amf3; graph = g } }

abbrev pub alone : Value → Graph
alone v = record { nodes = []; root = v }

abbrev pub array_with : List (List ℕ × Value) → List Value → Graph
array_with names items = record { nodes = record { head = array; names = names; values = items } ∷ []; root = node 0 }

-- an array with one member of an empty name, and an object with a sealed one
abbrev pub nameless : Graph
nameless = array_with (([], leaf null) ∷ []) []

abbrev pub sealed_nameless : Graph
sealed_nameless = one_object [] ([] ∷ []) (leaf null ∷ []) []

abbrev pub two_and_three : Graph
two_and_three = array_with [] (leaf (integer (pos 2)) ∷ leaf (integer (pos 3)) ∷ [])

-- the call of `sum.sum` with these arguments on port 1
abbrev pub sum_call : List ℕ
sum_call =
    codes "POST /amf HTTP/1.1" ++ 13 ∷ 10 ∷ codes "Host: 127.0.0.1:1" ++ 13 ∷ 10
    ∷ codes "Content-Type: application/x-amf" ++ 13 ∷ 10 ∷ codes "Content-Length: 31" ++ 13 ∷ 10 ∷ 13 ∷ 10
    ∷ 0 ∷ 3 ∷ 0 ∷ 0 ∷ 0 ∷ 1 ∷ 0 ∷ 7 ∷ codes "sum.sum" ++ 0 ∷ 2 ∷ codes "/1" ++ 255 ∷ 255 ∷ 255 ∷ 255
    ∷ 17 ∷ 9 ∷ 5 ∷ 1 ∷ 4 ∷ 2 ∷ 4 ∷ 3 ∷ []

pub record WorkedRows : Type 0 where
  -- number 7 of no bytes, number 1 of an empty line alone, and number 4 of an empty body
  pub no_bytes : IsResult Means [] (bad 7) []
  pub bare_line : IsRefused (13 ∷ 10 ∷ 13 ∷ 10 ∷ []) 1
  pub no_body : Means [] (bad 4)
  -- numbers 2 and 3
  pub good : refusal (reply_with (size (codes "35") ∷ [])) ≡ None
  pub good_size : body_size (fields_of (reply_with (size (codes "35") ∷ []))) ≡ 35
  pub good_code : status_code (head (codes "404") []) ≡ 404
  pub no_length : refusal (reply_with []) ≡ Some 3
  pub two_lengths : refusal (reply_with (size (codes "1") ∷ size (codes "1") ∷ [])) ≡ Some 3
  pub signed_length : refusal (reply_with (size (codes "+1") ∷ [])) ≡ Some 3
  pub leading_zero : refusal (reply_with (size (codes "01") ∷ [])) ≡ None
  pub largest : refusal (reply_with (size (codes "16777216") ∷ [])) ≡ None
  pub too_large : refusal (reply_with (size (codes "16777217") ∷ [])) ≡ Some 3
  pub chunked : refusal (reply_with (field (codes "transfer-ENCODING") (codes "identity") ∷ size (codes "1") ∷ [])) ≡ Some 2
  pub gzip : refusal (reply_with (field (codes "content-encoding") (codes "gzip") ∷ size (codes "1") ∷ [])) ≡ Some 2
  pub second_coding : refusal (reply_with (field (codes "Content-Encoding") (codes "identity") ∷ field (codes "Content-Encoding") (codes "br") ∷ size (codes "1") ∷ [])) ≡ Some 2
  -- 2 goes before 3, and the status before neither
  pub order : refusal (head (codes "500") (field (codes "Transfer-Encoding") (codes "chunked") ∷ [])) ≡ Some 2
  pub identity : refusal (head (codes "500") (field (codes "Content-Encoding") (codes "Identity") ∷ size (codes "1") ∷ [])) ≡ None
  -- targets
  pub on_result : kind_of (codes "/1/onResult") ≡ kind.Result
  pub on_status : kind_of (codes "/1/onStatus") ≡ kind.Status
  pub on_other : kind_of (codes "/2/onResult") ≡ kind.Other
  pub bare : kind_of (codes "/1") ≡ kind.Other
  -- number 5: no message, two, and another target
  pub no_message : MessagesMean GraphMeans [] (bad 5)
  pub two_messages : MessagesMean GraphMeans (message (codes "/1/onResult") (alone (leaf null)) ∷ message (codes "/1/onResult") (alone (leaf null)) ∷ []) (bad 5)
  pub other_target : MessagesMean GraphMeans (message (codes "/1/onresult") (alone (leaf null)) ∷ []) (bad 5)
  -- number 6: a result with an empty name, which a sealed one is not
  pub empty_name : MessagesMean GraphMeans (message (codes "/1/onResult") nameless ∷ []) (bad 6)
  pub empty_sealed_name : MessagesMean GraphMeans (message (codes "/1/onResult") sealed_nameless ∷ []) (result sealed_nameless)
  -- the two texts of a fault
  pub fault_of : MessagesMean GraphMeans (message (codes "/1/onStatus") no_service ∷ []) (fault (codes "Client.NoService") (codes "no such service"))
  -- sealed members count too, and the last one of a name does
  pub last_counts : fault_texts (one_object [] (codes "code" ∷ codes "description" ∷ []) (said (codes "a") ∷ said (codes "b") ∷ []) ((codes "code", said (codes "c")) ∷ [])) ≡ Some (codes "c", codes "b")
  pub no_text : fault_texts (one_object [] [] [] ((codes "code", leaf (integer (pos 1))) ∷ (codes "description", said (codes "b")) ∷ [])) ≡ None
  pub one_text : fault_texts (one_object [] [] [] ((codes "code", said (codes "a")) ∷ [])) ≡ None
  pub error_texts : fault_texts (error_message [] [] ((codes "faultCode", said (codes "a")) ∷ (codes "faultString", said (codes "b")) ∷ [])) ≡ Some (codes "a", codes "b")
  -- an ErrorMessage has them under these names alone, and no other class has
  pub error_code : fault_texts (error_message [] [] ((codes "code", said (codes "a")) ∷ (codes "description", said (codes "b")) ∷ [])) ≡ None
  pub plain_fault_code : fault_texts (one_object [] [] [] ((codes "faultCode", said (codes "a")) ∷ (codes "faultString", said (codes "b")) ∷ [])) ≡ None
  pub array_fault : fault_texts (array_with ((codes "code", said (codes "a")) ∷ (codes "description", said (codes "b")) ∷ []) []) ≡ None
  pub no_object : fault_texts (alone (leaf null)) ≡ None
  -- arguments
  pub unnamed : are_arguments (array_with [] (leaf null ∷ [])) ≡ true
  pub named : are_arguments (array_with ((codes "a", leaf null) ∷ []) []) ≡ false
  pub object_arguments : are_arguments no_service ≡ false
  pub null_arguments : are_arguments (alone (leaf null)) ≡ false
  -- a call, byte for byte
  pub asked : IsAsk 1 (codes "sum.sum") two_and_three sum_call
  -- its packet, and the head before it
  pub packet_length : length (packet_with (0 ∷ 7 ∷ []) (codes "sum.sum") (9 ∷ 5 ∷ 1 ∷ 4 ∷ 2 ∷ 4 ∷ 3 ∷ [])) ≡ 31
  pub request_head : head_with (codes "1") (codes "31") ≡ codes "POST /amf HTTP/1.1" ++ 13 ∷ 10 ∷ codes "Host: 127.0.0.1:1" ++ 13 ∷ 10 ∷ codes "Content-Type: application/x-amf" ++ 13 ∷ 10 ∷ codes "Content-Length: 31" ++ 13 ∷ 10 ∷ 13 ∷ 10 ∷ []
