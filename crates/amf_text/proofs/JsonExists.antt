-- Each document that can be told has a JSON.
use Rattle.std.proofs.Common.{ℕ, Bool, List, [], ◌∷◌, refl}
use Rattle.std.specs.Prelude.{codes}
use Rattle.std.specs.List.{AllZip, AllByRecursion}
use Rattle.json.specs.Json.{Json}
use Rattle.amf_graph.specs.Graph.{Graph, node_at}
use Rattle.amf_graph.specs.Reached.{IsWhole}
use Rattle.amf_graph.proofs.OrderExists.{order_exists}
use Rattle.amf_text.specs.Scalars.{Digits}
use Rattle.amf_text.specs.Told.{Way}
use Rattle.amf_text.specs.Documents.{is_bare, Header, Message, is_bare_file, Document, value3, value0, file, packet}
use Rattle.amf_text.specs.Texts.{value_json, file_json, header_json, message_json, packet_json, IsWay, IsValueJson, IsHeaderJson, IsMessageJson, IsDocumentJson}
use Rattle.amf_text.specs.Tellable.{IsTellableHeader, IsTellableMessage, IsTellable}
use Rattle.amf_text.proofs.TableExists.{table_exists}

pub way_exists : (digits : Digits) (bare : Bool) (g : Graph) → IsWhole g → (w : Way) × IsWay digits bare g w
way_exists digits bare g whole =
    let o = order_exists g whole.there in
    let t = table_exists g o.0 o.1 in
    (record { order = o.0; table = t.0; digits = digits; bare = bare }, record { is_order = o.1; is_table = t.1; same_digits = refl; same_bare = refl })

value_exists : (form : List ℕ) (digits : Digits) (bare : Bool) (g : Graph) → IsWhole g → (j : Json) × IsValueJson form digits bare g j
value_exists form digits bare g whole = let w = way_exists digits bare g whole in (value_json form w.0 g, record { way = w.0; is_way = w.1; is_json = refl })

header_exists : (digits : Digits) (h : Header Graph) → IsTellableHeader h → (j : Json) × IsHeaderJson digits h j
header_exists digits h t = let w = way_exists digits (is_bare h.form) h.graph t.whole in (header_json w.0 h, (w.0, w.1, refl))

message_exists : (digits : Digits) (m : Message Graph) → IsTellableMessage m → (j : Json) × IsMessageJson digits m j
message_exists digits m t = let w = way_exists digits (is_bare m.form) m.graph t.whole in (message_json w.0 m, (w.0, w.1, refl))

all_exist : {X : Type 0} (P : X → Type 0) (R : X → Json → Type 0) → ((x : X) → P x → (j : Json) × R x j) → (xs : List X) → AllByRecursion P xs → (js : List Json) × AllZip R xs js
all_exist P R f [] h = ([], tt)
all_exist P R f (x ∷ xs) h = let o = f x h.0 in let rest = all_exist P R f xs h.1 in (o.0 ∷ rest.0, (o.1, rest.1))

pub json_exists : (digits : Digits) (d : Document Graph) → IsTellable d → (j : Json) × IsDocumentJson digits d j
json_exists digits (value3 g) t = value_exists (codes "amf3") digits _ g t
json_exists digits (value0 g) t = value_exists (codes "amf0") digits _ g t
json_exists digits (file name version g) t =
    let w = way_exists digits (is_bare_file version) g t.1 in
    (file_json w.0 name version g (node_at g t.2), record { way = w.0; is_way = w.1; holder = t.2; is_root = t.3.root; is_json = refl })
json_exists digits (packet version headers messages) t =
    let hs = all_exist IsTellableHeader (IsHeaderJson digits) (header_exists digits) headers t.header_parts in
    let ms = all_exist IsTellableMessage (IsMessageJson digits) (message_exists digits) messages t.message_parts in
    (packet_json version hs.0 ms.0, record { header_jsons = hs.0; message_jsons = ms.0; are_headers = hs.1; are_messages = ms.1; is_json = refl })
