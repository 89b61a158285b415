-- A document that can be told has a text, and a text of a document is one of each that matches it.
use Rattle.std.proofs.Common.{◌≡◌, ℕ, Bool, List, [], ◌∷◌, refl, subst}
use Rattle.std.specs.Prelude.{codes}
use Rattle.std.specs.List.{AllZip}
use Rattle.json.specs.Json.{Json}
use Rattle.json.specs.Tree.{json_tokens}
use Rattle.amf_graph.specs.Graph.{Value, leaf, node, Graph, node_at}
use Rattle.amf_graph.specs.Isomorphic.{ValuesMatch, StandIn, Isomorphic}
use Rattle.amf_graph.proofs.Places.{order_along}
use Rattle.amf_text.specs.Scalars.{Digits}
use Rattle.amf_text.specs.Told.{Way}
use Rattle.amf_text.specs.Documents.{is_bare, Header, Message, FileVersion, is_bare_file, Document, value3, value0, file, packet}
use Rattle.amf_text.specs.Texts.{Layout, text_by, value_json, file_json, header_json, message_json, packet_json, IsWay, IsValueJson, IsFileJson, IsHeaderJson, IsMessageJson, IsPacketJson, IsDocumentJson, IsTextOf, IsDocumentText}
use Rattle.amf_text.specs.Tellable.{IsTellable, HeadersMatch, MessagesMatch, DocumentsMatch, AreAlike}
use Rattle.amf_text.proofs.ExactDigits.{digits_exist}
use Rattle.amf_text.proofs.JsonExists.{json_exists}
use Rattle.amf_text.proofs.OneText.{same_json}
use Rattle.amf_text.proofs.TableExists.{table_exists}
use Rattle.amf_text.proofs.Tables.{same_tokens}

pub some_text : (layout : Layout) (d : Document Graph) → IsTellable d → (text : List ℕ) × IsDocumentText layout d text
some_text layout d t =
    let j = json_exists digits_exist.0 d t in
    let ts = json_tokens j.0 in
    (text_by layout ts, record { digits = digits_exist.0; are_digits = digits_exist.1; told = j.0; is_told = j.1; is_text = (ts, same_tokens ts, refl) })

-- The JSON of a document that matches.

way_along : (digits : Digits) (bare : Bool) (g h : Graph) (w : Way) → Isomorphic g h → IsWay digits bare g w → (v : Way) × IsWay digits bare h v
way_along digits bare g h w i a =
    let o = order_along g h w.order a.is_order i in
    let t = table_exists h o.0 o.1 in
    (record { order = o.0; table = t.0; digits = digits; bare = bare }, record { is_order = o.1; is_table = t.1; same_digits = refl; same_bare = refl })

value_along : (form : List ℕ) (digits : Digits) (bare : Bool) (g h : Graph) (j : Json) → Isomorphic g h → IsValueJson form digits bare g j → (k : Json) × IsValueJson form digits bare h k
value_along form digits bare g h j i a = let w = way_along digits bare g h a.way i a.is_way in (value_json form w.0 h, record { way = w.0; is_way = w.1; is_json = refl })

root_at : (P : ℕ → ℕ → Type 0) (a : ℕ) (w : Value) → ValuesMatch P (node a) w → (b : ℕ) × (w ≡ node b)
root_at P a (leaf x) m = absurd m
root_at P a (node b) m = (b, refl)

file_along : (digits : Digits) (name : List ℕ) (version : FileVersion) (g h : Graph) (j : Json) → Isomorphic g h → IsFileJson digits name version g j → (k : Json) × IsFileJson digits name version h k
file_along digits name version g h j i a =
    let w = way_along digits (is_bare_file version) g h a.way i a.is_way in
    let r = root_at (StandIn i.pairs) a.holder h.root (subst (λ v. ValuesMatch (StandIn i.pairs) v h.root) a.is_root i.root) in
    (file_json w.0 name version h (node_at h r.0), record { way = w.0; is_way = w.1; holder = r.0; is_root = r.1; is_json = refl })

header_along : (digits : Digits) (a b : Header Graph) (j : Json) → HeadersMatch AreAlike a b → IsHeaderJson digits a j → (k : Json) × IsHeaderJson digits b k
header_along digits a b j m (w, is, e) =
    let v = way_along digits (is_bare a.form) a.graph b.graph w m.graph is in
    (header_json v.0 b, (v.0, subst (λ f. IsWay digits (is_bare f) b.graph v.0) m.form v.1, refl))

message_along : (digits : Digits) (a b : Message Graph) (j : Json) → MessagesMatch AreAlike a b → IsMessageJson digits a j → (k : Json) × IsMessageJson digits b k
message_along digits a b j m (w, is, e) =
    let v = way_along digits (is_bare a.form) a.graph b.graph w m.graph is in
    (message_json v.0 b, (v.0, subst (λ f. IsWay digits (is_bare f) b.graph v.0) m.form v.1, refl))

all_along : {X : Type 0} (M : X → X → Type 0) (J : X → Json → Type 0) → ((x y : X) (j : Json) → M x y → J x j → (k : Json) × J y k)
    → (xs ys : List X) (js : List Json) → AllZip M xs ys → AllZip J xs js → (ks : List Json) × AllZip J ys ks
all_along M J f [] [] js m a = ([], tt)
all_along M J f [] (y ∷ ys) js m a = absurd m
all_along M J f (x ∷ xs) [] js m a = absurd m
all_along M J f (x ∷ xs) (y ∷ ys) [] m a = absurd a
all_along M J f (x ∷ xs) (y ∷ ys) (j ∷ js) m a =
    let k = f x y j m.0 a.0 in
    let ks = all_along M J f xs ys js m.1 a.1 in
    (k.0 ∷ ks.0, (k.1, ks.1))

packet_along : (digits : Digits) (version : ℕ) (hs is : List (Header Graph)) (ms ns : List (Message Graph)) (j : Json) → AllZip (HeadersMatch AreAlike) hs is → AllZip (MessagesMatch AreAlike) ms ns
    → IsPacketJson digits version hs ms j → (k : Json) × IsPacketJson digits version is ns k
packet_along digits version hs is ms ns j m n a =
    let x = all_along (HeadersMatch AreAlike) (IsHeaderJson digits) (header_along digits) hs is a.header_jsons m a.are_headers in
    let y = all_along (MessagesMatch AreAlike) (IsMessageJson digits) (message_along digits) ms ns a.message_jsons n a.are_messages in
    (packet_json version x.0 y.0, record { header_jsons = x.0; message_jsons = y.0; are_headers = x.1; are_messages = y.1; is_json = refl })

json_along : (digits : Digits) (d e : Document Graph) (j : Json) → DocumentsMatch AreAlike d e → IsDocumentJson digits d j → (k : Json) × IsDocumentJson digits e k
json_along digits (value3 g) (value3 h) j m a = value_along (codes "amf3") digits _ g h j m a
json_along digits (value0 g) (value0 h) j m a = value_along (codes "amf0") digits _ g h j m a
json_along digits (file name version g) (file other version' h) j m a =
    let k = file_along digits name version g h j m.2 a in
    (k.0, subst (λ v. IsFileJson digits other v h k.0) m.1 (subst (λ n. IsFileJson digits n version h k.0) m.0 k.1))
json_along digits (packet version hs ms) (packet version' is ns) j m a =
    let k = packet_along digits version hs is ms ns j m.1 m.2 a in
    (k.0, subst (λ v. IsPacketJson digits v is ns k.0) m.0 k.1)
json_along digits (value3 g) (value0 h) j m a = elim m [ ]
json_along digits (value3 g) (file name version h) j m a = elim m [ ]
json_along digits (value3 g) (packet version hs ms) j m a = elim m [ ]
json_along digits (value0 g) (value3 h) j m a = elim m [ ]
json_along digits (value0 g) (file name version h) j m a = elim m [ ]
json_along digits (value0 g) (packet version hs ms) j m a = elim m [ ]
json_along digits (file name version g) (value3 h) j m a = elim m [ ]
json_along digits (file name version g) (value0 h) j m a = elim m [ ]
json_along digits (file name version g) (packet version' hs ms) j m a = elim m [ ]
json_along digits (packet version hs ms) (value3 h) j m a = elim m [ ]
json_along digits (packet version hs ms) (value0 h) j m a = elim m [ ]
json_along digits (packet version hs ms) (file name version' h) j m a = elim m [ ]

pub text_along : (layout : Layout) (d e : Document Graph) (text : List ℕ) → DocumentsMatch AreAlike d e → IsDocumentText layout d text → IsDocumentText layout e text
text_along layout d e text m t =
    let k = json_along t.digits d e t.told m t.is_told in
    record {
      digits = t.digits;
      are_digits = t.are_digits;
      told = k.0;
      is_told = k.1;
      is_text = subst (λ j. IsTextOf layout j text) (same_json t.digits d e t.told k.0 m t.is_told k.1) t.is_text;
    }
