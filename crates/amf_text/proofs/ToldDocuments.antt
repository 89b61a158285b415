-- The canonical JSON of files and packets means something.
use Rattle.std.proofs.Common.{◌≡◌, ◌⊎◌, ℕ, ◌<◌, ◌≤◌, Bool, true, false, List, [], ◌∷◌, length, Option, Some, None, refl, sym, ap, ◌∙◌, subst, if◌then◌else◌, pos, inl, inr, suc, arith}
use Rattle.std.specs.Prelude.{codes, decimal, option_map, option_and_then}
use Rattle.std.specs.List.{AllZip, AllByRecursion}
use Rattle.json.specs.Json.{Json, no_members, member, Members}
use Rattle.json.specs.Json as json
use Rattle.amf_wire.proofs.WholeNumbers.{pattern_is}
use Rattle.amf_graph.specs.Graph.{node, Graph, node_at}
use Rattle.amf_graph.specs.Reached.{at_root}
use Rattle.amf_text.specs.Scalars.{word, told_text, read_number, Digits, AreDigits}
use Rattle.amf_text.specs.Told.{Way, items_of, listed, levels, levels_below, told_root, told_pairs, table_before}
use Rattle.amf_text.specs.Documents.{Form, plain, amf3, call, form_word, is_bare, Header, Message, FileVersion, file0, file3, version_of, is_bare_file, Document, value3, value0, file, packet}
use Rattle.amf_text.specs.Texts.{file_json, header_json, message_json, IsWay, IsHeaderJson, IsMessageJson, IsPacketJson}
use Rattle.amf_text.specs.Meant.{Tree, Named, whole_meant, flag_meant, each, if_true, if_last, plain_object, meant}
use Rattle.amf_text.specs.Accepted.{Part, Taken, and_take, short_meant, is_short, form_meant, file_version, packet_version, holder_meant, header_members, with_response, message_members, of_members, is_few, few_meant, document_meant}
use Rattle.amf_text.specs.Tellable.{IsShortText, IsTellableHeader, IsTellableMessage, IsTellablePacket, IsTellable}
use Rattle.amf_text.specs.ToldTrees.{tree_of}
use Rattle.amf_text.specs.ValueLaws.{part_of}
use Rattle.amf_text.specs.DocumentLaws.{IsFew, DocumentIsMeant}
use Rattle.amf_text.specs.LinkLaws.{pairs_tree, file_part as part_of_file}
use Rattle.amf_text.proofs.ToldMembers.{text_told}
use Rattle.amf_text.proofs.ToldBodies.{below_test, whole_back}
use Rattle.amf_text.proofs.ToldNodes.{pairs_told_at}
use Rattle.amf_text.proofs.ToldParts.{table_meant, root_meant, amf3_meant, amf0_meant}
use Rattle.amf_text.proofs.SoundDocuments.{take_at, part_is, few_are, header_name, header_must, header_form, message_root, message_response, message_table, message_form, file_part, file_name, file_version_of, packet_version_of, packet_messages, packet_headers}

short_back : (x : List ℕ) → IsShortText x → short_meant (told_text x) ≡ Some x
short_back x h = ap (option_and_then (if_true is_short)) (text_told x h.0) ∙ ap (λ b. if b then Some x else None) (below_test (length x) 65536 (omega (arith, h.1)))

form_back : (f : Form) → form_meant (word (form_word f)) ≡ Some f
form_back plain = refl
form_back amf3 = refl
form_back call = refl

number_back : (n : ℕ) → n < 10 → whole_meant read_number (json.number (decimal n)) ≡ Some (pos n)
number_back n h = whole_back (pos n) (pattern_is (pos n) (omega (arith, h)))

file_version_back : (v : FileVersion) → file_version_of read_number (json.number (decimal (version_of v))) ≡ Some v
file_version_back file0 = ap (option_and_then file_version) (number_back 0 (omega arith))
file_version_back file3 = ap (option_and_then file_version) (number_back 3 (omega arith))

packet_version_back : (n : ℕ) → (n ≡ 0) ⊎ ((n ≡ 1) ⊎ (n ≡ 3)) → packet_version_of read_number (json.number (decimal n)) ≡ Some n
packet_version_back n (inl e) = subst (λ m. packet_version_of read_number (json.number (decimal m)) ≡ Some m) (sym e) (ap (option_and_then packet_version) (number_back 0 (omega arith)))
packet_version_back n (inr (inl e)) = subst (λ m. packet_version_of read_number (json.number (decimal m)) ≡ Some m) (sym e) (ap (option_and_then packet_version) (number_back 1 (omega arith)))
packet_version_back n (inr (inr e)) = subst (λ m. packet_version_of read_number (json.number (decimal m)) ≡ Some m) (sym e) (ap (option_and_then packet_version) (number_back 3 (omega arith)))

pub header_back : (digits : Digits) (h : Header Graph) (w : Way) → AreDigits digits → IsTellableHeader h → IsFew h.graph → IsWay digits (is_bare h.form) h.graph w
    → of_members (header_members read_number) (header_json w h) ≡ Some (record { name = h.name; must = h.must; form = h.form; graph = part_of w h.graph })
header_back digits h w d t few way =
    let root = member (codes "root") (told_root w h.graph) no_members in
    let rows = table_before w h.graph root in
    let named = member (codes "name") (told_text h.name) rows in
    let owed = member (codes "must") (json.boolean h.must) named in
    ap (λ (o : Taken Form). and_take o (header_form read_number)) (take_at (codes "form") form_meant (word (form_word h.form)) h.form owed (form_back h.form))
    ∙ ap (λ (o : Taken Bool). and_take o (header_must read_number h.form)) (take_at (codes "must") flag_meant (json.boolean h.must) h.must named refl)
    ∙ ap (λ (o : Taken (List ℕ)). and_take o (header_name read_number h.form h.must)) (take_at (codes "name") short_meant (told_text h.name) h.name rows (short_back h.name t.name))
    ∙ ap (λ (o : Taken Part). and_take o (λ part more. if_last more (Some (record { name = h.name; must = h.must; form = h.form; graph = part }))))
    (part_is read_number (codes "root") (meant read_number) (told_root w h.graph) (tree_of w h.graph levels h.graph.root) rows no_members (part_of w h.graph).table
    (table_meant digits (is_bare h.form) h.graph w d t.whole few way (codes "root") refl (told_root w h.graph) no_members) (root_meant digits (is_bare h.form) h.graph w d t.whole few way))

pub message_back : (digits : Digits) (m : Message Graph) (w : Way) → AreDigits digits → IsTellableMessage m → IsFew m.graph → IsWay digits (is_bare m.form) m.graph w
    → of_members (message_members read_number) (message_json w m) ≡ Some (record { target = m.target; response = m.response; form = m.form; graph = part_of w m.graph })
message_back digits m w d t few way =
    let last = member (codes "target") (told_text m.target) no_members in
    let root = member (codes "root") (told_root w m.graph) last in
    let answer = member (codes "response") (told_text m.response) root in
    let rows = table_before w m.graph answer in
    let table = (part_of w m.graph).table in
    let tree = tree_of w m.graph levels m.graph.root in
    ap (λ (o : Taken Form). and_take o (message_form read_number)) (take_at (codes "form") form_meant (word (form_word m.form)) m.form rows (form_back m.form))
    ∙ ap (λ (o : Taken Named). and_take o (message_table read_number m.form)) (table_meant digits (is_bare m.form) m.graph w d t.whole few way (codes "response") refl (told_text m.response) root)
    ∙ ap (λ (o : Taken (List ℕ)). and_take o (message_response read_number m.form (part_of w m.graph).table)) (take_at (codes "response") short_meant (told_text m.response) m.response root (short_back m.response t.response))
    ∙ ap (λ (o : Taken Tree). and_take o (message_root read_number m.form (part_of w m.graph).table m.response))
    (take_at (codes "root") (meant read_number) (told_root w m.graph) (tree_of w m.graph levels m.graph.root) last (root_meant digits (is_bare m.form) m.graph w d t.whole few way))
    ∙ ap (λ (o : Taken (List ℕ)). and_take o (λ target more. if_last more (Some (with_response (part_of w m.graph).table m.response target m.form (tree_of w m.graph levels m.graph.root)))))
    (take_at (codes "target") short_meant (told_text m.target) m.target no_members (short_back m.target t.target))

pub file_back : (digits : Digits) (name : List ℕ) (version : FileVersion) (g : Graph) (w : Way) (i : ℕ) → AreDigits digits → IsTellable (file name version g) → IsFew g → IsWay digits (is_bare_file version) g w → g.root ≡ node i
    → document_meant read_number (file_json w name version g (node_at g i)) ≡ Some (file name version (part_of_file w g (node_at g i)))
file_back digits name version g w i d t few way e =
    let last = member (codes "version") (json.number (decimal (version_of version))) no_members in
    let held = member (codes "pairs") (told_pairs w g (node_at g i)) last in
    let rows = table_before w g held in
    let x = pairs_tree w g (node_at g i) in
    let part = part_of_file w g (node_at g i) in
    let own : AreDigits w.digits = subst AreDigits (sym way.same_digits) d in
    let holder : holder_meant read_number (told_pairs w g (node_at g i)) ≡ Some (pairs_tree w g (node_at g i)) =
    ap (option_map plain_object) (pairs_told_at w g levels_below i own t.1 (at_root e)) in
    ap (λ (o : Taken (List ℕ)). and_take o (file_name read_number)) (take_at (codes "name") short_meant (told_text name) name rows (short_back name t.0))
    ∙ ap (λ (o : Taken Part). and_take o (file_part read_number name))
    (part_is read_number (codes "pairs") (holder_meant read_number) (told_pairs w g (node_at g i)) x rows last (part_of w g).table
    (table_meant digits (is_bare_file version) g w d t.1 few way (codes "pairs") refl (told_pairs w g (node_at g i)) last) holder)
    ∙ ap (λ (o : Taken FileVersion). and_take o (λ v more. if_last more (Some (file name v part)))) (take_at (codes "version") (file_version_of read_number) (json.number (decimal (version_of version))) version no_members (file_version_back version))

-- each of a list
each_meant : {X Y : Type 0} (T : X → Type 0) (F : X → Type 0) (R : X → Json → Type 0) (f : Json → Option Y) → ((x : X) (j : Json) → T x → F x → R x j → (y : Y) × (f j ≡ Some y))
    → (xs : List X) (js : List Json) → AllByRecursion T xs → AllByRecursion F xs → AllZip R xs js → (ys : List Y) × (each f (items_of js) ≡ Some ys) × (length ys ≡ length xs)
each_meant T F R f one [] [] t n z = ([], refl, refl)
each_meant T F R f one [] (j ∷ js) t n z = elim z [ ]
each_meant T F R f one (x ∷ xs) [] t n z = elim z [ ]
each_meant T F R f one (x ∷ xs) (j ∷ js) t n z =
    let o = one x j t.0 n.0 z.0 in
    let rest = each_meant T F R f one xs js t.1 n.1 z.1 in
    (o.0 ∷ rest.0, ap (option_and_then (λ y. option_map (λ ys. y ∷ ys) (each f (items_of js)))) o.1 ∙ ap (option_map (λ ys. o.0 ∷ ys)) rest.1, ap suc rest.2)

few_back : {X Y : Type 0} (f : Members → Option Y) (xs : List X) (js : List Json) (ys : List Y) → each (of_members f) (items_of js) ≡ Some ys → length ys ≡ length xs → length xs ≤ 65535 → few_meant f (listed js) ≡ Some ys
few_back f xs js ys e l h = ap (option_and_then (if_true is_few)) e ∙ ap (λ b. if b then Some ys else None) (few_are ys (omega (arith, l, h)))

-- of headers and messages that mean these
pub packet_is : (digits : Digits) (version : ℕ) (hs : List (Header Graph)) (ms : List (Message Graph)) (j : Json) (xs : List (Header Part)) (ys : List (Message Part)) → IsTellablePacket version hs ms → (is : IsPacketJson digits version hs ms j)
    → each (of_members (header_members read_number)) (items_of is.header_jsons) ≡ Some xs → length xs ≡ length hs → each (of_members (message_members read_number)) (items_of is.message_jsons) ≡ Some ys → length ys ≡ length ms
    → document_meant read_number j ≡ Some (packet version xs ys)
packet_is digits version hs ms j xs ys t is a l b m =
    let last = member (codes "version") (json.number (decimal version)) no_members in
    let more = member (codes "messages") (listed is.message_jsons) last in
    ap (document_meant read_number) is.is_json
    ∙ ap (λ (o : Taken (List (Header Part))). and_take o (packet_headers read_number)) (take_at (codes "headers") (few_meant (header_members read_number)) (listed is.header_jsons) xs more (few_back (header_members read_number) hs is.header_jsons xs a l t.few_headers))
    ∙ ap (λ (o : Taken (List (Message Part))). and_take o (packet_messages read_number xs)) (take_at (codes "messages") (few_meant (message_members read_number)) (listed is.message_jsons) ys last (few_back (message_members read_number) ms is.message_jsons ys b m t.few_messages))
    ∙ ap (λ (o : Taken ℕ). and_take o (λ v rest. if_last rest (Some (packet v xs ys)))) (take_at (codes "version") (packet_version_of read_number) (json.number (decimal version)) version no_members (packet_version_back version t.version_is))

packet_back : (digits : Digits) (version : ℕ) (hs : List (Header Graph)) (ms : List (Message Graph)) (j : Json) → AreDigits digits → IsTellablePacket version hs ms → AllByRecursion (λ h. IsFew h.graph) hs → AllByRecursion (λ m. IsFew m.graph) ms
    → IsPacketJson digits version hs ms j → (p : Document Part) × (document_meant read_number j ≡ Some p)
packet_back digits version hs ms j d t few_h few_m is =
    let a = each_meant IsTellableHeader (λ h. IsFew h.graph) (IsHeaderJson digits) (of_members (header_members read_number))
    (λ h k t n z. (record { name = h.name; must = h.must; form = h.form; graph = part_of z.0 h.graph }, ap (of_members (header_members read_number)) z.2 ∙ header_back digits h z.0 d t n z.1)) hs is.header_jsons t.header_parts few_h is.are_headers in
    let b = each_meant IsTellableMessage (λ m. IsFew m.graph) (IsMessageJson digits) (of_members (message_members read_number))
    (λ m k t n z. (record { target = m.target; response = m.response; form = m.form; graph = part_of z.0 m.graph }, ap (of_members (message_members read_number)) z.2 ∙ message_back digits m z.0 d t n z.1)) ms is.message_jsons t.message_parts few_m is.are_messages in
    (packet version a.0 b.0, packet_is digits version hs ms j a.0 b.0 t is a.1 a.2 b.1 b.2)

pub document_meant_laws : DocumentIsMeant
document_meant_laws digits (value3 g) j d t few is = (value3 (part_of is.way g), ap (document_meant read_number) is.is_json ∙ amf3_meant digits false g is.way d t few is.is_way)
document_meant_laws digits (value0 g) j d t few is = (value0 (part_of is.way g), ap (document_meant read_number) is.is_json ∙ amf0_meant digits true g is.way d t few is.is_way)
document_meant_laws digits (file name version g) j d t few is =
    (file name version (part_of_file is.way g (node_at g is.holder)), ap (document_meant read_number) is.is_json ∙ file_back digits name version g is.way is.holder d t few is.is_way is.is_root)
document_meant_laws digits (packet version hs ms) j d t few is = packet_back digits version hs ms j d t few.0 few.1 is
