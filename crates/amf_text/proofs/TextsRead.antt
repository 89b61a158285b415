-- The canonical JSON of each document can be written, so its text is UTF-8 and has its tokens.
use Rattle.std.proofs.Common.{◌≡◌, ◌⊎◌, ℕ, ◌<◌, ◌≤◌, ◌^◌, Bool, true, false, List, [], ◌∷◌, map, length, refl, sym, ap, ◌∙◌, subst, inl, inr, arith}
use Rattle.std.specs.Prelude.{codes, decimal}
use Rattle.std.specs.List.{AllZip, AllByRecursion}
use Rattle.std.specs.Str.{IsUtf8}
use Rattle.std.proofs.lemmas.Option.{slice_get_within}
use Rattle.json.specs.Json.{Json, no_members, member, Members}
use Rattle.json.specs.Json as json
use Rattle.json.specs.Lex.{tokens}
use Rattle.json.proofs.Printed.Decimals.{IsNumber-decimal}
use Rattle.json.proofs.Printed.Utf8.{IsUtf8-are_ascii}
use Rattle.amf_graph.specs.Graph.{Graph, node_at}
use Rattle.amf_graph.specs.Reached.{Reached, at_root, IsWhole}
use Rattle.amf_graph.proofs.Alls.{each_from}
use Rattle.amf_graph.proofs.Lists.{no_entry}
use Rattle.amf_graph.proofs.PlaceOf.{place_there, few_distinct}
use Rattle.amf_graph.proofs.Reaching.{order_once, order_reached}
use Rattle.amf_graph.proofs.Walks.{walk_within}
use Rattle.amf_text.specs.Scalars.{told_text, Digits, AreDigits}
use Rattle.amf_text.specs.Told.{Way, longest, padded, place_in, label_of, levels, levels_below, told_row, rows_before, table_before, told_root, told_pairs}
use Rattle.amf_text.specs.Documents.{Form, plain, amf3, call, form_word, is_bare, Header, Message, FileVersion, file0, file3, version_of, is_bare_file, Document, value3, value0, file, packet}
use Rattle.amf_text.specs.Texts.{value_json, header_json, message_json, IsWay, IsHeaderJson, IsMessageJson, IsPacketJson, IsDocumentJson}
use Rattle.amf_text.specs.Tellable.{IsTellableHeader, IsTellableMessage, IsTellablePacket, IsTellable}
use Rattle.amf_text.specs.DocumentLaws.{IsFew, HasFewNodes}
use Rattle.amf_text.specs.TokenLaws.{TextIsJson}
use Rattle.amf_text.proofs.OtherDigits.{any_digits}
use Rattle.amf_text.proofs.Parents.{table_stands}
use Rattle.amf_text.proofs.ToldWritable.{text_writable, items_writable, members_writable, padded_utf8, told_writable, node_at_writable, pairs_at_writable}
use Rattle.amf_text.proofs.Writable.{IsWritable, MembersWritable, laid_out}

module _ (digits : Digits) (bare : Bool) (g : Graph) (w : Way) (d : AreDigits digits) (whole : IsWhole g) (few : length g.nodes < 2 ^ 64) (way : IsWay digits bare g w) where
  own : AreDigits w.digits
  own = subst AreDigits (sym way.same_digits) d

  label_utf8 : (i : ℕ) → Reached g i → IsUtf8 (label_of w i)
  label_utf8 i r =
      let a = way.is_order in
      let o = (order_reached g w.order a i).0 r in
      let short : length w.order ≤ length g.nodes = few_distinct (length g.nodes) w.order (each_from (λ n. n < length g.nodes) w.order (walk_within a (λ j n f. absurd (no_entry j n f)))) (order_once g w.order a) in
      let within : o.0 < length w.order = slice_get_within w.order o.0 i o.1 in
      subst (λ p. IsUtf8 (padded (longest (map (place_in w) w.table)) (decimal p))) (sym (place_there w.order o.0 i (order_once g w.order a) o.1)) (padded_utf8 (longest (map (place_in w) w.table)) o.0 (omega (arith, short, within, few)))

  rows_writable : (t : List ℕ) → AllByRecursion (λ i. Reached g i) t → AllByRecursion (λ p. IsUtf8 p.0 × IsWritable p.1) (map (told_row w g) t)
  rows_writable [] h = tt
  rows_writable (i ∷ t) h = ((label_utf8 i h.0, node_at_writable w g own whole label_utf8 levels_below i h.0), rows_writable t h.1)

  before_writable : (ps : List (List ℕ × Json)) (ms : Members) → AllByRecursion (λ p. IsUtf8 p.0 × IsWritable p.1) ps → MembersWritable ms → MembersWritable (rows_before ps ms)
  before_writable [] ms h m = m
  before_writable (p ∷ ps) ms h m = (IsUtf8-are_ascii (codes "nodes") refl, (members_writable (p ∷ ps) h, m))

  table_writable : (ms : Members) → MembersWritable ms → MembersWritable (table_before w g ms)
  table_writable ms m =
      before_writable (map (told_row w g) w.table) ms
      (rows_writable w.table (each_from (λ i. Reached g i) w.table (λ k i e. let o = table_stands g w.order way.is_order (way.is_table.sound i k e) in (order_reached g w.order way.is_order i).1 o))) m

  root_writable : IsWritable (told_root w g)
  root_writable = told_writable w g own whole label_utf8 levels g.root (inl refl)

  value_writable : (form : List ℕ) → IsUtf8 form → IsWritable (value_json form w g)
  value_writable form f =
      (IsUtf8-are_ascii (codes "amf") refl, (f, table_writable (member (codes "root") (told_root w g) no_members) (IsUtf8-are_ascii (codes "root") refl, (root_writable, tt))))

form_utf8 : (f : Form) → IsUtf8 (form_word f)
form_utf8 plain = IsUtf8-are_ascii (codes "plain") refl
form_utf8 amf3 = IsUtf8-are_ascii (codes "amf3") refl
form_utf8 call = IsUtf8-are_ascii (codes "call") refl

version_small : (v : FileVersion) → version_of v < 10
version_small file0 = omega arith
version_small file3 = omega arith

packet_small : (n : ℕ) → (n ≡ 0) ⊎ ((n ≡ 1) ⊎ (n ≡ 3)) → n < 10
packet_small n (inl e) = omega (arith, e)
packet_small n (inr (inl e)) = omega (arith, e)
packet_small n (inr (inr e)) = omega (arith, e)

header_writable : (digits : Digits) (h : Header Graph) (w : Way) → AreDigits digits → IsTellableHeader h → IsFew h.graph → IsWay digits (is_bare h.form) h.graph w → IsWritable (header_json w h)
header_writable digits h w d t few way = (
  IsUtf8-are_ascii (codes "form") refl,
  (
    form_utf8 h.form,
    (
      IsUtf8-are_ascii (codes "must") refl,
      (
        tt,
        (
          IsUtf8-are_ascii (codes "name") refl,
          (
            text_writable h.name t.name.0,
            table_writable digits (is_bare h.form) h.graph w d t.whole few way (member (codes "root") (told_root w h.graph) no_members) (IsUtf8-are_ascii (codes "root") refl, (root_writable digits (is_bare h.form) h.graph w d t.whole few way, tt)),
          ),
        ),
      ),
    ),
  ),
)

message_writable : (digits : Digits) (m : Message Graph) (w : Way) → AreDigits digits → IsTellableMessage m → IsFew m.graph → IsWay digits (is_bare m.form) m.graph w → IsWritable (message_json w m)
message_writable digits m w d t few way =
    let target : MembersWritable (member (codes "target") (told_text m.target) no_members) = (IsUtf8-are_ascii (codes "target") refl, (text_writable m.target t.target.0, tt)) in
    let root : MembersWritable (member (codes "root") (told_root w m.graph) (member (codes "target") (told_text m.target) no_members)) =
    (IsUtf8-are_ascii (codes "root") refl, (root_writable digits (is_bare m.form) m.graph w d t.whole few way, target)) in (
      IsUtf8-are_ascii (codes "form") refl,
      (
        form_utf8 m.form,
        table_writable digits (is_bare m.form) m.graph w d t.whole few way (member (codes "response") (told_text m.response) (member (codes "root") (told_root w m.graph) (member (codes "target") (told_text m.target) no_members)))
            (IsUtf8-are_ascii (codes "response") refl, (text_writable m.response t.response.0, root)),
      ),
    )

all_writable : {X : Type 0} (T F : X → Type 0) (R : X → Json → Type 0) → ((x : X) (j : Json) → T x → F x → R x j → IsWritable j) → (xs : List X) (js : List Json) → AllByRecursion T xs → AllByRecursion F xs → AllZip R xs js → AllByRecursion IsWritable js
all_writable T F R one [] [] t f z = tt
all_writable T F R one [] (j ∷ js) t f z = elim z [ ]
all_writable T F R one (x ∷ xs) [] t f z = elim z [ ]
all_writable T F R one (x ∷ xs) (j ∷ js) t f z = (one x j t.0 f.0 z.0, all_writable T F R one xs js t.1 f.1 z.1)

packet_writable : (digits : Digits) (version : ℕ) (hs : List (Header Graph)) (ms : List (Message Graph)) (j : Json) → AreDigits digits → IsTellablePacket version hs ms → AllByRecursion (λ h. IsFew h.graph) hs → AllByRecursion (λ m. IsFew m.graph) ms
    → IsPacketJson digits version hs ms j → IsWritable j
packet_writable digits version hs ms j d t few_h few_m is =
    let a = all_writable IsTellableHeader (λ h. IsFew h.graph) (IsHeaderJson digits) (λ h k t n z. subst IsWritable (sym z.2) (header_writable digits h z.0 d t n z.1)) hs is.header_jsons t.header_parts few_h is.are_headers in
    let b = all_writable IsTellableMessage (λ m. IsFew m.graph) (IsMessageJson digits) (λ m k t n z. subst IsWritable (sym z.2) (message_writable digits m z.0 d t n z.1)) ms is.message_jsons t.message_parts few_m is.are_messages in
    subst IsWritable (sym is.is_json) (
      IsUtf8-are_ascii (codes "amf") refl,
      (
        IsUtf8-are_ascii (codes "packet") refl,
        (
          IsUtf8-are_ascii (codes "headers") refl,
          (
            items_writable is.header_jsons a,
            (
              IsUtf8-are_ascii (codes "messages") refl,
              (items_writable is.message_jsons b, (IsUtf8-are_ascii (codes "version") refl, (IsNumber-decimal version (let small = packet_small version t.version_is in omega (arith, small)), tt))),
            ),
          ),
        ),
      ),
    )

pub document_writable : (digits : Digits) (d : Document Graph) (j : Json) → AreDigits digits → IsTellable d → HasFewNodes d → IsDocumentJson digits d j → IsWritable j
document_writable digits (value3 g) j d t few is = subst IsWritable (sym is.is_json) (value_writable digits false g is.way d t few is.is_way (codes "amf3") (IsUtf8-are_ascii (codes "amf3") refl))
document_writable digits (value0 g) j d t few is = subst IsWritable (sym is.is_json) (value_writable digits true g is.way d t few is.is_way (codes "amf0") (IsUtf8-are_ascii (codes "amf0") refl))
document_writable digits (file name version g) j d t few is =
    let pairs = pairs_at_writable is.way g (own digits (is_bare_file version) g is.way d t.1 few is.is_way) t.1 (label_utf8 digits (is_bare_file version) g is.way d t.1 few is.is_way) levels_below is.holder (at_root is.is_root) in
    let last : MembersWritable (member (codes "version") (json.number (decimal (version_of version))) no_members) = (IsUtf8-are_ascii (codes "version") refl, (IsNumber-decimal (version_of version) (let small = version_small version in omega (arith, small)), tt)) in
    subst IsWritable (sym is.is_json) (
      IsUtf8-are_ascii (codes "amf") refl,
      (
        IsUtf8-are_ascii (codes "sol") refl,
        (
          IsUtf8-are_ascii (codes "name") refl,
          (
            text_writable name t.0.0,
            table_writable digits (is_bare_file version) g is.way d t.1 few is.is_way (member (codes "pairs") (told_pairs is.way g (node_at g is.holder)) (member (codes "version") (json.number (decimal (version_of version))) no_members))
                (IsUtf8-are_ascii (codes "pairs") refl, (pairs, last)),
          ),
        ),
      ),
    )
document_writable digits (packet version hs ms) j d t few is = packet_writable digits version hs ms j d t few.0 few.1 is

pub texts_read : TextIsJson
texts_read layout d text tellable few t =
    let ts = t.is_text.0 in
    let other = any_digits t.told ts t.is_text.1 in
    let out = laid_out layout t.told ts (document_writable t.digits d t.told t.are_digits tellable few t.is_told) t.is_text.1 in
    record {
      json = other.json;
      is_text = record { utf8 = subst IsUtf8 (sym t.is_text.2) out.utf8; same = ap tokens t.is_text.2 ∙ out.same ∙ other.tokens };
      same = other.same;
    }
