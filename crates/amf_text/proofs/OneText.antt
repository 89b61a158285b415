-- Documents that match have one JSON.
use Rattle.std.proofs.Common.{◌≡◌, ℕ, Bool, List, [], ◌∷◌, refl, sym, ap, ap₂, ◌∙◌, subst}
use Rattle.std.specs.Prelude.{codes, decimal}
use Rattle.std.specs.List.{AllZip}
use Rattle.json.specs.Json.{Json, no_members, member, Members}
use Rattle.json.specs.Json as json
use Rattle.amf_graph.specs.Graph.{node, Graph, node_at}
use Rattle.amf_graph.specs.Isomorphic.{Isomorphic}
use Rattle.amf_graph.proofs.Isomorphisms.{isomorphic_sym}
use Rattle.amf_graph.proofs.Places.{SamePlace, to_places}
use Rattle.amf_text.specs.Scalars.{Digits, word, told_text}
use Rattle.amf_text.specs.Told.{Way, table_before, told_root, told_pairs}
use Rattle.amf_text.specs.Documents.{form_word, is_bare, Header, Message, FileVersion, version_of, is_bare_file, Document, value3, value0, file, packet}
use Rattle.amf_text.specs.Texts.{packet_json, IsWay, IsValueJson, IsFileJson, IsHeaderJson, IsMessageJson, IsPacketJson, IsDocumentJson}
use Rattle.amf_text.specs.Tellable.{HeadersMatch, MessagesMatch, DocumentsMatch, AreAlike}
use Rattle.amf_text.proofs.SameTable.{root_across, tables_match}
use Rattle.amf_text.proofs.SameTold.{table_told, root_told, pairs_told}

-- the parts of a graph's text are those of the other's
pub record SameParts (g h : Graph) (w v : Way) : Type 0 where
  pub table : (ms ns : Members) → ms ≡ ns → table_before w g ms ≡ table_before v h ns
  pub root : told_root w g ≡ told_root v h
  pub pairs : (i j : ℕ) → g.root ≡ node i → h.root ≡ node j → told_pairs w g (node_at g i) ≡ told_pairs v h (node_at h j)

same_node : (i j : ℕ) → node i ≡ node j → i ≡ j
same_node i j e = cc

same_parts : (digits : Digits) (bare : Bool) (g h : Graph) (w v : Way) → Isomorphic g h → IsWay digits bare g w → IsWay digits bare h v → SameParts g h w v
same_parts digits bare g h w v s a b =
    let m = to_places g h w.order v.order a.is_order b.is_order s in
    let back = to_places h g v.order w.order b.is_order a.is_order (isomorphic_sym g h s) in
    let tables = tables_match g h w.order v.order w.table v.table a.is_order b.is_order m back a.is_table b.is_table in
    let same_digits = a.same_digits ∙ sym b.same_digits in
    let same_bare = a.same_bare ∙ sym b.same_bare in
    record {
      table = table_told g h w v a.is_order b.is_order m tables same_digits same_bare;
      root = root_told g h w v a.is_order b.is_order m tables same_digits same_bare;
      pairs = λ i j e f.
          let r = root_across g h w.order v.order a.is_order m i e in
          let same : r.0 ≡ j = same_node r.0 j (sym r.1 ∙ f) in
          pairs_told g h w v a.is_order b.is_order m tables same_digits same_bare i j (subst (λ n. SamePlace w.order v.order i n) same r.2);
    }

value_same : (form : List ℕ) (digits : Digits) (bare : Bool) (g h : Graph) (j k : Json) → Isomorphic g h → IsValueJson form digits bare g j → IsValueJson form digits bare h k → j ≡ k
value_same form digits bare g h j k s a b =
    let p = same_parts digits bare g h a.way b.way s a.is_way b.is_way in
    a.is_json
    ∙ ap (λ ms. json.object (member (codes "amf") (word form) ms)) (p.table (member (codes "root") (told_root a.way g) no_members) (member (codes "root") (told_root b.way h) no_members) (ap (λ r. member (codes "root") r no_members) p.root))
    ∙ sym b.is_json

file_same : (digits : Digits) (name : List ℕ) (version : FileVersion) (g h : Graph) (j k : Json) → Isomorphic g h → IsFileJson digits name version g j → IsFileJson digits name version h k → j ≡ k
file_same digits name version g h j k s a b =
    let p = same_parts digits (is_bare_file version) g h a.way b.way s a.is_way b.is_way in
    let end : Members = member (codes "version") (json.number (decimal (version_of version))) no_members in
    a.is_json
    ∙ ap (λ ms. json.object (member (codes "amf") (word (codes "sol")) (member (codes "name") (told_text name) ms)))
    (p.table (member (codes "pairs") (told_pairs a.way g (node_at g a.holder)) end) (member (codes "pairs") (told_pairs b.way h (node_at h b.holder)) end)
    (ap (λ r. member (codes "pairs") r end) (p.pairs a.holder b.holder a.is_root b.is_root)))
    ∙ sym b.is_json

header_same : (digits : Digits) (a b : Header Graph) (j k : Json) → HeadersMatch AreAlike a b → IsHeaderJson digits a j → IsHeaderJson digits b k → j ≡ k
header_same digits a b j k s x y =
    let way = subst (λ f. IsWay digits (is_bare f) b.graph y.0) (sym s.form) y.1 in
    let p = same_parts digits (is_bare a.form) a.graph b.graph x.0 y.0 s.graph x.1 way in
    x.2
    ∙ ap (λ ms. json.object (member (codes "form") (word (form_word a.form)) (member (codes "must") (json.boolean a.must) (member (codes "name") (told_text a.name) ms))))
    (p.table (member (codes "root") (told_root x.0 a.graph) no_members) (member (codes "root") (told_root y.0 b.graph) no_members) (ap (λ r. member (codes "root") r no_members) p.root))
    ∙ ap (λ f. json.object (member (codes "form") (word (form_word f)) (member (codes "must") (json.boolean a.must) (member (codes "name") (told_text a.name) (table_before y.0 b.graph (member (codes "root") (told_root y.0 b.graph) no_members)))))) s.form
    ∙ ap₂ (λ m n. json.object (member (codes "form") (word (form_word b.form)) (member (codes "must") (json.boolean m) (member (codes "name") (told_text n) (table_before y.0 b.graph (member (codes "root") (told_root y.0 b.graph) no_members)))))) s.must s.name
    ∙ sym y.2

abbrev message_rest : List ℕ → Json → List ℕ → Members
message_rest response root target = member (codes "response") (told_text response) (member (codes "root") root (member (codes "target") (told_text target) no_members))

rest_same : (r s : List ℕ) (j k : Json) (t u : List ℕ) → r ≡ s → j ≡ k → t ≡ u → message_rest r j t ≡ message_rest s k u
rest_same r s j k t u e f h = cc

message_same : (digits : Digits) (a b : Message Graph) (j k : Json) → MessagesMatch AreAlike a b → IsMessageJson digits a j → IsMessageJson digits b k → j ≡ k
message_same digits a b j k s x y =
    let way = subst (λ f. IsWay digits (is_bare f) b.graph y.0) (sym s.form) y.1 in
    let p = same_parts digits (is_bare a.form) a.graph b.graph x.0 y.0 s.graph x.1 way in
    x.2
    ∙ ap₂ (λ f ms. json.object (member (codes "form") (word (form_word f)) ms)) s.form
    (p.table (message_rest a.response (told_root x.0 a.graph) a.target) (message_rest b.response (told_root y.0 b.graph) b.target)
    (rest_same a.response b.response (told_root x.0 a.graph) (told_root y.0 b.graph) a.target b.target s.response p.root s.target))
    ∙ sym y.2

all_same : {X : Type 0} (R : X → X → Type 0) (S : X → Json → Type 0) → ((a b : X) (j k : Json) → R a b → S a j → S b k → j ≡ k)
    → (xs ys : List X) (js ks : List Json) → AllZip R xs ys → AllZip S xs js → AllZip S ys ks → js ≡ ks
all_same R S f [] [] [] [] r s t = refl
all_same R S f [] [] [] (k ∷ ks) r s t = elim t [ ]
all_same R S f [] [] (j ∷ js) ks r s t = elim s [ ]
all_same R S f [] (b ∷ ys) js ks r s t = elim r [ ]
all_same R S f (a ∷ xs) [] js ks r s t = elim r [ ]
all_same R S f (a ∷ xs) (b ∷ ys) [] ks r s t = elim s [ ]
all_same R S f (a ∷ xs) (b ∷ ys) (j ∷ js) [] r s t = elim t [ ]
all_same R S f (a ∷ xs) (b ∷ ys) (j ∷ js) (k ∷ ks) r s t = ap₂ (λ x y. x ∷ y) (f a b j k r.0 s.0 t.0) (all_same R S f xs ys js ks r.1 s.1 t.1)

packet_same : (digits : Digits) (version : ℕ) (hs is : List (Header Graph)) (ms ns : List (Message Graph)) (j k : Json) → AllZip (HeadersMatch AreAlike) hs is → AllZip (MessagesMatch AreAlike) ms ns
    → IsPacketJson digits version hs ms j → IsPacketJson digits version is ns k → j ≡ k
packet_same digits version hs is ms ns j k s t a b =
    a.is_json
    ∙ ap₂ (packet_json version)
    (all_same (HeadersMatch AreAlike) (IsHeaderJson digits) (header_same digits) hs is a.header_jsons b.header_jsons s a.are_headers b.are_headers)
    (all_same (MessagesMatch AreAlike) (IsMessageJson digits) (message_same digits) ms ns a.message_jsons b.message_jsons t a.are_messages b.are_messages)
    ∙ sym b.is_json

pub same_json : (digits : Digits) (d e : Document Graph) (j k : Json) → DocumentsMatch AreAlike d e → IsDocumentJson digits d j → IsDocumentJson digits e k → j ≡ k
same_json digits (value3 g) (value3 h) j k s a b = value_same (codes "amf3") digits _ g h j k s a b
same_json digits (value0 g) (value0 h) j k s a b = value_same (codes "amf0") digits _ g h j k s a b
same_json digits (file name version g) (file name' version' h) j k s a b =
    file_same digits name version g h j k s.2 a (subst (λ v. IsFileJson digits name v h k) (sym s.1) (subst (λ n. IsFileJson digits n version' h k) (sym s.0) b))
same_json digits (packet version hs ms) (packet version' is ns) j k s a b =
    packet_same digits version hs is ms ns j k s.1 s.2 a (subst (λ v. IsPacketJson digits v is ns k) (sym s.0) b)
same_json digits (value3 g) (value0 h) j k s a b = elim s [ ]
same_json digits (value3 g) (file name version h) j k s a b = elim s [ ]
same_json digits (value3 g) (packet version hs ms) j k s a b = elim s [ ]
same_json digits (value0 g) (value3 h) j k s a b = elim s [ ]
same_json digits (value0 g) (file name version h) j k s a b = elim s [ ]
same_json digits (value0 g) (packet version hs ms) j k s a b = elim s [ ]
same_json digits (file name version g) (value3 h) j k s a b = elim s [ ]
same_json digits (file name version g) (value0 h) j k s a b = elim s [ ]
same_json digits (file name version g) (packet version' hs ms) j k s a b = elim s [ ]
same_json digits (packet version hs ms) (value3 h) j k s a b = elim s [ ]
same_json digits (packet version hs ms) (value0 h) j k s a b = elim s [ ]
same_json digits (packet version hs ms) (file name version' h) j k s a b = elim s [ ]
