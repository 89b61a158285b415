-- What holds of each table and each root that JSON means holds of the tables and roots of a document.
use Rattle.std.proofs.Common.{◌≡◌, ℕ, Bool, true, false, if◌then◌else◌, List, [], ◌∷◌, Option, Some, None, refl, ap, ◌∙◌, subst}
use Rattle.std.specs.Prelude.{option_map, option_and_then, codes, bytes_eq}
use Rattle.std.specs.List.{AllByRecursion}
use Rattle.std.proofs.lemmas.Option.{same_Some}
use Rattle.json.specs.Json.{Json, no_items, no_members, item, member, Items, Members}
use Rattle.json.specs.Json as json
use Rattle.amf_text.specs.Scalars.{Reads}
use Rattle.amf_text.specs.Documents.{Form, Header, Message, FileVersion, Document, value3, value0, file, packet}
use Rattle.amf_text.specs.Meant.{Tree, Named, no_named, whole_meant, flag_meant, each, if_true, if_last, plain_object, meant, keys_meant, members_meant}
use Rattle.amf_graph.specs.Graph.{Graph}
use Rattle.amf_text.specs.Linked.{graph_of, is_table, are_linked}
use Rattle.amf_text.specs.Accepted.{Part, take, and_take, rows_meant, take_table, take_part, short_meant, form_meant, file_version, packet_version, value_part, holder_meant, file_meant, header_members, with_response, message_members, of_members, is_few, few_meant, packet_meant, form_members, document_members, document_meant, linked_part, linked_header, linked_message, all_linked, linked}
use Rattle.amf_text.proofs.Goals.{no_answer, and_then_is, map_is}
use Rattle.amf_text.proofs.Asked.{if_is, true_is}
use Rattle.amf_text_trees.specs.Fits.{GraphFits, DocumentFits}
use Rattle.amf_text_trees.proofs.Linking.{IsTabled, AreTabled}
use Rattle.amf_text_trees.proofs.Shapes.{TreeFits, NamedFit}
use Rattle.amf_text_trees.proofs.Shapes as shapes
use Rattle.amf_text_trees.proofs.Placed.{PartFits, graph_fits}

last_same : {X : Type 0} (ms : Members) (x y : X) → if_last ms (Some x) ≡ Some y → x ≡ y
last_same no_members x y e = same_Some x y e
last_same (member k j ms) x y e = no_answer y e

module _ (reads : Reads) (T : Named → Type 0) (R : Tree → Type 0) (none : T no_named) (rows : (j : Json) (x : Named) → rows_meant reads j ≡ Some x → T x) (value : (j : Json) (x : Tree) → meant reads j ≡ Some x → R x)
    (holder : (j : Json) (x : Tree) → holder_meant reads j ≡ Some x → R x) where
  abbrev pub IsGood : Part → Type 0
  IsGood p = T p.table × R p.root

  abbrev pub AreGood : Document Part → Type 0
  AreGood (value3 p) = IsGood p
  AreGood (value0 p) = IsGood p
  AreGood (file name version p) = IsGood p
  AreGood (packet version hs ms) = AllByRecursion (λ h. IsGood h.graph) hs × AllByRecursion (λ m. IsGood m.graph) ms

  -- what a member means that was taken
  taken : {X : Type 0} (k : List ℕ) (f : Json → Option X) (ms : Members) (p : X × Members) → take k f ms ≡ Some p → (j : Json) × (f j ≡ Some p.0)
  taken k f no_members p e = no_answer p e
  taken k f (member l j ms) p e =
      let h = if_is (bytes_eq l k) (option_map (λ x. (x, ms)) (f j)) p e in
      let r = map_is (λ x. (x, ms)) (f j) p h.1 in
      (j, r.1 ∙ ap (λ q. Some q.0) r.2)

  good_table : (ms : Members) (p : Named × Members) → take_table reads ms ≡ Some p → T p.0
  good_table no_members p e = subst (λ (q : Named × Members). T q.0) (same_Some (no_named, no_members) p e) none
  good_table (member l j ms) p e = go (bytes_eq l (codes "nodes")) e
    where
      go : (t : Bool) → (if t then option_map (λ rows. (rows, ms)) (rows_meant reads j) else Some (no_named, member l j ms)) ≡ Some p → T p.0
      go true e =
          let r = map_is (λ rows. (rows, ms)) (rows_meant reads j) p e in
          subst (λ (q : Named × Members). T q.0) r.2 (rows j r.0 r.1)
      go false e = subst (λ (q : Named × Members). T q.0) (same_Some (no_named, member l j ms) p e) none

  good_part : (k : List ℕ) (f : Json → Option Tree) (ms : Members) (p : Part × Members) → ((j : Json) (x : Tree) → f j ≡ Some x → R x) → take_part reads k f ms ≡ Some p → IsGood p.0
  good_part k f ms p of_root e =
      let h = and_then_is (λ (q : Named × Members). option_map (λ (r : Tree × Members). (record { table = q.0; root = r.0 }, r.1)) (take k f q.1)) (take_table reads ms) p e in
      let r = map_is (λ (r : Tree × Members). (record { table = h.0.0; root = r.0 }, r.1)) (take k f h.0.1) p h.2 in
      let j = taken k f h.0.1 r.0 r.1 in
      subst (λ (q : Part × Members). IsGood q.0) r.2 (good_table ms h.0 h.1, of_root j.0 r.0.0 j.1)

  good_value : (ms : Members) (p : Part) → value_part reads ms ≡ Some p → IsGood p
  good_value ms p e =
      let h = and_then_is (λ (q : Part × Members). if_last q.1 (Some q.0)) (take_part reads (codes "root") (meant reads) ms) p e in
      subst IsGood (last_same h.0.1 h.0.0 p h.2) (good_part (codes "root") (meant reads) ms h.0 value h.1)

  good_file : (ms : Members) (d : Document Part) → file_meant reads ms ≡ Some d → AreGood d
  good_file ms d e =
      let version_meant = λ (j : Json). option_and_then file_version (whole_meant reads j) in
      let third = λ (name : List ℕ) (part : Part) (more : Members). and_take (take (codes "version") version_meant more) (λ version more. if_last more (Some (file name version part))) in
      let second = λ (name : List ℕ) (more : Members). and_take (take_part reads (codes "pairs") (holder_meant reads) more) (third name) in
      let a = and_then_is (λ (p : List ℕ × Members). second p.0 p.1) (take (codes "name") short_meant ms) d e in
      let b = and_then_is (λ (p : Part × Members). third a.0.0 p.0 p.1) (take_part reads (codes "pairs") (holder_meant reads) a.0.1) d a.2 in
      let c = and_then_is (λ (p : FileVersion × Members). if_last p.1 (Some (file a.0.0 p.0 b.0.0))) (take (codes "version") version_meant b.0.1) d b.2 in
      subst AreGood (last_same c.0.1 (file a.0.0 c.0.0 b.0.0) d c.2) (good_part (codes "pairs") (holder_meant reads) a.0.1 b.0 holder b.1)

  good_header : (ms : Members) (h : Header Part) → header_members reads ms ≡ Some h → IsGood h.graph
  good_header ms h e =
      let fourth = λ (form : Form) (must : Bool) (name : List ℕ) (more : Members). and_take (take_part reads (codes "root") (meant reads) more) (λ part more. if_last more (Some (record { name = name; must = must; form = form; graph = part }))) in
      let third = λ (form : Form) (must : Bool) (more : Members). and_take (take (codes "name") short_meant more) (fourth form must) in
      let second = λ (form : Form) (more : Members). and_take (take (codes "must") flag_meant more) (third form) in
      let a = and_then_is (λ (p : Form × Members). second p.0 p.1) (take (codes "form") form_meant ms) h e in
      let b = and_then_is (λ (p : Bool × Members). third a.0.0 p.0 p.1) (take (codes "must") flag_meant a.0.1) h a.2 in
      let c = and_then_is (λ (p : List ℕ × Members). fourth a.0.0 b.0.0 p.0 p.1) (take (codes "name") short_meant b.0.1) h b.2 in
      let d = and_then_is (λ (p : Part × Members). if_last p.1 (Some (record { name = c.0.0; must = b.0.0; form = a.0.0; graph = p.0 }))) (take_part reads (codes "root") (meant reads) c.0.1) h c.2 in
      let all : Header Part = record { name = c.0.0; must = b.0.0; form = a.0.0; graph = d.0.0 } in
      subst (λ x. IsGood x.graph) (last_same d.0.1 all h d.2) (good_part (codes "root") (meant reads) c.0.1 d.0 value d.1)

  good_message : (ms : Members) (m : Message Part) → message_members reads ms ≡ Some m → IsGood m.graph
  good_message ms m e =
      let fifth = λ (form : Form) (table : Named) (response : List ℕ) (root : Tree) (more : Members). and_take (take (codes "target") short_meant more) (λ target more. if_last more (Some (with_response table response target form root))) in
      let fourth = λ (form : Form) (table : Named) (response : List ℕ) (more : Members). and_take (take (codes "root") (meant reads) more) (fifth form table response) in
      let third = λ (form : Form) (table : Named) (more : Members). and_take (take (codes "response") short_meant more) (fourth form table) in
      let second = λ (form : Form) (more : Members). and_take (take_table reads more) (third form) in
      let a = and_then_is (λ (p : Form × Members). second p.0 p.1) (take (codes "form") form_meant ms) m e in
      let b = and_then_is (λ (p : Named × Members). third a.0.0 p.0 p.1) (take_table reads a.0.1) m a.2 in
      let c = and_then_is (λ (p : List ℕ × Members). fourth a.0.0 b.0.0 p.0 p.1) (take (codes "response") short_meant b.0.1) m b.2 in
      let d = and_then_is (λ (p : Tree × Members). fifth a.0.0 b.0.0 c.0.0 p.0 p.1) (take (codes "root") (meant reads) c.0.1) m c.2 in
      let f = and_then_is (λ (p : List ℕ × Members). if_last p.1 (Some (with_response b.0.0 c.0.0 p.0 a.0.0 d.0.0))) (take (codes "target") short_meant d.0.1) m d.2 in
      let j = taken (codes "root") (meant reads) c.0.1 d.0 d.1 in
      subst (λ x. IsGood x.graph) (last_same f.0.1 (with_response b.0.0 c.0.0 f.0.0 a.0.0 d.0.0) m f.2) (good_table a.0.1 b.0 b.1, value j.0 d.0.0 j.1)

  good_parts : {X : Type 0} (f : Members → Option X) (part : X → Part) → ((ms : Members) (x : X) → f ms ≡ Some x → IsGood (part x)) → (js : Items) (xs : List X) → each (of_members f) js ≡ Some xs → AllByRecursion (λ x. IsGood (part x)) xs
  good_parts f part is no_items xs e = subst (AllByRecursion (λ x. IsGood (part x))) (same_Some [] xs e) tt
  good_parts f part is (item (json.object ms) js) xs e =
      let h = and_then_is (λ x. option_map (λ ys. x ∷ ys) (each (of_members f) js)) (f ms) xs e in
      let r = map_is (λ ys. h.0 ∷ ys) (each (of_members f) js) xs h.2 in
      subst (AllByRecursion (λ x. IsGood (part x))) r.2 (is ms h.0 h.1, good_parts f part is js r.0 r.1)
  good_parts f part is (item json.null js) xs e = no_answer xs e
  good_parts f part is (item (json.boolean b) js) xs e = no_answer xs e
  good_parts f part is (item (json.number s) js) xs e = no_answer xs e
  good_parts f part is (item (json.string s) js) xs e = no_answer xs e
  good_parts f part is (item (json.array is') js) xs e = no_answer xs e

  good_few : {X : Type 0} (f : Members → Option X) (part : X → Part) → ((ms : Members) (x : X) → f ms ≡ Some x → IsGood (part x)) → (j : Json) (xs : List X) → few_meant f j ≡ Some xs → AllByRecursion (λ x. IsGood (part x)) xs
  good_few f part is (json.array js) xs e =
      let h = and_then_is (if_true is_few) (each (of_members f) js) xs e in
      let t = true_is is_few h.0 xs h.2 in
      subst (AllByRecursion (λ x. IsGood (part x))) t.1 (good_parts f part is js h.0 h.1)
  good_few f part is json.null xs e = no_answer xs e
  good_few f part is (json.boolean b) xs e = no_answer xs e
  good_few f part is (json.number s) xs e = no_answer xs e
  good_few f part is (json.string s) xs e = no_answer xs e
  good_few f part is (json.object ms) xs e = no_answer xs e

  good_packet : (ms : Members) (d : Document Part) → packet_meant reads ms ≡ Some d → AreGood d
  good_packet ms d e =
      let version_meant = λ (j : Json). option_and_then packet_version (whole_meant reads j) in
      let third = λ (hs : List (Header Part)) (ns : List (Message Part)) (more : Members). and_take (take (codes "version") version_meant more) (λ version more. if_last more (Some (packet version hs ns))) in
      let second = λ (hs : List (Header Part)) (more : Members). and_take (take (codes "messages") (few_meant (message_members reads)) more) (third hs) in
      let a = and_then_is (λ (p : List (Header Part) × Members). second p.0 p.1) (take (codes "headers") (few_meant (header_members reads)) ms) d e in
      let b = and_then_is (λ (p : List (Message Part) × Members). third a.0.0 p.0 p.1) (take (codes "messages") (few_meant (message_members reads)) a.0.1) d a.2 in
      let c = and_then_is (λ (p : ℕ × Members). if_last p.1 (Some (packet p.0 a.0.0 b.0.0))) (take (codes "version") version_meant b.0.1) d b.2 in
      let hs = taken (codes "headers") (few_meant (header_members reads)) ms a.0 a.1 in
      let ns = taken (codes "messages") (few_meant (message_members reads)) a.0.1 b.0 b.1 in
      subst AreGood (last_same c.0.1 (packet c.0.0 a.0.0 b.0.0) d c.2)
      (good_few (header_members reads) (λ h. h.graph) good_header hs.0 a.0.0 hs.1, good_few (message_members reads) (λ m. m.graph) good_message ns.0 b.0.0 ns.1)

  either : (t : Bool) (m n : Option (Document Part)) (d : Document Part) → (m ≡ Some d → AreGood d) → (n ≡ Some d → AreGood d) → (if t then m else n) ≡ Some d → AreGood d
  either true m n d f g e = f e
  either false m n d f g e = g e

  value_is : (ms : Members) (d : Document Part) (make : Part → Document Part) → ((p : Part) → IsGood p → AreGood (make p)) → option_map make (value_part reads ms) ≡ Some d → AreGood d
  value_is ms d make is e =
      let h = map_is make (value_part reads ms) d e in
      subst AreGood h.2 (is h.0 (good_value ms h.0 h.1))

  good_word : (s : List ℕ) (ms : Members) (d : Document Part) → form_members reads s ms ≡ Some d → AreGood d
  good_word s ms d e =
      let file_if = if bytes_eq s (codes "sol") then file_meant reads ms else None in
      let packet_if = if bytes_eq s (codes "packet") then packet_meant reads ms else file_if in
      let amf3_if = if bytes_eq s (codes "amf3") then option_map value3 (value_part reads ms) else packet_if in
      either (bytes_eq s (codes "amf0")) (option_map value0 (value_part reads ms)) amf3_if d (value_is ms d value0 (λ p t. t))
      (either (bytes_eq s (codes "amf3")) (option_map value3 (value_part reads ms)) packet_if d (value_is ms d value3 (λ p t. t))
      (either (bytes_eq s (codes "packet")) (packet_meant reads ms) file_if d (good_packet ms d)
      (either (bytes_eq s (codes "sol")) (file_meant reads ms) None d (good_file ms d) (λ e. no_answer d e)))) e

  good_members : (ms : Members) (d : Document Part) → document_members reads ms ≡ Some d → AreGood d
  good_members (member k (json.string s) ms) d e =
      let h = if_is (bytes_eq k (codes "amf")) (form_members reads s ms) d e in
      good_word s ms d h.1
  good_members no_members d e = no_answer d e
  good_members (member k json.null ms) d e = no_answer d e
  good_members (member k (json.boolean b) ms) d e = no_answer d e
  good_members (member k (json.number s) ms) d e = no_answer d e
  good_members (member k (json.array js) ms) d e = no_answer d e
  good_members (member k (json.object ns) ms) d e = no_answer d e

  good_document : (j : Json) (d : Document Part) → document_meant reads j ≡ Some d → AreGood d
  good_document (json.object ms) d e = good_members ms d e
  good_document json.null d e = no_answer d e
  good_document (json.boolean b) d e = no_answer d e
  good_document (json.number s) d e = no_answer d e
  good_document (json.string s) d e = no_answer d e
  good_document (json.array js) d e = no_answer d e

abbrev pub ArePartsFit : Document Part → Type 0
ArePartsFit (value3 p) = PartFits p
ArePartsFit (value0 p) = PartFits p
ArePartsFit (file name version p) = PartFits p
ArePartsFit (packet version hs ms) = AllByRecursion (λ h. PartFits h.graph) hs × AllByRecursion (λ m. PartFits m.graph) ms

-- Tables and roots that fit.

module _ (reads : Reads) where
  abbrev GoodTable : Named → Type 0
  GoodTable ns = (is_table ns ≡ true) × NamedFit ns

  rows_fit : (j : Json) (x : Named) → rows_meant reads j ≡ Some x → GoodTable x
  rows_fit (json.object rows) x e =
      let h = and_then_is (if_true is_table) (keys_meant reads rows) x e in
      let t = true_is is_table h.0 x h.2 in
      let m = shapes.of_members reads rows in
      subst GoodTable t.1 (t.0, m.keys h.0 h.1)
  rows_fit json.null x e = no_answer x e
  rows_fit (json.boolean b) x e = no_answer x e
  rows_fit (json.number s) x e = no_answer x e
  rows_fit (json.string s) x e = no_answer x e
  rows_fit (json.array js) x e = no_answer x e

  value_fits : (j : Json) (x : Tree) → meant reads j ≡ Some x → TreeFits x
  value_fits j x e = let o = shapes.of_json reads j in o.value x e

  holder_fits : (j : Json) (x : Tree) → holder_meant reads j ≡ Some x → TreeFits x
  holder_fits j x e =
      let h = map_is plain_object (members_meant reads j) x e in
      let o = shapes.of_json reads j in
      subst TreeFits h.2 ((refl, tt), o.members h.0 h.1, tt)

  abbrev Fit : Document Part → Type 0
  Fit d = AreGood reads GoodTable TreeFits (refl, tt) rows_fit value_fits holder_fits d

  abbrev FitsPart : Part → Type 0
  FitsPart p = IsGood reads GoodTable TreeFits (refl, tt) rows_fit value_fits holder_fits p

  document_good : (j : Json) (d : Document Part) → document_meant reads j ≡ Some d → Fit d
  document_good = good_document reads GoodTable TreeFits (refl, tt) rows_fit value_fits holder_fits

  part_fits : (p : Part) → FitsPart p → PartFits p
  part_fits p g = record { rows = g.0.0; table = g.0.1; root = g.1 }

  all_of : {X : Type 0} (P Q : X → Type 0) → ((x : X) → P x → Q x) → (xs : List X) → AllByRecursion P xs → AllByRecursion Q xs
  all_of P Q f [] a = tt
  all_of P Q f (x ∷ xs) a = (f x a.0, all_of P Q f xs a.1)

  fit_parts : (d : Document Part) → Fit d → ArePartsFit d
  fit_parts (value3 p) g = part_fits p g
  fit_parts (value0 p) g = part_fits p g
  fit_parts (file name version p) g = part_fits p g
  fit_parts (packet version hs ms) g =
      (all_of (λ h. FitsPart h.graph) (λ h. PartFits h.graph) (λ h. part_fits h.graph) hs g.0, all_of (λ m. FitsPart m.graph) (λ m. PartFits m.graph) (λ m. part_fits m.graph) ms g.1)

  tabled_parts : (d : Document Part) → Fit d → AreTabled d
  tabled_parts (value3 p) g = g.0.0
  tabled_parts (value0 p) g = g.0.0
  tabled_parts (file name version p) g = g.0.0
  tabled_parts (packet version hs ms) g =
      (all_of (λ h. FitsPart h.graph) (λ h. IsTabled h.graph) (λ h f. f.0.0) hs g.0, all_of (λ m. FitsPart m.graph) (λ m. IsTabled m.graph) (λ m f. f.0.0) ms g.1)

  pub document_fits : (j : Json) (d : Document Part) → document_meant reads j ≡ Some d → ArePartsFit d
  document_fits j d e = fit_parts d (document_good j d e)

  pub document_tabled : (j : Json) (d : Document Part) → document_meant reads j ≡ Some d → AreTabled d
  document_tabled j d e = tabled_parts d (document_good j d e)

-- The graphs of what fits.

part_graph : (p : Part) (g : Graph) → PartFits p → linked_part p ≡ Some g → GraphFits g
part_graph p g f e =
    let h = if_is (are_linked p.table p.root) (Some (graph_of p.table p.root)) g e in
    subst GraphFits (same_Some (graph_of p.table p.root) g h.1) (graph_fits p f h.0)

all_graphs : {X Y : Type 0} (P : X → Type 0) (Q : Y → Type 0) (f : X → Option Y) → ((x : X) (y : Y) → P x → f x ≡ Some y → Q y) → (xs : List X) (ys : List Y) → AllByRecursion P xs → all_linked f xs ≡ Some ys → AllByRecursion Q ys
all_graphs P Q f is [] ys a e = subst (AllByRecursion Q) (same_Some [] ys e) tt
all_graphs P Q f is (x ∷ xs) ys a e =
    let h = and_then_is (λ y. option_map (λ zs. y ∷ zs) (all_linked f xs)) (f x) ys e in
    let r = map_is (λ zs. h.0 ∷ zs) (all_linked f xs) ys h.2 in
    subst (AllByRecursion Q) r.2 (is x h.0 a.0 h.1, all_graphs P Q f is xs r.0 a.1 r.1)

header_graph : (h : Header Part) (k : Header Graph) → PartFits h.graph → linked_header h ≡ Some k → GraphFits k.graph
header_graph h k f e =
    let r = map_is (λ (g : Graph). record { name = h.name; must = h.must; form = h.form; graph = g }) (linked_part h.graph) k e in
    subst (λ (x : Header Graph). GraphFits x.graph) r.2 (part_graph h.graph r.0 f r.1)

message_graph : (m : Message Part) (k : Message Graph) → PartFits m.graph → linked_message m ≡ Some k → GraphFits k.graph
message_graph m k f e =
    let r = map_is (λ (g : Graph). record { target = m.target; response = m.response; form = m.form; graph = g }) (linked_part m.graph) k e in
    subst (λ (x : Message Graph). GraphFits x.graph) r.2 (part_graph m.graph r.0 f r.1)

pub linked_fits : (d : Document Part) (e : Document Graph) → ArePartsFit d → linked d ≡ Some e → DocumentFits e
linked_fits (value3 p) e f l = let r = map_is value3 (linked_part p) e l in subst DocumentFits r.2 (part_graph p r.0 f r.1)
linked_fits (value0 p) e f l = let r = map_is value0 (linked_part p) e l in subst DocumentFits r.2 (part_graph p r.0 f r.1)
linked_fits (file name version p) e f l = let r = map_is (file name version) (linked_part p) e l in subst DocumentFits r.2 (part_graph p r.0 f r.1)
linked_fits (packet version hs ms) e f l =
    let h = and_then_is (λ (gs : List (Header Graph)). option_map (packet version gs) (all_linked linked_message ms)) (all_linked linked_header hs) e l in
    let r = map_is (packet version h.0) (all_linked linked_message ms) e h.2 in
    subst DocumentFits r.2
    (all_graphs (λ h. PartFits h.graph) (λ k. GraphFits k.graph) linked_header header_graph hs h.0 f.0 h.1, all_graphs (λ m. PartFits m.graph) (λ k. GraphFits k.graph) linked_message message_graph ms r.0 f.1 r.1)
