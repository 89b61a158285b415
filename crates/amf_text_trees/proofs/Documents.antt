-- What values, files and packets come to as whole texts.
use Rattle.std.proofs.Common.{◌≡◌, ℕ, zero, suc, ◌≤◌, Bool, true, false, if◌then◌else◌, List, [], ◌∷◌, ◌++◌, length, Option, Some, None, refl, sym, ap, ◌∙◌, subst, append_assoc, append-nil, arith}
use Rattle.std.specs.Prelude.{option_map, option_and_then, is_some, nat_lt, codes, bytes_eq, map}
use Rattle.std.proofs.lemmas.Option.{same_Some}
use Rattle.json.specs.Token.{Token, begin_object, end_object, begin_array, end_array, key, string, number}
use Rattle.json.specs.Json.{Json, no_items, no_members, item, member, Items, Members}
use Rattle.json.specs.Json as json
use Rattle.json.specs.Tree.{json_tokens, items_tokens, members_tokens}
use Rattle.amf_wire.specs.Text.{is_text}
use Rattle.amf_text.specs.Scalars.{Reads}
use Rattle.amf_text.specs.Documents.{Form, Header, Message, FileVersion, file0, Document, value3, value0, file, packet}
use Rattle.amf_text.specs.Meant.{Tree, Named, no_named, unhex, if_text, bytes_meant, text_meant, whole_meant, flag_meant, each, if_true, if_last, plain_object, meant, keys_meant, members_meant}
use Rattle.amf_text.specs.Linked.{is_table}
use Rattle.amf_text.specs.Accepted.{Part, and_take, rows_meant, take_table, take_part, is_short, short_meant, form_of, form_meant, file_version, packet_version, value_part, holder_meant, file_meant, header_members, with_response, message_members, of_members, is_few, few_meant, packet_meant, form_members, document_members, document_meant}
use Rattle.amf_text.specs.Accepted as accepted
use Rattle.amf_text.specs.Asks as ask
use Rattle.amf_text.specs.Asks.{Goal, step, if_it}
use Rattle.amf_text.proofs.Goals.{no_answer, and_then_is, map_is}
use Rattle.amf_text.proofs.Asked.{if_is, true_is, some_is}
use Rattle.amf_text.proofs.CompleteDocuments.{IsTaken}
use Rattle.amf_text_trees.specs.Pieces.{Piece}
use Rattle.amf_text_trees.specs.Pieces as piece
use Rattle.amf_text_trees.specs.Sheets.{Sheet, no_sheet, count, begin, entry_of, after, after_named, pairs_in, Page, page_of, header_page, message_page, pages_of}
use Rattle.amf_text_trees.specs.Frames.{Frame, with_root, with_table, with_sheet, with_page, take, give}
use Rattle.amf_text_trees.specs.Frames as frame
use Rattle.amf_text_trees.specs.Gathering.{Draft, draft, giving, finish, finishing, no_page, no_header, no_message, document_by, given, by_part, gather, trees_after}
use Rattle.amf_text_trees.specs.TreeLaws.{Gathers}
use Rattle.amf_text_trees.proofs.Taking.{at, Takes, Gives, joined, arrives, departs, first_step, first_of, one_token, test_token}
use Rattle.amf_text_trees.proofs.Scalars.{key_then, then_close, flag_gives}
use Rattle.amf_text_trees.proofs.Values.{of_plain_frame, told, told_named, Tells}
use Rattle.amf_text_trees.proofs.Objects.{of_json}
use Rattle.amf_text_trees.proofs.Objects as objects

-- a member that was taken
take_is : {X : Type 0} (k : List ℕ) (f : Json → Option X) (ms : Members) (p : X × Members) → accepted.take k f ms ≡ Some p → IsTaken k f ms p.0 p.1
take_is k f no_members p e = no_answer p e
take_is k f (member l j ms) p e =
    let h = if_is (bytes_eq l k) (option_map (λ x. (x, ms)) (f j)) p e in
    let r = map_is (λ x. (x, ms)) (f j) p h.1 in
    record { name = l; value = j; is = ap (λ q. member l j q.1) r.2; named = h.0; meant = r.1 ∙ ap (λ q. Some q.0) r.2 }

module _ (reads : Reads) where
  took : {X : Type 0} (k : List ℕ) (g : Goal) (gs : List Goal) (f : Json → Option X) (ms : Members) (p : X × Members) (d e : Draft) (make : X → Draft)
      → ((j : Json) (x : X) → f j ≡ Some x → Takes reads (g ∷ []) (json_tokens j) d (make x)) → accepted.take k f ms ≡ Some p → Takes reads gs (members_tokens p.1) (make p.0) e
      → Takes reads (ask.key_is k ∷ g ∷ gs) (members_tokens ms) d e
  took k g gs f ms p d e make done is rest =
      let t = take_is k f ms p is in
      subst (λ m. Takes reads (ask.key_is k ∷ g ∷ gs) (members_tokens m) d e) (sym t.is)
      (key_then reads k t.name (g ∷ gs) (json_tokens t.value ++ members_tokens p.1) d e t.named (joined reads (done t.value p.0 t.meant) rest))

  -- The table.

  rows_give : (j : Json) (x : Named) → rows_meant reads j ≡ Some x → (q : Sheet) (fs : List Frame) → Takes reads (ask.rows ∷ []) (json_tokens j) (draft q fs) (told_named q x fs)
  unfolding step gather
  rows_give (json.object rows) x e q fs =
      let h = and_then_is (if_true is_table) (keys_meant reads rows) x e in
      let t = true_is is_table h.0 x h.2 in
      let m = objects.of_members reads rows in
      first_step reads ask.rows begin_object (ask.row_keys [] ∷ []) (members_tokens rows) (draft q fs) (told_named q x fs) refl
      (arrives reads (ap (λ ns. told_named q ns fs) t.1) (m.rows [] h.0 h.1 t.0 [] None q fs))
  rows_give json.null x e q fs = no_answer x e
  rows_give (json.boolean b) x e q fs = no_answer x e
  rows_give (json.number s) x e q fs = no_answer x e
  rows_give (json.string s) x e q fs = no_answer x e
  rows_give (json.array js) x e q fs = no_answer x e

  -- frames that have no table yet
  abbrev HasNone : List Frame → Type 0
  HasNone fs = fs ≡ give (piece.members []) fs

  -- a table stands there, and then a root
  abbrev tabled : List Frame → Named → Draft
  tabled fs ns = told_named no_sheet ns fs

  abbrev parted : List Frame → Part → Draft
  parted fs p = told (after_named no_sheet p.table) p.root (give (piece.members (pairs_in no_sheet p.table)) fs)

  table_then : (k : List ℕ) (gs : List Goal) (ms : Members) (p : Named × Members) (fs : List Frame) (e : Draft) → HasNone fs → take_table reads ms ≡ Some p
      → Takes reads (ask.key_is k ∷ gs) (members_tokens p.1) (tabled fs p.0) e → Takes reads (ask.table_or k ∷ gs) (members_tokens ms) (draft no_sheet fs) e
  unfolding step gather
  table_then k gs no_members p fs e n is d =
      let same = departs reads (ap (draft no_sheet) n) (subst (λ (q : Named × Members). Takes reads (ask.key_is k ∷ gs) (members_tokens q.1) (tabled fs q.0) e) (sym (same_Some (no_named, no_members) p is)) d) in
      record { is = same.is }
  table_then k gs (member l j ms) p fs e n is d = go (bytes_eq l (codes "nodes")) refl is
    where
      go : (t : Bool) → bytes_eq l (codes "nodes") ≡ t → (if t then option_map (λ rows. (rows, ms)) (rows_meant reads j) else Some (no_named, member l j ms)) ≡ Some p
          → Takes reads (ask.table_or k ∷ gs) (key l ∷ (json_tokens j ++ members_tokens ms)) (draft no_sheet fs) e
      go true m is =
          let r = map_is (λ rows. (rows, ms)) (rows_meant reads j) p is in
          first_of reads (ask.table_or k) (key l) (ask.rows ∷ ask.key_is k ∷ []) gs (json_tokens j ++ members_tokens ms) (draft no_sheet fs) e
          (ap (λ t. if t then Some (ask.rows ∷ ask.key_is k ∷ []) else if_it (bytes_eq l k) []) m)
          (joined reads (rows_give j r.0 r.1 no_sheet fs)
          (subst (λ (q : Named × Members). Takes reads (ask.key_is k ∷ gs) (members_tokens q.1) (tabled fs q.0) e) (sym r.2) d))
      go false m is =
          let same = departs reads (ap (draft no_sheet) n) (subst (λ (q : Named × Members). Takes reads (ask.key_is k ∷ gs) (members_tokens q.1) (tabled fs q.0) e) (sym (same_Some (no_named, member l j ms) p is)) d) in
          record { is = ap (λ t. option_and_then (λ s. trees_after reads s.goals s.draft (json_tokens j ++ members_tokens ms)) (option_map (λ l. at (l ++ gs) (draft no_sheet fs)) (if t then Some (ask.rows ∷ ask.key_is k ∷ []) else if_it (bytes_eq l k) []))) m ∙ same.is }

  part_then : (k : List ℕ) (g : Goal) (gs : List Goal) (f : Json → Option Tree) (ms : Members) (p : Part × Members) (fs : List Frame) (e : Draft) → HasNone fs
      → ((j : Json) (x : Tree) → f j ≡ Some x → (table : Named) → Takes reads (g ∷ []) (json_tokens j) (tabled fs table) (parted fs (record { table = table; root = x })))
      → take_part reads k f ms ≡ Some p → Takes reads gs (members_tokens p.1) (parted fs p.0) e → Takes reads (ask.table_or k ∷ g ∷ gs) (members_tokens ms) (draft no_sheet fs) e
  part_then k g gs f ms p fs e n done is d =
      let h = and_then_is (λ (q : Named × Members). option_map (λ (r : Tree × Members). (record { table = q.0; root = r.0 }, r.1)) (accepted.take k f q.1)) (take_table reads ms) p is in
      let r = map_is (λ (r : Tree × Members). (record { table = h.0.0; root = r.0 }, r.1)) (accepted.take k f h.0.1) p h.2 in
      table_then k (g ∷ gs) ms h.0 fs e n h.1
      (took k g gs f h.0.1 r.0 (tabled fs h.0.0) e (λ x. parted fs (record { table = h.0.0; root = x })) (λ j x m. done j x m h.0.0) r.1
      (subst (λ (q : Part × Members). Takes reads gs (members_tokens q.1) (parted fs q.0) e) (sym r.2) d))

  -- Scalars of files and packets.

  short_hex_is : (s z : List ℕ) → unhex s ≡ Some z → is_text z ≡ true → is_short z ≡ true → ask.is_short_hex s ≡ true
  short_hex_is s z u t n =
      ap (λ o. is_some (option_and_then (λ x. if is_text x then (if is_short x then Some x else None) else None) o)) u
      ∙ ap (λ b. is_some (if b then (if is_short z then Some z else None) else None)) t
      ∙ ap (λ b. is_some (if b then Some z else None)) n

  short_hex_gives : (j : Json) (y : List ℕ) → option_and_then if_text (bytes_meant j) ≡ Some y → is_short y ≡ true → Gives reads ask.short_hex (json_tokens j) (piece.text y)
  unfolding step gather
  short_hex_gives (json.string s) y e n fs =
      let h = and_then_is if_text (unhex s) y e in
      let t = true_is is_text h.0 y h.2 in
      test_token reads ask.short_hex (string s) (ask.is_short_hex s) fs (giving (piece.text y) fs) refl (short_hex_is s h.0 h.1 t.0 (ap is_short t.1 ∙ n)) (ap (λ o. given piece.text o fs) e)
  short_hex_gives json.null y e n fs = no_answer y e
  short_hex_gives (json.boolean b) y e n fs = no_answer y e
  short_hex_gives (json.number s) y e n fs = no_answer y e
  short_hex_gives (json.array js) y e n fs = no_answer y e
  short_hex_gives (json.object ms) y e n fs = no_answer y e

  short_object : (ms : Members) (x : List ℕ) → short_meant (json.object ms) ≡ Some x → (q : Sheet) (fs : List Frame)
      → Takes reads (ask.key_is (codes "$text") ∷ ask.short_hex ∷ ask.close ∷ []) (members_tokens ms) (draft q (frame.quoted [] ∷ fs)) (draft q (give (piece.text x) fs))
  short_object no_members x e q fs = no_answer x e
  short_object (member k j no_members) x e q fs =
      let h = and_then_is (if_true is_short) (text_meant (json.object (member k j no_members))) x e in
      let t = true_is is_short h.0 x h.2 in
      let r = if_is (bytes_eq k (codes "$text")) (option_and_then if_text (bytes_meant j)) h.0 h.1 in
      key_then reads (codes "$text") k (ask.short_hex ∷ ask.close ∷ []) (json_tokens j ++ end_object ∷ []) (draft q (frame.quoted [] ∷ fs)) (draft q (give (piece.text x) fs)) r.0
      (then_close reads ask.short_hex (json_tokens j) no_members (draft q (frame.quoted [] ∷ fs)) (draft q (frame.quoted x ∷ fs)) refl
      (arrives reads (ap (λ y. draft q (frame.quoted y ∷ fs)) t.1) (short_hex_gives j h.0 r.1 t.0 (draft q (frame.quoted [] ∷ fs)))))
  short_object (member k j (member l i ms)) x e q fs = no_answer x e

  short_gives : (j : Json) (x : List ℕ) → short_meant j ≡ Some x → Gives reads ask.short_text (json_tokens j) (piece.text x)
  unfolding step gather
  short_gives (json.string s) x e fs =
      let t = true_is is_short s x e in
      test_token reads ask.short_text (string s) (is_short s) fs (giving (piece.text x) fs) refl t.0 (ap (λ y. giving (piece.text y) fs) t.1)
  short_gives (json.object ms) x e fs =
      first_step reads ask.short_text begin_object (ask.key_is (codes "$text") ∷ ask.short_hex ∷ ask.close ∷ []) (members_tokens ms) fs (giving (piece.text x) fs) refl (short_object ms x e fs.sheet fs.frames)
  short_gives json.null x e fs = no_answer x e
  short_gives (json.boolean b) x e fs = no_answer x e
  short_gives (json.number s) x e fs = no_answer x e
  short_gives (json.array js) x e fs = no_answer x e

  form_gives : (j : Json) (x : Form) → form_meant j ≡ Some x → Gives reads ask.form_word (json_tokens j) (piece.form x)
  unfolding step gather
  form_gives (json.string s) x e fs = test_token reads ask.form_word (string s) (is_some (form_of s)) fs (giving (piece.form x) fs) refl (some_is (form_of s) x e) (ap (λ o. given piece.form o fs) e)
  form_gives json.null x e fs = no_answer x e
  form_gives (json.boolean b) x e fs = no_answer x e
  form_gives (json.number s) x e fs = no_answer x e
  form_gives (json.array js) x e fs = no_answer x e
  form_gives (json.object ms) x e fs = no_answer x e

  file_version_gives : (j : Json) (x : FileVersion) → option_and_then file_version (whole_meant reads j) ≡ Some x → Gives reads ask.version_of_file (json_tokens j) (piece.version x)
  unfolding step gather
  file_version_gives (json.number s) x e fs =
      test_token reads ask.version_of_file (number s) (is_some (option_and_then file_version (ask.whole_read reads s))) fs (giving (piece.version x) fs) refl
      (some_is (option_and_then file_version (ask.whole_read reads s)) x e) (ap (λ o. given piece.version o fs) e)
  file_version_gives json.null x e fs = no_answer x e
  file_version_gives (json.boolean b) x e fs = no_answer x e
  file_version_gives (json.string s) x e fs = no_answer x e
  file_version_gives (json.array js) x e fs = no_answer x e
  file_version_gives (json.object ms) x e fs = no_answer x e

  packet_version_gives : (j : Json) (x : ℕ) → option_and_then packet_version (whole_meant reads j) ≡ Some x → Gives reads ask.version_of_packet (json_tokens j) (piece.packet_version x)
  unfolding step gather
  packet_version_gives (json.number s) x e fs =
      test_token reads ask.version_of_packet (number s) (is_some (option_and_then packet_version (ask.whole_read reads s))) fs (giving (piece.packet_version x) fs) refl
      (some_is (option_and_then packet_version (ask.whole_read reads s)) x e) (ap (λ o. given piece.packet_version o fs) e)
  packet_version_gives json.null x e fs = no_answer x e
  packet_version_gives (json.boolean b) x e fs = no_answer x e
  packet_version_gives (json.string s) x e fs = no_answer x e
  packet_version_gives (json.array js) x e fs = no_answer x e
  packet_version_gives (json.object ms) x e fs = no_answer x e

  value_tells : (j : Json) (x : Tree) → meant reads j ≡ Some x → Tells reads ask.value (json_tokens j) x
  value_tells j x e = let o = of_json reads j in o.value x e

  -- the pairs of a file are its root
  holder_tells : (j : Json) (x : Tree) → holder_meant reads j ≡ Some x → (d : Document Page) (q : Sheet) (fs : List Frame)
      → Takes reads (ask.members ∷ []) (json_tokens j) (draft q (frame.document d ∷ fs)) (told q x (frame.document d ∷ fs))
  holder_tells j x e d q fs =
      let h = map_is plain_object (members_meant reads j) x e in
      let o = of_json reads j in
      arrives reads (ap (λ t. told q t (frame.document d ∷ fs)) h.2) (o.members h.0 h.1 (frame.plain (count q)) (of_plain_frame (count q)) q (begin q) (frame.document d ∷ fs) refl)

  -- the end of an object, where all members have been taken
  closed_last : {X : Type 0} (ms : Members) (x y : X) (d : Draft) (make : X → Draft) → if_last ms (Some x) ≡ Some y → finishing d ≡ make x → Takes reads (ask.close ∷ []) (members_tokens ms) d (make y)
  unfolding step gather
  closed_last no_members x y d make e h = one_token reads ask.close end_object d (make y) refl (h ∙ ap make (same_Some x y e))
  closed_last (member k j ms) x y d make e h = no_answer y e

  abbrev around : Document Page → List Frame
  around d = frame.document d ∷ frame.bottom ∷ []

  abbrev over : Document Part → Draft
  over d = draft no_sheet (frame.ended (pages_of d) ∷ [])

  abbrev Means : List Goal → Document Page → Members → Document Part → Type 0
  Means gs blank ms d = Takes reads gs (members_tokens ms) (draft no_sheet (around blank)) (over d)

  -- Values.

  pub record IsMaker (make : Part → Document Part) (page : Page → Document Page) : Type 0 where
    pub same : (p : Part) → page (page_of p) ≡ pages_of (make p)
    pub change : (f : Page → Page) (p : Page) → with_page f (page p) ≡ page (f p)

  value_part_means : (make : Part → Document Part) (page : Page → Document Page) → IsMaker make page → (ms : Members) (p : Part) → value_part reads ms ≡ Some p
      → Means (ask.table_or (codes "root") ∷ ask.value ∷ ask.close ∷ []) (page no_page) ms (make p)
  value_part_means make page is ms p e =
      let h = and_then_is (λ (q : Part × Members). if_last q.1 (Some q.0)) (take_part reads (codes "root") (meant reads) ms) p e in
      let s = after_named no_sheet h.0.0.table in
      let ps = pairs_in no_sheet h.0.0.table in
      let r = entry_of s h.0.0.root in
      let last = after s h.0.0.root in
      let changed = ap (λ d. with_page (with_sheet last) (with_page (with_root r) d)) (is.change (with_table ps) no_page)
      ∙ ap (with_page (with_sheet last)) (is.change (with_root r) (with_table ps no_page))
      ∙ is.change (with_sheet last) (with_root r (with_table ps no_page)) ∙ is.same h.0.0 in
      part_then (codes "root") ask.value (ask.close ∷ []) (meant reads) ms h.0 (around (page no_page)) (over (make p)) (ap around (sym (is.change (with_table []) no_page)))
      (λ j x m table. value_tells j x m (after_named no_sheet table) (give (piece.members (pairs_in no_sheet table)) (around (page no_page)))) h.1
      (closed_last h.0.1 h.0.0 p (parted (around (page no_page)) h.0.0) (λ q. over (make q)) h.2 (ap (λ d. draft no_sheet (frame.ended d ∷ [])) changed))

  -- Files.

  abbrev file_goals : List Goal
  file_goals = ask.key_is (codes "name") ∷ ask.short_text ∷ ask.table_or (codes "pairs") ∷ ask.members ∷ ask.key_is (codes "version") ∷ ask.version_of_file ∷ ask.close ∷ []

  file_means : (ms : Members) (d : Document Part) → file_meant reads ms ≡ Some d → Means file_goals (file [] file0 no_page) ms d
  file_means ms d e =
      let version_meant = λ (j : Json). option_and_then file_version (whole_meant reads j) in
      let third = λ (name : List ℕ) (part : Part) (more : Members). and_take (accepted.take (codes "version") version_meant more) (λ version more. if_last more (Some (file name version part))) in
      let second = λ (name : List ℕ) (more : Members). and_take (take_part reads (codes "pairs") (holder_meant reads) more) (third name) in
      let a = and_then_is (λ (p : List ℕ × Members). second p.0 p.1) (accepted.take (codes "name") short_meant ms) d e in
      let b = and_then_is (λ (p : Part × Members). third a.0.0 p.0 p.1) (take_part reads (codes "pairs") (holder_meant reads) a.0.1) d a.2 in
      let c = and_then_is (λ (p : FileVersion × Members). if_last p.1 (Some (file a.0.0 p.0 b.0.0))) (accepted.take (codes "version") version_meant b.0.1) d b.2 in
      let blank = draft no_sheet (around (file [] file0 no_page)) in
      let named = around (file a.0.0 file0 no_page) in
      let all = parted named b.0.0 in
      took (codes "name") ask.short_text (ask.table_or (codes "pairs") ∷ ask.members ∷ ask.key_is (codes "version") ∷ ask.version_of_file ∷ ask.close ∷ []) short_meant ms a.0
      blank (over d) (λ x. giving (piece.text x) blank) (λ j x m. short_gives j x m blank) a.1
      (part_then (codes "pairs") ask.members (ask.key_is (codes "version") ∷ ask.version_of_file ∷ ask.close ∷ []) (holder_meant reads) a.0.1 b.0 named (over d) refl
      (λ j x m table. holder_tells j x m (file a.0.0 file0 (with_table (pairs_in no_sheet table) no_page)) (after_named no_sheet table) (frame.bottom ∷ [])) b.1
      (took (codes "version") ask.version_of_file (ask.close ∷ []) version_meant b.0.1 c.0 all (over d) (λ v. giving (piece.version v) all) (λ j x m. file_version_gives j x m all) c.1
      (closed_last c.0.1 (file a.0.0 c.0.0 b.0.0) d (giving (piece.version c.0.0) all) over c.2 refl)))

  -- Headers and messages.

  header_gives : (ms : Members) (h : Header Part) → header_members reads ms ≡ Some h → (q : Sheet) (fs : List Frame)
      → Takes reads ask.header_goals (members_tokens ms) (draft no_sheet (frame.header no_header q ∷ fs)) (draft q (give (piece.header (header_page h)) fs))
  header_gives ms h e q fs =
      let fourth = λ (form : Form) (must : Bool) (name : List ℕ) (more : Members). and_take (take_part reads (codes "root") (meant reads) more) (λ part more. if_last more (Some (record { name = name; must = must; form = form; graph = part }))) in
      let third = λ (form : Form) (must : Bool) (more : Members). and_take (accepted.take (codes "name") short_meant more) (fourth form must) in
      let second = λ (form : Form) (more : Members). and_take (accepted.take (codes "must") flag_meant more) (third form) in
      let a = and_then_is (λ (p : Form × Members). second p.0 p.1) (accepted.take (codes "form") form_meant ms) h e in
      let b = and_then_is (λ (p : Bool × Members). third a.0.0 p.0 p.1) (accepted.take (codes "must") flag_meant a.0.1) h a.2 in
      let c = and_then_is (λ (p : List ℕ × Members). fourth a.0.0 b.0.0 p.0 p.1) (accepted.take (codes "name") short_meant b.0.1) h b.2 in
      let d = and_then_is (λ (p : Part × Members). if_last p.1 (Some (record { name = c.0.0; must = b.0.0; form = a.0.0; graph = p.0 }))) (take_part reads (codes "root") (meant reads) c.0.1) h c.2 in
      let end = draft q (give (piece.header (header_page h)) fs) in
      let blank = draft no_sheet (frame.header no_header q ∷ fs) in
      let first = giving (piece.form a.0.0) blank in
      let next = giving (piece.flag b.0.0) first in
      let named = giving (piece.text c.0.0) next in
      let all : Header Part = record { name = c.0.0; must = b.0.0; form = a.0.0; graph = d.0.0 } in
      took (codes "form") ask.form_word (ask.key_is (codes "must") ∷ ask.flag ∷ ask.key_is (codes "name") ∷ ask.short_text ∷ ask.table_or (codes "root") ∷ ask.value ∷ ask.close ∷ []) form_meant ms a.0
      blank end (λ x. giving (piece.form x) blank) (λ j x m. form_gives j x m blank) a.1
      (took (codes "must") ask.flag (ask.key_is (codes "name") ∷ ask.short_text ∷ ask.table_or (codes "root") ∷ ask.value ∷ ask.close ∷ []) flag_meant a.0.1 b.0
      first end (λ x. giving (piece.flag x) first) (λ j x m. flag_gives reads j x m first) b.1
      (took (codes "name") ask.short_text (ask.table_or (codes "root") ∷ ask.value ∷ ask.close ∷ []) short_meant b.0.1 c.0 next end (λ x. giving (piece.text x) next) (λ j x m. short_gives j x m next) c.1
      (part_then (codes "root") ask.value (ask.close ∷ []) (meant reads) c.0.1 d.0 named.frames end refl
      (λ j x m table. value_tells j x m (after_named no_sheet table) (give (piece.members (pairs_in no_sheet table)) named.frames)) d.1
      (closed_last d.0.1 all h (parted named.frames d.0.0) (λ x. draft q (give (piece.header (header_page x)) fs)) d.2 refl))))

  message_gives : (ms : Members) (m : Message Part) → message_members reads ms ≡ Some m → (q : Sheet) (fs : List Frame)
      → Takes reads ask.message_goals (members_tokens ms) (draft no_sheet (frame.message no_message q ∷ fs)) (draft q (give (piece.message (message_page m)) fs))
  message_gives ms m e q fs =
      let fifth = λ (form : Form) (table : Named) (response : List ℕ) (root : Tree) (more : Members). and_take (accepted.take (codes "target") short_meant more) (λ target more. if_last more (Some (with_response table response target form root))) in
      let fourth = λ (form : Form) (table : Named) (response : List ℕ) (more : Members). and_take (accepted.take (codes "root") (meant reads) more) (fifth form table response) in
      let third = λ (form : Form) (table : Named) (more : Members). and_take (accepted.take (codes "response") short_meant more) (fourth form table) in
      let second = λ (form : Form) (more : Members). and_take (take_table reads more) (third form) in
      let a = and_then_is (λ (p : Form × Members). second p.0 p.1) (accepted.take (codes "form") form_meant ms) m e in
      let b = and_then_is (λ (p : Named × Members). third a.0.0 p.0 p.1) (take_table reads a.0.1) m a.2 in
      let c = and_then_is (λ (p : List ℕ × Members). fourth a.0.0 b.0.0 p.0 p.1) (accepted.take (codes "response") short_meant b.0.1) m b.2 in
      let d = and_then_is (λ (p : Tree × Members). fifth a.0.0 b.0.0 c.0.0 p.0 p.1) (accepted.take (codes "root") (meant reads) c.0.1) m c.2 in
      let f = and_then_is (λ (p : List ℕ × Members). if_last p.1 (Some (with_response b.0.0 c.0.0 p.0 a.0.0 d.0.0))) (accepted.take (codes "target") short_meant d.0.1) m d.2 in
      let end = draft q (give (piece.message (message_page m)) fs) in
      let blank = draft no_sheet (frame.message no_message q ∷ fs) in
      let first = giving (piece.form a.0.0) blank in
      let rows = tabled first.frames b.0.0 in
      let answered = giving (piece.text c.0.0) rows in
      let rooted = told answered.sheet d.0.0 answered.frames in
      let aimed = giving (piece.text f.0.0) rooted in
      let all = with_response b.0.0 c.0.0 f.0.0 a.0.0 d.0.0 in
      took (codes "form") ask.form_word (ask.table_or (codes "response") ∷ ask.short_text ∷ ask.key_is (codes "root") ∷ ask.value ∷ ask.key_is (codes "target") ∷ ask.short_text ∷ ask.close ∷ []) form_meant ms a.0
      blank end (λ x. giving (piece.form x) blank) (λ j x n. form_gives j x n blank) a.1
      (table_then (codes "response") (ask.short_text ∷ ask.key_is (codes "root") ∷ ask.value ∷ ask.key_is (codes "target") ∷ ask.short_text ∷ ask.close ∷ []) a.0.1 b.0 first.frames end refl b.1
      (took (codes "response") ask.short_text (ask.key_is (codes "root") ∷ ask.value ∷ ask.key_is (codes "target") ∷ ask.short_text ∷ ask.close ∷ []) short_meant b.0.1 c.0
      rows end (λ x. giving (piece.text x) rows) (λ j x n. short_gives j x n rows) c.1
      (took (codes "root") ask.value (ask.key_is (codes "target") ∷ ask.short_text ∷ ask.close ∷ []) (meant reads) c.0.1 d.0
      answered end (λ x. told answered.sheet x answered.frames) (λ j x n. value_tells j x n answered.sheet answered.frames) d.1
      (took (codes "target") ask.short_text (ask.close ∷ []) short_meant d.0.1 f.0 rooted end (λ x. giving (piece.text x) rooted) (λ j x n. short_gives j x n rooted) f.1
      (closed_last f.0.1 all m aimed (λ x. draft q (give (piece.message (message_page x)) fs)) f.2 refl)))))

  -- frames that take parts of a packet, and come to this piece
  pub record IsRow {Y : Type 0} (make : List Y → Frame) (one : Y → Piece) (many : List Y → Piece) : Type 0 where
    pub more : (ys : List Y) (y : Y) → take (one y) (make ys) ≡ make (ys ++ y ∷ [])
    pub ends : (q : Sheet) (ys : List Y) (fs : List Frame) → finish q (make ys ∷ fs) ≡ draft q (give (many ys) fs)

  -- so many of them, one after the other
  parts_give : {X Y : Type 0} (page : X → Y) (part : List Goal) (goal : ℕ → Goal) (f : Members → Option X) (blank : Sheet → Frame) (make : List Y → Frame) (one : Y → Piece) (many : List Y → Piece) → IsRow make one many
      → ((n : ℕ) (t : Token) → step reads (goal n) t ≡ ask.parts_step part goal n t) → ((n : ℕ) (t : Token) (d : Draft) → gather reads (goal n) t d ≡ by_part t blank d)
      → ((ms : Members) (x : X) → f ms ≡ Some x → (q : Sheet) (fs : List Frame) → Takes reads part (members_tokens ms) (draft no_sheet (blank q ∷ fs)) (draft q (give (one (page x)) fs)))
      → (js : Items) (before : List Y) (xs : List X) (n : ℕ) (q : Sheet) (fs : List Frame) → each (of_members f) js ≡ Some xs → length xs ≤ n
      → Takes reads (goal n ∷ []) (items_tokens js) (draft q (make before ∷ fs)) (draft q (give (many (before ++ map page xs)) fs))
  parts_give page part goal f blank make one many row is at done no_items before xs zero q fs e l =
      one_token reads (goal zero) end_array (draft q (make before ∷ fs)) (draft q (give (many (before ++ map page xs)) fs)) (is zero end_array)
      (at zero end_array (draft q (make before ∷ fs)) ∙ row.ends q before fs ∙ ap (λ ys. draft q (give (many ys) fs)) (sym (append-nil before) ∙ ap (λ l. before ++ map page l) (same_Some [] xs e)))
  parts_give page part goal f blank make one many row is at done no_items before xs (suc n) q fs e l =
      one_token reads (goal (suc n)) end_array (draft q (make before ∷ fs)) (draft q (give (many (before ++ map page xs)) fs)) (is (suc n) end_array)
      (at (suc n) end_array (draft q (make before ∷ fs)) ∙ row.ends q before fs ∙ ap (λ ys. draft q (give (many ys) fs)) (sym (append-nil before) ∙ ap (λ l. before ++ map page l) (same_Some [] xs e)))
  parts_give page part goal f blank make one many row is at done (item (json.object ms) js) before xs zero q fs e l =
      let h = and_then_is (λ x. option_map (λ ys. x ∷ ys) (each (of_members f) js)) (f ms) xs e in
      let r = map_is (λ ys. h.0 ∷ ys) (each (of_members f) js) xs h.2 in
      let long : suc (length r.0) ≡ length xs = ap length r.2 in
      absurd (omega (arith, long, l))
  parts_give page part goal f blank make one many row is at done (item (json.object ms) js) before xs (suc n) q fs e l =
      let h = and_then_is (λ x. option_map (λ ys. x ∷ ys) (each (of_members f) js)) (f ms) xs e in
      let r = map_is (λ ys. h.0 ∷ ys) (each (of_members f) js) xs h.2 in
      let long : suc (length r.0) ≡ length xs = ap length r.2 in
      first_step reads (goal (suc n)) begin_object (part ++ goal n ∷ []) (members_tokens ms ++ items_tokens js) (draft q (make before ∷ fs)) (draft q (give (many (before ++ map page xs)) fs)) (is (suc n) begin_object)
      (departs reads (at (suc n) begin_object (draft q (make before ∷ fs)))
      (joined reads (arrives reads (ap (λ g. draft q (g ∷ fs)) (row.more before (page h.0))) (done ms h.0 h.1 q (make before ∷ fs)))
      (arrives reads (ap (λ l. draft q (give (many l) fs)) (append_assoc before (page h.0 ∷ []) (map page r.0) ∙ ap (λ l. before ++ map page l) r.2))
      (parts_give page part goal f blank make one many row is at done js (before ++ page h.0 ∷ []) r.0 n q fs r.1 (omega (arith, long, l))))))
  parts_give page part goal f blank make one many row is at done (item json.null js) before xs n q fs e l = no_answer xs e
  parts_give page part goal f blank make one many row is at done (item (json.boolean b) js) before xs n q fs e l = no_answer xs e
  parts_give page part goal f blank make one many row is at done (item (json.number s) js) before xs n q fs e l = no_answer xs e
  parts_give page part goal f blank make one many row is at done (item (json.string s) js) before xs n q fs e l = no_answer xs e
  parts_give page part goal f blank make one many row is at done (item (json.array is') js) before xs n q fs e l = no_answer xs e

  few_is : {X : Type 0} (xs : List X) → is_few xs ≡ true → length xs ≤ 65535
  few_is xs e = below (length xs) e
    where
      below : (n : ℕ) → nat_lt n 65536 ≡ true → n ≤ 65535
      below n e = grind arith

  headers_give : (j : Json) (xs : List (Header Part)) → few_meant (header_members reads) j ≡ Some xs → Gives reads ask.headers (json_tokens j) (piece.headers (map header_page xs))
  unfolding step gather
  headers_give (json.array js) xs e d =
      let h = and_then_is (if_true is_few) (each (of_members (header_members reads)) js) xs e in
      let t = true_is is_few h.0 xs h.2 in
      first_step reads ask.headers begin_array (ask.more_headers 65535 ∷ []) (items_tokens js) d (giving (piece.headers (map header_page xs)) d) refl
      (arrives reads (ap (λ l. giving (piece.headers (map header_page l)) d) t.1)
      (parts_give header_page ask.header_goals ask.more_headers (header_members reads) (frame.header no_header) frame.headers piece.header piece.headers (record { more = λ ys y. refl; ends = λ q ys fs. refl })
      (λ n u. refl) (λ n u e. refl) header_gives js [] h.0 65535 d.sheet d.frames h.1 (few_is h.0 t.0)))
  headers_give json.null xs e d = no_answer xs e
  headers_give (json.boolean b) xs e d = no_answer xs e
  headers_give (json.number s) xs e d = no_answer xs e
  headers_give (json.string s) xs e d = no_answer xs e
  headers_give (json.object ms) xs e d = no_answer xs e

  messages_give : (j : Json) (xs : List (Message Part)) → few_meant (message_members reads) j ≡ Some xs → Gives reads ask.messages (json_tokens j) (piece.messages (map message_page xs))
  unfolding step gather
  messages_give (json.array js) xs e d =
      let h = and_then_is (if_true is_few) (each (of_members (message_members reads)) js) xs e in
      let t = true_is is_few h.0 xs h.2 in
      first_step reads ask.messages begin_array (ask.more_messages 65535 ∷ []) (items_tokens js) d (giving (piece.messages (map message_page xs)) d) refl
      (arrives reads (ap (λ l. giving (piece.messages (map message_page l)) d) t.1)
      (parts_give message_page ask.message_goals ask.more_messages (message_members reads) (frame.message no_message) frame.messages piece.message piece.messages (record { more = λ ys y. refl; ends = λ q ys fs. refl })
      (λ n u. refl) (λ n u e. refl) message_gives js [] h.0 65535 d.sheet d.frames h.1 (few_is h.0 t.0)))
  messages_give json.null xs e d = no_answer xs e
  messages_give (json.boolean b) xs e d = no_answer xs e
  messages_give (json.number s) xs e d = no_answer xs e
  messages_give (json.string s) xs e d = no_answer xs e
  messages_give (json.object ms) xs e d = no_answer xs e

  abbrev packet_goals : List Goal
  packet_goals = ask.key_is (codes "headers") ∷ ask.headers ∷ ask.key_is (codes "messages") ∷ ask.messages ∷ ask.key_is (codes "version") ∷ ask.version_of_packet ∷ ask.close ∷ []

  packet_means : (ms : Members) (d : Document Part) → packet_meant reads ms ≡ Some d → Means packet_goals (packet zero [] []) ms d
  packet_means ms d e =
      let version_meant = λ (j : Json). option_and_then packet_version (whole_meant reads j) in
      let third = λ (hs : List (Header Part)) (ns : List (Message Part)) (more : Members). and_take (accepted.take (codes "version") version_meant more) (λ version more. if_last more (Some (packet version hs ns))) in
      let second = λ (hs : List (Header Part)) (more : Members). and_take (accepted.take (codes "messages") (few_meant (message_members reads)) more) (third hs) in
      let a = and_then_is (λ (p : List (Header Part) × Members). second p.0 p.1) (accepted.take (codes "headers") (few_meant (header_members reads)) ms) d e in
      let b = and_then_is (λ (p : List (Message Part) × Members). third a.0.0 p.0 p.1) (accepted.take (codes "messages") (few_meant (message_members reads)) a.0.1) d a.2 in
      let c = and_then_is (λ (p : ℕ × Members). if_last p.1 (Some (packet p.0 a.0.0 b.0.0))) (accepted.take (codes "version") version_meant b.0.1) d b.2 in
      let blank = draft no_sheet (around (packet zero [] [])) in
      let headed = draft no_sheet (around (packet zero (map header_page a.0.0) [])) in
      let filled = draft no_sheet (around (packet zero (map header_page a.0.0) (map message_page b.0.0))) in
      took (codes "headers") ask.headers (ask.key_is (codes "messages") ∷ ask.messages ∷ ask.key_is (codes "version") ∷ ask.version_of_packet ∷ ask.close ∷ []) (few_meant (header_members reads)) ms a.0
      blank (over d) (λ hs. giving (piece.headers (map header_page hs)) blank) (λ j x m. headers_give j x m blank) a.1
      (took (codes "messages") ask.messages (ask.key_is (codes "version") ∷ ask.version_of_packet ∷ ask.close ∷ []) (few_meant (message_members reads)) a.0.1 b.0
      headed (over d) (λ ns. giving (piece.messages (map message_page ns)) headed) (λ j x m. messages_give j x m headed) b.1
      (took (codes "version") ask.version_of_packet (ask.close ∷ []) version_meant b.0.1 c.0 filled (over d) (λ v. giving (piece.packet_version v) filled) (λ j x m. packet_version_gives j x m filled) c.1
      (closed_last c.0.1 (packet c.0.0 a.0.0 b.0.0) d (giving (piece.packet_version c.0.0) filled) over c.2 refl)))

  -- The whole text.

  abbrev value_goals : List Goal
  value_goals = ask.table_or (codes "root") ∷ ask.value ∷ ask.close ∷ []

  -- where the members mean something by a word, it has goals, and the members come to that
  abbrev IsMet : Members → Document Part → Option (Document Part) → Option (List Goal) → Document Page → Type 0
  IsMet ms d m o blank = m ≡ Some d → (gs : List Goal) × (o ≡ Some gs) × Means gs blank ms d

  either_met : (t : Bool) (ms : Members) (d : Document Part) (m n : Option (Document Part)) (a b : Option (List Goal)) (x y : Document Page)
      → IsMet ms d m a x → IsMet ms d n b y → IsMet ms d (if t then m else n) (if t then a else b) (if t then x else y)
  either_met true ms d m n a b x y f g = f
  either_met false ms d m n a b x y f g = g

  last_met : (t : Bool) (ms : Members) (d : Document Part) (m : Option (Document Part)) (a : Option (List Goal)) (x : Document Page) → IsMet ms d m a x → IsMet ms d (if t then m else None) (if t then a else None) x
  last_met true ms d m a x f = f
  last_met false ms d m a x f = λ e. no_answer d e

  value_met : (ms : Members) (d : Document Part) (make : Part → Document Part) (page : Page → Document Page) → IsMaker make page → IsMet ms d (option_map make (value_part reads ms)) (Some value_goals) (page no_page)
  value_met ms d make page is e =
      let h = map_is make (value_part reads ms) d e in
      (value_goals, refl, arrives reads (ap over h.2) (value_part_means make page is ms h.0 h.1))

  word_means : (s : List ℕ) (ms : Members) (d : Document Part) → IsMet ms d (form_members reads s ms) (ask.by_word s) (document_by s)
  word_means s ms d =
      let file_if = if bytes_eq s (codes "sol") then file_meant reads ms else None in
      let packet_if = if bytes_eq s (codes "packet") then packet_meant reads ms else file_if in
      let amf3_if = if bytes_eq s (codes "amf3") then option_map value3 (value_part reads ms) else packet_if in
      let file_asks = if bytes_eq s (codes "sol") then Some file_goals else None in
      let packet_asks = if bytes_eq s (codes "packet") then Some packet_goals else file_asks in
      let amf3_asks = if bytes_eq s (codes "amf3") then Some value_goals else packet_asks in
      let blank_file = file [] file0 no_page in
      let blank_packet = if bytes_eq s (codes "packet") then packet zero [] [] else blank_file in
      let blank_amf3 = if bytes_eq s (codes "amf3") then value3 no_page else blank_packet in
      either_met (bytes_eq s (codes "amf0")) ms d (option_map value0 (value_part reads ms)) amf3_if (Some value_goals) amf3_asks (value0 no_page) blank_amf3 (value_met ms d value0 value0 (record { same = λ p. refl; change = λ f p. refl }))
      (either_met (bytes_eq s (codes "amf3")) ms d (option_map value3 (value_part reads ms)) packet_if (Some value_goals) packet_asks (value3 no_page) blank_packet (value_met ms d value3 value3 (record { same = λ p. refl; change = λ f p. refl }))
      (either_met (bytes_eq s (codes "packet")) ms d (packet_meant reads ms) file_if (Some packet_goals) file_asks (packet zero [] []) blank_file (λ e. (packet_goals, refl, packet_means ms d e))
      (last_met (bytes_eq s (codes "sol")) ms d (file_meant reads ms) (Some file_goals) blank_file (λ e. (file_goals, refl, file_means ms d e)))))

  members_give : (ms : Members) (d : Document Part) → document_members reads ms ≡ Some d → Takes reads (ask.form_key ∷ []) (members_tokens ms) (draft no_sheet (frame.bottom ∷ [])) (over d)
  unfolding step gather
  members_give (member k (json.string s) ms) d e =
      let h = if_is (bytes_eq k (codes "amf")) (form_members reads s ms) d e in
      let w = word_means s ms d h.1 in
      first_step reads ask.form_key (key k) (ask.form_name ∷ []) (string s ∷ members_tokens ms) (draft no_sheet (frame.bottom ∷ [])) (over d) (ap (λ t. if_it t (ask.form_name ∷ [])) h.0)
      (first_step reads ask.form_name (string s) w.0 (members_tokens ms) (draft no_sheet (frame.bottom ∷ [])) (over d) w.1 w.2)
  members_give no_members d e = no_answer d e
  members_give (member k json.null ms) d e = no_answer d e
  members_give (member k (json.boolean b) ms) d e = no_answer d e
  members_give (member k (json.number s) ms) d e = no_answer d e
  members_give (member k (json.array js) ms) d e = no_answer d e
  members_give (member k (json.object ns) ms) d e = no_answer d e

  -- JSON that means something comes to that
  pub document_gives : (j : Json) (d : Document Part) → document_meant reads j ≡ Some d → Gathers reads (json_tokens j) (pages_of d)
  unfolding step gather
  document_gives (json.object ms) d e =
      let t : Takes reads (ask.start ∷ []) (begin_object ∷ members_tokens ms) (draft no_sheet (frame.bottom ∷ [])) (over d) =
      first_step reads ask.start begin_object (ask.form_key ∷ []) (members_tokens ms) (draft no_sheet (frame.bottom ∷ [])) (over d) refl (members_give ms d e) in
      t.is
  document_gives json.null d e = no_answer d e
  document_gives (json.boolean b) d e = no_answer d e
  document_gives (json.number s) d e = no_answer d e
  document_gives (json.string s) d e = no_answer d e
  document_gives (json.array js) d e = no_answer d e
