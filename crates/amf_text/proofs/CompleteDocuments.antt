-- What means something is what is asked for: values, files and packets as whole texts.
use Rattle.std.proofs.Common.{◌≡◌, ℕ, zero, suc, ◌≤◌, Bool, true, false, if◌then◌else◌, List, [], ◌∷◌, ◌++◌, length, Option, Some, None, refl, sym, ap, ◌∙◌, subst, arith}
use Rattle.std.specs.Prelude.{option_map, option_and_then, is_some, nat_lt, codes, bytes_eq}
use Rattle.std.proofs.lemmas.Option.{same_Some}
use Rattle.json.specs.Token.{Token, begin_object, end_object, begin_array, end_array, key, string, number}
use Rattle.json.specs.Json.{Json, no_items, no_members, item, member, Items, Members}
use Rattle.json.specs.Json as json
use Rattle.json.specs.Tree.{json_tokens, items_tokens, members_tokens}
use Rattle.amf_wire.specs.Text.{is_text}
use Rattle.amf_text.specs.Scalars.{Reads}
use Rattle.amf_text.specs.Documents.{Form, Header, Message, FileVersion, Document, value3, value0, file, packet}
use Rattle.amf_text.specs.Meant.{Tree, Named, no_named, unhex, if_text, bytes_meant, text_meant, whole_meant, flag_meant, each, if_true, if_last, plain_object, meant, keys_meant, members_meant}
use Rattle.amf_text.specs.Linked.{is_table}
use Rattle.amf_text.specs.Accepted.{Part, take, and_take, rows_meant, take_table, take_part, is_short, short_meant, form_of, form_meant, file_version, packet_version, value_part, holder_meant, file_meant, header_members, with_response, message_members, of_members, is_few, few_meant, packet_meant, form_members, document_members, document_meant}
use Rattle.amf_text.specs.Asks as ask
use Rattle.amf_text.specs.Asks.{Goal, step, left_after, if_it}
use Rattle.amf_text.proofs.Goals.{no_answer, and_then_is, map_is, Done, joined, first_step, first_of}
use Rattle.amf_text.proofs.Asked.{if_is, true_is, some_is, key_then, one_token, test_token, then_close, flag_done}
use Rattle.amf_text.proofs.CompleteMembers.{of_json}
use Rattle.amf_text.proofs.CompleteMembers as complete

-- a member that was taken
pub record IsTaken {X : Type 0} (k : List ℕ) (f : Json → Option X) (ms : Members) (x : X) (more : Members) : Type 0 where
  pub name : List ℕ
  pub value : Json
  pub is : ms ≡ member name value more
  pub named : bytes_eq name k ≡ true
  pub meant : f value ≡ Some x

take_is : {X : Type 0} (k : List ℕ) (f : Json → Option X) (ms : Members) (p : X × Members) → take k f ms ≡ Some p → IsTaken k f ms p.0 p.1
take_is k f no_members p e = no_answer p e
take_is k f (member l j ms) p e =
    let h = if_is (bytes_eq l k) (option_map (λ x. (x, ms)) (f j)) p e in
    let r = map_is (λ x. (x, ms)) (f j) p h.1 in
    record { name = l; value = j; is = ap (λ q. member l j q.1) r.2; named = h.0; meant = r.1 ∙ ap (λ q. Some q.0) r.2 }

module _ (reads : Reads) where
  took : {X : Type 0} (k : List ℕ) (g : Goal) (gs : List Goal) (f : Json → Option X) (ms : Members) (p : X × Members)
      → ((j : Json) (x : X) → f j ≡ Some x → Done reads (g ∷ []) (json_tokens j)) → take k f ms ≡ Some p → Done reads gs (members_tokens p.1) → Done reads (ask.key_is k ∷ g ∷ gs) (members_tokens ms)
  took k g gs f ms p done e d =
      let t = take_is k f ms p e in
      subst (λ m. Done reads (ask.key_is k ∷ g ∷ gs) (members_tokens m)) (sym t.is)
      (key_then reads k t.name (g ∷ gs) (json_tokens t.value ++ members_tokens p.1) t.named (joined reads (g ∷ []) gs (json_tokens t.value) (members_tokens p.1) (done t.value p.0 t.meant) d))

  -- The table.

  rows_done : (j : Json) (x : Named) → rows_meant reads j ≡ Some x → Done reads (ask.rows ∷ []) (json_tokens j)
  unfolding step
  rows_done (json.object rows) x e =
      let h = and_then_is (if_true is_table) (keys_meant reads rows) x e in
      let t = true_is is_table h.0 x h.2 in
      let m = complete.of_members reads rows in
      first_step reads ask.rows begin_object (ask.row_keys [] ∷ []) (members_tokens rows) refl (m.rows [] h.0 h.1 t.0)
  rows_done json.null x e = no_answer x e
  rows_done (json.boolean b) x e = no_answer x e
  rows_done (json.number s) x e = no_answer x e
  rows_done (json.string s) x e = no_answer x e
  rows_done (json.array js) x e = no_answer x e

  table_then : (k : List ℕ) (gs : List Goal) (ms : Members) (p : Named × Members) → take_table reads ms ≡ Some p → Done reads (ask.key_is k ∷ gs) (members_tokens p.1) → Done reads (ask.table_or k ∷ gs) (members_tokens ms)
  unfolding step
  table_then k gs no_members p e d = subst (λ (q : Named × Members). Done reads (ask.key_is k ∷ gs) (members_tokens q.1)) (sym (same_Some (no_named, no_members) p e)) d
  table_then k gs (member l j ms) p e d = go (bytes_eq l (codes "nodes")) refl e
    where
      go : (t : Bool) → bytes_eq l (codes "nodes") ≡ t → (if t then option_map (λ rows. (rows, ms)) (rows_meant reads j) else Some (no_named, member l j ms)) ≡ Some p
          → Done reads (ask.table_or k ∷ gs) (key l ∷ (json_tokens j ++ members_tokens ms))
      go true n e =
          let r = map_is (λ rows. (rows, ms)) (rows_meant reads j) p e in
          first_of reads (ask.table_or k) (key l) (ask.rows ∷ ask.key_is k ∷ []) gs (json_tokens j ++ members_tokens ms)
          (ap (λ t. if t then Some (ask.rows ∷ ask.key_is k ∷ []) else if_it (bytes_eq l k) []) n)
          (joined reads (ask.rows ∷ []) (ask.key_is k ∷ gs) (json_tokens j) (members_tokens ms) (rows_done j r.0 r.1)
          (subst (λ (q : Named × Members). Done reads (ask.key_is k ∷ gs) (members_tokens q.1)) (sym r.2) d))
      go false n e =
          let same : Done reads (ask.key_is k ∷ gs) (key l ∷ (json_tokens j ++ members_tokens ms)) = subst (λ (q : Named × Members). Done reads (ask.key_is k ∷ gs) (members_tokens q.1)) (sym (same_Some (no_named, member l j ms) p e)) d in
          ap (λ t. option_and_then (λ hs. left_after reads hs (json_tokens j ++ members_tokens ms)) (option_and_then (λ hs. Some (hs ++ gs)) (if t then Some (ask.rows ∷ ask.key_is k ∷ []) else if_it (bytes_eq l k) []))) n ∙ same

  part_then : (k : List ℕ) (g : Goal) (gs : List Goal) (f : Json → Option Tree) (ms : Members) (p : Part × Members)
      → ((j : Json) (x : Tree) → f j ≡ Some x → Done reads (g ∷ []) (json_tokens j)) → take_part reads k f ms ≡ Some p → Done reads gs (members_tokens p.1) → Done reads (ask.table_or k ∷ g ∷ gs) (members_tokens ms)
  part_then k g gs f ms p done e d =
      let h = and_then_is (λ (q : Named × Members). option_map (λ (r : Tree × Members). (record { table = q.0; root = r.0 }, r.1)) (take k f q.1)) (take_table reads ms) p e in
      let r = map_is (λ (r : Tree × Members). (record { table = h.0.0; root = r.0 }, r.1)) (take k f h.0.1) p h.2 in
      table_then k (g ∷ gs) ms h.0 h.1 (took k g gs f h.0.1 r.0 done r.1 (subst (λ (q : Part × Members). Done reads gs (members_tokens q.1)) (sym r.2) d))

  -- Scalars of files and packets.

  short_hex_is : (s z : List ℕ) → unhex s ≡ Some z → is_text z ≡ true → is_short z ≡ true → ask.is_short_hex s ≡ true
  short_hex_is s z u t n =
      ap (λ o. is_some (option_and_then (λ x. if is_text x then (if is_short x then Some x else None) else None) o)) u
      ∙ ap (λ b. is_some (if b then (if is_short z then Some z else None) else None)) t
      ∙ ap (λ b. is_some (if b then Some z else None)) n

  short_hex_done : (j : Json) (y : List ℕ) → option_and_then if_text (bytes_meant j) ≡ Some y → is_short y ≡ true → Done reads (ask.short_hex ∷ []) (json_tokens j)
  unfolding step
  short_hex_done (json.string s) y e n =
      let h = and_then_is if_text (unhex s) y e in
      let t = true_is is_text h.0 y h.2 in
      test_token reads ask.short_hex (string s) (ask.is_short_hex s) refl (short_hex_is s h.0 h.1 t.0 (ap is_short t.1 ∙ n))
  short_hex_done json.null y e n = no_answer y e
  short_hex_done (json.boolean b) y e n = no_answer y e
  short_hex_done (json.number s) y e n = no_answer y e
  short_hex_done (json.array js) y e n = no_answer y e
  short_hex_done (json.object ms) y e n = no_answer y e

  short_object : (ms : Members) (x : List ℕ) → short_meant (json.object ms) ≡ Some x → Done reads (ask.key_is (codes "$text") ∷ ask.short_hex ∷ ask.close ∷ []) (members_tokens ms)
  short_object no_members x e = no_answer x e
  short_object (member k j no_members) x e =
      let h = and_then_is (if_true is_short) (text_meant (json.object (member k j no_members))) x e in
      let t = true_is is_short h.0 x h.2 in
      let r = if_is (bytes_eq k (codes "$text")) (option_and_then if_text (bytes_meant j)) h.0 h.1 in
      key_then reads (codes "$text") k (ask.short_hex ∷ ask.close ∷ []) (json_tokens j ++ end_object ∷ []) r.0 (then_close reads ask.short_hex (json_tokens j) no_members refl (short_hex_done j h.0 r.1 t.0))
  short_object (member k j (member l i ms)) x e = no_answer x e

  short_done : (j : Json) (x : List ℕ) → short_meant j ≡ Some x → Done reads (ask.short_text ∷ []) (json_tokens j)
  unfolding step
  short_done (json.string s) x e =
      let t = true_is is_short s x e in
      test_token reads ask.short_text (string s) (is_short s) refl t.0
  short_done (json.object ms) x e = first_step reads ask.short_text begin_object (ask.key_is (codes "$text") ∷ ask.short_hex ∷ ask.close ∷ []) (members_tokens ms) refl (short_object ms x e)
  short_done json.null x e = no_answer x e
  short_done (json.boolean b) x e = no_answer x e
  short_done (json.number s) x e = no_answer x e
  short_done (json.array js) x e = no_answer x e

  form_done : (j : Json) (x : Form) → form_meant j ≡ Some x → Done reads (ask.form_word ∷ []) (json_tokens j)
  unfolding step
  form_done (json.string s) x e = test_token reads ask.form_word (string s) (is_some (form_of s)) refl (some_is (form_of s) x e)
  form_done json.null x e = no_answer x e
  form_done (json.boolean b) x e = no_answer x e
  form_done (json.number s) x e = no_answer x e
  form_done (json.array js) x e = no_answer x e
  form_done (json.object ms) x e = no_answer x e

  file_version_done : (j : Json) (x : FileVersion) → option_and_then file_version (whole_meant reads j) ≡ Some x → Done reads (ask.version_of_file ∷ []) (json_tokens j)
  unfolding step
  file_version_done (json.number s) x e = test_token reads ask.version_of_file (number s) (is_some (option_and_then file_version (ask.whole_read reads s))) refl (some_is (option_and_then file_version (ask.whole_read reads s)) x e)
  file_version_done json.null x e = no_answer x e
  file_version_done (json.boolean b) x e = no_answer x e
  file_version_done (json.string s) x e = no_answer x e
  file_version_done (json.array js) x e = no_answer x e
  file_version_done (json.object ms) x e = no_answer x e

  packet_version_done : (j : Json) (x : ℕ) → option_and_then packet_version (whole_meant reads j) ≡ Some x → Done reads (ask.version_of_packet ∷ []) (json_tokens j)
  unfolding step
  packet_version_done (json.number s) x e = test_token reads ask.version_of_packet (number s) (is_some (option_and_then packet_version (ask.whole_read reads s))) refl (some_is (option_and_then packet_version (ask.whole_read reads s)) x e)
  packet_version_done json.null x e = no_answer x e
  packet_version_done (json.boolean b) x e = no_answer x e
  packet_version_done (json.string s) x e = no_answer x e
  packet_version_done (json.array js) x e = no_answer x e
  packet_version_done (json.object ms) x e = no_answer x e

  holder_done : (j : Json) (x : Tree) → holder_meant reads j ≡ Some x → Done reads (ask.members ∷ []) (json_tokens j)
  holder_done j x e =
      let h = map_is plain_object (members_meant reads j) x e in
      let o = of_json reads j in
      o.members h.0 h.1

  value_done : (j : Json) (x : Tree) → meant reads j ≡ Some x → Done reads (ask.value ∷ []) (json_tokens j)
  value_done j x e = let o = of_json reads j in o.value x e

  -- the end of an object, where all members have been taken
  closed_last : {X : Type 0} (ms : Members) (x y : X) → if_last ms (Some x) ≡ Some y → Done reads (ask.close ∷ []) (members_tokens ms)
  unfolding step
  closed_last no_members x y e = refl
  closed_last (member k j ms) x y e = no_answer y e

  value_part_done : (ms : Members) (p : Part) → value_part reads ms ≡ Some p → Done reads (ask.table_or (codes "root") ∷ ask.value ∷ ask.close ∷ []) (members_tokens ms)
  value_part_done ms p e =
      let h = and_then_is (λ (q : Part × Members). if_last q.1 (Some q.0)) (take_part reads (codes "root") (meant reads) ms) p e in
      part_then (codes "root") ask.value (ask.close ∷ []) (meant reads) ms h.0 value_done h.1 (closed_last h.0.1 h.0.0 p h.2)

  -- Files.

  file_done : (ms : Members) (d : Document Part) → file_meant reads ms ≡ Some d
      → Done reads (ask.key_is (codes "name") ∷ ask.short_text ∷ ask.table_or (codes "pairs") ∷ ask.members ∷ ask.key_is (codes "version") ∷ ask.version_of_file ∷ ask.close ∷ []) (members_tokens ms)
  file_done ms d e =
      let version_meant = λ (j : Json). option_and_then file_version (whole_meant reads j) in
      let third = λ (name : List ℕ) (part : Part) (more : Members). and_take (take (codes "version") version_meant more) (λ version more. if_last more (Some (file name version part))) in
      let second = λ (name : List ℕ) (more : Members). and_take (take_part reads (codes "pairs") (holder_meant reads) more) (third name) in
      let a = and_then_is (λ (p : List ℕ × Members). second p.0 p.1) (take (codes "name") short_meant ms) d e in
      let b = and_then_is (λ (p : Part × Members). third a.0.0 p.0 p.1) (take_part reads (codes "pairs") (holder_meant reads) a.0.1) d a.2 in
      let c = and_then_is (λ (p : FileVersion × Members). if_last p.1 (Some (file a.0.0 p.0 b.0.0))) (take (codes "version") version_meant b.0.1) d b.2 in
      took (codes "name") ask.short_text (ask.table_or (codes "pairs") ∷ ask.members ∷ ask.key_is (codes "version") ∷ ask.version_of_file ∷ ask.close ∷ []) short_meant ms a.0 short_done a.1
      (part_then (codes "pairs") ask.members (ask.key_is (codes "version") ∷ ask.version_of_file ∷ ask.close ∷ []) (holder_meant reads) a.0.1 b.0 holder_done b.1
      (took (codes "version") ask.version_of_file (ask.close ∷ []) version_meant b.0.1 c.0 file_version_done c.1
      (closed_last c.0.1 (file a.0.0 c.0.0 b.0.0) d c.2)))

  -- Headers and messages.

  header_done : (ms : Members) (h : Header Part) → header_members reads ms ≡ Some h → Done reads ask.header_goals (members_tokens ms)
  header_done ms h e =
      let fourth = λ (form : Form) (must : Bool) (name : List ℕ) (more : Members). and_take (take_part reads (codes "root") (meant reads) more) (λ part more. if_last more (Some (record { name = name; must = must; form = form; graph = part }))) in
      let third = λ (form : Form) (must : Bool) (more : Members). and_take (take (codes "name") short_meant more) (fourth form must) in
      let second = λ (form : Form) (more : Members). and_take (take (codes "must") flag_meant more) (third form) in
      let a = and_then_is (λ (p : Form × Members). second p.0 p.1) (take (codes "form") form_meant ms) h e in
      let b = and_then_is (λ (p : Bool × Members). third a.0.0 p.0 p.1) (take (codes "must") flag_meant a.0.1) h a.2 in
      let c = and_then_is (λ (p : List ℕ × Members). fourth a.0.0 b.0.0 p.0 p.1) (take (codes "name") short_meant b.0.1) h b.2 in
      let d = and_then_is (λ (p : Part × Members). if_last p.1 (Some (record { name = c.0.0; must = b.0.0; form = a.0.0; graph = p.0 }))) (take_part reads (codes "root") (meant reads) c.0.1) h c.2 in
      took (codes "form") ask.form_word (ask.key_is (codes "must") ∷ ask.flag ∷ ask.key_is (codes "name") ∷ ask.short_text ∷ ask.table_or (codes "root") ∷ ask.value ∷ ask.close ∷ []) form_meant ms a.0 form_done a.1
      (took (codes "must") ask.flag (ask.key_is (codes "name") ∷ ask.short_text ∷ ask.table_or (codes "root") ∷ ask.value ∷ ask.close ∷ []) flag_meant a.0.1 b.0 (flag_done reads) b.1
      (took (codes "name") ask.short_text (ask.table_or (codes "root") ∷ ask.value ∷ ask.close ∷ []) short_meant b.0.1 c.0 short_done c.1
      (part_then (codes "root") ask.value (ask.close ∷ []) (meant reads) c.0.1 d.0 value_done d.1
      (closed_last d.0.1 (record { name = c.0.0; must = b.0.0; form = a.0.0; graph = d.0.0 }) h d.2))))

  message_done : (ms : Members) (m : Message Part) → message_members reads ms ≡ Some m → Done reads ask.message_goals (members_tokens ms)
  message_done ms m e =
      let fifth = λ (form : Form) (table : Named) (response : List ℕ) (root : Tree) (more : Members). and_take (take (codes "target") short_meant more) (λ target more. if_last more (Some (with_response table response target form root))) in
      let fourth = λ (form : Form) (table : Named) (response : List ℕ) (more : Members). and_take (take (codes "root") (meant reads) more) (fifth form table response) in
      let third = λ (form : Form) (table : Named) (more : Members). and_take (take (codes "response") short_meant more) (fourth form table) in
      let second = λ (form : Form) (more : Members). and_take (take_table reads more) (third form) in
      let a = and_then_is (λ (p : Form × Members). second p.0 p.1) (take (codes "form") form_meant ms) m e in
      let b = and_then_is (λ (p : Named × Members). third a.0.0 p.0 p.1) (take_table reads a.0.1) m a.2 in
      let c = and_then_is (λ (p : List ℕ × Members). fourth a.0.0 b.0.0 p.0 p.1) (take (codes "response") short_meant b.0.1) m b.2 in
      let d = and_then_is (λ (p : Tree × Members). fifth a.0.0 b.0.0 c.0.0 p.0 p.1) (take (codes "root") (meant reads) c.0.1) m c.2 in
      let f = and_then_is (λ (p : List ℕ × Members). if_last p.1 (Some (with_response b.0.0 c.0.0 p.0 a.0.0 d.0.0))) (take (codes "target") short_meant d.0.1) m d.2 in
      took (codes "form") ask.form_word (ask.table_or (codes "response") ∷ ask.short_text ∷ ask.key_is (codes "root") ∷ ask.value ∷ ask.key_is (codes "target") ∷ ask.short_text ∷ ask.close ∷ []) form_meant ms a.0 form_done a.1
      (table_then (codes "response") (ask.short_text ∷ ask.key_is (codes "root") ∷ ask.value ∷ ask.key_is (codes "target") ∷ ask.short_text ∷ ask.close ∷ []) a.0.1 b.0 b.1
      (took (codes "response") ask.short_text (ask.key_is (codes "root") ∷ ask.value ∷ ask.key_is (codes "target") ∷ ask.short_text ∷ ask.close ∷ []) short_meant b.0.1 c.0 short_done c.1
      (took (codes "root") ask.value (ask.key_is (codes "target") ∷ ask.short_text ∷ ask.close ∷ []) (meant reads) c.0.1 d.0 value_done d.1
      (took (codes "target") ask.short_text (ask.close ∷ []) short_meant d.0.1 f.0 short_done f.1
      (closed_last f.0.1 (with_response b.0.0 c.0.0 f.0.0 a.0.0 d.0.0) m f.2)))))

  -- so many of them, one after the other
  parts_done : {X : Type 0} (part : List Goal) (goal : ℕ → Goal) (f : Members → Option X)
      → ((n : ℕ) (t : Token) → step reads (goal n) t ≡ ask.parts_step part goal n t) → ((ms : Members) (x : X) → f ms ≡ Some x → Done reads part (members_tokens ms))
      → (js : Items) (xs : List X) (n : ℕ) → each (of_members f) js ≡ Some xs → length xs ≤ n → Done reads (goal n ∷ []) (items_tokens js)
  parts_done part goal f is done no_items xs zero e l = one_token reads (goal zero) end_array (is zero end_array)
  parts_done part goal f is done no_items xs (suc n) e l = one_token reads (goal (suc n)) end_array (is (suc n) end_array)
  parts_done part goal f is done (item (json.object ms) js) xs zero e l =
      let h = and_then_is (λ x. option_map (λ ys. x ∷ ys) (each (of_members f) js)) (f ms) xs e in
      let r = map_is (λ ys. h.0 ∷ ys) (each (of_members f) js) xs h.2 in
      let long : suc (length r.0) ≡ length xs = ap length r.2 in
      absurd (omega (arith, long, l))
  parts_done part goal f is done (item (json.object ms) js) xs (suc n) e l =
      let h = and_then_is (λ x. option_map (λ ys. x ∷ ys) (each (of_members f) js)) (f ms) xs e in
      let r = map_is (λ ys. h.0 ∷ ys) (each (of_members f) js) xs h.2 in
      let long : suc (length r.0) ≡ length xs = ap length r.2 in
      first_step reads (goal (suc n)) begin_object (part ++ goal n ∷ []) (members_tokens ms ++ items_tokens js) (is (suc n) begin_object)
      (joined reads part (goal n ∷ []) (members_tokens ms) (items_tokens js) (done ms h.0 h.1) (parts_done part goal f is done js r.0 n r.1 (omega (arith, long, l))))
  parts_done part goal f is done (item json.null js) xs n e l = no_answer xs e
  parts_done part goal f is done (item (json.boolean b) js) xs n e l = no_answer xs e
  parts_done part goal f is done (item (json.number s) js) xs n e l = no_answer xs e
  parts_done part goal f is done (item (json.string s) js) xs n e l = no_answer xs e
  parts_done part goal f is done (item (json.array is') js) xs n e l = no_answer xs e

  few_is : {X : Type 0} (xs : List X) → is_few xs ≡ true → length xs ≤ 65535
  few_is xs e = below (length xs) e
    where
      below : (n : ℕ) → nat_lt n 65536 ≡ true → n ≤ 65535
      below n e = grind arith

  headers_done : (j : Json) (xs : List (Header Part)) → few_meant (header_members reads) j ≡ Some xs → Done reads (ask.headers ∷ []) (json_tokens j)
  unfolding step
  headers_done (json.array js) xs e =
      let h = and_then_is (if_true is_few) (each (of_members (header_members reads)) js) xs e in
      let t = true_is is_few h.0 xs h.2 in
      first_step reads ask.headers begin_array (ask.more_headers 65535 ∷ []) (items_tokens js) refl
      (parts_done ask.header_goals ask.more_headers (header_members reads) (λ n u. refl) header_done js h.0 65535 h.1 (few_is h.0 t.0))
  headers_done json.null xs e = no_answer xs e
  headers_done (json.boolean b) xs e = no_answer xs e
  headers_done (json.number s) xs e = no_answer xs e
  headers_done (json.string s) xs e = no_answer xs e
  headers_done (json.object ms) xs e = no_answer xs e

  messages_done : (j : Json) (xs : List (Message Part)) → few_meant (message_members reads) j ≡ Some xs → Done reads (ask.messages ∷ []) (json_tokens j)
  unfolding step
  messages_done (json.array js) xs e =
      let h = and_then_is (if_true is_few) (each (of_members (message_members reads)) js) xs e in
      let t = true_is is_few h.0 xs h.2 in
      first_step reads ask.messages begin_array (ask.more_messages 65535 ∷ []) (items_tokens js) refl
      (parts_done ask.message_goals ask.more_messages (message_members reads) (λ n u. refl) message_done js h.0 65535 h.1 (few_is h.0 t.0))
  messages_done json.null xs e = no_answer xs e
  messages_done (json.boolean b) xs e = no_answer xs e
  messages_done (json.number s) xs e = no_answer xs e
  messages_done (json.string s) xs e = no_answer xs e
  messages_done (json.object ms) xs e = no_answer xs e

  packet_done : (ms : Members) (d : Document Part) → packet_meant reads ms ≡ Some d
      → Done reads (ask.key_is (codes "headers") ∷ ask.headers ∷ ask.key_is (codes "messages") ∷ ask.messages ∷ ask.key_is (codes "version") ∷ ask.version_of_packet ∷ ask.close ∷ []) (members_tokens ms)
  packet_done ms d e =
      let version_meant = λ (j : Json). option_and_then packet_version (whole_meant reads j) in
      let third = λ (hs : List (Header Part)) (ns : List (Message Part)) (more : Members). and_take (take (codes "version") version_meant more) (λ version more. if_last more (Some (packet version hs ns))) in
      let second = λ (hs : List (Header Part)) (more : Members). and_take (take (codes "messages") (few_meant (message_members reads)) more) (third hs) in
      let a = and_then_is (λ (p : List (Header Part) × Members). second p.0 p.1) (take (codes "headers") (few_meant (header_members reads)) ms) d e in
      let b = and_then_is (λ (p : List (Message Part) × Members). third a.0.0 p.0 p.1) (take (codes "messages") (few_meant (message_members reads)) a.0.1) d a.2 in
      let c = and_then_is (λ (p : ℕ × Members). if_last p.1 (Some (packet p.0 a.0.0 b.0.0))) (take (codes "version") version_meant b.0.1) d b.2 in
      took (codes "headers") ask.headers (ask.key_is (codes "messages") ∷ ask.messages ∷ ask.key_is (codes "version") ∷ ask.version_of_packet ∷ ask.close ∷ []) (few_meant (header_members reads)) ms a.0 headers_done a.1
      (took (codes "messages") ask.messages (ask.key_is (codes "version") ∷ ask.version_of_packet ∷ ask.close ∷ []) (few_meant (message_members reads)) a.0.1 b.0 messages_done b.1
      (took (codes "version") ask.version_of_packet (ask.close ∷ []) version_meant b.0.1 c.0 packet_version_done c.1
      (closed_last c.0.1 (packet c.0.0 a.0.0 b.0.0) d c.2)))

  -- The whole text.

  abbrev value_goals : List Goal
  value_goals = ask.table_or (codes "root") ∷ ask.value ∷ ask.close ∷ []

  abbrev packet_goals : List Goal
  packet_goals = ask.key_is (codes "headers") ∷ ask.headers ∷ ask.key_is (codes "messages") ∷ ask.messages ∷ ask.key_is (codes "version") ∷ ask.version_of_packet ∷ ask.close ∷ []

  abbrev file_goals : List Goal
  file_goals = ask.key_is (codes "name") ∷ ask.short_text ∷ ask.table_or (codes "pairs") ∷ ask.members ∷ ask.key_is (codes "version") ∷ ask.version_of_file ∷ ask.close ∷ []

  -- where the members mean something by a word, it has goals, and the members meet them
  abbrev IsMet : Members → Document Part → Option (Document Part) → Option (List Goal) → Type 0
  IsMet ms d m o = m ≡ Some d → (gs : List Goal) × (o ≡ Some gs) × Done reads gs (members_tokens ms)

  either_met : (t : Bool) (ms : Members) (d : Document Part) (m n : Option (Document Part)) (a b : Option (List Goal)) → IsMet ms d m a → IsMet ms d n b → IsMet ms d (if t then m else n) (if t then a else b)
  either_met true ms d m n a b f g = f
  either_met false ms d m n a b f g = g

  value_met : (ms : Members) (d : Document Part) (make : Part → Document Part) → IsMet ms d (option_map make (value_part reads ms)) (Some value_goals)
  value_met ms d make e = let h = map_is make (value_part reads ms) d e in (value_goals, refl, value_part_done ms h.0 h.1)

  word_done : (s : List ℕ) (ms : Members) (d : Document Part) → IsMet ms d (form_members reads s ms) (ask.by_word s)
  word_done s ms d =
      let file_if = if bytes_eq s (codes "sol") then file_meant reads ms else None in
      let packet_if = if bytes_eq s (codes "packet") then packet_meant reads ms else file_if in
      let amf3_if = if bytes_eq s (codes "amf3") then option_map value3 (value_part reads ms) else packet_if in
      let file_asks = if bytes_eq s (codes "sol") then Some file_goals else None in
      let packet_asks = if bytes_eq s (codes "packet") then Some packet_goals else file_asks in
      let amf3_asks = if bytes_eq s (codes "amf3") then Some value_goals else packet_asks in
      either_met (bytes_eq s (codes "amf0")) ms d (option_map value0 (value_part reads ms)) amf3_if (Some value_goals) amf3_asks (value_met ms d value0)
      (either_met (bytes_eq s (codes "amf3")) ms d (option_map value3 (value_part reads ms)) packet_if (Some value_goals) packet_asks (value_met ms d value3)
      (either_met (bytes_eq s (codes "packet")) ms d (packet_meant reads ms) file_if (Some packet_goals) file_asks (λ e. (packet_goals, refl, packet_done ms d e))
      (either_met (bytes_eq s (codes "sol")) ms d (file_meant reads ms) None (Some file_goals) None (λ e. (file_goals, refl, file_done ms d e)) (λ e. no_answer d e))))

  members_done : (ms : Members) (d : Document Part) → document_members reads ms ≡ Some d → Done reads (ask.form_key ∷ []) (members_tokens ms)
  unfolding step
  members_done (member k (json.string s) ms) d e =
      let h = if_is (bytes_eq k (codes "amf")) (form_members reads s ms) d e in
      let w = word_done s ms d h.1 in
      first_step reads ask.form_key (key k) (ask.form_name ∷ []) (string s ∷ members_tokens ms) (ap (λ t. if_it t (ask.form_name ∷ [])) h.0)
      (first_step reads ask.form_name (string s) w.0 (members_tokens ms) w.1 w.2)
  members_done no_members d e = no_answer d e
  members_done (member k json.null ms) d e = no_answer d e
  members_done (member k (json.boolean b) ms) d e = no_answer d e
  members_done (member k (json.number s) ms) d e = no_answer d e
  members_done (member k (json.array js) ms) d e = no_answer d e
  members_done (member k (json.object ns) ms) d e = no_answer d e

  -- JSON that means something is just what is asked for
  pub document_done : (j : Json) (d : Document Part) → document_meant reads j ≡ Some d → Done reads (ask.start ∷ []) (json_tokens j)
  unfolding step
  document_done (json.object ms) d e = first_step reads ask.start begin_object (ask.form_key ∷ []) (members_tokens ms) refl (members_done ms d e)
  document_done json.null d e = no_answer d e
  document_done (json.boolean b) d e = no_answer d e
  document_done (json.number s) d e = no_answer d e
  document_done (json.string s) d e = no_answer d e
  document_done (json.array js) d e = no_answer d e
