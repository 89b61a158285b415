-- What is asked for means something, where it does so of fewer tokens: files, packets and whole texts.
use Rattle.std.proofs.Common.{◌≡◌, ℕ, zero, suc, ◌≤◌, Bool, true, false, if◌then◌else◌, List, [], ◌∷◌, ◌++◌, length, Option, Some, None, refl, sym, ap, ap₂, ◌∙◌, subst, inl, inr, append_assoc, append-nil, arith}
use Rattle.std.specs.Prelude.{option_map, option_and_then, nat_lt, codes, bytes_eq}
use Rattle.std.proofs.lemmas.Bool.Decides.{nat_tests}
use Rattle.std.proofs.lemmas.Slice.Eq.{bytes_eq-Decides}
use Rattle.json.specs.Token.{Token, begin_object, begin_array, end_array, key, string}
use Rattle.json.specs.Json.{Json, no_items, no_members, item, member, Members}
use Rattle.json.specs.Json as json
use Rattle.json.specs.Tree.{json_tokens, members_tokens, HasNumbers, MembersHaveNumbers}
use Rattle.json.specs.Print.{ArePrintable}
use Rattle.amf_text.specs.Scalars.{Reads}
use Rattle.amf_text.specs.Documents.{Form, Header, Message, FileVersion, Document, value3, value0, file, packet}
use Rattle.amf_text.specs.Meant.{Tree, Named, no_named, whole_meant, flag_meant, each, if_true, if_last, plain_object, meant}
use Rattle.amf_text.specs.Accepted.{Part, Taken, take, and_take, rows_meant, take_table, take_part, short_meant, form_meant, file_version, packet_version, value_part, holder_meant, file_meant, header_members, with_response, message_members, of_members, is_few, few_meant, packet_meant, form_members}
use Rattle.amf_text.specs.Asks as ask
use Rattle.amf_text.specs.Asks.{Goal, step, if_it}
use Rattle.amf_text.proofs.Goals.{no_answer, Done}
use Rattle.amf_text.proofs.Meets.{Meets}
use Rattle.amf_text.proofs.Sound.{Below, Sound, cut, left_is, nothing_more, if_it_is}

words_same : (word : List ℕ) → bytes_eq word word ≡ true
words_same word = (bytes_eq-Decides word word).1 refl

pub take_at : {X : Type 0} (k : List ℕ) (f : Json → Option X) (j : Json) (x : X) (ms : Members) → f j ≡ Some x → take k f (member k j ms) ≡ Some (x, ms)
take_at k f j x ms e = ap (λ b. if b then option_map (λ y. (y, ms)) (f j) else None) (words_same k) ∙ ap (option_map (λ y. (y, ms))) e

-- Tokens of a member, and others behind them.

field_is : (word : List ℕ) (rest front back : List Token) (j : Json) (ms : Members) (tail : List Token) → rest ≡ key word ∷ (front ++ back) → front ≡ json_tokens j → back ≡ members_tokens ms ++ tail → rest ≡ members_tokens (member word j ms) ++ tail
field_is word rest front back j ms tail e f g =
    e ∙ ap₂ (λ x y. key word ∷ (x ++ y)) f g ∙ ap (λ x. key word ∷ x) (sym (append_assoc (json_tokens j) (members_tokens ms) tail))

table_is : (rest front back : List Token) (j : Json) (more : Members) (tail : List Token) (ms : Members) → rest ≡ front ++ back → back ≡ json_tokens j ++ (members_tokens more ++ tail)
    → front ++ (json_tokens j ++ members_tokens more) ≡ members_tokens ms → rest ≡ members_tokens ms ++ tail
table_is rest front back j more tail ms e f g =
    e ∙ ap (λ x. front ++ x) (f ∙ sym (append_assoc (json_tokens j) (members_tokens more) tail))
    ∙ sym (append_assoc front (json_tokens j ++ members_tokens more) tail) ∙ ap (λ x. x ++ tail) g

pub few_are : {X : Type 0} (xs : List X) → length xs ≤ 65535 → nat_lt (length xs) 65536 ≡ true
few_are xs h = grind (arith, nat_tests, h)

module _ (reads : Reads) where
  -- A key, or the table before it.

  pub record Tabled (k : List ℕ) (front : List Token) (j : Json) (more : Members) : Type 0 where
    pub members : Members
    pub tokens : front ++ (json_tokens j ++ members_tokens more) ≡ members_tokens members
    pub numbers : MembersHaveNumbers members
    pub table : Named
    pub takes : take_table reads members ≡ Some (table, member k j more)

  tabled : (k : List ℕ) → bytes_eq k (codes "nodes") ≡ false → (front : List Token) → Meets reads (ask.table_or k) front → (j : Json) (more : Members) → HasNumbers j → MembersHaveNumbers more → Tabled k front j more
  tabled k other front (inl e) j more a b = record {
    members = member k j more;
    tokens = ap (λ x. x ++ (json_tokens j ++ members_tokens more)) e;
    numbers = (a, b);
    table = no_named;
    takes = ap (λ t. if t then option_map (λ rows. (rows, more)) (rows_meant reads j) else Some (no_named, member k j more)) other;
  }
  tabled k other front (inr (i, rows, is, c, m)) j more a b = record {
    members = member (codes "nodes") i (member k j more);
    tokens = ap (λ x. x ++ (json_tokens j ++ members_tokens more)) is ∙ ap (λ x. key (codes "nodes") ∷ x) (append_assoc (json_tokens i) (key k ∷ []) (json_tokens j ++ members_tokens more));
    numbers = (c, (a, b));
    table = rows;
    takes = ap (option_map (λ r. (r, member k j more))) m;
  }

  abbrev rooted : Named → Tree × Members → Part × Members
  rooted table p = (record { table = table; root = p.0 }, p.1)

  pub part_is : (k : List ℕ) (f : Json → Option Tree) (j : Json) (x : Tree) (ms more : Members) (table : Named) → take_table reads ms ≡ Some (table, member k j more) → f j ≡ Some x
      → take_part reads k f ms ≡ Some (record { table = table; root = x }, more)
  part_is k f j x ms more table e h =
      ap (λ (o : Taken Named). and_take o (λ t rest. option_map (rooted t) (take k f rest))) e ∙ ap (option_map (rooted table)) (take_at k f j x more h)

  -- What the members of a part mean, one after the other.

  abbrev pub header_name : Form → Bool → List ℕ → Members → Option (Header Part)
  header_name form must name ms = and_take (take_part reads (codes "root") (meant reads) ms) (λ part more. if_last more (Some (record { name = name; must = must; form = form; graph = part })))

  abbrev pub header_must : Form → Bool → Members → Option (Header Part)
  header_must form must ms = and_take (take (codes "name") short_meant ms) (header_name form must)

  abbrev pub header_form : Form → Members → Option (Header Part)
  header_form form ms = and_take (take (codes "must") flag_meant ms) (header_must form)

  abbrev pub message_root : Form → Named → List ℕ → Tree → Members → Option (Message Part)
  message_root form table response root ms = and_take (take (codes "target") short_meant ms) (λ target more. if_last more (Some (with_response table response target form root)))

  abbrev pub message_response : Form → Named → List ℕ → Members → Option (Message Part)
  message_response form table response ms = and_take (take (codes "root") (meant reads) ms) (message_root form table response)

  abbrev pub message_table : Form → Named → Members → Option (Message Part)
  message_table form table ms = and_take (take (codes "response") short_meant ms) (message_response form table)

  abbrev pub message_form : Form → Members → Option (Message Part)
  message_form form ms = and_take (take_table reads ms) (message_table form)

  abbrev pub file_version_of : Json → Option FileVersion
  file_version_of j = option_and_then file_version (whole_meant reads j)

  abbrev pub packet_version_of : Json → Option ℕ
  packet_version_of j = option_and_then packet_version (whole_meant reads j)

  abbrev pub file_part : List ℕ → Part → Members → Option (Document Part)
  file_part name part ms = and_take (take (codes "version") file_version_of ms) (λ version more. if_last more (Some (file name version part)))

  abbrev pub file_name : List ℕ → Members → Option (Document Part)
  file_name name ms = and_take (take_part reads (codes "pairs") (holder_meant reads) ms) (file_part name)

  abbrev pub packet_messages : List (Header Part) → List (Message Part) → Members → Option (Document Part)
  packet_messages headers messages ms = and_take (take (codes "version") packet_version_of ms) (λ version more. if_last more (Some (packet version headers messages)))

  abbrev pub packet_headers : List (Header Part) → Members → Option (Document Part)
  packet_headers headers ms = and_take (take (codes "messages") (few_meant (message_members reads)) ms) (packet_messages headers)

  module _ (n : ℕ) (below : Below reads n) where
    -- a key with its value, and the rest
    pub record Field (word : List ℕ) (g : Goal) (gs : List Goal) (rest : List Token) : Type 0 where
      pub front : List Token
      pub back : List Token
      pub is : rest ≡ key word ∷ (front ++ back)
      pub meets : Meets reads g front
      pub done : Done reads gs back
      pub short : length back ≤ n
      pub printable : ArePrintable back

    field_in : (word : List ℕ) (g : Goal) (gs : List Goal) (rest : List Token) → length rest ≤ n → ArePrintable rest → Done reads (ask.key_is word ∷ g ∷ gs) rest → Field word g gs rest
    field_in word g gs rest l p d =
        let a = cut reads n below (ask.key_is word) (g ∷ gs) rest l p d in
        let b = cut reads n below g gs a.back a.short a.printable a.done in
        record {
          front = b.front;
          back = b.back;
          is = a.is ∙ ap (λ x. x ++ a.back) a.meets ∙ ap (λ x. key word ∷ x) b.is;
          meets = b.meets;
          done = b.done;
          short = b.short;
          printable = b.printable;
        }

    abbrev Whole : {X : Type 0} → (Members → Option X) → List Token → Type 0
    Whole {X} f rest = (ms : Members) × (x : X) × (rest ≡ members_tokens ms) × MembersHaveNumbers ms × (f ms ≡ Some x)

    value_in : (rest : List Token) → length rest ≤ n → ArePrintable rest → Done reads (ask.table_or (codes "root") ∷ ask.value ∷ ask.close ∷ []) rest → Whole (value_part reads) rest
    value_in rest l p d =
        let a = cut reads n below (ask.table_or (codes "root")) (ask.value ∷ ask.close ∷ []) rest l p d in
        let b = cut reads n below ask.value (ask.close ∷ []) a.back a.short a.printable a.done in
        let c = below ask.close b.back b.short b.printable b.done in
        let v = b.meets in
        let t = tabled (codes "root") refl a.front a.meets v.0 no_members v.3 tt in (
          t.members,
          record { table = t.table; root = v.1 },
          a.is ∙ ap (λ x. a.front ++ x) (b.is ∙ ap₂ (λ x y. x ++ y) v.2 c) ∙ t.tokens,
          t.numbers,
          ap (λ (o : Taken Part). and_take o (λ part more. if_last more (Some part))) (part_is (codes "root") (meant reads) v.0 v.1 t.members no_members t.table t.takes v.4),
        )

    -- one of a list, and what is left behind it
    pub record One {X : Type 0} (f : Members → Option X) (gs : List Goal) (rest : List Token) : Type 0 where
      pub members : Members
      pub part : X
      pub back : List Token
      pub is : rest ≡ members_tokens members ++ back
      pub numbers : MembersHaveNumbers members
      pub means : f members ≡ Some part
      pub done : Done reads gs back
      pub short : length back ≤ n
      pub printable : ArePrintable back

    header_in : (gs : List Goal) (rest : List Token) → length rest ≤ n → ArePrintable rest → Done reads (ask.header_goals ++ gs) rest → One (header_members reads) gs rest
    header_in gs rest l p d =
        let form = field_in (codes "form") ask.form_word (ask.key_is (codes "must") ∷ ask.flag ∷ ask.key_is (codes "name") ∷ ask.short_text ∷ ask.table_or (codes "root") ∷ ask.value ∷ ask.close ∷ gs) rest l p d in
        let must = field_in (codes "must") ask.flag (ask.key_is (codes "name") ∷ ask.short_text ∷ ask.table_or (codes "root") ∷ ask.value ∷ ask.close ∷ gs) form.back form.short form.printable form.done in
        let name = field_in (codes "name") ask.short_text (ask.table_or (codes "root") ∷ ask.value ∷ ask.close ∷ gs) must.back must.short must.printable must.done in
        let a = cut reads n below (ask.table_or (codes "root")) (ask.value ∷ ask.close ∷ gs) name.back name.short name.printable name.done in
        let b = cut reads n below ask.value (ask.close ∷ gs) a.back a.short a.printable a.done in
        let c = cut reads n below ask.close gs b.back b.short b.printable b.done in
        let f = form.meets in
        let m = must.meets in
        let s = name.meets in
        let v = b.meets in
        let t = tabled (codes "root") refl a.front a.meets v.0 no_members v.3 tt in
        let behind : a.back ≡ json_tokens v.0 ++ (members_tokens no_members ++ c.back) = b.is ∙ ap₂ (λ x y. x ++ y) v.2 (c.is ∙ ap (λ x. x ++ c.back) c.meets) in
        let named = member (codes "name") s.0 t.members in
        let owed = member (codes "must") m.0 named in
        record {
          members = member (codes "form") f.0 owed;
          part = record { name = s.1; must = m.1; form = f.1; graph = record { table = t.table; root = v.1 } };
          back = c.back;
          is = field_is (codes "form") rest form.front form.back f.0 owed c.back form.is f.2
              (field_is (codes "must") form.back must.front must.back m.0 named c.back must.is m.2
              (field_is (codes "name") must.back name.front name.back s.0 t.members c.back name.is s.2
              (table_is name.back a.front a.back v.0 no_members c.back t.members a.is behind t.tokens)));
          numbers = (f.3, (m.3, (s.3, t.numbers)));
          means = ap (λ (o : Taken Form). and_take o header_form) (take_at (codes "form") form_meant f.0 f.1 owed f.4)
              ∙ ap (λ (o : Taken Bool). and_take o (header_must f.1)) (take_at (codes "must") flag_meant m.0 m.1 named m.4)
              ∙ ap (λ (o : Taken (List ℕ)). and_take o (header_name f.1 m.1)) (take_at (codes "name") short_meant s.0 s.1 t.members s.4)
              ∙ ap (λ (o : Taken Part). and_take o (λ part more. if_last more (Some (record { name = s.1; must = m.1; form = f.1; graph = part }))))
              (part_is (codes "root") (meant reads) v.0 v.1 t.members no_members t.table t.takes v.4);
          done = c.done;
          short = c.short;
          printable = c.printable;
        }

    message_in : (gs : List Goal) (rest : List Token) → length rest ≤ n → ArePrintable rest → Done reads (ask.message_goals ++ gs) rest → One (message_members reads) gs rest
    message_in gs rest l p d =
        let form = field_in (codes "form") ask.form_word (ask.table_or (codes "response") ∷ ask.short_text ∷ ask.key_is (codes "root") ∷ ask.value ∷ ask.key_is (codes "target") ∷ ask.short_text ∷ ask.close ∷ gs) rest l p d in
        let a = cut reads n below (ask.table_or (codes "response")) (ask.short_text ∷ ask.key_is (codes "root") ∷ ask.value ∷ ask.key_is (codes "target") ∷ ask.short_text ∷ ask.close ∷ gs) form.back form.short form.printable form.done in
        let b = cut reads n below ask.short_text (ask.key_is (codes "root") ∷ ask.value ∷ ask.key_is (codes "target") ∷ ask.short_text ∷ ask.close ∷ gs) a.back a.short a.printable a.done in
        let root = field_in (codes "root") ask.value (ask.key_is (codes "target") ∷ ask.short_text ∷ ask.close ∷ gs) b.back b.short b.printable b.done in
        let target = field_in (codes "target") ask.short_text (ask.close ∷ gs) root.back root.short root.printable root.done in
        let c = cut reads n below ask.close gs target.back target.short target.printable target.done in
        let f = form.meets in
        let r = b.meets in
        let v = root.meets in
        let s = target.meets in
        let last = member (codes "target") s.0 no_members in
        let more = member (codes "root") v.0 last in
        let t = tabled (codes "response") refl a.front a.meets r.0 more r.3 (v.3, (s.3, tt)) in
        let end : target.back ≡ members_tokens no_members ++ c.back = c.is ∙ ap (λ x. x ++ c.back) c.meets in
        let behind : b.back ≡ members_tokens more ++ c.back =
        field_is (codes "root") b.back root.front root.back v.0 last c.back root.is v.2 (field_is (codes "target") root.back target.front target.back s.0 no_members c.back target.is s.2 end) in
        record {
          members = member (codes "form") f.0 t.members;
          part = with_response t.table r.1 s.1 f.1 v.1;
          back = c.back;
          is = field_is (codes "form") rest form.front form.back f.0 t.members c.back form.is f.2
              (table_is form.back a.front a.back r.0 more c.back t.members a.is (b.is ∙ ap₂ (λ x y. x ++ y) r.2 behind) t.tokens);
          numbers = (f.3, t.numbers);
          means = ap (λ (o : Taken Form). and_take o message_form) (take_at (codes "form") form_meant f.0 f.1 t.members f.4)
              ∙ ap (λ (o : Taken Named). and_take o (message_table f.1)) t.takes
              ∙ ap (λ (o : Taken (List ℕ)). and_take o (message_response f.1 t.table)) (take_at (codes "response") short_meant r.0 r.1 more r.4)
              ∙ ap (λ (o : Taken Tree). and_take o (message_root f.1 t.table r.1)) (take_at (codes "root") (meant reads) v.0 v.1 last v.4)
              ∙ ap (λ (o : Taken (List ℕ)). and_take o (λ target more. if_last more (Some (with_response t.table r.1 target f.1 v.1)))) (take_at (codes "target") short_meant s.0 s.1 no_members s.4);
          done = c.done;
          short = c.short;
          printable = c.printable;
        }

    -- Lists of headers and of messages.

    pub more_headers_sound : (left : ℕ) → Sound reads n (ask.more_headers left)
    unfolding step
    more_headers_sound zero end_array rest gs e d l p q = (no_items, [], ap (λ a. end_array ∷ a) (nothing_more reads rest (left_is reads [] gs rest e d)), tt, refl, omega arith)
    more_headers_sound (suc m) end_array rest gs e d l p q = (no_items, [], ap (λ a. end_array ∷ a) (nothing_more reads rest (left_is reads [] gs rest e d)), tt, refl, omega arith)
    more_headers_sound (suc m) begin_object rest gs e d l p q =
        let h = header_in (ask.more_headers m ∷ []) rest l q (left_is reads (ask.header_goals ++ ask.more_headers m ∷ []) gs rest e d) in
        let i = below (ask.more_headers m) h.back h.short h.printable h.done in (
          item (json.object h.members) i.0,
          h.part ∷ i.1,
          ap (λ a. begin_object ∷ a) (h.is ∙ ap (λ x. members_tokens h.members ++ x) i.2),
          (h.numbers, i.3),
          ap (option_and_then (λ x. option_map (λ xs. x ∷ xs) (each (of_members (header_members reads)) i.0))) h.means ∙ ap (option_map (λ xs. h.part ∷ xs)) i.4,
          omega (arith, i.5),
        )
    more_headers_sound zero _ rest gs e d l p q = no_answer gs e
    more_headers_sound (suc m) _ rest gs e d l p q = no_answer gs e

    pub headers_sound : Sound reads n ask.headers
    unfolding step
    headers_sound begin_array rest gs e d l p q =
        let i = below (ask.more_headers 65535) rest l q (left_is reads (ask.more_headers 65535 ∷ []) gs rest e d) in
        (json.array i.0, i.1, ap (λ a. begin_array ∷ a) i.2, i.3, ap (option_and_then (if_true is_few)) i.4 ∙ ap (λ b. if b then Some i.1 else None) (few_are i.1 i.5))
    headers_sound _ rest gs e d l p q = no_answer gs e

    pub more_messages_sound : (left : ℕ) → Sound reads n (ask.more_messages left)
    unfolding step
    more_messages_sound zero end_array rest gs e d l p q = (no_items, [], ap (λ a. end_array ∷ a) (nothing_more reads rest (left_is reads [] gs rest e d)), tt, refl, omega arith)
    more_messages_sound (suc m) end_array rest gs e d l p q = (no_items, [], ap (λ a. end_array ∷ a) (nothing_more reads rest (left_is reads [] gs rest e d)), tt, refl, omega arith)
    more_messages_sound (suc m) begin_object rest gs e d l p q =
        let h = message_in (ask.more_messages m ∷ []) rest l q (left_is reads (ask.message_goals ++ ask.more_messages m ∷ []) gs rest e d) in
        let i = below (ask.more_messages m) h.back h.short h.printable h.done in (
          item (json.object h.members) i.0,
          h.part ∷ i.1,
          ap (λ a. begin_object ∷ a) (h.is ∙ ap (λ x. members_tokens h.members ++ x) i.2),
          (h.numbers, i.3),
          ap (option_and_then (λ x. option_map (λ xs. x ∷ xs) (each (of_members (message_members reads)) i.0))) h.means ∙ ap (option_map (λ xs. h.part ∷ xs)) i.4,
          omega (arith, i.5),
        )
    more_messages_sound zero _ rest gs e d l p q = no_answer gs e
    more_messages_sound (suc m) _ rest gs e d l p q = no_answer gs e

    pub messages_sound : Sound reads n ask.messages
    unfolding step
    messages_sound begin_array rest gs e d l p q =
        let i = below (ask.more_messages 65535) rest l q (left_is reads (ask.more_messages 65535 ∷ []) gs rest e d) in
        (json.array i.0, i.1, ap (λ a. begin_array ∷ a) i.2, i.3, ap (option_and_then (if_true is_few)) i.4 ∙ ap (λ b. if b then Some i.1 else None) (few_are i.1 i.5))
    messages_sound _ rest gs e d l p q = no_answer gs e

    -- Whole texts.

    file_in : (rest : List Token) → length rest ≤ n → ArePrintable rest
        → Done reads (ask.key_is (codes "name") ∷ ask.short_text ∷ ask.table_or (codes "pairs") ∷ ask.members ∷ ask.key_is (codes "version") ∷ ask.version_of_file ∷ ask.close ∷ []) rest → Whole (file_meant reads) rest
    file_in rest l p d =
        let name = field_in (codes "name") ask.short_text (ask.table_or (codes "pairs") ∷ ask.members ∷ ask.key_is (codes "version") ∷ ask.version_of_file ∷ ask.close ∷ []) rest l p d in
        let a = cut reads n below (ask.table_or (codes "pairs")) (ask.members ∷ ask.key_is (codes "version") ∷ ask.version_of_file ∷ ask.close ∷ []) name.back name.short name.printable name.done in
        let b = cut reads n below ask.members (ask.key_is (codes "version") ∷ ask.version_of_file ∷ ask.close ∷ []) a.back a.short a.printable a.done in
        let version = field_in (codes "version") ask.version_of_file (ask.close ∷ []) b.back b.short b.printable b.done in
        let c = below ask.close version.back version.short version.printable version.done in
        let s = name.meets in
        let m = b.meets in
        let v = version.meets in
        let last = member (codes "version") v.0 no_members in
        let t = tabled (codes "pairs") refl a.front a.meets m.0 last m.3 (v.3, tt) in
        let ms = member (codes "name") s.0 t.members in
        let x = plain_object m.1 in
        let holder : holder_meant reads m.0 ≡ Some (plain_object m.1) = ap (option_map plain_object) m.4 in
        let behind : b.back ≡ members_tokens last ++ [] = field_is (codes "version") b.back version.front version.back v.0 no_members [] version.is v.2 c in (
          ms,
          file s.1 v.1 (record { table = t.table; root = x }),
          field_is (codes "name") rest name.front name.back s.0 t.members [] name.is s.2 (table_is name.back a.front a.back m.0 last [] t.members a.is (b.is ∙ ap₂ (λ y z. y ++ z) m.2 behind) t.tokens) ∙ append-nil (members_tokens ms),
          (s.3, t.numbers),
          ap (λ (o : Taken (List ℕ)). and_take o file_name) (take_at (codes "name") short_meant s.0 s.1 t.members s.4)
              ∙ ap (λ (o : Taken Part). and_take o (file_part s.1)) (part_is (codes "pairs") (holder_meant reads) m.0 x t.members last t.table t.takes holder)
              ∙ ap (λ (o : Taken FileVersion). and_take o (λ w more. if_last more (Some (file s.1 w (record { table = t.table; root = x }))))) (take_at (codes "version") file_version_of v.0 v.1 no_members v.4),
        )

    packet_in : (rest : List Token) → length rest ≤ n → ArePrintable rest
        → Done reads (ask.key_is (codes "headers") ∷ ask.headers ∷ ask.key_is (codes "messages") ∷ ask.messages ∷ ask.key_is (codes "version") ∷ ask.version_of_packet ∷ ask.close ∷ []) rest → Whole (packet_meant reads) rest
    packet_in rest l p d =
        let headers = field_in (codes "headers") ask.headers (ask.key_is (codes "messages") ∷ ask.messages ∷ ask.key_is (codes "version") ∷ ask.version_of_packet ∷ ask.close ∷ []) rest l p d in
        let messages = field_in (codes "messages") ask.messages (ask.key_is (codes "version") ∷ ask.version_of_packet ∷ ask.close ∷ []) headers.back headers.short headers.printable headers.done in
        let version = field_in (codes "version") ask.version_of_packet (ask.close ∷ []) messages.back messages.short messages.printable messages.done in
        let c = below ask.close version.back version.short version.printable version.done in
        let h = headers.meets in
        let m = messages.meets in
        let v = version.meets in
        let last = member (codes "version") v.0 no_members in
        let more = member (codes "messages") m.0 last in
        let ms = member (codes "headers") h.0 more in (
          ms,
          packet v.1 h.1 m.1,
          field_is (codes "headers") rest headers.front headers.back h.0 more [] headers.is h.2
              (field_is (codes "messages") headers.back messages.front messages.back m.0 last [] messages.is m.2 (field_is (codes "version") messages.back version.front version.back v.0 no_members [] version.is v.2 c)) ∙ append-nil (members_tokens ms),
          (h.3, (m.3, (v.3, tt))),
          ap (λ (o : Taken (List (Header Part))). and_take o packet_headers) (take_at (codes "headers") (few_meant (header_members reads)) h.0 h.1 more h.4)
              ∙ ap (λ (o : Taken (List (Message Part))). and_take o (packet_messages h.1)) (take_at (codes "messages") (few_meant (message_members reads)) m.0 m.1 last m.4)
              ∙ ap (λ (o : Taken ℕ). and_take o (λ w more. if_last more (Some (packet w h.1 m.1)))) (take_at (codes "version") packet_version_of v.0 v.1 no_members v.4),
        )

    -- by the word behind `amf`
    abbrev asked_by : Bool → Bool → Bool → Bool → Option (List Goal)
    asked_by a b c d =
        if a then Some (ask.table_or (codes "root") ∷ ask.value ∷ ask.close ∷ [])
        else (if b then Some (ask.table_or (codes "root") ∷ ask.value ∷ ask.close ∷ [])
        else (if c then Some (ask.key_is (codes "headers") ∷ ask.headers ∷ ask.key_is (codes "messages") ∷ ask.messages ∷ ask.key_is (codes "version") ∷ ask.version_of_packet ∷ ask.close ∷ [])
        else (if d then Some (ask.key_is (codes "name") ∷ ask.short_text ∷ ask.table_or (codes "pairs") ∷ ask.members ∷ ask.key_is (codes "version") ∷ ask.version_of_file ∷ ask.close ∷ [])
        else None)))

    abbrev meant_by : Bool → Bool → Bool → Bool → Members → Option (Document Part)
    meant_by a b c d ms =
        if a then option_map value0 (value_part reads ms)
        else (if b then option_map value3 (value_part reads ms)
        else (if c then packet_meant reads ms
        else (if d then file_meant reads ms
        else None)))

    word_in : (a b c d : Bool) (gs : List Goal) (rest : List Token) → asked_by a b c d ≡ Some gs → Done reads gs rest → length rest ≤ n → ArePrintable rest → Whole (meant_by a b c d) rest
    word_in true b c d gs rest e h l p =
        let v = value_in rest l p (left_is reads (ask.table_or (codes "root") ∷ ask.value ∷ ask.close ∷ []) gs rest e h) in
        (v.0, value0 v.1, v.2, v.3, ap (option_map value0) v.4)
    word_in false true c d gs rest e h l p =
        let v = value_in rest l p (left_is reads (ask.table_or (codes "root") ∷ ask.value ∷ ask.close ∷ []) gs rest e h) in
        (v.0, value3 v.1, v.2, v.3, ap (option_map value3) v.4)
    word_in false false true d gs rest e h l p =
        packet_in rest l p
        (left_is reads (ask.key_is (codes "headers") ∷ ask.headers ∷ ask.key_is (codes "messages") ∷ ask.messages ∷ ask.key_is (codes "version") ∷ ask.version_of_packet ∷ ask.close ∷ []) gs rest e h)
    word_in false false false true gs rest e h l p =
        file_in rest l p
        (left_is reads (ask.key_is (codes "name") ∷ ask.short_text ∷ ask.table_or (codes "pairs") ∷ ask.members ∷ ask.key_is (codes "version") ∷ ask.version_of_file ∷ ask.close ∷ []) gs rest e h)
    word_in false false false false gs rest e h l p = no_answer gs e

    pub form_name_sound : Sound reads n ask.form_name
    unfolding step
    form_name_sound (string s) rest gs e d l p q =
        let w = word_in (bytes_eq s (codes "amf0")) (bytes_eq s (codes "amf3")) (bytes_eq s (codes "packet")) (bytes_eq s (codes "sol")) gs rest e d l q in
        (s, w.0, w.1, ap (λ a. string s ∷ a) w.2, w.3, w.4)
    form_name_sound _ rest gs e d l p q = no_answer gs e

    pub form_key_sound : Sound reads n ask.form_key
    unfolding step
    form_key_sound (key k) rest gs e d l p q =
        let i = if_it_is (bytes_eq k (codes "amf")) (ask.form_name ∷ []) gs e in
        let w = below ask.form_name rest l q (subst (λ x. Done reads x rest) (sym i.1) d) in
        (member k (json.string w.0) w.1, w.2, ap (λ a. key k ∷ a) w.3, (tt, w.4), ap (λ b. if b then form_members reads w.0 w.1 else None) i.0 ∙ w.5)
    form_key_sound _ rest gs e d l p q = no_answer gs e

    pub start_sound : Sound reads n ask.start
    unfolding step
    start_sound begin_object rest gs e d l p q =
        let i = below ask.form_key rest l q (left_is reads (ask.form_key ∷ []) gs rest e d) in
        (json.object i.0, i.1, ap (λ a. begin_object ∷ a) i.2, i.3, i.4)
    start_sound _ rest gs e d l p q = no_answer gs e

    table_by : (k s : List ℕ) (t : Bool) (gs : List Goal) (rest : List Token) → bytes_eq s (codes "nodes") ≡ t → (if t then Some (ask.rows ∷ ask.key_is k ∷ []) else if_it (bytes_eq s k) []) ≡ Some gs
        → Done reads gs rest → length rest ≤ n → ArePrintable rest → Meets reads (ask.table_or k) (key s ∷ rest)
    table_by k s true gs rest is e d l p =
        let a = cut reads n below ask.rows (ask.key_is k ∷ []) rest l p (left_is reads (ask.rows ∷ ask.key_is k ∷ []) gs rest e d) in
        let r = a.meets in
        let b = below (ask.key_is k) a.back a.short a.printable a.done in
        inr (r.0, r.1, ap₂ (λ x y. key x ∷ y) ((bytes_eq-Decides s (codes "nodes")).0 is) (a.is ∙ ap₂ (λ x y. x ++ y) r.2 b), r.3, r.4)
    table_by k s false gs rest is e d l p =
        let i = if_it_is (bytes_eq s k) [] gs e in
        inl (ap₂ (λ x y. key x ∷ y) ((bytes_eq-Decides s k).0 i.0) (nothing_more reads rest (subst (λ x. Done reads x rest) (sym i.1) d)))

    pub table_or_sound : (k : List ℕ) → Sound reads n (ask.table_or k)
    unfolding step
    table_or_sound k (key s) rest gs e d l p q = table_by k s (bytes_eq s (codes "nodes")) gs rest refl e d l q
    table_or_sound k _ rest gs e d l p q = no_answer gs e
