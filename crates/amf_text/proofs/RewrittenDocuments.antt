-- JSON whose numbers are written otherwise, where another reading reads them as before: files and packets mean the same.
use Rattle.std.proofs.Common.{◌≡◌, ℕ, Bool, true, false, if◌then◌else◌, List, Option, Some, None, refl, ap, ap₂, ◌∙◌}
use Rattle.std.specs.Prelude.{option_map, option_and_then, codes, bytes_eq}
use Rattle.json.specs.Json.{Json, no_items, no_members, item, member, Items, Members}
use Rattle.json.specs.Json as json
use Rattle.amf_text.specs.Scalars.{Reads}
use Rattle.amf_text.specs.Documents.{Form, Header, Message, Document, value3, value0, file, packet}
use Rattle.amf_text.specs.Meant.{Tree, Named, no_named, flag_meant, if_true, if_last, plain_object, meant}
use Rattle.amf_text.specs.Linked.{is_table}
use Rattle.amf_text.specs.Accepted.{Part, Taken, take, and_take, rows_meant, take_table, take_part, is_short, short_meant, form_meant, file_version, packet_version, value_part, holder_meant, file_meant, header_members, with_response, message_members, of_members, is_few, few_meant, packet_meant, form_members, document_members, document_meant}
use Rattle.amf_text.proofs.SoundDocuments.{header_name, header_must, header_form, message_root, message_response, message_table, message_form, file_version_of, packet_version_of, file_part, file_name, packet_messages, packet_headers}
use Rattle.amf_text.proofs.Rewritten.{rewritten, rewritten_members, list_same, text_same, flag_same, last_same, whole_same, same_value, same_members}

module _ (f : List ℕ → List ℕ) where
  -- what is taken, and the members behind it
  abbrev again : {X : Type 0} → Taken X → Taken X
  again o = option_map (λ p. (p.0, rewritten_members f p.1)) o

  and_take_same : {X Y : Type 0} (o p : Taken X) (g h : X → Members → Option Y) → o ≡ again p → ((x : X) (ms : Members) → g x (rewritten_members f ms) ≡ h x ms) → and_take o g ≡ and_take p h
  and_take_same {X = X} o p g h e same = ap (λ q. and_take q g) e ∙ go p
    where
      go : (q : Taken X) → and_take (again q) g ≡ and_take q h
      go None = refl
      go (Some q) = same q.0 q.1

  take_same : {X : Type 0} (k : List ℕ) (g h : Json → Option X) → ((j : Json) → g (rewritten f j) ≡ h j) → (ms : Members) → take k g (rewritten_members f ms) ≡ again (take k h ms)
  take_same {X = X} k g h same no_members = refl
  take_same {X = X} k g h same (member l j ms) = ap (λ o. if bytes_eq l k then option_map (λ x. (x, rewritten_members f ms)) o else None) (same j) ∙ go (bytes_eq l k) (h j)
    where
      go : (b : Bool) (o : Option X) → (if b then option_map (λ x. (x, rewritten_members f ms)) o else None) ≡ again (if b then option_map (λ x. (x, ms)) o else None)
      go false o = refl
      go true None = refl
      go true (Some x) = refl

  form_same : (j : Json) → form_meant (rewritten f j) ≡ form_meant j
  form_same json.null = refl
  form_same (json.boolean b) = refl
  form_same (json.number s) = refl
  form_same (json.string s) = refl
  form_same (json.array js) = refl
  form_same (json.object ms) = refl

  short_same : (j : Json) → short_meant (rewritten f j) ≡ short_meant j
  short_same j = ap (option_and_then (if_true is_short)) (text_same f j)

  of_members_same : {X : Type 0} (g h : Members → Option X) → ((ms : Members) → g (rewritten_members f ms) ≡ h ms) → (j : Json) → of_members g (rewritten f j) ≡ of_members h j
  of_members_same g h same json.null = refl
  of_members_same g h same (json.boolean b) = refl
  of_members_same g h same (json.number s) = refl
  of_members_same g h same (json.string s) = refl
  of_members_same g h same (json.array js) = refl
  of_members_same g h same (json.object ms) = same ms

  few_same : {X : Type 0} (g h : Members → Option X) → ((ms : Members) → g (rewritten_members f ms) ≡ h ms) → (j : Json) → few_meant g (rewritten f j) ≡ few_meant h j
  few_same g h same j = ap (option_and_then (if_true is_few)) (list_same f (of_members g) (of_members h) (of_members_same g h same) j)

  module _ (reads other : Reads) (same : (s : List ℕ) → other (f s) ≡ reads s) where
    value_same : (j : Json) → meant other (rewritten f j) ≡ meant reads j
    value_same j = (same_value f reads other same j).value

    rows_same : (j : Json) → rows_meant other (rewritten f j) ≡ rows_meant reads j
    rows_same json.null = refl
    rows_same (json.boolean b) = refl
    rows_same (json.number s) = refl
    rows_same (json.string s) = refl
    rows_same (json.array js) = refl
    rows_same (json.object ms) = ap (option_and_then (if_true is_table)) (same_members f reads other same ms).keys

    table_same : (ms : Members) → take_table other (rewritten_members f ms) ≡ again (take_table reads ms)
    table_same no_members = refl
    table_same (member k j ms) =
        ap (λ o. if bytes_eq k (codes "nodes") then option_map (λ rows. (rows, rewritten_members f ms)) o else Some (no_named, member k (rewritten f j) (rewritten_members f ms))) (rows_same j)
        ∙ go (bytes_eq k (codes "nodes")) (rows_meant reads j)
      where
        go : (b : Bool) (o : Option Named) → (if b then option_map (λ rows. (rows, rewritten_members f ms)) o else Some (no_named, member k (rewritten f j) (rewritten_members f ms)))
            ≡ again (if b then option_map (λ rows. (rows, ms)) o else Some (no_named, member k j ms))
        go false o = refl
        go true None = refl
        go true (Some x) = refl

    abbrev rooted : Named → Tree × Members → Part × Members
    rooted table p = (record { table = table; root = p.0 }, p.1)

    part_same : (k : List ℕ) (g h : Json → Option Tree) → ((j : Json) → g (rewritten f j) ≡ h j) → (ms : Members) → take_part other k g (rewritten_members f ms) ≡ again (take_part reads k h ms)
    part_same k g h each ms =
        ap (λ (o : Taken Named). and_take o (λ t rest. option_map (rooted t) (take k g rest))) (table_same ms) ∙ go (take_table reads ms)
      where
        moved : (t : Named) (o : Taken Tree) → option_map (rooted t) (again o) ≡ again (option_map (rooted t) o)
        moved t None = refl
        moved t (Some p) = refl

        go : (o : Taken Named) → and_take (again o) (λ t rest. option_map (rooted t) (take k g rest)) ≡ again (and_take o (λ t rest. option_map (rooted t) (take k h rest)))
        go None = refl
        go (Some p) = ap (option_map (rooted p.0)) (take_same k g h each p.1) ∙ moved p.0 (take k h p.1)

    last : {X : Type 0} (x : X) (ms : Members) → if_last (rewritten_members f ms) (Some x) ≡ if_last ms (Some x)
    last x ms = last_same f ms (Some x) (Some x) refl

    value_part_same : (ms : Members) → value_part other (rewritten_members f ms) ≡ value_part reads ms
    value_part_same ms =
        and_take_same (take_part other (codes "root") (meant other) (rewritten_members f ms)) (take_part reads (codes "root") (meant reads) ms) (λ part more. if_last more (Some part)) (λ part more. if_last more (Some part))
        (part_same (codes "root") (meant other) (meant reads) value_same ms) last

    -- Files.

    pairs_same : (j : Json) → holder_meant other (rewritten f j) ≡ holder_meant reads j
    pairs_same j = ap (option_map plain_object) (same_value f reads other same j).members

    file_version_same : (j : Json) → file_version_of other (rewritten f j) ≡ file_version_of reads j
    file_version_same j = ap (option_and_then file_version) (whole_same f reads other same j)

    file_part_same : (name : List ℕ) (part : Part) (ms : Members) → file_part other name part (rewritten_members f ms) ≡ file_part reads name part ms
    file_part_same name part ms =
        and_take_same (take (codes "version") (file_version_of other) (rewritten_members f ms)) (take (codes "version") (file_version_of reads) ms)
        (λ version more. if_last more (Some (file name version part))) (λ version more. if_last more (Some (file name version part)))
        (take_same (codes "version") (file_version_of other) (file_version_of reads) file_version_same ms) (λ version. last (file name version part))

    file_name_same : (name : List ℕ) (ms : Members) → file_name other name (rewritten_members f ms) ≡ file_name reads name ms
    file_name_same name ms =
        and_take_same (take_part other (codes "pairs") (holder_meant other) (rewritten_members f ms)) (take_part reads (codes "pairs") (holder_meant reads) ms) (file_part other name) (file_part reads name)
        (part_same (codes "pairs") (holder_meant other) (holder_meant reads) pairs_same ms) (file_part_same name)

    file_same : (ms : Members) → file_meant other (rewritten_members f ms) ≡ file_meant reads ms
    file_same ms = and_take_same (take (codes "name") short_meant (rewritten_members f ms)) (take (codes "name") short_meant ms) (file_name other) (file_name reads) (take_same (codes "name") short_meant short_meant short_same ms) file_name_same

    -- Packets.

    header_name_same : (form : Form) (must : Bool) (name : List ℕ) (ms : Members) → header_name other form must name (rewritten_members f ms) ≡ header_name reads form must name ms
    header_name_same form must name ms =
        and_take_same (take_part other (codes "root") (meant other) (rewritten_members f ms)) (take_part reads (codes "root") (meant reads) ms)
        (λ part more. if_last more (Some (record { name = name; must = must; form = form; graph = part }))) (λ part more. if_last more (Some (record { name = name; must = must; form = form; graph = part })))
        (part_same (codes "root") (meant other) (meant reads) value_same ms) (λ part. last (record { name = name; must = must; form = form; graph = part }))

    header_must_same : (form : Form) (must : Bool) (ms : Members) → header_must other form must (rewritten_members f ms) ≡ header_must reads form must ms
    header_must_same form must ms =
        and_take_same (take (codes "name") short_meant (rewritten_members f ms)) (take (codes "name") short_meant ms) (header_name other form must) (header_name reads form must)
        (take_same (codes "name") short_meant short_meant short_same ms) (header_name_same form must)

    header_form_same : (form : Form) (ms : Members) → header_form other form (rewritten_members f ms) ≡ header_form reads form ms
    header_form_same form ms =
        and_take_same (take (codes "must") flag_meant (rewritten_members f ms)) (take (codes "must") flag_meant ms) (header_must other form) (header_must reads form)
        (take_same (codes "must") flag_meant flag_meant (flag_same f) ms) (header_must_same form)

    header_same : (ms : Members) → header_members other (rewritten_members f ms) ≡ header_members reads ms
    header_same ms = and_take_same (take (codes "form") form_meant (rewritten_members f ms)) (take (codes "form") form_meant ms) (header_form other) (header_form reads) (take_same (codes "form") form_meant form_meant form_same ms) header_form_same

    message_root_same : (form : Form) (table : Named) (response : List ℕ) (root : Tree) (ms : Members) → message_root other form table response root (rewritten_members f ms) ≡ message_root reads form table response root ms
    message_root_same form table response root ms =
        and_take_same (take (codes "target") short_meant (rewritten_members f ms)) (take (codes "target") short_meant ms)
        (λ target more. if_last more (Some (with_response table response target form root))) (λ target more. if_last more (Some (with_response table response target form root)))
        (take_same (codes "target") short_meant short_meant short_same ms) (λ target. last (with_response table response target form root))

    message_response_same : (form : Form) (table : Named) (response : List ℕ) (ms : Members) → message_response other form table response (rewritten_members f ms) ≡ message_response reads form table response ms
    message_response_same form table response ms =
        and_take_same (take (codes "root") (meant other) (rewritten_members f ms)) (take (codes "root") (meant reads) ms) (message_root other form table response) (message_root reads form table response)
        (take_same (codes "root") (meant other) (meant reads) value_same ms) (message_root_same form table response)

    message_table_same : (form : Form) (table : Named) (ms : Members) → message_table other form table (rewritten_members f ms) ≡ message_table reads form table ms
    message_table_same form table ms =
        and_take_same (take (codes "response") short_meant (rewritten_members f ms)) (take (codes "response") short_meant ms) (message_response other form table) (message_response reads form table)
        (take_same (codes "response") short_meant short_meant short_same ms) (message_response_same form table)

    message_form_same : (form : Form) (ms : Members) → message_form other form (rewritten_members f ms) ≡ message_form reads form ms
    message_form_same form ms = and_take_same (take_table other (rewritten_members f ms)) (take_table reads ms) (message_table other form) (message_table reads form) (table_same ms) (message_table_same form)

    message_same : (ms : Members) → message_members other (rewritten_members f ms) ≡ message_members reads ms
    message_same ms = and_take_same (take (codes "form") form_meant (rewritten_members f ms)) (take (codes "form") form_meant ms) (message_form other) (message_form reads) (take_same (codes "form") form_meant form_meant form_same ms) message_form_same

    packet_version_same : (j : Json) → packet_version_of other (rewritten f j) ≡ packet_version_of reads j
    packet_version_same j = ap (option_and_then packet_version) (whole_same f reads other same j)

    packet_messages_same : (headers : List (Header Part)) (messages : List (Message Part)) (ms : Members) → packet_messages other headers messages (rewritten_members f ms) ≡ packet_messages reads headers messages ms
    packet_messages_same headers messages ms =
        and_take_same (take (codes "version") (packet_version_of other) (rewritten_members f ms)) (take (codes "version") (packet_version_of reads) ms)
        (λ version more. if_last more (Some (packet version headers messages))) (λ version more. if_last more (Some (packet version headers messages)))
        (take_same (codes "version") (packet_version_of other) (packet_version_of reads) packet_version_same ms) (λ version. last (packet version headers messages))

    packet_headers_same : (headers : List (Header Part)) (ms : Members) → packet_headers other headers (rewritten_members f ms) ≡ packet_headers reads headers ms
    packet_headers_same headers ms =
        and_take_same (take (codes "messages") (few_meant (message_members other)) (rewritten_members f ms)) (take (codes "messages") (few_meant (message_members reads)) ms) (packet_messages other headers) (packet_messages reads headers)
        (take_same (codes "messages") (few_meant (message_members other)) (few_meant (message_members reads)) (few_same (message_members other) (message_members reads) message_same) ms) (packet_messages_same headers)

    packet_same : (ms : Members) → packet_meant other (rewritten_members f ms) ≡ packet_meant reads ms
    packet_same ms =
        and_take_same (take (codes "headers") (few_meant (header_members other)) (rewritten_members f ms)) (take (codes "headers") (few_meant (header_members reads)) ms) (packet_headers other) (packet_headers reads)
        (take_same (codes "headers") (few_meant (header_members other)) (few_meant (header_members reads)) (few_same (header_members other) (header_members reads) header_same) ms) packet_headers_same

    -- Documents.

    forms_same : (s : List ℕ) (ms : Members) → form_members other s (rewritten_members f ms) ≡ form_members reads s ms
    forms_same s ms =
        ap₂ (λ (v : Option Part) (r : Option (Document Part)). if bytes_eq s (codes "amf0") then option_map value0 v else (if bytes_eq s (codes "amf3") then option_map value3 v else r)) (value_part_same ms)
        (ap₂ (λ (p q : Option (Document Part)). if bytes_eq s (codes "packet") then p else (if bytes_eq s (codes "sol") then q else None)) (packet_same ms) (file_same ms))

    members_same : (ms : Members) → document_members other (rewritten_members f ms) ≡ document_members reads ms
    members_same no_members = refl
    members_same (member k json.null ms) = refl
    members_same (member k (json.boolean b) ms) = refl
    members_same (member k (json.number s) ms) = refl
    members_same (member k (json.string s) ms) = ap (λ o. if bytes_eq k (codes "amf") then o else None) (forms_same s ms)
    members_same (member k (json.array js) ms) = refl
    members_same (member k (json.object ns) ms) = refl

    pub document_same : (j : Json) → document_meant other (rewritten f j) ≡ document_meant reads j
    document_same j = of_members_same (document_members other) (document_members reads) members_same j
