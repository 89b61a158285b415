-- What is asked for means something, where it does so of fewer tokens: scalars, lists, members.
use Rattle.std.proofs.Common.{◌≡◌, ℕ, ◌+◌, ◌<◌, ◌≤◌, ◌⊎◌, Bool, true, false, if◌then◌else◌, List, [], ◌∷◌, ◌++◌, length, Option, Some, None, refl, sym, ap, ap₂, ◌∙◌, subst, inl, inr, append_assoc, length-append, arith}
use Rattle.std.specs.Prelude.{option_map, option_and_then, is_some, codes, bytes_eq, not, ◌&&◌}
use Rattle.std.proofs.lemmas.Option.{same_Some}
use Rattle.std.proofs.lemmas.Slice.Eq.{bytes_eq-Decides}
use Rattle.json.specs.Token.{Token, begin_object, end_object, begin_array, end_array, key, string, number, boolean, null, bad}
use Rattle.json.specs.Json.{Json, no_items, no_members, item, member, Items, Members}
use Rattle.json.specs.Json as json
use Rattle.json.specs.Tree.{json_tokens, members_tokens, HasNumbers}
use Rattle.json.specs.Print.{IsPrintable, ArePrintable}
use Rattle.amf_wire.specs.Text.{is_text}
use Rattle.amf_graph.specs.Graph as graph
use Rattle.amf_text.specs.Tags.{Tag, tag_of}
use Rattle.amf_text.specs.Tags as tag
use Rattle.amf_text.specs.Scalars.{Reads}
use Rattle.amf_text.specs.Told.{stands_in, is_rising}
use Rattle.amf_text.specs.Meant.{Tree, called, said, no_trees, tree, Named, named, no_named, keys_of, unhex, if_text, bytes_meant, word_meant, pattern_meant, whole_meant, fits_int, fits_uint, each, entry, are_those, without, if_true, rising_body, object_body, is_body, meant, items_meant, entries_meant, pairs_meant, plain_meant, keys_meant}
use Rattle.amf_text.specs.Linked.{is_table, are_rows}
use Rattle.amf_text.specs.Accepted.{is_short, form_of, form_meant, file_version, packet_version}
use Rattle.amf_text.specs.Asks as ask
use Rattle.amf_text.specs.Asks.{Goal, step, left_after, if_it}
use Rattle.amf_text.proofs.Goals.{no_answer, and_then_is, Done, first_step, parted}
use Rattle.amf_text.proofs.Asked.{true_is}
use Rattle.amf_text.proofs.Complete.{Rises}
use Rattle.amf_text.proofs.CompleteMembers.{plain_by}
use Rattle.amf_text.proofs.Meets.{Meets, OfJson, hex_text, short_hex_text, int_of, uint_of}

printable_parts : (a b : List Token) → ArePrintable (a ++ b) → ArePrintable a × ArePrintable b
unfolding ArePrintable
printable_parts [] b p = (tt, p)
printable_parts (t ∷ a) b p = let q = printable_parts a b p.1 in ((p.0, q.0), q.1)

pub if_it_is : (b : Bool) (gs hs : List Goal) → if_it b gs ≡ Some hs → (b ≡ true) × (gs ≡ hs)
if_it_is true gs hs e = (refl, same_Some gs hs e)
if_it_is false gs hs e = no_answer hs e

pub some_of : {X : Type 0} (o : Option X) → is_some o ≡ true → (x : X) × (o ≡ Some x)
some_of (Some x) e = (x, refl)
some_of None e = let h : false ≡ true = e in cc

more_is : (many : Goal) (o : Option (List Goal)) (gs : List Goal) → ask.then_more many o ≡ Some gs → (hs : List Goal) × (o ≡ Some hs) × (hs ++ many ∷ [] ≡ gs)
more_is many None gs e = no_answer gs e
more_is many (Some hs) gs e = (hs, refl, same_Some (hs ++ many ∷ []) gs e)

name_is : (t : Tag) → ask.is_name t ≡ true → t ≡ tag.name
name_is tag.name e = refl
name_is _ e = cc

short_hex_is : (o : Option (List ℕ)) (y : List ℕ) → option_and_then (λ x. if is_text x then (if is_short x then Some x else None) else None) o ≡ Some y → option_and_then (if_true is_short) (option_and_then if_text o) ≡ Some y
short_hex_is None y e = no_answer y e
short_hex_is (Some x) y e = go (is_text x) e
  where
    go : (b : Bool) → (if b then (if is_short x then Some x else None) else None) ≡ Some y → option_and_then (if_true is_short) (if b then Some x else None) ≡ Some y
    go true e = e
    go false e = no_answer y e

module _ (reads : Reads) where
  pub not_empty : (g : Goal) (ts : List Token) → Done reads (g ∷ []) ts → 0 < length ts
  not_empty g [] d = no_goal (same_Some (g ∷ []) [] d)
    where
      no_goal : {Z : Type 0} → g ∷ [] ≡ [] → Z
      no_goal e = cc
  not_empty g (t ∷ ts) d = omega arith

  pub nothing_more : (ts : List Token) → Done reads [] ts → ts ≡ []
  nothing_more [] d = refl
  nothing_more (t ∷ ts) d = no_answer [] d

  -- the goals that are left are those
  pub left_is : (hs gs : List Goal) (rest : List Token) → Some hs ≡ Some gs → Done reads gs rest → Done reads hs rest
  left_is hs gs rest e d = subst (λ l. Done reads l rest) (sym (same_Some hs gs e)) d

  pub alone : (gs : List Goal) (rest : List Token) → [] ≡ gs → Done reads gs rest → rest ≡ []
  alone gs rest e d = nothing_more rest (subst (λ l. Done reads l rest) (sym e) d)

  one_number : {X : Type 0} (f : Json → Option X) (b : Bool) (s : List ℕ) (rest : List Token) (gs : List Goal) → if_it b [] ≡ Some gs → Done reads gs rest → IsPrintable (number s)
      → (b ≡ true → (x : X) × (f (json.number s) ≡ Some x)) → OfJson f (number s ∷ rest)
  one_number f b s rest gs e d p back =
      let i = if_it_is b [] gs e in
      let r = back i.0 in
      (json.number s, r.0, ap (λ l. number s ∷ l) (alone gs rest i.1 d), p, r.1)

  one_string : {X : Type 0} (f : Json → Option X) (b : Bool) (s : List ℕ) (rest : List Token) (gs : List Goal) → if_it b [] ≡ Some gs → Done reads gs rest
      → (b ≡ true → (x : X) × (f (json.string s) ≡ Some x)) → OfJson f (string s ∷ rest)
  one_string f b s rest gs e d back =
      let i = if_it_is b [] gs e in
      let r = back i.0 in
      (json.string s, r.0, ap (λ l. string s ∷ l) (alone gs rest i.1 d), tt, r.1)

  pub no_members_is : (gs : List Goal) (rest : List Token) → Some [] ≡ Some gs → Done reads gs rest → end_object ∷ rest ≡ members_tokens no_members
  no_members_is gs rest e d = ap (λ a. end_object ∷ a) (nothing_more rest (left_is [] gs rest e d))

  module _ (n : ℕ) where
    abbrev pub Below : Type 0
    Below = (g : Goal) (ts : List Token) → length ts ≤ n → ArePrintable ts → Done reads (g ∷ []) ts → Meets reads g ts

    -- the tokens of the first goal, and the rest
    pub record Cut (g : Goal) (gs : List Goal) (ts : List Token) : Type 0 where
      pub front : List Token
      pub back : List Token
      pub is : ts ≡ front ++ back
      pub meets : Meets reads g front
      pub done : Done reads gs back
      pub short : length back ≤ n
      pub printable : ArePrintable back

    -- a goal and its first token
    abbrev pub Sound : Goal → Type 0
    Sound g = (t : Token) (rest : List Token) (gs : List Goal) → step reads g t ≡ Some gs → Done reads gs rest → length rest ≤ n → IsPrintable t → ArePrintable rest → Meets reads g (t ∷ rest)

  module _ (n : ℕ) (below : Below n) where
    pub cut : (g : Goal) (gs : List Goal) (ts : List Token) → length ts ≤ n → ArePrintable ts → Done reads (g ∷ gs) ts → Cut n g gs ts
    cut g gs ts l p d =
        let c = parted reads (g ∷ []) gs ts d in
        let long : length ts ≡ length c.0 + length c.1 = ap length c.2 ∙ length-append c.0 c.1 in
        let q = printable_parts c.0 c.1 (subst ArePrintable c.2 p) in
        record {
          front = c.0;
          back = c.1;
          is = c.2;
          meets = below g c.0 (omega (arith, long, l)) q.0 c.3;
          done = c.4;
          short = omega (arith, long, l);
          printable = q.1;
        }

    -- a key and its value behind another value, and the end of the object
    pub record Second (word : List ℕ) (g : Goal) (back : List Token) : Type 0 where
      pub value : List Token
      pub is : back ≡ key word ∷ (value ++ end_object ∷ [])
      pub meets : Meets reads g value

    pub second_in : (word : List ℕ) (g : Goal) (rest : List Token) → length rest ≤ n → ArePrintable rest → Done reads (ask.key_is word ∷ g ∷ ask.close ∷ []) rest → Second word g rest
    second_in word g rest l p d =
        let a = cut (ask.key_is word) (g ∷ ask.close ∷ []) rest l p d in
        let b = cut g (ask.close ∷ []) a.back a.short a.printable a.done in
        let e = below ask.close b.back b.short b.printable b.done in
        record { value = b.front; is = a.is ∙ ap (λ x. x ++ a.back) a.meets ∙ ap (λ x. key word ∷ x) (b.is ∙ ap (λ x. b.front ++ x) e); meets = b.meets }

    pub pattern_sound : Sound n ask.pattern
    unfolding step
    pattern_sound (number s) rest gs e d l p q = one_number (pattern_meant reads) (is_some (reads s)) s rest gs e d p (some_of (reads s))
    pattern_sound (string s) rest gs e d l p q = one_string (pattern_meant reads) (is_some (word_meant s)) s rest gs e d (some_of (word_meant s))
    pattern_sound _ rest gs e d l p q = no_answer gs e

    pub flag_sound : Sound n ask.flag
    unfolding step
    flag_sound (boolean b) rest gs e d l p q = (json.boolean b, b, ap (λ a. boolean b ∷ a) (nothing_more rest (left_is [] gs rest e d)), tt, refl)
    flag_sound _ rest gs e d l p q = no_answer gs e

    pub truth_sound : Sound n ask.truth
    unfolding step
    truth_sound (boolean true) rest gs e d l p q = (json.boolean true, said graph.undefined, ap (λ a. boolean true ∷ a) (nothing_more rest (left_is [] gs rest e d)), tt, refl)
    truth_sound _ rest gs e d l p q = no_answer gs e

    pub label_sound : Sound n ask.label
    unfolding step
    label_sound (string s) rest gs e d l p q = (json.string s, called s, ap (λ a. string s ∷ a) (nothing_more rest (left_is [] gs rest e d)), tt, refl)
    label_sound _ rest gs e d l p q = no_answer gs e

    pub hex_sound : Sound n ask.hex
    unfolding step
    hex_sound (string s) rest gs e d l p q = one_string bytes_meant (is_some (unhex s)) s rest gs e d (some_of (unhex s))
    hex_sound _ rest gs e d l p q = no_answer gs e

    pub text_hex_sound : Sound n ask.text_hex
    unfolding step
    text_hex_sound (string s) rest gs e d l p q = one_string hex_text (ask.is_text_hex s) s rest gs e d (some_of (option_and_then if_text (unhex s)))
    text_hex_sound _ rest gs e d l p q = no_answer gs e

    pub form_word_sound : Sound n ask.form_word
    unfolding step
    form_word_sound (string s) rest gs e d l p q = one_string form_meant (is_some (form_of s)) s rest gs e d (some_of (form_of s))
    form_word_sound _ rest gs e d l p q = no_answer gs e

    pub close_sound : Sound n ask.close
    unfolding step
    close_sound end_object rest gs e d l p q = ap (λ a. end_object ∷ a) (nothing_more rest (left_is [] gs rest e d))
    close_sound _ rest gs e d l p q = no_answer gs e

    pub end_list_sound : Sound n ask.end_list
    unfolding step
    end_list_sound end_array rest gs e d l p q = ap (λ a. end_array ∷ a) (nothing_more rest (left_is [] gs rest e d))
    end_list_sound _ rest gs e d l p q = no_answer gs e

    pub key_is_sound : (k : List ℕ) → Sound n (ask.key_is k)
    unfolding step
    key_is_sound k (key s) rest gs e d l p q =
        let i = if_it_is (bytes_eq s k) [] gs e in
        ap₂ (λ a b. key a ∷ b) ((bytes_eq-Decides s k).0 i.0) (alone gs rest i.1 d)
    key_is_sound k _ rest gs e d l p q = no_answer gs e

    -- A bracket, and what stands in it.

    pub list_sound : Sound n ask.list
    unfolding step meant
    list_sound begin_array rest gs e d l p q = let i = below ask.items rest l q (left_is (ask.items ∷ []) gs rest e d) in (json.array i.0, i.1, ap (λ a. begin_array ∷ a) i.2, i.3, i.4)
    list_sound _ rest gs e d l p q = no_answer gs e

    pub entries_list_sound : Sound n ask.entries_list
    unfolding step meant
    entries_list_sound begin_array rest gs e d l p q = let i = below ask.entries rest l q (left_is (ask.entries ∷ []) gs rest e d) in (json.array i.0, i.1, ap (λ a. begin_array ∷ a) i.2, i.3, i.4)
    entries_list_sound _ rest gs e d l p q = no_answer gs e

    pub pattern_list_sound : Sound n ask.pattern_list
    unfolding step
    pattern_list_sound begin_array rest gs e d l p q = let i = below ask.patterns rest l q (left_is (ask.patterns ∷ []) gs rest e d) in (json.array i.0, i.1, ap (λ a. begin_array ∷ a) i.2, i.3, i.4)
    pattern_list_sound _ rest gs e d l p q = no_answer gs e

    pub int_list_sound : Sound n ask.int_list
    unfolding step
    int_list_sound begin_array rest gs e d l p q = let i = below ask.ints rest l q (left_is (ask.ints ∷ []) gs rest e d) in (json.array i.0, i.1, ap (λ a. begin_array ∷ a) i.2, i.3, i.4)
    int_list_sound _ rest gs e d l p q = no_answer gs e

    pub uint_list_sound : Sound n ask.uint_list
    unfolding step
    uint_list_sound begin_array rest gs e d l p q = let i = below ask.uints rest l q (left_is (ask.uints ∷ []) gs rest e d) in (json.array i.0, i.1, ap (λ a. begin_array ∷ a) i.2, i.3, i.4)
    uint_list_sound _ rest gs e d l p q = no_answer gs e

    pub members_sound : Sound n ask.members
    unfolding step meant
    members_sound begin_object rest gs e d l p q = let i = below ask.keys rest l q (left_is (ask.keys ∷ []) gs rest e d) in (json.object i.0, i.1, ap (λ a. begin_object ∷ a) i.2, i.3, i.4)
    members_sound begin_array rest gs e d l p q = let i = below ask.pairs rest l q (left_is (ask.pairs ∷ []) gs rest e d) in (json.array i.0, i.1, ap (λ a. begin_array ∷ a) i.2, i.3, i.4)
    members_sound _ rest gs e d l p q = no_answer gs e

    pub value_sound : Sound n ask.value
    unfolding step meant
    value_sound begin_object rest gs e d l p q = let i = below ask.object rest l q (left_is (ask.object ∷ []) gs rest e d) in (json.object i.0, i.1, ap (λ a. begin_object ∷ a) i.2, i.3, i.4)
    value_sound begin_array rest gs e d l p q = let i = below ask.items rest l q (left_is (ask.items ∷ []) gs rest e d) in (json.array i.0, _, ap (λ a. begin_array ∷ a) i.2, i.3, ap (option_map _) i.4)
    value_sound (string s) rest gs e d l p q = (json.string s, said (graph.text s), ap (λ a. string s ∷ a) (nothing_more rest (left_is [] gs rest e d)), tt, refl)
    value_sound (number s) rest gs e d l p q = one_number (meant reads) (is_some (reads s)) s rest gs e d p (λ t. let r = some_of (reads s) t in (_, ap (option_map _) r.1))
    value_sound (boolean b) rest gs e d l p q = (json.boolean b, said (graph.boolean b), ap (λ a. boolean b ∷ a) (nothing_more rest (left_is [] gs rest e d)), tt, refl)
    value_sound null rest gs e d l p q = (json.null, said graph.null, ap (λ a. null ∷ a) (nothing_more rest (left_is [] gs rest e d)), tt, refl)
    value_sound _ rest gs e d l p q = no_answer gs e

    -- Items: the first token of a value, or the end.

    or_first : (many : Goal) (t : Token) (o : Option (List Goal)) (gs : List Goal) → ask.or_end t (ask.then_more many o) ≡ Some gs → ((t ≡ end_array) × ([] ≡ gs)) ⊎ ((hs : List Goal) × (o ≡ Some hs) × (hs ++ many ∷ [] ≡ gs))
    or_first many end_array o gs e = inl (refl, same_Some [] gs e)
    or_first many begin_object o gs e = inr (more_is many o gs e)
    or_first many end_object o gs e = inr (more_is many o gs e)
    or_first many begin_array o gs e = inr (more_is many o gs e)
    or_first many (key s) o gs e = inr (more_is many o gs e)
    or_first many (string s) o gs e = inr (more_is many o gs e)
    or_first many (number s) o gs e = inr (more_is many o gs e)
    or_first many (boolean b) o gs e = inr (more_is many o gs e)
    or_first many null o gs e = inr (more_is many o gs e)
    or_first many bad o gs e = inr (more_is many o gs e)

    -- one, and then more
    pub record Split (many one : Goal) (t : Token) (rest : List Token) : Type 0 where
      pub front : List Token
      pub back : List Token
      pub is : rest ≡ front ++ back
      pub one_meets : Meets reads one (t ∷ front)
      pub many_meets : Meets reads many back

    split : (many one : Goal) (t : Token) (hs gs : List Goal) (rest : List Token) → step reads one t ≡ Some hs → hs ++ many ∷ [] ≡ gs → Done reads gs rest → length rest ≤ n → IsPrintable t → ArePrintable rest → Split many one t rest
    unfolding ArePrintable
    split many one t hs gs rest s e d l p q =
        let c = parted reads hs (many ∷ []) rest (subst (λ l. Done reads l rest) (sym e) d) in
        let long : length rest ≡ length c.0 + length c.1 = ap length c.2 ∙ length-append c.0 c.1 in
        let r = printable_parts c.0 c.1 (subst ArePrintable c.2 q) in
        let some = not_empty many c.1 c.4 in
        record {
          front = c.0;
          back = c.1;
          is = c.2;
          one_meets = below one (t ∷ c.0) (omega (arith, long, l, some)) (p, r.0) (first_step reads one t hs c.0 s c.3);
          many_meets = below many c.1 (omega (arith, long, l)) r.1 c.4;
        }

    pub items_sound : Sound n ask.items
    unfolding step meant
    items_sound t rest gs e d l p q = elim (or_first ask.items t (ask.value_step reads t) gs e) [
      | inl h ↦ (no_items, no_trees, ap₂ (λ a b. a ∷ b) h.0 (alone gs rest h.1 d), tt, refl)
      | inr h ↦
          let s = split ask.items ask.value t h.0 gs rest h.1 h.2 d l p q in
          let v = s.one_meets in
          let m = s.many_meets in
          (item v.0 m.0, tree v.1 m.1, ap (λ a. t ∷ a) s.is ∙ ap₂ (λ a b. a ++ b) v.2 m.2, (v.3, m.3), ap (option_and_then (λ x. option_map (tree x) (items_meant reads m.0))) v.4 ∙ ap (option_map (tree v.1)) m.4)
    ]

    pub patterns_sound : Sound n ask.patterns
    unfolding step
    patterns_sound t rest gs e d l p q = elim (or_first ask.patterns t (ask.pattern_step reads t) gs e) [
      | inl h ↦ (no_items, [], ap₂ (λ a b. a ∷ b) h.0 (alone gs rest h.1 d), tt, refl)
      | inr h ↦
          let s = split ask.patterns ask.pattern t h.0 gs rest h.1 h.2 d l p q in
          let v = s.one_meets in
          let m = s.many_meets in
          (item v.0 m.0, v.1 ∷ m.1, ap (λ a. t ∷ a) s.is ∙ ap₂ (λ a b. a ++ b) v.2 m.2, (v.3, m.3), ap (option_and_then (λ x. option_map (λ xs. x ∷ xs) (each (pattern_meant reads) m.0))) v.4 ∙ ap (option_map (λ xs. v.1 ∷ xs)) m.4)
    ]

    -- Keys, each with its value, up to the end of the object.

    -- the value behind a key, and the rest
    pub record Member (g : Goal) (rest : List Token) : Type 0 where
      pub json : Json
      pub tree : Tree
      pub back : List Token
      pub is : rest ≡ json_tokens json ++ back
      pub numbers : HasNumbers json
      pub meant_is : meant reads json ≡ Some tree
      pub meets : Meets reads g back

    pub value_then : (g : Goal) (rest : List Token) → length rest ≤ n → ArePrintable rest → Done reads (ask.value ∷ g ∷ []) rest → Member g rest
    value_then g rest l p d =
        let c = cut ask.value (g ∷ []) rest l p d in
        let v = c.meets in
        record {
          json = v.0;
          tree = v.1;
          back = c.back;
          is = c.is ∙ ap (λ a. a ++ c.back) v.2;
          numbers = v.3;
          meant_is = v.4;
          meets = below g c.back c.short c.printable c.done;
        }

    keys_is : (k : List ℕ) (j : Json) (ms : Members) (t : Tree) (ts : Named) → meant reads j ≡ Some t → keys_meant reads ms ≡ Some ts → keys_meant reads (member k j ms) ≡ Some (named k t ts)
    unfolding meant
    keys_is k j ms t ts e f = ap (option_and_then (λ x. option_map (named k x) (keys_meant reads ms))) e ∙ ap (option_map (named k t)) f

    pub member_is : (k : List ℕ) (j : Json) (ms : Members) (rest back : List Token) → rest ≡ json_tokens j ++ back → back ≡ members_tokens ms → key k ∷ rest ≡ members_tokens (member k j ms)
    member_is k j ms rest back e f = ap (λ a. key k ∷ a) (e ∙ ap (λ a. json_tokens j ++ a) f)

    pub keys_sound : Sound n ask.keys
    unfolding step meant
    keys_sound end_object rest gs e d l p q = (no_members, no_named, no_members_is gs rest e d, tt, refl)
    keys_sound (key k) rest gs e d l p q =
        let m = value_then ask.keys rest l q (left_is (ask.value ∷ ask.keys ∷ []) gs rest e d) in
        let r = m.meets in
        (member k m.json r.0, named k m.tree r.1, member_is k m.json r.0 rest m.back m.is r.2, (m.numbers, r.3), keys_is k m.json r.0 m.tree r.1 m.meant_is r.4)
    keys_sound _ rest gs e d l p q = no_answer gs e

    rises_more : (last : Option (List ℕ)) (k : List ℕ) (ks : List (List ℕ)) → ask.rises last k ≡ true → Rises reads (Some k) ks → Rises reads last (k ∷ ks)
    rises_more None k ks t r = r
    rises_more (Some x) k ks t r = ap (λ b. b && is_rising (k ∷ ks)) t ∙ r

    none_rise : (last : Option (List ℕ)) → Rises reads last []
    none_rise None = refl
    none_rise (Some x) = refl

    pub rising_sound : (last : Option (List ℕ)) → Sound n (ask.rising last)
    unfolding step meant
    rising_sound last end_object rest gs e d l p q = (no_members, no_named, no_members_is gs rest e d, tt, refl, none_rise last)
    rising_sound last (key k) rest gs e d l p q =
        let i = if_it_is (ask.rises last k) (ask.value ∷ ask.rising (Some k) ∷ []) gs e in
        let m = value_then (ask.rising (Some k)) rest l q (subst (λ x. Done reads x rest) (sym i.1) d) in
        let r = m.meets in
        (member k m.json r.0, named k m.tree r.1, member_is k m.json r.0 rest m.back m.is r.2, (m.numbers, r.3), keys_is k m.json r.0 m.tree r.1 m.meant_is r.4, rises_more last k (keys_of r.1) i.0 r.5)
    rising_sound last _ rest gs e d l p q = no_answer gs e

    pub left_sound : (names : List (List ℕ)) → Sound n (ask.left names)
    unfolding step meant
    left_sound [] end_object rest gs e d l p q = (no_members, no_named, no_members_is gs rest e d, tt, refl, refl)
    left_sound [] _ rest gs e d l p q = no_answer gs e
    left_sound (x ∷ xs) (key k) rest gs e d l p q =
        let i = if_it_is (stands_in (x ∷ xs) k) (ask.value ∷ ask.left (without k (x ∷ xs)) ∷ []) gs e in
        let m = value_then (ask.left (without k (x ∷ xs))) rest l q (subst (λ x. Done reads x rest) (sym i.1) d) in
        let r = m.meets in (
          member k m.json r.0,
          named k m.tree r.1,
          member_is k m.json r.0 rest m.back m.is r.2,
          (m.numbers, r.3),
          keys_is k m.json r.0 m.tree r.1 m.meant_is r.4,
          ap (λ b. b && are_those (without k (x ∷ xs)) (keys_of r.1)) i.0 ∙ r.5,
        )
    left_sound (x ∷ xs) _ rest gs e d l p q = no_answer gs e

    pub row_keys_sound : (seen : List (List ℕ)) → Sound n (ask.row_keys seen)
    unfolding step meant
    row_keys_sound seen end_object rest gs e d l p q = (no_members, no_named, no_members_is gs rest e d, tt, refl, refl)
    row_keys_sound seen (key k) rest gs e d l p q =
        let i = if_it_is (not (stands_in seen k)) (ask.node ∷ ask.row_keys (k ∷ seen) ∷ []) gs e in
        let c = cut ask.node (ask.row_keys (k ∷ seen) ∷ []) rest l q (subst (λ x. Done reads x rest) (sym i.1) d) in
        let v = c.meets in
        let b = and_then_is (if_true is_body) (meant reads v.0) v.1 v.4 in
        let t = true_is is_body b.0 v.1 b.2 in
        let m = below (ask.row_keys (k ∷ seen)) c.back c.short c.printable c.done in (
          member k v.0 m.0,
          named k b.0 m.1,
          member_is k v.0 m.0 rest c.back (c.is ∙ ap (λ a. a ++ c.back) v.2) m.2,
          (v.3, m.3),
          keys_is k v.0 m.0 b.0 m.1 b.1 m.4,
          ap₂ (λ x y. x && (y && are_rows (k ∷ seen) m.1)) t.0 i.0 ∙ m.5,
        )
    row_keys_sound seen _ rest gs e d l p q = no_answer gs e

    pub rows_sound : Sound n ask.rows
    unfolding step meant
    rows_sound begin_object rest gs e d l p q =
        let i = below (ask.row_keys []) rest l q (left_is (ask.row_keys [] ∷ []) gs rest e d) in
        (json.object i.0, i.1, ap (λ a. begin_object ∷ a) i.2, i.3, ap (option_and_then (if_true is_table)) i.4 ∙ ap (λ b. if b then Some i.1 else None) i.5)
    rows_sound _ rest gs e d l p q = no_answer gs e

    pub those_sound : (names : List (List ℕ)) → Sound n (ask.those names)
    unfolding step
    those_sound names begin_object rest gs e d l p q =
        let i = below (ask.left names) rest l q (left_is (ask.left names ∷ []) gs rest e d) in
        (i.0, i.1, ap (λ a. begin_object ∷ a) i.2, i.3, i.4, i.5)
    those_sound names _ rest gs e d l p q = no_answer gs e

    pub sealed_sound : Sound n ask.sealed
    unfolding step meant
    sealed_sound begin_object rest gs e d l p q =
        let i = below (ask.rising None) rest l q (left_is (ask.rising None ∷ []) gs rest e d) in
        λ o. (json.object i.0, object_body o i.1, ap (λ a. begin_object ∷ a) i.2, i.3, ap (option_and_then (rising_body o)) i.4 ∙ ap (λ b. if b then Some (object_body o i.1) else None) i.5)
    sealed_sound begin_array rest gs e d l p q =
        let i = below ask.pairs rest l q (left_is (ask.pairs ∷ []) gs rest e d) in
        λ o. (json.array i.0, object_body o i.1, ap (λ a. begin_array ∷ a) i.2, i.3, ap (option_map (object_body o)) i.4)
    sealed_sound _ rest gs e d l p q = no_answer gs e

    pub plain_sound : Sound n ask.plain
    unfolding step meant plain_by
    plain_sound end_object rest gs e d l p q = (no_members, no_named, no_members_is gs rest e d, tt, refl)
    plain_sound (key k) rest gs e d l p q =
        let i = if_it_is (ask.is_name (tag_of k)) (ask.value ∷ ask.plain ∷ []) gs e in
        let m = value_then ask.plain rest l q (subst (λ x. Done reads x rest) (sym i.1) d) in
        let r = m.meets in
        let t = name_is (tag_of k) i.0 in (
          member k m.json r.0,
          named k m.tree r.1,
          member_is k m.json r.0 rest m.back m.is r.2,
          (m.numbers, r.3),
          ap (plain_by reads k m.json r.0) t ∙ ap (option_and_then (λ x. option_map (named k x) (plain_meant reads r.0))) m.meant_is ∙ ap (option_map (named k m.tree)) r.4,
        )
    plain_sound _ rest gs e d l p q = no_answer gs e

    -- two values in brackets, and then more

    pub record Twins (g h more : Goal) (rest : List Token) : Type 0 where
      pub first : List Token
      pub second : List Token
      pub back : List Token
      pub is : rest ≡ (first ++ (second ++ end_array ∷ [])) ++ back
      pub first_meets : Meets reads g first
      pub second_meets : Meets reads h second
      pub more_meets : Meets reads more back

    twins_in : (g h more : Goal) (rest : List Token) → length rest ≤ n → ArePrintable rest → Done reads (g ∷ h ∷ ask.end_list ∷ more ∷ []) rest → Twins g h more rest
    twins_in g h more rest l p d =
        let a = cut g (h ∷ ask.end_list ∷ more ∷ []) rest l p d in
        let b = cut h (ask.end_list ∷ more ∷ []) a.back a.short a.printable a.done in
        let c = cut ask.end_list (more ∷ []) b.back b.short b.printable b.done in
        record {
          first = a.front;
          second = b.front;
          back = c.back;
          is = a.is ∙ ap (λ x. a.front ++ x) (b.is ∙ ap (λ x. b.front ++ x) (c.is ∙ ap (λ x. x ++ c.back) c.meets))
              ∙ sym (append_assoc a.front (b.front ++ end_array ∷ []) c.back ∙ ap (λ x. a.front ++ x) (append_assoc b.front (end_array ∷ []) c.back));
          first_meets = a.meets;
          second_meets = b.meets;
          more_meets = below more c.back c.short c.printable c.done;
        }

    pub entries_sound : Sound n ask.entries
    unfolding step meant
    entries_sound end_array rest gs e d l p q = (no_items, no_trees, ap (λ a. end_array ∷ a) (nothing_more rest (left_is [] gs rest e d)), tt, refl)
    entries_sound begin_array rest gs e d l p q =
        let t = twins_in ask.value ask.value ask.entries rest l q (left_is (ask.value ∷ ask.value ∷ ask.end_list ∷ ask.entries ∷ []) gs rest e d) in
        let k = t.first_meets in
        let v = t.second_meets in
        let m = t.more_meets in (
          item (json.array (item k.0 (item v.0 no_items))) m.0,
          entry k.1 v.1 m.1,
          ap (λ a. begin_array ∷ a) (t.is ∙ ap₂ (λ x y. (x ++ (y ++ end_array ∷ [])) ++ t.back) k.2 v.2 ∙ ap (λ z. (json_tokens k.0 ++ (json_tokens v.0 ++ end_array ∷ [])) ++ z) m.2),
          ((k.3, (v.3, tt)), m.3),
          ap (option_and_then (λ a. option_and_then (λ b. option_map (entry a b) (entries_meant reads m.0)) (meant reads v.0))) k.4 ∙ ap (option_and_then (λ b. option_map (entry k.1 b) (entries_meant reads m.0))) v.4 ∙ ap (option_map (entry k.1 v.1)) m.4,
        )
    entries_sound _ rest gs e d l p q = no_answer gs e

    pub pairs_sound : Sound n ask.pairs
    unfolding step meant
    pairs_sound end_array rest gs e d l p q = (no_items, no_named, ap (λ a. end_array ∷ a) (nothing_more rest (left_is [] gs rest e d)), tt, refl)
    pairs_sound begin_array rest gs e d l p q =
        let t = twins_in ask.text ask.value ask.pairs rest l q (left_is (ask.text ∷ ask.value ∷ ask.end_list ∷ ask.pairs ∷ []) gs rest e d) in
        let k = t.first_meets in
        let v = t.second_meets in
        let m = t.more_meets in (
          item (json.array (item k.0 (item v.0 no_items))) m.0,
          named k.1 v.1 m.1,
          ap (λ a. begin_array ∷ a) (t.is ∙ ap₂ (λ x y. (x ++ (y ++ end_array ∷ [])) ++ t.back) k.2 v.2 ∙ ap (λ z. (json_tokens k.0 ++ (json_tokens v.0 ++ end_array ∷ [])) ++ z) m.2),
          ((k.3, (v.3, tt)), m.3),
          ap (option_and_then (λ a. option_and_then (λ b. option_map (named a b) (pairs_meant reads m.0)) (meant reads v.0))) k.4 ∙ ap (option_and_then (λ b. option_map (named k.1 b) (pairs_meant reads m.0))) v.4 ∙ ap (option_map (named k.1 v.1)) m.4,
        )
    pairs_sound _ rest gs e d l p q = no_answer gs e

    pub text_sound : Sound n ask.text
    unfolding step
    text_sound (string s) rest gs e d l p q = (json.string s, s, ap (λ a. string s ∷ a) (nothing_more rest (left_is [] gs rest e d)), tt, refl)
    text_sound begin_object rest gs e d l p q =
        let s = second_in (codes "$text") ask.text_hex rest l q (left_is (ask.key_is (codes "$text") ∷ ask.text_hex ∷ ask.close ∷ []) gs rest e d) in
        let m = s.meets in
        (json.object (member (codes "$text") m.0 no_members), m.1, ap (λ a. begin_object ∷ a) (s.is ∙ ap (λ a. key (codes "$text") ∷ (a ++ end_object ∷ [])) m.2), (m.3, tt), m.4)
    text_sound _ rest gs e d l p q = no_answer gs e

    pub short_text_sound : Sound n ask.short_text
    unfolding step
    short_text_sound (string s) rest gs e d l p q =
        let i = if_it_is (is_short s) [] gs e in
        (json.string s, s, ap (λ a. string s ∷ a) (alone gs rest i.1 d), tt, ap (λ b. if b then Some s else None) i.0)
    short_text_sound begin_object rest gs e d l p q =
        let s = second_in (codes "$text") ask.short_hex rest l q (left_is (ask.key_is (codes "$text") ∷ ask.short_hex ∷ ask.close ∷ []) gs rest e d) in
        let m = s.meets in
        (json.object (member (codes "$text") m.0 no_members), m.1, ap (λ a. begin_object ∷ a) (s.is ∙ ap (λ a. key (codes "$text") ∷ (a ++ end_object ∷ [])) m.2), (m.3, tt), m.4)
    short_text_sound _ rest gs e d l p q = no_answer gs e

    pub short_hex_sound : Sound n ask.short_hex
    unfolding step
    short_hex_sound (string s) rest gs e d l p q =
        one_string short_hex_text (ask.is_short_hex s) s rest gs e d
        (λ t. let r = some_of (option_and_then (λ x. if is_text x then (if is_short x then Some x else None) else None) (unhex s)) t in (r.0, short_hex_is (unhex s) r.0 r.1))
    short_hex_sound _ rest gs e d l p q = no_answer gs e

    pub version_of_file_sound : Sound n ask.version_of_file
    unfolding step
    version_of_file_sound (number s) rest gs e d l p q =
        one_number (λ j. option_and_then file_version (whole_meant reads j)) (is_some (option_and_then file_version (ask.whole_read reads s))) s rest gs e d p (some_of (option_and_then file_version (ask.whole_read reads s)))
    version_of_file_sound _ rest gs e d l p q = no_answer gs e

    pub version_of_packet_sound : Sound n ask.version_of_packet
    unfolding step
    version_of_packet_sound (number s) rest gs e d l p q =
        one_number (λ j. option_and_then packet_version (whole_meant reads j)) (is_some (option_and_then packet_version (ask.whole_read reads s))) s rest gs e d p (some_of (option_and_then packet_version (ask.whole_read reads s)))
    version_of_packet_sound _ rest gs e d l p q = no_answer gs e

    pub ints_sound : Sound n ask.ints
    unfolding step
    ints_sound end_array rest gs e d l p q = (no_items, [], ap (λ a. end_array ∷ a) (nothing_more rest (left_is [] gs rest e d)), tt, refl)
    ints_sound (number s) rest gs e d l p q =
        let h = more_is ask.ints (if_it (is_some (option_and_then fits_int (ask.whole_read reads s))) []) gs e in
        let i = if_it_is (is_some (option_and_then fits_int (ask.whole_read reads s))) [] h.0 h.1 in
        let r = some_of (option_and_then fits_int (ask.whole_read reads s)) i.0 in
        let m = below ask.ints rest l q (subst (λ x. Done reads x rest) (sym h.2 ∙ ap (λ x. x ++ ask.ints ∷ []) (sym i.1)) d) in
        (item (json.number s) m.0, r.0 ∷ m.1, ap (λ a. number s ∷ a) m.2, (p, m.3), ap (option_and_then (λ x. option_map (λ xs. x ∷ xs) (each (int_of reads) m.0))) r.1 ∙ ap (option_map (λ xs. r.0 ∷ xs)) m.4)
    ints_sound _ rest gs e d l p q = no_answer gs e

    pub uints_sound : Sound n ask.uints
    unfolding step
    uints_sound end_array rest gs e d l p q = (no_items, [], ap (λ a. end_array ∷ a) (nothing_more rest (left_is [] gs rest e d)), tt, refl)
    uints_sound (number s) rest gs e d l p q =
        let h = more_is ask.uints (if_it (is_some (option_and_then fits_uint (ask.whole_read reads s))) []) gs e in
        let i = if_it_is (is_some (option_and_then fits_uint (ask.whole_read reads s))) [] h.0 h.1 in
        let r = some_of (option_and_then fits_uint (ask.whole_read reads s)) i.0 in
        let m = below ask.uints rest l q (subst (λ x. Done reads x rest) (sym h.2 ∙ ap (λ x. x ++ ask.uints ∷ []) (sym i.1)) d) in
        (item (json.number s) m.0, r.0 ∷ m.1, ap (λ a. number s ∷ a) m.2, (p, m.3), ap (option_and_then (λ x. option_map (λ xs. x ∷ xs) (each (uint_of reads) m.0))) r.1 ∙ ap (option_map (λ xs. r.0 ∷ xs)) m.4)
    uints_sound _ rest gs e d l p q = no_answer gs e
