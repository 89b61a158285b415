-- What means something is what is asked for, of each kind of JSON.
use Rattle.std.proofs.Common.{◌≡◌, ℕ, ℤ, Bool, true, false, if◌then◌else◌, List, [], ◌∷◌, ◌++◌, Option, Some, None, refl, sym, ap, ◌∙◌, subst, append_assoc, append-nil}
use Rattle.std.specs.Prelude.{option_map, option_and_then, is_some, codes, bytes_eq, not}
use Rattle.std.proofs.lemmas.Bool.{and_parts}
use Rattle.std.proofs.lemmas.Option.{same_Some}
use Rattle.json.specs.Token.{Token, begin_object, end_object, begin_array, end_array, key, string, number, boolean, null, bad}
use Rattle.json.specs.Json.{Json, no_items, no_members, item, member, Items, Members}
use Rattle.json.specs.Json as json
use Rattle.json.specs.Tree.{json_tokens, items_tokens, members_tokens}
use Rattle.amf_graph.specs.Graph as graph
use Rattle.amf_text.specs.Scalars.{Reads}
use Rattle.amf_text.specs.Told.{stands_in}
use Rattle.amf_text.specs.Meant.{Tree, unhex, if_text, bytes_meant, text_meant, word_meant, pattern_meant, whole_meant, fits_int, fits_uint, flag_meant, last_flag, true_meant, label_meant, each, list_meant, name_meant, class_names, are_new, if_true, both, if_last, ints_meant, uints_meant, simple_body}
use Rattle.amf_text.specs.Asks as ask
use Rattle.amf_text.specs.Asks.{Goal, step, node_key, value_key, vector_tag, class_key, begun_key, left_after, if_it}
use Rattle.amf_text.proofs.Goals.{no_answer, and_then_is, map_is, Done, joined, first_step, stepped}

pub if_is : {X : Type 0} (t : Bool) (o : Option X) (x : X) → (if t then o else None) ≡ Some x → (t ≡ true) × (o ≡ Some x)
if_is true o x e = (refl, e)
if_is false o x e = no_answer x e

pub true_is : {X : Type 0} (test : X → Bool) (x y : X) → if_true test x ≡ Some y → (test x ≡ true) × (x ≡ y)
true_is test x y e = let h = if_is (test x) (Some x) y e in (h.0, same_Some x y h.1)

pub some_is : {X : Type 0} (o : Option X) (x : X) → o ≡ Some x → is_some o ≡ true
some_is o x e = ap is_some e

pub last_is : {X : Type 0} (ms : Members) (o : Option X) (x : X) → if_last ms o ≡ Some x → (ms ≡ no_members) × (o ≡ Some x)
last_is no_members o x e = (refl, e)
last_is (member k j ms) o x e = no_answer x e

pub both_is : {X Y : Type 0} (o : Option X) (p : Option Y) (z : X × Y) → both o p ≡ Some z → (o ≡ Some z.0) × (p ≡ Some z.1)
both_is (Some a) (Some b) z e = let h : (a, b) ≡ z = same_Some (a, b) z e in (ap (λ w. Some w.0) h, ap (λ w. Some w.1) h)
both_is (Some a) None z e = no_answer z e
both_is None p z e = no_answer z e

module _ (reads : Reads) where
  pub key_then : (k l : List ℕ) (gs : List Goal) (rest : List Token) → bytes_eq l k ≡ true → Done reads gs rest → Done reads (ask.key_is k ∷ gs) (key l ∷ rest)
  unfolding step
  key_then k l gs rest e d = ap (λ b. option_and_then (λ hs. left_after reads hs rest) (option_and_then (λ hs. Some (hs ++ gs)) (if_it b []))) e ∙ d

  -- one goal that takes one token
  pub one_token : (g : Goal) (t : Token) → step reads g t ≡ Some [] → Done reads (g ∷ []) (t ∷ [])
  one_token g t e = first_step reads g t [] [] e refl

  pub test_token : (g : Goal) (t : Token) (b : Bool) → step reads g t ≡ if_it b [] → b ≡ true → Done reads (g ∷ []) (t ∷ [])
  test_token g t b e h = one_token g t (e ∙ ap (λ c. if_it c []) h)

  closed : Done reads (ask.close ∷ []) (end_object ∷ [])
  unfolding step
  closed = refl

  pub then_close : (g : Goal) (a : List Token) (ms : Members) → ms ≡ no_members → Done reads (g ∷ []) a → Done reads (g ∷ ask.close ∷ []) (a ++ members_tokens ms)
  then_close g a ms e d = subst (λ m. Done reads (g ∷ ask.close ∷ []) (a ++ members_tokens m)) (sym e) (joined reads (g ∷ []) (ask.close ∷ []) a (end_object ∷ []) d closed)

  -- Scalars.

  pub hex_done : (j : Json) (x : List ℕ) → bytes_meant j ≡ Some x → Done reads (ask.hex ∷ []) (json_tokens j)
  unfolding step
  hex_done (json.string s) x e = test_token ask.hex (string s) (is_some (unhex s)) refl (some_is (unhex s) x e)
  hex_done json.null x e = no_answer x e
  hex_done (json.boolean b) x e = no_answer x e
  hex_done (json.number s) x e = no_answer x e
  hex_done (json.array js) x e = no_answer x e
  hex_done (json.object ms) x e = no_answer x e

  pub text_hex_done : (j : Json) (x : List ℕ) → option_and_then if_text (bytes_meant j) ≡ Some x → Done reads (ask.text_hex ∷ []) (json_tokens j)
  unfolding step
  text_hex_done (json.string s) x e = test_token ask.text_hex (string s) (ask.is_text_hex s) refl (some_is (option_and_then if_text (unhex s)) x e)
  text_hex_done json.null x e = no_answer x e
  text_hex_done (json.boolean b) x e = no_answer x e
  text_hex_done (json.number s) x e = no_answer x e
  text_hex_done (json.array js) x e = no_answer x e
  text_hex_done (json.object ms) x e = no_answer x e

  pub text_object : (ms : Members) (x : List ℕ) → text_meant (json.object ms) ≡ Some x → Done reads (ask.key_is (codes "$text") ∷ ask.text_hex ∷ ask.close ∷ []) (members_tokens ms)
  text_object no_members x e = no_answer x e
  text_object (member k j no_members) x e =
      let h = if_is (bytes_eq k (codes "$text")) (option_and_then if_text (bytes_meant j)) x e in
      key_then (codes "$text") k (ask.text_hex ∷ ask.close ∷ []) (json_tokens j ++ end_object ∷ []) h.0 (then_close ask.text_hex (json_tokens j) no_members refl (text_hex_done j x h.1))
  text_object (member k j (member l i ms)) x e = no_answer x e

  pub text_done : (j : Json) (x : List ℕ) → text_meant j ≡ Some x → Done reads (ask.text ∷ []) (json_tokens j)
  unfolding step
  text_done (json.string s) x e = one_token ask.text (string s) refl
  text_done (json.object ms) x e = first_step reads ask.text begin_object (ask.key_is (codes "$text") ∷ ask.text_hex ∷ ask.close ∷ []) (members_tokens ms) refl (text_object ms x e)
  text_done json.null x e = no_answer x e
  text_done (json.boolean b) x e = no_answer x e
  text_done (json.number s) x e = no_answer x e
  text_done (json.array js) x e = no_answer x e

  pub pattern_done : (j : Json) (x : ℕ) → pattern_meant reads j ≡ Some x → Done reads (ask.pattern ∷ []) (json_tokens j)
  unfolding step
  pattern_done (json.number s) x e = test_token ask.pattern (number s) (is_some (reads s)) refl (some_is (reads s) x e)
  pattern_done (json.string s) x e = test_token ask.pattern (string s) (is_some (word_meant s)) refl (some_is (word_meant s) x e)
  pattern_done json.null x e = no_answer x e
  pattern_done (json.boolean b) x e = no_answer x e
  pattern_done (json.array js) x e = no_answer x e
  pattern_done (json.object ms) x e = no_answer x e

  pub flag_done : (j : Json) (x : Bool) → flag_meant j ≡ Some x → Done reads (ask.flag ∷ []) (json_tokens j)
  unfolding step
  flag_done (json.boolean b) x e = one_token ask.flag (boolean b) refl
  flag_done json.null x e = no_answer x e
  flag_done (json.number s) x e = no_answer x e
  flag_done (json.string s) x e = no_answer x e
  flag_done (json.array js) x e = no_answer x e
  flag_done (json.object ms) x e = no_answer x e

  pub truth_done : (j : Json) (x : Tree) → true_meant j ≡ Some x → Done reads (ask.truth ∷ []) (json_tokens j)
  unfolding step
  truth_done (json.boolean true) x e = one_token ask.truth (boolean true) refl
  truth_done (json.boolean false) x e = no_answer x e
  truth_done json.null x e = no_answer x e
  truth_done (json.number s) x e = no_answer x e
  truth_done (json.string s) x e = no_answer x e
  truth_done (json.array js) x e = no_answer x e
  truth_done (json.object ms) x e = no_answer x e

  pub label_done : (j : Json) (x : Tree) → label_meant j ≡ Some x → Done reads (ask.label ∷ []) (json_tokens j)
  unfolding step
  label_done (json.string s) x e = one_token ask.label (string s) refl
  label_done json.null x e = no_answer x e
  label_done (json.boolean b) x e = no_answer x e
  label_done (json.number s) x e = no_answer x e
  label_done (json.array js) x e = no_answer x e
  label_done (json.object ms) x e = no_answer x e

  -- Lists of scalars.

  or_more : (g : Goal) (t : Token) (f : Token → Option (List Goal)) (gs : List Goal) → f end_array ≡ None → f t ≡ Some gs → ask.or_end t (ask.then_more g (f t)) ≡ Some (gs ++ g ∷ [])
  or_more g end_array f gs n e = no_answer gs (sym n ∙ e)
  or_more g begin_object f gs n e = ap (ask.then_more g) e
  or_more g end_object f gs n e = ap (ask.then_more g) e
  or_more g begin_array f gs n e = ap (ask.then_more g) e
  or_more g (key s) f gs n e = ap (ask.then_more g) e
  or_more g (string s) f gs n e = ap (ask.then_more g) e
  or_more g (number s) f gs n e = ap (ask.then_more g) e
  or_more g (boolean b) f gs n e = ap (ask.then_more g) e
  or_more g null f gs n e = ap (ask.then_more g) e
  or_more g bad f gs n e = ap (ask.then_more g) e

  -- the first goal is for items each of which the second takes
  pub record IsListOf (many one : Goal) : Type 0 where
    pub end : step reads many end_array ≡ Some []
    pub more : (t : Token) (gs : List Goal) → step reads one t ≡ Some gs → step reads many t ≡ Some (gs ++ many ∷ [])

  pub items_of : IsListOf ask.items ask.value
  unfolding step
  items_of = record { end = refl; more = λ t gs e. or_more ask.items t (ask.value_step reads) gs refl e }

  patterns_of : IsListOf ask.patterns ask.pattern
  unfolding step
  patterns_of = record { end = refl; more = λ t gs e. or_more ask.patterns t (ask.pattern_step reads) gs refl e }

  ints_of : (t : Token) (gs : List Goal) → ask.int_step reads t ≡ Some gs → step reads ask.ints t ≡ Some (gs ++ ask.ints ∷ [])
  unfolding step
  ints_of t gs e = or_more ask.ints t (ask.int_step reads) gs refl e

  uints_of : (t : Token) (gs : List Goal) → ask.uint_step reads t ≡ Some gs → step reads ask.uints t ≡ Some (gs ++ ask.uints ∷ [])
  unfolding step
  uints_of t gs e = or_more ask.uints t (ask.uint_step reads) gs refl e

  pub list_more : (many one : Goal) → IsListOf many one → (a b : List Token) → Done reads (one ∷ []) a → Done reads (many ∷ []) b → Done reads (many ∷ []) (a ++ b)
  list_more many one l a b d e =
      let s = stepped reads one a d in
      subst (λ c. Done reads (many ∷ []) (c ++ b)) (sym s.3)
      (first_step reads many s.0 (s.2 ++ many ∷ []) (s.1 ++ b) (l.more s.0 s.2 s.4) (joined reads s.2 (many ∷ []) s.1 b s.5 e))

  patterns_done : (js : Items) (xs : List ℕ) → each (pattern_meant reads) js ≡ Some xs → Done reads (ask.patterns ∷ []) (items_tokens js)
  patterns_done no_items xs e = one_token ask.patterns end_array patterns_of.end
  patterns_done (item j js) xs e =
      let h = and_then_is (λ x. option_map (λ ys. x ∷ ys) (each (pattern_meant reads) js)) (pattern_meant reads j) xs e in
      let r = map_is (λ ys. h.0 ∷ ys) (each (pattern_meant reads) js) xs h.2 in
      list_more ask.patterns ask.pattern patterns_of (json_tokens j) (items_tokens js) (pattern_done j h.0 h.1) (patterns_done js r.0 r.1)

  int_more : (j : Json) (x : ℤ) (b : List Token) → option_and_then fits_int (whole_meant reads j) ≡ Some x → Done reads (ask.ints ∷ []) b → Done reads (ask.ints ∷ []) (json_tokens j ++ b)
  int_more (json.number s) x b e d =
      first_step reads ask.ints (number s) (ask.ints ∷ []) b (ints_of (number s) [] (ap (λ t. if_it t []) (some_is (option_and_then fits_int (ask.whole_read reads s)) x e))) d
  int_more json.null x b e d = no_answer x e
  int_more (json.boolean t) x b e d = no_answer x e
  int_more (json.string s) x b e d = no_answer x e
  int_more (json.array js) x b e d = no_answer x e
  int_more (json.object ms) x b e d = no_answer x e

  uint_more : (j : Json) (x : ℕ) (b : List Token) → option_and_then fits_uint (whole_meant reads j) ≡ Some x → Done reads (ask.uints ∷ []) b → Done reads (ask.uints ∷ []) (json_tokens j ++ b)
  uint_more (json.number s) x b e d =
      first_step reads ask.uints (number s) (ask.uints ∷ []) b (uints_of (number s) [] (ap (λ t. if_it t []) (some_is (option_and_then fits_uint (ask.whole_read reads s)) x e))) d
  uint_more json.null x b e d = no_answer x e
  uint_more (json.boolean t) x b e d = no_answer x e
  uint_more (json.string s) x b e d = no_answer x e
  uint_more (json.array js) x b e d = no_answer x e
  uint_more (json.object ms) x b e d = no_answer x e

  ints_done : (js : Items) (xs : List ℤ) → each (λ i. option_and_then fits_int (whole_meant reads i)) js ≡ Some xs → Done reads (ask.ints ∷ []) (items_tokens js)
  unfolding step
  ints_done no_items xs e = one_token ask.ints end_array refl
  ints_done (item j js) xs e =
      let f = λ (i : Json). option_and_then fits_int (whole_meant reads i) in
      let h = and_then_is (λ x. option_map (λ ys. x ∷ ys) (each f js)) (f j) xs e in
      let r = map_is (λ ys. h.0 ∷ ys) (each f js) xs h.2 in
      int_more j h.0 (items_tokens js) h.1 (ints_done js r.0 r.1)

  uints_done : (js : Items) (xs : List ℕ) → each (λ i. option_and_then fits_uint (whole_meant reads i)) js ≡ Some xs → Done reads (ask.uints ∷ []) (items_tokens js)
  unfolding step
  uints_done no_items xs e = one_token ask.uints end_array refl
  uints_done (item j js) xs e =
      let f = λ (i : Json). option_and_then fits_uint (whole_meant reads i) in
      let h = and_then_is (λ x. option_map (λ ys. x ∷ ys) (each f js)) (f j) xs e in
      let r = map_is (λ ys. h.0 ∷ ys) (each f js) xs h.2 in
      uint_more j h.0 (items_tokens js) h.1 (uints_done js r.0 r.1)

  pub pattern_list_done : (j : Json) (xs : List ℕ) → list_meant (pattern_meant reads) j ≡ Some xs → Done reads (ask.pattern_list ∷ []) (json_tokens j)
  unfolding step
  pattern_list_done (json.array js) xs e = first_step reads ask.pattern_list begin_array (ask.patterns ∷ []) (items_tokens js) refl (patterns_done js xs e)
  pattern_list_done json.null xs e = no_answer xs e
  pattern_list_done (json.boolean b) xs e = no_answer xs e
  pattern_list_done (json.number s) xs e = no_answer xs e
  pattern_list_done (json.string s) xs e = no_answer xs e
  pattern_list_done (json.object ms) xs e = no_answer xs e

  pub int_list_done : (f : Bool) (j : Json) (x : Tree) → ints_meant reads f j ≡ Some x → Done reads (ask.int_list ∷ []) (json_tokens j)
  unfolding step
  int_list_done f (json.array js) x e =
      let r = map_is (λ (ns : List ℤ). simple_body (graph.ints f ns)) (each (λ i. option_and_then fits_int (whole_meant reads i)) js) x e in
      first_step reads ask.int_list begin_array (ask.ints ∷ []) (items_tokens js) refl (ints_done js r.0 r.1)
  int_list_done f json.null x e = no_answer x e
  int_list_done f (json.boolean b) x e = no_answer x e
  int_list_done f (json.number s) x e = no_answer x e
  int_list_done f (json.string s) x e = no_answer x e
  int_list_done f (json.object ms) x e = no_answer x e

  pub uint_list_done : (f : Bool) (j : Json) (x : Tree) → uints_meant reads f j ≡ Some x → Done reads (ask.uint_list ∷ []) (json_tokens j)
  unfolding step
  uint_list_done f (json.array js) x e =
      let r = map_is (λ (ns : List ℕ). simple_body (graph.uints f ns)) (each (λ i. option_and_then fits_uint (whole_meant reads i)) js) x e in
      first_step reads ask.uint_list begin_array (ask.uints ∷ []) (items_tokens js) refl (uints_done js r.0 r.1)
  uint_list_done f json.null x e = no_answer x e
  uint_list_done f (json.boolean b) x e = no_answer x e
  uint_list_done f (json.number s) x e = no_answer x e
  uint_list_done f (json.string s) x e = no_answer x e
  uint_list_done f (json.object ms) x e = no_answer x e

  -- names of a class, and what stands behind them
  names_done : (js : Items) (seen xs : List (List ℕ)) (rest : List Token) → each name_meant js ≡ Some xs → are_new seen xs ≡ true
      → Done reads (ask.key_is (codes "$sealed") ∷ ask.those (seen ++ xs) ∷ ask.close ∷ []) rest → Done reads (ask.more_names seen ∷ []) (items_tokens js ++ rest)
  unfolding step
  names_done no_items seen xs rest e n d =
      let nil : xs ≡ [] = sym (same_Some [] xs e) in
      first_step reads (ask.more_names seen) end_array (ask.key_is (codes "$sealed") ∷ ask.those seen ∷ ask.close ∷ []) rest refl
      (subst (λ l. Done reads (ask.key_is (codes "$sealed") ∷ ask.those l ∷ ask.close ∷ []) rest) (ap (λ l. seen ++ l) nil ∙ append-nil seen) d)
  names_done (item (json.string s) js) seen xs rest e n d =
      let r = map_is (λ ys. s ∷ ys) (each name_meant js) xs e in
      let m = and_parts (not (stands_in seen s)) (are_new (seen ++ s ∷ []) r.0) (ap (are_new seen) r.2 ∙ n) in
      first_step reads (ask.more_names seen) (string s) (ask.more_names (seen ++ s ∷ []) ∷ []) (items_tokens js ++ rest) (ap (λ t. if_it t (ask.more_names (seen ++ s ∷ []) ∷ [])) m.0)
      (names_done js (seen ++ s ∷ []) r.0 rest r.1 m.1
      (subst (λ l. Done reads (ask.key_is (codes "$sealed") ∷ ask.those l ∷ ask.close ∷ []) rest) (ap (λ l. seen ++ l) (sym r.2) ∙ sym (append_assoc seen (s ∷ []) r.0)) d))
  names_done (item json.null js) seen xs rest e n d = no_answer xs e
  names_done (item (json.boolean b) js) seen xs rest e n d = no_answer xs e
  names_done (item (json.number s) js) seen xs rest e n d = no_answer xs e
  names_done (item (json.array is) js) seen xs rest e n d = no_answer xs e
  names_done (item (json.object ms) js) seen xs rest e n d = no_answer xs e

  pub class_names_done : (j : Json) (xs : List (List ℕ)) (rest : List Token) → class_names j ≡ Some xs
      → Done reads (ask.key_is (codes "$sealed") ∷ ask.those xs ∷ ask.close ∷ []) rest → Done reads (ask.class_names ∷ []) (json_tokens j ++ rest)
  unfolding step
  class_names_done (json.array js) xs rest e d =
      let h = and_then_is (if_true (are_new [])) (each name_meant js) xs e in
      let t = true_is (are_new []) h.0 xs h.2 in
      first_step reads ask.class_names begin_array (ask.more_names [] ∷ []) (items_tokens js ++ rest) refl
      (names_done js [] h.0 rest h.1 t.0 (subst (λ l. Done reads (ask.key_is (codes "$sealed") ∷ ask.those l ∷ ask.close ∷ []) rest) (sym t.1) d))
  class_names_done json.null xs rest e d = no_answer xs e
  class_names_done (json.boolean b) xs rest e d = no_answer xs e
  class_names_done (json.number s) xs rest e d = no_answer xs e
  class_names_done (json.string s) xs rest e d = no_answer xs e
  class_names_done (json.object ms) xs rest e d = no_answer xs e

  pub last_flag_done : (k : List ℕ) (ms : Members) (x : Bool) → last_flag k ms ≡ Some x → Done reads (ask.flag_or_close k ∷ []) (members_tokens ms)
  unfolding step
  last_flag_done k no_members x e = one_token (ask.flag_or_close k) end_object refl
  last_flag_done k (member l j no_members) x e =
      let h = if_is (bytes_eq l k) (flag_meant j) x e in
      first_step reads (ask.flag_or_close k) (key l) (ask.flag ∷ ask.close ∷ []) (json_tokens j ++ end_object ∷ []) (ap (λ t. if_it t (ask.flag ∷ ask.close ∷ [])) h.0)
      (then_close ask.flag (json_tokens j) no_members refl (flag_done j x h.1))
  last_flag_done k (member l j (member m i ms)) x e = no_answer x e
