-- What scalars and their lists come to.
use Rattle.std.proofs.Common.{◌≡◌, ℕ, ℤ, Bool, true, false, List, [], ◌∷◌, ◌++◌, Some, refl, sym, ap, ◌∙◌, subst, append_assoc, append-nil}
use Rattle.std.specs.Prelude.{option_map, option_and_then, is_some, codes, bytes_eq, not}
use Rattle.std.proofs.lemmas.Bool.{and_parts}
use Rattle.std.proofs.lemmas.Option.{same_Some}
use Rattle.json.specs.Token.{Token, begin_object, end_object, begin_array, end_array, key, string, number, boolean}
use Rattle.json.specs.Json.{Json, no_items, no_members, item, member, Items, Members}
use Rattle.json.specs.Json as json
use Rattle.json.specs.Tree.{json_tokens, items_tokens, members_tokens}
use Rattle.amf_text.specs.Scalars.{Reads}
use Rattle.amf_text.specs.Told.{stands_in}
use Rattle.amf_text.specs.Meant.{Tree, called, unhex, if_text, bytes_meant, text_meant, word_meant, pattern_meant, whole_meant, fits_int, fits_uint, flag_meant, last_flag, true_meant, label_meant, each, list_meant, name_meant, class_names, are_new, if_true}
use Rattle.amf_text.specs.Asks as ask
use Rattle.amf_text.specs.Asks.{Goal, step, if_it}
use Rattle.amf_text.proofs.Goals.{no_answer, and_then_is, map_is}
use Rattle.amf_text.proofs.Asked.{if_is, true_is, some_is}
use Rattle.amf_text_trees.specs.Pieces as piece
use Rattle.amf_text_trees.specs.Sheets.{Sheet, after, entry_of}
use Rattle.amf_text_trees.specs.Frames.{Frame, take, give}
use Rattle.amf_text_trees.specs.Frames as frame
use Rattle.amf_text_trees.specs.Gathering.{Draft, draft, giving, finish, finishing, gather, given, trees_after}
use Rattle.amf_text_trees.proofs.Taking.{at, Takes, Gives, joined, arrives, first_step, one_token, test_token}

module _ (reads : Reads) where
  pub key_then : (k l : List ℕ) (gs : List Goal) (rest : List Token) (fs hs : Draft) → bytes_eq l k ≡ true → Takes reads gs rest fs hs → Takes reads (ask.key_is k ∷ gs) (key l ∷ rest) fs hs
  unfolding step gather
  key_then k l gs rest fs hs e d = record { is = ap (λ b. option_and_then (λ s. trees_after reads s.goals s.draft rest) (option_map (λ l. at (l ++ gs) fs) (if_it b []))) e ∙ d.is }

  closed : (fs : Draft) → Takes reads (ask.close ∷ []) (end_object ∷ []) fs (finishing fs)
  unfolding step gather
  closed fs = record { is = refl }

  pub then_close : (g : Goal) (a : List Token) (ms : Members) (fs hs : Draft) → ms ≡ no_members → Takes reads (g ∷ []) a fs hs → Takes reads (g ∷ ask.close ∷ []) (a ++ members_tokens ms) fs (finishing hs)
  then_close g a ms fs hs e d = subst (λ m. Takes reads (g ∷ ask.close ∷ []) (a ++ members_tokens m) fs (finishing hs)) (sym e) (joined reads d (closed hs))

  -- Scalars.

  pub hex_gives : (j : Json) (x : List ℕ) → bytes_meant j ≡ Some x → Gives reads ask.hex (json_tokens j) (piece.bytes x)
  unfolding step gather
  hex_gives (json.string s) x e fs = test_token reads ask.hex (string s) (is_some (unhex s)) fs (giving (piece.bytes x) fs) refl (some_is (unhex s) x e) (ap (λ o. given piece.bytes o fs) e)
  hex_gives json.null x e fs = no_answer x e
  hex_gives (json.boolean b) x e fs = no_answer x e
  hex_gives (json.number s) x e fs = no_answer x e
  hex_gives (json.array js) x e fs = no_answer x e
  hex_gives (json.object ms) x e fs = no_answer x e

  pub text_hex_gives : (j : Json) (x : List ℕ) → option_and_then if_text (bytes_meant j) ≡ Some x → Gives reads ask.text_hex (json_tokens j) (piece.text x)
  unfolding step gather
  text_hex_gives (json.string s) x e fs =
      test_token reads ask.text_hex (string s) (ask.is_text_hex s) fs (giving (piece.text x) fs) refl (some_is (option_and_then if_text (unhex s)) x e) (ap (λ o. given piece.text o fs) e)
  text_hex_gives json.null x e fs = no_answer x e
  text_hex_gives (json.boolean b) x e fs = no_answer x e
  text_hex_gives (json.number s) x e fs = no_answer x e
  text_hex_gives (json.array js) x e fs = no_answer x e
  text_hex_gives (json.object ms) x e fs = no_answer x e

  text_object : (ms : Members) (x : List ℕ) → text_meant (json.object ms) ≡ Some x → (s : Sheet) (fs : List Frame)
      → Takes reads (ask.key_is (codes "$text") ∷ ask.text_hex ∷ ask.close ∷ []) (members_tokens ms) (draft s (frame.quoted [] ∷ fs)) (draft s (give (piece.text x) fs))
  text_object no_members x e s fs = no_answer x e
  text_object (member k j no_members) x e s fs =
      let h = if_is (bytes_eq k (codes "$text")) (option_and_then if_text (bytes_meant j)) x e in
      key_then (codes "$text") k (ask.text_hex ∷ ask.close ∷ []) (json_tokens j ++ end_object ∷ []) (draft s (frame.quoted [] ∷ fs)) (draft s (give (piece.text x) fs)) h.0
      (then_close ask.text_hex (json_tokens j) no_members (draft s (frame.quoted [] ∷ fs)) (draft s (frame.quoted x ∷ fs)) refl (text_hex_gives j x h.1 (draft s (frame.quoted [] ∷ fs))))
  text_object (member k j (member l i ms)) x e s fs = no_answer x e

  pub text_gives : (j : Json) (x : List ℕ) → text_meant j ≡ Some x → Gives reads ask.text (json_tokens j) (piece.text x)
  unfolding step gather
  text_gives (json.string s) x e fs = one_token reads ask.text (string s) fs (giving (piece.text x) fs) refl (ap (λ y. giving (piece.text y) fs) (same_Some s x e))
  text_gives (json.object ms) x e fs =
      first_step reads ask.text begin_object (ask.key_is (codes "$text") ∷ ask.text_hex ∷ ask.close ∷ []) (members_tokens ms) fs (giving (piece.text x) fs) refl (text_object ms x e fs.sheet fs.frames)
  text_gives json.null x e fs = no_answer x e
  text_gives (json.boolean b) x e fs = no_answer x e
  text_gives (json.number s) x e fs = no_answer x e
  text_gives (json.array js) x e fs = no_answer x e

  pub pattern_gives : (j : Json) (x : ℕ) → pattern_meant reads j ≡ Some x → Gives reads ask.pattern (json_tokens j) (piece.pattern x)
  unfolding step gather
  pattern_gives (json.number s) x e fs = test_token reads ask.pattern (number s) (is_some (reads s)) fs (giving (piece.pattern x) fs) refl (some_is (reads s) x e) (ap (λ o. given piece.pattern o fs) e)
  pattern_gives (json.string s) x e fs = test_token reads ask.pattern (string s) (is_some (word_meant s)) fs (giving (piece.pattern x) fs) refl (some_is (word_meant s) x e) (ap (λ o. given piece.pattern o fs) e)
  pattern_gives json.null x e fs = no_answer x e
  pattern_gives (json.boolean b) x e fs = no_answer x e
  pattern_gives (json.array js) x e fs = no_answer x e
  pattern_gives (json.object ms) x e fs = no_answer x e

  pub flag_gives : (j : Json) (x : Bool) → flag_meant j ≡ Some x → Gives reads ask.flag (json_tokens j) (piece.flag x)
  unfolding step gather
  flag_gives (json.boolean b) x e fs = one_token reads ask.flag (boolean b) fs (giving (piece.flag x) fs) refl (ap (λ o. given piece.flag o fs) e)
  flag_gives json.null x e fs = no_answer x e
  flag_gives (json.number s) x e fs = no_answer x e
  flag_gives (json.string s) x e fs = no_answer x e
  flag_gives (json.array js) x e fs = no_answer x e
  flag_gives (json.object ms) x e fs = no_answer x e

  pub truth_gives : (j : Json) (x : Tree) → true_meant j ≡ Some x → Gives reads ask.truth (json_tokens j) (piece.flag true)
  unfolding step gather
  truth_gives (json.boolean true) x e fs = one_token reads ask.truth (boolean true) fs (giving (piece.flag true) fs) refl refl
  truth_gives (json.boolean false) x e fs = no_answer x e
  truth_gives json.null x e fs = no_answer x e
  truth_gives (json.number s) x e fs = no_answer x e
  truth_gives (json.string s) x e fs = no_answer x e
  truth_gives (json.array js) x e fs = no_answer x e
  truth_gives (json.object ms) x e fs = no_answer x e

  pub label_gives : (j : Json) (x : Tree) → label_meant j ≡ Some x → (q : Sheet) (fs : List Frame) → Takes reads (ask.label ∷ []) (json_tokens j) (draft q fs) (draft (after q x) (give (piece.value (entry_of q x)) fs))
  unfolding step gather
  label_gives (json.string s) x e q fs =
      one_token reads ask.label (string s) (draft q fs) (draft (after q x) (give (piece.value (entry_of q x)) fs)) refl (ap (λ y. draft (after q y) (give (piece.value (entry_of q y)) fs)) (same_Some (called s) x e))
  label_gives json.null x e q fs = no_answer x e
  label_gives (json.boolean b) x e q fs = no_answer x e
  label_gives (json.number s) x e q fs = no_answer x e
  label_gives (json.array js) x e q fs = no_answer x e
  label_gives (json.object ms) x e q fs = no_answer x e

  -- Lists of scalars: so many have come already.

  pattern_more : (j : Json) (x : ℕ) (b : List Token) (ns : List ℕ) (q : Sheet) (fs : List Frame) (hs : Draft) → pattern_meant reads j ≡ Some x
      → Takes reads (ask.patterns ∷ []) b (draft q (frame.patterns (ns ++ x ∷ []) ∷ fs)) hs → Takes reads (ask.patterns ∷ []) (json_tokens j ++ b) (draft q (frame.patterns ns ∷ fs)) hs
  unfolding step gather
  pattern_more (json.number s) x b ns q fs hs e d =
      first_step reads ask.patterns (number s) (ask.patterns ∷ []) b (draft q (frame.patterns ns ∷ fs)) hs (ap (λ t. ask.then_more ask.patterns (if_it t [])) (some_is (reads s) x e))
      (subst (λ f. Takes reads (ask.patterns ∷ []) b f hs) (sym (ap (λ o. given piece.pattern o (draft q (frame.patterns ns ∷ fs))) e)) d)
  pattern_more (json.string s) x b ns q fs hs e d =
      first_step reads ask.patterns (string s) (ask.patterns ∷ []) b (draft q (frame.patterns ns ∷ fs)) hs (ap (λ t. ask.then_more ask.patterns (if_it t [])) (some_is (word_meant s) x e))
      (subst (λ f. Takes reads (ask.patterns ∷ []) b f hs) (sym (ap (λ o. given piece.pattern o (draft q (frame.patterns ns ∷ fs))) e)) d)
  pattern_more json.null x b ns q fs hs e d = no_answer x e
  pattern_more (json.boolean t) x b ns q fs hs e d = no_answer x e
  pattern_more (json.array js) x b ns q fs hs e d = no_answer x e
  pattern_more (json.object ms) x b ns q fs hs e d = no_answer x e

  int_more : (j : Json) (x : ℤ) (b : List Token) (ns : List ℤ) (q : Sheet) (fs : List Frame) (hs : Draft) → option_and_then fits_int (whole_meant reads j) ≡ Some x
      → Takes reads (ask.ints ∷ []) b (draft q (frame.ints (ns ++ x ∷ []) ∷ fs)) hs → Takes reads (ask.ints ∷ []) (json_tokens j ++ b) (draft q (frame.ints ns ∷ fs)) hs
  unfolding step gather
  int_more (json.number s) x b ns q fs hs e d =
      first_step reads ask.ints (number s) (ask.ints ∷ []) b (draft q (frame.ints ns ∷ fs)) hs (ap (λ t. ask.then_more ask.ints (if_it t [])) (some_is (option_and_then fits_int (ask.whole_read reads s)) x e))
      (subst (λ f. Takes reads (ask.ints ∷ []) b f hs) (sym (ap (λ o. given piece.int o (draft q (frame.ints ns ∷ fs))) e)) d)
  int_more json.null x b ns q fs hs e d = no_answer x e
  int_more (json.boolean t) x b ns q fs hs e d = no_answer x e
  int_more (json.string s) x b ns q fs hs e d = no_answer x e
  int_more (json.array js) x b ns q fs hs e d = no_answer x e
  int_more (json.object ms) x b ns q fs hs e d = no_answer x e

  uint_more : (j : Json) (x : ℕ) (b : List Token) (ns : List ℕ) (q : Sheet) (fs : List Frame) (hs : Draft) → option_and_then fits_uint (whole_meant reads j) ≡ Some x
      → Takes reads (ask.uints ∷ []) b (draft q (frame.uints (ns ++ x ∷ []) ∷ fs)) hs → Takes reads (ask.uints ∷ []) (json_tokens j ++ b) (draft q (frame.uints ns ∷ fs)) hs
  unfolding step gather
  uint_more (json.number s) x b ns q fs hs e d =
      first_step reads ask.uints (number s) (ask.uints ∷ []) b (draft q (frame.uints ns ∷ fs)) hs (ap (λ t. ask.then_more ask.uints (if_it t [])) (some_is (option_and_then fits_uint (ask.whole_read reads s)) x e))
      (subst (λ f. Takes reads (ask.uints ∷ []) b f hs) (sym (ap (λ o. given piece.uint o (draft q (frame.uints ns ∷ fs))) e)) d)
  uint_more json.null x b ns q fs hs e d = no_answer x e
  uint_more (json.boolean t) x b ns q fs hs e d = no_answer x e
  uint_more (json.string s) x b ns q fs hs e d = no_answer x e
  uint_more (json.array js) x b ns q fs hs e d = no_answer x e
  uint_more (json.object ms) x b ns q fs hs e d = no_answer x e

  -- a list is done, of which these came before
  behind : {X : Type 0} (ns : List X) (x : X) (r xs : List X) → x ∷ r ≡ xs → (ns ++ x ∷ []) ++ r ≡ ns ++ xs
  behind ns x r xs e = append_assoc ns (x ∷ []) r ∙ ap (λ l. ns ++ l) e

  none_behind : {X : Type 0} (ns xs : List X) → Some [] ≡ Some xs → ns ≡ ns ++ xs
  none_behind ns xs e = sym (append-nil ns) ∙ ap (λ l. ns ++ l) (same_Some [] xs e)

  patterns_give : (js : Items) (xs ns : List ℕ) → each (pattern_meant reads) js ≡ Some xs → (q : Sheet) (fs : List Frame) → Takes reads (ask.patterns ∷ []) (items_tokens js) (draft q (frame.patterns ns ∷ fs)) (draft q (give (piece.patterns (ns ++ xs)) fs))
  unfolding step gather
  patterns_give no_items xs ns e q fs = one_token reads ask.patterns end_array (draft q (frame.patterns ns ∷ fs)) (draft q (give (piece.patterns (ns ++ xs)) fs)) refl (ap (λ l. draft q (give (piece.patterns l) fs)) (none_behind ns xs e))
  patterns_give (item j js) xs ns e q fs =
      let h = and_then_is (λ x. option_map (λ ys. x ∷ ys) (each (pattern_meant reads) js)) (pattern_meant reads j) xs e in
      let r = map_is (λ ys. h.0 ∷ ys) (each (pattern_meant reads) js) xs h.2 in
      pattern_more j h.0 (items_tokens js) ns q fs (draft q (give (piece.patterns (ns ++ xs)) fs)) h.1
      (arrives reads (ap (λ l. draft q (give (piece.patterns l) fs)) (behind ns h.0 r.0 xs r.2)) (patterns_give js r.0 (ns ++ h.0 ∷ []) r.1 q fs))

  ints_give : (js : Items) (xs ns : List ℤ) → each (λ i. option_and_then fits_int (whole_meant reads i)) js ≡ Some xs → (q : Sheet) (fs : List Frame) → Takes reads (ask.ints ∷ []) (items_tokens js) (draft q (frame.ints ns ∷ fs)) (draft q (give (piece.ints (ns ++ xs)) fs))
  unfolding step gather
  ints_give no_items xs ns e q fs = one_token reads ask.ints end_array (draft q (frame.ints ns ∷ fs)) (draft q (give (piece.ints (ns ++ xs)) fs)) refl (ap (λ l. draft q (give (piece.ints l) fs)) (none_behind ns xs e))
  ints_give (item j js) xs ns e q fs =
      let f = λ (i : Json). option_and_then fits_int (whole_meant reads i) in
      let h = and_then_is (λ x. option_map (λ ys. x ∷ ys) (each f js)) (f j) xs e in
      let r = map_is (λ ys. h.0 ∷ ys) (each f js) xs h.2 in
      int_more j h.0 (items_tokens js) ns q fs (draft q (give (piece.ints (ns ++ xs)) fs)) h.1
      (arrives reads (ap (λ l. draft q (give (piece.ints l) fs)) (behind ns h.0 r.0 xs r.2)) (ints_give js r.0 (ns ++ h.0 ∷ []) r.1 q fs))

  uints_give : (js : Items) (xs ns : List ℕ) → each (λ i. option_and_then fits_uint (whole_meant reads i)) js ≡ Some xs → (q : Sheet) (fs : List Frame) → Takes reads (ask.uints ∷ []) (items_tokens js) (draft q (frame.uints ns ∷ fs)) (draft q (give (piece.uints (ns ++ xs)) fs))
  unfolding step gather
  uints_give no_items xs ns e q fs = one_token reads ask.uints end_array (draft q (frame.uints ns ∷ fs)) (draft q (give (piece.uints (ns ++ xs)) fs)) refl (ap (λ l. draft q (give (piece.uints l) fs)) (none_behind ns xs e))
  uints_give (item j js) xs ns e q fs =
      let f = λ (i : Json). option_and_then fits_uint (whole_meant reads i) in
      let h = and_then_is (λ x. option_map (λ ys. x ∷ ys) (each f js)) (f j) xs e in
      let r = map_is (λ ys. h.0 ∷ ys) (each f js) xs h.2 in
      uint_more j h.0 (items_tokens js) ns q fs (draft q (give (piece.uints (ns ++ xs)) fs)) h.1
      (arrives reads (ap (λ l. draft q (give (piece.uints l) fs)) (behind ns h.0 r.0 xs r.2)) (uints_give js r.0 (ns ++ h.0 ∷ []) r.1 q fs))

  pub pattern_list_gives : (j : Json) (xs : List ℕ) → list_meant (pattern_meant reads) j ≡ Some xs → Gives reads ask.pattern_list (json_tokens j) (piece.patterns xs)
  unfolding step gather
  pattern_list_gives (json.array js) xs e fs = first_step reads ask.pattern_list begin_array (ask.patterns ∷ []) (items_tokens js) fs (giving (piece.patterns xs) fs) refl (patterns_give js xs [] e fs.sheet fs.frames)
  pattern_list_gives json.null xs e fs = no_answer xs e
  pattern_list_gives (json.boolean b) xs e fs = no_answer xs e
  pattern_list_gives (json.number s) xs e fs = no_answer xs e
  pattern_list_gives (json.string s) xs e fs = no_answer xs e
  pattern_list_gives (json.object ms) xs e fs = no_answer xs e

  pub int_list_gives : (j : Json) (xs : List ℤ) → list_meant (λ i. option_and_then fits_int (whole_meant reads i)) j ≡ Some xs → Gives reads ask.int_list (json_tokens j) (piece.ints xs)
  unfolding step gather
  int_list_gives (json.array js) xs e fs = first_step reads ask.int_list begin_array (ask.ints ∷ []) (items_tokens js) fs (giving (piece.ints xs) fs) refl (ints_give js xs [] e fs.sheet fs.frames)
  int_list_gives json.null xs e fs = no_answer xs e
  int_list_gives (json.boolean b) xs e fs = no_answer xs e
  int_list_gives (json.number s) xs e fs = no_answer xs e
  int_list_gives (json.string s) xs e fs = no_answer xs e
  int_list_gives (json.object ms) xs e fs = no_answer xs e

  pub uint_list_gives : (j : Json) (xs : List ℕ) → list_meant (λ i. option_and_then fits_uint (whole_meant reads i)) j ≡ Some xs → Gives reads ask.uint_list (json_tokens j) (piece.uints xs)
  unfolding step gather
  uint_list_gives (json.array js) xs e fs = first_step reads ask.uint_list begin_array (ask.uints ∷ []) (items_tokens js) fs (giving (piece.uints xs) fs) refl (uints_give js xs [] e fs.sheet fs.frames)
  uint_list_gives json.null xs e fs = no_answer xs e
  uint_list_gives (json.boolean b) xs e fs = no_answer xs e
  uint_list_gives (json.number s) xs e fs = no_answer xs e
  uint_list_gives (json.string s) xs e fs = no_answer xs e
  uint_list_gives (json.object ms) xs e fs = no_answer xs e

  -- names of a class, and what stands behind them
  names_give : (js : Items) (seen xs : List (List ℕ)) (rest : List Token) (q : Sheet) (fs : List Frame) (hs : Draft) → each name_meant js ≡ Some xs → are_new seen xs ≡ true
      → Takes reads (ask.key_is (codes "$sealed") ∷ ask.those (seen ++ xs) ∷ ask.close ∷ []) rest (draft q (give (piece.words (seen ++ xs)) fs)) hs → Takes reads (ask.more_names seen ∷ []) (items_tokens js ++ rest) (draft q (frame.words seen ∷ fs)) hs
  unfolding step gather
  names_give no_items seen xs rest q fs hs e n d =
      first_step reads (ask.more_names seen) end_array (ask.key_is (codes "$sealed") ∷ ask.those seen ∷ ask.close ∷ []) rest (draft q (frame.words seen ∷ fs)) hs refl
      (subst (λ l. Takes reads (ask.key_is (codes "$sealed") ∷ ask.those l ∷ ask.close ∷ []) rest (draft q (give (piece.words l) fs)) hs) (sym (none_behind seen xs e)) d)
  names_give (item (json.string s) js) seen xs rest q fs hs e n d =
      let r = map_is (λ ys. s ∷ ys) (each name_meant js) xs e in
      let m = and_parts (not (stands_in seen s)) (are_new (seen ++ s ∷ []) r.0) (ap (are_new seen) r.2 ∙ n) in
      first_step reads (ask.more_names seen) (string s) (ask.more_names (seen ++ s ∷ []) ∷ []) (items_tokens js ++ rest) (draft q (frame.words seen ∷ fs)) hs (ap (λ t. if_it t (ask.more_names (seen ++ s ∷ []) ∷ [])) m.0)
      (names_give js (seen ++ s ∷ []) r.0 rest q fs hs r.1 m.1
      (subst (λ l. Takes reads (ask.key_is (codes "$sealed") ∷ ask.those l ∷ ask.close ∷ []) rest (draft q (give (piece.words l) fs)) hs) (sym (behind seen s r.0 xs r.2)) d))
  names_give (item json.null js) seen xs rest q fs hs e n d = no_answer xs e
  names_give (item (json.boolean b) js) seen xs rest q fs hs e n d = no_answer xs e
  names_give (item (json.number s) js) seen xs rest q fs hs e n d = no_answer xs e
  names_give (item (json.array is) js) seen xs rest q fs hs e n d = no_answer xs e
  names_give (item (json.object ms) js) seen xs rest q fs hs e n d = no_answer xs e

  pub class_names_give : (j : Json) (xs : List (List ℕ)) (rest : List Token) (fs hs : Draft) → class_names j ≡ Some xs
      → Takes reads (ask.key_is (codes "$sealed") ∷ ask.those xs ∷ ask.close ∷ []) rest (giving (piece.words xs) fs) hs → Takes reads (ask.class_names ∷ []) (json_tokens j ++ rest) fs hs
  unfolding step gather
  class_names_give (json.array js) xs rest fs hs e d =
      let h = and_then_is (if_true (are_new [])) (each name_meant js) xs e in
      let t = true_is (are_new []) h.0 xs h.2 in
      first_step reads ask.class_names begin_array (ask.more_names [] ∷ []) (items_tokens js ++ rest) fs hs refl
      (names_give js [] h.0 rest fs.sheet fs.frames hs h.1 t.0 (subst (λ l. Takes reads (ask.key_is (codes "$sealed") ∷ ask.those l ∷ ask.close ∷ []) rest (giving (piece.words l) fs) hs) (sym t.1) d))
  class_names_give json.null xs rest fs hs e d = no_answer xs e
  class_names_give (json.boolean b) xs rest fs hs e d = no_answer xs e
  class_names_give (json.number s) xs rest fs hs e d = no_answer xs e
  class_names_give (json.string s) xs rest fs hs e d = no_answer xs e
  class_names_give (json.object ms) xs rest fs hs e d = no_answer xs e

  -- a frame with a flag that has not come
  pub last_flag_gives : (k : List ℕ) (ms : Members) (x : Bool) (make : Bool → Frame) (q : Sheet) (fs : List Frame) → ((b : Bool) → take (piece.flag b) (make false) ≡ make b) → last_flag k ms ≡ Some x
      → Takes reads (ask.flag_or_close k ∷ []) (members_tokens ms) (draft q (make false ∷ fs)) (finish q (make x ∷ fs))
  unfolding step gather
  last_flag_gives k no_members x make q fs is e = one_token reads (ask.flag_or_close k) end_object (draft q (make false ∷ fs)) (finish q (make x ∷ fs)) refl (ap (λ b. finish q (make b ∷ fs)) (same_Some false x e))
  last_flag_gives k (member l j no_members) x make q fs is e =
      let h = if_is (bytes_eq l k) (flag_meant j) x e in
      first_step reads (ask.flag_or_close k) (key l) (ask.flag ∷ ask.close ∷ []) (json_tokens j ++ end_object ∷ []) (draft q (make false ∷ fs)) (finish q (make x ∷ fs)) (ap (λ t. if_it t (ask.flag ∷ ask.close ∷ [])) h.0)
      (then_close ask.flag (json_tokens j) no_members (draft q (make false ∷ fs)) (draft q (make x ∷ fs)) refl (arrives reads (ap (λ f. draft q (f ∷ fs)) (is x)) (flag_gives j x h.1 (draft q (make false ∷ fs)))))
  last_flag_gives k (member l j (member m i ms)) x make q fs is e = no_answer x e
