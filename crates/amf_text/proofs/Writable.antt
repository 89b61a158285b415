-- What can be written: JSON whose numbers are numbers and whose strings are UTF-8. Its text is UTF-8 and has its tokens.
use Rattle.std.proofs.Common.{◌≡◌, ℕ, suc, ◌<◌, ◌&&◌, ◌||◌, Bool, true, false, cond, List, [], ◌∷◌, ◌++◌, map, drop, Some, None, option_and_then, refl, sym, ap, ap₂, ◌∙◌, subst, inl, inr, arith, append-nil, eqb-true, leb-true, ◌+◌}
use Rattle.std.specs.Prelude.{⊤, ◌==◌}
use Rattle.std.specs.List.{AllZip, AllByRecursion, prefix_len}
use Rattle.std.specs.Str.{IsUtf8}
use Rattle.std.specs.Char.{is_ascii_digit}
use Rattle.std.proofs.lemmas.Bool.{and_parts}
use Rattle.std.proofs.lemmas.Str.{IsUtf8-append, IsUtf8-nil}
use Rattle.json.specs.Token.{Token, begin_object, end_object, begin_array, end_array, key, string, number, boolean, null, bad}
use Rattle.json.specs.Json.{Json, no_items, no_members, item, member, Items, Members}
use Rattle.json.specs.Json as json
use Rattle.json.specs.Print.{token_text, begins, ends, separator, print_from, print, IsNumber, ArePrintable}
use Rattle.json.specs.Layout.{Last, nothing, is_value, gap, depth_at, step, piece, pretty_from, pretty}
use Rattle.json.specs.Tree.{json_tokens, items_tokens, members_tokens, HasNumbers, ItemsHaveNumbers, MembersHaveNumbers}
use Rattle.json.specs.Word.{head, after_digits, after_minus, after_sign, after_whole, after_fraction, after_exponent, after_number}
use Rattle.json.specs.Lex.{tokens}
use Rattle.json.specs.Spaced.{AreGaps, print_spaced}
use Rattle.json.proofs.Printed.Tokens.{tokens-print_spaced}
use Rattle.json.proofs.Printed.Utf8.{are_ascii, IsUtf8-are_ascii, IsUtf8-quoted, IsUtf8-key, IsUtf8-boolean, IsUtf8-separator, IsUtf8-IsGap}
use Rattle.amf_graph.proofs.Alls.{all_append}
use Rattle.amf_text.specs.Texts.{IsTokenOf, Layout, lines, compact, text_by}
use Rattle.amf_text.proofs.Behind.{line_feed_behind}
use Rattle.amf_text.proofs.Goals.{and_then_is, no_answer}
use Rattle.amf_text.proofs.Lexical.{tokens-pretty, one_gap}
use Rattle.amf_text.proofs.ToldBodies.{below_test}

abbrev mutual
  pub IsWritable : Json → Type 0
  IsWritable json.null = ⊤
  IsWritable (json.boolean b) = ⊤
  IsWritable (json.number s) = IsNumber s
  IsWritable (json.string s) = IsUtf8 s
  IsWritable (json.array js) = AreWritable js
  IsWritable (json.object ms) = MembersWritable ms

  pub AreWritable : Items → Type 0
  AreWritable no_items = ⊤
  AreWritable (item j js) = IsWritable j × AreWritable js

  pub MembersWritable : Members → Type 0
  MembersWritable no_members = ⊤
  MembersWritable (member k j ms) = IsUtf8 k × (IsWritable j × MembersWritable ms)

-- Tokens.

abbrev pub IsSaid : Token → Type 0
IsSaid begin_object = ⊤
IsSaid end_object = ⊤
IsSaid begin_array = ⊤
IsSaid end_array = ⊤
IsSaid (key s) = IsUtf8 s
IsSaid (string s) = IsUtf8 s
IsSaid (number s) = IsNumber s
IsSaid (boolean b) = ⊤
IsSaid null = ⊤
IsSaid bad = ⊥

mutual
  tokens_said : (j : Json) → IsWritable j → AllByRecursion IsSaid (json_tokens j)
  tokens_said json.null h = (tt, tt)
  tokens_said (json.boolean b) h = (tt, tt)
  tokens_said (json.number s) h = (h, tt)
  tokens_said (json.string s) h = (h, tt)
  tokens_said (json.array js) h = (tt, items_said js h)
  tokens_said (json.object ms) h = (tt, members_said ms h)

  items_said : (js : Items) → AreWritable js → AllByRecursion IsSaid (items_tokens js)
  items_said no_items h = (tt, tt)
  items_said (item j js) h = all_append IsSaid (json_tokens j) (items_tokens js) (tokens_said j h.0) (items_said js h.1)

  members_said : (ms : Members) → MembersWritable ms → AllByRecursion IsSaid (members_tokens ms)
  members_said no_members h = (tt, tt)
  members_said (member k j ms) h = (h.0, all_append IsSaid (json_tokens j) (members_tokens ms) (tokens_said j h.1.0) (members_said ms h.1.1))

mutual
  pub numbers_are : (j : Json) → IsWritable j → HasNumbers j
  numbers_are json.null h = tt
  numbers_are (json.boolean b) h = tt
  numbers_are (json.number s) h = h
  numbers_are (json.string s) h = tt
  numbers_are (json.array js) h = item_numbers js h
  numbers_are (json.object ms) h = member_numbers ms h

  item_numbers : (js : Items) → AreWritable js → ItemsHaveNumbers js
  item_numbers no_items h = tt
  item_numbers (item j js) h = (numbers_are j h.0, item_numbers js h.1)

  member_numbers : (ms : Members) → MembersWritable ms → MembersHaveNumbers ms
  member_numbers no_members h = tt
  member_numbers (member k j ms) h = (numbers_are j h.1.0, member_numbers ms h.1.1)

-- other digits
one_said : (a b : Token) → IsTokenOf a b → IsSaid a → IsSaid b
one_said a b (inl e) h = subst IsSaid e h
one_said a b (inr (s, t, e, f, one)) h = subst IsSaid (sym f) one.0

all_said : (us ts : List Token) → AllZip IsTokenOf us ts → AllByRecursion IsSaid us → AllByRecursion IsSaid ts
all_said [] [] z h = tt
all_said [] (t ∷ ts) z h = elim z [ ]
all_said (u ∷ us) [] z h = elim z [ ]
all_said (u ∷ us) (t ∷ ts) z h = (one_said u t z.0 h.0, all_said us ts z.1 h.1)

printable : (ts : List Token) → AllByRecursion IsSaid ts → ArePrintable ts
unfolding ArePrintable
printable [] h = tt
printable (begin_object ∷ ts) h = (tt, printable ts h.1)
printable (end_object ∷ ts) h = (tt, printable ts h.1)
printable (begin_array ∷ ts) h = (tt, printable ts h.1)
printable (end_array ∷ ts) h = (tt, printable ts h.1)
printable (key s ∷ ts) h = (tt, printable ts h.1)
printable (string s ∷ ts) h = (tt, printable ts h.1)
printable (number s ∷ ts) h = (h.0, printable ts h.1)
printable (boolean b ∷ ts) h = (tt, printable ts h.1)
printable (null ∷ ts) h = (tt, printable ts h.1)
printable (bad ∷ ts) h = absurd h.0

-- Numbers are ASCII.

abbrev pub AreSmall : List ℕ → Type 0
AreSmall xs = AllByRecursion (λ b. b < 128) xs

small_ascii : (xs : List ℕ) → AreSmall xs → are_ascii xs ≡ true
small_ascii [] h = refl
small_ascii (x ∷ xs) h = ap₂ (λ a b. a && b) (below_test x 128 h.0) (small_ascii xs h.1)

pub small_utf8 : (xs : List ℕ) → AreSmall xs → IsUtf8 xs
small_utf8 xs h = IsUtf8-are_ascii xs (small_ascii xs h)

-- one byte that was tested
dropped_one : (c : ℕ) (t : List ℕ) → c < 128 → (head t == c) ≡ true → AreSmall (drop 1 t) → AreSmall t
dropped_one c [] l e h = tt
dropped_one c (x ∷ xs) l e h = (subst (λ n. n < 128) (sym (eqb-true x c e)) l, h)

optional_one : (b : Bool) (t : List ℕ) → (b ≡ true → AreSmall (drop 1 t) → AreSmall t) → AreSmall (cond b (drop 1 t) t) → AreSmall t
optional_one true t f h = f refl h
optional_one false t f h = h

either_one : (a b : ℕ) (t : List ℕ) → a < 128 → b < 128 → ((head t == a) || (head t == b)) ≡ true → AreSmall (drop 1 t) → AreSmall t
either_one a b t l m e h = go (head t == a) refl e
  where
    go : (x : Bool) → (head t == a) ≡ x → (x || (head t == b)) ≡ true → AreSmall t
    go true f e = dropped_one a t l f h
    go false f e = dropped_one b t m e h

digit_run : (t : List ℕ) → AreSmall (drop (prefix_len is_ascii_digit t) t) → AreSmall t
digit_run [] h = tt
digit_run (x ∷ xs) h = go (is_ascii_digit x) refl h (digit_run xs)
  where
    one_more : (n : ℕ) → 1 + n ≡ suc n
    one_more n = omega arith

    go : (b : Bool) → is_ascii_digit x ≡ b → AreSmall (drop (cond b (1 + prefix_len is_ascii_digit xs) 0) (x ∷ xs)) → (AreSmall (drop (prefix_len is_ascii_digit xs) xs) → AreSmall xs) → AreSmall (x ∷ xs)
    go true e h more = (omega (arith, leb-true x 57 (and_parts _ _ e).1), more (subst (λ n. AreSmall (drop n (x ∷ xs))) (one_more (prefix_len is_ascii_digit xs)) h))
    go false e h more = h

digits_small : (t r : List ℕ) → after_digits t ≡ Some r → AreSmall r → AreSmall t
digits_small t r e h = go (prefix_len is_ascii_digit t == 0) e
  where
    same : {x y : List ℕ} → Some x ≡ Some y → x ≡ y
    same e = cc

    go : (b : Bool) → cond b None (Some (drop (prefix_len is_ascii_digit t) t)) ≡ Some r → AreSmall t
    go true e = no_answer r e
    go false e = digit_run t (subst AreSmall (sym (same e)) h)

whole_small : (t r : List ℕ) → after_whole t ≡ Some r → AreSmall r → AreSmall t
whole_small t r e h = go (head t == 48) refl e
  where
    same : {x y : List ℕ} → Some x ≡ Some y → x ≡ y
    same e = cc

    go : (b : Bool) → (head t == 48) ≡ b → cond b (Some (drop 1 t)) (after_digits t) ≡ Some r → AreSmall t
    go true f e = dropped_one 48 t (omega arith) f (subst AreSmall (sym (same e)) h)
    go false f e = digits_small t r e h

fraction_small : (t r : List ℕ) → after_fraction t ≡ Some r → AreSmall r → AreSmall t
fraction_small t r e h = go (head t == 46) refl e
  where
    same : {x y : List ℕ} → Some x ≡ Some y → x ≡ y
    same e = cc

    go : (b : Bool) → (head t == 46) ≡ b → cond b (after_digits (drop 1 t)) (Some t) ≡ Some r → AreSmall t
    go true f e = dropped_one 46 t (omega arith) f (digits_small (drop 1 t) r e h)
    go false f e = subst AreSmall (sym (same e)) h

exponent_small : (t r : List ℕ) → after_exponent t ≡ Some r → AreSmall r → AreSmall t
exponent_small t r e h = go ((head t == 101) || (head t == 69)) refl e
  where
    same : {x y : List ℕ} → Some x ≡ Some y → x ≡ y
    same e = cc

    signed : AreSmall (after_sign (drop 1 t)) → AreSmall (drop 1 t)
    signed = optional_one ((head (drop 1 t) == 45) || (head (drop 1 t) == 43)) (drop 1 t) (either_one 45 43 (drop 1 t) (omega arith) (omega arith))

    go : (b : Bool) → ((head t == 101) || (head t == 69)) ≡ b → cond b (after_digits (after_sign (drop 1 t))) (Some t) ≡ Some r → AreSmall t
    go true f e = either_one 101 69 t (omega arith) (omega arith) f (signed (digits_small (after_sign (drop 1 t)) r e h))
    go false f e = subst AreSmall (sym (same e)) h

pub number_small : (s : List ℕ) → IsNumber s → AreSmall s
unfolding after_number
number_small s n =
    let a = and_then_is after_exponent (option_and_then after_fraction (after_whole (after_minus s))) [] n in
    let b = and_then_is after_fraction (after_whole (after_minus s)) a.0 a.1 in
    let whole : AreSmall (after_minus s) = whole_small (after_minus s) b.0 b.1 (fraction_small b.0 a.0 b.2 (exponent_small a.0 [] a.2 tt)) in
    optional_one (head s == 45) s (dropped_one 45 s (omega arith)) whole

-- What is printed is UTF-8.

said_utf8 : (t : Token) → IsSaid t → IsUtf8 (token_text t)
said_utf8 begin_object h = IsUtf8-are_ascii (123 ∷ []) refl
said_utf8 end_object h = IsUtf8-are_ascii (125 ∷ []) refl
said_utf8 begin_array h = IsUtf8-are_ascii (91 ∷ []) refl
said_utf8 end_array h = IsUtf8-are_ascii (93 ∷ []) refl
said_utf8 (key s) h = IsUtf8-key s h
said_utf8 (string s) h = IsUtf8-quoted s h
said_utf8 (number s) h = small_utf8 s (number_small s h)
said_utf8 (boolean b) h = IsUtf8-boolean b
said_utf8 null h = IsUtf8-are_ascii (token_text null) refl
said_utf8 bad h = IsUtf8-nil

print_utf8 : (c : Bool) (ts : List Token) → AllByRecursion IsSaid ts → IsUtf8 (print_from c ts)
unfolding print_from
print_utf8 c [] h = IsUtf8-nil
print_utf8 c (t ∷ ts) h =
    IsUtf8-append (separator c t) (token_text t ++ print_from (ends t) ts) (IsUtf8-separator c t)
    (IsUtf8-append (token_text t) (print_from (ends t) ts) (said_utf8 t h.0) (print_utf8 (ends t) ts h.1))

piece_utf8 : (s : Last × ℕ) (t : Token) → IsSaid t → IsUtf8 (piece s t)
piece_utf8 s t h =
    IsUtf8-append (separator (is_value s.0) t) (gap s.0 (begins t) (depth_at s.1 t) ++ token_text t) (IsUtf8-separator (is_value s.0) t)
    (IsUtf8-append (gap s.0 (begins t) (depth_at s.1 t)) (token_text t) (IsUtf8-IsGap (gap s.0 (begins t) (depth_at s.1 t)) (one_gap s.0 (begins t) (depth_at s.1 t))) (said_utf8 t h))

pretty_utf8 : (s : Last × ℕ) (ts : List Token) → AllByRecursion IsSaid ts → IsUtf8 (pretty_from s ts)
unfolding pretty_from
pretty_utf8 s [] h = IsUtf8-nil
pretty_utf8 s (t ∷ ts) h = IsUtf8-append (piece s t) (pretty_from (step s t) ts) (piece_utf8 s t h.0) (pretty_utf8 (step s t) ts h.1)

line_utf8 : (xs : List ℕ) → IsUtf8 xs → IsUtf8 (xs ++ 10 ∷ [])
line_utf8 xs h = IsUtf8-append xs (10 ∷ []) h (IsUtf8-are_ascii (10 ∷ []) refl)

text_utf8 : (layout : Layout) (ts : List Token) → AllByRecursion IsSaid ts → IsUtf8 (text_by layout ts)
text_utf8 lines ts h = line_utf8 (pretty ts) (pretty_utf8 (nothing, 0) ts h)
text_utf8 compact ts h = line_utf8 (print ts) (print_utf8 false ts h)

-- Its tokens.

close_up : List Token → List (List ℕ × Token)
close_up [] = []
close_up (t ∷ ts) = ([], t) ∷ close_up ts

close_seconds : (ts : List Token) → map (λ p. p.1) (close_up ts) ≡ ts
unfolding close_up
close_seconds [] = refl
close_seconds (t ∷ ts) = ap (λ l. t ∷ l) (close_seconds ts)

close_gaps : (ts : List Token) → AreGaps (close_up ts)
unfolding close_up
close_gaps [] = tt
close_gaps (t ∷ ts) = (tt, close_gaps ts)

close_print : (c : Bool) (ts : List Token) → print_spaced c (close_up ts) ≡ print_from c ts
unfolding close_up print_spaced print_from
close_print c [] = refl
close_print c (t ∷ ts) = ap (λ l. separator c t ++ (token_text t ++ l)) (close_print (ends t) ts)

tokens_print : (ts : List Token) → ArePrintable ts → tokens (print ts ++ 10 ∷ []) ≡ ts
tokens_print ts h =
    let same = close_seconds ts in
    let all = close_gaps ts in
    let p : ArePrintable (map (λ p. p.1) (close_up ts)) = rw same h in
    ap (λ l. tokens (l ++ 10 ∷ [])) (sym (close_print false ts)) ∙ line_feed_behind (close_up ts) all p
    ∙ ap tokens (append-nil (print_spaced false (close_up ts))) ∙ tokens-print_spaced (close_up ts) all p ∙ same

text_tokens : (layout : Layout) (ts : List Token) → ArePrintable ts → tokens (text_by layout ts) ≡ ts
text_tokens lines ts h = tokens-pretty ts h
text_tokens compact ts h = tokens_print ts h

-- The text of writable JSON, in any digits.

pub record IsLaidOut (layout : Layout) (ts : List Token) : Type 0 where
  pub utf8 : IsUtf8 (text_by layout ts)
  pub same : tokens (text_by layout ts) ≡ ts

pub laid_out : (layout : Layout) (j : Json) (ts : List Token) → IsWritable j → AllZip IsTokenOf (json_tokens j) ts → IsLaidOut layout ts
laid_out layout j ts h z =
    let said = all_said (json_tokens j) ts z (tokens_said j h) in
    record { utf8 = text_utf8 layout ts said; same = text_tokens layout ts (printable ts said) }
