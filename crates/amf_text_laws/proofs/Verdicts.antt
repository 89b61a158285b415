-- The verdict on a text is one.
use Rattle.std.proofs.Common.{◌≡◌, ℕ, zero, suc, ◌≤◌, ◌⊎◌, inl, inr, Bool, true, false, if◌then◌else◌, List, [], ◌∷◌, ◌++◌, length, take, drop, Some, None, refl, sym, ap, ◌∙◌, subst, append_assoc, arith, ◌+◌}
use Rattle.std.specs.Prelude.{⊤, option_map, option_and_then, is_some, nat_lt, slice_get}
use Rattle.std.specs.List.{flat_map}
use Rattle.std.specs.Str.{IsUtf8}
use Rattle.std.specs.Str.Lossy.{utf8_valid_len}
use Rattle.std.proofs.lemmas.Bool.{false≢true, and_parts, ltb-true}
use Rattle.std.proofs.lemmas.List.{take_all}
use Rattle.std.proofs.lemmas.Option.{same_Some}
use Rattle.std.proofs.lemmas.Str.{utf8_valid_len-IsUtf8}
use Rattle.json.specs.Token.{Token, key}
use Rattle.json.specs.Json.{Json, Members, value}
use Rattle.json.specs.Json as json
use Rattle.json.specs.Lex.{between, lex}
use Rattle.json.specs.Tree.{json_tokens, depth}
use Rattle.json.proofs.Printed.Trees.{value-json_tokens}
use Rattle.amf_graph.specs.Graph.{Graph}
use Rattle.amf_graph.specs.Order.{is_array}
use Rattle.amf_text.specs.declared.reason.TextReason.{TextReason}
use Rattle.amf_text.specs.declared.reason.TextReason.TheVariants.{Truncated, NotUtf8, NotJson, Trailing, NoLabel}
use Rattle.amf_text.specs.Scalars.{Reads}
use Rattle.amf_text.specs.Documents.{Document, Header, Message, value3, value0, file, packet}
use Rattle.amf_text.specs.Meant.{Tree, said, called, body, mixed, Trees, no_trees, tree, Named, no_named, named}
use Rattle.amf_text.specs.Linked.{graph_of, calls, calls_trees, calls_named, are_linked}
use Rattle.amf_text.specs.Accepted.{Part, IsJsonText, MeansPart, document_meant, linked_part, linked_header, linked_message, all_linked, linked}
use Rattle.amf_text.specs.Asks.{Goal, start, goals_step, left_after, asked, fault_of}
use Rattle.amf_text.specs.Scan.{Scan, Stop, ended, comma_last, inside, fault, scan}
use Rattle.amf_text.specs.Refused.{tokens_of, front, has_more, at_end, CanEnd, calls_of, trees_calls, named_calls, part_calls, document_calls, first_false, label_places, IsFirstFault, LacksColon, IsLeft, IsEnd, IsRefused, at_token, at_colon, unfinished, cut, no_utf8, no_end, no_token, behind, behind_end, no_label, text_limit, IsTextAccepted, IsTextRefused, too_large, within}
use Rattle.amf_text.proofs.Goals.{no_answer, and_then_is, map_is}
use Rattle.amf_text.proofs.Asked.{if_is}
use Rattle.amf_text.proofs.CompleteDocuments.{document_done}
use Rattle.amf_text_laws.specs.Verdicts.{IsJudged, OneVerdict}
use Rattle.amf_text_laws.proofs.Scanned.{not_true, scanned}
use Rattle.amf_text_laws.proofs.SomeVerdict.{some_verdict}
use Rattle.amf_text_laws.proofs.CallPlaces.{calls_have_places, judged}

abbrev Same : TextReason → ℕ → TextReason → ℕ → Type 0
Same r at s place = (r ≡ s) × (at ≡ place)

-- The first token that is wrong is one.

stops : {Z : Type 0} (reads : Reads) (goals gs : List Goal) (t : Token) (ts : List Token) (ks : List Goal) → goals ≡ gs → goals_step reads gs t ≡ None
    → option_and_then (λ hs. left_after reads hs ts) (goals_step reads goals t) ≡ Some ks → Z
stops reads goals gs t ts ks s n e = let h = and_then_is (λ hs. left_after reads hs ts) (goals_step reads goals t) ks e in no_answer h.0 (sym n ∙ ap (λ g. goals_step reads g t) (sym s) ∙ h.1)

abbrev OneFault : List (ℕ × Token) → List (ℕ × Token) → ℕ × Token → ℕ × Token → List Goal → List Goal → Type 0
OneFault after rest x y gs hs = (x ≡ y) × (after ≡ rest) × (gs ≡ hs)

fault_one : (reads : Reads) (goals : List Goal) (before others after rest : List (ℕ × Token)) (x y : ℕ × Token) (gs hs : List Goal)
    → before ++ x ∷ after ≡ others ++ y ∷ rest → left_after reads goals (tokens_of before) ≡ Some gs → goals_step reads gs x.1 ≡ None
    → left_after reads goals (tokens_of others) ≡ Some hs → goals_step reads hs y.1 ≡ None → OneFault after rest x y gs hs
fault_one reads goals [] [] after rest x y gs hs e a n b m =
    let h : x ≡ y = cc in
    let k : after ≡ rest = cc in
    (h, k, sym (same_Some goals gs a) ∙ same_Some goals hs b)
fault_one reads goals [] (z ∷ zs) after rest x y gs hs e a n b m =
    let h : x ≡ z = cc in
    stops reads goals gs x.1 (tokens_of zs) hs (same_Some goals gs a) n (ap (λ w. option_and_then (λ k. left_after reads k (tokens_of zs)) (goals_step reads goals w.1)) h ∙ b)
fault_one reads goals (z ∷ zs) [] after rest x y gs hs e a n b m =
    let h : y ≡ z = cc in
    stops reads goals hs y.1 (tokens_of zs) gs (same_Some goals hs b) m (ap (λ w. option_and_then (λ k. left_after reads k (tokens_of zs)) (goals_step reads goals w.1)) h ∙ a)
fault_one reads goals (z ∷ zs) (w ∷ ws) after rest x y gs hs e a n b m =
    let h : z ≡ w = cc in
    let more : zs ++ x ∷ after ≡ ws ++ y ∷ rest = cc in
    let p = and_then_is (λ k. left_after reads k (tokens_of zs)) (goals_step reads goals z.1) gs a in
    let q = and_then_is (λ k. left_after reads k (tokens_of ws)) (goals_step reads goals w.1) hs b in
    let k : p.0 ≡ q.0 = same_Some p.0 q.0 (sym p.1 ∙ ap (λ (v : ℕ × Token). goals_step reads goals v.1) h ∙ q.1) in
    fault_one reads p.0 zs ws after rest x y gs hs more p.2 n (ap (λ g. left_after reads g (tokens_of ws)) k ∙ q.2) m

not_left : (reads : Reads) (goals : List Goal) (before after : List (ℕ × Token)) (x : ℕ × Token) (gs ks : List Goal) → left_after reads goals (tokens_of before) ≡ Some gs
    → goals_step reads gs x.1 ≡ None → left_after reads goals (tokens_of (before ++ x ∷ after)) ≡ Some ks → ⊥
not_left reads goals [] after x gs ks a n l = stops reads goals gs x.1 (tokens_of after) ks (same_Some goals gs a) n l
not_left reads goals (z ∷ zs) after x gs ks a n l =
    let p = and_then_is (λ k. left_after reads k (tokens_of zs)) (goals_step reads goals z.1) gs a in
    let q = and_then_is (λ k. left_after reads k (tokens_of (zs ++ x ∷ after))) (goals_step reads goals z.1) ks l in
    let k : q.0 ≡ p.0 = same_Some q.0 p.0 (sym q.1 ∙ p.1) in
    not_left reads p.0 zs after x gs ks p.2 n (ap (λ g. left_after reads g (tokens_of (zs ++ x ∷ after))) (sym k) ∙ q.2)

fault_not_left : (reads : Reads) (input : List ℕ) (before after : List (ℕ × Token)) (at : ℕ) (t : Token) (gs ks : List Goal)
    → IsFirstFault reads (scan (front input)) before after at t gs → IsLeft reads input ks → ⊥
fault_not_left reads input before after at t gs ks f l =
    not_left reads (start ∷ []) before after (at, t) gs ks f.asked_for f.wrong (ap (λ ts. asked reads (tokens_of ts)) (sym f.tokens) ∙ l)

lacks_same : (reads : Reads) (s : Scan) (after rest : List (ℕ × Token)) (t u : Token) (gs hs : List Goal) → after ≡ rest → t ≡ u → gs ≡ hs
    → LacksColon reads s rest u hs → LacksColon reads s after t gs
lacks_same reads s after rest t u gs hs a b c l = record {
  last = a ∙ l.last;
  at_end = l.at_end;
  name = l.name;
  is_string = b ∙ l.is_string;
  as_key = ap (λ g. is_some (goals_step reads g (key l.name))) c ∙ l.as_key;
}

data Wrong (reads : Reads) (input : List ℕ) (after : List (ℕ × Token)) (at : ℕ) (t : Token) (gs : List Goal) (r : TextReason) (place : ℕ) : Type 0 where
  is_wrong : (LacksColon reads (scan (front input)) after t gs → ⊥) → r ≡ fault_of gs t → place ≡ at → Wrong reads input after at t gs r place
  is_key : LacksColon reads (scan (front input)) after t gs → r ≡ at_end input → place ≡ (if has_more input then utf8_valid_len input else at) → Wrong reads input after at t gs r place

wrong_one : (reads : Reads) (input : List ℕ) (after rest : List (ℕ × Token)) (at at' : ℕ) (t u : Token) (gs hs : List Goal) (r s : TextReason) (i j : ℕ)
    → at ≡ at' → t ≡ u → after ≡ rest → gs ≡ hs → Wrong reads input after at t gs r i → Wrong reads input rest at' u hs s j → Same r i s j
wrong_one reads input after rest at at' t u gs hs r s i j a b c d (is_wrong n p q) (is_wrong m v w) = (p ∙ ap (λ g. fault_of g t) d ∙ ap (fault_of hs) b ∙ sym v, q ∙ a ∙ sym w)
wrong_one reads input after rest at at' t u gs hs r s i j a b c d (is_wrong n p q) (is_key l v w) = absurd (n (lacks_same reads (scan (front input)) after rest t u gs hs c b d l))
wrong_one reads input after rest at at' t u gs hs r s i j a b c d (is_key l p q) (is_wrong m v w) = absurd (m (lacks_same reads (scan (front input)) rest after u t hs gs (sym c) (sym b) (sym d) l))
wrong_one reads input after rest at at' t u gs hs r s i j a b c d (is_key k p q) (is_key l v w) = (p ∙ sym v, q ∙ ap (λ n. if has_more input then utf8_valid_len input else n) a ∙ sym w)

-- What could be whole with bytes behind it could be whole without them.

both_parts : (n : ℕ) (xs : List ℕ) → xs ≡ take n xs ++ drop n xs
both_parts zero xs = refl
both_parts (suc n) [] = refl
both_parts (suc n) (x ∷ xs) = ap (λ l. x ∷ l) (both_parts n xs)

rest_from : (at n : ℕ) (xs : List ℕ) → (ys : List ℕ) × (drop at xs ≡ drop at (take n xs) ++ ys)
rest_from zero n xs = (drop n xs, both_parts n xs)
rest_from (suc at) zero [] = ([], refl)
rest_from (suc at) (suc n) [] = ([], refl)
rest_from (suc at) zero (x ∷ xs) = (drop at xs, refl)
rest_from (suc at) (suc n) (x ∷ xs) = rest_from at n xs

front_can_end : (at n : ℕ) (xs : List ℕ) → CanEnd (drop at xs) → CanEnd (drop at (take n xs))
front_can_end at n xs (more, t, rest, u, l, b) =
    let r = rest_from at n xs in
    let e : drop at xs ++ more ≡ drop at (take n xs) ++ (r.0 ++ more) = ap (λ ys. ys ++ more) r.1 ∙ append_assoc (drop at (take n xs)) r.0 more in
    (r.0 ++ more, t, rest, subst IsUtf8 e u, ap (lex between) (sym e) ∙ l, b)

-- Inside a token.

data Cut (input : List ℕ) (at : ℕ) (r : TextReason) (place : ℕ) : Type 0 where
  is_cut : CanEnd (drop at input) → r ≡ Truncated → place ≡ at → Cut input at r place
  bytes_cut : (CanEnd (drop at input) → ⊥) → CanEnd (drop at (front input)) → r ≡ NotUtf8 → place ≡ utf8_valid_len input → Cut input at r place
  not_cut : (CanEnd (drop at (front input)) → ⊥) → r ≡ NotJson → place ≡ at → Cut input at r place

cut_one : (input : List ℕ) (at : ℕ) (r s : TextReason) (i j : ℕ) → Cut input at r i → Cut input at s j → Same r i s j
cut_one input at r s i j (is_cut c p q) (is_cut d v w) = (p ∙ sym v, q ∙ sym w)
cut_one input at r s i j (is_cut c p q) (bytes_cut d f v w) = absurd (d c)
cut_one input at r s i j (is_cut c p q) (not_cut d v w) = absurd (d (front_can_end at (utf8_valid_len input) input c))
cut_one input at r s i j (bytes_cut c d p q) (is_cut f v w) = absurd (c f)
cut_one input at r s i j (bytes_cut c d p q) (bytes_cut f g v w) = (p ∙ sym v, q ∙ sym w)
cut_one input at r s i j (bytes_cut c d p q) (not_cut f v w) = absurd (f d)
cut_one input at r s i j (not_cut c p q) (is_cut d v w) = absurd (c (front_can_end at (utf8_valid_len input) input d))
cut_one input at r s i j (not_cut c p q) (bytes_cut d f v w) = absurd (c f)
cut_one input at r s i j (not_cut c p q) (not_cut d v w) = (p ∙ sym v, q ∙ sym w)

-- More has to come.

data Unfinished (input : List ℕ) (stop : Stop) (r : TextReason) (place : ℕ) : Type 0 where
  between_tokens : IsEnd stop → r ≡ at_end input → place ≡ utf8_valid_len input → Unfinished input stop r place
  in_token : (at : ℕ) → stop ≡ inside at → Cut input at r place → Unfinished input stop r place
  out_of_place : (at : ℕ) → stop ≡ fault at → r ≡ NotJson → place ≡ at → Unfinished input stop r place

inside_fault : {Z : Type 0} (stop : Stop) (at place : ℕ) → stop ≡ inside at → stop ≡ fault place → Z
inside_fault stop at place e f = let h : inside at ≡ fault place = sym e ∙ f in absurd cc

unfinished_one : (input : List ℕ) (stop : Stop) (r s : TextReason) (i j : ℕ) → Unfinished input stop r i → Unfinished input stop s j → Same r i s j
unfinished_one input stop r s i j (between_tokens c p q) (between_tokens d v w) = (p ∙ sym v, q ∙ sym w)
unfinished_one input stop r s i j (between_tokens c p q) (in_token at e k) = absurd (subst IsEnd e c)
unfinished_one input stop r s i j (between_tokens c p q) (out_of_place at e v w) = absurd (subst IsEnd e c)
unfinished_one input stop r s i j (in_token at e k) (between_tokens d v w) = absurd (subst IsEnd e d)
unfinished_one input stop r s i j (in_token at e k) (in_token place f l) =
    let h : inside at ≡ inside place = sym e ∙ f in
    let g : at ≡ place = cc in
    cut_one input at r s i j k (subst (λ n. Cut input n s j) (sym g) l)
unfinished_one input stop r s i j (in_token at e k) (out_of_place place f v w) = inside_fault stop at place e f
unfinished_one input stop r s i j (out_of_place at e p q) (between_tokens d v w) = absurd (subst IsEnd e d)
unfinished_one input stop r s i j (out_of_place at e p q) (in_token place f l) = inside_fault stop place at f e
unfinished_one input stop r s i j (out_of_place at e p q) (out_of_place place f v w) =
    let h : fault at ≡ fault place = sym e ∙ f in
    let g : at ≡ place = cc in
    (p ∙ sym v, q ∙ g ∙ sym w)

-- A text that means something is whole.

record Understood (reads : Reads) (text : List ℕ) : Type 0 where
  no_more : has_more text ≡ false
  all_met : IsLeft reads text []
  at_the_end : (scan (front text)).stop ≡ ended

not_less : (n : ℕ) → nat_lt n n ≡ false
not_less n = not_true (nat_lt n n) (λ e. let h = ltb-true n n e in omega (arith, h))

understood_by : (reads : Reads) (text : List ℕ) (p : Document Part) (j : Json) → IsJsonText text j → document_meant reads j ≡ Some p → Understood reads text
understood_by reads text p (json.object ms) t m =
    let valid : utf8_valid_len text ≡ length text = utf8_valid_len-IsUtf8 text t.utf8 in
    let whole : front text ≡ text = ap (λ n. take n text) valid ∙ take_all (length text) text (omega arith) in
    let s = scanned text ms t.same in
    record {
      no_more = ap (λ n. nat_lt n (length text)) valid ∙ not_less (length text);
      all_met = ap (λ x. asked reads (tokens_of (scan x).tokens)) whole ∙ ap (asked reads) s.0 ∙ document_done reads (json.object ms) p m;
      at_the_end = ap (λ x. (scan x).stop) whole ∙ s.1;
    }
understood_by reads text p json.null t m = no_answer p m
understood_by reads text p (json.boolean b) t m = no_answer p m
understood_by reads text p (json.number s) t m = no_answer p m
understood_by reads text p (json.string s) t m = no_answer p m
understood_by reads text p (json.array js) t m = no_answer p m

understood : (reads : Reads) (text : List ℕ) (p : Document Part) → MeansPart reads text p → Understood reads text
understood reads text p (j, t, m) = understood_by reads text p j t m

one_json : (j k : Json) → json_tokens j ≡ json_tokens k → j ≡ k
one_json j k e =
    let first = value-json_tokens j (depth j + depth k) [] (omega arith) in
    let second = value-json_tokens k (depth j + depth k) [] (omega arith) in
    let both : Some (j, []) ≡ Some (k, []) = sym first ∙ ap (λ ts. value (depth j + depth k) (ts ++ [])) e ∙ second in
    ap (λ (p : Json × List Token). p.0) (same_Some (j, []) (k, []) both)

parts_one : (reads : Reads) (text : List ℕ) (p q : Document Part) → MeansPart reads text p → MeansPart reads text q → p ≡ q
parts_one reads text p q (j, t, m) (k, u, n) = same_Some p q (sym m ∙ ap (document_meant reads) (one_json j k (sym t.same ∙ u.same)) ∙ n)

-- Nothing more has to come.

abbrev at_of : Stop → ℕ
at_of ended = 0
at_of (comma_last at) = at
at_of (inside at) = at
at_of (fault at) = at

abbrev is_ended : Stop → Bool
is_ended ended = true
is_ended _ = false

abbrev IsAt : Stop → ℕ → Type 0
IsAt stop at = (stop ≡ comma_last at) ⊎ ((stop ≡ inside at) ⊎ (stop ≡ fault at))

stop_at : (stop : Stop) (at : ℕ) → IsAt stop at → (at_of stop ≡ at) × (is_ended stop ≡ false)
stop_at stop at (inl e) = (ap at_of e, ap is_ended e)
stop_at stop at (inr (inl e)) = (ap at_of e, ap is_ended e)
stop_at stop at (inr (inr e)) = (ap at_of e, ap is_ended e)

data Behind (reads : Reads) (input : List ℕ) (r : TextReason) (place : ℕ) : Type 0 where
  at_stop : (at : ℕ) → IsAt (scan (front input)).stop at → r ≡ Trailing → place ≡ at → Behind reads input r place
  at_bytes : (scan (front input)).stop ≡ ended → has_more input ≡ true → r ≡ Trailing → place ≡ utf8_valid_len input → Behind reads input r place
  at_label : (d : Document Part) (k : ℕ) → MeansPart reads input d → first_false (document_calls d) ≡ Some k
      → slice_get (label_places reads (Some (start ∷ [])) (scan input).tokens) k ≡ Some place → r ≡ NoLabel → Behind reads input r place

not_ended : {Z : Type 0} (stop : Stop) (at : ℕ) → IsAt stop at → stop ≡ ended → Z
not_ended stop at h e = absurd (false≢true (sym (stop_at stop at h).1 ∙ ap is_ended e))

no_bytes : {Z : Type 0} (reads : Reads) (text : List ℕ) (p : Document Part) → MeansPart reads text p → has_more text ≡ true → Z
no_bytes reads text p m e = absurd (false≢true (sym (understood reads text p m).no_more ∙ e))

behind_one : (reads : Reads) (input : List ℕ) (r s : TextReason) (i j : ℕ) → Behind reads input r i → Behind reads input s j → Same r i s j
behind_one reads input r s i j (at_stop at h p q) (at_stop place k v w) = (p ∙ sym v, q ∙ sym (stop_at (scan (front input)).stop at h).0 ∙ (stop_at (scan (front input)).stop place k).0 ∙ sym w)
behind_one reads input r s i j (at_stop at h p q) (at_bytes e k v w) = not_ended (scan (front input)).stop at h e
behind_one reads input r s i j (at_stop at h p q) (at_label d k m f g v) = not_ended (scan (front input)).stop at h (understood reads input d m).at_the_end
behind_one reads input r s i j (at_bytes e h p q) (at_stop place k v w) = not_ended (scan (front input)).stop place k e
behind_one reads input r s i j (at_bytes e h p q) (at_bytes f k v w) = (p ∙ sym v, q ∙ sym w)
behind_one reads input r s i j (at_bytes e h p q) (at_label d k m f g v) = no_bytes reads input d m h
behind_one reads input r s i j (at_label d k m f g p) (at_stop place h v w) = not_ended (scan (front input)).stop place h (understood reads input d m).at_the_end
behind_one reads input r s i j (at_label d k m f g p) (at_bytes e h v w) = no_bytes reads input d m h
behind_one reads input r s i j (at_label d k m f g p) (at_label c l n a b v) =
    let same : d ≡ c = parts_one reads input d c m n in
    let call : k ≡ l = same_Some k l (sym f ∙ ap (λ x. first_false (document_calls x)) same ∙ a) in
    (p ∙ sym v, same_Some i j (sym g ∙ ap (slice_get (label_places reads (Some (start ∷ [])) (scan input).tokens)) call ∙ b))

-- The three sorts of refusals.

data Sort (reads : Reads) (input : List ℕ) (r : TextReason) (place : ℕ) : Type 0 where
  wrong : (before after : List (ℕ × Token)) (at : ℕ) (t : Token) (gs : List Goal) → IsFirstFault reads (scan (front input)) before after at t gs → Wrong reads input after at t gs r place → Sort reads input r place
  some_left : (g : Goal) (gs : List Goal) → IsLeft reads input (g ∷ gs) → Unfinished input (scan (front input)).stop r place → Sort reads input r place
  none_left : IsLeft reads input [] → Behind reads input r place → Sort reads input r place

sort_of : (reads : Reads) (input : List ℕ) {r : TextReason} {place : ℕ} → IsRefused reads input r place → Sort reads input r place
sort_of reads input (at_token before after at t gs f n) = wrong before after at t gs f (is_wrong n refl refl)
sort_of reads input (at_colon before after at t gs f c) = wrong before after at t gs f (is_key c refl refl)
sort_of reads input (unfinished g gs l h) = some_left g gs l (between_tokens h refl refl)
sort_of reads input (cut at g gs l e c) = some_left g gs l (in_token at e (is_cut c refl refl))
sort_of reads input (no_utf8 at g gs l e n c) = some_left g gs l (in_token at e (bytes_cut n c refl refl))
sort_of reads input (no_end at g gs l e n) = some_left g gs l (in_token at e (not_cut n refl refl))
sort_of reads input (no_token at g gs l e) = some_left g gs l (out_of_place at e refl refl)
sort_of reads input (behind at l h) = none_left l (at_stop at h refl refl)
sort_of reads input (behind_end l e h) = none_left l (at_bytes e h refl refl)
sort_of reads input (no_label d k at m f g) = none_left (understood reads input d m).all_met (at_label d k m f g refl)

some_none : {Z : Type 0} (reads : Reads) (input : List ℕ) (g : Goal) (gs : List Goal) → IsLeft reads input (g ∷ gs) → IsLeft reads input [] → Z
some_none reads input g gs l m = let h : g ∷ gs ≡ [] = same_Some (g ∷ gs) [] (sym l ∙ m) in absurd cc

sort_one : (reads : Reads) (input : List ℕ) (r s : TextReason) (i j : ℕ) → Sort reads input r i → Sort reads input s j → Same r i s j
sort_one reads input r s i j (wrong before after at t gs f x) (wrong others rest place u hs g y) =
    let o = fault_one reads (start ∷ []) before others after rest (at, t) (place, u) gs hs (sym f.tokens ∙ g.tokens) f.asked_for f.wrong g.asked_for g.wrong in
    wrong_one reads input after rest at place t u gs hs r s i j (ap (λ (p : ℕ × Token). p.0) o.0) (ap (λ (p : ℕ × Token). p.1) o.0) o.1 o.2 x y
sort_one reads input r s i j (wrong before after at t gs f x) (some_left g hs l y) = absurd (fault_not_left reads input before after at t gs (g ∷ hs) f l)
sort_one reads input r s i j (wrong before after at t gs f x) (none_left l y) = absurd (fault_not_left reads input before after at t gs [] f l)
sort_one reads input r s i j (some_left g gs l x) (wrong others rest place u hs f y) = absurd (fault_not_left reads input others rest place u hs (g ∷ gs) f l)
sort_one reads input r s i j (some_left g gs l x) (some_left h hs m y) = unfinished_one input (scan (front input)).stop r s i j x y
sort_one reads input r s i j (some_left g gs l x) (none_left m y) = some_none reads input g gs l m
sort_one reads input r s i j (none_left l x) (wrong others rest place u hs f y) = absurd (fault_not_left reads input others rest place u hs [] f l)
sort_one reads input r s i j (none_left l x) (some_left g gs m y) = some_none reads input g gs m l
sort_one reads input r s i j (none_left l x) (none_left m y) = behind_one reads input r s i j x y

refused_one : (reads : Reads) (input : List ℕ) {r s : TextReason} {i j : ℕ} → IsTextRefused reads input r i → IsTextRefused reads input s j → Same r i s j
refused_one reads input (too_large h) (too_large k) = (refl, refl)
refused_one reads input (too_large h) (within k x) = absurd (omega (arith, h, k))
refused_one reads input (within h x) (too_large k) = absurd (omega (arith, h, k))
refused_one reads input {r = r} {s = s} {i = i} {j = j} (within h x) (within k y) = sort_one reads input r s i j (sort_of reads input x) (sort_of reads input y)

-- What is accepted is not refused: each of its labels is that of a row.

abbrev AllTrue : List Bool → Type 0
AllTrue [] = ⊤
AllTrue (b ∷ bs) = (b ≡ true) × AllTrue bs

true_both : (a b : List Bool) → AllTrue a → AllTrue b → AllTrue (a ++ b)
true_both [] b p q = q
true_both (x ∷ a) b p q = (p.0, true_both a b p.1 q)

true_either : (c : Bool) (a b : List Bool) → AllTrue a → AllTrue b → AllTrue (if c then b ++ a else a ++ b)
true_either true a b p q = true_both b a q p
true_either false a b p q = true_both a b p q

none_false : (bs : List Bool) → AllTrue bs → first_false bs ≡ None
none_false [] h = refl
none_false (true ∷ bs) h = ap (option_map suc) (none_false bs h.1)
none_false (false ∷ bs) h = absurd (false≢true h.0)

mutual
  calls_true : (table : Named) (t : Tree) → calls table t ≡ true → AllTrue (calls_of table t)
  calls_true table (said x) e = tt
  calls_true table (called x) e = (e, tt)
  calls_true table (body h ns vs) e =
      let p = and_parts (calls_named table ns) (calls_trees table vs) e in true_either (is_array h) (named_calls table ns) (trees_calls table vs) (named_true table ns p.0) (trees_true table vs p.1)
  calls_true table (mixed t ns ss) e =
      let p = and_parts (calls_named table ns) (calls_named table ss) e in true_both (named_calls table ns) (named_calls table ss) (named_true table ns p.0) (named_true table ss p.1)

  trees_true : (table : Named) (ts : Trees) → calls_trees table ts ≡ true → AllTrue (trees_calls table ts)
  trees_true table no_trees e = tt
  trees_true table (tree t ts) e = let p = and_parts (calls table t) (calls_trees table ts) e in true_both (calls_of table t) (trees_calls table ts) (calls_true table t p.0) (trees_true table ts p.1)

  named_true : (table : Named) (ns : Named) → calls_named table ns ≡ true → AllTrue (named_calls table ns)
  named_true table no_named e = tt
  named_true table (named x t ts) e = let p = and_parts (calls table t) (calls_named table ts) e in true_both (calls_of table t) (named_calls table ts) (calls_true table t p.0) (named_true table ts p.1)

part_true : (p : Part) (g : Graph) → linked_part p ≡ Some g → AllTrue (part_calls p)
part_true p g e =
    let l = if_is (are_linked p.table p.root) (Some (graph_of p.table p.root)) g e in
    let h = and_parts (calls_named p.table p.table) (calls p.table p.root) l.0 in
    true_both (named_calls p.table p.table) (calls_of p.table p.root) (named_true p.table p.table h.0) (calls_true p.table p.root h.1)

headers_true : (hs : List (Header Part)) (ys : List (Header Graph)) → all_linked linked_header hs ≡ Some ys → AllTrue (flat_map (λ h. part_calls h.graph) hs)
headers_true [] ys e = tt
headers_true (h ∷ hs) ys e =
    let p = and_then_is (λ y. option_map (λ zs. y ∷ zs) (all_linked linked_header hs)) (linked_header h) ys e in
    let q = map_is (λ zs. p.0 ∷ zs) (all_linked linked_header hs) ys p.2 in
    let g = map_is (λ g. record { name = h.name; must = h.must; form = h.form; graph = g }) (linked_part h.graph) p.0 p.1 in
    true_both (part_calls h.graph) (flat_map (λ h. part_calls h.graph) hs) (part_true h.graph g.0 g.1) (headers_true hs q.0 q.1)

messages_true : (ms : List (Message Part)) (ys : List (Message Graph)) → all_linked linked_message ms ≡ Some ys → AllTrue (flat_map (λ m. part_calls m.graph) ms)
messages_true [] ys e = tt
messages_true (m ∷ ms) ys e =
    let p = and_then_is (λ y. option_map (λ zs. y ∷ zs) (all_linked linked_message ms)) (linked_message m) ys e in
    let q = map_is (λ zs. p.0 ∷ zs) (all_linked linked_message ms) ys p.2 in
    let g = map_is (λ g. record { target = m.target; response = m.response; form = m.form; graph = g }) (linked_part m.graph) p.0 p.1 in
    true_both (part_calls m.graph) (flat_map (λ m. part_calls m.graph) ms) (part_true m.graph g.0 g.1) (messages_true ms q.0 q.1)

document_true : (p : Document Part) (d : Document Graph) → linked p ≡ Some d → AllTrue (document_calls p)
document_true (value3 p) d e = let g = map_is value3 (linked_part p) d e in part_true p g.0 g.1
document_true (value0 p) d e = let g = map_is value0 (linked_part p) d e in part_true p g.0 g.1
document_true (file name version p) d e = let g = map_is (file name version) (linked_part p) d e in part_true p g.0 g.1
document_true (packet version headers messages) d e =
    let h = and_then_is (λ hs. option_map (packet version hs) (all_linked linked_message messages)) (all_linked linked_header headers) d e in
    let m = map_is (packet version h.0) (all_linked linked_message messages) d h.2 in
    true_both (flat_map (λ h. part_calls h.graph) headers) (flat_map (λ m. part_calls m.graph) messages) (headers_true headers h.0 h.1) (messages_true messages m.0 m.1)

never : (reads : Reads) (text : List ℕ) (d : Document Graph) (p : Document Part) → MeansPart reads text p → linked p ≡ Some d → (r : TextReason) (i : ℕ) → Sort reads text r i → ⊥
never reads text d p m l r i (wrong before after at t gs f x) = fault_not_left reads text before after at t gs [] f (understood reads text p m).all_met
never reads text d p m l r i (some_left g gs k x) = some_none reads text g gs k (understood reads text p m).all_met
never reads text d p m l r i (none_left k (at_stop at h v w)) = not_ended (scan (front text)).stop at h (understood reads text p m).at_the_end
never reads text d p m l r i (none_left k (at_bytes e h v w)) = no_bytes reads text p m h
never reads text d p m l r i (none_left k (at_label c n q f g v)) =
    no_answer n (sym (none_false (document_calls p) (document_true p d l)) ∙ ap (λ x. first_false (document_calls x)) (parts_one reads text p c m q) ∙ f)

never_both : (reads : Reads) (text : List ℕ) (d : Document Graph) {r : TextReason} {i : ℕ} → IsTextAccepted reads text d → IsTextRefused reads text r i → ⊥
never_both reads text d a (too_large h) = omega (arith, h, a.within)
never_both reads text d {r = r} {i = i} a (within h x) = let (p, m, l) = a.means in never reads text d p m l r i (sort_of reads text x)

accepted_one : (reads : Reads) (text : List ℕ) (d e : Document Graph) → IsTextAccepted reads text d → IsTextAccepted reads text e → d ≡ e
accepted_one reads text d e a b =
    let (p, m, l) = a.means in
    let (q, n, o) = b.means in
    same_Some d e (sym l ∙ ap linked (parts_one reads text p q m n) ∙ o)

one_of_them : (reads : Reads) (text : List ℕ) → length text ≤ text_limit → ((d : Document Graph) → IsTextAccepted reads text d → ⊥) → ((r : TextReason) (at : ℕ) → IsTextRefused reads text r at → ⊥) → ⊥
one_of_them reads text l nothing refuse = some_verdict reads text l (λ p m. by (judged reads text p l m)) refuse
  where
    by : IsJudged reads text → ⊥
    by (inl a) = nothing a.0 a.1
    by (inr r) = refuse NoLabel r.0 r.1

pub one_verdict : OneVerdict
one_verdict = record {
  accepted = accepted_one;
  refused = λ reads text r s at place x y. refused_one reads text x y;
  never_both = λ reads text d r at a x. never_both reads text d a x;
  places = calls_have_places;
  labels = judged;
  some = one_of_them;
}
