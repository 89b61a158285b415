-- Tokens of which the numbers have other digits are those of JSON that means the same.
use Rattle.std.proofs.Common.{◌≡◌, ℕ, List, [], ◌∷◌, ◌++◌, Option, Some, None, refl, sym, ap, ap₂, ◌∙◌, subst, inl, inr, append_assoc, append-nil}
use Rattle.std.specs.List.{AllZip}
use Rattle.json.specs.Token.{Token, begin_object, end_object, begin_array, end_array, key, string, number, boolean, null}
use Rattle.json.specs.Json.{Json, no_items, no_members, item, member, Items, Members}
use Rattle.json.specs.Json as json
use Rattle.json.specs.Tree.{json_tokens, items_tokens, members_tokens, HasNumbers, ItemsHaveNumbers, MembersHaveNumbers}
use Rattle.amf_text.specs.Scalars.{Reads, read_number}
use Rattle.amf_text.specs.Texts.{IsTokenOf}
use Rattle.amf_text.specs.Accepted.{document_meant}
use Rattle.amf_text.specs.DigitLaws.{AnyDigits}
use Rattle.amf_text.proofs.Rewritten.{rewritten, rewritten_items, rewritten_members}
use Rattle.amf_text.proofs.RewrittenDocuments.{document_same}

-- the pattern in place of the digits

abbrev coded : Option ℕ → List ℕ
coded None = []
coded (Some p) = p ∷ []

abbrev decoded : Reads
decoded [] = None
decoded (p ∷ rest) = Some p

decoded_back : (o : Option ℕ) → decoded (coded o) ≡ o
decoded_back None = refl
decoded_back (Some p) = refl

abbrev pattern : List ℕ → List ℕ
pattern s = coded (read_number s)

-- What has the same patterns: JSON that stands at the front of tokens, and those that are left.

record Front (j : Json) (us ts : List Token) : Type 0 where
  other : Json
  rest : List Token
  is : ts ≡ json_tokens other ++ rest
  left : AllZip IsTokenOf us rest
  numbers : HasNumbers j → HasNumbers other
  same : rewritten pattern other ≡ rewritten pattern j

record FrontItems (js : Items) (us ts : List Token) : Type 0 where
  other : Items
  rest : List Token
  is : ts ≡ items_tokens other ++ rest
  left : AllZip IsTokenOf us rest
  numbers : ItemsHaveNumbers js → ItemsHaveNumbers other
  same : rewritten_items pattern other ≡ rewritten_items pattern js

record FrontMembers (ms : Members) (us ts : List Token) : Type 0 where
  other : Members
  rest : List Token
  is : ts ≡ members_tokens other ++ rest
  left : AllZip IsTokenOf us rest
  numbers : MembersHaveNumbers ms → MembersHaveNumbers other
  same : rewritten_members pattern other ≡ rewritten_members pattern ms

-- a token that is no number
abbrev IsOther : Token → Type 0
IsOther a = (s : List ℕ) → a ≡ number s → ⊥

that_one : (a b : Token) → IsOther a → IsTokenOf a b → b ≡ a
that_one a b n (inl e) = sym e
that_one a b n (inr (s, t, e, f, one)) = absurd (n s e)

same_text : (s t : List ℕ) → number s ≡ number t → s ≡ t
same_text s t e = cc

-- a number, and the token for it
number_front : (s : List ℕ) (us : List Token) (b : Token) (ts : List Token) → IsTokenOf (number s) b → AllZip IsTokenOf us ts → Front (json.number s) us (b ∷ ts)
number_front s us b ts (inl e) z = record { other = json.number s; rest = ts; is = ap (λ t. t ∷ ts) (sym e); left = z; numbers = λ n. n; same = refl }
number_front s us b ts (inr (x, t, e, f, (n, p, w, r, q))) z = record {
  other = json.number t;
  rest = ts;
  is = ap (λ c. c ∷ ts) f;
  left = z;
  numbers = λ h. n;
  same = ap (λ o. json.number (coded o)) (q ∙ sym r ∙ ap read_number (sym (same_text s x e)));
}

one_front : (j : Json) (a : Token) (us : List Token) (b : Token) (ts : List Token) → json_tokens j ≡ a ∷ [] → IsOther a → IsTokenOf a b → AllZip IsTokenOf us ts → Front j us (b ∷ ts)
one_front j a us b ts e n t z = record { other = j; rest = ts; is = ap (λ c. c ∷ ts) (that_one a b n t) ∙ ap (λ l. l ++ ts) (sym e); left = z; numbers = λ h. h; same = refl }

array_front : (js : Items) (us : List Token) (b : Token) (ts : List Token) → IsTokenOf begin_array b → FrontItems js us ts → Front (json.array js) us (b ∷ ts)
array_front js us b ts t o = record {
  other = json.array o.other;
  rest = o.rest;
  is = ap₂ (λ c l. c ∷ l) (that_one begin_array b (λ s e. cc) t) o.is;
  left = o.left;
  numbers = o.numbers;
  same = ap json.array o.same;
}

object_front : (ms : Members) (us : List Token) (b : Token) (ts : List Token) → IsTokenOf begin_object b → FrontMembers ms us ts → Front (json.object ms) us (b ∷ ts)
object_front ms us b ts t o = record {
  other = json.object o.other;
  rest = o.rest;
  is = ap₂ (λ c l. c ∷ l) (that_one begin_object b (λ s e. cc) t) o.is;
  left = o.left;
  numbers = o.numbers;
  same = ap json.object o.same;
}

item_front : (j : Json) (js : Items) (us ts : List Token) (o : Front j (items_tokens js ++ us) ts) → FrontItems js us o.rest → FrontItems (item j js) us ts
item_front j js us ts o p = record {
  other = item o.other p.other;
  rest = p.rest;
  is = o.is ∙ ap (λ l. json_tokens o.other ++ l) p.is ∙ sym (append_assoc (json_tokens o.other) (items_tokens p.other) p.rest);
  left = p.left;
  numbers = λ h. (o.numbers h.0, p.numbers h.1);
  same = ap₂ item o.same p.same;
}

member_front : (k : List ℕ) (j : Json) (ms : Members) (us : List Token) (b : Token) (ts : List Token) → IsTokenOf (key k) b → (o : Front j (members_tokens ms ++ us) ts) → FrontMembers ms us o.rest → FrontMembers (member k j ms) us (b ∷ ts)
member_front k j ms us b ts t o p = record {
  other = member k o.other p.other;
  rest = p.rest;
  is = ap₂ (λ c l. c ∷ l) (that_one (key k) b (λ s e. cc) t) (o.is ∙ ap (λ l. json_tokens o.other ++ l) p.is ∙ sym (append_assoc (json_tokens o.other) (members_tokens p.other) p.rest));
  left = p.left;
  numbers = λ h. (o.numbers h.0, p.numbers h.1);
  same = ap₂ (λ x y. member k x y) o.same p.same;
}

mutual
  front : (j : Json) (us ts : List Token) → AllZip IsTokenOf (json_tokens j ++ us) ts → Front j us ts
  front json.null us [] z = elim z [ ]
  front json.null us (b ∷ ts) z = one_front json.null null us b ts refl (λ s e. cc) z.0 z.1
  front (json.boolean x) us [] z = elim z [ ]
  front (json.boolean x) us (b ∷ ts) z = one_front (json.boolean x) (boolean x) us b ts refl (λ s e. cc) z.0 z.1
  front (json.number s) us [] z = elim z [ ]
  front (json.number s) us (b ∷ ts) z = number_front s us b ts z.0 z.1
  front (json.string s) us [] z = elim z [ ]
  front (json.string s) us (b ∷ ts) z = one_front (json.string s) (string s) us b ts refl (λ s e. cc) z.0 z.1
  front (json.array js) us [] z = elim z [ ]
  front (json.array js) us (b ∷ ts) z = array_front js us b ts z.0 (front_items js us ts z.1)
  front (json.object ms) us [] z = elim z [ ]
  front (json.object ms) us (b ∷ ts) z = object_front ms us b ts z.0 (front_members ms us ts z.1)

  front_items : (js : Items) (us ts : List Token) → AllZip IsTokenOf (items_tokens js ++ us) ts → FrontItems js us ts
  front_items no_items us [] z = elim z [ ]
  front_items no_items us (b ∷ ts) z = record { other = no_items; rest = ts; is = ap (λ c. c ∷ ts) (that_one end_array b (λ s e. cc) z.0); left = z.1; numbers = λ h. h; same = refl }
  front_items (item j js) us ts z =
      let o = front j (items_tokens js ++ us) ts (subst (λ l. AllZip IsTokenOf l ts) (append_assoc (json_tokens j) (items_tokens js) us) z) in
      item_front j js us ts o (front_items js us o.rest o.left)

  front_members : (ms : Members) (us ts : List Token) → AllZip IsTokenOf (members_tokens ms ++ us) ts → FrontMembers ms us ts
  front_members no_members us [] z = elim z [ ]
  front_members no_members us (b ∷ ts) z = record { other = no_members; rest = ts; is = ap (λ c. c ∷ ts) (that_one end_object b (λ s e. cc) z.0); left = z.1; numbers = λ h. h; same = refl }
  front_members (member k j ms) us [] z = elim z [ ]
  front_members (member k j ms) us (b ∷ ts) z =
      let o = front j (members_tokens ms ++ us) ts (subst (λ l. AllZip IsTokenOf l ts) (append_assoc (json_tokens j) (members_tokens ms) us) z.1) in
      member_front k j ms us b ts z.0 o (front_members ms us o.rest o.left)

no_more : (ts : List Token) → AllZip IsTokenOf [] ts → ts ≡ []
no_more [] z = refl
no_more (t ∷ ts) z = elim z [ ]

pub any_digits : AnyDigits
any_digits j ts z =
    let o = front j [] ts (subst (λ l. AllZip IsTokenOf l ts) (sym (append-nil (json_tokens j))) z) in
    let meant : (i : Json) → document_meant decoded (rewritten pattern i) ≡ document_meant read_number i = document_same pattern read_number decoded (λ s. decoded_back (read_number s)) in
    record {
      json = o.other;
      tokens = o.is ∙ ap (λ l. json_tokens o.other ++ l) (no_more o.rest o.left) ∙ append-nil (json_tokens o.other);
      numbers = o.numbers;
      same = sym (meant o.other) ∙ ap (document_meant decoded) o.same ∙ meant j;
    }
