-- Contents of texts: each stands once in their list, at its number.
use Rattle.std.proofs.Common.{◌≡◌, ◌≢◌, ℕ, zero, suc, ◌+◌, ◌-◌, ◌<◌, ◌≤◌, ◌||◌, Bool, true, false, List, [], ◌∷◌, ◌++◌, length, map, take, drop, get_or, slice_get, Some, sym, refl, ap, ◌∙◌, subst, inl, inr, arith, bytes_eq}
use Rattle.std.specs.Prelude.{if◌then◌else◌}
use Rattle.std.specs.List.{AllByRecursion, fold, list_any}
use Rattle.std.proofs.lemmas.Bool.{cases_eq, cases_lt, false≢true}
use Rattle.std.proofs.lemmas.List.{append-nil, append_assoc, length-append, length-map, length-take, length_push, map_push, get_or_append_left, get_or-map, get_or-take, take_at, take-append-drop, take-map}
use Rattle.std.proofs.lemmas.List.Folds.{list_any_at}
use Rattle.std.proofs.lemmas.List.Sums.{fold-append}
use Rattle.std.proofs.lemmas.Option.{same_Some, slice_get_within, slice_get-get_or, get_or_from_slice_get}
use Rattle.std.proofs.lemmas.Slice.Eq.{bytes_eq-Decides}
use Rattle.amf_graph.specs.Chains.{LeadsTo, hash_at}
use Rattle.amf_graph.specs.NumberFacts.{NumberFacts}
use Rattle.amf_graph.specs.Order.{Absent}
use Rattle.amf_graph.specs.TextNumbers.{with_content, contents_of}
use Rattle.amf_graph.specs.declared.text_keys.TextKeys.{TextKeys}
use Rattle.amf_graph.specs.KeptTexts.{content_at, text_hash, AreTexts}
use Rattle.amf_graph.proofs.Alls.{all_at, all_push, all_weaker, all_by_place}
use Rattle.amf_graph.proofs.Lists.{at_left, at_end, at_push}

-- One content more, or none.

content_stays : (b : Bool) (cs : List (List ℕ)) (x : List ℕ) → b ≡ true → (if b then cs else cs ++ x ∷ []) ≡ cs
content_stays true cs x e = refl
content_stays false cs x e = cc

content_more : (b : Bool) (cs : List (List ℕ)) (x : List ℕ) → b ≡ false → (if b then cs else cs ++ x ∷ []) ≡ cs ++ x ∷ []
content_more true cs x e = cc
content_more false cs x e = refl

pub content_there : (cs : List (List ℕ)) (x : List ℕ) (k : ℕ) → slice_get cs k ≡ Some x → with_content cs x ≡ cs
content_there cs x k e =
    content_stays (list_any (λ y. bytes_eq y x) cs) cs x (list_any_at (λ y. bytes_eq y x) cs k [] (slice_get_within cs k x e) ((bytes_eq-Decides (get_or cs k []) x).1 (get_or_from_slice_get cs k x [] e)))

not_true : (b : Bool) → (b ≡ true → ⊥) → b ≡ false
not_true true h = absurd (h refl)
not_true false h = refl

neither : (a b : Bool) → a ≡ false → b ≡ false → (a || b) ≡ false
neither true b e f = cc
neither false b e f = f

not_any : (cs : List (List ℕ)) (x : List ℕ) → Absent cs x → list_any (λ y. bytes_eq y x) cs ≡ false
not_any [] x a = refl
not_any (y ∷ cs) x a =
    neither (bytes_eq y x) (list_any (λ z. bytes_eq z x) cs) (not_true (bytes_eq y x) (λ e. a 0 (ap (λ w. Some w) ((bytes_eq-Decides y x).0 e)))) (not_any cs x (λ k. a (suc k)))

pub content_new : (cs : List (List ℕ)) (x : List ℕ) → Absent cs x → with_content cs x ≡ cs ++ x ∷ []
content_new cs x a = content_more (list_any (λ y. bytes_eq y x) cs) cs x (not_any cs x a)

-- contents stay where they are
content_longer : (b : Bool) (cs : List (List ℕ)) (x : List ℕ) → (more : List (List ℕ)) × ((if b then cs else cs ++ x ∷ []) ≡ cs ++ more)
content_longer true cs x = ([], sym (append-nil cs))
content_longer false cs x = (x ∷ [], refl)

pub with_content_longer : (cs : List (List ℕ)) (x : List ℕ) → (more : List (List ℕ)) × (with_content cs x ≡ cs ++ more)
with_content_longer cs x = content_longer (list_any (λ y. bytes_eq y x) cs) cs x

all_longer : (cs xs : List (List ℕ)) → (more : List (List ℕ)) × (fold with_content cs xs ≡ cs ++ more)
all_longer cs [] = ([], sym (append-nil cs))
all_longer cs (x ∷ xs) =
    let one = with_content_longer cs x in
    let rest = all_longer (with_content cs x) xs in
    (one.0 ++ rest.0, rest.1 ∙ ap (λ w. w ++ rest.0) one.1 ∙ append_assoc cs one.0 rest.0)

pub contents_longer : (xs ys : List (List ℕ)) → (more : List (List ℕ)) × (contents_of (xs ++ ys) ≡ contents_of xs ++ more)
contents_longer xs ys =
    let rest = all_longer (contents_of xs) ys in
    (rest.0, fold-append with_content [] xs ys ∙ rest.1)

-- each text's content is there
found_more : (b r : Bool) (y x : List ℕ) (cs : List (List ℕ)) → bytes_eq y x ≡ b → (b || r) ≡ true → (r ≡ true → (k : ℕ) × (slice_get cs k ≡ Some x)) → (k : ℕ) × (slice_get (y ∷ cs) k ≡ Some x)
found_more true r y x cs e f more = (0, ap (λ w. Some w) ((bytes_eq-Decides y x).0 e))
found_more false r y x cs e f more = let rest = more f in (suc rest.0, rest.1)

found : (cs : List (List ℕ)) (x : List ℕ) → list_any (λ y. bytes_eq y x) cs ≡ true → (k : ℕ) × (slice_get cs k ≡ Some x)
found [] x f = cc
found (y ∷ cs) x f = found_more (bytes_eq y x) (list_any (λ z. bytes_eq z x) cs) y x cs refl f (found cs x)

there : (b : Bool) (cs : List (List ℕ)) (x : List ℕ) → list_any (λ y. bytes_eq y x) cs ≡ b → (k : ℕ) × (slice_get (if b then cs else cs ++ x ∷ []) k ≡ Some x)
there true cs x e = found cs x e
there false cs x e = (length cs, at_end cs x)

pub content_in : (cs : List (List ℕ)) (x : List ℕ) → (k : ℕ) × (slice_get (with_content cs x) k ≡ Some x)
content_in cs x = there (list_any (λ y. bytes_eq y x) cs) cs x refl

all_in : (cs xs : List (List ℕ)) (i : ℕ) (x : List ℕ) → slice_get xs i ≡ Some x → (k : ℕ) × (slice_get (fold with_content cs xs) k ≡ Some x)
all_in cs [] i x e = cc
all_in cs (y ∷ xs) zero x e =
    let one = content_in cs y in
    let rest = all_longer (with_content cs y) xs in
    (one.0, ap (λ w. slice_get w one.0) rest.1 ∙ at_left (with_content cs y) rest.0 one.0 x (one.1 ∙ e))
all_in cs (y ∷ xs) (suc i) x e = all_in (with_content cs y) xs i x e

pub text_in_contents : (xs : List (List ℕ)) (i : ℕ) (x : List ℕ) → slice_get xs i ≡ Some x → (k : ℕ) × (slice_get (contents_of xs) k ≡ Some x)
text_in_contents xs i x e = all_in [] xs i x e

-- and stands there once
abbrev pub AreApart : List (List ℕ) → Type 0
AreApart cs = (j k : ℕ) (x : List ℕ) → slice_get cs j ≡ Some x → slice_get cs k ≡ Some x → j ≡ k

apart_push : (cs : List (List ℕ)) (x : List ℕ) → Absent cs x → AreApart cs → AreApart (cs ++ x ∷ [])
apart_push cs x a h j k y e f =
    elim (at_push cs x j y e) [
      | inl p ↦ elim (at_push cs x k y f) [ inl q ↦ h j k y p q | inr q ↦ absurd (a j (p ∙ ap (λ w. Some w) (sym q.1))) ]
      | inr p ↦ elim (at_push cs x k y f) [ inl q ↦ absurd (a k (q ∙ ap (λ w. Some w) (sym p.1))) | inr q ↦ p.0 ∙ sym q.0 ]
    ]

apart_with : (b : Bool) (cs : List (List ℕ)) (x : List ℕ) → list_any (λ y. bytes_eq y x) cs ≡ b → AreApart cs → AreApart (if b then cs else cs ++ x ∷ [])
apart_with true cs x e h = h
apart_with false cs x e h = apart_push cs x (λ k f. false≢true (sym e ∙ list_any_at (λ y. bytes_eq y x) cs k [] (slice_get_within cs k x f) ((bytes_eq-Decides (get_or cs k []) x).1 (get_or_from_slice_get cs k x [] f)))) h

all_apart : (cs xs : List (List ℕ)) → AreApart cs → AreApart (fold with_content cs xs)
all_apart cs [] h = h
all_apart cs (x ∷ xs) h = all_apart (with_content cs x) xs (apart_with (list_any (λ y. bytes_eq y x) cs) cs x refl h)

pub contents_apart : (xs : List (List ℕ)) → AreApart (contents_of xs)
contents_apart xs = all_apart [] xs (λ j k x e f. cc)

-- Texts by the numbers of their contents.

-- numbers of contents that stay where they are
pub same_texts : (cs more : List (List ℕ)) (ns : List ℕ) → AllByRecursion (λ n. n < length cs) ns → map (content_at (cs ++ more)) ns ≡ map (content_at cs) ns
same_texts cs more [] h = refl
same_texts cs more (n ∷ ns) h = ap (λ w. w ∷ map (content_at (cs ++ more)) ns) (get_or_append_left cs more [] n h.0) ∙ ap (λ w. content_at cs n ∷ w) (same_texts cs more ns h.1)

pub text_pushed : (cs : List (List ℕ)) (ns : List ℕ) (x : List ℕ) (n : ℕ) → AllByRecursion (λ n. n < length cs) ns → slice_get (with_content cs x) n ≡ Some x → map (content_at (with_content cs x)) (ns ++ n ∷ []) ≡ map (content_at cs) ns ++ x ∷ []
text_pushed cs ns x n h e =
    let longer = with_content_longer cs x in
    map_push (content_at (with_content cs x)) ns n
    ∙ ap (λ w. map (content_at (with_content cs x)) ns ++ w ∷ []) (get_or_from_slice_get (with_content cs x) n x [] e)
    ∙ ap (λ w. w ++ x ∷ []) (ap (λ w. map (content_at w) ns) longer.1 ∙ same_texts cs longer.0 ns h)

pub texts_push : (keys : TextKeys) (cs : List (List ℕ)) (hashes hashes' ns : List ℕ) (x : List ℕ) (n : ℕ) → AreTexts keys cs hashes ns → slice_get (with_content cs x) n ≡ Some x → hashes' ≡ map (text_hash keys) (with_content cs x) → AreTexts keys (with_content cs x) hashes' (ns ++ n ∷ [])
texts_push keys cs hashes hashes' ns x n h e is =
    let longer = with_content_longer cs x in
    let many = ap length longer.1 ∙ length-append cs longer.0 in
    record {
      contents =
          ap (λ w. with_content w x) h.contents
          ∙ sym (fold-append with_content [] (map (content_at cs) ns) (x ∷ []))
          ∙ ap contents_of (sym (text_pushed cs ns x n h.numbers e));
      hashes = is;
      numbers = all_push (λ n. n < length (with_content cs x)) ns n (all_weaker (λ n. n < length cs) (λ n. n < length (with_content cs x)) ns (λ m l. omega arith) h.numbers) (slice_get_within (with_content cs x) n x e);
    }

pub number_is : (keys : TextKeys) (cs : List (List ℕ)) (hashes ns : List ℕ) (k n : ℕ) → AreTexts keys cs hashes ns → k < length ns → n ≡ get_or ns k n → slice_get (contents_of (map (content_at cs) ns)) n ≡ Some (get_or (map (content_at cs) ns) k [])
number_is keys cs hashes ns k n h l e =
    let below : n < length cs = subst (λ w. w < length cs) (sym e) (all_at (λ n. n < length cs) ns k n l h.numbers) in
    ap (λ w. slice_get w n) (sym h.contents) ∙ slice_get-get_or cs n [] below ∙ ap (λ w. Some w) (ap (content_at cs) e ∙ sym (get_or-map (content_at cs) ns k n [] l))

-- A content is entered behind the others, or taken back.

pub entered_number : (cs cs' : List (List ℕ)) (x : List ℕ) (n : ℕ) → n ≡ length cs → cs' ≡ cs ++ x ∷ [] → slice_get cs' n ≡ Some x
entered_number cs cs' x n e f = ap (λ w. slice_get w n) f ∙ ap (slice_get (cs ++ x ∷ [])) e ∙ at_end cs x

pub entered_hashes : (keys : TextKeys) (cs cs' : List (List ℕ)) (hs hs' : List ℕ) (x : List ℕ) (hash : ℕ) → hs ≡ map (text_hash keys) cs → hs' ≡ hs ++ hash ∷ [] → hash ≡ text_hash keys x → cs' ≡ cs ++ x ∷ [] → hs' ≡ map (text_hash keys) cs'
entered_hashes keys cs cs' hs hs' x hash e f g h =
    f ∙ ap (λ w. w ++ hash ∷ []) e ∙ ap (λ w. map (text_hash keys) cs ++ w ∷ []) g ∙ sym (map_push (text_hash keys) cs x) ∙ ap (map (text_hash keys)) (sym h)

pub taken_back : (cs cs' : List (List ℕ)) (x : List ℕ) (n : ℕ) → n ≡ length cs → cs' ≡ cs ++ x ∷ [] → take n cs' ≡ cs
taken_back cs cs' x n e f = ap (take n) f ∙ take_at cs (x ∷ []) n (sym e)

-- The first texts alone, which have the first contents.

front : (keys : TextKeys) (cs : List (List ℕ)) (hashes ns : List ℕ) (count many : ℕ) → AreTexts keys cs hashes ns → many ≡ length (contents_of (take count (map (content_at cs) ns))) → take many cs ≡ contents_of (take count (map (content_at cs) ns))
front keys cs hashes ns count many h is =
    let longer = contents_longer (take count (map (content_at cs) ns)) (drop count (map (content_at cs) ns)) in
    ap (take many) (h.contents ∙ ap contents_of (sym (take-append-drop count (map (content_at cs) ns))) ∙ longer.1) ∙ take_at (contents_of (take count (map (content_at cs) ns))) longer.0 many (sym is)

-- a number among the first texts' is that of one of the first contents
early : (keys : TextKeys) (cs : List (List ℕ)) (hashes ns : List ℕ) (count many k : ℕ) → AreTexts keys cs hashes ns → many ≡ length (contents_of (take count (map (content_at cs) ns))) → k < length (take count ns) → get_or (take count ns) k 0 < length (take many cs)
early keys cs hashes ns count many k h is l =
    let size = length-take count ns in
    let n : ℕ = get_or (take count ns) k 0 in
    let same : n ≡ get_or ns k 0 = get_or-take count ns k 0 (omega arith) in
    let below : n < length cs = subst (λ w. w < length cs) (sym same) (all_at (λ n. n < length cs) ns k 0 (omega arith) h.numbers) in
    let long : k < length (map (content_at cs) (take count ns)) = subst (λ w. k < w) (sym (length-map (take count ns) (content_at cs))) l in
    let text : slice_get (take count (map (content_at cs) ns)) k ≡ Some (content_at cs n) =
    ap (λ w. slice_get w k) (take-map (content_at cs) count ns) ∙ slice_get-get_or (map (content_at cs) (take count ns)) k [] long ∙ ap (λ w. Some w) (get_or-map (content_at cs) (take count ns) k 0 [] l)
    in
    let found = text_in_contents (take count (map (content_at cs) ns)) k (content_at cs n) text in
    let first : slice_get (take many cs) found.0 ≡ Some (content_at cs n) = ap (λ w. slice_get w found.0) (front keys cs hashes ns count many h is) ∙ found.1 in
    let whole : slice_get cs found.0 ≡ Some (content_at cs n) = ap (λ w. slice_get w found.0) (sym (take-append-drop many cs)) ∙ at_left (take many cs) (drop many cs) found.0 (content_at cs n) first in
    let apart : AreApart cs = subst AreApart (sym h.contents) (contents_apart (map (content_at cs) ns)) in
    let one : found.0 ≡ n = apart found.0 n (content_at cs n) whole (slice_get-get_or cs n [] below) in
    subst (λ w. w < length (take many cs)) one (slice_get_within (take many cs) found.0 (content_at cs n) first)

numbers_cut : (keys : TextKeys) (cs : List (List ℕ)) (hashes ns : List ℕ) (count many : ℕ) → AreTexts keys cs hashes ns → many ≡ length (contents_of (take count (map (content_at cs) ns))) → AllByRecursion (λ n. n < length (take many cs)) (take count ns)
numbers_cut keys cs hashes ns count many h is = all_by_place (λ n. n < length (take many cs)) (take count ns) 0 (λ k l. early keys cs hashes ns count many k h is l)

pub texts_cut : (keys : TextKeys) (cs : List (List ℕ)) (hashes ns : List ℕ) (count many : ℕ) → AreTexts keys cs hashes ns → many ≡ length (contents_of (take count (map (content_at cs) ns))) → map (content_at (take many cs)) (take count ns) ≡ take count (map (content_at cs) ns)
texts_cut keys cs hashes ns count many h is =
    sym (same_texts (take many cs) (drop many cs) (take count ns) (numbers_cut keys cs hashes ns count many h is))
    ∙ ap (λ w. map (content_at w) (take count ns)) (take-append-drop many cs) ∙ sym (take-map (content_at cs) count ns)

pub cut : (keys : TextKeys) (cs : List (List ℕ)) (hashes ns : List ℕ) (count many : ℕ) → AreTexts keys cs hashes ns → many ≡ length (contents_of (take count (map (content_at cs) ns))) → AreTexts keys (take many cs) (take many hashes) (take count ns)
cut keys cs hashes ns count many h is = record {
  contents = front keys cs hashes ns count many h is ∙ ap contents_of (sym (texts_cut keys cs hashes ns count many h is));
  hashes = ap (take many) h.hashes ∙ take-map (text_hash keys) many cs;
  numbers = numbers_cut keys cs hashes ns count many h is;
}

pub cut_within : (keys : TextKeys) (cs : List (List ℕ)) (hashes ns : List ℕ) (count many : ℕ) → AreTexts keys cs hashes ns → many ≡ length (contents_of (take count (map (content_at cs) ns))) → many ≤ length cs
cut_within keys cs hashes ns count many h is =
    let longer = contents_longer (take count (map (content_at cs) ns)) (drop count (map (content_at cs) ns)) in
    let whole = ap length (h.contents ∙ ap contents_of (sym (take-append-drop count (map (content_at cs) ns))) ∙ longer.1) ∙ length-append (contents_of (take count (map (content_at cs) ns))) longer.0 in
    omega arith

-- A content is looked for along the numbers of its hash.

-- no number from the link on has it
pub record IsSought (keys : TextKeys) (cs : List (List ℕ)) (x : List ℕ) (link : ℕ) : Type 0 where
  pub within : link ≤ length cs
  pub has : 0 < link → text_hash keys (content_at cs (link - 1)) ≡ text_hash keys x
  pub passed : (i : ℕ) → link ≤ i → i < length cs → content_at cs i ≢ x

hashed : (keys : TextKeys) (cs : List (List ℕ)) (i : ℕ) → i < length cs → hash_at (map (text_hash keys) cs) i ≡ text_hash keys (content_at cs i)
hashed keys cs i l = get_or-map (text_hash keys) cs i [] 0 l

pub sought_first : (keys : TextKeys) (cs : List (List ℕ)) (hashes : List ℕ) (x : List ℕ) (hash link : ℕ) → hashes ≡ map (text_hash keys) cs → hash ≡ text_hash keys x → LeadsTo (hash_at hashes) (length hashes) hash link → IsSought keys cs x link
sought_first keys cs hashes x hash link e f g =
    let many : length hashes ≡ length cs = ap length e ∙ length-map cs (text_hash keys) in
    let w = g.within in
    record {
      within = omega arith;
      has = λ l. sym (hashed keys cs (link - 1) (omega arith)) ∙ ap (λ w. hash_at w (link - 1)) (sym e) ∙ g.has l ∙ f;
      passed = λ i l m same. g.passed i l (omega arith) (ap (λ w. hash_at w i) e ∙ hashed keys cs i m ∙ ap (text_hash keys) same ∙ sym f);
    }

pub sought_next : (keys : TextKeys) (cs : List (List ℕ)) (hashes : List ℕ) (x : List ℕ) (link next : ℕ) → hashes ≡ map (text_hash keys) cs → 0 < link → content_at cs (link - 1) ≢ x → LeadsTo (hash_at hashes) (link - 1) (hash_at hashes (link - 1)) next → IsSought keys cs x link → IsSought keys cs x next
sought_next keys cs hashes x link next e some other g h =
    let w = h.within in
    let v = g.within in
    let here : hash_at hashes (link - 1) ≡ text_hash keys x = ap (λ w. hash_at w (link - 1)) e ∙ hashed keys cs (link - 1) (omega arith) ∙ h.has some in
    record {
      within = omega arith;
      has = λ l. sym (hashed keys cs (next - 1) (omega arith)) ∙ ap (λ w. hash_at w (next - 1)) (sym e) ∙ g.has l ∙ here;
      passed = λ i l m same. elim (cases_lt i (link - 1)) [
        | inl k ↦ g.passed i l k (ap (λ w. hash_at w i) e ∙ hashed keys cs i m ∙ ap (text_hash keys) same ∙ sym here)
        | inr k ↦ elim (cases_eq i (link - 1)) [ inl s ↦ other (ap (content_at cs) (sym s) ∙ same) | inr d ↦ h.passed i (omega arith) m same ]
      ];
    }

pub sought_nowhere : (keys : TextKeys) (cs : List (List ℕ)) (x : List ℕ) (link : ℕ) → link ≡ 0 → IsSought keys cs x link → Absent cs x
sought_nowhere keys cs x link z h k e = h.passed k (omega arith) (slice_get_within cs k x e) (get_or_from_slice_get cs k x [] e)

-- Texts as they are kept, by the fields that calls leave.

pub kept_pushed : (keys : TextKeys) (cs cs' : List (List ℕ)) (hs hs' ns ns' : List ℕ) (x : List ℕ) (n : ℕ) → cs' ≡ with_content cs x → slice_get cs' n ≡ Some x → hs' ≡ map (text_hash keys) cs' → ns' ≡ ns ++ n ∷ [] → AreTexts keys cs hs ns → AreTexts keys cs' hs' ns'
kept_pushed keys cs cs' hs hs' ns ns' x n is at hashed more h =
    subst (λ w. AreTexts keys cs' hs' w) (sym more)
    (subst (λ w. AreTexts keys w hs' (ns ++ n ∷ [])) (sym is)
    (texts_push keys cs hs hs' ns x n h (subst (λ w. slice_get w n ≡ Some x) is at) (hashed ∙ ap (map (text_hash keys)) is)))

pub shown_pushed : (keys : TextKeys) (cs cs' : List (List ℕ)) (hs ns ns' : List ℕ) (x : List ℕ) (n : ℕ) → cs' ≡ with_content cs x → slice_get cs' n ≡ Some x → ns' ≡ ns ++ n ∷ [] → AreTexts keys cs hs ns → map (content_at cs') ns' ≡ map (content_at cs) ns ++ x ∷ []
shown_pushed keys cs cs' hs ns ns' x n is at more h =
    ap (map (content_at cs')) more ∙ ap (λ w. map (content_at w) (ns ++ n ∷ [])) is ∙ text_pushed cs ns x n h.numbers (subst (λ w. slice_get w n ≡ Some x) is at)

pub kept_same : (keys : TextKeys) (cs cs' : List (List ℕ)) (hs hs' ns ns' : List ℕ) → cs' ≡ cs → hs' ≡ map (text_hash keys) cs' → ns' ≡ ns → AreTexts keys cs hs ns → AreTexts keys cs' hs' ns'
kept_same keys cs cs' hs hs' ns ns' is hashed same h =
    subst (λ w. AreTexts keys cs' hs' w) (sym same)
    (subst (λ w. AreTexts keys w hs' ns) (sym is) (record { contents = h.contents; hashes = hashed ∙ ap (map (text_hash keys)) is; numbers = h.numbers }))

pub kept_cut : (keys : TextKeys) (cs cs' : List (List ℕ)) (hs hs' ns ns' : List ℕ) (count many : ℕ) → ns' ≡ take count ns → cs' ≡ take many cs → hs' ≡ take many hs → AreTexts keys cs hs ns → many ≡ length (contents_of (take count (map (content_at cs) ns))) → AreTexts keys cs' hs' ns'
kept_cut keys cs cs' hs hs' ns ns' count many e f g h is =
    subst (λ w. AreTexts keys cs' hs' w) (sym e) (subst (λ w. AreTexts keys w hs' (take count ns)) (sym f) (subst (λ w. AreTexts keys (take many cs) w (take count ns)) (sym g) (cut keys cs hs ns count many h is)))

pub shown_cut : (keys : TextKeys) (cs cs' : List (List ℕ)) (hs ns ns' : List ℕ) (count many : ℕ) → ns' ≡ take count ns → cs' ≡ take many cs → AreTexts keys cs hs ns → many ≡ length (contents_of (take count (map (content_at cs) ns))) → map (content_at cs') ns' ≡ take count (map (content_at cs) ns)
shown_cut keys cs cs' hs ns ns' count many e f h is = ap (λ w. map (content_at w) ns') f ∙ ap (map (content_at (take many cs))) e ∙ texts_cut keys cs hs ns count many h is

-- What the numbers say of texts.

one_few : (b : Bool) (cs : List (List ℕ)) (x : List ℕ) → length (if b then cs else cs ++ x ∷ []) ≤ length cs + 1
one_few true cs x = omega arith
one_few false cs x = let n = length_push cs x in omega (arith, n)

all_few : (cs xs : List (List ℕ)) → length (fold with_content cs xs) ≤ length cs + length xs
all_few cs [] = omega arith
all_few cs (x ∷ xs) =
    let rest = all_few (with_content cs x) xs in
    let one = one_few (list_any (λ y. bytes_eq y x) cs) cs x in
    omega (arith, rest, one)

pub number_facts : NumberFacts
number_facts = record {
  same = λ texts m n x y e f. (
    λ s. same_Some x y (sym e ∙ ap (slice_get (contents_of texts)) s ∙ f),
    λ s. contents_apart texts m n y (e ∙ ap (λ w. Some w) s) f,
  );
  few = λ texts. (let h = all_few [] texts in omega (arith, h));
}
