-- Lines that are looked up by the hashes of their topics, and by their places.
use Rattle.std.proofs.Common.{◌≡◌, ℕ, zero, suc, ◌+◌, ◌<◌, Bool, true, false, not, List, [], ◌∷◌, ◌++◌, length, take, get_or, set, refl, sym, ◌∙◌, ap, arith}
use Rattle.std.specs.Prelude.{◌&&◌, ◌||◌, nat_lt, filter, map, if◌then◌else◌, Some, None, position}
use Rattle.std.specs.List.{list_any, position_or_len}
use Rattle.std.specs.declared.hash.DefaultHasher.{DefaultHasher}
use Rattle.std.proofs.lemmas.Bool.Decides.{nat_tests}
use Rattle.std.proofs.lemmas.List.{take_more}
use Rattle.indexmap.specs.IndexMap.{IndexMap}
use Rattle.amf_broker.specs.declared.topic.Topic.{Topic}
use Rattle.amf_broker.specs.Machine.{is_same_topic}
use Rattle.amf_broker.specs.Lines.{posts_of}
use Rattle.amf_broker.specs.Members.{Line, logs_of, members_at, are_apart}
use Rattle.amf_broker.specs.Index.{topic_hash, is_noted, are_noted}
use Rattle.amf_broker.proofs.Posts.{same-topic, same-self}

both : (a b : Bool) → a ≡ true → b ≡ true → (a && b) ≡ true
both a b p q = grind (arith, p, q)

first-of : (a b : Bool) → (a && b) ≡ true → a ≡ true
first-of true b e = refl
first-of false b e = cc

second-of : (a b : Bool) → (a && b) ≡ true → b ≡ true
second-of true b e = e
second-of false b e = cc

-- What is noted.

module _ {S : Type 0} (start : DefaultHasher) where
  pub noted-stays : (m m' : IndexMap ℕ ℕ S) → ((h : ℕ) → is_noted m h ≡ true → is_noted m' h ≡ true) → (ls : List Line) → are_noted start m ls ≡ true → are_noted start m' ls ≡ true
  noted-stays m m' stays [] all = refl
  noted-stays m m' stays (l ∷ ls) all =
      both (is_noted m' (topic_hash start l.topic)) (are_noted start m' ls) (stays (topic_hash start l.topic) (first-of (is_noted m (topic_hash start l.topic)) (are_noted start m ls) all))
      (noted-stays m m' stays ls (second-of (is_noted m (topic_hash start l.topic)) (are_noted start m ls) all))

  pub noted-map : (m : IndexMap ℕ ℕ S) (f : Line → Line) → ((l : Line) → (f l).topic ≡ l.topic) → (ls : List Line) → are_noted start m (map f ls) ≡ are_noted start m ls
  noted-map m f same [] = refl
  noted-map m f same (l ∷ ls) =
      ap (λ t. is_noted m (topic_hash start t) && are_noted start m (map f ls)) (same l) ∙ ap (λ b. is_noted m (topic_hash start l.topic) && b) (noted-map m f same ls)

  pub noted-filter : (m : IndexMap ℕ ℕ S) (p : Line → Bool) (ls : List Line) → are_noted start m ls ≡ true → are_noted start m (filter p ls) ≡ true
  noted-filter m p [] all = refl
  noted-filter m p (l ∷ ls) all =
      let here = first-of (is_noted m (topic_hash start l.topic)) (are_noted start m ls) all in
      let rest = noted-filter m p ls (second-of (is_noted m (topic_hash start l.topic)) (are_noted start m ls) all) in
      elim (p l) as (λ b. are_noted start m (if b then l ∷ filter p ls else filter p ls) ≡ true) [ true ↦ both (is_noted m (topic_hash start l.topic)) (are_noted start m (filter p ls)) here rest | false ↦ rest ]

  pub noted-set : (m : IndexMap ℕ ℕ S) (ls : List Line) (i : ℕ) (x d : Line) → x.topic ≡ (get_or ls i d).topic → are_noted start m (set ls i x) ≡ are_noted start m ls
  noted-set m [] i x d same = refl
  noted-set m (l ∷ ls) zero x d same = ap (λ t. is_noted m (topic_hash start t) && are_noted start m ls) same
  noted-set m (l ∷ ls) (suc i) x d same = ap (λ b. is_noted m (topic_hash start l.topic) && b) (noted-set m ls i x d same)

  pub noted-more : (m : IndexMap ℕ ℕ S) (ls : List Line) (x : Line) → are_noted start m ls ≡ true → is_noted m (topic_hash start x.topic) ≡ true → are_noted start m (ls ++ (x ∷ [])) ≡ true
  noted-more m [] x all here = both (is_noted m (topic_hash start x.topic)) true here refl
  noted-more m (l ∷ ls) x all here =
      both (is_noted m (topic_hash start l.topic)) (are_noted start m (ls ++ (x ∷ []))) (first-of (is_noted m (topic_hash start l.topic)) (are_noted start m ls) all)
      (noted-more m ls x (second-of (is_noted m (topic_hash start l.topic)) (are_noted start m ls) all) here)

  -- one line more of those that are gone over
  pub noted-next : (m m' : IndexMap ℕ ℕ S) (ls : List Line) (i : ℕ) (d : Line) → i < length ls → ((h : ℕ) → is_noted m h ≡ true → is_noted m' h ≡ true) → is_noted m' (topic_hash start (get_or ls i d).topic) ≡ true
      → are_noted start m (take i ls) ≡ true → are_noted start m' (take (i + 1) ls) ≡ true
  noted-next m m' ls i d less stays here all = ap (are_noted start m') (take_more ls i d less) ∙ noted-more m' (take i ls) (get_or ls i d) (noted-stays m m' stays (take i ls) all) here

  -- a topic of which nothing is noted has no line
  pub absent-noted : (m : IndexMap ℕ ℕ S) (t : Topic) (ls : List Line) → are_noted start m ls ≡ true → is_noted m (topic_hash start t) ≡ false → list_any (λ l. is_same_topic t l.topic) ls ≡ false
  absent-noted m t [] all none = refl
  absent-noted m t (l ∷ ls) all none = step (is_same_topic t l.topic) refl (absent-noted m t ls (second-of (is_noted m (topic_hash start l.topic)) (are_noted start m ls) all) none)
    where
      step : (b : Bool) → is_same_topic t l.topic ≡ b → list_any (λ l. is_same_topic t l.topic) ls ≡ false → (b || list_any (λ l. is_same_topic t l.topic) ls) ≡ false
      step true e rest =
          let here = first-of (is_noted m (topic_hash start l.topic)) (are_noted start m ls) all in
          let no : true ≡ false = sym here ∙ (ap (λ s. is_noted m (topic_hash start s)) (sym (same-topic t l.topic e)) ∙ none) in absurd (cc)
      step false e rest = rest

-- Lines that are apart.

any-filter : (t : Topic) (p : Line → Bool) (ls : List Line) → list_any (λ x. is_same_topic t x.topic) ls ≡ false → list_any (λ x. is_same_topic t x.topic) (filter p ls) ≡ false
any-filter t p [] none = refl
any-filter t p (l ∷ ls) none =
    let here : is_same_topic t l.topic ≡ false = grind (arith, none) in
    let rest : list_any (λ (x : Line). is_same_topic t x.topic) ls ≡ false = grind (arith, none) in
    let ih = any-filter t p ls rest in
    elim (p l) as (λ b. list_any (λ x. is_same_topic t x.topic) (if b then l ∷ filter p ls else filter p ls) ≡ false) [ true ↦ grind (arith, here, ih) | false ↦ ih ]

pub apart-filter : (p : Line → Bool) (ls : List Line) → are_apart ls ≡ true → are_apart (filter p ls) ≡ true
apart-filter p [] apart = refl
apart-filter p (l ∷ ls) apart =
    let first : list_any (λ (x : Line). is_same_topic l.topic x.topic) ls ≡ false = grind (arith, apart) in
    let rest : are_apart ls ≡ true = grind (arith, apart) in
    let ih = apart-filter p ls rest in
    let none = any-filter l.topic p ls first in
    elim (p l) as (λ b. are_apart (if b then l ∷ filter p ls else filter p ls) ≡ true) [ true ↦ grind (arith, none, ih) | false ↦ ih ]

any-set : (t : Topic) (ls : List Line) (i : ℕ) (x d : Line) → x.topic ≡ (get_or ls i d).topic → list_any (λ y. is_same_topic t y.topic) (set ls i x) ≡ list_any (λ y. is_same_topic t y.topic) ls
any-set t [] i x d same = refl
any-set t (l ∷ ls) zero x d same = ap (λ s. is_same_topic t s || list_any (λ y. is_same_topic t y.topic) ls) same
any-set t (l ∷ ls) (suc i) x d same = ap (λ b. is_same_topic t l.topic || b) (any-set t ls i x d same)

pub apart-set : (ls : List Line) (i : ℕ) (x d : Line) → x.topic ≡ (get_or ls i d).topic → are_apart (set ls i x) ≡ are_apart ls
apart-set [] i x d same = refl
apart-set (l ∷ ls) zero x d same = ap (λ t. not (list_any (λ y. is_same_topic t y.topic) ls) && are_apart ls) same
apart-set (l ∷ ls) (suc i) x d same =
    ap (λ b. not b && are_apart (set ls i x)) (any-set l.topic ls i x d same) ∙ ap (λ b. not (list_any (λ y. is_same_topic l.topic y.topic) ls) && b) (apart-set ls i x d same)

other-way : (s t : Topic) → is_same_topic s t ≡ false → is_same_topic t s ≡ false
other-way s t none = step (is_same_topic t s) refl
  where
    step : (b : Bool) → is_same_topic t s ≡ b → is_same_topic t s ≡ false
    step true e = let no : true ≡ false = sym (same-self s) ∙ (ap (is_same_topic s) (sym (same-topic t s e)) ∙ none) in absurd (cc)
    step false e = e

any-more : (t : Topic) (ls : List Line) (x : Line) → list_any (λ y. is_same_topic t y.topic) ls ≡ false → is_same_topic t x.topic ≡ false → list_any (λ y. is_same_topic t y.topic) (ls ++ (x ∷ [])) ≡ false
any-more t [] x none here = ap (λ b. b || false) here
any-more t (l ∷ ls) x none here =
    let first : is_same_topic t l.topic ≡ false = grind (arith, none) in
    let rest : list_any (λ (y : Line). is_same_topic t y.topic) ls ≡ false = grind (arith, none) in
    ap (λ b. b || list_any (λ y. is_same_topic t y.topic) (ls ++ (x ∷ []))) first ∙ any-more t ls x rest here

pub apart-more : (ls : List Line) (x : Line) → list_any (λ l. is_same_topic x.topic l.topic) ls ≡ false → are_apart ls ≡ true → are_apart (ls ++ (x ∷ [])) ≡ true
apart-more [] x none apart = refl
apart-more (l ∷ ls) x none apart =
    let here : is_same_topic x.topic l.topic ≡ false = grind (arith, none) in
    let later : list_any (λ (y : Line). is_same_topic x.topic y.topic) ls ≡ false = grind (arith, none) in
    let first : list_any (λ (y : Line). is_same_topic l.topic y.topic) ls ≡ false = grind (arith, apart) in
    let rest : are_apart ls ≡ true = grind (arith, apart) in
    let one = any-more l.topic ls x first (other-way x.topic l.topic here) in
    let two = apart-more ls x later rest in
    both (not (list_any (λ y. is_same_topic l.topic y.topic) (ls ++ (x ∷ [])))) (are_apart (ls ++ (x ∷ []))) (ap not one) two

-- The line of a topic at its place.

none-there : (t : Topic) (ls : List Line) (i : ℕ) (d : Line) → i < length ls → list_any (λ x. is_same_topic t x.topic) ls ≡ false → is_same_topic t (get_or ls i d).topic ≡ false
none-there t [] i d less none = absurd (omega arith)
none-there t (x ∷ ls) zero d less none = grind (arith, none)
none-there t (x ∷ ls) (suc i) d less none =
    let rest : list_any (λ (y : Line). is_same_topic t y.topic) ls ≡ false = grind (arith, none) in
    none-there t ls i d (omega arith) rest

place-len : (t : Topic) (ls : List Line) (i : ℕ) (d : Line) → are_apart ls ≡ true → i < length ls → is_same_topic t (get_or ls i d).topic ≡ true → position_or_len (λ x. is_same_topic t x.topic) ls ≡ i
place-len t [] i d apart less is = absurd (omega arith)
place-len t (x ∷ ls) zero d apart less is = grind (arith, is)
place-len t (x ∷ ls) (suc i) d apart less is =
    let first : list_any (λ (y : Line). is_same_topic x.topic y.topic) ls ≡ false = grind (arith, apart) in
    let rest : are_apart ls ≡ true = grind (arith, apart) in
    let within : i < length ls = omega arith in
    let later = place-len t ls i d rest within is in
    let other = not-here (is_same_topic t x.topic) refl first within in
    let n : ℕ = position_or_len (λ (y : Line). is_same_topic t y.topic) ls in
    let here : position_or_len (λ (y : Line). is_same_topic t y.topic) (x ∷ ls) ≡ 1 + n = grind (arith, other) in
    omega arith
  where
    not-here : (b : Bool) → is_same_topic t x.topic ≡ b → list_any (λ (y : Line). is_same_topic x.topic y.topic) ls ≡ false → i < length ls → is_same_topic t x.topic ≡ false
    not-here true e first within =
        let no : true ≡ false = sym is ∙ (ap (λ s. is_same_topic s (get_or ls i d).topic) (same-topic t x.topic e) ∙ none-there x.topic ls i d within first) in absurd (cc)
    not-here false e first within = e

some-place : (n m i : ℕ) → n ≡ i → i < m → Some i ≡ (if nat_lt n m then Some n else None)
some-place n m i same less = grind (arith, nat_tests, same, less)

-- a line of the topic is the first of it
pub place-is : (t : Topic) (ls : List Line) (i : ℕ) (d : Line) → are_apart ls ≡ true → i < length ls → is_same_topic t (get_or ls i d).topic ≡ true → Some i ≡ position (λ x. is_same_topic t x.topic) ls
place-is t ls i d apart less is = some-place (position_or_len (λ (x : Line). is_same_topic t x.topic) ls) (length ls) i (place-len t ls i d apart less is) less

-- what stands at its place
pub found-line : (t : Topic) (ls : List Line) (d : Line) → list_any (λ l. is_same_topic t l.topic) ls ≡ true → (i : ℕ) → i ≡ position_or_len (λ l. is_same_topic t l.topic) ls
    → (members_at t ls ≡ (get_or ls i d).members) × (posts_of t (logs_of ls) ≡ (get_or ls i d).posts)
found-line t [] d some i is = cc
found-line t (l ∷ ls) d some i is = step (is_same_topic t l.topic) refl i is (λ some'. found-line t ls d some' (position_or_len (λ x. is_same_topic t x.topic) ls) refl)
  where
    step : (b : Bool) → is_same_topic t l.topic ≡ b → (i : ℕ) → i ≡ position_or_len (λ l. is_same_topic t l.topic) (l ∷ ls)
        → (list_any (λ l. is_same_topic t l.topic) ls ≡ true
        → (members_at t ls ≡ (get_or ls (position_or_len (λ l. is_same_topic t l.topic) ls) d).members) × (posts_of t (logs_of ls) ≡ (get_or ls (position_or_len (λ l. is_same_topic t l.topic) ls) d).posts))
        → (members_at t (l ∷ ls) ≡ (get_or (l ∷ ls) i d).members) × (posts_of t (logs_of (l ∷ ls)) ≡ (get_or (l ∷ ls) i d).posts)
    step true e i is later = let zero_is : i ≡ 0 = grind (arith, e, is) in rw zero_is (grind (arith, e), grind (arith, e))
    step false e i is later =
        let some' : list_any (λ (x : Line). is_same_topic t x.topic) ls ≡ true = grind (arith, e, some) in
        let n : ℕ = position_or_len (λ (x : Line). is_same_topic t x.topic) ls in
        let ih = later some' in
        let at : i ≡ suc n = grind (arith, e, is) in
        let one = ih.0 in
        let two = ih.1 in
        rw at (grind (arith, e, one), grind (arith, e, two))

-- a topic without a line has nothing
pub no-line : (t : Topic) (ls : List Line) → list_any (λ l. is_same_topic t l.topic) ls ≡ false → (members_at t ls ≡ []) × (posts_of t (logs_of ls) ≡ [])
no-line t [] none = (refl, refl)
no-line t (l ∷ ls) none =
    let here : is_same_topic t l.topic ≡ false = grind (arith, none) in
    let rest : list_any (λ (x : Line). is_same_topic t x.topic) ls ≡ false = grind (arith, none) in
    let ih = no-line t ls rest in
    let one = ih.0 in
    let two = ih.1 in
    (grind (arith, here, one), grind (arith, here, two))
