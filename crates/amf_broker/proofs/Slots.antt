-- Places that stay where they are.
use Rattle.std.proofs.Common.{◌≡◌, ℕ, zero, suc, ◌+◌, ◌<◌, Bool, true, false, List, [], ◌∷◌, ◌++◌, length, drop, get_or, set, refl, sym, ◌∙◌, ap, arith}
use Rattle.std.specs.Prelude.{◌==◌, ◌&&◌, ◌||◌, nat_lt, filter, map, count_by, if◌then◌else◌}
use Rattle.std.specs.List.{list_all, list_any}
use Rattle.std.proofs.lemmas.Bool.Decides.{nat_tests}
use Rattle.std.proofs.lemmas.List.{append-nil, map-append, set-get_or, drop_more}
use Rattle.std.proofs.lemmas.List.Elements.{filter-append}
use Rattle.std.proofs.lemmas.List.Sums.{length-filter}
use Rattle.amf_broker.specs.declared.slot.Slot.{Slot}
use Rattle.amf_broker.specs.Lines.{TopicLog, Span, begun_anew, outlasts, cleared, spans_of, spans_left, waits, gathered, put_all}
use Rattle.amf_broker.specs.Moments.{stays}
use Rattle.amf_broker.specs.Members.{stopped, remains, raised}
use Rattle.amf_broker.specs.Slots.{standing, kept_if, with_place, slot_ended, is_own, slot_begun, nothing, is_own_at, positions, IsFound, own_of, changed_at}

-- What is kept.

pub kept-if : (p : Span → Bool) (ss : List Slot) → standing (map (kept_if p) ss) ≡ filter p (standing ss)
kept-if p [] = refl
kept-if p (s ∷ ss) = step s.kept refl (p s.place) refl (kept-if p ss)
  where
    step : (k : Bool) → s.kept ≡ k → (b : Bool) → p s.place ≡ b → standing (map (kept_if p) ss) ≡ filter p (standing ss) → standing (map (kept_if p) (s ∷ ss)) ≡ filter p (standing (s ∷ ss))
    step true e true is ih = grind (arith, e, is, ih)
    step true e false is ih = grind (arith, e, is, ih)
    step false e b is ih = grind (arith, e, is, ih)

pub kept-with : (f : Span → Span) (ss : List Slot) → standing (map (with_place f) ss) ≡ map f (standing ss)
kept-with f [] = refl
kept-with f (s ∷ ss) = elim s.kept as (λ k. map (λ (x : Slot). x.place) (if k then with_place f s ∷ filter (λ x. x.kept) (map (with_place f) ss) else filter (λ x. x.kept) (map (with_place f) ss))
    ≡ map f (map (λ (x : Slot). x.place) (if k then s ∷ filter (λ x. x.kept) ss else filter (λ x. x.kept) ss))) [
      | true ↦ ap (λ us. f s.place ∷ us) (kept-with f ss)
      | false ↦ kept-with f ss
    ]

pub map-two : {A B C : Type 0} (f : A → B) (g : B → C) (xs : List A) → map g (map f xs) ≡ map (λ x. g (f x)) xs
map-two f g [] = refl
map-two f g (x ∷ xs) = ap (λ m. g (f x) ∷ m) (map-two f g xs)

pub kept-ended : (stop next : ℕ) (over : ℕ → Bool) (logs : List TopicLog) (ss : List Slot) → standing (map (slot_ended stop next over logs) ss) ≡ filter (remains over logs next) (map (stopped stop over) (standing ss))
kept-ended stop next over logs ss =
    ap standing (sym (map-two (with_place (stopped stop over)) (kept_if (remains over logs next)) ss))
    ∙ (kept-if (remains over logs next) (map (with_place (stopped stop over)) ss) ∙ ap (filter (remains over logs next)) (kept-with (stopped stop over) ss))

pub kept-begun : (k n : ℕ) (ss : List Slot) → standing (map (slot_begun k n) ss) ≡ cleared k n (standing ss)
kept-begun k n [] = refl
kept-begun k n (s ∷ ss) = step s.kept refl (s.place.client == k) refl s.place.live refl (kept-begun k n ss)
  where
    step : (a : Bool) → s.kept ≡ a → (b : Bool) → (s.place.client == k) ≡ b → (d : Bool) → s.place.live ≡ d → standing (map (slot_begun k n) ss) ≡ cleared k n (standing ss)
        → standing (map (slot_begun k n) (s ∷ ss)) ≡ cleared k n (standing (s ∷ ss))
    step true e true is true l ih = grind (arith, e, is, l, ih)
    step true e true is false l ih = grind (arith, e, is, l, ih)
    step true e false is d l ih = grind (arith, e, is, l, ih)
    step false e b is d l ih = grind (arith, e, is, l, ih)

pub kept-more : (ss : List Slot) (u : Span) → standing (ss ++ (record { place = u; kept = true } ∷ [])) ≡ standing ss ++ (u ∷ [])
kept-more [] u = refl
kept-more (s ∷ ss) u = elim s.kept as (λ k. map (λ (x : Slot). x.place) (if k then s ∷ filter (λ x. x.kept) (ss ++ (record { place = u; kept = true } ∷ [])) else filter (λ x. x.kept) (ss ++ (record { place = u; kept = true } ∷ [])))
    ≡ map (λ (x : Slot). x.place) (if k then s ∷ filter (λ x. x.kept) ss else filter (λ x. x.kept) ss) ++ (u ∷ [])) [
      | true ↦ ap (λ us. s.place ∷ us) (kept-more ss u)
      | false ↦ kept-more ss u
    ]

pub kept-kept : (ss : List Slot) → standing (filter (λ s. s.kept) ss) ≡ standing ss
kept-kept [] = refl
kept-kept (s ∷ ss) = step s.kept refl (kept-kept ss)
  where
    step : (k : Bool) → s.kept ≡ k → standing (filter (λ s. s.kept) ss) ≡ standing ss → standing (filter (λ s. s.kept) (s ∷ ss)) ≡ standing (s ∷ ss)
    step true e ih = grind (arith, e, ih)
    step false e ih = grind (arith, e, ih)

-- Where those of a client are.

plus-zero : (i : ℕ) → 0 + i ≡ i
plus-zero i = omega arith

get-end : {X : Type 0} (xs : List X) (x : X) (ys : List X) (d : X) → get_or (xs ++ (x ∷ ys)) (length xs) d ≡ x
get-end [] x ys d = refl
get-end (z ∷ xs) x ys d = get-end xs x ys d

pub length-end : {X : Type 0} (xs : List X) (x : X) → length (xs ++ (x ∷ [])) ≡ length xs + 1
length-end [] x = omega arith
length-end (z ∷ xs) x = let ih = length-end xs x in omega (arith, ih)

assoc-end : {X : Type 0} (xs : List X) (x : X) (ys : List X) → xs ++ (x ∷ ys) ≡ (xs ++ (x ∷ [])) ++ ys
assoc-end [] x ys = refl
assoc-end (z ∷ xs) x ys = ap (λ m. z ∷ m) (assoc-end xs x ys)

set-end : {X : Type 0} (xs : List X) (x : X) (ys : List X) (y : X) → set (xs ++ (x ∷ ys)) (length xs) y ≡ xs ++ (y ∷ ys)
set-end [] x ys y = refl
set-end (z ∷ xs) x ys y = ap (λ m. z ∷ m) (set-end xs x ys y)

-- of the positions of the client's those that pass a test that says what the slots say now
filter-positions : (k : ℕ) (t : ℕ → Bool) (n : ℕ) (ss ts : List Slot) → length ts ≡ length ss → ((i : ℕ) → is_own_at k ts i ≡ true → is_own_at k ss i ≡ true)
    → ((i : ℕ) → t (n + i) ≡ is_own_at k ts i) → filter t (positions (is_own k) n ss) ≡ positions (is_own k) n ts
filter-positions k t n [] [] len less same = refl
filter-positions k t n [] (x ∷ ts) len less same = absurd (omega (arith, len))
filter-positions k t n (s ∷ ss) [] len less same = absurd (omega (arith, len))
filter-positions k t n (s ∷ ss) (x ∷ ts) len less same =
    step (is_own k s) refl (is_own k x) refl here (less 0) (filter-positions k t (n + 1) ss ts (omega (arith, len)) (λ i own. less (suc i) own) rest)
  where
    here : t n ≡ is_own k x
    here = let z : n + 0 ≡ n = omega arith in ap t (sym z) ∙ same 0

    rest : (i : ℕ) → t (n + 1 + i) ≡ is_own_at k ts i
    rest i = let e : n + 1 + i ≡ n + suc i = omega arith in ap t e ∙ same (suc i)

    step : (b : Bool) → is_own k s ≡ b → (d : Bool) → is_own k x ≡ d → t n ≡ is_own k x → (is_own k x ≡ true → is_own k s ≡ true)
        → filter t (positions (is_own k) (n + 1) ss) ≡ positions (is_own k) (n + 1) ts
        → filter t (if is_own k s then n ∷ positions (is_own k) (n + 1) ss else positions (is_own k) (n + 1) ss) ≡ (if is_own k x then n ∷ positions (is_own k) (n + 1) ts else positions (is_own k) (n + 1) ts)
    step true e true is at first ih =
        ap (λ b. filter t (if b then n ∷ positions (is_own k) (n + 1) ss else positions (is_own k) (n + 1) ss)) e
        ∙ (ap (λ b. if b then n ∷ filter t (positions (is_own k) (n + 1) ss) else filter t (positions (is_own k) (n + 1) ss)) (at ∙ is)
        ∙ (ap (λ m. n ∷ m) ih ∙ sym (ap (λ b. if b then n ∷ positions (is_own k) (n + 1) ts else positions (is_own k) (n + 1) ts) is)))
    step true e false is at first ih =
        ap (λ b. filter t (if b then n ∷ positions (is_own k) (n + 1) ss else positions (is_own k) (n + 1) ss)) e
        ∙ (ap (λ b. if b then n ∷ filter t (positions (is_own k) (n + 1) ss) else filter t (positions (is_own k) (n + 1) ss)) (at ∙ is)
        ∙ (ih ∙ sym (ap (λ b. if b then n ∷ positions (is_own k) (n + 1) ts else positions (is_own k) (n + 1) ts) is)))
    step false e true is at first ih = let bad : false ≡ true = sym e ∙ first is in absurd (cc)
    step false e false is at first ih =
        ap (λ b. filter t (if b then n ∷ positions (is_own k) (n + 1) ss else positions (is_own k) (n + 1) ss)) e
        ∙ (ih ∙ sym (ap (λ b. if b then n ∷ positions (is_own k) (n + 1) ts else positions (is_own k) (n + 1) ts) is))

filter-less : (a b : ℕ → Bool) → ((i : ℕ) → a i ≡ true → b i ≡ true) → (is : List ℕ) → filter a is ≡ filter a (filter b is)
filter-less a b less [] = refl
filter-less a b less (i ∷ is) = step (b i) refl (a i) refl (filter-less a b less is)
  where
    step : (x : Bool) → b i ≡ x → (y : Bool) → a i ≡ y → filter a is ≡ filter a (filter b is) → filter a (i ∷ is) ≡ filter a (filter b (i ∷ is))
    step true e y is ih = grind (arith, e, is, ih)
    step false e true is ih = let no = less i is in let bad : false ≡ true = sym e ∙ no in absurd (cc)
    step false e false is ih = grind (arith, e, is, ih)

-- where slots change and none becomes the client's, it is found as before
found-as : (k : ℕ) (is : List ℕ) (ss ts : List Slot) → length ts ≡ length ss → ((i : ℕ) → is_own_at k ts i ≡ true → is_own_at k ss i ≡ true) → IsFound k is ss → IsFound k is ts
found-as k is ss ts len less f = record {
  within = rw len f.within;
  own =
      filter-less (is_own_at k ts) (is_own_at k ss) less is
      ∙ (ap (filter (is_own_at k ts)) f.own ∙ filter-positions k (is_own_at k ts) 0 ss ts len less (λ i. ap (is_own_at k ts) (plus-zero i)));
}

length-mapped : (g : Slot → Slot) (ss : List Slot) → length (map g ss) ≡ length ss
length-mapped g [] = refl
length-mapped g (s ∷ ss) = ap suc (length-mapped g ss)

own-less : (k : ℕ) (g : Slot → Slot) → ((s : Slot) → is_own k (g s) ≡ true → is_own k s ≡ true) → (ss : List Slot) (i : ℕ) → is_own_at k (map g ss) i ≡ true → is_own_at k ss i ≡ true
own-less k g less [] i own = own
own-less k g less (s ∷ ss) zero own = less s own
own-less k g less (s ∷ ss) (suc i) own = own-less k g less ss i own

pub found-map : (k : ℕ) (g : Slot → Slot) → ((s : Slot) → is_own k (g s) ≡ true → is_own k s ≡ true) → (is : List ℕ) (ss : List Slot) → IsFound k is ss → IsFound k is (map g ss)
found-map k g less is ss f = found-as k is ss (map g ss) (length-mapped g ss) (own-less k g less ss) f

length-set : (ss : List Slot) (i : ℕ) (x : Slot) → length (set ss i x) ≡ length ss
length-set [] i x = refl
length-set (s ∷ ss) zero x = refl
length-set (s ∷ ss) (suc i) x = ap suc (length-set ss i x)

own-set : (k : ℕ) (ss : List Slot) (i : ℕ) (x : Slot) → is_own k x ≡ false → (j : ℕ) → is_own_at k (set ss i x) j ≡ true → is_own_at k ss j ≡ true
own-set k [] i x other j own = own
own-set k (s ∷ ss) zero x other zero own = let bad : false ≡ true = sym other ∙ own in absurd (cc)
own-set k (s ∷ ss) zero x other (suc j) own = own
own-set k (s ∷ ss) (suc i) x other zero own = own
own-set k (s ∷ ss) (suc i) x other (suc j) own = own-set k ss i x other j own

-- one goes
pub found-dropped : (k : ℕ) (is : List ℕ) (ss : List Slot) (i : ℕ) (x : Slot) → x.kept ≡ false → IsFound k is ss → IsFound k is (set ss i x)
found-dropped k is ss i x gone f = found-as k is ss (set ss i x) (length-set ss i x) (own-set k ss i x (ap (λ b. b && x.place.client == k) gone)) f

pub found-pruned : (k : ℕ) (is : List ℕ) (ss : List Slot) → IsFound k is ss → IsFound k (filter (is_own_at k ss) is) ss
found-pruned k is ss f = record {
  within = all-kept is f.within;
  own = sym (filter-less (is_own_at k ss) (is_own_at k ss) (λ i e. e) is) ∙ f.own;
}
  where
    all-kept : (is : List ℕ) → list_all (λ i. nat_lt i (length ss)) is ≡ true → list_all (λ i. nat_lt i (length ss)) (filter (is_own_at k ss) is) ≡ true
    all-kept [] all = refl
    all-kept (i ∷ is) all = let ih = all-kept is in grind (arith, nat_tests, all, ih)

-- One slot more.

positions-more : (p : Slot → Bool) (n : ℕ) (ss : List Slot) (s : Slot) → positions p n (ss ++ (s ∷ [])) ≡ positions p n ss ++ (if p s then (n + length ss) ∷ [] else [])
positions-more p n [] s = let z : n + 0 ≡ n = omega arith in rw z refl
positions-more p n (x ∷ ss) s =
    let e : n + 1 + length ss ≡ n + suc (length ss) = omega arith in
    let ih = positions-more p (n + 1) ss s in
    let so : positions p (n + 1) (ss ++ (s ∷ [])) ≡ positions p (n + 1) ss ++ (if p s then (n + suc (length ss)) ∷ [] else []) = ih ∙ ap (λ m. positions p (n + 1) ss ++ (if p s then m ∷ [] else [])) e in
    elim (p x) as (λ b. (if b then n ∷ positions p (n + 1) (ss ++ (s ∷ [])) else positions p (n + 1) (ss ++ (s ∷ []))) ≡ (if b then n ∷ positions p (n + 1) ss else positions p (n + 1) ss) ++ (if p s then (n + suc (length ss)) ∷ [] else [])) [
      | true ↦ ap (λ m. n ∷ m) so
      | false ↦ so
    ]

get-before : (ss : List Slot) (s : Slot) (i : ℕ) → i < length ss → get_or (ss ++ (s ∷ [])) i nothing ≡ get_or ss i nothing
get-before [] s i less = absurd (omega arith)
get-before (x ∷ ss) s zero less = refl
get-before (x ∷ ss) s (suc i) less = get-before ss s i (omega arith)

own-before : (k : ℕ) (ss : List Slot) (s : Slot) (is : List ℕ) → list_all (λ i. nat_lt i (length ss)) is ≡ true → filter (is_own_at k (ss ++ (s ∷ []))) is ≡ filter (is_own_at k ss) is
own-before k ss s [] all = refl
own-before k ss s (i ∷ is) all =
    let less : i < length ss = grind (arith, nat_tests, all) in
    let rest : list_all (λ i. nat_lt i (length ss)) is ≡ true = grind (arith, nat_tests, all) in
    let ih = own-before k ss s is rest in
    rw (get-before ss s i less) (elim (is_own_at k ss i) as (λ b. (if b then i ∷ filter (is_own_at k (ss ++ (s ∷ []))) is else filter (is_own_at k (ss ++ (s ∷ []))) is) ≡ (if b then i ∷ filter (is_own_at k ss) is else filter (is_own_at k ss) is)) [
      | true ↦ ap (λ m. i ∷ m) ih
      | false ↦ ih
    ])

within-more : (is : List ℕ) (m n : ℕ) → m < n → list_all (λ i. nat_lt i m) is ≡ true → list_all (λ i. nat_lt i n) is ≡ true
within-more [] m n less all = refl
within-more (i ∷ is) m n less all = let ih = within-more is m n less in grind (arith, nat_tests, less, all, ih)

within-last : (is : List ℕ) (m n : ℕ) → m < n → list_all (λ i. nat_lt i n) is ≡ true → list_all (λ i. nat_lt i n) (is ++ (m ∷ [])) ≡ true
within-last [] m n less all = grind (arith, nat_tests, less)
within-last (i ∷ is) m n less all = let ih = within-last is m n less in grind (arith, nat_tests, all, ih)

-- it is of another client
pub found-other : (k : ℕ) (is : List ℕ) (ss : List Slot) (s : Slot) → is_own k s ≡ false → IsFound k is ss → IsFound k is (ss ++ (s ∷ []))
found-other k is ss s other f = record {
  within = rw (length-end ss s) (within-more is (length ss) (length ss + 1) (omega arith) f.within);
  own =
      own-before k ss s is f.within
      ∙ (f.own ∙ sym (positions-more (is_own k) 0 ss s ∙ (ap (λ b. positions (is_own k) 0 ss ++ (if b then (0 + length ss) ∷ [] else [])) other ∙ append-nil (positions (is_own k) 0 ss))));
}

-- it is the client's, and noted
pub found-new : (k : ℕ) (is : List ℕ) (ss : List Slot) (s : Slot) → is_own k s ≡ true → IsFound k is ss → IsFound k (is ++ (length ss ∷ [])) (ss ++ (s ∷ []))
found-new k is ss s own f = record {
  within = rw (length-end ss s) (within-last is (length ss) (length ss + 1) (omega arith) (within-more is (length ss) (length ss + 1) (omega arith) f.within));
  own =
      filter-append (is_own_at k (ss ++ (s ∷ []))) is (length ss ∷ [])
      ∙ (ap (λ m. m ++ filter (is_own_at k (ss ++ (s ∷ []))) (length ss ∷ [])) (own-before k ss s is f.within ∙ f.own)
      ∙ (ap (λ (x : Slot). positions (is_own k) 0 ss ++ (if is_own k x then length ss ∷ [] else [])) (get-end ss s [] nothing)
      ∙ sym (positions-more (is_own k) 0 ss s ∙ ap (λ n. positions (is_own k) 0 ss ++ (if is_own k s then n ∷ [] else [])) (plus-zero (length ss)))));
}

-- as `note_spot` notes it
pub found-noted : (k j : ℕ) (is js : List ℕ) (ss : List Slot) (s : Slot) → s.kept ≡ true → s.place.client ≡ j → js ≡ (if j == k then is ++ (length ss ∷ []) else is) → IsFound k is ss → IsFound k js (ss ++ (s ∷ []))
found-noted k j is js ss s kept client noted f = step (j == k) refl
  where
    own : is_own k s ≡ (j == k)
    own = ap (λ b. b && s.place.client == k) kept ∙ ap (λ i. i == k) client

    step : (b : Bool) → (j == k) ≡ b → IsFound k js (ss ++ (s ∷ []))
    step true e = rw (noted ∙ ap (λ b. if b then is ++ (length ss ∷ []) else is) e) (found-new k is ss s (own ∙ e) f)
    step false e = rw (noted ∙ ap (λ b. if b then is ++ (length ss ∷ []) else is) e) (found-other k is ss s (own ∙ e) f)

-- as `prune_spots` notes it
pub found-pruning : (k j : ℕ) (is js : List ℕ) (ss : List Slot) → js ≡ (if k == j then filter (is_own_at k ss) is else is) → IsFound j is ss → IsFound j js ss
found-pruning k j is js ss noted f = step (k == j) refl
  where
    step : (b : Bool) → (k == j) ≡ b → IsFound j js ss
    step true e =
        let same : k ≡ j = grind (arith, nat_tests, e) in
        rw (noted ∙ (ap (λ b. if b then filter (is_own_at k ss) is else is) e ∙ ap (λ i. filter (is_own_at i ss) is) same)) (found-pruned j is ss f)
    step false e = rw (noted ∙ ap (λ b. if b then filter (is_own_at k ss) is else is) e) f

-- A walk.

places-of : (k : ℕ) (n : ℕ) (all ss : List Slot) → ((i : ℕ) → i < length ss → get_or all (n + i) nothing ≡ get_or ss i nothing)
    → map (λ i. (get_or all i nothing).place) (positions (is_own k) n ss) ≡ filter (λ u. u.client == k) (standing ss)
places-of k n all [] same = refl
places-of k n all (s ∷ ss) same = step s.kept refl (s.place.client == k) refl here (places-of k (n + 1) all ss rest)
  where
    here : get_or all n nothing ≡ s
    here = let z : n + 0 ≡ n = omega arith in ap (λ i. get_or all i nothing) (sym z) ∙ same 0 (omega arith)

    rest : (i : ℕ) → i < length ss → get_or all (n + 1 + i) nothing ≡ get_or ss i nothing
    rest i less = let e : n + 1 + i ≡ n + suc i = omega arith in ap (λ i. get_or all i nothing) e ∙ same (suc i) (omega arith)

    step : (a : Bool) → s.kept ≡ a → (b : Bool) → (s.place.client == k) ≡ b → get_or all n nothing ≡ s
        → map (λ i. (get_or all i nothing).place) (positions (is_own k) (n + 1) ss) ≡ filter (λ u. u.client == k) (standing ss)
        → map (λ i. (get_or all i nothing).place) (positions (is_own k) n (s ∷ ss)) ≡ filter (λ u. u.client == k) (standing (s ∷ ss))
    step true e true is at ih = grind (arith, e, is, at, ih)
    step true e false is at ih = grind (arith, e, is, at, ih)
    step false e b is at ih = grind (arith, e, is, at, ih)

-- those of a client are found by what is noted
pub own-all : (k : ℕ) (is : List ℕ) (ss : List Slot) → IsFound k is ss → own_of k ss is ≡ spans_of k (standing ss)
own-all k is ss f = ap (map (λ i. (get_or ss i nothing).place)) f.own ∙ places-of k 0 ss ss (λ i less. ap (λ j. get_or ss j nothing) (plus-zero i))

pub own-yes : (k : ℕ) (ss : List Slot) (is : List ℕ) (i : ℕ) → is_own_at k ss i ≡ true → own_of k ss (is ++ (i ∷ [])) ≡ own_of k ss is ++ ((get_or ss i nothing).place ∷ [])
own-yes k ss is i own =
    ap (map (λ i. (get_or ss i nothing).place)) (filter-append (is_own_at k ss) is (i ∷ []))
    ∙ (map-append (λ i. (get_or ss i nothing).place) (filter (is_own_at k ss) is) (filter (is_own_at k ss) (i ∷ []))
    ∙ ap (λ b. own_of k ss is ++ map (λ i. (get_or ss i nothing).place) (if b then i ∷ [] else [])) own)

pub own-no : (k : ℕ) (ss : List Slot) (is : List ℕ) (i : ℕ) → is_own_at k ss i ≡ false → own_of k ss (is ++ (i ∷ [])) ≡ own_of k ss is
own-no k ss is i own =
    ap (map (λ i. (get_or ss i nothing).place)) (filter-append (is_own_at k ss) is (i ∷ []) ∙ (ap (λ b. filter (is_own_at k ss) is ++ (if b then i ∷ [] else [])) own ∙ append-nil (filter (is_own_at k ss) is)))

-- what waits is what waits for the client's own
spans-own : (k n : ℕ) (us : List Span) → spans_of k (map (raised n) (spans_of k us)) ≡ spans_of k (map (raised n) us)
spans-own k n [] = refl
spans-own k n (u ∷ us) = step (u.client == k) refl (spans-own k n us)
  where
    same : (raised n u).client ≡ u.client
    same = elim u.live as (λ l. (if l then record u { stop = n } else u).client ≡ u.client) [ true ↦ refl | false ↦ refl ]

    step : (b : Bool) → (u.client == k) ≡ b → spans_of k (map (raised n) (spans_of k us)) ≡ spans_of k (map (raised n) us) → spans_of k (map (raised n) (if b then u ∷ spans_of k us else spans_of k us)) ≡ spans_of k (raised n u ∷ map (raised n) us)
    step true e ih = ap (λ m. if (raised n u).client == k then raised n u ∷ m else m) ih
    step false e ih = ih ∙ sym (ap (λ j. if j == k then raised n u ∷ spans_of k (map (raised n) us) else spans_of k (map (raised n) us)) same ∙ ap (λ b. if b then raised n u ∷ spans_of k (map (raised n) us) else spans_of k (map (raised n) us)) e)

pub waits-own : (logs : List TopicLog) (k n : ℕ) (us : List Span) → waits logs (map (raised n) (spans_of k us)) k ≡ waits logs (map (raised n) us) k
waits-own logs k n us = ap (λ m. put_all (gathered logs m) []) (spans-own k n us)

live-filter : (k : ℕ) (us : List Span) → filter (λ u. u.live && u.client == k) (spans_of k us) ≡ filter (λ u. u.live && u.client == k) us
live-filter k [] = refl
live-filter k (u ∷ us) = step (u.client == k) refl u.live refl (live-filter k us)
  where
    step : (b : Bool) → (u.client == k) ≡ b → (l : Bool) → u.live ≡ l → filter (λ u. u.live && u.client == k) (spans_of k us) ≡ filter (λ u. u.live && u.client == k) us
        → filter (λ u. u.live && u.client == k) (spans_of k (u ∷ us)) ≡ filter (λ u. u.live && u.client == k) (u ∷ us)
    step true e true l ih = grind (arith, e, l, ih)
    step true e false l ih = grind (arith, e, l, ih)
    step false e true l ih = grind (arith, e, l, ih)
    step false e false l ih = grind (arith, e, l, ih)

pub live-own : (k : ℕ) (us : List Span) → count_by (λ u. u.live && u.client == k) (spans_of k us) ≡ count_by (λ u. u.live && u.client == k) us
live-own k us =
    sym (length-filter (λ (u : Span). u.live && u.client == k) (spans_of k us))
    ∙ (ap length (live-filter k us) ∙ length-filter (λ (u : Span). u.live && u.client == k) us)

pub any-own : (sub k : ℕ) (us : List Span) → list_any (λ u. u.live && (u.id == sub && u.client == k)) (spans_of k us) ≡ list_any (λ u. u.live && (u.id == sub && u.client == k)) us
any-own sub k [] = refl
any-own sub k (u ∷ us) = let ih = any-own sub k us in grind (arith, ih)

-- One after another is changed.

module _ (g : Slot → Slot) (q : ℕ → Bool) where
  -- where the test is false nothing changes
  abbrev idle : List Slot → Type 0
  idle ss = (i : ℕ) → q i ≡ false → g (get_or ss i nothing) ≡ get_or ss i nothing

  get-set : (ss : List Slot) (i j : ℕ) → g (get_or ss i nothing) ≡ get_or ss i nothing → get_or (set ss j (g (get_or ss j nothing))) i nothing ≡ get_or ss i nothing
  get-set [] i j same = refl
  get-set (s ∷ ss) zero zero same = same
  get-set (s ∷ ss) (suc i) zero same = refl
  get-set (s ∷ ss) zero (suc j) same = refl
  get-set (s ∷ ss) (suc i) (suc j) same = get-set ss i j same

  still-idle : (ss : List Slot) (j : ℕ) → idle ss → idle (set ss j (g (get_or ss j nothing)))
  still-idle ss j all i out = let e = get-set ss i j (all i out) in ap g e ∙ (all i out ∙ sym e)

  changed-filter : (is : List ℕ) (ss : List Slot) → idle ss → changed_at g is ss ≡ changed_at g (filter q is) ss
  changed-filter [] ss all = refl
  changed-filter (i ∷ is) ss all = step (q i) refl (changed-filter is (set ss i (g (get_or ss i nothing))) (still-idle ss i all)) (changed-filter is ss all)
    where
      step : (b : Bool) → q i ≡ b → changed_at g is (set ss i (g (get_or ss i nothing))) ≡ changed_at g (filter q is) (set ss i (g (get_or ss i nothing)))
          → changed_at g is ss ≡ changed_at g (filter q is) ss → changed_at g is (set ss i (g (get_or ss i nothing))) ≡ changed_at g (if b then i ∷ filter q is else filter q is) ss
      step true e one two = one
      step false e one two = ap (changed_at g is) (ap (set ss i) (all i e) ∙ set-get_or ss i nothing) ∙ two

changed-positions : (g : Slot → Slot) (p : Slot → Bool) → ((s : Slot) → p s ≡ false → g s ≡ s) → (ss : List Slot) (done : List Slot) → changed_at g (positions p (length done) ss) (done ++ ss) ≡ done ++ map g ss
changed-positions g p same [] done = refl
changed-positions g p same (s ∷ ss) done = step (p s) refl (λ x. changed-positions g p same ss (done ++ (x ∷ [])))
  where
    next : (x : Slot) → changed_at g (positions p (length (done ++ (x ∷ []))) ss) ((done ++ (x ∷ [])) ++ ss) ≡ (done ++ (x ∷ [])) ++ map g ss
        → changed_at g (positions p (length done + 1) ss) (done ++ (x ∷ ss)) ≡ done ++ (x ∷ map g ss)
    next x ih =
        ap (changed_at g (positions p (length done + 1) ss)) (assoc-end done x ss)
        ∙ (ap (λ n. changed_at g (positions p n ss) ((done ++ (x ∷ [])) ++ ss)) (sym (length-end done x)) ∙ (ih ∙ sym (assoc-end done x (map g ss))))

    step : (b : Bool) → p s ≡ b → ((x : Slot) → changed_at g (positions p (length (done ++ (x ∷ []))) ss) ((done ++ (x ∷ [])) ++ ss) ≡ (done ++ (x ∷ [])) ++ map g ss)
        → changed_at g (if b then length done ∷ positions p (length done + 1) ss else positions p (length done + 1) ss) (done ++ (s ∷ ss)) ≡ done ++ (g s ∷ map g ss)
    step true e ih =
        ap (λ (x : Slot). changed_at g (positions p (length done + 1) ss) (set (done ++ (s ∷ ss)) (length done) (g x))) (get-end done s ss nothing)
        ∙ (ap (changed_at g (positions p (length done + 1) ss)) (set-end done s ss (g s)) ∙ next (g s) (ih (g s)))
    step false e ih = next s (ih s) ∙ ap (λ x. done ++ (x ∷ map g ss)) (sym (same s e))

-- a change of the client's own by what is noted is a change of all
pub changed-all : (k : ℕ) (g : Slot → Slot) → ((s : Slot) → is_own k s ≡ false → g s ≡ s) → (is : List ℕ) (ss : List Slot) → IsFound k is ss → changed_at g is ss ≡ map g ss
changed-all k g same is ss f =
    changed-filter g (is_own_at k ss) is ss (λ i out. same (get_or ss i nothing) out)
    ∙ (ap (λ m. changed_at g m ss) f.own ∙ changed-positions g (is_own k) same ss [])

pub changed-next : (g : Slot → Slot) (is : List ℕ) (j : ℕ) (d : ℕ) (ss : List Slot) (s : Slot) → j < length is → s ≡ g (get_or ss (get_or is j d) nothing) → changed_at g (drop (j + 1) is) (set ss (get_or is j d) s) ≡ changed_at g (drop j is) ss
changed-next g is j d ss s less new = ap (λ x. changed_at g (drop (j + 1) is) (set ss (get_or is j d) x)) new ∙ ap (λ m. changed_at g m ss) (sym (drop_more is j d less))

-- the changes of a slot leave it the client's, or not
pub less-begun : (k j n : ℕ) (s : Slot) → is_own k (slot_begun j n s) ≡ true → is_own k s ≡ true
less-begun k j n s own = step s.kept refl (s.place.client == j) refl own
  where
    step : (a : Bool) → s.kept ≡ a → (b : Bool) → (s.place.client == j) ≡ b → is_own k (slot_begun j n s) ≡ true → is_own k s ≡ true
    step true e true is own = grind (arith, e, is, own)
    step true e false is own = grind (arith, e, is, own)
    step false e b is own = grind (arith, e, is, own)

pub less-if : (k : ℕ) (p : Span → Bool) (s : Slot) → is_own k (kept_if p s) ≡ true → is_own k s ≡ true
less-if k p s own = grind (arith, own)

pub stopped-client : (n : ℕ) (o : ℕ → Bool) (u : Span) → (stopped n o u).client ≡ u.client
stopped-client n o u = elim (u.live && o u.id) as (λ b. (if b then record u { stop = n; live = false } else u).client ≡ u.client) [ true ↦ refl | false ↦ refl ]

pub less-ended : (k stop next : ℕ) (over : ℕ → Bool) (logs : List TopicLog) (s : Slot) → is_own k (slot_ended stop next over logs s) ≡ true → is_own k s ≡ true
less-ended k stop next over logs s own =
    let first = less-if k (remains over logs next) (with_place (stopped stop over) s) own in
    ap (λ j. s.kept && j == k) (sym (stopped-client stop over s.place)) ∙ first

pub begun-idle : (k n : ℕ) (s : Slot) → is_own k s ≡ false → slot_begun k n s ≡ s
begun-idle k n s other = ap (λ b. if b then with_place (begun_anew k n) (kept_if (outlasts k) s) else s) other

-- What is asked of all that are kept.

pub any-kept : (p : Span → Bool) (ss : List Slot) → list_any (λ s. s.kept && p s.place) ss ≡ list_any p (standing ss)
any-kept p [] = refl
any-kept p (s ∷ ss) = elim s.kept as (λ k. (k && p s.place || list_any (λ s. s.kept && p s.place) ss) ≡ list_any p (map (λ (x : Slot). x.place) (if k then s ∷ filter (λ x. x.kept) ss else filter (λ x. x.kept) ss))) [
  | true ↦ ap (λ b. p s.place || b) (any-kept p ss)
  | false ↦ any-kept p ss
]

pub kept-yes : (ss : List Slot) (s : Slot) → s.kept ≡ true → standing (ss ++ (s ∷ [])) ≡ standing ss ++ (s.place ∷ [])
kept-yes [] s e = ap (λ k. map (λ (x : Slot). x.place) (if k then s ∷ [] else [])) e
kept-yes (x ∷ ss) s e = elim x.kept as (λ k. map (λ (x : Slot). x.place) (if k then x ∷ filter (λ x. x.kept) (ss ++ (s ∷ [])) else filter (λ x. x.kept) (ss ++ (s ∷ [])))
    ≡ map (λ (x : Slot). x.place) (if k then x ∷ filter (λ x. x.kept) ss else filter (λ x. x.kept) ss) ++ (s.place ∷ [])) [
      | true ↦ ap (λ us. x.place ∷ us) (kept-yes ss s e)
      | false ↦ kept-yes ss s e
    ]

pub kept-no : (ss : List Slot) (s : Slot) → s.kept ≡ false → standing (ss ++ (s ∷ [])) ≡ standing ss
kept-no [] s e = ap (λ k. map (λ (x : Slot). x.place) (if k then s ∷ [] else [])) e
kept-no (x ∷ ss) s e = elim x.kept as (λ k. map (λ (x : Slot). x.place) (if k then x ∷ filter (λ x. x.kept) (ss ++ (s ∷ [])) else filter (λ x. x.kept) (ss ++ (s ∷ [])))
    ≡ map (λ (x : Slot). x.place) (if k then x ∷ filter (λ x. x.kept) ss else filter (λ x. x.kept) ss)) [
      | true ↦ ap (λ us. x.place ∷ us) (kept-no ss s e)
      | false ↦ kept-no ss s e
    ]

pub left-joined : (ks : List ℕ) (us : List Span) (u : Span) → stays ks u.client ≡ true → spans_left ks (us ++ (u ∷ [])) ≡ spans_left ks us ++ (u ∷ [])
left-joined ks us u stay = filter-append (λ (v : Span). stays ks v.client) us (u ∷ []) ∙ ap (λ b. spans_left ks us ++ (if b then u ∷ [] else [])) stay

pub at-any : {X : Type 0} (xs : List X) (i : ℕ) (d e : X) → i < length xs → get_or xs i d ≡ get_or xs i e
at-any [] i d e less = absurd (omega arith)
at-any (x ∷ xs) zero d e less = refl
at-any (x ∷ xs) (suc i) d e less = at-any xs i d e (omega arith)

-- Slots that are given up.

pub fresh-yes : (ss : List Slot) (s : Slot) → s.kept ≡ true → filter (λ s. s.kept) (ss ++ (s ∷ [])) ≡ filter (λ s. s.kept) ss ++ (s ∷ [])
fresh-yes ss s e = filter-append (λ (x : Slot). x.kept) ss (s ∷ []) ∙ ap (λ b. filter (λ s. s.kept) ss ++ (if b then s ∷ [] else [])) e

pub fresh-no : (ss : List Slot) (s : Slot) → s.kept ≡ false → filter (λ s. s.kept) (ss ++ (s ∷ [])) ≡ filter (λ s. s.kept) ss
fresh-no ss s e = filter-append (λ (x : Slot). x.kept) ss (s ∷ []) ∙ (ap (λ b. filter (λ s. s.kept) ss ++ (if b then s ∷ [] else [])) e ∙ append-nil (filter (λ s. s.kept) ss))

-- the last one goes again
pub kept-last : (ss : List Slot) (s : Slot) (all : List Slot) (n : ℕ) (x : Slot) → all ≡ ss ++ (s ∷ []) → n + 1 ≡ length all → x.kept ≡ false → standing (set all n x) ≡ standing ss
kept-last ss s all n x is last gone =
    let whole = ap length is ∙ length-end ss s in
    let at : n ≡ length ss = omega (arith, whole, last) in
    rw (is, at) (ap standing (set-end ss s [] x) ∙ kept-no ss x gone)

pub own-client : (k : ℕ) (s : Slot) → is_own k s ≡ true → (s.place.client == k) ≡ true
own-client k s own = grind (arith, own)

hit-any : (a b c d : Bool) → (a && b) ≡ true → c ≡ true → (a && (b && c) || d) ≡ true
hit-any true true c d hit own = ap (λ x. x || d) own
hit-any true false c d hit own = cc
hit-any false b c d hit own = cc

or-true : (a b : Bool) → b ≡ true → (a || b) ≡ true
or-true true b e = refl
or-true false b e = e

module _ (k sub : ℕ) (ss : List Slot) where
  abbrev sought : Span → Bool
  sought u = u.live && (u.id == sub && u.client == k)

  pub any-found : (is : List ℕ) (j d : ℕ) → j < length is → is_own_at k ss (get_or is j d) ≡ true
      → ((get_or ss (get_or is j d) nothing).place.live && (get_or ss (get_or is j d) nothing).place.id == sub) ≡ true → list_any sought (own_of k ss is) ≡ true
  any-found [] j d less own hit = absurd (omega arith)
  any-found (i ∷ is) zero d less own hit =
      let u = (get_or ss i nothing).place in
      ap (λ b. list_any sought (map (λ i. (get_or ss i nothing).place) (if b then i ∷ filter (is_own_at k ss) is else filter (is_own_at k ss) is))) own
      ∙ hit-any u.live (u.id == sub) (u.client == k) (list_any sought (own_of k ss is)) hit (own-client k (get_or ss i nothing) own)
  any-found (i ∷ is) (suc j) d less own hit =
      let ih = any-found is j d (omega arith) own hit in
      elim (is_own_at k ss i) as (λ b. list_any sought (map (λ i. (get_or ss i nothing).place) (if b then i ∷ filter (is_own_at k ss) is else filter (is_own_at k ss) is)) ≡ true) [
        | true ↦ or-true (sought (get_or ss i nothing).place) (list_any sought (own_of k ss is)) ih
        | false ↦ ih
      ]
