-- Names that are left, by the flags of those that have been given.
use Rattle.std.proofs.Common.{◌≡◌, ℕ, zero, suc, ◌<◌, ◌≤◌, Bool, true, false, not, ◌||◌, List, [], ◌∷◌, ◌++◌, length, get_or, set, slice_get, Some, sym, refl, ap, ◌∙◌, arith, cond, bytes_eq}
use Rattle.std.proofs.lemmas.Slice.Eq.{bytes_eq-Decides}
use Rattle.amf_graph.specs.Order.{Absent}
use Rattle.std.specs.Prelude.{Option, None, MatchOption}
use Rattle.std.proofs.lemmas.List.Sums.{fold-append}
use Rattle.amf_graph.specs.TextNumbers.{with_content, contents_of}
use Rattle.amf_graph.proofs.Contents.{AreApart, contents_apart, content_new}
use Rattle.amf_text.specs.Told.{stands_in}
use Rattle.amf_text.specs.Meant.{without}
use Rattle.amf_text_read.specs.Names.{left_of, has_some}
use Rattle.amf_text_read.specs.Flags.{with_flag}

-- flags

pub pad_flag : (n : ℕ) (bs : List Bool) → length bs ≤ n → with_flag n (bs ++ false ∷ []) ≡ with_flag n bs
pad_flag zero [] h = refl
pad_flag zero (b ∷ bs) h = absurd (omega arith)
pad_flag (suc n) [] h = refl
pad_flag (suc n) (b ∷ bs) h = ap (λ w. b ∷ w) (pad_flag n bs (omega arith))

pub set_flag_is : (n : ℕ) (bs : List Bool) → n < length bs → set bs n true ≡ with_flag n bs
set_flag_is zero [] h = absurd (omega arith)
set_flag_is zero (b ∷ bs) h = refl
set_flag_is (suc n) [] h = absurd (omega arith)
set_flag_is (suc n) (b ∷ bs) h = ap (λ w. b ∷ w) (set_flag_is n bs (omega arith))

-- names that are there, once each

apart_rest : (x : List ℕ) (xs : List (List ℕ)) → AreApart (x ∷ xs) → AreApart xs
apart_rest x xs h = λ j k y e f. (let p = h (suc j) (suc k) y e f in omega arith)

apart_first : (x y : List ℕ) (xs : List (List ℕ)) (n : ℕ) → AreApart (y ∷ xs) → slice_get xs n ≡ Some x → x ≡ y → ⊥
apart_first x y xs n h e f = (let p = h zero (suc n) x (ap (λ w. Some w) (sym f)) e in absurd (omega arith))

absent_rest : (x y : List ℕ) (xs : List (List ℕ)) → Absent (y ∷ xs) x → Absent xs x
absent_rest x y xs a = λ k. a (suc k)

absent_first : (x y : List ℕ) (xs : List (List ℕ)) → Absent (y ∷ xs) x → x ≡ y → ⊥
absent_first x y xs a e = a zero (ap (λ w. Some w) (sym e))

same_bytes : (x : List ℕ) → bytes_eq x x ≡ true
same_bytes x = (bytes_eq-Decides x x).1 refl

differ_by : (b : Bool) → (b ≡ true → ⊥) → b ≡ false
differ_by true n = absurd (n refl)
differ_by false n = refl

other_bytes : (x y : List ℕ) → (x ≡ y → ⊥) → bytes_eq x y ≡ false
other_bytes x y n = differ_by (bytes_eq x y) (λ e. n ((bytes_eq-Decides x y).0 e))

or_left : (a b : Bool) → a ≡ true → (a || b) ≡ true
or_left true b e = refl
or_left false b e = cc

or_right : (a b c : Bool) → a ≡ false → b ≡ c → (a || b) ≡ c
or_right false b c e f = f
or_right true b c e f = cc

-- a name that was not told

pub absent_left : (bs : List Bool) (xs : List (List ℕ)) (x : List ℕ) → Absent xs x → stands_in (left_of bs xs) x ≡ false
absent_left [] [] x a = refl
absent_left [] (y ∷ ys) x a = or_right (bytes_eq x y) (stands_in ys x) false (other_bytes x y (absent_first x y ys a)) (absent_left [] ys x (absent_rest x y ys a))
absent_left (b ∷ bs) [] x a = refl
absent_left (true ∷ bs) (y ∷ ys) x a = absent_left bs ys x (absent_rest x y ys a)
absent_left (false ∷ bs) (y ∷ ys) x a = or_right (bytes_eq x y) (stands_in (left_of bs ys) x) false (other_bytes x y (absent_first x y ys a)) (absent_left bs ys x (absent_rest x y ys a))

-- no later place has the first name

apart_absent : (x : List ℕ) (xs : List (List ℕ)) → AreApart (x ∷ xs) → Absent xs x
apart_absent x xs h = λ k e. (let p = h zero (suc k) x refl e in absurd (omega arith))

heads_same : (x y : List ℕ) (ys : List (List ℕ)) → slice_get (y ∷ ys) zero ≡ Some x → y ≡ x
heads_same x y ys e = cc

-- one that was told is left until its flag is set

pub told_left : (bs : List Bool) (xs : List (List ℕ)) (n : ℕ) (x : List ℕ) → AreApart xs → slice_get xs n ≡ Some x → stands_in (left_of bs xs) x ≡ not (get_or bs n false)
told_left bs [] n x h e = cc
told_left [] (y ∷ ys) zero x h e = or_left (bytes_eq x y) (stands_in ys x) ((bytes_eq-Decides x y).1 (sym (heads_same x y ys e)))
told_left (false ∷ bs) (y ∷ ys) zero x h e = or_left (bytes_eq x y) (stands_in (left_of bs ys) x) ((bytes_eq-Decides x y).1 (sym (heads_same x y ys e)))
told_left (true ∷ bs) (y ∷ ys) zero x h e = absent_left bs ys x (rw (heads_same x y ys e) at (apart_absent y ys h))
told_left [] (y ∷ ys) (suc n) x h e = or_right (bytes_eq x y) (stands_in ys x) true (other_bytes x y (apart_first x y ys n h e)) (told_left [] ys n x (apart_rest y ys h) e)
told_left (false ∷ bs) (y ∷ ys) (suc n) x h e = or_right (bytes_eq x y) (stands_in (left_of bs ys) x) (not (get_or bs n false)) (other_bytes x y (apart_first x y ys n h e)) (told_left bs ys n x (apart_rest y ys h) e)
told_left (true ∷ bs) (y ∷ ys) (suc n) x h e = told_left bs ys n x (apart_rest y ys h) e

-- and with its flag it goes

without_first : (x y : List ℕ) (ys : List (List ℕ)) → y ≡ x → without x (y ∷ ys) ≡ ys
without_first x y ys e = chosen (bytes_eq x y) ((bytes_eq-Decides x y).1 (sym e))
  where
    chosen : (b : Bool) → b ≡ true → cond b ys (y ∷ without x ys) ≡ ys
    chosen true f = refl
    chosen false f = cc

without_later : (x y : List ℕ) (ys : List (List ℕ)) → (x ≡ y → ⊥) → without x (y ∷ ys) ≡ y ∷ without x ys
without_later x y ys n = chosen (bytes_eq x y) (other_bytes x y n)
  where
    chosen : (b : Bool) → b ≡ false → cond b ys (y ∷ without x ys) ≡ y ∷ without x ys
    chosen false f = refl
    chosen true f = cc

pub given_left : (bs : List Bool) (xs : List (List ℕ)) (n : ℕ) (x : List ℕ) → AreApart xs → slice_get xs n ≡ Some x → get_or bs n false ≡ false → left_of (with_flag n bs) xs ≡ without x (left_of bs xs)
given_left bs [] n x h e f = cc
given_left [] (y ∷ ys) zero x h e f = sym (without_first x y ys (heads_same x y ys e))
given_left (false ∷ bs) (y ∷ ys) zero x h e f = sym (without_first x y (left_of bs ys) (heads_same x y ys e))
given_left (true ∷ bs) (y ∷ ys) zero x h e f = cc
given_left [] (y ∷ ys) (suc n) x h e f = ap (λ w. y ∷ w) (given_left [] ys n x (apart_rest y ys h) e refl) ∙ sym (without_later x y ys (apart_first x y ys n h e))
given_left (false ∷ bs) (y ∷ ys) (suc n) x h e f = ap (λ w. y ∷ w) (given_left bs ys n x (apart_rest y ys h) e f) ∙ sym (without_later x y (left_of bs ys) (apart_first x y ys n h e))
given_left (true ∷ bs) (y ∷ ys) (suc n) x h e f = given_left bs ys n x (apart_rest y ys h) e f

-- whether some are left

pub some_left : (bs : List Bool) (xs : List (List ℕ)) (n : ℕ) → n < length xs → get_or bs n false ≡ false → has_some (left_of bs xs) ≡ true
some_left bs [] n h e = absurd (omega arith)
some_left [] (y ∷ ys) n h e = refl
some_left (false ∷ bs) (y ∷ ys) n h e = refl
some_left (true ∷ bs) (y ∷ ys) zero h e = cc
some_left (true ∷ bs) (y ∷ ys) (suc n) h e = some_left bs ys n (omega arith) e

pub none_left : (bs : List Bool) (xs : List (List ℕ)) → ((n : ℕ) → n < length xs → get_or bs n false ≡ true) → has_some (left_of bs xs) ≡ false
none_left bs [] h = none bs
  where
    none : (cs : List Bool) → has_some (left_of cs []) ≡ false
    none [] = refl
    none (c ∷ cs) = refl
none_left [] (y ∷ ys) h = (let p = h zero (omega arith) in cc)
none_left (false ∷ bs) (y ∷ ys) h = (let p = h zero (omega arith) in cc)
none_left (true ∷ bs) (y ∷ ys) h = none_left bs ys (λ n k. h (suc n) (omega arith))

-- by the contents of texts

pub told_there : (texts : List (List ℕ)) (n : ℕ) (x : List ℕ) → slice_get (contents_of texts) n ≡ Some x → true ≡ stands_in (contents_of texts) x
told_there texts n x e = sym (told_left [] (contents_of texts) n x (contents_apart texts) e)

pub told_absent : (texts : List (List ℕ)) (x : List ℕ) → Absent (contents_of texts) x → false ≡ stands_in (contents_of texts) x
told_absent texts x a = sym (absent_left [] (contents_of texts) x a)

pub told_more : (o : Option ℕ) (old texts : List (List ℕ)) (x : List ℕ)
    → MatchOption o (Absent (contents_of old) x) (λ n. slice_get (contents_of old) n ≡ Some x)
    → MatchOption o (texts ≡ old ++ x ∷ []) (λ n. texts ≡ old)
    → stands_in (contents_of old) x ≡ false → contents_of texts ≡ contents_of old ++ x ∷ []
told_more None old texts x a e s = ap contents_of e ∙ fold-append with_content [] old (x ∷ []) ∙ content_new (contents_of old) x a
told_more (Some n) old texts x a e s = (let t = told_there old n x a in cc)

unset : (b : Bool) → not b ≡ true → b ≡ false
unset false e = refl
unset true e = cc

pub told_given : (bs cs : List Bool) (texts : List (List ℕ)) (n : ℕ) (x : List ℕ) → slice_get (contents_of texts) n ≡ Some x → cs ≡ with_flag n bs
    → stands_in (left_of bs (contents_of texts)) x ≡ true → left_of cs (contents_of texts) ≡ without x (left_of bs (contents_of texts))
told_given bs cs texts n x e f s =
    let h = contents_apart texts in
    let t = told_left bs (contents_of texts) n x h e in
    ap (λ w. left_of w (contents_of texts)) f ∙ given_left bs (contents_of texts) n x h e (unset (get_or bs n false) (sym t ∙ s))
