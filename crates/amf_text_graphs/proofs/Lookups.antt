-- Names by their places.
use Rattle.std.proofs.Common.{◌≡◌, ◌≢◌, ℕ, suc, ◌+◌, ◌<◌, Bool, true, false, List, [], ◌∷◌, ◌++◌, length, get_or, slice_get, Some, sym, refl, ap, ◌∙◌, subst, inl, inr, arith, bytes_eq}
use Rattle.std.specs.Prelude.{if◌then◌else◌}
use Rattle.std.specs.List.{list_any}
use Rattle.std.proofs.lemmas.Bool.{false≢true}
use Rattle.std.proofs.lemmas.List.{length-append, get_or_append_left, get_or_push}
use Rattle.std.proofs.lemmas.List.Folds.{list_any_at}
use Rattle.std.proofs.lemmas.List.Sums.{fold-append}
use Rattle.std.proofs.lemmas.Option.{slice_get_within, get_or_from_slice_get}
use Rattle.std.proofs.lemmas.Slice.Eq.{bytes_eq-Decides}
use Rattle.amf_graph.specs.Order.{Absent}
use Rattle.amf_graph.specs.TextNumbers.{with_content, contents_of}
use Rattle.amf_graph.proofs.Contents.{text_in_contents}
use Rattle.amf_graph.proofs.Lists.{at_push}
use Rattle.amf_text_graphs.specs.Lookups.{place_in, AreFirst}

-- a name that is there stays where it stands first
longer : (b : Bool) (n m most : ℕ) → (if b then 0 else suc n) < suc most → (n < most → m ≡ n) → (if b then 0 else suc m) ≡ (if b then 0 else suc n)
longer true n m most h e = refl
longer false n m most h e = ap suc (e (omega arith))

pub place_longer : (x : List ℕ) (xs ys : List (List ℕ)) → place_in x xs < length xs → place_in x (xs ++ ys) ≡ place_in x xs
place_longer x [] ys h = absurd (omega arith)
place_longer x (y ∷ xs) ys h = longer (bytes_eq x y) (place_in x xs) (place_in x (xs ++ ys)) (length xs) h (place_longer x xs ys)

-- one that is not there
not_first : (b : Bool) (x y : List ℕ) (n most : ℕ) → bytes_eq x y ≡ b → y ≢ x → n ≡ most → (if b then 0 else suc n) ≡ suc most
not_first true x y n most e d r = absurd (d (sym ((bytes_eq-Decides x y).0 e)))
not_first false x y n most e d r = ap suc r

pub place_absent : (x : List ℕ) (xs : List (List ℕ)) → Absent xs x → place_in x xs ≡ length xs
place_absent x [] a = refl
place_absent x (y ∷ xs) a = not_first (bytes_eq x y) x y (place_in x xs) (length xs) refl (λ e. a 0 (ap (λ w. Some w) e)) (place_absent x xs (λ k. a (suc k)))

itself : (b : Bool) (n : ℕ) → b ≡ true → (if b then 0 else n) ≡ 0
itself true n e = refl
itself false n e = cc

place_new : (x : List ℕ) (xs : List (List ℕ)) → Absent xs x → place_in x (xs ++ x ∷ []) ≡ length xs
place_new x [] a = itself (bytes_eq x x) 1 ((bytes_eq-Decides x x).1 refl)
place_new x (y ∷ xs) a = not_first (bytes_eq x y) x y (place_in x (xs ++ x ∷ [])) (length xs) refl (λ e. a 0 (ap (λ w. Some w) e)) (place_new x xs (λ k. a (suc k)))

not_there : (xs : List (List ℕ)) (x : List ℕ) → Absent (contents_of xs) x → Absent xs x
not_there xs x a k e = let there = text_in_contents xs k x e in a there.0 there.1

pub sought : (xs : List (List ℕ)) (x : List ℕ) → Absent (contents_of xs) x → length xs ≡ place_in x xs
sought xs x a = sym (place_absent x xs (not_there xs x a))

-- one name more

same_contents : (b : Bool) (cs : List (List ℕ)) (x : List ℕ) → (length cs < length (if b then cs else cs ++ x ∷ []) → ⊥) → (if b then cs else cs ++ x ∷ []) ≡ cs
same_contents true cs x h = refl
same_contents false cs x h = absurd (h (let n = length-append cs (x ∷ []) in omega (arith, n)))

more_contents : (b : Bool) (cs : List (List ℕ)) (x : List ℕ) → list_any (λ y. bytes_eq y x) cs ≡ b → length cs < length (if b then cs else cs ++ x ∷ []) → ((if b then cs else cs ++ x ∷ []) ≡ cs ++ x ∷ []) × Absent cs x
more_contents true cs x e h = absurd (omega arith)
more_contents false cs x e h = (refl, λ k f. false≢true (sym e ∙ list_any_at (λ y. bytes_eq y x) cs k [] (slice_get_within cs k x f) ((bytes_eq-Decides (get_or cs k []) x).1 (get_or_from_slice_get cs k x [] f))))

push_contents : (xs : List (List ℕ)) (x : List ℕ) → contents_of (xs ++ x ∷ []) ≡ with_content (contents_of xs) x
push_contents xs x = fold-append with_content [] xs (x ∷ [])

still : (xs ys : List (List ℕ)) (x : List ℕ) (n : ℕ) → (n ≡ place_in x xs) × (place_in x xs < length xs) → (n ≡ place_in x (xs ++ ys)) × (place_in x (xs ++ ys) < length (xs ++ ys))
still xs ys x n h = let same = place_longer x xs ys h.1 in let long = length-append xs ys in (h.0 ∙ sym same, omega (arith, same, long, h.1))

pub first_same : (xs : List (List ℕ)) (x : List ℕ) (ps : List ℕ) → (length (contents_of xs) < length (contents_of (xs ++ x ∷ [])) → ⊥) → AreFirst xs ps → AreFirst (xs ++ x ∷ []) ps
first_same xs x ps h f =
    let cs = contents_of xs in
    let push = push_contents xs x in
    let same : contents_of (xs ++ x ∷ []) ≡ cs = push ∙ same_contents (list_any (λ y. bytes_eq y x) cs) cs x (λ l. h (subst (λ w. length cs < length w) (sym push) l)) in
    record {
      each = f.each ∙ ap length (sym same);
      first = λ k y g. still xs (x ∷ []) y (get_or ps k 0) (f.first k y (sym (ap (λ w. slice_get w k) same) ∙ g));
    }

pub first_more : (xs : List (List ℕ)) (x : List ℕ) (ps : List ℕ) (n : ℕ) → n ≡ length xs → length (contents_of xs) < length (contents_of (xs ++ x ∷ [])) → AreFirst xs ps → AreFirst (xs ++ x ∷ []) (ps ++ n ∷ [])
first_more xs x ps n count h f =
    let cs = contents_of xs in
    let push = push_contents xs x in
    let more = more_contents (list_any (λ y. bytes_eq y x) cs) cs x refl (subst (λ w. length cs < length w) push h) in
    let grown : contents_of (xs ++ x ∷ []) ≡ cs ++ x ∷ [] = push ∙ more.0 in
    let new = place_new x xs (not_there xs x more.1) in
    record {
      each = length-append ps (n ∷ []) ∙ ap (λ w. w + 1) f.each ∙ sym (length-append cs (x ∷ [])) ∙ ap length (sym grown);
      first = λ k y g. elim (at_push cs x k y (sym (ap (λ w. slice_get w k) grown) ∙ g)) [
        | inl e ↦ (let old = f.first k y e in let within = slice_get_within cs k y e in let here = still xs (x ∷ []) y (get_or ps k 0) old in
            (get_or_append_left ps (n ∷ []) 0 k (let each = f.each in omega (arith, within, each)) ∙ here.0, here.1))
        | inr e ↦ (let long = length-append xs (x ∷ []) in
            subst (λ w. (get_or (ps ++ n ∷ []) k 0 ≡ place_in w (xs ++ x ∷ [])) × (place_in w (xs ++ x ∷ []) < length (xs ++ x ∷ []))) e.1
            (get_or_push ps n 0 k (f.each ∙ sym e.0) ∙ count ∙ sym new, omega (arith, new, long)))
      ];
    }

pub none_first : AreFirst [] []
none_first = record { each = refl; first = λ k x e. cc }
