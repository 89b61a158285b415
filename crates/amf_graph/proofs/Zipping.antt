-- Relations between lists place by place, one more, and of copies of pairs and entries.
use Rattle.std.proofs.Common.{◌≡◌, ℕ, suc, ◌+◌, ◌<◌, List, [], ◌∷◌, ◌++◌, length, map, take, get_or, refl, ap, ◌∙◌, sym, subst, arith, add-one}
use Rattle.std.proofs.Math.Seq.{take-suc}
use Rattle.std.proofs.lemmas.List.{append_assoc, map-append, length-map, length-take-le}
use Rattle.std.specs.List.{AllByRecursion, AllZip, zip}
use Rattle.amf_graph.specs.declared.value.Value.{Value as Stored}
use Rattle.amf_graph.specs.declared.value.TextId.{TextId}
use Rattle.amf_graph.specs.Views.{named, flat}
use Rattle.amf_graph.proofs.Entries.{flat_push}

pub zip_length : {A B : Type 0} (R : A → B → Type 0) (xs : List A) (ys : List B) → AllZip R xs ys → length ys ≡ length xs
zip_length R [] [] m = refl
zip_length R [] (y ∷ ys) m = elim m [ ]
zip_length R (x ∷ xs) [] m = elim m [ ]
zip_length R (x ∷ xs) (y ∷ ys) m = ap suc (zip_length R xs ys m.1)

pub zip_append : {A B : Type 0} (R : A → B → Type 0) (xs : List A) (ys : List B) (us : List A) (ws : List B) → AllZip R xs ys → AllZip R us ws → AllZip R (xs ++ us) (ys ++ ws)
zip_append R [] [] us ws m n = n
zip_append R [] (y ∷ ys) us ws m n = elim m [ ]
zip_append R (x ∷ xs) [] us ws m n = elim m [ ]
zip_append R (x ∷ xs) (y ∷ ys) us ws m n = (m.0, zip_append R xs ys us ws m.1 n)

-- what is in the relation with each element of a list, one more
pub zip_more : {A B : Type 0} (R : A → B → Type 0) (xs : List A) (ys : List B) (i : ℕ) (d : A) (y : B) → i < length xs → AllZip R (take i xs) ys → R (get_or xs i d) y → AllZip R (take (i + 1) xs) (ys ++ y ∷ [])
zip_more R xs ys i d y l m n = rw (add-one, take-suc xs i d l) (zip_append R (take i xs) ys (get_or xs i d ∷ []) (y ∷ []) m (n, tt))

-- the same behind others

pub zip_behind : {A B : Type 0} (R : A → B → Type 0) (before xs : List A) (ys : List B) (i : ℕ) (d : A) (y : B) → i < length xs → AllZip R (before ++ take i xs) ys → R (get_or xs i d) y → AllZip R (before ++ take (i + 1) xs) (ys ++ y ∷ [])
zip_behind R before xs ys i d y l m n =
    rw (add-one, take-suc xs i d l)
    (subst (λ w. AllZip R w (ys ++ y ∷ [])) (append_assoc before (take i xs) (get_or xs i d ∷ [])) (zip_append R (before ++ take i xs) ys (get_or xs i d ∷ []) (y ∷ []) m (n, tt)))

pub pairs_zip_behind : (R : ℕ × Stored → ℕ × Stored → Type 0) (before : List (ℕ × Stored)) (ps qs : List (TextId × Stored)) (i : ℕ) (d q : TextId × Stored) → i < length ps → AllZip R (before ++ named (take i ps)) (named qs) → R ((get_or ps i d).0.0, (get_or ps i d).1) (q.0.0, q.1) → AllZip R (before ++ named (take (i + 1) ps)) (named (qs ++ q ∷ []))
pairs_zip_behind R before ps qs i d q l m n =
    rw (add-one, take-suc ps i d l, map-append, map-append)
    (subst (λ w. AllZip R w (named qs ++ named (q ∷ []))) (append_assoc before (named (take i ps)) (named (get_or ps i d ∷ [])))
    (zip_append R (before ++ named (take i ps)) (named qs) (named (get_or ps i d ∷ [])) (named (q ∷ [])) m (n, tt)))

pub entries_zip_more : (R : Stored → Stored → Type 0) (es fs : List (Stored × Stored)) (i : ℕ) (d : Stored × Stored) (k v : Stored) → i < length es → AllZip R (flat (take i es)) (flat fs) → R (get_or es i d).0 k → R (get_or es i d).1 v → AllZip R (flat (take (i + 1) es)) (flat (fs ++ (k, v) ∷ []))
entries_zip_more R es fs i d k v l m n o =
    rw (add-one, take-suc es i d l, flat_push (take i es) (get_or es i d).0 (get_or es i d).1, flat_push fs k v) (zip_append R (flat (take i es)) (flat fs) ((get_or es i d).0 ∷ (get_or es i d).1 ∷ []) (k ∷ v ∷ []) m (n, (o, tt)))

-- names with the values at their places, one more
zip_push : {A B : Type 0} (xs : List A) (ys : List B) (x : A) (y : B) → length ys ≡ length xs → zip (xs ++ x ∷ []) (ys ++ y ∷ []) ≡ zip xs ys ++ (x, y) ∷ []
zip_push [] [] x y e = refl
zip_push [] (z ∷ ys) x y e = absurd (omega arith)
zip_push (w ∷ xs) [] x y e = absurd (omega arith)
zip_push (w ∷ xs) (z ∷ ys) x y e = ap (λ t. (w, z) ∷ t) (zip_push xs ys x y (omega (arith, e)))

abbrev sealed_zip : List TextId → List Stored → List (ℕ × Stored)
sealed_zip names values = zip (map (λ x. x.0) names) values

sealed_more : (names : List TextId) (values : List Stored) (i : ℕ) (d : TextId) (e : Stored) → i < length names → length values ≡ length names → sealed_zip (take (i + 1) names) (take (i + 1) values) ≡ sealed_zip (take i names) (take i values) ++ ((get_or names i d).0, get_or values i e) ∷ []
sealed_more names values i d e l s =
    let long : length (take i values) ≡ length (map (λ (x : TextId). x.0) (take i names)) = length-take-le i values (omega (arith, l, s)) ∙ sym (length-take-le i names (omega (arith, l))) ∙ sym (length-map (take i names) (λ x. x.0)) in
    rw (add-one, take-suc names i d l, take-suc values i e (omega (arith, l, s)), map-append) (zip_push (map (λ (x : TextId). x.0) (take i names)) (take i values) (get_or names i d).0 (get_or values i e) long)

pub sealed_zip_behind : (R : ℕ × Stored → ℕ × Stored → Type 0) (before : List (ℕ × Stored)) (names : List TextId) (values : List Stored) (qs : List (TextId × Stored)) (i : ℕ) (d : TextId) (e : Stored) (q : TextId × Stored) → i < length names → length values ≡ length names → AllZip R (before ++ zip (map (λ x. x.0) (take i names)) (take i values)) (named qs) → R ((get_or names i d).0, get_or values i e) (q.0.0, q.1) → AllZip R (before ++ zip (map (λ x. x.0) (take (i + 1) names)) (take (i + 1) values)) (named (qs ++ q ∷ []))
sealed_zip_behind R before names values qs i d e q l s m n =
    let x : ℕ × Stored = ((get_or names i d).0, get_or values i e) in
    let old = sealed_zip (take i names) (take i values) in
    let moved : AllZip R ((before ++ old) ++ x ∷ []) (named qs ++ named (q ∷ [])) = zip_append R (before ++ old) (named qs) (x ∷ []) (named (q ∷ [])) m (n, tt) in
    rw (map-append)
    (subst (λ w. AllZip R w (named qs ++ named (q ∷ []))) (append_assoc before old (x ∷ []) ∙ ap (λ w. before ++ w) (sym (sealed_more names values i d e l s))) moved)

pub zip_seconds : {A B : Type 0} (P : B → Type 0) (xs : List A) (ys : List B) → AllByRecursion P ys → AllByRecursion (λ p. P p.1) (zip xs ys)
zip_seconds P [] ys h = tt
zip_seconds P (x ∷ xs) [] h = tt
zip_seconds P (x ∷ xs) (y ∷ ys) h = (h.0, zip_seconds P xs ys h.1)
