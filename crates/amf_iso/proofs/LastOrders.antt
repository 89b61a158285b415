-- The order of names alone tells that of pairs of these names.
use Rattle.std.proofs.Common.{◌≡◌, ℕ, zero, suc, ◌+◌, ◌<◌, ◌≤◌, List, [], ◌∷◌, ◌++◌, length, map, take, get_or, sym, refl, ap, ◌∙◌, subst, arith}
use Rattle.std.specs.List.{AllByRecursion}
use Rattle.std.specs.Cmp.{IsStrictWeakOrder}
use Rattle.std.proofs.lemmas.Cmp.{nat_list_cmp_total}
use Rattle.std.proofs.Math.Seq.{take-suc}
use Rattle.std.proofs.lemmas.List.{length-map, map-append, take_all}
use Rattle.std.proofs.lemmas.List.Sorted.{ranks_by}
use Rattle.amf_graph.specs.declared.value.Value.{Value as Stored}
use Rattle.amf_graph.specs.declared.value.Value.TheVariants.{Undefined}
use Rattle.amf_graph.specs.declared.value.TextId.{TextId}
use Rattle.amf_graph.specs.Graph.{Value}
use Rattle.amf_graph.specs.Arena.{Arena, Names, IsTextId, text_at, value_content}
use Rattle.amf_graph.specs.ByName.{before, by_name}
use Rattle.amf_graph.proofs.Lists.{cons_same}
use Rattle.amf_graph.proofs.StableSort.{sort_all}
use Rattle.amf_tables.specs.KnownTexts.{content_at}
use Rattle.amf_iso.proofs.MetValues.{each_there}
use Rattle.amf_iso.proofs.NamedPairs.{pair_there, sort_map}
use Rattle.amf_iso.specs.Contents.{pairs_of, ArePairs}
use Rattle.amf_iso.specs.Remembered.{ids_of, bytes_of, placed, is_text_before, in_order, AreNumbersOf}

abbrev pub no_pair : TextId × Stored
no_pair = (record { 0 = 0 }, Undefined)

abbrev pub no_name : TextId
no_name = record { 0 = 0 }

placed_suc : (k : ℕ) (ts : List TextId) (i : ℕ) (d : TextId) → i < length ts → placed k (take (suc i) ts) ≡ placed k (take i ts) ++ (get_or ts i d, k + i) ∷ []
placed_suc k [] i d l = absurd (omega arith)
placed_suc k (t ∷ ts) zero d l = let e : k ≡ k + 0 = omega arith in ap (λ j. (t, j) ∷ []) e
placed_suc k (t ∷ ts) (suc i) d l =
    let e : k + 1 + i ≡ k + suc i = omega arith in
    ap (λ w. (t, k) ∷ w) (placed_suc (k + 1) ts i d (omega arith) ∙ ap (λ j. placed (k + 1) (take i ts) ++ (get_or ts i d, j) ∷ []) e)

id_at : (ps : List (TextId × Stored)) (i : ℕ) → i < length ps → get_or (ids_of ps) i no_name ≡ (get_or ps i no_pair).0
id_at [] i l = absurd (omega arith)
id_at (p ∷ ps) zero l = refl
id_at (p ∷ ps) (suc i) l = id_at ps i (omega arith)

pub placed_more : (ps : List (TextId × Stored)) (i : ℕ) → i < length ps → placed 0 (take (i + 1) (ids_of ps)) ≡ placed 0 (take i (ids_of ps)) ++ ((get_or ps i no_pair).0, i) ∷ []
placed_more ps i l =
    let e : suc i ≡ i + 1 = omega arith in
    let z : 0 + i ≡ i = omega arith in
    let n : i < length (ids_of ps) = omega (arith, l, length-map ps (λ (p : TextId × Stored). p.0)) in
    ap (λ j. placed 0 (take j (ids_of ps))) (sym e) ∙ placed_suc 0 (ids_of ps) i no_name n ∙ ap (λ j. placed 0 (take i (ids_of ps)) ++ (get_or (ids_of ps) i no_name, j) ∷ []) z
    ∙ ap (λ t. placed 0 (take i (ids_of ps)) ++ (t, i) ∷ []) (id_at ps i l)

pub all_places : (ps : List (TextId × Stored)) (i : ℕ) → length ps ≤ i → placed 0 (take i (ids_of ps)) ≡ placed 0 (ids_of ps)
all_places ps i l =
    let n : length (ids_of ps) ≤ i = omega (arith, l, length-map ps (λ (p : TextId × Stored). p.0)) in
    ap (placed 0) (take_all i (ids_of ps) n)

pub mapped_more : {X Y : Type 0} (f : X → Y) (xs : List X) (i : ℕ) (d : X) → i < length xs → map f (take (i + 1) xs) ≡ map f (take i xs) ++ f (get_or xs i d) ∷ []
mapped_more f xs i d l =
    let e : suc i ≡ i + 1 = omega arith in
    ap (λ j. map f (take j xs)) (sym e) ∙ ap (map f) (take-suc xs i d l) ∙ map-append f (take i xs) (get_or xs i d ∷ [])

-- one number more is one name more
pub names_more : (a : Arena) (ns : List ℕ) (ps : List (TextId × Stored)) (i : ℕ) → i < length ns → i < length ps → content_at a (get_or ns i 0) ≡ bytes_of a (get_or ps i no_pair).0 → map (content_at a) (take i ns) ≡ map (bytes_of a) (take i (ids_of ps)) → map (content_at a) (take (i + 1) ns) ≡ map (bytes_of a) (take (i + 1) (ids_of ps))
names_more a ns ps i l m e h =
    let n : i < length (ids_of ps) = omega (arith, m, length-map ps (λ (p : TextId × Stored). p.0)) in
    mapped_more (content_at a) ns i 0 l ∙ ap (λ w. w ++ content_at a (get_or ns i 0) ∷ []) h ∙ ap (λ x. map (bytes_of a) (take i (ids_of ps)) ++ x ∷ []) (e ∙ ap (bytes_of a) (sym (id_at ps i m))) ∙ sym (mapped_more (bytes_of a) (ids_of ps) i no_name n)

-- one name more in a list of numbers
pub names_pushed : (a : Arena) (ns : List ℕ) (n : ℕ) (ps : List (TextId × Stored)) (i : ℕ) → i < length ps → content_at a n ≡ bytes_of a (get_or ps i no_pair).0 → map (content_at a) ns ≡ map (bytes_of a) (take i (ids_of ps)) → map (content_at a) (ns ++ n ∷ []) ≡ map (bytes_of a) (take (i + 1) (ids_of ps))
names_pushed a ns n ps i m e h =
    let k : i < length (ids_of ps) = omega (arith, m, length-map ps (λ (p : TextId × Stored). p.0)) in
    map-append (content_at a) ns (n ∷ []) ∙ ap (λ w. w ++ content_at a n ∷ []) h ∙ ap (λ x. map (bytes_of a) (take i (ids_of ps)) ++ x ∷ []) (e ∙ ap (bytes_of a) (sym (id_at ps i m))) ∙ sym (mapped_more (bytes_of a) (ids_of ps) i no_name k)

pub all_named : (a : Arena) (ns : List ℕ) (ps : List (TextId × Stored)) (i : ℕ) → length ns ≤ i → length ps ≤ i → map (content_at a) (take i ns) ≡ map (bytes_of a) (take i (ids_of ps)) → AreNumbersOf a (ids_of ps) ns
all_named a ns ps i l m h =
    let n : length (ids_of ps) ≤ i = omega (arith, m, length-map ps (λ (p : TextId × Stored). p.0)) in
    ap (map (content_at a)) (sym (take_all i ns l)) ∙ h ∙ ap (map (bytes_of a)) (take_all i (ids_of ps) n)

pub all_pushed : (a : Arena) (ns : List ℕ) (ps : List (TextId × Stored)) (i : ℕ) → length ps ≤ i → map (content_at a) ns ≡ map (bytes_of a) (take i (ids_of ps)) → AreNumbersOf a (ids_of ps) ns
all_pushed a ns ps i m h =
    let n : length (ids_of ps) ≤ i = omega (arith, m, length-map ps (λ (p : TextId × Stored). p.0)) in
    h ∙ ap (map (bytes_of a)) (take_all i (ids_of ps) n)

module _ (a : Arena) where
  -- the content of a pair that has this name, and whose value stands at this place
  abbrev pub pair_at : List (TextId × Stored) → TextId × ℕ → List ℕ × Value
  pair_at ps p = (text_at a p.0.0, value_content a (get_or ps p.1 no_pair).1)

  abbrev SameFrom : ℕ → List (TextId × Stored) → List (TextId × Stored) → Type 0
  SameFrom k qs ps = (i : ℕ) → get_or qs (k + i) no_pair ≡ get_or ps i no_pair

  from_start : (ps : List (TextId × Stored)) → SameFrom 0 ps ps
  from_start ps i = let z : 0 + i ≡ i = omega arith in ap (λ j. get_or ps j no_pair) z

  first_same : (k : ℕ) (qs ps : List (TextId × Stored)) (p : TextId × Stored) → SameFrom k qs (p ∷ ps) → get_or qs k no_pair ≡ p
  first_same k qs ps p h = let e : k ≡ k + 0 = omega arith in ap (λ j. get_or qs j no_pair) e ∙ h 0

  rest_same : (k : ℕ) (qs ps : List (TextId × Stored)) (p : TextId × Stored) → SameFrom k qs (p ∷ ps) → SameFrom (k + 1) qs ps
  rest_same k qs ps p h i = let f : k + 1 + i ≡ k + suc i = omega arith in ap (λ j. get_or qs j no_pair) f ∙ h (suc i)

  pairs_placed : (qs ps : List (TextId × Stored)) (ids : List TextId) (k : ℕ) → SameFrom k qs ps → map (bytes_of a) ids ≡ map (bytes_of a) (ids_of ps) → map (pair_at qs) (placed k ids) ≡ pairs_of a ps
  pairs_placed qs [] [] k h e = refl
  pairs_placed qs [] (t ∷ ids) k h e = cc
  pairs_placed qs (p ∷ ps) [] k h e = cc
  pairs_placed qs (p ∷ ps) (t ∷ ids) k h e =
      let same = cons_same e in
      ap (λ x. (bytes_of a t, value_content a x.1) ∷ map (pair_at qs) (placed (k + 1) ids)) (first_same k qs ps p h)
      ∙ ap (λ x. (x, value_content a p.1) ∷ map (pair_at qs) (placed (k + 1) ids)) same.0
      ∙ ap (λ w. (text_at a p.0.0, value_content a p.1) ∷ w) (pairs_placed qs ps ids (k + 1) (rest_same k qs ps p h) same.1)

  pub pairs_in_order : (ps : List (TextId × Stored)) (ids : List TextId) → map (bytes_of a) ids ≡ map (bytes_of a) (ids_of ps) → map (pair_at ps) (in_order a ids) ≡ by_name (pairs_of a ps)
  pairs_in_order ps ids e = sort_map (pair_at ps) before (placed 0 ids) ∙ ap by_name (pairs_placed ps ps ids 0 (from_start ps) e)

  pub record IsPlaced (ps : List (TextId × Stored)) (p : TextId × ℕ) : Type 0 where
    pub within : p.1 < length ps
    pub same : bytes_of a p.0 ≡ bytes_of a (get_or ps p.1 no_pair).0
    pub name : IsTextId a (get_or ps p.1 no_pair).0.0
    pub value : Names a (get_or ps p.1 no_pair).1

  all_placed : (qs ps : List (TextId × Stored)) (ids : List TextId) (k : ℕ) → SameFrom k qs ps → length qs ≡ k + length ps → ArePairs a qs → map (bytes_of a) ids ≡ map (bytes_of a) (ids_of ps) → AllByRecursion (IsPlaced qs) (placed k ids)
  all_placed qs [] [] k h n r e = tt
  all_placed qs [] (t ∷ ids) k h n r e = cc
  all_placed qs (p ∷ ps) [] k h n r e = cc
  all_placed qs (p ∷ ps) (t ∷ ids) k h n r e =
      let same = cons_same e in
      let within : k < length qs = omega (arith, n) in
      let there = pair_there a qs k no_pair r within in
      let left : length qs ≡ k + 1 + length ps = omega (arith, n) in
      (record { within = within; same = same.0 ∙ ap (λ x. bytes_of a x.0) (sym (first_same k qs ps p h)); name = there.0; value = there.1 }, all_placed qs ps ids (k + 1) (rest_same k qs ps p h) left r same.1)

  pub placed_there : (ps : List (TextId × Stored)) (ids : List TextId) (os : List (TextId × ℕ)) (i : ℕ) → ArePairs a ps → map (bytes_of a) ids ≡ map (bytes_of a) (ids_of ps) → os ≡ in_order a ids → i < length os → IsPlaced ps (get_or os i (no_name, 0))
  placed_there ps ids os i r e o l =
      let z : length ps ≡ 0 + length ps = omega arith in
      let all = sort_all (is_text_before a) (IsPlaced ps) (placed 0 ids) (all_placed ps ps ids 0 (from_start ps) z r e) in
      each_there (IsPlaced ps) os i (no_name, 0) (subst (AllByRecursion (IsPlaced ps)) (sym o) all) l

  pub pairs_push : (ps : List (TextId × Stored)) (p : TextId × Stored) → pairs_of a (ps ++ p ∷ []) ≡ pairs_of a ps ++ (text_at a p.0.0, value_content a p.1) ∷ []
  pairs_push [] p = refl
  pairs_push (q ∷ ps) p = ap (λ w. (text_at a q.0.0, value_content a q.1) ∷ w) (pairs_push ps p)

  pub are_pairs_push : (ps : List (TextId × Stored)) (p : TextId × Stored) → ArePairs a ps → IsTextId a p.0.0 → Names a p.1 → ArePairs a (ps ++ p ∷ [])
  are_pairs_push [] p h t v = ((t, v), tt)
  are_pairs_push (q ∷ ps) p h t v = (h.0, are_pairs_push ps p h.1 t v)

  pub ranks_by_text : IsStrictWeakOrder (is_text_before a)
  ranks_by_text = ranks_by nat_list_cmp_total (λ (p : TextId × ℕ). text_at a p.0.0)
