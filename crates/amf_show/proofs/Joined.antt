-- Joined parts, one more.
use Rattle.std.proofs.Common.{◌≡◌, ℕ, zero, suc, ◌+◌, ◌<◌, List, [], ◌∷◌, ◌++◌, length, map, take, get_or, refl, ap, ◌∙◌, sym, arith, append_assoc}
use Rattle.std.specs.Prelude.{codes}
use Rattle.std.specs.List.{zip}
use Rattle.std.proofs.lemmas.List.{map-append, length-map, length-take-le, take_more}
use Rattle.amf_graph.specs.declared.value.Value.{Value as Stored}
use Rattle.amf_graph.specs.declared.value.TextId.{TextId}
use Rattle.amf_graph.specs.Graph.{Value}
use Rattle.amf_graph.specs.Arena.{Arena, text_at, value_content}
use Rattle.amf_graph.specs.Views.{flat}
use Rattle.amf_iso.specs.Contents.{values_of, pairs_of}
use Rattle.amf_tables.specs.ShownTraits.{texts_at}
use Rattle.amf_tables.proofs.ShownTexts.{texts_more}
use Rattle.amf_show.specs.Joining.{separator_before, head_before}
use Rattle.amf_show.specs.Shown.{joined, shown_text}
use Rattle.amf_show.specs.Listing.{shown_value, shown_pair, entries_in}

pub separator_none : (i : ℕ) → i ≡ 0 → separator_before i ≡ []
separator_none zero e = refl
separator_none (suc i) e = absurd (omega arith)

pub separator_some : (i : ℕ) → 0 < i → separator_before i ≡ codes ", "
separator_some zero l = absurd (omega arith)
separator_some (suc i) l = refl

joined_push : (ys : List (List ℕ)) (y : List ℕ) → joined (ys ++ y ∷ []) ≡ joined ys ++ (separator_before (length ys) ++ y)
joined_push [] y = refl
joined_push (x ∷ []) y = append_assoc x (codes ", ") y
joined_push (x ∷ z ∷ ys) y = ap (λ w. (x ++ codes ", ") ++ w) (joined_push (z ∷ ys) y) ∙ sym (append_assoc (x ++ codes ", ") (joined (z ∷ ys)) (codes ", " ++ y))

-- a separator and a part, written behind so many parts
pub part_more : (before one two three : List ℕ) (ys zs : List (List ℕ)) (i : ℕ) (y : List ℕ) → length ys ≡ i → zs ≡ ys ++ y ∷ [] → one ≡ before ++ joined ys → two ≡ one ++ separator_before i → three ≡ two ++ y → three ≡ before ++ joined zs
part_more before one two three ys zs i y long more a b c =
    let push : joined zs ≡ joined ys ++ (separator_before i ++ y) = ap joined more ∙ joined_push ys y ∙ ap (λ n. joined ys ++ (separator_before n ++ y)) long in
    c ∙ ap (λ w. w ++ y) (b ∙ ap (λ w. w ++ separator_before i) a) ∙ append_assoc (before ++ joined ys) (separator_before i) y ∙ append_assoc before (joined ys) (separator_before i ++ y) ∙ ap (λ w. before ++ w) (sym push)

-- what is made of the front of a list, one more
map_more : {X Y : Type 0} (f : X → Y) (xs : List X) (i : ℕ) (d : X) → i < length xs → map f (take (i + 1) xs) ≡ map f (take i xs) ++ f (get_or xs i d) ∷ []
map_more f xs i d l = ap (map f) (take_more xs i d l) ∙ map-append f (take i xs) (get_or xs i d ∷ [])

map_long : {X Y : Type 0} (f : X → Y) (xs : List X) (i : ℕ) → i < length xs → length (map f (take i xs)) ≡ i
map_long f xs i l = length-map (take i xs) f ∙ length-take-le i xs (omega arith)

-- a step of a loop that joins parts
pub joined_step : {X : Type 0} (f : X → List ℕ) (before one two three : List ℕ) (xs : List X) (i : ℕ) (d : X) → i < length xs → one ≡ before ++ joined (map f (take i xs)) → two ≡ one ++ separator_before i → three ≡ two ++ f (get_or xs i d) → three ≡ before ++ joined (map f (take (i + 1) xs))
joined_step f before one two three xs i d l a b c = part_more before one two three (map f (take i xs)) (map f (take (i + 1) xs)) i (f (get_or xs i d)) (map_long f xs i l) (map_more f xs i d l) a b c

-- likewise, of what the parts are made of
pub joined_step_of : {X Y : Type 0} (f : Y → List ℕ) (g : X → Y) (before one two three : List ℕ) (xs : List X) (i : ℕ) (d : X) → i < length xs → one ≡ before ++ joined (map f (map g (take i xs))) → two ≡ one ++ separator_before i → three ≡ two ++ f (g (get_or xs i d)) → three ≡ before ++ joined (map f (map g (take (i + 1) xs)))
joined_step_of f g before one two three xs i d l a b c =
    part_more before one two three (map f (map g (take i xs))) (map f (map g (take (i + 1) xs))) i (f (g (get_or xs i d)))
    (length-map (map g (take i xs)) f ∙ map_long g xs i l)
    (ap (map f) (map_more g xs i d l) ∙ map-append f (map g (take i xs)) (g (get_or xs i d) ∷ [])) a b c

-- Pairs.

module _ (f : List ℕ × Value → List ℕ) (a : Arena) where
  abbrev content : TextId × Stored → List ℕ × Value
  content p = (text_at a p.0.0, value_content a p.1)

  contents : (ps : List (TextId × Stored)) → map content ps ≡ pairs_of a ps
  contents [] = refl
  contents (p ∷ ps) = ap (λ w. content p ∷ w) (contents ps)

  pub pairs_step : (before one two three : List ℕ) (ps : List (TextId × Stored)) (i : ℕ) (d : TextId × Stored) → i < length ps → one ≡ before ++ joined (map f (pairs_of a (take i ps))) → two ≡ one ++ separator_before i → three ≡ two ++ f (content (get_or ps i d)) → three ≡ before ++ joined (map f (pairs_of a (take (i + 1) ps)))
  pairs_step before one two three ps i d l p b c =
      joined_step_of f content before one two three ps i d l (p ∙ ap (λ w. before ++ joined (map f w)) (sym (contents (take i ps)))) b c ∙ ap (λ w. before ++ joined (map f w)) (contents (take (i + 1) ps))

-- Keys and values.

abbrev pub entry_of : List ℕ → Arena → Stored × Stored → List ℕ
entry_of order a e = shown_value order (value_content a e.0) ++ codes "=" ++ shown_value order (value_content a e.1)

entries_are : (order : List ℕ) (a : Arena) (es : List (Stored × Stored)) → entries_in order (values_of a (flat es)) ≡ map (entry_of order a) es
entries_are order a [] = refl
entries_are order a (e ∷ es) = ap (λ w. entry_of order a e ∷ w) (entries_are order a es)

pub entries_step : (order : List ℕ) (a : Arena) (before one two three : List ℕ) (es : List (Stored × Stored)) (i : ℕ) (d : Stored × Stored) → i < length es → one ≡ before ++ joined (entries_in order (values_of a (flat (take i es)))) → two ≡ one ++ separator_before i → three ≡ two ++ entry_of order a (get_or es i d) → three ≡ before ++ joined (entries_in order (values_of a (flat (take (i + 1) es))))
entries_step order a before one two three es i d l p b c =
    joined_step (entry_of order a) before one two three es i d l (p ∙ ap (λ w. before ++ joined w) (entries_are order a (take i es))) b c ∙ ap (λ w. before ++ joined w) (sym (entries_are order a (take (i + 1) es)))

-- Names and the values at their places.

zip_push : {A B : Type 0} (xs : List A) (ys : List B) (x : A) (y : B) → length ys ≡ length xs → zip (xs ++ x ∷ []) (ys ++ y ∷ []) ≡ zip xs ys ++ (x, y) ∷ []
zip_push [] [] x y e = refl
zip_push [] (z ∷ ys) x y e = absurd (omega arith)
zip_push (w ∷ xs) [] x y e = absurd (omega arith)
zip_push (w ∷ xs) (z ∷ ys) x y e = ap (λ t. (w, z) ∷ t) (zip_push xs ys x y (omega (arith, e)))

zip_long : {A B : Type 0} (xs : List A) (ys : List B) (n : ℕ) → length xs ≡ n → length ys ≡ n → length (zip xs ys) ≡ n
zip_long [] ys n e f = e
zip_long (x ∷ xs) [] n e f = absurd (omega (arith, e, f))
zip_long (x ∷ xs) (y ∷ ys) n e f = ap suc (zip_long xs ys (length xs) refl (omega (arith, e, f))) ∙ e

abbrev pub sealed_parts : Arena → List TextId → List Stored → List (List ℕ × Value)
sealed_parts a names values = zip (texts_at a names) (values_of a values)

pub sealed_step : (order : List ℕ) (a : Arena) (before one two three : List ℕ) (names : List TextId) (values : List Stored) (i : ℕ) (d : TextId) (e : Stored) → i < length names → length values ≡ length names → one ≡ before ++ joined (map (shown_pair order) (sealed_parts a (take i names) (take i values))) → two ≡ one ++ separator_before i → three ≡ two ++ shown_pair order (text_at a (get_or names i d).0, value_content a (get_or values i e)) → three ≡ before ++ joined (map (shown_pair order) (sealed_parts a (take (i + 1) names) (take (i + 1) values)))
sealed_step order a before one two three names values i d e l s p b c =
    let within : i < length values = omega (arith, l, s) in
    let texts = texts_more a names i d l in
    let texts_long : length (texts_at a (take i names)) ≡ i = length-map (map (λ (x : TextId). x.0) (take i names)) (text_at a) ∙ map_long (λ (x : TextId). x.0) names i l in
    let values_long : length (values_of a (take i values)) ≡ i = map_long (value_content a) values i within in
    let more : sealed_parts a (take (i + 1) names) (take (i + 1) values) ≡ sealed_parts a (take i names) (take i values) ++ (text_at a (get_or names i d).0, value_content a (get_or values i e)) ∷ [] =
    ap (λ w. zip w (values_of a (take (i + 1) values))) texts ∙ ap (λ w. zip (texts_at a (take i names) ++ text_at a (get_or names i d).0 ∷ []) w) (map_more (value_content a) values i e within)
    ∙ zip_push (texts_at a (take i names)) (values_of a (take i values)) (text_at a (get_or names i d).0) (value_content a (get_or values i e)) (values_long ∙ sym texts_long) in
    part_more before one two three (map (shown_pair order) (sealed_parts a (take i names) (take i values))) (map (shown_pair order) (sealed_parts a (take (i + 1) names) (take (i + 1) values))) i (shown_pair order (text_at a (get_or names i d).0, value_content a (get_or values i e)))
    (length-map (sealed_parts a (take i names) (take i values)) (shown_pair order) ∙ zip_long (texts_at a (take i names)) (values_of a (take i values)) i texts_long values_long)
    (ap (map (shown_pair order)) more ∙ map-append (shown_pair order) (sealed_parts a (take i names) (take i values)) ((text_at a (get_or names i d).0, value_content a (get_or values i e)) ∷ [])) p b c

-- likewise behind what stands ready before each value
pub headed_step : (order : List ℕ) (a : Arena) (before one two three : List ℕ) (names : List (List ℕ)) (values : List Stored) (i : ℕ) (e : Stored) → i < length names → length values ≡ length names → one ≡ before ++ joined (map (shown_pair order) (zip (take i names) (values_of a (take i values)))) → two ≡ one ++ head_before i (get_or names i []) → three ≡ two ++ shown_value order (value_content a (get_or values i e)) → three ≡ before ++ joined (map (shown_pair order) (zip (take (i + 1) names) (values_of a (take (i + 1) values))))
headed_step order a before one two three names values i e l s p b c =
    let within : i < length values = omega (arith, l, s) in
    let name = get_or names i [] in
    let value = value_content a (get_or values i e) in
    let names_long : length (take i names) ≡ i = length-take-le i names (omega (arith, l)) in
    let values_long : length (values_of a (take i values)) ≡ i = map_long (value_content a) values i within in
    let more : zip (take (i + 1) names) (values_of a (take (i + 1) values)) ≡ zip (take i names) (values_of a (take i values)) ++ (name, value) ∷ [] =
    ap (λ w. zip w (values_of a (take (i + 1) values))) (take_more names i [] l) ∙ ap (λ w. zip (take i names ++ name ∷ []) w) (map_more (value_content a) values i e within)
    ∙ zip_push (take i names) (values_of a (take i values)) name value (values_long ∙ sym names_long) in
    let head = shown_text name ++ codes "=" in
    part_more before one (one ++ separator_before i) three (map (shown_pair order) (zip (take i names) (values_of a (take i values)))) (map (shown_pair order) (zip (take (i + 1) names) (values_of a (take (i + 1) values)))) i (shown_pair order (name, value))
    (length-map (zip (take i names) (values_of a (take i values))) (shown_pair order) ∙ zip_long (take i names) (values_of a (take i values)) i names_long values_long)
    (ap (map (shown_pair order)) more ∙ map-append (shown_pair order) (zip (take i names) (values_of a (take i values))) ((name, value) ∷ [])) p refl
    (c ∙ ap (λ w. w ++ shown_value order value) (b ∙ sym (append_assoc one (separator_before i) head)) ∙ append_assoc (one ++ separator_before i) head (shown_value order value))
