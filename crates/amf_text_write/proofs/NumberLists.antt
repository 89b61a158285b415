-- Vectors of numbers, item by item.
use Rattle.std.proofs.Common.{◌≡◌, ℕ, ◌+◌, ◌<◌, ℤ, Bool, true, false, List, [], ◌∷◌, ◌++◌, length, map, take, get_or, refl, sym, ap, ◌∙◌, subst, append_assoc, append-nil, add-one}
use Rattle.std.specs.Prelude.{codes, decimal}
use Rattle.std.specs.Fmt.{signed_decimal}
use Rattle.std.specs.List.{flat_map}
use Rattle.std.proofs.Math.Seq.{take-suc}
use Rattle.std.proofs.lemmas.Grind.{flat_map-append}
use Rattle.std.proofs.lemmas.List.{map-append}
use Rattle.json.specs.Token.{Token, number, key, begin_object, end_object, begin_array, end_array}
use Rattle.json.specs.Json.{Json, no_members, member}
use Rattle.json.specs.Json as json
use Rattle.json.specs.Tree.{json_tokens}
use Rattle.amf_wire.specs.declared.pattern.Pattern.{Pattern}
use Rattle.amf_graph.specs.Graph.{ints, uints, doubles}
use Rattle.amf_text.specs.Scalars.{Digits, told_pattern}
use Rattle.amf_text.specs.Told.{listed, fixed_first, told_body}
use Rattle.amf_text_write.specs.Flags.{flag_tokens}
use Rattle.amf_text_write.specs.Laid.{Shown, with_more}
use Rattle.amf_text_write.specs.Parts.{each_json, each_pattern}
use Rattle.amf_text_write.specs.Tells.{Tells}
use Rattle.amf_text_write.proofs.Jsons.{listed_told, flag_told}
use Rattle.amf_text_write.proofs.Telling.{then_more, tells_then, exactly}

-- a token for each item, one more
pub tokens_more : {X : Type 0} (f : X → Token) (xs : List X) (i : ℕ) (d : X) (a b c : Shown) → i < length xs
    → b ≡ with_more a (map f (take i xs)) → c ≡ with_more b (f (get_or xs i d) ∷ []) → c ≡ with_more a (map f (take (i + 1) xs))
tokens_more f xs i d a b c l x y =
    let more : map f (take (i + 1) xs) ≡ map f (take i xs) ++ f (get_or xs i d) ∷ [] = rw (add-one, take-suc xs i d l, map-append) refl in
    then_more (map f (take i xs)) (f (get_or xs i d) ∷ []) a b c x y ∙ ap (with_more a) (sym more)

-- tokens for each item, one more
pub parts_more : {X : Type 0} (f : X → List Token) (xs : List X) (i : ℕ) (d : X) (a b c : Shown) → i < length xs
    → Tells (flat_map f (take i xs)) a b → Tells (f (get_or xs i d)) b c → Tells (flat_map f (take (i + 1) xs)) a c
parts_more f xs i d a b c l x y =
    let more : flat_map f (take (i + 1) xs) ≡ flat_map f (take i xs) ++ f (get_or xs i d) = rw (add-one, take-suc xs i d l, flat_map-append) (ap (λ w. flat_map f (take i xs) ++ w) (append-nil (f (get_or xs i d)))) in
    subst (λ ts. Tells ts a c) (sym more) (tells_then (flat_map f (take i xs)) (f (get_or xs i d)) a b c x y)

-- an object of a list, behind a flag
abbrev pub fixed_list : Bool → List ℕ → List Token → List Token
fixed_list f name ts = begin_object ∷ (flag_tokens (codes "$fixed") f ++ (key name ∷ begin_array ∷ (ts ++ end_array ∷ end_object ∷ [])))

pub fixed_more : (f : Bool) (name : List ℕ) (ts : List Token) (s0 s1 s2 s3 s4 s5 s6 s7 : Shown)
    → s1 ≡ with_more s0 (begin_object ∷ []) → s2 ≡ with_more s1 (flag_tokens (codes "$fixed") f) → s3 ≡ with_more s2 (key name ∷ []) → s4 ≡ with_more s3 (begin_array ∷ [])
    → s5 ≡ with_more s4 ts → s6 ≡ with_more s5 (end_array ∷ []) → s7 ≡ with_more s6 (end_object ∷ []) → s7 ≡ with_more s0 (fixed_list f name ts)
fixed_more f name ts s0 s1 s2 s3 s4 s5 s6 s7 a b c d e g h =
    let ends = then_more ts (end_array ∷ end_object ∷ []) s4 s5 s7 e (then_more (end_array ∷ []) (end_object ∷ []) s5 s6 s7 g h) in
    let named = then_more (key name ∷ []) (begin_array ∷ (ts ++ end_array ∷ end_object ∷ [])) s2 s3 s7 c (then_more (begin_array ∷ []) (ts ++ end_array ∷ end_object ∷ []) s3 s4 s7 d ends) in
    then_more (begin_object ∷ []) (flag_tokens (codes "$fixed") f ++ (key name ∷ begin_array ∷ (ts ++ end_array ∷ end_object ∷ []))) s0 s1 s7 a
    (then_more (flag_tokens (codes "$fixed") f) (key name ∷ begin_array ∷ (ts ++ end_array ∷ end_object ∷ [])) s1 s2 s7 b named)

list_end : (js : List Json) → json_tokens (listed js) ++ end_object ∷ [] ≡ begin_array ∷ (each_json js ++ end_array ∷ end_object ∷ [])
list_end js = ap (λ l. l ++ end_object ∷ []) (listed_told js) ∙ ap (λ l. begin_array ∷ l) (append_assoc (each_json js) (end_array ∷ []) (end_object ∷ []))

fixed_told : (f : Bool) (name : List ℕ) (js : List Json) → json_tokens (fixed_first f (member name (listed js) no_members)) ≡ fixed_list f name (each_json js)
fixed_told true name js = ap (λ l. begin_object ∷ (flag_tokens (codes "$fixed") true ++ (key name ∷ l))) (list_end js)
fixed_told false name js = ap (λ l. begin_object ∷ key name ∷ l) (list_end js)

each_number : {X : Type 0} (f : X → List ℕ) (xs : List X) → each_json (map (λ x. json.number (f x)) xs) ≡ map (λ x. number (f x)) xs
each_number f [] = refl
each_number f (x ∷ xs) = ap (λ l. number (f x) ∷ l) (each_number f xs)

pub ints_told : (d : Digits) (f : Bool) (ns : List ℤ) → json_tokens (told_body d (ints f ns) [] []) ≡ fixed_list f (codes "$ints") (map (λ n. number (signed_decimal n)) ns)
unfolding told_body
ints_told d f ns = fixed_told f (codes "$ints") (map (λ n. json.number (signed_decimal n)) ns) ∙ ap (fixed_list f (codes "$ints")) (each_number signed_decimal ns)

pub uints_told : (d : Digits) (f : Bool) (ns : List ℕ) → json_tokens (told_body d (uints f ns) [] []) ≡ fixed_list f (codes "$uints") (map (λ n. number (decimal n)) ns)
unfolding told_body
uints_told d f ns = fixed_told f (codes "$uints") (map (λ n. json.number (decimal n)) ns) ∙ ap (fixed_list f (codes "$uints")) (each_number decimal ns)

-- doubles, with their flag behind them

patterns_told : (d : Digits) (ps : List Pattern) → each_json (map (told_pattern d) (map (λ p. p.0) ps)) ≡ each_pattern d ps
patterns_told d [] = refl
patterns_told d (p ∷ ps) = ap (λ l. json_tokens (told_pattern d p.0) ++ l) (patterns_told d ps)

abbrev pub list_fixed : Bool → List Token → List Token
list_fixed f ts = begin_object ∷ key (codes "$doubles") ∷ begin_array ∷ (ts ++ end_array ∷ (flag_tokens (codes "$fixed") f ++ end_object ∷ []))

pub doubles_told : (d : Digits) (f : Bool) (ps : List Pattern) → json_tokens (told_body d (doubles f (map (λ p. p.0) ps)) [] []) ≡ list_fixed f (each_pattern d ps)
unfolding told_body
doubles_told d f ps =
    let js : List Json = map (told_pattern d) (map (λ (p : Pattern). p.0) ps) in
    let behind : List Token = flag_tokens (codes "$fixed") f ++ end_object ∷ [] in
    ap (λ l. begin_object ∷ key (codes "$doubles") ∷ (json_tokens (listed js) ++ l)) (flag_told (codes "$fixed") f)
    ∙ ap (λ l. begin_object ∷ key (codes "$doubles") ∷ (l ++ behind)) (listed_told js)
    ∙ ap (λ l. begin_object ∷ key (codes "$doubles") ∷ begin_array ∷ l) (append_assoc (each_json js) (end_array ∷ []) behind)
    ∙ ap (list_fixed f) (patterns_told d ps)

pub doubles_tell : (f : Bool) (ts : List Token) (s0 s1 s2 s3 s4 s5 s6 s7 : Shown)
    → s1 ≡ with_more s0 (begin_object ∷ []) → s2 ≡ with_more s1 (key (codes "$doubles") ∷ []) → s3 ≡ with_more s2 (begin_array ∷ [])
    → Tells ts s3 s4 → s5 ≡ with_more s4 (end_array ∷ []) → s6 ≡ with_more s5 (flag_tokens (codes "$fixed") f) → s7 ≡ with_more s6 (end_object ∷ []) → Tells (list_fixed f ts) s0 s7
doubles_tell f ts s0 s1 s2 s3 s4 s5 s6 s7 a b c e g h k =
    let front = then_more (begin_object ∷ []) (key (codes "$doubles") ∷ begin_array ∷ []) s0 s1 s3 a (then_more (key (codes "$doubles") ∷ []) (begin_array ∷ []) s1 s2 s3 b c) in
    let behind = then_more (end_array ∷ []) (flag_tokens (codes "$fixed") f ++ end_object ∷ []) s4 s5 s7 g (then_more (flag_tokens (codes "$fixed") f) (end_object ∷ []) s5 s6 s7 h k) in
    tells_then (begin_object ∷ key (codes "$doubles") ∷ begin_array ∷ []) (ts ++ end_array ∷ (flag_tokens (codes "$fixed") f ++ end_object ∷ [])) s0 s3 s7 (exactly (begin_object ∷ key (codes "$doubles") ∷ begin_array ∷ []) s0 s3 front)
    (tells_then ts (end_array ∷ (flag_tokens (codes "$fixed") f ++ end_object ∷ [])) s3 s4 s7 e (exactly (end_array ∷ (flag_tokens (codes "$fixed") f ++ end_object ∷ [])) s4 s7 behind))
