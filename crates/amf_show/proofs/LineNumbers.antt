-- The numbers of lines, counted up.
use Rattle.std.proofs.Common.{◌≡◌, ℕ, ◌+◌, ◌/◌, ◌%◌, ◌^◌, ◌<◌, List, [], ◌∷◌, ◌++◌, length, set, get_or, slice_get, Some, refl, sym, ap, ap₂, ◌∙◌, inl, inr, arith, append_assoc}
use Rattle.std.specs.Prelude.{codes, decimal}
use Rattle.std.proofs.lemmas.Bool.{cases_lt}
use Rattle.std.proofs.lemmas.Fmt.{decimal_digit, decimal_step}
use Rattle.std.proofs.lemmas.List.{length-append}
use Rattle.amf_graph.specs.Graph.{Graph, node_at}
use Rattle.amf_graph.specs.Order.{IsOrder}
use Rattle.amf_graph.proofs.PlaceOf.{place_there}
use Rattle.amf_graph.proofs.Reaching.{order_once}
use Rattle.amf_show.specs.Joining.{line_number}
use Rattle.amf_show.specs.Listing.{contents_of, shown_number, shown_node}
use Rattle.amf_show.specs.Shown.{line_feed}

-- the last digit, which alone differs in the next number unless it is a 9
last_digit : (n : ℕ) → n + 1 < 2 ^ 32 → (front : List ℕ) × (decimal n ≡ front ++ (48 + n % 10) ∷ []) × (n % 10 < 9 → decimal (n + 1) ≡ front ++ (49 + n % 10) ∷ [])
last_digit n small =
    elim (cases_lt n 10) [
      | inl low ↦ ([], decimal_digit n low ∙ ap (λ d. d ∷ []) (omega arith), λ l. decimal_digit (n + 1) (omega arith) ∙ ap (λ d. d ∷ []) (omega arith))
      | inr high ↦ (decimal (n / 10), decimal_step n high (omega arith), λ l. decimal_step (n + 1) (omega arith) (omega arith) ∙ ap₂ (λ m d. decimal m ++ d ∷ []) (omega arith) (omega arith))
    ]

read_behind : (xs : List ℕ) (a b d : ℕ) → get_or (xs ++ a ∷ b ∷ []) (length xs) d ≡ a
read_behind [] a b d = refl
read_behind (x ∷ xs) a b d = read_behind xs a b d

set_behind : (xs : List ℕ) (a b v : ℕ) → set (xs ++ a ∷ b ∷ []) (length xs) v ≡ xs ++ v ∷ b ∷ []
set_behind [] a b v = refl
set_behind (x ∷ xs) a b v = ap (λ w. x ∷ w) (set_behind xs a b v)

pub line_long : (n : ℕ) (text : List ℕ) → n + 1 < 2 ^ 32 → text ≡ line_number n → 2 < length text
line_long n text small e =
    let l = last_digit n small in
    omega (arith, ap length e, length-append (35 ∷ decimal n) (32 ∷ []), ap length l.1, length-append l.0 ((48 + n % 10) ∷ []))

pub counted : (n : ℕ) (text : List ℕ) (last v : ℕ) → n + 1 < 2 ^ 32 → text ≡ line_number n → last + 2 ≡ length text → v ≡ get_or text last v → v < 57 → set text last (v + 1) ≡ line_number (n + 1)
counted n text last v small e at read below =
    let l = last_digit n small in
    let front : List ℕ = 35 ∷ l.0 in
    let d : ℕ = 48 + n % 10 in
    let shape : text ≡ front ++ d ∷ 32 ∷ [] = e ∙ ap (λ w. (35 ∷ w) ++ 32 ∷ []) l.1 ∙ append_assoc front (d ∷ []) (32 ∷ []) in
    let place : last ≡ length front = omega (arith, at, ap length shape, length-append front (d ∷ 32 ∷ [])) in
    let digit : v ≡ d = read ∙ ap₂ (λ xs k. get_or xs k v) shape place ∙ read_behind front d 32 v in
    let next : decimal (n + 1) ≡ l.0 ++ (49 + n % 10) ∷ [] = l.2 (omega (arith, digit, below)) in
    let more : v + 1 ≡ 49 + n % 10 = omega (arith, digit) in
    ap₂ (λ xs k. set xs k (v + 1)) shape place ∙ set_behind front d 32 (v + 1) ∙ ap (λ w. front ++ w ∷ 32 ∷ []) more
    ∙ sym (ap (λ w. (35 ∷ w) ++ 32 ∷ []) next ∙ append_assoc front ((49 + n % 10) ∷ []) (32 ∷ []))

-- the line of the node with a number
pub line_shown : (g : Graph) (order : List ℕ) (k i : ℕ) → IsOrder g order → slice_get order k ≡ Some i → line_number k ++ contents_of order (node_at g i) ++ line_feed ≡ shown_node g order i
unfolding shown_node shown_number
line_shown g order k i w e = ap (λ n. codes "#" ++ decimal n ++ codes " " ++ contents_of order (node_at g i) ++ line_feed) (sym (place_there order k i (order_once g order w) e))
