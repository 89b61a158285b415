-- A message that comes to members one after another.
use Rattle.std.proofs.Common.{◌≡◌, ℕ, zero, suc, ◌+◌, ◌<◌, ◌≤◌, true, false, List, [], ◌∷◌, ◌++◌, length, take, drop, get_or, set, map, refl, sym, subst, ◌∙◌, ap, arith, length-append}
use Rattle.std.specs.Prelude.{◌==◌, Option, Some, None, if◌then◌else◌}
use Rattle.std.specs.List.{cons_option, list_all}
use Rattle.std.proofs.lemmas.Bool.Decides.{nat_tests}
use Rattle.std.proofs.lemmas.List.{drop_more, take_more, take-append-drop, length-map}
use Rattle.std.proofs.lemmas.Grind.{common_steps}
use Rattle.amf_broker.specs.declared.limits.TheConstants.{MAX_SUBS}
use Rattle.amf_broker.specs.Lines.{Waiter, waiter_at, waiters_rise, is_crowded, counted, noted, untold_of}
use Rattle.amf_broker.specs.Members.{Listener, is_present, waiters_by, ended_by_member, waiters_after, ended_after, members_of}
use Rattle.amf_broker.proofs.Seats.{present-after}
use Rattle.amf_broker.proofs.Deals.{rise-changed}

pub waiters-more : (xs : List Listener) (m : Listener) (ws : List Waiter) → waiters_after (xs ++ (m ∷ [])) ws ≡ waiters_by m (waiters_after xs ws)
waiters-more [] m ws = refl
waiters-more (x ∷ xs) m ws = waiters-more xs m (waiters_by x ws)

length-at : (k : ℕ) (g : Waiter → Waiter) (ws : List Waiter) → length (waiter_at k g ws) ≡ length ws
length-at k g [] = refl
length-at k g (w ∷ ws) = elim (w.id == k) as (λ b. length (if b then g w ∷ ws else w ∷ waiter_at k g ws) ≡ length (w ∷ ws)) [ true ↦ refl | false ↦ ap suc (length-at k g ws) ]

length-by : (m : Listener) (ws : List Waiter) → length (waiters_by m ws) ≡ length ws
length-by m ws = elim (is_crowded m.client ws) as (λ b. length (if b then waiter_at m.client (noted m.sub) ws else waiter_at m.client counted ws) ≡ length ws) [
  | true ↦ length-at m.client (noted m.sub) ws
  | false ↦ length-at m.client counted ws
]

pub length-after : (ms : List Listener) (ws : List Waiter) → length (waiters_after ms ws) ≡ length ws
length-after [] ws = refl
length-after (m ∷ ms) ws = length-after ms (waiters_by m ws) ∙ length-by m ws

append-option : (o : Option ℕ) (xs ys : List ℕ) → cons_option o (xs ++ ys) ≡ cons_option o xs ++ ys
append-option None xs ys = refl
append-option (Some x) xs ys = refl

pub ended-more : (xs : List Listener) (m : Listener) (ws : List Waiter) → ended_after (xs ++ (m ∷ [])) ws ≡ ended_after xs ws ++ cons_option (ended_by_member m (waiters_after xs ws)) []
ended-more [] m ws = refl
ended-more (x ∷ xs) m ws =
    ap (cons_option (ended_by_member x ws)) (ended-more xs m (waiters_by x ws))
    ∙ append-option (ended_by_member x ws) (ended_after xs (waiters_by x ws)) (cons_option (ended_by_member m (waiters_after (x ∷ xs) ws)) [])

length-option : (o : Option ℕ) (xs : List ℕ) → length (cons_option o xs) ≤ length xs + 1
length-option None xs = omega arith
length-option (Some x) xs = omega arith

pub length-ended : (xs : List Listener) (ws : List Waiter) → length (ended_after xs ws) ≤ length xs
length-ended [] ws = omega arith
length-ended (x ∷ xs) ws =
    let ih = length-ended xs (waiters_by x ws) in
    let one = length-option (ended_by_member x ws) (ended_after xs (waiters_by x ws)) in
    omega arith

untold-noted : (j k sub : ℕ) (ws : List Waiter) → untold_of j (waiter_at k (noted sub) ws) ≤ untold_of j ws + (if k == j then 1 else 0)
untold-noted j k sub [] = omega arith
untold-noted j k sub (w ∷ ws) = let ih = untold-noted j k sub ws in let n = length-append w.ended (sub ∷ []) in grind (arith, nat_tests, ih, n)

untold-counted : (j k : ℕ) (ws : List Waiter) → untold_of j (waiter_at k counted ws) ≡ untold_of j ws
untold-counted j k [] = refl
untold-counted j k (w ∷ ws) = let ih = untold-counted j k ws in grind (arith, nat_tests, ih)

untold-by : (j : ℕ) (m : Listener) (ws : List Waiter) → untold_of j (waiters_by m ws) ≤ untold_of j ws + (if m.client == j then 1 else 0)
untold-by j m ws = elim (is_crowded m.client ws)
    as (λ full. untold_of j (if full then waiter_at m.client (noted m.sub) ws else waiter_at m.client counted ws) ≤ untold_of j ws + (if m.client == j then 1 else 0)) [
      | true ↦ untold-noted j m.client m.sub ws
      | false ↦ let same = untold-counted j m.client ws in omega arith
    ]

untold-after : (j : ℕ) (xs : List Listener) (ws : List Waiter) → untold_of j (waiters_after xs ws) ≤ untold_of j ws + length (members_of j xs)
untold-after j [] ws = omega arith
untold-after j (x ∷ xs) ws =
    let ih = untold-after j xs (waiters_by x ws) in
    let one = untold-by j x ws in
    grind (arith, nat_tests, ih, one)

own-member : (m : Listener) (xs ys : List Listener) → length (members_of m.client xs) + 1 ≤ length (members_of m.client (xs ++ (m ∷ ys)))
own-member m [] ys = grind (arith, nat_tests)
own-member m (x ∷ xs) ys = let ih = own-member m xs ys in grind (arith, nat_tests, ih)

-- there is room for the next member to end
pub room-next : (m : Listener) (xs ys : List Listener) (ws : List Waiter) → ((j : ℕ) → length (members_of j (xs ++ (m ∷ ys))) + untold_of j ws ≤ MAX_SUBS) → untold_of m.client (waiters_after xs ws) < MAX_SUBS
room-next m xs ys ws places =
    let all = places m.client in
    let own = own-member m xs ys in
    let now = untold-after m.client xs ws in
    omega arith

pub length-next : (m : Listener) (xs ys all : List Listener) → xs ++ (m ∷ ys) ≡ all → length xs < length all
length-next m xs ys all is = let e = ap length is in let n = length-append xs (m ∷ ys) in omega arith

pub ended-step : (xs : List Listener) (m : Listener) (ws now : List Waiter) (ended : List ℕ) (o : Option ℕ) → ended ≡ ended_after xs ws → now ≡ waiters_after xs ws → o ≡ ended_by_member m now
    → ended ++ cons_option o [] ≡ ended_after (xs ++ (m ∷ [])) ws
ended-step xs m ws now ended o before at is = ap (λ e. e ++ cons_option o []) before ∙ (ap (λ e. ended_after xs ws ++ cons_option e []) (is ∙ ap (ended_by_member m) at) ∙ sym (ended-more xs m ws))

present-within : (m : Listener) (xs ys : List Listener) (ws : List Waiter) → list_all (λ x. is_present x.client ws) (xs ++ (m ∷ ys)) ≡ true → is_present m.client ws ≡ true
present-within m [] ys ws all = grind (arith, all)
present-within m (x ∷ xs) ys ws all = let ih = present-within m xs ys ws in grind (arith, all, ih)

-- the client of the next member is still there
pub present-next : (m : Listener) (xs ys : List Listener) (ws : List Waiter) → list_all (λ x. is_present x.client ws) (xs ++ (m ∷ ys)) ≡ true → is_present m.client (waiters_after xs ws) ≡ true
present-next m xs ys ws all = present-after m.client xs ws ∙ present-within m xs ys ws all

-- the clients still stand in order
rise-by : (n : ℕ) (m : Listener) (ws : List Waiter) → waiters_rise n (waiters_by m ws) ≡ waiters_rise n ws
rise-by n m ws = elim (is_crowded m.client ws) as (λ b. waiters_rise n (if b then waiter_at m.client (noted m.sub) ws else waiter_at m.client counted ws) ≡ waiters_rise n ws) [
  | true ↦ rise-changed m.client (noted m.sub) (λ w. refl) n ws
  | false ↦ rise-changed m.client counted (λ w. refl) n ws
]

pub rise-after : (n : ℕ) (ms : List Listener) (ws : List Waiter) → waiters_rise n (waiters_after ms ws) ≡ waiters_rise n ws
rise-after n [] ws = refl
rise-after n (m ∷ ms) ws = rise-after n ms (waiters_by m ws) ∙ rise-by n m ws

-- A list at an index.

pub split-at : {X : Type 0} (xs : List X) (i : ℕ) (d : X) → i < length xs → take i xs ++ (get_or xs i d ∷ drop (i + 1) xs) ≡ xs
split-at xs i d less = ap (λ y. take i xs ++ y) (sym (drop_more xs i d less)) ∙ take-append-drop i xs

-- a list that is written whole
pub refilled : {X : Type 0} (n : ℕ) (ws xs : List X) → length xs ≡ n → length ws ≡ length xs → take n (ws ++ drop (length ws) xs) ≡ ws
refilled n ws xs full same = grind (arith, common_steps)

pub mapped : {X : Type 0} (f : X → X) (n : ℕ) (xs ws : List X) → length xs ≡ n → ws ≡ map f xs → take n (ws ++ drop (length ws) xs) ≡ map f xs
mapped f n xs ws full is = refilled n ws xs full (ap length is ∙ length-map xs f) ∙ is

-- The message comes to the member at an index.

module _ (ms now : List Listener) (i : ℕ) (d : Listener) (ws vs : List Waiter) (less : i < length ms) (same : now ≡ ms) (after : vs ≡ waiters_after (take i ms) ws) where
  pub present-at : list_all (λ x. is_present x.client ws) ms ≡ true → is_present (get_or now i d).client vs ≡ true
  present-at all =
      ap (λ xs. is_present (get_or xs i d).client vs) same
      ∙ (ap (is_present (get_or ms i d).client) after
      ∙ present-next (get_or ms i d) (take i ms) (drop (i + 1) ms) ws (ap (list_all (λ (x : Listener). is_present x.client ws)) (split-at ms i d less) ∙ all))

  pub room-at : ((j : ℕ) → length (members_of j ms) + untold_of j ws ≤ MAX_SUBS) → untold_of (get_or now i d).client vs < MAX_SUBS
  room-at places =
      let room = room-next (get_or ms i d) (take i ms) (drop (i + 1) ms) ws (λ j. subst (λ (xs : List Listener). length (members_of j xs) + untold_of j ws ≤ MAX_SUBS) (sym (split-at ms i d less)) (places j)) in
      subst (λ (xs : List Listener). untold_of (get_or xs i d).client vs < MAX_SUBS) (sym same) (subst (λ (w : List Waiter). untold_of (get_or ms i d).client w < MAX_SUBS) (sym after) room)

  pub waiters-at : (new : List Waiter) → new ≡ waiters_by (get_or now i d) vs → new ≡ waiters_after (take (i + 1) ms) ws
  waiters-at new is =
      is
      ∙ (ap (λ xs. waiters_by (get_or xs i d) vs) same
      ∙ (ap (waiters_by (get_or ms i d)) after ∙ (sym (waiters-more (take i ms) (get_or ms i d) ws) ∙ ap (λ xs. waiters_after xs ws) (sym (take_more ms i d less)))))

  pub ended-at : (ended : List ℕ) (o : Option ℕ) → ended ≡ ended_after (take i ms) ws → o ≡ ended_by_member (get_or now i d) vs → ended ++ cons_option o [] ≡ ended_after (take (i + 1) ms) ws
  ended-at ended o before is =
      ended-step (take i ms) (get_or ms i d) ws vs ended o before after (is ∙ ap (λ xs. ended_by_member (get_or xs i d) vs) same) ∙ ap (λ xs. ended_after xs ws) (sym (take_more ms i d less))

-- one more of a list that is changed from its front on
changed-suc : {X : Type 0} (f : X → X) (xs : List X) (i : ℕ) (d v : X) → i < length xs → v ≡ f (get_or xs i d) → set (map f (take i xs) ++ drop i xs) i v ≡ map f (take (suc i) xs) ++ drop (suc i) xs
changed-suc f [] i d v less is = absurd (omega arith)
changed-suc f (x ∷ xs) zero d v less is = ap (λ y. y ∷ xs) is
changed-suc f (x ∷ xs) (suc i) d v less is = ap (λ ys. f x ∷ ys) (changed-suc f xs i d v (omega arith) is)

read-next : {X : Type 0} (f : X → X) (xs : List X) (i : ℕ) (d : X) → i < length xs → get_or (map f (take i xs) ++ drop i xs) i d ≡ get_or xs i d
read-next f [] i d less = absurd (omega arith)
read-next f (x ∷ xs) zero d less = refl
read-next f (x ∷ xs) (suc i) d less = read-next f xs i d (omega arith)

-- the loop goes on by one element
pub changed-next : {X : Type 0} (f : X → X) (xs now : List X) (i : ℕ) (d v : X) → now ≡ map f (take i xs) ++ drop i xs → i < length xs → v ≡ f (get_or now i d) → set now i v ≡ map f (take (i + 1) xs) ++ drop (i + 1) xs
changed-next f xs now i d v is less new =
    let next : i + 1 ≡ suc i = omega arith in
    let read = ap (λ ys. get_or ys i d) is ∙ read-next f xs i d less in
    rw next (ap (λ ys. set ys i v) is ∙ changed-suc f xs i d v less (new ∙ ap f read))
