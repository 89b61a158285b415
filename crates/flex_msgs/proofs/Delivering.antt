-- A stored message has eight values, and a delivered one has another client among them.
use Rattle.std.proofs.Common.{◌≡◌, ℕ, ◌+◌, ◌-◌, ◌<◌, false, List, [], ◌∷◌, length, map, take, drop, get_or, refl, ap, ◌∙◌, subst, arith}
use Rattle.std.specs.List.{AllByRecursion}
use Rattle.std.proofs.lemmas.List.{length-map}
use Rattle.amf_graph.specs.declared.value.Value.{Value as Stored}
use Rattle.amf_graph.specs.Graph.{Head, Traits, object, Fits}
use Rattle.amf_graph.specs.Arena.{Arena, IsNodeIn, Names, head_content, node_content, value_content}
use Rattle.amf_graph.specs.Building.{stored_at}
use Rattle.amf_graph.proofs.Lists.{cons_same}
use Rattle.flex_msgs.specs.Built.{IsStoredAt}
use Rattle.flex_msgs.specs.Classes.{async_traits}
use Rattle.flex_msgs.specs.Messages.{client_value, with_client, other_values}
use Rattle.flex_msgs.specs.Writing.{AreValues}
use Rattle.flex_msgs.proofs.Partly.{all_taken}

pub eight_values : (a : Arena) (i : ℕ) → IsStoredAt a i → IsNodeIn a (stored_at a i) → (stored_at a i).is_open ≡ false → length (stored_at a i).values ≡ 8
eight_values a i s n o =
    let head : head_content a (stored_at a i).head ≡ object async_traits = ap (head_content a) s.1 ∙ ap (λ (t : Traits). object t) s.2 in
    let fits = subst (λ (d : Head). Fits d (node_content a (stored_at a i)).names (node_content a (stored_at a i)).values) head (n.fits o) in
    omega (arith, fits.0, length-map (stored_at a i).values (value_content a))

-- the client is left out
pub others_are : (vs : List Stored) (x : Stored) → length vs ≡ 8 → x ≡ get_or vs 0 x → x ∷ drop 2 vs ≡ other_values vs
others_are [] x l e = absurd (omega arith)
others_are (v ∷ []) x l e = absurd (omega arith)
others_are (v ∷ w ∷ vs) x l e = ap (λ z. z ∷ vs) e

pub others_count : (vs : List Stored) → length vs ≡ 8 → length (other_values vs) ≡ 7
others_count [] l = absurd (omega arith)
others_count (v ∷ []) l = absurd (omega arith)
others_count (v ∷ w ∷ vs) l = omega arith

pub others_named : (P : Stored → Type 0) (vs : List Stored) → AllByRecursion P vs → AllByRecursion P (other_values vs)
others_named P [] h = tt
others_named P (v ∷ []) h = h
others_named P (v ∷ w ∷ vs) h = (h.0, h.1.1)

-- and another one put there
rest_taken : (xs : List Stored) → take (length xs - 1) (drop 1 xs) ≡ drop 1 xs
rest_taken [] = refl
rest_taken (x ∷ xs) = all_taken xs (length (x ∷ xs) - 1) (omega arith)

pub client_put : (xs : List Stored) (x c : Stored) → 0 < length xs → x ≡ get_or xs 0 x → x ∷ c ∷ take (length xs - 1) (drop 1 xs) ≡ with_client c xs
client_put [] x c l e = absurd (omega arith)
client_put (y ∷ xs) x c l e = ap (λ zs. x ∷ c ∷ zs) (rest_taken (y ∷ xs)) ∙ ap (λ z. z ∷ c ∷ xs) e

pub with_client_count : (xs : List Stored) (c : Stored) → 0 < length xs → length (with_client c xs) ≡ length xs + 1
with_client_count [] c l = absurd (omega arith)
with_client_count (x ∷ xs) c l = omega arith

pub with_client_known : (b : Arena) (c : Stored) (x : List ℕ) (xs : List Stored) → AllByRecursion (Names b) xs → AreValues b (c ∷ []) (λ h. client_value x ∷ []) → AreValues b (with_client c xs) (λ h. with_client (client_value x) (map (value_content h) xs))
with_client_known b c x [] n k = record { names = tt; content = λ h done. refl }
with_client_known b c x (y ∷ xs) n k = record {
  names = (n.0, (k.names.0, n.1));
  content = λ h done. ap (λ z. value_content h y ∷ z ∷ map (value_content h) xs) (cons_same (k.content h done)).0;
}
