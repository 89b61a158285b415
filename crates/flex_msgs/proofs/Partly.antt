-- An object at the end of a builder, while it gets its parts.
use Rattle.std.proofs.Common.{◌≡◌, ℕ, zero, suc, ◌+◌, ◌<◌, ◌≤◌, Bool, true, false, List, [], ◌∷◌, ◌++◌, length, take, get_or, set, sym, refl, ap, ◌∙◌, subst, arith, add-one}
use Rattle.std.specs.List.{AllByRecursion}
use Rattle.std.proofs.Math.Seq.{take-suc, get_or-append_seam}
use Rattle.std.proofs.lemmas.List.{length-map}
use Rattle.amf_graph.specs.declared.value.Value.{Value as Stored}
use Rattle.amf_graph.specs.declared.value.TextId.{TextId}
use Rattle.amf_graph.specs.declared.part.Part.TheVariants.{Item, Named}
use Rattle.amf_graph.specs.Graph.{AreMembers}
use Rattle.amf_graph.specs.Arena.{Arena, StoredNode, array, object, no_traits, IsTextId, Names, value_content}
use Rattle.amf_graph.specs.Building.{kept_node, changed, stored_at, no_stored, HasRoom, FitsNow}
use Rattle.amf_graph.specs.Views.{named}
use Rattle.amf_graph.proofs.Built.{grows_node}
use Rattle.amf_graph.proofs.Growth.{names_grow, names_content}
use Rattle.amf_graph.proofs.Lists.{length_pushed}
use Rattle.flex_msgs.specs.Writing.{AreMembersOf}

-- open, with these parts
abbrev pub part_of : ℕ → List (ℕ × Stored) → List Stored → StoredNode
part_of t ps vs = record { is_open = true; head = object t; names = ps; values = vs }

abbrev pub partly : Arena → ℕ → List (ℕ × Stored) → List Stored → Arena
partly old t ps vs = kept_node old (part_of t ps vs)

set_end : {X : Type 0} (xs : List X) (y z : X) → set (xs ++ y ∷ []) (length xs) z ≡ xs ++ z ∷ []
set_end [] y z = refl
set_end (x ∷ xs) y z = ap (λ w. x ∷ w) (set_end xs y z)

pub at_the_end : (a b : Arena) (n : StoredNode) (i : ℕ) → b ≡ kept_node a n → i ≡ length a.nodes → stored_at b i ≡ n
at_the_end a b n i e l = ap (λ (z : Arena). stored_at z i) e ∙ ap (λ k. get_or (a.nodes ++ n ∷ []) k no_stored) l ∙ get_or-append_seam a.nodes n [] no_stored

pub there_is : (a b : Arena) (n : StoredNode) (i : ℕ) → b ≡ kept_node a n → i ≡ length a.nodes → i < length b.nodes
there_is a b n i e l = omega (arith, l, ap (λ (z : Arena). length z.nodes) e, length_pushed a.nodes n)

pub changed_end : (a b : Arena) (n : StoredNode) (f : StoredNode → StoredNode) (i : ℕ) → b ≡ kept_node a n → i ≡ length a.nodes → changed f i b ≡ kept_node a (f n)
changed_end a b n f i e l =
    ap (λ z. record { texts = b.texts; traits = b.traits; nodes = set b.nodes i (f z) }) (at_the_end a b n i e l)
    ∙ ap (λ (z : Arena). record { texts = z.texts; traits = z.traits; nodes = set z.nodes i (f n) }) e
    ∙ ap (λ k. record { texts = a.texts; traits = a.traits; nodes = set (a.nodes ++ n ∷ []) k (f n) }) l
    ∙ ap (λ ns. record { texts = a.texts; traits = a.traits; nodes = ns }) (set_end a.nodes n (f n))

pub names_now : (a b : Arena) (n : StoredNode) (v : Stored) → b ≡ kept_node a n → Names a v → Names b v
names_now a b n v e h = subst (λ (z : Arena). Names z v) (sym e) (names_grow a (kept_node a n) (grows_node a n) v h)

pub text_now : (a b : Arena) (n : StoredNode) (x : ℕ) → b ≡ kept_node a n → IsTextId a x → IsTextId b x
text_now a b n x e h = subst (λ (z : Arena). IsTextId z x) (sym e) h

few : (i : ℕ) (vs : List Stored) → length (take i vs) ≤ i
few zero vs = omega arith
few (suc i) [] = omega arith
few (suc i) (v ∷ vs) = let h = few i vs in omega arith

pub item_room : (a b : Arena) (t i k : ℕ) (vs : List Stored) (v : Stored) → b ≡ partly a t [] (take k vs) → i ≡ length a.nodes → k < length vs → length vs ≡ length (get_or a.traits t no_traits).sealed → HasRoom b (stored_at b i) (Item v)
item_room a b t i k vs v e l m s =
    subst (λ n. HasRoom b n (Item v)) (sym (at_the_end a b (part_of t [] (take k vs)) i e l))
    (subst (λ (z : Arena). HasRoom z (part_of t [] (take k vs)) (Item v)) (sym e)
    (let names = length-map (get_or a.traits t no_traits).sealed (λ x. get_or a.texts x []) in let f = few k vs in omega (arith, names, f, s, m)))

member_dynamic : (dynamic : Bool) (ps : List (TextId × Stored)) (k : ℕ) → AreMembersOf dynamic ps → k < length ps → dynamic ≡ true
member_dynamic true ps k h l = refl
member_dynamic false ps k h l = absurd (omega (arith, l, ap length h))

pub name_room : (a b : Arena) (t i k : ℕ) (ps : List (TextId × Stored)) (qs : List (ℕ × Stored)) (vs : List Stored) (x : TextId) (v : Stored) → b ≡ partly a t qs vs → i ≡ length a.nodes → k < length ps → AreMembersOf (get_or a.traits t no_traits).dynamic ps → HasRoom b (stored_at b i) (Named x v)
name_room a b t i k ps qs vs x v e l m s =
    subst (λ n. HasRoom b n (Named x v)) (sym (at_the_end a b (part_of t qs vs) i e l))
    (subst (λ (z : Arena). HasRoom z (part_of t qs vs) (Named x v)) (sym e) (member_dynamic (get_or a.traits t no_traits).dynamic ps k s m))

members_content : (a : Arena) (dynamic : Bool) (ps : List (TextId × Stored)) → AreMembersOf dynamic ps → AreMembers dynamic (names_content a (named ps))
members_content a true ps h = tt
members_content a false ps h = ap (λ qs. names_content a (named qs)) h

pub fits_now : (a b : Arena) (t i : ℕ) (ps : List (TextId × Stored)) (vs : List Stored) → b ≡ partly a t (named ps) vs → i ≡ length a.nodes → length vs ≡ length (get_or a.traits t no_traits).sealed → AreMembersOf (get_or a.traits t no_traits).dynamic ps → FitsNow b (stored_at b i)
fits_now a b t i ps vs e l s m =
    subst (λ n. FitsNow b n) (sym (at_the_end a b (part_of t (named ps) vs) i e l))
    (subst (λ (z : Arena). FitsNow z (part_of t (named ps) vs)) (sym e)
    (length-map vs (value_content (partly a t (named ps) vs)) ∙ s ∙ sym (length-map (get_or a.traits t no_traits).sealed (λ x. get_or a.texts x [])), members_content (partly a t (named ps) vs) (get_or a.traits t no_traits).dynamic ps m))

pub all_taken : {X : Type 0} (xs : List X) (i : ℕ) → length xs ≤ i → take i xs ≡ xs
all_taken [] zero l = refl
all_taken [] (suc i) l = refl
all_taken (x ∷ xs) zero l = absurd (omega arith)
all_taken (x ∷ xs) (suc i) l = ap (λ w. x ∷ w) (all_taken xs i (omega arith))

pub one_more : {X : Type 0} (xs : List X) (i : ℕ) (d : X) → i < length xs → take (i + 1) xs ≡ take i xs ++ get_or xs i d ∷ []
one_more xs i d l = rw (add-one, take-suc xs i d l) refl

named_push : (ps : List (TextId × Stored)) (p : TextId × Stored) → named (ps ++ p ∷ []) ≡ named ps ++ (p.0.0, p.1) ∷ []
named_push [] p = refl
named_push (q ∷ ps) p = ap (λ w. (q.0.0, q.1) ∷ w) (named_push ps p)

pub one_more_named : (ps : List (TextId × Stored)) (i : ℕ) (d : TextId × Stored) → i < length ps → named (take (i + 1) ps) ≡ named (take i ps) ++ ((get_or ps i d).0.0, (get_or ps i d).1) ∷ []
one_more_named ps i d l = ap named (one_more ps i d l) ∙ named_push (take i ps) (get_or ps i d)

pub pair_there : (P : ℕ × Stored → Type 0) (ps : List (TextId × Stored)) (i : ℕ) (d : TextId × Stored) → AllByRecursion P (named ps) → i < length ps → P ((get_or ps i d).0.0, (get_or ps i d).1)
pair_there P [] i d h l = absurd (omega arith)
pair_there P (p ∷ ps) zero d h l = h.0
pair_there P (p ∷ ps) (suc i) d h l = pair_there P ps i d h.1 (omega arith)

-- The same of an array.

abbrev pub array_of : List Stored → StoredNode
array_of vs = record { is_open = true; head = array; names = []; values = vs }

abbrev pub partly_array : Arena → List Stored → Arena
partly_array old vs = kept_node old (array_of vs)

pub array_room : (a b : Arena) (i : ℕ) (vs : List Stored) (v : Stored) → b ≡ partly_array a vs → i ≡ length a.nodes → HasRoom b (stored_at b i) (Item v)
array_room a b i vs v e l = subst (λ n. HasRoom b n (Item v)) (sym (at_the_end a b (array_of vs) i e l)) tt

pub array_fits : (a b : Arena) (i : ℕ) (vs : List Stored) → b ≡ partly_array a vs → i ≡ length a.nodes → FitsNow b (stored_at b i)
array_fits a b i vs e l = subst (λ n. FitsNow b n) (sym (at_the_end a b (array_of vs) i e l)) tt

pub opened_end : (a b : Arena) (n : StoredNode) (i : ℕ) → n.is_open ≡ true → b ≡ kept_node a n → i ≡ length a.nodes → (stored_at b i).is_open ≡ true
opened_end a b n i o e l = ap (λ (m : StoredNode). m.is_open) (at_the_end a b n i e l) ∙ o
