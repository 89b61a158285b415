-- A node that is begun gets its names and then its values, and is closed.
use Rattle.std.proofs.Common.{◌≡◌, ℕ, ◌+◌, ◌*◌, ◌<◌, Bool, List, length, sym, refl, ap, ◌∙◌, subst, arith}
use Rattle.std.proofs.lemmas.List.{length-map}
use Rattle.std.specs.List.{AllByRecursion}
use Rattle.amf_graph.specs.declared.value.Value.{Value as Stored}
use Rattle.amf_graph.specs.declared.value.TextId.{TextId}
use Rattle.amf_graph.specs.declared.shape.Shape.{Shape}
use Rattle.amf_graph.specs.declared.shape.Shape.TheVariants as shape
use Rattle.amf_graph.specs.declared.part.Part.TheVariants.{Named}
use Rattle.amf_graph.specs.Arena.{Arena, StoredNode, IsNodeIn, Names, head_content, value_content}
use Rattle.amf_graph.specs.Bodies.{TakesEntry}
use Rattle.amf_graph.specs.Bounds.{NodeWithin}
use Rattle.amf_graph.specs.Building.{begun, changed, shape_head, shut, stored_at, size_of, FitsNow, HasRoom}
use Rattle.amf_graph.proofs.Alls.{all_weaker}
use Rattle.amf_sheet.specs.Filling.{more_names, more_values, TakesItems}
use Rattle.amf_sheet.specs.Telling.{told, with_node}
use Rattle.amf_sheet.proofs.Changing.{changed_again}
use Rattle.amf_sheet.proofs.Putting.{stored_is, names_still}
use Rattle.amf_sheet.proofs.Taking.{names_taken}

-- what holds of the node once it has a name more holds of it here
at_begun : (P : StoredNode → Type 0) (a : Arena) (i : ℕ) (s : Shape) → stored_at a i ≡ begun (shape_head s) → P (begun (shape_head s)) → P (stored_at a i)
at_begun P a i s e h = subst P (sym e) h

pub names_room : (a : Arena) (i : ℕ) (s : Shape) (ps : List (TextId × Stored)) (vs : List Stored) → stored_at a i ≡ begun (shape_head s) → IsNodeIn a (told s ps vs)
    → AllByRecursion (λ p. HasRoom a (stored_at a i) (Named p.0 p.1)) ps
names_room a i s ps vs e h = at_begun (λ n. AllByRecursion (λ (p : TextId × Stored). HasRoom a n (Named p.0 p.1)) ps) a i s e (names_taken a s ps vs (h.fits refl))

begun_size : (s : Shape) (ps : List (TextId × Stored)) (vs : List Stored) → NodeWithin (told s ps vs) → size_of (begun (shape_head s)) + length ps < 268435456
begun_size shape.Array ps vs w = let place : TextId × Stored → ℕ × Stored = λ q. (q.0.0, q.1) in omega (arith, w.together, length-map ps place)
begun_size (shape.Object t) ps vs w = let place : TextId × Stored → ℕ × Stored = λ q. (q.0.0, q.1) in omega (arith, w.together, length-map ps place)
begun_size (shape.Wrapper c) ps vs w = let place : TextId × Stored → ℕ × Stored = λ q. (q.0.0, q.1) in omega (arith, w.together, length-map ps place)
begun_size (shape.Values f x) ps vs w = let place : TextId × Stored → ℕ × Stored = λ q. (q.0.0, q.1) in omega (arith, w.together, length-map ps place)
begun_size (shape.Dictionary f) ps vs w = let place : TextId × Stored → ℕ × Stored = λ q. (q.0.0, q.1) in omega (arith, w.together, length-map ps place)

pub names_within : (a : Arena) (i : ℕ) (s : Shape) (ps : List (TextId × Stored)) (vs : List Stored) → stored_at a i ≡ begun (shape_head s) → NodeWithin (told s ps vs) → size_of (stored_at a i) + length ps < 268435456
names_within a i s ps vs e w = at_begun (λ n. size_of n + length ps < 268435456) a i s e (begun_size s ps vs w)

-- The node once it has its names.

pub named_is : (a b : Arena) (i : ℕ) (s : Shape) (ps : List (TextId × Stored)) → i < length a.nodes → stored_at a i ≡ begun (shape_head s) → b ≡ changed (more_names ps) i a → stored_at b i ≡ more_names ps (begun (shape_head s))
named_is a b i s ps l e f = stored_is (more_names ps) i a b f l ∙ ap (more_names ps) e

pub values_names : (a b : Arena) (i : ℕ) (ps : List (TextId × Stored)) (vs : List Stored) → b ≡ changed (more_names ps) i a → AllByRecursion (Names a) vs → AllByRecursion (Names b) vs
values_names a b i ps vs f h = all_weaker (Names a) (Names b) vs (λ v. names_still (more_names ps) i a b v f) h

items_taken : (a : Arena) (s : Shape) (ps : List (TextId × Stored)) (vs : List Stored) → ((x : Bool) → s ≡ shape.Dictionary x → ⊥) → IsNodeIn a (told s ps vs) → TakesItems (head_content a (shape_head s)) (0 + length vs)
items_taken a shape.Array ps vs n h = tt
items_taken a (shape.Object t) ps vs n h = omega (arith, (h.fits refl).0, length-map vs (value_content a))
items_taken a (shape.Wrapper c) ps vs n h = omega (arith, (h.fits refl).1, length-map vs (value_content a))
items_taken a (shape.Values f x) ps vs n h = tt
items_taken a (shape.Dictionary f) ps vs n h = absurd (n f refl)

named_size : (s : Shape) (ps : List (TextId × Stored)) (vs : List Stored) → ((x : Bool) → s ≡ shape.Dictionary x → ⊥) → NodeWithin (told s ps vs) → size_of (more_names ps (begun (shape_head s))) + length vs < 268435456
named_size shape.Array ps vs n w = omega (arith, w.together)
named_size (shape.Object t) ps vs n w = omega (arith, w.together)
named_size (shape.Wrapper c) ps vs n w = omega (arith, w.together)
named_size (shape.Values f x) ps vs n w = omega (arith, w.together)
named_size (shape.Dictionary f) ps vs n w = absurd (n f refl)

pub items_room : (a b : Arena) (i : ℕ) (s : Shape) (ps : List (TextId × Stored)) (vs : List Stored) → i < length a.nodes → stored_at a i ≡ begun (shape_head s) → b ≡ changed (more_names ps) i a
    → ((x : Bool) → s ≡ shape.Dictionary x → ⊥) → IsNodeIn a (told s ps vs) → TakesItems (head_content b (stored_at b i).head) (length (stored_at b i).values + length vs)
items_room a b i s ps vs l e f n h =
    subst (λ m. TakesItems (head_content b m.head) (length m.values + length vs)) (sym (named_is a b i s ps l e f))
    (subst (λ (x : Arena). TakesItems (head_content x (shape_head s)) (0 + length vs)) (sym f) (items_taken a s ps vs n h))

pub items_within : (a b : Arena) (i : ℕ) (s : Shape) (ps : List (TextId × Stored)) (vs : List Stored) → i < length a.nodes → stored_at a i ≡ begun (shape_head s) → b ≡ changed (more_names ps) i a
    → ((x : Bool) → s ≡ shape.Dictionary x → ⊥) → NodeWithin (told s ps vs) → size_of (stored_at b i) + length vs < 268435456
items_within a b i s ps vs l e f n w = subst (λ m. size_of m + length vs < 268435456) (sym (named_is a b i s ps l e f)) (named_size s ps vs n w)

pub entries_room : (a b : Arena) (i : ℕ) (s : Shape) (ps : List (TextId × Stored)) (weak : Bool) → i < length a.nodes → stored_at a i ≡ begun (shape_head s) → b ≡ changed (more_names ps) i a → s ≡ shape.Dictionary weak → TakesEntry (stored_at b i).head
entries_room a b i s ps weak l e f d = subst (λ m. TakesEntry m.head) (sym (named_is a b i s ps l e f)) (subst (λ t. TakesEntry (shape_head t)) (sym d) tt)

pub entries_pairs : (a : Arena) (s : Shape) (ps : List (TextId × Stored)) (vs : List Stored) (weak : Bool) → s ≡ shape.Dictionary weak → IsNodeIn a (told s ps vs) → (n : ℕ) × (length vs ≡ 2 * n)
entries_pairs a s ps vs weak d h =
    let k : IsNodeIn a (told (shape.Dictionary weak) ps vs) = subst (λ t. IsNodeIn a (told t ps vs)) d h in
    let fits = k.fits refl in
    (fits.1, sym (length-map vs (value_content a)) ∙ fits.2)

pub entries_within : (a b : Arena) (i : ℕ) (s : Shape) (ps : List (TextId × Stored)) (vs : List Stored) → i < length a.nodes → stored_at a i ≡ begun (shape_head s) → b ≡ changed (more_names ps) i a
    → NodeWithin (told s ps vs) → size_of (more_values vs (stored_at b i)) < 268435456
entries_within a b i s ps vs l e f w = subst (λ m. size_of (more_values vs m) < 268435456) (sym (named_is a b i s ps l e f)) w.together

-- And once it has its values.

pub valued_is : (a b c : Arena) (i : ℕ) (s : Shape) (ps : List (TextId × Stored)) (vs : List Stored) → i < length a.nodes → i < length b.nodes → stored_at a i ≡ begun (shape_head s) → b ≡ changed (more_names ps) i a → c ≡ changed (more_values vs) i b
    → stored_at c i ≡ more_values vs (more_names ps (begun (shape_head s)))
valued_is a b c i s ps vs l m e f g = stored_is (more_values vs) i b c g m ∙ ap (more_values vs) (named_is a b i s ps l e f)

pub fits_then : (a b c : Arena) (i : ℕ) (s : Shape) (ps : List (TextId × Stored)) (vs : List Stored) → i < length a.nodes → i < length b.nodes → stored_at a i ≡ begun (shape_head s) → b ≡ changed (more_names ps) i a → c ≡ changed (more_values vs) i b
    → IsNodeIn a (told s ps vs) → FitsNow c (stored_at c i)
fits_then a b c i s ps vs l m e f g h =
    subst (FitsNow c) (sym (valued_is a b c i s ps vs l m e f g))
    (subst (λ (x : Arena). FitsNow x (more_values vs (more_names ps (begun (shape_head s))))) (sym (g ∙ ap (changed (more_values vs) i) f)) (h.fits refl))

pub told_then : (a b c : Arena) (i : ℕ) (s : Shape) (ps : List (TextId × Stored)) (vs : List Stored) → i < length a.nodes → stored_at a i ≡ begun (shape_head s) → b ≡ changed (more_names ps) i a → c ≡ changed (more_values vs) i b
    → changed shut i c ≡ with_node i (told s ps vs) a
told_then a b c i s ps vs l e f g =
    let valued : c ≡ changed (λ n. more_values vs (more_names ps n)) i a = g ∙ ap (changed (more_values vs) i) f ∙ changed_again (more_names ps) (more_values vs) i a l in
    ap (changed shut i) valued ∙ changed_again (λ n. more_values vs (more_names ps n)) shut i a l ∙ ap (λ n. with_node i (shut (more_values vs (more_names ps n))) a) e
