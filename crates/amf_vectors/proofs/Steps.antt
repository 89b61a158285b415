-- One more object of a graph that is being made, and the graph once all are there.
use Rattle.std.proofs.Common.{◌≡◌, refl, sym, ◌∙◌, ap, subst, ◌<◌, ℕ, zero, suc, ◌+◌, ◌-◌, ◌/◌, ◌%◌, true, false, List, [], ◌∷◌, ◌++◌, length, get_or, set, map, pos, arith, to_z}
use Rattle.std.proofs.lemmas.Int.{to_z_pos}
use Rattle.std.specs.Int.{w32}
use Rattle.std.specs.List.{AllByRecursion}
use Rattle.amf_graph.specs.Graph as graph
use Rattle.amf_graph.specs.declared.value.Value.TheVariants.{Integer}
use Rattle.amf_graph.specs.declared.part.Part.{Part}
use Rattle.amf_graph.specs.declared.part.Part.TheVariants.{Item, Named}
use Rattle.amf_graph.specs.Arena.{Arena, StoredNode, object, graph_of, node_content, value_content}
use Rattle.amf_graph.specs.Building.{kept_node, begun, changed, more_part, shut, stored_at, size_of}
use Rattle.amf_vectors.specs.Made.{number, each, made}
use Rattle.amf_vectors.specs.Making.{reference, stored_object, making}

length_more : {X : Type 0} → (xs : List X) (x : X) → length (xs ++ x ∷ []) ≡ suc (length xs)
length_more [] x = refl
length_more (y ∷ xs) x = ap (λ k. suc k) (length_more xs x)

pub length_each : {X : Type 0} → (f : ℕ → X) (n : ℕ) → length (each f n) ≡ n
length_each f zero = refl
length_each f (suc n) = length_more (each f n) (f (suc n)) ∙ ap (λ k. suc k) (length_each f n)

pub how_many : (is_open : _) (seed n : ℕ) → length (making is_open seed n).nodes ≡ suc n
how_many is_open seed n = ap (λ k. suc k) (length_each (stored_object seed) n)

get_last : {X : Type 0} → (xs : List X) (x d : X) → get_or (xs ++ x ∷ []) (length xs) d ≡ x
get_last [] x d = refl
get_last (y ∷ xs) x d = get_last xs x d

set_last : {X : Type 0} → (xs : List X) (x y : X) → set (xs ++ x ∷ []) (length xs) y ≡ xs ++ y ∷ []
set_last [] x y = refl
set_last (z ∷ xs) x y = ap (λ ys. z ∷ ys) (set_last xs x y)

pub last_changed : (a : Arena) (x : StoredNode) (f : StoredNode → StoredNode) → changed f (length a.nodes) (kept_node a x) ≡ kept_node a (f x)
last_changed a x f =
    ap (λ ns. record { texts = a.texts; traits = a.traits; nodes = ns })
    (ap (λ y. set (a.nodes ++ x ∷ []) (length a.nodes) (f y)) (get_last a.nodes x _) ∙ set_last a.nodes x (f x))

-- what the calls for one object do to the arena, where n objects are there, the number is the next one, and the object's id is the next one
module _ (seed n number_now place id : ℕ) (numbered : number_now ≡ number seed (suc n)) (placed : place ≡ suc n) (named : id ≡ length (making true seed n).nodes) where
  abbrev pub key : Part
  key = Named (record { 0 = 1 }) (Integer (to_z w32 (number_now / 65536)))

  abbrev pub partner : Part
  partner = Named (record { 0 = 2 }) (reference (number_now % (place + 1)))

  abbrev pub before : Arena
  before = making true seed n

  pub next_id : id ≡ suc n
  next_id = named ∙ how_many true seed n

  changes : (a b : Arena) (x : StoredNode) (f : StoredNode → StoredNode) → a ≡ kept_node before x → b ≡ changed f id a → b ≡ kept_node before (f x)
  changes a b x f e g = g ∙ subst (λ i. changed f i a ≡ kept_node before (f x)) (sym named) (ap (changed f (length before.nodes)) e ∙ last_changed before x f)

  pub keyed : (a b : Arena) → a ≡ kept_node before (begun (object 0)) → b ≡ changed (more_part key) id a → b ≡ kept_node before (more_part key (begun (object 0)))
  keyed a b e g = changes a b (begun (object 0)) (more_part key) e g

  key_is : to_z w32 (number_now / 65536) ≡ pos (number seed (suc n) / 65536)
  key_is = subst (λ x. to_z w32 (x / 65536) ≡ pos (number seed (suc n) / 65536)) (sym numbered) (to_z_pos w32 (number seed (suc n) / 65536) (omega arith))

  partner_is : number_now % (place + 1) ≡ number seed (suc n) % suc (suc n)
  partner_is = subst (λ x. x % (place + 1) ≡ number seed (suc n) % suc (suc n)) (sym numbered) (ap (λ k. number seed (suc n) % k) (omega (arith, placed)))

  pub partner_there : number_now % (place + 1) < suc (suc n)
  partner_there = omega (arith, placed)

  object_is : shut (more_part partner (more_part key (begun (object 0)))) ≡ stored_object seed (suc n)
  object_is = subst (λ k. shut (more_part partner (more_part (Named (record { 0 = 1 }) (Integer k)) (begun (object 0)))) ≡ stored_object seed (suc n)) (sym key_is)
      (ap (λ p. shut (more_part (Named (record { 0 = 2 }) (reference p)) (more_part (Named (record { 0 = 1 }) (Integer (pos (number seed (suc n) / 65536)))) (begun (object 0))))) partner_is)

  pub closed_object : (b c d : Arena) → b ≡ kept_node before (more_part key (begun (object 0))) → c ≡ changed (more_part partner) id b → d ≡ changed shut id c → d ≡ kept_node before (stored_object seed (suc n))
  closed_object b c d e f g = changes c d (more_part partner (more_part key (begun (object 0)))) shut (changes b c (more_part key (begun (object 0))) (more_part partner) e f) g ∙ ap (kept_node before) object_is

  pub added : (c d : Arena) → c ≡ kept_node before (stored_object seed (suc n)) → d ≡ changed (more_part (Item (reference id))) 0 c → d ≡ making true seed (suc n)
  added c d e f = f ∙ ap (changed (more_part (Item (reference id))) 0) e ∙ ap (λ i. changed (more_part (Item (reference i))) 0 (kept_node before (stored_object seed (suc n)))) next_id

pub array_size : (seed n : ℕ) (x : StoredNode) (c : Arena) → c ≡ kept_node (making true seed n) x → size_of (stored_at c 0) ≡ n
array_size seed n x c e = let h : size_of (stored_at c 0) ≡ 0 + 0 + length (each reference n) = ap (λ a. size_of (stored_at a 0)) e in omega (arith, h, length_each reference n)

pub one_more : (seed n : ℕ) (x : StoredNode) (c : Arena) → c ≡ kept_node (making true seed n) x → length c.nodes ≡ suc (suc n)
one_more seed n x c e = ap (λ a. length a.nodes) e ∙ length_more (making true seed n).nodes x ∙ ap (λ k. suc k) (how_many true seed n)

pub all_closed : (seed n : ℕ) → AllByRecursion (λ m. m.is_open ≡ false) (making false seed n).nodes
all_closed seed n = (refl, objects n)
  where
    more : (xs : List StoredNode) (x : StoredNode) → AllByRecursion (λ m. m.is_open ≡ false) xs → x.is_open ≡ false → AllByRecursion (λ m. m.is_open ≡ false) (xs ++ x ∷ [])
    more [] x h e = (e, tt)
    more (y ∷ xs) x h e = (h.0, more xs x h.1 e)

    objects : (n : ℕ) → AllByRecursion (λ m. m.is_open ≡ false) (each (stored_object seed) n)
    objects zero = tt
    objects (suc n) = more (each (stored_object seed) n) (stored_object seed (suc n)) (objects n) refl

map_each : {X Y : Type 0} → (g : X → Y) (f : ℕ → X) (n : ℕ) → map g (each f n) ≡ each (λ i. g (f i)) n
map_each g f zero = refl
map_each g f (suc n) = map_more g (each f n) (f (suc n)) ∙ ap (λ ys. ys ++ g (f (suc n)) ∷ []) (map_each g f n)
  where
    map_more : {X Y : Type 0} → (g : X → Y) (xs : List X) (x : X) → map g (xs ++ x ∷ []) ≡ map g xs ++ g x ∷ []
    map_more g [] x = refl
    map_more g (y ∷ xs) x = ap (λ ys. g y ∷ ys) (map_more g xs x)

pub made_content : (seed size : ℕ) → graph_of (making false seed (size - 1)) (reference 0) ≡ made seed size
made_content seed size =
    let n = size - 1 in
    let with_nodes : List graph.Value → List graph.Node → graph.Graph = λ vs ns. record { nodes = record { head = graph.array; names = []; values = vs } ∷ ns; root = graph.node 0 } in
    ap (λ vs. with_nodes vs (map (node_content (making false seed n)) (each (stored_object seed) n))) (map_each (value_content (making false seed n)) reference n)
    ∙ ap (λ ns. with_nodes (each graph.node n) ns) (map_each (node_content (making false seed n)) (stored_object seed) n)
