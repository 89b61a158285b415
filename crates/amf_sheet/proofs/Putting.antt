-- A builder whose node gets one part after another.
use Rattle.std.proofs.Common.{◌≡◌, ℕ, ◌+◌, ◌*◌, ◌<◌, ◌≤◌, List, [], ◌∷◌, ◌++◌, length, take, get_or, sym, ap, ◌∙◌, subst, arith, length-append}
use Rattle.std.proofs.lemmas.List.{length-set, append_assoc, take_all, take_more}
use Rattle.amf_graph.specs.declared.value.Value.{Value as Stored}
use Rattle.amf_graph.specs.declared.value.TextId.{TextId}
use Rattle.amf_graph.specs.declared.part.Part.{Part}
use Rattle.amf_graph.specs.declared.part.Part.TheVariants.{Item, Named, Entry}
use Rattle.amf_graph.specs.Arena.{Arena, StoredNode, head_content, IsTextId, Names}
use Rattle.amf_graph.specs.Bodies.{TakesEntry}
use Rattle.amf_graph.specs.Building.{changed, stored_at, more_part, size_of, HasRoom}
use Rattle.amf_graph.proofs.Growth.{names_grow}
use Rattle.amf_graph.proofs.Built.{grows_changed}
use Rattle.amf_sheet.specs.Filling.{more_names, more_values, TakesItems}
use Rattle.amf_sheet.proofs.Changing.{stored_changed, names_step, values_step, entries_step, size_names, size_values, size_entries}
use Rattle.amf_sheet.proofs.Taking.{any_count, takes_item, takes_entry}

pub there_still : (f : StoredNode → StoredNode) (i : ℕ) (a b : Arena) → b ≡ changed f i a → i < length a.nodes → i < length b.nodes
there_still f i a b e l = subst (λ (x : Arena). i < length x.nodes) (sym e) (omega (arith, length-set a.nodes i (f (stored_at a i))))

pub stored_is : (f : StoredNode → StoredNode) (i : ℕ) (a b : Arena) → b ≡ changed f i a → i < length a.nodes → stored_at b i ≡ f (stored_at a i)
stored_is f i a b e l = ap (λ (x : Arena). stored_at x i) e ∙ stored_changed f i a l

pub names_still : (f : StoredNode → StoredNode) (i : ℕ) (a b : Arena) (v : Stored) → b ≡ changed f i a → Names a v → Names b v
names_still f i a b v e h = subst (λ (x : Arena). Names x v) (sym e) (names_grow a (changed f i a) (grows_changed a f i) v h)

pub text_still : (f : StoredNode → StoredNode) (i : ℕ) (a b : Arena) (x : ℕ) → b ≡ changed f i a → IsTextId a x → IsTextId b x
text_still f i a b x e h = subst (λ (y : Arena). IsTextId y x) (sym e) h

-- the node takes the part if it does so once it is changed
room_is : (f : StoredNode → StoredNode) (i : ℕ) (a b : Arena) (p : Part) → b ≡ changed f i a → i < length a.nodes → HasRoom (changed f i a) (f (stored_at a i)) p → HasRoom b (stored_at b i) p
room_is f i a b p e l h =
    subst (λ (x : Arena). HasRoom x (stored_at x i) p) (sym e) (subst (λ n. HasRoom (changed f i a) n p) (sym (stored_changed f i a l)) h)

-- Names.

pub name_room : (ps : List (TextId × Stored)) (i : ℕ) (a b : Arena) (x : TextId) (v : Stored) → b ≡ changed (more_names ps) i a → i < length a.nodes → HasRoom a (stored_at a i) (Named x v) → HasRoom b (stored_at b i) (Named x v)
name_room ps i a b x v e l h = room_is (more_names ps) i a b (Named x v) e l (any_count (head_content a (stored_at a i).head) _ _ x v h)

pub names_size : (ps : List (TextId × Stored)) (i : ℕ) (a b : Arena) (n : ℕ) → b ≡ changed (more_names ps) i a → i < length a.nodes → size_of (stored_at a i) + n < 268435456 → length ps < n → size_of (stored_at b i) < 268435455
names_size ps i a b n e l h k = omega (arith, ap size_of (stored_is (more_names ps) i a b e l), size_names ps (stored_at a i))

pub names_more : (i : ℕ) (a b b' : Arena) (ps : List (TextId × Stored)) (k : ℕ) (d : TextId × Stored) → k < length ps → i < length a.nodes → b ≡ changed (more_names (take k ps)) i a
    → b' ≡ changed (more_part (Named (get_or ps k d).0 (get_or ps k d).1)) i b → b' ≡ changed (more_names (take (k + 1) ps)) i a
names_more i a b b' ps k d l m e f =
    f ∙ ap (changed (more_part (Named (get_or ps k d).0 (get_or ps k d).1)) i) e ∙ names_step i a (take k ps) (get_or ps k d) m ∙ ap (λ w. changed (more_names w) i a) (sym (take_more ps k d l))

pub names_all : (i : ℕ) (a b : Arena) (ps : List (TextId × Stored)) (k : ℕ) → length ps ≤ k → b ≡ changed (more_names (take k ps)) i a → b ≡ changed (more_names ps) i a
names_all i a b ps k l e = e ∙ ap (λ w. changed (more_names w) i a) (take_all k ps l)

-- Values.

pub item_room : (vs : List Stored) (i : ℕ) (a b : Arena) (v : Stored) (n : ℕ) → b ≡ changed (more_values vs) i a → i < length a.nodes
    → TakesItems (head_content a (stored_at a i).head) (length (stored_at a i).values + n) → length vs < n → HasRoom b (stored_at b i) (Item v)
item_room vs i a b v n e l h k =
    room_is (more_values vs) i a b (Item v) e l
    (takes_item (head_content a (stored_at a i).head) (length ((stored_at a i).values ++ vs)) (length (stored_at a i).values + n) v h (omega (arith, length-append (stored_at a i).values vs)))

pub values_size : (vs : List Stored) (i : ℕ) (a b : Arena) (n : ℕ) → b ≡ changed (more_values vs) i a → i < length a.nodes → size_of (stored_at a i) + n < 268435456 → length vs < n → size_of (stored_at b i) < 268435455
values_size vs i a b n e l h k = omega (arith, ap size_of (stored_is (more_values vs) i a b e l), size_values vs (stored_at a i))

pub values_more : (i : ℕ) (a b b' : Arena) (vs : List Stored) (k : ℕ) (d : Stored) → k < length vs → i < length a.nodes → b ≡ changed (more_values (take k vs)) i a
    → b' ≡ changed (more_part (Item (get_or vs k d))) i b → b' ≡ changed (more_values (take (k + 1) vs)) i a
values_more i a b b' vs k d l m e f =
    f ∙ ap (changed (more_part (Item (get_or vs k d))) i) e ∙ values_step i a (take k vs) (get_or vs k d) m ∙ ap (λ w. changed (more_values w) i a) (sym (take_more vs k d l))

pub values_all : (i : ℕ) (a b : Arena) (vs : List Stored) (k : ℕ) → length vs ≤ k → b ≡ changed (more_values (take k vs)) i a → b ≡ changed (more_values vs) i a
values_all i a b vs k l e = e ∙ ap (λ w. changed (more_values w) i a) (take_all k vs l)

-- Entries.

pub entry_room : (vs : List Stored) (i : ℕ) (a b : Arena) (k v : Stored) → b ≡ changed (more_values vs) i a → i < length a.nodes → TakesEntry (stored_at a i).head → HasRoom b (stored_at b i) (Entry k v)
entry_room vs i a b k v e l h = room_is (more_values vs) i a b (Entry k v) e l (takes_entry a (stored_at a i).head _ k v h)

pub entries_size : (vs ws : List Stored) (i : ℕ) (a b : Arena) → b ≡ changed (more_values vs) i a → i < length a.nodes → TakesEntry (stored_at a i).head → size_of (more_values ws (stored_at a i)) < 268435456 → length vs + 2 ≤ length ws
    → size_of (stored_at b i) < 268435455
entries_size vs ws i a b e l t h k = omega (arith, ap size_of (stored_is (more_values vs) i a b e l), size_entries vs ws (stored_at a i) t k)

two_more : (vs : List Stored) (n m : ℕ) (d : Stored) → m ≡ n + 2 → n + 1 < length vs → take n vs ++ get_or vs n d ∷ get_or vs (n + 1) d ∷ [] ≡ take m vs
two_more vs n m d e l =
    sym (append_assoc (take n vs) (get_or vs n d ∷ []) (get_or vs (n + 1) d ∷ [])) ∙ ap (λ w. w ++ get_or vs (n + 1) d ∷ []) (sym (take_more vs n d (omega arith))) ∙ sym (take_more vs (n + 1) d l)
    ∙ ap (λ k. take k vs) (let f : n + 1 + 1 ≡ m = omega arith in f)

pub entries_more : (i : ℕ) (a b b' : Arena) (vs : List Stored) (k : ℕ) (d : Stored) → 2 * k + 1 < length vs → i < length a.nodes → b ≡ changed (more_values (take (2 * k) vs)) i a
    → b' ≡ changed (more_part (Entry (get_or vs (2 * k) d) (get_or vs (2 * k + 1) d))) i b → b' ≡ changed (more_values (take (2 * (k + 1)) vs)) i a
entries_more i a b b' vs k d l m e f =
    f ∙ ap (changed (more_part (Entry (get_or vs (2 * k) d) (get_or vs (2 * k + 1) d))) i) e ∙ entries_step i a (take (2 * k) vs) (get_or vs (2 * k) d) (get_or vs (2 * k + 1) d) m
    ∙ ap (λ w. changed (more_values w) i a) (two_more vs (2 * k) (2 * (k + 1)) d (omega arith) l)
