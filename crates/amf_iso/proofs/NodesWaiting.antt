-- The nodes among values, by their numbers.
use Rattle.std.proofs.Common.{◌≡◌, ℕ, ◌+◌, ◌<◌, false, List, [], ◌∷◌, ◌++◌, length, reverse, take, get_or, refl, sym, ap, ◌∙◌, append_assoc, add-one}
use Rattle.std.specs.List.{AllByRecursion}
use Rattle.std.proofs.Math.Seq.{take-suc}
use Rattle.std.proofs.lemmas.List.{map-append, reverse-append, append-nil}
use Rattle.amf_graph.specs.declared.value.Value.{Value as Stored}
use Rattle.amf_graph.specs.declared.value.Value.TheVariants.{Node as NodeRef}
use Rattle.amf_graph.specs.declared.value.TextId.{TextId}
use Rattle.amf_graph.specs.Graph as graph
use Rattle.amf_graph.specs.Arena.{Arena, StoredHead, array, object, head_content, value_content, graph_of}
use Rattle.amf_graph.specs.Building.{stored_at, closed}
use Rattle.amf_graph.specs.ByName.{by_name}
use Rattle.amf_graph.specs.Order.{is_array, seconds, values_met}
use Rattle.amf_graph.specs.Views.{named, flat}
use Rattle.amf_graph.proofs.NameOrder.{by_name_all}
use Rattle.amf_iso.specs.Contents.{values_of, pairs_of}
use Rattle.amf_iso.specs.Waiting.{node_of, nodes_of, seconds_of, number_of, node_numbers}
use Rattle.amf_iso.proofs.Entries.{entry_more}
use Rattle.amf_iso.proofs.MetValues.{seconds_content, shown, met_values}

-- one at most, so it reads the same from behind
pub node_back : (v : Stored) → reverse (node_of v) ≡ node_of v
node_back (NodeRef n) = refl
node_back _ = refl

nodes_append : (vs ws : List Stored) → nodes_of (vs ++ ws) ≡ nodes_of vs ++ nodes_of ws
nodes_append [] ws = refl
nodes_append (v ∷ vs) ws = ap (λ w. node_of v ++ w) (nodes_append vs ws) ∙ sym (append_assoc (node_of v) (nodes_of vs) (nodes_of ws))

nodes_push : (vs : List Stored) (v : Stored) → reverse (nodes_of (vs ++ v ∷ [])) ≡ node_of v ++ reverse (nodes_of vs)
nodes_push vs v =
    ap reverse (nodes_append vs (v ∷ []) ∙ ap (λ w. nodes_of vs ++ w) (append-nil (node_of v))) ∙ reverse-append (nodes_of vs) (node_of v) ∙ ap (λ w. w ++ reverse (nodes_of vs)) (node_back v)

pub value_more : (vs : List Stored) (i : ℕ) (d : Stored) → i < length vs → reverse (nodes_of (take (i + 1) vs)) ≡ node_of (get_or vs i d) ++ reverse (nodes_of (take i vs))
value_more vs i d l = rw (add-one, take-suc vs i d l) (nodes_push (take i vs) (get_or vs i d))

pub pair_more : (ps : List (TextId × Stored)) (i : ℕ) (d : TextId × Stored) → i < length ps → reverse (nodes_of (seconds_of (take (i + 1) ps))) ≡ node_of (get_or ps i d).1 ++ reverse (nodes_of (seconds_of (take i ps)))
pair_more ps i d l = rw (add-one, take-suc ps i d l, map-append) (nodes_push (seconds_of (take i ps)) (get_or ps i d).1)

pub entry_nodes_more : (es : List (Stored × Stored)) (i : ℕ) (d : Stored × Stored) → i < length es → reverse (nodes_of (flat (take (i + 1) es))) ≡ node_of (get_or es i d).1 ++ (node_of (get_or es i d).0 ++ reverse (nodes_of (flat (take i es))))
entry_nodes_more es i d l =
    let k = (get_or es i d).0 in
    let v = (get_or es i d).1 in
    let front = flat (take i es) in
    ap (λ w. reverse (nodes_of w)) (entry_more es i d l ∙ sym (append_assoc front (k ∷ []) (v ∷ []))) ∙ nodes_push (front ++ k ∷ []) v ∙ ap (λ w. node_of v ++ w) (nodes_push front k)

-- By content.

pub node_content_of : (a : Arena) (v : Stored) → node_of v ≡ number_of (value_content a v)
node_content_of a (NodeRef n) = refl
node_content_of a _ = refl

pub nodes_content : (a : Arena) (vs : List Stored) → nodes_of vs ≡ node_numbers (values_of a vs)
nodes_content a [] = refl
nodes_content a (v ∷ vs) = ap (λ w. w ++ nodes_of vs) (node_content_of a v) ∙ ap (λ w. number_of (value_content a v) ++ w) (nodes_content a vs)

pub second_nodes_content : (a : Arena) (ps : List (TextId × Stored)) → nodes_of (seconds_of ps) ≡ node_numbers (seconds (pairs_of a ps))
second_nodes_content a ps = nodes_content a (seconds_of ps) ∙ ap node_numbers (seconds_content a ps)

pub numbers_append : (vs ws : List graph.Value) → node_numbers (vs ++ ws) ≡ node_numbers vs ++ node_numbers ws
numbers_append [] ws = refl
numbers_append (v ∷ vs) ws = ap (λ w. number_of v ++ w) (numbers_append vs ws) ∙ sym (append_assoc (number_of v) (node_numbers vs) (node_numbers ws))

nil_left : {X : Type 0} (xs ys : List X) → xs ++ ys ≡ [] → xs ≡ []
nil_left [] ys e = refl
nil_left (x ∷ xs) ys e = cc

nil_right : {X : Type 0} (xs ys : List X) → xs ++ ys ≡ [] → ys ≡ []
nil_right [] ys e = e
nil_right (x ∷ xs) ys e = cc

abbrev NoNode : List ℕ × graph.Value → Type 0
NoNode p = number_of p.1 ≡ []

none_each : (ps : List (List ℕ × graph.Value)) → node_numbers (seconds ps) ≡ [] → AllByRecursion NoNode ps
none_each [] e = tt
none_each (p ∷ ps) e = (nil_left (number_of p.1) (node_numbers (seconds ps)) e, none_each ps (nil_right (number_of p.1) (node_numbers (seconds ps)) e))

each_none : (ps : List (List ℕ × graph.Value)) → AllByRecursion NoNode ps → node_numbers (seconds ps) ≡ []
each_none [] h = refl
each_none (p ∷ ps) h = ap (λ w. w ++ node_numbers (seconds ps)) h.0 ∙ each_none ps h.1

-- where there are none, there are none in another order
pub none_by_name : (ps : List (List ℕ × graph.Value)) → node_numbers (seconds ps) ≡ [] → node_numbers (seconds (by_name ps)) ≡ []
none_by_name ps e = each_none (by_name ps) (by_name_all NoNode ps (none_each ps e))

-- One step of each loop, from behind.

step : (old new more front back all : List ℕ) → new ≡ old ++ more → back ≡ more ++ front → old ++ back ≡ all → new ++ front ≡ all
step old new more front back all e f h = ap (λ w. w ++ front) e ∙ append_assoc old more front ∙ ap (λ w. old ++ w) (sym f) ∙ h

pub value_step : (vs : List Stored) (n k : ℕ) (d : Stored) (old new all : List ℕ) → k + 1 ≡ n → k < length vs → new ≡ old ++ node_of (get_or vs k d) → old ++ reverse (nodes_of (take n vs)) ≡ all → new ++ reverse (nodes_of (take k vs)) ≡ all
value_step vs n k d old new all p l e h =
    step old new (node_of (get_or vs k d)) (reverse (nodes_of (take k vs))) (reverse (nodes_of (take n vs))) all e (ap (λ j. reverse (nodes_of (take j vs))) (sym p) ∙ value_more vs k d l) h

pub pair_step : (ps : List (TextId × Stored)) (n k : ℕ) (d : TextId × Stored) (old new all : List ℕ) → k + 1 ≡ n → k < length ps → new ≡ old ++ node_of (get_or ps k d).1 → old ++ reverse (nodes_of (seconds_of (take n ps))) ≡ all → new ++ reverse (nodes_of (seconds_of (take k ps))) ≡ all
pair_step ps n k d old new all p l e h =
    step old new (node_of (get_or ps k d).1) (reverse (nodes_of (seconds_of (take k ps)))) (reverse (nodes_of (seconds_of (take n ps)))) all e (ap (λ j. reverse (nodes_of (seconds_of (take j ps)))) (sym p) ∙ pair_more ps k d l) h

pub entry_step : (es : List (Stored × Stored)) (n k : ℕ) (d : Stored × Stored) (old mid new all : List ℕ) → k + 1 ≡ n → k < length es → mid ≡ old ++ node_of (get_or es k d).1 → new ≡ mid ++ node_of (get_or es k d).0 → old ++ reverse (nodes_of (flat (take n es))) ≡ all → new ++ reverse (nodes_of (flat (take k es))) ≡ all
entry_step es n k d old mid new all p l e f h =
    let front = reverse (nodes_of (flat (take k es))) in
    let key = node_of (get_or es k d).0 in
    let back : reverse (nodes_of (flat (take n es))) ≡ node_of (get_or es k d).1 ++ (key ++ front) = ap (λ j. reverse (nodes_of (flat (take j es)))) (sym p) ∙ entry_nodes_more es k d l in
    step mid new key front (key ++ front) all f refl (step old mid (node_of (get_or es k d).1) (key ++ front) (reverse (nodes_of (flat (take n es)))) all e back h)

pub none_more : (ps : List (TextId × Stored)) (i : ℕ) (d : TextId × Stored) → i < length ps → node_of (get_or ps i d).1 ≡ [] → nodes_of (seconds_of (take i ps)) ≡ [] → nodes_of (seconds_of (take (i + 1) ps)) ≡ []
none_more ps i d l e h =
    rw (add-one, take-suc ps i d l, map-append) (nodes_append (seconds_of (take i ps)) ((get_or ps i d).1 ∷ []) ∙ ap (λ w. w ++ nodes_of ((get_or ps i d).1 ∷ [])) h ∙ append-nil (node_of (get_or ps i d).1) ∙ e)

-- The nodes of what is met first lie on top.

pub both_waiting : (xs ys : List graph.Value) (old mid new : List ℕ) → mid ≡ old ++ reverse (node_numbers ys) → new ≡ mid ++ reverse (node_numbers xs) → new ≡ old ++ reverse (node_numbers (xs ++ ys))
both_waiting xs ys old mid new e f =
    f ∙ ap (λ w. w ++ reverse (node_numbers xs)) e ∙ append_assoc old (reverse (node_numbers ys)) (reverse (node_numbers xs))
    ∙ ap (λ w. old ++ w) (sym (ap reverse (numbers_append xs ys) ∙ reverse-append (node_numbers xs) (node_numbers ys)))

module _ (a : Arena) (root : Stored) (i : ℕ) where
  abbrev met : List graph.Value
  met = values_met (graph.node_at (graph_of a root) i)

  pub array_waiting : (items : List Stored) (names : List (TextId × Stored)) (old mid new : List ℕ) → stored_at a i ≡ closed array (named names) items → mid ≡ old ++ reverse (nodes_of items) → new ≡ mid ++ reverse (node_numbers (seconds (by_name (pairs_of a names)))) → new ≡ old ++ reverse (node_numbers met)
  array_waiting items names old mid new s e f =
      both_waiting (seconds (by_name (pairs_of a names))) (values_of a items) old mid new (e ∙ ap (λ w. old ++ reverse w) (nodes_content a items)) f
      ∙ ap (λ w. old ++ reverse (node_numbers w)) (sym (ap values_met (shown a root i (closed array (named names) items) s)))

  pub object_waiting : (t : ℕ) (sealed : List Stored) (members : List (TextId × Stored)) (old mid new : List ℕ) → stored_at a i ≡ closed (object t) (named members) sealed → mid ≡ old ++ reverse (node_numbers (seconds (by_name (pairs_of a members)))) → new ≡ mid ++ reverse (nodes_of sealed) → new ≡ old ++ reverse (node_numbers met)
  object_waiting t sealed members old mid new s e f =
      both_waiting (values_of a sealed) (seconds (by_name (pairs_of a members))) old mid new e (f ∙ ap (λ w. mid ++ reverse w) (nodes_content a sealed))
      ∙ ap (λ w. old ++ reverse (node_numbers w)) (sym (ap values_met (shown a root i (closed (object t) (named members) sealed) s)))

  pub values_waiting : (h : StoredHead) (vs : List Stored) (old new : List ℕ) → is_array (head_content a h) ≡ false → stored_at a i ≡ closed h [] vs → new ≡ old ++ reverse (nodes_of vs) → new ≡ old ++ reverse (node_numbers met)
  values_waiting h vs old new b s e = e ∙ ap (λ w. old ++ reverse w) (nodes_content a vs ∙ ap node_numbers (met_values a root i h vs b s))
