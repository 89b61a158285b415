-- Tables into which nodes are entered.
use Rattle.std.proofs.Common.{◌≡◌, ℕ, zero, suc, ◌+◌, Bool, true, false, cond, List, [], ◌∷◌, ◌++◌, length, take, slice_get, Some, sym, refl, ap, ◌∙◌, subst, arith, append_assoc, append-nil, length-append}
use Rattle.std.proofs.lemmas.List.{map-append}
use Rattle.amf_graph.specs.declared.value.NodeId.{NodeId}
use Rattle.amf_graph.specs.Graph.{Graph, node_at}
use Rattle.amf_graph.specs.Renumbered.{numbers_of}
use Rattle.amf_graph.proofs.Lists.{no_entry}
use Rattle.amf0_spelling.specs.Lacks0.{enters0, entered}
use Rattle.amf0_spelling.specs.Tables0.{Tables0, add_node0, add_done0}
use Rattle.amf0_spelling.proofs.Entered.{entered_at, entered_enters, entered_distinct, right_at}
use Rattle.amf0_write.specs.declared.output.Output.{Output}
use Rattle.amf0_write.specs.PartLacks0.{outside_of}
use Rattle.amf0_write.specs.Written0.{AreTables0}
use Rattle.amf0_write.specs.Writes0.{tables_of, done_of, Still, unentered, Grown}

pub entered_append : (g : Graph) (xs ys : List ℕ) → entered g (xs ++ ys) ≡ entered g xs ++ entered g ys
entered_append g [] ys = refl
entered_append g (x ∷ xs) ys = go (enters0 (node_at g x).head) (entered_append g xs ys)
  where
    go : (b : Bool) → entered g (xs ++ ys) ≡ entered g xs ++ entered g ys → cond b (x ∷ entered g (xs ++ ys)) (entered g (xs ++ ys)) ≡ cond b (x ∷ entered g xs) (entered g xs) ++ entered g ys
    go true e = ap (λ w. x ∷ w) e
    go false e = e

unentered_append : (g : Graph) (xs ys : List ℕ) → unentered g (xs ++ ys) ≡ unentered g xs ++ unentered g ys
unentered_append g [] ys = refl
unentered_append g (x ∷ xs) ys = go (enters0 (node_at g x).head) (unentered_append g xs ys)
  where
    go : (b : Bool) → unentered g (xs ++ ys) ≡ unentered g xs ++ unentered g ys → cond b (unentered g (xs ++ ys)) (x ∷ unentered g (xs ++ ys)) ≡ cond b (unentered g xs) (x ∷ unentered g xs) ++ unentered g ys
    go true e = e
    go false e = ap (λ w. x ∷ w) e

pub entered_in : (g : Graph) (xs : List ℕ) (k i : ℕ) → slice_get (entered g xs) k ≡ Some i → (l : ℕ) × (slice_get xs l ≡ Some i)
entered_in g [] k i e = absurd (no_entry k i e)
entered_in g (x ∷ xs) k i e = go (enters0 (node_at g x).head) (entered_in g xs) k e
  where
    go : (b : Bool) → ((k i : ℕ) → slice_get (entered g xs) k ≡ Some i → (l : ℕ) × (slice_get xs l ≡ Some i)) → (k : ℕ) → slice_get (cond b (x ∷ entered g xs) (entered g xs)) k ≡ Some i → (l : ℕ) × (slice_get (x ∷ xs) l ≡ Some i)
    go true r zero e = (0, e)
    go true r (suc k) e = let o = r k i e in (suc o.0, o.1)
    go false r k e = let o = r k i e in (suc o.0, o.1)

-- Tables of which some first nodes are in none.

pub count_outside : (g : Graph) (t : Tables0) (s : AreTables0 g t) → outside_of g t ≡ length s.outside
count_outside g t s = let all : length (entered g t.amf3.done) ≡ length s.outside + length t.nodes = ap length (sym s.level) ∙ length-append s.outside t.nodes in omega (arith, all)

-- how many that can be named come before the node of a place
pub rank_is : (g : Graph) (t : Tables0) (s : AreTables0 g t) (place k i : ℕ) → slice_get t.nodes place ≡ Some i → slice_get t.amf3.done k ≡ Some i → length (entered g (take k t.amf3.done)) ≡ length s.outside + place
rank_is g t s place k i at e =
    let d = t.amf3.done in
    let there : slice_get (entered g d) (length s.outside + place) ≡ Some i = subst (λ w. slice_get w (length s.outside + place) ≡ Some i) s.level (right_at s.outside t.nodes place i at) in
    entered_distinct g d s.once (length (entered g (take k d))) (length s.outside + place) i (entered_at g d k i e (entered_enters g d (length s.outside + place) i there)) there

-- What grows.

module _ (g : Graph) where
  pub grown_still : (o m : Output) → Still o m → Grown g o m
  grown_still o m (e, f) = record {
    more = [];
    done = ap (λ (t : Tables0). t.amf3.done) e ∙ sym (append-nil (done_of o));
    nodes = ap (λ (t : Tables0). t.nodes) e ∙ sym (append-nil (tables_of o).nodes);
    loose = ap numbers_of f ∙ sym (append-nil (numbers_of o.loose.items));
  }

  pub grown_then : (o m n : Output) → Grown g o m → Grown g m n → Grown g o n
  grown_then o m n h k = record {
    more = h.more ++ k.more;
    done = k.done ∙ ap (λ w. w ++ k.more) h.done ∙ append_assoc (done_of o) h.more k.more;
    nodes = k.nodes ∙ ap (λ w. w ++ entered g k.more) h.nodes ∙ append_assoc (tables_of o).nodes (entered g h.more) (entered g k.more) ∙ ap (λ w. (tables_of o).nodes ++ w) (sym (entered_append g h.more k.more));
    loose = k.loose ∙ ap (λ w. w ++ unentered g k.more) h.loose ∙ append_assoc (numbers_of o.loose.items) (unentered g h.more) (unentered g k.more) ∙ ap (λ w. numbers_of o.loose.items ++ w) (sym (unentered_append g h.more k.more));
  }

  pub grown_node : (i : ℕ) (o n : Output) → enters0 (node_at g i).head ≡ true → tables_of n ≡ add_node0 (tables_of o) i → n.loose.items ≡ o.loose.items → Grown g o n
  grown_node i o n enters e f = record {
    more = i ∷ [];
    done = ap (λ (t : Tables0). t.amf3.done) e;
    nodes = ap (λ (t : Tables0). t.nodes) e ∙ ap (λ b. (tables_of o).nodes ++ cond b (i ∷ []) []) (sym enters);
    loose = ap numbers_of f ∙ sym (append-nil (numbers_of o.loose.items)) ∙ ap (λ b. numbers_of o.loose.items ++ cond b [] (i ∷ [])) (sym enters);
  }

  pub grown_loose : (i : ℕ) (o n : Output) (id : NodeId) → id.0 ≡ i → enters0 (node_at g i).head ≡ false → tables_of n ≡ add_done0 (tables_of o) i → n.loose.items ≡ o.loose.items ++ id ∷ [] → Grown g o n
  grown_loose i o n id same enters e f = record {
    more = i ∷ [];
    done = ap (λ (t : Tables0). t.amf3.done) e;
    nodes = ap (λ (t : Tables0). t.nodes) e ∙ sym (append-nil (tables_of o).nodes) ∙ ap (λ b. (tables_of o).nodes ++ cond b (i ∷ []) []) (sym enters);
    loose = ap numbers_of f ∙ map-append (λ (x : NodeId). x.0) o.loose.items (id ∷ []) ∙ ap (λ k. numbers_of o.loose.items ++ k ∷ []) same ∙ ap (λ b. numbers_of o.loose.items ++ cond b [] (i ∷ [])) (sym enters);
  }

  pub same_outside : (o m : Output) → Grown g o m → outside_of g (tables_of m) ≡ outside_of g (tables_of o)
  same_outside o m h =
      let a : length (entered g (done_of m)) ≡ length (entered g (done_of o)) + length (entered g h.more) = ap (λ w. length (entered g w)) h.done ∙ ap length (entered_append g (done_of o) h.more) ∙ length-append (entered g (done_of o)) (entered g h.more) in
      let b : length (tables_of m).nodes ≡ length (tables_of o).nodes + length (entered g h.more) = ap length h.nodes ∙ length-append (tables_of o).nodes (entered g h.more) in
      omega (arith, a, b)
