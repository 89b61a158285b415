-- Members are looked up alike in nodes that match, and so requests are viewed alike.
use Rattle.std.proofs.Common.{◌≡◌, ℕ, Bool, true, false, cond, if◌then◌else◌, List, [], ◌∷◌, ◌++◌, Option, Some, None, sym, refl, ap, ◌∙◌, subst}
use Rattle.std.specs.Prelude.{bytes_eq}
use Rattle.std.specs.List.{AllZip}
use Rattle.std.specs.Cmp.{IsStrictWeakOrder}
use Rattle.std.specs.Ordering.{is_lt, nat_cmp}
use Rattle.std.specs.Cmp.Lexicographic.{slice_cmp}
use Rattle.std.proofs.lemmas.Cmp.{nat_list_cmp_total}
use Rattle.std.proofs.lemmas.List.Sorted.{ranks_by}
use Rattle.std.proofs.lemmas.Slice.Eq.{bytes_eq-Decides}
use Rattle.amf_graph.specs.Graph.{Leaf, Value, leaf, node, undefined, null, boolean, integer, double, text, Traits, Head, array, object, Node, Graph, node_at}
use Rattle.amf_graph.specs.ByName.{before, by_name, insert_stable}
use Rattle.amf_graph.specs.Isomorphic.{ValuesMatch, PairsMatch, NodesMatch, StandIn, Isomorphic}
use Rattle.flex_msgs.specs.declared.request.Member.{Member}
use Rattle.flex_msgs.specs.declared.request.Member.TheVariants as member
use Rattle.flex_msgs.specs.Lookup.{last_or, value_named, sealed_pairs, members_of, pairs_by_kind, pairs_of}
use Rattle.flex_msgs.specs.declared.class.Served.{Served}
use Rattle.flex_msgs.specs.declared.class.Served.TheVariants as served
use Rattle.flex_msgs.specs.Classes.{served_class, body_name, client_name, destination_name, headers_name, message_name, correlation_name, operation_name, ds_id_name, subtopic_name}
use Rattle.flex_msgs.specs.Asked.{Told, remoting, command, async, Viewed, request}
use Rattle.flex_msgs.specs.Viewing.{text_or_null, text_alone, whole_number, or_wrong, common_view, served_view, kind_view, value_view}
use Rattle.flex_msgs.specs.FlexLaws.{ToldMatch, ViewedMatch, ViewLaw}

-- What is last in by-name order is last.

abbrev pick : List ℕ → List ℕ × Value → Value → Value
pick x p v = if bytes_eq p.0 x then p.1 else v

before_ranks : IsStrictWeakOrder before
before_ranks = ranks_by nat_list_cmp_total (λ p. p.0)

never : (p q : List ℕ × Value) → before q p ≡ true → p.0 ≡ q.0 → ⊥
never p q b e =
    let back : before p q ≡ before q p = ap (λ z. is_lt (slice_cmp nat_cmp z q.0)) e ∙ ap (λ z. is_lt (slice_cmp nat_cmp q.0 z)) (sym e) in
    let f : before p q ≡ false = before_ranks.one_way q p b in
    let z : true ≡ false = sym b ∙ sym back ∙ f in
    cc

picks : (x : List ℕ) (p q : List ℕ × Value) (v : Value) → before q p ≡ true → pick x p (pick x q v) ≡ pick x q (pick x p v)
picks x p q v b = go (bytes_eq p.0 x) (bytes_eq q.0 x) refl refl
  where
    go : (s t : Bool) → bytes_eq p.0 x ≡ s → bytes_eq q.0 x ≡ t → (if s then p.1 else (if t then q.1 else v)) ≡ (if t then q.1 else (if s then p.1 else v))
    go true true e f = absurd (never p q b ((bytes_eq-Decides p.0 x).0 e ∙ sym ((bytes_eq-Decides q.0 x).0 f)))
    go true false e f = refl
    go false true e f = refl
    go false false e f = refl

insert_last : (x : List ℕ) (v : Value) (p : List ℕ × Value) (qs : List (List ℕ × Value)) → last_or v x (insert_stable before p qs) ≡ last_or (pick x p v) x qs
insert_last x v p [] = refl
insert_last x v p (q ∷ qs) = go (before q p) refl (insert_last x (pick x q v) p qs)
  where
    go : (t : Bool) → before q p ≡ t → last_or (pick x q v) x (insert_stable before p qs) ≡ last_or (pick x p (pick x q v)) x qs → last_or v x (cond t (q ∷ insert_stable before p qs) (p ∷ q ∷ qs)) ≡ last_or (pick x q (pick x p v)) x qs
    go true e h = h ∙ ap (λ w. last_or w x qs) (picks x p q v e)
    go false e h = refl

sorted_last : (x : List ℕ) (v : Value) (ps : List (List ℕ × Value)) → last_or v x (by_name ps) ≡ last_or v x ps
sorted_last x v [] = refl
sorted_last x v (p ∷ ps) = insert_last x v p (by_name ps) ∙ sorted_last x (pick x p v) ps

append_last : (x : List ℕ) (v : Value) (ps qs : List (List ℕ × Value)) → last_or v x (ps ++ qs) ≡ last_or (last_or v x ps) x qs
append_last x v [] qs = refl
append_last x v (p ∷ ps) qs = append_last x (pick x p v) ps qs

abbrev pub BothOr : {X : Type 0} → (X → X → Type 0) → Option X → Option X → Type 0
BothOr R None None = Unit {0}
BothOr R (Some x) (Some y) = R x y
BothOr R _ _ = ⊥

module _ (P : ℕ → ℕ → Type 0) where
  -- what is looked up in the two lists matches, whatever stands for an absent member
  abbrev pub Alike : List (List ℕ × Value) → List (List ℕ × Value) → Type 0
  Alike ps qs = (x : List ℕ) (v w : Value) → ValuesMatch P v w → ValuesMatch P (last_or v x ps) (last_or w x qs)

  pick_match : (x : List ℕ) (p q : List ℕ × Value) (v w : Value) → PairsMatch P p q → ValuesMatch P v w → ValuesMatch P (pick x p v) (pick x q w)
  pick_match x p q v w m n = subst (λ z. ValuesMatch P (pick x p v) (if bytes_eq z x then q.1 else w)) m.0 (go (bytes_eq p.0 x))
    where
      go : (t : Bool) → ValuesMatch P (if t then p.1 else v) (if t then q.1 else w)
      go true = m.1
      go false = n

  zip_alike : (ps qs : List (List ℕ × Value)) → AllZip (PairsMatch P) ps qs → Alike ps qs
  zip_alike [] [] m x v w n = n
  zip_alike [] (q ∷ qs) m x v w n = elim m [ ]
  zip_alike (p ∷ ps) [] m x v w n = elim m [ ]
  zip_alike (p ∷ ps) (q ∷ qs) m x v w n = zip_alike ps qs m.1 x (pick x p v) (pick x q w) (pick_match x p q v w m.0 n)

  -- names in any order, equal ones in theirs
  names_alike : (ps qs : List (List ℕ × Value)) → AllZip (PairsMatch P) (by_name ps) (by_name qs) → Alike ps qs
  names_alike ps qs m x v w n =
      subst (λ z. ValuesMatch P z (last_or w x qs)) (sorted_last x v ps)
      (subst (λ z. ValuesMatch P (last_or v x (by_name ps)) z) (sorted_last x w qs) (zip_alike (by_name ps) (by_name qs) m x v w n))

  sealed_match : (xs : List (List ℕ)) (vs ws : List Value) → AllZip (ValuesMatch P) vs ws → AllZip (PairsMatch P) (sealed_pairs xs vs) (sealed_pairs xs ws)
  sealed_match [] vs ws m = tt
  sealed_match (x ∷ xs) [] [] m = tt
  sealed_match (x ∷ xs) [] (w ∷ ws) m = elim m [ ]
  sealed_match (x ∷ xs) (v ∷ vs) [] m = elim m [ ]
  sealed_match (x ∷ xs) (v ∷ vs) (w ∷ ws) m = ((refl, m.0), sealed_match xs vs ws m.1)

  pub members_alike : (t : Traits) (a b : Node) → NodesMatch P a b → Alike (members_of t a) (members_of t b)
  members_alike t a b m x v w n =
      let s = zip_alike (sealed_pairs t.sealed a.values) (sealed_pairs t.sealed b.values) (sealed_match t.sealed a.values b.values m.values) x v w n in
      let r = names_alike a.names b.names m.names x (last_or v x (sealed_pairs t.sealed a.values)) (last_or w x (sealed_pairs t.sealed b.values)) s in
      subst (λ z. ValuesMatch P z (last_or w x (members_of t b))) (sym (append_last x v (sealed_pairs t.sealed a.values) a.names))
      (subst (λ z. ValuesMatch P (last_or (last_or v x (sealed_pairs t.sealed a.values)) x a.names) z) (sym (append_last x w (sealed_pairs t.sealed b.values) b.names)) r)

  pub found : (ps qs : List (List ℕ × Value)) → Alike ps qs → (x : List ℕ) → ValuesMatch P (value_named x ps) (value_named x qs)
  found ps qs h x = h x (leaf null) (leaf null) refl

  kind_alike : (d : Head) (a b : Node) → NodesMatch P a b → BothOr Alike (pairs_by_kind d a) (pairs_by_kind d b)
  kind_alike array a b m = names_alike a.names b.names m.names
  kind_alike (object t) a b m = members_alike t a b m
  kind_alike _ a b m = tt

  -- Kinds of values that match.

  same_text : (v w : Value) → ValuesMatch P v w → text_or_null v ≡ text_or_null w
  same_text (leaf x) (leaf y) m = ap (λ z. text_or_null (leaf z)) m
  same_text (leaf x) (node j) m = elim m [ ]
  same_text (node i) (leaf y) m = elim m [ ]
  same_text (node i) (node j) m = refl

  same_alone : (v w : Value) → ValuesMatch P v w → text_alone v ≡ text_alone w
  same_alone (leaf x) (leaf y) m = ap (λ z. text_alone (leaf z)) m
  same_alone (leaf x) (node j) m = elim m [ ]
  same_alone (node i) (leaf y) m = elim m [ ]
  same_alone (node i) (node j) m = refl

  same_number : (v w : Value) → ValuesMatch P v w → whole_number v ≡ whole_number w
  same_number (leaf x) (leaf y) m = ap (λ z. whole_number (leaf z)) m
  same_number (leaf x) (node j) m = elim m [ ]
  same_number (node i) (leaf y) m = elim m [ ]
  same_number (node i) (node j) m = refl

  either_wrong : {X : Type 0} (R : X → X → Type 0) (n : Member) (a b : Option X) (next to : X → Viewed) → BothOr R a b → ((x y : X) → R x y → ViewedMatch P (next x) (to y)) → ViewedMatch P (or_wrong n a next) (or_wrong n b to)
  either_wrong R n None None next to m h = refl
  either_wrong R n None (Some y) next to m h = elim m [ ]
  either_wrong R n (Some x) None next to m h = elim m [ ]
  either_wrong R n (Some x) (Some y) next to m h = h x y m

  same_or : {X : Type 0} (a b : Option X) → a ≡ b → BothOr (λ x y. x ≡ y) a b
  same_or a b e = subst (λ z. BothOr (λ x y. x ≡ y) a z) e (go a)
    where
      go : {X : Type 0} (a : Option X) → BothOr (λ (x : X) y. x ≡ y) a a
      go None = tt
      go (Some x) = refl

  same_wrong : {X : Type 0} (n : Member) (a b : Option X) (next to : X → Viewed) → a ≡ b → ((x y : X) → x ≡ y → ViewedMatch P (next x) (to y)) → ViewedMatch P (or_wrong n a next) (or_wrong n b to)
  same_wrong n a b next to e h = either_wrong (λ x y. x ≡ y) n a b next to (same_or a b e) h

module _ (g h : Graph) (i : Isomorphic g h) where
  abbrev P : ℕ → ℕ → Type 0
  P = StandIn i.pairs

  pub headers_alike : (v w : Value) → ValuesMatch P v w → BothOr (Alike P) (pairs_of g v) (pairs_of h w)
  headers_alike (leaf x) (leaf y) m = subst (λ z. BothOr (Alike P) (pairs_of g (leaf x)) (pairs_of h (leaf z))) m (go x)
    where
      go : (x : Leaf) → BothOr (Alike P) (pairs_of g (leaf x)) (pairs_of h (leaf x))
      go undefined = tt
      go null = λ x v w n. n
      go (boolean b) = tt
      go (integer n) = tt
      go (double p) = tt
      go (text x) = tt
  headers_alike (leaf x) (node j) m = elim m [ ]
  headers_alike (node j) (leaf y) m = elim m [ ]
  headers_alike (node j) (node k) m =
      let n = i.nodes j k m in
      subst (λ d. BothOr (Alike P) (pairs_by_kind (node_at g j).head (node_at g j)) (pairs_by_kind d (node_at h k))) n.head (kind_alike P (node_at g j).head (node_at g j) (node_at h k) n)

  common_match : (ps qs : List (List ℕ × Value)) → Alike P ps qs → (next to : Told → Viewed) → ((t u : Told) → ToldMatch P t u → ViewedMatch P (next t) (to u)) → ViewedMatch P (common_view g ps next) (common_view h qs to)
  common_match ps qs al next to f =
      let at : (x : List ℕ) → ValuesMatch P (value_named x ps) (value_named x qs) = found P ps qs al in
      either_wrong P (Alike P) member.Headers (pairs_of g (value_named headers_name ps)) (pairs_of h (value_named headers_name qs)) _ _ (headers_alike (value_named headers_name ps) (value_named headers_name qs) (at headers_name)) (λ hs ks hal.
      let in_headers : (x : List ℕ) → ValuesMatch P (value_named x hs) (value_named x ks) = found P hs ks hal in
      same_wrong P member.DsId _ _ _ _ (same_text P _ _ (in_headers ds_id_name)) (λ a a' ea.
      same_wrong P member.DsSubtopic _ _ _ _ (same_text P _ _ (in_headers subtopic_name)) (λ b b' eb.
      same_wrong P member.Destination _ _ _ _ (same_text P _ _ (at destination_name)) (λ d d' ed.
      same_wrong P member.MessageId _ _ _ _ (same_text P _ _ (at message_name)) (λ m m' em.
      same_wrong P member.ClientId _ _ _ _ (same_text P _ _ (at client_name)) (λ c c' ec.
      f _ _ (record { message = em; destination = ed; client = ec; ds_id = ea; subtopic = eb; body = at body_name; headers = at headers_name })))))))

  served_match : (k : Option Served) (ps qs : List (List ℕ × Value)) → Alike P ps qs → ViewedMatch P (served_view g k ps) (served_view h k qs)
  served_match None ps qs al = tt
  served_match (Some served.Remoting) ps qs al =
      common_match ps qs al (λ t. or_wrong member.Operation (text_alone (value_named operation_name ps)) (λ o. request (remoting t o))) (λ t. or_wrong member.Operation (text_alone (value_named operation_name qs)) (λ o. request (remoting t o)))
      (λ t u m. same_wrong P member.Operation (text_alone (value_named operation_name ps)) (text_alone (value_named operation_name qs)) (λ o. request (remoting t o)) (λ o. request (remoting u o)) (same_alone P (value_named operation_name ps) (value_named operation_name qs) (found P ps qs al operation_name)) (λ x y e. (m, e)))
  served_match (Some served.Command) ps qs al =
      common_match ps qs al (λ t. or_wrong member.Operation (whole_number (value_named operation_name ps)) (λ o. request (command t o))) (λ t. or_wrong member.Operation (whole_number (value_named operation_name qs)) (λ o. request (command t o)))
      (λ t u m. same_wrong P member.Operation (whole_number (value_named operation_name ps)) (whole_number (value_named operation_name qs)) (λ o. request (command t o)) (λ o. request (command u o)) (same_number P (value_named operation_name ps) (value_named operation_name qs) (found P ps qs al operation_name)) (λ x y e. (m, e)))
  served_match (Some served.Async) ps qs al =
      common_match ps qs al (λ t. or_wrong member.CorrelationId (text_or_null (value_named correlation_name ps)) (λ o. request (async t o))) (λ t. or_wrong member.CorrelationId (text_or_null (value_named correlation_name qs)) (λ o. request (async t o)))
      (λ t u m. same_wrong P member.CorrelationId (text_or_null (value_named correlation_name ps)) (text_or_null (value_named correlation_name qs)) (λ o. request (async t o)) (λ o. request (async u o)) (same_text P (value_named correlation_name ps) (value_named correlation_name qs) (found P ps qs al correlation_name)) (λ x y e. (m, e)))

  kind_match : (d : Head) (a b : Node) → NodesMatch P a b → ViewedMatch P (kind_view g d a) (kind_view h d b)
  kind_match (object t) a b m = served_match (served_class t.class) (members_of t a) (members_of t b) (members_alike P t a b m)
  kind_match _ a b m = tt

  pub value_match : (v w : Value) → ValuesMatch P v w → ViewedMatch P (value_view g v) (value_view h w)
  value_match (leaf x) (leaf y) m = tt
  value_match (leaf x) (node k) m = elim m [ ]
  value_match (node j) (leaf y) m = elim m [ ]
  value_match (node j) (node k) m =
      let n = i.nodes j k m in
      subst (λ d. ViewedMatch P (kind_view g (node_at g j).head (node_at g j)) (kind_view h d (node_at h k))) n.head (kind_match (node_at g j).head (node_at g j) (node_at h k) n)

pub view_law : ViewLaw
view_law g h i v w m = value_match g h i v w m
