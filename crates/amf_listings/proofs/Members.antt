-- Pairs one after the other: what their names and values have in common with one another, the pairs have.
use Rattle.std.proofs.Common.{◌≡◌, ℕ, ◌<◌, ◌≤◌, List, [], ◌∷◌, ◌++◌, length, length-append, slice_get, Some, refl, sym, ap, ◌∙◌, subst, inl, inr, arith}
use Rattle.std.specs.List.{AllZip}
use Rattle.std.proofs.lemmas.Bool.{cases_lt}
use Rattle.std.proofs.lemmas.Option.{same_Some, slice_get_within}
use Rattle.amf_io.specs.Field.{Field, flat}
use Rattle.amf_io.proofs.Paths.{flat-append}
use Rattle.amf_graph.specs.Graph.{Value, Graph, node_at}
use Rattle.amf_graph.specs.Isomorphic.{ValuesMatch, PairsMatch, NodesMatch}
use Rattle.amf_graph.proofs.Lists.{cons_same, entry}
use Rattle.amf_graph.proofs.Matching.{Implies as Less, values_more, nodes_more}
use Rattle.amf3_spelling.specs.Then.{Spelling, Then, Plain}
use Rattle.amf3_spelling.proofs.Forget.{Implies, then_implies}
use Rattle.amf_sol.specs.SharedObject.{pair_end, PairsBy}

-- the 0 behind a pair
abbrev pub EndBy : {S : Type 0} → Spelling S
EndBy = Plain (λ fs. fs ≡ pair_end ∷ [])

pub pairs_imply : {S : Type 0} (N M : List ℕ → Spelling S) (R Q : Value → Spelling S) → ((x : List ℕ) → Implies (N x) (M x)) → ((v : Value) → Implies (R v) (Q v)) → (ps : List (List ℕ × Value)) → Implies (PairsBy N R ps) (PairsBy M Q ps)
pairs_imply N M R Q n r [] t fs t' z = z
pairs_imply N M R Q n r (p ∷ ps) t fs t' z =
    then_implies (N p.0) (Then (R p.1) (Then EndBy (PairsBy N R ps))) (M p.0) (Then (Q p.1) (Then EndBy (PairsBy M Q ps))) (n p.0)
    (then_implies (R p.1) (Then EndBy (PairsBy N R ps)) (Q p.1) (Then EndBy (PairsBy M Q ps)) (r p.1)
    (then_implies EndBy (PairsBy N R ps) EndBy (PairsBy M Q ps) (λ u gs u' y. y) (pairs_imply N M R Q n r ps))) t fs t' z

-- what each of them does to the tables, they do
module _ {S : Type 0} (K : S → S → Type 0) (same : (t t' : S) → t' ≡ t → K t t') (twice : (t u v : S) → K t u → K u v → K t v)
    (N : List ℕ → Spelling S) (R : Value → Spelling S)
    (named : (x : List ℕ) (t : S) (fs : List Field) (t' : S) → N x t fs t' → K t t')
    (valued : (v : Value) (t : S) (fs : List Field) (t' : S) → R v t fs t' → K t t') where
  pub pairs_keep : (ps : List (List ℕ × Value)) (t : S) (fs : List Field) (t' : S) → PairsBy N R ps t fs t' → K t t'
  pairs_keep [] t fs t' z = same t t' z.1
  pairs_keep (p ∷ ps) t fs t' z =
      let y = z.second in
      let x = y.second in
      twice t z.mid t' (named p.0 t z.front z.mid z.first)
      (twice z.mid y.mid t' (valued p.1 z.mid y.front y.mid y.first)
      (twice y.mid x.mid t' (same y.mid x.mid x.first.1) (pairs_keep ps x.mid x.back t' x.second)))

then_flat : (fs front back : List Field) → fs ≡ front ++ back → flat fs ≡ flat front ++ flat back
then_flat fs front back e = ap flat e ∙ flat-append front back

-- the bytes of a pair and of those behind it
pair_flat : (fs named more valued behind end rest : List Field) → fs ≡ named ++ more → more ≡ valued ++ behind → behind ≡ end ++ rest → end ≡ pair_end ∷ [] → flat fs ≡ flat named ++ (flat valued ++ (0 ∷ flat rest))
pair_flat fs named more valued behind end rest a b c d =
    then_flat fs named more a
    ∙ ap (λ l. flat named ++ l) (then_flat more valued behind b)
    ∙ ap (λ l. flat named ++ (flat valued ++ l)) (then_flat behind end rest c ∙ ap (λ (l : List Field). flat l ++ flat rest) d)

-- where each is carried to a graph that is the same but for its numbers, so are they
module _ {S : Type 0} (P : ℕ → ℕ → Type 0) (J : S → S → Type 0) (N : List ℕ → Spelling S) (R Q : Value → Spelling S)
    (named : (x : List ℕ) (t u : S) (fs : List Field) (t' : S) → J t u → N x t fs t' → (gs : List Field) × (u' : S) × N x u gs u' × (flat gs ≡ flat fs) × J t' u')
    (valued : (v w : Value) → ValuesMatch P v w → (t u : S) (fs : List Field) (t' : S) → J t u → R v t fs t' → (gs : List Field) × (u' : S) × Q w u gs u' × (flat gs ≡ flat fs) × J t' u') where
  pub pairs_carried : (ps qs : List (List ℕ × Value)) → AllZip (PairsMatch P) ps qs → (t u : S) (fs : List Field) (t' : S) → J t u → PairsBy N R ps t fs t' → (gs : List Field) × (u' : S) × PairsBy N Q qs u gs u' × (flat gs ≡ flat fs)
  pairs_carried [] [] m t u fs t' j z = ([], u, (refl, refl), sym (ap flat z.0))
  pairs_carried [] (q ∷ qs) m t u fs t' j z = absurd m
  pairs_carried (p ∷ ps) [] m t u fs t' j z = absurd m
  pairs_carried (p ∷ ps) (q ∷ qs) m t u fs t' j z =
      let a = named p.0 t u z.front z.mid j z.first in
      let z2 = z.second in
      let b = valued p.1 q.1 m.0.1 z.mid a.1 z2.front z2.mid a.4 z2.first in
      let z3 = z2.second in
      let z4 : PairsBy N R ps z2.mid z3.back t' = subst (λ w. PairsBy N R ps w z3.back t') z3.first.1 z3.second in
      let c = pairs_carried ps qs m.1 z2.mid b.1 z3.back t' b.4 z4 in
      let last : Then EndBy (PairsBy N Q qs) b.1 (pair_end ∷ c.0) c.1 = record { front = pair_end ∷ []; back = c.0; mid = b.1; joined = refl; first = (refl, refl); second = c.2 } in (
        a.0 ++ (b.0 ++ pair_end ∷ c.0),
        c.1,
        record {
          front = a.0;
          back = b.0 ++ pair_end ∷ c.0;
          mid = a.1;
          joined = refl;
          first = subst (λ x. N x u a.0 a.1) m.0.0 a.2;
          second = record { front = b.0; back = pair_end ∷ c.0; mid = b.1; joined = refl; first = b.2; second = last };
        },
        pair_flat (a.0 ++ (b.0 ++ pair_end ∷ c.0)) a.0 (b.0 ++ pair_end ∷ c.0) b.0 (pair_end ∷ c.0) (pair_end ∷ []) c.0 refl refl refl refl
            ∙ ap (λ l. l ++ (flat b.0 ++ (0 ∷ flat c.0))) a.3
            ∙ ap (λ l. flat z.front ++ (l ++ (0 ∷ flat c.0))) b.3
            ∙ ap (λ l. flat z.front ++ (flat z2.front ++ (0 ∷ l))) c.3
            ∙ sym (pair_flat fs z.front z.back z2.front z2.back z3.front z3.back z.joined z2.joined z3.joined z3.first.0),
      )

-- Two spellings of the same bytes.

module _ {S : Type 0} (done : S → List ℕ) (Tied : S → S → Type 0) where
  -- the nodes that were spelled inline at one place
  abbrev pub PairedBy : S → S → ℕ → ℕ → Type 0
  PairedBy t u i j = (k : ℕ) × (slice_get (done t) k ≡ Some i) × (slice_get (done u) k ≡ Some j)

  -- what is known where the two end; fresh: the nodes met on the way match
  pub record Met (g h : Graph) (before : ℕ) (t' u' : S) (Q : (ℕ → ℕ → Type 0) → Type 0) : Type 0 where
    pub tied : Tied t' u'
    pub fresh : (k i j : ℕ) → before ≤ k → slice_get (done t') k ≡ Some i → slice_get (done u') k ≡ Some j → NodesMatch (PairedBy t' u') (node_at g i) (node_at h j)
    pub says : Q (PairedBy t' u')

-- nodes that were spelled stay where they are
pub record Stays {S : Type 0} (done : S → List ℕ) (t t' : S) : Type 0 where
  pub longer : length (done t) ≤ length (done t')
  pub stays : (k i : ℕ) → slice_get (done t) k ≡ Some i → slice_get (done t') k ≡ Some i

pub stays_same : {S : Type 0} (done : S → List ℕ) (t t' : S) → t' ≡ t → Stays done t t'
stays_same done t t' e = subst (λ w. Stays done t w) (sym e) (record { longer = omega arith; stays = λ k i f. f })

pub stays_twice : {S : Type 0} (done : S → List ℕ) (t u v : S) → Stays done t u → Stays done u v → Stays done t v
stays_twice done t u v a b = record { longer = omega (arith, a.longer, b.longer); stays = λ k i f. b.stays k i (a.stays k i f) }

at_before : (xs ys : List ℕ) (k i : ℕ) → k < length xs → ((j n : ℕ) → slice_get xs j ≡ Some n → slice_get ys j ≡ Some n) → slice_get ys k ≡ Some i → slice_get xs k ≡ Some i
at_before xs ys k i l stays e =
    let o = entry xs k l in
    let same : o.0 ≡ i = same_Some o.0 i (sym (stays k o.0 o.1) ∙ e) in
    o.1 ∙ ap (λ n. Some n) same

not_nothing : (xs ys zs : List ℕ) → xs ++ (ys ++ (0 ∷ zs)) ≡ [] → ⊥
not_nothing xs ys zs e = let l : length (xs ++ (ys ++ (0 ∷ zs))) ≡ 0 = ap length e in absurd (omega (arith, l, length-append xs (ys ++ (0 ∷ zs)), length-append ys (0 ∷ zs)))

module _ {S : Type 0} (done : S → List ℕ) (Tied : S → S → Type 0) (levels : (t u : S) → Tied t u → length (done u) ≡ length (done t)) (g h : Graph) (N M : List ℕ → Spelling S) (R Q : Value → Spelling S)
    (keepN : (x : List ℕ) (t : S) (fs : List Field) (t' : S) → N x t fs t' → Stays done t t')
    (keepM : (x : List ℕ) (t : S) (fs : List Field) (t' : S) → M x t fs t' → Stays done t t')
    (keepR : (v : Value) (t : S) (fs : List Field) (t' : S) → R v t fs t' → Stays done t t')
    (keepQ : (v : Value) (t : S) (fs : List Field) (t' : S) → Q v t fs t' → Stays done t t')
    (named : (x y : List ℕ) (t u : S) (fs gs : List Field) (r q : List ℕ) (t' u' : S) → Tied t u → N x t fs t' → M y u gs u' → flat fs ++ r ≡ flat gs ++ q → (x ≡ y) × (r ≡ q) × Tied t' u' × (length (done t') ≡ length (done t)))
    (valued : (v w : Value) (t u : S) (fs gs : List Field) (r q : List ℕ) (t' u' : S) → Tied t u → R v t fs t' → Q w u gs u' → flat fs ++ r ≡ flat gs ++ q → (r ≡ q) × Met done Tied g h (length (done t)) t' u' (λ P. ValuesMatch P v w)) where
  paired_more : (t u t' u' : S) → Stays done t t' → Stays done u u' → Less (PairedBy done Tied t u) (PairedBy done Tied t' u')
  paired_more t u t' u' a b i j p = (p.0, a.stays p.0 i p.1, b.stays p.0 j p.2)

  left_keep : (ps : List (List ℕ × Value)) (t : S) (fs : List Field) (t' : S) → PairsBy N R ps t fs t' → Stays done t t'
  left_keep = pairs_keep (Stays done) (stays_same done) (stays_twice done) N R keepN keepR

  right_keep : (ps : List (List ℕ × Value)) (t : S) (fs : List Field) (t' : S) → PairsBy M Q ps t fs t' → Stays done t t'
  right_keep = pairs_keep (Stays done) (stays_same done) (stays_twice done) M Q keepM keepQ

  -- the bytes of a pair are some bytes
  some_left : (q : List ℕ × Value) (qs : List (List ℕ × Value)) (t u : S) (fs gs : List Field) (u' : S) → fs ≡ [] → PairsBy M Q (q ∷ qs) u gs u' → flat fs ≡ flat gs → ⊥
  some_left q qs t u fs gs u' z y e =
      let y2 = y.second in
      let y3 = y2.second in
      not_nothing (flat y.front) (flat y2.front) (flat y3.back) (sym (sym (ap flat z) ∙ e ∙ pair_flat gs y.front y.back y2.front y2.back y3.front y3.back y.joined y2.joined y3.joined y3.first.0))

  some_right : (p : List ℕ × Value) (ps : List (List ℕ × Value)) (t : S) (fs gs : List Field) (t' : S) → gs ≡ [] → PairsBy N R (p ∷ ps) t fs t' → flat fs ≡ flat gs → ⊥
  some_right p ps t fs gs t' y z e =
      let z2 = z.second in
      let z3 = z2.second in
      not_nothing (flat z.front) (flat z2.front) (flat z3.back) (sym (pair_flat fs z.front z.back z2.front z2.back z3.front z3.back z.joined z2.joined z3.joined z3.first.0) ∙ e ∙ ap flat y)

  pub pairs_alike : (ps qs : List (List ℕ × Value)) (t u : S) (fs gs : List Field) (t' u' : S) → Tied t u → PairsBy N R ps t fs t' → PairsBy M Q qs u gs u' → flat fs ≡ flat gs → Met done Tied g h (length (done t)) t' u' (λ P. AllZip (PairsMatch P) ps qs)
  pairs_alike [] [] t u fs gs t' u' j z y e = record {
    tied = subst (λ w. Tied w u') (sym z.1) (subst (λ w. Tied t w) (sym y.1) j);
    fresh = λ k a b l p q. let w : k < length (done t') = slice_get_within (done t') k a p in let f : length (done t') ≡ length (done t) = ap (λ x. length (done x)) z.1 in absurd (omega arith);
    says = tt;
  }
  pairs_alike [] (q ∷ qs) t u fs gs t' u' j z y e = absurd (some_left q qs t u fs gs u' z.0 y e)
  pairs_alike (p ∷ ps) [] t u fs gs t' u' j z y e = absurd (some_right p ps t fs gs t' y.0 z e)
  pairs_alike (p ∷ ps) (q ∷ qs) t u fs gs t' u' j z y e =
      let z2 = z.second in
      let y2 = y.second in
      let z3 = z2.second in
      let y3 = y2.second in
      let all : flat z.front ++ (flat z2.front ++ (0 ∷ flat z3.back)) ≡ flat y.front ++ (flat y2.front ++ (0 ∷ flat y3.back)) =
      sym (pair_flat fs z.front z.back z2.front z2.back z3.front z3.back z.joined z2.joined z3.joined z3.first.0) ∙ e ∙ pair_flat gs y.front y.back y2.front y2.back y3.front y3.back y.joined y2.joined y3.joined y3.first.0 in
      let a = named p.0 q.0 t u z.front y.front (flat z2.front ++ (0 ∷ flat z3.back)) (flat y2.front ++ (0 ∷ flat y3.back)) z.mid y.mid j z.first y.first all in
      let b = valued p.1 q.1 z.mid y.mid z2.front y2.front (0 ∷ flat z3.back) (0 ∷ flat y3.back) z2.mid y2.mid a.2 z2.first y2.first a.1 in
      let v = b.1 in
      let z4 : PairsBy N R ps z2.mid z3.back t' = subst (λ w. PairsBy N R ps w z3.back t') z3.first.1 z3.second in
      let y4 : PairsBy M Q qs y2.mid y3.back u' = subst (λ w. PairsBy M Q qs w y3.back u') y3.first.1 y3.second in
      let c = pairs_alike ps qs z2.mid y2.mid z3.back y3.back t' u' v.tied z4 y4 (cons_same b.0).1 in
      let l = left_keep ps z2.mid z3.back t' z4 in
      let r = right_keep qs y2.mid y3.back u' y4 in
      let more : Less (PairedBy done Tied z2.mid y2.mid) (PairedBy done Tied t' u') = paired_more z2.mid y2.mid t' u' l r in
      let level : length (done y2.mid) ≡ length (done z2.mid) = levels z2.mid y2.mid v.tied in
      record {
        tied = c.tied;
        fresh = λ k i n from d f. elim (cases_lt k (length (done z2.mid))) [
          | inl below ↦ nodes_more (PairedBy done Tied z2.mid y2.mid) (PairedBy done Tied t' u') more (node_at g i) (node_at h n)
              (v.fresh k i n (let w = a.3 in omega (arith, w, from)) (at_before (done z2.mid) (done t') k i below l.stays d) (at_before (done y2.mid) (done u') k n (omega (arith, level, below)) r.stays f))
          | inr above ↦ c.fresh k i n above d f
        ];
        says = ((a.0, values_more (PairedBy done Tied z2.mid y2.mid) (PairedBy done Tied t' u') more p.1 q.1 v.says), c.says);
      }
