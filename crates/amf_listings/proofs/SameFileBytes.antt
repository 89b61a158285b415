-- Two shared objects that the same bytes spell are the same.
use Rattle.std.proofs.Common.{◌≡◌, ℕ, zero, suc, ◌<◌, ◌≤◌, ◌^◌, List, [], ◌∷◌, ◌++◌, slice_get, Some, refl, sym, ap, ◌∙◌, subst, arith}
use Rattle.std.specs.Int.{to_be_bytes, w32}
use Rattle.std.specs.List.{AllZip}
use Rattle.std.proofs.lemmas.List.{append_cancel_left}
use Rattle.std.proofs.lemmas.Option.{same_Some}
use Rattle.amf_io.specs.Field.{Field, flat}
use Rattle.amf_io.proofs.Paths.{flat-append}
use Rattle.amf_wire.specs.Style.{Style, free}
use Rattle.amf_graph.specs.ByName.{by_name}
use Rattle.amf_graph.specs.Graph.{Value, node, Graph, node_at}
use Rattle.amf_graph.specs.Isomorphic.{ValuesMatch, PairsMatch, NodesMatch, StandIn, Isomorphic}
use Rattle.amf_graph.specs.Order.{IsDistinct}
use Rattle.amf_graph.proofs.Lists.{cons_same, no_entry}
use Rattle.amf_graph.proofs.Matching.{Implies as Less, nodes_more, by_name_match}
use Rattle.amf_graph.proofs.Places.{SamePlace, zipped, zipped_at, at_zipped}
use Rattle.amf_graph.proofs.Walks.{Within}
use Rattle.amf3_spelling.specs.Segments3.{Lifted}
use Rattle.amf3_spelling.specs.Spells3.{Spells3}
use Rattle.amf3_spelling.specs.Tables.{Tables}
use Rattle.amf3_spelling.specs.Then.{Plain}
use Rattle.amf3_spelling.specs.Words3.{Text}
use Rattle.amf3_spelling.proofs.Alike3.{Tied as Tied3}
use Rattle.amf3_spelling.proofs.Stays3.{Proper as Proper3, Stays as Stays3, stays_same as stays_same3, stays_twice as stays_twice3}
use Rattle.amf0_spelling.specs.Segments0.{Short}
use Rattle.amf0_spelling.specs.Spells0.{Spells0}
use Rattle.amf0_spelling.specs.Tables0.{Tables0}
use Rattle.amf0_spelling.proofs.Alike0.{Tied as Tied0}
use Rattle.amf0_spelling.proofs.Bytes.{be32, short_same}
use Rattle.amf0_spelling.proofs.Stays0.{Proper as Proper0, Stays as Stays0, stays_same as stays_same0, stays_twice as stays_twice0}
use Rattle.amf_sol.specs.declared.sol_version.SolVersion.{SolVersion}
use Rattle.amf_sol.specs.declared.sol_version.SolVersion.TheVariants.{Amf0, Amf3}
use Rattle.amf_sol.specs.SharedObject.{Shared, IsPairHolder, signature, second_signature, padding, version_number, version_field, PairsBy, file_tables, file_tables0, PairsOf, AfterLength, SpelledFile}
use Rattle.amf_listings.specs.SameFile.{SameFile}
use Rattle.amf_listings.proofs.Members.{Met, pairs_keep, pairs_alike}
use Rattle.amf_listings.proofs.FileParts.{name_keep, value_keep, stays3, name_same, value_same, name_keep0, value_keep0, stays0, name_same0, value_same0, file_proper, file_proper0}

-- The holders, and the nodes that were met behind them, place by place.

-- two holders with pairs that match
holders_match : (P : ℕ → ℕ → Type 0) (g h : Graph) (a b : ℕ) → IsPairHolder g a → IsPairHolder h b → (ps qs : List (List ℕ × Value)) → by_name ps ≡ by_name (node_at g a).names → by_name qs ≡ by_name (node_at h b).names → AllZip (PairsMatch P) ps qs → NodesMatch P (node_at g a) (node_at h b)
holders_match P g h a b x y ps qs e d m = record {
  head = x.head ∙ sym y.head;
  names = subst (λ l. AllZip (PairsMatch P) l (by_name (node_at h b).names)) e (subst (λ l. AllZip (PairsMatch P) (by_name ps) l) d (by_name_match P ps qs m));
  values = subst (λ l. AllZip (ValuesMatch P) l (node_at h b).values) (sym x.unsealed) (subst (λ l. AllZip (ValuesMatch P) [] l) (sym y.unsealed) tt);
}

module _ (g h : Graph) (xs ys : List ℕ) (a b : ℕ) (x : IsPairHolder g a) (y : IsPairHolder h b) (at_a : slice_get xs 0 ≡ Some a) (at_b : slice_get ys 0 ≡ Some b)
    (once : IsDistinct xs) (also_once : IsDistinct ys) (in_g : Within g xs) (in_h : Within h ys)
    (holders : NodesMatch (SamePlace xs ys) (node_at g a) (node_at h b))
    (fresh : (k i j : ℕ) → 1 ≤ k → slice_get xs k ≡ Some i → slice_get ys k ≡ Some j → NodesMatch (SamePlace xs ys) (node_at g i) (node_at h j)) where
  on : Less (SamePlace xs ys) (StandIn (zipped xs ys))
  on i j p = (p.0, at_zipped xs ys p.0 i j p.1 p.2)

  off : Less (StandIn (zipped xs ys)) (SamePlace xs ys)
  off i j p = let w = zipped_at xs ys p.0 i j p.1 in (p.0, w.0, w.1)

  all_match : (k i j : ℕ) → slice_get xs k ≡ Some i → slice_get ys k ≡ Some j → NodesMatch (SamePlace xs ys) (node_at g i) (node_at h j)
  all_match zero i j e f = subst (λ n. NodesMatch (SamePlace xs ys) (node_at g n) (node_at h j)) (same_Some a i (sym at_a ∙ e)) (subst (λ n. NodesMatch (SamePlace xs ys) (node_at g a) (node_at h n)) (same_Some b j (sym at_b ∙ f)) holders)
  all_match (suc k) i j e f = fresh (suc k) i j (omega arith) e f

  isomorphic_by : Isomorphic g h
  isomorphic_by = record {
    pairs = zipped xs ys;
    left = λ i j k p q.
        let v = off i j p in
        let w = off i k q in
        let at : v.0 ≡ w.0 = once v.0 w.0 i v.1 w.1 in
        same_Some j k (sym v.2 ∙ ap (λ n. slice_get ys n) at ∙ w.2);
    right = λ i j k p q.
        let v = off i k p in
        let w = off j k q in
        let at : v.0 ≡ w.0 = also_once v.0 w.0 k v.2 w.2 in
        same_Some i j (sym v.1 ∙ ap (λ n. slice_get xs n) at ∙ w.1);
    within = λ i j p. let v = off i j p in (in_g v.0 i v.1, in_h v.0 j v.2);
    root = subst (λ v. ValuesMatch (StandIn (zipped xs ys)) v h.root) (sym x.root) (subst (λ v. ValuesMatch (StandIn (zipped xs ys)) (node a) v) (sym y.root) (on a b (0, at_a, at_b)));
    nodes = λ i j p. let v = off i j p in nodes_more (SamePlace xs ys) (StandIn (zipped xs ys)) on (node_at g i) (node_at h j) (all_match v.0 i j v.1 v.2);
  }

-- Pairs of the same bytes.

tied3 : (a b : ℕ) → Tied3 (file_tables a) (file_tables b)
tied3 a b = record { words = refl; size = refl; level = refl; pairs = λ k i j e f. absurd (no_entry k i e) }

tied0 : (a b : ℕ) → Tied0 (file_tables0 a) (file_tables0 b)
tied0 a b = record { amf3 = tied3 a b; size = refl; pairs = λ k i j e f. absurd (no_entry k i e); switched = refl }

-- what pairs do to the tables of a file
pub pairs_stay : (s : Style) (g : Graph) (ps : List (List ℕ × Value)) (t : Tables) (fs : List Field) (t' : Tables) → PairsBy (λ x. Lifted (Text s x)) (Spells3 s g) ps t fs t' → Stays3 g t t'
pairs_stay s g = pairs_keep (Stays3 g) (λ t t' e. stays_same3 g t t' (ap (λ (y : Tables). y.nodes) e) (ap (λ (y : Tables). y.done) e)) (stays_twice3 g) (λ x. Lifted (Text s x)) (Spells3 s g) (name_keep s g) (value_keep s g)

pub pairs_stay0 : (s : Style) (g : Graph) (ps : List (List ℕ × Value)) (t : Tables0) (fs : List Field) (t' : Tables0) → PairsBy (λ x. Plain (Short x)) (Spells0 s g) ps t fs t' → Stays0 g t t'
pairs_stay0 s g = pairs_keep (Stays0 g) (stays_same0 g) (stays_twice0 g) (λ x. Plain (Short x)) (Spells0 s g) (name_keep0 g) (value_keep0 s g)

abbrev done3 : Tables → List ℕ
done3 t = t.done

abbrev done0 : Tables0 → List ℕ
done0 t = t.amf3.done

pub members_alike : (s z : Style) (g h : Graph) (a b : ℕ) (ps qs : List (List ℕ × Value)) (fs gs : List Field) (t' u' : Tables) → PairsBy (λ x. Lifted (Text s x)) (Spells3 s g) ps (file_tables a) fs t' → PairsBy (λ x. Lifted (Text z x)) (Spells3 z h) qs (file_tables b) gs u' → flat fs ≡ flat gs → Met done3 Tied3 g h 1 t' u' (λ P. AllZip (PairsMatch P) ps qs)
members_alike s z g h a b ps qs fs gs t' u' p q e =
    pairs_alike done3 Tied3 (λ t u j. sym j.level) g h (λ x. Lifted (Text s x)) (λ x. Lifted (Text z x)) (Spells3 s g) (Spells3 z h)
    (λ x t l t' n. stays3 g t t' (name_keep s g x t l t' n)) (λ x t l t' n. stays3 h t t' (name_keep z h x t l t' n))
    (λ v t l t' n. stays3 g t t' (value_keep s g v t l t' n)) (λ v t l t' n. stays3 h t t' (value_keep z h v t l t' n))
    (name_same s z) (value_same s z g h) ps qs (file_tables a) (file_tables b) fs gs t' u' (tied3 a b) p q e

members_alike0 : (s z : Style) (g h : Graph) (a b : ℕ) (ps qs : List (List ℕ × Value)) (fs gs : List Field) (t' u' : Tables0) → PairsBy (λ x. Plain (Short x)) (Spells0 s g) ps (file_tables0 a) fs t' → PairsBy (λ x. Plain (Short x)) (Spells0 z h) qs (file_tables0 b) gs u' → flat fs ≡ flat gs → Met done0 Tied0 g h 1 t' u' (λ P. AllZip (PairsMatch P) ps qs)
members_alike0 s z g h a b ps qs fs gs t' u' p q e =
    pairs_alike done0 Tied0 (λ t u j. sym j.amf3.level) g h (λ x. Plain (Short x)) (λ x. Plain (Short x)) (Spells0 s g) (Spells0 z h)
    (λ x t l t' n. stays0 g t t' (name_keep0 g x t l t' n)) (λ x t l t' n. stays0 h t t' (name_keep0 h x t l t' n))
    (λ v t l t' n. stays0 g t t' (value_keep0 s g v t l t' n)) (λ v t l t' n. stays0 h t t' (value_keep0 z h v t l t' n))
    name_same0 (value_same0 s z g h) ps qs (file_tables0 a) (file_tables0 b) fs gs t' u' (tied0 a b) p q e

same_holders : (version : SolVersion) (g h : Graph) (fs gs : List Field) → PairsOf free version g fs → PairsOf free version h gs → flat fs ≡ flat gs → Isomorphic g h
same_holders Amf3 g h fs gs p q e =
    let a = p.holder in
    let b = q.holder in
    let x = p.is_holder in
    let y = q.is_holder in
    let t = p.spelled.0 in
    let u = q.spelled.0 in
    let k = pairs_stay free g p.pairs (file_tables a) fs t p.spelled.1 in
    let l = pairs_stay free h q.pairs (file_tables b) gs u q.spelled.1 in
    let left : Proper3 g t = k.proper (file_proper g a x.there) in
    let right : Proper3 h u = l.proper (file_proper h b y.there) in
    let m = members_alike free free g h a b p.pairs q.pairs fs gs t u p.spelled.1 q.spelled.1 e in
    isomorphic_by g h t.done u.done a b x y (k.stays 0 a refl) (l.stays 0 b refl) left.once right.once left.within right.within
    (holders_match (SamePlace t.done u.done) g h a b x y p.pairs q.pairs p.same_names q.same_names m.says) m.fresh
same_holders Amf0 g h fs gs p q e =
    let a = p.holder in
    let b = q.holder in
    let x = p.is_holder in
    let y = q.is_holder in
    let t = p.spelled.0 in
    let u = q.spelled.0 in
    let k = pairs_stay0 free g p.pairs (file_tables0 a) fs t p.spelled.1 in
    let l = pairs_stay0 free h q.pairs (file_tables0 b) gs u q.spelled.1 in
    let left : Proper0 g t = k.proper (file_proper0 g a x.there) in
    let right : Proper0 h u = l.proper (file_proper0 h b y.there) in
    let once = left.amf3 in
    let also = right.amf3 in
    let m = members_alike0 free free g h a b p.pairs q.pairs fs gs t u p.spelled.1 q.spelled.1 e in
    isomorphic_by g h t.amf3.done u.amf3.done a b x y (k.stays 0 a refl) (l.stays 0 b refl) once.once also.once once.within also.within
    (holders_match (SamePlace t.amf3.done u.amf3.done) g h a b x y p.pairs q.pairs p.same_names q.same_names m.says) m.fresh

-- Files of the same bytes.

one_version : (v w : SolVersion) → version_number v ≡ version_number w → v ≡ w
one_version Amf0 Amf0 e = refl
one_version Amf0 Amf3 e = absurd (omega (arith, e))
one_version Amf3 Amf0 e = absurd (omega (arith, e))
one_version Amf3 Amf3 e = refl

record HeadsSame (o k : Shared) (ps qs : List Field) : Type 0 where
  name : o.name ≡ k.name
  version : o.version ≡ k.version
  pairs : flat ps ≡ flat qs

-- the bytes behind the length
pub rest_flat : (s : Style) (o : Shared) (fs : List Field) (a : AfterLength s o fs) → flat fs ≡ second_signature.bytes ++ (flat a.name ++ (padding.bytes ++ (version_number o.version ∷ flat a.pairs)))
rest_flat s o fs a = ap flat a.fields ∙ ap (λ l. second_signature.bytes ++ l) (flat-append a.name (padding ∷ version_field o.version ∷ a.pairs))

heads_same : (s z : Style) (o k : Shared) (fs gs : List Field) (a : AfterLength s o fs) (b : AfterLength z k gs) → flat fs ≡ flat gs → HeadsSame o k a.pairs b.pairs
heads_same s z o k fs gs a b e =
    let x = padding.bytes ++ (version_number o.version ∷ flat a.pairs) in
    let y = padding.bytes ++ (version_number k.version ∷ flat b.pairs) in
    let one = append_cancel_left second_signature.bytes (flat a.name ++ x) (flat b.name ++ y) (sym (rest_flat s o fs a) ∙ e ∙ rest_flat z k gs b) in
    let two = short_same o.name k.name a.name b.name x y a.named b.named one in
    let three = append_cancel_left padding.bytes (version_number o.version ∷ flat a.pairs) (version_number k.version ∷ flat b.pairs) two.1 in
    let four = cons_same three in
    record { name = two.0; version = one_version o.version k.version four.0; pairs = four.1 }

-- the bytes of the length are four
behind_length : (n m : ℕ) (xs ys : List ℕ) → n < 2 ^ 32 → m < 2 ^ 32 → signature.bytes ++ (to_be_bytes w32 n ++ xs) ≡ signature.bytes ++ (to_be_bytes w32 m ++ ys) → xs ≡ ys
behind_length n m xs ys l k e = (be32 n m xs ys l k (append_cancel_left signature.bytes (to_be_bytes w32 n ++ xs) (to_be_bytes w32 m ++ ys) e)).1

pub same_bytes : (o k : Shared) (b : List ℕ) → SpelledFile free o b → SpelledFile free k b → SameFile o k
same_bytes o k b (fs, x, e) (gs, y, d) =
    let same : signature.bytes ++ (to_be_bytes w32 x.size ++ flat x.rest) ≡ signature.bytes ++ (to_be_bytes w32 y.size ++ flat y.rest) = sym (ap flat x.fields) ∙ sym e ∙ d ∙ ap flat y.fields in
    let rest = behind_length x.size y.size (flat x.rest) (flat y.rest) x.in_bits y.in_bits same in
    let h = heads_same free free o k x.rest y.rest x.behind y.behind rest in
    let p : PairsOf free o.version o.holder x.behind.pairs = x.behind.held in
    let q : PairsOf free k.version k.holder y.behind.pairs = y.behind.held in
    record { name = h.name; version = h.version; holder = same_holders o.version o.holder k.holder x.behind.pairs y.behind.pairs p (subst (λ v. PairsOf free v k.holder y.behind.pairs) (sym h.version) q) h.pairs }
