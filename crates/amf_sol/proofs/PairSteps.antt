-- The pairs of a holder as they are kept, one by one.
use Rattle.std.proofs.Common.{◌≡◌, ℕ, zero, suc, ◌+◌, ◌<◌, ◌≤◌, List, [], ◌∷◌, ◌++◌, length, take, drop, get_or, refl, sym, ap, ◌∙◌, subst, arith}
use Rattle.std.specs.List.{AllByRecursion}
use Rattle.std.proofs.lemmas.List.{take_all}
use Rattle.amf_wire.specs.Style.{canonical}
use Rattle.amf_graph.specs.declared.lack.LackKind.{LackKind}
use Rattle.amf_graph.specs.declared.value.Value.{Value as Stored}
use Rattle.amf_graph.specs.declared.value.TextId.{TextId}
use Rattle.amf_graph.specs.Arena.{Arena, IsFinished, Names, text_at, value_content}
use Rattle.amf_graph.specs.ByName.{by_name}
use Rattle.amf_graph.specs.Graph.{Value, Graph, node_at}
use Rattle.amf_graph.specs.Reached.{IsReachedValue}
use Rattle.amf_graph.specs.Rooted.{RootedArena, content}
use Rattle.amf_graph.proofs.Finished.{finished}
use Rattle.amf_graph.proofs.Walks.{each_right}
use Rattle.amf3_spelling.specs.Tables.{Tables, no_tables, add_done}
use Rattle.amf_iso.specs.Contents.{pairs_of}
use Rattle.amf3_write.specs.PartLacks.{IsPartLack3}
use Rattle.amf0_write.specs.PartLacks0.{LacksOutside}
use Rattle.amf0_write.specs.Written0.{tables0, AreTables0}
use Rattle.amf0_write.proofs.ShortNames.{pairs_more}
use Rattle.amf_sol.specs.declared.sol_version.SolVersion.TheVariants.{Amf0, Amf3}
use Rattle.amf_sol.specs.SharedObject.{IsHolder, PairsOf}
use Rattle.amf_sol.specs.FileLacks.{IsHolderLack}
use Rattle.amf_sol.specs.FileParts.{Appends, AppendsBy, Pair3, Pair0, IsPairLack0}
use Rattle.amf_sol.proofs.FileWrites.{one_holder, holder_written3, holder_written0}
use Rattle.amf_sol.proofs.HolderLacks0.{Written0, none_written0, more_written0, pair_lack0}
use Rattle.amf_sol.proofs.HolderLacks3.{Written3, more_written3, part_lack3}
use Rattle.amf_sol.proofs.HolderNodes.{OtherValue, pairs_other, pairs_reached}

abbrev KeptPair : Type 0
KeptPair = TextId × Stored

module _ (a : Arena) where
  abbrev item : KeptPair → List ℕ × Value
  item p = (text_at a p.0.0, value_content a p.1)

  pairs_split : (ps : List KeptPair) (i : ℕ) (d : KeptPair) → i < length ps → pairs_of a ps ≡ pairs_of a (take i ps) ++ item (get_or ps i d) ∷ pairs_of a (drop (suc i) ps)
  pairs_split [] i d l = absurd (omega (arith, l))
  pairs_split (p ∷ ps) zero d l = refl
  pairs_split (p ∷ ps) (suc i) d l = ap (λ z. item p ∷ z) (pairs_split ps i d (omega (arith, l)))

  pairs_left : (ps : List KeptPair) (i : ℕ) (d : KeptPair) → i < length ps → pairs_of a (drop i ps) ≡ item (get_or ps i d) ∷ pairs_of a (drop (suc i) ps)
  pairs_left [] i d l = absurd (omega (arith, l))
  pairs_left (p ∷ ps) zero d l = refl
  pairs_left (p ∷ ps) (suc i) d l = pairs_left ps i d (omega (arith, l))

  none_left : (ps : List KeptPair) (i : ℕ) → length ps ≤ i → pairs_of a (drop i ps) ≡ []
  none_left [] zero l = refl
  none_left [] (suc i) l = refl
  none_left (p ∷ ps) zero l = absurd (omega (arith, l))
  none_left (p ∷ ps) (suc i) l = none_left ps i (omega (arith, l))

  -- what holds of all pairs holds of one
  pair_each : (Q : List ℕ × Value → Type 0) (ps : List KeptPair) (i : ℕ) (d : KeptPair) (ws : List (List ℕ × Value)) → i < length ps → pairs_of a ps ≡ ws → AllByRecursion Q ws → Q (item (get_or ps i d))
  pair_each Q ps i d ws l e all = (each_right Q (pairs_of a (take i ps)) (item (get_or ps i d) ∷ pairs_of a (drop (suc i) ps)) (subst (λ z. AllByRecursion Q z) (sym e ∙ pairs_split ps i d l) all)).0

-- the pairs are those of the holder, in the order of their names
module _ (g : RootedArena) (h : ℕ) (holder : IsHolder (content g) h) (ps : List KeptPair) (sorted : pairs_of g.arena ps ≡ by_name (node_at (content g) h).names) where
  abbrev G : Graph
  G = content g

  abbrev so_many : ℕ → List (List ℕ × Value)
  so_many i = pairs_of g.arena (take i ps)

  abbrev left_from : ℕ → List (List ℕ × Value)
  left_from i = pairs_of g.arena (drop i ps)

  pub reached_at : (i : ℕ) (d : KeptPair) → i < length ps → IsReachedValue G (value_content g.arena (get_or ps i d).1)
  reached_at i d l = pair_each g.arena (λ p. IsReachedValue G p.1) ps i d (by_name (node_at G h).names) l sorted (pairs_reached G h holder)

  other_at : (i : ℕ) (d : KeptPair) → i < length ps → OtherValue G h (value_content g.arena (get_or ps i d).1)
  other_at i d l = pair_each g.arena (λ p. OtherValue G h p.1) ps i d (by_name (node_at G h).names) l sorted (pairs_other G h holder)

  all_taken : (i : ℕ) → length ps ≤ i → so_many i ≡ by_name (node_at G h).names
  all_taken i l = ap (pairs_of g.arena) (take_all i ps l) ∙ sorted

  pub step3 : (i : ℕ) (d : KeptPair) (t t' : Tables) (a b c : List ℕ) → i < length ps → Written3 G h holder (so_many i) t a b → AppendsBy (Pair3 G (text_at g.arena (get_or ps i d).0.0) (value_content g.arena (get_or ps i d).1)) t t' b c → Written3 G h holder (so_many (i + 1)) t' a c
  step3 i d t t' a b c l w z = more_written3 G h holder (so_many i) (so_many (i + 1)) (text_at g.arena (get_or ps i d).0.0) (value_content g.arena (get_or ps i d).1) t t' a b c (pairs_more g.arena ps i d l) (other_at i d l) w z

  pub lack3 : (i : ℕ) (d : KeptPair) (t : Tables) (a b : List ℕ) → i < length ps → Written3 G h holder (so_many i) t a b → (number : ℕ) (kind : LackKind) → IsPartLack3 G (value_content g.arena (get_or ps i d).1) t.done number kind → IsHolderLack Amf3 G number kind
  lack3 i d t a b l w number kind p = part_lack3 G h holder (so_many i) (left_from (suc i)) (text_at g.arena (get_or ps i d).0.0) (value_content g.arena (get_or ps i d).1) t a b (sym sorted ∙ pairs_split g.arena ps i d l) (other_at i d l) w number kind p

  pub end3 : (i : ℕ) (t : Tables) (a b : List ℕ) → length ps ≤ i → Written3 G h holder (so_many i) t a b → Appends (PairsOf canonical Amf3 G) a b
  end3 i t a b l w = holder_written3 G h holder t a b (subst (λ z. Written3 G h holder z t a b) (all_taken i l) w)

  pub begin0 : (i : ℕ) (t : Tables) (a : List ℕ) → IsFinished g.arena → Names g.arena g.root → IsHolder G i → t ≡ add_done no_tables i → Written0 G h holder [] (left_from 0) t a a
  begin0 i t a f n other e =
      let same : i ≡ h = one_holder G i h other holder.pairs in
      let w = finished g.arena g.root f n in
      subst (λ z. Written0 G h holder [] z t a a) (sym sorted) (none_written0 G h holder w.there t a (e ∙ ap (add_done no_tables) same))

  pub step0 : (i : ℕ) (d : KeptPair) (t t' : Tables) (a b c : List ℕ) → i < length ps → Written0 G h holder (so_many i) (left_from i) t a b → AreTables0 G (tables0 t') → AppendsBy (Pair0 G (text_at g.arena (get_or ps i d).0.0) (value_content g.arena (get_or ps i d).1)) (tables0 t) (tables0 t') b c → Written0 G h holder (so_many (i + 1)) (left_from (i + 1)) t' a c
  step0 i d t t' a b c l w tables z =
      let next : suc i ≡ i + 1 = omega arith in
      let here : Written0 G h holder (so_many i) (item g.arena (get_or ps i d) ∷ left_from (suc i)) t a b = subst (λ q. Written0 G h holder (so_many i) q t a b) (pairs_left g.arena ps i d l) w in
      subst (λ k. Written0 G h holder (so_many (i + 1)) (left_from k) t' a c) next
      (more_written0 G h holder (so_many i) (so_many (i + 1)) (left_from (suc i)) (text_at g.arena (get_or ps i d).0.0) (value_content g.arena (get_or ps i d).1) t t' a b c (pairs_more g.arena ps i d l) here tables z)

  pub lack0 : (i : ℕ) (d : KeptPair) (t : Tables) (a b : List ℕ) → i < length ps → Written0 G h holder (so_many i) (left_from i) t a b → (number : ℕ) (kind : LackKind) → IsPairLack0 G (text_at g.arena (get_or ps i d).0.0) (value_content g.arena (get_or ps i d).1) (tables0 t) number kind → LacksOutside G 1 number kind
  lack0 i d t a b l w number kind p =
      pair_lack0 G h holder (so_many i) (left_from (suc i)) (text_at g.arena (get_or ps i d).0.0) (value_content g.arena (get_or ps i d).1) t a b (sym sorted ∙ pairs_split g.arena ps i d l)
      (subst (λ q. Written0 G h holder (so_many i) q t a b) (pairs_left g.arena ps i d l) w) number kind p

  pub end0 : (i : ℕ) (t : Tables) (a b : List ℕ) → length ps ≤ i → Written0 G h holder (so_many i) (left_from i) t a b → Appends (PairsOf canonical Amf0 G) a b
  end0 i t a b l w = holder_written0 G h holder t a b (subst (λ z. Written0 G h holder (by_name (node_at G h).names) z t a b) (none_left g.arena ps i l) (subst (λ z. Written0 G h holder z (left_from i) t a b) (all_taken i l) w))
