-- A file of AMF 0: what was written lacks nothing, and what lacks a spelling in a pair lacks one in the file.
use Rattle.std.proofs.Common.{◌≡◌, ℕ, zero, suc, ◌<◌, true, false, cond, List, [], ◌∷◌, ◌++◌, length, slice_get, Some, refl, sym, ap, ◌∙◌, subst, inl, inr, arith}
use Rattle.std.specs.List.{AllByRecursion}
use Rattle.std.proofs.lemmas.Bool.{cases_lt}
use Rattle.std.proofs.lemmas.Option.{same_Some, slice_get_within}
use Rattle.amf_io.specs.Field.{Field}
use Rattle.amf_wire.specs.Style.{canonical}
use Rattle.amf_graph.specs.declared.lack.LackKind.{LackKind}
use Rattle.amf_graph.specs.declared.lack.LackKind.TheVariants.{EmptyName, NoForm, LongName, Shared, FarReference, LongFile}
use Rattle.amf_graph.specs.Graph.{Value, Head, xml_document, date, array, object, wrapper, xml, bytes, ints, uints, doubles, values, dictionary, Graph, node_at}
use Rattle.amf_graph.specs.ByName.{by_name}
use Rattle.amf_graph.specs.Order.{seconds, values_met, IsOrder}
use Rattle.amf_graph.specs.Reached.{Reached}
use Rattle.amf_graph.proofs.Alls.{each_at}
use Rattle.amf_graph.proofs.Lists.{entry, no_entry}
use Rattle.amf_graph.proofs.NameOrder.{by_name_all, by_name_all_back}
use Rattle.amf_graph.proofs.OrderExists.{order_exists}
use Rattle.amf_graph.proofs.Walks.{each_right, walk_stays, walks_fixed}
use Rattle.amf3_spelling.specs.Tables.{Tables, no_tables, add_done}
use Rattle.amf3_spelling.specs.Then.{Plain}
use Rattle.amf0_spelling.specs.Lacks0.{HasNoForm, HasShortNames, IsShortName, class_of, enters0, is_loose0, Lacks0}
use Rattle.amf0_spelling.specs.LacksMet.{LacksMet}
use Rattle.amf0_spelling.specs.Meets.{Meets, over, first, IsMet}
use Rattle.amf0_spelling.specs.Segments0.{Short}
use Rattle.amf0_spelling.specs.Spells0.{Spells0}
use Rattle.amf0_spelling.specs.Tables0.{Tables0, no_tables0}
use Rattle.amf0_spelling.proofs.Found0.{FineNode, FineAgain, Level}
use Rattle.amf0_spelling.proofs.Stays0.{Proper, proper_none, stays_done, keeps_values_in}
use Rattle.amf0_spelling.proofs.LackTwice0.{met_again_is_twice}
use Rattle.amf0_spelling.proofs.Met0.{Onward, Fresh, covers_spells}
use Rattle.amf0_write.specs.PartLacks0.{LacksOutside}
use Rattle.amf0_write.specs.Written0.{tables0, AreTables0}
use Rattle.amf0_write.proofs.FileLacks.{FileLeft, file_tables, file_begins, file_goes_on, lack_of_file}
use Rattle.amf_sol.specs.SharedObject.{IsHolder, PairsBy, file_tables0}
use Rattle.amf_sol.specs.FileParts.{AppendsBy, IsPairLack0, Pair0}
use Rattle.amf_sol.proofs.HolderNodes.{holder_met, order_begun}
use Rattle.amf_sol.proofs.WrittenPairs.{no_pairs_yet, pair_appended}

module _ (g : Graph) (h : ℕ) (holder : IsHolder g h) where
  enters : enters0 (node_at g h).head ≡ true
  enters = ap enters0 holder.pairs.head

  -- What was written.

  -- what pairs do to the tables: they are met in their order, and all of it is fine
  record Covers (t t' : Tables0) (ps : List (List ℕ × Value)) : Type 0 where
    stays : (k i : ℕ) → slice_get t.amf3.done k ≡ Some i → slice_get t'.amf3.done k ≡ Some i
    onward : Onward g (h ∷ []) t.amf3.done t'.amf3.done (seconds ps)
    fresh : Fresh g (h ∷ []) (length t.amf3.done) t'.amf3.done
    short : AllByRecursion (λ p. IsShortName p.0) ps

  covers_pairs : (ps : List (List ℕ × Value)) (t : Tables0) (fs : List Field) (t' : Tables0) → Proper g t → Level g (h ∷ []) t → PairsBy (λ x. Plain (Short x)) (Spells0 canonical g) ps t fs t' → Covers t t' ps
  covers_pairs [] t fs t' p l z = subst (λ w. Covers t w []) (sym z.1) (record {
    stays = λ k i e. e;
    onward = λ ws all ks w f. (ks, w, f);
    fresh = λ k i m e. (let a = slice_get_within t.amf3.done k i e in absurd (omega (arith, a, m)));
    short = tt;
  })
  covers_pairs (q ∷ ps) t fs t' p l z =
      let named : z.mid ≡ t = z.first.1 in
      let y = z.second in
      let spelled : Spells0 canonical g q.1 t y.front y.mid = subst (λ w. Spells0 canonical g q.1 w y.front y.mid) named y.first in
      let a = covers_spells g (h ∷ []) q.1 t y.front y.mid p l spelled in
      let k = keeps_values_in g canonical spelled.0 false q.1 t y.front y.mid spelled.1 in
      let x = y.second in
      let rest : PairsBy (λ x. Plain (Short x)) (Spells0 canonical g) ps y.mid x.back t' = subst (λ w. PairsBy (λ x. Plain (Short x)) (Spells0 canonical g) ps w x.back t') x.first.1 x.second in
      let b = covers_pairs ps y.mid x.back t' (k.proper p) a.level rest in
      record {
        stays = λ n i e. b.stays n i (k.stays n i e);
        onward = λ ws all ks w f. (let o = b.onward ws all ks w f in a.onward (seconds ps ++ ws) all o.0 o.1 o.2);
        fresh = fresh_both (length t.amf3.done) y.mid.amf3.done t'.amf3.done b.stays a.fresh b.fresh;
        short = (z.first.0.1, b.short);
      }
    where
      fresh_both : (before : ℕ) (mid after : List ℕ) → ((k i : ℕ) → slice_get mid k ≡ Some i → slice_get after k ≡ Some i) → Fresh g (h ∷ []) before mid → Fresh g (h ∷ []) (length mid) after → Fresh g (h ∷ []) before after
      fresh_both before mid after stays a b k i l e = elim (cases_lt k (length mid)) [
        | inl below ↦ (
            let o = entry mid k below in
            let same : o.0 ≡ i = same_Some o.0 i (sym (stays k o.0 o.1) ∙ e) in
            a k i l (o.1 ∙ ap (λ w. Some w) same))
        | inr above ↦ b k i above e
      ]

  loose_not : (a : Head) → is_loose0 a ≡ true → enters0 a ≡ true → ⊥
  loose_not array l e = cc
  loose_not (object t) l e = cc
  loose_not (date p) l e = cc
  loose_not (xml_document x) l e = cc
  loose_not (wrapper c) l e = cc
  loose_not (xml x) l e = cc
  loose_not (bytes x) l e = cc
  loose_not (ints c x) l e = cc
  loose_not (uints c x) l e = cc
  loose_not (doubles c x) l e = cc
  loose_not (values c x) l e = cc
  loose_not (dictionary c) l e = cc

  -- the holder itself is fine
  holder_fine : AllByRecursion (λ p. IsShortName p.0) (node_at g h).names → FineNode (node_at g h)
  holder_fine short = record {
    form = λ z. subst (λ a. HasNoForm (node_at g h) a) holder.pairs.head z;
    short = (subst (λ a. IsShortName (class_of a)) (sym holder.pairs.head) (omega arith), short);
  }

  proper : Proper g (file_tables0 h)
  proper = (stays_done g no_tables0 h holder.pairs.there (λ k e. no_entry k h e)).proper (proper_none g)

  level : Level g (h ∷ []) (file_tables0 h)
  level = ap (λ b. cond b (h ∷ []) []) (sym enters)

  module _ (fs : List Field) (t : Tables0) (spelled : PairsBy (λ x. Plain (Short x)) (Spells0 canonical g) (by_name (node_at g h).names) (file_tables0 h) fs t) where
    covered : Covers (file_tables0 h) t (by_name (node_at g h).names)
    covered = covers_pairs (by_name (node_at g h).names) (file_tables0 h) fs t proper level spelled

    abbrev all : List ℕ
    all = t.amf3.done

    onward : (more : List ℕ) × Meets g (h ∷ []) (seconds (by_name (node_at g h).names) ++ []) all more × AllByRecursion (FineAgain g 1 all) more
    onward = covered.onward [] all [] over tt

    met : IsMet g all onward.0
    met =
        let w : Meets g (h ∷ []) (values_met (node_at g h) ++ []) all onward.0 = subst (λ z. Meets g (h ∷ []) (z ++ []) all onward.0) (sym (holder_met g h holder)) onward.1 in
        subst (λ v. Meets g [] (v ∷ []) all onward.0) (sym holder.pairs.root) (first h holder.pairs.there (λ k e. no_entry k h e) w)

    fine : (k i : ℕ) → slice_get all k ≡ Some i → FineNode (node_at g i)
    fine zero i e =
        let same : h ≡ i = same_Some h i (sym (covered.stays 0 h refl) ∙ e) in
        subst (λ j. FineNode (node_at g j)) same (holder_fine (by_name_all_back (λ p. IsShortName p.0) (node_at g h).names covered.short))
    fine (suc k) i e = covered.fresh (suc k) i (omega arith) e

    lacks_nothing : (number : ℕ) (kind : LackKind) → LacksMet g 1 all onward.0 number kind → ⊥
    lacks_nothing n EmptyName (i, e, z) = z
    lacks_nothing n NoForm (i, e, z) = (fine n i e).form z
    lacks_nothing n LongName (i, e, z) = z (fine n i e).short
    lacks_nothing n Shared (i, e, z) = let a = each_at (FineAgain g 1 all) onward.0 z.1.0 n onward.2 z.1.1 in loose_not (node_at g i).head z.0 (a.enters i e)
    lacks_nothing n FarReference (i, e, z) = let a = each_at (FineAgain g 1 all) onward.0 z.2.0 n onward.2 z.2.1 in let b = a.near in let c = z.1 in absurd (omega (arith, b, c))
    lacks_nothing n LongFile (i, e, z) = z

    pub spelled_lacks_nothing0 : (order : List ℕ) → IsOrder g order → (number : ℕ) (kind : LackKind) → Lacks0 g 1 order number kind → ⊥
    spelled_lacks_nothing0 order o number kind l =
        let same : order ≡ all = walks_fixed o (met_again_is_twice.order g all onward.0 met) in
        lacks_nothing number kind ((met_again_is_twice.lacks g 1 all onward.0 met number kind).1 (subst (λ z. Lacks0 g 1 z number kind) same l))

  -- Pairs that were written, and those that are left.

  pub record Written0 (ps rest : List (List ℕ × Value)) (t : Tables) (a b : List ℕ) : Type 0 where
    pub tables : AreTables0 g (tables0 t)
    pub spelled : AppendsBy (PairsBy (λ x. Plain (Short x)) (Spells0 canonical g) ps) (file_tables0 h) (tables0 t) a b
    pub left : FileLeft g h (tables0 t) (seconds rest)

  pub none_written0 : ((i : ℕ) → Reached g i → i < length g.nodes) → (t : Tables) (a : List ℕ) → t ≡ add_done no_tables h → Written0 [] (by_name (node_at g h).names) t a a
  none_written0 there t a e =
      let o = order_exists g there in
      subst (λ w. Written0 [] (by_name (node_at g h).names) w a a) (sym e) (record {
        tables = file_tables g h enters;
        spelled = no_pairs_yet (λ x. Plain (Short x)) (Spells0 canonical g) (file_tables0 h) a;
        left = subst (λ z. FileLeft g h (file_tables0 h) z) (holder_met g h holder) (file_begins g h o.0 holder.pairs.root holder.pairs.there enters o.1);
      })

  pub more_written0 : (ps qs rest : List (List ℕ × Value)) (x : List ℕ) (v : Value) (t t' : Tables) (a b c : List ℕ) → qs ≡ ps ++ (x, v) ∷ [] → Written0 ps ((x, v) ∷ rest) t a b → AreTables0 g (tables0 t') → AppendsBy (Pair0 g x v) (tables0 t) (tables0 t') b c → Written0 qs rest t' a c
  more_written0 ps qs rest x v t t' a b c same w tables (fs, z, e) =
      let y = z.second in
      let named : z.mid ≡ tables0 t = z.first.1 in
      let end : tables0 t' ≡ y.mid = y.second.1 in
      let value : Spells0 canonical g v (tables0 t) y.front (tables0 t') = subst (λ k. Spells0 canonical g v (tables0 t) y.front k) (sym end) (subst (λ k. Spells0 canonical g v k y.front y.mid) named y.first) in
      record {
        tables = tables;
        spelled = pair_appended (λ x. Plain (Short x)) (Spells0 canonical g) ps qs x v (file_tables0 h) (tables0 t) (tables0 t') a b c same w.spelled (fs, z, e);
        left = file_goes_on g h (tables0 t) (tables0 t') v (seconds rest) y.front w.left value;
      }

  -- the lack of the next pair is one of the file
  pub pair_lack0 : (ps rest : List (List ℕ × Value)) (x : List ℕ) (v : Value) (t : Tables) (a b : List ℕ) → by_name (node_at g h).names ≡ ps ++ (x, v) ∷ rest → Written0 ps ((x, v) ∷ rest) t a b → (number : ℕ) (kind : LackKind) → IsPairLack0 g x v (tables0 t) number kind → LacksOutside g 1 number kind
  pair_lack0 ps rest x v t a b parts w number kind (inr p) = lack_of_file g h holder.pairs.root enters holder.unheld (tables0 t) v (seconds rest) w.left number kind p
  pair_lack0 ps rest x v t a b parts w number kind (inl (long, at_first, is_long)) =
      let f = w.left in
      let o = met_again_is_twice.order g f.order f.more f.whole in
      let first_is : slice_get f.order 0 ≡ Some h = walk_stays (order_begun g h holder f.order o) 0 h refl in
      let not_short : HasShortNames (node_at g h) → ⊥ = λ s.
      (let all : AllByRecursion (λ p. IsShortName p.0) (ps ++ (x, v) ∷ rest) = subst (λ l. AllByRecursion (λ p. IsShortName p.0) l) parts (by_name_all (λ p. IsShortName p.0) (node_at g h).names s.1) in
      let here : IsShortName x = (each_right (λ p. IsShortName p.0) ps ((x, v) ∷ rest) all).0 in
      omega (arith, here, long)) in
      subst (λ n. LacksOutside g 1 n kind) (sym at_first) (subst (λ k. LacksOutside g 1 0 k) (sym is_long) (f.order, o, (h, first_is, not_short)))
