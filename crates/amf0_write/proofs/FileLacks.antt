-- What lacks a spelling as a part lacks one in the whole file, whose parts are the members of an object that is in no table.
use Rattle.std.proofs.Common.{◌≡◌, ℕ, zero, suc, ◌<◌, true, false, cond, List, [], ◌∷◌, ◌++◌, length, take, slice_get, Some, sym, refl, ap, ◌∙◌, subst, inl, inr, arith, append_assoc, append-nil}
use Rattle.std.specs.List.{AllByRecursion}
use Rattle.std.proofs.lemmas.Option.{same_Some, slice_get_within}
use Rattle.amf_io.specs.Field.{Field}
use Rattle.amf_wire.specs.Style.{canonical}
use Rattle.amf_graph.specs.declared.lack.LackKind.{LackKind}
use Rattle.amf_graph.specs.declared.lack.LackKind.TheVariants.{EmptyName, NoForm, LongName, Shared, FarReference, LongFile}
use Rattle.amf_graph.specs.Graph.{Value, node, Graph, node_at}
use Rattle.amf_graph.specs.ByName.{by_name}
use Rattle.amf_graph.specs.Order.{is_array, seconds, values_met, IsOrder}
use Rattle.amf_graph.specs.Reached.{Holds, Reached}
use Rattle.amf_graph.proofs.Alls.{all_append, each_from}
use Rattle.amf_graph.proofs.Lists.{cons_same, at_left, at_right, no_entry}
use Rattle.amf_graph.proofs.NameOrder.{by_name_all}
use Rattle.amf_graph.proofs.OrderExists.{each_met}
use Rattle.amf_graph.proofs.Reaching.{order_once, order_reached}
use Rattle.amf_graph.proofs.Walks.{walks_fixed}
use Rattle.amf3_spelling.specs.Tables.{no_tables, add_done}
use Rattle.amf0_spelling.specs.Lacks0.{enters0, entered}
use Rattle.amf0_spelling.specs.LacksMet.{LacksMet}
use Rattle.amf0_spelling.specs.Meets.{Meets, over, past, again, first, IsMet, IsAgain}
use Rattle.amf0_spelling.specs.Spells0.{Spells0}
use Rattle.amf0_spelling.specs.Tables0.{Tables0, no_tables0}
use Rattle.amf0_spelling.proofs.Entered.{take_front}
use Rattle.amf0_spelling.proofs.Found0.{Level}
use Rattle.amf0_spelling.proofs.Stays0.{Proper, proper_none, stays_done, keeps_values_in}
use Rattle.amf0_spelling.proofs.LackTwice0.{met_again_is_twice}
use Rattle.amf0_spelling.proofs.Met0.{covers_spells}
use Rattle.amf0_spelling.proofs.Meeting.{meets_prefix, meets_stays, meets_first, meets_fixed, walk_meets}
use Rattle.amf0_write.specs.PartLacks0.{outside_of, PlaceLacks0, IsPartLack0, LacksOutside}
use Rattle.amf0_write.specs.Written0.{tables0, AreTables0}
use Rattle.amf0_write.proofs.SearchSteps.{not_both, place_same}

-- a walk over values, and over others behind them
pub record Cut (g : Graph) (met : List ℕ) (us vs : List Value) (order more : List ℕ) : Type 0 where
  pub all : List ℕ
  pub ks : List ℕ
  pub rest : List ℕ
  pub front : Meets g met us all ks
  pub back : Meets g all vs order rest
  pub joined : more ≡ ks ++ rest

pub cut : {g : Graph} {met order more : List ℕ} {ws : List Value} → Meets g met ws order more → (us vs : List Value) → ws ≡ us ++ vs → Cut g met us vs order more
cut {g} {met} {order} {more} w [] vs e = record { all = met; ks = []; rest = more; front = over; back = subst (λ z. Meets g met z order more) e w; joined = refl }
cut over (u ∷ us) vs e = cc
cut {g} {met} (past x w) (u ∷ us) vs e =
    let s = cons_same e in
    let o = cut w us vs s.1 in
    record { all = o.all; ks = o.ks; rest = o.rest; front = subst (λ z. Meets g met (z ∷ us) o.all o.ks) s.0 (past x o.front); back = o.back; joined = o.joined }
cut {g} {met} (again i k f w) (u ∷ us) vs e =
    let s = cons_same e in
    let o = cut w us vs s.1 in
    record { all = o.all; ks = k ∷ o.ks; rest = o.rest; front = subst (λ z. Meets g met (z ∷ us) o.all (k ∷ o.ks)) s.0 (again i k f o.front); back = o.back; joined = ap (λ z. k ∷ z) o.joined }
cut {g} {met} (first i l n w) (u ∷ us) vs e =
    let s = cons_same e in
    let o = cut w (values_met (node_at g i) ++ us) vs (ap (λ z. values_met (node_at g i) ++ z) s.1 ∙ sym (append_assoc (values_met (node_at g i)) us vs)) in
    record { all = o.all; ks = o.ks; rest = o.rest; front = subst (λ z. Meets g met (z ∷ us) o.all o.ks) s.0 (first i l n o.front); back = o.back; joined = o.joined }

-- what lacks a spelling lacks it still, whatever is met behind it
pub lasts : (g : Graph) (outside before place i : ℕ) (kind : LackKind) (met : List ℕ) (us vs : List Value) (order more : List ℕ) (c : Cut g met us vs order more) → slice_get c.all place ≡ Some i → PlaceLacks0 g outside before c.all c.ks place i kind → PlaceLacks0 g outside before order more place i kind
lasts g outside before place i kind met us vs order more c e z =
    let p = meets_prefix c.back in
    let l = slice_get_within c.all place i e in
    let same : take place c.all ≡ take place order = sym (ap (take place) p.1 ∙ take_front c.all p.0 place (omega (arith, l))) in
    more_again kind (place_same g outside before c.all order c.ks place i kind same z)
  where
    still : IsAgain c.ks place → IsAgain more place
    still (j, a) = (j, subst (λ w. slice_get w j ≡ Some place) (sym c.joined) (at_left c.ks c.rest j place a))

    more_again : (kind : LackKind) → PlaceLacks0 g outside before order c.ks place i kind → PlaceLacks0 g outside before order more place i kind
    more_again EmptyName z = z
    more_again NoForm z = z
    more_again LongName z = z
    more_again Shared z = (z.0, still z.1)
    more_again FarReference z = (z.0, z.1, still z.2)
    more_again LongFile z = z

-- the tables of a file: the object that holds the members is done, and in no table
pub file_tables : (g : Graph) (i : ℕ) → enters0 (node_at g i).head ≡ true → AreTables0 g (tables0 (add_done no_tables i))
file_tables g i enters = record {
  once = λ j k x e f. one j k x e f;
  outside = i ∷ [];
  level = ap (λ b. cond b (i ∷ []) []) (sym enters);
  loose = λ k j e f. let s = at_one k j e in absurd (not_both (ap (λ w. enters0 (node_at g w).head) (sym s) ∙ enters) f);
}
  where
    at_one : (k j : ℕ) → slice_get (i ∷ []) k ≡ Some j → i ≡ j
    at_one zero j e = same_Some i j e
    at_one (suc k) j e = absurd (no_entry k j e)

    at_zero : (k j : ℕ) → slice_get (i ∷ []) k ≡ Some j → k ≡ 0
    at_zero zero j e = refl
    at_zero (suc k) j e = absurd (no_entry k j e)

    one : (j k x : ℕ) → slice_get (i ∷ []) j ≡ Some x → slice_get (i ∷ []) k ≡ Some x → j ≡ k
    one j k x e f = at_zero j x e ∙ sym (at_zero k x f)

-- No value leads to the holder.

-- nothing that is reached holds the node
abbrev pub Unheld : Graph → ℕ → Type 0
Unheld g h = (j : ℕ) → Reached g j → Holds (node_at g j) (node h) → ⊥

module _ (g : Graph) (h : ℕ) (unheld : Unheld g h) where
  abbrev IsOther : Value → Type 0
  IsOther v = v ≡ node h → ⊥

  seconds_other : (ps : List (List ℕ × Value)) → AllByRecursion (λ p. IsOther p.1) ps → AllByRecursion IsOther (seconds ps)
  seconds_other [] k = tt
  seconds_other (p ∷ ps) k = (k.0, seconds_other ps k.1)

  met_other : (i : ℕ) → Reached g i → AllByRecursion IsOther (values_met (node_at g i))
  met_other i r =
      let a = node_at g i in
      let names : AllByRecursion (λ (p : List ℕ × Value). IsOther p.1) a.names = each_from (λ (p : List ℕ × Value). IsOther p.1) a.names (λ k p e s. unheld i r (inr (k, p.0, subst (λ v. slice_get a.names k ≡ Some (p.0, v)) s e))) in
      each_met IsOther (is_array a.head) (by_name a.names) a.values
      (seconds_other (by_name a.names) (by_name_all (λ p. IsOther p.1) a.names names))
      (each_from IsOther a.values (λ k v e s. unheld i r (inl (k, subst (λ w. slice_get a.values k ≡ Some w) s e))))

  met_once : {met all ks : List ℕ} {vs : List Value} → Meets g met vs all ks → ((k i : ℕ) → slice_get all k ≡ Some i → Reached g i) → slice_get met 0 ≡ Some h → AllByRecursion IsOther vs → IsAgain ks 0 → ⊥
  met_once over r e q (j, a) = no_entry j 0 a
  met_once (past x w) r e q a = met_once w r e q.1 a
  met_once {met} (again i k f w) r e q (zero, a) =
      let same : i ≡ h = same_Some i h (sym f ∙ ap (λ z. slice_get met z) (same_Some k 0 a) ∙ e) in
      q.0 (ap (λ z. node z) same)
  met_once (again i k f w) r e q (suc j, a) = met_once w r e q.1 (j, a)
  met_once {met} (first {vs = vs} i l n w) r e q a =
      met_once w r (at_left met (i ∷ []) 0 h e) (all_append IsOther (values_met (node_at g i)) vs (met_other i (r (length met) i (meets_first met i w))) q.1) a

-- What is left of a file.

-- the members of the holder that are left, from the tables so far
pub record FileLeft (g : Graph) (h : ℕ) (t : Tables0) (vs : List Value) : Type 0 where
  pub proper : Proper g t
  pub level : Level g (h ∷ []) t
  pub order : List ℕ
  pub more : List ℕ
  pub whole : IsMet g order more
  pub rest : List ℕ
  pub left : Meets g t.amf3.done vs order rest
  pub again : (k : ℕ) → IsAgain rest k → IsAgain more k

begun : {g : Graph} {all ks : List ℕ} (h : ℕ) → Meets g [] (node h ∷ []) all ks → Meets g (h ∷ []) (values_met (node_at g h)) all ks
begun h (again i k e w) = absurd (no_entry k i e)
begun {g} {all} {ks} h (first i l n w) = subst (λ z. Meets g (h ∷ []) z all ks) (append-nil (values_met (node_at g h))) w

-- at its begin all members are left
pub file_begins : (g : Graph) (h : ℕ) (order : List ℕ) → g.root ≡ node h → h < length g.nodes → enters0 (node_at g h).head ≡ true → IsOrder g order → FileLeft g h (tables0 (add_done no_tables h)) (values_met (node_at g h))
file_begins g h order root there enters o =
    let w = walk_meets o in record {
      proper = (stays_done g no_tables0 h there (λ k e. no_entry k h e)).proper (proper_none g);
      level = ap (λ b. cond b (h ∷ []) []) (sym enters);
      order = order;
      more = w.0;
      whole = w.1;
      rest = w.0;
      left = begun h (subst (λ v. Meets g [] (v ∷ []) order w.0) root w.1);
      again = λ k a. a;
    }

-- a part that was written leaves those behind it
pub file_goes_on : (g : Graph) (h : ℕ) (t t' : Tables0) (v : Value) (vs : List Value) (fs : List Field) → FileLeft g h t (v ∷ vs) → Spells0 canonical g v t fs t' → FileLeft g h t' vs
file_goes_on g h t t' v vs fs f x =
    let o = covers_spells g (h ∷ []) v t fs t' f.proper f.level x in
    let w = o.onward [] t'.amf3.done [] over tt in
    let c = cut f.left (v ∷ []) vs refl in
    let same = meets_fixed f.proper.amf3.once w.1 c.front in record {
      proper = (keeps_values_in g canonical x.0 false v t fs t' x.1).proper f.proper;
      level = o.level;
      order = f.order;
      more = f.more;
      whole = f.whole;
      rest = c.rest;
      left = subst (λ z. Meets g z vs f.order c.rest) (sym same.0) c.back;
      again = λ k a. f.again k (let o = at_right c.ks c.rest a.0 k a.1 in (o.0, subst (λ z. slice_get z o.0 ≡ Some k) (sym c.joined) o.1));
    }

module _ (g : Graph) (h : ℕ) (root : g.root ≡ node h) (enters : enters0 (node_at g h).head ≡ true) (unheld : Unheld g h) (t : Tables0) (v : Value) (vs : List Value) (f : FileLeft g h t (v ∷ vs)) where
  one : outside_of g t ≡ 1
  one = let e : length (entered g t.amf3.done) ≡ suc (length t.nodes) = ap length (sym f.level) in omega (arith, e)

  is_order : IsOrder g f.order
  is_order = met_again_is_twice.order g f.order f.more f.whole

  held_once : IsAgain f.more 0 → ⊥
  held_once a =
      let w = begun h (subst (λ v. Meets g [] (v ∷ []) f.order f.more) root f.whole) in
      let reached : (k i : ℕ) → slice_get f.order k ≡ Some i → Reached g i = λ k i e. (order_reached g f.order is_order i).1 (k, e) in
      met_once g h unheld w reached refl (met_other g h unheld h (reached 0 h (meets_stays w 0 h refl))) a

  -- but for the holder, what no index names is a date or an XML document
  at_first : (number : ℕ) → length (entered g (take number f.order)) < 1 → number ≡ 0
  at_first zero l = refl
  at_first (suc n) l =
      let w = begun h (subst (λ v. Meets g [] (v ∷ []) f.order f.more) root f.whole) in
      let p = meets_prefix w in
      let some : length (entered g (take (suc n) f.order)) ≡ suc (length (entered g (take n p.0))) = ap (λ z. length (entered g (take (suc n) z))) p.1 ∙ ap (λ b. length (cond b (h ∷ entered g (take n p.0)) (entered g (take n p.0)))) enters in
      absurd (omega (arith, l, some))

  lacks_met : (number i : ℕ) (kind : LackKind) → slice_get f.order number ≡ Some i → PlaceLacks0 g 1 (length t.amf3.done) f.order f.rest number i kind → LacksMet g 1 f.order f.more number kind
  lacks_met number i EmptyName e z = absurd z
  lacks_met number i NoForm e z = (i, e, z.1)
  lacks_met number i LongName e z = (i, e, z.1)
  lacks_met number i Shared e (inl l, a) = (i, e, (l, f.again number a))
  lacks_met number i Shared e (inr (n, l), a) = absurd (held_once (subst (λ z. IsAgain f.more z) (at_first number l) (f.again number a)))
  lacks_met number i FarReference e (n, l, a) = (i, e, (n, l, f.again number a))
  lacks_met number i LongFile e z = absurd z

  -- what lacks a spelling in a part of a file lacks one in the file
  pub lack_of_file : (number : ℕ) (kind : LackKind) → IsPartLack0 g v t number kind → LacksOutside g 1 number kind
  lack_of_file number kind (order, all, ks, o, w, k) =
      let c = cut f.left (v ∷ []) vs refl in
      let same : order ≡ f.order = walks_fixed o is_order in
      let fixed = meets_fixed f.proper.amf3.once w c.front in
      let l = k.lacks in
      let there : slice_get c.all l.1 ≡ Some l.0 = subst (λ z. slice_get z l.1 ≡ Some l.0) fixed.0 l.3 in
      let prefix = meets_prefix c.back in
      let at : slice_get f.order l.1 ≡ Some l.0 = subst (λ z. slice_get z l.1 ≡ Some l.0) (sym prefix.1) (at_left c.all prefix.0 l.1 l.0 there) in
      let place : l.1 ≡ number = order_once g f.order is_order l.1 number l.0 at (subst (λ z. slice_get z number ≡ Some l.0) same l.2) in
      let here : PlaceLacks0 g 1 (length t.amf3.done) c.all c.ks l.1 l.0 kind = subst (λ z. PlaceLacks0 g 1 (length t.amf3.done) c.all z l.1 l.0 kind) fixed.1 (subst (λ z. PlaceLacks0 g 1 (length t.amf3.done) z ks l.1 l.0 kind) fixed.0 (subst (λ z. PlaceLacks0 g z (length t.amf3.done) all ks l.1 l.0 kind) one l.4)) in
      let still = lasts g 1 (length t.amf3.done) l.1 l.0 kind t.amf3.done (v ∷ []) vs f.order f.rest c there here in
      (f.order, is_order, (met_again_is_twice.lacks g 1 f.order f.more f.whole number kind).0 (lacks_met number l.0 kind (subst (λ z. slice_get f.order z ≡ Some l.0) place at) (subst (λ z. PlaceLacks0 g 1 (length t.amf3.done) f.order f.rest z l.0 kind) place still)))
