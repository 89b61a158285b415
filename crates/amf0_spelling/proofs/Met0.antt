-- A canonical spelling in AMF 0 walks the graph in order, over nodes that have a form, and names by an index what is met again.
use Rattle.std.specs.Int.{to_be_bytes, w32}
use Rattle.std.specs.List.{AllByRecursion}
use Rattle.std.proofs.Common.{◌≡◌, ℕ, zero, suc, ◌<◌, ◌≤◌, ◌^◌, Bool, true, false, List, [], ◌∷◌, ◌++◌, length, take, slice_get, Some, sym, refl, ap, ◌∙◌, subst, inl, inr, arith, append-nil, ◌+◌}
use Rattle.std.proofs.lemmas.List.{nil_from_length}
use Rattle.std.proofs.lemmas.Option.{same_Some, slice_get_within}
use Rattle.std.proofs.lemmas.Bool.{cases_lt}
use Rattle.amf_io.specs.Field.{Field, field, u32_kind, no_refusal}
use Rattle.amf_wire.specs.Style.{canonical}
use Rattle.amf_graph.specs.Graph.{Value, leaf, node, Head, xml_document, date, array, object, wrapper, xml, bytes, ints, uints, doubles, values, dictionary, Fits, Node, Graph, node_at}
use Rattle.amf_graph.specs.ByName.{by_name}
use Rattle.amf_graph.specs.Order.{seconds, values_met, IsDistinct}
use Rattle.amf_graph.proofs.Lists.{entry, at_left, at_end, length_pushed}
use Rattle.amf_graph.proofs.NameOrder.{by_name_all_back}
use Rattle.amf3_spelling.specs.Then.{Spelling, Then, Plain}
use Rattle.amf0_spelling.specs.Tables0.{Tables0, no_tables0, add_node0, add_done0}
use Rattle.amf0_spelling.specs.Lacks0.{IsShortName, enters0, entered}
use Rattle.amf0_spelling.specs.Segments0.{Short, Marked0, Values0, Pairs0, Count0, PairsBy0, is_empty}
use Rattle.amf0_spelling.specs.Spells0.{NodeBy0, Named0, Begun0, InlineIn0, SpellsIn0, IsSpelling0, Spells0}
use Rattle.amf0_spelling.specs.Meets.{Meets, over, past, again, first, IsMet}
use Rattle.amf0_spelling.proofs.Entered.{entered_enters, entered_distinct}
use Rattle.amf0_spelling.proofs.Stays0.{Keeps, Proper, proper_none, stays_entered, keeps_plain, keeps_values, keeps_pairs, keeps_pairs_by, keeps_then, keeps_values_in, leaf_still}
use Rattle.amf0_spelling.proofs.Found0.{FineNode, FineAgain, Level, level_node, level_done}
use Rattle.amf0_spelling.proofs.Entered.{entered_at, take_front, right_at}
use Rattle.amf0_spelling.proofs.Meeting.{meets_prefix}

pub again_append : (g : Graph) (outside : ℕ) (all xs ys : List ℕ) → AllByRecursion (FineAgain g outside all) xs → AllByRecursion (FineAgain g outside all) ys → AllByRecursion (FineAgain g outside all) (xs ++ ys)
again_append g outside all [] ys h k = k
again_append g outside all (x ∷ xs) ys h k = (h.0, again_append g outside all xs ys h.1 k)

module _ (g : Graph) (skip : List ℕ) where
  abbrev pub Onward : List ℕ → List ℕ → List Value → Type 0
  Onward before after vs = (ws : List Value) (all ks : List ℕ) → Meets g after ws all ks → AllByRecursion (FineAgain g (length skip) all) ks → (more : List ℕ) × Meets g before (vs ++ ws) all more × AllByRecursion (FineAgain g (length skip) all) more

  abbrev pub Fresh : ℕ → List ℕ → Type 0
  Fresh before after = (k i : ℕ) → before ≤ k → slice_get after k ≡ Some i → FineNode (node_at g i)

  pub record Covered (t t' : Tables0) (vs : List Value) : Type 0 where
    pub level : Level g skip t'
    pub onward : Onward t.amf3.done t'.amf3.done vs
    pub fresh : Fresh (length t.amf3.done) t'.amf3.done

  abbrev pub Covers : Spelling Tables0 → List Value → Type 0
  Covers A vs = (t : Tables0) (fs : List Field) (t' : Tables0) → Proper g t → Level g skip t → A t fs t' → Covered t t' vs

  covered_still : (t t' : Tables0) → Level g skip t → t' ≡ t → Covered t t' []
  covered_still t t' l e = subst (λ w. Covered t w []) (sym e) (record { level = l; onward = λ ws all ks w f. (ks, w, f); fresh = λ k i m e. let z = slice_get_within t.amf3.done k i e in absurd (omega (arith, z, m)) })

  fresh_join : (before : ℕ) (mid after : List ℕ) → ((k i : ℕ) → slice_get mid k ≡ Some i → slice_get after k ≡ Some i) → Fresh before mid → Fresh (length mid) after → Fresh before after
  fresh_join before mid after stays x y k i l e = elim (cases_lt k (length mid)) [
    | inl below ↦ (
        let one = entry mid k below in
        let same : one.0 ≡ i = same_Some one.0 i (sym (stays k one.0 one.1) ∙ e) in
        x k i l (one.1 ∙ ap (λ w. Some w) same))
    | inr above ↦ y k i above e
  ]

  covers_plain : (P : List Field → Type 0) (B : Spelling Tables0) (vs : List Value) → Covers B vs → Covers (Then (Plain P) B) vs
  covers_plain P B vs b t fs t' p l x = b t x.back t' p l (subst (λ w. B w x.back t') x.first.1 x.second)

  covers_cons : (A B : Spelling Tables0) (v : Value) (us : List Value) → Keeps g A → Keeps g B → Covers A (v ∷ []) → Covers B us → Covers (Then A B) (v ∷ us)
  covers_cons A B v us kA kB a b t fs t' p l x =
      let o = a t x.front x.mid p l x.first in
      let k = kA t x.front x.mid x.first in
      let n = b x.mid x.back t' (k.proper p) o.level x.second in
      record {
        level = n.level;
        onward = λ ws all ks w f. let y = n.onward ws all ks w f in o.onward (us ++ ws) all y.0 y.1 y.2;
        fresh = fresh_join (length t.amf3.done) x.mid.amf3.done t'.amf3.done (kB x.mid x.back t' x.second).stays o.fresh n.fresh;
      }

  module _ (R : Bool → Value → Spelling Tables0) (keep : (b : Bool) (v : Value) → Keeps g (R b v)) (covers : (b : Bool) (v : Value) → Covers (R b v) (v ∷ [])) where
    covers_values : (vs : List Value) → Covers (Values0 R vs) vs
    covers_values [] = λ t fs t' p l x. covered_still t t' l x.1
    covers_values (v ∷ vs) = covers_cons (R false v) (Values0 R vs) v vs (keep false v) (keeps_values g R keep vs) (covers false v) (covers_values vs)

    covers_pairs : (ps : List (List ℕ × Value)) → Covers (Pairs0 R ps) (seconds ps)
    covers_pairs [] = covers_plain (Short []) (Marked0 true 0x09 (λ rest. rest ≡ [])) [] (λ t fs t' p l x. covered_still t t' l x.3)
    covers_pairs (p ∷ ps) =
        covers_plain (Short p.0) (Then (R (is_empty p.0) p.1) (Pairs0 R ps)) (p.1 ∷ seconds ps)
        (covers_cons (R (is_empty p.0) p.1) (Pairs0 R ps) p.1 (seconds ps) (keep (is_empty p.0) p.1) (keeps_pairs g R keep ps) (covers (is_empty p.0) p.1) (covers_pairs ps))

    covers_pairs_by : (ps : List (List ℕ × Value)) → Covers (PairsBy0 R canonical ps) (seconds (by_name ps))
    covers_pairs_by ps t fs t' p l x = subst (λ w. Covered t t' (seconds w)) x.in_order (covers_pairs x.pairs t fs t' p l x.spelled)

    short_names : (ps : List (List ℕ × Value)) (t : Tables0) (fs : List Field) (t' : Tables0) → Pairs0 R ps t fs t' → AllByRecursion (λ p. IsShortName p.0) ps
    short_names [] t fs t' x = tt
    short_names (p ∷ ps) t fs t' x = (x.first.0.1, short_names ps x.second.mid x.second.back t' x.second.second)

    short_names_by : (ps : List (List ℕ × Value)) (t : Tables0) (fs : List Field) (t' : Tables0) → PairsBy0 R canonical ps t fs t' → AllByRecursion (λ p. IsShortName p.0) ps
    short_names_by ps t fs t' x = by_name_all_back (λ p. IsShortName p.0) ps (subst (λ w. AllByRecursion (λ p. IsShortName p.0) w) x.in_order (short_names x.pairs t fs t' x.spelled))

    no_names : (ps : List (List ℕ × Value)) → ps ≡ [] → AllByRecursion (λ p. IsShortName p.0) ps
    no_names ps e = subst (λ w. AllByRecursion (λ p. IsShortName p.0) w) (sym e) tt

    abbrev make : Head → List (List ℕ × Value) → List Value → Node
    make a ps vs = record { head = a; names = ps; values = vs }

    record Done (i : ℕ) (a : Node) (t t' : Tables0) : Type 0 where
      us : List Value
      covered : Covered (add_done0 t i) t' us
      stays : (k j : ℕ) → slice_get (t.amf3.done ++ i ∷ []) k ≡ Some j → slice_get t'.amf3.done k ≡ Some j
      order : us ≡ values_met a
      fine : FineNode a

    -- the tables of a node that begins differ in what an index can name alone
    as_done : (t t' : Tables0) (i : ℕ) (us : List Value) → Covered (add_node0 t i) t' us → Covered (add_done0 t i) t' us
    as_done t t' i us x = record { level = x.level; onward = x.onward; fresh = x.fresh }

    no_parts : (ps : List (List ℕ × Value)) (vs : List Value) → ps ≡ [] → vs ≡ [] → [] ≡ vs ++ seconds (by_name ps)
    no_parts ps vs e f = ap (λ z. z ++ []) (sym f) ∙ ap (λ z. vs ++ seconds (by_name z)) (sym e)

    cover_node : (i : ℕ) (a : Head) (ps : List (List ℕ × Value)) (vs : List Value) → a ≡ (node_at g i).head → Fits a ps vs → (m : ℕ) (t : Tables0) (fs : List Field) (t' : Tables0) → Proper g (add_node0 t i) → Level g skip t → NodeBy0 R canonical i a ps vs m t fs t' → Done i (make a ps vs) t t'
    cover_node i (object c) ps vs e f m t fs t' p l (o, inl z) =
        let none : vs ≡ [] = nil_from_length vs (f.0 ∙ ap length o.unsealed) in
        record {
          us = seconds (by_name ps);
          covered = as_done t t' i (seconds (by_name ps)) (covers_pairs_by ps (add_node0 t i) fs t' p (level_node g skip t i (ap enters0 (sym e)) l) z.2);
          stays = (keeps_pairs_by g R keep canonical ps (add_node0 t i) fs t' z.2).stays;
          order = ap (λ w. w ++ seconds (by_name ps)) (sym none);
          fine = record { form = λ x. x; short = (subst (λ w. length w < 2 ^ 16) (sym z.1) (omega arith), short_names_by ps (add_node0 t i) fs t' z.2) };
        }
    cover_node i (object c) ps vs e f m t fs t' p l (o, inr z) =
        let none : vs ≡ [] = nil_from_length vs (f.0 ∙ ap length o.unsealed) in
        record {
          us = seconds (by_name ps);
          covered = as_done t t' i (seconds (by_name ps)) (covers_plain (Short c.class) (PairsBy0 R canonical ps) (seconds (by_name ps)) (covers_pairs_by ps) (add_node0 t i) fs t' p (level_node g skip t i (ap enters0 (sym e)) l) z.2);
          stays = (keeps_then g (Plain (Short c.class)) (PairsBy0 R canonical ps) (keeps_plain g (Short c.class)) (keeps_pairs_by g R keep canonical ps) (add_node0 t i) fs t' z.2).stays;
          order = ap (λ w. w ++ seconds (by_name ps)) (sym none);
          fine = record { form = λ x. x; short = (z.2.first.0.1, short_names_by ps z.2.mid z.2.back t' z.2.second) };
        }
    cover_node i array ps vs e f m t fs t' p l (inl z) = record {
      us = seconds (by_name ps);
      covered = as_done t t' i (seconds (by_name ps)) (covers_plain (Count0 canonical (length ps)) (PairsBy0 R canonical ps) (seconds (by_name ps)) (covers_pairs_by ps) (add_node0 t i) fs t' p (level_node g skip t i (ap enters0 (sym e)) l) z.3);
      stays = (keeps_then g (Plain (Count0 canonical (length ps))) (PairsBy0 R canonical ps) (keeps_plain g (Count0 canonical (length ps))) (keeps_pairs_by g R keep canonical ps) (add_node0 t i) fs t' z.3).stays;
      order = sym (append-nil (seconds (by_name ps))) ∙ ap (λ w. seconds (by_name ps) ++ w) (sym z.1);
      fine = record { form = λ x. x.1 z.1; short = (omega arith, short_names_by ps z.3.mid z.3.back t' z.3.second) };
    }
    cover_node i array ps vs e f m t fs t' p l (inr z) = record {
      us = vs;
      covered = as_done t t' i vs (covers_plain (λ count. count ≡ field (u32_kind no_refusal) (to_be_bytes w32 (length vs)) ∷ []) (Values0 R vs) vs (covers_values vs) (add_node0 t i) fs t' p (level_node g skip t i (ap enters0 (sym e)) l) z.3);
      stays = (keeps_then g (Plain (λ count. count ≡ field (u32_kind no_refusal) (to_be_bytes w32 (length vs)) ∷ [])) (Values0 R vs) (keeps_plain g (λ count. count ≡ field (u32_kind no_refusal) (to_be_bytes w32 (length vs)) ∷ [])) (keeps_values g R keep vs) (add_node0 t i) fs t' z.3).stays;
      order = ap (λ w. seconds (by_name w) ++ vs) (sym z.1);
      fine = record { form = λ x. x.0 z.1; short = (omega arith, no_names ps z.1) };
    }
    cover_node i (date c) ps vs e f m t fs t' p l (x, zone, lt, only, y, z) = record {
      us = [];
      covered = covered_still (add_done0 t i) t' (level_done g skip t i (ap enters0 (sym e)) l) z;
      stays = λ k j h. ap (λ (w : Tables0). slice_get w.amf3.done k) z ∙ h;
      order = no_parts ps vs f.1 f.2;
      fine = record { form = λ x. x; short = (omega arith, no_names ps f.1) };
    }
    cover_node i (xml_document c) ps vs e f m t fs t' p l z = record {
      us = [];
      covered = covered_still (add_done0 t i) t' (level_done g skip t i (ap enters0 (sym e)) l) z.2;
      stays = λ k j h. ap (λ (w : Tables0). slice_get w.amf3.done k) z.2 ∙ h;
      order = no_parts ps vs f.1 f.2;
      fine = record { form = λ x. x; short = (omega arith, no_names ps f.1) };
    }
    cover_node i (wrapper c) ps vs e f m t fs t' p l z = elim z [ ]
    cover_node i (xml c) ps vs e f m t fs t' p l z = elim z [ ]
    cover_node i (bytes c) ps vs e f m t fs t' p l z = elim z [ ]
    cover_node i (ints c n) ps vs e f m t fs t' p l z = elim z [ ]
    cover_node i (uints c n) ps vs e f m t fs t' p l z = elim z [ ]
    cover_node i (doubles c n) ps vs e f m t fs t' p l z = elim z [ ]
    cover_node i (values c n) ps vs e f m t fs t' p l z = elim z [ ]
    cover_node i (dictionary c) ps vs e f m t fs t' p l z = elim z [ ]

    covers_begun : (b : Bool) (i : ℕ) → Covers (Begun0 R canonical b g i) (node i ∷ [])
    covers_begun b i t fs t' p l x =
        let a = node_at g i in
        let d = cover_node i a.head a.names a.values refl x.fits x.marker t x.rest t' ((stays_entered g t i x.there x.new).proper p) l x.behind in
        record {
          level = d.covered.level;
          onward = λ ws all ks w f. let o = d.covered.onward ws all ks w f in (o.0, first i x.there x.new (subst (λ z. Meets g (t.amf3.done ++ i ∷ []) (z ++ ws) all o.0) d.order o.1), o.2);
          fresh = λ k j m e. elim (cases_lt (length t.amf3.done) k) [
            | inl above ↦ d.covered.fresh k j (subst (λ z. z ≤ k) (sym (length_pushed t.amf3.done i)) above) e
            | inr below ↦ (
                let at : length t.amf3.done ≡ k = omega arith in
                let same : i ≡ j = same_Some i j (sym (d.stays (length t.amf3.done) i (at_end t.amf3.done i)) ∙ ap (λ z. slice_get t'.amf3.done z) at ∙ e) in
                subst (λ z. FineNode (node_at g z)) same d.fine)
          ];
        }

  covers_named : (b : Bool) (i : ℕ) → Covers (Named0 b i) (node i ∷ [])
  covers_named b i t fs t' p l x =
      let k = p.listed x.place i x.there in
      let in_table : slice_get (entered g t.amf3.done) (length skip + x.place) ≡ Some i = subst (λ w. slice_get w (length skip + x.place) ≡ Some i) l (right_at skip t.nodes x.place i x.there) in
      let enters = entered_enters g t.amf3.done (length skip + x.place) i in_table in
      let there = entered_at g t.amf3.done k.0 i k.1 enters in
      let once : IsDistinct (entered g t.amf3.done) = entered_distinct g t.amf3.done p.amf3.once in
      let same : length (entered g (take k.0 t.amf3.done)) ≡ length skip + x.place = once _ (length skip + x.place) i there in_table in
      let within = slice_get_within t.amf3.done k.0 i k.1 in
      let bits = x.in_bits in
      subst (λ w. Covered t w (node i ∷ [])) (sym x.same) (record {
        level = l;
        onward = λ ws all ks w f.
            let pre = meets_prefix w in
            let here : slice_get all k.0 ≡ Some i = subst (λ z. slice_get z k.0 ≡ Some i) (sym pre.1) (at_left t.amf3.done pre.0 k.0 i k.1) in
            let cut : length (entered g (take k.0 all)) ≡ length (entered g (take k.0 t.amf3.done)) = ap (λ z. length (entered g z)) (ap (λ z. take k.0 z) pre.1 ∙ take_front t.amf3.done pre.0 k.0 (omega (arith, within))) in
            (k.0 ∷ ks, again i k.0 k.1 w, (record { enters = λ j e. subst (λ z. enters0 (node_at g z).head ≡ true) (same_Some i j (sym here ∙ e)) enters; entered_past = omega (arith, cut, same); near = omega (arith, cut, same, bits) }, f));
        fresh = λ n j m e. let z = slice_get_within t.amf3.done n j e in absurd (omega (arith, z, m));
      })

  covers_value : (n : ℕ) → ((b : Bool) (i : ℕ) → Covers (InlineIn0 n canonical g b i) (node i ∷ [])) → (b : Bool) (v : Value) → Covers (SpellsIn0 n canonical g b v) (v ∷ [])
  covers_value n c b (leaf x) t fs t' p l (inl z) =
      subst (λ w. Covered t w (leaf x ∷ [])) (sym (leaf_still canonical b x t fs t' z)) (record { level = l; onward = λ ws all ks w f. (ks, past x w, f); fresh = λ n j m e. let z = slice_get_within t.amf3.done n j e in absurd (omega (arith, z, m)) })
  covers_value n c b (leaf x) t fs t' p l (inr z) = absurd z.0
  covers_value n c b (node i) t fs t' p l (inl (inl z)) = covers_named b i t fs t' p l z
  covers_value n c b (node i) t fs t' p l (inl (inr z)) = c b i t fs t' p l z
  covers_value n c b (node i) t fs t' p l (inr z) = absurd z.0

  covers_inline : (n : ℕ) (b : Bool) (i : ℕ) → Covers (InlineIn0 n canonical g b i) (node i ∷ [])
  covers_inline zero b i t fs t' p l z = elim z [ ]
  covers_inline (suc n) b i t fs t' p l z = covers_begun (SpellsIn0 n canonical g) (keeps_values_in g canonical n) (covers_value n (covers_inline n)) b i t fs t' p l z

  -- a value on given tables: what it meets, and that all of it is fine
  pub covers_spells : (v : Value) → Covers (Spells0 canonical g v) (v ∷ [])
  covers_spells v t fs t' p l x = covers_value x.0 (covers_inline x.0) false v t fs t' p l x.1

-- of a graph that has a canonical spelling: its order, over fine nodes, and each number that is met again can be named
pub met0 : (g : Graph) (fs : List Field) → IsSpelling0 canonical g fs → (order : List ℕ) × (more : List ℕ) × IsMet g order more × AllByRecursion (FineAgain g 0 order) more × ((k i : ℕ) → slice_get order k ≡ Some i → FineNode (node_at g i))
met0 g fs x =
    let o = covers_spells g [] g.root no_tables0 fs x.0 (proper_none g) refl x.1 in
    let w = o.onward [] x.0.amf3.done [] over tt in
    (x.0.amf3.done, w.0, w.1, w.2, λ k i e. o.fresh k i (omega arith) e)
