-- Where every node that is met has a form and every number that is met again can be named, a canonical spelling in AMF 0 exists.
use Rattle.std.specs.Int.{to_be_bytes, w16, w32, w64}
use Rattle.std.specs.List.{AllByRecursion}
use Rattle.std.proofs.Common.{IsTrue, ◌≡◌, ◌≢◌, ℕ, zero, suc, ◌<◌, ◌≤◌, ◌^◌, ◌⊎◌, Bool, true, false, cond, List, [], ◌∷◌, ◌++◌, length, take, slice_get, Some, sym, refl, ap, ◌∙◌, subst, inl, inr, arith, append_assoc, append-nil, ◌-◌}
use Rattle.std.proofs.lemmas.List.{nil_from_length}
use Rattle.std.proofs.lemmas.Option.{slice_get_within}
use Rattle.std.proofs.lemmas.Bool.{cases_lt}
use Rattle.amf_io.specs.Field.{Field, field, contents, u32_kind, u16_kind, text_kind, no_refusal, raw_kind}
use Rattle.amf_wire.specs.Style.{canonical}
use Rattle.amf_wire.specs.Text.{IsText}
use Rattle.amf_graph.specs.Graph.{Leaf, undefined, null, boolean, integer, double, text, Value, leaf, node, Head, xml_document, date, array, object, wrapper, xml, bytes, ints, uints, doubles, values, dictionary, Fits, Node, Graph, node_at}
use Rattle.amf_graph.specs.ByName.{by_name}
use Rattle.amf_graph.specs.Order.{Absent, seconds, values_met}
use Rattle.amf_graph.proofs.Lists.{at_left}
use Rattle.amf_graph.proofs.NameOrder.{by_name_again, by_name_all}
use Rattle.amf_graph.proofs.Counting.{missing, missing_push, missing_less}
use Rattle.amf3_spelling.specs.Then.{Spelling, Then, Plain}
use Rattle.amf0_spelling.specs.Tables0.{Tables0, no_tables0, add_node0, add_done0}
use Rattle.amf0_spelling.specs.Lowered.{IsLowHead}
use Rattle.amf0_spelling.specs.Lacks0.{HasNoForm, HasShortNames, IsShortName, enters0, entered, place0}
use Rattle.amf0_spelling.specs.Refusals0.{index0_kind}
use Rattle.amf0_spelling.specs.Segments0.{marker0_field, Short, Long, Marked0, LeafBy0, Values0, Pairs0, Count0, PairsBy0, is_empty}
use Rattle.amf0_spelling.specs.Spells0.{NodeBy0, Named0, InlineIn0, SpellsIn0, IsSpelling0, IsOpenTraits, Spells0}
use Rattle.amf0_spelling.specs.Meets.{Meets, past, again, first, IsMet}
use Rattle.amf0_spelling.proofs.Entered.{entered_push, entered_at, take_front, at_right}
use Rattle.amf0_spelling.proofs.Meeting.{meets_prefix, meets_first}
use Rattle.amf0_spelling.proofs.Stays0.{Keeps, Proper, proper_none, stays_entered, stays_done, keeps_values_in}

-- what a graph within bounds gives of each value and node
abbrev pub GoodLeaf : Leaf → Type 0
GoodLeaf (integer n) = ⊥
GoodLeaf (double p) = p < 2 ^ 64
GoodLeaf (text x) = IsText x × (length x < 2 ^ 32)
GoodLeaf _ = Unit {0}

abbrev pub GoodValue : Value → Type 0
GoodValue (leaf x) = GoodLeaf x
GoodValue (node i) = Unit {0}

abbrev pub GoodHead : Head → Type 0
GoodHead (xml_document x) = length x < 2 ^ 32
GoodHead (object t) = IsText t.class
GoodHead _ = Unit {0}

pub record GoodNode (a : Node) : Type 0 where
  pub fits : Fits a.head a.names a.values
  pub low : IsLowHead a.head
  pub head : GoodHead a.head
  pub texts : AllByRecursion (λ p. IsText p.0) a.names
  pub few_names : length a.names < 2 ^ 32
  pub few_values : length a.values < 2 ^ 32
  pub parts : AllByRecursion GoodValue a.values
  pub pairs : AllByRecursion (λ p. GoodValue p.1) a.names

pub record FineNode (a : Node) : Type 0 where
  pub form : HasNoForm a a.head → ⊥
  pub short : HasShortNames a

-- a number that may be named by an index
pub record FineAgain (g : Graph) (outside : ℕ) (all : List ℕ) (k : ℕ) : Type 0 where
  pub enters : (i : ℕ) → slice_get all k ≡ Some i → enters0 (node_at g i).head ≡ true
  pub entered_past : outside ≤ length (entered g (take k all))
  pub near : place0 g outside all k < 2 ^ 16

-- the table of nodes that an index can name: those of what has been spelled, but for some first ones that are in no table
abbrev pub Level : Graph → List ℕ → Tables0 → Type 0
Level g skip t = skip ++ t.nodes ≡ entered g t.amf3.done

pub level_node : (g : Graph) (skip : List ℕ) (t : Tables0) (i : ℕ) → enters0 (node_at g i).head ≡ true → Level g skip t → Level g skip (add_node0 t i)
level_node g skip t i e l = sym (append_assoc skip t.nodes (i ∷ [])) ∙ ap (λ w. w ++ i ∷ []) l ∙ ap (λ b. entered g t.amf3.done ++ cond b (i ∷ []) []) (sym e) ∙ sym (entered_push g t.amf3.done i)

pub level_done : (g : Graph) (skip : List ℕ) (t : Tables0) (i : ℕ) → enters0 (node_at g i).head ≡ false → Level g skip t → Level g skip (add_done0 t i)
level_done g skip t i e l = l ∙ sym (append-nil (entered g t.amf3.done)) ∙ ap (λ b. entered g t.amf3.done ++ cond b (i ∷ []) []) (sym e) ∙ sym (entered_push g t.amf3.done i)

short_found : (x : List ℕ) → IsText x → length x < 2 ^ 16 → (fs : List Field) × Short x fs
short_found x t l = (field (u16_kind no_refusal) (to_be_bytes w16 (length x)) ∷ contents text_kind x, (t, l, refl))

long_found : (x : List ℕ) → IsText x → length x < 2 ^ 32 → (fs : List Field) × Long x fs
long_found x t l = (field (u32_kind no_refusal) (to_be_bytes w32 (length x)) ∷ contents text_kind x, (t, l, refl))

empty_text : IsText []
empty_text = ([], tt, refl)

count_found : (n : ℕ) → n < 2 ^ 32 → (fs : List Field) × Count0 canonical n fs
count_found n l = (field (u32_kind no_refusal) (to_be_bytes w32 n) ∷ [], (n, l, refl, refl))

leaf_found : (b : Bool) (x : Leaf) (t : Tables0) → GoodLeaf x → (fs : List Field) × LeafBy0 canonical b x t fs t
leaf_found b undefined t h = (marker0_field b t 0x06 ∷ [], inl ([], refl, refl, refl))
leaf_found b null t h = (marker0_field b t 0x05 ∷ [], ([], refl, refl, refl))
leaf_found b (boolean true) t h = (marker0_field b t 0x01 ∷ field (raw_kind 1) (1 ∷ []) ∷ [], (field (raw_kind 1) (1 ∷ []) ∷ [], (1, (omega arith, omega arith, omega arith), refl), refl, refl))
leaf_found b (boolean false) t h = (marker0_field b t 0x01 ∷ field (raw_kind 1) (0 ∷ []) ∷ [], (field (raw_kind 1) (0 ∷ []) ∷ [], (0, (refl, omega arith, omega arith), refl), refl, refl))
leaf_found b (integer n) t h = absurd h
leaf_found b (double p) t h = (marker0_field b t 0x00 ∷ field (raw_kind 8) (to_be_bytes w64 p) ∷ [], (h, (field (raw_kind 8) (to_be_bytes w64 p) ∷ [], refl, refl, refl)))
leaf_found b (text x) t h = elim (cases_lt (length x) (2 ^ 16)) [
  | inl l ↦ (let o = short_found x h.0 l in (marker0_field b t 0x02 ∷ o.0, inl (o.0, o.1, refl, refl)))
  | inr m ↦ (let o = long_found x h.0 h.1 in (marker0_field b t 0x0C ∷ o.0, inr (m, (o.0, o.1, refl, refl))))
]

seconds_good : (ps : List (List ℕ × Value)) → AllByRecursion (λ p. GoodValue p.1) ps → AllByRecursion GoodValue (seconds ps)
seconds_good [] h = tt
seconds_good (p ∷ ps) h = (h.0, seconds_good ps h.1)

pub is_none : {X : Type 0} (xs : List X) → (xs ≡ []) ⊎ (xs ≢ [])
is_none [] = inl refl
is_none (x ∷ xs) = inr (λ e. cc)

all_or : {P : Type 0} → P ⊎ (P → ⊥) → ((P → ⊥) → ⊥) → P
all_or (inl p) f = p
all_or (inr n) f = absurd (f n)

either : {P Q R : Type 0} → P ⊎ Q → (P → R) → (Q → R) → R
either (inl p) f k = f p
either (inr q) f k = k q

is_true : (b : Bool) → IsTrue b → b ≡ true
is_true b e = e

module _ (g : Graph) (skip : List ℕ) (all : List ℕ) (good : (k i : ℕ) → slice_get all k ≡ Some i → GoodNode (node_at g i)) (fine : (k i : ℕ) → slice_get all k ≡ Some i → FineNode (node_at g i)) where
  -- a spelling, and the walk that is left behind it
  pub record Result (A : Spelling Tables0) (t : Tables0) (ws : List Value) : Type 0 where
    pub fields : List Field
    pub after : Tables0
    pub spelled : A t fields after
    pub more : List ℕ
    pub walk : Meets g after.amf3.done ws all more
    pub again_fine : AllByRecursion (FineAgain g (length skip) all) more
    pub level : Level g skip after

  abbrev Found : ℕ → Spelling Tables0 → List Value → Type 0
  Found d A vs = (t : Tables0) → Proper g t → Level g skip t → missing (length g.nodes) t.amf3.done ≤ d → (ws : List Value) (ks : List ℕ) → AllByRecursion GoodValue vs → Meets g t.amf3.done (vs ++ ws) all ks → AllByRecursion (FineAgain g (length skip) all) ks → Result A t ws

  found_cons : (d : ℕ) (A B : Spelling Tables0) (v : Value) (us : List Value) → Keeps g A → Found d A (v ∷ []) → Found d B us → Found d (Then A B) (v ∷ us)
  found_cons d A B v us keep a b t p l m ws ks h w f =
      let x = a t p l m (us ++ ws) ks (h.0, tt) w f in
      let k = keep t x.fields x.after x.spelled in
      let less = missing_less (length g.nodes) t.amf3.done x.after.amf3.done k.stays in
      let y = b x.after (k.proper p) x.level (omega (arith, less, m)) ws x.more h.1 x.walk x.again_fine in
      record { fields = x.fields ++ y.fields; after = y.after; spelled = record { front = x.fields; back = y.fields; mid = x.after; joined = refl; first = x.spelled; second = y.spelled }; more = y.more; walk = y.walk; again_fine = y.again_fine; level = y.level }

  found_plain : (d : ℕ) (P : List Field → Type 0) (B : Spelling Tables0) (us : List Value) → (fs : List Field) × P fs → Found d B us → Found d (Then (Plain P) B) us
  found_plain d P B us o b t p l m ws ks h w f =
      let y = b t p l m ws ks h w f in
      record { fields = o.0 ++ y.fields; after = y.after; spelled = record { front = o.0; back = y.fields; mid = t; joined = refl; first = (o.1, refl); second = y.spelled }; more = y.more; walk = y.walk; again_fine = y.again_fine; level = y.level }

  found_end : (d : ℕ) → Found d (Marked0 true 0x09 (λ rest. rest ≡ [])) []
  found_end d t p l m ws ks h w f = record { fields = marker0_field true t 0x09 ∷ []; after = t; spelled = ([], refl, refl, refl); more = ks; walk = w; again_fine = f; level = l }

  module _ (d : ℕ) (R : Bool → Value → Spelling Tables0) (keep : (b : Bool) (v : Value) → Keeps g (R b v)) (found : (b : Bool) (v : Value) → Found d (R b v) (v ∷ [])) where
    found_values : (vs : List Value) → Found d (Values0 R vs) vs
    found_values [] = λ t p l m ws ks h w f. record { fields = []; after = t; spelled = (refl, refl); more = ks; walk = w; again_fine = f; level = l }
    found_values (v ∷ vs) = found_cons d (R false v) (Values0 R vs) v vs (keep false v) (found false v) (found_values vs)

    found_pairs : (ps : List (List ℕ × Value)) → AllByRecursion (λ p. IsText p.0) ps → AllByRecursion (λ p. IsShortName p.0) ps → Found d (Pairs0 R ps) (seconds ps)
    found_pairs [] x s = found_plain d (Short []) (Marked0 true 0x09 (λ rest. rest ≡ [])) [] (short_found [] empty_text (omega arith)) (found_end d)
    found_pairs (p ∷ ps) x s =
        found_plain d (Short p.0) (Then (R (is_empty p.0) p.1) (Pairs0 R ps)) (p.1 ∷ seconds ps) (short_found p.0 x.0 s.0)
        (found_cons d (R (is_empty p.0) p.1) (Pairs0 R ps) p.1 (seconds ps) (keep (is_empty p.0) p.1) (found (is_empty p.0) p.1) (found_pairs ps x.1 s.1))

    found_pairs_by : (ps : List (List ℕ × Value)) → AllByRecursion (λ p. IsText p.0) ps → AllByRecursion (λ p. IsShortName p.0) ps → Found d (PairsBy0 R canonical ps) (seconds (by_name ps))
    found_pairs_by ps x s t p l m ws ks h w f =
        let o = found_pairs (by_name ps) (by_name_all (λ p. IsText p.0) ps x) (by_name_all (λ p. IsShortName p.0) ps s) t p l m ws ks h w f in
        record { fields = o.fields; after = o.after; spelled = record { pairs = by_name ps; same_names = by_name_again ps; in_order = refl; spelled = o.spelled }; more = o.more; walk = o.walk; again_fine = o.again_fine; level = o.level }

    -- what stands behind the marker of a node that is met first, over the walk from it on
    record Behind (i : ℕ) (a : Node) (t : Tables0) (ws : List Value) : Type 0 where
      marker : ℕ
      rest : List Field
      after : Tables0
      behind : NodeBy0 R canonical i a.head a.names a.values marker t rest after
      more : List ℕ
      walk : Meets g after.amf3.done ws all more
      again_fine : AllByRecursion (FineAgain g (length skip) all) more
      level : Level g skip after

    abbrev BehindBy : ℕ → Head → List (List ℕ × Value) → List Value → Tables0 → List Value → Type 0
    BehindBy i a ps vs t ws = Behind i (record { head = a; names = ps; values = vs }) t ws

    pairs_seconds : (ps : List (List ℕ × Value)) → AllByRecursion (λ p. GoodValue p.1) ps → AllByRecursion GoodValue (seconds (by_name ps))
    pairs_seconds ps h = seconds_good (by_name ps) (by_name_all (λ p. GoodValue p.1) ps h)

    behind : (i : ℕ) (a : Head) (ps : List (List ℕ × Value)) (vs : List Value) → a ≡ (node_at g i).head → GoodNode (record { head = a; names = ps; values = vs }) → FineNode (record { head = a; names = ps; values = vs }) → (t : Tables0) → Proper g (add_done0 t i) → (enters0 a ≡ true → Proper g (add_node0 t i)) → Level g skip t → missing (length g.nodes) (t.amf3.done ++ i ∷ []) ≤ d → (ws : List Value) (ks : List ℕ) →
        Meets g (t.amf3.done ++ i ∷ []) (values_met (record { head = a; names = ps; values = vs }) ++ ws) all ks → AllByRecursion (FineAgain g (length skip) all) ks → BehindBy i a ps vs t ws
    behind i (object c) ps vs e o x t p q l m ws ks w f =
        let none : vs ≡ [] = nil_from_length vs (o.fits.0 ∙ ap length o.low.1) in
        let walk : Meets g (t.amf3.done ++ i ∷ []) (seconds (by_name ps) ++ ws) all ks = subst (λ z. Meets g (t.amf3.done ++ i ∷ []) ((z ++ seconds (by_name ps)) ++ ws) all ks) none w in
        let open_traits : IsOpenTraits c = record { dynamic = is_true c.dynamic o.low.0; unsealed = o.low.1 } in
        either (is_none c.class)
        (λ n. let r = found_pairs_by ps o.texts x.short.1 (add_node0 t i) (q refl) (level_node g skip t i (ap enters0 (sym e)) l) m ws ks (pairs_seconds ps o.pairs) walk f in
        record { marker = 0x03; rest = r.fields; after = r.after; behind = (open_traits, inl (refl, n, r.spelled)); more = r.more; walk = r.walk; again_fine = r.again_fine; level = r.level })
        (λ n. let r = found_plain d (Short c.class) (PairsBy0 R canonical ps) (seconds (by_name ps)) (short_found c.class o.head x.short.0) (found_pairs_by ps o.texts x.short.1) (add_node0 t i) (q refl) (level_node g skip t i (ap enters0 (sym e)) l) m ws ks (pairs_seconds ps o.pairs) walk f in
        record { marker = 0x10; rest = r.fields; after = r.after; behind = (open_traits, inr (refl, n, r.spelled)); more = r.more; walk = r.walk; again_fine = r.again_fine; level = r.level })
    behind i array ps vs e o x t p q l m ws ks w f =
        either (is_none ps)
        (λ n. let walk : Meets g (t.amf3.done ++ i ∷ []) (vs ++ ws) all ks = subst (λ z. Meets g (t.amf3.done ++ i ∷ []) ((seconds (by_name z) ++ vs) ++ ws) all ks) n w in
        let r = found_plain d (λ count. count ≡ field (u32_kind no_refusal) (to_be_bytes w32 (length vs)) ∷ []) (Values0 R vs) vs (field (u32_kind no_refusal) (to_be_bytes w32 (length vs)) ∷ [], refl) (found_values vs) (add_node0 t i) (q refl) (level_node g skip t i (ap enters0 (sym e)) l) m ws ks o.parts walk f in
        record { marker = 0x0A; rest = r.fields; after = r.after; behind = inr (refl, n, o.few_values, r.spelled); more = r.more; walk = r.walk; again_fine = r.again_fine; level = r.level })
        (λ n. let none : vs ≡ [] = all_or (is_none vs) (λ k. x.form (n, k)) in
        let walk : Meets g (t.amf3.done ++ i ∷ []) (seconds (by_name ps) ++ ws) all ks = subst (λ z. Meets g (t.amf3.done ++ i ∷ []) (z ++ ws) all ks) (append-nil (seconds (by_name ps))) (subst (λ z. Meets g (t.amf3.done ++ i ∷ []) ((seconds (by_name ps) ++ z) ++ ws) all ks) none w) in
        let r = found_plain d (Count0 canonical (length ps)) (PairsBy0 R canonical ps) (seconds (by_name ps)) (count_found (length ps) o.few_names) (found_pairs_by ps o.texts x.short.1) (add_node0 t i) (q refl) (level_node g skip t i (ap enters0 (sym e)) l) m ws ks (pairs_seconds ps o.pairs) walk f in
        record { marker = 0x08; rest = r.fields; after = r.after; behind = inl (refl, none, n, r.spelled); more = r.more; walk = r.walk; again_fine = r.again_fine; level = r.level })
    behind i (date c) ps vs e o x t p q l m ws ks w f =
        let none = o.fits.1 in
        let walk : Meets g (t.amf3.done ++ i ∷ []) ws all ks = subst (λ z. Meets g (t.amf3.done ++ i ∷ []) (seconds (by_name z) ++ ws) all ks) o.fits.1 (subst (λ z. Meets g (t.amf3.done ++ i ∷ []) ((z ++ seconds (by_name ps)) ++ ws) all ks) o.fits.2 w) in
        record { marker = 0x0B; rest = _; after = add_done0 t i; behind = (refl, 0, omega arith, refl, refl, refl); more = ks; walk = walk; again_fine = f; level = level_done g skip t i (ap enters0 (sym e)) l }
    behind i (xml_document c) ps vs e o x t p q l m ws ks w f =
        let long = long_found c o.fits.0 o.head in
        let walk : Meets g (t.amf3.done ++ i ∷ []) ws all ks = subst (λ z. Meets g (t.amf3.done ++ i ∷ []) (seconds (by_name z) ++ ws) all ks) o.fits.1 (subst (λ z. Meets g (t.amf3.done ++ i ∷ []) ((z ++ seconds (by_name ps)) ++ ws) all ks) o.fits.2 w) in
        record { marker = 0x0F; rest = long.0; after = add_done0 t i; behind = (refl, long.1, refl); more = ks; walk = walk; again_fine = f; level = level_done g skip t i (ap enters0 (sym e)) l }
    behind i (wrapper c) ps vs e o x t p q l m ws ks w f = absurd (x.form tt)
    behind i (xml c) ps vs e o x t p q l m ws ks w f = absurd (x.form tt)
    behind i (bytes c) ps vs e o x t p q l m ws ks w f = absurd (x.form tt)
    behind i (ints c n) ps vs e o x t p q l m ws ks w f = absurd (x.form tt)
    behind i (uints c n) ps vs e o x t p q l m ws ks w f = absurd (x.form tt)
    behind i (doubles c n) ps vs e o x t p q l m ws ks w f = absurd (x.form tt)
    behind i (values c n) ps vs e o x t p q l m ws ks w f = absurd (x.form tt)
    behind i (dictionary c) ps vs e o x t p q l m ws ks w f = absurd (x.form tt)

  named_found : (d : ℕ) (b : Bool) (i k : ℕ) (t : Tables0) → Level g skip t → slice_get t.amf3.done k ≡ Some i → (rest : List ℕ) → all ≡ t.amf3.done ++ rest → FineAgain g (length skip) all k → (fs : List Field) × Named0 b i t fs t
  named_found d b i k t l e rest pre f =
      let here : slice_get all k ≡ Some i = subst (λ z. slice_get z k ≡ Some i) (sym pre) (at_left t.amf3.done rest k i e) in
      let within = slice_get_within t.amf3.done k i e in
      let same : length (entered g (take k all)) ≡ length (entered g (take k t.amf3.done)) = ap (λ z. length (entered g z)) (ap (λ z. take k z) pre ∙ take_front t.amf3.done rest k (omega (arith, within))) in
      let near = f.near in
      let past = f.entered_past in
      let place = length (entered g (take k t.amf3.done)) - length skip in
      let there : slice_get t.nodes place ≡ Some i = at_right skip t.nodes (length (entered g (take k t.amf3.done))) place i (omega (arith, same, past)) (subst (λ z. slice_get z (length (entered g (take k t.amf3.done))) ≡ Some i) (sym l) (entered_at g t.amf3.done k i e (f.enters i here))) in
      (marker0_field b t 0x07 ∷ field (index0_kind (length t.nodes)) (to_be_bytes w16 place) ∷ [], record { place = place; there = there; in_bits = omega (arith, same, near); fields = refl; same = refl })

  value_found : (n d : ℕ) → ((b : Bool) (i : ℕ) (t : Tables0) → Proper g t → Level g skip t → missing (length g.nodes) t.amf3.done ≤ d → (ws : List Value) (ks : List ℕ) → i < length g.nodes → Absent t.amf3.done i → Meets g (t.amf3.done ++ i ∷ []) (values_met (node_at g i) ++ ws) all ks → AllByRecursion (FineAgain g (length skip) all) ks → Result (InlineIn0 n canonical g b i) t ws) → (b : Bool) (v : Value) → Found d (SpellsIn0 n canonical g b v) (v ∷ [])
  value_found n d inline b (leaf x) t p l m ws ks h (past y w) f = let o = leaf_found b x t h.0 in record { fields = o.0; after = t; spelled = inl o.1; more = ks; walk = w; again_fine = f; level = l }
  value_found n d inline b (node i) t p l m ws ks h (again {more = more} j k e w) f =
      let pre = meets_prefix w in
      let o = named_found d b i k t l e pre.0 pre.1 f.0 in
      record { fields = o.0; after = t; spelled = inl (inl o.1); more = more; walk = w; again_fine = f.1; level = l }
  value_found n d inline b (node i) t p l m ws ks h (first j there new w) f =
      let o = inline b i t p l m ws ks there new w f in
      record { fields = o.fields; after = o.after; spelled = inl (inr o.spelled); more = o.more; walk = o.walk; again_fine = o.again_fine; level = o.level }

  inline_found : (n : ℕ) (b : Bool) (i : ℕ) (t : Tables0) → Proper g t → Level g skip t → missing (length g.nodes) t.amf3.done ≤ n → (ws : List Value) (ks : List ℕ) → i < length g.nodes → Absent t.amf3.done i → Meets g (t.amf3.done ++ i ∷ []) (values_met (node_at g i) ++ ws) all ks → AllByRecursion (FineAgain g (length skip) all) ks → Result (InlineIn0 n canonical g b i) t ws
  inline_found zero b i t p l m ws ks there new w f = let less = missing_push (length g.nodes) i t.amf3.done there new in absurd (omega (arith, less, m))
  inline_found (suc n) b i t p l m ws ks there new w f =
      let a = node_at g i in
      let less = missing_push (length g.nodes) i t.amf3.done there new in
      let at = meets_first t.amf3.done i w in
      let o = behind n (SpellsIn0 n canonical g) (keeps_values_in g canonical n) (value_found n n (inline_found n)) i a.head a.names a.values refl (good (length t.amf3.done) i at) (fine (length t.amf3.done) i at) t
      ((stays_done g t i there new).proper p) (λ e. (stays_entered g t i there new).proper p) l (omega (arith, less, m)) ws ks w f in
      record {
        fields = marker0_field b t o.marker ∷ o.rest;
        after = o.after;
        spelled = record { there = there; new = new; fits = (good (length t.amf3.done) i at).fits; marker = o.marker; rest = o.rest; fields = refl; behind = o.behind };
        more = o.more;
        walk = o.walk;
        again_fine = o.again_fine;
        level = o.level;
      }

  -- a value on given tables, over the walk from there on: a writer's step
  pub found_value : (v : Value) (t : Tables0) → Proper g t → Level g skip t → (ws : List Value) (ks : List ℕ) → GoodValue v → Meets g t.amf3.done (v ∷ ws) all ks → AllByRecursion (FineAgain g (length skip) all) ks → Result (Spells0 canonical g v) t ws
  found_value v t p l ws ks h w f =
      let n = missing (length g.nodes) t.amf3.done in
      let o = value_found n n (inline_found n) false v t p l (omega arith) ws ks (h, tt) w f in
      record { fields = o.fields; after = o.after; spelled = (n, o.spelled); more = o.more; walk = o.walk; again_fine = o.again_fine; level = o.level }

-- where all that is met is fine, a canonical spelling exists
pub found0 : (g : Graph) (all : List ℕ) → ((k i : ℕ) → slice_get all k ≡ Some i → GoodNode (node_at g i)) → ((k i : ℕ) → slice_get all k ≡ Some i → FineNode (node_at g i)) → (more : List ℕ) → GoodValue g.root → IsMet g all more → AllByRecursion (FineAgain g 0 all) more → (fs : List Field) × IsSpelling0 canonical g fs
found0 g all good fine more h w f =
    let o = found_value g [] all good fine g.root no_tables0 (proper_none g) refl [] more h w f in
    (o.fields, (o.after, o.spelled))
