-- Two spellings of one input: what the one spells and what the other spells match.
use Rattle.std.proofs.Common.{◌≡◌, ℕ, zero, suc, ◌+◌, ◌*◌, ◌<◌, ◌≤◌, Bool, true, false, cond, List, [], ◌∷◌, ◌++◌, length, slice_get, Some, sym, refl, ap, ◌∙◌, subst, inl, inr, arith, append_assoc, append-nil}
use Rattle.std.specs.Int.{to_be_bytes, w64}
use Rattle.std.specs.List.{AllZip}
use Rattle.std.proofs.lemmas.Option.{same_Some, slice_get_within}
use Rattle.std.proofs.lemmas.Bool.{cases_lt}
use Rattle.amf_wire.specs.Style.{Style}
use Rattle.amf_wire.specs.U29.{IsU29}
use Rattle.amf_wire.specs.Integer.{integer_bits}
use Rattle.amf_graph.specs.Graph.{AllNamed, Leaf, undefined, null, boolean, integer, double, text, IsLeaf, Value, leaf, node, Traits, Head, date, array, object, wrapper, bytes, xml_document, xml, ints, uints, doubles, values, dictionary, Graph, node_at, Fits, AreMembers}
use Rattle.amf_graph.specs.ByName.{by_name}
use Rattle.amf_graph.specs.Isomorphic.{ValuesMatch, PairsMatch, NodesMatch}
use Rattle.amf_graph.proofs.Lists.{cons_same, moved, entry, at_left, at_end, at_push, length_pushed}
use Rattle.amf_graph.proofs.Matching.{Implies, values_more, nodes_more, by_name_match}
use Rattle.amf3_spelling.specs.Tables.{Entry, plain, external, Words, Tables, with_words, add_node}
use Rattle.amf3_spelling.specs.Words3.{EntryNumber}
use Rattle.amf3_spelling.specs.Refusals3.{marker, leaf_marker}
use Rattle.amf3_spelling.proofs.ByteSpelling.{Spelling, Then, TraitsOf, given, indexed, Step, byte, number, unused, flag, raw, word, traits, StepOf, Segment, step, value, values_then, pairs_then, four_bytes, signed_bytes, eight_bytes, header_step, segments_of, leaf_segments, Lifted, Segments, Placed, Begun, ValueBy, NodeIn, Spells}
use Rattle.amf3_spelling.proofs.BigEndian.{eight_same, integer_same, fours_long, signed_long, eights_long, fours_same, signed_all_same, eights_same}
use Rattle.amf3_spelling.proofs.Numbers3.{number_same}
use Rattle.amf3_spelling.proofs.Steps3.{moved_two, SameKind, step_same}
use Rattle.amf3_spelling.proofs.Stays3.{Stays, Keeps, keeps_segments, keeps_spells}

-- the nodes that were spelled inline at one place
abbrev pub Paired : Tables → Tables → ℕ → ℕ → Type 0
Paired t u i j = (k : ℕ) × (slice_get t.done k ≡ Some i) × (slice_get u.done k ≡ Some j)

pub record Tied (t u : Tables) : Type 0 where
  pub words : t.words ≡ u.words
  pub size : length t.nodes ≡ length u.nodes
  pub level : length t.done ≡ length u.done
  pub pairs : (k i j : ℕ) → slice_get t.nodes k ≡ Some i → slice_get u.nodes k ≡ Some j → Paired t u i j

-- what is known where two spellings of one input end; fresh: the nodes met on the way match
pub record After (g h : Graph) (t u t' u' : Tables) (r q : List ℕ) (Q : (ℕ → ℕ → Type 0) → Type 0) : Type 0 where
  pub rest : r ≡ q
  pub tied : Tied t' u'
  pub fresh : (k i j : ℕ) → length t.done ≤ k → slice_get t'.done k ≡ Some i → slice_get u'.done k ≡ Some j → NodesMatch (Paired t' u') (node_at g i) (node_at h j)
  pub says : Q (Paired t' u')

abbrev pub Alike : Graph → Graph → Spelling Tables → Spelling Tables → ((ℕ → ℕ → Type 0) → Type 0) → Type 0
Alike g h A B Q = (t u : Tables) (b c r q : List ℕ) (t' u' : Tables) → Tied t u → A t b t' → B u c u' → b ++ r ≡ c ++ q → After g h t u t' u' r q Q

abbrev pub Monotone : ((ℕ → ℕ → Type 0) → Type 0) → Type 1
Monotone Q = (P S : ℕ → ℕ → Type 0) → Implies P S → Q P → Q S

pub marker_high : (a : Head) → 6 < marker a
marker_high (date p) = omega arith
marker_high array = omega arith
marker_high (object t) = omega arith
marker_high (wrapper c) = omega arith
marker_high (bytes x) = omega arith
marker_high (xml_document x) = omega arith
marker_high (xml x) = omega arith
marker_high (ints f x) = omega arith
marker_high (uints f x) = omega arith
marker_high (doubles f x) = omega arith
marker_high (values f c) = omega arith
marker_high (dictionary f) = omega arith

pub leaf_low : (x : Leaf) → leaf_marker x ≤ 6
leaf_low undefined = omega arith
leaf_low null = omega arith
leaf_low (boolean true) = omega arith
leaf_low (boolean false) = omega arith
leaf_low (integer n) = omega arith
leaf_low (double p) = omega arith
leaf_low (text x) = omega arith

-- the number that begins the bytes is odd
abbrev Odd : Style → List ℕ → Type 0
Odd s b = (m : ℕ) × (front : List ℕ) × (back : List ℕ) × IsU29 s (2 * m + 1) front × (b ≡ front ++ back)

odd_entry : (s : Style) (e : Entry) (n : ℕ) → EntryNumber s e n → (m : ℕ) × (n ≡ 2 * m + 1)
odd_entry s (plain t) n h = (8 * length t.sealed + (4 * cond t.dynamic 1 0 + 1), omega arith)
odd_entry s (external c) n h = (4 * h.0 + 3, omega arith)

odd_traits : (s : Style) (e : Entry) (w : Words) (b : List ℕ) (w' : Words) → TraitsOf s e w b w' → Odd s b
odd_traits s e w b w' (given o n hd rest u k a x j g) = let d = odd_entry s e n k in (d.0, hd, rest, subst (λ w. IsU29 s w hd) d.1 a, j)
odd_traits s e w b w' (indexed i here o l g) = (2 * i, b, [], subst (λ w. IsU29 s w b) (omega arith) l, sym (append-nil b))

odd_number : (s : Style) (n m : ℕ) (b : List ℕ) → n ≡ 2 * m + 1 → IsU29 s n b → Odd s b
odd_number s n m b e h = (m, b, [], subst (λ w. IsU29 s w b) e h, sym (append-nil b))

odd_header : (s : Style) (a : Head) (w : List (List ℕ × Value)) (vs : List Value) (u : Words) (b : List ℕ) (u' : Words) → Fits a w vs → StepOf s (header_step a vs) u b u' → Odd s b
odd_header s (date x) w vs u b u' f p = odd_number s (2 * p.0.0 + 1) p.0.0 b refl p.0.1
odd_header s array w vs u b u' f p = odd_number s (2 * length vs + 1) (length vs) b refl p.0
odd_header s (object x) w vs u b u' f p = odd_traits s (plain x) u b u' p
odd_header s (wrapper x) w vs u b u' f p = odd_traits s (external x) u b u' p
odd_header s (bytes x) w vs u b u' f p = odd_number s (2 * length x + 1) (length x) b refl p.0
odd_header s (xml_document x) w vs u b u' f p = odd_number s (2 * length x + 1) (length x) b refl p.0
odd_header s (xml x) w vs u b u' f p = odd_number s (2 * length x + 1) (length x) b refl p.0
odd_header s (ints x y) w vs u b u' f p = odd_number s (2 * length y + 1) (length y) b refl p.0
odd_header s (uints x y) w vs u b u' f p = odd_number s (2 * length y + 1) (length y) b refl p.0
odd_header s (doubles x y) w vs u b u' f p = odd_number s (2 * length y + 1) (length y) b refl p.0
odd_header s (values x y) w vs u b u' f p = odd_number s (2 * length vs + 1) (length vs) b refl p.0
odd_header s (dictionary x) w vs u b u' f p = odd_number s (length vs + 1) f.1 b (omega arith) p.0

segments_odd : (s : Style) (R : Value → Spelling Tables) (a : Head) (w : List (List ℕ × Value)) (vs : List Value) (t : Tables) (b : List ℕ) (t' : Tables) → Fits a w vs → Segments R s (segments_of a w vs) t b t' → Odd s b
segments_odd s R a w vs t b t' f p = let o = odd_header s a w vs t.words p.front p.first.0 f p.first.1 in (o.0, o.1, o.2 ++ p.back, o.3, p.joined ∙ ap (λ w. w ++ p.back) o.4 ∙ append_assoc o.1 o.2 p.back)

raw_same : {x y : List ℕ} → raw x ≡ raw y → x ≡ y
raw_same e = cc

flag_step_same : {f g : Bool} → flag f ≡ flag g → f ≡ g
flag_step_same e = cc

number_step_same : {n m : ℕ} → number n ≡ number m → n ≡ m
number_step_same e = cc

head_same : {X : Type 0} (H : Bool → X → Head) {f g : Bool} {x y : X} → f ≡ g → x ≡ y → H f x ≡ H g y
head_same H {f} {g} {x} {y} e d = ap (λ w. H w x) e ∙ ap (λ w. H g w) d

zip_none : {A : Type 0} (R : A → A → Type 0) (xs ys : List A) → xs ≡ [] → ys ≡ [] → AllZip R xs ys
zip_none R xs ys e f = subst (λ w. AllZip R w ys) (sym e) (subst (λ w. AllZip R [] w) (sym f) tt)

module _ (g h : Graph) where
  paired_more : (t u t' u' : Tables) → Stays g t t' → Stays h u u' → Implies (Paired t u) (Paired t' u')
  paired_more t u t' u' a b i j p = (p.0, a.stays p.0 i p.1, b.stays p.0 j p.2)

  alike_weaker : (A B : Spelling Tables) (Q S : (ℕ → ℕ → Type 0) → Type 0) → ((P : ℕ → ℕ → Type 0) → Q P → S P) → Alike g h A B Q → Alike g h A B S
  alike_weaker A B Q S f a t u b c r q t' u' k x y e =
      let o = a t u b c r q t' u' k x y e in
      record { rest = o.rest; tied = o.tied; fresh = o.fresh; says = f (Paired t' u') o.says }

  -- nothing new was met
  no_fresh : (t u t' u' : Tables) → t'.done ≡ t.done → (k i j : ℕ) → length t.done ≤ k → slice_get t'.done k ≡ Some i → slice_get u'.done k ≡ Some j → NodesMatch (Paired t' u') (node_at g i) (node_at h j)
  no_fresh t u t' u' e k i j l a b = let w : k < length t'.done = slice_get_within t'.done k i a in let f : length t'.done ≡ length t.done = ap length e in absurd (omega arith)

  alike_then : (A A' B B' : Spelling Tables) (Q S : (ℕ → ℕ → Type 0) → Type 0) → Keeps g B → Keeps h B' → Monotone Q → Alike g h A A' Q → ((P : ℕ → ℕ → Type 0) → Q P → Alike g h B B' S) → Alike g h (Then A B) (Then A' B') (λ P. Q P × S P)
  alike_then A A' B B' Q S kB kB' mono first second t u b c r q t' u' k x y e =
      let o = first t u x.front y.front (x.back ++ r) (y.back ++ q) x.mid y.mid k x.first y.first (moved_two b x.front x.back c y.front y.back r q x.joined y.joined e) in
      let n = second (Paired x.mid y.mid) o.says x.mid y.mid x.back y.back r q t' u' o.tied x.second y.second o.rest in
      let kept = kB x.mid x.back t' x.second in
      let kept' = kB' y.mid y.back u' y.second in
      let more : Implies (Paired x.mid y.mid) (Paired t' u') = paired_more x.mid y.mid t' u' kept kept' in
      record {
        rest = n.rest;
        tied = n.tied;
        fresh = λ k i j l a b. join x.mid y.mid t' u' t u r q (x.back ++ r) (y.back ++ q) Q S o n kept kept' k i j l a b;
        says = (mono (Paired x.mid y.mid) (Paired t' u') more o.says, n.says);
      }
    where
      join : (m n t' u' t u : Tables) (r q r' q' : List ℕ) (Q S : (ℕ → ℕ → Type 0) → Type 0) → After g h t u m n r' q' Q → After g h m n t' u' r q S → Stays g m t' → Stays h n u' →
          (k i j : ℕ) → length t.done ≤ k → slice_get t'.done k ≡ Some i → slice_get u'.done k ≡ Some j → NodesMatch (Paired t' u') (node_at g i) (node_at h j)
      join m n t' u' t u r q r' q' Q S o s kept kept' k i j l a b =
          elim (cases_lt k (length m.done)) [
            | inl below ↦
                let one = entry m.done k below in
                let other = entry n.done k (subst (λ z. k < z) o.tied.level below) in
                let same : one.0 ≡ i = same_Some one.0 i (sym (kept.stays k one.0 one.1) ∙ a) in
                let same' : other.0 ≡ j = same_Some other.0 j (sym (kept'.stays k other.0 other.1) ∙ b) in
                nodes_more (Paired m n) (Paired t' u') (paired_more m n t' u' kept kept') (node_at g i) (node_at h j)
                (o.fresh k i j l (one.1 ∙ ap (λ z. Some z) same) (other.1 ∙ ap (λ z. Some z) same'))
            | inr above ↦ s.fresh k i j above a b
          ]

  -- at most the words have changed
  alike_words : (t u t' u' : Tables) (w w' : Words) (r q : List ℕ) (Q : (ℕ → ℕ → Type 0) → Type 0) → Tied t u → w ≡ w' → t' ≡ with_words t w → u' ≡ with_words u w' → r ≡ q → Q (Paired t' u') → After g h t u t' u' r q Q
  alike_words t u t' u' w w' r q Q k x e f o p = record {
    rest = o;
    tied = subst (λ v. Tied v u') (sym e) (subst (λ v. Tied (with_words t w) v) (sym f) (record { words = x; size = k.size; level = k.level; pairs = k.pairs }));
    fresh = no_fresh t u t' u' (ap (λ (w : Tables). w.done) e);
    says = p;
  }

  alike_step : (s z : Style) (x y : Step) → SameKind x y → Alike g h (Lifted (StepOf s x)) (Lifted (StepOf z y)) (λ P. x ≡ y)
  alike_step s z x y n t u b c r q t' u' k a d e =
      let o = step_same s z x y n t.words a.0 d.0 b c r q a.1 (subst (λ w. StepOf z y w c d.0) (sym k.words) d.1) e in
      alike_words t u t' u' a.0 d.0 r q (λ P. x ≡ y) k o.2 a.2 d.2 o.1 o.0

  module _ (s z : Style) (R R' : Value → Spelling Tables) (kR : (v : Value) → Keeps g (R v)) (kR' : (v : Value) → Keeps h (R' v)) (alike : (v w : Value) → Alike g h (R v) (R' w) (λ P. ValuesMatch P v w)) where
    abbrev Both : List Segment → List Segment → ((ℕ → ℕ → Type 0) → Type 0) → Type 0
    Both ps qs Q = Alike g h (Segments R s ps) (Segments R' z qs) Q

    both_end : Both [] [] (λ P. Unit {0})
    both_end t u b c r q t' u' k x y e = alike_words t u t' u' t.words u.words r q (λ P. Unit {0}) k k.words x.1 y.1 (moved b [] c [] r q x.0 y.0 e) tt

    both_step : (x y : Step) (ps qs : List Segment) (Q : (ℕ → ℕ → Type 0) → Type 0) → SameKind x y → (x ≡ y → Both ps qs Q) → Both (step x ∷ ps) (step y ∷ qs) (λ P. (x ≡ y) × Q P)
    both_step x y ps qs Q k rest =
        alike_then (Lifted (StepOf s x)) (Lifted (StepOf z y)) (Segments R s ps) (Segments R' z qs) (λ P. x ≡ y) Q (keeps_segments g s R kR ps) (keeps_segments h z R' kR' qs) (λ P S i e. e) (alike_step s z x y k) (λ P o. rest o)

    both_value : (v w : Value) (ps qs : List Segment) (Q : (ℕ → ℕ → Type 0) → Type 0) → Both ps qs Q → Both (value v ∷ ps) (value w ∷ qs) (λ P. ValuesMatch P v w × Q P)
    both_value v w ps qs Q rest =
        alike_then (R v) (R' w) (Segments R s ps) (Segments R' z qs) (λ P. ValuesMatch P v w) Q (keeps_segments g s R kR ps) (keeps_segments h z R' kR' qs) (λ P S i. values_more P S i v w) (alike v w) (λ P o. rest)

    both_weaker : (ps qs : List Segment) (Q S : (ℕ → ℕ → Type 0) → Type 0) → ((P : ℕ → ℕ → Type 0) → Q P → S P) → Both ps qs Q → Both ps qs S
    both_weaker ps qs = alike_weaker (Segments R s ps) (Segments R' z qs)

    both_values : (ps qs : List Segment) (Q : (ℕ → ℕ → Type 0) → Type 0) → Both ps qs Q → (vs ws : List Value) → length vs ≡ length ws → Both (values_then vs ps) (values_then ws qs) (λ P. AllZip (ValuesMatch P) vs ws × Q P)
    both_values ps qs Q rest [] [] l = both_weaker ps qs Q (λ P. AllZip (ValuesMatch P) [] [] × Q P) (λ P q. (tt, q)) rest
    both_values ps qs Q rest [] (w ∷ ws) l = absurd (omega arith)
    both_values ps qs Q rest (v ∷ vs) [] l = absurd (omega arith)
    both_values ps qs Q rest (v ∷ vs) (w ∷ ws) l =
        both_weaker (value v ∷ values_then vs ps) (value w ∷ values_then ws qs)
        (λ P. ValuesMatch P v w × (AllZip (ValuesMatch P) vs ws × Q P)) (λ P. AllZip (ValuesMatch P) (v ∷ vs) (w ∷ ws) × Q P) (λ P o. ((o.0, o.1.0), o.1.1))
        (both_value v w (values_then vs ps) (values_then ws qs) (λ P. AllZip (ValuesMatch P) vs ws × Q P) (both_values ps qs Q rest vs ws (omega arith)))

    both_pairs : (ps qs : List Segment) (Q : (ℕ → ℕ → Type 0) → Type 0) → Both ps qs Q → (vs ws : List (List ℕ × Value)) → AllNamed vs → AllNamed ws → Both (pairs_then vs ps) (pairs_then ws qs) (λ P. AllZip (PairsMatch P) vs ws × Q P)
    both_pairs ps qs Q rest [] [] n m =
        both_weaker (pairs_then [] ps) (pairs_then [] qs) (λ P. (word [] ≡ word []) × Q P) (λ P. AllZip (PairsMatch P) [] [] × Q P) (λ P o. (tt, o.1))
        (both_step (word []) (word []) ps qs Q tt (λ e. rest))
    both_pairs ps qs Q rest [] (w ∷ ws) n m =
        both_weaker (pairs_then [] ps) (pairs_then (w ∷ ws) qs) (λ P. (word [] ≡ word w.0) × ⊥) (λ P. AllZip (PairsMatch P) [] (w ∷ ws) × Q P) (λ P o. absurd o.1)
        (both_step (word []) (word w.0) ps (value w.1 ∷ pairs_then ws qs) (λ P. ⊥) tt (λ e. absurd (m.0 (let f : [] ≡ w.0 = cc in sym f))))
    both_pairs ps qs Q rest (v ∷ vs) [] n m =
        both_weaker (pairs_then (v ∷ vs) ps) (pairs_then [] qs) (λ P. (word v.0 ≡ word []) × ⊥) (λ P. AllZip (PairsMatch P) (v ∷ vs) [] × Q P) (λ P o. absurd o.1)
        (both_step (word v.0) (word []) (value v.1 ∷ pairs_then vs ps) qs (λ P. ⊥) tt (λ e. absurd (n.0 (let f : v.0 ≡ [] = cc in f))))
    both_pairs ps qs Q rest (v ∷ vs) (w ∷ ws) n m =
        both_weaker (pairs_then (v ∷ vs) ps) (pairs_then (w ∷ ws) qs)
        (λ P. (word v.0 ≡ word w.0) × (ValuesMatch P v.1 w.1 × (AllZip (PairsMatch P) vs ws × Q P))) (λ P. AllZip (PairsMatch P) (v ∷ vs) (w ∷ ws) × Q P)
        (λ P o. let e : v.0 ≡ w.0 = cc (o.0) in (((e, o.1.0), o.1.1.0), o.1.1.1))
        (both_step (word v.0) (word w.0) (value v.1 ∷ pairs_then vs ps) (value w.1 ∷ pairs_then ws qs) (λ P. ValuesMatch P v.1 w.1 × (AllZip (PairsMatch P) vs ws × Q P)) tt
        (λ e. both_value v.1 w.1 (pairs_then vs ps) (pairs_then ws qs) (λ P. AllZip (PairsMatch P) vs ws × Q P) (both_pairs ps qs Q rest vs ws n.1 m.1)))

    -- the members of an object, which has none where its traits are not dynamic
    both_members : (f : Bool) (v w : List (List ℕ × Value)) → AreMembers f v → AreMembers f w → AllNamed v → AllNamed w → Both (cond f (pairs_then v []) []) (cond f (pairs_then w []) []) (λ P. AllZip (PairsMatch P) v w)
    both_members true v w e f n m = both_weaker (pairs_then v []) (pairs_then w []) (λ P. AllZip (PairsMatch P) v w × Unit {0}) (λ P. AllZip (PairsMatch P) v w) (λ P o. o.0) (both_pairs [] [] (λ P. Unit {0}) both_end v w n m)
    both_members false v w e f n m = both_weaker [] [] (λ P. Unit {0}) (λ P. AllZip (PairsMatch P) v w) (λ P o. zip_none (PairsMatch P) v w e f) both_end

    abbrev Agreed : Head → Head → List (List ℕ × Value) → List (List ℕ × Value) → List Value → List Value → (ℕ → ℕ → Type 0) → Type 0
    Agreed a a' v w vs ws P = (a ≡ a') × AllZip (PairsMatch P) v w × AllZip (ValuesMatch P) vs ws

    -- kind by kind: one input, laid out as two nodes, shows that they agree
    -- kind by kind: one input, laid out as two nodes, shows that they agree
    both_segments : (a a' : Head) (v w : List (List ℕ × Value)) (vs ws : List Value) → marker a ≡ marker a' → Fits a v vs → Fits a' w ws → AllNamed v → AllNamed w → Both (segments_of a v vs) (segments_of a' w ws) (Agreed a a' v w vs ws)
    both_segments (date p) (date p') v w vs ws e f f' n m =
        both_weaker (segments_of (date p) v vs) (segments_of (date p') w ws) (λ P. (unused ≡ unused) × ((raw (to_be_bytes w64 p) ≡ raw (to_be_bytes w64 p')) × Unit {0})) (Agreed (date p) (date p') v w vs ws)
        (λ P o. let d : raw (to_be_bytes w64 p) ≡ raw (to_be_bytes w64 p') = o.1.0 in (ap date (eight_same p p' f.0 f'.0 (raw_same d)), zip_none (PairsMatch P) v w f.1 f'.1, zip_none (ValuesMatch P) vs ws f.2 f'.2))
        (both_step unused unused (step (raw (to_be_bytes w64 p)) ∷ []) (step (raw (to_be_bytes w64 p')) ∷ []) (λ P. (raw (to_be_bytes w64 p) ≡ raw (to_be_bytes w64 p')) × Unit {0}) tt (λ d. both_step (raw (to_be_bytes w64 p)) (raw (to_be_bytes w64 p')) [] [] (λ P. Unit {0}) refl (λ d. both_end)))
    both_segments array array v w vs ws e f f' n m =
        both_weaker (segments_of array v vs) (segments_of array w ws) (λ P. (number (2 * length vs + 1) ≡ number (2 * length ws + 1)) × (AllZip (PairsMatch P) v w × (AllZip (ValuesMatch P) vs ws × Unit {0}))) (Agreed array array v w vs ws)
        (λ P o. (refl, o.1.0, o.1.1.0))
        (both_step (number (2 * length vs + 1)) (number (2 * length ws + 1)) (pairs_then v (values_then vs [])) (pairs_then w (values_then ws [])) (λ P. AllZip (PairsMatch P) v w × (AllZip (ValuesMatch P) vs ws × Unit {0})) tt
        (λ d. let l : 2 * length vs + 1 ≡ 2 * length ws + 1 = cc in both_pairs (values_then vs []) (values_then ws []) (λ P. AllZip (ValuesMatch P) vs ws × Unit {0}) (both_values [] [] (λ P. Unit {0}) both_end vs ws (omega arith)) v w n m))
    both_segments (object t) (object t') v w vs ws e f f' n m =
        both_weaker (segments_of (object t) v vs) (segments_of (object t') w ws) (λ P. (traits (plain t) ≡ traits (plain t')) × (AllZip (ValuesMatch P) vs ws × AllZip (PairsMatch P) v w)) (Agreed (object t) (object t') v w vs ws)
        (λ P o. let d : traits (plain t) ≡ traits (plain t') = o.0 in (cc, o.1.1, o.1.0))
        (both_step (traits (plain t)) (traits (plain t')) (values_then vs (cond t.dynamic (pairs_then v []) [])) (values_then ws (cond t'.dynamic (pairs_then w []) [])) (λ P. AllZip (ValuesMatch P) vs ws × AllZip (PairsMatch P) v w) tt
        (λ d. let same : t ≡ t' = cc in
        both_values (cond t.dynamic (pairs_then v []) []) (cond t'.dynamic (pairs_then w []) []) (λ P. AllZip (PairsMatch P) v w)
        (subst (λ y. Both (cond t.dynamic (pairs_then v []) []) (cond y (pairs_then w []) []) (λ P. AllZip (PairsMatch P) v w)) (ap (λ (y : Traits). y.dynamic) same)
        (both_members t.dynamic v w f.1 (subst (λ y. AreMembers y w) (sym (ap (λ (y : Traits). y.dynamic) same)) f'.1) n m))
        vs ws (f.0 ∙ ap (λ (y : Traits). length y.sealed) same ∙ sym f'.0)))
    both_segments (object t) (wrapper c') v w vs ws e f f' n m =
        both_weaker (segments_of (object t) v vs) (segments_of (wrapper c') w ws) (λ P. (traits (plain t) ≡ traits (external c')) × ⊥) (Agreed (object t) (wrapper c') v w vs ws) (λ P o. absurd o.1)
        (both_step (traits (plain t)) (traits (external c')) (values_then vs (cond t.dynamic (pairs_then v []) [])) (values_then ws []) (λ P. ⊥) tt (λ d. cc))
    both_segments (wrapper c) (object t') v w vs ws e f f' n m =
        both_weaker (segments_of (wrapper c) v vs) (segments_of (object t') w ws) (λ P. (traits (external c) ≡ traits (plain t')) × ⊥) (Agreed (wrapper c) (object t') v w vs ws) (λ P o. absurd o.1)
        (both_step (traits (external c)) (traits (plain t')) (values_then vs []) (values_then ws (cond t'.dynamic (pairs_then w []) [])) (λ P. ⊥) tt (λ d. cc))
    both_segments (wrapper c) (wrapper c') v w vs ws e f f' n m =
        both_weaker (segments_of (wrapper c) v vs) (segments_of (wrapper c') w ws) (λ P. (traits (external c) ≡ traits (external c')) × (AllZip (ValuesMatch P) vs ws × Unit {0})) (Agreed (wrapper c) (wrapper c') v w vs ws)
        (λ P o. let d : traits (external c) ≡ traits (external c') = o.0 in (cc, zip_none (PairsMatch P) v w f.0 f'.0, o.1.0))
        (both_step (traits (external c)) (traits (external c')) (values_then vs []) (values_then ws []) (λ P. AllZip (ValuesMatch P) vs ws × Unit {0}) tt (λ d. both_values [] [] (λ P. Unit {0}) both_end vs ws (f.1 ∙ sym f'.1)))
    both_segments (bytes x) (bytes x') v w vs ws e f f' n m =
        both_weaker (segments_of (bytes x) v vs) (segments_of (bytes x') w ws) (λ P. (number (2 * length x + 1) ≡ number (2 * length x' + 1)) × ((raw x ≡ raw x') × Unit {0})) (Agreed (bytes x) (bytes x') v w vs ws)
        (λ P o. let d : raw x ≡ raw x' = o.1.0 in (cc, zip_none (PairsMatch P) v w f.1 f'.1, zip_none (ValuesMatch P) vs ws f.2 f'.2))
        (both_step (number (2 * length x + 1)) (number (2 * length x' + 1)) (step (raw x) ∷ []) (step (raw x') ∷ []) (λ P. (raw x ≡ raw x') × Unit {0}) tt
        (λ d. let l : 2 * length x + 1 ≡ 2 * length x' + 1 = cc in both_step (raw x) (raw x') [] [] (λ P. Unit {0}) (omega arith) (λ d. both_end)))
    both_segments (xml_document x) (xml_document x') v w vs ws e f f' n m =
        both_weaker (segments_of (xml_document x) v vs) (segments_of (xml_document x') w ws) (λ P. (number (2 * length x + 1) ≡ number (2 * length x' + 1)) × ((raw x ≡ raw x') × Unit {0})) (Agreed (xml_document x) (xml_document x') v w vs ws)
        (λ P o. let d : raw x ≡ raw x' = o.1.0 in (cc, zip_none (PairsMatch P) v w f.1 f'.1, zip_none (ValuesMatch P) vs ws f.2 f'.2))
        (both_step (number (2 * length x + 1)) (number (2 * length x' + 1)) (step (raw x) ∷ []) (step (raw x') ∷ []) (λ P. (raw x ≡ raw x') × Unit {0}) tt
        (λ d. let l : 2 * length x + 1 ≡ 2 * length x' + 1 = cc in both_step (raw x) (raw x') [] [] (λ P. Unit {0}) (omega arith) (λ d. both_end)))
    both_segments (xml x) (xml x') v w vs ws e f f' n m =
        both_weaker (segments_of (xml x) v vs) (segments_of (xml x') w ws) (λ P. (number (2 * length x + 1) ≡ number (2 * length x' + 1)) × ((raw x ≡ raw x') × Unit {0})) (Agreed (xml x) (xml x') v w vs ws)
        (λ P o. let d : raw x ≡ raw x' = o.1.0 in (cc, zip_none (PairsMatch P) v w f.1 f'.1, zip_none (ValuesMatch P) vs ws f.2 f'.2))
        (both_step (number (2 * length x + 1)) (number (2 * length x' + 1)) (step (raw x) ∷ []) (step (raw x') ∷ []) (λ P. (raw x ≡ raw x') × Unit {0}) tt
        (λ d. let l : 2 * length x + 1 ≡ 2 * length x' + 1 = cc in both_step (raw x) (raw x') [] [] (λ P. Unit {0}) (omega arith) (λ d. both_end)))
    both_segments (ints i x) (ints i' x') v w vs ws e f f' n m =
        both_weaker (segments_of (ints i x) v vs) (segments_of (ints i' x') w ws) (λ P. (number (2 * length x + 1) ≡ number (2 * length x' + 1)) × ((flag i ≡ flag i') × ((raw (signed_bytes x) ≡ raw (signed_bytes x')) × Unit {0}))) (Agreed (ints i x) (ints i' x') v w vs ws)
        (λ P o. let l : 2 * length x + 1 ≡ 2 * length x' + 1 = number_step_same o.0 in (head_same ints (flag_step_same o.1.0) (signed_all_same x x' (omega arith) f.0 f'.0 (raw_same o.1.1.0)), zip_none (PairsMatch P) v w f.1 f'.1, zip_none (ValuesMatch P) vs ws f.2 f'.2))
        (both_step (number (2 * length x + 1)) (number (2 * length x' + 1)) (step (flag i) ∷ step (raw (signed_bytes x)) ∷ []) (step (flag i') ∷ step (raw (signed_bytes x')) ∷ []) (λ P. (flag i ≡ flag i') × ((raw (signed_bytes x) ≡ raw (signed_bytes x')) × Unit {0})) tt
        (λ d. let l : 2 * length x + 1 ≡ 2 * length x' + 1 = number_step_same d in both_step (flag i) (flag i') (step (raw (signed_bytes x)) ∷ []) (step (raw (signed_bytes x')) ∷ []) (λ P. (raw (signed_bytes x) ≡ raw (signed_bytes x')) × Unit {0}) tt (λ d. both_step (raw (signed_bytes x)) (raw (signed_bytes x')) [] [] (λ P. Unit {0}) (signed_long x x' (omega arith)) (λ d. both_end))))
    both_segments (uints i x) (uints i' x') v w vs ws e f f' n m =
        both_weaker (segments_of (uints i x) v vs) (segments_of (uints i' x') w ws) (λ P. (number (2 * length x + 1) ≡ number (2 * length x' + 1)) × ((flag i ≡ flag i') × ((raw (four_bytes x) ≡ raw (four_bytes x')) × Unit {0}))) (Agreed (uints i x) (uints i' x') v w vs ws)
        (λ P o. let l : 2 * length x + 1 ≡ 2 * length x' + 1 = number_step_same o.0 in (head_same uints (flag_step_same o.1.0) (fours_same x x' (omega arith) f.0 f'.0 (raw_same o.1.1.0)), zip_none (PairsMatch P) v w f.1 f'.1, zip_none (ValuesMatch P) vs ws f.2 f'.2))
        (both_step (number (2 * length x + 1)) (number (2 * length x' + 1)) (step (flag i) ∷ step (raw (four_bytes x)) ∷ []) (step (flag i') ∷ step (raw (four_bytes x')) ∷ []) (λ P. (flag i ≡ flag i') × ((raw (four_bytes x) ≡ raw (four_bytes x')) × Unit {0})) tt
        (λ d. let l : 2 * length x + 1 ≡ 2 * length x' + 1 = number_step_same d in both_step (flag i) (flag i') (step (raw (four_bytes x)) ∷ []) (step (raw (four_bytes x')) ∷ []) (λ P. (raw (four_bytes x) ≡ raw (four_bytes x')) × Unit {0}) tt (λ d. both_step (raw (four_bytes x)) (raw (four_bytes x')) [] [] (λ P. Unit {0}) (fours_long x x' (omega arith)) (λ d. both_end))))
    both_segments (doubles i x) (doubles i' x') v w vs ws e f f' n m =
        both_weaker (segments_of (doubles i x) v vs) (segments_of (doubles i' x') w ws) (λ P. (number (2 * length x + 1) ≡ number (2 * length x' + 1)) × ((flag i ≡ flag i') × ((raw (eight_bytes x) ≡ raw (eight_bytes x')) × Unit {0}))) (Agreed (doubles i x) (doubles i' x') v w vs ws)
        (λ P o. let l : 2 * length x + 1 ≡ 2 * length x' + 1 = number_step_same o.0 in (head_same doubles (flag_step_same o.1.0) (eights_same x x' (omega arith) f.0 f'.0 (raw_same o.1.1.0)), zip_none (PairsMatch P) v w f.1 f'.1, zip_none (ValuesMatch P) vs ws f.2 f'.2))
        (both_step (number (2 * length x + 1)) (number (2 * length x' + 1)) (step (flag i) ∷ step (raw (eight_bytes x)) ∷ []) (step (flag i') ∷ step (raw (eight_bytes x')) ∷ []) (λ P. (flag i ≡ flag i') × ((raw (eight_bytes x) ≡ raw (eight_bytes x')) × Unit {0})) tt
        (λ d. let l : 2 * length x + 1 ≡ 2 * length x' + 1 = number_step_same d in both_step (flag i) (flag i') (step (raw (eight_bytes x)) ∷ []) (step (raw (eight_bytes x')) ∷ []) (λ P. (raw (eight_bytes x) ≡ raw (eight_bytes x')) × Unit {0}) tt (λ d. both_step (raw (eight_bytes x)) (raw (eight_bytes x')) [] [] (λ P. Unit {0}) (eights_long x x' (omega arith)) (λ d. both_end))))
    both_segments (values i x) (values i' x') v w vs ws e f f' n m =
        both_weaker (segments_of (values i x) v vs) (segments_of (values i' x') w ws) (λ P. (number (2 * length vs + 1) ≡ number (2 * length ws + 1)) × ((flag i ≡ flag i') × ((word x ≡ word x') × (AllZip (ValuesMatch P) vs ws × Unit {0})))) (Agreed (values i x) (values i' x') v w vs ws)
        (λ P o. let c2 : flag i ≡ flag i' = o.1.0 in let c3 : word x ≡ word x' = o.1.1.0 in (cc, zip_none (PairsMatch P) v w f f', o.1.1.1.0))
        (both_step (number (2 * length vs + 1)) (number (2 * length ws + 1)) (step (flag i) ∷ step (word x) ∷ values_then vs []) (step (flag i') ∷ step (word x') ∷ values_then ws []) (λ P. (flag i ≡ flag i') × ((word x ≡ word x') × (AllZip (ValuesMatch P) vs ws × Unit {0}))) tt
        (λ d. let l : 2 * length vs + 1 ≡ 2 * length ws + 1 = cc in both_step (flag i) (flag i') (step (word x) ∷ values_then vs []) (step (word x') ∷ values_then ws []) (λ P. (word x ≡ word x') × (AllZip (ValuesMatch P) vs ws × Unit {0})) tt
        (λ d. both_step (word x) (word x') (values_then vs []) (values_then ws []) (λ P. AllZip (ValuesMatch P) vs ws × Unit {0}) tt (λ d. both_values [] [] (λ P. Unit {0}) both_end vs ws (omega arith)))))
    both_segments (dictionary i) (dictionary i') v w vs ws e f f' n m =
        both_weaker (segments_of (dictionary i) v vs) (segments_of (dictionary i') w ws) (λ P. (number (length vs + 1) ≡ number (length ws + 1)) × ((flag i ≡ flag i') × (AllZip (ValuesMatch P) vs ws × Unit {0}))) (Agreed (dictionary i) (dictionary i') v w vs ws)
        (λ P o. let c2 : flag i ≡ flag i' = o.1.0 in (cc, zip_none (PairsMatch P) v w f.0 f'.0, o.1.1.0))
        (both_step (number (length vs + 1)) (number (length ws + 1)) (step (flag i) ∷ values_then vs []) (step (flag i') ∷ values_then ws []) (λ P. (flag i ≡ flag i') × (AllZip (ValuesMatch P) vs ws × Unit {0})) tt
        (λ d. let l : length vs + 1 ≡ length ws + 1 = cc in both_step (flag i) (flag i') (values_then vs []) (values_then ws []) (λ P. AllZip (ValuesMatch P) vs ws × Unit {0}) tt (λ d. both_values [] [] (λ P. Unit {0}) both_end vs ws (omega arith))))
    both_segments _ _ v w vs ws e f f' n m = absurd (omega arith)

    both_leaf_rest : (x y : Leaf) → IsLeaf x → IsLeaf y → leaf_marker x ≡ leaf_marker y → Both (leaf_segments x) (leaf_segments y) (λ P. x ≡ y)
    both_leaf_rest undefined undefined h k e = both_weaker [] [] (λ P. Unit {0}) (λ P. undefined ≡ undefined) (λ P o. refl) both_end
    both_leaf_rest null null h k e = both_weaker [] [] (λ P. Unit {0}) (λ P. null ≡ null) (λ P o. refl) both_end
    both_leaf_rest (boolean true) (boolean true) h k e = both_weaker [] [] (λ P. Unit {0}) (λ P. boolean true ≡ boolean true) (λ P o. refl) both_end
    both_leaf_rest (boolean false) (boolean false) h k e = both_weaker [] [] (λ P. Unit {0}) (λ P. boolean false ≡ boolean false) (λ P o. refl) both_end
    both_leaf_rest (integer n) (integer m) h k e = both_weaker (leaf_segments (integer n)) (leaf_segments (integer m)) (λ P. (number (integer_bits n) ≡ number (integer_bits m)) × Unit {0}) (λ P. integer n ≡ integer m) (λ P o. ap integer (integer_same n m h k (number_step_same o.0))) (both_step (number (integer_bits n)) (number (integer_bits m)) [] [] (λ P. Unit {0}) tt (λ d. both_end))
    both_leaf_rest (double n) (double m) h k e = both_weaker (leaf_segments (double n)) (leaf_segments (double m)) (λ P. (raw (to_be_bytes w64 n) ≡ raw (to_be_bytes w64 m)) × Unit {0}) (λ P. double n ≡ double m) (λ P o. ap double (eight_same n m h k (raw_same o.0))) (both_step (raw (to_be_bytes w64 n)) (raw (to_be_bytes w64 m)) [] [] (λ P. Unit {0}) refl (λ d. both_end))
    both_leaf_rest (text n) (text m) h k e = both_weaker (leaf_segments (text n)) (leaf_segments (text m)) (λ P. (word n ≡ word m) × Unit {0}) (λ P. text n ≡ text m) (λ P o. let d : word n ≡ word m = o.0 in cc) (both_step (word n) (word m) [] [] (λ P. Unit {0}) tt (λ d. both_end))
    both_leaf_rest (boolean true) _ h k e = absurd (omega arith)
    both_leaf_rest (boolean false) _ h k e = absurd (omega arith)
    both_leaf_rest _ (boolean true) h k e = absurd (omega arith)
    both_leaf_rest _ (boolean false) h k e = absurd (omega arith)
    both_leaf_rest _ _ h k e = absurd (omega arith)

    both_leaf : (x y : Leaf) → IsLeaf x → IsLeaf y → Both (step (byte (leaf_marker x)) ∷ leaf_segments x) (step (byte (leaf_marker y)) ∷ leaf_segments y) (λ P. x ≡ y)
    both_leaf x y h k =
        both_weaker (step (byte (leaf_marker x)) ∷ leaf_segments x) (step (byte (leaf_marker y)) ∷ leaf_segments y) (λ P. (byte (leaf_marker x) ≡ byte (leaf_marker y)) × (x ≡ y)) (λ P. x ≡ y) (λ P o. o.1)
        (both_step (byte (leaf_marker x)) (byte (leaf_marker y)) (leaf_segments x) (leaf_segments y) (λ P. x ≡ y) tt (λ e. both_leaf_rest x y h k (let d : leaf_marker x ≡ leaf_marker y = cc in d)))

  leaf_byte : (s : Style) (x : Leaf) (t : Tables) (b : List ℕ) (t' : Tables) → Segments (λ v t b t'. ⊥) s (step (byte (leaf_marker x)) ∷ leaf_segments x) t b t' → (c : List ℕ) × (b ≡ leaf_marker x ∷ c)
  leaf_byte s x t b t' p = (p.back, p.joined ∙ ap (λ w. w ++ p.back) p.first.1.0)

  alike_value : (s z : Style) (N N' : ℕ → Spelling Tables) → ((i j : ℕ) → marker (node_at g i).head ≡ marker (node_at h j).head → Alike g h (N i) (N' j) (λ P. P i j)) → (v w : Value) → Alike g h (ValueBy N s g v) (ValueBy N' z h w) (λ P. ValuesMatch P v w)
  alike_value s z N N' a (leaf x) (leaf y) t u b c r q t' u' k p p' e =
      both_leaf s z (λ v t b t'. ⊥) (λ v t b t'. ⊥) (λ v t b t' o. absurd o) (λ v t b t' o. absurd o) (λ v w t u b c r q t' u' k o o' e. absurd o) x y p.0 p'.0 t u b c r q t' u' k p.1 p'.1 e
  alike_value s z N N' a (leaf x) (node j) t u b c r q t' u' k p p' e =
      let o = leaf_byte s x t b t' p.1 in
      let f = cons_same (moved b (leaf_marker x ∷ o.0) c (marker (node_at h j).head ∷ p'.0) r q o.1 p'.1 e) in
      absurd (omega (arith, leaf_low x, marker_high (node_at h j).head))
  alike_value s z N N' a (node i) (leaf y) t u b c r q t' u' k p p' e =
      let o = leaf_byte z y u c u' p'.1 in
      let f = cons_same (moved b (marker (node_at g i).head ∷ p.0) c (leaf_marker y ∷ o.0) r q p.1 o.1 e) in
      absurd (omega (arith, leaf_low y, marker_high (node_at g i).head))
  alike_value s z N N' a (node i) (node j) t u b c r q t' u' k x y e =
      let f = cons_same (moved b (marker (node_at g i).head ∷ x.0) c (marker (node_at h j).head ∷ y.0) r q x.1 y.1 e) in
      a i j f.0 t u x.0 y.0 r q t' u' k x.2 y.2 f.1

  alike_placed : (s z : Style) (i j : ℕ) → Alike g h (Placed s i) (Placed z j) (λ P. P i j)
  alike_placed s z i j t u b c r q t' u' k x y e =
      let o = number_same (2 * x.place) (2 * y.place) b c r q x.spelled y.spelled e in
      let same : y.place ≡ x.place = omega arith in
      let p = k.pairs x.place i j x.here (ap (λ w. slice_get u.nodes w) (sym same) ∙ y.here) in
      alike_words t u t' u' t.words u.words r q (λ P. P i j) k k.words x.same y.same o.1
      (p.0, ap (λ (w : Tables). slice_get w.done p.0) x.same ∙ p.1, ap (λ (w : Tables). slice_get w.done p.0) y.same ∙ p.2)

  -- a header's number is odd, a place's is even
  placed_not_begun : (s z : Style) (R : Value → Spelling Tables) (k : ℕ) (j : ℕ) (u u' : Tables) (b c r q : List ℕ) → IsU29 s (2 * k) b → Begun R z h j u c u' → b ++ r ≡ c ++ q → ⊥
  placed_not_begun s z R k j u u' b c r q n y e =
      let o = segments_odd z R (node_at h j).head y.wire (node_at h j).values (add_node u j) c u' y.fits y.body in
      let p = number_same (2 * k) (2 * o.0 + 1) b o.1 r (o.2 ++ q) n o.3 (e ∙ ap (λ w. w ++ q) o.4 ∙ append_assoc o.1 o.2 q) in
      absurd (omega arith)

  begun_not_placed : (s z : Style) (R : Value → Spelling Tables) (k : ℕ) (i : ℕ) (t t' : Tables) (b c r q : List ℕ) → IsU29 z (2 * k) c → Begun R s g i t b t' → b ++ r ≡ c ++ q → ⊥
  begun_not_placed s z R k i t t' b c r q n x e =
      let o = segments_odd s R (node_at g i).head x.wire (node_at g i).values (add_node t i) b t' x.fits x.body in
      let p = number_same (2 * o.0 + 1) (2 * k) o.1 c (o.2 ++ r) q o.3 n (sym (ap (λ w. w ++ r) o.4 ∙ append_assoc o.1 o.2 r) ∙ e) in
      absurd (omega arith)

  begin_tied : (t u : Tables) (i j : ℕ) → Tied t u → Tied (add_node t i) (add_node u j)
  begin_tied t u i j k = record {
    words = k.words;
    size = length_pushed t.nodes i ∙ ap suc k.size ∙ sym (length_pushed u.nodes j);
    level = length_pushed t.done i ∙ ap suc k.level ∙ sym (length_pushed u.done j);
    pairs = λ n a b e f. elim (at_push t.nodes i n a e) [
      | inl p ↦ elim (at_push u.nodes j n b f) [
        | inl q ↦ let o = k.pairs n a b p q in (o.0, at_left t.done (i ∷ []) o.0 a o.1, at_left u.done (j ∷ []) o.0 b o.2)
        | inr q ↦ absurd (omega (arith, slice_get_within t.nodes n a p, k.size, q.0))
      ]
      | inr p ↦ elim (at_push u.nodes j n b f) [
        | inl q ↦ absurd (omega (arith, slice_get_within u.nodes n b q, k.size, p.0))
        | inr q ↦ (length t.done, at_end t.done i ∙ ap (λ w. Some w) p.1, subst (λ w. slice_get (u.done ++ j ∷ []) w ≡ Some b) (sym k.level) (at_end u.done j ∙ ap (λ w. Some w) q.1))
      ]
    ];
  }

  alike_begun : (s z : Style) (R R' : Value → Spelling Tables) → ((v : Value) → Keeps g (R v)) → ((v : Value) → Keeps h (R' v)) → ((v w : Value) → Alike g h (R v) (R' w) (λ P. ValuesMatch P v w)) →
      (i j : ℕ) → marker (node_at g i).head ≡ marker (node_at h j).head → Alike g h (Begun R s g i) (Begun R' z h j) (λ P. P i j)
  alike_begun s z R R' kR kR' alike i j m t u b c r q t' u' k x y e =
      let a = node_at g i in
      let a' = node_at h j in
      let o = both_segments s z R R' kR kR' alike a.head a'.head x.wire y.wire a.values a'.values m x.fits y.fits x.named y.named (add_node t i) (add_node u j) b c r q t' u' (begin_tied t u i j k) x.body y.body e in
      let kept = keeps_segments g s R kR (segments_of a.head x.wire a.values) (add_node t i) b t' x.body in
      let kept' = keeps_segments h z R' kR' (segments_of a'.head y.wire a'.values) (add_node u j) c u' y.body in
      let here = kept.stays (length t.done) i (at_end t.done i) in
      let here' = kept'.stays (length t.done) j (subst (λ w. slice_get (u.done ++ j ∷ []) w ≡ Some j) (sym k.level) (at_end u.done j)) in
      let these : NodesMatch (Paired t' u') a a' = record {
        head = o.says.0;
        names = subst (λ w. AllZip (PairsMatch (Paired t' u')) w (by_name a'.names)) x.sorted (subst (λ w. AllZip (PairsMatch (Paired t' u')) (by_name x.wire) w) y.sorted (by_name_match (Paired t' u') x.wire y.wire o.says.1));
        values = o.says.2;
      } in
      record {
        rest = o.rest;
        tied = o.tied;
        fresh = λ n i' j' l p p'. elim (cases_lt (length t.done) n) [
          | inl above ↦ o.fresh n i' j' (subst (λ w. w ≤ n) (sym (length_pushed t.done i)) above) p p'
          | inr below ↦
              let at : length t.done ≡ n = omega arith in
              let same : i ≡ i' = same_Some i i' (sym here ∙ ap (λ w. slice_get t'.done w) at ∙ p) in
              let same' : j ≡ j' = same_Some j j' (sym here' ∙ ap (λ w. slice_get u'.done w) at ∙ p') in
              subst (λ w. NodesMatch (Paired t' u') (node_at g w) (node_at h j')) same (subst (λ w. NodesMatch (Paired t' u') a (node_at h w)) same' these)
        ];
        says = (length t.done, here, here');
      }

  alike_node : (s z : Style) (d n : ℕ) (i j : ℕ) → marker (node_at g i).head ≡ marker (node_at h j).head → Alike g h (NodeIn d s g i) (NodeIn n z h j) (λ P. P i j)
  alike_node s z zero zero i j m t u b c r q t' u' k x y e = alike_placed s z i j t u b c r q t' u' k x y e
  alike_node s z zero (suc n) i j m t u b c r q t' u' k x (inl y) e = alike_placed s z i j t u b c r q t' u' k x y e
  alike_node s z zero (suc n) i j m t u b c r q t' u' k x (inr y) e = absurd (placed_not_begun s z (Spells n z h) x.place j u u' b c r q x.spelled y e)
  alike_node s z (suc d) zero i j m t u b c r q t' u' k (inl x) y e = alike_placed s z i j t u b c r q t' u' k x y e
  alike_node s z (suc d) zero i j m t u b c r q t' u' k (inr x) y e = absurd (begun_not_placed s z (Spells d s g) y.place i t t' b c r q y.spelled x e)
  alike_node s z (suc d) (suc n) i j m t u b c r q t' u' k (inl x) (inl y) e = alike_placed s z i j t u b c r q t' u' k x y e
  alike_node s z (suc d) (suc n) i j m t u b c r q t' u' k (inl x) (inr y) e = absurd (placed_not_begun s z (Spells n z h) x.place j u u' b c r q x.spelled y e)
  alike_node s z (suc d) (suc n) i j m t u b c r q t' u' k (inr x) (inl y) e = absurd (begun_not_placed s z (Spells d s g) y.place i t t' b c r q y.spelled x e)
  alike_node s z (suc d) (suc n) i j m t u b c r q t' u' k (inr x) (inr y) e =
      alike_begun s z (Spells d s g) (Spells n z h) (keeps_spells g s d) (keeps_spells h z n) (alike_value s z (NodeIn d s g) (NodeIn n z h) (alike_node s z d n)) i j m t u b c r q t' u' k x y e

  pub alike : (s z : Style) (d n : ℕ) (v w : Value) → Alike g h (Spells d s g v) (Spells n z h w) (λ P. ValuesMatch P v w)
  alike s z d n = alike_value s z (NodeIn d s g) (NodeIn n z h) (alike_node s z d n)
