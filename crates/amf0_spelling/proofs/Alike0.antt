-- Two spellings of one input in AMF 0: what the one spells and what the other spells match.
use Rattle.std.specs.Int.{to_be_bytes, w16, w32, w64}
use Rattle.std.specs.List.{AllZip}
use Rattle.std.proofs.Common.{◌≡◌, ◌≢◌, ℕ, zero, suc, ◌<◌, ◌≤◌, Bool, true, false, cond, eqb, List, [], ◌∷◌, ◌++◌, length, slice_get, Some, sym, refl, ap, ◌∙◌, subst, inl, inr, arith, append_assoc}
use Rattle.std.proofs.lemmas.List.{nil_from_length}
use Rattle.std.proofs.lemmas.Option.{same_Some, slice_get_within}
use Rattle.std.proofs.lemmas.Bool.{cases_lt}
use Rattle.amf_io.specs.Field.{Kind, Field, flat, field, u32_kind, no_refusal}
use Rattle.amf_wire.specs.Style.{Style, free}
use Rattle.amf_graph.specs.Graph.{Leaf, undefined, null, boolean, integer, double, text, Value, leaf, node, Traits, Head, xml_document, date, array, object, wrapper, xml, bytes, ints, uints, doubles, values, dictionary, Fits, Graph, node_at}
use Rattle.amf_graph.specs.ByName.{by_name}
use Rattle.amf_graph.specs.Isomorphic.{ValuesMatch, PairsMatch, NodesMatch}
use Rattle.amf_graph.proofs.Lists.{cons_same, entry, at_left, at_end, at_push, length_pushed}
use Rattle.amf_graph.proofs.Matching.{Implies, values_more, nodes_more, by_name_match}
use Rattle.amf3_spelling.specs.Tables.{Tables}
use Rattle.amf3_spelling.specs.Then.{Spelling, Then, Plain}
use Rattle.amf3_spelling.specs.Segments3.{IsFlag}
use Rattle.amf3_spelling.specs.Spells3.{Spells3}
use Rattle.amf3_spelling.proofs.Alike3.{Paired as Paired3, Tied as Tied3, After as After3, alike}
use Rattle.amf3_spelling.proofs.BytesOf.{to_spells}
use Rattle.amf0_spelling.specs.Tables0.{Tables0, add_node0, add_done0, switched_to}
use Rattle.amf0_spelling.specs.Segments0.{Short, Marked0, LeafBy0, Values0, Pairs0, Count0, PairsBy0, is_empty}
use Rattle.amf0_spelling.specs.Spells0.{IsOpenTraits, NodeBy0, Named0, Begun0, Switched, InlineIn0, SpellsIn0, Spells0}
use Rattle.amf0_spelling.proofs.Bytes.{be16, be32, be64, cut, one_flat, short_same, long_same, count_same}
use Rattle.amf0_spelling.proofs.Stays0.{Stays, stays_same, Keeps, keeps3, leaf_still, keeps_plain, keeps_values, keeps_pairs, keeps_pairs_by, keeps_then, keeps_values_in}

-- two spellings of one input in AMF 3
alike3 : (g h : Graph) (v w : Value) (t u : Tables) (fs gs : List Field) (r q : List ℕ) (t' u' : Tables) → Tied3 t u → Spells3 free g v t fs t' → Spells3 free h w u gs u' → flat fs ++ r ≡ flat gs ++ q → After3 g h t u t' u' r q (λ P. ValuesMatch P v w)
alike3 g h v w t u fs gs r q t' u' k x y e = alike g h free free x.0 y.0 v w t u (flat fs) (flat gs) r q t' u' k (to_spells x.0 free g v t fs t' x.1) (to_spells y.0 free h w u gs u' y.1) e

-- the nodes that were spelled inline at one place
abbrev pub Paired : Tables0 → Tables0 → ℕ → ℕ → Type 0
Paired t u = Paired3 t.amf3 u.amf3

pub record Tied (t u : Tables0) : Type 0 where
  pub amf3 : Tied3 t.amf3 u.amf3
  pub size : length t.nodes ≡ length u.nodes
  pub pairs : (k i j : ℕ) → slice_get t.nodes k ≡ Some i → slice_get u.nodes k ≡ Some j → Paired t u i j
  pub switched : t.switched ≡ u.switched

pub record After (g h : Graph) (before : ℕ) (t' u' : Tables0) (r q : List ℕ) (Q : (ℕ → ℕ → Type 0) → Type 0) : Type 0 where
  pub rest : r ≡ q
  pub tied : Tied t' u'
  pub fresh : (k i j : ℕ) → before ≤ k → slice_get t'.amf3.done k ≡ Some i → slice_get u'.amf3.done k ≡ Some j → NodesMatch (Paired t' u') (node_at g i) (node_at h j)
  pub says : Q (Paired t' u')

abbrev pub Alike : Graph → Graph → Spelling Tables0 → Spelling Tables0 → ((ℕ → ℕ → Type 0) → Type 0) → Type 0
Alike g h A B Q = (t u : Tables0) (fs gs : List Field) (r q : List ℕ) (t' u' : Tables0) → Tied t u → A t fs t' → B u gs u' → flat fs ++ r ≡ flat gs ++ q → After g h (length t.amf3.done) t' u' r q Q

abbrev pub Monotone : ((ℕ → ℕ → Type 0) → Type 0) → Type 1
Monotone Q = (P S : ℕ → ℕ → Type 0) → Implies P S → Q P → Q S

zip_none : {A : Type 0} (R : A → A → Type 0) (xs ys : List A) → xs ≡ [] → ys ≡ [] → AllZip R xs ys
zip_none R xs ys e f = subst (λ w. AllZip R w ys) (sym e) (subst (λ w. AllZip R [] w) (sym f) tt)

-- Which kind of value begins with a byte: 1 a place, 2 a node, 3 AMF 3, 0 any other.
abbrev pub first_kind : ℕ → ℕ
first_kind m = cond (eqb m 0x07) 1 (cond (eqb m 0x11) 3 (cond (eqb m 0x03) 2 (cond (eqb m 0x10) 2 (cond (eqb m 0x08) 2 (cond (eqb m 0x0A) 2 (cond (eqb m 0x0B) 2 (cond (eqb m 0x0F) 2 0)))))))

abbrev node_rank : ℕ → ℕ
node_rank m = cond (eqb m 0x03) 1 (cond (eqb m 0x10) 1 (cond (eqb m 0x08) 2 (cond (eqb m 0x0A) 2 (cond (eqb m 0x0B) 3 (cond (eqb m 0x0F) 4 0)))))

abbrev head_rank : Head → ℕ
head_rank (object c) = 1
head_rank array = 2
head_rank (date p) = 3
head_rank (xml_document x) = 4
head_rank _ = 0

abbrev byte_rank : ℕ → ℕ
byte_rank m = cond (eqb m 0x06) 1 (cond (eqb m 0x0D) 1 (cond (eqb m 0x05) 2 (cond (eqb m 0x01) 3 (cond (eqb m 0x00) 4 (cond (eqb m 0x02) 5 (cond (eqb m 0x0C) 5 0))))))

abbrev leaf_rank : Leaf → ℕ
leaf_rank undefined = 1
leaf_rank null = 2
leaf_rank (boolean b) = 3
leaf_rank (double p) = 4
leaf_rank (text x) = 5
leaf_rank (integer n) = 6

-- the first byte
abbrev pub Starts : List Field → ℕ → Type 0
Starts fs m = (rest : List ℕ) × (flat fs ≡ m ∷ rest)

marked_starts : (b : Bool) (m : ℕ) (P : List Field → Type 0) (t : Tables0) (fs : List Field) (t' : Tables0) → Marked0 b m P t fs t' → Starts fs m
marked_starts b m P t fs t' z = (flat z.0, ap flat z.2)

record LeafStart (fs : List Field) (x : Leaf) : Type 0 where
  first : ℕ
  starts : Starts fs first
  kind : first_kind first ≡ 0
  rank : byte_rank first ≡ leaf_rank x
  no_end : first ≢ 9

leaf_starts : (s : Style) (b : Bool) (x : Leaf) (t : Tables0) (fs : List Field) (t' : Tables0) → LeafBy0 s b x t fs t' → LeafStart fs x
leaf_starts s b undefined t fs t' (inl z) = record { first = 0x06; starts = marked_starts b 0x06 _ t fs t' z; kind = refl; rank = refl; no_end = λ e. cc }
leaf_starts s b undefined t fs t' (inr z) = record { first = 0x0D; starts = marked_starts b 0x0D _ t fs t' z.1; kind = refl; rank = refl; no_end = λ e. cc }
leaf_starts s b null t fs t' z = record { first = 0x05; starts = marked_starts b 0x05 _ t fs t' z; kind = refl; rank = refl; no_end = λ e. cc }
leaf_starts s b (boolean x) t fs t' z = record { first = 0x01; starts = marked_starts b 0x01 _ t fs t' z; kind = refl; rank = refl; no_end = λ e. cc }
leaf_starts s b (integer n) t fs t' z = elim z [ ]
leaf_starts s b (double p) t fs t' z = record { first = 0x00; starts = marked_starts b 0x00 _ t fs t' z.1; kind = refl; rank = refl; no_end = λ e. cc }
leaf_starts s b (text x) t fs t' (inl z) = record { first = 0x02; starts = marked_starts b 0x02 _ t fs t' z; kind = refl; rank = refl; no_end = λ e. cc }
leaf_starts s b (text x) t fs t' (inr z) = record { first = 0x0C; starts = marked_starts b 0x0C _ t fs t' z.1; kind = refl; rank = refl; no_end = λ e. cc }

record NodeStart (m : ℕ) (a : Head) : Type 0 where
  kind : first_kind m ≡ 2
  rank : node_rank m ≡ head_rank a
  some : 0 < head_rank a
  no_end : m ≢ 9

node_starts : (R : Bool → Value → Spelling Tables0) (s : Style) (i : ℕ) (a : Head) (ps : List (List ℕ × Value)) (vs : List Value) (m : ℕ) (t : Tables0) (fs : List Field) (t' : Tables0) → NodeBy0 R s i a ps vs m t fs t' → NodeStart m a
node_starts R s i (object c) ps vs m t fs t' (o, inl z) = subst (λ w. NodeStart w (object c)) (sym z.0) (record { kind = refl; rank = refl; some = omega arith; no_end = λ e. cc })
node_starts R s i (object c) ps vs m t fs t' (o, inr z) = subst (λ w. NodeStart w (object c)) (sym z.0) (record { kind = refl; rank = refl; some = omega arith; no_end = λ e. cc })
node_starts R s i array ps vs m t fs t' (inl z) = subst (λ w. NodeStart w array) (sym z.0) (record { kind = refl; rank = refl; some = omega arith; no_end = λ e. cc })
node_starts R s i array ps vs m t fs t' (inr z) = subst (λ w. NodeStart w array) (sym z.0) (record { kind = refl; rank = refl; some = omega arith; no_end = λ e. cc })
node_starts R s i (date p) ps vs m t fs t' z = subst (λ w. NodeStart w (date p)) (sym z.0) (record { kind = refl; rank = refl; some = omega arith; no_end = λ e. cc })
node_starts R s i (xml_document p) ps vs m t fs t' z = subst (λ w. NodeStart w (xml_document p)) (sym z.0) (record { kind = refl; rank = refl; some = omega arith; no_end = λ e. cc })
node_starts R s i (wrapper p) ps vs m t fs t' z = elim z [ ]
node_starts R s i (xml p) ps vs m t fs t' z = elim z [ ]
node_starts R s i (bytes p) ps vs m t fs t' z = elim z [ ]
node_starts R s i (ints p q) ps vs m t fs t' z = elim z [ ]
node_starts R s i (uints p q) ps vs m t fs t' z = elim z [ ]
node_starts R s i (doubles p q) ps vs m t fs t' z = elim z [ ]
node_starts R s i (values p q) ps vs m t fs t' z = elim z [ ]
node_starts R s i (dictionary p) ps vs m t fs t' z = elim z [ ]

-- no value begins with the byte that ends pairs
abbrev NoEnd : (Bool → Value → Spelling Tables0) → Type 0
NoEnd R = (b : Bool) (v : Value) (t : Tables0) (fs : List Field) (t' : Tables0) → R b v t fs t' → (m : ℕ) × Starts fs m × (m ≢ 9)

same_first : (fs gs : List Field) (m n : ℕ) (r q : List ℕ) (x : Starts fs m) (y : Starts gs n) → flat fs ++ r ≡ flat gs ++ q → (m ≡ n) × (x.0 ++ r ≡ y.0 ++ q)
same_first fs gs m n r q x y e = cons_same (sym (ap (λ w. w ++ r) x.1) ∙ e ∙ ap (λ w. w ++ q) y.1)

abbrev make : List ℕ → Bool → List (List ℕ) → Traits
make x b ys = record { class = x; dynamic = b; sealed = ys }

same_traits : (c d : Traits) → c.class ≡ d.class → IsOpenTraits c → IsOpenTraits d → c ≡ d
same_traits c d e o p = by_parts c.class d.class c.dynamic d.dynamic c.sealed d.sealed e (o.dynamic ∙ sym p.dynamic) (o.unsealed ∙ sym p.unsealed)
  where
    by_parts : (x y : List ℕ) (b b' : Bool) (xs ys : List (List ℕ)) → x ≡ y → b ≡ b' → xs ≡ ys → make x b xs ≡ make y b' ys
    by_parts x y b b' xs ys e f k = ap (λ w. make w b xs) e ∙ ap (λ w. make y w xs) f ∙ ap (λ w. make y b' w) k

flag_same : (s z : Style) (b c : Bool) (m n : ℕ) → IsFlag s b m → IsFlag z c n → m ≡ n → b ≡ c
flag_same s z true true m n x y e = refl
flag_same s z false false m n x y e = refl
flag_same s z true false m n x y e = let p = x.0 in let q = y.0 in absurd (omega (arith, p, q, e))
flag_same s z false true m n x y e = let p = x.0 in let q = y.0 in absurd (omega (arith, p, q, e))

pub record Start (fs : List Field) (kind : ℕ) : Type 0 where
  pub first : ℕ
  pub starts : Starts fs first
  pub is_kind : first_kind first ≡ kind
  pub no_end : first ≢ 9

pub start_leaf : (s : Style) (b : Bool) (x : Leaf) (t : Tables0) (fs : List Field) (t' : Tables0) → LeafBy0 s b x t fs t' → Start fs 0
start_leaf s b x t fs t' z = let o = leaf_starts s b x t fs t' z in record { first = o.first; starts = o.starts; is_kind = o.kind; no_end = o.no_end }

pub start_named : (b : Bool) (i : ℕ) (t : Tables0) (fs : List Field) (t' : Tables0) → Named0 b i t fs t' → Start fs 1
start_named b i t fs t' z = record { first = 0x07; starts = (_, ap flat z.fields); is_kind = refl; no_end = λ e. cc }

start_switched : (g : Graph) (b : Bool) (v : Value) (t : Tables0) (fs : List Field) (t' : Tables0) → Switched b g v t fs t' → Start fs 3
start_switched g b v t fs t' z = record { first = 0x11; starts = (flat z.rest, ap flat z.fields); is_kind = refl; no_end = λ e. cc }

pub start_inline : (n : ℕ) (s : Style) (g : Graph) (b : Bool) (i : ℕ) (t : Tables0) (fs : List Field) (t' : Tables0) → InlineIn0 n s g b i t fs t' → Start fs 2
start_inline zero s g b i t fs t' z = elim z [ ]
start_inline (suc n) s g b i t fs t' z =
    let o = node_starts (SpellsIn0 n s g) s i (node_at g i).head (node_at g i).names (node_at g i).values z.marker t z.rest t' z.behind in
    record { first = z.marker; starts = (flat z.rest, ap flat z.fields); is_kind = o.kind; no_end = o.no_end }

no_end : (n : ℕ) (s : Style) (g : Graph) → NoEnd (SpellsIn0 n s g)
no_end n s g b (leaf x) t fs t' (inl p) = let o = start_leaf s b x t fs t' p in (o.first, o.starts, o.no_end)
no_end n s g b (leaf x) t fs t' (inr p) = let o = start_switched g b (leaf x) t fs t' p.1 in (o.first, o.starts, o.no_end)
no_end n s g b (node i) t fs t' (inl (inl p)) = let o = start_named b i t fs t' p in (o.first, o.starts, o.no_end)
no_end n s g b (node i) t fs t' (inl (inr p)) = let o = start_inline n s g b i t fs t' p in (o.first, o.starts, o.no_end)
no_end n s g b (node i) t fs t' (inr p) = let o = start_switched g b (node i) t fs t' p.1 in (o.first, o.starts, o.no_end)

clash : (fs gs : List Field) (r q : List ℕ) (k l : ℕ) → Start fs k → Start gs l → flat fs ++ r ≡ flat gs ++ q → (k ≡ l → ⊥) → ⊥
clash fs gs r q k l x y e n = let d = same_first fs gs x.first y.first r q x.starts y.starts e in n (sym x.is_kind ∙ ap first_kind d.0 ∙ y.is_kind)

-- the nodes that were there stay, and so does the one that begins
stays_node : (g : Graph) (R : Bool → Value → Spelling Tables0) → ((b : Bool) (v : Value) → Keeps g (R b v)) → (s : Style) (i : ℕ) (a : Head) (ps : List (List ℕ × Value)) (vs : List Value) (m : ℕ) (t : Tables0) (fs : List Field) (t' : Tables0) → NodeBy0 R s i a ps vs m t fs t' → (k j : ℕ) → slice_get (t.amf3.done ++ i ∷ []) k ≡ Some j → slice_get t'.amf3.done k ≡ Some j
stays_node g R kR s i (object c) ps vs m t fs t' (o, inl z) = (keeps_pairs_by g R kR s ps (add_node0 t i) fs t' z.2).stays
stays_node g R kR s i (object c) ps vs m t fs t' (o, inr z) = (keeps_then g (Plain (Short c.class)) (PairsBy0 R s ps) (keeps_plain g (Short c.class)) (keeps_pairs_by g R kR s ps) (add_node0 t i) fs t' z.2).stays
stays_node g R kR s i array ps vs m t fs t' (inl z) = (keeps_then g (Plain _) (PairsBy0 R s ps) (keeps_plain g _) (keeps_pairs_by g R kR s ps) (add_node0 t i) fs t' z.3).stays
stays_node g R kR s i array ps vs m t fs t' (inr z) = (keeps_then g (Plain _) (Values0 R vs) (keeps_plain g _) (keeps_values g R kR vs) (add_node0 t i) fs t' z.3).stays
stays_node g R kR s i (date p) ps vs m t fs t' (e, zone, lt, o, f, z) = λ k j h. ap (λ (w : Tables0). slice_get w.amf3.done k) z ∙ h
stays_node g R kR s i (xml_document p) ps vs m t fs t' z = λ k j h. ap (λ (w : Tables0). slice_get w.amf3.done k) z.2 ∙ h
stays_node g R kR s i (wrapper p) ps vs m t fs t' z = elim z [ ]
stays_node g R kR s i (xml p) ps vs m t fs t' z = elim z [ ]
stays_node g R kR s i (bytes p) ps vs m t fs t' z = elim z [ ]
stays_node g R kR s i (ints p q) ps vs m t fs t' z = elim z [ ]
stays_node g R kR s i (uints p q) ps vs m t fs t' z = elim z [ ]
stays_node g R kR s i (doubles p q) ps vs m t fs t' z = elim z [ ]
stays_node g R kR s i (values p q) ps vs m t fs t' z = elim z [ ]
stays_node g R kR s i (dictionary p) ps vs m t fs t' z = elim z [ ]

two_flat : (k l : Kind) (b c r : List ℕ) (fs : List Field) → fs ≡ field k b ∷ field l c ∷ [] → flat fs ++ r ≡ b ++ (c ++ r)
two_flat k l b c r fs e = ap (λ w. flat w ++ r) e ∙ append_assoc b (c ++ []) r ∙ ap (λ w. b ++ w) (append_assoc c [] r)

stays_marked : (g : Graph) (t : Tables0) (fs : List Field) (t' : Tables0) → Marked0 true 0x09 (λ rest. rest ≡ []) t fs t' → Stays g t t'
stays_marked g t fs t' x = stays_same g t t' x.3

module _ (g h : Graph) where
  paired_more : (t u t' u' : Tables0) → Stays g t t' → Stays h u u' → Implies (Paired t u) (Paired t' u')
  paired_more t u t' u' a b i j p = (p.0, a.stays p.0 i p.1, b.stays p.0 j p.2)

  alike_weaker : (A B : Spelling Tables0) (Q S : (ℕ → ℕ → Type 0) → Type 0) → ((P : ℕ → ℕ → Type 0) → Q P → S P) → Alike g h A B Q → Alike g h A B S
  alike_weaker A B Q S f a t u fs gs r q t' u' k x y e =
      let o = a t u fs gs r q t' u' k x y e in
      record { rest = o.rest; tied = o.tied; fresh = o.fresh; says = f (Paired t' u') o.says }

  alike_then : (A A' B B' : Spelling Tables0) (Q S : (ℕ → ℕ → Type 0) → Type 0) → Keeps g B → Keeps h B' → Monotone Q → Alike g h A A' Q → ((P : ℕ → ℕ → Type 0) → Q P → Alike g h B B' S) → Alike g h (Then A B) (Then A' B') (λ P. Q P × S P)
  alike_then A A' B B' Q S kB kB' mono first second t u fs gs r q t' u' k x y e =
      let o = first t u x.front y.front (flat x.back ++ r) (flat y.back ++ q) x.mid y.mid k x.first y.first (sym (cut fs x.front x.back r x.joined) ∙ e ∙ cut gs y.front y.back q y.joined) in
      let n = second (Paired x.mid y.mid) o.says x.mid y.mid x.back y.back r q t' u' o.tied x.second y.second o.rest in
      let kept = kB x.mid x.back t' x.second in
      let kept' = kB' y.mid y.back u' y.second in
      let more : Implies (Paired x.mid y.mid) (Paired t' u') = paired_more x.mid y.mid t' u' kept kept' in
      record {
        rest = n.rest;
        tied = n.tied;
        fresh = λ k i j l a b. join x.mid y.mid t' u' (length t.amf3.done) r q (flat x.back ++ r) (flat y.back ++ q) Q S o n kept kept' k i j l a b;
        says = (mono (Paired x.mid y.mid) (Paired t' u') more o.says, n.says);
      }
    where
      join : (m n t' u' : Tables0) (before : ℕ) (r q r' q' : List ℕ) (Q S : (ℕ → ℕ → Type 0) → Type 0) → After g h before m n r' q' Q → After g h (length m.amf3.done) t' u' r q S → Stays g m t' → Stays h n u' →
          (k i j : ℕ) → before ≤ k → slice_get t'.amf3.done k ≡ Some i → slice_get u'.amf3.done k ≡ Some j → NodesMatch (Paired t' u') (node_at g i) (node_at h j)
      join m n t' u' before r q r' q' Q S o s kept kept' k i j l a b =
          elim (cases_lt k (length m.amf3.done)) [
            | inl below ↦
                let one = entry m.amf3.done k below in
                let other = entry n.amf3.done k (subst (λ z. k < z) o.tied.amf3.level below) in
                let same : one.0 ≡ i = same_Some one.0 i (sym (kept.stays k one.0 one.1) ∙ a) in
                let same' : other.0 ≡ j = same_Some other.0 j (sym (kept'.stays k other.0 other.1) ∙ b) in
                nodes_more (Paired m n) (Paired t' u') (paired_more m n t' u' kept kept') (node_at g i) (node_at h j)
                (o.fresh k i j l (one.1 ∙ ap (λ z. Some z) same) (other.1 ∙ ap (λ z. Some z) same'))
            | inr above ↦ s.fresh k i j above a b
          ]

  -- the tables have not changed
  alike_still : (t u t' u' : Tables0) (r q : List ℕ) (Q : (ℕ → ℕ → Type 0) → Type 0) → Tied t u → t' ≡ t → u' ≡ u → r ≡ q → Q (Paired t' u') → After g h (length t.amf3.done) t' u' r q Q
  alike_still t u t' u' r q Q k e f o p = record {
    rest = o;
    tied = subst (λ v. Tied v u') (sym e) (subst (λ v. Tied t v) (sym f) k);
    fresh = λ k i j l a b. let w = slice_get_within t'.amf3.done k i a in let d : length t'.amf3.done ≡ length t.amf3.done = ap (λ (x : Tables0). length x.amf3.done) e in absurd (omega (arith, w, d, l));
    says = p;
  }

  alike_plain : (P P' : List Field → Type 0) (C : Type 0) → ((fs gs : List Field) (r q : List ℕ) → P fs → P' gs → flat fs ++ r ≡ flat gs ++ q → C × (r ≡ q)) → Alike g h (Plain P) (Plain P') (λ S. C)
  alike_plain P P' C f t u fs gs r q t' u' k x y e = let o = f fs gs r q x.0 y.0 e in alike_still t u t' u' r q (λ S. C) k x.1 y.1 o.1 o.0

  alike_marked : (b b' : Bool) (m m' : ℕ) (P P' : List Field → Type 0) (C : Type 0) → ((fs gs : List Field) (r q : List ℕ) → P fs → P' gs → flat fs ++ r ≡ flat gs ++ q → C × (r ≡ q)) → Alike g h (Marked0 b m P) (Marked0 b' m' P') (λ S. C)
  alike_marked b b' m m' P P' C f t u fs gs r q t' u' k x y e =
      let d = same_first fs gs m m' r q (flat x.0, ap flat x.2) (flat y.0, ap flat y.2) e in
      let o = f x.0 y.0 r q x.1 y.1 d.1 in
      alike_still t u t' u' r q (λ S. C) k x.3 y.3 o.1 o.0

  nothing_same : (fs gs : List Field) (r q : List ℕ) → fs ≡ [] → gs ≡ [] → flat fs ++ r ≡ flat gs ++ q → (Unit {0}) × (r ≡ q)
  nothing_same fs gs r q a b e = (tt, sym (ap (λ w. flat w ++ r) a) ∙ e ∙ ap (λ w. flat w ++ q) b)

  alike_leaf : (s z : Style) (b c : Bool) (x y : Leaf) (t u : Tables0) (fs gs : List Field) (r q : List ℕ) (t' u' : Tables0) → LeafBy0 s b x t fs t' → LeafBy0 z c y u gs u' → flat fs ++ r ≡ flat gs ++ q → leaf_rank x ≡ leaf_rank y → (x ≡ y) × (r ≡ q)
  alike_leaf s z b c undefined undefined t u fs gs r q t' u' (inl x) (inl y) e k = (refl, (nothing_same x.0 y.0 r q x.1 y.1 (same_first fs gs _ _ r q (flat x.0, ap flat x.2) (flat y.0, ap flat y.2) e).1).1)
  alike_leaf s z b c undefined undefined t u fs gs r q t' u' (inl x) (inr (o, y)) e k = (refl, (nothing_same x.0 y.0 r q x.1 y.1 (same_first fs gs _ _ r q (flat x.0, ap flat x.2) (flat y.0, ap flat y.2) e).1).1)
  alike_leaf s z b c undefined undefined t u fs gs r q t' u' (inr (o, x)) (inl y) e k = (refl, (nothing_same x.0 y.0 r q x.1 y.1 (same_first fs gs _ _ r q (flat x.0, ap flat x.2) (flat y.0, ap flat y.2) e).1).1)
  alike_leaf s z b c undefined undefined t u fs gs r q t' u' (inr (o, x)) (inr (p, y)) e k = (refl, (nothing_same x.0 y.0 r q x.1 y.1 (same_first fs gs _ _ r q (flat x.0, ap flat x.2) (flat y.0, ap flat y.2) e).1).1)
  alike_leaf s z b c null null t u fs gs r q t' u' x y e k = (refl, (nothing_same x.0 y.0 r q x.1 y.1 (same_first fs gs _ _ r q (flat x.0, ap flat x.2) (flat y.0, ap flat y.2) e).1).1)
  alike_leaf s z b c (boolean v) (boolean w) t u fs gs r q t' u' (rest, (m, f, d), x, x') (rest', (m', f', d'), y, y') e k =
      let o = (same_first fs gs _ _ r q (flat rest, ap flat x) (flat rest', ap flat y) e).1 in
      let n = cons_same (sym (one_flat _ (m ∷ []) r rest d) ∙ o ∙ one_flat _ (m' ∷ []) q rest' d') in
      (ap (λ w. boolean w) (flag_same s z v w m m' f f' n.0), n.1)
  alike_leaf s z b c (double v) (double w) t u fs gs r q t' u' (l, x) (l', y) e k =
      let o = (same_first fs gs _ _ r q (flat x.0, ap flat x.2) (flat y.0, ap flat y.2) e).1 in
      let n = be64 v w r q l l' (sym (one_flat _ (to_be_bytes w64 v) r x.0 x.1) ∙ o ∙ one_flat _ (to_be_bytes w64 w) q y.0 y.1) in
      (ap (λ w. double w) n.0, n.1)
  alike_leaf s z b c (text v) (text w) t u fs gs r q t' u' (inl x) (inl y) e k =
      let n = short_same v w x.0 y.0 r q x.1 y.1 (same_first fs gs _ _ r q (flat x.0, ap flat x.2) (flat y.0, ap flat y.2) e).1 in (ap (λ w. text w) n.0, n.1)
  alike_leaf s z b c (text v) (text w) t u fs gs r q t' u' (inl x) (inr (o, y)) e k = let d = (same_first fs gs 0x02 0x0C r q (flat x.0, ap flat x.2) (flat y.0, ap flat y.2) e).0 in absurd (omega (arith, d))
  alike_leaf s z b c (text v) (text w) t u fs gs r q t' u' (inr (o, x)) (inl y) e k = let d = (same_first fs gs 0x0C 0x02 r q (flat x.0, ap flat x.2) (flat y.0, ap flat y.2) e).0 in absurd (omega (arith, d))
  alike_leaf s z b c (text v) (text w) t u fs gs r q t' u' (inr (o, x)) (inr (p, y)) e k =
      let n = long_same v w x.0 y.0 r q x.1 y.1 (same_first fs gs _ _ r q (flat x.0, ap flat x.2) (flat y.0, ap flat y.2) e).1 in (ap (λ w. text w) n.0, n.1)
  alike_leaf s z b c (integer n) y t u fs gs r q t' u' x d e k = elim x [ ]
  alike_leaf s z b c x (integer n) t u fs gs r q t' u' d y e k = elim y [ ]
  alike_leaf s z b c _ _ t u fs gs r q t' u' x y e k = absurd (omega (arith, k))

  module _ (s z : Style) (R R' : Bool → Value → Spelling Tables0) (kR : (b : Bool) (v : Value) → Keeps g (R b v)) (kR' : (b : Bool) (v : Value) → Keeps h (R' b v)) (endR : NoEnd R) (endR' : NoEnd R') (alike : (b c : Bool) (v w : Value) → Alike g h (R b v) (R' c w) (λ P. ValuesMatch P v w)) where
    both_values : (vs ws : List Value) → length vs ≡ length ws → Alike g h (Values0 R vs) (Values0 R' ws) (λ P. AllZip (ValuesMatch P) vs ws)
    both_values [] [] l = λ t u fs gs r q t' u' k x y e. alike_still t u t' u' r q (λ P. Unit {0}) k x.1 y.1 (nothing_same fs gs r q x.0 y.0 e).1 tt
    both_values [] (w ∷ ws) l = absurd (omega arith)
    both_values (v ∷ vs) [] l = absurd (omega arith)
    both_values (v ∷ vs) (w ∷ ws) l =
        alike_then (R false v) (R' false w) (Values0 R vs) (Values0 R' ws) (λ P. ValuesMatch P v w) (λ P. AllZip (ValuesMatch P) vs ws) (keeps_values g R kR vs) (keeps_values h R' kR' ws) (λ P S i. values_more P S i v w) (alike false false v w) (λ P o. both_values vs ws (omega arith))

    end_not : (A : Spelling Tables0) (b : Bool) (w : Value) (P : List Field → Type 0) → Alike g h (Marked0 true 0x09 P) (Then (R' b w) A) (λ P. ⊥)
    end_not A b w P t u fs gs r q t' u' k x y e =
        let o = endR' b w u y.front y.mid y.first in
        let d = same_first fs y.front 0x09 o.0 r (flat y.back ++ q) (flat x.0, ap flat x.2) o.1 (e ∙ cut gs y.front y.back q y.joined) in
        absurd (o.2 (sym d.0))

    not_end : (A : Spelling Tables0) (b : Bool) (v : Value) (P : List Field → Type 0) → Alike g h (Then (R b v) A) (Marked0 true 0x09 P) (λ P. ⊥)
    not_end A b v P t u fs gs r q t' u' k x y e =
        let o = endR b v t x.front x.mid x.first in
        let d = same_first x.front gs o.0 0x09 (flat x.back ++ r) q o.1 (flat y.0, ap flat y.2) (sym (cut fs x.front x.back r x.joined) ∙ e) in
        absurd (o.2 d.0)

    both_names : (x y : List ℕ) → Alike g h (Plain (Short x)) (Plain (Short y)) (λ P. x ≡ y)
    both_names x y = alike_plain (Short x) (Short y) (x ≡ y) (short_same x y)

    both_pairs : (ps qs : List (List ℕ × Value)) → Alike g h (Pairs0 R ps) (Pairs0 R' qs) (λ P. AllZip (PairsMatch P) ps qs)
    both_pairs [] [] =
        alike_weaker (Pairs0 R []) (Pairs0 R' []) (λ P. ([] ≡ []) × Unit {0}) (λ P. Unit {0}) (λ P o. tt)
        (alike_then (Plain (Short [])) (Plain (Short [])) (Marked0 true 0x09 (λ rest. rest ≡ [])) (Marked0 true 0x09 (λ rest. rest ≡ [])) (λ P. [] ≡ []) (λ P. Unit {0}) (λ t fs t' x. stays_marked g t fs t' x) (λ t fs t' x. stays_marked h t fs t' x) (λ P S i e. e) (both_names [] []) (λ P o. alike_marked true true 0x09 0x09 (λ rest. rest ≡ []) (λ rest. rest ≡ []) (Unit {0}) nothing_same))
    both_pairs [] (w ∷ ws) =
        alike_weaker (Pairs0 R []) (Pairs0 R' (w ∷ ws)) (λ P. ([] ≡ w.0) × ⊥) (λ P. AllZip (PairsMatch P) [] (w ∷ ws)) (λ P o. absurd o.1)
        (alike_then (Plain (Short [])) (Plain (Short w.0)) (Marked0 true 0x09 (λ rest. rest ≡ [])) (Then (R' (is_empty w.0) w.1) (Pairs0 R' ws)) (λ P. [] ≡ w.0) (λ P. ⊥) (λ t fs t' x. stays_marked g t fs t' x) (keeps_then h (R' (is_empty w.0) w.1) (Pairs0 R' ws) (kR' (is_empty w.0) w.1) (keeps_pairs h R' kR' ws)) (λ P S i e. e) (both_names [] w.0) (λ P o. end_not (Pairs0 R' ws) (is_empty w.0) w.1 (λ rest. rest ≡ [])))
    both_pairs (v ∷ vs) [] =
        alike_weaker (Pairs0 R (v ∷ vs)) (Pairs0 R' []) (λ P. (v.0 ≡ []) × ⊥) (λ P. AllZip (PairsMatch P) (v ∷ vs) []) (λ P o. absurd o.1)
        (alike_then (Plain (Short v.0)) (Plain (Short [])) (Then (R (is_empty v.0) v.1) (Pairs0 R vs)) (Marked0 true 0x09 (λ rest. rest ≡ [])) (λ P. v.0 ≡ []) (λ P. ⊥) (keeps_then g (R (is_empty v.0) v.1) (Pairs0 R vs) (kR (is_empty v.0) v.1) (keeps_pairs g R kR vs)) (λ t fs t' x. stays_marked h t fs t' x) (λ P S i e. e) (both_names v.0 []) (λ P o. not_end (Pairs0 R vs) (is_empty v.0) v.1 (λ rest. rest ≡ [])))
    both_pairs (v ∷ vs) (w ∷ ws) =
        let B = Then (R (is_empty v.0) v.1) (Pairs0 R vs) in
        let B' = Then (R' (is_empty w.0) w.1) (Pairs0 R' ws) in
        let kB = keeps_then g (R (is_empty v.0) v.1) (Pairs0 R vs) (kR (is_empty v.0) v.1) (keeps_pairs g R kR vs) in
        let kB' = keeps_then h (R' (is_empty w.0) w.1) (Pairs0 R' ws) (kR' (is_empty w.0) w.1) (keeps_pairs h R' kR' ws) in
        alike_weaker (Pairs0 R (v ∷ vs)) (Pairs0 R' (w ∷ ws)) (λ P. (v.0 ≡ w.0) × (ValuesMatch P v.1 w.1 × AllZip (PairsMatch P) vs ws)) (λ P. AllZip (PairsMatch P) (v ∷ vs) (w ∷ ws)) (λ P o. ((o.0, o.1.0), o.1.1))
        (alike_then (Plain (Short v.0)) (Plain (Short w.0)) B B' (λ P. v.0 ≡ w.0) (λ P. ValuesMatch P v.1 w.1 × AllZip (PairsMatch P) vs ws) kB kB' (λ P S i e. e) (both_names v.0 w.0)
        (λ P o. alike_then (R (is_empty v.0) v.1) (R' (is_empty w.0) w.1) (Pairs0 R vs) (Pairs0 R' ws) (λ P. ValuesMatch P v.1 w.1) (λ P. AllZip (PairsMatch P) vs ws) (keeps_pairs g R kR vs) (keeps_pairs h R' kR' ws) (λ P S i. values_more P S i v.1 w.1) (alike (is_empty v.0) (is_empty w.0) v.1 w.1) (λ P o. both_pairs vs ws)))

    both_pairs_by : (ps qs : List (List ℕ × Value)) → Alike g h (PairsBy0 R s ps) (PairsBy0 R' z qs) (λ P. AllZip (PairsMatch P) (by_name ps) (by_name qs))
    both_pairs_by ps qs t u fs gs r q t' u' k x y e =
        let o = both_pairs x.pairs y.pairs t u fs gs r q t' u' k x.spelled y.spelled e in
        record {
          rest = o.rest;
          tied = o.tied;
          fresh = o.fresh;
          says = subst (λ w. AllZip (PairsMatch (Paired t' u')) w (by_name qs)) x.same_names (subst (λ w. AllZip (PairsMatch (Paired t' u')) (by_name x.pairs) w) y.same_names (by_name_match (Paired t' u') x.pairs y.pairs o.says));
        }

    abbrev Agreed : Head → Head → List (List ℕ × Value) → List (List ℕ × Value) → List Value → List Value → (ℕ → ℕ → Type 0) → Type 0
    Agreed a a' ps qs vs ws P = (a ≡ a') × AllZip (PairsMatch P) (by_name ps) (by_name qs) × AllZip (ValuesMatch P) vs ws

    agreed : (a a' : Head) (ps qs : List (List ℕ × Value)) (vs ws : List Value) (n : ℕ) (t' u' : Tables0) (r q : List ℕ) (Q : (ℕ → ℕ → Type 0) → Type 0) → (Q (Paired t' u') → Agreed a a' ps qs vs ws (Paired t' u')) → After g h n t' u' r q Q → After g h n t' u' r q (Agreed a a' ps qs vs ws)
    agreed a a' ps qs vs ws n t' u' r q Q f o = record { rest = o.rest; tied = o.tied; fresh = o.fresh; says = f o.says }

    sort_none : (P : ℕ → ℕ → Type 0) (ps qs : List (List ℕ × Value)) → ps ≡ [] → qs ≡ [] → AllZip (PairsMatch P) (by_name ps) (by_name qs)
    sort_none P ps qs e f = subst (λ w. AllZip (PairsMatch P) (by_name w) (by_name qs)) (sym e) (subst (λ w. AllZip (PairsMatch P) [] (by_name w)) (sym f) tt)

    begin_tied3 : (t u : Tables0) (i j : ℕ) → Tied t u → Tied3 (add_done0 t i).amf3 (add_done0 u j).amf3
    begin_tied3 t u i j k = record {
      words = k.amf3.words;
      size = k.amf3.size;
      level = length_pushed t.amf3.done i ∙ ap suc k.amf3.level ∙ sym (length_pushed u.amf3.done j);
      pairs = λ n a b e f. let o = k.amf3.pairs n a b e f in (o.0, at_left t.amf3.done (i ∷ []) o.0 a o.1, at_left u.amf3.done (j ∷ []) o.0 b o.2);
    }

    begin_done : (t u : Tables0) (i j : ℕ) → Tied t u → Tied (add_done0 t i) (add_done0 u j)
    begin_done t u i j k = record {
      amf3 = begin_tied3 t u i j k;
      size = k.size;
      pairs = λ n a b e f. let o = k.pairs n a b e f in (o.0, at_left t.amf3.done (i ∷ []) o.0 a o.1, at_left u.amf3.done (j ∷ []) o.0 b o.2);
      switched = k.switched;
    }

    begin_node : (t u : Tables0) (i j : ℕ) → Tied t u → Tied (add_node0 t i) (add_node0 u j)
    begin_node t u i j k = record {
      amf3 = begin_tied3 t u i j k;
      size = length_pushed t.nodes i ∙ ap suc k.size ∙ sym (length_pushed u.nodes j);
      pairs = λ n a b e f. elim (at_push t.nodes i n a e) [
        | inl p ↦ elim (at_push u.nodes j n b f) [
          | inl q ↦ let o = k.pairs n a b p q in (o.0, at_left t.amf3.done (i ∷ []) o.0 a o.1, at_left u.amf3.done (j ∷ []) o.0 b o.2)
          | inr q ↦ absurd (omega (arith, slice_get_within t.nodes n a p, k.size, q.0))
        ]
        | inr p ↦ elim (at_push u.nodes j n b f) [
          | inl q ↦ absurd (omega (arith, slice_get_within u.nodes n b q, k.size, p.0))
          | inr q ↦ (length t.amf3.done, at_end t.amf3.done i ∙ ap (λ w. Some w) p.1, subst (λ w. slice_get (u.amf3.done ++ j ∷ []) w ≡ Some b) (sym k.amf3.level) (at_end u.amf3.done j ∙ ap (λ w. Some w) q.1))
        ]
      ];
      switched = k.switched;
    }

    -- a node with no parts is entered
    entered : (a a' : Head) (ps qs : List (List ℕ × Value)) (vs ws : List Value) (t u : Tables0) (i j : ℕ) (t' u' : Tables0) (r q : List ℕ) → Tied t u → t' ≡ add_done0 t i → u' ≡ add_done0 u j → r ≡ q → a ≡ a' → ps ≡ [] → qs ≡ [] → vs ≡ [] → ws ≡ [] → After g h (length (t.amf3.done ++ i ∷ [])) t' u' r q (Agreed a a' ps qs vs ws)
    entered a a' ps qs vs ws t u i j t' u' r q k e f o d m n v w =
        alike_still (add_done0 t i) (add_done0 u j) t' u' r q (Agreed a a' ps qs vs ws) (begin_done t u i j k) e f o (d, sort_none (Paired t' u') ps qs m n, zip_none (ValuesMatch (Paired t' u')) vs ws v w)

    -- kind by kind: one input behind one marker shows that the nodes agree
    both_node : (i j : ℕ) (a a' : Head) (ps qs : List (List ℕ × Value)) (vs ws : List Value) (m m' : ℕ) (t u : Tables0) (fs gs : List Field) (r q : List ℕ) (t' u' : Tables0) → Tied t u → Fits a ps vs → Fits a' qs ws → m ≡ m' → head_rank a ≡ head_rank a' → 0 < head_rank a →
        NodeBy0 R s i a ps vs m t fs t' → NodeBy0 R' z j a' qs ws m' u gs u' → flat fs ++ r ≡ flat gs ++ q → After g h (length (t.amf3.done ++ i ∷ [])) t' u' r q (Agreed a a' ps qs vs ws)
    both_node i j (object c) (object d) ps qs vs ws m m' t u fs gs r q t' u' k f f' e n l (o, inl x) (p, inl y) b =
        let v : vs ≡ [] = nil_from_length vs (f.0 ∙ ap length o.unsealed) in
        let w : ws ≡ [] = nil_from_length ws (f'.0 ∙ ap length p.unsealed) in
        agreed (object c) (object d) ps qs vs ws _ t' u' r q (λ P. AllZip (PairsMatch P) (by_name ps) (by_name qs)) (λ a. (ap (λ w. object w) (same_traits c d (x.1 ∙ sym y.1) o p), a, zip_none (ValuesMatch (Paired t' u')) vs ws v w))
        (both_pairs_by ps qs (add_node0 t i) (add_node0 u j) fs gs r q t' u' (begin_node t u i j k) x.2 y.2 b)
    both_node i j (object c) (object d) ps qs vs ws m m' t u fs gs r q t' u' k f f' e n l (o, inl x) (p, inr y) b = let d = x.0 in let d' = y.0 in absurd (omega (arith, d, d', e))
    both_node i j (object c) (object d) ps qs vs ws m m' t u fs gs r q t' u' k f f' e n l (o, inr x) (p, inl y) b = let d = x.0 in let d' = y.0 in absurd (omega (arith, d, d', e))
    both_node i j (object c) (object d) ps qs vs ws m m' t u fs gs r q t' u' k f f' e n l (o, inr x) (p, inr y) b =
        let v : vs ≡ [] = nil_from_length vs (f.0 ∙ ap length o.unsealed) in
        let w : ws ≡ [] = nil_from_length ws (f'.0 ∙ ap length p.unsealed) in
        agreed (object c) (object d) ps qs vs ws _ t' u' r q (λ P. (c.class ≡ d.class) × AllZip (PairsMatch P) (by_name ps) (by_name qs)) (λ a. (ap (λ w. object w) (same_traits c d a.0 o p), a.1, zip_none (ValuesMatch (Paired t' u')) vs ws v w))
        (alike_then (Plain (Short c.class)) (Plain (Short d.class)) (PairsBy0 R s ps) (PairsBy0 R' z qs) (λ P. c.class ≡ d.class) (λ P. AllZip (PairsMatch P) (by_name ps) (by_name qs)) (keeps_pairs_by g R kR s ps) (keeps_pairs_by h R' kR' z qs) (λ P S i e. e) (both_names c.class d.class) (λ P o. both_pairs_by ps qs)
        (add_node0 t i) (add_node0 u j) fs gs r q t' u' (begin_node t u i j k) x.2 y.2 b)
    both_node i j array array ps qs vs ws m m' t u fs gs r q t' u' k f f' e n l (inl x) (inl y) b =
        let C = Count0 s (length ps) in
        let D = Count0 z (length qs) in
        agreed array array ps qs vs ws _ t' u' r q (λ P. (Unit {0}) × AllZip (PairsMatch P) (by_name ps) (by_name qs)) (λ a. (refl, a.1, zip_none (ValuesMatch (Paired t' u')) vs ws x.1 y.1))
        (alike_then (Plain C) (Plain D) (PairsBy0 R s ps) (PairsBy0 R' z qs) (λ P. Unit {0}) (λ P. AllZip (PairsMatch P) (by_name ps) (by_name qs)) (keeps_pairs_by g R kR s ps) (keeps_pairs_by h R' kR' z qs) (λ P S i e. e) (alike_plain C D (Unit {0}) (count_same s z (length ps) (length qs))) (λ P o. both_pairs_by ps qs)
        (add_node0 t i) (add_node0 u j) fs gs r q t' u' (begin_node t u i j k) x.3 y.3 b)
    both_node i j array array ps qs vs ws m m' t u fs gs r q t' u' k f f' e n l (inl x) (inr y) b = let d = x.0 in let d' = y.0 in absurd (omega (arith, d, d', e))
    both_node i j array array ps qs vs ws m m' t u fs gs r q t' u' k f f' e n l (inr x) (inl y) b = let d = x.0 in let d' = y.0 in absurd (omega (arith, d, d', e))
    both_node i j array array ps qs vs ws m m' t u fs gs r q t' u' k f f' e n l (inr x) (inr y) b =
        let C : List Field → Type 0 = λ count. count ≡ field (u32_kind no_refusal) (to_be_bytes w32 (length vs)) ∷ [] in
        let D : List Field → Type 0 = λ count. count ≡ field (u32_kind no_refusal) (to_be_bytes w32 (length ws)) ∷ [] in
        agreed array array ps qs vs ws _ t' u' r q (λ P. (length vs ≡ length ws) × AllZip (ValuesMatch P) vs ws) (λ a. (refl, sort_none (Paired t' u') ps qs x.1 y.1, a.1))
        (alike_then (Plain C) (Plain D) (Values0 R vs) (Values0 R' ws) (λ P. length vs ≡ length ws) (λ P. AllZip (ValuesMatch P) vs ws) (keeps_values g R kR vs) (keeps_values h R' kR' ws) (λ P S i e. e) (alike_plain C D (length vs ≡ length ws) (λ fs gs r q c d e. be32 (length vs) (length ws) r q x.2 y.2 (sym (one_flat _ (to_be_bytes w32 (length vs)) r fs c) ∙ e ∙ one_flat _ (to_be_bytes w32 (length ws)) q gs d))) (λ P o. both_values vs ws o)
        (add_node0 t i) (add_node0 u j) fs gs r q t' u' (begin_node t u i j k) x.3 y.3 b)
    both_node i j (date c) (date d) ps qs vs ws m m' t u fs gs r q t' u' k f f' e n l (x, zone, lt, only, x', x'') (y, zone', lt', only', y', y'') b =
        let two = be64 c d _ _ f.0 f'.0 (sym (two_flat _ _ (to_be_bytes w64 c) (to_be_bytes w16 zone) r fs x') ∙ b ∙ two_flat _ _ (to_be_bytes w64 d) (to_be_bytes w16 zone') q gs y') in
        let rest = be16 zone zone' r q lt lt' two.1 in
        entered (date c) (date d) ps qs vs ws t u i j t' u' r q k x'' y'' rest.1 (ap (λ w. date w) two.0) f.1 f'.1 f.2 f'.2
    both_node i j (xml_document c) (xml_document d) ps qs vs ws m m' t u fs gs r q t' u' k f f' e n l x y b =
        let o = long_same c d fs gs r q x.1 y.1 b in
        entered (xml_document c) (xml_document d) ps qs vs ws t u i j t' u' r q k x.2 y.2 o.1 (ap (λ w. xml_document w) o.0) f.1 f'.1 f.2 f'.2
    both_node i j _ _ ps qs vs ws m m' t u fs gs r q t' u' k f f' e n l x y b = absurd (omega (arith, n, l))

    alike_begun : (b c : Bool) (i j : ℕ) → Alike g h (Begun0 R s b g i) (Begun0 R' z c h j) (λ P. P i j)
    alike_begun b c i j t u fs gs r q t' u' k x y e =
        let a = node_at g i in
        let a' = node_at h j in
        let d = same_first fs gs x.marker y.marker r q (flat x.rest, ap flat x.fields) (flat y.rest, ap flat y.fields) e in
        let m = node_starts R s i a.head a.names a.values x.marker t x.rest t' x.behind in
        let m' = node_starts R' z j a'.head a'.names a'.values y.marker u y.rest u' y.behind in
        let rank : head_rank a.head ≡ head_rank a'.head = sym m.rank ∙ ap node_rank d.0 ∙ m'.rank in
        let o = both_node i j a.head a'.head a.names a'.names a.values a'.values x.marker y.marker t u x.rest y.rest r q t' u' k x.fits y.fits d.0 rank m.some x.behind y.behind d.1 in
        let kept = stays_node g R kR s i a.head a.names a.values x.marker t x.rest t' x.behind in
        let kept' = stays_node h R' kR' z j a'.head a'.names a'.values y.marker u y.rest u' y.behind in
        let here = kept (length t.amf3.done) i (at_end t.amf3.done i) in
        let here' = kept' (length t.amf3.done) j (subst (λ w. slice_get (u.amf3.done ++ j ∷ []) w ≡ Some j) (sym k.amf3.level) (at_end u.amf3.done j)) in
        let these : NodesMatch (Paired t' u') a a' = record { head = o.says.0; names = o.says.1; values = o.says.2 } in
        record {
          rest = o.rest;
          tied = o.tied;
          fresh = λ n i' j' l p p'. elim (cases_lt (length t.amf3.done) n) [
            | inl above ↦ o.fresh n i' j' (subst (λ w. w ≤ n) (sym (length_pushed t.amf3.done i)) above) p p'
            | inr below ↦
                let at : length t.amf3.done ≡ n = omega arith in
                let same : i ≡ i' = same_Some i i' (sym here ∙ ap (λ w. slice_get t'.amf3.done w) at ∙ p) in
                let same' : j ≡ j' = same_Some j j' (sym here' ∙ ap (λ w. slice_get u'.amf3.done w) at ∙ p') in
                subst (λ w. NodesMatch (Paired t' u') (node_at g w) (node_at h j')) same (subst (λ w. NodesMatch (Paired t' u') a (node_at h w)) same' these)
          ];
          says = (length t.amf3.done, here, here');
        }

  alike_named : (b c : Bool) (i j : ℕ) → Alike g h (Named0 b i) (Named0 c j) (λ P. P i j)
  alike_named b c i j t u fs gs r q t' u' k x y e =
      let d = same_first fs gs 0x07 0x07 r q (_, ap flat x.fields) (_, ap flat y.fields) e in
      let n = be16 x.place y.place r q x.in_bits y.in_bits (sym (append_assoc (to_be_bytes w16 x.place) [] r) ∙ d.1 ∙ append_assoc (to_be_bytes w16 y.place) [] q) in
      let p = k.pairs x.place i j x.there (ap (λ w. slice_get u.nodes w) n.0 ∙ y.there) in
      alike_still t u t' u' r q (λ P. P i j) k x.same y.same n.1
      (p.0, ap (λ (w : Tables0). slice_get w.amf3.done p.0) x.same ∙ p.1, ap (λ (w : Tables0). slice_get w.amf3.done p.0) y.same ∙ p.2)

  module _ (s z : Style) where
    alike_switched : (b c : Bool) (v w : Value) → Alike g h (Switched b g v) (Switched c h w) (λ P. ValuesMatch P v w)
    alike_switched b c v w t u fs gs r q t' u' k x y e =
        let d = same_first fs gs 0x11 0x11 r q (flat x.rest, ap flat x.fields) (flat y.rest, ap flat y.fields) e in
        let o = alike3 g h v w t.amf3 u.amf3 x.rest y.rest r q x.after y.after k.amf3 x.spelled y.spelled d.1 in
        subst (λ (m : Tables0). After g h (length t.amf3.done) m u' r q (λ P. ValuesMatch P v w)) (sym x.tables)
        (subst (λ (m : Tables0). After g h (length t.amf3.done) (switched_to t x.after) m r q (λ P. ValuesMatch P v w)) (sym y.tables) (record {
          rest = o.rest;
          tied = record { amf3 = o.tied; size = k.size; pairs = λ n i j e f. let m = k.pairs n i j e f in (m.0, (keeps3 g v t.amf3 x.rest x.after x.spelled).stays m.0 i m.1, (keeps3 h w u.amf3 y.rest y.after y.spelled).stays m.0 j m.2); switched = refl };
          fresh = o.fresh;
          says = o.says;
        }))

    leaf_row : (b c : Bool) (x y : Leaf) → Alike g h (LeafBy0 s b x) (LeafBy0 z c y) (λ P. x ≡ y)
    leaf_row b c x y t u fs gs r q t' u' k p p' e =
        let a = leaf_starts s b x t fs t' p in
        let a' = leaf_starts z c y u gs u' p' in
        let d = same_first fs gs a.first a'.first r q a.starts a'.starts e in
        let o = alike_leaf s z b c x y t u fs gs r q t' u' p p' e (sym a.rank ∙ ap byte_rank d.0 ∙ a'.rank) in
        alike_still t u t' u' r q (λ P. x ≡ y) k (leaf_still s b x t fs t' p) (leaf_still z c y u gs u' p') o.1 o.0

    alike_value : (n m : ℕ) → ((b c : Bool) (i j : ℕ) → Alike g h (InlineIn0 n s g b i) (InlineIn0 m z h c j) (λ P. P i j)) → (b c : Bool) (v w : Value) → Alike g h (SpellsIn0 n s g b v) (SpellsIn0 m z h c w) (λ P. ValuesMatch P v w)
    alike_value n m f b c (leaf x) (leaf y) t u fs gs r q t' u' k (inl p) (inl p') e = leaf_row b c x y t u fs gs r q t' u' k p p' e
    alike_value n m f b c (leaf x) (leaf y) t u fs gs r q t' u' k (inl p) (inr p') e = absurd (clash fs gs r q 0 3 (start_leaf s b x t fs t' p) (start_switched h c (leaf y) u gs u' p'.1) e (λ d. omega (arith, d)))
    alike_value n m f b c (leaf x) (node j) t u fs gs r q t' u' k (inl p) (inl (inl p')) e = absurd (clash fs gs r q 0 1 (start_leaf s b x t fs t' p) (start_named c j u gs u' p') e (λ d. omega (arith, d)))
    alike_value n m f b c (leaf x) (node j) t u fs gs r q t' u' k (inl p) (inl (inr p')) e = absurd (clash fs gs r q 0 2 (start_leaf s b x t fs t' p) (start_inline m z h c j u gs u' p') e (λ d. omega (arith, d)))
    alike_value n m f b c (leaf x) (node j) t u fs gs r q t' u' k (inl p) (inr p') e = absurd (clash fs gs r q 0 3 (start_leaf s b x t fs t' p) (start_switched h c (node j) u gs u' p'.1) e (λ d. omega (arith, d)))
    alike_value n m f b c (leaf x) (leaf y) t u fs gs r q t' u' k (inr p) (inl p') e = absurd (clash fs gs r q 3 0 (start_switched g b (leaf x) t fs t' p.1) (start_leaf z c y u gs u' p') e (λ d. omega (arith, d)))
    alike_value n m f b c (leaf x) (leaf y) t u fs gs r q t' u' k (inr p) (inr p') e = alike_switched b c (leaf x) (leaf y) t u fs gs r q t' u' k p.1 p'.1 e
    alike_value n m f b c (leaf x) (node j) t u fs gs r q t' u' k (inr p) (inl (inl p')) e = absurd (clash fs gs r q 3 1 (start_switched g b (leaf x) t fs t' p.1) (start_named c j u gs u' p') e (λ d. omega (arith, d)))
    alike_value n m f b c (leaf x) (node j) t u fs gs r q t' u' k (inr p) (inl (inr p')) e = absurd (clash fs gs r q 3 2 (start_switched g b (leaf x) t fs t' p.1) (start_inline m z h c j u gs u' p') e (λ d. omega (arith, d)))
    alike_value n m f b c (leaf x) (node j) t u fs gs r q t' u' k (inr p) (inr p') e = alike_switched b c (leaf x) (node j) t u fs gs r q t' u' k p.1 p'.1 e
    alike_value n m f b c (node i) (leaf y) t u fs gs r q t' u' k (inl (inl p)) (inl p') e = absurd (clash fs gs r q 1 0 (start_named b i t fs t' p) (start_leaf z c y u gs u' p') e (λ d. omega (arith, d)))
    alike_value n m f b c (node i) (leaf y) t u fs gs r q t' u' k (inl (inl p)) (inr p') e = absurd (clash fs gs r q 1 3 (start_named b i t fs t' p) (start_switched h c (leaf y) u gs u' p'.1) e (λ d. omega (arith, d)))
    alike_value n m f b c (node i) (node j) t u fs gs r q t' u' k (inl (inl p)) (inl (inl p')) e = alike_named b c i j t u fs gs r q t' u' k p p' e
    alike_value n m f b c (node i) (node j) t u fs gs r q t' u' k (inl (inl p)) (inl (inr p')) e = absurd (clash fs gs r q 1 2 (start_named b i t fs t' p) (start_inline m z h c j u gs u' p') e (λ d. omega (arith, d)))
    alike_value n m f b c (node i) (node j) t u fs gs r q t' u' k (inl (inl p)) (inr p') e = absurd (clash fs gs r q 1 3 (start_named b i t fs t' p) (start_switched h c (node j) u gs u' p'.1) e (λ d. omega (arith, d)))
    alike_value n m f b c (node i) (leaf y) t u fs gs r q t' u' k (inl (inr p)) (inl p') e = absurd (clash fs gs r q 2 0 (start_inline n s g b i t fs t' p) (start_leaf z c y u gs u' p') e (λ d. omega (arith, d)))
    alike_value n m f b c (node i) (leaf y) t u fs gs r q t' u' k (inl (inr p)) (inr p') e = absurd (clash fs gs r q 2 3 (start_inline n s g b i t fs t' p) (start_switched h c (leaf y) u gs u' p'.1) e (λ d. omega (arith, d)))
    alike_value n m f b c (node i) (node j) t u fs gs r q t' u' k (inl (inr p)) (inl (inl p')) e = absurd (clash fs gs r q 2 1 (start_inline n s g b i t fs t' p) (start_named c j u gs u' p') e (λ d. omega (arith, d)))
    alike_value n m f b c (node i) (node j) t u fs gs r q t' u' k (inl (inr p)) (inl (inr p')) e = f b c i j t u fs gs r q t' u' k p p' e
    alike_value n m f b c (node i) (node j) t u fs gs r q t' u' k (inl (inr p)) (inr p') e = absurd (clash fs gs r q 2 3 (start_inline n s g b i t fs t' p) (start_switched h c (node j) u gs u' p'.1) e (λ d. omega (arith, d)))
    alike_value n m f b c (node i) (leaf y) t u fs gs r q t' u' k (inr p) (inl p') e = absurd (clash fs gs r q 3 0 (start_switched g b (node i) t fs t' p.1) (start_leaf z c y u gs u' p') e (λ d. omega (arith, d)))
    alike_value n m f b c (node i) (leaf y) t u fs gs r q t' u' k (inr p) (inr p') e = alike_switched b c (node i) (leaf y) t u fs gs r q t' u' k p.1 p'.1 e
    alike_value n m f b c (node i) (node j) t u fs gs r q t' u' k (inr p) (inl (inl p')) e = absurd (clash fs gs r q 3 1 (start_switched g b (node i) t fs t' p.1) (start_named c j u gs u' p') e (λ d. omega (arith, d)))
    alike_value n m f b c (node i) (node j) t u fs gs r q t' u' k (inr p) (inl (inr p')) e = absurd (clash fs gs r q 3 2 (start_switched g b (node i) t fs t' p.1) (start_inline m z h c j u gs u' p') e (λ d. omega (arith, d)))
    alike_value n m f b c (node i) (node j) t u fs gs r q t' u' k (inr p) (inr p') e = alike_switched b c (node i) (node j) t u fs gs r q t' u' k p.1 p'.1 e

    alike_inline : (n m : ℕ) (b c : Bool) (i j : ℕ) → Alike g h (InlineIn0 n s g b i) (InlineIn0 m z h c j) (λ P. P i j)
    alike_inline zero m b c i j t u fs gs r q t' u' k x y e = elim x [ ]
    alike_inline (suc n) zero b c i j t u fs gs r q t' u' k x y e = elim y [ ]
    alike_inline (suc n) (suc m) b c i j t u fs gs r q t' u' k x y e =
        alike_begun s z (SpellsIn0 n s g) (SpellsIn0 m z h) (keeps_values_in g s n) (keeps_values_in h z m) (no_end n s g) (no_end m z h) (alike_value n m (alike_inline n m)) b c i j t u fs gs r q t' u' k x y e

    -- two graphs that the same fields spell, in any two styles, from tables that are tied
    pub alike0 : (v w : Value) → Alike g h (Spells0 s g v) (Spells0 z h w) (λ P. ValuesMatch P v w)
    alike0 v w t u fs gs r q t' u' k x y e = alike_value x.0 y.0 (alike_inline x.0 y.0) false false v w t u fs gs r q t' u' k x.1 y.1 e
