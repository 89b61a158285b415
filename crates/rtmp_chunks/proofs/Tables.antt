-- The table of chunk streams, as it is seen.
use Rattle.std.proofs.Common.{◌≡◌, ℕ, zero, suc, ◌+◌, ◌-◌, ◌<◌, ◌≤◌, Bool, true, false, cond, eqb, List, [], ◌∷◌, ◌++◌, length, get_or, refl, sym, ap, ◌∙◌, arith, append_assoc}
use Rattle.std.proofs.lemmas.Bool.{eq-eqb, eqb-true}
use Rattle.std.proofs.Math.ListN.{set}
use Rattle.std.proofs.lemmas.List.{get_or-set_same, get_or-set_other, append-nil}
use Rattle.rtmp_chunks.specs.declared.parts.Slot.{Slot as HeldSlot}
use Rattle.rtmp_chunks.specs.declared.parts.Slot.TheVariants.{Fresh as NoHead, Idle as Between, Busy as Within}
use Rattle.rtmp_chunks.specs.Chunk.{Unfinished}
use Rattle.rtmp_chunks.specs.Stream.{by_id}
use Rattle.rtmp_chunks.specs.Machine.{Fresh, put, unfinished_in}
use Rattle.rtmp_chunks.specs.declared.parts.PartialMessage.{PartialMessage}
use Rattle.rtmp_chunks.specs.declared.parts.Open.{Open}
use Rattle.rtmp_chunks.specs.Table.{slot_seen, slots_seen, open_seen, opens_seen}

-- one more that is fresh
pub one_fresh : (l : List HeldSlot) (j : ℕ) → slots_seen (l ++ NoHead ∷ []) j ≡ slots_seen l j
one_fresh [] zero = refl
one_fresh [] (suc j) = refl
one_fresh (s ∷ l) zero = refl
one_fresh (s ∷ l) (suc j) = one_fresh l j

-- one that is written
pub one_set : (l : List HeldSlot) (i : ℕ) (s : HeldSlot) (j : ℕ) → i < length l → slots_seen (set l i s) j ≡ put i (slot_seen s) (slots_seen l) j
one_set l i s j lt = by (eqb i j) refl
  where
    differ : true ≡ false → ⊥
    differ e = absurd cc

    by : (t : Bool) → eqb i j ≡ t → slots_seen (set l i s) j ≡ cond t (slot_seen s) (slots_seen l j)
    by true e = ap (λ k. slots_seen (set l i s) k) (sym (eqb-true i j e)) ∙ ap slot_seen (get_or-set_same l i s NoHead lt)
    by false e = ap slot_seen (get_or-set_other l i j s NoHead (λ f. differ (sym (eq-eqb i j (sym f)) ∙ e)))

-- the one that stands there
pub one_there : (l : List HeldSlot) (i : ℕ) (s : HeldSlot) → i < length l → s ≡ get_or l i s → slot_seen s ≡ slots_seen l i
one_there [] i s lt e = absurd (omega (arith, lt))
one_there (x ∷ l) zero s lt e = ap slot_seen e
one_there (x ∷ l) (suc i) s lt e = one_there l i s (omega arith) e

-- past the end
pub past : (l : List HeldSlot) (i : ℕ) → length l ≤ i → slots_seen l i ≡ Fresh
past [] zero le = refl
past [] (suc i) le = refl
past (x ∷ l) zero le = absurd (omega arith)
past (x ∷ l) (suc i) le = past l i (omega arith)

-- one id more
pub by_more : (n id : ℕ) (f : ℕ → List Unfinished) → by_id (suc n) id f ≡ by_id n id f ++ f (id + n)
by_more zero id f = let e : id ≡ id + 0 = omega arith in append-nil (f id) ∙ ap f e
by_more (suc n) id f =
    let e : suc id + n ≡ id + suc n = omega arith in
    ap (λ l. f id ++ l) (by_more n (suc id) f) ∙ sym (append_assoc (f id) (by_id n (suc id) f) (f (suc id + n))) ∙ ap (λ k. (f id ++ by_id n (suc id) f) ++ f k) e

pub by_rest : (m n : ℕ) (f : ℕ → List Unfinished) → ((k : ℕ) → n ≤ k → f k ≡ []) → by_id (m + n) 0 f ≡ by_id n 0 f
by_rest zero n f h = let e : zero + n ≡ n = omega arith in ap (λ k. by_id k 0 f) e
by_rest (suc m) n f h =
    let e : suc m + n ≡ suc (m + n) = omega arith in
    ap (λ k. by_id k 0 f) e ∙ by_more (m + n) 0 f ∙ ap (λ l. by_id (m + n) 0 f ++ l) (h (0 + (m + n)) (omega arith)) ∙ append-nil (by_id (m + n) 0 f) ∙ by_rest m n f h

-- a slot more, and the slots past the end
pub slot_more : (l : List HeldSlot) (i : ℕ) (f : ℕ → List Unfinished) (o : List Unfinished) → o ≡ by_id i 0 f → f i ≡ [] → o ≡ by_id (i + 1) 0 f
slot_more l i f o e none = let s : suc i ≡ i + 1 = omega arith in let z : i ≡ 0 + i = omega arith in e ∙ sym (append-nil (by_id i 0 f)) ∙ ap (λ r. by_id i 0 f ++ r) (sym none ∙ ap f z) ∙ sym (by_more i 0 f) ∙ ap (λ k. by_id k 0 f) s

pub all_slots : (l : List HeldSlot) (i n : ℕ) → n ≡ 65600 → length l ≤ 65600 → length l ≤ i → i ≤ 65600 → by_id n 0 (λ id. unfinished_in id (slots_seen l id)) ≡ by_id i 0 (λ id. unfinished_in id (slots_seen l id))
all_slots l i n same few end le =
    let f : ℕ → List Unfinished = λ id. unfinished_in id (slots_seen l id) in
    let e : n ≡ (n - i) + i = omega arith in
    ap (λ k. by_id k 0 f) e ∙ by_rest (n - i) i f (λ k h. ap (unfinished_in k) (past l k (omega arith)))

opens_more : (l : List Open) (o : Open) → opens_seen (l ++ o ∷ []) ≡ opens_seen l ++ open_seen o ∷ []
opens_more [] o = refl
opens_more (x ∷ l) o = ap (λ r. open_seen x ∷ r) (opens_more l o)

pub slot_pushed : (slots : List HeldSlot) (i : ℕ) (l m : List Open) (s : HeldSlot) (p : PartialMessage) (o : Open) → opens_seen l ≡ by_id i 0 (λ id. unfinished_in id (slots_seen slots id)) → slot_seen s ≡ slots_seen slots i → s ≡ Within p
    → open_seen o ≡ record { id = i; got = length p.bytes.items; of = p.head.size } → m ≡ l ++ o ∷ [] → opens_seen m ≡ by_id (i + 1) 0 (λ id. unfinished_in id (slots_seen slots id))
slot_pushed slots i l m s p o e there is open_is more =
    let f : ℕ → List Unfinished = λ id. unfinished_in id (slots_seen slots id) in
    let one : open_seen o ∷ [] ≡ f i = ap (λ x. x ∷ []) open_is ∙ ap (unfinished_in i) (sym (ap slot_seen is) ∙ there) in
    let z : i ≡ 0 + i = omega arith in
    let n : suc i ≡ i + 1 = omega arith in
    ap opens_seen more ∙ opens_more l o ∙ ap (λ r. r ++ open_seen o ∷ []) e ∙ ap (λ r. by_id i 0 f ++ r) (one ∙ ap f z) ∙ sym (by_more i 0 f) ∙ ap (λ k. by_id k 0 f) n

none_in : (i : ℕ) (s : HeldSlot) → ((p : PartialMessage) → s ≡ Within p → ⊥) → unfinished_in i (slot_seen s) ≡ []
none_in i NoHead h = refl
none_in i (Between b) h = refl
none_in i (Within p) h = absurd (h p refl)

pub slot_passed : (slots : List HeldSlot) (i : ℕ) (l m : List Open) (s : HeldSlot) → opens_seen l ≡ by_id i 0 (λ id. unfinished_in id (slots_seen slots id)) → slot_seen s ≡ slots_seen slots i → ((p : PartialMessage) → s ≡ Within p → ⊥) → m ≡ l
    → opens_seen m ≡ by_id (i + 1) 0 (λ id. unfinished_in id (slots_seen slots id))
slot_passed slots i l m s e there none same = ap opens_seen same ∙ slot_more slots i (λ id. unfinished_in id (slots_seen slots id)) (opens_seen l) e (ap (unfinished_in i) (sym there) ∙ none_in i s none)
