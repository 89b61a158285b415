-- What a part of a walk over two graphs says, put together from its steps.
use Rattle.std.proofs.Common.{◌≡◌, ℕ, List, [], ◌∷◌, length, slice_get, Option, Some, refl, subst, arith}
use Rattle.std.specs.Prelude.{◌↔◌, Bool, true, false, IsTrue, Result, Ok, Err, IfOk}
use Rattle.std.specs.List.{AllByRecursion, AllZip}
use Rattle.amf_graph.specs.declared.value.Value.{Value as Stored}
use Rattle.amf_graph.specs.Graph.{Value}
use Rattle.amf_graph.specs.Arena.{Arena, value_content}
use Rattle.amf_graph.specs.Isomorphic.{ValuesMatch, StandIn}
use Rattle.amf_graph.proofs.Matching.{values_more, zip_more}
use Rattle.amf_iso.specs.declared.walk.Walk.{Walk}
use Rattle.amf_iso.specs.Joined.{AreJoined}
use Rattle.amf_iso.specs.Walking.{met, AreAmong, ArePaired, IsSound, Met, StoredMatch, EntriesMatch}
use Rattle.amf_iso.proofs.Remaining.{Remains}

-- what matches under a list does so under one that has all its pairs
abbrev pub Lasts : (List (ℕ × ℕ) → Type 0) → Type 0
Lasts M = (ps qs : List (ℕ × ℕ)) → AreAmong ps qs → M ps → M qs

pub stored_lasts : (a b : Arena) (v w : Stored) → Lasts (StoredMatch a b v w)
stored_lasts a b v w ps qs h m = values_more (StandIn ps) (StandIn qs) h (value_content a v) (value_content b w) m

pub entries_last : (a b : Arena) (e f : Stored × Stored) → Lasts (EntriesMatch a b e f)
entries_last a b e f ps qs h m = (stored_lasts a b e.0 f.0 ps qs h m.0, stored_lasts a b e.1 f.1 ps qs h m.1)

pub zip_lasts : (vs ws : List Value) → Lasts (λ pairs. AllZip (ValuesMatch (StandIn pairs)) vs ws)
zip_lasts vs ws ps qs h m = zip_more (ValuesMatch (StandIn ps)) (ValuesMatch (StandIn qs)) (values_more (StandIn ps) (StandIn qs) h) vs ws m

pub stays_among : (ps qs : List (ℕ × ℕ)) → ((k : ℕ) (p : ℕ × ℕ) → slice_get ps k ≡ Some p → slice_get qs k ≡ Some p) → AreAmong ps qs
stays_among ps qs h i j s = (s.0, h s.0 (i, j) s.1)

module _ (a b : Arena) where
  -- a comparison that meets no nodes
  pub met_still : (old new : Walk) (t : List (Option ℕ)) (M : List (ℕ × ℕ) → Type 0) (r : Bool) → IsSound a b old → new ≡ record old { texts = t } → AreJoined a b t → ((pairs : List (ℕ × ℕ)) → IsTrue r ↔ M pairs) → Met a b old new M r
  met_still old new t M r s e j d = rw (e) (record {
    sound = record { known = j; places = s.places; marks = s.marks; few = s.few; partner = s.partner; paired = s.paired; marked = s.marked; met_by = s.met_by; right = s.right };
    grown = λ k p f. f;
    alike = λ y. (d (met old)).0 y;
    forced = λ pairs o h m. ((d pairs).1 m, h);
  })

  pub sound_with : (old : Walk) (t : List (Option ℕ)) → IsSound a b old → AreJoined a b t → IsSound a b (record old { texts = t })
  sound_with old t s j = record { known = j; places = s.places; marks = s.marks; few = s.few; partner = s.partner; paired = s.paired; marked = s.marked; met_by = s.met_by; right = s.right }

  -- after a comparison that meets no nodes
  pub ok_met_with : {E : Type 0} (r : Result Bool E) (old new : Walk) (t : List (Option ℕ)) (M : List (ℕ × ℕ) → Type 0) → IfOk r (λ same. Met a b (record old { texts = t }) new M same) → IfOk r (λ same. Met a b old new M same)
  ok_met_with (Ok r) old new t M m = record { sound = m.sound; grown = m.grown; alike = m.alike; forced = m.forced }
  ok_met_with (Err x) old new t M m = m

  -- the same things in other words
  pub met_same : (old new : Walk) (M N : List (ℕ × ℕ) → Type 0) (r : Bool) → ((pairs : List (ℕ × ℕ)) → M pairs ↔ N pairs) → Met a b old new N r → Met a b old new M r
  met_same old new M N r e m = record { sound = m.sound; grown = m.grown; alike = λ t. (e (met new)).1 (m.alike t); forced = λ pairs o h z. m.forced pairs o h ((e pairs).0 z) }

  pub ok_met_same : {E : Type 0} (r : Result Bool E) (old new : Walk) (M N : List (ℕ × ℕ) → Type 0) → ((pairs : List (ℕ × ℕ)) → M pairs ↔ N pairs) → IfOk r (λ same. Met a b old new N same) → IfOk r (λ same. Met a b old new M same)
  ok_met_same (Ok r) old new M N e m = met_same old new M N r e m
  ok_met_same (Err x) old new M N e m = m

  -- one thing and then another
  pub met_then : (old mid new : Walk) (M N : List (ℕ × ℕ) → Type 0) (r : Bool) → Lasts M → Met a b old mid M true → Met a b mid new N r → Met a b old new (λ pairs. M pairs × N pairs) r
  met_then old mid new M N r l m n = record {
    sound = n.sound;
    grown = λ k p e. n.grown k p (m.grown k p e);
    alike = λ t. (l (met mid) (met new) (stays_among (met mid) (met new) n.grown) (m.alike refl), n.alike t);
    forced = λ pairs o h z. n.forced pairs o (m.forced pairs o h z.0).1 z.1;
  }

  pub ok_met_then : {E : Type 0} (r : Result Bool E) (old mid new : Walk) (M N : List (ℕ × ℕ) → Type 0) → Lasts M → Met a b old mid M true → IfOk r (λ same. Met a b mid new N same) → IfOk r (λ same. Met a b old new (λ pairs. M pairs × N pairs) same)
  ok_met_then (Ok r) old mid new M N l m n = met_then old mid new M N r l m n
  ok_met_then (Err x) old mid new M N l m n = n

  -- a part that does not match
  pub met_not : (old new : Walk) (M N : List (ℕ × ℕ) → Type 0) → ((pairs : List (ℕ × ℕ)) → M pairs → N pairs) → Met a b old new N false → Met a b old new M false
  met_not old new M N e n = record { sound = n.sound; grown = n.grown; alike = λ t. absurd (let no : false ≡ true = t in cc); forced = λ pairs o h z. n.forced pairs o h (e pairs z) }

  -- nothing is met, and nothing matches
  pub met_never : (old : Walk) (M : List (ℕ × ℕ) → Type 0) → IsSound a b old → ((pairs : List (ℕ × ℕ)) → M pairs → ⊥) → Met a b old old M false
  met_never old M s n = record { sound = s; grown = λ k p e. e; alike = λ t. absurd (let no : false ≡ true = t in cc); forced = λ pairs o h z. absurd (n pairs z) }

  -- nothing is met, and everything matches
  pub met_always : (old : Walk) (M : List (ℕ × ℕ) → Type 0) → IsSound a b old → ((pairs : List (ℕ × ℕ)) → M pairs) → Met a b old old M true
  met_always old M s y = record { sound = s; grown = λ k p e. e; alike = λ t. y (met old); forced = λ pairs o h z. (refl, h) }

  -- of two lists that are gone through together, the first places are alike, and the remaining ones decide
  pub record Rest {X Y : Type 0} (P : X → Type 0) (Q : Y → Type 0) (R : X → Y → List (ℕ × ℕ) → Type 0) (Whole : List (ℕ × ℕ) → Type 0) (old now : Walk) (xs : List X) (ys : List Y) : Type 0 where
    pub sound : IsSound a b now
    pub grown : (k : ℕ) (p : ℕ × ℕ) → slice_get (met old) k ≡ Some p → slice_get (met now) k ≡ Some p
    pub long : length xs ≡ length ys
    pub left : AllByRecursion P xs
    pub right : AllByRecursion Q ys
    pub back : (pairs : List (ℕ × ℕ)) → AreAmong (met now) pairs → AllZip (λ x y. R x y pairs) xs ys → Whole pairs
    pub onward : (pairs : List (ℕ × ℕ)) → ArePaired pairs → AreAmong (met old) pairs → Whole pairs → AreAmong (met now) pairs × AllZip (λ x y. R x y pairs) xs ys

  module _ {X Y : Type 0} (P : X → Type 0) (Q : Y → Type 0) (R : X → Y → List (ℕ × ℕ) → Type 0) (Whole : List (ℕ × ℕ) → Type 0) (old : Walk) where
    pub rest_all : (xs : List X) (ys : List Y) → IsSound a b old → ((pairs : List (ℕ × ℕ)) → Remains P Q (λ x y. R x y pairs) (Whole pairs) xs ys) → Rest P Q R Whole old old xs ys
    rest_all xs ys s r = let one = r [] in record { sound = s; grown = λ k p e. e; long = one.long; left = one.left; right = one.right; back = λ pairs h z. (r pairs).back z; onward = λ pairs o h w. (h, (r pairs).onward w) }

    pub rest_fewer : (now new : Walk) (x : X) (y : Y) (xs : List X) (ys : List Y) → Lasts (R x y) → Rest P Q R Whole old now (x ∷ xs) (y ∷ ys) → Met a b now new (R x y) true → Rest P Q R Whole old new xs ys
    rest_fewer now new x y xs ys l r m = record {
      sound = m.sound;
      grown = λ k p e. m.grown k p (r.grown k p e);
      long = let h = r.long in omega arith;
      left = r.left.1;
      right = r.right.1;
      back = λ pairs h z. r.back pairs (λ i j s. h i j (stays_among (met now) (met new) m.grown i j s)) (l (met new) pairs h (m.alike refl), z);
      onward = λ pairs o h w. let z = r.onward pairs o h w in ((m.forced pairs o z.0 z.1.0).1, z.1.1);
    }

    pub rest_next : (now new : Walk) (x : X) (y : Y) (xs us : List X) (ys vs : List Y) (r : Bool) → Lasts (R x y) → us ≡ x ∷ xs → vs ≡ y ∷ ys → Rest P Q R Whole old now us vs → r ≡ true → Met a b now new (R x y) r → Rest P Q R Whole old new xs ys
    rest_next now new x y xs us ys vs r l e f i t m =
        rest_fewer now new x y xs ys l (subst (λ w. Rest P Q R Whole old now w (y ∷ ys)) e (subst (λ w. Rest P Q R Whole old now us w) f i)) (subst (λ w. Met a b now new (R x y) w) t m)

    pub rest_other : (now new : Walk) (x : X) (y : Y) (xs : List X) (ys : List Y) → Rest P Q R Whole old now (x ∷ xs) (y ∷ ys) → Met a b now new (R x y) false → Met a b old new Whole false
    rest_other now new x y xs ys r m = record {
      sound = m.sound;
      grown = λ k p e. m.grown k p (r.grown k p e);
      alike = λ t. absurd (let no : false ≡ true = t in cc);
      forced = λ pairs o h w. let z = r.onward pairs o h w in m.forced pairs o z.0 z.1.0;
    }

    pub rest_none : (now : Walk) → Rest P Q R Whole old now [] [] → Met a b old now Whole true
    rest_none now r = record {
      sound = r.sound;
      grown = r.grown;
      alike = λ t. r.back (met now) (λ i j s. s) tt;
      forced = λ pairs o h w. (refl, (r.onward pairs o h w).0);
    }

pub ruleset meets = (rest_fewer, rest_other, rest_none, stored_lasts, entries_last)
