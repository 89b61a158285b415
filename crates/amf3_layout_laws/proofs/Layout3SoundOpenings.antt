-- What is read behind the header of a node is spelled so.
use Rattle.std.proofs.Common.{◌≡◌, ℕ, zero, suc, ◌^◌, ◌<◌, Bool, true, false, cond, eqb, not, List, [], ◌∷◌, ◌++◌, length, get_or, slice_index, Some, None, refl, sym, ap, ◌∙◌, arith, subst}
use Rattle.std.proofs.lemmas.Bool.{eqb-true, eqb-false}
use Rattle.std.proofs.lemmas.List.{append-nil}
use Rattle.std.proofs.lemmas.Nat.{be_bytes_4, be_bytes_8}
use Rattle.std.specs.List.{AllByRecursion}
use Rattle.std.specs.Int.{from_be_bytes, to_be_bytes, w32, w64}
use Rattle.amf_wire.specs.Style.{free}
use Rattle.amf_io.specs.Field.{Kind, Field, field, fixed, whole, AreBytes, raw_kind, contents, flat}
use Rattle.amf_io.specs.Layout.{give, Takes, Path, Runs}
use Rattle.amf_io.proofs.Whole.{whole_fixed}
use Rattle.amf_io.proofs.Bytes.{bytes_front, bytes_back}
use Rattle.amf_io.proofs.Paths.{bind_runs}
use Rattle.amf_io.proofs.Ables.{bytes_parts}
use Rattle.amf_graph.specs.Graph.{Value, IsPattern}
use Rattle.amf3_spelling.specs.Tables.{Tables}
use Rattle.amf3_spelling.specs.Then.{Spelling}
use Rattle.amf3_spelling.specs.Segments3.{Segment, flag, Segments, fours, eights}
use Rattle.amf3_layout_laws.specs.Layout3Words.{chunk}
use Rattle.amf3_layout_laws.specs.Layout3.{four_layout, eight_layout, many}
use Rattle.amf3_layout_laws.proofs.Layout3SoundTexts.{taken, give_is}

pub all_below : (bytes : List ℕ) → AreBytes bytes → (i : ℕ) → get_or bytes i 0 < 256
all_below [] b i = omega arith
all_below (x ∷ bytes) b zero = b.0
all_below (x ∷ bytes) b (suc i) = all_below bytes b.1 i

-- a chunk that was read
pub record Chunk {X : Type 0} (kind : ℕ → Kind) (P : List ℕ → Type 0) (k : ℕ) (f : List ℕ → X) (fs : List Field) (o : X) : Type 0 where
  pub bytes : List ℕ
  pub long : length bytes ≡ k
  pub fields : fs ≡ contents kind bytes
  pub is : f bytes ≡ o
  pub good : P bytes

pub chunk_taken : {X : Type 0} (kind : ℕ → Kind) (P : List ℕ → Type 0) (k : ℕ) (f : List ℕ → X) (fs : List Field) (o : X) → ((n : ℕ) → (kind n).size ≡ fixed n) → P [] → ((n : ℕ) (b : List ℕ) → AreBytes b → (kind n).refusal b ≡ None → P b) → AreBytes (flat fs)
    → Runs (chunk kind k (λ y. give (f y))) fs o → Chunk kind P k f fs o
chunk_taken kind P zero f [] o sizes none some b r = record { bytes = []; long = refl; fields = refl; is = give_is (f []) o r; good = none }
chunk_taken kind P zero f (h ∷ fs) o sizes none some b r = absurd r
chunk_taken kind P (suc k) f [] o sizes none some b r = absurd cc
chunk_taken kind P (suc k) f (h ∷ []) o sizes none some b r =
    let long : suc k ≡ length h.bytes = whole_fixed (suc k) h.bytes (length h.bytes) (subst (λ z. whole z h.bytes ≡ Some (length h.bytes)) (sizes (suc k)) r.0.is_whole) in
    record {
      bytes = h.bytes;
      long = sym long;
      is = give_is (f h.bytes) o r.1;
      good = some (suc k) h.bytes (bytes_front h.bytes [] b) r.0.clean;
      fields = ap (λ z. z ∷ []) (taken (kind (suc k)) h r.0 ∙ ap (λ n. field (kind n) h.bytes) long) ∙ one_field h.bytes (λ e. let z : length h.bytes ≡ 0 = ap length e in absurd (omega arith));
    }
  where
    one_field : (y : List ℕ) → (y ≡ [] → ⊥) → (field (kind (length y)) y ∷ []) ≡ contents kind y
    one_field [] n = absurd (n refl)
    one_field (c ∷ y) n = refl
chunk_taken kind P (suc k) f (h ∷ i ∷ fs) o sizes none some b r = absurd r.1

-- a field of so many bytes
pub raw_long : (n : ℕ) (f : Field) → Takes (raw_kind n) f → length f.bytes ≡ n
raw_long n f t = sym (whole_fixed n f.bytes (length f.bytes) t.is_whole)

pub four_is : (f : Field) → Takes (raw_kind 4) f → AreBytes f.bytes → (f ≡ field (raw_kind 4) (to_be_bytes w32 (from_be_bytes w32 f.bytes))) × (from_be_bytes w32 f.bytes < 2 ^ 32)
four_is f t b =
    let fits = all_below f.bytes b in
    let long : length f.bytes ≡ 4 = raw_long 4 f t in
    (taken (raw_kind 4) f t ∙ ap (field (raw_kind 4)) (sym (be_bytes_4 f.bytes (from_be_bytes w32 f.bytes) long fits refl)), below f.bytes fits)
  where
    below : (bytes : List ℕ) → ((i : ℕ) → get_or bytes i 0 < 256) → from_be_bytes w32 bytes < 2 ^ 32
    below bytes fits = omega (arith, fits 0, fits 1, fits 2, fits 3)

pub eight_is : (f : Field) → Takes (raw_kind 8) f → AreBytes f.bytes → (f ≡ field (raw_kind 8) (to_be_bytes w64 (from_be_bytes w64 f.bytes))) × (from_be_bytes w64 f.bytes < 2 ^ 64)
eight_is f t b =
    let fits = all_below f.bytes b in
    let long : length f.bytes ≡ 8 = raw_long 8 f t in
    (taken (raw_kind 8) f t ∙ ap (field (raw_kind 8)) (sym (be_bytes_8 f.bytes (from_be_bytes w64 f.bytes) long fits refl)), below f.bytes fits)
  where
    below : (bytes : List ℕ) → ((i : ℕ) → get_or bytes i 0 < 256) → from_be_bytes w64 bytes < 2 ^ 64
    below bytes fits = omega (arith, fits 0, fits 1, fits 2, fits 3, fits 4, fits 5, fits 6, fits 7)

-- a flag that was read, before further parts
pub flag_built : (R : Value → Spelling Tables) (ps : List Segment) (f : Field) (fs : List Field) (t u : Tables) → Takes (raw_kind 1) f → AreBytes f.bytes → Segments R free ps t fs u → Segments R free (flag (not (eqb (slice_index f.bytes 0) 0)) ∷ ps) t (f ∷ fs) u
flag_built R ps f fs t u k b p =
    let m = slice_index f.bytes 0 in
    record { front = f ∷ []; back = fs; mid = t; joined = refl; second = p; first = ((m, by_test m (eqb m 0) refl (all_below f.bytes b 0), ap (λ g. g ∷ []) (taken (raw_kind 1) f k ∙ ap (field (raw_kind 1)) (one_byte f.bytes (raw_long 1 f k)))), refl) }
  where
    one_byte : (y : List ℕ) → length y ≡ 1 → y ≡ slice_index y 0 ∷ []
    one_byte [] e = absurd (omega arith)
    one_byte (m ∷ []) e = refl
    one_byte (m ∷ k ∷ y) e = absurd (omega arith)

    by_test : (m : ℕ) (e : Bool) → eqb m 0 ≡ e → m < 256 → cond (not e) (0 < m) (m ≡ 0) × (m < 256) × Unit {0}
    by_test m true h lt = (eqb-true m 0 h, lt, tt)
    by_test m false h lt = (let n = eqb-false m 0 h in omega arith, lt, tt)

-- numbers that were read
pub record Numbers (R : Value → Spelling Tables) (l : List ℕ → List Segment) (P : ℕ → Type 0) (k : ℕ) (fs : List Field) (ns : List ℕ) : Type 0 where
  pub count : length ns ≡ k
  pub all : AllByRecursion P ns
  pub built : (t u : Tables) (back : List Field) → (back ≡ []) × (u ≡ t) → Segments R free (l ns) t (fs ++ back) u

module _ (R : Value → Spelling Tables) where
  pub fours_sound : (k : ℕ) (fs : List Field) (ns : List ℕ) → AreBytes (flat fs) → Runs (many k four_layout) fs ns → Numbers R fours (λ n. n < 2 ^ 32) k fs ns
  fours_sound zero [] ns b r = subst (λ l. Numbers R fours (λ n. n < 2 ^ 32) 0 [] l) (give_is [] ns r) (record { count = refl; all = tt; built = λ t u back h. h })
  fours_sound zero (f ∷ fs) ns b r = absurd r
  fours_sound (suc k) [] ns b r = absurd cc
  fours_sound (suc k) (f ∷ fs) ns b r =
      let n = from_be_bytes w32 f.bytes in
      let a = bind_runs (many k four_layout) (λ xs. give (n ∷ xs)) fs ns r.1 in
      let i = four_is f r.0 (bytes_front f.bytes (flat fs) b) in
      let ab = bytes_parts fs a.front a.back a.parts (bytes_back f.bytes (flat fs) b) in
      last n i a.value a.front a.back a.parts (fours_sound k a.front a.value ab.0 a.first) a.second
    where
      last : (n : ℕ) → (f ≡ field (raw_kind 4) (to_be_bytes w32 n)) × (n < 2 ^ 32) → (ms : List ℕ) (front back : List Field) → fs ≡ front ++ back → Numbers R fours (λ n. n < 2 ^ 32) k front ms → Path (give (n ∷ ms)) back (give ns) → Numbers R fours (λ n. n < 2 ^ 32) (suc k) (f ∷ fs) ns
      last n i ms front [] e m p = subst (λ l. Numbers R fours (λ n. n < 2 ^ 32) (suc k) (f ∷ fs) l) (give_is (n ∷ ms) ns p) (record {
        count = ap suc m.count;
        all = (i.1, m.all);
        built = λ t u back h. record { front = f ∷ []; back = fs ++ back; mid = t; joined = refl; first = (ap (λ g. g ∷ []) i.0, refl); second = subst (λ l. Segments R free (fours ms) t (l ++ back) u) (sym (e ∙ append-nil front)) (m.built t u back h) };
      })
      last n i ms front (g ∷ back) e m p = absurd p

  pub eights_sound : (k : ℕ) (fs : List Field) (ns : List ℕ) → AreBytes (flat fs) → Runs (many k eight_layout) fs ns → Numbers R eights IsPattern k fs ns
  eights_sound zero [] ns b r = subst (λ l. Numbers R eights IsPattern 0 [] l) (give_is [] ns r) (record { count = refl; all = tt; built = λ t u back h. h })
  eights_sound zero (f ∷ fs) ns b r = absurd r
  eights_sound (suc k) [] ns b r = absurd cc
  eights_sound (suc k) (f ∷ fs) ns b r =
      let n = from_be_bytes w64 f.bytes in
      let a = bind_runs (many k eight_layout) (λ xs. give (n ∷ xs)) fs ns r.1 in
      let i = eight_is f r.0 (bytes_front f.bytes (flat fs) b) in
      let ab = bytes_parts fs a.front a.back a.parts (bytes_back f.bytes (flat fs) b) in
      last n i a.value a.front a.back a.parts (eights_sound k a.front a.value ab.0 a.first) a.second
    where
      last : (n : ℕ) → (f ≡ field (raw_kind 8) (to_be_bytes w64 n)) × (n < 2 ^ 64) → (ms : List ℕ) (front back : List Field) → fs ≡ front ++ back → Numbers R eights IsPattern k front ms → Path (give (n ∷ ms)) back (give ns) → Numbers R eights IsPattern (suc k) (f ∷ fs) ns
      last n i ms front [] e m p = subst (λ l. Numbers R eights IsPattern (suc k) (f ∷ fs) l) (give_is (n ∷ ms) ns p) (record {
        count = ap suc m.count;
        all = (i.1, m.all);
        built = λ t u back h. record { front = f ∷ []; back = fs ++ back; mid = t; joined = refl; first = (ap (λ g. g ∷ []) i.0, refl); second = subst (λ l. Segments R free (eights ms) t (l ++ back) u) (sym (e ∙ append-nil front)) (m.built t u back h) };
      })
      last n i ms front (g ∷ back) e m p = absurd p
