-- Bytes that are ahead of a cursor, and are passed over.
use Rattle.std.proofs.Common.{◌≡◌, ℕ, zero, suc, ◌+◌, ◌≤◌, ◌<◌, List, ◌++◌, length, take, drop, Some, None, sym, ap, ◌∙◌, subst, arith, length-drop, cond, Result, Ok, Err, IfErr, OnOk}
use Rattle.std.proofs.lemmas.Bool.{le-leb}
use Rattle.std.proofs.lemmas.List.{take-take, take-append-drop, length-take, length-take-le}
use Rattle.amf_wire.specs.U29.{SpellsU29, one, two, three, four}
use Rattle.amf_wire.specs.U29Answer.{IsWholeU29}
use Rattle.amf_io.specs.declared.window.Window.{Window}
use Rattle.amf_io.specs.declared.cursor.Cursor.{Cursor}
use Rattle.amf_io.specs.Cursor.{source_of, place, bound, ahead, unread}
use Rattle.amf_io.specs.declared.ends.ReadEnd.{ReadEnd}
use Rattle.amf_io.specs.declared.ends.ReadEnd.TheVariants.{Memory}
use Rattle.amf_io.specs.Field.{Size, fixed, whole, AreBytes}
use Rattle.amf_io.specs.ReadEnds.{IsPlaced, GoesBy}
use Rattle.amf_io.specs.CursorReads.{AnswersField}
use Rattle.amf_io.proofs.Whole.{whole_alone}
use Rattle.amf_io.proofs.CursorReads.{goes_spent}

-- the first n of the bytes that were ahead of c were passed over
pub record Passed {S : Type 0} (left : S → List ℕ) (c d : Cursor S Window) (bytes : List ℕ) (n : ℕ) : Type 0 where
  pub front : bytes ≡ take (length bytes) (unread left c)
  pub some : n ≤ length bytes
  pub within : place c + length bytes ≤ bound c
  pub one_past : place c + ahead c ≤ bound c + 1
  pub source : (source_of d).now ≡ (source_of c).now
  pub name : (source_of d).ghost_name ≡ (source_of c).ghost_name
  pub same_bound : bound d ≡ bound c
  pub gone : unread left d ≡ drop n (unread left c)
  pub taken : place d ≡ place c + n
  pub fewer : ahead d + n ≡ ahead c

-- a front of a list is no longer than it
pub front_le : (bytes all : List ℕ) → bytes ≡ take (length bytes) all → length bytes ≤ length all
front_le bytes all e = omega (arith, ap length e, length-take (length bytes) all)

-- its first bytes are those of the list
pub front_of : (bytes all : List ℕ) (n : ℕ) → bytes ≡ take (length bytes) all → n ≤ length bytes → take n bytes ≡ take n all
front_of bytes all n e le = ap (take n) e ∙ take-take n (length bytes) all le

module _ {S : Type 0} (tells : S → Type 0) (left : S → List ℕ) (faults : S → ℕ) (c d : Cursor S Window) (bytes : List ℕ) (n : ℕ) (p : Passed left c d bytes n) where
  pub passed_goes : {X : Type 0} (x : X) → GoesBy tells left faults c d (Ok x)
  passed_goes x = record {
    told = λ t. subst tells (sym p.source) t;
    same_source = p.name;
    same_bound = p.same_bound;
    one_past = omega (arith, p.one_past, p.same_bound, p.taken, p.fewer);
    cause = ap faults p.source;
    none_ahead = tt;
    total = λ t. omega (arith, ap length p.gone, length-drop n (unread left c), p.taken, p.some, front_le bytes (unread left c) p.front);
  }

  pub passed_placed : IsPlaced d
  passed_placed = record {
    within = omega (arith, p.within, p.some, p.same_bound, p.taken);
    one_past = omega (arith, p.one_past, p.same_bound, p.taken, p.fewer);
  }

  pub passed_field : (size : Size) → whole size bytes ≡ Some n → AreBytes (take n bytes) → AnswersField {X = List ℕ} tells left (λ x. x) size c d (Ok (take n bytes))
  passed_field size w h = record {
    is_whole = whole_alone size bytes n w;
    taken = p.taken ∙ ap (λ k. place c + k) (sym (length-take-le n bytes p.some));
    within = omega (arith, p.within, p.some, p.taken);
    are_bytes = h;
    parts = λ t. sym (take-append-drop n (unread left c)) ∙ ap (λ l. l ++ drop n (unread left c)) (sym (front_of bytes (unread left c) n p.front p.some)) ∙ ap (λ r. take n bytes ++ r) (sym p.gone);
  }

-- How long a field is.

pub fixed_there : (n : ℕ) (bytes : List ℕ) → 0 < n → n ≤ length bytes → whole (fixed n) bytes ≡ Some n
fixed_there zero bytes some le = absurd (omega arith)
fixed_there (suc n) bytes some le = ap (λ b. cond b (Some (suc n)) None) (le-leb (suc n) (length bytes) le)

-- a U29 has at most four bytes
pub number_few : (value used : ℕ) (bytes : List ℕ) → IsWholeU29 bytes value used → used ≤ 4
number_few value used bytes w = by w.spelled
  where
    long : length (take used bytes) ≡ used
    long = length-take-le used bytes w.there

    by : SpellsU29 value (take used bytes) → used ≤ 4
    by (one a p e f) = omega (arith, long, ap length f)
    by (two a b p q e f) = omega (arith, long, ap length f)
    by (three a b d p q r e f) = omega (arith, long, ap length f)
    by (four a b d g p q r t e f) = omega (arith, long, ap length f)

-- and they are bytes
pub number_bytes : (n : ℕ) (bytes : List ℕ) → SpellsU29 n bytes → AreBytes bytes
number_bytes n bytes (one a p e f) = subst AreBytes (sym f) (omega arith, tt)
number_bytes n bytes (two a b p q e f) = subst AreBytes (sym f) (omega arith, (omega arith, tt))
number_bytes n bytes (three a b d p q r e f) = subst AreBytes (sym f) (omega arith, (omega arith, (omega arith, tt)))
number_bytes n bytes (four a b d g p q r t e f) = subst AreBytes (sym f) (omega arith, (omega arith, (omega arith, (t, tt))))

-- What is kept of them, where there is memory.

pub passed_still_ready : {S X : Type 0} (tells : S → Type 0) (left : S → List ℕ) (faults : S → ℕ) (c d : Cursor S Window) (bytes : List ℕ) (n : ℕ) → Passed left c d bytes n → (r : Result X ReadEnd) → IfErr r (λ e. e ≡ Memory) → GoesBy tells left faults c d r
passed_still_ready tells left faults c d bytes n p (Ok x) m = passed_goes tells left faults c d bytes n p x
passed_still_ready {X = X} tells left faults c d bytes n p (Err e) m = subst (λ z. GoesBy {X = X} tells left faults c d (Err z)) (sym m) (goes_spent tells left faults c d n (passed_goes tells left faults c d bytes n p n))

pub on_ok : {X : Type 0} (P : Type 0) (r : Result X ReadEnd) → P → OnOk r P
on_ok P (Ok x) p = p
on_ok P (Err e) p = tt
