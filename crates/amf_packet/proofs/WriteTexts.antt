-- The first text of a packet that is too long.
use Rattle.std.proofs.Common.{◌≡◌, ℕ, ◌+◌, ◌<◌, List, [], ◌∷◌, ◌++◌, length, take, Some, None, refl, sym, ◌∙◌, subst, arith}
use Rattle.std.specs.List.{AllByRecursion}
use Rattle.std.proofs.lemmas.List.{take-append-le}
use Rattle.std.proofs.lemmas.Option.{slice_get_within}
use Rattle.std.proofs.Math.Seq.{take-append-add}
use Rattle.amf_wire.specs.Text.{IsText}
use Rattle.amf_graph.proofs.Alls.{all_append, each_at}
use Rattle.amf_packet.specs.Packet.{Packet}
use Rattle.amf_packet.specs.PacketLacks.{texts_by_value, AreShort, IsLongText}
use Rattle.amf_packet.specs.WriteParts.{FitTexts, IsFirstLong}
use Rattle.amf_packet.proofs.WriteLacks.{all_before, get_left, get_right}

abbrev Texts : Type 0
Texts = List (List ℕ)

-- the first among headers is the first of all, and so is the first among messages where none is among headers
pub long_left : (xs ys : List Texts) (k : ℕ) → IsFirstLong xs (Some k) → IsFirstLong (xs ++ ys) (Some k)
long_left xs ys k (texts, at, long, short) =
    let within : k < length xs = slice_get_within xs k texts at in
    (texts, get_left xs ys k texts at, long, subst (λ zs. AllByRecursion AreShort zs) (sym (take-append-le k xs ys (omega arith))) short)

pub long_right : (xs ys : List Texts) (n k v : ℕ) → n ≡ length xs → v ≡ n + k → IsFirstLong xs None → IsFirstLong ys (Some k) → IsFirstLong (xs ++ ys) (Some v)
long_right xs ys n k v e f none (texts, at, long, short) =
    let is : length xs + k ≡ v = omega (arith, e, f) in
    subst (λ w. IsFirstLong (xs ++ ys) (Some w)) is
    (texts, get_right xs ys (length xs + k) k refl ∙ at, long, subst (λ zs. AllByRecursion AreShort zs) (sym (take-append-add xs ys k)) (all_append AreShort xs (take k ys) none short))

pub long_none : (xs ys : List Texts) → IsFirstLong xs None → IsFirstLong ys None → IsFirstLong (xs ++ ys) None
long_none xs ys h k = all_append AreShort xs ys h k

-- it is what the packet is refused for, and nothing else is
pub first_long : (p : Packet) (v : ℕ) → IsFirstLong (texts_by_value p) (Some v) → IsLongText p v
first_long p v (texts, at, long, short) = record {
  texts = texts;
  at = at;
  long = long;
  least = λ k xs lt there. all_before AreShort (texts_by_value p) v k xs short lt there;
}

pub one_long : (p : Packet) (v w : ℕ) → IsLongText p v → IsLongText p w → v ≡ w
one_long p v w h k =
    let not_less : v < w → ⊥ = λ lt. h.long (k.least v h.texts lt h.at) in
    let not_more : w < v → ⊥ = λ lt. k.long (h.least w k.texts lt k.at) in
    omega (arith, not_less, not_more)

pub none_long : (p : Packet) (v : ℕ) → IsFirstLong (texts_by_value p) None → IsLongText p v → ⊥
none_long p v h k = k.long (each_at AreShort (texts_by_value p) v k.texts h k.at)

-- texts that are short fit their fields
fit_each : (xs : List (List ℕ)) → AllByRecursion IsText xs → AreShort xs → FitTexts xs
fit_each [] h k = tt
fit_each (x ∷ xs) h k = ((h.0, k.0), fit_each xs h.1 k.1)

pub fit_all : (xs : List Texts) → AllByRecursion (AllByRecursion IsText) xs → IsFirstLong xs None → AllByRecursion FitTexts xs
fit_all [] h k = tt
fit_all (x ∷ xs) h k = (fit_each x h.0 k.0, fit_all xs h.1 k.1)
