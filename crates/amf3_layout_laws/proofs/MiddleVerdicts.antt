-- The verdict on a value in the middle of something: there is one, and it is one alone.
use Rattle.std.proofs.Common.{◌≡◌, ℕ, ◌+◌, ◌-◌, ◌≤◌, ◌<◌, List, length, take, refl, inl, inr, arith}
use Rattle.amf_io.specs.Field.{Field, AreBytes}
use Rattle.amf_io.specs.Layout.{Layout, IsLayout}
use Rattle.amf_io.specs.Outcomes.{Outcome, Done, Bad, Short, Stuck, read}
use Rattle.amf_io.proofs.Bytes.{bytes_take}
use Rattle.amf_io.proofs.Verdicts.{not_stuck}
use Rattle.amf_io.proofs.Readings.{is_accepted, is_refused, read_short, read_stuck}
use Rattle.amf_io.proofs.Unique.{one_refusal}
use Rattle.amf_io.proofs.Inputs.{not_refused, one_end}
use Rattle.amf3_layout_laws.specs.VerdictLaws3.{IsReadOnce, EndsSomewhere}

module _ {X : Type 0} (t : ℕ → Layout X) (P : List Field → Type 0) (g : IsLayout t P) (base limit : ℕ) (input : List ℕ) where
  pub read_once : IsReadOnce P base limit input
  read_once = record {
    not_both = λ end rest a reason at r. not_refused t P g base limit end at reason input rest a r;
    one_end = λ end other rest more a b. one_end t P g base limit limit end other input rest more a b;
    one_refusal = λ reason other at place r s. one_refusal t P g base limit at place reason other input r s;
  }

  -- with more fuel than bytes
  ended : (n : ℕ) (o : Outcome X) → base ≤ limit → AreBytes input → length (take (limit - base) input) < n → read limit (t n) base input ≡ o → EndsSomewhere P base limit input
  ended n (Done x end rest) le bytes lt e = inl (end, rest, is_accepted t P g base limit le n end input x rest (bytes_take (end - base) input bytes) e)
  ended n (Bad reason at) le bytes lt e = inr (reason, at, is_refused t P g base limit le n at input reason lt (bytes_take (at - base) input bytes) e)
  ended n (Short at) le bytes lt e = absurd (read_short limit (t n) base input at e)
  ended n Stuck le bytes lt e = absurd (not_stuck t P g base n (take (limit - base) input) lt (read_stuck limit (t n) base input e))

  pub ends_somewhere : base ≤ limit → AreBytes input → EndsSomewhere P base limit input
  ends_somewhere le bytes = let n = length (take (limit - base) input) + 1 in ended n (read limit (t n) base input) le bytes (omega arith) refl
