-- What a taker holds once it has heard an answer.
use Rattle.std.proofs.Common.{◌≡◌, ℕ, ◌+◌, Bool, true, false, List, [], ◌++◌, Some, refl, sym, ◌∙◌, ap, subst}
use Rattle.std.specs.Prelude.{◌==◌, nat_lt, if◌then◌else◌, slice_get, Result, Ok, Err, OnOk}
use Rattle.std.proofs.lemmas.List.{append-nil}
use Rattle.amf_broker.specs.declared.reply.Delivery.{Delivery}
use Rattle.amf_broker.specs.declared.reply.Answer.{Answer as Told}
use Rattle.amf_once.specs.declared.exchange.Exchange.{Exchange}
use Rattle.amf_once.specs.declared.taker.Taken.TheVariants.{New, Old, Ahead}
use Rattle.amf_once.specs.Taking.{Said, fresh, repeated, other, says}
use Rattle.amf_once.specs.Hearing.{asks_then, taken_of}
use Rattle.amf_once.specs.Course.{Course, took, heard, answered}
use Rattle.amf_once.specs.Shown.{Shows}

-- both facts of an `Ok`
pub on_ok : {A E P Q R : Type 0} (r : Result A E) → (P → Q → R) → OnOk r P → OnOk r Q → OnOk r R
on_ok (Ok x) f p q = f p q
on_ok (Err e) f p q = tt

record Hears (w v : Course) (asks : ℕ) (more : List Delivery) : Type 0 where
  asks_is : v.asks ≡ asks
  taken_is : v.taken ≡ w.taken ++ more
  state_is : v.state ≡ w.state
  requests_is : v.requests ≡ w.requests
  answers_is : v.answers ≡ w.answers

took_hears : (w : Course) (ds : List Delivery) (is_asked is_less : Bool) → Hears w (took (if is_asked then New else if is_less then Old else Ahead) ds w) (if is_asked then w.asks + 1 else w.asks) (if is_asked then ds else [])
took_hears w ds true is_less = record { asks_is = refl; taken_is = refl; state_is = refl; requests_is = refl; answers_is = refl }
took_hears w ds false true = record { asks_is = refl; taken_is = sym (append-nil w.taken); state_is = refl; requests_is = refl; answers_is = refl }
took_hears w ds false false = record { asks_is = refl; taken_is = sym (append-nil w.taken); state_is = refl; requests_is = refl; answers_is = refl }

hears : (w : Course) (x : Said) → Hears w (heard x w) (asks_then x w.asks) (taken_of x w.asks)
hears w (fresh n ds) = took_hears w ds (n == w.asks) (nat_lt n w.asks)
hears w (repeated n ds) = took_hears w ds (n == w.asks) (nat_lt n w.asks)
hears w other = record { asks_is = refl; taken_is = sym (append-nil w.taken); state_is = refl; requests_is = refl; answers_is = refl }

pub heard_shown : (old new : Exchange) (w : Course) (a : Told) (place : ℕ) → slice_get old.answers.items place ≡ Some a
    → new.broker ≡ old.broker → new.requests.items ≡ old.requests.items → new.answers.items ≡ old.answers.items
    → new.taker ≡ asks_then (says a.reply) old.taker → new.taken.items ≡ old.taken.items ++ taken_of (says a.reply) old.taker
    → Shows old w → Shows new (answered (slice_get w.answers place) w)
heard_shown old new w a place found broker requests answers asks taken s =
    let x = says a.reply in
    let h = hears w x in
    let there : slice_get w.answers place ≡ Some a = ap (λ (l : List Told). slice_get l place) (sym s.answers) ∙ found in
    subst (λ o. Shows new (answered o w)) (sym there) (record {
      state = broker ∙ (s.state ∙ sym h.state_is);
      asks = asks ∙ (ap (asks_then x) s.asks ∙ sym h.asks_is);
      requests = requests ∙ (s.requests ∙ sym h.requests_is);
      answers = answers ∙ (s.answers ∙ sym h.answers_is);
      taken = taken ∙ (ap (λ (l : List Delivery). l ++ taken_of x old.taker) s.taken ∙ (ap (λ (n : ℕ). w.taken ++ taken_of x n) s.asks ∙ sym h.taken_is));
    })
