-- What was put, step after step.
use Rattle.std.proofs.Common.{◌≡◌, ℕ, List, [], ◌++◌, Result, Ok, Err, refl, sym, ap, ◌∙◌, append_assoc}
use Rattle.std.proofs.lemmas.List.{append-nil}
use Rattle.amf_io.specs.Written.{WritesFront}
use Rattle.amf_media.specs.Written.{IsPut, Puts}
use Rattle.amf_media.specs.declared.ending.MediaEnd.{MediaEnd}
use Rattle.amf_media.specs.declared.ending.MediaEnd.TheVariants.{Done, Refused, ReadFault, WriteFault, NoForm, LongData, Memory}

pub put_none : (held waiting : List ℕ) → IsPut held held waiting waiting []
put_none held waiting = record { front = []; added = sym (append-nil held); parts = append-nil waiting }

pub none_front : (held bytes : List ℕ) → WritesFront held held bytes
none_front held bytes = record { front = []; rest = bytes; parts = refl; added = sym (append-nil held) }

pub put_join : (held mid now waiting between waits a b : List ℕ) → IsPut held mid waiting between a → IsPut mid now between waits b → IsPut held now waiting waits (a ++ b)
put_join held mid now waiting between waits a b p q = record {
  front = p.front ++ q.front;
  added = q.added ∙ ap (λ l. l ++ q.front) p.added ∙ append_assoc held p.front q.front;
  parts = sym (append_assoc waiting a b) ∙ ap (λ l. l ++ b) p.parts ∙ append_assoc p.front between b ∙ ap (λ l. p.front ++ l) q.parts ∙ sym (append_assoc p.front q.front waits);
}

pub front_join : (held mid now waiting between a b : List ℕ) → IsPut held mid waiting between a → WritesFront mid now (between ++ b) → WritesFront held now (waiting ++ (a ++ b))
front_join held mid now waiting between a b p q = record {
  front = p.front ++ q.front;
  rest = q.rest;
  parts = sym (append_assoc waiting a b) ∙ ap (λ l. l ++ b) p.parts ∙ append_assoc p.front between b ∙ ap (λ l. p.front ++ l) q.parts ∙ sym (append_assoc p.front q.front q.rest);
  added = q.added ∙ ap (λ l. l ++ q.front) p.added ∙ append_assoc held p.front q.front;
}

-- what was put and nothing waits for any longer
pub put_written : (held now waiting bytes : List ℕ) → now ≡ held ++ (waiting ++ bytes) → IsPut held now waiting [] bytes
put_written held now waiting bytes e = record { front = waiting ++ bytes; added = e; parts = sym (append-nil (waiting ++ bytes)) }

-- the rest was written too
pub put_closed : (held now waits bytes then : List ℕ) → IsPut held now [] waits bytes → then ≡ now ++ waits → then ≡ held ++ bytes
put_closed held now waits bytes then p e = e ∙ ap (λ l. l ++ waits) p.added ∙ append_assoc held p.front waits ∙ ap (λ l. held ++ l) (sym p.parts)

pub front_closed : (held now waits bytes then : List ℕ) → IsPut held now [] waits bytes → WritesFront now then waits → WritesFront held then bytes
front_closed held now waits bytes then p w = record {
  front = p.front ++ w.front;
  rest = w.rest;
  parts = p.parts ∙ ap (λ l. p.front ++ l) w.parts ∙ sym (append_assoc p.front w.front w.rest);
  added = w.added ∙ ap (λ l. l ++ w.front) p.added ∙ append_assoc held p.front w.front;
}

-- one piece, and then another
pub puts_then : (held mid now waiting between waits a b : List ℕ) (r : Result (Unit {0}) MediaEnd) → IsPut held mid waiting between a → Puts mid now between waits b r → Puts held now waiting waits (a ++ b) r
puts_then held mid now waiting between waits a b (Ok done) p q = put_join held mid now waiting between waits a b p q
puts_then held mid now waiting between waits a b (Err WriteFault) p q = front_join held mid now waiting between a b p q
puts_then held mid now waiting between waits a b (Err Memory) p q = front_join held mid now waiting between a b p q
puts_then held mid now waiting between waits a b (Err Done) p q = q
puts_then held mid now waiting between waits a b (Err (Refused f)) p q = q
puts_then held mid now waiting between waits a b (Err ReadFault) p q = q
puts_then held mid now waiting between waits a b (Err (NoForm l)) p q = q
puts_then held mid now waiting between waits a b (Err LongData) p q = q

-- not even the first
pub puts_short : (held now waiting waits a b : List ℕ) (e : MediaEnd) → Puts {T = Unit {0}} held now waiting waits a (Err e) → Puts {T = Unit {0}} held now waiting waits (a ++ b) (Err e)
puts_short held now waiting waits a b WriteFault w = record { front = w.front; rest = w.rest ++ b; parts = sym (append_assoc waiting a b) ∙ ap (λ l. l ++ b) w.parts ∙ append_assoc w.front w.rest b; added = w.added }
puts_short held now waiting waits a b Memory w = record { front = w.front; rest = w.rest ++ b; parts = sym (append_assoc waiting a b) ∙ ap (λ l. l ++ b) w.parts ∙ append_assoc w.front w.rest b; added = w.added }
puts_short held now waiting waits a b Done w = w
puts_short held now waiting waits a b (Refused f) w = w
puts_short held now waiting waits a b ReadFault w = w
puts_short held now waiting waits a b (NoForm l) w = w
puts_short held now waiting waits a b LongData w = w
