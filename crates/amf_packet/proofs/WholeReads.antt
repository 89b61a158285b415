-- What all the bytes of an input spell: a packet that was read to its end, and no packet where one ends earlier or is refused.
use Rattle.std.proofs.Common.{◌≡◌, ◌∙◌, ℕ, zero, suc, ◌+◌, ◌<◌, ◌≤◌, ◌^◌, Bool, true, false, List, [], ◌∷◌, ◌++◌, length, take, get_or, add-one, Option, Some, None, refl, sym, ap, subst, arith}
use Rattle.std.specs.List.{AllByRecursion}
use Rattle.std.specs.Bool.{then_some}
use Rattle.std.proofs.lemmas.List.{append-nil}
use Rattle.amf_io.specs.declared.reason.Reason.{Reason}
use Rattle.amf_io.specs.declared.reason.Reason.TheVariants.{Trailing}
use Rattle.amf_io.specs.declared.ends.ReadEnd.{ReadEnd}
use Rattle.amf_io.specs.declared.ends.ReadEnd.TheVariants.{Refused, ReadFault as Faulted, Memory as NoMemory}
use Rattle.amf_io.specs.ReadEnds.{CountsEnd}
use Rattle.amf_io.specs.Field.{flat}
use Rattle.amf_io.specs.Stretch.{IsTaken, stretch}
use Rattle.amf_io.specs.Verdict.{IsInputRefused, trailing}
use Rattle.amf_wire.specs.Style.{free}
use Rattle.amf_graph.specs.Reached.{IsWhole}
use Rattle.amf_packet.specs.declared.packet.Packet.{Packet as KeptPacket}
use Rattle.amf_packet.specs.Content.{body_of, packet_of}
use Rattle.amf_packet.specs.Packet.{SpellsPacket, IsPacketReading}
use Rattle.amf_packet.specs.PacketAnswer.{packet_weight}
use Rattle.amf_packet.specs.Unpacked.{IsNoPacket, Unpacks}
use Rattle.amf_packet.proofs.PacketVerdicts.{packet_verdicts}

-- no read of bytes in memory fails
pub no_fault : (e : ReadEnd) → e ≡ Faulted → CountsEnd 0 0 e → ⊥
no_fault (Refused f) same counts = absurd cc
no_fault Faulted same counts = omega (arith, counts.1)
no_fault NoMemory same counts = absurd cc

abbrev pub most_bytes : ℕ
most_bytes = 134217727

-- no packet is spelled by what is refused
pub none_spelled : (input : List ℕ) (reason : Reason) (at : ℕ) → length input < 2 ^ 27 → IsInputRefused IsPacketReading most_bytes input reason at → IsNoPacket input
none_spelled input reason at short r q (fields, spells, e) =
    (packet_verdicts.judged_once most_bytes input).not_both (record {
      fields = fields;
      accepted = (q, spells);
      parts = e ∙ sym (append-nil (flat fields));
      place = let same = ap length e in omega (arith, same);
      within = omega (arith, short);
    }) reason at r

some_left : (rest : List ℕ) → (rest ≡ [] → ⊥) → 0 < length rest
some_left [] never = absurd (never refl)
some_left (b ∷ rest) never = omega arith

module _ (input rest : List ℕ) (place : ℕ) (p : KeptPacket) (short : length input < 2 ^ 27) (t : IsTaken (λ fs. SpellsPacket free (packet_of p) fs) IsPacketReading (stretch (Unit {0}) input rest 0 place most_bytes)) where
  -- something follows
  pub more_follows : (rest ≡ [] → ⊥) → IsNoPacket input
  more_follows never = none_spelled input Trailing place short (trailing refl rest (some_left rest never) (record { fields = t.fields; accepted = t.accepted; parts = t.parts tt; place = t.taken; within = t.within }))

  -- nothing follows
  pub packet_read : rest ≡ [] → packet_weight p ≤ place → AllByRecursion (λ m. IsWhole (body_of m.body).graph) p.messages → Unpacks input (Some p)
  packet_read e light whole =
      let all : input ≡ flat t.fields = t.parts tt ∙ ap (λ (x : List ℕ). flat t.fields ++ x) e ∙ append-nil (flat t.fields) in
      record {
        spelled = (t.fields, t.read, all);
        whole = whole;
        light = let same = ap length all in let taken = t.taken in omega (arith, light, same, taken);
      }

pub by_test : {X : Type 0} (b : Bool) (x : X) (P : Option X → Type 0) → (b ≡ true → P (Some x)) → (b ≡ false → P None) → P (then_some b x)
by_test true x P here other = here refl
by_test false x P here other = other refl

-- What holds of each item that was gone over holds of all.
next_suc : {X : Type 0} (P : X → Type 0) (xs : List X) (k : ℕ) (x : X) → AllByRecursion P (take k xs) → k < length xs → x ≡ get_or xs k x → P x → AllByRecursion P (take (suc k) xs)
next_suc P [] k x h l e p = absurd (omega (arith, l))
next_suc P (y ∷ xs) zero x h l e p = (subst P e p, tt)
next_suc P (y ∷ xs) (suc k) x h l e p = (h.0, next_suc P xs k x h.1 (omega (arith, l)) e p)

pub all_next : {X : Type 0} (P : X → Type 0) (xs : List X) (k : ℕ) (x : X) → AllByRecursion P (take k xs) → k < length xs → x ≡ get_or xs k x → P x → AllByRecursion P (take (k + 1) xs)
all_next P xs k x h l e p = subst (λ n. AllByRecursion P (take n xs)) (sym (add-one k)) (next_suc P xs k x h l e p)

pub all_taken : {X : Type 0} (P : X → Type 0) (xs : List X) (k : ℕ) → length xs ≤ k → AllByRecursion P (take k xs) → AllByRecursion P xs
all_taken P [] k l h = tt
all_taken P (y ∷ xs) zero l h = absurd (omega (arith, l))
all_taken P (y ∷ xs) (suc k) l h = (h.0, all_taken P xs k (omega (arith, l)) h.1)
