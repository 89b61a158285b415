-- Fields of fixed bytes, as they come: read as any bytes, and then compared.
use Rattle.std.proofs.Common.{◌≡◌, ℕ, zero, suc, ◌+◌, ◌-◌, ◌<◌, Bool, true, false, cond, List, [], ◌∷◌, ◌++◌, length, take, Option, Some, None, refl, sym, ap, ◌∙◌, subst, arith, Ok}
use Rattle.std.proofs.lemmas.List.{append-nil}
use Rattle.std.proofs.lemmas.Slice.Eq.{bytes_eq-Decides}
use Rattle.std.specs.Prelude.{bytes_eq}
use Rattle.amf_io.specs.declared.window.Window.{Window}
use Rattle.amf_io.specs.declared.cursor.Cursor.{Cursor}
use Rattle.amf_io.specs.declared.reason.Reason.{Reason}
use Rattle.amf_io.specs.declared.ends.ReadEnd.{ReadEnd}
use Rattle.amf_io.specs.declared.ends.ReadEnd.TheVariants.{Refused, ReadFault, Memory}
use Rattle.amf_io.specs.Cursor.{source_of, place, bound, unread}
use Rattle.amf_io.specs.ReadEnds.{IsPlaced, GoesBy}
use Rattle.amf_io.specs.CursorReads.{Answers, AnswersField, Ends}
use Rattle.amf_io.specs.Field.{Field, Kind, fixed, AreBytes, whole, flat, raw_kind}
use Rattle.amf_io.specs.Layout.{Layout, give, want, Runs}
use Rattle.amf_io.specs.LayoutAnswer.{DoneBy, EndsBy, Came}
use Rattle.amf_io.specs.Outcomes.{Outcome, Bad, Short, after, in_whole, field_whole, read, run, cut}
use Rattle.amf_io.proofs.CursorReads.{gives, field_reads, field_refused}
use Rattle.amf3_layout_laws.specs.Layout3Words.{chunk}
use Rattle.amf3_layout_laws.proofs.Layout3SoundTexts.{give_is}
use Rattle.amf_sol.specs.SharedObject.{exact_kind}
use Rattle.amf_sol.specs.FileReading.{exact_layout}

-- so many bytes came, as a field
came_raw : (told : Type 0) (n : ℕ) (x : List ℕ) (fs : List Field) (input rest : List ℕ) (at place limit : ℕ) (d : DoneBy told (want (raw_kind (suc n)) (λ b. give b)) x input rest at place limit) → d.fields ≡ fs → Came (fixed (suc n)) told x input rest at place limit
came_raw told n x [] input rest at place limit d e = let r : Runs (want (raw_kind (suc n)) (λ b. give b)) [] x = subst (λ l. Runs (want (raw_kind (suc n)) (λ b. give b)) l x) e d.runs in absurd cc
came_raw told n x (f ∷ g ∷ fs) input rest at place limit d e = let r : Runs (want (raw_kind (suc n)) (λ b. give b)) (f ∷ g ∷ fs) x = subst (λ l. Runs (want (raw_kind (suc n)) (λ b. give b)) l x) e d.runs in absurd r.1
came_raw told n x (f ∷ []) input rest at place limit d e =
    let r : Runs (want (raw_kind (suc n)) (λ b. give b)) (f ∷ []) x = subst (λ l. Runs (want (raw_kind (suc n)) (λ b. give b)) l x) e d.runs in
    let same : f.bytes ≡ x = give_is f.bytes x r.1 in
    let all : flat d.fields ≡ x = ap flat e ∙ append-nil f.bytes ∙ same in
    record {
      is_whole = subst (λ b. whole (fixed (suc n)) b ≡ Some (length b)) same r.0.is_whole;
      taken = d.taken ∙ ap (λ b. at + length b) all;
      within = d.within;
      are_bytes = subst AreBytes all d.bytes;
      parts = λ t. d.parts t ∙ ap (λ b. b ++ rest) all;
    }

-- what ends inside them
module _ {X : Type 0} (told : Type 0) (n : ℕ) (kind : Kind) (size : kind.size ≡ fixed (suc n)) (next : List ℕ → Layout X) (input rest : List ℕ) (at limit : ℕ) where
  bad : (o : Option ℕ) (r : Reason) (k : ℕ) → after (in_whole o limit (raw_kind (suc n)) at input) (λ b. read limit (give b)) ≡ Bad r k → after (in_whole o limit kind at input) (λ b. read limit (next b)) ≡ Bad r k
  bad None r k e = let f : ◌≡◌ {A = Outcome (List ℕ)} (Bad (cut limit at input) at) (Bad r k) = e in let a : cut limit at input ≡ r = cc in let b : at ≡ k = cc in ap (λ q. Bad q at) a ∙ ap (λ i. Bad r i) b
  bad (Some m) r k e = absurd cc

  short : (o : Option ℕ) (given : List ℕ) (k : ℕ) → after (field_whole o (raw_kind (suc n)) at given) (λ b. run (give b)) ≡ Short k → after (field_whole o kind at given) (λ b. run (next b)) ≡ Short k
  short None given k e = let f : ◌≡◌ {A = Outcome (List ℕ)} (Short at) (Short k) = e in let b : at ≡ k = cc in ap (λ i. Short i) b
  short (Some m) given k e = absurd cc

  ended : (e : ReadEnd) → EndsBy told (want (raw_kind (suc n)) (λ b. give b)) input rest at limit e → EndsBy told (want kind next) input rest at limit e
  ended (Refused f) h = λ t. record {
    outcome = bad (whole kind.size (take (limit - at) input)) f.reason f.at (ap (λ s. after (in_whole (whole s (take (limit - at) input)) limit (raw_kind (suc n)) at input) (λ b. read limit (give b))) size ∙ (h t).outcome);
    bytes = (h t).bytes;
  }
  ended ReadFault h = λ t. let w = h t in record {
    given = w.given;
    stop = w.stop;
    parts = w.parts;
    within = w.within;
    outcome = short (whole kind.size w.given) w.given w.stop (ap (λ s. after (field_whole (whole s w.given) (raw_kind (suc n)) at w.given) (λ b. run (give b))) size ∙ w.outcome);
    bytes = w.bytes;
  }
  ended Memory h = tt

equal_clean : (reason : Reason) (bytes : List ℕ) → (exact_kind reason bytes).refusal bytes ≡ None
equal_clean reason bytes = ap (λ b. cond b None (Some reason)) ((bytes_eq-Decides bytes bytes).1 refl)

other_refused : (reason : Reason) (bytes found : List ℕ) → (found ≡ bytes → ⊥) → (exact_kind reason bytes).refusal found ≡ Some reason
other_refused reason bytes found h = by (bytes_eq bytes found) refl
  where
    by : (b : Bool) → bytes_eq bytes found ≡ b → cond b None (Some reason) ≡ Some reason
    by true e = absurd (h (sym ((bytes_eq-Decides bytes found).0 e)))
    by false e = refl

module _ {S : Type 0} (tells : S → Type 0) (left : S → List ℕ) (faults : S → ℕ) (reason : Reason) (bytes : List ℕ) (some : 0 < length bytes) (c d : Cursor S Window) where
  field_of : (n : ℕ) (x : List ℕ) → 0 < n → Answers tells left (λ (y : List ℕ). y) (chunk raw_kind n (λ b. give b)) c d (Ok x) → AnswersField tells left (λ (y : List ℕ). y) (fixed n) c d (Ok x)
  field_of zero x lt a = absurd (omega arith)
  field_of (suc n) x lt a = came_raw (tells (source_of c).now) n x a.fields (unread left c) (unread left d) (place c) (place d) (bound c) a refl

  -- the bytes came
  pub exact_came : (x : List ℕ) → GoesBy tells left faults c d (Ok x) → IsPlaced d → x ≡ bytes → Answers tells left (λ (y : List ℕ). y) (chunk raw_kind (length bytes) (λ b. give b)) c d (Ok x) → Answers tells left (λ (u : Unit {0}). u) (exact_layout reason bytes) c d (Ok tt)
  exact_came x g p e a =
      field_reads tells left faults (λ (y : List ℕ). y) (λ (u : Unit {0}). u) (exact_kind reason bytes) (λ fixed. give tt) c d d x (Ok tt) g (field_of (length bytes) x some a)
      (ap (exact_kind reason bytes).refusal e ∙ equal_clean reason bytes) (gives tells left faults (λ (u : Unit {0}). u) d tt tt p refl)

  -- other bytes came
  pub exact_refused : (x : List ℕ) (at : ℕ) (end : ReadEnd) → (x ≡ bytes → ⊥) → Answers tells left (λ (y : List ℕ). y) (chunk raw_kind (length bytes) (λ b. give b)) c d (Ok x) → at ≡ place c → end ≡ Refused (record { reason = reason; at = at }) → Ends tells left (exact_layout reason bytes) c d end
  exact_refused x at end n a e is =
      subst (Ends tells left (exact_layout reason bytes) c d) (sym (is ∙ ap (λ k. Refused (record { reason = reason; at = k })) e))
      (field_refused tells left faults (λ (y : List ℕ). y) (exact_kind reason bytes) (λ fixed. give tt) c d d x reason (field_of (length bytes) x some a) (other_refused reason bytes x n))

  -- they ended
  pub exact_ended : (end : ReadEnd) → Ends tells left (chunk raw_kind (length bytes) (λ b. give b)) c d end → Ends tells left (exact_layout reason bytes) c d end
  exact_ended end a = by (length bytes) refl some a
    where
      by : (n : ℕ) → length bytes ≡ n → 0 < n → Ends tells left (chunk raw_kind n (λ b. give b)) c d end → Ends tells left (exact_layout reason bytes) c d end
      by zero e lt a = absurd (omega arith)
      by (suc n) e lt a = ended (tells (source_of c).now) n (exact_kind reason bytes) (ap fixed e) (λ fixed. give tt) (unread left c) (unread left d) (place c) (bound c) end a
