-- What the readers of a head and of a tag answer, from what their fields gave.
use Rattle.std.proofs.Common.{◌≡◌, ℕ, suc, ◌-◌, ◌^◌, ◌≤◌, ◌<◌, List, [], ◌∷◌, ◌++◌, length, refl, sym, ap, ◌∙◌, subst, arith, Option, Some, Result, Ok, Err, add-zero, Bool, true, false, IsTrue, ◌↔◌}
use Rattle.std.proofs.lemmas.List.{length-take}
use Rattle.std.specs.Result.{IsErrAnd}
use Rattle.amf_io.specs.declared.ends.ReadEnd.{ReadEnd}
use Rattle.amf_io.specs.declared.ends.ReadEnd.TheVariants.{Refused, ReadFault, Memory}
use Rattle.amf_io.specs.Field.{Field, flat, raw_kind}
use Rattle.amf_io.specs.Layout.{Layout, give, IsLayout}
use Rattle.amf_io.specs.declared.window.Window.{Window}
use Rattle.amf_io.specs.declared.cursor.Cursor.{Cursor}
use Rattle.amf_io.specs.Cursor.{source_of, place, bound, unread}
use Rattle.amf_io.specs.ReadEnds.{GoesBy}
use Rattle.amf_io.specs.CursorReads.{Answers}
use Rattle.amf_io.proofs.CursorReads.{then_reads}
use Rattle.amf_io.specs.LayoutAnswer.{DoneBy, EndsBy}
use Rattle.amf_io.specs.Stretch.{Stretch, stretch, AnswersOf}
use Rattle.amf_io.proofs.LayoutAnswers.{refused_verdict, waits_verdict}
use Rattle.flv_meta.specs.declared.tag.Tag.{Tag as StoredTag}
use Rattle.flv_meta.specs.Fields.{IsHeadReading, IsTagReading}
use Rattle.flv_meta.specs.FileAnswers.{AnswersHead, IsTagOf, AnswersTag, IsStoredTag}
use Rattle.flv_meta.specs.FileLayout.{head_layout, tag_layout}
use Rattle.flv_meta.proofs.TagLayouts.{tag_is_layout, head_is_layout, tag_sound, head_sound}
use Rattle.flv_meta.proofs.Tags.{tag_flat}
use Rattle.flv_meta.proofs.WorkedRows.{hollow, is_hollow}

-- an end of a layout that takes no fuel is the verdict
pub ended : {X Y : Type 0} (R : X → List Field → Type 0) (P : List Field → Type 0) (t : Layout Y) → IsLayout (λ n. t) P → (told : Type 0) (input rest : List ℕ) (at place limit : ℕ) → at ≤ limit → (e : ReadEnd) → EndsBy told t input rest at limit e
    → AnswersOf R P (stretch told input rest at place limit) (Err e)
ended R P t g told input rest at place limit le (Refused f) h = λ s. refused_verdict (λ n. t) P g at limit le (suc (length input)) input f (omega (arith, length-take (limit - at) input)) (h s)
ended R P t g told input rest at place limit le ReadFault h = λ s.
    let w = h s in
    record { given = w.given; parts = w.parts; within = w.within; stop = w.stop; cut_off = waits_verdict (λ n. t) P g at limit le (suc (length w.given)) input rest w (omega arith) }
ended R P t g told input rest at place limit le Memory h = tt

pub head_ended : (told : Type 0) (before now : List ℕ) (input rest : List ℕ) (at place limit : ℕ) → at ≤ limit → (e : ReadEnd) → EndsBy told (head_layout []) input rest at limit e → AnswersHead before now (stretch told input rest at place limit) (Err e)
head_ended told before now input rest at place limit le (Refused f) h = ended (λ (x : Unit {0}) fs. IsHeadReading fs) IsHeadReading (head_layout []) (head_is_layout []) told input rest at place limit le (Refused f) h
head_ended told before now input rest at place limit le ReadFault h = ended (λ (x : Unit {0}) fs. IsHeadReading fs) IsHeadReading (head_layout []) (head_is_layout []) told input rest at place limit le ReadFault h
head_ended told before now input rest at place limit le Memory h = tt

-- the bytes of a head came
pub head_came : (told : Type 0) (before now bytes : List ℕ) (input rest : List ℕ) (at place limit : ℕ) (done : Unit {0}) → now ≡ before ++ bytes → DoneBy told (head_layout []) bytes input rest at place limit → AnswersHead before now (stretch told input rest at place limit) (Ok done)
head_came told before now bytes input rest at place limit done e d =
    let s = head_sound [] d.fields bytes d.bytes d.runs in
    record {
      fields = d.fields;
      read = (bytes, (s.head, s.is_head, s.fields, s.is), e);
      accepted = (s.head, s.is_head, s.fields);
      parts = d.parts;
      taken = d.taken;
      within = d.within;
    }

-- the bytes of a tag came
pub tag_came : (told : Type 0) (x : StoredTag) (input rest : List ℕ) (at place limit : ℕ) → x.at ≡ at → DoneBy told (tag_layout []) x.bytes input rest at place limit → AnswersTag (stretch told input rest at place limit) (Ok (Some x))
tag_came told x input rest at place limit e d =
    let s = tag_sound [] d.fields x.bytes d.bytes d.runs in
    record {
      fields = d.fields;
      read = (s.tag, s.is_tag, s.fields, s.is, e);
      accepted = (s.tag, s.is_tag, s.fields);
      parts = d.parts;
      taken = d.taken;
      within = d.within;
    }

-- a tag that came ends where the cursor stands
pub tag_stored : (told : Type 0) (x : StoredTag) (input rest : List ℕ) (at place limit : ℕ) → AnswersTag (stretch told input rest at place limit) (Ok (Some x)) → place < 2 ^ 32 → IsStoredTag x
tag_stored told x input rest at place limit a less = by a.read
  where
    by : IsTagOf at x a.fields → IsStoredTag x
    by (t, is, fields, bytes, begins) =
        let taken = a.taken in
        let same : length x.bytes ≡ length (flat a.fields) = ap length (bytes ∙ sym (tag_flat t) ∙ ap flat (sym fields)) in
        record { tag = t; is_tag = is; bytes = bytes; within = omega arith }

-- a tag ended: the input went on
pub tag_ended : (told : Type 0) (input rest : List ℕ) (at place limit : ℕ) → at ≤ limit → (told → 0 < length input) → (e : ReadEnd) → EndsBy told (tag_layout []) input rest at limit e → AnswersTag (stretch told input rest at place limit) (Err e)
tag_ended told input rest at place limit le some (Refused f) h = (ended (λ (x : StoredTag). IsTagOf at x) IsTagReading (tag_layout []) (tag_is_layout []) told input rest at place limit le (Refused f) h, some)
tag_ended told input rest at place limit le some ReadFault h = ended (λ (x : StoredTag). IsTagOf at x) IsTagReading (tag_layout []) (tag_is_layout []) told input rest at place limit le ReadFault h
tag_ended told input rest at place limit le some Memory h = tt

-- a read failed before the first byte of a tag
pub tag_faulted : (told : Type 0) (input rest : List ℕ) (at place limit : ℕ) → at ≤ limit → (told → rest ≡ input) → AnswersTag (stretch told input rest at place limit) (Err ReadFault)
tag_faulted told input rest at place limit le same = λ t. record {
  given = [];
  parts = sym (same t);
  within = omega arith;
  stop = at;
  cut_off = record {
    start = [];
    kind = raw_kind 1;
    rest = [];
    follows = record { next = record { kind = raw_kind 1; bytes = 8 ∷ [] }; more = _; is_kind = refl; accepted = (hollow, is_hollow, refl) };
    place = sym (add-zero at);
    parts = refl;
    is_short = refl;
  };
}

-- a look at whether the input ends, and what is then read
module _ {S : Type 0} (tells : S → Type 0) (left : S → List ℕ) (faults : S → ℕ) (c d : Cursor S Window) (over : Bool) (g : GoesBy tells left faults c d (Ok over)) (stays : place d ≡ place c) (same : tells (source_of c).now → unread left d ≡ unread left c) where
  pub looked : {Y Z : Type 0} (view : Z → Y) (t : Layout Y) (e : Cursor S Window) (r : Result Z ReadEnd) → place c ≤ bound c → Answers tells left view t d e r → Answers tells left view t c e r
  looked view t e r le a =
      then_reads tells left faults (λ (b : Bool). b) view (give over) (λ b. t) c d e over r g
      (record { fields = []; runs = refl; bytes = tt; taken = stays ∙ sym (add-zero (place c)); within = omega arith; parts = λ s. sym (same s) }) a

  pub goes_on : over ≡ false → (tells (source_of c).now → IsTrue over ↔ (unread left c ≡ [])) → tells (source_of c).now → 0 < length (unread left c)
  goes_on f is t = by (unread left c) (λ e. let clash : true ≡ false = sym ((is t).1 e) ∙ f in absurd cc)
    where
      by : (l : List ℕ) → (l ≡ [] → ⊥) → 0 < length l
      by [] h = absurd (h refl)
      by (b ∷ l) h = omega arith

-- an end that is passed on
pub head_passed : (before now : List ℕ) (s : Stretch) (r : Result (Unit {0}) ReadEnd) (e : ReadEnd) → IsErrAnd r (λ x. x ≡ e) → AnswersHead before now s (Err e) → AnswersHead before now s r
head_passed before now s (Ok x) e h a = absurd h
head_passed before now s (Err x) e h a = subst (λ (k : ReadEnd). AnswersHead before now s (Err k)) (sym h) a

pub tag_passed : (s : Stretch) (r : Result (Option StoredTag) ReadEnd) (e : ReadEnd) → IsErrAnd r (λ x. x ≡ e) → AnswersTag s (Err e) → AnswersTag s r
tag_passed s (Ok x) e h a = absurd h
tag_passed s (Err x) e h a = subst (λ (k : ReadEnd). AnswersTag s (Err k)) (sym h) a
