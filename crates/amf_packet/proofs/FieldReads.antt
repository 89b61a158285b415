-- What is read of the fields of a packet.
use Rattle.std.proofs.Common.{◌≡◌, ℕ, zero, suc, ◌+◌, ◌<◌, ◌≤◌, ◌==◌, if◌then◌else◌, Bool, true, false, not, List, [], ◌∷◌, ◌++◌, length, slice_index, Some, None, refl, sym, ap, ◌∙◌, subst, arith, Result, Ok, Err}
use Rattle.std.proofs.lemmas.List.{append-nil}
use Rattle.std.specs.Int.{from_be_bytes, to_be_bytes, w16, w32}
use Rattle.std.specs.Prelude.{OnOk}
use Rattle.std.specs.Result.{IsErrAnd}
use Rattle.amf_io.specs.declared.window.Window.{Window}
use Rattle.amf_io.specs.declared.cursor.Cursor.{Cursor}
use Rattle.amf_io.specs.declared.reason.Reason.TheVariants.{BadVersion}
use Rattle.amf_io.specs.declared.ends.ReadEnd.{ReadEnd}
use Rattle.amf_io.specs.declared.ends.ReadEnd.TheVariants.{Refused}
use Rattle.amf_io.specs.Cursor.{place, unread}
use Rattle.amf_io.specs.ReadEnds.{GoesBy}
use Rattle.amf_io.specs.CursorReads.{Answers, AnswersField, Ends}
use Rattle.amf_io.specs.Field.{Size, Kind, Field, flat, field, whole, contents, raw_kind, text_kind, u16_kind, u32_kind, no_refusal, AreBytes}
use Rattle.amf_io.specs.Layout.{Layout, give, want, Runs}
use Rattle.amf_io.proofs.Bytes.{bytes_front}
use Rattle.amf_io.proofs.Whole.{whole_fixed}
use Rattle.amf_io.proofs.CursorReads.{end_reads, field_reads, field_refused}
use Rattle.amf_wire.specs.Style.{free}
use Rattle.amf_wire.specs.Text.{IsText}
use Rattle.amf3_layout_laws.specs.Layout3.{flag_layout}
use Rattle.amf3_layout_laws.specs.Layout3Words.{chunk}
use Rattle.amf3_layout_laws.proofs.Layout3SoundOpenings.{Chunk, chunk_taken}
use Rattle.amf3_layout_laws.proofs.Layout3SoundTexts.{taken, texts_are, give_is}
use Rattle.amf0_spelling.specs.Segments0.{Short}
use Rattle.amf0_layout_laws.proofs.Layout0SoundParts.{u32_is, empty_text}
use Rattle.amf_wire_fields.proofs.LayoutBinds.{bind_chunk, chunk_ends}
use Rattle.amf_packet.specs.Packet.{Beside, is_version, version_refusal, VersionBy, CountBy, LengthBy, MustBy}
use Rattle.amf_packet.specs.LayoutPacket.{done, name_layout, must_layout, length_layout, version_layout}
use Rattle.amf_packet.specs.ReadParts.{Took, Reads, count_layout}
use Rattle.amf_packet.proofs.PacketLayout.{u16_is}
use Rattle.amf_packet.proofs.Taken.{took_then, took_of}

module _ {S : Type 0} (tells : S → Type 0) (left : S → List ℕ) (faults : S → ℕ) where
  -- an error that is passed on
  pub reads_passed : {X Y : Type 0} (P : X → List Field → Type 0) (view : X → Y) (t : Layout Y) (c d : Cursor S Window) (r : Result X ReadEnd) (e : ReadEnd) → IsErrAnd r (λ x. x ≡ e) → Ends tells left t c d e → Reads tells left P view t c d r
  reads_passed P view t c d (Ok x) e h a = absurd h
  reads_passed P view t c d (Err x) e h a = subst (Ends tells left t c d) (sym h) a

  pub took_as : {Y : Type 0} (t : Layout Y) (y : Y) (P Q : List Field → Type 0) (c d : Cursor S Window) → Took tells left t y P c d → ((fs : List Field) → P fs → Q fs) → Took tells left t y Q c d
  took_as t y P Q c d (a, p) f = (a, f a.fields p)

  -- one field
  pub took_field : {Y : Type 0} (kind : Kind) (next : List ℕ → Layout Y) (y : Y) (P : List Field → Type 0) (c d : Cursor S Window) (b : List ℕ) → AnswersField tells left (λ (x : List ℕ). x) kind.size c d (Ok b) → kind.refusal b ≡ None → next b ≡ give y → (AreBytes b → P (field kind b ∷ [])) → Took tells left (want kind next) y P c d
  took_field kind next y P c d b a clean e p = (
    record {
      fields = field kind b ∷ [];
      runs = (record { is_kind = refl; is_whole = a.is_whole; clean = clean }, e);
      bytes = subst AreBytes (sym (append-nil b)) a.are_bytes;
      taken = a.taken ∙ ap (λ l. place c + length l) (sym (append-nil b));
      within = a.within;
      parts = λ s. a.parts s ∙ ap (λ l. l ++ unread left d) (sym (append-nil b));
    },
    p a.are_bytes,
  )

  two_long : (b : List ℕ) → whole (u16_kind no_refusal).size b ≡ Some (length b) → length b ≡ 2
  two_long b w = sym (whole_fixed 2 b (length b) w)

  pub took_version : (c d : Cursor S Window) (b : List ℕ) → AnswersField tells left (λ (x : List ℕ). x) (u16_kind version_refusal).size c d (Ok b) → is_version (from_be_bytes w16 b) ≡ true → Took tells left version_layout tt (VersionBy (from_be_bytes w16 b)) c d
  took_version c d b a served = took_field (u16_kind version_refusal) (λ b. done) tt (VersionBy (from_be_bytes w16 b)) c d b a (ap (λ (t : Bool). if t then None else Some BadVersion) served) refl
      (λ h. (served, ap (λ l. field (u16_kind version_refusal) l ∷ []) (sym (u16_is version_refusal b (two_long b a.is_whole) h).0)))

  pub version_refused : (c d : Cursor S Window) (b : List ℕ) (start : ℕ) (e : ReadEnd) → AnswersField tells left (λ (x : List ℕ). x) (u16_kind version_refusal).size c d (Ok b) → is_version (from_be_bytes w16 b) ≡ false → e ≡ Refused (record { reason = BadVersion; at = start }) → start ≡ place c → Ends tells left version_layout c d e
  version_refused c d b start e a other is at =
      subst (λ z. Ends tells left version_layout c d z) (sym (is ∙ ap (λ k. Refused (record { reason = BadVersion; at = k })) at))
      (field_refused tells left faults (λ (x : List ℕ). x) (u16_kind version_refusal) (λ b. done) c d d b BadVersion a (ap (λ (t : Bool). if t then None else Some BadVersion) other))

  pub took_count : (c d : Cursor S Window) (b : List ℕ) → AnswersField tells left (λ (x : List ℕ). x) (u16_kind no_refusal).size c d (Ok b) → Took tells left count_layout (from_be_bytes w16 b) (CountBy (from_be_bytes w16 b)) c d
  took_count c d b a = took_field (u16_kind no_refusal) (λ b. give (from_be_bytes w16 b)) (from_be_bytes w16 b) (CountBy (from_be_bytes w16 b)) c d b a refl refl
      (λ h. let u = u16_is no_refusal b (two_long b a.is_whole) h in (u.1, ap (λ l. field (u16_kind no_refusal) l ∷ []) (sym u.0)))

  pub took_length : (c d : Cursor S Window) (b : List ℕ) → AnswersField tells left (λ (x : List ℕ). x) (u32_kind no_refusal).size c d (Ok b) → Took tells left length_layout tt (LengthBy free) c d
  took_length c d b a = took_field (u32_kind no_refusal) (λ b. done) tt (LengthBy free) c d b a refl refl
      (λ h. let u = u32_is (field (u32_kind no_refusal) b) (record { is_kind = refl; is_whole = a.is_whole; clean = refl }) h in (from_be_bytes w32 b, u.1, tt, ap (λ f. f ∷ []) u.0))

  -- a flag

  one_byte : (b : List ℕ) → length b ≡ 1 → b ≡ slice_index b 0 ∷ []
  one_byte [] e = absurd (omega arith)
  one_byte (x ∷ []) e = refl
  one_byte (x ∷ y ∷ b) e = absurd (omega arith)

  not_zero : (m : ℕ) → (suc m == 0) ≡ false
  not_zero m = grind arith

  flag_is : (m : ℕ) (x : Bool) → m < 256 → x ≡ not (m == 0) → MustBy free x (field (raw_kind 1) (m ∷ []) ∷ [])
  flag_is zero x l e = subst (λ (y : Bool). MustBy free y (field (raw_kind 1) (0 ∷ []) ∷ [])) (sym e) (0, (refl, l, tt), refl)
  flag_is (suc m) x l e = subst (λ (y : Bool). MustBy free y (field (raw_kind 1) (suc m ∷ []) ∷ [])) (sym (e ∙ ap not (not_zero m))) (suc m, (omega arith, l, tt), refl)

  flag_spelled : (fs : List Field) (x : Bool) → AreBytes (flat fs) → Runs flag_layout fs x → MustBy free x fs
  flag_spelled [] x b r = absurd cc
  flag_spelled (f ∷ []) x b r =
      let h = bytes_front f.bytes [] b in
      let one = one_byte f.bytes (sym (whole_fixed 1 f.bytes (length f.bytes) r.0.is_whole)) in
      let small : slice_index f.bytes 0 < 256 = (subst AreBytes one h).0 in
      subst (λ fs. MustBy free x fs) (ap (λ l. field (raw_kind 1) l ∷ []) (sym one) ∙ ap (λ g. g ∷ []) (sym (taken (raw_kind 1) f r.0)))
      (flag_is (slice_index f.bytes 0) x small (sym (give_is (not (slice_index f.bytes 0 == 0)) x r.1)))
  flag_spelled (f ∷ g ∷ fs) x b r = absurd r.1

  pub came_stays : {size : Size} (c d : Cursor S Window) (b : List ℕ) → AnswersField tells left (λ (x : List ℕ). x) size c d (Ok b) → place c ≤ place d
  came_stays c d b a = let t = a.taken in omega arith

  pub took_stays : {Y : Type 0} (t : Layout Y) (y : Y) (P : List Field → Type 0) (c d : Cursor S Window) → Took tells left t y P c d → place c ≤ place d
  took_stays t y P c d (a, p) = let u = a.taken in omega arith

  pub took_must : (c d : Cursor S Window) (x : Bool) → Answers tells left (λ (y : Bool). y) flag_layout c d (Ok x) → Took tells left must_layout tt (MustBy free x) c d
  took_must c d x a = took_of tells left faults (λ (y : Bool). y) flag_layout tt (λ y. done) (MustBy free x) c d x refl a (flag_spelled a.fields x a.bytes a.runs)

  pub must_reads : (c d : Cursor S Window) (r : Result Bool ReadEnd) → Answers tells left (λ (y : Bool). y) flag_layout c d r → Reads tells left (MustBy free) (λ (y : Bool). tt) must_layout c d r
  must_reads c d (Ok x) a = took_must c d x a
  must_reads c d (Err e) a = end_reads tells left faults flag_layout (λ y. done) c d e a

  pub must_stays : (c d : Cursor S Window) (r : Result Bool ReadEnd) → Answers tells left (λ (y : Bool). y) flag_layout c d r → OnOk r (place c ≤ place d)
  must_stays c d (Ok x) a = let t = a.taken in omega arith
  must_stays c d (Err e) a = tt

  -- a name

  record IsChars (n : ℕ) (x : List ℕ) (fs : List Field) : Type 0 where
    long : length x ≡ n
    is_text : IsText x
    fields : fs ≡ contents text_kind x

  chars_are : (n : ℕ) (x : List ℕ) (fs : List Field) → AreBytes (flat fs) → Runs (chunk text_kind n (λ y. give y)) fs x → IsChars n x fs
  chars_are n x fs b r =
      let k : Chunk text_kind IsText n (λ (y : List ℕ). y) fs x = chunk_taken text_kind IsText n (λ (y : List ℕ). y) fs x (λ n. refl) empty_text (λ n y e c. texts_are.texts n y c) b r in
      record { long = ap length (sym k.is) ∙ k.long; is_text = subst IsText k.is k.good; fields = k.fields ∙ ap (contents text_kind) k.is }

  took_chars : (n : ℕ) (c d : Cursor S Window) (x : List ℕ) → Answers tells left (λ (y : List ℕ). y) (chunk text_kind n (λ y. give y)) c d (Ok x) → Took tells left (chunk text_kind n (λ y. done)) tt (IsChars n x) c d
  took_chars n c d x a =
      subst (λ t. Took tells left t tt (IsChars n x) c d) (bind_chunk text_kind n (λ y. tt))
      (took_of tells left faults (λ (y : List ℕ). y) (chunk text_kind n (λ y. give y)) tt (λ y. done) (IsChars n x) c d x refl a (chars_are n x a.fields a.bytes a.runs))

  pub took_name : (c d e : Cursor S Window) (b x : List ℕ) → GoesBy tells left faults c d (Ok b) → AnswersField tells left (λ (x : List ℕ). x) (u16_kind no_refusal).size c d (Ok b) → Answers tells left (λ (y : List ℕ). y) (chunk text_kind (from_be_bytes w16 b) (λ y. give y)) d e (Ok x) → Took tells left name_layout tt (Short x) c e
  took_name c d e b x g a r =
      let n = from_be_bytes w16 b in
      let P : List Field → Type 0 = λ fs. (fs ≡ field (u16_kind no_refusal) (to_be_bytes w16 n) ∷ []) × (n < 65536) in
      let one : Took tells left (want (u16_kind no_refusal) (λ b. give b)) b P c d = took_field (u16_kind no_refusal) (λ b. give b) b P c d b a refl refl
      (λ h. let u = u16_is no_refusal b (two_long b a.is_whole) h in (ap (λ l. field (u16_kind no_refusal) l ∷ []) (sym u.0), u.1)) in
      took_as name_layout tt (Beside P (IsChars n x)) (Short x) c e
      (took_then tells left faults (want (u16_kind no_refusal) (λ b. give b)) (λ b. chunk text_kind (from_be_bytes w16 b) (λ y. done)) b tt P (IsChars n x) c d e b g one (took_chars n d e x r))
      (λ fs (front, back, parts, p, q). (
        q.is_text,
        (let l = q.long in let m = p.1 in omega (arith, l, m)),
        parts ∙ ap (λ l. l ++ back) p.0 ∙ ap (λ k. field (u16_kind no_refusal) (to_be_bytes w16 k) ∷ back) (sym q.long) ∙ ap (λ l. field (u16_kind no_refusal) (to_be_bytes w16 (length x)) ∷ l) q.fields,
      ))

  -- what ends inside the contents of a name
  pub name_ended : (c d e : Cursor S Window) (b : List ℕ) (end : ReadEnd) → GoesBy tells left faults c d (Ok b) → AnswersField tells left (λ (x : List ℕ). x) (u16_kind no_refusal).size c d (Ok b) → Ends tells left (chunk text_kind (from_be_bytes w16 b) (λ y. give y)) d e end → Ends tells left name_layout c e end
  name_ended c d e b end g a r =
      field_reads tells left faults {Z = Unit {0}} (λ (x : List ℕ). x) (λ (x : Unit {0}). x) (u16_kind no_refusal) (λ b. chunk text_kind (from_be_bytes w16 b) (λ y. done)) c d e b (Err end) g a refl (chunk_ends tells left faults text_kind (from_be_bytes w16 b) (λ y. tt) d e end r)
