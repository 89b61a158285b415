-- The layouts of a head and of a tag read what is accepted as one, and nothing else.
use Rattle.std.proofs.Common.{◌≡◌, ℕ, zero, suc, Bool, true, false, cond, List, [], ◌∷◌, ◌++◌, length, get_or, Some, None, refl, sym, ap, ◌∙◌, arith, append_assoc, subst}
use Rattle.std.specs.Prelude.{bytes_eq, codes}
use Rattle.std.proofs.lemmas.Slice.Eq.{bytes_eq-Decides}
use Rattle.amf_io.specs.declared.reason.Reason.{Reason}
use Rattle.amf_io.specs.declared.reason.Reason.TheVariants.{BadSignature, BadVersion, BadLength}
use Rattle.amf_io.specs.Field.{Field, Kind, field, flat, raw_kind, contents, AreBytes}
use Rattle.amf_io.specs.Layout.{Layout, give, want, Takes, Path, Runs, IsLayout}
use Rattle.amf_io.proofs.Ables.{AbleWithin, able_give, able_want}
use Rattle.amf_io.proofs.Combine.{headed}
use Rattle.amf_io.proofs.Paths.{extends_same}
use Rattle.amf_io.proofs.SharedPaths.{given}
use Rattle.flv_meta.specs.File.{Head, Tag, IsHead, IsTag, head_bytes, tag_bytes, number24}
use Rattle.amf_io.specs.Exact.{exact_kind, exactly}
use Rattle.flv_meta.specs.Fields.{head_fields, tag_fields, IsHeadReading, IsTagReading}
use Rattle.flv_meta.specs.FileLayout.{number_layout, offset_layout, flags_layout, version_layout, head_layout, body_layout, stream_layout, time_layout, size_layout, tag_layout}
use Rattle.flv_meta.proofs.Tags.{tag_flat, head_flat, taken, takes_raw, size_of, contents_is, single, zeros, zeros_length, zeros_bytes}

give_is : {X : Type 0} (x y : X) → give x ≡ give y → x ≡ y
give_is x y e = cc

-- what follows one field to a value
pub record Last (k : Kind) (front : List ℕ) (fs : List Field) (x : List ℕ) : Type 0 where
  pub bytes : List ℕ
  pub fields : fs ≡ field k bytes ∷ []
  pub takes : Takes k (field k bytes)
  pub is : x ≡ front ++ bytes

takes_field : (k : Kind) (f : Field) → Takes k f → Takes k (field k f.bytes)
takes_field k f t = record { is_kind = refl; is_whole = t.is_whole; clean = t.clean }

last : (k : Kind) (front : List ℕ) (fs : List Field) (x : List ℕ) → Runs (want k (λ b. give (front ++ b))) fs x → Last k front fs x
last k front fs x r =
    let h = headed k (λ b. give (front ++ b)) fs x r in
    let none : h.1 ≡ [] = given (front ++ h.0.bytes) (give x) h.1 h.4 in
    record {
      bytes = h.0.bytes;
      fields = h.2 ∙ ap (λ l. h.0 ∷ l) none ∙ ap (λ f. f ∷ []) (taken k h.0 h.3);
      takes = takes_field k h.0 h.3;
      is = sym (give_is (front ++ h.0.bytes) x (subst (λ l. Path (give (front ++ h.0.bytes)) l (give x)) none h.4));
    }

-- The data of a tag and the number behind them.

record Body (size : ℕ) (front : List ℕ) (fs : List Field) (x : List ℕ) : Type 0 where
  pub body : List ℕ
  pub number : List ℕ
  pub long : length body ≡ size
  pub four : length number ≡ 4
  pub fields : fs ≡ contents raw_kind body ++ (field (raw_kind 4) number ∷ [])
  pub is : x ≡ front ++ (body ++ number)

body_sound : (size : ℕ) (front : List ℕ) (fs : List Field) (x : List ℕ) → Runs (body_layout size front) fs x → Body size front fs x
body_sound zero front fs x r =
    let l = last (raw_kind 4) front fs x r in
    record { body = []; number = l.bytes; long = refl; four = size_of 4 (raw_kind 4) (field (raw_kind 4) l.bytes) refl l.takes; fields = l.fields; is = l.is }
body_sound (suc n) front fs x r =
    let h = headed (raw_kind (suc n)) (λ b. number_layout (front ++ b)) fs x r in
    let l = last (raw_kind 4) (front ++ h.0.bytes) h.1 x h.4 in
    let long = size_of (suc n) (raw_kind (suc n)) h.0 refl h.3 in
    record {
      body = h.0.bytes;
      number = l.bytes;
      long = long;
      four = size_of 4 (raw_kind 4) (field (raw_kind 4) l.bytes) refl l.takes;
      fields = h.2 ∙ ap (λ g. h.0 ∷ g) l.fields ∙ ap (λ f. f ∷ field (raw_kind 4) l.bytes ∷ []) (taken (raw_kind (suc n)) h.0 h.3) ∙ ap (λ g. g ++ (field (raw_kind 4) l.bytes ∷ [])) (sym (contents_is n h.0.bytes long));
      is = l.is ∙ append_assoc front h.0.bytes l.bytes;
    }

body_complete : (size : ℕ) (front body number : List ℕ) → length body ≡ size → length number ≡ 4 → (x : List ℕ) × Runs (body_layout size front) (contents raw_kind body ++ (field (raw_kind 4) number ∷ [])) x
body_complete zero front [] number long four = (front ++ number, (takes_raw 3 number four, refl))
body_complete zero front (b ∷ body) number long four = absurd (omega arith)
body_complete (suc n) front body number long four = (
  (front ++ body) ++ number,
  subst (λ l. Runs (body_layout (suc n) front) (l ++ (field (raw_kind 4) number ∷ [])) ((front ++ body) ++ number)) (sym (contents_is n body long)) (takes_raw n body long, (takes_raw 3 number four, refl)),
)

-- A tag.

pub record TagSound (front : List ℕ) (fs : List Field) (x : List ℕ) : Type 0 where
  pub tag : Tag
  pub is_tag : IsTag tag
  pub fields : fs ≡ tag_fields tag
  pub is : x ≡ front ++ tag_bytes tag

regroup : (front k s t i z : List ℕ) → ((((front ++ k) ++ s) ++ t) ++ i) ++ z ≡ front ++ (k ++ (s ++ (t ++ (i ++ z))))
regroup front k s t i z = simp append_assoc

pub tag_sound : (front : List ℕ) (fs : List Field) (x : List ℕ) → AreBytes (flat fs) → Runs (tag_layout front) fs x → TagSound front fs x
tag_sound front fs x bytes r =
    let a = headed (raw_kind 1) (λ b. size_layout (front ++ b)) fs x r in
    let k = a.0.bytes in
    let b = headed (raw_kind 3) (λ s. time_layout (number24 s) ((front ++ k) ++ s)) a.1 x a.4 in
    let s = b.0.bytes in
    let c = headed (raw_kind 4) (λ t. stream_layout (number24 s) (((front ++ k) ++ s) ++ t)) b.1 x b.4 in
    let t = c.0.bytes in
    let d = headed (raw_kind 3) (λ i. body_layout (number24 s) ((((front ++ k) ++ s) ++ t) ++ i)) c.1 x c.4 in
    let i = d.0.bytes in
    let e = body_sound (number24 s) ((((front ++ k) ++ s) ++ t) ++ i) d.1 x d.4 in
    let one : k ≡ get_or k 0 0 ∷ [] = single k (size_of 1 (raw_kind 1) a.0 refl a.3) in
    let tag : Tag = record { kind = get_or k 0 0; size = s; time = t; stream = i; body = e.body; number = e.number } in
    let fields : fs ≡ tag_fields tag =
    a.2
    ∙ ap (λ f. f ∷ a.1) (taken (raw_kind 1) a.0 a.3 ∙ ap (field (raw_kind 1)) one)
    ∙ ap (λ l. field (raw_kind 1) (get_or k 0 0 ∷ []) ∷ l) (b.2 ∙ ap (λ f. f ∷ b.1) (taken (raw_kind 3) b.0 b.3)
    ∙ ap (λ l. field (raw_kind 3) s ∷ l) (c.2 ∙ ap (λ f. f ∷ c.1) (taken (raw_kind 4) c.0 c.3)
    ∙ ap (λ l. field (raw_kind 4) t ∷ l) (d.2 ∙ ap (λ f. f ∷ d.1) (taken (raw_kind 3) d.0 d.3)
    ∙ ap (λ l. field (raw_kind 3) i ∷ l) e.fields))) in
    record {
      tag = tag;
      is_tag = record {
        size = size_of 3 (raw_kind 3) b.0 refl b.3;
        time = size_of 4 (raw_kind 4) c.0 refl c.3;
        stream = size_of 3 (raw_kind 3) d.0 refl d.3;
        body = e.long;
        number = e.four;
        bytes = subst AreBytes (ap flat fields ∙ tag_flat tag) bytes;
      };
      fields = fields;
      is = e.is ∙ regroup front k s t i (e.body ++ e.number) ∙ ap (λ l. front ++ (l ++ (s ++ (t ++ (i ++ (e.body ++ e.number)))))) one;
    }

pub tag_complete : (front : List ℕ) (t : Tag) → IsTag t → (x : List ℕ) × Runs (tag_layout front) (tag_fields t) x
tag_complete front t h =
    let b = body_complete (number24 t.size) ((((front ++ (t.kind ∷ [])) ++ t.size) ++ t.time) ++ t.stream) t.body t.number h.body h.number in
    (b.0, (takes_raw 0 (t.kind ∷ []) refl, (takes_raw 2 t.size h.size, (takes_raw 3 t.time h.time, (takes_raw 2 t.stream h.stream, b.1)))))

-- Each start of one can be completed.

abbrev AllAble : Layout (List ℕ) → Type 0
AllAble t = (n : ℕ) → AbleWithin n t

able_more : (k : Kind) (next : List ℕ → Layout (List ℕ)) (f : Field) → Takes k f → AreBytes f.bytes → ((b : List ℕ) → AllAble (next b)) → AllAble (want k next)
able_more k next f t fb h n = able_want n n k next f t fb (h f.bytes 1 [] (next f.bytes) refl (omega arith)) (λ b w ok. h b n) (λ b i w lt. omega arith)

able_raw : (m : ℕ) (next : List ℕ → Layout (List ℕ)) → ((b : List ℕ) → AllAble (next b)) → AllAble (want (raw_kind (suc m)) next)
able_raw m next h = able_more (raw_kind (suc m)) next (field (raw_kind (suc m)) (zeros (suc m))) (takes_raw m (zeros (suc m)) (zeros_length (suc m))) (zeros_bytes (suc m)) h

able_number : (front : List ℕ) → AllAble (number_layout front)
able_number front = able_raw 3 (λ b. give (front ++ b)) (λ b n. able_give n (front ++ b))

able_body : (size : ℕ) (front : List ℕ) → AllAble (body_layout size front)
able_body zero front = able_number front
able_body (suc m) front = able_raw m (λ b. number_layout (front ++ b)) (λ b. able_number (front ++ b))

able_tag : (front : List ℕ) → AllAble (tag_layout front)
able_tag front =
    able_raw 0 (λ k. size_layout (front ++ k)) (λ k.
    able_raw 2 (λ s. time_layout (number24 s) ((front ++ k) ++ s)) (λ s.
    able_raw 3 (λ t. stream_layout (number24 s) (((front ++ k) ++ s) ++ t)) (λ t.
    able_raw 2 (λ i. body_layout (number24 s) ((((front ++ k) ++ s) ++ t) ++ i)) (λ i. able_body (number24 s) ((((front ++ k) ++ s) ++ t) ++ i)))))

pub tag_is_layout : (front : List ℕ) → IsLayout (λ n. tag_layout front) IsTagReading
tag_is_layout front = record {
  sound = λ n fs x bytes r. let s = tag_sound front fs x bytes r in (s.tag, s.is_tag, s.fields);
  complete = λ n fs p lt. let c = tag_complete front p.0 p.1 in (c.0, subst (λ l. Runs (tag_layout front) l c.0) (sym p.2) c.1);
  grows = λ n m le. extends_same (tag_layout front);
  able = λ n. able_tag front n;
}

-- The head.

exact_is : (reason : Reason) (bytes : List ℕ) (f : Field) → Takes (exact_kind reason bytes) f → f.bytes ≡ bytes
exact_is reason bytes f t = by (bytes_eq bytes f.bytes) refl t.clean
  where
    by : (b : Bool) → bytes_eq bytes f.bytes ≡ b → cond b None (Some reason) ≡ None → f.bytes ≡ bytes
    by true e c = sym ((bytes_eq-Decides bytes f.bytes).0 e)
    by false e c = absurd cc

exact_field : (reason : Reason) (bytes : List ℕ) (f : Field) → Takes (exact_kind reason bytes) f → f ≡ exactly reason bytes
exact_field reason bytes f t = taken (exact_kind reason bytes) f t ∙ ap (field (exact_kind reason bytes)) (exact_is reason bytes f t)

pub record HeadSound (front : List ℕ) (fs : List Field) (x : List ℕ) : Type 0 where
  pub head : Head
  pub is_head : IsHead head
  pub fields : fs ≡ head_fields head
  pub is : x ≡ front ++ head_bytes head

pub head_sound : (front : List ℕ) (fs : List Field) (x : List ℕ) → AreBytes (flat fs) → Runs (head_layout front) fs x → HeadSound front fs x
head_sound front fs x bytes r =
    let a = headed (exact_kind BadSignature (codes "FLV")) (λ b. version_layout (front ++ b)) fs x r in
    let s = a.0.bytes in
    let b = headed (exact_kind BadVersion (1 ∷ [])) (λ v. flags_layout ((front ++ s) ++ v)) a.1 x a.4 in
    let v = b.0.bytes in
    let c = headed (raw_kind 1) (λ g. offset_layout (((front ++ s) ++ v) ++ g)) b.1 x b.4 in
    let g = c.0.bytes in
    let d = headed (exact_kind BadLength (0 ∷ 0 ∷ 0 ∷ 9 ∷ [])) (λ o. number_layout ((((front ++ s) ++ v) ++ g) ++ o)) c.1 x c.4 in
    let o = d.0.bytes in
    let e = last (raw_kind 4) ((((front ++ s) ++ v) ++ g) ++ o) d.1 x d.4 in
    let one : g ≡ get_or g 0 0 ∷ [] = single g (size_of 1 (raw_kind 1) c.0 refl c.3) in
    let head : Head = record { flags = get_or g 0 0; number = e.bytes } in
    let fields : fs ≡ head_fields head =
    a.2
    ∙ ap (λ f. f ∷ a.1) (exact_field BadSignature (codes "FLV") a.0 a.3)
    ∙ ap (λ l. exactly BadSignature (codes "FLV") ∷ l) (b.2 ∙ ap (λ f. f ∷ b.1) (exact_field BadVersion (1 ∷ []) b.0 b.3)
    ∙ ap (λ l. exactly BadVersion (1 ∷ []) ∷ l) (c.2 ∙ ap (λ f. f ∷ c.1) (taken (raw_kind 1) c.0 c.3 ∙ ap (field (raw_kind 1)) one)
    ∙ ap (λ l. field (raw_kind 1) (get_or g 0 0 ∷ []) ∷ l) (d.2 ∙ ap (λ f. f ∷ d.1) (exact_field BadLength (0 ∷ 0 ∷ 0 ∷ 9 ∷ []) d.0 d.3)
    ∙ ap (λ l. exactly BadLength (0 ∷ 0 ∷ 0 ∷ 9 ∷ []) ∷ l) e.fields))) in
    record {
      head = head;
      is_head = record { number = size_of 4 (raw_kind 4) (field (raw_kind 4) e.bytes) refl e.takes; bytes = subst AreBytes (ap flat fields ∙ head_flat head) bytes };
      fields = fields;
      is = e.is ∙ regroup front s v g o e.bytes ∙ ap (λ l. front ++ (l ++ (v ++ (g ++ (o ++ e.bytes))))) (exact_is BadSignature (codes "FLV") a.0 a.3)
          ∙ ap (λ l. front ++ (codes "FLV" ++ (l ++ (g ++ (o ++ e.bytes))))) (exact_is BadVersion (1 ∷ []) b.0 b.3)
          ∙ ap (λ l. front ++ (codes "FLV" ++ (1 ∷ (l ++ (o ++ e.bytes))))) one
          ∙ ap (λ l. front ++ (codes "FLV" ++ (1 ∷ get_or g 0 0 ∷ (l ++ e.bytes)))) (exact_is BadLength (0 ∷ 0 ∷ 0 ∷ 9 ∷ []) d.0 d.3);
    }

takes_signature : Takes (exact_kind BadSignature (codes "FLV")) (exactly BadSignature (codes "FLV"))
takes_signature = record { is_kind = refl; is_whole = refl; clean = refl }

takes_version : Takes (exact_kind BadVersion (1 ∷ [])) (exactly BadVersion (1 ∷ []))
takes_version = record { is_kind = refl; is_whole = refl; clean = refl }

takes_offset : Takes (exact_kind BadLength (0 ∷ 0 ∷ 0 ∷ 9 ∷ [])) (exactly BadLength (0 ∷ 0 ∷ 0 ∷ 9 ∷ []))
takes_offset = record { is_kind = refl; is_whole = refl; clean = refl }

head_complete : (front : List ℕ) (h : Head) → IsHead h → (x : List ℕ) × Runs (head_layout front) (head_fields h) x
head_complete front h is = (_, (takes_signature, (takes_version, (takes_raw 0 (h.flags ∷ []) refl, (takes_offset, (takes_raw 3 h.number is.number, refl))))))

able_head : (front : List ℕ) → AllAble (head_layout front)
able_head front =
    able_more (exact_kind BadSignature (codes "FLV")) (λ s. version_layout (front ++ s)) (exactly BadSignature (codes "FLV")) takes_signature (omega arith, (omega arith, (omega arith, tt))) (λ s.
    able_more (exact_kind BadVersion (1 ∷ [])) (λ v. flags_layout ((front ++ s) ++ v)) (exactly BadVersion (1 ∷ [])) takes_version (omega arith, tt) (λ v.
    able_raw 0 (λ g. offset_layout (((front ++ s) ++ v) ++ g)) (λ g.
    able_more (exact_kind BadLength (0 ∷ 0 ∷ 0 ∷ 9 ∷ [])) (λ o. number_layout ((((front ++ s) ++ v) ++ g) ++ o)) (exactly BadLength (0 ∷ 0 ∷ 0 ∷ 9 ∷ [])) takes_offset (omega arith, (omega arith, (omega arith, (omega arith, tt)))) (λ o. able_number ((((front ++ s) ++ v) ++ g) ++ o)))))

pub head_is_layout : (front : List ℕ) → IsLayout (λ n. head_layout front) IsHeadReading
head_is_layout front = record {
  sound = λ n fs x bytes r. let s = head_sound front fs x bytes r in (s.head, s.is_head, s.fields);
  complete = λ n fs p lt. let c = head_complete front p.0 p.1 in (c.0, subst (λ l. Runs (head_layout front) l c.0) (sym p.2) c.1);
  grows = λ n m le. extends_same (head_layout front);
  able = λ n. able_head front n;
}
