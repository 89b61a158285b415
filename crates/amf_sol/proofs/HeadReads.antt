-- How the parts of a shared object file before its pairs are joined.
use Rattle.std.proofs.Common.{◌≡◌, ℕ, zero, suc, Bool, true, false, cond, List, [], ◌∷◌, ◌++◌, length, Some, None, refl, sym, ap, ◌∙◌, subst, arith, Result, Ok, Err}
use Rattle.std.proofs.lemmas.Slice.Eq.{bytes_eq-Decides}
use Rattle.std.specs.Prelude.{bytes_eq, codes, slice_index}
use Rattle.std.specs.Int.{from_be_bytes, w16, w32}
use mathlib.Core.Path.{fun_ext}
use Rattle.amf_io.specs.declared.window.Window.{Window}
use Rattle.amf_io.specs.declared.cursor.Cursor.{Cursor}
use Rattle.amf_io.specs.declared.reason.Reason.TheVariants.{BadSignature, BadPadding, BadVersion}
use Rattle.amf_io.specs.declared.ends.ReadEnd.{ReadEnd}
use Rattle.amf_io.specs.ReadEnds.{IsPlaced, GoesBy}
use Rattle.amf_io.specs.CursorReads.{Answers, AnswersField, Ends, EndsField}
use Rattle.amf_io.specs.Field.{fixed, whole, text_kind, u16_kind, u32_kind, no_refusal}
use Rattle.amf_io.specs.Layout.{give, want, bind}
use Rattle.amf_io.proofs.CursorReads.{gives, then_reads, end_reads, field_reads, field_ended}
use Rattle.amf_io.proofs.Whole.{whole_fixed}
use Rattle.amf3_layout_laws.specs.Layout3Words.{chunk}
use Rattle.amf0_layout_laws.specs.Layout0.{new_text0, short_layout}
use Rattle.amf_sol.specs.declared.head.Head.{Head}
use Rattle.amf_sol.specs.declared.sol_version.SolVersion.{SolVersion}
use Rattle.amf_sol.specs.declared.sol_version.SolVersion.TheVariants.{Amf0, Amf3}
use Rattle.amf_sol.specs.SharedObject.{exact_kind, version_kind}
use Rattle.amf_sol.specs.FileLayout.{FileState, file, no_pairs, version_of, behind_name}
use Rattle.amf_sol.specs.FileReading.{exact_layout, length_layout, name_layout, version_layout, rest_layout, end_layout}

one_byte : (x : List ℕ) → whole (fixed 1) x ≡ Some (length x) → x ≡ slice_index x 0 ∷ []
one_byte x w = by x (whole_fixed 1 x (length x) w)
  where
    by : (x : List ℕ) → 1 ≡ length x → x ≡ slice_index x 0 ∷ []
    by [] e = absurd (omega arith)
    by (y ∷ []) e = refl
    by (y ∷ z ∷ x) e = absurd (omega arith)

-- a name ends where its contents do
chunk_bind : (n : ℕ) → bind (chunk text_kind n (λ x. give (new_text0 no_pairs x))) (λ x. behind_name x.bytes) ≡ bind (chunk text_kind n (λ x. give x)) behind_name
chunk_bind zero = refl
chunk_bind (suc n) = refl

name_bind : bind (short_layout no_pairs) (λ x. behind_name x.bytes) ≡ bind name_layout behind_name
name_bind = ap (want (u16_kind no_refusal)) (fun_ext λ b. chunk_bind (from_be_bytes w16 b))

abbrev signature_bytes : List ℕ
signature_bytes = codes "TCSO" ++ 0x00 ∷ 0x04 ∷ 0x00 ∷ 0x00 ∷ 0x00 ∷ 0x00 ∷ []

not_equal : (m n : ℕ) → (n ≡ m → ⊥) → bytes_eq (m ∷ []) (n ∷ []) ≡ false
not_equal m n h = by (bytes_eq (m ∷ []) (n ∷ [])) refl
  where
    by : (b : Bool) → bytes_eq (m ∷ []) (n ∷ []) ≡ b → b ≡ false
    by true e = let same : (m ∷ []) ≡ (n ∷ []) = (bytes_eq-Decides (m ∷ []) (n ∷ [])).0 e in absurd (h cc)
    by false e = refl

self_equal : (m : ℕ) → bytes_eq (m ∷ []) (m ∷ []) ≡ true
self_equal m = (bytes_eq-Decides (m ∷ []) (m ∷ [])).1 refl

clean0 : version_kind.refusal (0 ∷ []) ≡ None
clean0 = ap (λ b. cond b None (cond (bytes_eq (3 ∷ []) (0 ∷ [])) None (Some BadVersion))) (self_equal 0)

clean3 : version_kind.refusal (3 ∷ []) ≡ None
clean3 = ap (λ b. cond b None (cond (bytes_eq (3 ∷ []) (3 ∷ [])) None (Some BadVersion))) (not_equal 0 3 (λ e. omega arith)) ∙ ap (λ b. cond b None (Some BadVersion)) (self_equal 3)

module _ {S : Type 0} (tells : S → Type 0) (left : S → List ℕ) (faults : S → ℕ) where
  abbrev bytes_of : List ℕ → List ℕ
  bytes_of x = x

  -- The length.

  -- what stands behind the signature
  pub length_behind : (c d e : Cursor S Window) (r : Result ℕ ReadEnd) → GoesBy {X = Unit {0}} tells left faults c d (Ok tt) → Answers tells left (λ (u : Unit {0}). u) (exact_layout BadSignature (0x00 ∷ 0xBF ∷ [])) c d (Ok tt) → Answers tells left (λ (n : ℕ). n) (want (u32_kind no_refusal) (λ b. give (from_be_bytes w32 b))) d e r → Answers tells left (λ (n : ℕ). n) length_layout c e r
  length_behind c d e r g a b = then_reads tells left faults (λ (u : Unit {0}). u) (λ (n : ℕ). n) (exact_layout BadSignature (0x00 ∷ 0xBF ∷ [])) (λ u. want (u32_kind no_refusal) (λ b. give (from_be_bytes w32 b))) c d e tt r g a b

  pub four_read : (d e : Cursor S Window) (x : List ℕ) (n : ℕ) → GoesBy tells left faults d e (Ok x) → AnswersField tells left bytes_of (fixed 4) d e (Ok x) → IsPlaced e → n ≡ from_be_bytes w32 x → Answers tells left (λ (n : ℕ). n) (want (u32_kind no_refusal) (λ b. give (from_be_bytes w32 b))) d e (Ok n)
  four_read d e x n g a p is = field_reads tells left faults bytes_of (λ (n : ℕ). n) (u32_kind no_refusal) (λ b. give (from_be_bytes w32 b)) d e e x (Ok n) g a refl (gives tells left faults (λ (n : ℕ). n) e n (from_be_bytes w32 x) p is)

  pub length_ended : (c d : Cursor S Window) (end : ReadEnd) → Ends tells left (exact_layout BadSignature (0x00 ∷ 0xBF ∷ [])) c d end → Ends tells left length_layout c d end
  length_ended c d end a = end_reads tells left faults (exact_layout BadSignature (0x00 ∷ 0xBF ∷ [])) (λ u. want (u32_kind no_refusal) (λ b. give (from_be_bytes w32 b))) c d end a

  -- A name.

  pub name_reads : (c d e : Cursor S Window) (x : List ℕ) (r : Result (List ℕ) ReadEnd) → GoesBy tells left faults c d (Ok x) → AnswersField tells left bytes_of (fixed 2) c d (Ok x) → Answers tells left bytes_of (chunk text_kind (from_be_bytes w16 x) (λ y. give y)) d e r → Answers tells left bytes_of name_layout c e r
  name_reads c d e x r g a b = field_reads tells left faults bytes_of bytes_of (u16_kind no_refusal) (λ b. chunk text_kind (from_be_bytes w16 b) (λ x. give x)) c d e x r g a refl b

  pub name_cut : (c d : Cursor S Window) (end : ReadEnd) → EndsField tells left (fixed 2) c d end → Ends tells left name_layout c d end
  name_cut c d end a = field_ended tells left faults (u16_kind no_refusal) (λ b. chunk text_kind (from_be_bytes w16 b) (λ x. give x)) c d end a

  -- A version.

  abbrev same_version : SolVersion → SolVersion
  same_version v = v

  version_by : (c d : Cursor S Window) (x : List ℕ) (n : ℕ) (v : SolVersion) → GoesBy tells left faults c d (Ok x) → AnswersField tells left bytes_of (fixed 1) c d (Ok x) → IsPlaced d → slice_index x 0 ≡ n → version_kind.refusal (n ∷ []) ≡ None → version_of (n ∷ []) ≡ v → Answers tells left same_version version_layout c d (Ok v)
  version_by c d x n v g a p e clean is =
      let bytes : x ≡ n ∷ [] = one_byte x a.is_whole ∙ ap (λ k. k ∷ []) e in
      field_reads tells left faults bytes_of same_version version_kind (λ b. give (version_of b)) c d d x (Ok v) g a (ap version_kind.refusal bytes ∙ clean)
      (gives tells left faults same_version d v (version_of x) p (sym (ap version_of bytes ∙ is)))

  pub version_is0 : (c d : Cursor S Window) (x : List ℕ) → GoesBy tells left faults c d (Ok x) → AnswersField tells left bytes_of (fixed 1) c d (Ok x) → IsPlaced d → slice_index x 0 ≡ 0 → Answers tells left same_version version_layout c d (Ok Amf0)
  version_is0 c d x g a p e = version_by c d x 0 Amf0 g a p e clean0 refl

  pub version_is3 : (c d : Cursor S Window) (x : List ℕ) → GoesBy tells left faults c d (Ok x) → AnswersField tells left bytes_of (fixed 1) c d (Ok x) → IsPlaced d → slice_index x 0 ≡ 3 → Answers tells left same_version version_layout c d (Ok Amf3)
  version_is3 c d x g a p e = version_by c d x 3 Amf3 g a p e clean3 refl

  pub version_cut : (c d : Cursor S Window) (end : ReadEnd) → EndsField tells left (fixed 1) c d end → Ends tells left version_layout c d end
  version_cut c d end a = field_ended tells left faults version_kind (λ b. give (version_of b)) c d end a

  -- The end of a pair.

  pub end_came : (c d : Cursor S Window) (x : List ℕ) → GoesBy tells left faults c d (Ok x) → AnswersField tells left bytes_of (fixed 1) c d (Ok x) → IsPlaced d → slice_index x 0 ≡ 0 → Answers tells left (λ (u : Unit {0}). u) end_layout c d (Ok tt)
  end_came c d x g a p e =
      let bytes : x ≡ 0 ∷ [] = one_byte x a.is_whole ∙ ap (λ k. k ∷ []) e in
      field_reads tells left faults bytes_of (λ (u : Unit {0}). u) (exact_kind BadPadding (0 ∷ [])) (λ fixed. give tt) c d d x (Ok tt) g a
      (ap (exact_kind BadPadding (0 ∷ [])).refusal bytes ∙ ap (λ b. cond b None (Some BadPadding)) (self_equal 0)) (gives tells left faults (λ (u : Unit {0}). u) d tt tt p refl)

  pub end_cut : (c d : Cursor S Window) (end : ReadEnd) → EndsField tells left (fixed 1) c d end → Ends tells left end_layout c d end
  end_cut c d end a = field_ended tells left faults (exact_kind BadPadding (0 ∷ [])) (λ fixed. give tt) c d end a

  -- What stands behind the length, part by part.

  abbrev itself : FileState → FileState
  itself f = f

  pub signature_ended : (c d : Cursor S Window) (end : ReadEnd) → Ends tells left (exact_layout BadSignature signature_bytes) c d end → Ends tells left rest_layout c d end
  signature_ended c d end a = end_reads tells left faults (exact_layout BadSignature signature_bytes) (λ u. bind (short_layout no_pairs) (λ x. behind_name x.bytes)) c d end a

  module _ (c d : Cursor S Window) (g : GoesBy {X = Unit {0}} tells left faults c d (Ok tt)) (a : Answers tells left (λ (u : Unit {0}). u) (exact_layout BadSignature signature_bytes) c d (Ok tt)) where
    behind_signature : {Z : Type 0} (view : Z → FileState) (e : Cursor S Window) (r : Result Z ReadEnd) → Answers tells left view (bind name_layout behind_name) d e r → Answers tells left view rest_layout c e r
    behind_signature view e r h = then_reads tells left faults (λ (u : Unit {0}). u) view (exact_layout BadSignature signature_bytes) (λ u. bind (short_layout no_pairs) (λ x. behind_name x.bytes)) c d e tt r g a (subst (λ t. Answers tells left view t d e r) (sym name_bind) h)

    pub name_ended : (e : Cursor S Window) (end : ReadEnd) → Ends tells left name_layout d e end → Ends tells left rest_layout c e end
    name_ended e end h = behind_signature itself e (Err end) (end_reads tells left faults name_layout behind_name d e end h)

    module _ (name : List ℕ) (e : Cursor S Window) (gn : GoesBy tells left faults d e (Ok name)) (an : Answers tells left bytes_of name_layout d e (Ok name)) where
      behind_the_name : {Z : Type 0} (view : Z → FileState) (f : Cursor S Window) (r : Result Z ReadEnd) → Answers tells left view (behind_name name) e f r → Answers tells left view rest_layout c f r
      behind_the_name view f r h = behind_signature view f r (then_reads tells left faults bytes_of view name_layout behind_name d e f name r gn an h)

      pub padding_ended : (f : Cursor S Window) (end : ReadEnd) → Ends tells left (exact_layout BadPadding (0 ∷ 0 ∷ 0 ∷ [])) e f end → Ends tells left rest_layout c f end
      padding_ended f end h = behind_the_name itself f (Err end) (end_reads tells left faults (exact_layout BadPadding (0 ∷ 0 ∷ 0 ∷ [])) (λ u. want version_kind (λ b. give (file (version_of b) name no_pairs))) e f end h)

      module _ (f : Cursor S Window) (gp : GoesBy {X = Unit {0}} tells left faults e f (Ok tt)) (ap_ : Answers tells left (λ (u : Unit {0}). u) (exact_layout BadPadding (0 ∷ 0 ∷ 0 ∷ [])) e f (Ok tt)) where
        behind_padding : {Z : Type 0} (view : Z → FileState) (h : Cursor S Window) (r : Result Z ReadEnd) → Answers tells left view (bind version_layout (λ v. give (file v name no_pairs))) f h r → Answers tells left view rest_layout c h r
        behind_padding view h r y = behind_the_name view h r (then_reads tells left faults (λ (u : Unit {0}). u) view (exact_layout BadPadding (0 ∷ 0 ∷ 0 ∷ [])) (λ u. want version_kind (λ b. give (file (version_of b) name no_pairs))) e f h tt r gp ap_ y)

        pub version_ended : (h : Cursor S Window) (end : ReadEnd) → Ends tells left version_layout f h end → Ends tells left rest_layout c h end
        version_ended h end y = behind_padding itself h (Err end) (end_reads tells left faults version_layout (λ v. give (file v name no_pairs)) f h end y)

        pub head_read : (h : Cursor S Window) (v : SolVersion) → GoesBy tells left faults f h (Ok v) → Answers tells left same_version version_layout f h (Ok v) → IsPlaced h → Answers tells left (λ (x : Head). file x.version x.name no_pairs) rest_layout c h (Ok (record { name = name; version = v }))
        head_read h v gv av p =
            let x : Head = record { name = name; version = v } in
            behind_padding (λ (x : Head). file x.version x.name no_pairs) h (Ok x) (then_reads tells left faults same_version (λ (x : Head). file x.version x.name no_pairs) version_layout (λ v. give (file v name no_pairs)) f h h v (Ok x) gv av
            (gives tells left faults (λ (x : Head). file x.version x.name no_pairs) h x (file v name no_pairs) p refl))
