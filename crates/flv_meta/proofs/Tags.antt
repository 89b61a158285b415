-- The fields of a head, of a tag and of a file, and their bytes.
use Rattle.std.proofs.Common.{◌≡◌, ℕ, zero, suc, List, [], ◌∷◌, ◌++◌, length, get_or, Some, refl, sym, ap, ◌∙◌, arith, subst}
use Rattle.std.specs.Prelude.{flat_map}
use Rattle.std.proofs.lemmas.List.{append-nil}
use Rattle.amf_io.specs.Field.{Field, Kind, field, fixed, flat, whole, raw_kind, contents, AreBytes}
use Rattle.amf_io.specs.Layout.{Takes}
use Rattle.amf_io.proofs.Paths.{flat-append}
use Rattle.amf_io.proofs.Whole.{whole_fixed}
use Rattle.flv_meta.specs.File.{Head, Tag, File, head_bytes, tag_bytes, file_bytes}
use Rattle.flv_meta.specs.Fields.{head_fields, tag_fields, file_fields}
use Rattle.amf_io.proofs.FieldReads.{fits}

pub flat_contents : (bytes : List ℕ) → flat (contents raw_kind bytes) ≡ bytes
flat_contents [] = refl
flat_contents (b ∷ bytes) = append-nil (b ∷ bytes)

pub tag_flat : (t : Tag) → flat (tag_fields t) ≡ tag_bytes t
tag_flat t =
    ap (λ z. t.kind ∷ (t.size ++ (t.time ++ (t.stream ++ z))))
    (flat-append (contents raw_kind t.body) (field (raw_kind 4) t.number ∷ []) ∙ (ap (λ z. z ++ (t.number ++ [])) (flat_contents t.body) ∙ ap (λ z. t.body ++ z) (append-nil t.number)))

pub tags_flat : (tags : List Tag) → flat (flat_map tag_fields tags) ≡ flat_map tag_bytes tags
tags_flat [] = refl
tags_flat (t ∷ tags) = flat-append (tag_fields t) (flat_map tag_fields tags) ∙ (ap (λ z. z ++ flat (flat_map tag_fields tags)) (tag_flat t) ∙ ap (λ z. tag_bytes t ++ z) (tags_flat tags))

pub head_flat : (h : Head) → flat (head_fields h) ≡ head_bytes h
head_flat h = ap (λ z. 70 ∷ 76 ∷ 86 ∷ 1 ∷ h.flags ∷ 0 ∷ 0 ∷ 0 ∷ 9 ∷ z) (append-nil h.number)

pub file_flat : (f : File) → flat (file_fields f) ≡ file_bytes f
file_flat f = flat-append (head_fields f.head) (flat_map tag_fields f.tags) ∙ (ap (λ z. z ++ flat (flat_map tag_fields f.tags)) (head_flat f.head) ∙ ap (λ z. head_bytes f.head ++ z) (tags_flat f.tags))

-- A field that is taken.

pub taken : (k : Kind) (f : Field) → Takes k f → f ≡ field k f.bytes
taken k f t = ap (λ j. field j f.bytes) t.is_kind

pub takes_raw : (n : ℕ) (bytes : List ℕ) → length bytes ≡ suc n → Takes (raw_kind (suc n)) (field (raw_kind (suc n)) bytes)
takes_raw n bytes e = record { is_kind = refl; is_whole = fits n bytes e; clean = refl }

pub size_of : (n : ℕ) (r : Kind) (f : Field) → r.size ≡ fixed n → Takes r f → length f.bytes ≡ n
size_of n r f e t = sym (whole_fixed n f.bytes (length f.bytes) (subst (λ s. whole s f.bytes ≡ Some (length f.bytes)) e t.is_whole))

pub contents_is : (n : ℕ) (bytes : List ℕ) → length bytes ≡ suc n → contents raw_kind bytes ≡ field (raw_kind (suc n)) bytes ∷ []
contents_is n [] e = absurd (omega arith)
contents_is n (b ∷ bytes) e = let same : suc (length bytes) ≡ suc n = e in ap (λ m. field (raw_kind m) (b ∷ bytes) ∷ []) same

pub single : (bytes : List ℕ) → length bytes ≡ 1 → bytes ≡ get_or bytes 0 0 ∷ []
single [] e = absurd (omega arith)
single (b ∷ []) e = refl
single (b ∷ c ∷ bytes) e = absurd (omega arith)

-- zeros, by which fields of a fixed size can be filled in

pub zeros : ℕ → List ℕ
zeros zero = []
zeros (suc n) = 0 ∷ zeros n

pub zeros_length : (n : ℕ) → length (zeros n) ≡ n
unfolding zeros
zeros_length zero = refl
zeros_length (suc n) = ap suc (zeros_length n)

pub zeros_bytes : (n : ℕ) → AreBytes (zeros n)
unfolding zeros
zeros_bytes zero = tt
zeros_bytes (suc n) = (omega arith, zeros_bytes n)
