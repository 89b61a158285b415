-- What is told of a tag, from what is told of the bytes behind its name.
use Rattle.std.proofs.Common.{◌≡◌, ℕ, ◌+◌, ◌<◌, ◌^◌, true, List, length, sym, ap, subst, arith, add-zero, Ok, Err, Some}
use Rattle.std.proofs.lemmas.List.{length-drop}
use Rattle.amf_io.specs.declared.reason.Reason.{Reason}
use Rattle.amf_io.specs.Verdict.{IsRefused}
use Rattle.amf_graph.specs.Rooted.{RootedArena, content}
use Rattle.amf0_spelling.specs.Values0.{IsValue0}
use Rattle.flv_meta.specs.declared.meta_end.MetaEnd.TheVariants.{Refused}
use Rattle.flv_meta.specs.File.{Tag, IsTag, tag_bytes, is_metadata, value_bytes}
use Rattle.flv_meta.specs.MetadataAnswer.{SpellsFront, AnswersMetadata, value_place}
use Rattle.amf_io.proofs.Moved.{refusal_moved, refusal_within}
use Rattle.flv_meta.proofs.TagParts.{long, value_length}
use Rattle.flv_meta.proofs.ValueReads.{body_small}

pub value_small : (t : Tag) → IsTag t → (part : List ℕ) → part ≡ value_bytes t → length part < 2 ^ 24
value_small t h part e = let n = body_small t h in omega (arith, ap length e, length-drop 13 t.body)

pub value_told : (t : Tag) (at : ℕ) (part : List ℕ) (g : RootedArena) → is_metadata t ≡ true → part ≡ value_bytes t → SpellsFront (content g) part → AnswersMetadata t at (Ok (Some g))
value_told t at part g y e s = (y, subst (SpellsFront (content g)) e s)

-- the place of a refusal, moved, ends within the tag
pub place_fits : (t : Tag) → IsTag t → (bytes : List ℕ) → bytes ≡ tag_bytes t → (at k : ℕ) (r : Reason) (part : List ℕ) → is_metadata t ≡ true → part ≡ value_bytes t → at + length bytes < 2 ^ 32 → IsRefused IsValue0 0 (length part) part r k → at + 24 + k < 2 ^ 32
place_fits t h bytes b at k r part y e lt x =
    let w = refusal_within IsValue0 0 (length part) k part r x in
    omega (arith, long t h bytes b, value_length t y, ap length e)

pub refusal_told : (t : Tag) (at : ℕ) (part : List ℕ) (r : Reason) (k place : ℕ) → is_metadata t ≡ true → part ≡ value_bytes t → place ≡ at + 24 + k → IsRefused IsValue0 0 (length part) part r k → AnswersMetadata t at (Err (Refused (record { reason = r; at = place })))
refusal_told t at part r k place y e p x =
    let moved = refusal_moved IsValue0 (at + 24) 0 (length part) k part r x in
    let based = subst (λ n. IsRefused IsValue0 n (at + 24 + length part) part r (at + 24 + k)) (add-zero (at + 24)) moved in
    let placed = subst (IsRefused IsValue0 (at + 24) (at + 24 + length part) part r) (sym p) based in
    (y, subst (λ l. IsRefused IsValue0 (value_place at) (value_place at + length l) l r place) e placed)
