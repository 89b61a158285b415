-- The laws of metadata.
use Rattle.std.proofs.Common.{◌≡◌, ℕ, ◌+◌, ◌^◌, ◌/◌, ◌%◌, ◌<◌, true, false, List, [], ◌∷◌, ◌++◌, length, drop, refl, sym, ◌∙◌, ap, arith}
use Rattle.std.specs.Prelude.{Bool, filter, map}
use Rattle.std.specs.List.{AllByRecursion}
use Rattle.std.specs.Int.{from_be_bytes, to_be_bytes, w32}
use Rattle.std.proofs.lemmas.Nat.{from_be_bytes-to_be_bytes_4}
use Rattle.amf_io.specs.Field.{AreBytes}
use Rattle.amf_io.proofs.Bytes.{bytes_append}
use Rattle.flv_meta.specs.File.{Tag, IsTag, number24, is_metadata, value_bytes, other_tags, metadata_tag}
use Rattle.flv_meta.specs.MetadataLaws.{MetadataHolds}
use Rattle.flv_meta.proofs.Tags.{file_flat}

twice : (tags : List Tag) → other_tags (other_tags tags) ≡ other_tags tags
twice [] = refl
twice (t ∷ tags) = go (is_metadata t) refl (twice tags)
  where
    go : (b : Bool) → is_metadata t ≡ b → other_tags (other_tags tags) ≡ other_tags tags → other_tags (other_tags (t ∷ tags)) ≡ other_tags (t ∷ tags)
    go true e ih = rw e ih
    go false e ih = rw e (rw e (ap (λ z. t ∷ z) ih))

none_left : (tags : List Tag) → filter is_metadata (other_tags tags) ≡ []
none_left [] = refl
none_left (t ∷ tags) = go (is_metadata t) refl (none_left tags)
  where
    go : (b : Bool) → is_metadata t ≡ b → filter is_metadata (other_tags tags) ≡ [] → filter is_metadata (other_tags (t ∷ tags)) ≡ []
    go true e ih = rw e ih
    go false e ih = rw e (rw e ih)

others_are_tags : (tags : List Tag) → AllByRecursion IsTag tags → AllByRecursion IsTag (other_tags tags)
others_are_tags [] all = tt
others_are_tags (t ∷ tags) all = go (is_metadata t) refl (others_are_tags tags all.1)
  where
    go : (b : Bool) → is_metadata t ≡ b → AllByRecursion IsTag (other_tags tags) → AllByRecursion IsTag (other_tags (t ∷ tags))
    go true e ih = rw e ih
    go false e ih = rw e (all.0, ih)

size_bytes : (n : ℕ) → n < 2 ^ 24 → n ≡ number24 (drop 1 (to_be_bytes w32 n))
size_bytes n less =
    let wide : n < 2 ^ 32 = omega arith in
    let high : n / 16777216 % 256 ≡ 0 = omega arith in
    sym (from_be_bytes-to_be_bytes_4 n wide) ∙ ap (λ z. from_be_bytes w32 (z ∷ drop 1 (to_be_bytes w32 n))) high

word_bytes : (n : ℕ) → AreBytes (to_be_bytes w32 n)
word_bytes n = (omega arith, (omega arith, (omega arith, (omega arith, tt))))

low_bytes : (n : ℕ) → AreBytes (drop 1 (to_be_bytes w32 n))
low_bytes n = (omega arith, (omega arith, (omega arith, tt)))

name_bytes : (value : List ℕ) → AreBytes value → AreBytes ((metadata_tag value).body)
name_bytes value h =
    (omega arith, (omega arith, (omega arith, (omega arith, (omega arith, (omega arith, (omega arith, (omega arith, (omega arith, (omega arith, (omega arith, (omega arith, (omega arith, h)))))))))))))

new_is_tag : (value : List ℕ) → 13 + length value < 2 ^ 24 → AreBytes value → IsTag (metadata_tag value)
new_is_tag value less bytes = record {
  size = refl;
  time = refl;
  stream = refl;
  body = (let e = size_bytes (13 + length value) less in omega arith);
  number = refl;
  bytes = (
    omega arith,
    bytes_append (drop 1 (to_be_bytes w32 (13 + length value))) ((metadata_tag value).time ++ ((metadata_tag value).stream ++ ((metadata_tag value).body ++ (metadata_tag value).number))) (low_bytes (13 + length value))
        (omega arith, (omega arith, (omega arith, (omega arith, (omega arith, (omega arith, (omega arith, bytes_append ((metadata_tag value).body) (to_be_bytes w32 (24 + length value)) (name_bytes value bytes) (word_bytes (24 + length value))))))))),
  );
}

pub metadata_holds : MetadataHolds
metadata_holds f value other = record {
  drop_drop = ap (λ z. record f { tags = z }) (twice f.tags);
  drop_set = ap (λ z. record f { tags = z }) (twice f.tags);
  set_drop = ap (λ z. record f { tags = metadata_tag value ∷ z }) (twice f.tags);
  set_set = ap (λ z. record f { tags = metadata_tag value ∷ z }) (twice f.tags);
  of_dropped = ap (map value_bytes) (none_left f.tags);
  of_set = ap (λ z. value ∷ map value_bytes z) (none_left f.tags);
  drop_is_file = λ is. record { head = is.head; tags = others_are_tags f.tags is.tags };
  set_is_file = λ less bytes is. record { head = is.head; tags = (new_is_tag value less bytes, others_are_tags f.tags is.tags) };
  fields_are_bytes = file_flat f;
}
