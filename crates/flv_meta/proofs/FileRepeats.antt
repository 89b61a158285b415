-- FLV files are a format that repeats a step: a head, and then tags.
use Rattle.std.proofs.Common.{◌≡◌, ℕ, zero, suc, List, [], ◌∷◌, ◌++◌, length, refl, ap, ◌∙◌, subst}
use Rattle.std.specs.Prelude.{flat_map}
use Rattle.std.specs.List.{AllByRecursion}
use Rattle.amf_io.specs.Field.{Field}
use Rattle.amf_io.specs.Layout.{Layout, give, IsLayout}
use Rattle.amf_io.specs.Repeated.{steps, after_head, IsRepeated, AnyNumber}
use Rattle.amf_io.proofs.Combine.{Both, both, Times, nothing}
use Rattle.flv_meta.specs.File.{Tag, IsTag}
use Rattle.flv_meta.specs.Fields.{head_fields, tag_fields, IsHeadReading, IsTagReading, IsFileReading}
use Rattle.flv_meta.specs.FileLayout.{head_layout, tag_layout, HasTags}
use Rattle.flv_meta.proofs.TagLayouts.{tag_is_layout, head_is_layout}

-- two formats that accept the same lists have the same layouts
layout_as : {X : Type 0} (t : ℕ → Layout X) (P Q : List Field → Type 0) → ((fs : List Field) → P fs → Q fs) → ((fs : List Field) → Q fs → P fs) → IsLayout t P → IsLayout t Q
layout_as t P Q to back a = record {
  sound = λ n fs x bytes r. to fs (a.sound n fs x bytes r);
  complete = λ n fs q lt. a.complete n fs (back fs q) lt;
  grows = a.grows;
  able = a.able;
}

tags_layout : (m : ℕ) (front : List ℕ) → IsLayout (λ n. steps tag_layout m front) (Times m IsTagReading)
tags_layout zero front = nothing front
tags_layout (suc m) front = both (λ n. tag_layout front) (λ n u. steps tag_layout m u) IsTagReading (Times m IsTagReading) (tag_is_layout front) (λ u. tags_layout m u)

-- so many tags
record Tags (m : ℕ) (fs : List Field) : Type 0 where
  pub tags : List Tag
  pub are_tags : AllByRecursion IsTag tags
  pub many : length tags ≡ m
  pub fields : fs ≡ flat_map tag_fields tags

tags_of : (m : ℕ) (fs : List Field) → Times m IsTagReading fs → Tags m fs
tags_of zero fs e = record { tags = []; are_tags = tt; many = refl; fields = e }
tags_of (suc m) fs b =
    let t = b.first in
    let more = tags_of m b.back b.second in
    record {
      tags = t.0 ∷ more.tags;
      are_tags = (t.1, more.are_tags);
      many = ap suc more.many;
      fields = b.parts ∙ ap (λ l. l ++ b.back) t.2 ∙ ap (λ l. tag_fields t.0 ++ l) more.fields;
    }

of_tags : (tags : List Tag) → AllByRecursion IsTag tags → Times (length tags) IsTagReading (flat_map tag_fields tags)
of_tags [] all = refl
of_tags (t ∷ tags) all = record { front = tag_fields t; back = flat_map tag_fields tags; parts = refl; first = (t, all.0, refl); second = of_tags tags all.1 }

file_of : (m : ℕ) (fs : List Field) → Both IsHeadReading (Times m IsTagReading) fs → HasTags m fs
file_of m fs b =
    let h = b.first in
    let t = tags_of m b.back b.second in (
      record { head = h.0; tags = t.tags },
      record { head = h.1; tags = t.are_tags },
      t.many,
      b.parts ∙ ap (λ l. l ++ b.back) h.2 ∙ ap (λ l. head_fields h.0 ++ l) t.fields,
    )

of_file : (m : ℕ) (fs : List Field) → HasTags m fs → Both IsHeadReading (Times m IsTagReading) fs
of_file m fs (f, is, many, e) = record {
  front = head_fields f.head;
  back = flat_map tag_fields f.tags;
  parts = e;
  first = (f.head, is.head, refl);
  second = subst (λ k. Times k IsTagReading (flat_map tag_fields f.tags)) many (of_tags f.tags is.tags);
}

pub file_layouts : (m : ℕ) → IsLayout (λ n. after_head (head_layout []) tag_layout m) (HasTags m)
file_layouts m =
    layout_as (λ n. after_head (head_layout []) tag_layout m) (Both IsHeadReading (Times m IsTagReading)) (HasTags m) (file_of m) (of_file m)
    (both (λ n. head_layout []) (λ n s. steps tag_layout m s) IsHeadReading (Times m IsTagReading) (head_is_layout []) (λ s. tags_layout m s))

tag_takes : (front x : List ℕ) → tag_layout front ≡ give x → ⊥
tag_takes front x e = cc

pub files_repeat : IsRepeated (λ n. head_layout []) (λ n. tag_layout) HasTags
files_repeat = record { layouts = file_layouts; takes = λ n front x e. tag_takes front x e }

-- a file has some number of tags
pub some_tags : (fs : List Field) → IsFileReading fs → AnyNumber HasTags fs
some_tags fs (f, is, e) = (length f.tags, (f, is, refl, e))

pub any_tags : (fs : List Field) → AnyNumber HasTags fs → IsFileReading fs
any_tags fs (m, (f, is, many, e)) = (f, is, e)
