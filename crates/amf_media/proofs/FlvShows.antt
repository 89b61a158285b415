-- What a metadata tag is listed as.
use Rattle.std.proofs.Common.{◌≡◌, ℕ, List, [], ◌∷◌, true, Ok, Err, None, refl, inr}
use Rattle.std.specs.Prelude.{codes}
use Rattle.amf_graph.specs.Rooted.{RootedArena, content}
use Rattle.amf_show.specs.Listing.{AppendsListing}
use Rattle.flv_meta.specs.File.{Tag, is_metadata, value_bytes}
use Rattle.flv_meta.specs.MetadataAnswer.{AnswersMetadata, SpellsFront}
use Rattle.flv_meta.specs.declared.meta_end.MetaEnd.{MetaEnd}
use Rattle.flv_meta.specs.declared.meta_end.MetaEnd.TheVariants as meta
use Rattle.amf_media.specs.Ends.{end_at_value}
use Rattle.flv_meta.specs.declared.flv_job.FlvJob.TheVariants as job
use Rattle.amf_media.specs.FlvSteps.{TagsGive, PutsTag}
use Rattle.amf_media.proofs.FlvTags.{shows_none, shows_one, tag_passed}
use Rattle.amf_media.proofs.Puts.{put_none}

pub shown_tag : (t : Tag) (g : RootedArena) (lines : List ℕ) → is_metadata t ≡ true → SpellsFront (content g) (value_bytes t) → AppendsListing (content g) (codes "meta\n") lines → TagsGive job.Show (t ∷ []) lines
shown_tag t g lines e s l = shows_one t lines e (record { graph = content g; spelled = s; listed = l })

pub unshown_tag : (t : Tag) (at : ℕ) (told : Type 0) (held waiting : List ℕ) (done : Unit {0}) → AnswersMetadata t at (Ok None) → PutsTag job.Show t at told held held waiting waiting (Ok done)
unshown_tag t at told held waiting done a = tag_passed job.Show t at told held waiting done (shows_none t a)

pub ended_tag : (t : Tag) (at : ℕ) (told : Type 0) (held waiting : List ℕ) (e : MetaEnd) → AnswersMetadata t at (Err e) → PutsTag job.Show t at told held held waiting waiting (Err (end_at_value e))
ended_tag t at told held waiting (meta.Refused f) a = (refl, a.0, a.1, λ y. put_none held waiting)
ended_tag t at told held waiting meta.Memory a = inr (λ y. refl)
