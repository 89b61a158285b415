-- A head and tags that were read are a file; and the end of the reading is the verdict on it.
use Rattle.std.proofs.Common.{◌≡◌, ℕ, ◌+◌, ◌≤◌, ◌<◌, leb, Bool, true, false, List, [], ◌∷◌, ◌++◌, length, Result, Ok, Err, refl, sym, ap, ◌∙◌, arith, subst, inl, inr, ◌⊎◌, append_assoc, length-append}
use Rattle.std.specs.Prelude.{flat_map}
use Rattle.std.specs.List.{AllByRecursion}
use Rattle.std.proofs.lemmas.List.{append-nil}
use Rattle.std.proofs.lemmas.Bool.{leb-true, leb-false}
use Rattle.amf_io.specs.declared.reason.Reason.{Reason}
use Rattle.amf_io.specs.declared.ends.Refusal.{Refusal}
use Rattle.amf_io.specs.declared.ends.ReadEnd.{ReadEnd}
use Rattle.amf_io.specs.declared.ends.ReadEnd.TheVariants as reader
use Rattle.amf_io.specs.Field.{Field, flat}
use Rattle.amf_io.specs.Layout.{Layout, IsLayout}
use Rattle.amf_io.specs.Outcomes.{Done as Ended, Short, run}
use Rattle.amf_io.specs.Stretch.{stretch, IsTaken}
use Rattle.amf_io.specs.Verdict.{IsRefused, IsCutOff, IsAccepted}
use Rattle.amf_io.proofs.Inputs.{not_refused}
use Rattle.amf_io.proofs.Paths.{flat-append}
use Rattle.amf_io.proofs.RepeatedVerdicts.{refusal_lifted}
use Rattle.amf_io.proofs.SameFormats.{refused_as}
use Rattle.amf_io.proofs.Verdicts.{accepts, short_run}
use Rattle.flv_meta.specs.File.{Head, IsHead, head_bytes, File, IsFile, file_bytes, Tag, IsTag, tag_bytes, metadata_tag}
use Rattle.flv_meta.specs.Fields.{head_fields, tag_fields, file_fields, IsHeadReading, IsTagReading, IsFileReading}
use Rattle.flv_meta.specs.FileAnswers.{IsHeadOf, AnswersHead}
use Rattle.flv_meta.specs.FileLayout.{head_layout, tag_layout, HasTags}
use Rattle.flv_meta.proofs.FileRepeats.{files_repeat}
use Rattle.flv_meta.proofs.FileVerdicts.{file_refused, one_more, tag_refusals_lift}
use Rattle.flv_meta.proofs.TagLayouts.{tag_is_layout, head_is_layout}
use Rattle.flv_meta.proofs.Tags.{tag_flat, head_flat, file_flat}
use Rattle.flv_meta.specs.declared.flv_job.FlvJob.{FlvJob}
use Rattle.flv_meta.specs.declared.flv_job.FlvJob.TheVariants as job
use Rattle.amf_media.specs.declared.ending.MediaEnd.{MediaEnd}
use Rattle.amf_media.specs.declared.ending.MediaEnd.TheVariants.{Done, Refused, ReadFault, WriteFault, NoForm, LongData, Memory}
use Rattle.amf_media.specs.Ends.{end_of}
use Rattle.amf_media.specs.FlvValues.{IsValueRefused}
use Rattle.amf_media.specs.FlvOutput.{Work, Makes}
use Rattle.amf_media.specs.FlvRuns.{most, NoHead, NoTag, Gives, nothing, whole_tags, StopsAt, in_file, in_value, GivesSome, none_yet, so_far, FileEnds, WrittenBy, FileRuns, IsFileEnd}
use Rattle.amf_media.specs.FlvSteps.{TagsGive, GoesOn, EndsTags, StopsAtTag, head_put, work_of, IsStart, FileCopies, Closes, ClosesBy, CopiesTags, ended, PutBy}
use Rattle.amf_io.specs.Written.{WritesFront}
use Rattle.amf_media.specs.Written.{IsPut, Puts, IsPutEnd, CountsWrites, CountsPuts}
use Rattle.amf_io.specs.Outside.{Rose}
use Rattle.amf_media.proofs.FlvTags.{put_by, give_none as gives_none}
use Rattle.amf_media.proofs.Puts.{none_front, put_none, put_join, put_closed, front_closed}

-- What is whole within the limit is neither refused nor cut off.

module _ (t : ℕ → Layout (List ℕ)) (P : List Field → Type 0) (g : IsLayout t P) where
  pub not_cut : (at stop : ℕ) (bytes rest : List ℕ) (fields : List Field) → P fields → bytes ≡ flat fields ++ rest → IsCutOff P at bytes stop → ⊥
  not_cut at stop bytes rest fields p e c =
      let s = short_run t P g at stop bytes c in
      let m = s.0 + length (flat fields) + 1 in
      let d = accepts t P g at fields m rest p (omega arith) in
      let clash : Ended d.0 (at + length (flat fields)) rest ≡ Short stop = sym d.1 ∙ ap (run (t m) at) (sym e) ∙ s.1 m (omega arith) in
      absurd cc

tag_accepted : (at : ℕ) (more rest : List ℕ) (t : Tag) → IsTag t → more ≡ tag_bytes t ++ rest → at + length (tag_bytes t) ≤ most → IsAccepted IsTagReading at most more (at + length (tag_bytes t)) rest
tag_accepted at more rest t is e le = record {
  fields = tag_fields t;
  accepted = (t, is, refl);
  parts = e ∙ ap (λ l. l ++ rest) (sym (tag_flat t));
  place = ap (λ l. at + length l) (sym (tag_flat t));
  within = le;
}

head_accepted : (at : ℕ) (more rest : List ℕ) (h : Head) → IsHead h → more ≡ head_bytes h ++ rest → at + length (head_bytes h) ≤ most → IsAccepted IsHeadReading at most more (at + length (head_bytes h)) rest
head_accepted at more rest h is e le = record {
  fields = head_fields h;
  accepted = (h, is, refl);
  parts = e ∙ ap (λ l. l ++ rest) (sym (head_flat h));
  place = ap (λ l. at + length l) (sym (head_flat h));
  within = le;
}

-- a number is above another, or not
past : (m n : ℕ) → (m ≤ n → ⊥) → n < m
past m n h = by (leb m n) refl
  where
    by : (b : Bool) → leb m n ≡ b → n < m
    by true e = absurd (h (leb-true m n e))
    by false e = let z = leb-false m n e in omega arith

no_tag_refused : (at k : ℕ) (r : Reason) (more : List ℕ) → IsRefused IsTagReading at most more r k → NoTag at more
no_tag_refused at k r more x t rest is e = past (at + length (tag_bytes t)) most (λ le. not_refused (λ n. tag_layout []) IsTagReading (tag_is_layout []) at most (at + length (tag_bytes t)) k r more rest (tag_accepted at more rest t is e le) x)

no_tag_cut : (at stop : ℕ) (more : List ℕ) → IsCutOff IsTagReading at more stop → NoTag at more
no_tag_cut at stop more x t rest is e = absurd (not_cut (λ n. tag_layout []) IsTagReading (tag_is_layout []) at stop more rest (tag_fields t) (t, is, refl) (e ∙ ap (λ l. l ++ rest) (sym (tag_flat t))) x)

no_head_refused : (at k : ℕ) (r : Reason) (more : List ℕ) → IsRefused IsHeadReading at most more r k → NoHead at more
no_head_refused at k r more x h rest is e = past (at + length (head_bytes h)) most (λ le. not_refused (λ n. head_layout []) IsHeadReading (head_is_layout []) at most (at + length (head_bytes h)) k r more rest (head_accepted at more rest h is e le) x)

no_head_cut : (at stop : ℕ) (more : List ℕ) → IsCutOff IsHeadReading at more stop → NoHead at more
no_head_cut at stop more x h rest is e = absurd (not_cut (λ n. head_layout []) IsHeadReading (head_is_layout []) at stop more rest (head_fields h) (h, is, refl) (e ∙ ap (λ l. l ++ rest) (sym (head_flat h))) x)

-- What is said of a head, and of a tag behind a file, is so of the file.

to_none : (fs : List Field) → IsHeadReading fs → HasTags 0 fs
to_none fs (h, is, e) = (record { head = h; tags = [] }, record { head = is; tags = tt }, refl, e ∙ sym (append-nil (head_fields h)))

of_none : (fs : List Field) (h : Head) (tags : List Tag) → IsHead h → length tags ≡ 0 → fs ≡ head_fields h ++ flat_map tag_fields tags → IsHeadReading fs
of_none fs h [] is z e = (h, is, e ∙ append-nil (head_fields h))
of_none fs h (t ∷ tags) is z e = absurd cc

none_to : (fs : List Field) → HasTags 0 fs → IsHeadReading fs
none_to fs (f, is, z, e) = of_none fs f.head f.tags is.head z e

head_refused : (base k : ℕ) (input : List ℕ) (r : Reason) → base ≤ most → IsRefused IsHeadReading base most input r k → IsRefused IsFileReading base most input r k
head_refused base k input r le x =
    file_refused base most k input r
    (refusal_lifted (λ n. head_layout []) (λ n. tag_layout) HasTags files_repeat (HasTags 0) base most base [] input input 0 refl (omega arith) le (λ start kind w. w) (λ start j e lt p. absurd (omega (arith, lt))) k r
    (refused_as IsHeadReading (HasTags 0) to_none none_to base most k input r x))

head_cut : (base k : ℕ) (w : List ℕ) → IsCutOff IsHeadReading base w k → IsCutOff IsFileReading base w k
head_cut base k w c =
    let fl = c.follows in
    let a = to_none (c.start ++ fl.next ∷ fl.more) fl.accepted in
    record { start = c.start; kind = c.kind; rest = c.rest; follows = record { next = fl.next; more = fl.more; is_kind = fl.is_kind; accepted = (a.0, a.1, a.3) }; place = c.place; parts = c.parts; is_short = c.is_short }

tag_cut : (f : File) → IsFile f → (base at k : ℕ) (w : List ℕ) → at ≡ base + length (file_bytes f) → IsCutOff IsTagReading at w k → IsCutOff IsFileReading base (file_bytes f ++ w) k
tag_cut f is base at k w place c =
    let fl = c.follows in
    let t = fl.accepted in
    let m = one_more f t.0 is t.1 in
    let fs = file_fields f in
    record {
      start = fs ++ c.start;
      kind = c.kind;
      rest = c.rest;
      follows = record { next = fl.next; more = fl.more; is_kind = fl.is_kind; accepted = (m.0, m.1, append_assoc fs c.start (fl.next ∷ fl.more) ∙ ap (λ l. fs ++ l) t.2 ∙ m.3) };
      place = (let e = c.place in omega (arith, ap length (flat-append fs c.start), length-append (flat fs) (flat c.start), ap length (file_flat f)));
      parts = ap (λ l. file_bytes f ++ l) c.parts ∙ ap (λ l. l ++ (flat c.start ++ c.rest)) (sym (file_flat f)) ∙ sym (append_assoc (flat fs) (flat c.start) c.rest) ∙ ap (λ l. l ++ c.rest) (sym (flat-append fs c.start));
      is_short = c.is_short;
    }

-- What a file gives.

pub makes : (j : FlvJob) (value start : List ℕ) → IsStart j value start → (h : Head) (tags : List Tag) (b : List ℕ) → TagsGive j tags b → Makes (work_of j value) (record { head = h; tags = tags }) (head_put j start (head_bytes h) ++ b)
makes job.Show value start st h tags b g = g
makes job.Drop value start st h tags b g = ap (λ l. head_bytes h ++ l) g
makes job.Set value start st h tags b g =
    append_assoc (head_bytes h) start b ∙ ap (λ l. head_bytes h ++ l) (ap (λ l. l ++ b) st ∙ ap (λ l. tag_bytes (metadata_tag value) ++ l) g)

-- a head was read, and then tags
pub record Came (base : ℕ) (later mid : List ℕ) (place : ℕ) (h : Head) (tags : List Tag) : Type 0 where
  pub is_file : IsFile (record { head = h; tags = tags })
  pub parts : later ≡ file_bytes (record { head = h; tags = tags }) ++ mid
  pub place_is : place ≡ base + length (file_bytes (record { head = h; tags = tags }))

pub came : (base at place : ℕ) (later after mid : List ℕ) (h : Head) (tags : List Tag) → IsHead h → AllByRecursion IsTag tags → later ≡ head_bytes h ++ after → at ≡ base + length (head_bytes h) → after ≡ flat_map tag_bytes tags ++ mid → place ≡ at + length (flat_map tag_bytes tags) → Came base later mid place h tags
came base at place later after mid h tags ih it e p d q = record {
  is_file = record { head = ih; tags = it };
  parts = e ∙ ap (λ l. head_bytes h ++ l) d ∙ sym (append_assoc (head_bytes h) (flat_map tag_bytes tags) mid);
  place_is = omega (arith, length-append (head_bytes h) (flat_map tag_bytes tags));
}

-- the head was read at this place, and what is put of it was put
pub record HeadCame (j : FlvJob) (start : List ℕ) (base at : ℕ) (later after : List ℕ) (told : Type 0) (held half waited : List ℕ) (h : Head) : Type 0 where
  pub is_head : IsHead h
  pub parts : later ≡ head_bytes h ++ after
  pub place_is : at ≡ base + length (head_bytes h)
  pub put : told → IsPut held half [] waited (head_put j start (head_bytes h))

module _ (j : FlvJob) (value start : List ℕ) (st : IsStart j value start) (base at : ℕ) (later after rest : List ℕ) (told_in : Type 0) (y : told_in) (told told_half : Type 0) (back : told → told_half) (held half now waited waits : List ℕ) (place : ℕ) (h : Head) (c : HeadCame j start base at later after told_half held half waited h) where
  -- all tags to the end of the input
  pub file_done : GoesOn j (stretch told_in after rest at place most) told half now waited waits → rest ≡ [] → FileCopies (work_of j value) base later rest told held now waits Done
  file_done g none =
      let r = g.read in
      let k = came base at place later after rest h r.tags c.is_head r.are_tags c.parts c.place_is (r.parts y) r.taken in
      let f : File = record { head = h; tags = r.tags } in
      let whole : later ≡ file_bytes f = k.parts ∙ ap (λ l. file_bytes f ++ l) none ∙ append-nil (file_bytes f) in
      record {
        bytes = head_put j start (head_bytes h) ++ g.bytes;
        ends = record { file = f; is_file = k.is_file; parts = whole; within = (let p = k.place_is in let w = r.within in let e = ap length whole in omega arith); all_read = none; made = makes j value start st h r.tags g.bytes r.give };
        put = λ t. put_join held half now [] waited waits (head_put j start (head_bytes h)) g.bytes (c.put (back t)) (g.put t);
      }

  ends_so : (e : MediaEnd) (x : EndsTags j (stretch told_in after rest at place most) told half now waited waits e) → FileEnds (work_of j value) base later rest (head_put j start (head_bytes h) ++ x.bytes) e
  ends_so (Refused f) x =
      let r = x.read in
      let k = came base at x.place later after x.mid h r.tags c.is_head r.are_tags c.parts c.place_is (r.parts y) r.taken in
      let file : File = record { head = h; tags = r.tags } in
      let all = head_put j start (head_bytes h) ++ x.bytes in
      let made : Makes (work_of j value) file all = makes j value start st h r.tags x.bytes r.give in
      let p : x.place ≡ base + length (file_bytes file) = k.place_is in
      let within : x.place ≤ most = r.within in
      let le : base + length (file_bytes file) ≤ most = omega arith in
      by (x.ends y) file k.is_file k.parts p within le made
    where
      by : (IsRefused IsTagReading x.place most x.mid f.reason f.at × (0 < length x.mid)) ⊎ ((j ≡ job.Show) × StopsAtTag x.mid x.place most f) → (file : File) → IsFile file → later ≡ file_bytes file ++ x.mid → x.place ≡ base + length (file_bytes file) → x.place ≤ most → base + length (file_bytes file) ≤ most → Makes (work_of j value) file (head_put j start (head_bytes h) ++ x.bytes) → StopsAt (work_of j value) base later f (head_put j start (head_bytes h) ++ x.bytes)
      by (inl (refused, some)) file is parts p within le made =
          in_file (subst (λ l. IsRefused IsFileReading base most l f.reason f.at) (sym parts) (tag_refusals_lift file x.mid base most x.place f.at f.reason is some p within refused))
          (whole_tags file is x.mid parts le (subst (λ n. NoTag n x.mid) p (no_tag_refused x.place f.at f.reason x.mid refused)) made)
      by (inr (shows, s)) file is parts p within le made =
          let l = s.within in
          in_value (ap (λ i. work_of i value) shows) (record {
            file = file;
            is_file = is;
            tag = s.tag;
            is_tag = s.is_tag;
            script = s.script;
            more = s.more;
            parts = parts ∙ ap (λ m. file_bytes file ++ m) s.parts;
            within = omega arith;
            refused = subst (λ n. IsValueRefused n s.tag f) p s.refused;
            made = subst (λ w. Makes w file (head_put j start (head_bytes h) ++ x.bytes)) (ap (λ i. work_of i value) shows) made;
          })
  ends_so ReadFault x =
      let r = x.read in
      let k = came base at x.place later after x.mid h r.tags c.is_head r.are_tags c.parts c.place_is (r.parts y) r.taken in
      let f : File = record { head = h; tags = r.tags } in
      let i = x.ends y in
      let p : x.place ≡ base + length (file_bytes f) = k.place_is in
      let within : x.place ≤ most = r.within in
      let inside : x.place + length i.given ≤ most = i.within in
      record {
        given = file_bytes f ++ i.given;
        parts = k.parts ∙ ap (λ l. file_bytes f ++ l) i.parts ∙ sym (append_assoc (file_bytes f) i.given rest);
        within = omega (arith, length-append (file_bytes f) i.given);
        at = i.stop;
        cut_off = tag_cut f k.is_file base x.place i.stop i.given p i.cut_off;
        made = whole_tags f k.is_file i.given refl (omega arith) (subst (λ n. NoTag n i.given) p (no_tag_cut x.place i.stop i.given i.cut_off)) (makes j value start st h r.tags x.bytes r.give);
      }
  ends_so WriteFault x =
      let r = x.read in
      let k = came base at x.place later after x.mid h r.tags c.is_head r.are_tags c.parts c.place_is (r.parts y) r.taken in
      so_far (record { head = h; tags = r.tags }) k.is_file x.mid k.parts (let p = k.place_is in let w = r.within in omega arith) (makes j value start st h r.tags x.bytes r.give)
  ends_so Memory x =
      let r = x.read in
      let k = came base at x.place later after x.mid h r.tags c.is_head r.are_tags c.parts c.place_is (r.parts y) r.taken in
      so_far (record { head = h; tags = r.tags }) k.is_file x.mid k.parts (let p = k.place_is in let w = r.within in omega arith) (makes j value start st h r.tags x.bytes r.give)
  ends_so Done x = absurd x.ends
  ends_so (NoForm l) x = absurd x.ends
  ends_so LongData x = absurd x.ends

  -- and how it ends before
  pub file_ends : (e : MediaEnd) → EndsTags j (stretch told_in after rest at place most) told half now waited waits e → FileCopies (work_of j value) base later rest told held now waits e
  file_ends e x = record {
    bytes = head_put j start (head_bytes h) ++ x.bytes;
    ends = ends_so e x;
    put = λ t. put_by e held half now [] waited waits (head_put j start (head_bytes h)) x.bytes (c.put (back t)) (x.put t);
  }

-- the head itself is refused, or a read fails inside it
pub head_ends : (w : Work) (told_in : Type 0) (y : told_in) (told : Type 0) (before old later rest : List ℕ) (base place : ℕ) (held : List ℕ) (e : ReadEnd) → base ≤ most → AnswersHead before old (stretch told_in later rest base place most) (Err e) → FileCopies w base later rest told held held [] (end_of e)
head_ends w told_in y told before old later rest base place held (reader.Refused f) le a = record {
  bytes = [];
  ends = in_file (head_refused base f.at later f.reason le (a y)) (nothing (no_head_refused base f.at f.reason later (a y)) refl);
  put = λ t. put_none held [];
}
head_ends w told_in y told before old later rest base place held reader.ReadFault le a =
    let i = a y in
    record {
      bytes = [];
      ends = record {
        given = i.given;
        parts = i.parts;
        within = i.within;
        at = i.stop;
        cut_off = head_cut base i.stop i.given i.cut_off;
        made = nothing (no_head_cut base i.stop i.given i.cut_off) refl;
      };
      put = λ t. put_none held [];
    }
head_ends w told_in y told before old later rest base place held reader.Memory le a = record { bytes = []; ends = none_yet refl; put = λ t. none_front held [] }

-- what some file gives, whatever the end

some_given : (w : Work) (base : ℕ) (later bytes : List ℕ) → Gives w base later bytes → GivesSome w base later bytes
some_given w base later bytes (nothing none e) = none_yet e
some_given w base later bytes (whole_tags f is more parts le none made) = so_far f is more parts le made

some_more : (w : Work) (base : ℕ) (given rest bytes : List ℕ) → GivesSome w base given bytes → GivesSome w base (given ++ rest) bytes
some_more w base given rest bytes (none_yet e) = none_yet e
some_more w base given rest bytes (so_far f is more parts le made) = so_far f is (more ++ rest) (ap (λ l. l ++ rest) parts ∙ append_assoc (file_bytes f) more rest) le made

some_stopped : (w : Work) (base : ℕ) (later : List ℕ) (f : Refusal) (bytes : List ℕ) → StopsAt w base later f bytes → GivesSome w base later bytes
some_stopped w base later f bytes (in_file r g) = some_given w base later bytes g
some_stopped w base later f bytes (in_value shows s) =
    so_far s.file s.is_file (tag_bytes s.tag ++ s.more) s.parts (let l = s.within in omega arith) (subst (λ v. Makes v s.file bytes) (sym shows) s.made)

-- an end behind which what waits is written
abbrev pub IsOpenEnd : MediaEnd → Type 0
IsOpenEnd Done = Unit {0}
IsOpenEnd (Refused f) = Unit {0}
IsOpenEnd ReadFault = Unit {0}
IsOpenEnd _ = ⊥

some_ended : (w : Work) (base : ℕ) (later rest bytes : List ℕ) (e : MediaEnd) → IsOpenEnd e → FileEnds w base later rest bytes e → GivesSome w base later bytes
some_ended w base later rest bytes Done o h = so_far h.file h.is_file [] (h.parts ∙ sym (append-nil (file_bytes h.file))) (let l = h.within in let e = ap length h.parts in omega arith) h.made
some_ended w base later rest bytes (Refused f) o h = some_stopped w base later f bytes h
some_ended w base later rest bytes ReadFault o h = subst (λ l. GivesSome w base l bytes) (sym h.parts) (some_more w base h.given rest bytes (some_given w base h.given bytes h.made))
some_ended w base later rest bytes WriteFault o h = absurd o
some_ended w base later rest bytes Memory o h = absurd o
some_ended w base later rest bytes (NoForm l) o h = absurd o
some_ended w base later rest bytes LongData o h = absurd o

written_whole : (e : MediaEnd) (held half now waits bytes : List ℕ) → IsOpenEnd e → PutBy held half [] waits bytes e → now ≡ half ++ waits → WrittenBy held now bytes e
written_whole Done held half now waits bytes o p e = put_closed held half waits bytes now p e
written_whole (Refused f) held half now waits bytes o p e = put_closed held half waits bytes now p e
written_whole ReadFault held half now waits bytes o p e = put_closed held half waits bytes now p e
written_whole WriteFault held half now waits bytes o p e = absurd o
written_whole Memory held half now waits bytes o p e = absurd o
written_whole (NoForm l) held half now waits bytes o p e = absurd o
written_whole LongData held half now waits bytes o p e = absurd o

written_front : (e : MediaEnd) (held half now waits bytes : List ℕ) → IsOpenEnd e → PutBy held half [] waits bytes e → WritesFront half now waits → WritesFront held now bytes
written_front Done held half now waits bytes o p e = front_closed held half waits bytes now p e
written_front (Refused f) held half now waits bytes o p e = front_closed held half waits bytes now p e
written_front ReadFault held half now waits bytes o p e = front_closed held half waits bytes now p e
written_front WriteFault held half now waits bytes o p e = absurd o
written_front Memory held half now waits bytes o p e = absurd o
written_front (NoForm l) held half now waits bytes o p e = absurd o
written_front LongData held half now waits bytes o p e = absurd o

-- what waited was written, or a write failed
pub closed : (w : Work) (base : ℕ) (later rest : List ℕ) (told told_half : Type 0) (back : told → told_half) (held half now waits : List ℕ) (faults counts : ℕ) (e result : MediaEnd) → IsOpenEnd e → FileCopies w base later rest told_half held half waits e → Closes e result told half now waits faults counts → FileRuns w base later rest told held now result
closed w base later rest told told_half back held half now waits faults counts e result o x (inl (same, written, steady)) =
    subst (λ r. FileRuns w base later rest told held now r) (sym same) (record { bytes = x.bytes; ends = x.ends; written = λ t. written_whole e held half now waits x.bytes o (x.put (back t)) (written t) })
closed w base later rest told told_half back held half now waits faults counts e result o x (inr (same, written, more, rose)) =
    subst (λ r. FileRuns w base later rest told held now r) (sym same) (record { bytes = x.bytes; ends = some_ended w base later rest x.bytes e o x.ends; written = λ t. written_front e held half now waits x.bytes o (x.put (back t)) (written t) })

-- no memory from the start
pub spent : (w : Work) (base : ℕ) (later rest : List ℕ) (told : Type 0) (held : List ℕ) → FileRuns w base later rest told held held Memory
spent w base later rest told held = record { bytes = []; ends = none_yet refl; written = λ t. none_front held [] }

pub closed_by : (w : Work) (base : ℕ) (later rest : List ℕ) (told told_half : Type 0) (back : told → told_half) (held half now waits : List ℕ) (faults counts : ℕ) (e result : MediaEnd) → IsFileEnd e → FileCopies w base later rest told_half held half waits e → ClosesBy e result told half now waits faults counts → FileRuns w base later rest told held now result
closed_by w base later rest told told_half back held half now waits faults counts Done result o x c = closed w base later rest told told_half back held half now waits faults counts Done result tt x c
closed_by w base later rest told told_half back held half now waits faults counts (Refused f) result o x c = closed w base later rest told told_half back held half now waits faults counts (Refused f) result tt x c
closed_by w base later rest told told_half back held half now waits faults counts ReadFault result o x c = closed w base later rest told told_half back held half now waits faults counts ReadFault result tt x c
closed_by w base later rest told told_half back held half now waits faults counts WriteFault result o x c =
    subst (λ r. FileRuns w base later rest told held now r) (sym c.0) (subst (λ n. FileRuns w base later rest told held n WriteFault) (sym c.1) (record { bytes = x.bytes; ends = x.ends; written = λ t. x.put (back t) }))
closed_by w base later rest told told_half back held half now waits faults counts Memory result o x c =
    subst (λ r. FileRuns w base later rest told held now r) (sym c.0) (subst (λ n. FileRuns w base later rest told held n Memory) (sym c.1) (record { bytes = x.bytes; ends = x.ends; written = λ t. x.put (back t) }))
closed_by w base later rest told told_half back held half now waits faults counts (NoForm l) result o x c = absurd o
closed_by w base later rest told told_half back held half now waits faults counts LongData result o x c = absurd o

-- the end, and its counts

pub closed_end : (told : Type 0) (held now waits : List ℕ) (faults counts : ℕ) (e result : MediaEnd) → IsFileEnd e → ClosesBy e result told held now waits faults counts → IsFileEnd result
closed_end told held now waits faults counts Done result o (inl c) = subst IsFileEnd (sym c.0) tt
closed_end told held now waits faults counts Done result o (inr c) = subst IsFileEnd (sym c.0) tt
closed_end told held now waits faults counts (Refused f) result o (inl c) = subst IsFileEnd (sym c.0) tt
closed_end told held now waits faults counts (Refused f) result o (inr c) = subst IsFileEnd (sym c.0) tt
closed_end told held now waits faults counts ReadFault result o (inl c) = subst IsFileEnd (sym c.0) tt
closed_end told held now waits faults counts ReadFault result o (inr c) = subst IsFileEnd (sym c.0) tt
closed_end told held now waits faults counts WriteFault result o c = subst IsFileEnd (sym c.0) tt
closed_end told held now waits faults counts Memory result o c = subst IsFileEnd (sym c.0) tt
closed_end told held now waits faults counts (NoForm l) result o c = absurd o
closed_end told held now waits faults counts LongData result o c = absurd o

open_counts : (told : Type 0) (held now waits : List ℕ) (before faults counts : ℕ) (e result : MediaEnd) → faults ≡ before → CountsWrites before before e → ((n : ℕ) → n ≡ before → CountsWrites before n e) → Closes e result told held now waits faults counts → CountsWrites before counts result
open_counts told held now waits before faults counts e result same z steady (inl c) = subst (λ r. CountsWrites before counts r) (sym c.0) (steady counts (c.2 ∙ same))
open_counts told held now waits before faults counts e result same z steady (inr c) = subst (λ r. CountsWrites before counts r) (sym c.0) (subst (λ n. (n ≤ counts) × Rose n counts) same (c.2, c.3))

pub closed_counts : (told : Type 0) (held now waits : List ℕ) (before faults counts : ℕ) (e result : MediaEnd) → IsFileEnd e → CountsWrites before faults e → ClosesBy e result told held now waits faults counts → CountsWrites before counts result
closed_counts told held now waits before faults counts Done result o k c = open_counts told held now waits before faults counts Done result k refl (λ n h. h) c
closed_counts told held now waits before faults counts (Refused f) result o k c = open_counts told held now waits before faults counts (Refused f) result k refl (λ n h. h) c
closed_counts told held now waits before faults counts ReadFault result o k c = open_counts told held now waits before faults counts ReadFault result k refl (λ n h. h) c
closed_counts told held now waits before faults counts WriteFault result o k c = subst (λ r. CountsWrites before counts r) (sym c.0) (subst (λ n. (before ≤ n) × Rose before n) (sym c.2) k)
closed_counts told held now waits before faults counts Memory result o k c = subst (λ r. CountsWrites before counts r) (sym c.0) (c.2 ∙ k)
closed_counts told held now waits before faults counts (NoForm l) result o k c = absurd o
closed_counts told held now waits before faults counts LongData result o k c = absurd o

pub counts_ended : (before now : ℕ) (r : Result (Unit {0}) MediaEnd) → CountsPuts before now r → CountsWrites before now (ended r)
counts_ended before now (Ok done) k = k
counts_ended before now (Err e) k = k

-- The steps of the whole.

-- the head was read and what is put of it was put
pub head_came : (j : FlvJob) (start before bytes head : List ℕ) (told_in : Type 0) (y : told_in) (later after : List ℕ) (base at limit : ℕ) (told : Type 0) (held half waiting waited : List ℕ) (done : Unit {0}) (i : IsTaken (λ fs. (b : List ℕ) × IsHeadOf b fs × (bytes ≡ before ++ b)) IsHeadReading (stretch told_in later after base at limit)) → before ≡ [] → head ≡ bytes → waiting ≡ [] → (told → Puts held half waiting waited (head_put j start head) (Ok done)) → HeadCame j start base at later after told held half waited i.read.1.0
head_came j start before bytes head told_in y later after base at limit told held half waiting waited done i none same empty p =
    let h = i.read.1.0 in
    let b : head ≡ head_bytes h = same ∙ i.read.2 ∙ ap (λ l. l ++ i.read.0) none ∙ i.read.1.3 in
    let f : flat i.fields ≡ head_bytes h = ap flat i.read.1.2 ∙ head_flat h in
    record {
      is_head = i.read.1.1;
      parts = i.parts y ∙ ap (λ l. l ++ after) f;
      place_is = i.taken ∙ ap (λ l. base + length l) f;
      put = λ t. subst (λ w. IsPut held half w waited (head_put j start (head_bytes h))) empty (subst (λ l. IsPut held half waiting waited (head_put j start l)) b (p t));
    }

-- the head was read, and a front of what is put of it was written
some_head : (j : FlvJob) (value start : List ℕ) (st : IsStart j value start) (before bytes head : List ℕ) (told_in : Type 0) (y : told_in) (later after : List ℕ) (base at : ℕ) (told : Type 0) (held half waiting : List ℕ) (i : IsTaken (λ fs. (b : List ℕ) × IsHeadOf b fs × (bytes ≡ before ++ b)) IsHeadReading (stretch told_in later after base at most)) → before ≡ [] → head ≡ bytes → waiting ≡ [] → (told → WritesFront held half (waiting ++ head_put j start head)) → (all : List ℕ) × GivesSome (work_of j value) base later all × (told → WritesFront held half ([] ++ all))
some_head j value start st before bytes head told_in y later after base at told held half waiting i none same empty p =
    let h = i.read.1.0 in
    let b : head ≡ head_bytes h = same ∙ i.read.2 ∙ ap (λ l. l ++ i.read.0) none ∙ i.read.1.3 in
    let f : flat i.fields ≡ head_bytes h = ap flat i.read.1.2 ∙ head_flat h in
    let file : File = record { head = h; tags = [] } in
    let none_more : head_bytes h ++ [] ≡ head_bytes h = append-nil (head_bytes h) in
    let taken = i.taken in
    let within = i.within in
    let all = head_put j start (head_bytes h) in (
      all,
      so_far file (record { head = i.read.1.1; tags = tt }) after (i.parts y ∙ ap (λ l. l ++ after) (f ∙ sym none_more)) (omega (arith, ap length f, ap length none_more)) (subst (λ l. Makes (work_of j value) file l) (append-nil all) (makes j value start st h [] [] (gives_none j))),
      λ t. subst (λ w. WritesFront held half (w ++ all)) empty (subst (λ l. WritesFront held half (waiting ++ head_put j start l)) b (p t)),
    )

-- the head was read, and could not be put
pub head_unput : (j : FlvJob) (value start : List ℕ) (st : IsStart j value start) (before bytes head : List ℕ) (told_in : Type 0) (y : told_in) (later after : List ℕ) (base at : ℕ) (told : Type 0) (held half waiting waited : List ℕ) (e : MediaEnd) (i : IsTaken (λ fs. (b : List ℕ) × IsHeadOf b fs × (bytes ≡ before ++ b)) IsHeadReading (stretch told_in later after base at most)) → before ≡ [] → head ≡ bytes → waiting ≡ [] → IsPutEnd {T = Unit {0}} (Err e) → (told → Puts {T = Unit {0}} held half waiting waited (head_put j start head) (Err e)) → FileCopies (work_of j value) base later after told held half waited e
head_unput j value start st before bytes head told_in y later after base at told held half waiting waited WriteFault i none same empty o p =
    let x = some_head j value start st before bytes head told_in y later after base at told held half waiting i none same empty p in
    record { bytes = x.0; ends = x.1; put = x.2 }
head_unput j value start st before bytes head told_in y later after base at told held half waiting waited Memory i none same empty o p =
    let x = some_head j value start st before bytes head told_in y later after base at told held half waiting i none same empty p in
    record { bytes = x.0; ends = x.1; put = x.2 }
head_unput j value start st before bytes head told_in y later after base at told held half waiting waited Done i none same empty o p = absurd o
head_unput j value start st before bytes head told_in y later after base at told held half waiting waited (Refused f) i none same empty o p = absurd o
head_unput j value start st before bytes head told_in y later after base at told held half waiting waited ReadFault i none same empty o p = absurd o
head_unput j value start st before bytes head told_in y later after base at told held half waiting waited (NoForm l) i none same empty o p = absurd o
head_unput j value start st before bytes head told_in y later after base at told held half waiting waited LongData i none same empty o p = absurd o

-- and then the tags
pub file_copied : (j : FlvJob) (value start : List ℕ) (st : IsStart j value start) (base at : ℕ) (later after rest : List ℕ) (told_in : Type 0) (y : told_in) (told told_half : Type 0) (back : told → told_half) (held half now waited waits : List ℕ) (place : ℕ) (h : Head) (c : HeadCame j start base at later after told_half held half waited h) (r : Result (Unit {0}) MediaEnd) → CopiesTags j (stretch told_in after rest at place most) told half now waited waits r → FileCopies (work_of j value) base later rest told held now waits (ended r)
file_copied j value start st base at later after rest told_in y told told_half back held half now waited waits place h c (Ok done) x = file_done j value start st base at later after rest told_in y told told_half back held half now waited waits place h c x.0 (x.1 y)
file_copied j value start st base at later after rest told_in y told told_half back held half now waited waits place h c (Err e) x = file_ends j value start st base at later after rest told_in y told told_half back held half now waited waits place h c e x
