-- Tags that were read, one after another, and what they give.
use Rattle.std.proofs.Common.{◌≡◌, ℕ, suc, ◌+◌, ◌≤◌, Bool, true, false, List, [], ◌∷◌, ◌++◌, length, refl, sym, ap, ◌∙◌, arith, subst, inl, inr, append_assoc, length-append, Result, Ok, Err, None}
use Rattle.std.specs.Prelude.{map, filter, flat_map, not}
use Rattle.std.specs.List.{AllByRecursion}
use Rattle.std.proofs.lemmas.List.{append-nil}
use Rattle.amf_io.specs.Stretch.{Stretch, stretch, IsTaken}
use Rattle.amf_io.specs.Field.{flat}
use Rattle.flv_meta.specs.File.{Tag, IsTag, tag_bytes, is_metadata, value_bytes, other_tags}
use Rattle.flv_meta.specs.Fields.{IsTagReading}
use Rattle.amf_io.specs.declared.ends.ReadEnd.{ReadEnd}
use Rattle.amf_io.specs.declared.ends.ReadEnd.TheVariants as reader
use Rattle.flv_meta.specs.FileAnswers.{IsTagOf, AnswersTag}
use Rattle.amf_media.specs.Ends.{end_of}
use Rattle.flv_meta.specs.declared.tag.Tag.{Tag as StoredTag}
use Rattle.flv_meta.proofs.Tags.{tag_flat}
use Rattle.flv_meta.specs.declared.flv_job.FlvJob.{FlvJob}
use Rattle.flv_meta.specs.declared.flv_job.FlvJob.TheVariants as job
use Rattle.amf_media.specs.declared.ending.MediaEnd.{MediaEnd}
use Rattle.amf_media.specs.declared.ending.MediaEnd.TheVariants.{Done, Refused, ReadFault, WriteFault, NoForm, LongData, Memory}
use Rattle.amf_media.specs.FlvValues.{IsShown, IsValueRefused}
use Rattle.amf_media.specs.FlvOutput.{AreShown}
use Rattle.amf_media.specs.FlvRuns.{IsFileEnd}
use Rattle.amf_media.specs.FlvSteps.{ended, Keeps, TagsGive, ReadsTags, GoesOn, EndsTags, EndsAt, PutBy, PutsTag, StepsTag, CopiesTags}
use Rattle.amf_io.specs.Written.{WritesFront}
use Rattle.amf_media.specs.Written.{IsPut, Puts, IsPutEnd}
use Rattle.amf_media.proofs.Puts.{none_front, put_none, put_join, front_join}

-- Lists of tags.

pub all_join : (xs ys : List Tag) → AllByRecursion IsTag xs → AllByRecursion IsTag ys → AllByRecursion IsTag (xs ++ ys)
all_join [] ys a b = b
all_join (x ∷ xs) ys a b = (a.0, all_join xs ys a.1 b)

pub bytes_join : (xs ys : List Tag) → flat_map tag_bytes (xs ++ ys) ≡ flat_map tag_bytes xs ++ flat_map tag_bytes ys
bytes_join [] ys = refl
bytes_join (x ∷ xs) ys = ap (λ l. tag_bytes x ++ l) (bytes_join xs ys) ∙ sym (append_assoc (tag_bytes x) (flat_map tag_bytes xs) (flat_map tag_bytes ys))

filter_join : (p : Tag → Bool) (xs ys : List Tag) → filter p (xs ++ ys) ≡ filter p xs ++ filter p ys
filter_join p [] ys = refl
filter_join p (x ∷ xs) ys = by (p x) refl (filter_join p xs ys)
  where
    by : (b : Bool) → p x ≡ b → filter p (xs ++ ys) ≡ filter p xs ++ filter p ys → filter p (x ∷ (xs ++ ys)) ≡ filter p (x ∷ xs) ++ filter p ys
    by true e h = rw e (ap (λ l. x ∷ l) h)
    by false e h = rw e h

map_join : (xs ys : List Tag) → map value_bytes (xs ++ ys) ≡ map value_bytes xs ++ map value_bytes ys
map_join [] ys = refl
map_join (x ∷ xs) ys = ap (λ l. value_bytes x ∷ l) (map_join xs ys)

shown_join : (vs ws : List (List ℕ)) (a b : List ℕ) → AreShown vs a → AreShown ws b → AreShown (vs ++ ws) (a ++ b)
shown_join [] ws a b s t = rw s t
shown_join (v ∷ vs) ws a b (first, more, is, rest, e) t = (first, more ++ b, is, shown_join vs ws more b rest t, ap (λ l. l ++ b) e ∙ append_assoc first more b)

values_join : (xs ys : List Tag) → map value_bytes (filter is_metadata (xs ++ ys)) ≡ map value_bytes (filter is_metadata xs) ++ map value_bytes (filter is_metadata ys)
values_join xs ys = ap (map value_bytes) (filter_join is_metadata xs ys) ∙ map_join (filter is_metadata xs) (filter is_metadata ys)

others_join : (xs ys : List Tag) → flat_map tag_bytes (other_tags (xs ++ ys)) ≡ flat_map tag_bytes (other_tags xs) ++ flat_map tag_bytes (other_tags ys)
others_join xs ys = ap (flat_map tag_bytes) (filter_join (λ t. not (is_metadata t)) xs ys) ∙ bytes_join (other_tags xs) (other_tags ys)

pub give_join : (j : FlvJob) (xs ys : List Tag) (a b : List ℕ) → TagsGive j xs a → TagsGive j ys b → TagsGive j (xs ++ ys) (a ++ b)
give_join job.Show xs ys a b s t = subst (λ l. AreShown l (a ++ b)) (sym (values_join xs ys)) (shown_join (map value_bytes (filter is_metadata xs)) (map value_bytes (filter is_metadata ys)) a b s t)
give_join job.Drop xs ys a b s t = rw (s, t) (sym (others_join xs ys))
give_join job.Set xs ys a b s t = rw (s, t) (sym (others_join xs ys))

pub give_none : (j : FlvJob) → TagsGive j [] []
give_none job.Show = refl
give_none job.Drop = refl
give_none job.Set = refl

-- What one tag gives.

pub shows_none : (t : Tag) → is_metadata t ≡ false → TagsGive job.Show (t ∷ []) []
shows_none t e = rw e refl

pub shows_one : (t : Tag) (b : List ℕ) → is_metadata t ≡ true → IsShown (value_bytes t) b → TagsGive job.Show (t ∷ []) b
shows_one t b e s = rw e (b, [], s, refl, sym (append-nil b))

pub drops_one : (j : FlvJob) → Keeps j → (t : Tag) → is_metadata t ≡ true → TagsGive j (t ∷ []) []
drops_one job.Show k t e = absurd k
drops_one job.Drop k t e = rw e refl
drops_one job.Set k t e = rw e refl

pub keeps_one : (j : FlvJob) → Keeps j → (t : Tag) → is_metadata t ≡ false → TagsGive j (t ∷ []) (tag_bytes t)
keeps_one job.Show k t e = absurd k
keeps_one job.Drop k t e = rw e (sym (append-nil (tag_bytes t)))
keeps_one job.Set k t e = rw e (sym (append-nil (tag_bytes t)))

-- Reading on.

pub reads_none : (j : FlvJob) (told : Type 0) (input rest : List ℕ) (at place limit : ℕ) → (told → input ≡ rest) → place ≡ at → at ≤ limit → ReadsTags j told input rest at place limit []
reads_none j told input rest at place limit e p le = record { tags = []; are_tags = tt; give = give_none j; parts = e; taken = p ∙ omega arith; within = omega arith }

pub reads_one : (j : FlvJob) (told : Type 0) (input rest : List ℕ) (at place limit : ℕ) (t : Tag) (bytes : List ℕ) → IsTag t → TagsGive j (t ∷ []) bytes → (told → input ≡ tag_bytes t ++ rest) → place ≡ at + length (tag_bytes t) → place ≤ limit → ReadsTags j told input rest at place limit bytes
reads_one j told input rest at place limit t bytes is give parts taken le = record {
  tags = t ∷ [];
  are_tags = (is, tt);
  give = give;
  parts = λ x. parts x ∙ ap (λ l. l ++ rest) (sym (append-nil (tag_bytes t)));
  taken = taken ∙ ap (λ l. at + length l) (sym (append-nil (tag_bytes t)));
  within = le;
}

pub reads_join : (j : FlvJob) (told more : Type 0) (go : told → more) (input mid rest : List ℕ) (at between place limit : ℕ) (a b : List ℕ) → ReadsTags j told input mid at between limit a → ReadsTags j more mid rest between place limit b → ReadsTags j told input rest at place limit (a ++ b)
reads_join j told more go input mid rest at between place limit a b r s = record {
  tags = r.tags ++ s.tags;
  are_tags = all_join r.tags s.tags r.are_tags s.are_tags;
  give = give_join j r.tags s.tags a b r.give s.give;
  parts = λ x. r.parts x ∙ ap (λ l. flat_map tag_bytes r.tags ++ l) (s.parts (go x)) ∙ sym (append_assoc (flat_map tag_bytes r.tags) (flat_map tag_bytes s.tags) rest) ∙ ap (λ l. l ++ rest) (sym (bytes_join r.tags s.tags));
  taken = (let p = r.taken in let q = s.taken in omega (arith, ap length (bytes_join r.tags s.tags), length-append (flat_map tag_bytes r.tags) (flat_map tag_bytes s.tags)));
  within = s.within;
}

-- What was put, and then ended.

pub put_by : (e : MediaEnd) (held mid now waiting between waits a b : List ℕ) → IsPut held mid waiting between a → PutBy mid now between waits b e → PutBy held now waiting waits (a ++ b) e
put_by (Refused f) held mid now waiting between waits a b p q = put_join held mid now waiting between waits a b p q
put_by Done held mid now waiting between waits a b p q = put_join held mid now waiting between waits a b p q
put_by ReadFault held mid now waiting between waits a b p q = put_join held mid now waiting between waits a b p q
put_by WriteFault held mid now waiting between waits a b p q = front_join held mid now waiting between a b p q
put_by (NoForm l) held mid now waiting between waits a b p q = put_join held mid now waiting between waits a b p q
put_by LongData held mid now waiting between waits a b p q = put_join held mid now waiting between waits a b p q
put_by Memory held mid now waiting between waits a b p q = front_join held mid now waiting between a b p q

pub on_then_on : (j : FlvJob) (told more : Type 0) (go : told → more) (input mid rest : List ℕ) (at between place limit : ℕ) (told_now told_mid : Type 0) (back : told_now → told_mid) (held half now waiting waited waits : List ℕ)
    → GoesOn j (stretch told input mid at between limit) told_mid held half waiting waited → GoesOn j (stretch more mid rest between place limit) told_now half now waited waits → GoesOn j (stretch told input rest at place limit) told_now held now waiting waits
on_then_on j told more go input mid rest at between place limit told_now told_mid back held half now waiting waited waits g h = record {
  bytes = g.bytes ++ h.bytes;
  read = reads_join j told more go input mid rest at between place limit g.bytes h.bytes g.read h.read;
  put = λ t. put_join held half now waiting waited waits g.bytes h.bytes (g.put (back t)) (h.put t);
}

ends_told : (j : FlvJob) (told more : Type 0) (go : told → more) (mid rest : List ℕ) (at limit : ℕ) (e : MediaEnd) → EndsAt j more mid rest at limit e → EndsAt j told mid rest at limit e
ends_told j told more go mid rest at limit (Refused f) h = λ t. h (go t)
ends_told j told more go mid rest at limit ReadFault h = λ t. h (go t)
ends_told j told more go mid rest at limit WriteFault h = tt
ends_told j told more go mid rest at limit Memory h = tt
ends_told j told more go mid rest at limit Done h = h
ends_told j told more go mid rest at limit (NoForm l) h = h
ends_told j told more go mid rest at limit LongData h = h

pub on_then_ends : (j : FlvJob) (told more : Type 0) (go : told → more) (input mid rest : List ℕ) (at between place limit : ℕ) (told_now told_mid : Type 0) (back : told_now → told_mid) (held half now waiting waited waits : List ℕ) (e : MediaEnd)
    → GoesOn j (stretch told input mid at between limit) told_mid held half waiting waited → EndsTags j (stretch more mid rest between place limit) told_now half now waited waits e → EndsTags j (stretch told input rest at place limit) told_now held now waiting waits e
on_then_ends j told more go input mid rest at between place limit told_now told_mid back held half now waiting waited waits e g h = record {
  mid = h.mid;
  place = h.place;
  bytes = g.bytes ++ h.bytes;
  read = reads_join j told more go input mid h.mid at between h.place limit g.bytes h.bytes g.read h.read;
  ends = ends_told j told more go h.mid rest h.place limit e h.ends;
  put = λ t. put_by e held half now waiting waited waits g.bytes h.bytes (g.put (back t)) (h.put t);
}

-- One tag.

pub tag_put : (j : FlvJob) (t : Tag) (at : ℕ) (told : Type 0) (held now waiting waits bytes : List ℕ) (r : Result (Unit {0}) MediaEnd) → TagsGive j (t ∷ []) bytes → (told → Puts held now waiting waits bytes r) → IsPutEnd r → PutsTag j t at told held now waiting waits r
tag_put j t at told held now waiting waits bytes (Ok done) give p e = (bytes, give, p)
tag_put j t at told held now waiting waits bytes (Err (Refused f)) give p e = absurd e
tag_put j t at told held now waiting waits bytes (Err Done) give p e = absurd e
tag_put j t at told held now waiting waits bytes (Err ReadFault) give p e = absurd e
tag_put j t at told held now waiting waits bytes (Err WriteFault) give p e = (bytes, give, p)
tag_put j t at told held now waiting waits bytes (Err (NoForm l)) give p e = absurd e
tag_put j t at told held now waiting waits bytes (Err LongData) give p e = absurd e
tag_put j t at told held now waiting waits bytes (Err Memory) give p e = inl (bytes, give, p)

-- nothing was put, and the tag gives nothing
pub tag_passed : (j : FlvJob) (t : Tag) (at : ℕ) (told : Type 0) (held waiting : List ℕ) (done : Unit {0}) → TagsGive j (t ∷ []) [] → PutsTag j t at told held held waiting waiting (Ok done)
tag_passed j t at told held waiting done give = ([], give, λ x. put_none held waiting)

taken_bytes : (x : StoredTag) (at : ℕ) (s : Stretch) → (i : IsTaken (IsTagOf at x) IsTagReading s) → flat i.fields ≡ tag_bytes i.read.0
taken_bytes x at s i = ap flat i.read.2 ∙ tag_flat i.read.0

-- the tag was read, and what it gives was put
pub one_went : (j : FlvJob) (told told_out : Type 0) (input rest : List ℕ) (at place limit : ℕ) (x : StoredTag) (held now waiting waits : List ℕ) (done : Unit {0}) (i : IsTaken (IsTagOf at x) IsTagReading (stretch told input rest at place limit)) → PutsTag j i.read.0 x.at told_out held now waiting waits (Ok done) → StepsTag j (stretch told input rest at place limit) told_out held now waiting waits (Ok true)
one_went j told told_out input rest at place limit x held now waiting waits done i p =
    let s = stretch told input rest at place limit in
    let e = taken_bytes x at s i in
    let t = i.read.0 in
    let go : GoesOn j s told_out held now waiting waits = record {
      bytes = p.0;
      read = reads_one j told input rest at place limit t p.0 i.read.1 p.1 (λ y. i.parts y ∙ ap (λ l. l ++ rest) e) (i.taken ∙ ap (λ l. at + length l) e) i.within;
      put = p.2;
    } in
    let l = i.taken in
    (go, (let n : length (flat i.fields) ≡ suc (length (t.size ++ (t.time ++ (t.stream ++ (t.body ++ t.number))))) = ap length e in omega arith))

-- the tag was read, and what it gives could not be put, or its value is refused
pub one_ended : (j : FlvJob) (told told_out : Type 0) (input rest : List ℕ) (at place limit : ℕ) (x : StoredTag) (held now waiting waits : List ℕ) (e : MediaEnd) (i : IsTaken (IsTagOf at x) IsTagReading (stretch told input rest at place limit)) → at ≤ limit → PutsTag j i.read.0 x.at told_out held now waiting waits (Err e) → EndsTags j (stretch told input rest at place limit) told_out held now waiting waits e
one_ended j told told_out input rest at place limit x held now waiting waits (Refused f) i le p =
    let s = stretch told input rest at place limit in
    let e = taken_bytes x at s i in
    let t = i.read.0 in
    record {
      mid = input;
      place = at;
      bytes = [];
      read = reads_none j told input input at at limit (λ y. refl) refl le;
      ends = λ y. inr (
        p.0,
        record {
          tag = t;
          is_tag = i.read.1;
          script = p.1;
          more = rest;
          parts = i.parts y ∙ ap (λ l. l ++ rest) e;
          within = (let a = i.taken in let b = i.within in let c = ap length e in omega arith);
          refused = subst (λ n. IsValueRefused n t f) i.read.4 p.2;
        },
      );
      put = p.3;
    }
one_ended j told told_out input rest at place limit x held now waiting waits WriteFault i le p =
    let s = stretch told input rest at place limit in
    let e = taken_bytes x at s i in
    record {
      mid = rest;
      place = place;
      bytes = p.0;
      read = reads_one j told input rest at place limit i.read.0 p.0 i.read.1 p.1 (λ y. i.parts y ∙ ap (λ l. l ++ rest) e) (i.taken ∙ ap (λ l. at + length l) e) i.within;
      ends = tt;
      put = p.2;
    }
one_ended j told told_out input rest at place limit x held now waiting waits Memory i le (inl p) =
    let s = stretch told input rest at place limit in
    let e = taken_bytes x at s i in
    record {
      mid = rest;
      place = place;
      bytes = p.0;
      read = reads_one j told input rest at place limit i.read.0 p.0 i.read.1 p.1 (λ y. i.parts y ∙ ap (λ l. l ++ rest) e) (i.taken ∙ ap (λ l. at + length l) e) i.within;
      ends = tt;
      put = p.2;
    }
one_ended j told told_out input rest at place limit x held now waiting waits Memory i le (inr same) = record {
  mid = input;
  place = at;
  bytes = [];
  read = reads_none j told input input at at limit (λ y. refl) refl le;
  ends = tt;
  put = λ y. subst (λ l. WritesFront held l (waiting ++ [])) (sym (same y)) (none_front held (waiting ++ []));
}
one_ended j told told_out input rest at place limit x held now waiting waits Done i le p = absurd p
one_ended j told told_out input rest at place limit x held now waiting waits ReadFault i le p = absurd p
one_ended j told told_out input rest at place limit x held now waiting waits (NoForm l) i le p = absurd p
one_ended j told told_out input rest at place limit x held now waiting waits LongData i le p = absurd p

-- No tag came: the input ends here, or inside a tag.

pub none_came : (j : FlvJob) (told told_out : Type 0) (input rest : List ℕ) (at place limit : ℕ) (held waiting : List ℕ) → at ≤ limit → AnswersTag (stretch told input rest at place limit) (Ok None) → GoesOn j (stretch told input rest at place limit) told_out held held waiting waiting × (told → rest ≡ [])
none_came j told told_out input rest at place limit held waiting le a =
    let go : GoesOn j (stretch told input rest at place limit) told_out held held waiting waiting = record {
      bytes = [];
      read = reads_none j told input rest at place limit (λ t. (a.0 t).0 ∙ sym (a.0 t).1) a.1 le;
      put = λ t. put_none held waiting;
    } in
    (go, λ t. (a.0 t).1)

pub tag_ends : (j : FlvJob) (told told_out : Type 0) (input rest : List ℕ) (at place limit : ℕ) (held waiting : List ℕ) (e : ReadEnd) → at ≤ limit → AnswersTag (stretch told input rest at place limit) (Err e) → EndsTags j (stretch told input rest at place limit) told_out held held waiting waiting (end_of e)
tag_ends j told told_out input rest at place limit held waiting (reader.Refused f) le a = record {
  mid = input;
  place = at;
  bytes = [];
  read = reads_none j told input input at at limit (λ t. refl) refl le;
  ends = λ t. inl (a.0 t, a.1 t);
  put = λ t. put_none held waiting;
}
tag_ends j told told_out input rest at place limit held waiting reader.ReadFault le a = record {
  mid = input;
  place = at;
  bytes = [];
  read = reads_none j told input input at at limit (λ t. refl) refl le;
  ends = a;
  put = λ t. put_none held waiting;
}
tag_ends j told told_out input rest at place limit held waiting reader.Memory le a = record {
  mid = input;
  place = at;
  bytes = [];
  read = reads_none j told input input at at limit (λ t. refl) refl le;
  ends = tt;
  put = λ t. none_front held (waiting ++ []);
}

pub copied_end : (j : FlvJob) (s : Stretch) (told : Type 0) (held now waiting waits : List ℕ) (r : Result (Unit {0}) MediaEnd) → CopiesTags j s told held now waiting waits r → IsFileEnd (ended r)
copied_end j s told held now waiting waits (Ok done) x = tt
copied_end j s told held now waiting waits (Err (Refused f)) x = tt
copied_end j s told held now waiting waits (Err ReadFault) x = tt
copied_end j s told held now waiting waits (Err WriteFault) x = tt
copied_end j s told held now waiting waits (Err Memory) x = tt
copied_end j s told held now waiting waits (Err Done) x = tt
copied_end j s told held now waiting waits (Err (NoForm l)) x = x.ends
copied_end j s told held now waiting waits (Err LongData) x = x.ends
