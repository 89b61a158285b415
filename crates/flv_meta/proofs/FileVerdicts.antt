-- The verdict on an FLV file is one alone, and a refusal of the next tag is one of the file.
use Rattle.std.proofs.Common.{◌≡◌, ℕ, suc, ◌+◌, ◌<◌, List, [], ◌∷◌, ◌++◌, length, refl, sym, ap, ◌∙◌, arith, subst, inl, inr, append_assoc, length-append}
use Rattle.std.specs.Prelude.{flat_map}
use Rattle.std.specs.List.{AllByRecursion}
use Rattle.std.proofs.lemmas.List.{append-nil}
use Rattle.amf_io.specs.declared.reason.Reason.{Reason}
use Rattle.amf_io.specs.Field.{Field, Kind, flat}
use Rattle.amf_io.specs.Repeated.{AnyNumber, IsJudgedToEnd}
use Rattle.amf_io.specs.Verdict.{Follows, IsRefused}
use Rattle.amf_io.proofs.Inputs.{fault_is_first}
use Rattle.amf_io.proofs.Paths.{flat-append}
use Rattle.amf_io.proofs.RepeatedVerdicts as repeated
use Rattle.amf_io.proofs.Repeats.{fewer_first}
use Rattle.flv_meta.specs.File.{Tag, File, IsTag, IsFile, file_bytes}
use Rattle.flv_meta.specs.Fields.{head_fields, tag_fields, file_fields, IsTagReading, IsFileReading}
use Rattle.flv_meta.specs.FileLaws.{FilesJudged, FilesJudgedOnce, FilesFixNext, FileFaultsAreFirst, TagRefusalsLift}
use Rattle.flv_meta.specs.FileLayout.{head_layout, tag_layout, HasTags}
use Rattle.flv_meta.proofs.FileRepeats.{files_repeat, some_tags, any_tags}
use Rattle.amf_io.proofs.SameFormats.{follows_as, accepted_as, refused_as}
use Rattle.flv_meta.proofs.Tags.{file_flat}

abbrev Any : List Field → Type 0
Any = AnyNumber HasTags

pub file_refused : (base limit k : ℕ) (input : List ℕ) (r : Reason) → IsRefused Any base limit input r k → IsRefused IsFileReading base limit input r k
file_refused base limit k input r x = refused_as Any IsFileReading any_tags some_tags base limit k input r x

any_refused : (base limit k : ℕ) (input : List ℕ) (r : Reason) → IsRefused IsFileReading base limit input r k → IsRefused Any base limit input r k
any_refused base limit k input r x = refused_as IsFileReading Any some_tags any_tags base limit k input r x

pub files_judged : FilesJudged
files_judged base limit input le bytes = by (repeated.judged (λ n. head_layout []) (λ n. tag_layout) HasTags files_repeat base limit input le bytes)
  where
    by : IsJudgedToEnd Any base limit input → IsJudgedToEnd IsFileReading base limit input
    by (inl a) = inl (accepted_as Any IsFileReading any_tags some_tags base limit input _ [] a)
    by (inr (r, k, x)) = inr (r, k, file_refused base limit k input r x)

pub files_judged_once : FilesJudgedOnce
files_judged_once base limit input =
    let once = repeated.judged_once (λ n. head_layout []) (λ n. tag_layout) HasTags files_repeat base limit input in
    record {
      not_both = λ a r k x. once.not_both (accepted_as IsFileReading Any some_tags any_tags base limit input _ [] a) r k (any_refused base limit k input r x);
      one_refusal = λ r q k j x y. once.one_refusal r q k j (any_refused base limit k input r x) (any_refused base limit j input q y);
    }

pub files_fix_next : FilesFixNext
files_fix_next start other kind also e a b =
    repeated.fixes_next (λ n. head_layout []) (λ n. tag_layout) HasTags files_repeat start other kind also e (follows_as IsFileReading Any some_tags any_tags start kind a) (follows_as IsFileReading Any some_tags any_tags other also b)

pub file_faults_are_first : FileFaultsAreFirst
file_faults_are_first base at input reason f = fault_is_first IsFileReading base at input reason f

-- The next tag.

-- a tag behind a file makes a file of one tag more
all_more : (tags : List Tag) (t : Tag) → AllByRecursion IsTag tags → IsTag t → AllByRecursion IsTag (tags ++ t ∷ [])
all_more [] t all is = (is, tt)
all_more (u ∷ tags) t all is = (all.0, all_more tags t all.1 is)

fields_more : (tags : List Tag) (t : Tag) → flat_map tag_fields (tags ++ t ∷ []) ≡ flat_map tag_fields tags ++ tag_fields t
fields_more [] t = append-nil (tag_fields t)
fields_more (u ∷ tags) t = ap (λ l. tag_fields u ++ l) (fields_more tags t) ∙ sym (append_assoc (tag_fields u) (flat_map tag_fields tags) (tag_fields t))

pub one_more : (f : File) (t : Tag) → IsFile f → IsTag t → HasTags (suc (length f.tags)) (file_fields f ++ tag_fields t)
one_more f t is it = (
  record { head = f.head; tags = f.tags ++ t ∷ [] },
  record { head = is.head; tags = all_more f.tags t is.tags it },
  length-append f.tags (t ∷ []) ∙ omega arith,
  append_assoc (head_fields f.head) (flat_map tag_fields f.tags) (tag_fields t) ∙ ap (λ l. head_fields f.head ++ l) (sym (fields_more f.tags t)),
)

lifts : (f : File) → IsFile f → (start : List Field) (kind : Kind) → Follows IsTagReading start kind → Follows (HasTags (suc (length f.tags))) (file_fields f ++ start) kind
lifts f is start kind w =
    let t = w.accepted in
    record {
      next = w.next;
      more = w.more;
      is_kind = w.is_kind;
      accepted = subst (HasTags (suc (length f.tags))) (ap (λ l. file_fields f ++ l) (sym t.2) ∙ sym (append_assoc (file_fields f) start (w.next ∷ w.more))) (one_more f t.0 is t.1);
    }

-- an input that goes on behind a file is no file of as many tags or fewer
before : (f : File) (is : IsFile f) (rest input : List ℕ) → input ≡ flat (file_fields f) ++ rest → 0 < length rest → (start : List Field) (m : ℕ) → input ≡ flat (file_fields f ++ start) → m < suc (length f.tags) → HasTags m (file_fields f ++ start) → ⊥
before f is rest input parts some start m e lt p =
    let here : HasTags (length f.tags) (file_fields f) = (f, is, refl, refl) in
    let all = file_fields f ++ start in
    let o = fewer_first (λ n. head_layout []) (λ n. tag_layout) HasTags files_repeat m (length f.tags) all (file_fields f) [] rest (omega arith) p here (append-nil (flat all) ∙ sym e ∙ parts) in
    let whole : length (flat (file_fields f)) ≡ length (flat all) + length (flat o.more) = ap (λ l. length (flat l)) o.joined ∙ ap length (flat-append all o.more) ∙ length-append (flat all) (flat o.more) in
    let long : length (flat all) ≡ length (flat (file_fields f)) + length rest = ap length (sym e ∙ parts) ∙ length-append (flat (file_fields f)) rest in
    absurd (omega arith)

pub tag_refusals_lift : TagRefusalsLift
tag_refusals_lift f rest base limit at k reason is some place within r =
    let input = file_bytes f ++ rest in
    let parts : input ≡ flat (file_fields f) ++ rest = ap (λ l. l ++ rest) (sym (file_flat f)) in
    file_refused base limit k input reason
    (repeated.refusal_lifted (λ n. head_layout []) (λ n. tag_layout) HasTags files_repeat IsTagReading base limit at (file_fields f) input rest (suc (length f.tags)) parts (place ∙ ap (λ l. base + length l) (sym (file_flat f))) within (lifts f is) (before f is rest input parts some) k reason r)
