-- The verdict on a shared object file is one alone.
use Rattle.std.proofs.Common.{◌≡◌, ℕ, ◌-◌, List, [], length, take, refl, sym, ◌∙◌, inl, inr, ◌⊎◌}
use Rattle.std.proofs.lemmas.Bool.{cases_eq}
use Rattle.std.specs.Prelude.{drop}
use Rattle.std.specs.Int.{from_be_bytes, w32}
use Rattle.amf_io.specs.declared.reason.Reason.{Reason}
use Rattle.amf_io.specs.declared.reason.Reason.TheVariants.{BadLength}
use Rattle.amf_io.specs.Field.{Field, Kind}
use Rattle.amf_io.specs.Verdict.{Follows, Opens, IsFault, IsCutOff, IsRefused, faulty, truncated, too_large, IsAccepted}
use Rattle.amf_io.proofs.Inputs.{fault_is_first}
use Rattle.amf_sol.specs.SharedObject.{IsFileReading}
use Rattle.amf_sol.specs.FileLaws.{FilesJudged, FilesJudgedOnce, FilesFixFields, FilesFixNext, FileFaultsAreFirst}
use Rattle.amf_sol.specs.FileLayout.{head_layout, pair_layout, HasPairs}
use Rattle.amf_sol.specs.FileVerdict.{HasItsLength, IsWholeFile, IsFileAccepted, IsFileRefused, refused, bad_length}
use Rattle.amf_io.specs.Repeated.{AnyNumber, IsAcceptedToEnd, IsJudgedToEnd}
use Rattle.amf_sol.proofs.FileRepeats.{files_repeat, some_pairs, any_pairs}
use Rattle.amf_sol.proofs.OneCutToEnd.{one_cut_to_end}
use Rattle.amf_io.proofs.RepeatedVerdicts as repeated

-- two formats that accept the same lists have the same verdicts
module _ (P Q : List Field → Type 0) (to : (fs : List Field) → P fs → Q fs) (back : (fs : List Field) → Q fs → P fs) where
  pub follows_as : (start : List Field) (kind : Kind) → Follows P start kind → Follows Q start kind
  follows_as start kind f = record { next = f.next; more = f.more; is_kind = f.is_kind; accepted = to _ f.accepted }

  opens_back : (front : List ℕ) → Opens Q front → Opens P front
  opens_back front o = record { fields = o.fields; rest = o.rest; accepted = back o.fields o.accepted; begins = o.begins }

  fault_as : (base k : ℕ) (w : List ℕ) (r : Reason) → IsFault P base w r k → IsFault Q base w r k
  fault_as base k w r f = record { start = f.start; kind = f.kind; rest = f.rest; size = f.size; follows = follows_as f.start f.kind f.follows; place = f.place; parts = f.parts; is_whole = f.is_whole; refused = f.refused; none = λ o. f.none (opens_back _ o) }

  pub cut_as : (base k : ℕ) (w : List ℕ) → IsCutOff P base w k → IsCutOff Q base w k
  cut_as base k w c = record { start = c.start; kind = c.kind; rest = c.rest; follows = follows_as c.start c.kind c.follows; place = c.place; parts = c.parts; is_short = c.is_short }

  pub accepted_as : (base limit : ℕ) (input : List ℕ) (at : ℕ) (rest : List ℕ) → IsAccepted P base limit input at rest → IsAccepted Q base limit input at rest
  accepted_as base limit input at rest a = record { fields = a.fields; accepted = to a.fields a.accepted; parts = a.parts; place = a.place; within = a.within }

pub refused_as : (P Q : List Field → Type 0) (to : (fs : List Field) → P fs → Q fs) (back : (fs : List Field) → Q fs → P fs) (base limit k : ℕ) (input : List ℕ) (r : Reason) → IsRefused P base limit input r k → IsRefused Q base limit input r k
refused_as P Q to back base limit k input r (faulty f) = faulty (fault_as P Q to back base k (take (limit - base) input) r f)
refused_as P Q to back base limit k input r (truncated why t) = truncated why (record { within = t.within; cut_off = cut_as P Q to back base k input t.cut_off; not_accepted = λ fs q e. t.not_accepted fs (back fs q) e })
refused_as P Q to back base limit k input r (too_large why t) = too_large why (record { longer = t.longer; cut_off = cut_as P Q to back base k (take (limit - base) input) t.cut_off; least = λ j c. t.least j (cut_as Q P back to base j (take (limit - base) input) c) })

abbrev Any : List Field → Type 0
Any = AnyNumber HasPairs

-- a refusal of all but the length, and back
pub file_refused : (base limit k : ℕ) (input : List ℕ) (r : Reason) → IsRefused Any base limit input r k → IsRefused IsFileReading base limit input r k
file_refused base limit k input r x = refused_as Any IsFileReading any_pairs some_pairs base limit k input r x

pub file_cut : (base k : ℕ) (input : List ℕ) → IsCutOff Any base input k → IsCutOff IsFileReading base input k
file_cut base k input x = cut_as Any IsFileReading any_pairs some_pairs base k input x

any_refused : (base limit k : ℕ) (input : List ℕ) (r : Reason) → IsRefused IsFileReading base limit input r k → IsRefused Any base limit input r k
any_refused base limit k input r x = refused_as IsFileReading Any some_pairs any_pairs base limit k input r x

any_whole : (base limit : ℕ) (input : List ℕ) → IsWholeFile base limit input → IsAcceptedToEnd Any base limit input
any_whole base limit input a = accepted_as IsFileReading Any some_pairs any_pairs base limit input _ [] a

pub files_judged : FilesJudged
files_judged base limit input le bytes = by (repeated.judged (λ n. head_layout) pair_layout HasPairs files_repeat base limit input le bytes)
  where
    by : IsJudgedToEnd Any base limit input → IsFileAccepted base limit input ⊎ ((reason : Reason) × (at : ℕ) × IsFileRefused base limit input reason at)
    by (inl a) = length_judged (cases_eq (from_be_bytes w32 (take 4 (drop 2 input))) (length (drop 6 input)))
      where
        length_judged : HasItsLength input ⊎ (HasItsLength input → ⊥) → IsFileAccepted base limit input ⊎ ((reason : Reason) × (at : ℕ) × IsFileRefused base limit input reason at)
        length_judged (inl e) = inl (accepted_as Any IsFileReading any_pairs some_pairs base limit input _ [] a, e)
        length_judged (inr n) = inr (BadLength, _, bad_length refl refl (accepted_as Any IsFileReading any_pairs some_pairs base limit input _ [] a) n)
    by (inr (r, k, x)) = inr (r, k, refused (file_refused base limit k input r x))

not_both : (base limit k : ℕ) (input : List ℕ) (r : Reason) → IsWholeFile base limit input → IsRefused IsFileReading base limit input r k → ⊥
not_both base limit k input r a x = (repeated.judged_once (λ n. head_layout) pair_layout HasPairs files_repeat base limit input).not_both (any_whole base limit input a) r k (any_refused base limit k input r x)

not_refused : (base limit k : ℕ) (input : List ℕ) (r : Reason) → IsFileAccepted base limit input → IsFileRefused base limit input r k → ⊥
not_refused base limit k input r a (refused x) = not_both base limit k input r a.0 x
not_refused base limit k input r a (bad_length why at b n) = n a.1

one_refusal : (base limit : ℕ) (input : List ℕ) (r q : Reason) (k j : ℕ) → IsFileRefused base limit input r k → IsFileRefused base limit input q j → (r ≡ q) × (k ≡ j)
one_refusal base limit input r q k j (refused x) (refused y) = (repeated.judged_once (λ n. head_layout) pair_layout HasPairs files_repeat base limit input).one_refusal r q k j (any_refused base limit k input r x) (any_refused base limit j input q y)
one_refusal base limit input r q k j (refused x) (bad_length how at b n) = absurd (not_both base limit k input r b x)
one_refusal base limit input r q k j (bad_length why at b n) (refused y) = absurd (not_both base limit j input q b y)
one_refusal base limit input r q k j (bad_length why at b n) (bad_length how place c o) = (why ∙ sym how, at ∙ sym place)

pub files_judged_once : FilesJudgedOnce
files_judged_once base limit input = record { not_both = λ a r k x. not_refused base limit k input r a x; one_refusal = λ r q k j x y. one_refusal base limit input r q k j x y }

pub files_fix_fields : FilesFixFields
files_fix_fields fs gs p q e = one_cut_to_end (λ n. head_layout) pair_layout HasPairs files_repeat fs gs (some_pairs fs p) (some_pairs gs q) e

pub files_fix_next : FilesFixNext
files_fix_next start other kind also e a b =
    repeated.fixes_next (λ n. head_layout) pair_layout HasPairs files_repeat start other kind also e (follows_as IsFileReading Any some_pairs any_pairs start kind a) (follows_as IsFileReading Any some_pairs any_pairs other also b)

pub file_faults_are_first : FileFaultsAreFirst
file_faults_are_first base at input reason f = fault_is_first IsFileReading base at input reason f
