-- What is left of the input behind the whole work.
use Rattle.std.proofs.Common.{◌≡◌, ℕ, ◌+◌, ◌≤◌, List, [], ◌∷◌, ◌++◌, length, take, drop, Err, refl, ap, ◌∙◌, arith, subst, length-append}
use Rattle.std.proofs.lemmas.List.{length-take}
use Rattle.amf_io.specs.declared.window.Window.{Window}
use Rattle.amf_io.specs.declared.cursor.Cursor.{Cursor}
use Rattle.amf_io.specs.Cursor.{source_of, place, bound, ahead, unread}
use Rattle.flv_meta.specs.declared.flv_job.FlvJob.{FlvJob}
use Rattle.flv_meta.specs.declared.flv_job.FlvJob.TheVariants as job
use Rattle.amf_media.specs.declared.ending.MediaEnd.{MediaEnd}
use Rattle.amf_media.specs.declared.ending.MediaEnd.TheVariants.{Done, Refused, ReadFault, WriteFault, NoForm, LongData, Memory}
use Rattle.amf_media.specs.FlvOutput.{Work, show, drop as dropping, set}
use Rattle.amf_media.specs.FlvRuns.{most, FileEnds, FileRuns, SetRuns, behind_value, at_value, Runs, IsFileEnd, IsUntouched}
use Rattle.amf_media.specs.FlvSteps.{Moves, work_of, IsStart}
use Rattle.amf_media.specs.FlvValues.{most_of_value, ValueEnds}
use Rattle.amf_media.specs.SetSteps.{IsStarted, IsStartEnd}
use Rattle.amf_media.specs.Written.{CountsWrites}
use Rattle.amf_media.proofs.FlvFiles.{spent}

-- where nothing is read ahead, what is unread is what the source has left
none_unread : {S : Type 0} (left : S → List ℕ) (c : Cursor S Window) → ahead c ≡ 0 → unread left c ≡ left (source_of c).now
none_unread left c e = ap (λ k. take k (drop c.window.start c.window.buffer.items) ++ left c.source.now) e

none_left : (front rest : List ℕ) → front ++ rest ≡ [] → rest ≡ []
none_left [] rest e = e
none_left (x ∷ front) rest e = cc

ends_left : (w : Work) (base : ℕ) (later rest left bytes : List ℕ) (e : MediaEnd) → (rest ≡ [] → left ≡ []) → (e ≡ ReadFault → rest ≡ left) → FileEnds w base later rest bytes e → FileEnds w base later left bytes e
ends_left w base later rest left bytes Done none same h = record { file = h.file; is_file = h.is_file; parts = h.parts; within = h.within; all_read = none h.all_read; made = h.made }
ends_left w base later rest left bytes (Refused f) none same h = h
ends_left w base later rest left bytes ReadFault none same h = record { given = h.given; parts = h.parts ∙ ap (λ l. h.given ++ l) (same refl); within = h.within; at = h.at; cut_off = h.cut_off; made = h.made }
ends_left w base later rest left bytes WriteFault none same h = h
ends_left w base later rest left bytes Memory none same h = h
ends_left w base later rest left bytes (NoForm l) none same h = h
ends_left w base later rest left bytes LongData none same h = h

pub runs_left : {S : Type 0} (tells : S → Type 0) (left : S → List ℕ) (faults : S → ℕ) (c d : Cursor S Window) (w : Work) (base : ℕ) (later : List ℕ) (told : Type 0) (held now : List ℕ) (e : MediaEnd) → Moves tells left faults c d e → FileRuns w base later (unread left d) told held now e → FileRuns w base later (left (source_of d).now) told held now e
runs_left tells left faults c d w base later told held now e m h = record {
  bytes = h.bytes;
  ends = ends_left w base later (unread left d) (left (source_of d).now) h.bytes e (λ z. none_left (take (ahead d) (drop d.window.start d.window.buffer.items)) (left (source_of d).now) z) (λ f. none_unread left d (m.none_ahead f)) h.ends;
  written = h.written;
}

pub runs_so : (j : FlvJob) (input rest : List ℕ) (told : Type 0) (held now : List ℕ) (e : MediaEnd) → (j ≡ job.Set → ⊥) → ((value : List ℕ) → IsStart j value [] → FileRuns (work_of j value) 0 input rest told held now e) → Runs j input rest told held now e
runs_so job.Show input rest told held now e plain h = h [] tt
runs_so job.Drop input rest told held now e plain h = h [] tt
runs_so job.Set input rest told held now e plain h = absurd (plain refl)

-- what is unread is what was read ahead, and what the source has left
unread_within : {S : Type 0} (left : S → List ℕ) (c : Cursor S Window) → length (unread left c) ≤ ahead c + length (left (source_of c).now)
unread_within left c =
    let waits = take (ahead c) (drop c.window.start c.window.buffer.items) in
    omega (arith, length-append waits (left c.source.now), length-take (ahead c) (drop c.window.start c.window.buffer.items))

-- no more than one byte past the most was taken
taken_whole : (at end next behind ahead rest limit bound : ℕ) → at ≡ 0 → limit ≡ most → bound ≡ limit → end + behind ≡ at + next → end + ahead ≤ bound + 1 → behind ≤ ahead + rest → next ≤ rest + (most + 1)
taken_whole at end next behind ahead rest limit bound z l b total past within = omega arith

pub taken_by : {S : Type 0} (tells : S → Type 0) (left : S → List ℕ) (faults : S → ℕ) (c d : Cursor S Window) (e : MediaEnd) → place c ≡ 0 → bound c ≡ most → Moves tells left faults c d e → tells (source_of c).now → length (unread left c) ≤ length (left (source_of d).now) + (most + 1)
taken_by tells left faults c d e z l m t = taken_whole (place c) (place d) (length (unread left c)) (length (unread left d)) (ahead d) (length (left (source_of d).now)) (bound c) (bound d) z l m.same_bound (m.total t) m.one_past (unread_within left d)

-- Where the work ends at the value of `set`.

pub value_left : {S : Type 0} (tells : S → Type 0) (left : S → List ℕ) (faults : S → ℕ) (c d : Cursor S Window) (input : List ℕ) (e : MediaEnd) → Moves tells left faults c d e → ValueEnds input (unread left d) e → ValueEnds input (left (source_of d).now) e
value_left tells left faults c d input (Refused f) m h = h
value_left tells left faults c d input ReadFault m h = subst (λ l. ValueEnds input l ReadFault) (none_unread left d (m.none_ahead refl)) h
value_left tells left faults c d input (NoForm l) m h = h
value_left tells left faults c d input LongData m h = h
value_left tells left faults c d input Memory m h = h
value_left tells left faults c d input Done m h = h
value_left tells left faults c d input WriteFault m h = h

taken_part : (at end next behind ahead rest limit bound : ℕ) → at ≡ 0 → limit ≡ most_of_value → bound ≡ limit → end + behind ≡ at + next → end + ahead ≤ bound + 1 → behind ≤ ahead + rest → next ≤ rest + (most_of_value + 1)
taken_part at end next behind ahead rest limit bound z l b total past within = omega arith

pub taken_at_value : {S : Type 0} (tells : S → Type 0) (left : S → List ℕ) (faults : S → ℕ) (c d : Cursor S Window) (e : MediaEnd) → place c ≡ 0 → bound c ≡ most_of_value → Moves tells left faults c d e → tells (source_of c).now → length (unread left c) ≤ length (left (source_of d).now) + (most_of_value + 1)
taken_at_value tells left faults c d e z l m t = taken_part (place c) (place d) (length (unread left c)) (length (unread left d)) (ahead d) (length (left (source_of d).now)) (bound c) (bound d) z l m.same_bound (m.total t) m.one_past (unread_within left d)

taken_on : (end next behind ahead rest bound mid between : ℕ) → mid + between ≡ next → bound ≡ most → end + behind ≡ mid + between → end + ahead ≤ bound + 1 → behind ≤ ahead + rest → next ≤ rest + (most + 1)
taken_on end next behind ahead rest bound mid between first b total past within = omega arith

-- the cursor was raised behind the value
pub taken_behind : {S : Type 0} (tells : S → Type 0) (left : S → List ℕ) (faults : S → ℕ) (c d r e : Cursor S Window) (end : MediaEnd) → place c ≡ 0 → Moves tells left faults c d Done → place r ≡ place d → unread left r ≡ unread left d → bound r ≡ most → Moves tells left faults r e end → tells (source_of c).now → tells (source_of r).now → length (unread left c) ≤ length (left (source_of e).now) + (most + 1)
taken_behind tells left faults c d r e end z m p u b n t y =
    let first : place r + length (unread left r) ≡ length (unread left c) = ap (λ k. k + length (unread left r)) p ∙ ap (λ l. place d + length l) u ∙ m.total t ∙ ap (λ k. k + length (unread left c)) z ∙ omega arith in
    taken_on (place e) (length (unread left c)) (length (unread left e)) (ahead e) (length (left (source_of e).now)) (bound e) (place r) (length (unread left r)) first (n.same_bound ∙ b) (n.total y) n.one_past (unread_within left e)

-- the value was read, the cursor was raised, and the work on the file ended
pub set_behind : {S : Type 0} (tells : S → Type 0) (left : S → List ℕ) (faults : S → ℕ) (c d r e : Cursor S Window) (start : List ℕ) (told : Type 0) (held now : List ℕ) (end : MediaEnd)
    → IsStarted start (unread left c) (unread left d) (place d) → place r ≡ place d → unread left r ≡ unread left d → Moves tells left faults r e end
    → ((value : List ℕ) → IsStart job.Set value start → FileRuns (work_of job.Set value) (place r) (unread left r) (unread left e) told held now end) → SetRuns (unread left c) (left (source_of e).now) told held now end
set_behind tells left faults c d r e start told held now end i p u m h =
    let first : FileRuns (set i.value) (place r) (unread left d) (unread left e) told held now end = subst (λ l. FileRuns (set i.value) (place r) l (unread left e) told held now end) u (h i.value i.is) in
    let then : FileRuns (set i.value) (length i.front) (unread left d) (unread left e) told held now end = subst (λ n. FileRuns (set i.value) n (unread left d) (unread left e) told held now end) (p ∙ i.place_is) first in
    behind_value i.value i.front (unread left d) i.there i.parts (runs_left tells left faults r e (set i.value) (length i.front) (unread left d) told held now end m then)

-- What is so of any end.

-- no memory from the start
pub runs_spent : (j : FlvJob) (input : List ℕ) (told : Type 0) (held : List ℕ) → Runs j input input told held held Memory
runs_spent job.Show input told held = spent show 0 input input told held
runs_spent job.Drop input told held = spent dropping 0 input input told held
runs_spent job.Set input told held = at_value tt refl (omega arith)

pub file_untouched : {O : Type 0} (old new : O) (e : MediaEnd) → IsFileEnd e → IsUntouched old new e
file_untouched old new Done f = tt
file_untouched old new (Refused x) f = tt
file_untouched old new ReadFault f = tt
file_untouched old new WriteFault f = tt
file_untouched old new Memory f = tt
file_untouched old new (NoForm l) f = absurd f
file_untouched old new LongData f = absurd f

pub same_untouched : {O : Type 0} (o : O) (e : MediaEnd) → IsUntouched o o e
same_untouched o Done = tt
same_untouched o (Refused x) = tt
same_untouched o ReadFault = tt
same_untouched o WriteFault = tt
same_untouched o Memory = tt
same_untouched o (NoForm l) = refl
same_untouched o LongData = refl

pub start_counts : (n : ℕ) (e : MediaEnd) → IsStartEnd {X = Unit {0}} (Err e) → CountsWrites n n e
start_counts n Done s = absurd s
start_counts n (Refused x) s = refl
start_counts n ReadFault s = refl
start_counts n WriteFault s = absurd s
start_counts n Memory s = refl
start_counts n (NoForm l) s = refl
start_counts n LongData s = refl
