-- A device of proofs: what the steps of answering a link come to, by their results.
use Rattle.std.specs.Prelude.{◌≡◌, ℕ, ◌≤◌, Bool, true, false, if◌then◌else◌, IsTrue, List, [], ◌++◌, Some, None, Result, Ok, Err, ⊤}
use Rattle.amf_io.specs.Outside.{Rose}
use Rattle.amf_io.specs.declared.link.Link.{Ghosts as LinkMembers}
use Rattle.amf_http.specs.declared.ends.AnswerEnd.{AnswerEnd}
use Rattle.amf_http.specs.declared.ends.AnswerEnd.TheVariants as unwritten_by
use Rattle.amf_http.specs.Request.{IsOpen}
use Rattle.amf_http.specs.Response.{response, is_status}
use Rattle.amf_service.specs.Registry.{Entry}
use Rattle.amf_gateway.specs.declared.links.Answer.{Answer}
use Rattle.amf_gateway.specs.declared.links.Answer.TheVariants.{Packet, Status}
use Rattle.amf_gateway.specs.declared.links.LinkEnd.{LinkEnd as Ending}
use Rattle.amf_gateway.specs.declared.links.LinkEnd.TheVariants.{Closed, Refused, Truncated, ReadFault, WriteFault, Spent, Memory}
use Rattle.amf_gateway.specs.Answered.{body_bytes}
use Rattle.amf_gateway.specs.Answering.{Next, over, status_alone, packet, next, one_more}
use Rattle.amf_answer_plan.specs.Begun.{Begun}
use Rattle.amf_answer_plan.specs.Did.{Drawn, none_taken, Ran, StopsAt, Stopped}
use Rattle.amf_answer_plan.specs.Links.{LinkEnd, closed, truncated, link}
use Rattle.amf_answer_plan.specs.Plan.{Plan}
use Rattle.amf_answer_plan.specs.Respond.{joined}
use Rattle.amf_answer_plan.specs.Runs.{gave, Runs}
use Rattle.amf_gateway.specs.ServesLink.{end_of, CountsLink}
use Rattle.amf_answer_plan.specs.Stands.{Stands, StopsBy}
use Rattle.amf_answer_plan.specs.Serving.{ServeEnd, no_memory, spent, Taken, supply_of, did, none_left, LinkBytes, AreWritten, ServesBy, Serves}

-- where it stops, as long as it is not known why a link was not answered whole: at such a step where memory or calls ran out
abbrev pub HaltsBy : (At : Plan LinkEnd → Type 0) → (List ℕ → Plan LinkEnd) → LinkBytes → Taken → ServeEnd → Type 0
HaltsBy At plan b k no_memory = (answers : List (List ℕ)) × Stands At (plan b.left) (supply_of k) (did k answers) × AreWritten b (joined answers)
HaltsBy At plan b k spent = (answers : List (List ℕ)) × Stands At (plan b.left) (supply_of k) (did k answers) × AreWritten b (joined answers)
HaltsBy At plan b k end = StopsBy plan b k end

abbrev pub Halts : List Entry → LinkBytes → Drawn → ServeEnd → Type 0
Halts services b k end = HaltsBy (StopsAt k.unanswered) (link services) b k.taken end

-- each call had an answer, but where memory or calls ran out
abbrev pub AllAnswered : ServeEnd → (unanswered : Bool) → Type 0
AllAnswered no_memory unanswered = ⊤
AllAnswered spent unanswered = ⊤
AllAnswered end unanswered = unanswered ≡ false

abbrev pub AnsweredBy : {X : Type 0} → Result X Ending → (unanswered : Bool) → Type 0
AnsweredBy (Ok x) unanswered = unanswered ≡ false
AnsweredBy (Err end) unanswered = AllAnswered (end_of end) unanswered

-- between two states of the outside, a link was served with these services, where it tells what it has left and what it holds
pub record ServedLink {O : Type 0} (handed : O → O → Drawn → Type 0) (services : List Entry) (old new : O) (tells_left tells_held : Type 0) (b : LinkBytes) (end : Ending) : Type 0 where
  pub took : Drawn
  pub was_handed : handed old new took
  pub answered : AllAnswered (end_of end) took.unanswered
  pub serves : tells_left → tells_held → Serves services b took.taken (end_of end)
  pub stops : tells_left → tells_held → Halts services b took (end_of end)

-- a request is answered with the bytes of a packet, or with a bad request
abbrev pub AnswersRequest : {O : Type 0} (handed : O → O → Drawn → Type 0) → List Entry → (body : List ℕ) → (close : Bool) → (old new : O) → Result Answer Ending → Type 0
AnswersRequest handed services body close old new (Ok (Packet bytes closes)) = Ran handed (body_bytes services body) old new (Some bytes.items) × (closes ≡ close)
AnswersRequest handed services body close old new (Ok (Status status)) = Ran handed (body_bytes services body) old new None × (status ≡ 400)
AnswersRequest handed services body close old new (Err Spent) = Stopped handed (body_bytes services body) old new
AnswersRequest handed services body close old new (Err Memory) = Stopped handed (body_bytes services body) old new
AnswersRequest handed services body close old new (Err _) = ⊥

-- this comes next of a link with these bytes to come, by all that was taken
abbrev pub Gives : List Entry → (last : Bool) → (bytes : List ℕ) → Taken → Next → Type 0
Gives services last bytes k n = Runs (next services last bytes) (supply_of k) (did k []) (gave n none_left)

-- or some first steps of it were done
abbrev pub Begins : List Entry → (last : Bool) → (bytes : List ℕ) → Taken → Type 0
Begins services last bytes k = Begun (next services last bytes) (supply_of k) (did k [])

-- and here it stopped
abbrev pub Pauses : List Entry → (last : Bool) → (bytes : List ℕ) → Drawn → Type 0
Pauses services last bytes k = Stands (StopsAt k.unanswered) (next services last bytes) (supply_of k.taken) (did k.taken [])

-- What was read. A packet answers the bytes that were used, whatever follows them. Where a read failed, the bytes that came would end the link, and are open, and nothing was taken.
abbrev pub ComesBy : List Entry → (last : Bool) → (bytes rest leaves : List ℕ) → Drawn → Result Answer Ending → Type 0
ComesBy services last bytes rest leaves k (Ok (Packet answer close)) = (used : List ℕ) × (bytes ≡ used ++ rest) × ((x : List ℕ) → Gives services last (used ++ x) k.taken (packet answer.items close x))
ComesBy services last bytes rest leaves k (Ok (Status status)) = Gives services last bytes k.taken (status_alone status)
ComesBy services last bytes rest leaves k (Err Closed) = Gives services last bytes k.taken (over closed)
ComesBy services last bytes rest leaves k (Err Truncated) = Gives services last bytes k.taken (over truncated)
ComesBy services last bytes rest leaves k (Err ReadFault) = (came : List ℕ) × (end : LinkEnd) × (bytes ≡ came ++ leaves) × Gives services last came k.taken (over end) × Begins services last bytes k.taken × IsOpen came × (k ≡ none_taken)
ComesBy services last bytes rest leaves k (Err Spent) = Pauses services last bytes k
ComesBy services last bytes rest leaves k (Err Memory) = Pauses services last bytes k
ComesBy services last bytes rest leaves k (Err _) = ⊥

pub record Comes {O : Type 0} (handed : O → O → Drawn → Type 0) (services : List Entry) (last : Bool) (old new : O) (tells : Type 0) (bytes rest leaves : List ℕ) (r : Result Answer Ending) : Type 0 where
  pub took : Drawn
  pub was_handed : handed old new took
  pub answered : AnsweredBy r took.unanswered
  pub comes : tells → ComesBy services last bytes rest leaves took r

-- a status that stands alone is one that is written
abbrev pub IsAnswer : Answer → Type 0
IsAnswer (Packet bytes close) = ⊤
IsAnswer (Status status) = IsTrue (is_status status)

-- the bytes of an answer
abbrev pub written_as : Answer → List ℕ
written_as (Packet bytes close) = response 200 bytes.items close
written_as (Status status) = response status [] true

-- whether the link goes on after an answer, and how it ends where it does not
abbrev pub ends_with : Answer → Result (Unit {0}) Ending
ends_with (Packet bytes close) = if close then Err Closed else Ok tt
ends_with (Status status) = Err (Refused status)

-- how a link ends where an answer is not written whole
abbrev pub unwritten : AnswerEnd → Ending
unwritten unwritten_by.WriteFault = WriteFault
unwritten unwritten_by.Memory = Memory

-- One request was answered, and the link goes on; or it ended.
abbrev pub StepsBy : List Entry → (last : Bool) → LinkBytes → (rest : List ℕ) → Drawn → Result (Unit {0}) Ending → Type 0
StepsBy services last b rest k (Ok done) = (used bytes : List ℕ) × (b.left ≡ used ++ rest) × ((x : List ℕ) → Gives services last (used ++ x) k.taken (packet bytes false x)) × (b.now ≡ b.held ++ response 200 bytes false)
StepsBy services last b rest k (Err end) = (after : List ℕ → Plan LinkEnd) → ServesBy (one_more services last after) b k.taken (end_of end) × HaltsBy (StopsAt k.unanswered) (one_more services last after) b k.taken (end_of end)

pub record Steps {O : Type 0} (handed : O → O → Drawn → Type 0) (services : List Entry) (last : Bool) (old new : O) (tells_left tells_held : Type 0) (b : LinkBytes) (rest : List ℕ) (r : Result (Unit {0}) Ending) : Type 0 where
  pub took : Drawn
  pub was_handed : handed old new took
  pub answered : AnsweredBy r took.unanswered
  pub steps : tells_left → tells_held → StepsBy services last b rest took r

abbrev pub CountsStep : (reads reads_now writes writes_now : ℕ) → Result (Unit {0}) Ending → Type 0
CountsStep reads reads_now writes writes_now (Ok done) = (reads_now ≡ reads) × (writes_now ≡ writes)
CountsStep reads reads_now writes writes_now (Err end) = CountsLink reads reads_now writes writes_now (end_of end)

-- nothing was written, a read fault is counted, and without one the count stays
abbrev pub CountsReads : (reads reads_now : ℕ) → Result Answer Ending → Type 0
CountsReads reads reads_now (Err ReadFault) = (reads ≤ reads_now) × Rose reads reads_now
CountsReads reads reads_now (Err WriteFault) = ⊥
CountsReads reads reads_now (Err _) = reads_now ≡ reads
CountsReads reads reads_now (Ok answer) = reads_now ≡ reads

-- The same on a link, as it came and as it was left, by what it tells, with the bytes that are kept of it before and after.

abbrev pub ComesOn : {O L : Type 0} → LinkMembers L → (handed : O → O → Drawn → Type 0) → List Entry → (last : Bool) → (old new : O) → (kept keeps : List ℕ) → (a b : L) → Result Answer Ending → Type 0
ComesOn m handed services last old new kept keeps a b r = Comes handed services last old new (m.tells_left a) (kept ++ m.left a) (keeps ++ m.left b) (m.left b) r

abbrev pub StepsOn : {O L : Type 0} → LinkMembers L → (handed : O → O → Drawn → Type 0) → List Entry → (last : Bool) → (old new : O) → (kept keeps : List ℕ) → (a b : L) → Result (Unit {0}) Ending → Type 0
StepsOn m handed services last old new kept keeps a b r =
    Steps handed services last old new (m.tells_left a) (m.tells_held b) (record { left = kept ++ m.left a; leaves = m.left b; held = m.held a; now = m.held b }) (keeps ++ m.left b) r

abbrev pub ServedOn : {O L : Type 0} → LinkMembers L → (handed : O → O → Drawn → Type 0) → List Entry → (old new : O) → (a b : L) → Ending → Type 0
ServedOn m handed services old new a b end = ServedLink handed services old new (m.tells_left a) (m.tells_held b) (record { left = m.left a; leaves = m.left b; held = m.held a; now = m.held b }) end
