-- What serving a link did: the desk calls that it made and the bytes that it wrote, by how it ended.
use Rattle.std.specs.Prelude.{◌≡◌, ℕ, List, [], ◌∷◌, ◌++◌, map}
use Rattle.amf_broker.specs.declared.call.Call.{Call}
use Rattle.amf_broker.specs.History.{Entry as Event}
use Rattle.amf_service.specs.Registry.{Entry}
use Rattle.amf_answer_plan.specs.Begun.{Begun}
use Rattle.amf_answer_plan.specs.Links.{LinkEnd, link}
use Rattle.amf_answer_plan.specs.Plan.{Plan}
use Rattle.amf_answer_plan.specs.Respond.{Responded, Responds, joined, written}
use Rattle.amf_answer_plan.specs.RespondLaws.{AreLawful, IsBeginning}
use Rattle.amf_answer_plan.specs.Runs.{Supply, Done, gave, Runs}

-- as the bytes of the link have it; or where the link, the memory or the calls that may be made failed
pub data ServeEnd : Type 0 where
  ended : LinkEnd → ServeEnd
  read_fault : ServeEnd
  write_fault : ServeEnd
  no_memory : ServeEnd
  spent : ServeEnd

-- the bytes that the link had left and leaves, and those that it held and holds now
pub record LinkBytes : Type 0 where
  pub left : List ℕ
  pub leaves : List ℕ
  pub held : List ℕ
  pub now : List ℕ

-- the moments and the words that were taken, and the entries that the calls have in the history of the desk
pub record Taken : Type 0 where
  pub moments : List ℕ
  pub words : List ℕ
  pub entries : List Event

abbrev pub supply_of : Taken → Supply
supply_of k = record { moments = k.moments; words = k.words; replies = map (λ e. e.answer.reply) k.entries }

abbrev pub calls_of : Taken → List (ℕ × Call)
calls_of k = map (λ e. (e.moment, e.call)) k.entries

-- the calls of these entries, and these answers
abbrev pub did : Taken → (answers : List (List ℕ)) → Done
did k answers = record { calls = calls_of k; answers = answers }

abbrev pub none_left : Supply
none_left = record { moments = []; words = []; replies = [] }

-- what the plan for these bytes says, whole, and nothing is left of what was taken
abbrev pub Wholly : Plan LinkEnd → Taken → (answers : List (List ℕ)) → LinkEnd → Type 0
Wholly plan k answers end = Runs plan (supply_of k) (did k answers) (gave end none_left)

-- the first of what it says
abbrev pub Partly : Plan LinkEnd → Taken → (answers : List (List ℕ)) → Type 0
Partly plan k answers = Begun plan (supply_of k) (did k answers)

-- the answers are the bytes that were written
abbrev pub AreWritten : LinkBytes → (bytes : List ℕ) → Type 0
AreWritten b bytes = b.now ≡ b.held ++ bytes

-- What was done by a plan for the bytes that a link has left. Where the link gives no more, what it gave is answered; where it takes no more, the last answer may be cut.
abbrev pub ServesBy : (List ℕ → Plan LinkEnd) → LinkBytes → Taken → ServeEnd → Type 0
ServesBy plan b k (ended end) = (answers : List (List ℕ)) × Wholly (plan b.left) k answers end × AreWritten b (joined answers)
ServesBy plan b k read_fault = (answers : List (List ℕ)) × (came : List ℕ) × (end : LinkEnd) × (b.left ≡ came ++ b.leaves) × Wholly (plan came) k answers end × Partly (plan b.left) k answers × AreWritten b (joined answers)
ServesBy plan b k write_fault = (answers : List (List ℕ)) × (front : List ℕ) × (back : List ℕ) × Partly (plan b.left) k (answers ++ (front ++ back) ∷ []) × AreWritten b (joined answers ++ front)
ServesBy plan b k no_memory = (answers : List (List ℕ)) × Partly (plan b.left) k answers × AreWritten b (joined answers)
ServesBy plan b k spent = (answers : List (List ℕ)) × Partly (plan b.left) k answers × AreWritten b (joined answers)

-- what the services answer to a link
abbrev pub Serves : List Entry → LinkBytes → Taken → ServeEnd → Type 0
Serves services b k end = ServesBy (link services) b k end

-- a supply, and more behind it
abbrev pub more : Supply → Supply → Supply
more s u = record { moments = s.moments ++ u.moments; words = s.words ++ u.words; replies = s.replies ++ u.replies }

-- however it ended: had more been there to take, the calls would have begun with these, and what is written with this
abbrev pub ServedIsBeginning : Type 0
ServedIsBeginning =
    (services : List Entry) → AreLawful services → (b : LinkBytes) (k : Taken) (end : ServeEnd) → Serves services b k end →
    (u : Supply) (t : Responded) → Responds services b.left (more (supply_of k) u) t → IsBeginning (calls_of k) t.calls × IsBeginning b.now (b.held ++ written t)
