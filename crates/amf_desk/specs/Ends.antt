-- Why a call has no answer, and what was seen.
use Rattle.std.specs.Prelude.{◌≡◌, ℕ, ◌<◌, false}
use Rattle.amf_broker.specs.declared.call.Call.{Call}
use Rattle.amf_broker.specs.Machine.{answer_to}
use Rattle.amf_broker.specs.Memory.{takes_none}
use Rattle.amf_desk.specs.declared.closed.DeskEnd.{DeskEnd}
use Rattle.amf_desk.specs.declared.closed.DeskEnd.TheVariants.{Spent, Memory}
use Rattle.amf_desk.specs.Histories.{state_of}
use Rattle.amf_desk.specs.Passes.{Held, Looked}

-- Spent exactly where the budget is 0, and then the pass is as before. Memory only where the answer, which would have been the next of the history, takes memory.
abbrev pub Ended : Held → ℕ → Call → Held → DeskEnd → Type 0
Ended p moment call q Spent = (p.budget ≡ 0) × (q ≡ p)
Ended p moment call q Memory = (0 < p.budget) × Looked p q × (takes_none call (answer_to (state_of q.destinations q.seen) moment call) ≡ false)
