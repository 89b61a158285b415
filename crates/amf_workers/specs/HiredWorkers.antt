-- Workers that are hired, at work, and taken in. A device of proofs.
use Rattle.std.specs.Prelude.{◌≡◌, ◌≢◌, ℕ, ◌+◌, ◌*◌, ◌^◌, ◌<◌, List, [], ◌∷◌, length, slice_index_or, ⊤}
use Rattle.amf_io.specs.declared.link.Link.{Ghosts as LinkMembers}
use Rattle.amf_desk.specs.Histories.{own}
use Rattle.amf_desk.specs.Passes.{Held}
use Rattle.amf_service.specs.Registry.{Entry}
use Rattle.amf_gateway.specs.Served.{WorkerServed}
use Rattle.amf_gateway.specs.Tells.{HallMembers}
use Rattle.amf_workers.specs.declared.hired_worker.HiredWorker.{HiredWorker}

-- the pass is the n-th that was split off the first, may make so many calls, and has no entry of its own
pub record IsFresh (first : Held) (share n : ℕ) (p : Held) : Type 0 where
  pub desk_is : p.desk ≡ first.desk
  pub number : p.number ≡ n
  pub budget : p.budget ≡ share
  pub none_own : own n p.seen ≡ []

-- the worker of a hall
pub record Hired {H L : Type 0} (first : Held) (share n : ℕ) (hall : H) (w : HiredWorker H L) : Type 0 where
  pub fresh : IsFresh first share n w.worker.pass
  pub hall_is : w.worker.hall ≡ hall

-- the workers of these halls, of which the first has the n-th pass
abbrev pub AllHired : {H L : Type 0} → Held → (share n : ℕ) → List H → List (HiredWorker H L) → Type 0
AllHired first share n [] [] = ⊤
AllHired first share n (h ∷ hs) (w ∷ ws) = Hired first share n h w × AllHired first share (n + 1) hs ws
AllHired first share n _ _ = ⊥

-- the workers of so many halls, each with 2^55 of the calls that the first pass had
abbrev pub Hires : {H L : Type 0} → (before after : Held) → (many : ℕ) → List H → List (HiredWorker H L) → Type 0
Hires before after many hs ws = AllHired before (2 ^ 55) 1 hs ws × (after.budget + many * 2 ^ 55 ≡ before.budget)

-- a worker has served the links of its hall, between these two states
abbrev pub HiredServed : {H L : Type 0} → HallMembers H L → LinkMembers L → List Entry → (each : ℕ) → (a b : HiredWorker H L) → Type 0
HiredServed hall link services each a b = WorkerServed hall link services each a.worker b.worker b.end

-- each worker has done so
abbrev pub AllServed : {H L : Type 0} → HallMembers H L → LinkMembers L → List Entry → (each : ℕ) → List (HiredWorker H L) → List (HiredWorker H L) → Type 0
AllServed {H} {L} hall link services each xs ys = (length ys ≡ length xs) × ((i : ℕ) (d : HiredWorker H L) → i < length xs → HiredServed hall link services each (slice_index_or xs i d) (slice_index_or ys i d))

-- the worker's pass can be joined into the first one of the desk
abbrev pub CanJoin : {H L : Type 0} → Held → HiredWorker H L → Type 0
CanJoin first w = (w.worker.pass.desk ≡ first.desk) × (w.worker.pass.number ≢ 0)
