-- How a run with `serve` ends.
use Rattle.std.proofs.Common.{◌≡◌, ◌⊎◌, inl, inr, ℕ, Bool, true, false, List, Ok, Err, refl, sym, subst, arith}
use Rattle.std.proofs.lemmas.List.{append-nil}
use Rattle.amf_io.specs.Outside.{Rose}
use Rattle.amf_io.specs.declared.link.Link.{Ghosts as LinkMembers}
use Rattle.amf_io.specs.declared.front.Front.{Ghosts as FrontMembers}
use Rattle.amf_desk.specs.declared.closed.Closed.{Closed}
use Rattle.amf_service.specs.Registry.{Entry}
use Rattle.amf_gateway.specs.Tells.{HallMembers}
use Rattle.amf_workers.specs.Together.{CountsFaults, Serves}
use Rattle.amf_workers.specs.declared.answer.ServeAnswer.{ServeAnswer}
use Rattle.amf_workers.specs.declared.answer.ServeAnswer.TheVariants as answer
use Rattle.amf_commands.specs.declared.command.ServeOptions.{ServeOptions}
use Rattle.amf_commands.specs.declared.run_end.RunEnd.{RunEnd}
use Rattle.amf_commands.specs.declared.run_end.RunEnd.TheVariants.{Refused, Usage, ReadFault, WriteFault, NoMemory, FrontFault, NoForm}
use Rattle.amf_commands.specs.Lines.{status_of}
use Rattle.amf_cli.specs.Lines.{served_line}
use Rattle.amf_commands.specs.Run.{CountsWrites}
use Rattle.amf_cli.specs.Serving.{ServeRun, ServeStarved, had_fault}
use Rattle.amf_cli.specs.ServeEnds.{End, first_end, TellsLine, IsServeEnd, EndsServe, ServesTo, CountsFront}

-- the line was told, or not
pub concluded : (kept told : Type 0) (held now : List ℕ) (before after : ℕ) (counts : Closed) (starved : Bool) (r : End) (faulty : Bool) → TellsLine told held now (served_line counts) r → CountsWrites before after r → EndsServe kept told held now before after (answer.Closed counts starved faulty) (first_end starved r faulty)
concluded kept told held now before after counts true (Ok x) faulty t c = (refl, (λ is. absurd cc), inl t)
concluded kept told held now before after counts true (Err (Refused f)) faulty t c = absurd t
concluded kept told held now before after counts true (Err Usage) faulty t c = absurd t
concluded kept told held now before after counts true (Err ReadFault) faulty t c = absurd t
concluded kept told held now before after counts true (Err WriteFault) faulty t c = (refl, (λ is. absurd cc), inr (c.1, t))
concluded kept told held now before after counts true (Err NoMemory) faulty t c = absurd t
concluded kept told held now before after counts true (Err FrontFault) faulty t c = absurd t
concluded kept told held now before after counts true (Err (NoForm v l)) faulty t c = absurd t
concluded kept told held now before after counts false (Ok x) true t c = (refl, refl, t)
concluded kept told held now before after counts false (Ok x) false t c = (refl, refl, t)
concluded kept told held now before after counts false (Err (Refused f)) faulty t c = absurd t
concluded kept told held now before after counts false (Err Usage) faulty t c = absurd t
concluded kept told held now before after counts false (Err ReadFault) faulty t c = absurd t
concluded kept told held now before after counts false (Err WriteFault) faulty t c = (refl, t)
concluded kept told held now before after counts false (Err NoMemory) faulty t c = absurd t
concluded kept told held now before after counts false (Err FrontFault) faulty t c = absurd t
concluded kept told held now before after counts false (Err (NoForm v l)) faulty t c = absurd t

pub writes_concluded : (before now : ℕ) (told : Type 0) (held holds line : List ℕ) (starved : Bool) (r : End) (faulty : Bool) → TellsLine told held holds line r → CountsWrites before now r → CountsWrites before now (first_end starved r faulty)
writes_concluded before now told held holds line true r faulty t c = tt
writes_concluded before now told held holds line false (Ok x) true t c = c
writes_concluded before now told held holds line false (Ok x) false t c = c
writes_concluded before now told held holds line false (Err e) faulty t c = c

-- the same of an answer and an end that are these
pub concluded_as : (kept told : Type 0) (held now : List ℕ) (before after : ℕ) (a : ServeAnswer) (counts : Closed) (starved : Bool) (r : End) (faulty : Bool) (e : End) → a ≡ answer.Closed counts starved faulty → e ≡ first_end starved r faulty → TellsLine told held now (served_line counts) r → CountsWrites before after r → EndsServe kept told held now before after a e
concluded_as kept told held now before after a counts starved r faulty e is ends t c =
    subst (λ (x : ServeAnswer). EndsServe kept told held now before after x e) (sym is) (subst (λ (x : End). EndsServe kept told held now before after (answer.Closed counts starved faulty) x) (sym ends) (concluded kept told held now before after counts starved r faulty t c))

pub writes_as : (before now : ℕ) (told : Type 0) (held holds line : List ℕ) (starved : Bool) (r : End) (faulty : Bool) (e : End) → e ≡ first_end starved r faulty → TellsLine told held holds line r → CountsWrites before now r → CountsWrites before now e
writes_as before now told held holds line starved r faulty e ends t c = subst (λ (x : End). CountsWrites before now x) (sym ends) (writes_concluded before now told held holds line starved r faulty t c)

-- where the front was not opened nothing is written
pub not_opened : (kept told : Type 0) (held : List ℕ) (before after : ℕ) (a : ServeAnswer) → a ≡ answer.NotOpened → EndsServe kept told held held before after a (Err FrontFault)
not_opened kept told held before after a is = subst (λ (x : ServeAnswer). EndsServe kept told held held before after x (Err FrontFault)) (sym is) (refl, refl, λ t. sym (append-nil held))

-- nor where memory was wanting before a link was served
pub no_memory : (kept told : Type 0) (held : List ℕ) (before after : ℕ) (a : ServeAnswer) → kept → a ≡ answer.Memory → EndsServe kept told held held before after a (Err NoMemory)
no_memory kept told held before after a same is = subst (λ (x : ServeAnswer). EndsServe kept told held held before after x (Err NoMemory)) (sym is) (refl, (λ s. same), inl (λ t. sym (append-nil held)))

-- an end by what serving came to is one of a run with `serve`
pub ends_serve : (kept told : Type 0) (held now : List ℕ) (before after : ℕ) (a : ServeAnswer) (r : End) → EndsServe kept told held now before after a r → IsServeEnd r
ends_serve kept told held now before after a (Ok x) e = tt
ends_serve kept told held now before after a (Err (Refused f)) e = e
ends_serve kept told held now before after a (Err Usage) e = e
ends_serve kept told held now before after a (Err ReadFault) e = e
ends_serve kept told held now before after a (Err WriteFault) e = tt
ends_serve kept told held now before after a (Err NoMemory) e = tt
ends_serve kept told held now before after a (Err FrontFault) e = tt
ends_serve kept told held now before after a (Err (NoForm v l)) e = e

pub came_to : (Came : ServeAnswer → Type 0) (kept told : Type 0) (held now : List ℕ) (before after : ℕ) (a : ServeAnswer) (r : End) → Came a → EndsServe kept told held now before after a r → ServesTo Came kept told held now before after r
came_to Came kept told held now before after a (Ok x) c e = (a, c, e)
came_to Came kept told held now before after a (Err (Refused f)) c e = e
came_to Came kept told held now before after a (Err Usage) c e = e
came_to Came kept told held now before after a (Err ReadFault) c e = e
came_to Came kept told held now before after a (Err WriteFault) c e = (a, c, e)
came_to Came kept told held now before after a (Err NoMemory) c e = (a, c, e)
came_to Came kept told held now before after a (Err FrontFault) c e = (a, c, e)
came_to Came kept told held now before after a (Err (NoForm v l)) c e = e

-- The front's count.

pub came_counts : {F H L : Type 0} (front : FrontMembers F H L) (hall : HallMembers H L) (link : LinkMembers L) (services : List Entry) (port workers each : ℕ) (a b : F) (answered : ServeAnswer) → Serves front hall link services port workers each a b answered → CountsFaults (front.faults a) (front.faults b) (had_fault answered)
came_counts front hall link services port workers each a b answer.Memory s = s.counts
came_counts front hall link services port workers each a b answer.NotOpened s = s.counts
came_counts front hall link services port workers each a b (answer.Closed counts starved faulty) s = s.counts

pub front_counts : (before now : ℕ) (kept told : Type 0) (held holds : List ℕ) (had has : ℕ) (a : ServeAnswer) (r : End) → CountsFaults before now (had_fault a) → EndsServe kept told held holds had has a r → CountsFront before now r
front_counts before now kept told held holds had has a (Ok x) c e = subst (λ f. CountsFaults before now f) e.1 c
front_counts before now kept told held holds had has a (Err (Refused f)) c e = tt
front_counts before now kept told held holds had has a (Err Usage) c e = tt
front_counts before now kept told held holds had has a (Err ReadFault) c e = tt
front_counts before now kept told held holds had has a (Err WriteFault) c e = tt
front_counts before now kept told held holds had has a (Err NoMemory) c e = tt
front_counts before now kept told held holds had has a (Err FrontFault) c e = subst (λ f. CountsFaults before now f) e.1 c
front_counts before now kept told held holds had has a (Err (NoForm v l)) c e = tt

-- by the options that the words give
pub served_again : {F H L : Type 0} (front : FrontMembers F H L) (hall : HallMembers H L) (link : LinkMembers L) (services : List Entry) (a b : F) (kept told : Type 0) (held now : List ℕ) (before after : ℕ) (r : End) (o p : ServeOptions) → o ≡ p → ServesTo (Serves front hall link services o.port o.workers o.each a b) kept told held now before after r → ServesTo (Serves front hall link services p.port p.workers p.each a b) kept told held now before after r
served_again front hall link services a b kept told held now before after r o p e s = subst (λ (q : ServeOptions). ServesTo (Serves front hall link services q.port q.workers q.each a b) kept told held now before after r) e s

-- The statuses.

-- By what serving came to, and by the output before and now.
module _ (Came : ServeAnswer → Type 0) (kept told : Type 0) (held now : List ℕ) (before after : ℕ) where
  abbrev To : End → Type 0
  To r = ServesTo Came kept told held now before after r

  pub done_served : (x : Unit {0}) → To (Ok x) → ServeRun Came told held now 0
  done_served x (a, c, (fed, well, whole)) = record { answer = a; came = c; fed = fed; well = λ z. well; faulty = λ z. absurd (omega arith); whole = λ n. whole; front = λ z. absurd (omega arith) }

  served_by : (e : RunEnd) → (status_of e ≡ 0) ⊎ (status_of e ≡ 4) ⊎ (status_of e ≡ 6) → To (Err e) → ServeRun Came told held now (status_of e)
  served_by (Refused f) h s = absurd s
  served_by Usage h s = absurd s
  served_by ReadFault h s = absurd s
  served_by WriteFault h (a, c, (fed, front)) = record { answer = a; came = c; fed = fed; well = λ z. absurd (omega arith); faulty = λ z. absurd (omega arith); whole = λ n. absurd (n refl); front = λ z. front }
  served_by NoMemory h s = elim h [ inl e ↦ absurd (omega (arith, e)) | inr e ↦ elim e [ inl f ↦ absurd (omega (arith, f)) | inr f ↦ absurd (omega (arith, f)) ] ]
  served_by FrontFault h (a, c, (fed, faulty, whole)) = record { answer = a; came = c; fed = fed; well = λ z. absurd (omega arith); faulty = λ z. faulty; whole = λ n. whole; front = λ z. absurd (omega arith) }
  served_by (NoForm v l) h s = absurd s

  pub served_with : (e : RunEnd) (status : ℕ) → status ≡ status_of e → (status ≡ 0) ⊎ (status ≡ 4) ⊎ (status ≡ 6) → To (Err e) → ServeRun Came told held now status
  served_with e status is h s =
      subst (λ (n : ℕ). ServeRun Came told held now n) (sym is) (served_by e (subst (λ (n : ℕ). (n ≡ 0) ⊎ (n ≡ 4) ⊎ (n ≡ 6)) is h) s)

  -- memory was wanting
  pub starved_with : (e : RunEnd) → status_of e ≡ 5 → To (Err e) → ServeStarved Came kept told held now before after
  starved_with (Refused f) h s = absurd s
  starved_with Usage h s = absurd s
  starved_with ReadFault h s = absurd s
  starved_with WriteFault h s = absurd (omega (arith, h))
  starved_with NoMemory h (a, c, (starved, nothing, written)) = record { answer = a; came = c; starved = starved; nothing = nothing; written = written }
  starved_with FrontFault h s = absurd (omega (arith, h))
  starved_with (NoForm v l) h s = absurd s

serve_status : (e : RunEnd) → IsServeEnd (Err e) → (status_of e ≡ 0) ⊎ (status_of e ≡ 4) ⊎ (status_of e ≡ 5) ⊎ (status_of e ≡ 6)
serve_status (Refused f) s = absurd s
serve_status Usage s = absurd s
serve_status ReadFault s = absurd s
serve_status WriteFault s = inr (inl refl)
serve_status NoMemory s = inr (inr (inl refl))
serve_status FrontFault s = inr (inr (inr refl))
serve_status (NoForm v l) s = absurd s

pub serves_with : (e : RunEnd) (status : ℕ) → status ≡ status_of e → IsServeEnd (Err e) → (status ≡ 0) ⊎ (status ≡ 4) ⊎ (status ≡ 5) ⊎ (status ≡ 6)
serves_with e status is s = subst (λ (n : ℕ). (n ≡ 0) ⊎ (n ≡ 4) ⊎ (n ≡ 5) ⊎ (n ≡ 6)) (sym is) (serve_status e s)

front_end : (e : RunEnd) → status_of e ≡ 6 → e ≡ FrontFault
front_end (Refused f) h = absurd (omega arith)
front_end Usage h = absurd (omega arith)
front_end ReadFault h = absurd (omega arith)
front_end WriteFault h = absurd (omega arith)
front_end NoMemory h = absurd (omega arith)
front_end FrontFault h = refl
front_end (NoForm v l) h = absurd (omega arith)

pub front_rose : (before now : ℕ) (e : RunEnd) → status_of e ≡ 6 → CountsFront before now (Err e) → Rose before now
front_rose before now e h c = (subst (λ (x : RunEnd). CountsFront before now (Err x)) (front_end e h) c).1
