-- A command that takes no input ends as it does over an input that has nothing.
use Rattle.std.proofs.Common.{◌≡◌, ◌≢◌, ℕ, List, Ok, Err, refl, subst}
use Rattle.amf_graph.specs.declared.lack.Lack.{Lack}
use Rattle.amf_commands.specs.declared.command.Command.{Command}
use Rattle.amf_commands.specs.declared.command.Command.TheVariants.{Canon, Check, Show, Json, Same, Gen, Version}
use Rattle.amf_commands.specs.declared.run_end.RunEnd.TheVariants.{Refused, Usage, ReadFault, WriteFault, NoMemory, FrontFault, NoForm}
use Rattle.amf_commands.specs.Run.{TakesInput, Makes, Decides, MayLack, CountsReads, IsReading, RunsTo}
use Rattle.amf_cli.specs.ServeEnds.{End}

-- what it makes is made of no input
made_of_none : (c : Command) (left input bytes : List ℕ) → (TakesInput c → ⊥) → Makes c left bytes → Makes c input bytes
made_of_none (Canon from to) left input bytes none m = absurd (none tt)
made_of_none (Check from) left input bytes none m = absurd (none tt)
made_of_none (Show from) left input bytes none m = absurd (none tt)
made_of_none (Json from layout) left input bytes none m = absurd (none tt)
made_of_none Same left input bytes none m = absurd (none tt)
made_of_none (Gen seed size) left input bytes none m = m
made_of_none Version left input bytes none m = m

decided_of_none : (c : Command) (left input bytes : List ℕ) → (TakesInput c → ⊥) → Decides c left bytes → Decides c input bytes
decided_of_none (Canon from to) left input bytes none d = absurd (none tt)
decided_of_none (Check from) left input bytes none d = absurd (none tt)
decided_of_none (Show from) left input bytes none d = absurd (none tt)
decided_of_none (Json from layout) left input bytes none d = absurd (none tt)
decided_of_none Same left input bytes none d = absurd (none tt)
decided_of_none (Gen seed size) left input bytes none d = d
decided_of_none Version left input bytes none d = d

-- and it always makes something
never_lacks : (c : Command) → (TakesInput c → ⊥) → MayLack c → ⊥
never_lacks (Canon from to) none k = none tt
never_lacks (Check from) none k = k
never_lacks (Show from) none k = k
never_lacks (Json from layout) none k = k
never_lacks Same none k = k
never_lacks (Gen seed size) none k = k
never_lacks Version none k = k

pub runs_of_none : (c : Command) → (TakesInput c → ⊥) → (left had input rest : List ℕ) (told : Type 0) (held now : List ℕ) (r : End) → IsReading c r → ((number : ℕ) (l : Lack) → r ≡ Err (NoForm number l) → MayLack c) → RunsTo c left had told held now r → RunsTo c input rest told held now r
runs_of_none c none left had input rest told held now (Ok x) reading alone w = record { bytes = w.bytes; made = made_of_none c left input w.bytes none w.made; decides = decided_of_none c left input w.bytes none w.decides; all_read = λ t. absurd (none t); written = w.written }
runs_of_none c none left had input rest told held now (Err (Refused f)) reading alone w = absurd (none reading)
runs_of_none c none left had input rest told held now (Err Usage) reading alone w = tt
runs_of_none c none left had input rest told held now (Err ReadFault) reading alone w = absurd (none reading)
runs_of_none c none left had input rest told held now (Err WriteFault) reading alone w = record { bytes = w.bytes; made = made_of_none c left input w.bytes none w.made; decides = decided_of_none c left input w.bytes none w.decides; all_read = λ t. absurd (none t); written = w.written }
runs_of_none c none left had input rest told held now (Err NoMemory) reading alone w = tt
runs_of_none c none left had input rest told held now (Err FrontFault) reading alone w = w
runs_of_none c none left had input rest told held now (Err (NoForm v l)) reading alone w = absurd (never_lacks c none (alone v l refl))

pub reads_of_none : (c : Command) → (TakesInput c → ⊥) → (n : ℕ) (r : End) → IsReading c r → CountsReads n n r
reads_of_none c none n (Ok x) reading = refl
reads_of_none c none n (Err (Refused f)) reading = refl
reads_of_none c none n (Err Usage) reading = refl
reads_of_none c none n (Err ReadFault) reading = absurd (none reading)
reads_of_none c none n (Err WriteFault) reading = refl
reads_of_none c none n (Err NoMemory) reading = refl
reads_of_none c none n (Err FrontFault) reading = refl
reads_of_none c none n (Err (NoForm v l)) reading = refl

pub takes_unless : (c : Command) → ((seed size : ℕ) → c ≢ Gen seed size) → c ≢ Version → TakesInput c
takes_unless (Canon from to) gen version = tt
takes_unless (Check from) gen version = tt
takes_unless (Show from) gen version = tt
takes_unless (Json from layout) gen version = tt
takes_unless Same gen version = tt
takes_unless (Gen seed size) gen version = absurd (gen seed size refl)
takes_unless Version gen version = absurd (version refl)

pub gen_takes_none : (c : Command) (seed size : ℕ) → c ≡ Gen seed size → TakesInput c → ⊥
gen_takes_none c seed size is t = subst TakesInput is t

pub version_takes_none : (c : Command) → c ≡ Version → TakesInput c → ⊥
version_takes_none c is t = subst TakesInput is t
