-- What each status says of an end.
use Rattle.std.proofs.Common.{◌≡◌, ◌≢◌, ◌⊎◌, inl, inr, ℕ, ◌≤◌, List, ◌++◌, Result, Err, refl, ap, arith}
use Rattle.amf_io.specs.declared.reason.Reason.{Reason}
use Rattle.amf_commands.specs.Input.{input_of, IsAcceptedAs, IsRefusedAs}
use Rattle.amf_graph.specs.declared.lack.Lack.{Lack}
use Rattle.amf_commands.specs.declared.command.Command.{Command}
use Rattle.amf_commands.specs.declared.run_end.RunEnd.{RunEnd}
use Rattle.amf_commands.specs.declared.run_end.RunEnd.TheVariants.{Refused, Usage, ReadFault, WriteFault, NoMemory, FrontFault, NoForm}
use Rattle.amf_commands.specs.Lines.{status_of, line_of}
use Rattle.amf_commands.specs.Run.{TakesInput, IsReading, CountsReads, CountsWrites, Makes, Lacks, RunsTo, WritesAll, WritesSome, IsHidden, IsRefusedWith, HasNoForm, Reports}
use Rattle.amf_commands.proofs.Spelled.{once, made_not_refused, lacking_not_refused, made_not_lacking, lacks_ever}

abbrev Done : RunEnd → Result (Unit {0}) RunEnd
Done e = Err e

pub refused_says : (c : Command) (e : RunEnd) (input rest : List ℕ) (told seen : Type 0) (held now before after : List ℕ) → status_of e ≡ 1 → RunsTo c input rest told held now (Done e) → (seen → after ≡ before ++ line_of e) → IsRefusedWith c input seen before after
unfolding line_of
refused_says c (Refused f) input rest told seen held now before after h r l = record { refusal = f; verdict = r; line = l }
refused_says c Usage input rest told seen held now before after h r l = absurd (omega arith)
refused_says c ReadFault input rest told seen held now before after h r l = absurd (omega arith)
refused_says c WriteFault input rest told seen held now before after h r l = absurd (omega arith)
refused_says c NoMemory input rest told seen held now before after h r l = absurd (omega arith)
refused_says c FrontFault input rest told seen held now before after h r l = absurd (omega arith)
refused_says c (NoForm v k) input rest told seen held now before after h r l = absurd (omega arith)

pub hidden_says : (c : Command) (e : RunEnd) (input rest : List ℕ) (told : Type 0) (held now : List ℕ) → status_of e ≡ 3 → RunsTo c input rest told held now (Done e) → IsHidden (input_of c) input rest
hidden_says c (Refused f) input rest told held now h r = absurd (omega arith)
hidden_says c Usage input rest told held now h r = absurd (omega arith)
hidden_says c ReadFault input rest told held now h r = r
hidden_says c WriteFault input rest told held now h r = absurd (omega arith)
hidden_says c NoMemory input rest told held now h r = absurd (omega arith)
hidden_says c FrontFault input rest told held now h r = absurd (omega arith)
hidden_says c (NoForm v k) input rest told held now h r = absurd (omega arith)

pub front_says : (c : Command) (e : RunEnd) (input rest : List ℕ) (told : Type 0) (held now : List ℕ) → status_of e ≡ 4 → RunsTo c input rest told held now (Done e) → WritesSome c input rest told held now
front_says c (Refused f) input rest told held now h r = absurd (omega arith)
front_says c Usage input rest told held now h r = absurd (omega arith)
front_says c ReadFault input rest told held now h r = absurd (omega arith)
front_says c WriteFault input rest told held now h r = r
front_says c NoMemory input rest told held now h r = absurd (omega arith)
front_says c FrontFault input rest told held now h r = absurd (omega arith)
front_says c (NoForm v k) input rest told held now h r = absurd (omega arith)

pub accepted_says : (c : Command) (e : RunEnd) (input rest : List ℕ) (told : Type 0) (held now : List ℕ) → (Done e ≡ Err Usage → ⊥) → RunsTo c input rest told held now (Done e) → IsAcceptedAs (input_of c) input
    → (status_of e ≡ 0) ⊎ (status_of e ≡ 3) ⊎ (status_of e ≡ 4) ⊎ (status_of e ≡ 5) ⊎ (status_of e ≡ 7)
accepted_says c (Refused f) input rest told held now u r a = absurd (once c input a f.reason f.at r)
accepted_says c Usage input rest told held now u r a = absurd (u refl)
accepted_says c ReadFault input rest told held now u r a = inr (inl refl)
accepted_says c WriteFault input rest told held now u r a = inr (inr (inl refl))
accepted_says c NoMemory input rest told held now u r a = inr (inr (inr (inl refl)))
accepted_says c FrontFault input rest told held now u r a = absurd r
accepted_says c (NoForm v l) input rest told held now u r a = inr (inr (inr (inr refl)))

pub not_accepted_says : (c : Command) (e : RunEnd) (input rest : List ℕ) (told : Type 0) (held now : List ℕ) → (Done e ≡ Err Usage → ⊥) → RunsTo c input rest told held now (Done e) → (reason : Reason) (at : ℕ) → IsRefusedAs (input_of c) input reason at
    → (status_of e ≡ 1) ⊎ (status_of e ≡ 3) ⊎ (status_of e ≡ 5)
not_accepted_says c (Refused f) input rest told held now u r reason at q = inl refl
not_accepted_says c Usage input rest told held now u r reason at q = absurd (u refl)
not_accepted_says c ReadFault input rest told held now u r reason at q = inr (inl refl)
not_accepted_says c WriteFault input rest told held now u r reason at q = absurd (made_not_refused c input r.bytes reason at r.made q)
not_accepted_says c NoMemory input rest told held now u r reason at q = inr (inr refl)
not_accepted_says c FrontFault input rest told held now u r reason at q = absurd r
not_accepted_says c (NoForm v l) input rest told held now u r reason at q = absurd (lacking_not_refused c input v l reason at r.0 q)

pub done_not_refused : (c : Command) (input rest : List ℕ) (told : Type 0) (held now : List ℕ) → WritesAll c input rest told held now → (reason : Reason) (at : ℕ) → IsRefusedAs (input_of c) input reason at → ⊥
done_not_refused c input rest told held now w reason at q = made_not_refused c input w.bytes reason at w.made q

pub formed_says : (c : Command) (e : RunEnd) (input rest : List ℕ) (told : Type 0) (held now bytes : List ℕ) → (Done e ≡ Err Usage → ⊥) → RunsTo c input rest told held now (Done e) → Makes c input bytes
    → (status_of e ≡ 0) ⊎ (status_of e ≡ 3) ⊎ (status_of e ≡ 4) ⊎ (status_of e ≡ 5)
formed_says c (Refused f) input rest told held now bytes u r m = absurd (made_not_refused c input bytes f.reason f.at m r)
formed_says c Usage input rest told held now bytes u r m = absurd (u refl)
formed_says c ReadFault input rest told held now bytes u r m = inr (inl refl)
formed_says c WriteFault input rest told held now bytes u r m = inr (inr (inl refl))
formed_says c NoMemory input rest told held now bytes u r m = inr (inr (inr refl))
formed_says c FrontFault input rest told held now bytes u r m = absurd r
formed_says c (NoForm v l) input rest told held now bytes u r m = absurd (made_not_lacking c input bytes v l m r.0)

pub lacking_says : (c : Command) (e : RunEnd) (input rest : List ℕ) (told : Type 0) (held now : List ℕ) (n : ℕ) (l : Lack) → (Done e ≡ Err Usage → ⊥) → RunsTo c input rest told held now (Done e) → Lacks c input n l
    → (status_of e ≡ 3) ⊎ (status_of e ≡ 5) ⊎ (status_of e ≡ 7)
lacking_says c (Refused f) input rest told held now n l u r k = absurd (lacking_not_refused c input n l f.reason f.at k r)
lacking_says c Usage input rest told held now n l u r k = absurd (u refl)
lacking_says c ReadFault input rest told held now n l u r k = inl refl
lacking_says c WriteFault input rest told held now n l u r k = absurd (made_not_lacking c input r.bytes n l r.made k)
lacking_says c NoMemory input rest told held now n l u r k = inr (inl refl)
lacking_says c FrontFault input rest told held now n l u r k = absurd r
lacking_says c (NoForm v j) input rest told held now n l u r k = inr (inr refl)

pub no_form_says : (c : Command) (e : RunEnd) (input rest : List ℕ) (told seen : Type 0) (held now before after : List ℕ) → status_of e ≡ 7 → RunsTo c input rest told held now (Done e) → (seen → after ≡ before ++ line_of e) → HasNoForm c input rest seen before after
unfolding line_of
no_form_says c (Refused f) input rest told seen held now before after h r l = absurd (omega arith)
no_form_says c Usage input rest told seen held now before after h r l = absurd (omega arith)
no_form_says c ReadFault input rest told seen held now before after h r l = absurd (omega arith)
no_form_says c WriteFault input rest told seen held now before after h r l = absurd (omega arith)
no_form_says c NoMemory input rest told seen held now before after h r l = absurd (omega arith)
no_form_says c FrontFault input rest told seen held now before after h r l = absurd (omega arith)
no_form_says c (NoForm v k) input rest told seen held now before after h r l = record { number = v; lack = k; lacking = r.0; every = lacks_ever c input v k r.0; all_read = r.1; line = l }

pub line_says : (e : RunEnd) (held now : List ℕ) → now ≡ held ++ line_of e → Reports (status_of e) held now
line_says (Refused f) held now h = (Refused f, refl, h)
line_says Usage held now h = (Usage, refl, h)
line_says ReadFault held now h = (ReadFault, refl, h)
line_says WriteFault held now h = (WriteFault, refl, h)
line_says NoMemory held now h = (NoMemory, refl, h)
line_says FrontFault held now h = (FrontFault, refl, h)
line_says (NoForm v l) held now h = (NoForm v l, refl, h)

pub usage_status : (e : RunEnd) → Done e ≡ Err Usage → status_of e ≡ 2
usage_status (Refused f) h = absurd cc
usage_status Usage h = refl
usage_status ReadFault h = absurd cc
usage_status WriteFault h = absurd cc
usage_status NoMemory h = absurd cc
usage_status FrontFault h = absurd cc
usage_status (NoForm v l) h = absurd cc

pub form_status : (e : RunEnd) → status_of e ≡ 7 → (v : ℕ) × (l : Lack) × (Done e ≡ Err (NoForm v l))
form_status (Refused f) h = absurd (omega arith)
form_status Usage h = absurd (omega arith)
form_status ReadFault h = absurd (omega arith)
form_status WriteFault h = absurd (omega arith)
form_status NoMemory h = absurd (omega arith)
form_status FrontFault h = absurd (omega arith)
form_status (NoForm v l) h = (v, l, refl)

-- without a fault the counts stay

pub reads_steady : (e : RunEnd) (before now : ℕ) → CountsReads before now (Done e) → status_of e ≢ 3 → now ≡ before
reads_steady (Refused f) before now c read = c
reads_steady Usage before now c read = c
reads_steady ReadFault before now c read = absurd (read refl)
reads_steady WriteFault before now c read = c
reads_steady NoMemory before now c read = c
reads_steady FrontFault before now c read = c
reads_steady (NoForm v l) before now c read = c

pub writes_steady : (e : RunEnd) (before now : ℕ) → CountsWrites before now (Done e) → status_of e ≢ 4 → status_of e ≢ 5 → now ≡ before
writes_steady (Refused f) before now c write memory = c
writes_steady Usage before now c write memory = c
writes_steady ReadFault before now c write memory = c
writes_steady WriteFault before now c write memory = absurd (write refl)
writes_steady NoMemory before now c write memory = absurd (memory refl)
writes_steady FrontFault before now c write memory = c
writes_steady (NoForm v l) before now c write memory = c

pub memory_status : (e : RunEnd) → Done e ≡ Err NoMemory → status_of e ≡ 5
memory_status (Refused f) h = absurd cc
memory_status Usage h = absurd cc
memory_status ReadFault h = absurd cc
memory_status WriteFault h = absurd cc
memory_status NoMemory h = refl
memory_status FrontFault h = absurd cc
memory_status (NoForm v l) h = absurd cc

pub reading_says : (c : Command) (e : RunEnd) → (status_of e ≡ 1) ⊎ (status_of e ≡ 3) → IsReading c (Done e) → TakesInput c
reading_says c (Refused f) h r = r
reading_says c Usage h r = elim h [ inl e ↦ absurd (omega (arith, e)) | inr e ↦ absurd (omega (arith, e)) ]
reading_says c ReadFault h r = r
reading_says c WriteFault h r = elim h [ inl e ↦ absurd (omega (arith, e)) | inr e ↦ absurd (omega (arith, e)) ]
reading_says c NoMemory h r = elim h [ inl e ↦ absurd (omega (arith, e)) | inr e ↦ absurd (omega (arith, e)) ]
reading_says c FrontFault h r = elim h [ inl e ↦ absurd (omega (arith, e)) | inr e ↦ absurd (omega (arith, e)) ]
reading_says c (NoForm v l) h r = elim h [ inl e ↦ absurd (omega (arith, e)) | inr e ↦ absurd (omega (arith, e)) ]

pub usage_end : (e : RunEnd) → status_of e ≡ 2 → Done e ≡ Err Usage
usage_end (Refused f) h = absurd (omega arith)
usage_end Usage h = refl
usage_end ReadFault h = absurd (omega arith)
usage_end WriteFault h = absurd (omega arith)
usage_end NoMemory h = absurd (omega arith)
usage_end FrontFault h = absurd (omega arith)
usage_end (NoForm v l) h = absurd (omega arith)

pub never_0 : (e : RunEnd) → status_of e ≡ 0 → ⊥
never_0 (Refused f) h = absurd (omega arith)
never_0 Usage h = absurd (omega arith)
never_0 ReadFault h = absurd (omega arith)
never_0 WriteFault h = absurd (omega arith)
never_0 NoMemory h = absurd (omega arith)
never_0 FrontFault h = absurd (omega arith)
never_0 (NoForm v l) h = absurd (omega arith)

pub within_7 : (e : RunEnd) → status_of e ≤ 7
within_7 (Refused f) = omega arith
within_7 Usage = omega arith
within_7 ReadFault = omega arith
within_7 WriteFault = omega arith
within_7 NoMemory = omega arith
within_7 FrontFault = omega arith
within_7 (NoForm v l) = omega arith

memory_is : (e : RunEnd) → status_of e ≡ 5 → e ≡ NoMemory
memory_is (Refused f) h = absurd (omega arith)
memory_is Usage h = absurd (omega arith)
memory_is ReadFault h = absurd (omega arith)
memory_is WriteFault h = absurd (omega arith)
memory_is NoMemory h = refl
memory_is FrontFault h = absurd (omega arith)
memory_is (NoForm v l) h = absurd (omega arith)

pub memory_end : (e : RunEnd) → status_of e ≡ 5 → Done e ≡ Err NoMemory
memory_end e h = ap Done (memory_is e h)
