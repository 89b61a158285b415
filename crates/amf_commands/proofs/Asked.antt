-- What words ask for: they ask for one command at most, and each is UTF-8.
use Rattle.std.proofs.Common.{◌≡◌, ◌∙◌, inl, inr, ◌++◌, ◌<◌, ◌≤◌, ℕ, Bool, false, zero, suc, refl, sym, ap, ap₂, subst, true, List, [], ◌∷◌, length, Some, None, Option, Result, Ok, Err, arith}
use Rattle.std.specs.Prelude.{codes, ◌&&◌, nat_le, if◌then◌else◌, option_and_then, option_map, unwrap_or, IfOk, IfSome, IfNone}
use Rattle.std.specs.Str.Parse.{digits_value}
use Rattle.std.proofs.lemmas.Bool.{leb-true}
use Rattle.std.proofs.lemmas.Option.{same_Some}
use Rattle.std.specs.List.{AllByRecursion, list_all, slice_index_or}
use Rattle.std.specs.Str.{bytes_eq, IsUtf8}
use Rattle.amf_wire.specs.Text.{IsText}
use Rattle.amf_options.specs.Words.{Text, HasOptions, is_name, value_of}
use Rattle.amf_text_write.specs.declared.layout.Layout.{Layout}
use Rattle.flv_meta.specs.declared.flv_job.FlvJob.{FlvJob}
use Rattle.amf_options.proofs.OneValue.{one_value}
use Rattle.amf_commands.proofs.Utf8.{utf8_is_text, value_utf8}
use Rattle.amf_commands.specs.declared.command.CallOptions.{CallOptions}
use Rattle.amf_commands.specs.declared.command.Command.{Command}
use Rattle.amf_commands.specs.declared.command.Command.TheVariants as command
use Rattle.amf_commands.specs.declared.command.ListenOptions.{ListenOptions}
use Rattle.amf_commands.specs.declared.command.ServeOptions.{ServeOptions}
use Rattle.amf_commands.specs.declared.command.Task.{Task}
use Rattle.amf_commands.specs.declared.command.Task.TheVariants as task
use Rattle.amf_commands.specs.declared.format.Format.{Format}
use Rattle.amf_commands.specs.declared.format.Format.TheVariants.{Amf3}
use Rattle.amf_commands.specs.declared.command_name.CommandName.{CommandName}
use Rattle.amf_commands.specs.declared.command_name.CommandName.TheVariants as command_name
use Rattle.amf_commands.specs.Commands.{Asks, AsksFor, HasReading, IsCalling, IsDialling, IsListening, IsMedia, Reads, ReadsBytes, ReadsCall, ReadsFlv, ReadsListen, ReadsRtmp, ReadsServe, IsServing, call_of, canon_from, canon_to, destination_at, flv_job_named, format_or, gen_of, goes_to, is_numeral, json_of, layout_or, listen_of, name_of, number_at, options_for, rtmp_of, rtmp_show, serve_of, target_at, task_for}
use Rattle.amf_commands.specs.Askable.{IsAskable, IsCallable, IsChunkable, IsListenable, IsPossible, IsServable}

named : Text → CommandName
named t = if bytes_eq t (codes "canon") then command_name.Canon
    else (if bytes_eq t (codes "check") then command_name.Check
    else (if bytes_eq t (codes "show") then command_name.Show
    else (if bytes_eq t (codes "json") then command_name.Json
    else (if bytes_eq t (codes "bytes") then command_name.Bytes
    else (if bytes_eq t (codes "same") then command_name.Same
    else (if bytes_eq t (codes "gen") then command_name.Gen
    else (if bytes_eq t (codes "serve") then command_name.Serve
    else (if bytes_eq t (codes "flv") then command_name.Flv
    else (if bytes_eq t (codes "rtmp") then command_name.Rtmp
    else (if bytes_eq t (codes "call") then command_name.Call
    else (if bytes_eq t (codes "listen") then command_name.Listen else command_name.Version)))))))))))

named_is : (k : CommandName) → named (name_of k) ≡ k
unfolding named
named_is command_name.Canon = refl
named_is command_name.Check = refl
named_is command_name.Show = refl
named_is command_name.Json = refl
named_is command_name.Bytes = refl
named_is command_name.Same = refl
named_is command_name.Gen = refl
named_is command_name.Serve = refl
named_is command_name.Flv = refl
named_is command_name.Rtmp = refl
named_is command_name.Call = refl
named_is command_name.Listen = refl
named_is command_name.Version = refl

good : (k : CommandName) → list_all is_name (options_for k) ≡ true
good command_name.Canon = refl
good command_name.Check = refl
good command_name.Show = refl
good command_name.Json = refl
good command_name.Bytes = refl
good command_name.Same = refl
good command_name.Gen = refl
good command_name.Serve = refl
good command_name.Flv = refl
good command_name.Rtmp = refl
good command_name.Call = refl
good command_name.Listen = refl
good command_name.Version = refl

head_or : List Text → Text
head_or [] = []
head_or (w ∷ ws) = w

tail_of : List Text → List Text
tail_of [] = []
tail_of (w ∷ ws) = ws

same_head : (a b : Text) (ws vs : List Text) → a ∷ ws ≡ b ∷ vs → a ≡ b
unfolding head_or
same_head a b ws vs e = ap head_or e

same_tail : (a b : Text) (ws vs : List Text) → a ∷ ws ≡ b ∷ vs → ws ≡ vs
unfolding tail_of
same_tail a b ws vs e = ap tail_of e

-- words ask for one thing at most
pub one_asked : (words : List Text) (t u : Task) → Asks words t → Asks words u → t ≡ u
one_asked words t u (k, rest, g, is, has, gives) (l, rest2, h, is2, has2, gives2) =
    let both : name_of k ∷ rest ≡ name_of l ∷ rest2 = sym is ∙ is2 in
    let kinds : k ≡ l = sym (named_is k) ∙ ap named (same_head _ _ _ _ both) ∙ named_is l in
    let has3 : HasOptions (options_for k) rest h = subst (λ (ws : List Text). HasOptions (options_for k) ws h) (sym (same_tail _ _ _ _ both)) (subst (λ (m : CommandName). HasOptions (options_for m) rest2 h) (sym kinds) has2) in
    let values : value_of g ≡ value_of h = λ i x. one_value (options_for k) rest g h (good k) has has3 x i in
    let some : Some t ≡ Some u = sym gives ∙ ap₂ task_for kinds values ∙ gives2 in
    ap (λ o. unwrap_or o t) some

-- a graph is asked for by a size that there is

named_within : (numeral least most : Bool) (v n : ℕ) → (if numeral && (least && most) then Some v else None) ≡ Some n → (least ≡ true) × (most ≡ true) × (v ≡ n)
named_within true true true v n e = (refl, refl, same_Some v n e)
named_within true true false v n e = cc
named_within true false most v n e = cc
named_within false least most v n e = cc

number_within : (least most : ℕ) (o : Option Text) (n : ℕ) → number_at least most o ≡ Some n → (least ≤ n) × (n ≤ most)
number_within least most None n e = cc
number_within least most (Some text) n e =
    let value = digits_value 10 text in
    let w = named_within (is_numeral text) (nat_le least value) (nat_le value most) value n e in
    (subst (λ k. least ≤ k) w.2 (leb-true least value w.0), subst (λ k. k ≤ most) w.2 (leb-true value most w.1))

gen_sized : (seed size : Option ℕ) (c : Command) → ((n : ℕ) → size ≡ Some n → (1 ≤ n) × (n ≤ 1000000)) → gen_of seed size ≡ Some c → IsAskable c
gen_sized None size c h e = cc
gen_sized (Some a) None c h e = cc
gen_sized (Some a) (Some n) c h e = subst IsAskable (same_Some (command.Gen a n) c e) (h n refl)

goes_sized : (from to : Format) (c : Command) (b : Bool) → goes_to from to ≡ b → (if b then Some (command.Canon from to) else None) ≡ Some c → IsAskable c
goes_sized from to c true goes e = subst IsAskable (same_Some (command.Canon from to) c e) goes
goes_sized from to c false goes e = cc

canon_sized : (from : Option Format) (to : Option Text) (c : Command) → canon_from from to ≡ Some c → IsAskable c
canon_sized None to c e = cc
canon_sized (Some from) to c e = step (format_or from to) e
  where
    step : (o : Option Format) → canon_to from o ≡ Some c → IsAskable c
    step None e = cc
    step (Some f) e = goes_sized from f c (goes_to from f) refl e

mapped_sized : (make : Format → Command) (all : (f : Format) → IsAskable (make f)) (o : Option Format) (c : Command) → option_map make o ≡ Some c → IsAskable c
mapped_sized make all None c e = cc
mapped_sized make all (Some f) c e = subst IsAskable (same_Some (make f) c e) (all f)

json_sized : (from : Option Format) (layout : Option Layout) (c : Command) → json_of from layout ≡ Some c → IsAskable c
json_sized None layout c e = cc
json_sized (Some from) None c e = cc
json_sized (Some from) (Some layout) c e = subst IsAskable (same_Some (command.Json from layout) c e) tt

serve_sized : (port workers each : Option ℕ) (o : ServeOptions) → ((n : ℕ) → workers ≡ Some n → (1 ≤ n) × (n ≤ 64)) → serve_of port workers each ≡ Some o → IsServable o
serve_sized None workers each o h e = cc
serve_sized (Some p) None each o h e = cc
serve_sized (Some p) (Some w) None o h e = cc
serve_sized (Some p) (Some w) (Some n) o h e = subst IsServable (same_Some (record { port = p; workers = w; each = n }) o e) (h w refl)

output_possible : (o : Option Command) (all : (c : Command) → o ≡ Some c → IsAskable c) (t : Task) → option_map task.Output o ≡ Some t → IsPossible t
output_possible None all t e = cc
output_possible (Some c) all t e = subst IsPossible (same_Some (task.Output c) t e) (all c refl)

serve_possible : (o : Option ServeOptions) (all : (s : ServeOptions) → o ≡ Some s → IsServable s) (t : Task) → option_map task.Serve o ≡ Some t → IsPossible t
serve_possible None all t e = cc
serve_possible (Some s) all t e = subst IsPossible (same_Some (task.Serve s) t e) (all s refl)

flv_possible : (o : Option FlvJob) (t : Task) → option_map task.Flv o ≡ Some t → IsPossible t
flv_possible None t e = cc
flv_possible (Some job) t e = subst IsPossible (same_Some (task.Flv job) t e) tt

-- a size is asked for with `rechunk`, and is one that there is
size_chunkable : (o : Option ℕ) (all : (n : ℕ) → o ≡ Some n → (1 ≤ n) × (n ≤ 2147483647)) (s : Option ℕ) → option_map Some o ≡ Some s → IsChunkable s
size_chunkable None all s e = cc
size_chunkable (Some n) all s e = subst IsChunkable (same_Some (Some n) s e) (all n refl)

show_chunkable : (size : Option Text) (s : Option ℕ) → rtmp_show size ≡ Some s → IsChunkable s
show_chunkable None s e = subst IsChunkable (same_Some None s e) tt
show_chunkable (Some x) s e = cc

named_chunkable : (show rechunk : Bool) (size : Option Text) (s : Option ℕ) → (if show then rtmp_show size else (if rechunk then option_map Some (number_at 1 2147483647 size) else None)) ≡ Some s → IsChunkable s
named_chunkable true rechunk size s e = show_chunkable size s e
named_chunkable false true size s e = size_chunkable (number_at 1 2147483647 size) (number_within 1 2147483647 size) s e
named_chunkable false false size s e = cc

rtmp_chunkable : (name size : Option Text) (s : Option ℕ) → rtmp_of name size ≡ Some s → IsChunkable s
rtmp_chunkable None size s e = cc
rtmp_chunkable (Some text) size s e = named_chunkable (bytes_eq text (codes "show")) (bytes_eq text (codes "rechunk")) size s e

rtmp_possible : (o : Option (Option ℕ)) (all : (s : Option ℕ) → o ≡ Some s → IsChunkable s) (t : Task) → option_map task.Rtmp o ≡ Some t → IsPossible t
rtmp_possible None all t e = cc
rtmp_possible (Some s) all t e = subst IsPossible (same_Some (task.Rtmp s) t e) (all s refl)

-- a target is short, and a text where what is given for it is UTF-8
target_callable : (b : Bool) (text target : Text) → nat_le (length text) 65535 ≡ b → IsText text → (if b then Some text else None) ≡ Some target → IsText target × (length target ≤ 65535)
target_callable true text target short is e = subst (λ (x : Text). IsText x × (length x ≤ 65535)) (same_Some text target e) (is, leb-true (length text) 65535 short)
target_callable false text target short is e = cc

called_callable : (port : Option ℕ) (given target : Option Text) (o : CallOptions) → ((text : Text) → given ≡ Some text → IsText text) → target_at given ≡ target → call_of port target ≡ Some o → IsCallable o
called_callable None given target o all is e = cc
called_callable (Some port) given None o all is e = cc
called_callable (Some port) None (Some target) o all is e = cc
called_callable (Some port) (Some text) (Some target) o all is e =
    subst IsCallable (same_Some (record { port = port; target = target }) o e) (target_callable (nat_le (length text) 65535) text target refl (all text refl) is)

call_possible : (o : Option CallOptions) (all : (s : CallOptions) → o ≡ Some s → IsCallable s) (t : Task) → option_map task.Call o ≡ Some t → IsPossible t
call_possible None all t e = cc
call_possible (Some s) all t e = subst IsPossible (same_Some (task.Call s) t e) (all s refl)

listened_listenable : (port : Option ℕ) (given destination : Option Text) (polls : Option ℕ) (o : ListenOptions) → ((text : Text) → given ≡ Some text → IsText text) → destination_at given ≡ destination → ((n : ℕ) → polls ≡ Some n → (1 ≤ n) × (n ≤ 1000000)) → listen_of port destination polls ≡ Some o → IsListenable o
listened_listenable None given destination polls o all is few e = cc
listened_listenable (Some port) given None polls o all is few e = cc
listened_listenable (Some port) given (Some destination) None o all is few e = cc
listened_listenable (Some port) None (Some destination) (Some polls) o all is few e = cc
listened_listenable (Some port) (Some text) (Some destination) (Some polls) o all is few e =
    let short = target_callable (nat_le (length text) 65535) text destination refl (all text refl) is in
    subst IsListenable (same_Some (record { port = port; destination = destination; polls = polls }) o e) (short.0, short.1, (few polls refl).0, (few polls refl).1)

listen_possible : (o : Option ListenOptions) (all : (s : ListenOptions) → o ≡ Some s → IsListenable s) (t : Task) → option_map task.Listen o ≡ Some t → IsPossible t
listen_possible None all t e = cc
listen_possible (Some s) all t e = subst IsPossible (same_Some (task.Listen s) t e) (all s refl)

task_possible : (k : CommandName) (value : Text → Option Text) (all : (x text : Text) → value x ≡ Some text → IsText text) (t : Task) → task_for k value ≡ Some t → IsPossible t
task_possible command_name.Canon value all t e = output_possible (canon_from (format_or Amf3 (value (codes "from"))) (value (codes "to"))) (canon_sized (format_or Amf3 (value (codes "from"))) (value (codes "to"))) t e
task_possible command_name.Check value all t e = output_possible (option_map command.Check (format_or Amf3 (value (codes "from")))) (mapped_sized command.Check (λ f. tt) (format_or Amf3 (value (codes "from")))) t e
task_possible command_name.Show value all t e = output_possible (option_map command.Show (format_or Amf3 (value (codes "from")))) (mapped_sized command.Show (λ f. tt) (format_or Amf3 (value (codes "from")))) t e
task_possible command_name.Json value all t e = output_possible (json_of (format_or Amf3 (value (codes "from"))) (layout_or (value (codes "layout")))) (json_sized (format_or Amf3 (value (codes "from"))) (layout_or (value (codes "layout")))) t e
task_possible command_name.Bytes value all t e = subst IsPossible (same_Some task.Bytes t e) tt
task_possible command_name.Same value all t e = subst IsPossible (same_Some (task.Output command.Same) t e) tt
task_possible command_name.Gen value all t e = output_possible (gen_of (number_at 0 4294967295 (value (codes "seed"))) (number_at 1 1000000 (value (codes "size")))) (λ c. gen_sized (number_at 0 4294967295 (value (codes "seed"))) (number_at 1 1000000 (value (codes "size"))) c (number_within 1 1000000 (value (codes "size")))) t e
task_possible command_name.Serve value all t e = serve_possible (serve_of (number_at 0 65535 (value (codes "port"))) (number_at 1 64 (value (codes "workers"))) (number_at 1 1000000 (value (codes "each")))) (λ s. serve_sized (number_at 0 65535 (value (codes "port"))) (number_at 1 64 (value (codes "workers"))) (number_at 1 1000000 (value (codes "each"))) s (number_within 1 64 (value (codes "workers")))) t e
task_possible command_name.Flv value all t e = flv_possible (option_and_then flv_job_named (value (codes "do"))) t e
task_possible command_name.Rtmp value all t e = rtmp_possible (rtmp_of (value (codes "do")) (value (codes "size"))) (rtmp_chunkable (value (codes "do")) (value (codes "size"))) t e
task_possible command_name.Call value all t e = call_possible (call_of (number_at 0 65535 (value (codes "port"))) (target_at (value (codes "target")))) (λ s. called_callable (number_at 0 65535 (value (codes "port"))) (value (codes "target")) (target_at (value (codes "target"))) s (all (codes "target")) refl) t e
task_possible command_name.Listen value all t e = listen_possible (listen_of (number_at 0 65535 (value (codes "port"))) (destination_at (value (codes "destination"))) (number_at 1 1000000 (value (codes "polls")))) (λ s. listened_listenable (number_at 0 65535 (value (codes "port"))) (value (codes "destination")) (destination_at (value (codes "destination"))) (number_at 1 1000000 (value (codes "polls"))) s (all (codes "destination")) refl (number_within 1 1000000 (value (codes "polls")))) t e
task_possible command_name.Version value all t e = subst IsPossible (same_Some (task.Output command.Version) t e) tt

pub asked_possible : (words : List Text) (t : Task) → AsksFor words t → IsPossible t
asked_possible words t (utf8, (k, rest, given, is, has, gives)) = task_possible k (value_of given) (λ x text e. utf8_is_text text (value_utf8 rest given (subst (AllByRecursion IsUtf8) is utf8).1 has.0 x text e)) t gives

pub one_task : (words : List Text) (t u : Task) → AsksFor words t → AsksFor words u → t ≡ u
one_task words t u a b = one_asked words t u a.1 b.1

command_or : Command → Task → Command
command_or c (task.Output d) = d
command_or c t = c

options_or : ServeOptions → Task → ServeOptions
options_or o (task.Serve p) = p
options_or o t = o

job_or : FlvJob → Task → FlvJob
job_or job (task.Flv other) = other
job_or job t = job

size_or : Option ℕ → Task → Option ℕ
size_or size (task.Rtmp other) = other
size_or size t = size

call_or : CallOptions → Task → CallOptions
call_or o (task.Call p) = p
call_or o t = o

listener_or : ListenOptions → Task → ListenOptions
listener_or o (task.Listen p) = p
listener_or o t = o

pub one_reading : (words : List Text) (c d : Command) → Reads words c → Reads words d → c ≡ d
unfolding command_or
one_reading words c d a b = ap (command_or c) (one_task words (task.Output c) (task.Output d) a b)

pub one_serving : (words : List Text) (o p : ServeOptions) → ReadsServe words o → ReadsServe words p → o ≡ p
unfolding options_or
one_serving words o p a b = ap (options_or o) (one_task words (task.Serve o) (task.Serve p) a b)

pub one_job : (words : List Text) (job other : FlvJob) → ReadsFlv words job → ReadsFlv words other → job ≡ other
unfolding job_or
one_job words job other a b = ap (job_or job) (one_task words (task.Flv job) (task.Flv other) a b)

pub one_size : (words : List Text) (size other : Option ℕ) → ReadsRtmp words size → ReadsRtmp words other → size ≡ other
unfolding size_or
one_size words size other a b = ap (size_or size) (one_task words (task.Rtmp size) (task.Rtmp other) a b)

pub one_call : (words : List Text) (o p : CallOptions) → ReadsCall words o → ReadsCall words p → o ≡ p
unfolding call_or
one_call words o p a b = ap (call_or o) (one_task words (task.Call o) (task.Call p) a b)

pub one_listener : (words : List Text) (o p : ListenOptions) → ReadsListen words o → ReadsListen words p → o ≡ p
unfolding listener_or
one_listener words o p a b = ap (listener_or o) (one_task words (task.Listen o) (task.Listen p) a b)

-- words that ask for one of these ask for none of the others: an output, links to be served, a job on media, a call, and a listener

writes_output : Task → Bool
writes_output (task.Output c) = true
writes_output t = false

serves_links : Task → Bool
serves_links (task.Serve o) = true
serves_links t = false

handles_flv : Task → Bool
handles_flv (task.Flv job) = true
handles_flv t = false

calls_peer : Task → Bool
calls_peer (task.Call o) = true
calls_peer t = false

listens : Task → Bool
listens (task.Listen o) = true
listens t = false

pub not_both : (words : List Text) (c : Command) (o : ServeOptions) → Reads words c → ReadsServe words o → ⊥
unfolding writes_output
not_both words c o a b =
    let e : true ≡ false = ap writes_output (one_task words (task.Output c) (task.Serve o) a b) in
    cc

pub flv_is_no_output : (words : List Text) (c : Command) (job : FlvJob) → Reads words c → ReadsFlv words job → ⊥
unfolding writes_output
flv_is_no_output words c job a b =
    let e : true ≡ false = ap writes_output (one_task words (task.Output c) (task.Flv job) a b) in
    cc

pub rtmp_is_no_output : (words : List Text) (c : Command) (size : Option ℕ) → Reads words c → ReadsRtmp words size → ⊥
unfolding writes_output
rtmp_is_no_output words c size a b =
    let e : true ≡ false = ap writes_output (one_task words (task.Output c) (task.Rtmp size) a b) in
    cc

pub media_is_no_output : (words : List Text) (c : Command) → Reads words c → IsMedia words → ⊥
media_is_no_output words c a (inl b) = flv_is_no_output words c b.0 a b.1
media_is_no_output words c a (inr b) = rtmp_is_no_output words c b.0 a b.1

pub flv_is_no_serving : (words : List Text) (o : ServeOptions) (job : FlvJob) → ReadsServe words o → ReadsFlv words job → ⊥
unfolding serves_links
flv_is_no_serving words o job a b =
    let e : true ≡ false = ap serves_links (one_task words (task.Serve o) (task.Flv job) a b) in
    cc

pub rtmp_is_no_serving : (words : List Text) (o : ServeOptions) (size : Option ℕ) → ReadsServe words o → ReadsRtmp words size → ⊥
unfolding serves_links
rtmp_is_no_serving words o size a b =
    let e : true ≡ false = ap serves_links (one_task words (task.Serve o) (task.Rtmp size) a b) in
    cc

pub media_is_no_serving : (words : List Text) → IsServing words → IsMedia words → ⊥
media_is_no_serving words a (inl b) = flv_is_no_serving words a.0 b.0 a.1 b.1
media_is_no_serving words a (inr b) = rtmp_is_no_serving words a.0 b.0 a.1 b.1

pub flv_is_no_rtmp : (words : List Text) (job : FlvJob) (size : Option ℕ) → ReadsFlv words job → ReadsRtmp words size → ⊥
unfolding handles_flv
flv_is_no_rtmp words job size a b =
    let e : true ≡ false = ap handles_flv (one_task words (task.Flv job) (task.Rtmp size) a b) in
    cc

no_call : (words : List Text) (o : CallOptions) (t : Task) → ReadsCall words o → AsksFor words t → calls_peer t ≡ false → ⊥
unfolding calls_peer
no_call words o t a b is =
    let e : true ≡ false = ap calls_peer (one_task words (task.Call o) t a b) ∙ is in
    cc

pub call_is_no_output : (words : List Text) (c : Command) → Reads words c → IsCalling words → ⊥
unfolding calls_peer
call_is_no_output words c a b = no_call words b.0 (task.Output c) b.1 a refl

pub call_is_no_serving : (words : List Text) → IsServing words → IsCalling words → ⊥
unfolding calls_peer
call_is_no_serving words a b = no_call words b.0 (task.Serve a.0) b.1 a.1 refl

pub call_is_no_flv : (words : List Text) (job : FlvJob) → ReadsFlv words job → IsCalling words → ⊥
unfolding calls_peer
call_is_no_flv words job a b = no_call words b.0 (task.Flv job) b.1 a refl

pub call_is_no_rtmp : (words : List Text) (size : Option ℕ) → ReadsRtmp words size → IsCalling words → ⊥
unfolding calls_peer
call_is_no_rtmp words size a b = no_call words b.0 (task.Rtmp size) b.1 a refl

pub call_is_no_media : (words : List Text) → IsMedia words → IsCalling words → ⊥
call_is_no_media words (inl a) b = call_is_no_flv words a.0 a.1 b
call_is_no_media words (inr a) b = call_is_no_rtmp words a.0 a.1 b

-- what a listener is not
no_listener : (words : List Text) (t : Task) → AsksFor words t → listens t ≡ false → IsListening words → ⊥
unfolding listens
no_listener words t a is b =
    let e : true ≡ false = ap listens (one_task words (task.Listen b.0) t b.1 a) ∙ is in
    cc

pub listener_is_no_output : (words : List Text) (c : Command) → Reads words c → IsListening words → ⊥
unfolding listens
listener_is_no_output words c a b = no_listener words (task.Output c) a refl b

pub listener_is_no_serving : (words : List Text) → IsServing words → IsListening words → ⊥
unfolding listens
listener_is_no_serving words a b = no_listener words (task.Serve a.0) a.1 refl b

pub listener_is_no_flv : (words : List Text) (job : FlvJob) → ReadsFlv words job → IsListening words → ⊥
unfolding listens
listener_is_no_flv words job a b = no_listener words (task.Flv job) a refl b

pub listener_is_no_rtmp : (words : List Text) (size : Option ℕ) → ReadsRtmp words size → IsListening words → ⊥
unfolding listens
listener_is_no_rtmp words size a b = no_listener words (task.Rtmp size) a refl b

pub listener_is_no_media : (words : List Text) → IsMedia words → IsListening words → ⊥
listener_is_no_media words (inl a) b = listener_is_no_flv words a.0 a.1 b
listener_is_no_media words (inr a) b = listener_is_no_rtmp words a.0 a.1 b

pub listener_is_no_call : (words : List Text) → IsCalling words → IsListening words → ⊥
unfolding listens
listener_is_no_call words a b = no_listener words (task.Call a.0) a.1 refl b

pub dialling_is_no_output : (words : List Text) (c : Command) → Reads words c → IsDialling words → ⊥
dialling_is_no_output words c a (inl b) = call_is_no_output words c a b
dialling_is_no_output words c a (inr b) = listener_is_no_output words c a b

pub dialling_is_no_serving : (words : List Text) → IsServing words → IsDialling words → ⊥
dialling_is_no_serving words a (inl b) = call_is_no_serving words a b
dialling_is_no_serving words a (inr b) = listener_is_no_serving words a b

pub dialling_is_no_media : (words : List Text) → IsMedia words → IsDialling words → ⊥
dialling_is_no_media words a (inl b) = call_is_no_media words a b
dialling_is_no_media words a (inr b) = listener_is_no_media words a b

pub not_serving : (words : List Text) (c : Command) → Reads words c → IsServing words → ⊥
not_serving words c a b = not_both words c b.0 a b.1

-- what is no text to be written as bytes

reads_text : Task → Bool
reads_text task.Bytes = true
reads_text t = false

no_bytes : (words : List Text) (t : Task) → AsksFor words t → reads_text t ≡ false → ReadsBytes words → ⊥
unfolding reads_text
no_bytes words t a is b =
    let e : true ≡ false = ap reads_text (one_task words task.Bytes t b a) ∙ is in
    cc

pub bytes_is_no_output : (words : List Text) (c : Command) → Reads words c → ReadsBytes words → ⊥
unfolding reads_text
bytes_is_no_output words c a b = no_bytes words (task.Output c) a refl b

pub bytes_is_no_serving : (words : List Text) → IsServing words → ReadsBytes words → ⊥
unfolding reads_text
bytes_is_no_serving words a b = no_bytes words (task.Serve a.0) a.1 refl b

pub bytes_is_no_media : (words : List Text) → IsMedia words → ReadsBytes words → ⊥
unfolding reads_text
bytes_is_no_media words (inl a) b = no_bytes words (task.Flv a.0) a.1 refl b
bytes_is_no_media words (inr a) b = no_bytes words (task.Rtmp a.0) a.1 refl b

pub bytes_is_no_dialling : (words : List Text) → IsDialling words → ReadsBytes words → ⊥
unfolding reads_text
bytes_is_no_dialling words (inl a) b = no_bytes words (task.Call a.0) a.1 refl b
bytes_is_no_dialling words (inr a) b = no_bytes words (task.Listen a.0) a.1 refl b

-- ---- words that are UTF-8

pub all_push : (xs : List Text) (x : Text) → AllByRecursion IsUtf8 xs → IsUtf8 x → AllByRecursion IsUtf8 (xs ++ x ∷ [])
all_push [] x h p = (p, tt)
all_push (y ∷ ys) x h p = (h.0, all_push ys x h.1 p)

pub all_at : (words : List Text) (i : ℕ) (d : Text) → i < length words → AllByRecursion IsUtf8 words → IsUtf8 (slice_index_or words i d)
all_at [] i d lt h = absurd (omega arith)
all_at (w ∷ ws) zero d lt h = h.0
all_at (w ∷ ws) (suc i) d lt h = all_at ws i d (omega arith) h.1

reads_seen : (o : Option Task) (seen words : List Text) → seen ≡ words → AllByRecursion IsUtf8 words → IfSome o (λ t. Asks seen t) → IfSome o (AsksFor words)
reads_seen None seen words same utf8 h = tt
reads_seen (Some c) seen words same utf8 h = (utf8, subst (λ (ws : List Text). Asks ws c) same h)

none_seen : (o : Option Task) (seen words : List Text) → seen ≡ words → IfNone o ((t : Task) → Asks seen t → ⊥) → IfNone o (HasReading words → ⊥)
none_seen (Some c) seen words same h = tt
none_seen None seen words same h = λ has. h has.0 (subst (λ (ws : List Text). Asks ws has.0) (sym same) has.1.1)

pub answer_reads : {E : Type 0} (r : Result (Option Task) E) (seen words : List Text) → seen ≡ words → AllByRecursion IsUtf8 words → IfOk r (λ o. IfSome o (λ t. Asks seen t)) → IfOk r (λ o. IfSome o (AsksFor words))
answer_reads (Ok o) seen words same utf8 h = reads_seen o seen words same utf8 h
answer_reads (Err e) seen words same utf8 h = tt

pub answer_none : {E : Type 0} (r : Result (Option Task) E) (seen words : List Text) → seen ≡ words → IfOk r (λ o. IfNone o ((t : Task) → Asks seen t → ⊥)) → IfOk r (λ o. IfNone o (HasReading words → ⊥))
answer_none (Ok o) seen words same h = none_seen o seen words same h
answer_none (Err e) seen words same h = tt

-- ---- what was asked

pub was_asked : (words : List Text) (o : Option Task) (t u : Task) → o ≡ Some t → t ≡ u → IfSome o (AsksFor words) → AsksFor words u
was_asked words o t u e f h = subst (AsksFor words) f (subst (λ (x : Option Task). IfSome x (AsksFor words)) e h)

pub none_asked : (words : List Text) (o : Option Task) → o ≡ None → IfNone o (HasReading words → ⊥) → HasReading words → ⊥
none_asked words o e h = subst (λ (x : Option Task). IfNone x (HasReading words → ⊥)) e h
