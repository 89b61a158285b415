-- What the words of a command line ask for: which commands there are, which options each has, and what their values say.
use Rattle.std.specs.Prelude.{◌≡◌, ◌⊎◌, ◌&&◌, ℕ, Bool, true, false, List, [], ◌∷◌, length, codes, Option, Some, None, nat_le, nat_lt, if◌then◌else◌}
use Rattle.std.specs.Option.{option_map, option_and_then}
use Rattle.std.specs.List.{list_all, AllByRecursion}
use Rattle.std.specs.Str.{bytes_eq, IsUtf8}
use Rattle.std.specs.Str.Parse.{digits_value}
use Rattle.amf_options.specs.Words.{Text, Given, HasOptions, value_of}
use Rattle.amf_text_write.specs.declared.layout.Layout.{Layout}
use Rattle.amf_text_write.specs.declared.layout.Layout.TheVariants.{Lines, Compact}
use Rattle.flv_meta.specs.declared.flv_job.FlvJob.{FlvJob}
use Rattle.flv_meta.specs.declared.flv_job.FlvJob.TheVariants as flv
use Rattle.amf_commands.specs.declared.command.CallOptions.{CallOptions}
use Rattle.amf_commands.specs.declared.command.Command.{Command}
use Rattle.amf_commands.specs.declared.command.Command.TheVariants as command
use Rattle.amf_commands.specs.declared.command.ListenOptions.{ListenOptions}
use Rattle.amf_commands.specs.declared.command.ServeOptions.{ServeOptions}
use Rattle.amf_commands.specs.declared.command.Task.{Task}
use Rattle.amf_commands.specs.declared.command.Task.TheVariants as task
use Rattle.amf_commands.specs.declared.format.Format.{Format}
use Rattle.amf_commands.specs.declared.format.Format.TheVariants.{Amf3, Amf0, Packet, Sol}
use Rattle.amf_commands.specs.declared.command_name.CommandName.{CommandName}
use Rattle.amf_commands.specs.declared.command_name.CommandName.TheVariants as command_name

abbrev pub name_of : CommandName → Text
name_of command_name.Canon = codes "canon"
name_of command_name.Check = codes "check"
name_of command_name.Show = codes "show"
name_of command_name.Json = codes "json"
name_of command_name.Bytes = codes "bytes"
name_of command_name.Same = codes "same"
name_of command_name.Gen = codes "gen"
name_of command_name.Serve = codes "serve"
name_of command_name.Flv = codes "flv"
name_of command_name.Rtmp = codes "rtmp"
name_of command_name.Call = codes "call"
name_of command_name.Listen = codes "listen"
name_of command_name.Version = codes "version"

abbrev pub options_for : CommandName → List Text
options_for command_name.Canon = codes "from" ∷ codes "to" ∷ []
options_for command_name.Check = codes "from" ∷ []
options_for command_name.Show = codes "from" ∷ []
options_for command_name.Json = codes "from" ∷ codes "layout" ∷ []
options_for command_name.Bytes = []
options_for command_name.Same = []
options_for command_name.Gen = codes "seed" ∷ codes "size" ∷ []
options_for command_name.Serve = codes "port" ∷ codes "workers" ∷ codes "each" ∷ []
options_for command_name.Flv = codes "do" ∷ []
options_for command_name.Rtmp = codes "do" ∷ codes "size" ∷ []
options_for command_name.Call = codes "port" ∷ codes "target" ∷ []
options_for command_name.Listen = codes "port" ∷ codes "destination" ∷ codes "polls" ∷ []
options_for command_name.Version = []

-- What a value says.

abbrev pub format_named : Text → Option Format
format_named text = if bytes_eq text (codes "amf3") then Some Amf3 else (if bytes_eq text (codes "amf0") then Some Amf0 else (if bytes_eq text (codes "packet") then Some Packet else (if bytes_eq text (codes "sol") then Some Sol else None)))

-- the format that a value names; without a value this one
abbrev pub format_or : Format → Option Text → Option Format
format_or default None = Some default
format_or default (Some text) = format_named text

-- the layout of a text that a value names
abbrev pub layout_named : Text → Option Layout
layout_named text = if bytes_eq text (codes "lines") then Some Lines else (if bytes_eq text (codes "compact") then Some Compact else None)

-- without a value it is by lines
abbrev pub layout_or : Option Text → Option Layout
layout_or None = Some Lines
layout_or (Some text) = layout_named text

abbrev pub is_digit : ℕ → Bool
is_digit b = nat_le 48 b && nat_le b 57

-- 1 to 10 decimal digits
abbrev pub is_numeral : Text → Bool
is_numeral text = nat_lt 0 (length text) && (nat_le (length text) 10 && list_all is_digit text)

-- the number of a numeral, where it is from `least` to `most`
abbrev pub number_named : ℕ → ℕ → Text → Option ℕ
number_named least most text =
    if is_numeral text && (nat_le least (digits_value 10 text) && nat_le (digits_value 10 text) most) then Some (digits_value 10 text) else None

abbrev pub number_at : ℕ → ℕ → Option Text → Option ℕ
number_at least most = option_and_then (number_named least most)

-- a target of a call has at most 65,535 bytes
abbrev pub target_named : Text → Option Text
target_named text = if nat_le (length text) 65535 then Some text else None

abbrev pub target_at : Option Text → Option Text
target_at = option_and_then target_named

-- and so has a destination
abbrev pub destination_at : Option Text → Option Text
destination_at = target_at

-- What the values ask for.

-- a value goes to either format of values, a packet to a packet alone, and a file to a file alone
abbrev pub goes_to : Format → Format → Bool
goes_to Packet Packet = true
goes_to Sol Sol = true
goes_to Packet to = false
goes_to Sol to = false
goes_to from Packet = false
goes_to from Sol = false
goes_to from to = true

abbrev pub canon_to : Format → Option Format → Option Command
canon_to from None = None
canon_to from (Some to) = if goes_to from to then Some (command.Canon from to) else None

-- without `--to` the format stays
abbrev pub canon_from : Option Format → Option Text → Option Command
canon_from None to = None
canon_from (Some from) to = canon_to from (format_or from to)

-- both values name something
abbrev pub json_of : Option Format → Option Layout → Option Command
json_of (Some from) (Some layout) = Some (command.Json from layout)
json_of from layout = None

-- both numbers are given
abbrev pub gen_of : Option ℕ → Option ℕ → Option Command
gen_of (Some seed) (Some size) = Some (command.Gen seed size)
gen_of seed size = None

-- all three numbers are given
abbrev pub serve_of : Option ℕ → Option ℕ → Option ℕ → Option ServeOptions
serve_of (Some port) (Some workers) (Some each) = Some (record { port = port; workers = workers; each = each })
serve_of port workers each = None

-- the job on an FLV file that a value names
abbrev pub flv_job_named : Text → Option FlvJob
flv_job_named text = if bytes_eq text (codes "show") then Some flv.Show
    else (if bytes_eq text (codes "drop") then Some flv.Drop
    else (if bytes_eq text (codes "set") then Some flv.Set else None))

-- a chunk stream is listed without a size
abbrev pub rtmp_show : Option Text → Option (Option ℕ)
rtmp_show None = Some None
rtmp_show (Some size) = None

-- by the values of `--do` and `--size`: `show` has no size, and `rechunk` has one
abbrev pub rtmp_of : Option Text → Option Text → Option (Option ℕ)
rtmp_of None size = None
rtmp_of (Some text) size = if bytes_eq text (codes "show") then rtmp_show size
    else (if bytes_eq text (codes "rechunk") then option_map Some (number_at 1 2147483647 size) else None)

-- both the port and the target are given
abbrev pub call_of : Option ℕ → Option Text → Option CallOptions
call_of (Some port) (Some target) = Some (record { port = port; target = target })
call_of port target = None

-- the port, the destination and the number of polls are given
abbrev pub listen_of : Option ℕ → Option Text → Option ℕ → Option ListenOptions
listen_of (Some port) (Some destination) (Some polls) = Some (record { port = port; destination = destination; polls = polls })
listen_of port destination polls = None

-- `json`, by the values of its options
abbrev pub json_by : (Text → Option Text) → Option Command
json_by value = json_of (format_or Amf3 (value (codes "from"))) (layout_or (value (codes "layout")))

-- `gen`, by the values of its options
abbrev pub gen_by : (Text → Option Text) → Option Command
gen_by value = gen_of (number_at 0 4294967295 (value (codes "seed"))) (number_at 1 1000000 (value (codes "size")))

-- `serve`, by the values of its options
abbrev pub serve_by : (Text → Option Text) → Option ServeOptions
serve_by value = serve_of (number_at 0 65535 (value (codes "port"))) (number_at 1 64 (value (codes "workers"))) (number_at 1 1000000 (value (codes "each")))

-- `call`, by the values of its options
abbrev pub call_by : (Text → Option Text) → Option CallOptions
call_by value = call_of (number_at 0 65535 (value (codes "port"))) (target_at (value (codes "target")))

-- `listen`, by the values of its options
abbrev pub listen_by : (Text → Option Text) → Option ListenOptions
listen_by value = listen_of (number_at 0 65535 (value (codes "port"))) (destination_at (value (codes "destination"))) (number_at 1 1000000 (value (codes "polls")))

-- by its name and the values of its options
abbrev pub task_for : CommandName → (Text → Option Text) → Option Task
task_for command_name.Canon value = option_map task.Output (canon_from (format_or Amf3 (value (codes "from"))) (value (codes "to")))
task_for command_name.Check value = option_map task.Output (option_map command.Check (format_or Amf3 (value (codes "from"))))
task_for command_name.Show value = option_map task.Output (option_map command.Show (format_or Amf3 (value (codes "from"))))
task_for command_name.Json value = option_map task.Output (json_by value)
task_for command_name.Bytes value = Some task.Bytes
task_for command_name.Same value = Some (task.Output command.Same)
task_for command_name.Gen value = option_map task.Output (gen_by value)
task_for command_name.Serve value = option_map task.Serve (serve_by value)
task_for command_name.Flv value = option_map task.Flv (option_and_then flv_job_named (value (codes "do")))
task_for command_name.Rtmp value = option_map task.Rtmp (rtmp_of (value (codes "do")) (value (codes "size")))
task_for command_name.Call value = option_map task.Call (call_by value)
task_for command_name.Listen value = option_map task.Listen (listen_by value)
task_for command_name.Version value = Some (task.Output command.Version)

-- the words ask for this: its name comes first, and the rest gives it options with these values
abbrev pub Asks : List Text → Task → Type 0
Asks words t = (k : CommandName) × (rest : List Text) × (given : Given) × (words ≡ name_of k ∷ rest) × HasOptions (options_for k) rest given × (task_for k (value_of given) ≡ Some t)

-- and each of them is UTF-8
abbrev pub AsksFor : List Text → Task → Type 0
AsksFor words t = AllByRecursion IsUtf8 words × Asks words t

-- for a command that writes an output
abbrev pub Reads : List Text → Command → Type 0
Reads words c = AsksFor words (task.Output c)

-- for a JSON text to be written as bytes
abbrev pub ReadsBytes : List Text → Type 0
ReadsBytes words = AsksFor words task.Bytes

-- for links to be served
abbrev pub ReadsServe : List Text → ServeOptions → Type 0
ReadsServe words o = AsksFor words (task.Serve o)

abbrev pub IsServing : List Text → Type 0
IsServing words = (o : ServeOptions) × ReadsServe words o

-- for a job on an FLV file
abbrev pub ReadsFlv : List Text → FlvJob → Type 0
ReadsFlv words job = AsksFor words (task.Flv job)

-- for a chunk stream to be listed, or to be written in chunks of a size
abbrev pub ReadsRtmp : List Text → Option ℕ → Type 0
ReadsRtmp words size = AsksFor words (task.Rtmp size)

-- for either
abbrev pub IsMedia : List Text → Type 0
IsMedia words = ((job : FlvJob) × ReadsFlv words job) ⊎ ((size : Option ℕ) × ReadsRtmp words size)

-- for one call of a gateway
abbrev pub ReadsCall : List Text → CallOptions → Type 0
ReadsCall words o = AsksFor words (task.Call o)

abbrev pub IsCalling : List Text → Type 0
IsCalling words = (o : CallOptions) × ReadsCall words o

-- for a gateway to be listened to
abbrev pub ReadsListen : List Text → ListenOptions → Type 0
ReadsListen words o = AsksFor words (task.Listen o)

abbrev pub IsListening : List Text → Type 0
IsListening words = (o : ListenOptions) × ReadsListen words o

-- for a gateway to be dialled: by a call, or by a listener
abbrev pub IsDialling : List Text → Type 0
IsDialling words = IsCalling words ⊎ IsListening words

abbrev pub HasReading : List Text → Type 0
HasReading words = (t : Task) × AsksFor words t
