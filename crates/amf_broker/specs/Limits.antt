-- How much a broker keeps at most.
use Rattle.std.specs.Prelude.{ℕ}

-- the clients that are connected at once
abbrev pub most_clients : ℕ
most_clients = 1024

-- the subscriptions of one client that are live, or have ended and are not yet told
abbrev pub most_subs : ℕ
most_subs = 16

-- the deliveries that wait for one client
abbrev pub most_queued : ℕ
most_queued = 128

-- the bytes of a subtopic
abbrev pub most_subtopic : ℕ
most_subtopic = 255

-- the bytes of a message
abbrev pub most_message : ℕ
most_message = 32768

-- the milliseconds after which a client that no call has named expires
abbrev pub most_idle : ℕ
most_idle = 600000
