-- What a gateway does, step by step: what it takes, asks and answers, and how it goes on with what it gets.
use Rattle.std.specs.Prelude.{ℕ, Bool, List, Option}
use Rattle.amf_broker.specs.declared.call.Call.{Call}
use Rattle.amf_broker.specs.declared.reply.Reply.{Reply}
use Rattle.amf_graph.specs.Graph.{Graph}
use Rattle.amf_packet.specs.Packet.{Packet}

-- how a graph is spelled: lowered in AMF 0, or as it is in AMF 3
pub data Spelling : Type 0 where
  lowered : Spelling
  whole : Spelling

-- what the bytes of a link begin with: nothing; too little of a request; a request that is refused with a status; a request, and then the rest
pub data Cut : Type 0 where
  at_end : Cut
  cut_short : Cut
  turned_away : (status : ℕ) → Cut
  request : (body : List ℕ) (close : Bool) (rest : List ℕ) → Cut

-- the steps, which at last give a value
pub data Plan (X : Type 0) : Type 0 where
  gives : (x : X) → Plan X
  -- the next moment, the next word
  takes_moment : (next : ℕ → Plan X) → Plan X
  takes_word : (next : ℕ → Plan X) → Plan X
  -- a desk call of this moment, and its reply
  calls : (moment : ℕ) (call : Call) (next : Reply → Plan X) → Plan X
  -- the canonical spelling of a graph, if it has one
  spells : (how : Spelling) (g : Graph) (next : Option (List ℕ) → Plan X) → Plan X
  -- the graph of a stored message, if the bytes spell one
  reads : (message : List ℕ) (next : Option Graph → Plan X) → Plan X
  -- the first request of the bytes that a link has left
  cuts : (bytes : List ℕ) (next : Cut → Plan X) → Plan X
  -- the packet that the bytes spell, if they spell one
  unpacks : (bytes : List ℕ) (next : Option Packet → Plan X) → Plan X
  -- the canonical spelling of a packet
  packs : (p : Packet) (next : List ℕ → Plan X) → Plan X
  -- the answer to a request is written
  writes : (answer : List ℕ) (next : Plan X) → Plan X

-- one plan, and then what its value makes of the next
abbrev pub ◌>>=◌ : {X Y : Type 0} → Plan X → (X → Plan Y) → Plan Y
◌>>=◌ (gives x) f = f x
◌>>=◌ (takes_moment next) f = takes_moment (λ m. ◌>>=◌ (next m) f)
◌>>=◌ (takes_word next) f = takes_word (λ w. ◌>>=◌ (next w) f)
◌>>=◌ (calls m c next) f = calls m c (λ r. ◌>>=◌ (next r) f)
◌>>=◌ (spells how g next) f = spells how g (λ b. ◌>>=◌ (next b) f)
◌>>=◌ (reads b next) f = reads b (λ g. ◌>>=◌ (next g) f)
◌>>=◌ (cuts b next) f = cuts b (λ c. ◌>>=◌ (next c) f)
◌>>=◌ (unpacks b next) f = unpacks b (λ p. ◌>>=◌ (next p) f)
◌>>=◌ (packs p next) f = packs p (λ b. ◌>>=◌ (next b) f)
◌>>=◌ (writes b next) f = writes b (◌>>=◌ next f)

-- Single steps.

abbrev pub moment : Plan ℕ
moment = takes_moment (λ m. gives m)

abbrev pub word : Plan ℕ
word = takes_word (λ w. gives w)

abbrev pub reply_to : (moment : ℕ) → Call → Plan Reply
reply_to at call = calls at call (λ r. gives r)

abbrev pub spelling_of : Spelling → Graph → Plan (Option (List ℕ))
spelling_of how g = spells how g (λ b. gives b)

abbrev pub stored_in : List ℕ → Plan (Option Graph)
stored_in message = reads message (λ g. gives g)

abbrev pub first_request : List ℕ → Plan Cut
first_request bytes = cuts bytes (λ c. gives c)

abbrev pub packet_in : List ℕ → Plan (Option Packet)
packet_in bytes = unpacks bytes (λ p. gives p)

abbrev pub bytes_of : Packet → Plan (List ℕ)
bytes_of p = packs p (λ b. gives b)
