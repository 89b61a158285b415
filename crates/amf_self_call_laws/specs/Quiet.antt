-- To answer a call the gateway asks the desk nothing, and needs no moment and no word.
use Rattle.std.specs.Prelude.{ℕ, ◌<◌, ◌^◌, List, length, Option}
use Rattle.amf_graph.specs.Graph.{Graph}
use Rattle.amf_packet.specs.Packet.{Packet}
use Rattle.amf_service.specs.Registry.{Entry}
use Rattle.amf_client.specs.Asking.{IsAsk}
use Rattle.amf_answer_plan.specs.Links.{link}
use Rattle.amf_answer_plan.specs.Plan.{Cut, Plan, gives, takes_moment, takes_word, calls, spells, reads, cuts, unpacks, packs, writes}
use Rattle.amf_answer_plan.specs.Runs.{IsSpelling, IsUnpacked, IsPacked, IsStored, IsCut, Finds}
use Rattle.amf_self_call_laws.specs.Round.{IsCall}

-- no step that the plan comes to is a call of the desk, or takes a moment or a word
abbrev pub IsQuiet : {X : Type 0} → Plan X → Type 0
IsQuiet (gives x) = Unit {0}
IsQuiet (takes_moment next) = ⊥
IsQuiet (takes_word next) = ⊥
IsQuiet (calls at call next) = ⊥
IsQuiet (spells how g next) = (b : Option (List ℕ)) → Finds (IsSpelling how g) b → IsQuiet (next b)
IsQuiet (reads message next) = (g : Option Graph) → Finds (λ h. IsStored h message) g → IsQuiet (next g)
IsQuiet (cuts bytes next) = (c : Cut) → IsCut bytes c → IsQuiet (next c)
IsQuiet (unpacks bytes next) = (p : Option Packet) → Finds (λ q. IsUnpacked q bytes) p → IsQuiet (next p)
IsQuiet (packs p next) = (b : List ℕ) → IsPacked p b → IsQuiet (next b)
IsQuiet (writes answer next) = IsQuiet next

-- so is the plan for the bytes of a call
abbrev pub CallIsQuiet : Type 0
CallIsQuiet =
    (services : List Entry) (target : List ℕ) (args : Graph) → IsCall target args →
    (port : ℕ) → port < 2 ^ 16 → (asked : List ℕ) → IsAsk port target args asked → length asked < 2 ^ 64 → IsQuiet (link services asked)
