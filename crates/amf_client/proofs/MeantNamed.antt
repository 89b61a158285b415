-- A graph that answers a call has no empty dynamic or associative name.
use Rattle.std.proofs.Common.{◌≡◌, ℕ, List, [], ◌∷◌, Option, Some, None, subst, inl, inr, Result, Ok, Err}
use Rattle.std.specs.Prelude.{IfOk}
use Rattle.amf_graph.specs.Graph.{Graph}
use Rattle.amf_graph.specs.Reached.{IsNamed}
use Rattle.amf_graph.specs.Rooted.{RootedArena, content}
use Rattle.amf_packet.specs.Packet.{Message}
use Rattle.amf_client.specs.declared.ends.AnswerFault.{AnswerFault}
use Rattle.amf_client.specs.declared.meaning.TargetKind.{TargetKind}
use Rattle.amf_client.specs.declared.meaning.TargetKind.TheVariants as kind
use Rattle.amf_client.specs.Faults.{fault_texts}
use Rattle.amf_client.specs.Meanings.{IsMeant}
use Rattle.amf_client.specs.Meant.{kind_of, faulted, GraphMeans, MessagesMean, Means}
use Rattle.amf_client.specs.Outcomes.{result}
use Rattle.amf_client.proofs.MeantAlike.{named_alike}

same_graph : (g h : Graph) → result h ≡ result g → g ≡ h
same_graph g h e = cc

-- a fault is no result
no_fault : (texts : Option (List ℕ × List ℕ)) (h : Graph) → result h ≡ faulted {G = Graph} texts → ⊥
no_fault None h e = absurd cc
no_fault (Some x) h e = absurd cc

graph_named : (k : TargetKind) (g h : Graph) → GraphMeans k g (result h) → IsNamed h
graph_named kind.Result g h (inl (named, e)) = subst IsNamed (same_graph g h e) named
graph_named kind.Result g h (inr (unnamed, e)) = absurd cc
graph_named kind.Status g h e = absurd (no_fault (fault_texts g) h e)
graph_named kind.Other g h e = absurd cc

messages_named : (ms : List Message) (h : Graph) → MessagesMean GraphMeans ms (result h) → IsNamed h
messages_named [] h e = absurd cc
messages_named (m ∷ []) h e = graph_named (kind_of m.target) m.body.graph h e
messages_named (m ∷ n ∷ more) h e = absurd cc

body_named : (body : List ℕ) (h : Graph) → Means body (result h) → IsNamed h
body_named body h (inl (none, e)) = absurd cc
body_named body h (inr (p, spelled, means)) = messages_named p.messages h means

pub meant_named : (body : List ℕ) (r : Result RootedArena AnswerFault) → IsMeant body r → IfOk r (λ g. IsNamed (content g))
meant_named body (Ok g) (h, means, same) = named_alike h (content g) same (body_named body h means)
meant_named body (Err e) means = tt
