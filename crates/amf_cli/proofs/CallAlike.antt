-- What came of a call is so for each graph that the input spells, since two of them are isomorphic.
use Rattle.std.proofs.Common.{◌≡◌, ◌⊎◌, inl, inr, ℕ, false, List, [], ◌∷◌, length, refl, sym, ap, ◌∙◌, arith}
use Rattle.std.proofs.lemmas.List.Elements.{length_all_zip}
use Rattle.amf_io.specs.declared.source.Source.{Ghosts as SourceMembers}
use Rattle.amf_io.specs.declared.sink.Sink.{Ghosts as SinkMembers}
use Rattle.amf_io.specs.declared.dial.Dial.{Ghosts as DialMembers}
use Rattle.amf_io.specs.declared.link.Link.{Ghosts as LinkMembers}
use Rattle.amf_graph.specs.ByName.{by_name}
use Rattle.amf_graph.specs.Graph.{Value, leaf, node, Head, array, Graph, node_at}
use Rattle.amf_graph.specs.Isomorphic.{ValuesMatch, PairsMatch, StandIn, Isomorphic}
use Rattle.amf_graph.proofs.Isomorphisms.{isomorphic_sym}
use Rattle.amf_graph.proofs.NameOrder.{by_name_length}
use Rattle.amf3_spelling.proofs.Decides3.{same_bytes_isomorphic}
use Rattle.amf3_spelling.proofs.LacksAlike.{lacks_alike}
use Rattle.amf_listings.specs.SamePacket.{SamePacket, IsLoweredPacket}
use Rattle.amf_listings.proofs.PacketLawRows.{packet_laws}
use Rattle.amf_client.specs.Asking.{IsAsk, are_arguments, are_arguments_at, call_packet, is_unnamed_array}
use Rattle.amf_dial_and_call.specs.declared.answer.CallAnswer.{CallAnswer}
use Rattle.amf_dial_and_call.specs.declared.answer.CallAnswer.TheVariants.{Graph as Given, Fault, BadReply, LinkFault, NotArgs, NoSpelling, Memory}
use Rattle.amf_dial_and_call.specs.Called.{Calls, Counts, IsNumbered}
use Rattle.amf_commands.specs.declared.command.CallOptions.{CallOptions}
use Rattle.amf_commands.specs.declared.format.Format.TheVariants.{Amf3}
use Rattle.amf_commands.specs.Content.{value}
use Rattle.amf_commands.specs.Run.{IsInputOf}
use Rattle.amf_cli.specs.CallEnds.{AnswerEnds, CallEnds, answered, CameTo}

-- Arguments.

has_names : (a : Head) (p : List ℕ × Value) (ps : List (List ℕ × Value)) → is_unnamed_array a (p ∷ ps) ≡ false
has_names array p ps = refl
has_names _ p ps = refl

same_unnamed : (a : Head) (ps qs : List (List ℕ × Value)) → length ps ≡ length qs → is_unnamed_array a ps ≡ is_unnamed_array a qs
same_unnamed a [] [] e = refl
same_unnamed a [] (q ∷ qs) e = absurd (omega (arith, e))
same_unnamed a (p ∷ ps) [] e = absurd (omega (arith, e))
same_unnamed a (p ∷ ps) (q ∷ qs) e = has_names a p ps ∙ sym (has_names a q qs)

module _ (g h : Graph) (same : Isomorphic g h) where
  arguments_at : (v w : Value) → ValuesMatch (StandIn same.pairs) v w → are_arguments_at g v ≡ are_arguments_at h w
  arguments_at (leaf x) (leaf y) m = refl
  arguments_at (leaf x) (node j) m = absurd m
  arguments_at (node i) (leaf y) m = absurd m
  arguments_at (node i) (node j) m =
      let n = same.nodes i j m in
      let ps = (node_at g i).names in
      let qs = (node_at h j).names in
      let many : length ps ≡ length qs = sym (by_name_length ps) ∙ length_all_zip (PairsMatch (StandIn same.pairs)) (by_name ps) (by_name qs) n.names ∙ by_name_length qs in
      ap (λ (k : Head). is_unnamed_array k ps) n.head ∙ same_unnamed (node_at h j).head ps qs many

  arguments_alike : are_arguments g ≡ are_arguments h
  arguments_alike = arguments_at g.root h.root same.root

-- The call: its packet has nothing to lower.

lowered_call : (target : List ℕ) (g : Graph) → IsLoweredPacket (call_packet target g) (call_packet target g)
lowered_call target g = record { version = refl; headers = tt; messages = ((refl, refl, (refl, refl)), tt) }

same_call : (target : List ℕ) (g h : Graph) → Isomorphic g h → SamePacket (call_packet target g) (call_packet target h)
same_call target g h same = record { version = refl; headers = tt; messages = ((refl, refl, (refl, same)), tt) }

asks_alike : (port : ℕ) (target : List ℕ) (g h : Graph) → Isomorphic g h → (bytes : List ℕ) → IsAsk port target g bytes → IsAsk port target h bytes
asks_alike port target g h same bytes a = record {
  packet = a.packet;
  spelled = (packet_laws.every (call_packet target g) (call_packet target g) a.packet a.spelled (lowered_call target g) (call_packet target h)).0
      (call_packet target h, lowered_call target h, same_call target h g (isomorphic_sym g h same));
  whole = a.whole;
}

module _ {D L : Type 0} (d : DialMembers D L) (l : LinkMembers L) (port : ℕ) (dial back : D) (target : List ℕ) (g h : Graph) (same : Isomorphic g h) where
  calls_alike : (answer : CallAnswer) → Calls d l port dial back target g answer → Calls d l port dial back target h answer
  calls_alike (Given x) (call, ask, over) = (call, asks_alike port target g h same call ask, over)
  calls_alike (Fault code text) (call, ask, over) = (call, asks_alike port target g h same call ask, over)
  calls_alike (BadReply number) (call, ask, over) = (call, asks_alike port target g h same call ask, over)
  calls_alike LinkFault (call, ask, over) = (call, asks_alike port target g h same call ask, over)
  calls_alike NotArgs (kept, none) = (kept, sym (arguments_alike g h same) ∙ none)
  calls_alike (NoSpelling k) (kept, are, lack) = (kept, sym (arguments_alike g h same) ∙ are, lacks_alike g h same k.node k.kind lack)
  calls_alike Memory (inl kept) = inl kept
  calls_alike Memory (inr (call, ask, over)) = inr (call, asks_alike port target g h same call ask, over)

  not_arguments_alike : (answer : CallAnswer) → (are_arguments g ≡ false → (answer ≡ NotArgs) ⊎ (answer ≡ Memory)) → are_arguments h ≡ false → (answer ≡ NotArgs) ⊎ (answer ≡ Memory)
  not_arguments_alike answer told none = told (arguments_alike g h same ∙ none)

-- what the same bytes spell is isomorphic
spelled_alike : (g h : Graph) (input : List ℕ) → IsInputOf Amf3 (value g) input → IsInputOf Amf3 (value h) input → Isomorphic g h
spelled_alike g h input s t = same_bytes_isomorphic g h input (s.fields, s.spelled, s.parts) (t.fields, t.spelled, t.parts)

module _ {I O E D L : Type 0} (i : SourceMembers I) (o : SinkMembers O) (e : SinkMembers E) (d : DialMembers D L) (l : LinkMembers L) (options : CallOptions) (status : ℕ) (input rest : I) (out wrote : O) (err told : E) (dial back : D) where
  abbrev Came : Graph → CallAnswer → Type 0
  Came args answer = CameTo i o e d l options status input rest out wrote err told dial back args answer

  abbrev Made : Graph → CallAnswer → Type 0
  Made args answer = Calls d l options.port dial back options.target args answer

  -- the input was read whole, the call was made, and its answer told
  pub answered_with : (args : Graph) (answer : CallAnswer) → (i.tells input → IsInputOf Amf3 (value args) (i.left input) × (i.left rest ≡ [])) → Made args answer → (are_arguments args ≡ false → (answer ≡ NotArgs) ⊎ (answer ≡ Memory)) → Counts (d.faults dial) (d.faults back) answer → IsNumbered answer
      → AnswerEnds o e out wrote err told answer status → CallEnds i o e d l options status input rest out wrote err told dial back
  answered_with args answer reads calls arguments counts numbered ends = answered (record {
    args = args;
    spelled = λ t. (reads t).0;
    all_read = λ t. (reads t).1;
    answer = answer;
    came_to = record { calls = calls; arguments = arguments };
    every = every;
    counts = counts;
    numbered = numbered;
    ends = ends;
  })
    where
      every : i.tells input → (g : Graph) → IsInputOf Amf3 (value g) (i.left input) → Came g answer
      every t g is =
          let same : Isomorphic args g = spelled_alike args g (i.left input) (reads t).0 is in
          record {
            calls = calls_alike d l options.port dial back options.target args g same answer calls;
            arguments = not_arguments_alike d l options.port dial back options.target args g same answer arguments;
          }
