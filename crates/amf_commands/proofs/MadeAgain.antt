-- The graph that is made has a canonical spelling, and what reads this gives the graph back.
use Rattle.std.proofs.Common.{◌≡◌, ℕ, zero, suc, ◌-◌, ◌≤◌, Err, List, [], ◌∷◌, length, get_or, refl, sym, ap, ◌∙◌, subst, arith}
use Rattle.std.specs.List.{AllByRecursion}
use Rattle.std.proofs.lemmas.List.{length-map}
use Rattle.amf_wire.specs.Style.{canonical}
use Rattle.amf_graph.specs.Arena.{node_content}
use Rattle.amf_graph.specs.declared.lack.LackKind.{LackKind}
use Rattle.amf_graph.specs.declared.lack.LackKind.TheVariants.{EmptyName, NoForm, LongName, Shared, FarReference, LongFile}
use Rattle.amf_graph.specs.Isomorphic.{Isomorphic}
use Rattle.amf_graph.specs.Rooted.{RootedArena, content}
use Rattle.amf_graph.proofs.Reaching.{order_reached}
use Rattle.amf3_spelling.specs.Lacks3.{NodeLacks3, IsLack3}
use Rattle.amf3_spelling.specs.Spells3.{Spelled3}
use Rattle.amf_graph.specs.Graph.{Graph, no_node, node_at, AllNamed}
use Rattle.amf_graph.specs.Reached.{IsNamed}
use Rattle.amf_graph.proofs.Alls.{all_push}
use Rattle.amf_vectors.specs.Made.{each, made_object, made}
use Rattle.amf_commands.specs.declared.format.Format.TheVariants.{Amf3}
use Rattle.amf_commands.specs.declared.run_end.RunEnd.{RunEnd}
use Rattle.amf_commands.specs.declared.run_end.RunEnd.TheVariants as run
use Rattle.amf_commands.specs.Content.{value}
use Rattle.amf_commands.specs.Input.{most, one}
use Rattle.amf_commands.specs.Lines.{measure_line}
use Rattle.amf_commands.specs.Run.{IsInputOf, IsMeasured, CountsReads, NeverLacks, ReadsInput}
use Rattle.amf_commands.proofs.Formats.{forgotten}
use Rattle.amf_commands.proofs.Spelled.{never_refused, same_input}

each_all : {X : Type 0} (Q : X → Type 0) (f : ℕ → X) (n : ℕ) → ((i : ℕ) → Q (f i)) → AllByRecursion Q (each f n)
each_all Q f zero h = tt
each_all Q f (suc n) h = all_push Q (each f n) (f (suc n)) (each_all Q f n h) (h (suc n))

all_or : {X : Type 0} (Q : X → Type 0) (xs : List X) (i : ℕ) (d : X) → Q d → AllByRecursion Q xs → Q (get_or xs i d)
all_or Q [] i d e h = e
all_or Q (x ∷ xs) zero d e h = h.0
all_or Q (x ∷ xs) (suc i) d e h = all_or Q xs i d e h.1

-- no name of it is empty
pub made_named : (seed size : ℕ) → IsNamed (made seed size)
made_named seed size i r =
    all_or (λ a. AllNamed a.names) (made seed size).nodes i no_node tt
    (tt, each_all (λ a. AllNamed a.names) (made_object seed) (size - 1) (λ j. ((λ e. cc), ((λ e. cc), tt))))

-- a graph without empty names has no lack

node_named : (g : Graph) (i : ℕ) (kind : LackKind) → AllNamed (node_at g i).names → NodeLacks3 g i kind → ⊥
node_named g i EmptyName a l = l a
node_named g i NoForm a l = l
node_named g i LongName a l = l
node_named g i Shared a l = l
node_named g i FarReference a l = l
node_named g i LongFile a l = l

pub never_lacks : (g : Graph) → IsNamed g → (n : ℕ) (kind : LackKind) → IsLack3 g n kind → ⊥
never_lacks g named n kind (order, walk, f) =
    let l = f.lacks in
    node_named g l.0 kind (named l.0 ((order_reached g order walk l.0).1 (n, l.1))) l.2

-- canonical bytes that are an input
as_input : (g : Graph) (bytes : List ℕ) → Spelled3 canonical g bytes → length bytes ≤ most → IsInputOf Amf3 (value g) bytes
as_input g bytes s w = let f = forgotten Amf3 (value g) bytes refl s in record { fields = f.0; spelled = f.1; its_length = tt; parts = f.2; within = w }

-- are read where there is memory
pub no_other_end : {X : Type 0} (Q : X → Type 0) (g : Graph) (bytes rest : List ℕ) (e : RunEnd) → Spelled3 canonical g bytes → length bytes ≤ most → ReadsInput (one Amf3) NeverLacks Q bytes rest (Err e) → CountsReads {T = X} 0 0 (Err e) → e ≡ run.NoMemory
no_other_end Q g bytes rest (run.Refused f) s w r c = absurd (never_refused Amf3 (value g) bytes f.reason f.at (as_input g bytes s w) r)
no_other_end Q g bytes rest run.Usage s w r c = absurd r
no_other_end Q g bytes rest run.ReadFault s w r c = absurd (omega (arith, c.1))
no_other_end Q g bytes rest run.WriteFault s w r c = absurd r
no_other_end Q g bytes rest run.NoMemory s w r c = refl
no_other_end Q g bytes rest run.FrontFault s w r c = absurd r
no_other_end Q g bytes rest (run.NoForm v l) s w r c = absurd r.0

-- and give the graph back
pub gives_back : (g h : Graph) (bytes : List ℕ) → Spelled3 canonical g bytes → length bytes ≤ most → IsInputOf Amf3 (value h) bytes → Isomorphic g h
gives_back g h bytes s w i = same_input Amf3 (value g) (value h) bytes (as_input g bytes s w) i

-- what was made is measured
pub measures : (g : RootedArena) (m : Graph) (bytes line : List ℕ) (n : ℕ) → content g ≡ m → Spelled3 canonical (content g) bytes → n ≡ length g.arena.nodes → line ≡ measure_line n bytes → IsMeasured m line
measures g m bytes line n made spelled count is =
    let nodes : length g.arena.nodes ≡ length m.nodes = sym (length-map g.arena.nodes (node_content g.arena)) ∙ ap (λ (x : Graph). length x.nodes) made in
    (bytes, subst (λ (x : Graph). Spelled3 canonical x bytes) made spelled, is ∙ ap (λ k. measure_line k bytes) (count ∙ nodes))
