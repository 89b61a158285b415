-- A device of proofs: the arguments of a call by a RemotingMessage, as they are kept.
use Rattle.std.specs.Prelude.{◌≡◌, Option, Some, None}
use Rattle.amf_graph.specs.declared.value.Value.{Value as Stored}
use Rattle.amf_graph.specs.declared.value.Value.TheVariants.{Null}
use Rattle.amf_graph.specs.Arena.{Arena, value_content}
use Rattle.amf_graph.specs.Graph.{Graph}
use Rattle.amf_graph.specs.Isomorphic.{Isomorphic}
use Rattle.amf_graph.specs.Reached.{IsWhole}
use Rattle.amf_graph.specs.Rooted.{RootedArena, content}
use Rattle.amf_graph.specs.Roots.{rooted_at}
use Rattle.amf_answer_plan.specs.Remoting.{empty_arguments}

-- the empty array for null, and else the graph from another value
abbrev pub IsArgument : Graph → Arena → Stored → RootedArena → Type 0
IsArgument g a Null x = content x ≡ empty_arguments
IsArgument g a v x = Isomorphic (rooted_at g (value_content a v)) (content x)

-- arguments that are kept, where there are some
abbrev pub KeepsArguments : Option Graph → Option RootedArena → Type 0
KeepsArguments None None = Unit {0}
KeepsArguments (Some g) (Some x) = IsWhole g × Isomorphic g (content x)
KeepsArguments _ _ = ⊥
