-- The externalizable classes that are served, by their names.
use Rattle.std.specs.Prelude.{ℕ, List, Option, Some, None, bytes_eq, if◌then◌else◌}
use Rattle.amf_graph.specs.declared.wrapped.Wrapped.{Wrapped}
use Rattle.amf_graph.specs.declared.wrapped.Wrapped.TheVariants.{ArrayCollection, ArrayList, ObjectProxy}
use Rattle.amf_graph.specs.Graph.{class_name}

-- the class of this name
abbrev pub class_named : List ℕ → Option Wrapped
class_named x =
    if bytes_eq (class_name ArrayCollection) x then Some ArrayCollection
    else (if bytes_eq (class_name ArrayList) x then Some ArrayList
    else (if bytes_eq (class_name ObjectProxy) x then Some ObjectProxy
    else None))
