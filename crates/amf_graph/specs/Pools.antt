-- Parts and bytes of closed nodes, one behind the other. A device of proofs.
use Rattle.std.specs.Prelude.{◌≡◌, ℕ, ◌≤◌, ◌<◌, List, [], length, get_or, take, slice_range}
use Rattle.amf_graph.specs.declared.value.Value.{Value as Stored}
use Rattle.amf_graph.specs.declared.value.TextId.{TextId}
use Rattle.amf_graph.specs.declared.row.Span.{Span}
use Rattle.amf_graph.specs.declared.held.Form.TheVariants as form
use Rattle.amf_graph.specs.declared.row.Both.{Both}
use Rattle.amf_graph.specs.declared.row.Row.{Row}
use Rattle.amf_graph.specs.declared.row.Row.TheVariants as row
use Rattle.amf_graph.specs.Arena.{StoredHead, array, object, wrapper, bytes, values, dictionary, StoredNode}
use Rattle.amf_graph.specs.Building.{no_stored, closed}
use Rattle.amf_graph.specs.Held.{form_head}
use Rattle.amf_graph.specs.Views.{named, flat}

pub record Pool : Type 0 where
  pub values : List Stored
  pub names : List (TextId × Stored)
  pub entries : List (Stored × Stored)
  pub bytes : List ℕ
  pub both : List Both
  pub leaves : List StoredHead

abbrev pub no_pool : Pool
no_pool = record { values = []; names = []; entries = []; bytes = []; both = []; leaves = [] }

-- what stands in the span
abbrev pub span_of : {X : Type 0} → List X → Span → List X
span_of xs s = slice_range xs s.start s.end

abbrev pub SpanIn : {X : Type 0} → List X → Span → Type 0
SpanIn xs s = (s.start ≤ s.end) × (s.end ≤ length xs)

abbrev pub no_both : Both
no_both = record { form = form.Array; values = record { start = 0; end = 0 }; names = record { start = 0; end = 0 } }

-- the values and the pairs are kept here
pub record BothIn (p : Pool) (b : Both) : Type 0 where
  pub values : SpanIn p.values b.values
  pub names : SpanIn p.names b.names

-- the node is kept here
abbrev pub RowIn : Pool → Row → Type 0
RowIn p (row.Slot s) = ⊥
RowIn p (row.Leaf k) = k < length p.leaves
RowIn p (row.Bytes b) = SpanIn p.bytes b
RowIn p (row.Array vs) = SpanIn p.values vs
RowIn p (row.NamedArray ps) = SpanIn p.names ps
RowIn p (row.Object t vs) = SpanIn p.values vs
RowIn p (row.NamedObject t ps) = SpanIn p.names ps
RowIn p (row.Wrapper c vs) = SpanIn p.values vs
RowIn p (row.Values f x vs) = SpanIn p.values vs
RowIn p (row.Both k) = (k < length p.both) × BothIn p (get_or p.both k no_both)
RowIn p (row.Dictionary w es) = SpanIn p.entries es

abbrev pub parts_node : Pool → StoredHead → Span → Span → StoredNode
parts_node p h vs ps = closed h (named (span_of p.names ps)) (span_of p.values vs)

abbrev pub valued_node : Pool → StoredHead → Span → StoredNode
valued_node p h vs = closed h [] (span_of p.values vs)

abbrev pub named_node : Pool → StoredHead → Span → StoredNode
named_node p h ps = closed h (named (span_of p.names ps)) []

abbrev pub both_node : Pool → Both → StoredNode
both_node p b = parts_node p (form_head b.form) b.values b.names

abbrev pub pool_node : Pool → Row → StoredNode
pool_node p (row.Slot s) = no_stored
pool_node p (row.Leaf k) = closed (get_or p.leaves k array) [] []
pool_node p (row.Bytes b) = closed (bytes (span_of p.bytes b)) [] []
pool_node p (row.Array vs) = valued_node p array vs
pool_node p (row.NamedArray ps) = named_node p array ps
pool_node p (row.Object t vs) = valued_node p (object t.0) vs
pool_node p (row.NamedObject t ps) = named_node p (object t.0) ps
pool_node p (row.Wrapper c vs) = valued_node p (wrapper c) vs
pool_node p (row.Values f x vs) = valued_node p (values f x.0) vs
pool_node p (row.Both k) = both_node p (get_or p.both k no_both)
pool_node p (row.Dictionary w es) = closed (dictionary w) [] (flat (span_of p.entries es))

-- the second list begins with the first
abbrev pub IsFront : {X : Type 0} → List X → List X → Type 0
IsFront xs ys = take (length xs) ys ≡ xs

-- what was there is there
pub record Grows (old new : Pool) : Type 0 where
  pub values : IsFront old.values new.values
  pub names : IsFront old.names new.names
  pub entries : IsFront old.entries new.entries
  pub bytes : IsFront old.bytes new.bytes
  pub both : IsFront old.both new.both
  pub leaves : IsFront old.leaves new.leaves

-- a node is kept here now, and all others are where they were
pub record Keeps (old new : Pool) (n : StoredNode) (r : Row) : Type 0 where
  pub inside : RowIn new r
  pub shows : pool_node new r ≡ n
