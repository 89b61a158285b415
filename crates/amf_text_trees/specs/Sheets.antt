-- A sheet: the nodes that stand in a text, in its order, with labels in place of the nodes of rows; and what a tree adds to it.
use Rattle.std.specs.Prelude.{ℕ, List, [], ◌∷◌, ◌++◌, length, map, set, if◌then◌else◌, bytes_eq}
use Rattle.amf_graph.specs.Graph as graph
use Rattle.amf_graph.specs.Graph.{Leaf, Head}
use Rattle.amf_graph.specs.Order.{is_array}
use Rattle.amf_text.specs.Documents.{Header, Message, Document, value3, value0, file, packet}
use Rattle.amf_text.specs.Meant.{Tree, said, called, body, mixed, Trees, no_trees, tree, Named, no_named, named}
use Rattle.amf_text.specs.Accepted.{Part}

-- a value: a leaf, a label, or a node that stands here, by its number
pub data Entry : Type 0 where
  leaf : (x : Leaf) → Entry
  label : (x : List ℕ) → Entry
  node : (n : ℕ) → Entry

abbrev pub Pairs : Type 0
Pairs = List (List ℕ × Entry)

pub record Kept : Type 0 where
  pub head : Head
  pub names : Pairs
  pub values : List Entry

-- a node that has begun
abbrev pub no_kept : Kept
no_kept = record { head = graph.array; names = []; values = [] }

-- the nodes by their numbers, and the labels that were called, in the order of the text
pub record Sheet : Type 0 where
  pub nodes : List Kept
  pub calls : List (List ℕ)

abbrev pub no_sheet : Sheet
no_sheet = record { nodes = []; calls = [] }

abbrev pub count : Sheet → ℕ
count s = length s.nodes

abbrev pub begin : Sheet → Sheet
begin s = record { nodes = s.nodes ++ no_kept ∷ []; calls = s.calls }

abbrev pub store : ℕ → Kept → Sheet → Sheet
store n k s = record { nodes = set s.nodes n k; calls = s.calls }

abbrev pub call : List ℕ → Sheet → Sheet
call x s = record { nodes = s.nodes; calls = s.calls ++ x ∷ [] }

-- of a name that is among them
abbrev pub entry_among : List ℕ → Pairs → Entry
entry_among x [] = leaf graph.undefined
entry_among x (p ∷ ps) = if bytes_eq x p.0 then p.1 else entry_among x ps

-- in the order of a class
abbrev pub entries_by : List (List ℕ) → Pairs → List Entry
entries_by names ps = map (λ x. entry_among x ps) names

-- a value, where the sheet has what stands before it
abbrev pub entry_of : Sheet → Tree → Entry
entry_of s (said x) = leaf x
entry_of s (called x) = label x
entry_of s (body h ns vs) = node (count s)
entry_of s (mixed t ns ss) = node (count s)

-- In a text the items of an array stand before its names, and an object's dynamic members before its sealed ones.

abbrev mutual
  -- the sheet behind a value
  pub after : Sheet → Tree → Sheet
  after s (said x) = s
  after s (called x) = call x s
  after s (body h ns vs) =
      if is_array h
      then store (count s) (record { head = h; names = pairs_in (after_trees (begin s) vs) ns; values = entries_in (begin s) vs }) (after_named (after_trees (begin s) vs) ns)
      else store (count s) (record { head = h; names = pairs_in (begin s) ns; values = entries_in (after_named (begin s) ns) vs }) (after_trees (after_named (begin s) ns) vs)
  after s (mixed t ns ss) =
      store (count s) (record { head = graph.object t; names = pairs_in (begin s) ns; values = entries_by t.sealed (pairs_in (after_named (begin s) ns) ss) }) (after_named (after_named (begin s) ns) ss)

  pub after_trees : Sheet → Trees → Sheet
  after_trees s no_trees = s
  after_trees s (tree t ts) = after_trees (after s t) ts

  pub after_named : Sheet → Named → Sheet
  after_named s no_named = s
  after_named s (named x t ts) = after_named (after s t) ts

  pub entries_in : Sheet → Trees → List Entry
  entries_in s no_trees = []
  entries_in s (tree t ts) = entry_of s t ∷ entries_in (after s t) ts

  pub pairs_in : Sheet → Named → Pairs
  pairs_in s no_named = []
  pairs_in s (named x t ts) = (x, entry_of s t) ∷ pairs_in (after s t) ts

-- a table and a root on a sheet of their own
pub record Page : Type 0 where
  pub sheet : Sheet
  pub table : Pairs
  pub root : Entry

abbrev pub page_of : Part → Page
page_of p = record { sheet = after (after_named no_sheet p.table) p.root; table = pairs_in no_sheet p.table; root = entry_of (after_named no_sheet p.table) p.root }

abbrev pub header_page : Header Part → Header Page
header_page h = record { name = h.name; must = h.must; form = h.form; graph = page_of h.graph }

abbrev pub message_page : Message Part → Message Page
message_page m = record { target = m.target; response = m.response; form = m.form; graph = page_of m.graph }

abbrev pub pages_of : Document Part → Document Page
pages_of (value3 p) = value3 (page_of p)
pages_of (value0 p) = value0 (page_of p)
pages_of (file name version p) = file name version (page_of p)
pages_of (packet version hs ms) = packet version (map header_page hs) (map message_page ms)
