-- The tokens of a graph: the rows of its table, its root, and the pairs of a file. A device of proofs.
use Rattle.std.specs.Prelude.{ℕ, List, ◌∷◌, map, codes, Result, OnOk}
use Rattle.json.specs.Token.{Token, key}
use Rattle.json.specs.Json.{no_members}
use Rattle.json.specs.Tree.{json_tokens}
use Rattle.amf_graph.specs.Graph.{Graph, node_at}
use Rattle.amf_text.specs.Told.{Way, told_row, rows_before, told_root, told_pairs}
use Rattle.amf_text_write.specs.declared.way.Way.{Way as Code}
use Rattle.amf_text_write.specs.Laid.{Shown}
use Rattle.amf_text_write.specs.Opening.{member_parts}
use Rattle.amf_text_write.specs.Parts.{member_tokens, each_member}
use Rattle.amf_text_write.specs.Tells.{Tells}
use Rattle.amf_text_write.specs.Ways.{IsWayOf}

-- told in each way that the code's stands for
abbrev pub TellsIn : {T E : Type 0} → Code → (Way → List Token) → Result T E → Shown → Shown → Type 0
TellsIn c ts result old new = (w : Way) → IsWayOf c w → OnOk result (Tells (ts w) old new)

abbrev pub row_tokens : Graph → ℕ → Way → List Token
row_tokens g i w = member_tokens (told_row w g i)

abbrev pub each_row : Graph → List ℕ → Way → List Token
each_row g is w = each_member (map (told_row w g) is)

-- the member of the table, where it has rows
abbrev pub table_tokens : Graph → Way → List Token
table_tokens g w = member_parts (rows_before (map (told_row w g) w.table) no_members)

abbrev pub root_tokens : Graph → Way → List Token
root_tokens g w = key (codes "root") ∷ json_tokens (told_root w g)

-- the pairs of a file, whose holder is this node
abbrev pub pairs_member : Graph → ℕ → Way → List Token
pairs_member g i w = key (codes "pairs") ∷ json_tokens (told_pairs w g (node_at g i))
