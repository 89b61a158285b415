-- The tokens of a table, row by row and as a member.
use Rattle.std.proofs.Common.{◌≡◌, ℕ, List, [], ◌∷◌, ◌++◌, length, map, get_or, refl, sym, ap, ◌∙◌, append-nil, arith}
use Rattle.std.specs.Prelude.{true, false, ◌==◌, codes}
use Rattle.std.specs.List.{flat_map}
use Rattle.json.specs.Token.{key, begin_object, end_object}
use Rattle.json.specs.Json.{Json, Members, no_members, member}
use Rattle.json.specs.Json as json
use Rattle.json.specs.Tree.{json_tokens, members_tokens}
use Rattle.amf_graph.specs.Graph.{Graph}
use Rattle.amf_text.specs.Told.{Way, members_of, rows_before, told_row}
use Rattle.amf_text_write.specs.Graphs.{row_tokens, each_row, table_tokens}
use Rattle.amf_text_write.specs.Opening.{member_parts}
use Rattle.amf_text_write.specs.Parts.{each_member}
use Rattle.amf_text_write.specs.Rows.{nodes_of}
use Rattle.amf_text_write.proofs.Bools.{eq_false}
use Rattle.amf_text_write.proofs.Jsons.{object_told}

pub empty_from : (ns : List ℕ) → (length ns == 0) ≡ true → ns ≡ []
empty_from [] e = refl
empty_from (n ∷ ns) e = let never = eq_false (length (n ∷ ns)) 0 (λ x. omega (arith, x)) in cc

pub not_empty : (ns : List ℕ) → (length ns == 0) ≡ false → ns ≡ [] → ⊥
not_empty [] e f = cc
not_empty (n ∷ ns) e f = cc

-- by the numbers of the nodes
pub rows_by_number : (g : Graph) (order rows : List ℕ) (w : Way) → flat_map (λ n. row_tokens g (get_or order n 0) w) rows ≡ each_row g (nodes_of order rows) w
rows_by_number g order [] w = refl
rows_by_number g order (n ∷ ns) w = ap (λ l. row_tokens g (get_or order n 0) w ++ l) (rows_by_number g order ns w)

-- a table without rows is not told
pub table_none : (g : Graph) (order rows : List ℕ) (w : Way) → w.table ≡ nodes_of order rows → rows ≡ [] → [] ≡ table_tokens g w
table_none g order rows w e none = ap (λ l. member_parts (rows_before (map (told_row w g) (nodes_of order l)) no_members)) (sym none) ∙ ap (λ l. member_parts (rows_before (map (told_row w g) l) no_members)) (sym e)

some_rows : (ps : List (List ℕ × Json)) → (ps ≡ [] → ⊥) → key (codes "nodes") ∷ begin_object ∷ (each_member ps ++ end_object ∷ []) ≡ member_parts (rows_before ps no_members)
some_rows [] never = absurd (never refl)
some_rows (p ∷ ps) never = ap (λ l. key (codes "nodes") ∷ l) (sym (object_told (p ∷ ps)) ∙ sym (append-nil (json_tokens (json.object (members_of (p ∷ ps))))))

pub table_some : (g : Graph) (order rows : List ℕ) (w : Way) → w.table ≡ nodes_of order rows → (rows ≡ [] → ⊥) → key (codes "nodes") ∷ begin_object ∷ (each_row g (nodes_of order rows) w ++ end_object ∷ []) ≡ table_tokens g w
table_some g order [] w e never = absurd (never refl)
table_some g order (n ∷ ns) w e never = some_rows (map (told_row w g) (nodes_of order (n ∷ ns))) (λ f. cc) ∙ ap (λ l. member_parts (rows_before (map (told_row w g) l) no_members)) (sym e)

-- the table and then other members
pub before_told : (rows : List (List ℕ × Json)) (ms : Members) → members_tokens (rows_before rows ms) ≡ member_parts (rows_before rows no_members) ++ members_tokens ms
before_told [] ms = refl
before_told (p ∷ ps) ms = ap (λ l. key (codes "nodes") ∷ (l ++ members_tokens ms)) (sym (append-nil (json_tokens (json.object (members_of (p ∷ ps))))))
