use Rattle.std.proofs.Common.{[], ◌∷◌, ◌++◌, sym, ap, ◌∙◌, subst}
use Rattle.std.specs.Prelude.{codes}
use Rattle.json.specs.Token.{key, begin_object, end_object}
use Rattle.amf_text_write.specs.Graphs.{each_row, table_tokens}
use Rattle.amf_text_write.specs.Laid.{with_more}
use Rattle.amf_text_write.specs.Rows.{nodes_of}
use Rattle.amf_text_write.specs.Tells.{Tells}
use Rattle.amf_text_write.specs.Ways.{graph_in}
use Rattle.amf_text_write.proofs.TableTokens.{empty_from, not_empty, table_none, table_some}
use Rattle.amf_text_write.proofs.Telling.{exactly, more_none, tells_then, on_ok}
use Rattle.amf_text_write.proofs.layout.Output.rows.Goals as goal

pub returns-then-is_empty : goal.returns-then-is_empty
returns-then-is_empty c = λ w is.
    let k = c.args.way.now in
    let s = c.args.self.now in
    exactly (table_tokens (graph_in k) w) s s (more_none s ∙ ap (with_more s) (table_none (graph_in k) k.numbering.now k.rows.now w is.rows (empty_from k.rows.now (sym c.is_empty.ensures ∙ c.if-is_empty.true))))

pub returns : goal.returns
returns c = λ w is.
    let k = c.args.way.now in
    let s = c.args.self.now in
    let g = graph_in k in
    let nodes = nodes_of k.numbering.now k.rows.now in
    let ts = each_row g nodes w in
    let some = table_some g k.numbering.now k.rows.now w is.rows (not_empty k.rows.now (sym c.is_empty.ensures ∙ c.if-is_empty.false)) in
    on_ok c.token-2.result (λ e. subst (λ us. Tells us s c.token-2.new.self) some
    (tells_then (key (codes "nodes") ∷ []) (begin_object ∷ (ts ++ end_object ∷ [])) s c.key.new.self c.token-2.new.self (exactly _ s c.key.new.self c.in_ok-key.ensures)
    (tells_then (begin_object ∷ []) (ts ++ end_object ∷ []) c.key.new.self c.token.new.self c.token-2.new.self (exactly _ c.key.new.self c.token.new.self c.in_ok-token.ensures)
    (tells_then ts (end_object ∷ []) c.token.new.self c.each_row.new.self c.token-2.new.self (c.in_ok-each_row.ensures w is) (exactly _ c.each_row.new.self c.token-2.new.self e))))) c.token-2.ensures
