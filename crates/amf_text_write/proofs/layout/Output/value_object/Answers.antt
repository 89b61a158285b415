use Rattle.std.proofs.Common.{[], ◌∷◌, ◌++◌, map, sym, ap, ◌∙◌, subst}
use Rattle.std.specs.Prelude.{codes}
use Rattle.json.specs.Token.{key, string, begin_object, end_object}
use Rattle.json.specs.Json.{no_members, member}
use Rattle.amf_text.specs.Told.{told_row, told_root}
use Rattle.amf_text_write.specs.Graphs.{table_tokens, root_tokens}
use Rattle.amf_text_write.specs.Laid.{with_more}
use Rattle.amf_text_write.specs.Tells.{Tells}
use Rattle.amf_text_write.specs.ValueTexts.{form_name}
use Rattle.amf_text_write.specs.Ways.{graph_in}
use Rattle.amf_text_write.proofs.TableTokens.{before_told}
use Rattle.amf_text_write.proofs.Telling.{exactly, then_more, tells_then, on_ok}
use Rattle.amf_text_write.proofs.layout.Output.value_object.Goals as goal

pub returns : goal.returns
returns c = λ w is.
    let g = graph_in c.args.way.now in
    let s = c.args.self.now in
    let name = form_name c.args.form in
    let end = end_object ∷ [] in
    let front = begin_object ∷ key (codes "amf") ∷ string name ∷ [] in
    let table = table_tokens g w in
    let root = root_tokens g w in
    let word = c.in_ok-string.ensures ∙ ap (λ x. with_more c.key.new.self (string x ∷ [])) c.name.ensures in
    let whole = ap (λ l. front ++ l) (sym (before_told (map (told_row w g) w.table) (member (codes "root") (told_root w g) no_members))) in
    on_ok c.token-2.result (λ e. subst (λ us. Tells us s c.token-2.new.self) whole
    (tells_then front (table ++ (root ++ end)) s c.string.new.self c.token-2.new.self
    (exactly front s c.string.new.self (then_more (begin_object ∷ []) (key (codes "amf") ∷ string name ∷ []) s c.token.new.self c.string.new.self c.in_ok-token.ensures (then_more (key (codes "amf") ∷ []) (string name ∷ []) c.token.new.self c.key.new.self c.string.new.self c.in_ok-key.ensures word)))
    (tells_then table (root ++ end) c.string.new.self c.rows.new.self c.token-2.new.self (c.in_ok-rows.ensures w is)
    (tells_then root end c.rows.new.self c.root.new.self c.token-2.new.self (c.in_ok-root.ensures w is) (exactly end c.root.new.self c.token-2.new.self e))))) c.token-2.ensures
