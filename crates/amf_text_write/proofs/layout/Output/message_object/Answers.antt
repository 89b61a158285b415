use Rattle.std.proofs.Common.{[], ◌∷◌, ◌++◌, map, sym, ap, ◌∙◌, subst}
use Rattle.std.specs.Prelude.{codes}
use Rattle.json.specs.Token.{key, string, begin_object, end_object}
use Rattle.json.specs.Json.{no_members, member}
use Rattle.json.specs.Tree.{json_tokens}
use Rattle.amf_text.specs.Documents.{form_word}
use Rattle.amf_text.specs.Scalars.{told_text}
use Rattle.amf_text.specs.Told.{told_row, told_root}
use Rattle.amf_text_write.specs.Graphs.{table_tokens, root_tokens}
use Rattle.amf_text_write.specs.Laid.{with_more}
use Rattle.amf_text_write.specs.PacketTexts.{form_of}
use Rattle.amf_text_write.specs.Tells.{Tells}
use Rattle.amf_text_write.specs.Ways.{graph_in}
use Rattle.amf_text_write.proofs.TableTokens.{before_told}
use Rattle.amf_text_write.proofs.Telling.{exactly, then_more, tells_then, on_ok}
use Rattle.amf_text_write.proofs.layout.Output.message_object.Goals as goal

pub returns : goal.returns
returns c = λ w is.
    let g = graph_in c.args.way.now in
    let s = c.args.self.now in
    let word = form_word (form_of c.args.form) in
    let response = json_tokens (told_text c.args.response.now) in
    let target = json_tokens (told_text c.args.target.now) in
    let front = begin_object ∷ key (codes "form") ∷ string word ∷ [] in
    let end = end_object ∷ [] in
    let table = table_tokens g w in
    let root = root_tokens g w in
    let formed = c.in_ok-string.ensures ∙ ap (λ x. with_more c.key.new.self (string x ∷ [])) c.word.ensures in
    let after = member (codes "response") (told_text c.args.response.now) (member (codes "root") (told_root w g) (member (codes "target") (told_text c.args.target.now) no_members)) in
    let whole = ap (λ l. front ++ l) (sym (before_told (map (told_row w g) w.table) after)) in
    let last = root ++ (key (codes "target") ∷ (target ++ end)) in
    on_ok c.token-2.result (λ e. subst (λ us. Tells us s c.token-2.new.self) whole
    (tells_then front (table ++ (key (codes "response") ∷ (response ++ last))) s c.string.new.self c.token-2.new.self
    (exactly front s c.string.new.self (then_more (begin_object ∷ []) (key (codes "form") ∷ string word ∷ []) s c.token.new.self c.string.new.self c.in_ok-token.ensures (then_more (key (codes "form") ∷ []) (string word ∷ []) c.token.new.self c.key.new.self c.string.new.self c.in_ok-key.ensures formed)))
    (tells_then table (key (codes "response") ∷ (response ++ last)) c.string.new.self c.rows.new.self c.token-2.new.self (c.in_ok-rows.ensures w is)
    (tells_then (key (codes "response") ∷ []) (response ++ last) c.rows.new.self c.key-2.new.self c.token-2.new.self (exactly _ c.rows.new.self c.key-2.new.self c.in_ok-key-2.ensures)
    (tells_then response last c.key-2.new.self c.text.new.self c.token-2.new.self (exactly response c.key-2.new.self c.text.new.self c.in_ok-text.ensures)
    (tells_then root (key (codes "target") ∷ (target ++ end)) c.text.new.self c.root.new.self c.token-2.new.self (c.in_ok-root.ensures w is)
    (tells_then (key (codes "target") ∷ []) (target ++ end) c.root.new.self c.key-3.new.self c.token-2.new.self (exactly _ c.root.new.self c.key-3.new.self c.in_ok-key-3.ensures)
    (tells_then target end c.key-3.new.self c.text-2.new.self c.token-2.new.self (exactly target c.key-3.new.self c.text-2.new.self c.in_ok-text-2.ensures) (exactly end c.text-2.new.self c.token-2.new.self e))))))))) c.token-2.ensures
