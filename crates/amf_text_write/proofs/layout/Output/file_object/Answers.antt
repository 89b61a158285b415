use Rattle.std.proofs.Common.{[], ◌∷◌, ◌++◌, map, sym, ap, ◌∙◌, subst}
use Rattle.std.specs.Prelude.{codes, decimal}
use Rattle.json.specs.Token.{key, string, number, begin_object, end_object}
use Rattle.json.specs.Json.{no_members, member}
use Rattle.json.specs.Json as json
use Rattle.json.specs.Tree.{json_tokens}
use Rattle.amf_graph.specs.Graph.{node_at}
use Rattle.amf_text.specs.Documents as document
use Rattle.amf_text.specs.Scalars.{told_text}
use Rattle.amf_text.specs.Told.{told_row, told_pairs}
use Rattle.amf_text_write.specs.Graphs.{table_tokens, pairs_member}
use Rattle.amf_text_write.specs.Laid.{with_more}
use Rattle.amf_text_write.specs.Tells.{Tells}
use Rattle.amf_text_write.specs.ValueTexts.{version_of}
use Rattle.amf_text_write.specs.Ways.{graph_in}
use Rattle.amf_text_write.proofs.TableTokens.{before_told}
use Rattle.amf_text_write.proofs.Telling.{exactly, then_more, tells_then, on_ok}
use Rattle.amf_text_write.proofs.layout.Output.file_object.Goals as goal

pub returns : goal.returns
returns c = λ w is.
    let g = graph_in c.args.way.now in
    let s = c.args.self.now in
    let n = document.version_of (version_of c.args.version) in
    let text = json_tokens (told_text c.args.name.now) in
    let front = begin_object ∷ key (codes "amf") ∷ string (codes "sol") ∷ key (codes "name") ∷ [] in
    let end = key (codes "version") ∷ number (decimal n) ∷ end_object ∷ [] in
    let table = table_tokens g w in
    let pairs = pairs_member g c.args.holder.0 w in
    let after = member (codes "pairs") (told_pairs w g (node_at g c.args.holder.0)) (member (codes "version") (json.number (decimal n)) no_members) in
    let numbered = c.in_ok-uint.ensures ∙ ap (λ m. with_more c.key-3.new.self (number (decimal m) ∷ [])) c.number.ensures in
    let whole = ap (λ l. front ++ (text ++ l)) (sym (before_told (map (told_row w g) w.table) after)) in
    on_ok c.token-2.result (λ e. subst (λ us. Tells us s c.token-2.new.self) whole
    (tells_then front (text ++ (table ++ (pairs ++ end))) s c.key-2.new.self c.token-2.new.self
    (exactly front s c.key-2.new.self (then_more (begin_object ∷ []) (key (codes "amf") ∷ string (codes "sol") ∷ key (codes "name") ∷ []) s c.token.new.self c.key-2.new.self c.in_ok-token.ensures
    (then_more (key (codes "amf") ∷ []) (string (codes "sol") ∷ key (codes "name") ∷ []) c.token.new.self c.key.new.self c.key-2.new.self c.in_ok-key.ensures
    (then_more (string (codes "sol") ∷ []) (key (codes "name") ∷ []) c.key.new.self c.string.new.self c.key-2.new.self c.in_ok-string.ensures c.in_ok-key-2.ensures))))
    (tells_then text (table ++ (pairs ++ end)) c.key-2.new.self c.text.new.self c.token-2.new.self (exactly text c.key-2.new.self c.text.new.self c.in_ok-text.ensures)
    (tells_then table (pairs ++ end) c.text.new.self c.rows.new.self c.token-2.new.self (c.in_ok-rows.ensures w is)
    (tells_then pairs end c.rows.new.self c.pairs.new.self c.token-2.new.self (c.in_ok-pairs.ensures w is)
    (exactly end c.pairs.new.self c.token-2.new.self (then_more (key (codes "version") ∷ []) (number (decimal n) ∷ end_object ∷ []) c.pairs.new.self c.key-3.new.self c.token-2.new.self c.in_ok-key-3.ensures
    (then_more (number (decimal n) ∷ []) (end_object ∷ []) c.key-3.new.self c.uint.new.self c.token-2.new.self numbered e)))))))) c.token-2.ensures
