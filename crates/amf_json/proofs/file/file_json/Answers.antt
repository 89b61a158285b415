use Rattle.std.proofs.Common.{sym, ap, ◌∙◌, subst}
use Rattle.amf_wire.specs.Text.{IsText}
use Rattle.amf_graph.specs.Rooted.{RootedArena, content}
use Rattle.amf0_spelling.specs.Lowered.{IsLoweringOf}
use Rattle.amf_sol.specs.SharedObject.{HasHolder}
use Rattle.amf_sol.specs.StoredFile.{shared}
use Rattle.amf_sol.proofs.LowHolders.{lowered_holder}
use Rattle.amf_text_write.specs.declared.files.FileVersion.TheVariants.{Amf3, Amf0}
use Rattle.amf_text_write.specs.ValueTexts.{HasNodeRoot, IsFileText}
use Rattle.amf_json.specs.JsonTexts.{IsFileJson}
use Rattle.amf_json.proofs.FittedTexts.{has_root, told_file3, told_file0}
use Rattle.amf_json.proofs.Results.{if_ok}
use Rattle.amf_json.proofs.file.file_json.Goals as goal

pub file_text-requires-clause-name : goal.file_text-requires-clause-name
file_text-requires-clause-name c = subst IsText (sym (c.as_bytes-name.ensures ∙ c.name.ensures)) c.is_stored.ensures.text

pub file_text-requires-clause-root : goal.file_text-requires-clause-root
file_text-requires-clause-root c = subst (λ (g : RootedArena). HasNodeRoot (content g)) (sym c.holder.ensures) (has_root (content c.args.file.now.holder) c.is_stored.ensures.holder)

pub file_text-requires-in-Amf0-clause-name : goal.file_text-requires-in-Amf0-clause-name
file_text-requires-in-Amf0-clause-name c = subst IsText (sym (c.as_bytes-name.ensures ∙ c.name.ensures)) c.is_stored.ensures.text

pub file_text-requires-in-Amf0-clause-root : goal.file_text-requires-in-Amf0-clause-root
file_text-requires-in-Amf0-clause-root c =
    let g = content c.holder-in-Amf0.result.now in
    let low = content c.in_ok-low-in-Amf0.low in
    has_root low (lowered_holder g low c.in_ok-low-in-Amf0.ensures (subst (λ (x : RootedArena). HasHolder (content x)) (sym c.holder-in-Amf0.ensures) c.is_stored.ensures.holder))

pub returns-in-Amf3 : goal.returns-in-Amf3
returns-in-Amf3 c =
    let o = shared c.args.file.now in
    let name = c.as_bytes-name.result.now in
    let g = content c.holder.result.now in
    if_ok (λ bytes. IsFileText c.args.layout name Amf3 g bytes.items) (λ bytes. IsFileJson c.args.layout o bytes.items) c.file_text.result
    (λ bytes t. told_file3 c.args.layout o name g bytes.items (sym c.version.ensures ∙ c.in-Amf3.is) (c.as_bytes-name.ensures ∙ c.name.ensures) (ap content c.holder.ensures) t) c.file_text.ensures

pub returns-in_ok-low-in-Amf0 : goal.returns-in_ok-low-in-Amf0
returns-in_ok-low-in-Amf0 c =
    let o = shared c.args.file.now in
    let name = c.as_bytes-name.result.now in
    let low = content c.in_ok-low-in-Amf0.low in
    if_ok (λ bytes. IsFileText c.args.layout name Amf0 low bytes.items) (λ bytes. IsFileJson c.args.layout o bytes.items) c.file_text-in-Amf0.result
    (λ bytes t. told_file0 c.args.layout o name low bytes.items (sym c.version.ensures ∙ c.in-Amf0.is) (c.as_bytes-name.ensures ∙ c.name.ensures)
    (subst (λ (x : RootedArena). IsLoweringOf (content x) low) c.holder-in-Amf0.ensures c.in_ok-low-in-Amf0.ensures) t) c.file_text-in-Amf0.ensures
