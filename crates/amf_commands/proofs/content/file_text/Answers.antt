use Rattle.amf_sol.specs.StoredFile.{shared}
use Rattle.amf_commands.proofs.Told.{file_told}
use Rattle.amf_commands.proofs.content.file_text.Goals as goal

pub returns : goal.returns
returns c = file_told (λ v. v.items) c.args.layout (shared c.args.file.now) c.file_json.result c.file_is_ready.ensures c.file_json.ensures
