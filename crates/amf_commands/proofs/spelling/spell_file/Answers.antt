use Rattle.std.proofs.Common.{◌≡◌, Err, ap, subst}
use Rattle.amf_graph.specs.declared.lack.Lack.{Lack}
use Rattle.amf_sol.specs.StoredFile.{shared}
use Rattle.amf_commands.specs.declared.format.Format.TheVariants.{Sol}
use Rattle.amf_commands.specs.Content.{file}
use Rattle.amf_commands.specs.Formats.{IsUnwritten}
use Rattle.amf_commands.proofs.Goes.{file_written, file_unwritten}
use Rattle.amf_commands.proofs.spelling.spell_file.Goals as goal

pub returns-in-Ok-clause-written : goal.returns-in-Ok-clause-written
returns-in-Ok-clause-written c = let low = c.file_has_lowering.ensures in file_written (shared c.args.file.now) low.0 _ c.write_sol_keyed.new.out.items low.1 c.new-bytes.ensures.items c.in-Ok.ensures.written

pub returns-in-Err-NoSpelling-clause-lack : goal.returns-in-Err-NoSpelling-clause-lack
returns-in-Err-NoSpelling-clause-lack c = λ number l is.
    let low = c.file_has_lowering.ensures in
    let e = c.in-Err-NoSpelling in
    let o = shared c.args.file.now in
    let told = e.ensures.lack e.lack (ap Err e.field-0-is) in
    let i : 0 ≡ number = cc in
    let j : e.lack ≡ l = cc in
    subst (λ k. IsUnwritten Sol (file o) k l) i (subst (λ (m : Lack). IsUnwritten Sol (file o) 0 m) j (file_unwritten o low.0 e.lack low.1 told))
