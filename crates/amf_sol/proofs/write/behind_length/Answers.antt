use Rattle.std.proofs.Common.{[], subst}
use Rattle.amf_sol.specs.FileParts.{Appends, IsHead}
use Rattle.amf_sol.specs.StoredFile.{shared}
use Rattle.amf_sol.proofs.FileWrites.{rest_written}
use Rattle.amf_sol.proofs.write.behind_length.Goals as goal

pub returns-clause-written : goal.returns-clause-written
returns-clause-written c =
    let o = c.args.object.now in
    rest_written (shared o) [] c.append_head.new.out.items c.append_pairs.new.out.items
    (subst (λ z. Appends (IsHead o.name o.version) z c.append_head.new.out.items) c.new-rest.ensures.items c.in_ok-append_head.ensures) c.in_ok-append_pairs.ensures.written
