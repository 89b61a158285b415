use Rattle.std.proofs.Common.{◌≤◌, ◌<◌, ◌^◌, ◌++◌, length, refl, sym, ap, ◌∙◌, subst, arith}
use Rattle.amf_graph.specs.declared.lack.Lack.{Lack}
use Rattle.amf_graph.specs.declared.lack.LackKind.TheVariants.{LongFile}
use Rattle.amf_graph.specs.declared.write_end.WriteEnd.TheVariants.{NoSpelling}
use Rattle.amf3_write.proofs.WroteNodes.{same_lack}
use Rattle.amf_sol.specs.FileLacks.{IsFileLack}
use Rattle.amf_sol.specs.FileParts.{file_bytes}
use Rattle.amf_sol.specs.StoredFile.{shared}
use Rattle.amf_sol.proofs.FileWrites.{long_file, file_written}
use Rattle.amf_sol.proofs.write.write_sol_keyed.Goals as goal

pub returns-then-len-gt-MAX_LENGTH-clause-lack : goal.returns-then-len-gt-MAX_LENGTH-clause-lack
returns-then-len-gt-MAX_LENGTH-clause-lack c = λ l e.
    let o = shared c.args.object.now in
    let rest = c.in_ok-rest.rest in
    let long : Lack = record { kind = LongFile; node = 0 } in
    let many : 2 ^ 32 ≤ length rest.items = omega (arith, c.if-len-gt-MAX_LENGTH.true, c.len.ensures, rest.ok.0) in
    subst (λ (k : Lack). IsFileLack o k.node k.kind) (sym (same_lack (NoSpelling long) l long e refl)) (long_file o rest.items c.is_stored.ensures.holder c.in_ok-rest.ensures.written many)

pub returns-clause-written : goal.returns-clause-written
returns-clause-written c =
    let rest = c.in_ok-rest.rest in
    let few : length rest.items < 2 ^ 32 = omega (arith, c.if-len-gt-MAX_LENGTH.false, c.len.ensures, rest.ok.0) in
    file_written (shared c.args.object.now) rest.items c.args.out.now.items c.append_whole.new.out.items c.in_ok-rest.ensures.written few
    (c.in_ok-append_whole.ensures.written ∙ ap (λ z. c.args.out.now.items ++ file_bytes z) c.as_slice.ensures.value)
