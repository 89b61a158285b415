use Rattle.std.proofs.Common.{List, ℕ, ◌∷◌, [], ◌++◌, ap, ◌∙◌, subst}
use Rattle.amf0_spelling.specs.Segments0.{Short}
use Rattle.amf_sol.specs.FileParts.{Appends}
use Rattle.amf_sol.specs.SharedObject.{version_number}
use Rattle.amf_sol.proofs.FileWrites.{head_written}
use Rattle.amf_sol.proofs.write_head.append_head.Goals as goal

pub returns : goal.returns
returns c =
    let o = c.args.object.now in
    head_written o.name o.version c.args.out.now.items c.extend_from_slice.new.self.items c.append_name.new.out.items c.extend_from_slice-2.new.self.items c.push.new.self.items
    c.in_ok-extend_from_slice.ensures.items
    (subst (λ (x : List ℕ). Appends (Short x) c.extend_from_slice.new.self.items c.append_name.new.out.items) (c.as_bytes.ensures ∙ c.name.ensures) c.in_ok-append_name.ensures)
    c.in_ok-extend_from_slice-2.ensures.items
    (c.in_ok-push.ensures.items ∙ ap (λ m. c.extend_from_slice-2.new.self.items ++ m ∷ []) (c.version_byte.ensures ∙ ap version_number c.version.ensures))
