use Rattle.std.proofs.Common.{ap, Err}
use Rattle.amf_commands.specs.Content.{content_of}
use Rattle.amf_commands.proofs.Goes.{goes_spellable}
use Rattle.amf_commands.proofs.Spelled.{may_lack}
use Rattle.amf_commands.proofs.output.converted.Goals as goal

pub spelled-requires : goal.spelled-requires
spelled-requires g c = let s = c.in-Ok.ensures.spelled in goes_spellable c.args.from c.args.to (content_of c.in-Ok.content) s.0 s.1 c.requires

pub returns-in-Err-NoForm-clause-ends : goal.returns-in-Err-NoForm-clause-ends
returns-in-Err-NoForm-clause-ends g c =
    let s = c.in-Ok.ensures.spelled in
    let e = c.in-Err-NoForm in
    may_lack c.args.from c.args.to (content_of c.in-Ok.content) s.0 e.value e.lack s.1 (e.ensures.lack e.value e.lack (ap Err e.field-0-is))
