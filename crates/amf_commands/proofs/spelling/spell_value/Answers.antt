use Rattle.std.proofs.Common.{◌≡◌, Err, ap, subst}
use Rattle.amf_graph.specs.declared.lack.Lack.{Lack}
use Rattle.amf_graph.specs.Rooted.{content}
use Rattle.amf_commands.specs.Content.{value}
use Rattle.amf_commands.specs.Formats.{IsUnwritten}
use Rattle.amf_commands.proofs.spelling.spell_value.Goals as goal

pub returns-in-Err-NoSpelling-clause-lack : goal.returns-in-Err-NoSpelling-clause-lack
returns-in-Err-NoSpelling-clause-lack c = λ number l is.
    let e = c.in-Err-NoSpelling in
    let v = value (content c.args.graph.now) in
    let i : 0 ≡ number = cc in
    let j : e.lack ≡ l = cc in
    subst (λ k. IsUnwritten c.args.to v k l) i (subst (λ (m : Lack). IsUnwritten c.args.to v 0 m) j (e.ensures.lack e.lack (ap Err e.field-0-is)))
