use Rattle.std.proofs.Common.{◌≡◌, length, arith}
use Rattle.std.proofs.lemmas.Grind.{common_steps}
use Rattle.amf_tables.proofs.AlikeTraits.{alike}
use Rattle.amf_tables.proofs.known_words.are_alike.Goals as goal

pub returns : goal.returns
returns c = λ is.
    let t = c.args.traits.now in
    let u = c.args.other.now in
    let none : length t.sealed.now ≡ 0 = grind (arith, common_steps, c.is_empty.ensures, c.if-not-is_empty.false) in
    let nothing : length u.sealed.now ≡ 0 = grind (arith, common_steps, c.is_empty-else-not-is_empty.ensures, c.if-not-is_empty-2.false) in
    let dynamic : t.dynamic ≡ u.dynamic = grind (arith, common_steps, c.if-traits-other.false) in
    let same : c.text_number.result ≡ c.text_number-2.result = grind (arith, common_steps, is) in
    alike c.args.graph.now.arena t u c.text_number.result c.text_number-2.result none nothing dynamic c.text_number.ensures c.text_number-2.ensures same
