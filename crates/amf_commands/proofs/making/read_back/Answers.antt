use Rattle.std.proofs.Common.{◌≡◌, ◌≤◌, true, List, ℕ, length, drop, sym, subst}
use Rattle.amf_wire.specs.Style.{canonical}
use Rattle.amf_graph.specs.Rooted.{content}
use Rattle.amf3_spelling.specs.Spells3.{Spelled3}
use Rattle.amf_commands.specs.declared.format.Format.TheVariants.{Amf3}
use Rattle.amf_commands.specs.declared.content.Content.{Content as KeptContent}
use Rattle.amf_commands.specs.Content.{content_of, value}
use Rattle.amf_commands.specs.Input.{most}
use Rattle.amf_commands.specs.Run.{IsInputOf}
use Rattle.amf_commands.proofs.MadeAgain.{no_other_end, gives_back}
use Rattle.amf_commands.proofs.making.read_back.Goals as goal

pub only_memory-requires : goal.only_memory-requires
only_memory-requires c =
    let g = content c.args.graph.now in
    let left = c.in_ok-source.ensures.left in
    let input : List ℕ = drop c.in_ok-source.source.pieces.at c.in_ok-source.source.pieces.bytes.items in
    no_other_end (λ (x : KeptContent). IsInputOf Amf3 (content_of x) input) g input _ c.in-Err.end
    (subst (λ l. Spelled3 canonical g l) (sym left) c.requires.spelled)
    (subst (λ l. length l ≤ most) (sym left) c.requires.within)
    (c.in-Err.ensures.reads tt) c.in-Err.ensures.counts

pub unreachable-requires : goal.unreachable-requires
unreachable-requires c =
    let g = content c.args.graph.now in
    let left = c.in_ok-source.ensures.left in
    let input : List ℕ = drop c.in_ok-source.source.pieces.at c.in_ok-source.source.pieces.bytes.items in
    let is : IsInputOf Amf3 (value (content c.only_value-copy.result)) input = subst (λ (x : KeptContent). IsInputOf Amf3 (content_of x) input) c.only_value-copy.ensures (c.in-Ok.ensures.reads tt).0 in
    let same = gives_back g (content c.only_value-copy.result) input (subst (λ l. Spelled3 canonical g l) (sym left) c.requires.spelled) (subst (λ l. length l ≤ most) (sym left) c.requires.within) is in
    let yes : c.in_ok-isomorphic.field-0 ≡ true = c.in_ok-isomorphic.ensures.1 same in
    let no = c.if-branch.false in
    cc
