use Rattle.std.proofs.Common.{◌≡◌, true, false}
use Rattle.amf_iso.proofs.NamesAlike.{names_remain, names_long}
use Rattle.amf_iso.proofs.matches.names_match.Goals as goal

pub loop-p-init : goal.loop-p-init
loop-p-init c =
    let a = c.args.graphs.now.left.now.arena in
    let b = c.args.graphs.now.right.now.arena in
    record {
      known = c.requires.known;
      remains = rw (c.into_iter-p-iterator.ensures.into_iter_gives, c.zip-p-items.ensures.first, c.iter.ensures.rest, c.zip-p-items.ensures.second.0) (names_remain a b c.args.ps.now c.args.qs.now c.if-ps-qs.false c.requires.left c.requires.right);
    }

pub returns-then-ps-qs-clause-same : goal.returns-then-ps-qs-clause-same
returns-then-ps-qs-clause-same c =
    let a = c.args.graphs.now.left.now.arena in
    let b = c.args.graphs.now.right.now.arena in
    (λ t. absurd (let no : false ≡ true = t in cc), λ w. absurd (c.if-ps-qs.true (names_long a b c.args.ps.now c.args.qs.now w)))
