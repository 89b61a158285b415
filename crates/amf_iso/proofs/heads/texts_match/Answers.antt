use Rattle.amf_iso.proofs.HeadFacts.{texts_remain}
use Rattle.amf_iso.proofs.heads.texts_match.Goals as goal

pub loop-x-init : goal.loop-x-init
loop-x-init c =
    let a = c.args.left.now.arena in
    let b = c.args.right.now.arena in
    record {
      known = c.requires.known;
      remains = rw (c.into_iter-x-iterator.ensures.into_iter_gives, c.zip-x-items.ensures.first, c.iter.ensures.rest, c.zip-x-items.ensures.second.0)
          (texts_remain a b c.args.xs.now c.args.ys.now c.if-xs-ys.false c.requires.left c.requires.right);
    }
