-- The ninth member of a class that has one.
use Rattle.flex_msgs.proofs.ClassTexts.{ninth_of}
use Rattle.flex_msgs.proofs.class.Class.ninth.Goals as goal

pub returns-in_default : goal.returns-in_default
returns-in_default c = ninth_of c.args.self c.requires c.in_default.not-Command
