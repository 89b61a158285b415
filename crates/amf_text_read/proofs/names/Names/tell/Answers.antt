-- One name more.
use Rattle.std.proofs.Common.{ℕ, List, ap}
use Rattle.amf_text_read.specs.Names.{ToldNames}
use Rattle.amf_text_read.proofs.Left.{told_more}
use Rattle.amf_text_read.proofs.names.Names.tell.Goals as goal

pub returns : goal.returns
returns c =
    let s = rw (← c.self.view_is) at c.requires in
    let e = told_more c.in_ok-find_or_push.field-0 c.self.inside.told c.find_or_push.new.self c.args.name.now c.in_ok-find_or_push.ensures.number c.in_ok-find_or_push.ensures.texts s in
    let f : List (List ℕ) → ToldNames = λ w. record { told = w; left = w } in
    rw (← c.self.view_is, c.clear.ensures.items) (ap f e)
