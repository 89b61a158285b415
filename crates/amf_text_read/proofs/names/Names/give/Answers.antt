-- A name that is found is given.
use Rattle.std.proofs.Common.{ℕ, List, ap, false, true, ◌≡◌}
use Rattle.amf_graph.specs.TextNumbers.{contents_of}
use Rattle.amf_text_read.specs.Names.{ToldNames}
use Rattle.amf_text_read.proofs.Left.{told_given, absent_left}
use Rattle.amf_text_read.proofs.names.Names.give.Goals as goal

pub returns-in_ok-set_flag-in-Some : goal.returns-in_ok-set_flag-in-Some
returns-in_ok-set_flag-in-Some c =
    let texts = c.self.inside.told in
    let s = rw (← c.self.view_is) at c.requires in
    let e = told_given c.self.inside.given.items c.set_flag.new.flags.items texts c.in-Some.number c.args.name.now c.in-Some.ensures c.in_ok-set_flag-in-Some.ensures s in
    let f : List (List ℕ) → ToldNames = λ w. record { told = contents_of texts; left = w } in
    rw (← c.self.view_is) (ap f e)

pub returns-in-None : goal.returns-in-None
returns-in-None c =
    let s = rw (← c.self.view_is) at c.requires in
    let a = absent_left c.self.inside.given.items (contents_of c.self.inside.told) c.args.name.now c.in-None.ensures in
    let h : true ≡ false = cc (s, a) in
    cc h
