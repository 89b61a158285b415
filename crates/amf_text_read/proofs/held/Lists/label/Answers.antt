-- One label more.
use Rattle.std.proofs.Common.{ℕ, List, ap}
use Rattle.amf_text_read.specs.Goals.{Held, with_at}
use Rattle.amf_text_read.specs.Lists.{held_of}
use Rattle.amf_text_read.proofs.Labels.{label_more}
use Rattle.amf_text_read.proofs.held.Lists.label.Goals as goal

pub returns : goal.returns
returns c =
    let h : Held = held_of c.args.self.now in
    let e = label_more c.in_ok-find_or_push.field-0 c.args.self.now.labels.at c.find_or_push.new.self c.args.label.now c.in_ok-find_or_push.ensures.number c.in_ok-find_or_push.ensures.texts c.requires in
    let f : List (List ℕ) → Held = λ w. record { labels = with_at w h.labels; names = h.names; lasts = h.lasts } in
    ap f e
