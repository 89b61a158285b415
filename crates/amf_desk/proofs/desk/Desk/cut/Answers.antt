-- The step keeps the rule.
use Rattle.std.proofs.Common.{rules, ◌≤◌, ℕ, sym, subst}
use Rattle.amf_desk.proofs.Keeps.{splits}
use Rattle.amf_desk.proofs.desk.Desk.cut.Goals as goal

pub split_seat-requires : goal.split_seat-requires
split_seat-requires g c = let s = c.requires.share in
    (search rules, search rules, splits _ c.args.seat.now.id c.args.seat.now.me.0 g.N.Amount.share c.requires.idle.0 c.requires.idle.1 (subst (λ (n : ℕ). n ≤ c.args.seat.now.me.0.budget) (sym s.0) s.1))
