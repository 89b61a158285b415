use Rattle.std.proofs.Common.{subst}
use Rattle.std.specs.Prelude.{Bool}
use Rattle.amf_iso.specs.Walking.{Met, StoredMatch, EntriesMatch}
use Rattle.amf_iso.proofs.Meeting.{met_not, ok_met_then, stored_lasts}
use Rattle.amf_iso.proofs.matches.entry_meets.Goals as goal

pub returns-then-not-branch : goal.returns-then-not-branch
returns-then-not-branch c =
    let a = c.args.graphs.now.left.now.arena in
    let b = c.args.graphs.now.right.now.arena in
    let first = StoredMatch a b c.args.e.0 c.args.f.0 in
    met_not a b c.args.walk.now c.values_meet.new.walk (EntriesMatch a b c.args.e c.args.f) first (λ pairs z. z.0) (subst (λ (r : Bool). Met a b c.args.walk.now c.values_meet.new.walk first r) c.if-not-branch.true c.in_ok-values_meet.ensures)

pub returns : goal.returns
returns c =
    let a = c.args.graphs.now.left.now.arena in
    let b = c.args.graphs.now.right.now.arena in
    let first = StoredMatch a b c.args.e.0 c.args.f.0 in
    ok_met_then a b c.values_meet-2.result c.args.walk.now c.values_meet.new.walk c.values_meet-2.new.walk first (StoredMatch a b c.args.e.1 c.args.f.1) (stored_lasts a b c.args.e.0 c.args.f.0) (subst (λ (r : Bool). Met a b c.args.walk.now c.values_meet.new.walk first r) c.if-not-branch.false c.in_ok-values_meet.ensures) c.values_meet-2.ensures
