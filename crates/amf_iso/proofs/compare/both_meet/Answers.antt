use Rattle.std.proofs.Common.{subst, map}
use Rattle.std.specs.Prelude.{Bool}
use Rattle.amf_graph.specs.Arena.{value_content}
use Rattle.amf_iso.specs.Walking.{Met, AllMatch, NamedMatch, PartsMatch}
use Rattle.amf_iso.proofs.Meeting.{met_not, ok_met_then, ok_met_same, zip_lasts}
use Rattle.amf_iso.proofs.compare.both_meet.Goals as goal

pub returns-then-not-branch : goal.returns-then-not-branch
returns-then-not-branch c =
    let a = c.args.graphs.now.left.now.arena in
    let b = c.args.graphs.now.right.now.arena in
    let values = AllMatch a b c.args.values.0.now c.args.values.1.now in
    met_not a b c.args.walk.now c.all_meet.new.walk _ values (λ pairs z. z.1) (subst (λ (r : Bool). Met a b c.args.walk.now c.all_meet.new.walk values r) c.if-not-branch.true c.in_ok-all_meet.ensures)

pub returns : goal.returns
returns c =
    let a = c.args.graphs.now.left.now.arena in
    let b = c.args.graphs.now.right.now.arena in
    let vs = c.args.values.0.now in
    let ws = c.args.values.1.now in
    let ps = c.args.pairs.0.now in
    let qs = c.args.pairs.1.now in
    let values = AllMatch a b vs ws in
    let named = NamedMatch a b ps qs in
    let old = c.args.walk.now in
    let new = c.named_meet.new.walk in
    ok_met_same a b c.named_meet.result old new (PartsMatch a b ps qs vs ws) (λ pairs. values pairs × named pairs) (λ pairs. (λ z. (z.1, z.0), λ z. (z.1, z.0))) (ok_met_then a b c.named_meet.result old c.all_meet.new.walk new values named (zip_lasts (map (value_content a) vs) (map (value_content b) ws)) (subst (λ (r : Bool). Met a b old c.all_meet.new.walk values r) c.if-not-branch.false c.in_ok-all_meet.ensures) c.named_meet.ensures)
