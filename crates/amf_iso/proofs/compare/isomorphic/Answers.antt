use Rattle.std.proofs.Common.{true, false, subst}
use Rattle.std.specs.Prelude.{Bool}
use Rattle.amf_iso.specs.Walking.{Met, StoredMatch}
use Rattle.amf_iso.proofs.Looking.{other_roots, ok_decides}
use Rattle.amf_iso.proofs.compare.isomorphic.Goals as goal

pub returns-then-not-branch : goal.returns-then-not-branch
returns-then-not-branch c =
    let a = c.args.a.now in
    let b = c.args.b.now in
    let start = c.in_ok-walk.walk in
    let mid = c.values_meet.new.walk in
    let roots : Met a.arena b.arena start mid (StoredMatch a.arena b.arena a.root b.root) false =
    subst (λ v. Met a.arena b.arena start mid (StoredMatch a.arena b.arena v b.root) false) c.root.ensures
    (subst (λ w. Met a.arena b.arena start mid (StoredMatch a.arena b.arena c.root.result w) false) c.root-2.ensures
    (subst (λ (r : Bool). Met a.arena b.arena start mid (StoredMatch a.arena b.arena c.root.result c.root-2.result) r) c.if-not-branch.true c.in_ok-values_meet.ensures)) in
    other_roots a.arena b.arena a.root b.root start mid c.in_ok-walk.ensures.none roots

pub returns : goal.returns
returns c =
    let a = c.args.a.now in
    let b = c.args.b.now in
    let start = c.in_ok-walk.walk in
    let mid = c.values_meet.new.walk in
    let roots : Met a.arena b.arena start mid (StoredMatch a.arena b.arena a.root b.root) true =
    subst (λ v. Met a.arena b.arena start mid (StoredMatch a.arena b.arena v b.root) true) c.root.ensures
    (subst (λ w. Met a.arena b.arena start mid (StoredMatch a.arena b.arena c.root.result w) true) c.root-2.ensures
    (subst (λ (r : Bool). Met a.arena b.arena start mid (StoredMatch a.arena b.arena c.root.result c.root-2.result) r) c.if-not-branch.false c.in_ok-values_meet.ensures)) in
    ok_decides a.arena b.arena a.root b.root start mid c.in_ok-walk.ensures.none c.all_pairs_meet.new.walk c.all_pairs_meet.result roots c.all_pairs_meet.ensures
