use Rattle.std.proofs.Common.{◌≡◌, true, false, refl, sym, ap, ◌∙◌, subst}
use Rattle.amf_graph.specs.ByName.{by_name}
use Rattle.amf_iso.specs.Contents.{pairs_of}
use Rattle.amf_iso.specs.Walking.{NamesMatch, NamedMatch, SecondsMatch}
use Rattle.amf_iso.proofs.Meeting.{met_still, sound_with, ok_met_with, ok_met_same}
use Rattle.amf_iso.proofs.NamesAlike.{names_long, as_they_stand, in_order, other_names}
use Rattle.amf_iso.proofs.compare.named_meet.Goals as goal

pub seconds_meet-requires-clause-long : goal.seconds_meet-requires-clause-long
seconds_meet-requires-clause-long c =
    let a = c.args.graphs.now.left.now.arena in
    let b = c.args.graphs.now.right.now.arena in
    names_long a b c.args.ps.now c.args.qs.now (c.names_match.ensures.same.0 c.if-names_match.true)

pub seconds_meet-requires-clause-sound : goal.seconds_meet-requires-clause-sound
seconds_meet-requires-clause-sound c =
    let a = c.args.graphs.now.left.now.arena in
    let b = c.args.graphs.now.right.now.arena in
    sound_with a b c.args.walk.now c.names_match.new.texts c.requires.sound c.names_match.ensures.known

pub returns-then-names_match : goal.returns-then-names_match
returns-then-names_match c =
    let a = c.args.graphs.now.left.now.arena in
    let b = c.args.graphs.now.right.now.arena in
    let ps = c.args.ps.now in
    let qs = c.args.qs.now in
    let names = c.names_match.ensures.same.0 c.if-names_match.true in
    ok_met_same a b c.seconds_meet.result c.args.walk.now c.seconds_meet.new.walk (NamedMatch a b ps qs) (SecondsMatch a b ps qs) (as_they_stand a b ps qs names) (ok_met_with a b c.seconds_meet.result c.args.walk.now c.seconds_meet.new.walk c.names_match.new.texts (SecondsMatch a b ps qs) c.seconds_meet.ensures)

pub returns-then-not-names_match : goal.returns-then-not-names_match
returns-then-not-names_match c =
    let a = c.args.graphs.now.left.now.arena in
    let b = c.args.graphs.now.right.now.arena in
    let ps = c.args.ps.now in
    let qs = c.args.qs.now in
    let xs = c.deref.result.now in
    let ys = c.deref-2.result.now in
    let left : pairs_of a xs ≡ by_name (pairs_of a ps) = ap (pairs_of a) c.deref.ensures.value ∙ c.in_ok-left.ensures.content in
    let right : pairs_of b ys ≡ by_name (pairs_of b qs) = ap (pairs_of b) c.deref-2.ensures.value ∙ c.in_ok-right.ensures.content in
    met_still a b c.args.walk.now _ c.names_match-2.new.texts (NamedMatch a b ps qs) false c.requires.sound refl c.names_match-2.ensures.known (λ pairs. (
      λ t. absurd (let no : false ≡ true = t in cc),
      λ z. absurd (other_names a b ps qs xs ys left right (λ m. let no : false ≡ true = sym c.if-not-names_match.true ∙ c.names_match-2.ensures.same.1 m in cc) pairs z),
    ))

pub seconds_meet-requires-2-clause-long : goal.seconds_meet-requires-2-clause-long
seconds_meet-requires-2-clause-long c =
    let a = c.args.graphs.now.left.now.arena in
    let b = c.args.graphs.now.right.now.arena in
    let m = c.names_match-2.ensures.same.0 c.if-not-names_match.false in
    let n : NamesMatch a b c.deref-3.result.now c.deref-2.result.now = subst (λ w. NamesMatch a b w c.deref-2.result.now) (c.deref.ensures.value ∙ sym c.deref-3.ensures.value) m in
    names_long a b c.deref-3.result.now c.deref-4.result.now (subst (λ w. NamesMatch a b c.deref-3.result.now w) (c.deref-2.ensures.value ∙ sym c.deref-4.ensures.value) n)

pub seconds_meet-requires-2-clause-sound : goal.seconds_meet-requires-2-clause-sound
seconds_meet-requires-2-clause-sound c =
    let a = c.args.graphs.now.left.now.arena in
    let b = c.args.graphs.now.right.now.arena in
    sound_with a b c.args.walk.now c.names_match-2.new.texts c.requires.sound c.names_match-2.ensures.known

pub returns : goal.returns
returns c =
    let a = c.args.graphs.now.left.now.arena in
    let b = c.args.graphs.now.right.now.arena in
    let ps = c.args.ps.now in
    let qs = c.args.qs.now in
    let xs = c.deref-3.result.now in
    let ys = c.deref-4.result.now in
    let left : pairs_of a xs ≡ by_name (pairs_of a ps) = ap (pairs_of a) c.deref-3.ensures.value ∙ c.in_ok-left.ensures.content in
    let right : pairs_of b ys ≡ by_name (pairs_of b qs) = ap (pairs_of b) c.deref-4.ensures.value ∙ c.in_ok-right.ensures.content in
    let m = c.names_match-2.ensures.same.0 c.if-not-names_match.false in
    let n : NamesMatch a b xs c.deref-2.result.now = subst (λ w. NamesMatch a b w c.deref-2.result.now) (c.deref.ensures.value ∙ sym c.deref-3.ensures.value) m in
    let names : NamesMatch a b xs ys = subst (λ w. NamesMatch a b xs w) (c.deref-2.ensures.value ∙ sym c.deref-4.ensures.value) n in
    ok_met_same a b c.seconds_meet-2.result c.args.walk.now c.seconds_meet-2.new.walk (NamedMatch a b ps qs) (SecondsMatch a b xs ys) (in_order a b ps qs xs ys left right names) (ok_met_with a b c.seconds_meet-2.result c.args.walk.now c.seconds_meet-2.new.walk c.names_match-2.new.texts (SecondsMatch a b xs ys) c.seconds_meet-2.ensures)
