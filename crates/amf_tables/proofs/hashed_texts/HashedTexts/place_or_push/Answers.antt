-- A content that is there has its place; one that is new gets the place of its text.
use Rattle.std.proofs.Common.{◌++◌, ◌∷◌, [], ap, sym, ◌∙◌, subst, get_or, arith}
use Rattle.amf_tables.specs.FirstPlace.{IsFirstPlace}
use Rattle.amf_tables.proofs.NodePlaces.{first_new}
use Rattle.amf_tables.proofs.TextFirsts.{absent_by_contents, first_read, pushed_absent}
use Rattle.amf_tables.proofs.hashed_texts.HashedTexts.place_or_push.Goals as goal

pub invariant_of-self-in-None-2 : goal.invariant_of-self-in-None-2
invariant_of-self-in-None-2 c =
    let none = rw c.in-None-2.is at c.in_ok-number.ensures.number in
    let more = rw c.in-None-2.is at c.in_ok-number.ensures.texts in
    pushed_absent c.self.inside.texts c.find_or_push.new.self c.self.inside.firsts.items c.push.new.self.items c.args.bytes.now c.len-place.result
    more c.len-place.ensures (omega arith) (c.in_ok-push-in-None-2.ensures.items ∙ ap (λ w. w ++ c.len-place.result ∷ []) c.reserve.ensures.items) none c.self.invariant

pub returns-in-Some-2-clause-ok : goal.returns-in-Some-2-clause-ok
returns-in-Some-2-clause-ok c =
    let there = rw c.in-Some-2.is at c.in_ok-number.ensures.number in
    let same = rw c.in-Some-2.is at c.in_ok-number.ensures.texts in
    rw (← c.self.view_is) (
      first_read c.self.inside.texts c.self.inside.firsts.items c.in-Some-2.number c.index.result.now c.args.bytes.now c.self.invariant there (c.index.ensures ∙ ap (λ w. get_or w c.in-Some-2.number c.index.result.now) c.reserve.ensures.items),
      same,
    )

pub returns-in_ok-push-in-None-2-clause-ok : goal.returns-in_ok-push-in-None-2-clause-ok
returns-in_ok-push-in-None-2-clause-ok c =
    let none = absent_by_contents c.self.inside.texts c.args.bytes.now (rw c.in-None-2.is at c.in_ok-number.ensures.number) in
    let more = rw c.in-None-2.is at c.in_ok-number.ensures.texts in
    rw (← c.self.view_is) (
      none,
      subst (λ w. IsFirstPlace w c.args.bytes.now c.len-place.result) (sym more)
          (subst (IsFirstPlace (c.self.inside.texts ++ c.args.bytes.now ∷ []) c.args.bytes.now) (sym c.len-place.ensures) (first_new c.self.inside.texts c.args.bytes.now none)),
      more,
    )
