-- Each word is found as it stands, and another key is none of them.
use Rattle.std.proofs.Common.{refl, sym}
use Rattle.amf_text.specs.Tags.{tag_of, words}
use Rattle.amf_text_read.proofs.Tagged.{IsNone, if_begins, if_not_begins}
use Rattle.amf_text_read.proofs.tag.tag_of.Goals as goal

pub returns-in-text : goal.returns-in-text
unfolding tag_of
returns-in-text c = rw c.in-text.is refl

pub returns-in-text-2 : goal.returns-in-text-2
unfolding tag_of
returns-in-text-2 c = rw c.in-text-2.is refl

pub returns-in-text-3 : goal.returns-in-text-3
unfolding tag_of
returns-in-text-3 c = rw c.in-text-3.is refl

pub returns-in-text-4 : goal.returns-in-text-4
unfolding tag_of
returns-in-text-4 c = rw c.in-text-4.is refl

pub returns-in-text-5 : goal.returns-in-text-5
unfolding tag_of
returns-in-text-5 c = rw c.in-text-5.is refl

pub returns-in-text-6 : goal.returns-in-text-6
unfolding tag_of
returns-in-text-6 c = rw c.in-text-6.is refl

pub returns-in-text-7 : goal.returns-in-text-7
unfolding tag_of
returns-in-text-7 c = rw c.in-text-7.is refl

pub returns-in-text-8 : goal.returns-in-text-8
unfolding tag_of
returns-in-text-8 c = rw c.in-text-8.is refl

pub returns-in-text-9 : goal.returns-in-text-9
unfolding tag_of
returns-in-text-9 c = rw c.in-text-9.is refl

pub returns-in-text-10 : goal.returns-in-text-10
unfolding tag_of
returns-in-text-10 c = rw c.in-text-10.is refl

pub returns-in-text-11 : goal.returns-in-text-11
unfolding tag_of
returns-in-text-11 c = rw c.in-text-11.is refl

pub returns-in-text-12 : goal.returns-in-text-12
unfolding tag_of
returns-in-text-12 c = rw c.in-text-12.is refl

pub returns-in-text-13 : goal.returns-in-text-13
unfolding tag_of
returns-in-text-13 c = rw c.in-text-13.is refl

pub returns-in-text-14 : goal.returns-in-text-14
unfolding tag_of
returns-in-text-14 c = rw c.in-text-14.is refl

pub returns-in-text-15 : goal.returns-in-text-15
unfolding tag_of
returns-in-text-15 c = rw c.in-text-15.is refl

pub returns-in-text-16 : goal.returns-in-text-16
unfolding tag_of
returns-in-text-16 c = rw c.in-text-16.is refl

pub returns-in-text-17 : goal.returns-in-text-17
unfolding tag_of
returns-in-text-17 c = rw c.in-text-17.is refl

pub returns-in-text-18 : goal.returns-in-text-18
unfolding tag_of
returns-in-text-18 c = rw c.in-text-18.is refl

pub returns-in-text-19 : goal.returns-in-text-19
unfolding tag_of
returns-in-text-19 c = rw c.in-text-19.is refl

pub returns-in-text-20 : goal.returns-in-text-20
unfolding tag_of
returns-in-text-20 c = rw c.in-text-20.is refl

pub returns-in-text-21 : goal.returns-in-text-21
unfolding tag_of
returns-in-text-21 c = rw c.in-text-21.is refl

pub returns-in-text-22 : goal.returns-in-text-22
unfolding tag_of
returns-in-text-22 c = rw c.in-text-22.is refl

pub returns-in-text-23 : goal.returns-in-text-23
unfolding tag_of
returns-in-text-23 c = rw c.in-text-23.is refl

pub returns-in-text-24 : goal.returns-in-text-24
unfolding tag_of
returns-in-text-24 c = rw c.in-text-24.is refl

pub returns-in_default : goal.returns-in_default
returns-in_default c =
    let h : IsNone words c.args.key.now = (c.in_default.not-text, (c.in_default.not-text-2, (c.in_default.not-text-3, (c.in_default.not-text-4, (c.in_default.not-text-5, (c.in_default.not-text-6, (c.in_default.not-text-7, (c.in_default.not-text-8, (c.in_default.not-text-9, (c.in_default.not-text-10, (c.in_default.not-text-11, (c.in_default.not-text-12, (c.in_default.not-text-13, (c.in_default.not-text-14, (c.in_default.not-text-15, (c.in_default.not-text-16, (c.in_default.not-text-17, (c.in_default.not-text-18, (c.in_default.not-text-19, (c.in_default.not-text-20, (c.in_default.not-text-21, (c.in_default.not-text-22, (c.in_default.not-text-23, (c.in_default.not-text-24, tt)))))))))))))))))))))))) in
    if_begins c.args.key.now (sym c.if-begins_tag.ensures) h

pub returns-in_default-2 : goal.returns-in_default-2
returns-in_default-2 c = if_not_begins c.args.key.now (sym c.if-begins_tag.ensures)
