-- A device of proofs: where nothing happens nothing is given; and one thing is given after another.
use Rattle.std.proofs.Common.{◌≡◌, ◌∙◌, ℕ, ◌^◌, ◌<◌, ◌||◌, Bool, true, false, Option, List, [], ◌++◌, length, refl, sym, ap, subst, arith, append_assoc, append-nil, length-append}
use Rattle.std.specs.Borrow.{MutBor}
use Rattle.amf_io.specs.Outside.{Keeps, SameLinks}
use Rattle.amf_broker.specs.History.{Entry as Event}
use Rattle.amf_desk.specs.Histories.{own, Begins}
use Rattle.amf_desk.specs.Passes.{Held}
use Rattle.amf_answer_plan.specs.Did.{taken_none, taken_both, Drawn, both_taken}
use Rattle.amf_answer_plan.specs.declared.outside.Unanswered.{Unanswered}
use Rattle.amf_gateway.specs.Handed.{Given, AidGoesOn, PassGoesOn, CallsGoOn, CallerGoesOn}
use Rattle.amf_answer_plan.specs.Serving.{Taken}
use Rattle.amf_gateway.specs.Tells.{HallMembers}

pub given_self : (told : Type 0) (before : List ℕ) → Given told told before before []
given_self told before = record { since = λ t. t; same = λ t. sym (append-nil before) }

given_then : (a b c : Type 0) (x y z g h : List ℕ) → Given a b x y g → Given b c y z h → Given a c x z (g ++ h)
given_then a b c x y z g h m n = record { since = λ t. m.since (n.since t); same = λ t. n.same t ∙ ap (λ (w : List ℕ). w ++ h) (m.same (n.since t)) ∙ append_assoc x g h }

keeps_self : {X : Type 0} (told : Type 0) (x : X) → Keeps told told x x
keeps_self told x = record { still = λ t. t; since = λ t. t; same = λ t. refl }

keeps_then : {X : Type 0} (a b c : Type 0) (x y z : X) → Keeps a b x y → Keeps b c y z → Keeps a c x z
keeps_then a b c x y z m n = record { still = λ t. n.still (m.still t); since = λ t. m.since (n.since t); same = λ t. n.same (m.still t) ∙ m.same t }

links_self : {L : Type 0} (told : Type 0) (coming served : List L) (o : Bool) (n : ℕ) → SameLinks told told coming coming served served o o n n
links_self told coming served o n = record { coming_same = keeps_self told coming; served_same = keeps_self told served; out_same = refl; count_same = refl }

links_then : {L : Type 0} (a b c : Type 0) (x y z u v w : List L) (o i j : Bool) (l m n : ℕ) → SameLinks a b x y u v o i l m → SameLinks b c y z v w i j m n → SameLinks a c x z u w o j l n
links_then a b c x y z u v w o i j l m n p q = record {
  coming_same = keeps_then a b c x y z p.coming_same q.coming_same;
  served_same = keeps_then a b c u v w p.served_same q.served_same;
  out_same = q.out_same ∙ p.out_same;
  count_same = q.count_same ∙ p.count_same;
}

module _ {A L : Type 0} (aid : HallMembers A L) where
  pub aid_none : (a : A) → AidGoesOn aid a a taken_none
  aid_none a = record {
    moments_given = given_self (aid.tells_moments a) (aid.moments a);
    words_given = given_self (aid.tells_words a) (aid.words a);
    links = links_self (aid.tells_links a) (aid.coming a) (aid.served a) (aid.is_out a) (aid.faults a);
  }

  pub aid_both : (a b c : A) (k l : Taken) → AidGoesOn aid a b k → AidGoesOn aid b c l → AidGoesOn aid a c (taken_both k l)
  aid_both a b c k l p q = record {
    moments_given = given_then (aid.tells_moments a) (aid.tells_moments b) (aid.tells_moments c) (aid.moments a) (aid.moments b) (aid.moments c) k.moments l.moments p.moments_given q.moments_given;
    words_given = given_then (aid.tells_words a) (aid.tells_words b) (aid.tells_words c) (aid.words a) (aid.words b) (aid.words c) k.words l.words p.words_given q.words_given;
    links =
        links_then (aid.tells_links a) (aid.tells_links b) (aid.tells_links c) (aid.coming a) (aid.coming b) (aid.coming c) (aid.served a) (aid.served b) (aid.served c)
        (aid.is_out a) (aid.is_out b) (aid.is_out c) (aid.faults a) (aid.faults b) (aid.faults c) p.links q.links;
  }

-- The pass.

begins_self : (xs : List Event) → Begins xs xs
begins_self xs = ([], sym (append-nil xs))

begins_trans : (xs ys zs : List Event) → Begins xs ys → Begins ys zs → Begins xs zs
begins_trans xs ys zs a b = (a.0 ++ b.0, b.1 ∙ (ap (λ (l : List Event). l ++ b.0) a.1 ∙ append_assoc xs a.0 b.0))

pub pass_none : (p : Held) → PassGoesOn p p []
pass_none p = record {
  desk = refl;
  destinations = refl;
  number = refl;
  splits = refl;
  own_entries = sym (append-nil (own p.number p.seen));
  begins = begins_self p.seen;
  budget = omega arith;
  explained = λ e. e;
}

pub pass_both : (p q r : Held) (es fs : List Event) → PassGoesOn p q es → PassGoesOn q r fs → PassGoesOn p r (es ++ fs)
pass_both p q r es fs m n = record {
  desk = n.desk ∙ m.desk;
  destinations = n.destinations ∙ m.destinations;
  number = n.number ∙ m.number;
  splits = n.splits ∙ m.splits;
  own_entries =
      let later : own p.number r.seen ≡ own p.number q.seen ++ fs = subst (λ (i : ℕ). own i r.seen ≡ own i q.seen ++ fs) m.number n.own_entries in
      later ∙ ap (λ (xs : List Event). xs ++ fs) m.own_entries ∙ append_assoc (own p.number p.seen) es fs;
  begins = begins_trans p.seen q.seen r.seen m.begins n.begins;
  budget = omega (arith, m.budget, n.budget, length-append es fs);
  explained = λ e. n.explained (m.explained e);
}

-- Why a call had no answer.

pub unanswered_both : (x y : Bool) (u v w : Option Unanswered) → (x ≡ false → v ≡ u) → (y ≡ false → w ≡ v) → (x || y) ≡ false → w ≡ u
unanswered_both true y u v w f g e = absurd cc
unanswered_both false y u v w f g e = g e ∙ f refl

-- The calls.

pub calls_none : (p : Held) (u : Option Unanswered) (n : ℕ) → CallsGoOn p p u u n n 0
calls_none p u n = record { counted = λ l. omega (arith, l); still = omega arith; spent = λ b. b }

pub calls_both : (p q r : Held) (u v w : Option Unanswered) (a b c : ℕ) (es fs : List Event) → CallsGoOn p q u v a b (length es) → CallsGoOn q r v w b c (length fs) → CallsGoOn p r u w a c (length (es ++ fs))
calls_both p q r u v w a b c es fs m n = record {
  counted = λ l.
      let first = m.counted l in
      let below : b < 2 ^ 64 = omega (arith, first) in
      omega (arith, first, n.counted below, m.still, n.still, length-append es fs);
  still = omega (arith, m.still, n.still);
  spent = λ e. n.spent (m.spent e);
}

-- The caller.

pub caller_both : {A L K : Type 0} {x y z : K} (hall : HallMembers A L) (a b c : MutBor A) (p q r : MutBor Held) (l m n : MutBor ℕ) (u v w : Option Unanswered) (j k : Drawn) → CallerGoesOn hall a b p q x y l m u v j → CallerGoesOn hall b c q r y z m n v w k → CallerGoesOn hall a c p r x z l n u w (both_taken j k)
caller_both hall a b c p q r l m n u v w j k e f = (
  aid_both hall a.now b.now c.now j.taken k.taken e.0 f.0,
  pass_both p.now q.now r.now j.taken.entries k.taken.entries e.1 f.1,
  f.2 ∙ e.2,
  f.3 ∙ e.3,
  f.4 ∙ e.4,
  f.5 ∙ e.5,
  calls_both p.now q.now r.now u v w l.now m.now n.now j.taken.entries k.taken.entries e.6 f.6,
  unanswered_both j.unanswered k.unanswered u v w e.7 f.7,
)
