-- What a worker has done so far with the links of its hall.
use Rattle.std.proofs.Common.{◌≡◌, ◌∙◌, ℕ, ◌+◌, ◌-◌, ◌^◌, ◌<◌, ◌≤◌, ◌||◌, Bool, true, false, List, [], ◌∷◌, ◌++◌, length, map, refl, sym, ap, subst, arith, inl, inr, append_assoc, append-nil, length-append}
use Rattle.std.proofs.lemmas.List.{map-append, length-map}
use Rattle.std.proofs.lemmas.List.Folds.{list_any-append}
use Rattle.std.specs.List.{AllByRecursion, list_any}
use Rattle.amf_io.specs.Outside.{Keeps, Steady, Rose}
use Rattle.amf_broker.specs.History.{Entry as Event}
use Rattle.amf_desk.specs.Passes.{Held}
use Rattle.amf_service.specs.Registry.{Entry}
use Rattle.amf_gateway.specs.declared.worker.WorkerEnd.TheVariants.{Done, FrontFault}
use Rattle.amf_gateway.specs.Handed.{Given, PassGoesOn, CountsCalls}
use Rattle.amf_gateway.specs.Served.{moments_of, words_of, entries_of, IsWhole, IsWholeUnlessFault, AreSpent, Served}
use Rattle.amf_gateway.specs.ServesLink.{CountsLink, Service, IsServed, ServesLink, is_starved}
use Rattle.amf_answer_plan.specs.Serving.{ServeEnd, ended, read_fault, write_fault, no_memory, spent}
use Rattle.amf_io.specs.declared.link.Link.{Ghosts as LinkMembers}
use Rattle.amf_gateway.specs.Tells.{HallMembers}
use Rattle.amf_gateway.specs.WorkerSteps.{ServedNext}
use Rattle.amf_gateway.specs.HandedLaws.{pass_none, pass_both}

-- Lists of services.

all_snoc : {X : Type 0} (P : X → Type 0) (xs : List X) (x : X) → AllByRecursion P xs → P x → AllByRecursion P (xs ++ x ∷ [])
all_snoc P [] x all p = (p, tt)
all_snoc P (y ∷ ys) x all p = (all.0, all_snoc P ys x all.1 p)

moments_snoc : {L : Type 0} (ss : List (Service L)) (s : Service L) → moments_of (ss ++ s ∷ []) ≡ moments_of ss ++ s.took.moments
moments_snoc [] s = append-nil s.took.moments
moments_snoc (z ∷ ss) s = ap (λ l. z.took.moments ++ l) (moments_snoc ss s) ∙ sym (append_assoc z.took.moments (moments_of ss) s.took.moments)

words_snoc : {L : Type 0} (ss : List (Service L)) (s : Service L) → words_of (ss ++ s ∷ []) ≡ words_of ss ++ s.took.words
words_snoc [] s = append-nil s.took.words
words_snoc (z ∷ ss) s = ap (λ l. z.took.words ++ l) (words_snoc ss s) ∙ sym (append_assoc z.took.words (words_of ss) s.took.words)

entries_snoc : {L : Type 0} (ss : List (Service L)) (s : Service L) → entries_of (ss ++ s ∷ []) ≡ entries_of ss ++ s.took.entries
entries_snoc [] s = append-nil s.took.entries
entries_snoc (z ∷ ss) s = ap (λ l. z.took.entries ++ l) (entries_snoc ss s) ∙ sym (append_assoc z.took.entries (entries_of ss) s.took.entries)

-- one link more, with the calls that are left for it
spent_snoc : {L : Type 0} (budget rest : ℕ) (ss : List (Service L)) (s : Service L) → AreSpent budget ss → budget ≡ rest + length (entries_of ss) → (s.end ≡ spent → length s.took.entries ≡ rest) → AreSpent budget (ss ++ s ∷ [])
spent_snoc budget rest [] s a e g = (λ f. let n = g f in omega arith, tt)
spent_snoc budget rest (z ∷ ss) s a e g = let all = length-append z.took.entries (entries_of ss) in (a.0, spent_snoc (budget - length z.took.entries) rest ss s a.1 (omega (arith, e, all)) g)

-- What was given, one after the other.

given_nothing : (told : Type 0) (before : List ℕ) → Given told told before before []
given_nothing told before = record { since = λ t. t; same = λ t. sym (append-nil before) }

given_stays : (first told tells : Type 0) (start before now given : List ℕ) → Given first told start before given → Keeps told tells before now → Given first tells start now given
given_stays first told tells start before now given g k = record { since = λ t. g.since (k.since t); same = λ t. k.same (k.since t) ∙ g.same (k.since t) }

given_more : (first told tells : Type 0) (start before now given more all : List ℕ) → all ≡ given ++ more → Given first told start before given → Given told tells before now more → Given first tells start now all
given_more first told tells start before now given more all e g h = record {
  since = λ t. g.since (h.since t);
  same = λ t. h.same t ∙ ap (λ l. l ++ more) (g.same (h.since t)) ∙ append_assoc start given more ∙ ap (λ l. start ++ l) (sym e);
}

either_false : (a b : Bool) → (a || b) ≡ false → (a ≡ false) × (b ≡ false)
either_false true b e = absurd cc
either_false false b e = (refl, e)

-- a link without a fault was answered whole, unless memory or calls ran out
whole_unless : (reads reads_now writes writes_now budget : ℕ) (end : ServeEnd) → CountsLink reads reads_now writes writes_now end → is_starved end ≡ false → (end ≡ spent → budget ≡ 0) → 0 < budget → Steady reads reads_now → Steady writes writes_now → IsWhole end
whole_unless reads reads_now writes writes_now budget (ended e) c s b more r w = tt
whole_unless reads reads_now writes writes_now budget read_fault c s b more r w = let rose = c.1 in let same = r.0 in let below = r.1 in absurd (omega arith)
whole_unless reads reads_now writes writes_now budget write_fault c s b more r w = let rose = c.2 in let same = w.0 in let below = w.1 in absurd (omega arith)
whole_unless reads reads_now writes writes_now budget no_memory c s b more r w = absurd cc
whole_unless reads reads_now writes writes_now budget spent c s b more r w = let none = b refl in absurd (omega arith)

or_none : (b : Bool) → b ≡ (b || false)
or_none true = refl
or_none false = refl

-- one link more
starved_more : {L : Type 0} (ss : List (Service L)) (s : Service L) → (list_any (λ z. is_starved z.end) ss || is_starved s.end) ≡ list_any (λ z. is_starved z.end) (ss ++ s ∷ [])
starved_more ss s = ap (λ (b : Bool). list_any (λ z. is_starved z.end) ss || b) (or_none (is_starved s.end)) ∙ sym (list_any-append (λ z. is_starved z.end) ss (s ∷ []))

module _ {H L : Type 0} (hall : HallMembers H L) (link : LinkMembers L) (services : List Entry) where
  -- so many links were served
  pub record SoFar (n : ℕ) (p q : Held) (a b : H) (starved : Bool) : Type 0 where
    pub links : List (Service L)
    pub each_served : AllByRecursion (IsServed link services) links
    pub count : length links ≡ n
    pub tells : hall.tells_links b → hall.tells_links a
    pub gave : hall.tells_links b → hall.coming a ≡ map (λ s. s.came) links ++ hall.coming b
    pub took_back : hall.tells_links b → hall.served b ≡ hall.served a ++ map (λ s. s.left) links
    pub faults : hall.faults b ≡ hall.faults a
    pub moments : Given (hall.tells_moments a) (hall.tells_moments b) (hall.moments a) (hall.moments b) (moments_of links)
    pub words : Given (hall.tells_words a) (hall.tells_words b) (hall.words a) (hall.words b) (words_of links)
    pub pass : PassGoesOn p q (entries_of links)
    pub all_made : AreSpent p.budget links
    pub starved_is : starved ≡ list_any (λ s. is_starved s.end) links
    pub whole : starved ≡ false → 0 < q.budget → AllByRecursion (IsWholeUnlessFault link) links

  pub sofar_none : (p : Held) (a : H) → SoFar 0 p p a a false
  sofar_none p a = record {
    links = [];
    each_served = tt;
    count = refl;
    tells = λ t. t;
    gave = λ t. refl;
    took_back = λ t. sym (append-nil (hall.served a));
    faults = refl;
    moments = given_nothing (hall.tells_moments a) (hall.moments a);
    words = given_nothing (hall.tells_words a) (hall.words a);
    pass = pass_none p;
    all_made = tt;
    starved_is = refl;
    whole = λ e more. tt;
  }

  -- what giving a link back to the hall leaves
  pub record Backed (b c : H) (left : L) : Type 0 where
    pub tells : hall.tells_links c → hall.tells_links b
    pub coming : hall.tells_links c → hall.coming c ≡ hall.coming b
    pub served : hall.tells_links c → hall.served c ≡ hall.served b ++ left ∷ []
    pub none_out : hall.is_out c ≡ false
    pub faults : hall.faults c ≡ hall.faults b
    pub moments : Keeps (hall.tells_moments b) (hall.tells_moments c) (hall.moments b) (hall.moments c)
    pub words : Keeps (hall.tells_words b) (hall.tells_words c) (hall.words b) (hall.words c)

  pub served_next : (p q : Held) (a b c : H) (s : Service L) (starved : Bool) → ServesLink link hall services p q a b s → Backed b c s.left → starved ≡ is_starved s.end → ServedNext hall link services p q a c s.came starved
  served_next p q a b c s starved v back e = record {
    service = s;
    came_is = refl;
    is_served = v.is_served;
    moments = given_stays (hall.tells_moments a) (hall.tells_moments b) (hall.tells_moments c) (hall.moments a) (hall.moments b) (hall.moments c) s.took.moments v.moments back.moments;
    words = given_stays (hall.tells_words a) (hall.tells_words b) (hall.tells_words c) (hall.words a) (hall.words b) (hall.words c) s.took.words v.words back.words;
    pass = v.pass;
    tells = λ t. v.links.coming_same.since (back.tells t);
    coming = λ t. back.coming t ∙ v.links.coming_same.same (v.links.coming_same.since (back.tells t));
    took_back = λ t. back.served t ∙ ap (λ l. l ++ s.left ∷ []) (v.links.served_same.same (v.links.served_same.since (back.tells t)));
    none_out = back.none_out;
    faults = back.faults ∙ v.links.count_same;
    starved_is = e;
    budget = v.budget;
  }

  -- what asking the hall for its next link leaves, whatever it answers
  pub record Asked (b c : H) : Type 0 where
    pub tells : hall.tells_links c → hall.tells_links b
    pub served : hall.tells_links c → hall.served c ≡ hall.served b
    pub moments : Keeps (hall.tells_moments b) (hall.tells_moments c) (hall.moments b) (hall.moments c)
    pub words : Keeps (hall.tells_words b) (hall.tells_words c) (hall.words b) (hall.words c)

  pub sofar_next : (n : ℕ) (p q r : Held) (a b c d : H) (came : L) (starved hungry : Bool) → SoFar n p q a b starved → Asked b c → (hall.tells_links c → hall.coming b ≡ came ∷ hall.coming c) → hall.faults c ≡ hall.faults b → ServedNext hall link services q r c d came hungry → SoFar (n + 1) p r a d (starved || hungry)
  sofar_next n p q r a b c d came starved hungry f asked next still s = record {
    links = f.links ++ s.service ∷ [];
    each_served = all_snoc (IsServed link services) f.links s.service f.each_served s.is_served;
    count = let one = f.count in omega (arith, length-append f.links (s.service ∷ []));
    tells = λ t. f.tells (asked.tells (s.tells t));
    gave = λ t.
        let at_c = s.tells t in
        let first : hall.coming b ≡ s.service.came ∷ hall.coming d = next at_c ∙ ap (λ x. x ∷ hall.coming c) (sym s.came_is) ∙ ap (λ l. s.service.came ∷ l) (sym (s.coming t)) in
        f.gave (asked.tells at_c) ∙ ap (λ l. map (λ z. z.came) f.links ++ l) first
        ∙ sym (append_assoc (map (λ z. z.came) f.links) (s.service.came ∷ []) (hall.coming d)) ∙ ap (λ l. l ++ hall.coming d) (sym (map-append (λ z. z.came) f.links (s.service ∷ [])));
    took_back = λ t.
        let at_c = s.tells t in
        s.took_back t ∙ ap (λ l. l ++ s.service.left ∷ []) (asked.served at_c ∙ f.took_back (asked.tells at_c))
        ∙ append_assoc (hall.served a) (map (λ z. z.left) f.links) (s.service.left ∷ []) ∙ ap (λ l. hall.served a ++ l) (sym (map-append (λ z. z.left) f.links (s.service ∷ [])));
    faults = s.faults ∙ still ∙ f.faults;
    moments = given_more (hall.tells_moments a) (hall.tells_moments c) (hall.tells_moments d) (hall.moments a) (hall.moments c) (hall.moments d) (moments_of f.links) s.service.took.moments (moments_of (f.links ++ s.service ∷ [])) (moments_snoc f.links s.service)
        (given_stays (hall.tells_moments a) (hall.tells_moments b) (hall.tells_moments c) (hall.moments a) (hall.moments b) (hall.moments c) (moments_of f.links) f.moments asked.moments) s.moments;
    words = given_more (hall.tells_words a) (hall.tells_words c) (hall.tells_words d) (hall.words a) (hall.words c) (hall.words d) (words_of f.links) s.service.took.words (words_of (f.links ++ s.service ∷ [])) (words_snoc f.links s.service)
        (given_stays (hall.tells_words a) (hall.tells_words b) (hall.tells_words c) (hall.words a) (hall.words b) (hall.words c) (words_of f.links) f.words asked.words) s.words;
    pass = subst (λ (es : List Event). PassGoesOn p r es) (sym (entries_snoc f.links s.service)) (pass_both p q r (entries_of f.links) s.service.took.entries f.pass s.pass);
    all_made = spent_snoc p.budget q.budget f.links s.service f.all_made (let before = f.pass.budget in omega arith) (λ e. let none = s.budget e in let falls = s.pass.budget in omega arith);
    starved_is = (λ i. f.starved_is i || s.starved_is i) ∙ starved_more f.links s.service;
    whole = λ e more.
        let none = either_false starved hungry e in
        let falls = s.pass.budget in
        all_snoc (IsWholeUnlessFault link) f.links s.service (f.whole none.0 (omega arith))
        (λ reads writes. whole_unless (link.read_faults s.service.came) (link.read_faults s.service.left) (link.write_faults s.service.came) (link.write_faults s.service.left) r.budget s.service.end s.is_served.counts (sym s.starved_is ∙ none.1) s.budget more reads writes);
  }

  -- the worker ended
  pub served_each : (n each : ℕ) (p q : Held) (a b : H) (starved : Bool) → n ≡ each → SoFar n p q a b starved → Served hall link services each p q a b (Done starved)
  served_each n each p q a b starved e f = record {
    links = f.links;
    each_served = f.each_served;
    at_most = let count = f.count in omega arith;
    done = inl (f.count ∙ e);
    front = f.faults;
    tells = f.tells;
    gave = f.gave;
    took_back = f.took_back;
    moments = f.moments;
    words = f.words;
    pass = f.pass;
    all_made = f.all_made;
    starved = f.starved_is;
    whole = f.whole;
  }

  module _ (n each : ℕ) (p q : Held) (a b c : H) (starved : Bool) (few : n ≤ each) (f : SoFar n p q a b starved) (asked : Asked b c) where
    after_moments : Given (hall.tells_moments a) (hall.tells_moments c) (hall.moments a) (hall.moments c) (moments_of f.links)
    after_moments = given_stays (hall.tells_moments a) (hall.tells_moments b) (hall.tells_moments c) (hall.moments a) (hall.moments b) (hall.moments c) (moments_of f.links) f.moments asked.moments

    after_words : Given (hall.tells_words a) (hall.tells_words c) (hall.words a) (hall.words c) (words_of f.links)
    after_words = given_stays (hall.tells_words a) (hall.tells_words b) (hall.tells_words c) (hall.words a) (hall.words b) (hall.words c) (words_of f.links) f.words asked.words

    pub served_all : (hall.tells_links c → (hall.coming b ≡ []) × (hall.coming c ≡ [])) → hall.faults c ≡ hall.faults b → Served hall link services each p q a c (Done starved)
    served_all none still = record {
      links = f.links;
      each_served = f.each_served;
      at_most = let count = f.count in omega arith;
      done = inr (λ t. (none t).1);
      front = still ∙ f.faults;
      tells = λ t. f.tells (asked.tells t);
      gave = λ t. f.gave (asked.tells t) ∙ ap (λ l. map (λ z. z.came) f.links ++ l) ((none t).0 ∙ sym (none t).1);
      took_back = λ t. asked.served t ∙ f.took_back (asked.tells t);
      moments = after_moments;
      words = after_words;
      pass = f.pass;
      all_made = f.all_made;
      starved = f.starved_is;
      whole = f.whole;
    }

    pub served_until : (hall.tells_links c → hall.coming c ≡ hall.coming b) → (hall.faults b ≤ hall.faults c) × Rose (hall.faults b) (hall.faults c) → Served hall link services each p q a c (FrontFault starved)
    served_until same rose = record {
      links = f.links;
      each_served = f.each_served;
      at_most = let count = f.count in omega arith;
      done = tt;
      front = subst (λ (k : ℕ). (k ≤ hall.faults c) × Rose k (hall.faults c)) f.faults rose;
      tells = λ t. f.tells (asked.tells t);
      gave = λ t. f.gave (asked.tells t) ∙ ap (λ l. map (λ z. z.came) f.links ++ l) (sym (same t));
      took_back = λ t. asked.served t ∙ f.took_back (asked.tells t);
      moments = after_moments;
      words = after_words;
      pass = f.pass;
      all_made = f.all_made;
      starved = f.starved_is;
      whole = f.whole;
    }

  -- the calls that were counted, by the links that the hall tells
  pub calls_told : (n : ℕ) (p q : Held) (a b c : H) (starved : Bool) (before now answered : ℕ) → SoFar n p q a b starved → (hall.tells_links c → hall.tells_links b) → (hall.tells_links c → hall.served c ≡ hall.served b) → CountsCalls n before now answered
      → hall.tells_links c → CountsCalls (length (hall.served c) - length (hall.served a)) before now answered
  calls_told n p q a b c starved before now answered f back same k t =
      let lefts : List L = map (λ s. s.left) f.links in
      let more : length (hall.served c) ≡ length (hall.served a) + length lefts = ap length (same t ∙ f.took_back (back t)) ∙ length-append (hall.served a) lefts in
      let many : length lefts ≡ n = length-map f.links (λ s. s.left) ∙ f.count in
      record { unanswered = k.unanswered; few = omega (arith, more, many, k.few); counted = k.counted }

-- The calls that were counted: one link more.
pub counts_more : (n before now later : ℕ) (p q r : Held) (es fs : List Event) → PassGoesOn p q es → PassGoesOn q r fs → CountsCalls n before now (p.budget - q.budget) → CountsCalls 1 now later (q.budget - r.budget) → CountsCalls (n + 1) before later (p.budget - r.budget)
counts_more n before now later p q r es fs g h c d = record {
  unanswered = c.unanswered + d.unanswered;
  few = omega (arith, c.few, d.few);
  counted = omega (arith, c.counted, d.counted, g.budget, h.budget);
}

pub counts_none : (before budget : ℕ) → before < 2 ^ 64 → CountsCalls 0 before before (budget - budget)
counts_none before budget l = record { unanswered = 0; few = omega arith; counted = omega (arith, l) }

pub counts_few : (n each before now answered : ℕ) → n ≤ each → CountsCalls n before now answered → CountsCalls each before now answered
counts_few n each before now answered l c = record { unanswered = c.unanswered; few = omega (arith, l, c.few); counted = c.counted }

-- each call had an answer, also those of one link more
pub all_answered_more : (before now later : ℕ) (starved hungry : Bool) (p q r : Held) (es fs : List Event) → PassGoesOn p q es → PassGoesOn q r fs → (starved ≡ false → 0 < q.budget → CountsCalls 0 before now (p.budget - q.budget))
    → (hungry ≡ false → 0 < r.budget → CountsCalls 0 now later (q.budget - r.budget)) → (starved || hungry) ≡ false → 0 < r.budget → CountsCalls 0 before later (p.budget - r.budget)
all_answered_more before now later starved hungry p q r es fs g h c d e more =
    let none = either_false starved hungry e in
    let left : 0 < q.budget = omega (arith, more, h.budget) in
    let first = c none.0 left in
    let second = d none.1 more in
    record { unanswered = 0; few = omega arith; counted = omega (arith, first.few, first.counted, second.few, second.counted, g.budget, h.budget) }
