-- Of a quiet plan nothing is a call of the desk.
use Rattle.std.proofs.Common.{◌≡◌, ℕ, List, [], ◌∷◌, ◌++◌, refl, sym, ap, ◌∙◌, subst, inl, inr, arith}
use Rattle.std.specs.Prelude.{map, ⊤}
use Rattle.std.proofs.lemmas.List.{append-nil}
use Rattle.amf_desk.specs.Histories.{own}
use Rattle.amf_desk.specs.Passes.{Held}
use Rattle.amf_gateway.specs.Handed.{PassGoesOn}
use Rattle.amf_answer_plan.specs.Links.{link}
use Rattle.amf_answer_plan.specs.Plan.{Plan, gives, takes_moment, takes_word, calls, spells, reads, cuts, unpacks, packs, writes}
use Rattle.amf_answer_plan.specs.Runs.{Supply, Done, Outcome, gave, Runs}
use Rattle.amf_answer_plan.specs.Serving.{ServeEnd, ended, read_fault, write_fault, no_memory, spent, LinkBytes, Taken, supply_of, did, none_left, Serves}
use Rattle.amf_answer_plan.specs.Stands.{IsAt, Stands, AtCall, AtWriting, AtBytes, Stops}
use Rattle.amf_self_call_laws.specs.Quiet.{IsQuiet}
use Rattle.amf_service.specs.Registry.{Entry}
use Rattle.amf_self_call.specs.Steps.{AsksNothing}

-- none where it was done whole
pub none_run : {X : Type 0} (p : Plan X) (s : Supply) (d : Done) (o : Outcome X) → IsQuiet p → Runs p s d o → d.calls ≡ []
none_run (gives x) s d o q r = ap (λ z. z.calls) r.0
none_run (takes_moment p) s d o q r = absurd q
none_run (takes_word p) s d o q r = absurd q
none_run (calls n c p) s d o q r = absurd q
none_run (spells how g p) s d o q r = none_run (p r.0) s d o (q r.0 r.1) r.2
none_run (reads message p) s d o q r = none_run (p r.0) s d o (q r.0 r.1) r.2
none_run (cuts bytes p) s d o q r = none_run (p r.0) s d o (q r.0 r.1) r.2
none_run (unpacks bytes p) s d o q r = none_run (p r.0) s d o (q r.0 r.1) r.2
none_run (packs k p) s d o q r = none_run (p r.0) s d o (q r.0 r.1) r.2
none_run (writes answer p) s d o q r = ap (λ z. z.calls) r.2 ∙ none_run p s r.0 o q r.1

none_at : {X : Type 0} (At : Plan X → Type 0) (p : Plan X) (s : Supply) (d : Done) → IsAt At p s d → d.calls ≡ []
none_at At p s d i = ap (λ z. z.calls) i.no_more

-- none where it stands at some step
pub none_stood : {X : Type 0} (At : Plan X → Type 0) (p : Plan X) (s : Supply) (d : Done) → IsQuiet p → Stands At p s d → d.calls ≡ []
none_stood At (gives x) s d q r = none_at At (gives x) s d r
none_stood At (takes_moment p) s d q r = absurd q
none_stood At (takes_word p) s d q r = absurd q
none_stood At (calls n c p) s d q r = absurd q
none_stood At (spells how g p) s d q (inl r) = none_at At (spells how g p) s d r
none_stood At (spells how g p) s d q (inr r) = none_stood At (p r.0) s d (q r.0 r.1) r.2
none_stood At (reads message p) s d q (inl r) = none_at At (reads message p) s d r
none_stood At (reads message p) s d q (inr r) = none_stood At (p r.0) s d (q r.0 r.1) r.2
none_stood At (cuts bytes p) s d q (inl r) = none_at At (cuts bytes p) s d r
none_stood At (cuts bytes p) s d q (inr r) = none_stood At (p r.0) s d (q r.0 r.1) r.2
none_stood At (unpacks bytes p) s d q (inl r) = none_at At (unpacks bytes p) s d r
none_stood At (unpacks bytes p) s d q (inr r) = none_stood At (p r.0) s d (q r.0 r.1) r.2
none_stood At (packs k p) s d q (inl r) = none_at At (packs k p) s d r
none_stood At (packs k p) s d q (inr r) = none_stood At (p r.0) s d (q r.0 r.1) r.2
none_stood At (writes answer p) s d q (inl r) = none_at At (writes answer p) s d r
none_stood At (writes answer p) s d q (inr r) = ap (λ z. z.calls) r.2 ∙ none_stood At p s r.0 q r.1

-- what is there is none, if there is none of its images
pub none_mapped : {A B : Type 0} (f : A → B) (xs : List A) → map f xs ≡ [] → xs ≡ []
none_mapped f [] e = refl
none_mapped f (x ∷ xs) e = absurd cc

-- So of a link whose plan is quiet, however it ended, no entry is taken.
pub none_taken : (services : List Entry) (b : LinkBytes) (k : Taken) (e : ServeEnd) → IsQuiet (link services b.left) → Serves services b k e → Stops services b k e → k.entries ≡ []
none_taken services b k (ended x) q s t = none_mapped _ k.entries (none_run (link services b.left) (supply_of k) (did k s.0) (gave x none_left) q s.1)
none_taken services b k read_fault q s (answers, used, partial, came, open_there, stands, w) =
    let all = partial ++ b.leaves in
    none_mapped _ k.entries (none_stood (AtBytes all) (link services (used ++ all)) (supply_of k) (did k answers) (subst (λ z. IsQuiet (link services z)) came q) (stands all))
none_taken services b k write_fault q s (answers, front, back, stands, w) = none_mapped _ k.entries (none_stood (AtWriting (front ++ back)) (link services b.left) (supply_of k) (did k answers) q stands)
none_taken services b k no_memory q s (answers, stands, w) = none_mapped _ k.entries (none_stood (λ p. ⊤) (link services b.left) (supply_of k) (did k answers) q stands)
none_taken services b k spent q s (answers, stands, w) = none_mapped _ k.entries (none_stood AtCall (link services b.left) (supply_of k) (did k answers) q stands)

-- a pass that was not called stays
pub stays_self : (p : Held) → PassGoesOn p p []
stays_self p = record {
  desk = refl;
  destinations = refl;
  number = refl;
  splits = refl;
  own_entries = sym (append-nil (own p.number p.seen));
  begins = ([], sym (append-nil p.seen));
  budget = omega arith;
  explained = λ x. x;
}

-- so it stays where what is served asks nothing of the desk
pub stays_by : (services : List Entry) (call left leaves held now : List ℕ) (p q : Held) (k : Taken) (e : ServeEnd) → AsksNothing services call → left ≡ call →
    Serves services (record { left = left; leaves = leaves; held = held; now = now }) k e → Stops services (record { left = left; leaves = leaves; held = held; now = now }) k e →
    PassGoesOn p q k.entries → PassGoesOn p q []
stays_by services call left leaves held now p q k e asks l s t goes =
    subst (PassGoesOn p q) (none_taken services (record { left = left; leaves = leaves; held = held; now = now }) k e (subst (λ (z : List ℕ). IsQuiet (link services z)) (sym l) asks.quiet) s t) goes
