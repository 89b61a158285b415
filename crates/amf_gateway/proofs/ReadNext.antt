-- From what a link gave next to what comes next of it.
use Rattle.std.proofs.Common.{◌≡◌, ◌∙◌, ℕ, ◌<◌, ◌||◌, Bool, List, [], ◌∷◌, ◌++◌, length, Option, Some, None, Result, Ok, Err, refl, sym, ap, subst, arith, inl, inr, append_assoc, append-nil}
use Rattle.http_link.specs.Passing.{Gave}
use Rattle.amf_http.specs.Request.{BeginsWithRequest, IsRefused, IsOpen}
use Rattle.amf_service.specs.Registry.{Entry}
use Rattle.amf_gateway.specs.declared.links.Answer.{Answer}
use Rattle.amf_gateway.specs.declared.links.Answer.TheVariants.{Packet, Status}
use Rattle.amf_gateway.specs.declared.links.LinkEnd.{LinkEnd as Ending}
use Rattle.amf_gateway.specs.declared.links.LinkEnd.TheVariants.{Closed, Refused, Truncated, ReadFault, WriteFault, Spent, Memory}
use Rattle.amf_gateway.specs.Answered.{body_bytes}
use Rattle.amf_gateway.specs.Answering.{Next, over, status_alone, packet, answer_with, next_by}
use Rattle.amf_answer_plan.specs.Did.{Drawn, taken_none, none_taken, StopsAt}
use Rattle.amf_answer_plan.specs.Links.{LinkEnd, closed, truncated}
use Rattle.amf_gateway.specs.LinkSteps.{AnswersRequest, Gives, Pauses, Comes}
use Rattle.amf_answer_plan.specs.Plan.{at_end, cut_short, turned_away, request, Plan, gives}
use Rattle.amf_answer_plan.specs.Runs.{Done, nothing, gave, Runs}
use Rattle.amf_answer_plan.specs.Serving.{Taken, supply_of, did, none_left}
use Rattle.amf_answer_plan.proofs.Composed.{both, runs_then}
use Rattle.amf_answer_plan.proofs.Standing.{stands_first}
use Rattle.amf_answer_plan.specs.Stands.{Stands}

module _ (services : List Entry) (last : Bool) where
  -- what a request is answered with, once it is cut
  cut_gives : (bytes body rest : List ℕ) (close : Bool) (k : Taken) (back : Option (List ℕ)) → BeginsWithRequest bytes body close rest → Runs (body_bytes services body) (supply_of k) (did k []) (gave back none_left) → Gives services last bytes k (answer_with (close || last) rest back)
  cut_gives bytes body rest close k back b r =
      let after : Option (List ℕ) → Plan Next = λ o. gives (answer_with (close || last) rest o) in
      let both_done : both (did k []) nothing ≡ did k [] = λ i. record { calls = append-nil (did k []).calls i; answers = [] } in (
        request body close rest,
        b,
        subst (λ (d : Done). Runs (next_by services last (request body close rest)) (supply_of k) d (gave (answer_with (close || last) rest back) none_left)) both_done
            (runs_then (body_bytes services body) after (supply_of k) none_left (did k []) nothing back (gave (answer_with (close || last) rest back) none_left) r (refl, refl)),
      )

  -- whatever follows it
  begins_so : (bytes body rest x : List ℕ) (close : Bool) (b : BeginsWithRequest bytes body close rest) → BeginsWithRequest ((b.head ++ body) ++ x) body close x
  begins_so bytes body rest x close b = record { head = b.head; is_head = b.is_head; accepted = b.accepted; parts = refl }

  packet_comes : (bytes body rest leaves answer : List ℕ) (close closes : Bool) (k : Taken) → BeginsWithRequest bytes body close rest → closes ≡ (close || last) → Runs (body_bytes services body) (supply_of k) (did k []) (gave (Some answer) none_left)
      → (used : List ℕ) × (bytes ≡ used ++ rest) × ((x : List ℕ) → Gives services last (used ++ x) k (packet answer closes x))
  packet_comes bytes body rest leaves answer close closes k b e r =
      (b.head ++ body, b.parts, λ x. subst (λ (z : Bool). Gives services last ((b.head ++ body) ++ x) k (packet answer z x)) (sym e) (cut_gives ((b.head ++ body) ++ x) body x close k (Some answer) (begins_so bytes body rest x close b) r))

  request_pauses : (bytes body rest : List ℕ) (close : Bool) (k : Drawn) → BeginsWithRequest bytes body close rest → Stands (StopsAt k.unanswered) (body_bytes services body) (supply_of k.taken) (did k.taken []) → Pauses services last bytes k
  request_pauses bytes body rest close k b r = inr (request body close rest, b, stands_first k.unanswered (body_bytes services body) (λ o. gives (answer_with (close || last) rest o)) (supply_of k.taken) (did k.taken []) r)

  open_gives : (came : List ℕ) → IsOpen came → (end : LinkEnd) × Gives services last came taken_none (over end)
  open_gives [] o = (closed, (at_end, refl, (refl, refl)))
  open_gives (x ∷ xs) o = (truncated, (cut_short, (omega arith, o), (refl, refl)))

module _ {O : Type 0} (handed : O → O → Drawn → Type 0) (services : List Entry) (last : Bool) (tells : Type 0) where
  -- a request was read, and answered
  pub request_comes : (old new : O) (bytes body rest leaves : List ℕ) (close : Bool) (r : Result Answer Ending) → (tells → BeginsWithRequest bytes body close rest) → AnswersRequest handed services body (close || last) old new r → Comes handed services last old new tells bytes rest leaves r
  request_comes old new bytes body rest leaves close (Ok (Packet answer closes)) b a = record {
    took = a.0.took;
    was_handed = a.0.was_handed;
    answered = a.0.answered;
    comes = λ t. packet_comes services last bytes body rest leaves answer.items close closes a.0.took.taken (b t) a.1 a.0.runs;
  }
  request_comes old new bytes body rest leaves close (Ok (Status status)) b a = record {
    took = a.0.took;
    was_handed = a.0.was_handed;
    answered = a.0.answered;
    comes = λ t. subst (λ (z : ℕ). Gives services last bytes a.0.took.taken (status_alone z)) (sym a.1) (cut_gives services last bytes body rest close a.0.took.taken None (b t) a.0.runs);
  }
  request_comes old new bytes body rest leaves close (Err Spent) b a = record { took = a.took; was_handed = a.was_handed; answered = tt; comes = λ t. request_pauses services last bytes body rest close a.took (b t) a.stands }
  request_comes old new bytes body rest leaves close (Err Memory) b a = record { took = a.took; was_handed = a.was_handed; answered = tt; comes = λ t. request_pauses services last bytes body rest close a.took (b t) a.stands }
  request_comes old new bytes body rest leaves close (Err Closed) b a = absurd a
  request_comes old new bytes body rest leaves close (Err (Refused status)) b a = absurd a
  request_comes old new bytes body rest leaves close (Err Truncated) b a = absurd a
  request_comes old new bytes body rest leaves close (Err ReadFault) b a = absurd a
  request_comes old new bytes body rest leaves close (Err WriteFault) b a = absurd a

  -- no request was read
  module _ (none : (a : O) → handed a a none_taken) (a : O) (bytes rest leaves : List ℕ) where
    pub closed_comes : (tells → bytes ≡ []) → Comes handed services last a a tells bytes rest leaves (Err Closed)
    closed_comes e = record { took = none_taken; was_handed = none a; answered = refl; comes = λ t. (at_end, e t, (refl, refl)) }

    pub refused_comes : (status : ℕ) → (tells → IsRefused bytes status) → Comes handed services last a a tells bytes rest leaves (Ok (Status status))
    refused_comes status r = record { took = none_taken; was_handed = none a; answered = refl; comes = λ t. (turned_away status, r t, (refl, refl)) }

    pub truncated_comes : (tells → (0 < length bytes) × IsOpen bytes) → Comes handed services last a a tells bytes rest leaves (Err Truncated)
    truncated_comes o = record { took = none_taken; was_handed = none a; answered = refl; comes = λ t. (cut_short, o t, (refl, refl)) }

    pub memory_comes : Comes handed services last a a tells bytes rest leaves (Err Memory)
    memory_comes = record { took = none_taken; was_handed = none a; answered = tt; comes = λ t. inl (record { at = tt; none = refl; no_more = refl }) }

  pub fault_comes : ((a : O) → handed a a none_taken) → (a : O) (kept left rest leaves : List ℕ) → (tells → Gave kept left leaves IsOpen) → Comes handed services last a a tells (kept ++ left) rest leaves (Err ReadFault)
  fault_comes none a kept left rest leaves g = record {
    took = none_taken;
    was_handed = none a;
    answered = refl;
    comes = λ t.
        let o = open_gives services last (kept ++ (g t).given) (g t).holds in
        (kept ++ (g t).given, o.0, ap (λ z. kept ++ z) (g t).gave ∙ sym (append_assoc kept (g t).given leaves), o.1, inl refl, (g t).holds, refl);
  }
