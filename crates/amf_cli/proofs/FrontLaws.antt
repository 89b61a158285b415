-- What a run promises of the front.
use Rattle.std.proofs.Common.{◌≡◌, ◌≢◌, ◌⊎◌, inl, inr, ℕ, List, [], Ok, Err, refl, sym, ap, ◌∙◌, subst, arith}
use Rattle.std.proofs.lemmas.List.{append-nil}
use Rattle.amf_io.specs.Outside.{Rose}
use Rattle.amf_io.specs.declared.source.Source.{Ghosts as SourceMembers}
use Rattle.amf_io.specs.declared.sink.Sink.{Ghosts as SinkMembers}
use Rattle.amf_io.specs.declared.link.Link.{Ghosts as LinkMembers}
use Rattle.amf_io.specs.declared.front.Front.{Ghosts as FrontMembers}
use Rattle.amf_service.specs.Registry.{Entry}
use Rattle.amf_answer_plan.specs.RespondLaws.{AreLawful}
use Rattle.amf_gateway.specs.Tells.{HallMembers}
use Rattle.amf_workers.specs.Together.{Serves}
use Rattle.amf_workers.specs.declared.answer.ServeAnswer.{ServeAnswer}
use Rattle.amf_workers.specs.declared.answer.ServeAnswer.TheVariants.{Memory}
use Rattle.amf_commands.specs.declared.command.ServeOptions.{ServeOptions}
use Rattle.amf_commands.specs.Commands.{IsServing, ReadsServe}
use Rattle.amf_commands.proofs.Asked.{one_serving}
use Rattle.amf_commands.proofs.Statuses.{never_0}
use Rattle.amf_cli.specs.Ends.{Ends}
use Rattle.amf_cli.specs.Serving.{ServeRun, ServeStarved}
use Rattle.amf_cli.specs.ServeEnds.{End, IsServeEnd, ServesTo, CountsFront, status_for}
use Rattle.amf_cli.specs.ServesWords.{ServesWords}
use Rattle.amf_cli.proofs.ServeLaws.{done_served, served_with, starved_with, served_again, serves_with, front_rose}

not_of_serve : (status : ℕ) → status ≡ 5 → (status ≡ 0) ⊎ (status ≡ 4) ⊎ (status ≡ 6) → ⊥
not_of_serve status five h = elim h [ inl a ↦ omega (arith, five, a) | inr a ↦ elim a [ inl b ↦ omega (arith, five, b) | inr b ↦ omega (arith, five, b) ] ]

served_for : (Came : ServeAnswer → Type 0) (kept told : Type 0) (held now : List ℕ) (before after : ℕ) (r : End) (status : ℕ) → status ≡ status_for r → (status ≡ 0) ⊎ (status ≡ 4) ⊎ (status ≡ 6) → ServesTo Came kept told held now before after r → ServeRun Came told held now status
served_for Came kept told held now before after (Ok x) status is h s = subst (λ (n : ℕ). ServeRun Came told held now n) (sym is) (done_served Came kept told held now before after x s)
served_for Came kept told held now before after (Err e) status is h s = served_with Came kept told held now before after e status is h s

starved_for : (Came : ServeAnswer → Type 0) (kept told : Type 0) (held now : List ℕ) (before after : ℕ) (r : End) (status : ℕ) → status ≡ status_for r → status ≡ 5 → ServesTo Came kept told held now before after r → ServeStarved Came kept told held now before after
starved_for Came kept told held now before after (Ok x) status is five s = absurd (omega (arith, is, five))
starved_for Came kept told held now before after (Err e) status is five s = starved_with Came kept told held now before after e (sym is ∙ five) s

serves_for : (r : End) (status : ℕ) → status ≡ status_for r → IsServeEnd r → (status ≡ 0) ⊎ (status ≡ 4) ⊎ (status ≡ 5) ⊎ (status ≡ 6)
serves_for (Ok x) status is s = inl is
serves_for (Err e) status is s = serves_with e status is s

rose_for : (before now : ℕ) (r : End) (status : ℕ) → status ≡ status_for r → status ≡ 6 → CountsFront before now r → Rose before now
rose_for before now (Ok x) status is six c = absurd (omega (arith, is, six))
rose_for before now (Err e) status is six c = front_rose before now e (sym is ∙ six) c

stays_for : (before now : ℕ) (r : End) (status : ℕ) → status ≡ status_for r → status ≡ 0 → CountsFront before now r → now ≡ before
stays_for before now (Ok x) status is zero c = c
stays_for before now (Err e) status is zero c = absurd (never_0 e (sym is ∙ zero))

module _ {F H L O : Type 0} (f : FrontMembers F H L) (h : HallMembers H L) (l : LinkMembers L) (o : SinkMembers O) (services : List Entry) (words : List (List ℕ)) where
  -- nothing was asked of the front, nor of the output where links were asked for
  pub data_serves : (status : ℕ) (front : F) (out wrote : O) → AreLawful services → (IsServing words → (status ≡ 5) × (wrote ≡ out)) → status ≢ 6 → ServesWords f h l o services words status front front out wrote
  data_serves status front out wrote lawful five other = record {
    served = λ s w z. absurd (not_of_serve status (five (s, w)).0 z);
    starved = λ s w z. record {
      answer = Memory;
      came = record { opened = []; tells = λ t. t; gave = λ t. refl; took_back = λ t. sym (append-nil (f.halls front)); counts = refl };
      starved = refl;
      nothing = λ is. (five (s, w)).1;
      written = inl (λ t. ap o.held (five (s, w)).1 ∙ sym (append-nil (o.held out)));
    };
    lawful = lawful;
    serving = λ s. inr (inr (inl (five s).0));
    front_fault = λ six. absurd (other six);
    no_front_fault = λ zero. refl;
    unasked = λ none. (refl, other);
  }

  -- nothing was asked of either, because memory ran out
  pub kept_serves : (status : ℕ) (front back : F) (out wrote : O) → AreLawful services → back ≡ front → wrote ≡ out → status ≡ 5 → ServesWords f h l o services words status front back out wrote
  kept_serves status front back out wrote lawful same kept five =
      subst (λ (x : F). ServesWords f h l o services words status front x out wrote) (sym same) (data_serves status front out wrote lawful (λ s. (five, kept)) (λ six. absurd (omega (arith, five, six))))

  -- links were served
  pub links_serve : (s : ServeOptions) (w : ReadsServe words s) (r : End) (status : ℕ) (front back : F) (out wrote : O) → status ≡ status_for r → ServesTo (Serves f h l services s.port s.workers s.each front back) (wrote ≡ out) (o.tells wrote) (o.held out) (o.held wrote) (o.faults out) (o.faults wrote) r → AreLawful services → IsServeEnd r → CountsFront (f.faults front) (f.faults back) r → ServesWords f h l o services words status front back out wrote
  links_serve s w r status front back out wrote is came lawful ends counts = record {
    served = λ p v z. served_for _ _ _ _ _ _ _ r status is z (by p v);
    starved = λ p v z. starved_for _ _ _ _ _ _ _ r status is z (by p v);
    lawful = lawful;
    serving = λ z. serves_for r status is ends;
    front_fault = λ six. rose_for _ _ r status is six counts;
    no_front_fault = λ zero. stays_for _ _ r status is zero counts;
    unasked = λ none. absurd (none (s, w));
  }
    where
      by : (p : ServeOptions) → ReadsServe words p → ServesTo (Serves f h l services p.port p.workers p.each front back) (wrote ≡ out) (o.tells wrote) (o.held out) (o.held wrote) (o.faults out) (o.faults wrote) r
      by p v = served_again f h l services front back (wrote ≡ out) (o.tells wrote) (o.held out) (o.held wrote) (o.faults out) (o.faults wrote) r s p (one_serving words s p w v) came

  -- from streams that are as they were
  pub serves_from : (status : ℕ) (front back : F) (was out wrote : O) → out ≡ was → ServesWords f h l o services words status front back out wrote → ServesWords f h l o services words status front back was wrote
  serves_from status front back was out wrote same s = subst (λ (x : O). ServesWords f h l o services words status front back x wrote) same s

  -- the same of a status that is this one
  pub serves_again : (n m : ℕ) (front back : F) (out wrote : O) → m ≡ n → ServesWords f h l o services words n front back out wrote → ServesWords f h l o services words m front back out wrote
  serves_again n m front back out wrote is s = subst (λ (k : ℕ). ServesWords f h l o services words k front back out wrote) (sym is) s

module _ {I O E : Type 0} (i : SourceMembers I) (o : SinkMembers O) (e : SinkMembers E) (words : List (List ℕ)) where
  pub ends_from : (status : ℕ) (came input rest : I) (was out wrote : O) (had err told : E) → input ≡ came → out ≡ was → err ≡ had → Ends i o e words status input rest out wrote err told → Ends i o e words status came rest was wrote had told
  ends_from status came input rest was out wrote had err told a b c s =
      subst (λ (x : E). Ends i o e words status came rest was wrote x told) c
      (subst (λ (x : O). Ends i o e words status came rest x wrote err told) b (subst (λ (x : I). Ends i o e words status x rest out wrote err told) a s))

  pub ends_again : (n m : ℕ) (input rest : I) (out wrote : O) (err told : E) → m ≡ n → Ends i o e words n input rest out wrote err told → Ends i o e words m input rest out wrote err told
  ends_again n m input rest out wrote err told is s = subst (λ (k : ℕ). Ends i o e words k input rest out wrote err told) (sym is) s

-- the same of services that are these
pub serves_by : {F H L O : Type 0} (f : FrontMembers F H L) (h : HallMembers H L) (l : LinkMembers L) (o : SinkMembers O) (given services : List Entry) (words : List (List ℕ)) (status : ℕ) (front back : F) (out wrote : O) → given ≡ services → ServesWords f h l o given words status front back out wrote → ServesWords f h l o services words status front back out wrote
serves_by f h l o given services words status front back out wrote is s = subst (λ (x : List Entry). ServesWords f h l o x words status front back out wrote) is s
