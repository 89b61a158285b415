-- How a run with `listen` ends, and what it promises then.
use Rattle.std.proofs.Common.{◌≡◌, ◌≢◌, ◌⊎◌, inl, inr, ℕ, ◌+◌, ◌≤◌, Bool, List, length, Some, refl, sym, ◌∙◌, subst, arith}
use Rattle.amf_io.specs.Outside.{Rose}
use Rattle.amf_io.specs.declared.source.Source.{Ghosts as SourceMembers}
use Rattle.amf_io.specs.declared.sink.Sink.{Ghosts as SinkMembers}
use Rattle.amf_io.specs.declared.dial.Dial.{Ghosts as DialMembers}
use Rattle.amf_io.specs.declared.link.Link.{Ghosts as LinkMembers}
use Rattle.amf_graph.specs.Graph.{Graph}
use Rattle.amf_poll_session.specs.declared.ends.ListenEnd.{ListenEnd}
use Rattle.amf_poll_session.specs.declared.ends.ListenEnd.TheVariants.{Done, Fault, BadReply, LinkFault, WriteFault, Memory}
use Rattle.amf_poll_session.specs.Listened.{CountsLost, CountsOutput, EndsAs}
use Rattle.amf_poll_session.specs.Sessions.{Turn, by_link, listen}
use Rattle.amf_poll_session.proofs.Lost.{lost_by_link}
use Rattle.amf_commands.specs.declared.command.ListenOptions.{ListenOptions}
use Rattle.amf_commands.specs.declared.command.Task.TheVariants.{Listen}
use Rattle.amf_commands.specs.declared.run_end.RunEnd.TheVariants.{NoMemory}
use Rattle.amf_commands.specs.Commands.{ReadsListen, IsListening}
use Rattle.amf_commands.specs.Input.{most}
use Rattle.amf_commands.specs.Lines.{line_of}
use Rattle.amf_commands.proofs.Asked.{bytes_is_no_dialling, listener_is_no_call, listener_is_no_flv, listener_is_no_output, listener_is_no_rtmp, one_listener}
use Rattle.amf_cli.specs.CallEnds.{Starves}
use Rattle.amf_cli.specs.CallSteps.{WritesFor}
use Rattle.amf_cli.specs.CallsWords.{CallsWords}
use Rattle.amf_cli.specs.Ends.{Ends}
use Rattle.amf_cli.specs.ListenEnds.{EndTells, ListenEnds, unheard, heard}
use Rattle.amf_cli.specs.ListensWords.{ListensWords}
use Rattle.amf_cli.specs.Told.{Tells}

-- The statuses of a listener.
data ListenStatus (status : ℕ) : Type 0 where
  finished : (status ≡ 0) ⊎ (status ≡ 4) ⊎ (status ≡ 5) → ListenStatus status
  broke_off : 8 ≤ status → status ≤ 10 → ListenStatus status

module _ (status : ℕ) where
  at_most_10 : ListenStatus status → status ≤ 10
  at_most_10 (finished (inl h)) = omega (arith, h)
  at_most_10 (finished (inr (inl h))) = omega (arith, h)
  at_most_10 (finished (inr (inr h))) = omega (arith, h)
  at_most_10 (broke_off a b) = b

  is_not : (n : ℕ) → n ≢ 0 → n ≢ 4 → n ≢ 5 → n ≤ 7 → ListenStatus status → status ≡ n → ⊥
  is_not n not_0 not_4 not_5 few (finished (inl h)) is = not_0 (sym is ∙ h)
  is_not n not_0 not_4 not_5 few (finished (inr (inl h))) is = not_4 (sym is ∙ h)
  is_not n not_0 not_4 not_5 few (finished (inr (inr h))) is = not_5 (sym is ∙ h)
  is_not n not_0 not_4 not_5 few (broke_off a b) is = omega (arith, a, is, few)

  not_2 : ListenStatus status → status ≡ 2 → ⊥
  not_2 s is = is_not 2 (λ z. absurd (omega arith)) (λ z. absurd (omega arith)) (λ z. absurd (omega arith)) (omega arith) s is

  not_3 : ListenStatus status → status ≡ 3 → ⊥
  not_3 s is = is_not 3 (λ z. absurd (omega arith)) (λ z. absurd (omega arith)) (λ z. absurd (omega arith)) (omega arith) s is

  not_6 : ListenStatus status → status ≡ 6 → ⊥
  not_6 s is = is_not 6 (λ z. absurd (omega arith)) (λ z. absurd (omega arith)) (λ z. absurd (omega arith)) (omega arith) s is

module _ {E : Type 0} (e : SinkMembers E) (err told : E) where
  end_status : (end : ListenEnd) (status : ℕ) → EndTells e err told end status → ListenStatus status
  end_status Done status s = finished (inl s.0)
  end_status (Fault code text) status (inl s) = broke_off (omega (arith, s.0)) (omega (arith, s.0))
  end_status (Fault code text) status (inr s) = finished (inr (inr s.0))
  end_status (BadReply number) status s = broke_off (omega (arith, s.0)) (omega (arith, s.0))
  end_status LinkFault status s = broke_off (omega (arith, s.0)) (omega (arith, s.0))
  end_status WriteFault status s = finished (inr (inl s.0))
  end_status Memory status s = finished (inr (inr s.0))

  -- the count of the output rose with 4, and else it stays
  pub writes_for : (end : ListenEnd) (status before now : ℕ) → EndTells e err told end status → CountsOutput before now end → WritesFor status before now
  writes_for Done status before now s c = (λ n. c, λ four. absurd (omega (arith, s.0, four)))
  writes_for (Fault code text) status before now (inl s) c = (λ n. c, λ four. absurd (omega (arith, s.0, four)))
  writes_for (Fault code text) status before now (inr s) c = (λ n. c, λ four. absurd (omega (arith, s.0, four)))
  writes_for (BadReply number) status before now s c = (λ n. c, λ four. absurd (omega (arith, s.0, four)))
  writes_for LinkFault status before now s c = (λ n. c, λ four. absurd (omega (arith, s.0, four)))
  writes_for WriteFault status before now s c = (λ n. absurd (n s.0), λ four. c.1)
  writes_for Memory status before now s c = (λ n. c, λ four. absurd (omega (arith, s.0, four)))

  -- with 10 the last dial or its link failed
  ten_is_link : (end : ListenEnd) (status : ℕ) → EndTells e err told end status → status ≡ 10 → end ≡ LinkFault
  ten_is_link Done status s ten = absurd (omega (arith, s.0, ten))
  ten_is_link (Fault code text) status (inl s) ten = absurd (omega (arith, s.0, ten))
  ten_is_link (Fault code text) status (inr s) ten = absurd (omega (arith, s.0, ten))
  ten_is_link (BadReply number) status s ten = absurd (omega (arith, s.0, ten))
  ten_is_link LinkFault status s ten = refl
  ten_is_link WriteFault status s ten = absurd (omega (arith, s.0, ten))
  ten_is_link Memory status s ten = absurd (omega (arith, s.0, ten))

-- the dial's count rose where it ended by the link
lost_at_10 : (most : ℕ) (turns : List (Turn Graph)) (end : ListenEnd) (before now : ℕ) → end ≡ LinkFault → EndsAs (listen most turns).end end → CountsLost (listen most turns).has_lost before now → Rose before now
lost_at_10 most turns end before now is ends counts =
    let by : (listen most turns).end ≡ Some by_link = subst (λ (x : ListenEnd). EndsAs (listen most turns).end x) is ends in
    (subst (λ (b : Bool). CountsLost b before now) (lost_by_link most turns by) counts).1

-- By the meanings of all.
module _ {I O E D L : Type 0} (i : SourceMembers I) (o : SinkMembers O) (e : SinkMembers E) (d : DialMembers D L) (l : LinkMembers L) where
  module _ (words : List (List ℕ)) (status : ℕ) (input : I) (out wrote : O) (err told : E) (dial : D) where
    -- nothing was asked of the dial
    pub data_listens : (IsListening words → Starves o e out wrote err told status) → ListensWords o e d l words status out wrote err told dial dial
    data_listens starves = record { heard = λ options w. unheard refl (starves (options, w)) }

    module _ (back : D) (options : ListenOptions) (w : ReadsListen words options) (ends : ListenEnds o e d l options status out wrote err told dial back) where
      listen_status : ListenStatus status
      listen_status = by ends
        where
          by : ListenEnds o e d l options status out wrote err told dial back → ListenStatus status
          by (unheard same s) = finished (inr (inr s.0))
          by (heard h) = end_status e err told h.end status h.tells

      listen_rose : status ≡ 10 → Rose (d.faults dial) (d.faults back)
      listen_rose ten = by ends
        where
          by : ListenEnds o e d l options status out wrote err told dial back → Rose (d.faults dial) (d.faults back)
          by (unheard same s) = let five = s.0 in absurd (omega (arith, five, ten))
          by (heard h) = lost_at_10 options.polls h.turns h.end (d.faults dial) (d.faults back) (ten_is_link e err told h.end status h.tells ten) h.ends h.listened.counts

      pub listen_not_6 : status ≢ 6
      listen_not_6 six = not_6 status listen_status six

      -- the gateway was listened to, or not
      pub listen_listens : ListensWords o e d l words status out wrote err told dial back
      listen_listens = record { heard = λ other v. subst (λ (x : ListenOptions). ListenEnds o e d l x status out wrote err told dial back) (one_listener words options other w v) ends }

      -- no call was made
      pub listen_calls : CallsWords i o e d l words status input input out wrote err told dial back
      listen_calls = record {
        uncalled = λ none. absurd (none (inr (options, w)));
        called = λ other v. absurd (listener_is_no_call words (other, v) (options, w));
        accepted = λ c t a one_is. listener_is_no_call words c (options, w);
        not_accepted = λ c t reason at q. absurd (listener_is_no_call words c (options, w));
        link_fault = listen_rose;
        no_link_fault = λ other k. absurd (k (options, w));
      }

      pub listen_ends : WritesFor status (o.faults out) (o.faults wrote) → e.faults err ≤ e.faults told → Ends i o e words status input input out wrote err told
      listen_ends writes counted = record {
        statuses = at_most_10 status listen_status;
        of_peer = λ h. inr (options, w);
        usage = λ two. absurd (not_2 status listen_status two);
        no_reading = λ none. absurd (none (Listen options, w));
        read = λ two five. (Listen options, w);
        unread = λ none. refl;
        done = λ c v zero t. absurd (listener_is_no_output words c v (options, w));
        again = λ c v zero t u own. absurd (listener_is_no_output words c v (options, w));
        no_read_fault = λ n m. refl;
        no_write_fault = λ n m. writes.0 n;
        counted = counted;
        refused = λ c v one_is t. absurd (listener_is_no_output words c v (options, w));
        read_fault = λ three. absurd (not_3 status listen_status three);
        hidden = λ c v three t. absurd (listener_is_no_output words c v (options, w));
        write_fault = writes.1;
        front = λ c v four t. absurd (listener_is_no_output words c v (options, w));
        accepted = λ c v t a. absurd (listener_is_no_output words c v (options, w));
        not_accepted = λ c v t reason at q. absurd (listener_is_no_output words c v (options, w));
        no_form = λ c v seven t. absurd (listener_is_no_output words c v (options, w));
        alone = λ c v seven. absurd (listener_is_no_output words c v (options, w));
        formed = λ c v t bytes m. absurd (listener_is_no_output words c v (options, w));
        lacking = λ c v t number k n. absurd (listener_is_no_output words c v (options, w));
        untaken = λ c v n. refl;
        reading = λ c v h. absurd (listener_is_no_output words c v (options, w));
        links = λ s. refl;
        untouched = λ h m n. absurd (n (options, w));
        unwritten = λ five n m k. absurd (k (options, w));
        taken = λ t m b. within_most (length (i.left input));
        bytes = λ v. absurd (bytes_is_no_dialling words (inr (options, w)) v);
        flv = λ job v. absurd (listener_is_no_flv words job v (options, w));
        rtmp = λ size v. absurd (listener_is_no_rtmp words size v (options, w));
        line = λ t s m n b. absurd (n (inr (options, w)));
      }
        where
          within_most : (n : ℕ) → n ≤ n + (most + 1)
          within_most n = omega arith

  -- The same from streams that are these.

  pub listens_from : (words : List (List ℕ)) (status : ℕ) (was out wrote : O) (had err told : E) (dial back : D) → out ≡ was → err ≡ had → ListensWords o e d l words status out wrote err told dial back → ListensWords o e d l words status was wrote had told dial back
  listens_from words status was out wrote had err told dial back b c s =
      subst (λ (x : E). ListensWords o e d l words status was wrote x told dial back) c (subst (λ (x : O). ListensWords o e d l words status x wrote err told dial back) b s)

  pub listens_again : (words : List (List ℕ)) (n m : ℕ) (out wrote : O) (err told : E) (dial back : D) → m ≡ n → ListensWords o e d l words n out wrote err told dial back → ListensWords o e d l words m out wrote err told dial back
  listens_again words n m out wrote err told dial back is s = subst (λ (k : ℕ). ListensWords o e d l words k out wrote err told dial back) (sym is) s

  -- links were served, or a call was made
  pub other_listens : (words : List (List ℕ)) (status : ℕ) (out wrote : O) (err told : E) (dial back : D) → (IsListening words → ⊥) → ListensWords o e d l words status out wrote err told dial back
  other_listens words status out wrote err told dial back none = record { heard = λ options w. absurd (none (options, w)) }

  -- memory was wanting before anything was asked
  pub memory_listens : (words : List (List ℕ)) (status : ℕ) (was out : O) (had err told : E) (dial back : D) → status ≡ 5 → out ≡ was → err ≡ had → back ≡ dial → Tells e err told (line_of NoMemory) → ListensWords o e d l words status was out had told dial back
  memory_listens words status was out had err told dial back five b c same line =
      subst (λ (x : D). ListensWords o e d l words status was out had told dial x) (sym same)
      (listens_from words status was out out had err told dial dial b c (record { heard = λ options w. unheard refl (five, (refl, line)) }))
