-- How a run with `call` ends, and what it promises then.
use Rattle.std.proofs.Common.{◌≡◌, ◌≢◌, ◌⊎◌, inl, inr, ℕ, ◌+◌, ◌≤◌, List, length, Err, refl, sym, subst, arith}
use Rattle.std.proofs.lemmas.Bool.{cases_lt}
use Rattle.amf_io.specs.Outside.{Rose}
use Rattle.amf_io.specs.declared.reason.Reason.{Reason}
use Rattle.amf_io.specs.declared.source.Source.{Ghosts as SourceMembers}
use Rattle.amf_io.specs.declared.sink.Sink.{Ghosts as SinkMembers}
use Rattle.amf_io.specs.declared.dial.Dial.{Ghosts as DialMembers}
use Rattle.amf_io.specs.declared.link.Link.{Ghosts as LinkMembers}
use Rattle.amf_dial_and_call.specs.declared.answer.CallAnswer.{CallAnswer}
use Rattle.amf_dial_and_call.specs.declared.answer.CallAnswer.TheVariants.{Graph as Given, Fault, BadReply, LinkFault, NotArgs, NoSpelling, Memory}
use Rattle.amf_dial_and_call.specs.Called.{Counts}
use Rattle.amf_commands.specs.declared.command.CallOptions.{CallOptions}
use Rattle.amf_commands.specs.declared.command.Command.TheVariants.{Canon}
use Rattle.amf_commands.specs.declared.command.Task.TheVariants.{Call}
use Rattle.amf_commands.specs.declared.format.Format.TheVariants.{Amf3}
use Rattle.amf_commands.specs.declared.run_end.RunEnd.{RunEnd}
use Rattle.amf_commands.specs.declared.run_end.RunEnd.TheVariants.{Refused, Usage, ReadFault, WriteFault, NoMemory, FrontFault, NoForm}
use Rattle.amf_commands.specs.Commands.{ReadsCall, IsDialling, IsListening, IsServing}
use Rattle.amf_commands.specs.Content.{value}
use Rattle.amf_commands.specs.Input.{most, one, IsAcceptedAs, IsRefusedAs}
use Rattle.amf_commands.specs.Lines.{status_of, line_of}
use Rattle.amf_commands.specs.Run.{IsReadEnd, ReadsInput, NeverLacks}
use Rattle.amf_commands.proofs.Asked.{bytes_is_no_dialling, call_is_no_flv, call_is_no_output, call_is_no_rtmp, call_is_no_serving, dialling_is_no_serving, listener_is_no_call, one_call}
use Rattle.amf_commands.proofs.Spelled.{once, never_refused}
use Rattle.amf_cli.specs.CallEnds.{AnswerEnds, CallEnds, unread, answered, Starves}
use Rattle.amf_cli.specs.CallSteps.{CallCounts}
use Rattle.amf_cli.specs.CallsWords.{CallsWords}
use Rattle.amf_cli.specs.Ends.{Ends}
use Rattle.amf_cli.specs.Told.{Tells}

-- The statuses of a call: with 0 and 4 the output was asked, and with the others it was kept.
data CallStatus (status : ℕ) (kept : Type 0) : Type 0 where
  printed : (status ≡ 0) ⊎ (status ≡ 4) → CallStatus status kept
  judged_before : (status ≡ 1) ⊎ (status ≡ 3) → kept → CallStatus status kept
  starved : status ≡ 5 → kept → CallStatus status kept
  told_only : 7 ≤ status → status ≤ 10 → kept → CallStatus status kept

-- the same where the input was read
data AnswerStatus (status : ℕ) (kept : Type 0) : Type 0 where
  printed_it : (status ≡ 0) ⊎ (status ≡ 4) → AnswerStatus status kept
  starved_it : status ≡ 5 → kept → AnswerStatus status kept
  told_it : 7 ≤ status → status ≤ 10 → kept → AnswerStatus status kept

module _ (status : ℕ) (kept : Type 0) where
  at_most_10 : CallStatus status kept → status ≤ 10
  at_most_10 (printed (inl h)) = omega (arith, h)
  at_most_10 (printed (inr h)) = omega (arith, h)
  at_most_10 (judged_before (inl h) k) = omega (arith, h)
  at_most_10 (judged_before (inr h) k) = omega (arith, h)
  at_most_10 (starved h k) = omega (arith, h)
  at_most_10 (told_only a b k) = b

  not_usage : CallStatus status kept → status ≡ 2 → ⊥
  not_usage (printed (inl h)) two = omega (arith, h, two)
  not_usage (printed (inr h)) two = omega (arith, h, two)
  not_usage (judged_before (inl h) k) two = omega (arith, h, two)
  not_usage (judged_before (inr h) k) two = omega (arith, h, two)
  not_usage (starved h k) two = omega (arith, h, two)
  not_usage (told_only a b k) two = omega (arith, a, two)

  not_6 : CallStatus status kept → status ≡ 6 → ⊥
  not_6 (printed (inl h)) six = omega (arith, h, six)
  not_6 (printed (inr h)) six = omega (arith, h, six)
  not_6 (judged_before (inl h) k) six = omega (arith, h, six)
  not_6 (judged_before (inr h) k) six = omega (arith, h, six)
  not_6 (starved h k) six = omega (arith, h, six)
  not_6 (told_only a b k) six = omega (arith, a, six)

  not_printed : (status ≡ 0) ⊎ (status ≡ 4) → (status ≡ 1) ⊎ (status ≡ 2) ⊎ (status ≡ 3) ⊎ (7 ≤ status) → ⊥
  not_printed (inl h) (inl a) = omega (arith, h, a)
  not_printed (inl h) (inr (inl a)) = omega (arith, h, a)
  not_printed (inl h) (inr (inr (inl a))) = omega (arith, h, a)
  not_printed (inl h) (inr (inr (inr a))) = omega (arith, h, a)
  not_printed (inr h) (inl a) = omega (arith, h, a)
  not_printed (inr h) (inr (inl a)) = omega (arith, h, a)
  not_printed (inr h) (inr (inr (inl a))) = omega (arith, h, a)
  not_printed (inr h) (inr (inr (inr a))) = omega (arith, h, a)

  keeps : CallStatus status kept → (status ≡ 1) ⊎ (status ≡ 2) ⊎ (status ≡ 3) ⊎ (7 ≤ status) → kept
  keeps (printed h) a = absurd (not_printed h a)
  keeps (judged_before h k) a = k
  keeps (starved h k) a = k
  keeps (told_only x y k) a = k

  keeps_at_5 : CallStatus status kept → status ≡ 5 → kept
  keeps_at_5 (printed (inl h)) five = absurd (omega (arith, h, five))
  keeps_at_5 (printed (inr h)) five = absurd (omega (arith, h, five))
  keeps_at_5 (judged_before h k) five = k
  keeps_at_5 (starved h k) five = k
  keeps_at_5 (told_only x y k) five = k

  not_refused : AnswerStatus status kept → status ≡ 1 → ⊥
  not_refused (printed_it (inl h)) is_1 = omega (arith, h, is_1)
  not_refused (printed_it (inr h)) is_1 = omega (arith, h, is_1)
  not_refused (starved_it h k) is_1 = omega (arith, h, is_1)
  not_refused (told_it a b k) is_1 = omega (arith, a, is_1)

  as_call : AnswerStatus status kept → CallStatus status kept
  as_call (printed_it h) = printed h
  as_call (starved_it h k) = starved h k
  as_call (told_it a b k) = told_only a b k

module _ {O E : Type 0} (o : SinkMembers O) (e : SinkMembers E) (out wrote : O) (err told : E) where
  abbrev Ending : CallAnswer → ℕ → Type 0
  Ending answer status = AnswerEnds o e out wrote err told answer status

  answer_status : (answer : CallAnswer) (status : ℕ) → Ending answer status → AnswerStatus status (wrote ≡ out)
  answer_status (Given g) status (inl p) = printed_it (inl p.done)
  answer_status (Given g) status (inr (inl p)) = printed_it (inr p.failed)
  answer_status (Given g) status (inr (inr s)) = starved_it s.0 s.1.0
  answer_status (Fault code text) status (inl s) = told_it (omega (arith, s.0)) (omega (arith, s.0)) s.1.0
  answer_status (Fault code text) status (inr s) = starved_it s.0 s.1.0
  answer_status (BadReply number) status s = told_it (omega (arith, s.0)) (omega (arith, s.0)) s.1.0
  answer_status LinkFault status s = told_it (omega (arith, s.0)) (omega (arith, s.0)) s.1.0
  answer_status NotArgs status s = told_it (omega (arith, s.0)) (omega (arith, s.0)) s.1.0
  answer_status (NoSpelling l) status s = told_it (omega (arith, s.0)) (omega (arith, s.0)) s.1.0
  answer_status Memory status s = starved_it s.0 s.1.0

  -- the dial's count rose with 10, and else it stays

  rose_at_10 : (answer : CallAnswer) (status before now : ℕ) → Ending answer status → status ≡ 10 → Counts before now answer → Rose before now
  rose_at_10 (Given g) status before now (inl p) ten c = absurd (omega (arith, p.done, ten))
  rose_at_10 (Given g) status before now (inr (inl p)) ten c = absurd (omega (arith, p.failed, ten))
  rose_at_10 (Given g) status before now (inr (inr s)) ten c = absurd (omega (arith, s.0, ten))
  rose_at_10 (Fault code text) status before now (inl s) ten c = absurd (omega (arith, s.0, ten))
  rose_at_10 (Fault code text) status before now (inr s) ten c = absurd (omega (arith, s.0, ten))
  rose_at_10 (BadReply number) status before now s ten c = absurd (omega (arith, s.0, ten))
  rose_at_10 LinkFault status before now s ten c = c.1
  rose_at_10 NotArgs status before now s ten c = absurd (omega (arith, s.0, ten))
  rose_at_10 (NoSpelling l) status before now s ten c = absurd (omega (arith, s.0, ten))
  rose_at_10 Memory status before now s ten c = absurd (omega (arith, s.0, ten))

  steady_but_10 : (answer : CallAnswer) (status before now : ℕ) → Ending answer status → status ≢ 10 → Counts before now answer → now ≡ before
  steady_but_10 (Given g) status before now s other c = c
  steady_but_10 (Fault code text) status before now s other c = c
  steady_but_10 (BadReply number) status before now s other c = c
  steady_but_10 LinkFault status before now s other c = absurd (other s.0)
  steady_but_10 NotArgs status before now s other c = c
  steady_but_10 (NoSpelling l) status before now s other c = c
  steady_but_10 Memory status before now s other c = c

-- By the meanings of all.
module _ {I O E D L : Type 0} (i : SourceMembers I) (o : SinkMembers O) (e : SinkMembers E) (d : DialMembers D L) (l : LinkMembers L) where
  -- the input was not read whole, so nothing was dialled
  pub judged : {X : Type 0} (P : X → Type 0) (options : CallOptions) (x : RunEnd) (status : ℕ) (input rest : I) (out : O) (err told : E) (dial : D) → status ≡ status_of x → (i.tells input → ReadsInput (one Amf3) NeverLacks P (i.left input) (i.left rest) (Err x)) → IsReadEnd {T = X} (Err x) → Tells e err told (line_of x)
      → CallEnds i o e d l options status input rest out out err told dial dial
  unfolding line_of
  judged P options (Refused f) status input rest out err told dial is reads ends line = unread refl (inl (record { refused = is; refusal = f; verdict = reads; line = (refl, line) }))
  judged P options Usage status input rest out err told dial is reads ends line = absurd ends
  judged P options ReadFault status input rest out err told dial is reads ends line = unread refl (inr (inl (record { failed = is; hidden = reads; line = (refl, line) })))
  judged P options WriteFault status input rest out err told dial is reads ends line = absurd ends
  judged P options NoMemory status input rest out err told dial is reads ends line = unread refl (inr (inr (is, (refl, line))))
  judged P options FrontFault status input rest out err told dial is reads ends line = absurd ends
  judged P options (NoForm v k) status input rest out err told dial is reads ends line = absurd ends

  module _ (words : List (List ℕ)) (status : ℕ) (input rest : I) (out wrote : O) (err told : E) (dial : D) where
    -- nothing was asked of the dial
    pub data_calls : (8 ≤ status → IsDialling words) → (IsDialling words → Starves o e out wrote err told status) → CallsWords i o e d l words status input rest out wrote err told dial dial
    data_calls from starves = record {
      uncalled = λ none. (refl, at_most none);
      called = λ options w. unread refl (inr (inr (starves (inl (options, w)))));
      accepted = λ c t a is_1. let five = (starves (inl c)).0 in omega (arith, five, is_1);
      not_accepted = λ c t reason at q. inr (inr (starves (inl c)).0);
      link_fault = λ ten. let five = (starves (from (omega (arith, ten)))).0 in absurd (omega (arith, five, ten));
      no_link_fault = λ n k. refl;
    }
      where
        at_most : (IsDialling words → ⊥) → status ≤ 7
        at_most none = elim (cases_lt status 8) [ inl h ↦ omega (arith, h) | inr h ↦ absurd (none (from h)) ]

    -- links were served
    pub link_calls : IsServing words → Ends i o e words status input rest out wrote err told → CallsWords i o e d l words status input rest out wrote err told dial dial
    link_calls w ends = data_calls ends.of_peer (λ k. absurd (dialling_is_no_serving words w k))

    module _ (back : D) (options : CallOptions) (w : ReadsCall words options) (ends : CallEnds i o e d l options status input rest out wrote err told dial back) where
      call_status : CallStatus status (wrote ≡ out)
      call_status = by ends
        where
          by : CallEnds i o e d l options status input rest out wrote err told dial back → CallStatus status (wrote ≡ out)
          by (unread same (inl r)) = judged_before (inl r.refused) r.line.0
          by (unread same (inr (inl h))) = judged_before (inr h.failed) h.line.0
          by (unread same (inr (inr s))) = starved s.0 s.1.0
          by (answered a) = as_call status (wrote ≡ out) (answer_status o e out wrote err told a.answer status a.ends)

      call_accepted : (t : i.tells input) → IsAcceptedAs (one Amf3) (i.left input) → status ≡ 1 → ⊥
      call_accepted t a one_is = by ends
        where
          by : CallEnds i o e d l options status input rest out wrote err told dial back → ⊥
          by (unread same (inl r)) = once (Canon Amf3 Amf3) (i.left input) a r.refusal.reason r.refusal.at (r.verdict t)
          by (unread same (inr (inl h))) = omega (arith, h.failed, one_is)
          by (unread same (inr (inr s))) = omega (arith, s.0, one_is)
          by (answered x) = not_refused status (wrote ≡ out) (answer_status o e out wrote err told x.answer status x.ends) one_is

      call_not_accepted : (t : i.tells input) (reason : Reason) (at : ℕ) → IsRefusedAs (one Amf3) (i.left input) reason at → (status ≡ 1) ⊎ (status ≡ 3) ⊎ (status ≡ 5)
      call_not_accepted t reason at q = by ends
        where
          by : CallEnds i o e d l options status input rest out wrote err told dial back → (status ≡ 1) ⊎ (status ≡ 3) ⊎ (status ≡ 5)
          by (unread same (inl r)) = inl r.refused
          by (unread same (inr (inl h))) = inr (inl h.failed)
          by (unread same (inr (inr s))) = inr (inr s.0)
          by (answered x) = absurd (never_refused Amf3 (value x.args) (i.left input) reason at (x.spelled t) q)

      call_rose : status ≡ 10 → Rose (d.faults dial) (d.faults back)
      call_rose ten = by ends
        where
          by : CallEnds i o e d l options status input rest out wrote err told dial back → Rose (d.faults dial) (d.faults back)
          by (unread same (inl r)) = let h = r.refused in absurd (omega (arith, h, ten))
          by (unread same (inr (inl h))) = let k = h.failed in absurd (omega (arith, k, ten))
          by (unread same (inr (inr s))) = let k = s.0 in absurd (omega (arith, k, ten))
          by (answered x) = rose_at_10 o e out wrote err told x.answer status _ _ x.ends ten x.counts

      call_steady : status ≢ 10 → d.faults back ≡ d.faults dial
      call_steady other = by ends
        where
          by : CallEnds i o e d l options status input rest out wrote err told dial back → d.faults back ≡ d.faults dial
          by (unread same r) = subst (λ (x : D). d.faults x ≡ d.faults dial) (sym same) refl
          by (answered x) = steady_but_10 o e out wrote err told x.answer status _ _ x.ends other x.counts

      pub call_not_6 : status ≢ 6
      call_not_6 six = not_6 status (wrote ≡ out) call_status six

      -- a call was made, or not
      pub call_calls : CallsWords i o e d l words status input rest out wrote err told dial back
      call_calls = record {
        uncalled = λ none. absurd (none (inl (options, w)));
        called = λ other v. subst (λ (x : CallOptions). CallEnds i o e d l x status input rest out wrote err told dial back) (one_call words options other w v) ends;
        accepted = λ c t a one_is. call_accepted t a one_is;
        not_accepted = λ c t reason at q. call_not_accepted t reason at q;
        link_fault = call_rose;
        no_link_fault = λ other k. call_steady other;
      }

      call_links : IsServing words ⊎ IsListening words → ⊥
      call_links (inl s) = call_is_no_serving words s (options, w)
      call_links (inr s) = listener_is_no_call words (options, w) s

      pub call_ends : CallCounts status (i.faults input) (i.faults rest) (o.faults out) (o.faults wrote) (e.faults err) (e.faults told) → (i.tells input → length (i.left input) ≤ length (i.left rest) + (most + 1)) → Ends i o e words status input rest out wrote err told
      call_ends counts taken = record {
        statuses = at_most_10 status (wrote ≡ out) call_status;
        of_peer = λ h. inl (options, w);
        usage = λ two. absurd (not_usage status (wrote ≡ out) call_status two);
        no_reading = λ none. absurd (none (Call options, w));
        read = λ two five. (Call options, w);
        unread = λ none. absurd (none (Call options, w));
        done = λ c v zero t. absurd (call_is_no_output words c v (options, w));
        again = λ c v zero t u own. absurd (call_is_no_output words c v (options, w));
        no_read_fault = λ n m. counts.no_read_fault n;
        no_write_fault = λ n m. counts.writes.0 n;
        counted = counts.counted;
        refused = λ c v one_is t. absurd (call_is_no_output words c v (options, w));
        read_fault = counts.read_fault;
        hidden = λ c v three t. absurd (call_is_no_output words c v (options, w));
        write_fault = counts.writes.1;
        front = λ c v four t. absurd (call_is_no_output words c v (options, w));
        accepted = λ c v t a. absurd (call_is_no_output words c v (options, w));
        not_accepted = λ c v t reason at q. absurd (call_is_no_output words c v (options, w));
        no_form = λ c v seven t. absurd (call_is_no_output words c v (options, w));
        alone = λ c v seven. absurd (call_is_no_output words c v (options, w));
        formed = λ c v t bytes m. absurd (call_is_no_output words c v (options, w));
        lacking = λ c v t number k n. absurd (call_is_no_output words c v (options, w));
        untaken = λ c v n. absurd (call_is_no_output words c v (options, w));
        reading = λ c v h. absurd (call_is_no_output words c v (options, w));
        links = λ s. absurd (call_links s);
        untouched = λ h m n. keeps status (wrote ≡ out) call_status h;
        unwritten = λ five n m k. keeps_at_5 status (wrote ≡ out) call_status five;
        taken = λ t m b. taken t;
        bytes = λ v. absurd (bytes_is_no_dialling words (inl (options, w)) v);
        flv = λ job v. absurd (call_is_no_flv words job v (options, w));
        rtmp = λ size v. absurd (call_is_no_rtmp words size v (options, w));
        line = λ t s m n b. absurd (n (inl (options, w)));
      }

  -- The same from streams that are these.

  pub calls_from : (words : List (List ℕ)) (status : ℕ) (came input rest : I) (was out wrote : O) (had err told : E) (dial back : D) → input ≡ came → out ≡ was → err ≡ had → CallsWords i o e d l words status input rest out wrote err told dial back → CallsWords i o e d l words status came rest was wrote had told dial back
  calls_from words status came input rest was out wrote had err told dial back a b c s =
      subst (λ (x : E). CallsWords i o e d l words status came rest was wrote x told dial back) c
      (subst (λ (x : O). CallsWords i o e d l words status came rest x wrote err told dial back) b (subst (λ (x : I). CallsWords i o e d l words status x rest out wrote err told dial back) a s))

  pub calls_again : (words : List (List ℕ)) (n m : ℕ) (input rest : I) (out wrote : O) (err told : E) (dial back : D) → m ≡ n → CallsWords i o e d l words n input rest out wrote err told dial back → CallsWords i o e d l words m input rest out wrote err told dial back
  calls_again words n m input rest out wrote err told dial back is s = subst (λ (k : ℕ). CallsWords i o e d l words k input rest out wrote err told dial back) (sym is) s

  -- memory was wanting before anything was asked
  pub memory_calls : (words : List (List ℕ)) (status : ℕ) (came input : I) (was out : O) (had err told : E) (dial back : D) → status ≡ 5 → input ≡ came → out ≡ was → err ≡ had → back ≡ dial → Tells e err told (line_of NoMemory) → CallsWords i o e d l words status came input was out had told dial back
  memory_calls words status came input was out had err told dial back five a b c same line =
      subst (λ (x : D). CallsWords i o e d l words status came input was out had told dial x) (sym same)
      (calls_from words status came input input was out out had err told dial dial a b c (data_calls words status input input out out err told dial (λ h. absurd (omega (arith, five, h))) (λ k. (five, (refl, line)))))
