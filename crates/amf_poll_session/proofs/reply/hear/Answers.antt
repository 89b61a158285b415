-- A graph answers where all its parts do.
use Rattle.std.proofs.Common.{arith, ◌≡◌, ◌∙◌, rules, List, ℕ, Bool, true, false, Option, None, ap, sym}
use Rattle.amf_poll_session.specs.Requests.{message_id}
use Rattle.amf_poll_session.specs.Replies.{is_text, has_id}
use Rattle.amf_poll_session.specs.Sessions.{or_empty}
use Rattle.amf_poll_session.specs.Steps.{Delivers}
use Rattle.amf_poll_session.proofs.Hearing.{no_text, no_answer, no_id, all_heard, none_of, some_of}
use Rattle.amf_poll_session.proofs.reply.hear.Goals as goal

told_as : (r_id asked : List ℕ) (told known : Option (List ℕ)) (b : Bool) → asked ≡ r_id → told ≡ known → b ≡ is_text asked told → is_text r_id known ≡ b
told_as r_id asked told known b ea et is = ap (λ (x : List ℕ). is_text x known) (sym ea) ∙ ap (is_text asked) (sym et) ∙ sym is

pub returns-then-not-is_text-clause-hears : goal.returns-then-not-is_text-clause-hears
returns-then-not-is_text-clause-hears c =
    let b : c.is_text.result ≡ false = first_of (cc, grind arith, search rules) in
    no_text c.args.graph.now c.args.request (told_as (message_id c.args.request) c.in_ok-asked.asked c.in_ok-told.told _ c.is_text.result c.in_ok-asked.ensures.id c.in_ok-told.ensures c.is_text.ensures ∙ b)

pub returns-in_default-clause-hears : goal.returns-in_default-clause-hears
returns-in_default-clause-hears c =
    let b : c.is_text.result ≡ true = first_of (cc, grind arith, search rules) in
    let none : Delivers c.args.graph.now None = none_of c.args.graph.now c.in_ok-bodies.field-0 c.in_default.not-Some c.in_ok-bodies.ensures.delivers in
    no_answer c.args.graph.now c.args.request (told_as (message_id c.args.request) c.in_ok-asked.asked c.in_ok-told.told _ c.is_text.result c.in_ok-asked.ensures.id c.in_ok-told.ensures c.is_text.ensures ∙ b) none

pub returns-then-not-has_id-clause-hears : goal.returns-then-not-has_id-clause-hears
returns-then-not-has_id-clause-hears c =
    let b : c.is_text.result ≡ true = first_of (cc, grind arith, search rules) in
    let f : c.has_id.result ≡ false = first_of (cc, grind arith, search rules) in
    let some = some_of c.args.graph.now c.in_ok-bodies.field-0 c.in-Some.bodies c.in-Some.is c.in_ok-bodies.ensures.delivers in
    no_id c.args.graph.now c.args.request c.in-Some.bodies (told_as (message_id c.args.request) c.in_ok-asked.asked c.in_ok-told.told _ c.is_text.result c.in_ok-asked.ensures.id c.in_ok-told.ensures c.is_text.ensures ∙ b) some
    (ap (has_id c.args.request) (sym c.in_ok-found.ensures.ds_id) ∙ sym c.has_id.ensures ∙ f)

pub returns-clause-hears : goal.returns-clause-hears
returns-clause-hears c =
    let b : c.is_text.result ≡ true = first_of (cc, grind arith, search rules) in
    let f : c.has_id.result ≡ true = first_of (cc, grind arith, search rules) in
    let some = some_of c.args.graph.now c.in_ok-bodies.field-0 c.in-Some.bodies c.in-Some.is c.in_ok-bodies.ensures.delivers in
    all_heard c.args.graph.now c.args.request (record { ds_id = c.in_ok-ds_id.ds_id; bodies = c.in-Some.bodies }) (told_as (message_id c.args.request) c.in_ok-asked.asked c.in_ok-told.told _ c.is_text.result c.in_ok-asked.ensures.id c.in_ok-told.ensures c.is_text.ensures ∙ b) some
    (ap (has_id c.args.request) (sym c.in_ok-found.ensures.ds_id) ∙ sym c.has_id.ensures ∙ f) (c.in_ok-ds_id.ensures.same ∙ ap or_empty c.in_ok-found.ensures.ds_id)
