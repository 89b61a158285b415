-- The text is taken whole, or it is longer than a text may be, or a read failed.
use Rattle.std.proofs.Common.{◌≤◌, ◌∙◌, Bool, subst}
use Rattle.amf_io.specs.Outside.{Rose}
use Rattle.amf_io.specs.Cursor.{source_of, place, bound, unread}
use Rattle.amf_bytes.specs.TextSteps.{TakesText}
use Rattle.amf_bytes.proofs.Taken.{taken, nothing_left, left_behind, whole_by, longer_by, hidden_by, ended_by, too_large_by, fault_by, fault_counts, none_ahead_after}
use Rattle.amf_bytes.proofs.taking.whole_text.Goals as goal

pub returns-in-Ok-true-clause-takes : goal.returns-in-Ok-true-clause-takes
returns-in-Ok-true-clause-takes g c = λ told.
    let left = g.S.Source.left in
    let old = c.args.cursor.now in
    whole_by (unread left old) (place old) (bound old) c.requires.at_start c.requires.limit _ c.new-text.ensures.items (unread left c.take_into.new.self) c.take_into.new.out.items (unread left c.at_end.new.self) _ c.in-Ok-true.field-0
    (c.in-Ok.ensures.gives told) (c.in-Ok-true.ensures.gives (c.in-Ok.ensures.tells told)) c.in-Ok-true.field-0-test (nothing_left left c.at_end.new.self)

pub returns-in-Ok-true-clause-taken : goal.returns-in-Ok-true-clause-taken
returns-in-Ok-true-clause-taken g c = λ told.
    taken g.S.Source.left c.args.cursor.now c.at_end.new.self c.requires.at_start (c.at_end.ensures.bound ∙ c.take_into.ensures.bound ∙ c.requires.limit)
    (c.at_end.ensures.total (c.take_into.ensures.tells told) ∙ c.take_into.ensures.total told) c.at_end.ensures.ahead

pub returns-in-Ok-false-clause-takes : goal.returns-in-Ok-false-clause-takes
returns-in-Ok-false-clause-takes g c = λ told.
    let left = g.S.Source.left in
    let old = c.args.cursor.now in
    longer_by (unread left old) (place old) (bound old) c.requires.at_start c.requires.limit _ c.new-text.ensures.items (unread left c.take_into.new.self) c.take_into.new.out.items (unread left c.at_end.new.self) _ c.in-Ok-false.field-0
    c.longer_text.result (c.in-Ok.ensures.gives told) (c.in-Ok-false.ensures.gives (c.in-Ok.ensures.tells told)) c.in-Ok-false.field-0-test c.longer_text.ensures.longer c.longer_text.ensures.memory

pub returns-in-Ok-false-clause-taken : goal.returns-in-Ok-false-clause-taken
returns-in-Ok-false-clause-taken g c = λ told.
    taken g.S.Source.left c.args.cursor.now c.at_end.new.self c.requires.at_start (c.at_end.ensures.bound ∙ c.take_into.ensures.bound ∙ c.requires.limit)
    (c.at_end.ensures.total (c.take_into.ensures.tells told) ∙ c.take_into.ensures.total told) c.at_end.ensures.ahead

pub returns-in-Err-clause-takes : goal.returns-in-Err-clause-takes
returns-in-Err-clause-takes g c = λ told.
    let left = g.S.Source.left in
    let old = c.args.cursor.now in
    hidden_by (unread left old) (place old) (bound old) c.requires.at_start c.requires.limit _ c.new-text.ensures.items (unread left c.take_into.new.self) c.take_into.new.out.items (unread left c.at_end.new.self) _ c.in-Err.field-0
    (c.in-Ok.ensures.gives told) c.in-Err.ensures.ends (c.in-Err.ensures.gives (c.in-Ok.ensures.tells told)) (λ e. left_behind left c.at_end.new.self (none_ahead_after Bool _ c.in-Err.field-0 c.in-Err.ensures.none_ahead e))

pub returns-in-Err-clause-taken : goal.returns-in-Err-clause-taken
returns-in-Err-clause-taken g c = λ told.
    taken g.S.Source.left c.args.cursor.now c.at_end.new.self c.requires.at_start (c.at_end.ensures.bound ∙ c.take_into.ensures.bound ∙ c.requires.limit)
    (c.at_end.ensures.total (c.take_into.ensures.tells told) ∙ c.take_into.ensures.total told) c.at_end.ensures.ahead

pub returns-in-Err-Ended-clause-takes : goal.returns-in-Err-Ended-clause-takes
returns-in-Err-Ended-clause-takes g c = λ told.
    let left = g.S.Source.left in
    let old = c.args.cursor.now in
    ended_by (unread left old) (place old) (bound old) c.requires.at_start c.requires.limit _ c.new-text.ensures.items (unread left c.take_into.new.self) c.take_into.new.out.items _ c.in-Err-Ended.field-0 c.in-Err-Ended.field-0-is
    (c.in-Err-Ended.ensures.gives told) (nothing_left left c.take_into.new.self)

pub returns-in-Err-Ended-clause-taken : goal.returns-in-Err-Ended-clause-taken
returns-in-Err-Ended-clause-taken g c = λ told.
    taken g.S.Source.left c.args.cursor.now c.take_into.new.self c.requires.at_start (c.take_into.ensures.bound ∙ c.requires.limit) (c.take_into.ensures.total told) c.take_into.ensures.ahead

pub returns-in-Err-TooLarge-clause-takes : goal.returns-in-Err-TooLarge-clause-takes
returns-in-Err-TooLarge-clause-takes g c = λ told.
    let left = g.S.Source.left in
    let old = c.args.cursor.now in
    too_large_by (unread left old) (place old) (bound old) c.requires.at_start c.requires.limit _ c.new-text.ensures.items
    (TakesText (unread left old) (left (source_of c.take_into.new.self).now) c.longer_text-in-Err-TooLarge.result) (unread left c.take_into.new.self) c.take_into.new.out.items c.in-Err-TooLarge.field-0 c.in-Err-TooLarge.field-0-is
    (c.in-Err-TooLarge.ensures.gives told)

pub returns-in-Err-TooLarge-clause-taken : goal.returns-in-Err-TooLarge-clause-taken
returns-in-Err-TooLarge-clause-taken g c = λ told.
    taken g.S.Source.left c.args.cursor.now c.take_into.new.self c.requires.at_start (c.take_into.ensures.bound ∙ c.requires.limit) (c.take_into.ensures.total told) c.take_into.ensures.ahead

pub returns-in-Err-ReadFault-clause-takes : goal.returns-in-Err-ReadFault-clause-takes
returns-in-Err-ReadFault-clause-takes g c = λ told.
    let left = g.S.Source.left in
    let old = c.args.cursor.now in
    fault_by (unread left old) (place old) (bound old) c.requires.at_start c.requires.limit _ c.new-text.ensures.items (unread left c.take_into.new.self) c.take_into.new.out.items _ c.in-Err-ReadFault.field-0 c.in-Err-ReadFault.field-0-is
    (c.in-Err-ReadFault.ensures.gives told) (left_behind left c.take_into.new.self (none_ahead_after (Unit {0}) _ c.in-Err-ReadFault.field-0 c.in-Err-ReadFault.ensures.none_ahead c.in-Err-ReadFault.field-0-is))

pub returns-in-Err-ReadFault-clause-taken : goal.returns-in-Err-ReadFault-clause-taken
returns-in-Err-ReadFault-clause-taken g c = λ told.
    taken g.S.Source.left c.args.cursor.now c.take_into.new.self c.requires.at_start (c.take_into.ensures.bound ∙ c.requires.limit) (c.take_into.ensures.total told) c.take_into.ensures.ahead

pub returns-in-Err-Memory-clause-taken : goal.returns-in-Err-Memory-clause-taken
returns-in-Err-Memory-clause-taken g c = λ told.
    taken g.S.Source.left c.args.cursor.now c.take_into.new.self c.requires.at_start (c.take_into.ensures.bound ∙ c.requires.limit) (c.take_into.ensures.total told) c.take_into.ensures.ahead

pub returns-in-Err-clause-counts : goal.returns-in-Err-clause-counts
returns-in-Err-clause-counts g c =
    let now = g.S.Source.faults (source_of c.at_end.new.self).now in
    subst (λ n. (n ≤ now) × Rose n now) c.in-Ok.ensures.cause (fault_counts c.at_end.result c.in-Err.field-0 _ now c.in-Err.is c.at_end.ensures.ends c.at_end.ensures.cause)
