use Rattle.std.proofs.lemmas.Result.{err_from_is_err_and}
use Rattle.amf_io.specs.Cursor.{source_of, place, bound, unread}
use Rattle.amf_commands.specs.declared.content.Content.{Content as KeptContent}
use Rattle.amf_commands.specs.declared.format.Format.TheVariants.{Sol}
use Rattle.amf_commands.specs.Content.{content_of}
use Rattle.amf_commands.specs.Input.{one}
use Rattle.amf_commands.specs.Run.{IsInputOf}
use Rattle.amf_commands.proofs.Inputs.{file_ends, file_read, end_of_input, left_behind, nothing_left, taken_by}
use Rattle.amf_commands.proofs.reading.read_file.Goals as goal

pub returns-in_err-file-clause-reads : goal.returns-in_err-file-clause-reads
returns-in_err-file-clause-reads g c = λ told.
    let left = g.S.Source.left in
    let y = g.S.Source.tells (source_of c.args.cursor.now).now in
    let old = c.args.cursor.now in
    let new = c.read_sol_keyed.new.cursor in
    let e = c.in_err-file.field-0.0 in
    let Q = λ (x : KeptContent). IsInputOf Sol (content_of x) (unread left old) in
    let p = err_from_is_err_and c.from_residual.result c.from_residual.ensures.1 in
    rw (p.1, p.2) (end_of_input (one Sol) Q Q (unread left old) (unread left new) (left (source_of new).now) e
    (file_ends Q y (unread left old) (unread left new) (place old) (place new) (bound old) e told c.requires.at_start c.requires.limit c.in_err-file.ensures.answers)
    (left_behind g.S.Source.tells left g.S.Source.faults old new e c.in_err-file.ensures.goes))

pub returns-in_err-file-clause-taken : goal.returns-in_err-file-clause-taken
returns-in_err-file-clause-taken g c = λ told. taken_by g.S.Source.tells g.S.Source.left g.S.Source.faults c.args.cursor.now c.read_sol_keyed.new.cursor _ c.requires.at_start c.requires.limit c.in_err-file.ensures.goes told

pub returns-clause-reads : goal.returns-clause-reads
returns-clause-reads g c = λ told.
    let left = g.S.Source.left in
    let y = g.S.Source.tells (source_of c.args.cursor.now).now in
    let old = c.args.cursor.now in
    let new = c.read_sol_keyed.new.cursor in
    let r = c.in_ok-file.ensures.answers in
    (file_read y c.in_ok-file.file (unread left old) (unread left new) (place old) (place new) (bound old) told c.requires.at_start c.requires.limit r, nothing_left left new (r.ended told))

pub returns-clause-spelled : goal.returns-clause-spelled
returns-clause-spelled g c = let r = c.in_ok-file.ensures.answers in (r.fields, r.spelled)

pub returns-clause-taken : goal.returns-clause-taken
returns-clause-taken g c = λ told. taken_by g.S.Source.tells g.S.Source.left g.S.Source.faults c.args.cursor.now c.read_sol_keyed.new.cursor _ c.requires.at_start c.requires.limit c.in_ok-file.ensures.goes told
