use Rattle.std.proofs.Common.{sym, subst}
use Rattle.amf3_write.proofs.Wrote.{on_ok}
use Rattle.amf0_spelling.specs.TableParts0.{shown_tables}
use Rattle.amf0_read.specs.Frames0.{state_in}
use Rattle.amf_sol.specs.FileReading.{AreOfFormat, AnswersPair}
use Rattle.amf_sol.proofs.FormatTables.{still_of_format, ready_with, answers_with}
use Rattle.amf_sol.proofs.pairs.read_pair.Goals as goal

pub returns-in-Amf0-clause-answers : goal.returns-in-Amf0-clause-answers
returns-in-Amf0-clause-answers g c =
    let S = g.S.Source in
    let old = state_in c.args.builder.now c.args.tables.now in
    let new = state_in c.read_pair0.new.builder c.read_pair0.new.tables in
    subst (λ v. AnswersPair S.tells S.left v old new c.args.cursor.now c.read_pair0.new.cursor c.read_pair0.result) (sym c.in-Amf0.is) c.read_pair0.ensures.answers

pub returns-in-Amf0-clause-format : goal.returns-in-Amf0-clause-format
returns-in-Amf0-clause-format g c = on_ok c.read_pair0.result (λ r. subst (λ v. AreOfFormat v (shown_tables c.read_pair0.new.tables)) (sym c.in-Amf0.is) tt) c.read_pair0.ensures.ready

pub read_pair3-requires-clause-ready : goal.read_pair3-requires-clause-ready
read_pair3-requires-clause-ready g c = c.requires.ready.amf3

pub returns-in-Amf3-clause-answers : goal.returns-in-Amf3-clause-answers
returns-in-Amf3-clause-answers g c =
    let S = g.S.Source in
    answers_with c.args.version c.in-Amf3.is (shown_tables c.args.tables.now) c.requires.format S.tells S.left c.args.builder.now c.read_pair3.new.builder c.read_pair3.new.tables c.args.cursor.now c.read_pair3.new.cursor c.read_pair3.result c.read_pair3.ensures.answers

pub returns-in-Amf3-clause-ready : goal.returns-in-Amf3-clause-ready
returns-in-Amf3-clause-ready g c =
    on_ok c.read_pair3.result (λ r.
    ready_with c.args.version c.in-Amf3.is (shown_tables c.args.tables.now) c.requires.format c.read_pair3.new.builder c.read_pair3.new.tables c.read_pair3.new.cursor r) c.read_pair3.ensures.ready

pub returns-in-Amf3-clause-format : goal.returns-in-Amf3-clause-format
returns-in-Amf3-clause-format g c =
    on_ok c.read_pair3.result (λ r. still_of_format c.args.version c.in-Amf3.is (shown_tables c.args.tables.now) c.requires.format c.read_pair3.new.tables) c.read_pair3.ensures.ready
