use Rattle.std.proofs.Common.{◌≡◌, ◌∙◌, ap, subst, arith, List, take}
use Rattle.std.specs.List.{AllByRecursion}
use Rattle.std.specs.Str.{IsUtf8}
use Rattle.std.proofs.lemmas.List.{take_all}
use Rattle.amf_options.specs.Words.{Text, texts}
use Rattle.amf_commands.proofs.Asked.{answer_reads, answer_none}
use Rattle.amf_commands.proofs.command.Task.of.Goals as goal

pub returns-clause-reads : goal.returns-clause-reads
returns-clause-reads c =
    let words : List Text = c.args.words.now in
    let all : take c.loop-word.word-index words ≡ words = take_all c.loop-word.word-index words (omega arith) in
    answer_reads c.asked.result (texts c.as_slice.result.now) words (ap texts c.as_slice.ensures.value ∙ c.loop-word.invariant.same ∙ all)
    (subst (λ (ws : List Text). AllByRecursion IsUtf8 ws) all c.loop-word.invariant.utf8) c.asked.ensures.reads

pub returns-clause-none : goal.returns-clause-none
returns-clause-none c =
    let words : List Text = c.args.words.now in
    let all : take c.loop-word.word-index words ≡ words = take_all c.loop-word.word-index words (omega arith) in
    answer_none c.asked.result (texts c.as_slice.result.now) words (ap texts c.as_slice.ensures.value ∙ c.loop-word.invariant.same ∙ all) c.asked.ensures.none
