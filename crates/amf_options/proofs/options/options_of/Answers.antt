use Rattle.std.proofs.Common.{rules, ◌≡◌, ◌∙◌, ap, subst, sym, true, [], Some, arith}
use Rattle.std.specs.List.{list_all, slice_index_or}
use Rattle.std.specs.Borrow.{Bor}
use Rattle.clap.specs.Faults.{fault_of, is_simple_and_free}
use Rattle.clap.specs.Kinds.{FailsBy}
use Rattle.clap.specs.Simple.{App, app_of, is_simple, matches_of}
use Rattle.clap.specs.Walk.{Rule, rule_of}
use Rattle.amf_options.specs.Words.{Text, is_fit, texts}
use Rattle.amf_options.proofs.Shapes.{raw_app, raw_rule, simple, simple_and_free}
use Rattle.amf_options.proofs.Clap.{fault_gives_none, one_more, tells, unfit_gives_none}
use Rattle.std.proofs.lemmas.List.{take_all}
use Rattle.amf_options.proofs.options.options_of.Goals as goal

pub returns-then-not-are_fit : goal.returns-then-not-are_fit
returns-then-not-are_fit c = unfit_gives_none c.args.name.now (texts c.args.options.now) (texts c.args.words.now) c.requires (sym c.if-not-are_fit.ensures)

pub loop-option-preserved : goal.loop-option-preserved
loop-option-preserved c =
    let d : Bor Text = record { ref_ptr = (0, 0); now = [] } in
    let x : Text = (slice_index_or c.args.options.now c.loop-option.option-index d).now in
    let rule_is : rule_of c.long-arg.result ≡ raw_rule (slice_index_or c.args.options.now c.loop-option.option-index d).now =
    ap rule_of c.long-arg.ensures ∙ ap (λ (r : Rule). record r { long = Some x }) c.new-in-loop-option.ensures.rule in
    one_more c.args.name.now c.args.options.now c.loop-option.option-index d (app_of c.loop-option.command) (app_of c.in_ok-command.command) (rule_of c.long-arg.result)
    (omega arith) c.loop-option.invariant rule_is (c.in_ok-command.ensures.shape (search rules))

pub returns-in-Ok : goal.returns-in-Ok
returns-in-Ok c =
    let name : Text = c.args.name.now in
    let is : app_of c.loop-option.command ≡ raw_app c.args.name.now (texts c.args.options.now) =
    c.loop-option.invariant ∙ ap (λ os. raw_app c.args.name.now (texts os)) (take_all c.loop-option.option-index c.args.options.now (omega arith)) in
    let fit : list_all is_fit (texts c.args.words.now) ≡ true = search rules in
    let none = c.in-Ok.ensures.kinds (ap is_simple_and_free is ∙ simple_and_free c.args.name.now (texts c.args.options.now)) in
    let rows = c.in-Ok.ensures.matches (ap is_simple is ∙ simple c.args.name.now (texts c.args.options.now)) in
    tells c.args.name.now (texts c.args.options.now) (texts c.args.words.now) c.requires fit c.in-Ok.matches
    (ap (λ (a : App). fault_of a (texts c.args.words.now)) (sym is) ∙ none) (rows.0 ∙ ap (λ (a : App). matches_of a (texts c.args.words.now)) is)

pub returns : goal.returns
returns c =
    let is : app_of c.loop-option.command ≡ raw_app c.args.name.now (texts c.args.options.now) =
    c.loop-option.invariant ∙ ap (λ os. raw_app c.args.name.now (texts os)) (take_all c.loop-option.option-index c.args.options.now (omega arith)) in
    let fit : list_all is_fit (texts c.args.words.now) ≡ true = search rules in
    let has = c.in-Err.ensures.kinds (ap is_simple_and_free is ∙ simple_and_free c.args.name.now (texts c.args.options.now)) in
    fault_gives_none c.args.name.now (texts c.args.options.now) (texts c.args.words.now) c.requires fit c.in-Err.error
    (subst (λ (a : App). Rattle.clap.specs.Kinds.HasKind (fault_of a (texts c.args.words.now)) c.in-Err.error) is has) (λ e. c.in_default.not-OutOfMemory (c.kind.ensures ∙ e))
