-- Options have one value.
use Rattle.std.proofs.Common.{◌≡◌, ◌∙◌, sym, ap, true, List, []}
use Rattle.std.specs.List.{list_all}
use Rattle.clap.specs.Walk.{first_of}
use Rattle.amf_options.specs.Words.{Text, Given, HasOptions, is_name, value_of}
use Rattle.amf_options.proofs.Clap.{first_is_value}
use Rattle.amf_options.proofs.Readings.{gives_fit, passes}

-- whatever options words give, the values are the same
pub one_value : (options words : List Text) (given also : Given) → list_all is_name options ≡ true → HasOptions options words given → HasOptions options words also → (x : Text) → value_of given x ≡ value_of also x
one_value options words g h good a b x =
    let fit = gives_fit [] options good g words [] a.0 a.1 in
    sym (first_is_value g x) ∙ ap (first_of x) (sym (passes [] options good g words [] fit a.0 a.1).1 ∙ (passes [] options good h words [] fit b.0 b.1).1) ∙ first_is_value h x
